-- What a silo does with a letter that comes, by its kind.
use Rattle.std.specs.Prelude.{◌==◌, ◌&&◌, nat_le, not, is_none, Bool, if◌then◌else◌, [], ◌∷◌, Some}
use Rattle.silo_address.specs.Silo.{silo_eq}
use Rattle.silo_address.specs.declared.Entry.{Entry}
use Rattle.hash_ring.specs.Ring.{is_active_in}
use Rattle.directory_rules.specs.declared.act.Request.{Request}
use Rattle.directory_rules.specs.declared.reply.Reply.{Reply}
use Rattle.directory_rules.specs.declared.reply.Reply.TheVariants as reply
use Rattle.directory_rules.specs.declared.effect.Effect.{Effect}
use Rattle.directory_rules.specs.declared.effect.Effect.TheVariants as effect
use Rattle.directory_rules.specs.Answer.{Answered, answered}
use Rattle.directory_rules.specs.Host.{held_of, has_numbers, has_count, is_full_of_activations}
use Rattle.directory_rules.specs.State.{Body, Request_letter, Reply_letter, Ask_letter, Page_letter, Missing_letter, Done_letter, Query_letter, Report_letter, Survey_letter, Empty_letter, Behind_letter, Ahead_letter, Offer_letter, Letter, Node}
use Rattle.directory_rules.specs.Sent.{letter_to}
use Rattle.directory_rules.specs.Step.{Stepped, silently, started}
use Rattle.directory_rules.specs.Reply.{replied}
use Rattle.directory_rules.specs.Transfer.{asked, done, paged, missing, queried, reported, surveyed, emptied}

-- the effect of a request that is answered so
abbrev pub reply_effect : Reply → Effect
reply_effect (reply.Registered entry) = effect.Registered
reply_effect (reply.Taken entry) = effect.Taken
reply_effect reply.Removed = effect.Removed
reply_effect reply.Absent = effect.Absent
reply_effect (reply.Found entry) = effect.Found
reply_effect reply.Nothing = effect.Nothing
reply_effect (reply.Retry why) = effect.Retry why

-- the reply goes back, of the version that the node has seen
abbrev pub replying : Node → Request → Answered → Stepped
replying node request answered = record {
  node = record node { holding = answered.holding };
  letters = letter_to request.sender node (Reply_letter request.number answered.reply) ∷ [];
  effect = reply_effect answered.reply;
}

-- a request comes; it is the sender's, of the letter's version
abbrev pub requested : Node → Letter → Request → Stepped
requested node letter request =
    if silo_eq request.sender letter.from && (request.version == letter.version)
    then replying node request (answered node.holding request)
    else silently node effect.Ignored

-- whether the node takes an offer: it has seen the offer's version, is Active there, holds none of the grain, and has a
-- place, a number and a count left
abbrev pub takes_offer : Node → Letter → Entry → Bool
takes_offer node letter entry =
    nat_le letter.version node.view.version && is_active_in node.view node.host.silo && is_none (held_of node.host entry.grain)
    && not (is_full_of_activations node.settings node.host) && has_numbers node.settings node.host 1 && has_count node.settings node.host

-- an offer comes: an activation begins in the place of the one offered
abbrev pub offered_to : Node → Letter → Entry → Stepped
offered_to node letter entry =
    if takes_offer node letter entry then started node entry.grain (Some entry.activation) else silently node effect.Ignored

-- by what the letter says
abbrev pub received_body : Body → Node → Letter → Stepped
received_body (Request_letter request) node letter = requested node letter request
received_body (Reply_letter number reply) node letter = replied node letter.version number reply
received_body (Ask_letter range page) node letter = asked node letter range page
received_body (Page_letter page) node letter = paged node letter page
received_body (Missing_letter range) node letter = missing node letter range
received_body (Done_letter range) node letter = done node letter range
received_body (Query_letter range after) node letter = queried node letter range after
received_body (Report_letter report) node letter = reported node letter report
received_body (Survey_letter ranges) node letter = surveyed node letter ranges
received_body (Empty_letter ranges) node letter = emptied node letter ranges
received_body (Behind_letter range) node letter = silently node effect.Noted
received_body (Ahead_letter range) node letter = silently node effect.Noted
received_body (Offer_letter entry) node letter = offered_to node letter entry

-- a letter comes
abbrev pub received : Node → Letter → Stepped
received node letter = received_body letter.body node letter

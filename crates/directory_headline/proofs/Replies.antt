-- Replies that count: an asking activation becomes firm, or goes; a closing one goes.
use Rattle.std.proofs.Common.{◌≡◌, ◌≢◌, ℕ, refl, sym, ap, subst, ◌∙◌}
use Rattle.std.specs.Prelude.{true, is_some, Some, None}
use Rattle.std.specs.Option.{option_map}
use Rattle.std.proofs.lemmas.Bool.{eqb-true}
use Rattle.silo_address.specs.Silo.{Silo}
use Rattle.silo_address.specs.Grain.{Grain, grain_cmp}
use Rattle.silo_address.specs.declared.Entry.{Entry}
use Rattle.silo_address.proofs.Order.{grain_cmp_total, grain_cmp_exact}
use Rattle.directory_protocol.specs.Setting.{Setting}
use Rattle.directory_protocol.specs.Letters as letters
use Rattle.directory_protocol.specs.World as protocol
use Rattle.directory_protocol.specs.Actions.{Confirm, Leave, MayAccept}
use Rattle.directory_protocol.specs.Effects.{after}
use Rattle.directory_rules.specs.declared.held.Held.{Held}
use Rattle.directory_rules.specs.declared.held.Phase.{Phase}
use Rattle.directory_rules.specs.declared.held.Phase.TheVariants as phase
use Rattle.directory_rules.specs.declared.reply.Reply.TheVariants as reply
use Rattle.directory_rules.specs.declared.effect.Effect.{Effect}
use Rattle.directory_rules.specs.declared.effect.Effect.TheVariants as effect
use Rattle.directory_rules.specs.State.{Host, Cache, Letter, Node, World}
use Rattle.directory_rules.specs.Host.{held_of, is_asking_under, is_closing_under, asking_under, closing_under, confirmed, without_held}
use Rattle.directory_rules.specs.Cache.{learnt}
use Rattle.directory_rules.specs.Step.{silently}
use Rattle.directory_facts.proofs.Ways.{IsReply}
use Rattle.directory_headline.specs.Shown.{held_in, held_as, IsShownLetter, IsShownBody, reply_as}
use Rattle.directory_headline.proofs.Actors.{leaves_after}
use Rattle.directory_facts.proofs.Lookups.{find_looked, found_set, found_beside_set, found_beside_removed, once_removed}
use Rattle.directory_headline.proofs.Frame.{Here, Comes, Moves, acts, alive, node_shown, node_facts, seen_is, no_letters}
use Rattle.directory_headline.proofs.Hosts.{host_changes, held_put}

asking_is : (number : ℕ) (its : Phase) → is_asking_under number its ≡ true → its ≡ phase.Asking number
asking_is number (phase.Asking n) is = ap (λ k. phase.Asking k) (eqb-true n number is)
asking_is number phase.Firm is = absurd (cc)
asking_is number (phase.Closing n) is = absurd (cc)

closing_is : (number : ℕ) (its : Phase) → is_closing_under number its ≡ true → its ≡ phase.Closing number
closing_is number (phase.Asking n) is = absurd (cc)
closing_is number phase.Firm is = absurd (cc)
closing_is number (phase.Closing n) is = ap (λ k. phase.Closing k) (eqb-true n number is)

-- an activation that is found by its request is held, in its phase
pub record IsUnder (host : Host) (its : Phase) (e : Grain × Held) : Type 0 where
  pub phase_is : e.1.phase ≡ its
  pub found : held_of host e.0 ≡ Some e.1

module _ (m : Setting) (f : World) (w : protocol.World) (silo : Silo) (node : Node) (here : Here m f w silo node) where
  under_asking : (number : ℕ) (e : Grain × Held) → asking_under node.host number ≡ Some e → IsUnder node.host (phase.Asking number) e
  under_asking number e there =
      let its = find_looked grain_cmp grain_cmp_total grain_cmp_exact (λ x. is_asking_under number x.1.phase) node.host.held e (node_facts m f w silo node here).own.once there in
      record { phase_is = asking_is number e.1.phase its.0; found = its.1 }

  under_closing : (number : ℕ) (e : Grain × Held) → closing_under node.host number ≡ Some e → IsUnder node.host (phase.Closing number) e
  under_closing number e there =
      let its = find_looked grain_cmp grain_cmp_total grain_cmp_exact (λ x. is_closing_under number x.1.phase) node.host.held e (node_facts m f w silo node here).own.once there in
      record { phase_is = closing_is number e.1.phase its.0; found = its.1 }

  -- the reply in the protocol
  abbrev its_reply : Letter → ℕ → letters.Answer → letters.Reply
  its_reply letter number answer = record { answer = answer; version = letter.version; number = number; receiver = silo }

  reply_sent : (letter : Letter) (number : ℕ) (answer : letters.Answer) → letter.to ≡ silo
      → letters.Sent (reply_as letter number answer) w.replies → letters.Sent (its_reply letter number answer) w.replies
  reply_sent letter number answer to sent =
      subst (λ (s : Silo). let y : letters.Reply = record { answer = answer; version = letter.version; number = number; receiver = s } in
      letters.Sent y w.replies) to sent

  held_there : (its : Phase) (e : Grain × Held) → IsUnder node.host its e → w.held silo e.0 ≡ Some (held_in its e.1.count e.1.previous)
  held_there its e under =
      (node_shown m f w silo node here).host.held e.0 ∙ ap (option_map held_as) under.found
      ∙ ap (λ p. Some (held_in p e.1.count e.1.previous)) under.phase_is

  -- a reply counts for the activation that is found by its number
  accepted :
      (letter : Letter) (number : ℕ) (answer : letters.Answer) (its : Phase) (e : Grain × Held) → IsUnder node.host its e
      → letter.version ≡ node.view.version
      → protocol.outstanding (letters.purpose_of answer) (held_in its e.1.count e.1.previous) ≡ Some number
      → letters.Sent (its_reply letter number answer) w.replies
      → MayAccept m w (its_reply letter number answer) e.0 (held_in its e.1.count e.1.previous)
  accepted letter number answer its e under seen outstanding sent = record {
    alive = alive m f w silo node here;
    sent = sent;
    counts =
        record { held_there = held_there its e under; same_number = outstanding; same_version = seen ∙ sym (seen_is m f w silo node here) };
  }

  pub confirms : (letter : Letter) (number : ℕ) (entry : Entry) (e : Grain × Held) → IsReply node letter number (reply.Registered entry)
      → asking_under node.host number ≡ Some e → Comes m f w silo letter
      → Moves m w silo (silently (record node { host = confirmed node.host e.0 e.1 }) effect.Firm)
  confirms letter number entry e is there comes =
      let was = node_shown m f w silo node here in
      let under = under_asking number e there in
      let y = its_reply letter number letters.Registered in
      let x = protocol.Asking e.1.count number e.1.previous in
      let sent = reply_sent letter number letters.Registered comes.to (subst (IsShownBody m.hash w letter) is.body comes.shown) in
      let later = after m w (Confirm y e.0 x) in
      let firm : Held = record e.1 { phase = phase.Firm; previous = None } in
      acts m w silo (silently (record node { host = confirmed node.host e.0 e.1 }) effect.Firm) (Confirm y e.0 x)
      (record { accepted = accepted letter number letters.Registered (phase.Asking number) e under is.seen refl sent; answer = refl }) refl
      (host_changes m f w silo node here later (confirmed node.host e.0 e.1) node.cache
      (record { seen = refl; settled = refl; table = refl; served = refl })
      (leaves_after m w (Confirm y e.0 x) silo refl).grows (record {
        held = held_put w silo e.0 (Some (protocol.Firm e.1.count)) node.host (confirmed node.host e.0 e.1) was.host.held
            (ap (option_map held_as) (sym (found_set grain_cmp grain_cmp_total grain_cmp_exact e.0 firm node.host.held
            (ap is_some under.found))))
            (λ q apart. found_beside_set grain_cmp grain_cmp_total grain_cmp_exact e.0 firm node.host.held q apart);
        next_number = was.host.next_number;
        next_count = was.host.next_count;
      })) (no_letters (IsShownLetter m.hash later))

  -- an activation goes
  goes :
      (letter : Letter) (number : ℕ) (answer : letters.Answer) (its : Phase) (e : Grain × Held) (cache : Cache) (effect : Effect)
      → IsUnder node.host its e → letter.version ≡ node.view.version
      → protocol.outstanding (letters.purpose_of answer) (held_in its e.1.count e.1.previous) ≡ Some number → answer ≢ letters.Registered
      → letters.Sent (its_reply letter number answer) w.replies
      → Moves m w silo (silently (record node { host = without_held node.host e.0; cache = cache }) effect)
  goes letter number answer its e cache effect under seen outstanding not sent =
      let was = node_shown m f w silo node here in
      let y = its_reply letter number answer in
      let x = held_in its e.1.count e.1.previous in
      let later = after m w (Leave y e.0 x) in
      acts m w silo (silently (record node { host = without_held node.host e.0; cache = cache }) effect) (Leave y e.0 x)
      (record { accepted = accepted letter number answer its e under seen outstanding sent; answer = not }) refl
      (host_changes m f w silo node here later (without_held node.host e.0) cache
      (record { seen = refl; settled = refl; table = refl; served = refl })
      (leaves_after m w (Leave y e.0 x) silo refl).grows (record {
        held = held_put w silo e.0 None node.host (without_held node.host e.0) was.host.held
            (ap (option_map held_as) (sym (once_removed grain_cmp grain_cmp_total grain_cmp_exact e.0 node.host.held
            (node_facts m f w silo node here).own.once)))
            (λ q apart. found_beside_removed grain_cmp grain_cmp_total grain_cmp_exact e.0 node.host.held q apart);
        next_number = was.host.next_number;
        next_count = was.host.next_count;
      })) (no_letters (IsShownLetter m.hash later))

  pub yields : (letter : Letter) (number : ℕ) (entry : Entry) (e : Grain × Held) → IsReply node letter number (reply.Taken entry)
      → asking_under node.host number ≡ Some e → Comes m f w silo letter
      → Moves m w silo (silently (record node { host = without_held node.host e.0; cache = learnt node.cache entry }) effect.Yielded)
  yields letter number entry e is there comes =
      goes letter number letters.Taken (phase.Asking number) e (learnt node.cache entry) effect.Yielded (under_asking number e there)
      is.seen refl (λ same. cc (same))
      (reply_sent letter number letters.Taken comes.to (subst (IsShownBody m.hash w letter) is.body comes.shown))

  pub removes : (letter : Letter) (number : ℕ) (e : Grain × Held) → IsReply node letter number reply.Removed
      → closing_under node.host number ≡ Some e → Comes m f w silo letter
      → Moves m w silo (silently (record node { host = without_held node.host e.0 }) effect.Ended)
  removes letter number e is there comes =
      goes letter number letters.Removed (phase.Closing number) e node.cache effect.Ended (under_closing number e there) is.seen refl
      (λ same. cc (same))
      (reply_sent letter number letters.Removed comes.to (subst (IsShownBody m.hash w letter) is.body comes.shown))

  pub misses : (letter : Letter) (number : ℕ) (e : Grain × Held) → IsReply node letter number reply.Absent
      → closing_under node.host number ≡ Some e → Comes m f w silo letter
      → Moves m w silo (silently (record node { host = without_held node.host e.0 }) effect.Ended)
  misses letter number e is there comes =
      goes letter number letters.Removed (phase.Closing number) e node.cache effect.Ended (under_closing number e there) is.seen refl
      (λ same. cc (same))
      (reply_sent letter number letters.Removed comes.to (subst (IsShownBody m.hash w letter) is.body comes.shown))

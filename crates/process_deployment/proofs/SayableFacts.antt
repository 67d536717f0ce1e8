-- What is carried of letters besides what they name and say of their own: from whom and to whom they are, what requests and replies name,
-- behind which grain queries and reports begin, and that letters of ranges have some. And what a node has to make such letters.
use Rattle.std.proofs.Common.{◌≢◌, ℕ, List, []}
use Rattle.std.specs.Prelude.{⊤, All, IfSome, Option, Some, None}
use Rattle.silo_address.specs.Silo.{IsSilo}
use Rattle.silo_address.specs.Grain.{Grain, IsGrain}
use Rattle.silo_address.specs.declared.ActivationId.{ActivationId}
use Rattle.silo_address.specs.declared.Entry.{Entry}
use Rattle.hash_ring.specs.declared.hashing.Hashing.{Hashing}
use Rattle.directory_rules.specs.declared.act.Act.{Act}
use Rattle.directory_rules.specs.declared.act.Act.TheVariants as act
use Rattle.directory_rules.specs.declared.held.Held.{Held}
use Rattle.directory_rules.specs.declared.reply.Why.{Why}
use Rattle.directory_rules.specs.declared.reply.Why.TheVariants as why
use Rattle.directory_rules.specs.declared.reply.Reply.{Reply}
use Rattle.directory_rules.specs.declared.reply.Reply.TheVariants as reply
use Rattle.directory_rules.specs.Event.{IsEvent}
use Rattle.directory_rules.specs.State.{Host, Letter, Body, Request_letter, Reply_letter, Ask_letter, Page_letter, Missing_letter, Done_letter, Query_letter, Report_letter, Survey_letter, Empty_letter, Behind_letter, Ahead_letter, Offer_letter, Recovery}
use Rattle.directory_rules.specs.Settings.{Settings}
use Rattle.directory_facts.specs.Named.{IsNamed}
use Rattle.directory_facts.specs.Own.{IsOwnLetter, SaysOwn}
use Rattle.directory_facts.proofs.Carried.{Facts}
use Rattle.directory_facts.proofs.Names.{NamesBody, Says}
use Rattle.directory_facts.proofs.NamedTables.{AllNamed, NamesAct}
use Rattle.process_rules.specs.Told.{IsDigest, IsActivation, IsEntry, IsAct, IsWhy, IsReply, IsToldBody, IsSayable}

-- ---- what is carried
abbrev pub IsOnSilo : ActivationId → Type 0
IsOnSilo activation = IsSilo activation.silo

abbrev pub Asks : Act → Type 0
Asks (act.Register entry previous) = IfSome previous IsOnSilo
Asks (act.Deregister entry) = IsNamed entry
Asks (act.Find grain) = IsGrain grain

abbrev pub Answers : Reply → Type 0
Answers (reply.Registered entry) = IsNamed entry
Answers (reply.Taken entry) = IsNamed entry
Answers reply.Removed = ⊤
Answers reply.Absent = ⊤
Answers (reply.Found entry) = IsNamed entry
Answers reply.Nothing = ⊤
Answers (reply.Retry why) = ⊤

abbrev pub Tells : Body → Type 0
Tells (Request_letter request) = Asks request.act
Tells (Reply_letter number reply) = Answers reply
Tells (Ask_letter range page) = ⊤
Tells (Page_letter page) = IsDigest page.digest
Tells (Missing_letter range) = ⊤
Tells (Done_letter range) = ⊤
Tells (Query_letter range after) = IfSome after IsGrain
Tells (Report_letter report) = IfSome report.after IsGrain
Tells (Survey_letter ranges) = ranges ≢ []
Tells (Empty_letter ranges) = ranges ≢ []
Tells (Behind_letter range) = ⊤
Tells (Ahead_letter range) = ⊤
Tells (Offer_letter entry) = ⊤

pub record Goes (letter : Letter) : Type 0 where
  pub from : IsSilo letter.from
  pub to : IsSilo letter.to
  pub tells : Tells letter.body

-- the activation that another one is to replace, if it is
abbrev pub Replaces : Grain × Held → Type 0
Replaces e = IfSome e.1.previous IsOnSilo

abbrev pub Looks : ℕ × Grain → Type 0
Looks e = IsGrain e.1

-- whom a recovery awaits is a silo, and up to which grain one of them has told is a grain
pub record AsksOn (recovery : Recovery) : Type 0 where
  pub silos : All IsSilo recovery.awaiting
  pub grains : All (λ e. IsGrain e.1) recovery.told

abbrev pub Waits : ℕ × Recovery → Type 0
Waits e = AsksOn e.1

pub record Sends (host : Host) (recoveries : List (ℕ × Recovery)) : Type 0 where
  pub replaced : All Replaces host.held
  pub looked_for : All Looks host.finds
  pub awaited : All Waits recoveries

abbrev pub sent_facts : Facts
sent_facts = record {
  asked = λ settings. ⊤;
  named = IsEvent;
  shared = λ settings views places. ⊤;
  node = λ settings views places silo node. Sends node.host node.recoveries;
  letter = λ settings letter. Goes letter;
}

-- ---- such letters may be said
abbrev AnyNumber : ℕ → Type 0
AnyNumber number = ⊤

is_entry : (entry : Entry) → IsNamed entry → IsEntry AnyNumber entry
is_entry entry named = record { grain = named.grain; activation = record { silo = named.silo; count = tt } }

are_entries : (entries : List Entry) → AllNamed entries → All (IsEntry AnyNumber) entries
are_entries entries named = λ k d below. is_entry _ (named k d below)

is_previous : (previous : Option ActivationId) → IfSome previous IsOnSilo → IfSome previous (IsActivation AnyNumber)
is_previous None is = tt
is_previous (Some activation) is = record { silo = is; count = tt }

is_act : (its : Act) → NamesAct its → Asks its → IsAct AnyNumber its
is_act (act.Register entry previous) named asks = (is_entry entry named, is_previous previous asks)
is_act (act.Deregister entry) named asks = is_entry entry asks
is_act (act.Find grain) named asks = asks

is_why : (its : Why) → IsWhy AnyNumber its
is_why (why.View seen) = tt
is_why why.Unsettled = tt
is_why (why.OldNumber last) = tt
is_why why.NotOwner = tt

is_reply : (its : Reply) → Answers its → IsReply AnyNumber its
is_reply (reply.Registered entry) answers = is_entry entry answers
is_reply (reply.Taken entry) answers = is_entry entry answers
is_reply reply.Removed answers = tt
is_reply reply.Absent answers = tt
is_reply (reply.Found entry) answers = is_entry entry answers
is_reply reply.Nothing answers = tt
is_reply (reply.Retry why) answers = is_why why

is_body : (hashing : Hashing) (letter : Letter) (body : Body) → SaysOwn hashing letter body → NamesBody body → Tells body
    → IsToldBody AnyNumber (λ range. ⊤) hashing letter.from letter.version body
is_body hashing letter (Request_letter request) own named tells =
    record { sender = own.sender; version = own.version; number = tt; hash = own.hash; act = is_act request.act named tells }
is_body hashing letter (Reply_letter number reply) own named tells = (tt, is_reply reply tells)
is_body hashing letter (Ask_letter range page) own named tells = (tt, tt)
is_body hashing letter (Page_letter page) own named tells =
    record { version = own; range = tt; page = tt; pages = tt; digest = tells; entries = are_entries page.entries named }
is_body hashing letter (Missing_letter range) own named tells = tt
is_body hashing letter (Done_letter range) own named tells = tt
is_body hashing letter (Query_letter range after) own named tells = (tt, tells)
is_body hashing letter (Report_letter report) own named tells =
    record { version = own.version; range = tt; silo = own.silo; after = tells; entries = are_entries report.entries named }
is_body hashing letter (Survey_letter ranges) own named tells = record { some = tells; lie = λ k d below. tt }
is_body hashing letter (Empty_letter ranges) own named tells = record { some = tells; lie = λ k d below. tt }
is_body hashing letter (Behind_letter range) own named tells = tt
is_body hashing letter (Ahead_letter range) own named tells = tt
is_body hashing letter (Offer_letter entry) own named tells = is_entry entry named

pub may_be_said : (settings : Settings) (letter : Letter) → IsOwnLetter settings letter → Says letter → Goes letter
    → IsSayable settings.hashing letter
may_be_said settings letter own named goes =
    record { from = goes.from; to = goes.to; version = tt; body = is_body settings.hashing letter letter.body own named goes.tells }

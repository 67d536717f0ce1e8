-- The relation between a world of the event rule and one of the protocol: what the rule's world has, the protocol's shows.
-- Each clause about one silo is over that silo's values alone, and over the letters ever sent.
use Rattle.std.specs.Prelude.{◌≡◌, ⊤, ℕ, suc, ◌*◌, ◌<◌, ◌&&◌, ◌||◌, not, nat_lt, Bool, true, false, List, [], ◌∷◌, Option, Some, None, length, take, All}
use Rattle.std.specs.Option.{option_map}
use Rattle.silo_address.specs.Silo.{Silo}
use Rattle.silo_address.specs.Grain.{Grain}
use Rattle.silo_address.specs.declared.ActivationId.{ActivationId}
use Rattle.silo_address.specs.declared.Entry.{Entry}
use Rattle.membership_view.specs.Views.{status_at}
use Rattle.ring_range.specs.Range.{circle, Range, holds}
use Rattle.directory_protocol.specs.Setting.{Setting}
use Rattle.directory_protocol.specs.Letters as letters
use Rattle.directory_protocol.specs.Letters.{Sent}
use Rattle.directory_protocol.specs.World as protocol
use Rattle.directory_rules.specs.declared.act.Act.{Act}
use Rattle.directory_rules.specs.declared.act.Act.TheVariants as act
use Rattle.directory_rules.specs.declared.act.Request.{Request}
use Rattle.directory_rules.specs.declared.held.Held.{Held}
use Rattle.directory_rules.specs.declared.held.Phase.{Phase}
use Rattle.directory_rules.specs.declared.held.Phase.TheVariants as phase
use Rattle.directory_rules.specs.declared.reply.Reply.{Reply}
use Rattle.directory_rules.specs.declared.reply.Reply.TheVariants as reply
use Rattle.directory_rules.specs.declared.piece_state.PieceState.TheVariants.{Settled}
use Rattle.directory_rules.specs.Settings.{page_size}
use Rattle.directory_rules.specs.Table.{entry_at, table_of, rise_by_grain}
use Rattle.directory_rules.specs.State.{Piece, Holding, Snapshot, Page, Gathering, Whole, Report, Recovery, Host, Letter, Body, Request_letter, Reply_letter, Ask_letter, Page_letter, Missing_letter, Done_letter, Query_letter, Report_letter, Survey_letter, Empty_letter, Behind_letter, Ahead_letter, Offer_letter, Node, World}
use Rattle.directory_rules.specs.Snapshot.{page_count, page_entries, digest_of}
use Rattle.directory_rules.specs.Standing.{stands_behind, last_grain}
use Rattle.directory_rules.specs.Recovery.{is_among, told_by}
use Rattle.directory_rules.specs.Host.{held_of}
use Rattle.directory_rules.specs.Answer.{piece_with, last_served}
use Rattle.directory_rules.specs.Sight.{is_settled}
use Rattle.directory_rules.specs.Transfer.{nothing_in}
use Rattle.directory_rules.specs.Happens.{node_of}
use Rattle.directory_headline.specs.SiloState.{SiloState, state_of, first_state}

-- ---- activations and pieces

abbrev pub held_in : Phase → (count : ℕ) → (previous : Option ActivationId) → protocol.Held
held_in (phase.Asking number) count previous = protocol.Asking count number previous
held_in phase.Firm count previous = protocol.Firm count
held_in (phase.Closing number) count previous = protocol.Closing count number

-- an activation that a host holds, as the protocol has it
abbrev pub held_as : Held → protocol.Held
held_as held = held_in held.phase held.count held.previous

abbrev pub activation_in : Option Entry → Option ActivationId
activation_in entry = option_map (λ e. e.activation) entry

abbrev pub is_settled_piece : Option Piece → Bool
is_settled_piece None = false
is_settled_piece (Some piece) = is_settled piece.state

-- whether the hash is one of the circle and lies in a settled piece
abbrev pub has_settled : List (ℕ × Piece) → (hash : ℕ) → Bool
has_settled pieces hash = is_settled_piece (piece_with hash pieces) && nat_lt hash circle

pub record IsShownHost (host : Host) (x : SiloState) : Type 0 where
  pub held : (grain : Grain) → x.held grain ≡ option_map held_as (held_of host grain)
  pub next_number : x.next_number ≡ host.next_number
  pub next_count : x.next_count ≡ host.next_count

pub record IsShownHolding (hash : Grain → ℕ) (holding : Holding) (x : SiloState) : Type 0 where
  pub settled : (h : ℕ) → x.settled h ≡ has_settled holding.pieces h
  pub table :
      (grain : Grain) (piece : Piece) → piece_with (hash grain) holding.pieces ≡ Some piece → piece.state ≡ Settled
      → x.table grain ≡ activation_in (entry_at grain piece.entries)
  pub served : (sender : Silo) → x.served sender ≡ last_served sender holding.served

-- ---- snapshots, pages and what is gathered of them

-- the entries are all that is said of the grains that are hashed into the range, in the order of the grains
pub record IsListOf (hash : Grain → ℕ) (range : Range) (says : Grain → Option ActivationId) (entries : List Entry) : Type 0 where
  pub rising : rise_by_grain entries ≡ true
  pub inside : All (λ e. holds range (hash e.grain) ≡ true) entries
  pub exact : (grain : Grain) → holds range (hash grain) ≡ true → says grain ≡ activation_in (entry_at grain (table_of entries))

-- a snapshot that was sent, for that version, has these entries on the range
pub record HasSealed (hash : Grain → ℕ) (sent : List letters.Snapshot) (version : ℕ) (range : Range) (entries : List Entry) : Type 0 where
  pub snapshot : letters.Snapshot
  pub was_sent : Sent snapshot sent
  pub for_version : suc snapshot.sealed_at ≡ version
  pub covers : (h : ℕ) → h < circle → holds range h ≡ true → snapshot.covers h ≡ true
  pub list : IsListOf hash range snapshot.entries entries

abbrev pub IsShownSnapshot : (Grain → ℕ) → List letters.Snapshot → Snapshot → Type 0
IsShownSnapshot hash sent x = HasSealed hash sent x.version x.range x.entries

pub record IsShownPage (hash : Grain → ℕ) (sent : List letters.Snapshot) (page : Page) : Type 0 where
  pub all : List Entry
  pub sealed : HasSealed hash sent page.version page.range all
  pub pages : page.pages ≡ page_count (length all)
  pub below : nat_lt page.page page.pages ≡ true
  pub digest : page.digest ≡ digest_of all
  pub entries : page.entries ≡ page_entries page.page all

-- the first pages of such a list
pub record HasPages (hash : Grain → ℕ) (sent : List letters.Snapshot) (gathering : Gathering) (whole : Whole) : Type 0 where
  pub all : List Entry
  pub sealed : HasSealed hash sent gathering.version gathering.range all
  pub pages : whole.pages ≡ page_count (length all)
  pub digest : whole.digest ≡ digest_of all
  pub entries : gathering.entries ≡ take (gathering.next * page_size) all

-- no page was had
pub record HasNoPage (gathering : Gathering) : Type 0 where
  pub next : gathering.next ≡ 0
  pub entries : gathering.entries ≡ []

abbrev pub IsShownWhole : (Grain → ℕ) → List letters.Snapshot → Gathering → Option Whole → Type 0
IsShownWhole hash sent gathering None = HasNoPage gathering
IsShownWhole hash sent gathering (Some whole) = HasPages hash sent gathering whole

abbrev pub IsShownGathering : (Grain → ℕ) → List letters.Snapshot → Gathering → Type 0
IsShownGathering hash sent gathering = IsShownWhole hash sent gathering gathering.whole

-- ---- reports and what is recovered by them

-- whether a report tells of the grain: it stands behind the one asked for, and not behind the last entry unless no others stand there
abbrev pub tells_of : (hash : Grain → ℕ) → Report → Grain → Bool
tells_of hash report grain =
    stands_behind hash (report.range ∷ []) report.after grain
    && (report.last || not (stands_behind hash (report.range ∷ []) (last_grain report.after report.entries) grain))

-- another grain of the range, behind the report's last entry, was firm
pub record HasMore (hash : Grain → ℕ) (told : letters.Report) (report : Report) : Type 0 where
  pub grain : Grain
  pub count : ℕ
  pub inside : holds report.range (hash grain) ≡ true
  pub behind : stands_behind hash (report.range ∷ []) (last_grain report.after report.entries) grain ≡ true
  pub firm : told.firm grain ≡ Some count

-- a report letter: what is said there of the grains of the range of which it tells is what was firm, and if it isn't the last there was more
pub record IsShownReport (hash : Grain → ℕ) (sent : List letters.Report) (report : Report) : Type 0 where
  pub told : letters.Report
  pub was_sent : Sent told sent
  pub version : told.version ≡ report.version
  pub sender : told.sender ≡ report.silo
  pub firm :
      (grain : Grain) → holds report.range (hash grain) ≡ true → tells_of hash report grain ≡ true
      → told.firm grain ≡ option_map (λ e. e.activation.count) (entry_at grain (table_of report.entries))
  pub more : report.last ≡ false → HasMore hash told report

-- what a letter of empty ranges says of one of them: as if it reported nothing there
abbrev pub IsShownEmpty : (hash : Grain → ℕ) → List letters.Report → Letter → Range → Type 0
IsShownEmpty hash sent letter range = IsShownReport hash sent (nothing_in letter range)

-- whether the silo has told of the grain: it is awaited no more, or the grain doesn't stand behind the one up to which it has told
abbrev pub has_told : (hash : Grain → ℕ) → Recovery → Silo → Grain → Bool
has_told hash recovery silo grain =
    not (is_among silo recovery.awaiting) || not (stands_behind hash (recovery.range ∷ []) (told_by silo recovery) grain)

-- a member that has told of a grain, by some report: what was gathered of it on the member is in that report, and if it is reported there
-- it has an entry
pub record HasTold (hash : Grain → ℕ) (sent : List letters.Report) (recovery : Recovery) (member : Silo) (grain : Grain) : Type 0 where
  pub told : letters.Report
  pub was_sent : Sent told sent
  pub version : told.version ≡ recovery.version
  pub sender : told.sender ≡ member
  pub from_it : (e : Entry) → entry_at grain recovery.gathered ≡ Some e → e.activation.silo ≡ member → told.firm grain ≡ Some e.activation.count
  pub complete : (count : ℕ) → holds recovery.range (hash grain) ≡ true → told.firm grain ≡ Some count → (e : Entry) × (entry_at grain recovery.gathered ≡ Some e)

-- an entry that was gathered lies in the range, and is on a member that has told of its grain
pub record IsGathered (m : Setting) (recovery : Recovery) (grain : Grain) (e : Entry) : Type 0 where
  pub inside : holds recovery.range (m.hash grain) ≡ true
  pub on_member : m.member recovery.version e.activation.silo ≡ true
  pub told : has_told m.hash recovery e.activation.silo grain ≡ true

pub record IsShownRecovery (m : Setting) (sent : List letters.Report) (recovery : Recovery) : Type 0 where
  pub gathered : (grain : Grain) (e : Entry) → entry_at grain recovery.gathered ≡ Some e → IsGathered m recovery grain e
  pub awaits : (silo : Silo) → is_among silo recovery.awaiting ≡ true → m.member recovery.version silo ≡ true
  pub members :
      (silo : Silo) (grain : Grain) → m.member recovery.version silo ≡ true → has_told m.hash recovery silo grain ≡ true
      → HasTold m.hash sent recovery silo grain

-- ---- letters

abbrev pub request_as : Request → letters.Purpose → Entry → (previous : Option ActivationId) → letters.Request
request_as request purpose entry previous =
    record {
      purpose = purpose;
      version = request.version;
      number = request.number;
      sender = request.sender;
      grain = entry.grain;
      count = entry.activation.count;
      previous = previous;
    }

abbrev pub IsShownRequest : List letters.Request → Request → Act → Type 0
IsShownRequest sent request (act.Register entry previous) = Sent (request_as request letters.Register entry previous) sent
IsShownRequest sent request (act.Deregister entry) = Sent (request_as request letters.Deregister entry None) sent
IsShownRequest sent request (act.Find grain) = ⊤

abbrev pub reply_as : Letter → (number : ℕ) → letters.Answer → letters.Reply
reply_as letter number answer = record { answer = answer; version = letter.version; number = number; receiver = letter.to }

abbrev pub IsShownReply : List letters.Reply → Letter → (number : ℕ) → Reply → Type 0
IsShownReply sent letter number (reply.Registered entry) = Sent (reply_as letter number letters.Registered) sent
IsShownReply sent letter number (reply.Taken entry) = Sent (reply_as letter number letters.Taken) sent
IsShownReply sent letter number reply.Removed = Sent (reply_as letter number letters.Removed) sent
IsShownReply sent letter number reply.Absent = Sent (reply_as letter number letters.Removed) sent
IsShownReply sent letter number (reply.Found entry) = ⊤
IsShownReply sent letter number reply.Nothing = ⊤
IsShownReply sent letter number (reply.Retry why) = ⊤

abbrev pub offer_as : Letter → Entry → letters.Offer
offer_as letter entry = record { version = letter.version; grain = entry.grain; activation = entry.activation }

abbrev pub IsShownBody : (Grain → ℕ) → protocol.World → Letter → Body → Type 0
IsShownBody hash w letter (Request_letter request) = IsShownRequest w.requests request request.act
IsShownBody hash w letter (Reply_letter number answer) = IsShownReply w.replies letter number answer
IsShownBody hash w letter (Ask_letter range page) = ⊤
IsShownBody hash w letter (Page_letter page) = IsShownPage hash w.snapshots page
IsShownBody hash w letter (Missing_letter range) = ⊤
IsShownBody hash w letter (Done_letter range) = ⊤
IsShownBody hash w letter (Query_letter range after) = ⊤
IsShownBody hash w letter (Report_letter report) = IsShownReport hash w.reports report
IsShownBody hash w letter (Survey_letter ranges) = ⊤
IsShownBody hash w letter (Empty_letter ranges) = All (IsShownEmpty hash w.reports letter) ranges
IsShownBody hash w letter (Behind_letter range) = ⊤
IsShownBody hash w letter (Ahead_letter range) = ⊤
IsShownBody hash w letter (Offer_letter entry) = Sent (offer_as letter entry) w.offers

abbrev pub IsShownLetter : (Grain → ℕ) → protocol.World → Letter → Type 0
IsShownLetter hash w letter = IsShownBody hash w letter letter.body

-- ---- the whole

-- a live silo, with what the protocol has of it
pub record IsShownNode (m : Setting) (w : protocol.World) (node : Node) (x : SiloState) : Type 0 where
  pub seen : x.seen ≡ node.view.version
  pub host : IsShownHost node.host x
  pub holding : IsShownHolding m.hash node.holding x
  pub shelf : All (IsShownSnapshot m.hash w.snapshots) node.shelf
  pub gatherings : All (λ e. IsShownGathering m.hash w.snapshots e.1) node.gatherings
  pub recoveries : All (λ e. IsShownRecovery m w.reports e.1) node.recoveries

pub record Shown (m : Setting) (f : World) (w : protocol.World) : Type 0 where
  pub now : w.now ≡ f.views.version
  pub live : (silo : Silo) (node : Node) → node_of f silo ≡ Some node → IsShownNode m w node (state_of w silo)
  pub absent : (silo : Silo) → status_at f.views f.views.version silo ≡ None → state_of w silo ≡ first_state
  pub letters : All (λ e. IsShownLetter m.hash w e.1.letter) f.mail

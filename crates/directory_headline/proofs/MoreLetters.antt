-- What is shown by letters stays shown when more are sent.
use Rattle.std.proofs.Common.{ℕ, List, Option, Some, None}
use Rattle.std.specs.Prelude.{All}
use Rattle.std.proofs.lemmas.List.Elements.{All-weaker}
use Rattle.silo_address.specs.Silo.{Silo}
use Rattle.silo_address.specs.Grain.{Grain}
use Rattle.silo_address.specs.declared.Entry.{Entry}
use Rattle.ring_range.specs.Range.{Range}
use Rattle.directory_protocol.specs.Setting.{Setting}
use Rattle.directory_protocol.specs.Letters as letters
use Rattle.directory_protocol.specs.Letters.{Sent}
use Rattle.directory_protocol.specs.World.{World}
use Rattle.directory_rules.specs.declared.act.Act.{Act}
use Rattle.directory_rules.specs.declared.act.Act.TheVariants as act
use Rattle.directory_rules.specs.declared.act.Request.{Request}
use Rattle.directory_rules.specs.declared.reply.Reply.{Reply}
use Rattle.directory_rules.specs.declared.reply.Reply.TheVariants as reply
use Rattle.directory_rules.specs.State.{Snapshot, Page, Gathering, Whole, Report, Recovery, Letter, Body, Request_letter, Reply_letter, Ask_letter, Page_letter, Missing_letter, Done_letter, Query_letter, Report_letter, Survey_letter, Empty_letter, Behind_letter, Ahead_letter, Offer_letter, Node}
use Rattle.directory_rules.specs.Transfer.{nothing_in}
use Rattle.directory_headline.specs.SiloState.{SiloState}
use Rattle.directory_headline.specs.Shown.{HasSealed, IsShownSnapshot, IsShownPage, IsShownWhole, IsShownGathering, IsShownReport, IsShownEmpty, HasTold, IsShownRecovery, IsShownRequest, IsShownReply, IsShownBody, IsShownLetter, IsShownNode}
use Rattle.directory_headline.proofs.Actors.{Grows}

module _ (hash : Grain → ℕ) (sent more : List letters.Snapshot) (grows : (x : letters.Snapshot) → Sent x sent → Sent x more) where
  pub sealed_still : (version : ℕ) (range : Range) (entries : List Entry) → HasSealed hash sent version range entries
      → HasSealed hash more version range entries
  sealed_still version range entries x = record {
    snapshot = x.snapshot;
    was_sent = grows x.snapshot x.was_sent;
    for_version = x.for_version;
    covers = x.covers;
    list = x.list;
  }

  pub page_still : (page : Page) → IsShownPage hash sent page → IsShownPage hash more page
  page_still page x =
      record {
        all = x.all;
        sealed = sealed_still page.version page.range x.all x.sealed;
        pages = x.pages;
        below = x.below;
        digest = x.digest;
        entries = x.entries;
      }

  whole_still : (gathering : Gathering) (whole : Option Whole) → IsShownWhole hash sent gathering whole
      → IsShownWhole hash more gathering whole
  whole_still gathering None x = x
  whole_still gathering (Some whole) x =
      record {
        all = x.all;
        sealed = sealed_still gathering.version gathering.range x.all x.sealed;
        pages = x.pages;
        digest = x.digest;
        entries = x.entries;
      }

  pub gathering_still : (gathering : Gathering) → IsShownGathering hash sent gathering → IsShownGathering hash more gathering
  gathering_still gathering x = whole_still gathering gathering.whole x

module _ (m : Setting) (sent more : List letters.Report) (grows : (x : letters.Report) → Sent x sent → Sent x more) where
  pub report_still : (report : Report) → IsShownReport m.hash sent report → IsShownReport m.hash more report
  report_still report x =
      record { told = x.told; was_sent = grows x.told x.was_sent; version = x.version; sender = x.sender; firm = x.firm; more = x.more }

  told_still : (recovery : Recovery) (member : Silo) (grain : Grain) → HasTold m.hash sent recovery member grain
      → HasTold m.hash more recovery member grain
  told_still recovery member grain x = record {
    told = x.told;
    was_sent = grows x.told x.was_sent;
    version = x.version;
    sender = x.sender;
    from_it = x.from_it;
    complete = x.complete;
  }

  pub recovery_still : (recovery : Recovery) → IsShownRecovery m sent recovery → IsShownRecovery m more recovery
  recovery_still recovery x = record {
    gathered = x.gathered;
    awaits = x.awaits;
    members = λ silo grain is told. told_still recovery silo grain (x.members silo grain is told);
  }

module _ (m : Setting) (w later : World) (grows : Grows w later) where
  request_still : (request : Request) (its : Act) → IsShownRequest w.requests request its → IsShownRequest later.requests request its
  request_still request (act.Register entry previous) x = grows.requests _ x
  request_still request (act.Deregister entry) x = grows.requests _ x
  request_still request (act.Find grain) x = tt

  reply_still : (letter : Letter) (number : ℕ) (answer : Reply) → IsShownReply w.replies letter number answer
      → IsShownReply later.replies letter number answer
  reply_still letter number (reply.Registered entry) x = grows.replies _ x
  reply_still letter number (reply.Taken entry) x = grows.replies _ x
  reply_still letter number reply.Removed x = grows.replies _ x
  reply_still letter number reply.Absent x = grows.replies _ x
  reply_still letter number (reply.Found entry) x = tt
  reply_still letter number reply.Nothing x = tt
  reply_still letter number (reply.Retry why) x = tt

  pub empties_still : (letter : Letter) (ranges : List Range) → All (IsShownEmpty m.hash w.reports letter) ranges
      → All (IsShownEmpty m.hash later.reports letter) ranges
  empties_still letter ranges all =
      All-weaker (IsShownEmpty m.hash w.reports letter) (IsShownEmpty m.hash later.reports letter)
      (λ range is. report_still m w.reports later.reports grows.reports (nothing_in letter range) is) ranges all

  body_still : (letter : Letter) (body : Body) → IsShownBody m.hash w letter body → IsShownBody m.hash later letter body
  body_still letter (Request_letter request) x = request_still request request.act x
  body_still letter (Reply_letter number answer) x = reply_still letter number answer x
  body_still letter (Ask_letter range page) x = tt
  body_still letter (Page_letter page) x = page_still m.hash w.snapshots later.snapshots grows.snapshots page x
  body_still letter (Missing_letter range) x = tt
  body_still letter (Done_letter range) x = tt
  body_still letter (Query_letter range after) x = tt
  body_still letter (Report_letter report) x = report_still m w.reports later.reports grows.reports report x
  body_still letter (Survey_letter ranges) x = tt
  body_still letter (Empty_letter ranges) x = empties_still letter ranges x
  body_still letter (Behind_letter range) x = tt
  body_still letter (Ahead_letter range) x = tt
  body_still letter (Offer_letter entry) x = grows.offers _ x

  pub letter_still : (letter : Letter) → IsShownLetter m.hash w letter → IsShownLetter m.hash later letter
  letter_still letter x = body_still letter letter.body x

  pub shelf_still : (shelf : List Snapshot) → All (IsShownSnapshot m.hash w.snapshots) shelf
      → All (IsShownSnapshot m.hash later.snapshots) shelf
  shelf_still shelf all =
      All-weaker (IsShownSnapshot m.hash w.snapshots) (IsShownSnapshot m.hash later.snapshots)
      (λ x is. sealed_still m.hash w.snapshots later.snapshots grows.snapshots x.version x.range x.entries is) shelf all

  pub gatherings_still : (es : List (ℕ × Gathering)) → All (λ e. IsShownGathering m.hash w.snapshots e.1) es
      → All (λ e. IsShownGathering m.hash later.snapshots e.1) es
  gatherings_still es all =
      All-weaker (λ (e : ℕ × Gathering). IsShownGathering m.hash w.snapshots e.1) (λ e. IsShownGathering m.hash later.snapshots e.1)
      (λ e is. gathering_still m.hash w.snapshots later.snapshots grows.snapshots e.1 is) es all

  pub recoveries_still : (es : List (ℕ × Recovery)) → All (λ e. IsShownRecovery m w.reports e.1) es
      → All (λ e. IsShownRecovery m later.reports e.1) es
  recoveries_still es all =
      All-weaker (λ (e : ℕ × Recovery). IsShownRecovery m w.reports e.1) (λ e. IsShownRecovery m later.reports e.1)
      (λ e is. recovery_still m w.reports later.reports grows.reports e.1 is) es all

  pub node_still : (node : Node) (x : SiloState) → IsShownNode m w node x → IsShownNode m later node x
  node_still node x is = record {
    seen = is.seen;
    host = is.host;
    holding = is.holding;
    shelf = shelf_still node.shelf is.shelf;
    gatherings = gatherings_still node.gatherings is.gatherings;
    recoveries = recoveries_still node.recoveries is.recoveries;
  }

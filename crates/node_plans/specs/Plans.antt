-- A step in two parts: a plan, which says what is sent and done, and the change that it makes of the node.
use Rattle.std.specs.Prelude.{◌≡◌, ℕ, ◌^◌, ◌<◌, ◌≤◌, ◌++◌, List, true, IsOkAnd, IsSome, fold, length, [], Option, Some, None, Result, Ok}
use Rattle.std.specs.Map.{remove_entry}
use Rattle.std.specs.BTreeMap.{is_at}
use Rattle.std.specs.Ordering.{nat_cmp}
use Rattle.silo_address.specs.Grain.{Grain}
use Rattle.silo_address.specs.Silo.{Silo}
use Rattle.directory_rules.specs.declared.Held.{Held}
use Rattle.directory_rules.specs.Answer.{answered}
use Rattle.directory_rules.specs.declared.PieceState.TheVariants.{Recovering}
use Rattle.directory_rules.specs.Cache.{cache_seeing, learnt, without_pair}
use Rattle.directory_rules.specs.Gatherings.{gathered, new_gathering, with_page}
use Rattle.directory_rules.specs.Host.{asking_under, closing_under, has_numbers, held_of, outstanding, renewed, renewed_about, requests_about, with_find, with_started, without_find, without_held}
use Rattle.directory_rules.specs.State.{Body, Request_letter, Reply_letter, Ask_letter, Page_letter, Missing_letter, Done_letter, Query_letter, Report_letter, Survey_letter, Empty_letter, Behind_letter, Ahead_letter, Offer_letter, Letter, Node, Recovery, Piece, Page}
use Rattle.directory_rules.specs.Members.{members_of}
use Rattle.directory_rules.specs.Recovery.{recovered}
use Rattle.directory_rules.specs.Reply.{confirmed_by, yielded_by}
use Rattle.directory_rules.specs.Sent.{gathering_of, recovery_of}
use Rattle.directory_rules.specs.Sight.{pieces_after, sealed, shelf_after}
use Rattle.directory_rules.specs.Snapshot.{shelf_without}
use Rattle.directory_rules.specs.Step.{Stepped, new_gatherings, new_recoveries, with_one_closing}
use Rattle.directory_rules.specs.Table.{rise_by_grain}
use Rattle.directory_rules.specs.Transfer.{has_range, is_recovering, piece_at, recovered_by, reported, surveyed, told_nothing, with_gathering, with_recovery, with_settled, with_state}
use Rattle.grain_partition.specs.Holdings.{HasPiece}
use Rattle.grain_partition.specs.Sight.{AreOfRings}
use Rattle.host_activations.specs.Renewal.{renewal_of}
use Rattle.host_activations.specs.declared.asked.OutstandingRequest.{OutstandingRequest}
use Rattle.lookup_cache.specs.Used.{used}
use Rattle.seal_snapshot.specs.Progress.{progress_of}
use Rattle.seal_snapshot.specs.Shelf.{IsDigestFor}
use Rattle.seal_snapshot.specs.declared.progress.GatheringProgress.TheVariants.{More}
use Rattle.node_plans.specs.declared.plan.Plan.{Plan}
use Rattle.node_plans.specs.declared.plan.Sight.{Sight}
use Rattle.node_plans.specs.declared.plan.Change.{Change}
use Rattle.node_plans.specs.declared.plan.Change.TheVariants.{Nothing, Sees, Renews, RenewsAbout, Starts, Closes, Asks, Serves, Confirms, Yields, Ends, EndsFind, Learns, UsesHint, Forgets, Discards, Digests, Gathers, GathersAnew, Installs, Recovers, Counts, Empties}

-- without the activation, if there is one
abbrev pub without : Option (Grain × Held) → Node → Node
without None node = node
without (Some e) node = record node { host = without_held node.host e.0 }

-- with the activation closing, if there is one
abbrev pub with_closing_of : Option Held → Node → Grain → Node
with_closing_of None node grain = node
with_closing_of (Some held) node grain = with_one_closing node grain held

-- with the piece recovering: nothing is gathered for it
abbrev pub recovering_by : Node → Recovery → Node
recovering_by node recovery = record (with_recovery (with_state node recovery.range Recovering []) recovery) {
  gatherings = remove_entry (is_at (nat_cmp recovery.range.start)) node.gatherings;
}

-- the pieces after a sight
abbrev pub pieces_by : Sight → Node → List (ℕ × Piece)
pieces_by sight node = pieces_after sight.next node.settings.hashing sight.view node.host.silo node.holding.pieces sight.transition.arcs

-- the node that has seen the view of a sight
abbrev pub seen_by : Sight → Node → Node
seen_by sight node = record node {
  view = sight.view;
  ring = sight.transition.ring;
  holding = record { seen = sight.view.version; served = []; pieces = pieces_by sight node };
  shelf = shelf_after sight.next sight.view node.shelf sight.sealed.items;
  gatherings = sight.gatherings.entries;
  recoveries = sight.recoveries.entries;
  host = renewed node.host;
  cache = cache_seeing sight.view node.cache;
}

-- a letter of that sender and version, by which it tells that it has nothing: in which ranges is told apart from it
abbrev pub empty_from : Silo → (version : ℕ) → Letter
empty_from from version = record { from = from; to = from; version = version; body = Empty_letter [] }

-- what a change makes of a node
abbrev pub changed : Change → Node → Node
changed Nothing node = node
changed (Sees sight) node = seen_by sight.value node
changed (Renews renewal) node = record node { host = renewed node.host }
changed (RenewsAbout grain) node = record node { host = renewed_about grain node.host }
changed (Starts grain previous) node = record node { host = with_started node.host grain previous }
changed (Closes grain) node = with_closing_of (held_of node.host grain) node grain
changed (Asks grain) node = record node { host = with_find node.host grain }
changed (Serves request) node = record node { holding = (answered node.holding request).holding }
changed (Confirms number) node = (confirmed_by (asking_under node.host number) node).node
changed (Yields number entry) node = (yielded_by (asking_under node.host number) entry node).node
changed (Ends number) node = without (closing_under node.host number) node
changed (EndsFind number) node = record node { host = without_find node.host number }
changed (Learns number entry) node = record node { host = without_find node.host number; cache = learnt node.cache entry }
changed (UsesHint grain) node = record node { cache = used node.cache grain }
changed (Forgets grain activation) node = record node { cache = without_pair node.cache grain activation }
changed (Discards version range to) node = record node { shelf = shelf_without node.shelf version range to }
changed (Digests version range to digest) node = node
changed (Gathers page) node = with_gathering node (with_page (gathering_of node page.range) page)
changed (GathersAnew range) node = with_gathering node (new_gathering (gathering_of node range).version range)
changed (Installs range entries) node = with_settled node range entries.entries
changed (Recovers recovery) node = recovering_by node recovery
changed (Counts report) node = (recovered_by (recovered (recovery_of node report.range) report) report node).node
changed (Empties from version ranges) node = fold (told_nothing (empty_from from version)) node ranges.items

-- an activation may begin: there is none of the grain, and a number and a count are left
pub record MayStart (node : Node) (grain : Grain) : Type 0 where
  pub new : held_of node.host grain ≡ None
  pub number : node.host.next_number ≤ 2 ^ 60
  pub count : node.host.next_count ≤ 2 ^ 60

-- an activation may close: it is there, and a number is left
pub record MayClose (node : Node) (grain : Grain) : Type 0 where
  pub there : IsSome (held_of node.host grain)
  pub number : node.host.next_number ≤ 2 ^ 60

-- the page is the next one of what is gathered, and more are wanted; so its entries come behind
pub record GoesOn (node : Node) (page : Page) : Type 0 where
  pub more : progress_of (gathered (gathering_of node page.range) page) ≡ Ok More
  pub rises : rise_by_grain ((gathering_of node page.range).entries ++ page.entries) ≡ true

-- a renewal is the node's own, and its numbers are left
pub record MayRenew (node : Node) (renewal : List (ℕ × OutstandingRequest)) : Type 0 where
  pub own : renewal ≡ renewal_of node.host
  pub numbers : has_numbers node.settings node.host (length (outstanding node.host)) ≡ true

-- a sight is of a newer view, with the arcs between two rings; its parts are those of the node's pieces and requests
pub record FitsSight (sight : Sight) (node : Node) : Type 0 where
  pub newer : node.view.version < sight.view.version
  pub arcs : AreOfRings sight.transition.arcs
  pub sealed : sight.next ≡ true → sight.sealed.items ≡ sealed node.settings.hashing sight.view node.host.silo node.holding.pieces sight.transition.arcs
  pub gatherings : sight.gatherings.entries ≡ new_gatherings sight.view (pieces_by sight node)
  pub recoveries : sight.recoveries.entries ≡ new_recoveries sight.view (pieces_by sight node)
  pub renewal : MayRenew node sight.renewal

-- what a change asks of its node: a digest is the snapshot's, entries and recoveries are for a piece that is there, and a report counts
-- where the piece recovers
abbrev pub Fits : Change → Node → Type 0
Fits Nothing node = Unit {0}
Fits (Sees sight) node = FitsSight sight.value node
Fits (Renews renewal) node = MayRenew node renewal
Fits (RenewsAbout grain) node = has_numbers node.settings node.host (length (requests_about grain node.host)) ≡ true
Fits (Starts grain previous) node = MayStart node grain
Fits (Closes grain) node = MayClose node grain
Fits (Asks grain) node = node.host.next_number ≤ 2 ^ 60
Fits (Serves request) node = Unit {0}
Fits (Confirms number) node = Unit {0}
Fits (Yields number entry) node = Unit {0}
Fits (Ends number) node = Unit {0}
Fits (EndsFind number) node = Unit {0}
Fits (Learns number entry) node = Unit {0}
Fits (UsesHint grain) node = Unit {0}
Fits (Forgets grain activation) node = Unit {0}
Fits (Discards version range to) node = Unit {0}
Fits (Digests version range to digest) node = IsDigestFor version range to node.shelf digest
Fits (Gathers page) node = GoesOn node page
Fits (GathersAnew range) node = Unit {0}
Fits (Installs range entries) node = HasPiece range node.holding.pieces
Fits (Recovers recovery) node = HasPiece recovery.range node.holding.pieces
Fits (Counts report) node = has_range is_recovering report.range (piece_at node report.range) ≡ true
Fits (Empties from version ranges) node = Unit {0}

-- the node's step by the plan
abbrev pub step_by : Node → Plan → Stepped
step_by node plan = record { node = changed plan.change node; letters = plan.letters.items; effect = plan.effect }

-- how many letters a node sends by a letter for which it needs memory: by a report none, or one where its silo is asked on; by a survey
-- what it tells; by what is empty none; and where a snapshot is missing all silos are asked
abbrev pub answer_count : Node → Letter → Body → ℕ
answer_count node letter (Request_letter request) = 1
answer_count node letter (Reply_letter number reply) = 1
answer_count node letter (Ask_letter range page) = 1
answer_count node letter (Page_letter page) = 1
answer_count node letter (Missing_letter range) = length (members_of node.view)
answer_count node letter (Done_letter range) = 1
answer_count node letter (Query_letter range after) = 1
answer_count node letter (Report_letter report) = length (reported node letter report).letters
answer_count node letter (Survey_letter ranges) = length (surveyed node letter ranges).letters
answer_count node letter (Empty_letter ranges) = 0
answer_count node letter (Behind_letter range) = 1
answer_count node letter (Ahead_letter range) = 1
answer_count node letter (Offer_letter entry) = 1

-- the step isn't refused, and sends so many letters
abbrev pub Sends : ℕ → Result Stepped ℕ → Type 0
Sends count outcome = IsOkAnd outcome (λ stepped. length stepped.letters ≡ count)

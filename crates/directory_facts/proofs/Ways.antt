-- Every accepted step of a silo is one of these ways, each with what its guards say.
use Rattle.std.proofs.Common.{◌≡◌, ◌≢◌, ℕ, ◌<◌, ◌≤◌}
use Rattle.std.specs.Prelude.{◌++◌, ◌||◌, nat_lt, true, false, length, fold, List, [], ◌∷◌, Option, Some, None}
use Rattle.std.specs.List.{list_all}
use Rattle.silo_address.specs.Silo.{Silo, silo_eq}
use Rattle.silo_address.specs.Grain.{Grain}
use Rattle.silo_address.specs.declared.ActivationId.{ActivationId}
use Rattle.silo_address.specs.declared.Entry.{Entry}
use Rattle.membership_view.specs.View.{ViewValue}
use Rattle.ring_range.specs.Range.{Range}
use Rattle.hash_ring.specs.Places.{PlacesValue}
use Rattle.hash_ring.specs.Ring.{is_active_in}
use Rattle.hash_ring.specs.Hash.{hash_grain}
use Rattle.directory_rules.specs.declared.act.Request.{Request}
use Rattle.directory_rules.specs.declared.held.Held.{Held}
use Rattle.directory_rules.specs.declared.held.Phase.TheVariants.{Firm}
use Rattle.directory_rules.specs.declared.reply.Reply.{Reply}
use Rattle.directory_rules.specs.declared.reply.Reply.TheVariants as reply
use Rattle.directory_rules.specs.declared.effect.Effect.{Effect}
use Rattle.directory_rules.specs.declared.effect.Effect.TheVariants as effect
use Rattle.directory_rules.specs.declared.piece_state.PieceState.TheVariants as state
use Rattle.directory_rules.specs.State.{Piece, Table, Page, Gathering, Report, Recovery, Letter, Request_letter, Reply_letter, Ask_letter, Page_letter, Missing_letter, Done_letter, Query_letter, Report_letter, Survey_letter, Empty_letter, Behind_letter, Ahead_letter, Offer_letter, Node}
use Rattle.directory_rules.specs.Table.{table_of, rise_by_grain, lie_in}
use Rattle.directory_rules.specs.Sight.{is_next}
use Rattle.directory_rules.specs.Snapshot.{Hands_page, Has_none, shelf_answer, has_snapshot, shelf_without}
use Rattle.directory_rules.specs.Gatherings.{Wants_page, Has_all, Refuses, gathered}
use Rattle.directory_rules.specs.Recovery.{Has_more, Awaits_more, Has_union, recovered}
use Rattle.directory_rules.specs.Standing.{rise_behind}
use Rattle.directory_rules.specs.Host.{held_of, is_asking, outstanding, requests_about, has_numbers, has_count, is_full_of_activations, is_full_of_finds, asking_under, closing_under, is_finding, confirmed, without_held, without_find, renewed_about}
use Rattle.directory_rules.specs.Cache.{hint_of, in_front, without_pair, learnt}
use Rattle.directory_rules.specs.Sent.{gathering_of, recovery_of}
use Rattle.directory_rules.specs.Answer.{answered}
use Rattle.directory_rules.specs.Step.{Stepped, silently, sight, started, closing, cancelled, offered, finding, having_nudged, having_nudged_grain, nudge_ranges}
use Rattle.directory_rules.specs.Host as host
use Rattle.directory_rules.specs.Transfer.{answering, piece_at, with_settled, with_gathering, with_recovery, asking_on, turned_to_recovery, querying, querying_on, report_of, tellings, told_nothing}
use Rattle.directory_rules.specs.Receive.{replying}
use Rattle.directory_rules.specs.PlainMachine.{Nothing_changes, step_of_effect}
use Rattle.directory_rules.specs.declared.own_step.OwnStep.TheVariants.{Wake, Close, Cancel, Find, Forget, Nudge, NudgeGrain, NudgeRanges, Offer}
use Rattle.directory_rules.specs.Input.{Input, Sees, Does, Receives}

-- an activation of the grain may begin: the silo is Active in the view that it has seen, holds none of the grain, and has a
-- place, a number and a count left
pub record MayBegin (node : Node) (grain : Grain) : Type 0 where
  pub active : is_active_in node.view node.host.silo ≡ true
  pub free : held_of node.host grain ≡ None
  pub room : is_full_of_activations node.settings node.host ≡ false
  pub numbers : has_numbers node.settings node.host 1 ≡ true
  pub count : has_count node.settings node.host ≡ true

-- an activation is firm, and there is a number left
pub record MayClose (node : Node) (grain : Grain) (held : Held) : Type 0 where
  pub found : held_of node.host grain ≡ Some held
  pub firm : held.phase ≡ Firm
  pub numbers : has_numbers node.settings node.host 1 ≡ true

-- an activation asks, and there is a number left
pub record MayCancel (node : Node) (grain : Grain) (held : Held) : Type 0 where
  pub found : held_of node.host grain ≡ Some held
  pub asks : is_asking held.phase ≡ true
  pub numbers : has_numbers node.settings node.host 1 ≡ true

-- a reply counts: it is of the version that the node has seen
pub record IsReply (node : Node) (letter : Letter) (number : ℕ) (answer : Reply) : Type 0 where
  pub body : letter.body ≡ Reply_letter number answer
  pub seen : letter.version ≡ node.view.version

-- the node has seen the version, and has a piece of just that range
pub record HasPiece (node : Node) (version : ℕ) (range : Range) (piece : Piece) : Type 0 where
  pub seen : version ≡ node.view.version
  pub found : piece_at node range ≡ Some piece
  pub same : piece.range ≡ range

-- a page counts
pub record IsPageTaken (node : Node) (letter : Letter) (page : Page) : Type 0 where
  pub body : letter.body ≡ Page_letter page
  pub version : page.version ≡ letter.version
  pub piece : Piece
  pub has : HasPiece node letter.version page.range piece
  pub awaits : piece.state ≡ state.Awaiting letter.from
  pub rise : rise_by_grain ((gathering_of node page.range).entries ++ page.entries) ≡ true
  pub lie : lie_in node.settings.hashing page.range page.entries ≡ true

-- a report counts
pub record IsReportTaken (node : Node) (letter : Letter) (report : Report) : Type 0 where
  pub body : letter.body ≡ Report_letter report
  pub version : report.version ≡ letter.version
  pub sender : report.silo ≡ letter.from
  pub piece : Piece
  pub has : HasPiece node letter.version report.range piece
  pub recovers : piece.state ≡ state.Recovering
  pub rise : rise_behind (hash_grain node.settings.hashing) (report.range ∷ []) report.after report.entries ≡ true
  pub lie : lie_in node.settings.hashing report.range report.entries ≡ true
  pub own : list_all (λ e. silo_eq e.activation.silo letter.from) report.entries ≡ true
  pub some : (report.last || nat_lt 0 (length report.entries)) ≡ true

-- what is to be shown of every way
pub record Ways (node : Node) (P : Input → Stepped → Type 0) : Type 0 where
  -- nothing changes, also to the plain machine, and no letter goes out
  pub nothing : (input : Input) (effect : Effect) → step_of_effect effect ≡ Nothing_changes → P input (silently node effect)
  -- steps of the silo's own
  pub sees : (before view : ViewValue) (places : PlacesValue) → node.view.version < view.version
      → has_numbers node.settings node.host (length (outstanding node.host)) ≡ true
      → P (Sees before view places) (sight (is_next node.view before view node.host.silo) node before view places)
  pub wakes : (grain : Grain) → MayBegin node grain → P (Does (Wake grain)) (started node grain None)
  pub closes : (grain : Grain) (held : Held) → MayClose node grain held → P (Does (Close grain)) (closing node grain held)
  pub cancels : (grain : Grain) (held : Held) → MayCancel node grain held → P (Does (Cancel grain)) (cancelled node grain held)
  pub offers : (grain : Grain) (held : Held) (to : Silo) → MayClose node grain held → is_active_in node.view to ≡ true → to ≢ node.host.silo
      → P (Does (Offer grain to)) (offered node grain held to)
  pub uses_hint : (grain : Grain) (activation : ActivationId) → hint_of node.cache grain ≡ Some activation
      → P (Does (Find grain)) (silently (record node { cache = in_front node.cache grain activation })
      (effect.Cached (record { grain = grain; activation = activation })))
  pub finds : (grain : Grain) → is_full_of_finds node.settings node.host ≡ false → has_numbers node.settings node.host 1 ≡ true
      → P (Does (Find grain)) (finding node grain)
  pub forgets : (grain : Grain) (activation : ActivationId) → hint_of node.cache grain ≡ Some activation
      → P (Does (Forget grain)) (silently (record node { cache = without_pair node.cache grain activation }) (effect.Forgot grain))
  pub nudges : has_numbers node.settings node.host (length (outstanding node.host)) ≡ true
      → P (Does Nudge) (having_nudged (record node { host = host.renewed node.host }))
  pub nudges_grain : (grain : Grain) → has_numbers node.settings node.host (length (requests_about grain node.host)) ≡ true
      → P (Does (NudgeGrain grain)) (having_nudged_grain (record node { host = renewed_about grain node.host }) grain)
  pub nudges_ranges : P (Does NudgeRanges) (nudge_ranges node)
  -- a request is answered
  pub answers : (letter : Letter) (request : Request) → letter.body ≡ Request_letter request → request.sender ≡ letter.from
      → request.version ≡ letter.version
      → P (Receives letter) (replying node request (answered node.holding request))
  -- replies that count
  pub confirms : (letter : Letter) (number : ℕ) (entry : Entry) (e : Grain × Held) → IsReply node letter number (reply.Registered entry)
      → asking_under node.host number ≡ Some e
      → P (Receives letter) (silently (record node { host = confirmed node.host e.0 e.1 }) effect.Firm)
  pub yields : (letter : Letter) (number : ℕ) (entry : Entry) (e : Grain × Held) → IsReply node letter number (reply.Taken entry)
      → asking_under node.host number ≡ Some e
      → P (Receives letter) (silently (record node { host = without_held node.host e.0; cache = learnt node.cache entry }) effect.Yielded)
  pub removes : (letter : Letter) (number : ℕ) (e : Grain × Held) → IsReply node letter number reply.Removed
      → closing_under node.host number ≡ Some e
      → P (Receives letter) (silently (record node { host = without_held node.host e.0 }) effect.Ended)
  pub misses : (letter : Letter) (number : ℕ) (e : Grain × Held) → IsReply node letter number reply.Absent
      → closing_under node.host number ≡ Some e
      → P (Receives letter) (silently (record node { host = without_held node.host e.0 }) effect.Ended)
  pub learns : (letter : Letter) (number : ℕ) (entry : Entry) → IsReply node letter number (reply.Found entry)
      → is_finding node.host number ≡ true
      → P (Receives letter) (silently (record node { host = without_find node.host number; cache = learnt node.cache entry }) effect.Learnt)
  pub notes : (letter : Letter) (number : ℕ) → IsReply node letter number reply.Nothing → is_finding node.host number ≡ true
      → P (Receives letter) (silently (record node { host = without_find node.host number }) effect.Noted)
  -- the previous owner
  pub hands : (letter : Letter) (range : Range) (number : ℕ) (page : Page) → letter.body ≡ Ask_letter range number
      → shelf_answer node.shelf node.view.version letter.version range letter.from number ≡ Hands_page page
      → P (Receives letter) (answering letter node (Page_letter page) effect.Page)
  pub lacks : (letter : Letter) (range : Range) (number : ℕ) → letter.body ≡ Ask_letter range number
      → shelf_answer node.shelf node.view.version letter.version range letter.from number ≡ Has_none
      → P (Receives letter) (answering letter node (Missing_letter range) effect.Missing)
  pub forgoes : (letter : Letter) (range : Range) → letter.body ≡ Done_letter range
      → has_snapshot node.shelf letter.version range letter.from ≡ true
      → P (Receives letter) (silently (record node { shelf = shelf_without node.shelf letter.version range letter.from }) effect.Deleted)
  -- a silo that is asked for a version that it hasn't seen yet, or has passed, or has just seen
  pub lags : (letter : Letter) (range : Range) → P (Receives letter) (answering letter node (Behind_letter range) effect.Behind)
  pub passed : (letter : Letter) (range : Range) → P (Receives letter) (answering letter node (Ahead_letter range) effect.Ahead)
  pub reports : (letter : Letter) (range : Range) (after : Option Grain) → letter.body ≡ Query_letter range after
      → letter.version ≡ node.view.version
      → P (Receives letter) (answering letter node (Report_letter (report_of node range after)) effect.Report)
  pub surveys : (letter : Letter) (first : Range) (others : List Range) → letter.body ≡ Survey_letter (first ∷ others)
      → letter.version ≡ node.view.version
      → P (Receives letter) (record { node = node; letters = tellings letter node (first ∷ others); effect = effect.Report })
  -- the new owner
  pub gathers : (letter : Letter) (page : Page) (gathering : Gathering) → IsPageTaken node letter page
      → gathered (gathering_of node page.range) page ≡ Wants_page gathering
      → P (Receives letter) (asking_on letter page.range (with_gathering node gathering))
  pub installs : (letter : Letter) (page : Page) (entries : List Entry) → IsPageTaken node letter page
      → gathered (gathering_of node page.range) page ≡ Has_all entries
      → P (Receives letter) (answering letter (with_settled node page.range (table_of entries)) (Done_letter page.range) effect.Installed)
  pub drops : (letter : Letter) (page : Page) (gathering : Gathering) → IsPageTaken node letter page
      → gathered (gathering_of node page.range) page ≡ Refuses 701 gathering
      → P (Receives letter) (silently (with_gathering node gathering) (effect.Refused 701))
  pub turns : (letter : Letter) (range : Range) (piece : Piece) → letter.body ≡ Missing_letter range
      → HasPiece node letter.version range piece → piece.state ≡ state.Awaiting letter.from
      → P (Receives letter) (querying range (turned_to_recovery node range))
  pub continues : (letter : Letter) (report : Report) (recovery : Recovery) → IsReportTaken node letter report
      → recovered (recovery_of node report.range) report ≡ Has_more recovery
      → P (Receives letter) (querying_on report.range report.silo (with_recovery node recovery))
  pub collects : (letter : Letter) (report : Report) (recovery : Recovery) → IsReportTaken node letter report
      → recovered (recovery_of node report.range) report ≡ Awaits_more recovery
      → P (Receives letter) (silently (with_recovery node recovery) effect.More)
  pub completes : (letter : Letter) (report : Report) (table : Table) → IsReportTaken node letter report
      → recovered (recovery_of node report.range) report ≡ Has_union table
      → P (Receives letter) (silently (with_settled node report.range table) effect.Complete)
  -- of each of these ranges a silo reports that it has nothing there
  pub empties : (letter : Letter) (ranges : List Range) (its : Effect) → letter.body ≡ Empty_letter ranges
      → step_of_effect its ≡ Nothing_changes
      → P (Receives letter) (silently (fold (told_nothing letter) node ranges) its)
  -- an offer is taken
  pub takes_over : (letter : Letter) (entry : Entry) → letter.body ≡ Offer_letter entry → letter.version ≤ node.view.version
      → MayBegin node entry.grain → P (Receives letter) (started node entry.grain (Some entry.activation))

-- What silos do with the letters of transfers and recoveries.
use Rattle.std.specs.Prelude.{ℕ, ◌==◌, ◌&&◌, ◌||◌, nat_lt, nat_le, Bool, true, false, if◌then◌else◌, not, List, [], ◌∷◌, ◌++◌, length, take, map, filter, fold, Option, Some, None}
use Rattle.std.specs.Ordering.{nat_cmp}
use Rattle.std.specs.List.{list_all, list_any}
use Rattle.std.specs.Map.{lookup, remove_entry}
use Rattle.std.specs.BTreeMap.{is_at, insert_entry}
use Rattle.silo_address.specs.Silo.{Silo, silo_eq}
use Rattle.silo_address.specs.Grain.{Grain}
use Rattle.silo_address.specs.declared.Entry.{Entry}
use Rattle.ring_range.specs.Range.{Range, range_eq}
use Rattle.hash_ring.specs.Hash.{hash_grain}
use Rattle.directory_rules.specs.declared.piece_state.PieceState.{PieceState}
use Rattle.directory_rules.specs.declared.piece_state.PieceState.TheVariants as state
use Rattle.directory_rules.specs.declared.effect.Effect.{Effect}
use Rattle.directory_rules.specs.declared.effect.Effect.TheVariants as effect
use Rattle.directory_rules.specs.State.{Table, Piece, Page, Gathering, Report, Recovery, Body, Page_letter, Missing_letter, Done_letter, Report_letter, Empty_letter, Behind_letter, Ahead_letter, Letter, Node}
use Rattle.directory_rules.specs.Table.{table_of, rise_by_grain, lie_in}
use Rattle.directory_rules.specs.Snapshot.{ShelfAnswer, Hands_page, Has_none, Is_behind, shelf_answer, has_snapshot, shelf_without}
use Rattle.directory_rules.specs.Gatherings.{Gathered, Wants_page, Has_all, Refuses, gathered}
use Rattle.directory_rules.specs.Standing.{rise_behind}
use Rattle.directory_rules.specs.Recovery.{Recovered, Has_more, Awaits_more, Has_union, Rejects, new_recovery, recovered}
use Rattle.directory_rules.specs.Host.{firm_behind}
use Rattle.directory_rules.specs.Answer.{with_piece}
use Rattle.directory_rules.specs.Sent.{gathering_of, recovery_of, ask_letters, query_to, query_letters}
use Rattle.directory_rules.specs.Step.{Stepped, silently}

-- a letter back to the sender, of the letter's version
abbrev pub answer_to : Letter → Node → Body → Letter
answer_to letter node body = record { from = node.host.silo; to = letter.from; version = letter.version; body = body }

-- a step that changes nothing and sends one letter back
abbrev pub answering : Letter → Node → Body → Effect → Stepped
answering letter node body effect = record { node = node; letters = answer_to letter node body ∷ []; effect = effect }

-- The previous owner.

-- the letter back, by the shelf's answer
abbrev pub asked_by : ShelfAnswer → Letter → Range → Node → Stepped
asked_by (Hands_page page) letter range node = answering letter node (Page_letter page) effect.Page
asked_by Has_none letter range node = answering letter node (Missing_letter range) effect.Missing
asked_by Is_behind letter range node = answering letter node (Behind_letter range) effect.Behind

-- an ask is answered from the shelf
abbrev pub asked : Node → Letter → Range → (page : ℕ) → Stepped
asked node letter range page =
    asked_by (shelf_answer node.shelf node.view.version letter.version range letter.from page) letter range node

-- the new owner has its snapshot
abbrev pub done : Node → Letter → Range → Stepped
done node letter range =
    if has_snapshot node.shelf letter.version range letter.from
    then silently (record node { shelf = shelf_without node.shelf letter.version range letter.from }) effect.Deleted
    else silently node effect.Ignored

-- The new owner.

-- the piece of just that range
abbrev pub piece_at : Node → Range → Option Piece
piece_at node range = lookup (is_at (nat_cmp range.start)) node.holding.pieces

-- whether the state awaits the silo's snapshot
abbrev pub is_awaiting_from : Silo → PieceState → Bool
is_awaiting_from silo state.Settled = false
is_awaiting_from silo (state.Awaiting from) = silo_eq from silo
is_awaiting_from silo state.Recovering = false

-- whether the state recovers
abbrev pub is_recovering : PieceState → Bool
is_recovering state.Settled = false
is_recovering (state.Awaiting from) = false
is_recovering state.Recovering = true

-- whether there is a piece, of just that range and in such a state
abbrev pub has_range : (PieceState → Bool) → Range → Option Piece → Bool
has_range test range None = false
has_range test range (Some piece) = range_eq piece.range range && test piece.state

-- whether the node has seen the version, and there awaits the snapshot of a piece of just that range from the silo
abbrev pub awaits : Node → (version : ℕ) → Range → (from : Silo) → Bool
awaits node version range from = (version == node.view.version) && has_range (is_awaiting_from from) range (piece_at node range)

-- whether the node has seen the version, and there recovers a piece of just that range
abbrev pub recovers : Node → (version : ℕ) → Range → Bool
recovers node version range = (version == node.view.version) && has_range is_recovering range (piece_at node range)

-- with a piece of that range in that state and with that table
abbrev pub with_state : Node → Range → PieceState → Table → Node
with_state node range state table =
    record node { holding = record node.holding { pieces = with_piece (record { range = range; state = state; entries = table }) node.holding.pieces } }

-- the piece has its entries, and nothing is gathered or recovered for it any more
abbrev pub with_settled : Node → Range → Table → Node
with_settled node range table = record (with_state node range state.Settled table) {
  gatherings = remove_entry (is_at (nat_cmp range.start)) node.gatherings;
  recoveries = remove_entry (is_at (nat_cmp range.start)) node.recoveries;
}

-- with what has been gathered for a piece
abbrev pub with_gathering : Node → Gathering → Node
with_gathering node gathering = record node { gatherings = insert_entry nat_cmp node.gatherings gathering.range.start gathering }

-- with what has been reported for a piece
abbrev pub with_recovery : Node → Recovery → Node
with_recovery node recovery = record node { recoveries = insert_entry nat_cmp node.recoveries recovery.range.start recovery }

-- more pages are wanted of the sender
abbrev pub asking_on : Letter → Range → Node → Stepped
asking_on letter range node = record { node = node; letters = ask_letters node range letter.from; effect = effect.Gathering }

-- a page that is refused: 701 is told and leaves the gathering empty, others are ignored
abbrev pub refused_page : (number : ℕ) → Gathering → Node → Stepped
refused_page number gathering node =
    if number == 701 then silently (with_gathering node gathering) (effect.Refused 701) else silently node effect.Ignored

-- by what came of the page
abbrev pub gathered_by : Gathered → Letter → Range → Node → Stepped
gathered_by (Wants_page gathering) letter range node = asking_on letter range (with_gathering node gathering)
gathered_by (Has_all entries) letter range node = answering letter (with_settled node range (table_of entries)) (Done_letter range) effect.Installed
gathered_by (Refuses number gathering) letter range node = refused_page number gathering node

-- whether the page counts: it is of the letter's version, it is awaited from the sender, its entries are hashed into the
-- range and go on in the order of the grains
abbrev pub is_page_awaited : Node → Letter → Page → Bool
is_page_awaited node letter page =
    (page.version == letter.version) && awaits node letter.version page.range letter.from
    && rise_by_grain ((gathering_of node page.range).entries ++ page.entries) && lie_in node.settings.hashing page.range page.entries

-- a page comes
abbrev pub paged : Node → Letter → Page → Stepped
paged node letter page =
    if is_page_awaited node letter page then gathered_by (gathered (gathering_of node page.range) page) letter page.range node
    else silently node effect.Ignored

-- the piece recovers from now on: nothing is gathered for it, and all silos are asked
abbrev pub turned_to_recovery : Node → Range → Node
turned_to_recovery node range = record (with_recovery (with_state node range state.Recovering []) (new_recovery node.view range)) {
  gatherings = remove_entry (is_at (nat_cmp range.start)) node.gatherings;
}

-- all silos are asked for the range
abbrev pub querying : Range → Node → Stepped
querying range node = record { node = node; letters = query_letters node range; effect = effect.Recovering }

-- the previous owner has no snapshot
abbrev pub missing : Node → Letter → Range → Stepped
missing node letter range =
    if awaits node letter.version range letter.from then querying range (turned_to_recovery node range) else silently node effect.Ignored

-- Recovery.

-- the report on a range, behind a grain: the first of these entries, as many as the silo tells in one
abbrev pub report_with : Node → Range → (after : Option Grain) → List Entry → Report
report_with node range after entries = record {
  version = node.view.version;
  range = range;
  silo = node.host.silo;
  after = after;
  entries = take node.settings.report_size entries;
  last = nat_le (length entries) node.settings.report_size;
}

-- of what is firm there
abbrev pub report_of : Node → Range → (after : Option Grain) → Report
report_of node range after = report_with node range after (firm_behind node.settings.hashing node.host range after)

-- a query is answered by a report where the node has seen just its version; the node keeps nothing of it
abbrev pub queried : Node → Letter → Range → (after : Option Grain) → Stepped
queried node letter range after =
    if nat_lt node.view.version letter.version then answering letter node (Behind_letter range) effect.Behind
    else (if nat_lt letter.version node.view.version then answering letter node (Ahead_letter range) effect.Ahead
    else answering letter node (Report_letter (report_of node range after)) effect.Report)

-- the silo is asked on, behind what it has told
abbrev pub querying_on : Range → Silo → Node → Stepped
querying_on range silo node = record { node = node; letters = query_to node range silo ∷ []; effect = effect.More }

-- by what came of the report
abbrev pub recovered_by : Recovered → Report → Node → Stepped
recovered_by (Has_more recovery) report node = querying_on report.range report.silo (with_recovery node recovery)
recovered_by (Awaits_more recovery) report node = silently (with_recovery node recovery) effect.More
recovered_by (Has_union table) report node = silently (with_settled node report.range table) effect.Complete
recovered_by (Rejects number) report node = silently node effect.Ignored

-- whether the report counts: it is the sender's, of the letter's version, and the piece recovers; its entries are the sender's, are
-- hashed into the range, stand behind its grain and one behind the other; and it has one at least, unless it is the last
abbrev pub is_report_awaited : Node → Letter → Report → Bool
is_report_awaited node letter report =
    (report.version == letter.version) && silo_eq report.silo letter.from && recovers node letter.version report.range
    && rise_behind (hash_grain node.settings.hashing) (report.range ∷ []) report.after report.entries
    && lie_in node.settings.hashing report.range report.entries
    && list_all (λ e. silo_eq e.activation.silo letter.from) report.entries
    && (report.last || nat_lt 0 (length report.entries))

-- a report comes
abbrev pub reported : Node → Letter → Report → Stepped
reported node letter report =
    if is_report_awaited node letter report then recovered_by (recovered (recovery_of node report.range) report) report node
    else silently node effect.Ignored

-- Several ranges at once.

-- whether the silo has nothing firm in the range
abbrev pub has_nothing : Node → Range → Bool
has_nothing node range = length (firm_behind node.settings.hashing node.host range None) == 0

-- one letter of all ranges in which it has nothing, if there are any
abbrev pub empty_letters : Letter → Node → List Range → List Letter
empty_letters letter node [] = []
empty_letters letter node (range ∷ ranges) = answer_to letter node (Empty_letter (range ∷ ranges)) ∷ []

-- and a report on each other one, from its start on
abbrev pub tellings : Letter → Node → List Range → List Letter
tellings letter node ranges =
    empty_letters letter node (filter (has_nothing node) ranges)
    ++ map (λ range. answer_to letter node (Report_letter (report_of node range None))) (filter (λ range. not (has_nothing node range)) ranges)

-- a survey is answered so where the node has seen just its version
abbrev pub surveyed : Node → Letter → List Range → Stepped
surveyed node letter [] = silently node effect.Ignored
surveyed node letter (first ∷ others) =
    if nat_lt node.view.version letter.version then answering letter node (Behind_letter first) effect.Behind
    else (if nat_lt letter.version node.view.version then answering letter node (Ahead_letter first) effect.Ahead
    else record { node = node; letters = tellings letter node (first ∷ others); effect = effect.Report })

-- the letter's sender reports that it has nothing in a range
abbrev pub nothing_in : Letter → Range → Report
nothing_in letter range =
    record { version = letter.version; range = range; silo = letter.from; after = None; entries = []; last = true }

-- the node with that report
abbrev pub told_nothing : Letter → Node → Range → Node
told_nothing letter node range = (reported node letter (nothing_in letter range)).node

-- whether that report is taken, and whether with it all silos have told all
abbrev pub is_taken : Recovered → Bool
is_taken (Has_more recovery) = true
is_taken (Awaits_more recovery) = true
is_taken (Has_union table) = true
is_taken (Rejects number) = false

abbrev pub is_whole : Recovered → Bool
is_whole (Has_more recovery) = false
is_whole (Awaits_more recovery) = false
is_whole (Has_union table) = true
is_whole (Rejects number) = false

-- whether so much comes of the report that it has nothing in the range, if the node recovers that
abbrev pub nothing_makes : (Recovered → Bool) → Letter → Node → Range → Bool
nothing_makes test letter node range =
    recovers node letter.version range && test (recovered (recovery_of node range) (nothing_in letter range))

-- the effect: a range settles by it, or one counts
abbrev pub empty_effect : Letter → Node → List Range → Effect
empty_effect letter node ranges =
    if list_any (nothing_makes is_whole letter node) ranges then effect.Complete
    else (if list_any (nothing_makes is_taken letter node) ranges then effect.More else effect.Ignored)

-- a silo has nothing in these ranges: as if it reported so of each
abbrev pub emptied : Node → Letter → List Range → Stepped
emptied node letter ranges = silently (fold (told_nothing letter) node ranges) (empty_effect letter node ranges)

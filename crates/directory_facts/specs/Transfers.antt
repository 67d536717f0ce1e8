-- Whole transfers and recoveries: what they leave is just what was sealed, and just what was reported.
use Rattle.std.specs.Prelude.{◌≡◌, true, List, map, fold, length, Some}
use Rattle.std.specs.List.{range_with_len}
use Rattle.silo_address.specs.declared.Entry.{Entry}
use Rattle.ring_range.specs.Range.{Range}
use Rattle.directory_rules.specs.declared.piece_state.PieceState.TheVariants.{Settled}
use Rattle.directory_rules.specs.State.{Table, Snapshot, Page, Report, Letter, Node}
use Rattle.directory_rules.specs.Table.{table_of}
use Rattle.directory_rules.specs.Snapshot.{page_count, page_of}
use Rattle.directory_rules.specs.Gatherings.{Gathered, Wants_page, Has_all, Refuses, new_gathering, gathered}
use Rattle.directory_rules.specs.Recovery.{Has_union, recovered}
use Rattle.directory_rules.specs.Sent.{gathering_of, recovery_of}
use Rattle.directory_rules.specs.Transfer.{piece_at, is_page_awaited, paged, is_report_awaited, reported}

-- a snapshot's pages, from the first to the last
abbrev pub pages_of : Snapshot → List Page
pages_of snapshot = map (page_of snapshot) (range_with_len 0 (page_count (length snapshot.entries)))

-- one page more, where one is wanted
abbrev pub then_page : Gathered → Page → Gathered
then_page (Wants_page gathering) page = gathered gathering page
then_page (Has_all entries) page = Has_all entries
then_page (Refuses number gathering) page = Refuses number gathering

-- a snapshot's pages, taken one after the other, are all of its entries, and no page is refused
abbrev pub PagesAreTheSnapshot : Type 0
PagesAreTheSnapshot = (snapshot : Snapshot) → fold then_page (Wants_page (new_gathering snapshot.version snapshot.range)) (pages_of snapshot) ≡ Has_all snapshot.entries

-- the node's piece of just that range is settled with this table
abbrev pub IsSettledWith : Node → Range → Table → Type 0
IsSettledWith node range table = piece_at node range ≡ Some (record { range = range; state = Settled; entries = table })

-- the page with which all is gathered settles its piece with just these entries
abbrev pub LastPageSettles : Type 0
LastPageSettles = (node : Node) (letter : Letter) (page : Page) (entries : List Entry) → is_page_awaited node letter page ≡ true → gathered (gathering_of node page.range) page ≡ Has_all entries
    → IsSettledWith (paged node letter page).node page.range (table_of entries)

-- the report with which all silos have reported settles its piece with just what they reported
abbrev pub LastReportSettles : Type 0
LastReportSettles = (node : Node) (letter : Letter) (report : Report) (table : Table) → is_report_awaited node letter report ≡ true → recovered (recovery_of node report.range) report ≡ Has_union table
    → IsSettledWith (reported node letter report).node report.range table

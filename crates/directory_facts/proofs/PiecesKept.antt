-- Every step leaves a node's pieces pieces, each entry in the piece of its hash.
use Rattle.std.proofs.Common.{◌≡◌, refl, sym, ap, subst, ℕ, List, [], ◌∷◌}
use Rattle.std.specs.Prelude.{⊤, Bool, true, All, fold}
use Rattle.std.specs.Ordering.{nat_cmp}
use Rattle.std.specs.BTreeMap.{is_at}
use Rattle.std.specs.List.{cons_option}
use Rattle.std.proofs.lemmas.List.Elements.{All-nil, All-cons}
use Rattle.std.proofs.lemmas.Map.Lookups.{exact_unsigned}
use Rattle.silo_address.specs.Silo.{Silo}
use Rattle.membership_view.specs.View.{ViewValue}
use Rattle.membership_view.specs.Views.{ViewsValue}
use Rattle.ring_range.specs.Range.{Range}
use Rattle.hash_ring.specs.declared.Hashing.{Hashing}
use Rattle.hash_ring.specs.Point.{IsOnCircle}
use Rattle.hash_ring.specs.Places.{PlacesValue, IsPlaces}
use Rattle.hash_ring.specs.Ring.{sorted_ring}
use Rattle.range_moves.specs.Arcs.{arcs_of}
use Rattle.range_moves.proofs.Between.{arcs_whole}
use Rattle.directory_rules.specs.declared.act.Request.{Request}
use Rattle.directory_rules.specs.declared.piece_state.PieceState.{PieceState}
use Rattle.directory_rules.specs.declared.piece_state.PieceState.TheVariants as state
use Rattle.directory_rules.specs.Settings.{Settings, AreSettings}
use Rattle.directory_rules.specs.State.{Table, Piece, Page, Gathering, Report, Recovery, Letter, Request_letter, Node}
use Rattle.directory_rules.specs.Table.{table_of, rise_by_grain, lie_in}
use Rattle.directory_rules.specs.Sight.{is_next}
use Rattle.directory_rules.specs.Gatherings.{new_gathering, gathered}
use Rattle.directory_rules.specs.Recovery.{new_recovery, recovered}
use Rattle.directory_rules.specs.Node.{new_node}
use Rattle.directory_rules.specs.Answer.{answered}
use Rattle.directory_rules.specs.Sent.{gathering_of, recovery_of}
use Rattle.directory_rules.specs.Step as at
use Rattle.directory_rules.specs.Transfer as tr
use Rattle.directory_rules.specs.Input.{Input}
use Rattle.directory_rules.specs.Laws.{NamesHashes}
use Rattle.directory_rules.proofs.PlacesRun.{places_kept, first_places}
use Rattle.directory_rules.proofs.Sights.{on_circle, compared}
use Rattle.directory_facts.specs.Own.{SaysOwn}
use Rattle.directory_facts.specs.Seen.{SeesItsVersion}
use Rattle.directory_facts.specs.Pieces.{IsHashedInto, IsTableOf, IsGathering, IsRecovery, HasPieces}
use Rattle.directory_facts.proofs.Entries.{all_put, all_removed}
use Rattle.directory_facts.proofs.Carried.{Facts, Brings, Keeps, Both, KeepsBeside, beside, both_keep}
use Rattle.directory_facts.proofs.Ways.{HasPiece, IsPageTaken, IsReportTaken, Ways}
use Rattle.directory_facts.proofs.EachStep.{by_way}
use Rattle.directory_facts.proofs.Owners.{OwnNode, own_facts, own_keep, own_left}
use Rattle.directory_facts.proofs.SeenRings.{seen_facts, seen_keep, stay}
use Rattle.directory_facts.proofs.Tables.{table_nil, table_rising}
use Rattle.directory_facts.proofs.Collected.{found_or, gathered_into, GatheredInto, recovered_into, RecoveredInto}
use Rattle.directory_facts.proofs.Emptied.{as_report, by_each_beside, by_nothing}
use Rattle.directory_facts.proofs.Pieces.{HasTable, Pieces, no_pieces, are_pieces, bare_table, pieces_made, pieces_changed, pieces_answered}

-- what a node keeps of ranges
pub record Keeping (hashing : Hashing) (pieces : List (ℕ × Piece)) (gatherings : List (ℕ × Gathering)) (recoveries : List (ℕ × Recovery)) :
    Type 0 where
  pub pieces_are : Pieces hashing pieces
  pub gathered_in : All (λ e. IsGathering hashing e.1) gatherings
  pub recovered_in : All (λ e. IsRecovery hashing e.1) recoveries

abbrev pub KeepsRanges : Hashing → Node → Type 0
KeepsRanges hashing node = Keeping hashing node.holding.pieces node.gatherings node.recoveries

pub has_pieces : (hashing : Hashing) (node : Node) → KeepsRanges hashing node → HasPieces hashing node
has_pieces hashing node keeps =
    record {
      pieces = are_pieces hashing node.holding.pieces keeps.pieces_are;
      gatherings = keeps.gathered_in;
      recoveries = keeps.recovered_in;
    }

-- who a silo is and what it has seen
abbrev pub base_facts : Facts
base_facts = Both own_facts seen_facts

abbrev pub piece_facts : Facts
piece_facts = record {
  asked = AreSettings;
  named = NamesHashes;
  shared = λ settings views places. IsPlaces places;
  node = λ settings views places silo node. KeepsRanges settings.hashing node;
  letter = λ settings letter. ⊤;
}

-- ---- what begins anew
gatherings_anew : (hashing : Hashing) (view : ViewValue) (pieces : List (ℕ × Piece))
    → All (λ e. IsGathering hashing e.1) (at.new_gatherings view pieces)
gatherings_anew hashing view [] = All-nil _
gatherings_anew hashing view (e ∷ es) = by e.1.state (gatherings_anew hashing view es)
  where
    by : (its : PieceState) → All (λ x. IsGathering hashing x.1) (at.new_gatherings view es)
        → All (λ x. IsGathering hashing x.1) (cons_option (at.gathering_in its view e.1) (at.new_gatherings view es))
    by state.Settled later = later
    by (state.Awaiting from) later =
        All-cons (λ (x : ℕ × Gathering). IsGathering hashing x.1) (e.1.range.start, new_gathering view.version e.1.range)
        (at.new_gatherings view es) (All-nil (IsHashedInto hashing e.1.range)) later
    by state.Recovering later = later

recoveries_anew : (hashing : Hashing) (view : ViewValue) (pieces : List (ℕ × Piece))
    → All (λ e. IsRecovery hashing e.1) (at.new_recoveries view pieces)
recoveries_anew hashing view [] = All-nil _
recoveries_anew hashing view (e ∷ es) = by e.1.state (recoveries_anew hashing view es)
  where
    by : (its : PieceState) → All (λ x. IsRecovery hashing x.1) (at.new_recoveries view es)
        → All (λ x. IsRecovery hashing x.1) (cons_option (at.recovery_in its view e.1) (at.new_recoveries view es))
    by state.Settled later = later
    by (state.Awaiting from) later = later
    by state.Recovering later =
        All-cons (λ (x : ℕ × Recovery). IsRecovery hashing x.1) (e.1.range.start, new_recovery view e.1.range) (at.new_recoveries view es)
        (table_nil hashing e.1.range) later

-- ---- steps
module _ (settings : Settings) (views : ViewsValue) (places : PlacesValue) (silo : Silo) (node : Node) (own : OwnNode settings silo node)
    (sees : SeesItsVersion views places node) (placed : IsPlaces places) (keeps : KeepsRanges settings.hashing node) where
  abbrev Made : Input → at.Stepped → Type 0
  Made input stepped = Brings base_facts settings views places silo input → KeepsRanges settings.hashing stepped.node

  hashes : node.settings.hashing ≡ settings.hashing
  hashes = ap (λ (s : Settings). s.hashing) own.by_settings

  ring_on_circle : All IsOnCircle node.ring.points
  ring_on_circle = subst (All IsOnCircle) (sym (ap (λ r. r.points) sees.ring_is)) (on_circle node.view places placed)

  sighted : (next : Bool) (before view : ViewValue) (brought : PlacesValue) → brought ≡ places
      → KeepsRanges settings.hashing (at.sight next node before view brought).node
  sighted next before view brought same =
      let kept = subst IsPlaces (sym same) placed in
      let old = at.compared_points next node before brought in
      let new = sorted_ring view brought in
      let pieces = (at.sight next node before view brought).node.holding.pieces in
      record {
        pieces_are = subst (λ hashing. Pieces hashing pieces) hashes
            (pieces_made next node.settings.hashing view node.host.silo node.holding.pieces old new (arcs_of old new)
            (arcs_whole old new (compared next node before brought ring_on_circle kept) (on_circle view brought kept)));
        gathered_in = gatherings_anew settings.hashing view pieces;
        recovered_in = recoveries_anew settings.hashing view pieces;
      }

  -- the piece of a range is changed
  changed : (version : ℕ) (range : Range) (piece : Piece) (its : PieceState) (table : Table) → HasPiece node version range piece
      → HasTable settings.hashing (record { range = range; state = its; entries = table })
      → Pieces settings.hashing (tr.with_state node range its table).holding.pieces
  changed version range piece its table has so =
      pieces_changed settings.hashing node.holding.pieces piece (record { range = range; state = its; entries = table }) keeps.pieces_are
      has.found has.same so

  settled : (version : ℕ) (range : Range) (piece : Piece) (table : Table) → HasPiece node version range piece
      → IsTableOf settings.hashing range table → KeepsRanges settings.hashing (tr.with_settled node range table)
  settled version range piece table has so = record {
    pieces_are = changed version range piece state.Settled table has (record { table = so; bare = λ not. absurd (not refl) });
    gathered_in = all_removed (λ e. IsGathering settings.hashing e.1) (is_at (nat_cmp range.start)) node.gatherings keeps.gathered_in;
    recovered_in = all_removed (λ e. IsRecovery settings.hashing e.1) (is_at (nat_cmp range.start)) node.recoveries keeps.recovered_in;
  }

  gathering_so : (gathering : Gathering) → IsGathering settings.hashing gathering
      → KeepsRanges settings.hashing (tr.with_gathering node gathering)
  gathering_so gathering is = record {
    pieces_are = keeps.pieces_are;
    gathered_in =
        all_put nat_cmp exact_unsigned (λ e. IsGathering settings.hashing e.1) gathering.range.start gathering node.gatherings
        keeps.gathered_in is;
    recovered_in = keeps.recovered_in;
  }

  recovery_so : (recovery : Recovery) → IsRecovery settings.hashing recovery → KeepsRanges settings.hashing (tr.with_recovery node recovery)
  recovery_so recovery is = record {
    pieces_are = keeps.pieces_are;
    gathered_in = keeps.gathered_in;
    recovered_in =
        all_put nat_cmp exact_unsigned (λ e. IsRecovery settings.hashing e.1) recovery.range.start recovery node.recoveries
        keeps.recovered_in is;
  }

  page_into : (letter : Letter) (page : Page) → IsPageTaken node letter page
      → GatheredInto settings.hashing page.range (gathering_of node page.range) page (gathered (gathering_of node page.range) page)
  page_into letter page taken =
      gathered_into settings.hashing (gathering_of node page.range) page
      (found_or (IsGathering settings.hashing) (is_at (nat_cmp page.range.start)) (new_gathering node.view.version page.range)
      node.gatherings keeps.gathered_in (All-nil (IsHashedInto settings.hashing page.range)))
      (subst (λ hashing. lie_in hashing page.range page.entries ≡ true) hashes taken.lie)

  report_into : (letter : Letter) (report : Report) → IsReportTaken node letter report
      → RecoveredInto settings.hashing report.range (recovered (recovery_of node report.range) report)
  report_into letter report taken =
      recovered_into settings.hashing (recovery_of node report.range) report
      (found_or (IsRecovery settings.hashing) (is_at (nat_cmp report.range.start)) (new_recovery node.view report.range) node.recoveries
      keeps.recovered_in (table_nil settings.hashing report.range))
      (subst (λ hashing. lie_in hashing report.range report.entries ≡ true) hashes taken.lie)

  turned : (version : ℕ) (range : Range) (piece : Piece) → HasPiece node version range piece
      → KeepsRanges settings.hashing (tr.turned_to_recovery node range)
  turned version range piece has = record {
    pieces_are =
        changed version range piece state.Recovering [] has
        (bare_table settings.hashing (record { range = range; state = state.Recovering; entries = [] }) refl);
    gathered_in = all_removed (λ e. IsGathering settings.hashing e.1) (is_at (nat_cmp range.start)) node.gatherings keeps.gathered_in;
    recovered_in =
        all_put nat_cmp exact_unsigned (λ e. IsRecovery settings.hashing e.1) range.start (new_recovery node.view range) node.recoveries
        keeps.recovered_in (table_nil settings.hashing range);
  }

  answered_so : (letter : Letter) (request : Request) → letter.body ≡ Request_letter request → SaysOwn settings.hashing letter letter.body
      → Pieces settings.hashing (answered node.holding request).holding.pieces
  answered_so letter request body says =
      let own_request = subst (SaysOwn settings.hashing letter) body says in
      pieces_answered settings.hashing node.holding request keeps.pieces_are own_request.hash

  -- where a range is told empty
  pub one_emptied : (letter : Letter) (range : Range) → KeepsRanges settings.hashing (tr.told_nothing letter node range)
  one_emptied letter range =
      by_nothing letter node range (KeepsRanges settings.hashing) keeps
      (λ recovery so. recovery_so recovery
      (subst (RecoveredInto settings.hashing range) so.1 (report_into (as_report letter range) (tr.nothing_in letter range) so.0)))
      (λ table so. settled letter.version range so.0.piece table so.0.has
      (subst (RecoveredInto settings.hashing range) so.1 (report_into (as_report letter range) (tr.nothing_in letter range) so.0)))

  ways : ((letter : Letter) (ranges : List Range) → KeepsRanges settings.hashing (fold (tr.told_nothing letter) node ranges)) → Ways node Made
  ways emptied = record {
    nothing = λ input effect plain brings. keeps;
    sees =
        λ before view brought newer numbers brings. sighted (is_next node.view before view node.host.silo) before view brought
        brings.is_brought;
    wakes = λ grain may brings. keeps;
    closes = λ grain held may brings. keeps;
    cancels = λ grain held may brings. keeps;
    offers = λ grain held to may active other brings. keeps;
    uses_hint = λ grain activation hint brings. keeps;
    finds = λ grain room numbers brings. keeps;
    forgets = λ grain activation hint brings. keeps;
    nudges = λ numbers brings. keeps;
    nudges_grain = λ grain numbers brings. keeps;
    nudges_ranges = λ brings. keeps;
    answers =
        λ letter request body sender version brings. record {
          pieces_are = answered_so letter request body brings.1.0;
          gathered_in = keeps.gathered_in;
          recovered_in = keeps.recovered_in;
        };
    confirms = λ letter number entry e is there brings. keeps;
    yields = λ letter number entry e is there brings. keeps;
    removes = λ letter number e is there brings. keeps;
    misses = λ letter number e is there brings. keeps;
    learns = λ letter number entry is there brings. keeps;
    notes = λ letter number is there brings. keeps;
    hands = λ letter range number page body is brings. keeps;
    lacks = λ letter range number body is brings. keeps;
    forgoes = λ letter range body there brings. keeps;
    lags = λ letter range brings. keeps;
    passed = λ letter range brings. keeps;
    reports = λ letter range after body seen brings. keeps;
    surveys = λ letter first others body seen brings. keeps;
    gathers =
        λ letter page gathering taken is brings. gathering_so gathering
        (subst (GatheredInto settings.hashing page.range (gathering_of node page.range) page) is (page_into letter page taken));
    installs = λ letter page entries taken is brings.
        let into = subst (GatheredInto settings.hashing page.range (gathering_of node page.range) page) is (page_into letter page taken) in
        settled letter.version page.range taken.piece (table_of entries) taken.has
        (table_rising settings.hashing page.range entries (subst (λ es. rise_by_grain es ≡ true) (sym into.0) taken.rise) into.1);
    drops =
        λ letter page gathering taken is brings. gathering_so gathering
        (subst (GatheredInto settings.hashing page.range (gathering_of node page.range) page) is (page_into letter page taken));
    turns = λ letter range piece body has awaits brings. turned letter.version range piece has;
    continues =
        λ letter report recovery taken is brings. recovery_so recovery
        (subst (RecoveredInto settings.hashing report.range) is (report_into letter report taken));
    collects =
        λ letter report recovery taken is brings. recovery_so recovery
        (subst (RecoveredInto settings.hashing report.range) is (report_into letter report taken));
    completes =
        λ letter report table taken is brings. settled letter.version report.range taken.piece table taken.has
        (subst (RecoveredInto settings.hashing report.range) is (report_into letter report taken));
    empties = λ letter ranges its body plain brings. emptied letter ranges;
    takes_over = λ letter entry body seen may brings. keeps;
  }

-- where several are
emptied : (settings : Settings) (views : ViewsValue) (places : PlacesValue) (silo : Silo) (node : Node) → OwnNode settings silo node
    → SeesItsVersion views places node → IsPlaces places → KeepsRanges settings.hashing node → (letter : Letter) (ranges : List Range)
    → KeepsRanges settings.hashing (fold (tr.told_nothing letter) node ranges)
emptied settings views places silo start own sees placed keeps letter ranges =
    by_each_beside letter start (KeepsRanges settings.hashing)
    (λ node range rest is. one_emptied settings views places silo node (own_left settings silo start node rest own)
    (stay settings views places silo start sees node rest.view rest.ring) placed is letter range)
    ranges keeps

new_keeps : (settings : Settings) (silo : Silo) → KeepsRanges settings.hashing (new_node settings silo)
new_keeps settings silo = record { pieces_are = no_pieces settings.hashing; gathered_in = All-nil _; recovered_in = All-nil _ }

piece_keep_beside : KeepsBeside base_facts piece_facts
piece_keep_beside = record {
  first = first_places;
  joining =
      λ settings views next places added silo given hashes base placed viewed is.
      (places_kept places silo given added hashes placed is, new_keeps settings silo);
  joined = λ settings views next places added silo given hashes base placed viewed is other node based keeps. keeps;
  going = λ settings views next places way goes base placed is. placed;
  gone = λ settings views next places way goes base placed is silo node based keeps. keeps;
  stepping = λ settings views places silo node input stepped base made before is. record {
    node =
        by_way node (Made settings views places silo node base.node.0 base.node.1 before.shared before.node)
        (ways settings views places silo node base.node.0 base.node.1 before.shared before.node
        (emptied settings views places silo node base.node.0 base.node.1 before.shared before.node)) input stepped is base.brings;
    letters = λ k d below. tt;
  };
}

-- all of it together
abbrev pub all_facts : Facts
all_facts = Both base_facts piece_facts

pub all_keep : Keeps all_facts
all_keep =
    both_keep base_facts piece_facts (both_keep own_facts seen_facts own_keep (beside own_facts seen_facts seen_keep)) piece_keep_beside

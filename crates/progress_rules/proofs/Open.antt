-- Ranges that a silo hasn't settled, and hashes of those of live silos: no step but a sight begins to wait for one.
use Rattle.std.proofs.Common.{arith, ◌≡◌, refl, sym, ap, subst, ◌∙◌, ℕ, List, [], ◌⊎◌, inl, inr}
use Rattle.std.specs.Prelude.{true, false, ◌==◌, fold, Option, Some, Ok}
use Rattle.std.specs.Ordering.{nat_cmp}
use Rattle.std.specs.Map.{lookup}
use Rattle.std.specs.BTreeMap.{is_at}
use Rattle.std.proofs.lemmas.Bool.{eqb-true, eqb-false}
use Rattle.std.proofs.lemmas.Cmp.{nat_cmp_total}
use Rattle.std.proofs.lemmas.Map.Lookups.{exact_unsigned}
use Rattle.silo_address.specs.Silo.{Silo}
use Rattle.silo_address.proofs.Same.{Decides-silo}
use Rattle.membership_view.specs.View.{ViewValue}
use Rattle.ring_range.specs.Range.{Range, range_eq, holds}
use Rattle.ring_range.proofs.Same.{Decides-range}
use Rattle.hash_ring.specs.declared.Hashing.{Hashing}
use Rattle.directory_rules.specs.declared.piece_state.PieceState.TheVariants as state
use Rattle.directory_rules.specs.State.{Table, Piece, Letter, Node}
use Rattle.directory_rules.specs.Input.{Input, step}
use Rattle.directory_rules.specs.Sight.{is_settled}
use Rattle.directory_rules.specs.Step.{Stepped}
use Rattle.directory_rules.specs.Transfer.{piece_at, has_range, is_awaiting_from, is_recovering, told_nothing, with_settled, turned_to_recovery}
use Rattle.directory_rules.proofs.Cases.{on_bool}
use Rattle.directory_facts.specs.Pieces.{HasPieces}
use Rattle.directory_facts.proofs.EachStep.{by_way}
use Rattle.directory_facts.proofs.Emptied.{by_nothing}
use Rattle.directory_facts.proofs.Lookups.{found_beside_set}
use Rattle.directory_facts.proofs.Ways.{Ways}
use Rattle.progress_rules.specs.Waits.{Recovers}
use Rattle.progress_rules.specs.Gathers.{AwaitsFrom}
use Rattle.progress_rules.proofs.Asked as asked
use Rattle.progress_rules.proofs.EmptiedPieces.{by_each_piece}
use Rattle.progress_rules.proofs.Gathers.{awaiting_piece, settling, turning}
use Rattle.progress_rules.proofs.Gathers as gathers
use Rattle.progress_rules.proofs.Two.{both_true}
use Rattle.progress_rules.proofs.Waits.{recovering_piece, set_is_found}

-- the node recovers the range, or awaits a snapshot of it
abbrev pub IsOpen : Node → Range → Type 0
IsOpen node range = Recovers node range ⊎ ((giver : Silo) × AwaitsFrom node range giver)

pub record HasOpen (node : Node) (range : Range) : Type 0 where
  pub piece : Piece
  pub found : piece_at node range ≡ Some piece
  pub same : piece.range ≡ range
  pub unsettled : is_settled piece.state ≡ false

pub open_piece : (node : Node) (range : Range) → IsOpen node range → HasOpen node range
open_piece node range (inl recovers) =
    let its = recovering_piece node range recovers in
    record { piece = its.piece; found = its.found; same = its.same; unsettled = ap is_settled its.recovering }
open_piece node range (inr waits) =
    let its = awaiting_piece node range waits.0 waits.1 in
    record { piece = its.piece; found = its.found; same = its.same; unsettled = ap is_settled its.awaiting }

-- among these silos is one with such a range, in which the hash lies
pub record IsUnserved (nodes : Silo → Option Node) (hash : ℕ) : Type 0 where
  pub owner : Silo
  pub node : Node
  pub there : nodes owner ≡ Some node
  pub range : Range
  pub waits : IsOpen node range
  pub inside : holds range hash ≡ true

-- ---- every step
abbrev pub AllOpenBefore : (before after : Node) → Type 0
AllOpenBefore before after = (range : Range) → IsOpen after range → IsOpen before range

abbrev pub OpenBefore : Node → Stepped → Type 0
OpenBefore node stepped = stepped.node.view ≡ node.view → AllOpenBefore node stepped.node

module _ (hashing : Hashing) (node : Node) (has : HasPieces hashing node) where
  -- a piece is settled
  settled_open : (range : Range) (table : Table) (other : Range) → IsOpen (with_settled node range table) other → IsOpen node other
  settled_open range table other (inr waits) = inr (waits.0, (settling hashing node has node.view range table other waits.0 waits.1).0)
  settled_open range table other (inl recovers) =
      on_bool (λ b. (other.start == range.start) ≡ b → IsOpen node other) (other.start == range.start)
      (λ t is.
      let its = recovering_piece (with_settled node range table) other recovers in
      let at : lookup (is_at (nat_cmp range.start)) (with_settled node range table).holding.pieces ≡ Some its.piece = subst (λ k. lookup (is_at (nat_cmp k)) (with_settled node range table).holding.pieces ≡ Some its.piece) (eqb-true other.start range.start is) its.found in
      let one : state.Settled ≡ its.piece.state = ap (λ (p : Piece). p.state) (set_is_found range.start settled its.piece node.holding.pieces at) in
      let recovering = its.recovering in
      absurd (cc (one, recovering)))
      (λ f is.
      let beside = found_beside_set nat_cmp nat_cmp_total exact_unsigned range.start settled node.holding.pieces other.start (eqb-false other.start range.start is) in
      inl (ap (λ (o : Option Piece). has_range is_recovering other o) (sym beside) ∙ recovers)) refl
    where
      settled : Piece
      settled = record { range = range; state = state.Settled; entries = table }

  -- a piece turns to recovery: it awaited a snapshot
  turned_open : (range : Range) (piece : Piece) (from : Silo) → piece_at node range ≡ Some piece → piece.range ≡ range
      → piece.state ≡ state.Awaiting from → (other : Range) → IsOpen (turned_to_recovery node range) other → IsOpen node other
  turned_open range piece from found same awaiting other (inr waits) =
      inr (waits.0, (turning hashing node has range other waits.0 waits.1).0)
  turned_open range piece from found same awaiting other (inl recovers) =
      on_bool (λ b. (other.start == range.start) ≡ b → IsOpen node other) (other.start == range.start)
      (λ t is.
      let its = recovering_piece (turned_to_recovery node range) other recovers in
      let at : lookup (is_at (nat_cmp range.start)) (turned_to_recovery node range).holding.pieces ≡ Some its.piece = subst (λ k. lookup (is_at (nat_cmp k)) (turned_to_recovery node range).holding.pieces ≡ Some its.piece) (eqb-true other.start range.start is) its.found in
      let one : range ≡ other = ap (λ (p : Piece). p.range) (set_is_found range.start bare its.piece node.holding.pieces at) ∙ its.same in
      let awaits : AwaitsFrom node range from =
      ap (λ (o : Option Piece). has_range (is_awaiting_from from) range o) found
      ∙ both_true (range_eq piece.range range) (is_awaiting_from from piece.state) ((Decides-range piece.range range).1 same)
      (ap (is_awaiting_from from) awaiting ∙ (Decides-silo from from).1 refl) in
      inr (from, subst (λ (r : Range). AwaitsFrom node r from) one awaits))
      (λ f is.
      let beside = found_beside_set nat_cmp nat_cmp_total exact_unsigned range.start bare node.holding.pieces other.start (eqb-false other.start range.start is) in
      inl (ap (λ (o : Option Piece). has_range is_recovering other o) (sym beside) ∙ recovers)) refl
    where
      bare : Piece
      bare = record { range = range; state = state.Recovering; entries = [] }

  -- a silo has nothing in a range
  one_emptied : (letter : Letter) (range : Range) → AllOpenBefore node (told_nothing letter node range)
  one_emptied letter range =
      by_nothing letter node range (AllOpenBefore node) (λ other is. is) (λ recovery so other is. is) (λ table so. settled_open range table)

  ways : ((letter : Letter) (ranges : List Range) → AllOpenBefore node (fold (told_nothing letter) node ranges))
      → Ways node (λ input stepped. OpenBefore node stepped)
  ways emptied = record {
    nothing = λ input its plain seen range is. is;
    sees = λ before view places newer numbers seen.
        let version = ap (λ (v : ViewValue). v.version) seen in absurd (omega (arith, version, newer));
    wakes = λ grain may seen range is. is;
    closes = λ grain held may seen range is. is;
    cancels = λ grain held may seen range is. is;
    offers = λ grain held to may active other seen range is. is;
    uses_hint = λ grain activation hint seen range is. is;
    finds = λ grain room numbers seen range is. is;
    forgets = λ grain activation hint seen range is. is;
    nudges = λ numbers seen range is. is;
    nudges_grain = λ grain numbers seen range is. is;
    nudges_ranges = λ seen range is. is;
    answers = λ letter request body sender version seen range is.
        elim is [
          | inl recovers ↦ inl (asked.answering hashing node has request range recovers)
          | inr waits ↦ inr (waits.0, gathers.answering hashing node has request range waits.0 waits.1)
        ];
    confirms = λ letter number entry e its there seen range is. is;
    yields = λ letter number entry e its there seen range is. is;
    removes = λ letter number e its there seen range is. is;
    misses = λ letter number e its there seen range is. is;
    learns = λ letter number entry its there seen range is. is;
    notes = λ letter number its there seen range is. is;
    hands = λ letter range number page body so seen other is. is;
    lacks = λ letter range number body so seen other is. is;
    forgoes = λ letter range body there seen other is. is;
    lags = λ letter range seen other is. is;
    passed = λ letter range seen other is. is;
    reports = λ letter range after body now seen other is. is;
    gathers = λ letter page gathering taken so seen range is. is;
    installs = λ letter page entries taken so seen range is. settled_open page.range _ range is;
    drops = λ letter page gathering taken so seen range is. is;
    turns = λ letter range piece body its awaits seen other is. turned_open range piece letter.from its.found its.same awaits other is;
    continues = λ letter report recovery taken so seen range is. is;
    collects = λ letter report recovery taken so seen range is. is;
    completes = λ letter report table taken so seen range is. settled_open report.range table range is;
    surveys = λ letter first others body now seen range is. is;
    empties = λ letter ranges its body plain seen. emptied letter ranges;
    takes_over = λ letter entry body now may seen range is. is;
  }

-- or in several ranges
emptied : (hashing : Hashing) (node : Node) → HasPieces hashing node → (letter : Letter) (ranges : List Range)
    → AllOpenBefore node (fold (told_nothing letter) node ranges)
emptied hashing start has letter ranges =
    by_each_piece hashing letter (AllOpenBefore start)
    (λ node range pieces so other is. so other (one_emptied hashing node pieces letter range other is)) ranges start has (λ other is. is)

pub open_before : (hashing : Hashing) (node : Node) → HasPieces hashing node → (input : Input) (stepped : Stepped)
    → step node input ≡ Ok stepped → OpenBefore node stepped
open_before hashing node has input stepped is =
    by_way node (λ input stepped. OpenBefore node stepped) (ways hashing node has (emptied hashing node has)) input stepped is

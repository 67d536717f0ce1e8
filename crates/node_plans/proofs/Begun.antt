-- What pieces begin with, under their starts.
use Rattle.std.proofs.Common.{◌≡◌, refl, sym, subst, ap, ◌∙◌, ℕ, List, [], ◌∷◌, ◌++◌, append-nil}
use Rattle.std.specs.Prelude.{true, false, cond, Option, Some, None}
use Rattle.std.specs.List.{All, filter_map, cons_option}
use Rattle.std.specs.List.Sorted.{IsStrictlySortedBy}
use Rattle.std.specs.Map.{keys_of, lookup}
use Rattle.std.specs.BTreeMap.{insert_entry, is_at}
use Rattle.std.specs.Option.{option_map, option_and_then}
use Rattle.std.specs.Ordering.{nat_cmp}
use Rattle.std.proofs.lemmas.Cmp.{nat_cmp_total}
use Rattle.std.proofs.lemmas.List.{append_assoc}
use Rattle.std.proofs.lemmas.List.Elements.{All-head, All-tail, All-nil, All-cons, filter_map-append}
use Rattle.membership_view.specs.View.{ViewValue}
use Rattle.texts.proofs.Entries.{sorted-picked, lookup-picked}
use Rattle.directory_rules.proofs.Cases.{on_bool}
use Rattle.directory_rules.specs.declared.PieceState.{PieceState}
use Rattle.directory_rules.specs.declared.PieceState.TheVariants.{Settled, Awaiting, Recovering}
use Rattle.directory_rules.specs.State.{Gathering, Piece, Recovery}
use Rattle.directory_rules.specs.Gatherings.{new_gathering}
use Rattle.directory_rules.specs.Recovery.{new_recovery}
use Rattle.directory_rules.specs.Step.{gathering_in, new_gatherings, new_recoveries, recovery_in}
use Rattle.directory_rules.specs.Table.{rise_by_grain}
use Rattle.directory_rules.specs.Transfer.{is_recovering}
use Rattle.grain_partition.proofs.AtTheEnd.{insert_entry-end}
use Rattle.grain_partition.specs.Holdings.{ArePieces}
use Rattle.grain_partition.specs.Seen.{emptied}
use Rattle.node_plans.specs.Beginnings.{is_awaiting}
use Rattle.node_plans.specs.Node.{HaveRecoveries}

module _ {X : Type 0} (begins : Piece → Option X) where
  -- what the pieces begin with, under the starts of their ranges
  abbrev pub begun : List (ℕ × Piece) → List (ℕ × X)
  begun pieces = filter_map (λ e. option_map (λ x. (e.1.range.start, x)) (begins e.1)) pieces

  -- and under their own
  abbrev keyed : List (ℕ × Piece) → List (ℕ × X)
  keyed pieces = filter_map (λ e. option_map (λ x. (e.0, x)) (begins e.1)) pieces

  begun_is : (pieces : List (ℕ × Piece)) → All (λ e. e.1.range.start ≡ e.0) pieces → begun pieces ≡ keyed pieces
  begun_is [] under = refl
  begun_is (e ∷ es) under =
      (λ i. cons_option (option_map (λ (x : X). (All-head (λ (e : ℕ × Piece). e.1.range.start ≡ e.0) e es under i, x)) (begins e.1))
      (begun_is es (All-tail (λ (e : ℕ × Piece). e.1.range.start ≡ e.0) e es under) i))

  in_order : (pieces : List (ℕ × Piece)) → ArePieces pieces → IsStrictlySortedBy nat_cmp (keys_of (begun pieces))
  in_order pieces are =
      subst (λ l. IsStrictlySortedBy nat_cmp (keys_of l)) (sym (begun_is pieces are.under_start))
      (sorted-picked nat_cmp_total begins pieces are.in_order)

  -- what a piece begins with is found under its start
  pub begun_found : (pieces : List (ℕ × Piece)) → ArePieces pieces → (start : ℕ) (piece : Piece) (x : X)
      → lookup (is_at (nat_cmp start)) pieces ≡ Some piece → begins piece ≡ Some x
      → lookup (is_at (nat_cmp start)) (begun pieces) ≡ Some x
  begun_found pieces are start piece x found is =
      ap (λ l. lookup (is_at (nat_cmp start)) l) (begun_is pieces are.under_start)
      ∙ lookup-picked nat_cmp_total begins start pieces are.in_order
      ∙ ap (option_and_then begins) found ∙ is

  begun_more : (passed more : List (ℕ × Piece)) (start : ℕ) (piece : Piece) → start ≡ piece.range.start
      → begun (passed ++ (start, piece) ∷ more) ≡ begun passed ++ cons_option (option_map (λ x. (start, x)) (begins piece)) (begun more)
  begun_more passed more start piece under =
      filter_map-append (λ e. option_map (λ x. (e.1.range.start, x)) (begins e.1)) passed ((start, piece) ∷ more)
      ∙ (λ i. begun passed ++ cons_option (option_map (λ (x : X). (sym under i, x)) (begins piece)) (begun more))

  -- a piece stands under its start
  start_is : (passed rest : List (ℕ × Piece)) (start : ℕ) (piece : Piece)
      → All (λ e. e.1.range.start ≡ e.0) (passed ++ (start, piece) ∷ rest) → start ≡ piece.range.start
  start_is [] rest start piece under = sym (All-head (λ (e : ℕ × Piece). e.1.range.start ≡ e.0) (start, piece) rest under)
  start_is (e ∷ passed) rest start piece under =
      start_is passed rest start piece (All-tail (λ (e : ℕ × Piece). e.1.range.start ≡ e.0) e (passed ++ (start, piece) ∷ rest) under)

  -- some pieces are passed, and what they begin with is made; the rest is to come
  pub record ArePassed (pieces rest : List (ℕ × Piece)) (so_far : List (ℕ × X)) : Type 0 where
    pub passed : List (ℕ × Piece)
    pub split : pieces ≡ passed ++ rest
    pub made : so_far ≡ begun passed

  module _ (pieces rest : List (ℕ × Piece)) (start : ℕ) (piece : Piece) (so_far : List (ℕ × X)) (are : ArePieces pieces)
      (before : ArePassed pieces ((start, piece) ∷ rest) so_far) where
    under : start ≡ piece.range.start
    under =
        start_is before.passed rest start piece (subst (λ l. All (λ (e : ℕ × Piece). e.1.range.start ≡ e.0) l) before.split are.under_start)

    -- one piece more, which begins with something: that comes behind the others
    pub pass_one : (x : X) → begins piece ≡ Some x → ArePassed pieces rest (insert_entry nat_cmp so_far start x)
    pass_one x is =
        let one : (more : List (ℕ × Piece)) → begun (before.passed ++ (start, piece) ∷ more) ≡ begun before.passed ++ (start, x) ∷ begun more =
        λ more. begun_more before.passed more start piece under
        ∙ ap (λ o. begun before.passed ++ cons_option (option_map (λ (y : X). (start, y)) o) (begun more)) is in
        record {
          passed = before.passed ++ (start, piece) ∷ [];
          split = before.split ∙ sym (append_assoc before.passed ((start, piece) ∷ []) rest);
          made =
              ap (λ l. insert_entry nat_cmp l start x) before.made
              ∙ insert_entry-end nat_cmp_total (begun before.passed) start x x (begun rest)
              (subst (λ l. IsStrictlySortedBy nat_cmp (keys_of l)) (ap begun before.split ∙ one rest) (in_order pieces are))
              ∙ sym (one []);
        }

    -- or with nothing
    pub pass_none : begins piece ≡ None → ArePassed pieces rest so_far
    pass_none is = record {
      passed = before.passed ++ (start, piece) ∷ [];
      split = before.split ∙ sym (append_assoc before.passed ((start, piece) ∷ []) rest);
      made =
          before.made ∙ sym (begun_more before.passed [] start piece under
          ∙ ap (λ o. begun before.passed ++ cons_option (option_map (λ (y : X). (start, y)) o) []) is
          ∙ append-nil (begun before.passed));
    }

  -- all are passed
  pub all_passed : (pieces rest : List (ℕ × Piece)) (so_far : List (ℕ × X)) → ArePassed pieces rest so_far → rest ≡ []
      → so_far ≡ begun pieces
  all_passed pieces rest so_far passed none =
      passed.made ∙ ap begun (sym (passed.split ∙ ap (λ l. passed.passed ++ l) none ∙ append-nil passed.passed))

  -- entries are nothing to it
  pub emptied_begin : ((state : PieceState) → (piece : Piece) → begins (record piece { entries = [] }) ≡ begins piece)
      → (pieces : List (ℕ × Piece)) → begun (emptied pieces) ≡ begun pieces
  emptied_begin same [] = refl
  emptied_begin same (e ∷ es) =
      λ i. cons_option (option_map (λ (x : X). (e.1.range.start, x)) (same e.1.state e.1 i)) (emptied_begin same es i)

-- ---- Gatherings.
abbrev pub gathers_in : PieceState → ViewValue → Piece → Option Gathering
gathers_in Settled view piece = None
gathers_in (Awaiting from) view piece = Some (new_gathering view.version piece.range)
gathers_in Recovering view piece = None

abbrev pub gathers : ViewValue → Piece → Option Gathering
gathers view piece = gathers_in piece.state view piece

gathering_is : (state : PieceState) (view : ViewValue) (piece : Piece)
    → gathering_in state view piece ≡ option_map (λ x. (piece.range.start, x)) (gathers_in state view piece)
gathering_is Settled view piece = refl
gathering_is (Awaiting from) view piece = refl
gathering_is Recovering view piece = refl

pub new_gatherings_are : (view : ViewValue) (pieces : List (ℕ × Piece)) → new_gatherings view pieces ≡ begun (gathers view) pieces
new_gatherings_are view pieces = λ i. filter_map (λ e. gathering_is e.1.state view e.1 i) pieces

pub gathers_if : (view : ViewValue) (piece : Piece) → is_awaiting piece.state ≡ true
    → gathers view piece ≡ Some (new_gathering view.version piece.range)
gathers_if view piece is = by piece.state is
  where
    by : (state : PieceState) → is_awaiting state ≡ true → gathers_in state view piece ≡ Some (new_gathering view.version piece.range)
    by Settled is = cc
    by (Awaiting from) is = refl
    by Recovering is = cc

pub gathers_not : (view : ViewValue) (piece : Piece) → is_awaiting piece.state ≡ false → gathers view piece ≡ None
gathers_not view piece is = by piece.state is
  where
    by : (state : PieceState) → is_awaiting state ≡ false → gathers_in state view piece ≡ None
    by Settled is = refl
    by (Awaiting from) is = cc
    by Recovering is = refl

-- one piece more is passed
pub gathers_one : (view : ViewValue) (pieces rest : List (ℕ × Piece)) (start : ℕ) (piece : Piece) (had : List (ℕ × Gathering))
    → ArePieces pieces → ArePassed (gathers view) pieces ((start, piece) ∷ rest) had
    → ArePassed (gathers view) pieces rest (cond (is_awaiting piece.state)
    (insert_entry nat_cmp had start (new_gathering view.version piece.range)) had)
gathers_one view pieces rest start piece had are before =
    on_bool (λ b. ArePassed (gathers view) pieces rest
    (cond b (insert_entry nat_cmp had start (new_gathering view.version piece.range)) had)) (is_awaiting piece.state)
    (λ waits. pass_one (gathers view) pieces rest start piece had are before (new_gathering view.version piece.range)
    (gathers_if view piece waits))
    (λ not. pass_none (gathers view) pieces rest start piece had are before (gathers_not view piece not))

pub emptied_gather : (view : ViewValue) (pieces : List (ℕ × Piece)) → new_gatherings view (emptied pieces) ≡ new_gatherings view pieces
emptied_gather view pieces =
    new_gatherings_are view (emptied pieces) ∙ emptied_begin (gathers view) (λ state piece. by piece.state piece) pieces
    ∙ sym (new_gatherings_are view pieces)
  where
    by : (state : PieceState) (piece : Piece) → gathers_in state view (record piece { entries = [] }) ≡ gathers_in state view piece
    by Settled piece = refl
    by (Awaiting from) piece = refl
    by Recovering piece = refl

-- nothing is gathered yet, so it rises
pub new_rise : (view : ViewValue) (pieces : List (ℕ × Piece)) → All (λ e. rise_by_grain e.1.entries ≡ true) (new_gatherings view pieces)
new_rise view [] = All-nil _
new_rise view (e ∷ es) = by e.1.state (new_rise view es)
  where
    by : (state : PieceState) → All (λ (g : ℕ × Gathering). rise_by_grain g.1.entries ≡ true) (new_gatherings view es)
        → All (λ (g : ℕ × Gathering). rise_by_grain g.1.entries ≡ true) (cons_option (gathering_in state view e.1) (new_gatherings view es))
    by Settled later = later
    by (Awaiting from) later =
        All-cons (λ (g : ℕ × Gathering). rise_by_grain g.1.entries ≡ true) (e.1.range.start, new_gathering view.version e.1.range)
        (new_gatherings view es) refl later
    by Recovering later = later

-- ---- Recoveries.
abbrev pub recovers_in : PieceState → ViewValue → Piece → Option Recovery
recovers_in Settled view piece = None
recovers_in (Awaiting from) view piece = None
recovers_in Recovering view piece = Some (new_recovery view piece.range)

abbrev pub recovers : ViewValue → Piece → Option Recovery
recovers view piece = recovers_in piece.state view piece

recovery_is : (state : PieceState) (view : ViewValue) (piece : Piece)
    → recovery_in state view piece ≡ option_map (λ x. (piece.range.start, x)) (recovers_in state view piece)
recovery_is Settled view piece = refl
recovery_is (Awaiting from) view piece = refl
recovery_is Recovering view piece = refl

pub new_recoveries_are : (view : ViewValue) (pieces : List (ℕ × Piece)) → new_recoveries view pieces ≡ begun (recovers view) pieces
new_recoveries_are view pieces = λ i. filter_map (λ e. recovery_is e.1.state view e.1 i) pieces

pub recovers_if : (view : ViewValue) (piece : Piece) → is_recovering piece.state ≡ true
    → recovers view piece ≡ Some (new_recovery view piece.range)
recovers_if view piece is = by piece.state is
  where
    by : (state : PieceState) → is_recovering state ≡ true → recovers_in state view piece ≡ Some (new_recovery view piece.range)
    by Settled is = cc
    by (Awaiting from) is = cc
    by Recovering is = refl

pub recovers_not : (view : ViewValue) (piece : Piece) → is_recovering piece.state ≡ false → recovers view piece ≡ None
recovers_not view piece is = by piece.state is
  where
    by : (state : PieceState) → is_recovering state ≡ false → recovers_in state view piece ≡ None
    by Settled is = refl
    by (Awaiting from) is = refl
    by Recovering is = cc

-- one piece more is passed
pub recovers_one : (view : ViewValue) (pieces rest : List (ℕ × Piece)) (start : ℕ) (piece : Piece) (had : List (ℕ × Recovery))
    → ArePieces pieces → ArePassed (recovers view) pieces ((start, piece) ∷ rest) had
    → ArePassed (recovers view) pieces rest (cond (is_recovering piece.state)
    (insert_entry nat_cmp had start (new_recovery view piece.range)) had)
recovers_one view pieces rest start piece had are before =
    on_bool (λ b. ArePassed (recovers view) pieces rest (cond b (insert_entry nat_cmp had start (new_recovery view piece.range)) had))
    (is_recovering piece.state)
    (λ waits. pass_one (recovers view) pieces rest start piece had are before (new_recovery view piece.range)
    (recovers_if view piece waits))
    (λ not. pass_none (recovers view) pieces rest start piece had are before (recovers_not view piece not))

pub emptied_recover : (view : ViewValue) (pieces : List (ℕ × Piece)) → new_recoveries view (emptied pieces) ≡ new_recoveries view pieces
emptied_recover view pieces =
    new_recoveries_are view (emptied pieces) ∙ emptied_begin (recovers view) (λ state piece. by piece.state piece) pieces
    ∙ sym (new_recoveries_are view pieces)
  where
    by : (state : PieceState) (piece : Piece) → recovers_in state view (record piece { entries = [] }) ≡ recovers_in state view piece
    by Settled piece = refl
    by (Awaiting from) piece = refl
    by Recovering piece = refl

-- each piece that recovers has its recovery
pub new_have : (view : ViewValue) (pieces : List (ℕ × Piece)) → ArePieces pieces → HaveRecoveries pieces (new_recoveries view pieces)
new_have view pieces are start piece found recovering = record {
  recovery = new_recovery view piece.range;
  there =
      ap (λ l. lookup (is_at (nat_cmp start)) l) (new_recoveries_are view pieces)
      ∙ begun_found (recovers view) pieces are start piece (new_recovery view piece.range) found
      (ap (λ state. recovers_in state view piece) recovering);
  its_range = refl;
}

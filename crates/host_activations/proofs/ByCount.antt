-- The activations under their counts, put in one after another, come in the order in which they began.
use Rattle.std.proofs.Common.{◌≡◌, refl, sym, ap, subst, ◌∙◌, ℕ, ◌+◌, ◌<◌, List, [], ◌∷◌, ◌++◌, append_assoc, drop, slice_get, Some, cond, false, arith}
use Rattle.std.specs.Prelude.{fold, nat_lt, ⊤}
use Rattle.std.specs.List.{AllByRecursion}
use Rattle.std.specs.Map.{values_of}
use Rattle.std.specs.BTreeMap.{insert_entry}
use Rattle.std.specs.Ordering.{match_ordering, nat_cmp}
use Rattle.std.specs.declared.cmp.Ordering.{Ordering}
use Rattle.std.specs.declared.cmp.Ordering.TheVariants.{Less, Equal, Greater}
use Rattle.std.proofs.lemmas.Bool.Decides.{nat_tests}
use Rattle.std.proofs.lemmas.Cmp.{ranked}
use Rattle.std.proofs.lemmas.Option.{same_Some}
use Rattle.std.proofs.lemmas.Bool.{lt-ltb}
use Rattle.silo_address.specs.Grain.{Grain}
use Rattle.directory_rules.specs.declared.Held.{Held}
use Rattle.host_activations.specs.Begun.{AreApart}
use Rattle.host_activations.specs.InOrder.{AreAt, in_order, placed}
use Rattle.host_activations.proofs.Ordered.{are_all_apart, fresh_to_none}
use Rattle.host_activations.proofs.Rows.{AllApart, Apart, all_placed, flip}
use Rattle.host_activations.proofs.Steps.{left_from}

-- each stands under its count
abbrev pub AreUnder : List (ℕ × (Grain × Held)) → Type 0
AreUnder es = AllByRecursion (λ e. e.0 ≡ e.1.1.count) es

under_more : (es : List (ℕ × (Grain × Held))) (x : Grain × Held) → AreUnder es → AreUnder (insert_entry nat_cmp es x.1.count x)
under_more [] x under = (refl, tt)
under_more (e ∷ es) x under = by (nat_cmp x.1.count e.0) refl (under_more es x under.1)
  where
    by : (r : Ordering) → r ≡ nat_cmp x.1.count e.0 → AreUnder (insert_entry nat_cmp es x.1.count x)
        → AreUnder (match_ordering r ((x.1.count, x) ∷ e ∷ es) ((e.0, x) ∷ es) (e ∷ insert_entry nat_cmp es x.1.count x))
    by Less is later = (refl, under)
    by Equal is later = (sym (ranked x.1.count e.0 Equal is), under.1)
    by Greater is later = (under.0, later)

lt_false : (a b : ℕ) → b < a → nat_lt a b ≡ false
lt_false a b above = grind (arith, nat_tests)

pub put_in_place : (es : List (ℕ × (Grain × Held))) (x : Grain × Held) → AreUnder es → AllByRecursion (Apart x) (values_of es)
    → values_of (insert_entry nat_cmp es x.1.count x) ≡ placed (values_of es) x
put_in_place [] x under apart = refl
put_in_place (e ∷ es) x under apart = by (nat_cmp x.1.count e.0) refl (put_in_place es x under.1 apart.1)
  where
    by : (r : Ordering) → r ≡ nat_cmp x.1.count e.0 → values_of (insert_entry nat_cmp es x.1.count x) ≡ placed (values_of es) x
        → values_of (match_ordering r ((x.1.count, x) ∷ e ∷ es) ((e.0, x) ∷ es) (e ∷ insert_entry nat_cmp es x.1.count x))
        ≡ cond (nat_lt x.1.count e.1.1.count) (x ∷ e.1 ∷ values_of es) (e.1 ∷ placed (values_of es) x)
    by Less is later =
        let below : x.1.count < e.0 = ranked x.1.count e.0 Less is in
        sym (ap (λ b. cond b (x ∷ e.1 ∷ values_of es) (e.1 ∷ placed (values_of es) x))
        (lt-ltb x.1.count e.1.1.count (subst (λ (n : ℕ). x.1.count < n) under.0 below)))
    by Equal is later = absurd (apart.0.1 (ranked x.1.count e.0 Equal is ∙ under.0))
    by Greater is later =
        let above : e.0 < x.1.count = ranked x.1.count e.0 Greater is in
        ap (λ l. e.1 ∷ l) later
        ∙ sym (ap (λ b. cond b (x ∷ e.1 ∷ values_of es) (e.1 ∷ placed (values_of es) x))
        (lt_false x.1.count e.1.1.count (subst (λ (n : ℕ). n < x.1.count) under.0 above)))

-- what a loop keeps: all those that are left are apart from each other and from those put in
pub record AreLeft (es : List (ℕ × (Grain × Held))) (left : List (Grain × Held)) : Type 0 where
  pub under : AreUnder es
  pub fresh : AllByRecursion (λ x. AllByRecursion (Apart x) (values_of es)) left

pub left_at_first : (es : List (ℕ × (Grain × Held))) (left : List (Grain × Held)) → es ≡ [] → AreLeft es left
left_at_first es left none = subst (λ l. AreLeft l left) (sym none) (record { under = tt; fresh = fresh_to_none left })

others_fresh : (acc : List (Grain × Held)) (e : Grain × Held) (left : List (Grain × Held)) → AllByRecursion (Apart e) left
    → AllByRecursion (λ x. AllByRecursion (Apart x) acc) left
    → AllByRecursion (λ x. AllByRecursion (Apart x) (placed acc e)) left
others_fresh acc e [] apart fresh = tt
others_fresh acc e (x ∷ left) apart fresh = (all_placed (Apart x) acc e fresh.0 (flip e x apart.0), others_fresh acc e left apart.1 fresh.1)

pub left_on : (es : List (ℕ × (Grain × Held))) (x : Grain × Held) (left : List (Grain × Held)) → AreLeft es (x ∷ left)
    → AllByRecursion (Apart x) left → (new : List (ℕ × (Grain × Held)))
    → new ≡ insert_entry nat_cmp es x.1.count x → AreLeft new left
left_on es x left are apart new is = record {
  under = subst AreUnder (sym is) (under_more es x are.under);
  fresh =
      subst (λ l. AllByRecursion (λ y. AllByRecursion (Apart y) l) left) (sym (ap values_of is ∙ put_in_place es x are.under are.fresh.0))
      (others_fresh (values_of es) x left apart are.fresh.1);
}

-- one more is put in of those that are left at an index
pub counted_on : (es : List (Grain × Held)) (index : ℕ) (e : Grain × Held) → slice_get es index ≡ Some e
    → (counted new : List (ℕ × (Grain × Held))) → new ≡ insert_entry nat_cmp counted e.1.count e
    → fold placed (values_of counted) (drop index es) ≡ in_order es → AllApart (drop index es) → AreLeft counted (drop index es)
    → (fold placed (values_of new) (drop (index + 1) es) ≡ in_order es) × AllApart (drop (index + 1) es) × AreLeft new (drop (index + 1) es)
counted_on es index e there counted new is so_far apart left =
    let rest = drop (index + 1) es in
    let taken : drop index es ≡ e ∷ rest = left_from es index e there in
    let are : AreLeft counted (e ∷ rest) = subst (λ l. AreLeft counted l) taken left in
    let others : AllApart (e ∷ rest) = subst AllApart taken apart in (
      ap (λ l. fold placed l rest) (ap values_of is ∙ put_in_place counted e are.under are.fresh.0)
          ∙ ap (λ l. fold placed (values_of counted) l) (sym taken) ∙ so_far,
      others.1,
      left_on counted e rest are others.0 new is,
    )

-- ---- Indices under counts.
-- under the same counts, at each of the indices stands the activation
abbrev pub AreRows : List (Grain × Held) → List (ℕ × ℕ) → List (ℕ × (Grain × Held)) → Type 0
AreRows es [] [] = ⊤
AreRows es [] (r ∷ rows) = ⊥
AreRows es (i ∷ indices) [] = ⊥
AreRows es (i ∷ indices) (r ∷ rows) = (i.0 ≡ r.0) × ((slice_get es i.1 ≡ Some r.1) × AreRows es indices rows)

rows_more : (es : List (Grain × Held)) (index : ℕ) (e : Grain × Held) → slice_get es index ≡ Some e
    → (count : ℕ) (indices : List (ℕ × ℕ)) (rows : List (ℕ × (Grain × Held)))
    → AreRows es indices rows → AreRows es (insert_entry nat_cmp indices count index) (insert_entry nat_cmp rows count e)
rows_more es index e there count [] [] are = (refl, (there, tt))
rows_more es index e there count [] (r ∷ rows) are = absurd are
rows_more es index e there count (i ∷ indices) [] are = absurd are
rows_more es index e there count (i ∷ indices) (r ∷ rows) are =
    subst (λ n.
    AreRows es (match_ordering (nat_cmp count i.0) ((count, index) ∷ i ∷ indices) ((i.0, index) ∷ indices)
    (i ∷ insert_entry nat_cmp indices count index))
    (match_ordering (nat_cmp count n) ((count, e) ∷ r ∷ rows) ((r.0, e) ∷ rows) (r ∷ insert_entry nat_cmp rows count e)))
    are.0 (by (nat_cmp count i.0) (rows_more es index e there count indices rows are.1.1))
  where
    by : (o : Ordering) → AreRows es (insert_entry nat_cmp indices count index) (insert_entry nat_cmp rows count e)
        → AreRows es (match_ordering o ((count, index) ∷ i ∷ indices) ((i.0, index) ∷ indices)
        (i ∷ insert_entry nat_cmp indices count index))
        (match_ordering o ((count, e) ∷ r ∷ rows) ((r.0, e) ∷ rows) (r ∷ insert_entry nat_cmp rows count e))
    by Less later = (refl, (there, are))
    by Equal later = (are.0, (there, are.1.1))
    by Greater later = (are.0, (are.1.0, later))

rows_at : (es : List (Grain × Held)) (indices : List (ℕ × ℕ)) (rows : List (ℕ × (Grain × Held))) → AreRows es indices rows
    → AreAt es (values_of indices) (values_of rows)
rows_at es [] [] are = tt
rows_at es [] (r ∷ rows) are = absurd are
rows_at es (i ∷ indices) [] are = absurd are
rows_at es (i ∷ indices) (r ∷ rows) are = (are.1.0, rows_at es indices rows are.1.1)

-- what the loop keeps that puts indices under counts: the activations there, with those that are left, are all, in order
pub record AreCounted (es : List (Grain × Held)) (index : ℕ) (indices : List (ℕ × ℕ)) : Type 0 where
  pub rows : List (ℕ × (Grain × Held))
  pub are : AreRows es indices rows
  pub so_far : fold placed (values_of rows) (drop index es) ≡ in_order es
  pub apart : AllApart (drop index es)
  pub left : AreLeft rows (drop index es)

pub counted_none : (es : List (Grain × Held)) → AreApart es → (indices : List (ℕ × ℕ)) → indices ≡ [] → AreCounted es 0 indices
counted_none es apart indices none =
    subst (AreCounted es 0) (sym none) (record {
      rows = [];
      are = tt;
      so_far = refl;
      apart = are_all_apart es apart;
      left = left_at_first []
          es refl;
    })

pub counted_more : (es : List (Grain × Held)) (index : ℕ) (e : Grain × Held) → slice_get es index ≡ Some e → (indices new : List (ℕ × ℕ))
    → new ≡ insert_entry nat_cmp indices e.1.count index
    → AreCounted es index indices → AreCounted es (index + 1) new
counted_more es index e there indices new is so =
    let rows : List (ℕ × (Grain × Held)) = insert_entry nat_cmp so.rows e.1.count e in
    let on = counted_on es index e there so.rows rows refl so.so_far so.apart so.left in
    record {
      rows = rows;
      are = subst (λ n. AreRows es n rows) (sym is) (rows_more es index e there e.1.count indices so.rows so.are);
      so_far = on.0;
      apart = on.1;
      left = on.2;
    }

pub counted_all : (es : List (Grain × Held)) (index : ℕ) (indices : List (ℕ × ℕ)) → drop index es ≡ [] → AreCounted es index indices
    → AreAt es (values_of indices) (in_order es)
counted_all es index indices none so =
    subst (AreAt es (values_of indices)) (ap (fold placed (values_of so.rows)) (sym none) ∙ so.so_far) (rows_at es indices so.rows so.are)

-- ---- Activations at indices.
-- what the loop keeps that lists them: those listed, and those at the indices that are left, are all, in order
pub record AreTold (es list : List (Grain × Held)) (indices : List ℕ) : Type 0 where
  pub rest : List (Grain × Held)
  pub at : AreAt es indices rest
  pub so_far : list ++ rest ≡ in_order es

told_on : (es list : List (Grain × Held)) (i : ℕ) (indices : List ℕ) (e : Grain × Held) → slice_get es i ≡ Some e
    → (rest : List (Grain × Held)) → AreAt es (i ∷ indices) rest → list ++ rest ≡ in_order es
    → AreTold es (list ++ e ∷ []) indices
told_on es list i indices e there [] at so_far = absurd at
told_on es list i indices e there (x ∷ rest) at so_far =
    record {
      rest = rest;
      at = at.1;
      so_far = append_assoc list (e ∷ []) rest
          ∙ ap (λ y. list ++ y ∷ rest) (same_Some e x (sym there ∙ at.0)) ∙ so_far;
    }

pub told_more : (es list : List (Grain × Held)) (i : ℕ) (indices : List ℕ) (e : Grain × Held) → slice_get es i ≡ Some e
    → AreTold es list (i ∷ indices) → AreTold es (list ++ e ∷ []) indices
told_more es list i indices e there so = told_on es list i indices e there so.rest so.at so.so_far

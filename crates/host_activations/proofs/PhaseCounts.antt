-- How many activations are in a phase, where one begins, changes or ends.
use Rattle.std.proofs.Common.{◌≡◌, refl, sym, ap, ◌∙◌, ℕ, ◌+◌, ◌≤◌, ◌<◌, ◌^◌, List, [], ◌∷◌, ◌++◌, length, fold, swap_remove, slice_get, cond, Bool, true, false, Option, Some, None, arith}
use Rattle.std.specs.Prelude.{nat_lt, MatchOption}
use Rattle.std.specs.List.Sorted.{IsPermutation}
use Rattle.std.specs.Map.{lookup, set_value}
use Rattle.std.specs.BTreeMap.{is_at}
use Rattle.std.specs.Option.{option_map}
use Rattle.std.proofs.lemmas.List.Sorted.{sum_by_popped, IsPermutation-swap_remove}
use Rattle.std.proofs.lemmas.List.Sums.{count_by-le-length, sum_by-cons}
use Rattle.std.proofs.lemmas.Option.{get_or_from_slice_get, same_Some, slice_get_within}
use Rattle.silo_address.specs.Grain.{Grain, grain_cmp}
use Rattle.silo_address.specs.declared.ActivationId.{ActivationId}
use Rattle.directory_rules.specs.declared.Held.{Held}
use Rattle.directory_rules.specs.declared.Phase.{Phase}
use Rattle.directory_rules.specs.Host.{is_asking, is_closing}
use Rattle.host_activations.specs.InOrder.{in_order, placed}
use Rattle.host_activations.specs.UnderWay.{in_phase, one_if, under_way_in, with_phase}
use Rattle.host_activations.specs.declared.under_way.UnderWay.{UnderWay}
use Rattle.host_activations.proofs.Changes.{with_parts}

-- what is held of the grain, if anything, is written so
abbrev IsWritten : (old new : List (Grain × Held)) → Grain → Phase → Option ActivationId → Type 0
IsWritten old new g phase previous =
    MatchOption (lookup (is_at (grain_cmp g)) old) (new ≡ old)
    (λ held. new ≡ set_value (is_at (grain_cmp g)) old (with_parts held phase previous))

module _ (test : Phase → Bool) where
  phase_cons : (e : Grain × Held) (es : List (Grain × Held)) → in_phase test (e ∷ es) ≡ one_if (test e.1.phase) + in_phase test es
  phase_cons e es = sum_by-cons (λ x. cond (test x.1.phase) 1 0) e es

  pub phase_last : (es : List (Grain × Held)) (e : Grain × Held) → in_phase test (es ++ e ∷ []) ≡ in_phase test es + one_if (test e.1.phase)
  phase_last [] e = let first = phase_cons e [] in omega (first, arith)
  phase_last (x ∷ es) e =
      let here = phase_cons x (es ++ e ∷ []) in let there = phase_cons x es in let later = phase_last es e in
      omega (here, there, later, arith)

  phase_placed : (es : List (Grain × Held)) (e : Grain × Held) → in_phase test (placed es e) ≡ in_phase test es + one_if (test e.1.phase)
  phase_placed [] e = let first = phase_cons e [] in omega (first, arith)
  phase_placed (x ∷ es) e = by (nat_lt e.1.count x.1.count) (phase_placed es e)
    where
      by : (b : Bool) → in_phase test (placed es e) ≡ in_phase test es + one_if (test e.1.phase)
          → in_phase test (cond b (e ∷ x ∷ es) (x ∷ placed es e)) ≡ in_phase test (x ∷ es) + one_if (test e.1.phase)
      by true later = let first = phase_cons e (x ∷ es) in omega (first, arith)
      by false later = let here = phase_cons x (placed es e) in let there = phase_cons x es in omega (here, there, later, arith)

  phase_spread : (told es : List (Grain × Held)) → in_phase test (fold placed told es) ≡ in_phase test told + in_phase test es
  phase_spread told [] = omega arith
  phase_spread told (e ∷ es) =
      let later = phase_spread (placed told e) es in let here = phase_placed told e in let there = phase_cons e es in
      omega (later, here, there, arith)

  -- in whatever order
  pub phase_in_order : (es : List (Grain × Held)) → in_phase test (in_order es) ≡ in_phase test es
  phase_in_order es = let all = phase_spread [] es in omega (all, arith)

  pub phase_set : (g : Grain) (was now : Held) (es : List (Grain × Held)) → lookup (is_at (grain_cmp g)) es ≡ Some was
      → in_phase test (set_value (is_at (grain_cmp g)) es now) + one_if (test was.phase) ≡ in_phase test es + one_if (test now.phase)
  phase_set g was now [] there = cc
  phase_set g was now (e ∷ es) there = by (is_at (grain_cmp g) e.0) there (phase_set g was now es)
    where
      by : (b : Bool) → cond b (Some e.1) (lookup (is_at (grain_cmp g)) es) ≡ Some was
          → (lookup (is_at (grain_cmp g)) es ≡ Some was → in_phase test (set_value (is_at (grain_cmp g)) es now) + one_if (test was.phase)
          ≡ in_phase test es + one_if (test now.phase))
          → in_phase test (cond b ((e.0, now) ∷ es) (e ∷ set_value (is_at (grain_cmp g)) es now)) + one_if (test was.phase) ≡ in_phase test
          (e ∷ es) + one_if (test now.phase)
      by true is later =
          let here = phase_cons (e.0, now) es in let before = phase_cons e es in
          let same : one_if (test e.1.phase) ≡ one_if (test was.phase) = ap (λ (h : Held). one_if (test h.phase)) (same_Some e.1 was is) in
          omega (here, before, same, arith)
      by false is later =
          let here = phase_cons e (set_value (is_at (grain_cmp g)) es now) in let before = phase_cons e es in let rest = later is in
          omega (here, before, rest, arith)

  pub phase_gone : (es new : List (Grain × Held)) (e : Grain × Held) → IsPermutation es (e ∷ new)
      → in_phase test new + one_if (test e.1.phase) ≡ in_phase test es
  phase_gone es new e moved = sum_by_popped (λ x. cond (test x.1.phase) 1 0) e es new moved

  pub phase_within : (es : List (Grain × Held)) → in_phase test es ≤ length es
  phase_within es = count_by-le-length (λ e. test e.1.phase) es

-- ---- Both counts.
pub asking_is : (counts : UnderWay) (es : List (Grain × Held)) → counts ≡ under_way_in es → counts.asking ≡ in_phase is_asking (in_order es)
asking_is counts es are = ap (λ (c : UnderWay). c.asking) are ∙ sym (phase_in_order is_asking es)

pub closing_is : (counts : UnderWay) (es : List (Grain × Held)) → counts ≡ under_way_in es
    → counts.closing ≡ in_phase is_closing (in_order es)
closing_is counts es are = ap (λ (c : UnderWay). c.closing) are ∙ sym (phase_in_order is_closing es)

-- one begins
module _ (counts : UnderWay) (es new : List (Grain × Held)) (are : counts ≡ under_way_in es) (e : Grain × Held)
    (is : new ≡ es ++ e ∷ []) where
  pub begun_counts : with_phase counts e.1.phase ≡ under_way_in new
  begun_counts =
      ap (λ (c : UnderWay). with_phase c e.1.phase) are
      ∙ (λ i. record { asking = sym (phase_last is_asking es e) i; closing = sym (phase_last is_closing es e) i })
      ∙ ap under_way_in (sym is)

  pub begun_fits : (room : ℕ) → length new ≤ room → room < 2 ^ 64
      → (counts.asking + one_if (is_asking e.1.phase) < 2 ^ 64) × (counts.closing + one_if (is_closing e.1.phase) < 2 ^ 64)
  begun_fits room most fits =
      let asking = phase_within is_asking new in let closing = phase_within is_closing new in
      let ask = ap (λ (c : UnderWay). c.asking) begun_counts in let close = ap (λ (c : UnderWay). c.closing) begun_counts in
      (omega (asking, ask, most, fits, arith), omega (closing, close, most, fits, arith))

-- one that is there is counted
phase_there : (test : Phase → Bool) (g : Grain) (was : Held) (es : List (Grain × Held)) → lookup (is_at (grain_cmp g)) es ≡ Some was
    → one_if (test was.phase) ≤ in_phase test es
phase_there test g was [] there = cc
phase_there test g was (e ∷ es) there = by (is_at (grain_cmp g) e.0) there (phase_there test g was es)
  where
    by : (b : Bool) → cond b (Some e.1) (lookup (is_at (grain_cmp g)) es) ≡ Some was
        → (lookup (is_at (grain_cmp g)) es ≡ Some was → one_if (test was.phase) ≤ in_phase test es)
        → one_if (test was.phase) ≤ in_phase test (e ∷ es)
    by true is later =
        let here = phase_cons test e es in
        let same : one_if (test e.1.phase) ≡ one_if (test was.phase) = ap (λ (h : Held). one_if (test h.phase)) (same_Some e.1 was is) in omega (here, same, arith)
    by false is later = let here = phase_cons test e es in let rest = later is in omega (here, rest, arith)

-- one changes
module _ (es new : List (Grain × Held)) (g : Grain) (phase : Phase) (previous : Option ActivationId)
    (wrote : IsWritten es new g phase previous) (was : Phase)
    (found : Some was ≡ option_map (λ (h : Held). h.phase) (lookup (is_at (grain_cmp g)) es)) where
  moved : (test : Phase → Bool) → (in_phase test new + one_if (test was) ≡ in_phase test es + one_if (test phase)) ×
      (one_if (test was) ≤ in_phase test es)
  moved test = by (lookup (is_at (grain_cmp g)) es) refl found wrote
    where
      by : (o : Option Held) → lookup (is_at (grain_cmp g)) es ≡ o → Some was ≡ option_map (λ (h : Held). h.phase) o
          → MatchOption o (new ≡ es) (λ held. new ≡ set_value (is_at (grain_cmp g)) es (with_parts held phase previous))
          → (in_phase test new + one_if (test was) ≡ in_phase test es + one_if (test phase)) × (one_if (test was) ≤ in_phase test es)
      by None at none is = cc
      by (Some held) at some is =
          let same : one_if (test was) ≡ one_if (test held.phase) = ap (λ (p : Phase). one_if (test p)) (same_Some was held.phase some) in
          let set = phase_set test g held (with_parts held phase previous) es at in
          let there = phase_there test g held es at in (
            ap (λ l. in_phase test l + one_if (test was)) is
                ∙ ap (λ n. in_phase test (set_value (is_at (grain_cmp g)) es (with_parts held phase previous)) + n) same
                ∙ set,
            omega (same, there, arith),
          )

  module _ (counts : UnderWay) (are : counts ≡ under_way_in es) where
    pub counted_asking : one_if (is_asking was) ≤ counts.asking
    counted_asking = let there = (moved is_asking).1 in let is = ap (λ (c : UnderWay). c.asking) are in omega (there, is, arith)

    pub counted_closing : one_if (is_closing was) ≤ counts.closing
    counted_closing = let there = (moved is_closing).1 in let is = ap (λ (c : UnderWay). c.closing) are in omega (there, is, arith)

    module _ (rest : UnderWay) (left : with_phase rest was ≡ counts) where
      now_asking : rest.asking + one_if (is_asking phase) ≡ in_phase is_asking new
      now_asking =
          let is = ap (λ (c : UnderWay). c.asking) (left ∙ are) in let step = (moved is_asking).0 in omega (is, step, arith)

      now_closing : rest.closing + one_if (is_closing phase) ≡ in_phase is_closing new
      now_closing =
          let is = ap (λ (c : UnderWay). c.closing) (left ∙ are) in let step = (moved is_closing).0 in omega (is, step, arith)

      pub changed_counts : with_phase rest phase ≡ under_way_in new
      changed_counts = λ i. record { asking = now_asking i; closing = now_closing i }

      pub changed_fit : (room : ℕ) → length new ≤ room → room < 2 ^ 64
          → (rest.asking + one_if (is_asking phase) < 2 ^ 64) × (rest.closing + one_if (is_closing phase) < 2 ^ 64)
      changed_fit room most fits =
          let asking = phase_within is_asking new in let closing = phase_within is_closing new in
          let ask = now_asking in let close = now_closing in
          (omega (asking, ask, most, fits, arith), omega (closing, close, most, fits, arith))

-- nothing is there to be changed
pub unwritten_is : (es new : List (Grain × Held)) (g : Grain) (phase : Phase) (previous : Option ActivationId)
    → IsWritten es new g phase previous → None ≡ option_map (λ (h : Held). h.phase) (lookup (is_at (grain_cmp g)) es) → new ≡ es
unwritten_is es new g phase previous wrote none = by (lookup (is_at (grain_cmp g)) es) none wrote
  where
    by : (o : Option Held) → None ≡ option_map (λ (h : Held). h.phase) o
        → MatchOption o (new ≡ es) (λ held. new ≡ set_value (is_at (grain_cmp g)) es (with_parts held phase previous)) → new ≡ es
    by None none is = is
    by (Some held) none is = cc

-- ---- One ends.
pub phase_out : (test : Phase → Bool) (es : List (Grain × Held)) (index : ℕ) (e : Grain × Held) → slice_get es index ≡ Some e
    → in_phase test (swap_remove es index e) + one_if (test e.1.phase) ≡ in_phase test es
phase_out test es index e there =
    phase_gone test es (swap_remove es index e) e (IsPermutation-swap_remove es index e (slice_get_within es index e there)
    (sym (get_or_from_slice_get es index e e there)))

module _ (es new : List (Grain × Held)) (was : Phase)
    (one : (test : Phase → Bool) → in_phase test new + one_if (test was) ≡ in_phase test es) (counts : UnderWay)
    (are : counts ≡ under_way_in es) where
  pub gone_asking : one_if (is_asking was) ≤ counts.asking
  gone_asking = let step = one is_asking in let is = ap (λ (c : UnderWay). c.asking) are in omega (step, is, arith)

  pub gone_closing : one_if (is_closing was) ≤ counts.closing
  gone_closing = let step = one is_closing in let is = ap (λ (c : UnderWay). c.closing) are in omega (step, is, arith)

  pub gone_counts : (rest : UnderWay) → with_phase rest was ≡ counts → rest ≡ under_way_in new
  gone_counts rest left = λ i. record { asking = asking i; closing = closing i }
    where
      asking : rest.asking ≡ in_phase is_asking new
      asking = let is = ap (λ (c : UnderWay). c.asking) (left ∙ are) in let step = one is_asking in omega (is, step, arith)

      closing : rest.closing ≡ in_phase is_closing new
      closing = let is = ap (λ (c : UnderWay). c.closing) (left ∙ are) in let step = one is_closing in omega (is, step, arith)

pub none_gone_counts : (es new : List (Grain × Held)) → ((test : Phase → Bool) → in_phase test new + 0 ≡ in_phase test es)
    → (counts : UnderWay) → counts ≡ under_way_in es → counts ≡ under_way_in new
none_gone_counts es new none counts are = are ∙ (λ i. record { asking = asking i; closing = closing i })
  where
    asking : in_phase is_asking es ≡ in_phase is_asking new
    asking = let step = none is_asking in omega (step, arith)

    closing : in_phase is_closing es ≡ in_phase is_closing new
    closing = let step = none is_closing in omega (step, arith)

-- The activations, their requests under new numbers, one request after another.
use Rattle.std.proofs.Common.{◌≡◌, refl, sym, ap, subst, ◌∙◌, ℕ, List, [], ◌∷◌, ◌+◌, cond, map, fold, Bool, true, false, Option, Some, None}
use Rattle.std.specs.Prelude.{MatchOption}
use Rattle.std.specs.List.{AllByRecursion, IsDistinct, enumerate_from}
use Rattle.std.specs.List.Sorted.{IsStrictlySortedBy}
use Rattle.std.specs.Map.{lookup, set_value, keys_of, values_of}
use Rattle.std.specs.BTreeMap.{is_at}
use Rattle.std.specs.Ordering.{nat_cmp}
use Rattle.std.specs.declared.cmp.Ordering.TheVariants.{Less, Equal}
use Rattle.std.proofs.lemmas.Option.{same_Some}
use Rattle.std.proofs.lemmas.Cmp.{tied_itself, nat_cmp_total}
use Rattle.std.proofs.lemmas.Map.{none_passes_from_lookup}
use Rattle.std.proofs.lemmas.Map.Keys.{IsDistinct-head, IsDistinct-tail, sorted_head, sorted_tail}
use Rattle.texts.proofs.Orderings.{at_itself}
use Rattle.silo_address.specs.Grain.{Grain, grain_cmp, grain_eq}
use Rattle.directory_rules.specs.declared.Held.{Held}
use Rattle.directory_rules.specs.declared.Phase.{Phase}
use Rattle.directory_rules.specs.declared.Phase.TheVariants.{Asking, Firm, Closing}
use Rattle.host_activations.specs.declared.asked.OutstandingRequest.{OutstandingRequest}
use Rattle.host_activations.specs.declared.asked.OutstandingRequest.TheVariants.{Activation, Find}
use Rattle.host_activations.specs.Numbers.{number_in, phase_under}
use Rattle.host_activations.specs.Renewal.{held_as, is_request_of, with_number, with_numbers}
use Rattle.host_activations.proofs.Grains.{grain_at_itself, on_grain, same_test}
use Rattle.host_activations.proofs.Numbers.{on_number}
use Rattle.host_activations.proofs.Ranks.{Ranks}

module _ (f : Held → Held) (g : Grain) where
  abbrev changed : List (Grain × Held) → List (Grain × Held)
  changed es = map (λ x. (x.0, cond (is_at (grain_cmp g) x.0) (f x.1) x.1)) es

  unchanged : (es : List (Grain × Held)) → AllByRecursion (λ e. is_at (grain_cmp g) e.0 ≡ false) es → changed es ≡ es
  unchanged [] none = refl
  unchanged (e ∷ es) none = λ i. (e.0, cond (none.0 i) (f e.1) e.1) ∷ unchanged es none.1 i

  -- no activation of the grain is there
  pub changed_absent : (es : List (Grain × Held)) → lookup (is_at (grain_cmp g)) es ≡ None → changed es ≡ es
  changed_absent es none = unchanged es (none_passes_from_lookup (is_at (grain_cmp g)) es none)

  others : (e : Grain) (es : List (Grain × Held)) → g ≡ e → AllByRecursion (λ q. grain_eq e q ≡ false) (keys_of es)
      → AllByRecursion (λ x. is_at (grain_cmp g) x.0 ≡ false) es
  others e [] same apart = tt
  others e (x ∷ es) same apart = (sym (same_test g x.0) ∙ ap (λ (q : Grain). grain_eq q x.0) same ∙ apart.0, others e es same apart.1)

  -- the one that is found there is written back changed
  pub changed_found : (es : List (Grain × Held)) (h : Held) → IsDistinct grain_eq (keys_of es) → lookup (is_at (grain_cmp g)) es ≡ Some h
      → set_value (is_at (grain_cmp g)) es (f h) ≡ changed es
  changed_found [] h apart found = refl
  changed_found (e ∷ es) h apart found =
      on_grain (λ b. cond b (Some e.1) (lookup (is_at (grain_cmp g)) es) ≡ Some h
      → cond b ((e.0, f h) ∷ es) (e ∷ set_value (is_at (grain_cmp g)) es (f h)) ≡ (e.0, cond b (f e.1) e.1) ∷ changed es) g e.0
      (λ same it. λ i. (e.0, f (sym (same_Some e.1 h it) i)) ∷ sym
      (unchanged es (others e.0 es same (IsDistinct-head grain_eq e.0 (keys_of es) apart))) i)
      (λ other it. ap (λ l. e ∷ l) (changed_found es h (IsDistinct-tail grain_eq e.0 (keys_of es) apart) it)) found

-- one of the activations is set, if it is there
abbrev pub IsSet : ℕ → Grain → (old new : List (Grain × Held)) → Type 0
IsSet n g old new =
    MatchOption (lookup (is_at (grain_cmp g)) old) (new ≡ old) (λ held. new ≡ set_value (is_at (grain_cmp g)) old (held_as n held))

pub set_some : (n : ℕ) (g : Grain) (old new : List (Grain × Held)) (h : Held) → lookup (is_at (grain_cmp g)) old ≡ Some h
    → new ≡ set_value (is_at (grain_cmp g)) old (held_as n h) → IsSet n g old new
set_some n g old new h found is =
    subst (λ o. MatchOption o (new ≡ old) (λ held. new ≡ set_value (is_at (grain_cmp g)) old (held_as n held))) (sym found) is

pub set_none : (n : ℕ) (g : Grain) (old new : List (Grain × Held)) → lookup (is_at (grain_cmp g)) old ≡ None → new ≡ old → IsSet n g old new
set_none n g old new none is =
    subst (λ o. MatchOption o (new ≡ old) (λ held. new ≡ set_value (is_at (grain_cmp g)) old (held_as n held))) (sym none) is

-- the activations after that
pub set_is : (n : ℕ) (g : Grain) (old new : List (Grain × Held)) → IsDistinct grain_eq (keys_of old)
    → IsSet n g old new → new ≡ with_number old (n, Activation g)
set_is n g old new apart set = by (lookup (is_at (grain_cmp g)) old) refl set
  where
    by : (o : Option Held) → lookup (is_at (grain_cmp g)) old ≡ o
        → MatchOption o (new ≡ old) (λ held. new ≡ set_value (is_at (grain_cmp g)) old (held_as n held))
        → new ≡ with_number old (n, Activation g)
    by None none same = same ∙ sym (changed_absent (held_as n) g old none)
    by (Some held) found same = same ∙ changed_found (held_as n) g old held apart found

-- a find changes no activation
pub with_find : (held : List (Grain × Held)) (n : ℕ) (g : Grain) → with_number held (n, Find g) ≡ held
with_find [] n g = refl
with_find (e ∷ es) n g = ap (λ l. e ∷ l) (with_find es n g)

-- ---- One activation through all requests.
abbrev step : Grain → Held → ℕ × OutstandingRequest → Held
step q h r = cond (is_request_of q r.1) (held_as r.0 h) h

abbrev pub after : List (ℕ × OutstandingRequest) → Grain → Held → Held
after rs q h = fold (step q) h rs

abbrev all_after : List (ℕ × OutstandingRequest) → List (Grain × Held) → List (Grain × Held)
all_after rs held = map (λ x. (x.0, after rs x.0 x.1)) held

apart_steps : (r : ℕ × OutstandingRequest) (rs : List (ℕ × OutstandingRequest)) (held : List (Grain × Held))
    → all_after rs (with_number held r) ≡ all_after (r ∷ rs) held
apart_steps r rs [] = refl
apart_steps r rs (e ∷ es) = ap (λ l. (e.0, after (r ∷ rs) e.0 e.1) ∷ l) (apart_steps r rs es)

pub each_after : (rs : List (ℕ × OutstandingRequest)) (held : List (Grain × Held))
    → with_numbers rs held ≡ map (λ x. (x.0, after rs x.0 x.1)) held
each_after [] held = sym (none held)
  where
    none : (es : List (Grain × Held)) → map (λ x. (x.0, x.1)) es ≡ es
    none [] = refl
    none (e ∷ es) = ap (λ l. e ∷ l) (none es)
each_after (r ∷ rs) held = each_after rs (with_number held r) ∙ apart_steps r rs held

-- one that has nothing outstanding stays
resting : (n : ℕ) (phase : Phase) → number_in phase ≡ None → phase_under n phase ≡ phase
resting n (Asking k) none = cc
resting n Firm none = refl
resting n (Closing k) none = cc

pub after_resting : (rs : List (ℕ × OutstandingRequest)) (q : Grain) (h : Held) → number_in h.phase ≡ None → after rs q h ≡ h
after_resting [] q h none = refl
after_resting (r ∷ rs) q h none = ap (λ x. after rs q x) (by (is_request_of q r.1)) ∙ after_resting rs q h none
  where
    by : (b : Bool) → cond b (held_as r.0 h) h ≡ h
    by true = ap (λ (p : Phase). record h { phase = p }) (resting r.0 h.phase none)
    by false = refl

pub untouched : (q : Grain) (h : Held) (m : ℕ) (es : List (ℕ × OutstandingRequest)) → AllByRecursion (λ e. is_request_of q e.1 ≡ false) es
    → after (enumerate_from m (values_of es)) q h ≡ h
untouched q h m [] none = refl
untouched q h m (e ∷ es) none =
    ap (λ b. after (enumerate_from (m + 1) (values_of es)) q (cond b (held_as m h) h)) none.0 ∙ untouched q h (m + 1) es none.1

no_more : (q : Grain) (k : ℕ) (es : List (ℕ × OutstandingRequest)) → AllByRecursion (λ y. nat_cmp k y ≡ Less) (keys_of es)
    → AllByRecursion (λ e. is_request_of q e.1 ≡ true → e.0 ≡ k) es
    → AllByRecursion (λ e. is_request_of q e.1 ≡ false) es
no_more q k [] above only = tt
no_more q k (e ∷ es) above only = (by (is_request_of q e.1) only.0, no_more q k es above.1 only.1)
  where
    by : (b : Bool) → (b ≡ true → e.0 ≡ k) → b ≡ false
    by true same = let h : Equal ≡ Less = sym (tied_itself nat_cmp_total k) ∙ ap (λ (n : ℕ). nat_cmp k n) (sym (same refl)) ∙ above.0 in cc
    by false same = refl

-- one that has a request outstanding has it under the request's rank
pub after_asking : (f : ℕ → ℕ) (q : Grain) (h : Held) (k m : ℕ) (es : List (ℕ × OutstandingRequest))
    → IsStrictlySortedBy nat_cmp (keys_of es) → Ranks f m es
    → AllByRecursion (λ e. is_request_of q e.1 ≡ true → e.0 ≡ k) es → lookup (is_at (nat_cmp k)) es ≡ Some (Activation q)
    → after (enumerate_from m (values_of es)) q h ≡ held_as (f k) h
after_asking f q h k m [] sorted ranks only found = cc
after_asking f q h k m (e ∷ es) sorted ranks only found =
    on_number (λ b. cond b (Some e.1) (lookup (is_at (nat_cmp k)) es) ≡ Some (Activation q)
    → after (enumerate_from m (values_of (e ∷ es))) q h ≡ held_as (f k) h) k e.0
    (λ same it. ap (λ b. after (enumerate_from (m + 1) (values_of es)) q (cond b (held_as m h) h))
    (ap (is_request_of q) (same_Some e.1 (Activation q) it) ∙ grain_at_itself q)
    ∙ untouched q (held_as m h) (m + 1) es
    (no_more q k es (subst (λ (j : ℕ). AllByRecursion (λ y. nat_cmp j y ≡ Less) (keys_of es)) (sym same)
    (sorted_head nat_cmp e.0 (keys_of es) sorted)) only.1)
    ∙ ap (λ (n : ℕ). held_as n h) (sym (ap f same ∙ ranks.0)))
    (λ other it. ap (λ b. after (enumerate_from (m + 1) (values_of es)) q (cond b (held_as m h) h)) (by (is_request_of q e.1) only.0 other)
    ∙ after_asking f q h k (m + 1) es (sorted_tail nat_cmp e.0 (keys_of es) sorted) ranks.1 only.1 it) found
  where
    by : (b : Bool) → (b ≡ true → e.0 ≡ k) → is_at (nat_cmp k) e.0 ≡ false → b ≡ false
    by true same other = let h : true ≡ false = sym (at_itself k) ∙ ap (λ (n : ℕ). is_at (nat_cmp k) n) (sym (same refl)) ∙ other in cc
    by false same other = refl

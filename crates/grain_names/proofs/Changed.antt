-- Grains stay apart where their names do, and change as their names' entries do.
use Rattle.std.proofs.Common.{◌≡◌, refl, sym, ap, subst, ◌∙◌, ℕ, List, [], ◌∷◌, zero, suc, set, false, Option, Some, None, arith}
use Rattle.std.specs.List.{AllByRecursion, AllZip, IsDistinct, swap_remove}
use Rattle.std.specs.Map.{keys_of}
use Rattle.std.specs.Prelude.{IfNone, IfSome, MatchOption, slice_get}
use Rattle.std.specs.Str.{bytes_eq}
use Rattle.std.proofs.lemmas.Option.{same_Some, slice_get_within}
use Rattle.indexmap.specs.IndexMap.{set_value_at}
use Rattle.indexmap.proofs.SetLemmas.{map-swap_remove}
use Rattle.silo_address.specs.Grain.{Grain, grain_eq}
use Rattle.silo_address.specs.ReadGrain.{grain_at_slash}
use Rattle.grain_names.specs.Names.{AreNamed, IsName, named}
use Rattle.grain_names.proofs.Named.{same_test, stands_named}

module _ {K V : Type 0} (text : K → List ℕ) where
  abbrev under_grain : K × V → Grain × V
  under_grain e = (grain_at_slash (text e.0), e.1)

  -- ---- No grain is there twice.
  others_apart : (e : K × V) (es : List (K × V)) → AreNamed text (e ∷ es)
      → AllByRecursion (λ k. bytes_eq (text e.0) (text k) ≡ false) (keys_of es)
      → AllByRecursion (λ grain. grain_eq (grain_at_slash (text e.0)) grain ≡ false) (keys_of (named text es))
  others_apart e [] names apart = tt
  others_apart e (x ∷ es) names apart = (
    sym (same_test (grain_at_slash (text e.0)) names.0.is_grain (text x.0) names.1.0)
        ∙ ap (λ (t : List ℕ). bytes_eq t (text x.0)) (sym names.0.spelled) ∙ apart.0,
    others_apart e es (names.0, names.1.1) apart.1,
  )

  pub named_apart : (es : List (K × V)) → AreNamed text es → IsDistinct (λ x y. bytes_eq (text x) (text y)) (keys_of es)
      → IsDistinct grain_eq (keys_of (named text es))
  unfolding IsDistinct
  named_apart [] names apart = tt
  named_apart (e ∷ es) names apart = (others_apart e es names apart.0, named_apart es names.1 apart.1)

  -- ---- A value is written.
  pub set_names : (es : List (K × V)) (index : ℕ) (value : V) → AreNamed text es → AreNamed text (set_value_at es index value)
  set_names [] index value names = tt
  set_names (x ∷ es) zero value names = names
  set_names (x ∷ es) (suc index) value names = (names.0, set_names es index value names.1)

  written_named : (es : List (K × V)) (index : ℕ) (value : V) (e : K × V) → slice_get es index ≡ Some e
      → named text (set_value_at es index value) ≡ set (named text es) index (grain_at_slash (text e.0), value)
  written_named [] index value e there = cc
  written_named (x ∷ es) zero value e there = ap (λ (y : K × V). (grain_at_slash (text y.0), value) ∷ named text es) (same_Some x e there)
  written_named (x ∷ es) (suc index) value e there = ap (λ l. under_grain x ∷ l) (written_named es index value e there)

  -- what is said where there is an entry at the index, and where there is none
  abbrev At : (List (Grain × V)) → ℕ → (List (Grain × V)) → (Grain × V → Type 0) → Type 0
  At old index new P = MatchOption (slice_get old index) (new ≡ old) P

  at_named : (es : List (K × V)) (index : ℕ) (new : List (Grain × V)) (P : Grain × V → Type 0) (there : Option (K × V))
      → slice_get es index ≡ there
      → MatchOption there (new ≡ named text es) (λ e. P (under_grain e)) → At (named text es) index new P
  at_named es index new P None is said = subst (λ o. MatchOption o (new ≡ named text es) P) (sym (stands_named text es index None is)) said
  at_named es index new P (Some e) is said =
      subst (λ o. MatchOption o (new ≡ named text es) P) (sym (stands_named text es index (Some e) is)) said

  set_past : (es : List (K × V)) (index : ℕ) (value : V) → slice_get es index ≡ None → set_value_at es index value ≡ es
  set_past [] index value none = refl
  set_past (x ∷ es) zero value none = cc
  set_past (x ∷ es) (suc index) value none = ap (λ l. x ∷ l) (set_past es index value none)

  pub set_named : (es : List (K × V)) (index : ℕ) (value : V)
      → At (named text es) index (named text (set_value_at es index value))
      (λ e. named text (set_value_at es index value) ≡ set (named text es) index (e.0, value))
  set_named es index value = by (slice_get es index) refl
    where
      by : (there : Option (K × V)) → slice_get es index ≡ there
          → At (named text es) index (named text (set_value_at es index value))
          (λ e. named text (set_value_at es index value) ≡ set (named text es) index (e.0, value))
      by None is = at_named es index (named text (set_value_at es index value)) _ None is (ap (named text) (set_past es index value is))
      by (Some e) is = at_named es index (named text (set_value_at es index value)) _ (Some e) is (written_named es index value e is)

  -- ---- An entry goes.
  pub swapped_named : (es new : List (K × V)) (index : ℕ) (gone : Option (K × V)) → gone ≡ slice_get es index
      → IfSome gone (λ p. new ≡ swap_remove es index p) → IfNone gone (new ≡ es)
      → At (named text es) index (named text new) (λ e. named text new ≡ swap_remove (named text es) index e)
  swapped_named es new index None there some none = at_named es index (named text new) _ None (sym there) (ap (named text) none)
  swapped_named es new index (Some p) there some none =
      let within = slice_get_within es index p (sym there) in
      at_named es index (named text new) _ (Some p) (sym there)
      (ap (named text) some ∙ map-swap_remove under_grain es index p (omega (arith, within)))

  -- ---- The entries are copied.
  module _ (C : V → V → Type 0) where
    pub copied_names : (es fs : List (K × V)) → AllZip (λ e f. (text f.0 ≡ text e.0) × C e.1 f.1) es fs → AreNamed text es
        → AreNamed text fs
    copied_names [] [] alike names = tt
    copied_names [] (f ∷ fs) alike names = absurd alike
    copied_names (e ∷ es) [] alike names = absurd alike
    copied_names (e ∷ es) (f ∷ fs) alike names = (subst IsName (sym alike.0.0) names.0, copied_names es fs alike.1 names.1)

    pub copied_named : (es fs : List (K × V)) → AllZip (λ e f. (text f.0 ≡ text e.0) × C e.1 f.1) es fs
        → AllZip (λ e f. (f.0 ≡ e.0) × C e.1 f.1) (named text es) (named text fs)
    copied_named [] [] alike = tt
    copied_named [] (f ∷ fs) alike = alike
    copied_named (e ∷ es) [] alike = alike
    copied_named (e ∷ es) (f ∷ fs) alike = ((ap grain_at_slash alike.0.0, alike.0.1), copied_named es fs alike.1)

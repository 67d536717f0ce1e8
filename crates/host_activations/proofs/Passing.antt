-- Of activations of different grains those that pass a test: each once, and what is found of them.
use Rattle.std.proofs.Common.{◌≡◌, refl, sym, ap, ◌∙◌, List, [], ◌∷◌, cond, Bool, true, false, filter, Option, Some, None}
use Rattle.std.specs.BTreeMap.{is_at}
use Rattle.std.specs.List.{AllByRecursion, IsDistinct}
use Rattle.std.specs.Map.{lookup, keys_of}
use Rattle.std.proofs.lemmas.Map.{lookup-none}
use Rattle.std.proofs.lemmas.Map.Keys.{IsDistinct-head, IsDistinct-tail}
use Rattle.silo_address.specs.Grain.{Grain, grain_cmp, grain_eq}
use Rattle.directory_rules.specs.declared.Held.{Held}
use Rattle.host_activations.specs.Listing.{passing}
use Rattle.host_activations.proofs.Grains.{on_grain, same_test}

-- none of its grain is behind the first
pub gone_behind : (q : Grain) (e : Grain × Held) (es : List (Grain × Held)) → IsDistinct grain_eq (keys_of (e ∷ es)) → q ≡ e.0
    → lookup (is_at (grain_cmp q)) es ≡ None
gone_behind q e es apart same = lookup-none (is_at (grain_cmp q)) es (none es (IsDistinct-head grain_eq e.0 (keys_of es) apart))
  where
    none : (xs : List (Grain × Held)) → AllByRecursion (λ g. grain_eq e.0 g ≡ false) (keys_of xs)
        → AllByRecursion (λ x. is_at (grain_cmp q) x.0 ≡ false) xs
    none [] all = tt
    none (x ∷ xs) all = (ap (λ (g : Grain). is_at (grain_cmp g) x.0) same ∙ sym (same_test e.0 x.0) ∙ all.0, none xs all.1)

-- tests that agree find the same
pub passing_alike : (one other : Grain × Held → Bool) → ((e : Grain × Held) → one e ≡ other e) → (q : Grain) (o : Option Held)
    → passing one q o ≡ passing other q o
passing_alike one other agree q o = ap (λ (test : Grain × Held → Bool). passing test q o) (λ i e. agree e i)

module _ (test : Grain × Held → Bool) where
  others : (g : Grain) (es : List (Grain × Held)) → AllByRecursion (λ k. grain_eq g k ≡ false) (keys_of es)
      → AllByRecursion (λ k. grain_eq g k ≡ false) (keys_of (filter test es))
  others g [] all = tt
  others g (e ∷ es) all = by (test e) (others g es all.1)
    where
      by : (b : Bool) → AllByRecursion (λ k. grain_eq g k ≡ false) (keys_of (filter test es))
          → AllByRecursion (λ k. grain_eq g k ≡ false) (keys_of (cond b (e ∷ filter test es) (filter test es)))
      by true rest = (all.0, rest)
      by false rest = rest

  pub passing_once : (es : List (Grain × Held)) → IsDistinct grain_eq (keys_of es) → IsDistinct grain_eq (keys_of (filter test es))
  unfolding IsDistinct
  passing_once [] apart = tt
  passing_once (e ∷ es) apart = by (test e) (passing_once es apart.1)
    where
      by : (b : Bool) → IsDistinct grain_eq (keys_of (filter test es))
          → IsDistinct grain_eq (keys_of (cond b (e ∷ filter test es) (filter test es)))
      by true rest = (others e.0 es apart.0, rest)
      by false rest = rest

  abbrev at : Grain → List (Grain × Held) → Option Held
  at q es = lookup (is_at (grain_cmp q)) es

  pub passing_found : (q : Grain) (es : List (Grain × Held)) → IsDistinct grain_eq (keys_of es)
      → at q (filter test es) ≡ passing test q (at q es)
  passing_found q [] apart = refl
  passing_found q (e ∷ es) apart =
      first (test e)
      ∙ on_grain (λ t. cond t (cond (test e) (Some e.1) (at q (filter test es))) (at q (filter test es))
      ≡ passing test q (cond t (Some e.1) (at q es))) q e.0
      (λ same. ap (λ o. cond (test e) (Some e.1) o)
      (passing_found q es (IsDistinct-tail grain_eq e.0 (keys_of es) apart) ∙ ap (passing test q) (gone_behind q e es apart same))
      ∙ ap (λ (g : Grain). passing test g (Some e.1)) (sym same))
      (λ other. passing_found q es (IsDistinct-tail grain_eq e.0 (keys_of es) apart))
    where
      both : {A : Type 0} (t : Bool) (o : A) → o ≡ cond t o o
      both true o = refl
      both false o = refl

      first : (b : Bool) → at q (cond b (e ∷ filter test es) (filter test es))
          ≡ cond (is_at (grain_cmp q) e.0) (cond b (Some e.1) (at q (filter test es))) (at q (filter test es))
      first true = refl
      first false = both (is_at (grain_cmp q) e.0) (at q (filter test es))

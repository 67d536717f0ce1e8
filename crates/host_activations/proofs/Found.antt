-- Searches among the activations, and what is found by grain.
use Rattle.std.proofs.Common.{◌≡◌, refl, sym, ap, subst, ◌∙◌, List, [], ◌∷◌, cond, Bool, true, false, Some, None, find}
use Rattle.std.specs.List.{AllByRecursion, IsDistinct}
use Rattle.std.specs.Map.{lookup, keys_of}
use Rattle.std.specs.BTreeMap.{is_at}
use Rattle.std.proofs.lemmas.Option.{same_Some}
use Rattle.std.proofs.lemmas.Map.Keys.{IsDistinct-head, IsDistinct-tail}
use Rattle.silo_address.specs.Grain.{Grain, grain_cmp, grain_eq}
use Rattle.silo_address.proofs.Same.{Decides-grain}
use Rattle.directory_rules.specs.declared.Held.{Held}
use Rattle.host_activations.proofs.Grains.{grain_at_itself, on_grain}

-- an entry is what is found at its grain
abbrev pub IsFoundIn : List (Grain × Held) → Grain × Held → Type 0
IsFoundIn all e = lookup (is_at (grain_cmp e.0)) all ≡ Some e.1

module _ {A : Type 0} (P Q : A → Type 0) where
  pub all_map : (xs : List A) → ((x : A) → P x → Q x) → AllByRecursion P xs → AllByRecursion Q xs
  all_map [] so all = tt
  all_map (x ∷ xs) so all = (so x all.0, all_map xs so all.1)

behind : (first : Grain × Held) (all es : List (Grain × Held)) → AllByRecursion (λ g. grain_eq first.0 g ≡ false) (keys_of es)
    → AllByRecursion (IsFoundIn all) es → AllByRecursion (IsFoundIn (first ∷ all)) es
behind first all [] apart found = tt
behind first all (e ∷ es) apart found = (here, behind first all es apart.1 found.1)
  where
    here : lookup (is_at (grain_cmp e.0)) (first ∷ all) ≡ Some e.1
    here =
        on_grain (λ b. cond b (Some first.1) (lookup (is_at (grain_cmp e.0)) all) ≡ Some e.1) e.0 first.0
        (λ same. let h : true ≡ false = sym ((Decides-grain first.0 e.0).1 (sym same)) ∙ apart.0 in cc) (λ other. found.0)

-- among entries of distinct grains each is
pub each_found : (es : List (Grain × Held)) → IsDistinct grain_eq (keys_of es) → AllByRecursion (IsFoundIn es) es
each_found [] apart = tt
each_found (e ∷ es) apart = (
  ap (λ b. cond b (Some e.1) (lookup (is_at (grain_cmp e.0)) es)) (grain_at_itself e.0),
  behind e es es (IsDistinct-head grain_eq e.0 (keys_of es) apart) (each_found es (IsDistinct-tail grain_eq e.0 (keys_of es) apart)),
)

module _ (test : Grain × Held → Bool) where
  -- what a search gives passes, and is found at its grain
  pub found_by_search : (all es : List (Grain × Held)) → AllByRecursion (IsFoundIn all) es → (f : Grain × Held) → find test es ≡ Some f
      → IsFoundIn all f × (test f ≡ true)
  found_by_search all [] found f is = cc
  found_by_search all (e ∷ es) found f is = by (test e) refl is (found_by_search all es found.1 f)
    where
      by : (b : Bool) → test e ≡ b → cond b (Some e) (find test es) ≡ Some f → (find test es ≡ Some f → IsFoundIn all f × (test f ≡ true))
          → IsFoundIn all f × (test f ≡ true)
      by true h is later = let same : e ≡ f = same_Some e f is in (subst (IsFoundIn all) same found.0, subst (λ x. test x ≡ true) same h)
      by false h is later = later is

  -- a search gives the entry of the grain, where it passes and no entry of another grain does
  pub search_finds : (es : List (Grain × Held)) (g : Grain) (h : Held) → AllByRecursion (λ e. test e ≡ true → e.0 ≡ g) es
      → lookup (is_at (grain_cmp g)) es ≡ Some h → test (g, h) ≡ true → find test es ≡ Some (g, h)
  search_finds [] g h only there passes = cc
  search_finds (e ∷ es) g h only there passes =
      on_grain (λ b. cond b (Some e.1) (lookup (is_at (grain_cmp g)) es) ≡ Some h → cond (test e) (Some e) (find test es) ≡ Some (g, h)) g
      e.0
      (λ same it. let here : e ≡ (g, h) = (λ i. (sym same i, same_Some e.1 h it i)) in
      ap (λ (x : Grain × Held). cond (test x) (Some x) (find test es)) here ∙ ap (λ b. cond b (Some (g, h)) (find test es)) passes)
      (λ other it. by (test e) refl other (search_finds es g h only.1 it passes)) there
    where
      by : (b : Bool) → test e ≡ b → is_at (grain_cmp g) e.0 ≡ false → find test es ≡ Some (g, h)
          → cond b (Some e) (find test es) ≡ Some (g, h)
      by true p other later =
          let h : true ≡ false = sym (grain_at_itself g) ∙ ap (λ (x : Grain). is_at (grain_cmp g) x) (sym (only.0 p)) ∙ other in cc
      by false p other later = later

  pub search_fails : (es : List (Grain × Held)) → AllByRecursion (λ e. test e ≡ false) es → find test es ≡ None
  search_fails [] none = refl
  search_fails (e ∷ es) none = ap (λ b. cond b (Some e) (find test es)) none.0 ∙ search_fails es none.1

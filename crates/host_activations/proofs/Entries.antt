-- Entries under keys: what is found, and how many there are, after one is put last and after one is taken out.
use Rattle.std.proofs.Common.{◌≡◌, refl, ap, ◌+◌, List, [], ◌∷◌, ◌++◌, length, cond, Bool, true, false, Some, None, map, arith}
use Rattle.std.specs.Option.{option_map}
use Rattle.std.specs.Map.{lookup, remove_entry, keys_of}

module _ {K X : Type 0} (test : K → Bool) where
  -- an entry comes last
  pub lookup_last : (es : List (K × X)) (e : K × X) → lookup test es ≡ None → lookup test (es ++ e ∷ []) ≡ cond (test e.0) (Some e.1) None
  lookup_last [] e none = refl
  lookup_last (x ∷ xs) e none = by (test x.0) none (lookup_last xs e)
    where
      by : (b : Bool) → cond b (Some x.1) (lookup test xs) ≡ None
          → (lookup test xs ≡ None → lookup test (xs ++ e ∷ []) ≡ cond (test e.0) (Some e.1) None)
          → cond b (Some x.1) (lookup test (xs ++ e ∷ [])) ≡ cond (test e.0) (Some e.1) None
      by true none later = cc
      by false none later = later none

  -- and is not what is found
  pub lookup_before : (es : List (K × X)) (e : K × X) → test e.0 ≡ false → lookup test (es ++ e ∷ []) ≡ lookup test es
  lookup_before [] e not = ap (λ b. cond b (Some e.1) None) not
  lookup_before (x ∷ xs) e not = ap (λ found. cond (test x.0) (Some x.1) found) (lookup_before xs e not)

  -- one entry less
  pub length-remove_entry : (es : List (K × X)) (x : X) → lookup test es ≡ Some x → length (remove_entry test es) + 1 ≡ length es
  length-remove_entry [] x found = cc
  length-remove_entry (e ∷ es) x found = by (test e.0) found (length-remove_entry es x)
    where
      by : (b : Bool) → cond b (Some e.1) (lookup test es) ≡ Some x
          → (lookup test es ≡ Some x → length (remove_entry test es) + 1 ≡ length es)
          → length (cond b es (e ∷ remove_entry test es)) + 1 ≡ length (e ∷ es)
      by true found later = omega arith
      by false found later = let h = later found in omega (h, arith)

  pub remove_absent : (es : List (K × X)) → lookup test es ≡ None → remove_entry test es ≡ es
  remove_absent [] none = refl
  remove_absent (e ∷ es) none = by (test e.0) none (remove_absent es)
    where
      by : (b : Bool) → cond b (Some e.1) (lookup test es) ≡ None → (lookup test es ≡ None → remove_entry test es ≡ es)
          → cond b es (e ∷ remove_entry test es) ≡ e ∷ es
      by true none later = cc
      by false none later = ap (λ l. e ∷ l) (later none)

-- the values, each put through a function
module _ {K X Y : Type 0} (g : X → Y) where
  pub lookup-map : (test : K → Bool) (es : List (K × X)) → lookup test (map (λ e. (e.0, g e.1)) es) ≡ option_map g (lookup test es)
  lookup-map test [] = refl
  lookup-map test (e ∷ es) = by (test e.0) (lookup-map test es)
    where
      by : (b : Bool) → lookup test (map (λ e. (e.0, g e.1)) es) ≡ option_map g (lookup test es)
          → cond b (Some (g e.1)) (lookup test (map (λ e. (e.0, g e.1)) es)) ≡ option_map g (cond b (Some e.1) (lookup test es))
      by true later = refl
      by false later = later

  pub keys-map : (es : List (K × X)) → keys_of (map (λ e. (e.0, g e.1)) es) ≡ keys_of es
  keys-map [] = refl
  keys-map (e ∷ es) = ap (λ l. e.0 ∷ l) (keys-map es)

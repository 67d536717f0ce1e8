-- Pieces under their starts: what a look-up finds, and that no hash is in two.
use Rattle.std.proofs.Common.{arith, ◌≡◌, refl, sym, ap, ◌∙◌, subst, ℕ, List, [], ◌∷◌, ◌+◌, ◌<◌, ◌≤◌}
use Rattle.std.specs.Prelude.{Bool, true, cond, All, count_by, Some, None}
use Rattle.std.specs.Map.{lookup}
use Rattle.std.specs.BTreeMap.{is_at}
use Rattle.std.specs.Ordering.{is_eq, nat_cmp}
use Rattle.std.specs.declared.cmp.Ordering.{Ordering}
use Rattle.std.specs.declared.cmp.Ordering.TheVariants.{Less, Equal, Greater}
use Rattle.std.proofs.lemmas.Option.{same_Some}
use Rattle.std.proofs.lemmas.List.Elements.{All-head, All-tail}
use Rattle.std.proofs.lemmas.List.Sums.{sum_by-cons}
use Rattle.std.proofs.lemmas.Map.Lookups.{exact_unsigned}

module _ {X : Type 0} where
  -- what a look-up does at the first entry and behind it
  pub by_entry : (k : ℕ) (v : X) (P : Type 0) (e : ℕ × X) (es : List (ℕ × X)) → lookup (is_at (nat_cmp k)) (e ∷ es) ≡ Some v
      → (k ≡ e.0 → e.1 ≡ v → P) → (lookup (is_at (nat_cmp k)) es ≡ Some v → P) → P
  by_entry k v P e es found here behind = by (nat_cmp k e.0) refl found
    where
      by : (r : Ordering) → nat_cmp k e.0 ≡ r → cond (is_eq r) (Some e.1) (lookup (is_at (nat_cmp k)) es) ≡ Some v → P
      by Less is found = behind found
      by Equal is found = here (exact_unsigned k e.0 is) (same_Some e.1 v found)
      by Greater is found = behind found

  -- what holds of each entry holds of what a look-up finds
  pub at_lookup : (P : ℕ × X → Type 0) (es : List (ℕ × X)) → All P es → (k : ℕ) (v : X) → lookup (is_at (nat_cmp k)) es ≡ Some v → P (k, v)
  at_lookup P [] all k v found = absurd (let no : None ≡ Some v = found in cc)
  at_lookup P (e ∷ es) all k v found =
      by_entry k v (P (k, v)) e es found (λ key value. let Q : ℕ × X → Type 0 = P in
      subst Q (λ i. (sym key i, value i)) (All-head P e es all))
      (at_lookup P es (All-tail P e es all) k v)

  module _ (p : X → Bool) where
    -- how many pass
    abbrev pub passing : List (ℕ × X) → ℕ
    passing es = count_by (λ e. p e.1) es

    pub counted : (e : ℕ × X) (es : List (ℕ × X)) → passing (e ∷ es) ≡ cond (p e.1) 1 0 + passing es
    counted e es = sum_by-cons (λ (x : ℕ × X). cond (p x.1) 1 0) e es

    pub one_for : (b : Bool) → b ≡ true → cond {A = ℕ} b 1 0 ≡ 1
    one_for b is = ap (λ c. cond c 1 0) is

    -- what is found and passes is counted
    pub found_counts : (es : List (ℕ × X)) (k : ℕ) (v : X) → lookup (is_at (nat_cmp k)) es ≡ Some v → p v ≡ true → 0 < passing es
    found_counts [] k v found passes = absurd (let no : None ≡ Some v = found in cc)
    found_counts (e ∷ es) k v found passes =
        by_entry k v (0 < passing (e ∷ es)) e es found
        (λ key value. let one = one_for (p e.1) (ap p value ∙ passes) in let c = counted e es in omega arith)
        (λ later. let more = found_counts es k v later passes in let c = counted e es in omega arith)

    -- where one passes at most, what passes is found at one key
    pub only_one : (es : List (ℕ × X)) → passing es ≤ 1 → (j k : ℕ) (v w : X) → lookup (is_at (nat_cmp j)) es ≡ Some v
        → lookup (is_at (nat_cmp k)) es ≡ Some w
        → p v ≡ true → p w ≡ true → j ≡ k
    only_one [] few j k v w one other passes too = absurd (let no : None ≡ Some v = one in cc)
    only_one (e ∷ es) few j k v w one other passes too =
        let c = counted e es in
        by_entry j v (j ≡ k) e es one
        (λ key value. by_entry k w (j ≡ k) e es other (λ its _. key ∙ sym its)
        (λ later. let here = one_for (p e.1) (ap p value ∙ passes) in let more = found_counts es k w later too in absurd (omega arith)))
        (λ behind. by_entry k w (j ≡ k) e es other
        (λ its value. let here = one_for (p e.1) (ap p value ∙ too) in let more = found_counts es j v behind passes in absurd (omega arith))
        (λ later. only_one es (omega arith) j k v w behind later passes too))

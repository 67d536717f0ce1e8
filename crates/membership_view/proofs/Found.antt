-- Entries in the order of their keys, where the order tells all keys apart: what a test of each entry, and a search among them, say
-- of what is found.
use Rattle.std.proofs.Common.{◌≡◌, List, [], ◌∷◌, cond, Bool, true, false, ◌||◌, refl, sym, ◌∙◌, ap, find, Some, None}
use Rattle.std.proofs.lemmas.Bool.{and_parts, and_from, or_left, or_right}
use Rattle.std.proofs.lemmas.Cmp.{alike_right, tied_itself, eq_by_cmp_equiv}
use Rattle.std.proofs.lemmas.Map.Keys.{sorted_head, sorted_tail, IsDistinct-from_sorted}
use Rattle.std.proofs.lemmas.Map.{lookup-none}
use Rattle.std.proofs.lemmas.Map.Entries.{none_past_head, none_below_head, lookup_tail}
use Rattle.std.proofs.lemmas.Map.Lookups.{CmpEqualImpliesEq}
use Rattle.std.proofs.lemmas.Option.{same_Some}
use Rattle.std.specs.Cmp.{IsTotalOrder}
use Rattle.std.specs.List.{AllByRecursion, list_all, list_any}
use Rattle.std.specs.List.Sorted.{IsStrictlySortedBy}
use Rattle.std.specs.Map.{lookup, keys_of}
use Rattle.std.specs.BTreeMap.{is_at}
use Rattle.std.specs.Ordering.{is_eq, ordering_reverse}
use Rattle.std.specs.declared.cmp.Ordering.{Ordering}
use Rattle.std.specs.declared.cmp.Ordering.TheVariants.{Less, Equal, Greater}

none_where : {A : Type 0} (x : A) → Some x ≡ None → ⊥
none_where x h = cc

module _ {K X : Type 0} {R : K → K → Ordering} (o : IsTotalOrder R) where
  -- a key that is found among keys above another is above it
  pub found_above : (j q : K) (x : X) (es : List (K × X)) → AllByRecursion (λ y. R j y ≡ Less) (keys_of es) → lookup (is_at (R q)) es ≡ Some x
      → R j q ≡ Less
  found_above j q x [] above found = cc
  found_above j q x (e ∷ es) above found = by (R q e.0) refl found (found_above j q x es above.1)
    where
      by : (r : Ordering) → R q e.0 ≡ r → cond (is_eq r) (Some e.1) (lookup (is_at (R q)) es) ≡ Some x
          → (lookup (is_at (R q)) es ≡ Some x → R j q ≡ Less) → R j q ≡ Less
      by Less h found later = later found
      by Equal h found later = alike_right o q e.0 j h ∙ above.0
      by Greater h found later = later found

  -- what is found behind the first entry is found
  pub found_behind : (e : K × X) (es : List (K × X)) → IsStrictlySortedBy R (keys_of (e ∷ es)) → (q : K) (x : X)
      → lookup (is_at (R q)) es ≡ Some x
      → lookup (is_at (R q)) (e ∷ es) ≡ Some x
  found_behind e es s q x found =
      let above : R e.0 q ≡ Less = found_above e.0 q x es (sorted_head R e.0 (keys_of es) s) found in
      ap (λ r. cond (is_eq r) (Some e.1) (lookup (is_at (R q)) es)) (o.antisymm q e.0 ∙ ap ordering_reverse above) ∙ found

  pub found_first : (e : K × X) (es : List (K × X)) → lookup (is_at (R e.0)) (e ∷ es) ≡ Some e.1
  found_first e es = ap (λ r. cond (is_eq r) (Some e.1) (lookup (is_at (R e.0)) es)) (tied_itself o e.0)

  module _ (p : K → X → Bool) where
    -- a test that each entry passes is passed by what is found
    pub all_found : CmpEqualImpliesEq R → (es : List (K × X)) → list_all (λ e. p e.0 e.1) es ≡ true → (q : K) (x : X)
        → lookup (is_at (R q)) es ≡ Some x → p q x ≡ true
    all_found exact [] all q x found = cc
    all_found exact (e ∷ es) all q x found =
        let both = and_parts (p e.0 e.1) (list_all (λ e. p e.0 e.1) es) all in
        by (R q e.0) refl found both.0 (all_found exact es both.1 q x)
      where
        by : (r : Ordering) → R q e.0 ≡ r → cond (is_eq r) (Some e.1) (lookup (is_at (R q)) es) ≡ Some x → p e.0 e.1 ≡ true
            → (lookup (is_at (R q)) es ≡ Some x → p q x ≡ true) → p q x ≡ true
        by Less h found here later = later found
        by Equal h found here later = ap (λ k. p k x) (exact q e.0 h) ∙ ap (λ y. p e.0 y) (sym (same_Some e.1 x found)) ∙ here
        by Greater h found here later = later found

    -- and the way back
    pub all_from_found : (es : List (K × X)) → IsStrictlySortedBy R (keys_of es)
        → ((q : K) (x : X) → lookup (is_at (R q)) es ≡ Some x → p q x ≡ true)
        → list_all (λ e. p e.0 e.1) es ≡ true
    all_from_found [] s each = refl
    all_from_found (e ∷ es) s each =
        and_from (p e.0 e.1) (list_all (λ e. p e.0 e.1) es) (each e.0 e.1 (found_first e es))
        (all_from_found es (sorted_tail R e.0 (keys_of es) s) (λ q x found. each q x (found_behind e es s q x found)))

    -- the entry that a search gives passes, and is found at its key
    pub find_found : (es : List (K × X)) → IsStrictlySortedBy R (keys_of es) → (f : K × X) → find (λ e. p e.0 e.1) es ≡ Some f
        → (lookup (is_at (R f.0)) es ≡ Some f.1) × (p f.0 f.1 ≡ true)
    find_found [] s f found = cc
    find_found (e ∷ es) s f found = by (p e.0 e.1) refl found (find_found es (sorted_tail R e.0 (keys_of es) s) f)
      where
        by : (b : Bool) → p e.0 e.1 ≡ b → cond b (Some e) (find (λ e. p e.0 e.1) es) ≡ Some f
            → (find (λ e. p e.0 e.1) es ≡ Some f → (lookup (is_at (R f.0)) es ≡ Some f.1) × (p f.0 f.1 ≡ true))
            → (lookup (is_at (R f.0)) (e ∷ es) ≡ Some f.1) × (p f.0 f.1 ≡ true)
        by true h found later =
            let same : e ≡ f = same_Some e f found in (
              ap (λ (g : K × X). lookup (is_at (R g.0)) (e ∷ es)) (sym same) ∙ found_first e es ∙ ap (λ (g : K × X). Some g.1) same,
              ap (λ (g : K × X). p g.0 g.1) (sym same) ∙ h,
            )
        by false h found later =
            let both = later found in
            (found_behind e es s f.0 f.1 both.0, both.1)

    -- where a search gives nothing, nothing that is found passes
    pub find_none : CmpEqualImpliesEq R → (es : List (K × X)) → find (λ e. p e.0 e.1) es ≡ None → (q : K) (x : X)
        → lookup (is_at (R q)) es ≡ Some x → p q x ≡ false
    find_none exact [] none q x found = cc
    find_none exact (e ∷ es) none q x found = by (p e.0 e.1) refl none (R q e.0) refl found (λ none. find_none exact es none q x)
      where
        by : (b : Bool) → p e.0 e.1 ≡ b → cond b (Some e) (find (λ e. p e.0 e.1) es) ≡ None
            → (r : Ordering) → R q e.0 ≡ r → cond (is_eq r) (Some e.1) (lookup (is_at (R q)) es) ≡ Some x
            → (find (λ e. p e.0 e.1) es ≡ None → lookup (is_at (R q)) es ≡ Some x → p q x ≡ false) → p q x ≡ false
        by true h none r at found later = cc
        by false h none Less at found later = later none found
        by false h none Equal at found later = ap (λ k. p k x) (exact q e.0 at) ∙ ap (λ y. p e.0 y) (sym (same_Some e.1 x found)) ∙ h
        by false h none Greater at found later = later none found

    -- where what is found passes, some entry does
    pub any_from_found : CmpEqualImpliesEq R → (es : List (K × X)) → (q : K) (x : X) → lookup (is_at (R q)) es ≡ Some x → p q x ≡ true
        → list_any (λ e. p e.0 e.1) es ≡ true
    any_from_found exact [] q x found is = absurd (cc (found))
    any_from_found exact (e ∷ es) q x found is = by (R q e.0) refl found (λ later. any_from_found exact es q x later is)
      where
        by : (r : Ordering) → R q e.0 ≡ r → cond (is_eq r) (Some e.1) (lookup (is_at (R q)) es) ≡ Some x
            → (lookup (is_at (R q)) es ≡ Some x → list_any (λ e. p e.0 e.1) es ≡ true)
            → (p e.0 e.1 || list_any (λ e. p e.0 e.1) es) ≡ true
        by Less h found later = or_right (p e.0 e.1) (list_any (λ e. p e.0 e.1) es) (later found)
        by Greater h found later = or_right (p e.0 e.1) (list_any (λ e. p e.0 e.1) es) (later found)
        by Equal h found later =
            or_left (p e.0 e.1) (list_any (λ e. p e.0 e.1) es)
            (ap (λ k. p k e.1) (sym (exact q e.0 h)) ∙ ap (λ y. p q y) (same_Some e.1 x found) ∙ is)

  -- a key below all others is not found
  below_all : (q : K) (e : K × X) (es : List (K × X)) → IsStrictlySortedBy R (keys_of (e ∷ es)) → R q e.0 ≡ Less
      → lookup (is_at (R q)) (e ∷ es) ≡ None
  below_all q e es s h = lookup-none (is_at (R q)) (e ∷ es) (none_below_head o q e es s h)

  -- two lists of entries in order in which the same is found are one
  pub same_entries : CmpEqualImpliesEq R → (es fs : List (K × X)) → IsStrictlySortedBy R (keys_of es) → IsStrictlySortedBy R (keys_of fs)
      → ((q : K) → lookup (is_at (R q)) es ≡ lookup (is_at (R q)) fs) → es ≡ fs
  same_entries exact [] [] s t same = refl
  same_entries exact [] (f ∷ fs) s t same = absurd (none_where f.1 (sym (found_first f fs) ∙ sym (same f.0)))
  same_entries exact (e ∷ es) [] s t same = absurd (none_where e.1 (sym (found_first e es) ∙ same e.0))
  same_entries exact (e ∷ es) (f ∷ fs) s t same =
      by (R e.0 f.0) refl (same_entries exact es fs (sorted_tail R e.0 (keys_of es) s) (sorted_tail R f.0 (keys_of fs) t))
    where
      head : R e.0 f.0 ≡ Equal → Some e.1 ≡ Some f.1
      head h = sym (found_first e es) ∙ same e.0 ∙ ap (λ k. lookup (is_at (R k)) (f ∷ fs)) (exact e.0 f.0 h) ∙ found_first f fs

      behind : R e.0 f.0 ≡ Equal → (q : K) → is_eq (R q e.0) ≡ false → lookup (is_at (R q)) es ≡ lookup (is_at (R q)) fs
      behind h q not =
          sym (lookup_tail (is_at (R q)) e es not) ∙ same q
          ∙ lookup_tail (is_at (R q)) f fs (ap is_eq (sym (alike_right o e.0 f.0 q h)) ∙ not)

      tail : R e.0 f.0 ≡ Equal → (q : K) → (r : Ordering) → R q e.0 ≡ r → lookup (is_at (R q)) es ≡ lookup (is_at (R q)) fs
      tail h q Equal at =
          lookup-none (is_at (R q)) es (none_past_head (eq_by_cmp_equiv o) q e es (IsDistinct-from_sorted R (keys_of (e ∷ es)) s)
          (ap is_eq at))
          ∙ sym (lookup-none (is_at (R q)) fs
          (none_past_head (eq_by_cmp_equiv o) q f fs (IsDistinct-from_sorted R (keys_of (f ∷ fs)) t)
          (ap is_eq (sym (alike_right o e.0 f.0 q h) ∙ at))))
      tail h q Less at = behind h q (ap is_eq at)
      tail h q Greater at = behind h q (ap is_eq at)

      by : (r : Ordering) → R e.0 f.0 ≡ r → (((q : K) → lookup (is_at (R q)) es ≡ lookup (is_at (R q)) fs) → es ≡ fs) → e ∷ es ≡ f ∷ fs
      by Less h rest = absurd (none_where e.1 (sym (found_first e es) ∙ same e.0 ∙ below_all e.0 f fs t h))
      by Greater h rest =
          absurd (none_where f.1 (sym (found_first f fs) ∙ sym (same f.0)
          ∙ below_all f.0 e es s (o.antisymm f.0 e.0 ∙ ap ordering_reverse h)))
      by Equal h rest = λ i. (exact e.0 f.0 h i, same_Some e.1 f.1 (head h) i) ∷ rest (λ q. tail h q (R q e.0) refl) i

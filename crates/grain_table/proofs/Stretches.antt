-- What stands before a hash, or between two, stands in some buckets.
use Rattle.std.proofs.Common.{add-one, arith, ◌≡◌, refl, sym, ap, ◌∙◌, subst, ℕ, suc, ◌+◌, ◌<◌, ◌≤◌, List, [], ◌∷◌, ◌++◌, length, take, drop, set, get_or}
use Rattle.std.proofs.lemmas.Bool.Decides.{nat_tests}
use Rattle.std.proofs.lemmas.List.{append-nil, drop-drop, get_or-take, length-take, take-append-drop, take_all}
use Rattle.std.proofs.lemmas.List.Elements.{filter-append}
use Rattle.std.specs.List.{AllByRecursion}
use Rattle.std.specs.Prelude.{Bool, true, false, cond, filter, nat_lt}
use Rattle.silo_address.specs.declared.ActivationId.{ActivationId}
use Rattle.grain_table.specs.declared.hashed_grain.HashedGrain.{HashedGrain}
use Rattle.grain_table.specs.Buckets.{AreCut, joined}
use Rattle.grain_table.specs.Hashed.{Hashed}
use Rattle.grain_table.specs.Stretch.{is_between}
use Rattle.grain_table.proofs.Cuts.{AreBelow, AreFrom, Passes, Reaches, back_from, front_below}
use Rattle.grain_table.proofs.Filters.{all_passed}
use Rattle.grain_table.proofs.InOrder.{all_so}
use Rattle.grain_table.proofs.Joined.{fewer_behind, joined_append, joined_at, set_last}
use Rattle.grain_table.proofs.StillCut.{cut_set, cut_taken, passes_taken, reaches_taken}

-- ---- What passes of all, and of none.
module _ (p : HashedGrain × ActivationId → Bool) where
  all_pass : (es : Hashed) → AllByRecursion (λ e. p e ≡ true) es → filter p es ≡ es
  all_pass [] all = refl
  all_pass (e ∷ es) all = ap (λ b. cond b (e ∷ filter p es) (filter p es)) all.0 ∙ ap (λ l. e ∷ l) (all_pass es all.1)

  none_pass : (es : Hashed) → AllByRecursion (λ e. p e ≡ false) es → filter p es ≡ []
  none_pass [] all = refl
  none_pass (e ∷ es) all = ap (λ b. cond b (e ∷ filter p es) (filter p es)) all.0 ∙ none_pass es all.1

lower_passes : (end : ℕ) (es : Hashed) → AreBelow end es → filter (λ e. nat_lt e.0.hash end) es ≡ es
lower_passes end es all =
    all_pass (λ e. nat_lt e.0.hash end) es (all_so (λ e. e.0.hash < end) (λ e. nat_lt e.0.hash end ≡ true)
    (λ e lt. grind (arith, nat_tests)) es all)

higher_fails : (end : ℕ) (es : Hashed) → AreFrom end es → filter (λ e. nat_lt e.0.hash end) es ≡ []
higher_fails end es all =
    none_pass (λ e. nat_lt e.0.hash end) es (all_so (λ e. end ≤ e.0.hash) (λ e. nat_lt e.0.hash end ≡ false)
    (λ e le. grind (arith, nat_tests)) es all)

-- a bucket's, at the index where its hashes reach the end
pub kept_before : (es : Hashed) (index end : ℕ) → AreBelow end (take index es) → AreFrom end (drop index es)
    → take index es ≡ filter (λ e. nat_lt e.0.hash end) es
kept_before es index end low high =
    sym (append-nil (take index es))
    ∙ (λ i. sym (lower_passes end (take index es) low) i ++ sym (higher_fails end (drop index es) high) i)
    ∙ sym (filter-append (λ e. nat_lt e.0.hash end) (take index es) (drop index es))
    ∙ ap (filter (λ (e : HashedGrain × ActivationId). nat_lt e.0.hash end)) (take-append-drop index es)

-- ---- What stands before the end.
module _ (cuts : List ℕ) (buckets : List Hashed) (cut : AreCut cuts buckets) (end index : ℕ) (pass : Passes cuts end index) where
  pub all_before_end : length buckets ≤ index → joined buckets ≡ filter (λ e. nat_lt e.0.hash end) (joined buckets)
  all_before_end past =
      sym (lower_passes end (joined buckets) (subst (λ l. AreBelow end (joined l)) (take_all index buckets past)
      (front_below cuts buckets cut end index pass)))

  some_before_end : (d : Hashed) → index < length buckets → Reaches cuts end index
      → joined (set (take (suc index) buckets) index (filter (λ e. nat_lt e.0.hash end) (get_or buckets index d))) ≡ filter
      (λ e. nat_lt e.0.hash end) (joined buckets)
  some_before_end d within reach =
      ap joined (set_last buckets index (filter (λ e. nat_lt e.0.hash end) (get_or buckets index d)) within)
      ∙ joined_append (take index buckets) (filter (λ e. nat_lt e.0.hash end) (get_or buckets index d) ∷ [])
      ∙ (λ i. sym (lower_passes end (joined (take index buckets)) (front_below cuts buckets cut end index pass)) i
      ++ (filter (λ e. nat_lt e.0.hash end) (get_or buckets index d) ++ sym
      (higher_fails end (joined (drop (suc index) buckets)) (back_from cuts buckets cut end index reach)) i))
      ∙ ap (λ l. filter (λ (e : HashedGrain × ActivationId). nat_lt e.0.hash end) (joined (take index buckets)) ++ l)
      (sym (filter-append (λ e. nat_lt e.0.hash end) (get_or buckets index d) (joined (drop (suc index) buckets))))
      ∙ sym (filter-append (λ e. nat_lt e.0.hash end) (joined (take index buckets))
      (get_or buckets index d ++ joined (drop (suc index) buckets)))
      ∙ ap (filter (λ (e : HashedGrain × ActivationId). nat_lt e.0.hash end)) (sym (joined_at buckets index d within))

-- the first buckets, of which the last one keeps what is before the end
module _ (cuts : List ℕ) (buckets : List Hashed) (cut : AreCut cuts buckets) (end index : ℕ) (pass : Passes cuts end index)
    (reach : Reaches cuts end index) (within : index < length buckets) (first : List Hashed) (firsts : first ≡ take (index + 1) buckets)
    (old new : Hashed) (is : old ≡ get_or first index old) (kept : new ≡ filter (λ e. nat_lt e.0.hash end) old) where
  ones : first ≡ take (suc index) buckets
  ones = firsts ∙ ap (λ n. take n buckets) (add-one index)

  own : old ≡ get_or buckets index old
  own = is ∙ ap (λ l. get_or l index old) ones ∙ get_or-take (suc index) buckets index old (omega arith)

  pub end_entries : joined (set first index new) ≡ filter (λ e. nat_lt e.0.hash end) (joined buckets)
  end_entries =
      (λ i. joined (set (ones i) index ((kept ∙ ap (filter (λ (e : HashedGrain × ActivationId). nat_lt e.0.hash end)) own) i)))
      ∙ some_before_end cuts buckets cut end index pass old within reach

  pub end_cut : (front : List ℕ) → front ≡ take index cuts → AreCut front (set first index new)
  end_cut front fronts =
      subst (λ l. AreCut l (set first index new)) (sym fronts)
      (subst (λ l. AreCut (take index cuts) (set l index new)) (sym ones)
      (cut_set end new (take index cuts) (take (suc index) buckets) (cut_taken cuts buckets cut index) index old there
      (passes_taken cuts end index pass)
      (reaches_taken cuts (suc end) index) (λ c le all. subst (AreFrom c) (sym kept)
      (all_passed (λ e. nat_lt e.0.hash end) (λ e. c ≤ e.0.hash) old (subst (AreFrom c) (sym at) all)))
      (λ c lt all. subst (AreBelow c) (sym kept) (all_passed (λ e. nat_lt e.0.hash end) (λ e. e.0.hash < c) old
      (subst (AreBelow c) (sym at) all)))))
    where
      there : index < length (take (suc index) buckets)
      there = let long = length-take (suc index) buckets in omega (arith, long)

      at : old ≡ get_or (take (suc index) buckets) index old
      at = is ∙ ap (λ l. get_or l index old) ones

  pub end_fewer : (fewer more : ℕ) → length new + fewer ≡ length old → more ≡ length (joined (drop (suc index) buckets))
      → length (joined (set first index new)) + (more + fewer) ≡ length (joined buckets)
  end_fewer fewer more taken behind =
      ap (λ l. length (joined (set l index new)) + (more + fewer)) ones
      ∙ fewer_behind buckets index new old within fewer more (taken ∙ ap length own) behind

-- ---- What stands between two hashes stands in some buckets.
module _ (cuts : List ℕ) (buckets : List Hashed) (cut : AreCut cuts buckets) (first end : ℕ) where
  abbrev there : Hashed → Hashed
  there es = filter (λ e. is_between first end e.0.hash) es

  none_below : (es : Hashed) → AreBelow first es → there es ≡ []
  none_below es all =
      none_pass (λ e. is_between first end e.0.hash) es
      (all_so (λ e. e.0.hash < first) (λ e. is_between first end e.0.hash ≡ false) (λ e lt. grind (arith, nat_tests)) es all)

  none_from : (es : Hashed) → AreFrom end es → there es ≡ []
  none_from es all =
      none_pass (λ e. is_between first end e.0.hash) es
      (all_so (λ e. end ≤ e.0.hash) (λ e. is_between first end e.0.hash ≡ false) (λ e le. grind (arith, nat_tests)) es all)

  -- from the bucket of the first hash on
  pub there_behind : (start : ℕ) → Passes cuts first start → there (joined (drop start buckets)) ≡ there (joined buckets)
  there_behind start pass =
      ap (λ l. l ++ there (joined (drop start buckets)))
      (sym (none_below (joined (take start buckets)) (front_below cuts buckets cut first start pass)))
      ∙ sym (filter-append (λ e. is_between first end e.0.hash) (joined (take start buckets)) (joined (drop start buckets)))
      ∙ ap there (sym (joined_append (take start buckets) (drop start buckets)) ∙ ap joined (take-append-drop start buckets))

  -- up to the bucket of the end
  pub there_between : (start last more : ℕ) → Passes cuts first start → Reaches cuts end last → start + more ≡ suc last
      → there (joined (take more (drop start buckets))) ≡ there (joined buckets)
  there_between start last more pass reach so =
      sym (append-nil (there (joined (take more (drop start buckets)))))
      ∙ ap (λ l. there (joined (take more (drop start buckets))) ++ l) (sym (none_from (joined (drop more (drop start buckets))) past))
      ∙ sym (filter-append (λ e. is_between first end e.0.hash) (joined (take more (drop start buckets)))
      (joined (drop more (drop start buckets))))
      ∙ ap there (sym (joined_append (take more (drop start buckets)) (drop more (drop start buckets)))
      ∙ ap joined (take-append-drop more (drop start buckets)))
      ∙ there_behind start pass
    where
      past : AreFrom end (joined (drop more (drop start buckets)))
      past =
          subst (λ l. AreFrom end (joined l)) (sym (drop-drop more start buckets ∙ ap (λ n. drop n buckets) so))
          (back_from cuts buckets cut end last reach)

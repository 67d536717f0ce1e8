-- What the searches tell, in the words of their clauses: in one bucket, and among cuts. Each look at a list sees the same.
use Rattle.std.proofs.Common.{arith, ◌≡◌, sym, ap, ◌∙◌, subst, ℕ, suc, ◌<◌, ◌≤◌, List, ◌++◌, length, take, drop, set, get_or}
use Rattle.std.proofs.lemmas.Bool.{OnTrue_at}
use Rattle.std.proofs.lemmas.List.{take-append-drop}
use Rattle.std.specs.Bool.{OnTrue}
use Rattle.std.specs.BTreeMap.{insert_entry, is_at}
use Rattle.std.specs.List.{AllByRecursion, insert, remove}
use Rattle.std.specs.List.Sorted.{IsPartitionPoint, IsStrictlySortedBy}
use Rattle.std.specs.Map.{keys_of, lookup, remove_entry}
use Rattle.std.specs.Prelude.{Bool, true, false, Some, None, filter, nat_lt}
use Rattle.silo_address.specs.declared.ActivationId.{ActivationId}
use Rattle.grain_table.specs.declared.hashed_grain.HashedGrain.{HashedGrain}
use Rattle.grain_table.specs.Buckets.{IsCutAt, is_before, is_first}
use Rattle.grain_table.specs.Hashed.{Hashed, hashed_cmp}
use Rattle.grain_table.proofs.Cuts.{AreBelow, AreFrom, Passes, Reaches, passes, reaches}
use Rattle.grain_table.proofs.InOrder.{AllBefore, back_all, front_all, none_found, none_taken, one_found, one_taken, put_between, put_over}
use Rattle.grain_table.proofs.Stretches.{kept_before}

-- ---- In one bucket, at the index of a key.
module _ (key : HashedGrain) (es : Hashed) (sorted : IsStrictlySortedBy hashed_cmp (keys_of es)) (searched looked : Hashed)
    (searches : searched ≡ es) (looks : looked ≡ es) (index : ℕ)
    (split : IsPartitionPoint (λ e. is_before key e ≡ true) (λ e. is_before key e ≡ false) searched index)
    (there : Bool) (first : there ≡ is_first key (drop index looked)) where
  front : AllBefore key (take index es)
  front = subst (λ l. AllBefore key (take index l)) searches (front_all (λ e. is_before key e ≡ true) searched index split.0)

  back : AllByRecursion (λ e. is_before key e ≡ false) (drop index es)
  back =
      subst (λ l. AllByRecursion (λ e. is_before key e ≡ false) (drop index l)) searches
      (back_all (λ e. is_before key e ≡ false) searched index split.1)

  stands : there ≡ is_first key (drop index es)
  stands = first ∙ ap (λ l. is_first key (drop index l)) looks

  module _ (within : OnTrue there (index < length looked)) (stood : there ≡ true) where
    pub inside : index < length es
    inside = subst (λ l. index < length l) looks (OnTrue_at stood within)

    pub get_there : (slot : HashedGrain × ActivationId) → slot ≡ get_or es index slot → Some slot.1 ≡ lookup (is_at (hashed_cmp key)) es
    get_there slot is =
        ap (λ (e : HashedGrain × ActivationId). Some e.1) is
        ∙ sym (one_found key es sorted index front back inside slot (sym stands ∙ stood))

    pub insert_there : (v : ActivationId) → set es index (key, v) ≡ insert_entry hashed_cmp es key v
    insert_there v = sym (put_over key es sorted index front back inside (key, v) (sym stands ∙ stood) v)

    pub remove_there : (v : ActivationId) → remove es index ≡ remove_entry (is_at (hashed_cmp key)) es
    remove_there v = sym (one_taken key es sorted index front back inside (key, v) (sym stands ∙ stood))

  module _ (stood : there ≡ false) where
    pub get_nowhere : None ≡ lookup (is_at (hashed_cmp key)) es
    get_nowhere = sym (none_found key es sorted index front back (sym stands ∙ stood))

    pub insert_between : (v : ActivationId) → insert es index (key, v) ≡ insert_entry hashed_cmp es key v
    insert_between v = sym (put_between key es sorted index front back (sym stands ∙ stood) v)

    pub remove_nothing : es ≡ remove_entry (is_at (hashed_cmp key)) es
    remove_nothing = sym (none_taken key es sorted index front back (sym stands ∙ stood))

-- ---- In one bucket, at the index of a hash.
module _ (es searched : Hashed) (searches : searched ≡ es) (hash index : ℕ)
    (split : IsPartitionPoint (λ e. e.0.hash < hash) (λ e. hash ≤ e.0.hash) searched index) where
  lower : AreBelow hash (take index es)
  lower = subst (λ l. AreBelow hash (take index l)) searches (front_all (λ e. e.0.hash < hash) searched index split.0)

  upper : AreFrom hash (drop index es)
  upper = subst (λ l. AreFrom hash (drop index l)) searches (back_all (λ e. hash ≤ e.0.hash) searched index split.1)

  pub take_lower : take index es ≡ filter (λ e. nat_lt e.0.hash hash) es
  take_lower = kept_before es index hash lower upper

  pub cut_there : (old one other : Hashed) → es ≡ old → one ≡ take index es → other ≡ drop index es → IsCutAt hash old one other
  cut_there old one other is fronts backs = record {
    whole = (λ i. fronts i ++ backs i) ∙ take-append-drop index es ∙ is;
    lower = subst (AreBelow hash) (sym fronts) lower;
    upper = subst (AreFrom hash) (sym backs) upper;
  }

-- ---- Among cuts, at the index of a hash.
module _ (cuts searched : List ℕ) (searches : searched ≡ cuts) (hash index : ℕ) (bound : index ≤ length searched)
    (split : IsPartitionPoint (λ cut. cut ≤ hash) (λ cut. hash < cut) searched index) where
  pub passes_under : Passes cuts hash index
  passes_under = subst (λ l. Passes l hash index) searches (passes searched hash index bound split.0)

  pub reaches_under : Reaches cuts (suc hash) index
  reaches_under =
      subst (λ l. Reaches l (suc hash) index) searches
      (reaches searched (suc hash) index (λ k d low lt. let over : hash < get_or searched k d = split.1 k d low lt in omega arith))

-- ---- And at how many are before an end.
module _ (cuts searched : List ℕ) (searches : searched ≡ cuts) (end index : ℕ) (bound : index ≤ length searched)
    (split : IsPartitionPoint (λ cut. cut < end) (λ cut. end ≤ cut) searched index) where
  pub passes_before : Passes cuts end index
  passes_before =
      subst (λ l. Passes l end index) searches
      (passes searched end index bound (λ k d low lt. let under : get_or searched k d < end = split.0 k d low lt in omega arith))

  -- so do those behind them
  pub reaches_from : (later : ℕ) → index ≤ later → Reaches cuts end later
  reaches_from later le =
      subst (λ l. Reaches l end later) searches (reaches searched end later (λ k d low lt. split.1 k d (omega arith) lt))

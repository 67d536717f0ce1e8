-- An entry taken out of one bucket is taken out of the map, which stays cut.
use Rattle.std.proofs.Common.{arith, ◌≡◌, sym, ap, ◌∙◌, subst, ℕ, suc, ◌+◌, ◌-◌, ◌<◌, ◌≤◌, List, length, set, get_or}
use Rattle.std.specs.BTreeMap.{is_at}
use Rattle.std.specs.Map.{remove_entry}
use Rattle.grain_table.specs.declared.hashed_grain.HashedGrain.{HashedGrain}
use Rattle.grain_table.specs.Buckets.{AreBuckets, joined}
use Rattle.grain_table.specs.Hashed.{Hashed, hashed_cmp}
use Rattle.grain_table.proofs.AcrossBuckets.{taken_in}
use Rattle.grain_table.proofs.Cuts.{AreBelow, AreFrom, Passes, Reaches}
use Rattle.grain_table.proofs.InOrder.{all_removed}
use Rattle.grain_table.proofs.Joined.{length_joined_set}
use Rattle.grain_table.proofs.StillCut.{cut_set}

module _ (cuts : List ℕ) (buckets : List Hashed) (len : ℕ) (are : AreBuckets cuts buckets len) (key : HashedGrain) (index : ℕ)
    (pass : Passes cuts key.hash index) (reach : Reaches cuts (suc key.hash) index) (within : index < length buckets) (old new : Hashed)
    (is : old ≡ get_or buckets index old) (taken : new ≡ remove_entry (is_at (hashed_cmp key)) old) where
  pub taken_entries : joined (set buckets index new) ≡ remove_entry (is_at (hashed_cmp key)) (joined buckets)
  taken_entries =
      ap (λ b. joined (set buckets index b)) (taken ∙ ap (remove_entry (is_at (hashed_cmp key))) is)
      ∙ sym (taken_in cuts buckets are.cut key index pass reach old within)

  module _ (fewer : ℕ) (own : length new + fewer ≡ length old) where
    whole : length (joined (set buckets index new)) + fewer ≡ length (joined buckets)
    whole = let both = length_joined_set buckets index new old within in let bucket = ap length is in omega (arith, both, bucket, own)

    pub taken_most : fewer ≤ len
    taken_most = omega (arith, whole, are.counted)

    pub taken_are : AreBuckets cuts (set buckets index new) (len - fewer)
    taken_are = record {
      cut = cut_set key.hash new cuts buckets are.cut index old within pass reach
          (λ c le all. subst (AreFrom c) (sym taken) (all_removed key (λ e. c ≤ e.0.hash) old (subst (AreFrom c) (sym is) all)))
          (λ c lt all. subst (AreBelow c) (sym taken) (all_removed key (λ e. e.0.hash < c) old (subst (AreBelow c) (sym is) all)));
      counted = omega (arith, whole, are.counted);
    }

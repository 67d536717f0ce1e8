-- An entry put into one bucket, or behind all of them, is put into the map, which stays cut; without memory the map stays.
use Rattle.std.proofs.Common.{arith, ◌≡◌, sym, ap, ◌∙◌, subst, ℕ, suc, ◌+◌, ◌<◌, ◌≤◌, List, [], ◌∷◌, ◌++◌, length, set, get_or}
use Rattle.std.proofs.lemmas.List.{append-nil, length-append, set-get_or}
use Rattle.std.proofs.lemmas.Result.{IfOk-weaker, on_err_weaker, on_ok_weaker}
use Rattle.std.specs.BTreeMap.{insert_entry}
use Rattle.std.specs.Prelude.{Result, Ok, Err, IfOk, OnErr, OnOk}
use Rattle.silo_address.specs.declared.ActivationId.{ActivationId}
use Rattle.grain_table.specs.declared.hashed_grain.HashedGrain.{HashedGrain}
use Rattle.grain_table.specs.Buckets.{AreCut, joined}
use Rattle.grain_table.specs.Hashed.{Hashed, hashed_cmp}
use Rattle.grain_table.proofs.AcrossBuckets.{put_behind, put_in_one}
use Rattle.grain_table.proofs.Cuts.{AreBelow, AreFrom, Passes, Reaches}
use Rattle.grain_table.proofs.InOrder.{all_put}
use Rattle.grain_table.proofs.Joined.{joined_append, length_joined_set}
use Rattle.grain_table.proofs.StillCut.{cut_push, cut_set}

module _ (cuts : List ℕ) (buckets : List Hashed) (cut : AreCut cuts buckets) (key : HashedGrain) (v : ActivationId) (index : ℕ)
    (pass : Passes cuts key.hash index) where
  -- what puts the entry in
  abbrev pub IsPut : Hashed → Hashed → Type 0
  IsPut old new = new ≡ insert_entry hashed_cmp old key v

  -- by how many entries there are more
  abbrev pub IsMore : Hashed → Hashed → ℕ → Type 0
  IsMore old new more = (length new ≡ length old + more) × (more ≤ 1)

  -- ---- In the bucket at the index.
  module _ (reach : Reaches cuts (suc key.hash) index) (within : index < length buckets) (old new : Hashed)
      (is : old ≡ get_or buckets index old)
      {E : Type 0} (r : Result ℕ E) (entries : OnOk r (IsPut old new)) where
    pub put_entries : OnOk r (IsPut (joined buckets) (joined (set buckets index new)))
    put_entries =
        on_ok_weaker r
        (λ put. ap (λ b. joined (set buckets index b)) (put ∙ ap (λ b. insert_entry hashed_cmp b key v) is)
        ∙ sym (put_in_one cuts buckets cut key index pass reach old within v)) entries

    pub put_unchanged : OnErr r (new ≡ old) → OnErr r (set buckets index new ≡ buckets)
    put_unchanged same = on_err_weaker r (λ so. ap (set buckets index) (so ∙ is) ∙ set-get_or buckets index old) same

    pub put_more : IfOk r (IsMore old new) → IfOk r (IsMore (joined buckets) (joined (set buckets index new)))
    put_more more =
        IfOk-weaker r (IsMore old new) (IsMore (joined buckets) (joined (set buckets index new)))
        (λ n so. let whole = length_joined_set buckets index new old within in let bucket = ap length is in let one = so.0 in
        (omega (arith, whole, bucket, one), so.1)) more

    pub put_cut : OnErr r (new ≡ old) → AreCut cuts (set buckets index new)
    put_cut same = by r entries same
      where
        by : (r : Result ℕ E) → OnOk r (IsPut old new) → OnErr r (new ≡ old) → AreCut cuts (set buckets index new)
        by (Ok n) put same =
            cut_set key.hash new cuts buckets cut index old within pass reach
            (λ c le all. subst (AreFrom c) (sym put) (all_put key v (λ h. c ≤ h) le old (subst (AreFrom c) (sym is) all)))
            (λ c lt all. subst (AreBelow c) (sym put) (all_put key v (λ h. h < c) lt old (subst (AreBelow c) (sym is) all)))
        by (Err e) put same =
            cut_set key.hash new cuts buckets cut index old within pass reach (λ c le all. subst (AreFrom c) (sym (same ∙ is)) all)
            (λ c lt all. subst (AreBelow c) (sym (same ∙ is)) all)

  -- ---- In a bucket behind all others.
  module _ (past : length buckets ≤ index) (new : Hashed) (put : IsPut [] new) where
    pub behind_entries : IsPut (joined buckets) (joined (buckets ++ new ∷ []))
    behind_entries = ap (λ b. joined (buckets ++ b ∷ [])) put ∙ sym (put_behind cuts buckets cut key index pass past v)

    pub behind_cut : AreCut cuts (buckets ++ new ∷ [])
    behind_cut = cut_push key.hash new cuts buckets cut index past pass (λ c le. subst (AreFrom c) (sym put) (le, tt))

    pub behind_more : (more : ℕ) → IsMore [] new more → IsMore (joined buckets) (joined (buckets ++ new ∷ [])) more
    behind_more more is =
        let whole = ap length (joined_append buckets (new ∷ []) ∙ ap (λ l. joined buckets ++ l) (append-nil new)) in
        let parts = length-append (joined buckets) new in let one = is.0 in
        (omega (arith, whole, parts, one), is.1)

-- What is found, put in and taken out in one bucket of a map is so in the map.
use Rattle.std.proofs.Common.{arith, ◌≡◌, sym, ap, ◌∙◌, subst, ℕ, suc, ◌<◌, ◌≤◌, List, [], ◌∷◌, ◌++◌, length, take, drop, set, get_or}
use Rattle.std.proofs.lemmas.List.{append-nil, take_all}
use Rattle.std.specs.BTreeMap.{insert_entry, is_at}
use Rattle.std.specs.Map.{lookup, remove_entry}
use Rattle.std.specs.Prelude.{true, None}
use Rattle.std.specs.declared.cmp.Ordering.TheVariants.{Less}
use Rattle.silo_address.specs.declared.ActivationId.{ActivationId}
use Rattle.grain_table.specs.declared.hashed_grain.HashedGrain.{HashedGrain}
use Rattle.grain_table.specs.Buckets.{AreCut, is_before, joined}
use Rattle.grain_table.specs.Hashed.{Hashed, hashed_cmp}
use Rattle.grain_table.proofs.Cuts.{Passes, Reaches, back_from, front_below}
use Rattle.grain_table.proofs.InOrder.{AllBefore, AllBehind, all_so, before_key, behind_key, lookup_front, lookup_past, put_front, put_past, remove_front, remove_past}
use Rattle.grain_table.proofs.Joined.{joined_append, joined_at, joined_set}

module _ (cuts : List ℕ) (buckets : List Hashed) (cut : AreCut cuts buckets) (key : HashedGrain) (index : ℕ)
    (pass : Passes cuts key.hash index) where
  front : AllBefore key (joined (take index buckets))
  front =
      all_so (λ e. e.0.hash < key.hash) (λ e. is_before key e ≡ true) (before_key key) (joined (take index buckets))
      (front_below cuts buckets cut key.hash index pass)

  module _ (past : length buckets ≤ index) where
    all_before : AllBefore key (joined buckets)
    all_before = subst (λ l. AllBefore key (joined l)) (take_all index buckets past) front

    pub none_there : lookup (is_at (hashed_cmp key)) (joined buckets) ≡ None
    none_there = ap (lookup (is_at (hashed_cmp key))) (sym (append-nil (joined buckets))) ∙ lookup_past key (joined buckets) [] all_before

    pub none_taken_there : remove_entry (is_at (hashed_cmp key)) (joined buckets) ≡ joined buckets
    none_taken_there =
        ap (remove_entry (is_at (hashed_cmp key))) (sym (append-nil (joined buckets))) ∙ remove_past key (joined buckets) [] all_before
        ∙ append-nil (joined buckets)

    pub put_behind : (v : ActivationId) → insert_entry hashed_cmp (joined buckets) key v ≡ joined
        (buckets ++ insert_entry hashed_cmp [] key v ∷ [])
    put_behind v =
        ap (λ l. insert_entry hashed_cmp l key v) (sym (append-nil (joined buckets))) ∙ put_past key v (joined buckets) [] all_before
        ∙ sym (joined_append buckets (((key, v) ∷ []) ∷ []))

  module _ (reach : Reaches cuts (suc key.hash) index) (d : Hashed) (within : index < length buckets) where
    behind : AllBehind key (joined (drop (suc index) buckets))
    behind =
        all_so (λ e. suc key.hash ≤ e.0.hash) (λ e. hashed_cmp key e.0 ≡ Less) (λ e le. behind_key key e (omega arith))
        (joined (drop (suc index) buckets))
        (back_from cuts buckets cut (suc key.hash) index reach)

    pub found_in : lookup (is_at (hashed_cmp key)) (joined buckets) ≡ lookup (is_at (hashed_cmp key)) (get_or buckets index d)
    found_in =
        ap (lookup (is_at (hashed_cmp key))) (joined_at buckets index d within)
        ∙ lookup_past key (joined (take index buckets)) (get_or buckets index d ++ joined (drop (suc index) buckets)) front
        ∙ lookup_front key (get_or buckets index d) (joined (drop (suc index) buckets)) behind

    pub taken_in : remove_entry (is_at (hashed_cmp key)) (joined buckets) ≡ joined
        (set buckets index (remove_entry (is_at (hashed_cmp key)) (get_or buckets index d)))
    taken_in =
        ap (remove_entry (is_at (hashed_cmp key))) (joined_at buckets index d within)
        ∙ remove_past key (joined (take index buckets)) (get_or buckets index d ++ joined (drop (suc index) buckets)) front
        ∙ ap (λ l. joined (take index buckets) ++ l) (remove_front key (get_or buckets index d) (joined (drop (suc index) buckets)) behind)
        ∙ sym (joined_set buckets index (remove_entry (is_at (hashed_cmp key)) (get_or buckets index d)) within)

    pub put_in_one : (v : ActivationId) → insert_entry hashed_cmp (joined buckets) key v ≡ joined
        (set buckets index (insert_entry hashed_cmp (get_or buckets index d) key v))
    put_in_one v =
        ap (λ l. insert_entry hashed_cmp l key v) (joined_at buckets index d within)
        ∙ put_past key v (joined (take index buckets)) (get_or buckets index d ++ joined (drop (suc index) buckets)) front
        ∙ ap (λ l. joined (take index buckets) ++ l) (put_front key v (get_or buckets index d) (joined (drop (suc index) buckets)) behind)
        ∙ sym (joined_set buckets index (insert_entry hashed_cmp (get_or buckets index d) key v) within)

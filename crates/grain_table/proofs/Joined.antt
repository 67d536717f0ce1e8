-- The entries of buckets, one behind another.
use Rattle.std.proofs.Common.{add-one, arith, ◌≡◌, refl, sym, ap, ◌∙◌, ℕ, zero, suc, ◌+◌, ◌-◌, ◌<◌, ◌≤◌, List, [], ◌∷◌, ◌++◌, length, take, drop, set, map, get_or}
use Rattle.std.proofs.lemmas.List.{append-nil, append_assoc, length-append, length-drop, take_all}
use Rattle.std.proofs.lemmas.List.Edits.{map_over_more}
use Rattle.std.proofs.lemmas.List.Elements.{filter-append}
use Rattle.std.specs.Prelude.{Bool, true, false, cond, filter}
use Rattle.silo_address.specs.declared.ActivationId.{ActivationId}
use Rattle.grain_table.specs.declared.hashed_grain.HashedGrain.{HashedGrain}
use Rattle.grain_table.specs.Buckets.{joined}
use Rattle.grain_table.specs.Hashed.{Hashed}

pub joined_append : (xs ys : List Hashed) → joined (xs ++ ys) ≡ joined xs ++ joined ys
joined_append [] ys = refl
joined_append (b ∷ xs) ys = ap (λ l. b ++ l) (joined_append xs ys) ∙ sym (append_assoc b (joined xs) (joined ys))

pub joined_at : (buckets : List Hashed) (index : ℕ) (d : Hashed) → index < length buckets
    → joined buckets ≡ joined (take index buckets) ++ (get_or buckets index d ++ joined (drop (suc index) buckets))
joined_at [] index d lt = absurd (omega arith)
joined_at (b ∷ buckets) zero d lt = refl
joined_at (b ∷ buckets) (suc index) d lt =
    ap (λ l. b ++ l) (joined_at buckets index d (omega arith))
    ∙ sym (append_assoc b (joined (take index buckets)) (get_or buckets index d ++ joined (drop (suc index) buckets)))

pub joined_set : (buckets : List Hashed) (index : ℕ) (new : Hashed) → index < length buckets
    → joined (set buckets index new) ≡ joined (take index buckets) ++ (new ++ joined (drop (suc index) buckets))
joined_set [] index new lt = absurd (omega arith)
joined_set (b ∷ buckets) zero new lt = refl
joined_set (b ∷ buckets) (suc index) new lt =
    ap (λ l. b ++ l) (joined_set buckets index new (omega arith))
    ∙ sym (append_assoc b (joined (take index buckets)) (new ++ joined (drop (suc index) buckets)))

-- the first ones, of which the last is another
pub set_last : (buckets : List Hashed) (index : ℕ) (new : Hashed) → index < length buckets
    → set (take (suc index) buckets) index new ≡ take index buckets ++ new ∷ []
set_last [] index new lt = absurd (omega arith)
set_last (b ∷ buckets) zero new lt = refl
set_last (b ∷ buckets) (suc index) new lt = ap (λ l. b ∷ l) (set_last buckets index new (omega arith))

-- ---- Counts.
pub length_joined_set : (buckets : List Hashed) (index : ℕ) (new d : Hashed) → index < length buckets
    → length (joined (set buckets index new)) + length (get_or buckets index d) ≡ length (joined buckets) + length new
length_joined_set [] index new d lt = absurd (omega arith)
length_joined_set (b ∷ buckets) zero new d lt =
    let one = length-append new (joined buckets) in let other = length-append b (joined buckets) in omega (arith, one, other)
length_joined_set (b ∷ buckets) (suc index) new d lt =
    let rest = length_joined_set buckets index new d (omega arith) in
    let one = length-append b (joined (set buckets index new)) in let other = length-append b (joined buckets) in
    omega (arith, one, other, rest)

length_joined_more : (buckets : List Hashed) (index : ℕ) (d : Hashed) → index < length buckets
    → length (joined (take (suc index) buckets)) ≡ length (joined (take index buckets)) + length (get_or buckets index d)
length_joined_more [] index d lt = absurd (omega arith)
length_joined_more (b ∷ buckets) zero d lt = let one = length-append b [] in omega (arith, one)
length_joined_more (b ∷ buckets) (suc index) d lt =
    let rest = length_joined_more buckets index d (omega arith) in
    let one = length-append b (joined (take (suc index) buckets)) in let other = length-append b (joined (take index buckets)) in
    omega (arith, one, other, rest)

length_joined_take : (buckets : List Hashed) (index : ℕ) → length (joined (take index buckets)) ≤ length (joined buckets)
length_joined_take [] zero = omega arith
length_joined_take [] (suc index) = omega arith
length_joined_take (b ∷ buckets) zero = omega arith
length_joined_take (b ∷ buckets) (suc index) =
    let rest = length_joined_take buckets index in
    let one = length-append b (joined (take index buckets)) in let other = length-append b (joined buckets) in
    omega (arith, one, other, rest)

-- a walk's next step
pub counted_more : (buckets : List Hashed) (index : ℕ) (bucket : Hashed) → index < length buckets → bucket ≡ get_or buckets index bucket
    → (count more : ℕ) → count ≡ length (joined (take index buckets)) → more ≡ length bucket
    → (count + more ≡ length (joined (take (index + 1) buckets))) × (count + more ≤ length (joined buckets))
counted_more buckets index bucket lt is count more so_far own =
    let step = length_joined_more buckets index bucket lt in
    let part = length_joined_take buckets (suc index) in
    let same = ap length is in
    let next : length (joined (take (index + 1) buckets)) ≡ length (joined (take (suc index) buckets)) =
    ap (λ n. length (joined (take n buckets))) (add-one index) in
    (omega (arith, step, so_far, own, same, next), omega (arith, step, part, so_far, own, same))

-- by how many there are fewer where the last one that stays keeps some of its own
pub fewer_behind : (buckets : List Hashed) (index : ℕ) (kept d : Hashed) → index < length buckets → (fewer more : ℕ)
    → length kept + fewer ≡ length (get_or buckets index d) → more ≡ length (joined (drop (suc index) buckets))
    → length (joined (set (take (suc index) buckets) index kept)) + (more + fewer) ≡ length (joined buckets)
fewer_behind buckets index kept d lt fewer more own behind =
    let stays : length (joined (set (take (suc index) buckets) index kept)) ≡ length (joined (take index buckets)) + length kept =
    ap (λ l. length (joined l)) (set_last buckets index kept lt)
    ∙ ap length (joined_append (take index buckets) (kept ∷ []) ∙ ap (λ l. joined (take index buckets) ++ l) (append-nil kept))
    ∙ length-append (joined (take index buckets)) kept in
    let whole : length (joined buckets) ≡ length (joined (take index buckets)) + (length (get_or buckets index d) + length (joined (drop (suc index) buckets))) =
    ap length (joined_at buckets index d lt)
    ∙ length-append (joined (take index buckets)) (get_or buckets index d ++ joined (drop (suc index) buckets))
    ∙ ap (λ n. length (joined (take index buckets)) + n) (length-append (get_or buckets index d) (joined (drop (suc index) buckets))) in
    omega (arith, stays, whole, own, behind)

-- so many are behind at most
pub length_behind : (buckets : List Hashed) (index : ℕ) → length (joined (drop index buckets)) ≤ length (joined buckets)
length_behind buckets zero = omega arith
length_behind [] (suc index) = omega arith
length_behind (b ∷ buckets) (suc index) =
    let rest = length_behind buckets index in let whole = length-append b (joined buckets) in omega (arith, rest, whole)

-- ---- What passes a test, bucket by bucket.
pub joined_filtered : (p : HashedGrain × ActivationId → Bool) (buckets : List Hashed)
    → joined (map (filter p) buckets) ≡ filter p (joined buckets)
joined_filtered p [] = refl
joined_filtered p (b ∷ buckets) = ap (λ l. filter p b ++ l) (joined_filtered p buckets) ∙ sym (filter-append p b (joined buckets))

pub length_filtered : (p : HashedGrain × ActivationId → Bool) (es : Hashed) → length (filter p es) ≤ length es
length_filtered p [] = omega arith
length_filtered p (e ∷ es) = by (p e) (length_filtered p es)
  where
    by : (b : Bool) → length (filter p es) ≤ length es → length (cond b (e ∷ filter p es) (filter p es)) ≤ length (e ∷ es)
    by true rest = omega arith
    by false rest = omega arith

-- ---- A walk that changes each bucket.
pub map_next : {X : Type 0} (f : X → X) (xs seen ys : List X) → seen ≡ xs → (i : ℕ) → i < length seen
    → ys ≡ map f (take i xs) ++ drop i xs
    → (x y : X) → x ≡ get_or ys i x → y ≡ f (get_or ys i x) → set ys i y ≡ map f (take (i + 1) xs) ++ drop (i + 1) xs
map_next f xs seen ys sees i lt so_far x y is made =
    ap (set ys i) (made ∙ ap f (sym is)) ∙ map_over_more f xs ys i x (let same = ap length sees in omega (arith, same)) so_far is

-- ---- The rest of a list, as a slice has it.
pub range_from : {X : Type 0} (xs : List X) (n : ℕ) → take (length xs - n) (drop n xs) ≡ drop n xs
range_from xs n = take_all (length xs - n) (drop n xs) (let left = length-drop n xs in omega (arith, left))

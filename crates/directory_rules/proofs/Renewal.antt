-- Renewal gives each outstanding request another number, and no two the same one.
use Rattle.std.proofs.Common.{arith, ◌≡◌, ◌≢◌, refl, sym, ap, subst, ◌∙◌, ℕ, List, [], ◌∷◌, ◌++◌, ◌+◌, ◌≤◌, ◌<◌, length, map}
use Rattle.std.specs.Prelude.{cond, nat_lt, fold, count_by}
use Rattle.std.specs.Ordering.{nat_cmp}
use Rattle.std.specs.List.{AllByRecursion, filter_map, cons_option}
use Rattle.std.specs.Map.{keys_of}
use Rattle.std.specs.BTreeMap.{insert_entry}
use Rattle.std.proofs.lemmas.Bool.{ltb-true, ltb-false}
use Rattle.std.proofs.lemmas.List.Sums.{sum_by-cons}
use Rattle.silo_address.specs.Grain.{Grain}
use Rattle.directory_rules.specs.declared.act.Act.{Act}
use Rattle.directory_rules.specs.declared.held.Held.{Held}
use Rattle.directory_rules.specs.declared.held.Phase.{Phase}
use Rattle.directory_rules.specs.declared.held.Phase.TheVariants.{Asking, Firm, Closing}
use Rattle.directory_rules.specs.State.{Host}
use Rattle.directory_rules.specs.Host.{act_in, held_acts, find_acts, outstanding, new_number, renewed_phase}
use Rattle.directory_rules.proofs.Cases.{on_bool}
use Rattle.directory_rules.proofs.RequestNumbers.{one, one_same, one_cases, times, times_append, times_put, times_put_least, times_put_most, length_put, with_number, numbers}

-- ---- Numbers under a function that keeps them apart.
pub each : (P : ℕ → Type 0) (ks : List ℕ) → ((k : ℕ) → 1 ≤ times k ks → P k) → AllByRecursion P ks
each P [] h = tt
each P (k ∷ ks) h = let same = one_same k in (h k (omega (same, arith)), each P ks (λ j there. h j (omega (there, arith))))

pub never : (n : ℕ) (f : ℕ → ℕ) (ks : List ℕ) → AllByRecursion (λ k. f k ≢ n) ks → times n (map f ks) ≡ 0
never n f [] apart = refl
never n f (k ∷ ks) apart =
    let later = never n f ks apart.1 in
    one_cases (λ r. r + times n (map f ks) ≡ 0) n (f k) (λ same. absurd (apart.0 same)) (omega (later, arith))

module _ (f : ℕ → ℕ) (M : ℕ → Type 0) (rises : (j k : ℕ) → M j → j < k → f j < f k) where
  kept_apart : (j k : ℕ) → M j → M k → f j ≡ f k → j ≡ k
  kept_apart j k low high same =
      on_bool (λ b. j ≡ k) (nat_lt j k) (λ t. let lt = rises j k low (ltb-true j k t) in omega (lt, same, arith))
      (λ a. on_bool (λ b. j ≡ k) (nat_lt k j) (λ t. let lt = rises k j high (ltb-true k j t) in omega (lt, same, arith))
      (λ b. let x = ltb-false j k a in let y = ltb-false k j b in omega (x, y, arith)))

  pub once_mapped : (n : ℕ) (ks : List ℕ) → ((k : ℕ) → 1 ≤ times k ks → M k) → ((k : ℕ) → times k ks ≤ 1) → times n (map f ks) ≤ 1
  once_mapped n [] has once = omega arith
  once_mapped n (k ∷ ks) has once =
      one_cases (λ r. r + times n (map f ks) ≤ 1) n (f k)
      (λ same. let none = never n f ks (each (λ j. f j ≢ n) ks (λ j later e. twice j later (e ∙ sym same))) in omega (none, arith))
      (let few = once_mapped n ks (λ j later. has j (omega (later, arith))) (λ j. let o = once j in omega (o, arith)) in omega (few, arith))
    where
      first : M k
      first = let same = one_same k in has k (omega (same, arith))

      again : (j : ℕ) → j ≡ k → 1 ≤ times j ks → ⊥
      again j at later = let here = subst (λ i. one j i ≡ 1) at (one_same j) in let o = once j in absurd (omega (here, later, o, arith))

      twice : (j : ℕ) → 1 ≤ times j ks → f j ≡ f k → ⊥
      twice j later e = again j (kept_apart j k (has j (omega (later, arith))) first e) later

-- ---- Ranks: how many numbers lie below one.
room_step : (a k : ℕ) → cond (nat_lt a k) 1 0 + one k a ≤ 1
room_step a k =
    on_bool (λ b. cond b 1 0 + one k a ≤ 1) (nat_lt a k)
    (λ t. one_cases (λ r. 1 + r ≤ 1) k a (λ same. let lt = ltb-true a k t in omega (lt, same, arith)) (omega arith))
    (λ f. one_cases (λ r. 0 + r ≤ 1) k a (λ same. omega arith) (omega arith))

rise_step : (a j k : ℕ) → j < k → cond (nat_lt a j) 1 0 + one j a ≤ cond (nat_lt a k) 1 0
rise_step a j k lt =
    on_bool (λ b. cond (nat_lt a j) 1 0 + one j a ≤ cond b 1 0) (nat_lt a k) (λ t. room_step a j)
    (λ f. let le = ltb-false a k f in
    on_bool (λ b. cond b 1 0 + one j a ≤ 0) (nat_lt a j) (λ t. let low = ltb-true a j t in omega (low, le, lt, arith))
    (λ g. one_cases (λ r. 0 + r ≤ 0) j a (λ same. omega (same, le, lt, arith)) (omega arith)))

module _ {X : Type 0} where
  abbrev rank : ℕ → List (ℕ × X) → ℕ
  rank k es = count_by (λ e. nat_lt e.0 k) es

  rank_cons : (k : ℕ) (e : ℕ × X) (es : List (ℕ × X)) → rank k (e ∷ es) ≡ cond (nat_lt e.0 k) 1 0 + rank k es
  rank_cons k e es = sum_by-cons (λ x. cond (nat_lt x.0 k) 1 0) e es

  pub rank_room : (k : ℕ) (es : List (ℕ × X)) → rank k es + times k (keys_of es) ≤ length es
  rank_room k [] = omega arith
  rank_room k (e ∷ es) =
      let here = rank_cons k e es in let step = room_step e.0 k in let later = rank_room k es in omega (here, step, later, arith)

  pub rank_rises : (j k : ℕ) (es : List (ℕ × X)) → j < k → rank j es + times j (keys_of es) ≤ rank k es
  rank_rises j k [] lt = omega arith
  rank_rises j k (e ∷ es) lt =
      let low = rank_cons j e es in let high = rank_cons k e es in let step = rise_step e.0 j k lt in let later = rank_rises j k es lt in
      omega (low, high, step, later, arith)

  -- ---- Each number that is put in is there.
  abbrev pub put_all : List (ℕ × X) → List (ℕ × X) → List (ℕ × X)
  put_all es xs = fold (λ acts e. insert_entry nat_cmp acts e.0 e.1) es xs

  put_all_least : (n : ℕ) (es xs : List (ℕ × X)) → times n (keys_of es) ≤ times n (keys_of (put_all es xs))
  put_all_least n es [] = omega arith
  put_all_least n es (x ∷ xs) =
      let first = times_put_least n es x.0 x.1 in let later = put_all_least n (insert_entry nat_cmp es x.0 x.1) xs in
      omega (first, later, arith)

  put_all_has : (n : ℕ) (es xs : List (ℕ × X)) → 1 ≤ times n (keys_of xs) → 1 ≤ times n (keys_of (put_all es xs))
  put_all_has n es [] some = omega (some, arith)
  put_all_has n es (x ∷ xs) some =
      one_cases (λ r. 1 ≤ r + times n (keys_of xs) → 1 ≤ times n (keys_of (put_all (insert_entry nat_cmp es x.0 x.1) xs))) n x.0
      (λ same _. let here = subst (λ i. 1 ≤ times i (keys_of (insert_entry nat_cmp es x.0 x.1))) same (times_put es x.0 x.1) in
      let later = put_all_least n (insert_entry nat_cmp es x.0 x.1) xs in omega (here, later, arith))
      (λ rest. put_all_has n (insert_entry nat_cmp es x.0 x.1) xs (omega (rest, arith))) some

  pub put_all_each : (n : ℕ) (es xs : List (ℕ × X)) → 1 ≤ times n (keys_of xs ++ keys_of es) → 1 ≤ times n (keys_of (put_all es xs))
  put_all_each n es xs some =
      let both = times_append n (keys_of xs) (keys_of es) in let least = put_all_least n es xs in
      on_bool (λ b. 1 ≤ times n (keys_of (put_all es xs))) (nat_lt 0 (times n (keys_of xs)))
      (λ t. let more = ltb-true 0 (times n (keys_of xs)) t in put_all_has n es xs (omega (more, arith)))
      (λ f. let none = ltb-false 0 (times n (keys_of xs)) f in omega (none, both, least, some, arith))

  -- as many entries as are put in, where no two have one number
  pub length_put_all : (es xs : List (ℕ × X)) → ((n : ℕ) → times n (keys_of xs) + times n (keys_of es) ≤ 1)
      → length (put_all es xs) ≡ length xs + length es
  length_put_all es [] once = omega arith
  length_put_all es (x ∷ xs) once =
      let same = one_same x.0 in let few = once x.0 in
      let new = length_put es x.0 x.1 (omega (same, few, arith)) in
      let all = length_put_all (insert_entry nat_cmp es x.0 x.1) xs (λ n. let most = times_put_most n es x.0 x.1 in let most_once = once n in omega (most, most_once, arith)) in
      omega (new, all, arith)

-- ---- The numbers of a host's requests.
cons_act : (host : Host) (grain : Grain) (held : Held) (phase : Phase) (acts : List (ℕ × Act))
    → keys_of (cons_option (act_in phase host grain held) acts) ≡ with_number phase (keys_of acts)
cons_act host grain held (Asking k) acts = refl
cons_act host grain held Firm acts = refl
cons_act host grain held (Closing k) acts = refl

pub held_numbers : (host : Host) (es : List (Grain × Held)) → keys_of (filter_map (λ e. act_in e.1.phase host e.0 e.1) es) ≡ numbers es
held_numbers host [] = refl
held_numbers host (e ∷ es) =
    cons_act host e.0 e.1 e.1.phase (filter_map (λ x. act_in x.1.phase host x.0 x.1) es) ∙ ap (with_number e.1.phase) (held_numbers host es)

pub mapped_keys : {X Y : Type 0} (f : ℕ → ℕ) (g : X → Y) (es : List (ℕ × X)) → keys_of (map (λ e. (f e.0, g e.1)) es) ≡ map f (keys_of es)
mapped_keys f g [] = refl
mapped_keys f g (e ∷ es) = ap (λ ks. f e.0 ∷ ks) (mapped_keys f g es)

pub same_keys : {X Y : Type 0} (g : X → Y) (es : List (ℕ × X)) → keys_of (map (λ e. (e.0, g e.1)) es) ≡ keys_of es
same_keys g [] = refl
same_keys g (e ∷ es) = ap (λ ks. e.0 ∷ ks) (same_keys g es)

renewed_phase_numbers : (host : Host) (phase : Phase) (ks : List ℕ)
    → with_number (renewed_phase host phase) (map (new_number host) ks) ≡ map (new_number host) (with_number phase ks)
renewed_phase_numbers host (Asking k) ks = refl
renewed_phase_numbers host Firm ks = refl
renewed_phase_numbers host (Closing k) ks = refl

pub renewed_numbers : (host : Host) (es : List (Grain × Held))
    → numbers (map (λ e. (e.0, record e.1 { phase = renewed_phase host e.1.phase })) es) ≡ map (new_number host) (numbers es)
renewed_numbers host [] = refl
renewed_numbers host (e ∷ es) =
    ap (with_number (renewed_phase host e.1.phase)) (renewed_numbers host es) ∙ renewed_phase_numbers host e.1.phase (numbers es)

-- the numbers of a host's requests: those of its activations, and those of its finds
abbrev pub request_numbers : Host → List ℕ
request_numbers host = numbers host.held ++ keys_of host.finds

-- each is the number of an outstanding request
shown : (host : Host) (n : ℕ) → 1 ≤ times n (request_numbers host) → 1 ≤ times n (keys_of (outstanding host))
shown host n some =
    put_all_each n (find_acts host) (held_acts host)
    (subst (λ ks. 1 ≤ times n (ks ++ keys_of (find_acts host))) (sym (held_numbers host host.held))
    (subst (λ ks. 1 ≤ times n (numbers host.held ++ ks)) (sym (same_keys _ host.finds)) some))

-- the new numbers are as distinct as the old ones were
pub renewed_once : (host : Host) → ((n : ℕ) → times n (request_numbers host) ≤ 1) → (n : ℕ)
    → times n (map (new_number host) (request_numbers host)) ≤ 1
renewed_once host once n =
    once_mapped (new_number host) (λ k. 1 ≤ times k (keys_of (outstanding host)))
    (λ j k there lt. let rises = rank_rises j k (outstanding host) lt in omega (rises, there, arith)) n (request_numbers host) (shown host)
    once

-- and lie below the host's new next number
pub renewed_below : (host : Host) (n : ℕ) → host.next_number + length (outstanding host) ≤ n
    → times n (map (new_number host) (request_numbers host)) ≡ 0
renewed_below host n high =
    never n (new_number host) (request_numbers host)
    (each (λ k. new_number host k ≢ n) (request_numbers host)
    (λ k there same. let room = rank_room k (outstanding host) in let is = shown host k there in omega (room, is, same, high, arith)))

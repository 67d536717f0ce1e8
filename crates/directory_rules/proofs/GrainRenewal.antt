-- Renewal about one grain gives each of its outstanding requests another number, and no two the same one; the others keep theirs.
use Rattle.std.proofs.Common.{arith, ◌≡◌, refl, ap, ◌∙◌, ℕ, List, [], ◌∷◌, ◌++◌, ◌+◌, ◌≤◌, ◌<◌, length, map}
use Rattle.std.specs.Prelude.{Bool, cond, not, filter}
use Rattle.std.specs.Ordering.{nat_cmp, match_ordering}
use Rattle.std.specs.declared.cmp.Ordering.{Ordering}
use Rattle.std.specs.declared.cmp.Ordering.TheVariants.{Less, Equal, Greater}
use Rattle.std.specs.List.{filter_map, cons_option}
use Rattle.std.specs.Map.{keys_of}
use Rattle.std.specs.BTreeMap.{insert_entry}
use Rattle.std.proofs.lemmas.Map.Lookups.{exact_unsigned}
use Rattle.silo_address.specs.Grain.{Grain, grain_eq}
use Rattle.directory_rules.specs.declared.act.Act.{Act}
use Rattle.directory_rules.specs.declared.act.Act.TheVariants as act
use Rattle.directory_rules.specs.declared.held.Held.{Held}
use Rattle.directory_rules.specs.declared.held.Phase.{Phase}
use Rattle.directory_rules.specs.declared.held.Phase.TheVariants.{Asking, Firm, Closing}
use Rattle.directory_rules.specs.State.{Host}
use Rattle.directory_rules.specs.Host.{grain_of, entry_of, act_in, held_acts, find_acts, requests_about, new_number_about, phase_renewed_about, held_renewed_about, renewed_about}
use Rattle.directory_rules.proofs.Cases.{on_bool}
use Rattle.directory_rules.proofs.RequestNumbers.{one, one_same, times, times_append, times_mapped, times_keys, times_phase, times_put_most, with_number, numbers}
use Rattle.directory_rules.proofs.Renewal.{each, never, once_mapped, rank_room, rank_rises, put_all, held_numbers, mapped_keys, same_keys}

-- ---- Entries that pass a test, of entries under numbers of which none stands twice.
module _ {X : Type 0} (test : ℕ × X → Bool) where
  -- how often the number occurs among those that pass
  abbrev passing : ℕ → List (ℕ × X) → ℕ
  passing n es = times n (keys_of (filter test es))

  front : (n : ℕ) (e : ℕ × X) (es : List (ℕ × X)) → passing n (e ∷ es) ≡ passing n (e ∷ []) + passing n es
  front n e es =
      on_bool (λ b. times n (keys_of (cond b (e ∷ filter test es) (filter test es))) ≡ times n (keys_of (cond b (e ∷ []) [])) + passing n
      es) (test e) (λ t. omega arith) (λ f. omega arith)

  passing_put : (n : ℕ) (es : List (ℕ × X)) (k : ℕ) (x : X) → times k (keys_of es) ≡ 0
      → passing n (insert_entry nat_cmp es k x) ≡ passing n ((k, x) ∷ []) + passing n es
  passing_put n [] k x new = omega arith
  passing_put n (e ∷ es) k x new = by (nat_cmp k e.0) refl (passing_put n es k x (omega (new, arith)))
    where
      by : (r : Ordering) → nat_cmp k e.0 ≡ r → passing n (insert_entry nat_cmp es k x) ≡ passing n ((k, x) ∷ []) + passing n es
          → passing n (match_ordering r ((k, x) ∷ e ∷ es) ((e.0, x) ∷ es) (e ∷ insert_entry nat_cmp es k x)) ≡ passing n ((k, x) ∷ []) +
          passing n (e ∷ es)
      by Less h later = front n (k, x) (e ∷ es)
      by Equal h later = let same = ap (one k) (exact_unsigned k e.0 h) in let here = one_same k in absurd (omega (same, here, new, arith))
      by Greater h later =
          let now = front n e (insert_entry nat_cmp es k x) in let before = front n e es in omega (now, before, later, arith)

  passing_all : (n : ℕ) (es xs : List (ℕ × X)) → ((k : ℕ) → times k (keys_of xs) + times k (keys_of es) ≤ 1)
      → passing n (put_all es xs) ≡ passing n xs + passing n es
  passing_all n es [] once = omega arith
  passing_all n es (x ∷ xs) once =
      let same = one_same x.0 in let few = once x.0 in
      let put = passing_put n es x.0 x.1 (omega (same, few, arith)) in
      let all = passing_all n (insert_entry nat_cmp es x.0 x.1) xs (λ k. let most = times_put_most k es x.0 x.1 in let most_once = once k in omega (most, most_once, arith)) in
      let first = front n x xs in
      omega (put, all, first, arith)

module _ (grain : Grain) where
  -- the activation of the grain, if there is one, and its finds
  abbrev about : List (Grain × Held) → List (Grain × Held)
  about held = filter (λ e. grain_eq e.0 grain) held

  abbrev finds_about : List (ℕ × Grain) → List (ℕ × Grain)
  finds_about finds = filter (λ e. grain_eq e.1 grain) finds

  -- and all the others
  abbrev others : List (Grain × Held) → List (Grain × Held)
  others held = filter (λ e. not (grain_eq e.0 grain)) held

  abbrev other_finds : List (ℕ × Grain) → List (ℕ × Grain)
  other_finds finds = filter (λ e. not (grain_eq e.1 grain)) finds

  -- ---- The numbers of what is about the grain, and of the others, are all.
  held_apart : (n : ℕ) (held : List (Grain × Held))
      → times n (numbers (about held)) + times n (numbers (others held)) ≡ times n (numbers held)
  held_apart n [] = omega arith
  held_apart n (e ∷ es) =
      let later = held_apart n es in
      let all = times_phase n e.1.phase (numbers es) in
      let its = times_phase n e.1.phase (numbers (about es)) in
      let other = times_phase n e.1.phase (numbers (others es)) in
      on_bool (λ b. times n (numbers (cond b (e ∷ about es) (about es))) + times n (numbers (cond (not b) (e ∷ others es) (others es)))
      ≡ times n (numbers (e ∷ es))) (grain_eq e.0 grain)
      (λ t. omega (later, all, its, arith)) (λ f. omega (later, all, other, arith))

  finds_apart : (n : ℕ) (finds : List (ℕ × Grain)) → times n (keys_of (finds_about finds)) + times n (keys_of (other_finds finds)) ≡ times n
      (keys_of finds)
  finds_apart n [] = omega arith
  finds_apart n (e ∷ es) =
      let later = finds_apart n es in
      on_bool (λ b. times n (keys_of (cond b (e ∷ finds_about es) (finds_about es))) + times n
      (keys_of (cond (not b) (e ∷ other_finds es) (other_finds es))) ≡ times n (keys_of (e ∷ es))) (grain_eq e.1 grain)
      (λ t. omega (later, arith)) (λ f. omega (later, arith))

  -- ---- The requests about the grain have these numbers.
  abbrev is_about : ℕ × Act → Bool
  is_about e = grain_eq (grain_of e.1) grain

  act_about : (host : Host) (its : Grain) (held : Held) (phase : Phase) (acts : List (ℕ × Act)) (ks : List ℕ)
      → keys_of (filter is_about acts) ≡ ks
      → keys_of (filter is_about (cons_option (act_in phase host its held) acts)) ≡ cond (grain_eq its grain) (with_number phase ks) ks
  act_about host its held (Asking k) acts ks is =
      on_bool (λ b. keys_of (cond b ((k, act.Register (entry_of host its held) held.previous) ∷ filter is_about acts)
      (filter is_about acts)) ≡ cond b (k ∷ ks) ks) (grain_eq its grain) (λ t. ap (λ l. k ∷ l) is) (λ f. is)
  act_about host its held Firm acts ks is =
      on_bool (λ b. keys_of (filter is_about acts) ≡ cond b ks ks) (grain_eq its grain) (λ t. is) (λ f. is)
  act_about host its held (Closing k) acts ks is =
      on_bool (λ b. keys_of (cond b ((k, act.Deregister (entry_of host its held)) ∷ filter is_about acts) (filter is_about acts)) ≡ cond b
      (k ∷ ks) ks) (grain_eq its grain) (λ t. ap (λ l. k ∷ l) is) (λ f. is)

  acts_about : (host : Host) (held : List (Grain × Held))
      → keys_of (filter is_about (filter_map (λ e. act_in e.1.phase host e.0 e.1) held)) ≡ numbers (about held)
  acts_about host [] = refl
  acts_about host (e ∷ es) =
      act_about host e.0 e.1 e.1.phase (filter_map (λ x. act_in x.1.phase host x.0 x.1) es) (numbers (about es)) (acts_about host es)
      ∙ on_bool (λ b. cond b (with_number e.1.phase (numbers (about es))) (numbers (about es)) ≡ numbers (cond b (e ∷ about es) (about es)))
      (grain_eq e.0 grain) (λ t. refl) (λ f. refl)

  find_acts_about : (finds : List (ℕ × Grain)) → keys_of (filter is_about (map (λ e. (e.0, act.Find e.1)) finds)) ≡ keys_of
      (finds_about finds)
  find_acts_about [] = refl
  find_acts_about (e ∷ es) =
      let later = find_acts_about es in
      on_bool (λ b. keys_of (cond b ((e.0, act.Find e.1) ∷ filter is_about (map (λ x. (x.0, act.Find x.1)) es))
      (filter is_about (map (λ x. (x.0, act.Find x.1)) es))) ≡ keys_of (cond b (e ∷ finds_about es) (finds_about es)))
      (grain_eq e.1 grain)
      (λ t. ap (λ ks. e.0 ∷ ks) later) (λ f. later)

  -- ---- Renewed activations: those of the grain have new numbers, the others theirs.
  module _ (host : Host) where
    abbrev new : ℕ → ℕ
    new number = new_number_about grain host number

    -- the numbers that are renewed, and those that stay
    abbrev pub renewed_numbers_about : List ℕ
    renewed_numbers_about = numbers (about host.held) ++ keys_of (finds_about host.finds)

    abbrev pub numbers_beside : List ℕ
    numbers_beside = numbers (others host.held) ++ keys_of (other_finds host.finds)

    phase_times : (n : ℕ) (phase : Phase) (ks : List ℕ)
        → times n (with_number (phase_renewed_about grain host phase) ks) ≡ times n (map new (with_number phase [])) + times n ks
    phase_times n (Asking k) ks = omega arith
    phase_times n Firm ks = omega arith
    phase_times n (Closing k) ks = omega arith

    mapped_phase : (n : ℕ) (phase : Phase) (ks : List ℕ)
        → times n (map new (with_number phase ks)) ≡ times n (map new (with_number phase [])) + times n (map new ks)
    mapped_phase n (Asking k) ks = omega arith
    mapped_phase n Firm ks = omega arith
    mapped_phase n (Closing k) ks = omega arith

    held_times : (n : ℕ) (held : List (Grain × Held))
        → times n (numbers (map (λ e. (e.0, held_renewed_about grain host e.0 e.1)) held)) ≡ times n (map new (numbers (about held))) +
        times n (numbers (others held))
    held_times n [] = omega arith
    held_times n (e ∷ es) =
        let now = numbers (map (λ x. (x.0, held_renewed_about grain host x.0 x.1)) es) in
        let later = held_times n es in
        on_bool (λ b. times n (with_number (cond b (phase_renewed_about grain host e.1.phase) e.1.phase) now)
        ≡ times n (map new (numbers (cond b (e ∷ about es) (about es)))) + times n (numbers (cond (not b) (e ∷ others es) (others es))))
        (grain_eq e.0 grain)
        (λ t. let its = phase_times n e.1.phase now in let mapped = mapped_phase n e.1.phase (numbers (about es)) in
        omega (later, its, mapped, arith))
        (λ f. let its = times_phase n e.1.phase now in let other = times_phase n e.1.phase (numbers (others es)) in
        omega (later, its, other, arith))

    -- what is renewed has its new numbers, and what stays its old ones
    pub renewed_about_times : (n : ℕ) → times n (numbers (renewed_about grain host).held) + times n
        (keys_of (renewed_about grain host).finds) ≡ times n (map new renewed_numbers_about) + times n numbers_beside
    renewed_about_times n =
        let held = held_times n host.held in
        let finds = times_keys n (other_finds host.finds) (map (λ e. (new e.0, e.1)) (finds_about host.finds)) in
        let keys = ap (times n) (mapped_keys new (λ its. its) (finds_about host.finds)) in
        let mapped = times_mapped n new (numbers (about host.held)) (keys_of (finds_about host.finds)) in
        let beside = times_append n (numbers (others host.held)) (keys_of (other_finds host.finds)) in
        omega (held, finds, keys, mapped, beside, arith)

    pub times_apart : (n : ℕ) → times n renewed_numbers_about + times n numbers_beside ≡ times n (numbers host.held) + times n
        (keys_of host.finds)
    times_apart n =
        let held = held_apart n host.held in
        let finds = finds_apart n host.finds in
        let its = times_append n (numbers (about host.held)) (keys_of (finds_about host.finds)) in
        let beside = times_append n (numbers (others host.held)) (keys_of (other_finds host.finds)) in
        omega (held, finds, its, beside, arith)

    -- no new number is below the host's next one
    pub new_above : (n : ℕ) → n < host.next_number → times n (map new renewed_numbers_about) ≡ 0
    new_above n low =
        never n new renewed_numbers_about (each (λ k. ¬ (new k ≡ n)) renewed_numbers_about (λ k there same. omega (same, low, arith)))

    -- ---- The new numbers, where no number occurred twice.
    module _ (once : (n : ℕ) → times n (numbers host.held) + times n (keys_of host.finds) ≤ 1) where
      shown : (n : ℕ) → times n (keys_of (requests_about grain host)) ≡ times n renewed_numbers_about
      shown n =
          let acts = ap (times n) (acts_about host host.held) in
          let finds = ap (times n) (find_acts_about host.finds) in
          let its = times_append n (numbers (about host.held)) (keys_of (finds_about host.finds)) in
          let all = passing_all is_about n (find_acts host) (held_acts host)
          (λ k. let held_are = ap (times k) (held_numbers host host.held) in
          let finds_are = ap (times k) (same_keys (λ its. act.Find its) host.finds) in let few = once k in
          omega (held_are, finds_are, few, arith)) in
          omega (acts, finds, its, all, arith)

      -- they are distinct
      pub new_once : (n : ℕ) → times n (map new renewed_numbers_about) ≤ 1
      new_once n =
          once_mapped new (λ k. 1 ≤ times k (keys_of (requests_about grain host)))
          (λ j k there lt. let rises = rank_rises j k (requests_about grain host) lt in omega (rises, there, arith)) n renewed_numbers_about
          (λ k some. let is = shown k in omega (is, some, arith))
          (λ k. let apart = times_apart k in let few = once k in omega (apart, few, arith))

      -- and none from its new next number on
      pub new_below : (n : ℕ) → host.next_number + length (requests_about grain host) ≤ n → times n (map new renewed_numbers_about) ≡ 0
      new_below n high =
          never n new renewed_numbers_about
          (each (λ k. ¬ (new k ≡ n)) renewed_numbers_about
          (λ k there same. let room = rank_room k (requests_about grain host) in let is = shown k in
          omega (room, is, there, same, high, arith)))

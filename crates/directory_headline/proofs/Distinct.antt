-- All outstanding requests get new numbers: the old ones are distinct, so at most one activation's request gets a number.
use Rattle.std.proofs.Common.{arith, ◌≡◌, ◌≢◌, ℕ, suc, ◌+◌, ◌<◌, ◌≤◌, List, [], ◌∷◌, ◌++◌, map, refl, sym, ap, subst, ◌∙◌}
use Rattle.std.specs.Prelude.{true, cond, nat_lt, All, AllPairs, Some, length}
use Rattle.std.specs.List.{slice_index_or}
use Rattle.std.specs.Map.{keys_of, lookup}
use Rattle.std.specs.BTreeMap.{is_at}
use Rattle.std.proofs.lemmas.Bool.{ltb-true, ltb-false}
use Rattle.std.proofs.lemmas.List.Elements.{All-head, All-tail}
use Rattle.silo_address.specs.Grain.{Grain, grain_cmp}
use Rattle.silo_address.proofs.Order.{grain_cmp_exact}
use Rattle.directory_rules.specs.declared.act.Act.TheVariants.{Find}
use Rattle.directory_rules.specs.declared.held.Held.{Held}
use Rattle.directory_rules.specs.declared.held.Phase.{Phase}
use Rattle.directory_rules.specs.declared.held.Phase.TheVariants.{Asking, Firm, Closing}
use Rattle.directory_rules.specs.State.{Host}
use Rattle.directory_rules.specs.Host.{held_acts, find_acts, outstanding, new_number, renewed, renewed_phase}
use Rattle.directory_rules.specs.Laws.{requests_of, AreNumbered}
use Rattle.directory_rules.proofs.Cases.{on_bool}
use Rattle.directory_rules.proofs.RequestNumbers.{one, one_cases, times, with_number, numbers}
use Rattle.directory_rules.proofs.Renewal.{held_numbers, same_keys, request_numbers, renewed_once, renewed_below}
use Rattle.directory_facts.proofs.Entries.{same_key}
use Rattle.directory_headline.proofs.NewNumbers.{gets, phase_anew, IsRenewal, alike}

-- ---- numbers that are apart occur once
keys_append : {K X : Type 0} (xs ys : List (K × X)) → keys_of (xs ++ ys) ≡ keys_of xs ++ keys_of ys
keys_append [] ys = refl
keys_append (x ∷ xs) ys = ap (λ ks. x.0 ∷ ks) (keys_append xs ys)

nowhere : {X : Type 0} (n : ℕ) (es : List (ℕ × X)) → All (λ e. n ≢ e.0) es → times n (keys_of es) ≡ 0
nowhere n [] all = refl
nowhere n (e ∷ es) all =
    let later = nowhere n es (All-tail (λ x. n ≢ x.0) e es all) in
    one_cases (λ r. r + times n (keys_of es) ≡ 0) n e.0 (λ same. absurd (All-head (λ x. n ≢ x.0) e es all (sym same)))
    (omega (later, arith))

once_each : {X : Type 0} (n : ℕ) (es : List (ℕ × X)) → AllPairs (λ e later. e.0 ≢ later.0) es → times n (keys_of es) ≤ 1
once_each n [] pairs = omega arith
once_each n (e ∷ es) pairs =
    let later = once_each n es (λ i j d lt below. pairs (suc i) (suc j) d (omega (arith, lt)) (omega (arith, below))) in
    one_cases (λ r. r + times n (keys_of es) ≤ 1) n e.0
    (λ same. let none = nowhere n es (λ i d below. subst (λ k. k ≢ (slice_index_or es i d).0) same (pairs 0 (suc i) d (omega arith) (omega (arith, below)))) in omega (none, arith)) (omega (later, arith))

module _ (host : Host) (numbered : AreNumbered host) where
  same_numbers : keys_of (requests_of host) ≡ request_numbers host
  same_numbers =
      keys_append (held_acts host) (find_acts host)
      ∙ ap (λ ks. ks ++ keys_of (find_acts host)) (held_numbers host host.held)
      ∙ ap (λ ks. numbers host.held ++ ks) (same_keys (λ grain. Find grain) host.finds)

  pub once : (n : ℕ) → times n (request_numbers host) ≤ 1
  once n = subst (λ ks. times n ks ≤ 1) same_numbers (once_each n (requests_of host) numbered.distinct)

-- ---- which activation's request gets a number
module _ (new : ℕ → ℕ) (n : ℕ) where
  -- how many get it
  abbrev pub many : List (Grain × Held) → ℕ
  many es = times n (map new (numbers es))

  many_phase : (phase : Phase) (ks : List ℕ) → times n (map new (with_number phase ks)) ≡ cond (gets true new n phase) 1 0 + times n
      (map new ks)
  unfolding one
  many_phase (Asking k) ks = refl
  many_phase Firm ks = omega arith
  many_phase (Closing k) ks = refl

  pub many_more : (xs ys : List ℕ) → times n (map new xs) ≤ times n (map new (xs ++ ys))
  many_more [] ys = omega arith
  many_more (x ∷ xs) ys = let later = many_more xs ys in omega (later, arith)

  -- one at least, where one is found
  pub many_found : (grain : Grain) (held : Held) (es : List (Grain × Held)) → lookup (is_at (grain_cmp grain)) es ≡ Some held
      → gets true new n held.phase ≡ true → 1 ≤ many es
  many_found grain held [] found got = absurd (cc (found))
  many_found grain held (e ∷ es) found got =
      let here = many_phase e.1.phase (numbers es) in
      on_bool (λ b. cond b (Some e.1) (lookup (is_at (grain_cmp grain)) es) ≡ Some held → 1 ≤ many (e ∷ es)) (is_at (grain_cmp grain) e.0)
      (λ t is. let same : e.1 ≡ held = cc (is) in
      let one_here : cond {A = ℕ} (gets true new n e.1.phase) 1 0 ≡ 1 = ap (λ h. cond {A = ℕ} (gets true new n h.phase) 1 0) same ∙ ap (λ b. cond {A = ℕ} b 1 0) got in
      omega (here, one_here, arith))
      (λ f is. let later = many_found grain held es is got in omega (here, later, arith)) found

  -- two that are found are of one grain
  only_one :
      (g r : Grain) (x y : Held) (es : List (Grain × Held)) → many es ≤ 1 → lookup (is_at (grain_cmp g)) es ≡ Some x
      → lookup (is_at (grain_cmp r)) es ≡ Some y
      → gets true new n x.phase ≡ true → gets true new n y.phase ≡ true → r ≡ g
  only_one g r x y [] few found other got got_too = absurd (cc (found))
  only_one g r x y (e ∷ es) few found other got got_too =
      let here = many_phase e.1.phase (numbers es) in
      on_bool (λ b. is_at (grain_cmp g) e.0 ≡ b → cond b (Some e.1) (lookup (is_at (grain_cmp g)) es) ≡ Some x → r ≡ g)
      (is_at (grain_cmp g) e.0)
      (λ t at is. let same : e.1 ≡ x = cc (is) in
      let one_here : cond {A = ℕ} (gets true new n e.1.phase) 1 0 ≡ 1 = ap (λ h. cond {A = ℕ} (gets true new n h.phase) 1 0) same ∙ ap (λ b. cond {A = ℕ} b 1 0) got in
      on_bool (λ c. is_at (grain_cmp r) e.0 ≡ c → cond c (Some e.1) (lookup (is_at (grain_cmp r)) es) ≡ Some y → r ≡ g)
      (is_at (grain_cmp r) e.0)
      (λ u too so. same_key grain_cmp grain_cmp_exact r e.0 too ∙ sym (same_key grain_cmp grain_cmp_exact g e.0 at))
      (λ u too so. let later = many_found r y es so got_too in absurd (omega (few, here, one_here, later, arith))) refl other)
      (λ f at is.
      on_bool (λ c. cond c (Some e.1) (lookup (is_at (grain_cmp r)) es) ≡ Some y → r ≡ g) (is_at (grain_cmp r) e.0)
      (λ u so. let same : e.1 ≡ y = cc (so) in
      let one_here : cond {A = ℕ} (gets true new n e.1.phase) 1 0 ≡ 1 = ap (λ h. cond {A = ℕ} (gets true new n h.phase) 1 0) same ∙ ap (λ b. cond {A = ℕ} b 1 0) got_too in
      let later = many_found g x es is got in absurd (omega (few, here, one_here, later, arith)))
      (λ u so. only_one g r x y es (omega (few, here, arith)) is so got got_too) other) refl found

module _ (host : Host) (numbered : AreNumbered host) (n : ℕ) where
  few : many (new_number host) n host.held ≤ 1
  few =
      let all = renewed_once host (once host numbered) n in
      let held = many_more (new_number host) n (numbers host.held) (keys_of host.finds) in
      omega (all, held, arith)

  -- none from the host's new next number on
  none_above : host.next_number + length (outstanding host) ≤ n → many (new_number host) n host.held ≡ 0
  none_above high =
      let all = renewed_below host n high in
      let held = many_more (new_number host) n (numbers host.held) (keys_of host.finds) in
      omega (all, held, arith)

phase_renewed : (host : Host) (phase : Phase) → renewed_phase host phase ≡ phase_anew true (new_number host) phase
phase_renewed host (Asking k) = refl
phase_renewed host Firm = refl
phase_renewed host (Closing k) = refl

-- so all of them may be renewed
module _ (host : Host) (numbered : AreNumbered host) where
  abbrev end : ℕ
  end = host.next_number + length (outstanding host)

  pub all_renewed : IsRenewal host (λ grain. true) (new_number host) (length (outstanding host)) (renewed host)
  all_renewed = record {
    from = λ k. omega arith;
    below = λ n grain held found got.
        on_bool (λ b. nat_lt n end ≡ b → n < end) (nat_lt n end) (λ t is. ltb-true n end is)
        (λ f is. let none = none_above host numbered n (ltb-false n end is) in
        let some = many_found (new_number host) n grain held host.held found got in absurd (omega (none, some, arith))) refl;
    apart = λ n g r x y found there got too. only_one (new_number host) n g r x y host.held (few host numbered n) found there got too;
    next_number = refl;
    next_count = refl;
    held =
        alike (λ grain phase. renewed_phase host phase) (λ grain phase. phase_anew true (new_number host) phase)
        (λ grain phase. phase_renewed host phase) host.held;
  }

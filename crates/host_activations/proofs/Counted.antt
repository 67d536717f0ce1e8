-- The numbers of a host's requests are distinct and below the next one, as the rule says.
use Rattle.std.proofs.Common.{arith, ◌≡◌, refl, sym, ap, subst, ◌∙◌, ℕ, List, [], ◌∷◌, ◌+◌, ◌≤◌, cond, Bool, true, false, Option, Some, None, option_and_then}
use Rattle.std.specs.List.{AllByRecursion, IsDistinct}
use Rattle.std.specs.List.Sorted.{IsStrictlySortedBy}
use Rattle.std.specs.Map.{keys_of, lookup}
use Rattle.std.specs.BTreeMap.{is_at}
use Rattle.std.specs.Ordering.{nat_cmp}
use Rattle.std.specs.declared.cmp.Ordering.TheVariants.{Less, Equal}
use Rattle.std.proofs.lemmas.Cmp.{tied_itself, nat_cmp_total}
use Rattle.std.proofs.lemmas.Map.Keys.{IsDistinct-head, IsDistinct-tail, sorted_head, sorted_tail}
use Rattle.texts.proofs.Orderings.{at_itself}
use Rattle.silo_address.specs.Silo.{Silo}
use Rattle.silo_address.specs.Grain.{Grain, grain_eq}
use Rattle.silo_address.proofs.Same.{Decides-grain}
use Rattle.directory_rules.specs.declared.Held.{Held}
use Rattle.directory_rules.specs.declared.Phase.{Phase}
use Rattle.directory_rules.specs.declared.Phase.TheVariants.{Asking, Firm, Closing}
use Rattle.directory_rules.specs.State.{Host}
use Rattle.directory_rules.specs.Laws.{AreNumbered}
use Rattle.directory_rules.proofs.Numbered as rule
use Rattle.directory_rules.proofs.RequestNumbers.{one, one_cases, times, times_phase, with_number, numbers}
use Rattle.host_activations.specs.declared.asked.OutstandingRequest.{OutstandingRequest}
use Rattle.host_activations.specs.declared.asked.OutstandingRequest.TheVariants.{Activation, Find}
use Rattle.host_activations.specs.Numbers.{number_in}
use Rattle.host_activations.specs.Asked.{asked_under, find_in, finds_in}
use Rattle.host_activations.specs.IsHost.{AreHeld}
use Rattle.host_activations.proofs.Agreement.{same_activation, no_find, nothing}
use Rattle.host_activations.proofs.Found.{IsFoundIn, all_map, each_found}
use Rattle.host_activations.proofs.Finds.{find_under, finds_sorted}
use Rattle.host_activations.proofs.Fields.{meant}

-- ---- How often a number occurs.
phase_times : (n : ℕ) (phase : Phase) → (number_in phase ≡ Some n → ⊥) → times n (with_number phase []) ≡ 0
phase_times n (Asking k) not = one_cases (λ r. r + 0 ≡ 0) n k (λ same. absurd (not (ap (λ (j : ℕ). Some j) same))) refl
phase_times n Firm not = refl
phase_times n (Closing k) not = one_cases (λ r. r + 0 ≡ 0) n k (λ same. absurd (not (ap (λ (j : ℕ). Some j) same))) refl

-- no activation has the number
none_has : (n : ℕ) (es : List (Grain × Held)) → AllByRecursion (λ e. number_in e.1.phase ≡ Some n → ⊥) es → times n (numbers es) ≡ 0
none_has n [] none = refl
none_has n (e ∷ es) none =
    let here = times_phase n e.1.phase (numbers es) in let head = phase_times n e.1.phase none.0 in let later = none_has n es none.1 in
    omega (here, head, later, arith)

-- one grain's at most
others_not : (n : ℕ) (g : Grain) (es : List (Grain × Held)) → AllByRecursion (λ q. grain_eq g q ≡ false) (keys_of es)
    → AllByRecursion (λ e. number_in e.1.phase ≡ Some n → e.0 ≡ g) es
    → AllByRecursion (λ e. number_in e.1.phase ≡ Some n → ⊥) es
others_not n g [] apart only = tt
others_not n g (e ∷ es) apart only =
    ((λ has. let h : true ≡ false = sym ((Decides-grain g e.0).1 (sym (only.0 has))) ∙ apart.0 in cc), others_not n g es apart.1 only.1)

phase_cases : {Q : Type 0} (n : ℕ) (phase : Phase) → (number_in phase ≡ Some n → times n (with_number phase []) ≡ 1 → Q)
    → (times n (with_number phase []) ≡ 0 → Q) → Q
phase_cases {Q} n (Asking k) has not =
    one_cases (λ r. (number_in (Asking k) ≡ Some n → r + 0 ≡ 1 → Q) → (r + 0 ≡ 0 → Q) → Q) n k
    (λ same yes no. yes (ap (λ (j : ℕ). Some j) same) refl) (λ yes no. no refl) has not
phase_cases {Q} n Firm has not = not refl
phase_cases {Q} n (Closing k) has not =
    one_cases (λ r. (number_in (Closing k) ≡ Some n → r + 0 ≡ 1 → Q) → (r + 0 ≡ 0 → Q) → Q) n k
    (λ same yes no. yes (ap (λ (j : ℕ). Some j) same) refl) (λ yes no. no refl) has not

one_has : (n : ℕ) (g : Grain) (es : List (Grain × Held)) → IsDistinct grain_eq (keys_of es)
    → AllByRecursion (λ e. number_in e.1.phase ≡ Some n → e.0 ≡ g) es → times n (numbers es) ≤ 1
one_has n g [] apart only = omega arith
one_has n g (e ∷ es) apart only =
    let here = times_phase n e.1.phase (numbers es) in
    let later = one_has n g es (IsDistinct-tail grain_eq e.0 (keys_of es) apart) only.1 in
    phase_cases n e.1.phase
    (λ has head. let rest = none_has n es (others_not n g es
    (subst (λ (x : Grain). AllByRecursion (λ y. grain_eq x y ≡ false) (keys_of es)) (only.0 has)
    (IsDistinct-head grain_eq e.0 (keys_of es) apart)) only.1) in
    omega (here, head, rest, arith))
    (λ head. omega (here, head, later, arith))

-- ---- Numbers in order.
above_not : (n : ℕ) (ks : List ℕ) → AllByRecursion (λ k. nat_cmp n k ≡ Less) ks → times n ks ≡ 0
above_not n [] above = refl
above_not n (k ∷ ks) above =
    let later = above_not n ks above.1 in
    one_cases (λ r. r + times n ks ≡ 0) n k (λ same.
    let h : Equal ≡ Less = sym (tied_itself nat_cmp_total n) ∙ ap (λ (j : ℕ). nat_cmp n j) (sym same) ∙ above.0 in
    cc) (omega (later, arith))

in_order_once : (n : ℕ) (ks : List ℕ) → IsStrictlySortedBy nat_cmp ks → times n ks ≤ 1
in_order_once n [] sorted = omega arith
in_order_once n (k ∷ ks) sorted =
    let later = in_order_once n ks (sorted_tail nat_cmp k ks sorted) in
    one_cases (λ r. r + times n ks ≤ 1) n k
    (λ same. let none = above_not n ks (subst (λ (j : ℕ). AllByRecursion (λ y. nat_cmp j y ≡ Less) ks) same (sorted_head nat_cmp k ks sorted)) in omega (none, arith))
    (omega (later, arith))

not_there : {X : Type 0} (n : ℕ) (es : List (ℕ × X)) → lookup (is_at (nat_cmp n)) es ≡ None → times n (keys_of es) ≡ 0
not_there n [] none = refl
not_there n (e ∷ es) none = by (is_at (nat_cmp n) e.0) refl none (not_there n es)
  where
    by : (b : Bool) → is_at (nat_cmp n) e.0 ≡ b → cond b (Some e.1) (lookup (is_at (nat_cmp n)) es) ≡ None
        → (lookup (is_at (nat_cmp n)) es ≡ None → times n (keys_of es) ≡ 0)
        → one n e.0 + times n (keys_of es) ≡ 0
    by true at none later = cc
    by false at none later =
        let rest = later none in
        one_cases (λ r. r + times n (keys_of es) ≡ 0) n e.0
        (λ same. let h : true ≡ false = sym (at_itself n) ∙ ap (λ (j : ℕ). is_at (nat_cmp n) j) (sym same) ∙ at in cc) (omega (rest, arith))

module _ (silo : Silo) (next count : ℕ) (held : List (Grain × Held)) (out : List (ℕ × OutstandingRequest))
    (are : AreHeld next held out) where
  abbrev host : Host
  host = meant silo next count held out

  stands : (n : ℕ) (e : Grain × Held) → IsFoundIn held e → number_in e.1.phase ≡ Some n → asked_under n out ≡ Some (Activation e.0)
  stands n e found has = are.asked.there e.0 n (ap (λ o. option_and_then (λ (x : Held). number_in x.phase) o) found ∙ has)

  not_held : (n : ℕ) → ((g : Grain) → asked_under n out ≡ Some (Activation g) → ⊥) → times n (numbers held) ≡ 0
  not_held n never =
      none_has n held
      (all_map (IsFoundIn held) (λ e. number_in e.1.phase ≡ Some n → ⊥) held (λ e found has. never e.0 (stands n e found has))
      (each_found held are.apart))

  once : (n : ℕ) → times n (numbers held) + times n (keys_of (finds_in out)) ≤ 1
  once n = by (asked_under n out) refl
    where
      few : times n (keys_of (finds_in out)) ≤ 1
      few = in_order_once n (keys_of (finds_in out)) (finds_sorted out are.in_order)

      by : (o : Option OutstandingRequest) → asked_under n out ≡ o → times n (numbers held) + times n (keys_of (finds_in out)) ≤ 1
      by None is = let none = not_held n (λ g h. nothing (Activation g) (sym is ∙ h)) in omega (none, few, arith)
      by (Some (Find g)) is = let none = not_held n (λ q h. no_find g q (sym is ∙ h)) in omega (none, few, arith)
      by (Some (Activation g)) is =
          let one = one_has n g held are.apart (all_map (IsFoundIn held) (λ e. number_in e.1.phase ≡ Some n → e.0 ≡ g) held
          (λ e found has. same_activation e.0 g (sym (stands n e found has) ∙ is)) (each_found held are.apart)) in
          let none = not_there n (finds_in out) (find_under out are.in_order n ∙ ap (λ o. option_and_then find_in o) is) in
          omega (one, none, arith)

  past : (n : ℕ) → next ≤ n → times n (numbers held) + times n (keys_of (finds_in out)) ≡ 0
  past n high = by (asked_under n out) refl
    where
      by : (o : Option OutstandingRequest) → asked_under n out ≡ o → times n (numbers held) + times n (keys_of (finds_in out)) ≡ 0
      by (Some it) is = let low = are.below n it is in absurd (omega (low, high, arith))
      by None is =
          let none = not_held n (λ g h. nothing (Activation g) (sym is ∙ h)) in
          let other = not_there n (finds_in out) (find_under out are.in_order n ∙ ap (λ o. option_and_then find_in o) is) in
          omega (none, other, arith)

  pub are_numbered : AreNumbered host
  are_numbered = rule.are_numbered host (record { once = once; below = past })

-- A nudge of one grain leaves each request about another as it was, and so each reply to that counts.
use Rattle.std.proofs.Common.{arith, ◌≡◌, ◌≢◌, refl, sym, ap, subst, ◌∙◌, ℕ, ◌<◌, ◌≤◌, List, [], ◌∷◌, ◌++◌, ◌⊎◌, inl, inr}
use Rattle.std.specs.Prelude.{Bool, true, false, cond, not, ◌==◌, if◌then◌else◌, is_some, length, map, filter, find, Contains, All, Option, Some, None, Result, Ok, Err}
use Rattle.std.specs.List.{cons_option}
use Rattle.std.specs.Ordering.{nat_cmp}
use Rattle.std.specs.Map.{lookup}
use Rattle.std.specs.BTreeMap.{is_at}
use Rattle.std.proofs.lemmas.List.Elements.{All-contains, All-map, filter_passes, Contains-append_left, Contains-append_right, Contains-append_cases}
use Rattle.silo_address.specs.Grain.{Grain, grain_eq}
use Rattle.silo_address.specs.declared.Entry.{Entry}
use Rattle.silo_address.proofs.Same.{Decides-grain}
use Rattle.directory_rules.specs.declared.act.Act.{Act}
use Rattle.directory_rules.specs.declared.act.Act.TheVariants as act
use Rattle.directory_rules.specs.declared.held.Held.{Held}
use Rattle.directory_rules.specs.declared.held.Phase.{Phase}
use Rattle.directory_rules.specs.declared.held.Phase.TheVariants as phase
use Rattle.directory_rules.specs.declared.reply.Reply.{Reply}
use Rattle.directory_rules.specs.declared.reply.Reply.TheVariants as reply
use Rattle.directory_rules.specs.declared.effect.Effect.TheVariants as effect
use Rattle.directory_rules.specs.declared.own_step.OwnStep.TheVariants.{NudgeGrain}
use Rattle.directory_rules.specs.State.{Host, Node}
use Rattle.directory_rules.specs.Host.{grain_of, entry_of, act_in, held_acts, find_acts, outstanding, requests_about, has_numbers, new_number_about, phase_renewed_about, held_renewed_about, renewed_about, is_asking_under, is_closing_under, asking_under, closing_under, is_finding, is_outstanding, without_find}
use Rattle.directory_rules.specs.Step.{Stepped, silently, having_nudged_grain}
use Rattle.directory_rules.specs.Input.{Does, step}
use Rattle.directory_rules.specs.Cache.{learnt}
use Rattle.directory_rules.specs.Reply.{replied, at_seen, confirmed_by, yielded_by, ended_by, found_by, not_found_by}
use Rattle.directory_rules.specs.Laws.{requests_of, AreNumbered}
use Rattle.directory_rules.specs.Run.{run_from_start}
use Rattle.directory_rules.proofs.Cases.{on_bool}
use Rattle.directory_rules.proofs.Numbered.{Numbered, are_numbered, numbered_keeps}
use Rattle.directory_facts.proofs.Reached.{everywhere, found_node}
use Rattle.progress_rules.specs.Owed.{Owes}
use Rattle.progress_rules.specs.Parts.{LeavesOthers, GrainNudgesLeaveOthers, RangeNudgesChangeNothing}
use Rattle.progress_rules.proofs.Answered.{only_one}
use Rattle.progress_rules.proofs.Filtered.{passes, passed}
use Rattle.progress_rules.proofs.FindsSorted.{sorted_facts, sorted_keep, outstanding_has}
use Rattle.progress_rules.proofs.Quiet.{acts, acts_same, more_acts}
use Rattle.progress_rules.proofs.NumberedRequests.{asked, cons_moves, found_there, looked_for, not_at, not_equal, only_request}

module _ (h : Host) (grain : Grain) where
  abbrev after : Host
  after = renewed_about grain h

  abbrev IsOther : ℕ × Act → Type 0
  IsOther e = grain_of e.1 ≢ grain

  abbrev renewed_held : Grain × Held → Grain × Held
  renewed_held e = (e.0, held_renewed_about grain h e.0 e.1)

  abbrev is_about : ℕ × Grain → Bool
  is_about e = grain_eq e.1 grain

  abbrev again : List (ℕ × Grain)
  again = map (λ (e : ℕ × Grain). (new_number_about grain h e.0, e.1)) (filter is_about h.finds)

  same_grain : (other : Grain) → grain_eq other grain ≡ true → other ≡ grain
  same_grain other is = (Decides-grain other grain).0 is

  -- ---- an activation's request is as it was, where it is about another grain
  abbrev renewed_phase : (about : Bool) → Phase → Phase
  renewed_phase about its = if about then phase_renewed_about grain h its else its

  forth_act : (its : Phase) (about : Bool) (other : Grain) (held : Held) (p : Phase) → grain_eq other grain ≡ about → (x : ℕ × Act)
      → IsOther x → act_in its h other held ≡ Some x → act_in (renewed_phase about its) h other (record held { phase = p }) ≡ Some x
  forth_act (phase.Asking k) true other held p at x apart is =
      let same : ◌≡◌ {A = ℕ × Act} (k, act.Register (entry_of h other held) held.previous) x = cc is in
      absurd (apart (sym (ap (λ (y : ℕ × Act). grain_of y.1) same) ∙ same_grain other at))
  forth_act (phase.Asking k) false other held p at x apart is = is
  forth_act phase.Firm true other held p at x apart is = is
  forth_act phase.Firm false other held p at x apart is = is
  forth_act (phase.Closing k) true other held p at x apart is =
      let same : ◌≡◌ {A = ℕ × Act} (k, act.Deregister (entry_of h other held)) x = cc is in
      absurd (apart (sym (ap (λ (y : ℕ × Act). grain_of y.1) same) ∙ same_grain other at))
  forth_act (phase.Closing k) false other held p at x apart is = is

  back_act : (its : Phase) (about : Bool) (other : Grain) (held : Held) (p : Phase) → grain_eq other grain ≡ about → (x : ℕ × Act)
      → IsOther x → act_in (renewed_phase about its) h other (record held { phase = p }) ≡ Some x → act_in its h other held ≡ Some x
  back_act (phase.Asking k) true other held p at x apart is =
      let same : ◌≡◌ {A = ℕ × Act} (new_number_about grain h k, act.Register (entry_of h other held) held.previous) x = cc is in
      absurd (apart (sym (ap (λ (y : ℕ × Act). grain_of y.1) same) ∙ same_grain other at))
  back_act (phase.Asking k) false other held p at x apart is = is
  back_act phase.Firm true other held p at x apart is = is
  back_act phase.Firm false other held p at x apart is = is
  back_act (phase.Closing k) true other held p at x apart is =
      let same : ◌≡◌ {A = ℕ × Act} (new_number_about grain h k, act.Deregister (entry_of h other held)) x = cc is in
      absurd (apart (sym (ap (λ (y : ℕ × Act). grain_of y.1) same) ∙ same_grain other at))
  back_act (phase.Closing k) false other held p at x apart is = is

  forth_acts : (held : List (Grain × Held)) (e : ℕ × Act) → IsOther e → Contains (acts h held) e
      → Contains (acts h (map renewed_held held)) e
  forth_acts [] e apart has = has
  forth_acts (x ∷ xs) e apart has =
      cons_moves IsOther (act_in x.1.phase h x.0 x.1) (act_in (renewed_held x).1.phase h x.0 (renewed_held x).1) (acts h xs)
      (acts h (map renewed_held xs)) e apart
      (forth_act x.1.phase (grain_eq x.0 grain) x.0 x.1 (renewed_held x).1.phase refl) (forth_acts xs e apart) has

  back_acts : (held : List (Grain × Held)) (e : ℕ × Act) → IsOther e → Contains (acts h (map renewed_held held)) e
      → Contains (acts h held) e
  back_acts [] e apart has = has
  back_acts (x ∷ xs) e apart has =
      cons_moves IsOther (act_in (renewed_held x).1.phase h x.0 (renewed_held x).1) (act_in x.1.phase h x.0 x.1)
      (acts h (map renewed_held xs)) (acts h xs) e apart
      (back_act x.1.phase (grain_eq x.0 grain) x.0 x.1 (renewed_held x).1.phase refl) (back_acts xs e apart) has

  -- ---- so is a find
  of_grain : All (λ (e : ℕ × Grain). grain_eq e.1 grain ≡ true) again
  of_grain =
      All-map (λ (e : ℕ × Grain). grain_eq e.1 grain ≡ true) (λ (e : ℕ × Grain). (new_number_about grain h e.0, e.1))
      (filter is_about h.finds) (filter_passes is_about h.finds)

  not_about : (other : Grain) → other ≢ grain → not (grain_eq other grain) ≡ true
  not_about other apart =
      on_bool (λ b. grain_eq other grain ≡ b → not b ≡ true) (grain_eq other grain) (λ t is. absurd (apart (same_grain other is)))
      (λ f is. refl) refl

  forth_finds : (e : ℕ × Act) → IsOther e → Contains (find_acts h) e → Contains (find_acts after) e
  forth_finds e apart has =
      let its = looked_for h.finds e has in
      let other : its.0.1 ≢ grain = λ same. apart (sym (ap (λ (x : ℕ × Act). grain_of x.1) its.2) ∙ same) in
      subst (λ x. Contains (find_acts after) x) its.2
      (asked after.finds its.0 (Contains-append_left (filter (λ x. not (is_about x)) h.finds) again its.0
      (passes (λ (x : ℕ × Grain). not (is_about x)) h.finds its.0 (not_about its.0.1 other) its.1)))

  back_finds : (e : ℕ × Act) → IsOther e → Contains (find_acts after) e → Contains (find_acts h) e
  back_finds e apart has =
      let its = looked_for after.finds e has in
      let other : its.0.1 ≢ grain = λ same. apart (sym (ap (λ (x : ℕ × Act). grain_of x.1) its.2) ∙ same) in
      elim (Contains-append_cases (filter (λ x. not (is_about x)) h.finds) again its.0 its.1) [
        | inl stays ↦ subst (λ x. Contains (find_acts h) x) its.2
            (asked h.finds its.0 (passed (λ (x : ℕ × Grain). not (is_about x)) h.finds its.0 stays).0)
        | inr renewed ↦ absurd (other (same_grain its.0.1
            (All-contains (λ (x : ℕ × Grain). grain_eq x.1 grain ≡ true) again its.0 of_grain renewed)))
      ]

  same_acts : held_acts after ≡ acts h (map renewed_held h.held)
  same_acts = acts_same after h refl after.held

  forth : (e : ℕ × Act) → IsOther e → Owes h e → Owes after e
  forth e apart has =
      elim (Contains-append_cases (held_acts h) (find_acts h) e has) [
        | inl here ↦ Contains-append_left (held_acts after) (find_acts after) e
            (subst (λ l. Contains l e) (sym same_acts) (forth_acts h.held e apart here))
        | inr there ↦ Contains-append_right (held_acts after) (find_acts after) e (forth_finds e apart there)
      ]

  back : (e : ℕ × Act) → IsOther e → Owes after e → Owes h e
  back e apart has =
      elim (Contains-append_cases (held_acts after) (find_acts after) e has) [
        | inl here ↦ Contains-append_left (held_acts h) (find_acts h) e
            (back_acts h.held e apart (subst (λ l. Contains l e) same_acts here))
        | inr there ↦ Contains-append_right (held_acts h) (find_acts h) e (back_finds e apart there)
      ]

  -- ---- a request about the grain has a number that was free
  is_first : (o : Option (ℕ × Act)) (rest : List (ℕ × Act)) (e : ℕ × Act) → Contains (cons_option o rest) e → (o ≡ Some e) ⊎ Contains rest e
  is_first None rest e has = inr has
  is_first (Some y) rest e has =
      elim (Contains-append_cases (y ∷ []) rest e has) [ inl here ↦ inl (ap Some (only_one y e here)) | inr there ↦ inr there ]

  itself : (other : Grain) → other ≡ grain → grain_eq other grain ≡ true
  itself other same = (Decides-grain other grain).1 same

  new_act : (its : Phase) (about : Bool) (other : Grain) (held : Held) (p : Phase) → grain_eq other grain ≡ about → (x : ℕ × Act)
      → grain_of x.1 ≡ grain → act_in (renewed_phase about its) h other (record held { phase = p }) ≡ Some x → h.next_number ≤ x.0
  new_act (phase.Asking k) true other held p at x about is =
      let same : ◌≡◌ {A = ℕ × Act} (new_number_about grain h k, act.Register (entry_of h other held) held.previous) x = cc is in
      let number = ap (λ (y : ℕ × Act). y.0) same in
      omega (arith, number)
  new_act (phase.Asking k) false other held p at x about is =
      let same : ◌≡◌ {A = ℕ × Act} (k, act.Register (entry_of h other held) held.previous) x = cc is in
      let its = itself other (ap (λ (y : ℕ × Act). grain_of y.1) same ∙ about) in
      absurd (cc (at, its))
  new_act phase.Firm true other held p at x about is = absurd (cc is)
  new_act phase.Firm false other held p at x about is = absurd (cc is)
  new_act (phase.Closing k) true other held p at x about is =
      let same : ◌≡◌ {A = ℕ × Act} (new_number_about grain h k, act.Deregister (entry_of h other held)) x = cc is in
      let number = ap (λ (y : ℕ × Act). y.0) same in
      omega (arith, number)
  new_act (phase.Closing k) false other held p at x about is =
      let same : ◌≡◌ {A = ℕ × Act} (k, act.Deregister (entry_of h other held)) x = cc is in
      let its = itself other (ap (λ (y : ℕ × Act). grain_of y.1) same ∙ about) in
      absurd (cc (at, its))

  new_acts : (held : List (Grain × Held)) (e : ℕ × Act) → grain_of e.1 ≡ grain → Contains (acts h (map renewed_held held)) e
      → h.next_number ≤ e.0
  new_acts [] e about has = absurd (omega (arith, has.1))
  new_acts (x ∷ xs) e about has =
      elim (is_first (act_in (renewed_held x).1.phase h x.0 (renewed_held x).1) (acts h (map renewed_held xs)) e has) [
        | inl here ↦ new_act x.1.phase (grain_eq x.0 grain) x.0 x.1 (renewed_held x).1.phase refl e about here
        | inr there ↦ new_acts xs e about there
      ]

  new_finds : All (λ (e : ℕ × Grain). h.next_number ≤ e.0) again
  new_finds =
      All-map (λ (e : ℕ × Grain). h.next_number ≤ e.0) (λ (e : ℕ × Grain). (new_number_about grain h e.0, e.1)) (filter is_about h.finds)
      (λ k d below. omega arith)

  pub renewed_about_from : (e : ℕ × Act) → Owes after e → grain_of e.1 ≡ grain → h.next_number ≤ e.0
  renewed_about_from e has about =
      elim (Contains-append_cases (held_acts after) (find_acts after) e has) [
        | inl here ↦ new_acts h.held e about (subst (λ l. Contains l e) same_acts here)
        | inr there ↦ of_find (looked_for after.finds e there)
      ]
    where
      of_find : (y : ℕ × Grain) × Contains after.finds y × ((y.0, act.Find y.1) ≡ e) → h.next_number ≤ e.0
      of_find its =
          let same : its.0.1 ≡ grain = ap (λ (x : ℕ × Act). grain_of x.1) its.2 ∙ about in
          elim (Contains-append_cases (filter (λ x. not (is_about x)) h.finds) again its.0 its.1) [
            | inl stays ↦
                let other = (passed (λ (x : ℕ × Grain). not (is_about x)) h.finds its.0 stays).1 in
                let mine = ap not (itself its.0.1 same) in
                absurd (cc (other, mine))
            | inr renewed ↦
                let low = All-contains (λ (x : ℕ × Grain). h.next_number ≤ x.0) again its.0 new_finds renewed in
                let number = ap (λ (x : ℕ × Act). x.0) its.2 in
                omega (arith, low, number)
          ]

  -- ---- a reply to it is to it still
  module _ (are : AreNumbered h) (e : ℕ × Act) (apart : IsOther e) (owes : Owes h e) where
    abbrev n : ℕ
    n = e.0

    below : n < h.next_number
    below = All-contains (λ (x : ℕ × Act). x.0 < h.next_number) (requests_of h) e are.below owes

    new_apart : (k : ℕ) → new_number_about grain h k ≢ n
    new_apart k same = omega (arith, same, below)

    -- no request about the grain has the number
    not_its : (x : ℕ × Act) → Owes h x → grain_of x.1 ≡ grain → x.0 ≢ n
    not_its x its about same =
        apart (sym (ap (λ (y : ℕ × Act). grain_of y.1) (only_request (requests_of h) are.distinct x e its owes same)) ∙ about)

    has_act : (held : List (Grain × Held)) (x : Grain × Held) (a : ℕ × Act) → Contains held x → act_in x.1.phase h x.0 x.1 ≡ Some a
        → Contains (acts h held) a
    has_act [] x a has is = absurd (omega (arith, has.1))
    has_act (y ∷ ys) x a has is =
        elim (Contains-append_cases (y ∷ []) ys x has) [
          | inl here ↦ subst (λ o. Contains (cons_option o (acts h ys)) a)
              (sym (ap (λ (z : Grain × Held). act_in z.1.phase h z.0 z.1) (only_one y x here) ∙ is)) (0, omega arith, refl)
          | inr there ↦ more_acts (act_in y.1.phase h y.0 y.1) (acts h ys) a (has_act ys x a there is)
        ]

    owes_act : (x : Grain × Held) (a : ℕ × Act) → Contains h.held x → act_in x.1.phase h x.0 x.1 ≡ Some a → Owes h a
    owes_act x a has is = Contains-append_left (held_acts h) (find_acts h) a (has_act h.held x a has is)

    asks_same : (x : Grain × Held) → Contains h.held x → (its : Phase) → x.1.phase ≡ its → (about : Bool) → grain_eq x.0 grain ≡ about
        → is_asking_under n (renewed_phase about its) ≡ is_asking_under n its
    asks_same x has (phase.Asking k) is true at =
        let k_apart = not_its (k, act.Register (entry_of h x.0 x.1) x.1.previous) (owes_act x (k, act.Register (entry_of h x.0 x.1) x.1.previous) has (ap (λ (p : Phase). act_in p h x.0 x.1) is)) (same_grain x.0 at) in
        not_equal (new_number_about grain h k) n (new_apart k) ∙ sym (not_equal k n k_apart)
    asks_same x has (phase.Asking k) is false at = refl
    asks_same x has phase.Firm is true at = refl
    asks_same x has phase.Firm is false at = refl
    asks_same x has (phase.Closing k) is true at = refl
    asks_same x has (phase.Closing k) is false at = refl

    closes_same : (x : Grain × Held) → Contains h.held x → (its : Phase) → x.1.phase ≡ its → (about : Bool) → grain_eq x.0 grain ≡ about
        → is_closing_under n (renewed_phase about its) ≡ is_closing_under n its
    closes_same x has (phase.Asking k) is true at = refl
    closes_same x has (phase.Asking k) is false at = refl
    closes_same x has phase.Firm is true at = refl
    closes_same x has phase.Firm is false at = refl
    closes_same x has (phase.Closing k) is true at =
        let k_apart = not_its (k, act.Deregister (entry_of h x.0 x.1)) (owes_act x (k, act.Deregister (entry_of h x.0 x.1)) has (ap (λ (p : Phase). act_in p h x.0 x.1) is)) (same_grain x.0 at) in
        not_equal (new_number_about grain h k) n (new_apart k) ∙ sym (not_equal k n k_apart)
    closes_same x has (phase.Closing k) is false at = refl

    found_same : (test : Phase → Bool) (held : List (Grain × Held))
        → ((x : Grain × Held) → Contains held x → test (renewed_held x).1.phase ≡ test x.1.phase)
        → is_some (find (λ x. test x.1.phase) (map renewed_held held)) ≡ is_some (find (λ x. test x.1.phase) held)
    found_same test [] same = refl
    found_same test (x ∷ xs) same =
        let later = found_same test xs (λ y has. same y (Contains-append_right (x ∷ []) xs y has)) in
        ap (λ b. is_some (cond b (Some (renewed_held x)) (find (λ y. test y.1.phase) (map renewed_held xs))))
        (same x (0, omega arith, refl))
        ∙ on_bool (λ b. is_some (cond b (Some (renewed_held x)) (find (λ y. test y.1.phase) (map renewed_held xs))) ≡ is_some
        (cond b (Some x) (find (λ y. test y.1.phase) xs))) (test x.1.phase) (λ t. refl) (λ f. later)

    pub asking_same : is_some (asking_under after n) ≡ is_some (asking_under h n)
    asking_same = found_same (is_asking_under n) h.held (λ x has. asks_same x has x.1.phase refl (grain_eq x.0 grain) refl)

    pub closing_same : is_some (closing_under after n) ≡ is_some (closing_under h n)
    closing_same = found_same (is_closing_under n) h.held (λ x has. closes_same x has x.1.phase refl (grain_eq x.0 grain) refl)

    -- finds
    none_renewed : (finds : List (ℕ × Grain)) → is_some
        (lookup (is_at (nat_cmp n)) (map (λ (x : ℕ × Grain). (new_number_about grain h x.0, x.1)) finds)) ≡ false
    none_renewed [] = refl
    none_renewed (x ∷ xs) =
        ap (λ b. is_some (cond b (Some x.1) (lookup (is_at (nat_cmp n)) (map (λ (y : ℕ × Grain). (new_number_about grain h y.0, y.1)) xs))))
        (not_at n (new_number_about grain h x.0) (λ same. new_apart x.0 (sym same)))
        ∙ none_renewed xs

    find_same : (finds : List (ℕ × Grain)) → ((x : ℕ × Grain) → Contains finds x → grain_eq x.1 grain ≡ true → n ≢ x.0)
        → is_some (lookup (is_at (nat_cmp n)) (filter (λ x. not (is_about x)) finds ++ again)) ≡ is_some (lookup (is_at (nat_cmp n)) finds)
    find_same [] other = none_renewed (filter is_about h.finds)
    find_same (x ∷ xs) other =
        let later = find_same xs (λ y has. other y (Contains-append_right (x ∷ []) xs y has)) in
        on_bool (λ b. is_about x ≡ b → is_some (lookup (is_at (nat_cmp n))
        (cond (not b) (x ∷ filter (λ y. not (is_about y)) xs) (filter (λ y. not (is_about y)) xs) ++ again)) ≡ is_some
        (lookup (is_at (nat_cmp n)) (x ∷ xs))) (is_about x)
        (λ t at. later ∙ sym (ap (λ b. is_some (cond b (Some x.1) (lookup (is_at (nat_cmp n)) xs)))
        (not_at n x.0 (other x (0, omega arith, refl) at))))
        (λ f at. on_bool (λ b. is_some (cond b (Some x.1) (lookup (is_at (nat_cmp n)) (filter (λ y. not (is_about y)) xs ++ again)))
        ≡ is_some (cond b (Some x.1) (lookup (is_at (nat_cmp n)) xs))) (is_at (nat_cmp n) x.0) (λ t. refl) (λ f. later))
        refl

    pub finding_same : is_finding after n ≡ is_finding h n
    finding_same =
        find_same h.finds (λ x has at same. not_its (x.0, act.Find x.1)
        (Contains-append_right (held_acts h) (find_acts h) (x.0, act.Find x.1) (asked h.finds x has)) (same_grain x.1 at) (sym same))

    pub outstanding_same : AreNumbered after → is_outstanding after n ≡ is_outstanding h n
    outstanding_same renewed =
        found_there n e.1 (outstanding after) (outstanding_has after renewed e (forth e apart owes))
        ∙ sym (found_there n e.1 (outstanding h) (outstanding_has h are e owes))

-- ---- what a reply does
module _ (one two : Node) where
  confirms : (o p : Option (Grain × Held)) → is_some o ≡ is_some p → (confirmed_by o one).effect ≡ (confirmed_by p two).effect
  confirms None None same = refl
  confirms None (Some e) same = absurd (cc same)
  confirms (Some e) None same = absurd (cc same)
  confirms (Some e) (Some f) same = refl

  yields : (o p : Option (Grain × Held)) (entry : Entry) → is_some o ≡ is_some p
      → (yielded_by o entry one).effect ≡ (yielded_by p entry two).effect
  yields None None entry same = refl
  yields None (Some e) entry same = absurd (cc same)
  yields (Some e) None entry same = absurd (cc same)
  yields (Some e) (Some f) entry same = refl

  ends : (o p : Option (Grain × Held)) → is_some o ≡ is_some p → (ended_by o one).effect ≡ (ended_by p two).effect
  ends None None same = refl
  ends None (Some e) same = absurd (cc same)
  ends (Some e) None same = absurd (cc same)
  ends (Some e) (Some f) same = refl

chosen : (b c : Bool) (x y z w : Stepped) → b ≡ c → x.effect ≡ z.effect → y.effect ≡ w.effect → (cond b x y).effect ≡ (cond c z w).effect
chosen true true x y z w same one other = one
chosen true false x y z w same one other = absurd (cc same)
chosen false true x y z w same one other = absurd (cc same)
chosen false false x y z w same one other = other

module _ (node : Node) (grain : Grain) (are : AreNumbered node.host) (renewed : AreNumbered (renewed_about grain node.host)) where
  abbrev nudged : Node
  nudged = record node { host = renewed_about grain node.host }

  module _ (e : ℕ × Act) (version : ℕ) (apart : grain_of e.1 ≢ grain) (owes : Owes node.host e) where
    seen : (one two : Stepped) → two.effect ≡ one.effect → (at_seen version nudged two).effect ≡ (at_seen version node one).effect
    seen one two same =
        chosen (version == node.view.version) (version == node.view.version) two (silently nudged effect.Ignored) one
        (silently node effect.Ignored) refl same refl

    does_so : (answer : Reply) → (replied nudged version e.0 answer).effect ≡ (replied node version e.0 answer).effect
    does_so (reply.Registered entry) =
        seen (confirmed_by (asking_under node.host e.0) node) (confirmed_by (asking_under nudged.host e.0) nudged)
        (confirms nudged node (asking_under nudged.host e.0) (asking_under node.host e.0) (asking_same node.host grain are e apart owes))
    does_so (reply.Taken entry) =
        seen (yielded_by (asking_under node.host e.0) entry node) (yielded_by (asking_under nudged.host e.0) entry nudged)
        (yields nudged node (asking_under nudged.host e.0) (asking_under node.host e.0) entry
        (asking_same node.host grain are e apart owes))
    does_so reply.Removed =
        seen (ended_by (closing_under node.host e.0) node) (ended_by (closing_under nudged.host e.0) nudged)
        (ends nudged node (closing_under nudged.host e.0) (closing_under node.host e.0) (closing_same node.host grain are e apart owes))
    does_so reply.Absent =
        seen (ended_by (closing_under node.host e.0) node) (ended_by (closing_under nudged.host e.0) nudged)
        (ends nudged node (closing_under nudged.host e.0) (closing_under node.host e.0) (closing_same node.host grain are e apart owes))
    does_so (reply.Found entry) =
        seen (found_by e.0 entry node) (found_by e.0 entry nudged)
        (chosen (is_finding nudged.host e.0) (is_finding node.host e.0)
        (silently (record nudged { host = without_find nudged.host e.0; cache = learnt nudged.cache entry }) effect.Learnt)
        (silently nudged effect.Ignored)
        (silently (record node { host = without_find node.host e.0; cache = learnt node.cache entry }) effect.Learnt)
        (silently node effect.Ignored)
        (finding_same node.host grain are e apart owes) refl refl)
    does_so reply.Nothing =
        seen (not_found_by e.0 node) (not_found_by e.0 nudged)
        (chosen (is_finding nudged.host e.0) (is_finding node.host e.0)
        (silently (record nudged { host = without_find nudged.host e.0 }) effect.Noted) (silently nudged effect.Ignored)
        (silently (record node { host = without_find node.host e.0 }) effect.Noted) (silently node effect.Ignored)
        (finding_same node.host grain are e apart owes) refl refl)
    does_so (reply.Retry why) =
        chosen (is_outstanding nudged.host e.0) (is_outstanding node.host e.0) (silently nudged effect.Noted)
        (silently nudged effect.Ignored) (silently node effect.Noted) (silently node effect.Ignored)
        (outstanding_same node.host grain are e apart owes renewed) refl refl

  leaves_others : LeavesOthers node nudged grain
  leaves_others = record {
    same = λ e apart. (forth node.host grain e apart, back node.host grain e apart);
    counts = λ e version answer apart owes. does_so e version apart owes answer;
  }

-- ---- the step
pub grain_nudge_is : (node : Node) (grain : Grain) (stepped : Stepped) → step node (Does (NudgeGrain grain)) ≡ Ok stepped
    → having_nudged_grain (record node { host = renewed_about grain node.host }) grain ≡ stepped
grain_nudge_is node grain stepped is =
    on_bool (λ b. ◌≡◌ {A = Result Stepped ℕ} (cond (not b) (Err 805)
    (Ok (having_nudged_grain (record node { host = renewed_about grain node.host }) grain))) (Ok stepped)
    → having_nudged_grain (record node { host = renewed_about grain node.host }) grain ≡ stepped)
    (has_numbers node.settings node.host (length (requests_about grain node.host))) (λ t so. cc so) (λ f so. absurd (cc so)) is

-- wherever the numbers are distinct
pub grain_nudge_leaves : (node : Node) (grain : Grain) (nudged_so : Stepped) → Numbered node.host
    → step node (Does (NudgeGrain grain)) ≡ Ok nudged_so → LeavesOthers node nudged_so.node grain
grain_nudge_leaves node grain nudged_so numbered is =
    let did = grain_nudge_is node grain nudged_so is in
    let after = subst (λ (s : Stepped). Numbered s.node.host) (sym did) (numbered_keeps.stepping node (Does (NudgeGrain grain)) nudged_so numbered is) in
    subst (λ (s : Stepped). LeavesOthers node s.node grain) did
    (leaves_others node grain (are_numbered node.host numbered) (are_numbered (renewed_about grain node.host) after))

pub grain_nudges_leave_others : GrainNudgesLeaveOthers
grain_nudges_leave_others settings events silo node grain nudged_so there is =
    let all = everywhere sorted_facts sorted_keep settings events tt (λ k d below. tt) in
    grain_nudge_leaves node grain nudged_so (found_node sorted_facts (run_from_start settings events).world silo node all there).0 is

pub range_nudges_change_nothing : RangeNudgesChangeNothing
range_nudges_change_nothing node = refl

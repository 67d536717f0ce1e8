-- Where something begins, the new fields keep what every host keeps, and mean the rule's new host.
use Rattle.std.proofs.Common.{◌≡◌, refl, sym, ap, subst, ◌∙◌, ℕ, ◌+◌, ◌^◌, ◌≤◌, List, [], ◌∷◌, ◌++◌, cond, Bool, true, false, Option, Some, None, option_and_then, is_some}
use Rattle.std.specs.List.Sorted.{IsStrictlySortedBy}
use Rattle.std.specs.List.{IsDistinct}
use Rattle.std.specs.Map.{keys_of, set_value}
use Rattle.std.specs.BTreeMap.{is_at, insert_entry}
use Rattle.std.specs.Ordering.{nat_cmp}
use Rattle.silo_address.specs.Grain.{Grain, grain_cmp, grain_eq}
use Rattle.silo_address.specs.declared.ActivationId.{ActivationId}
use Rattle.directory_rules.specs.declared.Held.{Held}
use Rattle.directory_rules.specs.declared.Phase.TheVariants.{Firm}
use Rattle.directory_rules.specs.State.{Host}
use Rattle.directory_rules.specs.Host.{held_of, next_closing, next_held, with_started, with_closing, with_find}
use Rattle.host_activations.specs.Activations.{ActivationsValue}
use Rattle.texts.proofs.Entries.{sorted-nil}
use Rattle.host_activations.specs.declared.asked.OutstandingRequest.{OutstandingRequest}
use Rattle.host_activations.specs.declared.asked.OutstandingRequest.TheVariants.{Activation, Find}
use Rattle.host_activations.specs.declared.host.Host.TheInside.{Inside}
use Rattle.host_activations.specs.Numbers.{number_in, number_of}
use Rattle.host_activations.specs.Asked.{asked_under, finds_in}
use Rattle.host_activations.specs.IsHost.{AreHeld, IsHost}
use Rattle.host_activations.specs.HostModel.{IsWhole, host_of}
use Rattle.host_activations.proofs.Numbers.{GivesNumber, begun, changed}
use Rattle.host_activations.proofs.HostKept.{free, asking_more, finding_more}
use Rattle.host_activations.proofs.Finds.{finds_put, finds_stay}
use Rattle.host_activations.proofs.Fields.{made, meant, step_on}
use Rattle.host_activations.proofs.Agreement.{asked_taken}
use Rattle.host_activations.proofs.Endings.{rested, same_finds, without_number}
use Rattle.host_activations.proofs.Grains.{grain_at_itself}
use Rattle.host_activations.proofs.Setting.{apart_order, both_none, is_below, without_sorted}
use Rattle.std.proofs.lemmas.Map.{keys-set_value}

module _ (h : Inside) (is : IsWhole h) (host : Host) (means : host_of h ≡ host) where
  none_next : asked_under h.next_number h.outstanding.entries ≡ None
  none_next = free h.next_number h.held.entries h.outstanding.entries is.are_held

  -- an activation comes under the next number, and the finds stay
  finds_same : (now : List (ℕ × OutstandingRequest)) (grain : Grain)
      → now ≡ insert_entry nat_cmp h.outstanding.entries h.next_number (Activation grain) → finds_in now ≡ finds_in h.outstanding.entries
  finds_same now grain now_is = ap finds_in now_is ∙ finds_stay h.outstanding.entries is.are_held.in_order h.next_number grain none_next

  abbrev AreNow : List (Grain × Held) → List (ℕ × OutstandingRequest) → Type 0
  AreNow new now = AreHeld (h.next_number + 1) new now

  -- an activation begins
  pub started_is : (new : List (Grain × Held)) (now : List (ℕ × OutstandingRequest)) (grain : Grain) (previous : Option ActivationId)
      → held_of host grain ≡ None → host.next_number ≤ 2 ^ 60
      → new ≡ h.held.entries ++ (grain, next_held (host_of h) previous) ∷ [] → IsDistinct grain_eq (keys_of new)
      → now ≡ insert_entry nat_cmp h.outstanding.entries h.next_number (Activation grain)
      → IsHost (h.next_number + 1) new now
  started_is new now grain previous none number_left held_is apart now_is = record {
    number = step_on h.next_number is.number (subst (λ (x : Host). x.next_number ≤ 2 ^ 60) (sym means) number_left);
    are_held = subst (AreNow new) (sym now_is)
        (asking_more h.next_number h.held.entries new h.outstanding.entries is.are_held grain
        (ap (λ found. option_and_then (λ (x : Held). number_in x.phase) found) absent)
        (λ q. ap (λ (l : List (Grain × Held)). number_of q l) held_is
        ∙ begun grain (next_held (host_of h) previous) h.held.entries absent q) apart);
  } where
    absent : held_of (host_of h) grain ≡ None
    absent = subst (λ (x : Host). held_of x grain ≡ None) (sym means) none

  pub started_means : (new : List (Grain × Held)) (now : List (ℕ × OutstandingRequest)) (grain : Grain) (previous : Option ActivationId)
      → new ≡ h.held.entries ++ (grain, next_held (host_of h) previous) ∷ []
      → now ≡ insert_entry nat_cmp h.outstanding.entries h.next_number (Activation grain)
      → meant h.silo (h.next_number + 1) (h.held.next_count + 1) new now ≡ with_started host grain previous
  started_means new now grain previous held_is now_is =
      (λ i. made h.silo (h.next_number + 1) (h.held.next_count + 1) (held_is i) (finds_same now grain now_is i))
      ∙ ap (λ (x : Host). with_started x grain previous) means

  -- an activation that is firm or asks begins to close: what it had outstanding is no more
  module _ (new : List (Grain × Held)) (now : List (ℕ × OutstandingRequest)) (grain : Grain) (held : Held)
      (there : held_of (host_of h) grain ≡ Some held)
      (held_is : new ≡ set_value (is_at (grain_cmp grain)) h.held.entries (next_closing (host_of h) held))
      (now_is : now ≡ without_number (number_in held.phase)
      (insert_entry nat_cmp h.outstanding.entries h.next_number (Activation grain))) where
    -- what is left without it
    abbrev left : List (ℕ × OutstandingRequest)
    left = without_number (number_in held.phase) h.outstanding.entries

    number_is : number_of grain h.held.entries ≡ number_in held.phase
    number_is = ap (λ found. option_and_then (λ (x : Held). number_in x.phase) found) there

    -- as if it had gone before the Deregister came
    one_order : now ≡ insert_entry nat_cmp left h.next_number (Activation grain)
    one_order = now_is ∙ by (number_in held.phase) number_is
      where
        by : (o : Option ℕ) → number_of grain h.held.entries ≡ o
            → without_number o (insert_entry nat_cmp h.outstanding.entries h.next_number (Activation grain)) ≡ insert_entry nat_cmp
            (without_number o h.outstanding.entries) h.next_number (Activation grain)
        by None has = refl
        by (Some number) has =
            apart_order h.outstanding.entries is.are_held.in_order number h.next_number (Activation grain)
            (λ same. is_below h.next_number number (is.are_held.below number (Activation grain) (is.are_held.asked.there grain number has))
            same)

    -- the activation as it would be in between: it has nothing outstanding
    abbrev resting : List (Grain × Held)
    resting = set_value (is_at (grain_cmp grain)) h.held.entries (record held { phase = Firm })

    rests : GivesNumber grain None h.held.entries resting
    rests = changed grain (record held { phase = Firm }) h.held.entries (ap is_some there)

    closing_held : IsDistinct grain_eq (keys_of new) → AreHeld (h.next_number + 1) new now
    closing_held apart =
        subst (AreNow new) (sym one_order)
        (asking_more h.next_number resting new left
        (rested h is resting grain (number_in held.phase) number_is rests
        (subst (IsDistinct grain_eq) (sym (keys-set_value (is_at (grain_cmp grain)) h.held.entries (record held { phase = Firm })))
        is.are_held.apart))
        grain (rests grain ∙ ap (λ b. cond b None (number_of grain h.held.entries)) (grain_at_itself grain))
        (λ q. ap (λ (l : List (Grain × Held)). number_of q l) held_is
        ∙ changed grain (next_closing (host_of h) held) h.held.entries (ap is_some there) q
        ∙ over (is_at (grain_cmp grain) q) (number_of q h.held.entries)
        ∙ ap (λ o. cond (is_at (grain_cmp grain) q) (Some h.next_number) o) (sym (rests q))) apart)
      where
        over : (b : Bool) (o : Option ℕ) → cond b (Some h.next_number) o ≡ cond b (Some h.next_number) (cond b None o)
        over true o = refl
        over false o = refl

    pub closing_is : host.next_number ≤ 2 ^ 60 → IsDistinct grain_eq (keys_of new) → IsHost (h.next_number + 1) new now
    closing_is number_left apart = record {
      number = step_on h.next_number is.number (subst (λ (x : Host). x.next_number ≤ 2 ^ 60) (sym means) number_left);
      are_held = closing_held apart;
    }

    finds_left : finds_in now ≡ finds_in h.outstanding.entries
    finds_left =
        ap finds_in one_order
        ∙ finds_stay left left_order h.next_number grain (left_free (number_in held.phase) number_is)
        ∙ same_finds h is grain (number_in held.phase) number_is
      where
        left_order : IsStrictlySortedBy nat_cmp (keys_of left)
        left_order = without_sorted (number_in held.phase) h.outstanding.entries is.are_held.in_order

        left_free : (o : Option ℕ) → number_of grain h.held.entries ≡ o
            → asked_under h.next_number (without_number o h.outstanding.entries) ≡ None
        left_free None has = none_next
        left_free (Some number) has =
            asked_taken h.outstanding.entries number h.next_number is.are_held.in_order
            ∙ both_none (is_at (nat_cmp number) h.next_number) (asked_under h.next_number h.outstanding.entries) none_next

    pub closing_means : meant h.silo (h.next_number + 1) h.held.next_count new now ≡ with_closing host grain held
    closing_means =
        (λ i. made h.silo (h.next_number + 1) h.held.next_count (held_is i) (finds_left i))
        ∙ ap (λ (x : Host). with_closing x grain held) means

  -- a find begins
  pub finding_is : (now : List (ℕ × OutstandingRequest)) (grain : Grain) → host.next_number ≤ 2 ^ 60
      → now ≡ insert_entry nat_cmp h.outstanding.entries h.next_number (Find grain)
      → IsHost (h.next_number + 1) h.held.entries now
  finding_is now grain number_left now_is = record {
    number = step_on h.next_number is.number (subst (λ (x : Host). x.next_number ≤ 2 ^ 60) (sym means) number_left);
    are_held =
        subst (AreNow h.held.entries) (sym now_is) (finding_more h.next_number h.held.entries h.outstanding.entries is.are_held grain);
  }

  pub finding_means : (now : List (ℕ × OutstandingRequest)) (grain : Grain)
      → now ≡ insert_entry nat_cmp h.outstanding.entries h.next_number (Find grain)
      → meant h.silo (h.next_number + 1) h.held.next_count h.held.entries now ≡ with_find host grain
  finding_means now grain now_is =
      (λ i. made h.silo (h.next_number + 1) h.held.next_count h.held.entries
      ((ap finds_in now_is ∙ finds_put h.outstanding.entries is.are_held.in_order h.next_number grain) i))
      ∙ ap (λ (x : Host). with_find x grain) means

-- ---- Nothing began.
distinct_none : IsDistinct grain_eq []
unfolding IsDistinct
distinct_none = tt

pub nothing_is : (first : ℕ) → 1 ≤ first → first ≤ 2 ^ 60 + 1 → (held : ActivationsValue) (out : List (ℕ × OutstandingRequest))
    → held.entries ≡ [] → out ≡ [] → IsHost first held.entries out
nothing_is first above within held out none nothing =
    subst (λ l. IsHost first held.entries l) (sym nothing)
    (subst (λ l. IsHost first l []) (sym none)
    (record {
      number = record { above = above; within = within };
      are_held = record {
        apart = distinct_none;
        in_order = sorted-nil nat_cmp;
        asked = record { there = λ grain number is. no_number number is; only = λ grain number is. no_asked grain number is };
        below = λ number asked is. cc;
      };
    }))
  where
    no_number : {P : Type 0} (number : ℕ) → None ≡ Some number → P
    no_number number is = cc

    no_asked : {P : Type 0} (grain : Grain) (number : ℕ) → None ≡ Some (Activation grain) → P
    no_asked grain number is = cc

module _ (h : Inside) (is : IsWhole h) where
  pub not_started_is : (held : ActivationsValue) (now : List (ℕ × OutstandingRequest)) → held ≡ h.held → now ≡ h.outstanding.entries
      → IsHost h.next_number held.entries now
  not_started_is held now same back =
      subst (λ l. IsHost h.next_number held.entries l) (sym back)
      (subst (λ (v : ActivationsValue). IsHost h.next_number v.entries h.outstanding.entries) (sym same) is)

  pub not_started_means : (host : Host) → host_of h ≡ host → (held : ActivationsValue) (now : List (ℕ × OutstandingRequest)) → held ≡ h.held
      → now ≡ h.outstanding.entries
      → meant h.silo h.next_number held.next_count held.entries now ≡ host
  not_started_means host means held now same back = (λ i. meant h.silo h.next_number (same i).next_count (same i).entries (back i)) ∙ means

-- Where something ends, the new fields keep what every host keeps, and mean the rule's new host.
use Rattle.std.proofs.Common.{◌≡◌, refl, sym, ap, subst, ◌∙◌, ℕ, List, Option, Some, None, option_and_then, is_some}
use Rattle.std.specs.Prelude.{MatchOption}
use Rattle.std.specs.List.{IsDistinct}
use Rattle.std.specs.Map.{keys_of, set_value, remove_entry}
use Rattle.std.specs.BTreeMap.{is_at}
use Rattle.std.specs.Ordering.{nat_cmp}
use Rattle.silo_address.specs.Grain.{Grain, grain_cmp, grain_eq}
use Rattle.directory_rules.specs.declared.Held.{Held}
use Rattle.directory_rules.specs.declared.Phase.TheVariants.{Firm}
use Rattle.directory_rules.specs.State.{Host}
use Rattle.directory_rules.specs.Host.{held_of, asking_under, is_asking_under, confirmed, without_held, without_find}
use Rattle.host_activations.specs.declared.asked.OutstandingRequest.{OutstandingRequest}
use Rattle.host_activations.specs.declared.asked.OutstandingRequest.TheVariants.{Activation, Find}
use Rattle.host_activations.specs.declared.host.Host.TheInside.{Inside}
use Rattle.host_activations.specs.Numbers.{number_in, number_of}
use Rattle.host_activations.specs.Asked.{asked_under, find_in, finds_in}
use Rattle.host_activations.specs.IsHost.{AreHeld, IsHost}
use Rattle.host_activations.specs.HostModel.{IsWhole, host_of}
use Rattle.host_activations.proofs.Numbers.{GivesNumber, changed, gone}
use Rattle.host_activations.proofs.Found.{each_found, found_by_search}
use Rattle.host_activations.proofs.HostKept.{asking_less, resting, finding_less}
use Rattle.host_activations.proofs.Entries.{remove_absent}
use Rattle.host_activations.proofs.Finds.{find_under, finds_taken, finds_kept}
use Rattle.host_activations.proofs.Fields.{made, meant, asking_has}

-- without what is outstanding under the number, if there is one
abbrev pub without_number : Option ℕ → List (ℕ × OutstandingRequest) → List (ℕ × OutstandingRequest)
without_number None outstanding = outstanding
without_number (Some number) outstanding = remove_entry (is_at (nat_cmp number)) outstanding

pub freed : (number : Option ℕ) (old new : List (ℕ × OutstandingRequest))
    → MatchOption number (new ≡ old) (λ taken. new ≡ remove_entry (is_at (nat_cmp taken)) old) → new ≡ without_number number old
freed None old new is = is
freed (Some number) old new is = is

no_find_in : (o : Option OutstandingRequest) (grain : Grain) → o ≡ Some (Activation grain) → option_and_then find_in o ≡ None
no_find_in o grain is = ap (λ found. option_and_then find_in found) is

module _ (h : Inside) (is : IsWhole h) where
  -- without the number of the grain's request, if it has one
  abbrev pub left : Grain → List (ℕ × OutstandingRequest)
  left grain = without_number (number_of grain h.held.entries) h.outstanding.entries

  -- the activation of a grain has nothing outstanding any more, or is no more
  pub rested : (new : List (Grain × Held)) (grain : Grain) (number : Option ℕ) → number_of grain h.held.entries ≡ number
      → GivesNumber grain None h.held.entries new
      → IsDistinct grain_eq (keys_of new) → AreHeld h.next_number new (without_number number h.outstanding.entries)
  rested new grain None had gives apart = resting h.next_number h.held.entries new h.outstanding.entries is.are_held grain had gives apart
  rested new grain (Some number) had gives apart =
      asking_less h.next_number h.held.entries new h.outstanding.entries is.are_held grain number had gives apart

  pub same_finds : (grain : Grain) (number : Option ℕ) → number_of grain h.held.entries ≡ number
      → finds_in (without_number number h.outstanding.entries) ≡ finds_in h.outstanding.entries
  same_finds grain None had = refl
  same_finds grain (Some number) had =
      finds_kept h.outstanding.entries is.are_held.in_order number (no_find_in _ grain (is.are_held.asked.there grain number had))

  -- what every host keeps, where the activation of a grain has nothing outstanding any more, or is no more
  pub rested_is : (new : List (Grain × Held)) (now : List (ℕ × OutstandingRequest)) (grain : Grain)
      → GivesNumber grain None h.held.entries new → IsDistinct grain_eq (keys_of new)
      → now ≡ left grain → IsHost h.next_number new now
  rested_is new now grain gives apart now_is = record {
    number = is.number;
    are_held = subst (λ o. AreHeld h.next_number new o) (sym now_is) (rested new grain (number_of grain h.held.entries) refl gives apart);
  }

  rested_means : (new old : List (Grain × Held)) (now : List (ℕ × OutstandingRequest)) (grain : Grain) → new ≡ old → now ≡ left grain
      → meant h.silo h.next_number h.held.next_count new now ≡ made h.silo h.next_number h.held.next_count old
      (finds_in h.outstanding.entries)
  rested_means new old now grain held_is now_is =
      λ i. made h.silo h.next_number h.held.next_count (held_is i)
      ((ap finds_in now_is ∙ same_finds grain (number_of grain h.held.entries) refl) i)

  -- an activation ends
  pub ended_is : (new : List (Grain × Held)) (now : List (ℕ × OutstandingRequest)) (grain : Grain)
      → new ≡ remove_entry (is_at (grain_cmp grain)) h.held.entries → IsDistinct grain_eq (keys_of new)
      → now ≡ left grain → IsHost h.next_number new now
  ended_is new now grain held_is apart now_is =
      rested_is new now grain (λ q. ap (λ (l : List (Grain × Held)). number_of q l) held_is ∙ gone grain h.held.entries is.are_held.apart q)
      apart now_is

  pub ended_means : (host : Host) → host_of h ≡ host → (new : List (Grain × Held)) (now : List (ℕ × OutstandingRequest)) (grain : Grain)
      → new ≡ remove_entry (is_at (grain_cmp grain)) h.held.entries
      → now ≡ left grain → meant h.silo h.next_number h.held.next_count new now ≡ without_held host grain
  ended_means host means new now grain held_is now_is =
      rested_means new _ now grain held_is now_is ∙ ap (λ (x : Host). without_held x grain) means

  -- an asking activation is firm
  asking_there : (number : ℕ) (grain : Grain) (held : Held) → asking_under (host_of h) number ≡ Some (grain, held)
      → (held_of (host_of h) grain ≡ Some held) × (number_of grain h.held.entries ≡ Some number)
  asking_there number grain held found =
      let both = found_by_search (λ e. is_asking_under number e.1.phase) h.held.entries h.held.entries (each_found h.held.entries is.are_held.apart) (grain, held) found in
      (both.0, ap (λ o. option_and_then (λ (x : Held). number_in x.phase) o) both.0 ∙ asking_has number held.phase both.1)

  pub there : (host : Host) → host_of h ≡ host → (number : ℕ) (grain : Grain) (held : Held) → asking_under host number ≡ Some (grain, held)
      → (held_of (host_of h) grain ≡ Some held) × (number_of grain h.held.entries ≡ Some number)
  there host means number grain held found =
      asking_there number grain held (subst (λ (x : Host). asking_under x number ≡ Some (grain, held)) (sym means) found)

  module _ (host : Host) (means : host_of h ≡ host) (number : ℕ) (grain : Grain) (held : Held)
      (found : asking_under host number ≡ Some (grain, held))
      (new : List (Grain × Held)) (now : List (ℕ × OutstandingRequest))
      (held_is : new ≡ set_value (is_at (grain_cmp grain)) h.held.entries (record held { phase = Firm; previous = None }))
      (now_is : now ≡ remove_entry (is_at (nat_cmp number)) h.outstanding.entries) where
    was : (held_of (host_of h) grain ≡ Some held) × (number_of grain h.held.entries ≡ Some number)
    was = there host means number grain held found

    taken : now ≡ left grain
    taken = now_is ∙ ap (λ o. without_number o h.outstanding.entries) (sym was.1)

    pub confirmed_is : IsDistinct grain_eq (keys_of new) → IsHost h.next_number new now
    confirmed_is apart =
        rested_is new now grain
        (λ q. ap (λ (l : List (Grain × Held)). number_of q l) held_is
        ∙ changed grain (record held { phase = Firm; previous = None }) h.held.entries (ap is_some was.0) q) apart taken

    pub confirmed_means : meant h.silo h.next_number h.held.next_count new now ≡ confirmed host grain held
    confirmed_means = rested_means new _ now grain held_is taken ∙ ap (λ (x : Host). confirmed x grain held) means

  -- a find ends
  module _ (now : List (ℕ × OutstandingRequest)) (number : ℕ) (grain : Grain)
      (there : asked_under number h.outstanding.entries ≡ Some (Find grain))
      (now_is : now ≡ remove_entry (is_at (nat_cmp number)) h.outstanding.entries) where
    pub found_is : IsHost h.next_number h.held.entries now
    found_is = record {
      number = is.number;
      are_held =
          subst (λ o. AreHeld h.next_number h.held.entries o) (sym now_is)
          (finding_less h.next_number h.held.entries h.outstanding.entries is.are_held grain number there);
    }

    pub found_means : (host : Host) → host_of h ≡ host
        → meant h.silo h.next_number h.held.next_count h.held.entries now ≡ without_find host number
    found_means host means =
        (λ i. made h.silo h.next_number h.held.next_count h.held.entries
        ((ap finds_in now_is ∙ finds_taken h.outstanding.entries is.are_held.in_order number) i))
        ∙ ap (λ (x : Host). without_find x number) means

  -- no find has the number
  pub not_found_means : (host : Host) → host_of h ≡ host → (number : ℕ)
      → option_and_then find_in (asked_under number h.outstanding.entries) ≡ None → host ≡ without_find host number
  not_found_means host means number none =
      subst (λ (x : Host). x ≡ without_find x number) means
      (λ i. made h.silo h.next_number h.held.next_count h.held.entries
      (sym (remove_absent (is_at (nat_cmp number)) (finds_in h.outstanding.entries)
      (find_under h.outstanding.entries is.are_held.in_order number ∙ none)) i))

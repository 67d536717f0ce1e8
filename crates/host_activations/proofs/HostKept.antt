-- What the activations and what is outstanding keep, from change to change.
use Rattle.std.proofs.Common.{◌≡◌, refl, sym, ◌∙◌, ℕ, ◌+◌, ◌<◌, List, cond, Option, Some, None, arith}
use Rattle.std.specs.List.{IsDistinct}
use Rattle.std.specs.List.Sorted.{IsStrictlySortedBy}
use Rattle.std.specs.Map.{keys_of, remove_entry}
use Rattle.std.specs.BTreeMap.{is_at, insert_entry}
use Rattle.std.specs.Ordering.{nat_cmp}
use Rattle.std.proofs.lemmas.Cmp.{nat_cmp_total}
use Rattle.silo_address.specs.Grain.{Grain, grain_eq}
use Rattle.texts.proofs.Entries.{sorted-insert_entry, sorted-remove_entry}
use Rattle.directory_rules.specs.declared.Held.{Held}
use Rattle.host_activations.specs.declared.asked.OutstandingRequest.{OutstandingRequest}
use Rattle.host_activations.specs.declared.asked.OutstandingRequest.TheVariants.{Activation, Find}
use Rattle.host_activations.specs.Numbers.{number_of}
use Rattle.host_activations.specs.Asked.{asked_under}
use Rattle.host_activations.specs.IsHost.{AreHeld}
use Rattle.host_activations.proofs.Numbers.{GivesNumber, on_number}
use Rattle.host_activations.proofs.Agreement.{AreBelow, asked_put, asked_taken, nothing, asks, finds, rests, stays, found}

below_more : (next : ℕ) (out : List (ℕ × OutstandingRequest)) (asked : OutstandingRequest) → AreBelow next out
    → AreBelow (next + 1) (insert_entry nat_cmp out next asked)
below_more next out asked below n it is =
    on_number (λ b. cond b (Some asked) (asked_under n out) ≡ Some it → n < next + 1) n next
    (λ same e. omega (same, arith)) (λ other e. let h = below n it e in omega (h, arith))
    (sym (asked_put out next asked n) ∙ is)

below_less : (next : ℕ) (out : List (ℕ × OutstandingRequest)) (number : ℕ) → IsStrictlySortedBy nat_cmp (keys_of out) → AreBelow next out
    → AreBelow next (remove_entry (is_at (nat_cmp number)) out)
below_less next out number sorted below n it is =
    on_number (λ b. cond b None (asked_under n out) ≡ Some it → n < next) number n
    (λ same e. nothing it e) (λ other e. below n it e)
    (sym (asked_taken out number n sorted) ∙ is)

-- no number from the next one on is taken
pub free : (next : ℕ) (held : List (Grain × Held)) (out : List (ℕ × OutstandingRequest)) → AreHeld next held out
    → asked_under next out ≡ None
free next held out are = by (asked_under next out) (λ it is. are.below next it is)
  where
    by : (o : Option OutstandingRequest) → ((it : OutstandingRequest) → o ≡ Some it → next < next) → o ≡ None
    by None below = refl
    by (Some it) below = let h : next < next = below it refl in absurd (omega (h, arith))

module _ (next : ℕ) (held new : List (Grain × Held)) (out : List (ℕ × OutstandingRequest)) (are : AreHeld next held out) where
  pub asking_more : (grain : Grain) → number_of grain held ≡ None → GivesNumber grain (Some next) held new
      → IsDistinct grain_eq (keys_of new)
      → AreHeld (next + 1) new (insert_entry nat_cmp out next (Activation grain))
  asking_more grain none gives apart = record {
    apart = apart;
    in_order = sorted-insert_entry nat_cmp_total next (Activation grain) out are.in_order;
    asked = asks held new out next grain are.asked are.below none gives;
    below = below_more next out (Activation grain) are.below;
  }

  pub asking_less : (grain : Grain) (number : ℕ) → number_of grain held ≡ Some number → GivesNumber grain None held new
      → IsDistinct grain_eq (keys_of new)
      → AreHeld next new (remove_entry (is_at (nat_cmp number)) out)
  asking_less grain number had gives apart = record {
    apart = apart;
    in_order = sorted-remove_entry (is_at (nat_cmp number)) nat_cmp out are.in_order;
    asked = rests held new out number grain are.asked are.in_order had gives;
    below = below_less next out number are.in_order are.below;
  }

  pub resting : (grain : Grain) → number_of grain held ≡ None → GivesNumber grain None held new → IsDistinct grain_eq (keys_of new)
      → AreHeld next new out
  resting grain none gives apart = record {
    apart = apart;
    in_order = are.in_order;
    asked = stays held new out grain are.asked none gives;
    below = are.below;
  }

module _ (next : ℕ) (held : List (Grain × Held)) (out : List (ℕ × OutstandingRequest)) (are : AreHeld next held out) where
  pub finding_more : (grain : Grain) → AreHeld (next + 1) held (insert_entry nat_cmp out next (Find grain))
  finding_more grain = record {
    apart = are.apart;
    in_order = sorted-insert_entry nat_cmp_total next (Find grain) out are.in_order;
    asked = finds held out next grain are.asked are.below;
    below = below_more next out (Find grain) are.below;
  }

  pub finding_less : (grain : Grain) (number : ℕ) → asked_under number out ≡ Some (Find grain)
      → AreHeld next held (remove_entry (is_at (nat_cmp number)) out)
  finding_less grain number find = record {
    apart = are.apart;
    in_order = sorted-remove_entry (is_at (nat_cmp number)) nat_cmp out are.in_order;
    asked = found held out number grain are.asked are.in_order find;
    below = below_less next out number are.in_order are.below;
  }

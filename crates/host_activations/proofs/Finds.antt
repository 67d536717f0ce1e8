-- The finds among what is outstanding.
use Rattle.std.proofs.Common.{◌≡◌, refl, sym, ap, ◌∙◌, ℕ, ◌+◌, List, length, cond, Option, Some, None, option_and_then}
use Rattle.std.specs.Option.{option_map}
use Rattle.std.specs.List.Sorted.{IsStrictlySortedBy}
use Rattle.std.specs.Map.{keys_of, lookup, remove_entry}
use Rattle.std.specs.BTreeMap.{is_at, insert_entry}
use Rattle.std.specs.Ordering.{nat_cmp}
use Rattle.std.proofs.lemmas.Cmp.{nat_cmp_total, eq_by_cmp_equiv}
use Rattle.std.proofs.lemmas.Map.{lookup-remove_entry}
use Rattle.std.proofs.lemmas.Map.Keys.{IsDistinct-from_sorted}
use Rattle.std.proofs.lemmas.Map.Lookups.{exact_unsigned}
use Rattle.silo_address.specs.Grain.{Grain}
use Rattle.texts.proofs.Entries.{lookup-insert_entry, sorted-insert_entry, lookup-picked, sorted-picked, length-insert_entry, sorted-remove_entry}
use Rattle.membership_view.proofs.Found.{same_entries}
use Rattle.host_activations.specs.declared.asked.OutstandingRequest.{OutstandingRequest}
use Rattle.host_activations.specs.declared.asked.OutstandingRequest.TheVariants.{Activation, Find}
use Rattle.host_activations.specs.Asked.{asked_under, find_in, finds_in}
use Rattle.host_activations.proofs.Numbers.{on_number, through}
use Rattle.host_activations.proofs.Entries.{length-remove_entry, remove_absent}
use Rattle.host_activations.proofs.Agreement.{asked_put, asked_taken}

module _ (out : List (ℕ × OutstandingRequest)) (sorted : IsStrictlySortedBy nat_cmp (keys_of out)) where
  -- the find under a number
  pub find_under : (n : ℕ) → lookup (is_at (nat_cmp n)) (finds_in out) ≡ option_and_then find_in (asked_under n out)
  find_under n = lookup-picked nat_cmp_total find_in n out sorted

  pub finds_sorted : IsStrictlySortedBy nat_cmp (keys_of (finds_in out))
  finds_sorted = sorted-picked nat_cmp_total find_in out sorted

  put_sorted : (next : ℕ) (asked : OutstandingRequest) → IsStrictlySortedBy nat_cmp (keys_of (insert_entry nat_cmp out next asked))
  put_sorted next asked = sorted-insert_entry nat_cmp_total next asked out sorted

  found_put : (next : ℕ) (asked : OutstandingRequest) (n : ℕ) → lookup (is_at (nat_cmp n)) (finds_in (insert_entry nat_cmp out next asked))
      ≡ cond (is_at (nat_cmp n) next) (find_in asked) (lookup (is_at (nat_cmp n)) (finds_in out))
  found_put next asked n =
      lookup-picked nat_cmp_total find_in n (insert_entry nat_cmp out next asked) (put_sorted next asked)
      ∙ ap (λ found. option_and_then find_in found) (asked_put out next asked n)
      ∙ through find_in (is_at (nat_cmp n) next) (Some asked) (asked_under n out)
      ∙ ap (λ found. cond (is_at (nat_cmp n) next) (find_in asked) found) (sym (find_under n))

  -- a find comes under a number
  pub finds_put : (next : ℕ) (grain : Grain) → finds_in (insert_entry nat_cmp out next (Find grain)) ≡ insert_entry nat_cmp (finds_in out)
      next grain
  finds_put next grain =
      same_entries nat_cmp_total exact_unsigned (finds_in (insert_entry nat_cmp out next (Find grain)))
      (insert_entry nat_cmp (finds_in out) next grain)
      (sorted-picked nat_cmp_total find_in (insert_entry nat_cmp out next (Find grain)) (put_sorted next (Find grain)))
      (sorted-insert_entry nat_cmp_total next grain (finds_in out) finds_sorted)
      (λ n. found_put next (Find grain) n ∙ sym (lookup-insert_entry nat_cmp_total next grain n (finds_in out)))

  -- the request of an activation comes under a number that was free
  pub finds_stay : (next : ℕ) (grain : Grain) → asked_under next out ≡ None
      → finds_in (insert_entry nat_cmp out next (Activation grain)) ≡ finds_in out
  finds_stay next grain none =
      same_entries nat_cmp_total exact_unsigned (finds_in (insert_entry nat_cmp out next (Activation grain))) (finds_in out)
      (sorted-picked nat_cmp_total find_in (insert_entry nat_cmp out next (Activation grain)) (put_sorted next (Activation grain)))
      finds_sorted
      (λ n. found_put next (Activation grain) n
      ∙ on_number (λ b. cond b None (lookup (is_at (nat_cmp n)) (finds_in out)) ≡ lookup (is_at (nat_cmp n)) (finds_in out)) n next
      (λ same. sym (find_under n ∙ ap (λ (k : ℕ). option_and_then find_in (asked_under k out)) same
      ∙ ap (λ found. option_and_then find_in found) none)) (λ other. refl))

  -- a number is taken out
  pub finds_taken : (number : ℕ) → finds_in (remove_entry (is_at (nat_cmp number)) out) ≡ remove_entry (is_at (nat_cmp number))
      (finds_in out)
  finds_taken number =
      same_entries nat_cmp_total exact_unsigned (finds_in (remove_entry (is_at (nat_cmp number)) out))
      (remove_entry (is_at (nat_cmp number)) (finds_in out))
      (sorted-picked nat_cmp_total find_in (remove_entry (is_at (nat_cmp number)) out)
      (sorted-remove_entry (is_at (nat_cmp number)) nat_cmp out sorted))
      (sorted-remove_entry (is_at (nat_cmp number)) nat_cmp (finds_in out) finds_sorted)
      (λ n. lookup-picked nat_cmp_total find_in n (remove_entry (is_at (nat_cmp number)) out)
      (sorted-remove_entry (is_at (nat_cmp number)) nat_cmp out sorted)
      ∙ ap (λ found. option_and_then find_in found) (asked_taken out number n sorted)
      ∙ through find_in (is_at (nat_cmp number) n) None (asked_under n out)
      ∙ ap (λ found. cond (is_at (nat_cmp number) n) None found) (sym (find_under n))
      ∙ sym (lookup-remove_entry (eq_by_cmp_equiv nat_cmp_total) (is_at (nat_cmp number)) ((eq_by_cmp_equiv nat_cmp_total).congr number) n
      (finds_in out)
      (IsDistinct-from_sorted nat_cmp (keys_of (finds_in out)) finds_sorted)))

  -- which was no find's
  pub finds_kept : (number : ℕ) → option_and_then find_in (asked_under number out) ≡ None
      → finds_in (remove_entry (is_at (nat_cmp number)) out) ≡ finds_in out
  finds_kept number none = finds_taken number ∙ remove_absent (is_at (nat_cmp number)) (finds_in out) (find_under number ∙ none)

  -- a find more, and a find less
  pub find_more : (next : ℕ) (grain : Grain) → asked_under next out ≡ None
      → length (finds_in (insert_entry nat_cmp out next (Find grain))) ≡ length (finds_in out) + 1
  find_more next grain none =
      ap (λ (l : List (ℕ × Grain)). length l) (finds_put next grain)
      ∙ length-insert_entry nat_cmp_total next grain (finds_in out) (find_under next ∙ ap (λ found. option_and_then find_in found) none)

  pub find_less : (number : ℕ) (grain : Grain) → asked_under number out ≡ Some (Find grain)
      → length (finds_in (remove_entry (is_at (nat_cmp number)) out)) + 1 ≡ length (finds_in out)
  find_less number grain find =
      ap (λ (l : List (ℕ × Grain)). length l + 1) (finds_taken number)
      ∙ length-remove_entry (is_at (nat_cmp number)) (finds_in out) grain
      (find_under number ∙ ap (λ found. option_and_then find_in found) find)

pub is_find : (o : Option OutstandingRequest) (grain : Grain) → option_and_then find_in o ≡ Some grain → o ≡ Some (Find grain)
is_find None grain is = cc
is_find (Some (Activation g)) grain is = cc
is_find (Some (Find g)) grain is = ap (λ o. option_map (λ (x : Grain). Find x) o) is

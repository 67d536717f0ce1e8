-- An activation that is there is set, and a number is given back.
use Rattle.std.proofs.Common.{◌≡◌, refl, sym, ap, subst, ◌∙◌, ℕ, List, cond, Bool, true, false, Option, Some, None, ◌<◌, arith}
use Rattle.std.specs.Prelude.{MatchOption}
use Rattle.std.specs.List.Sorted.{IsStrictlySortedBy}
use Rattle.std.specs.Map.{lookup, keys_of, remove_entry, set_value}
use Rattle.std.specs.BTreeMap.{is_at, insert_entry}
use Rattle.std.specs.Ordering.{nat_cmp}
use Rattle.std.proofs.lemmas.Cmp.{nat_cmp_total}
use Rattle.std.proofs.lemmas.Map.Lookups.{exact_unsigned}
use Rattle.texts.proofs.Orderings.{at_itself}
use Rattle.silo_address.specs.Grain.{Grain, grain_cmp}
use Rattle.silo_address.specs.declared.ActivationId.{ActivationId}
use Rattle.texts.proofs.Entries.{sorted-insert_entry, sorted-remove_entry}
use Rattle.membership_view.proofs.Found.{same_entries}
use Rattle.directory_rules.specs.declared.Held.{Held}
use Rattle.directory_rules.specs.declared.Phase.{Phase}
use Rattle.host_activations.specs.Activations.{ActivationsValue}
use Rattle.host_activations.specs.declared.asked.OutstandingRequest.{OutstandingRequest}
use Rattle.host_activations.specs.Asked.{asked_under}
use Rattle.host_activations.proofs.Agreement.{asked_put, asked_taken}
use Rattle.host_activations.proofs.Numbers.{on_number}
use Rattle.host_activations.proofs.Endings.{without_number}

abbrev pub set_to : Grain → ActivationsValue → Held → Phase → Option ActivationId → ActivationsValue
set_to g old held phase previous =
    record old { entries = set_value (is_at (grain_cmp g)) old.entries (record held { phase = phase; previous = previous }) }

pub set_there : (g : Grain) (old new : ActivationsValue) (phase : Phase) (previous : Option ActivationId) (held : Held)
    → lookup (is_at (grain_cmp g)) old.entries ≡ Some held
    → MatchOption (lookup (is_at (grain_cmp g)) old.entries) (new ≡ old) (λ h. new ≡ set_to g old h phase previous)
    → new ≡ set_to g old held phase previous
set_there g old new phase previous held there set =
    subst (λ o. MatchOption o (new ≡ old) (λ h. new ≡ set_to g old h phase previous)) there set

-- what is put in under a new number and taken out again leaves what was there
pub put_back : (n : ℕ) (asked : OutstandingRequest) (out : List (ℕ × OutstandingRequest)) → IsStrictlySortedBy nat_cmp (keys_of out)
    → asked_under n out ≡ None
    → remove_entry (is_at (nat_cmp n)) (insert_entry nat_cmp out n asked) ≡ out
put_back n asked out sorted none =
    same_entries nat_cmp_total exact_unsigned (remove_entry (is_at (nat_cmp n)) more) out
    (sorted-remove_entry (is_at (nat_cmp n)) nat_cmp more sorted_more) sorted
    (λ q. asked_taken more n q sorted_more
    ∙ on_number (λ b. cond b None (asked_under q more) ≡ asked_under q out) n q
    (λ same. sym (ap (λ (k : ℕ). asked_under k out) (sym same) ∙ none))
    (λ other. asked_put out n asked q
    ∙ on_number (λ b. cond b (Some asked) (asked_under q out) ≡ asked_under q out) q n
    (λ same. let h : true ≡ false = sym (at_itself n) ∙ ap (λ (k : ℕ). is_at (nat_cmp n) k) (sym same) ∙ other in cc) (λ also. refl)))
  where
    more : List (ℕ × OutstandingRequest)
    more = insert_entry nat_cmp out n asked

    sorted_more : IsStrictlySortedBy nat_cmp (keys_of more)
    sorted_more = sorted-insert_entry nat_cmp_total n asked out sorted

-- what is put in and what is taken out under different numbers may come in either order
pub apart_order : (out : List (ℕ × OutstandingRequest)) → IsStrictlySortedBy nat_cmp (keys_of out)
    → (gone came : ℕ) (asked : OutstandingRequest) → (came ≡ gone → ⊥)
    → remove_entry (is_at (nat_cmp gone)) (insert_entry nat_cmp out came asked) ≡ insert_entry nat_cmp
    (remove_entry (is_at (nat_cmp gone)) out) came asked
apart_order out sorted gone came asked apart =
    same_entries nat_cmp_total exact_unsigned (remove_entry (is_at (nat_cmp gone)) more) (insert_entry nat_cmp less came asked)
    (sorted-remove_entry (is_at (nat_cmp gone)) nat_cmp more sorted_more) (sorted-insert_entry nat_cmp_total came asked less sorted_less)
    (λ q. asked_taken more gone q sorted_more
    ∙ ap (λ o. cond (is_at (nat_cmp gone) q) None o) (asked_put out came asked q)
    ∙ on_number (λ b. cond b None (cond (is_at (nat_cmp q) came) (Some asked) (asked_under q out)) ≡ cond (is_at (nat_cmp q) came)
    (Some asked) (cond b None (asked_under q out))) gone q
    (λ same. on_number (λ b. None ≡ cond b (Some asked) None) q came (λ also. absurd (apart (sym (same ∙ also)))) (λ other. refl))
    (λ other. refl)
    ∙ ap (λ o. cond (is_at (nat_cmp q) came) (Some asked) o) (sym (asked_taken out gone q sorted))
    ∙ sym (asked_put less came asked q))
  where
    more : List (ℕ × OutstandingRequest)
    more = insert_entry nat_cmp out came asked

    sorted_more : IsStrictlySortedBy nat_cmp (keys_of more)
    sorted_more = sorted-insert_entry nat_cmp_total came asked out sorted

    less : List (ℕ × OutstandingRequest)
    less = remove_entry (is_at (nat_cmp gone)) out

    sorted_less : IsStrictlySortedBy nat_cmp (keys_of less)
    sorted_less = sorted-remove_entry (is_at (nat_cmp gone)) nat_cmp out sorted

pub is_below : (next number : ℕ) → number < next → next ≡ number → ⊥
is_below next number below same = absurd (omega (below, same, arith))

pub both_none : {A : Type 0} (b : Bool) (o : Option A) → o ≡ None → cond b None o ≡ None
both_none true o none = refl
both_none false o none = none

-- without a number, if there is one, they stand in order
pub without_sorted : (number : Option ℕ) (out : List (ℕ × OutstandingRequest)) → IsStrictlySortedBy nat_cmp (keys_of out)
    → IsStrictlySortedBy nat_cmp (keys_of (without_number number out))
without_sorted None out sorted = sorted
without_sorted (Some number) out sorted = sorted-remove_entry (is_at (nat_cmp number)) nat_cmp out sorted

-- A report taken among the recoveries of a node.
use Rattle.std.proofs.Common.{◌≡◌, ◌↔◌, refl, sym, ap, ◌∙◌, ℕ, List, [], ◌∷◌}
use Rattle.std.specs.Prelude.{Bool, true, false, cond, Option, Some, None, Result, Ok, Err, IsSomeAnd, is_ok}
use Rattle.std.specs.Ordering.{nat_cmp}
use Rattle.std.specs.Map.{set_value}
use Rattle.std.specs.BTreeMap.{is_at}
use Rattle.std.proofs.lemmas.Bool.{false_from_ne_true}
use Rattle.silo_address.specs.Silo.{Silo}
use Rattle.directory_rules.specs.State.{Recovery, Report}
use Rattle.directory_rules.proofs.Cases.{on_bool}
use Rattle.directory_rules.specs.Recovery.{Recovered, Has_more, Awaits_more, Has_union, Rejects, awaits_still, recovered, with_last, with_more, with_report}
use Rattle.range_recovery.specs.declared.RecoveryError.{RecoveryError}
use Rattle.range_recovery.specs.declared.RecoveryProgress.{RecoveryProgress}
use Rattle.range_recovery.specs.declared.RecoveryProgress.TheVariants.{Complete}
use Rattle.range_recovery.specs.Numbers.{recovery_error_number}
use Rattle.range_recovery.specs.Progress.{Refuses, progress_of}

-- the recovery of the report's range has the report, and nothing else changed
abbrev pub with_taken : Recovery → Report → List (ℕ × Recovery) → List (ℕ × Recovery)
with_taken recovery report recoveries = set_value (is_at (nat_cmp report.range.start)) recoveries (with_report recovery report)

-- a report changes no recovery's range
pub same_range : (recovery : Recovery) (report : Report) → (with_report recovery report).range ≡ recovery.range
same_range recovery report =
    on_bool (λ b. (cond b (with_last recovery report) (with_more recovery report)).range ≡ recovery.range) report.last (λ t. refl)
    (λ f. refl)

-- what came of a report: it is taken, and with the last one the recovery is complete; a report that is refused changes nothing
abbrev pub IsTaken : Recovered → Recovery → Report → (old new : List (ℕ × Recovery)) → (complete : Bool) → Type 0
IsTaken (Has_more more) recovery report old new complete =
    (complete ≡ false) × ((more ≡ with_report recovery report) × (new ≡ with_taken recovery report old))
IsTaken (Awaits_more more) recovery report old new complete =
    (complete ≡ false) × ((more ≡ with_report recovery report) × (new ≡ with_taken recovery report old))
IsTaken (Has_union table) recovery report old new complete =
    (complete ≡ true) × ((table ≡ (with_report recovery report).gathered) × (new ≡ with_taken recovery report old))
IsTaken (Rejects number) recovery report old new complete = (complete ≡ false) × (new ≡ old)

-- what the recovery with a report comes to
abbrev IsOf : Recovery → Recovered → Type 0
IsOf recovery (Has_more more) = more ≡ recovery
IsOf recovery (Awaits_more more) = more ≡ recovery
IsOf recovery (Has_union table) = table ≡ recovery.gathered
IsOf recovery (Rejects number) = Unit {0}

still : (awaiting : List Silo) (recovery : Recovery) → IsOf recovery (awaits_still awaiting recovery)
still [] recovery = refl
still (silo ∷ silos) recovery = refl

not_refused : (a b c d : Bool) (recovery : Recovery) (outcome : Recovered) → IsOf recovery outcome
    → IsOf recovery (cond a (Rejects 751) (cond b (Rejects 752) (cond c (Rejects 753) (cond d (Rejects 754) outcome))))
not_refused true b c d recovery outcome is = tt
not_refused false true c d recovery outcome is = tt
not_refused false false true d recovery outcome is = tt
not_refused false false false true recovery outcome is = tt
not_refused false false false false recovery outcome is = is

by_last : (last : Bool) (recovery : Recovery) (report : Report) → IsOf (cond last (with_last recovery report) (with_more recovery report))
    (cond last (awaits_still (with_last recovery report).awaiting (with_last recovery report)) (Has_more (with_more recovery report)))
by_last true recovery report = still (with_last recovery report).awaiting (with_last recovery report)
by_last false recovery report = refl

recovered_is : (recovery : Recovery) (report : Report) → IsOf (with_report recovery report) (recovered recovery report)
recovered_is recovery report =
    not_refused _ _ _ _ (with_report recovery report)
    (cond report.last (awaits_still (with_last recovery report).awaiting (with_last recovery report)) (Has_more (with_more recovery report)))
    (by_last report.last recovery report)

-- whether it is complete now, and the recoveries after it, tell all that came of it
taken_by : (outcome : Recovered) (recovery : Recovery) (report : Report) (old new : List (ℕ × Recovery)) (complete : Bool)
    → IsOf (with_report recovery report) outcome
    → (complete ≡ true) ↔ (progress_of outcome ≡ Ok Complete)
    → new ≡ cond (is_ok (progress_of outcome)) (with_taken recovery report old) old → IsTaken outcome recovery report old new complete
taken_by (Has_more more) recovery report old new complete is whole new_is =
    (false_from_ne_true complete (λ t. cc (whole.0 t)), (is, new_is))
taken_by (Awaits_more more) recovery report old new complete is whole new_is =
    (false_from_ne_true complete (λ t. cc (whole.0 t)), (is, new_is))
taken_by (Has_union table) recovery report old new complete is whole new_is = (whole.1 refl, (is, new_is))
taken_by (Rejects number) recovery report old new complete is whole new_is = (false_from_ne_true complete (λ t. cc (whole.0 t)), new_is)

pub taken_is : (recovery : Recovery) (report : Report) (old new : List (ℕ × Recovery)) (complete : Bool)
    → (complete ≡ true) ↔ (progress_of (recovered recovery report) ≡ Ok Complete)
    → new ≡ cond (is_ok (progress_of (recovered recovery report))) (with_taken recovery report old) old
    → IsTaken (recovered recovery report) recovery report old new complete
taken_is recovery report old new complete whole new_is =
    taken_by (recovered recovery report) recovery report old new complete (recovered_is recovery report) whole new_is

-- a refused report completes nothing, and leaves the recoveries as they were
by_refusal : (progress : Result RecoveryProgress ℕ) (taken old new : List (ℕ × Recovery)) (number : ℕ) → progress ≡ Err number → new ≡ old
    → ((false ≡ true) ↔ (progress ≡ Ok Complete)) × (new ≡ cond (is_ok progress) taken old)
by_refusal progress taken old new number is same =
    ((λ t. cc (t), λ o. cc (is, o)), same ∙ sym (ap (λ (p : Result RecoveryProgress ℕ). cond (is_ok p) taken old) is))

pub refused_is : (recovery its : Recovery) (report : Report) (old new : List (ℕ × Recovery)) (number : ℕ)
    → recovered its report ≡ Rejects number → recovery ≡ its → new ≡ old
    → ((false ≡ true) ↔ (progress_of (recovered recovery report) ≡ Ok Complete)) ×
    (new ≡ cond (is_ok (progress_of (recovered recovery report))) (with_taken recovery report old) old)
refused_is recovery its report old new number is same unchanged =
    by_refusal (progress_of (recovered recovery report)) (with_taken recovery report old) old new number
    (ap progress_of (ap (λ (r : Recovery). recovered r report) same ∙ is)) unchanged

-- whichever number refuses it
pub refused_by : (recovery its : Recovery) (report : Report) (old new : List (ℕ × Recovery)) (fault : RecoveryError)
    → Refuses its report fault → recovery ≡ its → new ≡ old
    → ((false ≡ true) ↔ (progress_of (recovered recovery report) ≡ Ok Complete)) ×
    (new ≡ cond (is_ok (progress_of (recovered recovery report))) (with_taken recovery report old) old)
refused_by recovery its report old new fault refused same unchanged = by (recovery_error_number fault) refused
  where
    by : (number : Option ℕ) → IsSomeAnd number (λ n. recovered its report ≡ Rejects n)
        → ((false ≡ true) ↔ (progress_of (recovered recovery report) ≡ Ok Complete)) ×
        (new ≡ cond (is_ok (progress_of (recovered recovery report))) (with_taken recovery report old) old)
    by None none = absurd none
    by (Some n) is = refused_is recovery its report old new n is same unchanged

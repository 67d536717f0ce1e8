-- What comes of a report, by what is known of its silo.
use Rattle.std.proofs.Common.{◌≡◌, ℕ, ◌+◌, ◌==◌, ◌&&◌, ◌||◌, Bool, true, false, not, if◌then◌else◌, List, [], ◌∷◌, length, cond, add-one, Option, Some, None, Result, Ok, refl, sym, ◌∙◌, ap, inl, inr, arith}
use Rattle.std.specs.List.{filter}
use Rattle.std.specs.Option.{option_eq}
use Rattle.std.proofs.lemmas.Bool.Decides.{Decides-eqb}
use Rattle.silo_address.specs.Silo.{Silo, silo_cmp, silo_eq}
use Rattle.silo_address.specs.Grain.{grain_eq}
use Rattle.silo_address.proofs.Same.{Decides-silo}
use Rattle.ring_range.specs.Range.{range_eq}
use Rattle.hash_ring.proofs.Members.{In}
use Rattle.hash_ring.proofs.StrictOrder.{Rising, Rising-from_sorted}
use Rattle.std.specs.List.Sorted.{IsStrictlySortedBy}
use Rattle.directory_rules.proofs.Cases.{on_bool}
use Rattle.directory_rules.specs.State.{Recovery, Report}
use Rattle.directory_rules.specs.Recovery.{Recovered, Has_more, Rejects, recovered, told_by, with_last, with_more, awaits_still, is_among}
use Rattle.range_recovery.specs.declared.progress.RecoveryProgress.{RecoveryProgress}
use Rattle.range_recovery.specs.declared.progress.RecoveryProgress.TheVariants.{Continues, More, Complete}
use Rattle.range_recovery.specs.Progress.{progress_of, after_one_more}
use Rattle.range_recovery.specs.Silos.{has_reported, silos_in}
use Rattle.range_recovery.proofs.Reported.{Decides-among}
use Rattle.range_recovery.proofs.Lists.{filter_all}
use Rattle.range_recovery.proofs.Marks.{apart, apart_back}

-- the report is of this version and range
abbrev pub is_asked_for : Recovery → Report → Bool
is_asked_for recovery report = (report.version == recovery.version) && range_eq report.range recovery.range

-- it goes on behind the grain up to which its silo has told
abbrev pub goes_on : Recovery → Report → Bool
goes_on recovery report = option_eq grain_eq report.after (told_by report.silo recovery)

abbrev by_tests : Bool → Bool → Bool → Bool → Recovered → Recovered
by_tests ours awaited reported next taken =
    if not ours then Rejects 751
    else (if not (awaited || reported) then Rejects 752
    else (if reported then Rejects 753
    else (if not next then Rejects 754
    else taken)))

abbrev answer : Bool → Bool → Option Bool
answer reported awaited = if reported then Some true else (if awaited then Some false else None)

-- what comes of the report of an awaited silo
abbrev taken : Recovery → Report → Recovered
taken recovery report =
    if report.last then awaits_still (with_last recovery report).awaiting (with_last recovery report) else Has_more (with_more recovery report)

of_awaited : (recovery : Recovery) (report : Report) → is_asked_for recovery report ≡ true
    → has_reported (silos_in recovery) report.silo ≡ Some false
    → recovered recovery report ≡ (if not (goes_on recovery report) then Rejects 754 else taken recovery report)
of_awaited recovery report ours waits =
    by (is_asked_for recovery report) (is_among report.silo recovery.awaiting) (is_among report.silo recovery.reported) ours waits
    (goes_on recovery report) (taken recovery report)
  where
    by : (t x y : Bool) → t ≡ true → answer y x ≡ Some false → (n : Bool) (o : Recovered)
        → by_tests t x y n o ≡ (if not n then Rejects 754 else o)
    by false x y h k n o = cc
    by true true true h k n o = cc
    by true false true h k n o = cc
    by true true false h k n o = refl
    by true false false h k n o = cc

-- one that doesn't go on is refused
pub out_of_turn : (recovery : Recovery) (report : Report) → is_asked_for recovery report ≡ true
    → has_reported (silos_in recovery) report.silo ≡ Some false → goes_on recovery report ≡ false
    → recovered recovery report ≡ Rejects 754
out_of_turn recovery report ours waits not_next =
    of_awaited recovery report ours waits ∙ ap (λ b. if not b then Rejects 754 else taken recovery report) not_next

is_awaited : (recovery : Recovery) (silo : Silo) → has_reported (silos_in recovery) silo ≡ Some false → In silo recovery.awaiting
is_awaited recovery silo waits =
    (Decides-among silo recovery.awaiting).0 (by (is_among silo recovery.awaiting) (is_among silo recovery.reported) waits)
  where
    by : (x y : Bool) → answer y x ≡ Some false → x ≡ true
    by true y h = refl
    by false true h = cc
    by false false h = cc

-- one fewer is awaited then
pub one_fewer : (silo : Silo) (silos : List Silo) → Rising silo_cmp silos → In silo silos
    → length (filter (λ s. not (silo_eq s silo)) silos) + 1 ≡ length silos
one_fewer silo [] rising there = absurd there
one_fewer silo (x ∷ silos) rising (inl here) =
    ap (λ b. length (cond (not b) (x ∷ filter (λ s. not (silo_eq s silo)) silos) (filter (λ s. not (silo_eq s silo)) silos)) + 1)
    ((Decides-silo x silo).1 here)
    ∙ ap (λ l. length l + 1) (filter_all (λ s. not (silo_eq s silo)) silos
    (λ s later. ap not (apart_back silo s (ap (λ k. silo_cmp k s) (sym here) ∙ rising.0 s later))))
    ∙ add-one (length silos)
one_fewer silo (x ∷ silos) rising (inr later) =
    ap (λ b. length (cond (not b) (x ∷ filter (λ s. not (silo_eq s silo)) silos) (filter (λ s. not (silo_eq s silo)) silos)) + 1)
    (apart x silo (rising.0 silo later))
    ∙ (let fewer : length (filter (λ s. not (silo_eq s silo)) silos) + 1 ≡ length silos = one_fewer silo silos rising.1 later in
    omega (arith, fewer))

-- how far the recovery is with it
pub progress-awaited : (recovery : Recovery) (report : Report) → IsStrictlySortedBy silo_cmp recovery.awaiting
    → is_asked_for recovery report ≡ true
    → has_reported (silos_in recovery) report.silo ≡ Some false → goes_on recovery report ≡ true
    → progress_of (recovered recovery report) ≡ Ok (if report.last then after_one_more recovery else Continues)
progress-awaited recovery report sorted ours waits next =
    ap progress_of (of_awaited recovery report ours waits ∙ ap (λ b. if not b then Rejects 754 else taken recovery report) next)
    ∙ by_last report.last
  where
    by : (rest : List Silo) → length rest + 1 ≡ length recovery.awaiting
        → ◌≡◌ {A = Result RecoveryProgress ℕ} (progress_of (awaits_still rest (with_last recovery report))) (Ok (after_one_more recovery))
    by [] h = ap (λ n. Ok (if n == 1 then Complete else More)) h
    by (x ∷ rest) h =
        on_bool (λ b. ◌≡◌ {A = Result RecoveryProgress ℕ} (Ok More) (Ok (if b then Complete else More))) (length recovery.awaiting == 1)
        (λ t. let one : length recovery.awaiting ≡ 1 = (Decides-eqb (length recovery.awaiting) 1).0 t in absurd (omega (arith, h, one)))
        (λ f. refl)

    by_last : (last : Bool) → ◌≡◌ {A = Result RecoveryProgress ℕ}
        (progress_of (if last then awaits_still (with_last recovery report).awaiting (with_last recovery report)
        else Has_more (with_more recovery report))) (Ok (if last then after_one_more recovery else Continues))
    by_last true =
        by (with_last recovery report).awaiting
        (one_fewer report.silo recovery.awaiting (Rising-from_sorted silo_cmp recovery.awaiting sorted)
        (is_awaited recovery report.silo waits))
    by_last false = refl

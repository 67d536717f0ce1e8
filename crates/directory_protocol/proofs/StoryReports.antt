-- Wrong protocols of reports: one of another version, one of what asks, one after which nothing is held.
use Rattle.std.proofs.Common.{◌≡◌, ℕ, true, cond, Some, None, List, [], ◌∷◌, ◌++◌, option_map, inl, inr, refl, ap, arith}
use Rattle.silo_address.specs.Silo.{Silo, silo_eq}
use Rattle.silo_address.specs.Grain.{Grain, grain_eq}
use Rattle.silo_address.specs.declared.activation.ActivationId.{ActivationId}
use Rattle.directory_protocol.specs.Change.{put, put_grain, put_at}
use Rattle.directory_protocol.specs.Letters.{activation_on, Report}
use Rattle.directory_protocol.specs.World.{World, start, Asking, Firm, count_of}
use Rattle.directory_protocol.specs.Actions.{Action, New_view, See, Start, Tell, Recover, MayRecover}
use Rattle.directory_protocol.specs.Effects.{run, AllAllowed, reported}
use Rattle.directory_protocol.specs.Safety.{OneSettles, SettledIsRight}
use Rattle.directory_protocol.specs.Loosened.{Breaks}
use Rattle.directory_protocol.specs.WrongSteps.{QueryAnsweredAtAnotherVersion, SkippedVersionStillReports, ReportHasAskingActivations, RecoveryDropsFirmActivations}
use Rattle.directory_protocol.proofs.Changes.{on_bool}
use Rattle.directory_protocol.proofs.Runs.{allowed_append}
use Rattle.directory_protocol.proofs.StoryRecovery.{settles_all, no_entry, only, of_three, may_recover, none_told, only_told, ann_alone}
use Rattle.directory_protocol.proofs.Story.{first, second, third, ann, cluster, all, no_hash, opening, opening_allowed, sees, may_see}
use Rattle.directory_protocol.proofs.StoryTwo.{two, growing, grown, registering, early, registered, not_first}

abbrev other : ActivationId
other = activation_on first 1

-- ---- a report of a version that its sender hasn't seen

abbrev asked_early : List Action
asked_early = (opening ++ growing) ++ (New_view ∷ [])

asked_early_allowed : AllAllowed cluster asked_early start
asked_early_allowed = allowed_append cluster (opening ++ growing) (New_view ∷ []) start grown (tt, tt)

abbrev too_early : Report
too_early = record { version = 3; sender = second; firm = (reported (run cluster asked_early start) second).firm }

abbrev told_early : World
told_early = record (run cluster asked_early start) { reports = too_early ∷ (run cluster asked_early start).reports }

abbrev then_firm : List Action
then_firm = registering ++ (sees first 3 ∷ sees third 3 ∷ Tell first ∷ Tell third ∷ [])

then_firm_allowed : AllAllowed cluster then_firm told_early
unfolding put put_at put_grain
then_firm_allowed = (
  record { alive = refl; member = refl; free = refl; offered = λ p e. absurd cc },
  (
    record {
      sent = inl refl;
      alive = refl;
      same_version = refl;
      settled = refl;
      new_number = omega arith;
      answered = inl
          (refl, refl, inl refl);
    },
    (
      record {
        accepted = record {
          alive = refl;
          sent = inl refl;
          counts = record { held_there = refl; same_number = refl; same_version = refl };
        };
        answer = refl;
      },
      (
        may_see _ _ _ refl (omega arith) (omega arith) refl,
        (
          may_see _ _ _ refl (omega arith) (omega arith) refl,
          (refl, (refl, tt)),
        ),
      ),
    ),
  ),
)

abbrev after_firm : World
after_firm = run cluster then_firm told_early

abbrev told_then : Silo → Grain → Report
told_then = of_three (reported after_firm first) too_early (reported after_firm third)

recovery_too_early : MayRecover cluster after_firm (settles_all no_entry) told_then
unfolding put put_at put_grain
recovery_too_early =
    may_recover _ no_entry (reported after_firm first) too_early (reported after_firm third) refl refl (λ h. refl)
    (record { sent = inr (inl refl); version = refl; sender = refl; entered = λ g c e. absurd cc })
    (record { sent = inr (inr (inl refl)); version = refl; sender = refl; entered = λ g c e. absurd cc })
    (record { sent = inl refl; version = refl; sender = refl; entered = λ g c e. absurd cc })
    (none_told told_then)

pub query_answered_at_another_version : Breaks QueryAnsweredAtAnotherVersion SettledIsRight
unfolding put put_at put_grain
query_answered_at_another_version = (
  cluster,
  asked_early,
  told_early,
  then_firm ++ (Recover (settles_all no_entry) told_then ∷ []),
  asked_early_allowed,
  (second, 3, refl, omega arith, refl),
  allowed_append cluster then_firm (Recover (settles_all no_entry) told_then ∷ []) told_early then_firm_allowed (recovery_too_early, tt),
  λ right.
      let e : None ≡ Some two = (right ann third (record { alive = refl; settled = refl })).complete second 1 (record { alive = refl; firm = refl }) in
      cc,
)

-- ---- a report of a version that its sender skipped

abbrev skipping : List Action
skipping =
    opening
    ++ (New_view ∷ New_view ∷ New_view ∷ See (record { silo = first; version = 4; kept = all; sealed = no_hash }) ∷ sees second 3 ∷ sees
    third 3 ∷ Tell second ∷ Tell third ∷ [])

skipping_allowed : AllAllowed cluster skipping start
unfolding put put_at put_grain
skipping_allowed =
    allowed_append cluster opening
    (New_view ∷ New_view ∷ New_view ∷ See (record { silo = first; version = 4; kept = all; sealed = no_hash }) ∷ sees second 3 ∷ sees third
    3 ∷ Tell second ∷ Tell third ∷ [])
    start opening_allowed (
      tt,
      (
        tt,
        (
          tt,
          (
            record {
              alive = refl;
              newer = omega arith;
              known = omega arith;
              member = refl;
              kept_settled = λ h e. refl;
              kept_owned = λ h e. refl;
              sealed_settled = λ h e. absurd cc;
              sealed_next = λ h e. absurd cc;
            },
            (
              may_see _ _ _ refl (omega arith) (omega arith) refl,
              (
                may_see _ _ _ refl (omega arith) (omega arith) refl,
                (refl, (refl, tt)),
              ),
            ),
          ),
        ),
      ),
    )

abbrev too_late : Report
too_late = record { version = 3; sender = first; firm = (reported (run cluster skipping start) first).firm }

abbrev told_late : World
told_late = record (run cluster skipping start) { reports = too_late ∷ (run cluster skipping start).reports }

abbrev told_skipped : Silo → Grain → Report
told_skipped = of_three too_late (reported (run cluster skipping start) second) (reported (run cluster skipping start) third)

recovery_too_late : MayRecover cluster told_late (settles_all no_entry) told_skipped
unfolding put put_at put_grain
recovery_too_late =
    may_recover _ no_entry too_late (reported (run cluster skipping start) second) (reported (run cluster skipping start) third) refl refl
    (λ h. refl)
    (record { sent = inl refl; version = refl; sender = refl; entered = λ g c e. absurd cc })
    (record { sent = inr (inr (inl refl)); version = refl; sender = refl; entered = λ g c e. absurd cc })
    (record { sent = inr (inl refl); version = refl; sender = refl; entered = λ g c e. absurd cc })
    (none_told told_skipped)

pub skipped_version_still_reports : Breaks SkippedVersionStillReports OneSettles
unfolding put put_at put_grain
skipped_version_still_reports = (
  cluster,
  skipping,
  told_late,
  Recover (settles_all no_entry) told_skipped ∷ [],
  skipping_allowed,
  (first, 3, refl, omega arith, refl),
  (recovery_too_late, tt),
  λ one.
      let same : first ≡ third = one 0 first third (record { alive = refl; settled = refl }) (record { alive = refl; settled = refl }) in
      let t : true ≡ silo_eq third first = ap (λ s. silo_eq s first) same in
      cc,
)

-- ---- a report of what asks

abbrev asking : List Action
asking = early ++ (Start first ann None ∷ New_view ∷ sees first 3 ∷ sees second 3 ∷ sees third 3 ∷ [])

asking_allowed : AllAllowed cluster asking start
unfolding put put_at put_grain
asking_allowed =
    allowed_append cluster early (Start first ann None ∷ New_view ∷ sees first 3 ∷ sees second 3 ∷ sees third 3 ∷ []) start registered (
      record { alive = refl; member = refl; free = refl; offered = λ p e. absurd cc },
      (
        tt,
        (
          may_see _ _ _ refl (omega arith) (omega arith) refl,
          (
            may_see _ _ _ refl (omega arith) (omega arith) refl,
            (may_see _ _ _ refl (omega arith) (omega arith) refl, tt),
          ),
        ),
      ),
    )

abbrev with_asking : Report
with_asking = record { version = 3; sender = first; firm = λ g. option_map count_of ((run cluster asking start).held first g) }

abbrev told_asking : World
told_asking = record (run cluster asking start) { reports = with_asking ∷ (run cluster asking start).reports }

abbrev told_both : Silo → Grain → Report
told_both = of_three with_asking (reported told_asking second) (reported told_asking third)

-- what it held of ann, which asked, is all that it names
asking_alone : (g : Grain) (c : ℕ) → with_asking.firm g ≡ Some c → (a : ActivationId) × (only other g ≡ Some a)
unfolding put put_at put_grain
asking_alone g c =
    on_bool (λ b. option_map count_of (cond b (Some (Asking 1 1 None)) None) ≡ Some c
    → (a : ActivationId) × (cond b (Some other) None ≡ Some a)) (grain_eq g ann) (λ t e. (other, refl)) (λ t e. absurd cc)

recovery_with_asking : MayRecover cluster (run cluster (Tell second ∷ Tell third ∷ []) told_asking) (settles_all (only other)) told_both
unfolding put put_at put_grain
recovery_with_asking =
    may_recover _ (only other) with_asking (reported told_asking second) (reported told_asking third) refl refl (λ h. refl)
    (record { sent = inr (inr (inl refl)); version = refl; sender = refl; entered = asking_alone })
    (record { sent = inr (inl refl); version = refl; sender = refl; entered = ann_alone other (Some (Asking 1 1 None)) (Some (Firm 1)) })
    (record { sent = inl refl; version = refl; sender = refl; entered = λ g c e. absurd cc })
    (only_told told_both other refl refl)

pub report_has_asking_activations : Breaks ReportHasAskingActivations SettledIsRight
unfolding put put_at put_grain
report_has_asking_activations = (
  cluster,
  asking,
  told_asking,
  Tell second ∷ Tell third ∷ Recover (settles_all (only other)) told_both ∷ [],
  asking_allowed,
  (first, refl, refl),
  (refl, (refl, (recovery_with_asking, tt))),
  λ right.
      let e : Some other ≡ Some two = (right ann third (record { alive = refl; settled = refl })).complete second 1 (record { alive = refl; firm = refl }) in
      not_first (ap (λ (a : ActivationId). a.silo) (let same : two ≡ other = cc in
      same)),
)

-- ---- a silo that reports drops its activations

abbrev looking : List Action
looking = early ++ (New_view ∷ sees first 3 ∷ sees second 3 ∷ sees third 3 ∷ [])

looking_allowed : AllAllowed cluster looking start
unfolding put put_at put_grain
looking_allowed =
    allowed_append cluster early (New_view ∷ sees first 3 ∷ sees second 3 ∷ sees third 3 ∷ []) start registered (
      tt,
      (
        may_see _ _ _ refl (omega arith) (omega arith) refl,
        (
          may_see _ _ _ refl (omega arith) (omega arith) refl,
          (may_see _ _ _ refl (omega arith) (omega arith) refl, tt),
        ),
      ),
    )

abbrev dropped : World
dropped =
    record (run cluster looking start) {
      held = put second (λ g. None) (run cluster looking start).held;
      reports = reported (run cluster looking start) second ∷ (run cluster looking start).reports;
    }

abbrev told_dropped : Silo → Grain → Report
told_dropped = of_three (reported dropped first) (reported (run cluster looking start) second) (reported dropped third)

recovery_of_dropped : MayRecover cluster (run cluster (Tell first ∷ Tell third ∷ []) dropped) (settles_all (only two)) told_dropped
unfolding put put_at put_grain
recovery_of_dropped =
    may_recover _ (only two) (reported dropped first) (reported (run cluster looking start) second) (reported dropped third) refl refl
    (λ h. refl)
    (record { sent = inr (inl refl); version = refl; sender = refl; entered = λ g c e. absurd cc })
    (record {
      sent = inr (inr (inl refl));
      version = refl;
      sender = refl;
      entered = ann_alone two (Some (Asking 1 1 None)) (Some (Firm 1));
    })
    (record { sent = inl refl; version = refl; sender = refl; entered = λ g c e. absurd cc })
    (only_told told_dropped two refl refl)

pub recovery_drops_firm_activations : Breaks RecoveryDropsFirmActivations SettledIsRight
unfolding put put_at put_grain
recovery_drops_firm_activations = (
  cluster,
  looking,
  dropped,
  Tell first ∷ Tell third ∷ Recover (settles_all (only two)) told_dropped ∷ [],
  looking_allowed,
  (second, refl, refl),
  (refl, (refl, (recovery_of_dropped, tt))),
  λ right.
      let gone = (right ann third (record { alive = refl; settled = refl })).held two refl refl in
      let e : None ≡ Some gone.0 = gone.1 in
      cc,
)

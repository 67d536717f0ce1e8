-- Wrong protocols of several silos, each with one action that its guard should have refused.
use Rattle.std.proofs.Common.{◌≡◌, ◌≢◌, true, Some, None, List, [], ◌∷◌, ◌++◌, option_map, inl, inr, refl, ap, arith}
use Rattle.silo_address.specs.Silo.{Silo, silo_eq}
use Rattle.silo_address.specs.Grain.{Grain}
use Rattle.silo_address.specs.declared.activation.ActivationId.{ActivationId}
use Rattle.directory_protocol.specs.Change.{put, put_grain, put_at}
use Rattle.directory_protocol.specs.Letters.{activation_on, Registered, Report, Snapshot}
use Rattle.directory_protocol.specs.World.{World, start, Asking, Firm}
use Rattle.directory_protocol.specs.Actions.{Action, New_view, Start, Offer_away, Confirm, Tell, Install, Recover, Sight, Settling, MayRecover}
use Rattle.directory_protocol.specs.Effects.{run, AllAllowed, after, after_sight, after_settling, reported, sealed_by}
use Rattle.directory_protocol.specs.Safety.{OneSettles, OneFirm, SettledIsRight}
use Rattle.directory_protocol.specs.Loosened.{Breaks, SealedPieceStillServes, SkipKeepsPiecesNotOwned, RegisterOverwrites, RecoveryCompletesAtFirstReport, OfferStartsAtALaggingSilo}
use Rattle.directory_protocol.proofs.Runs.{allowed_append}
use Rattle.directory_protocol.proofs.StoryRecovery.{settles_all, no_entry, only, of_three, may_recover, none_told, only_told, ann_alone}
use Rattle.directory_protocol.proofs.Story.{first, second, third, ann, cluster, all, no_hash, opening, opening_allowed, sees, may_see, registration, reply, answers}
use Rattle.directory_protocol.proofs.StoryTwo.{two, growing, grown, early, registered, not_first}

abbrev other : ActivationId
other = activation_on first 1

two_is_not_other : two ≢ other
two_is_not_other e = not_first (ap (λ (a : ActivationId). a.silo) e)

-- ---- the silo that seals a hash keeps it settled too

abbrev keeping : Sight
keeping = record { silo = first; version = 3; kept = all; sealed = all }

abbrev grown_three : List Action
grown_three = (opening ++ growing) ++ (New_view ∷ [])

grown_three_allowed : AllAllowed cluster grown_three start
grown_three_allowed = allowed_append cluster (opening ++ growing) (New_view ∷ []) start grown (tt, tt)

abbrev handed : Snapshot
handed = sealed_by cluster (run cluster grown_three start) keeping

pub sealed_piece_still_serves : Breaks SealedPieceStillServes OneSettles
unfolding put put_at put_grain
sealed_piece_still_serves = (
  cluster,
  grown_three,
  after_sight cluster (run cluster grown_three start) keeping,
  sees third 3 ∷ Install (record { silo = third; part = all; entries = handed.entries }) handed ∷ [],
  grown_three_allowed,
  (
    keeping,
    record {
      alive = refl;
      newer = omega arith;
      known = omega arith;
      member = refl;
      kept_settled = λ h e. refl;
      sealed_settled = λ h e. refl;
      sealed_next = λ h e. refl;
    },
    refl,
  ),
  (
    may_see _ _ _ refl (omega arith) (omega arith) refl,
    (
      record {
        settles = record { alive = refl; owned = λ h e. refl; unsettled = λ h e. refl };
        sent = inr (inl refl);
        same_version = refl;
        covered = λ h e. refl;
        entries = λ g e. refl;
      },
      tt,
    ),
  ),
  λ one.
      let same : first ≡ third = one 0 first third (record { alive = refl; settled = refl }) (record { alive = refl; settled = refl }) in
      let t : true ≡ silo_eq third first = ap (λ s. silo_eq s first) same in
      cc,
)

-- ---- a silo that skips a version keeps what it owns no more

abbrev opened_three : List Action
opened_three = opening ++ (New_view ∷ New_view ∷ [])

abbrev skipping : Sight
skipping = record { silo = first; version = 3; kept = all; sealed = no_hash }

abbrev skipped : World
skipped = after_sight cluster (run cluster opened_three start) skipping

abbrev telling : List Action
telling = sees second 3 ∷ sees third 3 ∷ Tell first ∷ Tell second ∷ Tell third ∷ []

abbrev told_nothing : Silo → Grain → Report
told_nothing =
    of_three (reported (run cluster telling skipped) first) (reported (run cluster telling skipped) second)
    (reported (run cluster telling skipped) third)

telling_allowed : AllAllowed cluster telling skipped
unfolding put put_at put_grain
telling_allowed =
    (may_see _ _ _ refl (omega arith) (omega arith) refl, (may_see _ _ _ refl (omega arith) (omega arith) refl, (refl, (refl, (refl, tt)))))

nothing_recovered : MayRecover cluster (run cluster telling skipped) (settles_all no_entry) told_nothing
unfolding put put_at put_grain
nothing_recovered =
    may_recover _ no_entry (reported (run cluster telling skipped) first) (reported (run cluster telling skipped) second)
    (reported (run cluster telling skipped) third) refl refl (λ h. refl)
    (record { sent = inr (inr (inl refl)); version = refl; sender = refl; entered = λ g c e. absurd cc })
    (record { sent = inr (inl refl); version = refl; sender = refl; entered = λ g c e. absurd cc })
    (record { sent = inl refl; version = refl; sender = refl; entered = λ g c e. absurd cc })
    (none_told told_nothing)

pub skip_keeps_pieces_not_owned : Breaks SkipKeepsPiecesNotOwned OneSettles
unfolding put put_at put_grain
skip_keeps_pieces_not_owned = (
  cluster,
  opened_three,
  skipped,
  telling ++ (Recover (settles_all no_entry) told_nothing ∷ []),
  allowed_append cluster opening (New_view ∷ New_view ∷ []) start opening_allowed (tt, (tt, tt)),
  (
    skipping,
    record {
      alive = refl;
      newer = omega arith;
      known = omega arith;
      member = refl;
      kept_settled = λ h e. refl;
      sealed_settled = λ h e. absurd cc;
      sealed_next = λ h e. absurd cc;
    },
    omega arith,
    refl,
  ),
  allowed_append cluster telling (Recover (settles_all no_entry) told_nothing ∷ []) skipped telling_allowed (nothing_recovered, tt),
  λ one.
      let same : first ≡ third = one 0 first third (record { alive = refl; settled = refl }) (record { alive = refl; settled = refl }) in
      let t : true ≡ silo_eq third first = ap (λ s. silo_eq s first) same in
      cc,
)

-- ---- a registration overwrites the entry

abbrev asking : List Action
asking = early ++ (Start first ann None ∷ [])

asking_allowed : AllAllowed cluster (Start first ann None ∷ []) (run cluster early start)
unfolding put put_at put_grain
asking_allowed = (record { alive = refl; member = refl; free = refl; offered = λ p e. absurd cc }, tt)

pub register_overwrites : Breaks RegisterOverwrites OneFirm
unfolding put put_at put_grain
register_overwrites = (
  cluster,
  asking,
  after cluster (run cluster asking start) (answers (registration 2 1 first 1 None) Registered (Some other)),
  Confirm (reply Registered 2 1 first) ann (Asking 1 1 None) ∷ [],
  allowed_append cluster early (Start first ann None ∷ []) start registered asking_allowed,
  (
    record { server = first; request = registration 2 1 first 1 None; answer = Registered; entry = Some other },
    record {
      sent = inl refl;
      alive = refl;
      same_version = refl;
      settled = refl;
      new_number = omega arith;
    },
    refl,
    refl,
    refl,
    refl,
  ),
  (
    record {
      accepted = record { alive = refl; sent = inl refl; counts = record { held_there = refl; same_number = refl; same_version = refl } };
      answer = refl;
    },
    tt,
  ),
  λ one. two_is_not_other (one ann second first 1 1 (record { alive = refl; firm = refl }) (record { alive = refl; firm = refl })),
)

-- ---- a recovery ends with the first report

abbrev asked : List Action
asked = New_view ∷ sees third 3 ∷ Tell third ∷ []

asked_allowed : AllAllowed cluster asked (run cluster early start)
unfolding put put_at put_grain
asked_allowed = (
  tt,
  (
    may_see _ _ _ refl (omega arith) (omega arith) refl,
    (refl, tt),
  ),
)

abbrev own_report : Report
own_report = reported (run cluster (early ++ (New_view ∷ sees third 3 ∷ [])) start) third

abbrev from_one : Settling
from_one = record { silo = third; part = all; entries = λ g. option_map (activation_on third) (own_report.firm g) }

pub recovery_completes_at_first_report : Breaks RecoveryCompletesAtFirstReport SettledIsRight
unfolding put put_at put_grain
recovery_completes_at_first_report = (
  cluster,
  early ++ asked,
  after_settling cluster (run cluster (early ++ asked) start) from_one,
  [],
  allowed_append cluster early asked start registered asked_allowed,
  (
    from_one,
    own_report,
    record {
      settles = record { alive = refl; owned = λ h e. refl; unsettled = λ h e. refl };
      member = refl;
      sent = inl refl;
      same_version = refl;
      entries = λ g. refl;
    },
    refl,
  ),
  tt,
  λ right.
      let e : None ≡ Some two = (right ann third (record { alive = refl; settled = refl })).complete second 1 (record { alive = refl; firm = refl }) in
      cc,
)

-- ---- an offer of a later version starts an activation at a silo that lags behind

-- the second silo has reported its activation at the third version, and then offers it
abbrev offered : List Action
offered = New_view ∷ sees second 3 ∷ Tell second ∷ Offer_away second ann 1 ∷ []

offered_allowed : AllAllowed cluster offered (run cluster early start)
unfolding put put_at put_grain
offered_allowed = (
  tt,
  (
    may_see _ _ _ refl (omega arith) (omega arith) refl,
    (
      refl,
      (
        record { alive = refl; held = refl; not_yet = refl },
        tt,
      ),
    ),
  ),
)

abbrev lagging : World
lagging = after cluster (run cluster (early ++ offered) start) (Start first ann (Some two))

-- the first silo, still at the second version, registers its own in the place of the one offered
abbrev replaced : List Action
replaced =
    answers (registration 2 1 first 1 (Some two)) Registered (Some other) ∷ Confirm (reply Registered 2 1 first) ann (Asking 1 1 (Some two))
    ∷ sees first 3 ∷ Tell first ∷ sees third 3 ∷ Tell third ∷ []

replaced_allowed : AllAllowed cluster replaced lagging
unfolding put put_at put_grain
replaced_allowed = (
  record {
    sent = inl refl;
    alive = refl;
    same_version = refl;
    settled = refl;
    new_number = omega arith;
    answered = inl (refl, refl, inr (inr refl));
  },
  (
    record {
      accepted = record { alive = refl; sent = inl refl; counts = record { held_there = refl; same_number = refl; same_version = refl } };
      answer = refl;
    },
    (
      may_see _ _ _ refl (omega arith) (omega arith) refl,
      (
        refl,
        (
          may_see _ _ _ refl (omega arith) (omega arith) refl,
          (refl, tt),
        ),
      ),
    ),
  ),
)

-- the third silo recovers: the second one's report still has what was replaced
abbrev old_report : Report
old_report = reported (run cluster (early ++ (New_view ∷ sees second 3 ∷ [])) start) second

abbrev told : Silo → Grain → Report
told = of_three (reported (run cluster replaced lagging) first) old_report (reported (run cluster replaced lagging) third)

recovery_allowed : MayRecover cluster (run cluster replaced lagging) (settles_all (only two)) told
unfolding put put_at put_grain
recovery_allowed =
    may_recover _ (only two) (reported (run cluster replaced lagging) first) old_report (reported (run cluster replaced lagging) third) refl
    refl (λ h. refl)
    (record {
      sent = inr (inl refl);
      version = refl;
      sender = refl;
      entered = ann_alone two (Some (Asking 1 1 (Some two))) (Some (Firm 1));
    })
    (record {
      sent = inr (inr (inl refl));
      version = refl;
      sender = refl;
      entered = ann_alone two (Some (Asking 1 1 None)) (Some (Firm 1));
    })
    (record { sent = inl refl; version = refl; sender = refl; entered = λ g c e. absurd cc })
    (only_told told two refl refl)

pub offer_starts_at_a_lagging_silo : Breaks OfferStartsAtALaggingSilo SettledIsRight
unfolding put put_at put_grain
offer_starts_at_a_lagging_silo = (
  cluster,
  early ++ offered,
  lagging,
  replaced ++ (Recover (settles_all (only two)) told ∷ []),
  allowed_append cluster early offered start registered offered_allowed,
  (
    first,
    ann,
    two,
    record {
      alive = refl;
      member = refl;
      free = refl;
      offered = (record { version = 3; grain = ann; activation = two }, inl refl, refl, refl);
    },
    refl,
  ),
  allowed_append cluster replaced (Recover (settles_all (only two)) told ∷ []) lagging replaced_allowed (recovery_allowed, tt),
  λ right.
      let e : Some two ≡ Some other = (right ann third (record { alive = refl; settled = refl })).complete first 1 (record { alive = refl; firm = refl }) in
      two_is_not_other cc,
)

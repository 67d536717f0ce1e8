-- Three silos: an activation of the second is registered with the first; then the third takes over, by a transfer or by
-- a recovery; or the activation migrates.
use Rattle.std.proofs.Common.{◌≡◌, ◌≢◌, true, Some, None, List, [], ◌∷◌, ◌++◌, inl, inr, refl, ap, arith}
use Rattle.silo_address.specs.Silo.{Silo, silo_eq}
use Rattle.silo_address.specs.Grain.{Grain}
use Rattle.silo_address.specs.declared.activation.ActivationId.{ActivationId}
use Rattle.directory_protocol.specs.Change.{put, put_grain, put_at}
use Rattle.directory_protocol.specs.Letters.{activation_on, Registered, Taken, Report, Snapshot}
use Rattle.directory_protocol.specs.World.{World, start, Asking, Firm}
use Rattle.directory_protocol.specs.Actions.{Action, Serve, Service, New_view, See, Start, Offer_away, Confirm, Tell, Install, Recover, Sight, MayRecover}
use Rattle.directory_protocol.specs.Effects.{run, AllAllowed, reported, sealed_by}
use Rattle.directory_protocol.specs.Reached.{CanHappen, TransfersEntry, RecoversEntry, FindsPlaceTaken, Migrates}
use Rattle.directory_protocol.proofs.Runs.{allowed_append}
use Rattle.directory_protocol.proofs.StoryRecovery.{settles_all, only, of_three, may_recover, only_told, ann_alone}
use Rattle.directory_protocol.proofs.Story.{first, second, third, ann, cluster, all, no_hash, opening, opening_allowed, sees, may_see, registration, reply, answers}

abbrev pub two : ActivationId
two = activation_on second 1

-- the second view comes, and both silos see it
abbrev pub growing : List Action
growing = New_view ∷ See (record { silo = first; version = 2; kept = all; sealed = no_hash }) ∷ sees second 2 ∷ []

growing_allowed : AllAllowed cluster growing (run cluster opening start)
unfolding put put_at put_grain
growing_allowed = (
  tt,
  (
    record {
      alive = refl;
      newer = omega arith;
      known = omega arith;
      member = refl;
      kept_settled = λ h e. refl;
      kept_owned = λ h e. refl;
      sealed_settled = λ h e. absurd cc;
      sealed_next = λ h e. absurd cc;
    },
    (
      may_see _ _ _ refl (omega arith) (omega arith) refl,
      tt,
    ),
  ),
)

pub grown : AllAllowed cluster (opening ++ growing) start
grown = allowed_append cluster opening growing start opening_allowed growing_allowed

-- the second silo's activation is registered and firm
abbrev pub registering : List Action
registering =
    Start second ann None ∷ answers (registration 2 1 second 1 None) Registered (Some two) ∷ Confirm (reply Registered 2 1 second) ann
    (Asking 1 1 None) ∷ []

registering_allowed : AllAllowed cluster registering (run cluster (opening ++ growing) start)
unfolding put put_at put_grain
registering_allowed = (
  record { alive = refl; member = refl; free = refl; offered = λ p e. absurd cc },
  (
    record {
      sent = inl refl;
      alive = refl;
      same_version = refl;
      settled = refl;
      new_number = omega arith;
      answered = inl (refl, refl, inl refl);
    },
    (
      record {
        accepted = record { alive = refl; sent = inl refl; counts = record { held_there = refl; same_number = refl; same_version = refl } };
        answer = refl;
      },
      tt,
    ),
  ),
)

abbrev pub early : List Action
early = (opening ++ growing) ++ registering

pub registered : AllAllowed cluster early start
registered = allowed_append cluster (opening ++ growing) registering start grown registering_allowed

-- ---- a transfer

abbrev pub handing : Sight
handing = record { silo = first; version = 3; kept = no_hash; sealed = all }

abbrev pub handed : Snapshot
handed = sealed_by cluster (run cluster (early ++ (New_view ∷ [])) start) handing

handing_allowed : AllAllowed cluster (New_view ∷ See handing ∷ sees third 3 ∷ []) (run cluster early start)
unfolding put put_at put_grain
handing_allowed = (
  tt,
  (
    record {
      alive = refl;
      newer = omega arith;
      known = omega arith;
      member = refl;
      kept_settled = λ h e. absurd cc;
      kept_owned = λ h e. absurd cc;
      sealed_settled = λ h e. refl;
      sealed_next = λ h e. refl;
    },
    (
      may_see _ _ _ refl (omega arith) (omega arith) refl,
      tt,
    ),
  ),
)

pub transfers_entry : CanHappen TransfersEntry
unfolding put put_at put_grain
transfers_entry = (
  cluster,
  early ++ (New_view ∷ See handing ∷ sees third 3 ∷ []),
  allowed_append cluster early (New_view ∷ See handing ∷ sees third 3 ∷ []) start registered handing_allowed,
  (
    Install (record { silo = third; part = all; entries = handed.entries }) handed,
    record {
      settles = record { alive = refl; owned = λ h e. refl; unsettled = λ h e. refl };
      sent = inr (inl refl);
      same_version = refl;
      covered = λ h e. refl;
      entries = λ g e. refl;
    },
    (record { silo = third; part = all; entries = handed.entries }, handed, ann, two, refl, refl, refl),
  ),
)

-- ---- a recovery

abbrev looking : List Action
looking = New_view ∷ sees first 3 ∷ sees second 3 ∷ sees third 3 ∷ []

abbrev looked : World
looked = run cluster (early ++ looking) start

abbrev told : Silo → Grain → Report
told = of_three (reported looked first) (reported looked second) (reported looked third)

looking_allowed : AllAllowed cluster (looking ++ (Tell first ∷ Tell second ∷ Tell third ∷ [])) (run cluster early start)
unfolding put put_at put_grain
looking_allowed = (
  tt,
  (
    may_see _ _ _ refl (omega arith) (omega arith) refl,
    (
      may_see _ _ _ refl (omega arith) (omega arith) refl,
      (
        may_see _ _ _ refl (omega arith) (omega arith) refl,
        (refl, (refl, (refl, tt))),
      ),
    ),
  ),
)

recovery_allowed : MayRecover cluster (run cluster (early ++ (looking ++ (Tell first ∷ Tell second ∷ Tell third ∷ []))) start)
    (settles_all (only two)) told
unfolding put put_at put_grain
recovery_allowed =
    may_recover _ (only two) (reported looked first) (reported looked second) (reported looked third) refl refl (λ h. refl)
    (record { sent = inr (inr (inl refl)); version = refl; sender = refl; entered = λ g c e. absurd cc })
    (record { sent = inr (inl refl); version = refl; sender = refl; entered = ann_alone two (Some (Asking 1 1 None)) (Some (Firm 1)) })
    (record { sent = inl refl; version = refl; sender = refl; entered = λ g c e. absurd cc })
    (only_told told two refl refl)

pub recovers_entry : CanHappen RecoversEntry
unfolding put put_at put_grain
recovers_entry = (
  cluster,
  early ++ (looking ++ (Tell first ∷ Tell second ∷ Tell third ∷ [])),
  allowed_append cluster early (looking ++ (Tell first ∷ Tell second ∷ Tell third ∷ [])) start registered looking_allowed,
  (Recover (settles_all (only two)) told, recovery_allowed, (settles_all (only two), told, ann, two, refl, refl, refl)),
)

-- ---- a migration

abbrev migrating : List Action
migrating =
    Offer_away second ann 1 ∷ Start first ann (Some two) ∷ answers (registration 2 1 first 1 (Some two)) Registered
    (Some (activation_on first 1)) ∷ []

migrating_allowed : AllAllowed cluster migrating (run cluster early start)
unfolding put put_at put_grain
migrating_allowed = (
  record { alive = refl; held = refl; not_yet = refl },
  (
    record {
      alive = refl;
      member = refl;
      free = refl;
      offered = λ p e. (record { version = 2; grain = ann; activation = two }, inl refl, refl, cc, omega arith);
    },
    (
      record {
        sent = inl refl;
        alive = refl;
        same_version = refl;
        settled = refl;
        new_number = omega arith;
        answered = inl (refl, refl, inr (inr refl));
      },
      tt,
    ),
  ),
)

pub not_first : second ≢ first
not_first e = let t : silo_eq second first ≡ true = ap (λ s. silo_eq s first) e in cc

-- ---- a second registration

abbrev late : Service
late = record { server = first; request = registration 2 1 first 1 None; answer = Taken; entry = Some two }

starting_allowed : AllAllowed cluster (Start first ann None ∷ []) (run cluster early start)
unfolding put put_at put_grain
starting_allowed = (record { alive = refl; member = refl; free = refl; offered = λ p e. absurd cc }, tt)

pub finds_place_taken : CanHappen FindsPlaceTaken
unfolding put put_at put_grain
finds_place_taken = (
  cluster,
  early ++ (Start first ann None ∷ []),
  allowed_append cluster early (Start first ann None ∷ []) start registered starting_allowed,
  (
    Serve late,
    record {
      sent = inl refl;
      alive = refl;
      same_version = refl;
      settled = refl;
      new_number = omega arith;
      answered = inr (
        refl,
        refl,
        (λ e. cc),
        (λ e. not_first (ap (λ (a : ActivationId). a.silo) (let same : two ≡ activation_on first 1 = cc in
            same))),
        (λ e. cc),
      );
    },
    (late, second, 1, refl, refl, record { alive = refl; firm = refl }, not_first),
  ),
)

pub migrates : CanHappen Migrates
unfolding put put_at put_grain
migrates = (
  cluster,
  early ++ migrating,
  allowed_append cluster early migrating start registered migrating_allowed,
  (
    Confirm (reply Registered 2 1 first) ann (Asking 1 1 (Some two)),
    record {
      accepted = record { alive = refl; sent = inl refl; counts = record { held_there = refl; same_number = refl; same_version = refl } };
      answer = refl;
    },
    (reply Registered 2 1 first, ann, Asking 1 1 (Some two), two, refl, refl, not_first),
  ),
)

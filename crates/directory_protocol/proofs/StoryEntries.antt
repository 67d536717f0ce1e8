-- Wrong protocols of entries: taken out, replaced, kept or left though they should not be.
use Rattle.std.proofs.Common.{◌≡◌, true, false, Some, None, List, [], ◌∷◌, ◌++◌, inl, inr, refl, ap, arith}
use Rattle.silo_address.specs.declared.activation.ActivationId.{ActivationId}
use Rattle.directory_protocol.specs.Change.{put, put_grain, put_at}
use Rattle.directory_protocol.specs.Letters.{activation_on, Deregister, Registered, Removed}
use Rattle.directory_protocol.specs.World.{World, start, Asking, Firm, Closing}
use Rattle.directory_protocol.specs.Actions.{Action, New_view, Start, Close, Offer_away, Renew, Confirm, Leave, Sight}
use Rattle.directory_protocol.specs.Effects.{after, after_sight, run, AllAllowed}
use Rattle.directory_protocol.specs.Safety.{OneFirm, SettledIsRight}
use Rattle.directory_protocol.specs.Loosened.{Breaks, DeregisterIgnoresTheActivation, PreviousReplacesAnyEntry}
use Rattle.directory_protocol.specs.WrongSteps.{SnapshotKeepsDeadSilos, OfferLeavesFirm}
use Rattle.directory_protocol.proofs.Runs.{allowed_append}
use Rattle.directory_protocol.proofs.Story.{first, second, ann, cluster, all, no_hash, opening, may_see, registration, removal, reply, answers}
use Rattle.directory_protocol.proofs.StoryOne.{registering, registered}
use Rattle.directory_protocol.proofs.StoryTwo.{two, growing, not_first}
use Rattle.directory_protocol.proofs.StoryTwo

abbrev one : ActivationId
one = activation_on first 1

-- the first silo's activation is firm, and the second silo has joined
abbrev two_silos : List Action
two_silos = (opening ++ registering) ++ growing

two_silos_allowed : AllAllowed cluster two_silos start
unfolding put put_at put_grain
two_silos_allowed =
    allowed_append cluster (opening ++ registering) growing start registered (
      tt,
      (
        record {
          alive = refl;
          newer = omega arith;
          known = omega arith;
          member = refl;
          kept_settled = λ h e. refl;
          kept_owned = λ h e. refl;
          sealed_settled = λ h e. absurd cc;
          sealed_next = λ h e. absurd cc;
        },
        (may_see _ _ _ refl (omega arith) (omega arith) refl, tt),
      ),
    )

-- ---- a deregistration takes out another's entry

-- it closes and its entry goes; the second silo's becomes firm; then the deregistration is sent again
abbrev closing_twice : List Action
closing_twice =
    Close first ann (Firm 1) ∷ answers (removal 2 2) Removed None
    ∷ Start second ann None ∷ answers (registration 2 1 second 1 None) Registered (Some two) ∷ Confirm (reply Registered 2 1 second) ann
    (Asking 1 1 None)
    ∷ Renew first ann (Closing 1 2) Deregister ∷ []

closing_twice_allowed : AllAllowed cluster (two_silos ++ closing_twice) start
unfolding put put_at put_grain
closing_twice_allowed =
    allowed_append cluster two_silos closing_twice start two_silos_allowed (
      record { alive = refl; held = refl; not_yet = refl },
      (
        record {
          sent = inl refl;
          alive = refl;
          same_version = refl;
          settled = refl;
          new_number = omega arith;
          answered = (refl, inl (refl, refl));
        },
        (
          record { alive = refl; member = refl; free = refl; offered = λ p e. absurd cc },
          (
            record {
              sent = inl refl;
              alive = refl;
              same_version = refl;
              settled = refl;
              new_number = omega arith;
              answered = inl
                  (refl, refl, inl refl);
            },
            (
              record {
                accepted = record {
                  alive = refl;
                  sent = inl refl;
                  counts = record { held_there = refl; same_number = refl; same_version = refl };
                };
                answer = refl;
              },
              (record { alive = refl; held = refl; outstanding = (2, refl) }, tt),
            ),
          ),
        ),
      ),
    )

pub deregister_ignores_the_activation : Breaks DeregisterIgnoresTheActivation SettledIsRight
unfolding put put_at put_grain
deregister_ignores_the_activation = (
  cluster,
  two_silos ++ closing_twice,
  after cluster (run cluster (two_silos ++ closing_twice) start) (answers (removal 2 3) Removed None),
  [],
  closing_twice_allowed,
  (
    record { server = first; request = removal 2 3; answer = Removed; entry = None },
    record { sent = inl refl; alive = refl; same_version = refl; settled = refl; new_number = omega arith },
    refl,
    refl,
    refl,
    refl,
  ),
  tt,
  λ right.
      let e : None ≡ Some two = (right ann first (record { alive = refl; settled = refl })).complete second 1 (record { alive = refl; firm = refl }) in
      cc,
)

-- ---- a registration with a previous activation replaces another's entry

-- it is offered to the second silo, but its silo deregisters it first, and starts another, which becomes firm
abbrev offering : List Action
offering =
    Offer_away first ann 1 ∷ Start second ann (Some one)
    ∷ Renew first ann (Closing 1 2) Deregister ∷ answers (removal 2 3) Removed None ∷ Leave (reply Removed 2 3 first) ann (Closing 1 3)
    ∷ Start first ann None ∷ answers (registration 2 4 first 2 None) Registered (Some (activation_on first 2)) ∷ Confirm
    (reply Registered 2 4 first) ann (Asking 2 4 None) ∷ []

offering_allowed : AllAllowed cluster (two_silos ++ offering) start
unfolding put put_at put_grain
offering_allowed =
    allowed_append cluster two_silos offering start two_silos_allowed (
      record { alive = refl; held = refl; not_yet = refl },
      (
        record {
          alive = refl;
          member = refl;
          free = refl;
          offered = λ p e.
              (record { version = 2; grain = ann; activation = one }, inl refl, refl, cc, omega arith);
        },
        (
          record { alive = refl; held = refl; outstanding = (2, refl) },
          (
            record {
              sent = inl refl;
              alive = refl;
              same_version = refl;
              settled = refl;
              new_number = omega arith;
              answered = (refl, inl (refl, refl));
            },
            (
              record {
                accepted = record {
                  alive = refl;
                  sent = inl refl;
                  counts = record { held_there = refl; same_number = refl; same_version = refl };
                };
                answer = λ e. cc;
              },
              (
                record { alive = refl; member = refl; free = refl; offered = λ p e. absurd cc },
                (
                  record {
                    sent = inl refl;
                    alive = refl;
                    same_version = refl;
                    settled = refl;
                    new_number = omega arith;
                    answered = inl
                        (refl, refl, inl refl);
                  },
                  (
                    record {
                      accepted = record {
                        alive = refl;
                        sent = inl refl;
                        counts = record { held_there = refl; same_number = refl; same_version = refl };
                      };
                      answer = refl;
                    },
                    tt,
                  ),
                ),
              ),
            ),
          ),
        ),
      ),
    )

pub previous_replaces_any_entry : Breaks PreviousReplacesAnyEntry OneFirm
unfolding put put_at put_grain
previous_replaces_any_entry = (
  cluster,
  two_silos ++ offering,
  after cluster (run cluster (two_silos ++ offering) start) (answers (registration 2 1 second 1 (Some one)) Registered (Some two)),
  Confirm (reply Registered 2 1 second) ann (Asking 1 1 (Some one)) ∷ [],
  offering_allowed,
  (
    record { server = first; request = registration 2 1 second 1 (Some one); answer = Registered; entry = Some two },
    one,
    record { sent = inr (inr (inl refl)); alive = refl; same_version = refl; settled = refl; new_number = omega arith },
    refl,
    refl,
    refl,
    refl,
    refl,
  ),
  (
    record {
      accepted = record {
        alive = refl;
        sent = inl refl;
        counts = record { held_there = refl; same_number = refl; same_version = refl };
      };
      answer = refl;
    },
    tt,
  ),
  λ one_firm. not_first (ap (λ (a : ActivationId). a.silo)
      (one_firm ann second first 1 2 (record { alive = refl; firm = refl }) (record { alive = refl; firm = refl }))),
)

-- ---- an offer leaves its activation firm

abbrev still_firm : World
still_firm =
    record (run cluster StoryTwo.early start) {
      offers = record { version = 2; grain = ann; activation = two } ∷
          (run cluster StoryTwo.early start).offers;
    }

pub offer_leaves_firm : Breaks OfferLeavesFirm OneFirm
unfolding put put_at put_grain
offer_leaves_firm = (
  cluster,
  StoryTwo.early,
  still_firm,
  Start first ann (Some two) ∷ answers (registration 2 1 first 1 (Some two)) Registered (Some one) ∷ Confirm (reply Registered 2 1 first)
      ann (Asking 1 1 (Some two)) ∷ [],
  StoryTwo.registered,
  (second, ann, 1, record { alive = refl; held = refl; not_yet = refl }, refl),
  (
    record {
      alive = refl;
      member = refl;
      free = refl;
      offered = λ p e.
          (record { version = 2; grain = ann; activation = two }, inl refl, refl, cc, omega arith);
    },
    (
      record {
        sent = inl refl;
        alive = refl;
        same_version = refl;
        settled = refl;
        new_number = omega arith;
        answered = inl
            (refl, refl, inr (inr refl));
      },
      (
        record {
          accepted = record {
            alive = refl;
            sent = inl refl;
            counts = record { held_there = refl; same_number = refl; same_version = refl };
          };
          answer = refl;
        },
        tt,
      ),
    ),
  ),
  λ one_firm. not_first (ap (λ (a : ActivationId). a.silo)
      (one_firm ann second first 1 1 (record { alive = refl; firm = refl }) (record { alive = refl; firm = refl }))),
)

-- ---- a sight keeps the entries of silos that are dead in its view

abbrev after_death : List Action
after_death = StoryTwo.early ++ (New_view ∷ New_view ∷ New_view ∷ [])

abbrev keeping : Sight
keeping = record { silo = first; version = 5; kept = all; sealed = no_hash }

abbrev kept_dead : World
kept_dead =
    record (after_sight cluster (run cluster after_death start) keeping) {
      table = (run cluster after_death start).table;
      snapshots =
          record { sealed_at = 2; covers = no_hash; entries = (run cluster after_death start).table first } ∷
          (run cluster after_death start).snapshots;
    }

pub snapshot_keeps_dead_silos : Breaks SnapshotKeepsDeadSilos SettledIsRight
unfolding put put_at put_grain
snapshot_keeps_dead_silos = (
  cluster,
  after_death,
  kept_dead,
  [],
  allowed_append cluster StoryTwo.early (New_view ∷ New_view ∷ New_view ∷ []) start StoryTwo.registered (tt, (tt, (tt, tt))),
  (
    keeping,
    record {
      alive = refl;
      newer = omega arith;
      known = omega arith;
      member = refl;
      kept_settled = λ h e. refl;
      kept_owned = λ h e. refl;
      sealed_settled = λ h e. absurd cc;
      sealed_next = λ h e. absurd cc;
    },
    refl,
  ),
  tt,
  λ right. let lives : false ≡ true = (right ann first (record { alive = refl; settled = refl })).live two refl refl in cc,
)

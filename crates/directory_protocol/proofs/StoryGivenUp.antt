-- One silo gives up an activation that asks, and its registration comes late.
use Rattle.std.proofs.Common.{◌≡◌, ℕ, Some, None, List, [], ◌∷◌, ◌++◌, inl, inr, refl, arith}
use Rattle.directory_protocol.specs.Change.{put, put_grain, put_at}
use Rattle.directory_protocol.specs.Letters.{Deregister, Registered, Removed}
use Rattle.directory_protocol.specs.World.{World, start, Asking, Closing}
use Rattle.directory_protocol.specs.Actions.{Action, Start, Close, Find, Leave}
use Rattle.directory_protocol.specs.Effects.{run, asked, AllAllowed}
use Rattle.directory_protocol.specs.Safety.{SettledIsRight}
use Rattle.directory_protocol.specs.Reached.{CanHappen, GivesUpInTime}
use Rattle.directory_protocol.specs.Loosened.{Breaks}
use Rattle.directory_protocol.specs.WrongSteps.{CancelForgetsTheActivation, CancelHasAnOlderNumber}
use Rattle.directory_protocol.proofs.Runs.{allowed_append}
use Rattle.directory_protocol.proofs.Story.{first, ann, cluster, opening, opening_allowed, registration, removal, reply, answers}
use Rattle.directory_protocol.proofs.StoryOne.{one}

-- it asks
abbrev asking : List Action
asking = opening ++ (Start first ann None ∷ [])

asking_allowed : AllAllowed cluster asking start
unfolding put put_at put_grain
asking_allowed =
    allowed_append cluster opening (Start first ann None ∷ []) start opening_allowed
    (record { alive = refl; member = refl; free = refl; offered = λ p e. absurd cc }, tt)

-- its deregistration under that number is served, and it is gone
abbrev leaving : ℕ → List Action
leaving number = answers (removal 1 number) Removed None ∷ Leave (reply Removed 1 number first) ann (Closing 1 number) ∷ []

pub gives_up_in_time : CanHappen GivesUpInTime
unfolding put put_at put_grain
gives_up_in_time = (
  cluster,
  asking,
  asking_allowed,
  (
    Close first ann (Asking 1 1 None),
    record { alive = refl; held = refl; not_yet = refl },
    (
      first,
      registration 1 1 first 1 None,
      leaving 2,
      inl refl,
      refl,
      refl,
      (
        record {
          sent = inl refl;
          alive = refl;
          same_version = refl;
          settled = refl;
          new_number = omega arith;
          answered = (refl, inr ((λ e. cc), refl));
        },
        (
          record {
            accepted = record {
              alive = refl;
              sent = inl refl;
              counts = record { held_there = refl; same_number = refl; same_version = refl };
            };
            answer = λ e. cc;
          },
          tt,
        ),
      ),
      (refl, refl, refl, omega arith),
      refl,
    ),
  ),
)

-- ---- wrong protocols

-- the registration is served
abbrev entered : ℕ → Action
entered number = answers (registration 1 number first 1 None) Registered (Some one)

pub cancel_forgets_the_activation : Breaks CancelForgetsTheActivation SettledIsRight
unfolding put put_at put_grain
cancel_forgets_the_activation = (
  cluster,
  asking,
  record (run cluster asking start) { held = put_at first ann None (run cluster asking start).held },
  entered 1 ∷ [],
  asking_allowed,
  (first, ann, 1, 1, None, record { alive = refl; held = refl; not_yet = refl }, refl),
  (
    record {
      sent = inl refl;
      alive = refl;
      same_version = refl;
      settled = refl;
      new_number = omega arith;
      answered = inl
          (refl, refl, inl refl);
    },
    tt,
  ),
  λ right.
      let none = (right ann first (record { alive = refl; settled = refl })).held one refl refl in
      let e : None ≡ Some none.0 = none.1 in
      cc,
)

-- it asks under the second number, for the first was taken by a find
abbrev asking_second : List Action
asking_second = opening ++ (Find first ∷ Start first ann None ∷ [])

abbrev closing_first : World
closing_first =
    record (run cluster asking_second start) {
      held = put_at first ann (Some (Closing 1 1)) (run cluster asking_second start).held;
      requests =
          record (asked (run cluster asking_second start) Deregister first ann 1 None) { number = 1 } ∷
          (run cluster asking_second start).requests;
    }

pub cancel_has_an_older_number : Breaks CancelHasAnOlderNumber SettledIsRight
unfolding put put_at put_grain
cancel_has_an_older_number = (
  cluster,
  asking_second,
  closing_first,
  leaving 1 ++ (entered 2 ∷ []),
  allowed_append cluster opening (Find first ∷ Start first ann None ∷ []) start opening_allowed
      (refl, (record { alive = refl; member = refl; free = refl; offered = λ p e. absurd cc }, tt)),
  (first, ann, 1, 2, 1, None, record { alive = refl; held = refl; not_yet = refl }, omega arith, refl),
  (
    record {
      sent = inl refl;
      alive = refl;
      same_version = refl;
      settled = refl;
      new_number = omega arith;
      answered = (refl, inr ((λ e. cc), refl));
    },
    (
      record {
        accepted = record {
          alive = refl;
          sent = inl refl;
          counts = record { held_there = refl; same_number = refl; same_version = refl };
        };
        answer = λ e. cc;
      },
      (
        record {
          sent = inr (inl refl);
          alive = refl;
          same_version = refl;
          settled = refl;
          new_number = omega arith;
          answered = inl
              (refl, refl, inl refl);
        },
        tt,
      ),
    ),
  ),
  λ right.
      let none = (right ann first (record { alive = refl; settled = refl })).held one refl refl in
      let e : None ≡ Some none.0 = none.1 in
      cc,
)

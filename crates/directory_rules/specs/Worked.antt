-- A worked run, which meets every refusal.
use Rattle.std.specs.Prelude.{◌≡◌, ℕ, List, [], ◌∷◌, map, codes, Option, Some, None, Result, Ok, Err}
use Rattle.silo_address.specs.Silo.{Silo}
use Rattle.silo_address.specs.Grain.{Grain}
use Rattle.hash_ring.specs.declared.Hashing.TheVariants.{Stated}
use Rattle.directory_rules.specs.Settings.{Settings, directory_settings}
use Rattle.directory_rules.specs.Event.{Event, Join, Leave, Kill, See, Do, Deliver, Lose}
use Rattle.directory_rules.specs.declared.outcome.Outcome.{Outcome}
use Rattle.directory_rules.specs.declared.own_step.OwnStep.TheVariants.{Wake, Close, Cancel, Find, Forget, Nudge, NudgeGrain, Offer}
use Rattle.directory_rules.specs.Run.{run_from_start}

-- the silos 10.0.0.1:1000@1, 10.0.0.2:1000@1 and 10.0.0.3:1000@1, and the grains user/a#7, user/b#8 and user/c#9
abbrev pub silo_a : Silo
silo_a = record { ip = 10 ∷ 0 ∷ 0 ∷ 1 ∷ []; port = 1000; generation = 1 }

-- the second silo
abbrev pub silo_b : Silo
silo_b = record { ip = 10 ∷ 0 ∷ 0 ∷ 2 ∷ []; port = 1000; generation = 1 }

-- the third silo
abbrev pub silo_c : Silo
silo_c = record { ip = 10 ∷ 0 ∷ 0 ∷ 3 ∷ []; port = 1000; generation = 1 }

-- the first grain
abbrev pub grain_a : Grain
grain_a = record { kind = codes "user"; key = codes "a#7" }

-- the second grain
abbrev pub grain_b : Grain
grain_b = record { kind = codes "user"; key = codes "b#8" }

-- the third grain
abbrev pub grain_c : Grain
grain_c = record { kind = codes "user"; key = codes "c#9" }

-- a small directory: two silos ever, two places a join, 14 events, 7 letters, two activations and one find a silo, numbers
-- up to 4, no cache
abbrev pub small_settings : Settings
small_settings = record (directory_settings Stated 30 0) {
  silos = 2;
  places = 2;
  events = 14;
  letters = 7;
  activations = 2;
  finds = 1;
  last_number = 4;
}

-- each event with the number by which it is refused, or none
abbrev pub refused_events : List (Event × Option ℕ)
refused_events =
    (See silo_a 1, Some 901) ∷ (Join silo_a [], Some 403) ∷ (Join silo_a (0 ∷ 1 ∷ 2 ∷ []), Some 402)
    ∷ (Join silo_a (0 ∷ []), None) ∷ (Join silo_a (0 ∷ []), Some 201) ∷ (Join silo_b (5 ∷ []), None) ∷ (Join silo_c (9 ∷ []), Some 205)
    ∷ (Do silo_a (Wake grain_a), Some 804) ∷ (See silo_a 0, Some 903) ∷ (See silo_a 3, Some 904) ∷ (See silo_b 1, Some 904)
    ∷ (See silo_a 1, None) ∷ (Deliver 2, Some 905)
    ∷ (Do silo_a (Wake grain_a), None) ∷ (Do silo_a (Wake grain_a), Some 801) ∷ (Do silo_a (Wake grain_b), None) ∷ (Do silo_a (Wake grain_c), Some 806)
    ∷ (Do silo_a (Close grain_c), Some 802) ∷ (Do silo_a (Close grain_a), Some 803)
    ∷ (Do silo_a (Cancel grain_c), Some 802) ∷ (Do silo_a (Cancel grain_b), None) ∷ (Do silo_a (Cancel grain_b), Some 808)
    ∷ (Do silo_a (Find grain_c), None) ∷ (Do silo_a (Find grain_c), Some 806)
    ∷ (Do silo_a Nudge, Some 805) ∷ (Do silo_a (NudgeGrain grain_c), Some 805) ∷ (Do silo_a (Cancel grain_a), Some 805)
    ∷ (Deliver 1, None) ∷ (Deliver 6, None) ∷ (Deliver 2, None) ∷ (Deliver 7, None)
    ∷ (Do silo_a (Offer grain_a silo_a), Some 807) ∷ (Do silo_a (Offer grain_a silo_b), Some 807) ∷ (Do silo_a (Offer grain_c silo_a), Some 802)
    ∷ (Do silo_a (Close grain_a), Some 805) ∷ (Deliver 3, Some 909)
    ∷ (Lose 1, None) ∷ (Deliver 1, Some 905) ∷ (Lose 1, Some 905)
    ∷ (Kill silo_b, None) ∷ (Kill silo_b, Some 902) ∷ (Leave silo_b, Some 902) ∷ (Leave silo_c, Some 202) ∷ (See silo_b 2, Some 902)
    ∷ (Leave silo_a, None) ∷ (Leave silo_a, Some 908) ∷ (Do silo_c (Forget grain_a), Some 908) ∷ []

-- the number by which an event was refused, if it was
abbrev pub refusal_of : Result Outcome ℕ → Option ℕ
refusal_of (Ok outcome) = None
refusal_of (Err number) = Some number

-- every refusal comes where it is said to come
abbrev pub RefusalsCompute : Type 0
RefusalsCompute =
    map refusal_of (run_from_start small_settings (map (λ e. e.0) refused_events)).told ≡ map (λ e. e.1) refused_events

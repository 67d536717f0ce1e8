-- What a world of the protocol has of one silo.
use Rattle.std.specs.Prelude.{ℕ, Bool, false, Option, None}
use Rattle.silo_address.specs.Silo.{Silo}
use Rattle.silo_address.specs.Grain.{Grain}
use Rattle.silo_address.specs.declared.ActivationId.{ActivationId}
use Rattle.directory_protocol.specs.World.{World, Held}

pub record SiloState : Type 0 where
  pub seen : ℕ
  pub settled : (hash : ℕ) → Bool
  pub table : Grain → Option ActivationId
  pub held : Grain → Option Held
  pub next_number : ℕ
  pub next_count : ℕ
  pub served : (sender : Silo) → ℕ

abbrev pub state_of : World → Silo → SiloState
state_of w silo =
    record {
      seen = w.seen silo;
      settled = w.settled silo;
      table = w.table silo;
      held = w.held silo;
      next_number = w.next_number silo;
      next_count = w.next_count silo;
      served = w.served silo;
    }

-- that of a silo which hasn't done anything yet
abbrev pub first_state : SiloState
first_state =
    record {
      seen = 0;
      settled = λ hash. false;
      table = λ grain. None;
      held = λ grain. None;
      next_number = 1;
      next_count = 1;
      served = λ sender. 0;
    }

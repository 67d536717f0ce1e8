-- Whose node an event may change.
use Rattle.std.specs.Prelude.{◌≡◌, ℕ, Some}
use Rattle.silo_address.specs.Silo.{Silo}
use Rattle.directory_rules.specs.Event.{Event, Join, Leave, Kill, See, Do, Deliver, Lose}
use Rattle.directory_rules.specs.State.{Letter, World}
use Rattle.directory_rules.specs.Mail.{letter_of}

-- the silo is the receiver of the letter of that number
pub record IsReceiver (world : World) (number : ℕ) (silo : Silo) : Type 0 where
  pub letter : Letter
  pub mailed : letter_of world number ≡ Some letter
  pub its : silo ≡ letter.to

-- the silo's node may be another one after the event: after a change of members anybody's, else that of the silo whose step it is
abbrev pub MayChange : World → Event → Silo → Type 0
MayChange world (Join silo places) other = Unit {0}
MayChange world (Leave silo) other = Unit {0}
MayChange world (Kill silo) other = Unit {0}
MayChange world (See silo version) other = other ≡ silo
MayChange world (Do silo step) other = other ≡ silo
MayChange world (Deliver number) other = IsReceiver world number other
MayChange world (Lose number) other = ⊥

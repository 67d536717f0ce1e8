-- The worked changes compute.
use Rattle.std.proofs.Common.{refl}
use Rattle.membership_view.specs.Worked.{WorkedChanges}

pub worked : WorkedChanges
worked = record {
  joins = refl;
  replaces = refl;
  joins_again = refl;
  old_generation = refl;
  rows_full = refl;
  unknown = refl;
  leaves = refl;
  not_active = refl;
  dies = refl;
  already_dead = refl;
  first_view = refl;
  second_view = refl;
  left_out = refl;
  active = refl;
  leaving = refl;
  not_made = refl;
  begins = refl;
  listed_twice = refl;
  in_no_version = refl;
  no_room = refl;
  same_view = refl;
  dead_stays_dead = refl;
  goes_on = refl;
  same_next = refl;
}

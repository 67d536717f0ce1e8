-- A silo is told the view of a version in place of all changes up to it: it knows of the changes after that alone. It is told so first, or
-- not at all, and it joins after that.
use Rattle.std.specs.Prelude.{ℕ, nat_lt, if◌then◌else◌, List, Result, Ok, Err}
use Rattle.silo_address.specs.Silo.{Silo}
use Rattle.membership_view.specs.Changes.{is_newest}
use Rattle.directory_rules.specs.Settings.{Settings}
use Rattle.directory_rules.specs.Membership.{Listed, Membership, begun}

-- the silo itself isn't in the view, and may join later: else 201
abbrev pub unless_joined : (own : Silo) → Result Membership ℕ → Result Membership ℕ
unless_joined own (Err number) = Err number
unless_joined own (Ok m) = if is_newest own m.views.rows then Ok m else Err 201

-- the view of a version is told: 211 where a change or another view was told before, then as what begins with it is refused, then 201 where
-- the silo itself, or a newer one of its endpoint, is listed
abbrev pub told_view : Settings → Membership → (own : Silo) → (version : ℕ) → List Listed → Result Membership ℕ
told_view settings m own version rows = if nat_lt 0 m.views.version then Err 211 else unless_joined own (begun settings version rows)

-- A stretch of hashes: those from one up to another, not over 0.
use Rattle.std.specs.Prelude.{ℕ, ◌&&◌, nat_le, nat_lt, Bool}

-- whether the hash is at the first or after it, and before the end
abbrev pub is_between : (first end hash : ℕ) → Bool
is_between first end hash = nat_le first hash && nat_lt hash end

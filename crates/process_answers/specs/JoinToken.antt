-- What a token is, with which a silo's process is started.
use Rattle.std.specs.Prelude.{ℕ, ◌<◌, ◌≤◌, ◌&&◌, nat_le, nat_lt, Bool, if◌then◌else◌, List, All, length, Option, Some, None}
use Rattle.std.specs.List.{list_all}
use Rattle.silo_address.specs.Grain.{IsVisible}
use Rattle.silo_address.specs.ReadGrain.{is_visible}

-- a token: 1 to 64 bytes, all of them visible ASCII, so that it is a word of a line
pub record IsToken (bytes : List ℕ) : Type 0 where
  pub some : 0 < length bytes
  pub short_enough : length bytes ≤ 64
  pub visible : All IsVisible bytes

abbrev pub is_token : List ℕ → Bool
is_token bytes = nat_lt 0 (length bytes) && nat_le (length bytes) 64 && list_all is_visible bytes

-- the token that the bytes are, if they are one
abbrev pub read_token : List ℕ → Option (List ℕ)
read_token bytes = if is_token bytes then Some bytes else None

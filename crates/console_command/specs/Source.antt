-- All that a source has, read to its end.
use Rattle.std.specs.Prelude.{◌≡◌, ℕ, ◌<◌, ◌≤◌, Bool, true, false, List, ◌++◌, length, Option, Some, Result, Ok, Err}
use Rattle.std.specs.Io.KnownBytes.{Consumes, IsAtEnd}
use Rattle.line_loop.specs.Calls.{most_at_once}
use Rattle.line_loop.specs.Scripts.{most_read}
use Rattle.console_command.specs.declared.source.Unread.{Unread}
use Rattle.console_command.specs.declared.source.Unread.TheVariants.{TooLong, OutOfMemory, Broken}

-- all is read, which is no more than there may be
pub record IsRead (all : List ℕ) (rest : Option (List ℕ)) (bytes : List ℕ) : Type 0 where
  pub whole : bytes ≡ all
  pub fits : length all ≤ most_read
  pub consumes : Consumes (Some all) rest bytes
  pub at_end : IsAtEnd rest

-- what was read of all bytes: as many as there may be at most, and one chunk behind them
pub record HasRead (all : List ℕ) (rest : Option (List ℕ)) : Type 0 where
  pub front : List ℕ
  pub chunk : List ℕ
  pub consumes : Consumes (Some all) rest (front ++ chunk)
  pub front_fits : length front ≤ most_read
  pub chunk_fits : length chunk ≤ most_at_once

-- what was read of all bytes is no more than there may be
pub record StaysWithin (all : List ℕ) (rest : Option (List ℕ)) : Type 0 where
  pub bytes : List ℕ
  pub consumes : Consumes (Some all) rest bytes
  pub fits : length bytes ≤ most_read

-- why not all is read: where there are too many bytes, there are; where memory runs out, it is within as many as there may be
abbrev pub IsUnread : (all : List ℕ) → (rest : Option (List ℕ)) → Unread → Type 0
IsUnread all rest TooLong = HasRead all rest × (most_read < length all)
IsUnread all rest OutOfMemory = HasRead all rest × StaysWithin all rest
IsUnread all rest Broken = HasRead all rest

-- whether the reads were well, where not all is read; and whether they were
abbrev pub were_well : Unread → Bool
were_well Broken = false
were_well TooLong = true
were_well OutOfMemory = true

abbrev pub are_well : {A : Type 0} → Result A Unread → Bool
are_well (Ok bytes) = true
are_well (Err unread) = were_well unread

-- The mail: letters are numbered from 1 as they are sent, and stay until they are lost.
use Rattle.std.specs.Prelude.{ℕ, ◌+◌, nat_le, Bool, true, false, List, [], ◌∷◌, ◌++◌, Option, Some, None, length, map}
use Rattle.std.specs.Option.{option_map}
use Rattle.std.specs.Ordering.{nat_cmp}
use Rattle.std.specs.List.{enumerate_from}
use Rattle.std.specs.Map.{lookup, set_value, remove_entry}
use Rattle.std.specs.BTreeMap.{is_at}
use Rattle.directory_rules.specs.State.{Letter, Posted, World}
use Rattle.directory_rules.specs.declared.outcome.Span.{Span}

-- the letter of that number, if it is in the mail
abbrev pub letter_of : World → ℕ → Option Letter
letter_of world number = option_map (λ posted. posted.letter) (lookup (is_at (nat_cmp number)) world.mail)

-- a letter as it is sent
abbrev pub fresh_letter : Letter → Posted
fresh_letter letter = record { letter = letter; fresh = true }

-- the letters, numbered on from those ever sent, and fresh
abbrev pub numbered : World → List Letter → List (ℕ × Posted)
numbered world letters = map (λ e. (e.0, fresh_letter e.1)) (enumerate_from (world.sent + 1) letters)

-- with letters sent
abbrev pub with_sent : World → List Letter → World
with_sent world letters = record world { mail = world.mail ++ numbered world letters; sent = world.sent + length letters }

-- whether so many letters may still be sent; no letter may always be
abbrev pub has_room_for : World → List Letter → Bool
has_room_for world [] = true
has_room_for world (letter ∷ letters) = nat_le (world.sent + length (letter ∷ letters)) world.settings.letters

-- the first and the last number of letters that are sent now
abbrev pub span_of : World → List Letter → Option Span
span_of world [] = None
span_of world (letter ∷ letters) = Some (record { first = world.sent + 1; last = world.sent + length (letter ∷ letters) })

-- with the letter of that number delivered: it stays, and is fresh no more
abbrev pub with_delivered : World → (number : ℕ) → Letter → World
with_delivered world number letter =
    record world { mail = set_value (is_at (nat_cmp number)) world.mail (record { letter = letter; fresh = false }) }

-- without the letter of that number
abbrev pub with_lost : World → (number : ℕ) → World
with_lost world number = record world { mail = remove_entry (is_at (nat_cmp number)) world.mail }

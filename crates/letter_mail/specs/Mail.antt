-- The mail of the code: the letters that were sent and aren't lost.
use Rattle.std.specs.Prelude.{false, ℕ, ◌+◌, ◌-◌, ◌≤◌, ◌&&◌, nat_le, min, Bool, is_some, Some, None, find, List, ◌++◌, length, map, Option}
use Rattle.std.specs.Option.{option_map, option_map_or}
use Rattle.std.specs.List.{enumerate_from, filter}
use Rattle.std.specs.Ordering.{nat_cmp}
use Rattle.std.specs.Map.{lookup, remove_entry, set_value}
use Rattle.std.specs.BTreeMap.{is_at}
use Rattle.silo_address.specs.Silo.{Silo, silo_cmp}
use Rattle.directory_rules.specs.State.{Letter, Posted}
use Rattle.directory_rules.specs.Mail.{fresh_letter}
use Rattle.directory_rules.specs.Laws.{RiseBetween}

-- the letters under their numbers, and how many were ever sent
pub record MailValue : Type 0 where
  pub letters : List (ℕ × Posted)
  pub sent : ℕ

-- the letter of that number, if it is in the mail
abbrev pub letter_in : MailValue → ℕ → Option Letter
letter_in mail number = option_map (λ posted. posted.letter) (lookup (is_at (nat_cmp number)) mail.letters)

-- whether the letter of that number is in the mail, and was never delivered
abbrev pub has_fresh : MailValue → ℕ → Bool
has_fresh mail number = option_map_or (λ posted. posted.fresh) (lookup (is_at (nat_cmp number)) mail.letters) false

-- with letters sent
abbrev pub with_posted : MailValue → List Letter → MailValue
with_posted mail letters = record {
  letters = mail.letters ++ map (λ e. (e.0, fresh_letter e.1)) (enumerate_from (mail.sent + 1) letters);
  sent = mail.sent + length letters;
}

-- without the letters that were sent last, so many of them, lost ones counted
abbrev pub without_last : MailValue → (count : ℕ) → MailValue
without_last mail count = record { letters = filter (λ e. nat_le e.0 (mail.sent - count)) mail.letters; sent = mail.sent - count }

-- with the letter of that number delivered
abbrev pub with_stale : MailValue → (number : ℕ) → Letter → MailValue
with_stale mail number letter = record mail { letters = set_value (is_at (nat_cmp number)) mail.letters (record { letter = letter; fresh = false }) }

-- without the letter of that number
abbrev pub with_lost : MailValue → (number : ℕ) → MailValue
with_lost mail number = record mail { letters = remove_entry (is_at (nat_cmp number)) mail.letters }

-- the number of the first letter that is fresh and for the silo
abbrev pub least_fresh_to : Silo → MailValue → Option ℕ
least_fresh_to silo mail = option_map (λ e. e.0) (find (λ e. e.1.fresh && is_at (silo_cmp e.1.letter.to) silo) mail.letters)

-- whether the letter is fresh and for one of these silos, whatever stands beside them
abbrev pub is_fresh_to : {X : Type 0} → List (Silo × X) → Posted → Bool
is_fresh_to silos posted = posted.fresh && is_some (lookup (is_at (silo_cmp posted.letter.to)) silos)

-- the number of the first letter that is fresh and for one of these silos
abbrev pub least_fresh : {X : Type 0} → List (Silo × X) → MailValue → Option ℕ
least_fresh silos mail = option_map (λ e. e.0) (find (λ e. is_fresh_to silos e.1) mail.letters)

-- the lesser number, where there are two
abbrev pub lesser : Option ℕ → Option ℕ → Option ℕ
lesser None other = other
lesser (Some number) None = Some number
lesser (Some number) (Some other) = Some (min number other)

-- the numbers rise, from 1 at least to the number of letters ever sent, so that there are no more letters than that
pub record HasRisingNumbers (mail : MailValue) : Type 0 where
  pub rising : RiseBetween 0 mail.sent mail.letters
  pub many : length mail.letters ≤ mail.sent

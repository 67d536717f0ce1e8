-- Steps of private functions: what serving a numbered request does to the pieces and to the numbers.
use Rattle.std.specs.Prelude.{◌≡◌, ℕ, List, Option, Some, None}
use Rattle.std.specs.Ordering.{nat_cmp}
use Rattle.std.specs.Map.{lookup, remove_entry, set_value}
use Rattle.std.specs.BTreeMap.{is_at}
use Rattle.silo_address.specs.Silo.{Silo, silo_cmp}
use Rattle.directory_rules.specs.declared.Act.{Act}
use Rattle.directory_rules.specs.declared.Reply.{Reply}
use Rattle.directory_rules.specs.State.{Piece}
use Rattle.directory_rules.specs.Answer.{turned}

-- the reply and the new table are the turn, at the act, of the piece that begins at the start
pub record IsTurnOf (act : Act) (start : ℕ) (old new : List (ℕ × Piece)) (reply : Reply) : Type 0 where
  pub piece : Piece
  pub there : lookup (is_at (nat_cmp start)) old ≡ Some piece
  pub reply_is : reply ≡ (turned act piece.entries).reply
  pub table_is : new ≡ set_value (is_at (nat_cmp start)) old (record piece { entries = (turned act piece.entries).table })

-- the silo's number as it was before
abbrev pub number_before : Silo → Option ℕ → List (Silo × ℕ) → List (Silo × ℕ)
number_before silo None served = remove_entry (is_at (silo_cmp silo)) served
number_before silo (Some number) served = set_value (is_at (silo_cmp silo)) served number

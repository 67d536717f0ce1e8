-- What is lent is the silo's node with the least fresh letter to it.
use Rattle.std.proofs.Common.{◌≡◌, sym, ap, ◌∙◌, ℕ}
use Rattle.std.specs.Prelude.{IsSome, Some, is_some}
use Rattle.std.proofs.lemmas.Option.{same_Some}
use Rattle.silo_address.specs.Silo.{Silo}
use Rattle.directory_rules.specs.Laws.{RiseBetween}
use Rattle.directory_rules.specs.State.{Letter, Node, World}
use Rattle.directory_rules.specs.Mail.{letter_of}
use Rattle.directory_rules.specs.Happens.{node_of}
use Rattle.directory_rules.proofs.Mails.{mail_after}
use Rattle.letter_mail.specs.Mail.{least_fresh_to}
use Rattle.directory_core.specs.WorldMail.{mail_of}
use Rattle.directory_core.specs.Whole.{IsWorld}
use Rattle.directory_core.proofs.Made.{holds}
use Rattle.cluster_board.specs.Due.{IsWorkOf}
use Rattle.cluster_board.proofs.Fresh.{IsMailedTo, mailed_to}

rising : (world : World) → IsWorld world → RiseBetween 0 world.sent world.mail
rising = holds (λ w. RiseBetween 0 w.sent w.mail) (λ settings events are named. (mail_after settings events).rising)

least_mailed : (world : World) (silo : Silo) (number : ℕ) → IsWorld world → least_fresh_to silo (mail_of world) ≡ Some number
    → IsMailedTo world silo number
least_mailed world silo number is least = mailed_to world silo number world.sent (rising world is) least

-- the letter is there
pub letter_there : (world : World) (silo : Silo) (number : ℕ) → IsWorld world → least_fresh_to silo (mail_of world) ≡ Some number
    → IsSome (letter_of world number)
letter_there world silo number is least = ap is_some (least_mailed world silo number is least).mailed

pub work_of : (world : World) (silo : Silo) (number : ℕ) (letter : Letter) (node : Node) → IsWorld world
    → least_fresh_to silo (mail_of world) ≡ Some number
    → node_of world silo ≡ Some node → letter_of world number ≡ Some letter
    → IsWorkOf world silo (record { number = number; letter = letter; node = node })
work_of world silo number letter node is least live mailed =
    let first = least_mailed world silo number is least in
    let same : letter ≡ first.letter = same_Some letter first.letter (sym mailed ∙ first.mailed) in
    let its : letter.to ≡ silo = ap (λ (l : Letter). l.to) same ∙ first.its in
    record {
      current = record { live = ap (λ (s : Silo). node_of world s) its ∙ live; mailed = mailed };
      its = its;
      least = least;
    }

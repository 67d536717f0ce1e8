-- What a silo has to do.
use Rattle.std.specs.Prelude.{◌≡◌, ◌⊎◌, Bool, Some, None, true}
use Rattle.silo_address.specs.Silo.{Silo}
use Rattle.directory_rules.specs.State.{World}
use Rattle.directory_rules.specs.Happens.{node_of}
use Rattle.letter_mail.specs.Mail.{least_fresh_to}
use Rattle.directory_core.specs.WorldMail.{mail_of}
use Rattle.cluster_board.specs.Board.{BoardValue}
use Rattle.cluster_board.specs.Work.{IsCurrent, Work}

-- the silo has no node, or there is no fresh letter to it
abbrev pub HasNoWork : World → Silo → Type 0
HasNoWork world silo = (node_of world silo ≡ None) ⊎ (least_fresh_to silo (mail_of world) ≡ None)

-- the work is the silo's node as it is, with the least fresh letter to it
pub record IsWorkOf (world : World) (silo : Silo) (work : Work) : Type 0 where
  pub current : IsCurrent world work
  pub its : work.letter.to ≡ silo
  pub least : least_fresh_to silo (mail_of world) ≡ Some work.number

-- a silo's worker was let go: it was dismissed, or gave up
pub record DismissalValue : Type 0 where
  pub silo : Silo
  pub gave_up : Bool

-- nothing more is to be done for the silo: all silos are to stop, one gave up, or it has no node
abbrev pub IsDismissed : BoardValue → Silo → Type 0
IsDismissed board silo = (board.stops ≡ true) ⊎ (board.gave_up ≡ true) ⊎ (node_of board.world silo ≡ None)

-- Work that is lent: a letter and the node of its receiver.
use Rattle.std.specs.Prelude.{◌≡◌, ℕ, Some}
use Rattle.directory_rules.specs.State.{Letter, Node, World}
use Rattle.directory_rules.specs.Mail.{letter_of}
use Rattle.directory_rules.specs.Happens.{node_of}

-- a letter, its number in the mail, and its receiver's node
pub record Work : Type 0 where
  pub number : ℕ
  pub letter : Letter
  pub node : Node

-- the receiver has a node equal to the lent one, and the mail an equal letter under that number
pub record IsCurrent (world : World) (work : Work) : Type 0 where
  pub live : node_of world work.letter.to ≡ Some work.node
  pub mailed : letter_of world work.number ≡ Some work.letter

-- What the names in a dump have to keep for its text to be read again.
use Rattle.std.specs.Prelude.{◌<◌, ◌^◌, All, IfSome}
use Rattle.silo_address.specs.Silo.{IsSilo}
use Rattle.silo_address.specs.Grain.{Grain, IsGrain}
use Rattle.silo_address.specs.declared.ActivationId.{ActivationId}
use Rattle.dump_rules.specs.Dump.{DumpPiece, DumpNode, DumpValue}

-- the activation is of a silo, and its count fits
pub record IsActivation (activation : ActivationId) : Type 0 where
  pub silo : IsSilo activation.silo
  pub count : activation.count < 2 ^ 64

-- it is named for a grain
abbrev pub IsNamedFor : Grain → ActivationId → Type 0
IsNamedFor grain activation = IsGrain grain × IsActivation activation

-- all that a piece and a node name
pub record HasPieceNames (piece : DumpPiece) : Type 0 where
  pub entries : All (λ entry. IsNamedFor entry.grain entry.activation) piece.entries
  pub from : IfSome piece.from IsSilo

pub record HasNodeNames (node : DumpNode) : Type 0 where
  pub held : All (λ held. IsNamedFor held.grain held.activation) node.held
  pub pieces : All HasPieceNames node.pieces
  pub ring : All (λ point. IsSilo point.silo) node.ring
  pub silo : IsSilo node.silo

-- so is all that the dump names
pub record HasNames (dump : DumpValue) : Type 0 where
  pub nodes : All HasNodeNames dump.nodes
  pub rows : All (λ row. IsSilo row.silo) dump.rows

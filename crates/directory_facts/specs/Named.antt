-- What a node names: silos, grains and counts in their ranges.
use Rattle.std.specs.Prelude.{⊤, ◌<◌, ◌^◌, All}
use Rattle.silo_address.specs.Silo.{IsSilo}
use Rattle.silo_address.specs.Grain.{IsGrain}
use Rattle.silo_address.specs.declared.Entry.{Entry}
use Rattle.directory_rules.specs.declared.piece_state.PieceState.{PieceState}
use Rattle.directory_rules.specs.declared.piece_state.PieceState.TheVariants.{Settled, Awaiting, Recovering}
use Rattle.directory_rules.specs.Host.{entry_of}
use Rattle.directory_rules.specs.State.{Table, Node}

-- the entry is a grain's, and of an activation on a silo, by a count below 2^64
pub record IsNamed (entry : Entry) : Type 0 where
  pub grain : IsGrain entry.grain
  pub silo : IsSilo entry.activation.silo
  pub count : entry.activation.count < 2 ^ 64

-- so are all entries of a table
abbrev pub AreNamed : Table → Type 0
AreNamed table = All (λ e. IsNamed e.1) table

-- who is awaited is a silo
abbrev pub AwaitsSilo : PieceState → Type 0
AwaitsSilo Settled = ⊤
AwaitsSilo (Awaiting from) = IsSilo from
AwaitsSilo Recovering = ⊤

-- the node is of a silo; so are the points of its ring, its activations, its tables and whom its pieces await
pub record HasNames (node : Node) : Type 0 where
  pub silo : IsSilo node.host.silo
  pub held : All (λ e. IsNamed (entry_of node.host e.0 e.1)) node.host.held
  pub tables : All (λ e. AreNamed e.1.entries) node.holding.pieces
  pub awaited : All (λ e. AwaitsSilo e.1.state) node.holding.pieces
  pub ring : All (λ point. IsSilo point.silo) node.ring.points

-- The invariant whole.
use Rattle.directory_protocol.specs.Setting.{Setting}
use Rattle.directory_protocol.specs.World.{World}
use Rattle.directory_protocol.specs.Levels.{StructureOf, LevelsOf}
use Rattle.directory_protocol.specs.Requests.{NumbersOf, SpentOf}
use Rattle.directory_protocol.specs.Notices.{NoticesOf}
use Rattle.directory_protocol.specs.Authority.{EntriesOf, ConfirmedOf, ReportedOf}

-- what is kept about who settles what, whatever is in the tables
pub record Placed (m : Setting) (w : World) : Type 0 where
  pub structure : StructureOf m w
  pub levels : LevelsOf m w

-- what is kept about requests and about activations that close
pub record Asked (m : Setting) (w : World) : Type 0 where
  pub numbers : NumbersOf m w
  pub notices : NoticesOf w
  pub spent : SpentOf m w

-- what is kept about tables, firm activations, snapshots and reports
pub record Backed (m : Setting) (w : World) : Type 0 where
  pub entries : EntriesOf m w
  pub confirmed : ConfirmedOf m w
  pub reported : ReportedOf m w

-- The state of the abstract protocol. What a silo knows is kept by topic, as a function of the silo.
use Rattle.std.specs.Prelude.{ℕ, Bool, true, false, cond, Option, Some, None, List, []}
use Rattle.silo_address.specs.Silo.{Silo}
use Rattle.silo_address.specs.Grain.{Grain}
use Rattle.silo_address.specs.declared.activation.ActivationId.{ActivationId}
use Rattle.directory_protocol.specs.Letters.{Purpose, Register, Deregister, Request, Reply, Snapshot, Report, Offer}
use Rattle.directory_protocol.specs.Setting.{Setting}

-- an activation that a silo holds, in its phase. It is told by its count; asking and closing have a request outstanding
pub data Held : Type 0 where
  Asking : (count number : ℕ) → (previous : Option ActivationId) → Held
  Firm : (count : ℕ) → Held
  Closing : (count number : ℕ) → Held

abbrev pub count_of : Held → ℕ
count_of (Asking count number previous) = count
count_of (Firm count) = count
count_of (Closing count number) = count

-- the number of the outstanding request of that purpose, if there is one
abbrev pub outstanding : Purpose → Held → Option ℕ
outstanding Register (Asking count number previous) = Some number
outstanding Register (Firm count) = None
outstanding Register (Closing count number) = None
outstanding Deregister (Asking count number previous) = None
outstanding Deregister (Firm count) = None
outstanding Deregister (Closing count number) = Some number

-- the same activation in the same phase, its request under another number
abbrev pub renumbered : ℕ → Held → Held
renumbered n (Asking count number previous) = Asking count n previous
renumbered n (Firm count) = Firm count
renumbered n (Closing count number) = Closing count n

-- the activation whose place it is to take
abbrev pub previous_of : Held → Option ActivationId
previous_of (Asking count number previous) = previous
previous_of (Firm count) = None
previous_of (Closing count number) = None

abbrev pub is_closing : Held → Bool
is_closing (Asking count number previous) = false
is_closing (Firm count) = false
is_closing (Closing count number) = true

-- the count of a firm activation
abbrev pub firm_count : Option Held → Option ℕ
firm_count None = None
firm_count (Some (Asking count number previous)) = None
firm_count (Some (Firm count)) = Some count
firm_count (Some (Closing count number)) = None

-- an entry, unless its silo is dead in the view of that version
abbrev pub surviving : Setting → (version : ℕ) → Option ActivationId → Option ActivationId
surviving m version None = None
surviving m version (Some a) = cond (m.alive version a.silo) (Some a) None

pub record World : Type 0 where
  -- the current version
  pub now : ℕ
  -- each silo's: the version seen, the hashes settled, the table
  pub seen : Silo → ℕ
  pub settled : Silo → (hash : ℕ) → Bool
  pub table : Silo → Grain → Option ActivationId
  -- each silo's: the activations held, the next request number and count
  pub held : Silo → Grain → Option Held
  pub next_number : Silo → ℕ
  pub next_count : Silo → ℕ
  -- the last number that a silo served of each silo
  pub served : (server sender : Silo) → ℕ
  -- the letters ever sent
  pub requests : List Request
  pub replies : List Reply
  pub snapshots : List Snapshot
  pub reports : List Report
  pub offers : List Offer
  -- history, which no action reads: the greatest version at which a hash was ever settled, and what the last settled
  -- table had for a grain
  pub level : (hash : ℕ) → ℕ
  pub authority : Grain → Option ActivationId

-- nobody has seen anything; numbers and counts begin at 1
abbrev pub start : World
start =
    record {
      now = 0;
      seen = λ s. 0;
      settled = λ s h. false;
      table = λ s g. None;
      held = λ s g. None;
      next_number = λ s. 1;
      next_count = λ s. 1;
      served = λ s t. 0;
      requests = [];
      replies = [];
      snapshots = [];
      reports = [];
      offers = [];
      level = λ h. 0;
      authority = λ g. None;
    }

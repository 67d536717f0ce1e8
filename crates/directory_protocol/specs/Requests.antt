-- The invariant of request numbers: a request or reply that could still do harm is never served or accepted again.
use Rattle.std.specs.Prelude.{◌≡◌, ◌≢◌, ◌⊎◌, ◌<◌, ◌≤◌, ℕ, true, Option, Some, List}
use Rattle.silo_address.specs.Silo.{Silo}
use Rattle.silo_address.specs.Grain.{Grain}
use Rattle.directory_protocol.specs.Setting.{Setting}
use Rattle.directory_protocol.specs.Letters.{Purpose, Register, Request, Reply, Sent}
use Rattle.directory_protocol.specs.World.{World, Held, count_of, outstanding}
use Rattle.directory_protocol.specs.Actions.{Counts}

-- numbers: they only rise, and an outstanding one belongs to the request that was last sent for its activation
pub record Numbers
    (m : Setting) (seen : Silo → ℕ) (held : Silo → Grain → Option Held) (next_number : Silo → ℕ) (requests : List Request)
    (replies : List Reply) : Type 0 where
  pub outstanding_used :
      (s : Silo) (g : Grain) (x : Held) (purpose : Purpose) (n : ℕ) → held s g ≡ Some x → outstanding purpose x ≡ Some n
      → n < next_number s
  pub request_used : (r : Request) → Sent r requests → r.number < next_number r.sender
  pub reply_used : (y : Reply) → Sent y replies → y.number < next_number y.receiver
  -- a request and its reply are of a version that the sender has seen, and it was a member of
  pub request_seen : (r : Request) → Sent r requests → r.version ≤ seen r.sender
  pub reply_seen : (y : Reply) → Sent y replies → y.version ≤ seen y.receiver
  pub request_member : (r : Request) → Sent r requests → 1 ≤ r.version → m.member r.version r.sender ≡ true
  -- a request under an outstanding number is about the activation whose number it is
  pub same_grain :
      (r : Request) (g : Grain) (x : Held) → Sent r requests → held r.sender g ≡ Some x → outstanding r.purpose x ≡ Some r.number
      → g ≡ r.grain
  pub same_count :
      (r : Request) (g : Grain) (x : Held) → Sent r requests → held r.sender g ≡ Some x → outstanding r.purpose x ≡ Some r.number
      → count_of x ≡ r.count
  -- no registration of an activation has a greater number than its outstanding request
  pub newest :
      (r : Request) (x : Held) (purpose : Purpose) (n : ℕ) → Sent r requests → r.purpose ≡ Register
      → held r.sender r.grain ≡ Some x → count_of x ≡ r.count → outstanding purpose x ≡ Some n → r.number ≤ n

-- no request of the silo t about h, of a version up to k and a number up to n, will be served any more
pub record IsSpent
    (m : Setting) (now : ℕ) (seen : Silo → ℕ) (served : Silo → Silo → ℕ) (level : ℕ → ℕ) (t : Silo) (h k n : ℕ) : Type 0 where
  pub reached : k ≤ level h
  -- the owner at the level, if that is k, has gone past it or has served the number
  pub used : level h ≡ k → (s : Silo) → m.owner k h ≡ Some s → m.alive now s ≡ true → (k < seen s) ⊎ (n ≤ served s t)

-- spent: a registration whose activation is gone, and the number of a reply that counts
pub record Spent
    (m : Setting) (now : ℕ) (seen : Silo → ℕ) (held : Silo → Grain → Option Held) (served : Silo → Silo → ℕ) (level : ℕ → ℕ)
    (requests : List Request) (replies : List Reply) : Type 0 where
  pub let_go :
      (r : Request) → Sent r requests → r.purpose ≡ Register
      → ((x : Held) → held r.sender r.grain ≡ Some x → count_of x ≢ r.count)
      → IsSpent m now seen served level r.sender (m.hash r.grain) r.version r.number
  pub replied :
      (y : Reply) (g : Grain) (x : Held) → Sent y replies → Counts seen held y g x
      → IsSpent m now seen served level y.receiver (m.hash g) y.version y.number

abbrev pub NumbersOf : Setting → World → Type 0
NumbersOf m w = Numbers m w.seen w.held w.next_number w.requests w.replies

abbrev pub SpentOf : Setting → World → Type 0
SpentOf m w = Spent m w.now w.seen w.held w.served w.level w.requests w.replies

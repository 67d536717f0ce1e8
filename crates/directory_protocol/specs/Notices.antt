-- The invariant of closing notices: an activation that some letter says is closing will never be firm again, and no
-- later report names it.
use Rattle.std.specs.Prelude.{◌≡◌, ◌<◌, ◌≤◌, ℕ, true, Option, Some, List}
use Rattle.silo_address.specs.Silo.{Silo}
use Rattle.silo_address.specs.Grain.{Grain}
use Rattle.silo_address.specs.declared.activation.ActivationId.{ActivationId}
use Rattle.directory_protocol.specs.Letters.{Deregister, Request, named, Report, Offer, Sent}
use Rattle.directory_protocol.specs.World.{World, Held, Asking, count_of, is_closing}

-- what a closing notice of version k says of the activation p of grain g: it was started, its silo holds it closing or
-- not at all, and reports that name it are of versions up to k
pub record IsGivenUp
    (held : Silo → Grain → Option Held) (next_count : Silo → ℕ) (reports : List Report) (p : ActivationId) (g : Grain) (k : ℕ) : Type 0 where
  pub started : p.count < next_count p.silo
  pub closing : (x : Held) → held p.silo g ≡ Some x → count_of x ≡ p.count → is_closing x ≡ true
  pub unreported : (x : Report) → Sent x reports → x.sender ≡ p.silo → x.firm g ≡ Some p.count → x.version ≤ k

-- the closing notices: a deregistration, an offer, a registration with a previous activation, and an asking activation
-- that has one
pub record Notices
    (seen : Silo → ℕ) (held : Silo → Grain → Option Held) (next_count : Silo → ℕ) (requests : List Request) (offers : List Offer)
    (reports : List Report) : Type 0 where
  pub counted : (s : Silo) (g : Grain) (x : Held) → held s g ≡ Some x → count_of x < next_count s
  pub deregistered :
      (r : Request) → Sent r requests → r.purpose ≡ Deregister → IsGivenUp held next_count reports (named r) r.grain r.version
  pub replaced :
      (r : Request) (p : ActivationId) → Sent r requests → r.previous ≡ Some p
      → IsGivenUp held next_count reports p r.grain r.version
  pub offered : (o : Offer) → Sent o offers → IsGivenUp held next_count reports o.activation o.grain o.version
  pub replacing :
      (s : Silo) (g : Grain) (c n : ℕ) (p : ActivationId) → held s g ≡ Some (Asking c n (Some p))
      → IsGivenUp held next_count reports p g (seen s)

abbrev pub NoticesOf : World → Type 0
NoticesOf w = Notices w.seen w.held w.next_count w.requests w.offers w.reports

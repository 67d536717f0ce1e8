use Rattle.std.proofs.Common.{◌≡◌, ℕ, None, cond, is_some}
use Rattle.host_activations.specs.Asked.{asked_under}
use Rattle.host_activations.proofs.outstanding.OutstandingRequests.remove_all.Given as goal

-- without those that are left, all are gone
abbrev pub invariant-loop-number : goal.invariant-loop-number
invariant-loop-number l =
    (n : ℕ) → cond (is_some (asked_under n l.number-iterator)) None (asked_under n l.self.entries) ≡ cond
    (is_some (asked_under n l.gone.entries)) None (asked_under n l.initial.self.entries)

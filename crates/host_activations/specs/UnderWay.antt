-- How many activations ask to be entered, and how many to be taken out.
use Rattle.std.specs.Prelude.{ℕ, ◌+◌, Bool, if◌then◌else◌, List, Option, Some, None, count_by}
use Rattle.silo_address.specs.Grain.{Grain}
use Rattle.directory_rules.specs.declared.Held.{Held}
use Rattle.directory_rules.specs.declared.Phase.{Phase}
use Rattle.directory_rules.specs.Host.{is_asking, is_closing}
use Rattle.host_activations.specs.declared.under_way.UnderWay.{UnderWay}

-- 1 where it is so
abbrev pub one_if : Bool → ℕ
one_if b = if b then 1 else 0

-- 1 where there is a phase that passes the test
abbrev pub one_if_some : (Phase → Bool) → Option Phase → ℕ
one_if_some test None = 0
one_if_some test (Some phase) = one_if (test phase)

-- with one more in that phase
abbrev pub with_phase : UnderWay → Phase → UnderWay
with_phase counts phase = record { asking = counts.asking + one_if (is_asking phase); closing = counts.closing + one_if (is_closing phase) }

-- how many of these are in a phase that passes the test
abbrev pub in_phase : (Phase → Bool) → List (Grain × Held) → ℕ
in_phase test es = count_by (λ e. test e.1.phase) es

-- how many of these ask and close
abbrev pub under_way_in : List (Grain × Held) → UnderWay
under_way_in es = record { asking = in_phase is_asking es; closing = in_phase is_closing es }

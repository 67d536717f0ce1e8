-- The rule's host of some fields.
use Rattle.std.proofs.Common.{◌≡◌, ap, ℕ, ◌+◌, ◌^◌, ◌≤◌, List, true, Some, arith}
use Rattle.silo_address.specs.Silo.{Silo}
use Rattle.silo_address.specs.Grain.{Grain}
use Rattle.directory_rules.specs.declared.Held.{Held}
use Rattle.directory_rules.specs.declared.Phase.{Phase}
use Rattle.directory_rules.specs.declared.Phase.TheVariants.{Asking, Firm, Closing}
use Rattle.directory_rules.specs.State.{Host}
use Rattle.directory_rules.specs.Host.{is_asking_under, is_closing_under}
use Rattle.host_activations.specs.declared.asked.OutstandingRequest.{OutstandingRequest}
use Rattle.host_activations.specs.Numbers.{number_in}
use Rattle.host_activations.specs.Asked.{finds_in}
use Rattle.host_activations.specs.Begun.{IsNext}
use Rattle.std.proofs.lemmas.Bool.{eqb-true}

abbrev pub made : Silo → (next count : ℕ) → List (Grain × Held) → List (ℕ × Grain) → Host
made silo next count held finds = record { silo = silo; next_number = next; next_count = count; held = held; finds = finds }

abbrev pub meant : Silo → (next count : ℕ) → List (Grain × Held) → List (ℕ × OutstandingRequest) → Host
meant silo next count held out = made silo next count held (finds_in out)

pub step_on : (number : ℕ) → IsNext number → number ≤ 2 ^ 60 → IsNext (number + 1)
step_on number is within = record { above = omega arith; within = omega (within, arith) }

pub asking_has : (number : ℕ) (phase : Phase) → is_asking_under number phase ≡ true → number_in phase ≡ Some number
asking_has number (Asking its) is = ap (λ (n : ℕ). Some n) (eqb-true its number is)
asking_has number Firm is = cc
asking_has number (Closing its) is = cc

pub closing_has : (number : ℕ) (phase : Phase) → is_closing_under number phase ≡ true → number_in phase ≡ Some number
closing_has number (Asking its) is = cc
closing_has number Firm is = cc
closing_has number (Closing its) is = ap (λ (n : ℕ). Some n) (eqb-true its number is)

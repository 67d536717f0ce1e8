-- Worked tokens: they are the same only after a close, and then even where the silo of the earlier one died before the later one was
-- firm. What is given up before it is firm has none.
use Rattle.std.specs.Prelude.{◌≡◌, ℕ, List, [], ◌∷◌, ◌++◌, map, filter, flat_map, None}
use Rattle.silo_address.specs.Silo.{Silo}
use Rattle.directory_rules.specs.declared.piece_state.PieceState.TheVariants.{Settled}
use Rattle.directory_rules.specs.Host.{is_firm}
use Rattle.directory_rules.specs.declared.own_step.OwnStep.TheVariants.{Wake, Close, Cancel}
use Rattle.directory_rules.specs.Worked.{silo_a, silo_b, grain_a}
use Rattle.directory_rules.specs.Membership.{Join, Die}
use Rattle.deployment_headline.specs.Deployment.{Deployment, process_of}
use Rattle.deployment_headline.specs.Steps.{Step, Decide, Tell, See, Do, Receive, deployed}
use Rattle.deployment_headline.specs.Worked.{worked_settings, all_told, opening}

-- the firm activations, each with its silo, its count, and the version that the silo has seen
abbrev pub all_firm : Deployment → List (Silo × ℕ × ℕ)
all_firm d = flat_map (λ e. map (λ x. (e.0, x.1.count, e.1.node.view.version)) (filter (λ x. is_firm x.1.phase) e.1.node.host.held)) d.processes

-- the grain's activation is closed, and another begins where it was
abbrev pub closing_and_again : List Step
closing_and_again = Do silo_a (Close grain_a) ∷ Receive silo_a 4 ∷ Receive silo_a 5 ∷ Do silo_a (Wake grain_a) ∷ Receive silo_a 6 ∷ Receive silo_a 7 ∷ []

-- two silos join before either has seen a version; the second one, which owns the grain's hash, finds no snapshot, and recovers. The
-- grain is activated on the first one
abbrev pub two_at_once : List Step
two_at_once =
    Decide (Join silo_a (0 ∷ [])) ∷ Decide (Join silo_b (5 ∷ [])) ∷ Tell silo_a 0 ∷ Tell silo_a 1 ∷ Tell silo_b 0 ∷ Tell silo_b 1 ∷ See silo_a 2 ∷ See silo_b 2
    ∷ Receive silo_a 2 ∷ Receive silo_b 3 ∷ Receive silo_a 4 ∷ Receive silo_b 5 ∷ Receive silo_b 6 ∷ Receive silo_b 7
    ∷ Do silo_a (Wake grain_a) ∷ Receive silo_b 8 ∷ Receive silo_a 9 ∷ []

-- it is closed and its entry removed; the second silo is woken for the grain and enters its own; the first one dies, closing still; and
-- only then does the reply come
abbrev pub dying_while_closing : List Step
dying_while_closing = Do silo_a (Close grain_a) ∷ Receive silo_b 10 ∷ Do silo_b (Wake grain_a) ∷ Receive silo_b 12 ∷ Decide (Die silo_a) ∷ Receive silo_b 13 ∷ []

-- or it stays firm, and its silo dies: the second silo, which is woken for the grain, has to see that first
abbrev pub dying_while_firm : List Step
dying_while_firm = Do silo_b (Wake grain_a) ∷ Decide (Die silo_a) ∷ Tell silo_b 2 ∷ See silo_b 3 ∷ Receive silo_b 12 ∷ Receive silo_b 13 ∷ []

-- a silo that has the circle settled is woken for the grain
abbrev pub waking : List Step
waking = Decide (Join silo_a (0 ∷ [])) ∷ Tell silo_a 0 ∷ See silo_a 1 ∷ Receive silo_a 0 ∷ Receive silo_a 1 ∷ Do silo_a (Wake grain_a) ∷ []

-- it gives the activation up once that is entered, and then the reply comes which says so; then it is woken again
abbrev pub giving_up : List Step
giving_up = Receive silo_a 2 ∷ Do silo_a (Cancel grain_a) ∷ Receive silo_a 3 ∷ []

abbrev pub beginning_again : List Step
beginning_again = Receive silo_a 4 ∷ Receive silo_a 5 ∷ Do silo_a (Wake grain_a) ∷ Receive silo_a 6 ∷ Receive silo_a 7 ∷ []

-- or it gives it up at once, and the registration comes behind the deregistration, which outdates it: nothing is entered
abbrev pub entering_too_late : List Step
entering_too_late = Do silo_a (Cancel grain_a) ∷ Receive silo_a 3 ∷ Receive silo_a 2 ∷ Receive silo_a 4 ∷ Receive silo_a 5 ∷ []

pub record WorkedTokens : Type 0 where
  pub opened : all_firm (deployed worked_settings opening) ≡ (silo_a, 1, 1) ∷ []
  pub closed : all_firm (deployed worked_settings (opening ++ closing_and_again)) ≡ (silo_a, 2, 1) ∷ []
  pub two : all_firm (deployed worked_settings two_at_once) ≡ (silo_a, 1, 2) ∷ []
  pub died_closing : all_firm (deployed worked_settings (two_at_once ++ dying_while_closing)) ≡ (silo_b, 1, 2) ∷ []
  pub dead : process_of (deployed worked_settings (two_at_once ++ dying_while_closing)) silo_a ≡ None
  pub died_firm : all_firm (deployed worked_settings (two_at_once ++ dying_while_firm)) ≡ (silo_b, 1, 3) ∷ []
  pub given_up : all_firm (deployed worked_settings (waking ++ giving_up)) ≡ []
  pub begun_again : all_firm (deployed worked_settings (waking ++ giving_up ++ beginning_again)) ≡ (silo_a, 2, 1) ∷ []
  pub too_late : all_told (deployed worked_settings (waking ++ entering_too_late)) ≡ (1, 1, [], (Settled, 0) ∷ []) ∷ []

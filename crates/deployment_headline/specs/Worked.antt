-- A worked deployment: an activation begins, its entry is handed over, it migrates, its first silo dies, a range is recovered, and a
-- version is skipped.
use Rattle.std.specs.Prelude.{◌≡◌, ℕ, List, [], ◌∷◌, ◌++◌, length, map}
use Rattle.hash_ring.specs.declared.Hashing.TheVariants.{Stated}
use Rattle.membership_view.specs.Worked.{silo_a_again}
use Rattle.directory_rules.specs.declared.held.Phase.{Phase}
use Rattle.directory_rules.specs.declared.held.Phase.TheVariants.{Firm, Closing}
use Rattle.directory_rules.specs.declared.piece_state.PieceState.{PieceState}
use Rattle.directory_rules.specs.declared.piece_state.PieceState.TheVariants.{Settled, Awaiting, Recovering}
use Rattle.directory_rules.specs.Settings.{Settings, directory_settings}
use Rattle.directory_rules.specs.declared.own_step.OwnStep.TheVariants.{Wake, Offer}
use Rattle.directory_rules.specs.Worked.{silo_a, silo_b, silo_c, grain_a}
use Rattle.directory_rules.specs.Membership.{Join, Leave, Die}
use Rattle.silo_rules.specs.SiloValue.{SiloValue}
use Rattle.deployment_headline.specs.Deployment.{Deployment}
use Rattle.deployment_headline.specs.Steps.{Step, Decide, Tell, Begin, See, Do, Receive, deployed}

-- hashes are as the grains state them: that of the grain is 7
abbrev pub worked_settings : Settings
worked_settings = directory_settings Stated 30 0

-- what is told of a process: the version that it was told, the one that it has seen, the phases of its activations, and the states of
-- its pieces with the number of their entries
abbrev pub told_of : SiloValue → ℕ × ℕ × List Phase × List (PieceState × ℕ)
told_of s =
    (s.membership.views.version, s.node.view.version, map (λ e. e.1.phase) s.node.host.held, map (λ e. (e.1.state, length e.1.entries)) s.node.holding.pieces)

abbrev pub all_told : Deployment → List (ℕ × ℕ × List Phase × List (PieceState × ℕ))
all_told d = map (λ e. told_of e.1) d.processes

-- the first silo can't see its join before it is told of it, nor be told of the second change before the first; it recovers the circle
-- from itself, is woken for the grain, and takes the reply twice
abbrev pub opening : List Step
opening =
    Decide (Join silo_a (0 ∷ [])) ∷ See silo_a 1 ∷ Tell silo_a 1 ∷ Tell silo_a 0 ∷ See silo_a 1 ∷ Receive silo_a 0 ∷ Receive silo_a 1
    ∷ Do silo_a (Wake grain_a) ∷ Receive silo_a 2 ∷ Receive silo_a 3 ∷ Receive silo_a 3 ∷ []

-- a second silo gets the grain's hash: it awaits the first one's entries there
abbrev pub joining : List Step
joining = Decide (Join silo_b (5 ∷ [])) ∷ Tell silo_b 0 ∷ Tell silo_b 1 ∷ Tell silo_a 1 ∷ Tell silo_a 0 ∷ See silo_a 2 ∷ See silo_b 2 ∷ []

-- its ask comes astray and then to the first silo, which hands over
abbrev pub handing : List Step
handing = Receive silo_b 4 ∷ Receive silo_a 4 ∷ Receive silo_b 5 ∷ Receive silo_a 6 ∷ []

-- the activation migrates; its old one's close is never answered
abbrev pub migrating : List Step
migrating = Do silo_a (Offer grain_a silo_b) ∷ Receive silo_b 7 ∷ Receive silo_b 8 ∷ Receive silo_b 9 ∷ []

-- the first silo dies; the second one recovers what that had owned
abbrev pub recovering : List Step
recovering = Decide (Die silo_a) ∷ See silo_a 2 ∷ Tell silo_b 2 ∷ See silo_b 3 ∷ []

abbrev pub recovered : List Step
recovered = Receive silo_b 10 ∷ Receive silo_b 11 ∷ []

-- a third silo joins and leaves, and the second one sees no version with its points: it keeps what it has
abbrev pub skipping : List Step
skipping = Decide (Join silo_c (9 ∷ [])) ∷ Decide (Leave silo_c) ∷ Tell silo_b 3 ∷ Tell silo_b 4 ∷ See silo_b 5 ∷ []

-- a fourth silo, at the first one's endpoint, begins with the view before its join, in which the first silo is Dead: it is told nothing of what
-- was before; it can't begin once more, nor with the view in which it is. It awaits the second one's entries of what it owns
abbrev pub beginning : List Step
beginning =
    Decide (Join silo_a_again (0 ∷ [])) ∷ Begin silo_a_again 6 ∷ Begin silo_a_again 5 ∷ Begin silo_a_again 5 ∷ Tell silo_a_again 4 ∷ Tell silo_a_again 5
    ∷ See silo_a_again 5 ∷ See silo_a_again 6 ∷ []

-- what is told after each of these
pub record WorkedDeployment : Type 0 where
  pub opened : all_told (deployed worked_settings opening) ≡ (1, 1, Firm ∷ [], (Settled, 1) ∷ []) ∷ []
  pub joined : all_told (deployed worked_settings (opening ++ joining)) ≡ (2, 2, Firm ∷ [], (Settled, 0) ∷ []) ∷ (2, 2, [], (Awaiting silo_a, 0) ∷ []) ∷ []
  pub handed : all_told (deployed worked_settings (opening ++ joining ++ handing)) ≡ (2, 2, Firm ∷ [], (Settled, 0) ∷ []) ∷ (2, 2, [], (Settled, 1) ∷ []) ∷ []
  pub migrated : all_told (deployed worked_settings (opening ++ joining ++ handing ++ migrating)) ≡ (2, 2, Closing 2 ∷ [], (Settled, 0) ∷ []) ∷ (2, 2, Firm ∷ [], (Settled, 1) ∷ []) ∷ []
  pub recovers : all_told (deployed worked_settings (opening ++ joining ++ handing ++ migrating ++ recovering)) ≡ (3, 3, Firm ∷ [], (Recovering, 0) ∷ (Settled, 1) ∷ []) ∷ []
  pub again_whole : all_told (deployed worked_settings (opening ++ joining ++ handing ++ migrating ++ recovering ++ recovered)) ≡ (3, 3, Firm ∷ [], (Settled, 0) ∷ (Settled, 1) ∷ []) ∷ []
  pub skipped : all_told (deployed worked_settings (opening ++ joining ++ handing ++ migrating ++ recovering ++ recovered ++ skipping)) ≡ (5, 5, Firm ∷ [], (Settled, 1) ∷ []) ∷ (0, 0, [], []) ∷ []
  pub begun : all_told (deployed worked_settings (opening ++ joining ++ handing ++ migrating ++ recovering ++ recovered ++ skipping ++ beginning)) ≡ (6, 6, [], (Awaiting silo_b, 0) ∷ []) ∷ (5, 5, Firm ∷ [], (Settled, 1) ∷ []) ∷ (0, 0, [], []) ∷ []

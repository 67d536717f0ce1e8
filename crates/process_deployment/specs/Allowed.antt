-- What the promise stands on: which lines may come to a process.
use Rattle.std.specs.Prelude.{◌≡◌, ⊤, true, false, ℕ, ◌-◌, ◌≤◌, ◌≢◌, List, [], ◌∷◌, length, take, fold, All, Contains, IfSome, Option, Some, None, Result, Ok, Err, slice_get}
use Rattle.std.specs.Result.{result_unwrap_or}
use Rattle.texts.specs.Words.{line_feed}
use Rattle.silo_address.specs.Silo.{IsSilo}
use Rattle.directory_rules.specs.State.{Letter}
use Rattle.directory_rules.specs.Settings.{Settings}
use Rattle.directory_rules.specs.Membership.{Change, Join, Leave, Die, Listed, Membership, changed, first_membership, listing_of}
use Rattle.silo_rules.specs.SiloValue.{SiloValue, told_of_its_join}
use Rattle.silo_rules.specs.Told.{MakesVersion, told}
use Rattle.silo_rules.specs.Begun.{told_view}
use Rattle.deployment_headline.specs.Steps.{IsChange}
use Rattle.process_rules.specs.ReadLine.{Asked, Joined, Leaving, Dead, Begin, See, Do, Receive, read_silo_line}
use Rattle.process_rules.specs.Answer.{is_anothers_join}
use Rattle.process_rules.specs.Output.{said}
use Rattle.process_deployment.specs.Cluster.{Process, Cluster, process_at, all_lines}
use Rattle.process_deployment.specs.Steps.{Step, Decide, Read, after}

-- some process wrote a line that says the letter
pub record IsWritten (c : Cluster) (letter : Letter) : Type 0 where
  pub line : List ℕ
  pub wrote : Contains (all_lines c) line
  pub says : read_silo_line c.settings.hashing line ≡ Ok (Some (Receive letter))

-- a change by which the silo knows one version more is the one that was decided for that version. Of a change that it knows or refuses
-- nothing is asked
abbrev pub IsDecided : (changes : List Change) → SiloValue → (version : ℕ) → Change → Type 0
IsDecided changes s version change = MakesVersion s.membership version (told s.node.settings s.membership version change) → slice_get changes (version - 1) ≡ Some change

-- what these changes make, the first one first
abbrev pub decided_by : Settings → List Change → Membership
decided_by settings changes = fold (λ m change. result_unwrap_or (changed settings m change) m) (first_membership settings) changes

-- a view with which the silo begins, if it takes it, is of a version that was decided, and makes the same as the view of that version which
-- the changes decided made: so its silos may come in any order. Of one that it refuses nothing is asked
abbrev pub IsDecidedView : (changes : List Change) → SiloValue → (version : ℕ) → List Listed → Type 0
IsDecidedView changes s version rows =
    (m : Membership) → told_view s.node.settings s.membership s.node.host.silo version rows ≡ Ok m
    → (version ≤ length changes) × (told_view s.node.settings s.membership s.node.host.silo version (listing_of (decided_by s.node.settings (take version changes)) version) ≡ Ok m)

-- a join that the process doesn't refuse as another process's, by its token
abbrev pub TakesJoin : Process → Asked → Type 0
TakesJoin p join = is_anothers_join p.token join p.silo.node.host.silo ≡ false

-- what may be asked of a process whose silo isn't Dead by the changes decided: a letter to it was written, unless the silo wasn't told of
-- its own join yet, and refuses it. All else may be asked of it at any time
abbrev pub MayAsk : Cluster → Process → Asked → Type 0
MayAsk c p (Joined version silo token places) = TakesJoin p (Joined version silo token places) → IsDecided c.changes p.silo version (Join silo places)
MayAsk c p (Leaving version silo) = IsDecided c.changes p.silo version (Leave silo)
MayAsk c p (Dead version silo) = IsDecided c.changes p.silo version (Die silo)
MayAsk c p (Begin version rows) = IsDecidedView c.changes p.silo version rows
MayAsk c p (Receive letter) = letter.to ≡ p.silo.node.host.silo → told_of_its_join p.silo ≡ true → IsWritten c letter
MayAsk c p other = ⊤

-- what may be asked of one that is Dead by them: neither a step of its own nor a letter to it
abbrev pub MayAskDead : SiloValue → Asked → Type 0
MayAskDead s (See version) = ⊥
MayAskDead s (Do step) = ⊥
MayAskDead s (Receive letter) = letter.to ≢ s.node.host.silo
MayAskDead s other = ⊤

-- a line may come if what it asks for may be asked. One that asks for nothing may come, and so may one with a fault
abbrev pub IfAsks : Result (Option Asked) ℕ → (Asked → Type 0) → Type 0
IfAsks (Ok (Some asked)) May = May asked
IfAsks (Ok None) May = ⊤
IfAsks (Err fault) May = ⊤

-- the bytes of a line: a line feed would end it
abbrev pub IsLine : List ℕ → Type 0
IsLine line = All (λ byte. byte ≢ line_feed) line

-- a step that may come
unfoldable pub May : Cluster → Step → Type 0
May c (Decide change) = IsChange change
May c (Read silo line) =
    IsSilo silo × IsLine line
    × IfSome (process_at silo c.processes) (λ p. IfAsks (said line p.silo) (MayAsk c p))
    × IfSome (process_at silo c.dead) (λ p. IfAsks (said line p.silo) (MayAskDead p.silo))

-- steps that may come one after the other
unfoldable pub MayAll : Cluster → List Step → Type 0
MayAll c [] = ⊤
MayAll c (step ∷ steps) = May c step × MayAll (after c step) steps

-- Requests: one that a silo had outstanding when it was nudged is outstanding no more once its letter came to an owner, in its turn, and
-- the reply came back. A nudge gives each request that it renews a new number, so this tells of the time until the next one.
use Rattle.std.specs.Prelude.{⊤, ◌≡◌, ℕ, ◌<◌, ◌≤◌, true, List, Contains, Some, slice_get}
use Rattle.silo_address.specs.Silo.{Silo}
use Rattle.directory_rules.specs.declared.act.Act.{Act}
use Rattle.directory_rules.specs.declared.act.Request.{Request}
use Rattle.directory_rules.specs.declared.piece_state.PieceState.TheVariants.{Settled}
use Rattle.directory_rules.specs.Answer.{is_numbered, piece_with}
use Rattle.directory_rules.specs.State.{Letter, Request_letter, Node, Piece}
use Rattle.directory_rules.specs.declared.own_step.OwnStep.{OwnStep}
use Rattle.directory_rules.specs.declared.own_step.OwnStep.TheVariants.{Nudge, NudgeGrain}
use Rattle.directory_rules.specs.Host.{grain_of}
use Rattle.directory_rules.specs.Sent.{letter_to, hash_of, request_of, owner_by}
use Rattle.silo_rules.specs.SiloValue.{SiloValue}
use Rattle.progress_rules.specs.Owed.{Owes}
use Rattle.deployment_headline.specs.Deployment.{Deployment, process_of}
use Rattle.deployment_headline.specs.Steps.{Step, Do, Receive, after, after_all}
use Rattle.deployment_progress.specs.Quiet.{WhileQuiet}
use Rattle.deployment_progress.specs.Exchanges.{IsAnswered, IsNudged, HaveAllSettled}

-- the letter of a request, under its number, to a silo
abbrev pub letter_of : Node → ℕ × Act → (owner : Silo) → Letter
letter_of node e owner = letter_to owner node (Request_letter (request_of node e.0 e.1))

-- each of the silo's requests that come to the owner in the steps has a lower number
abbrev pub OnlyLowerCome : Deployment → (silo : Silo) (number : ℕ) (owner : Silo) → List Step → Type 0
OnlyLowerCome d silo number owner steps =
    (index : ℕ) (letter : Letter) (request : Request) → Contains steps (Receive owner index) → slice_get (after_all d steps).written index ≡ Some letter → letter.body ≡ Request_letter request → request.sender ≡ silo
    → request.number < number

-- In the steps the letter of the request comes to an owner, and the reply comes back. Each request of the silo that came to that owner
-- before in them has a lower number; to a find this makes no difference.
pub record IsAnsweredInTurn (d : Deployment) (silo : Silo) (node : Node) (steps : List Step) (e : ℕ × Act) : Type 0 where
  pub owner : Silo
  pub index : ℕ
  pub written : slice_get d.written index ≡ Some (letter_of node e owner)
  pub answered : IsAnswered d silo steps index (letter_of node e owner)
  pub in_turn : is_numbered e.1 ≡ true → OnlyLowerCome d silo e.0 owner answered.before

-- and when the letter comes the owner has the request's hash settled
pub record IsServed (d : Deployment) (silo : Silo) (node : Node) (steps : List Step) (e : ℕ × Act) : Type 0 where
  pub turn : IsAnsweredInTurn d silo node steps e
  pub process : SiloValue
  pub there : process_of (after_all d turn.answered.before) turn.owner ≡ Some process
  pub piece : Piece
  pub found : piece_with (hash_of node e.1) process.node.holding.pieces ≡ Some piece
  pub settled : piece.state ≡ Settled

-- the nudge renews the request: one of all that the silo waits for, or one of the request's grain
abbrev pub Renews : OwnStep → ℕ × Act → Type 0
Renews Nudge e = ⊤
Renews (NudgeGrain grain) e = grain_of e.1 ≡ grain
Renews other e = ⊥

-- a request that was outstanding at the nudge, was renewed by it and is served then is outstanding no more
abbrev pub RequestsEnd : Type 0
RequestsEnd = WhileQuiet (λ d steps. (silo : Silo) (part : OwnStep) (n : IsNudged d silo part steps) (t : SiloValue) (e : ℕ × Act)
    → Renews part e → Owes n.nudged.node.host e → IsServed (after d (Do silo part)) silo n.nudged.node n.rest e → process_of (after_all d steps) silo ≡ Some t → ¬ Owes t.node.host e)

-- so where each of them is, what is outstanding then was asked later: its number is one of those that were free at the nudge
abbrev pub OldRequestsEnd : Type 0
OldRequestsEnd = WhileQuiet (λ d steps. (silo : Silo) (part : OwnStep) (n : IsNudged d silo part steps) (t : SiloValue)
    → ((e : ℕ × Act) → Renews part e → Owes n.nudged.node.host e → IsServed (after d (Do silo part)) silo n.nudged.node n.rest e) → process_of (after_all d steps) silo ≡ Some t
    → (e : ℕ × Act) → Renews part e → Owes t.node.host e → n.nudged.node.host.next_number ≤ e.0)

-- where all ranges of all silos are settled it is enough that each letter comes in its turn to the owner of its hash, and the reply comes back
abbrev pub SettledRequestsEnd : Type 0
SettledRequestsEnd = WhileQuiet (λ d steps. (silo : Silo) (part : OwnStep) (n : IsNudged d silo part steps) (t : SiloValue) → HaveAllSettled d
    → ((e : ℕ × Act) → Renews part e → Owes n.nudged.node.host e
    → (turn : IsAnsweredInTurn (after d (Do silo part)) silo n.nudged.node n.rest e) × (owner_by n.nudged.node (hash_of n.nudged.node e.1) ≡ Some turn.owner))
    → process_of (after_all d steps) silo ≡ Some t → (e : ℕ × Act) → Renews part e → Owes t.node.host e → n.nudged.node.host.next_number ≤ e.0)

-- The worked request, computed.
use Rattle.std.proofs.Common.{arith, ◌≡◌, refl, sym, ap, subst, ◌∙◌, ℕ, zero, suc, List, [], ◌∷◌, length}
use Rattle.std.specs.Prelude.{true, is_some, All, Contains, Some, None, slice_get}
use Rattle.std.specs.Fmt.{digits}
use Rattle.std.specs.Option.{unwrap_or}
use Rattle.std.specs.BTreeMap.{is_at}
use Rattle.silo_address.specs.Silo.{Silo, silo_cmp}
use Rattle.silo_address.specs.StatedHash.{stated_hash}
use Rattle.ring_range.specs.Cut.{cut_parts}
use Rattle.directory_rules.specs.declared.act.Act.{Act}
use Rattle.directory_rules.specs.declared.act.Act.TheVariants.{Register}
use Rattle.directory_rules.specs.declared.held.Phase.TheVariants.{Asking, Firm}
use Rattle.directory_rules.specs.declared.piece_state.PieceState.TheVariants.{Settled, Recovering}
use Rattle.directory_rules.specs.Answer.{piece_with}
use Rattle.directory_rules.specs.Host.{outstanding, has_numbers}
use Rattle.directory_rules.specs.Laws.{requests_of}
use Rattle.directory_rules.specs.State.{Piece, Node}
use Rattle.directory_rules.specs.Sent.{hash_of}
use Rattle.directory_rules.specs.declared.own_step.OwnStep.TheVariants.{Nudge}
use Rattle.directory_rules.specs.Worked.{silo_a, grain_a}
use Rattle.directory_facts.proofs.Entries.{found_so}
use Rattle.silo_rules.specs.SiloValue.{SiloValue, first_silo}
use Rattle.silo_rules.specs.Steps.{barred}
use Rattle.progress_rules.specs.Owed.{Owes}
use Rattle.progress_rules.proofs.Answered.{only_one}
use Rattle.deployment_headline.specs.Deployment.{Deployment, process_of}
use Rattle.deployment_headline.specs.Steps.{Step, Do, Receive, after, after_all}
use Rattle.deployment_headline.specs.Worked.{worked_settings, all_told}
use Rattle.deployment_progress.specs.Exchanges.{IsNudged}
use Rattle.deployment_progress.specs.Requests.{letter_of, IsServed}
use Rattle.deployment_progress.specs.Worked.{asking, replying, WorkedRequest}
use Rattle.deployment_progress.proofs.Worked.{some_of, nudged_of, nudged_so}

all_seen : All (λ (e : Silo × SiloValue). e.1.node.view.version ≡ 1) asking.processes
unfolding after after_all cut_parts stated_hash digits
all_seen zero d below = refl
all_seen (suc k) d below = absurd (omega (below, arith))

version_is : asking.membership.views.version ≡ 1
unfolding after after_all cut_parts stated_hash digits
version_is = refl

-- its process, before the nudge and after it
process : SiloValue
process = unwrap_or (process_of asking silo_a) (first_silo worked_settings silo_a)

is_there : is_some (process_of asking silo_a) ≡ true
unfolding after after_all cut_parts stated_hash digits
is_there = refl

process_there : process_of asking silo_a ≡ Some process
unfolding process
process_there = some_of (process_of asking silo_a) (first_silo worked_settings silo_a) is_there

process_free : barred process ≡ None
unfolding process after after_all cut_parts stated_hash digits
process_free = refl

process_numbers : has_numbers process.node.settings process.node.host (length (outstanding process.node.host)) ≡ true
unfolding process after after_all cut_parts stated_hash digits
process_numbers = refl

abbrev node : Node
node = (nudged_of process).node

abbrev nudged : Deployment
nudged = after asking (Do silo_a Nudge)

nudge : IsNudged asking silo_a Nudge replying
nudge = record {
  process = process;
  there = process_there;
  nudged = nudged_of process;
  is_nudged = nudged_so process process_free process_numbers;
  rest = Receive silo_a 3 ∷ Receive silo_a 4 ∷ [];
  begins = refl;
}

-- its one request
its : ℕ × Act
its = (2, Register (record { grain = grain_a; activation = record { silo = silo_a; count = 1 } }) None)

requests_are : requests_of node.host ≡ its ∷ []
unfolding its process after after_all cut_parts stated_hash digits
requests_are = refl

only_its : (e : ℕ × Act) → Owes node.host e → its ≡ e
only_its e owes = only_one its e (subst (λ (l : List (ℕ × Act)). Contains l e) requests_are owes)

written : slice_get nudged.written 3 ≡ Some (letter_of node its silo_a)
unfolding its process after after_all cut_parts stated_hash digits
written = refl

owner : SiloValue
owner = unwrap_or (process_of nudged silo_a) (first_silo worked_settings silo_a)

owner_is : is_some (process_of nudged silo_a) ≡ true
unfolding after after_all cut_parts stated_hash digits
owner_is = refl

owner_there : process_of nudged silo_a ≡ Some owner
unfolding owner
owner_there = some_of (process_of nudged silo_a) (first_silo worked_settings silo_a) owner_is

none : Piece
none = record { range = record { start = 0; size = 0 }; state = Recovering; entries = [] }

piece : Piece
piece = unwrap_or (piece_with (hash_of node its.1) owner.node.holding.pieces) none

piece_is : is_some (piece_with (hash_of node its.1) owner.node.holding.pieces) ≡ true
unfolding its owner process after after_all cut_parts stated_hash digits
piece_is = refl

piece_there : piece_with (hash_of node its.1) owner.node.holding.pieces ≡ Some piece
unfolding piece
piece_there = some_of (piece_with (hash_of node its.1) owner.node.holding.pieces) none piece_is

piece_settled : piece.state ≡ Settled
unfolding none piece its owner process after after_all cut_parts stated_hash digits
piece_settled = refl

four : length nudged.written ≡ 4
unfolding after after_all cut_parts stated_hash digits
four = refl

served : IsServed nudged silo_a node (Receive silo_a 3 ∷ Receive silo_a 4 ∷ []) its
unfolding after_all
served = record {
  turn = record {
    owner = silo_a;
    index = 3;
    written = written;
    answered = record { before = []; between = []; rest = []; is = ap (λ n. Receive silo_a 3 ∷ Receive silo_a n ∷ []) (sym four) };
    in_turn = λ numbered index letter request has. absurd (nothing_in (Receive silo_a index) has);
  };
  process = owner;
  there = owner_there;
  piece = piece;
  found = piece_there;
  settled = piece_settled;
}
  where
    nothing_in : (st : Step) → Contains [] st → ⊥
    nothing_in st has = let below = has.1 in omega (below, arith)

asks : all_told asking ≡ (1, 1, Asking 1 ∷ [], (Settled, 0) ∷ []) ∷ []
unfolding after after_all cut_parts stated_hash digits
asks = refl

firm : all_told (after_all asking replying) ≡ (1, 1, Firm ∷ [], (Settled, 1) ∷ []) ∷ []
unfolding after after_all cut_parts stated_hash digits
firm = refl

pub worked_request : WorkedRequest
unfolding nudge
worked_request = record {
  seen =
      λ silo s there. (found_so (λ (e : Silo × SiloValue). e.1.node.view.version ≡ 1) (is_at (silo_cmp silo)) s asking.processes all_seen
      there).2 ∙ sym version_is;
  asks = asks;
  nudge = nudge;
  served = λ e owes. subst (IsServed nudged silo_a node (Receive silo_a 3 ∷ Receive silo_a 4 ∷ [])) (only_its e owes) served;
  firm = firm;
}

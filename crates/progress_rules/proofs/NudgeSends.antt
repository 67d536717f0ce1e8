-- What a nudge sends: what is outstanding, and what the pieces want.
use Rattle.std.proofs.Common.{arith, ◌≡◌, refl, ℕ, ◌+◌, ◌≤◌, List, [], ◌∷◌, length}
use Rattle.std.specs.Prelude.{flat_map, sum_by, All, Option, Some, None}
use Rattle.std.specs.Map.{values_of}
use Rattle.std.proofs.lemmas.List.{length-append, length-map}
use Rattle.std.proofs.lemmas.List.Concat.{length-flat_map}
use Rattle.std.proofs.lemmas.List.Elements.{All-append}
use Rattle.std.proofs.lemmas.List.Sums.{sum_by-cons, sum_by-le}
use Rattle.silo_address.specs.Silo.{Silo}
use Rattle.ring_range.specs.Range.{Range}
use Rattle.directory_rules.specs.declared.act.Act.{Act}
use Rattle.directory_rules.specs.declared.piece_state.PieceState.{PieceState}
use Rattle.directory_rules.specs.declared.piece_state.PieceState.TheVariants as state
use Rattle.directory_rules.specs.State.{Piece, Letter, Body, Request_letter, Node, World}
use Rattle.directory_rules.specs.Host as host
use Rattle.directory_rules.specs.Host.{outstanding}
use Rattle.directory_rules.specs.Sent.{query_to, letter_if_owned, owner_by, hash_of, request_of, request_letters, recovery_of, wants_by, all_requests, all_wants}
use Rattle.directory_rules.specs.Step.{Stepped, having_nudged}
use Rattle.directory_rules.specs.Happens.{node_of, with_node}
use Rattle.progress_rules.specs.Room.{answers_of, offers_of, fresh_with, over_pieces, requests_out, awaits_one, pages_shelved}
use Rattle.progress_rules.proofs.AreTold.{Base, left_by}
use Rattle.progress_rules.proofs.Resting.{IsResting}
use Rattle.progress_rules.proofs.Flights.{stepped_world}
use Rattle.progress_rules.proofs.Answering.{node_facts}
use Rattle.progress_rules.proofs.RequestCounts.{renewed_same, outstanding_few}
use Rattle.progress_rules.proofs.FreshWith.{fresh_after}
use Rattle.progress_rules.proofs.Sums.{le_same, sum_plus}
use Rattle.progress_rules.proofs.Falls.{need}
use Rattle.progress_rules.proofs.Questions.{IsQuestion, asked_once, questions_offer_none, request_questions, want_questions}
use Rattle.progress_rules.proofs.Potential.{due_to, potential, need_less, over_stepped, shelved_less}
use Rattle.progress_rules.proofs.DeliveryFalls.{all_sent, nodes_sorted}

-- ---- lists of lists
one_each : {X : Type 0} (f : X → List Letter) → ((x : X) → length (f x) ≤ 1) → (xs : List X) → length (flat_map f xs) ≤ length xs
one_each f few xs =
    let all = length-flat_map f xs in let most = sum_by-le (λ x. length (f x)) 1 xs (λ k d below. few _) in omega (arith, all, most)

pub by_values : {K X : Type 0} (f : X → ℕ) (es : List (K × X)) → sum_by (λ e. f e.1) es ≡ sum_by f (values_of es)
by_values f [] = refl
by_values f (e ∷ es) =
    let rest = by_values f es in let one = sum_by-cons (λ x. f x.1) e es in let other = sum_by-cons f e.1 (values_of es) in
    omega (arith, rest, one, other)

-- ---- requests
owned_one : (o : Option Silo) (node : Node) (body : Body) → length (letter_if_owned o node body) ≤ 1
owned_one None node body = omega arith
owned_one (Some owner) node body = omega arith

-- ---- wants
-- how many reports a piece awaits
abbrev pub awaited_of : Node → PieceState → Range → ℕ
awaited_of node state.Settled range = 0
awaited_of node (state.Awaiting from) range = 0
awaited_of node state.Recovering range = length (recovery_of node range).awaiting

wants_many : (its : PieceState) (node : Node) (range : Range)
    → length (wants_by its node range) ≡ awaited_of node its range + awaits_one its range
wants_many state.Settled node range = refl
wants_many (state.Awaiting from) node range = refl
wants_many state.Recovering node range =
    let all = length-map (recovery_of node range).awaiting (query_to node range) in omega (arith, all)

-- how many letters a nudge sends at most
abbrev pub asked_by_nudge : Node → ℕ
asked_by_nudge node = length (outstanding node.host) + (over_pieces (awaited_of node) node + over_pieces awaits_one node)

pub all_wants_many : (node : Node) → length (all_wants node) ≡ over_pieces (awaited_of node) node + over_pieces awaits_one node
all_wants_many node =
    let all = length-flat_map (λ (e : ℕ × Piece). wants_by e.1.state node e.1.range) node.holding.pieces in
    let values = by_values (λ (p : Piece). length (wants_by p.state node p.range)) node.holding.pieces in
    let parts = sum_plus (λ (p : Piece). length (wants_by p.state node p.range)) (λ (p : Piece). awaited_of node p.state p.range) (λ (p : Piece). awaits_one p.state p.range)
    (λ p. wants_many p.state node p.range) (values_of node.holding.pieces) in
    omega (arith, all, values, parts)

module _ (b : Base) (world : World) (r : IsResting world) (silo : Silo) (node : Node) (its : node_of world silo ≡ Some node) where
  abbrev renewed : Node
  renewed = record node { host = host.renewed node.host }

  abbrev pub nudged_step : Stepped
  nudged_step = having_nudged renewed

  abbrev pub nudged_world : World
  nudged_world = stepped_world world silo nudged_step

  renewed_few : length (outstanding renewed.host) ≤ length (outstanding node.host)
  renewed_few =
      let few = outstanding_few renewed.host in
      let same = renewed_same node.host in
      let many = (node_facts world r silo node its).numbered.many in
      omega (arith, few, same, many)

  pub nudge_few : length nudged_step.letters ≤ asked_by_nudge node
  nudge_few =
      let parts = length-append (all_requests renewed) (all_wants renewed) in
      let requests = one_each (λ (e : ℕ × Act). request_letters renewed e.0 e.1)
      (λ e. owned_one (owner_by renewed (hash_of renewed e.1)) renewed (Request_letter (request_of renewed e.0 e.1)))
      (outstanding renewed.host) in
      let wants = all_wants_many renewed in
      let few = renewed_few in
      omega (arith, parts, requests, wants, few)

  questions : All IsQuestion nudged_step.letters
  questions = All-append IsQuestion (all_requests renewed) (all_wants renewed) (request_questions renewed) (want_questions renewed)

  -- each letter that it sends has an answer
  pub potential_grows : potential b nudged_world ≤ potential b world + length nudged_step.letters
  potential_grows =
      let over = over_stepped world silo node nudged_step its (λ (x : Node). need (due_to world x) (left_by b) x) (λ (x : Node). need (due_to nudged_world x) (left_by b) x) (nodes_sorted world r)
      (λ x. need_less (due_to nudged_world x) (due_to world x) (left_by b) x (λ giver range.
      shelved_less world silo node nudged_step its (λ to version range. le_same (pages_shelved (Some node) to version range)) giver
      x.host.silo x.view.version range)) in
      let asks = fresh_after answers_of (with_node world silo renewed) nudged_step.letters in
      let asked = asked_once nudged_step.letters questions in
      let offers = fresh_after offers_of (with_node world silo renewed) nudged_step.letters in
      let none = questions_offer_none nudged_step.letters questions in
      omega (arith, over, asks, asked, offers, none)

  pub requests_stay : requests_out nudged_world + fresh_with offers_of nudged_world ≤ requests_out world + fresh_with offers_of world
  requests_stay =
      let over = over_stepped world silo node nudged_step its (λ (x : Node). length (outstanding x.host)) (λ (x : Node). length (outstanding x.host)) (nodes_sorted world r)
      (λ x. le_same (length (outstanding x.host))) in
      let few = renewed_few in
      let offers = fresh_after offers_of (with_node world silo renewed) nudged_step.letters in
      let none = questions_offer_none nudged_step.letters questions in
      omega (arith, over, few, offers, none)

  pub fresh_grows : fresh_with (λ body. 1) nudged_world ≡ fresh_with (λ body. 1) world + length nudged_step.letters
  fresh_grows =
      let sent = fresh_after (λ body. 1) (with_node world silo renewed) nudged_step.letters in let all = all_sent nudged_step.letters in
      omega (arith, sent, all)

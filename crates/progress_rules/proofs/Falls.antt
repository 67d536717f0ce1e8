-- What a node may send when a letter comes: no more than the letter and the node's pieces stand for.
use Rattle.std.proofs.Common.{arith, ◌≡◌, ◌≢◌, refl, sym, ap, subst, ℕ, ◌+◌, ◌*◌, ◌-◌, ◌≤◌, List, length}
use Rattle.std.specs.Prelude.{sum_by, Option, Some, None}
use Rattle.std.specs.Option.{unwrap_or}
use Rattle.std.specs.Ordering.{nat_cmp}
use Rattle.std.specs.Map.{lookup, set_value, values_of}
use Rattle.std.specs.BTreeMap.{is_at}
use Rattle.std.proofs.lemmas.Cmp.{nat_cmp_total}
use Rattle.std.proofs.lemmas.List.Elements.{All-weaker}
use Rattle.std.proofs.lemmas.Map.Lookups.{exact_unsigned}
use Rattle.silo_address.specs.Silo.{Silo}
use Rattle.silo_address.specs.Grain.{Grain}
use Rattle.membership_view.specs.View.{ViewValue}
use Rattle.ring_range.specs.Range.{Range}
use Rattle.hash_ring.specs.declared.Hashing.{Hashing}
use Rattle.directory_rules.specs.declared.effect.Effect.{Effect}
use Rattle.directory_rules.specs.declared.piece_state.PieceState.{PieceState}
use Rattle.directory_rules.specs.declared.piece_state.PieceState.TheVariants as state
use Rattle.directory_rules.specs.Members.{members_of}
use Rattle.directory_rules.specs.State.{Table, Piece, Gathering, Recovery, Letter, Body, Node}
use Rattle.directory_rules.specs.Gatherings.{new_gathering}
use Rattle.directory_rules.specs.Recovery.{new_recovery, told_by}
use Rattle.directory_rules.specs.Sent.{gathering_of, recovery_of}
use Rattle.directory_rules.specs.Step.{Stepped, silently}
use Rattle.directory_rules.specs.Transfer.{answering, with_settled, turned_to_recovery}
use Rattle.directory_rules.specs.Laws.{requests_of}
use Rattle.directory_facts.specs.Pieces.{HasPieces, IsPiece}
use Rattle.directory_facts.proofs.Lookups.{found_beside_put, found_beside_removed}
use Rattle.progress_rules.specs.Room.{answers_of, offers_of, over_pieces, pages_shelved}
use Rattle.progress_rules.proofs.FreshWith.{sent_with}
use Rattle.progress_rules.proofs.Sums.{le_same, sum_set}

-- ---- what pieces need, where so many pages are due and so many reports are left
-- the reports that a silo has still to send of a range, behind what it has told
abbrev pub Left : Type 0
Left = Silo → Range → (after : Option Grain) → ℕ

-- all those of the members where nobody has told of anything, and those of each that is awaited but for the one that is asked for
abbrev pub left_instead : Left → Node → Range → ℕ
left_instead left node range = sum_by (λ silo. left silo range None) (members_of node.view)

abbrev pub left_after : Left → Range → Recovery → ℕ
left_after left range recovery = sum_by (λ silo. left silo range (told_by silo recovery) - 1) recovery.awaiting

abbrev pub need_of : (Silo → Range → ℕ) → Left → Node → PieceState → Range → ℕ
need_of due left node state.Settled range = 0
need_of due left node (state.Awaiting giver) range = 2 * (due giver range - (gathering_of node range).next) + 2 * left_instead left node range
need_of due left node state.Recovering range = 2 * left_after left range (recovery_of node range)

abbrev pub need : (Silo → Range → ℕ) → Left → Node → ℕ
need due left node = over_pieces (need_of due left node) node

-- ---- what a letter stands for: its answers, and an offer for a request and its answer
abbrev pub weight : Body → ℕ
weight body = answers_of body + 2 * offers_of body

pub record Falls (due : Silo → Range → ℕ) (left : Left) (node : Node) (body : Body) (stepped : Stepped) : Type 0 where
  pub sends : length stepped.letters + sent_with answers_of stepped.letters + need due left stepped.node ≤ weight body + need due left node
  pub begins : length (requests_of stepped.node.host) ≤ offers_of body + length (requests_of node.host)
  pub no_offers : sent_with offers_of stepped.letters ≡ 0
  pub shelves : (silo : Silo) (version : ℕ) (range : Range)
      → pages_shelved (Some stepped.node) silo version range ≤ pages_shelved (Some node) silo version range
  pub silo_is : stepped.node.host.silo ≡ node.host.silo
  pub view_is : stepped.node.view ≡ node.view

-- ---- steps
module _ (due : Silo → Range → ℕ) (left : Left) (node : Node) (body : Body) where
  -- nothing goes out
  pub quietly : (after : Node) (its : Effect) → need due left after ≤ need due left node
      → length (requests_of after.host) ≤ length (requests_of node.host)
      → ((silo : Silo) (version : ℕ) (range : Range) → pages_shelved (Some after) silo version range ≤ pages_shelved (Some node) silo
      version range)
      → after.host.silo ≡ node.host.silo → after.view ≡ node.view → Falls due left node body (silently after its)
  quietly after its less fewer shelved silo view = record {
    sends = omega (arith, less);
    begins = omega (arith, fewer);
    no_offers = refl;
    shelves = shelved;
    silo_is = silo;
    view_is = view;
  }

  pub nothing : (its : Effect) → Falls due left node body (silently node its)
  nothing its = quietly node its (le_same (need due left node)) (le_same (length (requests_of node.host)))
      (λ silo version range. le_same (pages_shelved (Some node) silo version range)) refl refl

  -- a question has one answer, which is none
  pub answers : (letter : Letter) (reply : Body) (its : Effect) → 1 ≤ weight body → answers_of reply ≡ 0 → offers_of reply ≡ 0
      → Falls due left node body (answering letter node reply its)
  answers letter reply its asks not_asking not_offering = record {
    sends = omega (arith, asks, not_asking);
    begins = omega arith;
    no_offers = ap (λ n. 0 + n) not_offering;
    shelves = λ silo version range. le_same (pages_shelved (Some node) silo version range);
    silo_is = refl;
    view_is = refl;
  }

-- ---- a piece that is set
-- what is had for another one stays
abbrev pub AsHad : (before after : Node) → Range → Type 0
AsHad before after range = (gathering_of after range ≡ gathering_of before range) × (recovery_of after range ≡ recovery_of before range)

pub settled_beside : (node : Node) (range other : Range) (table : Table) → other.start ≢ range.start
    → AsHad node (with_settled node range table) other
settled_beside node range other table apart = (
  ap (λ o. unwrap_or o (new_gathering node.view.version other))
      (found_beside_removed nat_cmp nat_cmp_total exact_unsigned range.start node.gatherings other.start apart),
  ap (λ o. unwrap_or o (new_recovery node.view other))
      (found_beside_removed nat_cmp nat_cmp_total exact_unsigned range.start node.recoveries other.start apart),
)

pub turned_beside : (node : Node) (range other : Range) → other.start ≢ range.start → AsHad node (turned_to_recovery node range) other
turned_beside node range other apart = (
  ap (λ o. unwrap_or o (new_gathering node.view.version other))
      (found_beside_removed nat_cmp nat_cmp_total exact_unsigned range.start node.gatherings other.start apart),
  ap (λ o. unwrap_or o (new_recovery node.view other))
      (found_beside_put nat_cmp nat_cmp_total exact_unsigned range.start (new_recovery node.view range) node.recoveries other.start apart),
)

module _ (due : Silo → Range → ℕ) (left : Left) (hashing : Hashing) (node : Node) (has : HasPieces hashing node) where
  need_same : (after : Node) (range : Range) → after.view ≡ node.view → AsHad node after range → (its : PieceState)
      → need_of due left after its range ≤ need_of due left node its range
  need_same after range view same state.Settled = le_same 0
  need_same after range view same (state.Awaiting giver) =
      let next = ap (λ (g : Gathering). g.next) same.0 in
      let members = ap (λ (v : ViewValue). sum_by (λ silo. left silo range None) (members_of v)) view in
      omega (arith, next, members)
  need_same after range view same state.Recovering =
      let told = ap (left_after left range) same.1 in omega (arith, told)

  pub need_set : (after : Node) (range : Range) (old new : Piece) → lookup (is_at (nat_cmp range.start)) node.holding.pieces ≡ Some old
      → after.holding.pieces ≡ set_value (is_at (nat_cmp range.start)) node.holding.pieces new → after.view ≡ node.view
      → ((other : Range) → other.start ≢ range.start → AsHad node after other)
      → need due left after + need_of due left node old.state old.range ≤ need due left node + need_of due left after new.state new.range
  need_set after range old new found set view beside =
      subst (λ (ps : List (ℕ × Piece)). over_all ps + need_of due left node old.state old.range ≤ need due left node + need_of due left after
      new.state new.range) (sym set)
      (sum_set (λ (p : Piece). need_of due left node p.state p.range) (λ (p : Piece). need_of due left after p.state p.range) range.start old new
      (λ p apart. need_same after p.range view (beside p.range apart) p.state) node.holding.pieces
      (All-weaker (λ (e : ℕ × Piece). IsPiece hashing e.0 e.1) (λ (e : ℕ × Piece). e.0 ≡ e.1.range.start)
      (λ e piece. piece.under) node.holding.pieces has.pieces.each) has.pieces.rising found)
    where
      over_all : List (ℕ × Piece) → ℕ
      over_all ps = sum_by (λ (p : Piece). need_of due left after p.state p.range) (values_of ps)

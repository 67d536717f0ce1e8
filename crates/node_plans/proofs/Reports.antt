-- A report that counts finds the piece that recovers, and its recovery.
use Rattle.std.proofs.Common.{◌≡◌, refl, sym, ap, ◌∙◌, ℕ, List}
use Rattle.std.specs.Prelude.{true, Option, Some, None}
use Rattle.std.specs.Option.{unwrap_or}
use Rattle.std.specs.Ordering.{nat_cmp}
use Rattle.std.specs.Map.{lookup}
use Rattle.std.specs.BTreeMap.{is_at}
use Rattle.ring_range.specs.Range.{Range}
use Rattle.ring_range.proofs.Same.{Decides-range}
use Rattle.directory_rules.specs.declared.PieceState.{PieceState}
use Rattle.directory_rules.specs.declared.PieceState.TheVariants.{Settled, Awaiting, Recovering}
use Rattle.directory_rules.specs.State.{Piece, Letter, Recovery, Report, Node}
use Rattle.directory_rules.specs.Recovery.{new_recovery, with_report}
use Rattle.directory_rules.specs.Sent.{recovery_of}
use Rattle.directory_rules.specs.Transfer.{has_range, is_recovering, is_report_awaited, piece_at}
use Rattle.directory_rules.proofs.ReportCounts.{report_counts}
use Rattle.std.proofs.lemmas.Map.Lookups.{exact_unsigned}
use Rattle.std.proofs.lemmas.Bool.{and_parts}
use Rattle.texts.proofs.Orderings.{Equal-from}
use Rattle.directory_rules.proofs.Cases.{on_bool}
use Rattle.node_plans.proofs.Kept.{apart_from, other_than_written, written_is_found}
use Rattle.node_plans.proofs.TakenReports.{same_range, with_taken}
use Rattle.node_plans.specs.Node.{HasRecovery, HaveRecoveries, IsNode}

recovering_is : (state : PieceState) → is_recovering state ≡ true → state ≡ Recovering
recovering_is Settled is = absurd (cc (is))
recovering_is (Awaiting from) is = absurd (cc (is))
recovering_is Recovering is = refl

-- there is a piece of just that range, and it recovers
pub record RecoversPiece (node : Node) (range : Range) : Type 0 where
  pub piece : Piece
  pub there : lookup (is_at (nat_cmp range.start)) node.holding.pieces ≡ Some piece
  pub its_range : piece.range ≡ range
  pub state : piece.state ≡ Recovering

found_piece : (node : Node) (range : Range) (found : Option Piece) → piece_at node range ≡ found
    → has_range is_recovering range found ≡ true → RecoversPiece node range
found_piece node range None at is = absurd (cc (is))
found_piece node range (Some piece) at is = record {
  piece = piece;
  there = at;
  its_range = (Decides-range piece.range range).0 (and_parts _ _ is).0;
  state = recovering_is piece.state (and_parts _ _ is).1;
}

range_recovers : (node : Node) (range : Range) → has_range is_recovering range (piece_at node range) ≡ true → RecoversPiece node range
range_recovers node range is = found_piece node range (piece_at node range) refl is

-- so it does in a node that is the same one
pub recovers_in : (one other : Node) (range : Range) → one ≡ other → has_range is_recovering range (piece_at other range) ≡ true
    → RecoversPiece one range
recovers_in one other range same is =
    range_recovers one range (ap (λ (n : Node). has_range is_recovering range (piece_at n range)) same ∙ is)

-- and its recovery
pub its_recovery : (node : Node) (range : Range) → IsNode node → (piece : RecoversPiece node range)
    → HasRecovery node.recoveries range.start piece.piece
its_recovery node range is piece = is.recovers range.start piece.piece piece.there piece.state

-- the recoveries, one of them with a report, still serve the pieces
pub taken_keeps : (pieces : List (ℕ × Piece)) (recoveries : List (ℕ × Recovery)) (recovery : Recovery) (report : Report)
    → lookup (is_at (nat_cmp report.range.start)) recoveries ≡ Some recovery
    → HaveRecoveries pieces recoveries → HaveRecoveries pieces (with_taken recovery report recoveries)
taken_keeps pieces recoveries recovery report there have start piece found recovering =
    let had = have start piece found recovering in
    on_bool (λ b. HasRecovery (with_taken recovery report recoveries) start piece) (is_at (nat_cmp report.range.start) start)
    (λ t.
    let same : report.range.start ≡ start = exact_unsigned report.range.start start (Equal-from (nat_cmp report.range.start start) t) in
    let one : had.recovery ≡ recovery = cc (had.there, ap (λ s. lookup (is_at (nat_cmp s)) recoveries) (sym same) ∙ there) in
    record {
      recovery = with_report recovery report;
      there =
          ap (λ s. lookup (is_at (nat_cmp s)) (with_taken recovery report recoveries)) (sym same)
          ∙ written_is_found (is_at (nat_cmp report.range.start)) recoveries (with_report recovery report) recovery there;
      its_range = same_range recovery report ∙ ap (λ (r : Recovery). r.range) (sym one) ∙ had.its_range;
    })
    (λ f. record {
      recovery = had.recovery;
      there =
          other_than_written (is_at (nat_cmp report.range.start)) (is_at (nat_cmp start)) recoveries (with_report recovery report)
          (λ j at. apart_from report.range.start start j f at) ∙ had.there;
      its_range = had.its_range;
    })

-- where a report counts, the piece recovers
pub counts_where : (node : Node) (letter : Letter) (report : Report) → is_report_awaited node letter report ≡ true
    → has_range is_recovering report.range (piece_at node report.range) ≡ true
counts_where node letter report awaited = (and_parts _ _ (report_counts node letter report awaited).waits).1

-- the recovery that is found is the range's
pub found_is : (one other : Node) (range : Range) (recovery : Recovery) → one ≡ other
    → lookup (is_at (nat_cmp range.start)) one.recoveries ≡ Some recovery → recovery ≡ recovery_of other range
found_is one other range recovery same found =
    sym (ap (λ o. unwrap_or o (new_recovery one.view range)) found) ∙ ap (λ (n : Node). recovery_of n range) same

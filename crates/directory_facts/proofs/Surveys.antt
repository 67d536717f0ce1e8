-- What holds of each letter of a survey's answer, and of each letter that new pieces want.
use Rattle.std.proofs.Common.{ℕ, List, [], ◌∷◌}
use Rattle.std.specs.Prelude.{All, cond, filter, flat_map, length, map, nat_le, not, None}
use Rattle.std.proofs.lemmas.List.Elements.{All-append, All-cons, All-map, All-nil}
use Rattle.silo_address.specs.Silo.{Silo}
use Rattle.ring_range.specs.Range.{Range}
use Rattle.directory_rules.specs.declared.piece_state.PieceState.{PieceState}
use Rattle.directory_rules.specs.declared.piece_state.PieceState.TheVariants as state
use Rattle.directory_rules.specs.Members.{members_of}
use Rattle.directory_rules.specs.State.{Piece, Ask_letter, Survey_letter, Empty_letter, Report_letter, Letter, Node}
use Rattle.directory_rules.specs.Sent.{asks_by, gathering_of, letter_to, most_queried, new_wants, query_letters, query_to, recovering_ranges, recovery_of, survey_letters}
use Rattle.directory_rules.proofs.Cases.{on_bool}
use Rattle.directory_rules.specs.Transfer.{answer_to, empty_letters, has_nothing, report_of, tellings}

module _ (Q : Letter → Type 0) (letter : Letter) (node : Node) where
  all_empties : (ranges : List Range) → ((empties : List Range) → Q (answer_to letter node (Empty_letter empties)))
      → All Q (empty_letters letter node ranges)
  all_empties [] empty = All-nil Q
  all_empties (range ∷ ranges) empty = All-cons Q _ [] (empty (range ∷ ranges)) (All-nil Q)

  -- of the answer
  pub all_tellings : (ranges : List Range) → ((empties : List Range) → Q (answer_to letter node (Empty_letter empties)))
      → ((range : Range) → Q (answer_to letter node (Report_letter (report_of node range None)))) → All Q (tellings letter node ranges)
  all_tellings ranges empty report =
      All-append Q (empty_letters letter node (filter (has_nothing node) ranges)) _
      (all_empties (filter (has_nothing node) ranges) empty)
      (All-map Q (λ range. answer_to letter node (Report_letter (report_of node range None))) (filter (λ r. not (has_nothing node r)) ranges)
      (λ k d below. report _))

module _ (Q : Letter → Type 0) (node : Node)
    (ask : (from : Silo) (range : Range) → Q (letter_to from node (Ask_letter range (gathering_of node range).next)))
    (query : (range : Range) (silo : Silo) → Q (query_to node range silo))
    (survey : (silo : Silo) (ranges : List Range) → Q (letter_to silo node (Survey_letter ranges))) where
  asks : (its : PieceState) (range : Range) → All Q (asks_by its node range)
  asks state.Settled range = All-nil Q
  asks (state.Awaiting from) range = All-cons Q _ [] (ask from range) (All-nil Q)
  asks state.Recovering range = All-nil Q

  all_asks : (pieces : List (ℕ × Piece)) → All Q (flat_map (λ e. asks_by e.1.state node e.1.range) pieces)
  all_asks [] = All-nil Q
  all_asks (e ∷ es) =
      All-append Q (asks_by e.1.state node e.1.range) (flat_map (λ x. asks_by x.1.state node x.1.range) es) (asks e.1.state e.1.range)
      (all_asks es)

  all_queries : (ranges : List Range) → All Q (flat_map (query_letters node) ranges)
  all_queries [] = All-nil Q
  all_queries (range ∷ ranges) =
      All-append Q (query_letters node range) (flat_map (query_letters node) ranges)
      (All-map Q (query_to node range) (recovery_of node range).awaiting (λ k d below. query range _)) (all_queries ranges)

  all_surveys : (ranges : List Range) → All Q (survey_letters node ranges)
  all_surveys ranges =
      on_bool (λ b. All Q (cond b (flat_map (query_letters node) ranges)
      (map (λ silo. letter_to silo node (Survey_letter ranges)) (members_of node.view)))) (nat_le (length ranges) most_queried)
      (λ t. all_queries ranges)
      (λ f. All-map Q (λ silo. letter_to silo node (Survey_letter ranges)) (members_of node.view) (λ k d below. survey _ ranges))

  -- of what new pieces want
  pub all_new_wants : All Q (new_wants node)
  all_new_wants =
      All-append Q (flat_map (λ e. asks_by e.1.state node e.1.range) node.holding.pieces)
      (survey_letters node (recovering_ranges node.holding.pieces)) (all_asks node.holding.pieces)
      (all_surveys (recovering_ranges node.holding.pieces))

-- Laws on pieces and on served requests that need no run.
use Rattle.std.specs.Prelude.{◌≡◌, ◌≢◌, ◌↔◌, ℕ, ◌<◌, true, List, map, All, AllPairs, Option, option_and_then}
use Rattle.silo_address.specs.Grain.{Grain}
use Rattle.silo_address.specs.declared.Entry.{Entry}
use Rattle.ring_range.specs.Range.{Range, IsRange, EachRange, EachHash, holds}
use Rattle.directory_rules.specs.declared.act.Request.{Request}
use Rattle.directory_rules.specs.declared.piece_state.PieceState.{PieceState}
use Rattle.directory_rules.specs.Table.{entry_at}
use Rattle.directory_rules.specs.State.{Piece, Holding}
use Rattle.directory_rules.specs.Sight.{was_settled}
use Rattle.directory_rules.specs.Answer.{piece_with, answered}
use Rattle.directory_rules.specs.Host.{grain_of}
use Rattle.directory_rules.specs.Laws.{lies_settled}

-- each piece stands under the start of its range
abbrev pub StandUnderStarts : List (ℕ × Piece) → Type 0
StandUnderStarts pieces = All (λ e. e.0 ≡ e.1.range.start) pieces

-- a range was settled just where each of its hashes lies in a settled piece
abbrev pub WasSettledIsSettled : Type 0
WasSettledIsSettled = (pieces : List (ℕ × Piece)) → StandUnderStarts pieces → All (λ e. IsRange e.1.range) pieces
    → EachRange (λ range. (was_settled pieces range ≡ true) ↔ EachHash (λ hash. holds range hash ≡ true → lies_settled hash pieces ≡ true))

-- the grain's entry in the piece that has the hash
abbrev pub entry_in : List (ℕ × Piece) → (hash : ℕ) → Grain → Option Entry
entry_in pieces hash grain = option_and_then (λ piece. entry_at grain piece.entries) (piece_with hash pieces)

-- pieces without their tables
abbrev pub outline_of : List (ℕ × Piece) → List (ℕ × Range × PieceState)
outline_of pieces = map (λ e. (e.0, e.1.range, e.1.state)) pieces

-- what an answer leaves: the version seen, the ranges and states, and every other grain's entry
pub record LeavesOthers (act_grain : Grain) (before after : Holding) : Type 0 where
  pub seen : after.seen ≡ before.seen
  pub outline : outline_of after.pieces ≡ outline_of before.pieces
  pub others : (hash : ℕ) (grain : Grain) → grain ≢ act_grain → entry_in after.pieces hash grain ≡ entry_in before.pieces hash grain

-- so every answer does, where pieces stand under their starts and these rise
abbrev pub AnswersLeaveOthers : Type 0
AnswersLeaveOthers = (holding : Holding) (request : Request) → StandUnderStarts holding.pieces → AllPairs (λ e later. e.0 < later.0) holding.pieces
    → LeavesOthers (grain_of request.act) holding (answered holding request).holding

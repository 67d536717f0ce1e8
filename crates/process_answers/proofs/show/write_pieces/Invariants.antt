use Rattle.std.proofs.Common.{◌≡◌, ◌++◌, map}
use Rattle.texts.specs.Printed.{text_of_lines}
use Rattle.script_lines.specs.Spaced.{BeginsWith}
use Rattle.process_rules.specs.Show.{piece_line}
use Rattle.process_answers.proofs.show.write_pieces.Given as goal

abbrev pub invariant-loop-piece : goal.invariant-loop-piece
invariant-loop-piece l = record {
  shows : l.out.items ++ text_of_lines (map (λ e. piece_line e.1) l.piece-iterator) ≡ l.fn.out.items ++ text_of_lines
      (map (λ e. piece_line e.1) l.holding.pieces);
  begins : BeginsWith l.fn.out.items l.out.items;
}

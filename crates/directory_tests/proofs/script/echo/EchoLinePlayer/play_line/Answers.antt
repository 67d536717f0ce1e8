use Rattle.std.proofs.Common.{ℕ, List, [], ◌∷◌, ◌++◌, ap, arith, length, ◌∙◌}
use Rattle.texts.specs.Printed.{text_of_lines}
use Rattle.script_lines.specs.Printed.{printed}
use Rattle.script_rules.specs.Lines.{fault_line}
use Rattle.line_loop.specs.Scripts.{stripped}
use Rattle.directory_tests.proofs.Echoed.{echoes, echoes_fault, fault_behind}
use Rattle.directory_tests.proofs.script.echo.EchoLinePlayer.play_line.Goals as goal

pub returns-then-line-gt-LONGEST_LINE-clause-played : goal.returns-then-line-gt-LONGEST_LINE-clause-played
returns-then-line-gt-LONGEST_LINE-clause-played c = record {
  text = text_of_lines (fault_line c.args.number 924 ∷ []);
  behind = fault_behind c.args.number c.args.out.now.items c.write_fault.new.out.items
      (c.in_ok-write_fault.ensures.written ∙ ap (λ (n : ℕ). c.args.out.now.items ++ printed (fault_line c.args.number n)) c.number.ensures);
  plays = echoes_fault c.args.number c.args.line.now (omega (arith, ap length c.without_return-line.ensures));
}

pub returns-clause-played : goal.returns-clause-played
returns-clause-played c = record {
  text = stripped c.args.line.now ++ 10 ∷ [];
  behind = c.in_ok-extend_from_slice.ensures.items ∙ ap (λ (bs : List ℕ). c.args.out.now.items ++ bs)
      (c.deref.ensures.value ∙ (c.in_ok-push.ensures.items
      ∙ ap (λ (bs : List ℕ). bs ++ 10 ∷ []) (c.in_ok-text.ensures.items ∙ c.without_return-line.ensures)));
  plays = echoes c.args.number c.args.line.now (omega (arith, ap length c.without_return-line.ensures));
}

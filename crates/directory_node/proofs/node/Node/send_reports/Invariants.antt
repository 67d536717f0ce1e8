use Rattle.std.proofs.Common.{◌≡◌, ◌++◌, None, take}
use Rattle.std.specs.Prelude.{map}
use Rattle.directory_rules.specs.State.{Report_letter}
use Rattle.directory_rules.specs.Transfer.{answer_to, report_of}
use Rattle.directory_node.proofs.node.Node.send_reports.Given as goal

-- so many reports were sent
abbrev pub invariant-loop-range : goal.invariant-loop-range
invariant-loop-range l =
    l.letters.items ≡ l.fn.letters.items ++ map (λ range. answer_to l.letter l.self (Report_letter (report_of l.self range None)))
    (take l.range-index l.ranges)

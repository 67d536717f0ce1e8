use Rattle.std.proofs.Common.{None, ap, ◌∙◌, ◌++◌}
use Rattle.std.specs.Prelude.{map}
use Rattle.directory_rules.specs.State.{Report_letter}
use Rattle.directory_rules.specs.Transfer.{answer_to, empty_letters, report_of}
use Rattle.directory_node.proofs.node.Node.tellings.Goals as goal

pub returns : goal.returns
returns c =
    let node = c.args.self.now in
    let letter = c.args.letter.now in
    c.in_ok-send_reports.ensures
    ∙ (λ i. (c.in_ok-letters.ensures ∙ ap (empty_letters letter node) c.in_ok-empty.ensures) i
    ++ map (λ range. answer_to letter node (Report_letter (report_of node range None))) ((c.deref.ensures.value ∙ c.in_ok-others.ensures) i))

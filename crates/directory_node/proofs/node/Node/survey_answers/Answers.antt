use Rattle.std.proofs.Common.{sym, ap, ◌∙◌, length}
use Rattle.std.proofs.lemmas.Bool.{eqb-false}
use Rattle.directory_rules.specs.State.{Node}
use Rattle.directory_node.proofs.ManyRanges.{counts_all}
use Rattle.directory_node.proofs.node.Node.survey_answers.Goals as goal

pub returns : goal.returns
returns c =
    c.telling_count.ensures
    ∙ counts_all c.args.self.now c.args.letter.now c.args.ranges.now
    (eqb-false (length c.args.ranges.now) 0 (sym c.is_empty.ensures ∙ c.if-is_empty.false))
    (sym c.version.ensures ∙ c.if-version.false ∙ c.version-2.ensures ∙ ap (λ (n : Node). n.view.version) c.self.view_is)

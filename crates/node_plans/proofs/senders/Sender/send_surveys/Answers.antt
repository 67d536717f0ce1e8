use Rattle.std.proofs.Common.{◌≡◌, ◌++◌, List, subst, arith}
use Rattle.std.specs.Prelude.{OnOk}
use Rattle.directory_rules.specs.State.{Letter}
use Rattle.node_plans.specs.Sender.{sending}
use Rattle.node_plans.proofs.NewWants.{few_surveyed, many_surveyed}
use Rattle.node_plans.proofs.senders.Sender.send_surveys.Goals as goal

pub returns-then-ranges-le-MOST_QUERIED : goal.returns-then-ranges-le-MOST_QUERIED
returns-then-ranges-le-MOST_QUERIED c =
    subst (λ (l : List Letter). OnOk c.send_queries_for.result (c.send_queries_for.new.letters.items ≡ c.args.letters.now.items ++ l))
    (few_surveyed (sending c.args.self.now) c.args.ranges.now (omega arith)) c.send_queries_for.ensures

pub returns : goal.returns
returns c =
    subst (λ (l : List Letter). OnOk c.send_survey.result (c.send_survey.new.letters.items ≡ c.args.letters.now.items ++ l))
    (many_surveyed (sending c.args.self.now) c.args.ranges.now (omega arith)) c.send_survey.ensures

use Rattle.std.proofs.Common.{◌≡◌, sym, subst, ap, ◌∙◌, ◌++◌, ◌∷◌, [], length}
use Rattle.std.proofs.lemmas.Result.{IfOk-weaker}
use Rattle.ring_range.specs.Range.{Range}
use Rattle.directory_rules.specs.declared.Effect.TheVariants.{Installed}
use Rattle.directory_rules.specs.State.{Done_letter}
use Rattle.directory_rules.specs.Table.{table_of}
use Rattle.directory_rules.specs.Transfer.{answer_to, gathered_by, with_settled}
use Rattle.grain_partition.specs.Holdings.{HasPiece}
use Rattle.node_plans.specs.Plans.{Fits}
use Rattle.node_plans.specs.declared.plan.Change.{Change}
use Rattle.node_plans.proofs.Gatherings.{installed}
use Rattle.node_plans.proofs.Pages.{has_all}
use Rattle.directory_node.proofs.node.Node.plan_install.Goals as goal

pub returns-clause-planned : goal.returns-clause-planned
returns-clause-planned c =
    let node = c.args.self.now in
    let page = c.args.page.now in
    let letter = c.args.letter.now in
    let gathering = c.args.gathering.now in
    let entries = c.in_ok-entries.entries.entries in
    let all : entries ≡ table_of (gathering.entries ++ page.entries) = c.in_ok-entries.ensures ∙ (λ i. table_of (c.entries.ensures i ++ c.entries-2.ensures i)) in
    let done : c.answer_letter-done.result ≡ answer_to letter node (Done_letter page.range) =
    c.answer_letter-done.ensures ∙ ap (λ (r : Range). answer_to letter node (Done_letter r)) c.range-range.ensures in
    IfOk-weaker c.of_one.result _ _
    (λ plan planned. planned node
    ∙ (λ i. record { node = with_settled node (c.range-range.ensures i) entries; letters = done i ∷ []; effect = Installed })
    ∙ installed node gathering page letter entries c.requires.complete all)
    c.of_one.ensures.planned

pub returns-clause-fits : goal.returns-clause-fits
returns-clause-fits c =
    let node = c.args.self.now in
    let there = subst (λ (r : Range). HasPiece r node.holding.pieces) (sym c.range-range.ensures) c.requires.there in
    IfOk-weaker c.of_one.result _ _ (λ plan change. subst (λ (ch : Change). Fits ch node) (sym change) there) c.of_one.ensures.change

pub returns-clause-one : goal.returns-clause-one
returns-clause-one c =
    ap (λ o. length (gathered_by o c.args.letter.now c.args.page.now.range c.args.self.now).letters)
    (has_all c.args.gathering.now c.args.page.now c.requires.complete)

pub returns-in_err-entries-clause-one : goal.returns-in_err-entries-clause-one
returns-in_err-entries-clause-one c =
    ap (λ o. length (gathered_by o c.args.letter.now c.args.page.now.range c.args.self.now).letters)
    (has_all c.args.gathering.now c.args.page.now c.requires.complete)

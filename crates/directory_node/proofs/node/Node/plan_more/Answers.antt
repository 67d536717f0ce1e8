use Rattle.std.proofs.Common.{arith, ◌≡◌, ◌+◌, refl, sym, ap, ◌∙◌, length, ◌∷◌, []}
use Rattle.std.proofs.lemmas.Result.{IfOk-weaker}
use Rattle.directory_rules.specs.declared.Effect.TheVariants as effect
use Rattle.directory_rules.specs.Gatherings.{with_page}
use Rattle.directory_rules.specs.State.{Ask_letter}
use Rattle.directory_rules.specs.Sent.{gathering_of, letter_to}
use Rattle.directory_rules.specs.Step.{Stepped}
use Rattle.directory_rules.specs.Transfer.{with_gathering}
use Rattle.node_plans.proofs.Gatherings.{more_planned}
use Rattle.node_plans.proofs.Pages.{wants_more}
use Rattle.directory_node.proofs.node.Node.plan_more.Goals as goal

pub overflow_add-next : goal.overflow_add-next
overflow_add-next c =
    let further = (wants_more (gathering_of c.args.self.now c.args.page.now.range) c.args.page.now c.requires.more).further in
    omega (further, c.pages-pages.ensures, c.pages-pages.type_inv, c.page.ensures, arith)

pub returns-in_err-copy-clause-one : goal.returns-in_err-copy-clause-one
returns-in_err-copy-clause-one c =
    ap (λ (s : Stepped). length s.letters)
    (more_planned c.args.self.now (gathering_of c.args.self.now c.args.page.now.range) c.args.page.now c.args.letter.now refl
    (wants_more (gathering_of c.args.self.now c.args.page.now.range) c.args.page.now c.requires.more))

pub returns-clause-one : goal.returns-clause-one
returns-clause-one c =
    ap (λ (s : Stepped). length s.letters)
    (more_planned c.args.self.now (gathering_of c.args.self.now c.args.page.now.range) c.args.page.now c.args.letter.now refl
    (wants_more (gathering_of c.args.self.now c.args.page.now.range) c.args.page.now c.requires.more))

pub returns-clause-planned : goal.returns-clause-planned
returns-clause-planned c =
    let node = c.args.self.now in
    let page = c.args.page.now in
    let letter = c.args.letter.now in
    let g = gathering_of node page.range in
    let ask : c.letter_to-ask.result ≡ letter_to letter.from node (Ask_letter page.range (page.page + 1)) =
    c.letter_to-ask.ensures ∙ (λ i. letter_to (c.from.ensures i) node (Ask_letter (c.range.ensures i) (c.page.ensures i + 1))) in
    IfOk-weaker c.of_one.result _ _
    (λ plan planned. planned node
    ∙ (λ i. record {
      node = with_gathering node (with_page (gathering_of node (c.in_ok-copy.ensures i).range) (c.in_ok-copy.ensures i));
      letters = ask i ∷ [];
      effect = effect.Gathering;
    })
    ∙ sym (more_planned node g page letter refl (wants_more g page c.requires.more)))
    c.of_one.ensures.planned

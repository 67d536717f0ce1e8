use Rattle.std.proofs.Common.{◌≡◌, sym, subst, ap, ◌∙◌, ◌++◌, length, [], true}
use Rattle.std.specs.Prelude.{Ok, Err}
use Rattle.std.proofs.lemmas.Result.{IfOk-weaker}
use Rattle.ring_range.specs.Range.{Range}
use Rattle.directory_rules.specs.declared.Effect.TheVariants.{Refused}
use Rattle.directory_rules.specs.State.{Gathering}
use Rattle.directory_rules.specs.Gatherings.{gathered, new_gathering}
use Rattle.directory_rules.specs.Sent.{gathering_of}
use Rattle.directory_rules.specs.Step.{Stepped}
use Rattle.directory_rules.specs.Table.{rise_by_grain}
use Rattle.directory_rules.specs.Transfer.{gathered_by, with_gathering}
use Rattle.seal_snapshot.specs.Progress.{IsRefused, progress_of}
use Rattle.seal_snapshot.specs.declared.error.GatheringError.{GatheringError}
use Rattle.seal_snapshot.specs.declared.progress.GatheringProgress.{GatheringProgress}
use Rattle.node_plans.specs.Plans.{Fits}
use Rattle.node_plans.specs.declared.plan.Change.{Change}
use Rattle.node_plans.proofs.Gatherings.{anew_planned, counts, paged_ignored, paged_is}
use Rattle.node_plans.proofs.Results.{on_err}
use Rattle.directory_node.proofs.node.Node.plan_next_page.Goals as goal

pub is_page_awaited-requires-clause-its : goal.is_page_awaited-requires-clause-its
is_page_awaited-requires-clause-its c = c.entries.ensures ∙ ap (λ (g : Gathering). g.entries) c.requires.its

pub is_page_awaited-requires-clause-rises : goal.is_page_awaited-requires-clause-rises
is_page_awaited-requires-clause-rises c = ap (λ l. rise_by_grain l) c.entries.ensures ∙ c.requires.rises

pub returns-then-not-is_page_awaited-clause-planned : goal.returns-then-not-is_page_awaited-clause-planned
returns-then-not-is_page_awaited-clause-planned c =
    c.idle.ensures.planned c.args.self.now
    ∙ sym (paged_ignored c.args.self.now c.args.letter.now c.args.page.now (sym c.is_page_awaited.ensures ∙ c.if-not-is_page_awaited.true))

pub returns-then-not-is_page_awaited-clause-fits : goal.returns-then-not-is_page_awaited-clause-fits
returns-then-not-is_page_awaited-clause-fits c = subst (λ (change : Change). Fits change c.args.self.now) (sym c.idle.ensures.change) tt

pub plan_more-requires-clause-more : goal.plan_more-requires-clause-more
plan_more-requires-clause-more c =
    ap (λ (g : Gathering). progress_of (gathered g c.args.page.now)) (sym c.requires.its)
    ∙ c.in-Ok-More.ensures.judged
    ∙ ap (λ (p : GatheringProgress). Ok p) c.in-Ok-More.field-0-is

pub plan_more-requires-clause-rises : goal.plan_more-requires-clause-rises
plan_more-requires-clause-rises c =
    (counts c.args.self.now c.args.letter.now c.args.page.now (sym c.is_page_awaited.ensures ∙ c.if-not-is_page_awaited.false)).rises

pub plan_install-requires-clause-complete : goal.plan_install-requires-clause-complete
plan_install-requires-clause-complete c = c.in-Ok-Complete.ensures.judged ∙ ap (λ (p : GatheringProgress). Ok p) c.in-Ok-Complete.field-0-is

pub plan_install-requires-clause-rises : goal.plan_install-requires-clause-rises
plan_install-requires-clause-rises c =
    subst (λ (g : Gathering). rise_by_grain (g.entries ++ c.args.page.now.entries) ≡ true) (sym c.requires.its)
    (counts c.args.self.now c.args.letter.now c.args.page.now (sym c.is_page_awaited.ensures ∙ c.if-not-is_page_awaited.false)).rises

pub plan_install-requires-clause-there : goal.plan_install-requires-clause-there
plan_install-requires-clause-there c =
    (counts c.args.self.now c.args.letter.now c.args.page.now (sym c.is_page_awaited.ensures ∙ c.if-not-is_page_awaited.false)).there

pub returns-in-Ok-More-clause-planned : goal.returns-in-Ok-More-clause-planned
returns-in-Ok-More-clause-planned c =
    let counted = paged_is c.args.self.now c.args.letter.now c.args.page.now (sym c.is_page_awaited.ensures ∙ c.if-not-is_page_awaited.false) in
    IfOk-weaker c.plan_more.result _ _ (λ plan planned. planned ∙ sym counted) c.plan_more.ensures.planned

pub returns-in-Ok-More-clause-one : goal.returns-in-Ok-More-clause-one
returns-in-Ok-More-clause-one c =
    let counted = paged_is c.args.self.now c.args.letter.now c.args.page.now (sym c.is_page_awaited.ensures ∙ c.if-not-is_page_awaited.false) in
    on_err c.plan_more.result (ap (λ (s : Stepped). length s.letters) counted ∙ c.plan_more.ensures.one)

pub returns-in-Ok-Complete-clause-planned : goal.returns-in-Ok-Complete-clause-planned
returns-in-Ok-Complete-clause-planned c =
    let node = c.args.self.now in
    let page = c.args.page.now in
    let letter = c.args.letter.now in
    let counted = paged_is node letter page (sym c.is_page_awaited.ensures ∙ c.if-not-is_page_awaited.false) in
    let its = ap (λ (g : Gathering). gathered_by (gathered g page) letter page.range node) c.requires.its in
    IfOk-weaker c.plan_install.result _ _ (λ plan planned. planned ∙ its ∙ sym counted) c.plan_install.ensures.planned

pub returns-in-Ok-Complete-clause-one : goal.returns-in-Ok-Complete-clause-one
returns-in-Ok-Complete-clause-one c =
    let node = c.args.self.now in
    let page = c.args.page.now in
    let letter = c.args.letter.now in
    let counted = paged_is node letter page (sym c.is_page_awaited.ensures ∙ c.if-not-is_page_awaited.false) in
    let its = ap (λ (g : Gathering). gathered_by (gathered g page) letter page.range node) c.requires.its in
    on_err c.plan_install.result (ap (λ (s : Stepped). length s.letters) (counted ∙ sym its) ∙ c.plan_install.ensures.one)

pub returns-in-Err-WrongDigest-clause-planned : goal.returns-in-Err-WrongDigest-clause-planned
returns-in-Err-WrongDigest-clause-planned c =
    let node = c.args.self.now in
    let page = c.args.page.now in
    let letter = c.args.letter.now in
    let wrong : progress_of (gathered c.args.gathering.now page) ≡ Err 701 =
    subst (λ (fault : GatheringError). IsRefused (progress_of (gathered c.args.gathering.now page)) fault) c.in-Err-WrongDigest.field-0-is
    c.in-Err-WrongDigest.ensures.refused in
    c.silent.ensures.planned node
    ∙ ap (λ (r : Range). record {
      node = with_gathering node (new_gathering (gathering_of node r).version r);
      letters = [];
      effect = Refused
          701;
    }) c.range.ensures
    ∙ anew_planned node page letter (ap (λ (g : Gathering). progress_of (gathered g page)) (sym c.requires.its) ∙ wrong)
    ∙ sym (paged_is node letter page (sym c.is_page_awaited.ensures ∙ c.if-not-is_page_awaited.false))

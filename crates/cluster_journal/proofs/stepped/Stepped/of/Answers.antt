use Rattle.std.proofs.Common.{◌≡◌, ap, refl, sym, ◌∙◌}
use Rattle.std.specs.Box.{boxed_str_bytes}
use Rattle.silo_address.specs.ReadGrain.{grain_at_slash}
use Rattle.directory_rules.specs.Event.{Do}
use Rattle.directory_rules.specs.EventModel.{event_of}
use Rattle.directory_rules.specs.declared.outcome.Happening.TheVariants.{Did}
use Rattle.cluster_journal.specs.Stepped.{effect_by, step_by}
use Rattle.cluster_journal.proofs.ShortSteps.{named_again, reads_named}
use Rattle.cluster_journal.proofs.stepped.Stepped.of.Goals as goal

pub invariant_of-result : goal.invariant_of-result
invariant_of-result c =
    reads_named c.in_ok-asked.grain.now c.in_range.ensures (boxed_str_bytes c.in-Ok.name) (c.in-Ok.ensures.ok ∙ c.as_str.ensures)

pub returns-in-Ok : goal.returns-in-Ok
returns-in-Ok c =
    let name = boxed_str_bytes c.in-Ok.name in
    let spelled = c.in-Ok.ensures.ok ∙ c.as_str.ensures in
    let grain = named_again c.in_ok-asked.grain.now c.in_range.ensures name spelled in
    let step : step_by c.in_ok-asked.asked (grain_at_slash name) ≡ c.in-Do.step =
    ap (step_by c.in_ok-asked.asked) grain ∙ c.in_ok-asked.ensures in
    let effect : effect_by c.in_ok-did.did (grain_at_slash name) ≡ c.in-Did.effect =
    ap (effect_by c.in_ok-did.did) grain ∙ c.in_ok-did.ensures in
    let event = ap (Do c.in-Do.silo) step ∙ sym (ap event_of c.in-Do.is) in
    let same : c.in-Do.silo ≡ c.in-Did.its = c.if-not-same.ensures.0 refl in
    let happening = (λ i. Did (same i) (effect i)) ∙ sym c.in-Did.is in
    let sent = c.in_ok-letter.ensures in
    λ i. record { event = event i; outcome = record { happening = happening i; sent = sent i } }

-- Events, and the entries of a journal, cross.
use denote.Builtin.{u32}
use Rattle.silo_workers.proofs.Parts.{Crosses, fields, structure, modelled, variants, number16, number32, number64}
use Rattle.silo_workers.proofs.Holders.{optional, boxed, listed}
use Rattle.silo_workers.proofs.Names.{silo_crosses, grain_crosses}
use Rattle.silo_workers.proofs.Letters.{why_crosses, effect_crosses, kind_crosses}
use Rattle.silo_workers.proofs.Hosts.{name_field_crosses}
use Rattle.silo_address.specs.contracts.silo.SiloAddress as silo
use Rattle.directory_rules.specs.contracts.own_step.OwnStep as own_step
use Rattle.directory_rules.specs.contracts.event.Event as event
use Rattle.directory_rules.specs.contracts.outcome.Happening as happening
use Rattle.directory_rules.specs.contracts.outcome.Span as span
use Rattle.directory_rules.specs.contracts.outcome.Outcome as outcome
use Rattle.cluster_journal.specs.contracts.short.ShortEffect as short_effect
use Rattle.cluster_journal.specs.contracts.short.Delivery as delivery
use Rattle.cluster_journal.specs.contracts.stepped.Asked as asked
use Rattle.cluster_journal.specs.contracts.stepped.Did as did
use Rattle.cluster_journal.specs.contracts.stepped.ShortActivation as short_activation
use Rattle.cluster_journal.specs.contracts.stepped.Stepped as stepped
use Rattle.cluster_journal.specs.contracts.stepped.Stepped.TheInside as stepped_inside
use Rattle.cluster_journal.specs.contracts.entry.Whole as whole
use Rattle.cluster_journal.specs.contracts.entry.Form as form
use Rattle.cluster_journal.specs.contracts.entry.JournalEntry as entry
use Rattle.cluster_journal.specs.contracts.entry.JournalEntry.TheInside as entry_inside
use Rattle.cluster_journal.specs.contracts.entry.Receipt as receipt

own_step_crosses : Crosses (own_step.the_field).row
own_step_crosses = search (silo_crosses, grain_crosses, variants) depth 30 parts 0 fits 5000

event_crosses : Crosses (event.the_field).row
event_crosses =
    let places = listed u32 number32 in search (places, silo_crosses, own_step_crosses, number64, variants) depth 30 parts 0 fits 5000

happening_crosses : Crosses (happening.the_field).row
happening_crosses =
    let replaced = optional silo.the_row silo_crosses in
    search (replaced, silo_crosses, effect_crosses, kind_crosses, number64, variants) depth 30 parts 0 fits 5000

span_crosses : Crosses span.the_row
span_crosses = structure span.the_type (fields span.the_type (number64, (number64, tt)))

outcome_crosses : Crosses (outcome.the_field).row
outcome_crosses = fields outcome.the_type (happening_crosses, (optional span.the_row span_crosses, tt))

short_effect_crosses : Crosses (short_effect.the_field).row
short_effect_crosses = search (why_crosses, number16, variants) depth 40 parts 0 fits 5000

delivery_crosses : Crosses (delivery.the_field).row
delivery_crosses = fields delivery.the_type (number64, (optional span.the_row span_crosses, (short_effect_crosses, (kind_crosses, tt))))

asked_crosses : Crosses (asked.the_field).row
asked_crosses = search variants depth 30 parts 0 fits 5000

short_activation_crosses : Crosses (short_activation.the_field).row
short_activation_crosses = fields short_activation.the_type (silo_crosses, (number32, tt))

did_crosses : Crosses (did.the_field).row
did_crosses = search (short_activation_crosses, variants) depth 30 parts 0 fits 5000

stepped_crosses : Crosses stepped.the_row
stepped_crosses =
    modelled stepped_inside.the_type _ _ _ _ (name_field_crosses, (silo_crosses, (did_crosses, (number32, (asked_crosses, tt)))))

whole_crosses : Crosses whole.the_row
whole_crosses = structure whole.the_type (fields whole.the_type (event_crosses, (outcome_crosses, tt)))

form_crosses : Crosses (form.the_field).row
form_crosses = variants form.the_type ((delivery_crosses, tt), ((stepped_crosses, tt), ((boxed whole.the_row whole_crosses, tt), tt)))

pub entry_crosses : Crosses entry.the_row
entry_crosses = modelled entry_inside.the_type _ _ _ _ (form_crosses, tt)

pub receipt_crosses : Crosses receipt.the_row
receipt_crosses = structure receipt.the_type (fields receipt.the_type (number64, (entry_crosses, tt)))

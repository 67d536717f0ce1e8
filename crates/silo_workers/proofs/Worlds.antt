-- The mail and the world cross.
use denote.Builtin.{u64, unit}
use Rattle.silo_workers.proofs.Parts.{Crosses, fields, modelled, variants, choice, number32, number64, truth, nothing}
use Rattle.silo_workers.proofs.Holders.{heap_field_crosses, optional, boxed, listed, queued, mapped}
use Rattle.silo_workers.proofs.Names.{silo_crosses}
use Rattle.silo_workers.proofs.Members.{membership_crosses, settings_cross}
use Rattle.silo_workers.proofs.Hosts.{grain_map_crosses}
use Rattle.silo_workers.proofs.Letters.{letter_crosses}
use Rattle.silo_workers.proofs.Nodes.{shared_crosses, transition_crosses}
use Rattle.directory_letters.specs.contracts.letter.Letter as letter
use Rattle.node_plans.specs.contracts.transition.Transition as transition
use Rattle.letter_mail.specs.contracts.kept.Named as named
use Rattle.letter_mail.specs.contracts.kept.Span as span
use Rattle.letter_mail.specs.contracts.kept.Says as says
use Rattle.letter_mail.specs.contracts.kept.Brief as brief
use Rattle.letter_mail.specs.contracts.slots.Slot as slot
use Rattle.letter_mail.specs.contracts.queue.Queue as queue
use Rattle.letter_mail.specs.contracts.queue.Queue.TheInside as queue_inside
use Rattle.letter_mail.specs.contracts.mail.Mail as mail
use Rattle.letter_mail.specs.contracts.mail.Mail.TheInside as mail_inside
use Rattle.directory_core.specs.contracts.world.World as world
use Rattle.directory_core.specs.contracts.world.World.TheInside as world_inside

named_crosses : Crosses (named.the_field).row
named_crosses = fields named.the_type (number32, (silo_crosses, (number32, tt)))

span_crosses : Crosses (span.the_field).row
span_crosses = fields span.the_type (number32, (number32, tt))

says_crosses : Crosses (says.the_field).row
says_crosses = search (named_crosses, span_crosses, number32, variants) depth 30 parts 0 fits 5000

brief_crosses : Crosses (brief.the_field).row
brief_crosses = fields brief.the_type (silo_crosses, (silo_crosses, (number32, (says_crosses, tt))))

slot_crosses : Crosses slot.the_row
slot_crosses =
    choice slot.the_type (variants slot.the_type (
      (truth, (brief_crosses, tt)),
      ((truth, (boxed letter.the_row letter_crosses, tt)), ((silo_crosses, tt), tt)),
    ))

queue_crosses : Crosses queue.the_row
queue_crosses = modelled queue_inside.the_type _ _ _ _ (queued u64 number64, tt)

mail_crosses : Crosses mail.the_row
mail_crosses =
    modelled mail_inside.the_type _ _ _ _ (
      heap_field_crosses,
      (grain_map_crosses unit nothing, (listed slot.the_row slot_crosses, (search (mapped, silo_crosses, queue_crosses), tt))),
    )

pub world_crosses : Crosses world.the_row
world_crosses =
    modelled world_inside.the_type _ _ _ _ (
      heap_field_crosses,
      (
        settings_cross,
        (
          number64,
          (
            membership_crosses,
            (search (mapped, silo_crosses, shared_crosses), (mail_crosses, (optional transition.the_row transition_crosses, tt))),
          ),
        ),
      ),
    )

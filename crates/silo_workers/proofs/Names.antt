-- Silos, grains, activations and ranges cross.
use denote.Builtin.{u8}
use Rattle.silo_workers.proofs.Parts.{Crosses, fields, structure, inverted, array, byte, number16, number32, number64}
use Rattle.silo_workers.proofs.Holders.{optional}
use Rattle.silo_address.specs.contracts.silo.SiloAddress as silo
use Rattle.silo_address.specs.contracts.silo.SiloAddress.TheInside as silo_inside
use Rattle.silo_address.specs.contracts.grain.GrainId as grain
use Rattle.silo_address.specs.contracts.grain.GrainId.TheInside as grain_inside
use Rattle.silo_address.specs.contracts.activation.ActivationId as activation
use Rattle.silo_address.specs.contracts.entry.Entry as entry
use Rattle.ring_range.specs.contracts.range.RingRange as range
use Rattle.ring_range.specs.contracts.range.RingRange.TheInside as range_inside
use Rattle.range_moves.specs.contracts.arc.RingArc as arc

pub silo_crosses : Crosses silo.the_row
silo_crosses =
    inverted silo_inside.the_type _ _ silo.the_inverse silo.the_view silo.the_invariant (array u8 4 byte, (number16, (number32, tt)))

pub grain_crosses : Crosses grain.the_row
grain_crosses =
    inverted grain_inside.the_type _ _ grain.the_inverse grain.the_view grain.the_invariant (byte, (byte, (array u8 193 byte, tt)))

pub activation_field_crosses : Crosses (activation.the_field).row
activation_field_crosses = fields activation.the_type (silo_crosses, (number64, tt))

pub activation_crosses : Crosses activation.the_row
activation_crosses = structure activation.the_type activation_field_crosses

pub entry_field_crosses : Crosses (entry.the_field).row
entry_field_crosses = fields entry.the_type (grain_crosses, (activation_field_crosses, tt))

pub entry_crosses : Crosses entry.the_row
entry_crosses = structure entry.the_type entry_field_crosses

pub range_crosses : Crosses range.the_row
range_crosses = inverted range_inside.the_type _ _ range.the_inverse range.the_view range.the_invariant (number32, (number64, tt))

pub arc_crosses : Crosses arc.the_row
arc_crosses = let end = optional silo.the_row silo_crosses in structure arc.the_type (fields arc.the_type (range_crosses, (end, (end, tt))))

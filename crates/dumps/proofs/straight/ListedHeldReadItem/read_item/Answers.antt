use Rattle.std.proofs.Common.{◌+◌, ◌∙◌}
use Rattle.serde_json.specs.Data.{object}
use Rattle.dump_rules.specs.DumpIn.{phase_in}
use Rattle.dump_rules.specs.Values.{activation_in, grain_in}
use Rattle.dumps.specs.DumpModel.{phase_of}
use Rattle.dumps.specs.MembersRead.{filled}
use Rattle.dumps.specs.declared.member_name.MemberName.TheVariants.{Activation, Grain, Phase}
use Rattle.dumps.proofs.MembersTold.{begun_behind, first_same, member_tells, others_behind, rest_same, value_behind}
use Rattle.dumps.proofs.Told.{held_told}
use Rattle.dumps.proofs.straight.ListedHeldReadItem.read_item.Goals as goal

pub returns : goal.returns
returns c =
    let r = c.in_ok-read_members.ensures.read in
    let m = c.read_members.new.members in
    let begun-1 = c.unread-members.ensures in
    let begun-2 = begun_behind _ _ _ _ _ begun-1 c.unread-grain.ensures in
    let begun-3 = begun_behind _ _ _ _ _ begun-2 c.unread-phase.ensures in
    let value-1 = c.in_ok-activation.ensures.value in
    let behind-1 = c.in_ok-activation.ensures.others in
    let value-2 = value_behind m _ _ behind-1 c.in_ok-grain.ensures.value in
    let behind-2 = others_behind m _ _ behind-1 c.in_ok-grain.ensures.others in
    let value-3 = value_behind m.others _ _ behind-2 c.in_ok-phase.ensures.value in
    let names-1 = r.same_names in
    let names-2 = rest_same _ _ _ _ names-1 in
    let names-3 = rest_same _ _ _ _ names-2 in (
      object r.found,
      r.at,
      held_told r.found _ _ _ (r.so_many ∙ (λ i. filled (value-1 i) + (filled (value-2 i) + (filled (value-3 i) + 0))))
          (member_tells _ activation_in (λ x. x) (λ value x is. is) Activation _ m _ _ r.found begun-1 (first_same _ _ _ _ names-1)
          r.stand.0 value-1)
          (member_tells _ grain_in (λ x. x) (λ value x is. is) Grain _ m.others _ _ r.found begun-2 (first_same _ _ _ _ names-2) r.stand.2.0
          value-2)
          (member_tells _ phase_in phase_of (λ value x is. is) Phase _ m.others.others _ _ r.found begun-3 (first_same _ _ _ _ names-3)
          r.stand.2.2.0 value-3),
    )

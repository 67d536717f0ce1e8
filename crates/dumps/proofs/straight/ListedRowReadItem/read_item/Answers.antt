use Rattle.std.proofs.Common.{◌+◌, ◌∙◌}
use Rattle.serde_json.specs.Data.{object}
use Rattle.dump_rules.specs.Values.{list_in, number_in, silo_in}
use Rattle.dumps.specs.MembersRead.{filled}
use Rattle.dumps.specs.declared.member_name.MemberName.TheVariants.{Dead, Joined, Left, Places, Silo}
use Rattle.dumps.proofs.MembersTold.{begun_behind, first_same, member_tells, others_behind, rest_same, value_behind}
use Rattle.dumps.proofs.Told.{row_told}
use Rattle.dumps.proofs.straight.ListedRowReadItem.read_item.Goals as goal

pub returns : goal.returns
returns c =
    let r = c.in_ok-read_members.ensures.read in
    let m = c.read_members.new.members in
    let begun-1 = c.unread-members.ensures in
    let begun-2 = begun_behind _ _ _ _ _ begun-1 c.unread-joined.ensures in
    let begun-3 = begun_behind _ _ _ _ _ begun-2 c.unread-left.ensures in
    let begun-4 = begun_behind _ _ _ _ _ begun-3 c.unread-places.ensures in
    let begun-5 = begun_behind _ _ _ _ _ begun-4 c.unread-silo.ensures in
    let value-1 = c.in_ok-dead.ensures.value in
    let behind-1 = c.in_ok-dead.ensures.others in
    let value-2 = value_behind m _ _ behind-1 c.in_ok-joined.ensures.value in
    let behind-2 = others_behind m _ _ behind-1 c.in_ok-joined.ensures.others in
    let value-3 = value_behind m.others _ _ behind-2 c.in_ok-left.ensures.value in
    let behind-3 = others_behind m.others _ _ behind-2 c.in_ok-left.ensures.others in
    let value-4 = value_behind m.others.others _ _ behind-3 c.in_ok-places.ensures.value in
    let behind-4 = others_behind m.others.others _ _ behind-3 c.in_ok-places.ensures.others in
    let value-5 = value_behind m.others.others.others _ _ behind-4 c.in_ok-silo.ensures.value in
    let names-1 = r.same_names in
    let names-2 = rest_same _ _ _ _ names-1 in
    let names-3 = rest_same _ _ _ _ names-2 in
    let names-4 = rest_same _ _ _ _ names-3 in
    let names-5 = rest_same _ _ _ _ names-4 in (
      object r.found,
      r.at,
      row_told r.found _ _ _ _ _ (r.so_many ∙ (λ i. filled (value-1 i) +
          (filled (value-2 i) + (filled (value-3 i) + (filled (value-4 i) + (filled (value-5 i) + 0))))))
          (member_tells _ number_in (λ x. x) (λ value x is. is) Dead _ m _ _ r.found begun-1 (first_same _ _ _ _ names-1) r.stand.0 value-1)
          (member_tells _ number_in (λ x. x) (λ value x is. is) Joined _ m.others _ _ r.found begun-2 (first_same _ _ _ _ names-2)
          r.stand.2.0 value-2)
          (member_tells _ number_in (λ x. x) (λ value x is. is) Left _ m.others.others _ _ r.found begun-3 (first_same _ _ _ _ names-3)
          r.stand.2.2.0 value-3)
          (member_tells _ (list_in number_in) (λ list. list.items) (λ value x is. is) Places _ m.others.others.others _ _ r.found begun-4
          (first_same _ _ _ _ names-4) r.stand.2.2.2.0 value-4)
          (member_tells _ silo_in (λ x. x) (λ value x is. is) Silo _ m.others.others.others.others _ _ r.found begun-5
          (first_same _ _ _ _ names-5) r.stand.2.2.2.2.0 value-5),
    )

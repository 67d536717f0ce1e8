use Rattle.std.proofs.Common.{◌+◌, ◌∙◌}
use Rattle.serde_json.specs.Data.{object}
use Rattle.dump_rules.specs.DumpIn.{entry_in, state_in}
use Rattle.dump_rules.specs.Values.{from_in, list_in, range_in}
use Rattle.dumps.specs.DumpModel.{state_of}
use Rattle.dumps.specs.MembersRead.{filled}
use Rattle.dumps.specs.declared.member_name.MemberName.TheVariants.{Entries, From, Range, State}
use Rattle.dumps.proofs.MembersTold.{begun_behind, first_same, member_tells, others_behind, rest_same, value_behind}
use Rattle.dumps.proofs.Told.{piece_told}
use Rattle.dumps.proofs.straight.ListedPieceReadItem.read_item.Goals as goal

pub returns : goal.returns
returns c =
    let r = c.in_ok-read_members.ensures.read in
    let m = c.read_members.new.members in
    let begun-1 = c.unread-members.ensures in
    let begun-2 = begun_behind _ _ _ _ _ begun-1 c.unread-from.ensures in
    let begun-3 = begun_behind _ _ _ _ _ begun-2 c.unread-range.ensures in
    let begun-4 = begun_behind _ _ _ _ _ begun-3 c.unread-state.ensures in
    let value-1 = c.in_ok-entries.ensures.value in
    let behind-1 = c.in_ok-entries.ensures.others in
    let value-2 = value_behind m _ _ behind-1 c.in_ok-from.ensures.value in
    let behind-2 = others_behind m _ _ behind-1 c.in_ok-from.ensures.others in
    let value-3 = value_behind m.others _ _ behind-2 c.in_ok-range.ensures.value in
    let behind-3 = others_behind m.others _ _ behind-2 c.in_ok-range.ensures.others in
    let value-4 = value_behind m.others.others _ _ behind-3 c.in_ok-state.ensures.value in
    let names-1 = r.same_names in
    let names-2 = rest_same _ _ _ _ names-1 in
    let names-3 = rest_same _ _ _ _ names-2 in
    let names-4 = rest_same _ _ _ _ names-3 in (
      object r.found,
      r.at,
      piece_told r.found _ _ _ _ (r.so_many ∙ (λ i. filled (value-1 i) +
          (filled (value-2 i) + (filled (value-3 i) + (filled (value-4 i) + 0)))))
          (member_tells _ (list_in entry_in) (λ list. list.items) (λ value x is. is) Entries _ m _ _ r.found begun-1
          (first_same _ _ _ _ names-1) r.stand.0 value-1)
          (member_tells _ from_in (λ x. x) (λ value x is. is) From _ m.others _ _ r.found begun-2 (first_same _ _ _ _ names-2) r.stand.2.0
          value-2)
          (member_tells _ range_in (λ x. x) (λ value x is. is) Range _ m.others.others _ _ r.found begun-3 (first_same _ _ _ _ names-3)
          r.stand.2.2.0 value-3)
          (member_tells _ state_in state_of (λ value x is. is) State _ m.others.others.others _ _ r.found begun-4
          (first_same _ _ _ _ names-4) r.stand.2.2.2.0 value-4),
    )

use Rattle.std.proofs.Common.{◌≡◌, Some, arith}
use Rattle.json.specs.Json.{after_end_array}
use Rattle.dumps.proofs.Along.{continues, ends, shorter_told}
use Rattle.dumps.proofs.straight.items.Goals as goal

pub items-smaller : goal.items-smaller
items-smaller g c =
    let same : c.take_end_array.new.self ≡ c.items.reader = grind arith in
    rw same at (shorter_told g.T.ReadItem.reads g.T.ReadItem.deep c.take_end_array.new.self c.read_item.new.reader _ c.in_ok-item.ensures)

pub items-preserved : goal.items-preserved
items-preserved g c =
    let same : c.take_end_array.new.self ≡ c.items.reader = grind arith in
    continues g.T.ReadItem.reads g.T.ReadItem.deep c.items.list.items c.push.new.self.items c.in_ok-item.item _ c.items.reader
    c.read_item.new.reader
    c.items.invariant (rw same at c.in_ok-item.ensures) c.in_ok-push.ensures.items

pub returns : goal.returns
returns g c =
    let over : after_end_array c.items.reader ≡ Some c.take_end_array.new.self = grind arith in
    ends g.T.ReadItem.reads g.T.ReadItem.deep c.items.list.items _ c.items.reader c.take_end_array.new.self c.items.invariant over

use Rattle.std.proofs.Common.{◌≡◌, sym, ◌∙◌, ap, length, rules}
use Rattle.silo_address.proofs.TextOrder.{text_order}
use Rattle.silo_address.proofs.grain.GrainIdOrd.cmp.Goals as goal

pub returns-then-kind-other_kind : goal.returns-then-kind-other_kind
returns-then-kind-other_kind c =
    let same : length c.args.self.now.kind ≡ length c.args.other.now.kind = sym (ap length c.kind-kind.ensures) ∙ c.if-kind-other_kind.true ∙ ap length c.kind-other_kind.ensures in
    rw (c.cmp.ensures, c.as_bytes.ensures.text, c.as_bytes-then-kind-other_kind.ensures.text)
    (text_order c.args.self.now c.args.other.now same)

pub returns : goal.returns
returns c = search rules

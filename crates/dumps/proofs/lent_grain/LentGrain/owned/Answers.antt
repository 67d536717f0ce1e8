use Rattle.std.proofs.Common.{sym, ap, ◌∙◌, length, arith, ◌≤◌}
use Rattle.dumps.proofs.Spelled.{spelled_by, spells}
use Rattle.dumps.proofs.lent_grain.LentGrain.owned.Goals as goal

pub overflow_cast-result : goal.overflow_cast-result
overflow_cast-result c =
    let short : length c.kind.result.now ≤ 64 = rw c.kind.ensures c.in_range.ensures.short_enough.kind in
    omega arith

pub invariant_of-result : goal.invariant_of-result
invariant_of-result c =
    spells c.args.grain.now _ _ c.in_range.ensures (sym (ap length c.kind.ensures))
    (sym (c.in_ok-name.ensures.items_if_clones_equal (λ x y is. is) ∙ c.as_bytes.ensures.text))

pub returns : goal.returns
returns c =
    spelled_by c.args.grain.now _ _ (sym (ap length c.kind.ensures))
    (sym (c.in_ok-name.ensures.items_if_clones_equal (λ x y is. is) ∙ c.as_bytes.ensures.text))

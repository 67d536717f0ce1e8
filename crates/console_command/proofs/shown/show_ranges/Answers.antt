use Rattle.std.proofs.Common.{◌≡◌, ◌++◌, ℕ, List, OnOk, ap, subst, sym, ◌∙◌}
use Rattle.texts.specs.Printed.{text_of_lines}
use Rattle.hash_ring.specs.Ring.{RingValue}
use Rattle.console_command.proofs.Rows.{ranges_are}
use Rattle.console_command.proofs.shown.show_ranges.Goals as goal

pub returns-clause-shown : goal.returns-clause-shown
returns-clause-shown c =
    subst (λ (lines : List (List ℕ)). OnOk c.show_each_range.result
    (c.show_each_range.new.out.items ≡ c.args.out.now.items ++ text_of_lines lines))
    (ranges_are c.args.world.now c.points.result.now _ _ c.as_slice.result.now _ c.points.ensures
    (sym c.is_empty.ensures ∙ c.if-is_empty.false) (ap (λ (r : RingValue). r.points) c.in_ok-ring.ensures) c.as_slice.ensures.value
    c.in_ok-ranges.ensures)
    c.show_each_range.ensures.shown

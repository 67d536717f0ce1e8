use Rattle.std.proofs.Common.{◌≡◌, sym, ap, ◌∙◌, true, false, length}
use Rattle.std.specs.Prelude.{◌&&◌, ◌==◌}
use Rattle.silo_address.specs.declared.Entry.{Entry}
use Rattle.directory_rules.specs.Table.{is_before_first, rise_by_grain}
use Rattle.node_plans.proofs.Gatherings.{goes_on_behind}
use Rattle.node_plans.proofs.order.go_on.Goals as goal

pub returns-then-is_before_first : goal.returns-then-is_before_first
returns-then-is_before_first c =
    let xs = c.args.gathered.now in
    let ys = c.args.entries.now in
    let last = c.entry-last.result in
    let some : (length xs == 0) ≡ false = sym c.is_empty.ensures ∙ c.if-is_empty.false in
    let before : is_before_first last ys ≡ true = sym c.is_before_first.ensures ∙ c.if-is_before_first.true in
    c.rise_by_grain-then-is_before_first.ensures
    ∙ ap (λ b. b && rise_by_grain ys) (sym before)
    ∙ ap (λ (e : Entry). is_before_first e ys && rise_by_grain ys) (c.entry-last.ensures ∙ c.index-gathered-gathered.is)
    ∙ sym (goes_on_behind xs ys c.index-gathered-gathered.result some c.requires)

pub returns-else-is_before_first : goal.returns-else-is_before_first
returns-else-is_before_first c =
    let xs = c.args.gathered.now in
    let ys = c.args.entries.now in
    let last = c.entry-last.result in
    let some : (length xs == 0) ≡ false = sym c.is_empty.ensures ∙ c.if-is_empty.false in
    let before : is_before_first last ys ≡ false = sym c.is_before_first.ensures ∙ c.if-is_before_first.false in
    c.if-is_before_first.false
    ∙ ap (λ b. b && rise_by_grain ys) (sym before)
    ∙ ap (λ (e : Entry). is_before_first e ys && rise_by_grain ys) (c.entry-last.ensures ∙ c.index-gathered-gathered.is)
    ∙ sym (goes_on_behind xs ys c.index-gathered-gathered.result some c.requires)

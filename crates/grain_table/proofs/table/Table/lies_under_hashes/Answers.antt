use Rattle.std.proofs.Common.{arith, ◌≡◌, ◌∙◌, ◌+◌, ◌-◌, ap, sym, false}
use Rattle.std.specs.Prelude.{◌&&◌}
use Rattle.ring_range.specs.Range.{circle}
use Rattle.directory_rules.specs.Table.{entries_of}
use Rattle.grain_table.proofs.Outside.{none, one_outside, two_outside}
use Rattle.grain_table.proofs.table.Table.lies_under_hashes.Goals as goal

pub returns-then-end-gt-CIRCLE : goal.returns-then-end-gt-CIRCLE
returns-then-end-gt-CIRCLE c =
    let starts : c.from-start.result ≡ c.args.range.now.start = c.from-start.ensures ∙ c.start.ensures in
    c.has_none_between.ensures
    ∙ one_outside c.args.self.now.hashing (entries_of c.args.self.now.entries) c.args.range.now c.in_range.ensures c.from-start.result
    (c.from-start.result + c.size.result) starts
    (omega (arith, starts, c.size.ensures.value)) (c.from-start.result + c.size.result - circle) (omega arith)

pub returns-then-not-has_none_between : goal.returns-then-not-has_none_between
returns-then-not-has_none_between c =
    let starts : c.from-start.result ≡ c.args.range.now.start = c.from-start.ensures ∙ c.start.ensures in
    let some : none c.args.self.now.hashing (entries_of c.args.self.now.entries) 0 c.from-start.result ≡ false = sym c.has_none_between-2.ensures ∙ c.if-not-has_none_between.true in
    sym (ap (λ b. b && none c.args.self.now.hashing (entries_of c.args.self.now.entries) (c.from-start.result + c.size.result) circle) some)
    ∙ two_outside c.args.self.now.hashing (entries_of c.args.self.now.entries) c.args.range.now c.in_range.ensures c.from-start.result
    (c.from-start.result + c.size.result) starts
    (omega (arith, starts, c.size.ensures.value)) (omega arith)

pub returns : goal.returns
returns c =
    let starts : c.from-start.result ≡ c.args.range.now.start = c.from-start.ensures ∙ c.start.ensures in
    c.has_none_between-3.ensures
    ∙ sym (ap (λ b. b && none c.args.self.now.hashing (entries_of c.args.self.now.entries) (c.from-start.result + c.size.result) circle)
    (sym c.has_none_between-2.ensures ∙ c.if-not-has_none_between.false))
    ∙ two_outside c.args.self.now.hashing (entries_of c.args.self.now.entries) c.args.range.now c.in_range.ensures c.from-start.result
    (c.from-start.result + c.size.result) starts
    (omega (arith, starts, c.size.ensures.value)) (omega arith)

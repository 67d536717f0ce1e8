-- The reading by its two words, once there are two.
use Rattle.std.proofs.Common.{◌∙◌, sym, refl}
use Rattle.ring_range.specs.Text.{if_range}
use Rattle.ring_range.proofs.ReadAgain.{read_range-words}
use Rattle.ring_range.proofs.text.read.Goals as goal

pub returns-then-not-are_numerals : goal.returns-then-not-are_numerals
returns-then-not-are_numerals c =
    sym (read_range-words c.args.text.now _ c.first_position-plus.ensures.first c.if-plus-eq0.false c.if-plus-text.false
    ∙ rw (sym c.are_numerals.ensures.exact, c.if-not-are_numerals.true) refl)

pub value_up_to-requires : goal.value_up_to-requires
value_up_to-requires c = (c.are_numerals.ensures.numerals.0 c.if-not-are_numerals.false).0

pub returns-in-Some-Some : goal.returns-in-Some-Some
returns-in-Some-Some c =
    let words = read_range-words c.args.text.now _ c.first_position-plus.ensures.first c.if-plus-eq0.false c.if-plus-text.false in
    c.from_numbers.ensures
    ∙ (λ i. if_range (record { start = c.in-Some-Some.ensures.1 i; size = c.in-Some-Some.ensures'.1 i }))
    ∙ sym (words ∙ rw (sym c.are_numerals.ensures.exact, c.if-not-are_numerals.false) refl)

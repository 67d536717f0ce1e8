-- Each call answers as the test that computes does.
use Rattle.std.proofs.Common.{◌≡◌, ◌&&◌, Bool, true, false, sym, ◌∙◌, ap}
use Rattle.std.proofs.lemmas.Bool.Decides.{same_from_decides}
use Rattle.texts.specs.Numeral.{is_numeral}
use Rattle.texts.proofs.NumeralLaws.{Decides-is_numeral}
use Rattle.ring_range.proofs.text.are_numerals.Goals as goal

pub returns-then-is_numeral-clause-exact : goal.returns-then-is_numeral-clause-exact
returns-then-is_numeral-clause-exact c =
    let first = same_from_decides _ _ c.is_numeral.ensures (Decides-is_numeral c.args.start.now) in
    let second = same_from_decides _ _ c.is_numeral-then-is_numeral.ensures (Decides-is_numeral c.args.size.now) in
    let yes : true ≡ is_numeral c.args.start.now = sym c.if-is_numeral.true ∙ first in
    second ∙ ap (λ (b : Bool). b && is_numeral c.args.size.now) yes

pub returns-else-is_numeral-clause-exact : goal.returns-else-is_numeral-clause-exact
returns-else-is_numeral-clause-exact c =
    let first = same_from_decides _ _ c.is_numeral.ensures (Decides-is_numeral c.args.start.now) in
    let not_so : false ≡ is_numeral c.args.start.now = sym c.if-is_numeral.false ∙ first in
    c.if-is_numeral.false ∙ ap (λ (b : Bool). b && is_numeral c.args.size.now) not_so

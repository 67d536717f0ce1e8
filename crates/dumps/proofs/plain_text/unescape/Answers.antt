use Rattle.std.proofs.Common.{sym, subst}
use Rattle.dumps.specs.PlainText.{StandsFor}
use Rattle.dumps.proofs.PlainTexts.{parts_stand, quoted_whole}
use Rattle.dumps.proofs.plain_text.unescape.Goals as goal

pub returns-in-Some-behind : goal.returns-in-Some-behind
returns-in-Some-behind c =
    let bytes = c.args.bytes.now in
    let marked = c.in-Some-up_to_mark.marked.now in
    let whole = parts_stand bytes c.loop-part.text.items c.loop-part.left.now c.in-Some-up_to_mark.part.now marked c.loop-part.invariant c.in-Some-up_to_mark.ensures in
    quoted_whole bytes _ marked c.in-Some-behind.rest.now
    (subst (λ text. StandsFor bytes text marked) (sym c.in_ok-extend_from_slice-2.ensures.items) whole)
    c.in-Some-behind.ensures

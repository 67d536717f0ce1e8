use Rattle.std.proofs.Common.{◌≡◌, ◌+◌, ◌++◌, ◌∷◌, Some, ap, arith, refl, sym, ◌∙◌, get_or, drop}
use Rattle.std.specs.Fmt.{decimal}
use Rattle.texts.proofs.Cuts.{rest_from}
use Rattle.silo_address.specs.FrontNumber.{front_end}
use Rattle.silo_address.proofs.FrontLaws.{front_within, goes_on, number_and_rest}
use Rattle.silo_address.proofs.spelled.before_mark.Goals as goal

pub returns-then-end-bytes-clause-only : goal.returns-then-end-bytes-clause-only
returns-then-end-bytes-clause-only c = λ written rest small is.
    let goes = goes_on written written c.args.mark c.args.bytes.now rest (omega arith) c.requires.mark (omega arith) is in
    let inside = goes.inside in
    let end = c.requires.end in
    absurd (omega arith)

pub returns-then-bytes-end-clause-only : goal.returns-then-bytes-end-clause-only
returns-then-bytes-end-clause-only c = λ written rest small is.
    let goes = goes_on written written c.args.mark c.args.bytes.now rest (omega arith) c.requires.mark (omega arith) is in
    absurd (c.if-bytes-end.true (ap (λ n. get_or c.args.bytes.now n 0) c.requires.end ∙ goes.at))

pub returns-clause-found : goal.returns-clause-found
returns-clause-found c =
    let bytes = c.args.bytes.now in
    let number = c.requires.number in
    let end = c.requires.end in
    let within = front_within bytes in
    let at : get_or bytes (front_end bytes) 0 ≡ c.args.mark = ap (λ n. get_or bytes n 0) (sym end) ∙ c.if-bytes-end.false in
    let cut = number_and_rest bytes c.args.mark c.args.number (omega arith) (record { numeral = c.requires.numeral; within = omega arith }) (omega arith) at in
    let rest = ap (λ n. drop (n + 1) bytes) (sym end) ∙ sym (rest_from bytes (c.args.end + 1)) in
    (refl, cut ∙ (λ i. decimal (sym number i) ++ c.args.mark ∷ rest i))

pub returns-clause-only : goal.returns-clause-only
returns-clause-only c = λ written rest small is.
    let bytes = c.args.bytes.now in
    let goes = goes_on written written c.args.mark bytes rest (omega arith) c.requires.mark (omega arith) is in
    let value = c.requires.number ∙ goes.value in
    let after = rest_from bytes (c.args.end + 1) ∙ ap (λ n. drop (n + 1) bytes) c.requires.end ∙ goes.after in
    λ i. Some (value i, after i)

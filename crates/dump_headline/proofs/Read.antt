-- The text of a dump is read again as the dump, and so its bytes are judged as its lists.
use Rattle.std.proofs.Common.{arith, ◌≡◌, ap, ◌∙◌}
use Rattle.std.specs.Prelude.{Some, option_and_then}
use Rattle.dump_rules.specs.Dump.{DumpValue, dump_text}
use Rattle.dump_rules.specs.DumpIn.{dump_in}
use Rattle.dump_rules.specs.Judged.{value_in, judged_lists, judged_value, judged_text}
use Rattle.dump_rules.specs.Judgement.{judged}
use Rattle.dump_rules.specs.RightShape.{HasNumbers}
use Rattle.dump_headline.specs.Named.{HasNames}
use Rattle.dump_headline.proofs.Values.{dump_value}
use Rattle.dump_headline.proofs.Plain.{read_again}
use Rattle.dump_headline.proofs.Texts.{dump_told}
use Rattle.dump_headline.proofs.Again.{dump_again}

value_read : (dump : DumpValue) → HasNumbers dump → HasNames dump → value_in (dump_text dump) ≡ Some (dump_value dump)
value_read dump numbers names =
    let told = dump_told dump numbers names in
    ap value_in told.1 ∙ read_again (dump_value dump) 7 (omega arith) told.0

pub text_read : (dump : DumpValue) → HasNumbers dump → HasNames dump → option_and_then dump_in (value_in (dump_text dump)) ≡ Some dump
text_read dump numbers names = ap (option_and_then dump_in) (value_read dump numbers names) ∙ dump_again dump numbers names

pub text_judged : (dump : DumpValue) → HasNumbers dump → HasNames dump → judged_text (dump_text dump) ≡ judged dump
text_judged dump numbers names = ap judged_value (value_read dump numbers names) ∙ ap judged_lists (dump_again dump numbers names)

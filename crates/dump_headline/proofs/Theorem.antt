-- The dump of every world that events reach is a dump, and all is right in it; so it is judged.
use Rattle.std.proofs.Common.{◌≡◌, ap, ◌∙◌, [], ◌∷◌}
use Rattle.std.specs.Prelude.{true, is_some, None, cond}
use Rattle.std.specs.Fmt.{digits}
use Rattle.texts.specs.Printed.{text_of_lines}
use Rattle.directory_rules.specs.Headline.{AfterAnyEvents}
use Rattle.directory_facts.specs.Laws.{world_by}
use Rattle.directory_facts.proofs.Lawful.{counts_are_apart, names_are_in_range}
use Rattle.directory_headline.proofs.Theorems.{carried_so}
use Rattle.dump_rules.specs.Dump.{DumpValue, dump_of}
use Rattle.dump_rules.specs.DumpShape.{is_dump}
use Rattle.dump_rules.specs.Judgement.{judgement_of, no_dump, judged}
use Rattle.dump_rules.specs.Verdict.{verdict, verdict_line}
use Rattle.dump_rules.proofs.RightShapes.{Decides-is_dump}
use Rattle.dump_rules.proofs.Shapes.{dump_right}
use Rattle.dump_headline.proofs.Read.{text_judged}
use Rattle.dump_headline.specs.Told.{IsRightlyTold, all_right}
use Rattle.dump_headline.proofs.Shape.{activations_once}
use Rattle.dump_headline.proofs.NodeShape.{is_dump_by}
use Rattle.dump_headline.proofs.Known.{named_rows}
use Rattle.dump_headline.proofs.Named.{has_names}
use Rattle.dump_headline.proofs.Right.{is_right_dump}

-- what is said of a dump without fault
said : (dump : DumpValue) → is_dump dump ≡ true → verdict dump ≡ None → judged dump ≡ all_right
unfolding digits
said dump is right =
    ap (λ b. cond b (judgement_of dump) no_dump) is
    ∙ ap (λ fault. record { text = text_of_lines (verdict_line fault ∷ []); status = cond (is_some fault) 1 0 }) right

pub rightly_told : AfterAnyEvents IsRightlyTold
rightly_told settings events are named =
    let its = carried_so settings events are named in
    let f = world_by settings events in
    let dump = is_dump_by its.setting.hash f its.facts (λ silo node there. record {
      known = named_rows its.setting f its.is_its its.facts its.carried silo node there;
      once = activations_once silo node.host (counts_are_apart settings events silo node there);
    }) in
    let right = is_right_dump its.setting f its.is_its its.facts its.carried in
    let is = (Decides-is_dump (dump_of f)).1 dump in
    let none = (dump_right (dump_of f) is).1 right in
    let all = said (dump_of f) is none in
    let in_range = names_are_in_range settings events are named in
    let names = has_names its.setting.hash f its.facts in_range.0 in_range.1 in
    record {
      dump = dump;
      right = right;
      shaped = is;
      no_fault = none;
      said = all;
      said_of_text = text_judged (dump_of f) dump.numbers names
          ∙ all;
    }

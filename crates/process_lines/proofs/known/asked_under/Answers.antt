use Rattle.std.proofs.Common.{◌≡◌, sym, subst, false, rules, Option, Some}
use Rattle.std.specs.Prelude.{codes, bytes_eq}
use Rattle.texts.specs.Words.{words_in}
use Rattle.script_rules.specs.Script.{Grammar}
use Rattle.process_rules.specs.ReadLine.{Asked, asked_if_known}
use Rattle.process_lines.specs.ReadAs.{Reads}
use Rattle.process_lines.specs.declared.asked.Asked as code
use Rattle.process_lines.specs.AskedModel.{asked_of}
use Rattle.process_lines.proofs.Commands.{among_others}
use Rattle.process_lines.proofs.known.asked_under.Goals as goal

pub returns-in_err-asked-clause-reads : goal.returns-in_err-asked-clause-reads
returns-in_err-asked-clause-reads c =
    let no_join : bytes_eq c.args.name.now (codes "joined") ≡ false = search rules in
    let no_view : bytes_eq c.args.name.now (codes "view") ≡ false = search rules in
    let no_letter : bytes_eq c.args.name.now (codes "letter") ≡ false = search rules in
    subst (λ (known : Option (Grammar Asked)). Reads (λ (asked : code.Asked). Some (asked_of asked)) c.from_residual.result
    (asked_if_known known (words_in c.args.words.now)))
    (sym (among_others c.args.hashing c.args.name.now no_join no_view no_letter)) (search rules)

pub returns-clause-reads : goal.returns-clause-reads
returns-clause-reads c =
    let no_join : bytes_eq c.args.name.now (codes "joined") ≡ false = search rules in
    let no_view : bytes_eq c.args.name.now (codes "view") ≡ false = search rules in
    let no_letter : bytes_eq c.args.name.now (codes "letter") ≡ false = search rules in
    rw (among_others c.args.hashing c.args.name.now no_join no_view no_letter) (search rules)

use Rattle.std.proofs.Common.{refl, arith, codes, rules}
use Rattle.process_rules.specs.ReadLetter.{transfer_kinds}
use Rattle.process_lines.proofs.Names.{kind_read, no_kind}
use Rattle.process_lines.proofs.kinds.transfer_kind.Goals as goal

pub returns-in-missing : goal.returns-in-missing
returns-in-missing c = kind_read transfer_kinds c.args.word.now (codes "missing") _ (omega arith) (search rules) refl

pub returns-in-query : goal.returns-in-query
returns-in-query c = kind_read transfer_kinds c.args.word.now (codes "query") _ (omega arith) (search rules) refl

pub returns-in-report : goal.returns-in-report
returns-in-report c = kind_read transfer_kinds c.args.word.now (codes "report") _ (omega arith) (search rules) refl

pub returns-in-survey : goal.returns-in-survey
returns-in-survey c = kind_read transfer_kinds c.args.word.now (codes "survey") _ (omega arith) (search rules) refl

pub returns-in-empty : goal.returns-in-empty
returns-in-empty c = kind_read transfer_kinds c.args.word.now (codes "empty") _ (omega arith) (search rules) refl

pub returns-in-behind : goal.returns-in-behind
returns-in-behind c = kind_read transfer_kinds c.args.word.now (codes "behind") _ (omega arith) (search rules) refl

pub returns-in-ahead : goal.returns-in-ahead
returns-in-ahead c = kind_read transfer_kinds c.args.word.now (codes "ahead") _ (omega arith) (search rules) refl

-- a `grind arith` for each of `transfer_kinds`: the word differs from that of the kind
pub returns-in_default : goal.returns-in_default
returns-in_default c =
    no_kind transfer_kinds c.args.word.now (
      grind arith,
      (
        grind arith,
        (grind arith, (grind arith, (grind arith, (grind arith, (grind arith, (grind arith, (grind arith, (grind arith, tt)))))))),
      ),
    )

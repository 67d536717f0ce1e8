use Rattle.std.proofs.Common.{refl, arith, codes, rules}
use Rattle.process_rules.specs.ReadLetter.{reply_kinds}
use Rattle.process_lines.proofs.Names.{kind_read, no_kind}
use Rattle.process_lines.proofs.kinds.reply_kind.Goals as goal

pub returns-in-registered : goal.returns-in-registered
returns-in-registered c = kind_read reply_kinds c.args.word.now (codes "registered") _ (omega arith) (search rules) refl

pub returns-in-taken : goal.returns-in-taken
returns-in-taken c = kind_read reply_kinds c.args.word.now (codes "taken") _ (omega arith) (search rules) refl

pub returns-in-removed : goal.returns-in-removed
returns-in-removed c = kind_read reply_kinds c.args.word.now (codes "removed") _ (omega arith) (search rules) refl

pub returns-in-absent : goal.returns-in-absent
returns-in-absent c = kind_read reply_kinds c.args.word.now (codes "absent") _ (omega arith) (search rules) refl

pub returns-in-found : goal.returns-in-found
returns-in-found c = kind_read reply_kinds c.args.word.now (codes "found") _ (omega arith) (search rules) refl

pub returns-in-nothing : goal.returns-in-nothing
returns-in-nothing c = kind_read reply_kinds c.args.word.now (codes "nothing") _ (omega arith) (search rules) refl

pub returns-in-retry : goal.returns-in-retry
returns-in-retry c = kind_read reply_kinds c.args.word.now (codes "retry") _ (omega arith) (search rules) refl

-- a `grind arith` for each of `reply_kinds`: the word differs from that of the kind
pub returns-in_default : goal.returns-in_default
returns-in_default c =
    no_kind reply_kinds c.args.word.now (
      grind arith,
      (grind arith, (grind arith, (grind arith, (grind arith, (grind arith, (grind arith, tt)))))),
    )

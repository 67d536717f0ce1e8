use Rattle.std.proofs.Common.{refl, arith, codes, rules}
use Rattle.process_rules.specs.ReadLetter.{request_kinds}
use Rattle.process_lines.proofs.Names.{kind_read, no_kind}
use Rattle.process_lines.proofs.kinds.request_kind.Goals as goal

pub returns-in-register : goal.returns-in-register
returns-in-register c = kind_read request_kinds c.args.word.now (codes "register") _ (omega arith) (search rules) refl

pub returns-in-deregister : goal.returns-in-deregister
returns-in-deregister c = kind_read request_kinds c.args.word.now (codes "deregister") _ (omega arith) (search rules) refl

pub returns-in-offer : goal.returns-in-offer
returns-in-offer c = kind_read request_kinds c.args.word.now (codes "offer") _ (omega arith) (search rules) refl

-- a `grind arith` for each of `request_kinds`: the word differs from that of the kind
pub returns-in_default : goal.returns-in_default
returns-in_default c = no_kind request_kinds c.args.word.now (grind arith, (grind arith, (grind arith, (grind arith, tt))))

use Rattle.std.proofs.Common.{refl, arith, codes, rules}
use Rattle.process_lines.proofs.Names.{no_status, status_read}
use Rattle.process_lines.proofs.listed.status_named.Goals as goal

pub returns-in-active : goal.returns-in-active
returns-in-active c = status_read c.args.word.now (codes "active") _ (omega arith) (search rules) refl

pub returns-in-leaving : goal.returns-in-leaving
returns-in-leaving c = status_read c.args.word.now (codes "leaving") _ (omega arith) (search rules) refl

pub returns-in-dead : goal.returns-in-dead
returns-in-dead c = status_read c.args.word.now (codes "dead") _ (omega arith) (search rules) refl

-- a `grind arith` for each status: the word differs from its name
pub returns-in_default : goal.returns-in_default
returns-in_default c = no_status c.args.word.now (grind arith, (grind arith, (grind arith, tt)))

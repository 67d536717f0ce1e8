use Rattle.std.proofs.Common.{refl, arith, codes, rules}
use Rattle.script_lines.proofs.VerbLaws.{no_row, row_read}
use Rattle.process_lines.specs.Known.{other_commands}
use Rattle.process_lines.proofs.known.other_asked.Goals as goal

pub returns-in-leaving : goal.returns-in-leaving
returns-in-leaving c = row_read other_commands c.args.name.now (codes "leaving") _ _ _ (omega arith) (search rules) refl c.leaving.ensures

pub returns-in-dead : goal.returns-in-dead
returns-in-dead c = row_read other_commands c.args.name.now (codes "dead") _ _ _ (omega arith) (search rules) refl c.dead.ensures

pub returns-in-see : goal.returns-in-see
returns-in-see c = row_read other_commands c.args.name.now (codes "see") _ _ _ (omega arith) (search rules) refl c.see.ensures

pub returns-in-ping : goal.returns-in-ping
returns-in-ping c = row_read other_commands c.args.name.now (codes "ping") _ _ _ (omega arith) (search rules) refl c.ping.ensures

pub returns-in-owner : goal.returns-in-owner
returns-in-owner c = row_read other_commands c.args.name.now (codes "owner") _ _ _ (omega arith) (search rules) refl c.owner.ensures

pub returns-in-place : goal.returns-in-place
returns-in-place c = row_read other_commands c.args.name.now (codes "place") _ _ _ (omega arith) (search rules) refl c.place.ensures

pub returns-in-status : goal.returns-in-status
returns-in-status c = row_read other_commands c.args.name.now (codes "status") _ _ _ (omega arith) (search rules) refl c.figures.ensures

pub returns-in-show : goal.returns-in-show
returns-in-show c = row_read other_commands c.args.name.now (codes "show") _ _ _ (omega arith) (search rules) refl c.show.ensures

pub returns-in-dump : goal.returns-in-dump
returns-in-dump c = row_read other_commands c.args.name.now (codes "dump") _ _ _ (omega arith) (search rules) refl c.dump.ensures

-- a `grind arith` for each row of `other_commands`: the name differs from it
pub returns-in_default : goal.returns-in_default
returns-in_default c =
    no_row other_commands c.args.name.now _ (
      grind arith,
      (grind arith, (grind arith, (grind arith, (grind arith, (grind arith, (grind arith, (grind arith, (grind arith, tt)))))))),
    )

use Rattle.std.proofs.Common.{refl, arith, codes, rules}
use Rattle.script_rules.specs.Script.{other_commands}
use Rattle.script_lines.proofs.VerbLaws.{no_row, row_read}
use Rattle.script_lines.proofs.verbs.other_command.Goals as goal

pub returns-in-leave : goal.returns-in-leave
returns-in-leave c = row_read other_commands c.args.verb.now (codes "leave") _ _ _ (omega arith) (search rules) refl c.leave.ensures

pub returns-in-kill : goal.returns-in-kill
returns-in-kill c = row_read other_commands c.args.verb.now (codes "kill") _ _ _ (omega arith) (search rules) refl c.kill.ensures

pub returns-in-see : goal.returns-in-see
returns-in-see c = row_read other_commands c.args.verb.now (codes "see") _ _ _ (omega arith) (search rules) refl c.see.ensures

pub returns-in-sync : goal.returns-in-sync
returns-in-sync c = row_read other_commands c.args.verb.now (codes "sync") _ _ _ (omega arith) (search rules) refl c.sync.ensures

pub returns-in-deliver : goal.returns-in-deliver
returns-in-deliver c = row_read other_commands c.args.verb.now (codes "deliver") _ _ _ (omega arith) (search rules) refl c.deliver.ensures

pub returns-in-lose : goal.returns-in-lose
returns-in-lose c = row_read other_commands c.args.verb.now (codes "lose") _ _ _ (omega arith) (search rules) refl c.lose.ensures

pub returns-in-settle : goal.returns-in-settle
returns-in-settle c = row_read other_commands c.args.verb.now (codes "settle") _ _ _ (omega arith) (search rules) refl c.settle.ensures

pub returns-in-owner : goal.returns-in-owner
returns-in-owner c = row_read other_commands c.args.verb.now (codes "owner") _ _ _ (omega arith) (search rules) refl c.owner.ensures

pub returns-in-place : goal.returns-in-place
returns-in-place c = row_read other_commands c.args.verb.now (codes "place") _ _ _ (omega arith) (search rules) refl c.place.ensures

pub returns-in-show : goal.returns-in-show
returns-in-show c = row_read other_commands c.args.verb.now (codes "show") _ _ _ (omega arith) (search rules) refl c.show.ensures

pub returns-in-mail : goal.returns-in-mail
returns-in-mail c = row_read other_commands c.args.verb.now (codes "mail") _ _ _ (omega arith) (search rules) refl c.mail.ensures

pub returns-in-dump : goal.returns-in-dump
returns-in-dump c = row_read other_commands c.args.verb.now (codes "dump") _ _ _ (omega arith) (search rules) refl c.dump.ensures

pub returns-in-check : goal.returns-in-check
returns-in-check c = row_read other_commands c.args.verb.now (codes "check") _ _ _ (omega arith) (search rules) refl c.check.ensures

-- a `grind arith` for each row of `other_commands`: the verb differs from its name
pub returns-in_default : goal.returns-in_default
returns-in_default c =
    no_row other_commands c.args.verb.now _ (
      grind arith,
      (
        grind arith,
        (
          grind arith,
          (
            grind arith,
            (
              grind arith,
              (
                grind arith,
                (
                  grind arith,
                  (
                    grind arith,
                    (
                      grind arith,
                      (grind arith, (grind arith, (grind arith, (grind arith, (grind arith, tt))))),
                    ),
                  ),
                ),
              ),
            ),
          ),
        ),
      ),
    )

use Rattle.std.proofs.Common.{refl, arith, codes, rules}
use Rattle.script_rules.specs.Script.{own_steps}
use Rattle.script_lines.proofs.VerbLaws.{no_row, row_read}
use Rattle.script_lines.proofs.own_steps.own_step.Goals as goal

pub returns-in-wake : goal.returns-in-wake
returns-in-wake c = row_read own_steps c.args.name.now (codes "wake") _ _ _ (omega arith) (search rules) refl c.wake.ensures

pub returns-in-close : goal.returns-in-close
returns-in-close c = row_read own_steps c.args.name.now (codes "close") _ _ _ (omega arith) (search rules) refl c.close.ensures

pub returns-in-cancel : goal.returns-in-cancel
returns-in-cancel c = row_read own_steps c.args.name.now (codes "cancel") _ _ _ (omega arith) (search rules) refl c.cancel.ensures

pub returns-in-find : goal.returns-in-find
returns-in-find c = row_read own_steps c.args.name.now (codes "find") _ _ _ (omega arith) (search rules) refl c.find.ensures

pub returns-in-forget : goal.returns-in-forget
returns-in-forget c = row_read own_steps c.args.name.now (codes "forget") _ _ _ (omega arith) (search rules) refl c.forget.ensures

pub returns-in-nudge : goal.returns-in-nudge
returns-in-nudge c = row_read own_steps c.args.name.now (codes "nudge") _ _ _ (omega arith) (search rules) refl c.nudge.ensures

pub returns-in-offer : goal.returns-in-offer
returns-in-offer c = row_read own_steps c.args.name.now (codes "offer") _ _ _ (omega arith) (search rules) refl c.offer.ensures

-- a `grind arith` for each row of `own_steps`: the name differs from it
pub returns-in_default : goal.returns-in_default
returns-in_default c =
    no_row own_steps c.args.name.now _ (
      grind arith,
      (grind arith, (grind arith, (grind arith, (grind arith, (grind arith, (grind arith, tt)))))),
    )

use Rattle.std.specs.Map.{keys_of}
use Rattle.letter_mail.proofs.GrainNumbers.{grows_on}
use Rattle.letter_mail.proofs.slot_changes.put_all.Goals as goal

pub returns-in_err-put-clause-grown : goal.returns-in_err-put-clause-grown
returns-in_err-put-clause-grown c =
    grows_on (keys_of c.args.grains.now) (keys_of c.loop-letter.grains) (keys_of c.put.new.grains) c.loop-letter.invariant.grown
    c.in_err-put.ensures.grown

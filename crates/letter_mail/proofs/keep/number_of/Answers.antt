use Rattle.std.proofs.Common.{[], ◌∷◌}
use Rattle.letter_mail.proofs.GrainNumbers.{keys_put}
use Rattle.letter_mail.proofs.keep.number_of.Goals as goal

pub returns-clause-grown : goal.returns-clause-grown
returns-clause-grown c = (c.args.grain.now ∷ [], keys_put c.args.grains.now c.put.new.self c.args.grain.now tt c.in_ok-put.ensures.put)

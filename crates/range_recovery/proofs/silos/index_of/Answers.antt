use Rattle.std.proofs.Common.{rules}
use Rattle.std.proofs.lemmas.List.Sorted.{answers_always}
use Rattle.range_recovery.proofs.Indexes.{found_at, nobody_there}
use Rattle.range_recovery.proofs.silos.index_of.Goals as goal

pub returns-in-Ok-clause-found : goal.returns-in-Ok-clause-found
returns-in-Ok-clause-found c =
    let at = c.in-Ok.ensures.position (λ a. a.silo) (answers_always _ _ _ (λ f a r g called. search rules)) in
    found_at c.args.silos.now c.args.silo.now c.in-Ok.index c.in-Ok.ensures.bound at

pub returns-in-Err-clause-absent : goal.returns-in-Err-clause-absent
returns-in-Err-clause-absent c =
    let at = c.in-Err.ensures.position (λ a. a.silo) (answers_always _ _ _ (λ f a r g called. search rules)) in
    nobody_there c.args.silos.now c.args.silo.now c.in-Err.field-0 c.requires at

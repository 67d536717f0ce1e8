use Rattle.range_recovery.proofs.recovery.Recovery.progress_with.Goals as goal

pub returns-in-None-clause-judged : goal.returns-in-None-clause-judged
returns-in-None-clause-judged c = tt

pub returns-in-Some-true-clause-judged : goal.returns-in-Some-true-clause-judged
returns-in-Some-true-clause-judged c = tt

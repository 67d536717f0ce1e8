use Rattle.silo_address.proofs.activation.ActivationIdDisplay.fmt.Goals as goal

pub returns-clause-writes : goal.returns-clause-writes
returns-clause-writes c = λ c' plain ok. c'.write.ensures.writes plain ok

use Rattle.std.proofs.Common.{not, rules}
use Rattle.std.proofs.lemmas.Fn.{filter_same}
use Rattle.silo_address.specs.Silo.{silo_eq}
use Rattle.hash_ring.proofs.advance.take_out_of.Goals as goal

pub returns-clause-kept : goal.returns-clause-kept
returns-clause-kept c =
    filter_same _ (λ p. not (silo_eq p.silo c.args.silo.now)) _ (λ x b f called. search rules) _ _ c.retain.ensures.filtered

use Rattle.std.proofs.Common.{sym, ap, subst, ◌∙◌, length}
use Rattle.std.specs.List.{AllByRecursion}
use Rattle.std.specs.Prelude.{nat_lt}
use Rattle.host_activations.specs.ByHash.{IsUnder}
use Rattle.host_activations.specs.Listing.{asked_for}
use Rattle.host_activations.specs.Stretch.{standing_at}
use Rattle.host_activations.proofs.Circles.{stands_between}
use Rattle.host_activations.proofs.FirstByHash.{stretch_is}
use Rattle.host_activations.proofs.Listed.{all_under}
use Rattle.host_activations.proofs.activations.any_firm.any_between.Goals as goal

pub any_in_stretch-requires : goal.any_in_stretch-requires
any_in_stretch-requires c = record {
  under =
      subst (AllByRecursion (IsUnder c.args.asked.now.hashing c.args.held.now))
      (sym (stretch_is c.args.asked.now.hashing c.args.held.now c.args.by_hash.now.entries c.requires.by_hash c.range-stretch.ensures.ordered
      c.args.first c.args.end c.requires.within c.first_at.result c.end_at.result c.first_at.ensures c.end_at.ensures
      c.range-stretch.result (c.range-stretch.ensures.between tt)))
      (all_under c.args.asked.now.hashing c.args.held.now (λ x. stands_between c.args.first c.args.end x.0.hash)
      c.args.by_hash.now.entries c.requires.by_hash c.range-stretch.ensures.ordered);
}

pub returns-clause-any : goal.returns-clause-any
returns-clause-any c =
    c.any_in_stretch.ensures
    ∙ ap (λ l. nat_lt 0 (length (asked_for c.args.asked.now (standing_at c.args.held.now l))))
    (stretch_is c.args.asked.now.hashing c.args.held.now c.args.by_hash.now.entries c.requires.by_hash c.range-stretch.ensures.ordered
    c.args.first c.args.end c.requires.within c.first_at.result c.end_at.result c.first_at.ensures c.end_at.ensures
    c.range-stretch.result (c.range-stretch.ensures.between tt))

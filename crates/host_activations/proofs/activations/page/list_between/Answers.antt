use Rattle.std.proofs.Common.{sym, subst}
use Rattle.std.specs.List.{AllByRecursion}
use Rattle.std.proofs.lemmas.Result.{IfOk-weaker}
use Rattle.host_activations.specs.ByHash.{IsUnder}
use Rattle.host_activations.specs.Listing.{RiseByHash}
use Rattle.host_activations.proofs.Circles.{stands_between}
use Rattle.host_activations.proofs.FirstByHash.{adds_between, stretch_is}
use Rattle.host_activations.proofs.Listed.{all_under, rise_by_hash}
use Rattle.host_activations.proofs.activations.page.list_between.Goals as goal

pub list_stretch-requires : goal.list_stretch-requires
list_stretch-requires c =
    let is = stretch_is c.args.asked.now.hashing c.args.held.now c.args.by_hash.now.entries c.requires.by_hash c.range-stretch.ensures.ordered c.args.first c.args.end c.requires.within
    c.first_at.result c.end_at.result c.first_at.ensures c.end_at.ensures c.range-stretch.result (c.range-stretch.ensures.between tt) in
    record {
      under =
          subst (AllByRecursion (IsUnder c.args.asked.now.hashing c.args.held.now)) (sym is)
          (all_under c.args.asked.now.hashing c.args.held.now (λ x. stands_between c.args.first c.args.end x.0.hash)
          c.args.by_hash.now.entries c.requires.by_hash c.range-stretch.ensures.ordered);
      rising =
          subst RiseByHash (sym is)
          (rise_by_hash (λ x. stands_between c.args.first c.args.end x.0.hash) c.args.by_hash.now.entries c.range-stretch.ensures.ordered);
    }

pub returns-clause-added : goal.returns-clause-added
returns-clause-added c =
    IfOk-weaker c.list_stretch.result _ _
    (λ new adds. adds_between c.args.asked.now c.args.held.now c.args.by_hash.now.entries c.range-stretch.result c.args.first c.args.end
    (stretch_is c.args.asked.now.hashing c.args.held.now c.args.by_hash.now.entries c.requires.by_hash c.range-stretch.ensures.ordered
    c.args.first c.args.end c.requires.within c.first_at.result c.end_at.result c.first_at.ensures c.end_at.ensures c.range-stretch.result
    (c.range-stretch.ensures.between tt)) c.args.firm.items new.items adds) c.list_stretch.ensures

use Rattle.std.proofs.Common.{◌∙◌, List, ap, subst, sym}
use Rattle.std.specs.Prelude.{filter}
use Rattle.grain_table.specs.Buckets.{AreCut, joined}
use Rattle.grain_table.specs.Hashed.{Hashed}
use Rattle.grain_table.specs.Stretch.{is_between}
use Rattle.grain_table.proofs.hashed_map.HashedMap.between.Goals as goal

pub buckets_between-requires : goal.buckets_between-requires
buckets_between-requires c =
    subst (λ l. AreCut l c.deref-2.result.now) (sym c.deref.ensures.value)
    (subst (AreCut c.self.inside.cuts.items) (sym c.deref-2.ensures.value) c.self.invariant.cut)

pub returns : goal.returns
returns c =
    let there = λ (es : Hashed). filter (λ e. is_between c.args.first c.args.end e.0.hash) es in
    ap there c.of.ensures ∙ c.buckets_between.ensures ∙ ap (λ (l : List Hashed). there (joined l)) c.deref-2.ensures.value
    ∙ ap there c.self.view_is

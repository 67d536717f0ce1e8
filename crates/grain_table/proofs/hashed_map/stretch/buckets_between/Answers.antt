use Rattle.std.proofs.Common.{◌∙◌, ◌+◌, List, ap, arith, refl, sym, take}
use Rattle.std.proofs.lemmas.List.{drop_all}
use Rattle.std.specs.Prelude.{filter}
use Rattle.grain_table.specs.Buckets.{joined}
use Rattle.grain_table.specs.Hashed.{Hashed}
use Rattle.grain_table.specs.Stretch.{is_between}
use Rattle.grain_table.proofs.Cuts.{rising}
use Rattle.grain_table.proofs.Joined.{range_from}
use Rattle.grain_table.proofs.Searched.{passes_under, reaches_from}
use Rattle.grain_table.proofs.Stretches.{there_behind, there_between}
use Rattle.grain_table.proofs.hashed_map.stretch.buckets_between.Goals as goal

pub index_under-start-requires : goal.index_under-start-requires
index_under-start-requires c = rising c.args.cuts.now c.args.buckets.now c.requires

pub cuts_before-requires : goal.cuts_before-requires
cuts_before-requires c = rising c.args.cuts.now c.args.buckets.now c.requires

pub returns-then-buckets-start : goal.returns-then-buckets-start
returns-then-buckets-start c =
    let cuts = c.args.cuts.now in
    let buckets = c.args.buckets.now in
    let start = c.index_under-start.result in
    ap (λ (l : List Hashed). filter (λ e. is_between c.args.first c.args.end e.0.hash) (joined l)) (sym (drop_all start buckets (omega arith)))
    ∙ there_behind cuts buckets c.requires c.args.first c.args.end start
    (passes_under cuts cuts refl c.args.first start c.index_under-start.ensures.bound c.index_under-start.ensures.split)

pub returns-then-behind-more : goal.returns-then-behind-more
returns-then-behind-more c =
    let cuts = c.args.cuts.now in
    let buckets = c.args.buckets.now in
    let start = c.index_under-start.result in
    ap (λ (l : List Hashed). filter (λ e. is_between c.args.first c.args.end e.0.hash) (joined l)) (range_from buckets start)
    ∙ there_behind cuts buckets c.requires c.args.first c.args.end start
    (passes_under cuts cuts refl c.args.first start c.index_under-start.ensures.bound c.index_under-start.ensures.split)

pub returns : goal.returns
returns c =
    let cuts = c.args.cuts.now in
    let buckets = c.args.buckets.now in
    let first = c.args.first in
    let end = c.args.end in
    let start = c.index_under-start.result in
    let more = c.saturating_sub-more.result in
    ap (λ (l : List Hashed). filter (λ e. is_between first end e.0.hash) (joined (take (more + 1) l))) (range_from buckets start)
    ∙ there_between cuts buckets c.requires first end start (start + more) (more + 1)
    (passes_under cuts cuts refl first start c.index_under-start.ensures.bound c.index_under-start.ensures.split)
    (reaches_from cuts cuts refl end c.cuts_before.result c.cuts_before.ensures.bound c.cuts_before.ensures.split (start + more)
    (omega (arith, c.saturating_sub-more.ensures)))
    (omega arith)

use Rattle.std.proofs.Common.{◌≡◌, ◌∙◌, ◌+◌, ◌≤◌, List, ap, arith, length, refl, subst, sym}
use Rattle.std.specs.BTreeMap.{insert_entry}
use Rattle.grain_table.specs.Buckets.{AreCut, joined}
use Rattle.grain_table.specs.Hashed.{Hashed, hashed_cmp}
use Rattle.grain_table.proofs.Cuts.{rising}
use Rattle.grain_table.proofs.PutIn.{behind_cut, behind_entries, behind_more, put_cut, put_entries, put_more, put_unchanged}
use Rattle.grain_table.proofs.Searched.{passes_under, reaches_under}
use Rattle.grain_table.proofs.hashed_map.put_in.Goals as goal

pub index_under-index-requires : goal.index_under-index-requires
index_under-index-requires c = rising c.args.cuts.now c.args.buckets.now.items c.requires

pub returns-then-index-len : goal.returns-then-index-len
returns-then-index-len c =
    let cuts = c.args.cuts.now in
    let buckets = c.args.buckets.now.items in
    let key = c.args.key.now in
    let index = c.index_under-index.result in
    let bound = c.index_under-index.ensures.bound in
    let split = c.index_under-index.ensures.split in
    let pass = passes_under cuts cuts refl key.hash index bound split in
    let reach = reaches_under cuts cuts refl key.hash index bound split in
    let old = c.index_mut.result.now in
    let new = c.insert.new.self in
    record {
      entries =
          put_entries cuts buckets c.requires key c.args.activation index pass reach (omega arith) old new c.index_mut.ensures.value
          c.insert.result c.insert.ensures.entries;
      cut =
          put_cut cuts buckets c.requires key c.args.activation index pass reach (omega arith) old new c.index_mut.ensures.value
          c.insert.result c.insert.ensures.entries c.insert.ensures.unchanged;
      more =
          put_more cuts buckets c.requires key c.args.activation index pass reach (omega arith) old new c.index_mut.ensures.value
          c.insert.result c.insert.ensures.entries c.insert.ensures.more;
      unchanged =
          put_unchanged cuts buckets c.requires key c.args.activation index pass reach (omega arith) old new c.index_mut.ensures.value
          c.insert.result c.insert.ensures.entries c.insert.ensures.unchanged;
    }

pub returns-clause-entries : goal.returns-clause-entries
returns-clause-entries c =
    let cuts = c.args.cuts.now in
    let index = c.index_under-index.result in
    let pass = passes_under cuts cuts refl c.args.key.now.hash index c.index_under-index.ensures.bound c.index_under-index.ensures.split in
    ap joined c.in_ok-push.ensures.items
    ∙ behind_entries cuts c.args.buckets.now.items c.requires c.args.key.now c.args.activation index pass (omega arith) c.insert-2.new.self
    (c.in_ok-more.ensures.entries
    ∙ ap (λ (b : Hashed). insert_entry hashed_cmp b c.args.key.now c.args.activation) c.new-bucket.ensures)

pub returns-clause-cut : goal.returns-clause-cut
returns-clause-cut c =
    let cuts = c.args.cuts.now in
    let index = c.index_under-index.result in
    let pass = passes_under cuts cuts refl c.args.key.now.hash index c.index_under-index.ensures.bound c.index_under-index.ensures.split in
    subst (AreCut cuts) (sym c.in_ok-push.ensures.items)
    (behind_cut cuts c.args.buckets.now.items c.requires c.args.key.now c.args.activation index pass (omega arith) c.insert-2.new.self
    (c.in_ok-more.ensures.entries
    ∙ ap (λ (b : Hashed). insert_entry hashed_cmp b c.args.key.now c.args.activation) c.new-bucket.ensures))

pub returns-clause-more : goal.returns-clause-more
returns-clause-more c =
    let cuts = c.args.cuts.now in
    let buckets = c.args.buckets.now.items in
    let index = c.index_under-index.result in
    let new = c.insert-2.new.self in
    let pass = passes_under cuts cuts refl c.args.key.now.hash index c.index_under-index.ensures.bound c.index_under-index.ensures.split in
    subst (λ (l : List Hashed). (length (joined l) ≡ length (joined buckets) + c.in_ok-more.more) × (c.in_ok-more.more ≤ 1))
    (sym c.in_ok-push.ensures.items)
    (behind_more cuts buckets c.requires c.args.key.now c.args.activation index pass (omega arith) new
    (c.in_ok-more.ensures.entries
    ∙ ap (λ (b : Hashed). insert_entry hashed_cmp b c.args.key.now c.args.activation) c.new-bucket.ensures) c.in_ok-more.more
    (subst (λ (b : Hashed). (length new ≡ length b + c.in_ok-more.more) × (c.in_ok-more.more ≤ 1)) c.new-bucket.ensures
    c.in_ok-more.ensures.more))

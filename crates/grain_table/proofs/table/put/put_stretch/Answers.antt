use Rattle.std.proofs.Common.{◌≡◌, ◌∙◌, refl, ap, sym, subst}
use Rattle.std.specs.List.{AllByRecursion}
use Rattle.std.specs.Map.{keys_of}
use Rattle.grain_table.specs.Hashed.{Hashed, IsKeyOf}
use Rattle.grain_table.specs.Stretch.{is_between}
use Rattle.grain_table.proofs.Filters.{passed_are_hashed}
use Rattle.grain_table.proofs.Put.{entries_under, put_in}
use Rattle.grain_table.proofs.Ranges.{passed}
use Rattle.grain_table.proofs.table.put.put_stretch.Goals as goal

pub entries-init : goal.entries-init
entries-init c =
    let es : Hashed = c.args.from.now in
    let is : c.into_iter-key-iterator.result ≡ passed (is_between c.args.first c.args.end) es = c.into_iter-key-iterator.ensures.into_iter_gives ∙ c.between-key-items.ensures in
    record {
      hashing_is = refl;
      whole = ap (λ l. put_in c.args.table.entries (entries_under l)) is;
      keys = subst (λ (l : Hashed). AllByRecursion (IsKeyOf c.args.table.hashing) (keys_of l)) (sym is)
          (passed_are_hashed c.args.table.hashing (λ e. is_between c.args.first c.args.end e.0.hash) es c.requires).keys;
    }

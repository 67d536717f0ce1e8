-- The rows of a world's dump say what the world's views say.
use Rattle.std.proofs.Common.{arith, ◌≡◌, ℕ, ◌<◌, ◌≤◌, List, [], ◌∷◌, refl, sym, ap, ◌∙◌}
use Rattle.std.specs.Prelude.{false, ◌==◌, map, if◌then◌else◌, All, Option, Some, None}
use Rattle.std.specs.Option.{unwrap_or}
use Rattle.std.proofs.lemmas.Bool.{le-leb}
use Rattle.std.proofs.lemmas.Bool.Decides.{Decides-eqb}
use Rattle.std.proofs.lemmas.List.Elements.{All-head, All-tail}
use Rattle.silo_address.specs.Silo.{Silo, silo_cmp}
use Rattle.silo_address.proofs.Order.{silo_cmp_total, silo_cmp_exact}
use Rattle.membership_view.specs.declared.row.Row.{Row}
use Rattle.membership_view.specs.View.{listed_rows}
use Rattle.membership_view.specs.Views.{ViewsValue, rows_in, view_at}
use Rattle.membership_view.specs.Whole.{IsViews, IsInTime}
use Rattle.hash_ring.specs.Places.{PlacesValue}
use Rattle.directory_rules.specs.State.{World}
use Rattle.directory_rules.proofs.Cases.{on_bool}
use Rattle.dump_rules.specs.Dump.{dump_row, dump_of}
use Rattle.dump_rules.specs.Verdict.{unless_never, row_in_dump, dump_view}
use Rattle.dump_headline.proofs.Orders.{all_found}

above_zero : (made : ℕ) → 0 < made → (made == 0) ≡ false
above_zero made above =
    on_bool (λ b. (made == 0) ≡ b → (made == 0) ≡ false) (made == 0)
    (λ t is. let none : made ≡ 0 = (Decides-eqb made 0).0 is in absurd (omega (arith, none, above))) (λ f is. is) refl

-- a version above 0 is told from never
told : (made : Option ℕ) → ((m : ℕ) → made ≡ Some m → 0 < m) → unless_never (unwrap_or made 0) ≡ made
told None above = refl
told (Some made) above = ap (λ b. if b then None else Some made) (above_zero made (above made refl))

-- a row
row_back : {first : ℕ} (places : PlacesValue) (version : ℕ) (silo : Silo) (row : Row) → IsInTime first version row
    → row_in_dump (dump_row places silo row) ≡ (silo, row)
row_back places version silo row is =
    let above = is.joined_above in
    let left = told row.left (λ m at. let after = (is.left_after m at).0 in omega (arith, after, above)) in
    let dead = told row.dead (λ m at. let after = (is.dead_after m at).0 in omega (arith, after, above)) in
    λ i. (silo, record { joined = row.joined; left = left i; dead = dead i })

-- all rows
rows_back : {first : ℕ} (places : PlacesValue) (version : ℕ) (rows : List (Silo × Row)) → All (λ e. IsInTime first version e.1) rows
    → map row_in_dump (map (λ e. dump_row places e.0 e.1) rows) ≡ rows
rows_back {first} places version [] all = refl
rows_back {first} places version (e ∷ es) all = λ i.
    row_back places version e.0 e.1 (All-head (λ (x : Silo × Row). IsInTime first version x.1) e es all) i
    ∷ rows_back places version es (All-tail (λ (x : Silo × Row). IsInTime first version x.1) e es all) i

-- the rows of whole views are in time
pub in_time : (views : ViewsValue) → IsViews views → All (λ e. IsInTime views.first views.version e.1) views.rows
in_time views is = all_found silo_cmp silo_cmp_total silo_cmp_exact (λ e. IsInTime views.first views.version e.1) views.rows is.in_order is.in_time

-- a view by the dump is that of the views
pub dumped_view : (world : World) → IsViews world.views → (version : ℕ) → version ≤ world.views.version
    → dump_view (dump_of world) version ≡ view_at world.views version
unfolding dump_of
dumped_view world is version within =
    let rows = rows_back world.places world.views.version world.views.rows (in_time world.views is) in
    ap (λ (rows : List (Silo × Row)). record { version = version; rows = listed_rows (rows_in version rows) }) rows
    ∙ ap (λ b. record { version = version; rows = if b then listed_rows (rows_in version world.views.rows) else [] })
    (sym (le-leb version world.views.version within))

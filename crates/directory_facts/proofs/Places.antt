-- Each silo with a row has places: the rows of views and the silos that were added go together.
use Rattle.std.proofs.Common.{◌≡◌, refl, sym, ap, subst, ◌∙◌, ℕ, List, [], ◌∷◌, length}
use Rattle.std.specs.Prelude.{Bool, true, false, cond, ◌&&◌, nat_le, is_some, All, IsSome, Option, Some, None, Result, Ok, Err, not, filter}
use Rattle.std.specs.Option.{option_map}
use Rattle.std.specs.List.{list_all, cons_option}
use Rattle.std.specs.Map.{lookup, keys_of}
use Rattle.std.specs.BTreeMap.{is_at, insert_entry}
use Rattle.std.specs.Ordering.{is_eq}
use Rattle.std.proofs.lemmas.List.Elements.{All-cons, All-head, All-tail, All-weaker, All-contains}
use Rattle.std.proofs.lemmas.Map.Views.{All-keys-insert_entry, Contains-keys_from_lookup}
use Rattle.std.proofs.lemmas.Cmp.{tied_itself}
use Rattle.silo_address.specs.Silo.{Silo, silo_cmp}
use Rattle.silo_address.proofs.Order.{silo_cmp_total, silo_cmp_exact}
use Rattle.membership_view.specs.declared.row.Row.{Row}
use Rattle.membership_view.specs.declared.status.Status.{Status}
use Rattle.membership_view.specs.Row.{is_active, status_in, joining, dying}
use Rattle.membership_view.specs.View.{is_spare, listed_rows}
use Rattle.membership_view.specs.Views.{ViewsValue, row_of, rows_in, view_at}
use Rattle.membership_view.specs.Changes.{occupant, changed, without, joined_rows}
use Rattle.texts.proofs.Entries.{lookup-insert_entry}
use Rattle.hash_ring.specs.Places.{PlacesValue, is_added, with_silo, places_for, is_point_count, has_points, after_add}
use Rattle.hash_ring.specs.Ring.{are_added}
use Rattle.directory_rules.proofs.Cases.{on_bool}
use Rattle.directory_facts.proofs.Entries.{same_key}

-- every silo of the list was added
abbrev pub AllAdded : PlacesValue → List Silo → Type 0
AllAdded places silos = All (λ silo. is_added places silo ≡ true) silos

-- ---- rows
keys_changed : (change : Row → Row) (silo : Silo) (rows : List (Silo × Row)) → keys_of (changed change silo rows) ≡ keys_of rows
keys_changed change silo [] = refl
keys_changed change silo (e ∷ es) = ap (λ ks. e.0 ∷ ks) (keys_changed change silo es)

pub added_changed : (places : PlacesValue) (change : Row → Row) (silo : Silo) (rows : List (Silo × Row)) → AllAdded places (keys_of rows)
    → AllAdded places (keys_of (changed change silo rows))
added_changed places change silo rows all = subst (AllAdded places) (sym (keys_changed change silo rows)) all

added_without : (places : PlacesValue) (old : Option Silo) (version : ℕ) (rows : List (Silo × Row)) → AllAdded places (keys_of rows)
    → AllAdded places (keys_of (without old version rows))
added_without places None version rows all = all
added_without places (Some old) version rows all = added_changed places (dying version) old rows all

pub added_joined : (places : PlacesValue) (silo : Silo) (version : ℕ) (rows : List (Silo × Row)) → AllAdded places (keys_of rows)
    → is_added places silo ≡ true → AllAdded places (keys_of (joined_rows silo version rows))
added_joined places silo version rows all there =
    added_without places (occupant silo rows) version (insert_entry silo_cmp rows silo (joining version))
    (All-keys-insert_entry silo_cmp silo (joining version) (λ q. is_added places q ≡ true) rows all there)

-- ---- a silo is added
either_there : {X : Type 0} (b : Bool) (x : X) (o : Option X) → is_some o ≡ true → is_some (cond b (Some x) o) ≡ true
either_there true x o there = refl
either_there false x o there = there

with_other : (places : PlacesValue) (silo : Silo) (given : List ℕ) (q : Silo) → is_added places q ≡ true
    → is_added (with_silo places silo given) q ≡ true
with_other places silo given q there =
    let list = places_for places.hashing places.points silo given in
    ap is_some (lookup-insert_entry silo_cmp_total silo list q places.entries)
    ∙ either_there (is_at (silo_cmp q) silo) list (lookup (is_at (silo_cmp q)) places.entries) there

with_itself : (places : PlacesValue) (silo : Silo) (given : List ℕ) → is_added (with_silo places silo given) silo ≡ true
with_itself places silo given =
    let list = places_for places.hashing places.points silo given in
    ap is_some (lookup-insert_entry silo_cmp_total silo list silo places.entries)
    ∙ ap (λ r. is_some (cond (is_eq r) (Some list) (lookup (is_at (silo_cmp silo)) places.entries))) (tied_itself silo_cmp_total silo)

-- an addition that isn't refused
not_refused : (counted some there : Bool) (made added : PlacesValue)
    → ◌≡◌ {A = Result PlacesValue ℕ} (cond (not counted) (Err 402) (cond (not some) (Err 403) (cond there (Err 404) (Ok made)))) (Ok added)
    → made ≡ added
not_refused false some there made added is = absurd (cc (is))
not_refused true false there made added is = absurd (cc (is))
not_refused true true true made added is = absurd (cc (is))
not_refused true true false made added is = cc (is)

-- what is added to the places is one silo's
pub added_is : (places added : PlacesValue) (silo : Silo) (given : List ℕ) → after_add places silo given ≡ Ok added
    → with_silo places silo given ≡ added
added_is places added silo given is =
    not_refused (is_point_count places.hashing (length given)) (has_points places.hashing (length given)) (is_added places silo)
    (with_silo places silo given) added is

pub added_more : (places added : PlacesValue) (silo : Silo) (given : List ℕ) (silos : List Silo) → after_add places silo given ≡ Ok added
    → AllAdded places silos → AllAdded added silos
added_more places added silo given silos is all =
    subst (λ p. AllAdded p silos) (added_is places added silo given is)
    (All-weaker (λ q. is_added places q ≡ true) (λ q. is_added (with_silo places silo given) q ≡ true)
    (λ q there. with_other places silo given q there) silos all)

pub added_itself : (places added : PlacesValue) (silo : Silo) (given : List ℕ) → after_add places silo given ≡ Ok added
    → is_added added silo ≡ true
added_itself places added silo given is =
    subst (λ p. is_added p silo ≡ true) (added_is places added silo given is) (with_itself places silo given)

-- ---- views
added_cons : (places : PlacesValue) (silo : Silo) (status : Option Status) (rows : List (Silo × Status)) → is_added places silo ≡ true
    → AllAdded places (keys_of rows) → AllAdded places (keys_of (cons_option (option_map (λ s. (silo, s)) status) rows))
added_cons places silo None rows there all = all
added_cons places silo (Some status) rows there all = All-cons (λ q. is_added places q ≡ true) silo (keys_of rows) there all

added_in : (places : PlacesValue) (version : ℕ) (rows : List (Silo × Row)) → AllAdded places (keys_of rows)
    → AllAdded places (keys_of (rows_in version rows))
added_in places version [] all = all
added_in places version (e ∷ es) all =
    added_cons places e.0 (status_in version e.1) (rows_in version es) (All-head (λ q. is_added places q ≡ true) e.0 (keys_of es) all)
    (added_in places version es (All-tail (λ q. is_added places q ≡ true) e.0 (keys_of es) all))

-- so were those that a view lists of them
added_kept : (places : PlacesValue) (p : Silo × Status → Bool) (rows : List (Silo × Status)) → AllAdded places (keys_of rows)
    → AllAdded places (keys_of (filter p rows))
added_kept places p [] all = all
added_kept places p (e ∷ es) all =
    let later = added_kept places p es (All-tail (λ q. is_added places q ≡ true) e.0 (keys_of es) all) in
    on_bool (λ b. AllAdded places (keys_of (cond b (e ∷ filter p es) (filter p es)))) (p e)
    (λ t. All-cons (λ q. is_added places q ≡ true) e.0 (keys_of (filter p es)) (All-head (λ q. is_added places q ≡ true) e.0 (keys_of es) all) later)
    (λ f. later)

added_active : (places : PlacesValue) (rows : List (Silo × Status)) → AllAdded places (keys_of rows)
    → list_all (is_added places) (keys_of (filter (λ row. is_active row.1) rows)) ≡ true
added_active places [] all = refl
added_active places (e ∷ es) all =
    let later = added_active places es (All-tail (λ q. is_added places q ≡ true) e.0 (keys_of es) all) in
    on_bool (λ b. list_all (is_added places) (keys_of
    (cond b (e ∷ filter (λ row. is_active row.1) es) (filter (λ row. is_active row.1) es))) ≡ true) (is_active e.1)
    (λ t. ap (λ b. b && list_all (is_added places) (keys_of (filter (λ row. is_active row.1) es)))
    (All-head (λ q. is_added places q ≡ true) e.0 (keys_of es) all) ∙ later)
    (λ f. later)

-- each Active silo of a view was added
pub added_view : (views : ViewsValue) (places : PlacesValue) (version : ℕ) → AllAdded places (keys_of views.rows)
    → are_added (view_at views version) places ≡ true
added_view views places version all =
    let rows = rows_in version views.rows in
    on_bool (λ b. list_all (is_added places) (keys_of (filter (λ row. is_active row.1) (cond b (listed_rows rows) []))) ≡ true)
    (nat_le version views.version)
    (λ t. added_active places (listed_rows rows)
    (added_kept places (λ row. not (is_spare rows row.0 row.1)) rows (added_in places version views.rows all))) (λ f. refl)

-- a silo with a row was added
pub added_row : (views : ViewsValue) (places : PlacesValue) (silo : Silo) → AllAdded places (keys_of views.rows)
    → IsSome (row_of views silo) → is_added places silo ≡ true
added_row views places silo all there =
    All-contains (λ q. is_added places q ≡ true) (keys_of views.rows) silo all
    (Contains-keys_from_lookup {eq = λ a. is_at (silo_cmp a)} (λ x y at. same_key silo_cmp silo_cmp_exact x y at) silo views.rows there)

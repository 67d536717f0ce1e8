-- The status of a silo before and after an accepted change.
use Rattle.std.proofs.Common.{◌≡◌, ◌≢◌, ℕ, ◌+◌, ◌<◌, ◌≤◌, Bool, true, false, cond, List, [], Option, Some, None, refl, sym, ◌∙◌, ap, arith, option_and_then, nat_le, if◌then◌else◌}
use Rattle.std.proofs.lemmas.Bool.{le-leb, lt-leb, false_from_ne_true}
use Rattle.std.specs.BTreeMap.{is_at}
use Rattle.std.specs.List.Sorted.{IsStrictlySortedBy}
use Rattle.std.specs.Map.{keys_of}
use Rattle.std.specs.Option.{option_map}
use Rattle.texts.proofs.Orderings.{Equal-from}
use Rattle.silo_address.specs.Silo.{Silo, silo_cmp}
use Rattle.membership_view.specs.declared.row.Row.{Row}
use Rattle.membership_view.specs.declared.status.Status.{Status}
use Rattle.membership_view.specs.declared.status.Status.TheVariants.{Active}
use Rattle.membership_view.specs.Row.{has_come, status_in, joining, dying}
use Rattle.membership_view.specs.View.{listed_rows}
use Rattle.membership_view.specs.Views.{ViewsValue, view_at, rows_in}
use Rattle.membership_view.specs.Changes.{is_newest, occupant, changed, without, next_views, joined_rows}
use Rattle.texts.proofs.Entries.{lookup-changed, lookup-insert_entry, lookup-picked, sorted-picked}
use Rattle.membership_view.proofs.Found.{same_entries}
use Rattle.membership_view.proofs.Statuses.{status_before_dying}
use Rattle.membership_view.proofs.SameEndpoint.{found_row, occupant_is}
use Rattle.membership_view.proofs.Joins.{put_in, new_row, found_occupant}
use Rattle.silo_address.proofs.Order.{silo_cmp_exact, silo_cmp_total}

-- a silo's status in the view of a version, by its row
abbrev pub row_status : ℕ → List (Silo × Row) → Silo → Option Status
row_status version rows silo = option_and_then (status_in version) (found_row rows silo)

-- one query finds one key
pub apart : (a b : Silo) → a ≢ b → is_at (silo_cmp a) b ≡ false
apart a b ne = false_from_ne_true (is_at (silo_cmp a) b) (λ h. ne (silo_cmp_exact a b (Equal-from (silo_cmp a b) h)))

-- the changed row of one silo, and the rows of all others
pub row_status-changed : (version : ℕ) (change : Row → Row) (silo : Silo) (rows : List (Silo × Row)) (row : Row)
    → found_row rows silo ≡ Some row
    → (q : Silo) → row_status version (changed change silo rows) q
    ≡ (if is_at (silo_cmp silo) q then status_in version (change row) else row_status version rows q)
row_status-changed version change silo rows row found q =
    ap (λ o. option_and_then (status_in version) o) (lookup-changed silo_cmp_total change silo q rows)
    ∙ by (is_at (silo_cmp silo) q) refl
  where
    here : is_at (silo_cmp silo) q ≡ true → found_row rows q ≡ Some row
    here at = ap (λ k. found_row rows k) (sym (silo_cmp_exact silo q (Equal-from (silo_cmp silo q) at))) ∙ found

    as_it_was : (o : Option Row) → option_and_then (status_in version) (option_map (λ x. x) o) ≡ option_and_then (status_in version) o
    as_it_was None = refl
    as_it_was (Some x) = refl

    by : (b : Bool) → is_at (silo_cmp silo) q ≡ b
        → option_and_then (status_in version) (option_map (λ x. if b then change x else x) (found_row rows q))
        ≡ (if b then status_in version (change row) else row_status version rows q)
    by true at = ap (λ o. option_and_then (status_in version) (option_map (λ x. change x) o)) (here at)
    by false at = as_it_was (found_row rows q)

-- the row that is put in, and the rows of all others
pub row_status-put_in : (version made : ℕ) (silo : Silo) (rows : List (Silo × Row)) (q : Silo)
    → row_status version (put_in silo made rows) q ≡ (if is_at (silo_cmp q) silo then status_in version (joining made) else row_status
    version rows q)
row_status-put_in version made silo rows q =
    ap (λ o. option_and_then (status_in version) o) (lookup-insert_entry silo_cmp_total silo (joining made) q rows)
    ∙ by (is_at (silo_cmp q) silo)
  where
    by : (b : Bool) → option_and_then (status_in version) (cond b (Some (joining made)) (found_row rows q))
        ≡ (if b then status_in version (joining made) else row_status version rows q)
    by true = refl
    by false = refl

status_before_joining : (version made : ℕ) → version < made → status_in version (joining made) ≡ None
status_before_joining version made h = ap (λ b. if b then Some Active else None) (lt-leb made version h)

-- two lists of rows say the same of a version
abbrev pub SaysSame : ℕ → List (Silo × Row) → List (Silo × Row) → Type 0
SaysSame version after rows = (q : Silo) → row_status version after q ≡ row_status version rows q

pub same-changed : (version : ℕ) (change : Row → Row) (silo : Silo) (rows : List (Silo × Row)) (row : Row) → found_row rows silo ≡ Some row
    → status_in version (change row) ≡ status_in version row → SaysSame version (changed change silo rows) rows
same-changed version change silo rows row found same q =
    row_status-changed version change silo rows row found q ∙ by (is_at (silo_cmp silo) q) refl
  where
    by : (b : Bool) → is_at (silo_cmp silo) q ≡ b → (if b then status_in version (change row) else row_status version rows q) ≡ row_status
        version rows q
    by true at =
        same ∙ ap (λ o. option_and_then (status_in version) o)
        (sym found ∙ ap (λ k. found_row rows k) (silo_cmp_exact silo q (Equal-from (silo_cmp silo q) at)))
    by false at = refl

same-put_in : (version made : ℕ) (silo : Silo) (rows : List (Silo × Row)) → is_newest silo rows ≡ true → version < made
    → SaysSame version (put_in silo made rows) rows
same-put_in version made silo rows newest h q = row_status-put_in version made silo rows q ∙ by (is_at (silo_cmp q) silo) refl
  where
    by : (b : Bool) → is_at (silo_cmp q) silo ≡ b → (if b then status_in version (joining made) else row_status version rows q) ≡ row_status
        version rows q
    by true at =
        status_before_joining version made h
        ∙ ap (λ o. option_and_then (status_in version) o)
        (sym (new_row silo rows newest) ∙ ap (λ k. found_row rows k) (sym (silo_cmp_exact q silo (Equal-from (silo_cmp q silo) at))))
    by false at = refl

-- a join leaves every earlier version as it was
pub same-joined : (version made : ℕ) (silo : Silo) (rows : List (Silo × Row)) → IsStrictlySortedBy silo_cmp (keys_of rows)
    → is_newest silo rows ≡ true
    → version < made → SaysSame version (joined_rows silo made rows) rows
same-joined version made silo rows s newest h = by (occupant silo rows) refl
  where
    by : (o : Option Silo) → occupant silo rows ≡ o → SaysSame version (without o made (put_in silo made rows)) rows
    by None is q = same-put_in version made silo rows newest h q
    by (Some old) is q =
        let occupies = occupant_is silo rows s old is in
        let before : has_come occupies.row.dead version ≡ false = ap (λ c. has_come c version) occupies.not_dead in
        same-changed version (dying made) old (put_in silo made rows) occupies.row (found_occupant silo made rows newest old occupies)
        (status_before_dying version made occupies.row h before) q
        ∙ same-put_in version made silo rows newest h q

-- rows that say the same of a version make one view of it
pub rows_in-same : (version : ℕ) (after rows : List (Silo × Row)) → IsStrictlySortedBy silo_cmp (keys_of after)
    → IsStrictlySortedBy silo_cmp (keys_of rows)
    → SaysSame version after rows → rows_in version after ≡ rows_in version rows
rows_in-same version after rows s t same =
    same_entries silo_cmp_total silo_cmp_exact (rows_in version after) (rows_in version rows)
    (sorted-picked silo_cmp_total (status_in version) after s) (sorted-picked silo_cmp_total (status_in version) rows t)
    (λ q. lookup-picked silo_cmp_total (status_in version) q after s ∙ same q
    ∙ sym (lookup-picked silo_cmp_total (status_in version) q rows t))

-- so the view stays
pub view_at-same : (views : ViewsValue) (after : List (Silo × Row)) (version : ℕ) → version ≤ views.version
    → rows_in version after ≡ rows_in version views.rows
    → view_at (next_views views after) version ≡ view_at views version
view_at-same views after version h same =
    let now : nat_le version (views.version + 1) ≡ true = le-leb version (views.version + 1) (omega arith) in
    let before : nat_le version views.version ≡ true = le-leb version views.version h in
    ap (λ rows. record { version = version; rows = rows })
    (ap (λ b. if b then listed_rows (rows_in version after) else []) now ∙ ap (λ r. listed_rows r) same
    ∙ sym (ap (λ b. if b then listed_rows (rows_in version views.rows) else []) before))

-- What an accepted change is, and that the views keep after it what they kept before.
use Rattle.std.proofs.Common.{◌≡◌, ◌≢◌, ℕ, ◌+◌, ◌*◌, ◌<◌, ◌≤◌, Bool, true, false, not, nat_lt, List, [], ◌∷◌, Option, Some, None, IsSome, Result, Ok, Err, refl, sym, ◌∙◌, ap, arith, length, sum_by, subst, if◌then◌else◌}
use Rattle.std.proofs.lemmas.Bool.{ltb-true}
use Rattle.std.proofs.lemmas.Option.{same_Some, option_and_then_some}
use Rattle.std.proofs.lemmas.List.Sums.{sum_by-cons}
use Rattle.std.specs.Map.{values_of}
use Rattle.silo_address.specs.Silo.{Silo}
use Rattle.membership_view.specs.declared.row.Row.{Row}
use Rattle.membership_view.specs.declared.status.Status.{Status}
use Rattle.membership_view.specs.declared.status.Status.TheVariants.{Active, Leaving, Dead}
use Rattle.membership_view.specs.Row.{has_come, status_in, leaving, dying}
use Rattle.membership_view.specs.Views.{ViewsValue, row_of, status_at}
use Rattle.membership_view.specs.Changes.{Change, Join, Leave, Die, is_newest, changed, next_views, after, after_join, leave_from, die_from, with_leave, with_death, joined_rows}
use Rattle.membership_view.specs.Whole.{IsInTime, IsViews, changes_of}
use Rattle.membership_view.specs.Laws.{VersionsFit}
use Rattle.membership_view.proofs.Statuses.{not_made, active_is, not_dead_is, changes_leaving, changes_dying}
use Rattle.membership_view.proofs.Known.{status_at-made}
use Rattle.membership_view.proofs.ChangedRow.{IsChange, whole-changed, in_time_later}
use Rattle.membership_view.proofs.Joins.{in_time_dying, whole-joined}

-- a join that is accepted: of the newest of its endpoint, with room for its row
pub record IsJoin (views : ViewsValue) (silo : Silo) (next : ViewsValue) : Type 0 where
  pub newest : is_newest silo views.rows ≡ true
  pub room : length views.rows < views.limit
  pub is : next ≡ next_views views (joined_rows silo (views.version + 1) views.rows)

-- a join, by whether it is the newest of its endpoint and whether there is room
abbrev judged : ViewsValue → Silo → Bool → Bool → Result ViewsValue ℕ
judged views silo newest room =
    if not newest then Err 201 else (if not room then Err 205 else Ok (next_views views (joined_rows silo (views.version + 1) views.rows)))

pub join_is : (views : ViewsValue) (silo : Silo) (next : ViewsValue) → after_join views silo ≡ Ok next → IsJoin views silo next
join_is views silo next h = by (is_newest silo views.rows) refl (nat_lt (length views.rows) views.limit) refl h
  where
    by : (b : Bool) → is_newest silo views.rows ≡ b → (c : Bool) → nat_lt (length views.rows) views.limit ≡ c
        → judged views silo b c ≡ Ok next
        → IsJoin views silo next
    by false newest c room h = cc
    by true newest false room h = cc
    by true newest true room h = record { newest = newest; room = ltb-true (length views.rows) views.limit room; is = cc }

-- a leave that is accepted: of an Active silo
pub record IsLeave (views : ViewsValue) (silo : Silo) (status : Option Status) (next : ViewsValue) : Type 0 where
  pub active : status ≡ Some Active
  pub is : next ≡ next_views views (changed (leaving (views.version + 1)) silo views.rows)

pub leave_is : (views : ViewsValue) (silo : Silo) (next : ViewsValue) (status : Option Status) → leave_from status views silo ≡ Ok next
    → IsLeave views silo status next
leave_is views silo next None h = cc
leave_is views silo next (Some Active) h = record { active = refl; is = cc }
leave_is views silo next (Some Leaving) h = cc
leave_is views silo next (Some Dead) h = cc

-- a death that is accepted: of a silo that is there and isn't Dead
pub record IsDeath (views : ViewsValue) (silo : Silo) (status : Option Status) (next : ViewsValue) : Type 0 where
  pub was : Status
  pub there : status ≡ Some was
  pub not_dead : Some was ≢ Some Dead
  pub is : next ≡ next_views views (changed (dying (views.version + 1)) silo views.rows)

pub death_is : (views : ViewsValue) (silo : Silo) (next : ViewsValue) (status : Option Status) → die_from status views silo ≡ Ok next
    → IsDeath views silo status next
death_is views silo next None h = cc
death_is views silo next (Some Active) h = record { was = Active; there = refl; not_dead = λ e. cc; is = cc }
death_is views silo next (Some Leaving) h = record { was = Leaving; there = refl; not_dead = λ e. cc; is = cc }
death_is views silo next (Some Dead) h = cc

-- a silo with a status in the current view has a row, which says so
pub record HasRow (views : ViewsValue) (silo : Silo) (status : Status) : Type 0 where
  pub row : Row
  pub found : row_of views silo ≡ Some row
  pub says : status_in views.version row ≡ Some status

pub has_row : (views : ViewsValue) → IsViews views → (silo : Silo) (status : Status) → status_at views views.version silo ≡ Some status
    → HasRow views silo status
has_row views whole silo status is =
    option_and_then_some (status_in views.version) (row_of views silo) status
    (sym (status_at-made views whole.in_order views.version silo (omega arith)) ∙ is)
    (λ row found says. record { row = row; found = found; says = says })

-- the row of an Active silo is not left and not dead
pub active_row : {first : ℕ} (version : ℕ) (row : Row) → IsInTime first version row → status_in version row ≡ Some Active
    → (row.dead ≡ None) × (row.left ≡ None)
active_row version row in' says =
    let parts = active_is (has_come row.dead version) (has_come row.left version) _ says in (
      not_made row.dead version (λ made is. (in'.dead_after made is).1) parts.0,
      not_made row.left version
          (λ made is. (in'.left_after made is).1) parts.1,
    )

-- the row of a silo that isn't Dead is not dead
pub occupant_row : {first : ℕ} (version : ℕ) (row : Row) → IsInTime first version row → status_in version row ≢ Some Dead → row.dead ≡ None
occupant_row version row in' says =
    not_made row.dead version (λ made is. (in'.dead_after made is).1)
    (not_dead_is (has_come row.dead version) (has_come row.left version) _ says)

leaving_ok : {first : ℕ} (version : ℕ) (row : Row) → IsInTime first version row → row.left ≡ None → IsChange first (version + 1) (leaving (version + 1)) row
leaving_ok version row in' none = record {
  in_time = record {
    joined_above = in'.joined_above;
    joined_from = in'.joined_from;
    joined_by = let k : row.joined ≤ version = in'.joined_by in omega arith;
    left_after = λ made is. made_now made (same_Some (version + 1) made is);
    dead_after = (in_time_later version (version + 1) row (omega arith) in').dead_after;
    left_later = λ made is at_once. absurd (not_at_once made (same_Some (version + 1) made is) at_once);
    dead_later = in'.dead_later;
  };
  joined = refl;
  dead = λ made come. come;
  counted = changes_leaving (version + 1) row none;
}
  where
    made_now : (made : ℕ) → version + 1 ≡ made → (row.joined ≤ made) × (made ≤ version + 1)
    made_now made is = let k : row.joined ≤ version = in'.joined_by in (omega arith, omega arith)

    not_at_once : (made : ℕ) → version + 1 ≡ made → made ≡ row.joined → ⊥
    not_at_once made is at_once = let k : row.joined ≤ version = in'.joined_by in omega arith

dying_ok : {first : ℕ} (version : ℕ) (row : Row) → IsInTime first version row → row.dead ≡ None → IsChange first (version + 1) (dying (version + 1)) row
dying_ok version row in' none = record {
  in_time = in_time_dying version row in';
  joined = refl;
  dead = λ made come. absurd (never made come);
  counted = changes_dying (version + 1) row none;
}
  where
    never : (made : ℕ) → has_come row.dead made ≡ true → ⊥
    never made come = let no : has_come row.dead made ≡ false = ap (λ c. has_come c made) none in cc

pub whole-leave : (views : ViewsValue) → IsViews views → (silo : Silo) (row : Row) → row_of views silo ≡ Some row
    → status_in views.version row ≡ Some Active
    → IsViews (next_views views (changed (leaving (views.version + 1)) silo views.rows))
whole-leave views whole silo row found says =
    let in' = whole.in_time silo row found in
    whole-changed views whole silo row found (leaving (views.version + 1))
    (leaving_ok views.version row in' (active_row views.version row in' says).1)

pub whole-death : (views : ViewsValue) → IsViews views → (silo : Silo) (row : Row) → row_of views silo ≡ Some row
    → status_in views.version row ≢ Some Dead
    → IsViews (next_views views (changed (dying (views.version + 1)) silo views.rows))
whole-death views whole silo row found says =
    let in' = whole.in_time silo row found in
    whole-changed views whole silo row found (dying (views.version + 1))
    (dying_ok views.version row in' (occupant_row views.version row in' says))

-- what all views keep they keep after every accepted change
pub whole-after : (views : ViewsValue) → IsViews views → (change : Change) (next : ViewsValue) → after views change ≡ Ok next → IsViews next
whole-after views whole (Join silo) next h =
    let is = join_is views silo next h in
    subst (λ v. IsViews v) (sym is.is) (whole-joined views whole silo is.newest is.room)
whole-after views whole (Leave silo) next h =
    let is = leave_is views silo next (status_at views views.version silo) h in
    let has = has_row views whole silo Active is.active in
    subst (λ v. IsViews v) (sym is.is) (whole-leave views whole silo has.row has.found has.says)
whole-after views whole (Die silo) next h =
    let is = death_is views silo next (status_at views views.version silo) h in
    let has = has_row views whole silo is.was is.there in
    subst (λ v. IsViews v) (sym is.is) (whole-death views whole silo has.row has.found (λ e. is.not_dead (sym has.says ∙ e)))

-- there are at most three versions a row
sum_most : (rows : List (Silo × Row)) → sum_by changes_of (values_of rows) ≤ 3 * length rows
sum_most [] = omega arith
sum_most (e ∷ es) =
    let k : changes_of e.1 ≤ 3 = grind arith in
    omega (arith, sum_by-cons changes_of e.1 (values_of es), sum_most es)

-- so there is always a next version below 2^64
pub versions_fit : VersionsFit
versions_fit views whole =
    let a : views.version ≤ views.first + sum_by changes_of (values_of views.rows) = whole.counted in
    let b : length views.rows ≤ views.limit = whole.within_limit in
    let c : views.limit < 4611686018427387904 = whole.limit_below in
    let d : views.first < 4611686018427387904 = whole.first_below in
    omega (arith, sum_most views.rows)

-- what all views keep they keep after an Active silo begins to leave
pub whole-leaving : (views : ViewsValue) → IsViews views → (silo : Silo) → status_at views views.version silo ≡ Some Active
    → IsViews (with_leave views silo)
whole-leaving views whole silo active =
    whole-after views whole (Leave silo) (with_leave views silo) (ap (λ o. leave_from o views silo) active)

-- and after a silo that is there, and isn't Dead, dies
pub whole-dying : (views : ViewsValue) → IsViews views → (silo : Silo) → IsSome (status_at views views.version silo)
    → status_at views views.version silo ≢ Some Dead
    → IsViews (with_death views silo)
whole-dying views whole silo there not_dead =
    whole-after views whole (Die silo) (with_death views silo) (by (status_at views views.version silo) there not_dead)
  where
    by : (o : Option Status) → IsSome o → o ≢ Some Dead → die_from o views silo ≡ Ok (with_death views silo)
    by None there not_dead = cc
    by (Some Active) there not_dead = refl
    by (Some Leaving) there not_dead = refl
    by (Some Dead) there not_dead = absurd (not_dead refl)

-- What stays from view to view, and from change to change.
use Rattle.std.proofs.Common.{◌≡◌, inl, inr, ℕ, ◌+◌, ◌<◌, ◌≤◌, Bool, true, false, List, [], Option, Some, None, IsSome, refl, sym, ◌∙◌, ap, arith, subst, option_and_then, nat_le, if◌then◌else◌}
use Rattle.std.proofs.lemmas.Bool.{le-leb, leb-true, cases_order}
use Rattle.std.proofs.lemmas.Option.{same_Some}
use Rattle.std.specs.Option.{option_map}
use Rattle.silo_address.specs.Silo.{Silo, silo_cmp, IsSameEndpoint}
use Rattle.membership_view.specs.declared.row.Row.{Row}
use Rattle.membership_view.specs.declared.status.Status.TheVariants.{Active, Leaving, Dead}
use Rattle.membership_view.specs.Row.{has_come, status_in, leaving, dying}
use Rattle.membership_view.specs.View.{listed_rows}
use Rattle.membership_view.specs.Views.{ViewsValue, row_of, view_at, rows_in, status_at}
use Rattle.membership_view.specs.Changes.{Change, Join, Leave, Die, changed, next_views, joined_rows}
use Rattle.membership_view.specs.Whole.{IsViews}
use Rattle.membership_view.specs.Laws.{Accepts, VersionsRise, ViewsStart, ViewsStay, ViewsAreKept, FirstIsEmpty, DeadStaysDead, RowsStay, JoinedFrom, OneIsLive}
use Rattle.texts.proofs.Entries.{sorted-nil}
use Rattle.membership_view.proofs.Order.{Decides-shares, same_generation}
use Rattle.membership_view.proofs.Statuses.{has_come_later, joined_since, there_from, nothing_before, dead_later, there_later, status_before_leaving, status_before_dying}
use Rattle.membership_view.proofs.Known.{status_at-made}
use Rattle.membership_view.proofs.Kept.{join_is, leave_is, death_is, has_row, active_row, occupant_row, whole-after}
use Rattle.membership_view.proofs.After.{SaysSame, same-changed, same-joined, rows_in-same, view_at-same}

pub views_start : ViewsStart
views_start limit version above below early = record {
  limit_above = above;
  limit_below = below;
  first_below = early;
  first_upto = omega arith;
  within_limit = omega arith;
  in_order = sorted-nil silo_cmp;
  in_time = λ silo row found. cc;
  older_dead = λ older newer row next at_older at_newer same lower. cc;
  counted = omega arith;
}

pub views_are_kept : ViewsAreKept
views_are_kept views change next accepts = whole-after views accepts.whole change next accepts.is

-- what a change makes of the views, however it is told
record IsNext (views next : ViewsValue) : Type 0 where
  rows : List (Silo × Row)
  is : next ≡ next_views views rows
  same : (version : ℕ) → version ≤ views.version → SaysSame version rows views.rows

is_next : (views : ViewsValue) (change : Change) (next : ViewsValue) → Accepts views change next → IsNext views next
is_next views (Join silo) next accepts =
    let is = join_is views silo next accepts.is in
    record {
      rows = joined_rows silo (views.version + 1) views.rows;
      is = is.is;
      same = λ version h. same-joined version (views.version + 1) silo views.rows accepts.whole.in_order is.newest (omega arith);
    }
is_next views (Leave silo) next accepts =
    let is = leave_is views silo next (status_at views views.version silo) accepts.is in
    let has = has_row views accepts.whole silo Active is.active in
    let none = active_row views.version has.row (accepts.whole.in_time silo has.row has.found) has.says in
    record {
      rows = changed (leaving (views.version + 1)) silo views.rows;
      is = is.is;
      same = λ version h. same-changed version (leaving (views.version + 1)) silo views.rows has.row has.found
          (status_before_leaving version (views.version + 1) has.row (omega arith) (ap (λ c. has_come c version) none.1));
    }
is_next views (Die silo) next accepts =
    let is = death_is views silo next (status_at views views.version silo) accepts.is in
    let has = has_row views accepts.whole silo is.was is.there in
    let none = occupant_row views.version has.row (accepts.whole.in_time silo has.row has.found) (λ e. is.not_dead (sym has.says ∙ e)) in
    record {
      rows = changed (dying (views.version + 1)) silo views.rows;
      is = is.is;
      same = λ version h. same-changed version (dying (views.version + 1)) silo views.rows has.row has.found
          (status_before_dying version (views.version + 1) has.row (omega arith) (ap (λ c. has_come c version) none));
    }

pub versions_rise : VersionsRise
versions_rise views change next accepts = ap (λ v. v.version) (is_next views change next accepts).is

pub views_stay : ViewsStay
views_stay views change next accepts version h =
    let is = is_next views change next accepts in
    let kept : IsViews (next_views views is.rows) = subst (λ v. IsViews v) is.is (views_are_kept views change next accepts) in
    ap (λ v. view_at v version) is.is
    ∙ view_at-same views is.rows version h (rows_in-same version is.rows views.rows kept.in_order accepts.whole.in_order
    (is.same version h))

-- nor does what rows say of a version that was made
pub statuses_stay : (views : ViewsValue) (change : Change) (next : ViewsValue) → Accepts views change next → (version : ℕ) → version ≤ views.version
    → (silo : Silo) → status_at next version silo ≡ status_at views version silo
statuses_stay views change next accepts version h silo =
    let is = is_next views change next accepts in
    let kept : IsViews (next_views views is.rows) = subst (λ v. IsViews v) is.is (views_are_kept views change next accepts) in
    ap (λ v. status_at v version silo) is.is
    ∙ status_at-made (next_views views is.rows) kept.in_order version silo (omega (h, arith))
    ∙ is.same version h silo
    ∙ sym (status_at-made views accepts.whole.in_order version silo h)

-- by the row: what holds of a row's statuses from version to version holds of the views
by_row : (views : ViewsValue) → IsViews views → (silo : Silo) (version : ℕ) → version ≤ views.version
    → status_at views version silo ≡ option_and_then (status_in version) (row_of views silo)
by_row views whole silo version h = status_at-made views whole.in_order version silo h

pub dead_stays_dead : DeadStaysDead
dead_stays_dead views whole silo earlier later upto made dead =
    by_row views whole silo later made
    ∙ by (row_of views silo) (sym (by_row views whole silo earlier (omega arith)) ∙ dead)
  where
    by : (o : Option Row) → option_and_then (status_in earlier) o ≡ Some Dead → option_and_then (status_in later) o ≡ Some Dead
    by None h = cc
    by (Some row) h = dead_later row earlier later upto h

pub rows_stay : RowsStay
rows_stay views whole silo earlier later upto made there =
    subst (λ o. IsSome o) (sym (by_row views whole silo later made))
    (by (row_of views silo) (subst (λ o. IsSome o) (by_row views whole silo earlier (omega arith)) there))
  where
    by : (o : Option Row) → IsSome (option_and_then (status_in earlier) o) → IsSome (option_and_then (status_in later) o)
    by None h = h
    by (Some row) h = there_later row earlier later upto h

-- a silo with a status in a version has a row, which says so, and the version has been made
record IsThere (views : ViewsValue) (version : ℕ) (silo : Silo) : Type 0 where
  row : Row
  found : row_of views silo ≡ Some row
  made : version ≤ views.version
  says : status_at views version silo ≡ status_in version row

is_there : (views : ViewsValue) → IsViews views → (version : ℕ) (silo : Silo) → IsSome (status_at views version silo)
    → IsThere views version silo
is_there views whole version silo there =
    by (nat_le version views.version) refl there
  where
    row_is : version ≤ views.version → (o : Option Row) → row_of views silo ≡ o → IsSome (option_and_then (status_in version) o)
        → IsThere views version silo
    row_is h None is there = cc
    row_is h (Some row) is there =
        record {
          row = row;
          found = is;
          made = h;
          says = by_row views whole silo version h
              ∙ ap (λ o. option_and_then (status_in version) o) is;
        }

    by : (b : Bool) → nat_le version views.version ≡ b
        → IsSome (if b then option_and_then (status_in version) (row_of views silo) else None) → IsThere views version silo
    by true h there = row_is (leb-true version views.version h) (row_of views silo) refl there
    by false h there = cc

pub joined_from : JoinedFrom
joined_from views whole silo joined at version made = (λ there. after there, λ h. from h)
  where
    after : IsSome (status_at views version silo) → joined ≤ version
    after there =
        let is = is_there views whole version silo there in
        let same : is.row.joined ≡ joined = same_Some is.row.joined joined (sym (ap (λ o. option_map (λ (r : Row). r.joined) o) is.found) ∙ at) in
        let k : is.row.joined ≤ version = joined_since views.version version is.row (whole.in_time silo is.row is.found) (subst (λ o. IsSome o) is.says there) in
        omega arith

    there_by_row : joined ≤ version → (o : Option Row) → row_of views silo ≡ o → option_map (λ (r : Row). r.joined) o ≡ Some joined
        → IsSome (option_and_then (status_in version) o)
    there_by_row h None is at = cc
    there_by_row h (Some row) is at =
        let same : row.joined ≡ joined = same_Some row.joined joined at in there_from version row (omega arith)

    from : joined ≤ version → IsSome (status_at views version silo)
    from h = subst (λ o. IsSome o) (sym (by_row views whole silo version made)) (there_by_row h (row_of views silo) refl at)

pub first_is_empty : FirstIsEmpty
first_is_empty views whole =
    ap (λ b. if b then listed_rows (rows_in 0 views.rows) else []) (le-leb 0 views.version (omega arith))
    ∙ ap (λ rows. listed_rows rows)
    (rows_in-same 0 views.rows [] whole.in_order (sorted-nil silo_cmp) (λ q. nothing q (row_of views q) refl))
  where
    nothing : (q : Silo) (o : Option Row) → row_of views q ≡ o → option_and_then (status_in 0) o ≡ None
    nothing q None is = refl
    nothing q (Some row) is = let in' = whole.in_time q row is in nothing_before views.version 0 row in' in'.joined_above

pub one_is_live : OneIsLive
one_is_live views whole version a b same a_lives b_lives =
    let of_a = is_there views whole version a a_lives.0 in
    let of_b = is_there views whole version b b_lives.0 in
    elim (cases_order a.generation b.generation) [
      | inl level ↦ same_generation a b ((Decides-shares a b).1 same) level
      | inr k ↦ elim k [
        | inl lower ↦ absurd (a_lives.1 (dead a b of_a of_b (sym same.0, sym same.1) lower b_lives.0))
        | inr higher ↦ absurd (b_lives.1 (dead b a of_b of_a same higher a_lives.0))
      ]
    ]
  where
    dead : (older newer : Silo) → (of_older : IsThere views version older) → (of_newer : IsThere views version newer)
        → IsSameEndpoint newer older
        → older.generation < newer.generation → IsSome (status_at views version newer) → status_at views version older ≡ Some Dead
    dead older newer of_older of_newer same lower there =
        let joined : of_newer.row.joined ≤ version =
        joined_since views.version version of_newer.row (whole.in_time newer of_newer.row of_newer.found)
        (subst (λ o. IsSome o) of_newer.says there) in
        let came : has_come of_older.row.dead version ≡ true =
        has_come_later of_older.row.dead of_newer.row.joined version joined
        (whole.older_dead older newer of_older.row of_newer.row of_older.found of_newer.found same lower) in
        of_older.says ∙ ap (λ d. if d then Some Dead else
        (if has_come of_older.row.left version then Some Leaving else
        (if nat_le of_older.row.joined version then Some Active else None))) came

-- What a view says of a silo, by the rows.
use Rattle.std.proofs.Common.{◌≡◌, ◌≢◌, ◌⊎◌, inl, inr, ℕ, ◌≤◌, Bool, true, false, cond, ◌||◌, ◌==◌, List, [], ◌∷◌, IsSome, Option, Some, None, refl, sym, ◌∙◌, ap, arith, subst, nat_le, if◌then◌else◌}
use Rattle.std.proofs.lemmas.Bool.{le-leb, lt-leb, leb-true, eqb-true, or_left, or_right, false_from_ne_true, cases_lt}
use Rattle.std.proofs.lemmas.Option.{same_Some}
use Rattle.std.proofs.lemmas.Map.Keys.{sorted_tail}
use Rattle.std.specs.List.Sorted.{IsStrictlySortedBy}
use Rattle.std.specs.Map.{lookup, keys_of}
use Rattle.std.specs.BTreeMap.{is_at}
use Rattle.std.specs.Ordering.{is_eq}
use Rattle.std.specs.declared.cmp.Ordering.{Ordering}
use Rattle.std.specs.declared.cmp.Ordering.TheVariants.{Less, Equal, Greater}
use Rattle.texts.proofs.Entries.{lookup-picked, sorted-nil, sorted-picked}
use Rattle.silo_address.specs.Silo.{Silo, silo_cmp}
use Rattle.silo_address.proofs.Order.{silo_cmp_exact, silo_cmp_total}
use Rattle.membership_view.specs.declared.row.Row.{Row}
use Rattle.membership_view.specs.declared.status.Status.{Status}
use Rattle.membership_view.specs.declared.status.Status.TheVariants.{Active, Leaving, Dead}
use Rattle.membership_view.specs.Row.{has_come, is_made_in, status_in, was_dead}
use Rattle.membership_view.specs.View.{IsByAddress, is_newer, is_outlived, listed_rows, or_outlived, status_of}
use Rattle.membership_view.specs.Views.{ViewsValue, rows_in, view_at}
use Rattle.membership_view.specs.Beginning.{beginning}
use Rattle.membership_view.specs.Whole.{IsInTime}
use Rattle.membership_view.specs.Laws.{ViewsSayStatuses, ViewsSayNoMore, IsOutlivedIn}
use Rattle.membership_view.proofs.After.{row_status}
use Rattle.membership_view.proofs.Found.{found_behind, found_first}
use Rattle.membership_view.proofs.Known.{status_at-made}
use Rattle.membership_view.proofs.Listed.{newer_parts, sorted_listed, status_listed}
use Rattle.membership_view.proofs.Statuses.{active_is, dead_by_come, joined_since}
use Rattle.membership_view.proofs.Order.{Decides-shares}

abbrev Sorted : List (Silo × Status) → Type 0
Sorted rows = IsStrictlySortedBy silo_cmp (keys_of rows)

-- whom a row that is found is newer than is outlived
pub outlived_there : (q newer : Silo) (status : Status) (rows : List (Silo × Status)) → lookup (is_at (silo_cmp newer)) rows ≡ Some status
    → is_newer newer q ≡ true → is_outlived q rows ≡ true
outlived_there q newer status [] found is = absurd (cc (found))
outlived_there q newer status (e ∷ es) found is = by (silo_cmp newer e.0) refl found (λ later. outlived_there q newer status es later is)
  where
    by : (r : Ordering) → silo_cmp newer e.0 ≡ r → cond (is_eq r) (Some e.1) (lookup (is_at (silo_cmp newer)) es) ≡ Some status
        → (lookup (is_at (silo_cmp newer)) es ≡ Some status → is_outlived q es ≡ true) → (is_newer e.0 q || is_outlived q es) ≡ true
    by Less at h later = or_right (is_newer e.0 q) (is_outlived q es) (later h)
    by Greater at h later = or_right (is_newer e.0 q) (is_outlived q es) (later h)
    by Equal at h later =
        or_left (is_newer e.0 q) (is_outlived q es) (ap (λ k. is_newer k q) (sym (silo_cmp_exact newer e.0 at)) ∙ is)

-- who is outlived is so by a row that is found
pub record Outlives (q : Silo) (rows : List (Silo × Status)) : Type 0 where
  pub newer : Silo
  pub status : Status
  pub found : lookup (is_at (silo_cmp newer)) rows ≡ Some status
  pub is : is_newer newer q ≡ true

pub outlived_by : (q : Silo) (rows : List (Silo × Status)) → Sorted rows → is_outlived q rows ≡ true → Outlives q rows
outlived_by q [] s is = absurd (cc (is))
outlived_by q (e ∷ es) s is = by (is_newer e.0 q) refl is (outlived_by q es (sorted_tail silo_cmp e.0 (keys_of es) s))
  where
    by : (b : Bool) → is_newer e.0 q ≡ b → (b || is_outlived q es) ≡ true → (is_outlived q es ≡ true → Outlives q es)
        → Outlives q (e ∷ es)
    by true at h later = record { newer = e.0; status = e.1; found = found_first silo_cmp_total e es; is = at }
    by false at h later =
        let behind = later h in
        record {
          newer = behind.newer;
          status = behind.status;
          found = found_behind silo_cmp_total e es s behind.newer behind.status behind.found;
          is = behind.is;
        }

-- ---- by the rows of all views
-- whether a newer silo of its endpoint had joined by that version
abbrev pub outlived_in : ℕ → List (Silo × Row) → Silo → Bool
outlived_in version rows q = is_outlived q (rows_in version rows)

abbrev InOrder : List (Silo × Row) → Type 0
InOrder rows = IsStrictlySortedBy silo_cmp (keys_of rows)

row_found : (version : ℕ) (rows : List (Silo × Row)) → InOrder rows → (q : Silo)
    → lookup (is_at (silo_cmp q)) (rows_in version rows) ≡ row_status version rows q
row_found version rows s q = lookup-picked silo_cmp_total (status_in version) q rows s

pub outlived_if : (version : ℕ) (rows : List (Silo × Row)) → InOrder rows → (q newer : Silo) (status : Status)
    → row_status version rows newer ≡ Some status → is_newer newer q ≡ true → outlived_in version rows q ≡ true
outlived_if version rows s q newer status there is =
    outlived_there q newer status (rows_in version rows) (row_found version rows s newer ∙ there) is

pub record IsOutlived (version : ℕ) (rows : List (Silo × Row)) (q : Silo) : Type 0 where
  pub newer : Silo
  pub status : Status
  pub there : row_status version rows newer ≡ Some status
  pub is : is_newer newer q ≡ true

pub outlived_only : (version : ℕ) (rows : List (Silo × Row)) → InOrder rows → (q : Silo) → outlived_in version rows q ≡ true
    → IsOutlived version rows q
outlived_only version rows s q is =
    let it = outlived_by q (rows_in version rows) (sorted-picked silo_cmp_total (status_in version) rows s) is in
    record {
      newer = it.newer;
      status = it.status;
      there = sym (row_found version rows s it.newer) ∙ it.found;
      is = it.is;
    }

-- rows in which the same silos had joined outlive the same ones
pub outlived_same : (version next : ℕ) (rows after : List (Silo × Row)) → InOrder rows → InOrder after → (q : Silo)
    → ((newer : Silo) → is_newer newer q ≡ true → IsSome (row_status version rows newer) → IsSome (row_status next after newer))
    → ((newer : Silo) → is_newer newer q ≡ true → IsSome (row_status next after newer) → IsSome (row_status version rows newer))
    → outlived_in next after q ≡ outlived_in version rows q
outlived_same version next rows after s t q on back = by (outlived_in next after q) refl (outlived_in version rows q) refl
  where
    some : (o : Option Status) → IsSome o → (status : Status) × (o ≡ Some status)
    some None there = absurd (cc (there))
    some (Some status) there = (status, refl)

    is_some : (o : Option Status) (status : Status) → o ≡ Some status → IsSome o
    is_some o status at = subst (λ p. IsSome p) (sym at) refl

    on_so : outlived_in version rows q ≡ true → outlived_in next after q ≡ true
    on_so is =
        let it = outlived_only version rows s q is in
        let there = some (row_status next after it.newer) (on it.newer it.is (is_some (row_status version rows it.newer) it.status it.there)) in
        outlived_if next after t q it.newer there.0 there.1 it.is

    back_so : outlived_in next after q ≡ true → outlived_in version rows q ≡ true
    back_so is =
        let it = outlived_only next after t q is in
        let there = some (row_status version rows it.newer) (back it.newer it.is (is_some (row_status next after it.newer) it.status it.there)) in
        outlived_if version rows s q it.newer there.0 there.1 it.is

    by : (a : Bool) → outlived_in next after q ≡ a → (b : Bool) → outlived_in version rows q ≡ b → a ≡ b
    by true at true is = refl
    by false at false is = refl
    by true at false is = let yes = back_so at in absurd (cc (yes, is))
    by false at true is = let yes = on_so is in absurd (cc (yes, at))

-- the status in a view is that of the row; else Dead where the silo is outlived
pub said : (views : ViewsValue) → InOrder views.rows → (version : ℕ) (q : Silo) → version ≤ views.version
    → status_of (view_at views version) q ≡ or_outlived (row_status version views.rows q) (outlived_in version views.rows q)
said views s version q made =
    ap (λ b. status_of (record { version = version; rows = if b then listed_rows (rows_in version views.rows) else [] }) q)
    (le-leb version views.version made)
    ∙ status_listed q (rows_in version views.rows) (sorted-picked silo_cmp_total (status_in version) views.rows s)
    ∙ ap (λ o. or_outlived o (outlived_in version views.rows q)) (row_found version views.rows s q)

-- of a silo that is there it says what the row says
pub said_there : (views : ViewsValue) → InOrder views.rows → (version : ℕ) (q : Silo) → version ≤ views.version
    → IsSome (row_status version views.rows q) → status_of (view_at views version) q ≡ row_status version views.rows q
said_there views s version q made there = said views s version q made ∙ by (row_status version views.rows q) there
  where
    by : (o : Option Status) → IsSome o → or_outlived o (outlived_in version views.rows q) ≡ o
    by None there = absurd (cc (there))
    by (Some status) there = refl

-- a status other than Dead is the row's
pub said_alive : (views : ViewsValue) → InOrder views.rows → (version : ℕ) (q : Silo) → version ≤ views.version → (status : Status)
    → Some status ≢ Some Dead → status_of (view_at views version) q ≡ Some status → row_status version views.rows q ≡ Some status
said_alive views s version q made status alive is =
    by (row_status version views.rows q) (outlived_in version views.rows q) (sym (said views s version q made) ∙ is)
  where
    by : (o : Option Status) (b : Bool) → or_outlived o b ≡ Some status → o ≡ Some status
    by None true h = absurd (alive (sym h))
    by None false h = absurd (cc (h))
    by (Some its) b h = h

pub views_say_statuses : ViewsSayStatuses
views_say_statuses views whole silo version made there =
    let same = status_at-made views whole.in_order version silo made in
    said_there views whole.in_order version silo made (subst (λ o. IsSome o) same there) ∙ sym same

pub views_say_no_more : ViewsSayNoMore
views_say_no_more views whole silo version none = elim (cases_lt views.version version) [
  | inl above ↦ inl (ap (λ b. status_of (record { version = version; rows = if b then listed_rows (rows_in version views.rows) else [] }) silo)
      (lt-leb version views.version above))
  | inr made ↦ by made (outlived_in version views.rows silo) refl
]
  where
    says : version ≤ views.version → (b : Bool) → outlived_in version views.rows silo ≡ b
        → status_of (view_at views version) silo ≡ or_outlived None b
    says made b at =
        said views whole.in_order version silo made
        ∙ ap (λ o. or_outlived o (outlived_in version views.rows silo)) (sym (status_at-made views whole.in_order version silo made) ∙ none)
        ∙ ap (λ b. or_outlived None b) at

    by : version ≤ views.version → (b : Bool) → outlived_in version views.rows silo ≡ b
        → (status_of (view_at views version) silo ≡ None) ⊎ ((status_of (view_at views version) silo ≡ Some Dead) × IsOutlivedIn views version silo)
    by made false at = inl (says made false at)
    by made true at =
        let it = outlived_only version views.rows whole.in_order silo at in
        let two = newer_parts it.newer silo it.is in
        let same = (Decides-shares silo it.newer).0 two.0 in
        inr (
          says made true at,
          record {
            newer = it.newer;
            same = (sym same.0, sym same.1);
            later = two.1;
            there = subst (λ o. IsSome o) (sym (status_at-made views whole.in_order version it.newer made ∙ it.there)) refl;
          },
        )

-- a view is in order of address
pub view_in_order : (views : ViewsValue) → InOrder views.rows → (version : ℕ) → IsByAddress (view_at views version)
view_in_order views s version = by (nat_le version views.version)
  where
    by : (b : Bool) → Sorted (if b then listed_rows (rows_in version views.rows) else [])
    by true = sorted_listed (rows_in version views.rows) (sorted-picked silo_cmp_total (status_in version) views.rows s)
    by false = sorted-nil silo_cmp

-- who is Active in a version wasn't Dead when the views began
pub active_lived : (version : ℕ) (row : Row) → status_in version row ≡ Some Active → was_dead row ≡ false
active_lived version row is = by row.dead refl (active_is (has_come row.dead version) (has_come row.left version) (nat_le row.joined version) is)
  where
    by : (o : Option ℕ) → row.dead ≡ o
        → (has_come row.dead version ≡ false) × (has_come row.left version ≡ false) × (nat_le row.joined version ≡ true)
        → was_dead row ≡ false
    by None at parts = ap (λ d. is_made_in row.joined d) at
    by (Some made) at parts =
        ap (λ d. is_made_in row.joined d) at
        ∙ false_from_ne_true (made == row.joined) (λ same. never (eqb-true made row.joined same) (leb-true row.joined version parts.2))
      where
        never : made ≡ row.joined → row.joined ≤ version → ⊥
        never same joined =
            let come : has_come row.dead version ≡ true = ap (λ d. has_come d version) at ∙ le-leb made version (omega (same, joined, arith)) in
            cc (come, parts.0)

-- nor was whoever isn't Dead in a version
pub alive_lived : {first : ℕ} (now version : ℕ) (row : Row) (status : Status) → IsInTime first now row → status_in version row ≡ Some status
    → Some status ≢ Some Dead → was_dead row ≡ false
alive_lived now version row status in' is alive = by row.dead refl
  where
    joined : row.joined ≤ version
    joined = joined_since now version row in' (subst (λ o. IsSome o) (sym is) refl)

    by : (o : Option ℕ) → row.dead ≡ o → was_dead row ≡ false
    by None at = ap (λ d. is_made_in row.joined d) at
    by (Some made) at =
        ap (λ d. is_made_in row.joined d) at ∙ false_from_ne_true (made == row.joined) (λ same. never (eqb-true made row.joined same))
      where
        never : made ≡ row.joined → ⊥
        never same =
            let early = joined in
            let come : has_come row.dead version ≡ true = ap (λ d. has_come d version) at ∙ le-leb made version (omega (same, early, arith)) in
            alive (sym is ∙ dead_by_come version row come)

come_later : (change : Option ℕ) (version k : ℕ) → ((made : ℕ) → change ≡ Some made → made ≤ version) → version ≤ k
    → has_come change k ≡ has_come change version
come_later None version k by_then upto = refl
come_later (Some made) version k by_then upto =
    let early = by_then made refl in le-leb made k (omega (early, upto, arith)) ∙ sym (le-leb made version early)

-- a row that nothing changes says the same of all later versions
pub status_later : {first : ℕ} (version k : ℕ) (row : Row) → IsInTime first version row → version ≤ k → status_in k row ≡ status_in version row
status_later version k row in' upto =
    ap (λ b. if b then Some Dead else (if has_come row.left k then Some Leaving else (if nat_le row.joined k then Some Active else None)))
    (come_later row.dead version k (λ made is. (in'.dead_after made is).1) upto)
    ∙ ap (λ b. if has_come row.dead version then Some Dead else (if b then Some Leaving else (if nat_le row.joined k then Some Active else None)))
    (come_later row.left version k (λ made is. (in'.left_after made is).1) upto)
    ∙ ap (λ b. if has_come row.dead version then Some Dead else (if has_come row.left version then Some Leaving else (if b then Some Active else None)))
    (come_later (Some row.joined) version k (λ made is. subst (λ n. n ≤ version) (same_Some row.joined made is) in'.joined_by) upto)

-- what is listed in the first version is so from then on
pub beginning_says : (first k : ℕ) (status : Status) → first ≤ k → status_in k (beginning first status) ≡ Some status
beginning_says first k Active upto = ap (λ b. if b then Some Active else None) (le-leb first k upto)
beginning_says first k Leaving upto = ap (λ b. if b then Some Leaving else (if nat_le first k then Some Active else None)) (le-leb first k upto)
beginning_says first k Dead upto =
    ap (λ b. if b then Some Dead else (if false then Some Leaving else (if nat_le first k then Some Active else None))) (le-leb first k upto)

pub beginning_joined : (first : ℕ) (status : Status) → (beginning first status).joined ≡ first
beginning_joined first Active = refl
beginning_joined first Leaving = refl
beginning_joined first Dead = refl

-- What the next version's view says, by the rows after a change.
use Rattle.std.proofs.Common.{◌≡◌, ◌≢◌, ◌+◌, Bool, true, false, List, Option, Some, None, IsSome, refl, sym, ◌∙◌, ap, arith, subst, option_and_then, if◌then◌else◌}
use Rattle.std.proofs.lemmas.Cmp.{tied_itself}
use Rattle.std.specs.BTreeMap.{is_at}
use Rattle.std.specs.Ordering.{is_eq}
use Rattle.silo_address.specs.Silo.{Silo, silo_cmp}
use Rattle.membership_view.specs.declared.row.Row.{Row}
use Rattle.membership_view.specs.declared.status.Status.{Status}
use Rattle.membership_view.specs.Row.{status_in}
use Rattle.membership_view.specs.View.{or_outlived, status_of}
use Rattle.membership_view.specs.Views.{ViewsValue, row_of, view_at, status_at}
use Rattle.membership_view.specs.Changes.{changed, next_views}
use Rattle.membership_view.specs.Whole.{IsViews}
use Rattle.membership_view.proofs.Said.{outlived_in, outlived_same, said, said_there}
use Rattle.membership_view.proofs.Statuses.{status_next, there_from}
use Rattle.membership_view.proofs.Known.{status_at-made}
use Rattle.membership_view.proofs.SameEndpoint.{found_row}
use Rattle.membership_view.proofs.After.{row_status, row_status-changed, apart}
use Rattle.silo_address.proofs.Order.{silo_cmp_exact, silo_cmp_total}
use Rattle.texts.proofs.Orderings.{Equal-from}

pub at_itself : (silo : Silo) → is_at (silo_cmp silo) silo ≡ true
at_itself silo = ap is_eq (tied_itself silo_cmp_total silo)

-- the statuses in the current view, and in the next one
pub now_is : (views : ViewsValue) → IsViews views → (q : Silo) → status_at views views.version q ≡ row_status views.version views.rows q
now_is views whole q = status_at-made views whole.in_order views.version q (omega arith)

pub next_is : (views : ViewsValue) (rows : List (Silo × Row)) → IsViews (next_views views rows) → (q : Silo)
    → status_at (next_views views rows) (views.version + 1) q ≡ row_status (views.version + 1) rows q
next_is views rows whole q = status_at-made (next_views views rows) whole.in_order (views.version + 1) q (omega arith)

-- rows that stay say the same of the next version
pub still : (views : ViewsValue) → IsViews views → (q : Silo)
    → row_status (views.version + 1) views.rows q ≡ row_status views.version views.rows q
still views whole q = by (found_row views.rows q) refl
  where
    by : (o : Option Row) → found_row views.rows q ≡ o
        → option_and_then (status_in (views.version + 1)) o ≡ option_and_then (status_in views.version) o
    by None is = refl
    by (Some row) is = status_next views.version row (whole.in_time q row is)

-- all but one silo are what they were
pub others : (views : ViewsValue) (whole : IsViews views) (change : Row → Row) (silo : Silo) (row : Row) → row_of views silo ≡ Some row
    → IsViews (next_views views (changed change silo views.rows)) → (q : Silo) → q ≢ silo
    → status_at (next_views views (changed change silo views.rows)) (views.version + 1) q ≡ status_at views views.version q
others views whole change silo row found kept q ne =
    next_is views (changed change silo views.rows) kept q
    ∙ row_status-changed (views.version + 1) change silo views.rows row found q
    ∙ ap (λ b. if b then status_in (views.version + 1) (change row) else row_status (views.version + 1) views.rows q)
    (apart silo q (λ e. ne (sym e)))
    ∙ still views whole q
    ∙ sym (now_is views whole q)

-- and the one is what its changed row says
pub itself : (views : ViewsValue) (change : Row → Row) (silo : Silo) (row : Row) → row_of views silo ≡ Some row
    → IsViews (next_views views (changed change silo views.rows))
    → status_at (next_views views (changed change silo views.rows)) (views.version + 1) silo ≡ status_in (views.version + 1) (change row)
itself views change silo row found kept =
    next_is views (changed change silo views.rows) kept silo
    ∙ row_status-changed (views.version + 1) change silo views.rows row found silo
    ∙ ap (λ b. if b then status_in (views.version + 1) (change row) else row_status (views.version + 1) views.rows silo) (at_itself silo)

-- what the views say of them
pub said_now : (views : ViewsValue) → IsViews views → (q : Silo) (status : Status) → status_at views views.version q ≡ Some status
    → status_of (view_at views views.version) q ≡ Some status
said_now views whole q status is =
    let says = sym (now_is views whole q) ∙ is in
    said_there views whole.in_order views.version q (omega arith) (subst (λ o. IsSome o) (sym says) refl) ∙ says

pub said_next : (views : ViewsValue) (rows : List (Silo × Row)) → IsViews (next_views views rows) → (q : Silo) (status : Status)
    → status_at (next_views views rows) (views.version + 1) q ≡ Some status
    → status_of (view_at (next_views views rows) (views.version + 1)) q ≡ Some status
said_next views rows whole q status is =
    let says = sym (next_is views rows whole q) ∙ is in
    said_there (next_views views rows) whole.in_order (views.version + 1) q (omega arith) (subst (λ o. IsSome o) (sym says) refl) ∙ says

-- of a silo that is what it was, and outlived as it was, they say what they said
pub said_alike : (views : ViewsValue) (rows : List (Silo × Row)) → IsViews views → IsViews (next_views views rows) → (q : Silo)
    → status_at (next_views views rows) (views.version + 1) q ≡ status_at views views.version q
    → outlived_in (views.version + 1) rows q ≡ outlived_in views.version views.rows q
    → status_of (view_at (next_views views rows) (views.version + 1)) q ≡ status_of (view_at views views.version) q
said_alike views rows whole kept q same outlived =
    said (next_views views rows) kept.in_order (views.version + 1) q (omega arith)
    ∙ ap (λ o. or_outlived o (outlived_in (views.version + 1) rows q)) (sym (next_is views rows kept q) ∙ same ∙ now_is views whole q)
    ∙ ap (λ b. or_outlived (row_status views.version views.rows q) b) outlived
    ∙ sym (said views whole.in_order views.version q (omega arith))

-- a leave and a death outlive nobody
pub outlived_still : (views : ViewsValue) (change : Row → Row) (silo : Silo) (row : Row) (whole : IsViews views) → row_of views silo ≡ Some row
    → IsViews (next_views views (changed change silo views.rows)) → (status : Status)
    → status_at (next_views views (changed change silo views.rows)) (views.version + 1) silo ≡ Some status → (q : Silo)
    → outlived_in (views.version + 1) (changed change silo views.rows) q ≡ outlived_in views.version views.rows q
outlived_still views change silo row whole found kept status is q =
    outlived_same views.version (views.version + 1) views.rows (changed change silo views.rows) whole.in_order kept.in_order q
    (λ newer above there. on newer there (is_at (silo_cmp silo) newer) refl)
    (λ newer above there. back newer there (is_at (silo_cmp silo) newer) refl)
  where
    same : (newer : Silo) → is_at (silo_cmp silo) newer ≡ false
        → row_status (views.version + 1) (changed change silo views.rows) newer ≡ row_status views.version views.rows newer
    same newer at =
        row_status-changed (views.version + 1) change silo views.rows row found newer
        ∙ ap (λ b. if b then status_in (views.version + 1) (change row) else row_status (views.version + 1) views.rows newer) at
        ∙ still views whole newer

    its : (newer : Silo) → is_at (silo_cmp silo) newer ≡ true → newer ≡ silo
    its newer at = sym (silo_cmp_exact silo newer (Equal-from (silo_cmp silo newer) at))

    on : (newer : Silo) → IsSome (row_status views.version views.rows newer) → (b : Bool) → is_at (silo_cmp silo) newer ≡ b
        → IsSome (row_status (views.version + 1) (changed change silo views.rows) newer)
    on newer there false at = subst (λ o. IsSome o) (sym (same newer at)) there
    on newer there true at =
        subst (λ o. IsSome o) (sym (ap (λ k. row_status (views.version + 1) (changed change silo views.rows) k) (its newer at) ∙ sym (next_is views (changed change silo views.rows) kept silo) ∙ is)) refl

    back : (newer : Silo) → IsSome (row_status (views.version + 1) (changed change silo views.rows) newer) → (b : Bool) → is_at (silo_cmp silo) newer ≡ b
        → IsSome (row_status views.version views.rows newer)
    back newer there false at = subst (λ o. IsSome o) (same newer at) there
    back newer there true at =
        subst (λ o. IsSome o)
        (sym (ap (λ k. row_status views.version views.rows k) (its newer at)
        ∙ ap (λ o. option_and_then (status_in views.version) o) found))
        (there_from views.version row (whole.in_time silo row found).joined_by)

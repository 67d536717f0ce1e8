-- The rows that a view lists, by those of all views.
use Rattle.std.proofs.Common.{arith, ◌≡◌, ◌≢◌, ℕ, ◌≤◌, ◌<◌, Bool, true, false, List, [], ◌∷◌, length, IsSome, inl, inr, refl, sym, ap, ◌∙◌, subst, option_and_then, if◌then◌else◌}
use Rattle.std.specs.Prelude.{All, Option, Some, None}
use Rattle.std.specs.Map.{lookup, keys_of}
use Rattle.std.specs.BTreeMap.{is_at}
use Rattle.std.specs.List.Sorted.{IsStrictlySortedBy}
use Rattle.std.proofs.lemmas.Bool.{le-leb, cases_order}
use Rattle.std.proofs.lemmas.Cmp.{eq_by_cmp_equiv}
use Rattle.std.proofs.lemmas.List.Elements.{All-nil, All-cons}
use Rattle.std.proofs.lemmas.Map.Entries.{length-keys_of}
use Rattle.std.proofs.lemmas.Map.Keys.{sorted_tail, IsDistinct-from_sorted}
use Rattle.std.proofs.lemmas.Map.Steps.{length-le_from_keys}
use Rattle.std.proofs.lemmas.Option.{same_Some}
use Rattle.texts.proofs.Entries.{lookup-picked, sorted-picked}
use Rattle.silo_address.specs.Silo.{Silo, silo_cmp}
use Rattle.silo_address.proofs.Order.{silo_cmp_total}
use Rattle.membership_view.specs.declared.row.Row.{Row}
use Rattle.membership_view.specs.declared.status.Status.{Status}
use Rattle.membership_view.specs.declared.status.Status.TheVariants.{Dead}
use Rattle.membership_view.specs.Row.{has_come, status_in}
use Rattle.membership_view.specs.View.{is_spare, listed_rows, shares_endpoint}
use Rattle.membership_view.specs.Views.{ViewsValue, row_of, rows_in, view_at}
use Rattle.membership_view.specs.Whole.{IsViews}
use Rattle.membership_view.proofs.After.{row_status}
use Rattle.membership_view.proofs.Found.{found_behind, found_first}
use Rattle.membership_view.proofs.Listed.{lookup_listed, newer_by, sorted_listed, unless_spare}
use Rattle.membership_view.proofs.Order.{Decides-shares, same_generation, shares_back}
use Rattle.membership_view.proofs.Said.{alive_lived, outlived_if}
use Rattle.membership_view.proofs.Statuses.{dead_by_come, has_come_later, joined_since}
use Rattle.hash_ring.specs.Places.{is_added}
use Rattle.directory_rules.specs.Settings.{Settings}
use Rattle.directory_rules.specs.Membership.{Membership}
use Rattle.silo_rules.proofs.Whole.{Are}
use Rattle.deployment_headline.proofs.Lists.{key_found}

-- of rows in order, what holds of each that is found holds of all
pub all_found : {X : Type 0} (P : Silo × X → Type 0) (es : List (Silo × X)) → IsStrictlySortedBy silo_cmp (keys_of es)
    → ((q : Silo) (x : X) → lookup (is_at (silo_cmp q)) es ≡ Some x → P (q, x)) → All P es
all_found P [] s each = All-nil P
all_found P (e ∷ es) s each =
    All-cons P e es (each e.0 e.1 (found_first silo_cmp_total e es))
    (all_found P es (sorted_tail silo_cmp e.0 (keys_of es) s) (λ q x there. each q x (found_behind silo_cmp_total e es s q x there)))

-- a silo that the view of the version lists has a row, which says so; and that isn't left out
pub record IsIn (views : ViewsValue) (v : ℕ) (q : Silo) (status : Status) : Type 0 where
  pub row : Row
  pub there : row_of views q ≡ Some row
  pub says : status_in v row ≡ Some status
  pub stays : is_spare (rows_in v views.rows) q status ≡ false

-- those that it lists
abbrev pub listed_in : ViewsValue → ℕ → List (Silo × Status)
listed_in views v = listed_rows (rows_in v views.rows)

module _ (views : ViewsValue) (whole : IsViews views) (v : ℕ) where
  pub all_sorted : IsStrictlySortedBy silo_cmp (keys_of (rows_in v views.rows))
  all_sorted = sorted-picked silo_cmp_total (status_in v) views.rows whole.in_order

  pub listed_sorted : IsStrictlySortedBy silo_cmp (keys_of (listed_in views v))
  listed_sorted = sorted_listed (rows_in v views.rows) all_sorted

  pub view_rows : v ≤ views.version → (view_at views v).rows ≡ listed_in views v
  view_rows made = ap (λ b. if b then listed_in views v else []) (le-leb v views.version made)

  pub found_is : (q : Silo) → lookup (is_at (silo_cmp q)) (listed_in views v) ≡ unless_spare (rows_in v views.rows) q (row_status v views.rows q)
  found_is q =
      lookup_listed q (rows_in v views.rows) all_sorted
      ∙ ap (λ o. unless_spare (rows_in v views.rows) q o) (lookup-picked silo_cmp_total (status_in v) q views.rows whole.in_order)

  pub is_in : (q : Silo) (status : Status) → lookup (is_at (silo_cmp q)) (listed_in views v) ≡ Some status → IsIn views v q status
  is_in q status is = by (row_of views q) refl (unless (row_status v views.rows q) (sym (found_is q) ∙ is))
    where
      kept : (its : Status) (b : Bool) → is_spare (rows_in v views.rows) q its ≡ b → (if b then None else Some its) ≡ Some status
          → (Some its ≡ Some status) × (is_spare (rows_in v views.rows) q status ≡ false)
      kept its true at h = absurd (cc (h))
      kept its false at h = (h, ap (λ s. is_spare (rows_in v views.rows) q s) (sym (same_Some its status h)) ∙ at)

      unless : (o : Option Status) → unless_spare (rows_in v views.rows) q o ≡ Some status
          → (o ≡ Some status) × (is_spare (rows_in v views.rows) q status ≡ false)
      unless None h = absurd (cc (h))
      unless (Some its) h = kept its (is_spare (rows_in v views.rows) q its) refl h

      by : (o : Option Row) → row_of views q ≡ o
          → (option_and_then (status_in v) o ≡ Some status) × (is_spare (rows_in v views.rows) q status ≡ false) → IsIn views v q status
      by None none h = absurd (let never = h.0 in cc (never))
      by (Some row) there h = record { row = row; there = there; says = h.0; stays = h.1 }

  pub in_joined : (q : Silo) (status : Status) → (its : IsIn views v q status) → its.row.joined ≤ v
  in_joined q status its =
      joined_since views.version v its.row (whole.in_time q its.row its.there) (subst (λ (o : Option Status). IsSome o) (sym its.says) refl)

  -- who is listed isn't older than another one of its endpoint
  not_outlived : (q r : Silo) (s t : Status) → IsIn views v q s → IsIn views v r t → shares_endpoint q r ≡ true
      → q.generation < r.generation → ⊥
  not_outlived q r s t its newer shares lower =
      let same = (Decides-shares q r).0 shares in
      let come : has_come its.row.dead v ≡ true =
      has_come_later its.row.dead newer.row.joined v (in_joined r t newer)
      (whole.older_dead q r its.row newer.row its.there newer.there (sym same.0, sym same.1) lower) in
      let dead : s ≡ Dead = same_Some s Dead (sym its.says ∙ dead_by_come v its.row come) in
      let spare : is_spare (rows_in v views.rows) q Dead ≡ true =
      outlived_if v views.rows whole.in_order q r t (ap (λ o. option_and_then (status_in v) o) newer.there ∙ newer.says)
      (newer_by r q shares lower) in
      let kept : is_spare (rows_in v views.rows) q Dead ≡ false = ap (λ s. is_spare (rows_in v views.rows) q s) (sym dead) ∙ its.stays in
      cc (spare, kept)

  -- of one endpoint one silo is listed
  pub listed_apart : (q r : Silo) (s t : Status) → lookup (is_at (silo_cmp q)) (listed_in views v) ≡ Some s
      → lookup (is_at (silo_cmp r)) (listed_in views v) ≡ Some t → q ≢ r → shares_endpoint q r ≡ false
  listed_apart q r s t one other apart = by (shares_endpoint q r) refl
    where
      never : shares_endpoint q r ≡ true → ⊥
      never at = elim (cases_order q.generation r.generation) [
        | inl level ↦ apart (same_generation q r at level)
        | inr order ↦ elim order [
          | inl lower ↦ not_outlived q r s t (is_in q s one) (is_in r t other) at lower
          | inr higher ↦ not_outlived r q t s (is_in r t other) (is_in q s one) (shares_back q r at) higher
        ]
      ]

      by : (b : Bool) → shares_endpoint q r ≡ b → b ≡ false
      by false at = refl
      by true at = absurd (never at)

  -- no more silos are listed than are known
  pub listed_fewer : length (listed_in views v) ≤ length views.rows
  listed_fewer =
      let keys = length-keys_of (listed_in views v) in
      let few = length-le_from_keys (eq_by_cmp_equiv silo_cmp_total) (keys_of (listed_in views v)) views.rows
      (IsDistinct-from_sorted silo_cmp (keys_of (listed_in views v)) listed_sorted)
      (λ q there. known q (lookup (is_at (silo_cmp q)) (listed_in views v)) refl (key_found (is_at (silo_cmp q)) (listed_in views v) there)) in
      omega (keys, few, arith)
    where
      known : (q : Silo) (o : Option Status) → lookup (is_at (silo_cmp q)) (listed_in views v) ≡ o → IsSome o → IsSome (row_of views q)
      known q None at there = absurd (cc (there))
      known q (Some status) at there = subst (λ (o : Option Row). IsSome o) (sym (is_in q status at).there) refl

alive_dead : (status : Status) → status ≢ Dead → Some status ≢ Some Dead
alive_dead status lives same = lives (same_Some status Dead same)

-- whoever a view lists was added, but for one that is Dead there
pub listed_added : (settings : Settings) (m : Membership) → Are settings m → (v : ℕ) (q : Silo) (status : Status) → status ≢ Dead
    → IsIn m.views v q status → is_added m.places q ≡ true
listed_added settings m are v q status lives its =
    are.added q its.row its.there
    (alive_lived m.views.version v its.row status (are.whole.in_time q its.row its.there) its.says (alive_dead status lives))

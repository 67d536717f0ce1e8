-- What begins with the view of a version, as the changes decided made it, mirrors what they made of that version.
use Rattle.std.proofs.Common.{arith, ◌≡◌, ◌≢◌, ◌⊎◌, inl, inr, ℕ, ◌≤◌, Bool, true, false, cond, List, [], ◌∷◌, is_some, is_none, refl, sym, ap, ◌∙◌, subst, option_and_then, nat_le, if◌then◌else◌}
use Rattle.std.specs.Prelude.{Option, Some, None, Result, Ok, Err, map}
use Rattle.std.specs.Option.{option_map, unwrap_or}
use Rattle.std.specs.Map.{lookup, keys_of}
use Rattle.std.specs.BTreeMap.{is_at}
use Rattle.std.specs.Ordering.{is_eq}
use Rattle.std.specs.List.Sorted.{IsStrictlySortedBy}
use Rattle.std.proofs.lemmas.Bool.{eq-eqb}
use Rattle.std.proofs.lemmas.Cmp.{eq_by_cmp_equiv}
use Rattle.std.proofs.lemmas.Map.{lookup-none}
use Rattle.std.proofs.lemmas.Map.Entries.{none_past_head}
use Rattle.std.proofs.lemmas.Map.Keys.{sorted_tail, IsDistinct-from_sorted}
use Rattle.std.proofs.lemmas.Option.{same_Some}
use Rattle.texts.proofs.Entries.{lookup-insert_entry}
use Rattle.silo_address.specs.Silo.{Silo, silo_cmp}
use Rattle.std.specs.declared.cmp.Ordering.{Ordering}
use Rattle.std.specs.declared.cmp.Ordering.TheVariants.{Less, Equal, Greater}
use Rattle.silo_address.proofs.Order.{silo_cmp_exact, silo_cmp_total}
use Rattle.membership_view.specs.declared.row.Row.{Row}
use Rattle.membership_view.specs.declared.status.Status.{Status}
use Rattle.membership_view.specs.declared.status.Status.TheVariants.{Active, Leaving, Dead}
use Rattle.membership_view.specs.Row.{has_come, status_in, was_dead}
use Rattle.membership_view.specs.View.{ViewValue, is_spare}
use Rattle.membership_view.specs.Views.{ViewsValue, row_of, rows_in, view_at}
use Rattle.membership_view.specs.Beginning.{beginning}
use Rattle.membership_view.specs.Whole.{IsInTime}
use Rattle.membership_view.proofs.Kept.{occupant_row}
use Rattle.membership_view.proofs.Listed.{outlived_listed, spare_is, unless_spare}
use Rattle.membership_view.proofs.Said.{beginning_joined, beginning_says, outlived_by, status_later}
use Rattle.membership_view.proofs.Statuses.{dead_is, there_from}
use Rattle.hash_ring.specs.declared.hashing.Hashing.{Hashing}
use Rattle.hash_ring.specs.declared.hashing.Hashing.TheVariants.{Sha256, Stated}
use Rattle.hash_ring.specs.Hash.{hashed_places}
use Rattle.hash_ring.specs.Places.{PlacesValue, is_added, named_places, places_for, places_of}
use Rattle.directory_rules.specs.Settings.{Settings}
use Rattle.directory_rules.specs.Membership.{Membership, listed, listed_all, listing, listing_of, membership_from, places_told}
use Rattle.silo_rules.proofs.Begun.{IsListed, listed_is}
use Rattle.silo_rules.proofs.Whole.{Are}
use Rattle.deployment_headline.proofs.Mirrors.{Mirrors, ReadsAs, WasLeftOut}
use Rattle.deployment_headline.proofs.ViewRows.{IsIn, listed_added, listed_in, all_sorted, listed_sorted, view_rows, found_is, is_in}

abbrev Sorted : List (Silo × Status) → Type 0
Sorted rows = IsStrictlySortedBy silo_cmp (keys_of rows)

-- ---- all rows of a view are listed
abbrev either : {X : Type 0} → Option X → Option X → Option X
either old None = old
either old (Some new) = Some new

-- the places that a silo gets, told as the places named at its join
abbrev told_places : PlacesValue → (next : PlacesValue) → Silo → List ℕ
told_places places next silo = places_for next.hashing next.points silo (named_places places.hashing places silo)

record AreListed (told : PlacesValue) (m next : Membership) (rows : List (Silo × Status)) : Type 0 where
  first : next.views.first ≡ m.views.first
  version : next.views.version ≡ m.views.version
  hashing : next.places.hashing ≡ m.places.hashing
  points : next.places.points ≡ m.places.points
  row : (q : Silo) → row_of next.views q ≡ either (row_of m.views q) (option_map (beginning m.views.first) (lookup (is_at (silo_cmp q)) rows))
  alive : (q : Silo) (status : Status) → lookup (is_at (silo_cmp q)) rows ≡ Some status → status ≢ Dead
      → places_of next.places q ≡ Some (told_places told next.places q)
  other : (q : Silo) → (lookup (is_at (silo_cmp q)) rows ≡ None) ⊎ (lookup (is_at (silo_cmp q)) rows ≡ Some Dead)
      → places_of next.places q ≡ places_of m.places q

told_alive : (status : Status) (places : PlacesValue) (silo : Silo) → status ≢ Dead
    → places_told status places silo ≡ named_places places.hashing places silo
told_alive Active places silo alive = refl
told_alive Leaving places silo alive = refl
told_alive Dead places silo alive = absurd (alive refl)

-- not there, or Dead
abbrev IsOther : Option Status → Type 0
IsOther o = (o ≡ None) ⊎ (o ≡ Some Dead)

module _ (settings : Settings) (told : PlacesValue) where
  one_listed : (m next last : Membership) (e : Silo × Status) (rows : List (Silo × Status)) → Sorted (e ∷ rows)
      → IsListed settings m (listing told e) next → AreListed told next last rows → AreListed told m last (e ∷ rows)
  one_listed m next last e rows s one later = record {
    first = later.first ∙ ap (λ (v : ViewsValue). v.first) one.viewed.is;
    version = later.version ∙ ap (λ (v : ViewsValue). v.version) one.viewed.is;
    hashing = later.hashing ∙ one.hashing;
    points = later.points ∙ one.points;
    row = λ q.
        later.row q
        ∙ ap (λ n. either (row_of next.views q) (option_map (beginning n) (lookup (is_at (silo_cmp q)) rows))) first_same
        ∙ ap (λ o. either o (option_map (beginning m.views.first) (lookup (is_at (silo_cmp q)) rows))) (put q)
        ∙ row_by q (silo_cmp q e.0) refl;
    alive = λ q status there lives. alive_by q status lives (silo_cmp q e.0) refl there;
    other = λ q none. other_by q (silo_cmp q e.0) refl none;
  }
    where
      first_same : next.views.first ≡ m.views.first
      first_same = ap (λ (v : ViewsValue). v.first) one.viewed.is

      gone : (q : Silo) → silo_cmp q e.0 ≡ Equal → (lookup (is_at (silo_cmp q)) rows) ≡ None
      gone q at =
          lookup-none (is_at (silo_cmp q)) rows (none_past_head (eq_by_cmp_equiv silo_cmp_total) q e rows
          (IsDistinct-from_sorted silo_cmp (keys_of (e ∷ rows)) s) (ap is_eq at))

      put : (q : Silo) → row_of next.views q ≡ cond (is_at (silo_cmp q) e.0) (Some (beginning m.views.first e.1)) (row_of m.views q)
      put q =
          ap (λ (v : ViewsValue). row_of v q) one.viewed.is
          ∙ lookup-insert_entry silo_cmp_total e.0 (beginning m.views.first e.1) q m.views.rows

      row_by : (q : Silo) (r : Ordering) → silo_cmp q e.0 ≡ r
          → either (cond (is_at (silo_cmp q) e.0) (Some (beginning m.views.first e.1)) (row_of m.views q)) (option_map (beginning m.views.first) (lookup (is_at (silo_cmp q)) rows))
          ≡ either (row_of m.views q) (option_map (beginning m.views.first) (cond (is_at (silo_cmp q) e.0) (Some e.1) (lookup (is_at (silo_cmp q)) rows)))
      row_by q Equal at =
          ap (λ o. either (cond (is_at (silo_cmp q) e.0) (Some (beginning m.views.first e.1)) (row_of m.views q)) (option_map (beginning m.views.first) o)) (gone q at)
          ∙ ap (λ b. cond (is_eq b) (Some (beginning m.views.first e.1)) (row_of m.views q)) at
          ∙ sym (ap (λ b. either (row_of m.views q) (option_map (beginning m.views.first) (cond (is_eq b) (Some e.1) (lookup (is_at (silo_cmp q)) rows)))) at)
      row_by q Less at =
          ap (λ b. either (cond (is_eq b) (Some (beginning m.views.first e.1)) (row_of m.views q)) (option_map (beginning m.views.first) (lookup (is_at (silo_cmp q)) rows))) at
          ∙ sym (ap (λ b. either (row_of m.views q) (option_map (beginning m.views.first) (cond (is_eq b) (Some e.1) (lookup (is_at (silo_cmp q)) rows)))) at)
      row_by q Greater at =
          ap (λ b. either (cond (is_eq b) (Some (beginning m.views.first e.1)) (row_of m.views q)) (option_map (beginning m.views.first) (lookup (is_at (silo_cmp q)) rows))) at
          ∙ sym (ap (λ b. either (row_of m.views q) (option_map (beginning m.views.first) (cond (is_eq b) (Some e.1) (lookup (is_at (silo_cmp q)) rows)))) at)

      -- places
      placed_there : (q : Silo) → silo_cmp q e.0 ≡ Equal → e.1 ≢ Dead → places_of next.places q ≡ Some (told_places told last.places q)
      placed_there q at lives = elim one.placed [
        | inl dead ↦ absurd (lives dead.0)
        | inr its ↦
            ap (λ (p : PlacesValue). places_of p q) its.1
            ∙ lookup-insert_entry silo_cmp_total e.0 (places_for m.places.hashing m.places.points e.0 (listing told e).places) q m.places.entries
            ∙ ap (λ b. cond (is_eq b) (Some (places_for m.places.hashing m.places.points e.0 (listing told e).places)) (places_of m.places q)) at
            ∙ ap (λ l. Some (places_for m.places.hashing m.places.points e.0 l)) (told_alive e.1 told e.0 lives)
            ∙ ap (λ h. Some (places_for h m.places.points e.0 (named_places told.hashing told e.0))) (sym (later.hashing ∙ one.hashing))
            ∙ ap (λ n. Some (places_for last.places.hashing n e.0 (named_places told.hashing told e.0))) (sym (later.points ∙ one.points))
            ∙ ap (λ k. Some (told_places told last.places k)) (sym (silo_cmp_exact q e.0 at))
      ]

      alive_by : (q : Silo) (status : Status) → status ≢ Dead → (r : Ordering) → silo_cmp q e.0 ≡ r
          → cond (is_at (silo_cmp q) e.0) (Some e.1) (lookup (is_at (silo_cmp q)) rows) ≡ Some status → places_of last.places q ≡ Some (told_places told last.places q)
      alive_by q status lives Equal at there =
          let same : e.1 ≡ status = same_Some e.1 status (sym (ap (λ b. cond (is_eq b) (Some e.1) (lookup (is_at (silo_cmp q)) rows)) at) ∙ there) in
          later.other q (inl (gone q at)) ∙ placed_there q at (λ dead. lives (sym same ∙ dead))
      alive_by q status lives Less at there =
          later.alive q status (sym (ap (λ b. cond (is_eq b) (Some e.1) (lookup (is_at (silo_cmp q)) rows)) at) ∙ there) lives
      alive_by q status lives Greater at there =
          later.alive q status (sym (ap (λ b. cond (is_eq b) (Some e.1) (lookup (is_at (silo_cmp q)) rows)) at) ∙ there) lives

      untouched : (q : Silo) → is_at (silo_cmp q) e.0 ≡ false → places_of next.places q ≡ places_of m.places q
      untouched q at = elim one.placed [
        | inl dead ↦ ap (λ (p : PlacesValue). places_of p q) dead.1
        | inr its ↦
            ap (λ (p : PlacesValue). places_of p q) its.1
            ∙ lookup-insert_entry silo_cmp_total e.0 (places_for m.places.hashing m.places.points e.0 (listing told e).places) q m.places.entries
            ∙ ap (λ b. cond b (Some (places_for m.places.hashing m.places.points e.0 (listing told e).places)) (places_of m.places q)) at
      ]

      dead_there : e.1 ≡ Dead → (q : Silo) → places_of next.places q ≡ places_of m.places q
      dead_there is q = elim one.placed [
        | inl dead ↦ ap (λ (p : PlacesValue). places_of p q) dead.1
        | inr its ↦ absurd (its.0 is)
      ]

      beside : (q : Silo) → is_at (silo_cmp q) e.0 ≡ false → IsOther (cond (is_at (silo_cmp q) e.0) (Some e.1) (lookup (is_at (silo_cmp q)) rows))
          → places_of last.places q ≡ places_of m.places q
      beside q at none =
          later.other q (subst (λ b. IsOther (cond b (Some e.1) (lookup (is_at (silo_cmp q)) rows))) at none) ∙ untouched q at

      other_by : (q : Silo) (r : Ordering) → silo_cmp q e.0 ≡ r → IsOther (cond (is_at (silo_cmp q) e.0) (Some e.1) (lookup (is_at (silo_cmp q)) rows))
          → places_of last.places q ≡ places_of m.places q
      other_by q Equal at none =
          elim (subst (λ b. IsOther (cond (is_eq b) (Some e.1) (lookup (is_at (silo_cmp q)) rows))) at none) [
            | inl nothing ↦ absurd (cc (nothing))
            | inr dead ↦ later.other q (inl (gone q at)) ∙ dead_there (same_Some e.1 Dead dead) q
          ]
      other_by q Less at none = beside q (ap is_eq at) none
      other_by q Greater at none = beside q (ap is_eq at) none

  all_listed : (m last : Membership) (rows : List (Silo × Status)) → Sorted rows → listed_all settings (Ok m) (map (listing told) rows) ≡ Ok last
      → AreListed told m last rows
  all_listed m last [] s is =
      let same : m ≡ last = cc (is) in
      subst (λ (n : Membership). AreListed told m n []) same (record {
        first = refl;
        version = refl;
        hashing = refl;
        points = refl;
        row = λ q. refl;
        alive = λ q status there lives. absurd (cc (there));
        other = λ q none. refl;
      })
  all_listed m last (e ∷ rows) s is =
      by (λ next. all_listed next last rows (sorted_tail silo_cmp e.0 (keys_of rows) s)) (listed settings m (listing told e)) refl is
    where
      by : ((next : Membership) → listed_all settings (Ok next) (map (listing told) rows) ≡ Ok last → AreListed told next last rows)
          → (o : Result Membership ℕ) → listed settings m (listing told e) ≡ o → listed_all settings o (map (listing told) rows) ≡ Ok last
          → AreListed told m last (e ∷ rows)
      by others (Err number) at h = absurd (cc (h))
      by others (Ok next) at h = one_listed m next last e rows s (listed_is settings m next (listing told e) at) (others next h)

-- ---- so it mirrors the version
-- places that are hashed are those of the silos' texts
abbrev pub AreHashed : PlacesValue → Type 0
AreHashed places = (q : Silo) (list : List ℕ) → places_of places q ≡ Some list → places.hashing ≡ Sha256 → list ≡ hashed_places places.points q

-- told as they were named, places are what they were
named_again : (hashing : Hashing) (places : PlacesValue) (q : Silo) (list : List ℕ) → places.hashing ≡ hashing → AreHashed places
    → places_of places q ≡ Some list → places_for hashing places.points q (named_places hashing places q) ≡ list
named_again Sha256 places q list at hashed found = sym (hashed q list found at)
named_again Stated places q list at hashed found = ap (λ (o : Option (List ℕ)). unwrap_or o []) found

module _ (settings : Settings) (at now m : Membership) (all : Are settings at) (later : Are settings now) (hashed : AreHashed now.places)
    (stay : (q : Silo) → is_added at.places q ≡ true → places_of now.places q ≡ places_of at.places q)
    (same_view : view_at now.views at.views.version ≡ view_at at.views at.views.version)
    (listed_so : listed_all settings (Ok (membership_from settings at.views.version)) (listing_of now at.views.version) ≡ Ok m) where
  abbrev v : ℕ
  v = at.views.version

  abbrev theirs : List (Silo × Row)
  theirs = at.views.rows

  abbrev rows : List (Silo × Status)
  rows = listed_in at.views v

  are : AreListed now.places (membership_from settings v) m rows
  are =
      all_listed settings now.places (membership_from settings v) m rows (listed_sorted at.views all.whole v)
      (ap (λ l. listed_all settings (Ok (membership_from settings v)) (map (listing now.places) l))
      (sym (ap (λ (view : ViewValue). view.rows) same_view ∙ view_rows at.views all.whole v (omega arith)))
      ∙ listed_so)

  abbrev found : Silo → Option Status
  found q = lookup (is_at (silo_cmp q)) rows

  begun_row : (q : Silo) → row_of m.views q ≡ option_map (beginning v) (found q)
  begun_row q = are.row q ∙ by (found q)
    where
      by : (o : Option Status) → either None (option_map (beginning v) o) ≡ option_map (beginning v) o
      by None = refl
      by (Some status) = refl

  -- a silo that is listed has a row, which says so
  its_in : (q : Silo) (status : Status) → found q ≡ Some status → IsIn at.views v q status
  its_in q status is = is_in at.views all.whole v q status is

  -- a row that is told
  record IsToldRow (q : Silo) (row : Row) : Type 0 where
    status : Status
    is : found q ≡ Some status
    row_is : row ≡ beginning v status

  told_row : (q : Silo) (row : Row) → row_of m.views q ≡ Some row → IsToldRow q row
  told_row q row there = by (found q) refl (sym (begun_row q) ∙ there)
    where
      by : (o : Option Status) → found q ≡ o → option_map (beginning v) o ≡ Some row → IsToldRow q row
      by None is h = absurd (cc (h))
      by (Some status) is h = record { status = status; is = is; row_is = sym (same_Some (beginning v status) row h) }

  lives_same : (status : Status) (row : Row) → IsInTime at.views.first v row → status_in v row ≡ Some status
      → is_none (beginning v status).dead ≡ is_none row.dead
  lives_same Active row in' says = sym (ap is_none (occupant_row v row in' (λ dead. (let e = sym says ∙ dead in cc (e)))))
  lives_same Leaving row in' says = sym (ap is_none (occupant_row v row in' (λ dead. (let e = sym says ∙ dead in cc (e)))))
  lives_same Dead row in' says = sym (by row.dead (dead_is (has_come row.dead v) (has_come row.left v) (nat_le row.joined v) says))
    where
      by : (o : Option ℕ) → has_come o v ≡ true → is_none o ≡ false
      by None come = absurd (cc (come))
      by (Some made) come = refl

  first_is : m.views.first ≡ v
  first_is = are.first

  reads : (q : Silo) (status : Status) (its : IsIn at.views v q status) → ReadsAs m.views.first (beginning v status) its.row
  reads q status its =
      let in' = all.whole.in_time q its.row its.there in
      record {
        statuses = λ k from.
            let upto = subst (λ n. n ≤ k) first_is from in
            beginning_says v k status upto ∙ sym (status_later v k its.row in' upto ∙ its.says);
        later = inl (subst (λ n. its.row.joined ≤ n) (sym first_is) in'.joined_by);
        lives = lives_same status its.row in' its.says;
      }

  begins_known : (q : Silo) (row : Row) → row_of m.views q ≡ Some row
      → (other : Row) × (row_of at.views q ≡ Some other) × ReadsAs m.views.first row other
  begins_known q row there =
      let told = told_row q row there in
      let its = its_in q told.status told.is in
      (its.row, its.there, subst (λ r. ReadsAs m.views.first r its.row) (sym told.row_is) (reads q told.status its))

  begins_left_out : (q : Silo) (other : Row) → row_of at.views q ≡ Some other → row_of m.views q ≡ None → WasLeftOut m.views q other
  begins_left_out q other there none = by (status_in v other) refl
    where
      unlisted : (o : Option Status) → option_map (beginning v) o ≡ None → o ≡ None
      unlisted None h = refl
      unlisted (Some status) h = absurd (cc (h))

      missing : unless_spare (rows_in v theirs) q (status_in v other) ≡ None
      missing =
          ap (λ o. unless_spare (rows_in v theirs) q (option_and_then (status_in v) o)) (sym there) ∙ sym (found_is at.views all.whole v q)
          ∙ unlisted (found q) (sym (begun_row q) ∙ none)

      spare : (status : Status) (b : Bool) → is_spare (rows_in v theirs) q status ≡ b → (if b then None else Some status) ≡ None
          → is_spare (rows_in v theirs) q status ≡ true
      spare status true is h = is
      spare status false is h = absurd (cc (h))

      by : (o : Option Status) → status_in v other ≡ o → WasLeftOut m.views q other
      by None is =
          absurd (let some = there_from v other (all.whole.in_time q other there).joined_by in let e = ap (λ (o : Option Status). is_some o) is in cc (some, e))
      by (Some status) is =
          let its = spare_is (rows_in v theirs) q status (spare status (is_spare (rows_in v theirs) q status) refl (ap (λ o. unless_spare (rows_in v theirs) q o) (sym is) ∙ missing)) in
          let newer = outlived_by q rows (listed_sorted at.views all.whole v) (outlived_listed q (rows_in v theirs) (all_sorted at.views all.whole v) ∙ its.1) in
          record {
            dead = ap (λ n. has_come other.dead n) first_is
                ∙ dead_is (has_come other.dead v) (has_come other.left v) (nat_le other.joined v) (is ∙ ap (λ s. Some s) its.0);
            newer = newer.newer;
            row = beginning v newer.status;
            found = begun_row newer.newer ∙ ap (λ o. option_map (beginning v) o) newer.found;
            is = newer.is;
            early = let e = beginning_joined v newer.status in let f = first_is in omega (e, f, arith);
          }

  -- who isn't Dead has places by all changes
  added_at : (q : Silo) (status : Status) → found q ≡ Some status → status ≢ Dead → is_added at.places q ≡ true
  added_at q status is lives = listed_added settings at all v q status lives (its_in q status is)

  places_same : (q : Silo) (status : Status) → found q ≡ Some status → status ≢ Dead → places_of m.places q ≡ places_of at.places q
  places_same q status is lives = are.alive q status is lives ∙ by (places_of at.places q) refl (added_at q status is lives)
    where
      by : (o : Option (List ℕ)) → places_of at.places q ≡ o → is_some (places_of at.places q) ≡ true
          → Some (told_places now.places m.places q) ≡ places_of at.places q
      by None none there = absurd (let e = ap (λ (p : Option (List ℕ)). is_some p) none in cc (e, there))
      by (Some list) its there =
          ap (λ h. Some (places_for h m.places.points q (named_places now.places.hashing now.places q))) (are.hashing ∙ sym later.hashing)
          ∙ ap (λ n. Some (places_for now.places.hashing n q (named_places now.places.hashing now.places q))) (are.points ∙ sym later.points)
          ∙ ap (λ l. Some l) (named_again now.places.hashing now.places q list refl hashed (stay q there ∙ its))
          ∙ sym its

  dead_or : (status : Status) → (status ≡ Dead) ⊎ (status ≢ Dead)
  dead_or Active = inr (λ e. cc (e))
  dead_or Leaving = inr (λ e. cc (e))
  dead_or Dead = inl refl

  begins_places : (q : Silo) (row : Row) → row_of m.views q ≡ Some row → was_dead row ≡ false → places_of m.places q ≡ places_of at.places q
  begins_places q row there lived =
      let told = told_row q row there in
      elim (dead_or told.status) [
        | inl dead ↦ absurd (never (ap was_dead (sym (told.row_is ∙ ap (beginning v) dead)) ∙ lived))
        | inr lives ↦ places_same q told.status told.is lives
      ]
    where
      never : was_dead (beginning v Dead) ≡ false → ⊥
      never lives = let so : was_dead (beginning v Dead) ≡ true = eq-eqb v v refl in cc (so, lives)

  begins_added : (q : Silo) → is_added m.places q ≡ true → is_added at.places q ≡ true
  begins_added q there = by (found q) refl
    where
      nobody : (found q ≡ None) ⊎ (found q ≡ Some Dead) → is_added at.places q ≡ true
      nobody none =
          let e = ap (λ (o : Option (List ℕ)). is_some o) (are.other q none) in
          absurd (cc (e, there))

      by : (o : Option Status) → found q ≡ o → is_added at.places q ≡ true
      by None is = nobody (inl is)
      by (Some status) is = elim (dead_or status) [
        | inl dead ↦ nobody (inr (is ∙ ap (λ s. Some s) dead))
        | inr lives ↦ added_at q status is lives
      ]

  pub begins_mirrors : Mirrors m at
  begins_mirrors = record {
    version = are.version;
    known = begins_known;
    left_out = begins_left_out;
    places = begins_places;
    added = begins_added;
  }

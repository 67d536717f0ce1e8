-- A join that all changes decided accept, a silo that mirrors them accepts too, and then mirrors them still.
use Rattle.std.proofs.Common.{arith, ◌≡◌, ◌≢◌, inr, ℕ, ◌+◌, ◌≤◌, Bool, true, false, cond, not, nat_lt, List, length, IsSome, is_some, is_none, refl, sym, ap, ◌∙◌, subst, if◌then◌else◌}
use Rattle.std.specs.Prelude.{Option, Some, None, Result, Ok, Err}
use Rattle.std.specs.Option.{option_map}
use Rattle.std.specs.List.Sorted.{IsStrictlySortedBy}
use Rattle.std.specs.Map.{keys_of}
use Rattle.std.specs.BTreeMap.{is_at}
use Rattle.std.specs.Ordering.{is_eq}
use Rattle.std.proofs.lemmas.Bool.{lt-ltb}
use Rattle.std.proofs.lemmas.Cmp.{eq_by_cmp_equiv, tied_itself}
use Rattle.std.proofs.lemmas.Map.Entries.{length-keys_of}
use Rattle.std.proofs.lemmas.Map.Keys.{IsDistinct-from_sorted}
use Rattle.std.proofs.lemmas.Map.Steps.{length-le_from_keys}
use Rattle.std.proofs.lemmas.Option.{same_Some}
use Rattle.texts.proofs.Entries.{lookup-insert_entry}
use Rattle.texts.proofs.Orderings.{Equal-from}
use Rattle.silo_address.specs.Silo.{Silo, silo_cmp}
use Rattle.silo_address.proofs.Order.{silo_cmp_exact, silo_cmp_total}
use Rattle.membership_view.specs.declared.row.Row.{Row}
use Rattle.membership_view.specs.Row.{has_come, status_in, joining, dying, was_dead}
use Rattle.membership_view.specs.Views.{ViewsValue, row_of}
use Rattle.membership_view.specs.Changes as change
use Rattle.membership_view.specs.Changes.{is_newest, occupant}
use Rattle.membership_view.proofs.Joins.{new_row, not_itself}
use Rattle.membership_view.proofs.Kept.{IsJoin, join_is}
use Rattle.membership_view.proofs.SameEndpoint.{found_row, lower_generation, newest_from, occupant_is, occupant_some}
use Rattle.hash_ring.specs.Places.{PlacesValue, after_add, has_points, is_added, is_point_count, places_for, places_of, with_silo}
use Rattle.directory_facts.proofs.Places.{added_is}
use Rattle.directory_rules.specs.Settings.{Settings}
use Rattle.directory_rules.specs.Membership.{Change, Join, Membership, changed, joined, with_places}
use Rattle.silo_rules.proofs.Whole.{Are, not_dead_lived}
use Rattle.deployment_headline.proofs.Mirrors.{Mirrors, ReadsAs, WasLeftOut}
use Rattle.deployment_headline.proofs.Lists.{key_found}
use Rattle.deployment_headline.proofs.MirrorRows.{map_some, map_none, if_replaced, found_after_join, found_joined, dead_too, dead_back, dying_mirrors, itself_mirrors, itself_joined}

-- the silo makes the change, and mirrors what it makes of all
pub record GoesOn (settings : Settings) (m next : Membership) (c : Change) : Type 0 where
  pub mine : Membership
  pub is : changed settings m c ≡ Ok mine
  pub mirrors : Mirrors mine next

module _ (settings : Settings) (m d : Membership) (are : Are settings m) (all : Are settings d) (is : Mirrors m d) where
  abbrev first : ℕ
  first = m.views.first

  abbrev v : ℕ
  v = m.views.version + 1

  -- a silo that is known, by all changes
  abbrev Known : Silo → Row → Type 0
  Known q row = (other : Row) × (row_of d.views q ≡ Some other) × ReadsAs first row other

  same_version : d.views.version + 1 ≡ v
  same_version = ap (λ n. n + 1) (sym is.version)

  -- it knows no more silos
  fewer : length m.views.rows ≤ length d.views.rows
  fewer =
      let keys = length-keys_of m.views.rows in
      let few = length-le_from_keys (eq_by_cmp_equiv silo_cmp_total) (keys_of m.views.rows) d.views.rows
      (IsDistinct-from_sorted silo_cmp (keys_of m.views.rows) are.whole.in_order) (λ q there. some q (row_of m.views q) refl (key_found (is_at (silo_cmp q)) m.views.rows there)) in
      omega (keys, few, arith)
    where
      some : (q : Silo) (o : Option Row) → row_of m.views q ≡ o → IsSome (row_of m.views q) → IsSome (row_of d.views q)
      some q None at there = absurd (let none = ap (λ (p : Option Row). is_some p) at in cc (none, there))
      some q (Some row) at there = subst (λ (p : Option Row). IsSome p) (sym (is.known q row at).1) refl

  -- ---- joins
  newest_too : (silo : Silo) → is_newest silo d.views.rows ≡ true → is_newest silo m.views.rows ≡ true
  newest_too silo newest =
      newest_from silo m.views.rows are.whole.in_order (λ q row found shares.
      let its = is.known q row found in lower_generation silo d.views.rows newest q its.0 its.1 shares)

  same_occupant : (silo : Silo) → occupant silo m.views.rows ≡ occupant silo d.views.rows
  same_occupant silo = by (occupant silo d.views.rows) refl (occupant silo m.views.rows) refl
    where
      some : (old : Silo) → occupant silo d.views.rows ≡ Some old → (o : Option Row) → row_of m.views old ≡ o
          → occupant silo m.views.rows ≡ Some old
      some old at (Some row) known =
          let its = occupant_is silo d.views.rows all.whole.in_order old at in
          let mine = is.known old row known in
          let same : mine.0 ≡ its.row = same_Some mine.0 its.row (sym mine.1 ∙ its.found) in
          let none : row.dead ≡ None = dead_back first row mine.0 mine.2 (ap (λ (r : Row). r.dead) same ∙ its.not_dead) in
          occupant_some m.views.rows are.whole.in_order are.whole.older_dead silo old row known its.shares none
      some old at None known =
          let its = occupant_is silo d.views.rows all.whole.in_order old at in
          let out = is.left_out old its.row its.found known in
          let never : has_come its.row.dead first ≡ false = ap (λ dead. has_come dead first) its.not_dead in
          absurd (let come = out.dead in cc (come, never))

      mine_too : (old : Silo) → occupant silo m.views.rows ≡ Some old → occupant silo d.views.rows ≡ Some old
      mine_too old at =
          let its = occupant_is silo m.views.rows are.whole.in_order old at in
          let theirs = is.known old its.row its.found in
          occupant_some d.views.rows all.whole.in_order all.whole.older_dead silo old theirs.0 theirs.1 its.shares
          (dead_too first its.row theirs.0 theirs.2 its.not_dead)

      by : (o : Option Silo) → occupant silo d.views.rows ≡ o → (p : Option Silo) → occupant silo m.views.rows ≡ p → p ≡ o
      by None theirs None mine = refl
      by None theirs (Some old) mine = absurd (let yes = mine_too old mine in cc (yes, theirs))
      by (Some old) theirs p mine = sym mine ∙ some old theirs (row_of m.views old) refl

  -- places
  abbrev added_if : PlacesValue → Silo → List ℕ → Bool → Bool → Bool → Result PlacesValue ℕ
  added_if places silo stated count some there =
      if not count then Err 402 else (if not some then Err 403 else (if there then Err 404 else Ok (with_silo places silo stated)))

  same_hashing : m.places.hashing ≡ d.places.hashing
  same_hashing = are.hashing ∙ sym all.hashing

  same_point_count : m.places.points ≡ d.places.points
  same_point_count = are.points ∙ sym all.points

  added_too : (silo : Silo) (stated : List ℕ) (places : PlacesValue) → after_add d.places silo stated ≡ Ok places
      → after_add m.places silo stated ≡ Ok (with_silo m.places silo stated)
  added_too silo stated places added =
      ap (λ h. added_if m.places silo stated (is_point_count h (length stated)) (has_points h (length stated)) (is_added m.places silo)) same_hashing
      ∙ by (is_point_count d.places.hashing (length stated)) (has_points d.places.hashing (length stated)) (is_added d.places silo) refl
      (is_added m.places silo) refl added
    where
      by : (count some there : Bool) → is_added d.places silo ≡ there → (mine : Bool) → is_added m.places silo ≡ mine
          → added_if d.places silo stated count some there ≡ Ok places
          → added_if m.places silo stated count some mine ≡ Ok (with_silo m.places silo stated)
      by false some there at mine its h = absurd (cc (h))
      by true false there at mine its h = absurd (cc (h))
      by true true true at mine its h = absurd (cc (h))
      by true true false at false its h = refl
      by true true false at true its h = absurd (let yes = is.added silo its in cc (yes, at))

  places_of_put : (places : PlacesValue) (silo : Silo) (stated : List ℕ) (q : Silo)
      → places_of (with_silo places silo stated) q
      ≡ cond (is_at (silo_cmp q) silo) (Some (places_for places.hashing places.points silo stated)) (places_of places q)
  places_of_put places silo stated q =
      lookup-insert_entry silo_cmp_total silo (places_for places.hashing places.points silo stated) q places.entries

  module _ (silo : Silo) (stated : List ℕ) (views : ViewsValue) (join : IsJoin d.views silo views) where
    newest : is_newest silo m.views.rows ≡ true
    newest = newest_too silo join.newest

    abbrev mine : Membership
    mine = record { views = change.with_join m.views silo; places = with_silo m.places silo stated }

    abbrev theirs : Membership
    theirs = record { views = change.with_join d.views silo; places = with_silo d.places silo stated }

    abbrev replaced : Row → Silo → Row
    replaced row q = if_replaced (occupant silo m.views.rows) v q row

    mine_found : (q : Silo) → q ≢ silo → row_of mine.views q ≡ option_map (λ row. replaced row q) (row_of m.views q)
    mine_found q ne = found_after_join silo v m.views.rows q ne

    theirs_found : (q : Silo) → q ≢ silo → row_of theirs.views q ≡ option_map (λ row. replaced row q) (row_of d.views q)
    theirs_found q ne =
        ap (λ n. found_row (change.joined_rows silo n d.views.rows) q) same_version
        ∙ found_after_join silo v d.views.rows q ne
        ∙ ap (λ o. option_map (if_replaced o v q) (row_of d.views q)) (sym (same_occupant silo))

    other_than : (rows : List (Silo × Row)) → is_newest silo rows ≡ true → IsStrictlySortedBy silo_cmp (keys_of rows) → (old : Silo) → occupant silo rows ≡ Some old → old ≢ silo
    other_than rows fresh s old at same = not_itself silo rows fresh old (occupant_is silo rows s old at) same

    mine_new : row_of mine.views silo ≡ Some (joining v)
    mine_new = found_joined silo v m.views.rows (other_than m.views.rows newest are.whole.in_order)

    theirs_new : row_of theirs.views silo ≡ Some (joining v)
    theirs_new =
        ap (λ n. found_row (change.joined_rows silo n d.views.rows) silo) same_version
        ∙ found_joined silo v d.views.rows (other_than d.views.rows join.newest all.whole.in_order)

    replaced_joined : (row : Row) (q : Silo) → (replaced row q).joined ≡ row.joined
    replaced_joined row q = by (occupant silo m.views.rows)
      where
        by : (o : Option Silo) → (if_replaced o v q row).joined ≡ row.joined
        by None = refl
        by (Some old) = itself_joined (dying v) (λ r. refl) old q row

    -- whom it replaces hadn't died
    occupant_lives : (q : Silo) (row : Row) → row_of m.views q ≡ Some row → (old : Silo) → occupant silo m.views.rows ≡ Some old → old ≡ q
        → row.dead ≡ None
    occupant_lives q row found old at same =
        let its = occupant_is silo m.views.rows are.whole.in_order old at in
        let one : its.row ≡ row = same_Some its.row row (sym its.found ∙ ap (λ s. row_of m.views s) same ∙ found) in
        ap (λ (r : Row). r.dead) (sym one) ∙ its.not_dead

    reads_on : (q : Silo) (row other : Row) → row_of m.views q ≡ Some row → ReadsAs first row other → ReadsAs first (replaced row q) (replaced other q)
    reads_on q row other found reads = by (occupant silo m.views.rows) refl
      where
        by : (o : Option Silo) → occupant silo m.views.rows ≡ o → ReadsAs first (if_replaced o v q row) (if_replaced o v q other)
        by None at = reads
        by (Some old) at =
            itself_mirrors first (dying v) old q row other reads (λ same. dying_mirrors first v row other reads (occupant_lives q row found old at same))

    lived_before : (q : Silo) (row : Row) → row_of m.views q ≡ Some row → was_dead (replaced row q) ≡ false → was_dead row ≡ false
    lived_before q row found lived = by (occupant silo m.views.rows) refl lived
      where
        its : (old : Silo) → occupant silo m.views.rows ≡ Some old → (b : Bool) → is_at (silo_cmp old) q ≡ b
            → was_dead (if b then dying v row else row) ≡ false → was_dead row ≡ false
        its old at true same h = not_dead_lived row (occupant_lives q row found old at (silo_cmp_exact old q (Equal-from (silo_cmp old q) same)))
        its old at false same h = h

        by : (o : Option Silo) → occupant silo m.views.rows ≡ o → was_dead (if_replaced o v q row) ≡ false → was_dead row ≡ false
        by None at h = h
        by (Some old) at h = its old at (is_at (silo_cmp old) q) refl h

    by_silo : {P : Type 0} (q : Silo) → (q ≡ silo → P) → (q ≢ silo → P) → P
    by_silo {P} q same other = by (is_at (silo_cmp q) silo) refl
      where
        by : (b : Bool) → is_at (silo_cmp q) silo ≡ b → P
        by true at = same (silo_cmp_exact q silo (Equal-from (silo_cmp q silo) at))
        by false at = other (λ is_same. let yes : is_at (silo_cmp q) silo ≡ true = ap (λ s. is_at (silo_cmp s) silo) is_same ∙ ap is_eq (tied_itself silo_cmp_total silo) in cc (yes, at))

    join_known : (q : Silo) (row : Row) → row_of mine.views q ≡ Some row → (other : Row) × (row_of theirs.views q ≡ Some other) × ReadsAs first row other
    join_known q row found = by_silo q
        (λ same.
        let here : row ≡ joining v = same_Some row (joining v) (sym found ∙ ap (λ s. row_of mine.views s) same ∙ mine_new) in (
          joining v,
          ap (λ s. row_of theirs.views s) same ∙ theirs_new,
          record {
            statuses = λ k from. ap (status_in k) here;
            later = inr here;
            lives = ap (λ (r : Row). is_none r.dead) here;
          },
        ))
        (λ other.
        let was = map_some (λ r. replaced r q) (row_of m.views q) row (sym (mine_found q other) ∙ found) in
        let its = is.known q was.0 was.1 in (
          replaced its.0 q,
          theirs_found q other ∙ ap (λ o. option_map (λ r. replaced r q) o) its.1,
          subst (λ r. ReadsAs first r (replaced its.0 q)) (sym was.2) (reads_on q was.0 its.0 was.1 its.2),
        ))

    join_left_out : (q : Silo) (other : Row) → row_of theirs.views q ≡ Some other → row_of mine.views q ≡ None → WasLeftOut mine.views q other
    join_left_out q other found none = by_silo q
        (λ same. absurd (let never : None ≡ Some (joining v) = sym none ∙ ap (λ s. row_of mine.views s) same ∙ mine_new in cc (never)))
        (λ ne.
        let was = map_some (λ r. replaced r q) (row_of d.views q) other (sym (theirs_found q ne) ∙ found) in
        let unknown = map_none (λ r. replaced r q) (row_of m.views q) (sym (mine_found q ne) ∙ none) in
        let out = is.left_out q was.0 was.1 unknown in
        let apart_from : out.newer ≢ silo = λ same. (let never : None ≡ Some out.row = sym (new_row silo m.views.rows newest) ∙ ap (λ s. row_of m.views s) (sym same) ∙ out.found in cc (never)) in
        record {
          dead = ap (λ (r : Row). has_come r.dead first) was.2 ∙ dead_still was.0 out.dead (occupant silo m.views.rows) (λ old at same.
              let its = occupant_is silo m.views.rows are.whole.in_order old at in
              let never : None ≡ Some its.row = sym unknown ∙ ap (λ s. row_of m.views s) (sym same) ∙ its.found in cc (never));
          newer = out.newer;
          row = replaced out.row out.newer;
          found = mine_found out.newer apart_from ∙ ap (λ o. option_map (λ r. replaced r out.newer) o) out.found;
          is = out.is;
          early = let e = replaced_joined out.row out.newer in let early = out.early in omega (e, early, arith);
        })
      where
        dead_still : (row : Row) → has_come row.dead first ≡ true → (o : Option Silo) → ((old : Silo) → o ≡ Some old → old ≡ q → ⊥)
            → has_come (if_replaced o v q row).dead first ≡ true
        dead_still row come None never = come
        dead_still row come (Some old) never = by (is_at (silo_cmp old) q) refl
          where
            by : (b : Bool) → is_at (silo_cmp old) q ≡ b → has_come (if b then dying v row else row).dead first ≡ true
            by true at = absurd (never old refl (silo_cmp_exact old q (Equal-from (silo_cmp old q) at)))
            by false at = come

    join_places : (q : Silo) (row : Row) → row_of mine.views q ≡ Some row → was_dead row ≡ false → places_of mine.places q ≡ places_of theirs.places q
    join_places q row found lived =
        places_of_put m.places silo stated q
        ∙ ap (λ h. cond (is_at (silo_cmp q) silo) (Some (places_for h m.places.points silo stated)) (places_of m.places q)) same_hashing
        ∙ ap (λ n. cond (is_at (silo_cmp q) silo) (Some (places_for d.places.hashing n silo stated)) (places_of m.places q)) same_point_count
        ∙ by_silo q
        (λ same. ap (λ b. cond b (Some (places_for d.places.hashing d.places.points silo stated)) (places_of m.places q)) (at_silo q same)
        ∙ ap (λ b. cond b (Some (places_for d.places.hashing d.places.points silo stated)) (places_of d.places q)) (sym (at_silo q same)))
        (λ ne.
        let was = map_some (λ r. replaced r q) (row_of m.views q) row (sym (mine_found q ne) ∙ found) in
        ap (λ o. cond (is_at (silo_cmp q) silo) (Some (places_for d.places.hashing d.places.points silo stated)) o)
        (is.places q was.0 was.1 (lived_before q was.0 was.1 (ap was_dead (sym was.2) ∙ lived))))
        ∙ sym (places_of_put d.places silo stated q)
      where
        at_silo : (q : Silo) → q ≡ silo → is_at (silo_cmp q) silo ≡ true
        at_silo q same = ap (λ s. is_at (silo_cmp s) silo) same ∙ ap is_eq (tied_itself silo_cmp_total silo)

    join_added : (q : Silo) → is_added mine.places q ≡ true → is_added theirs.places q ≡ true
    join_added q there =
        ap (λ (o : Option (List ℕ)). is_some o) (places_of_put d.places silo stated q)
        ∙ by (is_at (silo_cmp q) silo) (sym (ap (λ (o : Option (List ℕ)). is_some o) (places_of_put m.places silo stated q)) ∙ there)
      where
        by : (b : Bool) → is_some (cond b (Some (places_for m.places.hashing m.places.points silo stated)) (places_of m.places q)) ≡ true
            → is_some (cond b (Some (places_for d.places.hashing d.places.points silo stated)) (places_of d.places q)) ≡ true
        by true h = refl
        by false h = is.added q h

    pub join_mirrors : Mirrors mine theirs
    join_mirrors = record {
      version = ap (λ n. n + 1) is.version;
      known = join_known;
      left_out = join_left_out;
      places = join_places;
      added = join_added;
    }

    -- and it is accepted
    pub join_accepted : change.after_join m.views silo ≡ Ok (change.with_join m.views silo)
    join_accepted =
        let few = fewer in
        let room = join.room in
        let limit : m.views.limit ≡ d.views.limit = are.limit ∙ sym all.limit in
        let fits = lt-ltb (length m.views.rows) m.views.limit (omega (few, room, limit, arith)) in
        ap (λ b. if not b then Err 201 else
        (if not (nat_lt (length m.views.rows) m.views.limit) then Err 205 else Ok (change.with_join m.views silo))) newest
        ∙ ap (λ b. if not b then Err 205 else Ok (change.with_join m.views silo)) fits

  pub join_on : (silo : Silo) (stated : List ℕ) (next : Membership) → changed settings d (Join silo stated) ≡ Ok next → GoesOn settings m next (Join silo stated)
  join_on silo stated next made = by_views (change.after_join d.views silo) refl made
    where
      by_places : (views : ViewsValue) → IsJoin d.views silo views → (b : Bool) → nat_lt settings.places (length stated) ≡ b
          → (o : Result PlacesValue ℕ) → after_add d.places silo stated ≡ o
          → with_places (if b then Err 402 else o) views ≡ Ok next → GoesOn settings m next (Join silo stated)
      by_places views join true at o added h = absurd (cc (h))
      by_places views join false at (Err number) added h = absurd (cc (h))
      by_places views join false at (Ok places) added h =
          let its = added_is d.places places silo stated added in
          let same : record { views = change.with_join d.views silo; places = with_silo d.places silo stated } ≡ next =
          ap (λ v. record { views = v; places = with_silo d.places silo stated }) (sym join.is) ∙ ap (λ p. record { views = views; places = p }) its ∙ cc (h) in
          record {
            mine = record { views = change.with_join m.views silo; places = with_silo m.places silo stated };
            is =
                ap (λ r. joined r settings m.places silo stated) (join_accepted silo stated views join)
                ∙ ap (λ b. with_places (if b then Err 402 else after_add m.places silo stated) (change.with_join m.views silo)) at
                ∙ ap (λ r. with_places r (change.with_join m.views silo)) (added_too silo stated places added);
            mirrors = subst (Mirrors (record { views = change.with_join m.views silo; places = with_silo m.places silo stated })) same
                (join_mirrors silo stated views join);
          }

      by_views : (o : Result ViewsValue ℕ) → change.after_join d.views silo ≡ o → joined o settings d.places silo stated ≡ Ok next
          → GoesOn settings m next (Join silo stated)
      by_views (Err number) at h = absurd (cc (h))
      by_views (Ok views) at h =
          by_places views (join_is d.views silo views at) (nat_lt settings.places (length stated)) refl (after_add d.places silo stated) refl h

-- A leave and a death that all changes decided accept, a silo that mirrors them accepts too, and then mirrors them still.
use Rattle.std.proofs.Common.{arith, ◌≡◌, ◌≢◌, ℕ, ◌+◌, Bool, true, false, refl, sym, ap, ◌∙◌, subst, option_and_then, if◌then◌else◌}
use Rattle.std.specs.Prelude.{Option, Some, None, Result, Ok, Err}
use Rattle.std.specs.Option.{option_map}
use Rattle.std.specs.BTreeMap.{is_at}
use Rattle.std.proofs.lemmas.Option.{same_Some}
use Rattle.texts.proofs.Orderings.{Equal-from}
use Rattle.silo_address.specs.Silo.{Silo, silo_cmp}
use Rattle.silo_address.proofs.Order.{silo_cmp_exact}
use Rattle.membership_view.specs.declared.row.Row.{Row}
use Rattle.membership_view.specs.declared.status.Status.{Status}
use Rattle.membership_view.specs.declared.status.Status.TheVariants.{Active, Leaving, Dead}
use Rattle.membership_view.specs.Row.{has_come, status_in, leaving, dying, was_dead}
use Rattle.membership_view.specs.Views.{ViewsValue, row_of, status_at}
use Rattle.membership_view.specs.Changes as change
use Rattle.membership_view.proofs.Kept.{leave_is, death_is, active_row, occupant_row}
use Rattle.membership_view.proofs.Kept.{has_row as change_row}
use Rattle.membership_view.proofs.Known.{status_at-made}
use Rattle.membership_view.proofs.Statuses.{dead_by_come, has_come_later}
use Rattle.hash_ring.specs.Places.{places_of}
use Rattle.directory_rules.specs.Settings.{Settings}
use Rattle.directory_rules.specs.Membership.{Leave, Die, Membership, changed, with_views}
use Rattle.silo_rules.proofs.Whole.{Are, not_dead_lived}
use Rattle.deployment_headline.proofs.Mirrors.{Mirrors, ReadsAs, WasLeftOut}
use Rattle.deployment_headline.proofs.MirrorJoins.{GoesOn}
use Rattle.deployment_headline.proofs.MirrorRows.{map_some, map_none, if_itself, found_after_change, dying_mirrors, leaving_mirrors, itself_mirrors, itself_joined}

module _ (settings : Settings) (m d : Membership) (are : Are settings m) (all : Are settings d) (is : Mirrors m d) where
  abbrev first : ℕ
  first = m.views.first

  abbrev v : ℕ
  v = m.views.version + 1

  same_version : d.views.version + 1 ≡ v
  same_version = ap (λ n. n + 1) (sym is.version)

  -- the silo's row, which isn't Dead
  pub record IsGoing (silo : Silo) (status : Status) : Type 0 where
    pub row : Row
    pub found : row_of m.views silo ≡ Some row
    pub says : status_in m.views.version row ≡ Some status
    pub other : Row
    pub theirs : row_of d.views silo ≡ Some other
    pub reads : ReadsAs first row other

  going : (silo : Silo) (status : Status) → Some status ≢ Some Dead → status_at d.views d.views.version silo ≡ Some status → IsGoing silo status
  going silo status alive there =
      let has = change_row d.views all.whole silo status there in
      by has.row has.found (ap (λ n. status_in n has.row) is.version ∙ has.says) (row_of m.views silo) refl
    where
      by : (other : Row) → row_of d.views silo ≡ Some other → status_in m.views.version other ≡ Some status → (o : Option Row)
          → row_of m.views silo ≡ o → IsGoing silo status
      by other found says (Some row) known =
          let its = is.known silo row known in
          let same : its.0 ≡ other = same_Some its.0 other (sym its.1 ∙ found) in
          record {
            row = row;
            found = known;
            says = its.2.statuses m.views.version are.whole.first_upto ∙ ap (status_in m.views.version) same ∙ says;
            other = its.0;
            theirs = its.1;
            reads = its.2;
          }
      by other found says None known =
          let out = is.left_out silo other found known in
          let dead = dead_by_come m.views.version other (has_come_later other.dead first m.views.version are.whole.first_upto out.dead) in
          absurd (alive (sym says ∙ dead))

  -- what changes one row on both sides
  module _ (how : Row → Row) (silo : Silo) (status : Status) (its : IsGoing silo status) (keeps : (row : Row) → (how row).joined ≡ row.joined)
      (reads : ReadsAs first (how its.row) (how its.other)) (lived : was_dead its.row ≡ false) where
    abbrev after : Membership → Membership
    after n = record { views = change.next_views n.views (change.changed how silo n.views.rows); places = n.places }

    going_known : (q : Silo) (row : Row) → row_of (after m).views q ≡ Some row
        → (other : Row) × (row_of (after d).views q ≡ Some other) × ReadsAs first row other
    going_known q row found =
        let was = map_some (if_itself how silo q) (row_of m.views q) row (sym (found_after_change how silo q m.views.rows) ∙ found) in
        let theirs = is.known q was.0 was.1 in (
          if_itself how silo q theirs.0,
          found_after_change how silo q d.views.rows ∙ ap (λ o. option_map (if_itself how silo q) o) theirs.1,
          subst (λ r. ReadsAs first r (if_itself how silo q theirs.0)) (sym was.2)
              (itself_mirrors first how silo q was.0 theirs.0 theirs.2 (λ same.
              let mine : its.row ≡ was.0 = same_Some its.row was.0 (sym its.found ∙ ap (λ s. row_of m.views s) same ∙ was.1) in
              let other : its.other ≡ theirs.0 = same_Some its.other theirs.0 (sym its.theirs ∙ ap (λ s. row_of d.views s) same ∙ theirs.1) in
              subst (λ r. ReadsAs first (how r) (how theirs.0)) mine (subst (λ r. ReadsAs first (how its.row) (how r)) other reads))),
        )

    going_left_out : (q : Silo) (other : Row) → row_of (after d).views q ≡ Some other → row_of (after m).views q ≡ None
        → WasLeftOut (after m).views q other
    going_left_out q other found none =
        let was = map_some (if_itself how silo q) (row_of d.views q) other (sym (found_after_change how silo q d.views.rows) ∙ found) in
        let unknown = map_none (if_itself how silo q) (row_of m.views q) (sym (found_after_change how silo q m.views.rows) ∙ none) in
        let out = is.left_out q was.0 was.1 unknown in
        record {
          dead = ap (λ (r : Row). has_come r.dead first) was.2 ∙ still was.0 unknown out.dead (is_at (silo_cmp silo) q) refl;
          newer = out.newer;
          row = if_itself how silo out.newer out.row;
          found = found_after_change how silo out.newer m.views.rows ∙ ap (λ o. option_map (if_itself how silo out.newer) o) out.found;
          is = out.is;
          early = let e = itself_joined how keeps silo out.newer out.row in let early = out.early in omega (e, early, arith);
        }
      where
        still : (row : Row) → row_of m.views q ≡ None → has_come row.dead first ≡ true → (b : Bool) → is_at (silo_cmp silo) q ≡ b
            → has_come (if b then how row else row).dead first ≡ true
        still row unknown come false at = come
        still row unknown come true at =
            let same = silo_cmp_exact silo q (Equal-from (silo_cmp silo q) at) in
            absurd (let never : None ≡ Some its.row = sym unknown ∙ ap (λ s. row_of m.views s) (sym same) ∙ its.found in cc (never))

    going_places : (q : Silo) (row : Row) → row_of (after m).views q ≡ Some row → was_dead row ≡ false → places_of m.places q ≡ places_of d.places q
    going_places q row found alive =
        let was = map_some (if_itself how silo q) (row_of m.views q) row (sym (found_after_change how silo q m.views.rows) ∙ found) in
        is.places q was.0 was.1 (by was.0 was.1 (is_at (silo_cmp silo) q) refl (ap was_dead (sym was.2) ∙ alive))
      where
        by : (old : Row) → row_of m.views q ≡ Some old → (b : Bool) → is_at (silo_cmp silo) q ≡ b → was_dead (if b then how old else old) ≡ false
            → was_dead old ≡ false
        by old at false same h = h
        by old at true same h =
            let one = silo_cmp_exact silo q (Equal-from (silo_cmp silo q) same) in
            ap was_dead (same_Some old its.row (sym at ∙ ap (λ s. row_of m.views s) (sym one) ∙ its.found)) ∙ lived

    pub going_mirrors : Mirrors (after m) (after d)
    going_mirrors =
        record { version = ap (λ n. n + 1) is.version; known = going_known; left_out = going_left_out; places = going_places; added = is.added }

  status_mine : (silo : Silo) (status : Status) (its : IsGoing silo status) → status_at m.views m.views.version silo ≡ Some status
  status_mine silo status its =
      status_at-made m.views are.whole.in_order m.views.version silo (omega arith)
      ∙ ap (λ o. option_and_then (status_in m.views.version) o) its.found ∙ its.says

  pub leave_on : (silo : Silo) (next : Membership) → changed settings d (Leave silo) ≡ Ok next → GoesOn settings m next (Leave silo)
  leave_on silo next made = by (change.after d.views (change.Leave silo)) refl made
    where
      by : (o : Result ViewsValue ℕ) → change.after d.views (change.Leave silo) ≡ o → with_views o d.places ≡ Ok next
          → GoesOn settings m next (Leave silo)
      by (Err number) at h = absurd (cc (h))
      by (Ok views) at h =
          let left = leave_is d.views silo views (status_at d.views d.views.version silo) at in
          let its = going silo Active (λ e. cc (e)) left.active in
          let row = active_row m.views.version its.row (are.whole.in_time silo its.row its.found) its.says in
          let says : status_in d.views.version its.other ≡ Some Active = ap (λ n. status_in n its.other) (sym is.version) ∙ sym (its.reads.statuses m.views.version are.whole.first_upto) ∙ its.says in
          let other = active_row d.views.version its.other (all.whole.in_time silo its.other its.theirs) says in
          let theirs : views ≡ change.next_views d.views (change.changed (leaving v) silo d.views.rows) = left.is ∙ ap (λ n. change.next_views d.views (change.changed (leaving n) silo d.views.rows)) same_version in
          record {
            mine = record { views = change.next_views m.views (change.changed (leaving v) silo m.views.rows); places = m.places };
            is = ap (λ o. with_views (change.leave_from o m.views silo) m.places) (status_mine silo Active its);
            mirrors =
                subst (Mirrors (record { views = change.next_views m.views (change.changed (leaving v) silo m.views.rows); places = m.places }))
                (ap (λ n. record { views = n; places = d.places }) (sym theirs) ∙ cc (h))
                (going_mirrors (leaving v) silo Active its (λ r. refl) (leaving_mirrors first v its.row its.other its.reads row.0 row.1 other.1)
                (not_dead_lived its.row row.0));
          }

  pub die_on : (silo : Silo) (next : Membership) → changed settings d (Die silo) ≡ Ok next → GoesOn settings m next (Die silo)
  die_on silo next made = by (change.after d.views (change.Die silo)) refl made
    where
      accepted : (status : Status) → Some status ≢ Some Dead → (o : Option Status) → o ≡ Some status
          → with_views (change.die_from o m.views silo) m.places
          ≡ Ok (record { views = change.next_views m.views (change.changed (dying v) silo m.views.rows); places = m.places })
      accepted status alive None at = absurd (cc (at))
      accepted status alive (Some Active) at = refl
      accepted status alive (Some Leaving) at = refl
      accepted status alive (Some Dead) at = absurd (alive (sym at))

      by : (o : Result ViewsValue ℕ) → change.after d.views (change.Die silo) ≡ o → with_views o d.places ≡ Ok next
          → GoesOn settings m next (Die silo)
      by (Err number) at h = absurd (cc (h))
      by (Ok views) at h =
          let died = death_is d.views silo views (status_at d.views d.views.version silo) at in
          let its = going silo died.was died.not_dead died.there in
          let none = occupant_row m.views.version its.row (are.whole.in_time silo its.row its.found) (λ dead. died.not_dead (sym its.says ∙ dead)) in
          let theirs : views ≡ change.next_views d.views (change.changed (dying v) silo d.views.rows) = died.is ∙ ap (λ n. change.next_views d.views (change.changed (dying n) silo d.views.rows)) same_version in
          record {
            mine = record { views = change.next_views m.views (change.changed (dying v) silo m.views.rows); places = m.places };
            is = accepted died.was died.not_dead (status_at m.views m.views.version silo) (status_mine silo died.was its);
            mirrors =
                subst (Mirrors (record { views = change.next_views m.views (change.changed (dying v) silo m.views.rows); places = m.places }))
                (ap (λ n. record { views = n; places = d.places }) (sym theirs) ∙ cc (h))
                (going_mirrors (dying v) silo died.was its (λ r. refl) (dying_mirrors first v its.row its.other its.reads none)
                (not_dead_lived its.row none));
          }

-- What is seen by earlier changes stays as it is, whatever changes follow.
use Rattle.std.proofs.Common.{arith, ◌≡◌, ◌≢◌, ◌⊎◌, inl, inr, ℕ, ◌+◌, ◌-◌, ◌≤◌, ◌<◌, List, [], ◌∷◌, ◌++◌, length, refl, sym, ap, ◌∙◌, subst, ◌&&◌}
use Rattle.std.specs.Prelude.{◌==◌, Bool, true, false, not, nat_lt, nat_le, if◌then◌else◌, is_some, Option, Some, None, Result, Ok, Err}
use Rattle.std.specs.Option.{option_map, unwrap_or}
use Rattle.std.specs.BTreeMap.{is_at}
use Rattle.std.specs.Ordering.{is_eq}
use Rattle.std.proofs.lemmas.Cmp.{tied_itself}
use Rattle.texts.proofs.Orderings.{Equal-from}
use Rattle.silo_address.proofs.Order.{silo_cmp_exact, silo_cmp_total}
use Rattle.std.proofs.lemmas.Bool.{le-leb, leb-true}
use Rattle.texts.proofs.Decided.{both}
use Rattle.silo_address.specs.Silo.{Silo, silo_cmp}
use Rattle.membership_view.specs.declared.row.Row.{Row}
use Rattle.membership_view.specs.View.{ViewValue}
use Rattle.membership_view.specs.Row.{leaving, dying}
use Rattle.membership_view.specs.Changes as change
use Rattle.membership_view.specs.Changes.{occupant}
use Rattle.membership_view.specs.Whole.{IsViews}
use Rattle.membership_view.specs.Views.{ViewsValue, view_at, row_of, status_at}
use Rattle.membership_view.proofs.Joins.{new_row}
use Rattle.membership_view.proofs.Kept.{IsJoin, join_is, leave_is, death_is}
use Rattle.membership_view.proofs.Unchanged.{versions_rise, views_stay}
use Rattle.hash_ring.specs.Places.{PlacesValue}
use Rattle.hash_ring.specs.Ring.{RingValue, ring_of}
use Rattle.range_moves.specs.Arcs.{arcs_of}
use Rattle.directory_rules.specs.Settings.{Settings}
use Rattle.directory_rules.specs.Host.{outstanding, has_numbers, renewed}
use Rattle.directory_rules.specs.Cache.{cache_seeing}
use Rattle.directory_rules.specs.Sight.{is_next, pieces_after, sealed, shelf_after}
use Rattle.directory_rules.specs.State.{Node}
use Rattle.directory_rules.specs.Step.{Stepped, see, having_seen, new_gatherings, new_recoveries}
use Rattle.directory_rules.specs.Membership.{Change, Membership, changed, is_seeable}
use Rattle.silo_rules.proofs.Lawful.{row_known}
use Rattle.silo_rules.proofs.Whole.{Are, made, accepts}
use Rattle.deployment_headline.proofs.Mirrors.{Mirrors, mirror_view, mirror_ring}
use Rattle.deployment_headline.proofs.MirrorRows.{if_itself, if_replaced, found_after_change, found_after_join, itself_joined}

pub one_higher : (settings : Settings) (m next : Membership) → Are settings m → (c : Change) → changed settings m c ≡ Ok next
    → next.views.version ≡ m.views.version + 1
one_higher settings m next are c is =
    let its = made settings m next are c is in
    versions_rise m.views its.way next.views (accepts settings m next are its)

-- ---- earlier and later
-- what the earlier one has of its versions, from one on, the later one has too
pub record AgreesFrom (first : ℕ) (m n : Membership) : Type 0 where
  pub version : m.views.version ≤ n.views.version
  pub views : (k : ℕ) → first ≤ k → k ≤ m.views.version → view_at n.views k ≡ view_at m.views k
  pub rings : (k : ℕ) → first ≤ k → k ≤ m.views.version → ring_of (view_at m.views k) n.places ≡ ring_of (view_at m.views k) m.places

abbrev pub Agrees : Membership → Membership → Type 0
Agrees m n = AgreesFrom 0 m n

-- the changes lead from one to the other
abbrev pub Leads : Settings → Membership → List Change → Membership → Type 0
Leads settings m [] n = m ≡ n
Leads settings m (c ∷ cs) n = (next : Membership) × (changed settings m c ≡ Ok next) × Leads settings next cs n

pub leads_on : (settings : Settings) (m n last : Membership) (cs : List Change) (c : Change) → Leads settings m cs n
    → changed settings n c ≡ Ok last → Leads settings m (cs ++ c ∷ []) last
leads_on settings m n last [] c leads is = (last, subst (λ k. changed settings k c ≡ Ok last) (sym leads) is, refl)
leads_on settings m n last (d ∷ ds) c leads is = (leads.0, leads.1, leads_on settings leads.0 n last ds c leads.2 is)

-- so the later one agrees
pub leads_to : (settings : Settings) (m n : Membership) (cs : List Change) → Are settings m → Leads settings m cs n
    → Agrees m n × Are settings n
leads_to settings m n [] are leads = (
  subst (Agrees m) leads (record { version = omega arith; views = λ k from within. refl; rings = λ k from within. refl }),
  subst (Are settings)
      leads are,
)
leads_to settings m n (c ∷ cs) are leads =
    let next = leads.0 in
    let its = made settings m next are c leads.1 in
    let accepted = accepts settings m next are its in
    let higher = versions_rise m.views its.way next.views accepted in
    let later = leads_to settings next n cs its.are leads.2 in
    let low = later.0.version in
    let stays : (k : ℕ) → k ≤ m.views.version → view_at next.views k ≡ view_at m.views k = λ k within. views_stay m.views its.way next.views accepted k within in (
      record {
        version = omega arith;
        views = λ k from within. later.0.views k from (omega arith) ∙ stays k within;
        rings =
            λ k from within. subst (λ view. ring_of view n.places ≡ ring_of view next.places) (stays k within)
            (later.0.rings k from (omega arith))
            ∙ its.rings k;
      },
      later.1,
    )

-- a silo that mirrors what the first changes made agrees with what the others made of it
pub mirrors_agree : (m at n : Membership) → IsViews m.views → IsViews at.views → Mirrors m at → Agrees at n
    → AgreesFrom m.views.first m n
mirrors_agree m at n whole all is to =
    let low = to.version in
    let same = is.version in
    let viewed : (k : ℕ) → m.views.first ≤ k → k ≤ m.views.version → view_at at.views k ≡ view_at m.views k = λ k from within. mirror_view m at whole all is k from within in
    record {
      version = omega (low, same, arith);
      views = λ k from within. to.views k (omega arith) (omega (within, same, arith)) ∙ viewed k from within;
      rings = λ k from within.
          subst (λ view. ring_of view n.places ≡ ring_of view at.places) (viewed k from within)
          (to.rings k (omega arith) (omega (within, same, arith)))
          ∙ mirror_ring m at whole all is k from within;
    }

-- ---- sights
-- a sight, by the rings alone
seen_by : Node → (before view : ViewValue) → (old new : RingValue) → Result Stepped ℕ
seen_by node before view old new =
    let next = is_next node.view before view node.host.silo in
    let arcs = arcs_of (if next && (node.view.version == 0) then old.points else node.ring.points) new.points in
    let pieces = pieces_after next node.settings.hashing view node.host.silo node.holding.pieces arcs in
    if not (nat_lt node.view.version view.version) then Err 903
    else (if not (has_numbers node.settings node.host (length (outstanding node.host))) then Err 805
    else Ok (having_seen next (record node {
      view = view;
      ring = new;
      holding = record { seen = view.version; served = []; pieces = pieces };
      gatherings = new_gatherings view pieces;
      recoveries = new_recoveries view pieces;
      host = renewed node.host;
      cache = cache_seeing view node.cache;
      shelf = shelf_after next view node.shelf (sealed node.settings.hashing view node.host.silo node.holding.pieces arcs);
    })))

seen_by-is : (node : Node) (before view : ViewValue) (places : PlacesValue)
    → see node before view places ≡ seen_by node before view (ring_of before places) (ring_of view places)
unfolding seen_by
seen_by-is node before view places = refl

-- a sight by earlier changes is that by later ones
pub same_sight : (node : Node) (first : ℕ) (m n : Membership) (version : ℕ) → AgreesFrom first m n → first < version
    → version ≤ m.views.version → see node (view_at m.views (version - 1)) (view_at m.views version) m.places ≡ see node (view_at n.views (version - 1))
    (view_at n.views version) n.places
same_sight node first m n version agrees after within =
    let before = view_at m.views (version - 1) in
    let view = view_at m.views version in
    let earlier : version - 1 ≤ m.views.version = omega arith in
    let from : first ≤ version - 1 = omega (after, arith) in
    let old = agrees.rings (version - 1) from earlier in
    let new = agrees.rings version (omega (after, arith)) within in
    seen_by-is node before view m.places
    ∙ ap (λ ring. seen_by node before view ring (ring_of view m.places)) (sym old)
    ∙ ap (λ ring. seen_by node before view (ring_of before n.places) ring) (sym new)
    ∙ sym (seen_by-is node before view n.places)
    ∙ ap (λ v. see node v view n.places) (sym (agrees.views (version - 1) from earlier))
    ∙ ap (λ v. see node (view_at n.views (version - 1)) v n.places) (sym (agrees.views version (omega (after, arith)) within))

-- ---- rows stay
-- a silo that is known stays known, and its joining version with it
pub record IsStill (views : ViewsValue) (silo : Silo) (row : Row) : Type 0 where
  pub its : Row
  pub found : row_of views silo ≡ Some its
  pub joined : its.joined ≡ row.joined

by_parts : (one other : Silo) → (one ≡ other) ⊎ (one ≢ other)
by_parts one other = by (is_at (silo_cmp one) other) refl
  where
    by : (b : Bool) → is_at (silo_cmp one) other ≡ b → (one ≡ other) ⊎ (one ≢ other)
    by true at = inl (silo_cmp_exact one other (Equal-from (silo_cmp one other) at))
    by false at =
        inr (λ same. let yes : is_at (silo_cmp one) other ≡ true = ap (λ s. is_at (silo_cmp s) other) same ∙ ap is_eq (tied_itself silo_cmp_total other) in
        cc (yes, at))

still_changed : (how : Row → Row) → ((row : Row) → (how row).joined ≡ row.joined) → (views next : ViewsValue) (silo q : Silo) (row : Row)
    → next ≡ change.next_views views (change.changed how silo views.rows) → row_of views q ≡ Some row → IsStill next q row
still_changed how keeps views next silo q row is found = record {
  its = if_itself how silo q row;
  found =
      ap (λ (v : ViewsValue). row_of v q) is ∙ found_after_change how silo q views.rows ∙ ap (λ o. option_map (if_itself how silo q) o) found;
  joined = itself_joined how keeps silo q row;
}

still_joined : (views next : ViewsValue) (silo q : Silo) (row : Row) → IsJoin views silo next → row_of views q ≡ Some row
    → IsStill next q row
still_joined views next silo q row join found = elim (by_parts q silo) [
  | inl same ↦ absurd (let never : None ≡ Some row = sym (new_row silo views.rows join.newest) ∙ ap (λ s. row_of views s) (sym same) ∙ found in cc (never))
  | inr ne ↦ record {
    its = if_replaced (occupant silo views.rows) (views.version + 1) q row;
    found =
        ap (λ (v : ViewsValue). row_of v q) join.is ∙ found_after_join silo (views.version + 1) views.rows q ne
        ∙ ap (λ o. option_map (if_replaced (occupant silo views.rows) (views.version + 1) q) o) found;
    joined = replaced_joined (occupant silo views.rows);
  }
]
  where
    replaced_joined : (o : Option Silo) → (if_replaced o (views.version + 1) q row).joined ≡ row.joined
    replaced_joined None = refl
    replaced_joined (Some old) = itself_joined (dying (views.version + 1)) (λ r. refl) old q row

still_after : (views next : ViewsValue) (way : change.Change) → change.after views way ≡ Ok next → (q : Silo) (row : Row)
    → row_of views q ≡ Some row → IsStill next q row
still_after views next (change.Join silo) is q row found = still_joined views next silo q row (join_is views silo next is) found
still_after views next (change.Leave silo) is q row found =
    still_changed (leaving (views.version + 1)) (λ r. refl) views next silo q row
    (leave_is views silo next (status_at views views.version silo) is).is found
still_after views next (change.Die silo) is q row found =
    still_changed (dying (views.version + 1)) (λ r. refl) views next silo q row
    (death_is views silo next (status_at views views.version silo) is).is found

pub still_known : (settings : Settings) (m n : Membership) (cs : List Change) → Are settings m → Leads settings m cs n → (q : Silo) (row : Row)
    → row_of m.views q ≡ Some row → IsStill n.views q row
still_known settings m n [] are leads q row found =
    record { its = row; found = ap (λ (k : Membership). row_of k.views q) (sym leads) ∙ found; joined = refl }
still_known settings m n (c ∷ cs) are leads q row found =
    let next = leads.0 in
    let its = made settings m next are c leads.1 in
    let one = still_after m.views next.views its.way its.viewed q row found in
    let later = still_known settings next n cs its.are leads.2 q one.its one.found in
    record { its = later.its; found = later.found; joined = later.joined ∙ one.joined }

abbrev joined_at : Option Row → ℕ
joined_at o = unwrap_or (option_map (λ (r : Row). r.joined) o) 0

-- who was told of its own join, which came after the version with which its views begin, sees by all changes what it sees by those
pub still_seeable : (m n : Membership) (silo : Silo) (version : ℕ) → IsViews m.views → m.views.version ≤ n.views.version
    → ((row : Row) → row_of m.views silo ≡ Some row → (m.views.first < row.joined) × IsStill n.views silo row)
    → is_some (status_at m.views m.views.version silo) ≡ true → is_seeable m silo version ≡ true
    → (m.views.first < version) × (version ≤ m.views.version) × (is_seeable n silo version ≡ true)
still_seeable m n silo version whole upto own told seeable = by (row_of m.views silo) refl
  where
    within : version ≤ m.views.version
    within = leb-true version m.views.version (both (nat_le version m.views.version) (nat_le (joined_at (row_of m.views silo)) version) seeable).0

    since : joined_at (row_of m.views silo) ≤ version
    since =
        leb-true (joined_at (row_of m.views silo)) version
        (both (nat_le version m.views.version) (nat_le (joined_at (row_of m.views silo)) version) seeable).1

    by : (o : Option Row) → row_of m.views silo ≡ o → (m.views.first < version) × (version ≤ m.views.version) × (is_seeable n silo version ≡ true)
    by None at =
        let never : false ≡ true = ap (λ (o : Option Row). is_some o) (sym at) ∙ row_known m.views whole silo ∙ told in
        absurd (cc (never))
    by (Some row) at =
        let its = own row at in
        let after = its.0 in
        let joined : row.joined ≤ version = subst (λ o. joined_at o ≤ version) at since in
        let same = its.1.joined in (
          omega (after, joined, arith),
          within,
          ap (λ b. b && nat_le (joined_at (row_of n.views silo)) version) (le-leb version n.views.version (omega (within, upto, arith)))
              ∙ ap (λ o. nat_le (joined_at o) version) its.1.found ∙ le-leb its.1.its.joined version (omega (same, joined, arith)),
        )

-- What a silo keeps by itself it keeps for good.
use Rattle.std.proofs.Common.{arith, ◌≡◌, ℕ, ◌+◌, ◌<◌, ◌≤◌, List, [], ◌∷◌, length, inl, inr, refl, sym, ap, ◌∙◌, subst}
use Rattle.std.specs.Prelude.{Bool, true, false, cond, nat_lt, Some, None, Result, Ok, Err}
use Rattle.std.specs.Option.{unwrap_or}
use Rattle.std.proofs.lemmas.List.Elements.{All-nil, All-cons, All-head}
use Rattle.std.proofs.lemmas.Option.{same_Some}
use Rattle.silo_address.specs.Silo.{Silo}
use Rattle.membership_view.specs.declared.row.Row.{Row}
use Rattle.membership_view.specs.Row.{is_made_in, status_in, leaving, dying, was_dead}
use Rattle.membership_view.specs.Views.{ViewsValue, most_known, row_of, status_at, view_at, joining_version}
use Rattle.membership_view.specs.Changes as change
use Rattle.membership_view.specs.Laws.{Accepts}
use Rattle.membership_view.proofs.ChangedRow.{found_changed}
use Rattle.membership_view.proofs.Joins.{found_after}
use Rattle.membership_view.proofs.Kept.{IsJoin, join_is, leave_is, death_is, occupant_row, whole-after}
use Rattle.membership_view.proofs.Kept.{has_row as change_row}
use Rattle.membership_view.proofs.Unchanged.{versions_rise, views_stay, views_start}
use Rattle.hash_ring.specs.Places.{PlacesValue, after_add, is_added}
use Rattle.hash_ring.specs.Ring.{ring_of}
use Rattle.hash_ring.proofs.Lawful.{ring_stays}
use Rattle.directory_rules.specs.Settings.{Settings, AreSettings}
use Rattle.directory_rules.specs.State.{Node}
use Rattle.directory_rules.specs.Step.{Stepped}
use Rattle.directory_rules.specs.Input.{Input, Sees, Does, Receives, step, sight_of}
use Rattle.directory_facts.specs.Seen.{SeesItsVersion}
use Rattle.directory_facts.proofs.Carried.{Brings}
use Rattle.directory_facts.proofs.Places.{added_is, added_itself, added_more}
use Rattle.directory_facts.proofs.SeenRings.{seen_facts, sees_on}
use Rattle.directory_rules.specs.Membership.{Change, Join, Leave, Die, Membership, changed, joined, placed, with_places, with_views, first_membership, membership_from}
use Rattle.silo_rules.specs.SiloValue.{SiloValue, first_silo}
use Rattle.silo_rules.specs.NodeInputs.{IsNoSight}
use Rattle.silo_rules.specs.Whole.{AreWhole, IsWhole}
use Rattle.silo_rules.proofs.Own.{stays_own}
use Rattle.silo_rules.proofs.Placed.{ArePlaced, placed_view}

abbrev pub Are : Settings → Membership → Type 0
Are = AreWhole

-- ---- at first, and where all begins with a later version
nobody : (silo : Silo) (row : Row) → None ≡ Some row → ⊥
nobody silo row found = cc (found)

-- before any silo is known
pub from_whole : (settings : Settings) (version : ℕ) → 0 < settings.silos → settings.silos < most_known → version < most_known
    → AreWhole settings (membership_from settings version)
from_whole settings version above below early = record {
  whole = views_start settings.silos version above below early;
  limit = refl;
  hashing = refl;
  points = refl;
  added = λ silo row found lived. absurd (nobody silo row found);
}

pub first_are : (settings : Settings) → AreSettings settings → Are settings (first_membership settings)
first_are settings are = from_whole settings 0 (omega (are.silos_above, arith)) are.silos_within (omega arith)

pub first_whole : (settings : Settings) (silo : Silo) → AreSettings settings → IsWhole (first_silo settings silo)
first_whole settings silo are =
    record { membership = first_are settings are; seen = record { within = omega arith; view_is = refl; ring_is = refl } }

-- ---- a change that is made: one of the views', and the rings of earlier views stay
pub record IsMade (settings : Settings) (m next : Membership) : Type 0 where
  pub way : change.Change
  pub viewed : change.after m.views way ≡ Ok next.views
  pub rings : (version : ℕ) → ring_of (view_at m.views version) next.places ≡ ring_of (view_at m.views version) m.places
  pub are : Are settings next

not_refused : (b : Bool) (number : ℕ) (result : Result PlacesValue ℕ) (places : PlacesValue) → cond b (Err number) result ≡ Ok places
    → result ≡ Ok places
not_refused true number result places is = absurd (cc (is))
not_refused false number result places is = is

-- a silo that was added still is
pub added_still : (places added : PlacesValue) (silo : Silo) (stated : List ℕ) → after_add places silo stated ≡ Ok added → (q : Silo)
    → is_added places q ≡ true → is_added added q ≡ true
added_still places added silo stated is q there =
    All-head (λ k. is_added added k ≡ true) q []
    (added_more places added silo stated (q ∷ []) is (All-cons (λ k. is_added places k ≡ true) q [] there (All-nil (λ k. is_added places k ≡ true))))

-- who hadn't died didn't begin Dead
pub not_dead_lived : (row : Row) → row.dead ≡ None → was_dead row ≡ false
not_dead_lived row none = ap (λ d. is_made_in row.joined d) none

module _ (settings : Settings) (m next : Membership) (are : Are settings m) where
  joined_added : (silo : Silo) (stated : List ℕ) (views : ViewsValue) (places : PlacesValue) → IsJoin m.views silo views
      → after_add m.places silo stated ≡ Ok places → ArePlaced views places
  joined_added silo stated views places join added q row found lived =
      elim (found_after silo (m.views.version + 1) m.views.rows are.whole.in_order join.newest q row
      (ap (λ (v : ViewsValue). row_of v q) (sym join.is) ∙ found)) [
        | inl its ↦ subst (λ s. is_added places s ≡ true) (sym its.0) (added_itself m.places places silo stated added)
        | inr older ↦ added_still m.places places silo stated added q (are.added q older.row older.found (elim older.is [
          | inl dies ↦ not_dead_lived older.row dies.1
          | inr stays ↦ ap was_dead (sym stays.1) ∙ lived
        ]))
      ]

  joined_are : (silo : Silo) (stated : List ℕ) (views : ViewsValue) (places : PlacesValue) → change.after_join m.views silo ≡ Ok views
      → after_add m.places silo stated ≡ Ok places → Are settings (record { views = views; places = places })
  joined_are silo stated views places viewed added =
      let join = join_is m.views silo views viewed in
      let made = added_is m.places places silo stated added in
      record {
        whole = whole-after m.views are.whole (change.Join silo) views viewed;
        limit = ap (λ v. v.limit) join.is ∙ are.limit;
        hashing = ap (λ p. p.hashing) (sym made) ∙ are.hashing;
        points = ap (λ p. p.points) (sym made) ∙ are.points;
        added = joined_added silo stated views places join added;
      }

  by_places : (silo : Silo) (stated : List ℕ) (views : ViewsValue) → change.after_join m.views silo ≡ Ok views → (o : Result PlacesValue ℕ)
      → placed settings m.places silo stated ≡ o → with_places o views ≡ Ok next → IsMade settings m next
  by_places silo stated views viewed (Err number) at is = absurd (cc (is))
  by_places silo stated views viewed (Ok places) at is =
      let same : record { views = views; places = places } ≡ next = cc (is) in
      let added = not_refused (nat_lt settings.places (length stated)) 402 (after_add m.places silo stated) places at in
      subst (IsMade settings m) same (record {
        way = change.Join silo;
        viewed = viewed;
        rings =
            λ version. ring_stays m.places silo stated places added (view_at m.views version)
            (placed_view m.views m.places are.whole are.added version);
        are = joined_are silo stated views places viewed added;
      })

  by_views : (silo : Silo) (stated : List ℕ) (o : Result ViewsValue ℕ) → change.after_join m.views silo ≡ o
      → joined o settings m.places silo stated ≡ Ok next → IsMade settings m next
  by_views silo stated (Err number) viewed is = absurd (cc (is))
  by_views silo stated (Ok views) viewed is = by_places silo stated views viewed (placed settings m.places silo stated) refl is

  -- rows change, and nobody comes back to life
  changed_are : (how : Row → Row) (silo : Silo) (views : ViewsValue) (way : change.Change) → change.after m.views way ≡ Ok views
      → views ≡ change.next_views m.views (change.changed how silo m.views.rows)
      → ((row : Row) → row_of m.views silo ≡ Some row → was_dead (how row) ≡ false → was_dead row ≡ false)
      → Are settings (record { views = views; places = m.places })
  changed_are how silo views way viewed is lives = record {
    whole = whole-after m.views are.whole way views viewed;
    limit = ap (λ v. v.limit) is ∙ are.limit;
    hashing = are.hashing;
    points = are.points;
    added = λ q row found lived.
        let was = found_changed how silo m.views.rows q row (ap (λ (v : ViewsValue). row_of v q) (sym is) ∙ found) in
        are.added q was.row was.found (elim was.is [
          | inl its ↦ lives was.row (ap (λ s. row_of m.views s) its.0 ∙ was.found) (ap was_dead (sym its.1) ∙ lived)
          | inr other ↦ ap was_dead (sym other.1) ∙ lived
        ]);
  }

  by_leave : (silo : Silo) (o : Result ViewsValue ℕ) → change.after m.views (change.Leave silo) ≡ o → with_views o m.places ≡ Ok next
      → IsMade settings m next
  by_leave silo (Err number) viewed is = absurd (cc (is))
  by_leave silo (Ok views) viewed is =
      let same : record { views = views; places = m.places } ≡ next = cc (is) in
      let its = leave_is m.views silo views (status_at m.views m.views.version silo) viewed in
      subst (IsMade settings m) same
      (record {
        way = change.Leave silo;
        viewed = viewed;
        rings = λ version. refl;
        are = changed_are (leaving (m.views.version + 1)) silo views (change.Leave silo) viewed its.is (λ row found lived. lived);
      })

  by_death : (silo : Silo) (o : Result ViewsValue ℕ) → change.after m.views (change.Die silo) ≡ o → with_views o m.places ≡ Ok next
      → IsMade settings m next
  by_death silo (Err number) viewed is = absurd (cc (is))
  by_death silo (Ok views) viewed is =
      let same : record { views = views; places = m.places } ≡ next = cc (is) in
      let its = death_is m.views silo views (status_at m.views m.views.version silo) viewed in
      let has = change_row m.views are.whole silo its.was its.there in
      subst (IsMade settings m) same
      (record {
        way = change.Die silo;
        viewed = viewed;
        rings = λ version. refl;
        are = changed_are (dying (m.views.version + 1)) silo views (change.Die silo) viewed its.is
            (λ row found lived. not_dead_lived row (occupant_row m.views.version row (are.whole.in_time silo row found)
            (λ dead. its.not_dead (sym has.says ∙ ap (λ r. status_in m.views.version r) (same_Some has.row row (sym has.found ∙ found)) ∙ dead))));
      })

  pub made : (c : Change) → changed settings m c ≡ Ok next → IsMade settings m next
  made (Join silo stated) is = by_views silo stated (change.after_join m.views silo) refl is
  made (Leave silo) is = by_leave silo (change.after m.views (change.Leave silo)) refl is
  made (Die silo) is = by_death silo (change.after m.views (change.Die silo)) refl is

  pub accepts : (is : IsMade settings m next) → Accepts m.views is.way next.views
  accepts is = record { whole = are.whole; is = is.viewed }

  -- what a node has seen before the change, it has after it
  still_seen : (node : Node) (is : IsMade settings m next) → SeesItsVersion m.views m.places node
      → SeesItsVersion next.views next.places node
  still_seen node is sees =
      let within = sees.within in
      let higher = versions_rise m.views is.way next.views (accepts is) in
      record {
        within = omega (within, higher, arith);
        view_is = sees.view_is ∙ sym (views_stay m.views is.way next.views (accepts is) node.view.version within);
        ring_is =
            sees.ring_is ∙ ap (λ view. ring_of view m.places) sees.view_is ∙ sym (is.rings node.view.version)
            ∙ ap (λ view. ring_of view next.places) (sym sees.view_is);
      }

pub change_whole : (s : SiloValue) (c : Change) (next : Membership) → IsWhole s → changed s.node.settings s.membership c ≡ Ok next
    → IsWhole (record s { membership = next })
change_whole s c next is so =
    let its = made s.node.settings s.membership next is.membership c so in
    record { membership = its.are; seen = still_seen s.node.settings s.membership next is.membership s.node its is.seen }

-- the same, by equal settings
pub change_kept : (s : SiloValue) (c : Change) (next : Membership) (settings : Settings) → settings ≡ s.node.settings → IsWhole s
    → changed settings s.membership c ≡ Ok next → IsWhole (record s { membership = next })
change_kept s c next settings same is so = change_whole s c next is (ap (λ (t : Settings). changed t s.membership c) (sym same) ∙ so)

-- ---- a step
step_whole : (s : SiloValue) (silo : Silo) (input : Input) (stepped : Stepped) → IsWhole s
    → Brings seen_facts s.node.settings s.membership.views s.membership.places silo input → step s.node input ≡ Ok stepped
    → IsWhole (record s { node = stepped.node })
step_whole s silo input stepped is brings so =
    let after = sees_on s.node.settings s.membership.views s.membership.places silo s.node input stepped is.seen brings so in
    let own = stays_own s.node input stepped so in
    record { membership = subst (λ (t : Settings). AreWhole t s.membership) (sym own.settings) is.membership; seen = after }

pub input_whole : (s : SiloValue) (input : Input) (stepped : Stepped) → IsWhole s → IsNoSight input → step s.node input ≡ Ok stepped
    → IsWhole (record s { node = stepped.node })
input_whole s (Sees before view places) stepped is other so = absurd other
input_whole s (Does step) stepped is other so = step_whole s s.node.host.silo (Does step) stepped is tt so
input_whole s (Receives letter) stepped is other so = step_whole s letter.to (Receives letter) stepped is (refl, tt) so

-- the same, of an equal silo
pub input_kept : (s now : SiloValue) → s ≡ now → (input : Input) (stepped : Node → Stepped) → IsWhole s → IsNoSight input
    → step s.node input ≡ Ok (stepped s.node) → IsWhole (record now { node = (stepped now.node).node })
input_kept s now same input stepped is other so =
    subst (λ (t : SiloValue). IsWhole (record t { node = (stepped t.node).node })) same (input_whole s input (stepped s.node) is other so)

pub sight_whole : (s : SiloValue) (version : ℕ) (stepped : Stepped) → IsWhole s → version ≤ s.membership.views.version
    → unwrap_or (joining_version s.membership.views s.node.host.silo) 0 ≤ version
    → step s.node (sight_of s.membership version) ≡ Ok stepped → IsWhole (record s { node = stepped.node })
sight_whole s version stepped is within joined so =
    step_whole s s.node.host.silo (sight_of s.membership version) stepped is
    (record { version = version; within = within; joined = joined; is_before = refl; is_view = refl; is_brought = refl }) so

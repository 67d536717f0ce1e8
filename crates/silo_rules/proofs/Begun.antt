-- What begins with a view is whole.
use Rattle.std.proofs.Common.{arith, ◌≡◌, ◌≢◌, ◌⊎◌, ℕ, ◌<◌, List, [], ◌∷◌, length, inl, inr, refl, sym, ap, ◌∙◌, subst}
use Rattle.std.specs.Prelude.{Bool, true, false, cond, nat_lt, ◌==◌, if◌then◌else◌, Result, Ok, Err}
use Rattle.std.proofs.lemmas.Bool.{ltb-true, ltb-false, eq-eqb}
use Rattle.silo_address.specs.Silo.{Silo}
use Rattle.membership_view.specs.declared.status.Status.{Status}
use Rattle.membership_view.specs.declared.status.Status.TheVariants.{Active, Leaving, Dead}
use Rattle.membership_view.specs.Row.{was_dead}
use Rattle.membership_view.specs.View.{ViewValue}
use Rattle.membership_view.specs.Views.{ViewsValue, most_known, row_of, view_at}
use Rattle.membership_view.specs.Beginning.{after_listing, beginning}
use Rattle.membership_view.specs.Changes.{is_newest}
use Rattle.membership_view.specs.Whole.{IsViews}
use Rattle.membership_view.proofs.Beginnings.{IsListing, listing_is, listed_row, whole-listed}
use Rattle.membership_view.proofs.Unchanged.{first_is_empty}
use Rattle.hash_ring.specs.Places.{PlacesValue, after_add, is_added, with_silo}
use Rattle.hash_ring.specs.Ring.{ring_of}
use Rattle.directory_rules.specs.Settings.{Settings}
use Rattle.directory_rules.specs.Membership.{Listed, Membership, begun, joined, listed, listed_all, listed_by, membership_from, placed, with_no_places, with_places}
use Rattle.directory_facts.proofs.Places.{added_is, added_itself}
use Rattle.silo_rules.specs.SiloValue.{SiloValue}
use Rattle.silo_rules.specs.Begun.{told_view, unless_joined}
use Rattle.silo_rules.specs.Whole.{AreWhole, IsWhole}
use Rattle.silo_rules.proofs.Whole.{added_still, from_whole}

-- a silo that is listed: its row, and its places, but for one that is Dead
pub record IsListed (settings : Settings) (m : Membership) (one : Listed) (next : Membership) : Type 0 where
  pub viewed : IsListing m.views one.silo one.status next.views
  pub placed : ((one.status ≡ Dead) × (next.places ≡ m.places)) ⊎ ((one.status ≢ Dead) × (next.places ≡ with_silo m.places one.silo one.places))
  pub before : (q : Silo) → is_added m.places q ≡ true → is_added next.places q ≡ true
  pub its : was_dead (beginning m.views.first one.status) ≡ false → is_added next.places one.silo ≡ true
  pub hashing : next.places.hashing ≡ m.places.hashing
  pub points : next.places.points ≡ m.places.points

not_refused : (b : Bool) (number : ℕ) (result : Result PlacesValue ℕ) (places : PlacesValue) → cond b (Err number) result ≡ Ok places
    → result ≡ Ok places
not_refused true number result places is = absurd (cc (is))
not_refused false number result places is = is

module _ (settings : Settings) (m next : Membership) (one : Listed) where
  -- as at a join
  living : one.status ≢ Dead → (views : ViewsValue) → IsListing m.views one.silo one.status views → (o : Result PlacesValue ℕ)
      → placed settings m.places one.silo one.places ≡ o → with_places o views ≡ Ok next → IsListed settings m one next
  living alive views viewed (Err number) at is = absurd (cc (is))
  living alive views viewed (Ok places) at is =
      let same : record { views = views; places = places } ≡ next = cc (is) in
      let added = not_refused (nat_lt settings.places (length one.places)) 402 (after_add m.places one.silo one.places) places at in
      let made = added_is m.places places one.silo one.places added in
      subst (IsListed settings m one) same (record {
        viewed = viewed;
        placed = inr (alive, sym made);
        before = added_still m.places places one.silo one.places added;
        its = λ lived. added_itself m.places places one.silo one.places added;
        hashing = ap (λ p. p.hashing) (sym made);
        points = ap (λ p. p.points) (sym made);
      })

  joins : one.status ≢ Dead → (o : Result ViewsValue ℕ) → after_listing m.views one.silo one.status ≡ o
      → joined o settings m.places one.silo one.places ≡ Ok next → IsListed settings m one next
  joins alive (Err number) at is = absurd (cc (is))
  joins alive (Ok views) at is =
      living alive views (listing_is m.views one.silo one.status views at) (placed settings m.places one.silo one.places) refl is

  was : (first : ℕ) → was_dead (beginning first Dead) ≡ true
  was first = eq-eqb first first refl

  dead : one.status ≡ Dead → (o : Result ViewsValue ℕ) → after_listing m.views one.silo one.status ≡ o
      → with_no_places o m.places one.places ≡ Ok next → IsListed settings m one next
  dead its (Err number) at is = absurd (cc (is))
  dead its (Ok views) at is = by (length one.places == 0) is
    where
      never : was_dead (beginning m.views.first one.status) ≡ false → ⊥
      never lived =
          let so : was_dead (beginning m.views.first one.status) ≡ true = ap (λ t. was_dead (beginning m.views.first t)) its ∙ was m.views.first in
          cc (so, lived)

      by : (b : Bool)
          → ◌≡◌ {A = Result Membership ℕ} (if b then Ok (record { views = views; places = m.places }) else Err 402) (Ok next)
          → IsListed settings m one next
      by false h = absurd (cc (h))
      by true h =
          let same : record { views = views; places = m.places } ≡ next = cc (h) in
          subst (IsListed settings m one) same (record {
            viewed = listing_is m.views one.silo one.status views at;
            placed = inl (its, refl);
            before = λ q there. there;
            its = λ lived. absurd (never lived);
            hashing = refl;
            points = refl;
          })

  pub listed_is : listed settings m one ≡ Ok next → IsListed settings m one next
  listed_is is = by one.status refl is
    where
      by : (status : Status) → one.status ≡ status
          → listed_by status (after_listing m.views one.silo one.status) settings m.places one.silo one.places ≡ Ok next
          → IsListed settings m one next
      by Active at h = joins (λ dead. (let never : Active ≡ Dead = sym at ∙ dead in cc (never))) (after_listing m.views one.silo one.status) refl h
      by Leaving at h = joins (λ dead. (let never : Leaving ≡ Dead = sym at ∙ dead in cc (never))) (after_listing m.views one.silo one.status) refl h
      by Dead at h = dead at (after_listing m.views one.silo one.status) refl h

  pub listed_whole : AreWhole settings m → IsListed settings m one next → AreWhole settings next
  listed_whole are is =
      let viewed = is.viewed in
      record {
        whole = subst (λ v. IsViews v) (sym viewed.is) (whole-listed m.views are.whole one.silo one.status viewed.later viewed.apart viewed.room);
        limit = ap (λ v. v.limit) viewed.is ∙ are.limit;
        hashing = is.hashing ∙ are.hashing;
        points = is.points ∙ are.points;
        added = λ q row found lived.
            elim (listed_row m.views are.whole one.silo one.status viewed.later viewed.apart viewed.room q row (ap (λ (v : ViewsValue). row_of v q) (sym viewed.is) ∙ found)) [
              | inl its ↦ subst (λ s. is_added next.places s ≡ true) (sym its.0) (is.its (ap was_dead (sym its.1) ∙ lived))
              | inr before ↦ is.before q (are.added q row before lived)
            ];
      }

-- all of them, one after the other
pub all_whole : (settings : Settings) (m next : Membership) (rows : List Listed) → AreWhole settings m
    → listed_all settings (Ok m) rows ≡ Ok next → AreWhole settings next
all_whole settings m next [] are is = let same : m ≡ next = cc (is) in subst (AreWhole settings) same are
all_whole settings m next (one ∷ rows) are is = by (λ after. all_whole settings after next rows) (listed settings m one) refl is
  where
    by : ((after : Membership) → AreWhole settings after → listed_all settings (Ok after) rows ≡ Ok next → AreWhole settings next)
        → (o : Result Membership ℕ) → listed settings m one ≡ o → listed_all settings o rows ≡ Ok next → AreWhole settings next
    by others (Err number) at h = absurd (cc (h))
    by others (Ok after) at h = others after (listed_whole settings m after one are (listed_is settings m after one at)) h

-- what begins has that first version, and is at it
pub record HasBegun (settings : Settings) (version : ℕ) (rows : List Listed) (m : Membership) : Type 0 where
  pub early : version < most_known
  pub all : listed_all settings (Ok (membership_from settings version)) rows ≡ Ok m

pub has_begun : (settings : Settings) (version : ℕ) (rows : List Listed) (m : Membership) → begun settings version rows ≡ Ok m
    → HasBegun settings version rows m
has_begun settings version rows m is = by (nat_lt version most_known) refl is
  where
    by : (b : Bool) → nat_lt version most_known ≡ b
        → (if b then listed_all settings (Ok (membership_from settings version)) rows else Err 210) ≡ Ok m
        → HasBegun settings version rows m
    by false at h = absurd (cc (h))
    by true at h = record { early = ltb-true version most_known at; all = h }

-- a view that is told
pub record IsToldView (settings : Settings) (m : Membership) (own : Silo) (version : ℕ) (rows : List Listed) (next : Membership) : Type 0 where
  pub nothing : m.views.version ≡ 0
  pub begun_so : HasBegun settings version rows next
  pub later : is_newest own next.views.rows ≡ true

pub told_view_is : (settings : Settings) (m : Membership) (own : Silo) (version : ℕ) (rows : List Listed) (next : Membership)
    → told_view settings m own version rows ≡ Ok next → IsToldView settings m own version rows next
told_view_is settings m own version rows next is = by (nat_lt 0 m.views.version) refl (begun settings version rows) refl is
  where
    untold : nat_lt 0 m.views.version ≡ false → m.views.version ≡ 0
    untold at = let none = ltb-false 0 m.views.version at in omega (none, arith)

    joins : (made : Membership) → m.views.version ≡ 0 → begun settings version rows ≡ Ok made → (b : Bool) → is_newest own made.views.rows ≡ b
        → ◌≡◌ {A = Result Membership ℕ} (if b then Ok made else Err 201) (Ok next) → IsToldView settings m own version rows next
    joins made none at false newest h = absurd (cc (h))
    joins made none at true newest h =
        let same : made ≡ next = cc (h) in
        record {
          nothing = none;
          begun_so = has_begun settings version rows next (at ∙ ap (λ x. Ok x) same);
          later = ap (λ (x : Membership). is_newest own x.views.rows) (sym same) ∙ newest;
        }

    by : (b : Bool) → nat_lt 0 m.views.version ≡ b → (o : Result Membership ℕ) → begun settings version rows ≡ o
        → (if b then Err 211 else unless_joined own o) ≡ Ok next → IsToldView settings m own version rows next
    by true told o at h = absurd (cc (h))
    by false told (Err number) at h = absurd (cc (h))
    by false told (Ok made) at h = joins made (untold told) at (is_newest own made.views.rows) refl h

-- ---- so a silo stays whole
first_ring : (rows_here : ViewValue) (one other : PlacesValue) → rows_here ≡ record { version = 0; rows = [] }
    → ring_of rows_here one ≡ ring_of rows_here other
first_ring view one other is = ap (λ v. ring_of v one) is ∙ sym (ap (λ v. ring_of v other) is)

pub begins_whole : (s : SiloValue) (own : Silo) (version : ℕ) (rows : List Listed) (m : Membership) → IsWhole s
    → told_view s.node.settings s.membership own version rows ≡ Ok m → IsWhole (record s { membership = m })
begins_whole s own version rows m is so =
    let told = told_view_is s.node.settings s.membership own version rows m so in
    let are = is.membership in
    let above = are.whole.limit_above in
    let below = are.whole.limit_below in
    let limit = are.limit in
    let from = from_whole s.node.settings version (subst (λ n. 0 < n) limit above) (subst (λ n. n < most_known) limit below) told.begun_so.early in
    let whole = all_whole s.node.settings (membership_from s.node.settings version) m rows from told.begun_so.all in
    let within = is.seen.within in
    let nothing = told.nothing in
    let none : s.node.view.version ≡ 0 = omega (within, nothing, arith) in
    let empty : s.node.view ≡ record { version = 0; rows = [] } =
    is.seen.view_is ∙ ap (λ k. view_at s.membership.views k) none ∙ ap (λ r. record { version = 0; rows = r }) (first_is_empty s.membership.views are.whole) in
    record {
      membership = whole;
      seen = record {
        within = omega (none, arith);
        view_is =
            empty ∙ sym (ap (λ k. view_at m.views k) none ∙ ap (λ r. record { version = 0; rows = r }) (first_is_empty m.views whole.whole));
        ring_is = is.seen.ring_is ∙ first_ring s.node.view s.membership.places m.places empty;
      };
    }

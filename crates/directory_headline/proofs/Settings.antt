-- The views and places of a world make a setting; and that of a later world is that of an earlier one, as far as its versions go.
use Rattle.std.proofs.Common.{arith, ◌≡◌, ◌≢◌, ℕ, ◌≤◌, IsSome, true, [], refl, sym, ap, ◌∙◌, subst}
use Rattle.std.specs.Prelude.{nat_le, not, if◌then◌else◌, Contains, Option, Some, None}
use Rattle.std.specs.Option.{option_map}
use Rattle.std.proofs.lemmas.Bool.{le-leb, leb-true}
use Rattle.silo_address.specs.Silo.{Silo}
use Rattle.membership_view.specs.declared.status.Status.{Status}
use Rattle.membership_view.specs.declared.status.Status.TheVariants.{Active, Leaving, Dead}
use Rattle.membership_view.specs.View.{ViewValue, IsByAddress, status_of}
use Rattle.membership_view.specs.Views.{ViewsValue, view_at, status_at}
use Rattle.membership_view.specs.Whole.{IsViews}
use Rattle.membership_view.proofs.DeadViews.{view_dead_stays}
use Rattle.membership_view.proofs.Said.{view_in_order, views_say_statuses}
use Rattle.membership_view.proofs.Unchanged.{first_is_empty, rows_stay}
use Rattle.hash_ring.specs.declared.point.Point.{Point}
use Rattle.hash_ring.specs.Hash.{hash_grain}
use Rattle.hash_ring.specs.Owner.{owner_of}
use Rattle.hash_ring.specs.Places.{PlacesValue}
use Rattle.hash_ring.specs.Ring.{points_of, sorted_points, sorted_ring}
use Rattle.hash_ring.proofs.Ownership.{owner_is}
use Rattle.hash_ring.proofs.Lawful.{points_are, is_sorted_anew}
use Rattle.range_moves.specs.Arcs.{owner_silo}
use Rattle.directory_protocol.specs.Setting.{Setting}
use Rattle.directory_rules.specs.Members.{is_known_dead}
use Rattle.directory_rules.specs.State.{World}
use Rattle.directory_rules.specs.Laws.{is_live}
use Rattle.directory_rules.proofs.Cases.{on_bool}
use Rattle.directory_rules.proofs.People.{live_said}
use Rattle.directory_headline.specs.Setting.{is_member_in, is_alive_in, owner_in, view_up_to, IsSettingOf}
use Rattle.directory_headline.proofs.Statuses.{live_alive, live_there, alive_live}

-- ---- versions up to the last
up_to : ViewsValue → ℕ → ℕ
up_to views version = if nat_le version views.version then version else views.version

up_to-within : (views : ViewsValue) (version : ℕ) → version ≤ views.version → up_to views version ≡ version
unfolding up_to
up_to-within views version within = ap (λ b. if b then version else views.version) (le-leb version views.version within)

up_to-made : (views : ViewsValue) (version : ℕ) → up_to views version ≤ views.version
unfolding up_to
up_to-made views version =
    on_bool (λ b. nat_le version views.version ≡ b → (if b then version else views.version) ≤ views.version) (nat_le version views.version)
    (λ t is. leb-true version views.version is) (λ f is. omega arith) refl

up_to-rises : (views : ViewsValue) (j k : ℕ) → j ≤ k → up_to views j ≤ up_to views k
unfolding up_to
up_to-rises views j k le =
    on_bool (λ b. nat_le k views.version ≡ b → up_to views j ≤ (if b then k else views.version)) (nat_le k views.version)
    (λ t is. let within : k ≤ views.version = leb-true k views.version is in let same = up_to-within views j (omega arith) in
    subst (λ n. n ≤ k) (sym same) le)
    (λ f is. up_to-made views j) refl

view_up_to-is : (views : ViewsValue) (version : ℕ) → view_up_to views version ≡ view_at views (up_to views version)
unfolding up_to
view_up_to-is views version = refl

pub view_within : (views : ViewsValue) (version : ℕ) → version ≤ views.version → view_up_to views version ≡ view_at views version
view_within views version within = view_up_to-is views version ∙ ap (view_at views) (up_to-within views version within)

-- ---- owners
pub view_by_address : (views : ViewsValue) (version : ℕ) → IsViews views → IsByAddress (view_at views version)
view_by_address views version whole = view_in_order views whole.in_order version

none_is : {X : Type 0} (o : Option X) (x : X) → o ≡ None → o ≢ Some x
none_is o x none some = absurd (cc)

no_owner : (view : ViewValue) (places : PlacesValue) (hash : ℕ) → view.rows ≡ [] → owner_in view places hash ≡ None
no_owner view places hash none = ap (λ rows. owner_in (record view { rows = rows }) places hash) none

pub owner_active : (views : ViewsValue) (version : ℕ) (places : PlacesValue) (hash : ℕ) (silo : Silo) → IsViews views
    → owner_in (view_at views version) places hash ≡ Some silo
    → status_of (view_at views version) silo ≡ Some Active
owner_active views version places hash silo whole is = by (owner_of (sorted_ring view places) hash) refl is
  where
    view : ViewValue
    view = view_at views version

    by : (o : Option Point) → owner_of (sorted_ring (view_at views version) places) hash ≡ o → option_map (λ p. p.silo) o ≡ Some silo
        → status_of (view_at views version) silo ≡ Some Active
    by None found its = absurd (cc (its))
    by (Some p) found its =
        let there : Contains (sorted_points (points_of (view_at views version) places)) p = (owner_is (sorted_ring (view_at views version) places) hash p found).there in
        let of_view = ((points_are (view_at views version) (view_by_address views version whole) places p).0 ((is_sorted_anew (points_of (view_at views version) places)).same.forth p there)) in
        let same : p.silo ≡ silo = cc (its) in
        subst (λ s. status_of (view_at views version) s ≡ Some Active) same of_view.active

-- ---- statuses
alive_before : (before after : Option Status) → (before ≡ Some Dead → after ≡ Some Dead) → not (is_known_dead after) ≡ true
    → not (is_known_dead before) ≡ true
alive_before None after stays alive = refl
alive_before (Some Active) after stays alive = refl
alive_before (Some Leaving) after stays alive = refl
alive_before (Some Dead) after stays alive = let dead = stays refl in absurd (cc (sym (ap (λ s. not (is_known_dead s)) dead) ∙ alive))

-- a member stays one as long as it isn't Dead
pub member_stays : (views : ViewsValue) → IsViews views → (silo : Silo) (j k : ℕ) → j ≤ k → k ≤ views.version
    → is_member_in (view_at views j) silo ≡ true → is_alive_in (view_at views k) silo ≡ true → is_member_in (view_at views k) silo ≡ true
member_stays views whole silo j k le made member alive =
    let was : is_live (status_at views j silo) ≡ true = sym (live_said views whole j (omega (le, made, arith)) silo) ∙ member in
    let there = rows_stay views whole silo j k le made (live_there (status_at views j silo) was) in
    let said = views_say_statuses views whole silo k made there in
    alive_live (status_of (view_at views k) silo) (subst (λ o. IsSome o) (sym said) there) alive

-- ---- the setting
pub setting_of : (end : World) → IsViews end.views → Setting
setting_of end whole = record {
  hash = hash_grain end.settings.hashing;
  owner = λ version hash. owner_in (view_up_to end.views version) end.places hash;
  member = λ version silo. is_member_in (view_up_to end.views version) silo;
  alive = λ version silo. is_alive_in (view_up_to end.views version) silo;
  no_owner_at_first = λ hash silo.
      none_is (owner_in (view_up_to end.views 0) end.places hash) silo
      (ap (λ view. owner_in view end.places hash) (view_within end.views 0 (omega arith))
      ∙ no_owner (view_at end.views 0) end.places hash (first_is_empty end.views whole));
  owner_is_member = λ version hash silo is.
      let active = owner_active end.views (up_to end.views version) end.places hash silo whole (ap (λ view. owner_in view end.places hash) (sym (view_up_to-is end.views version)) ∙ is) in
      ap (λ view. is_member_in view silo) (view_up_to-is end.views version) ∙ ap is_live active;
  member_is_alive = λ version silo is. live_alive (status_of (view_up_to end.views version) silo) is;
  dead_stays_dead = λ j k silo le alive.
      let later = subst (λ view. is_alive_in view silo ≡ true) (view_up_to-is end.views k) alive in
      let before = alive_before (status_of (view_at end.views (up_to end.views j)) silo) (status_of (view_at end.views (up_to end.views k)) silo)
      (view_dead_stays end.views whole silo (up_to end.views j) (up_to end.views k) (up_to-rises end.views j k le) (up_to-made end.views k))
      later in
      subst (λ view. is_alive_in view silo ≡ true) (sym (view_up_to-is end.views j)) before;
  member_until_death = λ j k silo le member alive.
      let before = subst (λ view. is_member_in view silo ≡ true) (view_up_to-is end.views j) member in
      let later = subst (λ view. is_alive_in view silo ≡ true) (view_up_to-is end.views k) alive in
      let so = member_stays end.views whole silo (up_to end.views j) (up_to end.views k) (up_to-rises end.views j k le) (up_to-made end.views k) before later in
      subst (λ view. is_member_in view silo ≡ true) (sym (view_up_to-is end.views k)) so;
}

pub is_setting_of : (end : World) (whole : IsViews end.views) → IsSettingOf (setting_of end whole) end
unfolding setting_of
is_setting_of end whole = record {
  hash = refl;
  member = λ version silo within. ap (λ view. is_member_in view silo) (view_within end.views version within);
  alive = λ version silo within. ap (λ view. is_alive_in view silo) (view_within end.views version within);
  owner = λ version hash within. ap (λ view. owner_in view end.places hash) (view_within end.views version within);
}

-- ---- earlier worlds

-- the views and places of a world go on to those of another
pub record GoesOnTo (f later : World) : Type 0 where
  pub settings : later.settings ≡ f.settings
  pub version : f.views.version ≤ later.views.version
  pub views : (k : ℕ) → k ≤ f.views.version → view_at later.views k ≡ view_at f.views k
  pub rings : (k : ℕ) → k ≤ f.views.version → sorted_ring (view_at f.views k) later.places ≡ sorted_ring (view_at f.views k) f.places

pub setting_before : (m : Setting) (f later : World) → GoesOnTo f later → IsSettingOf m later → IsSettingOf m f
setting_before m f later on is =
    let low = on.version in
    record {
      hash = is.hash ∙ ap (λ s. hash_grain s.hashing) on.settings;
      member = λ k silo within. is.member k silo (omega arith) ∙ ap (λ view. is_member_in view silo) (on.views k within);
      alive = λ k silo within. is.alive k silo (omega arith) ∙ ap (λ view. is_alive_in view silo) (on.views k within);
      owner =
          λ k hash within. is.owner k hash (omega arith) ∙ ap (λ view. owner_in view later.places hash) (on.views k within)
          ∙ ap (λ ring. owner_silo ring hash) (on.rings k within);
    }

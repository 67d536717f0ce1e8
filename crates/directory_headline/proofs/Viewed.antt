-- A join, a leaving and a death are the next view: `Shown` is carried on.
use Rattle.std.proofs.Common.{arith, ◌≡◌, ℕ, ◌+◌, ◌<◌, IsSome, inl, inr, refl, sym, ap, ◌∙◌, subst, ◌⊎◌}
use Rattle.std.specs.Prelude.{All, Option, Some, None, Ok}
use Rattle.std.specs.Map.{lookup, remove_entry}
use Rattle.std.specs.BTreeMap.{is_at, insert_entry}
use Rattle.std.proofs.lemmas.List.Elements.{All-nil, All-weaker}
use Rattle.silo_address.specs.Silo.{Silo, silo_cmp}
use Rattle.silo_address.proofs.Order.{silo_cmp_total, silo_cmp_exact}
use Rattle.membership_view.specs.declared.status.Status.{Status}
use Rattle.membership_view.specs.Views.{ViewsValue, view_at, status_at}
use Rattle.membership_view.specs.Changes as change
use Rattle.membership_view.specs.Laws.{Accepts}
use Rattle.membership_view.specs.Step.{Joins}
use Rattle.membership_view.specs.Whole.{IsViews}
use Rattle.membership_view.proofs.Said.{views_say_statuses}
use Rattle.membership_view.proofs.Unchanged.{rows_stay, statuses_stay, versions_rise, views_are_kept}
use Rattle.membership_view.proofs.Changes.{changes_are_steps}
use Rattle.hash_ring.specs.Places.{PlacesValue}
use Rattle.directory_protocol.specs.Setting.{Setting}
use Rattle.directory_protocol.specs.World as protocol
use Rattle.directory_protocol.specs.Actions.{New_view}
use Rattle.directory_protocol.specs.Effects.{after}
use Rattle.directory_protocol.specs.Safety.{IsReached}
use Rattle.directory_protocol.proofs.Changes.{silo_cases}
use Rattle.directory_protocol.proofs.Runs.{reached_after}
use Rattle.directory_rules.proofs.Decided.{died}
use Rattle.directory_rules.specs.State.{Node, World, Posted}
use Rattle.directory_rules.specs.Node.{new_node}
use Rattle.directory_rules.specs.Settings.{Settings}
use Rattle.directory_rules.specs.Happens.{node_of, after_joining, without_replaced, counted}
use Rattle.directory_rules.specs.Laws.{ArePeopled}
use Rattle.directory_rules.proofs.Removed.{lookup_removed}
use Rattle.directory_headline.specs.SiloState.{state_of, first_state}
use Rattle.directory_headline.specs.Shown.{Shown, IsShownNode, IsShownLetter, IsShownSnapshot, IsShownGathering, IsShownRecovery}
use Rattle.directory_headline.proofs.Actors.{Grows}
use Rattle.directory_headline.proofs.MoreLetters.{letter_still, node_still}
use Rattle.directory_facts.proofs.Lookups.{found_put, found_beside_put, found_beside_removed}
use Rattle.directory_headline.proofs.Facts.{WorldFacts}

-- what is carried through a run
pub record Carried (m : Setting) (f : World) : Type 0 where
  pub world : protocol.World
  pub reached : IsReached m world
  pub shown : Shown m f world

module _ (m : Setting) (w : protocol.World) where
  abbrev pub viewed : protocol.World
  viewed = after m w New_view

  grows : Grows w viewed
  grows = record { requests = λ x s. s; replies = λ x s. s; snapshots = λ x s. s; reports = λ x s. s; offers = λ x s. s }

  abbrev Says : (ℕ × Posted) → Type 0
  Says e = IsShownLetter m.hash w e.1.letter

  -- a silo that has just joined
  pub new_shown : (settings : Settings) (silo : Silo) → IsShownNode m w (new_node settings silo) first_state
  new_shown settings silo = record {
    seen = refl;
    host = record { held = λ grain. refl; next_number = refl; next_count = refl };
    holding = record { settled = λ h. refl; table = λ grain piece found. absurd (cc (found)); served = λ sender. refl };
    shelf = All-nil (IsShownSnapshot m.hash w.snapshots);
    gatherings = All-nil (λ (e : ℕ × _). IsShownGathering m.hash w.snapshots e.1);
    recoveries = All-nil (λ (e : ℕ × _). IsShownRecovery m w.reports e.1);
  }

  -- the next view: each silo that has a node has the one that it had, and one that isn't there wasn't
  view_shown :
      (f later : World) → Shown m f w → later.views.version ≡ f.views.version + 1 → later.mail ≡ f.mail
      → ((silo : Silo) (node : Node) → node_of later silo ≡ Some node → IsShownNode m w node (state_of w silo))
      → ((silo : Silo) → status_at later.views later.views.version silo ≡ None → status_at f.views f.views.version silo ≡ None)
      → Shown m later viewed
  view_shown f later shown version mail nodes absent =
      let now = shown.now in
      record {
        now = omega arith;
        live = λ silo node there. node_still m w viewed grows node (state_of w silo) (nodes silo node there);
        absent = λ silo none. shown.absent silo (absent silo none);
        letters =
            All-weaker Says (λ e. IsShownLetter m.hash viewed e.1.letter) (λ e is. letter_still m w viewed grows e.1.letter is) later.mail
            (subst (All Says) (sym mail) shown.letters);
      }

-- who isn't there after a change wasn't there before
pub was_absent : (views next : ViewsValue) (way : change.Change) → Accepts views way next → (q : Silo)
    → status_at next next.version q ≡ None
    → status_at views views.version q ≡ None
was_absent views next way accepts q none = by (status_at views views.version q) refl
  where
    rises : next.version ≡ views.version + 1
    rises = versions_rise views way next accepts

    before : status_at next views.version q ≡ status_at views views.version q
    before = statuses_stay views way next accepts views.version (omega arith) q

    by : (o : Option Status) → status_at views views.version q ≡ o → o ≡ None
    by None is = refl
    by (Some status) is =
        let one = rises in
        let was : IsSome (status_at next views.version q) = subst (λ o. IsSome o) (sym (before ∙ is)) refl in
        let still = rows_stay next (views_are_kept views way next accepts) q views.version next.version (omega (one, arith)) (omega arith) was in
        absurd (cc (subst (λ o. IsSome o) none still))

-- who joins wasn't there
pub newcomer : (silo : Silo) (views next : ViewsValue) → IsViews views
    → Joins silo (view_at views views.version) (view_at next next.version)
    → status_at views views.version silo ≡ None
newcomer silo views next whole step = by (status_at views views.version silo) refl
  where
    by : (status : Option Status) → status_at views views.version silo ≡ status → status ≡ None
    by None is = refl
    by (Some status) is =
        let there : IsSome (status_at views views.version silo) = subst (λ o. IsSome o) (sym is) refl in
        let said = views_say_statuses views whole silo views.version (omega arith) there in
        let newer : silo.generation < silo.generation = step.newest silo (refl, refl) (subst (λ o. IsSome o) (sym said) there) in
        absurd (omega (newer, arith))

-- ---- nodes
module _ (f : World) (peopled : ArePeopled f.views f.nodes) where
  -- a node that is there after another was taken out was there
  pub still_there : (taken silo : Silo) (node : Node)
      → lookup (is_at (silo_cmp silo)) (remove_entry (is_at (silo_cmp taken)) f.nodes) ≡ Some node → node_of f silo ≡ Some node
  still_there taken silo node there =
      elim (silo_cases silo taken) [
        | inl same ↦
            let gone = lookup_removed silo_cmp silo_cmp_total taken f.nodes peopled.by_address in
            let found = subst (λ s. lookup (is_at (silo_cmp s)) (remove_entry (is_at (silo_cmp taken)) f.nodes) ≡ Some node) same there in
            absurd (cc (gone, found))
        | inr apart ↦ sym (found_beside_removed silo_cmp silo_cmp_total silo_cmp_exact taken f.nodes silo apart) ∙ there
      ]

  pub replaced_there : (old : Option Silo) (silo : Silo) (node : Node) → node_of (without_replaced f old) silo ≡ Some node
      → node_of f silo ≡ Some node
  replaced_there None silo node there = there
  replaced_there (Some old) silo node there = still_there old silo node there

  -- a node that is there after a join is that of the silo that joins, or was there
  pub joining_node :
      (silo : Silo) (next : ViewsValue) (added : PlacesValue) (old : Option Silo) (q : Silo) (node : Node)
      → node_of (after_joining f silo old next added) q ≡ Some node
      → ((q ≡ silo) × (node ≡ new_node f.settings silo)) ⊎ (node_of f q ≡ Some node)
  joining_node silo next added old q node there =
      elim (silo_cases q silo) [
        | inl same ↦
            let one : Some (new_node f.settings silo) ≡ Some node =
            sym (found_put silo_cmp silo_cmp_total silo_cmp_exact silo (new_node f.settings silo) (without_replaced f old).nodes)
            ∙ ap (λ s. lookup (is_at (silo_cmp s)) (insert_entry silo_cmp (without_replaced f old).nodes silo (new_node f.settings silo)))
            (sym same) ∙ made old there in
            let its : new_node f.settings silo ≡ node = cc (one) in
            inl (same, sym its)
        | inr apart ↦
            inr (replaced_there old q node (sym (found_beside_put silo_cmp silo_cmp_total silo_cmp_exact silo (new_node f.settings silo)
            (without_replaced f old).nodes q apart) ∙ made old there))
      ]
    where
      made : (old : Option Silo) → node_of (after_joining f silo old next added) q ≡ Some node
          → lookup (is_at (silo_cmp q)) (insert_entry silo_cmp (without_replaced f old).nodes silo (new_node f.settings silo)) ≡ Some node
      made None there = there
      made (Some old) there = there

-- ---- what a change of membership shows, and what is carried then
module _ (m : Setting) (f : World) (facts : WorldFacts m.hash f) (carried : Carried m f) where
  pub shown_leaving : (silo : Silo) → change.after f.views (change.Leave silo) ≡ Ok (change.with_leave f.views silo)
      → Shown m (counted (record f { views = change.with_leave f.views silo })) (viewed m carried.world)
  shown_leaving silo is =
      let next = change.with_leave f.views silo in
      let accepts : Accepts f.views (change.Leave silo) next = record { whole = facts.peopled.whole; is = is } in
      view_shown m carried.world f (counted (record f { views = next })) carried.shown
      (versions_rise f.views (change.Leave silo) next accepts) refl carried.shown.live
      (was_absent f.views next (change.Leave silo) accepts)

  pub shown_death : (silo : Silo) → change.after f.views (change.Die silo) ≡ Ok (change.with_death f.views silo)
      → Shown m (died f silo).world (viewed m carried.world)
  shown_death silo is =
      let next = change.with_death f.views silo in
      let accepts : Accepts f.views (change.Die silo) next = record { whole = facts.peopled.whole; is = is } in
      view_shown m carried.world f (died f silo).world carried.shown (versions_rise f.views (change.Die silo) next accepts) refl
      (λ q node there. carried.shown.live q node (still_there f facts.peopled silo q node there))
      (was_absent f.views next (change.Die silo) accepts)

  pub shown_joining : (silo : Silo) (next : ViewsValue) (added : PlacesValue) → change.after_join f.views silo ≡ Ok next
      → (old : Option Silo)
      → Shown m (counted (after_joining f silo old next added)) (viewed m carried.world)
  shown_joining silo next added is old =
      let accepts : Accepts f.views (change.Join silo) next = record { whole = facts.peopled.whole; is = is } in
      let step : Joins silo (view_at f.views f.views.version) (view_at next next.version) = changes_are_steps f.views (change.Join silo) next accepts in
      view_shown m carried.world f (counted (after_joining f silo old next added)) carried.shown
      (versions_rise f.views (change.Join silo) next accepts) (mail_same old) (λ q node there.
      elim (joining_node f facts.peopled silo next added old q node there) [
        | inl its ↦
            let first : state_of carried.world q ≡ first_state = ap (state_of carried.world) its.0 ∙ carried.shown.absent silo (newcomer silo f.views next facts.peopled.whole step) in
            subst (λ n. IsShownNode m carried.world n (state_of carried.world q)) (sym its.1)
            (subst (IsShownNode m carried.world (new_node f.settings silo)) (sym first) (new_shown m carried.world f.settings silo))
        | inr was ↦ carried.shown.live q node was
      ]) (was_absent f.views next (change.Join silo) accepts)
    where
      mail_same : (old : Option Silo) → (after_joining f silo old next added).mail ≡ f.mail
      mail_same None = refl
      mail_same (Some old) = refl

  go_on : (later : World) → Shown m later (viewed m carried.world) → Carried m later
  go_on later shown =
      record { world = viewed m carried.world; reached = reached_after m carried.world New_view carried.reached tt; shown = shown }

  pub carried_leaving : (silo : Silo) → change.after f.views (change.Leave silo) ≡ Ok (change.with_leave f.views silo)
      → Carried m (counted (record f { views = change.with_leave f.views silo }))
  carried_leaving silo is = go_on (counted (record f { views = change.with_leave f.views silo })) (shown_leaving silo is)

  pub carried_death : (silo : Silo) → change.after f.views (change.Die silo) ≡ Ok (change.with_death f.views silo)
      → Carried m (died f silo).world
  carried_death silo is = go_on (died f silo).world (shown_death silo is)

  pub carried_joining : (silo : Silo) (next : ViewsValue) (added : PlacesValue) → change.after_join f.views silo ≡ Ok next
      → (old : Option Silo) → Carried m (counted (after_joining f silo old next added))
  carried_joining silo next added is old = go_on (counted (after_joining f silo old next added)) (shown_joining silo next added is old)

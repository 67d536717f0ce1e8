-- Every accepted event is one step of the plain machine.
use Rattle.std.proofs.Common.{◌≡◌, ℕ, ◌-◌, inl, refl, sym, ap, subst, ◌∙◌}
use Rattle.std.specs.Prelude.{Option, Some, None, Ok, IfOk}
use Rattle.std.specs.Map.{lookup}
use Rattle.std.specs.BTreeMap.{is_at}
use Rattle.silo_address.specs.Silo.{Silo, silo_cmp}
use Rattle.silo_address.specs.Grain.{Grain}
use Rattle.silo_address.proofs.Order.{silo_cmp_total, silo_cmp_exact}
use Rattle.membership_view.specs.Views.{ViewsValue, view_at}
use Rattle.membership_view.specs.Changes as change
use Rattle.membership_view.specs.Laws.{Accepts}
use Rattle.membership_view.specs.Step.{Joins}
use Rattle.membership_view.proofs.Changes.{changes_are_steps}
use Rattle.hash_ring.specs.Places.{PlacesValue}
use Rattle.directory_rules.proofs.Decided.{died}
use Rattle.directory_rules.specs.State.{Node, World, Accepted}
use Rattle.directory_rules.specs.Step.{Stepped}
use Rattle.directory_rules.specs.Input.{Input, Receives, step}
use Rattle.directory_rules.specs.Event.{Event, IsEvent}
use Rattle.directory_rules.specs.declared.outcome.Happening.TheVariants.{Lost}
use Rattle.directory_rules.specs.Mail.{with_delivered, with_lost}
use Rattle.directory_rules.specs.Happens.{node_of, happens, counted, tells, after_joining}
use Rattle.directory_rules.specs.Laws.{ArePeopled}
use Rattle.directory_rules.specs.Headline.{NoTwoFirm, MovesPlainly}
use Rattle.directory_rules.specs.PlainMachine.{plain_of, PlainStep, Nothing_changes, step_of_effect, plain_step_of, IsSame, ViewChanges, IsPlainStep}
use Rattle.directory_headline.proofs.Events.{with_step, by_event}
use Rattle.directory_headline.proofs.Facts.{WorldFacts}
use Rattle.directory_headline.proofs.Settings.{GoesOnTo}
use Rattle.directory_facts.proofs.Lookups.{found_put, found_beside_put}
use Rattle.directory_headline.proofs.PlainWays.{IsNodeStep, steps_plainly, sees_plainly}
use Rattle.directory_headline.proofs.PlainSilo.{node_step}
use Rattle.directory_headline.proofs.PlainViews.{view_changes, joining_kept, death_kept}

-- what is known of the world after an event
pub record Then (f later : World) : Type 0 where
  pub peopled : ArePeopled later.views later.nodes
  pub goes_on : GoesOnTo f later
  pub one_firm : NoTwoFirm later

-- an accepted event is a plain step
abbrev Plainly : World → Accepted → Type 0
Plainly f accepted = Then f accepted.world → IsPlainStep (plain_of f) (plain_step_of accepted.outcome.happening) (plain_of accepted.world)

module _ (hash : Grain → ℕ) (f : World) (facts : WorldFacts hash f) where
  by_silo : (its : World) (silo : Silo) (node : Node) (made : Stepped) (kind : PlainStep) → its.views ≡ f.views → its.nodes ≡ f.nodes
      → node_of f silo ≡ Some node → IsNodeStep node kind made.node
      → Then f (with_step its silo made) → IsPlainStep (plain_of f) kind (plain_of (with_step its silo made))
  by_silo its silo node made kind views nodes there is after =
      node_step f (with_step its silo made) silo node made.node facts.peopled there
      (found_put silo_cmp silo_cmp_total silo_cmp_exact silo made.node its.nodes)
      (λ s apart. found_beside_put silo_cmp silo_cmp_total silo_cmp_exact silo made.node its.nodes s apart
      ∙ ap (λ es. lookup (is_at (silo_cmp s)) es) nodes) views kind after.one_firm is

  by_input : (silo : Silo) (node : Node) (input : Input) (made : Stepped) → node_of f silo ≡ Some node → step node input ≡ Ok made
      → IsNodeStep node (step_of_effect made.effect) made.node
  by_input silo node input made there is = steps_plainly node (facts.nodes silo node there).own.once input made is

  lost : (number : ℕ) → IsSame (plain_of f) (plain_of (tells (with_lost f number) (Lost number)).world)
  lost number = record { view = refl; unused = λ silo. refl; lives = λ silo grain. refl }

  joined : (silo : Silo) (next : ViewsValue) (added : PlacesValue) (old : Option Silo) → change.after_join f.views silo ≡ Ok next
      → (after_joining f silo old next added).views ≡ next
      → Then f (counted (after_joining f silo old next added))
      → ViewChanges (plain_of f) (plain_of (counted (after_joining f silo old next added)))
  joined silo next added old is views after =
      let accepts : Accepts f.views (change.Join silo) next = record { whole = facts.peopled.whole; is = is } in
      let step : Joins silo (view_at f.views f.views.version) (view_at next next.version) = changes_are_steps f.views (change.Join silo) next accepts in
      view_changes f (counted (after_joining f silo old next added)) facts.peopled after.peopled after.goes_on
      (joining_kept f facts.peopled silo next added old step) (change.Join silo)
      (subst (λ v. Joins silo (view_at f.views f.views.version) (view_at v v.version)) (sym views) step)

  joined_by : (silo : Silo) (next : ViewsValue) (added : PlacesValue) (old : Option Silo) → change.after_join f.views silo ≡ Ok next
      → Then f (counted (after_joining f silo old next added))
      → ViewChanges (plain_of f) (plain_of (counted (after_joining f silo old next added)))
  joined_by silo next added None is after = joined silo next added None is refl after
  joined_by silo next added (Some old) is after = joined silo next added (Some old) is refl after

  left : (silo : Silo) → change.after f.views (change.Leave silo) ≡ Ok (change.with_leave f.views silo)
      → Then f (counted (record f { views = change.with_leave f.views silo }))
      → ViewChanges (plain_of f) (plain_of (counted (record f { views = change.with_leave f.views silo })))
  left silo is after =
      let next = change.with_leave f.views silo in
      let accepts : Accepts f.views (change.Leave silo) next = record { whole = facts.peopled.whole; is = is } in
      view_changes f (counted (record f { views = next })) facts.peopled after.peopled after.goes_on (λ q node there. inl there)
      (change.Leave silo) (changes_are_steps f.views (change.Leave silo) next accepts)

  dead : (silo : Silo) → change.after f.views (change.Die silo) ≡ Ok (change.with_death f.views silo) → Then f (died f silo).world
      → ViewChanges (plain_of f) (plain_of (died f silo).world)
  dead silo is after =
      let next = change.with_death f.views silo in
      let accepts : Accepts f.views (change.Die silo) next = record { whole = facts.peopled.whole; is = is } in
      view_changes f (died f silo).world facts.peopled after.peopled after.goes_on (death_kept f facts.peopled silo) (change.Die silo)
      (changes_are_steps f.views (change.Die silo) next accepts)

  pub events_plainly : (event : Event) → IfOk (happens f event) (Plainly f)
  events_plainly event = by_event f (Plainly f) (record {
    joins = λ silo given next added viewed placed after. joined_by silo next added _ viewed after;
    leaves = λ silo is after. left silo is after;
    dies = λ silo is after. dead silo is after;
    sees =
        λ silo version node made there sight is after. by_silo f silo node made Nothing_changes refl refl there
        (sees_plainly node (facts.nodes silo node there).own.once (view_at f.views (version - 1)) (view_at f.views version) f.places
        made is) after;
    does =
        λ silo input node made own there is after. by_silo f silo node made (step_of_effect made.effect) refl refl there
        (by_input silo node input made there is) after;
    delivers = λ number letter node made found there is after.
        by_silo (with_delivered f number letter) letter.to node made (step_of_effect made.effect) refl refl there
        (by_input letter.to node (Receives letter) made there is) after;
    loses = λ number after. lost number;
  }) event

  -- each accepted event is a plain step, if no grain is firm on two live silos after it
  pub moves_plainly : ((event : Event) (accepted : Accepted) → IsEvent event → happens f event ≡ Ok accepted → Then f accepted.world)
      → MovesPlainly f
  moves_plainly then event accepted is ok = subst (λ result. IfOk result (Plainly f)) ok (events_plainly event) (then event accepted is ok)

-- With room for so many letters and events no event of the plan is refused, and all has come back.
use Rattle.std.proofs.Common.{arith, ◌≡◌, ◌≢◌, refl, sym, ap, subst, ◌∙◌, ℕ, ◌+◌, ◌*◌, ◌≤◌, List, [], ◌∷◌, length}
use Rattle.std.specs.Prelude.{false, cond, nat_lt, All, Option, Some, None, Result, Ok}
use Rattle.std.specs.Map.{keys_of}
use Rattle.std.proofs.lemmas.Bool.{ltb-true}
use Rattle.std.proofs.lemmas.List.Elements.{All-nil}
use Rattle.silo_address.specs.Silo.{Silo}
use Rattle.directory_rules.specs.Settings.{Settings, AreSettings}
use Rattle.directory_rules.specs.State.{Node, World}
use Rattle.directory_rules.specs.Event.{Event, See, IsEvent}
use Rattle.directory_rules.specs.Happens.{happens, node_of}
use Rattle.directory_rules.proofs.Cases.{on_bool}
use Rattle.directory_facts.specs.Laws.{world_by}
use Rattle.directory_facts.proofs.Lawful.{settings_stay}
use Rattle.progress_rules.specs.Plan.{then_on, and_then, is_behind, sights, synced, round, plan, IsBack}
use Rattle.progress_rules.specs.ComeBack.{HaveSeen}
use Rattle.progress_rules.specs.Limits.{NumbersSuffice, HasActive}
use Rattle.progress_rules.specs.Room.{letters_needed, events_needed, ComesBackUnownedWithRoom, ComesBackWithRoom}
use Rattle.progress_rules.proofs.Synced.{IsSeeing, synced_seen}
use Rattle.progress_rules.proofs.All.{comes_back_unowned}
use Rattle.progress_rules.proofs.ActiveOwns.{comes_back_where_active}
use Rattle.progress_rules.proofs.AreTold.{base_of}
use Rattle.progress_rules.proofs.RoundThrough.{HasRoom, round_through}
use Rattle.progress_rules.proofs.RoundSends.{round_within}
use Rattle.progress_rules.proofs.PlanSends.{first_sends, first_events, still_asked, before_first, before_second, all_sends, all_events, round_settles, seen_rests}

-- ---- who has seen the current view isn't behind
not_less : (a b : ℕ) → a ≡ b → nat_lt a b ≡ false
not_less a b same =
    on_bool (λ t. nat_lt a b ≡ t → t ≡ false) (nat_lt a b) (λ t is. let less = ltb-true a b is in absurd (omega (arith, less, same)))
    (λ f is. refl) refl

level : (world : World) (o : Option Node) → ((node : Node) → o ≡ Some node → node.view.version ≡ world.views.version)
    → is_behind o world ≡ false
level world None seen = refl
level world (Some node) seen = let same = seen node refl in not_less node.view.version world.views.version same

sees_none : (silos : List Silo) (world : World) → HaveSeen world → sights silos world ≡ Ok world
sees_none [] world seen = refl
sees_none (silo ∷ silos) world seen =
    ap (λ b. cond {A = Result World ℕ} b (then_on (happens world (See silo world.views.version)) (λ next. sights silos next))
    (sights silos world))
    (level world (node_of world silo) (λ node its. seen silo node its)) ∙ sees_none silos world seen

-- ---- the plan
module _ (settings : Settings) (events : List Event) (seen : World) (are : AreSettings settings) (named : All IsEvent events)
    (synced_is : synced (world_by settings events) ≡ Ok seen) where
  s : IsSeeing settings [] seen
  s = synced_seen settings are events seen named synced_is

  plan_through : NumbersSuffice settings → seen.sent + letters_needed seen ≤ settings.letters
      → seen.accepted + events_needed seen ≤ settings.events
      → (after : World) × (plan (world_by settings events) ≡ Ok after)
  plan_through suffice letters_fit events_fit =
      let r = seen_rests settings events seen are named synced_is in
      let same : seen.settings ≡ settings = ap (λ (x : World). x.settings) s.is ∙ settings_stay settings s.events in
      let b = base_of seen in
      let sends = all_sends seen r in
      let comes = all_events seen r in
      let room : HasRoom (first_sends seen) (first_events seen) seen.settings = subst (HasRoom (first_sends seen) (first_events seen)) (sym same)
      (record { letters = omega (arith, sends, letters_fit); events_fit = omega (arith, comes, events_fit); numbers = suffice }) in
      let first = round_through b (first_sends seen) (still_asked seen) (first_events seen) seen (before_first seen r) room in
      let kept = (round_within b (first_sends seen) (still_asked seen) (first_events seen) seen first.0 (before_first seen r) first.1).kept in
      let before = before_second b (first_sends seen) (still_asked seen) (first_events seen) first.0 kept (round_settles seen first.0 r first.1) in
      let more : HasRoom (first_sends seen + 2 * still_asked seen) (first_events seen + length seen.nodes + 2 * still_asked seen) first.0.settings =
      subst (HasRoom (first_sends seen + 2 * still_asked seen) (first_events seen + length seen.nodes + 2 * still_asked seen)) (sym (first.2 ∙ same))
      (record { letters = omega (arith, sends, letters_fit); events_fit = omega (arith, comes, events_fit); numbers = suffice }) in
      let second = round_through b (first_sends seen + 2 * still_asked seen) (still_asked seen) (first_events seen + length seen.nodes + 2 * still_asked seen) first.0 before more in
      (second.0, ap (λ x. and_then (and_then x round) round) synced_is ∙ ap (λ x. and_then x round) first.1 ∙ second.1)

  -- the plan is that of the world where each live silo has seen the current view
  plan_of_seen : (after : World) → plan (world_by settings events) ≡ Ok after → plan (world_by settings s.events) ≡ Ok after
  plan_of_seen after is =
      subst (λ x. plan x ≡ Ok after) s.is
      (ap (λ x. and_then (and_then x round) round) (sees_none (keys_of seen.nodes) seen
      (λ silo node there. s.seen silo node there (All-nil (λ other. other ≢ silo)))
      ∙ sym synced_is) ∙ is)

  with_active : (after : World) → plan (world_by settings events) ≡ Ok after → HasActive seen → IsBack after
  with_active after is active =
      comes_back_where_active settings s.events after are s.named (subst HasActive s.is active) (plan_of_seen after is)

pub comes_back_unowned_with_room : ComesBackUnownedWithRoom
comes_back_unowned_with_room settings events seen are suffice named synced_is letters_fit events_fit =
    let through = plan_through settings events seen are named synced_is suffice letters_fit events_fit in
    (through.0, through.1, comes_back_unowned settings events through.0 are named through.1)

pub comes_back_with_room : ComesBackWithRoom
comes_back_with_room settings events seen are suffice named synced_is active letters_fit events_fit =
    let through = plan_through settings events seen are named synced_is suffice letters_fit events_fit in
    (through.0, through.1, with_active settings events seen are named synced_is through.0 through.1 active)

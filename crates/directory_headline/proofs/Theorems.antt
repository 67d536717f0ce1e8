-- The rule refines the protocol after any list of events; so the headline holds, and events are steps of the plain machine.
use Rattle.std.proofs.Common.{◌≡◌, List, [], ◌∷◌, ◌++◌, sym, ap, subst, ◌∙◌}
use Rattle.std.specs.Prelude.{All, Ok, IfOk}
use Rattle.std.proofs.lemmas.List.Elements.{All-nil, All-cons, All-append}
use Rattle.hash_ring.specs.Hash.{hash_grain}
use Rattle.directory_protocol.specs.Setting.{Setting}
use Rattle.directory_rules.specs.Settings.{Settings, AreSettings}
use Rattle.directory_rules.specs.Event.{Event, IsEvent}
use Rattle.directory_rules.specs.State.{World, Accepted}
use Rattle.directory_rules.specs.Happens.{happens}
use Rattle.directory_rules.specs.Run.{world_after}
use Rattle.directory_rules.specs.Laws.{ArePeopled}
use Rattle.directory_rules.specs.Headline.{Headline, NoTwoFirm, AfterAnyEvents, MovesPlainly}
use Rattle.directory_facts.proofs.Lawful.{settings_stay}
use Rattle.directory_headline.specs.Setting.{IsSettingOf}
use Rattle.directory_headline.specs.Refined.{IsRefined}
use Rattle.directory_headline.proofs.Facts.{WorldFacts}
use Rattle.directory_headline.proofs.FactsHold.{facts_hold}
use Rattle.directory_headline.proofs.Settings.{GoesOnTo, setting_of, is_setting_of}
use Rattle.directory_headline.proofs.Onward.{goes_on}
use Rattle.directory_headline.proofs.Viewed.{Carried}
use Rattle.directory_headline.proofs.Runs.{world_by, one_more, carried_after}
use Rattle.directory_headline.proofs.Promises.{headline}
use Rattle.directory_headline.proofs.Plainly.{Then, moves_plainly}
use Rattle.directory_headline.proofs.Steps.{all_move}

module _ (settings : Settings) (events : List Event) (are : AreSettings settings) (named : All IsEvent events) where
  abbrev f : World
  f = world_by settings events

  setting : Setting
  setting = setting_of f (facts_hold settings events are named).peopled.whole

  is_its : IsSettingOf setting f
  unfolding setting
  is_its = is_setting_of f (facts_hold settings events are named).peopled.whole

  facts : WorldFacts setting.hash f
  facts =
      subst (λ hash. WorldFacts hash f) (sym (is_its.hash ∙ ap (λ (s : Settings). hash_grain s.hashing) (settings_stay settings events)))
      (facts_hold settings events are named)

  carried : Carried setting f
  carried = carried_after facts_hold settings are setting all_move events named is_its

-- a world with all that is known of it: its facts, and a reached world of the protocol that shows it
pub record IsCarried (f : World) : Type 0 where
  pub setting : Setting
  pub is_its : IsSettingOf setting f
  pub facts : WorldFacts setting.hash f
  pub carried : Carried setting f

pub carried_so : AfterAnyEvents IsCarried
carried_so settings events are named = record {
  setting = setting settings events are named;
  is_its = is_its settings events are named;
  facts = facts settings events are named;
  carried = carried settings events are named;
}

pub refined_after : AfterAnyEvents IsRefined
refined_after settings events are named =
    let its = carried settings events are named in
    (setting settings events are named, is_its settings events are named, its.world, its.reached, its.shown)

pub headline_after : AfterAnyEvents Headline
headline_after settings events are named =
    headline (setting settings events are named) (world_by settings events) (is_its settings events are named)
    (facts settings events are named) (carried settings events are named)

-- the world after one event more is one that events make too
then_so :
    (settings : Settings) (events : List Event) → AreSettings settings → All IsEvent events → (event : Event) (accepted : Accepted)
    → IsEvent event
    → happens (world_by settings events) event ≡ Ok accepted → Then (world_by settings events) accepted.world
then_so settings events are named event accepted is ok =
    let f = world_by settings events in
    let more = events ++ event ∷ [] in
    let all : All IsEvent more = All-append IsEvent events (event ∷ []) named (All-cons IsEvent event [] is (All-nil IsEvent)) in
    let one : world_by settings more ≡ accepted.world = one_more settings events event ∙ ap (λ result. world_after result f) ok in
    record {
      peopled = subst (λ (w : World). ArePeopled w.views w.nodes) one (facts_hold settings more are all).peopled;
      goes_on = subst (λ result. IfOk result (λ a. GoesOnTo f a.world)) ok (goes_on f (facts_hold settings events are named).views event);
      one_firm = subst NoTwoFirm one (headline_after settings more are all).no_two_firm;
    }

pub plain_after : AfterAnyEvents MovesPlainly
plain_after settings events are named =
    moves_plainly _ (world_by settings events) (facts_hold settings events are named) (then_so settings events are named)

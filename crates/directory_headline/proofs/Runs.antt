-- A run of events carries `Shown` from the first world to the last, if every step moves as it should.
use Rattle.std.proofs.Common.{◌≡◌, ℕ, List, [], ◌∷◌, ◌++◌, refl, sym, ap, subst, ◌∙◌}
use Rattle.std.specs.Prelude.{All, Some, Result, Ok, Err, IfOk}
use Rattle.std.proofs.lemmas.List.Elements.{All-nil, All-cons, All-head, All-tail, All-append}
use Rattle.silo_address.specs.Silo.{Silo}
use Rattle.hash_ring.specs.Hash.{hash_grain}
use Rattle.directory_protocol.specs.Setting.{Setting}
use Rattle.directory_protocol.specs.World as protocol
use Rattle.directory_protocol.specs.Effects.{run}
use Rattle.directory_protocol.proofs.Runs.{reached_run}
use Rattle.directory_rules.specs.State.{Letter, Node, World, Accepted}
use Rattle.directory_rules.specs.Settings.{Settings, AreSettings}
use Rattle.directory_rules.specs.Step.{Stepped}
use Rattle.directory_rules.specs.Event.{Event, IsEvent}
use Rattle.directory_rules.specs.Input.{Input, Does, Receives, Sees, step, sight_of}
use Rattle.directory_rules.specs.World.{first_world, membership_of}
use Rattle.directory_rules.specs.Mail.{letter_of, with_delivered}
use Rattle.directory_rules.specs.Happens as rule
use Rattle.directory_rules.specs.Run as running
use Rattle.directory_rules.specs.Run.{run_from_start, world_after}
use Rattle.directory_facts.proofs.Lawful.{settings_stay}
use Rattle.directory_headline.specs.Setting.{IsSettingOf}
use Rattle.directory_headline.proofs.Events.{IsOwnInput, with_step, by_event}
use Rattle.directory_headline.proofs.Facts.{WorldFacts}
use Rattle.directory_headline.proofs.Frame.{Here, Comes, Brings, Moves}
use Rattle.directory_headline.proofs.Deliveries.{shown_step, letter_shown, mail_delivered, shown_lost}
use Rattle.directory_headline.proofs.Settings.{GoesOnTo, setting_before}
use Rattle.directory_headline.proofs.Onward.{goes_on}
use Rattle.directory_headline.proofs.Viewed.{Carried, carried_leaving, carried_death, carried_joining}
use Rattle.directory_headline.proofs.FirstWorlds.{carried_start}

-- each accepted step moves as it should
abbrev pub AllMove : Type 0
AllMove =
    (m : Setting) (f : World) (w : protocol.World) (silo : Silo) (node : Node) → Here m f w silo node → (input : Input) (stepped : Stepped)
    → step node input ≡ Ok stepped → Brings m f w silo input
    → Moves m w silo stepped

-- the facts hold of each world that is reached
abbrev pub FactsHold : Type 0
FactsHold =
    (settings : Settings) (events : List Event) → AreSettings settings → All IsEvent events
    → WorldFacts (hash_grain settings.hashing) (run_from_start settings events).world

-- a silo's own doing brings all that is asked
pub own_brings : (m : Setting) (f : World) (w : protocol.World) (silo : Silo) (input : Input) → IsOwnInput input → Brings m f w silo input
own_brings m f w silo (Sees before view places) own = absurd own
own_brings m f w silo (Does step) own = tt
own_brings m f w silo (Receives letter) own = absurd own

module _ (all_move : AllMove) (m : Setting) (f : World) (setting : IsSettingOf m f) (facts : WorldFacts m.hash f)
    (carried : Carried m f) where
  here : (silo : Silo) (node : Node) → rule.node_of f silo ≡ Some node → Here m f carried.world silo node
  here silo node there = record { setting = setting; facts = facts; there = there; reached = carried.reached; shown = carried.shown }

  carried_step : (silo : Silo) (node : Node) (input : Input) (stepped : Stepped) → rule.node_of f silo ≡ Some node
      → step node input ≡ Ok stepped → Brings m f carried.world silo input → Carried m (with_step f silo stepped)
  carried_step silo node input stepped there is brings =
      let moves = all_move m f carried.world silo node (here silo node there) input stepped is brings in
      record {
        world = run m moves.actions carried.world;
        reached = reached_run m carried.world moves.actions carried.reached moves.allowed;
        shown = shown_step m f f carried.world silo node stepped (here silo node there) refl refl carried.shown.letters moves;
      }

  carried_delivery :
      (number : ℕ) (letter : Letter) (node : Node) (stepped : Stepped) → letter_of f number ≡ Some letter
      → rule.node_of f letter.to ≡ Some node → step node (Receives letter) ≡ Ok stepped
      → Carried m (with_step (with_delivered f number letter) letter.to stepped)
  carried_delivery number letter node stepped found there is =
      let shown = letter_shown m f carried.world number letter carried.shown found in
      let comes : Comes m f carried.world letter.to letter = record { to = refl; own = facts.letters number letter found; shown = shown } in
      let moves = all_move m f carried.world letter.to node (here letter.to node there) (Receives letter) stepped is comes in
      record {
        world = run m moves.actions carried.world;
        reached = reached_run m carried.world moves.actions carried.reached moves.allowed;
        shown =
            shown_step m f (with_delivered f number letter) carried.world letter.to node stepped (here letter.to node there) refl refl
            (mail_delivered m f carried.world number letter carried.shown shown) moves;
      }

  carried_event : (event : Event) → IfOk (rule.happens f event) (λ accepted. Carried m accepted.world)
  carried_event event = by_event f (λ accepted. Carried m accepted.world) (record {
    joins = λ silo given next added viewed placed. carried_joining m f facts carried silo next added viewed _;
    leaves = λ silo is. carried_leaving m f facts carried silo is;
    dies = λ silo is. carried_death m f facts carried silo is;
    sees = λ silo version node stepped there sight is. carried_step silo node (sight_of (membership_of f) version) stepped there is sight;
    does =
        λ silo input node stepped own there is. carried_step silo node input stepped there is (own_brings m f carried.world silo input own);
    delivers = λ number letter node stepped found there is. carried_delivery number letter node stepped found there is;
    loses =
        λ number. record { world = carried.world; reached = carried.reached; shown = shown_lost m f carried.world number carried.shown };
  }) event

-- ---- runs
after_append : (world : World) (xs ys : List Event)
    → (running.run world (xs ++ ys)).world ≡ (running.run (running.run world xs).world ys).world
unfolding running.run
after_append world [] ys = refl
after_append world (event ∷ xs) ys = after_append (world_after (rule.happens world event) world) xs ys

-- the world that the events make, when one more comes
pub one_more : (settings : Settings) (events : List Event) (event : Event)
    → (run_from_start settings (events ++ event ∷ [])).world ≡ world_after (rule.happens (run_from_start settings events).world event)
    (run_from_start settings events).world
unfolding running.run
one_more settings events event = after_append (first_world settings) events (event ∷ [])

-- the setting of the world after an event is that of the world before
before_result : (m : Setting) (f : World) (result : Result Accepted ℕ) → IfOk result (λ accepted. GoesOnTo f accepted.world)
    → IsSettingOf m (world_after result f) → IsSettingOf m f
before_result m f (Ok accepted) on is = setting_before m f accepted.world on is
before_result m f (Err number) on is = is

carried_result : (m : Setting) (f : World) (result : Result Accepted ℕ) → IfOk result (λ accepted. Carried m accepted.world) → Carried m f
    → Carried m (world_after result f)
carried_result m f (Ok accepted) carried before = carried
carried_result m f (Err number) carried before = before

abbrev pub world_by : Settings → List Event → World
world_by settings events = (run_from_start settings events).world

module _ (facts_hold : FactsHold) (settings : Settings) (are : AreSettings settings) (m : Setting) where
  facts_by : (events : List Event) → All IsEvent events → IsSettingOf m (world_by settings events)
      → WorldFacts m.hash (world_by settings events)
  facts_by events all is =
      subst (λ hash. WorldFacts hash (world_by settings events))
      (sym (is.hash ∙ ap (λ (s : Settings). hash_grain s.hashing) (settings_stay settings events)))
      (facts_hold settings events are all)

  and_one : (before : List Event) (event : Event) → All IsEvent before → IsEvent event → All IsEvent (before ++ event ∷ [])
  and_one before event all is = All-append IsEvent before (event ∷ []) all (All-cons IsEvent event [] is (All-nil IsEvent))

  pub setting_back : (before rest : List Event) → All IsEvent before → All IsEvent rest
      → IsSettingOf m (running.run (world_by settings before) rest).world → IsSettingOf m (world_by settings before)
  unfolding running.run
  setting_back before [] all more is = is
  setting_back before (event ∷ rest) all more is =
      let f = world_by settings before in
      let next = before ++ event ∷ [] in
      let one = one_more settings before event in
      let later =
      setting_back next rest (and_one before event all (All-head IsEvent event rest more)) (All-tail IsEvent event rest more)
      (subst (λ world. IsSettingOf m (running.run world rest).world) (sym one) is) in
      before_result m f (rule.happens f event) (goes_on f (facts_hold settings before are all).views event)
      (subst (IsSettingOf m) one later)

  carried_run :
      AllMove → (before rest : List Event) → All IsEvent before → All IsEvent rest
      → IsSettingOf m (running.run (world_by settings before) rest).world → Carried m (world_by settings before)
      → Carried m (running.run (world_by settings before) rest).world
  unfolding running.run
  carried_run all_move before [] all more is carried = carried
  carried_run all_move before (event ∷ rest) all more is carried =
      let f = world_by settings before in
      let next = before ++ event ∷ [] in
      let one = one_more settings before event in
      let setting = setting_back before (event ∷ rest) all more is in
      let then = carried_result m f (rule.happens f event) (carried_event all_move m f setting (facts_by before all setting) carried event) carried in
      subst (λ world. Carried m (running.run world rest).world) one
      (carried_run all_move next rest (and_one before event all (All-head IsEvent event rest more)) (All-tail IsEvent event rest more)
      (subst (λ world. IsSettingOf m (running.run world rest).world) (sym one) is) (subst (Carried m) (sym one) then))

  -- the world after any list of events is shown, by the setting that its own views make or those of a later one
  pub carried_after : AllMove → (events : List Event) → All IsEvent events → IsSettingOf m (world_by settings events)
      → Carried m (world_by settings events)
  unfolding running.run
  carried_after all_move events all is = carried_run all_move [] events (All-nil IsEvent) all is (carried_start m settings)

-- From a world of the protocol that shows one of the rule, allowed actions lead to one that shows what events make of that.
use Rattle.std.proofs.Common.{◌≡◌, ℕ, ◌⊎◌, List, [], ◌∷◌, ◌++◌, inl, inr, refl, sym, ap, subst, ◌∙◌}
use Rattle.std.specs.Prelude.{All, Some, Result, Ok, Err, IfOk}
use Rattle.std.proofs.lemmas.List.Elements.{All-nil, All-cons, All-head, All-tail, All-append}
use Rattle.silo_address.specs.Silo.{Silo}
use Rattle.hash_ring.specs.Hash.{hash_grain}
use Rattle.directory_protocol.specs.Setting.{Setting}
use Rattle.directory_protocol.specs.World as protocol
use Rattle.directory_protocol.specs.Actions.{Action, New_view}
use Rattle.directory_protocol.specs.Effects as acting
use Rattle.directory_protocol.proofs.Runs.{run_append, allowed_append, reached_run}
use Rattle.directory_rules.specs.State.{Letter, Node, World, Accepted}
use Rattle.directory_rules.specs.Settings.{Settings, AreSettings}
use Rattle.directory_rules.specs.Step.{Stepped}
use Rattle.directory_rules.specs.Event.{Event, IsEvent}
use Rattle.directory_rules.specs.Input.{Input, Receives, step, sight_of}
use Rattle.directory_rules.specs.World.{membership_of}
use Rattle.directory_rules.specs.Mail.{letter_of, with_delivered, with_lost}
use Rattle.directory_rules.specs.Happens as rule
use Rattle.directory_rules.specs.Run.{run, world_after}
use Rattle.directory_facts.proofs.Lawful.{settings_stay}
use Rattle.directory_headline.specs.Setting.{IsSettingOf}
use Rattle.directory_headline.specs.Shown.{Shown}
use Rattle.directory_headline.proofs.Events.{with_step, by_event}
use Rattle.directory_headline.proofs.Facts.{WorldFacts}
use Rattle.directory_headline.proofs.FactsHold.{facts_hold}
use Rattle.directory_headline.proofs.Frame.{Here, Comes, Brings}
use Rattle.directory_headline.proofs.Deliveries.{shown_step, letter_shown, mail_delivered, shown_lost}
use Rattle.directory_headline.proofs.Runs.{world_by, one_more, setting_back, own_brings}
use Rattle.directory_headline.proofs.Steps.{all_move}
use Rattle.directory_headline.proofs.Viewed.{Carried, shown_leaving, shown_death, shown_joining}

-- actions of the protocol's world w lead to one that shows the rule's
pub record LeadsTo (m : Setting) (w : protocol.World) (f : World) : Type 0 where
  pub actions : List Action
  pub allowed : acting.AllAllowed m actions w
  pub shown : Shown m f (acting.run m actions w)

pub leads_nowhere : (m : Setting) (w : protocol.World) (f : World) → Shown m f w → LeadsTo m w f
leads_nowhere m w f shown = record { actions = []; allowed = tt; shown = shown }

leads_on : (m : Setting) (w : protocol.World) (f later : World) → (l : LeadsTo m w f) → LeadsTo m (acting.run m l.actions w) later
    → LeadsTo m w later
leads_on m w f later l then =
    record {
      actions = l.actions ++ then.actions;
      allowed = allowed_append m l.actions then.actions w l.allowed then.allowed;
      shown = subst (Shown m later) (sym (run_append m l.actions then.actions w)) then.shown;
    }

-- an event leaves the views, or is the next view
pub record Passes (m : Setting) (w : protocol.World) (f later : World) : Type 0 where
  pub leads : LeadsTo m w later
  pub how : (later.views ≡ f.views) ⊎ (leads.actions ≡ New_view ∷ [])

module _ (m : Setting) (f : World) (setting : IsSettingOf m f) (facts : WorldFacts m.hash f) (carried : Carried m f) where
  abbrev w : protocol.World
  w = carried.world

  here : (silo : Silo) (node : Node) → rule.node_of f silo ≡ Some node → Here m f w silo node
  here silo node there = record { setting = setting; facts = facts; there = there; reached = carried.reached; shown = carried.shown }

  next_view : (later : World) → Shown m later (acting.after m w New_view) → Passes m w f later
  next_view later shown = record { leads = record { actions = New_view ∷ []; allowed = (tt, tt); shown = shown }; how = inr refl }

  stepping : (silo : Silo) (node : Node) (input : Input) (stepped : Stepped) → rule.node_of f silo ≡ Some node
      → step node input ≡ Ok stepped → Brings m f w silo input → Passes m w f (with_step f silo stepped)
  stepping silo node input stepped there is brings =
      let moves = all_move m f w silo node (here silo node there) input stepped is brings in
      record {
        leads = record {
          actions = moves.actions;
          allowed = moves.allowed;
          shown = shown_step m f f w silo node stepped (here silo node there) refl refl carried.shown.letters moves;
        };
        how = inl refl;
      }

  delivering :
      (number : ℕ) (letter : Letter) (node : Node) (stepped : Stepped) → letter_of f number ≡ Some letter
      → rule.node_of f letter.to ≡ Some node → step node (Receives letter) ≡ Ok stepped
      → Passes m w f (with_step (with_delivered f number letter) letter.to stepped)
  delivering number letter node stepped found there is =
      let shown = letter_shown m f w number letter carried.shown found in
      let comes : Comes m f w letter.to letter = record { to = refl; own = facts.letters number letter found; shown = shown } in
      let moves = all_move m f w letter.to node (here letter.to node there) (Receives letter) stepped is comes in
      record {
        leads = record {
          actions = moves.actions;
          allowed = moves.allowed;
          shown =
              shown_step m f (with_delivered f number letter) w letter.to node stepped (here letter.to node there) refl refl
              (mail_delivered m f w number letter carried.shown shown) moves;
        };
        how = inl refl;
      }

  pub event_passes : (event : Event) → IfOk (rule.happens f event) (λ accepted. Passes m w f accepted.world)
  event_passes event = by_event f (λ accepted. Passes m w f accepted.world) (record {
    joins = λ silo given next added viewed placed. next_view _ (shown_joining m f facts carried silo next added viewed _);
    leaves = λ silo is. next_view _ (shown_leaving m f facts carried silo is);
    dies = λ silo is. next_view _ (shown_death m f facts carried silo is);
    sees = λ silo version node stepped there sight is. stepping silo node (sight_of (membership_of f) version) stepped there is sight;
    does = λ silo input node stepped own there is. stepping silo node input stepped there is (own_brings m f w silo input own);
    delivers = λ number letter node stepped found there is. delivering number letter node stepped found there is;
    loses =
        λ number. record {
          leads = leads_nowhere m w (rule.counted (with_lost f number)) (shown_lost m f w number carried.shown);
          how = inl
              refl;
        };
  }) event

  -- whether it is accepted or not
  pub result_passes : (event : Event) (result : Result Accepted ℕ) → rule.happens f event ≡ result → Passes m w f (world_after result f)
  result_passes event (Ok accepted) is = subst (λ result. IfOk result (λ accepted. Passes m w f accepted.world)) is (event_passes event)
  result_passes event (Err number) is = record { leads = leads_nowhere m w f carried.shown; how = inl refl }

-- ---- runs
pub after_append : (world : World) (xs ys : List Event) → (run world (xs ++ ys)).world ≡ (run (run world xs).world ys).world
unfolding run
after_append world [] ys = refl
after_append world (event ∷ xs) ys = after_append (world_after (rule.happens world event) world) xs ys

module _ (settings : Settings) (are : AreSettings settings) (m : Setting) where
  pub facts_by : (events : List Event) → All IsEvent events → IsSettingOf m (world_by settings events)
      → WorldFacts m.hash (world_by settings events)
  facts_by events all is =
      subst (λ hash. WorldFacts hash (world_by settings events))
      (sym (is.hash ∙ ap (λ (s : Settings). hash_grain s.hashing) (settings_stay settings events)))
      (facts_hold settings events are all)

  pub and_one : (before : List Event) (event : Event) → All IsEvent before → IsEvent event → All IsEvent (before ++ event ∷ [])
  and_one before event all is = All-append IsEvent before (event ∷ []) all (All-cons IsEvent event [] is (All-nil IsEvent))

  pub leads_run :
      (before rest : List Event) → All IsEvent before → All IsEvent rest → IsSettingOf m (run (world_by settings before) rest).world
      → (carried : Carried m (world_by settings before))
      → LeadsTo m carried.world (run (world_by settings before) rest).world
  unfolding run
  leads_run before [] all more is carried = leads_nowhere m carried.world (world_by settings before) carried.shown
  leads_run before (event ∷ rest) all more is carried =
      let f = world_by settings before in
      let next = before ++ event ∷ [] in
      let one = one_more settings before event in
      let setting = setting_back facts_hold settings are m before (event ∷ rest) all more is in
      let passes : Passes m carried.world f (world_by settings next) = subst (Passes m carried.world f) (sym one) (result_passes m f setting (facts_by before all setting) carried event (rule.happens f event) refl) in
      let then : Carried m (world_by settings next) = record {
        world = acting.run m passes.leads.actions carried.world;
        reached = reached_run m carried.world passes.leads.actions carried.reached passes.leads.allowed;
        shown = passes.leads.shown;
      } in
      let later = leads_run next rest (and_one before event all (All-head IsEvent event rest more)) (All-tail IsEvent event rest more)
      (subst (λ world. IsSettingOf m (run world rest).world) (sym one) is) then in
      subst (λ world. LeadsTo m carried.world (run world rest).world) one
      (leads_on m carried.world (world_by settings next) (run (world_by settings next) rest).world passes.leads later)

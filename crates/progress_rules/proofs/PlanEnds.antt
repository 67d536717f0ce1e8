-- With what the plan ends: with what its events keep, or with the number by which one of them is refused.
use Rattle.std.proofs.Common.{inl, inr, ◌≡◌, refl, sym, ap, subst, ℕ, zero, suc, ◌<◌, List, [], ◌∷◌}
use Rattle.std.specs.Prelude.{true, cond, is_some, map, All, Option, Some, None, Result, Ok, Err, IfOk}
use Rattle.std.specs.Option.{option_map}
use Rattle.std.specs.Map.{keys_of, lookup}
use Rattle.std.specs.BTreeMap.{is_at}
use Rattle.std.proofs.lemmas.Bool.{ltb-true}
use Rattle.std.proofs.lemmas.List.Elements.{All-nil, All-cons, All-head, All-tail, All-weaker}
use Rattle.silo_address.specs.Silo.{Silo, IsSilo, silo_cmp}
use Rattle.silo_address.proofs.Order.{silo_cmp_total}
use Rattle.directory_rules.specs.Settings.{Settings, AreSettings}
use Rattle.directory_rules.specs.State.{Node, Letter, World, Posted, Accepted}
use Rattle.directory_rules.specs.Event.{See, Do, Deliver}
use Rattle.directory_rules.specs.Input.{Input, Does, Receives, sight_of}
use Rattle.directory_rules.specs.World.{membership_of}
use Rattle.directory_rules.specs.Happens.{happens, node_of}
use Rattle.directory_rules.proofs.Cases.{on_bool}
use Rattle.directory_rules.proofs.Kept.{On}
use Rattle.directory_rules.specs.declared.own_step.OwnStep.TheVariants.{Nudge}
use Rattle.directory_rules.proofs.FreshLetters.{AtMost, find_in, next_delivered}
use Rattle.directory_facts.proofs.Lookups.{lookup_first}
use Rattle.progress_rules.specs.Plan as plan
use Rattle.progress_rules.specs.Plan.{then_on, and_then, in_turn, is_behind, sights, delivering, ended, settled_within}
use Rattle.progress_rules.proofs.Flights.{IsStep, IsDelivery, stepped_world, lives}
use Rattle.progress_rules.proofs.Flights as flight
use Rattle.progress_rules.proofs.Synced.{saw, keys_silos}
use Rattle.progress_rules.proofs.Answered.{some_of}
use Rattle.progress_rules.proofs.Refused.{Refused, IsUndelivered, refused_nudge, refused_sight, refused_delivery}
use Rattle.progress_rules.proofs.ReachedBy.{IsReachedBy, reached_mail, reached_peopled, reached_silos, reached_on, seeable_now}
use Rattle.progress_rules.proofs.Enough.{at_most_letters, none_left, next_letter}

-- what holds of the world after, or of the number of the refusal
abbrev pub Ends : (World → Type 0) → (ℕ → Type 0) → Result World ℕ → Type 0
Ends I E (Ok world) = I world
Ends I E (Err number) = E number

-- what the plan's events keep, and what each refusal of one says
pub record PlanKeeps (settings : Settings) (I : World → Type 0) (E : ℕ → Type 0) : Type 0 where
  pub sees : (world after : World) (silo : Silo) → IsReachedBy settings world → I world
      → IsStep world after silo (sight_of (membership_of world) world.views.version) → I after
  pub nudges : (world after : World) (silo : Silo) → IsReachedBy settings world → I world → IsStep world after silo (Does Nudge) → I after
  pub delivers : (world after : World) (number : ℕ) → IsReachedBy settings world → I world → IsDelivery world after number → I after
  pub refuses : (world : World) (silo : Silo) (input : Input) (number : ℕ) → IsReachedBy settings world → I world
      → Refused world silo input number → E number

abbrev pub Reached : Settings → (World → Type 0) → World → Type 0
Reached settings I world = IsReachedBy settings world × I world

undelivered : (world : World) (letter : Letter) (number : ℕ) → IsUndelivered world letter number
    → Refused world letter.to (Receives letter) number
undelivered world letter number (inl late) = inl late
undelivered world letter number (inr full) = inr (inl full)

-- ---- one thing after the other
module _ (J : World → Type 0) (E : ℕ → Type 0) where
  pub then_ends : (r : Result Accepted ℕ) (next : World → Result World ℕ)
      → ((accepted : Accepted) → r ≡ Ok accepted → Ends J E (next accepted.world))
      → ((number : ℕ) → r ≡ Err number → E number) → Ends J E (then_on r next)
  then_ends (Ok accepted) next on refused = on accepted refl
  then_ends (Err number) next on refused = refused number refl

  pub and_ends : (r : Result World ℕ) (next : World → Result World ℕ) → Ends J E r → ((world : World) → J world → Ends J E (next world))
      → Ends J E (and_then r next)
  and_ends (Ok world) next holds on = on world holds
  and_ends (Err number) next refused on = refused

-- ---- each silo that has an entry has a node
abbrev HasNode : World → Silo × Node → Type 0
HasNode world e = is_some (node_of world e.0) ≡ true

abbrev HasEntry : List (Silo × Node) → Silo × Node → Type 0
HasEntry es e = is_some (lookup (is_at (silo_cmp e.0)) es) ≡ true

entry_later : (e : Silo × Node) (es : List (Silo × Node)) (x : Silo × Node) → HasEntry es x → HasEntry (e ∷ es) x
entry_later e es x there =
    on_bool (λ b. is_some (cond b (Some e.1) (lookup (is_at (silo_cmp x.0)) es)) ≡ true) (is_at (silo_cmp x.0) e.0) (λ t. refl) (λ f. there)

each_there : (es : List (Silo × Node)) → All (HasEntry es) es
each_there [] = All-nil (HasEntry [])
each_there (e ∷ es) =
    let first = ap (λ (o : Option Node). is_some o) (lookup_first silo_cmp silo_cmp_total e.0 e.1 es) in
    All-cons (HasEntry (e ∷ es)) e es first (All-weaker (HasEntry es) (HasEntry (e ∷ es)) (entry_later e es) es (each_there es))

-- a step leaves each of them one
still_there : (world after : World) (silo : Silo) (input : Input) (es : List (Silo × Node)) → IsStep world after silo input
    → All (HasNode world) es → All (HasNode after) es
still_there world after silo input es it there =
    subst (λ w. All (HasNode w) es) (sym it.is) (All-weaker (HasNode world) (HasNode (stepped_world world silo it.stepped))
    (λ e live. lives world silo it.stepped e.0 live) es there)

-- who is behind has one
pub record IsBehind (world : World) (silo : Silo) : Type 0 where
  pub node : Node
  pub its : node_of world silo ≡ Some node
  pub newer : node.view.version < world.views.version

pub who_is_behind : (world : World) (silo : Silo) → is_behind (node_of world silo) world ≡ true → IsBehind world silo
who_is_behind world silo behind = by (node_of world silo) refl behind
  where
    by : (o : Option Node) → node_of world silo ≡ o → is_behind o world ≡ true → IsBehind world silo
    by None none is = absurd (cc (is))
    by (Some node) its is = record { node = node; its = its; newer = ltb-true node.view.version world.views.version is }

module _ (settings : Settings) (are : AreSettings settings) (I : World → Type 0) (E : ℕ → Type 0) (k : PlanKeeps settings I E) where
  abbrev J : World → Type 0
  J world = Reached settings I world

  -- ---- sights
  see_ends : (world : World) (silo : Silo) (next : World → Result World ℕ) → IsSilo silo → J world
      → is_behind (node_of world silo) world ≡ true
      → ((later : World) → J later → Ends J E (next later)) → Ends J E (then_on (happens world (See silo world.views.version)) next)
  see_ends world silo next named r behind on =
      let who = who_is_behind world silo behind in
      then_ends J E (happens world (See silo world.views.version)) next
      (λ accepted ok.
      let it = saw world silo world.views.version accepted ok in
      on accepted.world (
        reached_on settings are world r.0 (See silo world.views.version) accepted named ok,
        k.sees world accepted.world
            silo r.0 r.1 it,
      ))
      (λ number refused. k.refuses world silo (sight_of (membership_of world) world.views.version) number r.0 r.1
      (refused_sight world silo who.node world.views.version number who.its who.newer
      (seeable_now world silo (reached_peopled settings are world r.0).whole) refused))

  sights_end : (silos : List Silo) (world : World) → All IsSilo silos → J world → Ends J E (sights silos world)
  sights_end [] world named r = r
  sights_end (silo ∷ silos) world named r =
      let rest = All-tail IsSilo silo silos named in
      on_bool (λ b. Ends J E (cond b (then_on (happens world (See silo world.views.version)) (λ next. sights silos next))
      (sights silos world))) (is_behind (node_of world silo) world)
      (λ behind. see_ends world silo (λ next. sights silos next) (All-head IsSilo silo silos named) r behind
      (λ later its. sights_end silos later rest its))
      (λ level. sights_end silos world rest r)

  -- ---- nudges
  nudge_ends : (world : World) (silo : Silo) (next : World → Result World ℕ) → IsSilo silo → is_some (node_of world silo) ≡ true → J world
      → ((later : World) → IsStep world later silo (Does Nudge) → J later → Ends J E (next later))
      → Ends J E (then_on (happens world (Do silo Nudge)) next)
  nudge_ends world silo next named there r on =
      then_ends J E (happens world (Do silo Nudge)) next
      (λ accepted ok.
      let it = flight.nudged world silo accepted ok in
      on accepted.world it (
        reached_on settings are world r.0 (Do silo Nudge) accepted (named, tt) ok,
        k.nudges world accepted.world silo
            r.0 r.1 it,
      ))
      (λ number refused. let its = some_of (node_of world silo) there in
      k.refuses world silo (Does Nudge) number r.0 r.1 (refused_nudge world silo its.0 number its.1 refused))

  nudges_end : (es : List (Silo × Node)) (world : World) → All (λ e. IsSilo e.0) es → All (HasNode world) es → J world
      → Ends J E (in_turn (map (λ e. Do e.0 Nudge) es) world)
  nudges_end [] world named there r = r
  nudges_end (e ∷ es) world named there r =
      nudge_ends world e.0 (λ next. in_turn (map (λ x. Do x.0 Nudge) es) next) (All-head (λ (x : Silo × Node). IsSilo x.0) e es named)
      (All-head (HasNode world) e es there) r
      (λ later it its. nudges_end es later (All-tail (λ (x : Silo × Node). IsSilo x.0) e es named)
      (still_there world later e.0 (Does Nudge) es it (All-tail (HasNode world) e es there)) its)

  -- ---- deliveries
  deliver_ends : (more : ℕ) (world : World) (e : ℕ × Posted) (next : World → Result World ℕ) → On (AtMost (suc more)) world → J world
      → find_in world world.mail ≡ Some e
      → ((later : World) → On (AtMost more) later → J later → Ends J E (next later)) → Ends J E (then_on (happens world (Deliver e.0)) next)
  deliver_ends more world e next at_most r found on =
      let letter = next_letter world e at_most.0 found in
      then_ends J E (happens world (Deliver e.0)) next
      (λ accepted ok.
      on accepted.world (subst (λ result. IfOk result (λ a. On (AtMost more) a.world)) ok
      (next_delivered more world e.0 e.1 letter.next at_most)) (
        reached_on settings are world r.0 (Deliver e.0) accepted tt ok,
        k.delivers world accepted.world e.0 r.0 r.1
            (flight.delivered world e.0 accepted ok),
      ))
      (λ number refused.
      let so = refused_delivery world e.0 e.1.letter letter.node number letter.found letter.its refused in
      k.refuses world e.1.letter.to (Receives e.1.letter) number r.0 r.1 (undelivered world e.1.letter number so))

  settles_end : (more : ℕ) (world : World) → On (AtMost more) world → J world → Ends J E (settled_within more world)
  settles_end zero world at_most r = by (find_in world world.mail) refl
    where
      by : (o : Option (ℕ × Posted)) → find_in world world.mail ≡ o → Ends J E (ended (option_map (λ e. e.0) o) world)
      by None none = r
      by (Some e) found = absurd (none_left world e at_most found)
  settles_end (suc more) world at_most r = by (find_in world world.mail) refl (λ later few its. settles_end more later few its)
    where
      by : (o : Option (ℕ × Posted)) → find_in world world.mail ≡ o
          → ((later : World) → On (AtMost more) later → J later → Ends J E (settled_within more later))
          → Ends J E (delivering (option_map (λ e. e.0) o) world (λ next. settled_within more next))
      by None none on = r
      by (Some e) found on = deliver_ends more world e (λ next. settled_within more next) at_most r found on

  -- ---- a round, and the plan
  round_ends : (world : World) → J world → Ends J E (plan.round world)
  round_ends world r =
      and_ends J E (plan.nudged world) plan.settled (nudges_end world.nodes world (reached_silos settings are world r.0)
      (each_there world.nodes) r)
      (λ next its. settles_end next.settings.letters next (at_most_letters next (reached_mail settings are next its.0)) its)

  pub plan_ends : (world : World) → J world → Ends J E (plan.plan world)
  plan_ends world r =
      let synced = sights_end (keys_of world.nodes) world (keys_silos settings are world.nodes (reached_silos settings are world r.0)) r in
      and_ends J E (and_then (plan.synced world) plan.round) plan.round (and_ends J E (plan.synced world) plan.round synced round_ends)
      round_ends

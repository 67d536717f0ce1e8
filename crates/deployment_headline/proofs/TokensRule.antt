-- What tokens promise of worlds that events make, but for what follows of two that became firm.
use Rattle.std.proofs.Common.{arith, ◌≡◌, ℕ, suc, ◌<◌, ◌≤◌, ◌⊎◌, List, [], ◌∷◌, ◌++◌, inl, inr, refl, sym, ap, subst, ◌∙◌, true≢false, append_assoc}
use Rattle.std.specs.Prelude.{true, false, is_some, All, Option, Some, None}
use Rattle.std.specs.Option.{option_map}
use Rattle.std.proofs.lemmas.Bool.{cases_order}
use Rattle.std.proofs.lemmas.List.Elements.{All-nil, All-cons, All-head, All-tail, All-append}
use Rattle.silo_address.specs.Silo.{Silo}
use Rattle.silo_address.specs.Grain.{Grain}
use Rattle.silo_address.specs.declared.ActivationId.{ActivationId}
use Rattle.membership_view.specs.Views.{ViewsValue, status_at}
use Rattle.directory_protocol.specs.Setting.{Setting}
use Rattle.directory_protocol.specs.Letters.{activation_on}
use Rattle.directory_protocol.specs.World as protocol
use Rattle.directory_protocol.specs.Actions.{Action, New_view}
use Rattle.directory_protocol.specs.Effects as acting
use Rattle.directory_protocol.specs.Safety.{IsReached}
use Rattle.directory_protocol.proofs.All.{Kept, kept_reached}
use Rattle.directory_protocol.proofs.Changes.{bool_cases, not_both}
use Rattle.directory_protocol.proofs.Runs.{holds_where_reached, reached_run, reached_after}
use Rattle.directory_rules.specs.declared.held.Held.{Held}
use Rattle.directory_rules.specs.declared.held.Phase.{Phase}
use Rattle.directory_rules.specs.declared.held.Phase.TheVariants as phase
use Rattle.directory_rules.specs.Host.{held_of}
use Rattle.directory_rules.specs.Settings.{Settings, AreSettings}
use Rattle.directory_rules.specs.Event.{Event, IsEvent}
use Rattle.directory_rules.specs.State.{World}
use Rattle.directory_rules.specs.World.{first_world}
use Rattle.directory_rules.specs.Happens.{node_of, happens}
use Rattle.directory_rules.specs.Run.{run}
use Rattle.directory_rules.specs.Laws.{is_live}
use Rattle.directory_rules.specs.PlainMachine.{Is_firm, life_by, life_of}
use Rattle.directory_rules.proofs.People.{live_said}
use Rattle.directory_headline.specs.Setting.{IsSettingOf}
use Rattle.directory_headline.specs.Shown.{Shown, held_in, held_as}
use Rattle.directory_headline.proofs.Facts.{WorldFacts}
use Rattle.directory_headline.proofs.FactsHold.{facts_hold}
use Rattle.directory_headline.proofs.Frame.{Here, node_shown, alive, live_now, seen_is}
use Rattle.directory_headline.proofs.Runs.{world_by, one_more, setting_back, carried_after}
use Rattle.directory_headline.proofs.Settings.{setting_of, is_setting_of}
use Rattle.directory_headline.proofs.Steps.{all_move}
use Rattle.directory_headline.proofs.Viewed.{Carried}
use Rattle.deployment_headline.specs.Tokens.{IsFirm, NeverFall, PassDeaths}
use Rattle.deployment_headline.proofs.TokensKept as kept
use Rattle.deployment_headline.proofs.TokensEarly.{early_firm}
use Rattle.deployment_headline.proofs.TokensKept.{since_run, firm_no_lower}
use Rattle.deployment_headline.proofs.TokensRuns.{LeadsTo, Passes, result_passes, after_append, facts_by, and_one, leads_run}

-- ---- what is firm in the rule's world is so in the protocol's
firm_phase : (its : Phase) (count : ℕ) (previous : Option ActivationId) (c : ℕ) → Some (life_by its count) ≡ Some (Is_firm c)
    → Some (held_in its count previous) ≡ Some (protocol.Firm c)
firm_phase (phase.Asking number) count previous c is = absurd (cc is)
firm_phase phase.Firm count previous c is = let same : count ≡ c = cc is in ap (λ n. Some (protocol.Firm n)) same
firm_phase (phase.Closing number) count previous c is = absurd (cc is)

firm_held : (o : Option Held) (c : ℕ) → option_map life_of o ≡ Some (Is_firm c) → option_map held_as o ≡ Some (protocol.Firm c)
firm_held None c is = absurd (cc is)
firm_held (Some held) c is = firm_phase held.phase held.count held.previous c is

record IsFirmThere (m : Setting) (w : protocol.World) (grain : Grain) (a : ActivationId) (version : ℕ) : Type 0 where
  alive : m.alive w.now a.silo ≡ true
  held : w.held a.silo grain ≡ Some (protocol.Firm a.count)
  saw : w.seen a.silo ≡ version

module _ (m : Setting) (f : World) (setting : IsSettingOf m f) (facts : WorldFacts m.hash f) (w : protocol.World) (reached : IsReached m w)
    (shown : Shown m f w) (grain : Grain) (a : ActivationId) (version : ℕ) (firm : IsFirm f grain a version) where
  here : Here m f w a.silo firm.node
  here = record { setting = setting; facts = facts; there = firm.there; reached = reached; shown = shown }

  firm_there : IsFirmThere m w grain a version
  firm_there =
      record {
        alive = alive m f w a.silo firm.node here;
        held = (node_shown m f w a.silo firm.node here).host.held grain ∙ firm_held (held_of firm.node.host grain) a.count firm.held;
        saw = seen_is m f w a.silo firm.node here ∙ firm.version;
      }

  -- and its silo a member of the current view
  member_now : m.member w.now a.silo ≡ true
  member_now =
      ap (λ v. m.member v a.silo) shown.now ∙ setting.member f.views.version a.silo (omega arith)
      ∙ live_said f.views facts.peopled.whole f.views.version (omega arith) a.silo ∙ live_now m f w a.silo firm.node here

kept_of : (m : Setting) (w : protocol.World) → IsReached m w → Kept m w
kept_of m w reached = holds_where_reached Kept kept_reached m w reached

-- who lives at a version is dead only later
dead_later : (m : Setting) (s : Silo) (now u : ℕ) → m.alive now s ≡ true → u ≤ suc now → (v : ℕ) → m.alive v s ≡ false → u ≤ v
dead_later m s now u live low v dead = by (cases_order u v)
  where
    by : (u ≡ v) ⊎ ((u < v) ⊎ (v < u)) → u ≤ v
    by (inl same) = omega arith
    by (inr (inl less)) = omega arith
    by (inr (inr more)) = not_both (m.dead_stays_dead v now s (omega arith) live) dead

-- ---- two moments of the protocol
abbrev Since : (m : Setting) → Grain → ActivationId → (u : ℕ) → protocol.World → Type 0
Since m grain a u w = kept.Since m grain (activation_on a.silo a.count) u w

-- nobody has a grain firm later having seen less than u
low_later :
    (m : Setting) (w : protocol.World) (actions : List Action) → acting.AllAllowed m actions w → Kept m w → Kept m (acting.run m actions w)
    → (grain : Grain) (a b : ActivationId) (u v : ℕ)
    → ((v : ℕ) → m.alive v a.silo ≡ false → u ≤ v) → Since m grain a u w → IsFirmThere m (acting.run m actions w) grain b v → u ≤ v
low_later m w actions allowed k j grain a b u v late since y =
    let then : Since m grain a u (acting.run m actions w) = since_run m grain (activation_on a.silo a.count) u late actions w allowed k since in
    let low : u ≤ (acting.run m actions w).seen b.silo = firm_no_lower m grain (activation_on a.silo a.count) u late (acting.run m actions w) j then b.silo b.count y.alive y.held in
    subst (λ n. u ≤ n) y.saw low

no_lower :
    (m : Setting) (w : protocol.World) (actions : List Action) → acting.AllAllowed m actions w → Kept m w → Kept m (acting.run m actions w)
    → (grain : Grain) (a b : ActivationId) (u v : ℕ)
    → IsFirmThere m w grain a u → IsFirmThere m (acting.run m actions w) grain b v → u ≤ v
no_lower m w actions allowed k j grain a b u v x y =
    let known : w.seen a.silo ≤ w.now = k.placed.structure.known a.silo in
    let saw : w.seen a.silo ≡ u = x.saw in
    let early : Since m grain a u w = inl (early_firm m w a.silo grain a.count u k (k.backed.confirmed.firm a.silo grain a.count x.alive x.held) x.held (λ live. omega arith)) in
    low_later m w actions allowed k j grain a b u v (dead_later m a.silo w.now u x.alive (omega arith)) early y

-- the silo of one dies while that is firm
above :
    (m : Setting) (w : protocol.World) (actions : List Action) → acting.AllAllowed m actions (acting.after m w New_view) → Kept m w
    → Kept m (acting.after m w New_view)
    → Kept m (acting.run m actions (acting.after m w New_view)) → (grain : Grain) (a b : ActivationId) (u v : ℕ) → IsFirmThere m w grain a u
    → m.alive (suc w.now) a.silo ≡ false
    → IsFirmThere m (acting.run m actions (acting.after m w New_view)) grain b v → (u < suc w.now) × (suc w.now ≤ v)
above m w actions allowed k next j grain a b u v x dies y =
    let known : w.seen a.silo ≤ w.now = k.placed.structure.known a.silo in
    let saw : w.seen a.silo ≡ u = x.saw in
    let early : Since m grain a (suc w.now) (acting.after m w New_view) =
    inl (early_firm m (acting.after m w New_view) a.silo grain a.count (suc w.now) next
    (k.backed.confirmed.firm a.silo grain a.count x.alive x.held) x.held (λ live. not_both live dies)) in (
      omega arith,
      low_later m (acting.after m w New_view) actions allowed next j grain a b (suc w.now) v
          (dead_later m a.silo w.now (suc w.now) x.alive (omega arith)) early y,
    )

-- ---- two moments of the rule
module _ (settings : Settings) (are : AreSettings settings) (m : Setting) where
  its_facts : (events : List Event) → All IsEvent events → (f : World) → world_by settings events ≡ f → IsSettingOf m f
      → WorldFacts m.hash f
  its_facts events all f same is = subst (WorldFacts m.hash) same (facts_by settings are m events all (subst (IsSettingOf m) (sym same) is))

  falls :
      (before more : List Event) → All IsEvent before → All IsEvent more → IsSettingOf m (run (world_by settings before) more).world
      → (grain : Grain) (a b : ActivationId) (u v : ℕ)
      → IsFirm (world_by settings before) grain a u → IsFirm (run (world_by settings before) more).world grain b v → u ≤ v
  falls before more all rest is grain a b u v firm later =
      let f = world_by settings before in
      let last = (run f more).world in
      let setting : IsSettingOf m f = setting_back facts_hold settings are m before more all rest is in
      let carried : Carried m f = carried_after facts_hold settings are m all_move before all setting in
      let leads : LeadsTo m carried.world last = leads_run settings are m before more all rest is carried in
      let facts = its_facts before all f refl setting in
      let last_facts = its_facts (before ++ more) (All-append IsEvent before more all rest) last (after_append (first_world settings) before more) is in
      let reached : IsReached m (acting.run m leads.actions carried.world) = reached_run m carried.world leads.actions carried.reached leads.allowed in
      no_lower m carried.world leads.actions leads.allowed (kept_of m carried.world carried.reached)
      (kept_of m (acting.run m leads.actions carried.world) reached) grain a b u v
      (firm_there m f setting facts carried.world carried.reached carried.shown grain a u firm)
      (firm_there m last is last_facts (acting.run m leads.actions carried.world) reached leads.shown grain b v later)

  -- what a death is: where the silo has no node any more, the event was the next view, and the silo is dead there
  record Death (w : protocol.World) (f later : World) (silo : Silo) : Type 0 where
    shown : Shown m later (acting.after m w New_view)
    dies : m.alive (suc w.now) silo ≡ false

  death :
      (w : protocol.World) (f later : World) (silo : Silo) → WorldFacts m.hash f → WorldFacts m.hash later → IsSettingOf m later
      → Shown m f w → Passes m w f later → is_some (node_of f silo) ≡ true
      → node_of later silo ≡ None → m.member w.now silo ≡ true → Death w f later silo
  death w f later silo facts then is shown passes there gone member = by passes.how
    where
      dead : is_live (status_at later.views later.views.version silo) ≡ false
      dead = sym (then.peopled.live silo) ∙ ap is_some gone

      by : (later.views ≡ f.views) ⊎ (passes.leads.actions ≡ New_view ∷ []) → Death w f later silo
      by (inl same) =
          let live : is_live (status_at f.views f.views.version silo) ≡ true = sym (facts.peopled.live silo) ∙ there in
          absurd (true≢false (sym live ∙ ap (λ (views : ViewsValue). is_live (status_at views views.version silo)) (sym same) ∙ dead))
      by (inr one) =
          let next : Shown m later (acting.after m w New_view) = subst (λ actions. Shown m later (acting.run m actions w)) one passes.leads.shown in
          record {
            shown = next;
            dies = elim (bool_cases (m.alive (suc w.now) silo)) [
              | inl live ↦
                  absurd (true≢false (sym (m.member_until_death w.now (suc w.now) silo (omega arith) member live)
                  ∙ ap (λ v. m.member v silo) next.now ∙ is.member later.views.version silo (omega arith)
                  ∙ live_said later.views then.peopled.whole later.views.version (omega arith) silo ∙ dead))
              | inr gone ↦ gone
            ];
          }

  pass :
      (before more : List Event) (event : Event) → All IsEvent before → IsEvent event → All IsEvent more
      → IsSettingOf m (run (world_by settings (before ++ event ∷ [])) more).world
      → (grain : Grain) (a b : ActivationId) (u v : ℕ) → IsFirm (world_by settings before) grain a u
      → node_of (world_by settings (before ++ event ∷ [])) a.silo ≡ None
      → IsFirm (run (world_by settings (before ++ event ∷ [])) more).world grain b v
      → (u < (world_by settings (before ++ event ∷ [])).views.version) × ((world_by settings (before ++ event ∷ [])).views.version ≤ v)
  pass before more event all one rest is grain a b u v firm gone later =
      let f = world_by settings before in
      let now = before ++ event ∷ [] in
      let next = world_by settings now in
      let last = (run next more).world in
      let named : All IsEvent now = and_one settings are m before event all one in
      let next_setting : IsSettingOf m next = setting_back facts_hold settings are m now more named rest is in
      let setting : IsSettingOf m f = setting_back facts_hold settings are m before (event ∷ []) all (All-cons IsEvent event [] one (All-nil IsEvent)) (subst (IsSettingOf m) (after_append (first_world settings) before (event ∷ [])) next_setting) in
      let carried : Carried m f = carried_after facts_hold settings are m all_move before all setting in
      let w = carried.world in
      let facts = its_facts before all f refl setting in
      let next_facts = its_facts now named next refl next_setting in
      let last_facts = its_facts (now ++ more) (All-append IsEvent now more named rest) last (after_append (first_world settings) now more) is in
      let passes : Passes m w f next = subst (Passes m w f) (sym (one_more settings before event)) (result_passes m f setting facts carried event (happens f event) refl) in
      let member = member_now m f setting facts w carried.reached carried.shown grain a u firm in
      let dies = death w f next a.silo facts next_facts next_setting carried.shown passes (ap is_some firm.there) gone member in
      let reached : IsReached m (acting.after m w New_view) = reached_after m w New_view carried.reached tt in
      let leads : LeadsTo m (acting.after m w New_view) last = leads_run settings are m now more named rest is (record { world = acting.after m w New_view; reached = reached; shown = dies.shown }) in
      let ends : IsReached m (acting.run m leads.actions (acting.after m w New_view)) = reached_run m (acting.after m w New_view) leads.actions reached leads.allowed in
      let both =
      above m w leads.actions leads.allowed (kept_of m w carried.reached) (kept_of m (acting.after m w New_view) reached)
      (kept_of m (acting.run m leads.actions (acting.after m w New_view)) ends) grain a b u v
      (firm_there m f setting facts w carried.reached carried.shown grain a u firm) dies.dies
      (firm_there m last is last_facts (acting.run m leads.actions (acting.after m w New_view)) ends leads.shown grain b v later) in
      subst (λ n. (u < n) × (n ≤ v)) dies.shown.now both

-- ---- parts of a list
pub first_ones : (H : Type 0) (P : H → Type 0) (xs ys : List H) → All P (xs ++ ys) → All P xs
first_ones H P [] ys all = All-nil P
first_ones H P (x ∷ xs) ys all = All-cons P x xs (All-head P x (xs ++ ys) all) (first_ones H P xs ys (All-tail P x (xs ++ ys) all))

pub last_ones : (H : Type 0) (P : H → Type 0) (xs ys : List H) → All P (xs ++ ys) → All P ys
last_ones H P [] ys all = all
last_ones H P (x ∷ xs) ys all = last_ones H P xs ys (All-tail P x (xs ++ ys) all)

pub never_fall : (settings : Settings) → AreSettings settings → NeverFall Event (All IsEvent) (world_by settings)
never_fall settings are before more grain a b u v named firm later =
    let same = after_append (first_world settings) before more in
    let last = world_by settings (before ++ more) in
    let whole = (facts_hold settings (before ++ more) are named).peopled.whole in
    falls settings are (setting_of last whole) before more (first_ones Event IsEvent before more named)
    (last_ones Event IsEvent before more named)
    (subst (IsSettingOf (setting_of last whole)) same (is_setting_of last whole)) grain a b u v firm
    (subst (λ f. IsFirm f grain b v) same later)

pub pass_deaths : (settings : Settings) → AreSettings settings → PassDeaths Event (All IsEvent) (world_by settings)
pass_deaths settings are before more event grain a b u v named firm gone later =
    let now = before ++ event ∷ [] in
    let same : world_by settings (before ++ event ∷ more) ≡ (run (world_by settings now) more).world = ap (world_by settings) (sym (append_assoc before (event ∷ []) more)) ∙ after_append (first_world settings) now more in
    let last = world_by settings (before ++ event ∷ more) in
    let whole = (facts_hold settings (before ++ event ∷ more) are named).peopled.whole in
    let rest = last_ones Event IsEvent before (event ∷ more) named in
    pass settings are (setting_of last whole) before more event (first_ones Event IsEvent before (event ∷ more) named)
    (All-head IsEvent event more rest) (All-tail IsEvent event more rest)
    (subst (IsSettingOf (setting_of last whole)) same (is_setting_of last whole)) grain a b u v firm gone
    (subst (λ f. IsFirm f grain b v) same later)

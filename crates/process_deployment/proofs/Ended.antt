-- The process of a silo that isn't Dead by the changes decided goes on.
use Rattle.std.proofs.Common.{arith, ◌≡◌, ℕ, suc, Bool, true, false, IsSome, List, [], ◌∷◌, Option, Some, None, Result, Ok, Err, length, refl, sym, ap, ◌∙◌, subst}
use Rattle.std.specs.Prelude.{cond, is_some, All}
use Rattle.std.specs.Option.{option_map}
use Rattle.std.specs.Map.{lookup}
use Rattle.std.specs.BTreeMap.{is_at}
use Rattle.std.proofs.lemmas.List.Elements.{All-nil}
use Rattle.silo_address.specs.Silo.{Silo, silo_cmp, silo_eq}
use Rattle.texts.specs.Words.{sentence}
use Rattle.membership_view.specs.View.{ViewValue, status_of}
use Rattle.membership_view.specs.Views.{status_at, view_at}
use Rattle.membership_view.specs.declared.status.Status.{Status}
use Rattle.membership_view.specs.declared.status.Status.TheVariants as status
use Rattle.membership_view.proofs.DeadViews.{view_dead_stays}
use Rattle.membership_view.proofs.Said.{views_say_statuses}
use Rattle.directory_rules.proofs.People.{live_said}
use Rattle.directory_rules.specs.declared.effect.Effect.{Effect}
use Rattle.directory_rules.specs.declared.outcome.Happening.TheVariants.{Saw, Did}
use Rattle.directory_rules.specs.declared.own_step.OwnStep.{OwnStep}
use Rattle.directory_rules.specs.Input.{Does}
use Rattle.directory_rules.specs.Laws.{is_live, ArePeopled}
use Rattle.directory_rules.specs.State.{Letter, World}
use Rattle.directory_rules.specs.Settings.{Settings, AreSettings}
use Rattle.directory_rules.specs.Step.{Stepped}
use Rattle.directory_rules.specs.Membership.{Change, Join, Leave, Die, Membership, changed}
use Rattle.silo_rules.specs.SiloValue.{SiloValue, first_silo, own_status}
use Rattle.silo_rules.specs.Steps.{does, sees, receives}
use Rattle.silo_rules.specs.Told.{Heard, told}
use Rattle.silo_rules.specs.Begun.{told_view}
use Rattle.directory_rules.proofs.Peopled.{peopled_after}
use Rattle.membership_view.specs.Whole.{IsViews}
use Rattle.script_rules.specs.Lines.{happening_words, refusal_line}
use Rattle.deployment_headline.specs.Deployment.{Deployment, process_of}
use Rattle.deployment_headline.specs.Limits.{with_room, process_with_room}
use Rattle.deployment_headline.specs.Steps as deployment
use Rattle.deployment_headline.proofs.Lists.{over, lookup-over}
use Rattle.deployment_headline.proofs.Runs.{made_so, processes_are_behind, processes_are_own, told_whole}
use Rattle.deployment_headline.proofs.Worlds.{its_node}
use Rattle.process_rules.specs.ReadLine.{Asked, Joined, Leaving, Dead, Begin, See, Do, Receive, Ping, Owner, Place, Figures, Show, Dump}
use Rattle.process_rules.specs.Happened.{news_words, received_words}
use Rattle.process_rules.specs.Answer.{Answered, printing, unless_dead, heard, told_so, begun, stepped, seen_so, done_so, received_so, is_anothers_join, answered, answered_as}
use Rattle.process_rules.specs.Output.{answered_to, said}
use Rattle.process_deployment.specs.Cluster.{Process, answer_to, having_read, reads, Cluster, first_cluster}
use Rattle.process_deployment.specs.Steps.{Step, Decide, Read, dying, without, decided, after, after_all}
use Rattle.process_deployment.specs.Theorems.{LivingGoOn}
use Rattle.process_deployment.proofs.Everyone.{its_own, reading_keeps, without_keeps, started_keeps}
use Rattle.process_deployment.proofs.Following.{WrittenReadAsThemselves, its_silo, follows_all, follows_first}
use Rattle.process_deployment.proofs.SayableLetters.{roomy}

-- a process ends only where its silo is Dead by what it was told
abbrev EndsDead : Bool → SiloValue → Type 0
EndsDead ends s = ends ≡ true → own_status s ≡ Some status.Dead

told_ends : (own : Option Status) (line : List ℕ) (s : SiloValue) → own ≡ own_status s
    → EndsDead (unless_dead own (printing (line ∷ []) s)).ends (unless_dead own (printing (line ∷ []) s)).silo
told_ends None line s is ends = absurd (cc ends)
told_ends (Some status.Active) line s is ends = absurd (cc ends)
told_ends (Some status.Leaving) line s is ends = absurd (cc ends)
told_ends (Some status.Dead) line s is ends = sym is

news_ends : (version : ℕ) (change : Change) (s : SiloValue) → EndsDead (told_so version change s).ends (told_so version change s).silo
news_ends version change s = by (told s.node.settings s.membership version change)
  where
    by : (o : Result Heard ℕ) → EndsDead (heard o version change s).ends (heard o version change s).silo
    by (Err number) ends = absurd (cc ends)
    by (Ok its) ends =
        let next = record s { membership = its.membership } in
        told_ends (own_status next) (sentence (news_words version change its.news)) next refl ends

steps_end : (happened : Effect → List (List ℕ)) (o : Result Stepped ℕ) (s : SiloValue) → (stepped happened o s).ends ≡ false
steps_end happened (Err number) s = refl
steps_end happened (Ok it) s = refl

goes_on : (ends : Bool) (s : SiloValue) → ends ≡ false → EndsDead ends s
goes_on ends s is so = absurd (cc (is, so))

done_ends : (step : OwnStep) (s : SiloValue) → EndsDead (done_so step s).ends (done_so step s).silo
done_ends step s =
    goes_on (done_so step s).ends (done_so step s).silo
    (steps_end (λ made. happening_words (Did s.node.host.silo made)) (does s (Does step)) s)

received_ends : (letter : Letter) (s : SiloValue) → (received_so letter s).ends ≡ false
received_ends letter s = by (silo_eq letter.to s.node.host.silo)
  where
    by : (own : Bool) → (cond own (stepped (received_words s.node.host s.node.view.version letter) (receives s letter) s)
        (printing [] s)).ends ≡ false
    by true = steps_end (received_words s.node.host s.node.view.version letter) (receives s letter) s
    by false = refl

answers_end : (asked : Asked) (s : SiloValue) → EndsDead (answered asked s).ends (answered asked s).silo
unfolding answered
answers_end (Joined version who token places) s = news_ends version (Join who places) s
answers_end (Leaving version who) s = news_ends version (Leave who) s
answers_end (Dead version who) s = news_ends version (Die who) s
answers_end (Begin version rows) s = by (told_view s.node.settings s.membership s.node.host.silo version rows)
  where
    by : (o : Result Membership ℕ) → EndsDead (begun o version s).ends (begun o version s).silo
    by (Err number) = goes_on false s refl
    by (Ok m) = goes_on false (record s { membership = m }) refl
answers_end (See version) s =
    goes_on (seen_so version s).ends (seen_so version s).silo
    (steps_end (λ made. happening_words (Saw s.node.host.silo version made)) (sees s version) s)
answers_end (Do step) s = done_ends step s
answers_end (Receive letter) s = goes_on (received_so letter s).ends (received_so letter s).silo (received_ends letter s)
answers_end (Ping word) s = goes_on false s refl
answers_end (Owner grain) s = goes_on false s refl
answers_end (Place grain policy) s = goes_on false s refl
answers_end Figures s = goes_on false s refl
answers_end Show s = goes_on false s refl
answers_end Dump s = goes_on false s refl

unless_anothers : (anothers : Bool) (lines : List (List ℕ)) (it : Answered) (s : SiloValue) → EndsDead it.ends it.silo
    → EndsDead (cond anothers (printing lines s) it).ends (cond anothers (printing lines s) it).silo
unless_anothers true lines it s its = goes_on false s refl
unless_anothers false lines it s its = its

lines_end : (token : Option (List ℕ)) (read : Result (Option Asked) ℕ) (s : SiloValue)
    → EndsDead (answered_to token read s).ends (answered_to token read s).silo
unfolding answered_as
lines_end token (Ok None) s = goes_on false s refl
lines_end token (Ok (Some asked)) s =
    unless_anothers (is_anothers_join token asked s.node.host.silo) (refusal_line 208 ∷ []) (answered asked s) s (answers_end asked s)
lines_end token (Err fault) s = goes_on false s refl

abbrev Q : Silo × Process → Type 0
Q e = EndsDead e.1.ended e.1.silo

reads_end : (silo : Silo) (line : List ℕ) (p : Process) → Q (silo, p) → Q (silo, reads line p)
reads_end silo line p its = by p.ended
  where
    by : (ended : Bool) → Q (silo, cond ended p (having_read line (answer_to line p) p))
    by true = its
    by false = lines_end p.token (said line p.silo) p.silo

-- ---- so it is after any steps
decided_end : (c : Cluster) (change : Change) (r : Result Membership ℕ) → All Q c.processes → All Q (decided r c change).processes
decided_end c change (Err number) all = all
decided_end c change (Ok m) all =
    started_keeps Q c.settings c.tokens change (without (dying c.membership change) c.processes)
    (λ silo. goes_on false (first_silo c.settings silo) refl) (without_keeps Q (dying c.membership change) c.processes all)

after_end : (c : Cluster) (step : Step) → All Q c.processes → All Q (after c step).processes
unfolding after
after_end c (Decide change) all = decided_end c change (changed c.settings c.membership change) all
after_end c (Read silo line) all = reading_keeps Q silo line c.processes (reads_end silo line) all

all_end : (c : Cluster) (steps : List Step) → All Q c.processes → All Q (after_all c steps).processes
unfolding after_all
all_end c [] all = all
all_end c (step ∷ steps) all = all_end (after c step) steps (after_end c step all)

-- ---- a deployment has no process of a silo that is Dead by what it was told
module _ (settings : Settings) (steps : List deployment.Step) (are : AreSettings settings) (named : All deployment.IsStep steps) where
  abbrev d : Deployment
  d = deployment.deployed settings steps

  abbrev most : ℕ
  most = suc (length steps)

  abbrev letters : ℕ
  letters = suc (length d.written)

  pub peopled : (silo : Silo) (s : SiloValue) → process_of d silo ≡ Some s
      → IsViews d.membership.views × (is_live (status_at d.membership.views d.membership.views.version silo) ≡ true)
  peopled silo s there =
      let all = made_so settings steps are named most letters (omega arith) (omega arith) in
      let its = subst (λ (w : World). ArePeopled w.views w.nodes) all.is (peopled_after (with_room most letters settings) all.events (roomy settings most letters are (omega arith) (omega arith))) in
      let test = is_at (silo_cmp silo) in
      let found : lookup test (over its_node (over (process_with_room most letters) d.processes)) ≡ Some (process_with_room most letters s).node =
      lookup-over its_node test (over (process_with_room most letters) d.processes)
      ∙ ap (option_map its_node) (lookup-over (process_with_room most letters) test d.processes
      ∙ ap (option_map (process_with_room most letters)) there) in
      (its.whole, sym (its.live silo) ∙ ap is_some found)

  alive : (silo : Silo) (s : SiloValue) → process_of d silo ≡ Some s → own_status s ≡ Some status.Dead → ⊥
  alive silo s there dead =
      let its = peopled silo s there in
      let behind = processes_are_behind settings steps are named silo s there in
      let own = (processes_are_own settings steps are named silo s there).address in
      let version = s.membership.views.version in
      let whole = told_whole settings steps are named silo s there in
      let was : status_at s.membership.views version silo ≡ Some status.Dead = ap (status_at s.membership.views version) (sym own) ∙ dead in
      let said : status_of (view_at s.membership.views version) silo ≡ Some status.Dead =
      views_say_statuses s.membership.views whole silo version (omega arith) (subst (λ (o : Option Status). IsSome o) (sym was) refl)
      ∙ was in
      let then_dead : status_of (view_at d.membership.views version) silo ≡ Some status.Dead =
      ap (λ (view : ViewValue). status_of view silo) (sym (behind.views version behind.first (omega arith))) ∙ said in
      let upto = behind.version in
      let still = view_dead_stays d.membership.views its.0 silo version d.membership.views.version upto (omega arith) then_dead in
      let live = live_said d.membership.views its.0 d.membership.views.version (omega arith) silo ∙ its.1 in
      cc (ap is_live still, live)

pub living_go_on : WrittenReadAsThemselves → LivingGoOn
living_go_on themselves settings tokens steps are may silo p there = by p.ended refl
  where
    by : (ended : Bool) → p.ended ≡ ended → p.ended ≡ false
    by false is = is
    by true is =
        let c = after_all (first_cluster settings tokens) steps in
        let f = follows_all themselves (first_cluster settings tokens) (follows_first themselves settings tokens are) steps may in
        let dead = its_own Q silo p c.processes (all_end (first_cluster settings tokens) steps (All-nil Q)) there is in
        let found : process_of (deployment.deployed c.settings f.steps) silo ≡ Some p.silo =
        ap (λ d. process_of d silo) f.same ∙ lookup-over its_silo (is_at (silo_cmp silo)) c.processes ∙ ap (option_map its_silo) there in
        absurd (alive c.settings f.steps f.are f.named silo p.silo found dead)

-- The tokens of a cluster are those of the deployment that it follows.
use Rattle.std.proofs.Common.{arith, ◌≡◌, ℕ, ◌<◌, ◌≤◌, true, false, List, [], ◌∷◌, ◌++◌, length, Option, Some, None, Result, Ok, Err, refl, sym, ap, ◌∙◌, subst, append_assoc, append-nil}
use Rattle.std.specs.Prelude.{cond, All}
use Rattle.std.specs.Option.{option_map}
use Rattle.std.specs.BTreeMap.{is_at}
use Rattle.silo_address.specs.Silo.{Silo, IsSilo, silo_cmp}
use Rattle.silo_address.specs.Grain.{Grain}
use Rattle.silo_address.specs.declared.ActivationId.{ActivationId}
use Rattle.silo_address.proofs.Order.{silo_cmp_total, silo_cmp_exact}
use Rattle.membership_view.specs.Views.{view_at}
use Rattle.directory_rules.specs.Members.{is_dead_in}
use Rattle.directory_rules.specs.Settings.{Settings, AreSettings}
use Rattle.directory_rules.specs.State.{World, Node}
use Rattle.directory_rules.specs.Happens.{node_of}
use Rattle.directory_rules.specs.PlainMachine.{life_on, IsPlainStep, plain_of}
use Rattle.directory_facts.proofs.Lookups.{found_put}
use Rattle.silo_rules.specs.SiloValue.{SiloValue}
use Rattle.deployment_headline.proofs.Lists.{over, lookup-over}
use Rattle.directory_rules.specs.Membership.{Change, Membership, changed}
use Rattle.deployment_headline.specs.Steps as deployment
use Rattle.deployment_headline.specs.Theorems as deployment_theorems
use Rattle.deployment_headline.specs.Tokens.{IsFirm, BecomesFirm, NeverFall, PassDeaths}
use Rattle.deployment_headline.proofs.TokensFence.{steps_move, tokens_of_processes_fence}
use Rattle.deployment_headline.proofs.TokensRise.{Moves, rise}
use Rattle.process_deployment.specs.Allowed.{May, MayAll}
use Rattle.process_deployment.specs.Cluster.{JoinTokens, Process, answer_to, having_read, reads, Cluster, first_cluster, process_at}
use Rattle.process_deployment.specs.Steps.{Step, Decide, Read, decided, read_by, after, after_all, clustered}
use Rattle.process_deployment.specs.Theorems.{world_of}
use Rattle.process_deployment.specs.FencingTokens.{TokensOfLinesFence, TellsToken, TokensToldRise}
use Rattle.process_deployment.proofs.Following.{Follows, FollowsOn, WrittenReadAsThemselves, follows_on, follows_so, follows_all, follows_first, its_silo}
use Rattle.process_deployment.proofs.Plain.{lines_are_plain}
use Rattle.process_deployment.proofs.Ended.{living_go_on}
use Rattle.process_deployment.proofs.Firm.{lines_tell_firm}

-- ---- steps, one after the other
after_append : (c : Cluster) (xs ys : List Step) → after_all c (xs ++ ys) ≡ after_all (after_all c xs) ys
unfolding after_all
after_append c [] ys = refl
after_append c (step ∷ xs) ys = after_append (after c step) xs ys

after_one : (c : Cluster) (step : Step) (rest : List Step) → after_all c (step ∷ rest) ≡ after_all (after c step) rest
unfolding after_all
after_one c step rest = refl

after_none : (c : Cluster) → after_all c [] ≡ c
unfolding after_all
after_none c = refl

may_parts : (c : Cluster) (xs ys : List Step) → MayAll c (xs ++ ys) → MayAll c xs × MayAll (after_all c xs) ys
unfolding after_all MayAll
may_parts c [] ys may = (tt, may)
may_parts c (step ∷ xs) ys may = let parts = may_parts (after c step) xs ys may.1 in ((may.0, parts.0), parts.1)

may_one : (c : Cluster) (step : Step) (rest : List Step) → MayAll c (step ∷ rest) → May c step × MayAll (after c step) rest
unfolding MayAll
may_one c step rest may = (may.0, may.1)

decided_settings : (c : Cluster) (change : Change) (r : Result Membership ℕ) → (decided r c change).settings ≡ c.settings
decided_settings c change (Err number) = refl
decided_settings c change (Ok m) = refl

after_settings : (c : Cluster) (step : Step) → (after c step).settings ≡ c.settings
unfolding after
after_settings c (Decide change) = decided_settings c change (changed c.settings c.membership change)
after_settings c (Read silo line) = refl

settings_stay : (c : Cluster) (steps : List Step) → (after_all c steps).settings ≡ c.settings
unfolding after_all
settings_stay c [] = refl
settings_stay c (step ∷ steps) = settings_stay (after c step) steps ∙ after_settings c step

module _ (themselves : WrittenReadAsThemselves) (settings : Settings) (tokens : JoinTokens) (are : AreSettings settings) where
  abbrev C : List Step → Cluster
  C steps = clustered settings tokens steps

  abbrev MayCome : List Step → Type 0
  MayCome steps = MayAll (first_cluster settings tokens) steps

  -- the world of a deployment's steps
  abbrev W : List deployment.Step → World
  W steps = deployment_theorems.world_of (deployment.deployed settings steps)

  follows : (steps : List Step) → MayCome steps → Follows (C steps)
  follows steps may = follows_all themselves (first_cluster settings tokens) (follows_first themselves settings tokens are) steps may

  its_world : (c : Cluster) → c.settings ≡ settings → (f : Follows c) → W f.steps ≡ world_of c
  its_world c same f =
      ap (λ (s : Settings). deployment_theorems.world_of (deployment.deployed s f.steps)) (sym same)
      ∙ ap (λ d. deployment_theorems.world_of d) f.same

  -- the world of the steps that a cluster goes on by
  on_world : (c next : Cluster) (f : Follows c) (most : ℕ) (g : FollowsOn c f most next) → next.settings ≡ settings
      → W (f.steps ++ g.more) ≡ world_of next
  on_world c next f most g same = ap W (sym g.is) ∙ its_world next same g.follows

  never_fall : NeverFall Step MayCome (λ steps. world_of (C steps))
  never_fall before more grain a b u v may firm later =
      let parts = may_parts (first_cluster settings tokens) before more may in
      let f = follows before parts.0 in
      let g = follows_so themselves (C before) f more parts.1 in
      let same : after_all (C before) more ≡ C (before ++ more) = sym (after_append (first_cluster settings tokens) before more) in
      let stay : (after_all (C before) more).settings ≡ settings = settings_stay (C before) more ∙ settings_stay (first_cluster settings tokens) before in
      let x : W f.steps ≡ world_of (C before) = its_world (C before) (settings_stay (first_cluster settings tokens) before) f in
      let y : W (f.steps ++ g.more) ≡ world_of (C (before ++ more)) = on_world (C before) (after_all (C before) more) f (length more) g stay ∙ ap (λ c. world_of c) same in
      (tokens_of_processes_fence settings are).never_fall f.steps g.more grain a b u v (subst (All deployment.IsStep) g.is g.follows.named)
      (subst (λ w. IsFirm w grain a u) (sym x) firm)
      (subst (λ w. IsFirm w grain b v) (sym y) later)

  -- by the steps of the deployment that the death is: one, or none
  by_steps :
      (before now last : World) (steps more ones : List deployment.Step) → W steps ≡ before → W (steps ++ ones) ≡ now
      → W ((steps ++ ones) ++ more) ≡ last → All deployment.IsStep ((steps ++ ones) ++ more) → length ones ≤ 1
      → (grain : Grain) (a b : ActivationId) (u v : ℕ) → IsFirm before grain a u → node_of now a.silo ≡ None → IsFirm last grain b v
      → (u < now.views.version) × (now.views.version ≤ v)
  by_steps before now last steps more [] x y z named few grain a b u v firm gone later =
      let same : before ≡ now = sym x ∙ ap W (sym (append-nil steps)) ∙ y in
      let there : node_of now a.silo ≡ Some firm.node = subst (λ w. node_of w a.silo ≡ Some firm.node) same firm.there in
      absurd (cc (there, gone))
  by_steps before now last steps more (one ∷ []) x y z named few grain a b u v firm gone later =
      let whole : (steps ++ one ∷ []) ++ more ≡ steps ++ one ∷ more = append_assoc steps (one ∷ []) more in
      let both =
      (tokens_of_processes_fence settings are).pass_deaths steps more one grain a b u v (subst (All deployment.IsStep) whole named)
      (subst (λ w. IsFirm w grain a u) (sym x) firm)
      (subst (λ w. node_of w a.silo ≡ None) (sym y) gone)
      (subst (λ w. IsFirm w grain b v) (sym z ∙ ap W whole) later) in
      subst (λ (w : World). (u < w.views.version) × (w.views.version ≤ v)) y both
  by_steps before now last steps more (one ∷ two ∷ rest) x y z named few grain a b u v firm gone later = absurd (omega (few, arith))

  pass_deaths : PassDeaths Step MayCome (λ steps. world_of (C steps))
  pass_deaths before more death grain a b u v may firm gone later =
      let parts = may_parts (first_cluster settings tokens) before (death ∷ more) may in
      let its = may_one (C before) death more parts.1 in
      let f = follows before parts.0 in
      let next = after (C before) death in
      let one = follows_on themselves (C before) f death its.0 in
      let g = follows_so themselves next one.follows more its.1 in
      let stay : next.settings ≡ settings = after_settings (C before) death ∙ settings_stay (first_cluster settings tokens) before in
      let now : next ≡ C (before ++ death ∷ []) = sym (after_append (first_cluster settings tokens) before (death ∷ []) ∙ after_one (C before) death [] ∙ after_none next) in
      let end : after_all next more ≡ C (before ++ death ∷ more) = sym (after_append (first_cluster settings tokens) before (death ∷ more) ∙ after_one (C before) death more) in
      let x : W f.steps ≡ world_of (C before) = its_world (C before) (settings_stay (first_cluster settings tokens) before) f in
      let y : W (f.steps ++ one.more) ≡ world_of (C (before ++ death ∷ [])) = on_world (C before) next f 1 one stay ∙ ap (λ c. world_of c) now in
      let whole : g.follows.steps ≡ (f.steps ++ one.more) ++ g.more = g.is ∙ ap (λ l. l ++ g.more) one.is in
      let z : W ((f.steps ++ one.more) ++ g.more) ≡ world_of (C (before ++ death ∷ more)) = ap W (sym whole) ∙ its_world (after_all next more) (settings_stay next more ∙ stay) g.follows ∙ ap (λ c. world_of c) end in
      by_steps (world_of (C before)) (world_of (C (before ++ death ∷ []))) (world_of (C (before ++ death ∷ more))) f.steps g.more one.more x
      y z (subst (All deployment.IsStep) whole g.follows.named) one.few grain a b u v firm gone later

  moves : Moves Step MayCome (λ steps. world_of (C steps))
  moves = record {
    begins = λ before more may. (may_parts (first_cluster settings tokens) before more may).0;
    plain = λ before step may.
        let parts = may_parts (first_cluster settings tokens) before (step ∷ []) may in
        let its = lines_are_plain themselves settings tokens before are parts.0 step (may_one (C before) step [] parts.1).0 in
        let now : after (C before) step ≡ C (before ++ step ∷ []) = sym (after_append (first_cluster settings tokens) before (step ∷ []) ∙ after_one (C before) step [] ∙ after_none (after (C before) step)) in
        (its.0, subst (λ c. IsPlainStep (plain_of (world_of (C before))) its.0 (plain_of (world_of c))) now its.1);
    gone = λ before silo may.
        let f = follows before may in
        subst (λ (w : World). is_dead_in (view_at w.views w.views.version) silo ≡ true → node_of w silo ≡ None)
        (its_world (C before) (settings_stay (first_cluster settings tokens) before) f)
        ((steps_move settings are).gone f.steps silo f.named);
  }

-- ---- what is told
reader_is_silo : (c : Cluster) (silo : Silo) (line : List ℕ) → May c (Read silo line) → IsSilo silo
unfolding May
reader_is_silo c silo line may = may.0

-- the node of a silo's process
its_node : (c : Cluster) (silo : Silo) (p : Process) → process_at silo c.processes ≡ Some p → node_of (world_of c) silo ≡ Some p.silo.node
its_node c silo p there =
    lookup-over (λ (v : SiloValue). v.node) (is_at (silo_cmp silo)) (over its_silo c.processes)
    ∙ ap (option_map (λ (v : SiloValue). v.node)) (lookup-over its_silo (is_at (silo_cmp silo)) c.processes
    ∙ ap (option_map its_silo) there)

-- a process that goes on, after one line
read_there : (c : Cluster) (silo : Silo) (line : List ℕ) (p : Process) → process_at silo c.processes ≡ Some p → p.ended ≡ false
    → process_at silo (after c (Read silo line)).processes ≡ Some (having_read line (answer_to line p) p)
unfolding after
read_there c silo line p there lives =
    ap (λ o. process_at silo (read_by o silo line c.processes)) there
    ∙ found_put silo_cmp silo_cmp_total silo_cmp_exact silo (reads line p) c.processes
    ∙ ap (λ b. Some (cond b p (having_read line (answer_to line p) p))) lives

-- what is told becomes firm, with that token
becomes_so :
    WrittenReadAsThemselves → (settings : Settings) (tokens : JoinTokens) → AreSettings settings → (before : List Step) (one : Step)
    → MayAll (first_cluster settings tokens) (before ++ one ∷ [])
    → (grain : Grain) (a : ActivationId) (u : ℕ) → TellsToken (clustered settings tokens before) one grain a u
    → BecomesFirm Step (λ steps. world_of (clustered settings tokens steps)) before one grain a u
becomes_so themselves settings tokens are before one may grain a u tells =
    let c = clustered settings tokens before in
    let p = tells.process in
    let parts = may_parts (first_cluster settings tokens) before (one ∷ []) may in
    let its = (may_one c one [] parts.1).0 in
    let is_silo = reader_is_silo c a.silo tells.line (subst (May c) tells.is its) in
    let lives = living_go_on themselves settings tokens before are parts.0 a.silo p tells.there in
    let firm = lines_tell_firm themselves settings tokens before are parts.0 a.silo p tells.line is_silo tells.there in
    let now : after c (Read a.silo tells.line) ≡ clustered settings tokens (before ++ one ∷ []) =
    ap (after c) (sym tells.is) ∙ sym (after_append (first_cluster settings tokens) before (one ∷ []) ∙ after_one c one []
    ∙ after_none (after c one)) in
    let there : node_of (world_of (after c (Read a.silo tells.line))) a.silo ≡ Some (answer_to tells.line p).silo.node =
    its_node (after c (Read a.silo tells.line)) a.silo (having_read tells.line (answer_to tells.line p) p)
    (read_there c a.silo tells.line p tells.there lives) in
    record {
      not_before = λ seen was.
          let same : was.node ≡ p.silo.node = some_same was.node p.silo.node (sym was.there ∙ its_node c a.silo p tells.there) in
          tells.becomes.0 (ap (life_on grain) (sym same) ∙ was.held);
      firm = subst (λ c. IsFirm (world_of c) grain a u) now (record {
        node = (answer_to tells.line p).silo.node;
        there = there;
        held = tells.becomes.1;
        version = firm.seen grain a.count tells.becomes ∙ tells.seen;
      });
    }
  where
    some_same : (x y : Node) → ◌≡◌ {A = Option Node} (Some x) (Some y) → x ≡ y
    some_same x y is = cc is

pub tokens_of_lines_fence : WrittenReadAsThemselves → TokensOfLinesFence
tokens_of_lines_fence themselves settings tokens are =
    let fall = never_fall themselves settings tokens are in
    let pass = pass_deaths themselves settings tokens are in
    record {
      never_fall = fall;
      pass_deaths = pass;
      rise = rise Step (MayAll (first_cluster settings tokens))
          (λ steps. world_of (clustered settings tokens steps)) (moves themselves settings tokens are) fall pass;
    }

pub tokens_told_rise : WrittenReadAsThemselves → TokensToldRise
tokens_told_rise themselves settings tokens before between one later grain a b u v are may x y =
    let first = first_cluster settings tokens in
    let until : MayAll first (before ++ one ∷ between) = (may_parts first (before ++ one ∷ between) (later ∷ []) may).0 in
    let begun : MayAll first (before ++ one ∷ []) = (may_parts first (before ++ one ∷ []) between (subst (MayAll first) (sym (append_assoc before (one ∷ []) between)) until)).0 in
    (tokens_of_lines_fence themselves settings tokens are).rise before between one later grain a b u v may
    (becomes_so themselves settings tokens are before one begun grain a u x)
    (becomes_so themselves settings tokens are (before ++ one ∷ between) later may grain b v y)

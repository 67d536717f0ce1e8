-- The deployment that a cluster follows, step by step.
use Rattle.std.proofs.Common.{arith, ◌≡◌, ℕ, suc, ◌+◌, ◌≤◌, length, length-append, append_assoc, append-nil, Bool, true, false, List, [], ◌∷◌, ◌++◌, Option, Some, None, Result, Ok, Err, refl, sym, ap, ◌∙◌, subst}
use Rattle.std.specs.Prelude.{cond, All, Contains, IfSome}
use Rattle.std.specs.Option.{option_map}
use Rattle.std.specs.BTreeMap.{is_at, insert_entry}
use Rattle.std.specs.List.Sorted.{IsStrictlySortedBy}
use Rattle.std.proofs.lemmas.List.Elements.{All-nil, All-cons, All-append, All-weaker, Contains-append_left, Contains-append_right}
use Rattle.silo_address.specs.Silo.{Silo, IsSilo, silo_cmp}
use Rattle.silo_address.proofs.Order.{silo_cmp_total}
use Rattle.membership_view.specs.Changes.{occupant}
use Rattle.hash_ring.specs.declared.hashing.Hashing.{Hashing}
use Rattle.directory_rules.specs.Headline.{Headline}
use Rattle.directory_rules.specs.State.{Letter}
use Rattle.directory_rules.specs.Settings.{Settings, AreSettings}
use Rattle.directory_rules.specs.Settled.{IsFirmOn}
use Rattle.directory_rules.specs.Membership.{Change, Join, Leave, Die, Membership, changed}
use Rattle.silo_rules.specs.SiloValue.{SiloValue, first_silo}
use Rattle.silo_rules.proofs.Whole.{first_are}
use Rattle.deployment_headline.specs.Deployment.{Deployment, first_deployment}
use Rattle.deployment_headline.specs.Steps as deployment
use Rattle.deployment_headline.specs.Theorems as deployment_theorems
use Rattle.deployment_headline.proofs.Lists.{over, lookup-over, insert-over, remove-over}
use Rattle.deployment_headline.proofs.Runs.{processes_keep_the_headline}
use Rattle.deployment_headline.proofs.Sound.{Sound, sound_first, keeps}
use Rattle.process_rules.specs.Answer.{Answered}
use Rattle.process_rules.specs.Output.{said}
use Rattle.process_deployment.specs.Allowed.{IsWritten, MayAsk, MayAskDead, IfAsks, May, MayAll}
use Rattle.process_deployment.specs.Cluster.{JoinTokens, Process, started, answer_to, having_read, reads, Cluster, first_cluster, process_at, everyone}
use Rattle.process_deployment.specs.Steps.{Step, Decide, Read, dying, without, with_started, decided, read_by, reading, after, after_all}
use Rattle.process_deployment.specs.Theorems.{deployment_of, world_of, IsFirmAt, ClustersAreDeployments, LinesKeepTheHeadline, LinesKeepOneFirm}
use Rattle.process_deployment.proofs.Answers.{SaysOnly, ReadsAsItself, silent_says}
use Rattle.process_deployment.proofs.Everyone.{its_own, put_keeps, without_keeps, dying_keeps, started_keeps}
use Rattle.process_deployment.proofs.Lists.{put_again, keys_over, all_behind, all_flat}
use Rattle.process_deployment.proofs.Departed.{dead_lines}
use Rattle.process_deployment.proofs.Moving.{Moved, line_moves}

abbrev pub its_silo : Process → SiloValue
its_silo p = p.silo

-- ---- the steps of deployments
after_more : (d : Deployment) (xs ys : List deployment.Step)
    → deployment.after_all d (xs ++ ys) ≡ deployment.after_all (deployment.after_all d xs) ys
unfolding deployment.after_all
after_more d [] ys = refl
after_more d (step ∷ xs) ys = after_more (deployment.after d step) xs ys

sound_after : (d : Deployment) → Sound d → (steps : List deployment.Step) → Sound (deployment.after_all d steps)
unfolding deployment.after_all
sound_after d sound [] = sound
sound_after d sound (step ∷ steps) = sound_after (deployment.after d step) (keeps d sound step).sound steps

-- ---- what the cluster's processes wrote
abbrev pub Says : Hashing → List Letter → Silo × Process → Type 0
Says hashing letters e = All (SaysOnly hashing letters) e.1.wrote

more_says : (hashing : Hashing) (letters more : List Letter) (lines : List (List ℕ)) → All (SaysOnly hashing letters) lines
    → All (SaysOnly hashing (letters ++ more)) lines
more_says hashing letters more lines says =
    All-weaker (SaysOnly hashing letters) (SaysOnly hashing (letters ++ more))
    (λ line its letter given. Contains-append_left letters more letter (its letter given)) lines says

new_says : (hashing : Hashing) (letters more : List Letter) (lines : List (List ℕ)) → All (SaysOnly hashing more) lines
    → All (SaysOnly hashing (letters ++ more)) lines
new_says hashing letters more lines says =
    All-weaker (SaysOnly hashing more) (SaysOnly hashing (letters ++ more))
    (λ line its letter given. Contains-append_right letters more letter (its letter given)) lines says

each_says : (hashing : Hashing) (letters more : List Letter) (processes : List (Silo × Process)) → All (Says hashing letters) processes
    → All (Says hashing (letters ++ more)) processes
each_says hashing letters more processes says =
    All-weaker (Says hashing letters) (Says hashing (letters ++ more)) (λ e its. more_says hashing letters more e.1.wrote its) processes
    says

-- ---- the deployment that a cluster follows
pub record Follows (c : Cluster) : Type 0 where
  pub are : AreSettings c.settings
  pub steps : List deployment.Step
  pub named : All deployment.IsStep steps
  pub letters : List Letter
  pub same : deployment.deployed c.settings steps ≡ deployment_of c letters
  pub live : All (Says c.settings.hashing letters) c.processes
  pub dead : All (Says c.settings.hashing letters) c.dead

-- and the one that a later cluster follows: it goes on from there by so many steps at most
pub record FollowsOn (c : Cluster) (f : Follows c) (most : ℕ) (next : Cluster) : Type 0 where
  pub follows : Follows next
  pub more : List deployment.Step
  pub is : follows.steps ≡ f.steps ++ more
  pub few : length more ≤ most

stays : (c : Cluster) (f : Follows c) (most : ℕ) → FollowsOn c f most c
stays c f most = record { follows = f; more = []; is = sym (append-nil f.steps); few = omega arith }

pub its_letters : (c : Cluster) (f : Follows c) (letter : Letter) → IsWritten c letter → Contains f.letters letter
its_letters c f letter is =
    let says = all_flat (SaysOnly c.settings.hashing f.letters) (λ (e : Silo × Process). e.1.wrote) (everyone c) (All-append (Says c.settings.hashing f.letters) c.processes c.dead f.live f.dead) in
    subst (SaysOnly c.settings.hashing f.letters) is.wrote.2 (says is.wrote.0 is.line is.wrote.1) letter is.says

pub its_sound : (c : Cluster) (f : Follows c) → Sound (deployment_of c f.letters)
its_sound c f =
    subst Sound f.same (sound_after (first_deployment c.settings) (sound_first c.settings (first_are c.settings f.are)) f.steps)

-- a line that a process of the cluster reads
pub its_move : (c : Cluster) (f : Follows c) (silo : Silo) (line : List ℕ) (p : Process) → IsSilo silo
    → process_at silo c.processes ≡ Some p → IfAsks (said line p.silo) (MayAsk c p)
    → Moved (deployment_of c f.letters) silo (answer_to line p)
its_move c f silo line p is_silo there may =
    line_moves c f.letters (its_letters c f) silo p (lookup-over its_silo (is_at (silo_cmp silo)) c.processes
    ∙ ap (option_map its_silo) there) (its_sound c f) is_silo line (said line p.silo) refl may

-- the cluster in which it goes on so
abbrev pub with_next : Cluster → Silo → Process → Cluster
with_next c silo next = record c { processes = insert_entry silo_cmp c.processes silo next }

pub moved_to : (c : Cluster) (letters : List Letter) (silo : Silo) (next : Process) (it : Answered) → it.silo ≡ next.silo
    → (m : Moved (deployment_of c letters) silo it)
    → deployment.after_all (deployment_of c letters) m.steps ≡ deployment_of (with_next c silo next) (letters ++ m.letters)
moved_to c letters silo next it same m =
    m.is
    ∙ ap (λ s. record (deployment_of c (letters ++ m.letters)) { processes = insert_entry silo_cmp (over its_silo c.processes) silo s })
    same
    ∙ ap (λ l. record (deployment_of c (letters ++ m.letters)) { processes = l }) (insert-over its_silo silo_cmp c.processes silo next)

-- ---- what is decided
without_over : (old : Option Silo) (processes : List (Silo × Process))
    → deployment.without old (over its_silo processes) ≡ over its_silo (without old processes)
without_over None processes = refl
without_over (Some silo) processes = remove-over its_silo (is_at (silo_cmp silo)) processes

processes_over : (c : Cluster) (letters : List Letter) (change : Change)
    → deployment.processes_after (deployment_of c letters) change ≡ over its_silo
    (with_started c.settings c.tokens change (without (dying c.membership change) c.processes))
processes_over c letters (Join silo stated) =
    let old = occupant silo c.membership.views.rows in
    ap (λ l. insert_entry silo_cmp l silo (first_silo c.settings silo)) (without_over old c.processes)
    ∙ insert-over its_silo silo_cmp (without old c.processes) silo (started c.settings c.tokens silo)
processes_over c letters (Leave silo) = refl
processes_over c letters (Die silo) = without_over (Some silo) c.processes

pub decided_to : (c : Cluster) (letters : List Letter) (change : Change) (r : Result Membership ℕ)
    → changed c.settings c.membership change ≡ r
    → deployment.after (deployment_of c letters) (deployment.Decide change) ≡ deployment_of (decided r c change) letters
unfolding deployment.after
decided_to c letters change (Err number) is = ap (λ r. deployment.decided r (deployment_of c letters) change) is
decided_to c letters change (Ok m) is =
    ap (λ r. deployment.decided r (deployment_of c letters) change) is
    ∙ ap (λ l. record (deployment.decided (Ok m) (deployment_of c letters) change) { processes = l }) (processes_over c letters change)

-- that each letter's line is read as that letter, or not at all
abbrev pub WrittenReadAsThemselves : Type 0
WrittenReadAsThemselves =
    (settings : Settings) (steps : List deployment.Step) → AreSettings settings → All deployment.IsStep steps
    → All (ReadsAsItself settings.hashing) (deployment.deployed settings steps).written

module _ (themselves : WrittenReadAsThemselves) where
  live_reads : (c : Cluster) (f : Follows c) (silo : Silo) (line : List ℕ) → IsSilo silo
      → IfSome (process_at silo c.processes) (λ p. IfAsks (said line p.silo) (MayAsk c p))
      → FollowsOn c f 1 (record c { processes = reading silo line c.processes })
  live_reads c f silo line is_silo = by (process_at silo c.processes) refl
    where
      goes : (p : Process) → process_at silo c.processes ≡ Some p → IfAsks (said line p.silo) (MayAsk c p)
          → FollowsOn c f 1 (with_next c silo (having_read line (answer_to line p) p))
      goes p there may =
          let hashing = c.settings.hashing in
          let it = answer_to line p in
          let next = having_read line it p in
          let m = its_move c f silo line p is_silo there may in
          let named = All-append deployment.IsStep f.steps m.steps f.named m.named in
          let same_so : deployment.deployed c.settings (f.steps ++ m.steps) ≡ deployment_of (with_next c silo next) (f.letters ++ m.letters) =
          after_more (first_deployment c.settings) f.steps m.steps ∙ ap (λ d. deployment.after_all d m.steps) f.same
          ∙ moved_to c f.letters silo next it refl m in
          let read_so : All (ReadsAsItself hashing) m.letters =
          all_behind (ReadsAsItself hashing) f.letters m.letters
          (subst (λ (d : Deployment). All (ReadsAsItself hashing) d.written) same_so
          (themselves c.settings (f.steps ++ m.steps) f.are named)) in
          record {
            follows = record {
              are = f.are;
              steps = f.steps ++ m.steps;
              named = named;
              letters = f.letters ++ m.letters;
              same = same_so;
              live =
                  put_keeps (Says hashing (f.letters ++ m.letters)) silo next c.processes
                  (each_says hashing f.letters m.letters c.processes f.live)
                  (All-append (SaysOnly hashing (f.letters ++ m.letters)) p.wrote it.lines
                  (more_says hashing f.letters m.letters p.wrote (its_own (Says hashing f.letters) silo p c.processes f.live there))
                  (new_says hashing f.letters m.letters it.lines (m.says hashing read_so)));
              dead = each_says hashing f.letters m.letters c.dead f.dead;
            };
            more = m.steps;
            is = refl;
            few = m.few;
          }

      by_end : (p : Process) (ended : Bool) → process_at silo c.processes ≡ Some p → IfAsks (said line p.silo) (MayAsk c p)
          → FollowsOn c f 1 (record c {
            processes = insert_entry silo_cmp c.processes silo
                (cond ended p (having_read line (answer_to line p) p));
          })
      by_end p true there may =
          subst (λ l. FollowsOn c f 1 (record c { processes = l }))
          (sym (put_again silo_cmp silo_cmp_total silo p c.processes
          (subst (IsStrictlySortedBy silo_cmp) (keys_over its_silo c.processes) (its_sound c f).sorted) there)) (stays c f 1)
      by_end p false there may = goes p there may

      by : (o : Option Process) → process_at silo c.processes ≡ o → IfSome o (λ p. IfAsks (said line p.silo) (MayAsk c p))
          → FollowsOn c f 1 (record c { processes = read_by o silo line c.processes })
      by None there may = stays c f 1
      by (Some p) there may = by_end p p.ended there may

  dead_reads : (c : Cluster) (f : Follows c) (silo : Silo) (line : List ℕ)
      → IfSome (process_at silo c.dead) (λ p. IfAsks (said line p.silo) (MayAskDead p.silo))
      → FollowsOn c f 0 (record c { dead = reading silo line c.dead })
  dead_reads c f silo line = by (process_at silo c.dead) refl
    where
      wrote_so : (p : Process) (ended : Bool) → process_at silo c.dead ≡ Some p → IfAsks (said line p.silo) (MayAskDead p.silo)
          → Says c.settings.hashing f.letters (silo, cond ended p (having_read line (answer_to line p) p))
      wrote_so p true there may = its_own (Says c.settings.hashing f.letters) silo p c.dead f.dead there
      wrote_so p false there may =
          let lines = (answer_to line p).lines in
          All-append (SaysOnly c.settings.hashing f.letters) p.wrote lines
          (its_own (Says c.settings.hashing f.letters) silo p c.dead f.dead there)
          (silent_says c.settings.hashing f.letters lines (dead_lines c.settings.hashing p.token (said line p.silo) p.silo may))

      by : (o : Option Process) → process_at silo c.dead ≡ o → IfSome o (λ p. IfAsks (said line p.silo) (MayAskDead p.silo))
          → FollowsOn c f 0 (record c { dead = read_by o silo line c.dead })
      by None there may = stays c f 0
      by (Some p) there may = record {
        follows = record {
          are = f.are;
          steps = f.steps;
          named = f.named;
          letters = f.letters;
          same = f.same;
          live = f.live;
          dead = put_keeps (Says c.settings.hashing f.letters) silo (reads line p) c.dead f.dead (wrote_so p p.ended there may);
        };
        more = [];
        is = sym (append-nil f.steps);
        few = omega arith;
      }

  decides : (c : Cluster) (f : Follows c) (change : Change) → deployment.IsChange change → (r : Result Membership ℕ)
      → changed c.settings c.membership change ≡ r → FollowsOn c f 1 (decided r c change)
  unfolding deployment.after deployment.after_all
  decides c f change named (Err number) is = stays c f 1
  decides c f change named (Ok m) is =
      let hashing = c.settings.hashing in
      let old = dying c.membership change in
      record {
        follows = record {
          are = f.are;
          steps = f.steps ++ deployment.Decide change ∷ [];
          named =
              All-append deployment.IsStep f.steps (deployment.Decide change ∷ []) f.named
              (All-cons deployment.IsStep (deployment.Decide change) [] named (All-nil deployment.IsStep));
          letters = f.letters;
          same = after_more (first_deployment c.settings) f.steps (deployment.Decide change ∷ [])
              ∙ ap (λ d. deployment.after d (deployment.Decide change)) f.same
              ∙ decided_to c f.letters change (Ok m) is;
          live =
              started_keeps (Says hashing f.letters) c.settings c.tokens change (without old c.processes)
              (λ silo. All-nil (SaysOnly hashing f.letters)) (without_keeps (Says hashing f.letters) old c.processes f.live);
          dead = dying_keeps (Says hashing f.letters) old c.processes c.dead f.live f.dead;
        };
        more = deployment.Decide change ∷ [];
        is = refl;
        few = omega arith;
      }

  -- one after the other
  go_on : (c middle next : Cluster) (f : Follows c) (some others : ℕ) → (x : FollowsOn c f some middle)
      → FollowsOn middle x.follows others next → FollowsOn c f (some + others) next
  go_on c middle next f some others x y = record {
    follows = y.follows;
    more = x.more ++ y.more;
    is = y.is ∙ ap (λ l. l ++ y.more) x.is ∙ append_assoc f.steps x.more y.more;
    few = omega (arith, length-append x.more y.more, x.few, y.few);
  }

  pub follows_on : (c : Cluster) (f : Follows c) (step : Step) → May c step → FollowsOn c f 1 (after c step)
  unfolding after May
  follows_on c f (Decide change) may = decides c f change may (changed c.settings c.membership change) refl
  follows_on c f (Read silo line) may =
      let x = live_reads c f silo line may.0 may.2 in
      go_on c (record c { processes = reading silo line c.processes })
      (record c { processes = reading silo line c.processes; dead = reading silo line c.dead }) f 1 0 x
      (dead_reads (record c { processes = reading silo line c.processes }) x.follows silo line may.3)

  pub follows_so : (c : Cluster) (f : Follows c) (steps : List Step) → MayAll c steps → FollowsOn c f (length steps) (after_all c steps)
  unfolding after_all MayAll
  follows_so c f [] may = stays c f 0
  follows_so c f (step ∷ steps) may =
      let x = follows_on c f step may.0 in
      subst (λ n. FollowsOn c f n (after_all (after c step) steps)) one_more
      (go_on c (after c step) (after_all (after c step) steps) f 1 (length steps) x (follows_so (after c step) x.follows steps may.1))
    where
      one_more : 1 + length steps ≡ suc (length steps)
      one_more = omega arith

  pub follows_all : (c : Cluster) → Follows c → (steps : List Step) → MayAll c steps → Follows (after_all c steps)
  follows_all c f steps may = (follows_so c f steps may).follows

  pub follows_first : (settings : Settings) (tokens : JoinTokens) → AreSettings settings → Follows (first_cluster settings tokens)
  unfolding deployment.after_all
  follows_first settings tokens are = record {
    are = are;
    steps = [];
    named = All-nil deployment.IsStep;
    letters = [];
    same = refl;
    live = All-nil (Says settings.hashing []);
    dead = All-nil (Says settings.hashing []);
  }

  -- ---- the laws
  pub clusters_are_deployments : ClustersAreDeployments
  clusters_are_deployments settings tokens steps are may =
      let c = after_all (first_cluster settings tokens) steps in
      let f = follows_all (first_cluster settings tokens) (follows_first settings tokens are) steps may in
      record { steps = f.steps; named = f.named; letters = f.letters; same = f.same; told = its_letters c f }

  pub lines_keep_the_headline : LinesKeepTheHeadline
  lines_keep_the_headline settings tokens steps are may =
      let f = follows_all (first_cluster settings tokens) (follows_first settings tokens are) steps may in
      subst (λ d. Headline (deployment_theorems.world_of d)) f.same
      (processes_keep_the_headline (after_all (first_cluster settings tokens) steps).settings f.steps f.are f.named)

  pub lines_keep_one_firm : LinesKeepOneFirm
  lines_keep_one_firm settings tokens steps are may grain s t one other =
      let c = after_all (first_cluster settings tokens) steps in
      (lines_keep_the_headline settings tokens steps are may).no_two_firm grain s t one.held other.held (as_node c s one)
      (as_node c t other)
    where
      as_node : (c : Cluster) (silo : Silo) → (is : IsFirmAt c grain silo) → IsFirmOn (world_of c) grain silo is.held
      as_node c silo is = record {
        node = is.process.silo.node;
        live =
            lookup-over (λ (v : SiloValue). v.node) (is_at (silo_cmp silo)) (over its_silo c.processes)
            ∙ ap (option_map (λ (v : SiloValue). v.node))
            (lookup-over its_silo (is_at (silo_cmp silo)) c.processes ∙ ap (option_map its_silo) is.there);
        found = is.found;
        firm = is.firm;
      }

-- A process that was started with a token was told of its silo's join by a line that carries it.
use Rattle.std.proofs.Common.{◌≡◌, ℕ, Bool, true, false, List, [], ◌∷◌, Option, Some, None, Result, Ok, Err, refl, sym, ap, ◌∙◌, subst}
use Rattle.std.specs.Prelude.{not, nat_lt, cond, All, if◌then◌else◌}
use Rattle.std.specs.Io.BufRead.{strip_last}
use Rattle.std.proofs.lemmas.List.Elements.{All-nil, All-append, All-weaker, Contains-append_left, Contains-push}
use Rattle.texts.specs.Words.{sentence, carriage_return}
use Rattle.silo_address.specs.Silo.{Silo, silo_eq}
use Rattle.directory_rules.specs.declared.effect.Effect.{Effect}
use Rattle.directory_rules.specs.declared.effect.Effect.TheVariants.{Ignored}
use Rattle.directory_rules.specs.declared.outcome.Happening.TheVariants.{Saw, Did}
use Rattle.directory_rules.specs.declared.own_step.OwnStep.{OwnStep}
use Rattle.directory_rules.specs.Input.{Input, Does, Receives, step, sight_of}
use Rattle.directory_rules.specs.State.{Letter, Node}
use Rattle.directory_rules.specs.Settings.{Settings, AreSettings}
use Rattle.directory_rules.specs.Step.{Stepped, silently}
use Rattle.script_rules.specs.Lines.{happening_words, refusal_line}
use Rattle.directory_rules.specs.Membership.{Change, Join, Leave, Die, Membership, changed, is_seeable, Listed}
use Rattle.silo_rules.specs.SiloValue.{SiloValue, own_status, told_of_its_join}
use Rattle.silo_rules.specs.Steps.{barred, unless_barred, seen, does, sees}
use Rattle.silo_rules.specs.Told.{Heard, told}
use Rattle.silo_rules.specs.Begun.{told_view}
use Rattle.silo_rules.specs.Whole.{IsWhole}
use Rattle.silo_rules.proofs.Own.{StaysOwn, stays_own}
use Rattle.silo_rules.proofs.Whole.{first_whole}
use Rattle.process_rules.specs.ReadLine.{Asked, Joined, Leaving, Dead, Begin, See, Do, Receive, Ping, Owner, Place, Figures, Show, Dump, read_silo_line}
use Rattle.process_rules.specs.Happened.{news_words, received_words}
use Rattle.process_rules.specs.Answer.{Answered, printing, heard, told_so, begun, begun_so, stepped, seen_so, done_so, received_so, is_anothers_join, answered, answered_as}
use Rattle.process_rules.specs.Output.{answered_to, said}
use Rattle.process_rules.specs.OutputLaws.{CarriesItsJoin}
use Rattle.process_rules.proofs.StaysWhole.{silo_kept, line_whole}
use Rattle.process_rules.proofs.Joins.{joins_by_its_token}
use Rattle.process_deployment.specs.Cluster.{JoinTokens, Process, started, answer_to, having_read, reads, Cluster, first_cluster, everyone}
use Rattle.process_deployment.specs.Steps.{Step, Decide, Read, dying, without, decided, after, after_all}
use Rattle.process_deployment.specs.Theorems.{ReadItsJoin, JoinedByItsToken, ProcessesJoinByTheirTokens}
use Rattle.process_deployment.proofs.Everyone.{reading_keeps, without_keeps, dying_keeps, started_keeps}

-- ---- whatever a line says, the silo is the same one, by the same settings
module _ (s : SiloValue) where
  abbrev Own : Answered → Type 0
  Own it = StaysOwn s.node it.silo.node

  still : (it : Answered) → it.silo.node ≡ s.node → Own it
  still it same = record { settings = ap (λ (n : Node). n.settings) same; silo = ap (λ (n : Node). n.host.silo) same }

  unbarred : (o : Option ℕ) (outcome : Result Stepped ℕ) (it : Stepped) → unless_barred o outcome ≡ Ok it → outcome ≡ Ok it
  unbarred None outcome it is = is
  unbarred (Some number) outcome it is = absurd (cc is)

  step_own : (happened : Effect → List (List ℕ)) (o : Result Stepped ℕ) → ((it : Stepped) → o ≡ Ok it → StaysOwn s.node it.node)
      → Own (stepped happened o s)
  step_own happened (Err number) each = still (stepped happened (Err number) s) refl
  step_own happened (Ok it) each = each it refl

  does_own : (input : Input) (it : Stepped) → does s input ≡ Ok it → StaysOwn s.node it.node
  does_own input it is = stays_own s.node input it (unbarred (barred s) (step s.node input) it is)

  done_own : (asked : OwnStep) → Own (done_so asked s)
  done_own asked = step_own (λ made. happening_words (Did s.node.host.silo made)) (does s (Does asked)) (does_own (Does asked))

  by_sight : (newer seeable : Bool) (r : Result Stepped ℕ) (it : Stepped)
      → ◌≡◌ {A = Result Stepped ℕ} (if not newer then Err 903 else (if not seeable then Err 904 else r)) (Ok it) → r ≡ Ok it
  by_sight false seeable r it is = absurd (cc is)
  by_sight true false r it is = absurd (cc is)
  by_sight true true r it is = is

  seen_own : (version : ℕ) → Own (seen_so version s)
  seen_own version =
      let input = sight_of s.membership version in
      step_own (λ made. happening_words (Saw s.node.host.silo version made)) (sees s version) (λ it is.
      stays_own s.node input it (by_sight (nat_lt s.node.view.version version) (is_seeable s.membership s.node.host.silo version)
      (step s.node input) it (unbarred (barred s) (seen s version) it is)))

  received_own : (letter : Letter) → Own (received_so letter s)
  received_own letter = by (silo_eq letter.to s.node.host.silo)
    where
      words : Effect → List (List ℕ)
      words = received_words s.node.host s.node.view.version letter

      by : (ours : Bool) → Own (cond ours (stepped words (cond ours (does s (Receives letter)) (Ok (silently s.node Ignored))) s)
          (printing [] s))
      by true = step_own words (does s (Receives letter)) (does_own (Receives letter))
      by false = still (printing [] s) refl

  told_own : (version : ℕ) (change : Change) → Own (told_so version change s)
  told_own version change = by (told s.node.settings s.membership version change)
    where
      by : (o : Result Heard ℕ) → Own (heard o version change s)
      by (Err number) = still (heard (Err number) version change s) refl
      by (Ok its) =
          let next : SiloValue = record s { membership = its.membership } in
          still (heard (Ok its) version change s) (sym (ap (λ (t : SiloValue). t.node)
          (silo_kept (own_status next) (printing (sentence (news_words version change its.news) ∷ []) next))))

  begun_own : (version : ℕ) (rows : List Listed) → Own (begun_so version rows s)
  begun_own version rows = by (told_view s.node.settings s.membership s.node.host.silo version rows)
    where
      by : (o : Result Membership ℕ) → Own (begun o version s)
      by (Err number) = still (begun (Err number) version s) refl
      by (Ok m) = still (begun (Ok m) version s) refl

  asked_own : (asked : Asked) → Own (answered asked s)
  unfolding answered
  asked_own (Joined version who token places) = told_own version (Join who places)
  asked_own (Leaving version who) = told_own version (Leave who)
  asked_own (Dead version who) = told_own version (Die who)
  asked_own (Begin version rows) = begun_own version rows
  asked_own (See version) = seen_own version
  asked_own (Do asked) = done_own asked
  asked_own (Receive letter) = received_own letter
  asked_own (Ping word) = still (answered (Ping word) s) refl
  asked_own (Owner grain) = still (answered (Owner grain) s) refl
  asked_own (Place grain policy) = still (answered (Place grain policy) s) refl
  asked_own Figures = still (answered Figures s) refl
  asked_own Show = still (answered Show s) refl
  asked_own Dump = still (answered Dump s) refl

  unless_anothers : (anothers : Bool) (asked : Asked) → Own (cond anothers (printing (refusal_line 208 ∷ []) s) (answered asked s))
  unless_anothers true asked = still (printing (refusal_line 208 ∷ []) s) refl
  unless_anothers false asked = asked_own asked

  line_own : (token : Option (List ℕ)) (read : Result (Option Asked) ℕ) → Own (answered_to token read s)
  unfolding answered_as
  line_own token (Ok None) = still (answered_to token (Ok None) s) refl
  line_own token (Ok (Some asked)) = unless_anothers (is_anothers_join token asked s.node.host.silo) asked
  line_own token (Err fault) = still (answered_to token (Err fault) s) refl

-- ---- what each process keeps
record Keeps (shared : Settings) (e : Silo × Process) : Type 0 where
  whole : IsWhole e.1.silo
  address : e.1.silo.node.host.silo ≡ e.0
  settings : e.1.silo.node.settings ≡ shared
  joined : JoinedByItsToken shared e

first_keeps : (settings : Settings) (tokens : JoinTokens) (silo : Silo) → AreSettings settings
    → Keeps settings (silo, started settings tokens silo)
first_keeps settings tokens silo are =
    record { whole = first_whole settings silo are; address = refl; settings = refl; joined = λ token is told_so. absurd (cc told_so) }

-- by the line that it reads now
pub by_line : (token : List ℕ) (read : Result (Option Asked) ℕ) (s : SiloValue) → IsWhole s → told_of_its_join s ≡ false
    → told_of_its_join (answered_to (Some token) read s).silo ≡ true
    → (asked : Asked) × (read ≡ Ok (Some asked)) × CarriesItsJoin s.node.host.silo token asked
by_line token (Ok None) s whole before after = absurd (cc (before, after))
by_line token (Ok (Some asked)) s whole before after = (asked, refl, joins_by_its_token token asked s whole before after)
by_line token (Err fault) s whole before after = absurd (cc (before, after))

module _ (settings : Settings) (silo : Silo) (line : List ℕ) (p : Process) (kept : Keeps settings (silo, p)) where
  abbrev next : Process
  next = having_read line (answer_to line p) p

  read_before : (token : List ℕ) → ReadItsJoin settings silo token p.read → ReadItsJoin settings silo token next.read
  read_before token its =
      record {
        line = its.line;
        there = Contains-append_left p.read (line ∷ []) its.line its.there;
        asked = its.asked;
        says = its.says;
        carries = its.carries;
      }

  read_now : (token : List ℕ) → p.token ≡ Some token → told_of_its_join p.silo ≡ false → told_of_its_join next.silo ≡ true
      → ReadItsJoin settings silo token next.read
  read_now token is before after =
      let its = by_line token (said line p.silo) p.silo kept.whole before (ap (λ (t : Option (List ℕ)). told_of_its_join (answered_to t (said line p.silo) p.silo).silo) (sym is) ∙ after) in
      record {
        line = line;
        there = Contains-push p.read line;
        asked = its.0;
        says = ap (λ (t : Settings). read_silo_line t.hashing (strip_last carriage_return line)) (sym kept.settings) ∙ its.1;
        carries = subst (λ (own : Silo). CarriesItsJoin own token its.0) kept.address its.2;
      }

  goes_on : Keeps settings (silo, next)
  goes_on =
      let own = line_own p.silo p.token (said line p.silo) in
      record {
        whole = line_whole p.token (said line p.silo) p.silo kept.whole;
        address = own.silo ∙ kept.address;
        settings = own.settings ∙ kept.settings;
        joined = λ token is after. by token is (told_of_its_join p.silo) refl after;
      }
    where
      by : (token : List ℕ) → p.token ≡ Some token → (before : Bool) → told_of_its_join p.silo ≡ before → told_of_its_join next.silo ≡ true
          → ReadItsJoin settings silo token next.read
      by token is true before after = read_before token (kept.joined token is before)
      by token is false before after = read_now token is before after

  reads_keeps : Keeps settings (silo, reads line p)
  reads_keeps = by p.ended
    where
      by : (ended : Bool) → Keeps settings (silo, cond ended p (having_read line (answer_to line p) p))
      by true = kept
      by false = goes_on

-- ---- so does each of them, after any steps
record AllKeep (c : Cluster) : Type 0 where
  are : AreSettings c.settings
  live : All (Keeps c.settings) c.processes
  dead : All (Keeps c.settings) c.dead

decided_keep : (c : Cluster) (change : Change) (r : Result Membership ℕ) → AllKeep c → AllKeep (decided r c change)
decided_keep c change (Err number) all = all
decided_keep c change (Ok m) all =
    let Q = Keeps c.settings in
    let old = dying c.membership change in
    record {
      are = all.are;
      live =
          started_keeps Q c.settings c.tokens change (without old c.processes) (λ silo. first_keeps c.settings c.tokens silo all.are)
          (without_keeps Q old c.processes all.live);
      dead = dying_keeps Q old c.processes c.dead all.live all.dead;
    }

after_keep : (c : Cluster) (step : Step) → AllKeep c → AllKeep (after c step)
unfolding after
after_keep c (Decide change) all = decided_keep c change (changed c.settings c.membership change) all
after_keep c (Read silo line) all =
    let Q = Keeps c.settings in
    record {
      are = all.are;
      live = reading_keeps Q silo line c.processes (reads_keeps c.settings silo line) all.live;
      dead = reading_keeps Q
          silo line c.dead (reads_keeps c.settings silo line) all.dead;
    }

all_keep : (c : Cluster) (steps : List Step) → AllKeep c → AllKeep (after_all c steps)
unfolding after_all
all_keep c [] all = all
all_keep c (step ∷ steps) all = all_keep (after c step) steps (after_keep c step all)

pub processes_join_by_their_tokens : ProcessesJoinByTheirTokens
processes_join_by_their_tokens settings tokens steps are may =
    let first = first_cluster settings tokens in
    let c = after_all first steps in
    let all = all_keep first steps (record { are = are; live = All-nil (Keeps settings); dead = All-nil (Keeps settings) }) in
    All-weaker (Keeps c.settings) (JoinedByItsToken c.settings) (λ e kept. kept.joined) (everyone c)
    (All-append (Keeps c.settings) c.processes c.dead all.live all.dead)

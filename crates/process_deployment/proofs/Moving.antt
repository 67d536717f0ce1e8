-- A line that a process answers is one step of a deployment, or none.
use Rattle.std.proofs.Common.{arith, ◌≡◌, ℕ, ◌+◌, ◌-◌, ◌<◌, ◌≤◌, Bool, true, false, List, [], ◌∷◌, ◌++◌, Option, Some, None, Result, Ok, Err, length, take, refl, sym, ap, ◌∙◌, subst, append-nil}
use Rattle.std.specs.Prelude.{◌==◌, cond, not, nat_le, is_ok, is_some, All, Contains, slice_get, if◌then◌else◌, codes}
use Rattle.std.specs.BTreeMap.{insert_entry}
use Rattle.std.specs.Fmt.{decimal}
use Rattle.std.specs.Io.BufRead.{strip_last}
use Rattle.std.proofs.lemmas.Bool.Decides.{nat_tests}
use Rattle.std.proofs.lemmas.List.Elements.{All-nil, All-cons}
use Rattle.texts.specs.Words.{sentence, carriage_return}
use Rattle.silo_address.specs.Silo.{Silo, IsSilo, silo_cmp, silo_eq}
use Rattle.silo_address.proofs.Order.{silo_cmp_total}
use Rattle.silo_address.proofs.Same.{Decides-silo}
use Rattle.membership_view.specs.declared.status.Status.{Status}
use Rattle.hash_ring.specs.declared.hashing.Hashing.{Hashing}
use Rattle.directory_rules.specs.declared.effect.Effect.{Effect}
use Rattle.directory_rules.specs.declared.effect.Effect.TheVariants.{Ignored}
use Rattle.directory_rules.specs.declared.outcome.Happening.TheVariants.{Saw, Did}
use Rattle.directory_rules.specs.declared.own_step.OwnStep.{OwnStep}
use Rattle.directory_rules.specs.OwnStep.{IsOwnStep}
use Rattle.directory_rules.specs.Input.{Does, Receives, step}
use Rattle.directory_rules.specs.State.{Letter}
use Rattle.directory_rules.specs.Settings.{Settings}
use Rattle.directory_rules.specs.Step.{Stepped, silently}
use Rattle.silo_rules.specs.declared.news.News.TheVariants.{Known}
use Rattle.silo_rules.specs.Known.{is_before, is_known}
use Rattle.silo_rules.specs.Begun.{told_view}
use Rattle.directory_rules.specs.Membership.{Change, Join, Leave, Die, Listed, Membership, changed, listing_of, replaced_by, barred_by}
use Rattle.silo_rules.specs.SiloValue.{SiloValue, own_status, told_of_its_join}
use Rattle.silo_rules.specs.Steps.{unless_barred, does, sees, receives}
use Rattle.silo_rules.specs.Told.{Heard, MakesVersion, heard_by, told, told_again}
use Rattle.script_rules.specs.Lines.{happening_words, refusal_line}
use Rattle.deployment_headline.specs.Deployment.{Deployment, process_of}
use Rattle.deployment_headline.specs.Steps as deployment
use Rattle.deployment_headline.specs.Calls.{TakesItsSteps}
use Rattle.deployment_headline.proofs.Called.{calls_are_steps}
use Rattle.deployment_headline.proofs.Sound.{Sound, its_process}
use Rattle.process_rules.specs.ReadLine.{Asked, Joined, Leaving, Dead, Begin, See, Do, Receive, Ping, Owner, Place, Figures, Show, Dump, read_silo_line}
use Rattle.process_rules.specs.InRange.{IsInRange}
use Rattle.process_rules.proofs.LinesInRange.{line_in_range}
use Rattle.process_rules.proofs.StaysWhole.{silo_kept}
use Rattle.process_rules.specs.Happened.{news_words, received_words}
use Rattle.process_rules.specs.Answer.{Answered, printing, unless_dead, after_news, heard, told_so, begun, begun_so, stepped, seen_so, done_so, received_so, is_anothers_join, answered, answered_as}
use Rattle.process_rules.specs.Show.{show_lines, dump_line, figures_line, grain_owner_line, grain_place_line}
use Rattle.process_rules.specs.Output.{answered_to, fault_line, said}
use Rattle.process_deployment.specs.Allowed.{decided_by, IsDecidedView, IsWritten, TakesJoin, MayAsk, IfAsks}
use Rattle.process_deployment.specs.Cluster.{Process, Cluster}
use Rattle.process_deployment.specs.Theorems.{deployment_of}
use Rattle.process_deployment.proofs.Answers.{SaysOnly, ReadsAsItself, AreSilent, silent_alone, silent_says, step_says, begun_silent, news_silent, told_silent, refusal_silent, fault_silent, pong_silent, saw_silent, did_silent, received_silent, owner_silent, place_silent, figures_silent, show_silent, dump_silent}
use Rattle.process_deployment.proofs.Silent.{IsSilent}
use Rattle.process_deployment.proofs.DecidedViews.{view_decided}
use Rattle.process_deployment.proofs.Lists.{put_again, found_at}

-- ---- what a process's answer makes of a deployment
pub record Moved (d : Deployment) (silo : Silo) (it : Answered) : Type 0 where
  -- one step, or none
  pub steps : List deployment.Step
  pub few : length steps ≤ 1
  pub named : All deployment.IsStep steps
  pub letters : List Letter
  pub is : deployment.after_all d steps ≡ record d {
    processes = insert_entry silo_cmp d.processes silo it.silo;
    written = d.written ++
        letters;
  }
  pub says : (hashing : Hashing) → All (ReadsAsItself hashing) letters → All (SaysOnly hashing letters) it.lines

-- what is told again leaves what was known
known_same : (settings : Settings) (m : Membership) (version : ℕ) (change : Change) (its : Heard) → nat_le version m.views.version ≡ true
    → told settings m version change ≡ Ok its → its.membership ≡ m
known_same settings m version change its old is =
    by (is_before m version) (is_known m version change)
    (sym (ap (λ b. if b then told_again m version change else
    (if not (version == m.views.version + 1) then Err 206 else heard_by (changed settings m change) (replaced_by m change))) old) ∙ is)
  where
    by : (before known : Bool)
        → ◌≡◌ {A = Result Heard ℕ} (if before then Err 212 else (if known then Ok (record { membership = m; news = Known }) else Err 207))
        (Ok its)
        → its.membership ≡ m
    by true known given = absurd (cc given)
    by false true given =
        let same : ◌≡◌ {A = Heard} (record { membership = m; news = Known }) its = cc given in sym (ap (λ (h : Heard). h.membership) same)
    by false false given = absurd (cc given)

module _ (d : Deployment) (silo : Silo) (s : SiloValue) (there : process_of d silo ≡ Some s) (sound : Sound d) (is_silo : IsSilo silo) where
  takes : TakesItsSteps d silo s
  takes = calls_are_steps.takes d silo s there

  same : insert_entry silo_cmp d.processes silo s ≡ d.processes
  same = put_again silo_cmp silo_cmp_total silo s d.processes sound.sorted there

  -- nothing changes
  stays : (lines : List (List ℕ)) (ends : Bool) → ((hashing : Hashing) → AreSilent hashing lines)
      → Moved d silo (record { lines = lines; silo = s; ends = ends })
  unfolding deployment.after_all
  stays lines ends silent = record {
    steps = [];
    few = omega arith;
    named = All-nil deployment.IsStep;
    letters = [];
    is = λ i. record d { processes = sym same i; written = sym (append-nil d.written) i };
    says = λ hashing reads. silent_says hashing [] lines (silent hashing);
  }

  -- a step, or its refusal
  stepped_moves : (happened : Effect → List (List ℕ)) (o : Result Stepped ℕ) (step : deployment.Step) → deployment.IsStep step
      → deployment.after d step ≡ deployment.took o d silo s
      → ((hashing : Hashing) (made : Effect) → IsSilent hashing (sentence (happened made))) → Moved d silo (stepped happened o s)
  unfolding deployment.after_all
  stepped_moves happened (Err number) step named is silent =
      stays (refusal_line number ∷ []) false (λ hashing. silent_alone hashing (refusal_line number) (refusal_silent hashing number))
  stepped_moves happened (Ok it) step named is silent = record {
    steps = step ∷ [];
    few = omega arith;
    named = All-cons deployment.IsStep step [] named (All-nil deployment.IsStep);
    letters = it.letters;
    is = is;
    says = λ hashing reads. step_says hashing it.letters (sentence (happened it.effect)) (silent hashing it.effect) reads;
  }

  done_moves : (asked : OwnStep) → IsOwnStep asked → Moved d silo (done_so asked s)
  done_moves asked named =
      stepped_moves (λ made. happening_words (Did s.node.host.silo made)) (does s (Does asked)) (deployment.Do silo asked) (is_silo, named)
      (takes.asks asked) (λ hashing made. did_silent hashing s.node.host.silo made)

  seen_moves : (version : ℕ) → Moved d silo (seen_so version s)
  seen_moves version =
      stepped_moves (λ made. happening_words (Saw s.node.host.silo version made)) (sees s version) (deployment.See silo version) is_silo
      (takes.sees_so version)
      (λ hashing made. saw_silent hashing s.node.host.silo version made
      (subst IsSilo (sym (its_process d sound silo s there).address) is_silo))

  -- a change, or its refusal
  news_move : (own : Option Status) (line : List ℕ) (next : SiloValue) (steps : List deployment.Step) → length steps ≤ 1
      → All deployment.IsStep steps → ((hashing : Hashing) → IsSilent hashing line)
      → deployment.after_all d steps ≡ record d { processes = insert_entry silo_cmp d.processes silo next }
      → Moved d silo (unless_dead own (printing (line ∷ []) next))
  news_move own line next steps few named silent is = record {
    steps = steps;
    few = few;
    named = named;
    letters = [];
    is =
        is ∙ (λ i. record d {
          processes = insert_entry silo_cmp d.processes silo (silo_kept own (printing (line ∷ []) next) i);
          written = sym (append-nil d.written) i;
        });
    says =
        λ hashing reads. silent_says hashing [] (unless_dead own (printing (line ∷ []) next)).lines
        (told_silent hashing own line next (silent hashing));
  }

  told_moves : (version : ℕ) (change : Change) → (MakesVersion s.membership version (told s.node.settings s.membership version change)
      → slice_get d.changes (version - 1) ≡ Some change)
      → Moved d silo (told_so version change s)
  unfolding deployment.after_all
  told_moves version change decided_so = by (told s.node.settings s.membership version change) refl
    where
      by_age : (its : Heard) (old : Bool) → nat_le version s.membership.views.version ≡ old
          → told s.node.settings s.membership version change ≡ Ok its
          → Moved d silo (after_news version change its.news (record s { membership = its.membership }))
      by_age its true age is =
          let next = record s { membership = its.membership } in
          news_move (own_status next) (sentence (news_words version change its.news)) next [] (omega arith) (All-nil deployment.IsStep)
          (λ hashing. news_silent hashing version change its.news)
          (λ i. record d {
            processes = (sym same ∙ ap (λ m. insert_entry silo_cmp d.processes silo (record s { membership = m }))
                (sym (known_same s.node.settings s.membership version change its age is))) i;
          })
      by_age its false age is =
          let next = record s { membership = its.membership } in
          let higher : s.membership.views.version < version = grind (arith, nat_tests) in
          let back : version - 1 + 1 ≡ version = omega (arith, higher) in
          let makes : MakesVersion s.membership version (told s.node.settings s.membership version change) = (higher, subst (λ (r : Result Heard ℕ). is_ok r ≡ true) (sym is) refl) in
          news_move (own_status next) (sentence (news_words version change its.news)) next (deployment.Tell silo (version - 1) ∷ [])
          (omega arith)
          (All-cons deployment.IsStep (deployment.Tell silo (version - 1)) [] tt (All-nil deployment.IsStep))
          (λ hashing. news_silent hashing version change its.news)
          (takes.tells (version - 1) change (decided_so makes)
          ∙ ap (λ n. deployment.heard (told s.node.settings s.membership n change) d silo s) back
          ∙ ap (λ r. deployment.heard r d silo s) is)

      by : (o : Result Heard ℕ) → told s.node.settings s.membership version change ≡ o → Moved d silo (heard o version change s)
      by (Err number) is =
          stays (refusal_line number ∷ []) false (λ hashing. silent_alone hashing (refusal_line number) (refusal_silent hashing number))
      by (Ok its) is = by_age its (nat_le version s.membership.views.version) refl is

  -- a view with which the silo begins, or its refusal
  begun_moves : (version : ℕ) (rows : List Listed) → IsDecidedView d.changes s version rows → Moved d silo (begun_so version rows s)
  unfolding deployment.after_all
  begun_moves version rows decided_so = by (told_view s.node.settings s.membership s.node.host.silo version rows) refl
    where
      by : (o : Result Membership ℕ) → told_view s.node.settings s.membership s.node.host.silo version rows ≡ o
          → Moved d silo (begun o version s)
      by (Err number) is =
          stays (refusal_line number ∷ []) false (λ hashing. silent_alone hashing (refusal_line number) (refusal_silent hashing number))
      by (Ok m) is =
          let its = decided_so m is in
          let process = its_process d sound silo s there in
          let view = view_decided d.settings d.changes d.membership sound.first sound.start version its.0 in
          let same : listing_of (decided_by s.node.settings (take version d.changes)) version ≡ listing_of d.membership version =
          ap (λ (t : Settings). listing_of (decided_by t (take version d.changes)) version) process.set_up ∙ view.1 in
          let so : told_view s.node.settings s.membership silo version (listing_of d.membership version) ≡ Ok m =
          ap (λ q. told_view s.node.settings s.membership q version (listing_of d.membership version)) (sym process.address)
          ∙ ap (λ l. told_view s.node.settings s.membership s.node.host.silo version l) (sym same) ∙ its.1 in
          let line = sentence (codes "view" ∷ decimal version ∷ codes "begins" ∷ []) in
          record {
            steps = deployment.Begin silo version ∷ [];
            few = omega arith;
            named = All-cons deployment.IsStep (deployment.Begin silo version) [] tt (All-nil deployment.IsStep);
            letters = [];
            is =
                takes.begins_so version view.0 ∙ ap (λ r. deployment.begins r d silo s) so
                ∙ (λ i. record d {
                  processes = insert_entry silo_cmp d.processes silo (record s { membership = m });
                  written = sym (append-nil d.written) i;
                });
            says = λ hashing reads. silent_says hashing [] (line ∷ []) (silent_alone hashing line (begun_silent hashing version));
          }

  -- a letter
  received_moves : (letter : Letter) → (letter.to ≡ s.node.host.silo → told_of_its_join s ≡ true → Contains d.written letter)
      → Moved d silo (received_so letter s)
  received_moves letter written_so = by (silo_eq letter.to s.node.host.silo) refl
    where
      -- before its own join it refuses the letter
      by_join : (own : Option Status) → own_status s ≡ own → silo_eq letter.to s.node.host.silo ≡ true
          → Moved d silo (stepped (received_words s.node.host s.node.view.version letter) (receives s letter) s)
      by_join None joined is =
          let refused : receives s letter ≡ Err 901 =
          ap (λ b. if b then does s (Receives letter) else Ok (silently s.node Ignored)) is
          ∙ ap (λ own. unless_barred (barred_by own) (step s.node (Receives letter))) joined in
          subst (λ r. Moved d silo (stepped (received_words s.node.host s.node.view.version letter) r s)) (sym refused)
          (stays (refusal_line 901 ∷ []) false (λ hashing. silent_alone hashing (refusal_line 901) (refusal_silent hashing 901)))
      by_join (Some own) joined is =
          let its = written_so ((Decides-silo letter.to s.node.host.silo).0 is) (ap is_some joined) in
          stepped_moves (received_words s.node.host s.node.view.version letter) (receives s letter) (deployment.Receive silo its.0) tt
          (takes.receives_so its.0 letter (found_at d.written its.0 letter its.1 its.2))
          (λ hashing made. received_silent hashing s.node.host s.node.view.version letter made)

      by : (own : Bool) → silo_eq letter.to s.node.host.silo ≡ own
          → Moved d silo (cond own (stepped (received_words s.node.host s.node.view.version letter) (receives s letter) s) (printing [] s))
      by false is = stays [] false (λ hashing. All-nil (IsSilent hashing))
      by true is = by_join (own_status s) refl is

-- what a line asks for is in its range
in_range : (hashing : Hashing) (line : List ℕ) (asked : Asked) → read_silo_line hashing line ≡ Ok (Some asked) → IsInRange hashing asked
in_range hashing line asked is = line_in_range hashing line asked is

-- what was asked of a process of the cluster
module _ (c : Cluster) (letters : List Letter) (told_there : (letter : Letter) → IsWritten c letter → Contains letters letter) (silo : Silo)
    (p : Process) where
  abbrev d : Deployment
  d = deployment_of c letters

  abbrev s : SiloValue
  s = p.silo

  module _ (there : process_of d silo ≡ Some s) (sound : Sound d) (is_silo : IsSilo silo) where
    asked_moves : (asked : Asked) → IsInRange s.node.settings.hashing asked → MayAsk c p asked → TakesJoin p asked
        → Moved d silo (answered asked s)
    unfolding answered
    asked_moves (Joined version who token places) named may taken =
        told_moves d silo s there sound is_silo version (Join who places) (may taken)
    asked_moves (Leaving version who) named may taken = told_moves d silo s there sound is_silo version (Leave who) may
    asked_moves (Dead version who) named may taken = told_moves d silo s there sound is_silo version (Die who) may
    asked_moves (Begin version rows) named may taken = begun_moves d silo s there sound is_silo version rows may
    asked_moves (See version) named may taken = seen_moves d silo s there sound is_silo version
    asked_moves (Do asked) named may taken = done_moves d silo s there sound is_silo asked named
    asked_moves (Receive letter) named may taken =
        received_moves d silo s there sound is_silo letter (λ own joined. told_there letter (may own joined))
    asked_moves (Ping word) named may taken =
        stays d silo s there sound is_silo (sentence (codes "pong" ∷ word ∷ []) ∷ []) false
        (λ hashing. silent_alone hashing (sentence (codes "pong" ∷ word ∷ [])) (pong_silent hashing word))
    asked_moves (Owner grain) named may taken =
        stays d silo s there sound is_silo (grain_owner_line s grain ∷ []) false
        (λ hashing. silent_alone hashing (grain_owner_line s grain) (owner_silent hashing s grain))
    asked_moves (Place grain policy) named may taken =
        stays d silo s there sound is_silo (grain_place_line s grain policy ∷ []) false
        (λ hashing. silent_alone hashing (grain_place_line s grain policy) (place_silent hashing s grain policy))
    asked_moves Figures named may taken =
        stays d silo s there sound is_silo (figures_line s ∷ []) false
        (λ hashing. silent_alone hashing (figures_line s) (figures_silent hashing s))
    asked_moves Show named may taken = stays d silo s there sound is_silo (show_lines s) false (λ hashing. show_silent hashing s)
    asked_moves Dump named may taken =
        stays d silo s there sound is_silo (dump_line s ∷ []) false (λ hashing. silent_alone hashing (dump_line s) (dump_silent hashing s))

    unless_anothers : (asked : Asked) (anothers : Bool) → is_anothers_join p.token asked s.node.host.silo ≡ anothers
        → IsInRange s.node.settings.hashing asked → MayAsk c p asked
        → Moved d silo (cond anothers (printing (refusal_line 208 ∷ []) s) (answered asked s))
    unless_anothers asked true is named may =
        stays d silo s there sound is_silo (refusal_line 208 ∷ []) false
        (λ hashing. silent_alone hashing (refusal_line 208) (refusal_silent hashing 208))
    unless_anothers asked false is named may = asked_moves asked named may is

    pub line_moves : (line : List ℕ) (read : Result (Option Asked) ℕ) → said line s ≡ read → IfAsks read (MayAsk c p)
        → Moved d silo (answered_to p.token read s)
    unfolding answered_as
    line_moves line (Ok None) is may = stays d silo s there sound is_silo [] false (λ hashing. All-nil (IsSilent hashing))
    line_moves line (Ok (Some asked)) is may =
        unless_anothers asked (is_anothers_join p.token asked s.node.host.silo) refl
        (in_range s.node.settings.hashing (strip_last carriage_return line) asked is) may
    line_moves line (Err fault) is may =
        stays d silo s there sound is_silo (fault_line fault ∷ []) false
        (λ hashing. silent_alone hashing (fault_line fault) (fault_silent hashing fault))

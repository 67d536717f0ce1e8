-- A process that isn't told of its silo's join does nothing.
use Rattle.std.proofs.Common.{◌≡◌, ℕ, Bool, true, false, List, [], ◌∷◌, Option, Some, None, is_some, Result, Ok, Err, refl, sym, ap, ◌∙◌, subst}
use Rattle.std.specs.Fmt.{decimal}
use Rattle.std.specs.Prelude.{cond, All, codes}
use Rattle.std.specs.Io.BufRead.{strip_last}
use Rattle.std.proofs.lemmas.List.Elements.{All-nil, All-append, All-head, All-tail}
use Rattle.texts.specs.Words.{sentence, carriage_return}
use Rattle.silo_address.specs.Silo.{Silo, silo_eq}
use Rattle.membership_view.specs.declared.status.Status.{Status}
use Rattle.hash_ring.specs.declared.hashing.Hashing.{Hashing}
use Rattle.directory_rules.specs.declared.effect.Effect.{Effect}
use Rattle.directory_rules.specs.declared.effect.Effect.TheVariants.{Ignored}
use Rattle.directory_rules.specs.declared.outcome.Happening.TheVariants.{Saw, Did}
use Rattle.directory_rules.specs.Input.{Input, Does, Receives, step}
use Rattle.directory_rules.specs.State.{Letter, Node}
use Rattle.directory_rules.specs.Node.{new_node}
use Rattle.directory_rules.specs.Settings.{Settings}
use Rattle.directory_rules.specs.Step.{Stepped, silently}
use Rattle.script_rules.specs.Lines.{happening_words, refusal_line}
use Rattle.directory_rules.specs.Membership.{Change, Join, Leave, Die, barred_by, Listed, Membership}
use Rattle.silo_rules.specs.SiloValue.{SiloValue, own_status, told_of_its_join}
use Rattle.silo_rules.specs.Steps.{barred, unless_barred, seen, does}
use Rattle.silo_rules.specs.Told.{Heard, told}
use Rattle.silo_rules.specs.Begun.{told_view}
use Rattle.silo_rules.specs.Whole.{IsWhole}
use Rattle.silo_rules.proofs.Whole.{first_whole}
use Rattle.process_rules.specs.ReadLine.{Asked, Joined, Leaving, Dead, Begin, See, Do, Receive, Ping, Owner, Place, Figures, Show, Dump, read_silo_line}
use Rattle.process_rules.specs.Happened.{news_words, received_words}
use Rattle.process_rules.specs.Answer.{Answered, printing, heard, told_so, begun, begun_so, stepped, received_so, is_anothers_join, answered, answered_as}
use Rattle.process_rules.specs.Show.{dump_line, figures_line, grain_owner_line, grain_place_line}
use Rattle.process_rules.specs.Output.{answered_to, fault_line, said}
use Rattle.process_rules.specs.OutputLaws.{CarriesItsJoin}
use Rattle.process_rules.proofs.StaysWhole.{silo_kept, line_whole}
use Rattle.process_deployment.specs.Cluster.{Process, started, answer_to, having_read, reads}
use Rattle.process_deployment.specs.Unjoined.{reads_all, TellsNoJoin, UnjoinedDoNothing}
use Rattle.process_deployment.proofs.Silent.{IsSilent}
use Rattle.process_deployment.proofs.Answers.{AreSilent, silent_alone, begun_silent, news_silent, told_silent, refusal_silent, fault_silent, pong_silent, owner_silent, place_silent, figures_silent, show_silent, dump_silent}
use Rattle.process_deployment.proofs.JoinedBy.{by_line}

-- ---- each line is answered by lines that say no letter, and leaves the node
module _ (hashing : Hashing) (s : SiloValue) (untold : own_status s ≡ None) where
  abbrev IsIdle : Answered → Type 0
  IsIdle it = (it.silo.node ≡ s.node) × AreSilent hashing it.lines

  one_line : (line : List ℕ) → IsSilent hashing line → IsIdle (printing (line ∷ []) s)
  one_line line silent = (refl, silent_alone hashing line silent)

  refused : (number : ℕ) → IsIdle (printing (refusal_line number ∷ []) s)
  refused number = one_line (refusal_line number) (refusal_silent hashing number)

  -- a step, which is refused
  step_idle : (happened : Effect → List (List ℕ)) (outcome : Result Stepped ℕ)
      → IsIdle (stepped happened (unless_barred (barred s) outcome) s)
  step_idle happened outcome =
      subst (λ (own : Option Status). IsIdle (stepped happened (unless_barred (barred_by own) outcome) s)) (sym untold) (refused 901)

  done_idle : (input : Input) → IsIdle (stepped (λ made. happening_words (Did s.node.host.silo made)) (does s input) s)
  done_idle input = step_idle (λ made. happening_words (Did s.node.host.silo made)) (step s.node input)

  received_idle : (letter : Letter) → IsIdle (received_so letter s)
  received_idle letter = by (silo_eq letter.to s.node.host.silo)
    where
      words : Effect → List (List ℕ)
      words = received_words s.node.host s.node.view.version letter

      by : (ours : Bool) → IsIdle (cond ours (stepped words (cond ours (does s (Receives letter)) (Ok (silently s.node Ignored))) s)
          (printing [] s))
      by true = step_idle words (step s.node (Receives letter))
      by false = (refl, All-nil (IsSilent hashing))

  told_idle : (version : ℕ) (change : Change) → IsIdle (told_so version change s)
  told_idle version change = by (told s.node.settings s.membership version change)
    where
      by : (o : Result Heard ℕ) → IsIdle (heard o version change s)
      by (Err number) = refused number
      by (Ok its) =
          let next : SiloValue = record s { membership = its.membership } in
          let line = sentence (news_words version change its.news) in (
            sym (ap (λ (t : SiloValue). t.node) (silo_kept (own_status next) (printing (line ∷ []) next))),
            told_silent hashing
                (own_status next) line next (news_silent hashing version change its.news),
          )

  begun_idle : (version : ℕ) (rows : List Listed) → IsIdle (begun_so version rows s)
  begun_idle version rows = by (told_view s.node.settings s.membership s.node.host.silo version rows)
    where
      by : (o : Result Membership ℕ) → IsIdle (begun o version s)
      by (Err number) = refused number
      by (Ok m) =
          (refl, silent_alone hashing (sentence (codes "view" ∷ decimal version ∷ codes "begins" ∷ [])) (begun_silent hashing version))

  asked_idle : (asked : Asked) → IsIdle (answered asked s)
  unfolding answered
  asked_idle (Joined version who token places) = told_idle version (Join who places)
  asked_idle (Leaving version who) = told_idle version (Leave who)
  asked_idle (Dead version who) = told_idle version (Die who)
  asked_idle (Begin version rows) = begun_idle version rows
  asked_idle (See version) = step_idle (λ made. happening_words (Saw s.node.host.silo version made)) (seen s version)
  asked_idle (Do asked) = done_idle (Does asked)
  asked_idle (Receive letter) = received_idle letter
  asked_idle (Ping word) = one_line (sentence (codes "pong" ∷ word ∷ [])) (pong_silent hashing word)
  asked_idle (Owner grain) = one_line (grain_owner_line s grain) (owner_silent hashing s grain)
  asked_idle (Place grain policy) = one_line (grain_place_line s grain policy) (place_silent hashing s grain policy)
  asked_idle Figures = one_line (figures_line s) (figures_silent hashing s)
  asked_idle Show = (refl, show_silent hashing s)
  asked_idle Dump = one_line (dump_line s) (dump_silent hashing s)

  unless_anothers : (anothers : Bool) (asked : Asked) → IsIdle (cond anothers (printing (refusal_line 208 ∷ []) s) (answered asked s))
  unless_anothers true asked = refused 208
  unless_anothers false asked = asked_idle asked

  line_idle : (token : Option (List ℕ)) (read : Result (Option Asked) ℕ) → IsIdle (answered_to token read s)
  unfolding answered_as
  line_idle token (Ok None) = (refl, All-nil (IsSilent hashing))
  line_idle token (Ok (Some asked)) = unless_anothers (is_anothers_join token asked s.node.host.silo) asked
  line_idle token (Err fault) = one_line (fault_line fault) (fault_silent hashing fault)

-- ---- so it is all along
record IsUnjoined (shared : Settings) (silo : Silo) (mine : List ℕ) (p : Process) : Type 0 where
  token : p.token ≡ Some mine
  whole : IsWhole p.silo
  untold : told_of_its_join p.silo ≡ false
  node : p.silo.node ≡ new_node shared silo
  wrote : All (IsSilent shared.hashing) p.wrote

none_by : (own : Option Status) → is_some own ≡ false → own ≡ None
none_by None is = refl
none_by (Some status) is = absurd (cc is)

module _ (settings : Settings) (silo : Silo) (mine line : List ℕ) (no_join : TellsNoJoin settings silo mine line) (p : Process)
    (is : IsUnjoined settings silo mine p) where
  abbrev it : Answered
  it = answer_to line p

  still_untold : told_of_its_join it.silo ≡ false
  still_untold = by (told_of_its_join it.silo) refl
    where
      by : (now : Bool) → told_of_its_join it.silo ≡ now → told_of_its_join it.silo ≡ false
      by false after = after
      by true after =
          let its = by_line mine (said line p.silo) p.silo is.whole is.untold (ap (λ (t : Option (List ℕ)). told_of_its_join (answered_to t (said line p.silo) p.silo).silo) (sym is.token) ∙ after) in
          let says = ap (λ (n : Node). read_silo_line n.settings.hashing (strip_last carriage_return line)) (sym is.node) ∙ its.1 in
          absurd (no_join its.0 says (subst (λ (n : Node). CarriesItsJoin n.host.silo mine its.0) is.node its.2))

  goes_on : IsUnjoined settings silo mine (having_read line it p)
  goes_on =
      let idle = line_idle settings.hashing p.silo (none_by (own_status p.silo) is.untold) p.token (said line p.silo) in
      record {
        token = is.token;
        whole = line_whole p.token (said line p.silo) p.silo is.whole;
        untold = still_untold;
        node = idle.0 ∙ is.node;
        wrote = All-append (IsSilent settings.hashing) p.wrote it.lines is.wrote idle.1;
      }

  reads_on : IsUnjoined settings silo mine (reads line p)
  reads_on = by p.ended
    where
      by : (ended : Bool) → IsUnjoined settings silo mine (cond ended p (having_read line (answer_to line p) p))
      by true = is
      by false = goes_on

all_on : (settings : Settings) (silo : Silo) (mine : List ℕ) (lines : List (List ℕ)) → All (TellsNoJoin settings silo mine) lines
    → (p : Process) → IsUnjoined settings silo mine p
    → IsUnjoined settings silo mine (reads_all lines p)
all_on settings silo mine [] none p is = is
all_on settings silo mine (line ∷ lines) none p is =
    all_on settings silo mine lines (All-tail (TellsNoJoin settings silo mine) line lines none) (reads line p)
    (reads_on settings silo mine line (All-head (TellsNoJoin settings silo mine) line lines none) p is)

pub unjoined_do_nothing : UnjoinedDoNothing
unjoined_do_nothing settings tokens silo mine lines are is none =
    let first : IsUnjoined settings silo mine (started settings tokens silo) =
    record { token = is; whole = first_whole settings silo are; untold = refl; node = refl; wrote = All-nil (IsSilent settings.hashing) } in
    let then_so = all_on settings silo mine lines none (started settings tokens silo) first in
    record { node = then_so.node; wrote = then_so.wrote }

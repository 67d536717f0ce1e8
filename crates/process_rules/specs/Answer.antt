-- What a silo's process answers to what a line asks for: the lines that it prints, and the silo after it.
use Rattle.std.specs.Prelude.{ℕ, Bool, true, false, ◌&&◌, not, List, [], ◌∷◌, ◌++◌, map, codes, bytes_eq, if◌then◌else◌, Option, Some, None, Result, Ok, Err}
use Rattle.std.specs.Fmt.{decimal}
use Rattle.texts.specs.Words.{sentence}
use Rattle.silo_address.specs.Silo.{Silo, silo_eq}
use Rattle.membership_view.specs.declared.status.Status.{Status}
use Rattle.membership_view.specs.declared.status.Status.TheVariants as status
use Rattle.directory_rules.specs.declared.effect.Effect.{Effect}
use Rattle.directory_rules.specs.declared.outcome.Happening.TheVariants.{Saw, Did}
use Rattle.directory_rules.specs.declared.own_step.OwnStep.{OwnStep}
use Rattle.directory_rules.specs.Input.{Does}
use Rattle.directory_rules.specs.State.{Letter}
use Rattle.directory_rules.specs.Step.{Stepped}
use Rattle.silo_rules.specs.declared.news.News.{News}
use Rattle.directory_rules.specs.Membership.{Change, Join, Leave, Die, Listed, Membership}
use Rattle.silo_rules.specs.SiloValue.{SiloValue, own_status}
use Rattle.silo_rules.specs.Steps.{does, sees, receives}
use Rattle.silo_rules.specs.Told.{Heard, told}
use Rattle.silo_rules.specs.Begun.{told_view}
use Rattle.script_rules.specs.Lines.{happening_words, refusal_line}
use Rattle.process_rules.specs.LetterText.{letter_line}
use Rattle.process_rules.specs.ReadLine.{Asked, Joined, Leaving, Dead, Begin, See, Do, Receive, Ping, Owner, Place, Figures, Show, Dump}
use Rattle.process_rules.specs.Happened.{news_words, received_words}
use Rattle.process_rules.specs.Show.{show_lines, dump_line, grain_owner_line, grain_place_line, figures_line}

-- what is printed, the silo after it, and whether the process ends there
pub record Answered : Type 0 where
  pub lines : List (List ℕ)
  pub silo : SiloValue
  pub ends : Bool

-- lines, and the process goes on
abbrev pub printing : List (List ℕ) → SiloValue → Answered
printing lines s = record { lines = lines; silo = s; ends = false }

-- ---- Changes of membership.

-- a silo that is Dead by what it was told says so, and the process ends
abbrev pub unless_dead : Option Status → Answered → Answered
unless_dead (Some status.Dead) answered = record answered { lines = answered.lines ++ codes "dead" ∷ []; ends = true }
unless_dead other answered = answered

-- what came of the change, or its refusal
abbrev pub after_news : (version : ℕ) → Change → (news : News) → SiloValue → Answered
after_news version change news s = unless_dead (own_status s) (printing (sentence (news_words version change news) ∷ []) s)

abbrev pub heard : Result Heard ℕ → (version : ℕ) → Change → SiloValue → Answered
heard (Err number) version change s = printing (refusal_line number ∷ []) s
heard (Ok it) version change s = after_news version change it.news (record s { membership = it.membership })

-- the silo is told a change
abbrev pub told_so : (version : ℕ) → Change → SiloValue → Answered
told_so version change s = heard (told s.node.settings s.membership version change) version change s

-- what begins with a view, or its refusal
abbrev pub begun : Result Membership ℕ → (version : ℕ) → SiloValue → Answered
begun (Err number) version s = printing (refusal_line number ∷ []) s
begun (Ok m) version s = printing (sentence (codes "view" ∷ decimal version ∷ codes "begins" ∷ []) ∷ []) (record s { membership = m })

-- the silo is told the view of a version in place of all changes up to it
abbrev pub begun_so : (version : ℕ) → List Listed → SiloValue → Answered
begun_so version rows s = begun (told_view s.node.settings s.membership s.node.host.silo version rows) version s

-- ---- Steps: what happened, and then a line for each letter sent, in order; or the refusal.
abbrev pub stepped : (Effect → List (List ℕ)) → Result Stepped ℕ → SiloValue → Answered
stepped happened (Err number) s = printing (refusal_line number ∷ []) s
stepped happened (Ok it) s = printing (sentence (happened it.effect) ∷ map letter_line it.letters) (record s { node = it.node })

-- the silo sees a version
abbrev pub seen_so : (version : ℕ) → SiloValue → Answered
seen_so version s = stepped (λ effect. happening_words (Saw s.node.host.silo version effect)) (sees s version) s

-- it does what its application asks of it
abbrev pub done_so : OwnStep → SiloValue → Answered
done_so step s = stepped (λ effect. happening_words (Did s.node.host.silo effect)) (does s (Does step)) s

-- a letter comes; nothing is said of one to another silo
abbrev pub received_so : Letter → SiloValue → Answered
received_so letter s =
    if silo_eq letter.to s.node.host.silo then stepped (received_words s.node.host s.node.view.version letter) (receives s letter) s else printing [] s

-- ---- Whose join a line tells. A process that was started with a token joins by the line that carries that token, and by no other.

-- whether the join carries the token
abbrev pub carries : (stated : Option (List ℕ)) → (token : List ℕ) → Bool
carries None token = false
carries (Some stated) token = bytes_eq stated token

-- whether it is the join of this process's silo, but another process's, by the token that this one was started with
abbrev pub is_anothers_join : (token : Option (List ℕ)) → Asked → (own : Silo) → Bool
is_anothers_join None asked own = false
is_anothers_join (Some token) (Joined version silo stated places) own = silo_eq silo own && not (carries stated token)
is_anothers_join (Some token) other own = false

-- ---- What a line asks for.
unfoldable pub answered : Asked → SiloValue → Answered
answered (Joined version silo token places) s = told_so version (Join silo places) s
answered (Leaving version silo) s = told_so version (Leave silo) s
answered (Dead version silo) s = told_so version (Die silo) s
answered (Begin version rows) s = begun_so version rows s
answered (See version) s = seen_so version s
answered (Do step) s = done_so step s
answered (Receive letter) s = received_so letter s
answered (Ping word) s = printing (sentence (codes "pong" ∷ word ∷ []) ∷ []) s
answered (Owner grain) s = printing (grain_owner_line s grain ∷ []) s
answered (Place grain policy) s = printing (grain_place_line s grain policy ∷ []) s
answered Figures s = printing (figures_line s ∷ []) s
answered Show s = printing (show_lines s) s
answered Dump s = printing (dump_line s ∷ []) s

-- by a process that was started with that token, or with none: another's join is refused by 208, and changes nothing
unfoldable pub answered_as : (token : Option (List ℕ)) → Asked → SiloValue → Answered
answered_as token asked s = if is_anothers_join token asked s.node.host.silo then printing (refusal_line 208 ∷ []) s else answered asked s

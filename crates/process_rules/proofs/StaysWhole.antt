-- A silo is whole after each line, as it was before.
use Rattle.std.proofs.Common.{◌≡◌, ℕ, Bool, true, false, List, [], ◌∷◌, Option, Some, None, Result, Ok, Err, refl, subst}
use Rattle.std.specs.Prelude.{cond}
use Rattle.silo_address.specs.Silo.{silo_eq}
use Rattle.membership_view.specs.declared.status.Status.{Status}
use Rattle.membership_view.specs.declared.status.Status.TheVariants as status
use Rattle.directory_rules.specs.declared.effect.Effect.{Effect}
use Rattle.texts.specs.Words.{sentence}
use Rattle.directory_rules.specs.declared.outcome.Happening.TheVariants.{Saw, Did}
use Rattle.script_rules.specs.Lines.{happening_words, refusal_line}
use Rattle.directory_rules.specs.declared.own_step.OwnStep.{OwnStep}
use Rattle.directory_rules.specs.Input.{Does}
use Rattle.directory_rules.specs.State.{Letter}
use Rattle.directory_rules.specs.Step.{Stepped}
use Rattle.directory_rules.specs.Membership.{Change, Join, Leave, Die, Listed, Membership}
use Rattle.silo_rules.specs.SiloValue.{SiloValue, own_status}
use Rattle.silo_rules.specs.Steps.{does, sees, receives}
use Rattle.silo_rules.specs.Told.{Heard, told}
use Rattle.silo_rules.specs.Begun.{told_view}
use Rattle.silo_rules.specs.Whole.{IsWhole}
use Rattle.silo_rules.proofs.Lawful.{stays_whole}
use Rattle.process_rules.specs.ReadLine.{Asked, Joined, Leaving, Dead, Begin, See, Do, Receive, Ping, Owner, Place, Figures, Show, Dump}
use Rattle.process_rules.specs.Happened.{news_words, received_words}
use Rattle.process_rules.specs.Answer.{Answered, printing, unless_dead, heard, told_so, begun, stepped, seen_so, done_so, is_anothers_join, answered, answered_as}
use Rattle.process_rules.specs.Output.{answered_to}

pub silo_kept : (own : Option Status) (it : Answered) → it.silo ≡ (unless_dead own it).silo
silo_kept None it = refl
silo_kept (Some status.Active) it = refl
silo_kept (Some status.Leaving) it = refl
silo_kept (Some status.Dead) it = refl

heard_whole : (version : ℕ) (change : Change) (s : SiloValue) (outcome : Result Heard ℕ) → IsWhole s
    → told s.node.settings s.membership version change ≡ outcome → IsWhole (heard outcome version change s).silo
heard_whole version change s (Err number) whole is = whole
heard_whole version change s (Ok it) whole is =
    let after = record s { membership = it.membership } in
    subst IsWhole (silo_kept (own_status after) (printing (sentence (news_words version change it.news) ∷ []) after))
    (stays_whole.tells s version change it whole is)

told_whole : (version : ℕ) (change : Change) (s : SiloValue) → IsWhole s → IsWhole (told_so version change s).silo
told_whole version change s whole = heard_whole version change s (told s.node.settings s.membership version change) whole refl

begun_whole : (version : ℕ) (rows : List Listed) (s : SiloValue) (outcome : Result Membership ℕ) → IsWhole s
    → told_view s.node.settings s.membership s.node.host.silo version rows ≡ outcome → IsWhole (begun outcome version s).silo
begun_whole version rows s (Err number) whole is = whole
begun_whole version rows s (Ok m) whole is = stays_whole.begins s s.node.host.silo version rows m whole is

step_whole : (happened : Effect → List (List ℕ)) (s : SiloValue) (outcome : Result Stepped ℕ) → IsWhole s
    → ((it : Stepped) → outcome ≡ Ok it → IsWhole (record s { node = it.node })) → IsWhole (stepped happened outcome s).silo
step_whole happened s (Err number) whole each = whole
step_whole happened s (Ok it) whole each = each it refl

seen_whole : (version : ℕ) (s : SiloValue) → IsWhole s → IsWhole (seen_so version s).silo
seen_whole version s whole =
    step_whole (λ effect. happening_words (Saw s.node.host.silo version effect)) s (sees s version) whole
    (λ it is. stays_whole.sees_so s version it whole is)

done_whole : (step : OwnStep) (s : SiloValue) → IsWhole s → IsWhole (done_so step s).silo
done_whole step s whole =
    step_whole (λ effect. happening_words (Did s.node.host.silo effect)) s (does s (Does step)) whole
    (λ it is. stays_whole.does_so s (Does step) it tt whole is)

received_by : (letter : Letter) (s : SiloValue) (own : Bool) → IsWhole s
    → IsWhole (cond own (stepped (received_words s.node.host s.node.view.version letter) (receives s letter) s) (printing [] s)).silo
received_by letter s true whole =
    step_whole (received_words s.node.host s.node.view.version letter) s (receives s letter) whole
    (λ it is. stays_whole.receives_so s letter it whole is)
received_by letter s false whole = whole

answered_whole : (asked : Asked) (s : SiloValue) → IsWhole s → IsWhole (answered asked s).silo
unfolding answered
answered_whole (Joined version silo token places) s whole = told_whole version (Join silo places) s whole
answered_whole (Leaving version silo) s whole = told_whole version (Leave silo) s whole
answered_whole (Dead version silo) s whole = told_whole version (Die silo) s whole
answered_whole (Begin version rows) s whole =
    begun_whole version rows s (told_view s.node.settings s.membership s.node.host.silo version rows) whole refl
answered_whole (See version) s whole = seen_whole version s whole
answered_whole (Do step) s whole = done_whole step s whole
answered_whole (Receive letter) s whole = received_by letter s (silo_eq letter.to s.node.host.silo) whole
answered_whole (Ping word) s whole = whole
answered_whole (Owner grain) s whole = whole
answered_whole (Place grain policy) s whole = whole
answered_whole Figures s whole = whole
answered_whole Show s whole = whole
answered_whole Dump s whole = whole

unless_anothers : (anothers : Bool) (lines : List (List ℕ)) (it : Answered) (s : SiloValue) → IsWhole s → IsWhole it.silo
    → IsWhole (cond anothers (printing lines s) it).silo
unless_anothers true lines it s whole after = whole
unless_anothers false lines it s whole after = after

answered_as_whole : (token : Option (List ℕ)) (asked : Asked) (s : SiloValue) → IsWhole s → IsWhole (answered_as token asked s).silo
unfolding answered_as
answered_as_whole token asked s whole =
    unless_anothers (is_anothers_join token asked s.node.host.silo) (refusal_line 208 ∷ []) (answered asked s) s whole
    (answered_whole asked s whole)

pub line_whole : (token : Option (List ℕ)) (read : Result (Option Asked) ℕ) (s : SiloValue) → IsWhole s
    → IsWhole (answered_to token read s).silo
line_whole token (Ok None) s whole = whole
line_whole token (Ok (Some asked)) s whole = answered_as_whole token asked s whole
line_whole token (Err fault) s whole = whole

-- What the rule answers, by what the silo's calls answered and what was written of that.
use Rattle.std.proofs.Common.{◌≡◌, ℕ, Bool, true, false, List, [], ◌∷◌, ◌++◌, Option, Some, None, Result, Ok, Err, map, cond, refl, ap, sym, ◌∙◌, subst, append-nil}
use Rattle.std.specs.Prelude.{IsSomeAnd, codes}
use Rattle.std.specs.Fmt.{decimal}
use Rattle.texts.specs.Printed.{text_of_lines}
use Rattle.texts.specs.Words.{sentence}
use Rattle.membership_view.specs.declared.status.Status.{Status}
use Rattle.membership_view.specs.declared.status.Status.TheVariants as status
use Rattle.silo_address.specs.Silo.{silo_eq}
use Rattle.directory_rules.specs.declared.effect.Effect.{Effect}
use Rattle.directory_rules.specs.State.{Letter, Node}
use Rattle.directory_rules.specs.Step.{Stepped}
use Rattle.directory_node.specs.Follows.{RefusesBy}
use Rattle.silo_rules.specs.declared.news.News.{News}
use Rattle.directory_rules.specs.Membership.{Change, Membership}
use Rattle.silo_rules.specs.SiloValue.{SiloValue, own_status}
use Rattle.silo_rules.specs.Steps.{receives}
use Rattle.silo_rules.specs.Told.{Heard}
use Rattle.directory_silo.specs.declared.answer.Answer.{Answer}
use Rattle.directory_silo.specs.AnswerModel.{heard_as, stepped_as}
use Rattle.script_rules.specs.Lines.{refusal_line}
use Rattle.script_lines.specs.Printed.{printed}
use Rattle.process_rules.specs.LetterText.{letter_line}
use Rattle.process_rules.specs.Happened.{news_words, received_words}
use Rattle.process_rules.specs.Answer.{Answered, after_news, begun, heard, printing, received_so, stepped, unless_dead}
use Rattle.process_answers.specs.Answering.{IsAnswered}
use Rattle.process_answers.specs.Ending.{EndsAsDead, last_lines}
use Rattle.process_answers.proofs.Written.{lines_behind_lines, one_line}

-- ---- refusals
-- a refusal whose line was written is the rule's
refused_by : {A : Type 0} (excused : Result A ℕ → Type 0) (outcome : Result A ℕ) (number : Option ℕ) (before after : List ℕ)
    → RefusesBy excused number outcome
    → IsSomeAnd number (λ n. after ≡ before ++ printed (refusal_line n))
    → (n : ℕ) × (outcome ≡ Err n) × (after ≡ before ++ text_of_lines (refusal_line n ∷ []))
refused_by excused outcome (Some n) before after refuses written = (n, refuses, one_line before after (refusal_line n) written)
refused_by excused outcome None before after refuses written = absurd written

refusal_answered : (before : List ℕ) (s new : SiloValue) (after : List ℕ) (n : ℕ) → new ≡ s
    → after ≡ before ++ text_of_lines (refusal_line n ∷ []) → IsAnswered (printing (refusal_line n ∷ []) s) before new after false
refusal_answered before s new after n same written = record { leaves = same; prints = written; ending = refl }

-- ---- steps
pub step_refused : (happened : Effect → List (List ℕ)) (excused : Result Stepped ℕ → Type 0) (outcome : Result Stepped ℕ)
    (s new : SiloValue) (number : Option ℕ) (before after : List ℕ)
    → RefusesBy excused number outcome → IsSomeAnd number (λ n. after ≡ before ++ printed (refusal_line n)) → new ≡ s
    → IsAnswered (stepped happened outcome s) before new after false
step_refused happened excused outcome s new number before after refuses written same =
    let by = refused_by excused outcome number before after refuses written in
    subst (λ (o : Result Stepped ℕ). IsAnswered (stepped happened o s) before new after false) (sym by.1)
    (refusal_answered before s new after by.0 same by.2)

pub step_taken : (happened : Effect → List (List ℕ)) (outcome : Result Stepped ℕ) (s new : SiloValue) (answer : Answer)
    (before after : List ℕ) → outcome ≡ Ok (stepped_as new answer)
    → new.membership ≡ s.membership → after ≡ before ++ text_of_lines
    (sentence (happened answer.effect) ∷ map letter_line answer.letters.items)
    → IsAnswered (stepped happened outcome s) before new after false
step_taken happened outcome s new answer before after is same written =
    subst (λ (o : Result Stepped ℕ). IsAnswered (stepped happened o s) before new after false) (sym is)
    (record { leaves = ap (λ (m : Membership). record new { membership = m }) same; prints = written; ending = refl })

-- ---- changes
told_dead : (own : Option Status) (answer : Answered) (before between new_text : List ℕ) (silo : SiloValue) (ends : Bool)
    → silo ≡ answer.silo → answer.ends ≡ false
    → between ≡ before ++ text_of_lines answer.lines → EndsAsDead own between new_text ends
    → IsAnswered (unless_dead own answer) before silo new_text ends
told_dead (Some status.Dead) answer before between new_text silo ends leaves goes_on written dead = record {
  leaves = leaves;
  prints = lines_behind_lines before between new_text answer.lines (last_lines (Some status.Dead)) written dead.prints;
  ending = dead.ending;
}
told_dead (Some status.Active) answer before between new_text silo ends leaves goes_on written dead =
    record { leaves = leaves; prints = dead.prints ∙ append-nil between ∙ written; ending = dead.ending ∙ sym goes_on }
told_dead (Some status.Leaving) answer before between new_text silo ends leaves goes_on written dead =
    record { leaves = leaves; prints = dead.prints ∙ append-nil between ∙ written; ending = dead.ending ∙ sym goes_on }
told_dead None answer before between new_text silo ends leaves goes_on written dead =
    record { leaves = leaves; prints = dead.prints ∙ append-nil between ∙ written; ending = dead.ending ∙ sym goes_on }

pub change_told : (version : ℕ) (change : Change) (outcome : Result Heard ℕ) (s new : SiloValue) (news : News)
    (before between after : List ℕ) (ends : Bool) → outcome ≡ Ok (heard_as new news)
    → new.node ≡ s.node → between ≡ before ++ printed (sentence (news_words version change news))
    → EndsAsDead (own_status new) between after ends
    → IsAnswered (heard outcome version change s) before new after ends
change_told version change outcome s new news before between after ends is same written dead =
    let whole : new ≡ record s { membership = new.membership } = ap (λ (node : Node). record new { node = node }) same in
    subst (λ (o : Result Heard ℕ). IsAnswered (heard o version change s) before new after ends) (sym is)
    (subst (λ (t : SiloValue). IsAnswered (after_news version change news t) before new after ends) whole
    (told_dead (own_status new) (printing (sentence (news_words version change news) ∷ []) new) before between after new ends refl refl
    (one_line before between (sentence (news_words version change news)) written) dead))

pub change_refused : (version : ℕ) (change : Change) (excused : Result Heard ℕ → Type 0) (outcome : Result Heard ℕ) (s new : SiloValue)
    (number : Option ℕ) (before after : List ℕ)
    → RefusesBy excused number outcome → IsSomeAnd number (λ n. after ≡ before ++ printed (refusal_line n)) → new ≡ s
    → IsAnswered (heard outcome version change s) before new after false
change_refused version change excused outcome s new number before after refuses written same =
    let by = refused_by excused outcome number before after refuses written in
    subst (λ (o : Result Heard ℕ). IsAnswered (heard o version change s) before new after false) (sym by.1)
    (refusal_answered before s new after by.0 same by.2)

-- ---- views
pub view_begun : (version : ℕ) (outcome : Result Membership ℕ) (s new : SiloValue) (before after : List ℕ) → outcome ≡ Ok new.membership
    → new.node ≡ s.node → after ≡ before ++ printed (sentence (codes "view" ∷ decimal version ∷ codes "begins" ∷ []))
    → IsAnswered (begun outcome version s) before new after false
view_begun version outcome s new before after is same written =
    subst (λ (o : Result Membership ℕ). IsAnswered (begun o version s) before new after false) (sym is)
    (record {
      leaves = ap (λ (node : Node). record new { node = node }) same;
      prints = one_line before after (sentence (codes "view" ∷ decimal version ∷ codes "begins" ∷ [])) written;
      ending = refl;
    })

pub view_refused : (version : ℕ) (excused : Result Membership ℕ → Type 0) (outcome : Result Membership ℕ) (s new : SiloValue)
    (number : Option ℕ) (before after : List ℕ)
    → RefusesBy excused number outcome → IsSomeAnd number (λ n. after ≡ before ++ printed (refusal_line n)) → new ≡ s
    → IsAnswered (begun outcome version s) before new after false
view_refused version excused outcome s new number before after refuses written same =
    let by = refused_by excused outcome number before after refuses written in
    subst (λ (o : Result Membership ℕ). IsAnswered (begun o version s) before new after false) (sym by.1)
    (refusal_answered before s new after by.0 same by.2)

-- ---- letters
own_letter : (letter : Letter) (s : SiloValue) (own : Bool) → own ≡ true
    → cond own (stepped (received_words s.node.host s.node.view.version letter) (receives s letter) s) (printing [] s) ≡ stepped
    (received_words s.node.host s.node.view.version letter) (receives s letter) s
own_letter letter s true is = refl
own_letter letter s false is = absurd (cc)

pub letter_answered : (letter : Letter) (s new : SiloValue) (before after : List ℕ) → silo_eq letter.to s.node.host.silo ≡ true
    → IsAnswered (stepped (received_words s.node.host s.node.view.version letter) (receives s letter) s) before new after false
    → IsAnswered (received_so letter s) before new after false
letter_answered letter s new before after own answered =
    subst (λ (a : Answered). IsAnswered a before new after false) (sym (own_letter letter s (silo_eq letter.to s.node.host.silo) own))
    answered

pub ruleset outcome_by_outcome = (step_refused, step_taken, change_told, change_refused, view_begun, view_refused)

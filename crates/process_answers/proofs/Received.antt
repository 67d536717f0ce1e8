-- A letter is answered by what it tells.
use Rattle.std.proofs.Common.{◌≡◌, ℕ, true, false, List, ◌++◌, Option, Result, Ok, ap, ◌∙◌, subst, map}
use Rattle.std.specs.Prelude.{IsSomeAnd}
use Rattle.texts.specs.Printed.{text_of_lines}
use Rattle.texts.specs.Words.{sentence}
use Rattle.silo_address.specs.Silo.{Silo, silo_eq}
use Rattle.directory_rules.specs.declared.effect.Effect.{Effect}
use Rattle.directory_rules.specs.declared.letter_kind.LetterKind.{LetterKind}
use Rattle.directory_rules.specs.State.{Host, Letter, Body}
use Rattle.directory_rules.specs.Letter.{kind_of}
use Rattle.directory_rules.specs.Step.{Stepped}
use Rattle.directory_node.specs.Follows.{RefusesBy}
use Rattle.silo_rules.specs.SiloValue.{SiloValue}
use Rattle.silo_rules.specs.Steps.{receives}
use Rattle.directory_silo.specs.declared.answer.Answer.{Answer}
use Rattle.directory_silo.specs.AnswerModel.{stepped_as}
use Rattle.script_rules.specs.Lines.{refusal_line}
use Rattle.script_lines.specs.Printed.{printed}
use Rattle.process_rules.specs.LetterText.{letter_line}
use Rattle.process_rules.specs.Happened.{body_words, received_words}
use Rattle.process_rules.specs.Answer.{received_so}
use Rattle.process_answers.specs.Answering.{IsAnswered}
use Rattle.process_answers.specs.declared.telling.Telling.{Telling}
use Rattle.process_answers.specs.Telling.{received_telling, telling_words}
use Rattle.process_answers.proofs.Outcomes.{letter_answered, step_refused, step_taken}
use Rattle.process_answers.proofs.Tellings.{received_is}
use Rattle.process_answers.proofs.Written.{then_lines}

-- what a letter tells, by a host, the version that its silo has seen, and a body
abbrev pub Tells : Telling → Host → (seen : ℕ) → Body → Type 0
Tells telling host seen body =
    (effect : Effect) (delivered : List (List ℕ)) → telling_words telling host.silo effect delivered ≡ body_words body host seen effect
    delivered

pub letter_taken : (letter : Letter) (s new : SiloValue) (telling : Telling) (host : Host) (seen : ℕ) (body : Body) (address : Silo)
    (kind : LetterKind) (answer : Answer) (letters : List Letter) (before between after : List ℕ)
    → silo_eq letter.to s.node.host.silo ≡ true → receives s letter ≡ Ok (stepped_as new answer) → new.membership ≡ s.membership
    → Tells telling host seen body → host ≡ s.node.host → seen ≡ s.node.view.version → body ≡ letter.body → address ≡ s.node.host.silo
    → kind ≡ kind_of letter.body → letters ≡ answer.letters.items
    → between ≡ before ++ printed (sentence (received_telling telling address kind answer.effect))
    → after ≡ between ++ text_of_lines (map letter_line letters)
    → IsAnswered (received_so letter s) before new after false
letter_taken letter s new telling host seen body address kind answer letters before between after own outcome same tells host_is seen_is
    body_is address_is kind_is letters_are first then =
    let told = subst (λ (h : Host). Tells telling h s.node.view.version letter.body) host_is
    (subst (λ (n : ℕ). Tells telling host n letter.body) seen_is (subst (λ (b : Body). Tells telling host seen b) body_is tells)) in
    let words : received_telling telling address kind answer.effect ≡ received_words s.node.host s.node.view.version letter answer.effect =
    ap (λ (a : Silo). received_telling telling a kind answer.effect) address_is
    ∙ (ap (λ (k : LetterKind). received_telling telling s.node.host.silo k answer.effect) kind_is
    ∙ received_is telling s.node.host s.node.view.version letter answer.effect told) in
    letter_answered letter s new before after own
    (step_taken (received_words s.node.host s.node.view.version letter) (receives s letter) s new answer before after outcome same
    (then_lines before between after (sentence (received_words s.node.host s.node.view.version letter answer.effect))
    (map letter_line answer.letters.items)
    (first ∙ ap (λ (ws : List (List ℕ)). before ++ printed (sentence ws)) words)
    (then ∙ ap (λ (ls : List Letter). between ++ text_of_lines (map letter_line ls)) letters_are)))

pub letter_refused : (letter : Letter) (s new : SiloValue) (excused : Result Stepped ℕ → Type 0) (number : Option ℕ) (before after : List ℕ)
    → silo_eq letter.to s.node.host.silo ≡ true
    → RefusesBy excused number (receives s letter) → IsSomeAnd number (λ n. after ≡ before ++ printed (refusal_line n)) → new ≡ s
    → IsAnswered (received_so letter s) before new after false
letter_refused letter s new excused number before after own refuses written same =
    letter_answered letter s new before after own (step_refused (received_words s.node.host s.node.view.version letter) excused
    (receives s letter) s new number before after refuses written same)

-- There may always be an exchange: one letter after the other comes, and the answer to it.
use Rattle.std.proofs.Common.{arith, ◌≡◌, refl, ap, subst, ◌∙◌, ℕ, zero, suc, ◌+◌, List, [], ◌∷◌, length}
use Rattle.std.specs.Prelude.{All, slice_get, Some}
use Rattle.std.proofs.lemmas.List.Elements.{All-nil, All-cons}
use Rattle.silo_address.specs.Silo.{Silo}
use Rattle.directory_rules.specs.declared.own_step.OwnStep.{OwnStep}
use Rattle.directory_rules.specs.declared.own_step.OwnStep.TheVariants.{Nudge, NudgeRanges}
use Rattle.directory_rules.specs.OwnStep.{IsOwnStep}
use Rattle.directory_rules.specs.State.{Letter}
use Rattle.deployment_headline.specs.Deployment.{Deployment}
use Rattle.deployment_headline.specs.Steps.{Step, Do, Receive, IsStep, after, after_all}
use Rattle.deployment_progress.specs.Quiet.{DecidesNone}
use Rattle.deployment_progress.specs.Exchanges.{SendsWants, IsAnswered, ExchangesCanBe}

-- the letters, of which the first one was written after so many others, each with its answer
answering : Deployment → (silo : Silo) → List Letter → (index : ℕ) → List Step
answering d silo [] index = []
answering d silo (letter ∷ letters) index =
    Receive letter.to index ∷ Receive silo (length d.written) ∷ answering
    (after (after d (Receive letter.to index)) (Receive silo (length d.written))) silo letters (suc index)

all_come : (P : Step → Type 0) → ((to : Silo) (k : ℕ) → P (Receive to k))
    → (d : Deployment) (silo : Silo) (letters : List Letter) (index : ℕ) → All P (answering d silo letters index)
unfolding answering
all_come P receives d silo [] index = All-nil P
all_come P receives d silo (letter ∷ letters) index =
    let next = after (after d (Receive letter.to index)) (Receive silo (length d.written)) in
    let rest = answering next silo letters (suc index) in
    All-cons P (Receive letter.to index) (Receive silo (length d.written) ∷ rest) (receives letter.to index)
    (All-cons P (Receive silo (length d.written)) rest (receives silo (length d.written))
    (all_come P receives next silo letters (suc index)))

has_answer : (d : Deployment) (silo : Silo) (letters : List Letter) (index k : ℕ) (letter : Letter) → slice_get letters k ≡ Some letter
    → IsAnswered d silo (answering d silo letters index) (index + k) letter
unfolding answering after_all
has_answer d silo [] index k letter found = absurd (cc (found))
has_answer d silo (x ∷ xs) index zero letter found =
    let same : x ≡ letter = cc (found) in
    let here : index ≡ index + zero = omega arith in
    let next = after (after d (Receive x.to index)) (Receive silo (length d.written)) in
    record {
      before = [];
      between = [];
      rest = answering next silo xs (suc index);
      is =
          ap (λ (l : Letter). Receive l.to index ∷ Receive silo (length d.written) ∷ answering next silo xs (suc index)) same
          ∙ ap (λ n. Receive letter.to n ∷ Receive silo (length d.written) ∷ answering next silo xs (suc index)) here;
    }
has_answer d silo (x ∷ xs) index (suc k) letter found =
    let next = after (after d (Receive x.to index)) (Receive silo (length d.written)) in
    let a = has_answer next silo xs (suc index) k letter found in
    let there : suc index + k ≡ index + suc k = omega arith in
    subst (λ n. IsAnswered d silo (answering d silo (x ∷ xs) index) n letter) there (record {
      before = Receive x.to index ∷ Receive silo (length d.written) ∷ a.before;
      between = a.between;
      rest = a.rest;
      is = ap (λ l. Receive x.to index ∷ Receive silo (length d.written) ∷ l) a.is;
    })

names_nothing : (part : OwnStep) → SendsWants part → IsOwnStep part
names_nothing Nudge wants = tt
names_nothing NudgeRanges wants = tt
names_nothing other wants = absurd wants

pub exchanges_can_be : ExchangesCanBe
exchanges_can_be d silo part s nudged wants named there is =
    let d1 = after d (Do silo part) in
    let rest = answering d1 silo d1.written 0 in (
      Do silo part ∷ rest,
      All-cons IsStep (Do silo part) rest (named, names_nothing part wants) (all_come IsStep (λ to k. tt) d1 silo d1.written 0),
      All-cons DecidesNone (Do silo part) rest tt (all_come DecidesNone (λ to k. tt) d1 silo d1.written 0),
      record {
        part = part;
        wants = wants;
        nudge = record { process = s; there = there; nudged = nudged; is_nudged = is; rest = rest; begins = refl };
        answered = λ index letter low found want.
            (let here : 0 + index ≡ index = omega arith in
            subst (λ n. IsAnswered d1 silo rest n letter) here (has_answer d1 silo d1.written 0 index letter found));
      },
      refl,
    )

use Rattle.std.proofs.Common.{◌≡◌, ap, sym, ◌∙◌, ℕ, List, Option, Some, Result, subst}
use Rattle.hash_ring.specs.declared.hashing.Hashing.{Hashing}
use Rattle.texts.specs.Words.{words_in}
use Rattle.directory_rules.specs.declared.letter_kind.LetterKind.{LetterKind}
use Rattle.directory_rules.specs.State.{Letter}
use Rattle.process_rules.specs.ReadLetter.{Head, head_of_words, kinds, kind_among, letter_by, form_of, read_letter}
use Rattle.process_lines.specs.Fronts.{Four, four_in}
use Rattle.process_lines.specs.ReadAs.{Reads, head_of, told}
use Rattle.process_lines.specs.Short.{LetterTellsList}
use Rattle.process_lines.proofs.Forms.{letter_front}
use Rattle.process_lines.proofs.read.read_letter.Goals as goal

letter_is : (hashing : Hashing) (words : List (List ℕ)) (four : Four) (kind : LetterKind) (head : Result Head ℕ) → Some four ≡ four_in words
    → Some kind ≡ kind_among kinds four.fourth
    → head ≡ head_of_words four.first four.second four.third → read_letter hashing words ≡ form_of hashing kind head four.behind
letter_is hashing words four kind head first named heads =
    letter_front hashing words four (sym first)
    ∙ ap (λ (kind : Option LetterKind). letter_by kind hashing (head_of_words four.first four.second four.third) four.behind) (sym named)
    ∙ ap (λ (head : Result Head ℕ). form_of hashing kind head four.behind) (sym heads)

pub returns-in_default-kind_of_word-clause-reads : goal.returns-in_default-kind_of_word-clause-reads
returns-in_default-kind_of_word-clause-reads c =
    let front = c.in-Some.front in
    let four : Four = record { first = front.first.now; second = front.second.now; third = front.third.now; fourth = front.fourth.now; behind = words_in front.behind.now } in
    letter_front c.args.hashing (words_in c.args.words.now) four (sym c.in-Some.ensures)
    ∙ ap (λ (kind : Option LetterKind). letter_by kind c.args.hashing (head_of_words four.first four.second four.third) four.behind)
    (sym c.in_default-kind_of_word.ensures)

pub returns-clause-reads : goal.returns-clause-reads
returns-clause-reads c =
    let front = c.in-Some.front in
    let four : Four = record { first = front.first.now; second = front.second.now; third = front.third.now; fourth = front.fourth.now; behind = words_in front.behind.now } in
    let reads = letter_is c.args.hashing (words_in c.args.words.now) four c.in-Some-kind_of_word.kind (told head_of c.read_head-head.result) c.in-Some.ensures c.in-Some-kind_of_word.ensures c.read_head-head.ensures in
    subst (λ (rule : Result Letter ℕ). Reads (λ letter. letter) c.letter_of_kind.result rule) (sym reads) c.letter_of_kind.ensures.reads

pub returns-clause-memory : goal.returns-clause-memory
returns-clause-memory c =
    let front = c.in-Some.front in
    let four : Four = record { first = front.first.now; second = front.second.now; third = front.third.now; fourth = front.fourth.now; behind = words_in front.behind.now } in
    let reads = letter_is c.args.hashing (words_in c.args.words.now) four c.in-Some-kind_of_word.kind (told head_of c.read_head-head.result) c.in-Some.ensures c.in-Some-kind_of_word.ensures c.read_head-head.ensures in
    λ memory. subst LetterTellsList (sym reads) (c.letter_of_kind.ensures.memory memory)

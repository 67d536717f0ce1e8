use Rattle.std.proofs.Common.{◌≡◌, ◌∙◌, ◌++◌, ◌∷◌, [], ap, sym, List, rules}
use Rattle.std.proofs.lemmas.List.{map-append}
use Rattle.texts.specs.Words.{words_in}
use Rattle.directory_rules.specs.Membership as rule
use Rattle.directory_rules.specs.ListedModel.{all_listed_of, listed_of}
use Rattle.process_rules.specs.ReadLine.{listed_in, listed_word}
use Rattle.process_lines.proofs.EachSilo.{behind_these, fails_on, silos_end, silos_fail, silos_first, silos_more}
use Rattle.process_lines.proofs.listed.listed_in.Goals as goal

pub words-init : goal.words-init
words-init c = record {
  read =
      silos_first (words_in c.args.words.now)
      ∙ ap (λ (items : List rule.Listed). behind_these items (listed_in (words_in c.args.words.now)))
      (ap all_listed_of (sym c.new-rows.ensures.items));
  nothing = λ none. none;
}

pub words-preserved : goal.words-preserved
words-preserved c =
    let before = c.words.rows.items in
    let one = c.in_ok-one.one in
    let pushed : c.push.new.self.items ≡ before ++ one ∷ [] = search rules in
    let rows : all_listed_of c.push.new.self.items ≡ all_listed_of before ++ listed_of one ∷ [] = ap all_listed_of pushed ∙ map-append listed_of before (one ∷ []) in
    record {
      read =
          c.words.invariant.read
          ∙ silos_more (words_in c.words.rest.now) (words_in c.in-Some.behind.now) c.in-Some.word.now c.in-Some.ensures.words
          (all_listed_of before) (listed_of one) c.in_ok-one.ensures
          ∙ ap (λ (items : List rule.Listed). behind_these items (listed_in (words_in c.in-Some.behind.now))) (sym rows);
      nothing = λ none. absurd (let word = c.in-Some.ensures.words in let rest = c.words.invariant.nothing none in cc);
    }

pub returns-in_err-one-clause-reads : goal.returns-in_err-one-clause-reads
returns-in_err-one-clause-reads c =
    fails_on c.from_residual.result c.in_err-one.field-0.0 (listed_word c.in-Some.word.now) (listed_in (words_in c.args.words.now))
    (λ rows. all_listed_of rows.items) c.from_residual.ensures.1 c.in_err-one.ensures
    (λ fault is. c.words.invariant.read ∙ silos_fail (words_in c.words.rest.now) (words_in c.in-Some.behind.now) c.in-Some.word.now
    c.in-Some.ensures.words (all_listed_of c.words.rows.items) fault is)

pub returns-in_err-one-clause-memory : goal.returns-in_err-one-clause-memory
returns-in_err-one-clause-memory c memory none =
    let word = c.in-Some.ensures.words in
    let rest = c.words.invariant.nothing none in
    cc

pub returns-then-is_err-clause-memory : goal.returns-then-is_err-clause-memory
returns-then-is_err-clause-memory c memory none =
    let word = c.in-Some.ensures.words in
    let rest = c.words.invariant.nothing none in
    cc

pub returns-clause-reads : goal.returns-clause-reads
returns-clause-reads c =
    c.words.invariant.read ∙ silos_end (all_listed_of c.words.rows.items) (words_in c.words.rest.now) c.in_default.ensures.words

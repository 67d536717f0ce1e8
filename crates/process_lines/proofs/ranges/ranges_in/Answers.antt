use Rattle.std.proofs.Common.{◌≡◌, ap, sym, ◌∙◌, ◌++◌, ◌∷◌, [], List, rules, subst}
use Rattle.texts.specs.Words.{words_in}
use Rattle.ring_range.specs.Range.{Range}
use Rattle.process_rules.specs.ReadLetter.{ranges_in}
use Rattle.process_lines.specs.declared.fault.LineError.{LineError}
use Rattle.process_lines.specs.declared.fault.LineError.TheVariants.{OutOfMemory}
use Rattle.process_lines.specs.ReadAs.{Fails}
use Rattle.process_lines.specs.Short.{AreSome}
use Rattle.process_lines.proofs.EachRange.{ranges_more}
use Rattle.process_lines.proofs.Onto.{onto, has_some}
use Rattle.process_lines.proofs.ranges.ranges_in.Goals as goal

pub words-preserved : goal.words-preserved
words-preserved c =
    let pushed : c.push.new.self.items ≡ c.words.ranges.items ++ c.in_ok-range.range ∷ [] = search rules in
    c.words.invariant
    ∙ ranges_more c.words.ranges.items (words_in c.words.rest.now) (words_in c.in-Some.behind.now) c.in-Some.word.now
    c.in-Some.ensures.words c.in_ok-range.range c.in_ok-range.ensures
    ∙ ap (λ (items : List Range). onto items (ranges_in (words_in c.in-Some.behind.now))) (sym pushed)

pub returns-then-is_err-clause-memory : goal.returns-then-is_err-clause-memory
returns-then-is_err-clause-memory c memory =
    let before = c.words.ranges.items in
    let range = c.in_ok-range.range in
    let behind = ranges_in (words_in c.in-Some.behind.now) in
    let whole = c.words.invariant
    ∙ ranges_more before (words_in c.words.rest.now) (words_in c.in-Some.behind.now) c.in-Some.word.now c.in-Some.ensures.words range
    c.in_ok-range.ensures in
    let out : c.without_memory.result ≡ OutOfMemory = cc memory in
    subst AreSome (sym whole) (has_some before range behind
    (subst (λ (error : LineError). Fails error behind) out c.without_memory.ensures))

use Rattle.std.proofs.Common.{◌≡◌, ap, sym, ◌∙◌, ◌++◌, ◌∷◌, [], List, rules, subst}
use Rattle.texts.specs.Words.{words_in}
use Rattle.silo_address.specs.declared.Entry.{Entry}
use Rattle.process_rules.specs.ReadLetter.{entries_in}
use Rattle.process_lines.specs.declared.fault.LineError.{LineError}
use Rattle.process_lines.specs.declared.fault.LineError.TheVariants.{OutOfMemory}
use Rattle.process_lines.specs.ReadAs.{Fails}
use Rattle.process_lines.specs.Short.{AreSome}
use Rattle.process_lines.proofs.EachEntry.{entries_more}
use Rattle.process_lines.proofs.Onto.{onto, has_some}
use Rattle.process_lines.proofs.entries.entries_in.Goals as goal

pub words-preserved : goal.words-preserved
words-preserved c =
    let pushed : c.push.new.self.items ≡ c.words.entries.items ++ c.in_ok-entry.entry ∷ [] = search rules in
    c.words.invariant
    ∙ entries_more c.words.entries.items (words_in c.words.rest.now) (words_in c.in-Some.behind.now)
    (words_in c.in-Some-split_word.after.now) c.in-Some.grain.now c.in-Some-split_word.activation.now c.in_ok-entry.entry
    c.in-Some.ensures.words c.in-Some-split_word.ensures.words c.in_ok-entry.ensures
    ∙ ap (λ (items : List Entry). onto items (entries_in (words_in c.in-Some-split_word.after.now))) (sym pushed)

pub returns-then-is_err-clause-memory : goal.returns-then-is_err-clause-memory
returns-then-is_err-clause-memory c memory =
    let before = c.words.entries.items in
    let entry = c.in_ok-entry.entry in
    let behind = entries_in (words_in c.in-Some-split_word.after.now) in
    let whole = c.words.invariant
    ∙ entries_more before (words_in c.words.rest.now) (words_in c.in-Some.behind.now) (words_in c.in-Some-split_word.after.now)
    c.in-Some.grain.now c.in-Some-split_word.activation.now entry
    c.in-Some.ensures.words c.in-Some-split_word.ensures.words c.in_ok-entry.ensures in
    let out : c.without_memory.result ≡ OutOfMemory = cc memory in
    subst AreSome (sym whole) (has_some before entry behind
    (subst (λ (error : LineError). Fails error behind) out c.without_memory.ensures))

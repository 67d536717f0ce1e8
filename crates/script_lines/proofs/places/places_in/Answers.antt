use Rattle.std.proofs.Common.{◌≡◌, ◌∙◌, sym, subst, rules}
use Rattle.texts.specs.Words.{words_in}
use Rattle.script_rules.specs.Script.{places_in}
use Rattle.script_lines.specs.declared.error.ReadError.{ReadError}
use Rattle.script_lines.specs.declared.error.ReadError.TheVariants.{OutOfMemory}
use Rattle.script_lines.specs.ReadAs.{Fails, HasPlaces}
use Rattle.script_lines.proofs.Placed.{has_places, places_more}
use Rattle.script_lines.proofs.places.places_in.Goals as goal

pub returns-then-is_err-clause-reads : goal.returns-then-is_err-clause-reads
returns-then-is_err-clause-reads c = search rules

pub returns-then-is_err-clause-memory : goal.returns-then-is_err-clause-memory
returns-then-is_err-clause-memory c memory =
    let before = c.loop-word.places.items in
    let place = c.in_ok-place.place in
    let behind = places_in (words_in c.in-Some.behind.now) in
    let whole = c.loop-word.invariant ∙ places_more before (words_in c.loop-word.rest.now) c.in-Some.word.now (words_in c.in-Some.behind.now) place c.in-Some.ensures.words c.in_ok-place.ensures in
    let out : c.without_memory.result ≡ OutOfMemory = cc memory in
    subst HasPlaces (sym whole) (has_places before place behind
    (subst (λ (error : ReadError). Fails error behind) out c.without_memory.ensures))

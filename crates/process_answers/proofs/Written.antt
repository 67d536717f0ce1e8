-- Lines written behind what stood there.
use Rattle.std.proofs.Common.{◌≡◌, ℕ, ◌+◌, ◌<◌, ◌≤◌, ◌++◌, List, [], ◌∷◌, Result, Ok, Err, length, get_or, take, map, ap, sym, ◌∙◌, append_assoc, append-nil, take_all, subst}
use Rattle.std.specs.Result.{OnErr, OnOk}
use Rattle.std.proofs.lemmas.List.{map-append, take_more}
use Rattle.std.proofs.lemmas.List.Concat.{flat_map-append}
use Rattle.texts.specs.Printed.{text_of_lines}
use Rattle.texts.specs.Words.{line_feed, sentence}
use Rattle.script_lines.specs.Printed.{printed}
use Rattle.script_lines.specs.Spaced.{spaced, BeginsWith}
use Rattle.script_lines.proofs.Fronts.{begins_with_itself, begins_with_the_first}

-- no line
pub no_line : (text : List ℕ) → text ≡ text ++ text_of_lines []
no_line text = sym (append-nil text)

-- one line
pub one_line : (before after line : List ℕ) → after ≡ before ++ printed line → after ≡ before ++ text_of_lines (line ∷ [])
one_line before after line written = written ∙ ap (λ (t : List ℕ). before ++ t) (sym (append-nil (printed line)))

-- lines behind lines
pub lines_behind_lines : (before between after : List ℕ) (lines more : List (List ℕ)) → between ≡ before ++ text_of_lines lines
    → after ≡ between ++ text_of_lines more
    → after ≡ before ++ text_of_lines (lines ++ more)
lines_behind_lines before between after lines more first then =
    then ∙ (ap (λ (t : List ℕ). t ++ text_of_lines more) first
    ∙ (append_assoc before (text_of_lines lines) (text_of_lines more)
    ∙ ap (λ (t : List ℕ). before ++ t) (sym (flat_map-append (λ (line : List ℕ). line ++ line_feed ∷ []) lines more))))

-- lines behind one
pub then_lines : (before between after line : List ℕ) (more : List (List ℕ)) → between ≡ before ++ printed line
    → after ≡ between ++ text_of_lines more
    → after ≡ before ++ text_of_lines (line ∷ more)
then_lines before between after line more first then =
    then ∙ (ap (λ (t : List ℕ). t ++ text_of_lines more) first ∙ append_assoc before (printed line) (text_of_lines more))

-- ---- a line a row
-- one row more
pub row_by_row : {X : Type 0} (line : X → List ℕ) (start now next : List ℕ) (rows : List X) (index : ℕ) (row : X) → index < length rows
    → row ≡ get_or rows index row
    → now ≡ start ++ text_of_lines (map line (take index rows)) → next ≡ now ++ printed (line row)
    → next ≡ start ++ text_of_lines (map line (take (index + 1) rows))
row_by_row {X} line start now next rows index row within is so_far written =
    lines_behind_lines start now next (map line (take index rows)) (line row ∷ []) so_far (one_line now next (line row) written)
    ∙ ap (λ (lines : List (List ℕ)). start ++ text_of_lines lines)
    (sym (map-append line (take index rows) (row ∷ [])) ∙ ap (λ (e : X). map line (take index rows ++ e ∷ [])) is
    ∙ ap (map line) (sym (take_more rows index row within)))

-- all rows
pub each_row : {X : Type 0} (line : X → List ℕ) (start now : List ℕ) (rows : List X) (index : ℕ) → length rows ≤ index
    → now ≡ start ++ text_of_lines (map line (take index rows)) → now ≡ start ++ text_of_lines (map line rows)
each_row {X} line start now rows index past so_far =
    so_far ∙ ap (λ (es : List X). start ++ text_of_lines (map line es)) (take_all index rows past)

-- ---- what stood there stays in front
pub begins_with_more : (front more text : List ℕ) → text ≡ front ++ more → BeginsWith front text
begins_with_more front more text joined = record { more = more; joined = joined }

pub begins_unchanged : (front text : List ℕ) → text ≡ front → BeginsWith front text
begins_unchanged front text same = record { more = []; joined = same ∙ sym (append-nil front) }

-- whether a line was ended or taken back
pub ended_begins : {A E : Type 0} (pushed ended : Result A E) (start : ℕ) (front middle after : List ℕ) (words : List (List ℕ))
    → 0 < length words → start ≡ length front → BeginsWith front middle
    → ended ≡ pushed → OnOk pushed (middle ≡ front ++ spaced words)
    → OnOk ended ((f : List ℕ) (ws : List (List ℕ)) → 0 < length ws → middle ≡ f ++ spaced ws → after ≡ f ++ printed (sentence ws))
    → OnErr ended ((f : List ℕ) → start ≡ length f → BeginsWith f middle → after ≡ f) → BeginsWith front after
ended_begins pushed (Ok value) start front middle after words some start_is begins passed written ends taken =
    begins_with_more front (printed (sentence words)) after
    (ends front words some (subst (λ r. OnOk r (middle ≡ front ++ spaced words)) (sym passed) written))
ended_begins pushed (Err error) start front middle after words some start_is begins passed written ends taken =
    begins_unchanged front after (taken front start_is begins)

pub ruleset line_by_line = (no_line, one_line, then_lines, begins_with_itself, begins_with_the_first, begins_with_more, begins_unchanged)

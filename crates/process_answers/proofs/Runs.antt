-- Runs of a silo's process, by what is answered to each line.
use Rattle.std.proofs.Common.{◌≡◌, ◌∙◌, inl, inr, ℕ, ◌+◌, Bool, true, false, List, [], ◌∷◌, ◌++◌, length, Option, None, Some, Ok, Err, ap, append_assoc, append-nil, refl, subst, sym}
use Rattle.texts.specs.Printed.{Output, text_of_lines}
use Rattle.texts.specs.Words.{line_feed, pieces_at}
use Rattle.silo_rules.specs.SiloValue.{SiloValue}
use Rattle.script_lines.specs.Spaced.{BeginsWith}
use Rattle.script_lines.proofs.Fronts.{begins_with_itself, begins_with_the_first}
use Rattle.process_rules.specs.ReadLine.{unended_fault}
use Rattle.process_rules.specs.Answer.{Answered}
use Rattle.process_rules.specs.Output.{after_last, after_line, answered_to, said, unless_ended, written_on}
use Rattle.line_loop.specs.declared.ended.Ended.{Ended}
use Rattle.line_loop.specs.declared.ended.Ended.TheVariants as ended
use Rattle.line_loop.specs.Endings.{Ends}
use Rattle.line_loop.specs.Lines.{PlaysLines, PlaysOn, PlaysSome, PlaysTo, PrintsLine, is_ended, no_line, then_line}
use Rattle.line_loop.specs.Outputs.{WritesOutput}
use Rattle.process_answers.specs.LineAnswers.{AnswersLine, PlaysLine, PlaysOne, PrintsAnswer, PrintsLines, ends_on, ends_or, most_read}

-- ---- One line.

-- what comes next is written behind it, where the process goes on
next_behind : (it : Answered) (next : SiloValue → List ℕ) (s : SiloValue) (text : List ℕ) → s ≡ it.silo → text ≡ text_of_lines it.lines
    → false ≡ it.ends → after_line it next ≡ text ++ next s
next_behind it next s text silo is ends =
    ap (λ (b : Bool). text_of_lines it.lines ++ unless_ended b next it.silo) (sym ends)
    ∙ (ap (λ (t : List ℕ). t ++ next it.silo) (sym is) ∙ ap (λ (u : SiloValue). text ++ next u) (sym silo))

-- nothing is, where it ends
nothing_behind : (it : Answered) (next : SiloValue → List ℕ) (text : List ℕ) → text ≡ text_of_lines it.lines → true ≡ it.ends
    → after_line it next ≡ text
nothing_behind it next text is ends =
    ap (λ (b : Bool). text_of_lines it.lines ++ unless_ended b next it.silo) (sym ends) ∙ (append-nil (text_of_lines it.lines) ∙ sym is)

goes_on_by : (it : Answered) (next : SiloValue → Bool) (s : SiloValue) → s ≡ it.silo → false ≡ it.ends → ends_or it next ≡ next s
goes_on_by it next s silo ends = ap (λ (b : Bool). ends_or (record it { ends = b }) next) (sym ends) ∙ ap next (sym silo)

written_next : (token : Option (List ℕ)) (s t : SiloValue) (line text next : List ℕ) (more : List (List ℕ))
    → AnswersLine token s line [] t text false
    → written_on token (line ∷ next ∷ more) s ≡ text ++ written_on token (next ∷ more) t
unfolding written_on
written_next token s t line text next more answers =
    next_behind (answered_to token (said line s) s) (written_on token (next ∷ more)) t text answers.silo answers.text answers.stops

written_last : (token : Option (List ℕ)) (s t : SiloValue) (line text next : List ℕ) (more : List (List ℕ))
    → AnswersLine token s line [] t text true → written_on token (line ∷ next ∷ more) s ≡ text
unfolding written_on
written_last token s t line text next more answers =
    nothing_behind (answered_to token (said line s) s) (written_on token (next ∷ more)) text answers.text answers.stops

written_unended : (token : Option (List ℕ)) (s : SiloValue) (rest text : List ℕ) → text ≡ after_last (unended_fault rest)
    → written_on token (rest ∷ []) s ≡ text
unfolding written_on
written_unended token s rest text is = sym is

goes_on_next : (token : Option (List ℕ)) (s t : SiloValue) (line text : List ℕ) (more : List (List ℕ))
    → AnswersLine token s line [] t text false → ends_on token (line ∷ more) s ≡ ends_on token more t
unfolding ends_on
goes_on_next token s t line text more answers =
    goes_on_by (answered_to token (said line s) s) (ends_on token more) t answers.silo answers.stops

no_line_ends : (token : Option (List ℕ)) (s : SiloValue) → ends_on token [] s ≡ false
unfolding ends_on
no_line_ends token s = refl

nothing_written : (token : Option (List ℕ)) (s : SiloValue) → written_on token ([] ∷ []) s ≡ []
unfolding written_on unended_fault
nothing_written token s = refl

-- ---- Lines in a row.

module _ {P S : Type 0} (plays : P → ℕ → List ℕ → Bool → List ℕ → Option S → P → Type 0) (token : P → Option (List ℕ))
    (silo : P → SiloValue)
    (plays_line : (old new : P) (number : ℕ) (line : List ℕ) (ended : Bool) (text : List ℕ) (stop : Option S)
    → plays old number line ended text stop new
    → PlaysOne (token old) (silo old) line ended text stop (token new) (silo new)) (first : P) where
  -- the token stays
  on_keeps : (lines : List (List ℕ)) (text : List ℕ) (now : P) → PlaysOn plays first lines text now → token now ≡ token first
  on_keeps lines text now no_line = refl
  on_keeps lines text now (then_line {lines = front} {text = before} {before = between} on line print made) =
      (plays_line between now (length front + 1) line true print None made).1 ∙ on_keeps front before between on

  -- so a line is played by the first one
  plays_by_it : (old new : P) (number : ℕ) (line : List ℕ) (ended : Bool) (text : List ℕ) (stop : Option S) → token old ≡ token first
      → plays old number line ended text stop new
      → PlaysLine (token first) (silo old) line ended text stop (silo new)
  plays_by_it old new number line ended text stop kept made =
      subst (λ (its : Option (List ℕ)). PlaysLine its (silo old) line ended text stop (silo new)) kept
      (plays_line old new number line ended text stop made).0

  on_behind : (lines : List (List ℕ)) (text : List ℕ) (now : P) → PlaysOn plays first lines text now
      → (next : List ℕ) (more : List (List ℕ))
      → written_on (token first) (lines ++ next ∷ more) (silo first) ≡ text ++ written_on (token first) (next ∷ more) (silo now)
  on_behind lines text now no_line next more = refl
  on_behind lines text now (then_line {lines = front} {text = before} {before = between} on line print made) next more =
      ap (λ (ls : List (List ℕ)). written_on (token first) ls (silo first)) (append_assoc front (line ∷ []) (next ∷ more))
      ∙ (on_behind front before between on line (next ∷ more)
      ∙ (ap (λ (t : List ℕ). before ++ t)
      (written_next (token first) (silo between) (silo now) line print next more
      (plays_by_it between now (length front + 1) line true print None (on_keeps front before between on) made))
      ∙ sym (append_assoc before print (written_on (token first) (next ∷ more) (silo now)))))

  on_goes : (lines : List (List ℕ)) (text : List ℕ) (now : P) → PlaysOn plays first lines text now → (more : List (List ℕ))
      → ends_on (token first) (lines ++ more) (silo first) ≡ ends_on (token first) more (silo now)
  on_goes lines text now no_line more = refl
  on_goes lines text now (then_line {lines = front} {text = before} {before = between} on line print made) more =
      ap (λ (ls : List (List ℕ)). ends_on (token first) ls (silo first)) (append_assoc front (line ∷ []) more)
      ∙ (on_goes front before between on (line ∷ more)
      ∙ goes_on_next (token first) (silo between) (silo now) line print more
      (plays_by_it between now (length front + 1) line true print None (on_keeps front before between on) made))

  -- lines by which the process doesn't end are answered with that text
  pub prints_lines : (lines : List (List ℕ)) (text : List ℕ) → PlaysLines plays first lines text
      → PrintsLines (token first) (silo first) lines text
  prints_lines lines text made = (
    ap (λ (ls : List (List ℕ)). ends_on (token first) ls (silo first)) (sym (append-nil lines))
        ∙ (on_goes lines text made.0 made.1 [] ∙ no_line_ends (token first) (silo made.0)),
    sym (on_behind lines text made.0 made.1 [] [] ∙ (ap (λ (t : List ℕ). text ++ t) (nothing_written (token first) (silo made.0))
        ∙ append-nil text)),
  )

  -- what one line prints is what is answered to one
  pub prints_answer : (text : List ℕ) → PrintsLine plays text → PrintsAnswer text
  prints_answer text made = by made.3 (plays_line made.0 made.5 made.1 made.2 made.3 text made.4 made.6).0
    where
      unended : (fault : Option ℕ) → text ≡ after_last fault → PrintsAnswer text
      unended None is = (token made.0, Ok None, silo made.0, is)
      unended (Some fault) is = (token made.0, Err fault, silo made.0, is)

      by : (ended : Bool) → PlaysLine (token made.0) (silo made.0) made.2 ended text made.4 (silo made.5) → PrintsAnswer text
      by true answers = (token made.0, said made.2 (silo made.0), silo made.0, answers.text)
      by false told = unended (unended_fault made.2) told.1

  -- the last line of a run
  last_line : (between last : P) (number : ℕ) (line more : List ℕ) (stop : Option S) (others : List (List ℕ)) → token between ≡ token first
      → plays between number line (is_ended others) more stop last
      → (stop ≡ None → others ≡ []) → written_on (token first) (line ∷ others) (silo between) ≡ more
  last_line between last number line more stop [] kept made whole =
      written_unended (token first) (silo between) line more (plays_by_it between last number line false more stop kept made).1
  last_line between last number line more None (next ∷ others) kept made whole = absurd (cc (whole refl))
  last_line between last number line more (Some stop) (next ∷ others) kept made whole =
      written_last (token first) (silo between) (silo last) line more next others
      (plays_by_it between last number line true more (Some stop) kept made)

  -- so a run writes all that is answered
  whole_written : (pieces : List (List ℕ)) (text : List ℕ) (stop : Option S) (last : P) → PlaysTo plays first pieces text stop last
      → written_on (token first) pieces (silo first) ≡ text
  whole_written pieces text stop last to =
      ap (λ (ps : List (List ℕ)). written_on (token first) ps (silo first)) to.cut
      ∙ (on_behind to.lines to.before to.between to.on to.line to.others
      ∙ (ap (λ (t : List ℕ). to.before ++ t) (last_line to.between last (length to.lines + 1) to.line to.more stop to.others
      (on_keeps to.lines to.before to.between to.on) to.plays_line to.whole) ∙ sym to.printed))

  -- or some of it
  some_written : (pieces : List (List ℕ)) (text : List ℕ) (last : P) → PlaysSome plays first pieces text last
      → BeginsWith text (written_on (token first) pieces (silo first))
  some_written pieces text last (inl some) = record {
    more = written_on (token first) (some.1 ∷ some.2) (silo last);
    joined = ap (λ (ps : List (List ℕ)). written_on (token first) ps (silo first)) some.3 ∙ on_behind some.0 text last some.4 some.1 some.2;
  }
  some_written pieces text last (inr all) =
      subst (BeginsWith text) (sym (whole_written pieces text all.0 last all.1)) (begins_with_itself text)

  status_0 : (input text : List ℕ) → written_on (token first) (pieces_at line_feed input) (silo first) ≡ text
      → let o : Output = record { text = written_on (token first) (pieces_at line_feed input) (silo first); status = 0 } in
      o ≡ record { text = text; status = 0 }
  status_0 input text is = ap (λ (t : List ℕ). let o : Output = record { text = t; status = 0 } in o) is

  pub writes_output : (last : P) (input : List ℕ) (rest begun written : Option (List ℕ)) (ending : Ended S)
      → Ends plays most_read first last input rest begun written ending
      → WritesOutput (λ _ _. Unit {0}) 0 most_read (record {
        text = written_on (token first) (pieces_at line_feed input) (silo first);
        status = 0;
      }) input rest begun written ending
  writes_output last input rest begun written ended.AtEnd ends = record {
    text = ends.text;
    writes = ends.writes;
    concludes = status_0 input ends.text (whole_written (pieces_at line_feed input) ends.text None last ends.concludes);
    reads = ends.reads;
  }
  writes_output last input rest begun written (ended.Stopped stop) ends = record {
    text = ends.text;
    writes = ends.writes;
    concludes = (status_0 input ends.text (whole_written (pieces_at line_feed input) ends.text (Some stop) last ends.concludes), tt);
    reads = ends.reads;
  }
  writes_output last input rest begun written ended.TooLong ends = record {
    text = ends.text;
    writes = ends.writes;
    concludes = some_written (pieces_at line_feed input) ends.text last ends.concludes;
    reads = ends.reads;
  }
  writes_output last input rest begun written ended.OutOfMemory ends = record {
    text = ends.text;
    writes = ends.writes;
    concludes = some_written (pieces_at line_feed input) ends.text ends.concludes.0 ends.concludes.1;
    reads = ends.reads;
  }
  writes_output last input rest begun written ended.Broken ends = record {
    text = ends.writes.front;
    writes = ends.writes.appends;
    concludes =
        begins_with_the_first ends.writes.front ends.text _ ends.writes.begins
        (some_written (pieces_at line_feed input) ends.text ends.concludes.0 ends.concludes.1);
    reads = ends.reads;
  }

-- Turns, by what the step, the write and the read of each did.
use Rattle.std.proofs.Common.{◌≡◌, ◌∙◌, inr, ℕ, ◌<◌, ◌≤◌, Bool, true, false, List, [], ◌++◌, length, Option, None, Some, IfSome, is_none, ap, append_assoc, append-nil, arith, refl, subst, sym}
use Rattle.std.proofs.lemmas.List.{length-append}
use Rattle.std.specs.Io.KnownBytes.{Appends, Consumes, IsAtEnd}
use Rattle.texts.specs.Words.{line_feed, pieces_at}
use Rattle.line_loop.specs.declared.ended.Ended.{Ended}
use Rattle.line_loop.specs.declared.ended.Ended.TheVariants as ended
use Rattle.line_loop.specs.Calls.{ReadsKnown, WritesKnown, WritesText, has_read, has_read_nothing, has_written, no_call, read_broke, write_broke}
use Rattle.line_loop.specs.Endings.{Concludes, Ends, EndsInTurn, EndsReading, IsDue, MakesCalls, MayWait, Writes}
use Rattle.line_loop.specs.Lines.{PlaysLines, PlaysSome, PrintsLine}
use Rattle.line_loop.specs.Progress.{EndsStep, EndsWithin, HasEnded, HasStepped, IsBegun, PlayedSoFar, Progress, first_progress}
use Rattle.line_loop.specs.Transfers.{Drains, Fills, HasTakenIn}
use Rattle.line_loop.specs.Turns.{Calls, CallsTo, HasRun, SoFar, Turns}
use Rattle.line_loop.proofs.Calls.{all_reads, all_writes, appended, at_its_end, at_its_end_broken, consumed, consumed_broken, front_appended, one_broke}
use Rattle.line_loop.proofs.Played.{all_written, played_first, played_read_on, played_written, some_so_far}

module _ {P S R W : Type 0} (plays : P → ℕ → List ℕ → Bool → List ℕ → Option S → P → Type 0) (most_kept most_read : ℕ)
    (too_long : (old new : P) (number : ℕ) (line more text : List ℕ) (ended : Bool) (stop : Option S) → most_kept < length line
    → plays old number line true text stop new → plays old number (line ++ more) ended text stop new)
    (reads : R → Option (List ℕ) → R → Type 0) (writes : W → List ℕ → Option ℕ → W → Type 0) (first : P) (start : R × W) where
  -- ---- The run goes on.

  -- before the first turn
  pub begins : (at : Progress) → at ≡ first_progress most_read → SoFar plays most_kept most_read reads writes first start first at start
  begins at is = record {
    bytes = [];
    sent = [];
    played = played_first plays most_kept most_read too_long first at is;
    calls = subst (Calls plays most_kept most_read reads writes first start start [] []) (ap (λ (p : Progress). p.ended) (sym is)) no_call;
  }

  -- a step
  pub stepped : (player next : P) (old new : Progress) (now : R × W) → HasStepped plays most_kept most_read player old next new
      → SoFar plays most_kept most_read reads writes first start player old now
      → SoFar plays most_kept most_read reads writes first start next new now
  stepped player next old new now step so_far = record {
    bytes = so_far.bytes;
    sent = so_far.sent;
    played = step.goes_on first so_far.bytes so_far.sent so_far.played;
    calls = subst (Calls plays most_kept most_read reads writes first start now so_far.bytes so_far.sent) (sym step.same_end) so_far.calls;
  }

  -- what waited was written
  pub written : (player : P) (old new : Progress) (source : R) (before after : W) → new ≡ record old { waiting = [] }
      → WritesText writes old.waiting before after true
      → SoFar plays most_kept most_read reads writes first start player old (source, before)
      → SoFar plays most_kept most_read reads writes first start player new (source, after)
  written player old new source before after is made so_far = record {
    bytes = so_far.bytes;
    sent = so_far.sent ++ old.waiting;
    played = played_written plays most_kept most_read too_long first so_far.bytes so_far.sent player old new is so_far.played;
    calls =
        subst (Calls plays most_kept most_read reads writes first start (source, after) so_far.bytes (so_far.sent ++ old.waiting))
        (ap (λ (p : Progress). p.ended) (sym is))
        (has_written so_far.calls old.waiting so_far.played.waits made);
  }

  -- ---- The run ends.

  -- all that waited was written
  pub ends_written : (player last : P) (old : Progress) (source : R) (before after : W) (waiting : List ℕ) (ending : Ended S)
      → EndsStep ending → WritesText writes waiting before after true
      → ((bytes sent : List ℕ) → PlayedSoFar plays most_kept most_read first bytes sent player old
      → MayWait (PrintsLine plays) waiting × HasEnded plays most_read first bytes (sent ++ waiting) last old.ended ending)
      → SoFar plays most_kept most_read reads writes first start player old (source, before)
      → HasRun plays most_kept most_read reads writes first start last (source, after) ending
  ends_written player last old source before after waiting ending is made ends so_far =
      let it = ends so_far.bytes so_far.sent so_far.played in
      record {
        bytes = so_far.bytes;
        text = so_far.sent ++ waiting;
        at_end = old.ended;
        ends = it.1;
        calls = by ending is (has_written so_far.calls waiting it.0 made);
      }
    where
      by : (ending : Ended S) → EndsStep ending → Calls plays most_kept most_read reads writes first start (source, after) so_far.bytes
          (so_far.sent ++ waiting) old.ended
          → CallsTo plays most_kept most_read reads writes first start (source, after) so_far.bytes (so_far.sent ++ waiting) old.ended
          ending
      by ended.AtEnd is calls = calls
      by (ended.Stopped stop) is calls = calls
      by ended.OutOfMemory is calls = calls
      by ended.TooLong is calls = absurd is
      by ended.Broken is calls = absurd is

  -- whatever a run comes to, some of what it played may be written
  some_of_all : (input text : List ℕ) (last : P) (ending : Ended S) → Concludes plays first input text last ending
      → (now : P) × PlaysSome plays first (pieces_at line_feed input) text now
  some_of_all input text last ended.AtEnd all = (last, inr (None, all))
  some_of_all input text last (ended.Stopped stop) all = (last, inr (Some stop, all))
  some_of_all input text last ended.TooLong some = (last, some)
  some_of_all input text last ended.OutOfMemory some = some
  some_of_all input text last ended.Broken some = some

  -- or the write failed
  pub ends_unwritten : (player last : P) (old : Progress) (source : R) (before after : W) (waiting : List ℕ) (ending : Ended S)
      → WritesText writes waiting before after false
      → ((bytes sent : List ℕ) → PlayedSoFar plays most_kept most_read first bytes sent player old
      → MayWait (PrintsLine plays) waiting × HasEnded plays most_read first bytes (sent ++ waiting) last old.ended ending)
      → SoFar plays most_kept most_read reads writes first start player old (source, before)
      → HasRun plays most_kept most_read reads writes first start last (source, after) ended.Broken
  ends_unwritten player last old source before after waiting ending made ends so_far =
      let it = ends so_far.bytes so_far.sent so_far.played in
      record {
        bytes = so_far.bytes;
        text = so_far.sent ++ waiting;
        at_end = old.ended;
        ends =
            record {
              concludes = λ more may. some_of_all (so_far.bytes ++ more) (so_far.sent ++ waiting) last ending
                  (it.1.concludes more may);
              reads = tt;
            };
        calls = write_broke so_far.calls waiting it.0 made;
      }

  -- so it ends where it would have gone on
  pub breaks : (player : P) (old : Progress) (source : R) (before after : W) → WritesText writes old.waiting before after false
      → SoFar plays most_kept most_read reads writes first start player old (source, before)
      → HasRun plays most_kept most_read reads writes first start player (source, after) ended.Broken
  breaks player old source before after made so_far =
      ends_unwritten player player old source before after old.waiting ended.OutOfMemory made
      (λ bytes sent played. (
        played.waits,
        record {
          concludes = λ more may.
              (player, some_so_far plays most_kept most_read too_long first bytes sent player old played more);
          reads = tt;
        },
      )) so_far

  -- ---- A read.

  module _ (player : P) (old new : Progress) (before after : R) (sink : W) (goes_on : old.ended ≡ false) (begun : IsBegun most_kept old)
      (none : old.waiting ≡ []) (so_far : SoFar plays most_kept most_read reads writes first start player old (before, sink)) where
    due : IsDue most_kept most_read (PlaysLines plays first) so_far.bytes so_far.sent
    due = all_written plays most_kept most_read too_long first so_far.bytes so_far.sent player old begun none so_far.played

    calls_on : Calls plays most_kept most_read reads writes first start (before, sink) so_far.bytes so_far.sent false
    calls_on = subst (Calls plays most_kept most_read reads writes first start (before, sink) so_far.bytes so_far.sent) goes_on so_far.calls

    some_read : (got more : List ℕ) → PlaysSome plays first (pieces_at line_feed ((so_far.bytes ++ got) ++ more)) so_far.sent player
    some_read got more =
        subst (λ (input : List ℕ). PlaysSome plays first (pieces_at line_feed input) so_far.sent player)
        (sym (append_assoc so_far.bytes got more))
        (subst (λ (t : List ℕ). PlaysSome plays first (pieces_at line_feed (so_far.bytes ++ (got ++ more))) t player)
        (ap (λ (w : List ℕ). so_far.sent ++ w) none ∙ append-nil so_far.sent)
        (some_so_far plays most_kept most_read too_long first so_far.bytes so_far.sent player old so_far.played (got ++ more)))

    -- gave more, or nothing
    pub read_on : (got : List ℕ) → reads before (Some got) after → length got ≤ 65536 → HasTakenIn old got new
        → SoFar plays most_kept most_read reads writes first start player new (after, sink)
    read_on got once fits taken = record {
      bytes = so_far.bytes ++ got;
      sent = so_far.sent;
      played = played_read_on plays most_kept most_read too_long first so_far.bytes so_far.sent got player old new taken so_far.played;
      calls = by new.ended refl;
    }
      where
        by : (over : Bool) → new.ended ≡ over → Calls plays most_kept most_read reads writes first start (after, sink) (so_far.bytes ++ got)
            so_far.sent over
        by false is = has_read calls_on due got (taken.goes_on is) fits once
        by true is =
            let nothing = taken.at_end is in
            subst (λ (bs : List ℕ). Calls plays most_kept most_read reads writes first start (after, sink) bs so_far.sent true)
            (sym (append-nil so_far.bytes) ∙ ap (λ (bs : List ℕ). so_far.bytes ++ bs) (sym nothing))
            (has_read_nothing calls_on due (subst (λ (bs : List ℕ). reads before (Some bs) after) nothing once))

    -- it ends the run
    pub read_ends : (ending : Ended S) → Fills reads before old after new (Some ending)
        → HasRun plays most_kept most_read reads writes first start player (after, sink) ending
    read_ends ended.AtEnd fill = absurd fill
    read_ends (ended.Stopped stop) fill = absurd fill
    read_ends ended.TooLong fill = record {
      bytes = so_far.bytes ++ fill.0;
      text = so_far.sent;
      at_end = false;
      ends = record {
        concludes = λ more may. some_read fill.0 more;
        reads = omega (arith, fill.3, so_far.played.counted, length-append so_far.bytes fill.0);
      };
      calls = has_read calls_on due fill.0 (omega (arith, fill.3)) fill.2 fill.1;
    }
    read_ends ended.OutOfMemory fill = record {
      bytes = so_far.bytes;
      text = so_far.sent;
      at_end = false;
      ends = record {
        concludes =
            λ more may. (
              player,
              subst (λ (bs : List ℕ). PlaysSome plays first (pieces_at line_feed (bs ++ more)) so_far.sent player)
                  (append-nil so_far.bytes) (some_read [] more),
            );
        reads = tt;
      };
      calls =
          subst (λ (r : R). Calls plays most_kept most_read reads writes first start (r, sink) so_far.bytes so_far.sent false) (sym fill)
          calls_on;
    }
    read_ends ended.Broken fill = record {
      bytes = so_far.bytes;
      text = so_far.sent;
      at_end = false;
      ends = record {
        concludes =
            λ more may. (
              player,
              subst (λ (bs : List ℕ). PlaysSome plays first (pieces_at line_feed (bs ++ more)) so_far.sent player)
                  (append-nil so_far.bytes) (some_read [] more),
            );
        reads = tt;
      };
      calls = read_broke calls_on due fill;
    }

  -- without memory for a session no call is made
  pub not_begun : HasRun plays most_kept most_read reads writes first start first start ended.OutOfMemory
  not_begun = record {
    bytes = [];
    text = [];
    at_end = false;
    ends = record {
      concludes =
          λ more may. (
            first,
            some_so_far plays most_kept most_read too_long first [] [] first (first_progress most_read)
                (played_first plays most_kept most_read too_long first (first_progress most_read) refl) more,
          );
      reads = tt;
    };
    calls = no_call;
  }

  -- ---- What that says.

  -- of the calls
  pub in_turn : (last : P) (now : R × W) (ending : Ended S) → HasRun plays most_kept most_read reads writes first start last now ending
      → EndsInTurn reads writes most_kept most_read (PlaysLines plays first) (PrintsLine plays) start now ending
  in_turn last now ended.AtEnd run = (run.bytes, run.text, run.at_end, run.calls)
  in_turn last now (ended.Stopped stop) run = (run.bytes, run.text, run.at_end, run.calls)
  in_turn last now ended.TooLong run = (run.bytes, run.text, run.at_end, run.calls)
  in_turn last now ended.OutOfMemory run = (run.bytes, run.text, run.at_end, run.calls)
  in_turn last now ended.Broken run = (run.bytes, run.text, run.at_end, run.calls)

  -- of the source and of the sink
  pub of_each : (now : R × W) (ending : Ended S) → EndsInTurn reads writes most_kept most_read (PlaysLines plays first) (PrintsLine plays)
      start now ending → MakesCalls reads writes start now ending
  of_each now ended.Broken it = one_broke reads writes _ _ start S now it.0 it.1 it.2 it.3
  of_each now other it =
      (all_reads reads writes _ _ start now it.0 it.1 it.2 it.3, all_writes reads writes _ _ start now it.0 it.1 it.2 it.3)

  module _ (remaining : R → Option (List ℕ)) (contents : W → Option (List ℕ))
      (source_known : (old : R) (got : Option (List ℕ)) (new : R) → reads old got new → ReadsKnown (remaining old) got (remaining new))
      (sink_known : (old : W) (bytes : List ℕ) (took : Option ℕ) (new : W) → writes old bytes took new
      → WritesKnown (contents old) bytes took (contents new)) where
    -- what the source still has
    rest_of : (input rest bytes : List ℕ) → input ≡ bytes ++ rest → (at_end : Bool) → (at_end ≡ true → rest ≡ []) → (ending : Ended S)
        → EndsWithin most_read bytes at_end ending → EndsReading most_read input (Some rest) ending
    rest_of input rest bytes is at_end over ended.AtEnd within =
        (omega (arith, within.1, ap length is, length-append bytes rest, ap length (over within.0)), over within.0)
    rest_of input rest bytes is at_end over (ended.Stopped stop) within = tt
    rest_of input rest bytes is at_end over ended.TooLong within = omega (arith, within, ap length is, length-append bytes rest)
    rest_of input rest bytes is at_end over ended.OutOfMemory within = tt
    rest_of input rest bytes is at_end over ended.Broken within = tt

    -- of the input, and of what is written
    ends_so : (last : P) (now : R × W) (ending : Ended S) (input : List ℕ) (rest : Option (List ℕ)) (bytes text : List ℕ) (at_end : Bool)
        → HasEnded plays most_read first bytes text last at_end ending
        → Consumes (Some input) rest bytes → (at_end ≡ true → IsAtEnd rest) → Writes text (contents start.1) (contents now.1) ending
        → Ends plays most_read first last input rest (contents start.1) (contents now.1) ending
    ends_so last now ending input None bytes text at_end ends consumes over writes_so = absurd consumes
    ends_so last now ending input (Some rest) bytes text at_end ends consumes over writes_so = record {
      text = text;
      concludes = subst (λ (all : List ℕ). Concludes plays first all text last ending) (sym consumes) (ends.concludes rest over);
      writes = writes_so;
      reads = rest_of input rest bytes consumes at_end over ending ends.reads;
    }

    ends_by : (last : P) (now : R × W) (ending : Ended S) (known : Option (List ℕ)) → remaining start.0 ≡ known
        → HasRun plays most_kept most_read reads writes first start last now ending
        → IfSome known (λ input. Ends plays most_read first last input (remaining now.0) (contents start.1) (contents now.1) ending)
    ends_by last now ending None is run = tt
    ends_by last now ending (Some input) is run = by ending run
      where
        well : (ending : Ended S) (bytes text : List ℕ) (at_end : Bool) → HasEnded plays most_read first bytes text last at_end ending
            → Writes text (contents start.1) (contents now.1) ending
            → Calls plays most_kept most_read reads writes first start now bytes text at_end
            → Ends plays most_read first last input (remaining now.0) (contents start.1) (contents now.1) ending
        well ending bytes text at_end ends writes_so calls =
            ends_so last now ending input (remaining now.0) bytes text at_end ends
            (subst (λ (k : Option (List ℕ)). Consumes k (remaining now.0) bytes) is
            (consumed reads writes _ _ start remaining contents source_known sink_known now bytes text at_end calls))
            (at_its_end reads writes _ _ start remaining contents source_known sink_known now bytes text at_end calls) writes_so

        text_of : (bytes text : List ℕ) (at_end : Bool) → Calls plays most_kept most_read reads writes first start now bytes text at_end
            → Appends (contents start.1) (contents now.1) text
        text_of bytes text at_end calls =
            appended reads writes _ _ start remaining contents source_known sink_known now bytes text at_end calls

        by : (ending : Ended S) → HasRun plays most_kept most_read reads writes first start last now ending
            → Ends plays most_read first last input (remaining now.0) (contents start.1) (contents now.1) ending
        by ended.AtEnd run =
            well ended.AtEnd run.bytes run.text run.at_end run.ends (text_of run.bytes run.text run.at_end run.calls) run.calls
        by (ended.Stopped stop) run =
            well (ended.Stopped stop) run.bytes run.text run.at_end run.ends (text_of run.bytes run.text run.at_end run.calls) run.calls
        by ended.TooLong run =
            well ended.TooLong run.bytes run.text run.at_end run.ends (text_of run.bytes run.text run.at_end run.calls) run.calls
        by ended.OutOfMemory run =
            well ended.OutOfMemory run.bytes run.text run.at_end run.ends (text_of run.bytes run.text run.at_end run.calls) run.calls
        by ended.Broken run =
            ends_so last now ended.Broken input (remaining now.0) run.bytes run.text run.at_end run.ends
            (subst (λ (k : Option (List ℕ)). Consumes k (remaining now.0) run.bytes) is
            (consumed_broken reads writes _ _ start remaining contents source_known sink_known now run.bytes run.text run.at_end run.calls))
            (at_its_end_broken reads writes _ _ start remaining contents source_known sink_known now run.bytes run.text run.at_end
            run.calls)
            (front_appended reads writes _ _ start remaining contents source_known sink_known now run.bytes run.text run.at_end run.calls)

    pub ends : (last : P) (now : R × W) (ending : Ended S) → HasRun plays most_kept most_read reads writes first start last now ending
        → IfSome (remaining start.0) (λ input. Ends plays most_read first last input (remaining now.0) (contents start.1) (contents now.1)
        ending)
    ends last now ending run = ends_by last now ending (remaining start.0) refl run

-- ---- Turns.

module _ {P S R W : Type 0} (plays : P → ℕ → List ℕ → Bool → List ℕ → Option S → P → Type 0) (most_kept most_read : ℕ)
    (too_long : (old new : P) (number : ℕ) (line more text : List ℕ) (ended : Bool) (stop : Option S) → most_kept < length line
    → plays old number line true text stop new → plays old number (line ++ more) ended text stop new)
    (reads : R → Option (List ℕ) → R → Type 0) (writes : W → List ℕ → Option ℕ → W → Type 0) (player next : P) (old late new : Progress)
    (before : R) (sink after : W) where
  -- a step, and what waits written
  pub drained : (result : Option (Ended S)) → HasStepped plays most_kept most_read player old next late → Drains late new result
      → WritesText writes late.waiting sink after (is_none result)
      → Turns plays most_kept most_read reads writes player old (before, sink) next new (before, after) result
  drained None step drain made = λ first start so_far.
      written plays most_kept most_read too_long reads writes first start next late new before sink after drain made
      (stepped plays most_kept most_read too_long reads writes first start player next old late (before, sink) step so_far)
  drained (Some ended.Broken) step drain made = λ first start so_far.
      breaks plays most_kept most_read too_long reads writes first start next late before sink after made
      (stepped plays most_kept most_read too_long reads writes first start player next old late (before, sink) step so_far)
  drained (Some ended.AtEnd) step drain made = absurd drain
  drained (Some (ended.Stopped stop)) step drain made = absurd drain
  drained (Some ended.TooLong) step drain made = absurd drain
  drained (Some ended.OutOfMemory) step drain made = absurd drain

  -- and more read behind that
  pub filled_then : (last : Progress) (read : R) (result : Option (Ended S)) → HasStepped plays most_kept most_read player old next late
      → late.ended ≡ false → IsBegun most_kept late → new ≡ record late { waiting = [] }
      → WritesText writes late.waiting sink after true → Fills reads before new read last result
      → Turns plays most_kept most_read reads writes player old (before, sink) next last (read, after) result
  filled_then last read result step goes begun drain made fill = by result fill
    where
      so_late : (first : P) (start : R × W) → SoFar plays most_kept most_read reads writes first start player old (before, sink)
          → SoFar plays most_kept most_read reads writes first start next new (before, after)
      so_late = drained None step drain made

      goes_on : new.ended ≡ false
      goes_on = ap (λ (p : Progress). p.ended) drain ∙ goes

      still : IsBegun most_kept new
      still = subst (IsBegun most_kept) (sym drain) (record { one_piece = begun.one_piece; fits = begun.fits; passed = begun.passed })

      none : new.waiting ≡ []
      none = ap (λ (p : Progress). p.waiting) drain

      by : (result : Option (Ended S)) → Fills reads before new read last result
          → Turns plays most_kept most_read reads writes player old (before, sink) next last (read, after) result
      by None fill = λ first start so_far.
          read_on plays most_kept most_read too_long reads writes first start next new last before read after goes_on still none
          (so_late first start so_far) fill.0 fill.1 fill.2 fill.3
      by (Some ending) fill = λ first start so_far.
          read_ends plays most_kept most_read too_long reads writes first start next new last before read after goes_on still none
          (so_late first start so_far) ending fill

  -- a step that ends the run, and what waits written
  pub ended_then : (ending : Ended S) → EndsStep ending
      → ((first : P) (bytes sent : List ℕ) → PlayedSoFar plays most_kept most_read first bytes sent player old
      → MayWait (PrintsLine plays) late.waiting × HasEnded plays most_read first bytes (sent ++ late.waiting) next old.ended ending)
      → WritesText writes late.waiting sink after true
      → Turns plays most_kept most_read reads writes player old (before, sink) next new (before, after) (Some ending)
  ended_then ending is ends made = λ first start so_far.
      ends_written plays most_kept most_read too_long reads writes first start player next old before sink after late.waiting ending is made
      (ends first) so_far

  -- or not
  pub broken_then : (ending broken : Ended S)
      → ((first : P) (bytes sent : List ℕ) → PlayedSoFar plays most_kept most_read first bytes sent player old
      → MayWait (PrintsLine plays) late.waiting × HasEnded plays most_read first bytes (sent ++ late.waiting) next old.ended ending)
      → Drains late new (Some broken) → WritesText writes late.waiting sink after false
      → Turns plays most_kept most_read reads writes player old (before, sink) next new (before, after) (Some broken)
  broken_then ending ended.Broken ends drain made = λ first start so_far.
      ends_unwritten plays most_kept most_read too_long reads writes first start player next old before sink after late.waiting ending made
      (ends first) so_far
  broken_then ending ended.AtEnd ends drain made = absurd drain
  broken_then ending (ended.Stopped stop) ends drain made = absurd drain
  broken_then ending ended.TooLong ends drain made = absurd drain
  broken_then ending ended.OutOfMemory ends drain made = absurd drain

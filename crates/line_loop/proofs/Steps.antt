-- Steps, by what each did.
use Rattle.std.proofs.Common.{◌≡◌, ◌∙◌, ℕ, suc, ◌<◌, ◌≤◌, Bool, true, false, true≢false, List, [], ◌++◌, length, take, Option, None, Some, ap, arith, refl, subst, sym}
use Rattle.std.proofs.lemmas.List.{length-drop}
use Rattle.line_loop.specs.declared.ended.Ended.{Ended}
use Rattle.line_loop.specs.declared.ended.Ended.TheVariants as ended
use Rattle.line_loop.specs.Endings.{MayWait, most_waiting}
use Rattle.line_loop.specs.Lines.{PrintsLine}
use Rattle.line_loop.specs.Pieces.{IsEndedAfter, IsOnePiece}
use Rattle.line_loop.specs.Progress.{EndsStep, HasEnded, HasStepped, IsBegun, PlayedSoFar, PlaysPart, Progress, behind_line, work}
use Rattle.line_loop.proofs.LastLines.{ended_is_next, ends_at_last, ends_by_line, ends_over, last_is_next, long_is_next}
use Rattle.line_loop.proofs.Played.{passed_all, passed_line, played_line, played_long}

-- a line is work done
work_behind : (at : Progress) (count : ℕ) → count < length at.held → work (behind_line count at) < work at
work_behind at count within = omega (arith, length-drop (suc count) at.held, within)

module _ {P S : Type 0} (plays : P → ℕ → List ℕ → Bool → List ℕ → Option S → P → Type 0) (most_kept most_read : ℕ)
    (too_long : (old new : P) (number : ℕ) (line more text : List ℕ) (ended : Bool) (stop : Option S) → most_kept < length line
    → plays old number line true text stop new → plays old number (line ++ more) ended text stop new)
    (player next : P) (old late new : Progress) where
  -- a line was passed over up to its line feed
  pub passes_line : (count : ℕ) → old.passes_over ≡ true → IsEndedAfter old.held (Some count) → new ≡ behind_line count old
      → HasStepped plays most_kept most_read player old player new × (work new < work old)
  passes_line count over found is = (
    record {
      same_end = ap (λ (p : Progress). p.ended) is;
      goes_on =
          λ first bytes sent so_far. passed_line plays most_kept most_read too_long first bytes sent player old new count over found is
          so_far;
    },
    subst (λ (p : Progress). work p < work old) (sym is) (work_behind old count found.0),
  )

  -- or was played
  pub plays_ended : (count : ℕ) → old.passes_over ≡ false → length old.waiting < most_waiting → IsEndedAfter old.held (Some count)
      → PlaysPart plays player old (take count old.held) true next late None → new ≡ behind_line count late
      → HasStepped plays most_kept most_read player old next new × (work new < work old)
  plays_ended count over short found part is = (
    record {
      same_end = ap (λ (p : Progress). p.ended) (is ∙ ap (behind_line count) part.1);
      goes_on =
          λ first bytes sent so_far. played_line plays most_kept most_read too_long first bytes sent player next old late new count over
          short found part is so_far;
    },
    subst (λ (p : Progress). work p < work old) (sym (is ∙ ap (behind_line count) part.1)) (work_behind old count found.0),
  )

  -- one that is too long was
  pub plays_long : old.passes_over ≡ false → length old.waiting < most_waiting → IsOnePiece old.held → most_kept < length old.held
      → PlaysPart plays player old old.held true next late None
      → new ≡ record late { held = []; passes_over = true }
      → HasStepped plays most_kept most_read player old next new × (work new < work old)
  plays_long over short one long part is =
      let whole : new ≡ record old { waiting = late.waiting; held = []; passes_over = true } = is ∙ ap (λ (p : Progress). let q : Progress = record p { held = []; passes_over = true } in q) part.1 in (
        record {
          same_end = ap (λ (p : Progress). p.ended) whole;
          goes_on =
              λ first bytes sent so_far. played_long plays most_kept most_read too_long first bytes sent player next old late new over short
              one long part is so_far;
        },
        subst (λ (p : Progress). work p < work old) (sym whole) (omega (arith, long)),
      )

  -- all that is held was passed over
  pub passes_all : old.passes_over ≡ true → old.ended ≡ false → IsOnePiece old.held → new ≡ record old { held = [] }
      → HasStepped plays most_kept most_read player old player new × (work new ≤ work old) × (new.ended ≡ false) × IsBegun most_kept new
  passes_all over goes one is = (
    record {
      same_end = ap (λ (p : Progress). p.ended) is;
      goes_on = λ first bytes sent so_far. passed_all plays most_kept most_read too_long first bytes sent player old new over one is so_far;
    },
    subst (λ (p : Progress). work p ≤ work old) (sym is) (omega arith),
    ap (λ (p : Progress). p.ended) is ∙ goes,
    subst (IsBegun most_kept) (sym is) (record { one_piece = refl; fits = omega arith; passed = λ is_over. refl }),
  )

  -- more of a line is wanted
  pub wants : old.passes_over ≡ false → old.ended ≡ false → IsOnePiece old.held → length old.held ≤ most_kept → new ≡ old
      → HasStepped plays most_kept most_read player old player new × (work new ≤ work old) × (new.ended ≡ false) × IsBegun most_kept new
  wants over goes one fits is = (
    record {
      same_end = ap (λ (p : Progress). p.ended) is;
      goes_on =
          λ first bytes sent so_far. subst (λ (p : Progress). PlayedSoFar plays most_kept most_read first bytes sent player p) (sym is)
          so_far;
    },
    subst (λ (p : Progress). work p ≤ work old) (sym is) (omega arith),
    ap (λ (p : Progress). p.ended) is ∙ goes,
    subst (IsBegun most_kept) (sym is) (record {
      one_piece = one;
      fits = fits;
      passed = λ is_over. absurd (true≢false (sym is_over ∙ over));
    }),
  )

  -- ---- The run ends.

  by_line : (line : List ℕ) (feed : Bool) (ending : Ended S) → PlaysPart plays player old line feed next new (Some ending) → EndsStep ending
  by_line line feed ended.AtEnd part = absurd part
  by_line line feed (ended.Stopped stop) part = tt
  by_line line feed ended.OutOfMemory part = tt
  by_line line feed ended.TooLong part = absurd part
  by_line line feed ended.Broken part = absurd part

  -- a run that ends so
  abbrev pub EndsSo : (last : P) → Ended S → Type 0
  EndsSo last ending =
      EndsStep ending × ((first : P) (bytes sent : List ℕ) → PlayedSoFar plays most_kept most_read first bytes sent player old
      → MayWait (PrintsLine plays) new.waiting × HasEnded plays most_read first bytes (sent ++ new.waiting) last old.ended ending)

  -- by a line that a line feed ended
  pub ends_there : (count : ℕ) (ending : Ended S) → old.passes_over ≡ false → length old.waiting < most_waiting
      → IsEndedAfter old.held (Some count) → PlaysPart plays player old (take count old.held) true next new (Some ending)
      → EndsSo next ending
  ends_there count ending over short found part = (
    by_line (take count old.held) true ending part,
    λ first bytes sent so_far. ends_by_line plays most_kept most_read too_long first bytes sent player next old new (take count old.held)
        true ending over short so_far
        (λ more may. ended_is_next plays most_kept most_read too_long first bytes sent player old so_far count over found more) part,
  )

  -- by one that is too long
  pub ends_long : (ending : Ended S) → old.passes_over ≡ false → length old.waiting < most_waiting → IsOnePiece old.held
      → most_kept < length old.held → PlaysPart plays player old old.held true next new (Some ending) → EndsSo next ending
  ends_long ending over short one long part = (
    by_line old.held true ending part,
    λ first bytes sent so_far. ends_by_line plays most_kept most_read too_long first bytes sent player next old new old.held true ending
        over short so_far
        (λ more may. long_is_next plays most_kept most_read too_long first bytes sent player old so_far over one long more) part,
  )

  -- by the last
  pub ends_last : (ending : Ended S) → old.passes_over ≡ false → old.ended ≡ true → length old.waiting < most_waiting → IsOnePiece old.held
      → PlaysPart plays player old old.held false next new (Some ending) → EndsSo next ending
  ends_last ending over end short one part = (
    by_line old.held false ending part,
    λ first bytes sent so_far. ends_by_line plays most_kept most_read too_long first bytes sent player next old new old.held false ending
        over short so_far
        (λ more may. last_is_next plays most_kept most_read too_long first bytes sent player old so_far over one more (may end)) part,
  )

  -- at the end, behind the last line
  pub ends_whole : old.passes_over ≡ false → old.ended ≡ true → length old.waiting < most_waiting → IsOnePiece old.held
      → PlaysPart plays player old old.held false next new None → EndsSo next ended.AtEnd
  ends_whole over end short one part = (
    tt,
    λ first bytes sent so_far. ends_at_last plays most_kept most_read too_long first bytes sent player next old new over end short
        one part so_far,
  )

  -- or behind one that is too long
  pub ends_passed : old.passes_over ≡ true → old.ended ≡ true → IsOnePiece old.held → new ≡ record old { held = [] }
      → EndsSo player ended.AtEnd
  ends_passed over end one is =
      (tt, λ first bytes sent so_far. ends_over plays most_kept most_read too_long first bytes sent player old new over end one is so_far)

-- The line that a run ends by.
use Rattle.std.proofs.Common.{◌≡◌, ◌∙◌, ℕ, suc, ◌+◌, ◌<◌, Bool, true, false, List, [], ◌∷◌, ◌++◌, length, take, drop, Option, None, Some, ap, append_assoc, append-nil, arith, refl, subst, sym}
use Rattle.texts.specs.Words.{line_feed, pieces_at}
use Rattle.line_loop.specs.declared.ended.Ended.{Ended}
use Rattle.line_loop.specs.declared.ended.Ended.TheVariants as ended
use Rattle.line_loop.specs.Endings.{MayWait, most_waiting}
use Rattle.line_loop.specs.Lines.{PlaysSome, PrintsLine, is_ended}
use Rattle.line_loop.specs.Pieces.{IsEndedAfter, IsOnePiece}
use Rattle.line_loop.specs.Progress.{HasEnded, PlayedSoFar, PlaysPart, Progress}
use Rattle.line_loop.proofs.Pieces.{cut_held, ended_piece, first_piece, goes_on_behind, pieces_behind}
use Rattle.line_loop.proofs.Played.{none_over, plays_to, some_over, some_so_far, waits_more}

module _ {P S : Type 0} (plays : P → ℕ → List ℕ → Bool → List ℕ → Option S → P → Type 0) (most_kept most_read : ℕ)
    (too_long : (old new : P) (number : ℕ) (line more text : List ℕ) (ended : Bool) (stop : Option S) → most_kept < length line
    → plays old number line true text stop new → plays old number (line ++ more) ended text stop new) (first : P) where
  -- ---- Which line it is.

  -- some bytes are played as a line that stands behind those so far, whatever may still be read
  pub record IsNextLine (bytes sent : List ℕ) (player : P) (at : Progress)
      (so_far : PlayedSoFar plays most_kept most_read first bytes sent player at) (line : List ℕ) (feed : Bool) (more : List ℕ) : Type
      0 where
    pub whole : List ℕ
    pub others : List (List ℕ)
    pub cut : pieces_at line_feed (bytes ++ more) ≡ so_far.lines ++ whole ∷ others
    pub same : (next : P) (text : List ℕ) (stop : Option S) → plays player (length so_far.lines + 1) line feed text stop next
        → plays player (length so_far.lines + 1) whole (is_ended others) text stop next

  -- one whose line feed was found
  pub ended_is_next : (bytes sent : List ℕ) (player : P) (at : Progress)
      (so_far : PlayedSoFar plays most_kept most_read first bytes sent player at) (count : ℕ) → at.passes_over ≡ false
      → IsEndedAfter at.held (Some count) → (more : List ℕ)
      → IsNextLine bytes sent player at so_far (take count at.held) true more
  ended_is_next bytes sent player at so_far count over found more =
      let none = none_over plays most_kept most_read too_long first so_far.lines so_far.begun (sent ++ at.waiting) player at.passes_over over so_far.played in
      let line = take count at.held in
      let rest = drop (suc count) at.held in
      let behind = first_piece (rest ++ more) in
      let held : at.held ++ more ≡ line ++ line_feed ∷ (rest ++ more) = ap (λ (bs : List ℕ). bs ++ more) (cut_held at.held count found) ∙ append_assoc line (line_feed ∷ rest) more in
      record {
        whole = line;
        others = behind.0 ∷ behind.1;
        cut = ap (λ (bs : List ℕ). pieces_at line_feed (bs ++ more)) so_far.read
            ∙ (ap (pieces_at line_feed) (append_assoc so_far.seen at.held more)
            ∙ pieces_behind so_far.seen (at.held ++ more) line so_far.lines so_far.begun (behind.0 ∷ behind.1) so_far.cut none.0
            (ap (pieces_at line_feed) held ∙ (ended_piece line (rest ++ more) behind.0 behind.1 found.1 behind.2
            ∙ ap (λ (l : List ℕ). l ∷ behind.0 ∷ behind.1) (append-nil line))));
        same = λ next text stop made. made;
      }

  -- one that is too long
  pub long_is_next : (bytes sent : List ℕ) (player : P) (at : Progress)
      (so_far : PlayedSoFar plays most_kept most_read first bytes sent player at) → at.passes_over ≡ false → IsOnePiece at.held
      → most_kept < length at.held → (more : List ℕ)
      → IsNextLine bytes sent player at so_far at.held true more
  long_is_next bytes sent player at so_far over one long more =
      let none = none_over plays most_kept most_read too_long first so_far.lines so_far.begun (sent ++ at.waiting) player at.passes_over over so_far.played in
      let behind = first_piece more in
      record {
        whole = at.held ++ behind.0;
        others = behind.1;
        cut = ap (λ (bs : List ℕ). pieces_at line_feed (bs ++ more)) so_far.read
            ∙ (ap (pieces_at line_feed) (append_assoc so_far.seen at.held more)
            ∙ pieces_behind so_far.seen (at.held ++ more) (at.held ++ behind.0) so_far.lines so_far.begun behind.1 so_far.cut none.0
            (goes_on_behind at.held more [] at.held behind.0 behind.1 one behind.2));
        same =
            λ next text stop made. too_long player next (length so_far.lines + 1) at.held behind.0 text (is_ended behind.1) stop long made;
      }

  -- the last one
  pub last_is_next : (bytes sent : List ℕ) (player : P) (at : Progress)
      (so_far : PlayedSoFar plays most_kept most_read first bytes sent player at) → at.passes_over ≡ false → IsOnePiece at.held
      → (more : List ℕ) → more ≡ []
      → IsNextLine bytes sent player at so_far at.held false more
  last_is_next bytes sent player at so_far over one more nothing =
      let none = none_over plays most_kept most_read too_long first so_far.lines so_far.begun (sent ++ at.waiting) player at.passes_over over so_far.played in
      record {
        whole = at.held;
        others = [];
        cut =
            ap (pieces_at line_feed) (ap (λ (bs : List ℕ). bytes ++ bs) nothing ∙ (append-nil bytes ∙ so_far.read))
            ∙ pieces_behind so_far.seen at.held at.held so_far.lines so_far.begun [] so_far.cut none.0 one;
        same = λ next text stop made. made;
      }

  -- ---- The run ends.

  -- by the line that is next
  pub ends_by_line : (bytes sent : List ℕ) (player next : P) (old new : Progress) (line : List ℕ) (feed : Bool) (ending : Ended S)
      → old.passes_over ≡ false → length old.waiting < most_waiting
      → (so_far : PlayedSoFar plays most_kept most_read first bytes sent player old)
      → ((more : List ℕ) → (old.ended ≡ true → more ≡ []) → IsNextLine bytes sent player old so_far line feed more)
      → PlaysPart plays player old line feed next new (Some ending)
      → MayWait (PrintsLine plays) new.waiting × HasEnded plays most_read first bytes (sent ++ new.waiting) next old.ended ending
  ends_by_line bytes sent player next old new line feed (ended.Stopped stop) over short so_far next_line part =
      let prints = part.0 in
      let none = none_over plays most_kept most_read too_long first so_far.lines so_far.begun (sent ++ old.waiting) player old.passes_over over so_far.played in (
        waits_more plays player next old new line feed (Some stop) short prints,
        record {
          concludes = λ more may.
              let it = next_line more may in
              plays_to plays most_kept most_read too_long first _ so_far.lines it.whole it.others (sent ++ old.waiting) prints.text (sent ++ new.waiting) player next (Some stop)
              it.cut none.1
              (it.same next prints.text (Some stop) (subst (λ (n : ℕ). plays player n line feed prints.text (Some stop) next)
              so_far.numbered prints.plays))
              (ap (λ (w : List ℕ). sent ++ w) prints.behind ∙ sym (append_assoc sent old.waiting prints.text)) (λ is. absurd (cc));
          reads = tt;
        },
      )
  ends_by_line bytes sent player next old new line feed ended.OutOfMemory over short so_far next_line part =
      let same : new.waiting ≡ old.waiting = ap (λ (p : Progress). p.waiting) part in (
        subst (MayWait (PrintsLine plays)) (sym same) so_far.waits,
        record {
          concludes =
              λ more may. (
                player,
                subst (λ (w : List ℕ). PlaysSome plays first (pieces_at line_feed (bytes ++ more)) (sent ++ w) player)
                    (sym same) (some_so_far plays most_kept most_read too_long first bytes sent player old so_far more),
              );
          reads = tt;
        },
      )
  ends_by_line bytes sent player next old new line feed ended.AtEnd over short so_far next_line part = absurd part
  ends_by_line bytes sent player next old new line feed ended.TooLong over short so_far next_line part = absurd part
  ends_by_line bytes sent player next old new line feed ended.Broken over short so_far next_line part = absurd part

  -- the last line was played
  pub ends_at_last : (bytes sent : List ℕ) (player next : P) (old new : Progress) → old.passes_over ≡ false → old.ended ≡ true
      → length old.waiting < most_waiting → IsOnePiece old.held
      → PlaysPart plays player old old.held false next new None → PlayedSoFar plays most_kept most_read first bytes sent player old
      → MayWait (PrintsLine plays) new.waiting × HasEnded plays most_read first bytes (sent ++ new.waiting) next old.ended ended.AtEnd
  ends_at_last bytes sent player next old new over end short one part so_far =
      let prints = part.0 in
      let none = none_over plays most_kept most_read too_long first so_far.lines so_far.begun (sent ++ old.waiting) player old.passes_over over so_far.played in (
        waits_more plays player next old new old.held false None short prints,
        record {
          concludes = λ more may.
              plays_to plays most_kept most_read too_long first _ so_far.lines old.held [] (sent ++ old.waiting) prints.text (sent ++ new.waiting) player next None
              (ap (pieces_at line_feed) (ap (λ (bs : List ℕ). bytes ++ bs) (may end) ∙ (append-nil bytes ∙ so_far.read))
              ∙ pieces_behind so_far.seen old.held old.held so_far.lines so_far.begun [] so_far.cut none.0 one)
              none.1 (subst (λ (n : ℕ). plays player n old.held false prints.text None next) so_far.numbered prints.plays)
              (ap (λ (w : List ℕ). sent ++ w) prints.behind ∙ sym (append_assoc sent old.waiting prints.text)) (λ is. refl);
          reads = (end, omega (arith, so_far.counted));
        },
      )

  -- or one that was played before, as it is too long
  pub ends_over : (bytes sent : List ℕ) (player : P) (old new : Progress) → old.passes_over ≡ true → old.ended ≡ true → IsOnePiece old.held
      → new ≡ record old { held = [] }
      → PlayedSoFar plays most_kept most_read first bytes sent player old
      → MayWait (PrintsLine plays) new.waiting × HasEnded plays most_read first bytes (sent ++ new.waiting) player old.ended ended.AtEnd
  ends_over bytes sent player old new over end one is so_far =
      let cut = some_over plays most_kept most_read too_long first so_far.lines so_far.begun (sent ++ old.waiting) player old.passes_over over so_far.played in
      let same : new.waiting ≡ old.waiting = ap (λ (p : Progress). p.waiting) is in (
        subst (MayWait (PrintsLine plays)) (sym same) so_far.waits,
        record {
          concludes = λ more may.
              plays_to plays most_kept most_read too_long first _ so_far.lines (so_far.begun ++ old.held) [] cut.before cut.more (sent ++ new.waiting) cut.between player None
              (ap (pieces_at line_feed) (ap (λ (bs : List ℕ). bytes ++ bs) (may end) ∙ (append-nil bytes ∙ so_far.read))
              ∙ goes_on_behind so_far.seen old.held so_far.lines so_far.begun old.held [] so_far.cut one)
              cut.on (too_long cut.between player (length so_far.lines + 1) so_far.begun old.held cut.more false None cut.long
              cut.plays_line)
              (ap (λ (w : List ℕ). sent ++ w) same ∙ cut.printed) (λ none. refl);
          reads = (end, omega (arith, so_far.counted));
        },
      )

-- What steps and reads keep of the lines so far.
use Rattle.std.proofs.Common.{◌≡◌, inl, inr, ◌∙◌, ℕ, suc, ◌+◌, ◌<◌, ◌≤◌, Bool, true, false, true≢false, List, [], ◌∷◌, ◌++◌, length, take, drop, Option, None, Some, ap, append_assoc, append-nil, arith, if◌then◌else◌, refl, subst, sym}
use Rattle.std.proofs.lemmas.Bool.{le-ltb, lt-ltb}
use Rattle.std.proofs.lemmas.List.{length-append}
use Rattle.texts.specs.Words.{line_feed, pieces_at}
use Rattle.line_loop.specs.Endings.{IsDue, MayWait, and_a_line, due_lines, few, most_waiting}
use Rattle.line_loop.specs.Lines.{PlaysLines, PlaysOn, PlaysSome, PlaysTo, Prints, PrintsLine, is_ended, then_line, no_line}
use Rattle.line_loop.specs.Pieces.{IsEndedAfter, IsOnePiece}
use Rattle.line_loop.specs.Progress.{ArePlayed, HasCut, IsBegun, PlayedSoFar, PlaysPart, Progress, behind_line, first_progress}
use Rattle.line_loop.specs.Transfers.{HasTakenIn}
use Rattle.line_loop.proofs.Pieces.{cut_held, ended_piece, first_piece, goes_on_behind, pieces_behind}

-- what waited, and what a line prints behind it, may wait
pub waits_more : {P S : Type 0} (plays : P → ℕ → List ℕ → Bool → List ℕ → Option S → P → Type 0) (player next : P) (old new : Progress)
    (line : List ℕ) (ended : Bool) (stop : Option S) → length old.waiting < most_waiting
    → Prints (plays player old.number line ended) old.waiting new.waiting stop next → MayWait (PrintsLine plays) new.waiting
waits_more plays player next old new line ended stop short prints =
    subst (MayWait (PrintsLine plays)) (sym prints.behind)
    (and_a_line old.waiting prints.text short (player, old.number, line, ended, stop, next, prints.plays))

module _ {P S : Type 0} (plays : P → ℕ → List ℕ → Bool → List ℕ → Option S → P → Type 0) (most_kept most_read : ℕ)
    (too_long : (old new : P) (number : ℕ) (line more text : List ℕ) (ended : Bool) (stop : Option S) → most_kept < length line
    → plays old number line true text stop new → plays old number (line ++ more) ended text stop new) (first : P) where
  -- ---- Bytes behind those that were read.

  -- what a line prints behind lines that were played, the last of the run
  pub plays_to : (pieces : List (List ℕ)) (lines : List (List ℕ)) (line : List ℕ) (others : List (List ℕ)) (before more text : List ℕ)
      (between last : P) (stop : Option S) → pieces ≡ lines ++ line ∷ others
      → PlaysOn plays first lines before between → plays between (length lines + 1) line (is_ended others) more stop last
      → text ≡ before ++ more → (stop ≡ None → others ≡ []) → PlaysTo plays first pieces text stop last
  plays_to pieces lines line others before more text between last stop cut on plays_line printed whole = record {
    lines = lines;
    line = line;
    others = others;
    cut = cut;
    before = before;
    between = between;
    on = on;
    more = more;
    plays_line = plays_line;
    printed = printed;
    whole = whole;
  }

  -- a line more was played
  line_more : (lines : List (List ℕ)) (before more text : List ℕ) (between last : P) (line : List ℕ)
      → PlaysOn plays first lines before between → plays between (length lines + 1) line true more None last → text ≡ before ++ more
      → PlaysOn plays first (lines ++ line ∷ []) text last
  line_more lines before more text between last line on plays_line printed =
      subst (λ (t : List ℕ). PlaysOn plays first (lines ++ line ∷ []) t last) (sym printed) (then_line on line more plays_line)

  -- whatever may still be read, the text is what the first pieces print
  some_played : (seen back : List ℕ) (lines : List (List ℕ)) (begun text : List ℕ) (player : P) (over : Bool)
      → pieces_at line_feed seen ≡ lines ++ begun ∷ [] → ArePlayed plays most_kept first lines begun text player over
      → PlaysSome plays first (pieces_at line_feed (seen ++ back)) text player
  some_played seen back lines begun text player false cut played =
      let behind = first_piece back in
      inl (lines, behind.0, behind.1, pieces_behind seen back behind.0 lines begun behind.1 cut played.0 behind.2, played.1)
  some_played seen back lines begun text player true cut played =
      by behind.1 (goes_on_behind seen back lines begun behind.0 behind.1 cut behind.2)
    where
      behind : (next : List ℕ) × (others : List (List ℕ)) × (pieces_at line_feed back ≡ next ∷ others)
      behind = first_piece back

      longer : (ended : Bool) → plays played.between (length lines + 1) (begun ++ behind.0) ended played.more None player
      longer ended = too_long played.between player (length lines + 1) begun behind.0 played.more ended None played.long played.plays_line

      by : (others : List (List ℕ)) → pieces_at line_feed (seen ++ back) ≡ lines ++ (begun ++ behind.0) ∷ others
          → PlaysSome plays first (pieces_at line_feed (seen ++ back)) text player
      by [] is =
          inr (
            None,
            plays_to _ lines (begun ++ behind.0) [] played.before played.more text played.between player None is played.on
                (longer false) played.printed (λ none. refl),
          )
      by (next ∷ others) is = inl (
        lines ++ (begun ++ behind.0) ∷ [],
        next,
        others,
        is ∙ sym (append_assoc lines ((begun ++ behind.0) ∷ []) (next ∷ others)),
        line_more lines played.before played.more text played.between player (begun ++ behind.0) played.on (longer true) played.printed,
      )

  pub some_so_far : (bytes sent : List ℕ) (player : P) (at : Progress) → PlayedSoFar plays most_kept most_read first bytes sent player at
      → (more : List ℕ)
      → PlaysSome plays first (pieces_at line_feed (bytes ++ more)) (sent ++ at.waiting) player
  some_so_far bytes sent player at so_far more =
      subst (λ (input : List ℕ). PlaysSome plays first (pieces_at line_feed input) (sent ++ at.waiting) player)
      (sym (append_assoc so_far.seen at.held more) ∙ ap (λ (bs : List ℕ). bs ++ more) (sym so_far.read))
      (some_played so_far.seen (at.held ++ more) so_far.lines so_far.begun (sent ++ at.waiting) player at.passes_over so_far.cut
      so_far.played)

  -- ---- The run goes on.

  -- before the first line
  pub played_first : (at : Progress) → at ≡ first_progress most_read → PlayedSoFar plays most_kept most_read first [] [] first at
  played_first at is = subst (λ (p : Progress). PlayedSoFar plays most_kept most_read first [] [] first p) (sym is) (record {
    seen = [];
    lines = [];
    begun = [];
    read = refl;
    cut = refl;
    played = (refl, no_line);
    numbered = refl;
    counted = omega arith;
    waits = few (omega arith);
  })

  -- nothing is to be passed over
  pub none_over : (lines : List (List ℕ)) (begun text : List ℕ) (player : P) (over : Bool) → over ≡ false
      → ArePlayed plays most_kept first lines begun text player over → (begun ≡ []) × PlaysOn plays first lines text player
  none_over lines begun text player false is played = played
  none_over lines begun text player true is played = absurd (true≢false is)

  pub some_over : (lines : List (List ℕ)) (begun text : List ℕ) (player : P) (over : Bool) → over ≡ true
      → ArePlayed plays most_kept first lines begun text player over → HasCut plays most_kept first lines begun text player
  some_over lines begun text player true is played = played
  some_over lines begun text player false is played = absurd (true≢false (sym is))

  -- the bytes that were read, by what is seen then
  seen_then : (bytes seen held line rest : List ℕ) → bytes ≡ seen ++ held → held ≡ line ++ line_feed ∷ rest
      → bytes ≡ (seen ++ (line ++ line_feed ∷ [])) ++ rest
  seen_then bytes seen held line rest read is =
      read ∙ (ap (λ (bs : List ℕ). seen ++ bs) (is ∙ sym (append_assoc line (line_feed ∷ []) rest))
      ∙ sym (append_assoc seen (line ++ line_feed ∷ []) rest))

  -- its pieces end with one that nothing begins
  cut_then : (seen line : List ℕ) (lines : List (List ℕ)) (begun : List ℕ) → pieces_at line_feed seen ≡ lines ++ begun ∷ []
      → IsOnePiece line
      → pieces_at line_feed (seen ++ (line ++ line_feed ∷ [])) ≡ (lines ++ (begun ++ line) ∷ []) ++ [] ∷ []
  cut_then seen line lines begun cut one =
      goes_on_behind seen (line ++ line_feed ∷ []) lines begun (line ++ []) ([] ∷ []) cut (ended_piece line [] [] [] one refl)
      ∙ (ap (λ (l : List ℕ). lines ++ (begun ++ l) ∷ [] ∷ []) (append-nil line) ∙ sym (append_assoc lines ((begun ++ line) ∷ []) ([] ∷ [])))

  length_more : (lines : List (List ℕ)) (line : List ℕ) (number : ℕ) → number ≡ length lines + 1
      → number + 1 ≡ length (lines ++ line ∷ []) + 1
  length_more lines line number is = omega (arith, is, length-append lines (line ∷ []))

  -- a line was played, whose line feed was found
  pub played_line : (bytes sent : List ℕ) (player next : P) (old late new : Progress) (count : ℕ) → old.passes_over ≡ false
      → length old.waiting < most_waiting → IsEndedAfter old.held (Some count)
      → PlaysPart plays player old (take count old.held) true next late None → new ≡ behind_line count late
      → PlayedSoFar plays most_kept most_read first bytes sent player old → PlayedSoFar plays most_kept most_read first bytes sent next new
  played_line bytes sent player next old late new count over short found part is so_far =
      let line = take count old.held in
      let none = none_over so_far.lines so_far.begun (sent ++ old.waiting) player old.passes_over over so_far.played in
      let prints = part.0 in
      let begun : so_far.begun ++ line ≡ line = ap (λ (b : List ℕ). b ++ line) none.0 in
      subst (λ (p : Progress). PlayedSoFar plays most_kept most_read first bytes sent next p) (sym (is ∙ ap (behind_line count) part.1))
      (record {
        seen = so_far.seen ++ (line ++ line_feed ∷ []);
        lines = so_far.lines ++ line ∷ [];
        begun = [];
        read = seen_then bytes so_far.seen old.held line (drop (suc count) old.held) so_far.read (cut_held old.held count found);
        cut =
            cut_then so_far.seen line so_far.lines so_far.begun so_far.cut found.1
            ∙ ap (λ (l : List ℕ). (so_far.lines ++ l ∷ []) ++ [] ∷ []) begun;
        played = (
          refl,
          line_more so_far.lines (sent ++ old.waiting) prints.text (sent ++ late.waiting) player next line none.1
              (subst (λ (n : ℕ). plays player n line true prints.text None next) so_far.numbered prints.plays)
              (ap (λ (w : List ℕ). sent ++ w) prints.behind ∙ sym (append_assoc sent old.waiting prints.text)),
        );
        numbered = length_more so_far.lines line old.number so_far.numbered;
        counted = so_far.counted;
        waits = waits_more plays player next old late line true None short prints;
      })

  -- one that is too long was passed over up to its line feed
  pub passed_line : (bytes sent : List ℕ) (player : P) (old new : Progress) (count : ℕ) → old.passes_over ≡ true
      → IsEndedAfter old.held (Some count) → new ≡ behind_line count old
      → PlayedSoFar plays most_kept most_read first bytes sent player old
      → PlayedSoFar plays most_kept most_read first bytes sent player new
  passed_line bytes sent player old new count over found is so_far =
      let line = take count old.held in
      let cut = some_over so_far.lines so_far.begun (sent ++ old.waiting) player old.passes_over over so_far.played in
      let whole = so_far.begun ++ line in
      subst (λ (p : Progress). PlayedSoFar plays most_kept most_read first bytes sent player p) (sym is) (record {
        seen = so_far.seen ++ (line ++ line_feed ∷ []);
        lines = so_far.lines ++ whole ∷ [];
        begun = [];
        read = seen_then bytes so_far.seen old.held line (drop (suc count) old.held) so_far.read (cut_held old.held count found);
        cut = cut_then so_far.seen line so_far.lines so_far.begun so_far.cut found.1;
        played = (
          refl,
          line_more so_far.lines cut.before cut.more (sent ++ old.waiting) cut.between player whole cut.on
              (too_long cut.between player (length so_far.lines + 1) so_far.begun line cut.more true None cut.long cut.plays_line)
              cut.printed,
        );
        numbered = length_more so_far.lines whole old.number so_far.numbered;
        counted = so_far.counted;
        waits = so_far.waits;
      })

  -- or all that is held of it was
  pub passed_all : (bytes sent : List ℕ) (player : P) (old new : Progress) → old.passes_over ≡ true → IsOnePiece old.held
      → new ≡ record old { held = [] }
      → PlayedSoFar plays most_kept most_read first bytes sent player old
      → PlayedSoFar plays most_kept most_read first bytes sent player new
  passed_all bytes sent player old new over one is so_far =
      let cut = some_over so_far.lines so_far.begun (sent ++ old.waiting) player old.passes_over over so_far.played in
      subst (λ (p : Progress). PlayedSoFar plays most_kept most_read first bytes sent player p)
      (sym (is ∙ ap (λ (b : Bool). let p : Progress = record old { held = []; passes_over = b } in p) over)) (record {
        seen = so_far.seen ++ old.held;
        lines = so_far.lines;
        begun = so_far.begun ++ old.held;
        read = so_far.read ∙ sym (append-nil (so_far.seen ++ old.held));
        cut = goes_on_behind so_far.seen old.held so_far.lines so_far.begun old.held [] so_far.cut one;
        played = record {
          long = omega (arith, cut.long, length-append so_far.begun old.held);
          before = cut.before;
          between = cut.between;
          on = cut.on;
          more = cut.more;
          plays_line =
              too_long cut.between player (length so_far.lines + 1) so_far.begun old.held cut.more true None cut.long cut.plays_line;
          printed = cut.printed;
        };
        numbered = so_far.numbered;
        counted = so_far.counted;
        waits = so_far.waits;
      })

  -- one was played that is too long
  pub played_long : (bytes sent : List ℕ) (player next : P) (old late new : Progress) → old.passes_over ≡ false
      → length old.waiting < most_waiting → IsOnePiece old.held → most_kept < length old.held
      → PlaysPart plays player old old.held true next late None → new ≡ record late { held = []; passes_over = true }
      → PlayedSoFar plays most_kept most_read first bytes sent player old → PlayedSoFar plays most_kept most_read first bytes sent next new
  played_long bytes sent player next old late new over short one long part is so_far =
      let none = none_over so_far.lines so_far.begun (sent ++ old.waiting) player old.passes_over over so_far.played in
      let prints = part.0 in
      subst (λ (p : Progress). PlayedSoFar plays most_kept most_read first bytes sent next p)
      (sym (is ∙ ap (λ (p : Progress). let q : Progress = record p { held = []; passes_over = true } in q) part.1)) (record {
        seen = so_far.seen ++ old.held;
        lines = so_far.lines;
        begun = old.held;
        read = so_far.read ∙ sym (append-nil (so_far.seen ++ old.held));
        cut = pieces_behind so_far.seen old.held old.held so_far.lines so_far.begun [] so_far.cut none.0 one;
        played = record {
          long = long;
          before = sent ++ old.waiting;
          between = player;
          on = none.1;
          more = prints.text;
          plays_line = subst (λ (n : ℕ). plays player n old.held true prints.text None next) so_far.numbered prints.plays;
          printed = ap (λ (w : List ℕ). sent ++ w) prints.behind ∙ sym (append_assoc sent old.waiting prints.text);
        };
        numbered = so_far.numbered;
        counted = so_far.counted;
        waits = waits_more plays player next old late old.held true None short prints;
      })

  -- what waited was written
  pub played_written : (bytes sent : List ℕ) (player : P) (old new : Progress) → new ≡ record old { waiting = [] }
      → PlayedSoFar plays most_kept most_read first bytes sent player old
      → PlayedSoFar plays most_kept most_read first bytes (sent ++ old.waiting) player new
  played_written bytes sent player old new is so_far =
      subst (λ (p : Progress). PlayedSoFar plays most_kept most_read first bytes (sent ++ old.waiting) player p) (sym is) (record {
        seen = so_far.seen;
        lines = so_far.lines;
        begun = so_far.begun;
        read = so_far.read;
        cut = so_far.cut;
        played =
            subst (λ (t : List ℕ). ArePlayed plays most_kept first so_far.lines so_far.begun t player old.passes_over)
            (sym (append-nil (sent ++ old.waiting))) so_far.played;
        numbered = so_far.numbered;
        counted = so_far.counted;
        waits = few (omega arith);
      })

  -- more was read
  pub played_read_on : (bytes sent got : List ℕ) (player : P) (old new : Progress) → HasTakenIn old got new
      → PlayedSoFar plays most_kept most_read first bytes sent player old
      → PlayedSoFar plays most_kept most_read first (bytes ++ got) sent player new
  played_read_on bytes sent got player old new taken so_far =
      subst (λ (p : Progress). PlayedSoFar plays most_kept most_read first (bytes ++ got) sent player p) (sym taken.same) (record {
        seen = so_far.seen;
        lines = so_far.lines;
        begun = so_far.begun;
        read = ap (λ (bs : List ℕ). bs ++ got) so_far.read ∙ append_assoc so_far.seen old.held got;
        cut = so_far.cut;
        played = so_far.played;
        numbered = so_far.numbered;
        counted = omega (arith, so_far.counted, taken.counted, length-append bytes got);
        waits = so_far.waits;
      })

  -- ---- What is due.

  due_short : (lines : List (List ℕ)) (begun : List ℕ) → length begun ≤ most_kept → due_lines most_kept lines begun ≡ lines
  due_short lines begun short = ap (λ (b : Bool). if b then lines ++ begun ∷ [] else lines) (le-ltb most_kept (length begun) short)

  due_long : (lines : List (List ℕ)) (begun : List ℕ) → most_kept < length begun → due_lines most_kept lines begun ≡ lines ++ begun ∷ []
  due_long lines begun long = ap (λ (b : Bool). if b then lines ++ begun ∷ [] else lines) (lt-ltb most_kept (length begun) long)

  -- where nothing waits, and what is held is begun, all is written that is due
  pub all_written : (bytes sent : List ℕ) (player : P) (at : Progress) → IsBegun most_kept at → at.waiting ≡ []
      → PlayedSoFar plays most_kept most_read first bytes sent player at
      → IsDue most_kept most_read (PlaysLines plays first) bytes sent
  all_written bytes sent player at begun none so_far = by at.passes_over refl so_far.played
    where
      whole : sent ++ at.waiting ≡ sent
      whole = ap (λ (w : List ℕ). sent ++ w) none ∙ append-nil sent

      by : (over : Bool) → at.passes_over ≡ over → ArePlayed plays most_kept first so_far.lines so_far.begun (sent ++ at.waiting) player
          over → IsDue most_kept most_read (PlaysLines plays first) bytes sent
      by false is played = record {
        lines = so_far.lines;
        begun = at.held;
        cut =
            ap (pieces_at line_feed) so_far.read ∙ pieces_behind so_far.seen at.held at.held so_far.lines so_far.begun [] so_far.cut
            played.0 begun.one_piece;
        printed = (
          player,
          subst (λ (ls : List (List ℕ)). PlaysOn plays first ls sent player) (sym (due_short so_far.lines at.held begun.fits))
              (subst (λ (t : List ℕ). PlaysOn plays first so_far.lines t player) whole played.1),
        );
        within = omega (arith, so_far.counted);
      }
      by true is played = record {
        lines = so_far.lines;
        begun = so_far.begun;
        cut =
            ap (pieces_at line_feed) (so_far.read ∙ (ap (λ (bs : List ℕ). so_far.seen ++ bs) (begun.passed is) ∙ append-nil so_far.seen))
            ∙ so_far.cut;
        printed = (
          player,
          subst (λ (ls : List (List ℕ)). PlaysOn plays first ls sent player) (sym (due_long so_far.lines so_far.begun played.long))
              (line_more so_far.lines played.before played.more sent played.between player so_far.begun played.on played.plays_line
              (sym whole ∙ played.printed)),
        );
        within = omega (arith, so_far.counted);
      }

-- Calls in turn: what they are of a source or of a sink alone, and what they read and wrote where that is known.
use Rattle.std.proofs.Common.{◌≡◌, ◌∙◌, ℕ, Bool, true, false, true≢false, List, [], ◌++◌, Option, Some, None, ap, append_assoc, append-nil, inl, inr, refl, subst, sym}
use Rattle.std.specs.Io.KnownBytes.{Appends, Consumes, IsAtEnd}
use Rattle.std.proofs.KnownBytes.{Appends-nil, Appends-trans, Consumes-kept, Consumes-nil, Consumes-trans}
use Rattle.line_loop.specs.Calls.{BreaksInTurn, InTurn, ReadsInTurn, ReadsKnown, WritesKnown, WritesTexts, has_read, has_read_nothing, has_written, no_call, no_read, no_text, read_broke, read_failed, read_nothing, read_some, text_broken, text_written, write_broke}
use Rattle.line_loop.specs.Endings.{EndsInTurn, IsDue, MakesCalls, MayWait, and_a_line, due_lines, few}
use Rattle.line_loop.specs.Sent.{WritesFront}
use Rattle.line_loop.specs.declared.ended.Ended.{Ended}
use Rattle.line_loop.specs.declared.ended.Ended.TheVariants as ended
use Rattle.line_loop.proofs.Sent.{sends}

module _ {R W : Type 0} (reads : R → Option (List ℕ) → R → Type 0) (writes : W → List ℕ → Option ℕ → W → Type 0)
    (Due : (bytes text : List ℕ) → Type 0) (MayWait : List ℕ → Type 0) (first : R × W) where
  -- ---- Of the source, and of the sink.

  -- reads that stand behind them are in turn with them; none does behind one that gave nothing
  reads_behind : (now : R × W) (bytes text : List ℕ) (at_end : Bool) → InTurn reads writes Due MayWait first now bytes text at_end
      → (last : R) (well : Bool) → (at_end ≡ false → ReadsInTurn reads now.0 last well) → (at_end ≡ true → (now.0 ≡ last) × (well ≡ true))
      → ReadsInTurn reads first.0 last well
  reads_behind now bytes text at_end no_call last well on over = on refl
  reads_behind now bytes text at_end (has_read {old = old} {sink = sink} {bytes = front} {text = same} before due chunk some fits once) last
      well on over =
      reads_behind (old, sink) front same false before last well (λ goes. read_some chunk some once (on refl))
      (λ is. absurd (true≢false (sym is)))
  reads_behind now bytes text at_end (has_read_nothing {old = old} {new = new} {sink = sink} {bytes = front} {text = same} before due once)
      last well on over =
      reads_behind (old, sink) front same false before last well (λ goes. at_the_end last well (over refl).0 (over refl).1)
      (λ is. absurd (true≢false (sym is)))
    where
      at_the_end : (last : R) (well : Bool) → new ≡ last → well ≡ true → ReadsInTurn reads old last well
      at_the_end last well is all =
          subst (λ (w : Bool). ReadsInTurn reads old last w) (sym all)
          (subst (λ (r : R). ReadsInTurn reads old r true) is (read_nothing once))
  reads_behind now bytes text at_end (has_written {source = source} {old = old} {bytes = same} {text = front} {at_end = end} before more may
      made) last well on over =
      reads_behind (source, old) same front end before last well on over

  -- and so are writes
  writes_behind : (now : R × W) (bytes text : List ℕ) (at_end : Bool) → InTurn reads writes Due MayWait first now bytes text at_end
      → (last : W) (well : Bool) → WritesTexts writes now.1 last well → WritesTexts writes first.1 last well
  writes_behind now bytes text at_end no_call last well after = after
  writes_behind now bytes text at_end (has_read {old = old} {sink = sink} {bytes = front} {text = same} before due chunk some fits once)
      last well after = writes_behind (old, sink) front same false before last well after
  writes_behind now bytes text at_end (has_read_nothing {old = old} {sink = sink} {bytes = front} {text = same} before due once) last well
      after = writes_behind (old, sink) front same false before last well after
  writes_behind now bytes text at_end (has_written {source = source} {old = old} {bytes = same} {text = front} {at_end = end} before more
      may made) last well after =
      writes_behind (source, old) same front end before last well (text_written more made after)

  pub all_reads : (now : R × W) (bytes text : List ℕ) (at_end : Bool) → InTurn reads writes Due MayWait first now bytes text at_end
      → ReadsInTurn reads first.0 now.0 true
  all_reads now bytes text at_end calls = reads_behind now bytes text at_end calls now.0 true (λ goes. no_read) (λ over. (refl, refl))

  pub all_writes : (now : R × W) (bytes text : List ℕ) (at_end : Bool) → InTurn reads writes Due MayWait first now bytes text at_end
      → WritesTexts writes first.1 now.1 true
  all_writes now bytes text at_end calls = writes_behind now bytes text at_end calls now.1 true no_text

  -- where the last failed, it was a read or a write
  pub one_broke : (S : Type 0) (last : R × W) (bytes text : List ℕ) (at_end : Bool)
      → BreaksInTurn reads writes Due MayWait first last bytes text at_end → MakesCalls reads writes {S = S} first last ended.Broken
  one_broke S last bytes text at_end (read_broke {old = old} {new = new} {sink = sink} {bytes = front} {text = same} before due once) =
      inl (
        reads_behind (old, sink) front same false before new false (λ goes. read_failed once) (λ is. absurd (true≢false (sym is))),
        all_writes (old, sink) front same false before,
      )
  one_broke S last bytes text at_end (write_broke {source = source} {old = old} {new = new} {bytes = same} {text = front} {at_end = end}
      before more may made) =
      inr (
        all_reads (source, old) same front end before,
        writes_behind (source, old) same front end before new false
            (text_broken more made),
      )

  -- ---- What is read and written, where that is known.

  module _ (remaining : R → Option (List ℕ)) (contents : W → Option (List ℕ))
      (source_known : (old : R) (got : Option (List ℕ)) (new : R) → reads old got new → ReadsKnown (remaining old) got (remaining new))
      (sink_known : (old : W) (bytes : List ℕ) (took : Option ℕ) (new : W) → writes old bytes took new
      → WritesKnown (contents old) bytes took (contents new)) where
    pub consumed : (now : R × W) (bytes text : List ℕ) (at_end : Bool) → InTurn reads writes Due MayWait first now bytes text at_end
        → Consumes (remaining first.0) (remaining now.0) bytes
    consumed now bytes text at_end no_call = Consumes-nil (remaining first.0)
    consumed now bytes text at_end (has_read {old = old} {new = new} {sink = sink} {bytes = front} {text = same} before due chunk some fits
        once) =
        Consumes-trans _ (remaining old) (remaining new) front chunk (consumed (old, sink) front same false before)
        (source_known old (Some chunk) new once).0
    consumed now bytes text at_end (has_read_nothing {old = old} {new = new} {sink = sink} {bytes = front} {text = same} before due once) =
        subst (Consumes (remaining first.0) (remaining new)) (append-nil front)
        (Consumes-trans _ (remaining old) (remaining new) front [] (consumed (old, sink) front same false before)
        (source_known old (Some []) new once).0)
    consumed now bytes text at_end (has_written {source = source} {old = old} {bytes = same} {text = front} {at_end = end} before more may
        made) = consumed (source, old) same front end before

    pub appended : (now : R × W) (bytes text : List ℕ) (at_end : Bool) → InTurn reads writes Due MayWait first now bytes text at_end
        → Appends (contents first.1) (contents now.1) text
    appended now bytes text at_end no_call = Appends-nil (contents first.1)
    appended now bytes text at_end (has_read {old = old} {sink = sink} {bytes = front} {text = same} before due chunk some fits
        once) = appended (old, sink) front same false before
    appended now bytes text at_end (has_read_nothing {old = old} {sink = sink} {bytes = front} {text = same} before due once) = appended
        (old, sink) front same false before
    appended now bytes text at_end (has_written {source = source} {old = old} {new = new} {bytes = same} {text = front} {at_end = end}
        before more may made) =
        Appends-trans _ (contents old) (contents new) front more (appended (source, old) same front end before)
        (sends writes contents sink_known more old new true made)

    pub at_its_end : (now : R × W) (bytes text : List ℕ) (at_end : Bool) → InTurn reads writes Due MayWait first now bytes text at_end
        → at_end ≡ true → IsAtEnd (remaining now.0)
    at_its_end now bytes text at_end no_call over = absurd (true≢false (sym over))
    at_its_end now bytes text at_end (has_read before due chunk some fits once) over = absurd (true≢false (sym over))
    at_its_end now bytes text at_end (has_read_nothing {old = old} {new = new} before due once)
        over = (source_known old (Some []) new once).1 refl
    at_its_end now bytes text at_end (has_written {source = source} {old = old} {bytes = same} {text = front} {at_end = end} before more may
        made) over = at_its_end (source, old) same front end before over

    -- a run that breaks
    pub consumed_broken : (last : R × W) (bytes text : List ℕ) (at_end : Bool)
        → BreaksInTurn reads writes Due MayWait first last bytes text at_end → Consumes (remaining first.0) (remaining last.0) bytes
    consumed_broken last bytes text at_end (read_broke {old = old} {new = new} {sink = sink} {bytes = front} {text = same} before due
        once) =
        Consumes-kept _ (remaining old) (remaining new) front (consumed (old, sink) front same false before)
        (source_known old None new once)
    consumed_broken last bytes text at_end (write_broke {source = source} {old = old} {bytes = same} {text = front} {at_end = end} before
        more may made) = consumed (source, old) same front end before

    pub at_its_end_broken : (last : R × W) (bytes text : List ℕ) (at_end : Bool)
        → BreaksInTurn reads writes Due MayWait first last bytes text at_end → at_end ≡ true → IsAtEnd (remaining last.0)
    at_its_end_broken last bytes text at_end (read_broke before due once) over = absurd (true≢false (sym over))
    at_its_end_broken last bytes text at_end (write_broke {source = source} {old = old} {bytes = same} {text = front} {at_end = end} before
        more may made) over = at_its_end (source, old) same front end before over

    front_of : (text more : List ℕ) (begun between written : Option (List ℕ)) → Appends begun between text
        → WritesFront more between written → WritesFront (text ++ more) begun written
    front_of text more begun between written appends front = record {
      front = text ++ front.front;
      begins =
          record {
            more = front.begins.more;
            joined = ap (λ (t : List ℕ). text ++ t) front.begins.joined
                ∙ sym (append_assoc text front.front front.begins.more);
          };
      appends = Appends-trans begun between written text front.front appends front.appends;
    }

    pub front_appended : (last : R × W) (bytes text : List ℕ) (at_end : Bool)
        → BreaksInTurn reads writes Due MayWait first last bytes text at_end → WritesFront text (contents first.1) (contents last.1)
    front_appended last bytes text at_end (read_broke {old = old} {sink = sink} {bytes = front} {text = same} before due once) = record {
      front = text;
      begins = record { more = []; joined = sym (append-nil text) };
      appends = appended (old, sink) front same false before;
    }
    front_appended last bytes text at_end (write_broke {source = source} {old = old} {new = new} {bytes = same} {text = front}
        {at_end = end} before more may made) =
        front_of front more (contents first.1) (contents old) (contents new) (appended (source, old) same front end before)
        (sends writes contents sink_known more old new false made)

-- ---- By what is due, and what may wait.

module _ {R W : Type 0} (reads : R → Option (List ℕ) → R → Type 0) (writes : W → List ℕ → Option ℕ → W → Type 0) (first : R × W)
    (most_kept most_read : ℕ) (prints other_prints : List (List ℕ) → List ℕ → Type 0) (prints_line other_line : List ℕ → Type 0)
    (due : (lines : List (List ℕ)) (text : List ℕ) → prints lines text → other_prints lines text)
    (one : (text : List ℕ) → prints_line text → other_line text) where
  due_so : (bytes text : List ℕ) → IsDue most_kept most_read prints bytes text → IsDue most_kept most_read other_prints bytes text
  due_so bytes text it =
      record {
        lines = it.lines;
        begun = it.begun;
        cut = it.cut;
        printed = due (due_lines most_kept it.lines it.begun) text it.printed;
        within = it.within;
      }

  waits_so : (text : List ℕ) → MayWait prints_line text → MayWait other_line text
  waits_so text (few short) = few short
  waits_so text (and_a_line front line short printed) = and_a_line front line short (one line printed)

  calls_so : (now : R × W) (bytes text : List ℕ) (at_end : Bool)
      → InTurn reads writes (IsDue most_kept most_read prints) (MayWait prints_line) first now bytes text at_end
      → InTurn reads writes (IsDue most_kept most_read other_prints) (MayWait other_line) first now bytes text at_end
  calls_so now bytes text at_end no_call = no_call
  calls_so now bytes text at_end (has_read {old = old} {sink = sink} {bytes = front} {text = same} before is_due chunk some fits once) =
      has_read (calls_so (old, sink) front same false before) (due_so front same is_due) chunk some fits once
  calls_so now bytes text at_end (has_read_nothing {old = old} {sink = sink} {bytes = front} {text = same} before is_due once) =
      has_read_nothing (calls_so (old, sink) front same false before) (due_so front same is_due) once
  calls_so now bytes text at_end (has_written {source = source} {old = old} {bytes = same} {text = front} {at_end = end} before more may
      made) =
      has_written (calls_so (source, old) same front end before) more (waits_so more may) made

  breaks_so : (last : R × W) (bytes text : List ℕ) (at_end : Bool)
      → BreaksInTurn reads writes (IsDue most_kept most_read prints) (MayWait prints_line) first last bytes text at_end
      → BreaksInTurn reads writes (IsDue most_kept most_read other_prints) (MayWait other_line) first last bytes text at_end
  breaks_so last bytes text at_end (read_broke {old = old} {sink = sink} {bytes = front} {text = same} before is_due once) = read_broke
      (calls_so (old, sink) front same false before) (due_so front same is_due) once
  breaks_so last bytes text at_end (write_broke {source = source} {old = old} {bytes = same} {text = front} {at_end = end} before more may
      made) =
      write_broke (calls_so (source, old) same front end before) more (waits_so more may) made

  pub in_turn_so : {S : Type 0} (last : R × W) (ending : Ended S)
      → EndsInTurn reads writes most_kept most_read prints prints_line first last ending
      → EndsInTurn reads writes most_kept most_read other_prints other_line first last ending
  in_turn_so last ended.Broken it = (it.0, it.1, it.2, breaks_so last it.0 it.1 it.2 it.3)
  in_turn_so last other it = (it.0, it.1, it.2, calls_so last it.0 it.1 it.2 it.3)

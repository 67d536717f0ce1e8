-- Runs of scripts, by what each line makes of the output.
use Rattle.std.proofs.Common.{◌≡◌, ◌∙◌, inl, inr, ℕ, ◌+◌, Bool, true, List, [], ◌∷◌, ◌++◌, length, map, Option, None, Some, ap, append_assoc, append-nil, arith, refl, subst, sym}
use Rattle.std.proofs.lemmas.List.{length-append, map-append}
use Rattle.std.specs.Io.KnownBytes.{Appends}
use Rattle.texts.specs.Printed.{Output}
use Rattle.texts.specs.Words.{line_feed, pieces_at}
use Rattle.script_rules.specs.Script.{lines_of}
use Rattle.script_lines.specs.Spaced.{BeginsWith}
use Rattle.script_lines.proofs.Fronts.{begins_with_itself, begins_with_the_first}
use Rattle.line_loop.specs.declared.ended.Ended.{Ended}
use Rattle.line_loop.specs.declared.ended.Ended.TheVariants as ended
use Rattle.line_loop.specs.declared.fault.ScriptLineFault.{ScriptLineFault}
use Rattle.line_loop.specs.Endings.{Concludes, Ends, Writes}
use Rattle.line_loop.specs.Lines.{PlaysLines, PlaysOn, PlaysSome, PlaysTo, PrintsLine, no_line, then_line}
use Rattle.line_loop.specs.Outputs.{IsOfOutput}
use Rattle.line_loop.specs.Scripts.{PlaysLine, PrintsLines, PrintsOne, Rule, TellsFault, WritesScript, behind, no_output, stripped}

-- the status of a script that a fault ended, or that none did
abbrev stop_status : Option ScriptLineFault → ℕ
stop_status None = 0
stop_status (Some fault) = 2

behind_both : (one other : List ℕ) (output : Output) → behind one (behind other output) ≡ behind (one ++ other) output
behind_both one other output =
    ap (λ (t : List ℕ). let o : Output = record { text = t; status = output.status } in o) (sym (append_assoc one other output.text))

module _ {P : Type 0} (plays : P → ℕ → List ℕ → Bool → List ℕ → Option ScriptLineFault → P → Type 0) (output : P → Rule)
    (plays_line : (old new : P) (number : ℕ) (line : List ℕ) (ended : Bool) (text : List ℕ) (fault : Option ScriptLineFault)
    → plays old number line ended text fault new → PlaysLine (output old) (output new) number line text fault)
    (nothing : (player : P) (number : ℕ) → output player number [] ≡ no_output) (first : P) where
  -- what lines print stands in front of what is printed behind them
  on_behind : (lines : List (List ℕ)) (text : List ℕ) (now : P) → PlaysOn plays first lines text now → (more : List (List ℕ))
      → output first 1 (map stripped lines ++ more) ≡ behind text (output now (length lines + 1) more)
  on_behind lines text now no_line more = refl
  on_behind lines text now (then_line {lines = front} {text = before} {before = between} on line next made) more =
      ap (λ (ls : List (List ℕ)). output first 1 (ls ++ more)) (map-append stripped front (line ∷ []))
      ∙ (ap (output first 1) (append_assoc (map stripped front) (stripped line ∷ []) more)
      ∙ (on_behind front before between on (stripped line ∷ more)
      ∙ (ap (behind before) (plays_line between now (length front + 1) line true next None made more)
      ∙ (behind_both before next (output now (length front + 1 + 1) more)
      ∙ ap (λ (n : ℕ). behind (before ++ next) (output now n more)) (omega (arith, length-append front (line ∷ [])))))))

  -- lines that stop the run by none print that text, and all is well
  pub prints_lines : (lines : List (List ℕ)) (text : List ℕ) → PlaysLines plays first lines text → PrintsLines (output first 1) lines text
  prints_lines lines text made =
      ap (output first 1) (sym (append-nil (map stripped lines)))
      ∙ (on_behind lines text made.0 made.1 []
      ∙ (ap (behind text) (nothing made.0 (length lines + 1))
      ∙ ap (λ (t : List ℕ). let o : Output = record { text = t; status = 0 } in o) (append-nil text)))

  -- what one line prints, it prints by itself
  pub prints_one : (text : List ℕ) → PrintsLine plays text → PrintsOne output text
  prints_one text made = (made.0, made.1, stripped made.2, by made.4 (plays_line made.0 made.5 made.1 made.2 made.3 text made.4 made.6))
    where
      by : (fault : Option ScriptLineFault) → PlaysLine (output made.0) (output made.5) made.1 made.2 text fault
          → text ≡ (output made.0 made.1 (stripped made.2 ∷ [])).text
      by None printed =
          sym (append-nil text) ∙ (ap (λ (o : Output). text ++ o.text) (sym (nothing made.5 (made.1 + 1)))
          ∙ ap (λ (o : Output). o.text) (sym (printed [])))
      by (Some fault) printed = ap (λ (o : Output). o.text) (sym (printed.2 []))

  -- the last line of a run
  last_line : (between last : P) (number : ℕ) (line : List ℕ) (ended : Bool) (more : List ℕ) (stop : Option ScriptLineFault)
      (others : List (List ℕ)) → plays between number line ended more stop last → (stop ≡ None → others ≡ [])
      → output between number (stripped line ∷ map stripped others) ≡ record { text = more; status = stop_status stop }
  last_line between last number line ended more None others made whole =
      plays_line between last number line ended more None made (map stripped others)
      ∙ (ap (λ (ls : List (List ℕ)). behind more (output last (number + 1) (map stripped ls))) (whole refl)
      ∙ (ap (behind more) (nothing last (number + 1))
      ∙ ap (λ (t : List ℕ). let o : Output = record { text = t; status = 0 } in o) (append-nil more)))
  last_line between last number line ended more (Some fault) others made whole =
      (plays_line between last number line ended more (Some fault) made).2 (map stripped others)

  -- so a run has the script's output
  whole_output : (pieces : List (List ℕ)) (text : List ℕ) (stop : Option ScriptLineFault) (last : P)
      → PlaysTo plays first pieces text stop last → output first 1 (map stripped pieces) ≡ record { text = text; status = stop_status stop }
  whole_output pieces text stop last to =
      ap (λ (ps : List (List ℕ)). output first 1 (map stripped ps)) to.cut
      ∙ (ap (output first 1) (map-append stripped to.lines (to.line ∷ to.others))
      ∙ (on_behind to.lines to.before to.between to.on (stripped to.line ∷ map stripped to.others)
      ∙ (ap (behind to.before) (last_line to.between last (length to.lines + 1) to.line _ to.more stop to.others to.plays_line to.whole)
      ∙ ap (λ (t : List ℕ). let o : Output = record { text = t; status = stop_status stop } in o) (sym to.printed))))

  -- or some of it
  some_output : (pieces : List (List ℕ)) (text : List ℕ) (last : P) → PlaysSome plays first pieces text last
      → BeginsWith text (output first 1 (map stripped pieces)).text
  some_output pieces text last (inl some) =
      let others = some.1 ∷ some.2 in
      let later = output last (length some.0 + 1) (map stripped others) in
      record {
        more = later.text;
        joined = ap (λ (o : Output). o.text) (ap (λ (ps : List (List ℕ)). output first 1 (map stripped ps)) some.3
            ∙ (ap (output first 1) (map-append stripped some.0 others) ∙ on_behind some.0 text last some.4 (map stripped others)));
      }
  some_output pieces text last (inr all) =
      subst (λ (t : List ℕ). BeginsWith text t) (ap (λ (o : Output). o.text) (sym (whole_output pieces text all.0 last all.1)))
      (begins_with_itself text)

  -- the fault is told at the end
  fault_told : (pieces : List (List ℕ)) (text : List ℕ) (fault : ScriptLineFault) (last : P)
      → PlaysTo plays first pieces text (Some fault) last → TellsFault fault text
  fault_told pieces text fault last to = (
    to.before,
    to.printed ∙ ap (λ (t : List ℕ). to.before ++ t)
        (plays_line to.between last (length to.lines + 1) to.line _ to.more (Some fault) to.plays_line).1,
  )

  written_front : (script text : List ℕ) (rest begun written : Option (List ℕ)) (ending : Ended ScriptLineFault)
      → IsOfOutput TellsFault 2 (output first 1 (lines_of script)) text ending → Writes text begun written ending
      → (front : List ℕ) × Appends begun written front × IsOfOutput TellsFault 2 (output first 1 (lines_of script)) front ending
  written_front script text rest begun written ended.AtEnd is writes = (text, writes, is)
  written_front script text rest begun written (ended.Stopped fault) is writes = (text, writes, is)
  written_front script text rest begun written ended.TooLong is writes = (text, writes, is)
  written_front script text rest begun written ended.OutOfMemory is writes = (text, writes, is)
  written_front script text rest begun written ended.Broken is writes =
      (writes.front, writes.appends, begins_with_the_first writes.front text _ writes.begins is)

  concluded : (script text : List ℕ) (last : P) (ending : Ended ScriptLineFault) → Concludes plays first script text last ending
      → IsOfOutput TellsFault 2 (output first 1 (lines_of script)) text ending
  concluded script text last ended.AtEnd is = whole_output (pieces_at line_feed script) text None last is
  concluded script text last (ended.Stopped fault) is =
      (whole_output (pieces_at line_feed script) text (Some fault) last is, fault_told (pieces_at line_feed script) text fault last is)
  concluded script text last ended.TooLong is = some_output (pieces_at line_feed script) text last is
  concluded script text last ended.OutOfMemory is = some_output (pieces_at line_feed script) text is.0 is.1
  concluded script text last ended.Broken is = some_output (pieces_at line_feed script) text is.0 is.1

  pub writes_script : (last : P) (script : List ℕ) (rest begun written : Option (List ℕ)) (ending : Ended ScriptLineFault)
      → Ends plays 268435456 first last script rest begun written ending
      → WritesScript (output first 1) script rest begun written ending
  writes_script last script rest begun written ending ends =
      let so = written_front script ends.text rest begun written ending (concluded script ends.text last ending ends.concludes) ends.writes in
      record { text = so.0; writes = so.1; concludes = so.2; reads = ends.reads }

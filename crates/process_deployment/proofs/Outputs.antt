-- What a process wrote is the output of what it read.
use Rattle.std.proofs.Common.{◌≡◌, ℕ, Bool, true, false, List, [], ◌∷◌, ◌++◌, Result, Ok, Err, refl, sym, ap, ◌∙◌, append_assoc, append-nil}
use Rattle.std.specs.Prelude.{cond, All}
use Rattle.std.specs.List.{onto_first}
use Rattle.std.proofs.lemmas.Bool.{ne_eqb}
use Rattle.std.proofs.lemmas.Grind.{flat_map-append}
use Rattle.std.proofs.lemmas.List.Elements.{All-nil, All-cons, All-head, All-tail, All-append, All-weaker}
use Rattle.texts.specs.Printed.{text_of_lines}
use Rattle.texts.specs.Words.{line_feed, pieces_at, with_byte}
use Rattle.silo_address.specs.Silo.{Silo}
use Rattle.directory_rules.specs.Settings.{Settings}
use Rattle.directory_rules.specs.Membership.{Change, Membership, changed}
use Rattle.silo_rules.specs.SiloValue.{first_silo}
use Rattle.process_rules.specs.ReadLine.{unended_fault}
use Rattle.process_rules.specs.Answer.{Answered}
use Rattle.process_rules.specs.Output.{unless_ended, written_on}
use Rattle.process_deployment.specs.Cluster.{JoinTokens, Process, started, answer_to, having_read, reads, Cluster, first_cluster, everyone}
use Rattle.process_deployment.specs.Steps.{Step, Decide, Read, dying, without, decided, after, after_all}
use Rattle.process_deployment.specs.Allowed.{IsLine, May, MayAll}
use Rattle.process_deployment.specs.Theorems.{HasItsOutput, ProcessesWriteTheirOutput}
use Rattle.process_deployment.proofs.Everyone.{reading_keeps, without_keeps, dying_keeps, started_keeps}

-- ---- lines are cut where they ended
abbrev IsNoEnd : ℕ → Type 0
IsNoEnd byte = byte ≡ line_feed → ⊥

line_cut : (line more : List ℕ) → IsLine line → pieces_at line_feed (line ++ line_feed ∷ more) ≡ line ∷ pieces_at line_feed more
line_cut [] more is = refl
line_cut (byte ∷ line) more is =
    ap (λ (b : Bool). with_byte b byte (pieces_at line_feed (line ++ line_feed ∷ more)))
    (ne_eqb byte line_feed (All-head IsNoEnd byte line is))
    ∙ ap (onto_first byte) (line_cut line more (All-tail IsNoEnd byte line is))

lines_cut : (lines : List (List ℕ)) → All IsLine lines → pieces_at line_feed (text_of_lines lines) ≡ lines ++ [] ∷ []
lines_cut [] are = refl
lines_cut (line ∷ lines) are =
    ap (pieces_at line_feed) (append_assoc line (line_feed ∷ []) (text_of_lines lines))
    ∙ line_cut line (text_of_lines lines) (All-head IsLine line lines are)
    ∙ ap (λ (pieces : List (List ℕ)). line ∷ pieces) (lines_cut lines (All-tail IsLine line lines are))

-- ---- a process has written what it read, and goes on from there
record IsPlayed (settings : Settings) (e : Silo × Process) : Type 0 where
  lines : All IsLine e.1.read
  plays : (next : List ℕ) (rest : List (List ℕ)) → written_on e.1.token (e.1.read ++ next ∷ rest) (first_silo settings e.0) ≡ text_of_lines
      e.1.wrote ++ unless_ended e.1.ended (written_on e.1.token (next ∷ rest)) e.1.silo

first_played : (settings : Settings) (tokens : JoinTokens) (silo : Silo) → IsPlayed settings (silo, started settings tokens silo)
first_played settings tokens silo = record { lines = All-nil IsLine; plays = λ next rest. refl }

reads_played : (settings : Settings) (silo : Silo) (line : List ℕ) (p : Process) → IsLine line → IsPlayed settings (silo, p)
    → IsPlayed settings (silo, reads line p)
unfolding written_on
reads_played settings silo line p is_line played = by p.ended refl
  where
    it : Answered
    it = answer_to line p

    by : (ended : Bool) → p.ended ≡ ended → IsPlayed settings (silo, cond ended p (having_read line (answer_to line p) p))
    by true is = played
    by false is = record {
      lines = All-append IsLine p.read (line ∷ []) played.lines (All-cons IsLine line [] is_line (All-nil IsLine));
      plays = λ next rest.
          let it = answer_to line p in
          let then_so = unless_ended it.ends (written_on p.token (next ∷ rest)) it.silo in
          ap (λ (lines : List (List ℕ)). written_on p.token lines (first_silo settings silo))
          (append_assoc p.read (line ∷ []) (next ∷ rest))
          ∙ played.plays line (next ∷ rest)
          ∙ ap (λ (b : Bool). text_of_lines p.wrote ++ unless_ended b (written_on p.token (line ∷ next ∷ rest)) p.silo) is
          ∙ sym (append_assoc (text_of_lines p.wrote) (text_of_lines it.lines) then_so)
          ∙ ap (λ (text : List ℕ). text ++ then_so) (sym (flat_map-append (λ line. line ++ line_feed ∷ []) p.wrote it.lines));
    }

nothing_behind : (settings : Settings) (e : Silo × Process) (ended : Bool)
    → text_of_lines e.1.wrote ++ unless_ended ended (written_on e.1.token ([] ∷ [])) e.1.silo ≡ text_of_lines e.1.wrote
unfolding written_on unended_fault
nothing_behind settings e true = append-nil (text_of_lines e.1.wrote)
nothing_behind settings e false = append-nil (text_of_lines e.1.wrote)

has_output : (settings : Settings) (e : Silo × Process) → IsPlayed settings e → HasItsOutput settings e
has_output settings e played =
    sym (ap (λ (pieces : List (List ℕ)). written_on e.1.token pieces (first_silo settings e.0)) (lines_cut e.1.read played.lines)
    ∙ played.plays [] [] ∙ nothing_behind settings e e.1.ended)

-- ---- so does each of them, after any steps
record ArePlayed (c : Cluster) : Type 0 where
  live : All (IsPlayed c.settings) c.processes
  dead : All (IsPlayed c.settings) c.dead

decided_played : (c : Cluster) (change : Change) (r : Result Membership ℕ) → ArePlayed c → ArePlayed (decided r c change)
decided_played c change (Err number) are = are
decided_played c change (Ok m) are =
    let Q = IsPlayed c.settings in
    let old = dying c.membership change in
    record {
      live =
          started_keeps Q c.settings c.tokens change (without old c.processes) (first_played c.settings c.tokens)
          (without_keeps Q old c.processes are.live);
      dead = dying_keeps Q old c.processes c.dead are.live are.dead;
    }

after_played : (c : Cluster) (step : Step) → May c step → ArePlayed c → ArePlayed (after c step)
unfolding after May
after_played c (Decide change) may are = decided_played c change (changed c.settings c.membership change) are
after_played c (Read silo line) may are =
    let Q = IsPlayed c.settings in
    let keeps = λ (p : Process) (played : IsPlayed c.settings (silo, p)). reads_played c.settings silo line p may.1 played in
    record { live = reading_keeps Q silo line c.processes keeps are.live; dead = reading_keeps Q silo line c.dead keeps are.dead }

all_played : (c : Cluster) (steps : List Step) → MayAll c steps → ArePlayed c → ArePlayed (after_all c steps)
unfolding after_all MayAll
all_played c [] may are = are
all_played c (step ∷ steps) may are = all_played (after c step) steps may.1 (after_played c step may.0 are)

pub processes_write_their_output : ProcessesWriteTheirOutput
processes_write_their_output settings tokens steps in_range may =
    let first = first_cluster settings tokens in
    let c = after_all first steps in
    let are = all_played first steps may (record { live = All-nil (IsPlayed settings); dead = All-nil (IsPlayed settings) }) in
    All-weaker (IsPlayed c.settings) (HasItsOutput c.settings) (has_output c.settings) (everyone c)
    (All-append (IsPlayed c.settings) c.processes c.dead are.live are.dead)

-- What a process writes of its output.
use Rattle.std.proofs.Common.{◌≡◌, ℕ, Bool, List, [], Option, Some, None, IfSome, refl, subst}
use Rattle.std.proofs.KnownBytes.{Appends-nil}
use Rattle.texts.specs.Words.{line_feed, pieces_at}
use Rattle.silo_address.specs.Silo.{Silo}
use Rattle.directory_rules.specs.Settings.{Settings}
use Rattle.silo_rules.specs.SiloValue.{SiloValue, first_silo}
use Rattle.process_rules.specs.Output.{written_on}
use Rattle.line_loop.specs.Endings.{Ends, EndsInTurn}
use Rattle.line_loop.specs.Lines.{PlaysLines, PrintsLine}
use Rattle.line_loop.specs.Outputs.{WritesOutput}
use Rattle.line_loop.specs.declared.ended.Ended.{Ended}
use Rattle.line_loop.specs.declared.ended.Ended.TheVariants as ended
use Rattle.line_loop.proofs.Calls.{in_turn_so}
use Rattle.process_answers.specs.LineAnswers.{PlaysOne, PrintsAnswer, PrintsLines, most_begun, most_read}
use Rattle.process_answers.specs.declared.player.Dead.{Dead}
use Rattle.process_answers.specs.declared.player.Player.{Player}
use Rattle.process_answers.proofs.Runs.{prints_answer, prints_lines, writes_output}
use Rattle.console_command.specs.SiloPlay.{AnswersInTurn, WritesAnswers}

-- what a player does with a line
abbrev pub plays : Player → ℕ → List ℕ → Bool → List ℕ → Option Dead → Player → Type 0
plays old number line feed text stop new = PlaysOne old.token old.silo line feed text stop new.token new.silo

-- the text of a run is of the output of its first silo
pub writes_answers : (settings : Settings) (silo : Silo) (token : Option (List ℕ)) (first last : Player)
    (read rest begun written : Option (List ℕ)) (ending : Ended Dead)
    → first.token ≡ token → first.silo ≡ first_silo settings silo
    → IfSome read (λ input. Ends plays most_read first last input rest begun written ending)
    → IfSome read (λ input. WritesAnswers settings silo token input rest begun written ending)
writes_answers settings silo token first last None rest begun written ending with_it is ends = tt
writes_answers settings silo token first last (Some input) rest begun written ending with_it is ends =
    subst (λ (t : Option (List ℕ)). WritesOutput (λ dead text. Unit {0}) 0 most_read
    (record { text = written_on t (pieces_at line_feed input) (first_silo settings silo); status = 0 }) input rest begun written ending)
    with_it
    (subst (λ (s : SiloValue). WritesOutput (λ dead text. Unit {0}) 0 most_read
    (record { text = written_on first.token (pieces_at line_feed input) s; status = 0 }) input rest begun written ending) is
    (writes_output plays (λ (p : Player). p.token) (λ (p : Player). p.silo) (λ a b number line feed text stop made. made) first last input
    rest begun written ending ends))

-- before the first line nothing is written
pub nothing_answered : (settings : Settings) (silo : Silo) (token : Option (List ℕ)) (read begun : Option (List ℕ))
    → IfSome read (λ input. WritesAnswers settings silo token input read begun begun ended.OutOfMemory)
nothing_answered settings silo token None begun = tt
nothing_answered settings silo token (Some input) begun = record {
  text = [];
  writes = Appends-nil begun;
  concludes = record { more = written_on token (pieces_at line_feed input) (first_silo settings silo); joined = refl };
  reads = tt;
}

-- in turn
pub answers_in_turn : {R W : Type 0} (reads : R → Option (List ℕ) → R → Type 0) (writes : W → List ℕ → Option ℕ → W → Type 0)
    (old new : R × W) (token : Option (List ℕ)) (silo : SiloValue) (first : Player) (ending : Ended Dead)
    → first.token ≡ token → first.silo ≡ silo
    → EndsInTurn reads writes most_begun most_read (PlaysLines plays first) (PrintsLine plays) old new ending
    → AnswersInTurn reads writes token silo old new ending
answers_in_turn reads writes old new token silo first ending with_it is turn =
    let its_token = λ (p : Player). p.token in
    let its_silo = λ (p : Player). p.silo in
    subst (λ (t : Option (List ℕ)). AnswersInTurn reads writes t silo old new ending) with_it
    (subst (λ (s : SiloValue). AnswersInTurn reads writes first.token s old new ending) is
    (in_turn_so reads writes old most_begun most_read (PlaysLines plays first) (PrintsLines first.token first.silo) (PrintsLine plays)
    PrintsAnswer
    (prints_lines plays its_token its_silo (λ a b number line feed text stop made. made) first)
    (prints_answer plays its_token its_silo (λ a b number line feed text stop made. made) first) new ending turn))

-- What is written on lines is a beginning of what is written where more lines come.
use Rattle.std.proofs.Common.{◌≡◌, ℕ, Bool, true, false, List, [], ◌∷◌, ◌++◌, Option, refl, ap, sym, ◌∙◌, append_assoc}
use Rattle.std.specs.Prelude.{◌==◌}
use Rattle.texts.specs.Printed.{text_of_lines}
use Rattle.texts.specs.Words.{line_feed, pieces_at, with_byte}
use Rattle.silo_address.specs.Silo.{Silo}
use Rattle.directory_rules.specs.Settings.{Settings}
use Rattle.silo_rules.specs.SiloValue.{SiloValue, first_silo}
use Rattle.process_rules.specs.ReadLine.{unended_fault}
use Rattle.process_rules.specs.Answer.{Answered}
use Rattle.process_rules.specs.OutputLaws.{Begins}
use Rattle.process_rules.specs.Output.{answered_to, said, unless_ended, after_line, written_on, written}

-- ---- a line feed cuts
abbrev HasPiece : List (List ℕ) → Type 0
HasPiece pieces = (first : List ℕ) × (rest : List (List ℕ)) × (pieces ≡ first ∷ rest)

with_byte_has : (ends : Bool) (byte : ℕ) (pieces : List (List ℕ)) → HasPiece pieces → HasPiece (with_byte ends byte pieces)
with_byte_has true byte pieces has = ([], pieces, refl)
with_byte_has false byte pieces has = (byte ∷ has.0, has.1, ap (with_byte false byte) has.2)

has_piece : (bytes : List ℕ) → HasPiece (pieces_at line_feed bytes)
has_piece [] = ([], [], refl)
has_piece (byte ∷ bytes) = with_byte_has (byte == line_feed) byte (pieces_at line_feed bytes) (has_piece bytes)

byte_in_front : (ends : Bool) (byte : ℕ) (first : List ℕ) (rest more : List (List ℕ))
    → with_byte ends byte ((first ∷ rest) ++ more) ≡ with_byte ends byte (first ∷ rest) ++ more
byte_in_front true byte first rest more = refl
byte_in_front false byte first rest more = refl

cut : (front more : List ℕ) → pieces_at line_feed (front ++ line_feed ∷ more) ≡ pieces_at line_feed front ++ pieces_at line_feed more
cut [] more = refl
cut (byte ∷ front) more =
    let has = has_piece front in
    ap (with_byte (byte == line_feed) byte) (cut front more ∙ ap (λ (pieces : List (List ℕ)). pieces ++ pieces_at line_feed more) has.2)
    ∙ byte_in_front (byte == line_feed) byte has.0 has.1 (pieces_at line_feed more)
    ∙ ap (λ (pieces : List (List ℕ)). with_byte (byte == line_feed) byte pieces ++ pieces_at line_feed more) (sym has.2)

-- ---- more lines go on
onto_begins : (front beginning whole : List ℕ) → Begins beginning whole → Begins (front ++ beginning) (front ++ whole)
onto_begins front beginning whole begins =
    (begins.0, ap (λ (text : List ℕ). front ++ text) begins.1 ∙ sym (append_assoc front beginning begins.0))

unless_ended_begins : (ends : Bool) (less more : SiloValue → List ℕ) (s : SiloValue) → Begins (less s) (more s)
    → Begins (unless_ended ends less s) (unless_ended ends more s)
unless_ended_begins true less more s begins = ([], refl)
unless_ended_begins false less more s begins = begins

after_line_begins : (it : Answered) (less more : SiloValue → List ℕ) → ((s : SiloValue) → Begins (less s) (more s))
    → Begins (after_line it less) (after_line it more)
after_line_begins it less more begins =
    onto_begins (text_of_lines it.lines) (unless_ended it.ends less it.silo) (unless_ended it.ends more it.silo)
    (unless_ended_begins it.ends less more it.silo (begins it.silo))

module _ (token : Option (List ℕ)) where
  lines_begin : (lines : List (List ℕ)) (last : List ℕ) (rest : List (List ℕ)) (s : SiloValue)
      → Begins (written_on token (lines ++ [] ∷ []) s) (written_on token (lines ++ last ∷ rest) s)
  unfolding written_on unended_fault
  lines_begin [] last rest s = (written_on token (last ∷ rest) s, refl)
  lines_begin (line ∷ []) last rest s =
      after_line_begins (answered_to token (said line s) s) (written_on token ([] ∷ [])) (written_on token (last ∷ rest))
      (λ t. lines_begin [] last rest t)
  lines_begin (line ∷ next ∷ lines) last rest s =
      after_line_begins (answered_to token (said line s) s) (written_on token (next ∷ (lines ++ [] ∷ [])))
      (written_on token (next ∷ (lines ++ last ∷ rest))) (λ t. lines_begin (next ∷ lines) last rest t)

  cut_begins : (settings : Settings) (silo : Silo) (front more : List ℕ) (last : List ℕ) (rest : List (List ℕ))
      → pieces_at line_feed more ≡ last ∷ rest
      → Begins (written settings silo token (front ++ line_feed ∷ [])) (written settings silo token (front ++ line_feed ∷ more))
  cut_begins settings silo front more last rest is =
      let start = first_silo settings silo in
      let begins = lines_begin (pieces_at line_feed front) last rest start in
      let less : written settings silo token (front ++ line_feed ∷ []) ≡ written_on token (pieces_at line_feed front ++ [] ∷ []) start =
      ap (λ (pieces : List (List ℕ)). written_on token pieces start) (cut front []) in
      let whole : written settings silo token (front ++ line_feed ∷ more) ≡ written_on token (pieces_at line_feed front ++ last ∷ rest) start =
      ap (λ (pieces : List (List ℕ)). written_on token pieces start)
      (cut front more ∙ ap (λ (pieces : List (List ℕ)). pieces_at line_feed front ++ pieces) is) in
      (begins.0, whole ∙ begins.1 ∙ ap (λ (text : List ℕ). text ++ begins.0) (sym less))

  pub beginning_begins : (settings : Settings) (silo : Silo) (front more : List ℕ)
      → Begins (written settings silo token (front ++ line_feed ∷ [])) (written settings silo token (front ++ line_feed ∷ more))
  beginning_begins settings silo front more = let has = has_piece more in cut_begins settings silo front more has.0 has.1 has.2

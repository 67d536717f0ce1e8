-- Texts written part by part.
use Rattle.std.proofs.Common.{◌≡◌, ℕ, ◌<◌, ◌≤◌, ◌+◌, ◌-◌, List, [], ◌∷◌, ◌++◌, ◌∙◌, ap, sym, refl, append_assoc, slice_index, drop, set, length, arith}
use Rattle.std.proofs.lemmas.Fmt.{decimal_digit, length-decimal-le}
use Rattle.std.proofs.lemmas.List.{drop-set, length-set}
use Rattle.std.specs.Fmt.{decimal}
use Rattle.silo_address.specs.Marks.{at_sign, colon, dot}
use Rattle.silo_address.specs.Silo.{IsSilo, Silo}
use Rattle.silo_address.specs.SiloText.{silo_text}
use Rattle.ring_range.specs.Range.{Range}
use Rattle.ring_range.specs.Text.{plus_sign, range_text}
use Rattle.texts.specs.Words.{space}
use Rattle.script_lines.specs.Spaced.{spaced}
use Rattle.script_lines.proofs.SpacedWords.{behind_the_mark}

-- a mark in front of what stands at the end
pub mark_put : (bytes : List ℕ) (end mark : ℕ) → 0 < end → end ≤ length bytes
    → drop (end - 1) (set bytes (end - 1) mark) ≡ mark ∷ drop end bytes
mark_put bytes end mark some within =
    let next : end - 1 + 1 ≡ end = omega arith in
    rw (drop-set bytes (end - 1) mark (omega arith), next) refl

-- a digit and a mark in front of it
pub digit_put : (bytes : List ℕ) (end digit mark : ℕ) → digit < 10 → 1 < end → end ≤ length bytes
    → drop (end - 2) (set (set bytes (end - 1) mark) (end - 2) (48 + digit)) ≡ decimal digit ++ mark ∷ drop end bytes
digit_put bytes end digit mark small some within =
    let next : end - 2 + 1 ≡ end - 1 = omega arith in
    let long = length-set bytes (end - 1) mark in
    rw (
      drop-set (set bytes (end - 1) mark) (end - 2) (48 + digit) (omega arith),
      next,
      mark_put bytes end mark (omega arith) within,
      decimal_digit digit small,
    ) refl

-- how many digits the numbers of a silo take at most
pub short_generation : (written : ℕ) (silo : Silo) → IsSilo silo → written ≡ silo.generation → length (decimal written) ≤ 10
short_generation written silo is same =
    let below = is.generation_below in length-decimal-le 10 written (omega arith) (omega arith) (omega arith)

pub short_port : (written : ℕ) (silo : Silo) → IsSilo silo → written ≡ silo.port → length (decimal written) ≤ 5
short_port written silo is same = let below = is.port_below in length-decimal-le 5 written (omega arith) (omega arith) (omega arith)

pub short_byte : (written k : ℕ) (silo : Silo) → IsSilo silo → written ≡ slice_index silo.ip k → length (decimal written) ≤ 3
short_byte written k silo is same = let below = is.bytes k in length-decimal-le 3 written (omega arith) (omega arith) (omega arith)

-- a silo's six numbers, each put with its mark in front of the one behind it, are its text
pub silo_put : (silo : Silo) (mark : ℕ) (rest generation port fourth third second first : List ℕ)
    → generation ≡ decimal silo.generation ++ mark ∷ rest → port ≡ decimal silo.port ++ at_sign ∷ generation
    → fourth ≡ decimal (slice_index silo.ip 3) ++ colon ∷ port → third ≡ decimal (slice_index silo.ip 2) ++ dot ∷ fourth
    → second ≡ decimal (slice_index silo.ip 1) ++ dot ∷ third → first ≡ decimal (slice_index silo.ip 0) ++ dot ∷ second
    → first ≡ silo_text silo ++ mark ∷ rest
silo_put silo mark rest generation port fourth third second first one two three four five six =
    rw (six, five, four, three, two, one) (simp append_assoc refl)

-- a range: its start, a plus, its size
pub range_written : (before start after : List ℕ) (range : Range)
    → start ≡ before ++ (decimal range.start ++ plus_sign ∷ []) → after ≡ start ++ (decimal range.size ++ space ∷ [])
    → after ≡ before ++ spaced (range_text range ∷ [])
unfolding spaced
range_written before start after range first second =
    behind_the_mark before start after (decimal range.start) (decimal range.size ++ space ∷ []) plus_sign first second
    ∙ ap (λ t. before ++ t) (sym (append_assoc (decimal range.start) (plus_sign ∷ decimal range.size) (space ∷ [])))

-- Reads and writes: what each call gave or took, and how the calls of a source, of a sink, or of both follow one another.
use Rattle.std.specs.Prelude.{◌≡◌, ℕ, ◌<◌, ◌≤◌, Bool, true, false, List, [], ◌++◌, length, take, drop, Option, Some, None, Result, Ok, Err}
use Rattle.std.specs.Io.KnownBytes.{Appends, Consumes, IsAtEnd, Keeps}

-- ---- One call.

-- the bytes that a read gave; none where it failed
abbrev pub given : {E : Type 0} → Result ℕ E → (chunk : List ℕ) → Option (List ℕ)
given (Ok count) chunk = Some (take count chunk)
given (Err error) chunk = None

-- how many bytes a write took; none where it failed
abbrev pub taken : {E : Type 0} → Result ℕ E → Option ℕ
taken (Ok count) = Some count
taken (Err error) = None

-- what a read of known bytes leaves; it gives nothing only at their end
abbrev pub ReadsKnown : (old : Option (List ℕ)) → (got : Option (List ℕ)) → (new : Option (List ℕ)) → Type 0
ReadsKnown old None new = Keeps old new
ReadsKnown old (Some bytes) new = Consumes old new bytes × (bytes ≡ [] → IsAtEnd new)

-- what a write makes of known bytes
abbrev pub WritesKnown : (old : Option (List ℕ)) → (bytes : List ℕ) → (took : Option ℕ) → (new : Option (List ℕ)) → Type 0
WritesKnown old bytes None new = Keeps old new
WritesKnown old bytes (Some count) new = Appends old new (take count bytes)

-- ---- Calls one after the other.

-- the reads of a source between two of its states, and whether all were well: none stands behind one that failed or gave nothing
pub data ReadsInTurn {R : Type 0} (reads : R → Option (List ℕ) → R → Type 0) : R → R → Bool → Type 0 where
  no_read : {source : R} → ReadsInTurn reads source source true
  read_some : {old between new : R} {well : Bool} → (chunk : List ℕ) → 0 < length chunk → reads old (Some chunk) between → ReadsInTurn reads between new well → ReadsInTurn reads old new well
  read_nothing : {old new : R} → reads old (Some []) new → ReadsInTurn reads old new true
  read_failed : {old new : R} → reads old None new → ReadsInTurn reads old new false

-- the writes of a text to a sink, and whether all of it was taken: each is given what is left of the text, and none stands behind one
-- that failed or took nothing
pub data WritesText {W : Type 0} (writes : W → List ℕ → Option ℕ → W → Type 0) : List ℕ → W → W → Bool → Type 0 where
  wrote_all : {sink : W} → WritesText writes [] sink sink true
  wrote_some : {old between new : W} {well : Bool} → (text : List ℕ) (count : ℕ) → 0 < count → count ≤ length text → writes old text (Some count) between → WritesText writes (drop count text) between new well → WritesText writes text old new well
  wrote_nothing : {text : List ℕ} {old new : W} → 0 < length text → writes old text (Some 0) new → WritesText writes text old new false
  write_failed : {text : List ℕ} {old new : W} → 0 < length text → writes old text None new → WritesText writes text old new false

-- the writes of texts to a sink, and whether all of each was taken: none stands behind a text of which some was left
pub data WritesTexts {W : Type 0} (writes : W → List ℕ → Option ℕ → W → Type 0) : W → W → Bool → Type 0 where
  no_text : {sink : W} → WritesTexts writes sink sink true
  text_written : {old between new : W} {well : Bool} → (text : List ℕ) → WritesText writes text old between true → WritesTexts writes between new well → WritesTexts writes old new well
  text_broken : {old new : W} → (text : List ℕ) → WritesText writes text old new false → WritesTexts writes old new false

-- ---- Reads and writes in turn.

-- how many bytes are read at once at most
abbrev pub most_at_once : ℕ
most_at_once = 65536

-- calls of a loop from a source and a sink on, which read these bytes and wrote this text, and whether a read gave nothing: none of them
-- failed. The source is asked for more only where the text is all that is due on the bytes, and for nothing behind a read that gave nothing;
-- and only what may have waited is written at once.
pub data InTurn {R W : Type 0} (reads : R → Option (List ℕ) → R → Type 0) (writes : W → List ℕ → Option ℕ → W → Type 0) (Due : (bytes text : List ℕ) → Type 0) (MayWait : (text : List ℕ) → Type 0) (first : R × W) : (now : R × W) → (bytes text : List ℕ) → (at_end : Bool) → Type 0 where
  no_call : InTurn reads writes Due MayWait first first [] [] false
  has_read : {old new : R} {sink : W} {bytes text : List ℕ} → InTurn reads writes Due MayWait first (old, sink) bytes text false → Due bytes text
      → (chunk : List ℕ) → 0 < length chunk → length chunk ≤ most_at_once → reads old (Some chunk) new → InTurn reads writes Due MayWait first (new, sink) (bytes ++ chunk) text false
  has_read_nothing : {old new : R} {sink : W} {bytes text : List ℕ} → InTurn reads writes Due MayWait first (old, sink) bytes text false → Due bytes text
      → reads old (Some []) new → InTurn reads writes Due MayWait first (new, sink) bytes text true
  has_written : {source : R} {old new : W} {bytes text : List ℕ} {at_end : Bool} → InTurn reads writes Due MayWait first (source, old) bytes text at_end
      → (more : List ℕ) → MayWait more → WritesText writes more old new true → InTurn reads writes Due MayWait first (source, new) bytes (text ++ more) at_end

-- the same, but that the last call failed: a read, or a write, which took nothing perhaps, of what stands at the end of the text
pub data BreaksInTurn {R W : Type 0} (reads : R → Option (List ℕ) → R → Type 0) (writes : W → List ℕ → Option ℕ → W → Type 0) (Due : (bytes text : List ℕ) → Type 0) (MayWait : (text : List ℕ) → Type 0) (first : R × W) : (last : R × W) → (bytes text : List ℕ) → (at_end : Bool) → Type 0 where
  read_broke : {old new : R} {sink : W} {bytes text : List ℕ} → InTurn reads writes Due MayWait first (old, sink) bytes text false → Due bytes text
      → reads old None new → BreaksInTurn reads writes Due MayWait first (new, sink) bytes text false
  write_broke : {source : R} {old new : W} {bytes text : List ℕ} {at_end : Bool} → InTurn reads writes Due MayWait first (source, old) bytes text at_end
      → (more : List ℕ) → MayWait more → WritesText writes more old new false → BreaksInTurn reads writes Due MayWait first (source, new) bytes (text ++ more) at_end

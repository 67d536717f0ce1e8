-- What was read so far, chunk by chunk.
use Rattle.std.proofs.Common.{◌≡◌, ℕ, ◌+◌, ◌<◌, ◌≤◌, Bool, true, false, List, [], ◌++◌, length, Option, Some, None, IfSome, ap, subst, sym, refl, append-nil, ◌∙◌, arith}
use Rattle.std.proofs.lemmas.List.{length-append}
use Rattle.std.proofs.KnownBytes.{Consumes-all, Consumes-kept, Consumes-nil, Consumes-trans}
use Rattle.std.specs.Io.KnownBytes.{Consumes, IsAtEnd, Keeps}
use Rattle.line_loop.specs.Calls.{ReadsInTurn, most_at_once, no_read, read_some, read_nothing, read_failed}
use Rattle.line_loop.specs.Scripts.{most_read}
use Rattle.console_command.specs.Source.{HasRead, IsRead, IsUnread, were_well}
use Rattle.console_command.specs.declared.source.Unread.{Unread}
use Rattle.console_command.specs.declared.source.Unread.TheVariants.{TooLong, OutOfMemory, Broken}

-- nothing yet
pub nothing_read : (known : Option (List ℕ)) (bytes : List ℕ) → bytes ≡ [] → Consumes known known bytes
nothing_read known bytes none = subst (Consumes known known) (sym none) (Consumes-nil known)

-- a chunk more
pub chunk_read : (first before now : Option (List ℕ)) (bytes chunk longer : List ℕ) → Consumes first before bytes
    → Consumes before now chunk
    → longer ≡ bytes ++ chunk → Consumes first now longer
chunk_read first before now bytes chunk longer read got grown =
    subst (Consumes first now) (sym grown) (Consumes-trans first before now bytes chunk read got)

-- the end
pub all_read : (first before now : Option (List ℕ)) (bytes chunk : List ℕ) → Consumes first before bytes → Consumes before now chunk
    → chunk ≡ []
    → IsAtEnd now → length bytes ≤ most_read → IfSome first (λ all. IsRead all now bytes)
all_read None before now bytes chunk read got none end fits = tt
all_read (Some all) before now bytes chunk read got none end fits =
    let consumed : Consumes (Some all) now bytes =
    subst (Consumes (Some all) now) (ap (λ l. bytes ++ l) none ∙ append-nil bytes)
    (Consumes-trans (Some all) before now bytes chunk read got) in
    let is : bytes ≡ all = Consumes-all (Some all) now bytes [] bytes consumed end refl in
    record { whole = is; fits = subst (λ l. length l ≤ most_read) is fits; consumes = consumed; at_end = end }

-- a read that failed behind it
pub kept_unread : (first before now : Option (List ℕ)) (bytes : List ℕ) → Consumes first before bytes → Keeps before now
    → length bytes ≤ most_read
    → IfSome first (λ all. HasRead all now)
kept_unread None before now bytes read kept fits = tt
kept_unread (Some all) before now bytes read kept fits = record {
  front = bytes;
  chunk = [];
  consumes = Consumes-trans (Some all) now now bytes [] (Consumes-kept (Some all) before now bytes read kept) (Consumes-nil now);
  front_fits = fits;
  chunk_fits = omega arith;
}

-- a chunk that can't be put behind it
pub not_taken : (first before now : Option (List ℕ)) (bytes chunk : List ℕ) (unread : Unread) → Consumes first before bytes
    → Consumes before now chunk
    → length bytes ≤ most_read → length chunk ≤ most_at_once → (unread ≡ TooLong → most_read < length bytes + length chunk)
    → (unread ≡ OutOfMemory → length bytes + length chunk ≤ most_read) → IfSome first (λ all. IsUnread all now unread)
not_taken None before now bytes chunk unread read got fits small long within = tt
not_taken (Some all) before now bytes chunk unread read got fits small long within = go unread long within
  where
    has_read : HasRead all now
    has_read = record {
      front = bytes;
      chunk = chunk;
      consumes = Consumes-trans (Some all) before now bytes chunk read got;
      front_fits = fits;
      chunk_fits = small;
    }

    longer : (rest : Option (List ℕ)) → Consumes (Some all) rest (bytes ++ chunk) → length bytes + length chunk ≤ length all
    longer None consumed = absurd consumed
    longer (Some rest) consumed = omega (arith, ap length consumed, length-append (bytes ++ chunk) rest, length-append bytes chunk)

    go : (unread : Unread) → (unread ≡ TooLong → most_read < length bytes + length chunk)
        → (unread ≡ OutOfMemory → length bytes + length chunk ≤ most_read) → IsUnread all now unread
    go TooLong long within = (has_read, omega (arith, long refl, longer now has_read.consumes))
    go OutOfMemory long within = (
      has_read,
      record {
        bytes = bytes ++ chunk;
        consumes = has_read.consumes;
        fits = omega
            (arith, within refl, length-append bytes chunk);
      },
    )
    go Broken long within = has_read

-- ---- The calls that read them.

-- the reads so far: what is read from here on is read in turn with them
abbrev pub ReadSoFar : {R : Type 0} → (reads : R → Option (List ℕ) → R → Type 0) → (first now : R) → Type 0
ReadSoFar {R} reads first now = (new : R) (well : Bool) → ReadsInTurn reads now new well → ReadsInTurn reads first new well

module _ {R : Type 0} (reads : R → Option (List ℕ) → R → Type 0) (first now new : R) where
  -- one more
  pub read_more : (chunk : List ℕ) → 0 < length chunk → reads now (Some chunk) new → ReadSoFar reads first now → ReadSoFar reads first new
  read_more chunk some once before = λ last well after. before last well (read_some chunk some once after)

  -- the end
  pub read_whole : (chunk : List ℕ) → chunk ≡ [] → reads now (Some chunk) new → ReadSoFar reads first now → ReadsInTurn reads first new true
  read_whole chunk none once before = before new true (read_nothing (subst (λ (got : List ℕ). reads now (Some got) new) none once))

  -- the last failed
  pub read_broken : reads now None new → ReadSoFar reads first now → ReadsInTurn reads first new false
  read_broken once before = before new false (read_failed once)

  -- the last can't be kept
  pub read_unkept : (chunk : List ℕ) (unread : Unread) → (unread ≡ Broken → ⊥) → 0 < length chunk → reads now (Some chunk) new
      → ReadSoFar reads first now
      → ReadsInTurn reads first new (were_well unread)
  read_unkept chunk Broken unbroken some once before = absurd (unbroken refl)
  read_unkept chunk TooLong unbroken some once before = before new true (read_some chunk some once no_read)
  read_unkept chunk OutOfMemory unbroken some once before = before new true (read_some chunk some once no_read)

-- without memory for a chunk none is made
pub read_not_begun : {R : Type 0} (reads : R → Option (List ℕ) → R → Type 0) (source : R) (unread : Unread) → unread ≡ OutOfMemory
    → ReadsInTurn reads source source (were_well unread)
read_not_begun reads source unread is = subst (λ (u : Unread). ReadsInTurn reads source source (were_well u)) (sym is) no_read

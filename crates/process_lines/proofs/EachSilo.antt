-- The silos of a view, read word by word, and the places of one, read from comma to comma.
use Rattle.std.proofs.Common.{◌≡◌, subst, ap, ◌∙◌, sym, refl, ℕ, Some, Result, Ok, Err, List, [], ◌∷◌, ◌++◌, append_assoc, append-nil}
use Rattle.std.specs.Prelude.{◌≢◌, IsErrAnd, IsOk}
use Rattle.silo_address.specs.Silo.{Silo}
use Rattle.membership_view.specs.declared.status.Status.{Status}
use Rattle.directory_rules.specs.Membership.{Listed}
use Rattle.script_rules.specs.Script.{hash_word, number_word, places_in, silo_word, ◌>>=◌}
use Rattle.script_lines.proofs.Placed.{onto, places_more}
use Rattle.process_rules.specs.ReadLine.{Asked, Begin, a_view, listed_as, listed_in, listed_word}
use Rattle.process_lines.specs.declared.fault.LineError.{LineError}
use Rattle.process_lines.specs.declared.fault.LineError.TheVariants.{Fault, OutOfMemory}
use Rattle.process_lines.specs.FaultNumbers.{line_fault_number}
use Rattle.process_lines.specs.ReadAs.{Fails, FailsUnlessMemory, ReadsUnlessMemory}
use Rattle.process_lines.specs.Memory.{WordsNeedMemory}
use Rattle.process_lines.specs.Colons.{checked}

-- ---- what is read, without its value
checked_then : {A B : Type 0} (read : Result A ℕ) (make : A → B) → checked (read >>= λ value. Ok (make value)) ≡ checked read
checked_then (Ok value) make = refl
checked_then (Err fault) make = refl

-- ---- what a part fails with, all does
pub fails_on : {A B D : Type 0} (result : Result A LineError) (error : LineError) (part : Result D ℕ) (whole : Result B ℕ) (view : A → B)
    → IsErrAnd result (λ e. e ≡ error) → FailsUnlessMemory error part → ((fault : ℕ) → part ≡ Err fault → whole ≡ Err fault)
    → ReadsUnlessMemory view result whole
fails_on (Ok value) error part whole view is fails on = absurd is
fails_on (Err (Fault fault)) error part whole view is fails on =
    on (line_fault_number fault) (subst (λ (e : LineError). FailsUnlessMemory e part) (sym is) fails)
fails_on (Err OutOfMemory) error part whole view is fails on = tt

-- ---- places
module _ (pieces behind : List (List ℕ)) (piece : List ℕ) (split : pieces ≡ piece ∷ behind) where
  places_by : (read : Result ℕ ℕ) → hash_word piece ≡ read
      → places_in pieces ≡ (read >>= λ place. places_in behind >>= λ places. Ok (place ∷ places))
  places_by read is =
      ap places_in split ∙ ap (λ (r : Result ℕ ℕ). r >>= λ place. places_in behind >>= λ places. Ok (place ∷ places)) is

  -- a piece that is a place
  pub places_checked : (place : ℕ) → Ok place ≡ hash_word piece → checked (places_in pieces) ≡ checked (places_in behind)
  places_checked place reads =
      ap (λ (r : Result (List ℕ) ℕ). checked r) (places_by (Ok place) (sym reads))
      ∙ checked_then (places_in behind) (λ places. place ∷ places)

  -- read behind those that were read
  pub pushed_more : (before after : List ℕ) → (hash_word piece >>= λ place. Ok (before ++ place ∷ [])) ≡ Ok after
      → onto before (places_in pieces) ≡ onto after (places_in behind)
  pushed_more before after pushed = by (hash_word piece) refl pushed
    where
      by : (read : Result ℕ ℕ) → hash_word piece ≡ read → (read >>= λ place. Ok (before ++ place ∷ [])) ≡ Ok after
          → onto before (places_in pieces) ≡ onto after (places_in behind)
      by (Ok place) at is =
          let same : before ++ place ∷ [] ≡ after = cc (is) in
          places_more before pieces piece behind place split (sym at) ∙ ap (λ (places : List ℕ). onto places (places_in behind)) same
      by (Err fault) at is = absurd (cc (is))

  pub pushed_fault : (before : List ℕ) (fault : ℕ) → (hash_word piece >>= λ place. Ok (before ++ place ∷ [])) ≡ Err fault
      → onto before (places_in pieces) ≡ Err fault
  pushed_fault before fault pushed = by (hash_word piece) refl pushed
    where
      by : (read : Result ℕ ℕ) → hash_word piece ≡ read → (read >>= λ place. Ok (before ++ place ∷ [])) ≡ Err fault
          → onto before (places_in pieces) ≡ Err fault
      by (Ok place) at is = absurd (cc (is))
      by (Err other) at is =
          let same : other ≡ fault = cc (is) in
          ap (onto before) (places_by (Err other) at) ∙ ap Err same

pub pushed_last : (pieces : List (List ℕ)) (piece : List ℕ) → pieces ≡ piece ∷ [] → (before after : List ℕ)
    → (hash_word piece >>= λ place. Ok (before ++ place ∷ [])) ≡ Ok after → onto before (places_in pieces) ≡ Ok after
pushed_last pieces piece split before after pushed =
    pushed_more pieces [] piece split before after pushed ∙ ap Ok (append-nil after)

-- ---- the silo that a word lists, by its pieces
abbrev as_listed : Silo → Status → List ℕ → Listed
as_listed silo status places = record { silo = silo; status = status; places = places }

module _ (word text : List ℕ) (status : Status) (places : List (List ℕ))
    (cut : listed_word word ≡ listed_as (Some status) text places) where
  listed_by : (read : Result Silo ℕ) → silo_word text ≡ read
      → listed_word word ≡ (read >>= λ silo. places_in places >>= λ stated. Ok (as_listed silo status stated))
  listed_by read is =
      cut ∙ ap (λ (r : Result Silo ℕ). r >>= λ silo. places_in places >>= λ stated. Ok (as_listed silo status stated)) is

  pub silo_fault : (fault : ℕ) → Err fault ≡ silo_word text → listed_word word ≡ Err fault
  silo_fault fault reads = listed_by (Err fault) (sym reads)

  module _ (silo : Silo) (reads : Ok silo ≡ silo_word text) where
    pub stated_fault : (fault : ℕ) → places_in places ≡ Err fault → listed_word word ≡ Err fault
    stated_fault fault is =
        listed_by (Ok silo) (sym reads) ∙ ap (λ (r : Result (List ℕ) ℕ). r >>= λ stated. Ok (as_listed silo status stated)) is

    pub stated_read : (stated : List ℕ) → places_in places ≡ Ok stated → listed_word word ≡ Ok (as_listed silo status stated)
    stated_read stated is =
        listed_by (Ok silo) (sym reads) ∙ ap (λ (r : Result (List ℕ) ℕ). r >>= λ stated. Ok (as_listed silo status stated)) is

    pub stated_checked : checked (listed_word word) ≡ checked (places_in places)
    stated_checked =
        ap (λ (r : Result Listed ℕ). checked r) (listed_by (Ok silo) (sym reads)) ∙ checked_then (places_in places) (as_listed silo status)

-- ---- silos: what is read with these in front
abbrev pub behind_these : List Listed → Result (List Listed) ℕ → Result (List Listed) ℕ
behind_these before (Ok rows) = Ok (before ++ rows)
behind_these before (Err fault) = Err fault

these_nil : (read : Result (List Listed) ℕ) → behind_these [] read ≡ read
these_nil (Ok rows) = refl
these_nil (Err fault) = refl

these_more : (before : List Listed) (one : Listed) (read : Result (List Listed) ℕ)
    → behind_these before (read >>= λ rows. Ok (one ∷ rows)) ≡ behind_these (before ++ one ∷ []) read
these_more before one (Ok rows) = ap Ok (sym (append_assoc before (one ∷ []) rows))
these_more before one (Err fault) = refl

pub silos_first : (words : List (List ℕ)) → listed_in words ≡ behind_these [] (listed_in words)
silos_first words = sym (these_nil (listed_in words))

pub silos_end : (before : List Listed) (words : List (List ℕ)) → words ≡ [] → behind_these before (listed_in words) ≡ Ok before
silos_end before words none = ap (λ (ws : List (List ℕ)). behind_these before (listed_in ws)) none ∙ ap Ok (append-nil before)

module _ (words behind : List (List ℕ)) (word : List ℕ) (split : words ≡ word ∷ behind) where
  silos_by : (read : Result Listed ℕ) → listed_word word ≡ read
      → listed_in words ≡ (read >>= λ one. listed_in behind >>= λ others. Ok (one ∷ others))
  silos_by read is =
      ap listed_in split ∙ ap (λ (r : Result Listed ℕ). r >>= λ one. listed_in behind >>= λ others. Ok (one ∷ others)) is

  -- a word that lists one
  pub silos_checked : Ok tt ≡ checked (listed_word word) → checked (listed_in words) ≡ checked (listed_in behind)
  silos_checked ok = by (listed_word word) refl ok
    where
      by : (read : Result Listed ℕ) → listed_word word ≡ read → Ok tt ≡ checked read
          → checked (listed_in words) ≡ checked (listed_in behind)
      by (Ok one) at is =
          ap (λ (r : Result (List Listed) ℕ). checked r) (silos_by (Ok one) at) ∙ checked_then (listed_in behind) (λ others. one ∷ others)
      by (Err fault) at is = absurd (cc (is))

  -- read behind those that were read
  pub silos_more : (before : List Listed) (one : Listed) → listed_word word ≡ Ok one
      → behind_these before (listed_in words) ≡ behind_these (before ++ one ∷ []) (listed_in behind)
  silos_more before one reads = ap (behind_these before) (silos_by (Ok one) reads) ∙ these_more before one (listed_in behind)

  pub silos_fail : (before : List Listed) (fault : ℕ) → listed_word word ≡ Err fault → behind_these before (listed_in words) ≡ Err fault
  silos_fail before fault reads = ap (behind_these before) (silos_by (Err fault) reads)

-- ---- a version, and then the silos
module _ (words behind : List (List ℕ)) (word : List ℕ) (version : ℕ) (split : words ≡ word ∷ behind)
    (reads : Ok version ≡ number_word word)
  where
    pub view_is : a_view words ≡ (listed_in behind >>= λ rows. Ok (Begin version rows))
    view_is =
        ap a_view split ∙ ap (λ (r : Result ℕ ℕ). r >>= λ version. listed_in behind >>= λ rows. Ok (Begin version rows)) (sym reads)

    pub view_fault : (fault : ℕ) → listed_in behind ≡ Err fault → a_view words ≡ Err fault
    view_fault fault is = view_is ∙ ap (λ (r : Result (List Listed) ℕ). r >>= λ rows. Ok (Begin version rows)) is

    pub view_read : (rows : List Listed) → listed_in behind ≡ Ok rows → a_view words ≡ Ok (Begin version rows)
    view_read rows is = view_is ∙ ap (λ (r : Result (List Listed) ℕ). r >>= λ rows. Ok (Begin version rows)) is

    module _ (ok : Ok tt ≡ checked (listed_in behind)) where
      pub view_fails : (error : LineError) → FailsUnlessMemory error (listed_in behind) → Fails error (a_view words)
      view_fails (Fault fault) fails = view_fault (line_fault_number fault) fails
      view_fails OutOfMemory fails = subst (λ (r : Result Asked ℕ). IsOk r) (sym view_is) (read_so (listed_in behind) ok)
        where
          read_so : (read : Result (List Listed) ℕ) → Ok tt ≡ checked read → IsOk (read >>= λ rows. Ok (Begin version rows))
          read_so (Ok rows) is = refl
          read_so (Err fault) is = absurd (cc (is))

      -- a word that lists a silo takes memory
      pub view_needs : behind ≢ [] → WordsNeedMemory (a_view words)
      view_needs some = subst WordsNeedMemory (sym view_is) (needs behind ok some)
        where
          by : (one : Result Listed ℕ) (others : Result (List Listed) ℕ)
              → Ok tt ≡ checked (one >>= λ one. others >>= λ others. Ok (one ∷ others))
              → WordsNeedMemory ((one >>= λ one. others >>= λ others. Ok (one ∷ others)) >>= λ rows. Ok (Begin version rows))
          by (Ok one) (Ok others) is = tt
          by (Ok one) (Err fault) is = absurd (cc (is))
          by (Err fault) others is = absurd (cc (is))

          needs : (words : List (List ℕ)) → Ok tt ≡ checked (listed_in words) → words ≢ []
              → WordsNeedMemory (listed_in words >>= λ rows. Ok (Begin version rows))
          needs [] is some = absurd (some refl)
          needs (word ∷ words) is some = by (listed_word word) (listed_in words) is

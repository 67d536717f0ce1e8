-- Lists that are read item by item: what is read with some in front, and what is made of all.
use Rattle.std.proofs.Common.{◌≡◌, subst, ap, sym, refl, ℕ, Result, Ok, Err, List, [], ◌∷◌, ◌++◌, append_assoc}
use Rattle.std.specs.Prelude.{◌≢◌, IsErrAnd, IsOk}
use Rattle.directory_rules.specs.State.{Letter}
use Rattle.script_rules.specs.Script.{◌>>=◌}
use Rattle.process_rules.specs.Lists.{TellsList}
use Rattle.process_lines.specs.declared.fault.LineError.{LineError}
use Rattle.process_lines.specs.declared.fault.LineError.TheVariants.{Fault, OutOfMemory}
use Rattle.process_lines.specs.ReadAs.{Fails, Reads}
use Rattle.process_lines.specs.Short.{AreSome, LetterTellsList}

-- what is read with these in front
abbrev pub onto : {A : Type 0} → List A → Result (List A) ℕ → Result (List A) ℕ
onto before (Ok items) = Ok (before ++ items)
onto before (Err fault) = Err fault

pub onto_nil : {A : Type 0} (read : Result (List A) ℕ) → onto [] read ≡ read
onto_nil (Ok items) = refl
onto_nil (Err fault) = refl

pub onto_more : {A : Type 0} (before : List A) (item : A) (read : Result (List A) ℕ)
    → onto before (read >>= λ items. Ok (item ∷ items)) ≡ onto (before ++ item ∷ []) read
onto_more before item (Ok items) = ap Ok (sym (append_assoc before (item ∷ []) items))
onto_more before item (Err fault) = refl

pub fails_behind : {A : Type 0} (error : LineError) (before : List A) (read : Result (List A) ℕ) → Fails error read
    → Fails error (onto before read)
fails_behind (Fault fault) before read fails = ap (onto before) fails
fails_behind OutOfMemory before (Ok items) fails = fails
fails_behind OutOfMemory before (Err fault) fails = fails

-- what fails in the items fails in what is made of them
pub fails_then : {A B : Type 0} (error : LineError) (read : Result (List A) ℕ) (make : List A → B) → Fails error read
    → Fails error (read >>= λ items. Ok (make items))
fails_then {A = A} (Fault fault) read make fails = ap (λ (r : Result (List A) ℕ). r >>= λ items. Ok (make items)) fails
fails_then OutOfMemory (Ok items) make fails = fails
fails_then OutOfMemory (Err fault) make fails = fails

-- where items were read, at least one, what is made of them tells one
pub brings_then : {A : Type 0} (read : Result (List A) ℕ) (make : List A → Letter)
    → ((items : List A) → items ≢ [] → TellsList (make items).body) → AreSome read
    → LetterTellsList (read >>= λ items. Ok (make items))
brings_then (Ok items) make tells some = tells items some
brings_then (Err fault) make tells some = absurd some

-- where those behind an item are read, there are some
some_behind : {A : Type 0} (before : List A) (item : A) (behind : List A) → (before ++ item ∷ []) ++ behind ≢ []
some_behind [] item behind = λ none. cc
some_behind (first ∷ before) item behind = λ none. cc

pub has_some : {A : Type 0} (before : List A) (item : A) (read : Result (List A) ℕ) → IsOk read
    → AreSome (onto (before ++ item ∷ []) read)
has_some before item (Ok behind) ok = some_behind before item behind
has_some before item (Err fault) ok = cc ok

pub handed_on : {A B : Type 0} (view : A → B) (result : Result A LineError) (error : LineError) (read : Result B ℕ)
    → IsErrAnd result (λ e. e ≡ error) → Fails error read → Reads view result read
handed_on view (Ok value) error read is fails = absurd is
handed_on view (Err same) error read is fails = subst (λ (e : LineError). Fails e read) (sym is) fails

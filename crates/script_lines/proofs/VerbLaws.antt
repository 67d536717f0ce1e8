-- Names, and the rows of the rule's tables of them.
use Rattle.std.proofs.Common.{◌≡◌, ◌≢◌, ap, ◌∙◌, sym, refl, ℕ, List, [], ◌∷◌, bytes_eq, length, Option, Some, None, Result}
use Rattle.std.specs.Map.{lookup}
use Rattle.std.specs.Option.{option_map}
use Rattle.std.proofs.lemmas.Bool.{cond-false, false_from_ne_true}
use Rattle.std.proofs.lemmas.Slice.Eq.{HasBytesAt, bytes_eq-Decides, text_from_reads}
use Rattle.script_rules.specs.Script.{Grammar}

-- ---- what a table reads under a name
abbrev pub read_under : {A : Type 0} → List (List ℕ × Grammar A) → (name : List ℕ) → (words : List (List ℕ)) → Option (Result A ℕ)
read_under rows name words = option_map (λ grammar. grammar words) (lookup (bytes_eq name) rows)

-- what the row reads whose name it is
pub row_read : {A : Type 0} (rows : List (List ℕ × Grammar A)) (name known : List ℕ) (grammar : Grammar A) (words : List (List ℕ))
    (read : Result A ℕ)
    → length name ≡ length known → HasBytesAt name 0 known → lookup (bytes_eq known) rows ≡ Some grammar → read ≡ grammar words
    → Some read ≡ read_under rows name words
row_read rows name known grammar words read long bytes row reads =
    ap (λ r. Some r) reads
    ∙ sym (ap (option_map (λ grammar. grammar words))
    (ap (λ (n : List ℕ). lookup (bytes_eq n) rows) (text_from_reads name known long bytes) ∙ row))

-- a name that none of the rows has
abbrev pub NamesNone : {A : Type 0} → List ℕ → List (List ℕ × A) → Type 0
NamesNone name [] = Unit {0}
NamesNone name (row ∷ rows) = (name ≢ row.0) × NamesNone name rows

names_none : {A : Type 0} (name : List ℕ) (rows : List (List ℕ × A)) → NamesNone name rows → lookup (bytes_eq name) rows ≡ None
names_none name [] none = refl
names_none name (row ∷ rows) none =
    cond-false _ _ _ (false_from_ne_true _ (λ same. none.0 ((bytes_eq-Decides name row.0).0 same))) ∙ names_none name rows none.1

-- nothing is read under it
pub no_row : {A : Type 0} (rows : List (List ℕ × Grammar A)) (name : List ℕ) (words : List (List ℕ)) → NamesNone name rows
    → None ≡ read_under rows name words
no_row rows name words none = sym (ap (option_map (λ grammar. grammar words)) (names_none name rows none))

-- The matches of an option whose values are numbers in a range.
use Rattle.std.proofs.Common.{◌≡◌, ◌∙◌, ◌||◌, ◌++◌, ℕ, Bool, true, false, true≢false, cond, refl, ap, sym, List, [], ◌∷◌, Some, None, pos}
use Rattle.std.specs.Prelude.{option_and_then, option_map, slice_get}
use Rattle.std.specs.List.{find}
use Rattle.std.specs.Str.{bytes_eq}
use Rattle.clap.specs.Lexer.{without_minus}
use Rattle.clap.specs.Values.{read_as}
use Rattle.clap.specs.ValueTests.{accepts}
use Rattle.clap.specs.Walk.{Row, Text, at_row, has_row, more_values, one_of, row_text, with_values, without}
use Rattle.clap.specs.declared.parser.matches.ValueSource.{ValueSource}
use Rattle.clap.specs.declared.builder.value_parser.Reading.{Reading}
use Rattle.clap.specs.declared.builder.value_parser.Reading.TheVariants as reading
use Rattle.clap.specs.declared.builder.value_parser.ValueParser.TheVariants as parser
use Rattle.console_command.proofs.Walks.{Every}

-- the text is a number in the range
abbrev pub IsAccepted : ℕ → ℕ → Text → Type 0
IsAccepted low high text = accepts false (parser.Signed (pos low) (pos high)) text ≡ true

-- there is a value, and the first is such a number
abbrev pub HasAccepted : ℕ → ℕ → List Text → Type 0
HasAccepted low high [] = ⊥
HasAccepted low high (v ∷ vs) = IsAccepted low high v

more_accepted : (low high : ℕ) (xs ys : List Text) → HasAccepted low high xs → HasAccepted low high (xs ++ ys)
more_accepted low high [] ys h = absurd h
more_accepted low high (x ∷ xs) ys h = h

module _ (id : Text) (low high : ℕ) where
  -- a row of the option has such a value, which reads without a minus
  abbrev pub IsFineRow : Row → Type 0
  IsFineRow r = bytes_eq r.id id ≡ true → (r.reading ≡ reading.WithoutMinus) × HasAccepted low high r.values

  abbrev pub AreFine : List Row → Type 0
  AreFine = Every IsFineRow

  fine_append : (xs ys : List Row) → AreFine xs → AreFine ys → AreFine (xs ++ ys)
  fine_append [] ys a b = b
  fine_append (x ∷ xs) ys a b = (a.0, fine_append xs ys a.1 b)

  -- a change of the rows of any option
  fine_at_row : (name : Text) (change : Row → List Row) (missing : List Row) → ((r : Row) → IsFineRow r → AreFine (change r))
      → AreFine missing
      → (rows : List Row) → AreFine rows → AreFine (at_row name change missing rows)
  fine_at_row name change missing changes none [] all = none
  fine_at_row name change missing changes none (r ∷ rs) all =
      go (bytes_eq r.id name) (fine_at_row name change missing changes none rs all.1)
    where
      go : (b : Bool) → AreFine (at_row name change missing rs) → AreFine (cond b (change r ++ rs) (r ∷ at_row name change missing rs))
      go true later = fine_append (change r) rs (changes r all.0) all.1
      go false later = (all.0, later)

  -- values for any option, fine if they are for this one
  pub fine_with : (name : Text) (how : Reading) (s : ValueSource) (values : List Text)
      → IsFineRow (record { id = name; values = values; count = None; source = Some s; reading = how })
      → (rows : List Row) → AreFine rows → AreFine (with_values name how s values rows)
  fine_with name how s values new rows all = fine_at_row name (more_values s values) _
      (λ r h. ((λ is. ((h is).0, more_accepted low high r.values values (h is).1)), tt)) (new, tt) rows all

  pub fine_without : (name : Text) (rows : List Row) → AreFine rows → AreFine (without name rows)
  fine_without name rows all = fine_at_row name (λ r. []) [] (λ r h. tt) tt rows all

  first_text : (how : Reading) (values : List Text) → how ≡ reading.WithoutMinus → HasAccepted low high values
      → (text : Text) × (option_map (read_as how) (slice_get values 0) ≡ Some (without_minus text)) × IsAccepted low high text
  first_text how [] is accepted = absurd accepted
  first_text how (v ∷ vs) is accepted = (v, ap (λ h. Some (read_as h v)) is, accepted)

  -- what the getter reads of the option is such a number
  pub fine_text : (rows : List Row) → AreFine rows → has_row id rows ≡ true
      → (text : Text) × (one_of id rows ≡ Some (without_minus text)) × IsAccepted low high text
  fine_text [] all has = absurd (true≢false (sym has))
  fine_text (r ∷ rs) all has = go (bytes_eq r.id id) refl has (fine_text rs all.1)
    where
      go : (b : Bool) → bytes_eq r.id id ≡ b → (b || has_row id rs) ≡ true
          → (has_row id rs ≡ true → (text : Text) × (one_of id rs ≡ Some (without_minus text)) × IsAccepted low high text)
          → (text : Text) × (option_and_then row_text (cond b (Some r) (find (λ x. bytes_eq x.id id) rs)) ≡ Some (without_minus text))
          × IsAccepted low high text
      go true is here later = first_text r.reading r.values (all.0 is).0 (all.0 is).1
      go false is here later = later here

-- values for an option leave a row of it
pub has_with : (id : Text) (how : Reading) (s : ValueSource) (values : List Text) → bytes_eq id id ≡ true
    → (rows : List Row) → has_row id (with_values id how s values rows) ≡ true
has_with id how s values same [] = ap (λ b. b || false) same
has_with id how s values same (r ∷ rs) = go (bytes_eq r.id id) refl (has_with id how s values same rs)
  where
    go : (b : Bool) → bytes_eq r.id id ≡ b → has_row id (with_values id how s values rs) ≡ true
        → has_row id (cond b (more_values s values r ++ rs) (r ∷ with_values id how s values rs)) ≡ true
    go true is later = ap (λ b. b || has_row id rs) is
    go false is later = ap (λ b. b || has_row id (with_values id how s values rs)) is ∙ later

-- values for any option leave the rows of the others
pub still_has : (id name : Text) (how : Reading) (s : ValueSource) (values : List Text) (rows : List Row) → has_row id rows ≡ true
    → has_row id (with_values name how s values rows) ≡ true
still_has id name how s values [] has = absurd (true≢false (sym has))
still_has id name how s values (r ∷ rs) has = go (bytes_eq r.id name) (bytes_eq r.id id) refl has (still_has id name how s values rs)
  where
    go : (b d : Bool) → bytes_eq r.id id ≡ d → (d || has_row id rs) ≡ true
        → (has_row id rs ≡ true → has_row id (with_values name how s values rs) ≡ true)
        → has_row id (cond b (more_values s values r ++ rs) (r ∷ with_values name how s values rs)) ≡ true
    go true d is here later = ap (λ b. b || has_row id rs) is ∙ here
    go false true is here later = ap (λ b. b || has_row id (with_values name how s values rs)) is
    go false false is here later = ap (λ b. b || has_row id (with_values name how s values rs)) is ∙ later here

-- Lines played one after the other.
use Rattle.std.specs.Prelude.{◌≡◌, ◌⊎◌, ℕ, ◌+◌, Bool, true, false, List, [], ◌∷◌, ◌++◌, length, Option, None}

-- what playing a line may do: by the player before it, the line's number from 1, the line, and whether a line feed ended it, what is printed,
-- how the run stops by it, and the player after it
abbrev pub Plays : (P S : Type 0) → Type 1
Plays P S = P → (number : ℕ) → (line : List ℕ) → (ended : Bool) → (text : List ℕ) → (stop : Option S) → P → Type 0

-- what a line prints stands behind what was there before
pub record Prints {P S : Type 0} (played : List ℕ → Option S → P → Type 0) (before after : List ℕ) (stop : Option S) (new : P) : Type 0 where
  pub text : List ℕ
  pub behind : after ≡ before ++ text
  pub plays : played text stop new

-- lines that ended, played one after the other, with all that they print: the run stops by none
pub data PlaysOn {P S : Type 0} (plays : P → ℕ → List ℕ → Bool → List ℕ → Option S → P → Type 0) (first : P) : (lines : List (List ℕ)) → (text : List ℕ) → P → Type 0 where
  no_line : PlaysOn plays first [] [] first
  then_line : {lines : List (List ℕ)} {text : List ℕ} {before after : P} → PlaysOn plays first lines text before
      → (line more : List ℕ) → plays before (length lines + 1) line true more None after → PlaysOn plays first (lines ++ line ∷ []) (text ++ more) after

-- lines print that text, and the run goes on
abbrev pub PlaysLines : {P S : Type 0} → (plays : P → ℕ → List ℕ → Bool → List ℕ → Option S → P → Type 0) → (first : P) → (lines : List (List ℕ)) → (text : List ℕ) → Type 0
PlaysLines {P} plays first lines text = (now : P) × PlaysOn plays first lines text now

-- a line feed ended the piece in front of the others
abbrev pub is_ended : (others : List (List ℕ)) → Bool
is_ended [] = false
is_ended (next ∷ others) = true

-- pieces of an input, which line feeds cut, are played up to one: the run stops by it, or it is the last
pub record PlaysTo {P S : Type 0} (plays : P → ℕ → List ℕ → Bool → List ℕ → Option S → P → Type 0) (first : P) (pieces : List (List ℕ)) (text : List ℕ) (stop : Option S) (last : P) : Type 0 where
  pub lines : List (List ℕ)
  pub line : List ℕ
  pub others : List (List ℕ)
  pub cut : pieces ≡ lines ++ line ∷ others
  pub before : List ℕ
  pub between : P
  pub on : PlaysOn plays first lines before between
  pub more : List ℕ
  pub plays_line : plays between (length lines + 1) line (is_ended others) more stop last
  pub printed : text ≡ before ++ more
  pub whole : stop ≡ None → others ≡ []

-- the text is what the first of the pieces print, in front of others, or all that pieces print up to one by which the run ends
abbrev pub PlaysSome : {P S : Type 0} → (plays : P → ℕ → List ℕ → Bool → List ℕ → Option S → P → Type 0) → (first : P) → (pieces : List (List ℕ)) → (text : List ℕ) → P → Type 0
PlaysSome {P} {S} plays first pieces text last =
    ((lines : List (List ℕ)) × (next : List ℕ) × (others : List (List ℕ)) × (pieces ≡ lines ++ next ∷ others) × PlaysOn plays first lines text last)
    ⊎ ((stop : Option S) × PlaysTo plays first pieces text stop last)

-- some line prints that text
abbrev pub PrintsLine : {P S : Type 0} → (plays : P → ℕ → List ℕ → Bool → List ℕ → Option S → P → Type 0) → (text : List ℕ) → Type 0
PrintsLine {P} {S} plays text = (old : P) × (number : ℕ) × (line : List ℕ) × (ended : Bool) × (stop : Option S) × (new : P) × plays old number line ended text stop new

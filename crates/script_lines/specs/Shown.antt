-- Lines of `show`, `mail`, `owner` and `place`, by what they tell.
use Rattle.std.specs.Prelude.{ℕ, List, [], ◌∷◌, codes, Option, Some, None, length, if◌then◌else◌}
use Rattle.std.specs.Fmt.{decimal}
use Rattle.silo_address.specs.Silo.{Silo}
use Rattle.silo_address.specs.SiloText.{silo_text}
use Rattle.silo_address.specs.Grain.{Grain, grain_text}
use Rattle.membership_view.specs.declared.status.Status.{Status}
use Rattle.ring_range.specs.Range.{Range}
use Rattle.ring_range.specs.Text.{range_text}
use Rattle.hash_ring.specs.declared.point.Point.{Point}
use Rattle.directory_rules.specs.declared.letter_kind.LetterKind.{LetterKind}
use Rattle.directory_rules.specs.State.{Node, World}
use Rattle.texts.specs.Words.{sentence}
use Rattle.script_rules.specs.Lines.{kind_word}
use Rattle.script_rules.specs.Show.{status_word, owner_words, place_words, is_served}
use Rattle.directory_rules.specs.Sight.{entries_within}

-- the line of the current version
abbrev pub line_of_version : (version : ℕ) → List ℕ
line_of_version version = sentence (codes "version" ∷ decimal version ∷ [])

-- a silo's figures: the version that it has seen, and how many activations it holds
abbrev pub figures_of : Node → ℕ × ℕ
figures_of node = (node.view.version, length node.host.held)

-- the figures in words; a Dead silo has none
abbrev pub words_of_figures : Option (ℕ × ℕ) → List (List ℕ)
words_of_figures None = []
words_of_figures (Some figures) = codes "seen" ∷ decimal figures.0 ∷ codes "held" ∷ decimal figures.1 ∷ []

-- a silo's own line
abbrev pub line_of_silo : Silo → Status → Option (ℕ × ℕ) → List ℕ
line_of_silo silo status figures = sentence (codes "silo" ∷ silo_text silo ∷ status_word status ∷ words_of_figures figures)

-- how many entries a range has at its owner, where it is settled there
abbrev pub settled_entries : World → Option Node → Range → Option ℕ
settled_entries world None range = None
settled_entries world (Some node) range =
    if is_served world.views.version node range then Some (entries_within world.settings.hashing node.holding.pieces range) else None

-- a range's state in words
abbrev pub words_of_state : Option ℕ → List (List ℕ)
words_of_state None = codes "unsettled" ∷ []
words_of_state (Some entries) = codes "settled" ∷ codes "entries" ∷ decimal entries ∷ []

-- a range's line
abbrev pub line_of_range : Range → Silo → (entries : Option ℕ) → List ℕ
line_of_range range owner entries = sentence (codes "range" ∷ range_text range ∷ silo_text owner ∷ words_of_state entries)

-- the line that tells the owner of a hash
abbrev pub line_of_owner : (hash : ℕ) → Option Point → List ℕ
line_of_owner hash owner = sentence (codes "owner" ∷ decimal hash ∷ owner_words owner)

-- the line of a letter in the mail
abbrev pub line_of_letter : (number : ℕ) → LetterKind → (from to : Silo) → (version : ℕ) → List ℕ
line_of_letter number kind from to version = sentence (decimal number ∷ kind_word kind ∷ silo_text from ∷ silo_text to ∷ decimal version ∷ [])

-- the line that tells on which silo an activation of the grain would begin
abbrev pub line_of_place : Grain → (chosen : Option Silo) → List ℕ
line_of_place grain chosen = sentence (codes "place" ∷ grain_text grain ∷ place_words chosen)

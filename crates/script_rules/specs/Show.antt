-- What is printed of a world: the whole directory, the mail, the owner of a hash, and the place for a grain.
use Rattle.std.specs.Prelude.{ℕ, ◌==◌, ◌&&◌, Bool, List, [], ◌∷◌, ◌++◌, map, filter, flat_map, length, codes, if◌then◌else◌, Option, Some, None}
use Rattle.std.specs.Fmt.{decimal}
use Rattle.silo_address.specs.Silo.{Silo}
use Rattle.silo_address.specs.SiloText.{silo_text}
use Rattle.silo_address.specs.Grain.{Grain, grain_text}
use Rattle.silo_address.specs.ActivationText.{activation_text}
use Rattle.membership_view.specs.declared.status.Status.{Status}
use Rattle.membership_view.specs.declared.status.Status.TheVariants.{Active, Leaving, Dead}
use Rattle.membership_view.specs.Views.{known_now}
use Rattle.ring_range.specs.Range.{Range}
use Rattle.ring_range.specs.Text.{range_text}
use Rattle.hash_ring.specs.declared.point.Point.{Point}
use Rattle.hash_ring.specs.Hash.{hash_grain}
use Rattle.hash_ring.specs.Owner.{owner_of}
use Rattle.hash_ring.specs.Ranges.{range_of, owns_its_place}
use Rattle.directory_rules.specs.declared.held.Held.{Held}
use Rattle.directory_rules.specs.declared.held.Phase.{Phase}
use Rattle.directory_rules.specs.declared.held.Phase.TheVariants.{Asking, Firm, Closing}
use Rattle.directory_rules.specs.declared.policy.Policy.{Policy}
use Rattle.directory_rules.specs.State.{Letter, Node, World}
use Rattle.directory_rules.specs.Letter.{kind_of}
use Rattle.directory_rules.specs.World.{current_ring}
use Rattle.directory_rules.specs.Sight.{was_settled, entries_within}
use Rattle.directory_rules.specs.Placement.{silo_for}
use Rattle.directory_rules.specs.Happens.{node_of, absent_number}
use Rattle.texts.specs.Words.{sentence}
use Rattle.script_rules.specs.Lines.{kind_word, refusal_line}

-- ---- `show`: first the current version.
abbrev pub version_line : World → List ℕ
version_line world = sentence (codes "version" ∷ decimal world.views.version ∷ [])

-- Then each silo that ever joined, and what it holds.
abbrev pub status_word : Status → List ℕ
status_word Active = codes "active"
status_word Leaving = codes "leaving"
status_word Dead = codes "dead"

-- the word for a phase
abbrev pub phase_word : Phase → List ℕ
phase_word (Asking number) = codes "asking"
phase_word Firm = codes "firm"
phase_word (Closing number) = codes "closing"

-- an activation's line
abbrev pub held_line : Silo → Grain → Held → List ℕ
held_line silo grain held = sentence
    (codes "held" ∷ activation_text (record { silo = silo; count = held.count }) ∷ grain_text grain ∷ phase_word held.phase ∷ [])

-- what a silo has seen and how much it holds
abbrev pub seen_words : Option Node → List (List ℕ)
seen_words None = []
seen_words (Some node) = codes "seen" ∷ decimal node.view.version ∷ codes "held" ∷ decimal (length node.host.held) ∷ []

-- the lines of a silo's activations
abbrev pub held_lines : Silo → Option Node → List (List ℕ)
held_lines silo None = []
held_lines silo (Some node) = map (λ e. held_line silo e.0 e.1) node.host.held

-- a silo's line, and those of its activations
abbrev pub silo_lines : Silo → Status → Option Node → List (List ℕ)
silo_lines silo status node = sentence (codes "silo" ∷ silo_text silo ∷ status_word status ∷ seen_words node) ∷ held_lines silo node

-- Then the ranges of the current ring. A range is settled where its owner has seen the current version and has every hash
-- of it in settled pieces; it then has the entries with their hashes in it.
-- whether the silo serves the range at the version
abbrev pub is_served : (version : ℕ) → Node → Range → Bool
is_served version node range = (node.view.version == version) && was_settled node.holding.pieces range

-- the range's state at its owner
abbrev pub state_words : World → Option Node → Range → List (List ℕ)
state_words world None range = codes "unsettled" ∷ []
state_words world (Some node) range =
    if is_served world.views.version node range
    then codes "settled" ∷ codes "entries" ∷ decimal (entries_within world.settings.hashing node.holding.pieces range) ∷ []
    else codes "unsettled" ∷ []

-- a range's line
abbrev pub range_line : World → Range → Silo → List ℕ
range_line world range silo = sentence (codes "range" ∷ range_text range ∷ silo_text silo ∷ state_words world (node_of world silo) range)

-- a line for each point that owns its place
abbrev pub range_lines : World → List Point → List (List ℕ)
range_lines world [] = codes "no owner" ∷ []
range_lines world (point ∷ points) =
    map (λ p. range_line world (range_of (point ∷ points) p) p.silo) (filter (owns_its_place (point ∷ points)) (point ∷ points))

-- the lines of `show`
unfoldable pub show_lines : World → List (List ℕ)
show_lines world =
    (version_line world ∷ flat_map (λ e. silo_lines e.0 e.1 (node_of world e.0)) (known_now world.views))
    ++ range_lines world (current_ring world)

-- ---- `mail`: each letter in the mail, by its number.
abbrev pub letter_line : ℕ → Letter → List ℕ
letter_line number letter = sentence
    (decimal number ∷ kind_word (kind_of letter.body) ∷ silo_text letter.from ∷ silo_text letter.to ∷ decimal letter.version ∷ [])

unfoldable pub mail_lines : World → List (List ℕ)
mail_lines world = map (λ e. letter_line e.0 e.1.letter) world.mail

-- ---- `owner`: the point that owns a hash in the current view.
abbrev pub owner_words : Option Point → List (List ℕ)
owner_words None = codes "none" ∷ []
owner_words (Some point) = silo_text point.silo ∷ decimal point.index ∷ []

unfoldable pub owner_line : World → (hash : ℕ) → List ℕ
owner_line world hash = sentence (codes "owner" ∷ decimal hash ∷ owner_words (owner_of (current_ring world) hash))

-- ---- `place`: where a silo would place a grain, by the view that it has seen. The question is refused like an event of that
-- silo: 901 where it never joined, 902 where it is Dead.
abbrev pub held_counts : World → List (Silo × ℕ)
held_counts world = map (λ e. (e.0, length e.1.host.held)) world.nodes

-- the silo chosen, if there is one
abbrev pub place_words : Option Silo → List (List ℕ)
place_words None = codes "none" ∷ []
place_words (Some silo) = silo_text silo ∷ []

-- the silo that the policy chooses, by what the asking silo has seen and what all hold now
abbrev pub chosen_place : World → Policy → Node → Grain → Option Silo
chosen_place world policy node grain = silo_for policy node.view node.host.silo (hash_grain world.settings.hashing grain) (held_counts world)

-- the line by the asking silo, if it has a node
abbrev pub place_line_by : World → Silo → Option Node → Policy → Grain → List ℕ
place_line_by world silo None policy grain = refusal_line (absent_number world silo)
place_line_by world silo (Some node) policy grain =
    sentence (codes "place" ∷ grain_text grain ∷ place_words (chosen_place world policy node grain))

unfoldable pub place_line : World → Silo → Policy → Grain → List ℕ
place_line world silo policy grain = place_line_by world silo (node_of world silo) policy grain

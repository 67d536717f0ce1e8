-- What `show`, `dump`, `status`, `owner` and `place` print of one silo.
use Rattle.std.specs.Prelude.{ℕ, List, [], ◌∷◌, ◌++◌, map, length, codes, Option, Some, None}
use Rattle.std.specs.Fmt.{decimal}
use Rattle.texts.specs.Words.{sentence}
use Rattle.silo_address.specs.SiloText.{silo_text}
use Rattle.silo_address.specs.Grain.{Grain, grain_text}
use Rattle.membership_view.specs.declared.status.Status.{Status}
use Rattle.ring_range.specs.Text.{range_text}
use Rattle.hash_ring.specs.Hash.{hash_grain}
use Rattle.hash_ring.specs.Owner.{owner_of}
use Rattle.directory_rules.specs.declared.policy.Policy.{Policy}
use Rattle.directory_rules.specs.Placement.{silo_for}
use Rattle.directory_rules.specs.declared.piece_state.PieceState.{PieceState}
use Rattle.directory_rules.specs.declared.piece_state.PieceState.TheVariants as state
use Rattle.directory_rules.specs.State.{Piece, Table}
use Rattle.silo_rules.specs.SiloValue.{SiloValue, own_status}
use Rattle.silo_rules.specs.declared.figures.Figures.{Figures}
use Rattle.silo_rules.specs.Figures.{figures}
use Rattle.script_rules.specs.Show.{status_word, seen_words, held_lines, owner_words, place_words}
use Rattle.dump_rules.specs.Dump.{dump_node, node_json}

-- what the silo is by the last change that it was told
abbrev pub own_word : Option Status → List ℕ
own_word None = codes "unknown"
own_word (Some status) = status_word status

-- the state of a piece; one that serves tells how many entries it has
abbrev pub state_words : PieceState → Table → List (List ℕ)
state_words state.Settled table = codes "settled" ∷ codes "entries" ∷ decimal (length table) ∷ []
state_words (state.Awaiting from) table = codes "awaiting" ∷ silo_text from ∷ []
state_words state.Recovering table = codes "recovering" ∷ []

-- a piece's line
abbrev pub piece_line : Piece → List ℕ
piece_line piece = sentence (codes "range" ∷ range_text piece.range ∷ state_words piece.state piece.entries)

-- the lines of `show`: the last version told, the silo, its activations in the order in which they began, and its pieces by start
unfoldable pub show_lines : SiloValue → List (List ℕ)
show_lines s =
    sentence (codes "version" ∷ decimal s.membership.views.version ∷ [])
    ∷ sentence (codes "silo" ∷ silo_text s.node.host.silo ∷ own_word (own_status s) ∷ seen_words (Some s.node))
    ∷ (held_lines s.node.host.silo (Some s.node) ++ map (λ e. piece_line e.1) s.node.holding.pieces)

-- the line of `dump`: the silo's object in a dump
unfoldable pub dump_line : SiloValue → List ℕ
dump_line s = node_json (dump_node s.node.host.silo s.node)

-- ---- In figures.

-- each figure, behind its name: what was seen stands first, and has none
abbrev pub figures_words : Figures → List (List ℕ)
figures_words it =
    decimal it.seen
    ∷ codes "known" ∷ decimal it.known
    ∷ codes "held" ∷ decimal it.held
    ∷ codes "asking" ∷ decimal it.asking
    ∷ codes "closing" ∷ decimal it.closing
    ∷ codes "finding" ∷ decimal it.finding
    ∷ codes "unsettled" ∷ decimal it.unsettled
    ∷ codes "kept" ∷ decimal it.kept
    ∷ []

-- the line of `status`
unfoldable pub figures_line : SiloValue → List ℕ
figures_line s = sentence (codes "status" ∷ figures_words (figures s))

-- ---- By the view that the silo has seen.

-- the line of `owner`: the point that owns the grain's hash
unfoldable pub grain_owner_line : SiloValue → Grain → List ℕ
grain_owner_line s grain = sentence (codes "owner" ∷ grain_text grain ∷ owner_words (owner_of s.node.ring.points (hash_grain s.node.settings.hashing grain)))

-- the line of `place`: where this silo would place the grain
unfoldable pub grain_place_line : SiloValue → Grain → Policy → List ℕ
grain_place_line s grain policy =
    sentence (codes "place" ∷ grain_text grain ∷ place_words (silo_for policy s.node.view s.node.host.silo (hash_grain s.node.settings.hashing grain) []))

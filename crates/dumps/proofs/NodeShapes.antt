-- The rules of numbers, nodes and pieces, from tests of their parts.
use Rattle.std.proofs.Common.{◌≡◌, ℕ, ◌<◌, ◌^◌, Bool, true, false, List, [], ◌∷◌, map, refl, sym, ◌∙◌, ap}
use Rattle.std.specs.Prelude.{◌&&◌}
use Rattle.std.specs.BTreeSet.{BTreeSet, contains}
use Rattle.std.specs.List.{list_all}
use Rattle.std.proofs.lemmas.Bool.{and_from, and_parts, and_right}
use Rattle.std.proofs.lemmas.Bool.Decides.{Decides-ltb}
use Rattle.std.proofs.lemmas.List.Folds.{list_all-append, list_all-map}
use Rattle.silo_address.specs.Silo.{Silo, silo_cmp, silo_eq}
use Rattle.silo_address.proofs.Same.{Decides-silo}
use Rattle.dump_rules.specs.Dump.{DumpHeld, DumpPiece, DumpNode, DumpRow, DumpValue}
use Rattle.dump_rules.specs.DumpShape.{is_version, is_hash, is_number_of_points, has_row_numbers, has_point_numbers, has_piece_numbers, has_node_numbers, has_numbers, row_silos, has_row, activation_silos, holds_its_own, holds_activations_once, holds_grains_once, has_seen_a_version, has_entries_if_settled, has_from_if_awaiting, has_pieces_in_order, has_entries_in_order, is_piece, is_node_of}
use Rattle.dump_rules.specs.Verdict.{node_entries}
use Rattle.dumps.specs.Sets.{HasItems}
use Rattle.dumps.proofs.InOrder.{list_all_alike, list_all-flat_map}
use Rattle.dumps.proofs.Tests.{two, three, seven}
use Rattle.dumps.proofs.Ties.{known_silos}

version_is : (n : ℕ) → n < 2 ^ 64 → is_version n ≡ true
version_is n fits = (Decides-ltb n (2 ^ 64)).1 fits

pub both : (a A b B : Bool) → a ≡ A → b ≡ B → (a && b) ≡ (A && B)
both a A b B first second = ap (λ t. t && b) first ∙ ap (λ t. A && t) second

pub numbers_told : (dump : DumpValue) (n r s : Bool) → dump.current < 2 ^ 64
    → n ≡ is_number_of_points dump.points → r ≡ list_all has_row_numbers dump.rows → s ≡ list_all has_node_numbers dump.nodes
    → (n && (r && (s && true))) ≡ has_numbers dump
numbers_told dump n r s fits a b c =
    three n r s ∙ (both _ _ _ _ (both _ _ _ _ a b) c
    ∙ sym (ap (λ t. ((t && is_number_of_points dump.points) && list_all has_row_numbers dump.rows) && list_all has_node_numbers dump.nodes)
    (version_is dump.current fits)))

pub row_told : (row : DumpRow) → row.dead < 2 ^ 64 → row.joined < 2 ^ 64 → row.left < 2 ^ 64
    → list_all is_hash row.places ≡ has_row_numbers row
row_told row dead joined left = sym
    (ap (λ t. ((t && is_version row.joined) && is_version row.left) && list_all is_hash row.places) (version_is row.dead dead)
    ∙ (ap (λ t. (t && is_version row.left) && list_all is_hash row.places) (version_is row.joined joined)
    ∙ ap (λ t. t && list_all is_hash row.places) (version_is row.left left)))

pub node_told : (node : DumpNode) (r p : Bool) → node.seen < 2 ^ 64
    → r ≡ list_all has_point_numbers node.ring → p ≡ list_all has_piece_numbers node.pieces → (r && (p && true)) ≡ has_node_numbers node
node_told node r p fits a b =
    two r p ∙ (both _ _ _ _ a b
    ∙ sym (ap (λ t. (t && list_all has_point_numbers node.ring) && list_all has_piece_numbers node.pieces) (version_is node.seen fits)))

-- the silos of a node's activations
activations_told : (known : Silo → Bool) (node : DumpNode) → list_all known (activation_silos node)
    ≡ (list_all (λ held. known held.activation.silo) node.held && list_all
    (λ piece. list_all (λ entry. known entry.activation.silo) piece.entries) node.pieces)
activations_told known node =
    list_all-append known (map (λ held. held.activation.silo) node.held) (map (λ entry. entry.activation.silo) (node_entries node))
    ∙ both _ _ _ _ (list_all-map known (λ held. held.activation.silo) node.held)
    (list_all-map known (λ entry. entry.activation.silo) (node_entries node)
    ∙ list_all-flat_map (λ entry. known entry.activation.silo) (λ piece. piece.entries) node.pieces)

-- what is a known silo's own has a known silo
own_known : (known : Silo → Bool) (silo : Silo) (held : List DumpHeld) → known silo ≡ true
    → list_all (λ one. silo_eq one.activation.silo silo) held ≡ true
    → list_all (λ one. known one.activation.silo) held ≡ true
own_known known silo [] is own = refl
own_known known silo (one ∷ held) is own =
    let parts = and_parts (silo_eq one.activation.silo silo) (list_all (λ other. silo_eq other.activation.silo silo) held) own in
    and_from _ _ (ap known ((Decides-silo one.activation.silo silo).0 parts.0) ∙ is) (own_known known silo held is parts.1)

beside : (n h e w : Bool) → (n ≡ true → w ≡ true → h ≡ true) → ((n && e) && w) ≡ ((n && (h && e)) && w)
beside true h e true so = rw (so refl refl) refl
beside true h e false so = and_right e false refl ∙ sym (and_right (h && e) false refl)
beside false h e w so = refl

known_and_own : (known : Silo → Bool) (node : DumpNode) (k o : Bool)
    → k ≡ (known node.silo && list_all (λ piece. list_all (λ entry. known entry.activation.silo) piece.entries) node.pieces)
    → o ≡ holds_its_own node → (k && o) ≡ ((known node.silo && list_all known (activation_silos node)) && holds_its_own node)
known_and_own known node k o names own =
    both _ _ _ _ names own
    ∙ beside (known node.silo) (list_all (λ held. known held.activation.silo) node.held)
    (list_all (λ piece. list_all (λ entry. known entry.activation.silo) piece.entries) node.pieces) (holds_its_own node)
    (own_known known node.silo node.held)
    ∙ ap (λ t. (known node.silo && t) && holds_its_own node) (sym (activations_told known node))

pub node_is : (dump : DumpValue) (set : BTreeSet Silo) (node : DumpNode) → HasItems silo_cmp set (row_silos dump) → (k o a g s i p : Bool)
    → k ≡ (contains silo_cmp set node.silo && list_all
    (λ piece. list_all (λ entry. contains silo_cmp set entry.activation.silo) piece.entries) node.pieces)
    → o ≡ holds_its_own node → a ≡ holds_activations_once node → g ≡ holds_grains_once node → s ≡ has_seen_a_version dump node
    → i ≡ has_pieces_in_order node → p ≡ list_all is_piece node.pieces
    → (k && (o && (a && (g && (s && (i && (p && true))))))) ≡ is_node_of dump node
node_is dump set node has k o a g s i p known own activations grains seen order pieces =
    seven k o a g s i p
    ∙ both _ _ _ _ (both _ _ _ _ (both _ _ _ _ (both _ _ _ _ (both _ _ _ _
    (known_and_own (contains silo_cmp set) node k o known own
    ∙ ap (λ t. t && holds_its_own node) (both _ _ _ _ (known_silos dump set has node.silo)
    (list_all_alike (contains silo_cmp set) (has_row dump) (known_silos dump set has) (activation_silos node))))
    activations) grains) seen) order) pieces

pub piece_is : (piece : DumpPiece) (s f o : Bool) → s ≡ has_entries_if_settled piece → f ≡ has_from_if_awaiting piece
    → o ≡ has_entries_in_order piece
    → (s && (f && (o && true))) ≡ is_piece piece
piece_is piece s f o a b c = three s f o ∙ both _ _ _ _ (both _ _ _ _ a b) c

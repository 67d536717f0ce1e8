-- What the shape of a dump says of its nodes: places are hashes, and ranges are ranges.
use Rattle.std.proofs.Common.{◌≡◌, ap, ltb, leb, List, [], ◌∷◌}
use Rattle.std.specs.Prelude.{Bool, true, false, ◌&&◌, ◌↔◌, cond, codes, not, None, All}
use Rattle.std.specs.List.{list_all}
use Rattle.std.specs.Fmt.{digits}
use Rattle.std.proofs.lemmas.Bool.{ltb-true, leb-true}
use Rattle.std.proofs.lemmas.List.Elements.{All-nil, All-cons, All-filter}
use Rattle.texts.proofs.Decided.{both}
use Rattle.ring_range.specs.Range.{circle, IsRange}
use Rattle.hash_ring.specs.declared.point.Point.{Point}
use Rattle.hash_ring.specs.Point.{IsOnCircle}
use Rattle.directory_rules.specs.Members.{is_dead_in}
use Rattle.dump_rules.specs.Dump.{DumpPiece, DumpNode, DumpValue}
use Rattle.dump_rules.specs.DumpShape.{has_point_numbers, has_piece_numbers, has_node_numbers, has_row_numbers, has_numbers, has_shape, is_version, is_hash, is_index, is_number_of_points, is_dump}
use Rattle.dump_rules.specs.Judgement.{judgement_of, judged, no_dump}
use Rattle.dump_rules.specs.Verdict.{HasHashes, dump_view, live_nodes, verdict}
use Rattle.dump_rules.specs.RightDump.{IsVerdict, IsRightDump}
use Rattle.dump_rules.proofs.RightDumps.{verdict_is, none_is_right}

-- what a test that all items pass tells of each
all_told : {X : Type 0} (p : X → Bool) (P : X → Type 0) → ((x : X) → p x ≡ true → P x) → (xs : List X) → list_all p xs ≡ true → All P xs
all_told p P tells [] passed = All-nil P
all_told p P tells (x ∷ xs) passed =
    let parts = both (p x) (list_all p xs) passed in
    All-cons P x xs (tells x parts.0) (all_told p P tells xs parts.1)

on_circle : (point : Point) → has_point_numbers point ≡ true → IsOnCircle point
on_circle point numbers = ltb-true _ _ (both (is_hash point.place) (is_index point.index) numbers).0

is_a_range : (piece : DumpPiece) → has_piece_numbers piece ≡ true → IsRange piece.range
is_a_range piece numbers =
    let parts = both (ltb piece.range.start circle) (leb piece.range.size circle) numbers in
    record { start_below = ltb-true _ _ parts.0; size_within = leb-true _ _ parts.1 }

has_hashes : (node : DumpNode) → has_node_numbers node ≡ true → HasHashes node
has_hashes node numbers =
    let front = both (is_version node.seen && list_all has_point_numbers node.ring) (list_all has_piece_numbers node.pieces) numbers in
    let points = (both (is_version node.seen) (list_all has_point_numbers node.ring) front.0).1 in
    record {
      places = all_told has_point_numbers IsOnCircle on_circle node.ring points;
      ranges = all_told has_piece_numbers (λ piece. IsRange piece.range) is_a_range node.pieces front.1;
    }

-- so it is of all nodes, and of those over which there is a verdict
dump_hashes : (dump : DumpValue) → is_dump dump ≡ true → All HasHashes dump.nodes
unfolding is_dump
dump_hashes dump is =
    let numbers = (both (has_numbers dump) (has_shape dump) is).0 in
    let nodes = (both (is_version dump.current && is_number_of_points dump.points && list_all has_row_numbers dump.rows) (list_all has_node_numbers dump.nodes) numbers).1 in
    all_told has_node_numbers HasHashes has_hashes dump.nodes nodes

standing_hashes : (dump : DumpValue) → is_dump dump ≡ true → All HasHashes (live_nodes dump)
standing_hashes dump is =
    All-filter (λ node. not (is_dead_in (dump_view dump dump.current) node.silo)) HasHashes dump.nodes (dump_hashes dump is)

-- the verdict over a dump says all that it has to
pub dump_verdict : (dump : DumpValue) → is_dump dump ≡ true → IsVerdict dump (verdict dump)
dump_verdict dump is = verdict_is dump (standing_hashes dump is)

pub dump_right : (dump : DumpValue) → is_dump dump ≡ true → (verdict dump ≡ None) ↔ IsRightDump dump
dump_right dump is = none_is_right dump (standing_hashes dump is)

-- what is judged of lists, by whether they are a dump
pub judged_dump : (dump : DumpValue) → is_dump dump ≡ true → judged dump ≡ judgement_of dump
judged_dump dump is = ap (λ b. cond b (judgement_of dump) no_dump) is

pub judged_no_dump : (dump : DumpValue) → is_dump dump ≡ false → judged dump ≡ record { text = codes "check 972\n"; status = 1 }
unfolding digits
judged_no_dump dump is = ap (λ b. cond b (judgement_of dump) no_dump) is

use Rattle.std.proofs.Common.{arith, ◌≡◌, ◌<◌, ◌-◌, ◌+◌, sym, ap, ◌∙◌, subst, [], length}
use Rattle.std.specs.Prelude.{filter, fold, Some, None, IsSome, option_copied}
use Rattle.ring_range.specs.Range.{Range, holds}
use Rattle.hash_ring.specs.Hash.{hash_grain}
use Rattle.directory_rules.specs.Answer.{piece_with}
use Rattle.directory_rules.specs.State.{Piece, Table}
use Rattle.directory_rules.specs.Sight.{was_settled}
use Rattle.directory_rules.specs.Table.{entries_of, with_entry}
use Rattle.grain_partition.specs.Holdings.{tidied}
use Rattle.grain_partition.proofs.Counted.{AreCounted, counted_fits, counted_none}
use Rattle.grain_partition.proofs.EntriesByWalk.{has_piece, less_behind, settles_at}
use Rattle.grain_partition.proofs.Tidied.{all_of_tidied, more_of_tidied}
use Rattle.grain_partition.proofs.SettledHashes.{with_has}
use Rattle.grain_partition.proofs.Walks.{part_behind, settled-behind}
use Rattle.grain_partition.proofs.count.count_within.Goals as goal

pub walk-init : goal.walk-init
walk-init c =
    record {
      settled = c.requires.settled;
      counted = counted_none c.args.hashing (tidied c.args.hashing c.args.pieces.now.entries)
          c.args.range.now;
    }

pub unwrap-piece-requires : goal.unwrap-piece-requires
unwrap-piece-requires c =
    let there : IsSome (option_copied c.piece_with.result) =
    has_piece c.args.hashing c.args.pieces.now.entries c.requires.pieces c.args.range.now c.walk.rest c.in_range-in-walk.ensures
    (omega (arith, c.walk-test.true, c.size.ensures.value)) c.walk.invariant.settled
    (option_copied c.piece_with.result) (c.piece_with.ensures ∙ ap (λ k. piece_with k c.args.pieces.now.entries) c.start.ensures) in
    elim (c.piece_with.result) as (λ o. IsSome (option_copied o) → IsSome o) [ None ↦ λ h. h | Some x ↦ λ h. h ] there

pub part_behind-behind-requires : goal.part_behind-behind-requires
part_behind-behind-requires c =
    let piece : Piece = c.unwrap-piece.result.now in
    let with : piece_with c.walk.rest.start c.args.pieces.now.entries ≡ Some piece =
    ap (λ k. piece_with k c.args.pieces.now.entries) (sym c.start.ensures) ∙ sym c.piece_with.ensures
    ∙ ap option_copied c.unwrap-piece.ensures in
    ap (λ r. holds r c.walk.rest.start) c.range.ensures ∙ with_has c.walk.rest.start c.args.pieces.now.entries c.requires.pieces piece with

pub returns-in_default-clause-fails : goal.returns-in_default-clause-fails
returns-in_default-clause-fails c =
    let piece : Piece = c.unwrap-piece.result.now in
    let with : piece_with c.walk.rest.start c.args.pieces.now.entries ≡ Some piece =
    ap (λ k. piece_with k c.args.pieces.now.entries) (sym c.start.ensures) ∙ sym c.piece_with.ensures
    ∙ ap option_copied c.unwrap-piece.ensures in
    let again : fold with_entry [] (entries_of piece.entries) ≡ piece.entries = subst (λ (entries : Table). fold with_entry [] (entries_of entries) ≡ entries) c.entries-table.ensures c.made_again.ensures in
    let behind : c.part_behind-behind.result ≡ part_behind c.walk.rest piece.range = c.part_behind-behind.ensures ∙ ap (part_behind c.walk.rest) c.range.ensures in
    let front_is : c.front_of-front.result ≡ record { start = c.walk.rest.start; size = c.walk.rest.size - (part_behind c.walk.rest piece.range).size } =
    c.front_of-front.ensures ∙ ap (λ (r : Range). record { start = c.walk.rest.start; size = c.walk.rest.size - r.size }) behind in
    let fits = counted_fits c.args.hashing (tidied c.args.hashing c.args.pieces.now.entries) c.args.range.now (part_behind c.walk.rest piece.range) (c.walk.count + c.count_within.result)
    (more_of_tidied c.args.hashing c.args.pieces.now.entries c.requires.pieces c.args.range.now c.walk.rest c.in_range-in-walk.ensures
    (omega (arith, c.walk-test.true, c.size.ensures.value)) c.walk.invariant.settled
    piece with again c.walk.count c.count_within.result
    (c.count_within.ensures ∙ (λ i. length (filter (λ e. holds (front_is i) (hash_grain c.args.hashing e.grain))
    (entries_of (c.entries-table.ensures i)))))
    c.walk.invariant.counted) in
    omega (arith, fits, c.in_default.ensures)

pub walk-smaller : goal.walk-smaller
walk-smaller c =
    let piece : Piece = c.unwrap-piece.result.now in
    let with : piece_with c.walk.rest.start c.args.pieces.now.entries ≡ Some piece =
    ap (λ k. piece_with k c.args.pieces.now.entries) (sym c.start.ensures) ∙ sym c.piece_with.ensures
    ∙ ap option_copied c.unwrap-piece.ensures in
    let less = less_behind c.args.hashing c.args.pieces.now.entries c.requires.pieces c.args.range.now c.walk.rest c.in_range-in-walk.ensures (omega (arith, c.walk-test.true, c.size.ensures.value)) c.walk.invariant.settled
    piece with in
    let size : c.part_behind-behind.result.size ≡ (part_behind c.walk.rest piece.range).size = ap (λ (r : Range). r.size) (c.part_behind-behind.ensures ∙ ap (part_behind c.walk.rest) c.range.ensures) in
    subst (λ n. n < c.walk.rest.size) (sym size) less

pub walk-preserved : goal.walk-preserved
walk-preserved c =
    let piece : Piece = c.unwrap-piece.result.now in
    let with : piece_with c.walk.rest.start c.args.pieces.now.entries ≡ Some piece =
    ap (λ k. piece_with k c.args.pieces.now.entries) (sym c.start.ensures) ∙ sym c.piece_with.ensures
    ∙ ap option_copied c.unwrap-piece.ensures in
    let again : fold with_entry [] (entries_of piece.entries) ≡ piece.entries = subst (λ (entries : Table). fold with_entry [] (entries_of entries) ≡ entries) c.entries-table.ensures c.made_again.ensures in
    let behind : c.part_behind-behind.result ≡ part_behind c.walk.rest piece.range = c.part_behind-behind.ensures ∙ ap (part_behind c.walk.rest) c.range.ensures in
    let front_is : c.front_of-front.result ≡ record { start = c.walk.rest.start; size = c.walk.rest.size - (part_behind c.walk.rest piece.range).size } =
    c.front_of-front.ensures ∙ ap (λ (r : Range). record { start = c.walk.rest.start; size = c.walk.rest.size - r.size }) behind in
    record {
      settled =
          ap (was_settled c.args.pieces.now.entries) behind
          ∙ sym (settled-behind c.args.pieces.now.entries c.requires.pieces c.walk.rest c.in_range-in-walk.ensures piece.range
          (settles_at c.args.hashing c.args.pieces.now.entries c.requires.pieces c.args.range.now c.walk.rest c.in_range-in-walk.ensures
          (omega (arith, c.walk-test.true, c.size.ensures.value)) c.walk.invariant.settled piece with))
          ∙ c.walk.invariant.settled;
      counted =
          subst (λ n. AreCounted c.args.hashing (tidied c.args.hashing c.args.pieces.now.entries) c.args.range.now
          c.part_behind-behind.result n) (sym c.in-Some.ensures.1)
          (subst (λ r. AreCounted c.args.hashing (tidied c.args.hashing c.args.pieces.now.entries) c.args.range.now r
          (c.walk.count + c.count_within.result)) (sym behind)
          (more_of_tidied c.args.hashing c.args.pieces.now.entries c.requires.pieces c.args.range.now c.walk.rest c.in_range-in-walk.ensures
          (omega (arith, c.walk-test.true, c.size.ensures.value)) c.walk.invariant.settled
          piece with again c.walk.count c.count_within.result
          (c.count_within.ensures ∙ (λ i. length (filter (λ e. holds (front_is i) (hash_grain c.args.hashing e.grain))
          (entries_of (c.entries-table.ensures i)))))
          c.walk.invariant.counted));
    }

pub returns-clause-counted : goal.returns-clause-counted
returns-clause-counted c =
    all_of_tidied c.args.hashing c.args.pieces.now.entries c.requires.pieces c.args.range.now c.in_range.ensures c.requires.settled
    c.walk.rest c.walk.count
    (omega (arith, c.walk-test.false, c.size.ensures.value)) c.walk.invariant.counted

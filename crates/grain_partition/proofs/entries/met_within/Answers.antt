use Rattle.std.proofs.Common.{arith, ◌≡◌, ◌<◌, sym, ap, ◌∙◌, subst, []}
use Rattle.std.specs.Prelude.{filter, fold, Some, None, IsSome, option_copied}
use Rattle.ring_range.specs.Range.{Range, holds}
use Rattle.hash_ring.specs.Hash.{hash_grain}
use Rattle.directory_rules.specs.Answer.{piece_with}
use Rattle.directory_rules.specs.State.{Piece}
use Rattle.directory_rules.specs.Sight.{was_settled}
use Rattle.directory_rules.specs.Table.{entries_of, with_entry}
use Rattle.grain_table.specs.Table.{TableValue}
use Rattle.grain_partition.proofs.EntriesByWalk.{IsGathered, gathered_all, gathered_more, gathered_none, has_piece, less_behind, settles_at}
use Rattle.grain_partition.proofs.SettledHashes.{with_has}
use Rattle.grain_partition.proofs.Walks.{part_behind, settled-behind}
use Rattle.grain_partition.proofs.entries.met_within.Goals as goal

pub walk-init : goal.walk-init
walk-init c = record {
  hashing_is = ap (λ (v : TableValue). v.hashing) c.new-within.ensures;
  settled = c.requires.settled;
  gathered =
      subst (λ (v : TableValue). IsGathered c.args.hashing c.args.pieces.now.entries c.args.range.now c.args.range.now v.entries)
      (sym c.new-within.ensures)
      (gathered_none c.args.hashing c.args.pieces.now.entries c.requires.pieces c.args.range.now);
}

pub unwrap-piece-requires : goal.unwrap-piece-requires
unwrap-piece-requires c =
    let there : IsSome (option_copied c.piece_with.result) =
    has_piece c.args.hashing c.args.pieces.now.entries c.requires.pieces c.args.range.now c.walk.rest c.in_range.ensures
    (omega (arith, c.walk-test.true, c.size.ensures.value)) c.walk.invariant.settled
    (option_copied c.piece_with.result) (c.piece_with.ensures ∙ ap (λ k. piece_with k c.args.pieces.now.entries) c.start.ensures) in
    elim (c.piece_with.result) as (λ o. IsSome (option_copied o) → IsSome o) [ None ↦ λ h. h | Some x ↦ λ h. h ] there

pub part_behind-rest-requires : goal.part_behind-rest-requires
part_behind-rest-requires c =
    let piece : Piece = c.unwrap-piece.result.now in
    let with : piece_with c.walk.rest.start c.args.pieces.now.entries ≡ Some piece =
    ap (λ k. piece_with k c.args.pieces.now.entries) (sym c.start.ensures) ∙ sym c.piece_with.ensures
    ∙ ap option_copied c.unwrap-piece.ensures in
    ap (λ r. holds r c.walk.rest.start) c.range.ensures ∙ with_has c.walk.rest.start c.args.pieces.now.entries c.requires.pieces piece with

pub walk-smaller : goal.walk-smaller
walk-smaller c =
    let piece : Piece = c.unwrap-piece.result.now in
    let with : piece_with c.walk.rest.start c.args.pieces.now.entries ≡ Some piece =
    ap (λ k. piece_with k c.args.pieces.now.entries) (sym c.start.ensures) ∙ sym c.piece_with.ensures
    ∙ ap option_copied c.unwrap-piece.ensures in
    let less = less_behind c.args.hashing c.args.pieces.now.entries c.requires.pieces c.args.range.now c.walk.rest c.in_range.ensures (omega (arith, c.walk-test.true, c.size.ensures.value)) c.walk.invariant.settled
    piece with in
    let size : c.part_behind-rest.result.size ≡ (part_behind c.walk.rest piece.range).size = ap (λ (r : Range). r.size) (c.part_behind-rest.ensures ∙ ap (part_behind c.walk.rest) c.range.ensures) in
    subst (λ n. n < c.walk.rest.size) (sym size) less

pub walk-preserved : goal.walk-preserved
walk-preserved c =
    let piece : Piece = c.unwrap-piece.result.now in
    let with : piece_with c.walk.rest.start c.args.pieces.now.entries ≡ Some piece =
    ap (λ k. piece_with k c.args.pieces.now.entries) (sym c.start.ensures) ∙ sym c.piece_with.ensures
    ∙ ap option_copied c.unwrap-piece.ensures in
    let again : fold with_entry [] (entries_of piece.entries) ≡ piece.entries = subst (λ entries. fold with_entry [] (entries_of entries) ≡ entries) c.entries-entries.ensures c.made_again.ensures in
    let put : c.in_ok-within.within.entries
    ≡ fold with_entry c.walk.within.entries (filter (λ e. holds c.args.range.now (hash_grain c.args.hashing e.grain))
    (entries_of piece.entries)) =
    ap (λ (v : TableValue). v.entries) c.in_ok-within.ensures
    ∙ (λ i. fold with_entry c.walk.within.entries (filter (λ e. holds c.args.range.now (hash_grain (c.walk.invariant.hashing_is i) e.grain))
    (entries_of (c.entries-entries.ensures i)))) in
    let rest : c.part_behind-rest.result ≡ part_behind c.walk.rest piece.range = c.part_behind-rest.ensures ∙ ap (part_behind c.walk.rest) c.range.ensures in
    record {
      hashing_is = ap (λ (v : TableValue). v.hashing) c.in_ok-within.ensures ∙ c.walk.invariant.hashing_is;
      settled =
          ap (was_settled c.args.pieces.now.entries) rest
          ∙ sym (settled-behind c.args.pieces.now.entries c.requires.pieces c.walk.rest c.in_range.ensures piece.range
          (settles_at c.args.hashing c.args.pieces.now.entries c.requires.pieces c.args.range.now c.walk.rest c.in_range.ensures
          (omega (arith, c.walk-test.true, c.size.ensures.value)) c.walk.invariant.settled piece with))
          ∙ c.walk.invariant.settled;
      gathered =
          subst (λ r. IsGathered c.args.hashing c.args.pieces.now.entries c.args.range.now r c.in_ok-within.within.entries) (sym rest)
          (gathered_more c.args.hashing c.args.pieces.now.entries c.requires.pieces c.args.range.now c.walk.rest c.in_range.ensures
          (omega (arith, c.walk-test.true, c.size.ensures.value)) c.walk.invariant.settled
          piece with c.requires.tidy again c.walk.within.entries c.in_ok-within.within.entries put c.walk.invariant.gathered);
    }

pub returns : goal.returns
returns c =
    gathered_all c.args.hashing c.args.pieces.now.entries c.requires.pieces c.args.range.now c.walk.rest c.walk.within.entries
    (omega (arith, c.walk-test.false, c.size.ensures.value))
    c.walk.invariant.gathered

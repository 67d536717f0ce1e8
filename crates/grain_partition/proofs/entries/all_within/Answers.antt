use Rattle.std.proofs.Common.{◌≡◌, sym, ap, ◌∙◌, []}
use Rattle.std.specs.Prelude.{filter, flat_map, fold}
use Rattle.silo_address.specs.Grain.{grain_cmp}
use Rattle.texts.proofs.Entries.{sorted-nil}
use Rattle.ring_range.specs.Range.{holds}
use Rattle.hash_ring.specs.Hash.{hash_grain}
use Rattle.directory_rules.specs.State.{Piece}
use Rattle.directory_rules.specs.Table.{entries_of, with_entry}
use Rattle.grain_table.specs.Table.{TableValue}
use Rattle.grain_partition.proofs.Within.{one_piece_more, with_within, within-fold}
use Rattle.grain_partition.proofs.entries.all_within.Goals as goal

pub pieces-preserved : goal.pieces-preserved
pieces-preserved c =
    let piece : Piece = c.in-Some.piece.now in
    let entries : c.in_ok-all.all.entries
    ≡ fold with_entry c.pieces.all.entries (filter (λ e. holds c.args.range.now (hash_grain c.args.hashing e.grain))
    (entries_of piece.entries)) =
    ap (λ (v : TableValue). v.entries) c.in_ok-all.ensures
    ∙ (λ i. fold with_entry c.pieces.all.entries (filter
    (λ e. holds c.args.range.now (hash_grain (c.pieces.invariant.hashing_is i) e.grain)) (entries_of (c.entries.ensures i)))) in
    record {
      hashing_is = ap (λ (v : TableValue). v.hashing) c.in_ok-all.ensures ∙ c.pieces.invariant.hashing_is;
      whole =
          one_piece_more c.args.hashing c.args.range.now c.in-Some.field-0-0.now piece c.next.new.self c.pieces.all.entries
          c.in_ok-all.all.entries entries
          ∙ ap (λ rest. fold (with_within c.args.hashing c.args.range.now) c.pieces.all.entries
          (flat_map (λ e. entries_of e.1.entries) rest)) (sym c.in-Some.ensures.steps)
          ∙ c.pieces.invariant.whole;
    }

pub returns : goal.returns
returns c =
    ap (λ rest. fold (with_within c.args.hashing c.args.range.now) c.pieces.all.entries (flat_map (λ e. entries_of e.1.entries) rest))
    (sym c.in-None.ensures.steps.0)
    ∙ c.pieces.invariant.whole
    ∙ sym (within-fold c.args.hashing c.args.range.now (flat_map (λ e. entries_of e.1.entries) c.args.pieces.now.entries) []
    (sorted-nil grain_cmp))

use Rattle.std.proofs.Common.{◌≡◌, ◌+◌, Some}
use Rattle.std.specs.List.{All}
use Rattle.std.specs.Vec.{vec_len, vec_capacity}
use Rattle.left_right.specs.Sides.{view}
use Rattle.published_rings.specs.Shown.{ShownValue, publication_of}
use Rattle.published_rings.specs.declared.rule.Known.{Known}
use Rattle.published_rings.proofs.publisher.make_readers.Given as goal

abbrev pub invariant-loop-made : goal.invariant-loop-made
invariant-loop-made l =
    (vec_len l.readers ≡ vec_len l.initial.readers + l._made) × (vec_capacity l.readers ≡ vec_capacity l.initial.readers) ×
    (l.writer.desk.shown.value ≡ l.initial.writer.desk.shown.value)
    × (view l.writer.desk.place ≡ view l.initial.writer.desk.place) × All
    (λ reader. (view {T = ShownValue} {V = Known} reader.place).of ≡ Some (publication_of l.initial.writer.desk.shown.value))
    l.readers.items

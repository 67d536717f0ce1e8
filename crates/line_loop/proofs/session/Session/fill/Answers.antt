use Rattle.std.proofs.Common.{◌≡◌, ◌∙◌, ◌+◌, ◌-◌, ◌≤◌, ◌++◌, List, ℕ, ap, arith, drop, length, rules, subst, sym, take}
use Rattle.std.proofs.lemmas.List.{length-take-le, with_items_is}
use borrow.Rule.Slice.PartMut.{post_of}
use Rattle.line_loop.specs.Pieces.{IsOnePiece}
use Rattle.line_loop.specs.Progress.{Progress, progress}
use Rattle.line_loop.proofs.Held.{filled, held_still, read_there}
use Rattle.line_loop.proofs.session.Session.fill.Goals as goal

pub invariant_of-self-clause-one_piece : goal.invariant_of-self-clause-one_piece
invariant_of-self-clause-one_piece g c =
    let self = c.make_room.new.self in
    let bytes = c.deref_mut.result.now in
    let rest = c.read_chunk.new.chunk ++ post_of self.end (self.end + 65536 - self.end) bytes in
    let fits : self.end ≤ length bytes = omega (arith, self.within, self.bytes.ok.0, ap length c.deref_mut.ensures.value) in
    subst IsOnePiece
    (sym (ap (λ (xs : List ℕ). take (self.searched - self.start) (drop self.start xs))
    (with_items_is self.bytes (take self.end bytes ++ rest) (search rules))
    ∙ (held_still bytes rest self.start self.searched self.end self.begun self.searched_within fits
    ∙ ap (λ (xs : List ℕ). take (self.searched - self.start) (drop self.start xs)) c.deref_mut.ensures.value)))
    self.one_piece

pub returns-in-Ok-read_chunk-clause-fills : goal.returns-in-Ok-read_chunk-clause-fills
returns-in-Ok-read_chunk-clause-fills g c =
    let self = c.make_room.new.self in
    let bytes = c.deref_mut.result.now in
    let chunk = c.read_chunk.new.chunk in
    let count = c.in-Ok-read_chunk.count in
    let rest = chunk ++ post_of self.end (self.end + 65536 - self.end) bytes in
    let fits : self.end ≤ length bytes = omega (arith, self.within, self.bytes.ok.0, ap length c.deref_mut.ensures.value) in
    let begun : self.start ≤ self.end = omega (arith, self.begun, self.searched_within) in
    let room : length chunk ≡ 65536 = search rules in
    let items = with_items_is self.bytes (take self.end bytes ++ rest) (search rules) in
    let held = ap (λ (xs : List ℕ). take (self.end - self.start) (drop self.start xs)) items
    ∙ (held_still bytes rest self.start self.end self.end begun (omega arith) fits
    ∙ ap (λ (xs : List ℕ). take (self.end - self.start) (drop self.start xs)) c.deref_mut.ensures.value) in
    filled g.R.Source.reads c.args.reader.now c.read_chunk.new.self (progress c.args.self.now) _ (progress c.take_in.new.self)
    (take count chunk) _ c.take_in.result c.take_in.ensures.takes
    (ap (λ (h : List ℕ). let p : Progress = record (progress self) { held = h } in p) held ∙ c.in-Ok.ensures.same)
    (ap (λ (xs : List ℕ). take count (drop self.end xs)) items
    ∙ read_there bytes chunk (post_of self.end (self.end + 65536 - self.end) bytes) self.end count fits c.in-Ok-read_chunk.ensures.bound.0)
    c.in-Ok-read_chunk.ensures.once
    (omega (arith, room, length-take-le count chunk c.in-Ok-read_chunk.ensures.bound.0, c.in-Ok-read_chunk.ensures.bound.0))

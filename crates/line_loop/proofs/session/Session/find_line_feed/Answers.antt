use Rattle.std.proofs.Common.{◌≡◌, ◌+◌, ◌-◌, List, None, Some, arith, drop, length, subst, sym, take, ℕ}
use Rattle.std.proofs.lemmas.List.{length-drop, length-take-le}
use Rattle.line_loop.specs.Pieces.{IsEndedAfter, IsOnePiece}
use Rattle.line_loop.proofs.Pieces.{found_behind, found_there, held_parts, one_behind}
use Rattle.line_loop.proofs.session.Session.find_line_feed.Goals as goal

pub invariant_of-self-in-None-clause-one_piece : goal.invariant_of-self-in-None-clause-one_piece
invariant_of-self-in-None-clause-one_piece c =
    let self = c.args.self.now in
    let bytes = self.bytes.items in
    subst IsOnePiece (sym (held_parts bytes self.start self.searched self.end self.begun self.searched_within))
    (one_behind (take (self.searched - self.start) (drop self.start bytes)) (take (self.end - self.searched) (drop self.searched bytes))
    self.one_piece
    (subst (λ (bs : List ℕ). IsOnePiece bs) c.part.ensures (found_there c.part.result.now None c.in-None.ensures)))

pub returns-in-Some-clause-found : goal.returns-in-Some-clause-found
returns-in-Some-clause-found c =
    let self = c.args.self.now in
    let bytes = self.bytes.items in
    let front = take (self.searched - self.start) (drop self.start bytes) in
    let rest = take (self.end - self.searched) (drop self.searched bytes) in
    let count = c.in-Some.count in
    let size : length front ≡ self.searched - self.start =
    length-take-le (self.searched - self.start) (drop self.start bytes)
    (omega (arith, self.searched_within, self.within, self.bytes.ok.0, length-drop self.start bytes)) in
    let place : (self.searched - self.start) + count ≡ length front + count = omega (arith, size) in
    subst (λ (bs : List ℕ). IsEndedAfter bs (Some ((self.searched - self.start) + count)))
    (sym (held_parts bytes self.start self.searched self.end self.begun self.searched_within))
    (found_behind front rest count ((self.searched - self.start) + count) self.one_piece place
    (subst (λ (bs : List ℕ). IsEndedAfter bs (Some count)) c.part.ensures (found_there c.part.result.now (Some count) c.in-Some.ensures)))

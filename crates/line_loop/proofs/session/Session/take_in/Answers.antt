use Rattle.std.proofs.Common.{◌≡◌, ◌∙◌, ◌+◌, ◌-◌, ◌≤◌, ◌++◌, List, ℕ, ap, arith, drop, length, sym, take, true≢false}
use Rattle.std.proofs.lemmas.List.{length-drop, length-take-le}
use Rattle.line_loop.specs.Progress.{Progress, progress}
use Rattle.line_loop.proofs.Pieces.{held_parts}
use Rattle.line_loop.proofs.session.Session.take_in.Goals as goal

pub returns-clause-takes : goal.returns-clause-takes
returns-clause-takes g c =
    let self = c.args.self.now in
    let count = c.args.count in
    let got = take count (drop self.end self.bytes.items) in
    let size : length got ≡ count = length-take-le count (drop self.end self.bytes.items) (omega (arith, c.requires.within, self.bytes.ok.0, length-drop self.end self.bytes.items)) in
    let within : self.start ≤ self.end = omega (arith, self.begun, self.searched_within) in
    let part : (self.end + count) - self.end ≡ count = omega arith in
    record {
      counted = omega (arith, size);
      same = ap (λ (h : List ℕ). let p : Progress = record (progress self) { held = h; left = self.left - count } in p)
          (held_parts self.bytes.items self.start self.end (self.end + count) within (omega arith)
          ∙ ap (λ (n : ℕ). (progress self).held ++ take n (drop self.end self.bytes.items)) part);
      at_end = λ over. absurd (true≢false (sym over ∙ c.requires.goes_on));
      goes_on = λ still. omega (arith, size);
    }

use Rattle.std.proofs.Common.{◌+◌, List, ℕ, ap, false}
use Rattle.line_loop.specs.Progress.{Progress, progress}
use Rattle.line_loop.proofs.Held.{held_behind}
use Rattle.line_loop.proofs.session.Session.go_behind.Goals as goal

pub returns-clause-behind : goal.returns-clause-behind
returns-clause-behind c =
    let self = c.args.self.now in
    ap (λ (h : List ℕ). let p : Progress = record (progress self) { number = self.number + 1; held = h; passes_over = false } in p)
    (held_behind self.bytes.items self.start self.end c.args.count c.requires.within)

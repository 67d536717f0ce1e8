use Rattle.std.proofs.Common.{◌≡◌, ◌++◌, map, filter, take, drop}
use Rattle.dump_rules.specs.Verdict.{entry_of_held}
use Rattle.rebuild_checker.specs.Lent.{held_lent}
use Rattle.rebuild_checker.specs.Named.{named_apart_from}
use Rattle.rebuild_checker.specs.MissingFirm.{is_lacking}
use Rattle.rebuild_checker.proofs.entered.walk_along.Given as goal

abbrev pub invariant-loop-held : goal.invariant-loop-held
invariant-loop-held l =
    (l.missing.items ≡ map (λ one. one.now.grain) (filter (λ one. is_lacking l.hashing l.cover l.entered (entry_of_held one.now))
    (take l.held-index l.activations)))
    × (named_apart_from (map entry_of_held (held_lent l.activations)) l.passed.items ++ named_apart_from
    (map entry_of_held (held_lent l.activations)) (drop l.done l.entered)
    ≡ named_apart_from (map entry_of_held (held_lent l.activations)) l.entered)

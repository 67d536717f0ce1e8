use Rattle.std.proofs.Common.{List, ℕ, ◌∙◌, subst}
use Rattle.std.specs.List.Sorted.{IsPermutation}
use Rattle.dumps.specs.Mixed.{grains_lent, mixed}
use Rattle.dumps.proofs.ToldApart.{map_lent, told_apart}
use Rattle.dumps.proofs.mixed.are_told_apart.Goals as goal

pub returns : goal.returns
returns c = λ rising.
    told_apart mixed (grains_lent c.args.grains.now) c.sort_unstable.new.self.items
    (subst (λ (numbers : List ℕ). IsPermutation numbers c.sort_unstable.new.self.items)
    (c.in_ok-numbers.ensures ∙ map_lent mixed c.args.grains.now)
    c.sort_unstable.ensures.permutation) (rw c.deref.ensures.value at (c.is_rising.ensures rising))

use Rattle.std.proofs.Common.{rules}
use Rattle.std.specs.Ordering.{is_lt}
use Rattle.std.proofs.lemmas.List.Sorted.{answers_always}
use Rattle.dumps.proofs.StrictRise.{rising_told}
use Rattle.dumps.proofs.distinct.is_rising.Goals as goal

pub returns : goal.returns
returns g c =
    rising_told g.T.Ord.cmp g.met.T.Ord.total c.args.items.now c.is_sorted_by.result
    (c.is_sorted_by.ensures.cases (λ one next. is_lt (g.T.Ord.cmp one next)) (answers_always _ _ _ (λ f a r k called. search rules)))

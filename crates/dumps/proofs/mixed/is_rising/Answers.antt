use Rattle.std.proofs.Common.{ltb, rules}
use Rattle.std.proofs.lemmas.List.Sorted.{answers_always}
use Rattle.dumps.proofs.ToldApart.{rising_answer}
use Rattle.dumps.proofs.mixed.is_rising.Goals as goal

pub returns : goal.returns
returns c =
    rising_answer c.args.numbers.now c.is_sorted_by.result
    (c.is_sorted_by.ensures.cases ltb (answers_always _ _ _ (λ f a r g called. search rules)))

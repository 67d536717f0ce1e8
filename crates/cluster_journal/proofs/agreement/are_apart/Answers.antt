use Rattle.std.proofs.Common.{ltb, rules}
use Rattle.std.proofs.lemmas.List.Sorted.{IsNonDecreasingBy-from_sort_by_key, answers_always}
use Rattle.cluster_journal.specs.declared.entry.Receipt.{Receipt}
use Rattle.cluster_journal.proofs.Sorted.{told_apart}
use Rattle.cluster_journal.proofs.agreement.are_apart.Goals as goal

pub returns-clause-apart : goal.returns-clause-apart
returns-clause-apart c =
    told_apart (λ (receipt : Receipt). receipt.number) _ _ _ c.sort_unstable_by_key.ensures.permutation
    (IsNonDecreasingBy-from_sort_by_key (λ (receipt : Receipt). receipt.number) _ c.sort_unstable_by_key.ensures.sorted
    (λ a r q k. search rules))
    (c.is_sorted_by.ensures.cases (λ one next. ltb one.number next.number) (answers_always _ _ _ (λ f a r q called. search rules)))

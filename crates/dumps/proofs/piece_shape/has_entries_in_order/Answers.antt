use Rattle.std.proofs.Common.{◌∙◌, List, ap, map, not, rules}
use Rattle.std.specs.Ordering.{is_lt}
use Rattle.std.proofs.lemmas.List.Sorted.{answers_always}
use Rattle.silo_address.specs.Grain.{grain_cmp}
use Rattle.silo_address.specs.declared.Entry.{Entry}
use Rattle.dump_rules.specs.DumpShape.{are_in_order, has_entries_in_order}
use Rattle.dumps.proofs.InOrder.{in_order_answer, in_order_by}
use Rattle.dumps.proofs.piece_shape.has_entries_in_order.Goals as goal

pub returns : goal.returns
returns c =
    in_order_answer (λ (one next : Entry). grain_cmp one.grain next.grain) c.deref.result.now c.is_sorted_by.result
    (c.is_sorted_by.ensures.cases (λ (one next : Entry). not (is_lt (grain_cmp next.grain one.grain)))
    (answers_always _ _ _ (λ f a r g called. search rules)))
    ∙ (in_order_by grain_cmp (λ (entry : Entry). entry.grain) c.deref.result.now
    ∙ (ap (λ (entries : List Entry). are_in_order grain_cmp (map (λ (entry : Entry). entry.grain) entries)) c.deref.ensures.value
    ∙ ap has_entries_in_order c.piece.view_is))

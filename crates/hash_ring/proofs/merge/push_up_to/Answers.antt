use Rattle.std.proofs.Common.{◌++◌, ◌∷◌, [], ◌∙◌, ap, cond, append_assoc}
use Rattle.std.specs.Result.{is_ok}
use Rattle.hash_ring.proofs.merge.push_up_to.Goals as goal

pub returns-clause-put : goal.returns-clause-put
returns-clause-put c = (
  c.around.result.0.now,
  c.push.ensures.items
      ∙ ap (λ r. cond (is_ok r) (c.push_all.new.merged.items ++ c.args.point.now ∷ []) c.push_all.new.merged.items) c.unwrap.ensures
      ∙ ap (λ l. l ++ c.args.point.now ∷ []) c.push_all.ensures.items
      ∙ append_assoc c.args.merged.now.items c.around.result.0.now (c.args.point.now ∷ []),
  c.around.ensures.between,
)

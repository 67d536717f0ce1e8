use Rattle.std.proofs.Common.{◌≡◌, sym, ap, subst, ◌∙◌, ◌∷◌, [], ◌++◌, ◌+◌, ◌<◌, length, append_assoc, arith}
use Rattle.std.specs.List.{AllByRecursion, enumerate_from}
use Rattle.std.specs.Map.{keys_of}
use Rattle.host_activations.proofs.Moved.{none_above}
use Rattle.host_activations.proofs.Ranks.{put_last, below_last}
use Rattle.host_activations.proofs.outstanding.about.renumbered.Goals as goal

pub insert-requires : goal.insert-requires
insert-requires c = record { free = none_above c.loop-asked.number c.loop-asked.renewed.entries c.loop-asked.invariant.below }

pub loop-asked-preserved : goal.loop-asked-preserved
loop-asked-preserved c =
    let taken : c.loop-asked.asked-iterator ≡ c.in-Some.asked.now ∷ c.next.new.self = c.in-Some.ensures.steps in
    let last : c.insert.new.self.entries ≡ c.loop-asked.renewed.entries ++ (c.loop-asked.number, c.in-Some.asked.now) ∷ [] =
    c.in_ok-insert.ensures.entries ∙ put_last c.loop-asked.renewed.entries c.loop-asked.number c.in-Some.asked.now
    c.loop-asked.invariant.below in
    record {
      so_far = ap (λ l. l ++ enumerate_from (c.loop-asked.number + 1) c.next.new.self) last
          ∙ append_assoc c.loop-asked.renewed.entries ((c.loop-asked.number, c.in-Some.asked.now) ∷ [])
          (enumerate_from (c.loop-asked.number + 1) c.next.new.self)
          ∙ ap (λ l. c.loop-asked.renewed.entries ++ enumerate_from c.loop-asked.number l) (sym taken) ∙ c.loop-asked.invariant.so_far;
      below = subst (λ l. AllByRecursion (λ k. k < c.loop-asked.number + 1) (keys_of l)) (sym last)
          (below_last c.loop-asked.renewed.entries c.loop-asked.number c.in-Some.asked.now c.loop-asked.invariant.below);
      counted = let counted = c.loop-asked.invariant.counted in omega (counted, ap (λ l. length l) taken, arith);
    }

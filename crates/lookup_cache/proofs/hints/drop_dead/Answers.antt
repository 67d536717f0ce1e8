use Rattle.std.proofs.Common.{◌∙◌, refl, ap, arith}
use Rattle.lookup_cache.proofs.Rounds.{not_turned, turned_once_more}
use Rattle.lookup_cache.proofs.hints.drop_dead.Goals as goal

pub loop-init : goal.loop-init
loop-init c = record { turned = not_turned c.args.view.now c.args.hints.now.entries; capacity = refl; rounds = c.len-end.ensures.len }

pub loop-preserved : goal.loop-preserved
loop-preserved c =
    let rounds = c.loop.invariant.rounds in
    record {
      turned = turned_once_more c.args.view.now c.loop.counter c.args.hints.now.entries c.loop.hints.entries c.turn_last.new.hints.entries
          c.loop.invariant.turned (omega arith) (ap (λ h. h.entries) c.turn_last.ensures);
      capacity = ap (λ h. h.cap) c.turn_last.ensures ∙ c.loop.invariant.capacity;
      rounds = rounds;
    }

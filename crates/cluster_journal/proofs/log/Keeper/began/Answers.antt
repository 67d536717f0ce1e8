use Rattle.std.proofs.Common.{◌∙◌, arith, sym, ap}
use Rattle.cluster_journal.specs.Log.{informed}
use Rattle.cluster_journal.proofs.LogSteps.{joins, compares}
use Rattle.cluster_journal.proofs.log.Keeper.began.Goals as goal

pub join_seat-requires : goal.join_seat-requires
join_seat-requires g c =
    let is = c.self.invariant in
    let one_word = is.2 in
    (is.0, c.front.invariant.0 ∙ sym is.1, c.front.invariant.1, omega arith, joins _ _ _ _)

pub load-requires : goal.load-requires
load-requires g c =
    let is = c.self.invariant in
    let one_word = is.2 in
    let joined = c.join_seat.ensures in
    let known = joined.2 ∙ ap (λ me. (informed me.0 c.front.inside.seat.me.0, me.1)) is.3 in
    (joined.0 ∙ is.0, omega arith, compares _ _ _ _ _ known)

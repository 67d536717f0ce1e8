use Rattle.std.proofs.Common.{subst}
use Rattle.directory_rules.specs.State.{Recovery}
use Rattle.range_recovery.specs.Kept.{IsRecovery}
use Rattle.range_recovery.proofs.recovery.Recovery.whole.Goals as goal

pub returns : goal.returns
returns c =
    subst (λ (v : Recovery). IsRecovery v) c.self.view_is
    (record {
      awaiting_in_order = c.whole.ensures.awaiting_in_order;
      reported_in_order = c.whole.ensures.reported_in_order;
      apart = c.whole.ensures.apart;
      told_in_order = c.len-told.ensures.ordered;
      gathered_in_order = c.whole-2.ensures;
    })

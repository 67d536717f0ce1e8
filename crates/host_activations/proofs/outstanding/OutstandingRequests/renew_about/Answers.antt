use Rattle.std.proofs.Common.{◌≡◌, ◌+◌, ◌≤◌, ◌^◌, ap, sym, subst, ◌∙◌, cond, is_some, length, None}
use Rattle.std.specs.List.{enumerate_from}
use Rattle.std.specs.Map.{values_of}
use Rattle.host_activations.specs.Asked.{asked_under}
use Rattle.host_activations.specs.Outstanding.{about_grain}
use Rattle.host_activations.proofs.Grains.{either}
use Rattle.host_activations.proofs.MovedAbout.{free_below, now_is, put_either}
use Rattle.host_activations.proofs.outstanding.OutstandingRequests.renew_about.Goals as goal

pub renumbered-requires : goal.renumbered-requires
renumbered-requires c = subst (λ l. c.args.first + length l ≤ 2 ^ 60 + 1) (sym c.in_ok-about.ensures) c.requires.left

pub insert_all-requires : goal.insert_all-requires
insert_all-requires c =
    let told : c.in_ok-numbered.numbered.entries ≡ enumerate_from c.args.first (values_of (about_grain c.args.grain.now c.args.self.now.entries)) =
    c.in_ok-numbered.ensures ∙ ap (λ l. enumerate_from c.args.first (values_of l)) c.in_ok-about.ensures in
    record {
      free =
          λ n some. free_below c.args.self.now.entries c.in_order.ensures c.args.grain.now c.args.first c.requires.below n
          (sym (ap (λ l. is_some (asked_under n l)) told) ∙ some);
    }

pub returns-clause-told : goal.returns-clause-told
returns-clause-told c = c.in_ok-numbered.ensures ∙ ap (λ l. enumerate_from c.args.first (values_of l)) c.in_ok-about.ensures

pub returns-clause-renewed : goal.returns-clause-renewed
returns-clause-renewed c =
    let told : c.in_ok-numbered.numbered.entries ≡ enumerate_from c.args.first (values_of (about_grain c.args.grain.now c.args.self.now.entries)) =
    c.in_ok-numbered.ensures ∙ ap (λ l. enumerate_from c.args.first (values_of l)) c.in_ok-about.ensures in
    now_is c.args.self.now.entries c.in_order.ensures c.args.grain.now c.args.first c.requires.below c.remove_all.new.self.entries
    c.in_order-2.ensures
    (λ n. c.remove_all.ensures n
    ∙ (λ i. cond (is_some (asked_under n (c.in_ok-about.ensures i))) None (put_either _ _ _ (c.in_ok-insert_all.ensures.put n) i))
    ∙ ap (λ l. cond (is_some (asked_under n (about_grain c.args.grain.now c.args.self.now.entries))) None
    (either (asked_under n l) (asked_under n c.args.self.now.entries))) told)

use Rattle.std.proofs.Common.{sym, ap, subst, ◌∙◌, ◌+◌, ◌^◌, ◌≤◌, length}
use Rattle.std.specs.List.{enumerate_from}
use Rattle.std.specs.Map.{values_of}
use Rattle.host_activations.proofs.Renewals.{enough, renewal_is}
use Rattle.host_activations.proofs.host.Host.renewal.Goals as goal

pub renumbered-requires : goal.renumbered-requires
renumbered-requires c =
    subst (λ l. c.self.inside.next_number + length l ≤ 2 ^ 60 + 1) (sym c.by_number.ensures)
    (enough c.self.inside c.self.invariant c.args.self.now c.self.view_is c.requires)

pub returns : goal.returns
returns c =
    c.in_ok-numbered.ensures ∙ ap (λ l. enumerate_from c.self.inside.next_number (values_of l)) c.by_number.ensures
    ∙ sym (renewal_is c.self.inside c.self.invariant c.args.self.now c.self.view_is)

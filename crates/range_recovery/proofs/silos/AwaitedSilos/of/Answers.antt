use Rattle.std.proofs.Common.{◌≡◌, List, length, map, not, ◌∙◌, ap, sym, subst}
use Rattle.std.specs.List.{filter}
use Rattle.silo_address.specs.Silo.{Silo}
use Rattle.membership_view.specs.declared.status.Status.{Status}
use Rattle.directory_rules.specs.Members.{is_dead_status}
use Rattle.range_recovery.specs.declared.awaited.Awaited.{Awaited}
use Rattle.range_recovery.specs.Silos.{IsCounted}
use Rattle.range_recovery.proofs.Told.{told, unreported, told-unreported, by_address-unreported, counted-unreported}
use Rattle.range_recovery.proofs.silos.AwaitedSilos.of.Goals as goal

pub invariant_of-result : goal.invariant_of-result
invariant_of-result c =
    let silos : List Awaited = map unreported (filter (λ row. not (is_dead_status row.1)) c.args.view.now.rows) in
    let is : c.in_ok-silos.silos.items ≡ silos =
    c.in_ok-silos.ensures ∙ ap (λ (rows : List (Silo × Status)). map unreported (filter (λ row. not (is_dead_status row.1)) rows))
    c.rows.ensures in
    subst (λ (l : List Awaited). IsCounted l (length c.as_slice-missing.result.now)) (sym is)
    (record {
      by_address = by_address-unreported (λ row. not (is_dead_status row.1)) c.args.view.now.rows c.in_order.ensures;
      counted =
          ap (λ (l : List Awaited). length l) (c.as_slice-missing.ensures.value ∙ is)
          ∙ counted-unreported (filter (λ row. not (is_dead_status row.1)) c.args.view.now.rows);
    })

pub returns : goal.returns
returns c =
    ap told (c.in_ok-silos.ensures ∙ ap (λ (rows : List (Silo × Status)). map unreported (filter (λ row. not (is_dead_status row.1)) rows))
    c.rows.ensures)
    ∙ told-unreported (filter (λ row. not (is_dead_status row.1)) c.args.view.now.rows)

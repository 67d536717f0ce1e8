use Rattle.std.proofs.Common.{◌≡◌, refl, rules, sym, subst, ap, ◌∙◌, ℕ}
use Rattle.std.specs.Prelude.{All, true, []}
use Rattle.std.specs.BTreeMap.{insert_entry, is_at}
use Rattle.std.specs.Ordering.{nat_cmp}
use Rattle.ring_range.specs.Range.{Range}
use Rattle.directory_rules.specs.Answer.{with_piece}
use Rattle.directory_rules.specs.State.{Piece, Holding, Gathering}
use Rattle.directory_rules.specs.Table.{rise_by_grain}
use Rattle.directory_rules.specs.declared.PieceState.TheVariants.{Recovering}
use Rattle.node_plans.specs.Node.{HaveRecoveries}
use Rattle.node_plans.proofs.Kept.{recovering_puts}
use Rattle.node_plans.proofs.Values.{all_but_one}
use Rattle.directory_node.proofs.node.Node.recover.Goals as goal

-- the piece has its recovery
pub invariant_of-self-2 : goal.invariant_of-self-2
invariant_of-self-2 c =
    let inside = c.self.inside in
    let range = c.args.recovery.range in
    let piece : Piece = record { range = range; state = Recovering; entries = [] } in
    let pieces = with_piece piece inside.holding.pieces in
    let is =
    ap (λ (h : Holding). h.pieces) c.wait_for_reports.ensures
    ∙ ap (λ (r : Range). with_piece (record { range = r; state = Recovering; entries = [] }) inside.holding.pieces) c.range-range.ensures in
    let put = c.in_ok-insert.ensures.entries ∙ ap (λ (s : ℕ). insert_entry nat_cmp inside.recoveries.entries s c.args.recovery) (c.start.ensures ∙ ap (λ (r : Range). r.start) c.range-range.ensures) in
    record {
      cached = c.self.invariant.cached;
      recovers = subst (λ l. HaveRecoveries l c.insert.new.self.entries) (sym is)
          (subst (λ l. HaveRecoveries pieces l) (sym put)
          (recovering_puts piece c.args.recovery inside.holding.pieces inside.recoveries.entries refl c.self.invariant.recovers));
      rising =
          subst (λ l. All (λ e. rise_by_grain e.1.entries ≡ true) l) (sym c.remove.ensures.entries)
          (all_but_one (λ (e : ℕ × Gathering). rise_by_grain e.1.entries ≡ true) (is_at (nat_cmp c.start-2.result))
          inside.gatherings.entries c.self.invariant.rising);
      shelved = c.self.invariant.shelved;
    }

pub returns-clause-made : goal.returns-clause-made
returns-clause-made c = search rules

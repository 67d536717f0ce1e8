use Rattle.std.proofs.Common.{◌≡◌, refl, sym, subst, ap, ◌∙◌, ℕ}
use Rattle.std.specs.Prelude.{All, true}
use Rattle.std.specs.Map.{remove_entry}
use Rattle.std.specs.BTreeMap.{is_at}
use Rattle.std.specs.Ordering.{nat_cmp}
use Rattle.directory_rules.specs.Answer.{with_piece}
use Rattle.directory_rules.specs.State.{Piece, Holding, Gathering}
use Rattle.directory_rules.specs.Table.{rise_by_grain}
use Rattle.directory_rules.specs.declared.PieceState.TheVariants.{Settled}
use Rattle.node_plans.specs.Node.{HaveRecoveries}
use Rattle.node_plans.proofs.Kept.{settled_removes}
use Rattle.node_plans.proofs.Values.{all_but_one}
use Rattle.directory_node.proofs.node.Node.settle_piece.Goals as goal

-- a settled piece needs no recovery
pub invariant_of-self : goal.invariant_of-self
invariant_of-self c =
    let inside = c.self.inside in
    let piece : Piece = record { range = c.args.range; state = Settled; entries = c.args.entries.entries } in
    let pieces = with_piece piece inside.holding.pieces in
    let is = ap (λ (h : Holding). h.pieces) c.install.ensures in
    let kept = settled_removes piece inside.holding.pieces inside.recoveries.entries refl c.self.invariant.recovers in
    record {
      cached = c.self.invariant.cached;
      recovers = subst (λ l. HaveRecoveries l c.remove-2.new.self.entries) (sym is)
          (subst (λ l. HaveRecoveries pieces l) (ap (λ (s : ℕ). remove_entry (is_at (nat_cmp s)) inside.recoveries.entries)
          (sym c.start-2.ensures) ∙ sym c.remove-2.ensures.entries) kept);
      rising =
          subst (λ l. All (λ e. rise_by_grain e.1.entries ≡ true) l) (sym c.remove.ensures.entries)
          (all_but_one (λ (e : ℕ × Gathering). rise_by_grain e.1.entries ≡ true) (is_at (nat_cmp c.start.result))
          inside.gatherings.entries c.self.invariant.rising);
      shelved = c.self.invariant.shelved;
    }

-- A silo's figures: what it has and what it waits for, in numbers, which tell an operator at little cost whether it gets on.
use Rattle.std.specs.Prelude.{not, length, count_by}
use Rattle.directory_rules.specs.Host.{is_asking, is_closing}
use Rattle.directory_rules.specs.Sight.{is_settled}
use Rattle.silo_rules.specs.declared.figures.Figures.{Figures}
use Rattle.silo_rules.specs.SiloValue.{SiloValue}

-- the version seen, the last change known, the activations held and those of them that ask or close, the finds outstanding, the ranges
-- not settled, and the snapshots on the shelf
abbrev pub figures : SiloValue → Figures
figures s = record {
  seen = s.node.view.version;
  known = s.membership.views.version;
  held = length s.node.host.held;
  asking = count_by (λ e. is_asking e.1.phase) s.node.host.held;
  closing = count_by (λ e. is_closing e.1.phase) s.node.host.held;
  finding = length s.node.host.finds;
  unsettled = count_by (λ e. not (is_settled e.1.state)) s.node.holding.pieces;
  kept = length s.node.shelf;
}

use Rattle.std.proofs.Common.{sym, ap, ◌∙◌}
use Rattle.std.specs.Prelude.{nat_le}
use Rattle.std.proofs.lemmas.List.{length-map, take-map}
use Rattle.host_activations.specs.Listing.{entry_listed}
use Rattle.host_activations.proofs.activations.page.page_of.Goals as goal

pub returns : goal.returns
returns c = record {
  entries = c.in_ok-entries.ensures ∙ sym (take-map (entry_listed c.args.silo) c.args.most c.args.firm.now);
  last = ap (λ n. nat_le n c.args.most) (sym (length-map c.args.firm.now (entry_listed c.args.silo)));
}

use Rattle.std.proofs.Common.{◌∙◌, None, Some}
use Rattle.host_activations.proofs.Changes.{found_told}
use Rattle.host_activations.proofs.activations.Activations.get.Goals as goal

pub returns-in_err-held : goal.returns-in_err-held
returns-in_err-held c =
    c.from_residual.ensures ∙ found_told c.self.inside.next_count c.self.inside.map c.self.invariant.begun c.args.grain.now None
    c.in_err-held.ensures.value c.args.self.now c.self.view_is

pub returns : goal.returns
returns c =
    found_told c.self.inside.next_count c.self.inside.map c.self.invariant.begun c.args.grain.now (Some c.in_ok-held.held)
    c.in_ok-held.ensures.value c.args.self.now c.self.view_is

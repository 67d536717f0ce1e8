use Rattle.std.proofs.Common.{sym, ap, ◌∙◌, true, false}
use Rattle.directory_rules.specs.Host.{is_closing_under}
use Rattle.host_activations.proofs.Fields.{closing_has}
use Rattle.host_activations.proofs.Replies.{closing_if, found_if}
use Rattle.host_activations.proofs.host.Host.closing_under.Goals as goal

pub returns-in_err-found : goal.returns-in_err-found
returns-in_err-found c =
    c.from_residual.ensures ∙ sym (c.in_err-found.ensures.found (is_closing_under c.args.number) (closing_has c.args.number))

pub returns-in-Closing : goal.returns-in-Closing
returns-in-Closing c =
    found_if (is_closing_under c.args.number) c.args.self.now.held c.in_ok-found.found true
    (closing_if c.in_ok-found.found.1.phase c.in-Closing.field-0 c.args.number c.in-Closing.is c.in_ok-found.ensures.asked)
    (c.in_ok-found.ensures.found (is_closing_under c.args.number) (closing_has c.args.number))

pub returns-in-Firm : goal.returns-in-Firm
returns-in-Firm c =
    found_if (is_closing_under c.args.number) c.args.self.now.held c.in_ok-found.found false
    (ap (is_closing_under c.args.number) c.in-Firm.is)
    (c.in_ok-found.ensures.found (is_closing_under c.args.number) (closing_has c.args.number))

pub returns-in-Asking : goal.returns-in-Asking
returns-in-Asking c =
    found_if (is_closing_under c.args.number) c.args.self.now.held c.in_ok-found.found false
    (ap (is_closing_under c.args.number) c.in-Asking.is)
    (c.in_ok-found.ensures.found (is_closing_under c.args.number) (closing_has c.args.number))

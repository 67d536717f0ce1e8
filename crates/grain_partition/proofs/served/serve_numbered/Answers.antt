use Rattle.std.proofs.Common.{◌∙◌, ap}
use Rattle.directory_rules.specs.declared.Request.{Request}
use Rattle.grain_partition.specs.Served.{number_before}
use Rattle.grain_partition.proofs.Undone.{number_again}
use Rattle.grain_partition.proofs.served.serve_numbered.Goals as goal

pub returns-in-Err-clause-served_stay : goal.returns-in-Err-clause-served_stay
returns-in-Err-clause-served_stay c =
    let request : Request = c.request.result.now in
    c.unnote.ensures
    ∙ ap (number_before request.sender c.in_ok-before.before) c.in_ok-before.ensures.entries
    ∙ number_again request.sender request.number c.in_ok-before.before c.args.served.now.entries c.in_ok-before.ensures.was_ordered
    c.in_ok-before.ensures.old

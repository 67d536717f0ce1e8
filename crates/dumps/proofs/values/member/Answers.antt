use Rattle.std.proofs.Common.{option_map, ap, ◌∙◌, Bor}
use Rattle.serde_json.specs.View.{view}
use Rattle.serde_json.specs.declared.value.Value.{Value}
use Rattle.serde_json.proofs.Views.{view_of_ref, view-lookup}
use Rattle.dumps.proofs.Counted.{found_or_not}
use Rattle.dumps.proofs.values.member.Goals as goal

pub returns-clause-read : goal.returns-clause-read
returns-clause-read c =
    rw c.ok_or.ensures.value
    (found_or_not (λ (v : Bor Value). view v.now) c.get.result _
    (view_of_ref c.get.result ∙ ap (option_map view) c.get.ensures.value ∙ view-lookup c.args.name.now c.args.members.now.entries))

use Rattle.std.proofs.Common.{◌∙◌, ap, sym, ◌++◌, [], ◌∷◌, cond}
use Rattle.std.proofs.lemmas.Result.{on_ok_weaker}
use Rattle.directory_rules.specs.Sight.{is_owner}
use Rattle.grain_partition.specs.BySilo.{arcs_under}
use Rattle.grain_partition.proofs.BySilo.{put_more}
use Rattle.grain_partition.proofs.by_silo.put_under.Goals as goal

pub returns-in-Some : goal.returns-in-Some
returns-in-Some c =
    on_ok_weaker c.put_at.result
    (λ puts other.
    put_more c.in-Some.silo c.args.arc.now c.args.under.now.entries c.put_at.new.under.entries puts other
    ∙ ap (λ owner. arcs_under other c.args.under.now.entries ++ cond (is_owner other owner) (c.args.arc.now ∷ []) []) (sym c.in-Some.is))
    c.put_at.ensures

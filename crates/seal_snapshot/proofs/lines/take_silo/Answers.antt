use Rattle.std.proofs.Common.{◌++◌, ◌∷◌, [], ◌∙◌, ap}
use Rattle.std.specs.Fmt.{decimal}
use Rattle.seal_snapshot.specs.Lines.{ip_text}
use Rattle.seal_snapshot.proofs.Hashed.{silo_parts, takes_as, takes_both}
use Rattle.seal_snapshot.proofs.lines.take_silo.Goals as goal

pub returns : goal.returns
returns c =
    takes_as _ _ _ _
    (ap (λ ip. ip_text ip ++ ((decimal c.from.result ++ 64 ∷ []) ++ (decimal c.from-2.result ++ c.args.mark ∷ []))) c.ip.ensures
    ∙ ap (λ port. ip_text c.args.silo.now.ip ++ ((decimal port ++ 64 ∷ []) ++ (decimal c.from-2.result ++ c.args.mark ∷ [])))
    (c.from.ensures ∙ c.port.ensures)
    ∙ ap (λ generation. ip_text c.args.silo.now.ip ++
    ((decimal c.args.silo.now.port ++ 64 ∷ []) ++ (decimal generation ++ c.args.mark ∷ []))) (c.from-2.ensures ∙ c.generation.ensures)
    ∙ silo_parts c.args.silo.now c.args.mark)
    (takes_both _ _ _ _ _ c.take_ip.ensures (takes_both _ _ _ _ _ c.take_number.ensures c.take_number-2.ensures))

use Rattle.std.proofs.Common.{◌++◌, ◌∷◌, [], ◌∙◌, ap, append_assoc}
use Rattle.silo_address.specs.ActivationText.{activation_text}
use Rattle.silo_address.specs.Grain.{grain_text}
use Rattle.seal_snapshot.proofs.Hashed.{takes_as, takes_both}
use Rattle.seal_snapshot.proofs.lines.take_short_entry.Goals as goal

pub returns : goal.returns
returns c =
    takes_as _ _ _ _
    (ap (λ text. (text ++ 32 ∷ []) ++ (activation_text c.activation.result ++ 10 ∷ [])) c.text.ensures
    ∙ ap (λ activation. (grain_text c.args.entry.now.grain ++ 32 ∷ []) ++ (activation_text activation ++ 10 ∷ [])) c.activation.ensures
    ∙ append_assoc (grain_text c.args.entry.now.grain) (32 ∷ []) (activation_text c.args.entry.now.activation ++ 10 ∷ []))
    (takes_both _ _ _ _ _ c.take_marked.ensures c.take_activation.ensures)

use Rattle.std.proofs.Common.{◌≡◌, ◌∙◌, ◌++◌, ◌∷◌, [], ap, sym, ℕ, Result, Ok, rules}
use Rattle.script_rules.specs.Script.{◌>>=◌}
use Rattle.process_lines.proofs.listed.push_place.Goals as goal

pub returns : goal.returns
returns c =
    let before = c.args.places.now.items in
    let pushed : c.push.new.self.items ≡ before ++ c.in_ok-place.place ∷ [] = search rules in
    ap (λ (read : Result ℕ ℕ). read >>= λ place. Ok (before ++ place ∷ [])) (sym c.in_ok-place.ensures) ∙ ap Ok (sym pushed)

use Rattle.std.proofs.Common.{◌≡◌, refl, ap, ◌∙◌, ℕ, List, [], ◌∷◌, cond, Bool, not, arith}
use Rattle.std.specs.Prelude.{count_by}
use Rattle.std.specs.Map.{values_of}
use Rattle.std.proofs.lemmas.List.Sums.{length-filter, sum_by-cons}
use Rattle.directory_rules.specs.State.{Holding, Piece}
use Rattle.directory_rules.specs.Sight.{is_settled}
use Rattle.grain_partition.proofs.holdings.Holding.unsettled_count.Goals as goal

by_values : (test : Piece → Bool) (es : List (ℕ × Piece)) → count_by test (values_of es) ≡ count_by (λ e. test e.1) es
by_values test [] = refl
by_values test (e ∷ es) =
    let here = sum_by-cons (λ x. cond (test x) 1 0) e.1 (values_of es) in
    let there = sum_by-cons (λ (x : ℕ × Piece). cond (test x.1) 1 0) e es in
    let later = by_values test es in omega (here, there, later, arith)

pub returns : goal.returns
returns c =
    c.unsettled_count.ensures
    ∙ length-filter (λ (p : Piece). not (is_settled p.state)) (values_of c.self.inside.pieces.entries)
    ∙ by_values (λ p. not (is_settled p.state)) c.self.inside.pieces.entries
    ∙ ap (λ (h : Holding). count_by (λ e. not (is_settled e.1.state)) h.pieces) c.self.view_is

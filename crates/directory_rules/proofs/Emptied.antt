-- A report that a silo has nothing in a range counts where the node recovers the range, whatever else its test asks.
use Rattle.std.proofs.Common.{◌≡◌, refl, ap, ◌∙◌}
use Rattle.std.specs.Prelude.{Bool, true, false, ◌==◌, ◌&&◌}
use Rattle.std.proofs.lemmas.Bool.{eq-eqb}
use Rattle.silo_address.specs.Silo.{silo_eq}
use Rattle.silo_address.proofs.Same.{Decides-silo}
use Rattle.ring_range.specs.Range.{Range}
use Rattle.directory_rules.specs.State.{Letter, Node}
use Rattle.directory_rules.specs.Transfer.{is_report_awaited, nothing_in, recovers}

whole : (a b c : Bool) → a ≡ true → b ≡ true → (a && b && c && true && true && true && true) ≡ c
whole a b true one other = ap (λ t. t && b && true && true && true && true && true) one ∙ ap (λ t. true && t && true && true && true && true && true) other
whole a b false one other = ap (λ t. t && b && false && true && true && true && true) one ∙ ap (λ t. true && t && false && true && true && true && true) other

pub nothing_counts : (node : Node) (letter : Letter) (range : Range)
    → is_report_awaited node letter (nothing_in letter range) ≡ recovers node letter.version range
nothing_counts node letter range =
    whole (letter.version == letter.version) (silo_eq letter.from letter.from) (recovers node letter.version range)
    (eq-eqb letter.version letter.version refl) ((Decides-silo letter.from letter.from).1 refl)

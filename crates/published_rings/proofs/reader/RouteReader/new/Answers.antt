use Rattle.std.proofs.Common.{ap, sym, ◌∙◌, ◌++◌, Some}
use Rattle.left_right.specs.Sides.{view}
use Rattle.published_rings.specs.Log.{FrontValue}
use Rattle.published_rings.specs.Shown.{Publication}
use Rattle.published_rings.specs.declared.rule.Known.{Known}
use Rattle.published_rings.proofs.reader.RouteReader.new.Goals as goal

pub invariant_of-result : goal.invariant_of-result
invariant_of-result c =
    let known : Known = view c.args.reader.place in (
      ap (λ (f : FrontValue). f.log) c.requires.before ∙ sym (ap (λ (p : Publication). p.log) c.of.ensures),
      c.requires.known ∙ sym (ap (λ (p : Publication). Some p) c.of.ensures),
      (known.seen, sym (ap (λ (f : FrontValue). f.all ++ known.seen) c.requires.before)),
    )

use Rattle.std.proofs.Common.{◌≡◌, ◌∙◌, ap, subst, sym, List}
use Rattle.left_right.specs.Sides.{view}
use Rattle.hash_ring.specs.Ring.{RingValue}
use Rattle.published_rings.specs.Log.{FrontValue}
use Rattle.published_rings.specs.Rule.{Begins}
use Rattle.published_rings.specs.Ends.{ReaderValue}
use Rattle.published_rings.specs.declared.rule.Known.{Known}
use Rattle.published_rings.proofs.Steps.{begins_then}
use Rattle.published_rings.proofs.reader.RouteReader.route.Goals as goal

pub returns-in-Some-clause-kept : goal.returns-in-Some-clause-kept
returns-in-Some-clause-kept c =
    let looked = c.in-Some.ensures {u = tt} in
    let known : Known = view c.self.inside.reader.place in
    let now : Known = view c.replace_with.new.dest.place in
    let begins : Begins c.self.inside.front.all now.seen = begins_then c.self.inside.front.all known.seen now.seen c.self.invariant.2 looked.1.begins in
    let all : now.seen ≡ c.in-Some.front.all = looked.1.all ∙ sym (ap (λ (f : FrontValue). f.all) looked.2.front) in
    subst (λ (l : List RingValue). Begins l c.in-Some.front.all) (ap (λ (r : ReaderValue). r.seen) c.self.view_is)
    (subst (λ (l : List RingValue). Begins c.self.inside.front.all l) all begins)

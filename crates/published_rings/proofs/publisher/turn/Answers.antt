use Rattle.std.proofs.Common.{◌≡◌, ◌∙◌, sym, subst, refl, List, drop}
use Rattle.std.specs.List.{fold}
use Rattle.crossbeam_utils.specs.Register.{TurnsAt}
use Rattle.left_right.specs.Sides.{view}
use Rattle.published_rings.specs.Shown.{EditionValue, FollowsOn, ShownValue, edition_after, showing}
use Rattle.published_rings.specs.Rule.{Keeps, Adds}
use Rattle.published_rings.proofs.Steps.{adds}
use Rattle.published_rings.proofs.publisher.turn.Goals as goal

pub publish_as-requires : goal.publish_as-requires
publish_as-requires g c next is =
    let desk = c.loop.writer.desk in
    let shown = desk.shown.value in
    let all : List EditionValue = drop c.loop.writer.behind c.loop.writer.log.items in
    let follows : FollowsOn shown (fold showing shown all) = rw (c.loop.invariant.0, c.loop.invariant.1) c.requires in
    let edition : EditionValue = edition_after shown.edition (fold showing shown all).edition.ring in
    let same : next ≡ showing shown edition = is ∙ follows in
    subst (λ (y : ShownValue). TurnsAt Keeps desk.place.id (view desk.place) shown y Adds) (sym same)
    (adds desk.place.id (view desk.place) shown edition refl)

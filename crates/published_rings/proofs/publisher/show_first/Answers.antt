use Rattle.std.proofs.Common.{◌≡◌, ◌∙◌, ap, sym, subst, List, drop}
use Rattle.crossbeam_utils.specs.Register.{TurnsAt}
use Rattle.left_right.specs.Sides.{view}
use Rattle.published_rings.specs.Shown.{EditionValue, ShownValue, showing}
use Rattle.published_rings.specs.Rule.{Keeps, Opens}
use Rattle.published_rings.proofs.Steps.{opens_so}
use Rattle.published_rings.proofs.Ends.{shown_next, shown_so}
use Rattle.published_rings.proofs.publisher.show_first.Goals as goal

pub publish_as-writer-requires : goal.publish_as-writer-requires
publish_as-writer-requires g c next is =
    let desk = c.append.new.self.desk in
    let shown = desk.shown.value in
    let all : List EditionValue = drop c.append.new.self.behind c.append.new.self.log.items in
    let pending : List EditionValue = drop c.args.writer.behind c.args.writer.log.items in
    let its : shown.edition ≡ c.args.edition = rw c.in-Ok.ensures.desk c.requires in
    let same : next ≡ shown = is ∙ shown_next shown all pending c.args.edition c.in-Ok.ensures.pending ∙ ap (λ (e : EditionValue). showing shown e) (sym its) in
    subst (λ (y : ShownValue). TurnsAt Keeps desk.place.id (view desk.place) shown y Opens) (sym same)
    (opens_so desk.place.id (view desk.place) shown)

pub returns-clause-same : goal.returns-clause-same
returns-clause-same g c =
    let shown = c.append.new.self.desk.shown.value in
    let now = c.publish_as-writer.result in
    let all : List EditionValue = drop c.append.new.self.behind c.append.new.self.log.items in
    let pending : List EditionValue = drop c.args.writer.behind c.args.writer.log.items in
    let its : shown.edition ≡ c.args.edition = rw c.in-Ok.ensures.desk c.requires in
    let same : now.0.desk.shown.value ≡ shown =
    shown_so now.1 shown now.0.desk.shown.value all pending c.args.edition _ _ (sym c.is_err.ensures.value ∙ c.if-is_err.false)
    c.in-Ok.ensures.pending c.publish_as-writer.ensures.values
    ∙ ap (λ (e : EditionValue). showing shown e) (sym its) in
    rw (sym c.in-Ok.ensures.desk) same

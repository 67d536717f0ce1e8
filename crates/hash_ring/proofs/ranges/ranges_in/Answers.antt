use Rattle.std.proofs.Common.{◌∙◌, ◌<◌, ◌&&◌, ◌++◌, ◌∷◌, [], Bool, cond, take, ap, sym, get_or, length, append-nil}
use Rattle.std.proofs.lemmas.List.{get_or_default}
use Rattle.silo_address.specs.Silo.{silo_eq}
use Rattle.hash_ring.specs.declared.point.Point.{Point}
use Rattle.hash_ring.specs.Ranges.{range_of, owns_its_place}
use Rattle.hash_ring.proofs.Rooms.{picked, one_picked_more}
use Rattle.hash_ring.proofs.ranges.ranges_in.Goals as goal
use Rattle.hash_ring.proofs.ranges.ranges_in.Goals.{then-gives_range+in_ok-push, else-gives_range}

pub loop-at-preserved : goal.loop-at-preserved
loop-at-preserved c =
    let points = c.args.points.now in
    let silo = c.args.silo.now in
    let at = c.loop-at.at in
    let test : Point → Bool = λ p. silo_eq p.silo silo && owns_its_place points p in
    let within : at < length points = c.loop-at-test.true in
    let any : Point = record { place = 0; silo = silo; index = 0 } in
    let p : Point = get_or points at any in
    let had = picked (range_of points) test (take at points) in
    let more = one_picked_more (range_of points) test points at p c.gives_range.result within (get_or_default points at any p within) (c.gives_range.ensures any) in
    elim c.if-gives_range.branch [
      | then-gives_range+in_ok-push w ↦
          ap (λ v. v.items) w.ranges-is
          ∙ w.in_ok-push.ensures.items
          ∙ ap (λ l. l ++ w.range_from.result ∷ []) c.loop-at.invariant
          ∙ ap (λ r. had ++ r ∷ []) (w.range_from.ensures any)
          ∙ sym (more ∙ ap (λ b. had ++ cond b (range_of points p ∷ []) []) w.if-gives_range.true)
      | else-gives_range w ↦
          ap (λ v. v.items) w.ranges-is
          ∙ c.loop-at.invariant
          ∙ sym (append-nil had)
          ∙ sym (more ∙ ap (λ b. had ++ cond b (range_of points p ∷ []) []) w.if-gives_range.false)
    ]

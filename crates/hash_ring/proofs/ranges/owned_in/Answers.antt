use Rattle.std.proofs.Common.{◌≡◌, ◌∙◌, ◌<◌, ◌++◌, ◌∷◌, [], cond, take, ap, sym, get_or, length, append-nil}
use Rattle.std.proofs.lemmas.List.{get_or_default}
use Rattle.hash_ring.specs.declared.point.Point.{Point}
use Rattle.hash_ring.specs.Ranges.{owned_range, owns_its_place}
use Rattle.hash_ring.proofs.Rooms.{picked, one_picked_more}
use Rattle.hash_ring.proofs.ranges.owned_in.Goals as goal
use Rattle.hash_ring.proofs.ranges.owned_in.Goals.{then-is_first_there+in_ok-push, else-is_first_there}

pub loop-at-preserved : goal.loop-at-preserved
loop-at-preserved c =
    let points = c.args.points.now in
    let at = c.loop-at.at in
    let within : at < length points = c.loop-at-test.true in
    let any : Point = record { place = 0; silo = record { ip = []; port = 0; generation = 0 }; index = 0 } in
    let p : Point = get_or points at any in
    let is : p ≡ get_or points at p = get_or_default points at any p within in
    let had = picked (owned_range points) (owns_its_place points) (take at points) in
    let more = one_picked_more (owned_range points) (owns_its_place points) points at p c.is_first_there.result within is (c.is_first_there.ensures any) in
    elim c.if-is_first_there.branch [
      | then-is_first_there+in_ok-push w ↦
          ap (λ v. v.items) w.ranges-is
          ∙ w.in_ok-push.ensures.items
          ∙ ap (λ l. l ++ (w.range_from.result, (get_or points at w.index-points-at.result).silo) ∷ []) c.loop-at.invariant
          ∙ (λ i. had ++ (w.range_from.ensures any i, (get_or_default points at w.index-points-at.result any within i).silo) ∷ [])
          ∙ sym (more ∙ ap (λ b. had ++ cond b (owned_range points p ∷ []) []) w.if-is_first_there.true)
      | else-is_first_there w ↦
          ap (λ v. v.items) w.ranges-is
          ∙ c.loop-at.invariant
          ∙ sym (append-nil had)
          ∙ sym (more ∙ ap (λ b. had ++ cond b (owned_range points p ∷ []) []) w.if-is_first_there.false)
    ]

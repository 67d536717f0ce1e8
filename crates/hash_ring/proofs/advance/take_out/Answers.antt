use Rattle.std.proofs.Common.{◌≡◌, ◌∙◌, ap, sym, subst, refl, arith, rules, not, ◌&&◌, false, true, List, ℕ}
use Rattle.std.specs.Map.{keys_of}
use Rattle.std.specs.List.{filter}
use Rattle.silo_address.specs.Silo.{Silo, silo_eq}
use Rattle.hash_ring.specs.declared.point.Point.{Point}
use Rattle.hash_ring.specs.Ring.{is_active_in, is_on_ring}
use Rattle.hash_ring.specs.Search.{HasWholeSilos}
use Rattle.hash_ring.proofs.WholeSilos.{AreLeft, all_left, left_without, left_as_it_is, passing_stay, none_left, some_silos}
use Rattle.hash_ring.proofs.advance.take_out.Goals as goal

pub loop-silo-init : goal.loop-silo-init
loop-silo-init c = record {
  whole = c.requires;
  same = refl;
  left =
      subst (λ (es : List (Silo × List ℕ)). AreLeft (is_active_in c.args.view.now) c.args.points.now.items (keys_of es)) (search rules)
      (all_left (is_active_in c.args.view.now) c.args.places.now c.args.points.now.items c.requires);
  len = omega arith;
  room = refl;
}

pub loop-silo-preserved : goal.loop-silo-preserved
loop-silo-preserved c =
    let passes = is_active_in c.args.view.now in
    let before : List Point = c.loop-silo.points.items in
    let silo : Silo = c.in-Some.silo.now in
    let stays : (not (passes silo) && is_on_ring before silo) ≡ false =
    ap (λ l. not (passes silo) && is_on_ring l silo) (sym c.deref.ensures.value) ∙ sym c.is_gone.ensures ∙ c.if-is_gone.false in
    record {
      whole = c.loop-silo.invariant.whole;
      same = c.loop-silo.invariant.same;
      left =
          left_as_it_is passes before silo (keys_of c.next.new.self) stays
          (subst (λ (es : List (Silo × List ℕ)). AreLeft passes before (keys_of es)) c.in-Some.ensures.steps c.loop-silo.invariant.left);
      len = omega arith;
      room = c.loop-silo.invariant.room;
    }

pub loop-silo-preserved-then-is_gone : goal.loop-silo-preserved-then-is_gone
loop-silo-preserved-then-is_gone c =
    let passes = is_active_in c.args.view.now in
    let before : List Point = c.loop-silo.points.items in
    let silo : Silo = c.in-Some.silo.now in
    let gone : (not (passes silo) && is_on_ring before silo) ≡ true =
    ap (λ l. not (passes silo) && is_on_ring l silo) (sym c.deref.ensures.value) ∙ sym c.is_gone.ensures ∙ c.if-is_gone.true in
    record {
      whole =
          subst (λ (l : List Point). HasWholeSilos c.args.places.now l) (sym c.take_out_of.ensures.kept)
          (some_silos c.args.places.now before (λ s. not (silo_eq s silo)) c.loop-silo.invariant.whole);
      same =
          ap (λ l. filter (λ p. passes p.silo) l) c.take_out_of.ensures.kept ∙ passing_stay passes before silo gone
          ∙ c.loop-silo.invariant.same;
      left =
          subst (λ (l : List Point). AreLeft passes l (keys_of c.next.new.self)) (sym c.take_out_of.ensures.kept)
          (left_without passes before silo (keys_of c.next.new.self)
          (subst (λ (es : List (Silo × List ℕ)). AreLeft passes before (keys_of es)) c.in-Some.ensures.steps c.loop-silo.invariant.left));
      len = omega arith;
      room = c.take_out_of.ensures.room ∙ c.loop-silo.invariant.room;
    }

pub returns-clause-kept : goal.returns-clause-kept
returns-clause-kept c =
    let passes = is_active_in c.args.view.now in
    let after : List Point = c.loop-silo.points.items in
    sym (none_left passes after (subst (λ (es : List (Silo × List ℕ)). AreLeft passes after (keys_of es)) c.in-None.ensures.steps.0
    c.loop-silo.invariant.left))
    ∙ c.loop-silo.invariant.same

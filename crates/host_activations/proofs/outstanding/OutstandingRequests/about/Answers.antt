use Rattle.std.proofs.Common.{◌≡◌, ap, sym, subst, ◌∙◌, map}
use Rattle.std.specs.BTreeMap.{insert_entry}
use Rattle.std.specs.BTreeMap.Range.{entries_between}
use Rattle.std.specs.List.Sorted.{IsStrictlySortedBy}
use Rattle.std.specs.Ordering.{is_gt, nat_cmp}
use Rattle.std.specs.declared.ops.Bound.TheVariants.{Included}
use Rattle.std.proofs.lemmas.Result.{IfOk-weaker}
use Rattle.host_activations.specs.Outstanding.{IsOwn, OutstandingValue, about_grain, find_key_cmp}
use Rattle.host_activations.specs.declared.asked.OutstandingRequest.TheVariants.{Activation, Find}
use Rattle.host_activations.proofs.AboutGrain.{about_are, between_are, first_to_last, finds_of, finds_rise, told_finds, with_own}
use Rattle.host_activations.proofs.outstanding.OutstandingRequests.about.Goals as goal

pub range-requires : goal.range-requires
range-requires c = (λ i. is_gt (find_key_cmp (c.first_of.ensures i) (c.last_of.ensures i))) ∙ first_to_last c.args.grain.now

pub finds_under-requires : goal.finds_under-requires
finds_under-requires c =
    let is : c.range.result ≡ finds_of c.args.grain.now c.self.inside.finds.entries =
    c.range.ensures.between tt
    ∙ (λ i. entries_between find_key_cmp (Included (c.first_of.ensures i)) (Included (c.last_of.ensures i)) c.self.inside.finds.entries)
    ∙ between_are c.self.inside.by_number.entries c.self.inside.finds.entries c.self.invariant c.args.grain.now in
    subst (λ l. IsStrictlySortedBy nat_cmp (map (λ x. x.0.number) l)) (sym is)
    (finds_rise c.self.inside.by_number.entries c.self.inside.finds.entries c.self.invariant c.args.grain.now)

pub returns-in-Some : goal.returns-in-Some
returns-in-Some c =
    let is : c.range.result ≡ finds_of c.args.grain.now c.self.inside.finds.entries =
    c.range.ensures.between tt
    ∙ (λ i. entries_between find_key_cmp (Included (c.first_of.ensures i)) (Included (c.last_of.ensures i)) c.self.inside.finds.entries)
    ∙ between_are c.self.inside.by_number.entries c.self.inside.finds.entries c.self.invariant c.args.grain.now in
    IfOk-weaker c.with_activation.result _ _
    (λ about told. told
    ∙ ap (λ l. insert_entry nat_cmp l c.in-Some.number (Activation c.args.grain.now))
    (c.in_ok-finds.ensures ∙ ap (λ l. map (λ x. (x.0.number, Find c.args.grain.now)) l) is)
    ∙ ap (λ o. with_own o c.args.grain.now (told_finds c.args.grain.now c.self.inside.finds.entries)) (sym c.in-Some.is)
    ∙ about_are c.self.inside.by_number.entries c.self.inside.finds.entries c.self.invariant c.args.grain.now c.args.own
    (subst (λ (v : OutstandingValue). IsOwn c.args.own c.args.grain.now v.entries) (sym c.self.view_is) c.requires)
    ∙ ap (λ (v : OutstandingValue). about_grain c.args.grain.now v.entries) c.self.view_is)
    c.with_activation.ensures

pub returns-in-None : goal.returns-in-None
returns-in-None c =
    let is : c.range.result ≡ finds_of c.args.grain.now c.self.inside.finds.entries =
    c.range.ensures.between tt
    ∙ (λ i. entries_between find_key_cmp (Included (c.first_of.ensures i)) (Included (c.last_of.ensures i)) c.self.inside.finds.entries)
    ∙ between_are c.self.inside.by_number.entries c.self.inside.finds.entries c.self.invariant c.args.grain.now in
    c.in_ok-finds.ensures
    ∙ ap (λ l. map (λ x. (x.0.number, Find c.args.grain.now)) l) is
    ∙ ap (λ o. with_own o c.args.grain.now (told_finds c.args.grain.now c.self.inside.finds.entries)) (sym c.in-None.is)
    ∙ about_are c.self.inside.by_number.entries c.self.inside.finds.entries c.self.invariant c.args.grain.now c.args.own
    (subst (λ (v : OutstandingValue). IsOwn c.args.own c.args.grain.now v.entries) (sym c.self.view_is) c.requires)
    ∙ ap (λ (v : OutstandingValue). about_grain c.args.grain.now v.entries) c.self.view_is

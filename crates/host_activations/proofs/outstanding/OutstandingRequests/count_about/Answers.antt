use Rattle.std.proofs.Common.{◌≡◌, ap, sym, subst, ◌∙◌, ◌+◌, length, add-zero}
use Rattle.std.specs.BTreeMap.Range.{entries_between}
use Rattle.std.specs.Ordering.{is_gt}
use Rattle.std.specs.declared.ops.Bound.TheVariants.{Included}
use Rattle.host_activations.specs.Outstanding.{IsOwn, OutstandingValue, about_grain, find_key_cmp}
use Rattle.host_activations.proofs.AboutGrain.{about_count, between_are, count_own, finds_of, first_to_last}
use Rattle.host_activations.proofs.FindsByGrain.{Keys}
use Rattle.host_activations.proofs.outstanding.OutstandingRequests.count_about.Goals as goal

pub range-requires : goal.range-requires
range-requires c = (λ i. is_gt (find_key_cmp (c.first_of.ensures i) (c.last_of.ensures i))) ∙ first_to_last c.args.grain.now

pub returns-in-Some : goal.returns-in-Some
returns-in-Some c =
    let is : c.range.result ≡ finds_of c.args.grain.now c.self.inside.finds.entries =
    c.range.ensures.between tt
    ∙ (λ i. entries_between find_key_cmp (Included (c.first_of.ensures i)) (Included (c.last_of.ensures i)) c.self.inside.finds.entries)
    ∙ between_are c.self.inside.by_number.entries c.self.inside.finds.entries c.self.invariant c.args.grain.now in
    ap (λ n. n + 1) (c.count_of-finds.ensures ∙ ap (λ (l : Keys). length l) is)
    ∙ ap (λ o. length (finds_of c.args.grain.now c.self.inside.finds.entries) + count_own o) (sym c.in-Some.is)
    ∙ about_count c.self.inside.by_number.entries c.self.inside.finds.entries c.self.invariant c.args.grain.now c.args.own
    (subst (λ (v : OutstandingValue). IsOwn c.args.own c.args.grain.now v.entries) (sym c.self.view_is) c.requires)
    ∙ ap (λ (v : OutstandingValue). length (about_grain c.args.grain.now v.entries)) c.self.view_is

pub returns-in-None : goal.returns-in-None
returns-in-None c =
    let is : c.range.result ≡ finds_of c.args.grain.now c.self.inside.finds.entries =
    c.range.ensures.between tt
    ∙ (λ i. entries_between find_key_cmp (Included (c.first_of.ensures i)) (Included (c.last_of.ensures i)) c.self.inside.finds.entries)
    ∙ between_are c.self.inside.by_number.entries c.self.inside.finds.entries c.self.invariant c.args.grain.now in
    c.count_of-finds.ensures
    ∙ ap (λ (l : Keys). length l) is
    ∙ sym (add-zero (length (finds_of c.args.grain.now c.self.inside.finds.entries)))
    ∙ ap (λ o. length (finds_of c.args.grain.now c.self.inside.finds.entries) + count_own o) (sym c.in-None.is)
    ∙ about_count c.self.inside.by_number.entries c.self.inside.finds.entries c.self.invariant c.args.grain.now c.args.own
    (subst (λ (v : OutstandingValue). IsOwn c.args.own c.args.grain.now v.entries) (sym c.self.view_is) c.requires)
    ∙ ap (λ (v : OutstandingValue). length (about_grain c.args.grain.now v.entries)) c.self.view_is

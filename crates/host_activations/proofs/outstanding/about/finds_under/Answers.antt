use Rattle.std.proofs.Common.{◌≡◌, sym, ap, subst, ◌∙◌, ◌∷◌, [], ◌++◌, append_assoc, map}
use Rattle.std.specs.List.Sorted.{IsStrictlySortedBy}
use Rattle.std.specs.Map.{keys_of}
use Rattle.std.specs.Ordering.{nat_cmp}
use Rattle.host_activations.specs.declared.asked.OutstandingRequest.TheVariants.{Find}
use Rattle.host_activations.proofs.AboutGrain.{keys_told}
use Rattle.host_activations.proofs.Moved.{below_next}
use Rattle.host_activations.proofs.Ranks.{put_last}
use Rattle.host_activations.proofs.outstanding.about.finds_under.Goals as goal

pub finds-preserved : goal.finds-preserved
finds-preserved c =
    let g = c.args.grain.now in
    let taken : c.finds.key-iterator ≡ (c.in-Some.key.now, tt) ∷ c.next.new.self = c.in-Some.ensures.steps in
    let so_far : c.finds.listed.entries ++ (c.in-Some.key.now.number, Find g) ∷ map (λ x. (x.0.number, Find g)) c.next.new.self ≡ map (λ x. (x.0.number, Find g)) c.args.finds =
    ap (λ l. c.finds.listed.entries ++ map (λ x. (x.0.number, Find g)) l) (sym taken) ∙ c.finds.invariant in
    ap (λ l. l ++ map (λ x. (x.0.number, Find g)) c.next.new.self)
    (c.in_ok-insert.ensures.entries
    ∙ put_last c.finds.listed.entries c.in-Some.key.now.number (Find g)
    (below_next c.finds.listed.entries (c.in-Some.key.now.number, Find g) (map (λ x. (x.0.number, Find g)) c.next.new.self)
    (subst (IsStrictlySortedBy nat_cmp) (keys_told g c.args.finds ∙ ap keys_of (sym so_far)) c.requires)))
    ∙ append_assoc c.finds.listed.entries ((c.in-Some.key.now.number, Find g) ∷ []) (map (λ x. (x.0.number, Find g)) c.next.new.self)
    ∙ so_far

use Rattle.std.proofs.Common.{◌≡◌, refl, sym, ap, subst, ◌∙◌, ◌+◌, ◌^◌, ◌≤◌, ◌++◌, ◌∷◌, [], None, cond, Some, length, arith, rules}
use Rattle.std.specs.Map.{lookup}
use Rattle.std.specs.BTreeMap.{is_at}
use Rattle.directory_rules.specs.declared.Held.{Held}
use Rattle.directory_rules.specs.declared.Phase.TheVariants.{Asking}
use Rattle.host_activations.specs.Activations.{ActivationsValue}
use Rattle.host_activations.specs.ByHash.{hashed_count_cmp}
use Rattle.host_activations.specs.InOrder.{in_order}
use Rattle.host_activations.proofs.Changes.{at, begun_are, begun_told}
use Rattle.host_activations.proofs.Hashes.{begun_hashes}
use Rattle.host_activations.proofs.Indexed.{begun_by_hash}
use Rattle.host_activations.proofs.Ordered.{lookup_in_order}
use Rattle.host_activations.proofs.PhaseCounts.{begun_counts, begun_fits}
use Rattle.host_activations.proofs.activations.Activations.begin.Goals as goal

pub put_in-requires : goal.put_in-requires
put_in-requires c =
    sym (lookup_in_order c.args.grain c.self.inside.map c.self.invariant.begun.apart)
    ∙ ap (λ (v : ActivationsValue). at c.args.grain v.entries) c.self.view_is ∙ c.requires.new

pub with-self-inside-requires : goal.with-self-inside-requires
with-self-inside-requires c =
    let held : Held = record { count = c.self.inside.next_count; phase = Asking c.args.number; previous = c.args.previous } in
    let both = begun_fits c.self.inside.under_way c.self.inside.map c.put_in.new.map c.self.invariant.under_way (c.args.grain, held) c.in_ok-put_in.ensures.map c.len-len.result
    (omega (arith, c.len-len.ensures)) (search rules) in
    record { asking = both.0; closing = both.1 }

pub invariant_of-self-2 : goal.invariant_of-self-2
invariant_of-self-2 c =
    let held : Held = record { count = c.self.inside.next_count; phase = Asking c.args.number; previous = c.args.previous } in
    let none : at c.args.grain (in_order c.self.inside.map) ≡ None = ap (λ (v : ActivationsValue). at c.args.grain v.entries) c.self.view_is ∙ c.requires.new in
    record {
      begun = begun_are c.self.inside.next_count c.self.inside.map c.self.invariant.begun c.args.grain held none refl
          (subst (λ (v : ActivationsValue). v.next_count ≤ 2 ^ 60) (sym c.self.view_is) c.requires.count) c.put_in.new.map
          c.in_ok-put_in.ensures.map c.apart.ensures;
      under_way =
          c.with-self-inside.ensures ∙ begun_counts c.self.inside.under_way c.self.inside.map c.put_in.new.map c.self.invariant.under_way
          (c.args.grain, held) c.in_ok-put_in.ensures.map;
      are_hashes =
          begun_hashes c.self.inside.hashing c.self.inside.map c.self.inside.hashes.items c.self.invariant.are_hashes c.args.grain held
          c.put_in.new.map c.in_ok-put_in.ensures.map _ c.hash_grain.ensures _
          (c.push_reserved.ensures.items ∙ ap (λ l. l ++ c.hash_grain.result ∷ []) c.in_ok-reserve.ensures.items);
      by_hash =
          begun_by_hash c.self.inside.hashing c.self.inside.next_count c.self.inside.map c.self.inside.by_hash.entries
          c.self.invariant.begun c.self.invariant.by_hash c.args.grain held refl
          c.put_in.new.map c.in_ok-put_in.ensures.map c.put_in.new.by_hash.entries
          (λ q. c.in_ok-put_in.ensures.by_hash q
          ∙ ap (λ hash. cond (is_at (hashed_count_cmp (record { hash = hash; count = c.self.inside.next_count })) q)
          (Some (length c.self.inside.map)) (lookup (is_at (hashed_count_cmp q)) c.self.inside.by_hash.entries))
          c.hash_grain.ensures);
    }

pub returns-clause-begun : goal.returns-clause-begun
returns-clause-begun c =
    let held : Held = record { count = c.self.inside.next_count; phase = Asking c.args.number; previous = c.args.previous } in
    let none : at c.args.grain (in_order c.self.inside.map) ≡ None = ap (λ (v : ActivationsValue). at c.args.grain v.entries) c.self.view_is ∙ c.requires.new in
    (λ i. record {
      next_count = c.self.inside.next_count + 1;
      entries =
          begun_told c.self.inside.next_count c.self.inside.map c.self.invariant.begun c.args.grain held none refl c.put_in.new.map
          c.in_ok-put_in.ensures.map i;
    })
    ∙ ap (λ (v : ActivationsValue). record {
      next_count = v.next_count + 1;
      entries = v.entries ++
          (c.args.grain, record { count = v.next_count; phase = Asking c.args.number; previous = c.args.previous }) ∷ [];
    }) c.self.view_is

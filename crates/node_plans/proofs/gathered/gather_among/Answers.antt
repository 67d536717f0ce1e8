use Rattle.std.proofs.Common.{◌≡◌, sym, ap, ◌∙◌, ℕ}
use Rattle.std.specs.Option.{unwrap_or}
use Rattle.std.specs.Map.{lookup, set_value}
use Rattle.std.specs.BTreeMap.{insert_entry, is_at}
use Rattle.std.specs.Ordering.{nat_cmp}
use Rattle.std.proofs.lemmas.Map.Steps.{set_value_same}
use Rattle.ring_range.specs.Range.{Range}
use Rattle.directory_rules.specs.Gatherings.{new_gathering, with_page}
use Rattle.node_plans.proofs.Results.{on_err}
use Rattle.node_plans.proofs.Values.{insert_entry-there}
use Rattle.node_plans.proofs.gathered.gather_among.Goals as goal

pub returns-in_err-taken-clause-unchanged : goal.returns-in_err-taken-clause-unchanged
returns-in_err-taken-clause-unchanged c =
    let old = c.args.gatherings.now.entries in
    on_err c.from_residual.result
    ((c.get_mut.follows.holds c.taken.new.gathering).0
    ∙ ap (λ g. set_value (is_at (nat_cmp c.start-start.result)) old g) c.in_err-taken.ensures.unchanged
    ∙ set_value_same (is_at (nat_cmp c.start-start.result)) old c.in-Some.gathering.now (sym c.in-Some.ensures.value))

pub returns-in-Some-clause-made : goal.returns-in-Some-clause-made
returns-in-Some-clause-made c =
    let old = c.args.gatherings.now.entries in
    let page = c.args.page.now in
    let its = c.in-Some.gathering.now in
    let start : c.start-start.result ≡ page.range.start = c.start-start.ensures ∙ ap (λ (r : Range). r.start) c.range.ensures in
    let there = ap (λ (s : ℕ). lookup (is_at (nat_cmp s)) old) (sym start) ∙ sym c.in-Some.ensures.value in
    (c.get_mut.follows.holds c.taken.new.gathering).0
    ∙ ap (λ g. set_value (is_at (nat_cmp c.start-start.result)) old g) c.in_ok-taken.ensures.made
    ∙ ap (λ (s : ℕ). set_value (is_at (nat_cmp s)) old (with_page its page)) start
    ∙ sym (insert_entry-there page.range.start (with_page its page) its old c.get_mut.ensures.ordered there)
    ∙ ap (λ o. insert_entry nat_cmp old page.range.start (with_page (unwrap_or o (new_gathering c.args.version page.range)) page))
    (sym there)

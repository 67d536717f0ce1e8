use Rattle.std.proofs.Common.{◌≡◌, refl, sym, ap, ◌∙◌, ℕ, Some}
use Rattle.std.specs.Map.{lookup, set_value}
use Rattle.std.specs.BTreeMap.{is_at}
use Rattle.std.specs.Ordering.{nat_cmp}
use Rattle.std.proofs.lemmas.Map.Steps.{set_value_same}
use Rattle.directory_rules.specs.State.{Recovery}
use Rattle.range_recovery.specs.Progress.{nothing_of}
use Rattle.node_plans.proofs.TakenReports.{refused_by}
use Rattle.node_plans.proofs.recoveries.take_nothing.Goals as goal

pub returns-in-Err : goal.returns-in-Err
returns-in-Err c =
    let old = c.args.recoveries.now.entries in
    let its = c.in-Some.recovery.now in
    let report = nothing_of c.args.version c.args.range c.args.silo in
    let there = sym c.in-Some.ensures.value in
    let same = (c.get_mut.follows.holds c.take_nothing.new.self).0 ∙ ap (λ r. set_value (is_at (nat_cmp c.start.result)) old r) c.in-Err.ensures.unchanged ∙ set_value_same (is_at (nat_cmp c.start.result)) old its there in
    let is : (recovery : Recovery) → lookup (is_at (nat_cmp c.args.range.start)) old ≡ Some recovery → recovery ≡ its = λ recovery found. cc (found, ap (λ (s : ℕ). lookup (is_at (nat_cmp s)) old) (sym c.start.ensures) ∙ there) in
    record {
      complete = λ recovery found. (refused_by recovery its report old _ c.in-Err.field-0 c.in-Err.ensures.refused (is recovery found) same).0;
      taken = λ recovery found. (refused_by recovery its report old _ c.in-Err.field-0 c.in-Err.ensures.refused (is recovery found) same).1;
      absent = λ none. refl;
      left = λ none. same;
      in_order = c.get_mut.ensures.ordered;
    }

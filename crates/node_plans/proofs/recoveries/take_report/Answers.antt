use Rattle.std.proofs.Common.{◌≡◌, refl, sym, subst, ap, ◌∙◌, ℕ, Some}
use Rattle.std.specs.Map.{lookup, set_value}
use Rattle.std.specs.BTreeMap.{is_at}
use Rattle.std.specs.Ordering.{nat_cmp}
use Rattle.std.proofs.lemmas.Map.Steps.{set_value_same}
use Rattle.ring_range.specs.Range.{Range}
use Rattle.directory_rules.specs.State.{Recovery}
use Rattle.range_recovery.specs.Progress.{RefusesOrLacksMemory}
use Rattle.node_plans.proofs.TakenReports.{refused_is}
use Rattle.node_plans.proofs.recoveries.take_report.Goals as goal

pub returns-in-Err-WrongVersion : goal.returns-in-Err-WrongVersion
returns-in-Err-WrongVersion c =
    let old = c.args.recoveries.now.entries in
    let its = c.in-Some.recovery.now in
    let start : c.start.result ≡ c.args.report.now.range.start = c.start.ensures ∙ ap (λ (r : Range). r.start) c.range.ensures in
    let there = sym c.in-Some.ensures.value in
    let same = (c.get_mut.follows.holds c.take.new.self).0 ∙ ap (λ r. set_value (is_at (nat_cmp c.start.result)) old r) c.in-Err-WrongVersion.ensures.unchanged ∙ set_value_same (is_at (nat_cmp c.start.result)) old its there in
    let refused = subst (λ f. RefusesOrLacksMemory its c.args.report.now f) c.in-Err-WrongVersion.field-0-is c.in-Err-WrongVersion.ensures.refused in
    let is : (recovery : Recovery) → lookup (is_at (nat_cmp c.args.report.now.range.start)) old ≡ Some recovery → recovery ≡ its = λ recovery found. cc (found, ap (λ (s : ℕ). lookup (is_at (nat_cmp s)) old) (sym start) ∙ there) in
    record {
      complete = λ recovery found. (refused_is recovery its c.args.report.now old _ 751 refused (is recovery found) same).0;
      taken = λ recovery found. (refused_is recovery its c.args.report.now old _ 751 refused (is recovery found) same).1;
      absent = λ none. refl;
      left = λ none. same;
      unchanged = tt;
      in_order = c.get_mut.ensures.ordered;
    }

pub returns-in-Err-Stranger : goal.returns-in-Err-Stranger
returns-in-Err-Stranger c =
    let old = c.args.recoveries.now.entries in
    let its = c.in-Some.recovery.now in
    let start : c.start.result ≡ c.args.report.now.range.start = c.start.ensures ∙ ap (λ (r : Range). r.start) c.range.ensures in
    let there = sym c.in-Some.ensures.value in
    let same = (c.get_mut.follows.holds c.take.new.self).0 ∙ ap (λ r. set_value (is_at (nat_cmp c.start.result)) old r) c.in-Err-Stranger.ensures.unchanged ∙ set_value_same (is_at (nat_cmp c.start.result)) old its there in
    let refused = subst (λ f. RefusesOrLacksMemory its c.args.report.now f) c.in-Err-Stranger.field-0-is c.in-Err-Stranger.ensures.refused in
    let is : (recovery : Recovery) → lookup (is_at (nat_cmp c.args.report.now.range.start)) old ≡ Some recovery → recovery ≡ its = λ recovery found. cc (found, ap (λ (s : ℕ). lookup (is_at (nat_cmp s)) old) (sym start) ∙ there) in
    record {
      complete = λ recovery found. (refused_is recovery its c.args.report.now old _ 752 refused (is recovery found) same).0;
      taken = λ recovery found. (refused_is recovery its c.args.report.now old _ 752 refused (is recovery found) same).1;
      absent = λ none. refl;
      left = λ none. same;
      unchanged = tt;
      in_order = c.get_mut.ensures.ordered;
    }

pub returns-in-Err-Twice : goal.returns-in-Err-Twice
returns-in-Err-Twice c =
    let old = c.args.recoveries.now.entries in
    let its = c.in-Some.recovery.now in
    let start : c.start.result ≡ c.args.report.now.range.start = c.start.ensures ∙ ap (λ (r : Range). r.start) c.range.ensures in
    let there = sym c.in-Some.ensures.value in
    let same = (c.get_mut.follows.holds c.take.new.self).0 ∙ ap (λ r. set_value (is_at (nat_cmp c.start.result)) old r) c.in-Err-Twice.ensures.unchanged ∙ set_value_same (is_at (nat_cmp c.start.result)) old its there in
    let refused = subst (λ f. RefusesOrLacksMemory its c.args.report.now f) c.in-Err-Twice.field-0-is c.in-Err-Twice.ensures.refused in
    let is : (recovery : Recovery) → lookup (is_at (nat_cmp c.args.report.now.range.start)) old ≡ Some recovery → recovery ≡ its = λ recovery found. cc (found, ap (λ (s : ℕ). lookup (is_at (nat_cmp s)) old) (sym start) ∙ there) in
    record {
      complete = λ recovery found. (refused_is recovery its c.args.report.now old _ 753 refused (is recovery found) same).0;
      taken = λ recovery found. (refused_is recovery its c.args.report.now old _ 753 refused (is recovery found) same).1;
      absent = λ none. refl;
      left = λ none. same;
      unchanged = tt;
      in_order = c.get_mut.ensures.ordered;
    }

pub returns-in-Err-OutOfTurn : goal.returns-in-Err-OutOfTurn
returns-in-Err-OutOfTurn c =
    let old = c.args.recoveries.now.entries in
    let its = c.in-Some.recovery.now in
    let start : c.start.result ≡ c.args.report.now.range.start = c.start.ensures ∙ ap (λ (r : Range). r.start) c.range.ensures in
    let there = sym c.in-Some.ensures.value in
    let same = (c.get_mut.follows.holds c.take.new.self).0 ∙ ap (λ r. set_value (is_at (nat_cmp c.start.result)) old r) c.in-Err-OutOfTurn.ensures.unchanged ∙ set_value_same (is_at (nat_cmp c.start.result)) old its there in
    let refused = subst (λ f. RefusesOrLacksMemory its c.args.report.now f) c.in-Err-OutOfTurn.field-0-is c.in-Err-OutOfTurn.ensures.refused in
    let is : (recovery : Recovery) → lookup (is_at (nat_cmp c.args.report.now.range.start)) old ≡ Some recovery → recovery ≡ its = λ recovery found. cc (found, ap (λ (s : ℕ). lookup (is_at (nat_cmp s)) old) (sym start) ∙ there) in
    record {
      complete = λ recovery found. (refused_is recovery its c.args.report.now old _ 754 refused (is recovery found) same).0;
      taken = λ recovery found. (refused_is recovery its c.args.report.now old _ 754 refused (is recovery found) same).1;
      absent = λ none. refl;
      left = λ none. same;
      unchanged = tt;
      in_order = c.get_mut.ensures.ordered;
    }

pub returns-in-Err-OutOfMemory-clause-unchanged : goal.returns-in-Err-OutOfMemory-clause-unchanged
returns-in-Err-OutOfMemory-clause-unchanged c =
    let old = c.args.recoveries.now.entries in
    (c.get_mut.follows.holds c.take.new.self).0
    ∙ ap (λ r. set_value (is_at (nat_cmp c.start.result)) old r) c.in-Err-OutOfMemory.ensures.unchanged
    ∙ set_value_same (is_at (nat_cmp c.start.result)) old c.in-Some.recovery.now (sym c.in-Some.ensures.value)

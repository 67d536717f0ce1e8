use Rattle.std.proofs.Common.{◌≡◌, sym, subst, ap, ◌∙◌, ℕ}
use Rattle.std.specs.Prelude.{IfErr, IfOk, None, Ok, Some}
use Rattle.std.specs.Option.{option_copied}
use Rattle.std.specs.Map.{lookup}
use Rattle.std.specs.BTreeMap.{is_at}
use Rattle.std.specs.Ordering.{nat_cmp}
use Rattle.ring_range.specs.Range.{Range}
use Rattle.directory_node.specs.NodeModel.{node_of}
use Rattle.directory_rules.specs.State.{Recovery}
use Rattle.directory_rules.specs.Recovery.{recovered}
use Rattle.range_recovery.specs.Progress.{Refuses, progress_of}
use Rattle.node_plans.proofs.Reports.{found_is, recovers_in, its_recovery}
use Rattle.directory_node.proofs.node.Node.progress_with.Goals as goal

-- the recovery of a report that counts is there
pub unreachable-requires : goal.unreachable-requires
unreachable-requires c =
    let node = node_of c.self.inside in
    let piece = recovers_in node _ c.args.report.now.range c.self.view_is c.requires.recovers in
    let there = (its_recovery node c.args.report.now.range c.self.invariant piece).there in
    let start : c.start.result ≡ c.args.report.now.range.start = c.start.ensures ∙ ap (λ (r : Range). r.start) c.range.ensures in
    let none : lookup (is_at (nat_cmp c.args.report.now.range.start)) c.self.inside.recoveries.entries ≡ None =
    ap (λ (s : ℕ). lookup (is_at (nat_cmp s)) c.self.inside.recoveries.entries) (sym start) ∙ sym c.get.ensures.value
    ∙ ap (λ o. option_copied o) c.in_default.is in
    cc (none, there)

pub returns-clause-judged : goal.returns-clause-judged
returns-clause-judged c =
    let range = c.args.report.now.range in
    let recoveries = c.self.inside.recoveries.entries in
    let start : c.start.result ≡ range.start = c.start.ensures ∙ ap (λ (r : Range). r.start) c.range.ensures in
    let found : lookup (is_at (nat_cmp range.start)) recoveries ≡ Some c.in-Some.recovery.now =
    ap (λ (s : ℕ). lookup (is_at (nat_cmp s)) recoveries) (sym start) ∙ sym c.in-Some.ensures.value in
    let its = found_is (node_of c.self.inside) c.args.self.now range c.in-Some.recovery.now c.self.view_is found in
    subst (λ (r : Recovery). IfOk c.progress_with.result (λ p. progress_of (recovered r c.args.report.now) ≡ Ok p)) its c.progress_with.ensures.judged

pub returns-clause-refused : goal.returns-clause-refused
returns-clause-refused c =
    let range = c.args.report.now.range in
    let recoveries = c.self.inside.recoveries.entries in
    let start : c.start.result ≡ range.start = c.start.ensures ∙ ap (λ (r : Range). r.start) c.range.ensures in
    let found : lookup (is_at (nat_cmp range.start)) recoveries ≡ Some c.in-Some.recovery.now =
    ap (λ (s : ℕ). lookup (is_at (nat_cmp s)) recoveries) (sym start) ∙ sym c.in-Some.ensures.value in
    let its = found_is (node_of c.self.inside) c.args.self.now range c.in-Some.recovery.now c.self.view_is found in
    subst (λ (r : Recovery). IfErr c.progress_with.result (Refuses r c.args.report.now)) its c.progress_with.ensures.refused

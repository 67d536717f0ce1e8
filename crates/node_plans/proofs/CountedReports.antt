-- A report that is counted, in place.
use Rattle.std.proofs.Common.{◌≡◌, sym, subst, ap, ◌∙◌, ℕ, List}
use Rattle.std.specs.Prelude.{◌↔◌, Bool, true, false, cond, Some, Ok, is_ok}
use Rattle.std.specs.Ordering.{nat_cmp}
use Rattle.std.specs.Map.{keys_of, lookup, remove_entry}
use Rattle.std.specs.BTreeMap.{is_at, insert_entry}
use Rattle.directory_rules.specs.State.{Node, Recovery, Report}
use Rattle.directory_rules.specs.Recovery.{Recovered, Has_more, Awaits_more, Has_union, Rejects, recovered, with_report, new_recovery}
use Rattle.directory_rules.specs.Transfer.{recovered_by, with_settled}
use Rattle.directory_rules.specs.Sent.{recovery_of}
use Rattle.directory_rules.specs.Step.{Stepped}
use Rattle.std.specs.List.Sorted.{IsStrictlySortedBy}
use Rattle.std.specs.Option.{unwrap_or}
use Rattle.ring_range.specs.Range.{Range}
use Rattle.node_plans.proofs.Kept.{written_is_found}
use Rattle.node_plans.proofs.Values.{insert_entry-there, remove-set_value}
use Rattle.node_plans.specs.Node.{HaveRecoveries, IsNode}
use Rattle.range_recovery.specs.declared.RecoveryProgress.TheVariants.{Complete}
use Rattle.range_recovery.specs.Progress.{progress_of}
use Rattle.node_plans.proofs.TakenReports.{IsTaken, same_range, taken_is, with_taken}
use Rattle.node_plans.proofs.Reports.{RecoversPiece, its_recovery, taken_keeps}

-- what the report does to the recoveries of the node
abbrev pub Takes : Node → Report → (new : List (ℕ × Recovery)) → Bool → Type 0
Takes node report new complete =
    (r : Recovery) → lookup (is_at (nat_cmp report.range.start)) node.recoveries ≡ Some r
    → IsTaken (recovered r report) r report node.recoveries new complete

pub takes_by : (node : Node) (report : Report) (new : List (ℕ × Recovery)) (complete : Bool)
    → ((r : Recovery) → lookup (is_at (nat_cmp report.range.start)) node.recoveries ≡ Some r
    → (complete ≡ true) ↔ (progress_of (recovered r report) ≡ Ok Complete))
    → ((r : Recovery) → lookup (is_at (nat_cmp report.range.start)) node.recoveries ≡ Some r
    → new ≡ cond (is_ok (progress_of (recovered r report))) (with_taken r report node.recoveries) node.recoveries)
    → Takes node report new complete
takes_by node report new complete whole new_is = λ r there. taken_is r report node.recoveries new complete (whole r there) (new_is r there)

still_serve : (node : Node) (report : Report) (r : Recovery) (outcome : Recovered) (new : List (ℕ × Recovery)) (complete : Bool)
    → lookup (is_at (nat_cmp report.range.start)) node.recoveries ≡ Some r
    → HaveRecoveries node.holding.pieces node.recoveries → IsTaken outcome r report node.recoveries new complete
    → HaveRecoveries node.holding.pieces new
still_serve node report r (Has_more more) new complete there have is =
    subst (λ l. HaveRecoveries node.holding.pieces l) (sym is.1.1) (taken_keeps node.holding.pieces node.recoveries r report there have)
still_serve node report r (Awaits_more more) new complete there have is =
    subst (λ l. HaveRecoveries node.holding.pieces l) (sym is.1.1) (taken_keeps node.holding.pieces node.recoveries r report there have)
still_serve node report r (Has_union table) new complete there have is =
    subst (λ l. HaveRecoveries node.holding.pieces l) (sym is.1.1) (taken_keeps node.holding.pieces node.recoveries r report there have)
still_serve node report r (Rejects number) new complete there have is = subst (λ l. HaveRecoveries node.holding.pieces l) (sym is.1) have

-- the node keeps what every node keeps
pub kept_by_taking : (node : Node) (report : Report) (complete : Bool) (new : List (ℕ × Recovery)) → IsNode node
    → RecoversPiece node report.range → Takes node report new complete
    → IsNode (record node { recoveries = new })
kept_by_taking node report complete new is piece takes =
    let had = its_recovery node report.range is piece in
    record {
      cached = is.cached;
      shelved = is.shelved;
      rising = is.rising;
      recovers =
          still_serve node report had.recovery (recovered had.recovery report) new complete had.there is.recovers
          (takes had.recovery had.there);
    }

-- what comes of a report, in the rule's words
abbrev pub counted : Node → Report → Stepped
counted node report = recovered_by (recovered (recovery_of node report.range) report) report node

-- it is what comes of it by the recovery that is there
pub counted_is : (node : Node) (report : Report) (r : Recovery) → lookup (is_at (nat_cmp report.range.start)) node.recoveries ≡ Some r
    → counted node report ≡ recovered_by (recovered r report) report node
counted_is node report r there =
    ap (λ o. recovered_by (recovered (unwrap_or o (new_recovery node.view report.range)) report) report node) there

-- what was taken stands where the recovery stood
put_back : (node : Node) (report : Report) (r more : Recovery) (new : List (ℕ × Recovery))
    → IsStrictlySortedBy nat_cmp (keys_of node.recoveries) → lookup (is_at (nat_cmp report.range.start)) node.recoveries ≡ Some r
    → r.range ≡ report.range → more ≡ with_report r report → new ≡ with_taken r report node.recoveries
    → new ≡ insert_entry nat_cmp node.recoveries more.range.start more
put_back node report r more new sorted there range taken is =
    is ∙ sym (insert_entry-there report.range.start (with_report r report) r node.recoveries sorted there)
    ∙ ap (λ (x : Range). insert_entry nat_cmp node.recoveries x.start (with_report r report)) (sym (same_range r report ∙ range))
    ∙ ap (λ (m : Recovery). insert_entry nat_cmp node.recoveries m.range.start m) (sym taken)

-- its silo has more to tell, more are awaited, or nothing was taken
by_more : (node : Node) (report : Report) (r : Recovery) (outcome : Recovered) (new : List (ℕ × Recovery))
    → IsStrictlySortedBy nat_cmp (keys_of node.recoveries) → lookup (is_at (nat_cmp report.range.start)) node.recoveries ≡ Some r
    → r.range ≡ report.range → IsTaken outcome r report node.recoveries new false
    → record node { recoveries = new } ≡ (recovered_by outcome report node).node
by_more node report r (Has_more more) new sorted there range is =
    ap (λ l. record node { recoveries = l }) (put_back node report r more new sorted there range is.1.0 is.1.1)
by_more node report r (Awaits_more more) new sorted there range is =
    ap (λ l. record node { recoveries = l }) (put_back node report r more new sorted there range is.1.0 is.1.1)
by_more node report r (Has_union table) new sorted there range is = absurd (cc (is.0))
by_more node report r (Rejects number) new sorted there range is = ap (λ l. record node { recoveries = l }) is.1

pub left_by_more : (node : Node) (report : Report) (new : List (ℕ × Recovery)) → IsNode node
    → IsStrictlySortedBy nat_cmp (keys_of node.recoveries) → RecoversPiece node report.range → Takes node report new false
    → record node { recoveries = new } ≡ (counted node report).node
left_by_more node report new is sorted piece takes =
    let had = its_recovery node report.range is piece in
    by_more node report had.recovery (recovered had.recovery report) new sorted had.there (had.its_range ∙ piece.its_range)
    (takes had.recovery had.there)
    ∙ ap (λ (s : Stepped). s.node) (sym (counted_is node report had.recovery had.there))

-- all have reported
by_union : (node : Node) (report : Report) (r : Recovery) (outcome : Recovered) (new : List (ℕ × Recovery))
    → IsTaken outcome r report node.recoveries new true
    → with_settled (record node { recoveries = new }) report.range (with_report r report).gathered
    ≡ (recovered_by outcome report node).node
by_union node report r (Has_more more) new is = absurd (cc (is.0))
by_union node report r (Awaits_more more) new is = absurd (cc (is.0))
by_union node report r (Has_union table) new is =
    ap (λ l. record (with_settled node report.range (with_report r report).gathered) { recoveries = l })
    (ap (λ l. remove_entry (is_at (nat_cmp report.range.start)) l) is.1.1
    ∙ remove-set_value (is_at (nat_cmp report.range.start)) node.recoveries (with_report r report))
    ∙ ap (λ t. with_settled node report.range t) (sym is.1.0)
by_union node report r (Rejects number) new is = absurd (cc (is.0))

-- what stands there before the piece is settled is the recovery with its last report
found_union : (node : Node) (report : Report) (r : Recovery) (outcome : Recovered) (new : List (ℕ × Recovery))
    → lookup (is_at (nat_cmp report.range.start)) node.recoveries ≡ Some r
    → IsTaken outcome r report node.recoveries new true → lookup (is_at (nat_cmp report.range.start)) new ≡ Some (with_report r report)
found_union node report r (Has_more more) new there is = absurd (cc (is.0))
found_union node report r (Awaits_more more) new there is = absurd (cc (is.0))
found_union node report r (Has_union table) new there is =
    ap (λ l. lookup (is_at (nat_cmp report.range.start)) l) is.1.1
    ∙ written_is_found (is_at (nat_cmp report.range.start)) node.recoveries (with_report r report) r there
found_union node report r (Rejects number) new there is = absurd (cc (is.0))

pub left_by_union : (node after : Node) (report : Report) (new : List (ℕ × Recovery)) → IsNode node → RecoversPiece node report.range
    → Takes node report new true
    → ((r : Recovery) → lookup (is_at (nat_cmp report.range.start)) new ≡ Some r
    → after ≡ with_settled (record node { recoveries = new }) report.range r.gathered)
    → after ≡ (counted node report).node
left_by_union node after report new is piece takes settles =
    let had = its_recovery node report.range is piece in
    let taken = takes had.recovery had.there in
    settles (with_report had.recovery report) (found_union node report had.recovery (recovered had.recovery report) new had.there taken)
    ∙ by_union node report had.recovery (recovered had.recovery report) new taken
    ∙ ap (λ (s : Stepped). s.node) (sym (counted_is node report had.recovery had.there))

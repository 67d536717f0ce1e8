-- What a letter of empty ranges makes of a node: of each range nothing, or a report is taken that tells of nothing there.
use Rattle.std.proofs.Common.{◌≡◌, ◌∙◌, refl}
use Rattle.std.specs.Prelude.{Bool, true, false, cond, List, [], ◌∷◌, fold}
use Rattle.ring_range.specs.Range.{Range}
use Rattle.directory_rules.specs.State.{Table, Report_letter, Recovery, Letter, Node}
use Rattle.directory_rules.specs.Recovery.{Recovered, Has_more, Awaits_more, Has_union, Rejects, recovered}
use Rattle.directory_rules.specs.Sent.{recovery_of}
use Rattle.directory_rules.specs.declared.effect.Effect.TheVariants as effect
use Rattle.directory_rules.specs.Step.{silently}
use Rattle.directory_rules.specs.Transfer.{is_report_awaited, nothing_in, recovered_by, told_nothing, with_recovery, with_settled}
use Rattle.directory_facts.proofs.Ways.{IsReportTaken}
use Rattle.directory_facts.proofs.EachStep.{report_taken}
use Rattle.directory_facts.proofs.Collected.{TakenSo, taken_so}

-- the report as a letter of its own
abbrev pub as_report : Letter → Range → Letter
as_report letter range = record letter { body = Report_letter (nothing_in letter range) }

-- it is taken, and others are awaited still, or with it all have told all
abbrev pub CollectsNothing : Letter → Node → Range → Recovery → Type 0
CollectsNothing letter node range recovery =
    IsReportTaken node (as_report letter range) (nothing_in letter range)
    × (recovered (recovery_of node range) (nothing_in letter range) ≡ Awaits_more recovery)

abbrev pub CompletesByNothing : Letter → Node → Range → Table → Type 0
CompletesByNothing letter node range table =
    IsReportTaken node (as_report letter range) (nothing_in letter range)
    × (recovered (recovery_of node range) (nothing_in letter range) ≡ Has_union table)

module _ (letter : Letter) (node : Node) (range : Range) (P : Node → Type 0) (stays : P node)
    (collects : (recovery : Recovery) → CollectsNothing letter node range recovery → P (with_recovery node recovery))
    (completes : (table : Table) → CompletesByNothing letter node range table → P (with_settled node range table)) where
  by_recovered : (result : Recovered) → TakenSo (recovery_of node range) (nothing_in letter range) result
      → IsReportTaken node (as_report letter range) (nothing_in letter range)
      → recovered (recovery_of node range) (nothing_in letter range) ≡ result
      → P (recovered_by result (nothing_in letter range) node).node
  by_recovered (Has_more recovery) so taken is = absurd (let last = so.1 in cc (last))
  by_recovered (Awaits_more recovery) so taken is = collects recovery (taken, is)
  by_recovered (Has_union table) so taken is = completes table (taken, is)
  by_recovered (Rejects number) so taken is = stays

  by_test : (b : Bool) → is_report_awaited node letter (nothing_in letter range) ≡ b
      → P (cond b (recovered_by (recovered (recovery_of node range) (nothing_in letter range)) (nothing_in letter range) node)
      (silently node effect.Ignored)).node
  by_test true counts =
      by_recovered (recovered (recovery_of node range) (nothing_in letter range))
      (taken_so (recovery_of node range) (nothing_in letter range))
      (report_taken node (as_report letter range) (nothing_in letter range) refl counts) refl
  by_test false not = stays

  -- of one range
  pub by_nothing : P (told_nothing letter node range)
  by_nothing = by_test (is_report_awaited node letter (nothing_in letter range)) refl

-- and of one after the other
pub by_each : (letter : Letter) (P : Node → Type 0) → ((node : Node) (range : Range) → P node → P (told_nothing letter node range))
    → (ranges : List Range) (node : Node) → P node → P (fold (told_nothing letter) node ranges)
by_each letter P kept [] node is = is
by_each letter P kept (range ∷ ranges) node is = by_each letter P kept ranges (told_nothing letter node range) (kept node range is)

-- ---- all but pieces, and what is gathered and recovered for them, stays
pub record LeavesElse (before after : Node) : Type 0 where
  pub settings : after.settings ≡ before.settings
  pub view : after.view ≡ before.view
  pub ring : after.ring ≡ before.ring
  pub shelf : after.shelf ≡ before.shelf
  pub host : after.host ≡ before.host
  pub cache : after.cache ≡ before.cache
  pub seen : after.holding.seen ≡ before.holding.seen
  pub served : after.holding.served ≡ before.holding.served

left_alone : (node : Node) → LeavesElse node node
left_alone node = record {
  settings = refl;
  view = refl;
  ring = refl;
  shelf = refl;
  host = refl;
  cache = refl;
  seen = refl;
  served = refl;
}

leaves_again : (start node next : Node) → LeavesElse start node → LeavesElse node next → LeavesElse start next
leaves_again start node next is more = record {
  settings = more.settings ∙ is.settings;
  view = more.view ∙ is.view;
  ring = more.ring ∙ is.ring;
  shelf = more.shelf ∙ is.shelf;
  host = more.host ∙ is.host;
  cache = more.cache ∙ is.cache;
  seen = more.seen ∙ is.seen;
  served = more.served ∙ is.served;
}

-- a recovery is put, or a piece is settled
recovery_beside : (node : Node) (recovery : Recovery) → LeavesElse node (with_recovery node recovery)
recovery_beside node recovery = record {
  settings = refl;
  view = refl;
  ring = refl;
  shelf = refl;
  host = refl;
  cache = refl;
  seen = refl;
  served = refl;
}

settled_beside : (node : Node) (range : Range) (table : Table) → LeavesElse node (with_settled node range table)
settled_beside node range table = record {
  settings = refl;
  view = refl;
  ring = refl;
  shelf = refl;
  host = refl;
  cache = refl;
  seen = refl;
  served = refl;
}

pub one_leaves : (letter : Letter) (node : Node) (range : Range) → LeavesElse node (told_nothing letter node range)
one_leaves letter node range =
    by_nothing letter node range (LeavesElse node) (left_alone node) (λ recovery so. recovery_beside node recovery)
    (λ table so. settled_beside node range table)

pub leaves_else : (letter : Letter) (node : Node) (ranges : List Range) → LeavesElse node (fold (told_nothing letter) node ranges)
leaves_else letter start ranges =
    by_each letter (LeavesElse start)
    (λ node range is. leaves_again start node (told_nothing letter node range) is (one_leaves letter node range)) ranges start
    (left_alone start)

-- what each range keeps where the rest was left alone, all keep
pub by_each_beside : (letter : Letter) (start : Node) (P : Node → Type 0)
    → ((node : Node) (range : Range) → LeavesElse start node → P node → P (told_nothing letter node range)) → (ranges : List Range)
    → P start → P (fold (told_nothing letter) start ranges)
by_each_beside letter start P kept ranges is =
    (by_each letter (λ n. LeavesElse start n × P n)
    (λ node range so. (
      leaves_again start node (told_nothing letter node range) so.0 (one_leaves letter node range),
      kept node range so.0 so.1,
    ))
    ranges start (left_alone start, is)).1

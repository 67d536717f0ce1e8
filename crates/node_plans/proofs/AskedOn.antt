-- What is sent by a report that counts: where its silo has more to tell, one query for what stands behind the report, and else nothing.
use Rattle.std.proofs.Common.{◌≡◌, ◌≢◌, refl, sym, ap, ◌∙◌, ℕ, List, [], ◌∷◌}
use Rattle.std.specs.Prelude.{Bool, true, false, cond, not, ◌&&◌, ◌||◌, ◌==◌, Option, Some, None, IsSomeAnd, Ok}
use Rattle.std.specs.Option.{option_eq}
use Rattle.std.specs.Ordering.{is_eq}
use Rattle.std.specs.Map.{lookup}
use Rattle.std.specs.BTreeMap.{is_at}
use Rattle.std.proofs.lemmas.Bool.{and_parts}
use Rattle.std.proofs.lemmas.Cmp.{tied_itself}
use Rattle.texts.proofs.Entries.{lookup-insert_entry}
use Rattle.silo_address.specs.Grain.{Grain, grain_eq}
use Rattle.silo_address.specs.Silo.{Silo, silo_cmp}
use Rattle.silo_address.specs.declared.Entry.{Entry}
use Rattle.silo_address.proofs.Order.{silo_cmp_total}
use Rattle.silo_address.proofs.Same.{Decides-grain}
use Rattle.ring_range.specs.Range.{Range, range_eq}
use Rattle.ring_range.proofs.Same.{Decides-range}
use Rattle.directory_rules.specs.declared.Effect.TheVariants as effect
use Rattle.directory_rules.specs.State.{Letter, Node, Query_letter, Recovery, Report}
use Rattle.directory_rules.specs.Recovery.{Recovered, Has_more, Awaits_more, Has_union, Rejects, awaits_still, is_among, new_recovery, recovered, told_by, told_to, with_last, with_more}
use Rattle.directory_rules.specs.Sent.{letter_to, recovery_of}
use Rattle.directory_rules.specs.Standing.{last_grain}
use Rattle.directory_rules.specs.Step.{Stepped, silently}
use Rattle.directory_rules.specs.Transfer.{is_report_awaited, recovered_by, reported, with_recovery}
use Rattle.range_recovery.specs.declared.RecoveryError.{RecoveryError}
use Rattle.range_recovery.specs.declared.RecoveryProgress.TheVariants.{Continues, More, Complete}
use Rattle.range_recovery.specs.Numbers.{recovery_error_number}
use Rattle.range_recovery.specs.Progress.{Refuses, progress_of}
use Rattle.node_plans.proofs.CountedReports.{counted}
use Rattle.node_plans.proofs.Gatherings.{put_is_there}

-- what comes of a report, by its tests
abbrev outcome : (its asked told next last : Bool) → (all : Recovered) (more : Recovery) → Recovered
outcome its asked told next last all more =
    cond (not its) (Rejects 751) (cond (not asked) (Rejects 752) (cond told (Rejects 753) (cond (not next) (Rejects 754)
    (cond last all (Has_more more)))))

by_outcome : (its asked told next last : Bool) (all : Recovered) (more : Recovery) → progress_of all ≢ Ok Continues
    → progress_of (outcome its asked told next last all more) ≡ Ok Continues
    → (outcome its asked told next last all more ≡ Has_more more) × (its ≡ true) × (next ≡ true)
by_outcome false b c d e all more other is = absurd (cc (is))
by_outcome true false c d e all more other is = absurd (cc (is))
by_outcome true true true d e all more other is = absurd (cc (is))
by_outcome true true false false e all more other is = absurd (cc (is))
by_outcome true true false true true all more other is = absurd (other is)
by_outcome true true false true false all more other is = (refl, refl, refl)

-- a silo's last report leaves it nothing to tell
ends : (awaiting : List Silo) (recovery : Recovery) → progress_of (awaits_still awaiting recovery) ≢ Ok Continues
ends [] recovery = λ is. cc (is)
ends (silo ∷ silos) recovery = λ is. cc (is)

same_option : (one other : Option Grain) → option_eq grain_eq one other ≡ true → one ≡ other
same_option None None is = refl
same_option None (Some grain) is = absurd (cc (is))
same_option (Some grain) None is = absurd (cc (is))
same_option (Some grain) (Some other) is = ap (λ (g : Grain). Some g) ((Decides-grain grain other).0 is)

-- the silo has more to tell
record HasMore (recovery : Recovery) (report : Report) : Type 0 where
  is : recovered recovery report ≡ Has_more (with_more recovery report)
  its_range : report.range ≡ recovery.range
  next : report.after ≡ told_by report.silo recovery

has_more : (recovery : Recovery) (report : Report) → progress_of (recovered recovery report) ≡ Ok Continues → HasMore recovery report
has_more recovery report is =
    let its = (report.version == recovery.version) && range_eq report.range recovery.range in
    let next = option_eq grain_eq report.after (told_by report.silo recovery) in
    let last = with_last recovery report in
    let by = by_outcome its (is_among report.silo recovery.awaiting || is_among report.silo recovery.reported) (is_among report.silo recovery.reported) next report.last (awaits_still last.awaiting last) (with_more recovery report) (ends last.awaiting last) is in
    record {
      is = by.0;
      its_range = (Decides-range report.range recovery.range).0 (and_parts _ _ by.1).1;
      next = same_option report.after (told_by report.silo recovery) by.2;
    }

-- where there is no last grain, the entries stand behind none
behind_none : (after : Option Grain) (entries : List Entry) → last_grain after entries ≡ None → after ≡ None
behind_none after [] is = is
behind_none after (entry ∷ entries) is = absurd (let none : Some entry.grain ≡ None = behind_none (Some entry.grain) entries is in cc (none))

-- its silo has told up to the report's last grain then
told_then : (recovery : Recovery) (report : Report) → HasMore recovery report
    → told_by report.silo (with_more recovery report) ≡ last_grain report.after report.entries
told_then recovery report more = by (last_grain report.after report.entries) refl
  where
    by : (last : Option Grain) → last_grain report.after report.entries ≡ last
        → lookup (is_at (silo_cmp report.silo)) (told_to report.silo last recovery.told) ≡ last
    by None none = sym more.next ∙ behind_none report.after report.entries none
    by (Some grain) some =
        lookup-insert_entry silo_cmp_total report.silo grain report.silo recovery.told
        ∙ ap (λ r. cond (is_eq r) (Some grain) (lookup (is_at (silo_cmp report.silo)) recovery.told)) (tied_itself silo_cmp_total report.silo)

-- it is asked for what stands behind that
pub asks_on : (node : Node) (report : Report) → progress_of (recovered (recovery_of node report.range) report) ≡ Ok Continues
    → counted node report
    ≡ record {
      node = (counted node report).node;
      letters = letter_to report.silo node (Query_letter report.range (last_grain report.after report.entries)) ∷ [];
      effect = effect.More;
    }
asks_on node report is =
    let recovery = recovery_of node report.range in
    let next = with_more recovery report in
    let more = has_more recovery report is in
    let made : counted node report ≡ recovered_by (Has_more next) report node = ap (λ o. recovered_by o report node) more.is in
    let put : recovery_of (with_recovery node next) report.range ≡ next =
    ap (λ (r : Range). recovery_of (with_recovery node next) r) more.its_range
    ∙ put_is_there recovery.range.start next (new_recovery node.view recovery.range) node.recoveries in
    made
    ∙ ap (λ (after : Option Grain). record {
      node = with_recovery node next;
      letters = letter_to report.silo node (Query_letter report.range after) ∷ [];
      effect = effect.More;
    }) (ap (λ (k : Recovery). told_by report.silo k) put ∙ told_then recovery report more)
    ∙ ap (λ (s : Stepped). record {
      node = s.node;
      letters = letter_to report.silo node (Query_letter report.range (last_grain report.after report.entries)) ∷ [];
      effect = effect.More;
    }) (sym made)

-- a report after which others are awaited sends nothing, nor does the last one of all
by_more : (outcome : Recovered) (report : Report) (node : Node) → progress_of outcome ≡ Ok More
    → recovered_by outcome report node ≡ record { node = (recovered_by outcome report node).node; letters = []; effect = effect.More }
by_more (Has_more recovery) report node is = absurd (cc (is))
by_more (Awaits_more recovery) report node is = refl
by_more (Has_union table) report node is = absurd (cc (is))
by_more (Rejects number) report node is = absurd (cc (is))

by_union : (outcome : Recovered) (report : Report) (node : Node) → progress_of outcome ≡ Ok Complete
    → recovered_by outcome report node ≡ record { node = (recovered_by outcome report node).node; letters = []; effect = effect.Complete }
by_union (Has_more recovery) report node is = absurd (cc (is))
by_union (Awaits_more recovery) report node is = absurd (cc (is))
by_union (Has_union table) report node is = refl
by_union (Rejects number) report node is = absurd (cc (is))

pub awaits_others : (node : Node) (report : Report) → progress_of (recovered (recovery_of node report.range) report) ≡ Ok More
    → counted node report ≡ record { node = (counted node report).node; letters = []; effect = effect.More }
awaits_others node report is = by_more (recovered (recovery_of node report.range) report) report node is

pub completes : (node : Node) (report : Report) → progress_of (recovered (recovery_of node report.range) report) ≡ Ok Complete
    → counted node report ≡ record { node = (counted node report).node; letters = []; effect = effect.Complete }
completes node report is = by_union (recovered (recovery_of node report.range) report) report node is

-- and one that is refused changes nothing
pub refuses : (node : Node) (report : Report) (fault : RecoveryError) → Refuses (recovery_of node report.range) report fault
    → counted node report ≡ silently node effect.Ignored
refuses node report fault refused = by (recovery_error_number fault) refused
  where
    by : (number : Option ℕ) → IsSomeAnd number (λ n. recovered (recovery_of node report.range) report ≡ Rejects n)
        → counted node report ≡ silently node effect.Ignored
    by None none = absurd none
    by (Some n) is = ap (λ o. recovered_by o report node) is

-- what comes of a report that counts
pub counted_so : (node : Node) (letter : Letter) (report : Report) → is_report_awaited node letter report ≡ true
    → reported node letter report ≡ counted node report
counted_so node letter report awaited = ap (λ b. cond b (counted node report) (silently node effect.Ignored)) awaited

-- and of one that doesn't
pub ignored_so : (node : Node) (letter : Letter) (report : Report) → is_report_awaited node letter report ≡ false
    → reported node letter report ≡ silently node effect.Ignored
ignored_so node letter report ignored = ap (λ b. cond b (counted node report) (silently node effect.Ignored)) ignored

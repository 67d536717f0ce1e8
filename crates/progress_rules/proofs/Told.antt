-- How far silos have told: what a report makes of that, in a recovery and at the node that has it.
use Rattle.std.proofs.Common.{◌≡◌, ◌≢◌, refl, sym, ap, subst, ◌∙◌, ℕ, List, [], ◌∷◌, ◌⊎◌, inl, inr}
use Rattle.std.specs.Prelude.{true, ◌==◌, not, nat_lt, filter, length, Option, Some, None}
use Rattle.std.specs.Option.{unwrap_or}
use Rattle.std.specs.Ordering.{nat_cmp}
use Rattle.std.specs.Map.{lookup}
use Rattle.std.specs.BTreeMap.{is_at, insert_entry}
use Rattle.std.proofs.lemmas.Bool.{eqb-true, eqb-false}
use Rattle.std.proofs.lemmas.Cmp.{nat_cmp_total}
use Rattle.std.proofs.lemmas.Map.Lookups.{exact_unsigned}
use Rattle.silo_address.specs.Silo.{Silo, silo_cmp, silo_eq}
use Rattle.silo_address.specs.Grain.{Grain}
use Rattle.silo_address.specs.declared.Entry.{Entry}
use Rattle.silo_address.proofs.Order.{silo_cmp_total, silo_cmp_exact}
use Rattle.ring_range.specs.Range.{Range}
use Rattle.directory_rules.specs.State.{Piece, Report, Recovery, Letter, Node}
use Rattle.directory_rules.specs.Standing.{stands_behind, rise_behind, last_grain}
use Rattle.directory_rules.specs.Recovery.{new_recovery, is_among, told_by, told_to, with_more, with_last}
use Rattle.directory_rules.specs.Sent.{recovery_of}
use Rattle.directory_rules.specs.Transfer.{with_recovery}
use Rattle.directory_rules.proofs.Cases.{on_bool}
use Rattle.directory_rules.proofs.Standings.{not_behind_itself, behind_both, rise_parts}
use Rattle.directory_facts.proofs.Lookups.{found_put, found_beside_put, found_beside_removed}
use Rattle.directory_facts.proofs.Ways.{IsReportTaken}
use Rattle.progress_rules.specs.Waits.{Recovers, Awaits, IsFurther, IsUpTo}
use Rattle.progress_rules.proofs.Waits.{struck_out, recovering_piece, awaited_still}

-- ---- further
module _ (hash : Grain → ℕ) (range : Range) where
  pub not_further_itself : (told : Option Grain) → IsFurther hash range told told → ⊥
  not_further_itself None is = is
  not_further_itself (Some grain) is = let itself = not_behind_itself hash (range ∷ []) grain in cc (is, itself)

  pub further_both : (one two three : Option Grain) → IsFurther hash range one two → IsFurther hash range two three
      → IsFurther hash range one three
  further_both one None three is on = absurd is
  further_both one (Some two) None is on = absurd on
  further_both one (Some two) (Some three) is on = behind_both hash (range ∷ []) one two three is on

  pub up_to_both : (one two three : Option Grain) → IsUpTo hash range one two → IsUpTo hash range two three → IsUpTo hash range one three
  up_to_both one two three (inl same) (inl still) = inl (still ∙ same)
  up_to_both one two three (inl same) (inr on) = inr (subst (λ o. IsFurther hash range o three) same on)
  up_to_both one two three (inr is) (inl still) = inr (subst (λ o. IsFurther hash range one o) (sym still) is)
  up_to_both one two three (inr is) (inr on) = inr (further_both one two three is on)

  pub further_up_to : (one two three : Option Grain) → IsFurther hash range one two → IsUpTo hash range two three
      → IsFurther hash range one three
  further_up_to one two three is (inl still) = subst (λ o. IsFurther hash range one o) (sym still) is
  further_up_to one two three is (inr on) = further_both one two three is on

  pub up_to_further : (one two three : Option Grain) → IsUpTo hash range one two → IsFurther hash range two three
      → IsFurther hash range one three
  up_to_further one two three (inl same) on = subst (λ o. IsFurther hash range o three) same on
  up_to_further one two three (inr is) on = further_both one two three is on

  further_from : (after : Option Grain) (grain : Grain) (es : List Entry) → stands_behind hash (range ∷ []) after grain ≡ true
      → rise_behind hash (range ∷ []) (Some grain) es ≡ true → IsFurther hash range after (last_grain (Some grain) es)
  further_from after grain [] is rises = is
  further_from after grain (e ∷ es) is rises =
      let so = rise_parts hash (range ∷ []) (Some grain) e es rises in
      further_from after e.grain es (behind_both hash (range ∷ []) after grain e.grain is so.0) so.1

  -- the last of some entries that rise behind a grain stands behind that
  pub further_last : (after : Option Grain) (es : List Entry) → rise_behind hash (range ∷ []) after es ≡ true
      → nat_lt 0 (length es) ≡ true → IsFurther hash range after (last_grain after es)
  further_last after [] rises some = absurd (cc (some))
  further_last after (e ∷ es) rises some =
      let so = rise_parts hash (range ∷ []) after e es rises in further_from after e.grain es so.0 so.1

-- where nothing was the last, nothing was in front
last_none : (after : Option Grain) (es : List Entry) → last_grain after es ≡ None → after ≡ None
last_none after [] is = is
last_none after (e ∷ es) is = let none : Some e.grain ≡ None = last_none (Some e.grain) es is in absurd (cc (none))

-- ---- in a recovery
module _ (recovery : Recovery) (report : Report) where
  abbrev pub last_told : Option Grain
  last_told = last_grain report.after report.entries

  pub told_on : report.after ≡ told_by report.silo recovery → told_by report.silo (with_more recovery report) ≡ last_told
  told_on goes_on = by last_told refl
    where
      by : (o : Option Grain) → last_told ≡ o → lookup (is_at (silo_cmp report.silo)) (told_to report.silo o recovery.told) ≡ o
      by None is = sym goes_on ∙ last_none report.after report.entries is
      by (Some grain) is = found_put silo_cmp silo_cmp_total silo_cmp_exact report.silo grain recovery.told

  pub others_on : (silo : Silo) → silo ≢ report.silo → told_by silo (with_more recovery report) ≡ told_by silo recovery
  others_on silo apart = by last_told
    where
      by : (o : Option Grain) → lookup (is_at (silo_cmp silo)) (told_to report.silo o recovery.told) ≡ told_by silo recovery
      by None = refl
      by (Some grain) = found_beside_put silo_cmp silo_cmp_total silo_cmp_exact report.silo grain recovery.told silo apart

  -- who is left after a last report is another, and has told as much as before
  pub left_apart : (silo : Silo) → is_among silo (with_last recovery report).awaiting ≡ true → silo ≢ report.silo
  left_apart silo left same =
      let out = struck_out report.silo recovery.awaiting in
      let in_it = subst (λ s. is_among s (filter (λ x. not (silo_eq x report.silo)) recovery.awaiting) ≡ true) same left in
      cc (out, in_it)

  pub others_left : (silo : Silo) → silo ≢ report.silo → told_by silo (with_last recovery report) ≡ told_by silo recovery
  others_left silo apart = found_beside_removed silo_cmp silo_cmp_total silo_cmp_exact report.silo recovery.told silo apart

-- ---- at the node, with a recovery in place of the one that it had for the range
module _ (node : Node) (range : Range) (next : Recovery) (same_range : next.range ≡ range) where
  pub put : recovery_of (with_recovery node next) range ≡ next
  put =
      ap (λ start. unwrap_or (lookup (is_at (nat_cmp range.start)) (insert_entry nat_cmp node.recoveries start next))
      (new_recovery node.view range)) (ap (λ (r : Range). r.start) same_range)
      ∙ ap (λ o. unwrap_or o (new_recovery node.view range))
      (found_put nat_cmp nat_cmp_total exact_unsigned range.start next node.recoveries)

  pub beside : (other : Range) → other.start ≢ range.start → recovery_of (with_recovery node next) other ≡ recovery_of node other
  beside other apart =
      ap (λ o. unwrap_or o (new_recovery node.view other))
      (found_beside_put nat_cmp nat_cmp_total exact_unsigned next.range.start next node.recoveries other.start
      (subst (λ k. other.start ≢ k) (ap (λ (r : Range). r.start) (sym same_range)) apart))

-- a range that recovers is the report's, or what it had been reported stays
module _ (node : Node) (letter : Letter) (report : Report) (taken : IsReportTaken node letter report) (next : Recovery)
    (same_range : next.range ≡ report.range) where
  one_range : (other : Range) → Recovers node other → other.start ≡ report.range.start → report.range ≡ other
  one_range other recovers same =
      let has = recovering_piece node other recovers in
      let found : lookup (is_at (nat_cmp report.range.start)) node.holding.pieces ≡ Some has.piece = subst (λ k. lookup (is_at (nat_cmp k)) node.holding.pieces ≡ Some has.piece) same has.found in
      let at = taken.has.found in
      let one : taken.piece ≡ has.piece = cc (at, found) in
      sym taken.has.same ∙ ap (λ (p : Piece). p.range) one ∙ has.same

  pub put_or_beside : (other : Range) → Recovers node other
      → (report.range ≡ other) ⊎ (recovery_of (with_recovery node next) other ≡ recovery_of node other)
  put_or_beside other recovers =
      on_bool (λ b. (other.start == report.range.start) ≡ b
      → (report.range ≡ other) ⊎ (recovery_of (with_recovery node next) other ≡ recovery_of node other))
      (other.start == report.range.start)
      (λ t is. inl (one_range other recovers (eqb-true other.start report.range.start is)))
      (λ f is. inr (beside node report.range next same_range other (eqb-false other.start report.range.start is))) refl

  -- who is awaited then was awaited before, where that is so in the recovery
  pub put_awaits : ((silo : Silo) → is_among silo next.awaiting ≡ true → is_among silo (recovery_of node report.range).awaiting ≡ true)
      → (other : Range) (silo : Silo) → Awaits (with_recovery node next) other silo → Awaits node other silo
  put_awaits was other silo waits =
      elim (put_or_beside other waits.recovers) [
        | inl same ↦ subst (λ (r : Range). Awaits (with_recovery node next) r silo → Awaits node r silo) same (λ its. record {
          recovers = its.recovers;
          among = was silo (ap (λ (r : Recovery). is_among silo r.awaiting) (sym (put node report.range next same_range)) ∙ its.among);
        }) waits
        | inr still ↦ awaited_still node (with_recovery node next) other silo refl still waits
      ]

  -- a silo that has told as much there as before has told as much in each range
  pub put_told : (silo : Silo) → told_by silo next ≡ told_by silo (recovery_of node report.range) → (other : Range) → Recovers node other
      → told_by silo (recovery_of (with_recovery node next) other) ≡ told_by silo (recovery_of node other)
  put_told silo as_much other recovers =
      elim (put_or_beside other recovers) [
        | inl same ↦ subst (λ (r : Range). told_by silo (recovery_of (with_recovery node next) r) ≡ told_by silo (recovery_of node r)) same
            (ap (λ (r : Recovery). told_by silo r) (put node report.range next same_range) ∙ as_much)
        | inr still ↦ ap (λ (r : Recovery). told_by silo r) still
      ]

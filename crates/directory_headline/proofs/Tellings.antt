-- What a report makes of a recovery: its silo has told all, or up to the report's last entry.
use Rattle.std.proofs.Common.{◌≡◌, ◌≢◌, ◌⊎◌, ℕ, List, [], ◌∷◌, inl, inr, refl, sym, ap, subst, ◌∙◌}
use Rattle.std.specs.Prelude.{◌&&◌, ◌||◌, All, Bool, true, false, not, filter, Option, Some, None}
use Rattle.std.specs.Ordering.{nat_cmp}
use Rattle.std.specs.Map.{lookup, remove_entry}
use Rattle.std.specs.BTreeMap.{is_at}
use Rattle.std.specs.BTreeSet.{insert_key}
use Rattle.std.proofs.lemmas.Bool.{and_from, not-true, not_from_false}
use Rattle.std.proofs.lemmas.List.Elements.{All-map}
use Rattle.std.proofs.lemmas.Map.Lookups.{exact_unsigned}
use Rattle.silo_address.specs.Silo.{Silo, silo_cmp, silo_eq}
use Rattle.silo_address.specs.Grain.{Grain}
use Rattle.silo_address.specs.declared.Entry.{Entry}
use Rattle.silo_address.proofs.Order.{silo_cmp_total, silo_cmp_exact}
use Rattle.directory_protocol.specs.Setting.{Setting}
use Rattle.directory_protocol.specs.Letters as letters
use Rattle.directory_protocol.specs.World as protocol
use Rattle.directory_protocol.proofs.Changes.{silo_cases}
use Rattle.directory_rules.specs.declared.effect.Effect.TheVariants as effect
use Rattle.directory_rules.specs.Table.{table_of}
use Rattle.directory_rules.specs.State.{Report, Recovery, Letter, Node}
use Rattle.directory_rules.specs.Standing.{stands_behind, last_grain}
use Rattle.directory_rules.specs.Recovery.{Has_more, Awaits_more, is_among, told_by, told_to, with_more, with_last, recovered}
use Rattle.directory_rules.specs.Sent.{query_to, recovery_of}
use Rattle.directory_rules.specs.Step.{Stepped, silently}
use Rattle.directory_rules.specs.Transfer.{querying_on, with_recovery}
use Rattle.directory_rules.proofs.Cases.{on_bool}
use Rattle.directory_rules.proofs.Standings.{behind_last, none_behind_last}
use Rattle.directory_facts.proofs.Collected.{IsTaken, TakenSo, taken_so}
use Rattle.directory_facts.proofs.Entries.{all_put}
use Rattle.directory_facts.proofs.Lookups.{found_put, found_beside_put, found_beside_removed}
use Rattle.directory_facts.proofs.StandingEntries.{keyed}
use Rattle.directory_facts.proofs.Ways.{IsReportTaken}
use Rattle.directory_headline.specs.SiloState.{state_of}
use Rattle.directory_headline.specs.Shown.{IsShownLetter, IsShownNode, IsShownReport, IsShownRecovery, has_told, tells_of}
use Rattle.directory_headline.proofs.Awaited.{among_rest, not_gone, others_as_before}
use Rattle.directory_headline.proofs.TableEntries.{found_holds}
use Rattle.directory_headline.proofs.Reports.{IsSound, rises, told_then, GoesOn, next_shown, recovery_shown, report_sound}
use Rattle.directory_headline.proofs.Stands.{Stands}
use Rattle.directory_headline.proofs.Frame.{Moves, stays, no_letters, one_letter}

-- where nothing was the last, nothing was in front
last_none : (after : Option Grain) (es : List Entry) → last_grain after es ≡ None → after ≡ None
last_none after [] is = is
last_none after (e ∷ es) is = let none : Some e.grain ≡ None = last_none (Some e.grain) es is in absurd (cc (none))

or_other : (a b : Bool) → b ≡ true → (a || b) ≡ true
or_other true b is = refl
or_other false b is = is

module _ (m : Setting) (sent : List letters.Report) (recovery : Recovery) (report : Report) (was : IsShownRecovery m sent recovery)
    (taken : IsTaken recovery report) (sound : IsSound m.hash report) (shown : IsShownReport m.hash sent report) where
  abbrev behind : Option Grain → Grain → Bool
  behind after grain = stands_behind m.hash (recovery.range ∷ []) after grain

  -- of what the report tells, in the range that is recovered
  tells_is : (grain : Grain)
      → tells_of m.hash report grain ≡ (behind report.after grain && (report.last || not (behind (last_grain report.after report.entries) grain)))
  tells_is grain =
      ap (λ r. stands_behind m.hash (r ∷ []) report.after grain
      && (report.last || not (stands_behind m.hash (r ∷ []) (last_grain report.after report.entries) grain))) taken.range

  -- a grain that the silo hasn't told of, and that the report tells of, or that it has told of before
  news_of : (grain : Grain) → (report.last || not (behind (last_grain report.after report.entries) grain)) ≡ true
      → (has_told m.hash recovery report.silo grain ≡ true) ⊎ ((report.silo ≡ report.silo) × (tells_of m.hash report grain ≡ true))
  news_of grain upto =
      on_bool (λ b. behind report.after grain ≡ b
      → (has_told m.hash recovery report.silo grain ≡ true) ⊎ ((report.silo ≡ report.silo) × (tells_of m.hash report grain ≡ true)))
      (behind report.after grain)
      (λ t is. inr (
        refl,
        tells_is grain
            ∙ and_from (behind report.after grain) (report.last || not (behind (last_grain report.after report.entries) grain)) is upto,
      ))
      (λ f is. inl (told_then m sent recovery report was taken sound shown grain ∙ not_from_false (behind report.after grain) is))
      refl

  -- ---- the last report
  abbrev left : List Silo
  left = filter (λ silo. not (silo_eq silo report.silo)) recovery.awaiting

  told_of_all : (grain : Grain) → has_told m.hash (with_last recovery report) report.silo grain ≡ true
  told_of_all grain =
      ap (λ b. not b || not (behind (told_by report.silo (with_last recovery report)) grain)) (not_gone report.silo recovery.awaiting)

  others_told : (silo : Silo) (grain : Grain) → silo ≢ report.silo
      → has_told m.hash (with_last recovery report) silo grain ≡ has_told m.hash recovery silo grain
  others_told silo grain apart =
      ap (λ b. not b || not (behind (told_by silo (with_last recovery report)) grain))
      (others_as_before silo report.silo recovery.awaiting apart)
      ∙ ap (λ o. not (is_among silo recovery.awaiting) || not (behind o grain))
      (found_beside_removed silo_cmp silo_cmp_total silo_cmp_exact report.silo recovery.told silo apart)

  last_goes_on : report.last ≡ true
      → GoesOn m sent recovery report was taken sound shown left (insert_key silo_cmp recovery.reported report.silo)
      (remove_entry (is_at (silo_cmp report.silo)) recovery.told)
  last_goes_on last = record {
    awaits = λ silo is. among_rest silo report.silo recovery.awaiting is;
    keeps = λ silo grain before.
        elim (silo_cases silo report.silo) [
          | inl same ↦ ap (λ s. has_told m.hash (with_last recovery report) s grain) same ∙ told_of_all grain
          | inr apart ↦ others_told silo grain apart ∙ before
        ];
    news = λ silo grain told.
        elim (silo_cases silo report.silo) [
          | inl same ↦ subst (λ s. (has_told m.hash recovery s grain ≡ true) ⊎ ((s ≡ report.silo) × (tells_of m.hash report grain ≡ true)))
              (sym same) (news_of grain (ap (λ b. b || not (behind (last_grain report.after report.entries) grain)) last))
          | inr apart ↦ inl (sym (others_told silo grain apart) ∙ told)
        ];
    has = λ grain e found. told_of_all grain;
  }

  pub with_last_shown : report.last ≡ true → IsShownRecovery m sent (with_last recovery report)
  with_last_shown last =
      next_shown m sent recovery report was taken sound shown left (insert_key silo_cmp recovery.reported report.silo)
      (remove_entry (is_at (silo_cmp report.silo)) recovery.told) (last_goes_on last)

  -- ---- any other
  abbrev last : Option Grain
  last = last_grain report.after report.entries

  told_on : told_by report.silo (with_more recovery report) ≡ last
  told_on = by last refl
    where
      by : (o : Option Grain) → last ≡ o → lookup (is_at (silo_cmp report.silo)) (told_to report.silo o recovery.told) ≡ o
      by None is = sym taken.goes_on ∙ last_none report.after report.entries is
      by (Some grain) is = found_put silo_cmp silo_cmp_total silo_cmp_exact report.silo grain recovery.told

  others_on : (silo : Silo) → silo ≢ report.silo → told_by silo (with_more recovery report) ≡ told_by silo recovery
  others_on silo apart = by last
    where
      by : (o : Option Grain) → lookup (is_at (silo_cmp silo)) (told_to report.silo o recovery.told) ≡ told_by silo recovery
      by None = refl
      by (Some grain) = found_beside_put silo_cmp silo_cmp_total silo_cmp_exact report.silo grain recovery.told silo apart

  told_more : (grain : Grain) → has_told m.hash (with_more recovery report) report.silo grain ≡ not (behind last grain)
  told_more grain =
      ap (λ b. not b || not (behind (told_by report.silo (with_more recovery report)) grain)) taken.awaited
      ∙ ap (λ o. not (behind o grain)) told_on

  others_told_more : (silo : Silo) (grain : Grain) → silo ≢ report.silo
      → has_told m.hash (with_more recovery report) silo grain ≡ has_told m.hash recovery silo grain
  others_told_more silo grain apart = ap (λ o. not (is_among silo recovery.awaiting) || not (behind o grain)) (others_on silo apart)

  -- what stood not behind the grain told stands not behind the last entry
  upto_last : (grain : Grain) → behind report.after grain ≡ false → behind last grain ≡ false
  upto_last grain upto =
      on_bool (λ b. behind last grain ≡ b → b ≡ false) (behind last grain)
      (λ t is. sym (behind_last m.hash (recovery.range ∷ []) report.after report.entries grain
      (rises m sent recovery report was taken sound shown) is) ∙ upto) (λ f is. refl) refl

  more_goes_on : GoesOn m sent recovery report was taken sound shown recovery.awaiting recovery.reported
      (told_to report.silo last recovery.told)
  more_goes_on = record {
    awaits = λ silo is. is;
    keeps = λ silo grain before.
        elim (silo_cases silo report.silo) [
          | inl same ↦
              let upto = not-true (behind report.after grain) (sym (told_then m sent recovery report was taken sound shown grain)
              ∙ ap (λ s. has_told m.hash recovery s grain) (sym same) ∙ before) in
              ap (λ s. has_told m.hash (with_more recovery report) s grain) same ∙ told_more grain
              ∙ not_from_false (behind last grain) (upto_last grain upto)
          | inr apart ↦ others_told_more silo grain apart ∙ before
        ];
    news = λ silo grain told.
        elim (silo_cases silo report.silo) [
          | inl same ↦
              let upto = sym (told_more grain) ∙ ap (λ s. has_told m.hash (with_more recovery report) s grain) (sym same) ∙ told in
              subst (λ s. (has_told m.hash recovery s grain ≡ true) ⊎ ((s ≡ report.silo) × (tells_of m.hash report grain ≡ true)))
              (sym same) (news_of grain (or_other report.last (not (behind last grain)) upto))
          | inr apart ↦ inl (sym (others_told_more silo grain apart) ∙ told)
        ];
    has = λ grain e found.
        told_more grain ∙ not_from_false (behind last grain)
        (found_holds (λ x. behind last x.0 ≡ false) grain (table_of report.entries) e
        (All-map (λ (x : Grain × Entry). behind last x.0 ≡ false) keyed report.entries
        (none_behind_last m.hash (recovery.range ∷ []) report.after report.entries
        (rises m sent recovery report was taken sound shown))) found);
  }

  pub with_more_shown : IsShownRecovery m sent (with_more recovery report)
  with_more_shown =
      next_shown m sent recovery report was taken sound shown recovery.awaiting recovery.reported
      (told_to report.silo last recovery.told) more_goes_on

-- ---- the steps
module _ (m : Setting) (w : protocol.World) (silo : Silo) (node : Node) (stands : Stands m w silo node) (letter : Letter) (report : Report)
    (taken : IsReportTaken node letter report) (is_shown : IsShownReport m.hash w.reports report) where
  abbrev before : Recovery
  before = recovery_of node report.range

  pub last_shown : IsTaken before report → report.last ≡ true → IsShownRecovery m w.reports (with_last before report)
  last_shown is last =
      with_last_shown m w.reports before report (recovery_shown m w silo node stands letter report taken) is
      (report_sound m w silo node stands letter report taken) is_shown last

  pub more_shown : IsTaken before report → IsShownRecovery m w.reports (with_more before report)
  more_shown is =
      with_more_shown m w.reports before report (recovery_shown m w silo node stands letter report taken) is
      (report_sound m w silo node stands letter report taken) is_shown

  -- the node goes on with what is reported then
  goes_on : (recovery : Recovery) → IsShownRecovery m w.reports recovery → (stepped : Stepped) → stepped.node ≡ with_recovery node recovery
      → All (IsShownLetter m.hash w) stepped.letters → Moves m w silo stepped
  goes_on recovery shown stepped made letters =
      let was = stands.shown in
      stays m w silo stepped (subst (λ n. IsShownNode m w n (state_of w silo)) (sym made) (record {
        seen = was.seen;
        host = was.host;
        holding = was.holding;
        shelf = was.shelf;
        gatherings = was.gatherings;
        recoveries =
            all_put nat_cmp exact_unsigned (λ (e : ℕ × Recovery). IsShownRecovery m w.reports e.1) recovery.range.start recovery
            node.recoveries was.recoveries shown;
      })) letters

  pub collects : (recovery : Recovery) → recovered before report ≡ Awaits_more recovery
      → Moves m w silo (silently (with_recovery node recovery) effect.More)
  collects recovery is =
      let so : TakenSo before report (Awaits_more recovery) = subst (TakenSo before report) is (taken_so before report) in
      goes_on recovery (subst (IsShownRecovery m w.reports) (sym so.2) (last_shown so.0 so.1))
      (silently (with_recovery node recovery) effect.More) refl (no_letters (IsShownLetter m.hash w))

  pub continues : (recovery : Recovery) → recovered before report ≡ Has_more recovery
      → Moves m w silo (querying_on report.range report.silo (with_recovery node recovery))
  continues recovery is =
      let so : TakenSo before report (Has_more recovery) = subst (TakenSo before report) is (taken_so before report) in
      let its = with_recovery node recovery in
      goes_on recovery (subst (IsShownRecovery m w.reports) (sym so.2) (more_shown so.0)) (querying_on report.range report.silo its) refl
      (one_letter (IsShownLetter m.hash w) (query_to its report.range report.silo) tt)

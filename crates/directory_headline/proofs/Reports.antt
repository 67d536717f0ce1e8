-- A report is taken: what is gathered then is shown by what was told.
use Rattle.std.proofs.Common.{◌≡◌, ◌⊎◌, ℕ, List, [], ◌∷◌, inl, inr, sym, ap, subst, refl, ◌∙◌}
use Rattle.std.specs.Prelude.{◌||◌, Bool, true, not, All, Option, Some, None, fold}
use Rattle.std.specs.Option.{option_map}
use Rattle.std.specs.Ordering.{nat_cmp}
use Rattle.std.specs.BTreeMap.{is_at}
use Rattle.std.proofs.lemmas.Bool.{and_parts, not-true}
use Rattle.std.proofs.lemmas.List.Elements.{All-map}
use Rattle.silo_address.specs.Silo.{Silo, silo_eq}
use Rattle.silo_address.specs.Grain.{Grain}
use Rattle.silo_address.specs.declared.Entry.{Entry}
use Rattle.silo_address.proofs.Same.{Decides-silo}
use Rattle.ring_range.specs.Range.{holds}
use Rattle.hash_ring.specs.Hash.{hash_grain}
use Rattle.directory_protocol.specs.Setting.{Setting}
use Rattle.directory_protocol.specs.Letters as letters
use Rattle.directory_protocol.specs.World as protocol
use Rattle.directory_rules.specs.Table.{entry_at, table_of}
use Rattle.directory_rules.specs.State.{Report, Recovery, Letter, Node, World}
use Rattle.directory_rules.specs.Standing.{stands_behind, rise_behind, last_grain}
use Rattle.directory_rules.specs.Recovery.{is_among, told_by, with_reported, new_recovery}
use Rattle.directory_rules.specs.Sent.{recovery_of}
use Rattle.directory_rules.proofs.Standings.{all_behind}
use Rattle.directory_facts.proofs.Collected.{found_or, IsTaken}
use Rattle.directory_facts.proofs.StandingEntries.{keyed}
use Rattle.directory_facts.proofs.Tables.{all_from}
use Rattle.directory_facts.proofs.Ways.{IsReportTaken}
use Rattle.directory_headline.specs.Shown.{IsShownBody, IsShownReport, IsShownRecovery, IsGathered, HasTold, has_told, tells_of}
use Rattle.directory_headline.proofs.TableEntries.{found_own, found_holds}
use Rattle.directory_headline.proofs.Unions.{union_stays, union_came, union_has}
use Rattle.directory_headline.proofs.NewRecoveries.{recovery_begins}
use Rattle.directory_headline.proofs.Stands.{Stands}
use Rattle.directory_headline.proofs.Frame.{Comes}

-- what the report's letter is known to be, in the words of the setting
pub record IsSound (hash : Grain → ℕ) (report : Report) : Type 0 where
  pub rises : rise_behind hash (report.range ∷ []) report.after report.entries ≡ true
  pub lies : (grain : Grain) (e : Entry) → entry_at grain (table_of report.entries) ≡ Some e → holds report.range (hash grain) ≡ true
  pub own : (grain : Grain) (e : Entry) → entry_at grain (table_of report.entries) ≡ Some e → e.activation.silo ≡ report.silo

some_count : (o : Option Entry) (count : ℕ) → Some count ≡ option_map (λ (e : Entry). e.activation.count) o → (e : Entry) × (o ≡ Some e)
some_count None count is = absurd (cc (is))
some_count (Some e) count is = (e, refl)

-- each entry stands under its own grain
pub own_keys : (entries : List Entry) → All (λ e. e.0 ≡ e.1.grain) (table_of entries)
own_keys entries = All-map (λ (e : Grain × Entry). e.0 ≡ e.1.grain) keyed entries (λ k d below. refl)

module _ (m : Setting) (sent : List letters.Report) (recovery : Recovery) (report : Report) (was : IsShownRecovery m sent recovery)
    (taken : IsTaken recovery report) (sound : IsSound m.hash report) (shown : IsShownReport m.hash sent report) where
  -- what stands behind a grain, in the range that is recovered
  abbrev pub behind : Option Grain → Grain → Bool
  behind after grain = stands_behind m.hash (recovery.range ∷ []) after grain

  pub rises : rise_behind m.hash (recovery.range ∷ []) report.after report.entries ≡ true
  rises = ap (λ r. rise_behind m.hash (r ∷ []) report.after report.entries) (sym taken.range) ∙ sound.rises

  -- of what the report's silo, which is awaited, has told
  pub told_then : (grain : Grain) → has_told m.hash recovery report.silo grain ≡ not (behind report.after grain)
  told_then grain =
      ap (λ b. not b || not (behind (told_by report.silo recovery) grain)) taken.awaited
      ∙ ap (λ o. not (behind o grain)) (sym taken.goes_on)

  -- the entries stand behind that
  pub entry_behind : (grain : Grain) (e : Entry) → entry_at grain (table_of report.entries) ≡ Some e → behind report.after grain ≡ true
  entry_behind grain e found =
      found_holds (λ x. behind report.after x.0 ≡ true) grain (table_of report.entries) e
      (All-map (λ (x : Grain × Entry). behind report.after x.0 ≡ true) keyed report.entries
      (all_behind m.hash (recovery.range ∷ []) report.after report.entries rises)) found

  not_again : (grain : Grain) (e : Entry) → has_told m.hash recovery report.silo grain ≡ true
      → entry_at grain (table_of report.entries) ≡ Some e → ⊥
  not_again grain e told found =
      let apart = not-true (behind report.after grain) (sym (told_then grain) ∙ told) in
      let is = entry_behind grain e found in
      cc (apart, is)

  tells_behind : (grain : Grain) → tells_of m.hash report grain ≡ true → behind report.after grain ≡ true
  tells_behind grain tells =
      ap (λ r. stands_behind m.hash (r ∷ []) report.after grain) (sym taken.range)
      ∙ (and_parts (stands_behind m.hash (report.range ∷ []) report.after grain)
      (report.last || not (stands_behind m.hash (report.range ∷ []) (last_grain report.after report.entries) grain)) tells).0

  came : (grain : Grain) (e : Entry) → entry_at grain (fold with_reported recovery.gathered report.entries) ≡ Some e
      → (entry_at grain recovery.gathered ≡ Some e) ⊎ (entry_at grain (table_of report.entries) ≡ Some e)
  came grain e found = union_came m.hash (report.range ∷ []) report.after grain report.entries recovery.gathered e sound.rises found

  -- ---- the recovery with the report, whoever is awaited and whatever is told then
  module _ (awaiting reported : List Silo) (told : List (Silo × Grain)) where
    abbrev pub next : Recovery
    next = record recovery {
      awaiting = awaiting;
      reported = reported;
      told = told;
      gathered = fold with_reported recovery.gathered report.entries;
    }

    -- fewer are awaited, or further on, and what is told now the report tells
    pub record GoesOn : Type 0 where
      pub awaits : (silo : Silo) → is_among silo awaiting ≡ true → is_among silo recovery.awaiting ≡ true
      pub keeps : (silo : Silo) (grain : Grain) → has_told m.hash recovery silo grain ≡ true → has_told m.hash next silo grain ≡ true
      pub news :
          (silo : Silo) (grain : Grain) → has_told m.hash next silo grain ≡ true
          → (has_told m.hash recovery silo grain ≡ true) ⊎ ((silo ≡ report.silo) × (tells_of m.hash report grain ≡ true))
      pub has : (grain : Grain) (e : Entry) → entry_at grain (table_of report.entries) ≡ Some e → has_told m.hash next report.silo grain ≡ true

    module _ (on : GoesOn) where
      gathered : (grain : Grain) (e : Entry) → entry_at grain next.gathered ≡ Some e → IsGathered m next grain e
      gathered grain e found =
          elim (came grain e found) [
            | inl old ↦
                let had = was.gathered grain e old in
                record { inside = had.inside; on_member = had.on_member; told = on.keeps e.activation.silo grain had.told }
            | inr new ↦
                let its = sound.own grain e new in
                record {
                  inside = ap (λ r. holds r (m.hash grain)) (sym taken.range) ∙ sound.lies grain e new;
                  on_member = ap (m.member recovery.version) its ∙ was.awaits report.silo taken.awaited;
                  told = ap (λ s. has_told m.hash next s grain) its ∙ on.has grain e new;
                }
          ]

      -- what had been told of
      still_told : (silo : Silo) (grain : Grain) → has_told m.hash recovery silo grain ≡ true → HasTold m.hash sent recovery silo grain
          → HasTold m.hash sent next silo grain
      still_told silo grain before had = record {
        told = had.told;
        was_sent = had.was_sent;
        version = had.version;
        sender = had.sender;
        from_it = λ e found its.
            elim (came grain e found) [
              | inl old ↦ had.from_it e old its
              | inr new ↦
                  let same : silo ≡ report.silo = sym its ∙ sound.own grain e new in
                  absurd (not_again grain e (ap (λ s. has_told m.hash recovery s grain) (sym same) ∙ before) new)
            ];
        complete = λ count lies firm.
            let there = had.complete count lies firm in
            (there.0, union_stays grain report.entries recovery.gathered there.0 there.1);
      }

      -- what the report tells of
      now_told : (grain : Grain) → tells_of m.hash report grain ≡ true → HasTold m.hash sent next report.silo grain
      now_told grain tells = record {
        told = shown.told;
        was_sent = shown.was_sent;
        version = shown.version ∙ taken.version;
        sender = shown.sender;
        from_it = λ e found its.
            elim (came grain e found) [
              | inl old ↦
                  let before = ap (λ s. has_told m.hash recovery s grain) (sym its) ∙ (was.gathered grain e old).told in
                  let apart = not-true (behind report.after grain) (sym (told_then grain) ∙ before) in
                  let is = tells_behind grain tells in
                  absurd (cc (apart, is))
              | inr new ↦ shown.firm grain (sound.lies grain e new) tells ∙ ap (option_map (λ (x : Entry). x.activation.count)) new
            ];
        complete = λ count lies firm.
            let there = some_count (entry_at grain (table_of report.entries)) count
            (sym firm ∙ shown.firm grain (ap (λ r. holds r (m.hash grain)) taken.range ∙ lies) tells) in
            union_has grain report.entries recovery.gathered there.0 there.1;
      }

      pub next_shown : IsShownRecovery m sent next
      next_shown = record {
        gathered = gathered;
        awaits = λ silo is. was.awaits silo (on.awaits silo is);
        members = λ silo grain member told.
            elim (on.news silo grain told) [
              | inl before ↦ still_told silo grain before (was.members silo grain member before)
              | inr its ↦ subst (λ s. HasTold m.hash sent next s grain) (sym its.0) (now_told grain its.1)
            ];
      }

-- ---- the step
-- a report that comes is shown
pub report_shown :
    (m : Setting) (f : World) (w : protocol.World) (silo : Silo) (node : Node) (letter : Letter) (report : Report)
    → IsReportTaken node letter report → Comes m f w silo letter → IsShownReport m.hash w.reports report
report_shown m f w silo node letter report taken comes = subst (IsShownBody m.hash w letter) taken.body comes.shown

module _ (m : Setting) (w : protocol.World) (silo : Silo) (node : Node) (stands : Stands m w silo node) (letter : Letter) (report : Report)
    (taken : IsReportTaken node letter report) where
  pub recovery_shown : IsShownRecovery m w.reports (recovery_of node report.range)
  recovery_shown =
      found_or (IsShownRecovery m w.reports) (is_at (nat_cmp report.range.start)) (new_recovery node.view report.range) node.recoveries
      stands.shown.recoveries (recovery_begins m w silo node stands report.range)

  pub report_sound : IsSound m.hash report
  report_sound = record {
    rises = ap (λ hash. rise_behind hash (report.range ∷ []) report.after report.entries) stands.hash ∙ taken.rise;
    lies = λ grain e found.
        let all = All-map (λ (x : Grain × Entry). holds report.range (hash_grain node.settings.hashing x.1.grain) ≡ true) keyed report.entries
        (all_from (λ (x : Entry). holds report.range (hash_grain node.settings.hashing x.grain)) report.entries taken.lie) in
        ap (λ hash. holds report.range (hash grain)) stands.hash
        ∙ ap (λ g. holds report.range (hash_grain node.settings.hashing g))
        (sym (found_own grain (table_of report.entries) e (own_keys report.entries) found))
        ∙ found_holds (λ x. holds report.range (hash_grain node.settings.hashing x.1.grain) ≡ true) grain (table_of report.entries) e
        all found;
    own = λ grain e found.
        let all = All-map (λ (x : Grain × Entry). silo_eq x.1.activation.silo letter.from ≡ true) keyed report.entries
        (all_from (λ (x : Entry). silo_eq x.activation.silo letter.from) report.entries taken.own) in
        (Decides-silo e.activation.silo letter.from).0
        (found_holds (λ x. silo_eq x.1.activation.silo letter.from ≡ true) grain (table_of report.entries) e all found)
        ∙ sym taken.sender;
  }

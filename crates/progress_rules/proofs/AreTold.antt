-- What silos report meanwhile: nothing gets firm in a range that isn't settled, so each report that isn't the last leaves one fewer to tell.
use Rattle.std.proofs.Common.{arith, ◌≡◌, ◌≢◌, refl, sym, ap, subst, ◌∙◌, ℕ, ◌+◌, ◌≤◌, List, [], ◌∷◌, ◌⊎◌, inl, inr, length}
use Rattle.std.specs.Prelude.{Bool, true, false, cond, ◌&&◌, All, Contains, Option, Some, Ok, filter, map}
use Rattle.std.proofs.lemmas.Bool.{and_parts, leb-false}
use Rattle.std.proofs.lemmas.List.Elements.{All-nil, All-cons, All-head, All-tail, All-weaker, All-map, All-filter, All-take, All-contains}
use Rattle.silo_address.specs.Silo.{Silo, silo_eq}
use Rattle.silo_address.specs.Grain.{Grain}
use Rattle.silo_address.specs.declared.Entry.{Entry}
use Rattle.silo_address.proofs.Same.{Decides-silo}
use Rattle.ring_range.specs.Range.{Range, holds}
use Rattle.hash_ring.specs.Hash.{hash_grain}
use Rattle.directory_rules.specs.declared.held.Held.{Held}
use Rattle.directory_rules.specs.Settings.{Settings}
use Rattle.directory_rules.specs.State.{Report, Letter, Report_letter, Node, World}
use Rattle.directory_rules.specs.Host.{entry_of, is_firm, firm_entries, firm_behind}
use Rattle.directory_rules.specs.Happens.{node_of}
use Rattle.directory_rules.specs.Input.{Input, step}
use Rattle.directory_rules.specs.Standing.{stands_behind, rise_behind, last_grain}
use Rattle.directory_rules.specs.Step.{Stepped}
use Rattle.directory_rules.specs.Table.{lie_in}
use Rattle.directory_rules.specs.Transfer.{report_of}
use Rattle.directory_rules.proofs.Cases.{on_bool}
use Rattle.directory_facts.specs.Pieces.{HasPieces}
use Rattle.directory_facts.proofs.StandingEntries.{all_as_they_stand}
use Rattle.directory_headline.proofs.FirmEntries.{next_stands}
use Rattle.directory_rules.proofs.Standings.{put_as_they_stand}
use Rattle.progress_rules.specs.Room.{report_count, held_behind, all_held}
use Rattle.progress_rules.proofs.FirmKept.{FirmSo, Registers, firm_kept}
use Rattle.progress_rules.proofs.FullReports.{full_report}
use Rattle.progress_rules.proofs.HandedPages.{IsReportOf, Tells, step_says}
use Rattle.progress_rules.proofs.Open.{IsOpen, IsUnserved, open_before}
use Rattle.progress_rules.proofs.Passed.{Has, passed, one_behind, one_report_fewer}
use Rattle.progress_rules.proofs.Two.{firm_rise, reported_rise}

-- what there was at the start: so many silos, by these settings, and what each of them held
pub record Base : Type 0 where
  pub silos : ℕ
  pub settings : Settings
  pub held : Silo → List (Grain × Held)

-- the reports that a silo had still to send then of a range, behind a grain
abbrev pub left_by : Base → Silo → Range → (after : Option Grain) → ℕ
left_by b silo range after = report_count b.settings.report_size (held_behind b.settings.hashing (b.held silo) range after)

abbrev pub base_of : World → Base
base_of world = record { silos = length world.nodes; settings = world.settings; held = λ silo. all_held (node_of world silo) }

abbrev pub LeavesFewer : Base → Report → Type 0
LeavesFewer b report = left_by b report.silo report.range (last_grain report.after report.entries) + 1 ≤ left_by b report.silo report.range report.after

-- a report that isn't the last, of a range that its receiver hasn't settled
pub record IsDue (b : Base) (version : ℕ) (nodes : Silo → Option Node) (letter : Letter) (report : Report) : Type 0 where
  pub body : letter.body ≡ Report_letter report
  pub version_is : report.version ≡ version
  pub own : Node
  pub there : nodes letter.to ≡ Some own
  pub waits : IsOpen own report.range
  pub rises : rise_behind (hash_grain b.settings.hashing) (report.range ∷ []) report.after report.entries ≡ true
  pub lie : lie_in b.settings.hashing report.range report.entries ≡ true
  pub not_last : report.last ≡ false

pub record AreTold (b : Base) (version : ℕ) (nodes : Silo → Option Node) (Comes : Letter → Type 0) : Type 0 where
  pub firm : (silo : Silo) (node : Node) → nodes silo ≡ Some node
      → FirmSo (λ grain. IsUnserved nodes (hash_grain b.settings.hashing grain) → Has (b.held silo) grain) node.host.held
  pub reports : (letter : Letter) (report : Report) → Comes letter → IsDue b version nodes letter report → LeavesFewer b report

-- ---- a report of these entries, where all of them were held, and another behind them
module _ (b : Base) (above : 1 ≤ b.settings.report_size) (report : Report)
    (full : length report.entries ≡ b.settings.report_size)
    (rises : rise_behind (hash_grain b.settings.hashing) (report.range ∷ []) report.after report.entries ≡ true)
    (lie : All (λ e. holds report.range (hash_grain b.settings.hashing e.grain) ≡ true) report.entries)
    (each : All (λ e. Has (b.held report.silo) e.grain) report.entries)
    (grain : Grain) (more : Has (b.held report.silo) grain) (inside : holds report.range (hash_grain b.settings.hashing grain) ≡ true)
    (behind : stands_behind (hash_grain b.settings.hashing) (report.range ∷ []) (last_grain report.after report.entries) grain ≡ true) where
  pub leaves_fewer : LeavesFewer b report
  leaves_fewer =
      let some = one_behind b.settings.hashing (b.held report.silo) report.range (last_grain report.after report.entries) grain more inside behind in
      let fewer = passed b.settings.hashing (b.held report.silo) report.range report.after report.entries rises each lie in
      one_report_fewer b.settings.report_size
      (held_behind b.settings.hashing (b.held report.silo) report.range (last_grain report.after report.entries))
      (held_behind b.settings.hashing (b.held report.silo) report.range report.after) above some (omega (arith, fewer, full))

-- ---- a report of what is firm
module _ (b : Base) (above : 1 ≤ b.settings.report_size) (node : Node) (same : node.settings ≡ b.settings) (range : Range) where
  abbrev hash : Grain → ℕ
  hash = hash_grain b.settings.hashing

  -- of which this is known
  module _ (firm : FirmSo (λ grain. holds range (hash grain) ≡ true → Has (b.held node.host.silo) grain) node.host.held) where
    abbrev IsHeld : Entry → Type 0
    IsHeld e = (holds range (hash e.grain) ≡ true) × Has (b.held node.host.silo) e.grain

    abbrev test : (Grain × Held) → Bool
    test e = is_firm e.1.phase && holds range (hash_grain node.settings.hashing e.0)

    chosen : (held : List (Grain × Held)) → FirmSo (λ grain. holds range (hash grain) ≡ true → Has (b.held node.host.silo) grain) held
        → All IsHeld (map (λ e. entry_of node.host e.0 e.1) (filter test held))
    chosen [] all = All-nil IsHeld
    chosen (x ∷ xs) all =
        on_bool (λ t. test x ≡ t → All IsHeld (map (λ e. entry_of node.host e.0 e.1) (cond t (x ∷ filter test xs) (filter test xs)))) (test x)
        (λ t is.
        let parts = and_parts (is_firm x.1.phase) (holds range (hash_grain node.settings.hashing x.0)) is in
        let inside : holds range (hash x.0) ≡ true = ap (λ (s : Settings). holds range (hash_grain s.hashing x.0)) (sym same) ∙ parts.1 in
        All-cons IsHeld (entry_of node.host x.0 x.1) (map (λ e. entry_of node.host e.0 e.1) (filter test xs)) (
          inside,
          All-head (λ (e : Grain × Held). is_firm e.1.phase ≡ true → holds range (hash e.0) ≡ true
              → Has (b.held node.host.silo) e.0) x xs all parts.0 inside,
        )
        (chosen xs (All-tail (λ (e : Grain × Held). is_firm e.1.phase ≡ true → holds range (hash e.0) ≡ true
        → Has (b.held node.host.silo) e.0) x xs all)))
        (λ f is. chosen xs (All-tail (λ (e : Grain × Held). is_firm e.1.phase ≡ true → holds range (hash e.0) ≡ true
        → Has (b.held node.host.silo) e.0) x xs all)) refl

    all_firm : All IsHeld (firm_entries node.settings.hashing node.host range)
    all_firm =
        let standing = hash_grain node.settings.hashing in
        let all = map (λ (e : Grain × Held). entry_of node.host e.0 e.1) (filter test node.host.held) in
        All-map IsHeld (λ (e : Grain × Entry). e.1) (put_as_they_stand standing (range ∷ []) [] all)
        (all_as_they_stand standing (range ∷ []) IsHeld all [] (chosen node.host.held firm) (All-nil (λ (e : Grain × Entry). IsHeld e.1)))

    pub report_leaves : (behind : Option Grain) → (report_of node range behind).last ≡ false → LeavesFewer b (report_of node range behind)
    report_leaves behind not_last =
        let its = firm_behind node.settings.hashing node.host range behind in
        let report = report_of node range behind in
        let standing = hash_grain node.settings.hashing in
        let held : All IsHeld its = All-filter (λ (e : Entry). stands_behind standing (range ∷ []) behind e.grain) IsHeld (firm_entries node.settings.hashing node.host range) all_firm in
        let told : All IsHeld report.entries = All-take IsHeld node.settings.report_size its held in
        let over = leb-false (length its) node.settings.report_size not_last in
        let next = next_stands standing (range ∷ []) node.settings.report_size behind its (firm_rise node range behind) (omega (arith, over)) in
        let one = All-contains IsHeld its next.0 held next.1 in
        leaves_fewer b above report
        (full_report node report (record { range = range; behind = behind; is = refl }) not_last ∙ ap (λ (s : Settings). s.report_size) same)
        (subst (λ (s : Settings). rise_behind (hash_grain s.hashing) (range ∷ []) behind report.entries ≡ true) same (reported_rise node range behind))
        (λ k d below. (told k d below).0) (λ k d below. (told k d below).1) next.0.grain one.1 one.0
        (subst (λ (s : Settings). stands_behind (hash_grain s.hashing) (range ∷ []) (last_grain behind report.entries) next.0.grain ≡ true) same
        next.2)

-- ---- a silo takes a step
module _ (b : Base) (above : 1 ≤ b.settings.report_size) (version : ℕ) (before after : Silo → Option Node) (Came Comes : Letter → Type 0)
    (silo : Silo) (node : Node) (input : Input) (stepped : Stepped) (there : before silo ≡ Some node) (put : after silo ≡ Some stepped.node)
    (others : (other : Silo) → other ≢ silo → after other ≡ before other)
    (came : (letter : Letter) → Comes letter → Came letter ⊎ Contains stepped.letters letter)
    (made : step node input ≡ Ok stepped) (view : stepped.node.view ≡ node.view) (has : HasPieces b.settings.hashing node)
    (same : node.settings ≡ b.settings) (by_silo : node.host.silo ≡ silo)
    (never : (grain : Grain) → Registers node input grain → IsUnserved before (hash_grain b.settings.hashing grain) → ⊥) where
  -- whose range isn't settled had it not settled before
  open_there : (owner : Silo) (own : Node) → after owner ≡ Some own → (range : Range) → IsOpen own range
      → (was : Node) × (before owner ≡ Some was) × IsOpen was range
  open_there owner own at range waits =
      on_bool (λ t. silo_eq owner silo ≡ t → (was : Node) × (before owner ≡ Some was) × IsOpen was range) (silo_eq owner silo)
      (λ t is.
      let one = (Decides-silo owner silo).0 is in
      let its : after silo ≡ Some own = ap after (sym one) ∙ at in
      let own_is : stepped.node ≡ own = cc (its, put) in (
        node,
        ap before one ∙ there,
        open_before b.settings.hashing node has input stepped made view range
            (subst (λ (n : Node). IsOpen n range) (sym own_is) waits),
      ))
      (λ f is. (own, sym (others owner (λ one. let it = (Decides-silo owner silo).1 one in cc (it, is))) ∙ at, waits)) refl

  unserved_there : (hash : ℕ) → IsUnserved after hash → IsUnserved before hash
  unserved_there hash u =
      let was = open_there u.owner u.node u.there u.range u.waits in
      record { owner = u.owner; node = was.0; there = was.1; range = u.range; waits = was.2; inside = u.inside }

  abbrev hashed : Grain → ℕ
  hashed = hash_grain b.settings.hashing

  -- what is firm
  weaker : (held : List (Grain × Held)) (its : Silo) → FirmSo (λ grain. IsUnserved before (hashed grain) → Has (b.held its) grain) held
      → FirmSo (λ grain. IsUnserved after (hashed grain) → Has (b.held its) grain) held
  weaker held its all =
      All-weaker (λ (e : Grain × Held). is_firm e.1.phase ≡ true → IsUnserved before (hashed e.0) → Has (b.held its) e.0)
      (λ (e : Grain × Held). is_firm e.1.phase ≡ true → IsUnserved after (hashed e.0) → Has (b.held its) e.0)
      (λ e so firm u. so firm (unserved_there (hashed e.0) u)) held all

  module _ (t : AreTold b version before Came) where
    its_firm : FirmSo (λ grain. IsUnserved after (hashed grain) → Has (b.held silo) grain) stepped.node.host.held
    its_firm =
        firm_kept (λ grain. IsUnserved after (hashed grain) → Has (b.held silo) grain) node input stepped made
        (weaker node.host.held silo (t.firm silo node there))
        (λ grain registers u. absurd (never grain registers (unserved_there (hashed grain) u)))

    -- a report that goes out now
    sent_now : (letter : Letter) (report : Report) → Contains stepped.letters letter → IsDue b version after letter report → LeavesFewer b report
    sent_now letter report sent due =
        let says = All-contains (λ (l : Letter). Tells l.body l node stepped.node) stepped.letters letter (step_says node input stepped made).tells sent in
        let of : IsReportOf node report = subst (λ body. Tells body letter node stepped.node) due.body says in
        let was = open_there letter.to due.own due.there report.range due.waits in
        let ranges : report.range ≡ of.range = ap (λ (x : Report). x.range) of.is in
        subst (LeavesFewer b) (sym of.is)
        (report_leaves b above node same of.range
        (All-weaker (λ (e : Grain × Held). is_firm e.1.phase ≡ true → IsUnserved before (hashed e.0) → Has (b.held silo) e.0)
        (λ (e : Grain × Held). is_firm e.1.phase ≡ true → holds of.range (hashed e.0) ≡ true → Has (b.held node.host.silo) e.0)
        (λ e so firm inside. subst (λ s. Has (b.held s) e.0) (sym by_silo) (so firm (record {
          owner = letter.to;
          node = was.0;
          there = was.1;
          range = of.range;
          waits = subst (λ (x : Range). IsOpen was.0 x) ranges was.2;
          inside = inside;
        }))) node.host.held (t.firm silo node there)) of.behind (ap (λ (x : Report). x.last) (sym of.is) ∙ due.not_last))

    pub told_on : AreTold b version after Comes
    told_on = record {
      firm = λ other its at.
          on_bool (λ s. silo_eq other silo ≡ s
          → FirmSo (λ grain. IsUnserved after (hashed grain) → Has (b.held other) grain) its.host.held) (silo_eq other silo)
          (λ s is.
          let one = (Decides-silo other silo).0 is in
          let mine : after silo ≡ Some its = ap after (sym one) ∙ at in
          let its_is : stepped.node ≡ its = cc (mine, put) in
          subst (λ s. FirmSo (λ grain. IsUnserved after (hashed grain) → Has (b.held s) grain) its.host.held) (sym one)
          (subst (λ (n : Node). FirmSo (λ grain. IsUnserved after (hashed grain) → Has (b.held silo) grain) n.host.held) its_is its_firm))
          (λ f is. weaker its.host.held other (t.firm other its
          (sym (others other (λ one. let it = (Decides-silo other silo).1 one in cc (it, is))) ∙ at))) refl;
      reports = λ letter report comes due.
          elim (came letter comes) [
            | inl was ↦
                let open_was = open_there letter.to due.own due.there report.range due.waits in
                t.reports letter report was (record {
                  body = due.body;
                  version_is = due.version_is;
                  own = open_was.0;
                  there = open_was.1;
                  waits = open_was.2;
                  rises = due.rises;
                  lie = due.lie;
                  not_last = due.not_last;
                })
            | inr sent ↦ sent_now letter report sent due
          ];
    }

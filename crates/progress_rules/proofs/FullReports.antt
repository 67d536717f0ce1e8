-- A report that isn't its silo's last has as many entries as a report may have, in every world that events reach.
use Rattle.std.proofs.Common.{arith, ◌≡◌, sym, ap, subst, ◌∙◌, ℕ, length, length-take-le}
use Rattle.std.specs.Prelude.{⊤, false, nat_le, Some}
use Rattle.std.specs.List.{slice_index_or}
use Rattle.std.specs.Ordering.{nat_cmp}
use Rattle.std.specs.BTreeMap.{is_at}
use Rattle.std.proofs.lemmas.Bool.{leb-false}
use Rattle.directory_rules.specs.Settings.{Settings}
use Rattle.directory_rules.specs.State.{Report, Letter, Body, Report_letter, Node, World}
use Rattle.directory_rules.specs.Host.{firm_behind}
use Rattle.directory_rules.specs.Mail.{letter_of}
use Rattle.directory_facts.proofs.Carried.{Facts, Keeps, KeepsBeside, Both, both_keep, Everywhere}
use Rattle.directory_facts.proofs.Lawful.{events_name_hashes}
use Rattle.directory_facts.proofs.Reached.{HasLetter, found_letter, everywhere}
use Rattle.progress_rules.proofs.FitGatherings.{all_facts, all_keep}
use Rattle.progress_rules.proofs.HandedPages.{Tells, IsReportOf, step_says}
use Rattle.progress_rules.proofs.Resting.{IsResting}

abbrev pub IsFull : Settings → Body → Type 0
IsFull settings (Report_letter report) = report.last ≡ false → length report.entries ≡ settings.report_size
IsFull settings body = ⊤

pub full_report : (node : Node) (report : Report) → IsReportOf node report → report.last ≡ false
    → length report.entries ≡ node.settings.report_size
full_report node report of not_last =
    let its = firm_behind node.settings.hashing node.host of.range of.behind in
    let more : nat_le (length its) node.settings.report_size ≡ false = ap (λ (r : Report). r.last) (sym of.is) ∙ not_last in
    let over = leb-false (length its) node.settings.report_size more in
    ap (λ (r : Report). length r.entries) of.is ∙ length-take-le node.settings.report_size its (omega (arith, over))

full_so : (settings : Settings) (body : Body) (letter : Letter) (node after : Node) → node.settings ≡ settings → Tells body letter node after
    → IsFull settings body
full_so settings (Report_letter report) letter node after same of =
    λ not_last. full_report node report of not_last ∙ ap (λ (s : Settings). s.report_size) same
full_so settings body letter node after same tells = tt

abbrev pub full_facts : Facts
full_facts = record {
  asked = λ settings. ⊤;
  named = λ event. ⊤;
  shared = λ settings views places. ⊤;
  node = λ settings views places silo node. ⊤;
  letter = λ settings letter. IsFull settings letter.body;
}

full_beside : KeepsBeside all_facts full_facts
full_beside = record {
  first = λ settings asked. tt;
  joining = λ settings views next places added silo given named base so viewed placed. (tt, tt);
  joined = λ settings views next places added silo given named base so viewed placed other node based is. tt;
  going = λ settings views next places way goes base so is. tt;
  gone = λ settings views next places way goes base so is silo node based its. tt;
  stepping = λ settings views places silo node input stepped base made before is. record {
    node = tt;
    letters = λ k d below.
        let letter = slice_index_or stepped.letters k d in
        full_so settings letter.body letter node stepped.node base.node.0.0.0.0.by_settings ((step_says node input stepped is).tells k d below);
  };
}

abbrev filled_facts : Facts
filled_facts = Both all_facts full_facts

filled_keep : Keeps filled_facts
filled_keep = both_keep all_facts full_facts all_keep full_beside

pub are_full : (world : World) → IsResting world → (number : ℕ) (letter : Letter) (report : Report) → letter_of world number ≡ Some letter
    → letter.body ≡ Report_letter report → report.last ≡ false → length report.entries ≡ world.settings.report_size
are_full world r number letter report found body =
    let facts : Everywhere filled_facts world = subst (Everywhere filled_facts) (sym r.is)
    (everywhere filled_facts filled_keep r.settings r.events (((((tt, r.are), r.are), tt), tt), tt)
    (λ k d below. (((((tt, tt), events_name_hashes r.events r.named k d below), tt), tt), tt))) in
    let its : HasLetter filled_facts world.settings (Some letter) =
    subst (HasLetter filled_facts world.settings) found
    (found_letter filled_facts world.settings (is_at (nat_cmp number)) world.mail facts.letters) in
    subst (IsFull world.settings) body its.1

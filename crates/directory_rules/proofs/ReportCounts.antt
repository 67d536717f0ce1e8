-- What the tests of a report say, where it counts.
use Rattle.std.proofs.Common.{◌≡◌}
use Rattle.std.specs.Prelude.{◌==◌, ◌&&◌, ◌||◌, nat_lt, true, [], ◌∷◌, length}
use Rattle.std.specs.List.{list_all}
use Rattle.texts.proofs.Decided.{both}
use Rattle.silo_address.specs.Silo.{silo_eq}
use Rattle.hash_ring.specs.Hash.{hash_grain}
use Rattle.directory_rules.specs.State.{Report, Letter, Node}
use Rattle.directory_rules.specs.Table.{lie_in}
use Rattle.directory_rules.specs.Standing.{rise_behind}
use Rattle.directory_rules.specs.Transfer.{recovers, is_report_awaited}

pub record ReportCounts (node : Node) (letter : Letter) (report : Report) : Type 0 where
  pub version : (report.version == letter.version) ≡ true
  pub sender : silo_eq report.silo letter.from ≡ true
  pub waits : recovers node letter.version report.range ≡ true
  pub rise : rise_behind (hash_grain node.settings.hashing) (report.range ∷ []) report.after report.entries ≡ true
  pub lie : lie_in node.settings.hashing report.range report.entries ≡ true
  pub own : list_all (λ e. silo_eq e.activation.silo letter.from) report.entries ≡ true
  pub some : (report.last || nat_lt 0 (length report.entries)) ≡ true

pub report_counts : (node : Node) (letter : Letter) (report : Report) → is_report_awaited node letter report ≡ true
    → ReportCounts node letter report
report_counts node letter report counts =
    let version = report.version == letter.version in
    let sender = silo_eq report.silo letter.from in
    let waits = recovers node letter.version report.range in
    let rise = rise_behind (hash_grain node.settings.hashing) (report.range ∷ []) report.after report.entries in
    let lie = lie_in node.settings.hashing report.range report.entries in
    let own = list_all (λ e. silo_eq e.activation.silo letter.from) report.entries in
    let some = report.last || nat_lt 0 (length report.entries) in
    let all = both (version && sender && waits && rise && lie && own) some counts in
    let six = both (version && sender && waits && rise && lie) own all.0 in
    let five = both (version && sender && waits && rise) lie six.0 in
    let four = both (version && sender && waits) rise five.0 in
    let three = both (version && sender) waits four.0 in
    let two = both version sender three.0 in
    record { version = two.0; sender = two.1; waits = three.1; rise = four.1; lie = five.1; own = six.1; some = all.1 }

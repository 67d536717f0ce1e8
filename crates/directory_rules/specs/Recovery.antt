-- Recoveries: where nobody hands a range over, its new owner asks all silos what they have firm there, part by part.
use Rattle.std.specs.Prelude.{ℕ, ◌==◌, ◌&&◌, ◌||◌, not, is_some, Bool, if◌then◌else◌, List, [], ◌∷◌, Option, Some, None, fold, filter}
use Rattle.std.specs.List.{list_any}
use Rattle.std.specs.Map.{lookup, remove_entry}
use Rattle.std.specs.BTreeMap.{is_at, insert_entry}
use Rattle.std.specs.BTreeSet.{insert_key}
use Rattle.std.specs.Option.{option_eq}
use Rattle.silo_address.specs.Silo.{Silo, silo_eq, silo_cmp}
use Rattle.silo_address.specs.Grain.{Grain, grain_eq}
use Rattle.silo_address.specs.declared.Entry.{Entry}
use Rattle.membership_view.specs.View.{ViewValue}
use Rattle.ring_range.specs.Range.{Range, range_eq}
use Rattle.directory_rules.specs.Members.{members_of}
use Rattle.directory_rules.specs.State.{Table, Recovery, Report}
use Rattle.directory_rules.specs.Table.{entry_at, with_entry}
use Rattle.directory_rules.specs.Standing.{last_grain}

-- each silo of the view that isn't Dead there is awaited, and none has told of any grain
abbrev pub new_recovery : ViewValue → Range → Recovery
new_recovery view range =
    record { version = view.version; range = range; awaiting = members_of view; reported = []; told = []; gathered = [] }

-- whether the silo is one of them
abbrev pub is_among : Silo → List Silo → Bool
is_among silo silos = list_any (silo_eq silo) silos

-- up to which grain an awaited silo has told, if it has told of any
abbrev pub told_by : Silo → Recovery → Option Grain
told_by silo recovery = lookup (is_at (silo_cmp silo)) recovery.told

-- where two entries name one grain the one that was taken first stays
abbrev pub with_reported : Table → Entry → Table
with_reported table entry = if is_some (entry_at entry.grain table) then table else with_entry table entry

-- with that grain for the silo, if there is one
abbrev pub told_to : Silo → Option Grain → List (Silo × Grain) → List (Silo × Grain)
told_to silo None told = told
told_to silo (Some grain) told = insert_entry silo_cmp told silo grain

-- with a report that isn't its silo's last: this has told up to the grain of the last entry
abbrev pub with_more : Recovery → Report → Recovery
with_more recovery report = record recovery {
  told = told_to report.silo (last_grain report.after report.entries) recovery.told;
  gathered = fold with_reported recovery.gathered report.entries;
}

-- with its silo's last report: this has told all, and is awaited no more
abbrev pub with_last : Recovery → Report → Recovery
with_last recovery report = record recovery {
  awaiting = filter (λ silo. not (silo_eq silo report.silo)) recovery.awaiting;
  reported = insert_key silo_cmp recovery.reported report.silo;
  told = remove_entry (is_at (silo_cmp report.silo)) recovery.told;
  gathered = fold with_reported recovery.gathered report.entries;
}

-- with a silo's report
abbrev pub with_report : Recovery → Report → Recovery
with_report recovery report = if report.last then with_last recovery report else with_more recovery report

-- what comes of a report: its silo has more to tell, others are awaited still, all silos have told all, or it is refused by a number
pub data Recovered : Type 0 where
  Has_more : Recovery → Recovered
  Awaits_more : Recovery → Recovered
  Has_union : Table → Recovered
  Rejects : (number : ℕ) → Recovered

-- by the silos that are awaited still
abbrev pub awaits_still : List Silo → Recovery → Recovered
awaits_still [] recovery = Has_union recovery.gathered
awaits_still (silo ∷ silos) recovery = Awaits_more recovery

-- a report is taken: 751 where it is of another version or range, then 752 where its silo was never awaited, then 753 where its silo
-- has told all, then 754 where it doesn't go on behind the grain up to which its silo has told
abbrev pub recovered : Recovery → Report → Recovered
recovered recovery report =
    if not ((report.version == recovery.version) && range_eq report.range recovery.range) then Rejects 751
    else (if not (is_among report.silo recovery.awaiting || is_among report.silo recovery.reported) then Rejects 752
    else (if is_among report.silo recovery.reported then Rejects 753
    else (if not (option_eq grain_eq report.after (told_by report.silo recovery)) then Rejects 754
    else (if report.last then awaits_still (with_last recovery report).awaiting (with_last recovery report)
    else Has_more (with_more recovery report)))))

-- Letters that tell a list.
use Rattle.std.specs.Prelude.{◌≢◌, []}
use Rattle.directory_rules.specs.State.{Body, Page_letter, Report_letter, Survey_letter, Empty_letter}

-- a page or a report that tells at least one entry, or a letter that tells at least one of any number of ranges
abbrev pub TellsList : Body → Type 0
TellsList (Page_letter page) = page.entries ≢ []
TellsList (Report_letter report) = report.entries ≢ []
TellsList (Survey_letter ranges) = ranges ≢ []
TellsList (Empty_letter ranges) = ranges ≢ []
TellsList other = ⊥

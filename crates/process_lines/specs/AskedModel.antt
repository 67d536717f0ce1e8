-- How what the code was asked for is what the rule was asked for.
use Rattle.std.specs.Option.{option_copied}
use Rattle.directory_rules.specs.ListedModel.{all_listed_of}
use Rattle.process_rules.specs.ReadLine as rule
use Rattle.process_lines.specs.declared.asked.Asked.{Asked}
use Rattle.process_lines.specs.declared.asked.Asked.TheVariants.{Joined, Leaving, Dead, Begin, See, Do, Receive, Ping, Owner, Place, Figures, Show, Dump}

-- what is asked for, in the rule's words
abbrev pub asked_of : Asked → rule.Asked
asked_of (Joined version silo token places) = rule.Joined version silo (option_copied token) places.items
asked_of (Leaving version silo) = rule.Leaving version silo
asked_of (Dead version silo) = rule.Dead version silo
asked_of (Begin version rows) = rule.Begin version (all_listed_of rows.items)
asked_of (See version) = rule.See version
asked_of (Do step) = rule.Do step
asked_of (Receive letter) = rule.Receive letter
asked_of (Ping word) = rule.Ping word.now
asked_of (Owner grain) = rule.Owner grain
asked_of (Place grain policy) = rule.Place grain policy
asked_of Figures = rule.Figures
asked_of Show = rule.Show
asked_of Dump = rule.Dump

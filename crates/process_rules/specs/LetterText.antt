-- A letter as a line: `letter FROM TO VERSION KIND`, and what a letter of that kind says.
use Rattle.std.specs.Prelude.{ℕ, Bool, true, false, List, [], ◌∷◌, ◌++◌, flat_map, map, codes, Option, Some, None}
use Rattle.std.specs.Fmt.{decimal}
use Rattle.hex.specs.Hex.{encode_lower}
use Rattle.texts.specs.Words.{sentence}
use Rattle.silo_address.specs.SiloText.{silo_text}
use Rattle.silo_address.specs.Grain.{Grain, grain_text}
use Rattle.silo_address.specs.declared.ActivationId.{ActivationId}
use Rattle.silo_address.specs.declared.Entry.{Entry}
use Rattle.silo_address.specs.ActivationText.{activation_text}
use Rattle.ring_range.specs.Range.{Range}
use Rattle.ring_range.specs.Text.{range_text}
use Rattle.directory_rules.specs.declared.act.Act.{Act}
use Rattle.directory_rules.specs.declared.act.Act.TheVariants as act
use Rattle.directory_rules.specs.declared.reply.Why.{Why}
use Rattle.directory_rules.specs.declared.reply.Why.TheVariants as why
use Rattle.directory_rules.specs.declared.reply.Reply.{Reply}
use Rattle.directory_rules.specs.declared.reply.Reply.TheVariants as reply
use Rattle.directory_rules.specs.State.{Letter, Body, Request_letter, Reply_letter, Ask_letter, Page_letter, Missing_letter, Done_letter, Query_letter, Report_letter, Survey_letter, Empty_letter, Behind_letter, Ahead_letter, Offer_letter}
use Rattle.directory_rules.specs.Letter.{kind_of}
use Rattle.script_rules.specs.Lines.{kind_word}

-- an entry: its grain, and its activation
abbrev pub entry_words : Entry → List (List ℕ)
entry_words entry = grain_text entry.grain ∷ activation_text entry.activation ∷ []

-- entries, one behind the other
abbrev pub entries_words : List Entry → List (List ℕ)
entries_words entries = flat_map entry_words entries

-- ranges, one behind the other
abbrev pub ranges_words : List Range → List (List ℕ)
ranges_words ranges = map range_text ranges

-- the activation that a Register may replace, if it names one
abbrev pub previous_words : Option ActivationId → List (List ℕ)
previous_words None = []
previous_words (Some activation) = activation_text activation ∷ []

-- what a request asks
abbrev pub act_words : Act → List (List ℕ)
act_words (act.Register entry previous) = entry_words entry ++ previous_words previous
act_words (act.Deregister entry) = entry_words entry
act_words (act.Find grain) = grain_text grain ∷ []

-- why a request has to be made again: the number of the reason, and the version or the number that it names
abbrev pub why_words : Why → List (List ℕ)
why_words (why.View seen) = codes "601" ∷ decimal seen ∷ []
why_words why.Unsettled = codes "602" ∷ []
why_words (why.OldNumber last) = codes "603" ∷ decimal last ∷ []
why_words why.NotOwner = codes "604" ∷ []

-- what a request is answered
abbrev pub reply_words : Reply → List (List ℕ)
reply_words (reply.Registered entry) = entry_words entry
reply_words (reply.Taken entry) = entry_words entry
reply_words reply.Removed = []
reply_words reply.Absent = []
reply_words (reply.Found entry) = entry_words entry
reply_words reply.Nothing = []
reply_words (reply.Retry why) = why_words why

-- the grain behind which a query asks or a report tells, if there is one
abbrev pub after_words : Option Grain → List (List ℕ)
after_words None = []
after_words (Some grain) = grain_text grain ∷ []

-- whether a report is its silo's last
abbrev pub end_word : Bool → List ℕ
end_word true = codes "last"
end_word false = codes "more"

-- what a letter says, but for its kind, and for what is its sender's, its version's or a grain's hash
abbrev pub body_words : Body → List (List ℕ)
body_words (Request_letter request) = decimal request.number ∷ act_words request.act
body_words (Reply_letter number reply) = decimal number ∷ reply_words reply
body_words (Ask_letter range page) = range_text range ∷ decimal page ∷ []
body_words (Page_letter page) =
    range_text page.range ∷ decimal page.page ∷ decimal page.pages ∷ encode_lower page.digest ∷ entries_words page.entries
body_words (Missing_letter range) = range_text range ∷ []
body_words (Done_letter range) = range_text range ∷ []
body_words (Query_letter range after) = range_text range ∷ after_words after
body_words (Report_letter report) =
    range_text report.range ∷ (after_words report.after ++ (end_word report.last ∷ entries_words report.entries))
body_words (Survey_letter ranges) = ranges_words ranges
body_words (Empty_letter ranges) = ranges_words ranges
body_words (Behind_letter range) = range_text range ∷ []
body_words (Ahead_letter range) = range_text range ∷ []
body_words (Offer_letter entry) = entry_words entry

-- the words behind `letter`
abbrev pub letter_words : Letter → List (List ℕ)
letter_words letter =
    silo_text letter.from ∷ silo_text letter.to ∷ decimal letter.version ∷ kind_word (kind_of letter.body) ∷ body_words letter.body

-- the letter's line
unfoldable pub letter_line : Letter → List ℕ
letter_line letter = sentence (codes "letter" ∷ letter_words letter)

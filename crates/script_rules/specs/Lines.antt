-- The line that tells an event: what happened, and the letters that it sent.
use Rattle.std.specs.Prelude.{ℕ, List, [], ◌∷◌, ◌++◌, Option, Some, None, codes}
use Rattle.std.specs.Fmt.{decimal}
use Rattle.silo_address.specs.Silo.{Silo}
use Rattle.silo_address.specs.SiloText.{silo_text}
use Rattle.silo_address.specs.Grain.{grain_text}
use Rattle.silo_address.specs.declared.Entry.{Entry}
use Rattle.silo_address.specs.ActivationText.{activation_text}
use Rattle.directory_rules.specs.declared.effect.Effect.{Effect}
use Rattle.directory_rules.specs.declared.effect.Effect.TheVariants as effect
use Rattle.directory_rules.specs.declared.letter_kind.LetterKind.{LetterKind}
use Rattle.directory_rules.specs.declared.letter_kind.LetterKind.TheVariants as kind
use Rattle.directory_rules.specs.Answer.{why_number}
use Rattle.directory_rules.specs.declared.outcome.Happening.{Happening}
use Rattle.directory_rules.specs.declared.outcome.Happening.TheVariants.{Joined, Left, Died, Saw, Did, Delivered, Lost}
use Rattle.directory_rules.specs.declared.outcome.Span.{Span}
use Rattle.directory_rules.specs.declared.outcome.Outcome.{Outcome}
use Rattle.texts.specs.Words.{sentence}

-- the word for each kind of letter
abbrev pub kind_word : LetterKind → List ℕ
kind_word kind.Register = codes "register"
kind_word kind.Deregister = codes "deregister"
kind_word kind.Find = codes "find"
kind_word kind.Registered = codes "registered"
kind_word kind.Taken = codes "taken"
kind_word kind.Removed = codes "removed"
kind_word kind.Absent = codes "absent"
kind_word kind.Found = codes "found"
kind_word kind.Nothing = codes "nothing"
kind_word kind.Retry = codes "retry"
kind_word kind.Ask = codes "ask"
kind_word kind.Page = codes "page"
kind_word kind.Missing = codes "missing"
kind_word kind.Done = codes "done"
kind_word kind.Query = codes "query"
kind_word kind.Report = codes "report"
kind_word kind.Survey = codes "survey"
kind_word kind.Empty = codes "empty"
kind_word kind.Behind = codes "behind"
kind_word kind.Ahead = codes "ahead"
kind_word kind.Offer = codes "offer"

-- the words for each effect of a See or of a letter
abbrev pub effect_words : Effect → List (List ℕ)
effect_words effect.Next = codes "next" ∷ []
effect_words effect.Skip = codes "skip" ∷ []
effect_words (effect.Started entry) = codes "started" ∷ []
effect_words (effect.Closing entry) = codes "closing" ∷ []
effect_words (effect.Cancelled entry) = codes "cancelled" ∷ []
effect_words (effect.Offered entry to) = codes "offered" ∷ []
effect_words (effect.Cached entry) = codes "cached" ∷ []
effect_words (effect.Finding grain) = codes "finding" ∷ []
effect_words (effect.Forgot grain) = codes "forgot" ∷ []
effect_words (effect.NothingCached grain) = codes "nothing" ∷ codes "cached" ∷ []
effect_words effect.Nudged = codes "nudged" ∷ []
effect_words effect.Registered = codes "registered" ∷ []
effect_words effect.Taken = codes "taken" ∷ []
effect_words effect.Removed = codes "removed" ∷ []
effect_words effect.Absent = codes "absent" ∷ []
effect_words effect.Found = codes "found" ∷ []
effect_words effect.Nothing = codes "nothing" ∷ []
effect_words (effect.Retry why) = codes "retry" ∷ decimal (why_number why) ∷ []
effect_words effect.Firm = codes "firm" ∷ []
effect_words effect.Yielded = codes "yielded" ∷ []
effect_words effect.Ended = codes "ended" ∷ []
effect_words effect.Learnt = codes "learnt" ∷ []
effect_words effect.Noted = codes "noted" ∷ []
effect_words effect.Ignored = codes "ignored" ∷ []
effect_words effect.Page = codes "page" ∷ []
effect_words effect.Missing = codes "missing" ∷ []
effect_words effect.Behind = codes "behind" ∷ []
effect_words effect.Ahead = codes "ahead" ∷ []
effect_words effect.Installed = codes "installed" ∷ []
effect_words effect.Gathering = codes "gathering" ∷ []
effect_words (effect.Refused number) = codes "refused" ∷ decimal number ∷ []
effect_words effect.Recovering = codes "recovering" ∷ []
effect_words effect.Deleted = codes "deleted" ∷ []
effect_words effect.Report = codes "report" ∷ []
effect_words effect.More = codes "more" ∷ []
effect_words effect.Complete = codes "complete" ∷ []

-- an activation and its grain
abbrev pub entry_words : Entry → List (List ℕ)
entry_words entry = activation_text entry.activation ∷ grain_text entry.grain ∷ []

-- what the effect of a silo's own step is about
abbrev pub subject_words : Silo → Effect → List (List ℕ)
subject_words silo (effect.Started entry) = entry_words entry
subject_words silo (effect.Closing entry) = entry_words entry
subject_words silo (effect.Cancelled entry) = entry_words entry
subject_words silo (effect.Offered entry to) = entry_words entry ++ codes "to" ∷ silo_text to ∷ []
subject_words silo (effect.Cached entry) = entry_words entry
subject_words silo (effect.Finding grain) = grain_text grain ∷ []
subject_words silo (effect.Forgot grain) = grain_text grain ∷ []
subject_words silo (effect.NothingCached grain) = grain_text grain ∷ []
subject_words silo other = silo_text silo ∷ []

-- the older silo of the endpoint became Dead
abbrev pub replaced_words : Option Silo → List (List ℕ)
replaced_words None = []
replaced_words (Some old) = codes "dead" ∷ silo_text old ∷ []

-- what happened
abbrev pub happening_words : Happening → List (List ℕ)
happening_words (Joined version silo replaced) = codes "view" ∷ decimal version ∷ codes "joined" ∷ silo_text silo ∷ replaced_words replaced
happening_words (Left version silo) = codes "view" ∷ decimal version ∷ codes "leaving" ∷ silo_text silo ∷ []
happening_words (Died version silo) = codes "view" ∷ decimal version ∷ codes "dead" ∷ silo_text silo ∷ []
happening_words (Saw silo version effect) = silo_text silo ∷ codes "sees" ∷ decimal version ∷ effect_words effect
happening_words (Did silo effect) = effect_words effect ++ subject_words silo effect
happening_words (Delivered number kind effect) = codes "delivered" ∷ decimal number ∷ kind_word kind ∷ effect_words effect
happening_words (Lost number) = codes "lost" ∷ decimal number ∷ []

-- the first and the last number of the letters sent, with two dots between
abbrev pub span_text : Span → List ℕ
span_text span = decimal span.first ++ (codes ".." ++ decimal span.last)

-- the letters sent, if there are any
abbrev pub sent_words : Option Span → List (List ℕ)
sent_words None = []
sent_words (Some span) = codes "sent" ∷ span_text span ∷ []

-- the line of an accepted event
unfoldable pub outcome_line : Outcome → List ℕ
outcome_line outcome = sentence (happening_words outcome.happening ++ sent_words outcome.sent)

-- the line of a refused event or question
abbrev pub refusal_line : ℕ → List ℕ
refusal_line number = sentence (codes "refused" ∷ decimal number ∷ [])

-- the line with which a fault ends a script
abbrev pub fault_line : (line fault : ℕ) → List ℕ
fault_line line fault = sentence (codes "line" ∷ decimal line ∷ codes "fault" ∷ decimal fault ∷ [])

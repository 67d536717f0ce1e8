-- The words for what a letter tells the silo's application.
use Rattle.std.specs.Prelude.{ℕ, List, [], ◌∷◌, ◌++◌, codes, if◌then◌else◌, Option, Some, None}
use Rattle.std.specs.Fmt.{decimal}
use Rattle.silo_address.specs.Silo.{Silo}
use Rattle.silo_address.specs.ActivationText.{activation_text}
use Rattle.silo_address.specs.declared.Entry.{Entry}
use Rattle.directory_rules.specs.Answer.{why_number}
use Rattle.directory_rules.specs.declared.effect.Effect.{Effect}
use Rattle.directory_rules.specs.declared.letter_kind.LetterKind.{LetterKind}
use Rattle.directory_rules.specs.declared.outcome.Happening.TheVariants.{Did}
use Rattle.script_rules.specs.Lines.{effect_words, entry_words, happening_words, kind_word}
use Rattle.process_rules.specs.Happened.{is_ignored, sought_words}
use Rattle.process_answers.specs.declared.telling.Telling.{Telling}
use Rattle.process_answers.specs.declared.telling.Waiting.{Waiting}
use Rattle.process_answers.specs.declared.telling.Telling.TheVariants.{Firm, Taken, Removed, Absent, Found, Nothing, Waits, Offered, Delivered}

-- an entry, if there is one
abbrev pub entry_if_any : Option Entry → List (List ℕ)
entry_if_any None = []
entry_if_any (Some entry) = entry_words entry

-- the grain that waits: of an activation that asks, of one that closes, or one that is searched for
abbrev pub waiting_words : Waiting → List (List ℕ)
waiting_words waiting = sought_words waiting.asking ++ (sought_words waiting.closing ++ sought_words waiting.sought)

-- what is told where the letter counts, by its effect, and by what is said of one that tells no more than that it came
abbrev pub telling_words : Telling → Silo → Effect → (delivered : List (List ℕ)) → List (List ℕ)
telling_words (Firm entry seen) silo effect delivered = codes "firm" ∷ (entry_if_any entry ++ codes "at" ∷ decimal seen ∷ [])
telling_words (Taken grain by) silo effect delivered = codes "taken" ∷ (sought_words grain ++ codes "by" ∷ activation_text by ∷ [])
telling_words (Removed entry) silo effect delivered = codes "ended" ∷ (entry_if_any entry ++ codes "removed" ∷ [])
telling_words (Absent entry) silo effect delivered = codes "ended" ∷ (entry_if_any entry ++ codes "absent" ∷ [])
telling_words (Found entry) silo effect delivered = codes "found" ∷ entry_words entry
telling_words (Nothing grain) silo effect delivered = codes "nothing" ∷ sought_words grain
telling_words (Waits waiting why) silo effect delivered = delivered ++ (waiting_words waiting ++ decimal (why_number why) ∷ [])
telling_words Offered silo effect delivered = happening_words (Did silo effect)
telling_words Delivered silo effect delivered = delivered

-- that a letter came
abbrev pub that_it_came : LetterKind → Effect → List (List ℕ)
that_it_came kind effect = codes "delivered" ∷ kind_word kind ∷ effect_words effect

-- what is said of a letter
abbrev pub received_telling : Telling → Silo → LetterKind → Effect → List (List ℕ)
received_telling telling silo kind effect =
    if is_ignored effect then that_it_came kind effect else telling_words telling silo effect (that_it_came kind effect)

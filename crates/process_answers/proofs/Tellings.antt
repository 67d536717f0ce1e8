-- What a letter tells, by what the host had when it came.
use Rattle.std.proofs.Common.{◌≡◌, ℕ, ◌<◌, Bool, true, false, List, [], Option, Some, None, length, cond, ap, subst, append-nil, arith}
use Rattle.std.specs.Option.{option_map}
use Rattle.silo_address.specs.Silo.{Silo}
use Rattle.silo_address.specs.Grain.{Grain}
use Rattle.silo_address.specs.declared.Entry.{Entry}
use Rattle.directory_rules.specs.declared.effect.Effect.{Effect}
use Rattle.directory_rules.specs.declared.held.Held.{Held}
use Rattle.directory_rules.specs.declared.letter_kind.LetterKind.{LetterKind}
use Rattle.directory_rules.specs.declared.outcome.Happening.TheVariants.{Did}
use Rattle.directory_rules.specs.State.{Host, Letter}
use Rattle.directory_rules.specs.Host.{entry_of}
use Rattle.directory_rules.specs.Letter.{kind_of}
use Rattle.script_rules.specs.Lines.{happening_words}
use Rattle.script_lines.proofs.SomeWords.{happening_has_words}
use Rattle.process_rules.specs.Happened.{body_words, delivered_words, is_ignored, received_words}
use Rattle.process_answers.specs.declared.telling.Telling.{Telling}
use Rattle.process_answers.specs.declared.telling.Telling.TheVariants.{Firm, Taken, Removed, Absent, Found, Nothing, Waits, Offered, Delivered}
use Rattle.process_answers.specs.Telling.{received_telling, telling_words, that_it_came}

-- the grain of the activation that waited
pub grain_of_entry : (host : Host) (waited : Option (Grain × Held)) (entry : Entry)
    → Some entry ≡ option_map (λ e. entry_of host e.0 e.1) waited → Some entry.grain ≡ option_map (λ e. e.0) waited
grain_of_entry host None entry is = cc
grain_of_entry host (Some e) entry is = ap (λ (found : Option Entry). option_map (λ (its : Entry). its.grain) found) is

-- what is said of a letter is what it tells
by_ignored : (ignored : Bool) (came told words : List (List ℕ)) → told ≡ words → cond ignored came told ≡ cond ignored came words
by_ignored ignored came told words same = ap (cond ignored came) same

pub received_is : (telling : Telling) (host : Host) (seen : ℕ) (letter : Letter) (effect : Effect)
    → ((e : Effect) (delivered : List (List ℕ)) → telling_words telling host.silo e delivered ≡ body_words letter.body host seen e
    delivered)
    → received_telling telling host.silo (kind_of letter.body) effect ≡ received_words host seen letter effect
received_is telling host seen letter effect tells =
    by_ignored (is_ignored effect) (that_it_came (kind_of letter.body) effect)
    (telling_words telling host.silo effect (that_it_came (kind_of letter.body) effect))
    (body_words letter.body host seen effect (delivered_words letter effect)) (tells effect (that_it_came (kind_of letter.body) effect))

-- and it has words
did_has_words : (silo : Silo) (effect : Effect) → 0 < length (happening_words (Did silo effect))
did_has_words silo effect =
    subst (λ (ws : List (List ℕ)). 0 < length ws) (append-nil (happening_words (Did silo effect)))
    (happening_has_words (Did silo effect) [])

telling_has_words : (telling : Telling) (silo : Silo) (sort : LetterKind) (effect : Effect)
    → 0 < length (telling_words telling silo effect (that_it_came sort effect))
telling_has_words (Firm entry seen) silo sort effect = omega arith
telling_has_words (Taken grain by) silo sort effect = omega arith
telling_has_words (Removed entry) silo sort effect = omega arith
telling_has_words (Absent entry) silo sort effect = omega arith
telling_has_words (Found entry) silo sort effect = omega arith
telling_has_words (Nothing grain) silo sort effect = omega arith
telling_has_words (Waits waiting why) silo sort effect = omega arith
telling_has_words Offered silo sort effect = did_has_words silo effect
telling_has_words Delivered silo sort effect = omega arith

some_by : (ignored : Bool) (came told : List (List ℕ)) → 0 < length came → 0 < length told → 0 < length (cond ignored came told)
some_by true came told one other = one
some_by false came told one other = other

pub received_has_words : (telling : Telling) (silo : Silo) (sort : LetterKind) (effect : Effect)
    → 0 < length (received_telling telling silo sort effect)
received_has_words telling silo sort effect =
    let came : 0 < length (that_it_came sort effect) = omega arith in
    some_by (is_ignored effect) (that_it_came sort effect) (telling_words telling silo effect (that_it_came sort effect)) came
    (telling_has_words telling silo sort effect)

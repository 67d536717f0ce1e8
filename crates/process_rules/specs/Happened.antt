-- What a line says that happened: as scripts say it, but that a letter has no number, and that what concerns the application names its
-- grain.
use Rattle.std.specs.Prelude.{ℕ, Bool, true, false, List, [], ◌∷◌, ◌++◌, codes, if◌then◌else◌, Option, Some, None}
use Rattle.std.specs.Fmt.{decimal}
use Rattle.std.specs.Ordering.{nat_cmp}
use Rattle.std.specs.Map.{lookup}
use Rattle.std.specs.BTreeMap.{is_at}
use Rattle.silo_address.specs.Silo.{Silo}
use Rattle.silo_address.specs.Grain.{Grain, grain_text}
use Rattle.silo_address.specs.ActivationText.{activation_text}
use Rattle.directory_rules.specs.declared.effect.Effect.{Effect}
use Rattle.directory_rules.specs.declared.effect.Effect.TheVariants as effect
use Rattle.directory_rules.specs.declared.held.Held.{Held}
use Rattle.directory_rules.specs.declared.reply.Reply.{Reply}
use Rattle.directory_rules.specs.declared.reply.Reply.TheVariants as reply
use Rattle.directory_rules.specs.declared.outcome.Happening.TheVariants.{Did, Joined, Left, Died}
use Rattle.directory_rules.specs.State.{Host, Letter, Body, Reply_letter, Offer_letter}
use Rattle.directory_rules.specs.Host.{entry_of, asking_under, closing_under}
use Rattle.directory_rules.specs.Letter.{kind_of}
use Rattle.silo_rules.specs.declared.news.News.{News}
use Rattle.silo_rules.specs.declared.news.News.TheVariants.{Known, Made, Replaced}
use Rattle.directory_rules.specs.Membership.{Change, Join, Leave, Die}
use Rattle.directory_rules.specs.Answer.{why_number}
use Rattle.script_rules.specs.Lines.{kind_word, effect_words, entry_words, happening_words}

-- ---- A change of membership.

-- the older silo of the endpoint that became Dead, if one did
abbrev pub replaced_in : News → Option Silo
replaced_in Known = None
replaced_in Made = None
replaced_in (Replaced old) = Some old

-- a change that was made
abbrev pub made_words : (version : ℕ) → Change → (replaced : Option Silo) → List (List ℕ)
made_words version (Join silo places) replaced = happening_words (Joined version silo replaced)
made_words version (Leave silo) replaced = happening_words (Left version silo)
made_words version (Die silo) replaced = happening_words (Died version silo)

-- a change that was told, perhaps again
abbrev pub news_words : (version : ℕ) → Change → News → List (List ℕ)
news_words version change Known = codes "known" ∷ decimal version ∷ []
news_words version change news = made_words version change (replaced_in news)

-- ---- A letter.

-- what the letter's kind and its effect say
abbrev pub delivered_words : Letter → Effect → List (List ℕ)
delivered_words letter effect = codes "delivered" ∷ kind_word (kind_of letter.body) ∷ effect_words effect

-- the silo's own activation that waited for the reply
abbrev pub own_words : Host → Option (Grain × Held) → List (List ℕ)
own_words host None = []
own_words host (Some e) = entry_words (entry_of host e.0 e.1)

-- and its grain
abbrev pub own_grain : Option (Grain × Held) → List (List ℕ)
own_grain None = []
own_grain (Some e) = grain_text e.0 ∷ []

-- the grain that was searched for
abbrev pub sought_words : Option Grain → List (List ℕ)
sought_words None = []
sought_words (Some grain) = grain_text grain ∷ []

-- the grain that was searched for under that number
abbrev pub sought_grain : Host → (number : ℕ) → List (List ℕ)
sought_grain host number = sought_words (lookup (is_at (nat_cmp number)) host.finds)

-- the grain of what waits under that number: no two requests have one number
abbrev pub waiting_grain : Host → (number : ℕ) → List (List ℕ)
waiting_grain host number = own_grain (asking_under host number) ++ (own_grain (closing_under host number) ++ sought_grain host number)

-- what a reply tells that counts, by what waited under its number: that an activation is firm, with the version that the silo has seen;
-- how one ended; or that the grain's request waits on, and why
abbrev pub counted_words : Host → (seen number : ℕ) → Reply → (delivered : List (List ℕ)) → List (List ℕ)
counted_words host seen number (reply.Registered entry) delivered = codes "firm" ∷ (own_words host (asking_under host number) ++ codes "at" ∷ decimal seen ∷ [])
counted_words host seen number (reply.Taken entry) delivered = codes "taken" ∷ (own_grain (asking_under host number) ++ codes "by" ∷ activation_text entry.activation ∷ [])
counted_words host seen number reply.Removed delivered = codes "ended" ∷ (own_words host (closing_under host number) ++ codes "removed" ∷ [])
counted_words host seen number reply.Absent delivered = codes "ended" ∷ (own_words host (closing_under host number) ++ codes "absent" ∷ [])
counted_words host seen number (reply.Found entry) delivered = codes "found" ∷ entry_words entry
counted_words host seen number reply.Nothing delivered = codes "nothing" ∷ sought_grain host number
counted_words host seen number (reply.Retry why) delivered = delivered ++ (waiting_grain host number ++ decimal (why_number why) ∷ [])

-- what a letter tells that counts, by its body
abbrev pub body_words : Body → Host → (seen : ℕ) → Effect → (delivered : List (List ℕ)) → List (List ℕ)
body_words (Reply_letter number reply) host seen effect delivered = counted_words host seen number reply delivered
body_words (Offer_letter entry) host seen effect delivered = happening_words (Did host.silo effect)
body_words other host seen effect delivered = delivered

abbrev pub is_ignored : Effect → Bool
is_ignored effect.Ignored = true
is_ignored other = false

-- what came of a letter, by the host as it was when the letter came, and the version that its silo had seen
abbrev pub received_words : Host → (seen : ℕ) → Letter → Effect → List (List ℕ)
received_words host seen letter effect =
    if is_ignored effect then delivered_words letter effect else body_words letter.body host seen effect (delivered_words letter effect)

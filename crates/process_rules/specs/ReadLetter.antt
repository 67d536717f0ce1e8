-- The reading of a letter's words: which letter they write, or the number of their first fault. How many words there are comes
-- first, and the kind, since it says how many there have to be; then the words from left to right.
use Rattle.std.specs.Prelude.{ℕ, Bool, true, false, List, [], ◌∷◌, ◌++◌, codes, bytes_eq, find, if◌then◌else◌, Option, Some, None, Result, Ok, Err}
use Rattle.std.specs.Map.{lookup}
use Rattle.hex.specs.Hex.{decode_sized, encode_lower}
use Rattle.hex.specs.declared.error.FromHexError.{FromHexError}
use Rattle.silo_address.specs.Silo.{Silo}
use Rattle.silo_address.specs.Grain.{Grain}
use Rattle.silo_address.specs.Numbers.{silo_error_number}
use Rattle.silo_address.specs.declared.activation.ActivationError.{ActivationError}
use Rattle.silo_address.specs.declared.activation.ActivationError.TheVariants as activation
use Rattle.silo_address.specs.declared.ActivationId.{ActivationId}
use Rattle.silo_address.specs.declared.Entry.{Entry}
use Rattle.silo_address.specs.ActivationText.{read_activation}
use Rattle.ring_range.specs.Range.{Range}
use Rattle.ring_range.specs.declared.text.RangeTextError.{RangeTextError}
use Rattle.ring_range.specs.Text.{read_range}
use Rattle.hash_ring.specs.declared.hashing.Hashing.{Hashing}
use Rattle.hash_ring.specs.Hash.{hash_grain}
use Rattle.directory_rules.specs.declared.act.Act.{Act}
use Rattle.directory_rules.specs.declared.act.Act.TheVariants as act
use Rattle.directory_rules.specs.declared.reply.Why.{Why}
use Rattle.directory_rules.specs.declared.reply.Why.TheVariants as why
use Rattle.directory_rules.specs.declared.reply.Reply.{Reply}
use Rattle.directory_rules.specs.declared.reply.Reply.TheVariants as reply
use Rattle.directory_rules.specs.declared.letter_kind.LetterKind.{LetterKind}
use Rattle.directory_rules.specs.declared.letter_kind.LetterKind.TheVariants as kind
use Rattle.directory_rules.specs.Host.{grain_of}
use Rattle.directory_rules.specs.State.{Letter, Body, Request_letter, Reply_letter, Ask_letter, Page_letter, Missing_letter, Done_letter, Query_letter, Report_letter, Survey_letter, Empty_letter, Behind_letter, Ahead_letter, Offer_letter}
use Rattle.script_rules.specs.Lines.{kind_word}
use Rattle.script_rules.specs.Script.{silo_word, grain_word, number_word, ◌>>=◌}

-- ---- The readings of words, besides those of scripts.

-- an activation: 929 where it has no `!`, then 101 to 103 of what stands before the first, then 923 of what stands behind it
abbrev pub activation_error_number : ActivationError → ℕ
activation_error_number activation.Shape = 929
activation_error_number (activation.Silo fault) = silo_error_number fault
activation_error_number (activation.Count fault) = 923

abbrev pub activation_or_fault : Result ActivationId ActivationError → Result ActivationId ℕ
activation_or_fault (Ok activation) = Ok activation
activation_or_fault (Err fault) = Err (activation_error_number fault)

abbrev pub activation_word : List ℕ → Result ActivationId ℕ
activation_word word = activation_or_fault (read_activation word)

-- a range: 928
abbrev pub range_or_fault : Result Range RangeTextError → Result Range ℕ
range_or_fault (Ok range) = Ok range
range_or_fault (Err fault) = Err 928

abbrev pub range_word : List ℕ → Result Range ℕ
range_word word = range_or_fault (read_range word)

-- a digest of 32 bytes: 930 where the word isn't its text, 64 digits from 0 to 9 and a to f
abbrev pub digest_or_fault : List ℕ → Result (List ℕ) FromHexError → Result (List ℕ) ℕ
digest_or_fault word (Ok digest) = if bytes_eq (encode_lower digest) word then Ok digest else Err 930
digest_or_fault word (Err fault) = Err 930

abbrev pub digest_word : List ℕ → Result (List ℕ) ℕ
digest_word word = digest_or_fault word (decode_sized word 32)

-- whether a report is its silo's last: 932 where the word is neither `last` nor `more`
abbrev pub last_word : List ℕ → Result Bool ℕ
last_word word = if bytes_eq word (codes "last") then Ok true else (if bytes_eq word (codes "more") then Ok false else Err 932)

-- a grain and its activation
abbrev pub entry_of_words : List ℕ → List ℕ → Result Entry ℕ
entry_of_words grain activation = do
  grain ← grain_word grain
  activation ← activation_word activation
  Ok (record { grain = grain; activation = activation })

-- whether each word has one beside it
abbrev pub are_pairs : List (List ℕ) → Bool
are_pairs [] = true
are_pairs (one ∷ []) = false
are_pairs (one ∷ other ∷ words) = are_pairs words

-- the entries, up to the first word with a fault
abbrev pub entries_in : List (List ℕ) → Result (List Entry) ℕ
entries_in [] = Ok []
entries_in (one ∷ []) = Err 922
entries_in (grain ∷ activation ∷ words) = do
  entry ← entry_of_words grain activation
  entries ← entries_in words
  Ok (entry ∷ entries)

-- the ranges, up to the first word with a fault
abbrev pub ranges_in : List (List ℕ) → Result (List Range) ℕ
ranges_in [] = Ok []
ranges_in (word ∷ words) = do
  range ← range_word word
  ranges ← ranges_in words
  Ok (range ∷ ranges)

-- ---- What stands in front of the kind.
pub record Head : Type 0 where
  pub from : Silo
  pub to : Silo
  pub version : ℕ

-- from whom the letter is, to whom, and its version
abbrev pub head_of_words : (from to version : List ℕ) → Result Head ℕ
head_of_words from to version = do
  from ← silo_word from
  to ← silo_word to
  version ← number_word version
  Ok (record { from = from; to = to; version = version })

-- the letter of that head that says so
abbrev pub letter_of : Head → Body → Letter
letter_of head body = record { from = head.from; to = head.to; version = head.version; body = body }

-- a request is its letter's sender's, of its letter's version, and has its grain's hash
abbrev pub request_of : Hashing → Head → ℕ → Act → Letter
request_of hashing head number act = letter_of head (Request_letter (record {
  sender = head.from;
  version = head.version;
  number = number;
  hash = hash_grain hashing (grain_of act);
  act = act;
}))

-- ---- What stands behind the kind: 922 where there are too few words or too many, and then the first fault from the left, be it of
-- what stands in front.
abbrev pub Form : Type 0
Form = Result Head ℕ → List (List ℕ) → Result Letter ℕ

-- a number, a grain, its activation, and perhaps the activation that it replaces
abbrev pub a_register : Hashing → Form
a_register hashing head (number ∷ grain ∷ activation ∷ []) = do
  head ← head
  number ← number_word number
  entry ← entry_of_words grain activation
  Ok (request_of hashing head number (act.Register entry None))
a_register hashing head (number ∷ grain ∷ activation ∷ previous ∷ []) = do
  head ← head
  number ← number_word number
  entry ← entry_of_words grain activation
  previous ← activation_word previous
  Ok (request_of hashing head number (act.Register entry (Some previous)))
a_register hashing head words = Err 922

-- a number, a grain and its activation
abbrev pub a_number_and_an_entry : (Head → ℕ → Entry → Letter) → Form
a_number_and_an_entry of head (number ∷ grain ∷ activation ∷ []) = do
  head ← head
  number ← number_word number
  entry ← entry_of_words grain activation
  Ok (of head number entry)
a_number_and_an_entry of head words = Err 922

-- a number and a grain
abbrev pub a_find : Hashing → Form
a_find hashing head (number ∷ grain ∷ []) = do
  head ← head
  number ← number_word number
  grain ← grain_word grain
  Ok (request_of hashing head number (act.Find grain))
a_find hashing head words = Err 922

-- a number
abbrev pub a_number : Reply → Form
a_number reply head (number ∷ []) = do
  head ← head
  number ← number_word number
  Ok (letter_of head (Reply_letter number reply))
a_number reply head words = Err 922

-- what stands behind a reason: none where there are too few words or too many
abbrev pub Reason : Type 0
Reason = List (List ℕ) → Option (Result Why ℕ)

-- a version or a number
abbrev pub with_number : (ℕ → Why) → Reason
with_number of (number ∷ []) = Some (number_word number >>= λ number. Ok (of number))
with_number of words = None

-- no word
abbrev pub alone : Why → Reason
alone why [] = Some (Ok why)
alone why (word ∷ words) = None

-- each reason under its number
abbrev pub reasons : List (List ℕ × Reason)
reasons =
    (codes "601", with_number why.View)
    ∷ (codes "602", alone why.Unsettled)
    ∷ (codes "603", with_number why.OldNumber)
    ∷ (codes "604", alone why.NotOwner)
    ∷ []

-- a retry, once it is known that there are as many words as its reason has
abbrev pub retry_for : Result Head ℕ → List ℕ → Option (Result Why ℕ) → Result Letter ℕ
retry_for head number None = Err 922
retry_for head number (Some why) = do
  head ← head
  number ← number_word number
  why ← why
  Ok (letter_of head (Reply_letter number (reply.Retry why)))

-- by the reason, if it is one: 927
abbrev pub retry_by : Option Reason → Result Head ℕ → List ℕ → List (List ℕ) → Result Letter ℕ
retry_by None head number words = Err 927
retry_by (Some reason) head number words = retry_for head number (reason words)

-- a number, a reason, and what stands behind that
abbrev pub a_retry : Form
a_retry head (number ∷ reason ∷ words) = retry_by (lookup (bytes_eq reason) reasons) head number words
a_retry head words = Err 922

-- a range and the number of a page
abbrev pub an_ask : Form
an_ask head (range ∷ page ∷ []) = do
  head ← head
  range ← range_word range
  page ← number_word page
  Ok (letter_of head (Ask_letter range page))
an_ask head words = Err 922

-- a range, the number of a page, how many there are, the digest, and the entries, once it is known that these are pairs
abbrev pub page_for : Bool → Result Head ℕ → (range page pages digest : List ℕ) → List (List ℕ) → Result Letter ℕ
page_for false head range page pages digest words = Err 922
page_for true head range page pages digest words = do
  head ← head
  range ← range_word range
  page ← number_word page
  pages ← number_word pages
  digest ← digest_word digest
  entries ← entries_in words
  Ok (letter_of head (Page_letter (record { version = head.version; range = range; page = page; pages = pages; digest = digest; entries = entries })))

abbrev pub a_page : Form
a_page head (range ∷ page ∷ pages ∷ digest ∷ words) = page_for (are_pairs words) head range page pages digest words
a_page head words = Err 922

-- a range
abbrev pub a_range : (Range → Body) → Form
a_range of head (range ∷ []) = do
  head ← head
  range ← range_word range
  Ok (letter_of head (of range))
a_range of head words = Err 922

-- a range, and perhaps the grain behind which is asked
abbrev pub a_query : Form
a_query head (range ∷ []) = do
  head ← head
  range ← range_word range
  Ok (letter_of head (Query_letter range None))
a_query head (range ∷ after ∷ []) = do
  head ← head
  range ← range_word range
  after ← grain_word after
  Ok (letter_of head (Query_letter range (Some after)))
a_query head words = Err 922

-- a range, what is read of the grain behind which is told, whether it is the last, and the entries
abbrev pub report_behind : Result Head ℕ → (range : List ℕ) → Result (Option Grain) ℕ → (last : List ℕ) → List (List ℕ) → Result Letter ℕ
report_behind head range after last words = do
  head ← head
  range ← range_word range
  after ← after
  last ← last_word last
  entries ← entries_in words
  Ok (letter_of head (Report_letter (record { version = head.version; range = range; silo = head.from; after = after; entries = entries; last = last })))

-- the grain stands there where the words behind the range are pairs: it and the next word, and those of each entry
abbrev pub report_for : (pairs : Bool) → Result Head ℕ → (range : List ℕ) → List (List ℕ) → Result Letter ℕ
report_for true head range (after ∷ last ∷ words) = report_behind head range (grain_word after >>= λ grain. Ok (Some grain)) last words
report_for false head range (last ∷ words) = report_behind head range (Ok None) last words
report_for pairs head range words = Err 922

abbrev pub a_report : Form
a_report head (range ∷ words) = report_for (are_pairs words) head range words
a_report head words = Err 922

-- ranges, one at least
abbrev pub some_ranges : (List Range → Body) → Form
some_ranges of head (range ∷ ranges) = do
  head ← head
  ranges ← ranges_in (range ∷ ranges)
  Ok (letter_of head (of ranges))
some_ranges of head words = Err 922

-- a grain and its activation
abbrev pub an_offer : Form
an_offer head (grain ∷ activation ∷ []) = do
  head ← head
  entry ← entry_of_words grain activation
  Ok (letter_of head (Offer_letter entry))
an_offer head words = Err 922

-- ---- Kinds.

-- the reply under a number
abbrev pub reply_of : (Entry → Reply) → Head → ℕ → Entry → Letter
reply_of of head number entry = letter_of head (Reply_letter number (of entry))

-- what a letter of the kind says
abbrev pub form_of : Hashing → LetterKind → Form
form_of hashing kind.Register = a_register hashing
form_of hashing kind.Deregister = a_number_and_an_entry (λ head number entry. request_of hashing head number (act.Deregister entry))
form_of hashing kind.Find = a_find hashing
form_of hashing kind.Registered = a_number_and_an_entry (reply_of reply.Registered)
form_of hashing kind.Taken = a_number_and_an_entry (reply_of reply.Taken)
form_of hashing kind.Removed = a_number reply.Removed
form_of hashing kind.Absent = a_number reply.Absent
form_of hashing kind.Found = a_number_and_an_entry (reply_of reply.Found)
form_of hashing kind.Nothing = a_number reply.Nothing
form_of hashing kind.Retry = a_retry
form_of hashing kind.Ask = an_ask
form_of hashing kind.Page = a_page
form_of hashing kind.Missing = a_range Missing_letter
form_of hashing kind.Done = a_range Done_letter
form_of hashing kind.Query = a_query
form_of hashing kind.Report = a_report
form_of hashing kind.Survey = some_ranges Survey_letter
form_of hashing kind.Empty = some_ranges Empty_letter
form_of hashing kind.Behind = a_range Behind_letter
form_of hashing kind.Ahead = a_range Ahead_letter
form_of hashing kind.Offer = an_offer

-- the kinds, those of requests, of replies, and of the others
abbrev pub request_kinds : List LetterKind
request_kinds = kind.Register ∷ kind.Deregister ∷ kind.Find ∷ kind.Offer ∷ []

abbrev pub reply_kinds : List LetterKind
reply_kinds = kind.Registered ∷ kind.Taken ∷ kind.Removed ∷ kind.Absent ∷ kind.Found ∷ kind.Nothing ∷ kind.Retry ∷ []

abbrev pub transfer_kinds : List LetterKind
transfer_kinds = kind.Ask ∷ kind.Page ∷ kind.Missing ∷ kind.Done ∷ kind.Query ∷ kind.Report ∷ kind.Survey ∷ kind.Empty ∷ kind.Behind ∷ kind.Ahead ∷ []

abbrev pub kinds : List LetterKind
kinds = request_kinds ++ (reply_kinds ++ transfer_kinds)

-- the kind whose word it is
abbrev pub kind_among : List LetterKind → List ℕ → Option LetterKind
kind_among kinds word = find (λ kind. bytes_eq word (kind_word kind)) kinds

-- by the kind, if it is one: 927
abbrev pub letter_by : Option LetterKind → Hashing → Result Head ℕ → List (List ℕ) → Result Letter ℕ
letter_by None hashing head words = Err 927
letter_by (Some kind) hashing head words = form_of hashing kind head words

-- the letter that the words behind `letter` write, hashes being of that kind, or the number of their first fault
unfoldable pub read_letter : Hashing → List (List ℕ) → Result Letter ℕ
read_letter hashing (from ∷ to ∷ version ∷ kind ∷ words) = letter_by (kind_among kinds kind) hashing (head_of_words from to version) words
read_letter hashing words = Err 922

-- A line of visible words is text, and is cut into these words.
use Rattle.std.proofs.Common.{arith, ◌≡◌, ℕ, ◌*◌, ◌/◌, ◌%◌, ◌<◌, suc, Bool, true, false, List, [], ◌∷◌, ◌++◌, Option, Some, None, refl, ap, ◌∙◌, length, decimal, codes}
use Rattle.std.specs.Prelude.{All, ◌&&◌, ◌==◌, nat_le, nat_lt, filter, slice_index, IfSome}
use Rattle.std.specs.List.{list_all, onto_first}
use Rattle.std.proofs.lemmas.Bool.{lt-ltb, ltb-true, le-leb, ne_eqb}
use Rattle.std.proofs.lemmas.List.Elements.{All-nil, All-cons, All-head, All-tail, All-append, All-weaker}
use Rattle.hex.specs.Hex.{encode_lower, encode_with, lower_digits, IsBytes}
use Rattle.hex.proofs.HexLemmas.{length-encode_with}
use Rattle.std.proofs.lemmas.List.Folds.{list_all-append}
use Rattle.texts.specs.Words.{tilde, space, pieces_at, with_byte, is_some_bytes, words_in, sentence}
use Rattle.texts.specs.Numeral.{IsDigit, IsNumeral}
use Rattle.texts.proofs.Decided.{both}
use Rattle.silo_address.specs.Marks.{dot, colon, at_sign, exclamation_mark}
use Rattle.silo_address.specs.Silo.{Silo, IsSilo}
use Rattle.silo_address.specs.SiloText.{Words, AreNumerals, words_text, words_of, silo_text}
use Rattle.silo_address.proofs.SiloLaws.{words_are_numerals}
use Rattle.silo_address.specs.ReadGrain.{is_visible}
use Rattle.silo_address.proofs.GrainCases.{Decides-all_visible}
use Rattle.silo_address.specs.Grain.{Grain, IsGrain, IsVisible, grain_text}
use Rattle.silo_address.specs.declared.ActivationId.{ActivationId}
use Rattle.silo_address.specs.declared.Entry.{Entry}
use Rattle.silo_address.specs.ActivationText.{activation_text}
use Rattle.ring_range.specs.Range.{Range}
use Rattle.ring_range.specs.Text.{plus_sign, range_text}
use Rattle.hash_ring.specs.declared.hashing.Hashing.{Hashing}
use Rattle.directory_rules.specs.declared.act.Act.{Act}
use Rattle.directory_rules.specs.declared.act.Act.TheVariants as act
use Rattle.directory_rules.specs.declared.reply.Why.{Why}
use Rattle.directory_rules.specs.declared.reply.Why.TheVariants as why
use Rattle.directory_rules.specs.declared.reply.Reply.{Reply}
use Rattle.directory_rules.specs.declared.reply.Reply.TheVariants as reply
use Rattle.directory_rules.specs.declared.letter_kind.LetterKind.{LetterKind}
use Rattle.directory_rules.specs.declared.letter_kind.LetterKind.TheVariants as kind
use Rattle.directory_rules.specs.State.{Letter, Body, Request_letter, Reply_letter, Ask_letter, Page_letter, Missing_letter, Done_letter, Query_letter, Report_letter, Survey_letter, Empty_letter, Behind_letter, Ahead_letter, Offer_letter}
use Rattle.directory_rules.specs.Letter.{kind_of}
use Rattle.script_rules.specs.Lines.{kind_word}
use Rattle.script_rules.specs.Script.{is_text}
use Rattle.process_rules.specs.LetterText.{entry_words, entries_words, ranges_words, previous_words, after_words, end_word, act_words, why_words, reply_words, body_words, letter_words, letter_line}
use Rattle.process_rules.specs.Told.{IsActivation, IsEntry, IsDigest, IsAct, IsWhy, IsReply, IsToldBody, IsLetterWith}
use Rattle.process_rules.proofs.Numbers.{decimal_some, decimal_visible}

-- ---- visible words
abbrev IsSeen : List ℕ → Type 0
IsSeen = All IsVisible

record IsWhole (word : List ℕ) : Type 0 where
  some : 0 < length word
  seen : IsSeen word

abbrev AreWhole : List (List ℕ) → Type 0
AreWhole = All IsWhole

no_space : (byte : ℕ) → IsVisible byte → (byte == space) ≡ false
no_space byte visible = let least = visible.0 in ne_eqb byte space (λ same. absurd (omega (arith, least, same)))

-- a word ends at the first space
pieces_front : (word rest : List ℕ) → IsSeen word → pieces_at space (word ++ space ∷ rest) ≡ word ∷ pieces_at space rest
pieces_front [] rest seen = refl
pieces_front (byte ∷ word) rest seen =
    ap (λ (b : Bool). with_byte b byte (pieces_at space (word ++ space ∷ rest))) (no_space byte (All-head IsVisible byte word seen))
    ∙ ap (onto_first byte) (pieces_front word rest (All-tail IsVisible byte word seen))

pieces_alone : (word : List ℕ) → IsSeen word → pieces_at space word ≡ word ∷ []
pieces_alone [] seen = refl
pieces_alone (byte ∷ word) seen =
    ap (λ (b : Bool). with_byte b byte (pieces_at space word)) (no_space byte (All-head IsVisible byte word seen))
    ∙ ap (onto_first byte) (pieces_alone word (All-tail IsVisible byte word seen))

kept : (word : List ℕ) (pieces : List (List ℕ)) → 0 < length word
    → filter is_some_bytes (word ∷ pieces) ≡ word ∷ filter is_some_bytes pieces
kept word pieces some = rw (lt-ltb 0 (length word) some) refl

words_again : (words : List (List ℕ)) → AreWhole words → words_in (sentence words) ≡ words
words_again [] whole = refl
words_again (word ∷ []) whole =
    let is = All-head IsWhole word [] whole in
    ap (filter is_some_bytes) (pieces_alone word is.seen) ∙ kept word [] is.some
words_again (word ∷ next ∷ words) whole =
    let is = All-head IsWhole word (next ∷ words) whole in
    ap (filter is_some_bytes) (pieces_front word (sentence (next ∷ words)) is.seen)
    ∙ kept word (pieces_at space (sentence (next ∷ words))) is.some
    ∙ ap (λ (ws : List (List ℕ)). word ∷ ws) (words_again (next ∷ words) (All-tail IsWhole word (next ∷ words) whole))

-- ---- by a test
whole_by : (word : List ℕ) → (nat_lt 0 (length word) && list_all is_visible word) ≡ true → IsWhole word
whole_by word is =
    let parts = both (nat_lt 0 (length word)) (list_all is_visible word) is in
    record { some = ltb-true 0 (length word) parts.0; seen = (Decides-all_visible word).0 parts.1 }

kind_whole : (kind : LetterKind) → (nat_lt 0 (length (kind_word kind)) && list_all is_visible (kind_word kind)) ≡ true
kind_whole kind.Register = refl
kind_whole kind.Deregister = refl
kind_whole kind.Find = refl
kind_whole kind.Registered = refl
kind_whole kind.Taken = refl
kind_whole kind.Removed = refl
kind_whole kind.Absent = refl
kind_whole kind.Found = refl
kind_whole kind.Nothing = refl
kind_whole kind.Retry = refl
kind_whole kind.Ask = refl
kind_whole kind.Page = refl
kind_whole kind.Missing = refl
kind_whole kind.Done = refl
kind_whole kind.Query = refl
kind_whole kind.Report = refl
kind_whole kind.Survey = refl
kind_whole kind.Empty = refl
kind_whole kind.Behind = refl
kind_whole kind.Ahead = refl
kind_whole kind.Offer = refl

-- ---- texts
numeral_seen : (word : List ℕ) → IsNumeral word → IsSeen word
numeral_seen word numeral =
    All-weaker IsDigit IsVisible (λ byte digit. let least = digit.0 in let most = digit.1 in (omega (arith, least), omega (arith, most)))
    word numeral.digits

number_whole : (number : ℕ) → IsWhole (decimal number)
number_whole number = record { some = decimal_some number; seen = decimal_visible number }

marked : (word : List ℕ) (mark : ℕ) (rest : List ℕ) → IsSeen word → IsVisible mark → IsSeen rest → IsSeen (word ++ mark ∷ rest)
marked word mark rest seen visible more = All-append IsVisible word (mark ∷ rest) seen (All-cons IsVisible mark rest visible more)

some_marked : (word : List ℕ) (mark : ℕ) (rest : List ℕ) → 0 < length (word ++ mark ∷ rest)
some_marked [] mark rest = omega arith
some_marked (byte ∷ word) mark rest = omega arith

words_seen : (words : Words) → AreNumerals words → IsSeen (words_text words)
words_seen words n =
    marked words.first dot _ (numeral_seen words.first n.first) (omega arith, omega arith)
    (marked words.second dot _ (numeral_seen words.second n.second) (omega arith, omega arith)
    (marked words.third dot _ (numeral_seen words.third n.third) (omega arith, omega arith)
    (marked words.fourth colon _ (numeral_seen words.fourth n.fourth) (omega arith, omega arith)
    (marked words.port at_sign _ (numeral_seen words.port n.port) (omega arith, omega arith)
    (numeral_seen words.generation n.generation)))))

silo_whole : (silo : Silo) → IsSilo silo → IsWhole (silo_text silo)
silo_whole silo is =
    record { some = some_marked (words_of silo).first dot _; seen = words_seen (words_of silo) (words_are_numerals silo is) }

grain_whole : (grain : Grain) → IsGrain grain → IsWhole (grain_text grain)
grain_whole grain is = record {
  some = some_marked grain.kind 47 grain.key;
  seen = is.visible;
}

activation_whole : (activation : ActivationId) → IsSilo activation.silo → IsWhole (activation_text activation)
activation_whole activation is = record {
  some = some_marked (silo_text activation.silo) exclamation_mark (decimal activation.count);
  seen =
      marked (silo_text activation.silo) exclamation_mark (decimal activation.count) (silo_whole activation.silo is).seen
      (omega arith, omega arith) (number_whole activation.count).seen;
}

range_whole : (range : Range) → IsWhole (range_text range)
range_whole range = record {
  some = some_marked (decimal range.start) plus_sign (decimal range.size);
  seen =
      marked (decimal range.start) plus_sign (decimal range.size) (number_whole range.start).seen (omega arith, omega arith)
      (number_whole range.size).seen;
}

digits_seen : IsSeen lower_digits
digits_seen = (Decides-all_visible lower_digits).0 refl

digest_seen : (bytes : List ℕ) → IsBytes bytes → IsSeen (encode_lower bytes)
unfolding encode_with
digest_seen [] are = All-nil IsVisible
digest_seen (byte ∷ bytes) are =
    let fits : byte < 256 = are 0 in
    let high : byte / 16 < 16 = omega arith in
    let low : byte % 16 < 16 = omega arith in
    All-cons IsVisible (slice_index lower_digits (byte / 16)) (slice_index lower_digits (byte % 16) ∷ encode_lower bytes)
    (digits_seen (byte / 16) 0 high)
    (All-cons IsVisible (slice_index lower_digits (byte % 16)) (encode_lower bytes) (digits_seen (byte % 16) 0 low)
    (digest_seen bytes (λ k. are (suc k))))

digest_whole : (digest : List ℕ) → IsDigest digest → IsWhole (encode_lower digest)
digest_whole digest is =
    let long : length (encode_lower digest) ≡ 2 * length digest = length-encode_with lower_digits digest in
    let bytes = is.long in
    record { some = omega (arith, long, bytes); seen = digest_seen digest is.bytes }

-- ---- the line is text
text_byte : (byte : ℕ) → IsVisible byte → is_text byte ≡ true
text_byte byte visible =
    let least = visible.0 in
    let most = visible.1 in
    let low : nat_le space byte ≡ true = le-leb space byte (omega (arith, least)) in
    let high : nat_le byte tilde ≡ true = le-leb byte tilde (omega (arith, most)) in
    rw (low, high) refl

text_word : (word : List ℕ) → IsSeen word → list_all is_text word ≡ true
text_word [] seen = refl
text_word (byte ∷ word) seen =
    rw (text_byte byte (All-head IsVisible byte word seen)) (text_word word (All-tail IsVisible byte word seen))

text_sentence : (words : List (List ℕ)) → AreWhole words → list_all is_text (sentence words) ≡ true
text_sentence [] whole = refl
text_sentence (word ∷ []) whole = text_word word (All-head IsWhole word [] whole).seen
text_sentence (word ∷ next ∷ words) whole =
    let front = text_word word (All-head IsWhole word (next ∷ words) whole).seen in
    let back = text_sentence (next ∷ words) (All-tail IsWhole word (next ∷ words) whole) in
    list_all-append is_text word (space ∷ sentence (next ∷ words)) ∙ rw (front, back) refl

-- ---- letters
none : AreWhole []
none = All-nil IsWhole

cons : (word : List ℕ) (words : List (List ℕ)) → IsWhole word → AreWhole words → AreWhole (word ∷ words)
cons word words is are = All-cons IsWhole word words is are

module _ (Fits : ℕ → Type 0) where
  entry_then : (entry : Entry) (words : List (List ℕ)) → IsEntry Fits entry → AreWhole words → AreWhole (entry_words entry ++ words)
  entry_then entry words is are =
      cons (grain_text entry.grain) (activation_text entry.activation ∷ words) (grain_whole entry.grain is.grain)
      (cons (activation_text entry.activation) words (activation_whole entry.activation is.activation.silo) are)

  entry_whole : (entry : Entry) → IsEntry Fits entry → AreWhole (entry_words entry)
  entry_whole entry is = entry_then entry [] is none

  entries_whole : (entries : List Entry) → All (IsEntry Fits) entries → AreWhole (entries_words entries)
  entries_whole [] are = none
  entries_whole (entry ∷ entries) are =
      entry_then entry (entries_words entries) (All-head (IsEntry Fits) entry entries are)
      (entries_whole entries (All-tail (IsEntry Fits) entry entries are))

  previous_whole : (previous : Option ActivationId) → IfSome previous (IsActivation Fits) → AreWhole (previous_words previous)
  previous_whole None is = none
  previous_whole (Some activation) is = cons (activation_text activation) [] (activation_whole activation is.silo) none

  act_whole : (act : Act) → IsAct Fits act → AreWhole (act_words act)
  act_whole (act.Register entry previous) is = entry_then entry (previous_words previous) is.0 (previous_whole previous is.1)
  act_whole (act.Deregister entry) is = entry_whole entry is
  act_whole (act.Find grain) is = cons (grain_text grain) [] (grain_whole grain is) none

  why_whole : (why : Why) → IsWhy Fits why → AreWhole (why_words why)
  why_whole (why.View seen) is =
      cons (codes "601") (decimal seen ∷ []) (whole_by (codes "601") refl) (cons (decimal seen) [] (number_whole seen) none)
  why_whole why.Unsettled is = cons (codes "602") [] (whole_by (codes "602") refl) none
  why_whole (why.OldNumber last) is =
      cons (codes "603") (decimal last ∷ []) (whole_by (codes "603") refl) (cons (decimal last) [] (number_whole last) none)
  why_whole why.NotOwner is = cons (codes "604") [] (whole_by (codes "604") refl) none

  reply_whole : (reply : Reply) → IsReply Fits reply → AreWhole (reply_words reply)
  reply_whole (reply.Registered entry) is = entry_whole entry is
  reply_whole (reply.Taken entry) is = entry_whole entry is
  reply_whole reply.Removed is = none
  reply_whole reply.Absent is = none
  reply_whole (reply.Found entry) is = entry_whole entry is
  reply_whole reply.Nothing is = none
  reply_whole (reply.Retry why) is = why_whole why is

  after_then : (after : Option Grain) (words : List (List ℕ)) → IfSome after IsGrain → AreWhole words → AreWhole (after_words after ++ words)
  after_then None words is are = are
  after_then (Some grain) words is are = cons (grain_text grain) words (grain_whole grain is) are

  after_whole : (after : Option Grain) → IfSome after IsGrain → AreWhole (after_words after)
  after_whole None is = none
  after_whole (Some grain) is = cons (grain_text grain) [] (grain_whole grain is) none

  end_whole : (last : Bool) → IsWhole (end_word last)
  end_whole true = whole_by (codes "last") refl
  end_whole false = whole_by (codes "more") refl

  range_alone : (range : Range) → AreWhole (range_text range ∷ [])
  range_alone range = cons (range_text range) [] (range_whole range) none

  ranges_whole : (ranges : List Range) → AreWhole (ranges_words ranges)
  ranges_whole [] = none
  ranges_whole (range ∷ ranges) = cons (range_text range) (ranges_words ranges) (range_whole range) (ranges_whole ranges)

  module _ (Lies : Range → Type 0) where
    body_whole : (hashing : Hashing) (from : Silo) (version : ℕ) (body : Body) → IsToldBody Fits Lies hashing from version body
        → AreWhole (body_words body)
    body_whole hashing from version (Request_letter request) is =
        cons (decimal request.number) (act_words request.act) (number_whole request.number) (act_whole request.act is.act)
    body_whole hashing from version (Reply_letter number reply) is =
        cons (decimal number) (reply_words reply) (number_whole number) (reply_whole reply is.1)
    body_whole hashing from version (Ask_letter range page) is =
        cons (range_text range) (decimal page ∷ []) (range_whole range) (cons (decimal page) [] (number_whole page) none)
    body_whole hashing from version (Page_letter page) is =
        let entries : List (List ℕ) = entries_words page.entries in
        let behind : List (List ℕ) = encode_lower page.digest ∷ entries in
        let counted : List (List ℕ) = decimal page.pages ∷ behind in
        cons (range_text page.range) (decimal page.page ∷ counted) (range_whole page.range)
        (cons (decimal page.page) counted (number_whole page.page)
        (cons (decimal page.pages) behind (number_whole page.pages)
        (cons (encode_lower page.digest) entries (digest_whole page.digest is.digest) (entries_whole page.entries is.entries))))
    body_whole hashing from version (Missing_letter range) is = range_alone range
    body_whole hashing from version (Done_letter range) is = range_alone range
    body_whole hashing from version (Query_letter range after) is =
        cons (range_text range) (after_words after) (range_whole range) (after_whole after is.1)
    body_whole hashing from version (Report_letter report) is =
        let behind : List (List ℕ) = end_word report.last ∷ entries_words report.entries in
        cons (range_text report.range) (after_words report.after ++ behind) (range_whole report.range)
        (after_then report.after behind is.after
        (cons (end_word report.last) (entries_words report.entries) (end_whole report.last) (entries_whole report.entries is.entries)))
    body_whole hashing from version (Survey_letter ranges) is = ranges_whole ranges
    body_whole hashing from version (Empty_letter ranges) is = ranges_whole ranges
    body_whole hashing from version (Behind_letter range) is = range_alone range
    body_whole hashing from version (Ahead_letter range) is = range_alone range
    body_whole hashing from version (Offer_letter entry) is = entry_whole entry is

    letter_whole : (hashing : Hashing) (letter : Letter) → IsLetterWith Fits Lies hashing letter
        → AreWhole (codes "letter" ∷ letter_words letter)
    letter_whole hashing letter is =
        let kind : List ℕ = kind_word (kind_of letter.body) in
        let says : List (List ℕ) = body_words letter.body in
        let version : List ℕ = decimal letter.version in
        cons (codes "letter") (letter_words letter) (whole_by (codes "letter") refl)
        (cons (silo_text letter.from) (silo_text letter.to ∷ version ∷ kind ∷ says) (silo_whole letter.from is.from)
        (cons (silo_text letter.to) (version ∷ kind ∷ says) (silo_whole letter.to is.to)
        (cons version (kind ∷ says) (number_whole letter.version)
        (cons kind says (whole_by kind (kind_whole (kind_of letter.body)))
        (body_whole hashing letter.from letter.version letter.body is.body)))))

    pub line_is_text : (hashing : Hashing) (letter : Letter) → IsLetterWith Fits Lies hashing letter
        → list_all is_text (letter_line letter) ≡ true
    unfolding letter_line
    line_is_text hashing letter is = text_sentence (codes "letter" ∷ letter_words letter) (letter_whole hashing letter is)

    pub line_words : (hashing : Hashing) (letter : Letter) → IsLetterWith Fits Lies hashing letter
        → words_in (letter_line letter) ≡ codes "letter" ∷ letter_words letter
    unfolding letter_line
    line_words hashing letter is = words_again (codes "letter" ∷ letter_words letter) (letter_whole hashing letter is)

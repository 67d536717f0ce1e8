-- The reading of a silo's text is exact: it finds the silo that the text spells, and each fault where it is the first.
use Rattle.std.proofs.Common.{◌≡◌, inl, inr, lit<, eqb, ◌≤◌, refl, ap, ◌∙◌, subst, ℕ, ◌<◌, ◌^◌, ◌++◌, ◌∷◌, [], true, Option, Some, None, Ok, Err, List, length, arith, get_or}
use Rattle.std.specs.Prelude.{All, nat_lt, slice_index}
use Rattle.std.specs.Bool.{Decides}
use Rattle.std.specs.List.{list_all, position_or_len, before_first, after_first}
use Rattle.std.proofs.lemmas.Bool.Decides.{Decides-like, Decides-and, Decides-ltb, Decides-eqb, Decides-by_and, nat_tests}
use Rattle.std.proofs.Math.Seq.{get_or-append_seam}
use Rattle.std.proofs.lemmas.Option.{cond_some}
use Rattle.std.proofs.lemmas.Bool.{cases_lt, lt-ltb, ltb-true, eq-eqb, eqb-true}
use Rattle.std.proofs.lemmas.List.{length-append, length-take-le, get_or_default, get_or_past}
use Rattle.std.proofs.lemmas.List.Sums.{position_or_len_is, split_at_first, fails_before_first}
use Rattle.silo_address.specs.declared.silo.SiloError.TheVariants.{Shape, NotANumber, OutOfRange}
use Rattle.silo_address.specs.Chain.{◌>>=◌}
use Rattle.silo_address.specs.Marks.{dot, colon, at_sign}
use Rattle.texts.specs.Numeral.{IsNumeral}
use Rattle.silo_address.specs.Silo.{Silo, IsSilo}
use Rattle.silo_address.specs.SiloText.{Words, EachWord, IsWord, HasWords, AreNumerals, is_mark, words_text, words_of, silo_of}
use Rattle.silo_address.specs.ReadSilo.{word_before, only_word, silo_words, are_numerals, is_silo, silo_by_words, read_silo}
use Rattle.texts.proofs.Cuts.{IsCutAt, position-cut, before_first-cut, after_first-cut, front_fails}
use Rattle.texts.proofs.Decided.{both, false_from_not}
use Rattle.texts.proofs.NumeralLaws.{Decides-is_numeral, decimal-numeral_value, numeral_value-decimal, decimal_is_numeral}

-- a chain that gives something gave something at each step
pub chain_gave : {A B : Type 0} (first : Option A) (next : A → Option B) (b : B) → (first >>= next) ≡ Some b
    → (a : A) × (first ≡ Some a) × (next a ≡ Some b)
chain_gave None next b gives = absurd (let none : None ≡ Some b = gives in cc)
chain_gave (Some a) next b gives = (a, refl, gives)

pub word_before_again : (mark : ℕ) (word rest : List ℕ) → IsWord word → is_mark mark ≡ true
    → word_before mark (word ++ mark ∷ rest) ≡ Some (word, rest)
word_before_again mark word rest is_word marks =
    let cut : IsCutAt is_mark word mark = record { fails = is_word.no_mark; ends = marks } in
    let end = position-cut is_mark word mark rest cut in
    let front = before_first-cut is_mark word mark rest cut in
    let back = after_first-cut is_mark word mark rest cut in
    let long = length-append word (mark ∷ rest) in
    let some : nat_lt 0 (length word) ≡ true = lt-ltb _ _ is_word.some in
    let inside : nat_lt (length word) (length (word ++ mark ∷ rest)) ≡ true = lt-ltb _ _ (omega arith) in
    let ends : slice_index (word ++ mark ∷ rest) (length word) ≡ mark = get_or-append_seam word mark rest 0 in
    let same : eqb mark mark ≡ true = eq-eqb mark mark refl in
    rw (front, back, end, some, inside, ends, same) refl

-- what stands before the first mark
front_is_word : (bytes : List ℕ) → 0 < position_or_len is_mark bytes → position_or_len is_mark bytes ≤ length bytes
    → IsWord (before_first is_mark bytes)
front_is_word bytes some within =
    let long = length-take-le (position_or_len is_mark bytes) bytes within in
    record { some = omega arith; no_mark = front_fails is_mark bytes within }

pub word_before_takes : (mark : ℕ) (bytes word rest : List ℕ) → word_before mark bytes ≡ Some (word, rest)
    → (bytes ≡ word ++ mark ∷ rest) × IsWord word
word_before_takes mark bytes word rest gives =
    let parts = cond_some _ _ _ gives in
    let tests = both _ _ parts.0 in
    let sides = both _ _ tests.0 in
    let first : nat_lt 0 (position_or_len is_mark bytes) ≡ true = sides.0 in
    let some = ltb-true _ _ first in
    let within : nat_lt (position_or_len is_mark bytes) (length bytes) ≡ true = sides.1 in
    let inside = ltb-true _ _ within in
    let ends : get_or bytes (position_or_len is_mark bytes) 0 ≡ mark = eqb-true _ _ tests.1 in
    let front : before_first is_mark bytes ≡ word = ap (λ (cut : List ℕ × List ℕ). cut.0) parts.1 in
    let back : after_first is_mark bytes ≡ rest = ap (λ (cut : List ℕ × List ℕ). cut.1) parts.1 in
    let whole : bytes ≡ before_first is_mark bytes ++ mark ∷ after_first is_mark bytes =
    split_at_first is_mark bytes 0 inside ∙ ap (λ byte. before_first is_mark bytes ++ byte ∷ after_first is_mark bytes) ends in
    (whole ∙ (λ i. front i ++ mark ∷ back i), subst IsWord front (front_is_word bytes some (omega arith)))

pub only_word_again : (word : List ℕ) → IsWord word → only_word word ≡ Some word
only_word_again word is_word =
    let end : position_or_len is_mark word ≡ length word = position_or_len_is is_mark word (length word) 0 (omega arith) (λ k below. is_word.no_mark k 0 below) (λ past. absurd (omega arith)) in
    let some : nat_lt 0 (length word) ≡ true = lt-ltb _ _ is_word.some in
    let same : eqb (length word) (length word) ≡ true = eq-eqb (length word) (length word) refl in
    rw (some, end, same) refl

pub only_word_takes : (bytes word : List ℕ) → only_word bytes ≡ Some word → (bytes ≡ word) × IsWord word
only_word_takes bytes word gives =
    let parts = cond_some _ _ _ gives in
    let tests = both _ _ parts.0 in
    let first : nat_lt 0 (length bytes) ≡ true = tests.0 in
    let some = ltb-true _ _ first in
    let end : position_or_len is_mark bytes ≡ length bytes = eqb-true _ _ tests.1 in (
      parts.1,
      subst IsWord parts.1 (record {
        some = some;
        no_mark = λ k d below. fails_before_first is_mark bytes k d (omega arith);
      }),
    )

-- six words, read in turn
pub silo_words_again : (words : Words) → EachWord IsWord words → silo_words (words_text words) ≡ Some words
unfolding silo_words
silo_words_again words each =
    rw (
      word_before_again dot words.first _ each.first refl,
      word_before_again dot words.second _ each.second refl,
      word_before_again dot words.third _ each.third refl,
      word_before_again colon words.fourth _ each.fourth refl,
      word_before_again at_sign words.port _ each.port refl,
      only_word_again words.generation each.generation,
    ) refl

-- what `silo_words` does after each word
abbrev after_port : List ℕ → List ℕ → List ℕ → List ℕ → List ℕ × List ℕ → Option Words
after_port first second third fourth port = only_word port.1
    >>= λ generation. Some (record {
      first = first;
      second = second;
      third = third;
      fourth = fourth;
      port = port.0;
      generation = generation;
    })

abbrev after_fourth : List ℕ → List ℕ → List ℕ → List ℕ × List ℕ → Option Words
after_fourth first second third fourth = word_before at_sign fourth.1 >>= after_port first second third fourth.0

abbrev after_third : List ℕ → List ℕ → List ℕ × List ℕ → Option Words
after_third first second third = word_before colon third.1 >>= after_fourth first second third.0

abbrev after_second : List ℕ → List ℕ × List ℕ → Option Words
after_second first second = word_before dot second.1 >>= after_third first second.0

abbrev after_first_word : List ℕ × List ℕ → Option Words
after_first_word first = word_before dot first.1 >>= after_second first.0

pub words_in_some : {a b : Words} → Some a ≡ Some b → a ≡ b
words_in_some same = cc

pub silo_words_takes : (bytes : List ℕ) (words : Words) → silo_words bytes ≡ Some words → HasWords bytes words
unfolding silo_words
silo_words_takes bytes words gives =
    let first = chain_gave (word_before dot bytes) after_first_word words gives in
    let second = chain_gave (word_before dot first.0.1) (after_second first.0.0) words first.2 in
    let third = chain_gave (word_before dot second.0.1) (after_third first.0.0 second.0.0) words second.2 in
    let fourth = chain_gave (word_before colon third.0.1) (after_fourth first.0.0 second.0.0 third.0.0) words third.2 in
    let port = chain_gave (word_before at_sign fourth.0.1) (after_port first.0.0 second.0.0 third.0.0 fourth.0.0) words fourth.2 in
    let generation = chain_gave (only_word port.0.1) _ words port.2 in
    let a = word_before_takes dot bytes first.0.0 first.0.1 first.1 in
    let b = word_before_takes dot first.0.1 second.0.0 second.0.1 second.1 in
    let c = word_before_takes dot second.0.1 third.0.0 third.0.1 third.1 in
    let d = word_before_takes colon third.0.1 fourth.0.0 fourth.0.1 fourth.1 in
    let e = word_before_takes at_sign fourth.0.1 port.0.0 port.0.1 port.1 in
    let f = only_word_takes port.0.1 generation.0 generation.1 in
    let found : Words = record { first = first.0.0; second = second.0.0; third = third.0.0; fourth = fourth.0.0; port = port.0.0; generation = generation.0 } in
    let same : found ≡ words = words_in_some {a = found} generation.2 in
    subst (HasWords bytes) {x = found} same (record {
      text = a.0 ∙ ap (λ rest. first.0.0 ++ dot ∷ rest) (b.0 ∙ ap (λ rest. second.0.0 ++ dot ∷ rest) (c.0
          ∙ ap (λ rest. third.0.0 ++ dot ∷ rest) (d.0 ∙ ap (λ rest. fourth.0.0 ++ colon ∷ rest)
          (e.0 ∙ ap (λ rest. port.0.0 ++ at_sign ∷ rest) f.0))));
      each = record { first = a.1; second = b.1; third = c.1; fourth = d.1; port = e.1; generation = f.1 };
    })

-- What `read_silo` answers, by the four cases.
pub Decides-are_numerals : (words : Words) → Decides (are_numerals words) (AreNumerals words)
Decides-are_numerals words =
    let one = Decides-is_numeral words.first in
    Decides-like _ (λ p. record {
      first = p.0.0.0.0.0;
      second = p.0.0.0.0.1;
      third = p.0.0.0.1;
      fourth = p.0.0.1;
      port = p.0.1;
      generation = p.1;
    })
    (λ n. (((((n.first, n.second), n.third), n.fourth), n.port), n.generation))
    (Decides-and _ _ (Decides-and _ _ (Decides-and _ _
    (Decides-and _ _ (Decides-and _ _ one (Decides-is_numeral words.second)) (Decides-is_numeral words.third))
    (Decides-is_numeral words.fourth)) (Decides-is_numeral words.port)) (Decides-is_numeral words.generation))

all_bytes : (ip : List ℕ) → All (λ byte. byte < 256) ip → (k : ℕ) → slice_index ip k < 256
all_bytes ip each k =
    elim (cases_lt k (length ip)) [ inl below ↦ each k 0 below | inr past ↦ rw (get_or_past ip k 0 past) (lit< tt) ]

pub Decides-is_silo : (silo : Silo) → Decides (is_silo silo) (IsSilo silo)
Decides-is_silo silo =
    Decides-like _ (λ p. record {
      four_bytes = p.0.0.0.0.0;
      bytes = all_bytes silo.ip p.0.0.0.0.1;
      port_above = p.0.0.0.1;
      port_below = p.0.0.1;
      generation_above = p.0.1;
      generation_below = p.1;
    })
    (λ s. (
      (
        (((s.four_bytes, λ k d below. rw (get_or_default silo.ip k d 0 below) (s.bytes k)), s.port_above), s.port_below),
        s.generation_above,
      ),
      s.generation_below,
    ))
    (Decides-and _ _ (Decides-and _ _ (Decides-and _ _ (Decides-and _ _ (Decides-and _ _ (Decides-eqb (length silo.ip) 4)
    (Decides-by_and (λ byte. nat_lt byte 256) (λ byte. byte < 256) (list_all (λ byte. nat_lt byte 256)) (λ byte. Decides-ltb byte 256) refl
    (λ _ _. refl) silo.ip))
    (Decides-ltb 0 silo.port)) (Decides-ltb silo.port 65536)) (Decides-ltb 0 silo.generation)) (Decides-ltb silo.generation 2147483648))

pub silo_by_words_other : (words : Words) → ¬ (AreNumerals words) → silo_by_words (Some words) ≡ Err NotANumber
silo_by_words_other words other = let no = false_from_not _ (Decides-are_numerals words) other in rw no refl

pub silo_by_words_large : (words : Words) → AreNumerals words → ¬ (IsSilo (silo_of words)) → silo_by_words (Some words) ≡ Err OutOfRange
silo_by_words_large words numerals outside =
    let yes = (Decides-are_numerals words).1 numerals in
    let no = false_from_not _ (Decides-is_silo (silo_of words)) outside in
    rw (yes, no) refl

pub silo_by_words_silo : (words : Words) → AreNumerals words → IsSilo (silo_of words) → silo_by_words (Some words) ≡ Ok (silo_of words)
silo_by_words_silo words numerals silo =
    let yes = (Decides-are_numerals words).1 numerals in
    let also = (Decides-is_silo (silo_of words)).1 silo in
    rw (yes, also) refl

-- What each answer of the reading says of the text.
pub read_silo_words : (text : List ℕ) (words : Words) → HasWords text words → read_silo text ≡ silo_by_words (Some words)
unfolding read_silo
read_silo_words text words has = ap silo_by_words (ap silo_words has.text ∙ silo_words_again words has.each)

pub read_silo_none : (text : List ℕ) → silo_words text ≡ None → read_silo text ≡ Err Shape
unfolding read_silo
read_silo_none text none = ap silo_by_words none

pub has_no_words : (text : List ℕ) (words : Words) → silo_words text ≡ None → ¬ (HasWords text words)
has_no_words text words none has = let some : silo_words text ≡ Some words = ap silo_words has.text ∙ silo_words_again words has.each in cc

-- a numeral has no mark in it
numeral_is_word : (word : List ℕ) → IsNumeral word → IsWord word
numeral_is_word word numeral =
    record { some = numeral.some; no_mark = λ k d below. let digit = numeral.digits k d below in grind (arith, nat_tests) }

pub four : (ip : List ℕ) → length ip ≡ 4 → slice_index ip 0 ∷ slice_index ip 1 ∷ slice_index ip 2 ∷ slice_index ip 3 ∷ [] ≡ ip
four [] none = absurd (omega arith)
four (a ∷ []) one = absurd (omega arith)
four (a ∷ b ∷ []) two = absurd (omega arith)
four (a ∷ b ∷ c ∷ []) three = absurd (omega arith)
four (a ∷ b ∷ c ∷ d ∷ []) long = refl
four (a ∷ b ∷ c ∷ d ∷ e ∷ more) long = absurd (omega arith)

byte_below : (silo : Silo) → IsSilo silo → (k : ℕ) → slice_index silo.ip k < 2 ^ 64
byte_below silo is k = let small = is.bytes k in omega arith

port_below : (silo : Silo) → IsSilo silo → silo.port < 2 ^ 64
port_below silo is = let small = is.port_below in omega arith

generation_below : (silo : Silo) → IsSilo silo → silo.generation < 2 ^ 64
generation_below silo is = let small = is.generation_below in omega arith

-- a silo is spelled with numerals,
pub words_are_numerals : (silo : Silo) → IsSilo silo → AreNumerals (words_of silo)
words_are_numerals silo is = record {
  first = decimal_is_numeral _ (byte_below silo is 0);
  second = decimal_is_numeral _ (byte_below silo is 1);
  third = decimal_is_numeral _ (byte_below silo is 2);
  fourth = decimal_is_numeral _ (byte_below silo is 3);
  port = decimal_is_numeral _ (port_below silo is);
  generation = decimal_is_numeral _ (generation_below silo is);
}

pub each_is_word : (words : Words) → AreNumerals words → EachWord IsWord words
each_is_word words numerals = record {
  first = numeral_is_word _ numerals.first;
  second = numeral_is_word _ numerals.second;
  third = numeral_is_word _ numerals.third;
  fourth = numeral_is_word _ numerals.fourth;
  port = numeral_is_word _ numerals.port;
  generation = numeral_is_word _ numerals.generation;
}

-- which write that silo;
pub silo_of-words_of : (silo : Silo) → IsSilo silo → silo_of (words_of silo) ≡ silo
silo_of-words_of silo is =
    let first = numeral_value-decimal _ (byte_below silo is 0) in
    let second = numeral_value-decimal _ (byte_below silo is 1) in
    let third = numeral_value-decimal _ (byte_below silo is 2) in
    let fourth = numeral_value-decimal _ (byte_below silo is 3) in
    let port = numeral_value-decimal _ (port_below silo is) in
    let generation = numeral_value-decimal _ (generation_below silo is) in
    let ip = (λ i. first i ∷ second i ∷ third i ∷ fourth i ∷ []) ∙ four silo.ip is.four_bytes in
    λ i. record { ip = ip i; port = port i; generation = generation i }

-- and numerals in range are what their silo is spelled with.
pub words_of-silo_of : (words : Words) → AreNumerals words → IsSilo (silo_of words) → words_of (silo_of words) ≡ words
words_of-silo_of words numerals is =
    let first = decimal-numeral_value words.first numerals.first (byte_below (silo_of words) is 0) in
    let second = decimal-numeral_value words.second numerals.second (byte_below (silo_of words) is 1) in
    let third = decimal-numeral_value words.third numerals.third (byte_below (silo_of words) is 2) in
    let fourth = decimal-numeral_value words.fourth numerals.fourth (byte_below (silo_of words) is 3) in
    let port = decimal-numeral_value words.port numerals.port (port_below (silo_of words) is) in
    let generation = decimal-numeral_value words.generation numerals.generation (generation_below (silo_of words) is) in
    λ i. record { first = first i; second = second i; third = third i; fourth = fourth i; port = port i; generation = generation i }

-- Whatever a line asks for is in its range.
use Rattle.std.proofs.Common.{arith, ◌≡◌, ℕ, ◌<◌, Bool, true, false, List, [], ◌∷◌, ◌++◌, Option, Some, None, Result, Ok, Err, refl, subst, length}
use Rattle.std.specs.Prelude.{⊤, All, IfOk, bytes_eq, cond, nat_le, nat_lt}
use Rattle.std.specs.List.{list_all}
use Rattle.std.specs.Map.{lookup}
use Rattle.std.proofs.lemmas.Bool.{leb-true}
use Rattle.std.proofs.lemmas.List.Elements.{All-nil, All-cons}
use Rattle.texts.specs.declared.NumberError.TheVariants as number_fault
use Rattle.texts.specs.Numeral.{is_numeral, numeral_value}
use Rattle.texts.specs.Words.{words_in, pieces_at}
use Rattle.silo_address.specs.Silo.{Silo, IsSilo}
use Rattle.silo_address.specs.Grain.{Grain, IsGrain}
use Rattle.ring_range.specs.Range.{circle}
use Rattle.hash_ring.specs.declared.hashing.Hashing.{Hashing}
use Rattle.membership_view.specs.declared.status.Status.{Status}
use Rattle.directory_rules.specs.Membership.{Listed}
use Rattle.directory_rules.specs.declared.own_step.OwnStep.{OwnStep}
use Rattle.directory_rules.specs.declared.own_step.OwnStep.TheVariants as own
use Rattle.directory_rules.specs.OwnStep.{IsOwnStep}
use Rattle.script_rules.specs.Script.{silo_word, grain_word, number_word, number_or_fault, hash_word, places_in, Grammar, no_word, a_grain, a_part, ranges_word, a_grain_and_a_silo, is_text, is_remark, ◌>>=◌}
use Rattle.process_rules.specs.ReadLetter.{read_letter}
use Rattle.process_rules.specs.ReadLine.{Asked, Joined, Leaving, Dead, Begin, See, Do, Receive, Owner, Place, Figures, Show, Dump, a_word, token_in, behind_token, a_join, a_version_and_a_silo, a_version, a_view, colon, comma, status_named, listed_as, listed_of, listed_word, listed_in, own_policy_word, a_grain_and_a_policy, a_letter, a_step, step_commands, commands, longest_line, asked_if_known, asked_of_words, read_silo_line}
use Rattle.process_rules.specs.Told.{IsNumber, IsTold}
use Rattle.process_rules.specs.InRange.{IsInRange, IsListed}
use Rattle.process_rules.proofs.LettersAgain.{was_told}
use Rattle.process_rules.proofs.WordsTold.{number_told, silo_told, grain_told}

-- ---- what is read is in its range
of_given : {A : Type 0} (Is : A → Type 0) (read : Result A ℕ) → ((given : A) → read ≡ Ok given → Is given) → IfOk read Is
of_given Is (Ok given) each = each given refl
of_given Is (Err fault) each = tt

module _ {A X : Type 0} (P : A → Type 0) (Is : X → Type 0) (make : A → X) where
  one_in : (x : Result A ℕ) → ((a : A) → P a → Is (make a)) → IfOk x P → IfOk (x >>= λ p. Ok (make p)) Is
  one_in (Ok a) makes first = makes a first
  one_in (Err fault) makes first = tt

module _ {A B X : Type 0} (P : A → Type 0) (Q : B → Type 0) (Is : X → Type 0) (make : A → B → X) where
  two_in : (x : Result A ℕ) (y : Result B ℕ) → ((a : A) (b : B) → P a → Q b → Is (make a b)) → IfOk x P → IfOk y Q
      → IfOk (x >>= λ p. y >>= λ q. Ok (make p q)) Is
  two_in (Ok a) (Ok b) makes first second = makes a b first second
  two_in (Ok a) (Err fault) makes first second = tt
  two_in (Err fault) y makes first second = tt

module _ {A B C X : Type 0} (P : A → Type 0) (Q : B → Type 0) (R : C → Type 0) (Is : X → Type 0) (make : A → B → C → X) where
  three_in : (x : Result A ℕ) (y : Result B ℕ) (z : Result C ℕ) → ((a : A) (b : B) (c : C) → P a → Q b → R c → Is (make a b c)) → IfOk x P
      → IfOk y Q → IfOk z R
      → IfOk (x >>= λ p. y >>= λ q. z >>= λ r. Ok (make p q r)) Is
  three_in (Ok a) (Ok b) (Ok c) makes first second third = makes a b c first second third
  three_in (Ok a) (Ok b) (Err fault) makes first second third = tt
  three_in (Ok a) (Err fault) z makes first second third = tt
  three_in (Err fault) y z makes first second third = tt

-- ---- words
number_in : (word : List ℕ) → IfOk (number_word word) IsNumber
number_in word = of_given IsNumber (number_word word) (number_told word)

silo_in : (word : List ℕ) → IfOk (silo_word word) IsSilo
silo_in word = of_given IsSilo (silo_word word) (silo_told word)

grain_in : (word : List ℕ) → IfOk (grain_word word) IsGrain
grain_in word = of_given IsGrain (grain_word word) (grain_told word)

abbrev IsHash : ℕ → Type 0
IsHash place = place < circle

hash_by : (value : ℕ) (numeral within : Bool) → nat_le value 4294967295 ≡ within
    → IfOk (number_or_fault (cond numeral (cond within (Ok value) (Err number_fault.OutOfRange)) (Err number_fault.NotANumber))) IsHash
hash_by value true true is = let most = leb-true value 4294967295 is in omega (arith, most)
hash_by value true false is = tt
hash_by value false within is = tt

hash_in : (word : List ℕ) → IfOk (hash_word word) IsHash
hash_in word = hash_by (numeral_value word) (is_numeral word) (nat_le (numeral_value word) 4294967295) refl

abbrev more : ℕ → List ℕ → List ℕ
more place places = place ∷ places

all_in : (words : List (List ℕ)) → IfOk (places_in words) (All IsHash)
all_in [] = All-nil IsHash
all_in (word ∷ words) =
    two_in IsHash (All IsHash) (All IsHash) more (hash_word word) (places_in words)
    (λ place places is are. All-cons IsHash place places is are) (hash_in word) (all_in words)

-- ---- the silos of a view
abbrev listed_with : Status → Silo → List ℕ → Listed
listed_with status silo places = record { silo = silo; status = status; places = places }

as_listed_in : (status : Option Status) (silo : List ℕ) (places : List (List ℕ)) → IfOk (listed_as status silo places) IsListed
as_listed_in None silo places = tt
as_listed_in (Some status) silo places =
    two_in IsSilo (All IsHash) IsListed (listed_with status) (silo_word silo) (places_in places) (λ s p first second. (first, second))
    (silo_in silo) (all_in places)

cut_in : (pieces : List (List ℕ)) → IfOk (listed_of pieces) IsListed
cut_in [] = tt
cut_in (one ∷ []) = tt
cut_in (one ∷ two ∷ []) = tt
cut_in (host ∷ port ∷ status ∷ []) = as_listed_in (status_named status) (host ++ colon ∷ port) []
cut_in (host ∷ port ∷ status ∷ places ∷ []) = as_listed_in (status_named status) (host ++ colon ∷ port) (pieces_at comma places)
cut_in (one ∷ two ∷ three ∷ four ∷ five ∷ pieces) = tt

abbrev one_more : Listed → List Listed → List Listed
one_more one others = one ∷ others

all_listed_in : (words : List (List ℕ)) → IfOk (listed_in words) (All IsListed)
all_listed_in [] = All-nil IsListed
all_listed_in (word ∷ words) =
    two_in IsListed (All IsListed) (All IsListed) one_more (listed_word word) (listed_in words)
    (λ one others is are. All-cons IsListed one others is are) (cut_in (pieces_at colon word)) (all_listed_in words)

-- ---- what stands behind a name
module _ {A : Type 0} (Is : A → Type 0) where
  abbrev Makes : Grammar A → Type 0
  Makes grammar = (words : List (List ℕ)) → IfOk (grammar words) Is

  none_makes : (value : A) → Is value → Makes (no_word value)
  none_makes value is [] = is
  none_makes value is (word ∷ words) = tt

  grain_makes : (of : Grain → A) → ((grain : Grain) → IsGrain grain → Is (of grain)) → Makes (a_grain of)
  grain_makes of makes [] = tt
  grain_makes of makes (grain ∷ []) = one_in IsGrain Is of (grain_word grain) makes (grain_in grain)
  grain_makes of makes (one ∷ two ∷ words) = tt

  offer_makes : (of : Grain → Silo → A) → ((grain : Grain) (silo : Silo) → IsGrain grain → IsSilo silo → Is (of grain silo))
      → Makes (a_grain_and_a_silo of)
  offer_makes of makes [] = tt
  offer_makes of makes (one ∷ []) = tt
  offer_makes of makes (grain ∷ silo ∷ []) =
      two_in IsGrain IsSilo Is of (grain_word grain) (silo_word silo) makes (grain_in grain) (silo_in silo)
  offer_makes of makes (one ∷ two ∷ three ∷ words) = tt

part_makes : Makes IsOwnStep a_part
part_makes [] = tt
part_makes (part ∷ []) = by (bytes_eq part ranges_word)
  where
    by : (b : Bool) → IfOk (cond b (Ok own.NudgeRanges) (a_grain own.NudgeGrain (part ∷ []))) IsOwnStep
    by true = tt
    by false = grain_makes IsOwnStep own.NudgeGrain (λ g is. is) (part ∷ [])
part_makes (one ∷ two ∷ words) = tt

-- ---- commands
module _ (hashing : Hashing) where
  abbrev Asks : Grammar Asked → Type 0
  Asks grammar = Makes (IsInRange hashing) grammar

  none_asks : (asked : Asked) → IsInRange hashing asked → Asks (no_word asked)
  none_asks = none_makes (IsInRange hashing)

  word_asks : Asks a_word
  word_asks [] = tt
  word_asks (word ∷ []) = tt
  word_asks (one ∷ other ∷ words) = tt

  join_asks : Asks a_join
  join_asks [] = tt
  join_asks (one ∷ []) = tt
  join_asks (version ∷ silo ∷ words) =
      three_in IsNumber IsSilo (All IsHash) (IsInRange hashing) (λ v s p. Joined v s (token_in words) p) (number_word version)
      (silo_word silo) (places_in (behind_token words))
      (λ v s p first second third. (first, second, third)) (number_in version) (silo_in silo) (all_in (behind_token words))

  change_asks : (of : ℕ → Silo → Asked) → ((version : ℕ) (silo : Silo) → IsNumber version → IsSilo silo
      → IsInRange hashing (of version silo)) → Asks (a_version_and_a_silo of)
  change_asks of makes [] = tt
  change_asks of makes (one ∷ []) = tt
  change_asks of makes (version ∷ silo ∷ []) =
      two_in IsNumber IsSilo (IsInRange hashing) of (number_word version) (silo_word silo) makes (number_in version) (silo_in silo)
  change_asks of makes (one ∷ two ∷ three ∷ words) = tt

  version_asks : Asks a_version
  version_asks [] = tt
  version_asks (version ∷ []) = one_in IsNumber (IsInRange hashing) See (number_word version) (λ v is. is) (number_in version)
  version_asks (one ∷ two ∷ words) = tt

  view_asks : Asks a_view
  view_asks [] = tt
  view_asks (version ∷ words) =
      two_in IsNumber (All IsListed) (IsInRange hashing) Begin (number_word version) (listed_in words) (λ v rows first second. (first, second))
      (number_in version) (all_listed_in words)

  step_asks : (grammar : Grammar OwnStep) → Makes IsOwnStep grammar → Asks (a_step grammar)
  step_asks grammar makes words = one_in IsOwnStep (IsInRange hashing) Do (grammar words) (λ step is. is) (makes words)

  grain_step_asks : (of : Grain → OwnStep) → ((grain : Grain) → IsGrain grain → IsOwnStep (of grain)) → Asks (a_step (a_grain of))
  grain_step_asks of makes = step_asks (a_grain of) (grain_makes IsOwnStep of makes)

  policy_asks : Asks a_grain_and_a_policy
  policy_asks [] = tt
  policy_asks (one ∷ []) = tt
  policy_asks (grain ∷ policy ∷ []) =
      two_in IsGrain (λ p. ⊤) (IsInRange hashing) Place (grain_word grain) (own_policy_word policy) (λ g p first second. first)
      (grain_in grain) (of_given (λ p. ⊤) (own_policy_word policy) (λ p given. tt))
  policy_asks (one ∷ two ∷ three ∷ words) = tt

  letter_asks : Asks (a_letter hashing)
  letter_asks words =
      one_in (IsTold hashing) (IsInRange hashing) Receive (read_letter hashing words) (λ l is. is)
      (of_given (IsTold hashing) (read_letter hashing words) (λ l given. (was_told hashing words l given).told))

  abbrev AskAll : List (List ℕ × Grammar Asked) → Type 0
  AskAll [] = ⊤
  AskAll (row ∷ rows) = Asks row.1 × AskAll rows

  steps_ask : AskAll step_commands
  steps_ask = (
    grain_step_asks own.Wake (λ g is. is),
    (
      grain_step_asks own.Close (λ g is. is),
      (
        grain_step_asks own.Find (λ g is. is),
        (
          grain_step_asks own.Forget (λ g is. is),
          (
            step_asks a_part part_makes,
            (
              step_asks (a_grain_and_a_silo own.Offer) (offer_makes IsOwnStep own.Offer (λ g s first second. (first, second))),
              (grain_step_asks own.Cancel (λ g is. is), tt),
            ),
          ),
        ),
      ),
    ),
  )

  commands_ask : AskAll (commands hashing)
  commands_ask = (
    join_asks,
    (
      change_asks Leaving (λ v s first second. (first, second)),
      (
        change_asks Dead (λ v s first second. (first, second)),
        (
          view_asks,
          (
            version_asks,
            (
              letter_asks,
              (
                word_asks,
                (
                  grain_makes (IsInRange hashing) Owner (λ g is. is),
                  (policy_asks, (none_asks Figures tt, (none_asks Show tt, (none_asks Dump tt, steps_ask)))),
                ),
              ),
            ),
          ),
        ),
      ),
    ),
  )

  -- ---- lines
  abbrev Says : Result (Option Asked) ℕ → Type 0
  Says read = (asked : Asked) → read ≡ Ok (Some asked) → IsInRange hashing asked

  given_says : (read : Result Asked ℕ) → IfOk read (IsInRange hashing) → Says (read >>= λ asked. Ok (Some asked))
  given_says (Ok other) is asked given = subst (IsInRange hashing) (same given) is
    where
      same : {a b : Asked} → ◌≡◌ {A = Result (Option Asked) ℕ} (Ok (Some a)) (Ok (Some b)) → a ≡ b
      same equal = cc
  given_says (Err fault) is asked given = cc given

  known_says : (test : List ℕ → Bool) (named : List (List ℕ × Grammar Asked)) → AskAll named → (words : List (List ℕ))
      → Says (asked_if_known (lookup test named) words)
  known_says test [] all words asked given = cc given
  known_says test (e ∷ named) all words asked given =
      by (test e.0) (known_says test named all.1 words) asked given
    where
      by : (b : Bool) → Says (asked_if_known (lookup test named) words)
          → Says (asked_if_known (cond b (Some e.1) (lookup test named)) words)
      by true later = given_says (e.1 words) (all.0 words)
      by false later = later

  words_say : (words : List (List ℕ)) → Says (asked_of_words hashing words)
  words_say [] asked given = cc given
  words_say (name ∷ words) asked given = by (is_remark name) asked given
    where
      by : (b : Bool) → Says (cond b (Ok None) (asked_if_known (lookup (bytes_eq name) (commands hashing)) words))
      by true asked given = cc given
      by false asked given = known_says (bytes_eq name) (commands hashing) commands_ask words asked given

  pub line_in_range : (line : List ℕ) → Says (read_silo_line hashing line)
  unfolding read_silo_line
  line_in_range line = by (nat_lt longest_line (length line)) (list_all is_text line)
    where
      by : (long text : Bool) → Says (cond long (Err 924) (cond text (asked_of_words hashing (words_in line)) (Err 925)))
      by true text asked given = cc given
      by false true asked given = words_say (words_in line) asked given
      by false false asked given = cc given

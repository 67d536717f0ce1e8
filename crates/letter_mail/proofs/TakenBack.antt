-- Letters that were sent are taken back, or the letter that is received is still the same.
use Rattle.std.proofs.Common.{◌≡◌, ℕ, ◌+◌, ◌-◌, ◌≤◌, Bool, true, false, cond, List, [], ◌∷◌, ◌++◌, length, map, Option, Some, None, IsSome, refl, ◌∙◌, ap, arith}
use Rattle.std.specs.Prelude.{nat_le}
use Rattle.std.specs.Option.{option_map}
use Rattle.std.specs.List.{enumerate_from, filter}
use Rattle.std.specs.Ordering.{nat_cmp}
use Rattle.std.specs.Map.{lookup, set_value}
use Rattle.std.specs.BTreeMap.{is_at}
use Rattle.std.proofs.lemmas.Bool.{le-leb, lt-leb}
use Rattle.std.proofs.lemmas.List.{append-nil}
use Rattle.std.proofs.lemmas.List.Elements.{filter-append}
use Rattle.directory_rules.specs.State.{Letter, Posted}
use Rattle.directory_rules.specs.Mail.{fresh_letter}
use Rattle.directory_rules.specs.Laws.{RiseBetween}
use Rattle.letter_mail.specs.Mail.{HasRisingNumbers, MailValue, letter_in, with_posted, with_stale, without_last}

-- ---- taken back
abbrev sent_now : ℕ → List Letter → List (ℕ × Posted)
sent_now sent letters = map (λ e. (e.0, fresh_letter e.1)) (enumerate_from (sent + 1) letters)

abbrev up_to : ℕ → List (ℕ × Posted) → List (ℕ × Posted)
up_to bound letters = filter (λ e. nat_le e.0 bound) letters

ends : (low high : ℕ) (letters : List (ℕ × Posted)) → RiseBetween low high letters → low ≤ high
ends low high [] rise = rise
ends low high (e ∷ es) rise = let later = ends e.0 high es rise.1 in let below = rise.0 in omega arith

all_stay : (bound low : ℕ) (letters : List (ℕ × Posted)) → RiseBetween low bound letters → up_to bound letters ≡ letters
all_stay bound low [] rise = refl
all_stay bound low (e ∷ es) rise =
    ap (λ b. cond b (e ∷ up_to bound es) (up_to bound es)) (le-leb e.0 bound (ends e.0 bound es rise.1))
    ∙ ap (λ (l : List (ℕ × Posted)). e ∷ l) (all_stay bound e.0 es rise.1)

all_go : (bound sent : ℕ) (letters : List Letter) → bound ≤ sent → up_to bound (sent_now sent letters) ≡ []
all_go bound sent [] within = refl
all_go bound sent (letter ∷ letters) within =
    ap (λ b. cond b ((sent + 1, fresh_letter letter) ∷ up_to bound (sent_now (sent + 1) letters))
    (up_to bound (sent_now (sent + 1) letters))) (lt-leb (sent + 1) bound (omega arith))
    ∙ all_go bound (sent + 1) letters (omega arith)

-- what was just sent is taken back, and the mail is as it was
pub taken_back : (mail : MailValue) (letters : List Letter) → HasRisingNumbers mail
    → without_last (with_posted mail letters) (length letters) ≡ mail
taken_back mail letters are =
    ap (λ n. record { letters = up_to n (mail.letters ++ sent_now mail.sent letters); sent = n }) (back mail.sent (length letters))
    ∙ ap (λ (l : List (ℕ × Posted)). record { letters = l; sent = mail.sent })
    (filter-append (λ e. nat_le e.0 mail.sent) mail.letters (sent_now mail.sent letters)
    ∙ ap (λ (l : List (ℕ × Posted)). up_to mail.sent mail.letters ++ l) (all_go mail.sent mail.sent letters (omega arith))
    ∙ append-nil (up_to mail.sent mail.letters)
    ∙ all_stay mail.sent 0 mail.letters are.rising)
  where
    back : (n m : ℕ) → n + m - m ≡ n
    back n m = omega arith

pub undone : (mail now after : MailValue) (letters : List Letter) (count : ℕ) → HasRisingNumbers mail → count ≡ length letters
    → now ≡ with_posted mail letters → after ≡ without_last now count
    → after ≡ mail
undone mail now after letters count are count_is now_is is =
    is ∙ ap (λ n. without_last now n) count_is ∙ ap (λ (m : MailValue). without_last m (length letters)) now_is
    ∙ taken_back mail letters are

-- ---- the letter that is received
found_at : {X : Type 0} (test : ℕ → Bool) (es more : List (ℕ × X)) → IsSome (lookup test es) → lookup test (es ++ more) ≡ lookup test es
found_at test [] more there = absurd (cc (there))
found_at test (e ∷ es) more there = by (test e.0) (λ later. found_at test es more later) there
  where
    by : (b : Bool) → (IsSome (lookup test es) → lookup test (es ++ more) ≡ lookup test es) → IsSome (cond b (Some e.1) (lookup test es))
        → cond b (Some e.1) (lookup test (es ++ more)) ≡ cond b (Some e.1) (lookup test es)
    by true later there = refl
    by false later there = later there

set_in : {X : Type 0} (test : ℕ → Bool) (es more : List (ℕ × X)) (v : X) → IsSome (lookup test es)
    → set_value test (es ++ more) v ≡ set_value test es v ++ more
set_in test [] more v there = absurd (cc (there))
set_in {X} test (e ∷ es) more v there = by (test e.0) (λ later. set_in test es more v later) there
  where
    by : (b : Bool) → (IsSome (lookup test es) → set_value test (es ++ more) v ≡ set_value test es v ++ more)
        → IsSome (cond b (Some e.1) (lookup test es))
        → cond b ((e.0, v) ∷ es ++ more) (e ∷ set_value test (es ++ more) v) ≡ cond b ((e.0, v) ∷ es) (e ∷ set_value test es v) ++ more
    by true later there = refl
    by false later there = ap (λ (l : List (ℕ × X)). e ∷ l) (later there)

there_at : (found : Option Posted) → IsSome (option_map (λ posted. posted.letter) found) → IsSome found
there_at None there = absurd (cc (there))
there_at (Some posted) there = refl

pub letter_still : (mail now : MailValue) (letters : List Letter) (number : ℕ) → now ≡ with_posted mail letters
    → IsSome (letter_in mail number) → letter_in now number ≡ letter_in mail number
letter_still mail now letters number now_is there =
    ap (λ (m : MailValue). letter_in m number) now_is
    ∙ ap (λ o. option_map (λ (p : Posted). p.letter) o)
    (found_at (is_at (nat_cmp number)) mail.letters (sent_now mail.sent letters)
    (there_at (lookup (is_at (nat_cmp number)) mail.letters) there))

pub stale_first : (mail now after : MailValue) (letters : List Letter) (number : ℕ) (letter : Letter) → now ≡ with_posted mail letters
    → IsSome (letter_in mail number)
    → after ≡ with_stale now number letter → after ≡ with_posted (with_stale mail number letter) letters
stale_first mail now after letters number letter now_is there is =
    is ∙ ap (λ (m : MailValue). with_stale m number letter) now_is
    ∙ ap (λ (l : List (ℕ × Posted)). record { letters = l; sent = mail.sent + length letters })
    (set_in (is_at (nat_cmp number)) mail.letters (sent_now mail.sent letters) (record { letter = letter; fresh = false })
    (there_at (lookup (is_at (nat_cmp number)) mail.letters) there))

-- Which lines begin with `firm`: of all that a process writes, the one that tells that an activation is firm.
use Rattle.std.proofs.Common.{arith, ◌≡◌, ℕ, Bool, true, false, List, [], ◌∷◌, ◌++◌, Option, Some, None, refl, sym, ap, ◌∙◌, append-nil}
use Rattle.std.specs.Prelude.{◌==◌, cond, map, All, codes}
use Rattle.std.specs.Fmt.{decimal}
use Rattle.std.proofs.lemmas.Bool.{eq-eqb, ne_eqb}
use Rattle.std.proofs.lemmas.List.Elements.{All-nil, All-cons, All-append, All-head, All-map}
use Rattle.texts.specs.Words.{space, sentence}
use Rattle.texts.specs.Numeral.{IsDigit, IsNumeral}
use Rattle.silo_address.specs.Silo.{Silo, IsSilo}
use Rattle.silo_address.specs.SiloText.{words_of, silo_text}
use Rattle.silo_address.specs.Grain.{Grain, grain_text}
use Rattle.silo_address.specs.ActivationText.{activation_text}
use Rattle.silo_address.proofs.SiloLaws.{words_are_numerals}
use Rattle.membership_view.specs.declared.status.Status.{Status}
use Rattle.membership_view.specs.declared.status.Status.TheVariants as status
use Rattle.ring_range.specs.Text.{range_text}
use Rattle.directory_rules.specs.declared.effect.Effect.{Effect}
use Rattle.directory_rules.specs.declared.effect.Effect.TheVariants as effect
use Rattle.directory_rules.specs.declared.held.Held.{Held}
use Rattle.directory_rules.specs.declared.policy.Policy.{Policy}
use Rattle.directory_rules.specs.declared.outcome.Happening.TheVariants.{Saw, Did}
use Rattle.directory_rules.specs.State.{Letter, Piece}
use Rattle.silo_rules.specs.declared.news.News.{News}
use Rattle.silo_rules.specs.declared.news.News.TheVariants.{Known, Made, Replaced}
use Rattle.directory_rules.specs.Membership.{Change, Join, Leave, Die}
use Rattle.silo_rules.specs.SiloValue.{SiloValue, own_status}
use Rattle.silo_rules.specs.Figures.{figures}
use Rattle.script_rules.specs.Lines.{effect_words, happening_words, refusal_line}
use Rattle.script_rules.specs.Show.{held_line, phase_word, seen_words}
use Rattle.process_rules.specs.LetterText.{letter_words, letter_line}
use Rattle.process_rules.specs.Answer.{printing, unless_dead}
use Rattle.process_rules.specs.Happened.{news_words, delivered_words}
use Rattle.process_rules.specs.Output.{fault_line}
use Rattle.process_rules.specs.Show.{own_word, state_words, piece_line, show_lines, dump_line, figures_words, figures_line, grain_owner_line, grain_place_line}
use Rattle.process_deployment.specs.Firm.{SaysFirm}
use Rattle.process_deployment.proofs.Answers.{owner_tail, place_tail}

abbrev pub IsOther : List ℕ → Type 0
IsOther line = ¬ (SaysFirm line)

abbrev pub AreOther : List (List ℕ) → Type 0
AreOther lines = All IsOther lines

-- whether the bytes differ from these before either ends
abbrev pub differs : List ℕ → List ℕ → Bool
differs [] bytes = false
differs (byte ∷ word) [] = false
differs (byte ∷ word) (other ∷ bytes) = cond (byte == other) (differs word bytes) true

never_same : (word bytes tail rest : List ℕ) → differs word bytes ≡ true → word ++ tail ≡ bytes ++ rest → ⊥
never_same [] bytes tail rest is same = cc is
never_same (byte ∷ word) [] tail rest is same = cc is
never_same (byte ∷ word) (other ∷ bytes) tail rest is same =
    let head : byte ≡ other = cc same in
    let others : word ++ tail ≡ bytes ++ rest = cc same in
    never_same word bytes tail rest (sym (ap (λ b. cond b (differs word bytes) true) (eq-eqb byte other head)) ∙ is) others

by_byte : (byte : ℕ) (rest : List ℕ) → differs (byte ∷ []) (codes "firm ") ≡ true → IsOther (byte ∷ rest)
by_byte byte rest is says = never_same (byte ∷ []) (codes "firm ") rest says.0 is says.1

-- ---- by the first word
abbrev pub is_other : List (List ℕ) → Bool
is_other [] = false
is_other (word ∷ words) = differs word (codes "firm ")

by_word : (word : List ℕ) (words : List (List ℕ)) → differs word (codes "firm ") ≡ true → IsOther (sentence (word ∷ words))
by_word word [] is says = never_same word (codes "firm ") [] says.0 is (append-nil word ∙ says.1)
by_word word (next ∷ words) is says = never_same word (codes "firm ") (space ∷ sentence (next ∷ words)) says.0 is says.1

pub by_words : (words : List (List ℕ)) → is_other words ≡ true → IsOther (sentence words)
by_words [] is = absurd (cc is)
by_words (word ∷ words) is = by_word word words is

pub alone : (line : List ℕ) → IsOther line → AreOther (line ∷ [])
alone line is = All-cons IsOther line [] is (All-nil IsOther)

-- ---- a silo's text begins with a digit
digit_differs : (word tail : List ℕ) → IsNumeral word → differs (word ++ tail) (codes "firm ") ≡ true
digit_differs [] tail numeral = let some = numeral.some in absurd (omega (some, arith))
digit_differs (byte ∷ word) tail numeral =
    let digit : IsDigit byte = All-head IsDigit byte word numeral.digits in
    let most = digit.1 in
    ap (λ b. cond b (differs (word ++ tail) (codes "irm ")) true) (ne_eqb byte 102 (λ same. omega (same, most, arith)))

pub silo_other : (silo : Silo) (words : List (List ℕ)) → IsSilo silo → IsOther (sentence (silo_text silo ∷ words))
silo_other silo words is = by_word (silo_text silo) words (digit_differs (words_of silo).first _ (words_are_numerals silo is).first)

-- ---- the lines
pub refusal_other : (number : ℕ) → IsOther (refusal_line number)
refusal_other number = by_words (codes "refused" ∷ decimal number ∷ []) refl

pub fault_other : (fault : ℕ) → IsOther (fault_line fault)
fault_other fault = by_words (codes "fault" ∷ decimal fault ∷ []) refl

pub pong_other : (word : List ℕ) → IsOther (sentence (codes "pong" ∷ word ∷ []))
pong_other word = by_words (codes "pong" ∷ word ∷ []) refl

letter_other : (letter : Letter) → IsOther (letter_line letter)
unfolding letter_line
letter_other letter = by_words (codes "letter" ∷ letter_words letter) refl

pub letters_other : (letters : List Letter) → AreOther (map letter_line letters)
letters_other letters = All-map IsOther letter_line letters (λ k letter below. letter_other _)

news_is_other : (version : ℕ) (change : Change) (news : News) → is_other (news_words version change news) ≡ true
news_is_other version change Known = refl
news_is_other version (Join silo places) Made = refl
news_is_other version (Leave silo) Made = refl
news_is_other version (Die silo) Made = refl
news_is_other version (Join silo places) (Replaced old) = refl
news_is_other version (Leave silo) (Replaced old) = refl
news_is_other version (Die silo) (Replaced old) = refl

told_other : (own : Option Status) (line : List ℕ) (s : SiloValue) → IsOther line
    → AreOther (unless_dead own (printing (line ∷ []) s)).lines
told_other None line s is = alone line is
told_other (Some status.Active) line s is = alone line is
told_other (Some status.Leaving) line s is = alone line is
told_other (Some status.Dead) line s is =
    All-cons IsOther line (codes "dead" ∷ []) is (alone (codes "dead") (by_words (codes "dead" ∷ []) refl))

pub news_other : (version : ℕ) (change : Change) (news : News) (own : Option Status) (s : SiloValue)
    → AreOther (unless_dead own (printing (sentence (news_words version change news) ∷ []) s)).lines
news_other version change news own s =
    told_other own (sentence (news_words version change news)) s
    (by_words (news_words version change news) (news_is_other version change news))

pub saw_other : (silo : Silo) (version : ℕ) (made : Effect) → IsSilo silo → IsOther (sentence (happening_words (Saw silo version made)))
saw_other silo version made is = silo_other silo (codes "sees" ∷ decimal version ∷ effect_words made) is

-- what a silo did, but for one thing
did_is_other : (silo : Silo) (made : Effect) → ¬ (made ≡ effect.Firm) → is_other (happening_words (Did silo made)) ≡ true
did_is_other silo effect.Next never = refl
did_is_other silo effect.Skip never = refl
did_is_other silo (effect.Started entry) never = refl
did_is_other silo (effect.Closing entry) never = refl
did_is_other silo (effect.Cancelled entry) never = refl
did_is_other silo (effect.Offered entry to) never = refl
did_is_other silo (effect.Cached entry) never = refl
did_is_other silo (effect.Finding grain) never = refl
did_is_other silo (effect.Forgot grain) never = refl
did_is_other silo (effect.NothingCached grain) never = refl
did_is_other silo effect.Nudged never = refl
did_is_other silo effect.Registered never = refl
did_is_other silo effect.Taken never = refl
did_is_other silo effect.Removed never = refl
did_is_other silo effect.Absent never = refl
did_is_other silo effect.Found never = refl
did_is_other silo effect.Nothing never = refl
did_is_other silo (effect.Retry why) never = refl
did_is_other silo effect.Firm never = absurd (never refl)
did_is_other silo effect.Yielded never = refl
did_is_other silo effect.Ended never = refl
did_is_other silo effect.Learnt never = refl
did_is_other silo effect.Noted never = refl
did_is_other silo effect.Ignored never = refl
did_is_other silo effect.Page never = refl
did_is_other silo effect.Missing never = refl
did_is_other silo effect.Behind never = refl
did_is_other silo effect.Ahead never = refl
did_is_other silo effect.Installed never = refl
did_is_other silo effect.Gathering never = refl
did_is_other silo (effect.Refused number) never = refl
did_is_other silo effect.Recovering never = refl
did_is_other silo effect.Deleted never = refl
did_is_other silo effect.Report never = refl
did_is_other silo effect.More never = refl
did_is_other silo effect.Complete never = refl

pub did_other : (silo : Silo) (made : Effect) → ¬ (made ≡ effect.Firm) → IsOther (sentence (happening_words (Did silo made)))
did_other silo made never = by_words (happening_words (Did silo made)) (did_is_other silo made never)

pub delivered_other : (letter : Letter) (made : Effect) → IsOther (sentence (delivered_words letter made))
delivered_other letter made = by_words (delivered_words letter made) refl

pub owner_other : (s : SiloValue) (grain : Grain) → IsOther (grain_owner_line s grain)
unfolding grain_owner_line
owner_other s grain = by_words (codes "owner" ∷ owner_tail s grain) refl

pub place_other : (s : SiloValue) (grain : Grain) (policy : Policy) → IsOther (grain_place_line s grain policy)
unfolding grain_place_line
place_other s grain policy = by_words (codes "place" ∷ place_tail s grain policy) refl

pub figures_other : (s : SiloValue) → IsOther (figures_line s)
unfolding figures_line
figures_other s = by_words (codes "status" ∷ figures_words (figures s)) refl

-- ---- what it has
held_other : (silo : Silo) (held : List (Grain × Held)) → AreOther (map (λ e. held_line silo e.0 e.1) held)
held_other silo [] = All-nil IsOther
held_other silo (e ∷ held) =
    All-cons IsOther (held_line silo e.0 e.1) (map (λ e. held_line silo e.0 e.1) held)
    (by_words (codes "held" ∷ activation_text (record { silo = silo; count = e.1.count }) ∷ grain_text e.0 ∷ phase_word e.1.phase ∷ [])
    refl) (held_other silo held)

pieces_other : (pieces : List (ℕ × Piece)) → AreOther (map (λ e. piece_line e.1) pieces)
pieces_other [] = All-nil IsOther
pieces_other (e ∷ pieces) =
    All-cons IsOther (piece_line e.1) (map (λ e. piece_line e.1) pieces)
    (by_words (codes "range" ∷ range_text e.1.range ∷ state_words e.1.state e.1.entries) refl) (pieces_other pieces)

pub show_other : (s : SiloValue) → AreOther (show_lines s)
unfolding show_lines
show_other s =
    let version : List (List ℕ) = codes "version" ∷ decimal s.membership.views.version ∷ [] in
    let own : List (List ℕ) = codes "silo" ∷ silo_text s.node.host.silo ∷ own_word (own_status s) ∷ seen_words (Some s.node) in
    let held : List (List ℕ) = map (λ e. held_line s.node.host.silo e.0 e.1) s.node.host.held in
    let pieces : List (List ℕ) = map (λ e. piece_line e.1) s.node.holding.pieces in
    All-cons IsOther (sentence version) (sentence own ∷ (held ++ pieces)) (by_words version refl)
    (All-cons IsOther (sentence own) (held ++ pieces) (by_words own refl)
    (All-append IsOther held pieces (held_other s.node.host.silo s.node.host.held) (pieces_other s.node.holding.pieces)))

pub dump_other : (s : SiloValue) → IsOther (dump_line s)
unfolding dump_line
dump_other s = by_byte 123 _ refl

-- The letters told by number, from 1 to that of the last one sent, are those of the mail.
use Rattle.std.proofs.Common.{◌≡◌, ℕ, zero, suc, ◌+◌, ◌-◌, ◌<◌, ◌≤◌, ◌==◌, ◌++◌, true, false, cond, List, [], ◌∷◌, map, Some, ap, arith, refl, subst, sym, ◌∙◌}
use Rattle.std.specs.Prelude.{flat_map}
use Rattle.std.specs.BTreeMap.{is_at}
use Rattle.std.specs.Cmp.{nat_cmp_is}
use Rattle.std.specs.List.{range_with_len}
use Rattle.std.specs.Map.{lookup}
use Rattle.std.specs.Option.{option_map}
use Rattle.std.specs.Ordering.{is_eq, nat_cmp}
use Rattle.std.specs.declared.cmp.Ordering.TheVariants.{Equal, Greater, Less}
use Rattle.std.proofs.lemmas.Bool.{eqb-true, eqb-false}
use Rattle.directory_rules.specs.Laws.{RiseBetween}
use Rattle.directory_rules.specs.Mail.{letter_of}
use Rattle.directory_rules.specs.State.{Posted, World}
use Rattle.directory_rules.proofs.Cases.{on_bool}
use Rattle.directory_rules.proofs.Mails.{mail_after}
use Rattle.directory_core.specs.Whole.{IsWorld}
use Rattle.directory_core.proofs.Made.{holds}
use Rattle.script_rules.specs.Output.{printing}
use Rattle.script_rules.specs.Show.{letter_line, mail_lines}
use Rattle.texts.specs.Printed.{text_of_lines}
use Rattle.console_command.specs.Commands.{Performs, in_session}
use Rattle.console_command.specs.Reports.{lines_of_letter}

-- the lines of one number
abbrev lines_at : List (ℕ × Posted) → ℕ → List (List ℕ)
lines_at mail number = lines_of_letter number (option_map (λ posted. posted.letter) (lookup (is_at (nat_cmp number)) mail))

at_itself : (number : ℕ) → is_at (nat_cmp number) number ≡ true
at_itself number = ap is_eq (sym (nat_cmp_is number number Equal refl))

at_above : (number key : ℕ) → key < number → is_at (nat_cmp number) key ≡ false
at_above number key less = ap is_eq (sym (nat_cmp_is number key Greater less))

at_below : (number key : ℕ) → number < key → is_at (nat_cmp number) key ≡ false
at_below number key less = ap is_eq (sym (nat_cmp_is number key Less less))

rises : (low high : ℕ) (mail : List (ℕ × Posted)) → RiseBetween low high mail → low ≤ high
rises low high [] rise = rise
rises low high (e ∷ es) rise = let rest = rises e.0 high es rise.1 in omega (rest, rise.0, arith)

-- a number below all of the mail has no line
none_below : (number low high : ℕ) (mail : List (ℕ × Posted)) → number ≤ low → RiseBetween low high mail → lines_at mail number ≡ []
none_below number low high [] le rise = refl
none_below number low high (e ∷ es) le rise =
    ap (λ b. lines_of_letter number (option_map (λ posted. posted.letter) (cond b (Some e.1) (lookup (is_at (nat_cmp number)) es))))
    (at_below number e.0 (omega (le, rise.0, arith)))
    ∙ none_below number e.0 high es (omega (le, rise.0, arith)) rise.1

-- the first letter changes no line of a number above its own
past_first : (e : ℕ × Posted) (es : List (ℕ × Posted)) (from count : ℕ) → e.0 < from
    → flat_map (lines_at (e ∷ es)) (range_with_len from count) ≡ flat_map (lines_at es) (range_with_len from count)
past_first e es from zero below = refl
past_first e es from (suc count) below =
    ap (λ b. lines_of_letter from (option_map (λ posted. posted.letter) (cond b (Some e.1) (lookup (is_at (nat_cmp from)) es))) ++ flat_map
    (lines_at (e ∷ es)) (range_with_len (from + 1) count)) (at_above from e.0 below)
    ∙ ap (λ lines. lines_at es from ++ lines) (past_first e es (from + 1) count (omega (below, arith)))

-- so many numbers are told, from the one above the first on
abbrev AreTold : (low count : ℕ) → List (ℕ × Posted) → Type 0
AreTold low count mail = flat_map (lines_at mail) (range_with_len (low + 1) count) ≡ map (λ e. letter_line e.0 e.1.letter) mail

told_first : (low count : ℕ) (e : ℕ × Posted) (es : List (ℕ × Posted)) → low + 1 ≡ e.0 → AreTold (low + 1) count es
    → AreTold low (suc count) (e ∷ es)
told_first low count e es is rest =
    ap (λ n. lines_at (e ∷ es) n ++ flat_map (lines_at (e ∷ es)) (range_with_len (low + 1 + 1) count)) is
    ∙ (ap (λ b. lines_of_letter e.0 (option_map (λ posted. posted.letter) (cond b (Some e.1) (lookup (is_at (nat_cmp e.0)) es))) ++ flat_map
    (lines_at (e ∷ es)) (range_with_len (low + 1 + 1) count)) (at_itself e.0)
    ∙ ap (λ lines. letter_line e.0 e.1.letter ∷ lines) (past_first e es (low + 1 + 1) count (omega (is, arith)) ∙ rest))

told_later : (low high count : ℕ) (e : ℕ × Posted) (es : List (ℕ × Posted)) → low + 1 < e.0 → RiseBetween e.0 high es
    → AreTold (low + 1) count (e ∷ es) → AreTold low (suc count) (e ∷ es)
told_later low high count e es above rise rest =
    ap (λ lines. lines ++ flat_map (lines_at (e ∷ es)) (range_with_len (low + 1 + 1) count))
    (none_below (low + 1) (low + 1) high (e ∷ es) (omega arith) (above, rise))
    ∙ rest

told_all : (low high count : ℕ) (mail : List (ℕ × Posted)) → low + count ≡ high → RiseBetween low high mail → AreTold low count mail
told_all low high zero [] is rise = refl
told_all low high zero (e ∷ es) is rise = let more = rises e.0 high es rise.1 in absurd (omega (is, more, rise.0, arith))
told_all low high (suc count) [] is rise = told_all (low + 1) high count [] (omega (is, arith)) (omega (is, arith))
told_all low high (suc count) (e ∷ es) is rise =
    on_bool (λ b. AreTold low (suc count) (e ∷ es)) ((low + 1) == e.0)
    (λ t. let at : low + 1 ≡ e.0 = eqb-true (low + 1) e.0 t in
    told_first low count e es at (told_all (low + 1) high count es (omega (is, arith))
    (subst (λ n. RiseBetween n high es) (sym at) rise.1)))
    (λ f. let apart = eqb-false (low + 1) e.0 f in
    let above : low + 1 < e.0 = omega (apart, rise.0, arith) in
    told_later low high count e es above rise.1 (told_all (low + 1) high count (e ∷ es) (omega (is, arith)) (above, rise.1)))

-- ---- of a world that events have made
rising : (world : World) → IsWorld world → RiseBetween 0 world.sent world.mail
rising = holds (λ w. RiseBetween 0 w.sent w.mail) (λ settings events are named. (mail_after settings events).rising)

mail_told : (world : World) → IsWorld world → flat_map (λ n. lines_of_letter n (letter_of world n)) (range_with_len 1 world.sent)
    ≡ mail_lines world
unfolding mail_lines
mail_told world is = told_all 0 world.sent world.sent world.mail (omega arith) (rising world is)

-- all letters were told
pub mail_performed : (world : World) (sent : ℕ) (start text : List ℕ) → IsWorld world → sent ≡ world.sent
    → text ≡ start ++ text_of_lines (flat_map (λ n. lines_of_letter n (letter_of world n)) (range_with_len 1 sent))
    → Performs (printing (mail_lines world) (in_session world)) start world text
mail_performed world sent start text is sent_is written = record {
  session = refl;
  lines =
      written ∙ ap (λ lines. start ++ text_of_lines lines)
      (ap (λ n. flat_map (λ n. lines_of_letter n (letter_of world n)) (range_with_len 1 n)) sent_is ∙ mail_told world is);
}

-- ---- the numbers that are left
pub numbers_left : (before sent : ℕ) → before < sent
    → range_with_len (before + 1) (sent - before) ≡ (before + 1) ∷ range_with_len (before + 1 + 1) (sent - (before + 1))
numbers_left before sent less = ap (λ n. range_with_len (before + 1) n) (one_more before sent less)
  where
    one_more : (a b : ℕ) → a < b → b - a ≡ suc (b - (a + 1))
    one_more a b less = omega (less, arith)

pub one_above : (before sent : ℕ) → before < sent → before + 1 ≤ sent
one_above before sent less = omega (less, arith)

pub numbers_at_first : (sent : ℕ) → range_with_len (0 + 1) (sent - 0) ≡ range_with_len 1 sent
numbers_at_first sent = ap (λ n. range_with_len 1 n) (all_left sent)
  where
    all_left : (a : ℕ) → a - 0 ≡ a
    all_left a = omega arith

pub no_number_left : (before sent : ℕ) → sent ≤ before → range_with_len (before + 1) (sent - before) ≡ []
no_number_left before sent all = ap (λ n. range_with_len (before + 1) n) (none before sent all)
  where
    none : (a b : ℕ) → b ≤ a → b - a ≡ 0
    none a b all = omega (all, arith)

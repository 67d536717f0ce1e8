-- The steps of a log keep its rule.
use Rattle.std.proofs.Common.{◌≡◌, ℕ, zero, suc, ◌<◌, ◌==◌, Bool, true, false, List, [], ◌∷◌, ◌++◌, length, None, refl, sym, ap, ◌∙◌, subst, arith, inl, append_assoc}
use Rattle.std.specs.Prelude.{slice_set}
use Rattle.std.proofs.lemmas.List.{append-nil, get_or-set_same, map-append}
use Rattle.std.proofs.lemmas.Bool.Decides.{nat_tests}
use mathlib.Core.List.{IsPrefix}
use prog.Atomic.{either}
use Rattle.logbook.specs.Pages.{Cell, Nib, adds, cell, gives, keeps, may_write, no_nib, step, Moves, Goes}
use Rattle.published_rings.specs.declared.log_rule.Entry.{Entry}
use Rattle.published_rings.specs.Log.{IsHome, AreSpent, IsKept, EndsAt, Draws, Starts, Extends, Compares, rings_of}
use Rattle.published_rings.specs.Rule.{Begins}

-- ---- Cells.

home_set : (cells : List Cell) (key value other : ℕ) → IsHome cells other → IsHome (slice_set cells key (value, true)) other
home_set [] key value other home = absurd (cc home)
home_set (c ∷ cells) zero value zero home = refl
home_set (c ∷ cells) zero value (suc other) home = home
home_set (c ∷ cells) (suc key) value zero home = home
home_set (c ∷ cells) (suc key) value (suc other) home = home_set cells key value other home

set_home : (cells : List Cell) (key value : ℕ) → key < length cells → IsHome (slice_set cells key (value, true)) key
set_home cells key value within = ap (λ (c : Cell). c.1) (get_or-set_same cells key (value, true) (0, false) within)

home_more : (cells : List Cell) (new : Cell) (key : ℕ) → IsHome cells key → IsHome (cells ++ new ∷ []) key
home_more [] new key home = absurd (cc home)
home_more (c ∷ cells) new zero home = home
home_more (c ∷ cells) new (suc key) home = home_more cells new key home

-- the word is apart from a cell that isn't at home
word_apart : (word : Cell) (cells : List Cell) (key : ℕ) (new : Cell) → word.1 ≡ true → (cell (word ∷ cells) key).1 ≡ false
    → cell (slice_set (word ∷ cells) key new) 0 ≡ word
word_apart word cells zero new home away = absurd (cc)
word_apart word cells (suc key) new home away = refl

-- ---- Entries.

never_none : (entries : List Entry) (last : Entry) → ¬ (entries ++ last ∷ [] ≡ [])
never_none [] last = λ is. cc
never_none (e ∷ entries) last = λ is. cc

spent_in : (cells now : List Cell) (entries : List Entry) → ((key : ℕ) → IsHome cells key → IsHome now key) → AreSpent cells entries
    → AreSpent now entries
spent_in cells now [] stays spent = tt
spent_in cells now (e ∷ later) stays spent = (λ more. stays e.cell (spent.0 more), spent_in cells now later stays spent.1)

-- one more entry, once the cell of the last one is at home
spent_more : (cells : List Cell) (earlier : List Entry) (last next : Entry) → AreSpent cells (earlier ++ last ∷ []) → IsHome cells last.cell
    → AreSpent cells ((earlier ++ last ∷ []) ++ next ∷ [])
spent_more cells [] last next spent home = (λ more. home, (λ more. absurd (more refl), tt))
spent_more cells (e ∷ earlier) last next spent home =
    (λ more. spent.0 (never_none earlier last), spent_more cells earlier last next spent.1 home)

-- behind an entry whose cell isn't at home there is none
none_behind : (cells : List Cell) (earlier : List Entry) (last : Entry) (later : List Entry) → AreSpent cells (earlier ++ last ∷ later)
    → ¬ (IsHome cells last.cell) → later ≡ []
none_behind cells [] last [] spent away = refl
none_behind cells [] last (e ∷ later) spent away = absurd (away (spent.0 (λ is. cc)))
none_behind cells (e ∷ earlier) last later spent away = none_behind cells earlier last later spent.1 away

-- what ends at a cell that isn't at home is all
all_known : (cells : List Cell) (known later all : List Entry) (key : ℕ) → AreSpent cells all → known ++ later ≡ all → EndsAt known key
    → (cell cells key).1 ≡ false → later ≡ []
all_known cells known later all key spent is ends away =
    let whole : ends.earlier ++ ends.last ∷ later ≡ all = sym (append_assoc ends.earlier (ends.last ∷ []) later) ∙ ap (λ l. l ++ later) (sym ends.whole) ∙ is in
    none_behind cells ends.earlier ends.last later (subst (AreSpent cells) (sym whole) spent)
    (λ home. let its = ends.its in absurd (cc (its, home, away)))

pub begins_rings : (some all : List Entry) → IsPrefix some all → Begins (rings_of some) (rings_of all)
begins_rings some all first = (rings_of first.0, sym (ap rings_of first.1) ∙ map-append (λ (e : Entry). e.ring) some first.0)

-- ---- Steps.

abbrev pub shown : List Entry → List Entry
shown entries = []

abbrev pub moved : List Entry → List Entry → ℕ → Type 0
moved before after answer = Unit {0}

-- a word that is exchanged for itself, if it is 0
abbrev pub same : ℕ → ℕ
same n = either (n == 0) 0 n

same_by : (n : ℕ) (b : Bool) → (n == 0) ≡ b → either b 0 n ≡ n
same_by n true is = grind (arith, nat_tests)
same_by n false is = refl

is_same : (n : ℕ) → same n ≡ n
is_same n = same_by n (n == 0) refl

pub draws : (seen : List Entry) (ask : Entry) → Moves IsKept shown moved 0 (seen, (no_nib, None)) same
    (Draws (step 0 0 0 ask) (seen, (no_nib, None)))
draws seen ask [] entries kept begins away = absurd (cc kept.home)
draws seen ask (word ∷ cells) entries kept begins away =
    let now : List Cell = (same word.0, true) ∷ (cells ++ (0, false) ∷ []) in
    let stays : (key : ℕ) → IsHome (word ∷ cells) key → IsHome now key = λ key home. home_more ((same word.0, true) ∷ cells) (0, false) key (home_set (word ∷ cells) 0 (same word.0) key home) in
    let rule : IsKept now (entries ++ []) = record {
      home = refl;
      begun = λ none. append-nil entries ∙ kept.begun (sym (is_same word.0) ∙ none);
      spent = subst (AreSpent now) (sym (append-nil entries)) (spent_in (word ∷ cells) now entries stays kept.spent);
    } in (omega arith, kept.home, (adds, [], None, tt, rule, inl (refl, refl), refl))

starts_by : (ask : Entry) (word : Cell) (cells : List Cell) (entries : List Entry) → IsKept (word ∷ cells) entries → (b : Bool)
    → (word.0 == 0) ≡ b
    → Goes IsKept shown moved 0 ([], (no_nib, None)) (λ n. either (n == 0) 1 n) (Starts (step 0 0 1 ask) ([], (no_nib, None)))
    (word ∷ cells) entries
starts_by ask word cells entries kept true is =
    let first : word.0 ≡ 0 = grind (arith, nat_tests) in
    let none : entries ≡ [] = kept.begun first in
    let all : entries ++ ask ∷ [] ≡ ask ∷ [] = ap (λ l. l ++ ask ∷ []) none in
    let its : either (word.0 == 0) 1 word.0 ≡ 1 = rw is refl in
    let rule : IsKept ((1, true) ∷ cells) (ask ∷ []) = record { home = refl; begun = λ no. absurd (omega arith); spent = (λ more. absurd (more refl), tt) } in
    (keeps, ask ∷ [], None, tt, rw (its, all) rule, inl (refl, refl), λ found. all)
starts_by ask word cells entries kept false is =
    let its : either (word.0 == 0) 1 word.0 ≡ word.0 = rw is refl in
    let stays : (key : ℕ) → IsHome (word ∷ cells) key → IsHome ((word.0, true) ∷ cells) key = λ key home. home_set (word ∷ cells) 0 word.0 key home in
    let rule : IsKept ((word.0, true) ∷ cells) entries = record { home = refl; begun = kept.begun; spent = spent_in (word ∷ cells) ((word.0, true) ∷ cells) entries stays kept.spent } in
    (keeps, [], None, tt, rw (its, append-nil entries) rule, inl (refl, refl), λ found. absurd (cc (found, is)))

pub starts : (ask : Entry) → Moves IsKept shown moved 0 ([], (no_nib, None)) (λ n. either (n == 0) 1 n)
    (Starts (step 0 0 1 ask) ([], (no_nib, None)))
starts ask [] entries kept begins away = absurd (cc kept.home)
starts ask (word ∷ cells) entries kept begins away = (omega arith, kept.home, starts_by ask word cells entries kept (word.0 == 0) refl)

pub extends : (seen : List Entry) (pen : Nib) (ask : Entry) → pen.right ≡ may_write → EndsAt seen pen.key
    → Moves IsKept shown moved 0 (seen, (pen, None)) same (Extends (step 0 0 0 ask) (seen, (pen, None)))
extends seen pen ask right ends [] entries kept begins away = absurd (cc kept.home)
extends seen pen ask right ends (word ∷ cells) entries kept begins away =
    let out = away right in
    let none : begins.0 ≡ [] = all_known (word ∷ cells) seen begins.0 entries pen.key kept.spent begins.1 ends out.1 in
    let all : entries ≡ seen = sym begins.1 ∙ (ap (λ l. seen ++ l) none ∙ append-nil seen) in
    let turned : List Cell = (same word.0, true) ∷ cells in
    let now : List Cell = slice_set turned pen.key (pen.value, true) in
    let stays : (key : ℕ) → IsHome (word ∷ cells) key → IsHome now key = λ key home. home_set turned pen.key pen.value key (home_set (word ∷ cells) 0 (same word.0) key home) in
    let its : IsHome now ends.last.cell = subst (IsHome now) (sym ends.its) (set_home turned pen.key pen.value out.0) in
    let spent : AreSpent now (ends.earlier ++ ends.last ∷ []) = subst (AreSpent now) (all ∙ ends.whole) (spent_in (word ∷ cells) now entries stays kept.spent) in
    let rule : IsKept now (entries ++ ask ∷ []) = record {
      home = home_set turned pen.key pen.value 0 refl;
      begun = λ is.
          let found : word.0 ≡ 0 = sym (is_same word.0) ∙ (sym (ap (λ (c : Cell). c.0) (word_apart (same word.0, true) cells pen.key (pen.value, true) refl (apart word cells pen.key (same word.0) kept.home out.1))) ∙ is) in
          absurd (never_none ends.earlier ends.last (sym (all ∙ ends.whole) ∙ kept.begun found));
      spent = subst (λ l. AreSpent now (l ++ ask ∷ [])) (sym (all ∙ ends.whole)) (spent_more now ends.earlier ends.last ask spent its);
    } in (omega arith, kept.home, (gives, ask ∷ [], None, right, rule, inl (refl, refl), ap (λ l. l ++ ask ∷ []) all))
  where
    apart : (word : Cell) (cells : List Cell) (key value : ℕ) → word.1 ≡ true → (cell (word ∷ cells) key).1 ≡ false
        → (cell ((value, true) ∷ cells) key).1 ≡ false
    apart word cells zero value home away = absurd (cc)
    apart word cells (suc key) value home away = away

pub compares : (seen : List Entry) (pen : Nib) (ask : Entry) → pen.right ≡ may_write
    → Moves IsKept shown moved 0 (seen, (pen, None)) same (Compares (step 0 0 0 ask) (seen, (pen, None)))
compares seen pen ask right [] entries kept begins away = absurd (cc kept.home)
compares seen pen ask right (word ∷ cells) entries kept begins away =
    let out = away right in
    let now : List Cell = (same word.0, true) ∷ cells in
    let rule : IsKept now (entries ++ []) = record {
      home = refl;
      begun = λ none. append-nil entries ∙ kept.begun (sym (is_same word.0) ∙ none);
      spent =
          subst (AreSpent now) (sym (append-nil entries))
          (spent_in (word ∷ cells) now entries (λ key home. home_set (word ∷ cells) 0 (same word.0) key home) kept.spent);
    } in
    let whole : (known : List Entry) → IsPrefix known seen → EndsAt known pen.key → known ≡ seen = λ known first ends.
    let later : List Entry = first.0 ++ begins.0 in
    let is : known ++ later ≡ entries = sym (append_assoc known first.0 begins.0) ∙ (ap (λ l. l ++ begins.0) first.1 ∙ begins.1) in
    let none : later ≡ [] = all_known (word ∷ cells) known later entries pen.key kept.spent is ends out.1 in
    let front : first.0 ≡ [] = none_left first.0 begins.0 none in
    sym (append-nil known) ∙ (ap (λ l. known ++ l) (sym front) ∙ first.1) in
    (omega arith, kept.home, (keeps, [], None, tt, rule, inl (refl, refl), (refl, whole)))
  where
    none_left : (xs ys : List Entry) → xs ++ ys ≡ [] → xs ≡ []
    none_left [] ys is = refl
    none_left (x ∷ xs) ys is = absurd (cc is)

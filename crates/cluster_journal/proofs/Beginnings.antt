-- Beginnings of a journal.
use Rattle.std.proofs.Common.{◌≡◌, ◌∙◌, ℕ, ◌+◌, ◌-◌, ◌≤◌, false, List, [], ◌∷◌, ◌++◌, Some, length, take, ap, arith, refl, sym, subst, append_assoc}
use Rattle.std.specs.Prelude.{◌==◌, slice_get}
use Rattle.std.proofs.Math.Seq.{get_or-append_seam}
use Rattle.std.proofs.lemmas.Bool.{ne_eqb}
use Rattle.std.proofs.lemmas.List.{append-nil, length-append}
use Rattle.std.proofs.lemmas.Option.{slice_get-get_or}
use mathlib.Core.List.{IsPrefix}
use Rattle.directory_rules.specs.Settings.{Settings}
use Rattle.directory_rules.specs.State.{World}
use Rattle.directory_rules.specs.Run.{Ran}
use Rattle.cluster_journal.specs.Entry.{EntryValue}
use Rattle.cluster_journal.specs.Journal.{IsJournaled, entry_at, world_of}

pub prefix_self : {E : Type 0} (xs : List E) → IsPrefix xs xs
prefix_self xs = ([], append-nil xs)

pub prefix_none : {E : Type 0} (xs : List E) → IsPrefix [] xs
prefix_none xs = (xs, refl)

pub prefix_then : {E : Type 0} (xs ys zs : List E) → IsPrefix xs ys → IsPrefix ys zs → IsPrefix xs zs
prefix_then xs ys zs first second =
    (first.0 ++ second.0, sym (append_assoc xs first.0 second.0) ∙ (ap (λ l. l ++ second.0) first.1 ∙ second.1))

pub no_longer : {E : Type 0} (xs ys : List E) → IsPrefix xs ys → length xs ≤ length ys
no_longer xs ys begins =
    let many = length-append xs begins.0 in
    let is = ap (λ (l : List _). length l) begins.1 in
    omega (many, is, arith)

-- a beginning is as many of the first entries as it has
taken : {E : Type 0} (xs ys : List E) → take (length xs) (xs ++ ys) ≡ xs
taken [] ys = refl
taken (x ∷ xs) ys = ap (λ l. x ∷ l) (taken xs ys)

pub is_taken : {E : Type 0} (xs ys : List E) → IsPrefix xs ys → take (length xs) ys ≡ xs
is_taken xs ys begins = ap (λ l. take (length xs) l) (sym begins.1) ∙ taken xs begins.0

-- ---- Entries.

seam : {E : Type 0} (xs ys : List E) (x : E) → slice_get (xs ++ x ∷ ys) (length xs) ≡ Some x
seam xs ys x =
    let many = length-append xs (x ∷ ys) in
    slice_get-get_or (xs ++ x ∷ ys) (length xs) x (omega (many, arith)) ∙ ap (λ y. Some y) (get_or-append_seam xs x ys x)

-- the entry behind a beginning stands in the journal
pub it_stands : (before journal : List EntryValue) (entry : EntryValue) (number : ℕ) → IsPrefix (before ++ entry ∷ []) journal
    → number ≡ length before + 1 → entry_at journal number ≡ Some entry
it_stands before journal entry number begins is =
    let whole : before ++ entry ∷ begins.0 ≡ journal = sym (append_assoc before (entry ∷ []) begins.0) ∙ begins.1 in
    let some : (number == 0) ≡ false = ne_eqb number 0 (λ none. omega (none, is, arith)) in
    let index : number - 1 ≡ length before = omega (is, arith) in
    rw some (ap (λ n. slice_get journal n) index ∙ subst (λ (l : List EntryValue). slice_get l (length before) ≡ Some entry) whole
    (seam before begins.0 entry))

-- ---- The last one.

-- a journal that is no longer than a beginning of it is that beginning
longest : {E : Type 0} (xs ys : List E) → IsPrefix xs ys → length ys ≤ length xs → ys ≡ xs
longest {E} xs ys begins short = go begins.0 begins.1
  where
    go : (more : List E) → xs ++ more ≡ ys → ys ≡ xs
    go [] is = sym is ∙ append-nil xs
    go (x ∷ more) is =
        let many = length-append xs (x ∷ more) in
        let same = ap (λ (l : List E). length l) is in
        absurd (omega (many, same, short, arith))

pub is_whole : (before now : List EntryValue) (entry : EntryValue) (number : ℕ) → IsPrefix (before ++ entry ∷ []) now
    → number ≡ length before + 1 → number ≡ length now → now ≡ before ++ entry ∷ []
is_whole before now entry number begins is last =
    let many = length-append before (entry ∷ []) in
    longest (before ++ entry ∷ []) now begins (omega (many, is, last, arith))

-- ---- Worlds.

-- a world is that of the journal that made it
pub its_world : (settings : Settings) (journal : List EntryValue) (world : World) → IsJournaled settings journal world
    → world_of settings journal ≡ world
its_world settings journal world journaled = ap (λ (ran : Ran). ran.world) journaled

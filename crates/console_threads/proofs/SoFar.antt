-- Receipts that were put to others so far, where more are still to come.
use Rattle.std.proofs.Common.{◌≡◌, ◌∙◌, ℕ, List, [], ◌++◌, ap, sym, subst, append_assoc, append-nil, length}
use Rattle.std.proofs.lemmas.List.{map-append}
use mathlib.Core.List.{IsPrefix}
use Rattle.cluster_journal.specs.Entry.{EntryValue}
use Rattle.cluster_journal.specs.declared.entry.Receipt.{Receipt}
use Rattle.cluster_journal.proofs.Beginnings.{prefix_self, prefix_then}
use Rattle.console_threads.specs.Driven.{Puts, numbers_of}

-- whatever comes of what is left, with it all comes of all
pub record PutsSoFar {A : Type 0} (Comes : List EntryValue → (before after : ℕ) → List A → List ℕ → Type 0) (all left : List A)
    (seen now : List EntryValue) (before receipts : List Receipt) : Type 0 where
  pub more : List Receipt
  pub kept : receipts ≡ before ++ more
  pub begins : IsPrefix seen now
  pub goes_on : (journal : List EntryValue) → IsPrefix now journal → (after : ℕ) (rest : List ℕ)
      → Comes journal (length now) after left rest
      → Comes journal (length seen) after all (numbers_of more ++ rest)

numbers_joined : (one other : List Receipt) → numbers_of (one ++ other) ≡ numbers_of one ++ numbers_of other
numbers_joined one other = map-append (λ (r : Receipt). r.number) one other

module _ {A : Type 0} (Comes : List EntryValue → (before after : ℕ) → List A → List ℕ → Type 0) (all : List A) (seen : List EntryValue)
    (before : List Receipt) where
  -- nothing yet
  pub nothing_yet : PutsSoFar Comes all all seen seen before before
  nothing_yet =
      record { more = []; kept = sym (append-nil before); begins = prefix_self seen; goes_on = λ journal begins after rest comes. comes }

  kept_more : (receipts after more put : List Receipt) → receipts ≡ before ++ more → after ≡ receipts ++ put
      → after ≡ before ++ (more ++ put)
  kept_more receipts after more put kept is = is ∙ (ap (λ (l : List Receipt). l ++ put) kept ∙ append_assoc before more put)

  module _ (left : List A) (now next : List EntryValue) (receipts after put : List Receipt) (goes : IsPrefix now next)
      (is : after ≡ receipts ++ put)
      (so_far : PutsSoFar Comes all left seen now before receipts) where
    -- then those of the next
    pub then_more : (later : List A)
        → ((journal : List EntryValue) → IsPrefix next journal → (last : ℕ) (rest : List ℕ) → Comes journal (length next) last later rest
        → Comes journal (length now) last left (numbers_of put ++ rest))
        → PutsSoFar Comes all later seen next before after
    then_more later comes = record {
      more = so_far.more ++ put;
      kept = kept_more receipts after so_far.more put so_far.kept is;
      begins = prefix_then seen now next so_far.begins goes;
      goes_on = λ journal begins last rest rests.
          subst (Comes journal (length seen) last all)
          (sym (append_assoc (numbers_of so_far.more) (numbers_of put) rest)
          ∙ ap (λ (l : List ℕ). l ++ rest) (sym (numbers_joined so_far.more put)))
          (so_far.goes_on journal (prefix_then now next journal goes begins) last (numbers_of put ++ rest)
          (comes journal begins last rest rests));
    }

    -- then the last
    pub then_last : ((journal : List EntryValue) → IsPrefix next journal → Comes journal (length now) (length next) left (numbers_of put))
        → Puts (λ journal from to. Comes journal from to all) seen next before after
    then_last comes = record {
      more = so_far.more ++ put;
      kept = kept_more receipts after so_far.more put so_far.kept is;
      begins = prefix_then seen now next so_far.begins goes;
      its = λ journal begins.
          subst (Comes journal (length seen) (length next) all) (sym (numbers_joined so_far.more put))
          (so_far.goes_on journal (prefix_then now next journal goes begins) (length next) (numbers_of put) (comes journal begins));
    }

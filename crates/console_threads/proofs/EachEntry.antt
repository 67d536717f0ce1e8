-- Where receipts agree with a journal, each of its entries has its receipt: there are as many, each of a number of its own.
use Rattle.std.proofs.Common.{◌≡◌, ◌∙◌, ℕ, ◌+◌, ◌-◌, ◌<◌, Bool, true, false, true≢false, List, [], ◌∷◌, Option, Some, None, length, get_or, map, arith, refl, sym, inl, inr}
use Rattle.std.specs.Prelude.{All, ◌==◌, if◌then◌else◌, slice_get}
use Rattle.std.specs.List.{Any, IsDistinct, list_any}
use Rattle.std.proofs.Math.Dec.{eqb}
use Rattle.std.proofs.lemmas.Bool.{eqb-false, eqb-true, ne_eqb}
use Rattle.std.proofs.lemmas.Bool.Decides.{eqb_tells}
use Rattle.std.proofs.lemmas.List.{get_or-map, get_or_default, length-map}
use Rattle.std.proofs.lemmas.List.Elements.{All-cons, recursion_from_All}
use Rattle.std.proofs.lemmas.List.Folds.{Any-from_list_any, list_any_at}
use Rattle.std.proofs.lemmas.Map.Keys.{IsDistinct-cons, IsDistinct-from_apart}
use Rattle.std.proofs.lemmas.Map.Steps.{length-le_from_distinct_below}
use Rattle.std.proofs.lemmas.Option.{slice_get_within}
use Rattle.cluster_journal.specs.Agreement.{Agree}
use Rattle.cluster_journal.specs.Entry.{EntryValue}
use Rattle.cluster_journal.specs.Journal.{entry_at}
use Rattle.cluster_journal.specs.declared.entry.Receipt.{Receipt}

-- ---- Numbers of entries.

behind_zero : (is_zero : Bool) (found : Option EntryValue) (entry : EntryValue) → (if is_zero then None else found) ≡ Some entry
    → (is_zero ≡ false) × (found ≡ Some entry)
behind_zero true found entry is = absurd (cc)
behind_zero false found entry is = (refl, is)

-- they are from 1 on, up to how many entries there are
numbered : (journal : List EntryValue) (number : ℕ) (entry : EntryValue) → entry_at journal number ≡ Some entry
    → (0 < number) × (number < length journal + 1)
numbered journal number entry is =
    let found = behind_zero (number == 0) (slice_get journal (number - 1)) entry is in
    let within = slice_get_within journal (number - 1) entry found.1 in
    let some = eqb-false number 0 found.0 in (grind (arith, some), grind (arith, within, some))

-- ---- Numbers of receipts.

abbrev numbers_of : List Receipt → List ℕ
numbers_of receipts = map (λ (receipt : Receipt). receipt.number) receipts

number_at : (receipts : List Receipt) (index : ℕ) (d : Receipt) (e : ℕ) → index < length receipts
    → get_or (numbers_of receipts) index e ≡ (get_or receipts index d).number
number_at receipts index d e within = get_or-map (λ (r : Receipt). r.number) receipts index d e within

many_numbers : (receipts : List Receipt) → length (numbers_of receipts) ≡ length receipts
many_numbers receipts = length-map receipts (λ (r : Receipt). r.number)

-- one that isn't among numbers is equal to none of them
none_is : (number : ℕ) (numbers : List ℕ) → list_any (eqb number) numbers ≡ false → All (λ other. eqb number other ≡ false) numbers
none_is number numbers none = λ k d within.
    elim (eqb_tells number (get_or numbers k d)) as (λ _. eqb number (get_or numbers k d) ≡ false) [
      | inl same ↦ absurd (true≢false (sym (list_any_at (eqb number) numbers k d within same.0) ∙ none))
      | inr other ↦ other.0
    ]

module _ (journal : List EntryValue) (receipts : List Receipt) (d : Receipt) (agree : Agree journal receipts) where
  -- those of receipts that agree are the journal's, each one's own
  each_numbered : All (λ number. (0 < number) × (number < length journal + 1)) (numbers_of receipts)
  each_numbered = λ k e within.
      let its = many_numbers receipts in
      let here : k < length receipts = omega (within, its, arith) in
      rw (number_at receipts k d e here) (numbered journal (get_or receipts k d).number (get_or receipts k d).entry (agree.stand k d here))

  each_own : IsDistinct eqb (numbers_of receipts)
  each_own = IsDistinct-from_apart eqb (numbers_of receipts) (λ i j e less within.
      let its = many_numbers receipts in
      let later : j < length receipts = omega (within, its, arith) in
      let sooner : i < length receipts = omega (less, later, arith) in
      rw (number_at receipts i d e sooner) (rw (number_at receipts j d e later)
      (ne_eqb (get_or receipts i d).number (get_or receipts j d).number (agree.apart i j d less later))))

  -- so there is no room for a number besides these, and 0
  no_other : (number : ℕ) → (0 < number) × (number < length journal + 1) → list_any (eqb number) (numbers_of receipts) ≡ false → ⊥
  no_other number its none =
      let numbers = numbers_of receipts in
      let more = 0 ∷ number ∷ numbers in
      let apart_from_it = recursion_from_All (λ other. eqb number other ≡ false) numbers (none_is number numbers none) in
      let from_zero : All (λ other. eqb 0 other ≡ false) (number ∷ numbers) =
      All-cons (λ other. eqb 0 other ≡ false) number numbers (ne_eqb 0 number (λ same. omega (its.0, same, arith)))
      (λ k e within. ne_eqb 0 (get_or numbers k e) (λ same. let some = (each_numbered k e within).0 in omega (some, same, arith))) in
      let own = IsDistinct-cons eqb 0 (number ∷ numbers) (recursion_from_All (λ other. eqb 0 other ≡ false) (number ∷ numbers) from_zero)
      (IsDistinct-cons eqb number numbers apart_from_it each_own) in
      let below : All (λ other. other < length journal + 1) more =
      All-cons (λ other. other < length journal + 1) 0 (number ∷ numbers) (omega arith)
      (All-cons (λ other. other < length journal + 1) number numbers its.1 (λ k e within. (each_numbered k e within).1)) in
      let within = length-le_from_distinct_below more (length journal + 1) own (λ other found.
      let at = Any-from_list_any (eqb other) more found in
      let same = eqb-true other at.1 at.4 in
      let less = below at.0 at.1 at.2 in
      omega (same, at.3, less, arith)) in
      let many = many_numbers receipts in
      omega (within, many, agree.many, arith)

  -- where a number is found, its receipt is
  found_at : (number : ℕ) → list_any (eqb number) (numbers_of receipts) ≡ true
      → Any (λ (receipt : Receipt). receipt.number ≡ number) receipts
  found_at number found =
      let at = Any-from_list_any (eqb number) (numbers_of receipts) found in
      let many = many_numbers receipts in
      let here : at.0 < length receipts = omega (at.2, many, arith) in
      let its = number_at receipts at.0 d at.1 here in
      (at.0, get_or receipts at.0 d, here, get_or_default receipts at.0 _ d here, sym its ∙ (at.3 ∙ sym (eqb-true number at.1 at.4)))

-- each entry of a journal has its receipt among those that agree with it
pub each_entry_has_its_receipt : (journal : List EntryValue) (receipts : List Receipt) (number : ℕ) (entry : EntryValue)
    → Agree journal receipts → entry_at journal number ≡ Some entry
    → Any (λ (receipt : Receipt). receipt.number ≡ number) receipts
each_entry_has_its_receipt journal [] number entry agree is =
    let its = numbered journal number entry is in absurd (omega (its.0, its.1, agree.many, arith))
each_entry_has_its_receipt journal (receipt ∷ more) number entry agree is =
    let receipts = receipt ∷ more in
    elim (list_any (eqb number) (numbers_of receipts)) as
    (λ b. list_any (eqb number) (numbers_of receipts) ≡ b → Any (λ (r : Receipt). r.number ≡ number) receipts) [
      | true ↦ λ found. found_at journal receipts receipt agree number found
      | false ↦ λ none. absurd (no_other journal receipts receipt agree number (numbered journal number entry is) none)
    ] refl

-- Letters under their numbers: letter n of the mail stands in the n-th slot.
use Rattle.std.proofs.Common.{◌≡◌, ◌≢◌, ◌⊎◌, inl, inr, ℕ, zero, suc, ◌+◌, ◌-◌, ◌<◌, ◌≤◌, true, false, cond, List, [], ◌∷◌, ◌++◌, length, get_or, set, take, Option, Some, None, IsSome, refl, sym, ◌∙◌, ap, subst, arith}
use Rattle.std.specs.Prelude.{nat_le}
use Rattle.std.specs.Option.{option_map, option_map_or}
use Rattle.std.specs.List.{cons_option, enumerate_from, filter, filter_map}
use Rattle.std.specs.Ordering.{is_eq, nat_cmp}
use Rattle.std.specs.Map.{lookup, remove_entry, set_value}
use Rattle.std.specs.BTreeMap.{is_at}
use Rattle.std.proofs.lemmas.Bool.{cases_eq, cases_lt, le-leb, lt-leb}
use Rattle.std.proofs.lemmas.Cmp.{nat_cmp_total, tied_itself}
use Rattle.std.proofs.lemmas.Map.Lookups.{exact_unsigned}
use Rattle.std.proofs.lemmas.List.{length-append, length-set, length-take-le}
use Rattle.std.proofs.lemmas.List.Elements.{filter_map-append}
use Rattle.std.proofs.lemmas.Option.{same_Some}
use Rattle.silo_address.specs.Grain.{Grain}
use Rattle.silo_address.proofs.Order.{apart_in_order}
use Rattle.directory_rules.specs.State.{Letter, Posted}
use Rattle.directory_rules.specs.Mail.{fresh_letter}
use Rattle.letter_mail.specs.declared.slots.Slot.{Slot}
use Rattle.letter_mail.specs.declared.slots.Slot.TheVariants.{Short, Whole, Lost}
use Rattle.letter_mail.specs.Kept.{letter_by}
use Rattle.letter_mail.specs.Slots.{AreKept, is_fresh, lost_slot, posted_from, posted_in, slot_from, slot_to, stale_slot}
use Rattle.letter_mail.specs.Mail.{has_fresh, letter_in, with_lost, with_posted, with_stale, without_last}
use Rattle.letter_mail.specs.MailModel.{mail_in}
use Rattle.letter_mail.specs.Queues.{fresh_at, is_fresh_in}
use Rattle.letter_mail.specs.KeptLetters.{Grows}
use Rattle.letter_mail.proofs.GrainNumbers.{posted_again}

-- ---- where a number stands
here : (n m : ℕ) → n ≡ m → is_at (nat_cmp n) m ≡ true
here n m same = subst (λ q. is_at (nat_cmp n) q ≡ true) same (ap is_eq (tied_itself nat_cmp_total n))

apart : (n m : ℕ) → n ≢ m → is_at (nat_cmp n) m ≡ false
apart n m differ = apart_in_order nat_cmp exact_unsigned n m differ

pub further : (first k : ℕ) → first + 1 + k ≡ first + suc k
further first k = omega arith

pub slot_at : (first k : ℕ) (slots : List Slot) (d : Slot) → k < length slots → slot_from first slots (first + k) ≡ Some (get_or slots k d)
slot_at first k [] d below = absurd (omega arith)
slot_at first zero (s ∷ slots) d below =
    ap (λ b. cond b (Some s) (slot_from (first + 1) slots (first + 0))) (here (first + 0) first (omega arith))
slot_at first (suc k) (s ∷ slots) d below =
    ap (λ b. cond b (Some s) (slot_from (first + 1) slots (first + suc k))) (apart (first + suc k) first (λ same. omega arith))
    ∙ subst (λ n. slot_from (first + 1) slots n ≡ Some (get_or slots k d)) (further first k) (slot_at (first + 1) k slots d (omega arith))

pub slot_none : (first number : ℕ) (slots : List Slot) → (number < first) ⊎ (first + length slots ≤ number)
    → slot_from first slots number ≡ None
slot_none first number [] out = refl
slot_none first number (s ∷ slots) out =
    ap (λ b. cond b (Some s) (slot_from (first + 1) slots number)) (apart number first (not_first out))
    ∙ slot_none (first + 1) number slots (still out)
  where
    not_first : (number < first) ⊎ (first + suc (length slots) ≤ number) → number ≢ first
    not_first (inl before) same = omega arith
    not_first (inr behind) same = omega arith

    still : (number < first) ⊎ (first + suc (length slots) ≤ number) → (number < first + 1) ⊎ (first + 1 + length slots ≤ number)
    still (inl before) = inl (omega arith)
    still (inr behind) = inr (omega arith)

-- ---- the letter of a number
abbrev in_slot : List Grain → Option Slot → Option Posted
in_slot grains None = None
in_slot grains (Some slot) = posted_in grains slot

at_number : (first number : ℕ) (grains : List Grain) (slots : List Slot)
    → lookup (is_at (nat_cmp number)) (posted_from first grains slots) ≡ in_slot grains (slot_from first slots number)
at_number first number grains [] = refl
at_number first number grains (s ∷ slots) = elim (cases_eq number first) [
  | inl same ↦
      at_first (posted_in grains s) (subst (λ n. lookup (is_at (nat_cmp n)) (posted_from (first + 1) grains slots) ≡ None) (sym same)
      (at_number (first + 1) first grains slots ∙ ap (in_slot grains) (slot_none (first + 1) first slots (inl (omega arith)))))
      (here number first same)
      ∙ ap (λ b. in_slot grains (cond b (Some s) (slot_from (first + 1) slots number))) (sym (here number first same))
  | inr differ ↦
      passed (posted_in grains s) (apart number first differ) ∙ at_number (first + 1) number grains slots
      ∙ ap (λ b. in_slot grains (cond b (Some s) (slot_from (first + 1) slots number))) (sym (apart number first differ))
]
  where
    at_first : (o : Option Posted) → lookup (is_at (nat_cmp number)) (posted_from (first + 1) grains slots) ≡ None
        → is_at (nat_cmp number) first ≡ true
        → lookup (is_at (nat_cmp number)) (cons_option (option_map (λ (p : Posted). (first, p)) o) (posted_from (first + 1) grains slots))
        ≡ o
    at_first None none at = none
    at_first (Some p) none at = ap (λ b. cond b (Some p) (lookup (is_at (nat_cmp number)) (posted_from (first + 1) grains slots))) at

    passed : (o : Option Posted) → is_at (nat_cmp number) first ≡ false
        → lookup (is_at (nat_cmp number)) (cons_option (option_map (λ (p : Posted). (first, p)) o) (posted_from (first + 1) grains slots))
        ≡ lookup (is_at (nat_cmp number)) (posted_from (first + 1) grains slots)
    passed None at = refl
    passed (Some p) at = ap (λ b. cond b (Some p) (lookup (is_at (nat_cmp number)) (posted_from (first + 1) grains slots))) at

-- whether it is fresh
pub fresh_is : (grains : List Grain) (slots : List Slot) (number : ℕ) → has_fresh (mail_in grains slots) number ≡ fresh_at slots number
unfolding fresh_at
fresh_is grains slots number =
    ap (λ o. option_map_or (λ (p : Posted). p.fresh) o false) (at_number 1 number grains slots) ∙ by (slot_from 1 slots number)
  where
    by : (found : Option Slot) → option_map_or (λ (p : Posted). p.fresh) (in_slot grains found) false ≡ is_fresh_in found
    by None = refl
    by (Some (Short fresh brief)) = refl
    by (Some (Whole fresh letter)) = refl
    by (Some (Lost to)) = refl

abbrev letter_part : Option Posted → Option Letter
letter_part o = option_map (λ (p : Posted). p.letter) o

pub letter_none : (grains : List Grain) (slots : List Slot) (number : ℕ) → (number ≡ 0) ⊎ (length slots < number)
    → letter_in (mail_in grains slots) number ≡ None
letter_none grains slots number out =
    ap letter_part (at_number 1 number grains slots ∙ ap (in_slot grains)
    (slot_none 1 number slots (elim out [ inl none ↦ inl (omega arith) | inr behind ↦ inr (omega arith) ])))

pub letter_at : (grains : List Grain) (slots : List Slot) (number index : ℕ) (d : Slot) → index < length slots → number ≡ 1 + index
    → letter_in (mail_in grains slots) number ≡ letter_part (posted_in grains (get_or slots index d))
letter_at grains slots number index d below is =
    ap letter_part (at_number 1 number grains slots ∙ ap (λ n. in_slot grains (slot_from 1 slots n)) is
    ∙ ap (in_slot grains) (slot_at 1 index slots d below))

-- a letter that is in the mail has a number that was given, and stands in its slot
pub was_sent : (grains : List Grain) (slots : List Slot) (number : ℕ) → IsSome (letter_in (mail_in grains slots) number)
    → (1 ≤ number) × (number ≤ length slots)
was_sent grains slots number there = (first number there, last)
  where
    gone : (found : Option Letter) → found ≡ None → IsSome found → ⊥
    gone None none there = cc (there)
    gone (Some letter) none there = cc (none)

    first : (n : ℕ) → IsSome (letter_in (mail_in grains slots) n) → 1 ≤ n
    first zero there = absurd (gone (letter_in (mail_in grains slots) 0) (letter_none grains slots 0 (inl refl)) there)
    first (suc n) there = omega arith

    last : number ≤ length slots
    last = elim (cases_lt (length slots) number) [
      | inl behind ↦ absurd (gone (letter_in (mail_in grains slots) number) (letter_none grains slots number (inr behind)) there)
      | inr within ↦ within
    ]

-- ---- letters sent
pub enumerate-append : {A : Type 0} (first : ℕ) (xs ys : List A)
    → enumerate_from first (xs ++ ys) ≡ enumerate_from first xs ++ enumerate_from (first + length xs) ys
enumerate-append first [] ys = ap (λ n. enumerate_from n ys) (omega arith)
enumerate-append {A} first (x ∷ xs) ys =
    ap (λ (l : List (ℕ × A)). (first, x) ∷ l)
    (enumerate-append (first + 1) xs ys ∙ ap (λ n. enumerate_from (first + 1) xs ++ enumerate_from n ys) (further first (length xs)))

abbrev posted_under : List Grain → ℕ × Slot → Option (ℕ × Posted)
posted_under grains e = option_map (λ posted. (e.0, posted)) (posted_in grains e.1)

posted-append : (grains : List Grain) (slots more : List Slot)
    → posted_from 1 grains (slots ++ more) ≡ posted_from 1 grains slots ++ posted_from (1 + length slots) grains more
posted-append grains slots more =
    ap (λ (l : List (ℕ × Slot)). filter_map (posted_under grains) l) (enumerate-append 1 slots more)
    ∙ filter_map-append (posted_under grains) (enumerate_from 1 slots) (enumerate_from (1 + length slots) more)

pub put_posted : (grains now : List Grain) (slots after : List Slot) (slot : Slot) (letter : Letter) → Grows grains now
    → AreKept (length grains) slots → after ≡ slots ++ slot ∷ []
    → posted_in now slot ≡ Some (fresh_letter letter) → mail_in now after ≡ with_posted (mail_in grains slots) (letter ∷ [])
put_posted grains now slots after slot letter grown are is exact =
    ap (λ (l : List Slot). mail_in now l) is
    ∙ ap (λ (l : List (ℕ × Posted)). record { letters = l; sent = length (slots ++ slot ∷ []) })
    (posted-append now slots (slot ∷ [])
    ∙ ap (λ (l : List (ℕ × Posted)). l ++ posted_from (1 + length slots) now (slot ∷ [])) (posted_again grains now slots grown are)
    ∙ ap (λ (o : Option Posted). posted_from 1 grains slots ++ cons_option (option_map (λ (p : Posted). (1 + length slots, p)) o) []) exact
    ∙ ap (λ n. posted_from 1 grains slots ++ (n, fresh_letter letter) ∷ []) (omega arith))
    ∙ ap (λ n. record { letters = posted_from 1 grains slots ++ (length slots + 1, fresh_letter letter) ∷ []; sent = n })
    (length-append slots (slot ∷ []))

-- a slot with a letter that was just sent is fresh, and for whom the letter is
pub put_slot : (grains : List Grain) (slot : Slot) (letter : Letter) → posted_in grains slot ≡ Some (fresh_letter letter)
    → (is_fresh slot ≡ true) × (slot_to slot ≡ letter.to)
put_slot grains (Short fresh brief) letter is =
    let same = same_Some (record { letter = letter_by grains brief; fresh = fresh }) (fresh_letter letter) is in
    (ap (λ (p : Posted). p.fresh) same, ap (λ (p : Posted). p.letter.to) same)
put_slot grains (Whole fresh whole) letter is =
    let same = same_Some (record { letter = whole.value; fresh = fresh }) (fresh_letter letter) is in
    (ap (λ (p : Posted). p.fresh) same, ap (λ (p : Posted). p.letter.to) same)
put_slot grains (Lost to) letter is = absurd (cc (is))

-- ---- a delivery
abbrev under : ℕ → Option Posted → List (ℕ × Posted) → List (ℕ × Posted)
under first o rest = cons_option (option_map (λ (p : Posted). (first, p)) o) rest

set_index : (first k : ℕ) (grains : List Grain) (slots : List Slot) (slot d : Slot) (posted : Posted) → k < length slots
    → IsSome (posted_in grains (get_or slots k d))
    → posted_in grains slot ≡ Some posted → set_value (is_at (nat_cmp (first + k))) (posted_from first grains slots) posted ≡ posted_from
    first grains (set slots k slot)
set_index first k grains [] slot d posted below there is = absurd (omega arith)
set_index first zero grains (s ∷ slots) slot d posted below there is =
    at_first (posted_in grains s) there ∙ ap (λ (o : Option Posted). under first o (posted_from (first + 1) grains slots)) (sym is)
  where
    at_first : (o : Option Posted) → IsSome o → set_value (is_at (nat_cmp (first + 0)))
        (under first o (posted_from (first + 1) grains slots)) posted ≡ (first, posted) ∷ posted_from (first + 1) grains slots
    at_first None there = absurd (cc (there))
    at_first (Some p) there =
        ap (λ b. cond b ((first, posted) ∷ posted_from (first + 1) grains slots)
        ((first, p) ∷ set_value (is_at (nat_cmp (first + 0))) (posted_from (first + 1) grains slots) posted))
        (here (first + 0) first (omega arith))
set_index first (suc k) grains (s ∷ slots) slot d posted below there is =
    passed (posted_in grains s)
    ∙ ap (λ (l : List (ℕ × Posted)). under first (posted_in grains s) l)
    (subst (λ n. set_value (is_at (nat_cmp n)) (posted_from (first + 1) grains slots) posted ≡ posted_from (first + 1) grains
    (set slots k slot)) (further first k)
    (set_index (first + 1) k grains slots slot d posted (omega arith) there is))
  where
    passed : (o : Option Posted) → set_value (is_at (nat_cmp (first + suc k))) (under first o (posted_from (first + 1) grains slots)) posted
        ≡ under first o (set_value (is_at (nat_cmp (first + suc k))) (posted_from (first + 1) grains slots) posted)
    passed None = refl
    passed (Some p) =
        ap (λ b. cond b ((first, posted) ∷ posted_from (first + 1) grains slots)
        ((first, p) ∷ set_value (is_at (nat_cmp (first + suc k))) (posted_from (first + 1) grains slots) posted))
        (apart (first + suc k) first (λ same. omega arith))

-- what is in the slot of a letter
there_in : (o : Option Posted) → IsSome (letter_part o) → IsSome o
there_in None there = absurd (cc (there))
there_in (Some posted) there = refl

stale_in : (grains : List Grain) (slot : Slot) (letter : Letter) → letter_part (posted_in grains slot) ≡ Some letter
    → posted_in grains (stale_slot slot) ≡ Some (record { letter = letter; fresh = false })
stale_in grains (Short fresh brief) letter found =
    ap (λ (l : Letter). Some (record { letter = l; fresh = false })) (same_Some (letter_by grains brief) letter found)
stale_in grains (Whole fresh whole) letter found =
    ap (λ (l : Letter). Some (record { letter = l; fresh = false })) (same_Some whole.value letter found)
stale_in grains (Lost to) letter found = absurd (cc (found))

pub delivered_is : (grains : List Grain) (slots after : List Slot) (number : ℕ) (d : Slot) (letter : Letter) → 1 ≤ number
    → number ≤ length slots
    → after ≡ set slots (number - 1) (stale_slot (get_or slots (number - 1) d))
    → letter_in (mail_in grains slots) number ≡ Some letter → mail_in grains after ≡ with_stale (mail_in grains slots) number letter
delivered_is grains slots after number d letter sent within is found =
    let index = number - 1 in
    let slot : Slot = get_or slots index d in
    let below : index < length slots = omega arith in
    let number_is : number ≡ 1 + index = omega arith in
    let kept : letter_part (posted_in grains slot) ≡ Some letter = sym (letter_at grains slots number index d below number_is) ∙ found in
    ap (λ (l : List Slot). mail_in grains l) is
    ∙ ap (λ (l : List (ℕ × Posted)). record { letters = l; sent = length (set slots index (stale_slot slot)) })
    (sym (set_index 1 index grains slots (stale_slot slot) d (record { letter = letter; fresh = false }) below
    (there_in (posted_in grains slot) (subst (λ (o : Option Letter). IsSome o) (sym kept) refl)) (stale_in grains slot letter kept))
    ∙ ap (λ n. set_value (is_at (nat_cmp n)) (posted_from 1 grains slots) (record { letter = letter; fresh = false })) (sym number_is))
    ∙ ap (λ n. record {
      letters = set_value (is_at (nat_cmp number)) (posted_from 1 grains slots)
          (record { letter = letter; fresh = false });
      sent = n;
    })
    (length-set slots index (stale_slot slot))

-- ---- a loss
remove_index : (first k : ℕ) (grains : List Grain) (slots : List Slot) (d : Slot) (to : _) → k < length slots
    → IsSome (posted_in grains (get_or slots k d))
    → remove_entry (is_at (nat_cmp (first + k))) (posted_from first grains slots) ≡ posted_from first grains (set slots k (Lost to))
remove_index first k grains [] d to below there = absurd (omega arith)
remove_index first zero grains (s ∷ slots) d to below there = at_first (posted_in grains s) there
  where
    at_first : (o : Option Posted) → IsSome o → remove_entry (is_at (nat_cmp (first + 0)))
        (under first o (posted_from (first + 1) grains slots)) ≡ posted_from (first + 1) grains slots
    at_first None there = absurd (cc (there))
    at_first (Some p) there =
        ap (λ b. cond b (posted_from (first + 1) grains slots)
        ((first, p) ∷ remove_entry (is_at (nat_cmp (first + 0))) (posted_from (first + 1) grains slots)))
        (here (first + 0) first (omega arith))
remove_index first (suc k) grains (s ∷ slots) d to below there =
    passed (posted_in grains s)
    ∙ ap (λ (l : List (ℕ × Posted)). under first (posted_in grains s) l)
    (subst (λ n. remove_entry (is_at (nat_cmp n)) (posted_from (first + 1) grains slots) ≡ posted_from (first + 1) grains
    (set slots k (Lost to))) (further first k)
    (remove_index (first + 1) k grains slots d to (omega arith) there))
  where
    passed : (o : Option Posted) → remove_entry (is_at (nat_cmp (first + suc k))) (under first o (posted_from (first + 1) grains slots))
        ≡ under first o (remove_entry (is_at (nat_cmp (first + suc k))) (posted_from (first + 1) grains slots))
    passed None = refl
    passed (Some p) =
        ap (λ b. cond b (posted_from (first + 1) grains slots)
        ((first, p) ∷ remove_entry (is_at (nat_cmp (first + suc k))) (posted_from (first + 1) grains slots)))
        (apart (first + suc k) first (λ same. omega arith))

pub lost_is : (grains : List Grain) (slots after : List Slot) (number : ℕ) (d : Slot) → 1 ≤ number → number ≤ length slots
    → after ≡ set slots (number - 1) (lost_slot (get_or slots (number - 1) d))
    → IsSome (letter_in (mail_in grains slots) number) → mail_in grains after ≡ with_lost (mail_in grains slots) number
lost_is grains slots after number d sent within is there =
    let index = number - 1 in
    let slot : Slot = get_or slots index d in
    let below : index < length slots = omega arith in
    let number_is : number ≡ 1 + index = omega arith in
    ap (λ (l : List Slot). mail_in grains l) is
    ∙ ap (λ (l : List (ℕ × Posted)). record { letters = l; sent = length (set slots index (lost_slot slot)) })
    (sym (remove_index 1 index grains slots d (slot_to slot) below
    (there_in (posted_in grains slot) (subst (λ (o : Option Letter). IsSome o) (letter_at grains slots number index d below number_is)
    there)))
    ∙ ap (λ n. remove_entry (is_at (nat_cmp n)) (posted_from 1 grains slots)) (sym number_is))
    ∙ ap (λ n. record { letters = remove_entry (is_at (nat_cmp number)) (posted_from 1 grains slots); sent = n })
    (length-set slots index (lost_slot slot))

-- ---- letters taken back
none_kept : (first bound : ℕ) (grains : List Grain) (slots : List Slot) → bound < first
    → filter (λ e. nat_le e.0 bound) (posted_from first grains slots) ≡ []
none_kept first bound grains [] above = refl
none_kept first bound grains (s ∷ slots) above = by (posted_in grains s) (none_kept (first + 1) bound grains slots (omega arith))
  where
    by : (o : Option Posted) → filter (λ e. nat_le e.0 bound) (posted_from (first + 1) grains slots) ≡ []
        → filter (λ e. nat_le e.0 bound) (under first o (posted_from (first + 1) grains slots)) ≡ []
    by None later = later
    by (Some p) later =
        ap (λ b. cond b ((first, p) ∷ filter (λ e. nat_le e.0 bound) (posted_from (first + 1) grains slots))
        (filter (λ e. nat_le e.0 bound) (posted_from (first + 1) grains slots)))
        (lt-leb first bound above) ∙ later

first_kept : (first bound n : ℕ) (grains : List Grain) (slots : List Slot) → bound + 1 ≡ first + n
    → filter (λ e. nat_le e.0 bound) (posted_from first grains slots) ≡ posted_from first grains (take n slots)
first_kept first bound zero grains [] is = refl
first_kept first bound (suc n) grains [] is = refl
first_kept first bound zero grains (s ∷ slots) is = none_kept first bound grains (s ∷ slots) (omega arith)
first_kept first bound (suc n) grains (s ∷ slots) is =
    by (posted_in grains s) ∙ ap (λ (l : List (ℕ × Posted)). under first (posted_in grains s) l)
    (first_kept (first + 1) bound n grains slots (omega arith))
  where
    by : (o : Option Posted) → filter (λ e. nat_le e.0 bound) (under first o (posted_from (first + 1) grains slots)) ≡ under first o
        (filter (λ e. nat_le e.0 bound) (posted_from (first + 1) grains slots))
    by None = refl
    by (Some p) =
        ap (λ b. cond b ((first, p) ∷ filter (λ e. nat_le e.0 bound) (posted_from (first + 1) grains slots))
        (filter (λ e. nat_le e.0 bound) (posted_from (first + 1) grains slots)))
        (le-leb first bound (omega arith))

pub taken_is : (grains : List Grain) (slots after : List Slot) (count : ℕ) → count ≤ length slots
    → after ≡ take (length slots - count) slots
    → mail_in grains after ≡ without_last (mail_in grains slots) count
taken_is grains slots after count within is =
    let left = length slots - count in
    ap (λ (l : List Slot). mail_in grains l) is
    ∙ ap (λ (l : List (ℕ × Posted)). record { letters = l; sent = length (take left slots) })
    (sym (first_kept 1 left left grains slots (omega arith)))
    ∙ ap (λ n. record { letters = filter (λ e. nat_le e.0 left) (posted_from 1 grains slots); sent = n })
    (length-take-le left slots (omega arith))

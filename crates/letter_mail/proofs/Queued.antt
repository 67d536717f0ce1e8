-- Each silo's queue has the letters that were sent to it, from the first fresh one on.
use Rattle.std.proofs.Common.{◌≡◌, ◌⊎◌, inl, inr, ℕ, zero, suc, ◌+◌, ◌-◌, ◌<◌, Bool, true, false, cond, List, [], ◌∷◌, ◌++◌, length, get_or, set, map, Option, Some, None, refl, sym, ◌∙◌, ap, subst, arith}
use Rattle.std.specs.List.{AllByRecursion, cons_option, enumerate_from, filter_map}
use Rattle.std.specs.Ordering.{is_eq}
use Rattle.std.specs.BTreeMap.{is_at}
use Rattle.std.specs.declared.cmp.Ordering.{Ordering}
use Rattle.std.specs.declared.cmp.Ordering.TheVariants.{Less, Equal, Greater}
use Rattle.std.proofs.lemmas.Cmp.{tied_back, tied_itself}
use Rattle.std.proofs.lemmas.List.{append-nil, length-append, map-append, take_at}
use Rattle.std.proofs.lemmas.List.Elements.{filter_map-append}
use Rattle.silo_address.specs.Silo.{Silo, silo_cmp}
use Rattle.silo_address.proofs.Order.{silo_cmp_exact, silo_cmp_total}
use Rattle.letter_mail.specs.declared.slots.Slot.{Slot}
use Rattle.letter_mail.specs.declared.slots.Slot.TheVariants.{Short, Whole, Lost}
use Rattle.letter_mail.specs.Slots.{is_fresh, sent_from, slot_from, slot_to, stale_slot}
use Rattle.letter_mail.specs.Queues.{AreQueued, Puts, QueueValue, fresh_at, from_first, is_fresh_in, numbers_of, queue_of, waiting, with_number, without_number}
use Rattle.letter_mail.proofs.Posted.{enumerate-append, further, slot_at, slot_none}

-- ---- whether two silos are one
equal_from : (r : Ordering) → is_eq r ≡ true → r ≡ Equal
equal_from Less h = cc
equal_from Equal h = refl
equal_from Greater h = cc

pub one_silo : (a b : Silo) → is_at (silo_cmp a) b ≡ true → a ≡ b
one_silo a b at = silo_cmp_exact a b (equal_from (silo_cmp a b) at)

pub itself : (a : Silo) → is_at (silo_cmp a) a ≡ true
itself a = ap is_eq (tied_itself silo_cmp_total a)

back_true : (a b : Silo) → is_at (silo_cmp a) b ≡ true → is_at (silo_cmp b) a ≡ true
back_true a b at = ap is_eq (tied_back silo_cmp_total a b (equal_from (silo_cmp a b) at))

pub turned : (a b : Silo) → is_at (silo_cmp a) b ≡ is_at (silo_cmp b) a
turned a b = by (is_at (silo_cmp a) b) (is_at (silo_cmp b) a) (back_true a b) (back_true b a)
  where
    by : (p q : Bool) → (p ≡ true → q ≡ true) → (q ≡ true → p ≡ true) → p ≡ q
    by true q there back = sym (there refl)
    by false true there back = back refl
    by false false there back = refl

-- ---- the letters that were ever sent to a silo
abbrev sent_under : Silo → ℕ × Slot → Option (ℕ × Bool)
sent_under silo e = cond (is_at (silo_cmp silo) (slot_to e.1)) (Some (e.0, is_fresh e.1)) None

sent-append : (silo : Silo) (slots : List Slot) (slot : Slot)
    → sent_from 1 silo (slots ++ slot ∷ []) ≡ sent_from 1 silo slots ++ cons_option (sent_under silo (1 + length slots, slot)) []
sent-append silo slots slot =
    ap (λ (l : List (ℕ × Slot)). filter_map (sent_under silo) l) (enumerate-append 1 slots (slot ∷ []))
    ∙ filter_map-append (sent_under silo) (enumerate_from 1 slots) (enumerate_from (1 + length slots) (slot ∷ []))

other_sent : (silo : Silo) (slots : List Slot) (slot : Slot) → is_at (silo_cmp silo) (slot_to slot) ≡ false
    → sent_from 1 silo (slots ++ slot ∷ []) ≡ sent_from 1 silo slots
other_sent silo slots slot other =
    sent-append silo slots slot
    ∙ ap (λ b. sent_from 1 silo slots ++ cons_option (cond b (Some (1 + length slots, is_fresh slot)) None) []) other
    ∙ append-nil (sent_from 1 silo slots)

own_sent : (silo : Silo) (slots : List Slot) (slot : Slot) → is_at (silo_cmp silo) (slot_to slot) ≡ true
    → sent_from 1 silo (slots ++ slot ∷ []) ≡ sent_from 1 silo slots ++ (1 + length slots, is_fresh slot) ∷ []
own_sent silo slots slot own =
    sent-append silo slots slot ∙ ap (λ b. sent_from 1 silo slots ++ cons_option (cond b (Some (1 + length slots, is_fresh slot)) None) [])
    own

-- ---- a letter more
abbrev number_part : ℕ × Bool → ℕ
number_part e = e.0

abbrev fresh_part : ℕ × Bool → Bool
fresh_part e = e.1

waiting_more : (sent : List (ℕ × Bool)) (number : ℕ) → waiting (sent ++ (number, true) ∷ []) ≡ waiting sent ++ number ∷ []
waiting_more [] number = refl
waiting_more (e ∷ es) number = by e.1 (waiting_more es number)
  where
    by : (b : Bool) → waiting (es ++ (number, true) ∷ []) ≡ waiting es ++ number ∷ []
        → map number_part (cond b (e ∷ (es ++ (number, true) ∷ [])) (from_first fresh_part (es ++ (number, true) ∷ []))) ≡ map number_part
        (cond b (e ∷ es) (from_first fresh_part es)) ++ number ∷ []
    by true later = map-append number_part (e ∷ es) ((number, true) ∷ [])
    by false later = later

pub queued_put : (slots after : List Slot) (slot : Slot) (to : Silo) (number : ℕ) (queues now : List (Silo × QueueValue))
    → AreQueued slots queues → after ≡ slots ++ slot ∷ []
    → is_fresh slot ≡ true → slot_to slot ≡ to → number ≡ 1 + length slots → Puts to (with_number (queue_of queues to) number) queues now
    → AreQueued after now
queued_put slots after slot to number queues now are is fresh for number_is put silo =
    ap numbers_of (put silo) ∙ by (is_at (silo_cmp to) silo) refl ∙ ap (λ (l : List Slot). waiting (sent_from 1 silo l)) (sym is)
  where
    by : (b : Bool) → is_at (silo_cmp to) silo ≡ b → numbers_of
        (cond b (Some (with_number (queue_of queues to) number)) (queue_of queues silo)) ≡ waiting (sent_from 1 silo (slots ++ slot ∷ []))
    by false other =
        are silo ∙ sym (ap (λ (l : List (ℕ × Bool)). waiting l)
        (other_sent silo slots slot (ap (is_at (silo_cmp silo)) for ∙ turned silo to ∙ other)))
    by true own =
        ap (λ (s : Silo). with_number (queue_of queues s) number) (one_silo to silo own)
        ∙ ap (λ (l : List ℕ). l ++ number ∷ []) (are silo)
        ∙ sym (waiting_more (sent_from 1 silo slots) number)
        ∙ ap (λ n. waiting (sent_from 1 silo slots ++ (n, true) ∷ [])) number_is
        ∙ ap (λ b. waiting (sent_from 1 silo slots ++ (1 + length slots, b) ∷ [])) (sym fresh)
        ∙ sym (ap (λ (l : List (ℕ × Bool)). waiting l) (own_sent silo slots slot (ap (is_at (silo_cmp silo)) for ∙ turned silo to ∙ own)))

-- ---- one silo's queue is changed, where it has one
changed : (change : List ℕ → List ℕ) → change [] ≡ [] → (to silo : Silo) (queues now : List (Silo × QueueValue)) (wanted : List ℕ)
    → (queue_of queues to ≡ None → now ≡ queues)
    → ((queue : QueueValue) → queue_of queues to ≡ Some queue → Puts to (change queue) queues now)
    → (is_at (silo_cmp to) silo ≡ false → numbers_of (queue_of queues silo) ≡ wanted)
    → (is_at (silo_cmp to) silo ≡ true → change (numbers_of (queue_of queues silo)) ≡ wanted) → numbers_of (queue_of now silo) ≡ wanted
changed change nothing to silo queues now wanted none some others own = found (queue_of queues to) refl
  where
    of_to : is_at (silo_cmp to) silo ≡ true → queue_of queues silo ≡ queue_of queues to
    of_to at = ap (λ (s : Silo). queue_of queues s) (sym (one_silo to silo at))

    kept : queue_of queues to ≡ None → (b : Bool) → is_at (silo_cmp to) silo ≡ b → numbers_of (queue_of queues silo) ≡ wanted
    kept gone false at = others at
    kept gone true at =
        ap numbers_of (of_to at ∙ gone) ∙ sym nothing ∙ sym (ap (λ (o : Option QueueValue). change (numbers_of o)) (of_to at ∙ gone))
        ∙ own at

    by : (queue : QueueValue) → queue_of queues to ≡ Some queue → (b : Bool) → is_at (silo_cmp to) silo ≡ b
        → numbers_of (cond b (Some (change queue)) (queue_of queues silo)) ≡ wanted
    by queue there false at = others at
    by queue there true at = sym (ap (λ (o : Option QueueValue). change (numbers_of o)) (of_to at ∙ there)) ∙ own at

    found : (o : Option QueueValue) → queue_of queues to ≡ o → numbers_of (queue_of now silo) ≡ wanted
    found None gone =
        ap (λ (l : List (Silo × QueueValue)). numbers_of (queue_of l silo)) (none gone) ∙ kept gone (is_at (silo_cmp to) silo) refl
    found (Some queue) there = ap numbers_of (some queue there silo) ∙ by queue there (is_at (silo_cmp to) silo) refl

-- ---- a letter less
all_but : (sent : List (ℕ × Bool)) (e : ℕ × Bool) → without_number (map number_part (sent ++ e ∷ [])) ≡ map number_part sent
all_but sent e =
    ap without_number (map-append number_part sent (e ∷ []))
    ∙ take_at (map number_part sent) (e.0 ∷ []) (length (map number_part sent ++ e.0 ∷ []) - 1)
    (omega (arith, length-append (map number_part sent) (e.0 ∷ [])))

waiting_less : (sent : List (ℕ × Bool)) (e : ℕ × Bool) → without_number (waiting (sent ++ e ∷ [])) ≡ waiting sent
waiting_less [] e = by e.1
  where
    by : (b : Bool) → without_number (map number_part (cond b (e ∷ []) [])) ≡ []
    by true = refl
    by false = refl
waiting_less (x ∷ xs) e = by x.1 (waiting_less xs e)
  where
    by : (b : Bool) → without_number (waiting (xs ++ e ∷ [])) ≡ waiting xs
        → without_number (map number_part (cond b (x ∷ (xs ++ e ∷ [])) (from_first fresh_part (xs ++ e ∷ [])))) ≡ map number_part
        (cond b (x ∷ xs) (from_first fresh_part xs))
    by true later = all_but (x ∷ xs) e
    by false later = later

pub queued_less : (slots after : List Slot) (slot : Slot) (to : Silo) (queues now : List (Silo × QueueValue)) → AreQueued slots queues
    → slots ≡ after ++ slot ∷ [] → slot_to slot ≡ to
    → (queue_of queues to ≡ None → now ≡ queues) → ((queue : QueueValue) → queue_of queues to ≡ Some queue
    → Puts to (without_number queue) queues now) → AreQueued after now
queued_less slots after slot to queues now are is for none some silo =
    changed without_number refl to silo queues now (waiting (sent_from 1 silo after)) none some others own
  where
    first : numbers_of (queue_of queues silo) ≡ waiting (sent_from 1 silo (after ++ slot ∷ []))
    first = are silo ∙ ap (λ (l : List Slot). waiting (sent_from 1 silo l)) is

    others : is_at (silo_cmp to) silo ≡ false → numbers_of (queue_of queues silo) ≡ waiting (sent_from 1 silo after)
    others at =
        first ∙ ap (λ (l : List (ℕ × Bool)). waiting l) (other_sent silo after slot (ap (is_at (silo_cmp silo)) for ∙ turned silo to ∙ at))

    own : is_at (silo_cmp to) silo ≡ true → without_number (numbers_of (queue_of queues silo)) ≡ waiting (sent_from 1 silo after)
    own at =
        ap without_number (first ∙ ap (λ (l : List (ℕ × Bool)). waiting l)
        (own_sent silo after slot (ap (is_at (silo_cmp silo)) for ∙ turned silo to ∙ at)))
        ∙ waiting_less (sent_from 1 silo after) (1 + length after, is_fresh slot)

-- ---- a letter that is fresh no more
-- the same numbers, and none of them is fresh that wasn't
abbrev AreStaler : List (ℕ × Bool) → List (ℕ × Bool) → Type 0
AreStaler [] [] = Unit {0}
AreStaler [] (x ∷ xs) = ⊥
AreStaler (e ∷ es) [] = ⊥
AreStaler (e ∷ es) (x ∷ xs) = (e.0 ≡ x.0) × ((e.1 ≡ false → x.1 ≡ false) × AreStaler es xs)

as_stale : (sent : List (ℕ × Bool)) → AreStaler sent sent
as_stale [] = tt
as_stale (e ∷ es) = (refl, (λ stale. stale, as_stale es))

same_numbers : (sent now : List (ℕ × Bool)) → AreStaler sent now → map number_part sent ≡ map number_part now
same_numbers [] [] staler = refl
same_numbers [] (x ∷ xs) staler = absurd staler
same_numbers (e ∷ es) [] staler = absurd staler
same_numbers (e ∷ es) (x ∷ xs) staler =
    ap (λ n. n ∷ map number_part es) staler.0 ∙ ap (λ (l : List ℕ). x.0 ∷ l) (same_numbers es xs staler.1.1)

-- a slot that is for the same silo, in the place of another one
set_others : (first k : ℕ) (silo : Silo) (slots : List Slot) (slot d : Slot) → k < length slots → slot_to slot ≡ slot_to (get_or slots k d)
    → is_at (silo_cmp silo) (slot_to slot) ≡ false
    → sent_from first silo (set slots k slot) ≡ sent_from first silo slots
set_others first k silo [] slot d below same other = absurd (omega arith)
set_others first zero silo (s ∷ slots) slot d below same other =
    ap (λ b. cons_option (cond b (Some (first, is_fresh slot)) None) (sent_from (first + 1) silo slots)) other
    ∙ ap (λ b. cons_option (cond b (Some (first, is_fresh s)) None) (sent_from (first + 1) silo slots))
    (sym (ap (is_at (silo_cmp silo)) (sym same) ∙ other))
set_others first (suc k) silo (s ∷ slots) slot d below same other =
    ap (λ (l : List (ℕ × Bool)). cons_option (sent_under silo (first, s)) l)
    (set_others (first + 1) k silo slots slot d (omega arith) same other)

set_staler : (first k : ℕ) (silo : Silo) (slots : List Slot) (slot d : Slot) → k < length slots → slot_to slot ≡ slot_to (get_or slots k d)
    → is_fresh slot ≡ false
    → AreStaler (sent_from first silo slots) (sent_from first silo (set slots k slot))
set_staler first k silo [] slot d below same stale = absurd (omega arith)
set_staler first zero silo (s ∷ slots) slot d below same stale =
    subst (λ to. AreStaler (sent_from first silo (s ∷ slots))
    (cons_option (cond (is_at (silo_cmp silo) to) (Some (first, is_fresh slot)) None) (sent_from (first + 1) silo slots)))
    (sym same) (by (is_at (silo_cmp silo) (slot_to s)))
  where
    by : (b : Bool) → AreStaler (cons_option (cond b (Some (first, is_fresh s)) None) (sent_from (first + 1) silo slots))
        (cons_option (cond b (Some (first, is_fresh slot)) None) (sent_from (first + 1) silo slots))
    by true = (refl, (λ _. stale, as_stale (sent_from (first + 1) silo slots)))
    by false = as_stale (sent_from (first + 1) silo slots)
set_staler first (suc k) silo (s ∷ slots) slot d below same stale =
    by (is_at (silo_cmp silo) (slot_to s)) (set_staler (first + 1) k silo slots slot d (omega arith) same stale)
  where
    by : (b : Bool) → AreStaler (sent_from (first + 1) silo slots) (sent_from (first + 1) silo (set slots k slot))
        → AreStaler (cons_option (cond b (Some (first, is_fresh s)) None) (sent_from (first + 1) silo slots))
        (cons_option (cond b (Some (first, is_fresh s)) None) (sent_from (first + 1) silo (set slots k slot)))
    by true later = (refl, (λ was. was, later))
    by false later = later

-- what a number's slot says is what is said of the letter
flags_from : (p : ℕ → Bool) (first : ℕ) (silo : Silo) (slots : List Slot)
    → ((k : ℕ) (d : Slot) → k < length slots → p (first + k) ≡ is_fresh (get_or slots k d))
    → AllByRecursion (λ (e : ℕ × Bool). p e.0 ≡ e.1) (sent_from first silo slots)
flags_from p first silo [] says = tt
flags_from p first silo (s ∷ slots) says =
    by (is_at (silo_cmp silo) (slot_to s)) (ap p (omega arith) ∙ says 0 s (omega arith))
    (flags_from p (first + 1) silo slots (λ k d below. ap p (further first k) ∙ says (suc k) d (omega arith)))
  where
    by : (b : Bool) → p first ≡ is_fresh s → AllByRecursion (λ (e : ℕ × Bool). p e.0 ≡ e.1) (sent_from (first + 1) silo slots)
        → AllByRecursion (λ (e : ℕ × Bool). p e.0 ≡ e.1)
        (cons_option (cond b (Some (first, is_fresh s)) None) (sent_from (first + 1) silo slots))
    by true says later = (says, later)
    by false says later = later

pub fresh_some : (slots : List Slot) (number index : ℕ) (d : Slot) → index < length slots → number ≡ 1 + index
    → fresh_at slots number ≡ is_fresh (get_or slots index d)
unfolding fresh_at
fresh_some slots number index d below is = ap (λ n. is_fresh_in (slot_from 1 slots n)) is ∙ ap is_fresh_in (slot_at 1 index slots d below)

pub fresh_none : (slots : List Slot) (number : ℕ) → (number ≡ 0) ⊎ (length slots < number) → fresh_at slots number ≡ false
unfolding fresh_at
fresh_none slots number out =
    ap is_fresh_in (slot_none 1 number slots (elim out [ inl none ↦ inl (omega arith) | inr behind ↦ inr (omega arith) ]))

-- from the first fresh one on, by what slots say
waiting_all : (p : ℕ → Bool) (sent : List (ℕ × Bool)) → AllByRecursion (λ (e : ℕ × Bool). p e.0 ≡ e.1) sent
    → from_first p (map number_part sent) ≡ waiting sent
waiting_all p [] says = refl
waiting_all p (e ∷ es) says = by (p e.0) says.0 (waiting_all p es says.1)
  where
    by : (b : Bool) → b ≡ e.1 → from_first p (map number_part es) ≡ waiting es
        → cond b (e.0 ∷ map number_part es) (from_first p (map number_part es)) ≡ waiting (e ∷ es)
    by true is later = ap (λ c. map number_part (cond c (e ∷ es) (from_first fresh_part es))) is
    by false is later = later ∙ ap (λ c. map number_part (cond c (e ∷ es) (from_first fresh_part es))) is

waiting_after : (p : ℕ → Bool) (sent now : List (ℕ × Bool)) → AreStaler sent now → AllByRecursion (λ (e : ℕ × Bool). p e.0 ≡ e.1) now
    → from_first p (waiting sent) ≡ waiting now
waiting_after p [] [] staler says = refl
waiting_after p [] (x ∷ xs) staler says = absurd staler
waiting_after p (e ∷ es) [] staler says = absurd staler
waiting_after p (e ∷ es) (x ∷ xs) staler says = by e.1 refl (waiting_after p es xs staler.1.1 says.1)
  where
    by : (b : Bool) → e.1 ≡ b → from_first p (waiting es) ≡ waiting xs
        → from_first p (map number_part (cond b (e ∷ es) (from_first fresh_part es))) ≡ waiting (x ∷ xs)
    by true is later = ap (λ (l : List ℕ). from_first p l) (same_numbers (e ∷ es) (x ∷ xs) staler) ∙ waiting_all p (x ∷ xs) says
    by false is later = later ∙ ap (λ c. map number_part (cond c (x ∷ xs) (from_first fresh_part xs))) (sym (staler.1.0 is))

pub queued_passed : (slots after : List Slot) (slot d : Slot) (to : Silo) (k : ℕ) (queues now : List (Silo × QueueValue))
    → AreQueued slots queues → k < length slots
    → after ≡ set slots k slot → slot_to slot ≡ slot_to (get_or slots k d) → slot_to slot ≡ to → is_fresh slot ≡ false
    → (queue_of queues to ≡ None → now ≡ queues) → ((queue : QueueValue) → queue_of queues to ≡ Some queue
    → Puts to (from_first (fresh_at after) queue) queues now) → AreQueued after now
queued_passed slots after slot d to k queues now are below is same for stale none some silo =
    changed (from_first (fresh_at after)) refl to silo queues now (waiting (sent_from 1 silo after)) none some others (λ _. own)
  where
    others : is_at (silo_cmp to) silo ≡ false → numbers_of (queue_of queues silo) ≡ waiting (sent_from 1 silo after)
    others at =
        are silo ∙ sym (ap (λ (l : List Slot). waiting (sent_from 1 silo l)) is
        ∙ ap (λ (l : List (ℕ × Bool)). waiting l) (set_others 1 k silo slots slot d below same
        (ap (is_at (silo_cmp silo)) for ∙ turned silo to ∙ at)))

    staler : AreStaler (sent_from 1 silo slots) (sent_from 1 silo after)
    staler =
        subst (λ (l : List Slot). AreStaler (sent_from 1 silo slots) (sent_from 1 silo l)) (sym is)
        (set_staler 1 k silo slots slot d below same stale)

    flags : AllByRecursion (λ (e : ℕ × Bool). fresh_at after e.0 ≡ e.1) (sent_from 1 silo after)
    flags = flags_from (fresh_at after) 1 silo after (λ j e under. fresh_some after (1 + j) j e under refl)

    own : from_first (fresh_at after) (numbers_of (queue_of queues silo)) ≡ waiting (sent_from 1 silo after)
    own =
        ap (λ (l : List ℕ). from_first (fresh_at after) l) (are silo)
        ∙ waiting_after (fresh_at after) (sent_from 1 silo slots) (sent_from 1 silo after) staler flags

-- a delivered letter and a lost one are for whom they were
pub stale_to : (slot : Slot) → slot_to (stale_slot slot) ≡ slot_to slot
stale_to (Short fresh brief) = refl
stale_to (Whole fresh letter) = refl
stale_to (Lost to) = refl

pub stale_stale : (slot : Slot) → is_fresh (stale_slot slot) ≡ false
stale_stale (Short fresh brief) = refl
stale_stale (Whole fresh letter) = refl
stale_stale (Lost to) = refl

-- The least fresh letter: the first one of its silo's queue, and the least of several silos' ones.
use Rattle.std.proofs.Common.{◌≡◌, ℕ, suc, ◌+◌, ◌-◌, ◌<◌, ◌≤◌, ◌&&◌, ◌||◌, Bool, true, false, cond, List, [], ◌∷◌, length, map, find, Option, Some, None, refl, sym, ◌∙◌, ap, subst, arith}
use Rattle.std.specs.Prelude.{is_some, slice_get}
use Rattle.std.specs.Option.{option_map}
use Rattle.std.specs.List.{cons_option}
use Rattle.std.specs.Map.{lookup}
use Rattle.std.specs.BTreeMap.{is_at}
use Rattle.silo_address.specs.Grain.{Grain}
use Rattle.silo_address.specs.Silo.{Silo, silo_cmp}
use Rattle.directory_rules.specs.State.{Posted}
use Rattle.directory_rules.specs.Laws.{RiseBetween}
use Rattle.letter_mail.specs.declared.slots.Slot.{Slot}
use Rattle.letter_mail.specs.declared.slots.Slot.TheVariants.{Short, Whole, Lost}
use Rattle.letter_mail.specs.Kept.{letter_by}
use Rattle.letter_mail.specs.Slots.{is_fresh, posted_from, posted_in, sent_from, slot_to}
use Rattle.letter_mail.specs.Queues.{AreQueued, QueueValue, first_of, from_first, queue_of, waiting}
use Rattle.letter_mail.specs.Mail.{HasRisingNumbers, MailValue, is_fresh_to, least_fresh, least_fresh_to, lesser}
use Rattle.letter_mail.specs.MailModel.{mail_in}
use Rattle.letter_mail.proofs.Queued.{turned}

-- ---- to one silo
abbrev first_part : {A : Type 0} → Option (ℕ × A) → Option ℕ
first_part o = option_map (λ e. e.0) o

abbrev is_for : Silo → ℕ × Posted → Bool
is_for silo e = e.1.fresh && is_at (silo_cmp e.1.letter.to) silo

first_sent : (first : ℕ) (silo : Silo) (grains : List Grain) (slots : List Slot)
    → first_part (find (is_for silo) (posted_from first grains slots)) ≡ first_part (find (λ e. e.1) (sent_from first silo slots))
first_sent first silo grains [] = refl
first_sent first silo grains (s ∷ slots) = by s (first_sent (first + 1) silo grains slots)
  where
    rest : List (ℕ × Posted)
    rest = posted_from (first + 1) grains slots

    own : List (ℕ × Bool)
    own = sent_from (first + 1) silo slots

    posted : (f b : Bool) (p : Posted) → p.fresh ≡ f → is_at (silo_cmp p.letter.to) silo ≡ b
        → first_part (find (is_for silo) rest) ≡ first_part (find (λ e. e.1) own)
        → first_part (cond (p.fresh && is_at (silo_cmp p.letter.to) silo) (Some (first, p)) (find (is_for silo) rest))
        ≡ first_part (find (λ e. e.1) (cons_option (cond b (Some (first, f)) None) own))
    posted f b p fresh for later =
        ap (λ c. first_part (cond (c && is_at (silo_cmp p.letter.to) silo) (Some (first, p)) (find (is_for silo) rest))) fresh
        ∙ ap (λ c. first_part (cond (f && c) (Some (first, p)) (find (is_for silo) rest))) for
        ∙ either f b
      where
        either : (f b : Bool) → first_part (cond (f && b) (Some (first, p)) (find (is_for silo) rest)) ≡ first_part
            (find (λ e. e.1) (cons_option (cond b (Some (first, f)) None) own))
        either true true = refl
        either true false = later
        either false true = later
        either false false = later

    by : (slot : Slot) → first_part (find (is_for silo) rest) ≡ first_part (find (λ e. e.1) own)
        → first_part (find (is_for silo) (cons_option (option_map (λ posted. (first, posted)) (posted_in grains slot)) rest))
        ≡ first_part (find (λ e. e.1) (cons_option (cond (is_at (silo_cmp silo) (slot_to slot)) (Some (first, is_fresh slot)) None) own))
    by (Short fresh brief) later =
        posted fresh (is_at (silo_cmp silo) brief.to) (record { letter = letter_by grains brief; fresh = fresh }) refl
        (turned brief.to silo) later
    by (Whole fresh letter) later =
        posted fresh (is_at (silo_cmp silo) letter.value.to) (record { letter = letter.value; fresh = fresh }) refl
        (turned letter.value.to silo) later
    by (Lost to) later = later ∙ lost (is_at (silo_cmp silo) to)
      where
        lost : (b : Bool) → first_part (find (λ e. e.1) own) ≡ first_part
            (find (λ e. e.1) (cons_option (cond b (Some (first, false)) None) own))
        lost true = refl
        lost false = refl

first_waiting : (sent : List (ℕ × Bool)) → slice_get (waiting sent) 0 ≡ first_part (find (λ e. e.1) sent)
first_waiting [] = refl
first_waiting (e ∷ es) = by e.1 (first_waiting es)
  where
    by : (b : Bool) → slice_get (waiting es) 0 ≡ first_part (find (λ x. x.1) es)
        → slice_get (map (λ x. x.0) (cond b (e ∷ es) (from_first (λ x. x.1) es))) 0 ≡ first_part (cond b (Some e) (find (λ x. x.1) es))
    by true later = refl
    by false later = later

pub least_to : (silo : Silo) (grains : List Grain) (slots : List Slot) (queues : List (Silo × QueueValue)) → AreQueued slots queues
    → first_of (queue_of queues silo) ≡ least_fresh_to silo (mail_in grains slots)
least_to silo grains slots queues are =
    ap (λ (l : List ℕ). slice_get l 0) (are silo) ∙ first_waiting (sent_from 1 silo slots) ∙ sym (first_sent 1 silo grains slots)

-- ---- the numbers rise
rising_from : (low first : ℕ) (grains : List Grain) (slots : List Slot) → low < first
    → RiseBetween low (first + length slots - 1) (posted_from first grains slots)
rising_from low first grains [] below = omega arith
rising_from low first grains (s ∷ slots) below =
    by (posted_in grains s) (subst (λ n. RiseBetween first n (posted_from (first + 1) grains slots)) high
    (rising_from first (first + 1) grains slots (omega arith)))
    (subst (λ n. RiseBetween low n (posted_from (first + 1) grains slots)) high (rising_from low (first + 1) grains slots (omega arith)))
  where
    high : first + 1 + length slots - 1 ≡ first + suc (length slots) - 1
    high = omega arith

    by : (o : Option Posted) → RiseBetween first (first + suc (length slots) - 1) (posted_from (first + 1) grains slots)
        → RiseBetween low (first + suc (length slots) - 1) (posted_from (first + 1) grains slots)
        → RiseBetween low (first + suc (length slots) - 1)
        (cons_option (option_map (λ posted. (first, posted)) o) (posted_from (first + 1) grains slots))
    by None above later = later
    by (Some posted) above later = (below, above)

no_more : (first : ℕ) (grains : List Grain) (slots : List Slot) → length (posted_from first grains slots) ≤ length slots
no_more first grains [] = omega arith
no_more first grains (s ∷ slots) = by (posted_in grains s) (no_more (first + 1) grains slots)
  where
    by : (o : Option Posted) → length (posted_from (first + 1) grains slots) ≤ length slots
        → length (cons_option (option_map (λ posted. (first, posted)) o) (posted_from (first + 1) grains slots)) ≤ suc (length slots)
    by None later = omega arith
    by (Some posted) later = omega arith

pub numbers_rise : (grains : List Grain) (slots : List Slot) → HasRisingNumbers (mail_in grains slots)
numbers_rise grains slots = record {
  rising = subst (λ n. RiseBetween 0 n (posted_from 1 grains slots)) (last (length slots)) (rising_from 0 1 grains slots (omega arith));
  many = no_more 1 grains slots;
}
  where
    last : (n : ℕ) → 1 + n - 1 ≡ n
    last n = omega arith

-- ---- to one of several silos
abbrev IsAbove : ℕ → Option ℕ → Type 0
IsAbove low None = Unit {0}
IsAbove low (Some number) = low < number

found_above : (p : ℕ × Posted → Bool) (low high : ℕ) (letters : List (ℕ × Posted)) → RiseBetween low high letters
    → IsAbove low (first_part (find p letters))
found_above p low high [] rise = tt
found_above p low high (e ∷ es) rise = by (p e) (lower (first_part (find p es)) (found_above p e.0 high es rise.1))
  where
    lower : (o : Option ℕ) → IsAbove e.0 o → IsAbove low o
    lower None above = tt
    lower (Some number) above = let below = rise.0 in omega arith

    by : (b : Bool) → IsAbove low (first_part (find p es)) → IsAbove low (first_part (cond b (Some e) (find p es)))
    by true later = rise.0
    by false later = later

lesser_first : (number : ℕ) (o : Option ℕ) → IsAbove number o → Some number ≡ lesser (Some number) o
lesser_first number None above = refl
lesser_first number (Some other) above = ap (λ n. Some n) (omega arith)

lesser_second : (number : ℕ) (o : Option ℕ) → IsAbove number o → Some number ≡ lesser o (Some number)
lesser_second number None above = refl
lesser_second number (Some other) above = ap (λ n. Some n) (omega arith)

found_by_either : (p q r : ℕ × Posted → Bool) → ((e : ℕ × Posted) → r e ≡ (p e || q e)) → (low high : ℕ) (letters : List (ℕ × Posted))
    → RiseBetween low high letters
    → first_part (find r letters) ≡ lesser (first_part (find p letters)) (first_part (find q letters))
found_by_either p q r either low high [] rise = refl
found_by_either p q r either low high (e ∷ es) rise =
    ap (λ b. first_part (cond b (Some e) (find r es))) (either e)
    ∙ by (p e) (q e) (found_above p e.0 high es rise.1) (found_above q e.0 high es rise.1) (found_by_either p q r either e.0 high es rise.1)
  where
    by : (a b : Bool) → IsAbove e.0 (first_part (find p es)) → IsAbove e.0 (first_part (find q es))
        → first_part (find r es) ≡ lesser (first_part (find p es)) (first_part (find q es))
        → first_part (cond (a || b) (Some e) (find r es)) ≡ lesser (first_part (cond a (Some e) (find p es)))
        (first_part (cond b (Some e) (find q es)))
    by true true above_p above_q later = ap (λ n. Some n) (omega arith)
    by true false above_p above_q later = lesser_first e.0 (first_part (find q es)) above_q
    by false true above_p above_q later = lesser_second e.0 (first_part (find p es)) above_p
    by false false above_p above_q later = later

-- the least of each of these silos' least
abbrev pub least_among : List Silo → MailValue → Option ℕ
least_among [] mail = None
least_among (silo ∷ silos) mail = lesser (least_fresh_to silo mail) (least_among silos mail)

none_found : (p : ℕ × Posted → Bool) (letters : List (ℕ × Posted)) → ((e : ℕ × Posted) → p e ≡ false) → first_part (find p letters) ≡ None
none_found p [] none = refl
none_found p (e ∷ es) none = ap (λ b. first_part (cond b (Some e) (find p es))) (none e) ∙ none_found p es none

pub least_is : {X : Type 0} (silos : List (Silo × X)) (mail : MailValue) → HasRisingNumbers mail
    → least_among (map (λ e. e.0) silos) mail ≡ least_fresh silos mail
least_is {X} [] mail rise = sym (none_found (λ e. is_fresh_to {X = X} [] e.1) mail.letters (λ e. never e.1.fresh))
  where
    never : (b : Bool) → (b && false) ≡ false
    never true = refl
    never false = refl
least_is {X} (s ∷ silos) mail rise =
    ap (λ o. lesser (least_fresh_to s.0 mail) o) (least_is silos mail rise)
    ∙ sym (found_by_either (is_for s.0) (λ e. is_fresh_to silos e.1) (λ e. is_fresh_to (s ∷ silos) e.1) either 0 mail.sent mail.letters
    rise.rising)
  where
    spread : (fresh at : Bool) (later : Option X) → (fresh && is_some (cond at (Some s.1) later))
        ≡ ((fresh && at) || (fresh && is_some later))
    spread true true later = refl
    spread true false later = refl
    spread false at later = refl

    either : (e : ℕ × Posted) → is_fresh_to (s ∷ silos) e.1 ≡ (is_for s.0 e || is_fresh_to silos e.1)
    either e = spread e.1.fresh (is_at (silo_cmp e.1.letter.to) s.0) (lookup (is_at (silo_cmp e.1.letter.to)) silos)

-- the lesser of three, whichever two are first
pub lesser_of : (a b c : Option ℕ) → lesser (lesser a b) c ≡ lesser a (lesser b c)
lesser_of None b c = refl
lesser_of (Some a) None c = refl
lesser_of (Some a) (Some b) None = refl
lesser_of (Some a) (Some b) (Some c) = ap (λ n. Some n) (omega arith)

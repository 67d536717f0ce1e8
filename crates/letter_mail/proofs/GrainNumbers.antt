-- Grains get numbers and keep them: what was kept before is the same letter after.
use Rattle.std.proofs.Common.{◌≡◌, ℕ, zero, suc, ◌+◌, ◌-◌, ◌<◌, ◌≤◌, List, [], ◌∷◌, ◌++◌, length, get_or, set, take, Option, Some, None, refl, sym, ◌∙◌, ap, arith}
use Rattle.std.specs.Prelude.{slice_get}
use Rattle.std.specs.List.{cons_option}
use Rattle.std.specs.Map.{keys_of}
use Rattle.std.specs.Option.{option_map}
use Rattle.std.proofs.Math.ListN.{get_or-append}
use Rattle.std.proofs.lemmas.List.{append-nil, append_assoc, length-append, length-map, map-append, take_at}
use Rattle.std.proofs.lemmas.Option.{same_Some, slice_get-map}
use Rattle.silo_address.specs.Grain.{Grain}
use Rattle.silo_address.specs.Silo.{Silo}
use Rattle.directory_rules.specs.State.{Body, Reply_letter, Offer_letter, Posted}
use Rattle.directory_rules.specs.declared.Act.TheVariants as act
use Rattle.directory_rules.specs.declared.Reply.TheVariants as reply
use Rattle.letter_mail.specs.declared.kept.Says.{Says}
use Rattle.letter_mail.specs.declared.kept.Says.TheVariants.{Register, Deregister, Find, Registered, Taken, Removed, Absent, Found, Nothing, View, Unsettled, OldNumber, NotOwner, Ask, Missing, Done, Query, Behind, Ahead, Offer}
use Rattle.silo_address.specs.declared.Entry.{Entry}
use Rattle.letter_mail.specs.declared.kept.Named.{Named}
use Rattle.letter_mail.specs.declared.slots.Slot.{Slot}
use Rattle.letter_mail.specs.declared.slots.Slot.TheVariants.{Short, Whole, Lost}
use Rattle.letter_mail.specs.Slots.{AreKept, IsSlot, posted_from, posted_in, stale_slot}
use Rattle.letter_mail.specs.KeptLetters.{Grows}
use Rattle.letter_mail.specs.Kept.{IsNumbered, entry_by, grain_at, request_by, said_by}
use Rattle.letter_mail.specs.MailModel.{mail_in}

-- ---- lists that grow
pub grows_not : {A : Type 0} (before after : List A) → after ≡ before → Grows before after
grows_not before after same = ([], same ∙ sym (append-nil before))

pub grows_on : {A : Type 0} (before between after : List A) → Grows before between → Grows between after → Grows before after
grows_on {A} before between after first second =
    (first.0 ++ second.0, second.1 ∙ ap (λ (l : List A). l ++ second.0) first.1 ∙ append_assoc before first.0 second.0)

pub longer : {A : Type 0} (before after : List A) → Grows before after → length before ≤ length after
longer {A} before after grows = let same = ap (λ (l : List A). length l) grows.1 in omega (arith, length-append before grows.0)

-- ---- numbers stay numbers
more_says : (count most : ℕ) (says : Says) → count ≤ most → IsNumbered count says → IsNumbered most says
more_says count most (Register number hash entry) up is = omega arith
more_says count most (Deregister number hash entry) up is = omega arith
more_says count most (Find number hash grain) up is = omega arith
more_says count most (Registered number entry) up is = omega arith
more_says count most (Taken number entry) up is = omega arith
more_says count most (Removed number) up is = is
more_says count most (Absent number) up is = is
more_says count most (Found number entry) up is = omega arith
more_says count most (Nothing number) up is = is
more_says count most (View number seen) up is = is
more_says count most (Unsettled number) up is = is
more_says count most (OldNumber number last) up is = is
more_says count most (NotOwner number) up is = is
more_says count most (Ask span page) up is = is
more_says count most (Missing span) up is = is
more_says count most (Done span) up is = is
more_says count most (Query span) up is = is
more_says count most (Behind span) up is = is
more_says count most (Ahead span) up is = is
more_says count most (Offer entry) up is = omega arith

more_slot : (count most : ℕ) (slot : Slot) → count ≤ most → IsSlot count slot → IsSlot most slot
more_slot count most (Short fresh brief) up is = more_says count most brief.says up is
more_slot count most (Whole fresh letter) up is = is
more_slot count most (Lost to) up is = is

pub are_more : (count most : ℕ) (slots : List Slot) → count ≤ most → AreKept count slots → AreKept most slots
are_more count most [] up are = are
are_more count most (s ∷ slots) up are = (more_slot count most s up are.0, are_more count most slots up are.1)

-- ---- and mean the same grains
same_grain : (grains more : List Grain) (number : ℕ) → number < length grains → grain_at (grains ++ more) number ≡ grain_at grains number
same_grain grains more number below = get_or-append grains more (record { kind = []; key = [] }) number below

same_entry : (grains more : List Grain) (entry : Named) → entry.grain < length grains
    → entry_by (grains ++ more) entry ≡ entry_by grains entry
same_entry grains more entry below =
    ap (λ (g : Grain). record { grain = g; activation = record { silo = entry.silo; count = entry.count } })
    (same_grain grains more entry.grain below)

same_said : (grains more : List Grain) (from : Silo) (version : ℕ) (says : Says) → IsNumbered (length grains) says
    → said_by (grains ++ more) from version says ≡ said_by grains from version says
same_said grains more from version (Register number hash entry) is =
    ap (λ (e : Entry). request_by from version number hash (act.Register e None)) (same_entry grains more entry is)
same_said grains more from version (Deregister number hash entry) is =
    ap (λ (e : Entry). request_by from version number hash (act.Deregister e)) (same_entry grains more entry is)
same_said grains more from version (Find number hash grain) is =
    ap (λ (g : Grain). request_by from version number hash (act.Find g)) (same_grain grains more grain is)
same_said grains more from version (Registered number entry) is =
    ap (λ (e : Entry). Reply_letter number (reply.Registered e)) (same_entry grains more entry is)
same_said grains more from version (Taken number entry) is =
    ap (λ (e : Entry). Reply_letter number (reply.Taken e)) (same_entry grains more entry is)
same_said grains more from version (Removed number) is = refl
same_said grains more from version (Absent number) is = refl
same_said grains more from version (Found number entry) is =
    ap (λ (e : Entry). Reply_letter number (reply.Found e)) (same_entry grains more entry is)
same_said grains more from version (Nothing number) is = refl
same_said grains more from version (View number seen) is = refl
same_said grains more from version (Unsettled number) is = refl
same_said grains more from version (OldNumber number last) is = refl
same_said grains more from version (NotOwner number) is = refl
same_said grains more from version (Ask span page) is = refl
same_said grains more from version (Missing span) is = refl
same_said grains more from version (Done span) is = refl
same_said grains more from version (Query span) is = refl
same_said grains more from version (Behind span) is = refl
same_said grains more from version (Ahead span) is = refl
same_said grains more from version (Offer entry) is = ap (λ (e : Entry). Offer_letter e) (same_entry grains more entry is)

same_in : (grains more : List Grain) (slot : Slot) → IsSlot (length grains) slot → posted_in (grains ++ more) slot ≡ posted_in grains slot
same_in grains more (Short fresh brief) is =
    ap (λ (b : Body). Some (record {
      letter = record { from = brief.from; to = brief.to; version = brief.version; body = b };
      fresh = fresh;
    }))
    (same_said grains more brief.from brief.version brief.says is)
same_in grains more (Whole fresh letter) is = refl
same_in grains more (Lost to) is = refl

same_posted : (first : ℕ) (grains more : List Grain) (slots : List Slot) → AreKept (length grains) slots
    → posted_from first (grains ++ more) slots ≡ posted_from first grains slots
same_posted first grains more [] are = refl
same_posted first grains more (s ∷ slots) are =
    ap (λ (o : Option Posted). cons_option (option_map (λ (p : Posted). (first, p)) o) (posted_from (first + 1) (grains ++ more) slots))
    (same_in grains more s are.0)
    ∙ ap (λ (l : List (ℕ × Posted)). cons_option (option_map (λ (p : Posted). (first, p)) (posted_in grains s)) l)
    (same_posted (first + 1) grains more slots are.1)

pub posted_again : (grains now : List Grain) (slots : List Slot) → Grows grains now → AreKept (length grains) slots
    → posted_from 1 now slots ≡ posted_from 1 grains slots
posted_again grains now slots grows are = ap (λ (g : List Grain). posted_from 1 g slots) grows.1 ∙ same_posted 1 grains grows.0 slots are

-- ---- slots
pub are_append : (count : ℕ) (slots more : List Slot) → AreKept count slots → AreKept count more → AreKept count (slots ++ more)
are_append count [] more are those = those
are_append count (s ∷ slots) more are those = (are.0, are_append count slots more are.1 those)

pub are_taken : (count n : ℕ) (slots : List Slot) → AreKept count slots → AreKept count (take n slots)
are_taken count zero [] are = are
are_taken count (suc n) [] are = are
are_taken count zero (s ∷ slots) are = cc
are_taken count (suc n) (s ∷ slots) are = (are.0, are_taken count n slots are.1)

pub is_at_index : (count : ℕ) (slots : List Slot) (index : ℕ) (d : Slot) → index < length slots → AreKept count slots
    → IsSlot count (get_or slots index d)
is_at_index count [] index d below are = absurd (omega arith)
is_at_index count (s ∷ slots) zero d below are = are.0
is_at_index count (s ∷ slots) (suc index) d below are = is_at_index count slots index d (omega arith) are.1

pub are_set : (count : ℕ) (slots : List Slot) (index : ℕ) (slot : Slot) → IsSlot count slot → AreKept count slots
    → AreKept count (set slots index slot)
are_set count [] index slot is are = are
are_set count (s ∷ slots) zero slot is are = (is, are.1)
are_set count (s ∷ slots) (suc index) slot is are = (are.0, are_set count slots index slot is are.1)

pub still_slot : (count : ℕ) (slot : Slot) → IsSlot count slot → IsSlot count (stale_slot slot)
still_slot count (Short fresh brief) is = is
still_slot count (Whole fresh letter) is = is
still_slot count (Lost to) is = is

-- ---- a grain that got its number
pub number_at : (grains : List Grain) (number : ℕ) (grain : Grain) → slice_get grains number ≡ Some grain
    → (number < length grains) × (grain_at grains number ≡ grain)
number_at [] zero grain there = absurd (cc (there))
number_at [] (suc number) grain there = absurd (cc (there))
number_at (g ∷ grains) zero grain there = (omega arith, same_Some g grain there)
number_at (g ∷ grains) (suc number) grain there = let at = number_at grains number grain there in (omega (arith, at.0), at.1)

-- a grain that stands under a number, with whatever value
pub key_at : {V : Type 0} (es : List (Grain × V)) (number : ℕ) (grain : Grain) (value : V) → slice_get es number ≡ Some (grain, value)
    → slice_get (keys_of es) number ≡ Some grain
key_at es number grain value there = slice_get-map (λ e. e.0) es number ∙ ap (option_map (λ e. e.0)) there

-- a grain gets the next number
pub keys_put : {V : Type 0} (es new : List (Grain × V)) (grain : Grain) (value : V) → new ≡ es ++ (grain, value) ∷ []
    → keys_of new ≡ keys_of es ++ grain ∷ []
keys_put es new grain value put = ap keys_of put ∙ map-append (λ e. e.0) es ((grain, value) ∷ [])

next_at : (grains : List Grain) (grain : Grain) → slice_get (grains ++ grain ∷ []) (length grains) ≡ Some grain
next_at [] grain = refl
next_at (g ∷ grains) grain = next_at grains grain

pub put_at : {V : Type 0} (es new : List (Grain × V)) (grain : Grain) (value : V) (number : ℕ) → number ≡ length es
    → new ≡ es ++ (grain, value) ∷ [] → slice_get (keys_of new) number ≡ Some grain
put_at es new grain value number last put =
    (λ i. slice_get (keys_put es new grain value put i) ((last ∙ sym (length-map es (λ e. e.0))) i)) ∙ next_at (keys_of es) grain

-- ---- a letter behind the slots
pub some_slot : (slots : List Slot) → 0 < length slots → Slot
some_slot [] some = absurd (omega arith)
some_slot (s ∷ slots) some = s

pub are_put : (grains now : List Grain) (slots : List Slot) (slot : Slot) → Grows grains now → AreKept (length grains) slots
    → IsSlot (length now) slot
    → AreKept (length now) (slots ++ slot ∷ [])
are_put grains now slots slot grown are is =
    are_append (length now) slots (slot ∷ []) (are_more (length grains) (length now) slots (longer grains now grown) are) (is, cc)

-- letters that were put behind the slots go again
pub mail_undone : (grains now : List Grain) (slots after left : List Slot) (count : ℕ) → Grows grains now → AreKept (length grains) slots
    → Grows slots after
    → count ≡ length after - length slots → left ≡ take (length after - count) after → mail_in now left ≡ mail_in grains slots
mail_undone grains now slots after left count grown are behind count_is is =
    let long : length slots ≤ length after = longer slots after behind in
    let short : length after - count ≡ length slots = omega arith in
    ap (λ (l : List Slot). mail_in now l)
    (is ∙ ap (λ n. take n after) short ∙ ap (λ (l : List Slot). take (length slots) l) behind.1
    ∙ take_at slots behind.0 (length slots) refl)
    ∙ ap (λ (l : List (ℕ × Posted)). record { letters = l; sent = length slots }) (posted_again grains now slots grown are)

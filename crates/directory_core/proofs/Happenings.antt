-- What happens at an event: the journal first, and what refuses it where memory runs out.
use Rattle.std.proofs.Common.{◌≡◌, ℕ, ◌+◌, ◌<◌, ◌≤◌, cond, not, Bool, true, false, List, [], ◌∷◌, length, Option, Some, None, Result, Ok, Err, ◌∙◌, refl, sym, ap, subst, arith}
use Rattle.std.specs.Prelude.{IfOk, IsOk, nat_le, ◌==◌, ◌||◌}
use Rattle.std.proofs.lemmas.Bool.Decides.{nat_tests}
use Rattle.std.specs.Option.{option_or}
use Rattle.std.proofs.lemmas.Bool.{le-ltb, lt-ltb}
use Rattle.silo_address.specs.Silo.{Silo}
use Rattle.membership_view.specs.Views.{ViewsValue}
use Rattle.directory_rules.specs.Membership.{Change, Join, Leave, Die, Membership, changed, is_seeable, replaced_by}
use Rattle.directory_rules.specs.declared.OwnStep.{OwnStep}
use Rattle.directory_rules.specs.declared.OwnStep.TheVariants.{Wake, Close, Cancel, Find, Forget, Nudge, NudgeGrain, NudgeRanges, Offer}
use Rattle.directory_rules.specs.Event.{Event}
use Rattle.directory_rules.specs.declared.outcome.Happening.{Happening}
use Rattle.directory_rules.specs.declared.outcome.Happening.TheVariants.{Delivered, Did, Saw}
use Rattle.directory_rules.specs.declared.outcome.Span.{Span}
use Rattle.directory_rules.specs.State.{Letter, Node, World, Accepted}
use Rattle.directory_rules.specs.Letter.{kind_of}
use Rattle.directory_rules.specs.Step.{Stepped}
use Rattle.directory_rules.specs.World.{accepted_as, membership_of}
use Rattle.directory_rules.specs.Mail.{has_room_for, letter_of, span_of, with_delivered}
use Rattle.directory_rules.specs.Input.{Input, Does, step, sight_of}
use Rattle.directory_rules.specs.Happens.{after_change, attempted, change_told, changed_by, counted, decides, deliver, delivers, delivers_to, does, does_at, done_by, happens, is_of_dead, node_of, seen_by, sees, sees_at, taken}
use Rattle.directory_rules.specs.Receive.{received}
use Rattle.directory_rules.specs.declared.Effect.{Effect}
use Rattle.directory_node.specs.Follows.{RefusesBy}
use Rattle.directory_node.specs.Memory.{MayLackMemory}
use Rattle.directory_node.specs.Plans.{Sends}
use Rattle.directory_core.specs.Applied.{IsNever, IsOkOrFull, own_excused}
use Rattle.directory_core.specs.Changes.{made_by, made_world}
use Rattle.directory_core.specs.Steps.{after_step, known_count, letters_number}
use Rattle.directory_core.specs.Whole.{IsWorld, LeavesWorld}

pub full : (world : World) (event : Event) → world.settings.events ≤ world.accepted → happens world event ≡ Err 908
unfolding happens
full world event most = ap (λ b. cond b (attempted world event) (Err 908)) (le-ltb world.accepted world.settings.events most)

pub has_room : (world : World) (event : Event) → world.accepted < world.settings.events → happens world event ≡ attempted world event
unfolding happens
has_room world event room = ap (λ b. cond b (attempted world event) (Err 908)) (lt-ltb world.accepted world.settings.events room)

-- ---- a step that is taken
pub taken_told : (world : World) (silo : Silo) (happening : Happening) (stepped : Stepped) → has_room_for world stepped.letters ≡ true
    → taken world silo happening stepped ≡ Ok (record {
      outcome = record { happening = happening; sent = span_of world stepped.letters };
      world = after_step world silo stepped.node stepped.letters;
    })
taken_told world silo happening stepped room =
    ap (λ b. cond (not b) (Err 909) (Ok (record {
      outcome = record { happening = happening; sent = span_of world stepped.letters };
      world = after_step world silo stepped.node stepped.letters;
    }))) room

-- ---- a silo's step is taken, as its node takes it
pub does_so : (world : World) (silo : Silo) (input : Input) (node : Node) (stepped : Stepped) → node_of world silo ≡ Some node
    → step node input ≡ Ok stepped
    → does world silo input ≡ taken world silo (Did silo stepped.effect) stepped
does_so world silo input node stepped there is = ap (λ n. does_at n world silo input) there ∙ ap (λ o. done_by o world silo) is

pub sees_so : (world : World) (silo : Silo) (version : ℕ) (node : Node) (stepped : Stepped) → node_of world silo ≡ Some node
    → node.view.version < version → is_seeable (membership_of world) silo version ≡ true
    → step node (sight_of (membership_of world) version) ≡ Ok stepped
    → sees world silo version ≡ taken world silo (Saw silo version stepped.effect) stepped
sees_so world silo version node stepped there newer seeable is =
    let sight = seen_by (step node (sight_of (membership_of world) version)) world silo version in
    ap (λ n. sees_at n world silo version) there
    ∙ ap (λ b. cond (not b) (Err 903) (cond (not (is_seeable (membership_of world) silo version)) (Err 904) sight))
    (lt-ltb node.view.version version newer)
    ∙ ap (λ b. cond (not b) (Err 904) sight) seeable
    ∙ ap (λ o. seen_by o world silo version) is

-- what is taken leaves the world that it makes
pub leaves_taken : (world : World) (silo : Silo) (happening : Happening) (stepped : Stepped) → has_room_for world stepped.letters ≡ true
    → LeavesWorld (taken world silo happening stepped)
    → IsWorld (after_step world silo stepped.node stepped.letters)
leaves_taken world silo happening stepped room leaves = subst LeavesWorld (taken_told world silo happening stepped room) leaves

-- ---- an event that sends a known number of letters, where memory runs out
sending_decided : (world : World) (letters : List Letter) (accepted : Accepted) (count : ℕ) → length letters ≡ count
    → RefusesBy IsOk (letters_number world count) (cond (not (has_room_for world letters)) (Err 909) (Ok accepted))
sending_decided world [] accepted count none = subst (λ n. RefusesBy IsOk (letters_number world n) (Ok accepted)) none refl
sending_decided world (letter ∷ letters) accepted count some =
    let any : (length (letter ∷ letters) == 0) ≡ false = grind (arith, nat_tests) in
    let room = nat_le (world.sent + length (letter ∷ letters)) world.settings.letters in
    subst (λ n. RefusesBy IsOk (letters_number world n) (cond (not room) (Err 909) (Ok accepted))) some
    (subst (λ b. RefusesBy IsOk (cond (b || room) None (Some 909)) (cond (not room) (Err 909) (Ok accepted))) (sym any) (by room))
  where
    by : (b : Bool) → RefusesBy IsOk (cond b None (Some 909)) (cond (not b) (Err 909) (Ok accepted))
    by true = refl
    by false = refl

-- the number of a step that is refused, or of the letters of which it is known that they needed memory
abbrev own_number : World → OwnStep → Option ℕ → Option ℕ
own_number world step number = option_or number (letters_number world (known_count step))

-- where so many letters are known, out of memory is told only where there is room for them
known_refused : (world : World) (silo : Silo) (count : ℕ) (outcome : Result Stepped ℕ) → Sends count outcome
    → RefusesBy IsOk (letters_number world count) (done_by outcome world silo)
known_refused world silo count (Ok stepped) known = sending_decided world stepped.letters _ count known
known_refused world silo count (Err refusal) known = absurd known

-- else it may be told before
unknown_refused : (world : World) (silo : Silo) (outcome : Result Stepped ℕ) → IsOk outcome → IsOkOrFull (done_by outcome world silo)
unknown_refused world silo (Ok stepped) is = by (has_room_for world stepped.letters)
  where
    by : (b : Bool) → IsOkOrFull (cond (not b) (Err 909) (Ok (record {
      outcome = record { happening = Did silo stepped.effect; sent = span_of world stepped.letters };
      world = after_step world silo stepped.node stepped.letters;
    })))
    by true = tt
    by false = refl
unknown_refused world silo (Err refusal) is = absurd (cc (is))

memory_refused : (world : World) (silo : Silo) (node : Node) (step : OwnStep) (outcome : Result Stepped ℕ)
    → MayLackMemory node (Does step) outcome
    → RefusesBy (own_excused step) (letters_number world (known_count step)) (done_by outcome world silo)
memory_refused world silo node (Wake grain) outcome lacks = known_refused world silo 1 outcome lacks
memory_refused world silo node (Close grain) outcome lacks = known_refused world silo 1 outcome lacks
memory_refused world silo node (Cancel grain) outcome lacks = known_refused world silo 1 outcome lacks
memory_refused world silo node (Find grain) outcome lacks = known_refused world silo 1 outcome lacks
memory_refused world silo node (Forget grain) outcome lacks = known_refused world silo 1 outcome lacks
memory_refused world silo node Nudge outcome lacks = unknown_refused world silo outcome lacks
memory_refused world silo node (NudgeGrain grain) outcome lacks = unknown_refused world silo outcome lacks
memory_refused world silo node NudgeRanges outcome lacks = unknown_refused world silo outcome lacks
memory_refused world silo node (Offer grain to) outcome lacks = known_refused world silo 1 outcome lacks

-- what an application asks is refused by the step's number, or by its letters'
pub refused_told : (world : World) (silo : Silo) (own : OwnStep) (node : Node) (number : Option ℕ) → node_of world silo ≡ Some node
    → RefusesBy (MayLackMemory node (Does own)) number (step node (Does own))
    → RefusesBy (own_excused own) (own_number world own number) (does world silo (Does own))
refused_told world silo own node number there refuses =
    subst (λ n. RefusesBy (own_excused own) (own_number world own number) (does_at n world silo (Does own))) (sym there)
    (by (step node (Does own)) number refuses)
  where
    by : (outcome : Result Stepped ℕ) (number : Option ℕ) → RefusesBy (MayLackMemory node (Does own)) number outcome
        → RefusesBy (own_excused own) (own_number world own number) (done_by outcome world silo)
    by (Ok stepped) (Some number) refuses = absurd (cc (refuses))
    by (Err refusal) (Some number) refuses = cc (refuses)
    by outcome None lacks = memory_refused world silo node own outcome lacks

-- so is a delivery
pub delivery_refused : (world : World) (number : ℕ) (letter : Letter) (node : Node) (count : ℕ) → letter_of world number ≡ Some letter
    → node_of world letter.to ≡ Some node
    → length (received node letter).letters ≡ count → RefusesBy IsOk (letters_number world count) (deliver world number)
delivery_refused world number letter node count is there sends =
    subst (λ o. RefusesBy IsOk (letters_number world count) (delivers o world number)) (sym is)
    (subst (λ n. RefusesBy IsOk (letters_number world count) (delivers_to n world number letter)) (sym there)
    (sending_decided (with_delivered world number letter) (received node letter).letters _ count sends))

-- ---- a delivery
room_delivered : (world : World) (number : ℕ) (letter : Letter) (letters : List Letter)
    → has_room_for (with_delivered world number letter) letters ≡ has_room_for world letters
room_delivered world number letter [] = refl
room_delivered world number letter (l ∷ letters) = refl

span_delivered : (world : World) (number : ℕ) (letter : Letter) (letters : List Letter)
    → span_of (with_delivered world number letter) letters ≡ span_of world letters
span_delivered world number letter [] = refl
span_delivered world number letter (l ∷ letters) = refl

-- what is told of a delivery
abbrev pub told : World → ℕ → Letter → Node → List Letter → Effect → Option Span → Result Accepted ℕ
told world number letter node letters effect sent = Ok (record {
  outcome = record { happening = Delivered number (kind_of letter.body) effect; sent = sent };
  world = after_step (with_delivered world number letter) letter.to node letters;
})

pub delivered_told : (world : World) (number : ℕ) (letter : Letter) (node after : Node) (letters : List Letter) (effect : Effect)
    (sent : Option Span)
    → letter_of world number ≡ Some letter → node_of world letter.to ≡ Some node
    → received node letter ≡ record { node = after; letters = letters; effect = effect }
    → has_room_for world letters ≡ true → sent ≡ span_of world letters
    → deliver world number ≡ told world number letter after letters effect sent
delivered_told world number letter node after letters effect sent is there planned room sent_is =
    let stepped : Stepped = record { node = after; letters = letters; effect = effect } in
    ap (λ o. delivers o world number) is
    ∙ ap (λ n. delivers_to n world number letter) there
    ∙ ap (λ (s : Stepped). taken (with_delivered world number letter) letter.to (Delivered number (kind_of letter.body) s.effect) s) planned
    ∙ taken_told (with_delivered world number letter) letter.to (Delivered number (kind_of letter.body) effect) stepped
    (room_delivered world number letter letters ∙ room)
    ∙ ap (λ (o : Option Span). told world number letter after letters effect o) (span_delivered world number letter letters ∙ sym sent_is)

-- what a delivery leaves
pub leaves_delivered : (world : World) (number : ℕ) (letter : Letter) (node after : Node) (letters : List Letter) (effect : Effect)
    → letter_of world number ≡ Some letter → node_of world letter.to ≡ Some node
    → received node letter ≡ record { node = after; letters = letters; effect = effect }
    → has_room_for world letters ≡ true → LeavesWorld (deliver world number)
    → IsWorld (after_step (with_delivered world number letter) letter.to after letters)
leaves_delivered world number letter node after letters effect is there planned room leaves =
    subst LeavesWorld (delivered_told world number letter node after letters effect (span_of world letters) is there planned room refl)
    leaves

-- ---- a change of membership: 902 where it is of a silo that is Dead
pub dead_refused : (world : World) (change : Change) → is_of_dead world change ≡ true → decides world change ≡ Err 902
dead_refused world change dead =
    ap (λ b. cond b (Err 902) (changed_by (changed world.settings (membership_of world) change) world change)) dead

-- the views are those that membership makes
views_made : (world : World) (change : Change) (m : Membership) → (after_change world change m).views ≡ m.views
views_made world (Join silo places) m = refl
views_made world (Leave silo) m = refl
views_made world (Die silo) m = refl

-- of another silo, it is as membership lets it
module _ (world : World) (change : Change) (alive : is_of_dead world change ≡ false) where
  decided_so : (o : Result Membership ℕ) → changed world.settings (membership_of world) change ≡ o
      → decides world change ≡ changed_by o world change
  decided_so o is =
      ap (λ b. cond b (Err 902) (changed_by (changed world.settings (membership_of world) change) world change)) alive
      ∙ ap (λ r. changed_by r world change) is

  -- what it leaves
  pub leaves_made : LeavesWorld (decides world change) → IfOk (made_world world change) IsWorld
  leaves_made leaves = by (changed world.settings (membership_of world) change) refl
    where
      by : (o : Result Membership ℕ) → changed world.settings (membership_of world) change ≡ o → IfOk (made_by o world change) IsWorld
      by (Err number) is = tt
      by (Ok m) is = subst LeavesWorld (decided_so (Ok m) is) leaves

  -- what it tells
  pub made_told : (after : World) (happening : Happening) → made_world world change ≡ Ok after
      → happening ≡ change_told after.views.version change (replaced_by (membership_of world) change)
      → decides world change ≡ Ok (accepted_as after (record { happening = happening; sent = None }))
  made_told after happening is told = by (changed world.settings (membership_of world) change) refl is
    where
      by : (o : Result Membership ℕ) → changed world.settings (membership_of world) change ≡ o → made_by o world change ≡ Ok after
          → decides world change ≡ Ok (accepted_as after (record { happening = happening; sent = None }))
      by (Err number) made after_is = cc
      by (Ok m) made after_is =
          let same : counted (after_change world change m) ≡ after = cc in
          decided_so (Ok m) made
          ∙ ap (λ (v : ViewsValue). Ok (accepted_as (counted (after_change world change m))
          (record { happening = change_told v.version change (replaced_by (membership_of world) change); sent = None })))
          (sym (views_made world change m))
          ∙ ap (λ (w : World). Ok (accepted_as w (record {
            happening = change_told w.views.version change
                (replaced_by (membership_of world) change);
            sent = None;
          }))) same
          ∙ ap (λ (h : Happening). Ok (accepted_as after (record { happening = h; sent = None }))) (sym told)

  -- what refuses it
  pub made_refused : (excused : Result Accepted ℕ → Type 0) (number : Option ℕ) → RefusesBy IsNever number (made_world world change)
      → RefusesBy excused number (decides world change)
  made_refused excused None refuses = absurd refuses
  made_refused excused (Some n) refuses = by (changed world.settings (membership_of world) change) refl refuses
    where
      by : (o : Result Membership ℕ) → changed world.settings (membership_of world) change ≡ o → made_by o world change ≡ Err n
          → decides world change ≡ Err n
      by (Err k) made refused = let same : k ≡ n = cc in decided_so (Err k) made ∙ ap Err same
      by (Ok m) made refused = cc

  -- or memory alone
  pub change_may : IsOk (changed world.settings (membership_of world) change) → IsOk (decides world change)
  change_may may = by (changed world.settings (membership_of world) change) refl may
    where
      by : (o : Result Membership ℕ) → changed world.settings (membership_of world) change ≡ o → IsOk o → IsOk (decides world change)
      by (Ok m) is may = subst IsOk (sym (decided_so (Ok m) is)) refl
      by (Err number) is may = absurd (cc (may))

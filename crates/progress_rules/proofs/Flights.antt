-- What a step leaves of the letters that are still to come, and that its own letters are to come then.
use Rattle.std.proofs.Common.{arith, ◌≡◌, ◌≢◌, refl, ap, subst, ◌∙◌, ℕ, zero, suc, ◌+◌, ◌<◌, ◌≤◌, List, [], ◌∷◌, ◌++◌, length}
use Rattle.std.specs.Prelude.{Bool, true, false, cond, not, ◌&&◌, is_some, find, map, Contains, Option, Some, None, Result, Ok, Err}
use Rattle.std.specs.Option.{option_map}
use Rattle.std.specs.Ordering.{nat_cmp}
use Rattle.std.specs.List.{enumerate_from, slice_index_or}
use Rattle.std.specs.Map.{lookup}
use Rattle.std.specs.BTreeMap.{is_at}
use Rattle.std.proofs.lemmas.Cmp.{nat_cmp_total}
use Rattle.std.proofs.lemmas.Map.Lookups.{exact_unsigned}
use Rattle.texts.proofs.Orderings.{at_itself, at_lower}
use Rattle.silo_address.specs.Silo.{Silo, silo_cmp, silo_eq}
use Rattle.silo_address.proofs.Order.{silo_cmp_total, silo_cmp_exact}
use Rattle.silo_address.proofs.Same.{Decides-silo}
use Rattle.directory_rules.specs.State.{Letter, Node, World, Posted, Accepted}
use Rattle.directory_rules.specs.Event.{Deliver, Do}
use Rattle.directory_rules.specs.Step.{Stepped}
use Rattle.directory_rules.specs.Input.{Input, Does, step}
use Rattle.directory_rules.specs.Receive.{received}
use Rattle.directory_rules.specs.Mail.{fresh_letter, numbered, letter_of, has_room_for, with_sent, with_delivered}
use Rattle.directory_rules.specs.Laws.{RiseBetween}
use Rattle.directory_rules.specs.declared.outcome.Happening.{Happening}
use Rattle.directory_rules.specs.Happens.{happens, node_of, with_node, counted, taken, is_deliverable, least_deliverable, delivers, delivers_to, does_at, done_by}
use Rattle.directory_rules.proofs.Cases.{on_bool}
use Rattle.directory_rules.specs.declared.own_step.OwnStep.TheVariants.{Nudge}
use Rattle.directory_facts.proofs.Lookups.{found_put, found_beside_put, found_beside_set}
use Rattle.progress_rules.specs.InFlight.{InFlight}

-- ---- lists under numbers
pub looked_left : {X : Type 0} (test : ℕ → Bool) (xs ys : List (ℕ × X)) (x : X) → lookup test xs ≡ Some x → lookup test (xs ++ ys) ≡ Some x
looked_left test [] ys x found = absurd (cc (found))
looked_left test (e ∷ es) ys x found =
    on_bool (λ b. cond b (Some e.1) (lookup test es) ≡ Some x → cond b (Some e.1) (lookup test (es ++ ys)) ≡ Some x) (test e.0) (λ t is. is)
    (λ f is. looked_left test es ys x is) found

pub looked_right : {X : Type 0} (test : ℕ → Bool) (xs ys : List (ℕ × X)) → lookup test xs ≡ None → lookup test (xs ++ ys) ≡ lookup test ys
looked_right test [] ys none = refl
looked_right test (e ∷ es) ys none =
    on_bool (λ b. cond b (Some e.1) (lookup test es) ≡ None → cond b (Some e.1) (lookup test (es ++ ys)) ≡ lookup test ys) (test e.0)
    (λ t is. absurd (cc (is))) (λ f is. looked_right test es ys is) none

rise_within : (low high : ℕ) (mail : List (ℕ × Posted)) → RiseBetween low high mail → low ≤ high
rise_within low high [] rise = rise
rise_within low high (e ∷ es) rise = let rest = rise_within e.0 high es rise.1 in omega (arith, rise.0, rest)

-- no letter has a number above all
pub none_above : (low high number : ℕ) (mail : List (ℕ × Posted)) → RiseBetween low high mail → high < number
    → lookup (is_at (nat_cmp number)) mail ≡ None
none_above low high number [] rise above = refl
none_above low high number (e ∷ es) rise above =
    let within = rise_within e.0 high es rise.1 in
    ap (λ b. cond b (Some e.1) (lookup (is_at (nat_cmp number)) es)) (at_lower number e.0 (omega (arith, within, above)))
    ∙ none_above e.0 high number es rise.1 above

pub record IsNumbered (from : ℕ) (letters : List Letter) (letter : Letter) : Type 0 where
  pub number : ℕ
  pub above : from ≤ number
  pub found : lookup (is_at (nat_cmp number)) (map (λ e. (e.0, fresh_letter e.1)) (enumerate_from from letters)) ≡ Some
      (fresh_letter letter)

numbered_at : (k from : ℕ) (letters : List Letter) (letter : Letter) → k < length letters → slice_index_or letters k letter ≡ letter
    → IsNumbered from letters letter
numbered_at k from [] letter below is = absurd (omega (arith, below))
numbered_at zero from (x ∷ xs) letter below is = record {
  number = from;
  above = omega arith;
  found =
      ap (λ b. cond b (Some (fresh_letter x)) (lookup (is_at (nat_cmp from))
      (map (λ e. (e.0, fresh_letter e.1)) (enumerate_from (from + 1) xs)))) (at_itself from) ∙ ap (λ l. Some (fresh_letter l)) is;
}
numbered_at (suc k) from (x ∷ xs) letter below is =
    let rest = numbered_at k (from + 1) xs letter (omega (arith, below)) is in
    record {
      number = rest.number;
      above = omega (arith, rest.above);
      found =
          ap (λ b. cond b (Some (fresh_letter x)) (lookup (is_at (nat_cmp rest.number))
          (map (λ e. (e.0, fresh_letter e.1)) (enumerate_from (from + 1) xs)))) (at_lower rest.number from (omega (arith, rest.above)))
          ∙ rest.found;
    }

pub numbered_so : (from : ℕ) (letters : List Letter) (letter : Letter) → Contains letters letter → IsNumbered from letters letter
numbered_so from letters letter has = numbered_at has.0 from letters letter has.1 has.2

-- ---- nothing is still to come where no letter may be delivered
find_some : (world : World) (test : ℕ → Bool) (posted : Posted) (mail : List (ℕ × Posted)) → lookup test mail ≡ Some posted
    → is_deliverable world posted ≡ true → option_map (λ e. e.0) (find (λ e. is_deliverable world e.1) mail) ≡ None → ⊥
find_some world test posted [] found may none = absurd (cc (found))
find_some world test posted (e ∷ es) found may none =
    on_bool (λ b. is_deliverable world e.1 ≡ b → option_map (λ x. x.0) (cond b (Some e) (find (λ x. is_deliverable world x.1) es)) ≡ None
    → ⊥) (is_deliverable world e.1)
    (λ t is no. cc (no))
    (λ f is no. on_bool (λ b. cond b (Some e.1) (lookup test es) ≡ Some posted → ⊥) (test e.0)
    (λ t here. let same : e.1 ≡ posted = cc (here) in let it = ap (λ p. is_deliverable world p) same in cc (it, is, may))
    (λ g later. find_some world test posted es later may no) found)
    refl none

pub nothing_comes : (world : World) (P : Letter → Type 0) → least_deliverable world ≡ None → InFlight world P → ⊥
nothing_comes world P none flight =
    find_some world (is_at (nat_cmp flight.number)) flight.posted world.mail flight.found
    (ap (λ b. b && is_some (node_of world flight.posted.letter.to)) flight.fresh ∙ flight.comes) none

-- ---- a step of a silo, in a world
abbrev pub stepped_world : World → Silo → Stepped → World
stepped_world world silo stepped = counted (with_sent (with_node world silo stepped.node) stepped.letters)

module _ (world : World) (silo : Silo) (stepped : Stepped) where
  pub its_node : node_of (stepped_world world silo stepped) silo ≡ Some stepped.node
  its_node = found_put silo_cmp silo_cmp_total silo_cmp_exact silo stepped.node world.nodes

  pub other_node : (other : Silo) → other ≢ silo → node_of (stepped_world world silo stepped) other ≡ node_of world other
  other_node other apart = found_beside_put silo_cmp silo_cmp_total silo_cmp_exact silo stepped.node world.nodes other apart

  pub lives : (other : Silo) → is_some (node_of world other) ≡ true → is_some (node_of (stepped_world world silo stepped) other) ≡ true
  lives other live =
      on_bool (λ b. silo_eq other silo ≡ b → is_some (node_of (stepped_world world silo stepped) other) ≡ true) (silo_eq other silo)
      (λ t same. ap (λ s. is_some (node_of (stepped_world world silo stepped) s)) ((Decides-silo other silo).0 same)
      ∙ ap (λ (o : Option Node). is_some o) its_node)
      (λ f apart. ap (λ (o : Option Node). is_some o)
      (other_node other (λ same. let is = (Decides-silo other silo).1 same in cc (is, apart))) ∙ live) refl

  pub flies_on : (P : Letter → Type 0) → InFlight world P → InFlight (stepped_world world silo stepped) P
  flies_on P flight = record {
    number = flight.number;
    posted = flight.posted;
    found = looked_left (is_at (nat_cmp flight.number)) world.mail (numbered world stepped.letters) flight.posted flight.found;
    fresh = flight.fresh;
    comes = lives flight.posted.letter.to flight.comes;
    letter = flight.letter;
  }

  pub flies_out : (P : Letter → Type 0) → ((number : ℕ) → world.sent < number → lookup (is_at (nat_cmp number)) world.mail ≡ None)
      → (letter : Letter) → Contains stepped.letters letter
      → is_some (node_of (stepped_world world silo stepped) letter.to) ≡ true → P letter → InFlight (stepped_world world silo stepped) P
  flies_out P above letter has comes so =
      let at = numbered_so (world.sent + 1) stepped.letters letter has in
      record {
        number = at.number;
        posted = fresh_letter letter;
        found =
            looked_right (is_at (nat_cmp at.number)) world.mail (numbered world stepped.letters) (above at.number (omega (arith, at.above)))
            ∙ at.found;
        fresh = refl;
        comes = comes;
        letter = so;
      }

-- ---- what was accepted
pub accepted_if : (b : Bool) (result : Result Accepted ℕ) (number : ℕ) (accepted : Accepted) → cond b result (Err number) ≡ Ok accepted
    → result ≡ Ok accepted
accepted_if true result number accepted is = is
accepted_if false result number accepted is = absurd (cc (is))

made_is : (b : Bool) (number : ℕ) (made accepted : Accepted) → cond {A = Result Accepted ℕ} (not b) (Err number) (Ok made) ≡ Ok accepted
    → accepted ≡ made
made_is true number made accepted is = cc (is)
made_is false number made accepted is = absurd (cc (is))

pub taken_is : (world : World) (silo : Silo) (happening : Happening) (stepped : Stepped) (accepted : Accepted)
    → taken world silo happening stepped ≡ Ok accepted → accepted.world ≡ stepped_world world silo stepped
taken_is world silo happening stepped accepted is =
    ap (λ (a : Accepted). a.world) (made_is (has_room_for world stepped.letters) 909 _ accepted is)

-- ---- a delivery
pub record IsDelivery (world after : World) (number : ℕ) : Type 0 where
  pub letter : Letter
  pub node : Node
  pub found : letter_of world number ≡ Some letter
  pub its : node_of world letter.to ≡ Some node
  pub is : after ≡ stepped_world (with_delivered world number letter) letter.to (received node letter)

to_node : (world : World) (number : ℕ) (letter : Letter) (accepted : Accepted) → letter_of world number ≡ Some letter → (o : Option Node)
    → node_of world letter.to ≡ o → delivers_to o world number letter ≡ Ok accepted → IsDelivery world accepted.world number
to_node world number letter accepted found None none is = absurd (cc (is))
to_node world number letter accepted found (Some node) its is = record {
  letter = letter;
  node = node;
  found = found;
  its = its;
  is = taken_is (with_delivered world number letter) letter.to _ (received node letter) accepted is;
}

of_letter : (world : World) (number : ℕ) (accepted : Accepted) → (o : Option Letter) → letter_of world number ≡ o
    → delivers o world number ≡ Ok accepted → IsDelivery world accepted.world number
of_letter world number accepted None none is = absurd (cc (is))
of_letter world number accepted (Some letter) found is = to_node world number letter accepted found (node_of world letter.to) refl is

pub delivered : (world : World) (number : ℕ) (accepted : Accepted) → happens world (Deliver number) ≡ Ok accepted
    → IsDelivery world accepted.world number
unfolding happens
delivered world number accepted is =
    of_letter world number accepted (letter_of world number) refl
    (accepted_if _ (delivers (letter_of world number) world number) 908 accepted is)

-- ---- a step of a silo's own
pub record IsStep (world after : World) (silo : Silo) (input : Input) : Type 0 where
  pub node : Node
  pub stepped : Stepped
  pub its : node_of world silo ≡ Some node
  pub made : step node input ≡ Ok stepped
  pub is : after ≡ stepped_world world silo stepped

by_step : (world : World) (silo : Silo) (input : Input) (node : Node) (accepted : Accepted) → node_of world silo ≡ Some node
    → (r : Result Stepped ℕ) → step node input ≡ r → done_by r world silo ≡ Ok accepted → IsStep world accepted.world silo input
by_step world silo input node accepted its (Err number) made is = absurd (cc (is))
by_step world silo input node accepted its (Ok stepped) made is =
    record { node = node; stepped = stepped; its = its; made = made; is = taken_is world silo _ stepped accepted is }

by_node : (world : World) (silo : Silo) (input : Input) (accepted : Accepted) → (o : Option Node) → node_of world silo ≡ o
    → does_at o world silo input ≡ Ok accepted → IsStep world accepted.world silo input
by_node world silo input accepted None none is = absurd (cc (is))
by_node world silo input accepted (Some node) its is = by_step world silo input node accepted its (step node input) refl is

pub nudged : (world : World) (silo : Silo) (accepted : Accepted) → happens world (Do silo Nudge) ≡ Ok accepted
    → IsStep world accepted.world silo (Does Nudge)
unfolding happens
nudged world silo accepted is =
    by_node world silo (Does Nudge) accepted (node_of world silo) refl
    (accepted_if _ (does_at (node_of world silo) world silo (Does Nudge)) 908 accepted is)

-- ---- what stays in the mail
module _ (world : World) (number : ℕ) (letter : Letter) where
  pub flies_by : (P : Letter → Type 0) (flight : InFlight world P) → flight.number ≢ number
      → InFlight (with_delivered world number letter) P
  flies_by P flight apart = record {
    number = flight.number;
    posted = flight.posted;
    found =
        found_beside_set nat_cmp nat_cmp_total exact_unsigned number (record { letter = letter; fresh = false }) world.mail flight.number
        apart ∙ flight.found;
    fresh = flight.fresh;
    comes = flight.comes;
    letter = flight.letter;
  }

  pub above_all : RiseBetween 0 world.sent world.mail → letter_of world number ≡ Some letter → (other : ℕ) → world.sent < other
      → lookup (is_at (nat_cmp other)) (with_delivered world number letter).mail ≡ None
  above_all rise found other above =
      let none = none_above 0 world.sent other world.mail rise above in
      found_beside_set nat_cmp nat_cmp_total exact_unsigned number (record { letter = letter; fresh = false }) world.mail other
      (λ same. let gone : letter_of world number ≡ None = subst (λ n. option_map (λ p. p.letter) (lookup (is_at (nat_cmp n)) world.mail) ≡ None) same (ap (λ (o : Option Posted). option_map (λ p. p.letter) o) none) in cc (gone, found))
      ∙ none

-- the letter that flew under the number that is delivered
pub flown : (world : World) (P : Letter → Type 0) (letter : Letter) (flight : InFlight world P) (number : ℕ) → flight.number ≡ number
    → letter_of world number ≡ Some letter → P letter
flown world P letter flight number same found =
    let at : letter_of world number ≡ Some flight.posted.letter = subst (λ n. option_map (λ p. p.letter) (lookup (is_at (nat_cmp n)) world.mail) ≡ Some flight.posted.letter) same (ap (λ (o : Option Posted). option_map (λ p. p.letter) o) flight.found) in
    let one : flight.posted.letter ≡ letter = cc (at, found) in
    subst P one flight.letter

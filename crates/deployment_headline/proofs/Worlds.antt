-- The worlds that have what a deployment has, and what an event makes of one.
use Rattle.std.proofs.Common.{arith, ◌≡◌, ℕ, ◌+◌, ◌≤◌, ◌<◌, List, [], ◌∷◌, ◌++◌, length, length-append, refl, sym, ap, ◌∙◌, subst, ◌⊎◌, inl, inr}
use Rattle.std.specs.Prelude.{true, cond, not, map, slice_get, All, Ok, Err}
use Rattle.std.proofs.lemmas.List.{map-append}
use Rattle.std.proofs.lemmas.List.Elements.{All-nil, All-cons}
use Rattle.std.specs.Option.{option_map}
use Rattle.std.specs.Ordering.{nat_cmp}
use Rattle.std.specs.List.{enumerate_from}
use Rattle.std.specs.Map.{lookup}
use Rattle.std.specs.BTreeMap.{is_at, insert_entry}
use Rattle.std.proofs.lemmas.Bool.{lt-ltb, le-leb}
use Rattle.silo_address.specs.Silo.{Silo, silo_cmp}
use Rattle.directory_rules.specs.State.{Letter, Node, Posted, World, Accepted}
use Rattle.directory_rules.specs.Event.{Event, IsEvent}
use Rattle.directory_rules.specs.declared.outcome.Happening.{Happening}
use Rattle.directory_rules.specs.declared.outcome.Outcome.{Outcome}
use Rattle.directory_rules.specs.Step.{Stepped}
use Rattle.directory_rules.specs.Mail.{letter_of, with_sent, has_room_for, numbered, span_of, fresh_letter}
use Rattle.directory_rules.specs.Happens as rule
use Rattle.directory_rules.specs.Run.{run}
use Rattle.directory_rules.proofs.Runs.{accepted_run}
use Rattle.silo_rules.specs.SiloValue.{SiloValue}
use Rattle.deployment_headline.specs.Deployment.{Deployment, process_of}
use Rattle.deployment_headline.proofs.Lists.{over, lookup-over, insert-over, lookup-enumerate, enumerate-append}

abbrev pub its_node : SiloValue → Node
its_node s = s.node

abbrev pub its_letter : Posted → Letter
its_letter posted = posted.letter

-- the world of a deployment after so many accepted events, with such a mail
abbrev pub make : Deployment → (accepted : ℕ) → List (ℕ × Posted) → World
make d accepted mail = record {
  settings = d.settings;
  accepted = accepted;
  views = d.membership.views;
  places = d.membership.places;
  nodes = over its_node d.processes;
  mail = mail;
  sent = length d.written;
}

-- the mail has the letters written, numbered from 1
abbrev pub HasWritten : Deployment → List (ℕ × Posted) → Type 0
HasWritten d mail = over its_letter mail ≡ enumerate_from 1 d.written

pub node_there : (d : Deployment) (accepted : ℕ) (mail : List (ℕ × Posted)) (silo : Silo)
    → rule.node_of (make d accepted mail) silo ≡ option_map its_node (process_of d silo)
node_there d accepted mail silo = lookup-over its_node (is_at (silo_cmp silo)) d.processes

pub letter_there : (d : Deployment) (accepted : ℕ) (mail : List (ℕ × Posted)) → HasWritten d mail → (index : ℕ)
    → letter_of (make d accepted mail) (1 + index) ≡ slice_get d.written index
letter_there d accepted mail has index =
    sym (lookup-over its_letter (is_at (nat_cmp (1 + index))) mail) ∙ ap (λ l. lookup (is_at (nat_cmp (1 + index))) l) has
    ∙ lookup-enumerate 1 index d.written

-- ---- moving
-- one event makes that world of this one
pub record IsOneEvent (f g : World) : Type 0 where
  pub event : Event
  pub named : IsEvent event
  pub accepted : Accepted
  pub is : rule.happens f event ≡ Ok accepted
  pub makes : accepted.world ≡ g

-- what a step makes of a deployment, an event or none makes of its world
pub record Moves (d next : Deployment) (accepted : ℕ) (mail : List (ℕ × Posted)) : Type 0 where
  pub events : List Event
  pub named : All IsEvent events
  pub count : ℕ
  pub letters : List (ℕ × Posted)
  pub few : count ≤ accepted + 1
  pub has : HasWritten next letters
  pub is : (run (make d accepted mail) events).world ≡ make next count letters
  pub how : (make d accepted mail ≡ make next count letters) ⊎ IsOneEvent (make d accepted mail) (make next count letters)

-- no event
pub stays : (d next : Deployment) (accepted : ℕ) (mail : List (ℕ × Posted)) → HasWritten d mail
    → make d accepted mail ≡ make next accepted mail → d.written ≡ next.written → Moves d next accepted mail
unfolding run
stays d next accepted mail has is written = record {
  events = [];
  named = λ k e below. absurd (omega (below, arith));
  count = accepted;
  letters = mail;
  few = omega arith;
  has = has ∙ ap (λ l. enumerate_from 1 l) written;
  is = is;
  how = inl is;
}

happens_is : (world : World) (event : Event) → world.accepted < world.settings.events
    → rule.happens world event ≡ rule.attempted world event
unfolding rule.happens
happens_is world event room = ap (λ b. cond b (rule.attempted world event) (Err 908)) (lt-ltb world.accepted world.settings.events room)

-- one event
pub goes : (d next : Deployment) (accepted : ℕ) (mail letters : List (ℕ × Posted)) (event : Event) (outcome : Outcome) (after : World)
    → IsEvent event → accepted < d.settings.events
    → rule.attempted (make d accepted mail) event ≡ Ok (record { outcome = outcome; world = after })
    → after ≡ make next (accepted + 1) letters → HasWritten next letters → Moves d next accepted mail
goes d next accepted mail letters event outcome after named room is same has = record {
  events = event ∷ [];
  named = All-cons IsEvent event [] named (All-nil IsEvent);
  count = accepted + 1;
  letters = letters;
  few = omega arith;
  has = has;
  is =
      accepted_run (make d accepted mail) event (record { outcome = outcome; world = after })
      (happens_is (make d accepted mail) event room ∙ is) ∙ same;
  how = inr (record {
    event = event;
    named = named;
    accepted = record { outcome = outcome; world = after };
    is = happens_is (make d accepted mail) event room ∙ is;
    makes = same;
  });
}

-- ---- a silo's step
room_for : (world : World) (letters : List Letter) → world.sent + length letters ≤ world.settings.letters
    → has_room_for world letters ≡ true
room_for world [] room = refl
room_for world (letter ∷ letters) room = le-leb (world.sent + length (letter ∷ letters)) world.settings.letters room

taken_is : (world : World) (silo : Silo) (happening : Happening) (stepped : Stepped)
    → world.sent + length stepped.letters ≤ world.settings.letters
    → rule.taken world silo happening stepped ≡ Ok (record {
      outcome =
          record { happening = happening; sent = span_of world stepped.letters };
      world = rule.counted
          (with_sent (rule.with_node world silo stepped.node) stepped.letters);
    })
taken_is world silo happening stepped room =
    ap (λ b. cond (not b) (Err 909) (Ok (record {
      outcome = record { happening = happening; sent = span_of world stepped.letters };
      world = rule.counted (with_sent (rule.with_node world silo stepped.node) stepped.letters);
    })))
    (room_for world stepped.letters room)

numbers : (n : ℕ) (letters : List Letter) → over its_letter (map (λ e. (e.0, fresh_letter e.1)) (enumerate_from n letters)) ≡ enumerate_from
    n letters
numbers n [] = refl
numbers n (letter ∷ letters) = ap (λ l. (n, letter) ∷ l) (numbers (n + 1) letters)

-- the deployment after a silo's step
abbrev pub stepped_to : Deployment → Silo → SiloValue → Stepped → Deployment
stepped_to d silo s stepped = record d {
  processes = insert_entry silo_cmp d.processes silo (record s { node = stepped.node });
  written = d.written ++ stepped.letters;
}

pub steps : (d : Deployment) (accepted : ℕ) (mail put : List (ℕ × Posted)) (event : Event) (silo : Silo) (s : SiloValue)
    (happening : Happening) (stepped : Stepped) → IsEvent event
    → accepted < d.settings.events → length (d.written ++ stepped.letters) ≤ d.settings.letters → HasWritten d put
    → rule.attempted (make d accepted mail) event ≡ rule.taken (make d accepted put) silo happening stepped
    → Moves d (stepped_to d silo s stepped) accepted mail
steps d accepted mail put event silo s happening stepped named room space has is =
    let longer = length-append d.written stepped.letters in
    goes d (stepped_to d silo s stepped) accepted mail (put ++ numbered (make d accepted put) stepped.letters) event _ _ named room
    (is ∙ taken_is (make d accepted put) silo happening stepped (subst (λ n. n ≤ d.settings.letters) longer space))
    (ap (λ nodes. record (make d (accepted + 1) (put ++ numbered (make d accepted put) stepped.letters))
    { nodes = nodes; sent = length d.written + length stepped.letters })
    (insert-over its_node silo_cmp d.processes silo (record s { node = stepped.node }))
    ∙ ap (λ n. record (make (stepped_to d silo s stepped) (accepted + 1) (put ++ numbered (make d accepted put) stepped.letters))
    { sent = n }) (sym longer))
    (map-append (λ e. (e.0, its_letter e.1)) put (numbered (make d accepted put) stepped.letters)
    ∙ ap (λ l. l ++ over its_letter (numbered (make d accepted put) stepped.letters)) has
    ∙ ap (λ l. enumerate_from 1 d.written ++ l) (numbers (length d.written + 1) stepped.letters)
    ∙ ap (λ n. enumerate_from 1 d.written ++ enumerate_from n stepped.letters) swapped
    ∙ enumerate-append 1 d.written stepped.letters)
  where
    swapped : length d.written + 1 ≡ 1 + length d.written
    swapped = omega arith

-- What happens: every event is accepted, with what it tells and the world after it, or refused by a number, and then the
-- world stays as it is.
use Rattle.std.specs.Prelude.{ℕ, ◌+◌, ◌&&◌, nat_lt, not, is_some, Bool, false, if◌then◌else◌, Option, Some, None, Result, Ok, Err, find}
use Rattle.std.specs.Option.{option_map, unwrap_or}
use Rattle.std.specs.Map.{lookup, remove_entry}
use Rattle.std.specs.BTreeMap.{is_at, insert_entry}
use Rattle.silo_address.specs.Silo.{Silo, silo_cmp}
use Rattle.membership_view.specs.declared.status.Status.{Status}
use Rattle.membership_view.specs.Views.{ViewsValue}
use Rattle.membership_view.specs.Changes.{occupant}
use Rattle.hash_ring.specs.Places.{PlacesValue}
use Rattle.directory_rules.specs.Members.{is_known_dead}
use Rattle.directory_rules.specs.Membership as membership
use Rattle.directory_rules.specs.Membership.{Change, Die, Membership, barred_by, changed, is_seeable, replaced_by, status_in}
use Rattle.directory_rules.specs.State.{Letter, Node, World, Posted, Accepted}
use Rattle.directory_rules.specs.Letter.{kind_of}
use Rattle.directory_rules.specs.Node.{new_node}
use Rattle.directory_rules.specs.Event.{Event, Join, Leave, Kill, See, Do, Deliver, Lose}
use Rattle.directory_rules.specs.declared.outcome.Happening.{Happening}
use Rattle.directory_rules.specs.declared.outcome.Happening.TheVariants.{Joined, Left, Died, Saw, Did, Delivered, Lost}
use Rattle.directory_rules.specs.Step.{Stepped}
use Rattle.directory_rules.specs.Input.{Input, Does, Receives, sight_of, step}
use Rattle.directory_rules.specs.World.{membership_of, with_membership}
use Rattle.directory_rules.specs.Mail.{letter_of, with_sent, has_room_for, span_of, with_delivered, with_lost}

-- the node of a silo that isn't Dead
abbrev pub node_of : World → Silo → Option Node
node_of world silo = lookup (is_at (silo_cmp silo)) world.nodes

-- with a node for the silo, in place of the one that it had
abbrev pub with_node : World → Silo → Node → World
with_node world silo node = record world { nodes = insert_entry silo_cmp world.nodes silo node }

-- without the silo's node
abbrev pub without_node : World → Silo → World
without_node world silo = record world { nodes = remove_entry (is_at (silo_cmp silo)) world.nodes }

-- one more event was accepted
abbrev pub counted : World → World
counted world = record world { accepted = world.accepted + 1 }

-- what a silo is by the last change
abbrev pub status_now : World → Silo → Option Status
status_now world silo = status_in (membership_of world) silo

-- an event that sends nothing
abbrev pub tells : World → Happening → Accepted
tells world happening = record { outcome = record { happening = happening; sent = None }; world = counted world }

-- Membership.

-- without the node of the silo that is replaced, if there is one
abbrev pub without_replaced : World → Option Silo → World
without_replaced world None = world
without_replaced world (Some old) = without_node world old

-- the new silo has a node, and the one that it replaces has none any more
abbrev pub after_joining : World → Silo → (replaced : Option Silo) → ViewsValue → PlacesValue → World
after_joining world silo replaced views places =
    record (with_node (without_replaced world replaced) silo (new_node world.settings silo)) { views = views; places = places }

-- the world after a change
abbrev pub after_change : World → Change → Membership → World
after_change world (membership.Join silo places) m = after_joining world silo (occupant silo world.views.rows) m.views m.places
after_change world (membership.Leave silo) m = with_membership world m
after_change world (Die silo) m = with_membership (without_node world silo) m

-- what happened, and for a join whom it replaced
abbrev pub change_told : (version : ℕ) → Change → (replaced : Option Silo) → Happening
change_told version (membership.Join silo places) replaced = Joined version silo replaced
change_told version (membership.Leave silo) replaced = Left version silo
change_told version (Die silo) replaced = Died version silo

-- by what the change makes, or its refusal
abbrev pub changed_by : Result Membership ℕ → World → Change → Result Accepted ℕ
changed_by (Err number) world change = Err number
changed_by (Ok m) world change = Ok (tells (after_change world change m) (change_told m.views.version change (replaced_by (membership_of world) change)))

-- whether the change is one of a silo that is Dead: its leave or its death
abbrev pub is_of_dead : World → Change → Bool
is_of_dead world (membership.Join silo places) = false
is_of_dead world (membership.Leave silo) = is_known_dead (status_now world silo)
is_of_dead world (Die silo) = is_known_dead (status_now world silo)

-- a change is decided: 902 where it is of a silo that is Dead, since in a world nothing happens to it any more; then as membership
-- refuses
abbrev pub decides : World → Change → Result Accepted ℕ
decides world change = if is_of_dead world change then Err 902 else changed_by (changed world.settings (membership_of world) change) world change

-- Steps of silos.

-- the step is done: the silo has its new node, and the letters are in the mail; 909 where those would be too many
abbrev pub taken : World → Silo → Happening → Stepped → Result Accepted ℕ
taken world silo happening stepped =
    if not (has_room_for world stepped.letters) then Err 909
    else Ok (record {
      outcome = record { happening = happening; sent = span_of world stepped.letters };
      world = counted (with_sent (with_node world silo stepped.node) stepped.letters);
    })

-- the number by which a silo without a node is refused: 901 where it never joined, else it is Dead and 902
abbrev pub absent_number : World → Silo → ℕ
absent_number world silo = unwrap_or (barred_by (status_now world silo)) 902

-- by what the silo's step made, or its refusal
abbrev pub done_by : Result Stepped ℕ → World → Silo → Result Accepted ℕ
done_by (Err number) world silo = Err number
done_by (Ok stepped) world silo = taken world silo (Did silo stepped.effect) stepped

-- by the silo's node, if it has one
abbrev pub does_at : Option Node → World → Silo → Input → Result Accepted ℕ
does_at None world silo input = Err (absent_number world silo)
does_at (Some node) world silo input = done_by (step node input) world silo

-- a silo takes a step of its own: 901, 902, and then as the step refuses
abbrev pub does : World → Silo → Input → Result Accepted ℕ
does world silo input = does_at (node_of world silo) world silo input

-- by what the sight made, or its refusal
abbrev pub seen_by : Result Stepped ℕ → World → Silo → (version : ℕ) → Result Accepted ℕ
seen_by (Err number) world silo version = Err number
seen_by (Ok stepped) world silo version = taken world silo (Saw silo version stepped.effect) stepped

-- by the silo's node, if it has one
abbrev pub sees_at : Option Node → World → Silo → (version : ℕ) → Result Accepted ℕ
sees_at None world silo version = Err (absent_number world silo)
sees_at (Some node) world silo version =
    if not (nat_lt node.view.version version) then Err 903
    else (if not (is_seeable (membership_of world) silo version) then Err 904
    else seen_by (step node (sight_of (membership_of world) version)) world silo version)

-- a silo sees a version: 901, 902, 903 where it isn't newer than the one seen, 904 where there is no such view or it is from
-- before the silo joined, 805
abbrev pub sees : World → Silo → (version : ℕ) → Result Accepted ℕ
sees world silo version = sees_at (node_of world silo) world silo version

-- Letters.

-- by what the receiver's step made, or its refusal
abbrev pub delivered_by : Result Stepped ℕ → World → (number : ℕ) → Letter → Result Accepted ℕ
delivered_by (Err refusal) world number letter = Err refusal
delivered_by (Ok stepped) world number letter =
    taken (with_delivered world number letter) letter.to (Delivered number (kind_of letter.body) stepped.effect) stepped

-- by the receiver's node, if it has one
abbrev pub delivers_to : Option Node → World → (number : ℕ) → Letter → Result Accepted ℕ
delivers_to None world number letter = Err 902
delivers_to (Some node) world number letter = delivered_by (step node (Receives letter)) world number letter

-- by the letter of that number, if it is in the mail
abbrev pub delivers : Option Letter → World → (number : ℕ) → Result Accepted ℕ
delivers None world number = Err 905
delivers (Some letter) world number = delivers_to (node_of world letter.to) world number letter

-- a letter comes: 905 where it isn't in the mail, 902 where its receiver is Dead
abbrev pub deliver : World → (number : ℕ) → Result Accepted ℕ
deliver world number = delivers (letter_of world number) world number

-- a letter is lost for good: 905 where it isn't in the mail
abbrev pub lose : World → (number : ℕ) → Result Accepted ℕ
lose world number = if is_some (letter_of world number) then Ok (tells (with_lost world number) (Lost number)) else Err 905

-- whether the letter may still be delivered: it is fresh, and its receiver isn't Dead
abbrev pub is_deliverable : World → Posted → Bool
is_deliverable world posted = posted.fresh && is_some (node_of world posted.letter.to)

-- the least letter that may still be delivered, if there is one
abbrev pub least_deliverable : World → Option ℕ
least_deliverable world = option_map (λ e. e.0) (find (λ e. is_deliverable world e.1) world.mail)

-- what happens at an event, if there is room for one more
abbrev pub attempted : World → Event → Result Accepted ℕ
attempted world (Join silo places) = decides world (membership.Join silo places)
attempted world (Leave silo) = decides world (membership.Leave silo)
attempted world (Kill silo) = decides world (Die silo)
attempted world (See silo version) = sees world silo version
attempted world (Do silo step) = does world silo (Does step)
attempted world (Deliver number) = deliver world number
attempted world (Lose number) = lose world number

-- what happens at an event; before all else 908 where as many events were accepted as ever may be
unfoldable pub happens : World → Event → Result Accepted ℕ
happens world event = if nat_lt world.accepted world.settings.events then attempted world event else Err 908

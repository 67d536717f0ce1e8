-- An event leaves every node as it is but those that it may change.
use Rattle.std.proofs.Common.{◌≡◌, refl, ap, ◌∙◌, ℕ}
use Rattle.std.specs.Prelude.{Bool, true, false, cond, not, is_some, Option, Some, None, Result, Ok, Err, IfOk}
use Rattle.std.specs.Ordering.{is_eq}
use Rattle.std.specs.declared.cmp.Ordering.{Ordering}
use Rattle.std.specs.declared.cmp.Ordering.TheVariants.{Equal, Greater, Less}
use Rattle.std.specs.BTreeMap.{is_at}
use Rattle.silo_address.specs.Silo.{Silo, silo_cmp}
use Rattle.silo_address.proofs.Order.{silo_cmp_total, silo_cmp_exact}
use Rattle.texts.proofs.Entries.{lookup-insert_entry}
use Rattle.directory_rules.specs.Membership.{is_seeable}
use Rattle.directory_rules.specs.Event.{Event, Join, Leave, Kill, See, Do, Deliver, Lose}
use Rattle.directory_rules.specs.declared.outcome.Happening.{Happening}
use Rattle.directory_rules.specs.Input.{Input, Does, Receives, step, sight_of}
use Rattle.directory_rules.specs.State.{Letter, Node, World, Accepted}
use Rattle.directory_rules.specs.Step.{Stepped}
use Rattle.directory_rules.specs.World.{membership_of}
use Rattle.directory_rules.specs.Mail.{has_room_for, letter_of, with_delivered}
use Rattle.directory_rules.specs.Happens as rule
use Rattle.cluster_board.specs.Changed.{MayChange}

-- the silo's node is the same after what was accepted
abbrev pub Stays : World → Silo → Result Accepted ℕ → Type 0
Stays world silo result = IfOk result (λ accepted. rule.node_of accepted.world silo ≡ rule.node_of world silo)

apart : (one other : Silo) → (one ≡ other → ⊥) → is_at (silo_cmp one) other ≡ false
apart one other differ = by (silo_cmp one other) refl
  where
    by : (r : Ordering) → silo_cmp one other ≡ r → is_eq r ≡ false
    by Less is = refl
    by Equal is = absurd (differ (silo_cmp_exact one other is))
    by Greater is = refl

put_beside : (world : World) (silo other : Silo) (node : Node) → (other ≡ silo → ⊥)
    → rule.node_of (rule.with_node world silo node) other ≡ rule.node_of world other
put_beside world silo other node differ =
    lookup-insert_entry silo_cmp_total silo node other world.nodes
    ∙ ap (λ b. cond b (Some node) (rule.node_of world other)) (apart other silo differ)

unless : (world : World) (silo : Silo) (b : Bool) (number : ℕ) (result : Result Accepted ℕ) → Stays world silo result
    → Stays world silo (cond (not b) (Err number) result)
unless world silo true number result then = then
unless world silo false number result then = tt

when : (world : World) (silo : Silo) (b : Bool) (number : ℕ) (result : Result Accepted ℕ) → Stays world silo result
    → Stays world silo (cond b result (Err number))
when world silo true number result then = then
when world silo false number result then = tt

taken : (world : World) (silo other : Silo) (happening : Happening) (stepped : Stepped) → (other ≡ silo → ⊥)
    → Stays world other (rule.taken world silo happening stepped)
taken world silo other happening stepped differ =
    unless world other (has_room_for world stepped.letters) 909 _ (put_beside world silo other stepped.node differ)

done_by : (result : Result Stepped ℕ) (world : World) (silo other : Silo) → (other ≡ silo → ⊥)
    → Stays world other (rule.done_by result world silo)
done_by (Err number) world silo other differ = tt
done_by (Ok stepped) world silo other differ = taken world silo other _ stepped differ

does_at : (node : Option Node) (world : World) (silo other : Silo) (input : Input) → (other ≡ silo → ⊥)
    → Stays world other (rule.does_at node world silo input)
does_at None world silo other input differ = tt
does_at (Some node) world silo other input differ = done_by (step node input) world silo other differ

does : (world : World) (silo other : Silo) (input : Input) → (other ≡ silo → ⊥) → Stays world other (rule.does world silo input)
does world silo other input differ = does_at (rule.node_of world silo) world silo other input differ

seen_by : (result : Result Stepped ℕ) (world : World) (silo other : Silo) (version : ℕ) → (other ≡ silo → ⊥)
    → Stays world other (rule.seen_by result world silo version)
seen_by (Err number) world silo other version differ = tt
seen_by (Ok stepped) world silo other version differ = taken world silo other _ stepped differ

sees_at : (node : Option Node) (world : World) (silo other : Silo) (version : ℕ) → (other ≡ silo → ⊥)
    → Stays world other (rule.sees_at node world silo version)
sees_at None world silo other version differ = tt
sees_at (Some node) world silo other version differ =
    unless world other _ 903 _ (unless world other (is_seeable (membership_of world) silo version) 904 _
    (seen_by (step node (sight_of (membership_of world) version)) world silo other version differ))

delivered_by : (result : Result Stepped ℕ) (world : World) (number : ℕ) (letter : Letter) (other : Silo) → (other ≡ letter.to → ⊥)
    → Stays world other (rule.delivered_by result world number letter)
delivered_by (Err refusal) world number letter other differ = tt
delivered_by (Ok stepped) world number letter other differ = taken (with_delivered world number letter) letter.to other _ stepped differ

delivers_to : (node : Option Node) (world : World) (number : ℕ) (letter : Letter) (other : Silo) → (other ≡ letter.to → ⊥)
    → Stays world other (rule.delivers_to node world number letter)
delivers_to None world number letter other differ = tt
delivers_to (Some node) world number letter other differ = delivered_by (step node (Receives letter)) world number letter other differ

delivers : (found : Option Letter) (world : World) (number : ℕ) (other : Silo) → letter_of world number ≡ found
    → (MayChange world (Deliver number) other → ⊥) → Stays world other (rule.delivers found world number)
delivers None world number other is away = tt
delivers (Some letter) world number other is away =
    delivers_to (rule.node_of world letter.to) world number letter other (λ its. away (record { letter = letter; mailed = is; its = its }))

attempted : (world : World) (event : Event) (other : Silo) → (MayChange world event other → ⊥)
    → Stays world other (rule.attempted world event)
attempted world (Join silo places) other away = absurd (away tt)
attempted world (Leave silo) other away = absurd (away tt)
attempted world (Kill silo) other away = absurd (away tt)
attempted world (See silo version) other away = sees_at (rule.node_of world silo) world silo other version away
attempted world (Do silo step) other away = does world silo other (Does step) away
attempted world (Deliver number) other away = delivers (letter_of world number) world number other refl away
attempted world (Lose number) other away = when world other (is_some (letter_of world number)) 905 _ refl

-- an accepted event leaves a node that it may not change
pub happened : (world : World) (event : Event) (other : Silo) → (MayChange world event other → ⊥)
    → Stays world other (rule.happens world event)
unfolding rule.happens
happened world event other away = when world other _ 908 (rule.attempted world event) (attempted world event other away)

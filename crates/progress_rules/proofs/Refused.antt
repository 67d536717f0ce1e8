-- By what an event of the plan may be refused: by the limits on events and on letters, and where the numbers of requests are used up.
use Rattle.std.proofs.Common.{inl, inr, ◌≡◌, ◌⊎◌, refl, sym, subst, ◌∙◌, ℕ, ◌+◌, ◌-◌, ◌<◌, ◌≤◌, List, [], ◌∷◌, length}
use Rattle.std.specs.Prelude.{Bool, true, false, cond, not, nat_lt, Some, Result, Ok, Err}
use Rattle.std.proofs.lemmas.Bool.{leb-false, ltb-true, ltb-false, lt-ltb}
use Rattle.silo_address.specs.Silo.{Silo}
use Rattle.membership_view.specs.Views.{view_at}
use Rattle.directory_rules.specs.Membership.{is_seeable}
use Rattle.directory_rules.specs.Host.{outstanding, has_numbers}
use Rattle.directory_rules.specs.State.{Letter, Node, World, Accepted}
use Rattle.directory_rules.specs.Sight.{is_next}
use Rattle.directory_rules.specs.Step.{Stepped, sight}
use Rattle.directory_rules.specs.Input.{Input, Does, Receives, step, sight_of}
use Rattle.directory_rules.specs.Receive.{received}
use Rattle.directory_rules.specs.Event.{See, Do, Deliver}
use Rattle.directory_rules.specs.World.{membership_of}
use Rattle.directory_rules.specs.Mail.{letter_of, has_room_for, with_delivered}
use Rattle.directory_rules.specs.declared.outcome.Happening.{Happening}
use Rattle.directory_rules.specs.declared.own_step.OwnStep.TheVariants.{Nudge}
use Rattle.directory_rules.specs.Happens.{happens, node_of, taken, does_at, done_by, sees_at, seen_by, delivers, delivers_to}

-- as many events were accepted as ever may be
pub record IsLate (world : World) (number : ℕ) : Type 0 where
  pub number_is : number ≡ 908
  pub late : world.settings.events ≤ world.accepted

-- with the letters of the silo's step there would be too many
pub record HasNoRoom (world : World) (silo : Silo) (input : Input) (number : ℕ) : Type 0 where
  pub number_is : number ≡ 909
  pub node : Node
  pub stepped : Stepped
  pub its : node_of world silo ≡ Some node
  pub made : step node input ≡ Ok stepped
  pub full : world.settings.letters < world.sent + length stepped.letters

-- the silo hasn't a new number for each request that it has outstanding
pub record HasNoNumbers (world : World) (silo : Silo) (number : ℕ) : Type 0 where
  pub number_is : number ≡ 805
  pub early : world.accepted < world.settings.events
  pub node : Node
  pub its : node_of world silo ≡ Some node
  pub lacks : has_numbers node.settings node.host (length (outstanding node.host)) ≡ false

-- a silo's step of its own, and a delivery
abbrev pub Refused : World → Silo → Input → (number : ℕ) → Type 0
Refused world silo input number = IsLate world number ⊎ (HasNoRoom world silo input number ⊎ HasNoNumbers world silo number)

abbrev pub IsUndelivered : World → Letter → (number : ℕ) → Type 0
IsUndelivered world letter number = IsLate world number ⊎ HasNoRoom world letter.to (Receives letter) number

-- ---- what a refusal says
late_or : (b : Bool) (result : Result Accepted ℕ) (number : ℕ) → cond b result (Err 908) ≡ Err number → ((b ≡ false) × (number ≡ 908))
    ⊎ ((b ≡ true) × (result ≡ Err number))
late_or true result number is = inr (refl, is)
late_or false result number is = inl (refl, cc (is))

-- a step that is refused by a test
unless : (b : Bool) (its number : ℕ) (made : Stepped) → cond {A = Result Stepped ℕ} (not b) (Err its) (Ok made) ≡ Err number
    → (b ≡ false) × (number ≡ its)
unless true its number made is = absurd (cc (is))
unless false its number made is = (refl, cc (is))

-- a test that is passed
passed : {X : Type 0} (b : Bool) (its : ℕ) (result : Result X ℕ) (number : ℕ) → b ≡ true → cond (not b) (Err its) result ≡ Err number
    → result ≡ Err number
passed true its result number so is = is
passed false its result number so is = absurd (cc (so))

full_if : (world : World) (letters : List Letter) → has_room_for world letters ≡ false
    → world.settings.letters < world.sent + length letters
full_if world [] room = absurd (cc (room))
full_if world (letter ∷ letters) room = leb-false (world.sent + length (letter ∷ letters)) world.settings.letters room

no_room : (b : Bool) (made : Accepted) (number : ℕ) → cond {A = Result Accepted ℕ} (not b) (Err 909) (Ok made) ≡ Err number
    → (b ≡ false) × (number ≡ 909)
no_room true made number is = absurd (cc (is))
no_room false made number is = (refl, cc (is))

full : (world : World) (silo : Silo) (happening : Happening) (stepped : Stepped) (number : ℕ)
    → taken world silo happening stepped ≡ Err number
    → (number ≡ 909) × (world.settings.letters < world.sent + length stepped.letters)
full world silo happening stepped number is =
    let so = no_room (has_room_for world stepped.letters) _ number is in (so.1, full_if world stepped.letters so.0)

abbrev early : World → Bool
early world = nat_lt world.accepted world.settings.events

late : (world : World) (number : ℕ) → early world ≡ false → number ≡ 908 → IsLate world number
late world number is number_is = record { number_is = number_is; late = ltb-false world.accepted world.settings.events is }

module _ (world : World) (silo : Silo) (node : Node) (its : node_of world silo ≡ Some node) where
  cramped : (input : Input) (stepped : Stepped) (number : ℕ) → step node input ≡ Ok stepped
      → (number ≡ 909) × (world.settings.letters < world.sent + length stepped.letters)
      → HasNoRoom world silo input number
  cramped input stepped number made so = record { number_is = so.0; node = node; stepped = stepped; its = its; made = made; full = so.1 }

  lacking : (number : ℕ) → early world ≡ true → (has_numbers node.settings node.host (length (outstanding node.host)) ≡ false) ×
      (number ≡ 805) → HasNoNumbers world silo number
  lacking number is so =
      record { number_is = so.1; early = ltb-true world.accepted world.settings.events is; node = node; its = its; lacks = so.0 }

-- ---- a step of a silo's own
by_nudge : (world : World) (silo : Silo) (node : Node) (number : ℕ) → node_of world silo ≡ Some node → early world ≡ true
    → (r : Result Stepped ℕ) → step node (Does Nudge) ≡ r → done_by r world silo ≡ Err number → HasNoRoom world silo (Does Nudge) number
    ⊎ HasNoNumbers world silo number
by_nudge world silo node number its in_time (Ok stepped) made is =
    inl (cramped world silo node its (Does Nudge) stepped number made (full world silo _ stepped number is))
by_nudge world silo node number its in_time (Err refusal) made is =
    let so = unless (has_numbers node.settings node.host (length (outstanding node.host))) 805 refusal _ made in
    let same : refusal ≡ number = cc (is) in
    inr (lacking world silo node its number in_time (so.0, sym same ∙ so.1))

-- a nudge of a live silo
pub refused_nudge : (world : World) (silo : Silo) (node : Node) (number : ℕ) → node_of world silo ≡ Some node
    → happens world (Do silo Nudge) ≡ Err number → Refused world silo (Does Nudge) number
unfolding happens
refused_nudge world silo node number its is =
    elim (late_or (early world) (does_at (node_of world silo) world silo (Does Nudge)) number is) [
      | inl after ↦ inl (late world number after.0 after.1)
      | inr in_time ↦ inr (by_nudge world silo node number its in_time.0 (step node (Does Nudge)) refl
          (subst (λ o. does_at o world silo (Does Nudge) ≡ Err number) its in_time.1))
    ]

by_sight : (world : World) (silo : Silo) (node : Node) (version number : ℕ) → node_of world silo ≡ Some node
    → nat_lt node.view.version version ≡ true → early world ≡ true
    → (r : Result Stepped ℕ) → step node (sight_of (membership_of world) version) ≡ r → seen_by r world silo version ≡ Err number
    → HasNoRoom world silo (sight_of (membership_of world) version) number ⊎ HasNoNumbers world silo number
by_sight world silo node version number its newer in_time (Ok stepped) made is =
    inl (cramped world silo node its (sight_of (membership_of world) version) stepped number made (full world silo _ stepped number is))
by_sight world silo node version number its newer in_time (Err refusal) made is =
    let before = view_at world.views (version - 1) in
    let view = view_at world.views version in
    let lacks = passed (nat_lt node.view.version version) 903 _ refusal newer made in
    let made_so = sight (is_next node.view before view node.host.silo) node before view world.places in
    let so = unless (has_numbers node.settings node.host (length (outstanding node.host))) 805 refusal made_so lacks in
    let same : refusal ≡ number = cc (is) in
    inr (lacking world silo node its number in_time (so.0, sym same ∙ so.1))

-- a sight of a version that a live silo hasn't seen and may see
pub refused_sight :
    (world : World) (silo : Silo) (node : Node) (version number : ℕ) → node_of world silo ≡ Some node → node.view.version < version
    → is_seeable (membership_of world) silo version ≡ true
    → happens world (See silo version) ≡ Err number → Refused world silo (sight_of (membership_of world) version) number
unfolding happens
refused_sight world silo node version number its less seeable is =
    let newer = lt-ltb node.view.version version less in
    elim (late_or (early world) (sees_at (node_of world silo) world silo version) number is) [
      | inl after ↦ inl (late world number after.0 after.1)
      | inr in_time ↦ inr (
          let at : sees_at (Some node) world silo version ≡ Err number = subst (λ o. sees_at o world silo version ≡ Err number) its in_time.1 in
          let seen = passed (is_seeable (membership_of world) silo version) 904 _ number seeable (passed (nat_lt node.view.version version) 903 _ number newer at) in
          by_sight world silo node version number its newer in_time.0 (step node (sight_of (membership_of world) version)) refl seen)
    ]

-- ---- a delivery to a live silo
pub refused_delivery :
    (world : World) (number : ℕ) (letter : Letter) (node : Node) (refusal : ℕ) → letter_of world number ≡ Some letter
    → node_of world letter.to ≡ Some node
    → happens world (Deliver number) ≡ Err refusal → IsUndelivered world letter refusal
unfolding happens
refused_delivery world number letter node refusal found its is =
    elim (late_or (early world) (delivers (letter_of world number) world number) refusal is) [
      | inl after ↦ inl (late world refusal after.0 after.1)
      | inr in_time ↦ inr (
          let at : delivers_to (node_of world letter.to) world number letter ≡ Err refusal = subst (λ o. delivers o world number ≡ Err refusal) found in_time.1 in
          let to : delivers_to (Some node) world number letter ≡ Err refusal = subst (λ o. delivers_to o world number letter ≡ Err refusal) its at in
          cramped world letter.to node its (Receives letter) (received node letter) refusal refl
          (full (with_delivered world number letter) letter.to _ (received node letter) refusal to))
    ]

-- With room for what they need no nudge and no delivery is refused, so a round is through.
use Rattle.std.proofs.Common.{arith, ◌≡◌, inl, inr, refl, sym, ap, subst, ◌∙◌, ℕ, zero, suc, ◌+◌, ◌≤◌, List, [], ◌∷◌, length}
use Rattle.std.specs.Prelude.{map, All, Option, Some, None, Result, Ok, Err}
use Rattle.std.specs.Option.{option_map}
use Rattle.std.specs.Map.{values_of}
use Rattle.std.proofs.lemmas.List.Elements.{All-head, All-tail}
use Rattle.std.proofs.lemmas.List.Sums.{sum_by-cons, count_by-le-length}
use Rattle.std.proofs.lemmas.Map.Entries.{length-values_of}
use Rattle.silo_address.specs.Silo.{Silo, IsSilo}
use Rattle.directory_rules.specs.Settings.{Settings}
use Rattle.directory_rules.specs.State.{Node, World, Posted, Accepted}
use Rattle.directory_rules.specs.Step.{Stepped}
use Rattle.directory_rules.specs.Receive.{received}
use Rattle.directory_rules.specs.Event.{Event, Deliver, Do}
use Rattle.directory_rules.specs.Mail.{fresh_letter}
use Rattle.directory_rules.specs.declared.own_step.OwnStep.TheVariants.{Nudge}
use Rattle.directory_rules.specs.Happens.{happens, node_of, least_deliverable}
use Rattle.directory_facts.proofs.Lawful.{settings_stay}
use Rattle.progress_rules.specs.Plan.{then_on, and_then, in_turn, delivering, ended, settled_within, settled, round}
use Rattle.progress_rules.specs.Limits.{NumbersSuffice}
use Rattle.progress_rules.specs.Room.{fresh_with}
use Rattle.progress_rules.proofs.Flights.{delivered, nudged}
use Rattle.progress_rules.proofs.Flying.{least_is}
use Rattle.progress_rules.proofs.Answered.{some_of}
use Rattle.progress_rules.proofs.Rounds.{nudge_is}
use Rattle.progress_rules.proofs.Resting.{IsResting, rest_mail}
use Rattle.progress_rules.proofs.Refused.{refused_nudge, refused_delivery}
use Rattle.progress_rules.proofs.NumbersUsed.{numbers_suffice}
use Rattle.progress_rules.proofs.FreshWith.{fresh_before}
use Rattle.progress_rules.proofs.AreTold.{Base}
use Rattle.progress_rules.proofs.Reporting.{size_above}
use Rattle.progress_rules.proofs.Sums.{le_same}
use Rattle.progress_rules.proofs.Potential.{potential}
use Rattle.progress_rules.proofs.DeliveryFalls.{potential_falls}
use Rattle.progress_rules.proofs.NudgeSends.{asked_by_nudge, nudge_few}
use Rattle.progress_rules.proofs.RoundSends.{Within, NudgingWithin, Before, within_delivered, within_nudged, begins, rest_silos, nudges_within}

-- the settings have room for so many letters and events, and numbers enough
pub record HasRoom (sends events : ℕ) (settings : Settings) : Type 0 where
  pub letters : sends ≤ settings.letters
  pub events_fit : events ≤ settings.events
  pub numbers : NumbersSuffice settings

abbrev Happens : World → Event → Type 0
Happens world event = (accepted : Accepted) × (happens world event ≡ Ok accepted)

-- ---- a letter comes
ok_is : (made stepped : Stepped) → ◌≡◌ {A = Result Stepped ℕ} (Ok made) (Ok stepped) → made ≡ stepped
ok_is made stepped is = cc (is)

module _ (b : Base) (sends asks events : ℕ) (world : World) (w : Within b sends asks events world) (room : HasRoom sends events world.settings) where
  one_fresh : (number : ℕ) → least_deliverable world ≡ Some number → 1 ≤ fresh_with (λ body. 1) world
  one_fresh number next =
      let least = least_is world number (rest_mail world w.rests).rising next in
      let fewer = fresh_before (λ body. 1) world number (fresh_letter least.letter) least.flies.found refl in
      omega (arith, fewer)

  delivery_happens : (number : ℕ) → least_deliverable world ≡ Some number → Happens world (Deliver number)
  delivery_happens number next = by (happens world (Deliver number)) refl
    where
      by : (r : Result Accepted ℕ) → happens world (Deliver number) ≡ r → Happens world (Deliver number)
      by (Ok accepted) is = (accepted, is)
      by (Err refusal) is =
          let least = least_is world number (rest_mail world w.rests).rising next in
          let letter = least.letter in
          let to = some_of (node_of world letter.to) least.flies.comes in
          let fresh = one_fresh number next in
          let came = w.came in
          let sent = w.sent in
          let fits = room.events_fit in
          let holds = room.letters in
          elim (refused_delivery world number letter to.0 refusal
          (ap (λ (o : Option Posted). option_map (λ p. p.letter) o) least.flies.found) to.1 is) [
            | inl late ↦ let over = late.late in absurd (omega (arith, over, fresh, came, fits))
            | inr full ↦
                let its = full.its in
                let mine = to.1 in
                let node_is : full.node ≡ to.0 = cc (its, mine) in
                let made : received full.node letter ≡ full.stepped = ok_is (received full.node letter) full.stepped full.made in
                let letters = ap (λ (t : Stepped). length t.letters) (sym made ∙ ap (λ (x : Node). received x letter) node_is) in
                let falls = potential_falls b (size_above b world w.rests w.reporting) world w.rests w.reporting.same w.reporting.told number (fresh_letter letter) to.0 least.flies.found refl to.1 in
                let over = full.full in
                absurd (omega (arith, over, letters, falls, sent, holds))
          ]

-- ---- until none is left
pub settles_through : (b : Base) (sends asks events steps more : ℕ) (world : World) → Within b sends asks events world
    → Within b sends asks steps world
    → HasRoom sends events world.settings → steps ≤ world.accepted + more
    → (after : World) × (settled_within more world ≡ Ok after) × (after.settings ≡ world.settings)
settles_through b sends asks events steps zero world w v room fits = by (least_deliverable world) refl
  where
    by : (o : Option ℕ) → least_deliverable world ≡ o → (after : World) × (ended o world ≡ Ok after) × (after.settings ≡ world.settings)
    by None none = (world, refl, refl)
    by (Some number) next =
        let fresh = one_fresh b sends asks events world w room number next in let came = v.came in absurd (omega (arith, fresh, came, fits))
settles_through b sends asks events steps (suc more) world w v room fits =
    by (least_deliverable world) refl (λ later its other has so. settles_through b sends asks events steps more later its other has so)
  where
    by : (o : Option ℕ) → least_deliverable world ≡ o
        → ((later : World) → Within b sends asks events later → Within b sends asks steps later
        → HasRoom sends events later.settings → steps ≤ later.accepted + more
        → (after : World) × (settled_within more later ≡ Ok after) × (after.settings ≡ later.settings))
        → (after : World) × (delivering o world (λ next. settled_within more next) ≡ Ok after) × (after.settings ≡ world.settings)
    by None none on = (world, refl, refl)
    by (Some number) next on =
        let h = delivery_happens b sends asks events world w room number next in
        let d = delivered world number h.0 h.1 in
        let same : h.0.world.settings ≡ world.settings = ap (λ (x : World). x.settings) d.is in
        let one_more : h.0.world.accepted ≡ world.accepted + 1 = ap (λ (x : World). x.accepted) d.is in
        let rest = on h.0.world (within_delivered b sends asks events world number h.0 w next h.1) (within_delivered b sends asks steps world number h.0 v next h.1)
        (subst (HasRoom sends events) (sym same) room) (omega (arith, fits, one_more)) in
        (rest.0, ap (λ r. then_on r (λ later. settled_within more later)) h.1 ∙ rest.1, rest.2 ∙ same)

-- ---- a nudge
module _ (b : Base) (sends asks events : ℕ) (world : World) (e : Silo × Node) (es : List (Silo × Node))
    (w : NudgingWithin b sends asks events (e ∷ es) world)
    (room : HasRoom sends events world.settings) where
  nudge_happens : Happens world (Do e.0 Nudge)
  nudge_happens = by (happens world (Do e.0 Nudge)) refl
    where
      its : node_of world e.0 ≡ Some e.1
      its = All-head (λ (x : Silo × Node). node_of world x.0 ≡ Some x.1) e es w.there

      same : world.settings ≡ w.rests.settings
      same = ap (λ (x : World). x.settings) w.rests.is ∙ settings_stay w.rests.settings w.rests.events

      by : (r : Result Accepted ℕ) → happens world (Do e.0 Nudge) ≡ r → Happens world (Do e.0 Nudge)
      by (Ok accepted) is = (accepted, is)
      by (Err number) is =
          let came = w.came in
          let sent = w.sent in
          let fits = room.events_fit in
          let holds = room.letters in
          elim (refused_nudge world e.0 e.1 number its is) [
            | inl late ↦ let over = late.late in absurd (omega (arith, over, came, fits))
            | inr other ↦ elim other [
              | inl full ↦
                  let there = full.its in
                  let mine = its in
                  let node_is : full.node ≡ e.1 = cc (there, mine) in
                  let letters = ap (λ (t : Stepped). length t.letters) (nudge_is full.node full.stepped full.made) in
                  let few = nudge_few b world w.rests e.0 full.node full.its in
                  let whose = ap (λ (x : Node). asked_by_nudge x) node_is in
                  let parts = sum_by-cons (λ (x : Silo × Node). asked_by_nudge x.1) e es in
                  let over = full.full in
                  absurd (omega (arith, over, letters, few, whose, parts, sent, holds))
              | inr none ↦
                  let has =
                  numbers_suffice w.rests.settings world (record { events = w.rests.events; named = w.rests.named; is = w.rests.is })
                  (subst NumbersSuffice same room.numbers) e.0 none.node none.its none.early in
                  let lacks = none.lacks in
                  absurd (cc (has, lacks))
            ]
          ]

pub nudges_through : (b : Base) (sends asks events : ℕ) (es : List (Silo × Node)) (world : World) → All (λ e. IsSilo e.0) es
    → NudgingWithin b sends asks events es world
    → HasRoom sends events world.settings
    → (after : World) × (in_turn (map (λ e. Do e.0 Nudge) es) world ≡ Ok after) × (after.settings ≡ world.settings)
nudges_through b sends asks events [] world silos w room = (world, refl, refl)
nudges_through b sends asks events (e ∷ es) world silos w room =
    let h = nudge_happens b sends asks events world e es w room in
    let s = nudged world e.0 h.0 h.1 in
    let same : h.0.world.settings ≡ world.settings = ap (λ (x : World). x.settings) s.is in
    let rest = nudges_through b sends asks events es h.0.world (All-tail (λ (x : Silo × Node). IsSilo x.0) e es silos)
    (within_nudged b sends asks events world e es h.0 (All-head (λ (x : Silo × Node). IsSilo x.0) e es silos) w h.1)
    (subst (HasRoom sends events) (sym same) room) in
    (rest.0, ap (λ r. then_on r (λ next. in_turn (map (λ x. Do x.0 Nudge) es) next)) h.1 ∙ rest.1, rest.2 ∙ same)

-- ---- a round
-- no more letters are fresh than were sent
fresh_sent : (world : World) → IsResting world → fresh_with (λ body. 1) world ≤ world.sent
fresh_sent world r =
    let few = count_by-le-length (λ (posted : Posted). posted.fresh) (values_of world.mail) in
    let same = length-values_of world.mail in
    let many = (rest_mail world r).many in
    omega (arith, few, same, many)

-- so many events there are at most once a settle is through
abbrev steps_of : Base → World → ℕ
steps_of b world = world.accepted + fresh_with (λ body. 1) world + potential b world

pub round_through : (b : Base) (sends asks events : ℕ) (world : World) → Before b sends asks events world → HasRoom sends events world.settings
    → (after : World) × (round world ≡ Ok after) × (after.settings ≡ world.settings)
round_through b sends asks events world f room =
    let nudges = nudges_through b sends asks events world.nodes world (rest_silos world f.rests) (begins b sends asks events world f) room in
    let next = nudges.0 in
    let w = nudges_within b sends asks events world next f nudges.1 in
    let has : HasRoom sends events next.settings = subst (HasRoom sends events) (sym nudges.2) room in
    let few = fresh_sent next w.rests in
    let sent = w.sent in
    let holds = has.letters in
    let v : Within b sends asks (steps_of b next) next = record { rests = w.rests; reporting = w.reporting; many = w.many; sent = w.sent; asked = w.asked; came = le_same (steps_of b next) } in
    let rest = settles_through b sends asks events (steps_of b next) next.settings.letters next w v has (omega (arith, few, sent, holds)) in
    (rest.0, ap (λ r. and_then r settled) nudges.1 ∙ rest.1, rest.2 ∙ nudges.2)

-- It comes back in any order: after as many rounds as a silo has registrations and deregistrations outstanding at one owner, and one at least.
use Rattle.std.proofs.Common.{arith, ◌≡◌, refl, sym, ap, subst, ◌∙◌, ℕ, suc, ◌-◌, ◌≤◌, List, [], ◌∷◌, length, inl, inr}
use Rattle.std.specs.Prelude.{true, map, Contains, All, Some, Result, Ok, Err}
use Rattle.std.proofs.lemmas.List.Elements.{Contains-append_right}
use Rattle.silo_address.specs.Silo.{Silo}
use Rattle.silo_address.specs.Grain.{Grain}
use Rattle.membership_view.specs.View.{ViewValue}
use Rattle.directory_rules.specs.declared.act.Act.{Act}
use Rattle.directory_rules.specs.declared.act.Act.TheVariants as act
use Rattle.directory_rules.specs.Settings.{Settings, AreSettings}
use Rattle.directory_rules.specs.Event.{Event, IsEvent}
use Rattle.directory_rules.specs.Answer.{is_numbered}
use Rattle.directory_rules.specs.Host.{held_acts, find_acts, outstanding}
use Rattle.directory_rules.specs.Laws.{requests_of}
use Rattle.directory_rules.specs.State.{Node, World}
use Rattle.directory_rules.specs.Happens.{node_of}
use Rattle.directory_facts.specs.Laws.{world_by}
use Rattle.progress_rules.specs.Plan.{and_then, synced, IsBack, IsBackUnowned, HasOwners}
use Rattle.progress_rules.specs.ComeBack.{HaveSeen}
use Rattle.progress_rules.specs.Owed.{Owes}
use Rattle.progress_rules.specs.Second.{owner_in}
use Rattle.progress_rules.specs.AnyOrder.{settled_in, round_in, rounds_in, asked_of, AreAtMost, ComesBackInAnyOrder, ComesBackInAnyOrderUnowned, RoundsServe}
use Rattle.progress_rules.proofs.Fewer.{some_pass, some_in}
use Rattle.progress_rules.proofs.AtOwners.{is_for, asks, for_owner, asked_same, asks_from}
use Rattle.progress_rules.proofs.Synced.{ranges_settled}
use Rattle.progress_rules.proofs.InOrder.{any_settles}
use Rattle.progress_rules.proofs.RoundOfPieces.{starts}
use Rattle.progress_rules.proofs.Answering.{node_facts}
use Rattle.progress_rules.proofs.SecondRound.{length_none}
use Rattle.progress_rules.proofs.Answered.{some_of}
use Rattle.progress_rules.proofs.AnyRound.{IsStill, Falls, falls_or_none, round_falls}

-- ---- the rounds
-- no silo has more of them at one owner
abbrev AtMost : (base : World) → ℕ → World → Type 0
AtMost base most world = (silo : Silo) (node : Node) → node_of world silo ≡ Some node → (owner : Silo) → asks base owner node.host ≤ most

-- nor a find that has an owner
abbrev FindsNone : (base world : World) → Type 0
FindsNone base world =
    (silo : Silo) (node : Node) → node_of world silo ≡ Some node → (e : ℕ × Act) → Owes node.host e → (owner : Silo)
    → owner_in base e.1 ≡ Some owner
    → is_numbered e.1 ≡ true

record IsOver (base : World) (most : ℕ) (world : World) : Type 0 where
  pub still : IsStill base world
  pub at_most : AtMost base most world
  pub finds_none : FindsNone base world

round_over : (base : World) (order : List ℕ) (most : ℕ) (world after : World) → IsStill base world → AtMost base (suc most) world
    → round_in order world ≡ Ok after
    → IsOver base most after
round_over base order most world after still at_most is =
    let so = round_falls base order world after still is in
    record {
      still = so.0;
      at_most = λ silo node there owner.
          elim (falls_or_none base world after so.1 silo node there owner) [
            | inl none ↦ omega (arith, none)
            | inr fell ↦ let before = at_most silo fell.0 fell.1 owner in let less = fell.2 in omega (arith, before, less)
          ];
      finds_none = λ silo node there e owes owner owns. (so.1 silo node there e owes owner owns).0;
    }

-- what each round of so many more keeps, they keep
rounds_keep : (I : ℕ → World → Type 0) → ((order : List ℕ) (more : ℕ) (world after : World) → I (suc more) world
    → round_in order world ≡ Ok after → I more after)
    → (orders : List (List ℕ)) (world after : World) → I (length orders) world → rounds_in orders world ≡ Ok after
    → I 0 after
rounds_keep I k [] world after holds is = let same : world ≡ after = cc (is) in subst (I 0) same holds
rounds_keep I k (order ∷ orders) world after holds is =
    by (round_in order world) refl (λ next now rest. rounds_keep I k orders next after now rest) is
  where
    by : (r : Result World ℕ) → round_in order world ≡ r
        → ((next : World) → I (length orders) next → rounds_in orders next ≡ Ok after → I 0 after)
        → and_then r (λ next. rounds_in orders next) ≡ Ok after → I 0 after
    by (Err number) made later is = absurd (cc (is))
    by (Ok next) made later is = later next (k order (length orders) world next holds made) is

-- ---- then nobody waits
none_waits : (base after : World) → IsOver base 0 after → HasOwners after → (silo : Silo) (node : Node) → node_of after silo ≡ Some node
    → outstanding node.host ≡ []
none_waits base after over owned silo node there =
    let many = (node_facts after over.still.rests silo node there).numbered.many in
    let none = by (requests_of node.host) refl in
    length_none (outstanding node.host) (omega (arith, many, none))
  where
    by : (rs : List (ℕ × Act)) → requests_of node.host ≡ rs → length (requests_of node.host) ≡ 0
    by [] is_none = ap (λ (l : List (ℕ × Act)). length l) is_none
    by (x ∷ xs) some =
        let owes : Owes node.host x = subst (λ (l : List (ℕ × Act)). Contains l x) (sym some) (some_in x xs) in
        let owner = some_of (owner_in after x.1) (owned _) in
        let owns = sym (over.still.owners x.1) ∙ owner.1 in
        let asks_one = some_pass (λ (e : ℕ × Act). is_for base owner.0 e.1) (requests_of node.host) x owes
        (for_owner base owner.0 x.1 (over.finds_none silo node there x owes owner.0 owns) owns) in
        let most = over.at_most silo node there owner.0 in
        omega (arith, asks_one, most)

-- ---- the theorem
-- after the first round
still_first : (settings : Settings) (events : List Event) (first : List ℕ) (settled : World) → AreSettings settings → All IsEvent events
    → and_then (synced (world_by settings events)) (λ world. round_in first world) ≡ Ok settled → IsStill settled settled
still_first settings events first settled are named is =
    let so = ranges_settled (λ world. settled_in first world) (any_settles first) settings events settled are named is in
    record { rests = so.0.kept.rests; settled = so.1; none = so.0.none; owners = λ act. refl }

seen_still : (base world : World) → IsStill base world → HaveSeen world
seen_still base world still silo node there = ap (λ (v : ViewValue). v.version) (still.rests.seen silo node there)

pub comes_back_in_any_order : ComesBackInAnyOrder
comes_back_in_any_order settings events first orders settled after are named is at_most some rounds owned = by orders at_most some rounds
  where
    back : IsOver settled 0 after → IsBack after
    back over = record {
      nodes = λ silo node there.
          record {
            seen = seen_still settled after over.still silo node there;
            pieces = over.still.settled silo node there;
            waits_not = none_waits settled after over owned silo node there;
          };
      delivered = over.still.none;
    }

    further : (order : List ℕ) (orders : List (List ℕ)) → AreAtMost (length (order ∷ orders)) settled → (r : Result World ℕ)
        → round_in order settled ≡ r
        → and_then r (λ next. rounds_in orders next) ≡ Ok after → IsBack after
    further order orders at_most (Err number) made is_rounds = absurd (cc (is_rounds))
    further order orders at_most (Ok next) made is_rounds =
        let still = still_first settings events first settled are named is in
        let over =
        round_over settled order (length orders) settled next still
        (λ silo node there owner. let few = at_most silo node owner there in
        let here = asked_same settled still.rests silo node there owner in omega (arith, few, here)) made in
        back (rounds_keep (IsOver settled)
        (λ order more world after over made. round_over settled order more world after over.still over.at_most made) orders next after over
        is_rounds)

    by : (orders : List (List ℕ)) → AreAtMost (length orders) settled → 1 ≤ length orders → rounds_in orders settled ≡ Ok after
        → IsBack after
    by [] at_most some rounds = absurd (omega (arith, some))
    by (order ∷ orders) at_most some rounds = further order orders at_most (round_in order settled) refl rounds

-- ---- and without owners
pub comes_back_in_any_order_unowned : ComesBackInAnyOrderUnowned
comes_back_in_any_order_unowned settings events first orders after are named is = by (synced (world_by settings events)) refl is
  where
    further : (world : World) → synced (world_by settings events) ≡ Ok world → (r : Result World ℕ) → round_in first world ≡ r
        → and_then r (λ next. rounds_in orders next) ≡ Ok after → IsBackUnowned after
    further world seen (Err number) made is = absurd (cc (is))
    further world seen (Ok settled) made is =
        let still = still_first settings events first settled are named (ap (λ (r : Result World ℕ). and_then r (λ w. round_in first w)) seen ∙ made) in
        let last = rounds_keep (λ more w. IsStill settled w) (λ order more world after now ok. (round_falls settled order world after now ok).0) orders settled after still is in
        record { seen = seen_still settled after last; pieces = last.settled; delivered = last.none }

    by : (r : Result World ℕ) → synced (world_by settings events) ≡ r → and_then r (λ world. rounds_in (first ∷ orders) world) ≡ Ok after
        → IsBackUnowned after
    by (Err number) seen is = absurd (cc (is))
    by (Ok world) seen is = further world seen (round_in first world) refl is

-- ---- each round serves
pub rounds_serve : RoundsServe
rounds_serve settings events order after are named have all none is owned silo before node there here =
    (no_finds node.host.finds refl, λ owner. fewer_asked owner)
  where
    still : IsStill (world_by settings events) (world_by settings events)
    still = record { rests = starts settings events are named have; settled = all; none = none; owners = λ act. refl }

    so : IsStill (world_by settings events) after × Falls (world_by settings events) (world_by settings events) after
    so = round_falls (world_by settings events) order (world_by settings events) after still is

    no_finds : (finds : List (ℕ × Grain)) → node.host.finds ≡ finds → node.host.finds ≡ []
    no_finds [] are = are
    no_finds (x ∷ xs) are =
        let owes : Owes node.host (x.0, act.Find x.1) =
        Contains-append_right (held_acts node.host) (find_acts node.host) (x.0, act.Find x.1)
        (subst (λ (l : List (ℕ × Grain)). Contains {X = ℕ × Act} (map (λ (e : ℕ × Grain). (e.0, act.Find e.1)) l) (x.0, act.Find x.1))
        (sym are)
        (some_in {X = ℕ × Act} (x.0, act.Find x.1) _)) in
        let owner = some_of (owner_in after (act.Find x.1)) (owned _) in
        let fell = so.1 silo node here (x.0, act.Find x.1) owes owner.0 (sym (so.0.owners (act.Find x.1)) ∙ owner.1) in
        let never = fell.0 in
        absurd (cc (never))

    node_same : {x y : Node} → Some x ≡ Some y → x ≡ y
    node_same is = cc (is)

    fewer_asked : (owner : Silo) → asked_of node owner ≤ asked_of before owner - 1
    fewer_asked owner =
        let now = asked_same after so.0.rests silo node here owner in
        let then = asked_same (world_by settings events) still.rests silo before there owner in
        let same = asks_from after (world_by settings events) owner so.0.owners node.host in
        elim (falls_or_none (world_by settings events) (world_by settings events) after so.1 silo node here owner) [
          | inl none ↦ omega (arith, now, same, none)
          | inr fell ↦
              let one : fell.0 ≡ before = node_same (sym fell.1 ∙ there) in
              let was = ap (λ (x : Node). asks (world_by settings events) owner x.host) one in
              let less = fell.2 in
              omega (arith, now, then, same, was, less)
        ]

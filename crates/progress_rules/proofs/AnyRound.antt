-- A round in any order, where all pieces are settled and no letter is to come: then no find is outstanding, and each silo has at each owner
-- fewer registrations and deregistrations outstanding, or none.
use Rattle.std.proofs.Common.{arith, ◌≡◌, ◌≢◌, refl, sym, ap, subst, ◌∙◌, ℕ, zero, suc, ◌+◌, ◌≤◌, List, [], inl, inr, ◌⊎◌}
use Rattle.std.specs.Prelude.{true, false, Some, None, Result, Ok, Err}
use Rattle.std.proofs.lemmas.List.Elements.{All-nil}
use Rattle.silo_address.specs.Silo.{Silo, silo_eq}
use Rattle.silo_address.proofs.Same.{Decides-silo}
use Rattle.directory_rules.specs.declared.act.Act.{Act}
use Rattle.directory_rules.specs.Answer.{is_numbered}
use Rattle.directory_rules.specs.Host as host
use Rattle.directory_rules.specs.State.{Letter, Node, World, Accepted}
use Rattle.directory_rules.specs.Laws.{requests_of, AreNumbered}
use Rattle.directory_rules.specs.Event.{Deliver, Do}
use Rattle.directory_rules.specs.Step.{Stepped}
use Rattle.directory_rules.specs.Input.{Does}
use Rattle.directory_rules.specs.Happens.{happens, node_of, least_deliverable}
use Rattle.directory_rules.specs.declared.own_step.OwnStep.TheVariants.{Nudge}
use Rattle.directory_rules.proofs.Cases.{on_bool}
use Rattle.progress_rules.specs.Plan.{and_then}
use Rattle.progress_rules.specs.Plan as plan
use Rattle.progress_rules.specs.ComeBack.{AreSettled}
use Rattle.progress_rules.specs.Owed.{Owes}
use Rattle.progress_rules.specs.Second.{Flies, HasServed, owner_in}
use Rattle.progress_rules.specs.AnyOrder.{settled_in, round_in}
use Rattle.progress_rules.proofs.Waits.{is_one}
use Rattle.progress_rules.proofs.Fewer.{fewer, one_passes}
use Rattle.progress_rules.proofs.AtOwners.{is_for, asks, for_owner, owner_of, renewed_asks}
use Rattle.progress_rules.proofs.Flights.{stepped_world, its_node, other_node, delivered, IsStep, nudged}
use Rattle.progress_rules.proofs.Rounds.{nudge_is}
use Rattle.progress_rules.proofs.Resting.{IsResting, IsEnded, nudging_keeps}
use Rattle.progress_rules.proofs.Answering.{IsAnswering, in_any_order, node_facts}
use Rattle.progress_rules.proofs.SecondRound.{comes_on}
use Rattle.progress_rules.proofs.AllNudged.{none_fly, nodes_silos, all_nudged}
use Rattle.progress_rules.proofs.InOrder.{settled_in_keeps}

-- each act has the owner that it has in another world
abbrev pub HasOwnersOf : World → World → Type 0
HasOwnersOf base world = (act : Act) → owner_in world act ≡ owner_in base act

-- all pieces are settled, and no letter is to come
pub record IsStill (base world : World) : Type 0 where
  pub rests : IsResting world
  pub settled : AreSettled world
  pub none : least_deliverable world ≡ None
  pub owners : HasOwnersOf base world

-- ---- the nudges leave each silo as many requests at each owner
record IsFrom (base before world : World) : Type 0 where
  pub owners : HasOwnersOf base world
  pub asks_as : (silo : Silo) (node : Node) → node_of world silo ≡ Some node
      → (own : Node) × (node_of before silo ≡ Some own) × ((owner : Silo) → asks base owner node.host ≡ asks base owner own.host)

nudge_from : (base before world : World) (silo : Silo) (accepted : Accepted) → IsFrom base before world
    → happens world (Do silo Nudge) ≡ Ok accepted
    → IsFrom base before accepted.world
nudge_from base before world silo accepted from ok =
    subst (IsFrom base before) (sym s.is) (record { owners = from.owners; asks_as = as_before })
  where
    s : IsStep world accepted.world silo (Does Nudge)
    s = nudged world silo accepted ok

    As : Node → Silo → Type 0
    As node other =
        (own : Node) × (node_of before other ≡ Some own) × ((owner : Silo) → asks base owner node.host ≡ asks base owner own.host)

    as_before : (other : Silo) (node : Node) → node_of (stepped_world world silo s.stepped) other ≡ Some node → As node other
    as_before other node there =
        on_bool (λ b. silo_eq other silo ≡ b → As node other) (silo_eq other silo)
        (λ t same.
        let one = is_one other silo same in
        let mine : node_of (stepped_world world silo s.stepped) silo ≡ Some node = subst (λ q. node_of (stepped_world world silo s.stepped) q ≡ Some node) one there in
        let put = its_node world silo s.stepped in
        let node_is : s.stepped.node ≡ node = cc (mine, put) in
        let was = from.asks_as silo s.node s.its in
        let host_is : node.host ≡ host.renewed s.node.host = ap (λ (x : Node). x.host) (sym node_is) ∙ ap (λ (t : Stepped). t.node.host) (nudge_is s.node s.stepped s.made) in
        (was.0, ap (node_of before) one ∙ was.1, λ owner. ap (asks base owner) host_is ∙ renewed_asks base owner s.node.host ∙ was.2 owner))
        (λ f differ. from.asks_as other node (sym (other_node world silo s.stepped other
        (λ same. let it = (Decides-silo other silo).1 same in cc (it, differ))) ∙ there)) refl

-- ---- the round
-- what is outstanding then are no finds, and at its owner fewer requests than before
abbrev pub Falls : (base world after : World) → Type 0
Falls base world after =
    (silo : Silo) (node : Node) → node_of after silo ≡ Some node → (e : ℕ × Act) → Owes node.host e → (owner : Silo)
    → owner_in base e.1 ≡ Some owner
    → (is_numbered e.1 ≡ true) × ((own : Node) × (node_of world silo ≡ Some own) ×
    (asks base owner node.host + 1 ≤ asks base owner own.host))

-- so there are none, or fewer
pub falls_or_none : (base world after : World) → Falls base world after → (silo : Silo) (node : Node) → node_of after silo ≡ Some node
    → (owner : Silo)
    → (asks base owner node.host ≡ 0) ⊎ ((own : Node) × (node_of world silo ≡ Some own) ×
    (asks base owner node.host + 1 ≤ asks base owner own.host))
falls_or_none base world after falls silo node there owner = by (asks base owner node.host) refl
  where
    by : (n : ℕ) → asks base owner node.host ≡ n
        → (asks base owner node.host ≡ 0) ⊎ ((own : Node) × (node_of world silo ≡ Some own) ×
        (asks base owner node.host + 1 ≤ asks base owner own.host))
    by zero is = inl is
    by (suc n) is =
        let some = one_passes (λ (x : ℕ × Act). is_for base owner x.1) (requests_of node.host) (omega (arith, is)) in
        inr (falls silo node there some.0 some.1 owner (owner_of base owner some.0.1 some.2)).1

-- letters come, from when all are nudged
record IsComingIn (base start world : World) : Type 0 where
  pub answering : IsAnswering false start [] world
  pub owners : HasOwnersOf base world

comes_in : (base start world : World) (number : ℕ) (letter : Letter) (accepted : Accepted) → IsComingIn base start world
    → Flies world number letter
    → happens world (Deliver number) ≡ Ok accepted → IsComingIn base start accepted.world
comes_in base start world number letter accepted i flies ok =
    let d = delivered world number accepted ok in
    record {
      answering = comes_on false start world number letter accepted i.answering flies (λ so. absurd (cc (so))) ok;
      owners = λ act. ap (λ w. owner_in w act) d.is ∙ i.owners act;
    }

module _ (base world next after : World) (from : IsFrom base world next) (e : IsEnded (IsComingIn base next) after) where
  numbered : (silo : Silo) (node : Node) → node_of after silo ≡ Some node → AreNumbered node.host
  numbered silo node there = (node_facts after e.kept.answering.rests silo node there).numbered

  -- one that was served is outstanding no more, so they are fewer
  fewer_now : (silo : Silo) (node : Node) → node_of after silo ≡ Some node → (owner : Silo) → HasServed next after silo owner
      → (own : Node) × (node_of world silo ≡ Some own) × (asks base owner node.host + 1 ≤ asks base owner own.host)
  fewer_now silo node there owner served =
      let start = served.asked.0 in
      let was = from.asks_as silo start served.asked.1 in
      let less =
      fewer (λ (x : ℕ × Act). is_for base owner x.1) (requests_of node.host) (requests_of start.host) served.request
      (λ i j d lt below same. (numbered silo node there).distinct i j d lt below (ap (λ (x : ℕ × Act). x.0) same)) (λ y has. within y has)
      served.asked.2
      (for_owner base owner served.request.1 served.numbered (sym (e.kept.owners served.request.1) ∙ served.owns)) gone in
      let same = was.2 owner in
      (was.0, was.1, omega (arith, less, same))
    where
      within : (y : ℕ × Act) → Owes node.host y → Owes served.asked.0.host y
      within y has =
          let asked = e.kept.answering.kept silo node there y has in
          let one : asked.0 ≡ served.asked.0 = node_same (sym asked.1 ∙ served.asked.1) in
          subst (λ (x : Node). Owes x.host y) one asked.2
        where
          node_same : {x y : Node} → Some x ≡ Some y → x ≡ y
          node_same is = cc (is)

      gone : Owes node.host served.request → ⊥
      gone owes = elim served.ends [ inl ended ↦ ended node there owes | inr flight ↦ none_fly after flight.0 flight.1 e.none flight.2 ]

  falls_so : Falls base world after
  falls_so silo node there x owes owner owns =
      elim (e.kept.answering.owed silo node there (All-nil (λ (q : Silo × Node). q.0 ≢ silo)) x owes owner (e.kept.owners x.1 ∙ owns)) [
        | inl flight ↦ absurd (none_fly after flight.0 flight.1 e.none flight.2)
        | inr past ↦ (past.0, fewer_now silo node there owner past.1.1)
      ]

pub round_falls : (base : World) (order : List ℕ) (world after : World) → IsStill base world → round_in order world ≡ Ok after
    → IsStill base after × Falls base world after
round_falls base order world after still is = by (plan.nudged world) refl is
  where
    by : (r : Result World ℕ) → plan.nudged world ≡ r → and_then r (λ next. settled_in order next) ≡ Ok after
        → IsStill base after × Falls base world after
    by (Err number) made is = absurd (cc (is))
    by (Ok next) made is =
        let a = all_nudged world next still.rests still.settled still.none made in
        let from =
        nudging_keeps (λ es w. IsFrom base world w) (λ now e es accepted silo from ok. nudge_from base world now e.0 accepted from ok)
        world.nodes world next
        (nodes_silos world still.rests)
        (record { owners = still.owners; asks_as = λ silo node there. (node, there, λ owner. refl) }) made in
        let e = settled_in_keeps (IsComingIn base next) (comes_in base next) order next after (record { answering = in_any_order next [] next a; owners = from.owners }) is in (
          record { rests = e.kept.answering.rests; settled = e.kept.answering.settled; none = e.none; owners = e.kept.owners },
          falls_so base
              world next after from e,
        )

-- That goes on through a round: what silos report is of what they held at its start.
use Rattle.std.proofs.Common.{◌≡◌, refl, sym, ap, subst, ◌∙◌, ℕ, ◌≤◌, inl, inr}
use Rattle.std.specs.Prelude.{All, Some, Ok}
use Rattle.std.specs.Option.{option_map}
use Rattle.std.specs.Ordering.{nat_cmp}
use Rattle.std.specs.BTreeMap.{is_at}
use Rattle.silo_address.specs.Silo.{Silo}
use Rattle.silo_address.specs.Grain.{Grain}
use Rattle.ring_range.specs.Range.{Range}
use Rattle.hash_ring.specs.Hash.{hash_grain}
use Rattle.directory_rules.specs.Settings.{Settings}
use Rattle.directory_rules.specs.State.{Letter, Node, World, Accepted}
use Rattle.directory_rules.specs.Event.{Do}
use Rattle.directory_rules.specs.Happens.{happens, node_of}
use Rattle.directory_rules.specs.Input.{Does, Receives}
use Rattle.directory_rules.specs.Mail.{letter_of, with_delivered}
use Rattle.directory_rules.specs.Receive.{received}
use Rattle.directory_rules.specs.Sight.{is_settled}
use Rattle.directory_rules.specs.declared.own_step.OwnStep.TheVariants.{Nudge}
use Rattle.directory_facts.specs.Pieces.{HasPieces}
use Rattle.directory_facts.proofs.Entries.{found_so}
use Rattle.progress_rules.specs.ComeBack.{AreSettled}
use Rattle.progress_rules.specs.Plan.{IsSettledPiece}
use Rattle.progress_rules.proofs.Answering.{node_facts}
use Rattle.progress_rules.proofs.AreTold.{Base, base_of, AreTold, told_on}
use Rattle.progress_rules.proofs.Covered.{view_kept}
use Rattle.progress_rules.proofs.DeliveryFalls.{Flying}
use Rattle.progress_rules.proofs.FirmKept.{Registers}
use Rattle.progress_rules.proofs.Flights.{stepped_world, its_node, other_node, nudged}
use Rattle.progress_rules.proofs.Flying.{flew, flies_back}
use Rattle.progress_rules.proofs.Open.{IsOpen, IsUnserved, open_piece}
use Rattle.progress_rules.proofs.Resting.{IsResting}
use Rattle.progress_rules.proofs.ToldFirst.{sizes_above, told_first, never_registers}
use Rattle.progress_rules.proofs.Transfers.{pieces}

pub record Reporting (b : Base) (world : World) : Type 0 where
  pub same : world.settings ≡ b.settings
  pub told : AreTold b world.views.version (node_of world) (Flying world)

pub size_above : (b : Base) (world : World) → IsResting world → Reporting b world → 1 ≤ b.settings.report_size
size_above b world r rep = subst (λ (s : Settings). 1 ≤ s.report_size) rep.same (sizes_above world r)

-- at the start
pub first_reporting : (world : World) → IsResting world → Reporting (base_of world) world
first_reporting world r = record {
  same = refl;
  told = record {
    firm = (told_first world r).firm;
    reports = λ letter report flying due.
        (told_first world r).reports letter report (flying.0, ap (λ o. option_map (λ p. p.letter) o) flying.1.found) due;
  };
}

-- where all is settled nothing is due
settled_not_open : (node : Node) (range : Range) → All IsSettledPiece node.holding.pieces → IsOpen node range → ⊥
settled_not_open node range all waits =
    let its = open_piece node range waits in
    let settled = (found_so IsSettledPiece (is_at (nat_cmp range.start)) its.piece node.holding.pieces all its.found).2 in
    let is = ap is_settled settled in
    let not = its.unsettled in
    cc (is, not)

pub settled_reporting : (b : Base) (world : World) → world.settings ≡ b.settings → AreSettled world → Reporting b world
settled_reporting b world same all = record {
  same = same;
  told = record {
    firm = λ silo node there k d below firm u. absurd (settled_not_open u.node u.range (all u.owner u.node u.there) u.waits);
    reports = λ letter report flying due. absurd (settled_not_open due.own report.range (all letter.to due.own due.there) due.waits);
  };
}

module _ (b : Base) (world : World) (r : IsResting world) (rep : Reporting b world) where
  abbrev above : 1 ≤ b.settings.report_size
  above = size_above b world r rep

  -- a letter comes
  pub delivered_reporting : (number : ℕ) (letter : Letter) (node : Node) → letter_of world number ≡ Some letter
      → node_of world letter.to ≡ Some node
      → Reporting b (stepped_world (with_delivered world number letter) letter.to (received node letter))
  delivered_reporting number letter node found its =
      let base = with_delivered world number letter in
      let stepped = received node letter in
      let facts = node_facts world r letter.to node its in
      record {
        same = rep.same;
        told = told_on b above world.views.version (node_of world) (node_of (stepped_world base letter.to stepped)) (Flying world)
            (Flying (stepped_world base letter.to stepped)) letter.to node (Receives letter) stepped its (its_node base letter.to stepped)
            (λ other apart. other_node base letter.to stepped other apart)
            (λ l flying. elim (flew base letter.to node stepped its flying.0 l flying.1) [
              | inl was ↦ inl (flying.0, (flies_back world number letter flying.0 l found was).0)
              | inr new ↦ inr (new.index, new.below, new.is)
            ])
            refl (view_kept node (Receives letter) stepped refl)
            (subst (λ (s : Settings). HasPieces s.hashing node) rep.same (pieces world r letter.to node its)) (facts.own.settings_are ∙ rep.same)
            facts.own.host_is
            (subst (λ (s : Settings). (grain : Grain) → Registers node (Receives letter) grain
            → IsUnserved (node_of world) (hash_grain s.hashing grain) → ⊥) rep.same
            (never_registers world r letter.to node its (Receives letter) (λ other is.
            let one : letter ≡ other = cc (is) in
            (number, found ∙ ap Some one, ap (λ (l : Letter). l.to) (sym one)))))
            rep.told;
      }

  -- a silo is nudged
  pub nudged_reporting : (silo : Silo) (accepted : Accepted) → happens world (Do silo Nudge) ≡ Ok accepted → Reporting b accepted.world
  nudged_reporting silo accepted ok =
      let s = nudged world silo accepted ok in
      let facts = node_facts world r silo s.node s.its in
      subst (Reporting b) (sym s.is) (record {
        same = rep.same;
        told = told_on b above world.views.version (node_of world) (node_of (stepped_world world silo s.stepped)) (Flying world)
            (Flying (stepped_world world silo s.stepped)) silo s.node (Does Nudge) s.stepped s.its (its_node world silo s.stepped)
            (λ other apart. other_node world silo s.stepped other apart)
            (λ l flying. elim (flew world silo s.node s.stepped s.its flying.0 l flying.1) [
              | inl was ↦ inl (flying.0, was)
              | inr new ↦ inr (new.index, new.below, new.is)
            ])
            s.made (view_kept s.node (Does Nudge) s.stepped s.made)
            (subst (λ (x : Settings). HasPieces x.hashing s.node) rep.same (pieces world r silo s.node s.its))
            (facts.own.settings_are ∙ rep.same) facts.own.host_is
            (subst (λ (x : Settings). (grain : Grain) → Registers s.node (Does Nudge) grain
            → IsUnserved (node_of world) (hash_grain x.hashing grain) → ⊥) rep.same
            (never_registers world r silo s.node s.its (Does Nudge) (λ other is. absurd (cc (is)))))
            rep.told;
      })

-- What the steps of a silo's pieces and recoveries use of its node and of the protocol's world. Such a step keeps it, so that
-- another may follow.
use Rattle.std.proofs.Common.{◌≡◌, ℕ, ◌<◌, ◌≤◌, sym, ap, subst, ◌∙◌}
use Rattle.std.specs.Prelude.{true, Some}
use Rattle.silo_address.specs.Silo.{Silo}
use Rattle.membership_view.specs.View.{ViewValue, IsByAddress}
use Rattle.ring_range.specs.Range.{circle}
use Rattle.hash_ring.specs.Hash.{hash_grain}
use Rattle.range_moves.specs.Arcs.{owner_silo}
use Rattle.directory_protocol.specs.Setting.{Setting}
use Rattle.directory_protocol.specs.World as protocol
use Rattle.directory_rules.specs.Settings.{Settings}
use Rattle.directory_rules.specs.Sight.{is_owner}
use Rattle.directory_rules.specs.State.{Node, World}
use Rattle.directory_rules.proofs.Ranges.{ranges, holding_in, held_by_ranges}
use Rattle.directory_facts.proofs.Emptied.{LeavesElse}
use Rattle.directory_facts.proofs.OwnPieces.{holding, owner_silo_is}
use Rattle.directory_facts.proofs.Throughout.{some_counted}
use Rattle.directory_headline.specs.Setting.{is_member_in}
use Rattle.directory_headline.specs.SiloState.{state_of}
use Rattle.directory_headline.specs.Shown.{IsShownNode}
use Rattle.directory_headline.proofs.Settings.{view_by_address}
use Rattle.directory_headline.proofs.HighHashes.{held_once}
use Rattle.directory_headline.proofs.Frame.{Here, alive, node_facts, node_shown, host_is, hash_is, member_is, owner_is}

-- the silo is live and its node is shown; no hash is in two of its pieces, and the silo owns each that is in one
pub record Stands (m : Setting) (w : protocol.World) (silo : Silo) (node : Node) : Type 0 where
  pub shown : IsShownNode m w node (state_of w silo)
  pub hash : m.hash ≡ hash_grain node.settings.hashing
  pub lives : m.alive w.now silo ≡ true
  pub by_address : IsByAddress node.view
  pub members : (s : Silo) → m.member node.view.version s ≡ is_member_in node.view s
  pub in_one : (h : ℕ) → holding h node.holding.pieces ≤ 1
  pub owns : (h : ℕ) → h < circle → 1 ≤ holding h node.holding.pieces → m.owner node.view.version h ≡ Some silo

-- so a silo of the rule's world stands
pub stands : (m : Setting) (f : World) (w : protocol.World) (silo : Silo) (node : Node) → Here m f w silo node → Stands m w silo node
stands m f w silo node here =
    let facts = node_facts m f w silo node here in
    record {
      shown = node_shown m f w silo node here;
      hash = hash_is m f w silo node here;
      lives = alive m f w silo node here;
      by_address = subst IsByAddress (sym facts.sees.view_is) (view_by_address f.views node.view.version here.facts.peopled.whole);
      members = member_is m f w silo node here;
      in_one =
          held_once node.ring.points node.host.silo node.holding.pieces facts.once (λ k d below. (facts.pieces.each k d below).range);
      owns = λ h below some.
          owner_is m f w silo node here h
          ∙ owner_silo_is node.host.silo (owner_silo node.ring.points h)
          (some_counted (is_owner node.host.silo (owner_silo node.ring.points h)) _ (facts.once h below) some)
          ∙ ap Some (host_is m f w silo node here);
    }

-- and so it stands on with another node, of the same ranges, and which leaves all else but what is kept of them
pub stands_on :
    (m : Setting) (w later : protocol.World) (silo : Silo) (node next : Node) → Stands m w silo node → LeavesElse node next
    → ranges next.holding.pieces ≡ ranges node.holding.pieces → later.now ≡ w.now → IsShownNode m later next (state_of later silo)
    → Stands m later silo next
stands_on m w later silo node next was rest same now shown = record {
  shown = shown;
  hash = was.hash ∙ ap (λ (s : Settings). hash_grain s.hashing) (sym rest.settings);
  lives = ap (λ version. m.alive version silo) now ∙ was.lives;
  by_address = subst IsByAddress (sym rest.view) was.by_address;
  members =
      subst (λ (view : ViewValue). (s : Silo) → m.member view.version s ≡ is_member_in view s) (sym rest.view) was.members;
  in_one = λ h. subst (λ n. n ≤ 1) (sym (as_many h)) (was.in_one h);
  owns = λ h below some.
      ap (λ (view : ViewValue). m.owner view.version h) rest.view ∙ was.owns h below (subst (λ n. 1 ≤ n) (as_many h) some);
}
  where
    as_many : (h : ℕ) → holding h next.holding.pieces ≡ holding h node.holding.pieces
    as_many h = sym (held_by_ranges h next.holding.pieces) ∙ ap (holding_in h) same ∙ held_by_ranges h node.holding.pieces

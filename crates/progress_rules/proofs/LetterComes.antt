-- A letter comes that is still to come: what flies then flew before, or is sent now; and what an owner had served stays served.
use Rattle.std.proofs.Common.{◌≡◌, ◌≢◌, refl, sym, ap, subst, ◌∙◌, ℕ, ◌⊎◌, inl, inr}
use Rattle.std.specs.Prelude.{◌==◌, Some}
use Rattle.std.specs.Ordering.{nat_cmp}
use Rattle.std.specs.Map.{lookup}
use Rattle.std.specs.BTreeMap.{is_at}
use Rattle.std.proofs.lemmas.Bool.{eqb-true, eqb-false}
use Rattle.silo_address.specs.Silo.{Silo, silo_eq}
use Rattle.silo_address.proofs.Same.{Decides-silo}
use Rattle.directory_rules.specs.declared.act.Act.{Act}
use Rattle.directory_rules.specs.State.{Letter, Node, World, Posted}
use Rattle.directory_rules.specs.Receive.{received}
use Rattle.directory_rules.specs.Mail.{letter_of, with_delivered, fresh_letter}
use Rattle.directory_rules.specs.Happens.{node_of}
use Rattle.directory_rules.proofs.Cases.{on_bool}
use Rattle.progress_rules.specs.Owed.{Owes}
use Rattle.progress_rules.specs.Second.{Flies, IsTellOf, HadAsked, HasServed}
use Rattle.progress_rules.proofs.Waits.{is_one}
use Rattle.progress_rules.proofs.Flights.{stepped_world, its_node, other_node}
use Rattle.progress_rules.proofs.Flying.{IsNew, flew, still_flies, flies_back, flies_past}

-- the world after that
abbrev pub world_after : World → ℕ → Letter → Node → World
world_after world number letter node = stepped_world (with_delivered world number letter) letter.to (received node letter)

pub record IsComing (world : World) (number : ℕ) (letter : Letter) (node : Node) : Type 1 where
  -- what flies after flew before, or is new
  pub flew_before : (k : ℕ) (l : Letter) → Flies (world_after world number letter node) k l
      → (Flies world k l × (k ≢ number)) ⊎ IsNew world.sent (received node letter).letters k l
  -- what flew is this letter, or still flies
  pub by_flight : (T : Type 0) (k : ℕ) (l : Letter) → Flies world k l → (l ≡ letter → T)
      → (Flies (world_after world number letter node) k l → T) → T
  -- at one of the nodes after
  pub at_node : (P : Node → Type 0) (silo : Silo) (own : Node) → node_of (world_after world number letter node) silo ≡ Some own
      → (silo ≡ letter.to → P (received node letter).node) → (silo ≢ letter.to → node_of world silo ≡ Some own → P own) → P own

module _ (world : World) (number : ℕ) (letter : Letter) (node : Node) (flies : Flies world number letter)
    (found : letter_of world number ≡ Some letter)
    (its : node_of world letter.to ≡ Some node) where
  abbrev base : World
  base = with_delivered world number letter

  abbrev after : World
  after = world_after world number letter node

  came_before : (k : ℕ) (l : Letter) → Flies after k l → (Flies world k l × (k ≢ number))
      ⊎ IsNew world.sent (received node letter).letters k l
  came_before k l f =
      elim (flew base letter.to node (received node letter) its k l f)
      [ inl was ↦ inl (flies_back world number letter k l found was) | inr new ↦ inr new ]

  -- the letter under the number is this one
  same_letter : (k : ℕ) (l : Letter) → Flies world k l → k ≡ number → l ≡ letter
  same_letter k l f same =
      let mine = flies.found in
      let its : lookup (is_at (nat_cmp number)) world.mail ≡ Some (fresh_letter l) = subst (λ n. lookup (is_at (nat_cmp n)) world.mail ≡ Some (fresh_letter l)) same f.found in
      let one : fresh_letter l ≡ fresh_letter letter = posted_same (sym its ∙ mine) in
      ap (λ (p : Posted). p.letter) one
    where
      posted_same : {x y : Posted} → Some x ≡ Some y → x ≡ y
      posted_same is = cc (is)

  this_or_still : (T : Type 0) (k : ℕ) (l : Letter) → Flies world k l → (l ≡ letter → T) → (Flies after k l → T) → T
  this_or_still T k l f mine other =
      on_bool (λ b. (k == number) ≡ b → T) (k == number) (λ t at. mine (same_letter k l f (eqb-true k number at)))
      (λ g at. other (still_flies base letter.to node (received node letter) its k l
      (flies_past world number letter k l (eqb-false k number at) f))) refl

  mine_or_other : (P : Node → Type 0) (silo : Silo) (own : Node) → node_of after silo ≡ Some own
      → (silo ≡ letter.to → P (received node letter).node)
      → (silo ≢ letter.to → node_of world silo ≡ Some own → P own) → P own
  mine_or_other P silo own there mine other =
      on_bool (λ b. silo_eq silo letter.to ≡ b → P own) (silo_eq silo letter.to)
      (λ t is.
      let same = is_one silo letter.to is in
      let at : node_of after letter.to ≡ Some own = subst (λ s. node_of after s ≡ Some own) same there in
      let put = its_node base letter.to (received node letter) in
      let one : (received node letter).node ≡ own = cc (at, put) in
      subst P one (mine same))
      (λ f is.
      let apart : silo ≢ letter.to = λ same. let it = (Decides-silo silo letter.to).1 same in cc (it, is) in
      other apart (sym (other_node base letter.to (received node letter) silo apart) ∙ there)) refl

  pub coming : IsComing world number letter node
  coming = record { flew_before = came_before; by_flight = this_or_still; at_node = mine_or_other }

-- ---- what was served stays served, where nothing new is asked for, and what the letter ends is outstanding no more
module _ (start world : World) (number : ℕ) (letter : Letter) (node : Node) (its : node_of world letter.to ≡ Some node)
    (c : IsComing world number letter node)
    (back : (e : ℕ × Act) → Owes (received node letter).node.host e → Owes node.host e) where
  pub kept_still : ((silo : Silo) (own : Node) → node_of world silo ≡ Some own → (e : ℕ × Act) → Owes own.host e → HadAsked start silo e)
      → (silo : Silo) (own : Node) → node_of (world_after world number letter node) silo ≡ Some own → (e : ℕ × Act) → Owes own.host e
      → HadAsked start silo e
  kept_still kept silo own there e =
      c.at_node (λ (x : Node). Owes x.host e → HadAsked start silo e) silo own there
      (λ same owes. subst (λ s. HadAsked start s e) (sym same) (kept letter.to node its e (back e owes)))
      (λ apart its_own. kept silo own its_own e)

  module _ (silo owner : Silo) (p : HasServed start world silo owner) where
    abbrev Gone : World → Type 0
    Gone w = (own : Node) → node_of w silo ≡ Some own → Owes own.host p.request → ⊥

    gone_still : Gone world → Gone (world_after world number letter node)
    gone_still gone own there =
        c.at_node (λ (x : Node). Owes x.host p.request → ⊥) silo own there
        (λ same owes. gone node (ap (λ s. node_of world s) same ∙ its) (back p.request owes)) (λ apart its_own. gone own its_own)

    pub served_still : (IsTellOf world.views.version silo p.request letter → Gone (world_after world number letter node))
        → HasServed start (world_after world number letter node) silo owner
    served_still told = record {
      request = p.request;
      asked = p.asked;
      numbered = p.numbered;
      owns = p.owns;
      ends = elim p.ends [
        | inl gone ↦ inl (gone_still gone)
        | inr flight ↦ c.by_flight (Gone (world_after world number letter node)
            ⊎ ((k : ℕ) × (l : Letter) × Flies (world_after world number letter node) k l × IsTellOf world.views.version silo p.request l))
            flight.0 flight.1 flight.2
            (λ one. inl (told (subst (λ (x : Letter). IsTellOf world.views.version silo p.request x) one flight.3)))
            (λ f. inr (flight.0, flight.1, f, flight.3))
      ];
    }

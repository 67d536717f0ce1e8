-- A reply comes, in whatever order: what it ends is outstanding no more, and each other request or its reply is still to come then.
use Rattle.std.proofs.Common.{arith, ◌≡◌, ◌≢◌, sym, ap, subst, ◌∙◌, ℕ, ◌<◌, List, [], ◌⊎◌, inl, inr, length}
use Rattle.std.specs.Prelude.{Bool, true, All, Some}
use Rattle.std.proofs.lemmas.List.Elements.{All-nil}
use Rattle.silo_address.specs.Silo.{Silo}
use Rattle.directory_rules.specs.declared.act.Act.{Act}
use Rattle.directory_rules.specs.declared.reply.Reply.{Reply}
use Rattle.directory_rules.specs.State.{Holding, Letter, Body, Reply_letter, Node, World}
use Rattle.directory_rules.specs.Answer.{last_served, is_numbered}
use Rattle.directory_rules.specs.Step.{Stepped}
use Rattle.directory_rules.specs.Reply.{replied}
use Rattle.directory_rules.specs.Receive.{received, received_body}
use Rattle.directory_rules.specs.Happens.{node_of}
use Rattle.progress_rules.specs.Plan.{IsSettledPiece}
use Rattle.progress_rules.specs.Requests.{Ends}
use Rattle.progress_rules.specs.Owed.{Owes, IsQuiet}
use Rattle.progress_rules.specs.Second.{Flies, IsAskOf, IsTellOf, owner_in}
use Rattle.progress_rules.proofs.Quiet.{replies_quiet}
use Rattle.progress_rules.proofs.Answered.{ended}
use Rattle.progress_rules.proofs.Resting.{IsResting}
use Rattle.progress_rules.proofs.Transfers.{seen}
use Rattle.progress_rules.proofs.LetterComes.{world_after, IsComing, kept_still, served_still}
use Rattle.progress_rules.proofs.Answering.{IsAnswering, IsPast, IsBrought, not_both, node_facts}

module _ (least : Bool) (start world : World) (number : ℕ) (letter : Letter) (node : Node) (a : IsAnswering least start [] world)
    (its : node_of world letter.to ≡ Some node)
    (c : IsComing world number letter node)
    (n : ℕ) (answer : Reply) (body : letter.body ≡ Reply_letter n answer) (rests : IsResting (world_after world number letter node)) where
  abbrev after : World
  after = world_after world number letter node

  -- an outstanding request or its reply is on its way, or its owner is past it
  abbrev Owed : Silo → ℕ × Act → Silo → Type 0
  Owed silo e owner = IsBrought after silo e owner ⊎ ((is_numbered e.1 ≡ true) × IsPast least start after silo owner)

  its_seen : node.view.version ≡ world.views.version
  its_seen = seen world a.rests letter.to node its

  is : received node letter ≡ replied node letter.version n answer
  is = ap (λ (b : Body). received_body b node letter) body

  quiet : IsQuiet node (received node letter)
  quiet = subst (IsQuiet node) (sym is) (replies_quiet node letter.version n answer)

  was : (k : ℕ) (l : Letter) → Flies after k l → Flies world k l
  was k l f =
      elim (c.flew_before k l f) [
        | inl before ↦ before.0
        | inr new ↦ let none = ap (λ (ls : List Letter). length ls) quiet.letters in let below = new.below in
            absurd (omega (arith, none, below))
      ]

  no_request : (e : ℕ × Act) (silo owner : Silo) → IsAskOf world.settings.hashing silo e owner letter → ⊥
  no_request e silo owner asks = not_both n answer asks.request letter.body body asks.body

  -- what the letter ends is outstanding no more
  ends_it : (e : ℕ × Act) → IsTellOf world.views.version letter.to e letter → Owes (received node letter).node.host e → ⊥
  ends_it e tells left =
      let facts = node_facts world a.rests letter.to node its in
      let bodies : Reply_letter e.0 tells.answer ≡ Reply_letter n answer = sym tells.body ∙ body in
      let numbers : e.0 ≡ n = cc (bodies) in
      let answers : tells.answer ≡ answer = cc (bodies) in
      let version : letter.version ≡ node.view.version = tells.version_is ∙ sym its_seen in
      let then : Owes (replied node letter.version n answer).node.host (n, e.1) = subst (λ (s : Stepped). Owes s.node.host (n, e.1)) is
      (subst (λ m. Owes (received node letter).node.host (m, e.1)) numbers left) in
      ended node facts.own.once letter.version version n facts.numbered e.1 answer (subst (λ x. Ends e.1 x) answers tells.ends)
      (subst (λ m. Owes node.host (m, e.1)) numbers (quiet.owes e left)) e.1 then

  told_past : (silo : Silo) (e : ℕ × Act) → IsTellOf world.views.version silo e letter → (own : Node) → node_of after silo ≡ Some own
      → Owes own.host e → ⊥
  told_past silo e tells own there =
      c.at_node (λ (x : Node). Owes x.host e → ⊥) silo own there
      (λ same. ends_it e (subst (λ s. IsTellOf world.views.version s e letter) same tells))
      (λ apart its_own. absurd (apart (sym tells.to)))

  past_still : (silo owner : Silo) → IsPast least start world silo owner → IsPast least start after silo owner
  past_still silo owner past = (
    past.0,
    served_still start world number letter node its c quiet.owes silo owner past.1
        (λ tells. told_past silo past.1.request tells),
  )

  owed_from : (silo : Silo) (own : Node) → node_of world silo ≡ Some own → (e : ℕ × Act) → Owes own.host e → (owner : Silo)
      → owner_in world e.1 ≡ Some owner
      → (IsTellOf world.views.version silo e letter → ⊥) → Owed silo e owner
  owed_from silo own there e owes owner owns not =
      elim (a.owed silo own there (All-nil (λ (x : Silo × Node). x.0 ≢ silo)) e owes owner owns) [
        | inl flight ↦ c.by_flight (Owed silo e owner) flight.0 flight.1 flight.2
            (λ one. absurd (elim flight.3 [
              | inl asks ↦ no_request e silo owner (subst (λ (x : Letter). IsAskOf world.settings.hashing silo e owner x) one asks)
              | inr tells ↦ not (subst (λ (x : Letter). IsTellOf world.views.version silo e x) one tells)
            ]))
            (λ f. inl (flight.0, flight.1, f, flight.3))
        | inr past ↦ inr (past.0, past_still silo owner past.1)
      ]

  pub after_reply : IsAnswering least start [] after
  after_reply = record {
    rests = rests;
    settled = λ silo own there.
        c.at_node (λ (x : Node). All IsSettledPiece x.holding.pieces) silo own there
        (λ same. subst (λ (h : Holding). All IsSettledPiece h.pieces) (sym quiet.holding) (a.settled letter.to node its))
        (λ apart its_own. a.settled silo own its_own);
    plain = λ k l f. a.plain k l (was k l f);
    from = λ k l r f its_body. All-nil (λ (x : Silo × Node). x.0 ≢ l.from);
    asked = λ k l r f its_body. a.asked k l r (was k l f) its_body;
    kept = kept_still start world number letter node its c quiet.owes a.kept;
    above = λ k l r own f its_body counts there.
        c.at_node (λ (x : Node). (last_served l.from x.holding.served < r.number) ⊎ IsPast least start after l.from l.to) l.to own there
        (λ same. subst (λ (h : Holding). (last_served l.from h.served < r.number) ⊎ IsPast least start after l.from l.to)
        (sym quiet.holding)
        (elim (a.above k l r node (was k l f) its_body counts (ap (λ s. node_of world s) same ∙ its))
        [ inl less ↦ inl less | inr past ↦ inr (past_still l.from l.to past) ]))
        (λ apart its_own. elim (a.above k l r own (was k l f) its_body counts its_own)
        [ inl less ↦ inl less | inr past ↦ inr (past_still l.from l.to past) ]);
    ordered =
        λ so k j l i r q f g one other counts too same where_to less. a.ordered so k j l i r q (was k l f) (was j i g) one other counts too
        same where_to less;
    owed = λ silo own there apart e owes owner owns.
        c.at_node (λ (x : Node). Owes x.host e → Owed silo e owner) silo own there
        (λ same its_owes. subst (λ s. Owed s e owner) (sym same)
        (owed_from letter.to node its e (quiet.owes e its_owes) owner owns (λ tells. ends_it e tells its_owes)))
        (λ differ its_own its_owes. owed_from silo own its_own e its_owes owner owns (λ tells. differ (sym tells.to))) owes;
  }

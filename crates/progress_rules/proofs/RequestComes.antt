-- A request comes: it is served, and its reply ends it, where it is above what its owner served to its sender; so it is least first, and in any
-- order where this is the first of the sender's that comes.
use Rattle.std.proofs.Common.{arith, ◌≡◌, ◌≢◌, refl, sym, ap, subst, ◌∙◌, ℕ, ◌<◌, ◌≤◌, List, [], ◌∷◌, ◌⊎◌, inl, inr}
use Rattle.std.specs.Prelude.{Bool, true, false, cond, is_some, Contains, All, Option, Some, None}
use Rattle.std.proofs.lemmas.Bool.{eq-eqb}
use Rattle.std.proofs.lemmas.List.Elements.{All-nil, All-weaker}
use Rattle.silo_address.specs.Silo.{Silo}
use Rattle.silo_address.proofs.Same.{Decides-silo}
use Rattle.ring_range.specs.Range.{circle}
use Rattle.range_moves.specs.Arcs.{owner_silo}
use Rattle.directory_rules.specs.declared.act.Act.{Act}
use Rattle.directory_rules.specs.declared.act.Request.{Request}
use Rattle.directory_rules.specs.declared.effect.Effect.TheVariants as effect
use Rattle.directory_rules.specs.State.{Piece, Letter, Body, Request_letter, Reply_letter, Node, World}
use Rattle.directory_rules.specs.Sent.{letter_to}
use Rattle.directory_rules.specs.Host.{grain_of}
use Rattle.directory_rules.specs.Answer.{last_served, is_numbered, answered}
use Rattle.directory_rules.specs.Step.{Stepped, silently}
use Rattle.directory_rules.specs.Receive.{received, received_body, replying}
use Rattle.directory_rules.specs.World.{current_ring}
use Rattle.directory_rules.specs.Mail.{letter_of, with_delivered}
use Rattle.directory_rules.specs.Happens.{node_of}
use Rattle.directory_rules.proofs.Cases.{on_bool}
use Rattle.directory_facts.specs.Pieces.{IsPiece}
use Rattle.directory_facts.proofs.Answers.{answers_leave_others}
use Rattle.directory_facts.proofs.Hashes.{grains_have_hashes}
use Rattle.progress_rules.specs.Plan.{IsSettledPiece}
use Rattle.progress_rules.specs.Requests.{Ends}
use Rattle.progress_rules.specs.Owed.{Owes}
use Rattle.progress_rules.specs.Second.{Flies, IsAsk, IsAskOf, IsTellOf, HasServed, owner_in}
use Rattle.progress_rules.proofs.Two.{both_true}
use Rattle.progress_rules.proofs.Requests.{requests_are_served}
use Rattle.progress_rules.proofs.Answered.{only_one, served_so}
use Rattle.progress_rules.proofs.Flights.{lives, above_all}
use Rattle.progress_rules.proofs.Flying.{IsNew, new_flies}
use Rattle.progress_rules.proofs.Resting.{IsResting, rest_mail}
use Rattle.progress_rules.proofs.Transfers.{pieces, seen}
use Rattle.progress_rules.proofs.LetterComes.{world_after, IsComing, kept_still, served_still}
use Rattle.progress_rules.proofs.Answering.{IsAnswering, IsPast, IsBrought, not_both, request_same, outline_settled, node_facts, owns_piece}

module _ (least : Bool) (start world : World) (number : ℕ) (letter : Letter) (node : Node) (a : IsAnswering least start [] world)
    (flies : Flies world number letter)
    (found : letter_of world number ≡ Some letter) (its : node_of world letter.to ≡ Some node)
    (first : least ≡ true → (other : ℕ) (l : Letter) → Flies world other l → number ≤ other) (c : IsComing world number letter node)
    (r : Request) (body : letter.body ≡ Request_letter r) (ask : IsAsk world.views.version letter)
    (rests : IsResting (world_after world number letter node)) where
  abbrev base : World
  base = with_delivered world number letter

  abbrev after : World
  after = world_after world number letter node

  -- an outstanding request or its reply is on its way, or its owner is past it
  abbrev Owed : Silo → ℕ × Act → Silo → Type 0
  Owed silo e owner = IsBrought after silo e owner ⊎ ((is_numbered e.1 ≡ true) × IsPast least start after silo owner)

  its_seen : node.view.version ≡ world.views.version
  its_seen = seen world a.rests letter.to node its

  asks_this : ask.request ≡ r
  asks_this = request_same ask.request r letter.body ask.body body

  sender : r.sender ≡ letter.from
  sender = ap (λ (q : Request). q.sender) (sym asks_this) ∙ ask.sender

  of_version : r.version ≡ letter.version
  of_version = ap (λ (q : Request). q.version) (sym asks_this) ∙ ask.version_is

  answers : received node letter ≡ replying node r (answered node.holding r)
  answers =
      ap (λ (b : Body). received_body b node letter) body
      ∙ ap (λ b. cond b (replying node r (answered node.holding r)) (silently node effect.Ignored))
      (both_true _ _ ((Decides-silo r.sender letter.from).1 sender) (eq-eqb r.version letter.version of_version))

  same_host : (e : ℕ × Act) → Owes (received node letter).node.host e → Owes node.host e
  same_host e owes = subst (λ (s : Stepped). Owes s.node.host e) answers owes

  abbrev reply_letter : Letter
  reply_letter = letter_to r.sender node (Reply_letter r.number (answered node.holding r).reply)

  letters_are : (received node letter).letters ≡ reply_letter ∷ []
  letters_are = ap (λ (s : Stepped). s.letters) answers

  -- what is new is the reply
  new_is : (k : ℕ) (l : Letter) → IsNew world.sent (received node letter).letters k l → reply_letter ≡ l
  new_is k l new = only_one reply_letter l (subst (λ (ls : List Letter). Contains ls l) letters_are (new.index, new.below, new.is))

  was_request : (k : ℕ) (l : Letter) (q : Request) → Flies after k l → l.body ≡ Request_letter q → Flies world k l × (k ≢ number)
  was_request k l q f its_body =
      elim (c.flew_before k l f) [
        | inl before ↦ before
        | inr new ↦ absurd (not_both r.number (answered node.holding r).reply q l.body (ap (λ (x : Letter). x.body) (sym (new_is k l new)))
            its_body)
      ]

  settled_still : All IsSettledPiece (received node letter).node.holding.pieces
  settled_still =
      let has = (pieces world a.rests letter.to node its).pieces in
      let under = All-weaker (λ (x : ℕ × Piece). IsPiece world.settings.hashing x.0 x.1) (λ (x : ℕ × Piece). x.0 ≡ x.1.range.start)
      (λ x piece. piece.under) node.holding.pieces has.each in
      let leaves = answers_leave_others node.holding r under has.rising in
      subst (λ (s : Stepped). All IsSettledPiece s.node.holding.pieces) (sym answers)
      (outline_settled node.holding.pieces (answered node.holding r).holding.pieces leaves.outline (a.settled letter.to node its))

  -- what was served stays served
  no_reply : (e : ℕ × Act) (silo : Silo) → IsTellOf world.views.version silo e letter → ⊥
  no_reply e silo tells = not_both e.0 tells.answer r letter.body tells.body body

  past_still : (silo owner : Silo) → IsPast least start world silo owner → IsPast least start after silo owner
  past_still silo owner past = (
    past.0,
    served_still start world number letter node its c same_host silo owner past.1
        (λ tells. absurd (no_reply past.1.request silo tells)),
  )

  -- past it of the letter's sender, past it of another that is the same
  past_at : (silo owner : Silo) → letter.from ≡ silo → letter.to ≡ owner → IsPast least start after letter.from letter.to
      → IsPast least start after silo owner
  past_at silo owner from to past =
      subst (λ s. IsPast least start after s owner) from (subst (λ o. IsPast least start after letter.from o) to past)

  -- the reply ends the request, where that is above what was served
  ends_now : (is_numbered r.act ≡ true → last_served letter.from node.holding.served < r.number)
      → Ends r.act (answered node.holding r).reply
  ends_now above =
      let so = a.asked number letter r flies body in
      let mine : owner_silo (current_ring world) r.hash ≡ Some letter.to = ap (λ h. owner_silo (current_ring world) h) so.1 ∙ so.2 in
      let piece = owns_piece world a.rests letter.to node its r.hash (subst (λ h. h < circle) (sym so.1) (grains_have_hashes world.settings.hashing (grain_of r.act)))
      (a.settled letter.to node its) mine in
      let version : r.version ≡ node.holding.seen = of_version ∙ ask.of_version ∙ sym its_seen ∙ sym (node_facts world a.rests letter.to node its).of_one_version.holding in
      requests_are_served node.holding r piece.0 version piece.1 piece.2
      (λ counts. subst (λ s. last_served s node.holding.served < r.number) (sym sender) (above counts))

  reply_flies : is_some (node_of after r.sender) ≡ true → (k : ℕ) × Flies after k reply_letter
  reply_flies live =
      new_flies base letter.to node (received node letter) its (above_all world number letter (rest_mail world a.rests).rising found)
      reply_letter
      (subst (λ (ls : List Letter). Contains ls reply_letter) (sym letters_are) (0, omega arith, refl)) live

  -- the letter was the request of what is owed
  replies_now : (e : ℕ × Act) (silo owner : Silo) → is_some (node_of world silo) ≡ true → IsAskOf world.settings.hashing silo e owner letter
      → (is_numbered r.act ≡ true → last_served letter.from node.holding.served < r.number) → IsBrought after silo e owner
  replies_now e silo owner there asks above =
      let one : asks.request ≡ r = request_same asks.request r letter.body asks.body body in
      let the_act : r.act ≡ e.1 = ap (λ (q : Request). q.act) (sym one) ∙ asks.act in
      let to : r.sender ≡ silo = sender ∙ asks.from in
      let flight = reply_flies (lives base letter.to (received node letter) r.sender (ap (λ s. is_some (node_of world s)) to ∙ there)) in (
        flight.0,
        reply_letter,
        flight.1,
        inr (record {
          to = to;
          version_is = its_seen;
          answer = (answered node.holding r).reply;
          body = ap (λ n. Reply_letter n (answered node.holding r).reply) (ap (λ (q : Request). q.number) (sym one) ∙ asks.number);
          ends = subst (λ act. Ends act (answered node.holding r).reply) the_act (ends_now above);
        }),
      )

  -- and one of its sender's has been served
  served_now : is_numbered r.act ≡ true → last_served letter.from node.holding.served < r.number
      → HasServed start after letter.from letter.to
  served_now counts above =
      let so = a.asked number letter r flies body in
      record { request = (r.number, r.act); asked = so.0; numbered = counts; owns = so.2; ends = by (node_of after letter.from) refl }
    where
      by : (o : Option Node) → node_of after letter.from ≡ o
          → ((own : Node) → node_of after letter.from ≡ Some own → Owes own.host (r.number, r.act) → ⊥) ⊎
          ((k : ℕ) × (l : Letter) × Flies after k l × IsTellOf world.views.version letter.from (r.number, r.act) l)
      by None none = inl (λ own there owes. cc (none, there))
      by (Some own) some =
          let flight = reply_flies (ap (λ s. is_some (node_of after s)) sender ∙ ap (λ (o : Option Node). is_some o) some) in
          inr (
            flight.0,
            reply_letter,
            flight.1,
            record {
              to = sender;
              version_is = its_seen;
              answer = (answered node.holding r).reply;
              body = refl;
              ends = ends_now (λ counts. above);
            },
          )

  -- a request that is still to come at this owner is above what was served, or that is past it
  above_still : (k : ℕ) (l : Letter) (q : Request) → Flies world k l → k ≢ number → l.to ≡ letter.to → l.body ≡ Request_letter q
      → is_numbered q.act ≡ true
      → (last_served l.from (answered node.holding r).holding.served < q.number) ⊎ IsPast least start after l.from l.to
  above_still k l q f apart same its_body counts =
      elim (a.above k l q node f its_body counts (ap (λ s. node_of world s) same ∙ its)) [
        | inl old ↦ elim (served_so node.holding r l.from) [
          | inl as_was ↦ inl (omega (arith, as_was, old))
          | inr mine ↦ on_bool (λ b. least ≡ b → (last_served l.from (answered node.holding r).holding.served < q.number)
              ⊎ IsPast least start after l.from l.to) least
              (λ t so. inl (in_order so mine)) (λ g not. inr (passes not mine)) refl
        ]
        | inr past ↦ inr (past_still l.from l.to past)
      ]
    where
      Mine : Type 0
      Mine = (l.from ≡ r.sender) × (is_numbered r.act ≡ true) × (last_served l.from (answered node.holding r).holding.served ≡ r.number)

      in_order : least ≡ true → Mine → last_served l.from (answered node.holding r).holding.served < q.number
      in_order so mine =
          let lowest = first so k l f in
          let order = a.ordered so number k letter l r q flies f body its_body mine.1 counts (sym sender ∙ sym mine.0) (sym same) (omega (arith, lowest, apart)) in
          let now = mine.2 in
          omega (arith, order, now)

      passes : least ≡ false → Mine → IsPast least start after l.from l.to
      passes not mine =
          past_at l.from l.to (sym sender ∙ sym mine.0) (sym same)
          (elim (a.above number letter r node flies body mine.1 its)
          [ inl less ↦ (not, served_now mine.1 less) | inr past ↦ past_still letter.from letter.to past ])

  answers_ask : (e : ℕ × Act) (silo owner : Silo) → is_some (node_of world silo) ≡ true → IsAskOf world.settings.hashing silo e owner letter
      → Owed silo e owner
  answers_ask e silo owner there asks =
      on_bool (λ b. is_numbered r.act ≡ b → Owed silo e owner) (is_numbered r.act)
      (λ t counts. elim (a.above number letter r node flies body counts its) [
        | inl less ↦ inl (replies_now e silo owner there asks (λ counts. less))
        | inr past ↦ inr (
          subst (λ act. is_numbered act ≡ true)
              (ap (λ (q : Request). q.act) (request_same r asks.request letter.body body asks.body) ∙ asks.act) counts,
          past_at silo owner asks.from asks.to (past_still letter.from letter.to past),
        )
      ])
      (λ f not. inl (replies_now e silo owner there asks (λ counts. absurd (cc (counts, not))))) refl

  still_owed : (silo : Silo) (own : Node) → node_of world silo ≡ Some own → (e : ℕ × Act) → Owes own.host e → (owner : Silo)
      → owner_in world e.1 ≡ Some owner → Owed silo e owner
  still_owed silo own there e owes owner owns =
      elim (a.owed silo own there (All-nil (λ (x : Silo × Node). x.0 ≢ silo)) e owes owner owns) [
        | inl flight ↦ c.by_flight (Owed silo e owner) flight.0 flight.1 flight.2
            (λ one. elim flight.3 [
              | inl asks ↦ answers_ask e silo owner (ap (λ (o : Option Node). is_some o) there)
                  (subst (λ (x : Letter). IsAskOf world.settings.hashing silo e owner x) one asks)
              | inr tells ↦ absurd (no_reply e silo (subst (λ (x : Letter). IsTellOf world.views.version silo e x) one tells))
            ])
            (λ f. inl (flight.0, flight.1, f, flight.3))
        | inr past ↦ inr (past.0, past_still silo owner past.1)
      ]

  pub after_request : IsAnswering least start [] after
  after_request = record {
    rests = rests;
    settled = λ silo own there. c.at_node (λ (x : Node). All IsSettledPiece x.holding.pieces) silo own there (λ same. settled_still)
        (λ apart its_own. a.settled silo own its_own);
    plain = λ k l f. elim (c.flew_before k l f) [
      | inl before ↦ a.plain k l before.0
      | inr new ↦ inr
          (record {
            number = r.number;
            answer = (answered node.holding r).reply;
            body = ap (λ (x : Letter). x.body) (sym (new_is k l new));
          })
    ];
    from = λ k l q f its_body. All-nil (λ (x : Silo × Node). x.0 ≢ l.from);
    asked = λ k l q f its_body. a.asked k l q (was_request k l q f its_body).0 its_body;
    kept = kept_still start world number letter node its c same_host a.kept;
    above = λ k l q own f its_body counts there.
        let before = was_request k l q f its_body in
        c.at_node (λ (x : Node). (last_served l.from x.holding.served < q.number) ⊎ IsPast least start after l.from l.to) l.to own there
        (λ same. subst (λ (s : Stepped). (last_served l.from s.node.holding.served < q.number) ⊎ IsPast least start after l.from l.to)
        (sym answers)
        (above_still k l q before.0 before.1 same its_body counts))
        (λ apart its_own. elim (a.above k l q own before.0 its_body counts its_own)
        [ inl less ↦ inl less | inr past ↦ inr (past_still l.from l.to past) ]);
    ordered = λ so k j l i q p f g one other counts too same where_to less. a.ordered so k j l i q p (was_request k l q f one).0
        (was_request j i p g other).0 one other counts too same where_to less;
    owed = λ silo own there apart e owes owner owns.
        c.at_node (λ (x : Node). Owes x.host e → Owed silo e owner) silo own there
        (λ same its_owes. subst (λ s. Owed s e owner) (sym same) (still_owed letter.to node its e (same_host e its_owes) owner owns))
        (λ differ its_own its_owes. still_owed silo own its_own e its_owes owner owns) owes;
  }

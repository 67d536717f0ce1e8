-- One silo more is nudged, where all pieces are settled: each request that it has outstanding is on its way to its owner then.
use Rattle.std.proofs.Common.{arith, ◌≡◌, ◌≢◌, refl, sym, ap, subst, ◌∙◌, ℕ, zero, suc, ◌<◌, List, [], ◌∷◌, ◌⊎◌, inl, inr, length}
use Rattle.std.specs.Prelude.{true, is_some, Contains, All, AllPairs, Option, Some, Ok}
use Rattle.std.specs.List.{slice_index_or}
use Rattle.std.proofs.lemmas.List.Elements.{All-cons, All-head, All-tail}
use Rattle.silo_address.specs.Silo.{Silo, IsSilo, silo_eq}
use Rattle.silo_address.proofs.Same.{Decides-silo}
use Rattle.membership_view.specs.View.{ViewValue}
use Rattle.membership_view.specs.declared.status.Status.{Status}
use Rattle.hash_ring.specs.Hash.{hash_grain}
use Rattle.range_moves.specs.Arcs.{owner_silo}
use Rattle.directory_rules.specs.declared.act.Act.{Act}
use Rattle.directory_rules.specs.declared.act.Request.{Request}
use Rattle.directory_rules.specs.Host as host
use Rattle.directory_rules.specs.State.{Letter, Request_letter, Node, World, Accepted}
use Rattle.directory_rules.specs.Host.{outstanding, grain_of}
use Rattle.directory_rules.specs.Answer.{last_served, is_numbered}
use Rattle.directory_rules.specs.Event.{Do}
use Rattle.directory_rules.specs.Sent.{letter_to, hash_of, request_of, owner_by, all_requests}
use Rattle.directory_rules.specs.Step.{Stepped, having_nudged}
use Rattle.directory_rules.specs.Input.{Does}
use Rattle.directory_rules.specs.World.{current_ring}
use Rattle.directory_rules.specs.Happens.{happens, node_of}
use Rattle.directory_rules.specs.Laws.{is_live, AreNumbered}
use Rattle.directory_rules.specs.declared.own_step.OwnStep.TheVariants.{Nudge}
use Rattle.directory_rules.proofs.Cases.{on_bool}
use Rattle.directory_rules.proofs.People.{live_said}
use Rattle.directory_facts.proofs.Carried.{Everywhere}
use Rattle.directory_facts.proofs.Reached.{everywhere, found_node}
use Rattle.directory_headline.proofs.Settings.{owner_active}
use Rattle.progress_rules.specs.Plan.{IsSettledPiece}
use Rattle.progress_rules.specs.Covered.{AllSeen}
use Rattle.progress_rules.specs.Owed.{Owes}
use Rattle.progress_rules.specs.Second.{Flies, HadAsked, owner_in}
use Rattle.progress_rules.proofs.Waits.{is_one}
use Rattle.progress_rules.proofs.Covered.{view_kept, still_seen}
use Rattle.progress_rules.proofs.Rounds.{nudge_is}
use Rattle.progress_rules.proofs.Flights.{stepped_world, its_node, other_node, lives, none_above, IsStep, nudged}
use Rattle.progress_rules.proofs.Flying.{IsNew, flew, still_flies, new_flies}
use Rattle.progress_rules.proofs.FindsSorted.{sorted_facts, sorted_keep, InNumbers, outstanding_sorted, outstanding_has}
use Rattle.progress_rules.proofs.NudgedAgain.{sends_requests, IsRenewed, renewed_from, IsOut, IsLower, all_out, in_order, goes_out}
use Rattle.progress_rules.proofs.Resting.{IsResting, rest_mail, rest_carried, rests_on}
use Rattle.progress_rules.proofs.Answering.{IsAnswering, request_same, IsBrought, not_past, not_owed_past, node_facts, owner_seen, hash_seen}
use Rattle.progress_rules.proofs.SecondRound.{served_below}

-- silos that are still to be nudged are apart
abbrev pub Apart : List (Silo × Node) → Type 0
Apart those = AllPairs (λ e later. e.0 ≢ later.0) those

pub record IsNudgingOn (those : List (Silo × Node)) (world : World) : Type 0 where
  pub answering : IsAnswering true world those world
  pub apart : Apart those

same_at : (b : ℕ) (ls : List Letter) (l i : Letter) → b < length ls → slice_index_or ls b l ≡ slice_index_or ls b i
same_at b [] l i below = absurd (omega (arith, below))
same_at zero (x ∷ xs) l i below = refl
same_at (suc b) (x ∷ xs) l i below = same_at b xs l i (omega (arith, below))

module _ (world : World) (silo : Silo) (nd : Node) (those : List (Silo × Node)) (accepted : Accepted)
    (n : IsAnswering true world ((silo, nd) ∷ those) world)
    (apart : Apart ((silo, nd) ∷ those)) (rests : IsResting accepted.world) (s : IsStep world accepted.world silo (Does Nudge))
    (sorted : InNumbers (host.renewed s.node.host)) where
  abbrev node : Node
  node = record s.node { host = host.renewed s.node.host }

  abbrev after : World
  after = stepped_world world silo s.stepped

  did : s.stepped ≡ having_nudged node
  did = nudge_is s.node s.stepped s.made

  rests_after : IsResting after
  rests_after = subst IsResting s.is rests

  node_is : s.stepped.node ≡ node
  node_is = ap (λ (t : Stepped). t.node) did

  letters_are : s.stepped.letters ≡ all_requests node
  letters_are = ap (λ (t : Stepped). t.letters) did ∙ sends_requests node (n.settled silo s.node s.its)

  abbrev Out : Letter → Type 0
  Out l = IsOut node (IsRenewed s.node.host) l

  outs : All (λ l. Out l) s.stepped.letters
  outs =
      subst (λ (ls : List Letter). All (λ l. Out l) ls) (sym letters_are)
      (all_out node (IsRenewed s.node.host) (outstanding node.host) (renewed_from s.node.host))

  pairs : AllPairs IsLower s.stepped.letters
  pairs =
      subst (λ (ls : List Letter). AllPairs IsLower ls) (sym letters_are)
      (in_order node (outstanding node.host) (outstanding_sorted node.host sorted))

  by_silo : node.host.silo ≡ silo
  by_silo = (node_facts world n.rests silo s.node s.its).own.host_is

  seen_now : node.view.version ≡ world.views.version
  seen_now = ap (λ (v : ViewValue). v.version) (n.rests.seen silo s.node s.its)

  out_of : (k : ℕ) (l : Letter) → IsNew world.sent s.stepped.letters k l → Out l
  out_of k l new = subst (λ x. Out x) new.is (outs new.index l new.below)

  flew_so : (k : ℕ) (l : Letter) → Flies after k l → Flies world k l ⊎ IsNew world.sent s.stepped.letters k l
  flew_so k l f = flew world silo s.node s.stepped s.its k l f

  new_from : (k : ℕ) (l : Letter) → IsNew world.sent s.stepped.letters k l → l.from ≡ silo
  new_from k l new = (out_of k l new).from ∙ by_silo

  -- an old request isn't the silo's
  old_from : (k : ℕ) (l : Letter) (r : Request) → Flies world k l → l.body ≡ Request_letter r → l.from ≢ silo
  old_from k l r f body same = All-head (λ (e : Silo × Node). e.0 ≢ l.from) (silo, nd) those (n.from k l r f body) (sym same)

  -- at one of the nodes after: what it keeps for others is as before
  at_node : (P : Node → Type 0) (other : Silo) (own : Node) → node_of after other ≡ Some own → (other ≡ silo → P node)
      → (other ≢ silo → node_of world other ≡ Some own → P own)
      → P own
  at_node P other own there mine its =
      on_bool (λ b. silo_eq other silo ≡ b → P own) (silo_eq other silo)
      (λ t is.
      let same = is_one other silo is in
      let at : node_of after silo ≡ Some own = subst (λ q. node_of after q ≡ Some own) same there in
      let put = its_node world silo s.stepped in
      let one : s.stepped.node ≡ own = cc (at, put) in
      subst P (sym node_is ∙ one) (mine same))
      (λ f is.
      let differ : other ≢ silo = λ same. let it = (Decides-silo other silo).1 same in cc (it, is) in
      its differ (sym (other_node world silo s.stepped other differ) ∙ there)) refl

  -- the owner of a hash is live
  owner_lives : (h : ℕ) (owner : Silo) → owner_silo (current_ring world) h ≡ Some owner → is_some (node_of world owner) ≡ true
  owner_lives h owner owns =
      let c = rest_carried world n.rests in
      let active = owner_active world.views world.views.version world.places h owner c.facts.peopled.whole owns in
      c.facts.peopled.live owner
      ∙ sym (live_said world.views c.facts.peopled.whole world.views.version (omega arith) owner)
      ∙ ap (λ (o : Option Status). is_live o) active

  owner_is : (act : Act) → owner_by node (hash_of node act) ≡ owner_in world act
  owner_is act = owner_seen world n.rests silo s.node s.its act

  hash_is : (act : Act) → hash_of node act ≡ hash_grain world.settings.hashing (grain_of act)
  hash_is act = hash_seen world n.rests silo s.node s.its act

  owed_now : (e : ℕ × Act) → Owes node.host e → (owner : Silo) → owner_in world e.1 ≡ Some owner → IsBrought after silo e owner
  owed_now e owes owner owns =
      let numbered = subst (λ (x : Node). AreNumbered x.host) node_is (node_facts after rests_after silo s.stepped.node (its_node world silo s.stepped)).numbered in
      let letter = letter_to owner node (Request_letter (request_of node e.0 e.1)) in
      let out : Contains s.stepped.letters letter = subst (λ (ls : List Letter). Contains ls letter) (sym letters_are)
      (goes_out node owner e (outstanding node.host) (owner_is e.1 ∙ owns) (outstanding_has node.host numbered e owes)) in
      let flight =
      new_flies world silo s.node s.stepped s.its (λ number above. none_above 0 world.sent number world.mail
      (rest_mail world n.rests).rising above) letter out
      (lives world silo s.stepped owner (owner_lives (hash_grain world.settings.hashing (grain_of e.1)) owner owns)) in (
        flight.0,
        letter,
        flight.1,
        inl (record {
          from = by_silo;
          to = refl;
          request = request_of node e.0 e.1;
          body = refl;
          number = refl;
          act = refl;
          hash = hash_is e.1;
        }),
      )

  -- a letter that is new is of what is outstanding now, and goes to its owner
  asked_now : (k : ℕ) (l : Letter) (r : Request) → IsNew world.sent s.stepped.letters k l → l.body ≡ Request_letter r
      → HadAsked after l.from (r.number, r.act) × (r.hash ≡ hash_grain world.settings.hashing (grain_of r.act)) ×
      (owner_in world r.act ≡ Some l.to)
  asked_now k l r new body =
      let out = out_of k l new in
      subst (λ (q : Request). HadAsked after l.from (q.number, q.act) × (q.hash ≡ hash_grain world.settings.hashing (grain_of q.act)) ×
      (owner_in world q.act ≡ Some l.to))
      (request_same out.request r l.body out.body body) (
        (
          s.stepped.node,
          ap (λ q. node_of after q) (new_from k l new) ∙ its_node world silo s.stepped,
          subst (λ (x : Node). Owes x.host (out.request.number, out.request.act)) (sym node_is) out.one.1,
        ),
        out.hash ∙ hash_is out.request.act,
        sym (owner_is out.request.act) ∙ ap (λ h. owner_by node h) (sym out.hash) ∙ out.owner,
      )

  pub nudges_on : IsNudgingOn those after
  nudges_on = record {
    apart = λ i j d lt below. apart (suc i) (suc j) d (omega (arith, lt)) (omega (arith, below));
    answering = record {
      rests = rests_after;
      settled =
          λ other own there. at_node (λ (x : Node). All IsSettledPiece x.holding.pieces) other own there
          (λ same. n.settled silo s.node s.its)
          (λ differ its. n.settled other own its);
      plain = λ k l f. elim (flew_so k l f) [
        | inl old ↦ n.plain k l old
        | inr new ↦
            let out = out_of k l new in
            inl (record {
              request = out.request;
              body = out.body;
              sender = out.sender ∙ sym out.from;
              version_is = out.of_version ∙ sym out.version_is;
              of_version = out.version_is ∙ seen_now;
            })
      ];
      from = λ k l r f body. elim (flew_so k l f) [
        | inl old ↦ All-tail (λ (e : Silo × Node). e.0 ≢ l.from) (silo, nd) those (n.from k l r old body)
        | inr new ↦ λ i d below same. apart 0 (suc i) d (omega arith) (omega (arith, below)) (sym (same ∙ new_from k l new))
      ];
      asked = λ k l r f body. elim (flew_so k l f) [
        | inl old ↦
            let was = n.asked k l r old body in
            ((was.0.0, other_node world silo s.stepped l.from (old_from k l r old body) ∙ was.0.1, was.0.2), was.1, was.2)
        | inr new ↦ asked_now k l r new body
      ];
      kept = λ other own there e owes. (own, there, owes);
      above = λ k l r own f body counts there. inl (at_node (λ (x : Node). last_served l.from x.holding.served < r.number) l.to own there
          (λ same. served_by k l r s.node f body counts (ap (λ q. node_of world q) same ∙ s.its))
          (λ differ its. served_by k l r own f body counts its));
      ordered = λ so k j l i r q f g one other counts too same where_to less. elim (flew_so k l f) [
        | inl old ↦ elim (flew_so j i g) [
          | inl too_old ↦ n.ordered so k j l i r q old too_old one other counts too same where_to less
          | inr new ↦ absurd (old_from k l r old one (same ∙ new_from j i new))
        ]
        | inr new ↦ elim (flew_so j i g) [
          | inl old ↦ absurd (old_from j i q old other (sym same ∙ new_from k l new))
          | inr newer ↦
              let first = new.at in
              let second = newer.at in
              let lower = pairs new.index newer.index l (omega (arith, first, second, less)) newer.below in
              lower_so new.index newer.index l i new.is newer.is newer.below lower r q one other
        ]
      ];
      owed =
          λ other own there those_apart e owes owner owns. inl
          (at_node (λ (x : Node). Owes x.host e → IsBrought after other e owner) other own there
          (λ same its_owes. subst (λ q. IsBrought after q e owner) (sym same) (owed_now e its_owes owner owns))
          (λ differ its its_owes.
          let flight = not_owed_past world world other owner
          (n.owed other own its (All-cons (λ (x : Silo × Node). x.0 ≢ other) (silo, nd) those (λ same. differ (sym same)) those_apart) e
          its_owes owner owns) in
          (flight.0, flight.1, still_flies world silo s.node s.stepped s.its flight.0 flight.1 flight.2, flight.3)) owes);
    };
  }
    where
      served_by : (k : ℕ) (l : Letter) (r : Request) (own : Node) → Flies after k l → l.body ≡ Request_letter r → is_numbered r.act ≡ true
          → node_of world l.to ≡ Some own
          → last_served l.from own.holding.served < r.number
      served_by k l r own f body counts its =
          elim (flew_so k l f) [
            | inl old ↦ not_past world world l.from l.to (n.above k l r own old body counts its)
            | inr new ↦
                let out = out_of k l new in
                let low = served_below world n.rests l.to silo own s.node its s.its in
                let number = ap (λ (q : Request). q.number) (request_same out.request r l.body out.body body) in
                let above = out.one.0 in
                let from = ap (λ q. last_served q own.holding.served) (new_from k l new) in
                omega (arith, low, number, above, from)
          ]

      lower_so : (a b : ℕ) (l i : Letter) → slice_index_or s.stepped.letters a l ≡ l → slice_index_or s.stepped.letters b i ≡ i
          → b < length s.stepped.letters
          → IsLower (slice_index_or s.stepped.letters a l) (slice_index_or s.stepped.letters b l) → IsLower l i
      lower_so a b l i one other below lower r q mine its =
          lower r q (ap (λ (x : Letter). x.body) one ∙ mine)
          (ap (λ (x : Letter). x.body) (same_at b s.stepped.letters l i below ∙ other) ∙ its)

-- ---- one silo after the other
pub nudge_on : (world : World) (e : Silo × Node) (es : List (Silo × Node)) (accepted : Accepted) → IsSilo e.0 → IsNudgingOn (e ∷ es) world
    → happens world (Do e.0 Nudge) ≡ Ok accepted → IsNudgingOn es accepted.world
nudge_on world e es accepted is_silo n ok =
    let s = nudged world e.0 accepted ok in
    let seen_then : AllSeen accepted.world = subst AllSeen (sym s.is)
    (still_seen world e.0 s.node s.stepped s.its (view_kept s.node (Does Nudge) s.stepped s.made) n.answering.rests.seen) in
    let rests = rests_on world n.answering.rests (Do e.0 Nudge) accepted (is_silo, tt) ok seen_then in
    let all : Everywhere sorted_facts accepted.world = subst (Everywhere sorted_facts) (sym rests.is)
    (everywhere sorted_facts sorted_keep rests.settings rests.events tt (λ k d below. tt)) in
    let there : node_of accepted.world e.0 ≡ Some s.stepped.node = ap (λ w. node_of w e.0) s.is ∙ its_node world e.0 s.stepped in
    let sorted : InNumbers s.stepped.node.host = (found_node sorted_facts accepted.world e.0 s.stepped.node all there).1 in
    subst (IsNudgingOn es) (sym s.is)
    (nudges_on world e.0 e.1 es accepted n.answering n.apart rests s
    (subst (λ (t : Stepped). InNumbers t.node.host) (nudge_is s.node s.stepped s.made) sorted))

-- A request is answered: served, by an entry, or told why not.
use Rattle.std.proofs.Common.{◌≡◌, ◌≢◌, ℕ, ◌<◌, ◌&&◌, inl, inr, refl, sym, ap, subst, ◌∙◌}
use Rattle.std.specs.Prelude.{Bool, true, false, not, nat_lt, Option, Some, None, option_and_then, Result, Ok, Err}
use Rattle.std.specs.Option.{option_map, unwrap_or}
use Rattle.std.proofs.lemmas.Bool.{lt-ltb, ltb-true}
use Rattle.std.proofs.lemmas.List.Elements.{All-weaker}
use Rattle.silo_address.specs.Silo.{Silo, silo_cmp}
use Rattle.silo_address.specs.Grain.{Grain}
use Rattle.silo_address.specs.declared.ActivationId.{ActivationId}
use Rattle.silo_address.specs.declared.Entry.{Entry}
use Rattle.silo_address.proofs.Order.{silo_cmp_total, silo_cmp_exact}
use Rattle.silo_address.proofs.Same.{same_activation}
use Rattle.ring_range.specs.Range.{circle, IsRange}
use Rattle.directory_protocol.specs.Setting.{Setting}
use Rattle.directory_protocol.specs.Letters as letters
use Rattle.directory_protocol.specs.Letters.{Sent}
use Rattle.directory_protocol.specs.World as protocol
use Rattle.directory_protocol.specs.Change.{put, put_at}
use Rattle.directory_protocol.specs.Actions.{Serve, Service, IsAnswered, MayServe}
use Rattle.directory_protocol.specs.Effects.{after}
use Rattle.directory_protocol.proofs.Changes.{silo_cases, grain_cases, put_same, put_other, put_at_same, put_at_other}
use Rattle.directory_rules.specs.declared.act.Act.{Act}
use Rattle.directory_rules.specs.declared.act.Act.TheVariants as act
use Rattle.directory_rules.specs.declared.act.Request.{Request}
use Rattle.directory_rules.specs.declared.reply.Reply.{Reply}
use Rattle.directory_rules.specs.declared.reply.Reply.TheVariants as reply
use Rattle.directory_rules.specs.declared.reply.Why.{Why}
use Rattle.directory_rules.specs.declared.piece_state.PieceState.TheVariants.{Settled}
use Rattle.directory_rules.specs.Table.{entry_at}
use Rattle.directory_rules.specs.State.{Piece, Letter, Request_letter, Reply_letter, Node, World}
use Rattle.directory_rules.specs.Answer.{is_numbered, Turned, turned, Answered, piece_with, last_served, serving_piece, after_numbered, served_by, answered_from, answered, found_reply}
use Rattle.directory_rules.specs.Sent.{letter_to}
use Rattle.directory_rules.specs.Host.{grain_of}
use Rattle.directory_rules.specs.Receive.{replying}
use Rattle.directory_rules.specs.Sight.{is_settled}
use Rattle.directory_rules.proofs.Ranges.{stands_at}
use Rattle.directory_facts.specs.Own.{SaysOwn, NamesOwn, IsOwnRequest}
use Rattle.directory_facts.specs.Whole.{LeavesOthers}
use Rattle.directory_facts.proofs.Hashes.{grains_have_hashes}
use Rattle.directory_facts.proofs.Answers.{answers_leave_others}
use Rattle.directory_facts.proofs.Served.{Serves, serves, found_holds}
use Rattle.directory_facts.proofs.Tables.{InOrder}
use Rattle.directory_headline.specs.SiloState.{state_of}
use Rattle.directory_headline.specs.Shown.{activation_in, is_settled_piece, request_as, IsShownBody, IsShownHolding, IsShownReply, IsShownRequest, IsShownLetter}
use Rattle.directory_headline.proofs.Facts.{ArePieces, IsPiece}
use Rattle.directory_headline.proofs.Actors.{leaves_after}
use Rattle.directory_headline.proofs.MoreLetters.{shelf_still, gatherings_still, recoveries_still}
use Rattle.directory_facts.proofs.Lookups.{found_put, found_beside_put}
use Rattle.directory_headline.proofs.Frame.{Here, Comes, Moves, stays, acts, alive, node_facts, node_shown, seen_is, hash_is, one_letter}
use Rattle.directory_headline.proofs.PieceAt.{rising_ranges, keys_rise, of_found, states_same}
use Rattle.directory_headline.proofs.PieceSet.{set_found}
use Rattle.directory_headline.proofs.HighHashes.{held_once}
use Rattle.directory_headline.proofs.TableAnswers.{IsTurn, registers, deregisters}

settled_by : (one other : Option Piece) → option_map (λ (p : Piece). p.state) one ≡ option_map (λ (p : Piece). p.state) other
    → is_settled_piece one ≡ is_settled_piece other
settled_by None None same = refl
settled_by None (Some other) same = absurd (cc (same))
settled_by (Some one) None same = absurd (cc (same))
settled_by (Some one) (Some other) same = let its : one.state ≡ other.state = cc (same) in ap is_settled its

-- a number that is not too old
newer_number : (last number : ℕ) → not (nat_lt last number) ≡ false → last < number
newer_number last number is = ltb-true last number (passes (nat_lt last number) is)
  where
    passes : (b : Bool) → not b ≡ false → b ≡ true
    passes true is = refl
    passes false is = absurd (cc (is))

-- a request about an entry, which a piece serves
record IsServed (m : Setting) (w : protocol.World) (node : Node) (request : Request) (piece : Piece) (purpose : letters.Purpose)
    (entry : Entry) (previous : Option ActivationId) (turn : Turned) : Type 0 where
  serves : Serves node.holding request piece
  newer : last_served request.sender node.holding.served < request.number
  sent : Sent (request_as request purpose entry previous) w.requests
  hash : request.hash ≡ m.hash entry.grain
  own : entry.activation.silo ≡ request.sender
  turns : IsTurn purpose entry previous piece.entries turn
  leaves : LeavesOthers entry.grain node.holding (after_numbered turn piece node.holding request).holding

module _ (m : Setting) (f : World) (w : protocol.World) (silo : Silo) (node : Node) (here : Here m f w silo node) where
  pieces_are : ArePieces m.hash node.holding.pieces
  pieces_are = (node_facts m f w silo node here).pieces

  grain_below : (grain : Grain) → m.hash grain < circle
  grain_below grain =
      subst (λ hash. hash grain < circle) (sym (hash_is m f w silo node here)) (grains_have_hashes node.settings.hashing grain)

  piece_table : (hash : ℕ) (piece : Piece) → piece_with hash node.holding.pieces ≡ Some piece → InOrder piece.entries
  piece_table hash piece found = (of_found (λ e. IsPiece m.hash e.1) hash node.holding.pieces piece pieces_are.each found).1.table

  module _
      (request : Request) (piece : Piece) (purpose : letters.Purpose) (entry : Entry) (previous : Option ActivationId) (turn : Turned)
      (is : IsServed m w node request piece purpose entry previous turn) where
    abbrev service : Service
    service =
        record {
          server = silo;
          request = request_as request purpose entry previous;
          answer = is.turns.answer;
          entry = activation_in
              (entry_at entry.grain turn.table);
        }

    abbrev later : protocol.World
    later = after m w (Serve service)

    abbrev made : Answered
    made = after_numbered turn piece node.holding request

    found : piece_with (m.hash entry.grain) node.holding.pieces ≡ Some piece
    found = ap (λ h. piece_with h node.holding.pieces) (sym is.hash) ∙ is.serves.found

    version : request.version ≡ node.view.version
    version = is.serves.version ∙ (node_facts m f w silo node here).of_one_version.holding

    may_serve : MayServe m w service
    may_serve =
        let was = (node_shown m f w silo node here).holding in
        let named : letters.activation_on request.sender entry.activation.count ≡ entry.activation =
        same_activation (letters.activation_on request.sender entry.activation.count) entry.activation (sym is.own) refl in
        record {
          sent = is.sent;
          alive = alive m f w silo node here;
          same_version = seen_is m f w silo node here ∙ sym version;
          settled =
              was.settled (m.hash entry.grain) ∙ ap (λ o. is_settled_piece o && nat_lt (m.hash entry.grain) circle) found
              ∙ ap (λ s. is_settled s && nat_lt (m.hash entry.grain) circle) is.serves.settled
              ∙ lt-ltb (m.hash entry.grain) circle (grain_below entry.grain);
          new_number = subst (λ n. n < request.number) (sym (was.served request.sender)) is.newer;
          answered =
              subst (λ a. IsAnswered purpose a previous (w.table silo entry.grain) is.turns.answer
              (activation_in (entry_at entry.grain turn.table))) (sym named)
              (subst (λ before. IsAnswered purpose entry.activation previous before is.turns.answer
              (activation_in (entry_at entry.grain turn.table)))
              (sym (was.table entry.grain piece found is.serves.settled)) is.turns.answered);
        }

    changed_there : piece_with (m.hash entry.grain) made.holding.pieces ≡ Some (record piece { entries = turn.table })
    changed_there =
        let own = node_facts m f w silo node here in
        let h = m.hash entry.grain in
        let ranged = All-weaker (λ e. IsPiece m.hash e.1) (λ (e : ℕ × Piece). IsRange e.1.range) (λ e its. its.range) node.holding.pieces pieces_are.each in
        set_found piece.range.start h node.holding.pieces piece (record piece { entries = turn.table })
        (stands_at h node.holding.pieces piece (rising_ranges node.holding.pieces pieces_are.rising pieces_are.under_start) found) refl
        (found_holds h node.holding.pieces piece found)
        (held_once node.ring.points node.host.silo node.holding.pieces own.once ranged h)

    -- another grain has its entry still
    other_entry : (grain : Grain) (next : Piece) → grain ≢ entry.grain → piece_with (m.hash grain) made.holding.pieces ≡ Some next
        → next.state ≡ Settled → (before : Option Piece)
        → piece_with (m.hash grain) node.holding.pieces ≡ before → w.table silo grain ≡ activation_in (entry_at grain next.entries)
    other_entry grain next apart there settled None was_there =
        let state = states_same (m.hash grain) node.holding.pieces made.holding.pieces is.leaves.outline in
        let none = ap (option_map (λ (p : Piece). p.state)) was_there in
        let some = ap (option_map (λ (p : Piece). p.state)) there in
        absurd (cc (state, none, some))
    other_entry grain next apart there settled (Some before) was_there =
        let state = states_same (m.hash grain) node.holding.pieces made.holding.pieces is.leaves.outline in
        let one : Some before.state ≡ Some next.state = sym (ap (option_map (λ (p : Piece). p.state)) was_there) ∙ sym state ∙ ap (option_map (λ (p : Piece). p.state)) there in
        let its : before.state ≡ next.state = cc (one) in
        (node_shown m f w silo node here).holding.table grain before was_there (its ∙ settled)
        ∙ ap activation_in
        (ap (λ o. option_and_then (λ (p : Piece). entry_at grain p.entries) o) (sym was_there)
        ∙ sym (is.leaves.others (m.hash grain) grain apart)
        ∙ ap (λ o. option_and_then (λ (p : Piece). entry_at grain p.entries) o) there)

    holding_shown : IsShownHolding m.hash made.holding (state_of later silo)
    holding_shown =
        let was = (node_shown m f w silo node here).holding in
        record {
          settled = λ h.
              was.settled h
              ∙ ap (λ b. b && nat_lt h circle)
              (settled_by (piece_with h node.holding.pieces) (piece_with h made.holding.pieces)
              (sym (states_same h node.holding.pieces made.holding.pieces is.leaves.outline)));
          table = λ grain next there settled.
              elim (grain_cases grain entry.grain) [
                | inl same ↦
                    let one : Some (record piece { entries = turn.table }) ≡ Some next = sym changed_there ∙ ap (λ g. piece_with (m.hash g) made.holding.pieces) (sym same) ∙ there in
                    ap (λ g. put_at silo entry.grain service.entry w.table silo g) same ∙ put_at_same silo entry.grain service.entry w.table
                    ∙ ap (λ o. activation_in (option_and_then (λ (p : Piece). entry_at entry.grain p.entries) o)) one
                    ∙ ap (λ g. activation_in (entry_at g next.entries)) (sym same)
                | inr apart ↦
                    put_at_other silo entry.grain service.entry w.table silo grain (λ its. apart)
                    ∙ other_entry grain next apart there settled (piece_with (m.hash grain) node.holding.pieces) refl
              ];
          served = λ sender.
              ap (λ s. s sender) (put_same silo (put request.sender request.number (w.served silo)) w.served)
              ∙ elim (silo_cases sender request.sender) [
                | inl same ↦
                    ap (λ s. put request.sender request.number (w.served silo) s) same
                    ∙ put_same request.sender request.number (w.served silo)
                    ∙ ap (λ o. unwrap_or o 0) (sym (found_put silo_cmp silo_cmp_total silo_cmp_exact request.sender request.number
                    node.holding.served))
                    ∙ ap (λ s. last_served s made.holding.served) (sym same)
                | inr apart ↦
                    put_other request.sender request.number (w.served silo) sender apart ∙ was.served sender
                    ∙ ap (λ o. unwrap_or o 0) (sym (found_beside_put silo_cmp silo_cmp_total silo_cmp_exact request.sender request.number
                    node.holding.served sender apart))
              ];
        }

    reply_is : (v v' : ℕ) → v ≡ v' →
        let one : letters.Reply = record { answer = is.turns.answer; version = v; number = request.number; receiver = request.sender } in
        let other : letters.Reply = record { answer = is.turns.answer; version = v'; number = request.number; receiver = request.sender } in
        one ≡ other
    reply_is v v' same =
        ap (λ (x : ℕ).
        let y : letters.Reply = record { answer = is.turns.answer; version = x; number = request.number; receiver = request.sender } in
        y) same

    serves_so : Moves m w silo (replying node request made)
    serves_so =
        let was = node_shown m f w silo node here in
        let grows = (leaves_after m w (Serve service) silo refl).grows in
        let letter = letter_to request.sender node (Reply_letter request.number made.reply) in
        acts m w silo (replying node request made) (Serve service) may_serve refl (record {
          seen = was.seen;
          host = record { held = was.host.held; next_number = was.host.next_number; next_count = was.host.next_count };
          holding = holding_shown;
          shelf = shelf_still m w later grows node.shelf was.shelf;
          gatherings = gatherings_still m w later grows node.gatherings was.gatherings;
          recoveries = recoveries_still m w later grows node.recoveries was.recoveries;
        }) (one_letter (IsShownLetter m.hash later) letter
        (is.turns.shown later.replies letter request.number (inl (reply_is node.view.version request.version (sym version)))))

  -- a request that isn't served, or that only asks, changes nothing
  unchanged : (request : Request) (its : Reply) → ((letter : Letter) → IsShownReply w.replies letter request.number its)
      → Moves m w silo (replying node request (record { reply = its; holding = node.holding }))
  unchanged request its shown =
      let letter = letter_to request.sender node (Reply_letter request.number its) in
      stays m w silo (replying node request (record { reply = its; holding = node.holding })) (node_shown m f w silo node here)
      (one_letter (IsShownLetter m.hash w) letter (shown letter))

  finds : (request : Request) (there : Option Entry)
      → Moves m w silo (replying node request (record { reply = found_reply there; holding = node.holding }))
  finds request None = unchanged request (found_reply None) (λ letter. tt)
  finds request (Some there) = unchanged request (found_reply (Some there)) (λ letter. tt)

  module _ (letter : Letter) (request : Request) (body : letter.body ≡ Request_letter request) (comes : Comes m f w silo letter) where
    its_own : IsOwnRequest f.settings.hashing letter request
    its_own = subst (SaysOwn f.settings.hashing letter) body comes.own

    hash_so : (its : Act) → request.act ≡ its → request.hash ≡ m.hash (grain_of its)
    hash_so its same = its_own.hash ∙ ap (λ hash. hash (grain_of request.act)) (sym here.setting.hash) ∙ ap (λ a. m.hash (grain_of a)) same

    own_so : (its : Act) → request.act ≡ its → NamesOwn request.sender its
    own_so its same = subst (λ a. NamesOwn request.sender a) same (subst (λ s. NamesOwn s request.act) (sym its_own.sender) its_own.own)

    shown_so : (its : Act) → request.act ≡ its → IsShownRequest w.requests request its
    shown_so its same = subst (λ a. IsShownRequest w.requests request a) same (subst (IsShownBody m.hash w letter) body comes.shown)

    by_act :
        (piece : Piece) → serving_piece node.holding request ≡ Ok piece → (its : Act) → request.act ≡ its
        → LeavesOthers (grain_of its) node.holding (served_by its piece node.holding request).holding
        → Moves m w silo (replying node request (served_by its piece node.holding request))
    by_act piece is (act.Register entry previous) same leaves =
        let its = serves node.holding request piece is in
        serves_so request piece letters.Register entry previous (turned (act.Register entry previous) piece.entries) (record {
          serves = its;
          newer =
              newer_number (last_served request.sender node.holding.served) request.number
              (ap (λ a. is_numbered a && not (nat_lt (last_served request.sender node.holding.served) request.number)) (sym same)
              ∙ its.newer);
          sent = shown_so (act.Register entry previous) same;
          hash = hash_so (act.Register entry previous) same;
          own = own_so (act.Register entry previous) same;
          turns = registers entry previous piece.entries;
          leaves = leaves;
        })
    by_act piece is (act.Deregister entry) same leaves =
        let its = serves node.holding request piece is in
        serves_so request piece letters.Deregister entry None (turned (act.Deregister entry) piece.entries) (record {
          serves = its;
          newer =
              newer_number (last_served request.sender node.holding.served) request.number
              (ap (λ a. is_numbered a && not (nat_lt (last_served request.sender node.holding.served) request.number)) (sym same)
              ∙ its.newer);
          sent = shown_so (act.Deregister entry) same;
          hash = hash_so (act.Deregister entry) same;
          own = own_so (act.Deregister entry) same;
          turns = deregisters entry piece.entries (piece_table request.hash piece its.found).by_grain;
          leaves = leaves;
        })
    by_act piece is (act.Find grain) same leaves = finds request (entry_at grain piece.entries)

    by_serving : (serving : Result Piece Why) → serving_piece node.holding request ≡ serving
        → Moves m w silo (replying node request (answered_from serving node.holding request))
    by_serving (Err why) is = unchanged request (reply.Retry why) (λ letter. tt)
    by_serving (Ok piece) is =
        let leaves = answers_leave_others node.holding request pieces_are.under_start (keys_rise node.holding.pieces pieces_are.rising) in
        by_act piece is request.act refl (subst (λ r. LeavesOthers (grain_of request.act) node.holding
        (answered_from r node.holding request).holding) is leaves)

    pub answers : Moves m w silo (replying node request (answered node.holding request))
    answers = by_serving (serving_piece node.holding request) refl

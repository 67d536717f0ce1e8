-- What every step keeps: each piece that recovers has its recovery.
use Rattle.std.proofs.Common.{◌≡◌, inl, inr, refl, sym, ap, ◌∙◌, ℕ, List, [], ◌∷◌}
use Rattle.std.specs.Prelude.{◌⊎◌, All, filter, Bool, true, false, cond, not, nat_lt, ◌==◌, ◌&&◌, Option, Some, None, Result, Ok, Err}
use Rattle.std.specs.Ordering.{is_eq, nat_cmp}
use Rattle.std.specs.Map.{lookup, set_value, remove_entry}
use Rattle.std.specs.BTreeMap.{insert_entry, is_at}
use Rattle.std.proofs.lemmas.Cmp.{nat_cmp_total, tied_itself}
use Rattle.std.proofs.lemmas.List.Elements.{All-cons, All-head, All-tail}
use Rattle.directory_rules.specs.declared.Act.{Act}
use Rattle.directory_rules.specs.declared.Act.TheVariants.{Register, Deregister, Find}
use Rattle.directory_rules.specs.declared.Request.{Request}
use Rattle.directory_rules.specs.declared.Why.{Why}
use Rattle.directory_rules.specs.declared.Why.TheVariants.{View, OldNumber}
use Rattle.directory_rules.specs.declared.PieceState.{PieceState}
use Rattle.directory_rules.specs.declared.PieceState.TheVariants.{Settled, Awaiting, Recovering}
use Rattle.directory_rules.specs.State.{Piece, Holding, Recovery}
use Rattle.directory_rules.specs.Answer.{with_piece, serving_piece, serving_by_piece, serving_by_state, serving_by_number, answered, answered_from, served_by, piece_with, is_numbered, last_served}
use Rattle.std.proofs.lemmas.Map.Lookups.{exact_unsigned}
use Rattle.texts.proofs.Orderings.{Equal-from}
use Rattle.silo_address.proofs.Order.{apart_in_order}
use Rattle.texts.proofs.Entries.{lookup-insert_entry}
use Rattle.directory_rules.proofs.Cases.{on_bool}
use Rattle.directory_rules.proofs.Tables.{lookup-remove_other}
use Rattle.node_plans.specs.Node.{HasRecovery, HaveRecoveries}

-- what is found after a value was written is that value, or was found before
found_or_written : {X : Type 0} (key at : ℕ → Bool) (es : List (ℕ × X)) (w x : X) → lookup key (set_value at es w) ≡ Some x → (x ≡ w)
    ⊎ (lookup key es ≡ Some x)
found_or_written key at [] w x = λ found. inr found
found_or_written key at (e ∷ es) w x =
    on_bool (λ b. lookup key (cond b ((e.0, w) ∷ es) (e ∷ set_value at es w)) ≡ Some x → (x ≡ w) ⊎ (lookup key (e ∷ es) ≡ Some x)) (at e.0)
    (λ t. on_bool (λ b. cond b (Some w) (lookup key es) ≡ Some x → (x ≡ w) ⊎ (cond b (Some e.1) (lookup key es) ≡ Some x)) (key e.0)
    (λ u is. inl (cc (is)))
    (λ u is. inr is))
    (λ f. on_bool (λ b. cond b (Some e.1) (lookup key (set_value at es w)) ≡ Some x → (x ≡ w)
    ⊎ (cond b (Some e.1) (lookup key es) ≡ Some x)) (key e.0)
    (λ u is. inr is)
    (λ u is. found_or_written key at es w x is))

settled_is_not_recovering : (state : PieceState) → state ≡ Settled → state ≡ Recovering → ⊥
settled_is_not_recovering state settled recovering = cc (settled, recovering)

-- a piece that is written settled needs no recovery
pub settled_keeps : (piece : Piece) (pieces : List (ℕ × Piece)) (recoveries : List (ℕ × Recovery)) → piece.state ≡ Settled
    → HaveRecoveries pieces recoveries → HaveRecoveries (with_piece piece pieces) recoveries
settled_keeps piece pieces recoveries settled have start other found recovering =
    elim (found_or_written (is_at (nat_cmp start)) (is_at (nat_cmp piece.range.start)) pieces piece other found) [
      | inl written ↦ absurd (settled_is_not_recovering piece.state settled (ap (λ (p : Piece). p.state) (sym written) ∙ recovering))
      | inr before ↦ have start other before recovering
    ]

-- only a settled piece serves
abbrev ServesSettled : Result Piece Why → Type 0
ServesSettled serving = (piece : Piece) → serving ≡ Ok piece → piece.state ≡ Settled

by_number : (piece : Piece) (holding : Holding) (request : Request) → piece.state ≡ Settled
    → ServesSettled (serving_by_number piece holding request)
by_number piece holding request settled =
    on_bool (λ b. ServesSettled (cond b (Err (OldNumber (last_served request.sender holding.served))) (Ok piece)))
    (is_numbered request.act && not (nat_lt (last_served request.sender holding.served) request.number))
    (λ t other is. absurd (cc (is)))
    (λ f other is. cc (is, settled))

by_state : (state : PieceState) (piece : Piece) (holding : Holding) (request : Request) → piece.state ≡ state
    → ServesSettled (serving_by_state state piece holding request)
by_state Settled piece holding request is = by_number piece holding request is
by_state (Awaiting from) piece holding request is = λ other served. absurd (cc (served))
by_state Recovering piece holding request is = λ other served. absurd (cc (served))

by_piece : (piece : Option Piece) (holding : Holding) (request : Request) → ServesSettled (serving_by_piece piece holding request)
by_piece None holding request = λ other served. absurd (cc (served))
by_piece (Some piece) holding request = by_state piece.state piece holding request refl

serving_settled : (holding : Holding) (request : Request) → ServesSettled (serving_piece holding request)
serving_settled holding request =
    on_bool (λ b. ServesSettled (cond b (serving_by_piece (piece_with request.hash holding.pieces) holding request)
    (Err (View holding.seen)))) (request.version == holding.seen)
    (λ t. by_piece (piece_with request.hash holding.pieces) holding request)
    (λ f other served. absurd (cc (served)))

served_keeps : (act : Act) (piece : Piece) (holding : Holding) (request : Request) (recoveries : List (ℕ × Recovery))
    → piece.state ≡ Settled
    → HaveRecoveries holding.pieces recoveries → HaveRecoveries (served_by act piece holding request).holding.pieces recoveries
served_keeps (Register entry previous) piece holding request recoveries settled have =
    settled_keeps _ holding.pieces recoveries settled have
served_keeps (Deregister entry) piece holding request recoveries settled have = settled_keeps _ holding.pieces recoveries settled have
served_keeps (Find grain) piece holding request recoveries settled have = have

answer_keeps : (serving : Result Piece Why) (holding : Holding) (request : Request) (recoveries : List (ℕ × Recovery))
    → ServesSettled serving
    → HaveRecoveries holding.pieces recoveries → HaveRecoveries (answered_from serving holding request).holding.pieces recoveries
answer_keeps (Ok piece) holding request recoveries settled have =
    served_keeps request.act piece holding request recoveries (settled piece refl) have
answer_keeps (Err why) holding request recoveries settled have = have

-- an answered request leaves the pieces that recover as they are
pub answered_keeps : (holding : Holding) (request : Request) (recoveries : List (ℕ × Recovery)) → HaveRecoveries holding.pieces recoveries
    → HaveRecoveries (answered holding request).holding.pieces recoveries
answered_keeps holding request recoveries have =
    answer_keeps (serving_piece holding request) holding request recoveries (serving_settled holding request) have

-- what was written is found there
pub written_is_found : {X : Type 0} (at : ℕ → Bool) (es : List (ℕ × X)) (w x : X) → lookup at es ≡ Some x
    → lookup at (set_value at es w) ≡ Some w
written_is_found at [] w x = λ found. absurd (cc (found))
written_is_found at (e ∷ es) w x =
    on_bool (λ b. cond b (Some e.1) (lookup at es) ≡ Some x → lookup at (cond b ((e.0, w) ∷ es) (e ∷ set_value at es w)) ≡ Some w) (at e.0)
    (λ t found. ap (λ b. cond b (Some w) (lookup at es)) t)
    (λ f found. ap (λ b. cond b (Some e.1) (lookup at (set_value at es w))) f ∙ written_is_found at es w x found)

-- and elsewhere what was found before
pub other_than_written : {X : Type 0} (at key : ℕ → Bool) (es : List (ℕ × X)) (w : X) → ((j : ℕ) → at j ≡ true → key j ≡ false)
    → lookup key (set_value at es w) ≡ lookup key es
other_than_written at key [] w apart = refl
other_than_written at key (e ∷ es) w apart =
    on_bool (λ b. lookup key (cond b ((e.0, w) ∷ es) (e ∷ set_value at es w)) ≡ lookup key (e ∷ es)) (at e.0)
    (λ t. ap (λ b. cond b (Some w) (lookup key es)) (apart e.0 t) ∙ ap (λ b. cond b (Some e.1) (lookup key es)) (sym (apart e.0 t)))
    (λ f. ap (λ l. cond (key e.0) (Some e.1) l) (other_than_written at key es w apart))

-- a piece that recovers after another was written settled recovered before
recovered_before : (piece : Piece) (pieces : List (ℕ × Piece)) (start : ℕ) (other : Piece) → piece.state ≡ Settled
    → lookup (is_at (nat_cmp start)) (with_piece piece pieces) ≡ Some other
    → other.state ≡ Recovering → lookup (is_at (nat_cmp start)) pieces ≡ Some other
recovered_before piece pieces start other settled found recovering =
    elim (found_or_written (is_at (nat_cmp start)) (is_at (nat_cmp piece.range.start)) pieces piece other found) [
      | inl written ↦ absurd (settled_is_not_recovering piece.state settled (ap (λ (p : Piece). p.state) (sym written) ∙ recovering))
      | inr was ↦ was
    ]

-- and it doesn't begin where that one begins
not_at_its_start : (piece : Piece) (pieces : List (ℕ × Piece)) (start : ℕ) (other : Piece) → piece.state ≡ Settled
    → lookup (is_at (nat_cmp start)) (with_piece piece pieces) ≡ Some other
    → other.state ≡ Recovering → is_at (nat_cmp piece.range.start) start ≡ true → ⊥
not_at_its_start piece pieces start other settled found recovering t =
    let same : piece.range.start ≡ start = exact_unsigned piece.range.start start (Equal-from (nat_cmp piece.range.start start) t) in
    let there = written_is_found (is_at (nat_cmp piece.range.start)) pieces piece other (ap (λ s. lookup (is_at (nat_cmp s)) pieces) same ∙ recovered_before piece pieces start other settled found recovering) in
    let now = ap (λ s. lookup (is_at (nat_cmp s)) (with_piece piece pieces)) same ∙ found in
    let one : piece ≡ other = cc (there, now) in
    settled_is_not_recovering piece.state settled (ap (λ (p : Piece). p.state) one ∙ recovering)

pub apart_from : (k start j : ℕ) → is_at (nat_cmp k) start ≡ false → is_at (nat_cmp k) j ≡ true → is_at (nat_cmp start) j ≡ false
apart_from k start j f at = apart_in_order nat_cmp exact_unsigned start j (λ same. absurd (cc (ap (λ s. is_at (nat_cmp k) s) same, at, f)))

-- a piece that is written settled needs no recovery any more
pub settled_removes : (piece : Piece) (pieces : List (ℕ × Piece)) (recoveries : List (ℕ × Recovery)) → piece.state ≡ Settled
    → HaveRecoveries pieces recoveries
    → HaveRecoveries (with_piece piece pieces) (remove_entry (is_at (nat_cmp piece.range.start)) recoveries)
settled_removes piece pieces recoveries settled have start other found recovering =
    let had = have start other (recovered_before piece pieces start other settled found recovering) recovering in
    on_bool (λ b. HasRecovery (remove_entry (is_at (nat_cmp piece.range.start)) recoveries) start other)
    (is_at (nat_cmp piece.range.start) start)
    (λ t. absurd (not_at_its_start piece pieces start other settled found recovering t))
    (λ f. record {
      recovery = had.recovery;
      there =
          lookup-remove_other (is_at (nat_cmp piece.range.start)) (is_at (nat_cmp start))
          (λ j at. apart_from piece.range.start start j f at) recoveries ∙ had.there;
      its_range = had.its_range;
    })

-- what stands where a piece was written is that piece
written_there : (piece : Piece) (pieces : List (ℕ × Piece)) (start : ℕ) (other : Piece) → piece.range.start ≡ start
    → lookup (is_at (nat_cmp start)) (with_piece piece pieces) ≡ Some other → other ≡ piece
written_there piece pieces start other same found =
    elim (found_or_written (is_at (nat_cmp start)) (is_at (nat_cmp piece.range.start)) pieces piece other found) [
      | inl written ↦ written
      | inr was ↦ (
          let there = written_is_found (is_at (nat_cmp piece.range.start)) pieces piece other (ap (λ s. lookup (is_at (nat_cmp s)) pieces) same ∙ was) in
          let now = ap (λ s. lookup (is_at (nat_cmp s)) (with_piece piece pieces)) same ∙ found in
          cc (there, now))
    ]

-- a piece that is written with its recovery has it
pub recovering_puts : (piece : Piece) (recovery : Recovery) (pieces : List (ℕ × Piece)) (recoveries : List (ℕ × Recovery))
    → recovery.range ≡ piece.range → HaveRecoveries pieces recoveries
    → HaveRecoveries (with_piece piece pieces) (insert_entry nat_cmp recoveries piece.range.start recovery)
recovering_puts piece recovery pieces recoveries range have start other found recovering =
    let key = piece.range.start in
    let put = lookup-insert_entry nat_cmp_total key recovery start recoveries in
    on_bool (λ b. HasRecovery (insert_entry nat_cmp recoveries key recovery) start other) (is_at (nat_cmp key) start)
    (λ t.
    let same : key ≡ start = exact_unsigned key start (Equal-from (nat_cmp key start) t) in
    record {
      recovery = recovery;
      there =
          put ∙ ap (λ s. cond (is_at (nat_cmp start) s) (Some recovery) (lookup (is_at (nat_cmp start)) recoveries)) same
          ∙ ap (λ r. cond (is_eq r) (Some recovery) (lookup (is_at (nat_cmp start)) recoveries)) (tied_itself nat_cmp_total start);
      its_range = range ∙ ap (λ (p : Piece). p.range) (sym (written_there piece pieces start other same found));
    })
    (λ f.
    let had = have start other (sym (other_than_written (is_at (nat_cmp key)) (is_at (nat_cmp start)) pieces piece (λ j at. apart_from key start j f at)) ∙ found) recovering in
    record {
      recovery = had.recovery;
      there =
          put ∙ ap (λ b. cond b (Some recovery) (lookup (is_at (nat_cmp start)) recoveries))
          (apart_from key start key f (ap is_eq (tied_itself nat_cmp_total key))) ∙ had.there;
      its_range = had.its_range;
    })

-- what all of them have, those kept have
pub all_kept : {X : Type 0} (P : X → Type 0) (test : X → Bool) (xs : List X) → All P xs → All P (filter test xs)
all_kept P test [] all = all
all_kept P test (x ∷ xs) all =
    on_bool (λ b. All P (cond b (x ∷ filter test xs) (filter test xs))) (test x)
    (λ t. All-cons P x (filter test xs) (All-head P x xs all) (all_kept P test xs (All-tail P x xs all)))
    (λ f. all_kept P test xs (All-tail P x xs all))

-- All pieces together are one map, and a request that is served is answered as by it.
use Rattle.std.proofs.Common.{◌≡◌, ◌≢◌, refl, sym, ap, subst, ◌∙◌, ℕ, ◌≤◌, List, [], ◌∷◌, ◌++◌, arith}
use Rattle.std.specs.Prelude.{Bool, true, false, cond, find, All, Option, Some, None, option_and_then, Ok, fold, flat_map}
use Rattle.std.specs.Option.{option_map}
use Rattle.std.specs.Ordering.{nat_cmp, is_eq}
use Rattle.std.specs.List.Sorted.{IsStrictlySortedBy}
use Rattle.std.specs.Map.{lookup, set_value, remove_entry, keys_of}
use Rattle.std.specs.BTreeMap.{is_at}
use Rattle.std.proofs.lemmas.Cmp.{nat_cmp_total, tied_itself}
use Rattle.std.proofs.lemmas.List.Elements.{All-nil, All-cons, All-head, All-tail, All-weaker}
use Rattle.silo_address.specs.Grain.{Grain, grain_cmp}
use Rattle.silo_address.specs.Activation.{activation_eq}
use Rattle.silo_address.specs.declared.ActivationId.{ActivationId}
use Rattle.silo_address.specs.declared.Entry.{Entry}
use Rattle.silo_address.proofs.Order.{grain_cmp_total, grain_cmp_exact}
use Rattle.texts.proofs.Entries.{lookup-insert_entry, sorted-insert_entry, sorted-remove_entry}
use Rattle.ring_range.specs.Range.{Range, holds}
use Rattle.hash_ring.specs.declared.Hashing.{Hashing}
use Rattle.hash_ring.specs.Hash.{hash_grain}
use Rattle.range_moves.specs.Arcs.{owner_silo}
use Rattle.directory_rules.specs.declared.act.Act.{Act}
use Rattle.directory_rules.specs.declared.act.Act.TheVariants.{Register, Deregister, Find}
use Rattle.directory_rules.specs.declared.act.Request.{Request}
use Rattle.directory_rules.specs.declared.reply.Reply.{Reply}
use Rattle.directory_rules.specs.declared.reply.Reply.TheVariants.{Registered, Taken, Removed, Absent}
use Rattle.directory_rules.specs.State.{Table, Piece, Holding}
use Rattle.directory_rules.specs.Table.{entry_at, entries_of, with_entry, without_grain}
use Rattle.directory_rules.specs.Answer.{Answered, Turned, turned, registered_over, deregistered_from, found_reply, is_previous, piece_with, serving_piece, served_by, answered_from, answered}
use Rattle.directory_rules.specs.Sight.{is_owner}
use Rattle.directory_rules.specs.Host.{grain_of}
use Rattle.directory_rules.proofs.Cases.{on_bool}
use Rattle.directory_rules.proofs.Removed.{lookup_removed}
use Rattle.directory_rules.proofs.Ranges.{ranges, Rising, stands_at}
use Rattle.directory_rules.proofs.Tables.{turned_leaves}
use Rattle.directory_facts.specs.Pieces.{IsPiece, ArePieces}
use Rattle.directory_facts.specs.Whole.{StandUnderStarts, entry_in}
use Rattle.directory_facts.specs.OneMap.{IsMapOf, IsAnsweredBy, NodesHaveOneMap, NodesAnswerByOneMap}
use Rattle.directory_facts.proofs.OwnPieces.{holding, counted, at_most_one}
use Rattle.directory_facts.proofs.Entries.{same_key}
use Rattle.directory_facts.proofs.Lookups.{found_put}
use Rattle.directory_facts.proofs.Served.{serves, found_holds}
use Rattle.directory_facts.proofs.Tables.{InOrder, order_nil}
use Rattle.directory_facts.proofs.Pieces.{all_ordered}
use Rattle.directory_facts.proofs.Hashes.{grains_have_hashes}
use Rattle.directory_facts.proofs.Answers.{starts_rise, answers_leave_others}
use Rattle.directory_facts.proofs.Lawful.{nodes_have_pieces, pieces_are_owned}

-- ---- an entry that is put in
put_found : (entry : Entry) (table : Table) → entry_at entry.grain (with_entry table entry) ≡ Some entry
put_found entry table = found_put grain_cmp grain_cmp_total grain_cmp_exact entry.grain entry table

put_apart : (grain : Grain) (entry : Entry) (table : Table) → is_at (grain_cmp grain) entry.grain ≡ false
    → entry_at grain (with_entry table entry) ≡ entry_at grain table
put_apart grain entry table apart =
    lookup-insert_entry grain_cmp_total entry.grain entry grain table ∙ ap (λ b. cond b (Some entry) (entry_at grain table)) apart

abbrev turn : Reply → Table → Turned
turn reply table = record { reply = reply; table = table }

-- ---- a table's turn, by what it has of the act's grain
record AreAlike (grain : Grain) (one other : Turned) : Type 0 where
  reply : one.reply ≡ other.reply
  entry : entry_at grain one.table ≡ entry_at grain other.table

module _ (one other : Table) (is : IsStrictlySortedBy grain_cmp (keys_of one)) (its : IsStrictlySortedBy grain_cmp (keys_of other)) where
  registered_alike : (there : Option Entry) (entry : Entry) (previous : Option ActivationId)
      → entry_at entry.grain one ≡ entry_at entry.grain other
      → AreAlike entry.grain (registered_over there entry previous one) (registered_over there entry previous other)
  registered_alike None entry previous same = record { reply = refl; entry = put_found entry one ∙ sym (put_found entry other) }
  registered_alike (Some there) entry previous same =
      on_bool
      (λ b. AreAlike entry.grain (cond b (turn (Registered entry) one)
      (cond (is_previous previous there) (turn (Registered entry) (with_entry one entry)) (turn (Taken there) one)))
      (cond b (turn (Registered entry) other) (cond (is_previous previous there) (turn (Registered entry) (with_entry other entry))
      (turn (Taken there) other)))) (activation_eq there.activation entry.activation)
      (λ t. record { reply = refl; entry = same })
      (λ f. on_bool
      (λ b. AreAlike entry.grain (cond b (turn (Registered entry) (with_entry one entry)) (turn (Taken there) one))
      (cond b (turn (Registered entry) (with_entry other entry)) (turn (Taken there) other)))
      (is_previous previous there) (λ t. record { reply = refl; entry = put_found entry one ∙ sym (put_found entry other) })
      (λ u. record { reply = refl; entry = same }))

  deregistered_alike : (there : Option Entry) (entry : Entry) → entry_at entry.grain one ≡ entry_at entry.grain other
      → AreAlike entry.grain (deregistered_from there entry one) (deregistered_from there entry other)
  deregistered_alike None entry same = record { reply = refl; entry = same }
  deregistered_alike (Some there) entry same =
      on_bool
      (λ b. AreAlike entry.grain (cond b (turn Removed (without_grain entry.grain one)) (turn Absent one))
      (cond b (turn Removed (without_grain entry.grain other)) (turn Absent other)))
      (activation_eq there.activation entry.activation)
      (λ t. record {
        reply = refl;
        entry = lookup_removed grain_cmp grain_cmp_total entry.grain one is
            ∙ sym (lookup_removed grain_cmp grain_cmp_total entry.grain other its);
      })
      (λ f. record { reply = refl; entry = same })

  turned_alike : (act : Act) → entry_at (grain_of act) one ≡ entry_at (grain_of act) other
      → AreAlike (grain_of act) (turned act one) (turned act other)
  turned_alike (Register entry previous) same =
      subst (λ o. AreAlike entry.grain (registered_over (entry_at entry.grain one) entry previous one)
      (registered_over o entry previous other)) same
      (registered_alike (entry_at entry.grain one) entry previous same)
  turned_alike (Deregister entry) same =
      subst (λ o. AreAlike entry.grain (deregistered_from (entry_at entry.grain one) entry one) (deregistered_from o entry other)) same
      (deregistered_alike (entry_at entry.grain one) entry same)
  turned_alike (Find grain) same = record { reply = ap found_reply same; entry = same }

-- ---- which stays in order
abbrev Sorted : Table → Type 0
Sorted table = IsStrictlySortedBy grain_cmp (keys_of table)

registered_sorted : (there : Option Entry) (entry : Entry) (previous : Option ActivationId) (table : Table) → Sorted table
    → Sorted (registered_over there entry previous table).table
registered_sorted None entry previous table is = sorted-insert_entry grain_cmp_total entry.grain entry table is
registered_sorted (Some there) entry previous table is =
    on_bool (λ b. Sorted (cond b (turn (Registered entry) table)
    (cond (is_previous previous there) (turn (Registered entry) (with_entry table entry)) (turn (Taken there) table))).table)
    (activation_eq there.activation entry.activation) (λ t. is)
    (λ f. on_bool (λ b. Sorted (cond b (turn (Registered entry) (with_entry table entry)) (turn (Taken there) table)).table)
    (is_previous previous there)
    (λ t. sorted-insert_entry grain_cmp_total entry.grain entry table is) (λ u. is))

deregistered_sorted : (there : Option Entry) (entry : Entry) (table : Table) → Sorted table
    → Sorted (deregistered_from there entry table).table
deregistered_sorted None entry table is = is
deregistered_sorted (Some there) entry table is =
    on_bool (λ b. Sorted (cond b (turn Removed (without_grain entry.grain table)) (turn Absent table)).table)
    (activation_eq there.activation entry.activation)
    (λ t. sorted-remove_entry (is_at (grain_cmp entry.grain)) grain_cmp table is) (λ f. is)

turned_sorted : (act : Act) (table : Table) → Sorted table → Sorted (turned act table).table
turned_sorted (Register entry previous) table is = registered_sorted (entry_at entry.grain table) entry previous table is
turned_sorted (Deregister entry) table is = deregistered_sorted (entry_at entry.grain table) entry table is
turned_sorted (Find grain) table is = is

-- ---- the piece of a hash, once its table is changed
at_itself : (start : ℕ) → is_at (nat_cmp start) start ≡ true
at_itself start = ap is_eq (tied_itself nat_cmp_total start)

abbrev of_found : Grain → Option (ℕ × Piece) → Option Entry
of_found grain found = option_and_then (λ piece. entry_at grain piece.entries) (option_map (λ e. e.1) found)

changed_in : (hash : ℕ) (grain : Grain) (pieces : List (ℕ × Piece)) (piece changed : Piece) → Rising (ranges pieces)
    → piece_with hash pieces ≡ Some piece → lookup (is_at (nat_cmp piece.range.start)) pieces ≡ Some piece
    → holds piece.range hash ≡ true → changed.range ≡ piece.range
    → entry_in (set_value (is_at (nat_cmp piece.range.start)) pieces changed) hash grain ≡ entry_at grain changed.entries
changed_in hash grain [] piece changed rising found there held same = absurd (cc (there))
changed_in hash grain (e ∷ es) piece changed rising found there held same =
    on_bool (λ b. test e.0 ≡ b → cond b (Some e.1) (lookup test es) ≡ Some piece
    → entry_in (cond b ((e.0, changed) ∷ es) (e ∷ set_value test es changed)) hash grain ≡ entry_at grain changed.entries) (test e.0)
    (λ t at is. ap (λ b. of_found grain (cond b (Some (e.0, changed)) (find (λ x. holds x.1.range hash) es)))
    (ap (λ r. holds r hash) same ∙ held))
    (λ f at is. on_bool
    (λ b. option_map (λ x. x.1) (cond b (Some e) (find (λ x. holds x.1.range hash) es)) ≡ Some piece
    → of_found grain (cond b (Some e) (find (λ x. holds x.1.range hash) (set_value test es changed))) ≡ entry_at grain changed.entries)
    (holds e.1.range hash)
    (λ t so.
    let here : e.1 ≡ piece = cc (so) in
    let key : e.0 ≡ piece.range.start = rising.0 ∙ ap (λ (p : Piece). p.range.start) here in
    absurd (cc (sym at ∙ ap test key ∙ at_itself piece.range.start)))
    (λ u so. changed_in hash grain es piece changed rising.2 so is held same) found)
    refl there
  where
    test : ℕ → Bool
    test = is_at (nat_cmp piece.range.start)

-- ---- what is answered, and what the piece has then
record IsServedBy (piece : Piece) (request : Request) (is : Answered) : Type 0 where
  reply : is.reply ≡ (turned request.act piece.entries).reply
  entry : (grain : Grain) → entry_in is.holding.pieces request.hash grain ≡ entry_at grain (turned request.act piece.entries).table

served_so : (act : Act) (piece : Piece) (holding : Holding) (request : Request) → request.act ≡ act → Rising (ranges holding.pieces)
    → piece_with request.hash holding.pieces ≡ Some piece
    → IsServedBy piece (record request { act = act }) (served_by act piece holding request)
served_so (Register entry previous) piece holding request is rising found =
    record {
      reply = refl;
      entry = λ grain. changed_in request.hash grain holding.pieces piece
          (record piece { entries = (turned (Register entry previous) piece.entries).table }) rising found
          (stands_at request.hash holding.pieces piece rising found) (found_holds request.hash holding.pieces piece found) refl;
    }
served_so (Deregister entry) piece holding request is rising found =
    record {
      reply = refl;
      entry = λ grain. changed_in request.hash grain holding.pieces piece
          (record piece { entries = (turned (Deregister entry) piece.entries).table }) rising found
          (stands_at request.hash holding.pieces piece rising found) (found_holds request.hash holding.pieces piece found) refl;
    }
served_so (Find grain) piece holding request is rising found =
    record { reply = refl; entry = λ other. ap (option_and_then (λ (p : Piece). entry_at other p.entries)) found }

-- ---- a request that is served
module _ (hashing : Hashing) (holding : Holding) (are : ArePieces hashing holding.pieces) (map : Table)
    (is : IsMapOf hashing holding.pieces map) (request : Request) (hashed : request.hash ≡ hash_grain hashing (grain_of request.act))
    (piece : Piece) (serving : serving_piece holding request ≡ Ok piece) where
  abbrev about : Grain
  about = grain_of request.act

  under : StandUnderStarts holding.pieces
  under = All-weaker (λ e. IsPiece hashing e.0 e.1) (λ e. e.0 ≡ e.1.range.start) (λ e p. p.under) holding.pieces are.each

  rising : Rising (ranges holding.pieces)
  rising = starts_rise holding.pieces under are.rising

  found : piece_with request.hash holding.pieces ≡ Some piece
  found = (serves holding request piece serving).found

  answer_is : served_by request.act piece holding request ≡ answered holding request
  answer_is = ap (λ s. answered_from s holding request) (sym serving)

  served : IsServedBy piece request (answered holding request)
  served = subst (IsServedBy piece request) answer_is (served_so request.act piece holding request refl rising found)

  table_sorted : Sorted piece.entries
  table_sorted = found_table holding.pieces are.each found
    where
      found_table : (pieces : List (ℕ × Piece)) → All (λ e. IsPiece hashing e.0 e.1) pieces → piece_with request.hash pieces ≡ Some piece
          → Sorted piece.entries
      found_table [] all so = absurd (cc (so))
      found_table (e ∷ es) all so =
          on_bool (λ b. option_map (λ x. x.1) (cond b (Some e) (find (λ x. holds x.1.range request.hash) es)) ≡ Some piece
          → Sorted piece.entries) (holds e.1.range request.hash)
          (λ t here. let same : e.1 ≡ piece = cc (here) in
          subst (λ (p : Piece). Sorted p.entries) same (All-head (λ x. IsPiece hashing x.0 x.1) e es all).table.by_grain)
          (λ f later. found_table es (All-tail (λ x. IsPiece hashing x.0 x.1) e es all) later) so

  entries_same : entry_at about map ≡ entry_at about piece.entries
  entries_same =
      is.exact about ∙ ap (λ h. entry_in holding.pieces h about) (sym hashed)
      ∙ ap (option_and_then (λ (p : Piece). entry_at about p.entries)) found

  alike : AreAlike about (turned request.act map) (turned request.act piece.entries)
  alike = turned_alike map piece.entries is.by_grain table_sorted request.act entries_same

  left_exact : (other : Grain) → entry_at other (turned request.act map).table ≡ entry_in (answered holding request).holding.pieces
      (hash_grain hashing other) other
  left_exact other =
      on_bool (λ b. is_at (grain_cmp about) other ≡ b
      → entry_at other (turned request.act map).table ≡ entry_in (answered holding request).holding.pieces (hash_grain hashing other)
      other) (is_at (grain_cmp about) other)
      (λ t at.
      let same : about ≡ other = same_key grain_cmp grain_cmp_exact about other at in
      subst (λ g. entry_at g (turned request.act map).table ≡ entry_in (answered holding request).holding.pieces (hash_grain hashing g) g)
      same
      (alike.entry ∙ sym (served.entry about) ∙ ap (λ h. entry_in (answered holding request).holding.pieces h about) hashed))
      (λ f at.
      let apart : other ≢ about = λ same. absurd (cc (sym at ∙ ap (is_at (grain_cmp about)) same ∙ ap is_eq (tied_itself grain_cmp_total about))) in
      turned_leaves request.act map other apart ∙ is.exact other
      ∙ sym ((answers_leave_others holding request under are.rising).others (hash_grain hashing other) other apart))
      refl

  pub answered_by_map : IsAnsweredBy hashing map holding request
  answered_by_map = record {
    reply = served.reply ∙ sym alike.reply;
    left = record { by_grain = turned_sorted request.act map is.by_grain; exact = left_exact };
  }

-- ---- all entries together
abbrev first_of : Option Entry → Option Entry → Option Entry
first_of None other = other
first_of (Some entry) other = Some entry

fold_parts : (xs ys : List Entry) (table : Table) → fold with_entry table (xs ++ ys) ≡ fold with_entry (fold with_entry table xs) ys
fold_parts [] ys table = refl
fold_parts (x ∷ xs) ys table = fold_parts xs ys (with_entry table x)

-- entries of other grains change nothing
others_apart : (grain : Grain) (entries : List Entry) (table : Table) → All (λ e. is_at (grain_cmp grain) e.grain ≡ false) entries
    → entry_at grain (fold with_entry table entries) ≡ entry_at grain table
others_apart grain [] table all = refl
others_apart grain (e ∷ es) table all =
    others_apart grain es (with_entry table e) (All-tail (λ x. is_at (grain_cmp grain) x.grain ≡ false) e es all)
    ∙ put_apart grain e table (All-head (λ x. is_at (grain_cmp grain) x.grain ≡ false) e es all)

-- a table's entries win
own_first : (grain : Grain) (from : Table) (table : Table) → InOrder from
    → entry_at grain (fold with_entry table (entries_of from)) ≡ first_of (entry_at grain from) (entry_at grain table)
unfolding IsStrictlySortedBy
own_first grain [] table is = refl
own_first grain (x ∷ xs) table is =
    own_first grain xs (with_entry table x.1) (record {
      by_grain = is.by_grain.1;
      own_grain = All-tail
          (λ (e : Grain × Entry). e.0 ≡ e.1.grain) x xs is.own_grain;
    })
    ∙ on_bool (λ b. is_at (grain_cmp grain) x.0 ≡ b → first_of (entry_at grain xs) (entry_at grain (with_entry table x.1)) ≡ first_of
    (cond b (Some x.1) (entry_at grain xs)) (entry_at grain table)) (is_at (grain_cmp grain) x.0)
    (λ t at.
    let none : entry_at grain xs ≡ None = subst (λ b. entry_at grain (cond b xs (x ∷ remove_entry (is_at (grain_cmp grain)) xs)) ≡ None) at (lookup_removed grain_cmp grain_cmp_total grain (x ∷ xs) is.by_grain) in
    let same : grain ≡ x.1.grain = same_key grain_cmp grain_cmp_exact grain x.0 at ∙ own in
    ap (λ o. first_of o (entry_at grain (with_entry table x.1))) none ∙ ap (λ g. entry_at g (with_entry table x.1)) same
    ∙ put_found x.1 table)
    (λ f at. ap (first_of (entry_at grain xs)) (put_apart grain x.1 table (ap (is_at (grain_cmp grain)) (sym own) ∙ at)))
    refl
  where
    own : x.0 ≡ x.1.grain
    own = All-head (λ (e : Grain × Entry). e.0 ≡ e.1.grain) x xs is.own_grain

module _ (hashing : Hashing) (grain : Grain) where
  abbrev hash : ℕ
  hash = hash_grain hashing grain

  -- a piece that doesn't hold the hash has no entry of the grain
  apart_in : (range : Range) (table : Table) → holds range hash ≡ false → All (λ e. holds range (hash_grain hashing e.1.grain) ≡ true) table
      → All (λ e. is_at (grain_cmp grain) e.grain ≡ false) (entries_of table)
  apart_in range [] apart all = All-nil _
  apart_in range (x ∷ xs) apart all =
      All-cons (λ e. is_at (grain_cmp grain) e.grain ≡ false) x.1 (entries_of xs)
      (on_bool (λ b. is_at (grain_cmp grain) x.1.grain ≡ b → b ≡ false) (is_at (grain_cmp grain) x.1.grain)
      (λ t at.
      let same : grain ≡ x.1.grain = same_key grain_cmp grain_cmp_exact grain x.1.grain at in
      absurd (cc (sym apart ∙ ap (λ g. holds range (hash_grain hashing g)) same
      ∙ All-head (λ (e : Grain × Entry). holds range (hash_grain hashing e.1.grain) ≡ true) x xs all)))
      (λ f at. refl) refl)
      (apart_in range xs apart (All-tail (λ (e : Grain × Entry). holds range (hash_grain hashing e.1.grain) ≡ true) x xs all))

  none_held : (pieces : List (ℕ × Piece)) (table : Table) → All (λ e. IsPiece hashing e.0 e.1) pieces → holding hash pieces ≤ 0
      → entry_at grain (fold with_entry table (flat_map (λ e. entries_of e.1.entries) pieces)) ≡ entry_at grain table
  none_held [] table all none = refl
  none_held (e ∷ es) table all none =
      ap (entry_at grain) (fold_parts (entries_of e.1.entries) (flat_map (λ x. entries_of x.1.entries) es) table)
      ∙ on_bool (λ b. holds e.1.range hash ≡ b → entry_at grain
      (fold with_entry (fold with_entry table (entries_of e.1.entries)) (flat_map (λ x. entries_of x.1.entries) es)) ≡ entry_at grain table)
      (holds e.1.range hash)
      (λ t held. let count = counted hash e es true held in absurd (omega (count, none, arith)))
      (λ f apart.
      let count = counted hash e es false apart in
      none_held es (fold with_entry table (entries_of e.1.entries)) (All-tail (λ x. IsPiece hashing x.0 x.1) e es all)
      (omega (count, none, arith))
      ∙ others_apart grain (entries_of e.1.entries) table
      (apart_in e.1.range e.1.entries apart (All-head (λ x. IsPiece hashing x.0 x.1) e es all).table.placed))
      refl

  together_has : (pieces : List (ℕ × Piece)) (table : Table) → All (λ e. IsPiece hashing e.0 e.1) pieces → holding hash pieces ≤ 1
      → entry_at grain (fold with_entry table (flat_map (λ e. entries_of e.1.entries) pieces)) ≡ first_of (entry_in pieces hash grain)
      (entry_at grain table)
  together_has [] table all once = refl
  together_has (e ∷ es) table all once =
      ap (entry_at grain) (fold_parts (entries_of e.1.entries) (flat_map (λ x. entries_of x.1.entries) es) table)
      ∙ on_bool
      (λ b. holds e.1.range hash ≡ b → entry_at grain
      (fold with_entry (fold with_entry table (entries_of e.1.entries)) (flat_map (λ x. entries_of x.1.entries) es))
      ≡ first_of (of_found grain (cond b (Some e) (find (λ x. holds x.1.range hash) es))) (entry_at grain table)) (holds e.1.range hash)
      (λ t held.
      let count = counted hash e es true held in
      none_held es (fold with_entry table (entries_of e.1.entries)) (All-tail (λ x. IsPiece hashing x.0 x.1) e es all)
      (omega (count, once, arith))
      ∙ own_first grain e.1.entries table (record { by_grain = piece.table.by_grain; own_grain = piece.table.own_grain }))
      (λ f apart.
      let count = counted hash e es false apart in
      together_has es (fold with_entry table (entries_of e.1.entries)) (All-tail (λ x. IsPiece hashing x.0 x.1) e es all)
      (omega (count, once, arith))
      ∙ ap (first_of (entry_in es hash grain)) (others_apart grain (entries_of e.1.entries) table
      (apart_in e.1.range e.1.entries apart piece.table.placed)))
      refl
    where
      piece : IsPiece hashing e.0 e.1
      piece = All-head (λ x. IsPiece hashing x.0 x.1) e es all

first_or_none : (o : Option Entry) → first_of o None ≡ o
first_or_none None = refl
first_or_none (Some e) = refl

-- ---- the laws
pub nodes_have_one_map : NodesHaveOneMap
nodes_have_one_map settings events silo node is = record {
  by_grain = (all_ordered (flat_map (λ e. entries_of e.1.entries) node.holding.pieces) [] order_nil).by_grain;
  exact = λ grain.
      let hash = hash_grain settings.hashing grain in
      let count = (pieces_are_owned settings events silo node is).once hash (grains_have_hashes settings.hashing grain) in
      together_has settings.hashing grain node.holding.pieces [] (nodes_have_pieces settings events silo node is).pieces.each
      (at_most_one (is_owner silo (owner_silo node.ring.points hash)) (holding hash node.holding.pieces) count)
      ∙ first_or_none (entry_in node.holding.pieces hash grain);
}

pub nodes_answer_by_one_map : NodesAnswerByOneMap
nodes_answer_by_one_map settings events silo node is map are request hashed piece serving =
    answered_by_map settings.hashing node.holding (nodes_have_pieces settings events silo node is).pieces map are request hashed piece
    serving

-- How many entries a settled range has, counted by a walk from piece to piece: as many as would be listed were no silo dead.
use Rattle.std.proofs.Common.{arith, ◌≡◌, refl, sym, ap, ◌∙◌, ℕ, ◌+◌, ◌<◌, ◌≤◌, List, [], ◌∷◌, ◌++◌, length}
use Rattle.std.specs.Prelude.{Bool, true, false, cond, ◌&&◌, not, Some, filter, flat_map, fold}
use Rattle.std.proofs.lemmas.List.{length-append}
use Rattle.std.proofs.lemmas.List.Elements.{filter-append}
use Rattle.std.proofs.lemmas.List.Sorted.{IsPermutation-refl, length_permutation}
use Rattle.std.proofs.lemmas.List.Sums.{count_by-le-length, length-filter}
use Rattle.std.proofs.lemmas.Map.Entries.{length-values_of}
use Rattle.std.proofs.lemmas.Bool.{and_from}
use Rattle.silo_address.specs.declared.Entry.{Entry}
use Rattle.membership_view.specs.View.{ViewValue}
use Rattle.texts.proofs.Decided.{both}
use Rattle.ring_range.specs.Range.{circle, Range, IsRange, holds}
use Rattle.hash_ring.specs.declared.Hashing.{Hashing}
use Rattle.hash_ring.specs.Hash.{hash_grain}
use Rattle.directory_rules.specs.Answer.{piece_with}
use Rattle.directory_rules.specs.Members.{is_dead_in}
use Rattle.directory_rules.specs.State.{Piece, Table}
use Rattle.directory_rules.specs.Sight.{all_entries, entries_within, is_kept, is_settled, kept_entries, settled_pieces, was_settled}
use Rattle.directory_rules.specs.Table.{entries_of, lie_in, with_entry}
use Rattle.directory_rules.specs.Laws.{lies_settled}
use Rattle.directory_rules.proofs.Cases.{on_bool}
use Rattle.grain_partition.specs.Holdings.{ArePieces, are_tidy}
use Rattle.grain_partition.proofs.ListsByWalk.{AreListed, front, listed_all, listed_more, listed_none, same_picked}
use Rattle.grain_partition.proofs.OnePiece.{counted, found_counts, one_for, passing}
use Rattle.grain_partition.proofs.SettledHashes.{passes_of_any, settles}
use Rattle.grain_partition.proofs.SettledParts.{Decides-was_settled}
use Rattle.grain_partition.proofs.Tidy.{by_range, kept_by_steps, none_pass}
use Rattle.grain_partition.proofs.Walks.{part_behind}

-- ---- What pieces have that aren't settled doesn't count.
abbrev unsettled : ℕ → Piece → Bool
unsettled hash piece = not (is_settled piece.state) && holds piece.range hash

module _ (hashing : Hashing) (range : Range) where
  abbrev is_within : Entry → Bool
  is_within e = holds range (hash_grain hashing e.grain)

  abbrev entries_in : List (ℕ × Piece) → List Entry
  entries_in pieces = flat_map (λ e. entries_of e.1.entries) pieces

  -- where no unsettled piece has a hash of the range, the entries that pass are those of the settled ones
  settled_pass : (es : List (ℕ × Piece)) → are_tidy hashing es ≡ true
      → ((hash : ℕ) → hash < circle → holds range hash ≡ true → passing (unsettled hash) es ≡ 0)
      → filter is_within (entries_in es) ≡ filter is_within (entries_in (settled_pieces es))
  settled_pass [] tidy miss = refl
  settled_pass (e ∷ es) tidy miss =
      filter-append is_within (entries_of e.1.entries) (entries_in es)
      ∙ by (is_settled e.1.state) refl (settled_pass es so.1
      (λ hash below held. let none = miss hash below held in omega (arith, none, counted (unsettled hash) e es)))
    where
      so : (lie_in hashing e.1.range (entries_of e.1.entries) ≡ true) × (are_tidy hashing es ≡ true)
      so = both (lie_in hashing e.1.range (entries_of e.1.entries)) (are_tidy hashing es) tidy

      apart : is_settled e.1.state ≡ false → (hash : ℕ) → hash < circle → holds e.1.range hash ≡ true → holds range hash ≡ false
      apart is hash below here =
          on_bool (λ b. holds range hash ≡ b → b ≡ false) (holds range hash)
          (λ t held.
          let none = miss hash below held in
          let one = one_for (unsettled hash) (unsettled hash e.1) (and_from (not (is_settled e.1.state)) (holds e.1.range hash) (ap not is) here) in
          absurd (omega (arith, none, one, counted (unsettled hash) e es)))
          (λ f held. refl) refl

      by : (b : Bool) → is_settled e.1.state ≡ b → filter is_within (entries_in es) ≡ filter is_within (entries_in (settled_pieces es))
          → filter is_within (entries_of e.1.entries) ++ filter is_within (entries_in es) ≡ filter is_within
          (entries_in (cond b (e ∷ settled_pieces es) (settled_pieces es)))
      by true is rest =
          ap (λ l. filter is_within (entries_of e.1.entries) ++ l) rest
          ∙ sym (filter-append is_within (entries_of e.1.entries) (entries_in (settled_pieces es)))
      by false is rest =
          ap (λ l. l ++ filter is_within (entries_in es)) (none_pass hashing range e.1.range (apart is) (entries_of e.1.entries) so.0)
          ∙ rest

-- a piece that has the hash is settled or not
by_state : (settled has : Bool) → cond has 1 0 ≡ cond (settled && has) 1 0 + cond (not settled && has) 1 0
by_state true true = refl
by_state true false = refl
by_state false true = refl
by_state false false = refl

both_states : (hash : ℕ) (es : List (ℕ × Piece)) → passing (λ p. holds p.range hash) es ≡ passing (settles hash) es + passing
    (unsettled hash) es
both_states hash [] = refl
both_states hash (e ∷ es) =
    let one = by_state (is_settled e.1.state) (holds e.1.range hash) in
    let all = counted (λ (p : Piece). holds p.range hash) e es in
    let are = counted (settles hash) e es in
    let not_are = counted (unsettled hash) e es in
    omega (arith, one, all, are, not_are, both_states hash es)

module _ (hashing : Hashing) (pieces : List (ℕ × Piece)) (are : ArePieces pieces) (tidy : are_tidy hashing pieces ≡ true) where
  -- a hash in a settled piece is in no other
  settled_alone : (hash : ℕ) → hash < circle → lies_settled hash pieces ≡ true → passing (unsettled hash) pieces ≡ 0
  settled_alone hash below lies =
      let one = passes_of_any (settles hash) pieces are.in_order lies in
      let some = found_counts (settles hash) pieces one.key one.value one.there one.passes in
      let few = are.once hash below in
      omega (arith, some, few, both_states hash pieces)

  -- in a settled range all entries are those of settled pieces
  pub settled_have_all : (range : Range) → IsRange range → was_settled pieces range ≡ true
      → filter (λ e. holds range (hash_grain hashing e.0)) (all_entries pieces) ≡ filter (λ e. holds range (hash_grain hashing e.0))
      (all_entries (settled_pieces pieces))
  settled_have_all range ok settled =
      by_range hashing range pieces
      ∙ ap (fold with_entry [])
      (settled_pass hashing range pieces tidy (λ hash below held. settled_alone hash below
      ((Decides-was_settled pieces are range ok).0 settled hash below held)))
      ∙ sym (by_range hashing range (settled_pieces pieces))

-- ---- The walk.
-- a view without silos, in which none is dead
abbrev pub nobody : ViewValue
nobody = record { version = 0; rows = [] }

kept_by_all : (range : Bool) → (range && not false) ≡ range
kept_by_all true = refl
kept_by_all false = refl

all_living : (table : Table) → filter (λ e. not (is_dead_in nobody e.1.activation.silo)) table ≡ table
all_living [] = refl
all_living (e ∷ es) = ap (λ l. e ∷ l) (all_living es)

module _ (hashing : Hashing) (pieces : List (ℕ × Piece)) (range : Range) where
  -- what isn't in the rest is counted: as many as are listed
  pub record AreCounted (rest : Range) (count : ℕ) : Type 0 where
    pub entries : List Entry
    pub listed : AreListed hashing nobody pieces range rest entries
    pub long : count ≡ length entries

  pub counted_none : AreCounted range 0
  counted_none = record { entries = []; listed = listed_none hashing nobody pieces range; long = refl }

  -- they are no more than all entries
  pub counted_fits : (rest : Range) (count : ℕ) → AreCounted rest count → count ≤ length (all_entries pieces)
  counted_fits rest count so =
      let p : Entry → Bool = λ e. is_kept hashing nobody range e && not (holds rest (hash_grain hashing e.grain)) in
      let long = so.long in
      let same = length_permutation _ _ so.listed.are in
      let picked = length-filter p (entries_of (all_entries pieces)) in
      let few = count_by-le-length p (entries_of (all_entries pieces)) in
      let all = length-values_of (all_entries pieces) in
      omega (arith, long, same, picked, few, all)

  module _ (are : ArePieces pieces) (tidy : are_tidy hashing pieces ≡ true) where
    -- once the rest has no hash, all are counted
    pub counted_all : IsRange range → was_settled pieces range ≡ true → (rest : Range) (count : ℕ) → rest.size ≡ 0 → AreCounted rest count
        → count ≡ entries_within hashing pieces range
    counted_all ok settled rest count none so =
        so.long
        ∙ length_permutation _ _ (listed_all hashing nobody pieces range rest so.entries none so.listed)
        ∙ length-values_of (kept_entries hashing nobody pieces range)
        ∙ ap length
        (sym (kept_by_steps hashing nobody range pieces)
        ∙ all_living (filter (λ e. holds range (hash_grain hashing e.0)) (all_entries pieces))
        ∙ settled_have_all hashing pieces are tidy range ok settled)

    -- one piece more
    pub counted_more : (rest : Range) (ok : IsRange rest) (some : 0 < rest.size) (settled : was_settled pieces rest ≡ true) (piece : Piece)
        (with : piece_with rest.start pieces ≡ Some piece)
        (again : fold with_entry [] (entries_of piece.entries) ≡ piece.entries) (count more : ℕ)
        → more ≡ length (filter (λ e. holds (front hashing nobody pieces range are tidy rest ok some settled piece with again)
        (hash_grain hashing e.grain)) (entries_of piece.entries))
        → AreCounted rest count → AreCounted (part_behind rest piece.range) (count + more)
    counted_more rest ok some settled piece with again count more is so =
        let first : Range = front hashing nobody pieces range are tidy rest ok some settled piece with again in
        let picked : List Entry = filter (is_kept hashing nobody first) (entries_of piece.entries) in
        let same = same_picked (λ e. holds first (hash_grain hashing e.grain)) (is_kept hashing nobody first) (λ e. sym (kept_by_all (holds first (hash_grain hashing e.grain)))) (entries_of piece.entries) in
        let as_many : more ≡ length picked = is ∙ ap length same in
        let long = so.long in
        record {
          entries = so.entries ++ picked;
          listed =
              listed_more hashing nobody pieces range are tidy rest ok some settled piece with again so.entries (so.entries ++ picked)
              (IsPermutation-refl _) so.listed;
          long = omega (arith, long, as_many, length-append so.entries picked);
        }

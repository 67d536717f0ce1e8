-- What is kept in a range, listed by a walk from piece to piece: what is listed so far.
use Rattle.std.proofs.Common.{arith, ◌≡◌, refl, sym, ap, ◌∙◌, subst, ℕ, ◌-◌, ◌<◌, List, [], ◌∷◌, ◌++◌, append-nil, nat_le, nat_lt}
use Rattle.std.specs.Prelude.{Bool, true, false, cond, ◌&&◌, not, Some, filter, flat_map, fold}
use Rattle.std.specs.List.Sorted.{IsPermutation, IsSorted}
use Rattle.std.proofs.lemmas.Bool.Decides.{nat_tests}
use Rattle.std.proofs.lemmas.List.Sorted.{IsPermutation-append_left, IsPermutation-cons, IsPermutation-middle, IsPermutation-refl, IsPermutation-sym, IsPermutation-trans}
use Rattle.silo_address.specs.Activation.{entry_cmp}
use Rattle.silo_address.specs.declared.Entry.{Entry}
use Rattle.membership_view.specs.View.{ViewValue}
use Rattle.texts.proofs.Decided.{both}
use Rattle.ring_range.specs.Range.{circle, Range, IsRange, distance, holds}
use Rattle.ring_range.proofs.Parts.{size-part}
use Rattle.hash_ring.specs.declared.Hashing.{Hashing}
use Rattle.hash_ring.specs.Hash.{hash_grain}
use Rattle.directory_rules.specs.Answer.{piece_with}
use Rattle.directory_rules.specs.Members.{is_dead_in}
use Rattle.directory_rules.specs.State.{Piece}
use Rattle.directory_rules.specs.Sight.{all_entries, is_kept, kept_entries, was_settled}
use Rattle.directory_rules.specs.Table.{entries_of, with_entry}
use Rattle.directory_rules.proofs.Cases.{on_bool}
use Rattle.grain_table.proofs.ByGrain.{nothing_is_table}
use Rattle.grain_table.proofs.Filters.{passed_is_table}
use Rattle.hash_ring.proofs.HashesBelow.{grain_below}
use Rattle.grain_table.proofs.Listed.{values_kept}
use Rattle.grain_table.proofs.Put.{put_in_is_table}
use Rattle.grain_table.proofs.Sorted.{sorted_again}
use Rattle.grain_partition.specs.Holdings.{ArePieces, are_tidy}
use Rattle.grain_partition.specs.Search.{SettlesAt}
use Rattle.grain_partition.proofs.EntriesByWalk.{settles_at}
use Rattle.grain_partition.proofs.ServedFrom.{found_with}
use Rattle.grain_partition.proofs.Tidy.{kept_of_part}
use Rattle.grain_partition.proofs.Walks.{behind_first, behind_in_range, behind_is, part_behind}

-- ---- A list by two tests that never hold at once.
module _ (p q r : Entry → Bool) (one : (e : Entry) → r e ≡ cond (p e) true (q e)) (apart : (e : Entry) → p e ≡ true → q e ≡ false) where
  split : (es : List Entry) → IsPermutation (filter r es) (filter p es ++ filter q es)
  split [] = IsPermutation-refl []
  split (e ∷ es) =
      subst (λ b. IsPermutation (cond b (e ∷ filter r es) (filter r es)) (filter p (e ∷ es) ++ filter q (e ∷ es))) (sym (one e))
      (by (p e) (q e) refl refl (split es))
    where
      by : (a b : Bool) → p e ≡ a → q e ≡ b → IsPermutation (filter r es) (filter p es ++ filter q es)
          → IsPermutation (cond (cond a true b) (e ∷ filter r es) (filter r es))
          (cond a (e ∷ filter p es) (filter p es) ++ cond b (e ∷ filter q es) (filter q es))
      by true true is other rest = absurd (let no : true ≡ false = sym other ∙ apart e is in cc)
      by true false is other rest = IsPermutation-cons e _ _ rest
      by false true is other rest =
          IsPermutation-trans _ _ _ (IsPermutation-cons e _ _ rest)
          (IsPermutation-sym _ _ (IsPermutation-middle (filter p es) e (filter q es)))
      by false false is other rest = rest

pub same_picked : (p q : Entry → Bool) → ((e : Entry) → p e ≡ q e) → (es : List Entry) → filter p es ≡ filter q es
same_picked p q same [] = refl
same_picked p q same (e ∷ es) = λ i. cond (same e i) (e ∷ same_picked p q same es i) (same_picked p q same es i)

none_picked : (p : Entry → Bool) → ((e : Entry) → p e ≡ false) → (es : List Entry) → filter p es ≡ []
none_picked p none [] = refl
none_picked p none (e ∷ es) = ap (λ b. cond b (e ∷ filter p es) (filter p es)) (none e) ∙ none_picked p none es

-- ---- Tests of a hash: in the range, on a living silo, in the rest, behind.
one_of : (range living rest behind : Bool) → (rest ≡ true → range ≡ true) → (behind ≡ true → rest ≡ true)
    → ((range && living) && not behind) ≡ cond ((range && living) && not rest) true ((rest && not behind) && living)
one_of range living false true inner last = absurd (let no : false ≡ true = last refl in cc)
one_of false living true behind inner last = absurd (let no : false ≡ true = inner refl in cc)
one_of true true true true inner last = refl
one_of true true true false inner last = refl
one_of true false true true inner last = refl
one_of true false true false inner last = refl
one_of true true false false inner last = refl
one_of true false false false inner last = refl
one_of false living false false inner last = refl

not_both : (kept living rest behind : Bool) → (kept && not rest) ≡ true → ((rest && not behind) && living) ≡ false
not_both kept living false behind is = refl
not_both false living true behind is = absurd (let no : false ≡ true = is in cc)
not_both true living true behind is = absurd (let no : false ≡ true = is in cc)

without_rest : (kept rest : Bool) → rest ≡ false → kept ≡ (kept && not rest)
without_rest true rest none = ap not (sym none)
without_rest false rest none = refl

all_rest : (range living : Bool) → ((range && living) && not range) ≡ false
all_rest true true = refl
all_rest true false = refl
all_rest false living = refl

front_test : (steps size covered : ℕ) → nat_lt steps (size - (size - covered))
    ≡ (nat_lt steps size && not (nat_le covered steps && nat_lt steps size))
front_test steps size covered = grind (arith, nat_tests)

no_steps : (steps size : ℕ) → size ≡ 0 → nat_lt steps size ≡ false
no_steps steps size none = grind (arith, nat_tests)

-- ---- The walk.
module _ (hashing : Hashing) (view : ViewValue) (pieces : List (ℕ × Piece)) (range : Range) where
  abbrev all : List Entry
  all = entries_of (all_entries pieces)

  -- what is kept, and isn't in the rest
  abbrev is_listed : Range → Entry → Bool
  is_listed rest e = is_kept hashing view range e && not (holds rest (hash_grain hashing e.grain))

  -- each hash of the rest is the range's, and what isn't in the rest is listed
  pub record AreListed (rest : Range) (entries : List Entry) : Type 0 where
    pub inner : (hash : ℕ) → hash < circle → holds rest hash ≡ true → holds range hash ≡ true
    pub are : IsPermutation (filter (is_listed rest) all) entries

  pub listed_none : AreListed range []
  listed_none = record {
    inner = λ hash below held. held;
    are = subst (λ l. IsPermutation l [])
        (sym (none_picked (is_listed range) (λ e. all_rest (holds range (hash_grain hashing e.grain))
        (not (is_dead_in view e.activation.silo))) all)) (IsPermutation-refl []);
  }

  kept_is : filter (is_kept hashing view range) all ≡ entries_of (kept_entries hashing view pieces range)
  kept_is = sym (values_kept (is_kept hashing view range) (all_entries pieces))

  -- once the rest has no hash, all is listed
  pub listed_all : (rest : Range) (entries : List Entry) → rest.size ≡ 0 → AreListed rest entries
      → IsPermutation (entries_of (kept_entries hashing view pieces range)) entries
  listed_all rest entries none listed =
      subst (λ l. IsPermutation l entries)
      (sym (same_picked (is_kept hashing view range) (is_listed rest)
      (λ e. without_rest (is_kept hashing view range e) (holds rest (hash_grain hashing e.grain))
      (no_steps (distance rest.start (hash_grain hashing e.grain)) rest.size none)) all)
      ∙ kept_is) listed.are

  -- and sorted it is what is kept
  pub listed_sorted : (sorted : List Entry) → IsPermutation (entries_of (kept_entries hashing view pieces range)) sorted
      → IsSorted entry_cmp sorted
      → sorted ≡ entries_of (kept_entries hashing view pieces range)
  listed_sorted sorted moved in_order =
      sorted_again (kept_entries hashing view pieces range)
      (passed_is_table (λ e. is_kept hashing view range e.1) (all_entries pieces)
      (put_in_is_table [] (flat_map (λ e. entries_of e.1.entries) pieces) nothing_is_table)) sorted moved in_order

  -- ---- One piece more.
  module _ (are : ArePieces pieces) (tidy : are_tidy hashing pieces ≡ true) (rest : Range) (ok : IsRange rest) (some : 0 < rest.size)
      (settled : was_settled pieces rest ≡ true)
      (piece : Piece) (with : piece_with rest.start pieces ≡ Some piece)
      (again : fold with_entry [] (entries_of piece.entries) ≡ piece.entries) where
    abbrev behind : Range
    behind = part_behind rest piece.range

    at : SettlesAt pieces rest.start piece.range
    at = settles_at hashing pieces are range rest ok some settled piece with

    -- what of the rest the piece has
    abbrev pub front : Range
    front = record { start = rest.start; size = rest.size - behind.size }

    front_is : (hash : ℕ) → hash < circle → holds front hash ≡ (holds rest hash && not (holds behind hash))
    front_is hash below =
        ap (λ n. nat_lt (distance rest.start hash) (rest.size - n))
        (size-part rest (piece.range.size - distance piece.range.start rest.start) rest.size)
        ∙ front_test (distance rest.start hash) rest.size (piece.range.size - distance piece.range.start rest.start)
        ∙ ap (λ b. holds rest hash && not b) (sym (behind_is pieces are rest ok piece.range at hash below))

    last : (hash : ℕ) → hash < circle → holds behind hash ≡ true → holds rest hash ≡ true
    last hash below held = behind_in_range pieces are rest ok piece.range at hash below held

    pub inside : (hash : ℕ) → hash < circle → holds front hash ≡ true → holds piece.range hash ≡ true
    inside hash below held =
        on_bool (λ b. holds piece.range hash ≡ b → b ≡ true) (holds piece.range hash) (λ t has. refl)
        (λ f apart.
        let so = both (holds rest hash) (not (holds behind hash)) (sym (front_is hash below) ∙ held) in
        let is : holds behind hash ≡ true = behind_first pieces are rest ok piece.range at hash below so.0 apart in
        let no : false ≡ true = ap not (sym is) ∙ so.1 in cc) refl

    picked_is : filter (is_kept hashing view front) (entries_of piece.entries) ≡ filter (is_kept hashing view front) all
    picked_is =
        ap (λ t. filter (is_kept hashing view front) (entries_of t))
        (sym again ∙ ap (fold with_entry []) (sym (append-nil (entries_of piece.entries))))
        ∙ sym (values_kept (is_kept hashing view front) (all_entries ((0, piece) ∷ [])))
        ∙ ap entries_of (kept_of_part hashing view pieces are tidy front piece.range.start piece
        (found_with rest.start pieces are piece with) inside)
        ∙ values_kept (is_kept hashing view front) (all_entries pieces)

    pub listed_more : (entries listed : List Entry) → IsPermutation
        (entries ++ filter (is_kept hashing view front) (entries_of piece.entries)) listed → AreListed rest entries
        → AreListed behind listed
    listed_more entries listed moved so_far = record {
      inner = λ hash below held. so_far.inner hash below (last hash below held);
      are = IsPermutation-trans _ _ _ (split (is_listed rest) (is_kept hashing view front) (is_listed behind) one apart all)
          (IsPermutation-trans _ _ _ (IsPermutation-append_left (filter (is_kept hashing view front) all) _ _ so_far.are)
          (subst (λ l. IsPermutation (entries ++ l) listed) picked_is moved));
    }
      where
        is_living : Entry → Bool
        is_living e = not (is_dead_in view e.activation.silo)

        one : (e : Entry) → is_listed behind e ≡ cond (is_listed rest e) true (is_kept hashing view front e)
        one e =
            let below = grain_below hashing e.grain in
            one_of (holds range (hash_grain hashing e.grain)) (is_living e) (holds rest (hash_grain hashing e.grain))
            (holds behind (hash_grain hashing e.grain))
            (so_far.inner (hash_grain hashing e.grain) below) (last (hash_grain hashing e.grain) below)
            ∙ ap (λ b. cond (is_listed rest e) true (b && is_living e)) (sym (front_is (hash_grain hashing e.grain) below))

        apart : (e : Entry) → is_listed rest e ≡ true → is_kept hashing view front e ≡ false
        apart e is =
            ap (λ b. b && is_living e) (front_is (hash_grain hashing e.grain) (grain_below hashing e.grain))
            ∙ not_both (is_kept hashing view range e) (is_living e) (holds rest (hash_grain hashing e.grain))
            (holds behind (hash_grain hashing e.grain)) is

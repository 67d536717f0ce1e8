-- The pieces, each with just those of its entries that are hashed into its range: they are pieces as before, settled where they
-- were, and tidy; and a walk from piece to piece counts what they have.
use Rattle.std.proofs.Common.{◌≡◌, refl, sym, ap, ◌∙◌, subst, ℕ, ◌+◌, ◌-◌, ◌<◌, ◌≤◌, List, [], ◌∷◌, length, find}
use Rattle.std.specs.Prelude.{Bool, true, false, cond, if◌then◌else◌, ◌&&◌, ◌||◌, Some, None, count_by, filter, fold}
use Rattle.std.specs.List.{list_all}
use Rattle.std.specs.List.Sorted.{IsStrictlySortedBy}
use Rattle.std.specs.Option.{option_map}
use Rattle.std.specs.Ordering.{nat_cmp}
use Rattle.std.proofs.lemmas.List.Elements.{All-map, filter_passes}
use Rattle.std.proofs.lemmas.List.Sums.{list_all-from_AllPass, sum_by-cons}
use Rattle.std.proofs.lemmas.Map.Made.{keys_of-map_values}
use Rattle.std.proofs.lemmas.Bool.{and_from}
use Rattle.silo_address.specs.declared.Entry.{Entry}
use Rattle.texts.proofs.Decided.{both}
use Rattle.ring_range.specs.Cut.{cut_parts}
use Rattle.ring_range.specs.Range.{Range, IsRange, holds, within}
use Rattle.hash_ring.specs.declared.Hashing.{Hashing}
use Rattle.hash_ring.specs.Hash.{hash_grain}
use Rattle.directory_rules.specs.Answer.{piece_with}
use Rattle.directory_rules.specs.State.{Piece, Table}
use Rattle.directory_rules.specs.Sight.{entries_within, is_in_settled, is_settled, was_settled}
use Rattle.directory_rules.specs.Table.{entries_of, lie_in, with_entry}
use Rattle.grain_table.proofs.ByGrain.{IsTable, nothing_is_table}
use Rattle.grain_table.proofs.Filters.{passed_is_table}
use Rattle.hash_ring.proofs.HashesBelow.{grain_below}
use Rattle.grain_table.proofs.Listed.{values_kept}
use Rattle.grain_table.proofs.Put.{put_in_is_table, put_in_nothing}
use Rattle.grain_partition.specs.Holdings.{ArePieces, are_tidy, tidied, settled_entries}
use Rattle.grain_partition.proofs.Counted.{AreCounted, counted_all, counted_more, nobody}
use Rattle.grain_partition.proofs.ListsByWalk.{inside}
use Rattle.grain_partition.proofs.Walks.{part_behind}

-- what passes one test is among what passes a wider one
narrowed : (p q : Entry → Bool) → ((e : Entry) → p e ≡ true → q e ≡ true) → (es : List Entry) → filter p (filter q es) ≡ filter p es
narrowed p q inner [] = refl
narrowed p q inner (e ∷ es) = by (p e) (q e) refl refl (narrowed p q inner es)
  where
    by : (a b : Bool) → p e ≡ a → q e ≡ b → filter p (filter q es) ≡ filter p es
        → filter p (cond b (e ∷ filter q es) (filter q es)) ≡ cond a (e ∷ filter p es) (filter p es)
    by true true is so rest = ap (λ c. cond c (e ∷ filter p (filter q es)) (filter p (filter q es))) is ∙ ap (λ l. e ∷ l) rest
    by true false is so rest = absurd (let no : false ≡ true = sym so ∙ inner e is in cc)
    by false true is so rest = ap (λ c. cond c (e ∷ filter p (filter q es)) (filter p (filter q es))) is ∙ rest
    by false false is so rest = rest

module _ (hashing : Hashing) where
  -- ---- One piece.
  abbrev is_own : Piece → Entry → Bool
  is_own piece entry = holds piece.range (hash_grain hashing entry.grain)

  abbrev own : Piece → Piece
  own piece = record piece { entries = filter (λ t. is_own piece t.1) piece.entries }

  own_entries : (piece : Piece) → entries_of (own piece).entries ≡ filter (is_own piece) (entries_of piece.entries)
  own_entries piece = values_kept (is_own piece) piece.entries

  own_lie : (piece : Piece) → lie_in hashing piece.range (entries_of (own piece).entries) ≡ true
  own_lie piece =
      ap (lie_in hashing piece.range) (own_entries piece)
      ∙ list_all-from_AllPass (is_own piece) (filter (is_own piece) (entries_of piece.entries))
      (filter_passes (is_own piece) (entries_of piece.entries))

  -- its table is made again of its entries, as it was
  own_again : (piece : Piece) → fold with_entry [] (entries_of piece.entries) ≡ piece.entries
      → fold with_entry [] (entries_of (own piece).entries) ≡ (own piece).entries
  own_again piece again =
      put_in_nothing (own piece).entries
      (passed_is_table (λ t. is_own piece t.1) piece.entries
      (subst IsTable again (put_in_is_table [] (entries_of piece.entries) nothing_is_table)))

  -- where all its entries are its own, all are left
  all_own : (range : Range) (table : Table) → lie_in hashing range (entries_of table) ≡ true
      → filter (λ t. holds range (hash_grain hashing t.1.grain)) table ≡ table
  all_own range [] lie = refl
  all_own range (t ∷ ts) lie =
      let so = both (holds range (hash_grain hashing t.1.grain)) (lie_in hashing range (entries_of ts)) lie in
      λ i. cond (so.0 i) (t ∷ all_own range ts so.1 i) (all_own range ts so.1 i)

  -- ---- All pieces: their ranges and their states stay.
  abbrev at : ℕ × Piece → ℕ × Piece
  at e = (e.0, own e.1)

  having-tidied : (p : Range → Bool) (es : List (ℕ × Piece))
      → count_by (λ e. p e.1.range) (tidied hashing es) ≡ count_by (λ e. p e.1.range) es
  having-tidied p [] = refl
  having-tidied p (e ∷ es) =
      sum_by-cons (λ (x : ℕ × Piece). cond (p x.1.range) 1 0) (at e) (tidied hashing es)
      ∙ ap (λ n. cond (p e.1.range) 1 0 + n) (having-tidied p es)
      ∙ sym (sum_by-cons (λ (x : ℕ × Piece). cond (p x.1.range) 1 0) e es)

  pub pieces-tidied : (pieces : List (ℕ × Piece)) → ArePieces pieces → ArePieces (tidied hashing pieces)
  pieces-tidied pieces are = record {
    in_order = subst (IsStrictlySortedBy nat_cmp) (sym (keys_of-map_values own pieces)) are.in_order;
    under_start = All-map (λ (e : ℕ × Piece). e.1.range.start ≡ e.0) at pieces are.under_start;
    ranges = All-map (λ (e : ℕ × Piece). IsRange e.1.range) at pieces are.ranges;
    present = All-map (λ (e : ℕ × Piece). 0 < e.1.range.size) at pieces are.present;
    once = λ hash below. subst (λ n. n ≤ 1) (sym (having-tidied (λ r. holds r hash) pieces)) (are.once hash below);
  }

  pub are_tidy-tidied : (pieces : List (ℕ × Piece)) → are_tidy hashing (tidied hashing pieces) ≡ true
  are_tidy-tidied [] = refl
  are_tidy-tidied (e ∷ es) =
      and_from (lie_in hashing e.1.range (entries_of (own e.1).entries)) (are_tidy hashing (tidied hashing es)) (own_lie e.1)
      (are_tidy-tidied es)

  -- tidy pieces stay as they are
  pub tidied-tidy : (pieces : List (ℕ × Piece)) → are_tidy hashing pieces ≡ true → tidied hashing pieces ≡ pieces
  tidied-tidy [] tidy = refl
  tidied-tidy (e ∷ es) tidy =
      let so = both (lie_in hashing e.1.range (entries_of e.1.entries)) (are_tidy hashing es) tidy in
      λ i. (e.0, record e.1 { entries = all_own e.1.range e.1.entries so.0 i }) ∷ tidied-tidy es so.1 i

  -- and a range has in them what it has by the rule
  pub settled_entries-tidy : (pieces : List (ℕ × Piece)) → are_tidy hashing pieces ≡ true → (range : Range)
      → settled_entries hashing pieces range ≡ (if was_settled pieces range then Some (entries_within hashing pieces range) else None)
  settled_entries-tidy pieces tidy range =
      ap (λ l. if was_settled pieces range then Some (entries_within hashing l range) else None) (tidied-tidy pieces tidy)

  is_in_settled-tidied : (pieces : List (ℕ × Piece)) (range : Range)
      → is_in_settled (tidied hashing pieces) range ≡ is_in_settled pieces range
  is_in_settled-tidied [] range = refl
  is_in_settled-tidied (e ∷ es) range = ap (λ b. (is_settled e.1.state && within range e.1.range) || b) (is_in_settled-tidied es range)

  pub was_settled-tidied : (pieces : List (ℕ × Piece)) (range : Range)
      → was_settled (tidied hashing pieces) range ≡ was_settled pieces range
  was_settled-tidied pieces range =
      λ i. list_all (λ part. is_in_settled-tidied pieces part i) (cut_parts range (keys_of-map_values own pieces i))

  piece_with-tidied : (hash : ℕ) (pieces : List (ℕ × Piece))
      → piece_with hash (tidied hashing pieces) ≡ option_map own (piece_with hash pieces)
  piece_with-tidied hash [] = refl
  piece_with-tidied hash (e ∷ es) = by (holds e.1.range hash) (piece_with-tidied hash es)
    where
      by : (b : Bool) → piece_with hash (tidied hashing es) ≡ option_map own (piece_with hash es)
          → option_map (λ x. x.1) (cond b (Some (at e)) (find (λ x. holds x.1.range hash) (tidied hashing es)))
          ≡ option_map own (option_map (λ x. x.1) (cond b (Some e) (find (λ x. holds x.1.range hash) es)))
      by true rest = refl
      by false rest = rest

  -- ---- The walk.
  module _ (pieces : List (ℕ × Piece)) (are : ArePieces pieces) (range : Range) where
    -- what isn't in the rest is counted
    abbrev pub AreCountedOfTidied : Range → ℕ → Type 0
    AreCountedOfTidied rest count = AreCounted hashing (tidied hashing pieces) range rest count

    -- once the rest has no hash, all are counted
    pub all_of_tidied : IsRange range → was_settled pieces range ≡ true → (rest : Range) (count : ℕ) → rest.size ≡ 0
        → AreCountedOfTidied rest count
        → count ≡ entries_within hashing (tidied hashing pieces) range
    all_of_tidied ok settled rest count none so =
        counted_all hashing (tidied hashing pieces) range (pieces-tidied pieces are) (are_tidy-tidied pieces) ok
        (was_settled-tidied pieces range ∙ settled) rest count none so

    -- one piece more: within what the rest has of it, all its entries are its own
    pub more_of_tidied : (rest : Range) → IsRange rest → 0 < rest.size → was_settled pieces rest ≡ true → (piece : Piece)
        → piece_with rest.start pieces ≡ Some piece
        → fold with_entry [] (entries_of piece.entries) ≡ piece.entries → (count more : ℕ)
        → more ≡ length (filter (λ e. holds (record { start = rest.start; size = rest.size - (part_behind rest piece.range).size })
        (hash_grain hashing e.grain)) (entries_of piece.entries))
        → AreCountedOfTidied rest count → AreCountedOfTidied (part_behind rest piece.range) (count + more)
    more_of_tidied rest ok some settled piece with again count more is so =
        counted_more hashing (tidied hashing pieces) range ares tidy rest ok some here (own piece) there (own_again piece again) count more
        (is ∙ ap length (sym (ap (filter in_front) (own_entries piece)
        ∙ narrowed in_front (is_own piece) inner (entries_of piece.entries)))) so
      where
        ares : ArePieces (tidied hashing pieces)
        ares = pieces-tidied pieces are

        tidy : are_tidy hashing (tidied hashing pieces) ≡ true
        tidy = are_tidy-tidied pieces

        here : was_settled (tidied hashing pieces) rest ≡ true
        here = was_settled-tidied pieces rest ∙ settled

        there : piece_with rest.start (tidied hashing pieces) ≡ Some (own piece)
        there = piece_with-tidied rest.start pieces ∙ ap (option_map own) with

        in_front : Entry → Bool
        in_front e =
            holds (record { start = rest.start; size = rest.size - (part_behind rest piece.range).size }) (hash_grain hashing e.grain)

        inner : (e : Entry) → in_front e ≡ true → is_own piece e ≡ true
        inner e held =
            inside hashing nobody (tidied hashing pieces) range ares tidy rest ok some here (own piece) there (own_again piece again)
            (hash_grain hashing e.grain) (grain_below hashing e.grain) held

-- The entries of a range, gathered by a walk from piece to piece: what of them is there so far.
use Rattle.std.proofs.Common.{arith, ◌≡◌, refl, sym, ap, ◌∙◌, subst, ℕ, ◌<◌, List, [], ◌⊎◌, inl, inr}
use Rattle.std.specs.Prelude.{Bool, true, false, cond, filter, flat_map, fold, Option, Some, None, IsSome}
use Rattle.std.specs.Option.{option_or}
use Rattle.std.specs.BTreeMap.{is_at}
use Rattle.std.proofs.lemmas.Bool.Decides.{nat_tests}
use Rattle.std.proofs.lemmas.Map.Entries.{lookup-filter-keys}
use Rattle.texts.proofs.Orderings.{Equal-from}
use Rattle.silo_address.specs.Grain.{Grain, grain_cmp}
use Rattle.silo_address.specs.declared.Entry.{Entry}
use Rattle.silo_address.proofs.Order.{grain_cmp_exact}
use Rattle.texts.proofs.Entries.{sorted-nil}
use Rattle.ring_range.specs.Range.{Range, IsRange, distance, holds}
use Rattle.ring_range.proofs.Circle.{distance-itself}
use Rattle.hash_ring.specs.declared.Hashing.{Hashing}
use Rattle.hash_ring.specs.Hash.{hash_grain}
use Rattle.directory_rules.specs.Answer.{piece_with}
use Rattle.directory_rules.specs.Laws.{lies_settled}
use Rattle.directory_rules.specs.State.{Piece, Table}
use Rattle.directory_rules.specs.Sight.{all_entries, was_settled}
use Rattle.directory_rules.specs.Table.{entries_of, entry_at, with_entry}
use Rattle.grain_table.proofs.ByGrain.{IsTable, nothing_is_table, same_tables}
use Rattle.grain_table.proofs.Filters.{entries_passed, passed_is_table}
use Rattle.hash_ring.proofs.HashesBelow.{grain_below}
use Rattle.grain_table.proofs.Put.{found_all, put_in, put_in_is_table}
use Rattle.grain_partition.specs.Holdings.{ArePieces, are_tidy}
use Rattle.grain_partition.specs.Search.{SettlesAt}
use Rattle.grain_partition.proofs.Around.{below-holds, holds-below}
use Rattle.grain_partition.proofs.ServedFrom.{found_with}
use Rattle.grain_partition.proofs.SettledHashes.{none_settles, with_has, with_settles}
use Rattle.grain_partition.proofs.SettledParts.{Decides-was_settled}
use Rattle.grain_partition.proofs.Tidy.{of_one}
use Rattle.grain_partition.proofs.Walks.{behind_first, part_behind}
use Rattle.grain_partition.proofs.Within.{put_within, within-fold, within_range}

-- all entries that are hashed into the range
abbrev pub within_all : Hashing → Range → List (ℕ × Piece) → Table
within_all hashing range pieces = filter (λ e. within_range hashing range e.0) (all_entries pieces)

-- of each grain there is what there is to be, or nothing yet, and then the rest has its hash
pub record IsGathered (hashing : Hashing) (pieces : List (ℕ × Piece)) (range rest : Range) (table : Table) : Type 0 where
  pub is : IsTable table
  pub each : (grain : Grain) → (entry_at grain table ≡ entry_at grain (within_all hashing range pieces))
      ⊎ ((entry_at grain table ≡ None) × (holds rest (hash_grain hashing grain) ≡ true))

-- ---- What is found of those within a range.
found_within : (hashing : Hashing) (range : Range) (table : Table) (grain : Grain)
    → entry_at grain (filter (λ e. within_range hashing range e.0) table) ≡ cond (within_range hashing range grain) (entry_at grain table)
    None
found_within hashing range table grain =
    lookup-filter-keys (is_at (grain_cmp grain)) (λ g. within_range hashing range g) (within_range hashing range grain) at table
  where
    at : (other : Grain) → is_at (grain_cmp grain) other ≡ true → within_range hashing range other ≡ within_range hashing range grain
    at other is = ap (within_range hashing range) (sym (grain_cmp_exact grain other (Equal-from (grain_cmp grain other) is)))

or_same : (o : Option Entry) → option_or o o ≡ o
or_same None = refl
or_same (Some entry) = refl

or_none : (o : Option Entry) → option_or o None ≡ o
or_none None = refl
or_none (Some entry) = refl

none_where : (b : Bool) → cond {A = Option Entry} b None None ≡ None
none_where true = refl
none_where false = refl

module _ (hashing : Hashing) (pieces : List (ℕ × Piece)) (are : ArePieces pieces) (range : Range) where
  abbrev entries : List Entry
  entries = flat_map (λ e. entries_of e.1.entries) pieces

  all_is_table : IsTable (all_entries pieces)
  all_is_table = put_in_is_table [] entries nothing_is_table

  -- nothing is gathered at first
  pub gathered_none : IsGathered hashing pieces range range []
  gathered_none = record { is = nothing_is_table; each = λ grain. by grain (within_range hashing range grain) refl }
    where
      by : (grain : Grain) (b : Bool) → within_range hashing range grain ≡ b
          → (entry_at grain [] ≡ entry_at grain (within_all hashing range pieces))
          ⊎ ((entry_at grain [] ≡ None) × (within_range hashing range grain ≡ true))
      by grain true is = inr (refl, is)
      by grain false is =
          inl (sym (found_within hashing range (all_entries pieces) grain ∙ ap (λ b. cond b (entry_at grain (all_entries pieces)) None) is))

  -- and all once the rest has no hash
  pub gathered_all : (rest : Range) (table : Table) → rest.size ≡ 0 → IsGathered hashing pieces range rest table
      → table ≡ within_all hashing range pieces
  gathered_all rest table none gathered =
      same_tables table (within_all hashing range pieces) gathered.is
      (passed_is_table (λ e. within_range hashing range e.0) (all_entries pieces) all_is_table)
      (λ grain. by grain (gathered.each grain))
    where
      by : (grain : Grain) → (entry_at grain table ≡ entry_at grain (within_all hashing range pieces))
          ⊎ ((entry_at grain table ≡ None) × (holds rest (hash_grain hashing grain) ≡ true))
          → entry_at grain table ≡ entry_at grain (within_all hashing range pieces)
      by grain (inl same) = same
      by grain (inr not_yet) = let less = below-holds rest (hash_grain hashing grain) not_yet.1 in absurd (omega (arith, less, none))

  -- ---- One piece more.
  module _ (rest : Range) (ok : IsRange rest) (some : 0 < rest.size) (settled : was_settled pieces rest ≡ true) where
    lies : lies_settled rest.start pieces ≡ true
    lies =
        (Decides-was_settled pieces are rest ok).0 settled rest.start ok.start_below
        (holds-below rest rest.start (omega (arith, distance-itself rest.start, some)))

    -- there is one
    pub has_piece : (o : Option Piece) → o ≡ piece_with rest.start pieces → IsSome o
    has_piece None is = absurd (let no : false ≡ true = sym (none_settles pieces are rest.start ok.start_below (sym is)) ∙ lies in cc)
    has_piece (Some piece) is = refl

    module _ (piece : Piece) (with : piece_with rest.start pieces ≡ Some piece) where
      pub settles_at : SettlesAt pieces rest.start piece.range
      settles_at = record {
        piece = piece;
        there = found_with rest.start pieces are piece with;
        settled = with_settles pieces are rest.start ok.start_below piece with lies;
        range_is = refl;
        has = with_has rest.start pieces are piece with;
      }

      -- and it takes some off
      pub less_behind : (part_behind rest piece.range).size < rest.size
      less_behind =
          let less : distance piece.range.start rest.start < piece.range.size = below-holds piece.range rest.start (with_has rest.start pieces are piece with) in
          grind (arith, nat_tests)

      module _ (tidy : are_tidy hashing pieces ≡ true) (again : fold with_entry [] (entries_of piece.entries) ≡ piece.entries) where
        -- it has all entries of its range
        its_entries : piece.entries ≡ within_all hashing piece.range pieces
        its_entries =
            sym again
            ∙ ap (fold with_entry []) (sym (of_one hashing piece.range piece.range.start piece refl pieces tidy are.once
            (found_with rest.start pieces are piece with)))
            ∙ put_within hashing piece.range entries []
            ∙ sym (within-fold hashing piece.range entries [] (sorted-nil grain_cmp))

        abbrev picked : Table
        picked = filter (λ e. within_range hashing range e.0) piece.entries

        its_table : IsTable piece.entries
        its_table = subst IsTable again (put_in_is_table [] (entries_of piece.entries) nothing_is_table)

        found_picked : (grain : Grain) → entry_at grain picked
            ≡ cond (within_range hashing range grain) (cond (within_range hashing piece.range grain) (entry_at grain (all_entries pieces))
            None) None
        found_picked grain =
            found_within hashing range piece.entries grain
            ∙ ap (λ o. cond (within_range hashing range grain) o None)
            (ap (entry_at grain) its_entries ∙ found_within hashing piece.range (all_entries pieces) grain)

        found_new : (table new : Table) → new ≡ fold with_entry table
            (filter (λ e. within_range hashing range e.grain) (entries_of piece.entries)) → (grain : Grain)
            → entry_at grain new ≡ option_or (entry_at grain picked) (entry_at grain table)
        found_new table new put grain =
            ap (entry_at grain) (put ∙ ap (put_in table) (sym (entries_passed (λ g. within_range hashing range g) piece.entries its_table)))
            ∙ found_all grain table picked (passed_is_table (λ e. within_range hashing range e.0) piece.entries its_table)

        pub gathered_more : (table new : Table) → new ≡ fold with_entry table
            (filter (λ e. within_range hashing range e.grain) (entries_of piece.entries))
            → IsGathered hashing pieces range rest table → IsGathered hashing pieces range (part_behind rest piece.range) new
        gathered_more table new put gathered = record {
          is = subst IsTable (sym new_is) (put_in_is_table table (entries_of picked) gathered.is);
          each = λ grain. by grain (within_range hashing piece.range grain) refl (gathered.each grain);
        }
          where
            new_is : new ≡ put_in table (entries_of picked)
            new_is = put ∙ ap (put_in table) (sym (entries_passed (λ g. within_range hashing range g) piece.entries its_table))

            by : (grain : Grain) (b : Bool) → within_range hashing piece.range grain ≡ b
                → (entry_at grain table ≡ entry_at grain (within_all hashing range pieces))
                ⊎ ((entry_at grain table ≡ None) × (holds rest (hash_grain hashing grain) ≡ true))
                → (entry_at grain new ≡ entry_at grain (within_all hashing range pieces))
                ⊎ ((entry_at grain new ≡ None) × (holds (part_behind rest piece.range) (hash_grain hashing grain) ≡ true))
            by grain true here so_far = inl (
                found_new table new put grain
                ∙ ap (λ o. option_or o (entry_at grain table))
                (found_picked grain ∙ ap (λ b. cond (within_range hashing range grain) (cond b (entry_at grain (all_entries pieces)) None)
                None) here
                ∙ sym (found_within hashing range (all_entries pieces) grain))
                ∙ old so_far)
              where
                old : (entry_at grain table ≡ entry_at grain (within_all hashing range pieces))
                    ⊎ ((entry_at grain table ≡ None) × (holds rest (hash_grain hashing grain) ≡ true))
                    → option_or (entry_at grain (within_all hashing range pieces)) (entry_at grain table) ≡ entry_at grain
                    (within_all hashing range pieces)
                old (inl same) =
                    ap (option_or (entry_at grain (within_all hashing range pieces))) same
                    ∙ or_same (entry_at grain (within_all hashing range pieces))
                old (inr not_yet) =
                    ap (option_or (entry_at grain (within_all hashing range pieces))) not_yet.0
                    ∙ or_none (entry_at grain (within_all hashing range pieces))
            by grain false aside so_far = old so_far
              where
                stays : entry_at grain new ≡ entry_at grain table
                stays =
                    found_new table new put grain
                    ∙ ap (λ o. option_or o (entry_at grain table))
                    (found_picked grain ∙ ap (λ b. cond (within_range hashing range grain)
                    (cond b (entry_at grain (all_entries pieces)) None) None) aside
                    ∙ none_where (within_range hashing range grain))

                old : (entry_at grain table ≡ entry_at grain (within_all hashing range pieces))
                    ⊎ ((entry_at grain table ≡ None) × (holds rest (hash_grain hashing grain) ≡ true))
                    → (entry_at grain new ≡ entry_at grain (within_all hashing range pieces))
                    ⊎ ((entry_at grain new ≡ None) × (holds (part_behind rest piece.range) (hash_grain hashing grain) ≡ true))
                old (inl same) = inl (stays ∙ same)
                old (inr not_yet) =
                    inr (
                      stays ∙ not_yet.0,
                      behind_first pieces are rest ok piece.range settles_at (hash_grain hashing grain)
                          (grain_below hashing grain) not_yet.1 aside,
                    )

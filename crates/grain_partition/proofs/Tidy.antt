-- Where each piece has just entries that are hashed into its range, what is kept of a piece's range is what is kept of the piece.
use Rattle.std.proofs.Common.{arith, ◌≡◌, refl, sym, ap, ◌∙◌, subst, ℕ, List, [], ◌∷◌, ◌++◌, ◌+◌, ◌<◌, ◌≤◌, append-nil}
use Rattle.std.specs.Prelude.{Bool, true, false, cond, not, filter, flat_map, fold, Some, None}
use Rattle.std.specs.Map.{lookup}
use Rattle.std.specs.BTreeMap.{is_at}
use Rattle.std.specs.Ordering.{nat_cmp}
use Rattle.std.proofs.lemmas.List.Elements.{filter-append}
use Rattle.std.proofs.lemmas.List.Sums.{sum_by-cons}
use Rattle.silo_address.specs.Grain.{grain_cmp}
use Rattle.silo_address.specs.declared.Entry.{Entry}
use Rattle.membership_view.specs.View.{ViewValue}
use Rattle.texts.proofs.Entries.{sorted-nil}
use Rattle.texts.proofs.Decided.{both}
use Rattle.ring_range.specs.Range.{Range, circle, holds}
use Rattle.hash_ring.specs.declared.Hashing.{Hashing}
use Rattle.hash_ring.specs.Hash.{hash_grain}
use Rattle.directory_rules.specs.Members.{is_dead_in}
use Rattle.directory_rules.specs.State.{Piece}
use Rattle.directory_rules.specs.Sight.{all_entries, is_kept, kept_entries}
use Rattle.directory_rules.specs.Table.{entries_of, lie_in, with_entry}
use Rattle.directory_rules.proofs.Cases.{on_bool}
use Rattle.grain_table.proofs.Counted.{all_pass}
use Rattle.grain_table.proofs.ByGrain.{IsTable, nothing_is_table}
use Rattle.grain_table.proofs.Filters.{kept_of}
use Rattle.hash_ring.proofs.HashesBelow.{grain_below}
use Rattle.grain_table.proofs.Put.{put_in_is_table}
use Rattle.grain_partition.specs.Holdings.{ArePieces, are_tidy}
use Rattle.grain_partition.proofs.OnePiece.{by_entry, found_counts, passing}
use Rattle.grain_partition.proofs.Within.{put_within, within-fold, within_range}

module _ (hashing : Hashing) (range : Range) where
  abbrev is_within : Entry → Bool
  is_within e = within_range hashing range e.grain

  abbrev entries_in : List (ℕ × Piece) → List Entry
  entries_in pieces = flat_map (λ e. entries_of e.1.entries) pieces

  -- those that lie in another that has no hash of it all fail
  pub none_pass : (other : Range) → ((hash : ℕ) → hash < circle → holds other hash ≡ true → holds range hash ≡ false)
      → (entries : List Entry) → lie_in hashing other entries ≡ true
      → filter is_within entries ≡ []
  none_pass other apart [] lie = refl
  none_pass other apart (e ∷ entries) lie =
      let so = both (holds other (hash_grain hashing e.grain)) (lie_in hashing other entries) lie in
      ap (λ b. cond b (e ∷ filter is_within entries) (filter is_within entries))
      (apart (hash_grain hashing e.grain) (grain_below hashing e.grain) so.0)
      ∙ none_pass other apart entries so.1

  -- how many pieces have the hash
  abbrev having : ℕ → List (ℕ × Piece) → ℕ
  having hash pieces = passing (λ p. holds p.range hash) pieces

  counted : (hash : ℕ) (e : ℕ × Piece) (es : List (ℕ × Piece)) → having hash (e ∷ es) ≡ cond (holds e.1.range hash) 1 0 + having hash es
  counted hash e es = sum_by-cons (λ (x : ℕ × Piece). cond (holds x.1.range hash) 1 0) e es

  one_for : (b : Bool) → b ≡ true → cond {A = ℕ} b 1 0 ≡ 1
  one_for b is = ap (λ c. cond c 1 0) is

  -- of pieces that have no hash of the range no entry passes
  pieces_miss : (es : List (ℕ × Piece)) → are_tidy hashing es ≡ true
      → ((hash : ℕ) → hash < circle → holds range hash ≡ true → having hash es ≡ 0) → filter is_within (entries_in es) ≡ []
  pieces_miss [] tidy miss = refl
  pieces_miss (e ∷ es) tidy miss =
      let so = both (lie_in hashing e.1.range (entries_of e.1.entries)) (are_tidy hashing es) tidy in
      filter-append is_within (entries_of e.1.entries) (entries_in es)
      ∙ ap (λ l. l ++ filter is_within (entries_in es)) (none_pass e.1.range apart (entries_of e.1.entries) so.0)
      ∙ pieces_miss es so.1 (λ hash below held. let none = miss hash below held in omega (arith, none, counted hash e es))
    where
      apart : (hash : ℕ) → hash < circle → holds e.1.range hash ≡ true → holds range hash ≡ false
      apart hash below here =
          on_bool (λ b. holds range hash ≡ b → b ≡ false) (holds range hash)
          (λ t held. let none = miss hash below held in let one = one_for (holds e.1.range hash) here in
          absurd (omega (arith, none, one, counted hash e es)))
          (λ f held. refl) refl

  -- where no hash is in two pieces, the entries that pass are those of the piece that has the range
  pub of_part : (k : ℕ) (piece : Piece) → ((hash : ℕ) → hash < circle → holds range hash ≡ true → holds piece.range hash ≡ true)
      → (es : List (ℕ × Piece)) → are_tidy hashing es ≡ true
      → ((hash : ℕ) → hash < circle → having hash es ≤ 1) → lookup (is_at (nat_cmp k)) es ≡ Some piece
      → filter is_within (entries_in es) ≡ filter is_within (entries_of piece.entries)
  of_part k piece inside [] tidy once found = absurd (let no : None ≡ Some piece = found in cc)
  of_part k piece inside (e ∷ es) tidy once found =
      let so = both (lie_in hashing e.1.range (entries_of e.1.entries)) (are_tidy hashing es) tidy in
      filter-append is_within (entries_of e.1.entries) (entries_in es)
      ∙ by_entry k piece (filter is_within (entries_of e.1.entries) ++ filter is_within (entries_in es) ≡ filter is_within
      (entries_of piece.entries)) e es found
      (λ key value.
      ap (λ l. filter is_within (entries_of e.1.entries) ++ l)
      (pieces_miss es so.1 (λ hash below held.
      let one = one_for (holds e.1.range hash) (ap (λ (p : Piece). holds p.range hash) value ∙ inside hash below held) in
      let few = once hash below in omega (arith, one, few, counted hash e es)))
      ∙ append-nil (filter is_within (entries_of e.1.entries)) ∙ ap (λ (p : Piece). filter is_within (entries_of p.entries)) value)
      (λ behind.
      (λ i. none_pass e.1.range (apart behind) (entries_of e.1.entries) so.0 i
      ++ of_part k piece inside es so.1 (λ hash below. let few = once hash below in omega (arith, few, counted hash e es)) behind i))
    where
      apart : lookup (is_at (nat_cmp k)) es ≡ Some piece → (hash : ℕ) → hash < circle → holds e.1.range hash ≡ true
          → holds range hash ≡ false
      apart behind hash below here =
          on_bool (λ b. holds range hash ≡ b → b ≡ false) (holds range hash)
          (λ t held. let more = found_counts (λ p. holds p.range hash) es k piece behind (inside hash below held) in
          let one = one_for (holds e.1.range hash) here in let few = once hash below in
          absurd (omega (arith, more, one, few, counted hash e es)))
          (λ f held. refl) refl

  -- a piece's entries lie in its range
  lies_there : (k : ℕ) (piece : Piece) (es : List (ℕ × Piece)) → are_tidy hashing es ≡ true → lookup (is_at (nat_cmp k)) es ≡ Some piece
      → lie_in hashing piece.range (entries_of piece.entries) ≡ true
  lies_there k piece [] tidy found = absurd (let no : None ≡ Some piece = found in cc)
  lies_there k piece (e ∷ es) tidy found =
      let so = both (lie_in hashing e.1.range (entries_of e.1.entries)) (are_tidy hashing es) tidy in
      by_entry k piece (lie_in hashing piece.range (entries_of piece.entries) ≡ true) e es found
      (λ key value. ap (λ (p : Piece). lie_in hashing p.range (entries_of p.entries)) (sym value) ∙ so.0)
      (λ behind. lies_there k piece es so.1 behind)

  -- and those of a piece of just the range are all of its own
  pub of_one : (k : ℕ) (piece : Piece) → piece.range ≡ range → (es : List (ℕ × Piece)) → are_tidy hashing es ≡ true
      → ((hash : ℕ) → hash < circle → having hash es ≤ 1)
      → lookup (is_at (nat_cmp k)) es ≡ Some piece → filter is_within (entries_in es) ≡ entries_of piece.entries
  of_one k piece same es tidy once found =
      of_part k piece (λ hash below held. ap (λ r. holds r hash) same ∙ held) es tidy once found
      ∙ all_pass hashing range (entries_of piece.entries)
      (subst (λ r. lie_in hashing r (entries_of piece.entries) ≡ true) same (lies_there k piece es tidy found))

-- what is kept of a table: what lies in the range, and then what is living
pub kept_in_steps : (hashing : Hashing) (view : ViewValue) (range : Range) (piece : Piece)
    → fold with_entry [] (entries_of piece.entries) ≡ piece.entries
    → filter (λ e. not (is_dead_in view e.1.activation.silo)) (filter (λ e. within_range hashing range e.0) piece.entries) ≡ kept_entries
    hashing view ((0, piece) ∷ []) range
kept_in_steps hashing view range piece again =
    kept_of hashing view range piece.entries (subst IsTable again (put_in_is_table [] (entries_of piece.entries) nothing_is_table))
    ∙ ap (filter (λ e. is_kept hashing view range e.1)) (sym again ∙ ap (fold with_entry []) (sym (append-nil (entries_of piece.entries))))

-- what of all entries lies in the range is what lies there of each piece, put together
pub by_range : (hashing : Hashing) (range : Range) (pieces : List (ℕ × Piece))
    → filter (λ e. within_range hashing range e.0) (all_entries pieces) ≡ fold with_entry []
    (filter (λ e. within_range hashing range e.grain) (flat_map (λ e. entries_of e.1.entries) pieces))
by_range hashing range pieces =
    within-fold hashing range (flat_map (λ e. entries_of e.1.entries) pieces) [] (sorted-nil grain_cmp)
    ∙ sym (put_within hashing range (flat_map (λ e. entries_of e.1.entries) pieces) [])

-- what is kept of all entries: what lies in the range, and then what is living
pub kept_by_steps : (hashing : Hashing) (view : ViewValue) (range : Range) (pieces : List (ℕ × Piece))
    → filter (λ e. not (is_dead_in view e.1.activation.silo)) (filter (λ e. within_range hashing range e.0) (all_entries pieces))
    ≡ kept_entries hashing view pieces range
kept_by_steps hashing view range pieces =
    kept_of hashing view range (all_entries pieces) (put_in_is_table [] (flat_map (λ e. entries_of e.1.entries) pieces) nothing_is_table)

-- what is kept of a range that a piece has
pub kept_of_part : (hashing : Hashing) (view : ViewValue) (pieces : List (ℕ × Piece)) → ArePieces pieces → are_tidy hashing pieces ≡ true
    → (range : Range) (k : ℕ) (piece : Piece)
    → lookup (is_at (nat_cmp k)) pieces ≡ Some piece
    → ((hash : ℕ) → hash < circle → holds range hash ≡ true → holds piece.range hash ≡ true)
    → kept_entries hashing view ((0, piece) ∷ []) range ≡ kept_entries hashing view pieces range
kept_of_part hashing view pieces are tidy range k piece found inside =
    sym (kept_by_steps hashing view range ((0, piece) ∷ []))
    ∙ ap (filter (λ e. not (is_dead_in view e.1.activation.silo)))
    (by_range hashing range ((0, piece) ∷ [])
    ∙ ap (fold with_entry [])
    (ap (filter (λ e. within_range hashing range e.grain)) (append-nil (entries_of piece.entries))
    ∙ sym (of_part hashing range k piece inside pieces tidy are.once found))
    ∙ sym (by_range hashing range pieces))
    ∙ kept_by_steps hashing view range pieces

-- The entries of a table whose grains are hashed into a range, put in one by one.
use Rattle.std.proofs.Common.{◌≡◌, refl, sym, ap, ◌∙◌, ℕ, List, [], ◌∷◌, ◌++◌}
use Rattle.std.specs.Prelude.{Bool, true, false, cond, fold, filter, flat_map, if◌then◌else◌}
use Rattle.std.specs.Cmp.{IsTotalOrder}
use Rattle.std.specs.List.{AllByRecursion}
use Rattle.std.specs.List.Sorted.{IsStrictlySortedBy}
use Rattle.std.specs.Map.{keys_of}
use Rattle.std.specs.BTreeMap.{insert_entry}
use Rattle.std.specs.Ordering.{match_ordering}
use Rattle.std.specs.declared.cmp.Ordering.{Ordering}
use Rattle.std.specs.declared.cmp.Ordering.TheVariants.{Less, Equal, Greater}
use Rattle.std.proofs.lemmas.Map.Keys.{sorted_head, sorted_tail}
use Rattle.std.proofs.lemmas.Map.Lookups.{CmpEqualImpliesEq}
use Rattle.silo_address.specs.Grain.{Grain, grain_cmp}
use Rattle.silo_address.specs.declared.Entry.{Entry}
use Rattle.silo_address.proofs.Order.{grain_cmp_exact, grain_cmp_total}
use Rattle.texts.proofs.Entries.{all_above, sorted-insert_entry}
use Rattle.ring_range.specs.Range.{Range, holds}
use Rattle.hash_ring.specs.declared.Hashing.{Hashing}
use Rattle.hash_ring.specs.Hash.{hash_grain}
use Rattle.directory_rules.specs.State.{Piece, Table}
use Rattle.directory_rules.specs.Table.{entries_of, with_entry}

module _ {K X : Type 0} {R : K → K → Ordering} (o : IsTotalOrder R) (exact : CmpEqualImpliesEq R) (p : K → Bool) where
  abbrev passed : List (K × X) → List (K × X)
  passed es = filter (λ e. p e.0) es

  all_passed : (P : K → Type 0) (es : List (K × X)) → AllByRecursion P (keys_of es) → AllByRecursion P (keys_of (passed es))
  all_passed P [] all = tt
  all_passed P (e ∷ es) all = by (p e.0) (all_passed P es all.1)
    where
      by : (b : Bool) → AllByRecursion P (keys_of (passed es)) → AllByRecursion P (keys_of (cond b (e ∷ passed es) (passed es)))
      by true rest = (all.0, rest)
      by false rest = rest

  -- below all others it stands first
  insert_entry-first : (k : K) (v : X) (es : List (K × X)) → AllByRecursion (λ y. R k y ≡ Less) (keys_of es)
      → insert_entry R es k v ≡ (k, v) ∷ es
  insert_entry-first k v [] above = refl
  insert_entry-first k v (e ∷ es) above = ap (λ r. match_ordering r ((k, v) ∷ e ∷ es) ((e.0, v) ∷ es) (e ∷ insert_entry R es k v)) above.0

  -- an entry that passes is put in among those that pass
  passed-insert_entry : (k : K) (v : X) → p k ≡ true → (es : List (K × X)) → IsStrictlySortedBy R (keys_of es)
      → passed (insert_entry R es k v) ≡ insert_entry R (passed es) k v
  passed-insert_entry k v passes [] s = ap (λ b. cond b ((k, v) ∷ []) []) passes
  passed-insert_entry k v passes (e ∷ es) s = by (R k e.0) refl (passed-insert_entry k v passes es (sorted_tail R e.0 (keys_of es) s))
    where
      by : (r : Ordering) → R k e.0 ≡ r → passed (insert_entry R es k v) ≡ insert_entry R (passed es) k v
          → passed (match_ordering r ((k, v) ∷ e ∷ es) ((e.0, v) ∷ es) (e ∷ insert_entry R es k v)) ≡ insert_entry R
          (cond (p e.0) (e ∷ passed es) (passed es)) k v
      by Less is later =
          ap (λ b. cond b ((k, v) ∷ passed (e ∷ es)) (passed (e ∷ es))) passes
          ∙ sym (insert_entry-first k v (passed (e ∷ es))
          (all_passed (λ y. R k y ≡ Less) (e ∷ es) (is, all_above o k e.0 es is (sorted_head R e.0 (keys_of es) s))))
      by Equal is later =
          let here : p e.0 ≡ true = ap p (sym (exact k e.0 is)) ∙ passes in
          ap (λ b. cond b ((e.0, v) ∷ passed es) (passed es)) here
          ∙ sym (ap (λ b. insert_entry R (cond b (e ∷ passed es) (passed es)) k v) here
          ∙ ap (λ r. match_ordering r ((k, v) ∷ e ∷ passed es) ((e.0, v) ∷ passed es) (e ∷ insert_entry R (passed es) k v)) is)
      by Greater is later = on (p e.0)
        where
          on : (b : Bool) → cond b (e ∷ passed (insert_entry R es k v)) (passed (insert_entry R es k v)) ≡ insert_entry R
              (cond b (e ∷ passed es) (passed es)) k v
          on true =
              ap (λ l. e ∷ l) later
              ∙ sym (ap (λ r. match_ordering r ((k, v) ∷ e ∷ passed es) ((e.0, v) ∷ passed es) (e ∷ insert_entry R (passed es) k v)) is)
          on false = later

  -- and one that doesn't changes nothing there
  passed-other : (k : K) (v : X) → p k ≡ false → (es : List (K × X)) → passed (insert_entry R es k v) ≡ passed es
  passed-other k v fails [] = ap (λ b. cond b ((k, v) ∷ []) []) fails
  passed-other k v fails (e ∷ es) = by (R k e.0) refl (passed-other k v fails es)
    where
      by : (r : Ordering) → R k e.0 ≡ r → passed (insert_entry R es k v) ≡ passed es
          → passed (match_ordering r ((k, v) ∷ e ∷ es) ((e.0, v) ∷ es) (e ∷ insert_entry R es k v)) ≡ passed (e ∷ es)
      by Less is later = ap (λ b. cond b ((k, v) ∷ passed (e ∷ es)) (passed (e ∷ es))) fails
      by Equal is later =
          let here : p e.0 ≡ false = ap p (sym (exact k e.0 is)) ∙ fails in
          ap (λ b. cond b ((e.0, v) ∷ passed es) (passed es)) here ∙ sym (ap (λ b. cond b (e ∷ passed es) (passed es)) here)
      by Greater is later = ap (λ l. cond (p e.0) (e ∷ l) l) later

-- whether the grain is hashed into the range
abbrev pub within_range : Hashing → Range → Grain → Bool
within_range hashing range grain = holds range (hash_grain hashing grain)

-- the table with the entry, where its grain is
abbrev pub with_within : Hashing → Range → Table → Entry → Table
with_within hashing range table entry = if within_range hashing range entry.grain then with_entry table entry else table

module _ (hashing : Hashing) (range : Range) where
  -- to put in those within the range is to put in each that is
  pub put_within : (entries : List Entry) (table : Table)
      → fold with_entry table (filter (λ e. within_range hashing range e.grain) entries) ≡ fold (with_within hashing range) table entries
  put_within [] table = refl
  put_within (entry ∷ entries) table = by (within_range hashing range entry.grain) (λ t. put_within entries t)
    where
      by : (b : Bool) → ((t : Table) → fold with_entry t (filter (λ e. within_range hashing range e.grain) entries) ≡ fold
          (with_within hashing range) t entries)
          → fold with_entry table (cond b (entry ∷ filter (λ e. within_range hashing range e.grain) entries)
          (filter (λ e. within_range hashing range e.grain) entries))
          ≡ fold (with_within hashing range) (cond b (with_entry table entry) table) entries
      by true rest = rest (with_entry table entry)
      by false rest = rest table

  -- of all entries put in those within the range are those within it put in
  pub within-fold : (entries : List Entry) (table : Table) → IsStrictlySortedBy grain_cmp (keys_of table)
      → filter (λ e. within_range hashing range e.0) (fold with_entry table entries) ≡ fold (with_within hashing range)
      (filter (λ e. within_range hashing range e.0) table) entries
  within-fold [] table s = refl
  within-fold (entry ∷ entries) table s =
      within-fold entries (with_entry table entry) (sorted-insert_entry grain_cmp_total entry.grain entry table s)
      ∙ ap (λ t. fold (with_within hashing range) t entries) (by (within_range hashing range entry.grain) refl)
    where
      by : (b : Bool) → within_range hashing range entry.grain ≡ b
          → filter (λ e. within_range hashing range e.0) (with_entry table entry)
          ≡ (if b then with_entry (filter (λ e. within_range hashing range e.0) table) entry else filter
          (λ e. within_range hashing range e.0) table)
      by true is = passed-insert_entry grain_cmp_total grain_cmp_exact (within_range hashing range) entry.grain entry is table s
      by false is = passed-other grain_cmp_total grain_cmp_exact (within_range hashing range) entry.grain entry is table

  fold_behind : (one other : List Entry) (table : Table)
      → fold (with_within hashing range) table (one ++ other) ≡ fold (with_within hashing range)
      (fold (with_within hashing range) table one) other
  fold_behind [] other table = refl
  fold_behind (entry ∷ entries) other table = fold_behind entries other (with_within hashing range table entry)

  -- the entries of one piece more
  pub one_piece_more : (start : ℕ) (piece : Piece) (rest : List (ℕ × Piece)) (table new : Table)
      → new ≡ fold with_entry table (filter (λ e. within_range hashing range e.grain) (entries_of piece.entries))
      → fold (with_within hashing range) new (flat_map (λ e. entries_of e.1.entries) rest)
      ≡ fold (with_within hashing range) table (flat_map (λ e. entries_of e.1.entries) ((start, piece) ∷ rest))
  one_piece_more start piece rest table new put =
      ap (λ t. fold (with_within hashing range) t (flat_map (λ e. entries_of e.1.entries) rest))
      (put ∙ put_within (entries_of piece.entries) table)
      ∙ sym (fold_behind (entries_of piece.entries) (flat_map (λ e. entries_of e.1.entries) rest) table)

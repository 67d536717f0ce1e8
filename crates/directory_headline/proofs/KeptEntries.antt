-- What a sight keeps of a grain's entry: where the grain's hash was in a settled piece, its entry there, unless that is on a
-- silo which is Dead in the view.
use Rattle.std.proofs.Common.{◌≡◌, ℕ, ◌≤◌, List, [], ◌∷◌, inl, inr, refl, sym, ap, ◌∙◌}
use Rattle.std.specs.Prelude.{◌&&◌, Bool, true, false, cond, not, count_by, All, Option, Some, None, filter, fold, flat_map}
use Rattle.std.specs.Ordering.{is_lt}
use Rattle.std.specs.List.{AllByRecursion}
use Rattle.std.specs.List.Sorted.{IsStrictlySortedBy}
use Rattle.std.specs.Map.{keys_of}
use Rattle.std.specs.BTreeMap.{is_at}
use Rattle.std.specs.declared.cmp.Ordering.TheVariants.{Less}
use Rattle.std.proofs.lemmas.Bool.{eq-eqb}
use Rattle.std.proofs.lemmas.List.Elements.{All-nil, All-cons, All-head, All-tail, All-weaker, filter_passes}
use Rattle.std.specs.Option.{option_or}
use Rattle.texts.proofs.Decided.{both}
use Rattle.silo_address.specs.Grain.{Grain, grain_cmp}
use Rattle.silo_address.specs.Silo.{Silo}
use Rattle.silo_address.specs.declared.Entry.{Entry}
use Rattle.silo_address.proofs.Order.{grain_cmp_total, grain_cmp_exact}
use Rattle.membership_view.specs.View.{ViewValue}
use Rattle.texts.proofs.Entries.{lookup-insert_entry}
use Rattle.ring_range.specs.Range.{Range, holds}
use Rattle.hash_ring.specs.declared.Hashing.{Hashing}
use Rattle.hash_ring.specs.Hash.{hash_grain}
use Rattle.directory_protocol.specs.Setting.{Setting}
use Rattle.directory_protocol.specs.World.{surviving}
use Rattle.directory_protocol.proofs.Changes.{grain_cases}
use Rattle.directory_rules.specs.Members.{is_dead_in}
use Rattle.directory_rules.specs.State.{Table, Piece}
use Rattle.directory_rules.specs.Table.{entry_at, with_entry, entries_of, table_of, is_before_first, rise_by_grain}
use Rattle.directory_rules.specs.Sight.{all_entries, is_kept, kept_entries}
use Rattle.directory_rules.specs.Answer.{piece_with}
use Rattle.directory_rules.proofs.Cases.{on_bool}
use Rattle.directory_rules.proofs.Tables.{other_than_put}
use Rattle.directory_facts.proofs.Entries.{same_key}
use Rattle.directory_facts.proofs.Tables.{InOrder, order_nil, order_filtered}
use Rattle.directory_facts.proofs.Pieces.{all_ordered}
use Rattle.directory_headline.specs.Setting.{is_alive_in}
use Rattle.directory_headline.specs.Shown.{activation_in}
use Rattle.directory_headline.proofs.Facts.{IsPiece}
use Rattle.directory_headline.proofs.TableEntries.{found_own, none_above, table_again}
use Rattle.directory_headline.proofs.HashPieces.{is_hashed_so, only_piece}

-- ---- a table whose grains rise
-- the first grain has no other entry
first_alone : (g : Grain) (e : Grain × Entry) (es : Table) → is_at (grain_cmp g) e.0 ≡ true
    → AllByRecursion (λ k. grain_cmp e.0 k ≡ Less) (keys_of es) → entry_at g es ≡ None
first_alone g e es at above = ap (λ k. entry_at k es) (same_key grain_cmp grain_cmp_exact g e.0 at) ∙ none_above e.0 es above

-- the entry, if it passes the test
abbrev pub if_passes : (Entry → Bool) → Option Entry → Option Entry
if_passes test None = None
if_passes test (Some e) = cond (test e) (Some e) None

filtered_at : (test : Entry → Bool) (g : Grain) (es : Table) → IsStrictlySortedBy grain_cmp (keys_of es)
    → entry_at g (filter (λ e. test e.1) es) ≡ if_passes test (entry_at g es)
unfolding IsStrictlySortedBy
filtered_at test g [] sorted = refl
filtered_at test g (e ∷ es) sorted =
    let later = filtered_at test g es sorted.1 in
    on_bool (λ c. is_at (grain_cmp g) e.0 ≡ c → entry_at g (filter (λ x. test x.1) (e ∷ es)) ≡ if_passes test
    (cond c (Some e.1) (entry_at g es))) (is_at (grain_cmp g) e.0)
    (λ t at.
    let alone = later ∙ ap (if_passes test) (first_alone g e es at sorted.0) in
    on_bool (λ b. entry_at g (cond b (e ∷ filter (λ x. test x.1) es) (filter (λ x. test x.1) es)) ≡ cond b (Some e.1) None) (test e.1)
    (λ u. ap (λ c. cond c (Some e.1) (entry_at g (filter (λ x. test x.1) es))) at) (λ u. alone))
    (λ f at.
    on_bool (λ b. entry_at g (cond b (e ∷ filter (λ x. test x.1) es) (filter (λ x. test x.1) es)) ≡ if_passes test (entry_at g es))
    (test e.1)
    (λ u. ap (λ c. cond c (Some e.1) (entry_at g (filter (λ x. test x.1) es))) at ∙ later) (λ u. later)) refl

-- ---- entries that are put in, one after the other
pub or_nothing : (o : Option Entry) → option_or o None ≡ o
or_nothing None = refl
or_nothing (Some e) = refl

-- those of a table
folded : (g : Grain) (es table : Table) → IsStrictlySortedBy grain_cmp (keys_of es) → All (λ e. e.0 ≡ e.1.grain) es
    → entry_at g (fold with_entry table (entries_of es)) ≡ option_or (entry_at g es) (entry_at g table)
unfolding IsStrictlySortedBy
folded g [] table sorted own = refl
folded g (e ∷ es) table sorted own =
    let its = All-head (λ (x : Grain × Entry). x.0 ≡ x.1.grain) e es own in
    let later = folded g es (with_entry table e.1) sorted.1 (All-tail (λ (x : Grain × Entry). x.0 ≡ x.1.grain) e es own) in
    let put = lookup-insert_entry grain_cmp_total e.1.grain e.1 g table ∙ ap (λ k. cond (is_at (grain_cmp g) k) (Some e.1) (entry_at g table)) (sym its) in
    later ∙ ap (option_or (entry_at g es)) put
    ∙ on_bool (λ b. is_at (grain_cmp g) e.0 ≡ b → option_or (entry_at g es) (cond b (Some e.1) (entry_at g table)) ≡ option_or
    (cond b (Some e.1) (entry_at g es)) (entry_at g table)) (is_at (grain_cmp g) e.0)
    (λ t at. ap (λ o. option_or o (Some e.1)) (first_alone g e es at sorted.0)) (λ f at. refl) refl

-- only those of the grain count
picked : (g : Grain) (test : Entry → Bool) → ((e : Entry) → e.grain ≡ g → test e ≡ true) → (entries : List Entry) (one other : Table)
    → entry_at g one ≡ entry_at g other
    → entry_at g (fold with_entry one entries) ≡ entry_at g (fold with_entry other (filter test entries))
picked g test passes [] one other same = same
picked g test passes (e ∷ es) one other same =
    elim (grain_cases g e.grain) [
      | inl its ↦
          picked g test passes es (with_entry one e) (with_entry other e)
          (lookup-insert_entry grain_cmp_total e.grain e g one ∙ ap (cond (is_at (grain_cmp g) e.grain) (Some e)) same
          ∙ sym (lookup-insert_entry grain_cmp_total e.grain e g other))
          ∙ ap (λ b. entry_at g (fold with_entry other (cond b (e ∷ filter test es) (filter test es)))) (sym (passes e (sym its)))
      | inr apart ↦
          on_bool (λ b. entry_at g (fold with_entry (with_entry one e) es) ≡ entry_at g
          (fold with_entry other (cond b (e ∷ filter test es) (filter test es)))) (test e)
          (λ t. picked g test passes es (with_entry one e) (with_entry other e)
          (other_than_put one e g apart ∙ same ∙ sym (other_than_put other e g apart)))
          (λ f. picked g test passes es (with_entry one e) other (other_than_put one e g apart ∙ same))
    ]

all_in_order : (pieces : List (ℕ × Piece)) → InOrder (all_entries pieces)
all_in_order pieces = all_ordered (flat_map (λ e. entries_of e.1.entries) pieces) [] order_nil

-- ---- the entries of pieces, each hash in one of them at most
module _ (hashed : Grain → ℕ) (pieces : List (ℕ × Piece)) (each : All (λ e. IsPiece hashed e.1) pieces) (g : Grain)
    (once : count_by (λ e. holds e.1.range (hashed g)) pieces ≤ 1) (piece : Piece) (found : piece_with (hashed g) pieces ≡ Some piece) where
  all_at : InOrder piece.entries → entry_at g (all_entries pieces) ≡ entry_at g piece.entries
  all_at table =
      let passes = λ (e : Entry) (same : e.grain ≡ g). eq-eqb (hashed e.grain) (hashed g) (ap hashed same) in
      picked g (is_hashed_so hashed (hashed g)) passes (flat_map (λ e. entries_of e.1.entries) pieces) [] [] refl
      ∙ ap (λ es. entry_at g (fold with_entry [] es)) (only_piece hashed (hashed g) pieces piece each once found)
      ∙ sym (picked g (is_hashed_so hashed (hashed g)) passes (entries_of piece.entries) [] [] refl)
      ∙ folded g piece.entries [] table.by_grain table.own_grain ∙ or_nothing (entry_at g piece.entries)

-- ---- what is kept of pieces for a range
abbrev is_dead_there : ViewValue → Entry → Bool
is_dead_there view e = is_dead_in view e.activation.silo

passes_so : (view : ViewValue) (held : Bool) (e : Entry) → held ≡ true
    → cond (held && not (is_dead_there view e)) (Some e) None ≡ cond (not (is_dead_there view e)) (Some e) None
passes_so view true e is = refl
passes_so view false e is = absurd (cc (is))

surviving_so : (b : Bool) (e : Entry) → activation_in (cond b (Some e) None) ≡ cond b (Some e.activation) None
surviving_so true e = refl
surviving_so false e = refl

module _ (m : Setting) (hashing : Hashing) (hash_is : m.hash ≡ hash_grain hashing) (view : ViewValue) (version : ℕ)
    (alive : (s : Silo) → m.alive version s ≡ is_alive_in view s) where
  survives : (g : Grain) (range : Range) (o : Option Entry) → ((e : Entry) → o ≡ Some e → e.grain ≡ g) → holds range (m.hash g) ≡ true
      → activation_in (if_passes (is_kept hashing view range) o) ≡ surviving m version (activation_in o)
  survives g range None own held = refl
  survives g range (Some e) own held =
      let inside : holds range (hash_grain hashing e.grain) ≡ true = ap (λ h. holds range (h e.grain)) (sym hash_is) ∙ ap (λ k. holds range (m.hash k)) (own e refl) ∙ held in
      ap activation_in (passes_so view (holds range (hash_grain hashing e.grain)) e inside) ∙ surviving_so (not (is_dead_there view e)) e
      ∙ ap (λ b. cond b (Some e.activation) None) (sym (alive e.activation.silo))

  pub kept_at :
      (pieces : List (ℕ × Piece)) (range : Range) (g : Grain) (piece : Piece) → All (λ e. IsPiece m.hash e.1) pieces
      → count_by (λ e. holds e.1.range (m.hash g)) pieces ≤ 1
      → piece_with (m.hash g) pieces ≡ Some piece → InOrder piece.entries → holds range (m.hash g) ≡ true
      → activation_in (entry_at g (kept_entries hashing view pieces range)) ≡ surviving m version (activation_in (entry_at g piece.entries))
  kept_at pieces range g piece each once found table held =
      ap activation_in (filtered_at (is_kept hashing view range) g (all_entries pieces) (all_in_order pieces).by_grain
      ∙ ap (if_passes (is_kept hashing view range)) (all_at m.hash pieces each g once piece found table))
      ∙ survives g range (entry_at g piece.entries) (λ e is. found_own g piece.entries e table.own_grain is) held

-- ---- as a list
first_lower : (e : Grain × Entry) (es : Table) → IsStrictlySortedBy grain_cmp (keys_of (e ∷ es)) → All (λ x. x.0 ≡ x.1.grain) (e ∷ es)
    → is_before_first e.1 (entries_of es) ≡ true
unfolding IsStrictlySortedBy
first_lower e [] sorted own = refl
first_lower e (x ∷ xs) sorted own =
    let here = All-head (λ (y : Grain × Entry). y.0 ≡ y.1.grain) e (x ∷ xs) own in
    let next = All-head (λ (y : Grain × Entry). y.0 ≡ y.1.grain) x xs (All-tail (λ (y : Grain × Entry). y.0 ≡ y.1.grain) e (x ∷ xs) own) in
    ap (λ g. is_lt (grain_cmp g x.1.grain)) (sym here) ∙ ap (λ g. is_lt (grain_cmp e.0 g)) (sym next) ∙ ap is_lt sorted.0.0

rises : (es : Table) → IsStrictlySortedBy grain_cmp (keys_of es) → All (λ x. x.0 ≡ x.1.grain) es → rise_by_grain (entries_of es) ≡ true
unfolding IsStrictlySortedBy
rises [] sorted own = refl
rises (e ∷ es) sorted own =
    ap (λ b. b && rise_by_grain (entries_of es)) (first_lower e es sorted own)
    ∙ rises es sorted.1 (All-tail (λ (y : Grain × Entry). y.0 ≡ y.1.grain) e es own)

entries_all : (P : Entry → Type 0) (es : Table) → All (λ e. P e.1) es → All P (entries_of es)
entries_all P [] all = All-nil P
entries_all P (e ∷ es) all =
    All-cons P e.1 (entries_of es) (All-head (λ (x : Grain × Entry). P x.1) e es all)
    (entries_all P es (All-tail (λ (x : Grain × Entry). P x.1) e es all))

module _ (hashing : Hashing) (view : ViewValue) (pieces : List (ℕ × Piece)) (range : Range) where
  kept_order : InOrder (kept_entries hashing view pieces range)
  kept_order = order_filtered (λ e. is_kept hashing view range e.1) (all_entries pieces) (all_in_order pieces)

  pub kept_rises : rise_by_grain (entries_of (kept_entries hashing view pieces range)) ≡ true
  kept_rises = rises (kept_entries hashing view pieces range) kept_order.by_grain kept_order.own_grain

  pub kept_again : table_of (entries_of (kept_entries hashing view pieces range)) ≡ kept_entries hashing view pieces range
  kept_again = table_again (kept_entries hashing view pieces range) kept_order.own_grain

  pub kept_inside : All (λ e. holds range (hash_grain hashing e.grain) ≡ true) (entries_of (kept_entries hashing view pieces range))
  kept_inside =
      entries_all (λ e. holds range (hash_grain hashing e.grain) ≡ true) (kept_entries hashing view pieces range)
      (All-weaker (λ e. is_kept hashing view range e.1 ≡ true) (λ e. holds range (hash_grain hashing e.1.grain) ≡ true)
      (λ e kept. (both (holds range (hash_grain hashing e.1.grain)) (not (is_dead_in view e.1.activation.silo)) kept).0)
      (kept_entries hashing view pieces range)
      (filter_passes (λ e. is_kept hashing view range e.1) (all_entries pieces)))

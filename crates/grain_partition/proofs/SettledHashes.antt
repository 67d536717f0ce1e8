-- Whether a hash lies in a settled piece is told by the piece that has the hash.
use Rattle.std.proofs.Common.{◌≡◌, refl, sym, ap, ◌∙◌, ℕ, List, [], ◌∷◌, find, ◌<◌}
use Rattle.std.specs.Prelude.{Bool, true, false, cond, ◌&&◌, ◌||◌, Option, Some, None, is_some}
use Rattle.std.specs.Option.{option_map}
use Rattle.std.specs.List.{list_any}
use Rattle.std.specs.Ordering.{nat_cmp}
use Rattle.std.specs.Map.{lookup, keys_of}
use Rattle.std.specs.BTreeMap.{is_at}
use Rattle.std.specs.List.Sorted.{IsStrictlySortedBy}
use Rattle.std.proofs.lemmas.Cmp.{nat_cmp_total}
use Rattle.std.proofs.lemmas.Option.{same_Some}
use Rattle.std.proofs.lemmas.Map.Lookups.{exact_unsigned}
use Rattle.std.proofs.lemmas.Bool.{and_from, or_right}
use Rattle.membership_view.proofs.Found.{find_found, find_none}
use Rattle.texts.proofs.Decided.{both}
use Rattle.ring_range.specs.Range.{circle, Range, holds}
use Rattle.directory_rules.specs.State.{Piece}
use Rattle.directory_rules.specs.Answer.{piece_with}
use Rattle.directory_rules.specs.Sight.{is_settled}
use Rattle.directory_rules.specs.Laws.{lies_settled}
use Rattle.directory_rules.proofs.Cases.{on_bool}
use Rattle.grain_partition.specs.Holdings.{ArePieces}
use Rattle.grain_partition.specs.Search.{SettlesAt}
use Rattle.grain_partition.proofs.OnePiece.{by_entry, only_one}
use Rattle.grain_partition.proofs.ServedFrom.{found_with}

-- what is found and passes
pub any_lookup : {X : Type 0} (p : X → Bool) (es : List (ℕ × X)) (k : ℕ) (v : X) → lookup (is_at (nat_cmp k)) es ≡ Some v → p v ≡ true
    → list_any (λ e. p e.1) es ≡ true
any_lookup p [] k v found passes = cc
any_lookup p (e ∷ es) k v found passes =
    by_entry k v ((p e.1 || list_any (λ e. p e.1) es) ≡ true) e es found
    (λ key value. ap (λ b. b || list_any (λ e. p e.1) es) (ap p value ∙ passes))
    (λ behind. or_right (p e.1) (list_any (λ e. p e.1) es) (any_lookup p es k v behind passes))

-- an entry that passes, and is found
pub record Passes {X : Type 0} (p : X → Bool) (es : List (ℕ × X)) : Type 0 where
  pub key : ℕ
  pub value : X
  pub there : lookup (is_at (nat_cmp key)) es ≡ Some value
  pub passes : p value ≡ true

any-find : {A : Type 0} (p : A → Bool) (xs : List A) → list_any p xs ≡ is_some (find p xs)
any-find p [] = refl
any-find p (x ∷ xs) = by (p x) (any-find p xs)
  where
    by : (b : Bool) → list_any p xs ≡ is_some (find p xs) → (b || list_any p xs) ≡ is_some (cond b (Some x) (find p xs))
    by true later = refl
    by false later = later

pub passes_of_any : {X : Type 0} (p : X → Bool) (es : List (ℕ × X)) → IsStrictlySortedBy nat_cmp (keys_of es)
    → list_any (λ e. p e.1) es ≡ true → Passes p es
passes_of_any p es s any = by (find (λ e. p e.1) es) refl (sym (any-find (λ e. p e.1) es) ∙ any)
  where
    by : (o : Option _) → find (λ e. p e.1) es ≡ o → is_some o ≡ true → Passes p es
    by None is some = cc
    by (Some f) is some =
        let got = find_found nat_cmp_total (λ k v. p v) es s f is in record { key = f.0; value = f.1; there = got.0; passes = got.1 }

-- a settled piece that has the hash
abbrev pub settles : ℕ → Piece → Bool
settles hash piece = is_settled piece.state && holds piece.range hash

-- the piece that has a hash has it
pub with_has : (hash : ℕ) (pieces : List (ℕ × Piece)) → ArePieces pieces → (piece : Piece) → piece_with hash pieces ≡ Some piece
    → holds piece.range hash ≡ true
with_has hash pieces are piece with = by (find (λ e. holds e.1.range hash) pieces) refl with
  where
    by : (o : Option (ℕ × Piece)) → find (λ e. holds e.1.range hash) pieces ≡ o → option_map (λ e. e.1) o ≡ Some piece
        → holds piece.range hash ≡ true
    by None is with = cc
    by (Some f) is with =
        let got = find_found nat_cmp_total (λ k p. holds p.range hash) pieces are.in_order f is in
        ap (λ (p : Piece). holds p.range hash) (sym (same_Some f.1 piece with)) ∙ got.1

module _ (pieces : List (ℕ × Piece)) (are : ArePieces pieces) (hash : ℕ) (below : hash < circle) where
  -- it is the piece that has it
  pub with_settles : (piece : Piece) → piece_with hash pieces ≡ Some piece → lies_settled hash pieces ≡ true → is_settled piece.state ≡ true
  with_settles piece with lies =
      let one = passes_of_any (settles hash) pieces are.in_order lies in
      let parts = both (is_settled one.value.state) (holds one.value.range hash) one.passes in
      let there = found_with hash pieces are piece with in
      let same_key = only_one (λ p. holds p.range hash) pieces (are.once hash below) one.key piece.range.start one.value piece one.there there parts.1 (with_has hash pieces are piece with) in
      let same : one.value ≡ piece = same_Some one.value piece (sym one.there ∙ ap (λ k. lookup (is_at (nat_cmp k)) pieces) same_key ∙ there) in
      ap (λ (p : Piece). is_settled p.state) (sym same) ∙ parts.0

  -- without a piece that has it, it lies in none
  pub none_settles : piece_with hash pieces ≡ None → lies_settled hash pieces ≡ false
  none_settles without =
      on_bool (λ b. lies_settled hash pieces ≡ b → b ≡ false) (lies_settled hash pieces)
      (λ t lies. absurd (never (passes_of_any (settles hash) pieces are.in_order lies))) (λ f lies. refl) refl
    where
      never : Passes (settles hash) pieces → ⊥
      never one = by (find (λ e. holds e.1.range hash) pieces) refl without
        where
          by : (o : Option (ℕ × Piece)) → find (λ e. holds e.1.range hash) pieces ≡ o → option_map (λ e. e.1) o ≡ None → ⊥
          by None is without =
              let misses = find_none nat_cmp_total (λ k p. holds p.range hash) exact_unsigned pieces is one.key one.value one.there in
              let parts = both (is_settled one.value.state) (holds one.value.range hash) one.passes in
              let no : false ≡ true = sym misses ∙ parts.1 in cc
          by (Some f) is without = cc

-- a piece that settles a hash
pub lies_by : (pieces : List (ℕ × Piece)) (hash : ℕ) (range : Range) → SettlesAt pieces hash range → lies_settled hash pieces ≡ true
lies_by pieces hash range at =
    any_lookup (settles hash) pieces at.piece.range.start at.piece at.there
    (and_from (is_settled at.piece.state) (holds at.piece.range hash) at.settled (ap (λ r. holds r hash) at.range_is ∙ at.has))

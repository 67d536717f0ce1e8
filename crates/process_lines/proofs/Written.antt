-- Entries or ranges, written one behind the other.
use Rattle.std.proofs.Common.{◌≡◌, ℕ, ◌+◌, ◌<◌, List, [], ◌∷◌, ◌++◌, length, take, get_or, refl, ap, sym, ◌∙◌, append-nil, add-one, take_all}
use Rattle.std.specs.Prelude.{◌≤◌}
use Rattle.std.proofs.Math.Seq.{take-suc}
use Rattle.silo_address.specs.declared.Entry.{Entry}
use Rattle.silo_address.specs.Grain.{grain_text}
use Rattle.silo_address.specs.ActivationText.{activation_text}
use Rattle.ring_range.specs.Range.{Range}
use Rattle.ring_range.specs.Text.{range_text}
use Rattle.script_lines.specs.Spaced.{spaced}
use Rattle.script_lines.proofs.SpacedWords.{then_spaced}
use Rattle.process_rules.specs.LetterText.{entry_words, entries_words, ranges_words}

-- before the first
pub none_written : (text : List ℕ) → text ≡ text ++ spaced []
unfolding spaced
none_written text = sym (append-nil text)

module _ {A : Type 0} (all_words : List A → List (List ℕ)) (its_words : A → List (List ℕ))
    (more : (items : List A) (item : A) → all_words (items ++ item ∷ []) ≡ all_words items ++ its_words item) where
  -- one more
  one_written : (before now after : List ℕ) (items : List A) (k : ℕ) (item : A) → k < length items → item ≡ get_or items k item
      → now ≡ before ++ spaced (all_words (take k items)) → after ≡ now ++ spaced (its_words item)
      → after ≡ before ++ spaced (all_words (take (k + 1) items))
  one_written before now after items k item below is so_far written =
      let next : take (k + 1) items ≡ take k items ++ item ∷ [] =
      ap (λ n. take n items) (add-one k) ∙ take-suc items k item below ∙ ap (λ (i : A). take k items ++ i ∷ []) (sym is) in
      then_spaced before now after (all_words (take k items)) (its_words item) so_far written
      ∙ ap (λ (ws : List (List ℕ)). before ++ spaced ws) (sym (more (take k items) item) ∙ ap all_words (sym next))

  -- all of them
  each_written : (before now : List ℕ) (items : List A) (k : ℕ) → length items ≤ k
      → now ≡ before ++ spaced (all_words (take k items)) → now ≡ before ++ spaced (all_words items)
  each_written before now items k past so_far =
      so_far ∙ ap (λ (is : List A). before ++ spaced (all_words is)) (take_all k items past)

-- ---- entries
words_more : (entries : List Entry) (entry : Entry) → entries_words (entries ++ entry ∷ []) ≡ entries_words entries ++ entry_words entry
words_more [] entry = refl
words_more (first ∷ entries) entry =
    ap (λ (ws : List (List ℕ)). grain_text first.grain ∷ activation_text first.activation ∷ ws) (words_more entries entry)

pub more_written : (before now after : List ℕ) (entries : List Entry) (k : ℕ) (entry : Entry) → k < length entries
    → entry ≡ get_or entries k entry
    → now ≡ before ++ spaced (entries_words (take k entries)) → after ≡ now ++ spaced (entry_words entry)
    → after ≡ before ++ spaced (entries_words (take (k + 1) entries))
more_written = one_written entries_words entry_words words_more

pub all_written : (before now : List ℕ) (entries : List Entry) (k : ℕ) → length entries ≤ k
    → now ≡ before ++ spaced (entries_words (take k entries)) → now ≡ before ++ spaced (entries_words entries)
all_written = each_written entries_words entry_words words_more

-- ---- ranges
abbrev range_words : Range → List (List ℕ)
range_words range = range_text range ∷ []

ranges_more : (ranges : List Range) (range : Range) → ranges_words (ranges ++ range ∷ []) ≡ ranges_words ranges ++ range_words range
ranges_more [] range = refl
ranges_more (first ∷ ranges) range = ap (λ (ws : List (List ℕ)). range_text first ∷ ws) (ranges_more ranges range)

pub more_ranges_written : (before now after : List ℕ) (ranges : List Range) (k : ℕ) (range : Range) → k < length ranges
    → range ≡ get_or ranges k range
    → now ≡ before ++ spaced (ranges_words (take k ranges)) → after ≡ now ++ spaced (range_text range ∷ [])
    → after ≡ before ++ spaced (ranges_words (take (k + 1) ranges))
more_ranges_written = one_written ranges_words range_words ranges_more

pub all_ranges_written : (before now : List ℕ) (ranges : List Range) (k : ℕ) → length ranges ≤ k
    → now ≡ before ++ spaced (ranges_words (take k ranges)) → now ≡ before ++ spaced (ranges_words ranges)
all_ranges_written = each_written ranges_words range_words ranges_more

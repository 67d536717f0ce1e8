-- The reading of a grain's text is exact: it finds the grain that the text spells, and each fault where it is the first.
use Rattle.std.proofs.Common.{◌≡◌, refl, ap, sym, ◌∙◌, subst, ℕ, ◌≤◌, ◌+◌, ◌++◌, ◌∷◌, inl, inr, ◌⊎◌, true, Result, Ok, Err, List, length, arith}
use Rattle.std.specs.Prelude.{All, nat_le, nat_lt, IsErrOf, IfOk, ◌↔◌}
use Rattle.std.specs.Bool.{Decides}
use Rattle.std.specs.List.{list_all, position_or_len, before_first, after_first}
use Rattle.std.proofs.lemmas.Bool.{lt-ltb, ltb-true, ne_eqb, eqb-true, eqb-false}
use Rattle.std.proofs.lemmas.Bool.Decides.{Decides-like, Decides-and, Decides-by_and, nat_tests}
use Rattle.std.proofs.lemmas.List.{length-append, length-take-le}
use Rattle.std.proofs.lemmas.List.Sums.{split_at_first, passes_at_first}
use Rattle.silo_address.specs.declared.grain.GrainError.{GrainError}
use Rattle.silo_address.specs.declared.grain.GrainError.TheVariants.{Shape, TooLong, Byte}
use Rattle.silo_address.specs.Marks.{slash}
use Rattle.silo_address.specs.Grain.{Grain, IsCutAtFirstSlash, IsCutInto, HasGrainShape, IsShortEnough, IsVisible, IsGrain, grain_text}
use Rattle.silo_address.specs.ReadGrain.{is_slash, grain_at_slash, is_visible, is_cut, is_short_enough, grain_within, read_grain}
use Rattle.texts.proofs.Cuts.{IsCutAt, position-cut, before_first-cut, after_first-cut, front_fails}
use Rattle.texts.proofs.Decided.{both, decided, false_from_not}

-- A text is cut in one way.
slash_after : (grain : Grain) → IsCutAtFirstSlash grain → IsCutAt is_slash grain.kind slash
slash_after grain cut = record { fails = λ k d below. ne_eqb _ _ (cut.no_slash_before k d below); ends = refl }

pub is_cut_again : (bytes : List ℕ) (grain : Grain) → IsCutInto bytes grain → is_cut bytes ≡ true
is_cut_again bytes grain into =
    let cut = slash_after grain into.cut in
    let end : position_or_len is_slash bytes ≡ length grain.kind = ap (position_or_len is_slash) into.text ∙ position-cut is_slash grain.kind slash grain.key cut in
    let back : after_first is_slash bytes ≡ grain.key = ap (after_first is_slash) into.text ∙ after_first-cut is_slash grain.kind slash grain.key cut in
    let long : length bytes ≡ length grain.kind + length (slash ∷ grain.key) = ap length into.text ∙ length-append grain.kind (slash ∷ grain.key) in
    let first : nat_lt 0 (length grain.kind) ≡ true = lt-ltb _ _ into.cut.some_kind in
    let inside : nat_lt (length grain.kind) (length bytes) ≡ true = lt-ltb _ _ (omega arith) in
    let last : nat_lt 0 (length grain.key) ≡ true = lt-ltb _ _ into.cut.some_key in
    rw (back, end, first, inside, last) refl

pub grain_at_slash_again : (bytes : List ℕ) (grain : Grain) → IsCutInto bytes grain → grain_at_slash bytes ≡ grain
grain_at_slash_again bytes grain into =
    let cut = slash_after grain into.cut in
    let kind : before_first is_slash bytes ≡ grain.kind = ap (before_first is_slash) into.text ∙ before_first-cut is_slash grain.kind slash grain.key cut in
    let key : after_first is_slash bytes ≡ grain.key = ap (after_first is_slash) into.text ∙ after_first-cut is_slash grain.kind slash grain.key cut in
    λ i. record { kind = kind i; key = key i }

pub is_cut_takes : (bytes : List ℕ) → is_cut bytes ≡ true → IsCutInto bytes (grain_at_slash bytes)
is_cut_takes bytes tested =
    let tests = both _ _ tested in
    let sides = both _ _ tests.0 in
    let first : nat_lt 0 (position_or_len is_slash bytes) ≡ true = sides.0 in
    let some = ltb-true _ _ first in
    let within : nat_lt (position_or_len is_slash bytes) (length bytes) ≡ true = sides.1 in
    let inside = ltb-true _ _ within in
    let last : nat_lt 0 (length (after_first is_slash bytes)) ≡ true = tests.1 in
    let long = length-take-le (position_or_len is_slash bytes) bytes (omega arith) in
    let fails = front_fails is_slash bytes (omega arith) in
    let ends = passes_at_first is_slash bytes 0 inside in
    record {
      text =
          split_at_first is_slash bytes 0 inside ∙ ap (λ byte. before_first is_slash bytes ++ byte ∷ after_first is_slash bytes)
          (eqb-true _ _ ends);
      cut = record {
        some_kind = omega arith;
        some_key = ltb-true _ _ last;
        no_slash_before = λ k d below. eqb-false _ _ (fails k d below);
      };
    }

pub Decides-is_cut : (bytes : List ℕ) → Decides (is_cut bytes) (HasGrainShape bytes)
Decides-is_cut bytes = (λ tested. (grain_at_slash bytes, is_cut_takes bytes tested), λ cut. is_cut_again bytes cut.0 cut.1)

Decides-nat_le : (a b : ℕ) → Decides (nat_le a b) (a ≤ b)
Decides-nat_le a b = grind (arith, nat_tests)

pub Decides-is_short_enough : (grain : Grain) → Decides (is_short_enough grain) (IsShortEnough grain)
Decides-is_short_enough grain =
    Decides-like _ (λ p. record { kind = p.0; key = p.1 }) (λ s. (s.kind, s.key))
    (Decides-and _ _ (Decides-nat_le (length grain.kind) 64) (Decides-nat_le (length grain.key) 128))

Decides-is_visible : (byte : ℕ) → Decides (is_visible byte) (IsVisible byte)
Decides-is_visible byte = grind (arith, nat_tests)

pub Decides-all_visible : (bytes : List ℕ) → Decides (list_all is_visible bytes) (All IsVisible bytes)
Decides-all_visible bytes = Decides-by_and is_visible IsVisible (list_all is_visible) Decides-is_visible refl (λ _ _. refl) bytes

-- What a reading is in each of the four cases.
pub record ReadingCases (text : List ℕ) (P : Result Grain GrainError → Type 0) : Type 0 where
  shape : ¬ (HasGrainShape text) → P (Err Shape)
  too_long : (grain : Grain) → IsCutInto text grain → ¬ (IsShortEnough grain) → P (Err TooLong)
  byte : (grain : Grain) → IsCutInto text grain → IsShortEnough grain → ¬ (All IsVisible text) → P (Err Byte)
  grain : (grain : Grain) → IsCutInto text grain → IsShortEnough grain → All IsVisible text → P (Ok grain)

by_cut : (text : List ℕ) (P : Result Grain GrainError → Type 0) → ReadingCases text P → IsCutInto text (grain_at_slash text)
    → IsShortEnough (grain_at_slash text) ⊎ ¬ (IsShortEnough (grain_at_slash text)) → All IsVisible text ⊎ ¬ (All IsVisible text)
    → P (grain_within text)
by_cut text P cases into (inr long) visible =
    let no = false_from_not _ (Decides-is_short_enough (grain_at_slash text)) long in
    rw no (cases.too_long _ into long)
by_cut text P cases into (inl short) (inr other) =
    let yes = (Decides-is_short_enough (grain_at_slash text)).1 short in
    let no = false_from_not _ (Decides-all_visible text) other in
    rw (yes, no) (cases.byte _ into short other)
by_cut text P cases into (inl short) (inl visible) =
    let yes = (Decides-is_short_enough (grain_at_slash text)).1 short in
    let all = (Decides-all_visible text).1 visible in
    rw (yes, all) (cases.grain _ into short visible)

by_shape : (text : List ℕ) (P : Result Grain GrainError → Type 0) → ReadingCases text P → HasGrainShape text ⊎ ¬ (HasGrainShape text)
    → P (read_grain text)
unfolding read_grain
by_shape text P cases (inr none) =
    let no = false_from_not _ (Decides-is_cut text) none in
    rw no (cases.shape none)
by_shape text P cases (inl some) =
    let yes = is_cut_again text some.0 some.1 in
    rw yes (by_cut text P cases (is_cut_takes text yes) (decided _ (Decides-is_short_enough (grain_at_slash text)))
    (decided _ (Decides-all_visible text)))

pub read_grain_cases : (text : List ℕ) (P : Result Grain GrainError → Type 0) → ReadingCases text P → P (read_grain text)
read_grain_cases text P cases = by_shape text P cases (decided _ (Decides-is_cut text))

-- The clauses.
abbrev IsTooLong : List ℕ → Type 0
IsTooLong text = (grain : Grain) × IsCutInto text grain × ¬ (IsShortEnough grain)

abbrev IsNotVisible : List ℕ → Type 0
IsNotVisible text = (grain : Grain) × IsCutInto text grain × IsShortEnough grain × ¬ (All IsVisible text)

-- A text has one cut.
one_cut : (text : List ℕ) (a b : Grain) → IsCutInto text a → IsCutInto text b → a ≡ b
one_cut text a b into_a into_b = sym (grain_at_slash_again text a into_a) ∙ grain_at_slash_again text b into_b

pub grain_only : (text : List ℕ) (grain : Grain) → IsGrain grain → text ≡ grain_text grain → read_grain text ≡ Ok grain
grain_only text grain is spelled =
    let into : IsCutInto text grain = record { text = spelled; cut = is.cut } in
    let visible : All IsVisible text = subst (All IsVisible) (sym spelled) is.visible in
    read_grain_cases text (λ r. r ≡ Ok grain) (record {
      shape = λ none. absurd (none (grain, into));
      too_long = λ other cut long. absurd (long (subst IsShortEnough (one_cut text grain other into cut) is.short_enough));
      byte = λ other cut short unseen. absurd (unseen visible);
      grain = λ other cut short seen. ap Ok (one_cut text other grain cut into);
    })

pub record GrainClauses (text : List ℕ) (result : Result Grain GrainError) : Type 0 where
  pub found : IfOk result (λ grain. text ≡ grain_text grain)
  pub only : (grain : Grain) → IsGrain grain → text ≡ grain_text grain → result ≡ Ok grain
  pub shape : IsErrOf result Shape ↔ ¬ (HasGrainShape text)
  pub too_long : IsErrOf result TooLong ↔ IsTooLong text
  pub byte : IsErrOf result Byte ↔ IsNotVisible text

pub grain_clauses : (text : List ℕ) (result : Result Grain GrainError) → result ≡ read_grain text → GrainClauses text result
grain_clauses text result reads = subst (GrainClauses text) (sym reads) (record {
  found = read_grain_cases text (λ r. IfOk r (λ grain. text ≡ grain_text grain)) (record {
    shape = λ _. tt;
    too_long = λ _ _ _. tt;
    byte = λ _ _ _ _. tt;
    grain = λ grain into short visible. into.text;
  });
  only = grain_only text;
  shape = read_grain_cases text (λ r. IsErrOf r Shape ↔ ¬ (HasGrainShape text)) (record {
    shape = λ none. (λ _. none, λ _. refl);
    too_long = λ grain into _. (λ e. cc, λ none. absurd (none (grain, into)));
    byte = λ grain into _ _. (λ e. cc, λ none. absurd (none (grain, into)));
    grain = λ grain into _ _. (λ e. cc, λ none. absurd (none (grain, into)));
  });
  too_long = read_grain_cases text (λ r. IsErrOf r TooLong ↔ IsTooLong text) (record {
    shape = λ none. (λ e. cc, λ some. absurd (none (some.0, some.1)));
    too_long = λ grain into long. (λ _. (grain, into, long), λ _. refl);
    byte = λ grain into short _. (λ e. cc, λ some. absurd (some.2 (subst IsShortEnough (one_cut text grain some.0 into some.1) short)));
    grain = λ grain into short _. (λ e. cc, λ some. absurd (some.2 (subst IsShortEnough (one_cut text grain some.0 into some.1) short)));
  });
  byte = read_grain_cases text (λ r. IsErrOf r Byte ↔ IsNotVisible text) (record {
    shape = λ none. (λ e. cc, λ some. absurd (none (some.0, some.1)));
    too_long = λ grain into long. (λ e. cc, λ some. absurd (long (subst IsShortEnough (one_cut text some.0 grain some.1 into) some.2)));
    byte = λ grain into short unseen. (λ _. (grain, into, short, unseen), λ _. refl);
    grain = λ grain into _ visible. (λ e. cc, λ some. absurd (some.3 visible));
  });
})

-- What the code finds where its tests pass.
pub within_grain : (text : List ℕ) → IsShortEnough (grain_at_slash text) → All IsVisible text → grain_within text ≡ Ok (grain_at_slash text)
within_grain text short visible =
    let yes = (Decides-is_short_enough (grain_at_slash text)).1 short in
    let all = (Decides-all_visible text).1 visible in
    rw (yes, all) refl

pub read_grain_cut : (text : List ℕ) → is_cut text ≡ true → read_grain text ≡ grain_within text
unfolding read_grain
read_grain_cut text cut = rw cut refl

pub read_grain_other : (text : List ℕ) → ¬ (is_cut text ≡ true) → read_grain text ≡ Err Shape
unfolding read_grain
read_grain_other text other = let no = false_from_not {P = is_cut text ≡ true} (is_cut text) ((λ t. t), (λ t. t)) other in rw no refl

pub within_unseen : (text : List ℕ) → IsShortEnough (grain_at_slash text) → ¬ (All IsVisible text) → grain_within text ≡ Err Byte
within_unseen text short unseen =
    let yes = (Decides-is_short_enough (grain_at_slash text)).1 short in
    let no = false_from_not _ (Decides-all_visible text) unseen in
    rw (yes, no) refl

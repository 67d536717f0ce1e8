-- A grain: one virtual actor, told by its kind and by its key within the kind.
use Rattle.std.specs.Prelude.{◌≡◌, ◌≢◌, ℕ, ◌<◌, ◌≤◌, ◌==◌, ◌&&◌, List, ◌∷◌, ◌++◌, All, length, Bool}
use Rattle.std.specs.Ordering.{nat_cmp, on, then_cmp}
use Rattle.std.specs.Cmp.Lexicographic.{slice_cmp, pointwise}
use Rattle.std.specs.declared.cmp.Ordering.{Ordering}
use Rattle.silo_address.specs.Marks.{slash}

pub record Grain : Type 0 where
  pub kind : List ℕ
  pub key : List ℕ

-- a grain's one spelling: the kind, a slash, the key
abbrev pub grain_text : Grain → List ℕ
grain_text grain = grain.kind ++ slash ∷ grain.key

-- the kind ends at the first slash, and neither side is empty
pub record IsCutAtFirstSlash (grain : Grain) : Type 0 where
  pub some_kind : 0 < length grain.kind
  pub some_key : 0 < length grain.key
  pub no_slash_before : All (λ byte. byte ≢ slash) grain.kind

-- a text and its two sides
pub record IsCutInto (bytes : List ℕ) (grain : Grain) : Type 0 where
  pub text : bytes ≡ grain_text grain
  pub cut : IsCutAtFirstSlash grain

-- a text of a grain's shape
abbrev pub HasGrainShape : List ℕ → Type 0
HasGrainShape bytes = (grain : Grain) × IsCutInto bytes grain

pub record IsShortEnough (grain : Grain) : Type 0 where
  pub kind : length grain.kind ≤ 64
  pub key : length grain.key ≤ 128

-- a visible byte: ASCII, neither a space nor a control
abbrev pub IsVisible : ℕ → Type 0
IsVisible byte = (33 ≤ byte) × (byte ≤ 126)

-- what every grain keeps
pub record IsGrain (grain : Grain) : Type 0 where
  pub cut : IsCutAtFirstSlash grain
  pub short_enough : IsShortEnough grain
  pub visible : All IsVisible (grain_text grain)

-- grains by kind, then key, each compared byte by byte
abbrev pub grain_cmp : Grain → Grain → Ordering
grain_cmp = then_cmp (on (λ g. g.kind) (slice_cmp nat_cmp)) (on (λ g. g.key) (slice_cmp nat_cmp))

abbrev pub grain_eq : Grain → Grain → Bool
grain_eq a b = pointwise ◌==◌ a.kind b.kind && pointwise ◌==◌ a.key b.key

-- A grain's text, put at the front of an array, is kept as `GrainId` keeps it.
use Rattle.std.proofs.Common.{◌≡◌, ap, sym, subst, ◌∙◌, ◌≤◌, ◌<◌, ◌+◌, ◌-◌, ℕ, List, ◌++◌, length, take, drop, replicate, arith, Ok, true}
use Rattle.std.specs.Prelude.{All}
use Rattle.std.specs.List.{position_or_len, before_first, after_first}
use Rattle.std.proofs.lemmas.List.{length-drop, length-take-le, take-append-le}
use Rattle.std.proofs.lemmas.Bool.{ltb-true}
use Rattle.std.proofs.Math.Seq.{take-append_seam}
use Rattle.silo_address.specs.declared.grain.GrainId.TheInside.{Inside}
use Rattle.silo_address.specs.Grain.{IsGrain, IsShortEnough, IsVisible}
use Rattle.silo_address.specs.GrainFields.{HoldsGrain, grain_in, fields_of}
use Rattle.silo_address.specs.ReadGrain.{is_cut, is_slash, grain_at_slash, grain_within}
use Rattle.silo_address.proofs.GrainCases.{is_cut_takes, within_grain}
use Rattle.texts.proofs.Decided.{both}

abbrev pub stored : ℕ → List ℕ → List ℕ → Inside
stored kind_len bytes array = record { kind_len = kind_len; text_len = length bytes; text = array }

-- what the code knows once its tests have passed
pub record IsStored (kind_len : ℕ) (bytes kept : List ℕ) : Type 0 where
  pub cut : is_cut bytes ≡ true
  pub kind : kind_len ≡ position_or_len is_slash bytes
  pub kind_within : kind_len ≤ length bytes
  pub short : IsShortEnough (grain_at_slash bytes)
  pub visible : All IsVisible bytes
  pub array : kept ≡ bytes ++ replicate (193 - length bytes) 0

grain_in_stored : (kind_len : ℕ) (bytes array : List ℕ) → IsStored kind_len bytes array
    → grain_in (stored kind_len bytes array) ≡ grain_at_slash bytes
grain_in_stored kind_len bytes array is =
    let front : take (length bytes) array ≡ bytes = ap (take (length bytes)) is.array ∙ take-append_seam bytes _ in
    let kind : take kind_len array ≡ before_first is_slash bytes =
    ap (take kind_len) is.array ∙ take-append-le kind_len bytes _ is.kind_within ∙ ap (λ n. take n bytes) is.kind in
    let key : drop (kind_len + 1) (take (length bytes) array) ≡ after_first is_slash bytes =
    ap (drop (kind_len + 1)) front ∙ ap (λ n. drop (n + 1) bytes) is.kind in
    λ i. record { kind = kind i; key = key i }

pub stored_holds : (kind_len : ℕ) (bytes array : List ℕ) → IsStored kind_len bytes array → HoldsGrain (stored kind_len bytes array)
stored_holds kind_len bytes array is =
    let same = grain_in_stored kind_len bytes array is in
    let into = is_cut_takes bytes is.cut in
    let text = sym into.text in
    let array = sym is.array in
    let long : length (before_first is_slash bytes) ≡ kind_len = ap (λ n. length (take n bytes)) (sym is.kind) ∙ length-take-le kind_len bytes is.kind_within in
    record {
      is_grain =
          subst IsGrain (sym same) (record {
            cut = into.cut;
            short_enough = is.short;
            visible = subst (All IsVisible) into.text is.visible;
          });
      exact = ap fields_of same
          ∙ (λ i. record { kind_len = long i; text_len = length (text i); text = text i ++ replicate (193 - length (text i)) 0 })
          ∙ (λ i. record { kind_len = kind_len; text_len = length bytes; text = array i });
    }

pub stored_within : (kind_len : ℕ) (bytes array : List ℕ) → IsStored kind_len bytes array
    → Ok (grain_in (stored kind_len bytes array)) ≡ grain_within bytes
stored_within kind_len bytes array is = ap Ok (grain_in_stored kind_len bytes array is) ∙ sym (within_grain bytes is.short is.visible)

pub cut_within : (bytes : List ℕ) → is_cut bytes ≡ true → position_or_len is_slash bytes < length bytes
cut_within bytes tested = ltb-true _ _ (both _ _ (both _ _ tested).0).1

pub short_sides : (kind_len : ℕ) (bytes : List ℕ) → is_cut bytes ≡ true → kind_len ≡ position_or_len is_slash bytes → kind_len ≤ 64
    → length bytes - kind_len - 1 ≤ 128
    → IsShortEnough (grain_at_slash bytes)
short_sides kind_len bytes tested is kind key =
    let within = cut_within bytes tested in
    let front = length-take-le (position_or_len is_slash bytes) bytes (omega arith) in
    let back = length-drop (position_or_len is_slash bytes + 1) bytes in
    record { kind = omega arith; key = omega arith }

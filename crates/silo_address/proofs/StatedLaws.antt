-- The stated hash of a key is the number that it ends with, behind a `#`.
use Rattle.std.proofs.Common.{◌≡◌, lit<, suc, [], ◌≢◌, refl, ap, sym, ◌∙◌, subst, ℕ, ◌<◌, ◌≤◌, ◌+◌, ◌-◌, ◌^◌, ◌++◌, ◌∷◌, true, false, not, Some, None, List, length, take, drop, get_or, arith}
use Rattle.std.specs.Prelude.{All, slice_index}
use Rattle.std.specs.List.{list_any, suffix_len, after_last}
use Rattle.std.specs.Fmt.{decimal}
use Rattle.std.proofs.Math.Seq.{get_or-append_seam, drop-append-add, drop-cons}
use Rattle.std.proofs.lemmas.Bool.{eq-eqb, ne_eqb}
use Rattle.std.proofs.lemmas.List.{length-append, length-drop, get_or-drop, take-append-drop}
use Rattle.std.proofs.lemmas.List.Folds.{list_any_at}
use Rattle.std.proofs.lemmas.List.Sums.{suffix_len_is}
use Rattle.silo_address.specs.Marks.{number_sign}
use Rattle.texts.specs.Numeral.{read_number}
use Rattle.texts.specs.Position.{IsBehindLast}
use Rattle.silo_address.specs.StatedHash.{is_number_sign, number_in, stated_hash}
use Rattle.texts.proofs.NumeralLaws.{decimal_is_numeral, read_number-decimal}

none_any : (key : List ℕ) → All (λ byte. is_number_sign byte ≡ false) key → list_any is_number_sign key ≡ false
none_any [] none = refl
none_any (byte ∷ key) none =
    let first : is_number_sign byte ≡ false = none 0 0 (omega arith) in
    rw first (none_any key (λ k d below. none (suc k) d (omega arith)))

-- the number sign is there, and all that follows it is behind the last one
behind : (key : List ℕ) (position : ℕ) → IsBehindLast number_sign key position → (k : ℕ) → position ≤ k → k < length key
    → get_or key k 0 ≢ number_sign
behind key position is k from below =
    let moved : get_or (drop position key) (k - position) 0 ≡ get_or key k 0 = get_or-drop position key (k - position) 0 ∙ ap (λ n. get_or key n 0) (let sum : position + (k - position) ≡ k = omega arith in sum) in
    let long = length-drop position key in
    λ same. is.others (k - position) 0 (omega arith) (moved ∙ same)

pub after_last-behind : (key : List ℕ) (position : ℕ) → IsBehindLast number_sign key position
    → after_last is_number_sign key ≡ drop position key
after_last-behind key position is =
    let count = suffix_len_is (λ byte. not (is_number_sign byte)) key position 0 is.within
    (λ k from below. ap not (ne_eqb _ _ (behind key position is k from below)))
    (λ _. ap not (eq-eqb _ _ is.last)) in
    let within = is.within in
    ap (λ n. drop n key) (let same : length key - suffix_len (λ byte. not (is_number_sign byte)) key ≡ position = omega arith in same)

pub some_number_sign : (key : List ℕ) (position : ℕ) → IsBehindLast number_sign key position → list_any is_number_sign key ≡ true
some_number_sign key position is =
    let above = is.above in
    let within = is.within in
    list_any_at is_number_sign key (position - 1) 0 (omega arith) (eq-eqb _ _ is.last)

pub no_number_sign : (key : List ℕ) → All (λ byte. byte ≢ number_sign) key → list_any is_number_sign key ≡ false
no_number_sign key none = none_any key (λ k d below. ne_eqb _ _ (none k d below))

pub stated_hash-behind : (key : List ℕ) (position : ℕ) → IsBehindLast number_sign key position
    → stated_hash key ≡ number_in (read_number 4294967295 (drop position key))
unfolding stated_hash
stated_hash-behind key position is =
    let some = some_number_sign key position is in
    let rest = after_last-behind key position is in
    rw (some, rest) refl

pub stated_hash-none : (key : List ℕ) → All (λ byte. byte ≢ number_sign) key → stated_hash key ≡ None
unfolding stated_hash
stated_hash-none key none = let no = no_number_sign key none in rw no refl

-- The number follows the number sign, which is the last one.
pub is_behind_last : (key before : List ℕ) (hash : ℕ) → hash < 2 ^ 32 → key ≡ before ++ number_sign ∷ decimal hash
    → IsBehindLast number_sign key (length before + 1)
is_behind_last key before hash small spelled =
    let long : length key ≡ length before + length (number_sign ∷ decimal hash) = ap length spelled ∙ length-append before (number_sign ∷ decimal hash) in
    let rest : drop (length before + 1) key ≡ decimal hash = ap (drop (length before + 1)) spelled ∙ drop-append-add before (number_sign ∷ decimal hash) 1 in
    let numeral = decimal_is_numeral hash (omega arith) in
    record {
      above = omega arith;
      within = omega arith;
      last = ap (λ k. slice_index key k) (let same : length before + 1 - 1 ≡ length before = omega arith in same)
          ∙ ap (λ bytes. slice_index bytes (length before)) spelled ∙ get_or-append_seam before number_sign (decimal hash) 0;
      others =
          subst (All (λ byte. byte ≢ number_sign)) (sym rest)
          (λ k d below same. let digit = numeral.digits k d below in absurd (omega arith));
    }

pub stated_hash-only : (key before : List ℕ) (hash : ℕ) → hash < 2 ^ 32 → key ≡ before ++ number_sign ∷ decimal hash
    → stated_hash key ≡ Some hash
stated_hash-only key before hash small spelled =
    let is = is_behind_last key before hash small spelled in
    let rest : drop (length before + 1) key ≡ decimal hash = ap (drop (length before + 1)) spelled ∙ drop-append-add before (number_sign ∷ decimal hash) 1 in
    stated_hash-behind key (length before + 1) is ∙ ap number_in (read_number-decimal 4294967295 _ hash (lit< tt) (omega arith) rest)

-- and so a number that was read is spelled there
pub stated_hash-spelled : (key : List ℕ) (position hash : ℕ) → IsBehindLast number_sign key position → drop position key ≡ decimal hash
    → (before : List ℕ) × (key ≡ before ++ number_sign ∷ decimal hash)
stated_hash-spelled key position hash is rest =
    let above = is.above in
    let within = is.within in
    let cell = drop-cons key (position - 1) 0 (omega arith) in
    let next : suc (position - 1) ≡ position = omega arith in (
      take (position - 1) key,
      sym (take-append-drop (position - 1) key)
          ∙ ap (λ bytes. take (position - 1) key ++ bytes) (cell ∙ (λ i. is.last i ∷ drop (next i) key) ∙ ap (λ bytes. number_sign ∷ bytes) rest),
    )

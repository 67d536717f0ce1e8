-- The hash of any text, and of any grain, is a hash.
use Rattle.std.proofs.Common.{arith, ◌≡◌, refl, ℕ, ◌+◌, ◌*◌, ◌%◌, ◌<◌, ◌≤◌, List}
use Rattle.std.proofs.lemmas.Bool.Decides.{nat_tests}
use Rattle.std.specs.Prelude.{Bool, true, false, cond, nat_le, None, Ok, Err}
use Rattle.std.specs.List.{list_any, after_last}
use Rattle.sha2.specs.Sha256.{sha256, digest_bytes}
use Rattle.texts.specs.declared.NumberError.{NumberError}
use Rattle.texts.specs.Numeral.{is_numeral, numeral_value, read_number}
use Rattle.silo_address.specs.StatedHash.{is_number_sign, number_in, stated_hash}
use Rattle.silo_address.specs.Grain.{Grain, grain_text}
use Rattle.ring_range.specs.Range.{circle}
use Rattle.hash_ring.specs.declared.hashing.Hashing.{Hashing}
use Rattle.hash_ring.specs.declared.hashing.Hashing.TheVariants.{Sha256, Stated}
use Rattle.hash_ring.specs.Hash.{hash_grain, hash_stated, hash_text}

four_below : (a b c d : ℕ) → a % 256 * 16777216 + b % 256 * 65536 + c % 256 * 256 + d % 256 < 4294967296
four_below a b c d = omega arith

pub hash_below : (bytes : List ℕ) → hash_text bytes < circle
unfolding sha256 digest_bytes
hash_below bytes = four_below _ _ _ _

read_below : (grain : Grain) (some small : Bool) (value : ℕ) (fault other : NumberError) → small ≡ nat_le value 4294967295
    → hash_stated (number_in (cond some (cond small (Ok value) (Err fault)) (Err other))) grain < circle
read_below grain true true value fault other is = let le : value ≤ 4294967295 = grind (arith, nat_tests) in omega arith
read_below grain true false value fault other is = hash_below (grain_text grain)
read_below grain false small value fault other is = hash_below (grain_text grain)

stated_below : (grain : Grain) (signed : Bool) (word : _)
    → hash_stated (cond signed (number_in (read_number 4294967295 word)) None) grain < circle
stated_below grain true word = read_below grain (is_numeral word) (nat_le (numeral_value word) 4294967295) (numeral_value word) _ _ refl
stated_below grain false word = hash_below (grain_text grain)

pub grain_below : (hashing : Hashing) (grain : Grain) → hash_grain hashing grain < circle
unfolding stated_hash
grain_below Sha256 grain = hash_below (grain_text grain)
grain_below Stated grain = stated_below grain (list_any is_number_sign grain.key) (after_last is_number_sign grain.key)

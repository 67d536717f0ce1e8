-- A digest has 32 bytes.
use Rattle.std.proofs.Common.{arith, ◌≡◌, ℕ, ◌*◌, ◌<◌, zero, suc, List, [], ◌∷◌, ◌++◌, length, length-append}
use Rattle.std.specs.Int.{w32, byte_at, bytes_high_first, to_be_bytes}
use Rattle.std.specs.Prelude.{slice_index}
use Rattle.hex.specs.Hex.{IsBytes}
use Rattle.sha2.specs.Sha256.{digest_bytes, sha256}
use Rattle.silo_address.specs.declared.Entry.{Entry}
use Rattle.directory_rules.specs.Snapshot.{digest_of}
use Rattle.process_rules.specs.Told.{IsDigest}

no_bytes : IsBytes []
no_bytes zero = omega arith
no_bytes (suc i) = omega arith

more_bytes : (xs ys : List ℕ) → IsBytes xs → IsBytes ys → IsBytes (xs ++ ys)
more_bytes [] ys front back i = back i
more_bytes (x ∷ xs) ys front back zero = front 0
more_bytes (x ∷ xs) ys front back (suc i) = more_bytes xs ys (λ k. front (suc k)) back i

byte_below : (k n : ℕ) → byte_at k n < 256
byte_below zero n = omega arith
byte_below (suc k) n = omega arith

high_bytes : (k n : ℕ) → IsBytes (bytes_high_first k n)
high_bytes zero n i = no_bytes i
high_bytes (suc k) n zero = byte_below k n
high_bytes (suc k) n (suc i) = high_bytes k n i

high_long : (k n : ℕ) → length (bytes_high_first k n) ≡ k
high_long zero n = omega arith
high_long (suc k) n = let rest = high_long k n in omega (arith, rest)

all_bytes : (words : List ℕ) (n : ℕ) → IsBytes (digest_bytes words n)
unfolding digest_bytes
all_bytes words zero = no_bytes
all_bytes words (suc n) =
    more_bytes (digest_bytes words n) (to_be_bytes w32 (slice_index words n)) (all_bytes words n) (high_bytes 4 (slice_index words n))

all_long : (words : List ℕ) (n : ℕ) → length (digest_bytes words n) ≡ n * 4
unfolding digest_bytes
all_long words zero = omega arith
all_long words (suc n) =
    let before = all_long words n in
    let four = high_long 4 (slice_index words n) in
    let both = length-append (digest_bytes words n) (to_be_bytes w32 (slice_index words n)) in
    omega (arith, before, four, both)

pub is_digest : (entries : List Entry) → IsDigest (digest_of entries)
unfolding sha256
is_digest entries = record { long = all_long _ 8; bytes = all_bytes _ 8 }

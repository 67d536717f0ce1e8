-- The order of hashed grains is total, and equal in it is equal; and a grain is found by its key as by itself.
use Rattle.std.proofs.Common.{◌≡◌, refl, sym, ap, ◌∙◌, ℕ}
use Rattle.std.specs.Cmp.{IsTotalOrder}
use Rattle.std.specs.BTreeMap.{is_at}
use Rattle.std.specs.Cmp.Lexicographic.{slice_cmp}
use Rattle.std.specs.Ordering.{is_eq, nat_cmp, ordering_then}
use Rattle.std.specs.declared.cmp.Ordering.{Ordering}
use Rattle.std.specs.declared.cmp.Ordering.TheVariants.{Less, Equal, Greater}
use Rattle.std.proofs.lemmas.Cmp.{then_total, on_total, nat_cmp_total, nat_list_cmp_total, tied_itself}
use Rattle.std.proofs.lemmas.Map.Lookups.{CmpEqualImpliesEq, exact_unsigned}
use Rattle.silo_address.specs.Grain.{Grain, grain_cmp, grain_text}
use Rattle.silo_address.proofs.Order.{grain_cmp_total, grain_cmp_exact, both_tie}
use Rattle.hash_ring.specs.declared.Hashing.{Hashing}
use Rattle.hash_ring.specs.Hash.{hash_grain}
use Rattle.grain_table.specs.declared.hashed_grain.HashedGrain.{HashedGrain}
use Rattle.grain_table.specs.Hashed.{IsKeyOf, hashed_cmp, key_of, text_cmp}

text_cmp_total : IsTotalOrder text_cmp
text_cmp_total = then_total (on_total grain_text nat_list_cmp_total) grain_cmp_total

pub hashed_cmp_total : IsTotalOrder hashed_cmp
hashed_cmp_total = then_total (on_total (λ k. k.hash) nat_cmp_total) (on_total (λ k. k.grain) text_cmp_total)

abbrev hashed : ℕ → Grain → HashedGrain
hashed hash grain = record { hash = hash; grain = grain }

pub same_hashed : (a b : HashedGrain) → a.hash ≡ b.hash → a.grain ≡ b.grain → a ≡ b
same_hashed a b hash grain = λ i. hashed (hash i) (grain i)

text_cmp_exact : CmpEqualImpliesEq text_cmp
text_cmp_exact a b tied = grain_cmp_exact a b (both_tie (slice_cmp nat_cmp (grain_text a) (grain_text b)) (grain_cmp a b) tied).1

pub hashed_cmp_exact : CmpEqualImpliesEq hashed_cmp
hashed_cmp_exact a b tied =
    let both = both_tie (nat_cmp a.hash b.hash) (text_cmp a.grain b.grain) tied in
    same_hashed a b (exact_unsigned a.hash b.hash both.0) (text_cmp_exact a.grain b.grain both.1)

-- a key is that of its grain
pub key_is : (hashing : Hashing) (key : HashedGrain) → IsKeyOf hashing key → key ≡ key_of hashing key.grain
key_is hashing key is = same_hashed key (key_of hashing key.grain) is.hash_is refl

by_first : (h r : Ordering) → (r ≡ Equal → h ≡ Equal) → is_eq (ordering_then h r) ≡ is_eq r
by_first Less Less tied = refl
by_first Less Equal tied = let no : Less ≡ Equal = tied refl in cc
by_first Less Greater tied = refl
by_first Equal r tied = refl
by_first Greater Less tied = refl
by_first Greater Equal tied = let no : Greater ≡ Equal = tied refl in cc
by_first Greater Greater tied = refl

-- among keys a grain is found by its key just where it is found by itself
pub at_key : (hashing : Hashing) (grain : Grain) (key : HashedGrain) → key.hash ≡ hash_grain hashing key.grain
    → is_at (hashed_cmp (key_of hashing grain)) key ≡ is_at (grain_cmp grain) key.grain
at_key hashing grain key is =
    by_first (nat_cmp (hash_grain hashing grain) key.hash) (text_cmp grain key.grain)
    (λ tied. ap (λ h. nat_cmp (hash_grain hashing grain) h) (is ∙ ap (hash_grain hashing) (sym (text_cmp_exact grain key.grain tied)))
    ∙ tied_itself nat_cmp_total (hash_grain hashing grain))
    ∙ by_first (slice_cmp nat_cmp (grain_text grain) (grain_text key.grain)) (grain_cmp grain key.grain)
    (λ tied. ap (λ g. slice_cmp nat_cmp (grain_text grain) (grain_text g)) (sym (grain_cmp_exact grain key.grain tied))
    ∙ tied_itself nat_list_cmp_total (grain_text grain))

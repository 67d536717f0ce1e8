-- The one silo that six numbers are.
use Rattle.std.proofs.Common.{◌≡◌, ap, sym, ◌∙◌, subst, ℕ, ◌∷◌, [], List, Option, Some, None}
use Rattle.std.specs.Prelude.{slice_index}
use Rattle.std.specs.Option.{SomeIff}
use Rattle.silo_address.specs.Silo.{Silo, IsSilo}
use Rattle.silo_address.proofs.SiloLaws.{four}

pair_in_some : {a b : ℕ × List ℕ} → Some a ≡ Some b → a ≡ b
pair_in_some same = cc

-- two answers that are one
pub taken : {a b : ℕ} {rest more : List ℕ} → ◌≡◌ {A = Option (ℕ × List ℕ)} (Some (a, rest)) (Some (b, more)) → (a ≡ b) × (rest ≡ more)
taken same = let pair = pair_in_some same in (ap (λ (p : ℕ × List ℕ). p.0) pair, ap (λ (p : ℕ × List ℕ). p.1) pair)

pub taken_number : {a b : ℕ} → Some a ≡ Some b → a ≡ b
taken_number same = cc

found_silo : (found : Option Silo) (parts silo : Silo) → IsSilo silo → parts ≡ silo → SomeIff found (IsSilo parts) parts → found ≡ Some silo
found_silo None parts silo is same exact = absurd (exact (subst IsSilo (sym same) is))
found_silo (Some found) parts silo is same exact = ap Some (exact.1 ∙ same)

abbrev pub silo_with : ℕ → ℕ → ℕ → ℕ → ℕ → ℕ → Silo
silo_with a b c d port generation = record { ip = a ∷ b ∷ c ∷ d ∷ []; port = port; generation = generation }

-- the silo that the parts make is the one whose parts they are
pub one_silo : (silo : Silo) → IsSilo silo → (found : Option Silo) {a b c d port generation : ℕ}
    → a ≡ slice_index silo.ip 0 → b ≡ slice_index silo.ip 1 → c ≡ slice_index silo.ip 2 → d ≡ slice_index silo.ip 3 → port ≡ silo.port
    → generation ≡ silo.generation
    → SomeIff found (IsSilo (silo_with a b c d port generation)) (silo_with a b c d port generation) → found ≡ Some silo
one_silo silo is found first second third fourth ports generations exact =
    let ip = (λ i. first i ∷ second i ∷ third i ∷ fourth i ∷ []) ∙ four silo.ip is.four_bytes in
    found_silo found _ silo is (λ i. record { ip = ip i; port = ports i; generation = generations i }) exact

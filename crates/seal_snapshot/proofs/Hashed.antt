-- What a hasher takes piece by piece.
use Rattle.std.proofs.Common.{◌≡◌, ℕ, List, [], ◌∷◌, ◌++◌, ◌∙◌, ap, subst, refl, append_assoc, slice_index}
use Rattle.std.specs.Fmt.{decimal}
use Rattle.sha2.specs.Hashers.{Holds256}
use Rattle.sha2.specs.declared.Sha256.{Sha256}
use Rattle.silo_address.specs.Marks.{at_sign, colon, dot, exclamation_mark}
use Rattle.silo_address.specs.Silo.{Silo}
use Rattle.silo_address.specs.SiloText.{silo_text}
use Rattle.silo_address.specs.ActivationText.{activation_text}
use Rattle.silo_address.specs.declared.activation.ActivationId.{ActivationId}
use Rattle.seal_snapshot.specs.Lines.{Takes, ip_text}

-- one piece after another
pub takes_both : (a b c : Sha256) (s t : List ℕ) → Takes a s b → Takes b t c → Takes a (s ++ t) c
takes_both a b c s t first second text holds = subst (λ m. Holds256 c m) (append_assoc text s t) (second (text ++ s) (first text holds))

-- the same bytes, cut otherwise
pub takes_as : (a b : Sha256) (s t : List ℕ) → s ≡ t → Takes a s b → Takes a t b
takes_as a b s t same takes = subst (λ m. Takes a m b) same takes

-- the parts of a silo's text, with a mark behind them
pub silo_parts : (silo : Silo) (mark : ℕ)
    → ip_text silo.ip ++ ((decimal silo.port ++ at_sign ∷ []) ++ (decimal silo.generation ++ mark ∷ [])) ≡ silo_text silo ++ mark ∷ []
silo_parts silo mark = simp append_assoc refl

-- and those of an activation's
pub activation_parts : (activation : ActivationId) (mark : ℕ)
    → (silo_text activation.silo ++ exclamation_mark ∷ []) ++ (decimal activation.count ++ mark ∷ []) ≡ activation_text activation ++ mark ∷
    []
activation_parts activation mark = simp append_assoc refl

-- and those of an address
pub ip_parts : (ip : List ℕ) (first second third fourth : ℕ) → first ≡ slice_index ip 0 → second ≡ slice_index ip 1
    → third ≡ slice_index ip 2 → fourth ≡ slice_index ip 3
    → (decimal first ++ dot ∷ []) ++ ((decimal second ++ dot ∷ []) ++ ((decimal third ++ dot ∷ []) ++ (decimal fourth ++ colon ∷ [])))
    ≡ ip_text ip
ip_parts ip first second third fourth one two three four =
    ap (λ n. (decimal n ++ dot ∷ []) ++ ((decimal second ++ dot ∷ []) ++ ((decimal third ++ dot ∷ []) ++ (decimal fourth ++ colon ∷ []))))
    one
    ∙ ap (λ n. (decimal (slice_index ip 0) ++ dot ∷ []) ++
    ((decimal n ++ dot ∷ []) ++ ((decimal third ++ dot ∷ []) ++ (decimal fourth ++ colon ∷ [])))) two
    ∙ ap (λ n. (decimal (slice_index ip 0) ++ dot ∷ []) ++
    ((decimal (slice_index ip 1) ++ dot ∷ []) ++ ((decimal n ++ dot ∷ []) ++ (decimal fourth ++ colon ∷ [])))) three
    ∙ ap (λ n. (decimal (slice_index ip 0) ++ dot ∷ []) ++
    ((decimal (slice_index ip 1) ++ dot ∷ []) ++ ((decimal (slice_index ip 2) ++ dot ∷ []) ++ (decimal n ++ colon ∷ [])))) four

-- What spells a grain.
use Rattle.std.proofs.Common.{◌≡◌, ℕ, List, length, sym, ap, ◌∙◌, subst, ◌∷◌, ◌+◌, take, drop}
use Rattle.std.proofs.Math.Seq.{take-append_seam, drop-append-add}
use Rattle.silo_address.specs.Grain.{Grain, IsGrain, grain_text}
use Rattle.silo_address.specs.Marks.{slash}
use Rattle.dumps.specs.LentGrain.{Spells, spelled}

-- the text of a grain and the length of its kind tell the grain
pub spelled_by : (grain : Grain) (kind_len : ℕ) (name : List ℕ) → length grain.kind ≡ kind_len → grain_text grain ≡ name
    → spelled kind_len name ≡ grain
spelled_by grain kind_len name long text =
    let kind : take kind_len name ≡ grain.kind = rw (sym long, sym text) (take-append_seam grain.kind (slash ∷ grain.key)) in
    let key : drop (kind_len + 1) name ≡ grain.key = rw (sym long, sym text) (drop-append-add grain.kind (slash ∷ grain.key) 1) in
    λ i. record { kind = kind i; key = key i }

pub spells : (grain : Grain) (kind_len : ℕ) (name : List ℕ) → IsGrain grain → length grain.kind ≡ kind_len → grain_text grain ≡ name
    → Spells (spelled kind_len name) name
spells grain kind_len name is long text =
    let same = spelled_by grain kind_len name long text in
    record { is_grain = subst IsGrain (sym same) is; text = sym text ∙ ap grain_text (sym same) }

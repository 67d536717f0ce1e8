-- What has been read of members stands on when one more is found.
use Rattle.std.proofs.Common.{◌≡◌, ℕ, true, false, true≢false, List, ◌∷◌, Option, Some, None, sym, ◌∙◌}
use Rattle.std.specs.Prelude.{bytes_eq}
use Rattle.std.specs.List.{list_any}
use Rattle.std.proofs.lemmas.Slice.Eq.{bytes_eq-Decides}
use Rattle.std.proofs.lemmas.Bool.{or_parts}
use Rattle.serde_json.specs.Data.{Data, Members, put}
use Rattle.serde_json.proofs.Views.{get_member-put_other}
use Rattle.dumps.specs.MembersRead.{IsApart, Stands}

-- two names that differ
pub names_apart : (one other : List ℕ) → bytes_eq one other ≡ false → other ≡ one → ⊥
names_apart one other differ same = true≢false (sym ((bytes_eq-Decides one other).1 (sym same)) ∙ differ)

-- a member of another name changes nothing
pub stands_on : {X : Type 0} (tells : Data → X → Type 0) (own name : List ℕ) (read : Option X) (value : Data) (found : Members)
    → (own ≡ name → ⊥)
    → Stands tells own read found → Stands tells own read (put name value found)
stands_on tells own name None value found apart stood = get_member-put_other own name value found apart ∙ stood
stands_on tells own name (Some x) value found apart stood = (stood.0, get_member-put_other own name value found apart ∙ stood.1, stood.2)

pub others_stand : {X S : Type 0} (tells : Data → X → Type 0) (stands : S → Members → Type 0) (names : S → List (List ℕ)) (own : List ℕ)
    (read : Option X) (others : S)
    → ((name : List ℕ) (value : Data) (found : Members) → IsApart name (names others) → stands others found
    → stands others (put name value found))
    → (name : List ℕ) (value : Data) (found : Members) → IsApart name (own ∷ names others)
    → (Stands tells own read found × IsApart own (names others) × stands others found)
    → (Stands tells own read (put name value found) × IsApart own (names others) × stands others (put name value found))
others_stand tells stands names own read others on name value found differ stood =
    let none = or_parts (bytes_eq name own) (list_any (bytes_eq name) (names others)) differ in
    (stands_on tells own name read value found (names_apart name own none.0) stood.0, stood.1, on name value found none.1 stood.2)

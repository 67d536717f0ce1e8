-- The members of an object, read one after another, in any order.
use Rattle.std.specs.Prelude.{◌≡◌, ℕ, suc, true, false, List, ◌∷◌, bytes_eq, Option, Some, None}
use Rattle.std.specs.List.{list_any}
use Rattle.json.specs.Token.{Token, begin_object, key}
use Rattle.serde_json.specs.Data.{Data, object, Members, put}
use Rattle.serde_json.specs.Events.{members_len}
use Rattle.serde_json.specs.Find.{get_member}
use Rattle.dumps.specs.Straight.{IsAt}

-- what has been read of the member of that name among those found: nothing, and then none is found, or what its value tells
abbrev pub Stands : {X : Type 0} → (Data → X → Type 0) → List ℕ → Option X → Members → Type 0
Stands tells name None found = get_member name found ≡ None
Stands tells name (Some x) found = (value : Data) × (get_member name found ≡ Some value) × tells value x

-- how many values that is
abbrev pub filled : {X : Type 0} → Option X → ℕ
filled None = 0
filled (Some x) = 1

-- the name is none of the others
abbrev pub IsApart : List ℕ → List (List ℕ) → Type 0
IsApart name others = list_any (bytes_eq name) others ≡ false

-- the tokens begin with a member, whose value has been read, and nothing had been read of it: what stands for members found stands
-- for them with this one
pub record IsRead {S : Type 0} (stands : S → Members → Type 0) (names : S → List (List ℕ)) (many : S → ℕ) (deep : ℕ) (old new : S) (tokens rest : List Token) : Type 0 where
  pub name : List ℕ
  pub named : List Token
  pub value : Data
  pub is : tokens ≡ key name ∷ named
  pub at : IsAt deep named value rest
  pub among : list_any (bytes_eq name) (names old) ≡ true
  pub fresh : (found : Members) → stands old found → get_member name found ≡ None
  pub with_it : (found : Members) → stands old found → stands new (put name value found)
  pub same_names : names new ≡ names old
  pub one_more : many new ≡ suc (many old)

-- the tokens begin with the brace that opens an object
abbrev pub BeginsObject : List Token → Type 0
BeginsObject tokens = (rest : List Token) × (tokens ≡ begin_object ∷ rest)

-- the tokens begin with an object: what has been read stands for its members, which are as many
pub record AreRead {S : Type 0} (stands : S → Members → Type 0) (names : S → List (List ℕ)) (many : S → ℕ) (deep : ℕ) (old new : S) (tokens rest : List Token) : Type 0 where
  pub found : Members
  pub at : IsAt (suc deep) tokens (object found) rest
  pub stand : stands new found
  pub same_names : names new ≡ names old
  pub so_many : members_len found ≡ many new

-- What the tokens of a text tell, read one after another.
use Rattle.std.specs.Prelude.{◌≡◌, ℕ, ◌≤◌, List, length, Option, Some}
use Rattle.json.specs.Token.{Token}
use Rattle.json.specs.Json.{value, items}
use Rattle.serde_json.specs.Data.{Data, Items}
use Rattle.serde_json.specs.Read.{of_json, of_items, converted}
use Rattle.dump_rules.specs.Values.{items_in}

-- the tokens begin with the value, which nests so deep at most, and go on with the others
abbrev pub IsAt : ℕ → List Token → Data → List Token → Type 0
IsAt deep tokens told rest = (depth : ℕ) → deep ≤ depth → converted of_json (value depth tokens) ≡ Some (told, rest)

-- they begin with a value that tells x, which is what `tells` says
abbrev pub TellsBy : {X : Type 0} → (Data → X → Type 0) → ℕ → List Token → X → List Token → Type 0
TellsBy tells deep tokens x rest = (told : Data) × IsAt deep tokens told rest × tells told x

-- they begin with a value that reads as x
abbrev pub Tells : {X : Type 0} → (Data → Option X) → ℕ → List Token → X → List Token → Type 0
Tells reads = TellsBy (λ told x. reads told ≡ Some x)

-- they begin with these items and the bracket that closes their list
abbrev pub AreItems : ℕ → List Token → Items → List Token → Type 0
AreItems deep tokens values rest = (depth : ℕ) → deep ≤ depth → (n : ℕ) → length tokens ≤ n → converted of_items (items (value depth) n tokens) ≡ Some (values, rest)

-- they begin with items that tell these
abbrev pub TellItems : {X : Type 0} → (Data → Option X) → ℕ → List Token → List X → List Token → Type 0
TellItems reads deep tokens xs rest = (values : Items) × AreItems deep tokens values rest × (items_in reads values ≡ Some xs)

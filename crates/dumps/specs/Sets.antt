-- Sets of the items of a list.
use Rattle.std.specs.Prelude.{◌≡◌, List}
use Rattle.std.specs.BTreeMap.{is_at}
use Rattle.std.specs.BTreeSet.{BTreeSet, contains}
use Rattle.std.specs.List.{list_any}
use Rattle.std.specs.declared.cmp.Ordering.{Ordering}

-- the set has the items of the list, and no other
abbrev pub HasItems : {K : Type 0} → (K → K → Ordering) → BTreeSet K → List K → Type 0
HasItems {K} compare set items = (item : K) → contains compare set item ≡ list_any (is_at (compare item)) items

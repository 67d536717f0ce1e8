-- Activations in the order in which they began are the same activations, in rising counts.
use Rattle.std.proofs.Common.{◌≡◌, sym, ◌∙◌, List, [], ◌∷◌, length, false, Some, arith}
use Rattle.std.specs.List.{AllByRecursion, IsDistinct}
use Rattle.std.specs.Map.{lookup, keys_of}
use Rattle.std.specs.BTreeMap.{is_at}
use Rattle.std.proofs.lemmas.Map.Keys.{IsDistinct-head, IsDistinct-tail}
use Rattle.silo_address.specs.Grain.{Grain, grain_cmp, grain_eq}
use Rattle.directory_rules.specs.declared.Held.{Held}
use Rattle.host_activations.specs.Begun.{AreApart}
use Rattle.host_activations.specs.InOrder.{in_order}
use Rattle.host_activations.proofs.Grains.{IsFoundIn, each_found, either_none, not_equal}
use Rattle.host_activations.proofs.Rows.{AllApart, Apart, IsRow, length_spread, lookup_spread, row_spread}
use Rattle.host_activations.proofs.Unique.{unique}

abbrev OneEach : List (Grain × Held) → Type 0
OneEach all =
    (g q : Grain) (h k : Held) → lookup (is_at (grain_cmp g)) all ≡ Some h → lookup (is_at (grain_cmp q)) all ≡ Some k → h.count ≡ k.count
    → g ≡ q

apart_from : (all : List (Grain × Held)) → OneEach all → (e : Grain × Held) → IsFoundIn all e → (es : List (Grain × Held))
    → AllByRecursion (λ g. grain_eq e.0 g ≡ false) (keys_of es) → AllByRecursion (IsFoundIn all) es → AllByRecursion (Apart e) es
apart_from all once e here [] apart found = tt
apart_from all once e here (x ∷ es) apart found = (
  (not_equal e.0 x.0 apart.0, λ same. not_equal e.0 x.0 apart.0 (once e.0 x.0 e.1 x.1 here found.0 same)),
  apart_from all once e here es apart.1 found.1,
)

all_apart : (all es : List (Grain × Held)) → OneEach all → AllByRecursion (IsFoundIn all) es → IsDistinct grain_eq (keys_of es)
    → AllApart es
all_apart all [] once found apart = tt
all_apart all (e ∷ es) once found apart = (
  apart_from all once e found.0 es (IsDistinct-head grain_eq e.0 (keys_of es) apart) found.1,
  all_apart all es once found.1 (IsDistinct-tail grain_eq e.0 (keys_of es) apart),
)

pub are_all_apart : (es : List (Grain × Held)) → AreApart es → AllApart es
are_all_apart es are = all_apart es es are.counts (each_found es are.grains) are.grains

pub fresh_to_none : (es : List (Grain × Held)) → AllByRecursion (λ x. AllByRecursion (Apart x) []) es
fresh_to_none [] = tt
fresh_to_none (e ∷ es) = (tt, fresh_to_none es)

pub row_in_order : (es : List (Grain × Held)) → AreApart es → IsRow (in_order es)
row_in_order es are = row_spread [] es tt (are_all_apart es are) (fresh_to_none es)

pub lookup_in_order : (q : Grain) (es : List (Grain × Held)) → AreApart es
    → lookup (is_at (grain_cmp q)) (in_order es) ≡ lookup (is_at (grain_cmp q)) es
lookup_in_order q es are = lookup_spread q [] es (are_all_apart es are) (fresh_to_none es) ∙ either_none (lookup (is_at (grain_cmp q)) es)

pub length_in_order : (es : List (Grain × Held)) → length (in_order es) ≡ length es
length_in_order es = let all = length_spread [] es in omega (all, arith)

-- those in which the same is found at each grain are told in one order
pub same_order : (es fs : List (Grain × Held)) → AreApart es → AreApart fs
    → ((q : Grain) → lookup (is_at (grain_cmp q)) es ≡ lookup (is_at (grain_cmp q)) fs) → in_order es ≡ in_order fs
same_order es fs are also alike =
    unique (in_order es) (in_order fs) (row_in_order es are) (row_in_order fs also)
    (λ q. lookup_in_order q es are ∙ alike q ∙ sym (lookup_in_order q fs also))

-- A table has as many entries in either order.
use Rattle.std.proofs.Common.{◌≡◌, sym, ap, ◌∙◌, [], ◌∷◌, length, arith, refl}
use Rattle.std.specs.Prelude.{None}
use Rattle.std.specs.Option.{option_map}
use Rattle.std.specs.Map.{keys_of}
use Rattle.std.specs.BTreeMap.{is_at}
use Rattle.std.proofs.lemmas.Map.{lookup-none}
use Rattle.std.proofs.lemmas.Map.Keys.{sorted_tail, IsDistinct-from_sorted}
use Rattle.std.proofs.lemmas.Map.Entries.{none_past_head}
use Rattle.std.proofs.lemmas.Cmp.{eq_by_cmp_equiv, tied_itself}
use Rattle.std.specs.Ordering.{is_eq}
use Rattle.silo_address.specs.declared.ActivationId.{ActivationId}
use Rattle.silo_address.proofs.Order.{grain_cmp_total}
use Rattle.texts.proofs.Entries.{length-insert_entry}
use Rattle.hash_ring.specs.declared.Hashing.{Hashing}
use Rattle.directory_rules.specs.Table.{entry_at}
use Rattle.grain_table.specs.declared.hashed_grain.HashedGrain.{HashedGrain}
use Rattle.grain_table.specs.Hashed.{AreHashed, Hashed, by_grain, entry_under, hashed_cmp}
use Rattle.grain_table.proofs.Order.{hashed_cmp_total}
use Rattle.grain_table.proofs.ByGrain.{entry_of, found_at}

-- behind the first entries that are hashed in order its grain has none
pub none_behind : (hashing : Hashing) (e : HashedGrain × ActivationId) (es : Hashed) → AreHashed hashing (e ∷ es)
    → entry_at e.0.grain (by_grain es) ≡ None
none_behind hashing e es are =
    sym (found_at hashing e.0 es are.keys.0 are.keys.1)
    ∙ ap (option_map (entry_of e.0.grain)) (lookup-none (is_at (hashed_cmp e.0)) es
    (none_past_head (eq_by_cmp_equiv hashed_cmp_total) e.0 e es (IsDistinct-from_sorted hashed_cmp (keys_of (e ∷ es)) are.in_order)
    (ap is_eq (tied_itself hashed_cmp_total e.0))))

pub are_behind : (hashing : Hashing) (e : HashedGrain × ActivationId) (es : Hashed) → AreHashed hashing (e ∷ es) → AreHashed hashing es
are_behind hashing e es are = record { in_order = sorted_tail hashed_cmp e.0 (keys_of es) are.in_order; keys = are.keys.1 }

pub length_by_grain : (hashing : Hashing) (es : Hashed) → AreHashed hashing es → length es ≡ length (by_grain es)
length_by_grain hashing [] are = refl
length_by_grain hashing (e ∷ es) are =
    let behind = length_by_grain hashing es (are_behind hashing e es are) in
    let more = length-insert_entry grain_cmp_total e.0.grain (entry_under e) (by_grain es) (none_behind hashing e es are) in
    omega (arith, behind, more)

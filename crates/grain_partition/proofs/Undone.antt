-- An entry that is put in a map in order, and then undone.
use Rattle.std.proofs.Common.{◌≡◌, ℕ, refl, sym, ap, ◌∙◌, List, [], ◌∷◌, cond, Option, Some, None}
use Rattle.std.specs.Cmp.{IsTotalOrder}
use Rattle.std.specs.List.Sorted.{IsStrictlySortedBy}
use Rattle.std.specs.Map.{lookup, keys_of, set_value}
use Rattle.std.specs.BTreeMap.{is_at, insert_entry}
use Rattle.std.specs.Ordering.{is_eq, match_ordering}
use Rattle.std.specs.declared.cmp.Ordering.{Ordering}
use Rattle.std.specs.declared.cmp.Ordering.TheVariants.{Less, Equal, Greater}
use Rattle.std.proofs.lemmas.Option.{same_Some}
use Rattle.std.proofs.lemmas.Map.{lookup-none}
use Rattle.std.proofs.lemmas.Map.Keys.{sorted_tail}
use Rattle.std.proofs.lemmas.Map.Entries.{none_below_head}
use Rattle.texts.proofs.Entries.{remove-insert_entry}
use Rattle.silo_address.specs.Silo.{Silo, silo_cmp}
use Rattle.silo_address.proofs.Order.{silo_cmp_total}
use Rattle.grain_partition.specs.Served.{number_before}

module _ {K X : Type 0} {R : K → K → Ordering} (o : IsTotalOrder R) where
  -- a key that was there has its value again
  set_value-insert_entry : (k : K) (v w : X) (es : List (K × X)) → IsStrictlySortedBy R (keys_of es) → lookup (is_at (R k)) es ≡ Some w
      → set_value (is_at (R k)) (insert_entry R es k v) w ≡ es
  set_value-insert_entry k v w [] s there = cc
  set_value-insert_entry k v w (e ∷ es) s there =
      by (R k e.0) refl there (set_value-insert_entry k v w es (sorted_tail R e.0 (keys_of es) s))
    where
      by : (r : Ordering) → R k e.0 ≡ r → cond (is_eq r) (Some e.1) (lookup (is_at (R k)) es) ≡ Some w
          → (lookup (is_at (R k)) es ≡ Some w → set_value (is_at (R k)) (insert_entry R es k v) w ≡ es)
          → set_value (is_at (R k)) (match_ordering r ((k, v) ∷ e ∷ es) ((e.0, v) ∷ es) (e ∷ insert_entry R es k v)) w ≡ e ∷ es
      by Less is there later = absurd
          (let no : None ≡ Some w = sym (lookup-none (is_at (R k)) (e ∷ es) (none_below_head o k e es s is)) ∙ ap (λ r. cond (is_eq r) (Some e.1) (lookup (is_at (R k)) es)) is ∙ there in cc)
      by Equal is there later =
          ap (λ r. cond (is_eq r) ((e.0, w) ∷ es) ((e.0, v) ∷ set_value (is_at (R k)) es w)) is
          ∙ ap (λ x. (e.0, x) ∷ es) (sym (same_Some e.1 w there))
      by Greater is there later =
          ap (λ r. cond (is_eq r) ((e.0, w) ∷ insert_entry R es k v) (e ∷ set_value (is_at (R k)) (insert_entry R es k v) w)) is
          ∙ ap (λ l. e ∷ l) (later there)

-- a number that is noted and unnoted is as it was
pub number_again : (silo : Silo) (number : ℕ) (before : Option ℕ) (served : List (Silo × ℕ)) → IsStrictlySortedBy silo_cmp (keys_of served)
    → before ≡ lookup (is_at (silo_cmp silo)) served → number_before silo before (insert_entry silo_cmp served silo number) ≡ served
number_again silo number None served s was = remove-insert_entry silo_cmp_total silo number served (sym was)
number_again silo number (Some before) served s was = set_value-insert_entry silo_cmp_total silo number before served s (sym was)

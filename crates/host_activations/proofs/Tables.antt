-- The table that is made of activations as they stand: what is found in it, and each entry stands under its own grain.
use Rattle.std.proofs.Common.{◌≡◌, refl, sym, ap, ◌∙◌, ℕ, List, [], ◌∷◌, cond, Bool, filter, map, option_map, Some}
use Rattle.std.specs.BTreeMap.{insert_entry, is_at}
use Rattle.std.specs.Cmp.{IsTotalOrder}
use Rattle.std.specs.List.{AllByRecursion, IsDistinct}
use Rattle.std.specs.Map.{keys_of, lookup}
use Rattle.std.specs.Ordering.{is_eq, match_ordering}
use Rattle.std.specs.declared.cmp.Ordering.{Ordering}
use Rattle.std.specs.declared.cmp.Ordering.TheVariants.{Less, Equal, Greater}
use Rattle.std.proofs.lemmas.Cmp.{tied_itself}
use Rattle.std.proofs.lemmas.Map.Keys.{IsDistinct-tail}
use Rattle.std.proofs.lemmas.Map.Lookups.{CmpEqualImpliesEq}
use Rattle.texts.proofs.Entries.{lookup-insert_entry}
use Rattle.silo_address.specs.Silo.{Silo}
use Rattle.silo_address.specs.Grain.{Grain, grain_cmp, grain_eq}
use Rattle.silo_address.specs.declared.Entry.{Entry}
use Rattle.silo_address.proofs.Order.{apart_in_order}
use Rattle.ring_range.specs.Range.{Range}
use Rattle.directory_rules.specs.declared.Held.{Held}
use Rattle.directory_rules.specs.Host.{entry_on}
use Rattle.directory_rules.specs.Standing.{standing_cmp}
use Rattle.directory_rules.specs.State.{Table}
use Rattle.directory_rules.proofs.Standings.{put_as_they_stand, standing_exact, standing_total}
use Rattle.host_activations.specs.Listing.{passing}
use Rattle.host_activations.proofs.Grains.{either, either_none, on_grain, other_grain}
use Rattle.host_activations.proofs.Passing.{gone_behind, passing_found, passing_once}

module _ (hash : Grain → ℕ) (ranges : List Range) where
  abbrev order : Grain → Grain → Ordering
  order = standing_cmp hash ranges

  total : IsTotalOrder (standing_cmp hash ranges)
  total = standing_total hash ranges

  exact : CmpEqualImpliesEq (standing_cmp hash ranges)
  exact = standing_exact hash ranges

  -- a grain is found by where it stands as by itself
  pub at_alike : (q k : Grain) → is_at (standing_cmp hash ranges q) k ≡ is_at (grain_cmp q) k
  at_alike q k =
      on_grain (λ b. is_at (order q) k ≡ b) q k
      (λ same. ap (λ (g : Grain). is_at (order q) g) (sym same) ∙ ap is_eq (tied_itself total q))
      (λ other. apart_in_order (standing_cmp hash ranges) exact q k (other_grain q k other))

  module _ (silo : Silo) where
    abbrev entries : List (Grain × Held) → List Entry
    entries es = map (λ e. entry_on silo e.0 e.1) es

    found_put : (q : Grain) (table : Table) (es : List (Grain × Held)) → IsDistinct grain_eq (keys_of es)
        → lookup (is_at (order q)) (put_as_they_stand hash ranges table (entries es))
        ≡ either (option_map (entry_on silo q) (lookup (is_at (grain_cmp q)) es)) (lookup (is_at (order q)) table)
    found_put q table [] apart = refl
    found_put q table (e ∷ es) apart =
        found_put q (insert_entry order table e.0 (entry_on silo e.0 e.1)) es (IsDistinct-tail grain_eq e.0 (keys_of es) apart)
        ∙ ap (either (option_map (entry_on silo q) (lookup (is_at (grain_cmp q)) es)))
        (lookup-insert_entry total e.0 (entry_on silo e.0 e.1) q table
        ∙ ap (λ b. cond b (Some (entry_on silo e.0 e.1)) (lookup (is_at (order q)) table)) (at_alike q e.0))
        ∙ on_grain (λ b. either (option_map (entry_on silo q) (lookup (is_at (grain_cmp q)) es))
        (cond b (Some (entry_on silo e.0 e.1)) (lookup (is_at (order q)) table))
        ≡ either (option_map (entry_on silo q) (cond b (Some e.1) (lookup (is_at (grain_cmp q)) es))) (lookup (is_at (order q)) table)) q
        e.0
        (λ same. ap (λ o. either (option_map (entry_on silo q) o) (Some (entry_on silo e.0 e.1))) (gone_behind q e es apart same)
        ∙ ap (λ (g : Grain). Some (entry_on silo g e.1)) (sym same))
        (λ other. refl)

    -- what is found among those that pass a test
    pub found_standing : (test : Grain × Held → Bool) (q : Grain) (es : List (Grain × Held)) → IsDistinct grain_eq (keys_of es)
        → lookup (is_at (standing_cmp hash ranges q)) (put_as_they_stand hash ranges [] (map (λ e. entry_on silo e.0 e.1) (filter test es)))
        ≡ option_map (entry_on silo q) (passing test q (lookup (is_at (grain_cmp q)) es))
    found_standing test q es apart =
        found_put q [] (filter test es) (passing_once test es apart)
        ∙ either_none (option_map (entry_on silo q) (lookup (is_at (grain_cmp q)) (filter test es)))
        ∙ ap (option_map (entry_on silo q)) (passing_found test q es apart)

  -- ---- Each entry stands under its own grain.
  abbrev pub AreOwn : Table → Type 0
  AreOwn table = AllByRecursion (λ e. e.0 ≡ e.1.grain) table

  own_more : (table : Table) (entry : Entry) → AreOwn table → AreOwn (insert_entry order table entry.grain entry)
  own_more [] entry own = (refl, tt)
  own_more (x ∷ xs) entry own = by (order entry.grain x.0) refl (own_more xs entry own.1)
    where
      by : (r : Ordering) → order entry.grain x.0 ≡ r → AreOwn (insert_entry order xs entry.grain entry)
          → AreOwn (match_ordering r ((entry.grain, entry) ∷ x ∷ xs) ((x.0, entry) ∷ xs) (x ∷ insert_entry order xs entry.grain entry))
      by Less is rest = (refl, own)
      by Equal is rest = (sym (exact entry.grain x.0 is), own.1)
      by Greater is rest = (own.0, rest)

  pub own_all : (es : List Entry) (table : Table) → AreOwn table → AreOwn (put_as_they_stand hash ranges table es)
  own_all [] table own = own
  own_all (e ∷ es) table own = own_all es (insert_entry order table e.grain e) (own_more table e own)

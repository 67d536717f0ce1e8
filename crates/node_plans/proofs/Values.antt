-- Values written among entries under numbers, and taken out.
use Rattle.std.proofs.Common.{◌≡◌, ℕ, refl, sym, ap, ◌∙◌, List, [], ◌∷◌, cond, Bool, Some, None}
use Rattle.std.specs.Prelude.{All}
use Rattle.std.proofs.lemmas.List.Elements.{All-head, All-tail, All-nil, All-cons}
use Rattle.std.specs.List.Sorted.{IsStrictlySortedBy}
use Rattle.std.specs.Map.{lookup, keys_of, remove_entry, set_value}
use Rattle.std.specs.BTreeMap.{is_at, insert_entry}
use Rattle.std.specs.Ordering.{is_eq, match_ordering, nat_cmp}
use Rattle.std.specs.declared.cmp.Ordering.{Ordering}
use Rattle.std.specs.declared.cmp.Ordering.TheVariants.{Less, Equal, Greater}
use Rattle.std.proofs.lemmas.Cmp.{nat_cmp_total}
use Rattle.std.proofs.lemmas.Map.{lookup-none}
use Rattle.std.proofs.lemmas.Map.Keys.{sorted_tail}
use Rattle.std.proofs.lemmas.Map.Entries.{none_below_head}
use Rattle.directory_rules.proofs.Cases.{on_bool}

-- taken out after it was written, as if it had not been written
pub remove-set_value : {X : Type 0} (at : ℕ → Bool) (es : List (ℕ × X)) (w : X) → remove_entry at (set_value at es w) ≡ remove_entry at es
remove-set_value at [] w = refl
remove-set_value at (e ∷ es) w =
    on_bool (λ b. remove_entry at (cond b ((e.0, w) ∷ es) (e ∷ set_value at es w)) ≡ cond b es (e ∷ remove_entry at es)) (at e.0)
    (λ t. ap (λ b. cond b es ((e.0, w) ∷ remove_entry at es)) t)
    (λ f. ap (λ b. cond b (set_value at es w) (e ∷ remove_entry at (set_value at es w))) f ∙ ap (λ l. e ∷ l) (remove-set_value at es w))

-- put in where there is one, it is written
pub insert_entry-there : {X : Type 0} (k : ℕ) (v w : X) (es : List (ℕ × X)) → IsStrictlySortedBy nat_cmp (keys_of es)
    → lookup (is_at (nat_cmp k)) es ≡ Some w → insert_entry nat_cmp es k v ≡ set_value (is_at (nat_cmp k)) es v
insert_entry-there k v w [] s there = cc
insert_entry-there k v w (e ∷ es) s there =
    by (nat_cmp k e.0) refl there (insert_entry-there k v w es (sorted_tail nat_cmp e.0 (keys_of es) s))
  where
    by : (r : Ordering) → nat_cmp k e.0 ≡ r → cond (is_eq r) (Some e.1) (lookup (is_at (nat_cmp k)) es) ≡ Some w
        → (lookup (is_at (nat_cmp k)) es ≡ Some w → insert_entry nat_cmp es k v ≡ set_value (is_at (nat_cmp k)) es v)
        → match_ordering r ((k, v) ∷ e ∷ es) ((e.0, v) ∷ es) (e ∷ insert_entry nat_cmp es k v) ≡ cond (is_eq r) ((e.0, v) ∷ es)
        (e ∷ set_value (is_at (nat_cmp k)) es v)
    by Less is there later = absurd
        (let no : None ≡ Some w = sym (lookup-none (is_at (nat_cmp k)) (e ∷ es) (none_below_head nat_cmp_total k e es s is)) ∙ ap (λ r. cond (is_eq r) (Some e.1) (lookup (is_at (nat_cmp k)) es)) is ∙ there in cc)
    by Equal is there later = refl
    by Greater is there later = ap (λ l. e ∷ l) (later there)

-- what all have, all others have
pub all_but_one : {X : Type 0} (P : ℕ × X → Type 0) (at : ℕ → Bool) (es : List (ℕ × X)) → All P es → All P (remove_entry at es)
all_but_one P at [] all = All-nil P
all_but_one P at (e ∷ es) all =
    on_bool (λ b. All P (cond b es (e ∷ remove_entry at es))) (at e.0)
    (λ t. All-tail P e es all)
    (λ f. All-cons P e (remove_entry at es) (All-head P e es all) (all_but_one P at es (All-tail P e es all)))

-- and with one more that has it
pub all_put : {X : Type 0} (P : X → Type 0) (key : ℕ) (value : X) (es : List (ℕ × X)) → P value → All (λ e. P e.1) es
    → All (λ e. P e.1) (insert_entry nat_cmp es key value)
all_put P key value [] new all = All-cons (λ e. P e.1) (key, value) [] new all
all_put P key value (e ∷ es) new all = by (nat_cmp key e.0) (all_put P key value es new (All-tail (λ e. P e.1) e es all))
  where
    by : (r : Ordering) → All (λ e. P e.1) (insert_entry nat_cmp es key value)
        → All (λ e. P e.1) (match_ordering r ((key, value) ∷ e ∷ es) ((e.0, value) ∷ es) (e ∷ insert_entry nat_cmp es key value))
    by Less later = All-cons (λ e. P e.1) (key, value) (e ∷ es) new all
    by Equal later = All-cons (λ e. P e.1) (e.0, value) es new (All-tail (λ e. P e.1) e es all)
    by Greater later = All-cons (λ e. P e.1) e (insert_entry nat_cmp es key value) (All-head (λ e. P e.1) e es all) later

pub all_written : {X : Type 0} (P : X → Type 0) (at : ℕ → Bool) (value : X) (es : List (ℕ × X)) → P value → All (λ e. P e.1) es
    → All (λ e. P e.1) (set_value at es value)
all_written P at value [] new all = all
all_written P at value (e ∷ es) new all =
    on_bool (λ b. All (λ e. P e.1) (cond b ((e.0, value) ∷ es) (e ∷ set_value at es value))) (at e.0)
    (λ t. All-cons (λ e. P e.1) (e.0, value) es new (All-tail (λ e. P e.1) e es all))
    (λ f. All-cons (λ e. P e.1) e (set_value at es value) (All-head (λ e. P e.1) e es all)
    (all_written P at value es new (All-tail (λ e. P e.1) e es all)))

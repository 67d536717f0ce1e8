-- Lists read item by item.
use Rattle.std.proofs.Common.{◌≡◌, ℕ, ◌+◌, ◌<◌, ◌≤◌, List, [], ◌∷◌, ◌++◌, length, drop, get_or, Option, Some, None, option_map, option_and_then, refl, sym, ◌∙◌, ap, append_assoc, append-nil, add-one, drop-cons}
use Rattle.std.proofs.lemmas.List.{drop_all}
use Rattle.serde_json.specs.Data.{Data, item}
use Rattle.serde_json.specs.Find.{as_array}
use Rattle.serde_json.specs.View.{view, items_view}
use Rattle.serde_json.specs.declared.value.Value.{Value}
use Rattle.dump_rules.specs.Values.{items_in, list_in}

-- the items that were read, and behind them those that will be
abbrev pub onto : {X : Type 0} → List X → Option (List X) → Option (List X)
onto front rest = option_map (λ xs. front ++ xs) rest

onto-read : {X : Type 0} (front : List X) (x : X) (rest : Option (List X))
    → onto front (option_map (λ xs. x ∷ xs) rest) ≡ onto (front ++ x ∷ []) rest
onto-read front x None = refl
onto-read front x (Some xs) = ap Some (sym (append_assoc front (x ∷ []) xs))

cut_at : (values : List Value) (i : ℕ) (value : Value) → i < length values → value ≡ get_or values i value
    → items_view (drop i values) ≡ item (view value) (items_view (drop (i + 1) values))
cut_at values i value within is = ap items_view (drop-cons values i value within) ∙ rw (add-one, ← is)

pub item_read : {X : Type 0} (reads : Data → Option X) (values : List Value) (i : ℕ) (value : Value) (front : List X) (x : X)
    (whole : Option (List X))
    → i < length values → value ≡ get_or values i value → reads (view value) ≡ Some x
    → whole ≡ onto front (items_in reads (items_view (drop i values)))
    → whole ≡ onto (front ++ x ∷ []) (items_in reads (items_view (drop (i + 1) values)))
item_read reads values i value front x whole within is read so_far =
    so_far ∙ rw (cut_at values i value within is) (rw read (onto-read front x (items_in reads (items_view (drop (i + 1) values)))))

item_unread : {X : Type 0} (reads : Data → Option X) (values : List Value) (i : ℕ) (value : Value) (front : List X)
    (whole : Option (List X))
    → i < length values → value ≡ get_or values i value → reads (view value) ≡ None
    → whole ≡ onto front (items_in reads (items_view (drop i values)))
    → whole ≡ None
item_unread reads values i value front whole within is unread so_far = so_far ∙ rw (cut_at values i value within is) (rw unread refl)

all_read : {X : Type 0} (reads : Data → Option X) (values : List Value) (i : ℕ) (front : List X) (whole : Option (List X))
    → length values ≤ i → whole ≡ onto front (items_in reads (items_view (drop i values))) → whole ≡ Some front
all_read reads values i front whole past so_far = so_far ∙ rw (drop_all i values past) (ap Some (append-nil front))

-- a list one of whose items tells nothing, and one whose items were all read
pub list_unread : {X : Type 0} (reads : Data → Option X) (list : Data) (values : List Value) (i : ℕ) (value : Value) (front : List X)
    → as_array list ≡ Some (items_view values) → i < length values → value ≡ get_or values i value
    → items_in reads (items_view values) ≡ onto front (items_in reads (items_view (drop i values)))
    → reads (view value) ≡ None → list_in reads list ≡ None
list_unread reads list values i value front is within here so_far unread =
    ap (option_and_then (items_in reads)) is ∙ item_unread reads values i value front _ within here unread so_far

pub list_read : {X : Type 0} (reads : Data → Option X) (list : Data) (values : List Value) (i : ℕ) (front : List X)
    → as_array list ≡ Some (items_view values) → length values ≤ i
    → items_in reads (items_view values) ≡ onto front (items_in reads (items_view (drop i values)))
    → list_in reads list ≡ Some front
list_read reads list values i front is past so_far = ap (option_and_then (items_in reads)) is ∙ all_read reads values i front _ past so_far

-- A view is read row by row: one that is read is shown once the next one is known, since that tells whether it is spare.
use Rattle.std.proofs.Common.{◌≡◌, ℕ, List, [], ◌∷◌, ◌++◌, Option, Some, None, sym, ◌∙◌, ap, subst, append-nil, append_assoc}
use Rattle.std.proofs.lemmas.Map.Keys.{sorted_tail}
use Rattle.std.specs.Option.{option_map}
use Rattle.std.specs.List.{cons_option}
use Rattle.std.specs.List.Sorted.{IsStrictlySortedBy}
use Rattle.std.specs.Map.{keys_of}
use Rattle.silo_address.specs.Silo.{Silo, silo_cmp}
use Rattle.silo_address.proofs.Order.{silo_cmp_total}
use Rattle.texts.proofs.Entries.{sorted-picked}
use Rattle.membership_view.specs.declared.row.Row.{Row}
use Rattle.membership_view.specs.declared.status.Status.{Status}
use Rattle.membership_view.specs.Row.{status_in}
use Rattle.membership_view.specs.View.{listed_rows}
use Rattle.membership_view.specs.Listing.{before, before_by, last_of}
use Rattle.membership_view.specs.Views.{rows_in}
use Rattle.membership_view.proofs.Listed.{listed_two, listed_one}

-- what isn't shown yet: the last row that was read, and those that come
abbrev pub ahead : Option (Silo × Status) → (version : ℕ) → List (Silo × Row) → List (Silo × Status)
ahead last version rows = last_of last ++ rows_in version rows

-- so far these are shown, of all rows
pub record IsRead (shown : List (Silo × Status)) (last : Option (Silo × Status)) (version : ℕ) (rows all : List (Silo × Row)) : Type 0 where
  pub in_order : IsStrictlySortedBy silo_cmp (keys_of (ahead last version rows))
  pub concludes : shown ++ listed_rows (ahead last version rows) ≡ listed_rows (rows_in version all)

pub read_start : (shown : List (Silo × Status)) (version : ℕ) (all : List (Silo × Row)) → shown ≡ []
    → IsStrictlySortedBy silo_cmp (keys_of all) → IsRead shown None version all all
read_start shown version all none s = record {
  in_order = sorted-picked silo_cmp_total (status_in version) all s;
  concludes = ap (λ l. l ++ listed_rows (rows_in version all)) none;
}

module _ (shown : List (Silo × Status)) (version : ℕ) (e : Silo × Row) (rows all : List (Silo × Row)) where
  rows_with : (o : Option Status) → status_in version e.1 ≡ o
      → rows_in version (e ∷ rows) ≡ cons_option (option_map (λ status. (e.0, status)) o) (rows_in version rows)
  rows_with o is = ap (λ o. cons_option (option_map (λ (status : Status). (e.0, status)) o) (rows_in version rows)) is

  -- the one before is shown or spare, by the next one
  pub read_next : (last : Option (Silo × Status)) (status : Status) → IsRead shown last version (e ∷ rows) all → status_in version e.1 ≡ Some status
      → IsRead (shown ++ before last e.0) (Some (e.0, status)) version rows all
  read_next None status so is = record {
    in_order = subst (λ l. IsStrictlySortedBy silo_cmp (keys_of l)) (rows_with (Some status) is) so.in_order;
    concludes =
        ap (λ l. l ++ listed_rows ((e.0, status) ∷ rows_in version rows)) (append-nil shown)
        ∙ ap (λ l. shown ++ listed_rows l) (sym (rows_with (Some status) is)) ∙ so.concludes;
  }
  read_next (Some a) status so is =
      let s = subst (λ l. IsStrictlySortedBy silo_cmp (keys_of (a ∷ l))) (rows_with (Some status) is) so.in_order in
      let x : Silo × Status = (e.0, status) in
      record {
        in_order = sorted_tail silo_cmp a.0 (keys_of (x ∷ rows_in version rows)) s;
        concludes =
            append_assoc shown (before_by a.0 a.1 e.0) (listed_rows (x ∷ rows_in version rows))
            ∙ ap (λ l. shown ++ l) (sym (listed_two a x (rows_in version rows) s))
            ∙ ap (λ l. shown ++ listed_rows (a ∷ l)) (sym (rows_with (Some status) is)) ∙ so.concludes;
      }

pub read_end : (shown : List (Silo × Status)) (last : Option (Silo × Status)) (version : ℕ) (all : List (Silo × Row))
    → IsRead shown last version [] all → shown ++ last_of last ≡ listed_rows (rows_in version all)
read_end shown None version all so = so.concludes
read_end shown (Some a) version all so = ap (λ l. shown ++ l) (sym (listed_one a)) ∙ so.concludes

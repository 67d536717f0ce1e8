-- What is told of the silos and their marks by those that are awaited and those that have reported.
use Rattle.std.proofs.Common.{◌≡◌, ℕ, zero, suc, ◌+◌, ◌-◌, ◌<◌, Some, arith, length, get_or, Bool, true, false, not, List, [], ◌∷◌, map, refl, sym, ◌∙◌, ap, subst}
use Rattle.std.specs.List.{filter}
use Rattle.std.specs.List.Sorted.{IsStrictlySortedBy}
use Rattle.std.specs.Map.{keys_of}
use Rattle.std.proofs.lemmas.Cmp.{on_total}
use Rattle.std.proofs.lemmas.Option.{same_Some}
use Rattle.silo_address.specs.Silo.{Silo, silo_cmp}
use Rattle.silo_address.proofs.Order.{silo_cmp_total}
use Rattle.membership_view.specs.declared.status.Status.{Status}
use Rattle.hash_ring.proofs.Members.{In, In-from_Contains}
use Rattle.hash_ring.proofs.StrictOrder.{Rising, Rising-from_sorted, sorted-from_Rising, same_rising}
use Rattle.range_recovery.specs.declared.awaited.Awaited.{Awaited}
use Rattle.range_recovery.specs.Silos.{AreAwaited, AwaitedValue, IsByAddress, awaiting_of, reported_of, silos_of, has_reported, marked, IsCounted, IsSiloAt}
use Rattle.range_recovery.proofs.Marks.{with_mark}
use Rattle.range_recovery.proofs.Lists.{Rising-by, Rising-kept}
use Rattle.range_recovery.proofs.Marks.{awaiting-mark, fewer-mark, reported-mark, silos_of-mark}
use Rattle.range_recovery.proofs.Reported.{Row, has_reported-at, same_row, one_mark, row_awaited, row_reported, In-awaiting, In-reported}

-- those that are awaited and those that have reported, as one value
abbrev pub told : List Awaited → AwaitedValue
told silos = record { awaiting = awaiting_of silos; reported = reported_of silos }

-- what they keep
pub are_awaited : (silos : List Awaited) → IsByAddress silos → AreAwaited (told silos)
are_awaited silos sorted =
    let rising = Rising-from_sorted silo_cmp (silos_of silos) sorted in
    record {
      awaiting_in_order =
          sorted-from_Rising silo_cmp (awaiting_of silos) (Rising-kept silo_cmp (λ a. a.silo) (λ a. not a.has_reported) silos rising);
      reported_in_order =
          sorted-from_Rising silo_cmp (reported_of silos) (Rising-kept silo_cmp (λ a. a.silo) (λ a. a.has_reported) silos rising);
      apart = λ silo awaits reports.
          one_mark silos rising silo (row_awaited silos silo (In-from_Contains silo (awaiting_of silos) awaits))
          (row_reported silos silo (In-from_Contains silo (reported_of silos) reports));
    }

-- a row of one list is in the other, where both tell the same
goes_over : (xs ys : List Awaited) → told xs ≡ told ys → (a : Awaited) → In a xs → In a ys
goes_over xs ys same a there = subst (λ r. In r ys) (same_row row.0 a row.2 row.3) row.1
  where
    row_with : (b : Bool) → a.has_reported ≡ b → Row ys a.silo b
    row_with true t = row_reported ys a.silo (subst (λ (v : AwaitedValue). In a.silo v.reported) same (In-reported xs a there t))
    row_with false f = row_awaited ys a.silo (subst (λ (v : AwaitedValue). In a.silo v.awaiting) same (In-awaiting xs a there f))

    row : Row ys a.silo a.has_reported
    row = row_with a.has_reported refl

-- two lists that tell the same are one
pub same_rows : (xs ys : List Awaited) → IsByAddress xs → IsByAddress ys → told xs ≡ told ys → xs ≡ ys
same_rows xs ys sorted other_sorted same =
    same_rising (on_total (λ (a : Awaited). a.silo) silo_cmp_total) xs ys
    (Rising-by silo_cmp (λ a. a.silo) xs (Rising-from_sorted silo_cmp (silos_of xs) sorted))
    (Rising-by silo_cmp (λ a. a.silo) ys (Rising-from_sorted silo_cmp (silos_of ys) other_sorted))
    (λ a there. goes_over xs ys same a there) (λ a there. goes_over ys xs (sym same) a there)

-- the silo of a view's row, before any has reported
abbrev pub unreported : Silo × Status → Awaited
unreported row = record { silo = row.0; has_reported = false }

-- ---- before any has reported
pub silos_of-unreported : (rows : List (Silo × Status)) → silos_of (map unreported rows) ≡ keys_of rows
silos_of-unreported [] = refl
silos_of-unreported (row ∷ rows) = ap (λ l. row.0 ∷ l) (silos_of-unreported rows)

awaiting_of-unreported : (rows : List (Silo × Status)) → awaiting_of (map unreported rows) ≡ keys_of rows
awaiting_of-unreported [] = refl
awaiting_of-unreported (row ∷ rows) = ap (λ l. row.0 ∷ l) (awaiting_of-unreported rows)

reported_of-unreported : (rows : List (Silo × Status)) → reported_of (map unreported rows) ≡ []
reported_of-unreported [] = refl
reported_of-unreported (row ∷ rows) = reported_of-unreported rows

pub told-unreported : (rows : List (Silo × Status)) → told (map unreported rows) ≡ record { awaiting = keys_of rows; reported = [] }
told-unreported rows = λ i. value (awaiting_of-unreported rows i) (reported_of-unreported rows i)
  where
    value : List Silo → List Silo → AwaitedValue
    value awaiting reported = record { awaiting = awaiting; reported = reported }

-- those of some rows of a view stand by address
pub by_address-unreported : (p : Silo × Status → Bool) (rows : List (Silo × Status)) → IsStrictlySortedBy silo_cmp (keys_of rows)
    → IsByAddress (map unreported (filter p rows))
by_address-unreported p rows sorted =
    subst (λ (l : List Silo). IsStrictlySortedBy silo_cmp l) (sym (silos_of-unreported (filter p rows)))
    (sorted-from_Rising silo_cmp (keys_of (filter p rows))
    (Rising-kept silo_cmp (λ row. row.0) p rows (Rising-from_sorted silo_cmp (keys_of rows) sorted)))

-- and are counted
pub counted-unreported : (rows : List (Silo × Status)) → length (map unreported rows) ≡ length (awaiting_of (map unreported rows))
counted-unreported [] = refl
counted-unreported (row ∷ rows) = ap (λ n. suc n) (counted-unreported rows)

-- ---- after one has reported
pub told-mark : (silos : List Awaited) (index : ℕ) (a : Awaited) → IsByAddress silos → index < length silos → get_or silos index a ≡ a
    → a.has_reported ≡ false
    → told (with_mark silos index) ≡ marked (told silos) a.silo
told-mark silos index a sorted within at waits =
    λ i. value (awaiting-mark silos index a rising within at waits i) (reported-mark silos index a rising within at waits i)
  where
    rising : Rising silo_cmp (silos_of silos)
    rising = Rising-from_sorted silo_cmp (silos_of silos) sorted

    value : List Silo → List Silo → AwaitedValue
    value awaiting reported = record { awaiting = awaiting; reported = reported }

-- a row stands at each index
row_at : (silos : List Awaited) (index : ℕ) → index < length silos → (a : Awaited) × (get_or silos index a ≡ a)
row_at [] index within = absurd (omega arith)
row_at (x ∷ silos) zero within = (x, refl)
row_at (x ∷ silos) (suc index) within = row_at silos index (omega arith)

-- the mark of an awaited silo keeps the order and the count, and is what it is said to be
pub record IsMarked (silos : List Awaited) (missing : ℕ) (silo : Silo) (index : ℕ) : Type 0 where
  pub kept : IsCounted (with_mark silos index) (missing - 1)
  pub is : told (with_mark silos index) ≡ marked (told silos) silo

pub is_marked : (silos : List Awaited) (missing : ℕ) → IsCounted silos missing → (silo : Silo) (index : ℕ) → IsSiloAt silos silo index
    → has_reported (told silos) silo ≡ Some false
    → IsMarked silos missing silo index
is_marked silos missing counted silo index stands waits = record {
  kept = record {
    by_address = subst (λ (l : List Silo). IsStrictlySortedBy silo_cmp l) (sym (silos_of-mark silos index)) counted.by_address;
    counted =
        let fewer : length (awaiting_of (with_mark silos index)) + 1 ≡ length (awaiting_of silos) = fewer-mark silos index row.0 stands.within row.1 unmarked in omega (arith, fewer, counted.counted);
  };
  is = told-mark silos index row.0 counted.by_address stands.within row.1 unmarked ∙ ap (λ s. marked (told silos) s) same;
}
  where
    row : (a : Awaited) × (get_or silos index a ≡ a)
    row = row_at silos index stands.within

    unmarked : row.0.has_reported ≡ false
    unmarked =
        same_Some row.0.has_reported false (sym (has_reported-at silos counted.by_address silo index row.0 stands (sym row.1)) ∙ waits)

    same : row.0.silo ≡ silo
    same = ap (λ (a : Awaited). a.silo) (sym row.1) ∙ stands.there row.0

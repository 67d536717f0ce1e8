-- A silo of the list is marked: it has reported, and is awaited no more.
use Rattle.std.proofs.Common.{◌≡◌, ℕ, zero, suc, ◌+◌, ◌<◌, Bool, true, false, not, cond, List, [], ◌∷◌, length, get_or, set, refl, sym, ◌∙◌, ap, subst, arith}
use Rattle.std.specs.List.{filter}
use Rattle.std.specs.BTreeSet.{insert_key}
use Rattle.std.specs.Ordering.{match_ordering, ordering_reverse}
use Rattle.std.specs.declared.cmp.Ordering.TheVariants.{Less, Greater}
use Rattle.silo_address.specs.Silo.{Silo, silo_cmp, silo_eq}
use Rattle.silo_address.proofs.Order.{silo_cmp_total}
use Rattle.silo_address.proofs.Same.{Decides-silo}
use Rattle.hash_ring.proofs.Members.{In, In-from_place, In-map, In-from_map, In-from_filter}
use Rattle.hash_ring.proofs.StrictOrder.{Rising, never_itself}
use Rattle.directory_rules.proofs.Cases.{on_bool}
use Rattle.range_recovery.specs.declared.awaited.Awaited.{Awaited}
use Rattle.range_recovery.specs.Silos.{awaiting_of, reported_of, silos_of}
use Rattle.range_recovery.proofs.Lists.{filter_all, insert_first}

-- the silo that stands at an index has reported
abbrev pub with_mark : List Awaited → ℕ → List Awaited
with_mark [] index = []
with_mark (a ∷ silos) zero = record a { has_reported = true } ∷ silos
with_mark (a ∷ silos) (suc index) = a ∷ with_mark silos index

-- the mark is set at an index
pub set-mark : (silos : List Awaited) (index : ℕ) (a : Awaited) → get_or silos index a ≡ a
    → set silos index (record { silo = a.silo; has_reported = true }) ≡ with_mark silos index
set-mark [] index a at = refl
set-mark (x ∷ silos) zero a at = ap (λ (y : Awaited). record y { has_reported = true } ∷ silos) (sym at)
set-mark (x ∷ silos) (suc index) a at = ap (λ l. x ∷ l) (set-mark silos index a at)

-- the silos stay
pub silos_of-mark : (silos : List Awaited) (index : ℕ) → silos_of (with_mark silos index) ≡ silos_of silos
silos_of-mark [] index = refl
silos_of-mark (x ∷ silos) zero = refl
silos_of-mark (x ∷ silos) (suc index) = ap (λ l. x.silo ∷ l) (silos_of-mark silos index)

true_not_false : {P : Type 0} (b : Bool) → b ≡ true → b ≡ false → P
true_not_false b t f = let e : true ≡ false = sym t ∙ f in cc

-- one silo fewer is awaited
pub fewer-mark : (silos : List Awaited) (index : ℕ) (a : Awaited) → index < length silos → get_or silos index a ≡ a → a.has_reported ≡ false
    → length (awaiting_of (with_mark silos index)) + 1 ≡ length (awaiting_of silos)
fewer-mark [] index a within at waits = absurd (omega arith)
fewer-mark (x ∷ silos) zero a within at waits =
    on_bool (λ b. length (awaiting_of silos) + 1 ≡ length
    (silos_of (cond (not b) (x ∷ filter (λ a. not a.has_reported) silos) (filter (λ a. not a.has_reported) silos)))) x.has_reported
    (λ t. true_not_false x.has_reported t (ap (λ (y : Awaited). y.has_reported) at ∙ waits)) (λ f. omega arith)
fewer-mark (x ∷ silos) (suc index) a within at waits =
    let fewer : length (awaiting_of (with_mark silos index)) + 1 ≡ length (awaiting_of silos) = fewer-mark silos index a (omega arith) at waits in
    on_bool
    (λ b. length (silos_of (cond (not b) (x ∷ filter (λ a. not a.has_reported) (with_mark silos index))
    (filter (λ a. not a.has_reported) (with_mark silos index)))) + 1
    ≡ length (silos_of (cond (not b) (x ∷ filter (λ a. not a.has_reported) silos) (filter (λ a. not a.has_reported) silos)))) x.has_reported
    (λ t. fewer) (λ f. omega (arith, fewer))

-- the silos that a test keeps are of the list
pub In-from_kept : (p : Awaited → Bool) (silo : Silo) (silos : List Awaited) → In silo (silos_of (filter p silos))
    → In silo (silos_of silos)
In-from_kept p silo silos there =
    let found = In-from_map (λ a. a.silo) silo (filter p silos) there in
    subst (λ s. In s (silos_of silos)) found.2 (In-map (λ a. a.silo) found.0 silos (In-from_filter p found.0 silos found.1).0)

-- two silos of which one stands before the other aren't one
pub apart : (a b : Silo) → silo_cmp a b ≡ Less → silo_eq a b ≡ false
apart a b below =
    on_bool (λ r. r ≡ false) (silo_eq a b) (λ t. absurd
    (never_itself silo_cmp_total a (ap (λ s. silo_cmp a s) ((Decides-silo a b).0 t) ∙ below))) (λ f. refl)

pub apart_back : (a b : Silo) → silo_cmp a b ≡ Less → silo_eq b a ≡ false
apart_back a b below =
    on_bool (λ r. r ≡ false) (silo_eq b a) (λ t. absurd
    (never_itself silo_cmp_total a (ap (λ s. silo_cmp a s) (sym ((Decides-silo b a).0 t)) ∙ below))) (λ f. refl)

-- the silo at an index is of the list
there : (silos : List Awaited) (index : ℕ) (a : Awaited) → index < length silos → get_or silos index a ≡ a → In a.silo (silos_of silos)
there silos index a within at = In-map (λ a. a.silo) a silos (In-from_place a silos index within at)

-- those that are awaited are all but that silo
pub awaiting-mark : (silos : List Awaited) (index : ℕ) (a : Awaited) → Rising silo_cmp (silos_of silos) → index < length silos
    → get_or silos index a ≡ a → a.has_reported ≡ false
    → awaiting_of (with_mark silos index) ≡ filter (λ s. not (silo_eq s a.silo)) (awaiting_of silos)
awaiting-mark [] index a rising within at waits = absurd (omega arith)
awaiting-mark (x ∷ silos) zero a rising within at waits =
    on_bool
    (λ b. awaiting_of silos ≡ filter (λ s. not (silo_eq s a.silo))
    (silos_of (cond (not b) (x ∷ filter (λ a. not a.has_reported) silos) (filter (λ a. not a.has_reported) silos)))) x.has_reported
    (λ t. true_not_false x.has_reported t (ap (λ (y : Awaited). y.has_reported) at ∙ waits))
    (λ f. sym (ap (λ b. cond (not b) (x.silo ∷ filter (λ s. not (silo_eq s a.silo)) (awaiting_of silos))
    (filter (λ s. not (silo_eq s a.silo)) (awaiting_of silos))) ((Decides-silo x.silo a.silo).1 same) ∙ others))
  where
    same : x.silo ≡ a.silo
    same = ap (λ (y : Awaited). y.silo) at

    others : filter (λ s. not (silo_eq s a.silo)) (awaiting_of silos) ≡ awaiting_of silos
    others =
        filter_all (λ s. not (silo_eq s a.silo)) (awaiting_of silos) (λ s in_it.
        ap not (apart_back a.silo s (ap (λ k. silo_cmp k s) (sym same)
        ∙ rising.0 s (In-from_kept (λ a. not a.has_reported) s silos in_it))))
awaiting-mark (x ∷ silos) (suc index) a rising within at waits = by (awaiting-mark silos index a rising.1 (omega arith) at waits)
  where
    below : silo_cmp x.silo a.silo ≡ Less
    below = rising.0 a.silo (there silos index a (omega arith) at)

    by : awaiting_of (with_mark silos index) ≡ filter (λ s. not (silo_eq s a.silo)) (awaiting_of silos)
        → awaiting_of (with_mark (x ∷ silos) (suc index)) ≡ filter (λ s. not (silo_eq s a.silo)) (awaiting_of (x ∷ silos))
    by later =
        on_bool
        (λ b. silos_of (cond (not b) (x ∷ filter (λ a. not a.has_reported) (with_mark silos index))
        (filter (λ a. not a.has_reported) (with_mark silos index)))
        ≡ filter (λ s. not (silo_eq s a.silo)) (silos_of
        (cond (not b) (x ∷ filter (λ a. not a.has_reported) silos) (filter (λ a. not a.has_reported) silos)))) x.has_reported
        (λ t. later)
        (λ f. ap (λ l. x.silo ∷ l) later ∙ sym (ap (λ b. cond (not b) (x.silo ∷ filter (λ s. not (silo_eq s a.silo)) (awaiting_of silos))
        (filter (λ s. not (silo_eq s a.silo)) (awaiting_of silos))) (apart x.silo a.silo below)))

-- those that have reported are that silo too
pub reported-mark : (silos : List Awaited) (index : ℕ) (a : Awaited) → Rising silo_cmp (silos_of silos) → index < length silos
    → get_or silos index a ≡ a → a.has_reported ≡ false
    → reported_of (with_mark silos index) ≡ insert_key silo_cmp (reported_of silos) a.silo
reported-mark [] index a rising within at waits = absurd (omega arith)
reported-mark (x ∷ silos) zero a rising within at waits =
    on_bool (λ b. x.silo ∷ reported_of silos ≡ insert_key silo_cmp
    (silos_of (cond b (x ∷ filter (λ a. a.has_reported) silos) (filter (λ a. a.has_reported) silos))) a.silo) x.has_reported
    (λ t. true_not_false x.has_reported t (ap (λ (y : Awaited). y.has_reported) at ∙ waits))
    (λ f. ap (λ s. s ∷ reported_of silos) same ∙ sym
    (insert_first silo_cmp a.silo (reported_of silos)
    (λ s in_it. ap (λ k. silo_cmp k s) (sym same) ∙ rising.0 s (In-from_kept (λ a. a.has_reported) s silos in_it))))
  where
    same : x.silo ≡ a.silo
    same = ap (λ (y : Awaited). y.silo) at
reported-mark (x ∷ silos) (suc index) a rising within at waits = by (reported-mark silos index a rising.1 (omega arith) at waits)
  where
    above : silo_cmp a.silo x.silo ≡ Greater
    above = silo_cmp_total.antisymm a.silo x.silo ∙ ap ordering_reverse (rising.0 a.silo (there silos index a (omega arith) at))

    by : reported_of (with_mark silos index) ≡ insert_key silo_cmp (reported_of silos) a.silo
        → reported_of (with_mark (x ∷ silos) (suc index)) ≡ insert_key silo_cmp (reported_of (x ∷ silos)) a.silo
    by later =
        on_bool
        (λ b. silos_of (cond b (x ∷ filter (λ a. a.has_reported) (with_mark silos index))
        (filter (λ a. a.has_reported) (with_mark silos index)))
        ≡ insert_key silo_cmp (silos_of (cond b (x ∷ filter (λ a. a.has_reported) silos) (filter (λ a. a.has_reported) silos))) a.silo)
        x.has_reported
        (λ t. ap (λ l. x.silo ∷ l) later ∙ sym (ap (λ r. match_ordering r (a.silo ∷ x.silo ∷ reported_of silos) (x.silo ∷ reported_of silos)
        (x.silo ∷ insert_key silo_cmp (reported_of silos) a.silo)) above))
        (λ f. later)

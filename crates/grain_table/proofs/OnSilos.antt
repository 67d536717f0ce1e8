-- The silos that a table has noted: its entries' silos are among them, whatever is put in and taken out.
use Rattle.std.proofs.Common.{◌≡◌, refl, sym, ap, ◌∙◌, List, [], ◌∷◌}
use Rattle.std.specs.Prelude.{Bool, true, false, cond, ◌||◌, not, filter}
use Rattle.std.specs.List.{AllByRecursion, list_any}
use Rattle.std.specs.Map.{remove_entry}
use Rattle.std.specs.BTreeMap.{insert_entry, is_at}
use Rattle.std.specs.BTreeSet.{insert_key}
use Rattle.std.specs.Ordering.{is_eq, match_ordering}
use Rattle.std.specs.declared.cmp.Ordering.{Ordering}
use Rattle.std.specs.declared.cmp.Ordering.TheVariants.{Less, Equal, Greater}
use Rattle.std.proofs.lemmas.Cmp.{tied_itself}
use Rattle.std.proofs.lemmas.Bool.{or_right}
use Rattle.texts.proofs.Orderings.{Equal-from}
use Rattle.silo_address.specs.Silo.{Silo, silo_cmp}
use Rattle.silo_address.specs.declared.ActivationId.{ActivationId}
use Rattle.silo_address.proofs.Order.{silo_cmp_exact, silo_cmp_total}
use Rattle.texts.proofs.Entries.{sorted-nil}
use Rattle.hash_ring.specs.declared.Hashing.{Hashing}
use Rattle.grain_table.specs.declared.hashed_grain.HashedGrain.{HashedGrain}
use Rattle.grain_table.specs.Hashed.{AreKept, Hashed, IsKeyOf, hashed_cmp, is_among}
use Rattle.grain_table.proofs.ByGrain.{all_insert, hashed_put}
use Rattle.grain_table.proofs.Filters.{all_passed, passed_are_hashed}
use Rattle.grain_table.proofs.Order.{hashed_cmp_exact}
use Rattle.grain_table.proofs.Taken.{all_without, hashed_taken}

-- ---- One more silo.
among_added : (silos : List Silo) (new silo : Silo) → is_among silos silo ≡ true → is_among (insert_key silo_cmp silos new) silo ≡ true
among_added [] new silo among = absurd (let no : false ≡ true = among in cc)
among_added (x ∷ silos) new silo among = by (silo_cmp new x) (among_added silos new silo)
  where
    or_both : (a b c : Bool) → (a || b) ≡ true → (b ≡ true → c ≡ true) → (a || c) ≡ true
    or_both true b c some more = refl
    or_both false b c some more = more some

    by : (r : Ordering) → (is_among silos silo ≡ true → is_among (insert_key silo_cmp silos new) silo ≡ true)
        → is_among (match_ordering r (new ∷ x ∷ silos) (x ∷ silos) (x ∷ insert_key silo_cmp silos new)) silo ≡ true
    by Less rest = or_right (is_at (silo_cmp silo) new) (is_among (x ∷ silos) silo) among
    by Equal rest = among
    by Greater rest = or_both (is_at (silo_cmp silo) x) (is_among silos silo) (is_among (insert_key silo_cmp silos new) silo) among rest

added_among : (silos : List Silo) (new : Silo) → is_among (insert_key silo_cmp silos new) new ≡ true
added_among [] new = ap (λ r. is_eq r || false) (tied_itself silo_cmp_total new)
added_among (x ∷ silos) new = by (silo_cmp new x) refl (added_among silos new)
  where
    by : (r : Ordering) → silo_cmp new x ≡ r → is_among (insert_key silo_cmp silos new) new ≡ true
        → is_among (match_ordering r (new ∷ x ∷ silos) (x ∷ silos) (x ∷ insert_key silo_cmp silos new)) new ≡ true
    by Less is rest = ap (λ r. is_eq r || is_among (x ∷ silos) new) (tied_itself silo_cmp_total new)
    by Equal is rest = ap (λ r. is_eq r || is_among silos new) is
    by Greater is rest = or_right (is_at (silo_cmp new) x) (is_among (insert_key silo_cmp silos new) new) rest

all_more : (P Q : HashedGrain × ActivationId → Type 0) → ((e : HashedGrain × ActivationId) → P e → Q e) → (es : Hashed)
    → AllByRecursion P es → AllByRecursion Q es
all_more P Q more [] all = tt
all_more P Q more (e ∷ es) all = (more e all.0, all_more P Q more es all.1)

pub kept_noted : (hashing : Hashing) (silos : List Silo) (new : Silo) (es : Hashed) → AreKept hashing silos es
    → AreKept hashing (insert_key silo_cmp silos new) es
kept_noted hashing silos new es kept = record {
  are = kept.are;
  on =
      all_more (λ e. is_among silos e.1.silo ≡ true) (λ e. is_among (insert_key silo_cmp silos new) e.1.silo ≡ true)
      (λ e among. among_added silos new e.1.silo among) es kept.on;
}

pub kept_put : (hashing : Hashing) (silos : List Silo) (key : HashedGrain) (activation : ActivationId) (es : Hashed) → IsKeyOf hashing key
    → AreKept hashing silos es
    → AreKept hashing (insert_key silo_cmp silos activation.silo) (insert_entry hashed_cmp es key activation)
kept_put hashing silos key activation es is kept =
    let noted = kept_noted hashing silos activation.silo es kept in
    record {
      are = hashed_put hashing key activation es is kept.are;
      on =
          all_insert hashed_cmp (λ e. is_among (insert_key silo_cmp silos activation.silo) e.1.silo ≡ true) hashed_cmp_exact key activation
          es (added_among silos activation.silo) noted.on;
    }

pub kept_taken : (hashing : Hashing) (silos : List Silo) (test : HashedGrain → Bool) (es : Hashed) → AreKept hashing silos es
    → AreKept hashing silos (remove_entry test es)
kept_taken hashing silos test es kept = record {
  are = hashed_taken hashing test es kept.are;
  on = all_without test (λ e. is_among silos e.1.silo ≡ true) es kept.on;
}

-- ---- Those that pass.
pub kept_some : (hashing : Hashing) (silos : List Silo) (q : HashedGrain × ActivationId → Bool) (es : Hashed) → AreKept hashing silos es
    → AreKept hashing silos (filter q es)
kept_some hashing silos q es kept = record {
  are = passed_are_hashed hashing q es kept.are;
  on = all_passed q (λ e. is_among silos e.1.silo ≡ true) es kept.on;
}

module _ (p : Silo → Bool) where
  among_passed : (silos : List Silo) (silo : Silo) → p silo ≡ true → is_among silos silo ≡ true → is_among (filter p silos) silo ≡ true
  among_passed [] silo passes among = among
  among_passed (x ∷ silos) silo passes among = by (is_at (silo_cmp silo) x) refl (p x) refl among (among_passed silos silo passes)
    where
      by : (a : Bool) → is_at (silo_cmp silo) x ≡ a → (b : Bool) → p x ≡ b → (a || is_among silos silo) ≡ true
          → (is_among silos silo ≡ true → is_among (filter p silos) silo ≡ true)
          → is_among (cond b (x ∷ filter p silos) (filter p silos)) silo ≡ true
      by true at true is some rest = ap (λ a. a || is_among (filter p silos) silo) at
      by true at false is some rest =
          absurd (let no : false ≡ true = sym is ∙ ap p (sym (silo_cmp_exact silo x (Equal-from (silo_cmp silo x) at))) ∙ passes in cc)
      by false at true is some rest = or_right (is_at (silo_cmp silo) x) (is_among (filter p silos) silo) (rest some)
      by false at false is some rest = rest some

  on_passed : (silos : List Silo) (es : Hashed) → AllByRecursion (λ e. is_among silos e.1.silo ≡ true) es
      → AllByRecursion (λ e. is_among (filter p silos) e.1.silo ≡ true) (filter (λ e. p e.1.silo) es)
  on_passed silos [] on = tt
  on_passed silos (e ∷ es) on = by (p e.1.silo) refl (on_passed silos es on.1)
    where
      by : (b : Bool) → p e.1.silo ≡ b → AllByRecursion (λ e. is_among (filter p silos) e.1.silo ≡ true) (filter (λ e. p e.1.silo) es)
          → AllByRecursion (λ e. is_among (filter p silos) e.1.silo ≡ true)
          (cond b (e ∷ filter (λ e. p e.1.silo) es) (filter (λ e. p e.1.silo) es))
      by true is rest = (among_passed silos e.1.silo is on.0, rest)
      by false is rest = rest

  pub kept_passed : (hashing : Hashing) (silos : List Silo) (es : Hashed) → AreKept hashing silos es
      → AreKept hashing (filter p silos) (filter (λ e. p e.1.silo) es)
  kept_passed hashing silos es kept = record {
    are = passed_are_hashed hashing (λ e. p e.1.silo) es kept.are;
    on = on_passed silos es kept.on;
  }

-- ---- Where no silo is dead, no entry is on a dead one.
module _ (dead : Silo → Bool) where
  none_among : (silos : List Silo) (silo : Silo) → list_any dead silos ≡ false → is_among silos silo ≡ true → dead silo ≡ false
  none_among [] silo none among = absurd (let no : false ≡ true = among in cc)
  none_among (x ∷ silos) silo none among = by (is_at (silo_cmp silo) x) refl (dead x) refl none among (none_among silos silo)
    where
      by : (a : Bool) → is_at (silo_cmp silo) x ≡ a → (b : Bool) → dead x ≡ b → (b || list_any dead silos) ≡ false
          → (a || is_among silos silo) ≡ true
          → (list_any dead silos ≡ false → is_among silos silo ≡ true → dead silo ≡ false) → dead silo ≡ false
      by a at true is none some rest = absurd (let no : true ≡ false = none in cc)
      by true at false is none some rest = ap dead (silo_cmp_exact silo x (Equal-from (silo_cmp silo x) at)) ∙ is
      by false at false is none some rest = rest none some

  pub all_living : (silos : List Silo) → list_any dead silos ≡ false → (es : Hashed)
      → AllByRecursion (λ e. is_among silos e.1.silo ≡ true) es → es ≡ filter (λ e. not (dead e.1.silo)) es
  all_living silos none [] on = refl
  all_living silos none (e ∷ es) on =
      ap (λ l. e ∷ l) (all_living silos none es on.1)
      ∙ sym (ap (λ b. cond (not b) (e ∷ filter (λ e. not (dead e.1.silo)) es) (filter (λ e. not (dead e.1.silo)) es))
      (none_among silos e.1.silo none on.0))

-- ---- Nothing yet.
pub kept_nothing : (hashing : Hashing) (silos : List Silo) → AreKept hashing silos []
kept_nothing hashing silos = record { are = record { in_order = sorted-nil hashed_cmp; keys = tt }; on = tt }

-- Each step of the keeper keeps the rule.
use Rattle.std.proofs.Common.{◌≡◌, ◌≢◌, ℕ, zero, suc, List, [], ◌∷◌, ◌++◌, set, true≢false, refl, sym, ap, ◌∙◌, subst, ⊎_elim, append_assoc}
use mathlib.Core.Option.{none, some, some-ne-none, some-injective}
use mathlib.Core.List.{IsPrefix}
use lib.ListN.{get_elem?}
use Rattle.atomic_table.specs.Table.{Me, Allows, Splits, Joins, keeps, step}
use Rattle.atomic_table.proofs.Lists.{at_set, at_snoc, set_again}
use Rattle.cluster_journal.specs.declared.log_rule.Known.{Known}
use Rattle.cluster_journal.proofs.Beginnings.{prefix_self, prefix_none}
use Rattle.cluster_journal.specs.Log.{keepers, fronts, informed, Fits, AreOfOneLog, AreKept, Adds, Compares}

-- ---- Beginnings.

prefix_more : {E : Type 0} → (xs ys zs : List E) → IsPrefix xs ys → IsPrefix xs (ys ++ zs)
prefix_more xs ys zs p = (p.0 ++ zs, sym (append_assoc xs p.0 zs) ∙ ap (λ l. l ++ zs) p.1)

-- ---- What fits.

keeps_none : {E : Type 0} → (seat by : ℕ) (log all : List E) → IsPrefix all log → Fits seat log by (fronts all)
keeps_none seat by log all begins = record { keeper = λ keeps. absurd (true≢false (sym keeps)); begins = begins; told = prefix_none log }

-- where one knows something else now, and the others as before
fits_set : {E : Type 0} → (seat : ℕ) (log : List E) (views : List (Known E)) (by : ℕ) (now : Known E)
    → ((other : ℕ) (known : Known E) → other ≢ by → get_elem? views other ≡ some known → Fits seat log other known) → Fits seat log by now
    → (other : ℕ) (known : Known E) → get_elem? (set views by now) other ≡ some known → Fits seat log other known
fits_set {E} seat log views by now others mine other known is =
    ⊎_elim
    (λ (its : (other ≡ by) × (now ≡ known)). subst (λ (y : ℕ × Known E). Fits seat log y.0 y.1) (λ i. (sym its.0 i, its.1 i)) mine)
    (λ (its : (other ≢ by) × (get_elem? views other ≡ some known)). others other known its.0 its.1)
    (at_set views by other now known is)

-- ---- The steps.

pub begins : {E : Type 0} → AreOfOneLog {E = E} (keepers [] [] ∷ [])
begins {E} = record { seat = 0; log = []; fit = one }
  where
    one : (by : ℕ) (known : Known E) → get_elem? (keepers [] [] ∷ []) by ≡ some known → Fits 0 [] by known
    one zero known is =
        subst (Fits 0 [] 0) (some-injective _ _ is) (record { keeper = λ _. (refl, refl); begins = ([], refl); told = ([], refl) })
    one (suc by) known is = absurd (some-ne-none known (sym is))

added : {E : Type 0} → (by : ℕ) (all told : List E) (entry : E) (views : List (Known E)) → AreOfOneLog views
    → get_elem? views by ≡ some (keepers all told)
    → AreOfOneLog (set views by (keepers (all ++ entry ∷ []) told))
added {E} by all told entry views are at =
    let fit = are.fit by (keepers all told) at in
    let mine = fit.keeper refl in
    let now = are.log ++ entry ∷ [] in
    record {
      seat = are.seat;
      log = now;
      fit = fits_set are.seat now views by (keepers (all ++ entry ∷ []) told)
          (λ other known apart is.
          let its = are.fit other known is in
          record {
            keeper = λ keeps. absurd (apart ((its.keeper keeps).0 ∙ sym mine.0));
            begins = prefix_more known.all are.log (entry ∷ []) its.begins;
            told = prefix_more known.told are.log (entry ∷ []) its.told;
          })
          (record {
            keeper = λ _. (mine.0, ap (λ l. l ++ entry ∷ []) mine.1);
            begins = subst (λ l. IsPrefix (all ++ entry ∷ []) (l ++ entry ∷ [])) mine.1 (prefix_self (all ++ entry ∷ []));
            told = prefix_more told are.log (entry ∷ []) fit.told;
          });
    }

pub adds : {E : Type 0} → (slots by : ℕ) (me : Me E (Known E)) (all : List E) (f : ℕ → ℕ) (entry : E) → me ≡ (keepers all [], [])
    → Allows AreKept slots by me 0 f (Adds (step slots 0 0 0 (some entry)) me)
adds {E} slots by me all f entry is =
    subst (λ (m : Me E (Known E)). Allows AreKept slots by m 0 f (Adds (step slots 0 0 0 (some entry)) m)) (sym is) known
  where
    known : Allows AreKept slots by (keepers all [], []) 0 f (Adds (step slots 0 0 0 (some entry)) (keepers all [], []))
    known s are len at small = (keepers (all ++ entry ∷ []) [], keeps, tt, added by all [] entry s.views are at, refl)

compared : {E : Type 0} → (by : ℕ) (all told : List E) (views : List (Known E)) → AreOfOneLog views
    → get_elem? views by ≡ some (keepers all told)
    → AreOfOneLog (set views by (keepers all [])) × IsPrefix told all
compared {E} by all told views are at =
    let fit = are.fit by (keepers all told) at in
    let mine = fit.keeper refl in (
      record {
        seat = are.seat;
        log = are.log;
        fit =
            fits_set are.seat are.log views by (keepers all []) (λ other known _ is. are.fit other known is)
            (record { keeper = λ _. mine; begins = fit.begins; told = prefix_none are.log });
      },
      subst (IsPrefix told) (sym mine.1) fit.told,
    )

pub compares : {E : Type 0} → (slots by : ℕ) (me : Me E (Known E)) (all told : List E) → me ≡ (keepers all told, [])
    → Allows AreKept slots by me 0 (λ n. n) (Compares (step slots 0 0 0 none) me)
compares {E} slots by me all told is =
    subst (λ (m : Me E (Known E)). Allows AreKept slots by m 0 (λ n. n) (Compares (step slots 0 0 0 none) m)) (sym is) known
  where
    known : Allows AreKept slots by (keepers all told, []) 0 (λ n. n) (Compares (step slots 0 0 0 none) (keepers all told, []))
    known s are len at small = let c = compared by all told s.views are at in (keepers all [], keeps, tt, c.0, (refl, c.1))

pub splits : {E : Type 0} → (by : ℕ) (known : Known E) → Splits AreKept by known known (fronts known.all)
splits {E} by known s are at = record {
  seat = are.seat;
  log = are.log;
  fit = λ other its is. ⊎_elim
      (λ was. are.fit other its (subst (λ l. get_elem? l other ≡ some its) (set_again s.views by known at) was))
      (λ (same : fronts known.all ≡ its). subst (Fits are.seat are.log other) same
      (keeps_none are.seat other are.log known.all (are.fit by known at).begins))
      (at_snoc (set s.views by known) (fronts known.all) its other is);
}

pub joins : {E : Type 0} → (by : ℕ) (known : Known E) (other : ℕ) (its : Known E)
    → Joins AreKept by known other its (informed known its) (fronts [])
joins {E} by known other its s are at apart there =
    let now = informed known its in
    let fit = are.fit by known at in
    let theirs = ⊎_elim
    (λ (t : (other ≡ by) × (now ≡ its)). absurd (apart t.0))
    (λ (t : (other ≢ by) × (get_elem? s.views other ≡ some its)). are.fit other its t.1)
    (at_set s.views by other now its there) in
    let told = fits_set are.seat are.log s.views by now (λ j u _ is. are.fit j u is) (record { keeper = fit.keeper; begins = fit.begins; told = theirs.begins }) in
    record {
      seat = are.seat;
      log = are.log;
      fit =
          fits_set are.seat are.log (set s.views by now) other (fronts []) (λ j u _ is. told j u is)
          (keeps_none are.seat other are.log [] (prefix_none are.log));
    }

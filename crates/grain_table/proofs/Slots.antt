-- A slot's text is its grain's, and slots stand in order as their hashed grains do.
use Rattle.std.proofs.Common.{arith, ◌≡◌, refl, sym, ap, ◌∙◌, subst, ℕ, ◌<◌, List}
use Rattle.std.proofs.lemmas.Bool.Decides.{nat_tests}
use Rattle.std.proofs.lemmas.Cmp.{nat_cmp_total, ranked, tied_itself}
use Rattle.std.proofs.lemmas.Map.Lookups.{exact_bytes}
use Rattle.std.specs.Cmp.Lexicographic.{slice_cmp}
use Rattle.std.specs.Ordering.{is_eq, is_gt, nat_cmp, ordering_then}
use Rattle.std.specs.Prelude.{false, nat_lt}
use Rattle.std.specs.declared.cmp.Ordering.{Ordering}
use Rattle.std.specs.declared.cmp.Ordering.TheVariants.{Less, Equal, Greater}
use Rattle.silo_address.specs.Grain.{Grain, IsGrain, grain_cmp, grain_text}
use Rattle.silo_address.specs.ReadGrain.{grain_at_slash}
use Rattle.silo_address.proofs.GrainCases.{grain_at_slash_again}
use Rattle.silo_address.proofs.Order.{grain_cmp_total}
use Rattle.grain_table.specs.Buckets.{IsGrainText}
use Rattle.grain_table.specs.Hashed.{text_cmp}

-- ---- What spells a grain is its text.
pub grain_again : (text : List ℕ) (grain : Grain) → IsGrain grain → text ≡ grain_text grain → grain_at_slash text ≡ grain
grain_again text grain is spelled = grain_at_slash_again text grain (record { text = spelled; cut = is.cut })

pub is_text : (text : List ℕ) (grain : Grain) → IsGrain grain → text ≡ grain_text grain → IsGrainText text
is_text text grain is spelled = record {
  is_grain = subst IsGrain (sym (grain_again text grain is spelled)) is;
  spelled = spelled ∙ ap grain_text (sym (grain_again text grain is spelled));
}

-- ---- Texts compare as the grains that they spell.
ties : (o p : Ordering) → (o ≡ Equal → p ≡ Equal) → o ≡ ordering_then o p
ties Less p tie = refl
ties Equal p tie = sym (tie refl)
ties Greater p tie = refl

pub text_order : (grain : Grain) → IsGrain grain → (x : List ℕ) → x ≡ grain_text grain → (y : List ℕ) → IsGrainText y
    → slice_cmp nat_cmp x y ≡ text_cmp grain (grain_at_slash y)
text_order grain is x spelled y other =
    ties (slice_cmp nat_cmp x y) (grain_cmp grain (grain_at_slash y))
    (λ tied. ap (λ g. grain_cmp g (grain_at_slash y)) (sym (grain_again x grain is spelled) ∙ ap grain_at_slash (exact_bytes x y tied))
    ∙ tied_itself grain_cmp_total (grain_at_slash y))
    ∙ (λ i. ordering_then (slice_cmp nat_cmp (spelled i) (other.spelled i)) (grain_cmp grain (grain_at_slash y)))

-- ---- Where the hashes differ they decide, else the rest does.
module _ (k h : ℕ) (o : Ordering) where
  pub apart_before : (h ≡ k → ⊥) → is_gt (ordering_then (nat_cmp k h) o) ≡ nat_lt h k
  apart_before apart = by (nat_cmp k h) refl
    where
      by : (r : Ordering) → r ≡ nat_cmp k h → is_gt (ordering_then r o) ≡ nat_lt h k
      by Less is = let below : k < h = ranked k h Less is in grind (arith, nat_tests)
      by Equal is = let same : k ≡ h = ranked k h Equal is in absurd (apart (sym same))
      by Greater is = let above : h < k = ranked k h Greater is in grind (arith, nat_tests)

  pub apart_under : (h ≡ k → ⊥) → is_eq (ordering_then (nat_cmp k h) o) ≡ false
  apart_under apart = by (nat_cmp k h) refl
    where
      by : (r : Ordering) → r ≡ nat_cmp k h → is_eq (ordering_then r o) ≡ false
      by Less is = refl
      by Equal is = let same : k ≡ h = ranked k h Equal is in absurd (apart (sym same))
      by Greater is = refl

  pub same_hash : h ≡ k → ordering_then (nat_cmp k h) o ≡ o
  same_hash same = ap (λ r. ordering_then r o) (ap (λ n. nat_cmp k n) same ∙ tied_itself nat_cmp_total k)

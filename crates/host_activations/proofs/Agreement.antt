-- The activations' requests and what is outstanding go on to agree: where one begins, where one ends, and beside the finds.
use Rattle.std.proofs.Common.{◌≡◌, refl, sym, ap, subst, ◌∙◌, ℕ, ◌<◌, List, cond, true, false, Some, None, arith}
use Rattle.std.specs.List.Sorted.{IsStrictlySortedBy}
use Rattle.std.specs.Map.{keys_of, remove_entry}
use Rattle.std.specs.BTreeMap.{is_at, insert_entry}
use Rattle.std.specs.Ordering.{nat_cmp}
use Rattle.std.proofs.lemmas.Cmp.{nat_cmp_total, eq_by_cmp_equiv}
use Rattle.std.proofs.lemmas.Map.{lookup-remove_entry}
use Rattle.std.proofs.lemmas.Map.Keys.{IsDistinct-from_sorted}
use Rattle.std.proofs.lemmas.Option.{same_Some}
use Rattle.texts.proofs.Orderings.{at_itself}
use Rattle.silo_address.specs.Grain.{Grain, grain_cmp}
use Rattle.texts.proofs.Entries.{lookup-insert_entry}
use Rattle.directory_rules.specs.declared.Held.{Held}
use Rattle.host_activations.proofs.Grains.{grain_at_itself, on_grain}
use Rattle.host_activations.specs.declared.asked.OutstandingRequest.{OutstandingRequest}
use Rattle.host_activations.specs.declared.asked.OutstandingRequest.TheVariants.{Activation, Find}
use Rattle.host_activations.specs.Numbers.{number_of}
use Rattle.host_activations.specs.Asked.{AreAsked, asked_under}
use Rattle.host_activations.proofs.Numbers.{GivesNumber, on_number}

pub same_activation : (g q : Grain) → Some (Activation g) ≡ Some (Activation q) → g ≡ q
same_activation g q e = cc

pub no_find : {P : Type 0} (g q : Grain) → Some (Find g) ≡ Some (Activation q) → P
no_find g q e = cc

pub nothing : {A P : Type 0} (x : A) → None ≡ Some x → P
nothing x e = cc

-- what is outstanding after something is put under a number, and after a number is taken out
pub asked_put : (out : List (ℕ × OutstandingRequest)) (next : ℕ) (asked : OutstandingRequest) (n : ℕ)
    → asked_under n (insert_entry nat_cmp out next asked) ≡ cond (is_at (nat_cmp n) next) (Some asked) (asked_under n out)
asked_put out next asked n = lookup-insert_entry nat_cmp_total next asked n out

pub asked_taken : (out : List (ℕ × OutstandingRequest)) (number n : ℕ) → IsStrictlySortedBy nat_cmp (keys_of out)
    → asked_under n (remove_entry (is_at (nat_cmp number)) out) ≡ cond (is_at (nat_cmp number) n) None (asked_under n out)
asked_taken out number n sorted =
    lookup-remove_entry (eq_by_cmp_equiv nat_cmp_total) (is_at (nat_cmp number)) ((eq_by_cmp_equiv nat_cmp_total).congr number) n out
    (IsDistinct-from_sorted nat_cmp (keys_of out) sorted)

abbrev pub AreBelow : ℕ → List (ℕ × OutstandingRequest) → Type 0
AreBelow next out = (number : ℕ) (asked : OutstandingRequest) → asked_under number out ≡ Some asked → number < next

never : {P : Type 0} (next n : ℕ) (out : List (ℕ × OutstandingRequest)) (asked : OutstandingRequest) → AreBelow next out → n ≡ next
    → asked_under n out ≡ Some asked → P
never next n out asked below same there = let h : n < next = below n asked there in absurd (omega (h, same, arith))

-- an activation that had nothing outstanding has this number from now on
pub asks : (held new : List (Grain × Held)) (out : List (ℕ × OutstandingRequest)) (next : ℕ) (grain : Grain) → AreAsked held out
    → AreBelow next out
    → number_of grain held ≡ None → GivesNumber grain (Some next) held new → AreAsked new (insert_entry nat_cmp out next (Activation grain))
asks held new out next grain asked below none gives = record {
  there = λ q n is.
      on_grain (λ b. cond b (Some next) (number_of q held) ≡ Some n
      → asked_under n (insert_entry nat_cmp out next (Activation grain)) ≡ Some (Activation q)) grain q
      (λ same e. subst (λ (k : ℕ). asked_under k (insert_entry nat_cmp out next (Activation grain)) ≡ Some (Activation q))
      (same_Some next n e)
      (asked_put out next (Activation grain) next ∙ ap (λ b. cond b (Some (Activation grain)) (asked_under next out)) (at_itself next)
      ∙ ap (λ (g : Grain). Some (Activation g)) same))
      (λ other e. asked_put out next (Activation grain) n
      ∙ on_number (λ b. cond b (Some (Activation grain)) (asked_under n out) ≡ Some (Activation q)) n next
      (λ same. never next n out (Activation q) below same (asked.there q n e)) (λ apart. asked.there q n e))
      (sym (gives q) ∙ is);
  only = λ q n is.
      on_number (λ b. cond b (Some (Activation grain)) (asked_under n out) ≡ Some (Activation q) → number_of q new ≡ Some n) n next
      (λ same e. subst (λ (g : Grain). number_of g new ≡ Some n) (same_activation grain q e)
      (gives grain ∙ ap (λ b. cond b (Some next) (number_of grain held)) (grain_at_itself grain) ∙ ap (λ (k : ℕ). Some k) (sym same)))
      (λ apart e. gives q
      ∙ on_grain (λ b. cond b (Some next) (number_of q held) ≡ Some n) grain q
      (λ same. nothing n (sym none ∙ ap (λ (g : Grain). number_of g held) same ∙ asked.only q n e)) (λ other. asked.only q n e))
      (sym (asked_put out next (Activation grain) n) ∙ is);
}

-- a find comes
pub finds : (held : List (Grain × Held)) (out : List (ℕ × OutstandingRequest)) (next : ℕ) (grain : Grain) → AreAsked held out
    → AreBelow next out → AreAsked held (insert_entry nat_cmp out next (Find grain))
finds held out next grain asked below = record {
  there = λ q n is.
      asked_put out next (Find grain) n
      ∙ on_number (λ b. cond b (Some (Find grain)) (asked_under n out) ≡ Some (Activation q)) n next
      (λ same. never next n out (Activation q) below same (asked.there q n is)) (λ apart. asked.there q n is);
  only = λ q n is.
      on_number (λ b. cond b (Some (Find grain)) (asked_under n out) ≡ Some (Activation q) → number_of q held ≡ Some n) n next
      (λ same e. no_find grain q e) (λ apart e. asked.only q n e)
      (sym (asked_put out next (Find grain) n) ∙ is);
}

-- an activation has nothing outstanding any more
pub rests : (held new : List (Grain × Held)) (out : List (ℕ × OutstandingRequest)) (number : ℕ) (grain : Grain) → AreAsked held out
    → IsStrictlySortedBy nat_cmp (keys_of out)
    → number_of grain held ≡ Some number → GivesNumber grain None held new → AreAsked new (remove_entry (is_at (nat_cmp number)) out)
rests held new out number grain asked sorted had gives = record {
  there = λ q n is.
      on_grain (λ b. cond b None (number_of q held) ≡ Some n
      → asked_under n (remove_entry (is_at (nat_cmp number)) out) ≡ Some (Activation q)) grain q
      (λ same e. nothing n e)
      (λ other e. asked_taken out number n sorted
      ∙ on_number (λ b. cond b None (asked_under n out) ≡ Some (Activation q)) number n
      (λ same. absurd (apart_from q other (same_activation grain q
      (sym (asked.there grain number had) ∙ ap (λ (k : ℕ). asked_under k out) same ∙ asked.there q n e))))
      (λ apart. asked.there q n e))
      (sym (gives q) ∙ is);
  only = λ q n is.
      on_number (λ b. cond b None (asked_under n out) ≡ Some (Activation q) → number_of q new ≡ Some n) number n
      (λ same e. nothing (Activation q) e)
      (λ apart e. gives q
      ∙ on_grain (λ b. cond b None (number_of q held) ≡ Some n) grain q
      (λ same. absurd (other_number n apart (same_Some number n (sym had ∙ ap (λ (g : Grain). number_of g held) same ∙ asked.only q n e))))
      (λ other. asked.only q n e))
      (sym (asked_taken out number n sorted) ∙ is);
} where
  apart_from : (q : Grain) → is_at (grain_cmp grain) q ≡ false → grain ≡ q → ⊥
  apart_from q other same =
      let h : true ≡ false = sym (grain_at_itself grain) ∙ ap (λ (g : Grain). is_at (grain_cmp grain) g) same ∙ other in cc

  other_number : (n : ℕ) → is_at (nat_cmp number) n ≡ false → number ≡ n → ⊥
  other_number n other same = let h : true ≡ false = sym (at_itself number) ∙ ap (λ (k : ℕ). is_at (nat_cmp number) k) same ∙ other in cc

-- an activation with nothing outstanding changes to one with nothing outstanding, or goes
pub stays : (held new : List (Grain × Held)) (out : List (ℕ × OutstandingRequest)) (grain : Grain) → AreAsked held out
    → number_of grain held ≡ None → GivesNumber grain None held new → AreAsked new out
stays held new out grain asked none gives = record {
  there = λ q n is. asked.there q n (sym (same_number q) ∙ is);
  only = λ q n is. same_number q ∙ asked.only q n is;
} where
  same_number : (q : Grain) → number_of q new ≡ number_of q held
  same_number q =
      gives q
      ∙ on_grain (λ b. cond b None (number_of q held) ≡ number_of q held) grain q
      (λ same. sym (sym (ap (λ (g : Grain). number_of g held) same) ∙ none)) (λ other. refl)

-- a find goes
pub found : (held : List (Grain × Held)) (out : List (ℕ × OutstandingRequest)) (number : ℕ) (grain : Grain) → AreAsked held out
    → IsStrictlySortedBy nat_cmp (keys_of out)
    → asked_under number out ≡ Some (Find grain) → AreAsked held (remove_entry (is_at (nat_cmp number)) out)
found held out number grain asked sorted find = record {
  there = λ q n is.
      asked_taken out number n sorted
      ∙ on_number (λ b. cond b None (asked_under n out) ≡ Some (Activation q)) number n
      (λ same. no_find grain q (sym find ∙ ap (λ (k : ℕ). asked_under k out) same ∙ asked.there q n is)) (λ apart. asked.there q n is);
  only = λ q n is.
      on_number (λ b. cond b None (asked_under n out) ≡ Some (Activation q) → number_of q held ≡ Some n) number n
      (λ same e. nothing (Activation q) e) (λ apart e. asked.only q n e)
      (sym (asked_taken out number n sorted) ∙ is);
}

-- What a number finds by what is outstanding is what the rule finds by a search of all activations.
use Rattle.std.proofs.Common.{◌≡◌, ◌↔◌, refl, sym, ap, subst, ◌∙◌, ℕ, List, cond, Bool, true, false, Option, Some, None, option_and_then, find}
use Rattle.std.specs.Map.{lookup}
use Rattle.std.specs.BTreeMap.{is_at}
use Rattle.std.proofs.lemmas.Bool.Decides.{Decides-eqb}
use Rattle.std.proofs.lemmas.Option.{same_Some}
use Rattle.silo_address.specs.Grain.{Grain, grain_cmp}
use Rattle.directory_rules.specs.declared.Held.{Held}
use Rattle.directory_rules.specs.declared.Phase.{Phase}
use Rattle.directory_rules.specs.declared.Phase.TheVariants.{Asking, Firm, Closing}
use Rattle.directory_rules.specs.State.{Host}
use Rattle.directory_rules.specs.Host.{is_asking_under, is_closing_under}
use Rattle.host_activations.specs.declared.host.Host.TheInside.{Inside}
use Rattle.host_activations.specs.HostModel.{IsWhole, host_of}
use Rattle.host_activations.specs.declared.asked.OutstandingRequest.{OutstandingRequest}
use Rattle.host_activations.specs.declared.asked.OutstandingRequest.TheVariants.{Activation, Find}
use Rattle.host_activations.specs.Numbers.{number_in}
use Rattle.host_activations.specs.Asked.{asked_under}
use Rattle.host_activations.specs.IsHost.{AreHeld}
use Rattle.host_activations.proofs.Agreement.{same_activation, no_find, nothing}
use Rattle.host_activations.proofs.Found.{IsFoundIn, all_map, each_found, search_finds, search_fails}

-- what is outstanding under a number is an activation's request just where it is not a find's
abbrev activation_in : OutstandingRequest → Option Grain
activation_in (Activation grain) = Some grain
activation_in (Find grain) = None

tells_activation : (o : Option OutstandingRequest) (g : Grain) → (option_and_then activation_in o ≡ Some g) ↔ (o ≡ Some (Activation g))
tells_activation None g = (λ h. cc, λ h. cc)
tells_activation (Some (Activation q)) g =
    (λ h. ap (λ (x : Grain). Some (Activation x)) (same_Some q g h), λ h. ap (λ (x : Grain). Some x) (same_activation q g h))
tells_activation (Some (Find q)) g = (λ h. cc, λ h. no_find q g h)

pub none_told : (r : Option Grain) (o : Option OutstandingRequest) → r ≡ None → None ≡ o → (g : Grain)
    → (r ≡ Some g) ↔ (o ≡ Some (Activation g))
none_told r o none is g =
    subst (λ x. (x ≡ Some g) ↔ (o ≡ Some (Activation g))) (sym none)
    (subst (λ x. (None ≡ Some g) ↔ (x ≡ Some (Activation g))) is (tells_activation None g))

pub activation_told : (q : Grain) (asked : OutstandingRequest) (o : Option OutstandingRequest) → asked ≡ Activation q → Some asked ≡ o
    → (g : Grain) → (Some q ≡ Some g) ↔ (o ≡ Some (Activation g))
activation_told q asked o what is g =
    subst (λ x. (Some q ≡ Some g) ↔ (x ≡ Some (Activation g))) (ap (λ (a : OutstandingRequest). Some a) (sym what) ∙ is)
    (tells_activation (Some (Activation q)) g)

pub find_told : (q : Grain) (asked : OutstandingRequest) (o : Option OutstandingRequest) → asked ≡ Find q → Some asked ≡ o → (g : Grain)
    → (None ≡ Some g) ↔ (o ≡ Some (Activation g))
find_told q asked o what is g =
    subst (λ x. (None ≡ Some g) ↔ (x ≡ Some (Activation g))) (ap (λ (a : OutstandingRequest). Some a) (sym what) ∙ is)
    (tells_activation (Some (Find q)) g)

module _ (next : ℕ) (held : List (Grain × Held)) (out : List (ℕ × OutstandingRequest)) (are : AreHeld next held out)
    (test : Phase → Bool) (n : ℕ) (has : (phase : Phase) → test phase ≡ true → number_in phase ≡ Some n) where
  -- the grain's activation, if it passes
  abbrev pub passing : Grain → Option (Grain × Held)
  passing grain = option_and_then (λ h. cond (test h.phase) (Some (grain, h)) None) (lookup (is_at (grain_cmp grain)) held)

  stands : (e : Grain × Held) → IsFoundIn held e → test e.1.phase ≡ true → asked_under n out ≡ Some (Activation e.0)
  stands e found passes = are.asked.there e.0 n (ap (λ o. option_and_then (λ (x : Held). number_in x.phase) o) found ∙ has e.1.phase passes)

  none_passes : ((e : Grain × Held) → IsFoundIn held e → test e.1.phase ≡ true → ⊥) → find (λ e. test e.1.phase) held ≡ None
  none_passes never =
      search_fails (λ e. test e.1.phase) held
      (all_map (IsFoundIn held) (λ e. test e.1.phase ≡ false) held (λ e found. by e (test e.1.phase) refl found)
      (each_found held are.apart))
    where
      by : (e : Grain × Held) (b : Bool) → test e.1.phase ≡ b → IsFoundIn held e → b ≡ false
      by e true h found = absurd (never e found h)
      by e false h found = refl

  -- the activation that the number means is found by its grain
  pub of_grain : (g : Grain) → asked_under n out ≡ Some (Activation g) → find (λ e. test e.1.phase) held ≡ passing g
  of_grain g is = by_held (lookup (is_at (grain_cmp g)) held) refl
    where
      only : (e : Grain × Held) → IsFoundIn held e → test e.1.phase ≡ true → e.0 ≡ g
      only e found passes = same_activation e.0 g (sym (stands e found passes) ∙ is)

      by_held : (o : Option Held) → lookup (is_at (grain_cmp g)) held ≡ o
          → find (λ e. test e.1.phase) held ≡ option_and_then (λ h. cond (test h.phase) (Some (g, h)) None) o
      by_held None none = nothing n (sym (ap (λ o. option_and_then (λ (x : Held). number_in x.phase) o) none) ∙ are.asked.only g n is)
      by_held (Some h) there = by_test (test h.phase) refl
        where
          by_test : (b : Bool) → test h.phase ≡ b → find (λ e. test e.1.phase) held ≡ cond b (Some (g, h)) None
          by_test true passes =
              search_finds (λ e. test e.1.phase) held g h
              (all_map (IsFoundIn held) (λ e. test e.1.phase ≡ true → e.0 ≡ g) held (λ e found passes. only e found passes)
              (each_found held are.apart)) there passes
          by_test false fails =
              none_passes (λ e found passes.
              let same : e.1 ≡ h = same_Some e.1 h (sym found ∙ ap (λ (x : Grain). lookup (is_at (grain_cmp x)) held) (only e found passes) ∙ there) in
              let both : true ≡ false = sym passes ∙ ap (λ (x : Held). test x.phase) same ∙ fails in cc)

  -- where the number means none, none is found
  pub not_asked : ((g : Grain) → asked_under n out ≡ Some (Activation g) → ⊥) → find (λ e. test e.1.phase) held ≡ None
  not_asked never = none_passes (λ e found passes. never e.0 (stands e found passes))

-- the number of a phase that asks, or closes, is that under which it does
pub asking_if : (phase : Phase) (its n : ℕ) → phase ≡ Asking its → number_in phase ≡ Some n → is_asking_under n phase ≡ true
asking_if (Asking its) k n is has = (Decides-eqb its n).1 (same_Some its n has)
asking_if Firm its n is has = cc
asking_if (Closing other) its n is has = cc

pub closing_if : (phase : Phase) (its n : ℕ) → phase ≡ Closing its → number_in phase ≡ Some n → is_closing_under n phase ≡ true
closing_if (Asking other) its n is has = cc
closing_if Firm its n is has = cc
closing_if (Closing its) k n is has = (Decides-eqb its n).1 (same_Some its n has)

-- the activation that the number means has its request under it, and is what a search finds, if it passes
module _ (h : Inside) (is : IsWhole h) (host : Host) (means : host_of h ≡ host) (n : ℕ) where
  abbrev pub Finds : Option (Grain × Held) → Type 0
  Finds result = (test : Phase → Bool) → ((phase : Phase) → test phase ≡ true → number_in phase ≡ Some n)
      → find (λ e. test e.1.phase) host.held ≡ option_and_then (λ e. cond (test e.1.phase) (Some e) None) result

  -- there is none of the number
  pub finds_none : ((g : Grain) → asked_under n h.outstanding.entries ≡ Some (Activation g) → ⊥) → (result : Option (Grain × Held))
      → result ≡ None → Finds result
  finds_none never result none test has =
      ap (λ (x : Host). find (λ e. test e.1.phase) x.held) (sym means)
      ∙ not_asked h.next_number h.held.entries h.outstanding.entries is.are_held test n has never
      ∙ ap (option_and_then (λ e. cond (test e.1.phase) (Some e) None)) (sym none)

  module _ (g : Grain) (asked : asked_under n h.outstanding.entries ≡ Some (Activation g)) where
    -- so its activation is held
    pub is_held : {P : Type 0} → None ≡ lookup (is_at (grain_cmp g)) h.held.entries → P
    is_held there = nothing n (ap (λ o. option_and_then (λ (x : Held). number_in x.phase) o) there ∙ is.are_held.asked.only g n asked)

    module _ (held : Held) (there : Some held ≡ lookup (is_at (grain_cmp g)) h.held.entries) where
      pub has_number : number_in held.phase ≡ Some n
      has_number = ap (λ o. option_and_then (λ (x : Held). number_in x.phase) o) there ∙ is.are_held.asked.only g n asked

      pub finds_held : Finds (Some (g, held))
      finds_held test has =
          ap (λ (x : Host). find (λ e. test e.1.phase) x.held) (sym means)
          ∙ of_grain h.next_number h.held.entries h.outstanding.entries is.are_held test n has g asked
          ∙ ap (λ o. option_and_then (λ (x : Held). cond (test x.phase) (Some (g, x)) None) o) (sym there)

-- what passes is found, and what doesn't isn't
pub found_if : (test : Phase → Bool) (held : List (Grain × Held)) (e : Grain × Held) (b : Bool) → test e.1.phase ≡ b
    → find (λ x. test x.1.phase) held ≡ cond (test e.1.phase) (Some e) None → cond b (Some e) None ≡ find (λ x. test x.1.phase) held
found_if test held e b is found = sym (found ∙ ap (λ t. cond t (Some e) None) is)

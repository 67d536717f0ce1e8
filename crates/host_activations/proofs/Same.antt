-- `==` decides equality of activations and of what is outstanding; and hosts are equal where their parts are.
use Rattle.std.proofs.Common.{◌≡◌, refl, sym, ap, subst, ◌∙◌, ℕ, List, Bool, Option, Some, None, option_and_then}
use Rattle.std.specs.Bool.{Decides}
use Rattle.std.specs.Map.{lookup}
use Rattle.std.specs.BTreeMap.{is_at}
use Rattle.std.specs.Ordering.{nat_cmp}
use Rattle.std.proofs.lemmas.Bool.Decides.{Decides-like}
use Rattle.std.proofs.lemmas.Cmp.{nat_cmp_total}
use Rattle.std.proofs.lemmas.Map.Lookups.{exact_unsigned}
use Rattle.silo_address.specs.Grain.{Grain}
use Rattle.silo_address.proofs.Same.{Decides-grain}
use Rattle.membership_view.proofs.Found.{same_entries}
use Rattle.directory_rules.specs.declared.Held.{Held}
use Rattle.directory_rules.specs.State.{Host}
use Rattle.host_activations.specs.Activations.{ActivationsValue}
use Rattle.host_activations.specs.declared.asked.OutstandingRequest.{OutstandingRequest}
use Rattle.host_activations.specs.declared.asked.OutstandingRequest.TheVariants.{Activation, Find}
use Rattle.host_activations.specs.contracts.asked.OutstandingRequestPartialEq as asked_eq
use Rattle.host_activations.specs.Asked.{asked_under, find_in, finds_in}
use Rattle.host_activations.specs.IsHost.{AreHeld}
use Rattle.host_activations.proofs.Agreement.{nothing}
use Rattle.host_activations.proofs.Finds.{find_under, is_find}
use Rattle.host_activations.specs.declared.host.Host.TheInside.{Inside}
use Rattle.host_activations.specs.HostModel.{IsWhole, host_of}
use Rattle.host_activations.proofs.Fields.{meant}

-- ---- Tests of equality.
pub Decides-asked : (a b : OutstandingRequest) → Decides (asked_eq.TheImpl.ghosts.eq a b) (a ≡ b)
Decides-asked (Activation a) (Activation b) = Decides-like _ (λ e. ap (λ (g : Grain). Activation g) e) (λ e. cc) (Decides-grain a b)
Decides-asked (Activation a) (Find b) = (λ h. cc, λ h. cc)
Decides-asked (Find a) (Activation b) = (λ h. cc, λ h. cc)
Decides-asked (Find a) (Find b) = Decides-like _ (λ e. ap (λ (g : Grain). Find g) e) (λ e. cc) (Decides-grain a b)

-- ---- Hosts.
-- the activations and the finds tell all that is outstanding
module _ (next : ℕ) (held : List (Grain × Held)) (out other : List (ℕ × OutstandingRequest)) (are : AreHeld next held out)
    (also : AreHeld next held other) (finds : finds_in out ≡ finds_in other) where
  same_find : (n : ℕ) → option_and_then find_in (asked_under n out) ≡ option_and_then find_in (asked_under n other)
  same_find n =
      sym (find_under out are.in_order n) ∙ ap (λ (l : List (ℕ × Grain)). lookup (is_at (nat_cmp n)) l) finds
      ∙ find_under other also.in_order n

  pub told : out ≡ other
  told =
      same_entries nat_cmp_total exact_unsigned out other are.in_order also.in_order
      (λ n. by n (asked_under n out) refl (asked_under n other) refl)
    where
      by : (n : ℕ) (o : Option OutstandingRequest) → asked_under n out ≡ o → (p : Option OutstandingRequest) → asked_under n other ≡ p
          → o ≡ p
      by n None is None so = refl
      by n (Some (Activation g)) is p so = sym (also.asked.there g n (are.asked.only g n is)) ∙ so
      by n (Some (Find g)) is p so = sym (is_find (asked_under n other) g (sym (same_find n) ∙ ap (λ o. option_and_then find_in o) is)) ∙ so
      by n None is (Some (Activation g)) so = nothing (Activation g) (sym is ∙ are.asked.there g n (also.asked.only g n so))
      by n None is (Some (Find g)) so =
          nothing g (sym (ap (λ o. option_and_then find_in o) is) ∙ same_find n ∙ ap (λ o. option_and_then find_in o) so)

pub Decides-host : (one other : Inside) → IsWhole one → IsWhole other → one.silo ≡ other.silo → one.next_number ≡ other.next_number
    → one.held ≡ other.held → (r : Bool) → Decides r (one.outstanding.entries ≡ other.outstanding.entries) → (a b : Host) → host_of one ≡ a
    → host_of other ≡ b → Decides r (a ≡ b)
Decides-host one other is also silo next held r tells a b is_one is_other =
    Decides-like r
    (λ same. sym is_one ∙ (λ i. meant (silo i) (next i) (held i).next_count (held i).entries (same i)) ∙ is_other)
    (λ same. told one.next_number one.held.entries one.outstanding.entries other.outstanding.entries is.are_held
    (subst (λ (n : ℕ). AreHeld n one.held.entries other.outstanding.entries) (sym next)
    (subst (λ (l : List (Grain × Held)). AreHeld other.next_number l other.outstanding.entries)
    (sym (ap (λ (v : ActivationsValue). v.entries) held)) also.are_held))
    (ap (λ (h : Host). h.finds) (is_one ∙ same ∙ sym is_other)))
    tells

-- `==` decides equality of silos, grains, activations and entries: for the crates above.
use Rattle.std.proofs.Common.{◌≡◌, ap, sym, subst, ℕ, List, Bool}
use Rattle.std.specs.Prelude.{◌==◌, ◌&&◌}
use Rattle.std.specs.Cmp.Lexicographic.{pointwise}
use Rattle.std.specs.Bool.{Decides}
use Rattle.std.proofs.lemmas.Bool.Decides.{Decides-like, Decides-and, Decides-eqb}
use Rattle.std.proofs.lemmas.Slice.Eq.{bytes_eq-Decides}
use Rattle.silo_address.specs.Silo.{Silo, silo_eq}
use Rattle.silo_address.specs.Grain.{Grain, grain_eq}
use Rattle.silo_address.specs.declared.activation.ActivationId.{ActivationId}
use Rattle.silo_address.specs.declared.entry.Entry.{Entry}
use Rattle.silo_address.specs.Activation.{activation_eq, entry_eq}

abbrev silo_of : List ℕ → ℕ → ℕ → Silo
silo_of ip port generation = record { ip = ip; port = port; generation = generation }

pub same_silo : (a b : Silo) → a.ip ≡ b.ip → a.port ≡ b.port → a.generation ≡ b.generation → a ≡ b
same_silo a b ip port generation = λ i. silo_of (ip i) (port i) (generation i)

pub Decides-silo : (a b : Silo) → Decides (silo_eq a b) (a ≡ b)
Decides-silo a b =
    Decides-like _ (λ e. same_silo a b e.0 e.1.0 e.1.1)
    (λ e. (ap (λ (s : Silo). s.ip) e, (ap (λ (s : Silo). s.port) e, ap (λ (s : Silo). s.generation) e)))
    (Decides-and _ _ (bytes_eq-Decides a.ip b.ip) (Decides-and _ _ (Decides-eqb a.port b.port) (Decides-eqb a.generation b.generation)))

abbrev grain_of : List ℕ → List ℕ → Grain
grain_of kind key = record { kind = kind; key = key }

pub same_grain : (a b : Grain) → a.kind ≡ b.kind → a.key ≡ b.key → a ≡ b
same_grain a b kind key = λ i. grain_of (kind i) (key i)

pub Decides-grain : (a b : Grain) → Decides (grain_eq a b) (a ≡ b)
Decides-grain a b =
    Decides-like _ (λ e. same_grain a b e.0 e.1) (λ e. (ap (λ (g : Grain). g.kind) e, ap (λ (g : Grain). g.key) e))
    (Decides-and _ _ (bytes_eq-Decides a.kind b.kind) (bytes_eq-Decides a.key b.key))

abbrev activation_of : Silo → ℕ → ActivationId
activation_of silo count = record { silo = silo; count = count }

pub same_activation : (a b : ActivationId) → a.silo ≡ b.silo → a.count ≡ b.count → a ≡ b
same_activation a b silo count = λ i. activation_of (silo i) (count i)

pub Decides-activation : (a b : ActivationId) → Decides (activation_eq a b) (a ≡ b)
Decides-activation a b =
    Decides-like _ (λ e. same_activation a b e.0 e.1) (λ e. (ap (λ (x : ActivationId). x.silo) e, ap (λ (x : ActivationId). x.count) e))
    (Decides-and _ _ (Decides-silo a.silo b.silo) (Decides-eqb a.count b.count))

abbrev entry_of : Grain → ActivationId → Entry
entry_of grain activation = record { grain = grain; activation = activation }

pub same_entry : (a b : Entry) → a.grain ≡ b.grain → a.activation ≡ b.activation → a ≡ b
same_entry a b grain activation = λ i. entry_of (grain i) (activation i)

pub Decides-entry : (a b : Entry) → Decides (entry_eq a b) (a ≡ b)
Decides-entry a b =
    Decides-like _ (λ e. same_entry a b e.0 e.1) (λ e. (ap (λ (x : Entry). x.grain) e, ap (λ (x : Entry). x.activation) e))
    (Decides-and _ _ (Decides-grain a.grain b.grain) (Decides-activation a.activation b.activation))

-- What tells whether two endpoints are one.
pub Decides-endpoint : (same : Bool) (ip other_ip : List ℕ) (port other_port : ℕ)
    → same ≡ (pointwise ◌==◌ ip other_ip && (port == other_port)) → Decides same ((ip ≡ other_ip) × (port ≡ other_port))
Decides-endpoint same ip other_ip port other_port is =
    subst (λ b. Decides b ((ip ≡ other_ip) × (port ≡ other_port))) (sym is)
    (Decides-and _ _ (bytes_eq-Decides ip other_ip) (Decides-eqb port other_port))

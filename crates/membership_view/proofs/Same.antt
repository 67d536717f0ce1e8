-- `==` decides equality of statuses and of rows: for the crates above.
use Rattle.std.proofs.Common.{◌≡◌, ◌==◌, ◌&&◌, ℕ, Option, Some, None, refl, ap}
use Rattle.std.specs.Bool.{Decides}
use Rattle.std.proofs.lemmas.Bool.Decides.{Decides-like, Decides-and, Decides-eqb}
use Rattle.std.proofs.lemmas.Option.{same_Some}
use Rattle.std.specs.Option.{option_eq}
use Rattle.std.proofs.lemmas.Slice.Eq.{bytes_eq-Decides}
use Rattle.silo_address.specs.Silo.{Silo}
use Rattle.silo_address.specs.contracts.silo.SiloAddressPartialEq as silo
use Rattle.membership_view.specs.declared.row.Row.{Row}
use Rattle.membership_view.specs.declared.status.Status.{Status}
use Rattle.membership_view.specs.declared.status.Status.TheVariants.{Active, Leaving, Dead}
use Rattle.membership_view.specs.contracts.row.RowPartialEq as row
use Rattle.membership_view.specs.contracts.status.StatusPartialEq as status
use Rattle.silo_address.proofs.Same.{same_silo}

pub Decides-status : (a b : Status) → Decides (status.TheImpl.ghosts.eq a b) (a ≡ b)
Decides-status Active Active = (λ h. refl, λ h. refl)
Decides-status Active Leaving = (λ h. cc, λ h. cc)
Decides-status Active Dead = (λ h. cc, λ h. cc)
Decides-status Leaving Active = (λ h. cc, λ h. cc)
Decides-status Leaving Leaving = (λ h. refl, λ h. refl)
Decides-status Leaving Dead = (λ h. cc, λ h. cc)
Decides-status Dead Active = (λ h. cc, λ h. cc)
Decides-status Dead Leaving = (λ h. cc, λ h. cc)
Decides-status Dead Dead = (λ h. refl, λ h. refl)

Decides-made : (a b : Option ℕ) → Decides (option_eq ◌==◌ a b) (a ≡ b)
Decides-made None None = (λ h. refl, λ h. refl)
Decides-made None (Some b) = (λ h. cc, λ h. cc)
Decides-made (Some a) None = (λ h. cc, λ h. cc)
Decides-made (Some a) (Some b) = Decides-like _ (λ e. ap (λ n. Some n) e) (λ e. same_Some a b e) (Decides-eqb a b)

abbrev row_with : ℕ → Option ℕ → Option ℕ → Row
row_with joined left dead = record { joined = joined; left = left; dead = dead }

same_row : (a b : Row) → a.joined ≡ b.joined → a.left ≡ b.left → a.dead ≡ b.dead → a ≡ b
same_row a b joined left dead = λ i. row_with (joined i) (left i) (dead i)

pub Decides-row : (a b : Row) → Decides (row.TheImpl.ghosts.eq a b) (a ≡ b)
Decides-row a b =
    Decides-like _ (λ e. same_row a b e.0 e.1.0 e.1.1)
    (λ e. (ap (λ (r : Row). r.joined) e, (ap (λ (r : Row). r.left) e, ap (λ (r : Row). r.dead) e)))
    (Decides-and _ _ (Decides-eqb a.joined b.joined) (Decides-and _ _ (Decides-made a.left b.left) (Decides-made a.dead b.dead)))

-- `==` of addresses too
pub Decides-address : (a b : Silo) → Decides (silo.TheImpl.ghosts.eq a b) (a ≡ b)
Decides-address a b =
    Decides-like _ (λ e. same_silo a b e.0 e.1.0 e.1.1)
    (λ e. (ap (λ (s : Silo). s.ip) e, (ap (λ (s : Silo). s.port) e, ap (λ (s : Silo). s.generation) e)))
    (Decides-and _ _ (bytes_eq-Decides a.ip b.ip) (Decides-and _ _ (Decides-eqb a.port b.port) (Decides-eqb a.generation b.generation)))

-- the same of the rows of views
pub Decides-shown : (a b : Silo × Status) → Decides (silo.TheImpl.ghosts.eq a.0 b.0 && status.TheImpl.ghosts.eq a.1 b.1) (a ≡ b)
Decides-shown a b =
    Decides-like _ (λ e i. (e.0 i, e.1 i)) (λ e. (ap (λ (p : Silo × Status). p.0) e, ap (λ (p : Silo × Status). p.1) e))
    (Decides-and _ _ (Decides-address a.0 b.0) (Decides-status a.1 b.1))

-- Silos by address: endpoint first, then generation. So the silos of one endpoint are neighbours.
use Rattle.std.proofs.Common.{◌≡◌, Bool, true, false, refl, sym, ◌∙◌, ap}
use Rattle.std.specs.Bool.{Decides}
use Rattle.std.proofs.lemmas.Bool.Decides.{Decides-and, Decides-eqb, same_from_decides}
use Rattle.std.proofs.lemmas.Slice.Eq.{bytes_eq-Decides}
use Rattle.std.specs.Cmp.{IsTotalOrder}
use Rattle.std.proofs.lemmas.Cmp.{alike_right, tied_itself, then_total, on_total, nat_cmp_total, nat_list_cmp_total}
use Rattle.std.proofs.lemmas.Map.Lookups.{exact_bytes, exact_unsigned}
use Rattle.std.specs.Ordering.{is_gt, nat_cmp, on, then_cmp, ordering_then, ordering_reverse}
use Rattle.std.specs.Cmp.Lexicographic.{slice_cmp}
use Rattle.std.specs.declared.cmp.Ordering.{Ordering}
use Rattle.std.specs.declared.cmp.Ordering.TheVariants.{Equal}
use Rattle.texts.proofs.Orderings.{then_assoc, first_upto, level}
use Rattle.silo_address.specs.Silo.{Silo, silo_cmp}
use Rattle.membership_view.specs.View.{shares_endpoint}
use Rattle.silo_address.proofs.Order.{both_tie}
use Rattle.silo_address.proofs.Same.{same_silo}

-- endpoints by ip, then port
abbrev endpoint_cmp : Silo → Silo → Ordering
endpoint_cmp = then_cmp (on (λ s. s.ip) (slice_cmp nat_cmp)) (on (λ s. s.port) nat_cmp)

endpoint_total : IsTotalOrder endpoint_cmp
endpoint_total = then_total (on_total (λ s. s.ip) nat_list_cmp_total) (on_total (λ s. s.port) nat_cmp_total)

-- `shares_endpoint` decides that ip and port are the same
pub Decides-shares : (a b : Silo) → Decides (shares_endpoint a b) ((a.ip ≡ b.ip) × (a.port ≡ b.port))
Decides-shares a b = Decides-and _ _ (bytes_eq-Decides a.ip b.ip) (Decides-eqb a.port b.port)

pub shares_itself : (a : Silo) → shares_endpoint a a ≡ true
shares_itself a = (Decides-shares a a).1 (refl, refl)

pub shares_back : (a b : Silo) → shares_endpoint a b ≡ true → shares_endpoint b a ≡ true
shares_back a b h = let e = (Decides-shares a b).0 h in (Decides-shares b a).1 (sym e.0, sym e.1)

pub shares_along : (a b c : Silo) → shares_endpoint a b ≡ true → shares_endpoint b c ≡ true → shares_endpoint a c ≡ true
shares_along a b c h k =
    let e = (Decides-shares a b).0 h in
    let f = (Decides-shares b c).0 k in
    (Decides-shares a c).1 (e.0 ∙ f.0, e.1 ∙ f.1)

-- silos of one endpoint with one generation are one
pub same_generation : (a b : Silo) → shares_endpoint a b ≡ true → a.generation ≡ b.generation → a ≡ b
same_generation a b h g = let e = (Decides-shares a b).0 h in same_silo a b e.0 e.1 g

tied_endpoint : (a b : Silo) → shares_endpoint a b ≡ true → endpoint_cmp a b ≡ Equal
tied_endpoint a b h =
    let e = (Decides-shares a b).0 h in
    ap (λ l. ordering_then (slice_cmp nat_cmp a.ip l) (nat_cmp a.port b.port)) (sym e.0)
    ∙ ap (λ n. ordering_then (slice_cmp nat_cmp a.ip a.ip) (nat_cmp a.port n)) (sym e.1)
    ∙ tied_itself endpoint_total a

shares_tied : (a b : Silo) → endpoint_cmp a b ≡ Equal → shares_endpoint a b ≡ true
shares_tied a b h =
    let e = both_tie (slice_cmp nat_cmp a.ip b.ip) (nat_cmp a.port b.port) h in
    (Decides-shares a b).1 (exact_bytes a.ip b.ip e.0, exact_unsigned a.port b.port e.1)

by_endpoint : (a b : Silo) → silo_cmp a b ≡ ordering_then (endpoint_cmp a b) (nat_cmp a.generation b.generation)
by_endpoint a b = then_assoc (slice_cmp nat_cmp a.ip b.ip) (nat_cmp a.port b.port) (nat_cmp a.generation b.generation)

-- silos of one endpoint are in order of generation
pub by_generation : (a b : Silo) → shares_endpoint a b ≡ true → silo_cmp a b ≡ nat_cmp a.generation b.generation
by_generation a b h = by_endpoint a b ∙ ap (λ r. ordering_then r (nat_cmp a.generation b.generation)) (tied_endpoint a b h)

endpoint_upto : (a b : Silo) → is_gt (silo_cmp a b) ≡ false → is_gt (endpoint_cmp a b) ≡ false
endpoint_upto a b h = first_upto (endpoint_cmp a b) (nat_cmp a.generation b.generation) (sym (ap is_gt (by_endpoint a b)) ∙ h)

-- what is between two silos of one endpoint is of that endpoint
pub shares_between : (a b c : Silo) → is_gt (silo_cmp a b) ≡ false → is_gt (silo_cmp b c) ≡ false → shares_endpoint a c ≡ true
    → shares_endpoint a b ≡ true
shares_between a b c ab bc ac =
    let back : endpoint_cmp b a ≡ endpoint_cmp b c = alike_right endpoint_total a c b (tied_endpoint a c ac) in
    let turned : endpoint_cmp b a ≡ ordering_reverse (endpoint_cmp a b) = endpoint_total.antisymm b a in
    shares_tied a b (level (endpoint_cmp a b) (endpoint_upto a b ab) (ap is_gt (sym turned ∙ back) ∙ endpoint_upto b c bc))

-- what a test that decides it answers
pub shares_is : (a b : Silo) (r : Bool) → Decides r ((a.ip ≡ b.ip) × (a.port ≡ b.port)) → r ≡ shares_endpoint a b
shares_is a b r h = same_from_decides r (shares_endpoint a b) h (Decides-shares a b)

-- A silo that was added keeps its places, whatever changes follow; and those that are hashed are of its text.
use Rattle.std.proofs.Common.{◌≡◌, ◌⊎◌, inl, inr, ℕ, Bool, true, false, List, [], ◌∷◌, length, refl, sym, ap, ◌∙◌, subst, is_some}
use Rattle.std.specs.Prelude.{not, cond, if◌then◌else◌, Option, Some, Result, Ok, Err}
use Rattle.std.specs.BTreeMap.{is_at}
use Rattle.std.specs.Option.{unwrap_or}
use Rattle.std.proofs.lemmas.Option.{same_Some}
use Rattle.texts.proofs.Entries.{lookup-insert_entry}
use Rattle.texts.proofs.Orderings.{Equal-from}
use Rattle.silo_address.specs.Silo.{Silo, silo_cmp}
use Rattle.silo_address.proofs.Order.{silo_cmp_exact, silo_cmp_total}
use Rattle.hash_ring.specs.declared.hashing.Hashing.{Hashing}
use Rattle.hash_ring.specs.declared.hashing.Hashing.TheVariants.{Sha256, Stated}
use Rattle.hash_ring.specs.Hash.{hashed_places}
use Rattle.hash_ring.specs.Places.{PlacesValue, named_places, after_add, has_points, is_added, is_point_count, places_for, places_of, with_silo}
use Rattle.directory_facts.proofs.Places.{added_is}
use Rattle.directory_rules.proofs.Decided.{join_makes, leave_makes, death_makes}
use Rattle.directory_rules.specs.Settings.{Settings}
use Rattle.directory_rules.specs.Membership.{Change, Join, Leave, Die, Membership, changed, first_membership}
use Rattle.deployment_headline.proofs.Memberships.{Leads}
use Rattle.deployment_headline.proofs.MirrorBegins.{AreHashed}

-- what is made of places: nothing, or one silo gets its own
abbrev Adds : Membership → Membership → Type 0
Adds m next = (next.places ≡ m.places) ⊎ ((silo : Silo) × (stated : List ℕ) × (after_add m.places silo stated ≡ Ok next.places))

adds : (settings : Settings) (m next : Membership) (c : Change) → changed settings m c ≡ Ok next → Adds m next
adds settings m next (Join silo stated) is = inr (silo, stated, (join_makes settings m next silo stated is).added)
adds settings m next (Leave silo) is = inl (leave_makes settings m next silo is).places
adds settings m next (Die silo) is = inl (death_makes settings m next silo is).places

abbrev refused : Bool → Bool → Bool → PlacesValue → Result PlacesValue ℕ
refused count some there made = if not count then Err 402 else (if not some then Err 403 else (if there then Err 404 else Ok made))

not_there : (count some there : Bool) (made next : PlacesValue) → refused count some there made ≡ Ok next → there ≡ false
not_there false some there made next is = absurd (cc (is))
not_there true false there made next is = absurd (cc (is))
not_there true true true made next is = absurd (cc (is))
not_there true true false made next is = refl

pub put_beside : (places : PlacesValue) (silo : Silo) (stated : List ℕ) (q : Silo) → is_at (silo_cmp q) silo ≡ false
    → places_of (with_silo places silo stated) q ≡ places_of places q
put_beside places silo stated q apart =
    let list = places_for places.hashing places.points silo stated in
    lookup-insert_entry silo_cmp_total silo list q places.entries ∙ ap (λ b. cond b (Some list) (places_of places q)) apart

stay_one : (m next : Membership) → Adds m next → (q : Silo) → is_added m.places q ≡ true → places_of next.places q ≡ places_of m.places q
stay_one m next (inl same) q there = ap (λ p. places_of p q) same
stay_one m next (inr its) q there =
    ap (λ p. places_of p q) (sym (added_is m.places next.places its.0 its.1 its.2)) ∙ by (is_at (silo_cmp q) its.0) refl
  where
    new : is_added m.places its.0 ≡ false
    new =
        not_there (is_point_count m.places.hashing (length its.1)) (has_points m.places.hashing (length its.1)) (is_added m.places its.0)
        (with_silo m.places its.0 its.1) next.places its.2

    by : (b : Bool) → is_at (silo_cmp q) its.0 ≡ b → places_of (with_silo m.places its.0 its.1) q ≡ places_of m.places q
    by false at = put_beside m.places its.0 its.1 q at
    by true at =
        let yes = ap (λ s. is_added m.places s) (sym (silo_cmp_exact q its.0 (Equal-from (silo_cmp q its.0) at))) ∙ there in
        absurd (cc (yes, new))

-- places that are the same were named so
pub named_same : (hashing : Hashing) (one other : PlacesValue) (q : Silo) → places_of one q ≡ places_of other q
    → named_places hashing one q ≡ named_places hashing other q
named_same Sha256 one other q same = refl
named_same Stated one other q same = ap (λ (o : Option (List ℕ)). unwrap_or o []) same

-- whoever was added still is
still_added : (m next : Membership) → Adds m next → (q : Silo) → is_added m.places q ≡ true → is_added next.places q ≡ true
still_added m next how q there = ap (λ (o : Option (List ℕ)). is_some o) (stay_one m next how q there) ∙ there

pub leads_stay : (settings : Settings) (m n : Membership) (cs : List Change) → Leads settings m cs n → (q : Silo) → is_added m.places q ≡ true
    → places_of n.places q ≡ places_of m.places q
leads_stay settings m n [] leads q there = ap (λ (k : Membership). places_of k.places q) (sym leads)
leads_stay settings m n (c ∷ cs) leads q there =
    let how = adds settings m leads.0 c leads.1 in
    leads_stay settings leads.0 n cs leads.2 q (still_added m leads.0 how q there) ∙ stay_one m leads.0 how q there

hashed_one : (m next : Membership) → Adds m next → AreHashed m.places → AreHashed next.places
hashed_one m next (inl same) hashed = subst AreHashed (sym same) hashed
hashed_one m next (inr adding) hashed =
    subst AreHashed (added_is m.places next.places adding.0 adding.1 adding.2) (λ q list found how. by q list (is_at (silo_cmp q) adding.0) refl found how)
  where
    its : (hashing : Hashing) → m.places.hashing ≡ hashing → hashing ≡ Sha256
        → places_for hashing m.places.points adding.0 adding.1 ≡ hashed_places m.places.points adding.0
    its Sha256 at how = refl
    its Stated at how = absurd (cc (how))

    by : (q : Silo) (list : List ℕ) (b : Bool) → is_at (silo_cmp q) adding.0 ≡ b → places_of (with_silo m.places adding.0 adding.1) q ≡ Some list
        → m.places.hashing ≡ Sha256 → list ≡ hashed_places m.places.points q
    by q list false at found how = hashed q list (sym (put_beside m.places adding.0 adding.1 q at) ∙ found) how
    by q list true at found how =
        let made = places_for m.places.hashing m.places.points adding.0 adding.1 in
        same_Some list made (sym found ∙ lookup-insert_entry silo_cmp_total adding.0 made q m.places.entries ∙ ap (λ b. cond b (Some made) (places_of m.places q)) at)
        ∙ its m.places.hashing refl how
        ∙ ap (λ s. hashed_places m.places.points s) (sym (silo_cmp_exact q adding.0 (Equal-from (silo_cmp q adding.0) at)))

pub leads_hashed : (settings : Settings) (m n : Membership) (cs : List Change) → Leads settings m cs n → AreHashed m.places → AreHashed n.places
leads_hashed settings m n [] leads hashed = subst (λ (k : Membership). AreHashed k.places) leads hashed
leads_hashed settings m n (c ∷ cs) leads hashed =
    leads_hashed settings leads.0 n cs leads.2 (hashed_one m leads.0 (adds settings m leads.0 c leads.1) hashed)

pub first_hashed : (settings : Settings) → AreHashed (first_membership settings).places
first_hashed settings q list found how = absurd (cc (found))

-- Places that were named at a join may be told again.
use Rattle.std.proofs.Common.{arith, ◌≡◌, ℕ, Bool, true, false, List, [], length, refl, sym, ap, ◌∙◌, subst}
use Rattle.std.specs.Prelude.{nat_lt, not, cond, if◌then◌else◌, ◌∷◌, Option, Some, Result, Ok, Err}
use Rattle.std.specs.BTreeMap.{is_at}
use Rattle.std.specs.Option.{unwrap_or}
use Rattle.std.proofs.lemmas.Bool.{le-ltb}
use Rattle.texts.proofs.Entries.{lookup-insert_entry}
use Rattle.texts.proofs.Orderings.{Equal-from}
use Rattle.silo_address.specs.Silo.{Silo, silo_cmp}
use Rattle.silo_address.proofs.Order.{silo_cmp_exact, silo_cmp_total}
use Rattle.membership_view.specs.Views.{ViewsValue}
use Rattle.membership_view.specs.Changes as change
use Rattle.hash_ring.specs.declared.hashing.Hashing.{Hashing}
use Rattle.hash_ring.specs.declared.hashing.Hashing.TheVariants.{Sha256, Stated}
use Rattle.hash_ring.specs.Places.{PlacesValue, has_points, is_added, is_point_count, named_places, places_for, places_of, with_silo}
use Rattle.directory_facts.proofs.Lookups.{at_itself}
use Rattle.directory_facts.proofs.Places.{added_is}
use Rattle.directory_rules.proofs.Decided.{join_makes, leave_makes, death_makes}
use Rattle.directory_rules.specs.Settings.{Settings}
use Rattle.directory_rules.specs.Membership.{Change, Join, Leave, Die, Membership, changed, first_membership, joined, with_places}
use Rattle.deployment_headline.proofs.Memberships.{Leads}
use Rattle.deployment_headline.proofs.PlacesStay.{named_same, put_beside}

-- places that may be stated for a silo
pub record MayBeStated (settings : Settings) (hashing : Hashing) (stated : List ℕ) : Type 0 where
  pub few : nat_lt settings.places (length stated) ≡ false
  pub count : is_point_count hashing (length stated) ≡ true
  pub some : has_points hashing (length stated) ≡ true

-- so may those that were named of each silo that was added
abbrev pub MayBeTold : Settings → PlacesValue → Type 0
MayBeTold settings places =
    (q : Silo) (list : List ℕ) → places_of places q ≡ Some list
    → MayBeStated settings places.hashing (named_places places.hashing places q)

-- those with which a silo joins
stated_so : (settings : Settings) (m next : Membership) (silo : Silo) (stated : List ℕ) → changed settings m (Join silo stated) ≡ Ok next
    → MayBeStated settings m.places.hashing stated
stated_so settings m next silo stated is = by_views (change.after_join m.views silo) is
  where
    by : (views : ViewsValue) (few count some there : Bool) → nat_lt settings.places (length stated) ≡ few
        → is_point_count m.places.hashing (length stated) ≡ count → has_points m.places.hashing (length stated) ≡ some
        → with_places (if few then Err 402 else (if not count then Err 402 else
        (if not some then Err 403 else (if there then Err 404 else Ok (with_silo m.places silo stated))))) views ≡ Ok next
        → MayBeStated settings m.places.hashing stated
    by views true count some there few_is count_is some_is h = absurd (cc (h))
    by views false false some there few_is count_is some_is h = absurd (cc (h))
    by views false true false there few_is count_is some_is h = absurd (cc (h))
    by views false true true there few_is count_is some_is h = record { few = few_is; count = count_is; some = some_is }

    by_views : (o : Result ViewsValue ℕ) → joined o settings m.places silo stated ≡ Ok next → MayBeStated settings m.places.hashing stated
    by_views (Err number) h = absurd (cc (h))
    by_views (Ok views) h =
        by views (nat_lt settings.places (length stated)) (is_point_count m.places.hashing (length stated))
        (has_points m.places.hashing (length stated)) (is_added m.places silo) refl refl refl h

-- where places are hashed, none is named
none_stated : (settings : Settings) → MayBeStated settings Sha256 []
none_stated settings = record { few = le-ltb settings.places 0 (omega arith); count = refl; some = refl }

module _ (settings : Settings) (m : Membership) (silo : Silo) (stated : List ℕ) (its : MayBeStated settings m.places.hashing stated) where
  abbrev with_it : PlacesValue
  with_it = with_silo m.places silo stated

  -- of the silo that joins
  its_told : (hashing : Hashing) → m.places.hashing ≡ hashing → MayBeStated settings hashing (named_places hashing with_it silo)
  its_told Sha256 at = none_stated settings
  its_told Stated at =
      subst (λ list. MayBeStated settings Stated list) (sym named) (subst (λ h. MayBeStated settings h stated) at its)
    where
      found : places_of with_it silo ≡ Some (places_for m.places.hashing m.places.points silo stated)
      found =
          lookup-insert_entry silo_cmp_total silo (places_for m.places.hashing m.places.points silo stated) silo m.places.entries
          ∙ ap (λ b. cond b (Some (places_for m.places.hashing m.places.points silo stated)) (places_of m.places silo)) (at_itself silo_cmp silo_cmp_total silo)

      named : named_places Stated with_it silo ≡ stated
      named =
          ap (λ (o : Option (List ℕ)). unwrap_or o []) found
          ∙ ap (λ h. places_for h m.places.points silo stated) at

  join_told : MayBeTold settings m.places → MayBeTold settings with_it
  join_told all q list found = by (is_at (silo_cmp q) silo) refl
    where
      by : (b : Bool) → is_at (silo_cmp q) silo ≡ b → MayBeStated settings m.places.hashing (named_places m.places.hashing with_it q)
      by true at =
          subst (λ s. MayBeStated settings m.places.hashing (named_places m.places.hashing with_it s))
          (sym (silo_cmp_exact q silo (Equal-from (silo_cmp q silo) at))) (its_told m.places.hashing refl)
      by false at =
          let same = put_beside m.places silo stated q at in
          subst (λ l. MayBeStated settings m.places.hashing l) (sym (named_same m.places.hashing with_it m.places q same))
          (all q list (sym same ∙ found))

told_on : (settings : Settings) (m next : Membership) (c : Change) → changed settings m c ≡ Ok next → MayBeTold settings m.places
    → MayBeTold settings next.places
told_on settings m next (Join silo stated) is all =
    subst (MayBeTold settings) (added_is m.places next.places silo stated (join_makes settings m next silo stated is).added)
    (join_told settings m silo stated (stated_so settings m next silo stated is) all)
told_on settings m next (Leave silo) is all = subst (MayBeTold settings) (sym (leave_makes settings m next silo is).places) all
told_on settings m next (Die silo) is all = subst (MayBeTold settings) (sym (death_makes settings m next silo is).places) all

pub leads_told : (settings : Settings) (m n : Membership) (cs : List Change) → Leads settings m cs n → MayBeTold settings m.places
    → MayBeTold settings n.places
leads_told settings m n [] leads all = subst (λ (k : Membership). MayBeTold settings k.places) leads all
leads_told settings m n (c ∷ cs) leads all = leads_told settings leads.0 n cs leads.2 (told_on settings m leads.0 c leads.1 all)

pub first_told : (settings : Settings) → MayBeTold settings (first_membership settings).places
first_told settings q list found = absurd (cc (found))

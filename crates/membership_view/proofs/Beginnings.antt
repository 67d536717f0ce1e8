-- Views that begin with a later version stay whole as silos are listed.
use Rattle.std.proofs.Common.{◌≡◌, ◌⊎◌, inl, inr, ℕ, ◌<◌, ◌≤◌, ◌==◌, ◌||◌, Bool, true, false, cond, not, nat_lt, Option, Some, None, Result, Ok, Err, refl, sym, ◌∙◌, ap, arith, length, sum_by, subst, unwrap_or, if◌then◌else◌}
use Rattle.std.proofs.lemmas.Bool.{ltb-true, or_parts, eqb-false}
use Rattle.std.proofs.lemmas.Option.{same_Some}
use Rattle.std.proofs.lemmas.Map.Entries.{sum_by-insert_entry}
use Rattle.std.specs.Map.{values_of}
use Rattle.std.specs.BTreeMap.{is_at}
use Rattle.std.specs.Option.{option_map}
use Rattle.texts.proofs.Orderings.{Equal-from}
use Rattle.texts.proofs.Entries.{lookup-insert_entry, length-insert_entry, sorted-insert_entry}
use Rattle.silo_address.specs.Silo.{Silo, silo_cmp}
use Rattle.silo_address.proofs.Order.{silo_cmp_exact, silo_cmp_total}
use Rattle.membership_view.specs.declared.row.Row.{Row}
use Rattle.membership_view.specs.declared.status.Status.{Status}
use Rattle.membership_view.specs.declared.status.Status.TheVariants.{Active, Leaving, Dead}
use Rattle.membership_view.specs.View.{shares_endpoint}
use Rattle.membership_view.specs.Views.{ViewsValue}
use Rattle.membership_view.specs.Beginning.{after_listing, beginning, is_known_endpoint, with_listed}
use Rattle.membership_view.specs.Whole.{IsInTime, IsViews, changes_of}
use Rattle.membership_view.specs.Laws.{ListingsAreKept}
use Rattle.membership_view.proofs.KnownEndpoint.{known_endpoint}
use Rattle.membership_view.proofs.Order.{Decides-shares, shares_itself}
use Rattle.membership_view.proofs.SameEndpoint.{found_row}

-- a silo that is listed: a later version, its endpoint isn't known, and there is room
pub record IsListing (views : ViewsValue) (silo : Silo) (status : Status) (next : ViewsValue) : Type 0 where
  pub later : 0 < views.first
  pub apart : is_known_endpoint silo views.rows ≡ false
  pub room : length views.rows < views.limit
  pub is : next ≡ with_listed views silo status

abbrev judged : ViewsValue → Silo → Status → Bool → Bool → Result ViewsValue ℕ
judged views silo status bars room = if bars then Err 210 else (if not room then Err 205 else Ok (with_listed views silo status))

pub listing_is : (views : ViewsValue) (silo : Silo) (status : Status) (next : ViewsValue) → after_listing views silo status ≡ Ok next
    → IsListing views silo status next
listing_is views silo status next h =
    by ((views.first == 0) || is_known_endpoint silo views.rows) refl (nat_lt (length views.rows) views.limit) refl h
  where
    by : (b : Bool) → ((views.first == 0) || is_known_endpoint silo views.rows) ≡ b → (c : Bool) → nat_lt (length views.rows) views.limit ≡ c
        → judged views silo status b c ≡ Ok next → IsListing views silo status next
    by true bars room at h = absurd (cc (h))
    by false bars false at h = absurd (cc (h))
    by false bars true at h =
        let two = or_parts (views.first == 0) (is_known_endpoint silo views.rows) bars in
        let zero : (views.first ≡ 0) → ⊥ = eqb-false views.first 0 two.0 in
        record { later = above zero; apart = two.1; room = ltb-true (length views.rows) views.limit at; is = cc (h) }
      where
        above : ((views.first ≡ 0) → ⊥) → 0 < views.first
        above zero = omega (zero, arith)

module _ (views : ViewsValue) (whole : IsViews views) (silo : Silo) (status : Status) (later : 0 < views.first)
    (apart : is_known_endpoint silo views.rows ≡ false) (room : length views.rows < views.limit) where
  abbrev row : Row
  row = beginning views.first status

  -- no silo of its endpoint has a row
  nobody : (other : Silo) (its : Row) → found_row views.rows other ≡ Some its → shares_endpoint silo other ≡ true → ⊥
  nobody other its found shares = let yes = known_endpoint silo other views.rows its found shares in cc (yes, apart)

  new : found_row views.rows silo ≡ None
  new = by (found_row views.rows silo) refl
    where
      by : (o : Option Row) → found_row views.rows silo ≡ o → found_row views.rows silo ≡ None
      by None h = h
      by (Some its) h = absurd (nobody silo its h (shares_itself silo))

  pub listed_row : (q : Silo) (x : Row) → found_row (with_listed views silo status).rows q ≡ Some x
      → ((q ≡ silo) × (x ≡ row)) ⊎ (found_row views.rows q ≡ Some x)
  listed_row q x at = by (is_at (silo_cmp q) silo) refl (sym (lookup-insert_entry silo_cmp_total silo row q views.rows) ∙ at)
    where
      by : (b : Bool) → is_at (silo_cmp q) silo ≡ b → cond b (Some row) (found_row views.rows q) ≡ Some x
          → ((q ≡ silo) × (x ≡ row)) ⊎ (found_row views.rows q ≡ Some x)
      by true is h = inl (silo_cmp_exact q silo (Equal-from (silo_cmp q silo) is), sym (same_Some row x h))
      by false is h = inr h

  in_time : (its : Status) → IsInTime views.first views.version (beginning views.first its)
  in_time Active = record {
    joined_above = later;
    joined_from = omega arith;
    joined_by = whole.first_upto;
    left_after = λ made is. absurd (cc (is));
    dead_after = λ made is. absurd (cc (is));
    left_later = λ made is at_once. absurd (cc (is));
    dead_later = λ made is at_once. absurd (cc (is));
  }
  in_time Leaving = record {
    joined_above = later;
    joined_from = omega arith;
    joined_by = whole.first_upto;
    left_after = λ made is. at_first made (same_Some views.first made is);
    dead_after = λ made is. absurd (cc (is));
    left_later = λ made is at_once. at_once;
    dead_later = λ made is at_once. absurd (cc (is));
  }
    where
      at_first : (made : ℕ) → views.first ≡ made → (views.first ≤ made) × (made ≤ views.version)
      at_first made is = let upto = whole.first_upto in (omega (is, arith), omega (is, upto, arith))
  in_time Dead = record {
    joined_above = later;
    joined_from = omega arith;
    joined_by = whole.first_upto;
    left_after = λ made is. absurd (cc (is));
    dead_after = λ made is. at_first made (same_Some views.first made is);
    left_later = λ made is at_once. absurd (cc (is));
    dead_later = λ made is at_once. at_once;
  }
    where
      at_first : (made : ℕ) → views.first ≡ made → (views.first ≤ made) × (made ≤ views.version)
      at_first made is = let upto = whole.first_upto in (omega (is, arith), omega (is, upto, arith))

  counted : sum_by changes_of (values_of views.rows) ≤ sum_by changes_of (values_of (with_listed views silo status).rows)
  counted =
      let e = sum_by-insert_entry changes_of silo_cmp_total views.rows silo row whole.in_order in
      let none : unwrap_or (option_map changes_of (found_row views.rows silo)) 0 ≡ 0 = ap (λ o. unwrap_or (option_map changes_of o) 0) new in
      omega (arith, e, none)

  pub whole-listed : IsViews (with_listed views silo status)
  whole-listed = record {
    limit_above = whole.limit_above;
    limit_below = whole.limit_below;
    first_below = whole.first_below;
    first_upto = whole.first_upto;
    within_limit =
        let one = length-insert_entry silo_cmp_total silo row views.rows new in omega (one, room, arith);
    in_order = sorted-insert_entry silo_cmp_total silo row views.rows whole.in_order;
    in_time = λ q x at. elim (listed_row q x at) [
      | inl its ↦ subst (λ r. IsInTime views.first views.version r) (sym its.1) (in_time status)
      | inr was ↦ whole.in_time q x was
    ];
    older_dead = λ a b ra rb at_a at_b same lower. elim (listed_row a ra at_a) [
      | inl its ↦ elim (listed_row b rb at_b) [
        | inl other ↦ absurd (let e : a.generation ≡ b.generation = ap (λ (s : Silo). s.generation) (its.0 ∙ sym other.0) in omega (e, lower, arith))
        | inr was ↦ absurd (nobody b rb was (ap (λ s. shares_endpoint s b) (sym its.0) ∙ (Decides-shares a b).1 (sym same.0, sym same.1)))
      ]
      | inr was_a ↦ elim (listed_row b rb at_b) [
        | inl its ↦ absurd (nobody a ra was_a (ap (λ s. shares_endpoint s a) (sym its.0) ∙ (Decides-shares b a).1 same))
        | inr was_b ↦ whole.older_dead a b ra rb was_a was_b same lower
      ]
    ];
    counted = let k = whole.counted in let more = counted in omega (k, more, arith);
  }

pub listings_are_kept : ListingsAreKept
listings_are_kept views silo status next whole is =
    let its = listing_is views silo status next is in
    subst (λ v. IsViews v) (sym its.is) (whole-listed views whole silo status its.later its.apart its.room)

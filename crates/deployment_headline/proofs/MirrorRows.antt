-- Rows that mirror others go on to, as changes come.
use Rattle.std.proofs.Common.{◌≡◌, ◌≢◌, inl, inr, ℕ, Bool, true, false, cond, List, is_none, refl, sym, ap, ◌∙◌, nat_le, if◌then◌else◌}
use Rattle.std.specs.Prelude.{Option, Some, None}
use Rattle.std.specs.Option.{option_map}
use Rattle.std.specs.BTreeMap.{is_at}
use Rattle.std.specs.Ordering.{is_eq}
use Rattle.std.proofs.lemmas.Cmp.{tied_itself}
use Rattle.std.proofs.lemmas.Option.{same_Some}
use Rattle.texts.proofs.Entries.{lookup-changed, lookup-insert_entry}
use Rattle.texts.proofs.Orderings.{Equal-from}
use Rattle.silo_address.specs.Silo.{Silo, silo_cmp}
use Rattle.silo_address.proofs.Order.{silo_cmp_exact, silo_cmp_total}
use Rattle.membership_view.specs.declared.row.Row.{Row}
use Rattle.membership_view.specs.declared.status.Status.TheVariants.{Active, Leaving, Dead}
use Rattle.membership_view.specs.Row.{has_come, status_in, joining, leaving, dying}
use Rattle.membership_view.specs.Changes.{changed, joined_rows, occupant, without}
use Rattle.membership_view.proofs.After.{apart}
use Rattle.membership_view.proofs.Joins.{put_in}
use Rattle.membership_view.proofs.SameEndpoint.{found_row}
use Rattle.deployment_headline.proofs.Mirrors.{ReadsAs}

-- ---- one row after a change
pub map_some : {X : Type 0} (f : X → X) (o : Option X) (x : X) → option_map f o ≡ Some x → (y : X) × (o ≡ Some y) × (x ≡ f y)
map_some f None x is = absurd (cc (is))
map_some f (Some y) x is = (y, refl, sym (same_Some (f y) x is))

pub map_none : {X : Type 0} (f : X → X) (o : Option X) → option_map f o ≡ None → o ≡ None
map_none f None is = refl
map_none f (Some y) is = absurd (cc (is))

-- whether the row is the one that changes
abbrev pub if_itself : (Row → Row) → Silo → Silo → Row → Row
if_itself how silo q row = if is_at (silo_cmp silo) q then how row else row

pub found_after_change : (how : Row → Row) (silo q : Silo) (rows : List (Silo × Row))
    → found_row (changed how silo rows) q ≡ option_map (if_itself how silo q) (found_row rows q)
found_after_change how silo q rows = lookup-changed silo_cmp_total how silo q rows

-- the row of a silo other than the one that joins: it dies, if it is replaced
abbrev pub if_replaced : Option Silo → (version : ℕ) → Silo → Row → Row
if_replaced None version q row = row
if_replaced (Some old) version q row = if_itself (dying version) old q row

same_row : (o : Option Row) → o ≡ option_map (λ row. row) o
same_row None = refl
same_row (Some row) = refl

found_put : (silo : Silo) (version : ℕ) (rows : List (Silo × Row)) (q : Silo) → q ≢ silo
    → found_row (put_in silo version rows) q ≡ found_row rows q
found_put silo version rows q ne =
    lookup-insert_entry silo_cmp_total silo (joining version) q rows
    ∙ ap (λ b. cond b (Some (joining version)) (found_row rows q)) (apart q silo ne)

pub found_after_join : (silo : Silo) (version : ℕ) (rows : List (Silo × Row)) (q : Silo) → q ≢ silo
    → found_row (joined_rows silo version rows) q ≡ option_map (if_replaced (occupant silo rows) version q) (found_row rows q)
found_after_join silo version rows q ne = by (occupant silo rows)
  where
    by : (o : Option Silo) → found_row (without o version (put_in silo version rows)) q ≡ option_map (if_replaced o version q) (found_row rows q)
    by None = found_put silo version rows q ne ∙ same_row (found_row rows q)
    by (Some old) =
        found_after_change (dying version) old q (put_in silo version rows)
        ∙ ap (λ o. option_map (if_itself (dying version) old q) o) (found_put silo version rows q ne)

-- and that of the silo that joins, which isn't the one that it replaces
pub found_joined : (silo : Silo) (version : ℕ) (rows : List (Silo × Row)) → ((old : Silo) → occupant silo rows ≡ Some old → old ≢ silo)
    → found_row (joined_rows silo version rows) silo ≡ Some (joining version)
found_joined silo version rows other = by (occupant silo rows) refl
  where
    put : found_row (put_in silo version rows) silo ≡ Some (joining version)
    put =
        lookup-insert_entry silo_cmp_total silo (joining version) silo rows
        ∙ ap (λ r. cond (is_eq r) (Some (joining version)) (found_row rows silo)) (tied_itself silo_cmp_total silo)

    by : (o : Option Silo) → occupant silo rows ≡ o → found_row (without o version (put_in silo version rows)) silo ≡ Some (joining version)
    by None at = put
    by (Some old) at =
        found_after_change (dying version) old silo (put_in silo version rows)
        ∙ ap (λ o. option_map (if_itself (dying version) old silo) o) put
        ∙ ap (λ b. Some (if b then dying version (joining version) else joining version)) (apart old silo (other old at))

-- ---- what they read
-- a row that hadn't died, once it has
dying_reads : (made k : ℕ) (row : Row) → row.dead ≡ None
    → status_in k (dying made row) ≡ (if nat_le made k then Some Dead else status_in k row)
dying_reads made k row none = by (nat_le made k)
  where
    by : (b : Bool) → (if b then Some Dead else (if has_come row.left k then Some Leaving else (if nat_le row.joined k then Some Active else None)))
        ≡ (if b then Some Dead else status_in k row)
    by true = refl
    by false =
        sym (ap (λ d. if has_come d k then Some Dead else
        (if has_come row.left k then Some Leaving else (if nat_le row.joined k then Some Active else None))) none)

-- a row that hadn't left, once it has
leaving_reads : (made k : ℕ) (row : Row) → row.dead ≡ None → row.left ≡ None
    → status_in k (leaving made row) ≡ (if nat_le made k then Some Leaving else status_in k row)
leaving_reads made k row alive none =
    ap (λ d. if has_come d k then Some Dead else
    (if nat_le made k then Some Leaving else (if nat_le row.joined k then Some Active else None))) alive
    ∙ by (nat_le made k)
  where
    by : (b : Bool) → (if b then Some Leaving else (if nat_le row.joined k then Some Active else None))
        ≡ (if b then Some Leaving else status_in k row)
    by true = refl
    by false =
        sym (ap (λ d. if has_come d k then Some Dead else
        (if has_come row.left k then Some Leaving else (if nat_le row.joined k then Some Active else None))) alive
        ∙ ap (λ l. if has_come l k then Some Leaving else (if nat_le row.joined k then Some Active else None)) none)

none_too : (a b : Option ℕ) → is_none a ≡ is_none b → a ≡ None → b ≡ None
none_too a None same is = refl
none_too a (Some made) same is = let never : true ≡ false = sym (ap is_none is) ∙ same in absurd (cc (never))

pub dead_too : (first : ℕ) (row other : Row) → ReadsAs first row other → row.dead ≡ None → other.dead ≡ None
dead_too first row other reads none = none_too row.dead other.dead reads.lives none

pub dead_back : (first : ℕ) (row other : Row) → ReadsAs first row other → other.dead ≡ None → row.dead ≡ None
dead_back first row other reads none = none_too other.dead row.dead (sym reads.lives) none

pub dying_mirrors : (first made : ℕ) (row other : Row) → ReadsAs first row other → row.dead ≡ None
    → ReadsAs first (dying made row) (dying made other)
dying_mirrors first made row other reads none = record {
  statuses = λ k from.
      dying_reads made k row none ∙ ap (λ s. if nat_le made k then Some Dead else s) (reads.statuses k from)
      ∙ sym (dying_reads made k other (dead_too first row other reads none));
  later = elim reads.later [ inl early ↦ inl early | inr same ↦ inr (ap (dying made) same) ];
  lives = refl;
}

pub leaving_mirrors : (first made : ℕ) (row other : Row) → ReadsAs first row other → row.dead ≡ None → row.left ≡ None → other.left ≡ None
    → ReadsAs first (leaving made row) (leaving made other)
leaving_mirrors first made row other reads alive none other_none = record {
  statuses = λ k from.
      leaving_reads made k row alive none ∙ ap (λ s. if nat_le made k then Some Leaving else s) (reads.statuses k from)
      ∙ sym (leaving_reads made k other (dead_too first row other reads alive) other_none);
  later = elim reads.later [ inl early ↦ inl early | inr same ↦ inr (ap (leaving made) same) ];
  lives = reads.lives;
}

-- a change of one silo's row leaves others as they are
pub itself_mirrors : (first : ℕ) (how : Row → Row) (silo q : Silo) (row other : Row) → ReadsAs first row other
    → (silo ≡ q → ReadsAs first (how row) (how other)) → ReadsAs first (if_itself how silo q row) (if_itself how silo q other)
itself_mirrors first how silo q row other reads its = by (is_at (silo_cmp silo) q) refl
  where
    by : (b : Bool) → is_at (silo_cmp silo) q ≡ b → ReadsAs first (if b then how row else row) (if b then how other else other)
    by true at = its (silo_cmp_exact silo q (Equal-from (silo_cmp silo q) at))
    by false at = reads

pub itself_joined : (how : Row → Row) → ((row : Row) → (how row).joined ≡ row.joined) → (silo q : Silo) (row : Row)
    → (if_itself how silo q row).joined ≡ row.joined
itself_joined how same silo q row = by (is_at (silo_cmp silo) q)
  where
    by : (b : Bool) → (if b then how row else row).joined ≡ row.joined
    by true = same row
    by false = refl

-- A view that is told, by what begins with it.
use Rattle.std.proofs.Common.{arith, ◌≡◌, ℕ, ◌<◌, ◌≤◌, refl, ap, sym, ◌∙◌, Bool, true, false, List, [], ◌∷◌}
use Rattle.std.specs.Prelude.{◌&&◌, nat_lt, if◌then◌else◌, is_ok, is_some, IsOk, Option, Some, None, Result, Ok, Err}
use Rattle.std.specs.List.{list_all}
use Rattle.std.specs.BTreeMap.{insert_entry}
use Rattle.std.specs.Ordering.{match_ordering}
use Rattle.std.specs.declared.cmp.Ordering.{Ordering}
use Rattle.std.specs.declared.cmp.Ordering.TheVariants.{Less, Equal, Greater}
use Rattle.std.proofs.lemmas.Bool.Decides.{nat_tests}
use Rattle.std.proofs.lemmas.List.Folds.{list_all-map}
use Rattle.silo_address.specs.Silo.{Silo, silo_cmp}
use Rattle.silo_address.proofs.Order.{silo_cmp_exact}
use Rattle.membership_view.specs.declared.Row.{Row}
use Rattle.membership_view.specs.Beginning.{beginning}
use Rattle.membership_view.specs.Changes.{is_newest}
use Rattle.membership_view.specs.Views.{ViewsValue}
use Rattle.directory_rules.specs.declared.Listed.{Listed as Told}
use Rattle.directory_rules.specs.ListedModel.{all_listed_of, listed_of}
use Rattle.directory_rules.specs.Settings.{Settings}
use Rattle.directory_rules.specs.Membership.{Listed, Membership, begun, listed, listed_all, membership_from}
use Rattle.directory_node.specs.Follows.{RefusesBy}
use Rattle.silo_rules.specs.Begun.{told_view, unless_joined}
use Rattle.silo_rules.proofs.Begun.{has_begun, listed_is}
use Rattle.directory_silo.specs.Later.{all_let_join, lets_join, number_first}

-- ---- Whether the silo is the newest of its endpoint is told by the silos listed.
once : (a b : Bool) → (a && b) ≡ (a && (a && b))
once true b = refl
once false b = refl

swap : (a b c : Bool) → (a && (b && c)) ≡ (b && (a && c))
swap true b c = refl
swap false true c = refl
swap false false c = refl

in_front : (a b c : Bool) → (a && (b && c)) ≡ ((b && a) && c)
in_front true true c = refl
in_front true false c = refl
in_front false true c = refl
in_front false false c = refl

and_true : (b : Bool) → (b && true) ≡ b
and_true true = refl
and_true false = refl

-- whether all silos with a row pass a test
abbrev all_pass : (Silo → Bool) → List (Silo × Row) → Bool
all_pass p rows = list_all (λ e. p e.0) rows

put_in : (p : Silo → Bool) (silo : Silo) (row : Row) (rows : List (Silo × Row))
    → all_pass p (insert_entry silo_cmp rows silo row) ≡ (p silo && all_pass p rows)
put_in p silo row [] = refl
put_in p silo row (e ∷ es) = by (silo_cmp silo e.0) refl (put_in p silo row es)
  where
    by : (r : Ordering) → silo_cmp silo e.0 ≡ r → all_pass p (insert_entry silo_cmp es silo row) ≡ (p silo && all_pass p es)
        → all_pass p (match_ordering r ((silo, row) ∷ e ∷ es) ((e.0, row) ∷ es) (e ∷ insert_entry silo_cmp es silo row))
        ≡ (p silo && (p e.0 && all_pass p es))
    by Less at later = refl
    by Equal at later =
        once (p e.0) (all_pass p es) ∙ ap (λ (s : Silo). p s && (p e.0 && all_pass p es)) (sym (silo_cmp_exact silo e.0 at))
    by Greater at later = ap (λ b. p e.0 && b) later ∙ swap (p e.0) (p silo) (all_pass p es)

module _ (settings : Settings) (own : Silo) where
  newest_more : (m next : Membership) (one : Listed) → listed settings m one ≡ Ok next
      → is_newest own next.views.rows ≡ (lets_join own one.silo && is_newest own m.views.rows)
  newest_more m next one is =
      ap (λ (v : ViewsValue). is_newest own v.rows) (listed_is settings m next one is).viewed.is
      ∙ put_in (lets_join own) one.silo (beginning m.views.first one.status) m.views.rows

  newest_all : (m next : Membership) (rows : List Listed) → listed_all settings (Ok m) rows ≡ Ok next
      → is_newest own next.views.rows ≡ (all_let_join own rows && is_newest own m.views.rows)
  newest_all m next [] is = let same : m ≡ next = cc (is) in ap (λ (x : Membership). is_newest own x.views.rows) (sym same)
  newest_all m next (one ∷ rows) is = by (λ after. newest_all after next rows) (listed settings m one) refl is
    where
      by : ((after : Membership) → listed_all settings (Ok after) rows ≡ Ok next
          → is_newest own next.views.rows ≡ (all_let_join own rows && is_newest own after.views.rows))
          → (o : Result Membership ℕ) → listed settings m one ≡ o → listed_all settings o rows ≡ Ok next
          → is_newest own next.views.rows ≡ (all_let_join own (one ∷ rows) && is_newest own m.views.rows)
      by others (Err number) at h = absurd (cc (h))
      by others (Ok after) at h =
          others after h ∙ ap (λ b. all_let_join own rows && b) (newest_more m after one at)
          ∙ in_front (all_let_join own rows) (lets_join own one.silo) (is_newest own m.views.rows)

  newest_begun : (version : ℕ) (rows : List Listed) (made : Membership) → begun settings version rows ≡ Ok made
      → is_newest own made.views.rows ≡ all_let_join own rows
  newest_begun version rows made is =
      newest_all (membership_from settings version) made rows (has_begun settings version rows made is).all
      ∙ and_true (all_let_join own rows)

-- the silos as the code is told them
pub all_told : (own : Silo) (rows : List Told) → list_all (λ one. lets_join own one.silo) rows ≡ all_let_join own (all_listed_of rows)
all_told own rows = sym (list_all-map (λ (one : Listed). lets_join own one.silo) listed_of rows)

-- ---- The view that is told.
module _ (settings : Settings) (m : Membership) (own : Silo) (version : ℕ) (rows : List Listed) where
  view_by : (told : Bool) → nat_lt 0 m.views.version ≡ told
      → told_view settings m own version rows ≡ (if told then Err 211 else unless_joined own (begun settings version rows))
  view_by told is = ap (λ (b : Bool). if b then Err 211 else unless_joined own (begun settings version rows)) is

  pub told_before : 0 < m.views.version → told_view settings m own version rows ≡ Err 211
  told_before above = view_by true (grind (arith, nat_tests))

  module _ (nothing : m.views.version ≤ 0) where
    first_told : (outcome : Result Membership ℕ) → begun settings version rows ≡ outcome
        → told_view settings m own version rows ≡ unless_joined own outcome
    first_told outcome is = view_by false (grind (arith, nat_tests)) ∙ ap (unless_joined own) is

    -- the silo itself, or a newer one of its endpoint, is listed or isn't
    module _ (made : Membership) (is : begun settings version rows ≡ Ok made) where
      newest_by : (newest : Bool) → is_newest own made.views.rows ≡ newest
          → told_view settings m own version rows ≡ (if newest then Ok made else Err 201)
      newest_by newest at = first_told (Ok made) is ∙ ap (λ (b : Bool). if b then Ok made else Err 201) at

      pub itself_listed : is_newest own made.views.rows ≡ false → told_view settings m own version rows ≡ Err 201
      itself_listed = newest_by false

      pub view_taken : is_newest own made.views.rows ≡ true → told_view settings m own version rows ≡ Ok made
      view_taken = newest_by true

    -- it is refused as what begins with it; where memory ran out for that, nothing refuses it, but for 201
    pub view_refused : (number : Option ℕ) → RefusesBy IsOk number (begun settings version rows)
        → RefusesBy IsOk (number_first (all_let_join own rows) number) (told_view settings m own version rows)
    view_refused (Some number) refuses = first_told (Err number) refuses
    view_refused None ok = by (begun settings version rows) refl ok (all_let_join own rows) refl
      where
        by : (o : Result Membership ℕ) → begun settings version rows ≡ o → IsOk o → (all_let : Bool) → all_let_join own rows ≡ all_let
            → RefusesBy IsOk (number_first all_let None) (told_view settings m own version rows)
        by (Err number) at ok all_let is = absurd (cc (ok))
        by (Ok made) at ok true is =
            ap (λ (r : Result Membership ℕ). is_ok r) (view_taken made at (newest_begun settings own version rows made at ∙ is))
        by (Ok made) at ok false is = itself_listed made at (newest_begun settings own version rows made at ∙ is)

-- ---- Which refusal comes first.
pub memory_first : (all_let : Bool) (number : Option ℕ) → is_some number ≡ false → all_let ≡ true → number_first all_let number ≡ None
memory_first all_let (Some number) none all = absurd (cc (none))
memory_first all_let None none all = ap (λ (b : Bool). number_first b None) all

pub itself_first : (all_let : Bool) (number : Option ℕ) → is_some number ≡ false → all_let ≡ false → number_first all_let number ≡ Some 201
itself_first all_let (Some number) none some = absurd (cc (none))
itself_first all_let None none some = ap (λ (b : Bool). number_first b None) some

-- Members and items of JSON values, by how many there are, and values that are there or not.
use Rattle.std.proofs.Common.{◌≡◌, ◌≢◌, ℕ, eqb, cond, Bool, true, false, List, [], ◌∷◌, length, Option, Some, None, option_map, option_and_then, refl, sym, ◌∙◌, ap}
use Rattle.std.specs.Option.{ok_or}
use Rattle.std.proofs.lemmas.Bool.Decides.{Decides-eqb}
use Rattle.serde_json.specs.Data.{Data}
use Rattle.serde_json.specs.Events.{members_len}
use Rattle.serde_json.specs.Find.{as_array, as_object}
use Rattle.serde_json.specs.View.{items_view, members_view}
use Rattle.serde_json.specs.declared.value.Value.{Value}
use Rattle.serde_json.proofs.Views.{Entry, members_len-members_view}
use Rattle.dump_rules.specs.Values.{members_in, two_items, three_items}
use Rattle.dumps.specs.ReadAs.{IsReadingBy}
use Rattle.dumps.specs.declared.error.DumpError.TheVariants.{NotADump}

-- what stands there, or nothing
pub found_or_not : {A B : Type 0} (see : A → B) (found : Option A) (told : Option B) → option_map see found ≡ told
    → IsReadingBy see (ok_or found NotADump) told
found_or_not see None told is = sym is
found_or_not see (Some x) told is = sym is

eqb_apart : (a b : ℕ) → a ≢ b → eqb a b ≡ false
eqb_apart a b apart = by (eqb a b) refl
  where
    by : (t : Bool) → eqb a b ≡ t → eqb a b ≡ false
    by true same = absurd (apart ((Decides-eqb a b).0 same))
    by false other = other

-- an object with as many members, and one with another number of them
pub members_counted : (many : ℕ) (es : List Entry) (value : Data) → Some (members_view es) ≡ as_object value → length es ≡ many
    → members_in many value ≡ Some (members_view es)
members_counted many es value is so_many =
    rw (← is) (ap (λ t. cond t (Some (members_view es)) None)
    ((Decides-eqb (members_len (members_view es)) many).1 (members_len-members_view es ∙ so_many)))

pub members_miscounted : (many : ℕ) (es : List Entry) (value : Data) → Some (members_view es) ≡ as_object value → length es ≢ many
    → members_in many value ≡ None
members_miscounted many es value is apart =
    rw (← is) (ap (λ t. cond t (Some (members_view es)) None)
    (eqb_apart (members_len (members_view es)) many (λ same. apart (sym (members_len-members_view es) ∙ same))))

-- a list that has neither two items nor three
pub not_two : (values : List Value) (value : Data) → as_array value ≡ Some (items_view values) → length values ≢ 2
    → option_and_then two_items (as_array value) ≡ None
not_two values value is apart = rw is (by values apart)
  where
    by : (vs : List Value) → length vs ≢ 2 → two_items (items_view vs) ≡ None
    by [] other = refl
    by (one ∷ []) other = refl
    by (one ∷ two ∷ []) other = absurd (other refl)
    by (one ∷ two ∷ three ∷ rest) other = refl

pub not_three : (values : List Value) (value : Data) → as_array value ≡ Some (items_view values) → length values ≢ 3
    → option_and_then three_items (as_array value) ≡ None
not_three values value is apart = rw is (by values apart)
  where
    by : (vs : List Value) → length vs ≢ 3 → three_items (items_view vs) ≡ None
    by [] other = refl
    by (one ∷ []) other = refl
    by (one ∷ two ∷ []) other = refl
    by (one ∷ two ∷ three ∷ []) other = absurd (other refl)
    by (one ∷ two ∷ three ∷ four ∷ rest) other = refl

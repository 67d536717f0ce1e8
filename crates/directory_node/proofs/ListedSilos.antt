-- Silos that a view lists, one after the other: what makes each be listed, or refused.
use Rattle.std.proofs.Common.{◌≡◌, refl, sym, ap, ◌∙◌, ℕ, List, [], ◌∷◌, ◌++◌}
use Rattle.std.specs.Prelude.{Bool, true, false, cond, ◌==◌, ◌+◌, ◌<◌, nat_lt, length, take, drop, slice_index_or, IfNone, IsOk, is_ok, IsSomeAnd, Option, Some, None, Result, Ok, Err}
use Rattle.std.proofs.lemmas.Bool.{lt-ltb, ltb-true}
use Rattle.std.proofs.lemmas.List.{map-append, map_more, take-append-drop}
use Rattle.membership_view.specs.declared.Status.{Status}
use Rattle.membership_view.specs.declared.Status.TheVariants.{Active, Leaving, Dead}
use Rattle.membership_view.specs.Beginning.{after_listing}
use Rattle.membership_view.specs.Views.{ViewsValue, most_known, views_from}
use Rattle.hash_ring.specs.Places.{PlacesValue}
use Rattle.directory_rules.proofs.Cases.{on_bool}
use Rattle.directory_rules.specs.Settings.{Settings}
use Rattle.directory_rules.specs.ListedModel.{all_listed_of, listed_of}
use Rattle.directory_rules.specs.declared.Listed.{Listed as Told}
use Rattle.directory_rules.specs.Membership.{Listed, Membership, begun, listed, listed_all, listed_by, membership_from, placed, with_places}
use Rattle.node_plans.specs.Follows.{RefusesBy}
use Rattle.directory_node.specs.MembershipModel.{MayBeListed, RefusesPlaces, places_by, places_of_listed}

-- a refusal with a number isn't out of memory
pub has_number : (P : ℕ → Type 0) (number : Option ℕ) (Unnumbered : Type 0) → IsSomeAnd number P → IfNone number Unnumbered
has_number P None Unnumbered none = absurd none
has_number P (Some n) Unnumbered some = tt

-- ---- the places of one that is listed
added_is : (over : Bool) (added : Result PlacesValue ℕ) (new : PlacesValue) → IsOk (cond over (Err 402) added) → added ≡ Ok new
    → cond over (Err 402) added ≡ Ok new
added_is true added new may is = absurd (cc (may))
added_is false added new may is = is

-- ---- one silo is listed, or refused
abbrev both : ViewsValue → PlacesValue → Membership
both views places = record { views = views; places = places }

pub by_views : (status : Status) (number : ℕ) (settings : Settings) (places : PlacesValue) (one : Listed)
    → listed_by status (Err number) settings places one.silo one.places ≡ Err number
by_views Active number settings places one = refl
by_views Leaving number settings places one = refl
by_views Dead number settings places one = refl

pub refused_by_views : (number : Option ℕ) (settings : Settings) (m : Membership) (one : Listed)
    → IsSomeAnd number (λ n. (status : Status) → after_listing m.views one.silo status ≡ Err n)
    → RefusesBy IsOk number (listed settings m one)
refused_by_views None settings m one refused = absurd refused
refused_by_views (Some n) settings m one refused =
    ap (λ views. listed_by one.status views settings m.places one.silo one.places) (refused one.status)
    ∙ by_views one.status n settings m.places one

by_places : (status : Status) (views : ViewsValue) (settings : Settings) (places new : PlacesValue) (one : Listed)
    → places_by status settings places one.silo one.places ≡ Ok new
    → listed_by status (Ok views) settings places one.silo one.places ≡ Ok (both views new)
by_places Active views settings places new one is = ap (λ p. with_places p views) is
by_places Leaving views settings places new one is = ap (λ p. with_places p views) is
by_places Dead views settings places new one is =
    on_bool (λ b. cond {A = Result PlacesValue ℕ} b (Ok places) (Err 402) ≡ Ok new
    → cond {A = Result Membership ℕ} b (Ok (both views places)) (Err 402) ≡ Ok (both views new))
    (length one.places == 0)
    (λ t so. let same : places ≡ new = cc (so) in ap (λ (p : PlacesValue). Ok (both views p)) same)
    (λ f so. absurd (cc (so))) is

pub listed_is : (settings : Settings) (m : Membership) (one : Listed) (views : ViewsValue) (places : PlacesValue)
    → after_listing m.views one.silo one.status ≡ Ok views → places_of_listed settings m.places one ≡ Ok places
    → listed settings m one ≡ Ok (record { views = views; places = places })
listed_is settings m one views places lists placed =
    ap (λ v. listed_by one.status v settings m.places one.silo one.places) lists
    ∙ by_places one.status views settings m.places places one placed

by_refusal : (status : Status) (views : ViewsValue) (settings : Settings) (places : PlacesValue) (one : Listed) (number : ℕ)
    → places_by status settings places one.silo one.places ≡ Err number
    → listed_by status (Ok views) settings places one.silo one.places ≡ Err number
by_refusal Active views settings places one number is = ap (λ p. with_places p views) is
by_refusal Leaving views settings places one number is = ap (λ p. with_places p views) is
by_refusal Dead views settings places one number is =
    on_bool (λ b. cond {A = Result PlacesValue ℕ} b (Ok places) (Err 402) ≡ Err number
    → cond {A = Result Membership ℕ} b (Ok (both views places)) (Err 402) ≡ Err number)
    (length one.places == 0) (λ t so. absurd (cc (so)))
    (λ f so. let same : 402 ≡ number = cc (so) in ap (λ n. Err n) same) is

pub refused_by_places : (number : Option ℕ) (settings : Settings) (m : Membership) (one : Listed) (views : ViewsValue)
    → after_listing m.views one.silo one.status ≡ Ok views → IsSomeAnd number (RefusesPlaces settings m.places one)
    → RefusesBy IsOk number (listed settings m one)
refused_by_places None settings m one views lists refused = absurd refused
refused_by_places (Some n) settings m one views lists refused =
    ap (λ v. listed_by one.status v settings m.places one.silo one.places) lists
    ∙ by_refusal one.status views settings m.places one n refused

pub may_be_listed : (settings : Settings) (m : Membership) (one : Listed) (views : ViewsValue)
    → after_listing m.views one.silo one.status ≡ Ok views → MayBeListed settings m.places one → IsOk (listed settings m one)
may_be_listed settings m one views lists may = by (places_of_listed settings m.places one) refl may
  where
    by : (places : Result PlacesValue ℕ) → places_of_listed settings m.places one ≡ places → IsOk places → IsOk (listed settings m one)
    by (Ok places) is may = ap (λ (r : Result Membership ℕ). is_ok r) (listed_is settings m one views places lists is)
    by (Err number) is may = absurd (cc (may))

-- ---- one after the other
pub refuses_by : {A : Type 0} (excused : Result A ℕ → Type 0) (number : Option ℕ) (outcome : Result A ℕ)
    → IsSomeAnd number (λ n. outcome ≡ Err n) → RefusesBy excused number outcome
refuses_by excused None outcome refused = absurd refused
refuses_by excused (Some n) outcome refused = refused

pub some_weaker : (number : Option ℕ) (P Q : ℕ → Type 0) → ((n : ℕ) → P n → Q n) → IsSomeAnd number P → IsSomeAnd number Q
some_weaker None P Q weaker some = some
some_weaker (Some n) P Q weaker some = weaker n some

pub before_any : (settings : Settings) (version : ℕ) → (¬ (version < most_known) → ⊥)
    → begun settings version [] ≡ Ok (membership_from settings version)
before_any settings version early =
    on_bool (λ b. nat_lt version most_known ≡ b → cond {A = Result Membership ℕ} b (Ok (membership_from settings version)) (Err 210) ≡ Ok (membership_from settings version))
    (nat_lt version most_known) (λ t is. refl)
    (λ f is. absurd (early (λ below. cc (sym (lt-ltb version most_known below) ∙ is)))) refl

-- so it is in what the code begins with
pub begun_so : (settings : Settings) (version : ℕ) (views : ViewsValue) (places : PlacesValue) → (¬ (version < most_known) → ⊥)
    → views ≡ views_from settings.silos version
    → places ≡ record { hashing = settings.hashing; points = settings.points; entries = [] }
    → begun settings version [] ≡ Ok (both views places)
begun_so settings version views places early views_are places_are =
    before_any settings version early
    ∙ ap (λ (v : ViewsValue). Ok (both v (record { hashing = settings.hashing; points = settings.points; entries = [] }))) (sym views_are)
    ∙ ap (λ (p : PlacesValue). Ok (both views p)) (sym places_are)

pub too_late : (settings : Settings) (version : ℕ) → ¬ (version < most_known) → begun settings version [] ≡ Err 210
too_late settings version late =
    on_bool (λ b. nat_lt version most_known ≡ b → cond {A = Result Membership ℕ} b (Ok (membership_from settings version)) (Err 210) ≡ Err 210)
    (nat_lt version most_known) (λ t is. absurd (late (ltb-true version most_known is))) (λ f is. refl) refl

pub refused_all : (settings : Settings) (number : ℕ) (rows : List Listed) → listed_all settings (Err number) rows ≡ Err number
refused_all settings number [] = refl
refused_all settings number (one ∷ rows) = refl

none_more : (settings : Settings) (so_far : Result Membership ℕ) → listed_all settings so_far [] ≡ so_far
none_more settings (Err number) = refl
none_more settings (Ok m) = refl

all_more : (settings : Settings) (so_far : Result Membership ℕ) (front behind : List Listed)
    → listed_all settings so_far (front ++ behind) ≡ listed_all settings (listed_all settings so_far front) behind
all_more settings so_far [] behind = ap (λ r. listed_all settings r behind) (sym (none_more settings so_far))
all_more settings (Err number) (one ∷ front) behind = refused_all settings number (one ∷ (front ++ behind)) ∙ sym (refused_all settings number behind)
all_more settings (Ok m) (one ∷ front) behind = all_more settings (listed settings m one) front behind

begun_more : (settings : Settings) (version : ℕ) (front behind : List Listed)
    → begun settings version (front ++ behind) ≡ listed_all settings (begun settings version front) behind
begun_more settings version front behind =
    on_bool (λ b. cond b (listed_all settings (Ok (membership_from settings version)) (front ++ behind)) (Err 210)
    ≡ listed_all settings (cond b (listed_all settings (Ok (membership_from settings version)) front) (Err 210)) behind)
    (nat_lt version most_known) (λ t. all_more settings (Ok (membership_from settings version)) front behind)
    (λ f. sym (refused_all settings 210 behind))

-- and one more
pub begun_next : (settings : Settings) (version : ℕ) (front : List Listed) (m : Membership) (one : Listed)
    → begun settings version front ≡ Ok m → begun settings version (front ++ one ∷ []) ≡ listed settings m one
begun_next settings version front m one is =
    begun_more settings version front (one ∷ []) ∙ ap (λ r. listed_all settings r (one ∷ [])) is ∙ none_more settings (listed settings m one)

-- where one is refused, so are all
stops_at : (number : ℕ) (settings : Settings) (version : ℕ) (front behind : List Listed) → begun settings version front ≡ Err number
    → begun settings version (front ++ behind) ≡ Err number
stops_at number settings version front behind refused =
    begun_more settings version front behind ∙ ap (λ r. listed_all settings r behind) refused ∙ refused_all settings number behind

-- ---- the same of what the code is told
module _ (rows : List Told) (index : ℕ) (one : Told) (below : index < length rows) (its : one ≡ slice_index_or rows index one) where
  pub with_one : all_listed_of (take (index + 1) rows) ≡ all_listed_of (take index rows) ++ listed_of one ∷ []
  with_one =
      map_more listed_of rows index one below ∙ ap (λ (t : Told). all_listed_of (take index rows) ++ listed_of t ∷ []) (sym its)

  in_parts : all_listed_of rows ≡ (all_listed_of (take index rows) ++ listed_of one ∷ []) ++ all_listed_of (drop (index + 1) rows)
  in_parts =
      ap all_listed_of (sym (take-append-drop (index + 1) rows))
      ∙ map-append listed_of (take (index + 1) rows) (drop (index + 1) rows)
      ∙ ap (λ l. l ++ all_listed_of (drop (index + 1) rows)) with_one

  module _ (settings : Settings) (version : ℕ) where
    pub all_stop : (number : ℕ) → begun settings version (all_listed_of (take index rows) ++ listed_of one ∷ []) ≡ Err number
        → begun settings version (all_listed_of rows) ≡ Err number
    all_stop number refused =
        ap (λ l. begun settings version l) in_parts
        ∙ stops_at number settings version (all_listed_of (take index rows) ++ listed_of one ∷ []) (all_listed_of (drop (index + 1) rows)) refused

    module _ (m : Membership) (is : begun settings version (all_listed_of (take index rows)) ≡ Ok m) where
      pub told_next : (next : Membership) → listed settings m (listed_of one) ≡ Ok next
          → begun settings version (all_listed_of (take (index + 1) rows)) ≡ Ok next
      told_next next made =
          ap (λ l. begun settings version l) with_one
          ∙ begun_next settings version (all_listed_of (take index rows)) m (listed_of one) is ∙ made

      -- one that isn't refused may have found no memory, where none is refused
      pub told_stops : (number : Option ℕ) → RefusesBy IsOk number (listed settings m (listed_of one))
          → IsOk (begun settings version (all_listed_of rows)) → RefusesBy IsOk number (begun settings version (all_listed_of rows))
      told_stops None may all = all
      told_stops (Some number) refused all =
          all_stop number (begun_next settings version (all_listed_of (take index rows)) m (listed_of one) is ∙ refused)

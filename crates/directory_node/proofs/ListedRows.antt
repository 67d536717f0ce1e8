-- What is known once silos were listed, as far as one more silo is judged by it.
use Rattle.std.proofs.Common.{◌≡◌, ◌≢◌, ◌<◌, ◌≤◌, ◌⊎◌, inl, inr, refl, sym, subst, ap, ◌∙◌, ℕ, List, [], ◌∷◌, ◌++◌, append_assoc, append-nil, arith}
use Rattle.std.specs.Prelude.{Bool, true, false, cond, ◌==◌, ◌||◌, not, nat_lt, length, IsOk, IsSomeAnd, is_ok, is_some, Option, Some, None, Result, Ok, Err}
use Rattle.std.specs.List.{list_any}
use Rattle.std.specs.Map.{lookup}
use Rattle.std.specs.BTreeMap.{is_at, insert_entry}
use Rattle.std.specs.Ordering.{match_ordering}
use Rattle.std.specs.declared.cmp.Ordering.{Ordering}
use Rattle.std.specs.declared.cmp.Ordering.TheVariants.{Less, Equal, Greater}
use Rattle.std.proofs.Math.Bool.{or_self_left}
use Rattle.std.proofs.lemmas.Bool.{false_from_ne_true, lt-ltb, or_left, or_right}
use Rattle.std.proofs.lemmas.Bool.Decides.{nat_tests}
use Rattle.std.proofs.lemmas.List.{length-append, length-map}
use Rattle.std.proofs.lemmas.List.Folds.{list_any-append}
use Rattle.texts.proofs.Orderings.{Equal-from}
use Rattle.texts.proofs.Entries.{length-insert_entry, lookup-insert_entry}
use Rattle.silo_address.specs.Silo.{Silo, silo_cmp}
use Rattle.silo_address.proofs.Order.{silo_cmp_exact, silo_cmp_total}
use Rattle.membership_view.specs.declared.Row.{Row}
use Rattle.membership_view.specs.declared.Status.{Status}
use Rattle.membership_view.specs.declared.Status.TheVariants.{Active, Leaving, Dead}
use Rattle.membership_view.specs.Beginning.{after_listing, beginning, is_known_endpoint, with_listed}
use Rattle.membership_view.specs.View.{shares_endpoint}
use Rattle.membership_view.specs.Views.{ViewsValue, most_known}
use Rattle.membership_view.proofs.Beginnings.{IsListing, listing_is}
use Rattle.membership_view.proofs.KnownEndpoint.{known_endpoint}
use Rattle.membership_view.proofs.Order.{shares_itself}
use Rattle.membership_view.proofs.SameEndpoint.{found_row}
use Rattle.hash_ring.specs.Places.{PlacesValue, is_added, places_for, with_silo}
use Rattle.directory_rules.proofs.Cases.{on_bool}
use Rattle.directory_rules.specs.Settings.{Settings}
use Rattle.directory_rules.specs.ListedModel.{all_listed_of, listed_of}
use Rattle.directory_rules.specs.declared.Listed.{Listed as Told}
use Rattle.directory_rules.specs.Membership.{Listed, Membership, begun, listed, listed_all, listed_by, membership_from, placed, with_places}
use Rattle.directory_node.specs.MembershipModel.{count_refused_by}
use Rattle.directory_node.proofs.ListedSilos.{begun_next, by_views, may_be_listed, refused_all, refused_by_places, refused_by_views, some_weaker}
use Rattle.directory_node.proofs.StatedPlaces.{listed_new, not_listed, placed_is}

-- a silo of that endpoint is listed
abbrev pub is_listed_endpoint : Silo → List Listed → Bool
is_listed_endpoint silo front = list_any (λ one. shares_endpoint silo one.silo) front

-- these silos were listed
pub record AreListed (settings : Settings) (version : ℕ) (front : List Listed) (m : Membership) : Type 0 where
  pub first : m.views.first ≡ version
  pub limit : m.views.limit ≡ settings.silos
  pub count : length m.views.rows ≡ length front
  pub known : (silo : Silo) → is_known_endpoint silo m.views.rows ≡ is_listed_endpoint silo front
  pub hashing : m.places.hashing ≡ settings.hashing
  pub added : (silo : Silo) → is_added m.places silo ≡ true → is_known_endpoint silo m.views.rows ≡ true

-- ---- entries with one more
or_swap : (a b c : Bool) → (a || (b || c)) ≡ (b || (a || c))
or_swap false b c = refl
or_swap true true c = refl
or_swap true false c = refl

or_last : (a b : Bool) → (a || b) ≡ (b || (a || false))
or_last false b = by b
  where
    by : (b : Bool) → b ≡ (b || false)
    by true = refl
    by false = refl
or_last true true = refl
or_last true false = refl

any_put : {X : Type 0} (test : Silo → Bool) (silo : Silo) (row : X) (rows : List (Silo × X))
    → list_any (λ x. test x.0) (insert_entry silo_cmp rows silo row) ≡ (test silo || list_any (λ x. test x.0) rows)
any_put test silo row [] = refl
any_put test silo row (e ∷ es) = by (silo_cmp silo e.0) refl (any_put test silo row es)
  where
    by : (r : Ordering) → silo_cmp silo e.0 ≡ r
        → list_any (λ x. test x.0) (insert_entry silo_cmp es silo row) ≡ (test silo || list_any (λ x. test x.0) es)
        → list_any (λ x. test x.0) (match_ordering r ((silo, row) ∷ e ∷ es) ((e.0, row) ∷ es) (e ∷ insert_entry silo_cmp es silo row))
        ≡ (test silo || (test e.0 || list_any (λ x. test x.0) es))
    by Less at later = refl
    by Equal at later =
        sym (or_self_left (test e.0) (list_any (λ x. test x.0) es))
        ∙ ap (λ (k : Silo). test k || (test e.0 || list_any (λ x. test x.0) es)) (sym (silo_cmp_exact silo e.0 at))
    by Greater at later =
        ap (λ b. test e.0 || b) later ∙ or_swap (test e.0) (test silo) (list_any (λ x. test x.0) es)

no_row : (silo : Silo) (rows : List (Silo × Row)) → is_known_endpoint silo rows ≡ false → found_row rows silo ≡ None
no_row silo rows apart = by (found_row rows silo) refl
  where
    by : (o : Option Row) → found_row rows silo ≡ o → found_row rows silo ≡ None
    by None at = at
    by (Some row) at = absurd (let yes = known_endpoint silo silo rows row at (shares_itself silo) in cc (yes, apart))

put_before : (q silo : Silo) (list : List ℕ) (entries : List (Silo × List ℕ))
    → is_some (lookup (is_at (silo_cmp q)) (insert_entry silo_cmp entries silo list)) ≡ true
    → (q ≡ silo) ⊎ (is_some (lookup (is_at (silo_cmp q)) entries) ≡ true)
put_before q silo list entries is =
    by (is_at (silo_cmp q) silo) refl
    (sym (ap (λ (o : Option (List ℕ)). is_some o) (lookup-insert_entry silo_cmp_total silo list q entries)) ∙ is)
  where
    by : (b : Bool) → is_at (silo_cmp q) silo ≡ b → is_some (cond b (Some list) (lookup (is_at (silo_cmp q)) entries)) ≡ true
        → (q ≡ silo) ⊎ (is_some (lookup (is_at (silo_cmp q)) entries) ≡ true)
    by true at is = inl (silo_cmp_exact q silo (Equal-from (silo_cmp q silo) at))
    by false at is = inr is

added_before : (places : PlacesValue) (silo : Silo) (stated : List ℕ) (q : Silo) → is_added (with_silo places silo stated) q ≡ true
    → (q ≡ silo) ⊎ (is_added places q ≡ true)
added_before places silo stated q = put_before q silo (places_for places.hashing places.points silo stated) places.entries

-- ---- one that is listed
record IsNext (m : Membership) (one : Listed) (next : Membership) : Type 0 where
  views : after_listing m.views one.silo one.status ≡ Ok next.views
  hashing : next.places.hashing ≡ m.places.hashing
  added : (silo : Silo) → is_added next.places silo ≡ true → (silo ≡ one.silo) ⊎ (is_added m.places silo ≡ true)

next_is : (settings : Settings) (m : Membership) (one : Listed) (next : Membership) → listed settings m one ≡ Ok next → IsNext m one next
next_is settings m one next = by_listing (after_listing m.views one.silo one.status) refl
  where
    by_placing : (views : ViewsValue) → after_listing m.views one.silo one.status ≡ Ok views → (p : Result PlacesValue ℕ)
        → placed settings m.places one.silo one.places ≡ p → with_places p views ≡ Ok next → IsNext m one next
    by_placing views at (Err number) placed_so is = absurd (cc (is))
    by_placing views at (Ok places) placed_so is =
        let made : Membership = record { views = views; places = places } in
        let same : made ≡ next = cc (is) in
        let with : places ≡ with_silo m.places one.silo one.places = placed_is settings m.places one.silo one.places places placed_so in
        let its : next.places ≡ with_silo m.places one.silo one.places = ap (λ (n : Membership). n.places) (sym same) ∙ with in
        record {
          views = at ∙ ap (λ (n : Membership). Ok n.views) same;
          hashing = ap (λ (p : PlacesValue). p.hashing) its;
          added = λ silo yes. added_before m.places one.silo one.places silo (ap (λ (p : PlacesValue). is_added p silo) (sym its) ∙ yes);
        }

    by_none : (views : ViewsValue) → after_listing m.views one.silo one.status ≡ Ok views → (none : Bool)
        → cond {A = Result Membership ℕ} none (Ok (record { views = views; places = m.places })) (Err 402) ≡ Ok next → IsNext m one next
    by_none views at false is = absurd (cc (is))
    by_none views at true is =
        let made : Membership = record { views = views; places = m.places } in
        let same : made ≡ next = cc (is) in
        let its : next.places ≡ m.places = ap (λ (n : Membership). n.places) (sym same) in
        record {
          views = at ∙ ap (λ (n : Membership). Ok n.views) same;
          hashing = ap (λ (p : PlacesValue). p.hashing) its;
          added = λ silo yes. inr (ap (λ (p : PlacesValue). is_added p silo) (sym its) ∙ yes);
        }

    by_status : (status : Status) (views : ViewsValue) → after_listing m.views one.silo one.status ≡ Ok views
        → listed_by status (Ok views) settings m.places one.silo one.places ≡ Ok next → IsNext m one next
    by_status Active views at is = by_placing views at (placed settings m.places one.silo one.places) refl is
    by_status Leaving views at is = by_placing views at (placed settings m.places one.silo one.places) refl is
    by_status Dead views at is = by_none views at (length one.places == 0) is

    by_listing : (views : Result ViewsValue ℕ) → after_listing m.views one.silo one.status ≡ views
        → listed_by one.status views settings m.places one.silo one.places ≡ Ok next → IsNext m one next
    by_listing (Err number) at is = absurd (cc (is, by_views one.status number settings m.places one))
    by_listing (Ok views) at is = by_status one.status views at is

-- ---- and so all
module _ (settings : Settings) (version : ℕ) (front : List Listed) (m : Membership) (one : Listed) (next : Membership)
    (had : AreListed settings version front m) (its : IsNext m one next) where
  listing : IsListing m.views one.silo one.status next.views
  listing = listing_is m.views one.silo one.status next.views its.views

  knows_more : (silo : Silo) → is_known_endpoint silo next.views.rows ≡ (shares_endpoint silo one.silo || is_known_endpoint silo m.views.rows)
  knows_more silo =
      ap (λ (v : ViewsValue). is_known_endpoint silo v.rows) listing.is
      ∙ any_put (shares_endpoint silo) one.silo (beginning m.views.first one.status) m.views.rows

  more_are : AreListed settings version (front ++ one ∷ []) next
  more_are = record {
    first = ap (λ (v : ViewsValue). v.first) listing.is ∙ had.first;
    limit = ap (λ (v : ViewsValue). v.limit) listing.is ∙ had.limit;
    count =
        let so_many = ap (λ (v : ViewsValue). length v.rows) listing.is in
        let longer = length-insert_entry silo_cmp_total one.silo (beginning m.views.first one.status) m.views.rows (no_row one.silo m.views.rows listing.apart) in
        let before = had.count in
        let all = length-append front (one ∷ []) in
        omega (so_many, longer, before, all, arith);
    known = λ silo.
        knows_more silo ∙ ap (λ b. shares_endpoint silo one.silo || b) (had.known silo)
        ∙ or_last (shares_endpoint silo one.silo) (is_listed_endpoint silo front)
        ∙ sym (list_any-append (λ x. shares_endpoint silo x.silo) front (one ∷ []));
    hashing = its.hashing ∙ had.hashing;
    added = λ silo yes. elim (its.added silo yes) [
      | inl same ↦ knows_more silo ∙ or_left (shares_endpoint silo one.silo) (is_known_endpoint silo m.views.rows)
          (ap (λ k. shares_endpoint silo k) (sym same) ∙ shares_itself silo)
      | inr before ↦ knows_more silo ∙ or_right (shares_endpoint silo one.silo) (is_known_endpoint silo m.views.rows) (had.added silo before)
    ];
  }

all_listed : (settings : Settings) (version : ℕ) (rest front : List Listed) (m last : Membership) → AreListed settings version front m
    → listed_all settings (Ok m) rest ≡ Ok last → AreListed settings version (front ++ rest) last
all_listed settings version [] front m last had is =
    let same : m ≡ last = cc (is) in
    subst (λ l. AreListed settings version l last) (sym (append-nil front)) (subst (λ n. AreListed settings version front n) same had)
all_listed settings version (one ∷ rest) front m last had is =
    by (listed settings m one) refl is (λ next. all_listed settings version rest (front ++ one ∷ []) next last)
  where
    by : (r : Result Membership ℕ) → listed settings m one ≡ r → listed_all settings r rest ≡ Ok last
        → ((next : Membership) → AreListed settings version (front ++ one ∷ []) next → listed_all settings (Ok next) rest ≡ Ok last
        → AreListed settings version ((front ++ one ∷ []) ++ rest) last)
        → AreListed settings version (front ++ one ∷ rest) last
    by (Err number) at so later = absurd (cc (so, refused_all settings number rest))
    by (Ok next) at so later =
        subst (λ l. AreListed settings version l last) (append_assoc front (one ∷ []) rest)
        (later next (more_are settings version front m one next had (next_is settings m one next at)) so)

none_listed : (settings : Settings) (version : ℕ) → AreListed settings version [] (membership_from settings version)
none_listed settings version = record {
  first = refl;
  limit = refl;
  count = refl;
  known = λ silo. refl;
  hashing = refl;
  added = λ silo yes. absurd (cc (yes));
}

are_listed : (settings : Settings) (version : ℕ) (front : List Listed) (m : Membership) → begun settings version front ≡ Ok m
    → AreListed settings version front m
are_listed settings version front m =
    on_bool (λ b. cond b (listed_all settings (Ok (membership_from settings version)) front) (Err 210) ≡ Ok m → AreListed settings version front m)
    (nat_lt version most_known)
    (λ t is. all_listed settings version front [] (membership_from settings version) m (none_listed settings version) is)
    (λ f is. absurd (cc (is)))

-- ---- what becomes of one more
made_by : {A : Type 0} (r : Result A ℕ) → IsOk r → (x : A) × (r ≡ Ok x)
made_by (Ok x) is = (x, refl)
made_by (Err number) is = absurd (cc (is))

module _ (settings : Settings) (version : ℕ) (front : List Listed) (one : Listed) (is : IsOk (begun settings version front)) where
  abbrev m : Membership
  m = (made_by (begun settings version front) is).0

  made : begun settings version front ≡ Ok m
  made = (made_by (begun settings version front) is).1

  had : AreListed settings version front m
  had = are_listed settings version front m made

  abbrev is_barred : Bool
  is_barred = (version == 0) || is_listed_endpoint one.silo front

  barred : ((m.views.first == 0) || is_known_endpoint one.silo m.views.rows) ≡ is_barred
  barred = ap (λ f. (f == 0) || is_known_endpoint one.silo m.views.rows) had.first ∙ ap (λ b. (version == 0) || b) (had.known one.silo)

  has_room : nat_lt (length m.views.rows) m.views.limit ≡ nat_lt (length front) settings.silos
  has_room = ap (λ n. nat_lt n m.views.limit) had.count ∙ ap (λ n. nat_lt (length front) n) had.limit

  abbrev listing_by : Status → (bars room : Bool) → Result ViewsValue ℕ
  listing_by status bars room = cond bars (Err 210) (cond (not room) (Err 205) (Ok (with_listed m.views one.silo status)))

  judged : (status : Status) → after_listing m.views one.silo status ≡ listing_by status is_barred (nat_lt (length front) settings.silos)
  judged status =
      ap (λ b. listing_by status b (nat_lt (length m.views.rows) m.views.limit)) barred ∙ ap (λ b. listing_by status is_barred b) has_room

  next : begun settings version (front ++ one ∷ []) ≡ listed settings m one
  next = begun_next settings version front m one made

  pub not_listable : is_barred ≡ true → begun settings version (front ++ one ∷ []) ≡ Err 210
  not_listable bars =
      next ∙ refused_by_views (Some 210) settings m one
      (λ status. judged status ∙ ap (λ b. listing_by status b (nat_lt (length front) settings.silos)) bars)

  module _ (free : is_barred ≡ false) where
    by_room : (room : Bool) → nat_lt (length front) settings.silos ≡ room → (status : Status)
        → after_listing m.views one.silo status ≡ listing_by status false room
    by_room room at status =
        judged status ∙ ap (λ b. listing_by status b (nat_lt (length front) settings.silos)) free ∙ ap (λ b. listing_by status false b) at

    pub rows_full : nat_lt (length front) settings.silos ≡ false → begun settings version (front ++ one ∷ []) ≡ Err 205
    rows_full full = next ∙ refused_by_views (Some 205) settings m one (by_room false full)

    module _ (room : nat_lt (length front) settings.silos ≡ true) where
      lists : after_listing m.views one.silo one.status ≡ Ok (with_listed m.views one.silo one.status)
      lists = by_room true room one.status

      abbrev count_by : Settings → Option ℕ
      count_by s = count_refused_by one.status settings s.hashing (length one.places)

      its_count : count_refused_by one.status settings m.places.hashing (length one.places) ≡ count_by settings
      its_count = ap (λ h. count_refused_by one.status settings h (length one.places)) had.hashing

      pub places_refused : (number : ℕ) → count_by settings ≡ Some number → begun settings version (front ++ one ∷ []) ≡ Err number
      places_refused number refused =
          next ∙ refused_by_places (Some number) settings m one (with_listed m.views one.silo one.status) lists
          (not_listed settings m.places one number (its_count ∙ refused))

      -- whoever has places is known, and nobody of its endpoint is
      new : is_added m.places one.silo ≡ false
      new =
          false_from_ne_true (is_added m.places one.silo)
          (λ yes. let known = sym barred_known ∙ had.added one.silo yes in cc (known))
        where
          unknown : (a b : Bool) → (a || b) ≡ false → b ≡ false
          unknown true b is = absurd (cc (is))
          unknown false b is = is

          barred_known : is_known_endpoint one.silo m.views.rows ≡ false
          barred_known = had.known one.silo ∙ unknown (version == 0) (is_listed_endpoint one.silo front) free

      pub may_be : count_by settings ≡ None → IsOk (begun settings version (front ++ one ∷ []))
      may_be fit =
          ap (λ (r : Result Membership ℕ). is_ok r) next
          ∙ may_be_listed settings m one (with_listed m.views one.silo one.status) lists
          (listed_new settings m.places one (its_count ∙ fit) new)

-- ---- the same of what the code is told
pub any_listed : (silo : Silo) (rows : List Told) → is_listed_endpoint silo (all_listed_of rows) ≡ list_any (λ one. shares_endpoint silo one.silo) rows
any_listed silo [] = refl
any_listed silo (one ∷ rows) = ap (λ b. shares_endpoint silo one.silo || b) (any_listed silo rows)

pub zero_barred : (version : ℕ) (listed : Bool) → version ≡ 0 → ((version == 0) || listed) ≡ true
zero_barred version listed zero = ap (λ (v : ℕ). (v == 0) || listed) zero

free_by : (zero listed : Bool) → zero ≡ false → listed ≡ false → (zero || listed) ≡ false
free_by zero listed later apart = ap (λ b. b || listed) later ∙ apart

module _ (settings : Settings) (version : ℕ) (front : List Told) (one : Told) (is : IsOk (begun settings version (all_listed_of front))) where
  pub barred_by_version : version ≡ 0 → begun settings version (all_listed_of front ++ listed_of one ∷ []) ≡ Err 210
  barred_by_version zero =
      not_listable settings version (all_listed_of front) (listed_of one) is
      (zero_barred version (is_listed_endpoint one.silo (all_listed_of front)) zero)

  pub barred_by_endpoint : list_any (λ o. shares_endpoint one.silo o.silo) front ≡ true
      → begun settings version (all_listed_of front ++ listed_of one ∷ []) ≡ Err 210
  barred_by_endpoint shares =
      not_listable settings version (all_listed_of front) (listed_of one) is
      (or_right (version == 0) (is_listed_endpoint one.silo (all_listed_of front)) (any_listed one.silo front ∙ shares))

  module _ (later : version ≢ 0) (apart : list_any (λ o. shares_endpoint one.silo o.silo) front ≡ false) where
    free : ((version == 0) || is_listed_endpoint one.silo (all_listed_of front)) ≡ false
    free =
        free_by (version == 0) (is_listed_endpoint one.silo (all_listed_of front)) (grind (arith, nat_tests, later))
        (any_listed one.silo front ∙ apart)

    so_many : length (all_listed_of front) ≡ length front
    so_many = length-map front listed_of

    pub barred_by_room : settings.silos ≤ length front → begun settings version (all_listed_of front ++ listed_of one ∷ []) ≡ Err 205
    barred_by_room full =
        rows_full settings version (all_listed_of front) (listed_of one) is free
        (ap (λ n. nat_lt n settings.silos) so_many ∙ grind (arith, nat_tests, full))

    module _ (room : length front < settings.silos) where
      has_place : nat_lt (length (all_listed_of front)) settings.silos ≡ true
      has_place = ap (λ n. nat_lt n settings.silos) so_many ∙ lt-ltb (length front) settings.silos room

      pub barred_by_places : (number : Option ℕ)
          → IsSomeAnd number (λ n. count_refused_by one.status settings settings.hashing (length (listed_of one).places) ≡ Some n)
          → IsSomeAnd number (λ n. begun settings version (all_listed_of front ++ listed_of one ∷ []) ≡ Err n)
      barred_by_places number =
          some_weaker number (λ n. count_refused_by one.status settings settings.hashing (length (listed_of one).places) ≡ Some n)
          (λ n. begun settings version (all_listed_of front ++ listed_of one ∷ []) ≡ Err n)
          (λ n refused. places_refused settings version (all_listed_of front) (listed_of one) is free has_place n refused)

      pub listed_then : count_refused_by one.status settings settings.hashing (length (listed_of one).places) ≡ None
          → IsOk (begun settings version (all_listed_of front ++ listed_of one ∷ []))
      listed_then fit = may_be settings version (all_listed_of front) (listed_of one) is free has_place fit

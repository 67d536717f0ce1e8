-- A process that was told nothing may begin with the view of each version that was decided before its silo's join.
use Rattle.std.proofs.Common.{arith, ◌≡◌, ◌≢◌, inl, inr, ℕ, ◌+◌, ◌≤◌, ◌<◌, Bool, true, false, List, [], ◌∷◌, length, IsSome, is_some, refl, sym, ap, ◌∙◌, subst, ◌&&◌, ◌||◌, nat_lt, not, if◌then◌else◌}
use Rattle.std.specs.Prelude.{⊤, All, Option, Some, None, Ok, Err, map}
use Rattle.std.specs.Option.{option_map, unwrap_or}
use Rattle.std.specs.List.{list_all, list_any}
use Rattle.std.specs.List.Sorted.{IsStrictlySortedBy}
use Rattle.std.specs.Map.{lookup, keys_of}
use Rattle.std.specs.BTreeMap.{is_at}
use Rattle.std.specs.declared.cmp.Ordering.TheVariants.{Less, Equal}
use Rattle.std.proofs.lemmas.Bool.{cases_order, lt-ltb, ne_eqb}
use Rattle.std.proofs.lemmas.Cmp.{tied_itself}
use Rattle.std.proofs.lemmas.List.Elements.{All-nil, All-head, All-tail, All-weaker}
use Rattle.std.proofs.lemmas.Map.Keys.{sorted_head, sorted_tail}
use Rattle.texts.proofs.Entries.{length-insert_entry}
use Rattle.silo_address.specs.Silo.{Silo, silo_cmp}
use Rattle.silo_address.proofs.Order.{silo_cmp_exact, silo_cmp_total}
use Rattle.membership_view.specs.declared.row.Row.{Row}
use Rattle.membership_view.specs.declared.status.Status.{Status}
use Rattle.membership_view.specs.declared.status.Status.TheVariants.{Active, Leaving, Dead}
use Rattle.membership_view.specs.Row.{has_come}
use Rattle.membership_view.specs.View.{shares_endpoint}
use Rattle.membership_view.specs.Views.{ViewsValue, most_known, row_of}
use Rattle.membership_view.specs.Beginning.{after_listing, beginning, is_known_endpoint, with_listed}
use Rattle.membership_view.specs.Changes.{is_newest}
use Rattle.membership_view.proofs.Found.{found_above, found_behind, found_first}
use Rattle.membership_view.proofs.Order.{Decides-shares, same_generation, shares_back, shares_itself}
use Rattle.membership_view.proofs.Statuses.{dead_by_come, joined_since}
use Rattle.hash_ring.specs.Places.{PlacesValue, has_points, is_added, is_point_count, named_places, places_for, places_of, with_silo}
use Rattle.directory_facts.proofs.Entries.{all_put}
use Rattle.directory_facts.proofs.Lookups.{absent_found}
use Rattle.directory_rules.specs.Settings.{Settings}
use Rattle.directory_rules.specs.Membership.{Membership, first_membership, joined, listed, listed_all, listed_by, listing, listing_of, membership_from, placed, places_told, with_places}
use Rattle.silo_rules.specs.Begun.{told_view, unless_joined}
use Rattle.silo_rules.proofs.Whole.{Are, first_are}
use Rattle.deployment_headline.specs.Deployment.{first_deployment}
use Rattle.deployment_headline.specs.Steps.{deployed}
use Rattle.deployment_headline.specs.Theorems.{ProcessesMayBegin}
use Rattle.deployment_headline.proofs.Memberships.{leads_to}
use Rattle.deployment_headline.proofs.PlacesTold.{MayBeStated, leads_told, first_told}
use Rattle.deployment_headline.proofs.Runs.{sound_after}
use Rattle.deployment_headline.proofs.Sound.{sound_first, its_process}
use Rattle.deployment_headline.proofs.ViewRows.{IsIn, all_found, in_joined, is_in, listed_added, listed_apart, listed_fewer, listed_in, listed_sorted, view_rows}

-- ---- rows of which no two are of one endpoint
abbrev AreApart : List (Silo × Status) → Silo → Type 0
AreApart rows q = All (λ x. shares_endpoint x.0 q ≡ false) rows

abbrev AllApart : List (Silo × Status) → Type 0
AllApart [] = ⊤
AllApart (e ∷ es) = AreApart es e.0 × AllApart es

all_apart : (es : List (Silo × Status)) → IsStrictlySortedBy silo_cmp (keys_of es)
    → ((q r : Silo) (s t : Status) → lookup (is_at (silo_cmp q)) es ≡ Some s → lookup (is_at (silo_cmp r)) es ≡ Some t → q ≢ r
    → shares_endpoint q r ≡ false) → AllApart es
all_apart [] s each = tt
all_apart (e ∷ es) s each =
    let rest = sorted_tail silo_cmp e.0 (keys_of es) s in
    let on : (q : Silo) (x : Status) → lookup (is_at (silo_cmp q)) es ≡ Some x → lookup (is_at (silo_cmp q)) (e ∷ es) ≡ Some x =
    λ q x there. found_behind silo_cmp_total e es s q x there in (
      all_found (λ x. shares_endpoint x.0 e.0 ≡ false) es rest
          (λ q x there. each q e.0 x e.1 (on q x there) (found_first silo_cmp_total e es) (behind q x there)),
      all_apart es rest (λ q r x y one other apart. each q r x y (on q x one) (on r y other) apart),
    )
  where
    behind : (q : Silo) (x : Status) → lookup (is_at (silo_cmp q)) es ≡ Some x → q ≢ e.0
    behind q x there same =
        let above : silo_cmp e.0 q ≡ Less = found_above silo_cmp_total e.0 q x es (sorted_head silo_cmp e.0 (keys_of es) s) there in
        let tied : silo_cmp e.0 q ≡ Equal = ap (λ k. silo_cmp e.0 k) same ∙ tied_itself silo_cmp_total e.0 in
        cc (above, tied)

-- a silo apart from another isn't that
apart_is : (q r : Silo) → shares_endpoint q r ≡ false → q ≢ r
apart_is q r apart same =
    let shares : shares_endpoint q r ≡ true = ap (λ k. shares_endpoint k r) same ∙ shares_itself r in cc (shares, apart)

none_any : {X : Type 0} (p : X → Bool) (xs : List X) → All (λ x. p x ≡ false) xs → list_any p xs ≡ false
none_any p [] all = refl
none_any p (x ∷ xs) all =
    ap (λ b. b || list_any p xs) (All-head (λ x. p x ≡ false) x xs all) ∙ none_any p xs (All-tail (λ x. p x ≡ false) x xs all)

all_true : {X : Type 0} (p : X → Bool) (xs : List X) → All (λ x. p x ≡ true) xs → list_all p xs ≡ true
all_true p [] all = refl
all_true p (x ∷ xs) all =
    ap (λ b. b && list_all p xs) (All-head (λ x. p x ≡ true) x xs all) ∙ all_true p xs (All-tail (λ x. p x ≡ true) x xs all)

-- ---- rows are listed one after the other
module _ (settings : Settings) (told : PlacesValue) (own : Silo) where
  -- whether the silo may join where that one is known
  abbrev IsOlder : Silo → Type 0
  IsOlder q = (not (shares_endpoint own q) || nat_lt q.generation own.generation) ≡ true

  -- a row that may be told
  abbrev MayBeListed : Silo × Status → Type 0
  MayBeListed e = (e.1 ≢ Dead → MayBeStated settings told.hashing (named_places told.hashing told e.0)) × IsOlder e.0

  -- what is listed so far leaves room for the others
  record HasRoom (m : Membership) (rest : List (Silo × Status)) : Type 0 where
    later : (e : Silo × Status) (es : List (Silo × Status)) → rest ≡ e ∷ es → 0 < m.views.first
    room : length m.views.rows + length rest ≤ m.views.limit
    hashing : m.places.hashing ≡ told.hashing
    rows : All (λ (r : Silo × Row). AreApart rest r.0) m.views.rows
    places : All (λ (p : Silo × List ℕ). AreApart rest p.0) m.places.entries
    older : All (λ (r : Silo × Row). IsOlder r.0) m.views.rows

  -- what comes of all of them
  record Lists (m : Membership) (rest : List (Silo × Status)) : Type 0 where
    last : Membership
    is : listed_all settings (Ok m) (map (listing told) rest) ≡ Ok last
    older : All (λ (r : Silo × Row). IsOlder r.0) last.views.rows

  module _ (m : Membership) (e : Silo × Status) (es : List (Silo × Status)) (has : HasRoom m (e ∷ es)) (apart : AreApart es e.0)
      (may : MayBeListed e) where
    abbrev P : Silo × Status → Type 0
    P x = shares_endpoint x.0 e.0 ≡ false

    -- who is known is apart from this one, and from the others
    first_apart : (q : Silo) → AreApart (e ∷ es) q → shares_endpoint e.0 q ≡ false
    first_apart q all = All-head (λ (x : Silo × Status). shares_endpoint x.0 q ≡ false) e es all

    rest_apart : (q : Silo) → AreApart (e ∷ es) q → AreApart es q
    rest_apart q all = All-tail (λ (x : Silo × Status). shares_endpoint x.0 q ≡ false) e es all

    new_row : row_of m.views e.0 ≡ None
    new_row =
        absent_found silo_cmp silo_cmp_exact e.0 m.views.rows
        (All-weaker (λ (r : Silo × Row). AreApart (e ∷ es) r.0) (λ (r : Silo × Row). e.0 ≢ r.0)
        (λ r all. apart_is e.0 r.0 (first_apart r.0 all)) m.views.rows has.rows)

    new_places : places_of m.places e.0 ≡ None
    new_places =
        absent_found silo_cmp silo_cmp_exact e.0 m.places.entries
        (All-weaker (λ (p : Silo × List ℕ). AreApart (e ∷ es) p.0) (λ (p : Silo × List ℕ). e.0 ≢ p.0)
        (λ p all. apart_is e.0 p.0 (first_apart p.0 all)) m.places.entries has.places)

    unknown : is_known_endpoint e.0 m.views.rows ≡ false
    unknown =
        none_any (λ r. shares_endpoint e.0 r.0) m.views.rows
        (All-weaker (λ (r : Silo × Row). AreApart (e ∷ es) r.0) (λ (r : Silo × Row). shares_endpoint e.0 r.0 ≡ false)
        (λ r all. first_apart r.0 all) m.views.rows has.rows)

    listing_taken : (status : Status) → after_listing m.views e.0 status ≡ Ok (with_listed m.views e.0 status)
    listing_taken status =
        let above = has.later e es refl in
        let room = has.room in
        ap (λ b. if b || is_known_endpoint e.0 m.views.rows then Err 210 else
        (if not (nat_lt (length m.views.rows) m.views.limit) then Err 205 else Ok (with_listed m.views e.0 status)))
        (ne_eqb m.views.first 0 (λ same. omega (above, same, arith)))
        ∙ ap (λ b. if b then Err 210 else
        (if not (nat_lt (length m.views.rows) m.views.limit) then Err 205 else Ok (with_listed m.views e.0 status))) unknown
        ∙ ap (λ b. if not b then Err 205 else Ok (with_listed m.views e.0 status))
        (lt-ltb (length m.views.rows) m.views.limit (omega (room, arith)))

    abbrev stated : List ℕ
    stated = named_places told.hashing told e.0

    places_taken : MayBeStated settings told.hashing stated → (views : ViewsValue)
        → with_places (placed settings m.places e.0 stated) views ≡ Ok (record { views = views; places = with_silo m.places e.0 stated })
    places_taken its views =
        ap (λ b. with_places (if b then Err 402 else (if not (is_point_count m.places.hashing (length stated)) then Err 402 else
        (if not (has_points m.places.hashing (length stated)) then Err 403 else
        (if is_added m.places e.0 then Err 404 else Ok (with_silo m.places e.0 stated))))) views) its.few
        ∙ ap (λ b. with_places (if not b then Err 402 else (if not (has_points m.places.hashing (length stated)) then Err 403 else
        (if is_added m.places e.0 then Err 404 else Ok (with_silo m.places e.0 stated)))) views)
        (ap (λ h. is_point_count h (length stated)) has.hashing ∙ its.count)
        ∙ ap (λ b. with_places (if not b then Err 403 else
        (if is_added m.places e.0 then Err 404 else Ok (with_silo m.places e.0 stated))) views)
        (ap (λ h. has_points h (length stated)) has.hashing ∙ its.some)
        ∙ ap (λ (o : Option (List ℕ)). with_places (if is_some o then Err 404 else Ok (with_silo m.places e.0 stated)) views) new_places

    -- so it is listed
    abbrev places_after : Status → PlacesValue
    places_after Active = with_silo m.places e.0 stated
    places_after Leaving = with_silo m.places e.0 stated
    places_after Dead = m.places

    abbrev next : Membership
    next = record { views = with_listed m.views e.0 e.1; places = places_after e.1 }

    next_is : listed settings m (listing told e) ≡ Ok next
    next_is = by e.1 may.0
      where
        lives : (status : Status) → MayBeStated settings told.hashing stated
            → joined (after_listing m.views e.0 status) settings m.places e.0 stated
            ≡ Ok (record { views = with_listed m.views e.0 status; places = with_silo m.places e.0 stated })
        lives status its =
            ap (λ r. joined r settings m.places e.0 stated) (listing_taken status) ∙ places_taken its (with_listed m.views e.0 status)

        by : (status : Status) → (status ≢ Dead → MayBeStated settings told.hashing stated)
            → listed_by status (after_listing m.views e.0 status) settings m.places e.0 (places_told status told e.0)
            ≡ Ok (record { views = with_listed m.views e.0 status; places = places_after status })
        by Active its = lives Active (its (λ same. cc (same)))
        by Leaving its = lives Leaving (its (λ same. cc (same)))
        by Dead its = ap (λ r. listed_by Dead r settings m.places e.0 []) (listing_taken Dead)

    has_places : (status : Status) → ((places_after status).hashing ≡ told.hashing)
        × All (λ (p : Silo × List ℕ). AreApart es p.0) (places_after status).entries
    has_places status = by status
      where
        before : All (λ (p : Silo × List ℕ). AreApart es p.0) m.places.entries
        before =
            All-weaker (λ (p : Silo × List ℕ). AreApart (e ∷ es) p.0) (λ (p : Silo × List ℕ). AreApart es p.0)
            (λ p all. rest_apart p.0 all) m.places.entries has.places

        added : All (λ (p : Silo × List ℕ). AreApart es p.0) (with_silo m.places e.0 stated).entries
        added =
            all_put silo_cmp silo_cmp_exact (λ (p : Silo × List ℕ). AreApart es p.0) e.0
            (places_for m.places.hashing m.places.points e.0 stated) m.places.entries before apart

        by : (status : Status) → ((places_after status).hashing ≡ told.hashing)
            × All (λ (p : Silo × List ℕ). AreApart es p.0) (places_after status).entries
        by Active = (has.hashing, added)
        by Leaving = (has.hashing, added)
        by Dead = (has.hashing, before)

    has_next : HasRoom next es
    has_next = record {
      later = λ x xs is. has.later e es refl;
      room =
          let longer = length-insert_entry silo_cmp_total e.0 (beginning m.views.first e.1) m.views.rows new_row in
          let room = has.room in
          omega (longer, room, arith);
      hashing = (has_places e.1).0;
      rows =
          all_put silo_cmp silo_cmp_exact (λ (r : Silo × Row). AreApart es r.0) e.0 (beginning m.views.first e.1) m.views.rows
          (All-weaker (λ (r : Silo × Row). AreApart (e ∷ es) r.0) (λ (r : Silo × Row). AreApart es r.0)
          (λ r all. rest_apart r.0 all) m.views.rows has.rows) apart;
      places = (has_places e.1).1;
      older =
          all_put silo_cmp silo_cmp_exact (λ (r : Silo × Row). IsOlder r.0) e.0 (beginning m.views.first e.1) m.views.rows has.older may.1;
    }

  lists : (m : Membership) (rest : List (Silo × Status)) → HasRoom m rest → AllApart rest → All MayBeListed rest → Lists m rest
  lists m [] has apart may = record { last = m; is = refl; older = has.older }
  lists m (e ∷ es) has apart may =
      let first = All-head MayBeListed e es may in
      let later = lists (next m e es has apart.0 first) es (has_next m e es has apart.0 first) apart.1 (All-tail MayBeListed e es may) in
      record {
        last = later.last;
        is = ap (λ r. listed_all settings r (map (listing told) es)) (next_is m e es has apart.0 first) ∙ later.is;
        older = later.older;
      }

-- ---- the view of a version
module _ (settings : Settings) (now : Membership) (all : Are settings now) (told : (q : Silo) (list : List ℕ)
    → places_of now.places q ≡ Some list → MayBeStated settings now.places.hashing (named_places now.places.hashing now.places q))
    (own : Silo) (row : Row) (found : row_of now.views own ≡ Some row) (v : ℕ) (before : v < row.joined) where
  made : v ≤ now.views.version
  made =
      let joined = (all.whole.in_time own row found).joined_by in
      let low = before in
      omega (joined, low, arith)

  -- whoever is listed joined before, and so is older
  older : (q : Silo) (status : Status) → IsIn now.views v q status → IsOlder settings now.places own q
  older q status its = by (shares_endpoint own q) refl
    where
      joined : its.row.joined ≤ v
      joined = in_joined now.views all.whole v q status its

      -- it isn't the silo itself
      apart : q ≢ own
      apart same =
          let row_is : Some its.row ≡ Some row = sym its.there ∙ ap (λ s. row_of now.views s) same ∙ found in
          let joined_is : its.row.joined ≡ row.joined = ap (λ (o : Option Row). unwrap_or (option_map (λ (r : Row). r.joined) o) 0) row_is in
          let low = before in
          let high = joined in
          absurd (omega (joined_is, low, high, arith))

      not_newer : shares_endpoint own q ≡ true → own.generation < q.generation → ⊥
      not_newer shares higher =
          let same = (Decides-shares own q).0 shares in
          let come : has_come row.dead its.row.joined ≡ true =
          all.whole.older_dead own q row its.row found its.there (sym same.0, sym same.1) higher in
          let dead = dead_by_come its.row.joined row come in
          let early : row.joined ≤ its.row.joined =
          joined_since now.views.version its.row.joined row (all.whole.in_time own row found) (subst (λ (o : Option Status). IsSome o) (sym dead) refl) in
          let low = before in
          let high = joined in
          omega (early, low, high, arith)

      lower : shares_endpoint own q ≡ true → q.generation < own.generation
      lower shares = elim (cases_order q.generation own.generation) [
        | inl level ↦ absurd (apart (same_generation q own (shares_back own q shares) level))
        | inr order ↦ elim order [
          | inl low ↦ low
          | inr high ↦ absurd (not_newer shares high)
        ]
      ]

      by : (b : Bool) → shares_endpoint own q ≡ b → (not b || nat_lt q.generation own.generation) ≡ true
      by false at = refl
      by true at = lt-ltb q.generation own.generation (lower at)

  may_be_listed : (q : Silo) (status : Status) → lookup (is_at (silo_cmp q)) (listed_in now.views v) ≡ Some status
      → MayBeListed settings now.places own (q, status)
  may_be_listed q status there =
      (λ lives. by (places_of now.places q) refl (listed_added settings now all v q status lives its), older q status its)
    where
      its : IsIn now.views v q status
      its = is_in now.views all.whole v q status there

      by : (o : Option (List ℕ)) → places_of now.places q ≡ o → is_some o ≡ true
          → MayBeStated settings now.places.hashing (named_places now.places.hashing now.places q)
      by None none some = absurd (cc (some))
      by (Some list) is some = told q list is

  -- version 0 lists nobody
  above : (e : Silo × Status) (es : List (Silo × Status)) → listed_in now.views v ≡ e ∷ es → 0 < v
  above e es is =
      let there : lookup (is_at (silo_cmp e.0)) (listed_in now.views v) ≡ Some e.1 = ap (λ l. lookup (is_at (silo_cmp e.0)) l) is ∙ found_first silo_cmp_total e es in
      let its = is_in now.views all.whole v e.0 e.1 there in
      let joined = in_joined now.views all.whole v e.0 e.1 its in
      let some = (all.whole.in_time e.0 its.row its.there).joined_above in
      omega (joined, some, arith)

  all_listed : Lists settings now.places own (membership_from settings v) (listed_in now.views v)
  all_listed =
      let rows = listed_in now.views v in
      lists settings now.places own (membership_from settings v) rows (record {
        later = above;
        room =
            let few = listed_fewer now.views all.whole v in
            let within = all.whole.within_limit in
            let limit = all.limit in
            omega (few, within, limit, arith);
        hashing = sym all.hashing;
        rows = All-nil (λ (r : Silo × Row). AreApart rows r.0);
        places = All-nil (λ (p : Silo × List ℕ). AreApart rows p.0);
        older = All-nil (λ (r : Silo × Row). IsOlder settings now.places own r.0);
      }) (all_apart rows (listed_sorted now.views all.whole v) (listed_apart now.views all.whole v))
      (all_found (MayBeListed settings now.places own) rows (listed_sorted now.views all.whole v) may_be_listed)

  pub view_taken : (was : Membership) → was.views.version ≡ 0 → v < most_known
      → (m : Membership) × (told_view settings was own v (listing_of now v) ≡ Ok m)
  view_taken was nothing early =
      let it = all_listed in
      let newest : is_newest own it.last.views.rows ≡ true = all_true (λ r. not (shares_endpoint own r.0) || nat_lt r.0.generation own.generation) it.last.views.rows it.older in (
        it.last,
        ap (λ n. if nat_lt 0 n then Err 211 else unless_joined own
            (if nat_lt v most_known then listed_all settings (Ok (membership_from settings v)) (listing_of now v) else Err 210)) nothing
            ∙ ap (λ b. unless_joined own (if b then listed_all settings (Ok (membership_from settings v)) (listing_of now v) else Err 210))
            (lt-ltb v most_known early)
            ∙ ap (λ l. unless_joined own (listed_all settings (Ok (membership_from settings v)) (map (listing now.places) l)))
            (view_rows now.views all.whole v made)
            ∙ ap (λ r. unless_joined own r) it.is
            ∙ ap (λ b. if b then Ok it.last else Err 201) newest,
      )

pub processes_may_begin : ProcessesMayBegin
processes_may_begin settings steps are named silo s there =
    record { begins = λ version nothing early before. by version nothing early (row_of (deployed settings steps).membership.views silo) refl before }
  where
    by : (version : ℕ) → s.membership.views.version ≡ 0 → version < most_known → (o : Option Row)
        → row_of (deployed settings steps).membership.views silo ≡ o → version < unwrap_or (option_map (λ (row : Row). row.joined) o) 0
        → (m : Membership)
        × (told_view s.node.settings s.membership silo version (listing_of (deployed settings steps).membership version) ≡ Ok m)
    by version nothing early None found before = absurd (omega (before, arith))
    by version nothing early (Some row) found before =
        let d = deployed settings steps in
        let sound = sound_after (first_deployment settings) (sound_first settings (first_are settings are)) steps in
        let its = its_process d sound silo s there in
        let all = (leads_to d.settings (first_membership d.settings) d.membership d.changes sound.first sound.start).1 in
        let told = leads_told d.settings (first_membership d.settings) d.membership d.changes sound.start (first_told d.settings) in
        subst (λ (t : Settings). (m : Membership) × (told_view t s.membership silo version (listing_of d.membership version) ≡ Ok m))
        (sym its.set_up)
        (view_taken d.settings d.membership all told silo row found version before s.membership nothing early)

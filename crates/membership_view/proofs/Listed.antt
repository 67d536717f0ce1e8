-- What a view lists of all rows, and what it says of the silos that it leaves out.
use Rattle.std.proofs.Common.{◌≡◌, ℕ, zero, suc, ◌<◌, Bool, true, false, cond, not, ◌||◌, nat_lt, List, [], ◌∷◌, ◌++◌, filter, Option, Some, None, refl, sym, ◌∙◌, ap, arith, if◌then◌else◌}
use Rattle.std.proofs.lemmas.Bool.{ltb-true, lt-ltb, and_parts, and_from, or_left, or_right, false_from_ne_true}
use Rattle.std.proofs.lemmas.Bool.Decides.{nat_tests}
use Rattle.std.proofs.lemmas.Cmp.{eq_by_cmp_equiv}
use Rattle.std.proofs.lemmas.Map.{lookup-none}
use Rattle.std.proofs.lemmas.Map.Entries.{none_past_head}
use Rattle.std.proofs.lemmas.Map.Keys.{sorted_head, sorted_tail, IsDistinct-from_sorted}
use Rattle.std.specs.List.{AllByRecursion, slice_get}
use Rattle.std.specs.List.Sorted.{IsStrictlySortedBy}
use Rattle.std.specs.Map.{lookup, keys_of}
use Rattle.std.specs.BTreeMap.{is_at}
use Rattle.std.specs.Ordering.{is_eq, is_gt, nat_cmp, ordering_reverse}
use Rattle.std.specs.declared.cmp.Ordering.{Ordering}
use Rattle.std.specs.declared.cmp.Ordering.TheVariants.{Less, Equal, Greater}
use Rattle.silo_address.specs.Silo.{Silo, silo_cmp}
use Rattle.silo_address.proofs.Order.{silo_cmp_exact, silo_cmp_total}
use Rattle.membership_view.specs.declared.status.Status.{Status}
use Rattle.membership_view.specs.declared.status.Status.TheVariants.{Active, Leaving, Dead}
use Rattle.membership_view.specs.View.{shares_endpoint, is_newer, is_outlived, is_spare, listed_rows, or_outlived}
use Rattle.membership_view.specs.Listing.{before_by, outlived_at}
use Rattle.membership_view.proofs.Found.{found_above}
use Rattle.membership_view.proofs.Order.{shares_back, shares_along, shares_between, by_generation}

-- ---- who is newer
pub newer_parts : (a b : Silo) → is_newer a b ≡ true → (shares_endpoint b a ≡ true) × (b.generation < a.generation)
newer_parts a b is =
    let two = and_parts (shares_endpoint b a) (nat_lt b.generation a.generation) is in
    (two.0, ltb-true b.generation a.generation two.1)

pub newer_by : (a b : Silo) → shares_endpoint b a ≡ true → b.generation < a.generation → is_newer a b ≡ true
newer_by a b shares lower = and_from (shares_endpoint b a) (nat_lt b.generation a.generation) shares (lt-ltb b.generation a.generation lower)

pub newer_along : (a b c : Silo) → is_newer a b ≡ true → is_newer b c ≡ true → is_newer a c ≡ true
newer_along a b c above below =
    let one = newer_parts a b above in
    let two = newer_parts b c below in
    let higher = one.1 in
    let lower = two.1 in
    newer_by a c (shares_along c b a two.0 one.0) (omega (higher, lower, arith))

-- nobody is newer than one that stands behind it
pub not_newer : (a b : Silo) → silo_cmp a b ≡ Less → is_newer a b ≡ false
not_newer a b less = false_from_ne_true (is_newer a b) (λ is. never (newer_parts a b is))
  where
    never : (shares_endpoint b a ≡ true) × (b.generation < a.generation) → ⊥
    never two =
        let lower = two.1 in
        let high : is_gt (nat_cmp a.generation b.generation) ≡ true = grind (arith, nat_tests) in
        let low : is_gt (nat_cmp a.generation b.generation) ≡ false = ap is_gt (sym (by_generation a b (shares_back b a two.0)) ∙ less) in
        cc

pub not_itself_newer : (a : Silo) → is_newer a a ≡ false
not_itself_newer a = false_from_ne_true (is_newer a a) (λ is. let lower = (newer_parts a a is).1 in omega (lower, arith))

-- of one endpoint who stands behind is newer
pub newer_behind : (a b : Silo) → shares_endpoint a b ≡ true → silo_cmp a b ≡ Less → is_newer b a ≡ true
newer_behind a b shares less = newer_by b a shares (lower a.generation b.generation (sym (by_generation a b shares) ∙ less))
  where
    lower : (m n : ℕ) → nat_cmp m n ≡ Less → m < n
    lower m n is = grind (arith, nat_tests)

-- who is outlived by one that is outlived is so by all that outlive that
outlived_along : (a q : Silo) (rows : List (Silo × Status)) → is_newer a q ≡ true → is_outlived a rows ≡ true → is_outlived q rows ≡ true
outlived_along a q [] newer is = absurd (cc (is))
outlived_along a q (e ∷ es) newer is = by (is_newer e.0 a) refl is (outlived_along a q es newer)
  where
    by : (b : Bool) → is_newer e.0 a ≡ b → (b || is_outlived a es) ≡ true → (is_outlived a es ≡ true → is_outlived q es ≡ true)
        → is_outlived q (e ∷ es) ≡ true
    by true at h later = or_left (is_newer e.0 q) (is_outlived q es) (newer_along e.0 a q at newer)
    by false at h later = or_right (is_newer e.0 q) (is_outlived q es) (later h)

-- ---- the rows that are listed, one after the other
spare_same : (e : Silo × Status) (rows : List (Silo × Status)) (q : Silo) (status : Status) → is_newer e.0 q ≡ false
    → is_spare (e ∷ rows) q status ≡ is_spare rows q status
spare_same e rows q Active apart = refl
spare_same e rows q Leaving apart = refl
spare_same e rows q Dead apart = ap (λ b. b || is_outlived q rows) apart

pub spare_is : (rows : List (Silo × Status)) (q : Silo) (status : Status) → is_spare rows q status ≡ true
    → (status ≡ Dead) × (is_outlived q rows ≡ true)
spare_is rows q Active is = absurd (cc (is))
spare_is rows q Leaving is = absurd (cc (is))
spare_is rows q Dead is = (refl, is)

-- the rows of these that stay listed, all rows being those
abbrev listed_among : List (Silo × Status) → List (Silo × Status) → List (Silo × Status)
listed_among rows es = filter (λ e. not (is_spare rows e.0 e.1)) es

listed_same : (a : Silo × Status) (rows es : List (Silo × Status)) → AllByRecursion (λ k. is_newer a.0 k ≡ false) (keys_of es)
    → listed_among (a ∷ rows) es ≡ listed_among rows es
listed_same a rows [] apart = refl
listed_same a rows (e ∷ es) apart =
    ap (λ b. cond (not b) (e ∷ listed_among (a ∷ rows) es) (listed_among (a ∷ rows) es)) (spare_same a rows e.0 e.1 apart.0)
    ∙ ap (λ l. cond (not (is_spare rows e.0 e.1)) (e ∷ l) l) (listed_same a rows es apart.1)

all_behind : (a : Silo) (ks : List Silo) → AllByRecursion (λ k. silo_cmp a k ≡ Less) ks → AllByRecursion (λ k. is_newer a k ≡ false) ks
all_behind a [] above = tt
all_behind a (k ∷ ks) above = (not_newer a k above.0, all_behind a ks above.1)

abbrev Sorted : List (Silo × Status) → Type 0
Sorted rows = IsStrictlySortedBy silo_cmp (keys_of rows)

pub listed-cons : (a : Silo × Status) (rest : List (Silo × Status)) → Sorted (a ∷ rest)
    → listed_rows (a ∷ rest) ≡ cond (not (is_spare rest a.0 a.1)) (a ∷ listed_rows rest) (listed_rows rest)
listed-cons a rest s =
    ap (λ b. cond (not b) (a ∷ listed_among (a ∷ rest) rest) (listed_among (a ∷ rest) rest))
    (spare_same a rest a.0 a.1 (not_itself_newer a.0))
    ∙ ap (λ l. cond (not (is_spare rest a.0 a.1)) (a ∷ l) l)
    (listed_same a rest rest (all_behind a.0 (keys_of rest) (sorted_head silo_cmp a.0 (keys_of rest) s)))

-- whom the rows outlive, those that are listed do
pub outlived_listed : (q : Silo) (rows : List (Silo × Status)) → Sorted rows → is_outlived q (listed_rows rows) ≡ is_outlived q rows
outlived_listed q [] s = refl
outlived_listed q (a ∷ rest) s =
    ap (λ l. is_outlived q l) (listed-cons a rest s)
    ∙ by (is_spare rest a.0 a.1) refl (outlived_listed q rest (sorted_tail silo_cmp a.0 (keys_of rest) s))
  where
    spare : (b : Bool) → is_newer a.0 q ≡ b → is_outlived a.0 rest ≡ true → is_outlived q rest ≡ (b || is_outlived q rest)
    spare false newer outlived = refl
    spare true newer outlived = outlived_along a.0 q rest newer outlived

    by : (b : Bool) → is_spare rest a.0 a.1 ≡ b → is_outlived q (listed_rows rest) ≡ is_outlived q rest
        → is_outlived q (cond (not b) (a ∷ listed_rows rest) (listed_rows rest)) ≡ (is_newer a.0 q || is_outlived q rest)
    by true is later = later ∙ spare (is_newer a.0 q) refl (spare_is rest a.0 a.1 is).1
    by false is later = ap (λ b. is_newer a.0 q || b) later

-- what is found among the listed rows
abbrev pub unless_spare : List (Silo × Status) → Silo → Option Status → Option Status
unless_spare rows q None = None
unless_spare rows q (Some status) = if is_spare rows q status then None else Some status

unless_same : (a : Silo × Status) (rest : List (Silo × Status)) (q : Silo) (o : Option Status)
    → ((status : Status) → o ≡ Some status → is_newer a.0 q ≡ false) → unless_spare rest q o ≡ unless_spare (a ∷ rest) q o
unless_same a rest q None apart = refl
unless_same a rest q (Some status) apart =
    ap (λ b. if b then None else Some status) (sym (spare_same a rest q status (apart status refl)))

-- what the rows say of a silo
abbrev found_in : Silo → List (Silo × Status) → Option Status
found_in q rows = lookup (is_at (silo_cmp q)) rows

pub lookup_listed : (q : Silo) (rows : List (Silo × Status)) → Sorted rows
    → lookup (is_at (silo_cmp q)) (listed_rows rows) ≡ unless_spare rows q (lookup (is_at (silo_cmp q)) rows)
lookup_listed q [] s = refl
lookup_listed q (a ∷ rest) s =
    ap (λ l. lookup (is_at (silo_cmp q)) l) (listed-cons a rest s)
    ∙ by (silo_cmp q a.0) refl (is_spare rest a.0 a.1) refl (lookup_listed q rest (sorted_tail silo_cmp a.0 (keys_of rest) s))
  where
    behind : (status : Status) → found_in q rest ≡ Some status → is_newer a.0 q ≡ false
    behind status at =
        not_newer a.0 q (found_above silo_cmp_total a.0 q status rest (sorted_head silo_cmp a.0 (keys_of rest) s) at)

    gone : silo_cmp q a.0 ≡ Equal → found_in q rest ≡ None
    gone at =
        lookup-none (is_at (silo_cmp q)) rest (none_past_head (eq_by_cmp_equiv silo_cmp_total) q a rest
        (IsDistinct-from_sorted silo_cmp (keys_of (a ∷ rest)) s) (ap is_eq at))

    own : silo_cmp q a.0 ≡ Equal → is_spare (a ∷ rest) q a.1 ≡ is_spare rest a.0 a.1
    own at =
        ap (λ k. is_spare (a ∷ rest) k a.1) (silo_cmp_exact q a.0 at) ∙ spare_same a rest a.0 a.1 (not_itself_newer a.0)

    passed : is_eq (silo_cmp q a.0) ≡ false → found_in q (listed_rows rest) ≡ unless_spare rest q (found_in q rest)
        → found_in q (listed_rows rest) ≡ unless_spare (a ∷ rest) q (found_in q (a ∷ rest))
    passed apart later =
        later ∙ unless_same a rest q (found_in q rest) behind
        ∙ ap (λ t. unless_spare (a ∷ rest) q (cond t (Some a.1) (found_in q rest))) (sym apart)

    other : (b : Bool) → is_eq (silo_cmp q a.0) ≡ false → found_in q (listed_rows rest) ≡ unless_spare rest q (found_in q rest)
        → found_in q (cond (not b) (a ∷ listed_rows rest) (listed_rows rest)) ≡ unless_spare (a ∷ rest) q (found_in q (a ∷ rest))
    other true apart later = passed apart later
    other false apart later = ap (λ t. cond t (Some a.1) (found_in q (listed_rows rest))) apart ∙ passed apart later

    by : (r : Ordering) → silo_cmp q a.0 ≡ r → (b : Bool) → is_spare rest a.0 a.1 ≡ b
        → found_in q (listed_rows rest) ≡ unless_spare rest q (found_in q rest)
        → found_in q (cond (not b) (a ∷ listed_rows rest) (listed_rows rest)) ≡ unless_spare (a ∷ rest) q (found_in q (a ∷ rest))
    by Less at b is later = other b (ap is_eq at) later
    by Greater at b is later = other b (ap is_eq at) later
    by Equal at true is later =
        later ∙ ap (λ o. unless_spare rest q o) (gone at)
        ∙ ap (λ t. if t then None else Some a.1) (sym (own at ∙ is))
        ∙ ap (λ t. unless_spare (a ∷ rest) q (cond t (Some a.1) (found_in q rest))) (sym (ap is_eq at))
    by Equal at false is later =
        ap (λ t. cond t (Some a.1) (found_in q (listed_rows rest))) (ap is_eq at)
        ∙ ap (λ t. if t then None else Some a.1) (sym (own at ∙ is))
        ∙ ap (λ t. unless_spare (a ∷ rest) q (cond t (Some a.1) (found_in q rest))) (sym (ap is_eq at))

-- so a silo is what its row says, and else Dead where it is outlived
pub status_listed : (q : Silo) (rows : List (Silo × Status)) → Sorted rows
    → or_outlived (lookup (is_at (silo_cmp q)) (listed_rows rows)) (is_outlived q (listed_rows rows))
    ≡ or_outlived (lookup (is_at (silo_cmp q)) rows) (is_outlived q rows)
status_listed q rows s =
    ap (λ o. or_outlived o (is_outlived q (listed_rows rows))) (lookup_listed q rows s)
    ∙ ap (λ b. or_outlived (unless_spare rows q (lookup (is_at (silo_cmp q)) rows)) b) (outlived_listed q rows s)
    ∙ by (lookup (is_at (silo_cmp q)) rows)
  where
    kept : (status : Status) (b : Bool) → is_spare rows q status ≡ b
        → or_outlived (if b then None else Some status) (is_outlived q rows) ≡ Some status
    kept status false is = refl
    kept status true is =
        let two = spare_is rows q status is in
        ap (λ b. if b then Some Dead else None) two.1 ∙ ap (λ t. Some t) (sym two.0)

    by : (o : Option Status) → or_outlived (unless_spare rows q o) (is_outlived q rows) ≡ or_outlived o (is_outlived q rows)
    by None = refl
    by (Some status) = kept status (is_spare rows q status) refl

-- ---- neighbours
none_newer : (a x : Silo) (ks : List Silo) → silo_cmp a x ≡ Less → shares_endpoint a x ≡ false
    → AllByRecursion (λ k. silo_cmp x k ≡ Less) ks → AllByRecursion (λ k. is_newer k a ≡ false) ks
none_newer a x [] less apart above = tt
none_newer a x (k ∷ ks) less apart above =
    (false_from_ne_true (is_newer k a) (λ is. never (newer_parts k a is).0), none_newer a x ks less apart above.1)
  where
    never : shares_endpoint a k ≡ true → ⊥
    never shares =
        let yes : shares_endpoint a x ≡ true = shares_between a x k (ap is_gt less) (ap is_gt above.0) shares in
        cc

none_outlive : (q : Silo) (rows : List (Silo × Status)) → AllByRecursion (λ k. is_newer k q ≡ false) (keys_of rows) → is_outlived q rows ≡ false
none_outlive q [] apart = refl
none_outlive q (e ∷ es) apart = ap (λ b. b || is_outlived q es) apart.0 ∙ none_outlive q es apart.1

-- whether a silo is outlived by the rows behind it, the first of these tells
pub outlived_front : (a : Silo) (x : Silo × Status) (rest : List (Silo × Status)) → silo_cmp a x.0 ≡ Less
    → AllByRecursion (λ k. silo_cmp x.0 k ≡ Less) (keys_of rest) → is_outlived a (x ∷ rest) ≡ shares_endpoint a x.0
outlived_front a x rest less above = by (shares_endpoint a x.0) refl
  where
    apart : shares_endpoint a x.0 ≡ false → is_newer x.0 a ≡ false
    apart not = false_from_ne_true (is_newer x.0 a) (λ is. let yes : shares_endpoint a x.0 ≡ true = (newer_parts x.0 a is).0 in cc)

    by : (b : Bool) → shares_endpoint a x.0 ≡ b → is_outlived a (x ∷ rest) ≡ b
    by true shares = or_left (is_newer x.0 a) (is_outlived a rest) (newer_behind a x.0 shares less)
    by false not =
        ap (λ b. b || is_outlived a rest) (apart not) ∙ none_outlive a rest (none_newer a x.0 (keys_of rest) less not above)

pub outlived_next : (a x : Silo × Status) (rest : List (Silo × Status)) → Sorted (a ∷ x ∷ rest)
    → is_outlived a.0 (x ∷ rest) ≡ shares_endpoint a.0 x.0
outlived_next a x rest s =
    outlived_front a.0 x rest (sorted_head silo_cmp a.0 (keys_of (x ∷ rest)) s).0
    (sorted_head silo_cmp x.0 (keys_of rest) (sorted_tail silo_cmp a.0 (keys_of (x ∷ rest)) s))

-- so it is at the index where a silo would stand
pub outlived_at_gap : (silo : Silo) (es : List (Silo × Status)) (index : ℕ) → Sorted es
    → ((j : ℕ) (e : Silo × Status) → j < index → slice_get es j ≡ Some e → silo_cmp silo e.0 ≡ Greater)
    → ((e : Silo × Status) → slice_get es index ≡ Some e → silo_cmp silo e.0 ≡ Less)
    → outlived_at es index silo ≡ or_outlived None (is_outlived silo es)
outlived_at_gap silo [] index s before there = refl
outlived_at_gap silo (e ∷ es) zero s before there =
    ap (λ b. if b then Some Dead else None)
    (sym (outlived_front silo e es (there e refl) (sorted_head silo_cmp e.0 (keys_of es) s)))
outlived_at_gap silo (e ∷ es) (suc index) s before there =
    outlived_at_gap silo es index (sorted_tail silo_cmp e.0 (keys_of es) s) (λ j x below at. before (suc j) x (omega (below, arith)) at)
    (λ x at. there x at)
    ∙ ap (λ b. if b || is_outlived silo es then Some Dead else None)
    (sym (not_newer e.0 silo (silo_cmp_total.antisymm e.0 silo ∙ ap ordering_reverse (before 0 e (omega arith) refl))))

-- the first of two rows, and then the others
pub listed_two : (a x : Silo × Status) (rest : List (Silo × Status)) → Sorted (a ∷ x ∷ rest)
    → listed_rows (a ∷ x ∷ rest) ≡ before_by a.0 a.1 x.0 ++ listed_rows (x ∷ rest)
listed_two a x rest s = listed-cons a (x ∷ rest) s ∙ by a.1 refl
  where
    by : (status : Status) → a.1 ≡ status
        → cond (not (is_spare (x ∷ rest) a.0 a.1)) (a ∷ listed_rows (x ∷ rest)) (listed_rows (x ∷ rest))
        ≡ before_by a.0 a.1 x.0 ++ listed_rows (x ∷ rest)
    by Active is =
        ap (λ t. cond (not (is_spare (x ∷ rest) a.0 t)) (a ∷ listed_rows (x ∷ rest)) (listed_rows (x ∷ rest))) is
        ∙ ap (λ t. (a.0, t) ∷ listed_rows (x ∷ rest)) is ∙ ap (λ t. before_by a.0 t x.0 ++ listed_rows (x ∷ rest)) (sym is)
    by Leaving is =
        ap (λ t. cond (not (is_spare (x ∷ rest) a.0 t)) (a ∷ listed_rows (x ∷ rest)) (listed_rows (x ∷ rest))) is
        ∙ ap (λ t. (a.0, t) ∷ listed_rows (x ∷ rest)) is ∙ ap (λ t. before_by a.0 t x.0 ++ listed_rows (x ∷ rest)) (sym is)
    by Dead is =
        ap (λ t. cond (not (is_spare (x ∷ rest) a.0 t)) ((a.0, t) ∷ listed_rows (x ∷ rest)) (listed_rows (x ∷ rest))) is
        ∙ ap (λ b. cond (not b) ((a.0, Dead) ∷ listed_rows (x ∷ rest)) (listed_rows (x ∷ rest))) (outlived_next a x rest s)
        ∙ dead (shares_endpoint a.0 x.0)
        ∙ ap (λ t. before_by a.0 t x.0 ++ listed_rows (x ∷ rest)) (sym is)
      where
        dead : (b : Bool) → cond (not b) ((a.0, Dead) ∷ listed_rows (x ∷ rest)) (listed_rows (x ∷ rest))
            ≡ (if b then [] else (a.0, Dead) ∷ []) ++ listed_rows (x ∷ rest)
        dead true = refl
        dead false = refl

-- the last row is listed
pub listed_one : (a : Silo × Status) → listed_rows (a ∷ []) ≡ a ∷ []
listed_one a = by a.1 refl
  where
    by : (status : Status) → a.1 ≡ status → cond (not (is_spare (a ∷ []) a.0 a.1)) (a ∷ []) [] ≡ a ∷ []
    by Active is = ap (λ t. cond (not (is_spare (a ∷ []) a.0 t)) (a ∷ []) []) is
    by Leaving is = ap (λ t. cond (not (is_spare (a ∷ []) a.0 t)) (a ∷ []) []) is
    by Dead is =
        ap (λ t. cond (not (is_spare (a ∷ []) a.0 t)) (a ∷ []) []) is
        ∙ ap (λ b. cond (not (b || false)) (a ∷ []) []) (not_itself_newer a.0)

-- ---- the rows that a test keeps stay in order
all_kept : (P : Silo → Type 0) (p : Silo × Status → Bool) (rows : List (Silo × Status)) → AllByRecursion P (keys_of rows)
    → AllByRecursion P (keys_of (filter p rows))
all_kept P p [] all = tt
all_kept P p (e ∷ es) all = by (p e) (all_kept P p es all.1)
  where
    by : (b : Bool) → AllByRecursion P (keys_of (filter p es)) → AllByRecursion P (keys_of (cond b (e ∷ filter p es) (filter p es)))
    by true later = (all.0, later)
    by false later = later

pub sorted_kept : (p : Silo × Status → Bool) (rows : List (Silo × Status)) → Sorted rows → Sorted (filter p rows)
unfolding IsStrictlySortedBy
sorted_kept p [] s = tt
sorted_kept p (e ∷ es) s = by (p e) (sorted_kept p es s.1)
  where
    by : (b : Bool) → Sorted (filter p es) → Sorted (cond b (e ∷ filter p es) (filter p es))
    by true later = (all_kept (λ k. silo_cmp e.0 k ≡ Less) p es s.0, later)
    by false later = later

pub sorted_listed : (rows : List (Silo × Status)) → Sorted rows → Sorted (listed_rows rows)
sorted_listed rows s = sorted_kept (λ row. not (is_spare rows row.0 row.1)) rows s

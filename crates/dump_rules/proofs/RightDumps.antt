-- The verdict says what it has to.
use Rattle.std.proofs.Common.{◌≡◌, ◌≢◌, refl, sym, ap, subst, ◌∙◌, inl, inr, ℕ, List, [], ◌∷◌, ◌++◌}
use Rattle.std.specs.Prelude.{Bool, true, false, cond, not, ◌⊎◌, ◌↔◌, map, filter, find, Option, Some, None, All, AllPairs, Contains, if◌then◌else◌}
use Rattle.std.specs.Bool.{Decides}
use Rattle.std.specs.Option.{option_map}
use Rattle.std.specs.Ordering.{is_lt, ordering_reverse}
use Rattle.std.specs.declared.cmp.Ordering.{Ordering}
use Rattle.std.specs.declared.cmp.Ordering.TheVariants.{Less, Equal, Greater}
use Rattle.std.specs.List.{list_all, list_any}
use Rattle.std.proofs.lemmas.Bool.Decides.{Decides-like, Decides-and, Decides-not, Decides-eqb}
use Rattle.std.proofs.lemmas.List.Elements.{All-nil, All-cons, All-head, All-tail}
use Rattle.std.proofs.lemmas.List.Kept.{AllPairs-cons}
use Rattle.std.proofs.lemmas.Slice.Eq.{slice_eq-Decides}
use Rattle.silo_address.specs.Silo.{Silo}
use Rattle.silo_address.specs.Grain.{Grain, grain_cmp, grain_eq}
use Rattle.silo_address.specs.declared.Entry.{Entry}
use Rattle.silo_address.specs.Activation.{entry_eq}
use Rattle.std.specs.Cmp.{IsTotalOrder}
use Rattle.silo_address.proofs.Order.{grain_cmp_total}
use Rattle.silo_address.proofs.Same.{Decides-silo, Decides-grain, Decides-entry}
use Rattle.hash_ring.specs.declared.point.Point.{Point}
use Rattle.hash_ring.specs.Point.{point_eq}
use Rattle.dump_rules.specs.Dump.{DumpPiece, DumpNode, DumpValue}
use Rattle.dump_rules.specs.Verdict as verdicts
use Rattle.dump_rules.specs.RightDump as right
use Rattle.dump_rules.proofs.Contained.{here, there, contains_nothing, first_or_later, Some_of, Decides-all, Decides-some, Decides-contains, in_map, to_map, in_filter, to_filter, in_append, to_append, no_pairs, pairs_head, pairs_tail}
use Rattle.dump_rules.proofs.TurningHashes.{Decides-has_its_ranges}

-- ---- The least of grains.
abbrev NoLess : Grain → List Grain → Type 0
NoLess grain grains = (other : Grain) → Contains grains other → is_lt (grain_cmp other grain) ≡ false

abbrev IsLeastOf : List Grain → Option Grain → Type 0
IsLeastOf grains None = (grain : Grain) → ¬ Contains grains grain
IsLeastOf grains (Some grain) = Contains grains grain × NoLess grain grains

not_less_itself : (o : Ordering) → o ≡ ordering_reverse o → is_lt o ≡ false
not_less_itself Less e = absurd (let no : Less ≡ Greater = e in cc)
not_less_itself Equal e = refl
not_less_itself Greater e = refl

not_less_back : (o r : Ordering) → r ≡ ordering_reverse o → is_lt o ≡ true → is_lt r ≡ false
not_less_back Less r e less = ap is_lt e
not_less_back Equal r e less = absurd (let no : false ≡ true = less in cc)
not_less_back Greater r e less = absurd (let no : false ≡ true = less in cc)

less_is : (o : Ordering) → is_lt o ≡ true → o ≡ Less
less_is Less e = refl
less_is Equal e = absurd (let no : false ≡ true = e in cc)
less_is Greater e = absurd (let no : false ≡ true = e in cc)

not_less_along : (a b c : Grain) → is_lt (grain_cmp a b) ≡ false → is_lt (grain_cmp b c) ≡ false → is_lt (grain_cmp a c) ≡ false
not_less_along a b c one two = at (grain_cmp a c) refl (grain_cmp b c) refl
  where
    total : IsTotalOrder grain_cmp
    total = grain_cmp_total

    less : grain_cmp a b ≡ Less → ⊥
    less e = let no : true ≡ false = sym (ap is_lt e) ∙ one in absurd (cc)

    at : (o : Ordering) → grain_cmp a c ≡ o → (r : Ordering) → grain_cmp b c ≡ r → is_lt o ≡ false
    at Equal e r f = refl
    at Greater e r f = refl
    at Less e Less f = absurd (let no : true ≡ false = sym (ap is_lt f) ∙ two in cc)
    at Less e Equal f =
        absurd (less (total.antisymm a b ∙ ap ordering_reverse (total.congr b c a f ∙ total.antisymm c a ∙ ap ordering_reverse e)))
    at Less e Greater f = absurd (less (total.trans a c b e (total.antisymm c b ∙ ap ordering_reverse f)))

least_of : (grains : List Grain) → IsLeastOf grains (verdicts.least_grain grains)
least_of [] = λ grain c. contains_nothing grain c
least_of (x ∷ grains) = at (verdicts.least_grain grains) (least_of grains)
  where
    with_first : (best : Grain) → is_lt (grain_cmp x best) ≡ false → NoLess best grains → NoLess best (x ∷ grains)
    with_first best first rest other c = by (first_or_later x other grains c)
      where
        by : (x ≡ other) ⊎ Contains grains other → is_lt (grain_cmp other best) ≡ false
        by (inl e) = subst (λ (g : Grain). is_lt (grain_cmp g best) ≡ false) e first
        by (inr later) = rest other later

    itself : is_lt (grain_cmp x x) ≡ false
    itself = not_less_itself (grain_cmp x x) (grain_cmp_total.antisymm x x)

    choose : (best : Grain) → Contains grains best → NoLess best grains → (b : Bool) → is_lt (grain_cmp best x) ≡ b
        → IsLeastOf (x ∷ grains) (Some (if b then best else x))
    choose best c rest true less = (
      there x best grains c,
      with_first best (not_less_back (grain_cmp best x) (grain_cmp x best) (grain_cmp_total.antisymm x best) less)
          rest,
    )
    choose best c rest false not_less =
        (here x grains, with_first x itself (λ other d. not_less_along other best x (rest other d) not_less))

    at : (least : Option Grain) → IsLeastOf grains least → IsLeastOf (x ∷ grains) (Some (verdicts.lesser_grain x least))
    at None none = (here x grains, with_first x itself (λ other c. absurd (none other c)))
    at (Some best) is = choose best is.0 is.1 (is_lt (grain_cmp best x)) refl

-- what is so of the grains of a list, and of no other: none, or a least one
abbrev IsLeastSuch : (Grain → Type 0) → Option Grain → Type 0
IsLeastSuch P None = right.NoGrain P
IsLeastSuch P (Some grain) = right.IsLeast P grain

least_such : (P : Grain → Type 0) (grains : List Grain) → ((g : Grain) → Contains grains g → P g) → ((g : Grain) → P g → Contains grains g)
    → IsLeastSuch P (verdicts.least_grain grains)
least_such P grains to from = at (verdicts.least_grain grains) (least_of grains)
  where
    at : (least : Option Grain) → IsLeastOf grains least → IsLeastSuch P least
    at None none = λ grain so. none grain (from grain so)
    at (Some best) is = record { is = to best is.0; least = λ other so. is.1 other (from other so) }

-- ---- The first node that isn't so.
abbrev IsFirstSuch : (DumpNode → Type 0) → List DumpNode → Option Silo → Type 0
IsFirstSuch P nodes None = All P nodes
IsFirstSuch P nodes (Some silo) = right.IsFirstNot P nodes silo

first_such : (test : DumpNode → Bool) (H P : DumpNode → Type 0) → ((node : DumpNode) → H node → Decides (test node) (P node))
    → (nodes : List DumpNode) → All H nodes
    → IsFirstSuch P nodes (verdicts.first_failing test nodes)
first_such test H P each [] h = All-nil P
first_such test H P each (node ∷ nodes) h =
    at (test node) (each node (All-head H node nodes h)) (first_such test H P each nodes (All-tail H node nodes h))
  where
    later : (P node) → (silo : Option Silo) → IsFirstSuch P nodes silo → IsFirstSuch P (node ∷ nodes) silo
    later now None all = All-cons P node nodes now all
    later now (Some silo) is = record {
      before = node ∷ is.before;
      node = is.node;
      after = is.after;
      split = ap (λ (rest : List DumpNode). node ∷ rest) is.split;
      all_before = All-cons P node is.before now is.all_before;
      not_here = is.not_here;
      its = is.its;
    }

    at : (b : Bool) → Decides b (P node) → IsFirstSuch P nodes (verdicts.first_failing test nodes)
        → IsFirstSuch P (node ∷ nodes) (option_map (λ (n : DumpNode). n.silo) (cond (not b) (Some node) (find (λ n. not (test n)) nodes)))
    at true decides rest = later (decides.0 refl) (verdicts.first_failing test nodes) rest
    at false decides rest = record {
      before = [];
      node = node;
      after = nodes;
      split = refl;
      all_before = All-nil P;
      not_here = λ so. let no : false ≡ true = decides.1 so in absurd (cc);
      its = refl;
    }

-- ---- The checks, one by one.
abbrev point_of : ℕ → Silo → ℕ → Point
point_of place silo index = record { place = place; silo = silo; index = index }

same_point : (a b : Point) → a.place ≡ b.place → a.silo ≡ b.silo → a.index ≡ b.index → a ≡ b
same_point a b place silo index = λ i. point_of (place i) (silo i) (index i)

Decides-point : (a b : Point) → Decides (point_eq a b) (a ≡ b)
Decides-point a b =
    Decides-like _ (λ e. same_point a b e.0 e.1.0 e.1.1)
    (λ e. (ap (λ (p : Point). p.place) e, (ap (λ (p : Point). p.silo) e, ap (λ (p : Point). p.index) e)))
    (Decides-and _ _ (Decides-eqb a.place b.place) (Decides-and _ _ (Decides-silo a.silo b.silo) (Decides-eqb a.index b.index)))

Decides-its_ring : (dump : DumpValue) (node : DumpNode) → Decides (verdicts.has_its_ring dump node) (right.HasItsRing dump node)
Decides-its_ring dump node = slice_eq-Decides Decides-point node.ring _ _ refl

abbrev Anything : {X : Type 0} → X → Type 0
Anything x = Unit {0}

all_anything : {X : Type 0} (xs : List X) → All Anything xs
all_anything xs = λ k d below. tt

Decides-inside : (dump : DumpValue) (pieces : List DumpPiece)
    → Decides (list_all (verdicts.has_entries_inside dump) pieces) (All (λ piece. All (right.IsHashedInto dump piece) piece.entries) pieces)
Decides-inside dump pieces =
    Decides-all (verdicts.has_entries_inside dump) Anything (λ piece. All (right.IsHashedInto dump piece) piece.entries)
    (λ piece _. Decides-all _ Anything (right.IsHashedInto dump piece) (λ entry _. (λ e. e, λ e. e)) piece.entries
    (all_anything piece.entries))
    pieces (all_anything pieces)

abbrev Apart : Entry → Entry → Type 0
Apart entry later = entry.grain ≢ later.grain

not_among : (entry : Entry) (entries : List Entry) → ¬ Contains (map (λ e. e.grain) entries) entry.grain → All (Apart entry) entries
not_among entry [] absent = All-nil (Apart entry)
not_among entry (first ∷ entries) absent =
    All-cons (Apart entry) first entries
    (λ same. absent (subst (λ (g : Grain). Contains (first.grain ∷ map (λ e. e.grain) entries) g) (sym same)
    (here first.grain (map (λ e. e.grain) entries))))
    (not_among entry entries (λ c. absent (there first.grain entry.grain (map (λ e. e.grain) entries) c)))

apart_absent : (entry : Entry) (entries : List Entry) → All (Apart entry) entries → ¬ Contains (map (λ e. e.grain) entries) entry.grain
apart_absent entry [] apart = λ c. contains_nothing entry.grain c
apart_absent entry (first ∷ entries) apart =
    λ c. at (first_or_later first.grain entry.grain (map (λ e. e.grain) entries) c)
    (apart_absent entry entries (All-tail (Apart entry) first entries apart))
  where
    at : (first.grain ≡ entry.grain) ⊎ Contains (map (λ e. e.grain) entries) entry.grain
        → ¬ Contains (map (λ e. e.grain) entries) entry.grain → ⊥
    at (inl e) rest = All-head (Apart entry) first entries apart (sym e)
    at (inr later) rest = rest later

Decides-single : (entries : List Entry) → Decides (verdicts.are_distinct (map (λ e. e.grain) entries)) (AllPairs Apart entries)
Decides-single [] = (λ _. no_pairs Apart, λ _. refl)
Decides-single (entry ∷ entries) =
    Decides-like _
    (λ p. AllPairs-cons Apart entry entries (not_among entry entries p.0) p.1)
    (λ pairs. (apart_absent entry entries (pairs_head Apart entry entries pairs), pairs_tail Apart entry entries pairs))
    (Decides-and _ _ (Decides-not _ (Decides-contains grain_eq Decides-grain entry.grain (map (λ e. e.grain) entries)))
    (Decides-single entries))

Decides-right_pieces : (dump : DumpValue) (node : DumpNode) → verdicts.HasHashes node
    → Decides (verdicts.has_right_pieces dump node) (right.HasRightPieces dump node)
Decides-right_pieces dump node hashes =
    Decides-like _
    (λ p. record { ranges = p.0.0; inside = p.0.1; single = p.1 })
    (λ is. ((is.ranges, is.inside), is.single))
    (Decides-and _ _ (Decides-and _ _ (Decides-has_its_ranges node hashes) (Decides-inside dump node.pieces))
    (Decides-single (verdicts.node_entries node)))

-- ---- The grains that are firm on two nodes.
Decides-firm_on : (grain : Grain) (node : DumpNode) → Decides (verdicts.is_firm_on grain node) (Contains (verdicts.firm_grains node) grain)
Decides-firm_on grain node = Decides-contains grain_eq Decides-grain grain (verdicts.firm_grains node)

Decides-firm_later : (grain : Grain) (nodes : List DumpNode)
    → Decides (list_any (verdicts.is_firm_on grain) nodes) (Some_of (λ node. Contains (verdicts.firm_grains node) grain) nodes)
Decides-firm_later grain nodes =
    Decides-some (verdicts.is_firm_on grain) (λ node. Contains (verdicts.firm_grains node) grain) (Decides-firm_on grain) nodes

abbrev firm_here : DumpNode → List DumpNode → List Grain
firm_here node nodes = filter (λ grain. list_any (verdicts.is_firm_on grain) nodes) (verdicts.firm_grains node)

firm_on_two_is : (nodes : List DumpNode) (grain : Grain) → Contains (verdicts.firm_on_two nodes) grain → right.IsFirmOnTwo grain nodes
firm_on_two_is [] grain c = contains_nothing grain c
firm_on_two_is (node ∷ nodes) grain c =
    at (in_append (firm_here node nodes) (verdicts.firm_on_two nodes) grain c) (firm_on_two_is nodes grain)
  where
    at : Contains (firm_here node nodes) grain ⊎ Contains (verdicts.firm_on_two nodes) grain
        → (Contains (verdicts.firm_on_two nodes) grain → right.IsFirmOnTwo grain nodes)
        → right.IsFirmOnTwo grain (node ∷ nodes)
    at (inl c) rest =
        let both = in_filter (λ (g : Grain). list_any (verdicts.is_firm_on g) nodes) (verdicts.firm_grains node) grain c in
        inl (both.0, (Decides-firm_later grain nodes).0 both.1)
    at (inr c) rest = inr (rest c)

is_firm_on_two : (nodes : List DumpNode) (grain : Grain) → right.IsFirmOnTwo grain nodes → Contains (verdicts.firm_on_two nodes) grain
is_firm_on_two [] grain never = absurd never
is_firm_on_two (node ∷ nodes) grain (inl two) =
    to_append (firm_here node nodes) (verdicts.firm_on_two nodes) grain
    (inl (to_filter (λ (g : Grain). list_any (verdicts.is_firm_on g) nodes) (verdicts.firm_grains node) grain two.0
    ((Decides-firm_later grain nodes).1 two.1)))
is_firm_on_two (node ∷ nodes) grain (inr later) =
    to_append (firm_here node nodes) (verdicts.firm_on_two nodes) grain (inr (is_firm_on_two nodes grain later))

-- ---- Missing and strange entries.
Decides-among : (entries : List Entry) (entry : Entry) → Decides (verdicts.is_entry_among entries entry) (Contains entries entry)
Decides-among entries entry = Decides-contains entry_eq Decides-entry entry entries

Decides-missing : (dump : DumpValue) (entry : Entry)
    → Decides (list_any (verdicts.is_missing_in dump entry) (verdicts.current_pieces dump))
    (Some_of (λ piece. right.IsHashedInto dump piece entry × ¬ Contains piece.entries entry) (verdicts.current_pieces dump))
Decides-missing dump entry =
    Decides-some (verdicts.is_missing_in dump entry) (λ piece. right.IsHashedInto dump piece entry × ¬ Contains piece.entries entry)
    (λ piece. Decides-and _ _ (λ e. e, λ e. e) (Decides-not _ (Decides-among piece.entries entry))) (verdicts.current_pieces dump)

-- the grains of the entries that pass a test
abbrev grains_of : List Entry → List Grain
grains_of entries = map (λ entry. entry.grain) entries

abbrev SomeEntry : List Entry → (Entry → Type 0) → Grain → Type 0
SomeEntry entries P grain = (entry : Entry) × Contains entries entry × (entry.grain ≡ grain) × P entry

grains_pass : (test : Entry → Bool) (P : Entry → Type 0) → ((entry : Entry) → Decides (test entry) (P entry))
    → (entries : List Entry) (grain : Grain)
    → Contains (grains_of (filter test entries)) grain → SomeEntry entries P grain
grains_pass test P each entries grain c =
    let found = in_map (λ (e : Entry). e.grain) (filter test entries) grain c in
    let passed = in_filter test entries found.0 found.1 in
    (found.0, passed.0, found.2, (each found.0).0 passed.1)

passing_grains : (test : Entry → Bool) (P : Entry → Type 0) → ((entry : Entry) → Decides (test entry) (P entry))
    → (entries : List Entry) (grain : Grain)
    → SomeEntry entries P grain → Contains (grains_of (filter test entries)) grain
passing_grains test P each entries grain found =
    subst (λ (g : Grain). Contains (grains_of (filter test entries)) g) found.2
    (to_map (λ (e : Entry). e.grain) (filter test entries) found.0 (to_filter test entries found.0 found.1 ((each found.0).1 found.3)))

-- ---- The verdict.
abbrev AreHashes : DumpValue → Type 0
AreHashes dump = All verdicts.HasHashes (verdicts.live_nodes dump)

abbrev FirmOnTwo : DumpValue → Grain → Type 0
FirmOnTwo dump grain = right.IsFirmOnTwo grain (verdicts.live_nodes dump)

first_is : (dump : DumpValue) (ring pieces : Option Silo) (two missing strange : Option Grain)
    → IsFirstSuch (right.HasItsRing dump) (verdicts.live_nodes dump) ring
    → IsFirstSuch (right.HasRightPieces dump) (verdicts.live_nodes dump) pieces
    → IsLeastSuch (FirmOnTwo dump) two → IsLeastSuch (right.IsMissing dump) missing → IsLeastSuch (right.IsStrange dump) strange
    → right.IsVerdict dump (verdicts.first_of
    (option_map verdicts.RingDiffers ring
    ∷ option_map verdicts.WrongRange pieces
    ∷ option_map verdicts.TwoFirm two
    ∷ option_map verdicts.MissingFirm missing
    ∷ option_map verdicts.Stranger strange
    ∷ []))
first_is dump (Some silo) pieces two missing strange is_ring is_pieces is_two is_missing is_strange = is_ring
first_is dump None (Some silo) two missing strange is_ring is_pieces is_two is_missing is_strange = (is_ring, is_pieces)
first_is dump None None (Some grain) missing strange is_ring is_pieces is_two is_missing is_strange = (is_ring, is_pieces, is_two)
first_is dump None None None (Some grain) strange is_ring is_pieces is_two is_missing is_strange = (is_ring, is_pieces, is_two, is_missing)
first_is dump None None None None (Some grain) is_ring is_pieces is_two is_missing is_strange =
    (is_ring, is_pieces, is_two, is_missing, is_strange)
first_is dump None None None None None is_ring is_pieces is_two is_missing is_strange =
    record { rings = is_ring; pieces = is_pieces; one_firm = is_two; entered = is_missing; held = is_strange }

pub verdict_is : (dump : DumpValue) → AreHashes dump → right.IsVerdict dump (verdicts.verdict dump)
unfolding verdicts.verdict
verdict_is dump hashes =
    first_is dump _ _ _ _ _
    (first_such (verdicts.has_its_ring dump) Anything (right.HasItsRing dump) (λ node _. Decides-its_ring dump node)
    (verdicts.live_nodes dump) (all_anything (verdicts.live_nodes dump)))
    (first_such (verdicts.has_right_pieces dump) verdicts.HasHashes (right.HasRightPieces dump) (Decides-right_pieces dump)
    (verdicts.live_nodes dump) hashes)
    (least_such (FirmOnTwo dump) (verdicts.firm_on_two (verdicts.live_nodes dump)) (firm_on_two_is (verdicts.live_nodes dump))
    (is_firm_on_two (verdicts.live_nodes dump)))
    (least_such (right.IsMissing dump) (grains_of (verdicts.missing_firm dump))
    (grains_pass (λ entry. list_any (verdicts.is_missing_in dump entry) (verdicts.current_pieces dump)) _ (Decides-missing dump)
    (verdicts.firm_entries dump))
    (passing_grains (λ entry. list_any (verdicts.is_missing_in dump entry) (verdicts.current_pieces dump)) _ (Decides-missing dump)
    (verdicts.firm_entries dump)))
    (least_such (right.IsStrange dump) (grains_of (verdicts.strangers dump))
    (grains_pass (λ entry. not (verdicts.is_entry_among (verdicts.held_entries dump) entry)) _
    (λ entry. Decides-not _ (Decides-among (verdicts.held_entries dump) entry)) (verdicts.current_entries dump))
    (passing_grains (λ entry. not (verdicts.is_entry_among (verdicts.held_entries dump) entry)) _
    (λ entry. Decides-not _ (Decides-among (verdicts.held_entries dump) entry)) (verdicts.current_entries dump)))

all_middle : (P : DumpNode → Type 0) (before : List DumpNode) (node : DumpNode) (after : List DumpNode) → All P (before ++ node ∷ after)
    → P node
all_middle P [] node after all = All-head P node after all
all_middle P (first ∷ before) node after all = all_middle P before node after (All-tail P first (before ++ node ∷ after) all)

never_first : (P : DumpNode → Type 0) (nodes : List DumpNode) (silo : Silo) → right.IsFirstNot P nodes silo → All P nodes → ⊥
never_first P nodes silo is all =
    is.not_here (all_middle P is.before is.node is.after (subst (λ (list : List DumpNode). All P list) is.split all))

-- where all is right no fault is answered
no_fault : (dump : DumpValue) (answer : Option verdicts.DumpFault) → right.IsVerdict dump answer → right.IsRightDump dump → answer ≡ None
no_fault dump None is well = refl
no_fault dump (Some (verdicts.RingDiffers silo)) is well =
    absurd (never_first (right.HasItsRing dump) (verdicts.live_nodes dump) silo is well.rings)
no_fault dump (Some (verdicts.WrongRange silo)) is well =
    absurd (never_first (right.HasRightPieces dump) (verdicts.live_nodes dump) silo is.1 well.pieces)
no_fault dump (Some (verdicts.TwoFirm grain)) is well = absurd (well.one_firm grain is.2.is)
no_fault dump (Some (verdicts.MissingFirm grain)) is well = absurd (well.entered grain is.3.is)
no_fault dump (Some (verdicts.Stranger grain)) is well = absurd (well.held grain is.4.is)

pub none_is_right : (dump : DumpValue) → AreHashes dump → (verdicts.verdict dump ≡ None) ↔ right.IsRightDump dump
none_is_right dump hashes = (
  λ none. subst (λ (answer : Option verdicts.DumpFault). right.IsVerdict dump answer) none (verdict_is dump hashes),
  λ well. no_fault dump (verdicts.verdict dump) (verdict_is dump hashes) well,
)

-- Values that are read from tokens, one after another.
use Rattle.std.proofs.Common.{◌≡◌, ℕ, suc, ◌-◌, ◌<◌, ◌≤◌, List, [], ◌∷◌, ◌++◌, length, Option, Some, None, option_map, option_and_then, refl, sym, ◌∙◌, ap, append_assoc, append-nil, arith}
use Rattle.std.specs.Prelude.{IfOk, Result, Ok, Err}
use Rattle.json.specs.Token.{Token}
use Rattle.json.specs.Lex.{tokens}
use Rattle.json.specs.Json as json
use Rattle.json.specs.Json.{value, items, members, parse_map, after_end_array, if_last}
use Rattle.json.proofs.Grammar.{value_is, value-begin_array, value-begin_object, skip_value-shorter, items_end, items_more, members_end, members_more}
use Rattle.serde_json.specs.Data.{Data, unsigned, number, string, array, object, Items, no_items, item, Members, no_members, put}
use Rattle.serde_json.specs.Read.{of_json, of_items, of_members, converted, number_of, read}
use Rattle.dump_rules.specs.Values.{items_in, list_in, number_in}
use Rattle.dumps.specs.declared.error.DumpError.{DumpError}
use Rattle.dumps.specs.Straight.{IsAt, Tells, AreItems, TellItems}

-- ---- what was converted: what it came from, and what it gives
was_some : {A B : Type 0} (f : A → Option B) (o : Option (A × List Token)) (b : B) (r : List Token) → converted f o ≡ Some (b, r)
    → (a : A) × (o ≡ Some (a, r)) × (f a ≡ Some b)
was_some f None b r is = absurd (cc)
was_some {A} {B} f (Some p) b r is = by (f p.0) refl is
  where
    by : (x : Option B) → f p.0 ≡ x → option_map {U = B × List Token} (λ y. (y, p.1)) x ≡ Some (b, r)
        → (a : A) × (Some p ≡ Some (a, r)) × (f a ≡ Some b)
    by None gives is = absurd (cc)
    by (Some y) gives is =
        let told : y ≡ b = grind arith in let rest : p.1 ≡ r = grind arith in (p.0, ap (λ s. Some (p.0, s)) rest, gives ∙ ap Some told)

becomes : {A B : Type 0} (f : A → Option B) (o : Option (A × List Token)) (a : A) (b : B) (r : List Token) → o ≡ Some (a, r) → f a ≡ Some b
    → converted f o ≡ Some (b, r)
becomes f o a b r is gives = ap (converted f) is ∙ ap (λ x. option_map (λ y. (y, r)) x) gives

-- ---- one value
pub shorter_at : (deep : ℕ) (ts : List Token) (d : Data) (r : List Token) → IsAt deep ts d r → length r < length ts
shorter_at deep ts d r at =
    let j = was_some of_json (value deep ts) d r (at deep (omega arith)) in
    skip_value-shorter deep ts r (ap (option_map (λ p. p.1)) j.1)

no_end : (depth : ℕ) (ts : List Token) (d : Data) (r : List Token) → converted of_json (value depth ts) ≡ Some (d, r)
    → after_end_array ts ≡ None
no_end depth [] d r e = refl
no_end depth (Token.begin_object ∷ ts) d r e = refl
no_end depth (Token.end_object ∷ ts) d r e = refl
no_end depth (Token.begin_array ∷ ts) d r e = refl
no_end depth (Token.end_array ∷ ts) d r e =
    let never = sym (ap (converted of_json) (value_is depth (Token.end_array ∷ ts))) ∙ e in absurd (cc)
no_end depth (Token.key s ∷ ts) d r e = refl
no_end depth (Token.string s ∷ ts) d r e = refl
no_end depth (Token.number s ∷ ts) d r e = refl
no_end depth (Token.boolean b ∷ ts) d r e = refl
no_end depth (Token.null ∷ ts) d r e = refl
no_end depth (Token.bad ∷ ts) d r e = refl

text_at : (ts : List Token) (s : List ℕ) (r : List Token) → ts ≡ Token.string s ∷ r → IsAt 0 ts (string s) r
text_at ts s r is = λ depth deep. ap (converted of_json) (ap (value depth) is ∙ value_is depth (Token.string s ∷ r))

-- a string, of which the code reads what is lent
pub text_told : {X : Type 0} (reads : Data → Option X) (ts : List Token) (s lent : List ℕ) (r : List Token) (x : X)
    → ts ≡ Token.string s ∷ r → lent ≡ s → reads (string lent) ≡ Some x → Tells reads 0 ts x r
text_told reads ts s lent r x is same told = (string s, text_at ts s r is, sym (ap (λ text. reads (string text)) same) ∙ told)

number_at : (ts : List Token) (s : List ℕ) (r : List Token) (n : ℕ) → ts ≡ Token.number s ∷ r → number_of s ≡ Some (unsigned n)
    → IsAt 0 ts (number (unsigned n)) r
number_at ts s r n is told =
    λ depth deep. ap (converted of_json) (ap (value depth) is ∙ value_is depth (Token.number s ∷ r))
    ∙ ap (λ o. option_map {U = Data × List Token} (λ d. (d, r)) (option_map number o)) told

-- the whole text
pub read_whole : (text : List ℕ) (deep : ℕ) (d : Data) → deep ≤ 127 → IsAt deep (tokens text) d [] → read text ≡ Some d
read_whole text deep d low at =
    let j = was_some of_json (value 127 (tokens text)) d [] (at 127 low) in
    ap (λ o. option_and_then of_json (option_and_then (λ p. if_last p.0 p.1) o)) j.1 ∙ j.2

-- ---- the items of a list
pub no_items_at : (deep : ℕ) (ts r : List Token) → after_end_array ts ≡ Some r → AreItems deep ts no_items r
no_items_at deep ts r over = λ depth h n enough. ap (converted of_items) (items_end (value depth) n ts r enough over)

pub item_at : (low deep : ℕ) (ts r : List Token) (d : Data) (ds : Items) (rest : List Token) → low ≤ deep → IsAt low ts d r
    → AreItems deep r ds rest → AreItems deep ts (item d ds) rest
item_at low deep ts r d ds rest below at more = λ depth h n enough.
    let here = at depth (omega (arith, below, h)) in
    let j = was_some of_json (value depth ts) d r here in
    let less = shorter_at low ts d r at in
    let js = was_some of_items (items (value depth) (n - 1) r) ds rest (more depth h (n - 1) (omega (arith, less, enough))) in
    becomes of_items (items (value depth) n ts) (json.item j.0 js.0) (item d ds) rest
    (items_more (value depth) n ts r j.0 (omega (arith, less, enough)) (no_end depth ts d r here) j.1 ∙ ap (parse_map (json.item j.0)) js.1)
    (ap (λ o. option_and_then (λ one. option_map (item one) (of_items js.0)) o) j.2 ∙ ap (option_map (item d)) js.2)

pub array_at : (deep : ℕ) (ts r : List Token) (ds : Items) (rest : List Token) → ts ≡ Token.begin_array ∷ r → AreItems deep r ds rest
    → IsAt (suc deep) ts (array ds) rest
array_at deep ts r ds rest is more = λ depth h.
    let js = was_some of_items (items (value (depth - 1)) (length r) r) ds rest (more (depth - 1) (omega (arith, h)) (length r) (omega arith)) in
    becomes of_json (value depth ts) (json.array js.0) (array ds) rest
    (ap (value depth) is ∙ value-begin_array depth r (omega (arith, h)) ∙ ap (parse_map json.array) js.1) (ap (option_map array) js.2)

pub items_over : {X : Type 0} (reads : Data → Option X) (deep : ℕ) (ts r : List Token) → after_end_array ts ≡ Some r
    → TellItems reads deep ts [] r
items_over reads deep ts r over = (no_items, no_items_at deep ts r over, refl)

pub item_told : {X : Type 0} (reads : Data → Option X) (deep : ℕ) (ts r : List Token) (x : X) (xs : List X) (rest : List Token)
    → Tells reads deep ts x r → TellItems reads deep r xs rest → TellItems reads deep ts (x ∷ xs) rest
item_told reads deep ts r x xs rest one more = (
  item one.0 more.0,
  item_at deep deep ts r one.0 more.0 rest (omega arith) one.1 more.1,
  ap (λ o. option_and_then (λ y. option_map (λ ys. y ∷ ys) (items_in reads more.0)) o) one.2 ∙ ap (option_map (λ ys. x ∷ ys)) more.2,
)

pub list_told : {X : Type 0} (reads : Data → Option X) (deep : ℕ) (ts r : List Token) (xs : List X) (rest : List Token)
    → ts ≡ Token.begin_array ∷ r → TellItems reads deep r xs rest → Tells (list_in reads) (suc deep) ts xs rest
list_told reads deep ts r xs rest is more = (array more.0, array_at deep ts r more.0 rest is more.1, more.2)

-- ---- the members of an object
abbrev pub AreMembers : ℕ → Members → List Token → Members → List Token → Type 0
AreMembers deep old ts all rest =
    (depth : ℕ) → deep ≤ depth → (n : ℕ) → length ts ≤ n
    → converted (λ ms. of_members ms old) (members (value depth) n ts) ≡ Some (all, rest)

pub members_over : (deep : ℕ) (old : Members) (ts r : List Token) → ts ≡ Token.end_object ∷ r → AreMembers deep old ts old r
members_over deep old ts r is = λ depth h n enough.
    ap (converted (λ ms. of_members ms old)) (members_end (value depth) n ts r enough (ap json.read_key is))

pub member_at : (low deep : ℕ) (old all : Members) (k : List ℕ) (ts s r : List Token) (d : Data) (rest : List Token)
    → low ≤ deep → ts ≡ Token.key k ∷ s → IsAt low s d r → AreMembers deep (put k d old) r all rest → AreMembers deep old ts all rest
member_at low deep old all k ts s r d rest below is at more = λ depth h n enough.
    let j = was_some of_json (value depth s) d r (at depth (omega (arith, below, h))) in
    let less = shorter_at low s d r at in
    let long : length ts ≡ suc (length s) = ap length is in
    let ms = was_some (λ ms. of_members ms (put k d old)) (members (value depth) (n - 1) r) all rest (more depth h (n - 1) (omega (arith, less, long, enough))) in
    becomes (λ ms. of_members ms old) (members (value depth) n ts) (json.member k j.0 ms.0) all rest
    (members_more (value depth) n k ts s r j.0 (omega (arith, long, enough)) (ap json.read_key is) j.1
    ∙ ap (parse_map (json.member k j.0)) ms.1)
    (ap (λ o. option_and_then (λ one. of_members ms.0 (put k one old)) o) j.2 ∙ ms.2)

pub object_at : (deep : ℕ) (ts r : List Token) (all : Members) (rest : List Token) → ts ≡ Token.begin_object ∷ r
    → AreMembers deep no_members r all rest → IsAt (suc deep) ts (object all) rest
object_at deep ts r all rest is more = λ depth h.
    let ms = was_some (λ ms. of_members ms no_members) (members (value (depth - 1)) (length r) r) all rest (more (depth - 1) (omega (arith, h)) (length r) (omega arith)) in
    becomes of_json (value depth ts) (json.object ms.0) (object all) rest
    (ap (value depth) is ∙ value-begin_object depth r (omega (arith, h)) ∙ ap (parse_map json.object) ms.1) (ap (option_map object) ms.2)

-- ---- a list whose items are read in a loop

-- behind those that were read come the others
abbrev pub Continues : {X : Type 0} → (Data → Option X) → ℕ → List X → List Token → List Token → Type 0
Continues {X} reads deep front begun ts =
    (xs : List X) (rest : List Token) → TellItems reads deep ts xs rest → TellItems reads deep begun (front ++ xs) rest

pub begins : {X : Type 0} (reads : Data → Option X) (deep : ℕ) (front : List X) (ts : List Token) → front ≡ []
    → Continues reads deep front ts ts
begins reads deep front ts none = λ xs rest more. rw none more

pub continues : {X : Type 0} (reads : Data → Option X) (deep : ℕ) (front longer : List X) (x : X) (begun ts r : List Token)
    → Continues reads deep front begun ts → Tells reads deep ts x r → longer ≡ front ++ x ∷ [] → Continues reads deep longer begun r
continues reads deep front longer x begun ts r so_far one is = λ xs rest more.
    rw (is, append_assoc front (x ∷ []) xs) (so_far (x ∷ xs) rest (item_told reads deep ts r x xs rest one more))

pub ends : {X : Type 0} (reads : Data → Option X) (deep : ℕ) (front : List X) (begun ts r : List Token)
    → Continues reads deep front begun ts → after_end_array ts ≡ Some r → TellItems reads deep begun front r
ends reads deep front begun ts r so_far over = rw (append-nil front) at (so_far [] r (items_over reads deep ts r over))

pub shorter_told : {X : Type 0} (reads : Data → Option X) (deep : ℕ) (ts r : List Token) (x : X) → Tells reads deep ts x r
    → length r < length ts
shorter_told reads deep ts r x one = shorter_at deep ts one.0 r one.1

-- the text that tells a dump, and nothing else
pub straight_told : {X : Type 0} (reads : Data → Option X) (deep : ℕ) (text : List ℕ) (ts r : List Token) (x : X) → deep ≤ 127
    → ts ≡ tokens text → r ≡ [] → Tells reads deep ts x r
    → (told : Data) × (read text ≡ Some told) × (reads told ≡ Some x)
straight_told reads deep text ts r x low is over one =
    (one.0, read_whole text deep one.0 low (λ depth h. rw (is, over) at (one.1 depth h)), one.2)

-- a number
pub number_told : (ts : List Token) (s : List ℕ) (r : List Token) (n : ℕ) → ts ≡ Token.number s ∷ r → number_of s ≡ Some (unsigned n)
    → Tells number_in 0 ts n r
number_told ts s r n is told = (number (unsigned n), number_at ts s r n is told, refl)

pub list_if : {A X : Type 0} (see : A → List X) (reads : Data → Option X) (deep : ℕ) (ts r rest : List Token) (result : Result A DumpError)
    → ts ≡ Token.begin_array ∷ r → IfOk result (λ list. TellItems reads deep r (see list) rest)
    → IfOk result (λ list. Tells (list_in reads) (suc deep) ts (see list) rest)
list_if see reads deep ts r rest (Ok list) is more = list_told reads deep ts r (see list) rest is more
list_if see reads deep ts r rest (Err e) is more = tt

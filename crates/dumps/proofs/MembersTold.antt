-- Members read one after another, until their object ends.
use Rattle.std.proofs.Common.{◌≡◌, ℕ, Bool, true, false, true≢false, ◌||◌, suc, ◌+◌, ◌<◌, ◌≤◌, max, List, ◌∷◌, length, Option, Some, None, option_and_then, refl, sym, ◌∙◌, ap, subst, arith}
use Rattle.std.specs.List.{list_any}
use Rattle.std.specs.Prelude.{bytes_eq, IfOk, OnOk, Result, Ok, Err}
use Rattle.std.proofs.lemmas.Slice.Eq.{bytes_eq-Decides}
use Rattle.std.specs.Ordering.{nat_cmp, match_ordering}
use Rattle.std.specs.Cmp.Lexicographic.{slice_cmp}
use Rattle.std.specs.declared.cmp.Ordering.{Ordering}
use Rattle.std.specs.declared.cmp.Ordering.TheVariants.{Less, Equal, Greater}
use Rattle.json.specs.Token.{Token}
use Rattle.serde_json.specs.Data.{Data, string, Members, no_members, member, put}
use Rattle.serde_json.specs.Events.{members_len}
use Rattle.serde_json.specs.Find.{get_member}
use Rattle.serde_json.proofs.Views.{get_member-put}
use Rattle.dump_rules.specs.Values.{member_in}
use Rattle.dumps.specs.ReadAs.{IsReadingBy}
use Rattle.dumps.specs.Straight.{IsAt, TellsBy}
use Rattle.dumps.specs.declared.error.DumpError.{DumpError}
use Rattle.dumps.specs.MembersRead.{AreRead, IsApart, IsRead, Stands, filled}
use Rattle.dumps.specs.MemberNames.{text_of_name}
use Rattle.dumps.specs.declared.member_name.MemberName.{MemberName}
use Rattle.dumps.specs.declared.members.Member.{Member}
use Rattle.dumps.proofs.Along.{AreMembers, member_at, members_over, object_at, shorter_at, text_told}
use Rattle.dumps.proofs.MembersSoFar.{stands_on}

-- a member that was not there makes one more
length_at : (o : Ordering) (k l : List ℕ) (d e : Data) (ms : Members) → match_ordering o (get_member k ms) (Some e) (get_member k ms) ≡ None
    → (get_member k ms ≡ None → members_len (put k d ms) ≡ suc (members_len ms))
    → members_len (match_ordering o (member k d (member l e ms)) (member l d ms) (member l e (put k d ms))) ≡ suc (suc (members_len ms))
length_at Less k l d e ms none later = refl
length_at Equal k l d e ms none later = absurd (cc)
length_at Greater k l d e ms none later = ap suc (later none)

pub members_len-put : (k : List ℕ) (d : Data) (ms : Members) → get_member k ms ≡ None → members_len (put k d ms) ≡ suc (members_len ms)
members_len-put k d no_members none = refl
members_len-put k d (member l e ms) none = length_at (slice_cmp nat_cmp k l) k l d e ms none (members_len-put k d ms)

pub on_ok : {A E : Type 0} (P Q : Type 0) (result : Result A E) → (P → Q) → OnOk result P → OnOk result Q
on_ok P Q (Ok x) then is = then is
on_ok P Q (Err e) then is = tt

-- ---- names among others
first_among : (name : List ℕ) (others : List (List ℕ)) → list_any (bytes_eq name) (name ∷ others) ≡ true
first_among name others = ap (λ b. b || list_any (bytes_eq name) others) ((bytes_eq-Decides name name).1 refl)

later_among : (first name : List ℕ) (others : List (List ℕ)) → list_any (bytes_eq name) others ≡ true
    → list_any (bytes_eq name) (first ∷ others) ≡ true
later_among first name others is = by (bytes_eq name first)
  where
    by : (b : Bool) → (b || list_any (bytes_eq name) others) ≡ true
    by true = refl
    by false = is

-- a name that is none of them is none that is
none_of : (own name : List ℕ) (others : List (List ℕ)) → IsApart own others → list_any (bytes_eq name) others ≡ true → own ≡ name → ⊥
none_of own name others apart among same = true≢false (sym among ∙ sym (ap (λ n. list_any (bytes_eq n) others) same) ∙ apart)

-- what nests less deep is there as well
deeper : (low deep : ℕ) (ts : List Token) (value : Data) (rest : List Token) → low ≤ deep → IsAt low ts value rest → IsAt deep ts value rest
deeper low deep ts value rest below at = λ depth h. at depth (omega (arith, below, h))

-- ---- one member
module _ {X S : Type 0} (tells : Data → X → Type 0) (low : ℕ) (stands : S → Members → Type 0) (names : S → List (List ℕ)) (many : S → ℕ)
    (deep : ℕ) where
  abbrev pub all_stand : Member X S → Members → Type 0
  all_stand m found =
      Stands tells (text_of_name m.name) m.value found × IsApart (text_of_name m.name) (names m.others) × stands m.others found

  abbrev pub all_names : Member X S → List (List ℕ)
  all_names m = text_of_name m.name ∷ names m.others

  abbrev pub all_many : Member X S → ℕ
  all_many m = filled m.value + many m.others

  -- what has been read of the others stands on when a member of another name is found
  abbrev StandOn : S → Type 0
  StandOn others =
      (name : List ℕ) (value : Data) (found : Members) → IsApart name (names others) → stands others found
      → stands others (put name value found)

  -- the first one
  own_read : (name : MemberName) (others : S) (x : X) (ts named rest : List Token) → StandOn others
      → ts ≡ Token.key (text_of_name name) ∷ named → TellsBy tells low named x rest
      → IsRead all_stand all_names all_many (max low deep) (record { name = name; value = None; others = others })
      (record { name = name; value = Some x; others = others }) ts rest
  own_read name others x ts named rest on is one = record {
    name = text_of_name name;
    named = named;
    value = one.0;
    is = is;
    at = deeper low (max low deep) named one.0 rest (omega arith) one.1;
    among = first_among (text_of_name name) (names others);
    fresh = λ found stood. stood.0;
    with_it =
        λ found stood. (
          (one.0, get_member-put (text_of_name name) one.0 found, one.2),
          stood.1,
          on (text_of_name name) one.0 found stood.1
              stood.2,
        );
    same_names = refl;
    one_more = omega arith;
  }

  pub own_read_if : (old : Member X S) (x : X) (ts named rest : List Token) → StandOn old.others → old.value ≡ None
      → ts ≡ Token.key (text_of_name old.name) ∷ named → TellsBy tells low named x rest
      → IsRead all_stand all_names all_many (max low deep) old (record { name = old.name; value = Some x; others = old.others }) ts rest
  own_read_if old x ts named rest on none is one =
      subst (λ (value : Option X). IsRead all_stand all_names all_many (max low deep)
      (record { name = old.name; value = value; others = old.others }) (record { name = old.name; value = Some x; others = old.others })
      ts rest)
      (sym none) (own_read old.name old.others x ts named rest on is one)

  -- one of the others
  pub other_read : (own : MemberName) (read : Option X) (old new : S) (ts rest : List Token) → IsRead stands names many deep old new ts rest
      → IsRead all_stand all_names all_many (max low deep) (record { name = own; value = read; others = old })
      (record { name = own; value = read; others = new }) ts rest
  other_read own read old new ts rest one =
      let more = one.one_more in
      record {
        name = one.name;
        named = one.named;
        value = one.value;
        is = one.is;
        at = deeper deep (max low deep) one.named one.value rest (omega arith) one.at;
        among = later_among (text_of_name own) one.name (names old) one.among;
        fresh = λ found stood. one.fresh found stood.2;
        with_it = λ found stood. (
          stands_on tells (text_of_name own) one.name read one.value found
              (none_of (text_of_name own) one.name (names old) stood.1 one.among) stood.0,
          subst (IsApart (text_of_name own)) (sym one.same_names) stood.1,
          one.with_it found stood.2,
        );
        same_names = ap (λ those. text_of_name own ∷ those) one.same_names;
        one_more = omega (arith, more);
      }

-- ---- one after another
module _ {S : Type 0} (stands : S → Members → Type 0) (names : S → List (List ℕ)) (many : S → ℕ) (deep : ℕ) where
  -- behind those that were found come the others
  pub record SoFar (begun : S) (first : List Token) (read : S) (ts : List Token) : Type 0 where
    pub found : Members
    pub continues : (all : Members) (rest : List Token) → AreMembers deep found ts all rest → AreMembers deep no_members first all rest
    pub stand : stands read found
    pub same_names : names read ≡ names begun
    pub so_many : members_len found ≡ many read

  pub none_yet : (begun : S) (ts : List Token) → stands begun no_members → many begun ≡ 0 → SoFar begun ts begun ts
  none_yet begun ts stand none =
      record { found = no_members; continues = λ all rest more. more; stand = stand; same_names = refl; so_many = sym none }

  pub one_more : (begun : S) (first ts r : List Token) (old new : S) → SoFar begun first old ts → IsRead stands names many deep old new ts r
      → SoFar begun first new r
  one_more begun first ts r old new so one = record {
    found = put one.name one.value so.found;
    continues =
        λ all rest more. so.continues all rest (member_at deep deep so.found all one.name ts one.named r one.value rest (omega arith) one.is
        one.at more);
    stand = one.with_it so.found so.stand;
    same_names = one.same_names ∙ so.same_names;
    so_many = members_len-put one.name one.value so.found (one.fresh so.found so.stand) ∙ ap suc so.so_many ∙ sym one.one_more;
  }

  pub fewer : (ts r : List Token) (old new : S) → IsRead stands names many deep old new ts r → length r < length ts
  fewer ts r old new one =
      let less = shorter_at deep one.named one.value r one.at in
      let long : length ts ≡ suc (length one.named) = ap length one.is in
      omega (arith, less, long)

  pub all_read : (begun : S) (t0 first ts r : List Token) (read : S) → t0 ≡ Token.begin_object ∷ first → SoFar begun first read ts
      → ts ≡ Token.end_object ∷ r → AreRead stands names many deep begun read t0 r
  all_read begun t0 first ts r read opened so over = record {
    found = so.found;
    at = object_at deep t0 first so.found r opened (so.continues so.found r (members_over deep so.found ts r over));
    stand = so.stand;
    same_names = so.same_names;
    so_many = so.so_many;
  }

-- ---- a text that was read
pub text_if : {X Y : Type 0} (reads : Data → Option Y) (see : X → Y) (ts : List Token) (text lent : List ℕ) (rest : List Token)
    (result : Result X DumpError)
    → ts ≡ Token.string text ∷ rest → lent ≡ text → IsReadingBy see result (reads (string lent))
    → IfOk result (λ x. TellsBy (λ value x. reads value ≡ Some (see x)) 0 ts x rest)
text_if reads see ts text lent rest (Ok x) is same told = text_told reads ts text lent rest (see x) is same told
text_if reads see ts text lent rest (Err e) is same told = tt

-- ---- what the members tell, one by one, once all have been read
module _ {X S : Type 0} where
  -- the others behind the first member, as they began, and as they were read
  pub begun_behind : {Y : Type 0} (begun : Member Y (Member X S)) (name own : MemberName) (others : Member X S) (more : S)
      → begun ≡ record { name = name; value = None; others = others }
      → others ≡ record { name = own; value = None; others = more } → begun.others ≡ record { name = own; value = None; others = more }
  begun_behind begun name own others more is next = ap (λ m. m.others) is ∙ next

  pub others_behind : {Y : Type 0} (read : Member Y (Member X S)) (others : Member X S) (more : S) → read.others ≡ others
      → others.others ≡ more → read.others.others ≡ more
  others_behind read others more is next = ap (λ (m : Member X S). m.others) is ∙ next

  pub value_behind : {Y : Type 0} (read : Member Y (Member X S)) (others : Member X S) (x : X) → read.others ≡ others
      → others.value ≡ Some x → read.others.value ≡ Some x
  value_behind read others x is value = ap (λ (m : Member X S). m.value) is ∙ value

-- the first names of two lists of names
pub first_same : (one other : List ℕ) (ones others : List (List ℕ)) → one ∷ ones ≡ other ∷ others → one ≡ other
first_same one other ones others same = cc

pub rest_same : (one other : List ℕ) (ones others : List (List ℕ)) → one ∷ ones ≡ other ∷ others → ones ≡ others
rest_same one other ones others same = cc

-- what has been read of a member that began with the name
pub member_tells : {X Y S : Type 0} (tells : Data → X → Type 0) (reads : Data → Option Y) (see : X → Y)
    → ((value : Data) (x : X) → tells value x → reads value ≡ Some (see x))
    → (name : MemberName) (begun read : Member X S) (more : S) (x : X) (found : Members)
    → begun ≡ record { name = name; value = None; others = more } → text_of_name read.name ≡ text_of_name begun.name
    → Stands tells (text_of_name read.name) read.value found → read.value ≡ Some x
    → member_in reads (text_of_name name) found ≡ Some (see x)
member_tells tells reads see agrees name begun read more x found is same stood value =
    by read.value value (subst (λ own. Stands tells own read.value found) (same ∙ ap (λ (m : Member _ _). text_of_name m.name) is) stood)
  where
    by : (v : Option _) → v ≡ Some x → Stands tells (text_of_name name) v found → member_in reads (text_of_name name) found ≡ Some (see x)
    by None value stood = absurd (cc)
    by (Some y) value stood =
        let one : y ≡ x = grind arith in
        ap (option_and_then reads) stood.1 ∙ agrees stood.0 y stood.2 ∙ ap (λ z. Some (see z)) one

-- What a row says of its silo's status as the versions go by.
use Rattle.std.proofs.Common.{◌≡◌, ◌≢◌, ◌⊎◌, inl, inr, ℕ, ◌+◌, ◌<◌, ◌≤◌, Bool, true, false, IsSome, Option, Some, None, is_some, refl, sym, ◌∙◌, ap, arith, nat_le, if◌then◌else◌}
use Rattle.std.proofs.lemmas.Bool.{leb-true, le-leb, lt-leb}
use Rattle.std.proofs.lemmas.Option.{same_Some}
use Rattle.membership_view.specs.declared.row.Row.{Row}
use Rattle.membership_view.specs.declared.status.Status.{Status}
use Rattle.membership_view.specs.declared.status.Status.TheVariants.{Active, Leaving, Dead}
use Rattle.membership_view.specs.Row.{has_come, status_in, leaving, dying}
use Rattle.membership_view.specs.Whole.{IsInTime, changes_of}

-- a change that has been made stays made
pub has_come_later : (change : Option ℕ) (m n : ℕ) → m ≤ n → has_come change m ≡ true → has_come change n ≡ true
has_come_later None m n h come = cc
has_come_later (Some made) m n h come = let k : made ≤ m = leb-true made m come in le-leb made n (omega arith)

-- a change that has not been made by a version, and can't have been made later, has not been made
pub not_made : (change : Option ℕ) (version : ℕ) → ((made : ℕ) → change ≡ Some made → made ≤ version) → has_come change version ≡ false
    → change ≡ None
not_made None version by_then not_come = refl
not_made (Some made) version by_then not_come =
    let k : made ≤ version = by_then made refl in
    let e : nat_le made version ≡ true = le-leb made version k in
    cc

-- a change made by then has come
pub come : (change : Option ℕ) (version made : ℕ) → change ≡ Some made → made ≤ version → has_come change version ≡ true
come change version made is h = ap (λ c. has_come c version) is ∙ le-leb made version h

-- a change that is made only later, if ever, has not come
pub not_come : (change : Option ℕ) (version : ℕ) → ((made : ℕ) → change ≡ Some made → version < made) → has_come change version ≡ false
not_come None version later = refl
not_come (Some made) version later = lt-leb made version (later made refl)

-- the status, by what has come
abbrev by_come : Bool → Bool → Bool → Option Status
by_come dead left joined = if dead then Some Dead else (if left then Some Leaving else (if joined then Some Active else None))

pub active_is : (dead left joined : Bool) → by_come dead left joined ≡ Some Active → (dead ≡ false) × (left ≡ false) × (joined ≡ true)
active_is true left joined h = cc
active_is false true joined h = cc
active_is false false true h = (refl, refl, refl)
active_is false false false h = cc

pub not_dead_is : (dead left joined : Bool) → by_come dead left joined ≢ Some Dead → dead ≡ false
not_dead_is true left joined h = absurd (h refl)
not_dead_is false left joined h = refl

pub dead_is : (dead left joined : Bool) → by_come dead left joined ≡ Some Dead → dead ≡ true
dead_is true left joined h = refl
dead_is false true joined h = cc
dead_is false false true h = cc
dead_is false false false h = cc

pub there_is : (dead left joined : Bool) → IsSome (by_come dead left joined) → (dead ≡ true) ⊎ ((left ≡ true) ⊎ (joined ≡ true))
there_is true left joined h = inl refl
there_is false true joined h = inr (inl refl)
there_is false false true h = inr (inr refl)
there_is false false false h = cc

-- Dead stays Dead
pub dead_later : (row : Row) (m n : ℕ) → m ≤ n → status_in m row ≡ Some Dead → status_in n row ≡ Some Dead
dead_later row m n h is =
    let before : has_come row.dead m ≡ true = dead_is (has_come row.dead m) (has_come row.left m) (nat_le row.joined m) is in
    ap (λ b. by_come b (has_come row.left n) (nat_le row.joined n)) (has_come_later row.dead m n h before)

pub there_by : (dead left joined : Bool) → (dead ≡ true) ⊎ ((left ≡ true) ⊎ (joined ≡ true)) → IsSome (by_come dead left joined)
there_by true left joined h = refl
there_by false true joined h = refl
there_by false false true h = refl
there_by false false false h = elim h [ inl e ↦ cc | inr k ↦ elim k [ inl e ↦ cc | inr e ↦ cc ] ]

-- a row never goes
pub there_later : (row : Row) (m n : ℕ) → m ≤ n → IsSome (status_in m row) → IsSome (status_in n row)
there_later row m n h is =
    there_by (has_come row.dead n) (has_come row.left n) (nat_le row.joined n)
    (elim (there_is (has_come row.dead m) (has_come row.left m) (nat_le row.joined m) is) [
      | inl e ↦ inl (has_come_later row.dead m n h e)
      | inr k ↦ elim k [
        | inl e ↦ inr (inl (has_come_later row.left m n h e))
        | inr e ↦ inr (inr (has_come_later (Some row.joined) m n h e))
      ]
    ])

-- the changes of a row keep what it was in every earlier version
pub status_before_leaving : (version made : ℕ) (row : Row) → version < made → has_come row.left version ≡ false
    → status_in version (leaving made row) ≡ status_in version row
status_before_leaving version made row h not =
    ap (λ b. by_come (has_come row.dead version) b (nat_le row.joined version)) (lt-leb made version h ∙ sym not)

pub status_before_dying : (version made : ℕ) (row : Row) → version < made → has_come row.dead version ≡ false
    → status_in version (dying made row) ≡ status_in version row
status_before_dying version made row h not =
    ap (λ b. by_come b (has_come row.left version) (nat_le row.joined version)) (lt-leb made version h ∙ sym not)

-- how many changes a row has seen rises with each
pub changes_leaving : (made : ℕ) (row : Row) → row.left ≡ None → changes_of (leaving made row) ≡ changes_of row + 1
changes_leaving made row none = let e : is_some row.left ≡ false = ap is_some none in grind arith

pub changes_dying : (made : ℕ) (row : Row) → row.dead ≡ None → changes_of (dying made row) ≡ changes_of row + 1
changes_dying made row none = let e : is_some row.dead ≡ false = ap is_some none in grind arith

-- a change that came came after the silo joined
since : (change : Option ℕ) (joined version : ℕ) → ((made : ℕ) → change ≡ Some made → joined ≤ made) → has_come change version ≡ true
    → joined ≤ version
since None joined version after come = cc
since (Some made) joined version after come =
    let h : made ≤ version = leb-true made version come in let k : joined ≤ made = after made refl in omega arith

-- a row says something of a version from the joining of its silo on
pub joined_since : {first : ℕ} (now version : ℕ) (row : Row) → IsInTime first now row → IsSome (status_in version row) → row.joined ≤ version
joined_since now version row in' there =
    elim (there_is (has_come row.dead version) (has_come row.left version) (nat_le row.joined version) there) [
      | inl e ↦ since row.dead row.joined version (λ made is. (in'.dead_after made is).0) e
      | inr k ↦ elim k [
        | inl e ↦ since row.left row.joined version (λ made is. (in'.left_after made is).0) e
        | inr e ↦ leb-true row.joined version e
      ]
    ]

pub there_from : (version : ℕ) (row : Row) → row.joined ≤ version → IsSome (status_in version row)
there_from version row h =
    there_by (has_come row.dead version) (has_come row.left version) (nat_le row.joined version) (inr (inr (le-leb row.joined version h)))

-- and nothing before
pub nothing_before : {first : ℕ} (now version : ℕ) (row : Row) → IsInTime first now row → version < row.joined → status_in version row ≡ None
nothing_before now version row in' h =
    ap (λ b. by_come b (has_come row.left version) (nat_le row.joined version))
    (not_come row.dead version (λ made is. let k = (in'.dead_after made is).0 in omega arith))
    ∙ ap (λ b. by_come false b (nat_le row.joined version))
    (not_come row.left version (λ made is. let k = (in'.left_after made is).0 in omega arith))
    ∙ ap (λ b. by_come false false b) (lt-leb row.joined version h)

come_same : (change : Option ℕ) (version : ℕ) → ((made : ℕ) → change ≡ Some made → made ≤ version)
    → has_come change (version + 1) ≡ has_come change version
come_same None version by_then = refl
come_same (Some made) version by_then =
    let h : made ≤ version = by_then made refl in le-leb made (version + 1) (omega arith) ∙ sym (le-leb made version h)

-- a row that no change touches says the same of the next version
pub status_next : {first : ℕ} (version : ℕ) (row : Row) → IsInTime first version row → status_in (version + 1) row ≡ status_in version row
status_next version row in' =
    ap (λ b. by_come b (has_come row.left (version + 1)) (nat_le row.joined (version + 1)))
    (come_same row.dead version (λ made is. (in'.dead_after made is).1))
    ∙ ap (λ b. by_come (has_come row.dead version) b (nat_le row.joined (version + 1)))
    (come_same row.left version (λ made is. (in'.left_after made is).1))
    ∙ ap (λ b. by_come (has_come row.dead version) (has_come row.left version) b)
    (come_same (Some row.joined) version (λ made is. here made (same_Some row.joined made is)))
  where
    here : (made : ℕ) → row.joined ≡ made → made ≤ version
    here made is = let k : row.joined ≤ version = in'.joined_by in omega arith

-- a row whose death has come is Dead
pub dead_by_come : (version : ℕ) (row : Row) → has_come row.dead version ≡ true → status_in version row ≡ Some Dead
dead_by_come version row come = ap (λ b. by_come b (has_come row.left version) (nat_le row.joined version)) come

-- a row with a death that came is Dead
pub dead_by : (version made : ℕ) (row : Row) → row.dead ≡ Some made → made ≤ version → status_in version row ≡ Some Dead
dead_by version made row is h =
    ap (λ b. by_come b (has_come row.left version) (nat_le row.joined version)) (come row.dead version made is h)

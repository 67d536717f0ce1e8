-- Requests that come and go one after another, under their numbers.
use Rattle.std.proofs.Common.{◌≡◌, refl, sym, ap, subst, ◌∙◌, ℕ, ◌<◌, List, [], ◌∷◌, ◌++◌, cond, Bool, true, false, Option, Some, None, is_some, arith}
use Rattle.std.specs.List.{AllByRecursion}
use Rattle.std.specs.List.Sorted.{IsStrictlySortedBy}
use Rattle.std.specs.Map.{keys_of, remove_entry}
use Rattle.std.specs.BTreeMap.{is_at, insert_entry}
use Rattle.std.specs.Ordering.{nat_cmp}
use Rattle.std.specs.declared.cmp.Ordering.TheVariants.{Less, Equal}
use Rattle.std.specs.Prelude.{MatchOption}
use Rattle.std.proofs.lemmas.Cmp.{tied_itself, nat_cmp_total}
use Rattle.std.proofs.lemmas.Map.Keys.{sorted_head, sorted_tail}
use Rattle.std.proofs.lemmas.Map.Lookups.{exact_unsigned}
use Rattle.texts.proofs.Orderings.{at_itself}
use Rattle.membership_view.proofs.Found.{same_entries}
use Rattle.host_activations.specs.declared.asked.OutstandingRequest.{OutstandingRequest}
use Rattle.host_activations.specs.Asked.{asked_under}
use Rattle.host_activations.proofs.Agreement.{asked_put, asked_taken}
use Rattle.host_activations.proofs.Grains.{either}
use Rattle.host_activations.proofs.Numbers.{on_number}
use Rattle.host_activations.proofs.Ranks.{less_means}

abbrev Requests : Type 0
Requests = List (ℕ × OutstandingRequest)

-- no request has a number above all
pub none_above : (n : ℕ) (es : List (ℕ × OutstandingRequest)) → AllByRecursion (λ k. k < n) (keys_of es) → asked_under n es ≡ None
none_above n [] below = refl
none_above n (e ∷ es) below =
    on_number (λ b. cond b (Some e.1) (asked_under n es) ≡ None) n e.0
    (λ same. let low = below.0 in absurd (omega (low, same, arith))) (λ other. none_above n es below.1)

-- nor the number of one before it
none_behind : (n : ℕ) (es : List (ℕ × OutstandingRequest)) → AllByRecursion (λ k. nat_cmp n k ≡ Less) (keys_of es) → asked_under n es ≡ None
none_behind n [] above = refl
none_behind n (e ∷ es) above =
    on_number (λ b. cond b (Some e.1) (asked_under n es) ≡ None) n e.0
    (λ same. let h : Equal ≡ Less = sym (tied_itself nat_cmp_total n) ∙ ap (nat_cmp n) same ∙ above.0 in cc)
    (λ other. none_behind n es above.1)

-- those before one that stands in order are below it
pub below_next : {X : Type 0} (xs : List (ℕ × X)) (y : ℕ × X) (ys : List (ℕ × X)) → IsStrictlySortedBy nat_cmp (keys_of (xs ++ y ∷ ys))
    → AllByRecursion (λ j. j < y.0) (keys_of xs)
below_next [] y ys sorted = tt
below_next {X} (x ∷ xs) y ys sorted = (
  less_means x.0 y.0 (there xs (sorted_head nat_cmp x.0 (keys_of (xs ++ y ∷ ys)) sorted)),
  below_next xs y ys
      (sorted_tail nat_cmp x.0 (keys_of (xs ++ y ∷ ys)) sorted),
)
  where
    there : (zs : List (ℕ × X)) → AllByRecursion (λ k. nat_cmp x.0 k ≡ Less) (keys_of (zs ++ y ∷ ys)) → nat_cmp x.0 y.0 ≡ Less
    there [] all = all.0
    there (z ∷ zs) all = there zs all.1

-- ---- All come.
-- what is put so far, where these are left
pub record ArePut (left now more old : List (ℕ × OutstandingRequest)) : Type 0 where
  pub put : (n : ℕ) → either (asked_under n left) (asked_under n now) ≡ either (asked_under n more) (asked_under n old)
  pub free : (n : ℕ) → is_some (asked_under n left) ≡ true → asked_under n now ≡ None
  pub within : (n : ℕ) → is_some (asked_under n left) ≡ true → is_some (asked_under n more) ≡ true
  pub rises : IsStrictlySortedBy nat_cmp (keys_of left)

pub first_free : (k : ℕ) (a : OutstandingRequest) (left now more old : Requests) → ArePut ((k, a) ∷ left) now more old
    → asked_under k now ≡ None
first_free k a left now more old are = are.free k (ap (λ b. is_some (cond b (Some a) (asked_under k left))) (at_itself k))

pub put_first : (k : ℕ) (a : OutstandingRequest) (left now more old new : Requests) → ArePut ((k, a) ∷ left) now more old
    → new ≡ insert_entry nat_cmp now k a → ArePut left new more old
put_first k a left now more old new are is = subst (λ l. ArePut left l more old) (sym is) (record {
  put = λ n.
      ap (λ o. either (asked_under n left) o) (asked_put now k a n)
      ∙ on_number (λ b. either (asked_under n left) (cond b (Some a) (asked_under n now)) ≡ either (cond b (Some a) (asked_under n left))
      (asked_under n now)) n k
      (λ same. ap (λ o. either o (Some a)) (ap (λ (m : ℕ). asked_under m left) same ∙ gone)) (λ other. refl)
      ∙ are.put n;
  free = λ n some.
      asked_put now k a n
      ∙ on_number (λ b. cond b (Some a) (asked_under n now) ≡ None) n k
      (λ same. let no : false ≡ true = sym (ap is_some (ap (λ (m : ℕ). asked_under m left) same ∙ gone)) ∙ some in cc)
      (λ other. are.free n (ap (λ b. is_some (cond b (Some a) (asked_under n left))) other ∙ some));
  within = λ n some. are.within n (either_way n (is_at (nat_cmp n) k) some);
  rises = sorted_tail nat_cmp k (keys_of left) are.rises;
}) where
  gone : asked_under k left ≡ None
  gone = none_behind k left (sorted_head nat_cmp k (keys_of left) are.rises)

  either_way : (n : ℕ) (b : Bool) → is_some (asked_under n left) ≡ true → is_some (cond b (Some a) (asked_under n left)) ≡ true
  either_way n true some = refl
  either_way n false some = some

pub none_put : (more old : Requests) → IsStrictlySortedBy nat_cmp (keys_of more)
    → ((n : ℕ) → is_some (asked_under n more) ≡ true → asked_under n old ≡ None) → ArePut more old more old
none_put more old sorted free = record { put = λ n. refl; free = free; within = λ n some. some; rises = sorted }

pub all_put : (now more old : Requests) → ArePut [] now more old → (n : ℕ)
    → MatchOption (asked_under n more) (asked_under n now ≡ asked_under n old) (λ asked. asked_under n now ≡ Some asked)
all_put now more old are n = by (asked_under n more) (are.put n)
  where
    by : (o : Option OutstandingRequest) → asked_under n now ≡ either o (asked_under n old)
        → MatchOption o (asked_under n now ≡ asked_under n old) (λ asked. asked_under n now ≡ Some asked)
    by None is = is
    by (Some asked) is = is

-- and where no more may come all go again
pub put_away : (left now more old new : Requests) → ArePut left now more old
    → ((n : ℕ) → is_some (asked_under n more) ≡ true → asked_under n old ≡ None) → IsStrictlySortedBy nat_cmp (keys_of old)
    → IsStrictlySortedBy nat_cmp (keys_of new)
    → ((n : ℕ) → asked_under n new ≡ cond (is_some (asked_under n more)) None (asked_under n now)) → new ≡ old
put_away left now more old new are free sorted sorted_new gone =
    same_entries nat_cmp_total exact_unsigned new old sorted_new sorted
    (λ n. gone n ∙ by n (asked_under n more) refl (asked_under n left) refl (are.put n))
  where
    by : (n : ℕ) (o : Option OutstandingRequest) → asked_under n more ≡ o → (l : Option OutstandingRequest) → asked_under n left ≡ l
        → either l (asked_under n now) ≡ either (asked_under n more) (asked_under n old)
        → cond (is_some (asked_under n more)) None (asked_under n now) ≡ asked_under n old
    by n (Some a) at l is_left put = ap (λ o. cond (is_some o) None (asked_under n now)) at ∙ sym (free n (ap is_some at))
    by n None at None is_left put = ap (λ o. cond (is_some o) None (asked_under n now)) at ∙ put ∙ ap (λ o. either o (asked_under n old)) at
    by n None at (Some b) is_left put = let no : false ≡ true = sym (ap is_some at) ∙ are.within n (ap is_some is_left) in cc

-- ---- All go.
pub take_first : (k : ℕ) (a : OutstandingRequest) (left now new : Requests) (rest : ℕ → Option OutstandingRequest)
    → IsStrictlySortedBy nat_cmp (keys_of now) → new ≡ remove_entry (is_at (nat_cmp k)) now
    → ((n : ℕ) → cond (is_some (asked_under n ((k, a) ∷ left))) None (asked_under n now) ≡ rest n) → (n : ℕ)
    → cond (is_some (asked_under n left)) None (asked_under n new) ≡ rest n
take_first k a left now new rest sorted is gone n =
    ap (λ l. cond (is_some (asked_under n left)) None (asked_under n l)) is
    ∙ ap (λ o. cond (is_some (asked_under n left)) None o) (asked_taken now k n sorted)
    ∙ on_number (λ b. cond (is_some (asked_under n left)) None (cond b None (asked_under n now)) ≡ cond
    (is_some (asked_under n ((k, a) ∷ left))) None (asked_under n now)) k n
    (λ same. none (is_some (asked_under n left))
    ∙ sym (ap (λ b. cond (is_some (cond b (Some a) (asked_under n left))) None (asked_under n now))
    (ap (λ (m : ℕ). is_at (nat_cmp m) k) (sym same) ∙ at_itself k)))
    (λ other. ap (λ b. cond (is_some (cond b (Some a) (asked_under n left))) None (asked_under n now)) (sym (apart other)))
    ∙ gone n
  where
    none : (b : Bool) → ◌≡◌ {A = Option OutstandingRequest} (cond b None None) None
    none true = refl
    none false = refl

    apart : is_at (nat_cmp k) n ≡ false → is_at (nat_cmp n) k ≡ false
    apart other =
        on_number (λ b. b ≡ false) n k (λ same.
        let h : true ≡ false = sym (at_itself k) ∙ ap (λ (m : ℕ). is_at (nat_cmp k) m) (sym same) ∙ other in cc) (λ also. refl)

-- The finds stand under their grains again where a request comes or goes.
use Rattle.std.proofs.Common.{◌≡◌, refl, sym, ap, subst, ◌∙◌, ℕ, ◌<◌, ◌^◌, List, [], length, cond, Bool, true, false, Option, Some, None, is_some, option_and_then, arith}
use Rattle.std.specs.Prelude.{MatchOption}
use Rattle.std.specs.Map.{keys_of, lookup, remove_entry}
use Rattle.std.specs.BTreeMap.{is_at, insert_entry}
use Rattle.std.specs.Cmp.{IsTotalOrder}
use Rattle.std.specs.Ordering.{is_eq, nat_cmp}
use Rattle.std.proofs.lemmas.Cmp.{eq_by_cmp_equiv, then_total, on_total, nat_cmp_total, tied_itself}
use Rattle.std.proofs.lemmas.Map.{lookup-remove_entry}
use Rattle.std.proofs.lemmas.Map.Keys.{IsDistinct-from_sorted}
use Rattle.std.proofs.lemmas.Map.Lookups.{CmpEqualImpliesEq, exact_unsigned}
use Rattle.texts.proofs.Entries.{lookup-insert_entry, length-insert_entry, sorted-insert_entry, sorted-remove_entry, sorted-nil, remove-insert_entry}
use Rattle.texts.proofs.Orderings.{Equal-from, at_itself}
use Rattle.silo_address.specs.Grain.{Grain, grain_cmp, grain_eq}
use Rattle.silo_address.proofs.Order.{both_tie, grain_cmp_total, grain_cmp_exact}
use Rattle.silo_address.proofs.Same.{Decides-grain}
use Rattle.host_activations.specs.declared.asked.OutstandingRequest.{OutstandingRequest}
use Rattle.host_activations.specs.declared.asked.OutstandingRequest.TheVariants.{Activation, Find}
use Rattle.host_activations.specs.declared.outstanding.by_grain.FindKey.{FindKey}
use Rattle.host_activations.specs.Asked.{asked_under, find_in}
use Rattle.host_activations.specs.Outstanding.{AreIndexed, find_key_cmp, is_find_of}
use Rattle.host_activations.proofs.Agreement.{asked_put, asked_taken}
use Rattle.host_activations.proofs.Entries.{length-remove_entry}
use Rattle.host_activations.proofs.Finds.{find_less, find_more, finds_kept, finds_stay}
use Rattle.host_activations.proofs.Grains.{on_test}
use Rattle.host_activations.proofs.Numbers.{on_number}

-- ---- The order of finds.
pub find_key_cmp_total : IsTotalOrder find_key_cmp
find_key_cmp_total = then_total (on_total (λ k. k.grain) grain_cmp_total) (on_total (λ k. k.number) nat_cmp_total)

abbrev pub find_key : Grain → ℕ → FindKey
find_key grain number = record { grain = grain; number = number }

pub find_key_cmp_exact : CmpEqualImpliesEq find_key_cmp
find_key_cmp_exact a b tied =
    let both = both_tie (grain_cmp a.grain b.grain) (nat_cmp a.number b.number) tied in
    λ i. find_key (grain_cmp_exact a.grain b.grain both.0 i) (exact_unsigned a.number b.number both.1 i)

abbrev pub is_key : FindKey → FindKey → Bool
is_key a b = is_at (find_key_cmp a) b

pub key_itself : (k : FindKey) → is_key k k ≡ true
key_itself k = ap is_eq (tied_itself find_key_cmp_total k)

-- two keys: one, or not
pub on_find_key : (P : Bool → Type 0) (a b : FindKey) → (a ≡ b → P true) → ((a ≡ b → ⊥) → P false) → P (is_key a b)
on_find_key P a b same other =
    on_test P (is_key a b) (λ h. same (find_key_cmp_exact a b (Equal-from (find_key_cmp a b) h)))
    (λ h. other (λ e. let no : true ≡ false = sym (key_itself a) ∙ ap (λ (k : FindKey). is_key a k) e ∙ h in cc))

-- ---- The finds with one more, or one less.
abbrev pub Keys : Type 0
Keys = List (FindKey × Unit {0})

abbrev pub with_find : Option Grain → ℕ → Keys → Keys
with_find None number keys = keys
with_find (Some grain) number keys = insert_entry find_key_cmp keys (find_key grain number) tt

abbrev pub without_find : Option Grain → ℕ → Keys → Keys
without_find None number keys = keys
without_find (Some grain) number keys = remove_entry (is_key (find_key grain number)) keys

pub put_is : (grain : Option Grain) (number : ℕ) (old new : Keys)
    → MatchOption grain (new ≡ old) (λ its. new ≡ insert_entry find_key_cmp old (find_key its number) tt) → new ≡ with_find grain number old
put_is None number old new is = is
put_is (Some grain) number old new is = is

pub taken_is : (grain : Option Grain) (number : ℕ) (old new : Keys)
    → MatchOption grain (new ≡ old) (λ its. new ≡ remove_entry (is_key (find_key its number)) old) → new ≡ without_find grain number old
taken_is None number old new is = is
taken_is (Some grain) number old new is = is

pub none_indexed : AreIndexed [] []
none_indexed = record {
  in_order = sorted-nil nat_cmp;
  by_grain = sorted-nil find_key_cmp;
  found = λ key. refl;
  counted = refl;
  within = λ key there. cc;
}

-- a find of another grain, or under another number
other_find : (key : FindKey) (grain : Grain) (number : ℕ) → (key ≡ find_key grain number → ⊥) → key.number ≡ number
    → grain_eq grain key.grain ≡ false
other_find key grain number apart same =
    on_test (λ b. b ≡ false) (grain_eq grain key.grain)
    (λ h. absurd (apart (λ i. find_key (sym ((Decides-grain grain key.grain).0 h) i) (same i)))) (λ h. refl)

none_at : (key : FindKey) (keys : Keys) → is_some (lookup (is_key key) keys) ≡ false → lookup (is_key key) keys ≡ None
none_at key keys none = by (lookup (is_key key) keys) none
  where
    by : (o : Option (Unit {0})) → is_some o ≡ false → o ≡ None
    by None none = refl
    by (Some x) none = cc

some_at : (key : FindKey) (keys : Keys) → is_some (lookup (is_key key) keys) ≡ true → lookup (is_key key) keys ≡ Some tt
some_at key keys some = by (lookup (is_key key) keys) some
  where
    by : (o : Option (Unit {0})) → is_some o ≡ true → o ≡ Some tt
    by None some = cc
    by (Some x) some = refl

module _ (out : List (ℕ × OutstandingRequest)) (keys : Keys) (are : AreIndexed out keys) (number : ℕ) where
  is_free : asked_under number out ≡ None → (grain : Grain) → lookup (is_key (find_key grain number)) keys ≡ None
  is_free free grain = none_at (find_key grain number) keys (are.found (find_key grain number) ∙ ap (is_find_of grain) free)

  -- what is found after a request came under the number, where the finds are as they were
  stays_put : (grain : Grain) → asked_under number out ≡ None → (key : FindKey)
      → is_some (lookup (is_key key) keys) ≡ is_find_of key.grain
      (asked_under key.number (insert_entry nat_cmp out number (Activation grain)))
  stays_put grain free key =
      are.found key
      ∙ on_number (λ b. is_find_of key.grain (asked_under key.number out) ≡ is_find_of key.grain
      (cond b (Some (Activation grain)) (asked_under key.number out))) key.number number
      (λ same. ap (λ n. is_find_of key.grain (asked_under n out)) same ∙ ap (is_find_of key.grain) free) (λ other. refl)
      ∙ ap (is_find_of key.grain) (sym (asked_put out number (Activation grain) key.number))

  found_put : (grain : Grain) → asked_under number out ≡ None → (key : FindKey)
      → is_some (lookup (is_key key) (with_find (Some grain) number keys)) ≡ is_find_of key.grain
      (asked_under key.number (insert_entry nat_cmp out number (Find grain)))
  found_put grain free key =
      ap is_some (lookup-insert_entry find_key_cmp_total (find_key grain number) tt key keys)
      ∙ on_find_key (λ b. is_some (cond b (Some tt) (lookup (is_key key) keys)) ≡ is_find_of key.grain
      (cond (is_at (nat_cmp key.number) number) (Some (Find grain)) (asked_under key.number out))) key (find_key grain number)
      (λ same. sym
      (ap (λ b. is_find_of key.grain (cond b (Some (Find grain)) (asked_under key.number out)))
      (ap (λ (k : FindKey). is_at (nat_cmp key.number) k.number) (sym same) ∙ at_itself key.number)
      ∙ (Decides-grain grain key.grain).1 (ap (λ (k : FindKey). k.grain) (sym same))))
      (λ apart. on_number (λ b. is_some (lookup (is_key key) keys) ≡ is_find_of key.grain
      (cond b (Some (Find grain)) (asked_under key.number out))) key.number number
      (λ same. are.found key ∙ ap (λ n. is_find_of key.grain (asked_under n out)) same ∙ ap (is_find_of key.grain) free
      ∙ sym (other_find key grain number apart same))
      (λ other. are.found key))
      ∙ ap (is_find_of key.grain) (sym (asked_put out number (Find grain) key.number))

  pub put_indexed : (asked : OutstandingRequest) → asked_under number out ≡ None → number < 2 ^ 64
      → AreIndexed (insert_entry nat_cmp out number asked) (with_find (find_in asked) number keys)
  put_indexed (Activation grain) free fits = record {
    in_order = sorted-insert_entry nat_cmp_total number (Activation grain) out are.in_order;
    by_grain = are.by_grain;
    found = stays_put grain free;
    counted = are.counted ∙ ap (λ (l : List (ℕ × Grain)). length l) (sym (finds_stay out are.in_order number grain free));
    within = are.within;
  }
  put_indexed (Find grain) free fits = record {
    in_order = sorted-insert_entry nat_cmp_total number (Find grain) out are.in_order;
    by_grain = sorted-insert_entry find_key_cmp_total (find_key grain number) tt keys are.by_grain;
    found = found_put grain free;
    counted =
        let more = length-insert_entry find_key_cmp_total (find_key grain number) tt keys (is_free free grain) in
        let finds = find_more out are.in_order number grain free in let counted = are.counted in
        omega (more, finds, counted, arith);
    within = λ key there.
        on_find_key (λ b. is_some (cond b (Some tt) (lookup (is_key key) keys)) ≡ true → key.number < 2 ^ 64) key (find_key grain number)
        (λ same _. let its : key.number ≡ number = ap (λ (k : FindKey). k.number) same in omega (its, fits, arith))
        (λ apart some. are.within key some)
        (sym (ap is_some (lookup-insert_entry find_key_cmp_total (find_key grain number) tt key keys)) ∙ there);
  }

  -- and after it went
  stays_taken : (grain : Grain) → asked_under number out ≡ Some (Activation grain) → (key : FindKey)
      → is_some (lookup (is_key key) keys) ≡ is_find_of key.grain (asked_under key.number (remove_entry (is_at (nat_cmp number)) out))
  stays_taken grain there key =
      are.found key
      ∙ on_number (λ b. is_find_of key.grain (asked_under key.number out) ≡ is_find_of key.grain (cond b None (asked_under key.number out)))
      number key.number
      (λ same. ap (λ n. is_find_of key.grain (asked_under n out)) (sym same) ∙ ap (is_find_of key.grain) there) (λ other. refl)
      ∙ ap (is_find_of key.grain) (sym (asked_taken out number key.number are.in_order))

  without_key : (grain : Grain) (key : FindKey) → lookup (is_key key) (without_find (Some grain) number keys) ≡ cond
      (is_key (find_key grain number) key) None (lookup (is_key key) keys)
  without_key grain key =
      lookup-remove_entry (eq_by_cmp_equiv find_key_cmp_total) (is_key (find_key grain number))
      ((eq_by_cmp_equiv find_key_cmp_total).congr (find_key grain number)) key keys
      (IsDistinct-from_sorted find_key_cmp (keys_of keys) are.by_grain)

  found_taken : (grain : Grain) → asked_under number out ≡ Some (Find grain) → (key : FindKey)
      → is_some (lookup (is_key key) (without_find (Some grain) number keys)) ≡ is_find_of key.grain
      (asked_under key.number (remove_entry (is_at (nat_cmp number)) out))
  found_taken grain there key =
      ap is_some (without_key grain key)
      ∙ on_find_key (λ b. is_some (cond b None (lookup (is_key key) keys)) ≡ is_find_of key.grain
      (cond (is_at (nat_cmp number) key.number) None (asked_under key.number out))) (find_key grain number) key
      (λ same. sym (ap (λ b. is_find_of key.grain (cond b None (asked_under key.number out)))
      (ap (λ (k : FindKey). is_at (nat_cmp number) k.number) (sym same) ∙ at_itself number)))
      (λ apart. on_number (λ b. is_some (lookup (is_key key) keys) ≡ is_find_of key.grain (cond b None (asked_under key.number out))) number
      key.number
      (λ same. are.found key ∙ ap (λ n. is_find_of key.grain (asked_under n out)) (sym same) ∙ ap (is_find_of key.grain) there
      ∙ other_find key grain number (λ e. apart (sym e)) (sym same))
      (λ other. are.found key))
      ∙ ap (is_find_of key.grain) (sym (asked_taken out number key.number are.in_order))

  its_key : (grain : Grain) → asked_under number out ≡ Some (Find grain) → lookup (is_key (find_key grain number)) keys ≡ Some tt
  its_key grain there =
      some_at (find_key grain number) keys (are.found (find_key grain number) ∙ ap (is_find_of grain) there
      ∙ (Decides-grain grain grain).1 refl)

  pub taken_indexed : (asked : OutstandingRequest) → asked_under number out ≡ Some asked
      → AreIndexed (remove_entry (is_at (nat_cmp number)) out) (without_find (find_in asked) number keys)
  taken_indexed (Activation grain) there = record {
    in_order = sorted-remove_entry (is_at (nat_cmp number)) nat_cmp out are.in_order;
    by_grain = are.by_grain;
    found = stays_taken grain there;
    counted =
        are.counted ∙ ap (λ (l : List (ℕ × Grain)). length l)
        (sym (finds_kept out are.in_order number (ap (λ o. option_and_then find_in o) there)));
    within = are.within;
  }
  taken_indexed (Find grain) there = record {
    in_order = sorted-remove_entry (is_at (nat_cmp number)) nat_cmp out are.in_order;
    by_grain = sorted-remove_entry (is_key (find_key grain number)) find_key_cmp keys are.by_grain;
    found = found_taken grain there;
    counted =
        let less = length-remove_entry (is_key (find_key grain number)) keys tt (its_key grain there) in
        let finds = find_less out are.in_order number grain there in let counted = are.counted in
        omega (less, finds, counted, arith);
    within = λ key some.
        on_find_key (λ b. is_some (cond b None (lookup (is_key key) keys)) ≡ true → key.number < 2 ^ 64) (find_key grain number) key
        (λ same no. cc) (λ apart yes. are.within key yes) (sym (ap is_some (without_key grain key)) ∙ some);
  }

-- ---- What a call makes of both.
module _ (out : List (ℕ × OutstandingRequest)) (keys : Keys) (are : AreIndexed out keys) (number : ℕ) (asked : OutstandingRequest) where
  pub put_are : asked_under number out ≡ None → number < 2 ^ 64 → (out_new : List (ℕ × OutstandingRequest)) (keys_new : Keys)
      → out_new ≡ insert_entry nat_cmp out number asked → keys_new ≡ with_find (find_in asked) number keys
      → AreIndexed out_new keys_new
  put_are free fits out_new keys_new out_is keys_are =
      subst (λ l. AreIndexed l keys_new) (sym out_is)
      (subst (λ l. AreIndexed (insert_entry nat_cmp out number asked) l) (sym keys_are)
      (put_indexed out keys are number asked free fits))

  pub taken_are : asked_under number out ≡ Some asked → (out_new : List (ℕ × OutstandingRequest)) (keys_new : Keys)
      → out_new ≡ remove_entry (is_at (nat_cmp number)) out → keys_new ≡ without_find (find_in asked) number keys
      → AreIndexed out_new keys_new
  taken_are there out_new keys_new out_is keys_are =
      subst (λ l. AreIndexed l keys_new) (sym out_is)
      (subst (λ l. AreIndexed (remove_entry (is_at (nat_cmp number)) out) l) (sym keys_are)
      (taken_indexed out keys are number asked there))

  -- what is put and taken again leaves what was there
  pub undone : asked_under number out ≡ None → without_find (find_in asked) number (with_find (find_in asked) number keys) ≡ keys
  undone free = by asked
    where
      by : (a : OutstandingRequest) → without_find (find_in a) number (with_find (find_in a) number keys) ≡ keys
      by (Activation grain) = refl
      by (Find grain) = remove-insert_entry find_key_cmp_total (find_key grain number) tt keys (is_free out keys are number free grain)

-- the same lists, told by others
pub same_are : (out out_new : List (ℕ × OutstandingRequest)) (keys : Keys) → AreIndexed out keys → (keys_new : Keys) → out_new ≡ out
    → keys_new ≡ keys → AreIndexed out_new keys_new
same_are out out_new keys are keys_new same_out same_keys =
    subst (λ l. AreIndexed l keys_new) (sym same_out) (subst (λ l. AreIndexed out l) (sym same_keys) are)

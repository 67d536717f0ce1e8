-- Hints as they are turned, one after the other, at a sight.
use Rattle.std.proofs.Common.{◌≡◌, ℕ, ◌+◌, ◌-◌, ◌<◌, Bool, true, false, not, cond, List, [], ◌∷◌, ◌++◌, length, take, Some, None, refl, sym, ◌∙◌, ap, subst, arith, length-append, append-nil}
use Rattle.std.proofs.lemmas.List.{append_assoc}
use Rattle.std.proofs.lemmas.Option.{same_Some}
use Rattle.std.specs.List.{IsDistinct}
use Rattle.std.specs.Option.{option_map_or}
use Rattle.std.specs.Map.{keys_of}
use Rattle.silo_address.specs.Grain.{Grain, grain_eq}
use Rattle.silo_address.specs.declared.ActivationId.{ActivationId}
use Rattle.silo_address.specs.contracts.grain.GrainIdEq.TheImpl.Laws.{laws-law}
use Rattle.membership_view.specs.View.{ViewValue}
use Rattle.directory_rules.specs.Members.{is_dead_in}
use Rattle.lru.specs.LruCache.{last_entry, promoted}
use Rattle.lru.proofs.Pairs.{cut_end, last_of_push}
use Rattle.lookup_cache.specs.Hints.{living_hints, turned}
use Rattle.lookup_cache.proofs.LastPair.{promoted_last}

abbrev pub Hint : Type 0
Hint = Grain × ActivationId

-- after some turns: as many hints from the back are in front, those on living silos, in their order
pub record IsTurned (view : ViewValue) (turns : ℕ) (was now : List Hint) : Type 0 where
  pub front : List Hint
  pub back : List Hint
  pub was_is : was ≡ front ++ back
  pub now_is : now ≡ living_hints view back ++ front
  pub turns_is : length back ≡ turns

pub not_turned : (view : ViewValue) (was : List Hint) → IsTurned view 0 was was
not_turned view was = record { front = was; back = []; was_is = sym (append-nil was); now_is = refl; turns_is = refl }

-- the last one is turned
turned_push : (view : ViewValue) (hints : List Hint) (hint : Hint)
    → turned view (hints ++ hint ∷ []) ≡ living_hints view (hint ∷ []) ++ hints
turned_push view hints hint =
    let last = last_of_push hints hint in
    ap (λ o. option_map_or (λ p. living_hints view (p ∷ []) ++ take (length (hints ++ hint ∷ []) - 1) (hints ++ hint ∷ [])) o []) last.0
    ∙ ap (λ l. living_hints view (hint ∷ []) ++ l) last.1

living-cons : (view : ViewValue) (hint : Hint) (hints : List Hint)
    → living_hints view (hint ∷ []) ++ living_hints view hints ≡ living_hints view (hint ∷ hints)
living-cons view hint hints = by (not (is_dead_in view hint.1.silo))
  where
    by : (b : Bool) → cond b (hint ∷ []) [] ++ living_hints view hints ≡ cond b (hint ∷ living_hints view hints) (living_hints view hints)
    by true = refl
    by false = refl

pub turned_once_more : (view : ViewValue) (turns : ℕ) (was now next : List Hint) → IsTurned view turns was now → turns < length was
    → next ≡ turned view now
    → IsTurned view (turns + 1) was next
turned_once_more view turns was now next is more turn =
    let long : length was ≡ length is.front + length is.back = ap (λ (l : List Hint). length l) is.was_is ∙ length-append is.front is.back in
    let turns_is : length is.back ≡ turns = is.turns_is in
    let end = cut_end is.front (omega arith) in
    record {
      front = end.0;
      back = end.1 ∷ is.back;
      was_is = is.was_is ∙ ap (λ l. l ++ is.back) end.2 ∙ append_assoc end.0 (end.1 ∷ []) is.back;
      now_is = turn
          ∙ ap (λ l. turned view l) (is.now_is ∙ ap (λ l. living_hints view is.back ++ l) end.2
          ∙ sym (append_assoc (living_hints view is.back) end.0 (end.1 ∷ [])))
          ∙ turned_push view (living_hints view is.back ++ end.0) end.1
          ∙ sym (append_assoc (living_hints view (end.1 ∷ [])) (living_hints view is.back) end.0)
          ∙ ap (λ l. l ++ end.0) (living-cons view end.1 is.back);
      turns_is = omega arith;
    }

-- ---- the last hint is turned: where there is none
pub turned_none : (view : ViewValue) (hints : List Hint) → last_entry hints ≡ None → hints ≡ turned view hints
turned_none view [] none = refl
turned_none view (hint ∷ hints) none =
    let end = cut_end (hint ∷ hints) (omega arith) in
    let some = last_of_push end.0 end.1 in
    let no : None ≡ Some end.1 = sym none ∙ ap (λ (l : List Hint). last_entry l) end.2 ∙ some.0 in
    cc

-- on a living silo, and on a dead one
module _ (view : ViewValue) (hints : List Hint) (hint : Hint) (last : last_entry hints ≡ Some hint) where
  record IsEnd : Type 0 where
    front : List Hint
    is : hints ≡ front ++ hint ∷ []

  is_end : IsEnd
  is_end = by hints refl
    where
      by : (l : List Hint) → hints ≡ l → IsEnd
      by [] same = let no : None ≡ Some hint = ap (λ (l : List Hint). last_entry l) (sym same) ∙ last in cc
      by (h ∷ l) same =
          let end = cut_end (h ∷ l) (omega arith) in
          let some = last_of_push end.0 end.1 in
          let its : end.1 ≡ hint = same_Some end.1 hint (sym some.0 ∙ ap (λ (m : List Hint). last_entry m) (sym (same ∙ end.2)) ∙ last) in
          record { front = end.0; is = same ∙ end.2 ∙ ap (λ (e : Hint). end.0 ++ e ∷ []) its }

  pub turned_living : IsDistinct grain_eq (keys_of hints) → is_dead_in view hint.1.silo ≡ false
      → promoted (grain_eq hint.0) hints ≡ turned view hints
  turned_living distinct lives =
      let end = is_end in
      ap (λ (l : List Hint). promoted (grain_eq hint.0) l) end.is
      ∙ promoted_last grain_eq laws-law end.front hint (subst (λ (l : List Hint). IsDistinct grain_eq (keys_of l)) end.is distinct)
      ∙ sym (ap (λ b. cond (not b) (hint ∷ []) [] ++ end.front) lives)
      ∙ sym (turned_push view end.front hint)
      ∙ sym (ap (λ (l : List Hint). turned view l) end.is)

  pub turned_dead : is_dead_in view hint.1.silo ≡ true → take (length hints - 1) hints ≡ turned view hints
  turned_dead dead =
      let end = is_end in
      ap (λ (l : List Hint). take (length l - 1) l) end.is
      ∙ (last_of_push end.front hint).1
      ∙ sym (ap (λ b. cond (not b) (hint ∷ []) [] ++ end.front) dead)
      ∙ sym (turned_push view end.front hint)
      ∙ sym (ap (λ (l : List Hint). turned view l) end.is)

-- What is told of names is told of the grains.
use Rattle.std.proofs.Common.{◌≡◌, refl, sym, ap, subst, ◌∙◌, ℕ, List, [], ◌∷◌, ◌++◌, zero, suc, cond, Bool, true, false, Option, Some, None}
use Rattle.std.specs.Str.{bytes_eq}
use Rattle.std.specs.Map.{lookup, lookup_key}
use Rattle.std.specs.Option.{option_map}
use Rattle.std.specs.Prelude.{slice_get}
use Rattle.std.proofs.lemmas.Bool.Decides.{same_from_decides}
use Rattle.std.proofs.lemmas.List.{map-append}
use Rattle.std.proofs.lemmas.Option.{same_Some, slice_get-map}
use Rattle.std.proofs.lemmas.Slice.Eq.{bytes_eq-Decides}
use Rattle.indexmap.specs.IndexMap.{IndexMap, insert_entry}
use Rattle.indexmap.proofs.CallerLemmas.{insert_entry-new}
use Rattle.silo_address.specs.Grain.{Grain, IsGrain, grain_eq, grain_text}
use Rattle.silo_address.specs.ReadGrain.{grain_at_slash}
use Rattle.silo_address.proofs.GrainCases.{grain_at_slash_again}
use Rattle.silo_address.proofs.Same.{Decides-grain}
use Rattle.grain_names.specs.Names.{IsName, AreNamed, named}

-- a grain's text is that of this grain
pub named_again : (grain : Grain) → IsGrain grain → (text : List ℕ) → text ≡ grain_text grain → grain_at_slash text ≡ grain
named_again grain is text spelled = grain_at_slash_again text grain (record { text = spelled; cut = is.cut })

pub is_name : (grain : Grain) → IsGrain grain → (text : List ℕ) → text ≡ grain_text grain → IsName text
is_name grain is text spelled =
    let same = sym (named_again grain is text spelled) in
    record { is_grain = subst IsGrain same is; spelled = spelled ∙ ap grain_text same }

-- texts tell names apart as their grains do
pub same_test : (grain : Grain) → IsGrain grain → (text : List ℕ) → IsName text
    → bytes_eq (grain_text grain) text ≡ grain_eq grain (grain_at_slash text)
same_test grain is text name =
    same_from_decides {P = grain ≡ grain_at_slash text} _ _ (
      λ h. sym (named_again grain is text (sym ((bytes_eq-Decides (grain_text grain) text).0 h))),
      λ e.
          (bytes_eq-Decides (grain_text grain) text).1 (ap grain_text e ∙ sym name.spelled),
    )
    (Decides-grain grain (grain_at_slash text))

key_passes : {K V : Type 0} (test : K → Bool) (es : List (K × V)) (key : K) → Some key ≡ lookup_key test es → test key ≡ true
key_passes test [] key is = cc
key_passes test (e ∷ es) key is = by (test e.0) refl is (key_passes test es key)
  where
    by : (b : Bool) → test e.0 ≡ b → Some key ≡ cond b (Some e.0) (lookup_key test es) → (Some key ≡ lookup_key test es → test key ≡ true)
        → test key ≡ true
    by true h first later = ap test (same_Some _ _ first) ∙ h
    by false h found later = later found

module _ {K V : Type 0} (text : K → List ℕ) where
  pub lookup_named : (grain : Grain) → IsGrain grain → (bytes : List ℕ) → bytes ≡ grain_text grain → (es : List (K × V)) → AreNamed text es
      → lookup (λ k. bytes_eq bytes (text k)) es ≡ lookup (grain_eq grain) (named text es)
  lookup_named grain is bytes spelled [] names = refl
  lookup_named grain is bytes spelled (e ∷ es) names =
      λ i. cond ((ap (λ (t : List ℕ). bytes_eq t (text e.0)) spelled ∙ same_test grain is (text e.0) names.0) i) (Some e.1)
      (lookup_named grain is bytes spelled es names.1 i)

  -- what stands at an index
  pub name_at : (es : List (K × V)) → AreNamed text es → (index : ℕ) (e : K × V) → slice_get es index ≡ Some e → IsName (text e.0)
  name_at [] names index e is = cc
  name_at (x ∷ es) names zero e is = subst (λ (y : K × V). IsName (text y.0)) (same_Some x e is) names.0
  name_at (x ∷ es) names (suc index) e is = name_at es names.1 index e is

  pub stands_named : (es : List (K × V)) (index : ℕ) (e : Option (K × V)) → slice_get es index ≡ e
      → slice_get (named text es) index ≡ option_map (λ x. (grain_at_slash (text x.0), x.1)) e
  stands_named es index e is =
      slice_get-map (λ x. (grain_at_slash (text x.0), x.1)) es index ∙ ap (option_map (λ x. (grain_at_slash (text x.0), x.1))) is

  -- what is found stands there under its grain
  pub found_named : (grain : Grain) → IsGrain grain → (bytes : List ℕ) → bytes ≡ grain_text grain
      → (es : List (K × V)) (index : ℕ) (key : K) (value : V)
      → slice_get es index ≡ Some (key, value) → Some key ≡ lookup_key (λ k. bytes_eq bytes (text k)) es
      → slice_get (named text es) index ≡ Some (grain, value)
  found_named grain is bytes spelled es index key value entry found =
      let same : text key ≡ grain_text grain = sym ((bytes_eq-Decides bytes (text key)).0 (key_passes (λ k. bytes_eq bytes (text k)) es key found)) ∙ spelled in
      stands_named es index (Some (key, value)) entry ∙ ap (λ (g : Grain). Some (g, value)) (named_again grain is (text key) same)

  all_push : (es : List (K × V)) (e : K × V) → AreNamed text es → IsName (text e.0) → AreNamed text (es ++ e ∷ [])
  all_push [] e names name = (name, tt)
  all_push (x ∷ es) e names name = (names.0, all_push es e names.1 name)

  -- one more goes behind
  module _ {S : Type 0} (grain : Grain) (is : IsGrain grain) (m : IndexMap K V S) (key : K) (value : V)
      (spelled : text key ≡ grain_text grain) (names : AreNamed text m.entries)
      (none : lookup (grain_eq grain) (named text m.entries) ≡ None) (new : List (K × V))
      (put : new ≡ insert_entry (λ x y. bytes_eq (text x) (text y)) m.entries key value) where
    behind : new ≡ m.entries ++ (key, value) ∷ []
    behind =
        put ∙ insert_entry-new (λ x y. bytes_eq (text x) (text y)) m key value
        (lookup_named grain is (text key) spelled m.entries names ∙ none)

    pub put_names : AreNamed text new
    put_names = subst (AreNamed text) (sym behind) (all_push m.entries (key, value) names (is_name grain is (text key) spelled))

    pub put_named : named text new ≡ named text m.entries ++ (grain, value) ∷ []
    put_named =
        ap (named text) behind
        ∙ map-append (λ x. (grain_at_slash (text x.0), x.1)) m.entries ((key, value) ∷ [])
        ∙ ap (λ (g : Grain). named text m.entries ++ (g, value) ∷ []) (named_again grain is (text key) spelled)

-- The dump that bytes tell.
use Rattle.std.proofs.Common.{◌≡◌, ◌≢◌, ◌⊎◌, inl, inr, ℕ, cond, Bool, true, false, List, [], ◌∷◌, Some, None, Result, Err, refl, sym, ◌∙◌, ap}
use Rattle.std.specs.Str.{IsUtf8, is_utf8}
use Rattle.std.proofs.lemmas.Str.{IsUtf8-from_is_utf8, is_utf8-from_IsUtf8}
use Rattle.json.specs.Json.{value}
use Rattle.json.specs.Lex.{lex, punctuate, tokens}
use Rattle.serde_json.specs.Data.{Data}
use Rattle.serde_json.specs.Read.{read}
use Rattle.dump_rules.specs.Dump.{DumpValue}
use Rattle.dumps.specs.MembersRead.{BeginsObject}
use Rattle.rebuild_checker.specs.Told.{lists_told, text_told, told_value}
use Rattle.dumps.specs.declared.error.DumpError.{DumpError}
use Rattle.dumps.specs.declared.error.DumpError.TheVariants.{NotJson, OutOfMemory}

-- the empty text has no token, and so tells no value and begins with no object
no_tokens : tokens [] ≡ []
unfolding lex punctuate
no_tokens = refl

no_value : read [] ≡ None
unfolding lex punctuate value
no_value = refl

pub nothing_read : (text : List ℕ) (told : Data) → text ≡ [] → read text ≡ Some told → ⊥
nothing_read text told empty is =
    let none : None ≡ Some told = sym no_value ∙ ap read (sym empty) ∙ is in
    absurd (cc)

no_front : {A : Type 0} (x : A) (xs : List A) → [] ≢ x ∷ xs
no_front x xs is = absurd (cc)

pub no_object : (text : List ℕ) → text ≡ [] → ¬ (BeginsObject (tokens text))
no_object text empty object = no_front _ object.0 (sym no_tokens ∙ ap tokens (sym empty) ∙ object.1)

-- bytes that are a text, and bytes that are none
pub text_in : (result : Result DumpValue DumpError) (bytes text : List ℕ) → text ≡ bytes → IsUtf8 bytes
    → (result ≡ Err OutOfMemory) ⊎ (result ≡ text_told text) → (result ≡ Err OutOfMemory) ⊎ (result ≡ lists_told bytes)
text_in result bytes text same utf8 (inl out) = inl out
text_in result bytes text same utf8 (inr is) =
    inr (is ∙ ap text_told same ∙ sym (ap (λ t. told_value (cond t (read bytes) None)) (is_utf8-from_IsUtf8 bytes utf8)))

pub no_text : (bytes : List ℕ) → ¬ (IsUtf8 bytes) → lists_told bytes ≡ Err NotJson
no_text bytes broken = by (is_utf8 bytes) refl
  where
    by : (t : Bool) → is_utf8 bytes ≡ t → lists_told bytes ≡ Err NotJson
    by true text = absurd (broken (IsUtf8-from_is_utf8 bytes text))
    by false other = ap (λ t. told_value (cond t (read bytes) None)) other

-- what the empty text tells
pub nothing_told : (result : Result DumpValue DumpError) (text : List ℕ)
    → (result ≡ Err OutOfMemory) ⊎ (result ≡ text_told text) → (text ≡ [] → result ≢ Err OutOfMemory) → text ≡ [] → result ≡ Err NotJson
nothing_told result text (inl out) memory empty = absurd (memory empty out)
nothing_told result text (inr is) memory empty = is ∙ ap text_told empty ∙ ap told_value no_value

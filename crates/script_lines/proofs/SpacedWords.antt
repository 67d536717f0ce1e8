-- Spaced words, and the sentence that they are but for the last space.
use Rattle.std.proofs.Common.{◌≡◌, ℕ, ◌<◌, List, [], ◌∷◌, ◌++◌, length, refl, sym, ◌∙◌, ap, append_assoc, append-nil, arith}
use Rattle.texts.specs.Words.{space, sentence}
use Rattle.script_lines.specs.Spaced.{spaced}

pub spaced-append : (one other : List (List ℕ)) → spaced (one ++ other) ≡ spaced one ++ spaced other
unfolding spaced
spaced-append [] other = refl
spaced-append (word ∷ words) other =
    ap (λ (t : List ℕ). word ++ space ∷ t) (spaced-append words other) ∙ sym (append_assoc word (space ∷ spaced words) (spaced other))

pub spaced-sentence : (word : List ℕ) (words : List (List ℕ)) → spaced (word ∷ words) ≡ sentence (word ∷ words) ++ space ∷ []
unfolding spaced
spaced-sentence word [] = refl
spaced-sentence word (next ∷ words) =
    ap (λ (t : List ℕ). word ++ space ∷ t) (spaced-sentence next words)
    ∙ sym (append_assoc word (space ∷ sentence (next ∷ words)) (space ∷ []))

-- a text behind a marked one
pub behind_the_mark : (before between after text more : List ℕ) (mark : ℕ)
    → between ≡ before ++ (text ++ mark ∷ []) → after ≡ between ++ more → after ≡ before ++ (text ++ mark ∷ more)
behind_the_mark before between after text more mark first then =
    then ∙ (ap (λ t. t ++ more) first
    ∙ (append_assoc before (text ++ mark ∷ []) more
    ∙ ap (λ t. before ++ t) (append_assoc text (mark ∷ []) more)))

-- words behind words
pub then_spaced : (before between after : List ℕ) (words more : List (List ℕ))
    → between ≡ before ++ spaced words → after ≡ between ++ spaced more → after ≡ before ++ spaced (words ++ more)
then_spaced before between after words more first then =
    then ∙ (ap (λ t. t ++ spaced more) first
    ∙ (append_assoc before (spaced words) (spaced more)
    ∙ ap (λ t. before ++ t) (sym (spaced-append words more))))

-- words behind one word
pub then_behind_one : (before between after word : List ℕ) (more : List (List ℕ))
    → between ≡ before ++ spaced (word ∷ []) → after ≡ between ++ spaced more → after ≡ before ++ spaced (word ∷ more)
then_behind_one before between after word more = then_spaced before between after (word ∷ []) more

-- words behind two words
pub then_behind_two : (before between after one two : List ℕ) (more : List (List ℕ))
    → between ≡ before ++ spaced (one ∷ two ∷ []) → after ≡ between ++ spaced more → after ≡ before ++ spaced (one ∷ two ∷ more)
then_behind_two before between after one two more = then_spaced before between after (one ∷ two ∷ []) more

-- words behind four words
pub then_behind_four : (before between after one two three four : List ℕ) (more : List (List ℕ))
    → between ≡ before ++ spaced (one ∷ two ∷ three ∷ four ∷ []) → after ≡ between ++ spaced more
    → after ≡ before ++ spaced (one ∷ two ∷ three ∷ four ∷ more)
then_behind_four before between after one two three four more = then_spaced before between after (one ∷ two ∷ three ∷ four ∷ []) more

-- no words
pub nothing_spaced : (text : List ℕ) → text ≡ text ++ spaced []
unfolding spaced
nothing_spaced text = sym (append-nil text)

-- a text that ends with spaced words ends with their sentence and one more space
pub sentence_and_space : (front : List ℕ) (words : List (List ℕ)) (text : List ℕ)
    → 0 < length words → text ≡ front ++ spaced words → text ≡ (front ++ sentence words) ++ space ∷ []
sentence_and_space front [] text some written = absurd (omega (arith, some))
sentence_and_space front (word ∷ words) text some written =
    written ∙ (ap (λ t. front ++ t) (spaced-sentence word words) ∙ sym (append_assoc front (sentence (word ∷ words)) (space ∷ [])))

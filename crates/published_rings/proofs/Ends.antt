-- What a publisher and a reader know after a step.
use Rattle.std.proofs.Common.{◌≡◌, List, [], ◌∷◌, ◌++◌, false, refl, sym, ap, ◌∙◌, Result, Ok, Err}
use Rattle.std.specs.Prelude.{MatchResult, is_err}
use Rattle.std.specs.List.{fold}
use Rattle.std.proofs.lemmas.List.Sums.{fold-append}
use Rattle.published_rings.specs.Shown.{EditionValue, FollowsOn, Marks, ShownValue, edition_after, showing}

-- of what was to be shown one after another, the last is shown, under the same marks
marks_fold : (shown : ShownValue) (editions : List EditionValue) → (fold showing shown editions).marks ≡ shown.marks
marks_fold shown [] = refl
marks_fold shown (edition ∷ editions) = marks_fold (showing shown edition) editions

pub shown_next : (shown : ShownValue) (all pending : List EditionValue) (last : EditionValue) → all ≡ pending ++ last ∷ []
    → fold showing shown all ≡ showing shown last
shown_next shown all pending last is =
    ap (λ l. fold showing shown l) is ∙ fold-append showing shown pending (last ∷ [])
    ∙ ap (λ (marks : Marks). record { marks = marks; edition = last }) (marks_fold shown pending)

pub follows_on : (shown : ShownValue) (all pending : List EditionValue) (last : EditionValue) → all ≡ pending ++ last ∷ []
    → last ≡ edition_after shown.edition last.ring → FollowsOn shown (fold showing shown all)
follows_on shown all pending last is follows =
    let same = shown_next shown all pending last is in
    same ∙ ap (λ (e : EditionValue). showing shown e)
    (follows ∙ ap (λ (s : ShownValue). edition_after shown.edition s.edition.ring) (sym same))

-- where that was no failure
pub shown_so : {A E : Type 0} (r : Result A E) (shown now : ShownValue) (all pending : List EditionValue) (last : EditionValue)
    (P Q : Type 0) → is_err r ≡ false → all ≡ pending ++ last ∷ []
    → MatchResult r (λ _. (now ≡ fold showing shown all) × P) (λ _. (now ≡ shown) × Q) → now ≡ showing shown last
shown_so (Ok a) shown now all pending last P Q fine is h = h.0 ∙ shown_next shown all pending last is
shown_so (Err e) shown now all pending last P Q fine is h = absurd (cc fine)

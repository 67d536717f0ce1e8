-- Who is awaited still, once one silo isn't any more.
use Rattle.std.proofs.Common.{◌≡◌, ◌≢◌, List, [], ◌∷◌, refl, sym, ap, ◌∙◌}
use Rattle.std.specs.Prelude.{◌||◌, true, false, cond, not, filter}
use Rattle.silo_address.specs.Silo.{Silo, silo_eq}
use Rattle.silo_address.proofs.Same.{Decides-silo}
use Rattle.directory_rules.specs.Recovery.{is_among}
use Rattle.directory_rules.proofs.Cases.{on_bool}

pub among_rest : (silo gone : Silo) (silos : List Silo) → is_among silo (filter (λ s. not (silo_eq s gone)) silos) ≡ true
    → is_among silo silos ≡ true
among_rest silo gone [] is = is
among_rest silo gone (s ∷ ss) is =
    on_bool (λ b. silo_eq silo s ≡ b → is_among silo (s ∷ ss) ≡ true) (silo_eq silo s)
    (λ t at. ap (λ b. b || is_among silo ss) at)
    (λ u at.
    let rest : is_among silo (filter (λ x. not (silo_eq x gone)) ss) ≡ true =
    on_bool (λ b. is_among silo (cond b (s ∷ filter (λ x. not (silo_eq x gone)) ss) (filter (λ x. not (silo_eq x gone)) ss)) ≡ true
    → is_among silo (filter (λ x. not (silo_eq x gone)) ss) ≡ true) (not (silo_eq s gone))
    (λ t it. sym (ap (λ b. b || is_among silo (filter (λ x. not (silo_eq x gone)) ss)) at) ∙ it) (λ u it. it) is in
    ap (λ b. b || is_among silo ss) at ∙ among_rest silo gone ss rest)
    refl

pub not_gone : (gone : Silo) (silos : List Silo) → is_among gone (filter (λ s. not (silo_eq s gone)) silos) ≡ false
not_gone gone [] = refl
not_gone gone (s ∷ ss) =
    on_bool (λ b. silo_eq s gone ≡ b → is_among gone
    (cond (not b) (s ∷ filter (λ x. not (silo_eq x gone)) ss) (filter (λ x. not (silo_eq x gone)) ss)) ≡ false) (silo_eq s gone)
    (λ t at. not_gone gone ss)
    (λ u at.
    let other : silo_eq gone s ≡ false =
    on_bool (λ b. silo_eq gone s ≡ b → silo_eq gone s ≡ false) (silo_eq gone s)
    (λ t is. let same = sym ((Decides-silo gone s).0 is) in absurd (cc (sym at ∙ (Decides-silo s gone).1 same))) (λ u is. is) refl in
    ap (λ b. b || is_among gone (filter (λ x. not (silo_eq x gone)) ss)) other ∙ not_gone gone ss)
    refl

pub still_among : (silo gone : Silo) (silos : List Silo) → silo ≢ gone → is_among silo silos ≡ true
    → is_among silo (filter (λ s. not (silo_eq s gone)) silos) ≡ true
still_among silo gone [] apart is = is
still_among silo gone (s ∷ ss) apart is =
    on_bool (λ b. silo_eq s gone ≡ b → is_among silo
    (cond (not b) (s ∷ filter (λ x. not (silo_eq x gone)) ss) (filter (λ x. not (silo_eq x gone)) ss)) ≡ true) (silo_eq s gone)
    (λ t at.
    let same = (Decides-silo s gone).0 at in
    let other : silo_eq silo s ≡ false =
    on_bool (λ b. silo_eq silo s ≡ b → silo_eq silo s ≡ false) (silo_eq silo s) (λ t it. absurd (apart ((Decides-silo silo s).0 it ∙ same)))
    (λ u it. it) refl in
    still_among silo gone ss apart (sym (ap (λ b. b || is_among silo ss) other) ∙ is))
    (λ u at. on_bool (λ b. silo_eq silo s ≡ b → (b || is_among silo (filter (λ x. not (silo_eq x gone)) ss)) ≡ true) (silo_eq silo s)
    (λ t it. refl)
    (λ v it. still_among silo gone ss apart (sym (ap (λ b. b || is_among silo ss) it) ∙ is)) refl)
    refl

-- any other is awaited just where it was
pub others_as_before : (silo gone : Silo) (silos : List Silo) → silo ≢ gone
    → is_among silo (filter (λ s. not (silo_eq s gone)) silos) ≡ is_among silo silos
others_as_before silo gone silos apart =
    on_bool (λ b. is_among silo silos ≡ b → is_among silo (filter (λ s. not (silo_eq s gone)) silos) ≡ b) (is_among silo silos)
    (λ t is. still_among silo gone silos apart is)
    (λ f is. on_bool (λ b. is_among silo (filter (λ s. not (silo_eq s gone)) silos) ≡ b → b ≡ false)
    (is_among silo (filter (λ s. not (silo_eq s gone)) silos))
    (λ t it. absurd (cc (sym is ∙ among_rest silo gone silos it))) (λ u it. refl) refl)
    refl

-- Of two activations that became firm: what follows for their tokens from what is promised of any two moments.
use Rattle.std.proofs.Common.{arith, ◌≡◌, ◌≢◌, ℕ, ◌<◌, ◌≤◌, ◌⊎◌, true, false, List, [], ◌∷◌, ◌++◌, inl, inr, refl, sym, ap, subst, ◌∙◌, append_assoc, append-nil}
use Rattle.std.specs.Prelude.{Option, Some, None, option_and_then}
use Rattle.std.proofs.lemmas.Bool.{cases_order}
use Rattle.silo_address.specs.Silo.{Silo}
use Rattle.silo_address.specs.Grain.{Grain}
use Rattle.silo_address.specs.declared.ActivationId.{ActivationId}
use Rattle.membership_view.specs.Views.{view_at}
use Rattle.directory_protocol.proofs.Changes.{bool_cases, silo_cases, grain_cases}
use Rattle.directory_rules.specs.Members.{is_dead_in}
use Rattle.directory_rules.specs.State.{Node, World}
use Rattle.directory_rules.specs.Happens.{node_of}
use Rattle.directory_rules.specs.PlainMachine.{Life, Is_asking, Is_firm, Is_closing, life_on, Plain, PlainStep, Change_view, Begin, Make_firm, Yield, Begin_closing, Give_up, End, Nothing_changes, IsPlainStep, plain_of}
use Rattle.deployment_headline.specs.Tokens.{IsHeld, IsFirm, IsClosing, WasClosing, NeverFall, PassDeaths, Rise}

-- ---- a step of the plain machine
abbrev IsThere : Silo → Grain → Silo → Grain → Type 0
IsThere s g silo grain = (s ≡ silo) × (g ≡ grain)

place_cases : (s : Silo) (g : Grain) (silo : Silo) (grain : Grain) → IsThere s g silo grain ⊎ (¬ (IsThere s g silo grain))
place_cases s g silo grain =
    elim (silo_cases s silo) [
      | inl e ↦ elim (grain_cases g grain) [ inl d ↦ inl (e, d) | inr n ↦ inr (λ both. n both.1) ]
      | inr n ↦ inr (λ both. n both.0)
    ]

moved : (lives : Silo → Grain → Option Life) (s : Silo) (g : Grain) (silo : Silo) (grain : Grain) → IsThere s g silo grain
    → lives s g ≡ lives silo grain
moved lives s g silo grain same = ap (λ t. lives t g) same.0 ∙ ap (lives silo) same.1

module _ (p q : Plain) (s : Silo) (g : Grain) (c : ℕ) where
  -- what is firm and not the one that goes on stays
  stays :
      (silo : Silo) (grain : Grain) (before : Option Life) → p.lives silo grain ≡ before → ¬ (before ≡ Some (Is_firm c))
      → ((t : Silo) (h : Grain) → ¬ (IsThere t h silo grain) → q.lives t h ≡ p.lives t h) → p.lives s g ≡ Some (Is_firm c)
      → q.lives s g ≡ Some (Is_firm c)
  stays silo grain before was never elsewhere firm =
      elim (place_cases s g silo grain) [
        | inl same ↦ absurd (never (sym was ∙ sym (moved p.lives s g silo grain same) ∙ firm))
        | inr apart ↦ elsewhere s g apart ∙ firm
      ]

  -- what is firm and not the one that went on was so
  stayed :
      (silo : Silo) (grain : Grain) (after : Option Life) → q.lives silo grain ≡ after → ¬ (after ≡ Some (Is_firm c))
      → ((t : Silo) (h : Grain) → ¬ (IsThere t h silo grain) → q.lives t h ≡ p.lives t h) → q.lives s g ≡ Some (Is_firm c)
      → p.lives s g ≡ Some (Is_firm c)
  stayed silo grain after is never elsewhere firm =
      elim (place_cases s g silo grain) [
        | inl same ↦ absurd (never (sym is ∙ sym (moved q.lives s g silo grain same) ∙ firm))
        | inr apart ↦ sym (elsewhere s g apart) ∙ firm
      ]

  -- a firm one stays firm, begins to close, or is on a silo that is Dead from then on
  abbrev GoesOn : Type 0
  GoesOn = (q.lives s g ≡ Some (Is_firm c)) ⊎ ((q.lives s g ≡ Some (Is_closing c)) ⊎ (is_dead_in q.view s ≡ true))

  goes_on : (kind : PlainStep) → IsPlainStep p kind q → p.lives s g ≡ Some (Is_firm c) → GoesOn
  goes_on Change_view step firm =
      elim (bool_cases (is_dead_in q.view s)) [ inl dead ↦ inr (inr dead) | inr lives ↦ inl (step.others s g lives ∙ firm) ]
  goes_on Begin step firm = inl (stays step.silo step.grain None step.free (λ is. cc is) step.begun.elsewhere firm)
  goes_on Make_firm step firm =
      inl (stays step.silo step.grain (Some (Is_asking step.count)) step.goes.was (λ is. cc is) step.goes.changed.elsewhere firm)
  goes_on Yield step firm = inl (stays step.0 step.1 (Some (Is_asking step.2)) (step.3).was (λ is. cc is) (step.3).changed.elsewhere firm)
  goes_on Begin_closing step firm =
      elim (place_cases s g step.0 step.1) [
        | inl same ↦
            (let is : ◌≡◌ {A = Option Life} (Some (Is_firm step.2)) (Some (Is_firm c)) = sym (step.3).was ∙ sym (moved p.lives s g step.0 step.1 same) ∙ firm in
            let count : step.2 ≡ c = cc is in
            inr (inl (moved q.lives s g step.0 step.1 same ∙ (step.3).changed.there ∙ ap (λ n. Some (Is_closing n)) count)))
        | inr apart ↦ inl ((step.3).changed.elsewhere s g apart ∙ firm)
      ]
  goes_on Give_up step firm = inl (stays step.0 step.1 (Some (Is_asking step.2)) (step.3).was (λ is. cc is) (step.3).changed.elsewhere firm)
  goes_on End step firm = inl (stays step.0 step.1 (Some (Is_closing step.2)) (step.3).was (λ is. cc is) (step.3).changed.elsewhere firm)
  goes_on Nothing_changes step firm = inl (step.lives s g ∙ firm)

  -- where one becomes firm no other is
  alone : (kind : PlainStep) → IsPlainStep p kind q → ¬ (p.lives s g ≡ Some (Is_firm c)) → q.lives s g ≡ Some (Is_firm c)
      → (t : Silo) (d : ℕ) → p.lives t g ≢ Some (Is_firm d)
  alone Change_view step new firm t d = absurd (by (bool_cases (is_dead_in q.view s)))
    where
      by : (is_dead_in q.view s ≡ true) ⊎ (is_dead_in q.view s ≡ false) → ⊥
      by (inl dead) = let none = step.dead s g dead in cc
      by (inr lives) = new (sym (step.others s g lives) ∙ firm)
  alone Begin step new firm t d =
      absurd (new (stayed step.silo step.grain (Some (Is_asking step.count)) step.begun.there (λ is. cc is) step.begun.elsewhere firm))
  alone Make_firm step new firm t d =
      elim (place_cases s g step.silo step.grain) [
        | inl same ↦ (λ is. step.alone t d (ap (p.lives t) (sym same.1) ∙ is))
        | inr apart ↦ absurd (new (sym (step.goes.changed.elsewhere s g apart) ∙ firm))
      ]
  alone Yield step new firm t d =
      absurd (new (stayed step.0 step.1 None (step.3).changed.there (λ is. cc is) (step.3).changed.elsewhere firm))
  alone Begin_closing step new firm t d =
      absurd (new (stayed step.0 step.1 (Some (Is_closing step.2)) (step.3).changed.there (λ is. cc is) (step.3).changed.elsewhere firm))
  alone Give_up step new firm t d =
      absurd (new (stayed step.0 step.1 (Some (Is_closing step.2)) (step.3).changed.there (λ is. cc is) (step.3).changed.elsewhere firm))
  alone End step new firm t d =
      absurd (new (stayed step.0 step.1 None (step.3).changed.there (λ is. cc is) (step.3).changed.elsewhere firm))
  alone Nothing_changes step new firm t d = absurd (new (sym (step.lives s g) ∙ firm))

-- ---- what is held is what the plain machine has
lives_so : (world : World) (grain : Grain) (a : ActivationId) (life : Life) (seen : ℕ) → IsHeld world grain a life seen
    → (plain_of world).lives a.silo grain ≡ Some life
lives_so world grain a life seen held = ap (option_and_then (life_on grain)) held.there ∙ held.held

held_so : (world : World) (grain : Grain) (a : ActivationId) (life : Life) → (plain_of world).lives a.silo grain ≡ Some life
    → (seen : ℕ) × IsHeld world grain a life seen
held_so world grain a life lives = by (node_of world a.silo) refl lives
  where
    by : (o : Option Node) → node_of world a.silo ≡ o → option_and_then (life_on grain) o ≡ Some life
        → (seen : ℕ) × IsHeld world grain a life seen
    by None is lives = absurd (cc lives)
    by (Some node) is lives = (node.view.version, record { node = node; there = is; held = lives; version = refl })

-- what is asked of worlds: each happening is a step of the plain machine, and who is Dead has no node
pub record Moves (H : Type 0) (May : List H → Type 0) (after : List H → World) : Type 0 where
  -- what may happen may begin to happen
  pub begins : (before more : List H) → May (before ++ more) → May before
  pub plain : (before : List H) (one : H) → May (before ++ one ∷ [])
      → (kind : PlainStep) × IsPlainStep (plain_of (after before)) kind (plain_of (after (before ++ one ∷ [])))
  pub gone : (before : List H) (silo : Silo) → May before
      → is_dead_in (view_at (after before).views (after before).views.version) silo ≡ true → node_of (after before) silo ≡ None

module _ (H : Type 0) (May : List H → Type 0) (after : List H → World) (moves : Moves H May after) where
  one_more : (before : List H) (one : H) (rest : List H) → (before ++ one ∷ []) ++ rest ≡ before ++ one ∷ rest
  one_more before one rest = append_assoc before (one ∷ []) rest

  module _ (grain : Grain) (a : ActivationId) where
    -- its silo died while it was firm
    record Died (before between : List H) : Type 0 where
      first : List H
      death : H
      rest : List H
      is : between ≡ first ++ death ∷ rest
      seen : ℕ
      firm : IsFirm (after (before ++ first)) grain a seen
      gone : node_of (after (before ++ (first ++ death ∷ []))) a.silo ≡ None

    abbrev Becomes : (before between : List H) → Type 0
    Becomes before between =
        ((seen : ℕ) × IsFirm (after (before ++ between)) grain a seen) ⊎ (WasClosing H after before between grain a ⊎ Died before between)

    -- from the moment after one happening
    later : (before : List H) (one : H) (rest : List H) → Becomes (before ++ one ∷ []) rest → Becomes before (one ∷ rest)
    later before one rest (inl firm) = inl (firm.0, subst (λ l. IsFirm (after l) grain a firm.0) (one_more before one rest) firm.1)
    later before one rest (inr (inl its)) =
        inr (inl (record {
          first = one ∷ its.first;
          rest = its.rest;
          is = ap (λ l. one ∷ l) its.is;
          seen = its.seen;
          closing = subst (λ l. IsClosing (after l) grain a its.seen) (one_more before one its.first) its.closing;
        }))
    later before one rest (inr (inr its)) =
        inr (inr (record {
          first = one ∷ its.first;
          death = its.death;
          rest = its.rest;
          is = ap (λ l. one ∷ l) its.is;
          seen = its.seen;
          firm = subst (λ l. IsFirm (after l) grain a its.seen) (one_more before one its.first) its.firm;
          gone = subst (λ l. node_of (after l) a.silo ≡ None) (one_more before one (its.first ++ its.death ∷ [])) its.gone;
        }))

    becomes : (before between : List H) → May (before ++ between) → (seen : ℕ) → IsFirm (after before) grain a seen → Becomes before between
    becomes before [] may seen firm = inl (seen, subst (λ l. IsFirm (after l) grain a seen) (sym (append-nil before)) firm)
    becomes before (one ∷ rest) may seen firm =
        let on : May ((before ++ one ∷ []) ++ rest) = subst May (sym (one_more before one rest)) may in
        let now : May (before ++ one ∷ []) = moves.begins (before ++ one ∷ []) rest on in
        let step = moves.plain before one now in
        by now (λ saw firm. becomes (before ++ one ∷ []) rest on saw firm)
        (goes_on (plain_of (after before)) (plain_of (after (before ++ one ∷ []))) a.silo grain a.count step.0 step.1
        (lives_so (after before) grain a (Is_firm a.count) seen firm))
      where
        by : May (before ++ one ∷ []) → ((saw : ℕ) → IsFirm (after (before ++ one ∷ [])) grain a saw → Becomes (before ++ one ∷ []) rest)
            → GoesOn (plain_of (after before)) (plain_of (after (before ++ one ∷ []))) a.silo grain a.count → Becomes before (one ∷ rest)
        by now then (inl lives) =
            let its = held_so (after (before ++ one ∷ [])) grain a (Is_firm a.count) lives in later before one rest (then its.0 its.1)
        by now then (inr (inl lives)) =
            let its = held_so (after (before ++ one ∷ [])) grain a (Is_closing a.count) lives in
            inr (inl (record { first = one ∷ []; rest = rest; is = refl; seen = its.0; closing = its.1 }))
        by now then (inr (inr dead)) =
            inr (inr (record {
              first = [];
              death = one;
              rest = rest;
              is = refl;
              seen = seen;
              firm = subst (λ l. IsFirm (after l) grain a seen) (sym (append-nil before)) firm;
              gone = moves.gone (before ++ one ∷ []) a.silo now dead;
            }))

  -- ---- two that became firm
  module _ (never_fall : NeverFall H May after) (pass_deaths : PassDeaths H May after) where
    pub rise : Rise H May after
    rise before between one later grain a b u v may x y =
        by (becomes grain a (before ++ one ∷ []) between
        (subst May (sym (one_more before one between)) (moves.begins (before ++ one ∷ between) (later ∷ []) may)) u x.firm)
      where
        -- after the first one, what was in between, and the second one
        same : (before ++ one ∷ []) ++ (between ++ later ∷ []) ≡ (before ++ one ∷ between) ++ later ∷ []
        same = append_assoc before (one ∷ []) (between ++ later ∷ []) ∙ sym (append_assoc before (one ∷ between) (later ∷ []))

        may_on : May ((before ++ one ∷ []) ++ (between ++ later ∷ []))
        may_on = subst May (sym same) may

        no_lower : u ≤ v
        no_lower =
            never_fall (before ++ one ∷ []) (between ++ later ∷ []) grain a b u v may_on x.firm
            (subst (λ l. IsFirm (after l) grain b v) (sym same) y.firm)

        -- it can't be firm still
        not_firm : (seen : ℕ) → IsFirm (after ((before ++ one ∷ []) ++ between)) grain a seen → ⊥
        not_firm seen firm =
            let step = moves.plain (before ++ one ∷ between) later may in
            let was : IsFirm (after (before ++ one ∷ between)) grain a seen = subst (λ l. IsFirm (after l) grain a seen) (one_more before one between) firm in
            alone (plain_of (after (before ++ one ∷ between))) (plain_of (after ((before ++ one ∷ between) ++ later ∷ []))) b.silo grain
            b.count step.0 step.1
            (λ lives. let its = held_so (after (before ++ one ∷ between)) grain b (Is_firm b.count) lives in y.not_before its.0 its.1)
            (lives_so (after ((before ++ one ∷ between) ++ later ∷ [])) grain b (Is_firm b.count) v y.firm)
            a.silo a.count (lives_so (after (before ++ one ∷ between)) grain a (Is_firm a.count) seen was)

        after_death : Died grain a (before ++ one ∷ []) between → u < v
        after_death its =
            let parts : between ≡ its.first ++ (its.death ∷ its.rest) = its.is in
            let start = before ++ one ∷ [] in
            let until : (start ++ its.first) ++ (its.death ∷ its.rest) ≡ start ++ between = append_assoc start its.first (its.death ∷ its.rest) ∙ ap (λ l. start ++ l) (sym parts) in
            let whole : (start ++ its.first) ++ its.death ∷ (its.rest ++ later ∷ []) ≡ (before ++ one ∷ between) ++ later ∷ [] =
            sym (append_assoc (start ++ its.first) (its.death ∷ its.rest) (later ∷ []))
            ∙ ap (λ l. l ++ later ∷ []) (until ∙ one_more before one between) in
            let all : May ((start ++ its.first) ++ its.death ∷ (its.rest ++ later ∷ [])) = subst May (sym whole) may in
            let low : u ≤ its.seen = never_fall start its.first grain a a u its.seen (moves.begins (start ++ its.first) (its.death ∷ (its.rest ++ later ∷ [])) all) x.firm its.firm in
            let high =
            pass_deaths (start ++ its.first) (its.rest ++ later ∷ []) its.death grain a b its.seen v all its.firm
            (subst (λ l. node_of (after l) a.silo ≡ None) (sym (append_assoc start its.first (its.death ∷ []))) its.gone)
            (subst (λ l. IsFirm (after l) grain b v) (sym whole) y.firm) in
            omega (arith, low, high.0, high.1)

        by : Becomes grain a (before ++ one ∷ []) between → (u < v) ⊎ ((u ≡ v) × WasClosing H after (before ++ one ∷ []) between grain a)
        by (inl firm) = absurd (not_firm firm.0 firm.1)
        by (inr (inl closing)) =
            elim (cases_order u v) [
              | inl equal ↦ inr (equal, closing)
              | inr (inl less) ↦ inl less
              | inr (inr more) ↦ (let low = no_lower in absurd (omega (arith, low, more)))
            ]
        by (inr (inr died)) = inl (after_death died)

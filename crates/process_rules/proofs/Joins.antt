-- A process that was started with a token is told of its silo's join by a line that carries it, and by no other.
use Rattle.std.proofs.Common.{◌≡◌, ◌≢◌, ℕ, Bool, true, false, List, [], ◌∷◌, Option, Some, None, is_some, Result, Ok, Err, refl, ap, sym, ◌∙◌, subst}
use Rattle.std.specs.Prelude.{⊤, ◌&&◌, ◌+◌, ◌==◌, cond, not, nat_le}
use Rattle.std.proofs.lemmas.Slice.Eq.{bytes_eq-Decides}
use Rattle.std.proofs.lemmas.Bool.Decides.{not_from_Decides}
use Rattle.texts.specs.Words.{sentence}
use Rattle.silo_address.specs.Silo.{Silo, silo_eq}
use Rattle.silo_address.proofs.Same.{Decides-silo}
use Rattle.membership_view.specs.declared.status.Status.{Status}
use Rattle.membership_view.specs.Views.{ViewsValue, status_at}
use Rattle.membership_view.specs.Changes as change
use Rattle.membership_view.specs.Whole.{IsViews}
use Rattle.membership_view.proofs.Absent.{absent_stays, newest_absent}
use Rattle.hash_ring.specs.Places.{PlacesValue}
use Rattle.directory_rules.specs.Settings.{Settings}
use Rattle.directory_rules.specs.declared.effect.Effect.{Effect}
use Rattle.directory_rules.specs.declared.effect.Effect.TheVariants.{Ignored}
use Rattle.directory_rules.specs.declared.outcome.Happening.TheVariants.{Saw, Did}
use Rattle.directory_rules.specs.Input.{Input, Does, Receives, step}
use Rattle.directory_rules.specs.State.{Letter}
use Rattle.directory_rules.specs.Step.{Stepped, silently}
use Rattle.script_rules.specs.Lines.{happening_words, refusal_line}
use Rattle.silo_rules.specs.declared.news.News.TheVariants.{Known}
use Rattle.silo_rules.specs.Known.{is_before, is_known}
use Rattle.silo_rules.specs.Begun.{told_view}
use Rattle.silo_rules.proofs.Begun.{told_view_is}
use Rattle.silo_rules.proofs.Lawful.{stays_whole}
use Rattle.directory_rules.specs.Membership.{Change, Join, Leave, Die, Listed, Membership, barred_by, changed, joined, placed, replaced_by, with_places, with_views}
use Rattle.silo_rules.specs.SiloValue.{SiloValue, own_status, told_of_its_join}
use Rattle.silo_rules.specs.Steps.{unless_barred, does, receives, seen, sees}
use Rattle.silo_rules.specs.Told.{Heard, heard_by, told}
use Rattle.silo_rules.specs.Whole.{IsWhole}
use Rattle.process_rules.specs.ReadLine.{Asked, Joined, Leaving, Begin, See, Do, Receive, Ping, Owner, Place, Figures, Show, Dump}
use Rattle.process_rules.specs.ReadLine as line
use Rattle.process_rules.specs.Happened.{news_words, received_words}
use Rattle.process_rules.specs.Answer.{printing, heard, told_so, begun, stepped, received_so, carries, answered, answered_as}
use Rattle.process_rules.specs.OutputLaws.{CarriesItsJoin}
use Rattle.process_rules.proofs.StaysWhole.{silo_kept}

-- ---- the change is another silo's, or no join
abbrev IsNotItsJoin : (own : Silo) → Change → Type 0
IsNotItsJoin own (Join silo stated) = silo ≢ own
IsNotItsJoin own (Leave silo) = ⊤
IsNotItsJoin own (Die silo) = ⊤

-- ---- who has no status has none after another's join, a leave or a death
abbrev IsAbsent : Membership → Silo → Type 0
IsAbsent m own = status_at m.views m.views.version own ≡ None

module _ (settings : Settings) (m next : Membership) (own : Silo) (whole : IsViews m.views) (absent : IsAbsent m own) where
  by_places : (views : ViewsValue) (o : Result PlacesValue ℕ) → with_places o views ≡ Ok next → views ≡ next.views
  by_places views (Err number) is = absurd (cc (is))
  by_places views (Ok places) is =
      let same : record { views = views; places = places } ≡ next = cc (is) in ap (λ (n : Membership). n.views) same

  join_views : (silo : Silo) (stated : List ℕ) (o : Result ViewsValue ℕ) → joined o settings m.places silo stated ≡ Ok next
      → o ≡ Ok next.views
  join_views silo stated (Err number) is = absurd (cc (is))
  join_views silo stated (Ok views) is = ap (λ (v : ViewsValue). Ok v) (by_places views (placed settings m.places silo stated) is)

  other_views : (o : Result ViewsValue ℕ) → with_views o m.places ≡ Ok next → o ≡ Ok next.views
  other_views (Err number) is = absurd (cc (is))
  other_views (Ok views) is =
      let same : record { views = views; places = m.places } ≡ next = cc (is) in ap (λ (n : Membership). Ok n.views) same

  still_absent : (it : Change) → IsNotItsJoin own it → changed settings m it ≡ Ok next → IsAbsent next own
  still_absent (Join silo stated) other is =
      absent_stays m.views next.views whole own absent (change.Join silo) other (join_views silo stated (change.after_join m.views silo) is)
  still_absent (Leave silo) other is =
      absent_stays m.views next.views whole own absent (change.Leave silo) tt (other_views (change.after m.views (change.Leave silo)) is)
  still_absent (Die silo) other is =
      absent_stays m.views next.views whole own absent (change.Die silo) tt (other_views (change.after m.views (change.Die silo)) is)

-- ---- a silo that wasn't told of its join yet
abbrev IsUntold : SiloValue → Type 0
IsUntold s = own_status s ≡ None

module _ (s : SiloValue) (whole : IsWhole s) (untold : IsUntold s) where
  heard_untold : (version : ℕ) (it : Change) → IsNotItsJoin s.node.host.silo it → (heard : Heard)
      → told s.node.settings s.membership version it ≡ Ok heard → IsUntold (record s { membership = heard.membership })
  heard_untold version it other heard so =
      by (nat_le version s.membership.views.version) (is_known s.membership version it) (version == s.membership.views.version + 1)
      (changed s.node.settings s.membership it) refl so
    where
      again : (before known : Bool)
          → ◌≡◌ {A = Result Heard ℕ} (cond before (Err 212) (cond known (Ok (record { membership = s.membership; news = Known })) (Err 207)))
          (Ok heard)
          → IsUntold (record s { membership = heard.membership })
      again true known told_so = absurd (cc (told_so))
      again false false told_so = absurd (cc (told_so))
      again false true told_so =
          let same : record { membership = s.membership; news = Known } ≡ heard = cc (told_so) in
          subst (λ (h : Heard). IsUntold (record s { membership = h.membership })) same untold

      by : (old known next : Bool) (made : Result Membership ℕ) → changed s.node.settings s.membership it ≡ made
          → cond old (cond (is_before s.membership version) (Err 212) (cond known (Ok (record { membership = s.membership; news = Known })) (Err 207)))
          (cond (not next) (Err 206) (heard_by made (replaced_by s.membership it))) ≡ Ok heard
          → IsUntold (record s { membership = heard.membership })
      by true known next made at told_so = again (is_before s.membership version) known told_so
      by false known false made at told_so = absurd (cc (told_so))
      by false known true (Err number) at told_so = absurd (cc (told_so))
      by false known true (Ok m) at told_so =
          let same : m ≡ heard.membership = cc (told_so) in
          subst (λ (n : Membership). IsUntold (record s { membership = n })) same
          (still_absent s.node.settings s.membership m s.node.host.silo whole.membership.whole untold it other at)

  by_heard : (version : ℕ) (it : Change) (outcome : Result Heard ℕ)
      → ((heard : Heard) → outcome ≡ Ok heard → IsUntold (record s { membership = heard.membership }))
      → IsUntold (heard outcome version it s).silo
  by_heard version it (Err number) each = untold
  by_heard version it (Ok heard) each =
      let after = record s { membership = heard.membership } in
      subst IsUntold (silo_kept (own_status after) (printing (sentence (news_words version it heard.news) ∷ []) after)) (each heard refl)

  told_untold : (version : ℕ) (it : Change) → IsNotItsJoin s.node.host.silo it → IsUntold (told_so version it s).silo
  told_untold version it other = by_heard version it (told s.node.settings s.membership version it) (heard_untold version it other)

  -- nor is it in a view with which it begins
  begun_untold : (version : ℕ) (rows : List Listed) (outcome : Result Membership ℕ)
      → told_view s.node.settings s.membership s.node.host.silo version rows ≡ outcome → IsUntold (begun outcome version s).silo
  begun_untold version rows (Err number) is = untold
  begun_untold version rows (Ok m) is =
      let its = told_view_is s.node.settings s.membership s.node.host.silo version rows m is in
      let kept = stays_whole.begins s s.node.host.silo version rows m whole is in
      newest_absent m.views kept.membership.whole s.node.host.silo its.later

  -- it takes no step
  by_refusal : (happened : Effect → List (List ℕ)) (outcome : Result Stepped ℕ) → outcome ≡ Err 901
      → IsUntold (stepped happened outcome s).silo
  by_refusal happened outcome is = subst (λ (o : Result Stepped ℕ). IsUntold (stepped happened o s).silo) (sym is) untold

  step_untold : (happened : Effect → List (List ℕ)) (input : Input) → IsUntold (stepped happened (does s input) s).silo
  step_untold happened input =
      by_refusal happened (does s input) (ap (λ (o : Option Status). unless_barred (barred_by o) (step s.node input)) untold)

  done_untold : (input : Input) → IsUntold (stepped (λ effect. happening_words (Did s.node.host.silo effect)) (does s input) s).silo
  done_untold input = step_untold (λ effect. happening_words (Did s.node.host.silo effect)) input

  received_untold : (letter : Letter) → IsUntold (received_so letter s).silo
  received_untold letter = by (silo_eq letter.to s.node.host.silo) refl
    where
      words : Effect → List (List ℕ)
      words = received_words s.node.host s.node.view.version letter

      by : (its : Bool) → silo_eq letter.to s.node.host.silo ≡ its
          → IsUntold (cond its (stepped words (receives s letter) s) (printing [] s)).silo
      by true is =
          by_refusal words (receives s letter)
          (ap (λ (b : Bool). cond b (does s (Receives letter)) (Ok (silently s.node Ignored))) is
          ∙ ap (λ (o : Option Status). unless_barred (barred_by o) (step s.node (Receives letter))) untold)
      by false is = untold

  -- what is asked isn't its own join
  abbrev IsOther : Asked → Type 0
  IsOther (Joined version silo token places) = silo ≢ s.node.host.silo
  IsOther other = ⊤

  answered_untold : (asked : Asked) → IsOther asked → IsUntold (answered asked s).silo
  unfolding answered
  answered_untold (Joined version silo token places) other = told_untold version (Join silo places) other
  answered_untold (Leaving version silo) other = told_untold version (Leave silo) tt
  answered_untold (line.Dead version silo) other = told_untold version (Die silo) tt
  answered_untold (Begin version rows) other =
      begun_untold version rows (told_view s.node.settings s.membership s.node.host.silo version rows) refl
  answered_untold (See version) other =
      by_refusal (λ effect. happening_words (Saw s.node.host.silo version effect)) (sees s version)
      (ap (λ (o : Option Status). unless_barred (barred_by o) (seen s version)) untold)
  answered_untold (Do step) other = done_untold (Does step)
  answered_untold (Receive letter) other = received_untold letter
  answered_untold (Ping word) other = untold
  answered_untold (Owner grain) other = untold
  answered_untold (Place grain policy) other = untold
  answered_untold Figures other = untold
  answered_untold Show other = untold
  answered_untold Dump other = untold

-- ---- the law
carried : (stated : Option (List ℕ)) (token : List ℕ) → carries stated token ≡ true → stated ≡ Some token
carried None token is = cc is
carried (Some other) token is = ap (λ (t : List ℕ). Some t) ((bytes_eq-Decides other token).0 is)

none_by : (o : Option Status) → is_some o ≡ false → o ≡ None
none_by None is = refl
none_by (Some status) is = cc is

no_longer : (s : SiloValue) → IsUntold s → told_of_its_join s ≡ true → ⊥
no_longer s untold told_so =
    let gone : false ≡ true = sym (ap (λ (o : Option Status). is_some o) untold) ∙ told_so in
    cc gone

pub joins_by_its_token : (token : List ℕ) (asked : Asked) (s : SiloValue) → IsWhole s → told_of_its_join s ≡ false
    → told_of_its_join (answered_as (Some token) asked s).silo ≡ true
    → CarriesItsJoin s.node.host.silo token asked
unfolding answered_as
joins_by_its_token token asked s whole before after = by asked after
  where
    untold : IsUntold s
    untold = none_by (own_status s) before

    by_join : (version : ℕ) (silo : Silo) (stated : Option (List ℕ)) (places : List ℕ) (its with_it : Bool)
        → silo_eq silo s.node.host.silo ≡ its → carries stated token ≡ with_it
        → told_of_its_join (cond (its && not with_it) (printing (refusal_line 208 ∷ []) s)
        (answered (Joined version silo stated places) s)).silo ≡ true
        → CarriesItsJoin s.node.host.silo token (Joined version silo stated places)
    by_join version silo stated places true true its with_it after =
        ((Decides-silo silo s.node.host.silo).0 its, carried stated token with_it)
    by_join version silo stated places true false its with_it after = absurd (no_longer s untold after)
    by_join version silo stated places false with_it its which after =
        let other = not_from_Decides (silo_eq silo s.node.host.silo) (Decides-silo silo s.node.host.silo) its in
        absurd (no_longer (answered (Joined version silo stated places) s).silo
        (answered_untold s whole untold (Joined version silo stated places) other) after)

    by_other : (asked : Asked) → IsOther s whole untold asked → told_of_its_join (answered asked s).silo ≡ true → ⊥
    by_other asked other after = no_longer (answered asked s).silo (answered_untold s whole untold asked other) after

    by : (asked : Asked) → told_of_its_join (answered_as (Some token) asked s).silo ≡ true → CarriesItsJoin s.node.host.silo token asked
    by (Joined version silo stated places) after =
        by_join version silo stated places (silo_eq silo s.node.host.silo) (carries stated token) refl refl after
    by (Leaving version silo) after = by_other (Leaving version silo) tt after
    by (line.Dead version silo) after = by_other (line.Dead version silo) tt after
    by (Begin version rows) after = by_other (Begin version rows) tt after
    by (See version) after = by_other (See version) tt after
    by (Do step) after = by_other (Do step) tt after
    by (Receive letter) after = by_other (Receive letter) tt after
    by (Ping word) after = by_other (Ping word) tt after
    by (Owner grain) after = by_other (Owner grain) tt after
    by (Place grain policy) after = by_other (Place grain policy) tt after
    by Figures after = by_other Figures tt after
    by Show after = by_other Show tt after
    by Dump after = by_other Dump tt after

-- The laws of a silo by itself.
use Rattle.std.proofs.Common.{arith, ◌≡◌, ℕ, ◌+◌, refl, sym, ap, ◌∙◌, subst}
use Rattle.std.specs.Prelude.{Bool, true, false, not, ◌==◌, nat_le, nat_lt, is_some, if◌then◌else◌, Option, Some, None, option_and_then, Result, Ok, Err}
use Rattle.std.specs.Option.{unwrap_or}
use Rattle.std.proofs.lemmas.Bool.{leb-true}
use Rattle.texts.proofs.Decided.{both}
use Rattle.silo_address.specs.Silo.{Silo, silo_eq}
use Rattle.silo_address.proofs.Same.{Decides-silo}
use Rattle.membership_view.specs.declared.row.Row.{Row}
use Rattle.membership_view.specs.declared.status.Status.{Status}
use Rattle.membership_view.specs.declared.status.Status.TheVariants.{Active, Leaving, Dead}
use Rattle.membership_view.specs.Row.{status_in}
use Rattle.membership_view.specs.Views.{ViewsValue, row_of, status_at, joining_version}
use Rattle.membership_view.specs.Whole.{IsViews}
use Rattle.membership_view.proofs.Known.{status_at-made}
use Rattle.membership_view.proofs.Statuses.{there_from}
use Rattle.hash_ring.specs.Places.{PlacesValue}
use Rattle.directory_rules.specs.Happens as rule
use Rattle.directory_rules.specs.Input.{Input, Receives, sight_of, step}
use Rattle.directory_rules.specs.Laws.{is_live}
use Rattle.directory_rules.specs.State.{Letter, World, Accepted}
use Rattle.directory_rules.specs.Step.{Stepped, silently}
use Rattle.directory_rules.specs.declared.effect.Effect.TheVariants.{Ignored}
use Rattle.silo_rules.specs.declared.news.News.TheVariants.{Known}
use Rattle.silo_rules.specs.Known.{is_before, is_known}
use Rattle.silo_rules.specs.Laws.{StaysWhole, IsOf, FollowsTheRule}
use Rattle.directory_rules.specs.Membership.{Change, Membership, barred_by, changed, is_seeable, replaced_by}
use Rattle.silo_rules.specs.SiloValue.{SiloValue, own_status, told_of_its_join}
use Rattle.silo_rules.specs.Steps.{barred, unless_barred, does, receives, seen, sees}
use Rattle.silo_rules.specs.NodeInputs.{IsNoSight}
use Rattle.silo_rules.specs.Told.{Heard, heard_by, told}
use Rattle.silo_rules.specs.Whole.{IsWhole}
use Rattle.silo_rules.proofs.Begun.{begins_whole}
use Rattle.silo_rules.proofs.Whole.{change_whole, first_whole, input_whole, sight_whole}

-- ---- what stays whole
tells_whole : (s : SiloValue) (version : ℕ) (change : Change) (heard : Heard) → IsWhole s
    → told s.node.settings s.membership version change ≡ Ok heard → IsWhole (record s { membership = heard.membership })
tells_whole s version change heard is so =
    by (nat_le version s.membership.views.version) (is_before s.membership version) (is_known s.membership version change)
    (version == s.membership.views.version + 1) (changed s.node.settings s.membership change) refl so
  where
    by : (old before known next : Bool) (made : Result Membership ℕ) → changed s.node.settings s.membership change ≡ made
        → (if old then (if before then Err 212 else (if known then Ok (record { membership = s.membership; news = Known }) else Err 207))
        else (if not next then Err 206 else heard_by made (replaced_by s.membership change))) ≡ Ok heard
        → IsWhole (record s { membership = heard.membership })
    by true true known next made at told_so = absurd (cc (told_so))
    by true false true next made at told_so =
        let same : record { membership = s.membership; news = Known } ≡ heard = cc (told_so) in
        subst (λ (h : Heard). IsWhole (record s { membership = h.membership })) same is
    by true false false next made at told_so = absurd (cc (told_so))
    by false before known false made at told_so = absurd (cc (told_so))
    by false before known true (Err number) at told_so = absurd (cc (told_so))
    by false before known true (Ok m) at told_so =
        let same : m ≡ heard.membership = cc (told_so) in
        subst (λ (n : Membership). IsWhole (record s { membership = n })) same (change_whole s change m is at)

unbarred : (o : Option ℕ) (outcome : Result Stepped ℕ) (stepped : Stepped) → unless_barred o outcome ≡ Ok stepped → outcome ≡ Ok stepped
unbarred None outcome stepped so = so
unbarred (Some number) outcome stepped so = absurd (cc (so))

sees_whole : (s : SiloValue) (version : ℕ) (stepped : Stepped) → IsWhole s → sees s version ≡ Ok stepped
    → IsWhole (record s { node = stepped.node })
sees_whole s version stepped is so =
    by (nat_lt s.node.view.version version) (is_seeable s.membership s.node.host.silo version) refl
    (unbarred (barred s) (seen s version) stepped so)
  where
    by : (newer seeable : Bool) → is_seeable s.membership s.node.host.silo version ≡ seeable
        → (if not newer then Err 903 else (if not seeable then Err 904 else step s.node (sight_of s.membership version))) ≡ Ok stepped
        → IsWhole (record s { node = stepped.node })
    by false seeable at seen_so = absurd (cc (seen_so))
    by true false at seen_so = absurd (cc (seen_so))
    by true true at seen_so =
        let joined = nat_le (unwrap_or (joining_version s.membership.views s.node.host.silo) 0) version in
        let two = both (nat_le version s.membership.views.version) joined at in
        sight_whole s version stepped is (leb-true version s.membership.views.version two.0)
        (leb-true (unwrap_or (joining_version s.membership.views s.node.host.silo) 0) version two.1) seen_so

does_whole : (s : SiloValue) (input : Input) (stepped : Stepped) → IsNoSight input → IsWhole s → does s input ≡ Ok stepped
    → IsWhole (record s { node = stepped.node })
does_whole s input stepped other is so = input_whole s input stepped is other (unbarred (barred s) (step s.node input) stepped so)

receives_whole : (s : SiloValue) (letter : Letter) (stepped : Stepped) → IsWhole s → receives s letter ≡ Ok stepped
    → IsWhole (record s { node = stepped.node })
receives_whole s letter stepped is so = by (silo_eq letter.to s.node.host.silo) so
  where
    by : (its : Bool) → (if its then does s (Receives letter) else Ok (silently s.node Ignored)) ≡ Ok stepped
        → IsWhole (record s { node = stepped.node })
    by true received = does_whole s (Receives letter) stepped tt is received
    by false ignored =
        let same : silently s.node Ignored ≡ stepped = cc (ignored) in
        subst (λ (t : Stepped). IsWhole (record s { node = t.node })) same is

pub stays_whole : StaysWhole
stays_whole = record {
  first = first_whole;
  tells = tells_whole;
  begins = begins_whole;
  sees_so = sees_whole;
  does_so = does_whole;
  receives_so = receives_whole;
}

-- ---- the rule
-- who has a row has a status in the last view
pub row_known : (views : ViewsValue) → IsViews views → (silo : Silo)
    → is_some (row_of views silo) ≡ is_some (status_at views views.version silo)
row_known views whole silo =
    by (row_of views silo) refl ∙ ap (λ (o : Option Status). is_some o)
    (sym (status_at-made views whole.in_order views.version silo (omega arith)))
  where
    by : (o : Option Row) → row_of views silo ≡ o → is_some (row_of views silo) ≡ is_some
        (option_and_then (status_in views.version) (row_of views silo))
    by None at =
        ap (λ (o : Option Row). is_some o) at ∙ sym (ap (λ (o : Option Row). is_some (option_and_then (status_in views.version) o)) at)
    by (Some row) at =
        ap (λ (o : Option Row). is_some o) at ∙ sym (there_from views.version row (whole.in_time silo row at).joined_by)
        ∙ sym (ap (λ (o : Option Row). is_some (option_and_then (status_in views.version) o)) at)

module _ (world : World) (s : SiloValue) (whole : IsWhole s) (of : IsOf world s) where
  absent_at : (o : Option Status) → own_status s ≡ o → rule.absent_number world s.node.host.silo ≡ unwrap_or (barred_by o) 902
  absent_at o at =
      ap (λ (v : ViewsValue). unwrap_or (barred_by (status_at v v.version s.node.host.silo)) 902) of.views
      ∙ ap (λ (p : Option Status). unwrap_or (barred_by p) 902) at

  does_rule : (input : Input) → rule.does world s.node.host.silo input ≡ rule.done_by (does s input) world s.node.host.silo
  does_rule input = ap (λ n. rule.does_at n world s.node.host.silo input) of.node ∙ by (own_status s) refl
    where
      by : (o : Option Status) → own_status s ≡ o
          → rule.does_at (if is_live o then Some s.node else None) world s.node.host.silo input ≡ rule.done_by
          (unless_barred (barred_by o) (step s.node input)) world s.node.host.silo
      by None at = ap (λ n. Err n) (absent_at None at)
      by (Some Active) at = refl
      by (Some Leaving) at = refl
      by (Some Dead) at = ap (λ n. Err n) (absent_at (Some Dead) at)

  -- a sight by these views and places
  seen_by_these : (version : ℕ) → ViewsValue → PlacesValue → Result Accepted ℕ
  seen_by_these version views places =
      if not (nat_lt s.node.view.version version) then Err 903
      else (if not (is_seeable (record { views = views; places = places }) s.node.host.silo version) then Err 904
      else rule.seen_by (step s.node (sight_of (record { views = views; places = places }) version)) world s.node.host.silo version)

  seen_rule : (version : ℕ) → rule.sees_at (Some s.node) world s.node.host.silo version ≡ rule.seen_by (seen s version) world
      s.node.host.silo version
  unfolding seen_by_these
  seen_rule version =
      ap (λ (v : ViewsValue). seen_by_these version v world.places) of.views
      ∙ ap (λ (p : PlacesValue). seen_by_these version s.membership.views p) of.places
      ∙ by (nat_lt s.node.view.version version) (is_seeable s.membership s.node.host.silo version)
      (step s.node (sight_of s.membership version))
    where
      by : (newer seeable : Bool) (outcome : Result Stepped ℕ)
          → (if not newer then Err 903 else (if not seeable then Err 904 else rule.seen_by outcome world s.node.host.silo version))
          ≡ rule.seen_by (if not newer then Err 903 else (if not seeable then Err 904 else outcome)) world s.node.host.silo version
      by false seeable outcome = refl
      by true false outcome = refl
      by true true outcome = refl

  sees_rule : (version : ℕ) → rule.sees world s.node.host.silo version ≡ rule.seen_by (sees s version) world s.node.host.silo version
  sees_rule version = ap (λ n. rule.sees_at n world s.node.host.silo version) of.node ∙ by (own_status s) refl
    where
      by : (o : Option Status) → own_status s ≡ o
          → rule.sees_at (if is_live o then Some s.node else None) world s.node.host.silo version ≡ rule.seen_by
          (unless_barred (barred_by o) (seen s version)) world s.node.host.silo version
      by None at = ap (λ n. Err n) (absent_at None at)
      by (Some Active) at = seen_rule version
      by (Some Leaving) at = seen_rule version
      by (Some Dead) at = ap (λ n. Err n) (absent_at (Some Dead) at)

  receives_rule : (number : ℕ) (letter : Letter) → told_of_its_join s ≡ true → letter.to ≡ s.node.host.silo
      → rule.delivers (Some letter) world number ≡ rule.delivered_by (receives s letter) world number letter
  receives_rule number letter told_so to =
      ap (λ silo. rule.delivers_to (rule.node_of world silo) world number letter) to
      ∙ ap (λ n. rule.delivers_to n world number letter) of.node
      ∙ by (own_status s) told_so
      ∙ sym (ap (λ (b : Bool). rule.delivered_by (if b then does s (Receives letter) else Ok (silently s.node Ignored)) world number letter)
      ((Decides-silo letter.to s.node.host.silo).1 to))
    where
      by : (o : Option Status) → is_some o ≡ true
          → rule.delivers_to (if is_live o then Some s.node else None) world number letter ≡ rule.delivered_by
          (unless_barred (barred_by o) (step s.node (Receives letter))) world number letter
      by None there = absurd (cc (there))
      by (Some Active) there = refl
      by (Some Leaving) there = refl
      by (Some Dead) there = refl

pub follows_the_rule : FollowsTheRule
follows_the_rule = record {
  does_so = λ world s input whole of. does_rule world s whole of input;
  sees_so = λ world s version whole of. sees_rule world s whole of version;
  receives_so = λ world s number letter whole of told_so to. receives_rule world s whole of number letter told_so to;
}

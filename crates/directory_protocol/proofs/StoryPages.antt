-- Wrong protocols of reports in pages: the first page is taken for the last, and pages are asked for by their numbers.
use Rattle.std.proofs.Common.{◌≡◌, ◌≢◌, ◌<◌, ◌==◌, ℕ, zero, suc, Bool, true, cond, Option, Some, None, List, [], ◌∷◌, ◌++◌, inl, inr, sym, refl, ap, ◌∙◌, subst, arith}
use Rattle.std.specs.Prelude.{Contains}
use Rattle.silo_address.specs.Silo.{Silo, silo_eq}
use Rattle.silo_address.specs.Grain.{Grain, grain_eq}
use Rattle.silo_address.proofs.Same.{Decides-grain}
use Rattle.silo_address.specs.declared.activation.ActivationId.{ActivationId}
use Rattle.directory_protocol.specs.Change.{put, put_grain, put_at}
use Rattle.directory_protocol.specs.Letters.{activation_on, Registered, Request, Report, Sent}
use Rattle.directory_protocol.specs.World.{World, start, Asking, Firm, Closing, firm_count}
use Rattle.directory_protocol.specs.Actions.{Action, New_view, Start, Close, Confirm, Tell}
use Rattle.directory_protocol.specs.Effects.{run, AllAllowed, after_settling, reported}
use Rattle.directory_protocol.specs.Safety.{SettledIsRight}
use Rattle.directory_protocol.specs.Loosened.{Breaks, FirstPageCompletes, MayRecoverByFirstPages, firm_numbered, MayRecoverByNumbers, PagesByNumber}
use Rattle.directory_protocol.proofs.Changes.{on_bool}
use Rattle.directory_protocol.proofs.Runs.{allowed_append}
use Rattle.directory_protocol.proofs.StoryRecovery.{settles_all, only, of_three, of_members, only_told}
use Rattle.directory_protocol.proofs.Story.{first, second, third, ann, cluster, sees, may_see, registration, reply, answers}
use Rattle.directory_protocol.proofs.StoryTwo.{two, early, registered}

-- a second grain, which is firm on the second silo too
abbrev bob : Grain
bob = record { kind = 117 ∷ []; key = 98 ∷ [] }

abbrev next : ActivationId
next = activation_on second 2

abbrev next_request : Request
next_request = record (registration 2 2 second 2 None) { grain = bob }

abbrev next_registering : List Action
next_registering =
    Start second bob None ∷ answers next_request Registered (Some next) ∷ Confirm (reply Registered 2 2 second) bob (Asking 2 2 None) ∷ []

next_allowed : AllAllowed cluster next_registering (run cluster early start)
unfolding put put_at put_grain
next_allowed = (
  record { alive = refl; member = refl; free = refl; offered = λ p e. absurd cc },
  (
    record {
      sent = inl refl;
      alive = refl;
      same_version = refl;
      settled = refl;
      new_number = omega arith;
      answered = inl (refl, refl, inl refl);
    },
    (
      record {
        accepted = record { alive = refl; sent = inl refl; counts = record { held_there = refl; same_number = refl; same_version = refl } };
        answer = refl;
      },
      tt,
    ),
  ),
)

abbrev both : List Action
both = early ++ next_registering

both_registered : AllAllowed cluster both start
both_registered = allowed_append cluster early next_registering start registered next_allowed

-- all see the third version
abbrev looking : List Action
looking = New_view ∷ sees first 3 ∷ sees second 3 ∷ sees third 3 ∷ []

looking_allowed : AllAllowed cluster looking (run cluster both start)
unfolding put put_at put_grain
looking_allowed = (
  tt,
  (
    may_see _ _ _ refl (omega arith) (omega arith) refl,
    (
      may_see _ _ _ refl (omega arith) (omega arith) refl,
      (
        may_see _ _ _ refl (omega arith) (omega arith) refl,
        tt,
      ),
    ),
  ),
)

abbrev both_looked : List Action
both_looked = both ++ looking

both_looked_allowed : AllAllowed cluster both_looked start
both_looked_allowed = allowed_append cluster both looking start both_registered looking_allowed

abbrev looked : World
looked = run cluster both_looked start

-- ann alone is told of
ann_alone_entered : (g : Grain) (a : ActivationId) → only two g ≡ Some a → (grain_eq g ann ≡ true) × (a ≡ two)
unfolding put_grain
ann_alone_entered g a =
    on_bool (λ b. grain_eq g ann ≡ b → cond b (Some two) None ≡ Some a → (grain_eq g ann ≡ true) × (a ≡ two)) (grain_eq g ann)
    (λ t i e. (i, cc)) (λ t i e. absurd cc) refl

ann_is_entered : (g : Grain) → grain_eq g ann ≡ true → (a : ActivationId) × (only two g ≡ Some a)
unfolding put_grain
ann_is_entered g i = (two, ap (λ b. cond b (Some two) None) i)

-- ---- the first page completes

abbrev telling : List Action
telling = Tell first ∷ Tell second ∷ Tell third ∷ []

telling_allowed : AllAllowed cluster telling looked
unfolding put put_at put_grain
telling_allowed = (refl, (refl, (refl, tt)))

abbrev told_whole : Silo → Report
told_whole r = of_three (reported looked first) (reported looked second) (reported looked third) r ann

-- each page has ann
abbrev first_page : Silo → Grain → Bool
first_page r g = grain_eq g ann

by_first_pages : MayRecoverByFirstPages cluster (run cluster telling looked) (settles_all (only two)) told_whole first_page
unfolding put put_at put_grain
by_first_pages = record {
  settles = record { alive = refl; owned = λ h e. refl; unsettled = λ h e. refl };
  sent = λ r i. of_members (λ r. Sent (told_whole r) (run cluster telling looked).reports) (inr (inr (inl refl))) (inr (inl refl))
      (inl refl) r i;
  same_version = λ r i. of_members (λ r. (told_whole r).version ≡ 3) refl refl refl r i;
  own_report = λ r i. of_members (λ r. (told_whole r).sender ≡ r) refl refl refl r i;
  some = λ r g i f. (
    ann,
    refl,
    of_members (λ r. (told_whole r).firm g ≢ None → (told_whole r).firm ann ≢ None) (λ f. absurd (f refl))
        (λ f e. cc) (λ f. absurd (f refl)) r i f,
  );
  from_member = λ g a u e. (only_told (λ r g. told_whole r) two refl refl g a e).0;
  from_page = λ g a u e. ((ann_alone_entered g a e).0, (only_told (λ r g. told_whole r) two refl refl g a e).1);
  complete = λ g r c u i page f. ann_is_entered g page;
}

pub first_page_completes : Breaks FirstPageCompletes SettledIsRight
unfolding put put_at put_grain
first_page_completes = (
  cluster,
  both_looked ++ telling,
  after_settling cluster (run cluster (both_looked ++ telling) start) (settles_all (only two)),
  [],
  allowed_append cluster both_looked telling start both_looked_allowed telling_allowed,
  (settles_all (only two), told_whole, first_page, by_first_pages, refl),
  tt,
  λ right.
      let e : None ≡ Some next = (right bob third (record { alive = refl; settled = refl })).complete second 2 (record { alive = refl; firm = refl }) in
      cc,
)

-- ---- pages by number

-- between its first report and its second the second silo closes the activation of ann
abbrev closing : List Action
closing = Tell first ∷ Tell second ∷ Close second ann (Firm 1) ∷ Tell second ∷ Tell third ∷ []

closing_allowed : AllAllowed cluster closing looked
unfolding put put_at put_grain
closing_allowed = (refl, (refl, (record { alive = refl; held = refl; not_yet = refl }, (refl, (refl, tt)))))

abbrev closed : World
closed = run cluster (Close second ann (Firm 1) ∷ []) looked

abbrev grains : List Grain
grains = ann ∷ bob ∷ []

abbrev of_second : ℕ → Report
of_second n = cond (n == 0) (reported looked second) (reported closed second)

abbrev told_numbered : Silo → ℕ → Report
told_numbered r n = of_three (reported looked first) (of_second n) (reported looked third) r ann

abbrev pages : Silo → ℕ
pages r = cond (silo_eq r second) 1 0

sent_second : (n : ℕ) → Sent (of_second n) (run cluster closing looked).reports
unfolding put put_at put_grain
sent_second n =
    on_bool (λ b. Sent (cond b (reported looked second) (reported closed second)) (run cluster closing looked).reports) (n == 0)
    (λ t. inr (inr (inl refl))) (λ t. inr (inl refl))

-- whatever is firm on the second silo is ann or bob
among_grains : (g : Grain) (o p : Option ℕ) → cond (grain_eq g ann) o (cond (grain_eq g bob) p None) ≢ None → Contains grains g
among_grains g o p =
    on_bool (λ b. grain_eq g ann ≡ b → cond b o (cond (grain_eq g bob) p None) ≢ None → Contains grains g) (grain_eq g ann)
    (λ t i f. subst (λ x. Contains grains x) (sym ((Decides-grain g ann).0 i)) (0, omega arith, refl))
    (λ t i. on_bool (λ b. grain_eq g bob ≡ b → cond b p None ≢ None → Contains grains g) (grain_eq g bob)
    (λ t j f. subst (λ x. Contains grains x) (sym ((Decides-grain g bob).0 j)) (1, omega arith, refl))
    (λ t j f. absurd (f refl)) refl) refl

firm_before : (g : Grain) → (reported looked second).firm g ≡ cond (grain_eq g ann) (Some 1) (cond (grain_eq g bob) (Some 2) None)
unfolding put put_at put_grain
firm_before g =
    on_bool (λ b. grain_eq g bob ≡ b → firm_count (cond b (Some (Firm 2)) (cond b (Some (Asking 2 2 None)) (cond (grain_eq g ann) (Some (Firm 1))
    (cond (grain_eq g ann) (Some (Asking 1 1 None)) None)))) ≡ cond (grain_eq g ann) (Some 1) (cond b (Some 2) None)) (grain_eq g bob)
    (λ t i. sym (ap (λ x. cond (grain_eq x ann) (Some 1) (Some 2)) ((Decides-grain g bob).0 i)))
    (λ t i. on_bool (λ b. firm_count (cond b (Some (Firm 1)) (cond b (Some (Asking 1 1 None)) None)) ≡ cond b (Some 1) None) (grain_eq g ann)
    (λ u. refl) (λ u. refl)) refl

firm_after : (g : Grain) → (reported closed second).firm g ≡ cond (grain_eq g ann) None (cond (grain_eq g bob) (Some 2) None)
unfolding put put_at put_grain
firm_after g =
    on_bool (λ b. firm_count (cond b (Some (Closing 1 3)) (cond (grain_eq g bob) (Some (Firm 2)) (cond (grain_eq g bob) (Some (Asking 2 2 None))
    (cond b (Some (Firm 1)) (cond b (Some (Asking 1 1 None)) None))))) ≡ cond b None (cond (grain_eq g bob) (Some 2) None)) (grain_eq g ann)
    (λ u. refl)
    (λ u. on_bool (λ b. firm_count (cond b (Some (Firm 2)) (cond b (Some (Asking 2 2 None)) None)) ≡ cond b (Some 2) None) (grain_eq g bob)
    (λ v. refl) (λ v. refl))

all_of_second : (n : ℕ) (g : Grain) → (of_second n).firm g ≢ None → Contains grains g
all_of_second n g =
    on_bool (λ b. (cond b (reported looked second) (reported closed second)).firm g ≢ None → Contains grains g) (n == 0)
    (λ t f. among_grains g (Some 1) (Some 2) (λ e. f (firm_before g ∙ e)))
    (λ t f. among_grains g None (Some 2) (λ e. f (firm_after g ∙ e)))

from_second : (g : Grain) (n : ℕ) → n < 1 → firm_numbered grains n (of_second n) ≡ Some g → (a : ActivationId) × (only two g ≡ Some a)
unfolding put put_at put_grain
from_second g zero below e = let same : ann ≡ g = cc in ann_is_entered g (subst (λ x. grain_eq x ann ≡ true) same refl)
from_second g (suc n) below e = absurd (omega (arith, below))

on_first_page : (g : Grain) (a : ActivationId) → only two g ≡ Some a
    → (n : ℕ) × (n < pages a.silo) × (firm_numbered grains n (told_numbered a.silo n) ≡ Some g) × ((told_numbered a.silo n).firm g ≡ Some a.count)
unfolding put put_at put_grain
on_first_page g a e =
    let so = ann_alone_entered g a e in
    let at : g ≡ ann = (Decides-grain g ann).0 so.0 in
    subst (λ (x : ActivationId). (n : ℕ) × (n < pages x.silo) × (firm_numbered grains n (told_numbered x.silo n) ≡ Some g)
    × ((told_numbered x.silo n).firm g ≡ Some x.count)) (sym so.1)
    (subst (λ x. (n : ℕ) × (n < pages second) × (firm_numbered grains n (told_numbered second n) ≡ Some x)
    × ((told_numbered second n).firm x ≡ Some 1)) (sym at) (0, omega arith, refl, refl))

by_numbers : MayRecoverByNumbers cluster (run cluster closing looked) (settles_all (only two)) grains told_numbered pages
unfolding put put_at put_grain
by_numbers = record {
  settles = record { alive = refl; owned = λ h e. refl; unsettled = λ h e. refl };
  sent = λ r n i l. of_members (λ r. Sent (told_numbered r n) (run cluster closing looked).reports) (inr (inr (inr (inl refl))))
      (sent_second n) (inl refl) r i;
  same_version = λ r n i l. of_members (λ r. (told_numbered r n).version ≡ 3) refl
      (on_bool (λ b. (cond b (reported looked second) (reported closed second)).version ≡ 3) (n == 0) (λ t. refl) (λ t. refl)) refl r i;
  own_report = λ r n i l. of_members (λ r. (told_numbered r n).sender ≡ r) refl
      (on_bool (λ b. (cond b (reported looked second) (reported closed second)).sender ≡ second) (n == 0) (λ t. refl) (λ t. refl)) refl r i;
  all_grains = λ r n g i l f. of_members (λ r. (told_numbered r n).firm g ≢ None → Contains grains g) (λ f. absurd (f refl))
      (all_of_second n g) (λ f. absurd (f refl)) r i f;
  ends = λ r i. of_members (λ r. firm_numbered grains (pages r) (told_numbered r (pages r)) ≡ None) refl refl refl r i;
  from_member = λ g a u e. subst (λ (x : ActivationId). cluster.member 3 x.silo ≡ true) (sym (ann_alone_entered g a e).1) refl;
  from_page = λ g a u e. on_first_page g a e;
  complete = λ g r n u i below e. of_members (λ r. n < pages r → firm_numbered grains n (told_numbered r n) ≡ Some g
      → (a : ActivationId) × (only two g ≡ Some a)) (λ l e. absurd (omega (arith, l))) (λ l e. from_second g n l e)
      (λ l e. absurd (omega (arith, l))) r i below e;
}

pub pages_by_number : Breaks PagesByNumber SettledIsRight
unfolding put put_at put_grain
pages_by_number = (
  cluster,
  both_looked ++ closing,
  after_settling cluster (run cluster (both_looked ++ closing) start) (settles_all (only two)),
  [],
  allowed_append cluster both_looked closing start both_looked_allowed closing_allowed,
  (settles_all (only two), grains, told_numbered, pages, by_numbers, refl),
  tt,
  λ right.
      let e : None ≡ Some next = (right bob third (record { alive = refl; settled = refl })).complete second 2 (record { alive = refl; firm = refl }) in
      cc,
)

-- What comes of an ask, of a page, and of a snapshot that isn't there.
use Rattle.std.proofs.Common.{◌≡◌, refl, ap, ℕ, List, ◌++◌}
use Rattle.std.specs.Prelude.{Bool, true, false, cond, not, ◌&&◌, ◌==◌, ◌+◌, ◌<◌, nat_lt, Result, Ok, Err}
use Rattle.std.specs.Cmp.Lexicographic.{pointwise}
use Rattle.silo_address.specs.declared.Entry.{Entry}
use Rattle.ring_range.specs.Range.{range_eq}
use Rattle.ring_range.proofs.Same.{Decides-range}
use Rattle.directory_rules.specs.State.{Gathering, Page}
use Rattle.directory_rules.specs.Gatherings.{Gathered, Wants_page, Has_all, Refuses, gathered, is_in_turn, new_gathering, with_page}
use Rattle.directory_rules.specs.Snapshot.{digest_of}
use Rattle.std.proofs.lemmas.Bool.{ltb-true, and_parts}
use Rattle.std.proofs.lemmas.Bool.Decides.{Decides-eqb}
use Rattle.seal_snapshot.specs.Progress.{progress_of}
use Rattle.seal_snapshot.specs.declared.progress.GatheringProgress.{GatheringProgress}
use Rattle.seal_snapshot.specs.declared.progress.GatheringProgress.TheVariants.{More, Complete}

-- what comes of a page, by whether it is of the gathering, in its turn, not the last one, and, if it is, of the right digest
abbrev outcome : (its in_turn further right : Bool) → (gathering more anew : Gathering) → List Entry → Gathered
outcome its in_turn further right gathering more anew entries =
    cond (not its) (Refuses 703 gathering) (cond (not in_turn) (Refuses 702 gathering)
    (cond further (Wants_page more) (cond right (Has_all entries) (Refuses 701 anew))))

by_outcome : (its in_turn further right : Bool) (g more anew : Gathering) (es : List Entry)
    → progress_of (outcome its in_turn further right g more anew es) ≡ Ok More
    → (outcome its in_turn further right g more anew es ≡ Wants_page more) × (its ≡ true) × (in_turn ≡ true) × (further ≡ true)
by_outcome false b c d g more anew es is = absurd (cc (is))
by_outcome true false c d g more anew es is = absurd (cc (is))
by_outcome true true true d g more anew es is = (refl, refl, refl, refl)
by_outcome true true false true g more anew es is = absurd (cc (is))
by_outcome true true false false g more anew es is = absurd (cc (is))

all_there : (its in_turn further right : Bool) (g more anew : Gathering) (es : List Entry)
    → progress_of (outcome its in_turn further right g more anew es) ≡ Ok Complete
    → outcome its in_turn further right g more anew es ≡ Has_all es
all_there false b c d g more anew es is = cc
all_there true false c d g more anew es is = cc
all_there true true true d g more anew es is = cc
all_there true true false true g more anew es is = refl
all_there true true false false g more anew es is = cc

-- whether the digest was wrong
abbrev is_701 : Result GatheringProgress ℕ → Bool
is_701 (Ok progress) = false
is_701 (Err number) = number == 701

wrong_of : (its in_turn further right : Bool) (g more anew : Gathering) (es : List Entry)
    → is_701 (progress_of (outcome its in_turn further right g more anew es)) ≡ true
    → (outcome its in_turn further right g more anew es ≡ Refuses 701 anew) × (its ≡ true)
wrong_of false b c d g more anew es is = absurd (cc (is))
wrong_of true false c d g more anew es is = absurd (cc (is))
wrong_of true true true d g more anew es is = absurd (cc (is))
wrong_of true true false true g more anew es is = absurd (cc (is))
wrong_of true true false false g more anew es is = (refl, refl)

abbrev is_of : Gathering → Page → Bool
is_of g page = (page.version == g.version) && range_eq page.range g.range

abbrev is_right : Gathering → Page → Bool
is_right g page = pointwise ◌==◌ (digest_of (g.entries ++ page.entries)) page.digest

-- a page that is the gathering's has its range
its_range : (g : Gathering) (page : Page) → is_of g page ≡ true → page.range ≡ g.range
its_range g page is = (Decides-range page.range g.range).0 (and_parts _ _ is).1

in_turn_is : (g : Gathering) (page : Page) → is_in_turn g page ≡ true → page.page ≡ g.next
in_turn_is g page is = (Decides-eqb page.page g.next).0 (and_parts _ _ (and_parts _ _ (and_parts _ _ is).0).0).0

-- more are wanted
pub record WantsMore (g : Gathering) (page : Page) : Type 0 where
  pub is : gathered g page ≡ Wants_page (with_page g page)
  pub its_range : page.range ≡ g.range
  pub in_turn : page.page ≡ g.next
  pub further : page.page + 1 < page.pages

pub wants_more : (g : Gathering) (page : Page) → progress_of (gathered g page) ≡ Ok More → WantsMore g page
wants_more g page is =
    let by = by_outcome (is_of g page) (is_in_turn g page) (nat_lt (page.page + 1) page.pages) (is_right g page) g (with_page g page) (new_gathering g.version g.range) (g.entries ++ page.entries) is in
    record {
      is = by.0;
      its_range = its_range g page by.1;
      in_turn = in_turn_is g page by.2;
      further = ltb-true (page.page + 1) page.pages
          by.3;
    }

-- all entries are there
pub has_all : (g : Gathering) (page : Page) → progress_of (gathered g page) ≡ Ok Complete
    → gathered g page ≡ Has_all (g.entries ++ page.entries)
has_all g page is =
    all_there (is_of g page) (is_in_turn g page) (nat_lt (page.page + 1) page.pages) (is_right g page) g (with_page g page)
    (new_gathering g.version g.range) (g.entries ++ page.entries) is

-- the digest is another one
pub record IsWrong (g : Gathering) (page : Page) : Type 0 where
  pub is : gathered g page ≡ Refuses 701 (new_gathering g.version g.range)
  pub its_range : page.range ≡ g.range

pub is_wrong : (g : Gathering) (page : Page) → progress_of (gathered g page) ≡ Err 701 → IsWrong g page
is_wrong g page is =
    let by = wrong_of (is_of g page) (is_in_turn g page) (nat_lt (page.page + 1) page.pages) (is_right g page) g (with_page g page) (new_gathering g.version g.range) (g.entries ++ page.entries) (ap is_701 is) in
    record { is = by.0; its_range = its_range g page by.1 }

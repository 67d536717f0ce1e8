-- While membership rests: what silos report is of what they held at the start, so whoever tells further has fewer reports left.
use Rattle.std.proofs.Common.{arith, ◌≡◌, ℕ, zero, suc, ◌+◌, ◌≤◌, List, [], ◌∷◌, ◌++◌, refl, sym, ap, ◌∙◌, subst, ◌⊎◌, inl, inr}
use Rattle.std.specs.Prelude.{slice_get, true, Contains, Option, Some, None}
use Rattle.std.specs.Option.{option_map}
use Rattle.std.specs.List.{slice_index_or}
use Rattle.std.proofs.lemmas.List.Elements.{All-head}
use Rattle.silo_address.specs.Silo.{Silo, silo_eq}
use Rattle.silo_address.specs.Grain.{Grain}
use Rattle.silo_address.proofs.Same.{Decides-silo}
use Rattle.membership_view.specs.Views.{ViewsValue}
use Rattle.ring_range.specs.Range.{Range}
use Rattle.hash_ring.specs.Hash.{hash_grain}
use Rattle.directory_rules.specs.declared.held.Held.{Held}
use Rattle.directory_rules.specs.Settings.{Settings}
use Rattle.directory_rules.specs.Happens.{node_of}
use Rattle.directory_rules.specs.Input.{Input, Sees, Does, Receives}
use Rattle.directory_rules.specs.Mail.{letter_of}
use Rattle.directory_rules.specs.Membership.{Membership}
use Rattle.directory_rules.specs.Recovery.{told_by}
use Rattle.directory_rules.specs.Sent.{recovery_of}
use Rattle.directory_rules.specs.Standing.{rise_behind, last_grain}
use Rattle.directory_rules.specs.State.{Letter, Node}
use Rattle.directory_rules.specs.Table.{lie_in}
use Rattle.directory_rules.proofs.Cases.{on_bool}
use Rattle.directory_facts.specs.Pieces.{HasPieces}
use Rattle.progress_rules.specs.Room.{report_count, held_behind, all_held}
use Rattle.progress_rules.specs.Waits.{Recovers, Awaits}
use Rattle.progress_rules.proofs.AreTold.{Base, left_by, base_of, AreTold, told_on}
use Rattle.progress_rules.proofs.FirmKept.{Registers}
use Rattle.progress_rules.proofs.Open.{IsUnserved}
use Rattle.progress_rules.proofs.Passed.{Has}
use Rattle.progress_rules.proofs.TellsOn.{tells_on}
use Rattle.progress_rules.proofs.ToldFirst.{told_first, never_registers}
use Rattle.deployment_headline.specs.Deployment.{Deployment}
use Rattle.deployment_headline.specs.Limits.{node_with_room}
use Rattle.deployment_headline.specs.Steps.{Step, IsStep, after, after_all}
use Rattle.deployment_headline.proofs.Sound.{keeps}
use Rattle.deployment_progress.specs.Quiet.{DecidesNone}
use Rattle.deployment_progress.proofs.Rest.{node_at, HasWorld, IsAtRest, its_settings, its_sound}
use Rattle.deployment_progress.proofs.Quiet.{HasStayed, IsBrought, HasMoved, Moves, quiet_moves, view_stays, rests_on}
use Rattle.deployment_progress.proofs.States.{not_settled_and_recovers}
use Rattle.deployment_progress.proofs.Later.{w, in_world, its_pieces, its_version, its_settings_are, its_silo, IsQuiet, quiet_rest, step_on, later_so}

-- the letter was written
abbrev pub Written : Deployment → Letter → Type 0
Written d letter = (index : ℕ) × (slice_get d.written index ≡ Some letter)

-- what all hold, by the settings of the deployment
abbrev pub base_at : Deployment → Base
base_at d = record { silos = 0; settings = d.settings; held = λ silo. all_held (node_at d silo) }

abbrev pub AreReported : Base → Deployment → Type 0
AreReported b d = AreTold b d.membership.views.version (node_at d) (Written d)

-- ---- at the start
module _ (d : Deployment) (r : IsAtRest d) where
  abbrev its : HasWorld d
  its = w d r

  abbrev roomy : Node → Node
  roomy node = node_with_room its.events its.letters node

  held_same : (silo : Silo) → all_held (node_of its.world silo) ≡ all_held (node_at d silo)
  held_same silo = ap all_held (its.nodes silo) ∙ by (node_at d silo)
    where
      by : (o : Option Node) → all_held (option_map roomy o) ≡ all_held o
      by None = refl
      by (Some node) = refl

  version_is : its.world.views.version ≡ d.membership.views.version
  version_is = ap (λ (v : ViewsValue). v.version) its.views

  left_same : (silo : Silo) (range : Range) (told : Option Grain)
      → left_by (base_of its.world) silo range told ≡ left_by (base_at d) silo range told
  left_same silo range told =
      ap (λ (s : Settings). report_count s.report_size (held_behind s.hashing (all_held (node_of its.world silo)) range told)) its.settings
      ∙ ap (λ (held : List (Grain × Held)). report_count d.settings.report_size (held_behind d.settings.hashing held range told))
      (held_same silo)

  -- in the world as in the deployment
  unserved_in_world : (hash : ℕ) → IsUnserved (node_at d) hash → IsUnserved (node_of its.world) hash
  unserved_in_world hash u = record {
    owner = u.owner;
    node = roomy u.node;
    there = in_world d r u.owner u.node u.there;
    range = u.range;
    waits = u.waits;
    inside = u.inside;
  }

  hash_in_world : (grain : Grain) → IsUnserved (node_at d) (hash_grain d.settings.hashing grain)
      → IsUnserved (node_of its.world) (hash_grain its.world.settings.hashing grain)
  hash_in_world grain u =
      unserved_in_world (hash_grain its.world.settings.hashing grain)
      (subst (λ (s : Settings). IsUnserved (node_at d) (hash_grain s.hashing grain)) (sym its.settings) u)

  pub first_reported : AreReported (base_at d) d
  first_reported =
      let first = told_first its.world its.rests in
      record {
        firm = λ silo node there k x below firm u.
            let e = slice_index_or node.host.held k x in
            subst (λ held. Has held e.0) (held_same silo)
            (first.firm silo (roomy node) (in_world d r silo node there) k x below firm (hash_in_world e.0 u));
        reports = λ letter report written due.
            let fewer = first.reports letter report (1 + written.0, its.mail written.0 letter written.1) (record {
              body = due.body;
              version_is = due.version_is ∙ sym version_is;
              own = roomy due.own;
              there = in_world d r letter.to due.own due.there;
              waits = due.waits;
              rises = subst (λ (s : Settings). rise_behind (hash_grain s.hashing) (report.range ∷ []) report.after report.entries ≡ true)
                  (sym its.settings) due.rises;
              lie = subst (λ (s : Settings). lie_in s.hashing report.range report.entries ≡ true) (sym its.settings) due.lie;
              not_last = due.not_last;
            }) in
            let less = left_same report.silo report.range (last_grain report.after report.entries) in
            let more = left_same report.silo report.range report.after in
            omega (arith, fewer, less, more);
      }

  -- ---- a step
  never : (silo : Silo) (node : Node) → node_at d silo ≡ Some node → (st : Step) (input : Input) → IsBrought d st silo input → (grain : Grain)
      → Registers node input grain
      → IsUnserved (node_at d) (hash_grain d.settings.hashing grain) → ⊥
  never silo node there st input brought grain reg u =
      never_registers its.world its.rests silo (roomy node) (in_world d r silo node there) input (brought_so input brought) grain (record {
        letter = reg.letter;
        is = reg.is;
        number = reg.number;
        entry = reg.entry;
        counts = record { body = reg.counts.body; seen = reg.counts.seen };
        e = reg.e;
        asks = reg.asks;
        about = reg.about;
      }) (hash_in_world grain u)
    where
      brought_so : (input : Input) → IsBrought d st silo input → (letter : Letter) → input ≡ Receives letter
          → (number : ℕ) × (letter_of its.world number ≡ Some letter) × (letter.to ≡ silo)
      brought_so (Sees before view places) brought letter is = absurd brought
      brought_so (Does own) brought letter is = absurd (cc (is))
      brought_so (Receives other) brought letter is =
          let one : other ≡ letter = cc (is) in
          (1 + brought.1, its.mail brought.1 other brought.2 ∙ ap Some one, ap (λ (l : Letter). l.to) (sym one) ∙ brought.0)

-- a letter among those that were written before, or after
got_either : {X : Type 0} (xs ys : List X) (k : ℕ) (x : X) → slice_get (xs ++ ys) k ≡ Some x → (slice_get xs k ≡ Some x) ⊎ Contains ys x
got_either [] ys k x found = inr (got_there ys k x found)
  where
    got_there : {X : Type 0} (ys : List X) (k : ℕ) (x : X) → slice_get ys k ≡ Some x → Contains ys x
    got_there [] k x found = absurd (cc (found))
    got_there (y ∷ ys) zero x found = (0, omega arith, cc (found))
    got_there (y ∷ ys) (suc k) x found =
        let rest = got_there ys k x found in let below = rest.1 in (suc rest.0, omega (arith, below), rest.2)
got_either (z ∷ xs) ys zero x found = inl found
got_either (z ∷ xs) ys (suc k) x found = got_either xs ys k x found

-- who told further has fewer reports left
abbrev pub GoesDown : Base → (before after : Node) → Range → Silo → Type 0
GoesDown b before after range silo =
    (told_by silo (recovery_of after range) ≡ told_by silo (recovery_of before range))
    ⊎ (left_by b silo range (told_by silo (recovery_of after range)) + 1 ≤ left_by b silo range (told_by silo (recovery_of before range)))

module _ (b : Base) (d : Deployment) (r : IsAtRest d) (same : d.settings ≡ b.settings) (t : AreReported b d) where
  abbrev above : 1 ≤ b.settings.report_size
  above = subst (λ (s : Settings). 1 ≤ s.report_size) same (its_settings d r).report_above

  stayed_reported : (next : Deployment) → HasStayed d next → AreReported b next
  stayed_reported next stays =
      let before : (hash : ℕ) → IsUnserved (node_at next) hash → IsUnserved (node_at d) hash = λ hash u. record {
        owner = u.owner;
        node = u.node;
        there = sym (stays.nodes u.owner) ∙ u.there;
        range = u.range;
        waits = u.waits;
        inside = u.inside;
      } in
      record {
        firm = λ silo node there k x below firm u.
            let e = slice_index_or node.host.held k x in
            t.firm silo node (sym (stays.nodes silo) ∙ there) k x below firm (before (hash_grain b.settings.hashing e.0) u);
        reports = λ letter report written due.
            t.reports letter report (written.0, ap (λ ls. slice_get ls written.0) (sym stays.written) ∙ written.1) (record {
              body = due.body;
              version_is = due.version_is ∙ ap (λ (m : Membership). m.views.version) stays.membership;
              own = due.own;
              there = sym (stays.nodes letter.to) ∙ due.there;
              waits = due.waits;
              rises = due.rises;
              lie = due.lie;
              not_last = due.not_last;
            });
      }

  pub step_reported : (st : Step) (next : Deployment) → Moves d st next → AreReported b next
  step_reported st next (inl stays) = stayed_reported next stays
  step_reported st next (inr moved) =
      let silo = moved.0 in
      let m = moved.1 in
      subst (λ version. AreTold b version (node_at next) (Written next)) (ap (λ (x : Membership). x.views.version) (sym m.membership))
      (told_on b above d.membership.views.version (node_at d) (node_at next) (Written d) (Written next) silo m.node m.input m.stepped m.there
      m.put m.beside
      (λ letter written. elim (got_either d.written m.stepped.letters written.0 letter
      (ap (λ ls. slice_get ls written.0) (sym m.written) ∙ written.1)) [
        | inl was ↦ inl (written.0, was)
        | inr now ↦ inr now
      ])
      m.is (view_stays d r st m.node silo m.input m.stepped m.brought m.is)
      (subst (λ (s : Settings). HasPieces s.hashing m.node) same
      (subst (λ (s : Settings). HasPieces s.hashing m.node) (w d r).settings (its_pieces d r silo m.node m.there)))
      (its_settings_are d r silo m.node m.there ∙ same) (its_silo d r silo m.node m.there)
      (subst (λ (s : Settings). (grain : Grain) → Registers m.node m.input grain
      → IsUnserved (node_at d) (hash_grain s.hashing grain) → ⊥) same (never d r silo m.node m.there st m.input m.brought)) t)

  moved_down : (st : Step) (next : Deployment) (silo : Silo) (m : HasMoved d st next silo) (range : Range) (other : Silo)
      → Recovers m.node range → Awaits m.stepped.node range other → GoesDown b m.node m.stepped.node range other
  moved_down st next silo m range other was waits =
      elim (tells_on m.node m.input m.stepped m.is (view_stays d r st m.node silo m.input m.stepped m.brought m.is) range other was waits) [
        | inl as_much ↦ inl as_much
        | inr more ↦
            let report = more.report in
            let brought : IsBrought d st silo (Receives more.letter) = subst (λ (i : Input). IsBrought d st silo i) more.is m.brought in
            let by_settings = its_settings_are d r silo m.node m.there ∙ same in
            let fewer = t.reports more.letter report (brought.1, brought.2) (record {
              body = more.taken.body;
              version_is = more.taken.version ∙ more.taken.has.seen ∙ its_version d r silo m.node m.there;
              own = m.node;
              there = ap (node_at d) brought.0 ∙ m.there;
              waits = inl (subst (λ (x : Range). Recovers m.node x) (sym more.of) was);
              rises = subst (λ (s : Settings). rise_behind (hash_grain s.hashing) (report.range ∷ []) report.after report.entries ≡ true)
                  by_settings more.taken.rise;
              lie = subst (λ (s : Settings). lie_in s.hashing report.range report.entries ≡ true) by_settings more.taken.lie;
              not_last = more.not_last;
            }) in
            let whose = ap (λ s. left_by b s report.range (last_grain report.after report.entries)) more.by
            ∙ ap (λ (x : Range). left_by b other x (last_grain report.after report.entries)) more.of
            ∙ ap (left_by b other range) (sym more.upto) in
            let which = ap (λ s. left_by b s report.range report.after) more.by
            ∙ ap (λ (x : Range). left_by b other x report.after) more.of
            ∙ ap (left_by b other range) more.behind in
            inr (omega (arith, fewer, whose, which))
      ]

  pub step_down : (st : Step) (next : Deployment) → Moves d st next → (silo : Silo) (node later : Node) → node_at d silo ≡ Some node
      → node_at next silo ≡ Some later → (range : Range) (other : Silo) → Recovers node range → Awaits later range other
      → GoesDown b node later range other
  step_down st next (inl stays) silo node later there at range other was waits =
      let now = stays.nodes silo in
      let same_node : later ≡ node = cc (there, at, now) in
      inl (ap (λ (n : Node). told_by other (recovery_of n range)) same_node)
  step_down st next (inr moved) silo node later there at range other was waits =
      on_bool (λ x. silo_eq silo moved.0 ≡ x → GoesDown b node later range other) (silo_eq silo moved.0)
      (λ x is.
      let one = (Decides-silo silo moved.0).0 is in
      let its_node : node_at d moved.0 ≡ Some node = ap (node_at d) (sym one) ∙ there in
      let then : node_at next moved.0 ≡ Some later = ap (node_at next) (sym one) ∙ at in
      let own = moved.1.there in
      let put = moved.1.put in
      let before : moved.1.node ≡ node = cc (its_node, own) in
      let after_it : moved.1.stepped.node ≡ later = cc (then, put) in
      subst (λ (n : Node). GoesDown b node n range other) after_it
      (subst (λ (n : Node). GoesDown b n moved.1.stepped.node range other) before
      (moved_down st next moved.0 moved.1 range other (subst (λ (n : Node). Recovers n range) (sym before) was)
      (subst (λ (n : Node). Awaits n range other) (sym after_it) waits))))
      (λ f is.
      let beside = moved.1.beside silo (λ one. let it = (Decides-silo silo moved.0).1 one in cc (it, is)) in
      let same_node : later ≡ node = cc (there, at, beside) in
      inl (ap (λ (n : Node). told_by other (recovery_of n range)) same_node)) refl

-- ---- steps, one after the other
pub still_reported : (b : Base) (d : Deployment) (r : IsAtRest d) → d.settings ≡ b.settings → AreReported b d → (steps : List Step)
    → IsQuiet steps → AreReported b (after_all d steps) × ((after_all d steps).settings ≡ b.settings)
unfolding after_all
still_reported b d r same t [] q = (t, same)
still_reported b d r same t (s ∷ steps) q =
    let none = All-head DecidesNone s steps q.none in
    still_reported b (after d s) (rests_on d r s (All-head IsStep s steps q.named) none) ((keeps d (its_sound d r) s).settings ∙ same)
    (step_reported b d r same t s (after d s) (quiet_moves d r s none)) steps (quiet_rest s steps q)

down_both : (b : Base) (range : Range) (other : Silo) (one two three : Node) → GoesDown b one two range other → GoesDown b two three range other
    → GoesDown b one three range other
down_both b range other one two three (inl same) (inl still) = inl (still ∙ same)
down_both b range other one two three (inl same) (inr down) =
    let left = ap (left_by b other range) same in inr (omega (arith, left, down))
down_both b range other one two three (inr down) (inl still) =
    let left = ap (left_by b other range) still in inr (omega (arith, left, down))
down_both b range other one two three (inr down) (inr further) = inr (omega (arith, down, further))

pub goes_down : (b : Base) (d : Deployment) (r : IsAtRest d) → d.settings ≡ b.settings → AreReported b d → (steps : List Step)
    → IsQuiet steps → (silo : Silo) (node last : Node) → node_at d silo ≡ Some node → node_at (after_all d steps) silo ≡ Some last
    → (range : Range) (other : Silo) → Recovers node range → Awaits last range other → GoesDown b node last range other
unfolding after_all
goes_down b d r same t [] q silo node last there at range other was waits =
    let one : last ≡ node = cc (there, at) in inl (ap (λ (n : Node). told_by other (recovery_of n range)) one)
goes_down b d r same t (s ∷ steps) q silo node last there at range other was waits =
    let none = All-head DecidesNone s steps q.none in
    let moves = quiet_moves d r s none in
    let rests = rests_on d r s (All-head IsStep s steps q.named) none in
    let mid = step_on d r s (after d s) moves silo node there in
    let later = later_so (after d s) rests steps (quiet_rest s steps q) silo mid.node mid.there in
    let put = later.there in
    let last_is : later.node ≡ last = cc (put, at) in
    let waits_then : Awaits later.node range other = subst (λ (n : Node). Awaits n range other) (sym last_is) waits in
    let still : Recovers mid.node range = elim (mid.less.recovers range was) [ inl still ↦ still | inr settled ↦ absurd (not_settled_and_recovers later.node range (later.less.settled range settled) waits_then.recovers) ] in
    let waits_mid = later.less.reports range other still waits_then in
    down_both b range other node mid.node last
    (step_down b d r same t s (after d s) moves silo node mid.node there mid.there range other was waits_mid)
    (goes_down b (after d s) rests ((keeps d (its_sound d r) s).settings ∙ same) (step_reported b d r same t s (after d s) moves) steps
    (quiet_rest s steps q) silo mid.node last mid.there at range other still waits)

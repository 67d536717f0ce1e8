-- Each letter in the mail may be said by a line, and so may what a deployment's processes wrote.
use Rattle.std.proofs.Common.{arith, ◌≡◌, ℕ, suc, ◌+◌, ◌≤◌, List, [], ◌∷◌, refl, ap, ◌∙◌, subst, length}
use Rattle.std.specs.Prelude.{⊤, All, map}
use Rattle.std.specs.List.{enumerate_from}
use Rattle.std.proofs.lemmas.List.Elements.{All-map, All-weaker}
use Rattle.directory_rules.specs.State.{Letter, Posted, World}
use Rattle.directory_rules.specs.Run.{run_from_start}
use Rattle.directory_rules.specs.Settings.{Settings, AreSettings}
use Rattle.directory_facts.proofs.Lawful.{settings_stay}
use Rattle.directory_facts.proofs.Reached.{everywhere}
use Rattle.deployment_headline.specs.Limits.{with_room}
use Rattle.deployment_headline.specs.Steps.{deployed}
use Rattle.deployment_headline.proofs.Lists.{over}
use Rattle.deployment_headline.proofs.Runs.{made_so}
use Rattle.deployment_headline.proofs.Worlds.{its_letter}
use Rattle.process_rules.specs.Told.{IsSayable}
use Rattle.process_deployment.specs.Sayable.{LettersAreSayable, WrittenIsSayable}
use Rattle.process_deployment.proofs.SayableFacts.{may_be_said}
use Rattle.process_deployment.proofs.SayableSteps.{all_sent, sent_keep}

abbrev MayBeSaid : Settings → ℕ × Posted → Type 0
MayBeSaid settings e = IsSayable settings.hashing e.1.letter

pub letters_are_sayable : LettersAreSayable
letters_are_sayable settings events are named =
    let world = (run_from_start settings events).world in
    let asked : ((⊤ × AreSettings settings) × AreSettings settings) × ⊤ = (((tt, are), are), tt) in
    let ways : All all_sent.named events = λ k d below. (((tt, tt), named k d below), named k d below) in
    let all = everywhere all_sent sent_keep settings events asked ways in
    subst (λ (s : Settings). All (MayBeSaid s) world.mail) (settings_stay settings events)
    (All-weaker (λ (e : ℕ × Posted). all_sent.letter world.settings e.1.letter) (MayBeSaid world.settings)
    (λ e so. may_be_said world.settings e.1.letter so.0.0.0 so.0.1 so.1) world.mail all.letters)

-- the letters of a mail that has what was written
values : (n : ℕ) (mail : List (ℕ × Posted)) (letters : List Letter) → over its_letter mail ≡ enumerate_from n letters
    → map (λ e. e.1.letter) mail ≡ letters
values n [] [] is = refl
values n [] (letter ∷ letters) is = absurd (cc (is))
values n (e ∷ mail) [] is = absurd (cc (is))
values n (e ∷ mail) (letter ∷ letters) is =
    let pair : ◌≡◌ {A = ℕ × Letter} (e.0, e.1.letter) (n, letter) = cc (is) in
    let first : e.1.letter ≡ letter = ap (λ p. p.1) pair in
    let rest : over its_letter mail ≡ enumerate_from (n + 1) letters = cc (is) in
    ap (λ l. l ∷ map (λ e. e.1.letter) mail) first ∙ ap (λ l. letter ∷ l) (values (n + 1) mail letters rest)

-- settings under limits that are high enough
pub roomy : (settings : Settings) (events letters : ℕ) → AreSettings settings → 1 ≤ events → 1 ≤ letters
    → AreSettings (with_room events letters settings)
roomy settings events letters are some any = record {
  points_above = are.points_above;
  points_within = are.points_within;
  cache_within = are.cache_within;
  silos_above = are.silos_above;
  silos_within = are.silos_within;
  places_above = are.places_above;
  places_within = are.places_within;
  events_above = some;
  letters_above = any;
  activations_above = are.activations_above;
  activations_within = are.activations_within;
  finds_above = are.finds_above;
  finds_within = are.finds_within;
  report_above = are.report_above;
  report_within = are.report_within;
  last_above = are.last_above;
  last_within = are.last_within;
}

pub written_is_sayable : WrittenIsSayable
written_is_sayable settings steps are named =
    let d = deployed settings steps in
    let most = suc (length steps) in
    let letters = suc (length d.written) in
    let all = made_so settings steps are named most letters (omega arith) (omega arith) in
    let mail = letters_are_sayable (with_room most letters settings) all.events (roomy settings most letters are (omega arith) (omega arith)) all.named in
    let same : (run_from_start (with_room most letters settings) all.events).world.mail ≡ all.letters = ap (λ (world : World). world.mail) all.is in
    subst (All (IsSayable settings.hashing)) (values 1 all.letters d.written all.has)
    (All-map (IsSayable settings.hashing) (λ (e : ℕ × Posted). e.1.letter) all.letters (subst (All (MayBeSaid settings)) same mail))

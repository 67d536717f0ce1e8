-- What a silo's step is to a firm activation: one becomes firm by the reply that it is entered, and one ends by a close or an offer of
-- its grain.
use Rattle.std.proofs.Common.{◌≡◌, ◌≢◌, ℕ, ◌⊎◌, inl, inr, refl, sym, ap, subst, ◌∙◌}
use Rattle.std.specs.Prelude.{Bool, true, false, is_some, Option, Some, None, Ok, if◌then◌else◌}
use Rattle.std.specs.Option.{option_map}
use Rattle.silo_address.specs.declared.Entry.{Entry}
use Rattle.silo_address.specs.Grain.{Grain, grain_cmp, grain_eq}
use Rattle.silo_address.proofs.Order.{grain_cmp_total, grain_cmp_exact}
use Rattle.silo_address.proofs.Same.{Decides-grain}
use Rattle.directory_rules.specs.declared.held.Held.{Held}
use Rattle.directory_rules.specs.declared.held.Phase.{Phase}
use Rattle.directory_rules.specs.declared.held.Phase.TheVariants as phase
use Rattle.directory_rules.specs.declared.effect.Effect.TheVariants as effect
use Rattle.directory_rules.specs.declared.reply.Reply.{Reply}
use Rattle.directory_rules.specs.declared.reply.Reply.TheVariants as reply
use Rattle.directory_rules.specs.Host.{held_of, asking_under, is_asking_under, confirmed, next_closing, with_closing}
use Rattle.directory_rules.specs.State.{Letter, Reply_letter, Node}
use Rattle.directory_rules.specs.Answer.{answered}
use Rattle.directory_rules.specs.Receive.{reply_effect}
use Rattle.directory_rules.specs.Sight.{is_next}
use Rattle.directory_rules.specs.Step.{Stepped, silently}
use Rattle.directory_rules.specs.Input.{Input, Does, Receives, step}
use Rattle.directory_rules.specs.PlainMachine.{Life, Is_asking, Is_firm, Is_closing, life_by, life_of, life_on, PlainStep, Change_view, Begin, Make_firm, Yield, Begin_closing, Give_up, End, Nothing_changes, step_of_effect}
use Rattle.directory_facts.specs.Own.{HoldsOnce}
use Rattle.directory_facts.proofs.Ways.{Ways}
use Rattle.directory_facts.proofs.EachStep.{by_way}
use Rattle.directory_facts.proofs.Lookups.{found_set, found_beside_set, find_looked}
use Rattle.directory_headline.proofs.PlainWays.{IsNodeStep, steps_plainly}
use Rattle.process_deployment.specs.Firm.{IsToEnd}

-- the input asks that the grain's activation end
abbrev pub EndsIt : Input → Grain → Type 0
EndsIt (Does asked) grain = IsToEnd grain asked
EndsIt other grain = ⊥

-- an activation of the grain is closing from now on
pub record ClosesOne (node : Node) (input : Input) (it : Stepped) : Type 0 where
  pub grain : Grain
  pub held : Held
  pub host : it.node.host ≡ with_closing node.host grain held
  pub asked : EndsIt input grain

-- the activation that asked under that number is firm from now on
pub record ConfirmsOne (node : Node) (input : Input) (it : Stepped) : Type 0 where
  pub letter : Letter
  pub number : ℕ
  pub entry : Entry
  pub e : Grain × Held
  pub comes : input ≡ Receives letter
  pub body : letter.body ≡ Reply_letter number (reply.Registered entry)
  pub under : asking_under node.host number ≡ Some e
  pub is : it ≡ silently (record node { host = confirmed node.host e.0 e.1 }) effect.Firm

-- ---- which steps are these
abbrev Shown : Node → Input → Stepped → Type 0
Shown node input it =
    (step_of_effect it.effect ≡ Begin_closing → ClosesOne node input it) ×
    (step_of_effect it.effect ≡ Make_firm → ConfirmsOne node input it)

abbrev is_quiet : PlainStep → Bool
is_quiet Begin_closing = false
is_quiet Make_firm = false
is_quiet other = true

quiet_reply : (its : Reply) → is_quiet (step_of_effect (reply_effect its)) ≡ true
quiet_reply (reply.Registered entry) = refl
quiet_reply (reply.Taken entry) = refl
quiet_reply reply.Removed = refl
quiet_reply reply.Absent = refl
quiet_reply (reply.Found entry) = refl
quiet_reply reply.Nothing = refl
quiet_reply (reply.Retry why) = refl

module _ (node : Node) where
  other : (input : Input) (it : Stepped) → is_quiet (step_of_effect it.effect) ≡ true → Shown node input it
  other input it quiet =
      (λ is. let loud = ap is_quiet is in absurd (cc (quiet, loud)), λ is. let loud = ap is_quiet is in absurd (cc (quiet, loud)))

  quiet_sight : (next : Bool) → is_quiet (step_of_effect (if next then effect.Next else effect.Skip)) ≡ true
  quiet_sight true = refl
  quiet_sight false = refl

  closing : (input : Input) (it : Stepped) → ClosesOne node input it → step_of_effect it.effect ≡ Begin_closing → Shown node input it
  closing input it so kind = (λ is. so, λ is. absurd (cc (kind, is)))

  ways : Ways node (Shown node)
  ways = record {
    nothing = λ input effect plain. other input _ (ap is_quiet plain);
    sees = λ before view places newer numbers. other _ _ (quiet_sight (is_next node.view before view node.host.silo));
    wakes = λ grain may. other _ _ refl;
    closes = λ grain held may. closing _ _ (record { grain = grain; held = held; host = refl; asked = refl }) refl;
    cancels = λ grain held may. other _ _ refl;
    offers = λ grain held to may active other. closing _ _ (record { grain = grain; held = held; host = refl; asked = refl }) refl;
    uses_hint = λ grain activation hint. other _ _ refl;
    finds = λ grain room numbers. other _ _ refl;
    forgets = λ grain activation hint. other _ _ refl;
    nudges = λ numbers. other _ _ refl;
    nudges_grain = λ grain numbers. other _ _ refl;
    nudges_ranges = other _ _ refl;
    answers = λ letter request body sender version. other _ _ (quiet_reply (answered node.holding request).reply);
    confirms =
        λ letter number entry e is there. (
          λ kind. absurd (cc kind),
          λ kind.
              record { letter = letter; number = number; entry = entry; e = e; comes = refl; body = is.body; under = there; is = refl },
        );
    yields = λ letter number entry e is there. other _ _ refl;
    removes = λ letter number e is there. other _ _ refl;
    misses = λ letter number e is there. other _ _ refl;
    learns = λ letter number entry is there. other _ _ refl;
    notes = λ letter number is there. other _ _ refl;
    hands = λ letter range number page body is. other _ _ refl;
    lacks = λ letter range number body is. other _ _ refl;
    forgoes = λ letter range body there. other _ _ refl;
    lags = λ letter range. other _ _ refl;
    passed = λ letter range. other _ _ refl;
    reports = λ letter range after body seen. other _ _ refl;
    surveys = λ letter first others body seen. other _ _ refl;
    gathers = λ letter page gathering taken is. other _ _ refl;
    installs = λ letter page entries taken is. other _ _ refl;
    drops = λ letter page gathering taken is. other _ _ refl;
    turns = λ letter range piece body has awaits. other _ _ refl;
    continues = λ letter report recovery taken is. other _ _ refl;
    collects = λ letter report recovery taken is. other _ _ refl;
    completes = λ letter report table taken is. other _ _ refl;
    empties = λ letter ranges its body plain. other _ _ (ap is_quiet plain);
    takes_over = λ letter entry body seen may. other _ _ refl;
  }

  pub shown : (input : Input) (it : Stepped) → step node input ≡ Ok it → Shown node input it
  shown input it is = by_way node (Shown node) ways input it is

-- ---- one grain or another
pub same_or_other : (a b : Grain) → (a ≡ b) ⊎ (a ≢ b)
same_or_other a b = by (grain_eq a b) refl
  where
    by : (same : Bool) → grain_eq a b ≡ same → (a ≡ b) ⊎ (a ≢ b)
    by true is = inl ((Decides-grain a b).0 is)
    by false is = inr (λ same. let so = (Decides-grain a b).1 same in absurd (cc (is, so)))

asking_life : (number count : ℕ) (its : Phase) → is_asking_under number its ≡ true → life_by its count ≡ Is_asking count
asking_life number count (phase.Asking n) is = refl
asking_life number count phase.Firm is = absurd (cc is)
asking_life number count (phase.Closing n) is = absurd (cc is)

-- ---- what becomes of a firm activation
module _ (node : Node) (once : HoldsOnce node.host) (input : Input) (it : Stepped) (is : step node input ≡ Ok it) where
  -- what is confirmed was asking
  pub asked_before : (c : ConfirmsOne node input it) → life_on c.e.0 node ≡ Some (Is_asking c.e.1.count)
  asked_before c =
      let so = find_looked grain_cmp grain_cmp_total grain_cmp_exact (λ (x : Grain × Held). is_asking_under c.number x.1.phase) node.host.held c.e once c.under in
      ap (option_map life_of) so.1 ∙ ap Some (asking_life c.number c.e.1.count c.e.1.phase so.0)

  -- and is firm
  pub firm_after : (c : ConfirmsOne node input it) → life_on c.e.0 it.node ≡ Some (Is_firm c.e.1.count)
  firm_after c =
      let firm : Held = record c.e.1 { phase = phase.Firm; previous = None } in
      let so = find_looked grain_cmp grain_cmp_total grain_cmp_exact (λ (x : Grain × Held). is_asking_under c.number x.1.phase) node.host.held c.e once c.under in
      ap (λ (its : Stepped). life_on c.e.0 its.node) c.is
      ∙ ap (option_map life_of) (found_set grain_cmp grain_cmp_total grain_cmp_exact c.e.0 firm node.host.held (ap is_some so.1))

  -- so are all others what they were
  same_beside : (c : ConfirmsOne node input it) (grain : Grain) → grain ≢ c.e.0 → life_on grain it.node ≡ life_on grain node
  same_beside c grain apart =
      let firm : Held = record c.e.1 { phase = phase.Firm; previous = None } in
      ap (λ (its : Stepped). life_on grain its.node) c.is
      ∙ ap (option_map life_of) (found_beside_set grain_cmp grain_cmp_total grain_cmp_exact c.e.0 firm node.host.held grain apart)

  -- a firm one was firm before, or is the one that is confirmed
  pub record Confirmed (grain : Grain) (count : ℕ) : Type 0 where
    pub one : ConfirmsOne node input it
    pub grain_is : one.e.0 ≡ grain
    pub count_is : one.e.1.count ≡ count

  abbrev WasFirm : Grain → ℕ → Type 0
  WasFirm grain count = life_on grain node ≡ Some (Is_firm count)

  abbrev IsFirm : Grain → ℕ → Type 0
  IsFirm grain count = life_on grain it.node ≡ Some (Is_firm count)

  -- an activation that isn't firm after the step is another one's
  back : (grain its : Grain) (count : ℕ) (after : Option Life) → life_on its it.node ≡ after → ¬ (after ≡ Some (Is_firm count))
      → ((other : Grain) → other ≢ its → life_on other it.node ≡ life_on other node) → IsFirm grain count → WasFirm grain count
  back grain its count after there never elsewhere firm = by (same_or_other grain its)
    where
      by : (grain ≡ its) ⊎ (grain ≢ its) → WasFirm grain count
      by (inl same) = absurd (never (sym there ∙ (ap (λ g. life_on g it.node) (sym same) ∙ firm)))
      by (inr apart) = sym (elsewhere grain apart) ∙ firm

  -- and one that wasn't firm before it is
  forth : (grain its : Grain) (count : ℕ) (before : Option Life) → life_on its node ≡ before → ¬ (before ≡ Some (Is_firm count))
      → ((other : Grain) → other ≢ its → life_on other it.node ≡ life_on other node) → WasFirm grain count → IsFirm grain count
  forth grain its count before there never elsewhere firm = by (same_or_other grain its)
    where
      by : (grain ≡ its) ⊎ (grain ≢ its) → IsFirm grain count
      by (inl same) = absurd (never (sym there ∙ (ap (λ g. life_on g node) (sym same) ∙ firm)))
      by (inr apart) = elsewhere grain apart ∙ firm

  pub becomes : (grain : Grain) (count : ℕ) → IsFirm grain count → WasFirm grain count ⊎ Confirmed grain count
  becomes grain count firm = by (step_of_effect it.effect) refl (steps_plainly node once input it is)
    where
      confirm : (c : ConfirmsOne node input it) → (grain ≡ c.e.0) ⊎ (grain ≢ c.e.0) → WasFirm grain count ⊎ Confirmed grain count
      confirm c (inl same) =
          let now : ◌≡◌ {A = Option Life} (Some (Is_firm c.e.1.count)) (Some (Is_firm count)) = sym (firm_after c) ∙ (ap (λ g. life_on g it.node) (sym same) ∙ firm) in
          inr (record { one = c; grain_is = sym same; count_is = cc now })
      confirm c (inr apart) = inl (sym (same_beside c grain apart) ∙ firm)

      by : (kind : PlainStep) → step_of_effect it.effect ≡ kind → IsNodeStep node kind it.node → WasFirm grain count ⊎ Confirmed grain count
      by Change_view kind step = absurd step
      by Begin kind step =
          inl (back grain step.grain count (Some (Is_asking node.host.next_count)) step.there (λ same. cc same) step.elsewhere firm)
      by Make_firm kind step = let c = (shown node input it is).1 kind in confirm c (same_or_other grain c.e.0)
      by Yield kind step = inl (back grain step.1.grain count None step.1.there (λ same. cc same) step.1.elsewhere firm)
      by Begin_closing kind step =
          inl (back grain step.1.grain count (Some (Is_closing step.0)) step.1.there (λ same. cc same) step.1.elsewhere firm)
      by Give_up kind step =
          inl (back grain step.1.grain count (Some (Is_closing step.0)) step.1.there (λ same. cc same) step.1.elsewhere firm)
      by End kind step = inl (back grain step.1.grain count None step.1.there (λ same. cc same) step.1.elsewhere firm)
      by Nothing_changes kind step = inl (sym (step.lives grain) ∙ firm)

  pub keeps : (grain : Grain) (count : ℕ) → WasFirm grain count → IsFirm grain count ⊎ EndsIt input grain
  keeps grain count firm = by (step_of_effect it.effect) refl (steps_plainly node once input it is)
    where
      close : (c : ClosesOne node input it) → (grain ≡ c.grain) ⊎ (grain ≢ c.grain) → IsFirm grain count ⊎ EndsIt input grain
      close c (inl same) = inr (subst (EndsIt input) (sym same) c.asked)
      close c (inr apart) =
          let its : Held = next_closing node.host c.held in
          inl (ap (λ h. option_map life_of (held_of h grain)) c.host
          ∙ (ap (option_map life_of) (found_beside_set grain_cmp grain_cmp_total grain_cmp_exact c.grain its node.host.held grain apart)
          ∙ firm))

      by : (kind : PlainStep) → step_of_effect it.effect ≡ kind → IsNodeStep node kind it.node → IsFirm grain count ⊎ EndsIt input grain
      by Change_view kind step = absurd step
      by Begin kind step = inl (forth grain step.grain count None step.free (λ same. cc same) step.elsewhere firm)
      by Make_firm kind step =
          inl (forth grain step.1.grain count (Some (Is_asking step.0)) step.1.was (λ same. cc same) step.1.elsewhere firm)
      by Yield kind step = inl (forth grain step.1.grain count (Some (Is_asking step.0)) step.1.was (λ same. cc same) step.1.elsewhere firm)
      by Begin_closing kind step = let c = (shown node input it is).0 kind in close c (same_or_other grain c.grain)
      by Give_up kind step =
          inl (forth grain step.1.grain count (Some (Is_asking step.0)) step.1.was (λ same. cc same) step.1.elsewhere firm)
      by End kind step = inl (forth grain step.1.grain count (Some (Is_closing step.0)) step.1.was (λ same. cc same) step.1.elsewhere firm)
      by Nothing_changes kind step = inl (step.lives grain ∙ firm)

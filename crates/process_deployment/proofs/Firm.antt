-- A process tells `firm` exactly where an activation becomes firm, and what is firm stays firm.
use Rattle.std.proofs.Common.{arith, ◌≡◌, ℕ, suc, Bool, true, false, List, [], ◌∷◌, ◌++◌, ◌⊎◌, inl, inr, Option, Some, None, Result, Ok, Err, length, refl, sym, ap, ◌∙◌, subst}
use Rattle.std.specs.Prelude.{◌==◌, cond, not, nat_lt, map, All, Contains, codes, if◌then◌else◌}
use Rattle.std.specs.Fmt.{decimal}
use Rattle.std.specs.Option.{option_map}
use Rattle.std.specs.Map.{lookup}
use Rattle.std.specs.BTreeMap.{is_at}
use Rattle.std.proofs.lemmas.List.Elements.{All-nil, All-cons, All-contains}
use Rattle.texts.specs.Words.{sentence}
use Rattle.silo_address.specs.Silo.{Silo, IsSilo, silo_cmp, silo_eq}
use Rattle.silo_address.specs.Grain.{Grain}
use Rattle.silo_address.specs.declared.Entry.{Entry}
use Rattle.directory_rules.specs.declared.effect.Effect.{Effect}
use Rattle.directory_rules.specs.declared.effect.Effect.TheVariants as effect
use Rattle.directory_rules.specs.declared.held.Held.{Held}
use Rattle.directory_rules.specs.declared.outcome.Happening.TheVariants.{Saw, Did}
use Rattle.directory_rules.specs.declared.reply.Reply.TheVariants as reply
use Rattle.directory_rules.specs.Happens.{node_of}
use Rattle.directory_rules.specs.Host.{asking_under}
use Rattle.directory_rules.specs.declared.own_step.OwnStep.{OwnStep}
use Rattle.directory_rules.specs.Input.{Input, Does, Receives, step, sight_of}
use Rattle.directory_rules.specs.State.{Letter, Body, Request_letter, Reply_letter, Ask_letter, Page_letter, Missing_letter, Done_letter, Query_letter, Report_letter, Survey_letter, Empty_letter, Behind_letter, Ahead_letter, Offer_letter, Node, World}
use Rattle.directory_rules.specs.PlainMachine.{Life, Is_asking, Is_firm, life_on, step_of_effect}
use Rattle.directory_rules.specs.Receive.{received, received_body}
use Rattle.directory_rules.specs.Reply.{at_seen, confirmed_by}
use Rattle.directory_rules.specs.Settings.{Settings, AreSettings}
use Rattle.directory_rules.specs.Step.{Stepped, silently}
use Rattle.directory_facts.specs.Own.{HoldsOnce}
use Rattle.directory_facts.proofs.Lawful.{nodes_are_own}
use Rattle.directory_rules.specs.Membership.{Change, Join, Leave, Die, is_seeable, Listed, Membership}
use Rattle.silo_rules.specs.SiloValue.{SiloValue, own_status}
use Rattle.silo_rules.specs.Steps.{barred, unless_barred, seen, does, sees}
use Rattle.silo_rules.specs.Told.{Heard, told}
use Rattle.silo_rules.specs.Begun.{told_view}
use Rattle.script_rules.specs.Lines.{happening_words, refusal_line}
use Rattle.deployment_headline.specs.Deployment.{Deployment, process_of}
use Rattle.deployment_headline.specs.Limits.{with_room, process_with_room}
use Rattle.deployment_headline.specs.Steps as deployment
use Rattle.deployment_headline.proofs.Lists.{over, lookup-over}
use Rattle.deployment_headline.proofs.Runs.{made_so, processes_are_own}
use Rattle.deployment_headline.proofs.Worlds.{its_node}
use Rattle.process_rules.proofs.StaysWhole.{silo_kept}
use Rattle.process_rules.specs.LetterText.{letter_line}
use Rattle.process_rules.specs.ReadLine.{Asked, Joined, Leaving, Dead, Begin, See, Do, Receive, Ping, Owner, Place, Figures, Show, Dump}
use Rattle.process_rules.specs.Answer.{Answered, printing, unless_dead, heard, told_so, begun, begun_so, stepped, seen_so, done_so, received_so, is_anothers_join, answered, answered_as}
use Rattle.process_rules.specs.Happened.{received_words, own_words, body_words, delivered_words, is_ignored, news_words}
use Rattle.process_rules.specs.Output.{answered_to, said, fault_line}
use Rattle.process_rules.specs.Show.{show_lines, dump_line, figures_line, grain_owner_line, grain_place_line}
use Rattle.process_deployment.specs.Cluster.{first_cluster}
use Rattle.process_deployment.specs.Firm.{IsToEnd, HasFirm, BecomesFirm, its_firm_line, AsksToEnd, TellsFirm, LinesTellFirm}
use Rattle.process_deployment.specs.Steps.{after_all}
use Rattle.process_deployment.proofs.FirmLines.{IsOther, AreOther, by_words, is_other, alone, letters_other, refusal_other, fault_other, pong_other, news_other, saw_other, did_other, delivered_other, owner_other, place_other, figures_other, show_other, dump_other}
use Rattle.process_deployment.proofs.FirmSteps.{EndsIt, ConfirmsOne, Confirmed, shown, asked_before, firm_after, becomes, keeps}
use Rattle.process_deployment.proofs.Following.{WrittenReadAsThemselves, its_silo, follows_all, follows_first}

module _ (s : SiloValue) (once : HoldsOnce s.node.host) (own : IsSilo s.node.host.silo) (read : Result (Option Asked) ℕ) where
  -- no activation changes, and nothing is told
  quiet : (it : Answered) → it.silo.node ≡ s.node → AreOther it.lines → TellsFirm s read it
  quiet it same other = record {
    told = λ grain count becomes. absurd (becomes.0 (ap (λ node. life_on grain node) (sym same) ∙ becomes.1));
    seen = λ grain count becomes. ap (λ (node : Node). node.view.version) same;
    only = λ line there says. absurd (All-contains IsOther it.lines line other there says);
    stays = λ grain count firm. inl (ap (λ node. life_on grain node) same ∙ firm);
  }

  -- ---- a step
  module _ (input : Input) (asks : (grain : Grain) → EndsIt input grain → AsksToEnd grain read) (happened : Effect → List (List ℕ)) where
    module _ (it : Stepped) (is : step s.node input ≡ Ok it) where
      abbrev answer : Answered
      answer = stepped happened (Ok it) s

      stays : (grain : Grain) (count : ℕ) → HasFirm s grain count → HasFirm answer.silo grain count ⊎ AsksToEnd grain read
      stays grain count firm = by (keeps s.node once input it is grain count firm)
        where
          by : HasFirm answer.silo grain count ⊎ EndsIt input grain → HasFirm answer.silo grain count ⊎ AsksToEnd grain read
          by (inl still) = inl still
          by (inr ends) = inr (asks grain ends)

      -- nothing is confirmed, nor told so
      other_step : (ConfirmsOne s.node input it → ⊥) → IsOther (sentence (happened it.effect)) → TellsFirm s read answer
      other_step never other = record {
        told = λ grain count becoming. absurd (none grain count becoming (becomes s.node once input it is grain count becoming.1));
        seen = λ grain count becoming. absurd (none grain count becoming (becomes s.node once input it is grain count becoming.1));
        only =
            λ line there says. absurd (All-contains IsOther answer.lines line
            (All-cons IsOther (sentence (happened it.effect)) (map letter_line it.letters) other (letters_other it.letters)) there
            says);
        stays = stays;
      }
        where
          none : (grain : Grain) (count : ℕ) → BecomesFirm grain count s answer.silo → HasFirm s grain count
              ⊎ Confirmed s.node once input it is grain count → ⊥
          none grain count becoming (inl was) = becoming.0 was
          none grain count becoming (inr now) = never now.one

      -- one is confirmed, and told so
      module _ (telling : (c : ConfirmsOne s.node input it) → sentence (happened it.effect) ≡ its_firm_line s c.e.0 c.e.1.count) where
        lines_are : (c : ConfirmsOne s.node input it) → answer.lines ≡ its_firm_line s c.e.0 c.e.1.count ∷ []
        lines_are c =
            ap (λ (letters : List Letter). sentence (happened it.effect) ∷ map letter_line letters) (ap (λ (i : Stepped). i.letters) c.is)
            ∙ ap (λ (line : List ℕ). line ∷ []) (telling c)

        is_line : (c : ConfirmsOne s.node input it) (line : List ℕ) → Contains answer.lines line → line ≡ its_firm_line s c.e.0 c.e.1.count
        is_line c line there =
            let its = its_firm_line s c.e.0 c.e.1.count in
            All-contains (λ (l : List ℕ). l ≡ its) answer.lines line
            (subst (All (λ (l : List ℕ). l ≡ its)) (sym (lines_are c))
            (All-cons (λ (l : List ℕ). l ≡ its) its [] refl (All-nil (λ (l : List ℕ). l ≡ its)))) there

        tell : (grain : Grain) (count : ℕ) → BecomesFirm grain count s answer.silo → HasFirm s grain count
            ⊎ Confirmed s.node once input it is grain count → answer.lines ≡ its_firm_line s grain count ∷ []
        tell grain count becoming (inl was) = absurd (becoming.0 was)
        tell grain count becoming (inr now) = lines_are now.one ∙ (λ i. its_firm_line s (now.grain_is i) (now.count_is i) ∷ [])

        was_no_firm : (c : ConfirmsOne s.node input it) → ¬ (HasFirm s c.e.0 c.e.1.count)
        was_no_firm c was =
            let before : ◌≡◌ {A = Option Life} (Some (Is_asking c.e.1.count)) (Some (Is_firm c.e.1.count)) = sym (asked_before s.node once input it is c) ∙ was in cc before

        firm_step : ConfirmsOne s.node input it → TellsFirm s read answer
        firm_step c = record {
          told = λ grain count becoming. tell grain count becoming (becomes s.node once input it is grain count becoming.1);
          seen = λ grain count becoming. ap (λ (i : Stepped). i.node.view.version) c.is;
          only = λ line there says. (c.e.0, c.e.1.count, (was_no_firm c, firm_after s.node once input it is c), is_line c line there);
          stays = stays;
        }

    -- a step that confirms nothing, or its refusal
    own_step : ((it : Stepped) → ConfirmsOne s.node input it → ⊥)
        → ((made : Effect) → ¬ (made ≡ effect.Firm) → IsOther (sentence (happened made))) → (o : Result Stepped ℕ)
        → ((it : Stepped) → o ≡ Ok it → step s.node input ≡ Ok it) → TellsFirm s read (stepped happened o s)
    own_step never other (Err number) so = quiet (stepped happened (Err number) s) refl (alone (refusal_line number) (refusal_other number))
    own_step never other (Ok it) so =
        let is = so it refl in
        other_step it is (never it) (other it.effect (λ firm. never it ((shown s.node input it is).1 (ap step_of_effect firm))))

  -- ---- what bars a step
  unbarred : (o : Option ℕ) (outcome : Result Stepped ℕ) (it : Stepped) → unless_barred o outcome ≡ Ok it → outcome ≡ Ok it
  unbarred None outcome it is = is
  unbarred (Some number) outcome it is = absurd (cc is)

  seen_so_step : (version : ℕ) (newer seeable : Bool) (r : Result Stepped ℕ) (it : Stepped)
      → ◌≡◌ {A = Result Stepped ℕ} (if not newer then Err 903 else (if not seeable then Err 904 else r)) (Ok it) → r ≡ Ok it
  seen_so_step version false seeable r it is = absurd (cc is)
  seen_so_step version true false r it is = absurd (cc is)
  seen_so_step version true true r it is = is

  done : (asked : OwnStep) → ((grain : Grain) → IsToEnd grain asked → AsksToEnd grain read)
      → ((it : Stepped) → ConfirmsOne s.node (Does asked) it → ⊥) → TellsFirm s read (done_so asked s)
  done asked asks never =
      own_step (Does asked) asks (λ made. happening_words (Did s.node.host.silo made)) never (did_other s.node.host.silo)
      (does s (Does asked)) (λ it is. unbarred (barred s) (step s.node (Does asked)) it is)

  saw : (version : ℕ) → TellsFirm s read (seen_so version s)
  saw version =
      let input = sight_of s.membership version in
      own_step input (λ grain ends. absurd ends) (λ made. happening_words (Saw s.node.host.silo version made)) (λ it c. cc c.comes)
      (λ made never. saw_other s.node.host.silo version made own) (sees s version)
      (λ it is. seen_so_step version (nat_lt s.node.view.version version) (is_seeable s.membership s.node.host.silo version)
      (step s.node input) it (unbarred (barred s) (seen s version) it is))

  -- ---- a letter
  module _ (letter : Letter) where
    abbrev node : Node
    node = s.node

    abbrev words : Effect → List (List ℕ)
    words = received_words s.node.host s.node.view.version letter

    ignored_other : (made : Effect) → is_ignored made ≡ true → IsOther (sentence (words made))
    ignored_other made is =
        subst (λ b. IsOther (sentence (cond b (delivered_words letter made)
        (body_words letter.body s.node.host s.node.view.version made (delivered_words letter made))))) (sym is)
        (delivered_other letter made)

    -- what a body says that isn't that of a reply by which one is confirmed
    by_body : (made : Effect) → IsOther (sentence (body_words letter.body s.node.host s.node.view.version made
        (delivered_words letter made))) → IsOther (sentence (words made))
    by_body made other = by (is_ignored made)
      where
        by : (ignored : Bool) → IsOther (sentence (cond ignored (delivered_words letter made)
            (body_words letter.body s.node.host s.node.view.version made (delivered_words letter made))))
        by true = delivered_other letter made
        by false = other

    module _ (it : Stepped) (is : step s.node (Receives letter) ≡ Ok it) where
      given : received s.node letter ≡ it
      given = cc is

      same_letter : (c : ConfirmsOne s.node (Receives letter) it) → letter.body ≡ Reply_letter c.number (reply.Registered c.entry)
      same_letter c = let same : letter ≡ c.letter = cc c.comes in ap (λ (l : Letter). l.body) same ∙ c.body

      abbrev Outcome : Type 0
      Outcome =
          ((ConfirmsOne s.node (Receives letter) it → ⊥) × IsOther (sentence (words it.effect))) ⊎ ConfirmsOne s.node (Receives letter) it

      -- by the reply that an activation is entered
      registered : (number : ℕ) (entry : Entry) → letter.body ≡ Reply_letter number (reply.Registered entry) → Outcome
      registered number entry body =
          by (letter.version == s.node.view.version) (asking_under s.node.host number) refl refl
        where
          made_by : it ≡ at_seen letter.version s.node (confirmed_by (asking_under s.node.host number) s.node)
          made_by = sym given ∙ ap (λ b. received_body b s.node letter) body

          passed : it ≡ silently s.node effect.Ignored → Outcome
          passed ignored =
              let quiet_so = ap (λ (i : Stepped). is_ignored i.effect) ignored in
              inl (
                (λ c. let both = ap (λ (i : Stepped). is_ignored i.effect) c.is in cc (quiet_so, both)),
                ignored_other it.effect
                    quiet_so,
              )

          by : (seen : Bool) (o : Option (Grain × Held)) → (letter.version == s.node.view.version) ≡ seen
              → asking_under s.node.host number ≡ o → Outcome
          by false o seen under =
              passed (made_by ∙ ap (λ b. cond b (confirmed_by (asking_under s.node.host number) s.node) (silently s.node effect.Ignored))
              seen)
          by true None seen under =
              passed (made_by ∙ (ap (λ b. cond b (confirmed_by (asking_under s.node.host number) s.node) (silently s.node effect.Ignored))
              seen ∙ ap (λ found. confirmed_by found s.node) under))
          by true (Some e) seen under = inr (record {
            letter = letter;
            number = number;
            entry = entry;
            e = e;
            comes = refl;
            body = body;
            under = under;
            is =
                made_by ∙ (ap (λ b. cond b (confirmed_by (asking_under s.node.host number) s.node) (silently s.node effect.Ignored)) seen
                ∙ ap (λ found. confirmed_by found s.node) under);
          })

      -- any other letter
      another : (body : Body) → letter.body ≡ body → ((number : ℕ) (entry : Entry) → body ≡ Reply_letter number (reply.Registered entry)
          → ⊥)
          → (((ConfirmsOne s.node (Receives letter) it → ⊥))
          → IsOther (sentence (body_words body s.node.host s.node.view.version it.effect (delivered_words letter it.effect)))) → Outcome
      another body same never other =
          let none : ConfirmsOne s.node (Receives letter) it → ⊥ = λ c. never c.number c.entry (sym same ∙ same_letter c) in
          inl (
            none,
            by_body it.effect (subst (λ b. IsOther
                (sentence (body_words b s.node.host s.node.view.version it.effect (delivered_words letter it.effect)))) (sym same)
                (other none)),
          )

      delivered : (body : Body) → letter.body ≡ body →
          ((number : ℕ) (entry : Entry) → body ≡ Reply_letter number (reply.Registered entry) → ⊥)
          → body_words body s.node.host s.node.view.version it.effect (delivered_words letter it.effect) ≡ delivered_words letter it.effect
          → Outcome
      delivered body same never says =
          another body same never (λ none. subst (λ w. IsOther (sentence w)) (sym says) (delivered_other letter it.effect))

      counted : (body : Body) → letter.body ≡ body → ((number : ℕ) (entry : Entry) → body ≡ Reply_letter number (reply.Registered entry)
          → ⊥)
          → is_other (body_words body s.node.host s.node.view.version it.effect (delivered_words letter it.effect)) ≡ true → Outcome
      counted body same never other =
          another body same never (λ none. by_words (body_words body s.node.host s.node.view.version it.effect
          (delivered_words letter it.effect)) other)

      outcome : (body : Body) → letter.body ≡ body → Outcome
      outcome (Request_letter request) same = delivered _ same (λ number entry is. cc is) refl
      outcome (Reply_letter number (reply.Registered entry)) same = registered number entry same
      outcome (Reply_letter number (reply.Taken entry)) same = counted _ same (λ n e is. cc is) refl
      outcome (Reply_letter number reply.Removed) same = counted _ same (λ n e is. cc is) refl
      outcome (Reply_letter number reply.Absent) same = counted _ same (λ n e is. cc is) refl
      outcome (Reply_letter number (reply.Found entry)) same = counted _ same (λ n e is. cc is) refl
      outcome (Reply_letter number reply.Nothing) same = counted _ same (λ n e is. cc is) refl
      outcome (Reply_letter number (reply.Retry why)) same = counted _ same (λ n e is. cc is) refl
      outcome (Ask_letter range page) same = delivered _ same (λ number entry is. cc is) refl
      outcome (Page_letter page) same = delivered _ same (λ number entry is. cc is) refl
      outcome (Missing_letter range) same = delivered _ same (λ number entry is. cc is) refl
      outcome (Done_letter range) same = delivered _ same (λ number entry is. cc is) refl
      outcome (Query_letter range after) same = delivered _ same (λ number entry is. cc is) refl
      outcome (Report_letter report) same = delivered _ same (λ number entry is. cc is) refl
      outcome (Survey_letter ranges) same = delivered _ same (λ number entry is. cc is) refl
      outcome (Empty_letter ranges) same = delivered _ same (λ number entry is. cc is) refl
      outcome (Behind_letter range) same = delivered _ same (λ number entry is. cc is) refl
      outcome (Ahead_letter range) same = delivered _ same (λ number entry is. cc is) refl
      outcome (Offer_letter entry) same =
          another _ same (λ n e is. cc is) (λ none. did_other s.node.host.silo it.effect
          (λ firm. none ((shown s.node (Receives letter) it is).1 (ap step_of_effect firm))))

      -- the line that tells it
      telling : (c : ConfirmsOne s.node (Receives letter) it) → sentence (words it.effect) ≡ its_firm_line s c.e.0 c.e.1.count
      telling c =
          ap (λ (i : Stepped). sentence (words i.effect)) c.is
          ∙ (ap (λ b. sentence (body_words b s.node.host s.node.view.version effect.Firm (delivered_words letter effect.Firm)))
          (same_letter c)
          ∙ ap (λ found. sentence (codes "firm" ∷ (own_words s.node.host found ++ codes "at" ∷ decimal s.node.view.version ∷ []))) c.under)

      came : TellsFirm s read (stepped words (Ok it) s)
      came = by (outcome letter.body refl)
        where
          by : Outcome → TellsFirm s read (stepped words (Ok it) s)
          by (inl other) = other_step (Receives letter) (λ grain ends. absurd ends) words it is other.0 other.1
          by (inr c) = firm_step (Receives letter) (λ grain ends. absurd ends) words it is telling c

    taken : (o : Result Stepped ℕ) → does s (Receives letter) ≡ o → TellsFirm s read (stepped words o s)
    taken (Err number) is = quiet (stepped words (Err number) s) refl (alone (refusal_line number) (refusal_other number))
    taken (Ok it) is = came it (unbarred (barred s) (step s.node (Receives letter)) it is)

    comes : TellsFirm s read (received_so letter s)
    comes = by (silo_eq letter.to s.node.host.silo)
      where
        by : (ours : Bool) → TellsFirm s read (cond ours
            (stepped words (cond ours (does s (Receives letter)) (Ok (silently s.node effect.Ignored))) s) (printing [] s))
        by true = taken (does s (Receives letter)) refl
        by false = quiet (printing [] s) refl (All-nil IsOther)

  -- ---- a change
  hears : (version : ℕ) (change : Change) → TellsFirm s read (told_so version change s)
  hears version change = by (told s.node.settings s.membership version change)
    where
      by : (o : Result Heard ℕ) → TellsFirm s read (heard o version change s)
      by (Err number) = quiet (printing (refusal_line number ∷ []) s) refl (alone (refusal_line number) (refusal_other number))
      by (Ok its) =
          let next : SiloValue = record s { membership = its.membership } in
          let it = printing (sentence (news_words version change its.news) ∷ []) next in
          quiet (unless_dead (own_status next) it) (sym (ap (λ (t : SiloValue). t.node) (silo_kept (own_status next) it)))
          (news_other version change its.news (own_status next) next)

  -- ---- a view with which the silo begins
  begins : (version : ℕ) (rows : List Listed) → TellsFirm s read (begun_so version rows s)
  begins version rows = by (told_view s.node.settings s.membership s.node.host.silo version rows)
    where
      by : (o : Result Membership ℕ) → TellsFirm s read (begun o version s)
      by (Err number) = quiet (printing (refusal_line number ∷ []) s) refl (alone (refusal_line number) (refusal_other number))
      by (Ok m) =
          let words = codes "view" ∷ decimal version ∷ codes "begins" ∷ [] in
          quiet (printing (sentence words ∷ []) (record s { membership = m })) refl (alone (sentence words) (by_words words refl))

-- ---- whatever a line says
module _ (s : SiloValue) (once : HoldsOnce s.node.host) (own : IsSilo s.node.host.silo) where
  abbrev Tells : Result (Option Asked) ℕ → Answered → Type 0
  Tells read it = TellsFirm s read it

  tells_asked : (asked : Asked) → Tells (Ok (Some asked)) (answered asked s)
  unfolding answered
  tells_asked (Joined version silo token places) =
      hears s once own (Ok (Some (Joined version silo token places))) version (Join silo places)
  tells_asked (Leaving version silo) = hears s once own (Ok (Some (Leaving version silo))) version (Leave silo)
  tells_asked (Dead version silo) = hears s once own (Ok (Some (Dead version silo))) version (Die silo)
  tells_asked (Begin version rows) = begins s once own (Ok (Some (Begin version rows))) version rows
  tells_asked (See version) = saw s once own (Ok (Some (See version))) version
  tells_asked (Do asked) = done s once own (Ok (Some (Do asked))) asked (λ its ends. ends) (λ it c. cc c.comes)
  tells_asked (Receive letter) = comes s once own (Ok (Some (Receive letter))) letter
  tells_asked (Ping word) =
      quiet s once own (Ok (Some (Ping word))) (printing (sentence (codes "pong" ∷ word ∷ []) ∷ []) s) refl
      (alone (sentence (codes "pong" ∷ word ∷ [])) (pong_other word))
  tells_asked (Owner grain) =
      quiet s once own (Ok (Some (Owner grain))) (printing (grain_owner_line s grain ∷ []) s) refl
      (alone (grain_owner_line s grain) (owner_other s grain))
  tells_asked (Place grain policy) =
      quiet s once own (Ok (Some (Place grain policy))) (printing (grain_place_line s grain policy ∷ []) s) refl
      (alone (grain_place_line s grain policy) (place_other s grain policy))
  tells_asked Figures =
      quiet s once own (Ok (Some Figures)) (printing (figures_line s ∷ []) s) refl (alone (figures_line s) (figures_other s))
  tells_asked Show = quiet s once own (Ok (Some Show)) (printing (show_lines s) s) refl (show_other s)
  tells_asked Dump = quiet s once own (Ok (Some Dump)) (printing (dump_line s ∷ []) s) refl (alone (dump_line s) (dump_other s))

  unless_anothers : (asked : Asked) (anothers : Bool)
      → Tells (Ok (Some asked)) (cond anothers (printing (refusal_line 208 ∷ []) s) (answered asked s))
  unless_anothers asked true =
      quiet s once own (Ok (Some asked)) (printing (refusal_line 208 ∷ []) s) refl (alone (refusal_line 208) (refusal_other 208))
  unless_anothers asked false = tells_asked asked

  pub tells_firm : (token : Option (List ℕ)) (read : Result (Option Asked) ℕ) → Tells read (answered_to token read s)
  unfolding answered_as
  tells_firm token (Ok None) = quiet s once own (Ok None) (printing [] s) refl (All-nil IsOther)
  tells_firm token (Ok (Some asked)) = unless_anothers asked (is_anothers_join token asked s.node.host.silo)
  tells_firm token (Err fault) =
      quiet s once own (Err fault) (printing (fault_line fault ∷ []) s) refl (alone (fault_line fault) (fault_other fault))

-- ---- the silos of a deployment hold one activation a grain
module _ (settings : Settings) (steps : List deployment.Step) (are : AreSettings settings) (named : All deployment.IsStep steps) where
  abbrev d : Deployment
  d = deployment.deployed settings steps

  abbrev most : ℕ
  most = suc (length steps)

  abbrev letters : ℕ
  letters = suc (length d.written)

  holds_once : (silo : Silo) (s : SiloValue) → process_of d silo ≡ Some s → HoldsOnce s.node.host
  holds_once silo s there =
      let all = made_so settings steps are named most letters (omega arith) (omega arith) in
      let test = is_at (silo_cmp silo) in
      let found : lookup test (over its_node (over (process_with_room most letters) d.processes)) ≡ Some (process_with_room most letters s).node =
      lookup-over its_node test (over (process_with_room most letters) d.processes)
      ∙ ap (option_map its_node) (lookup-over (process_with_room most letters) test d.processes
      ∙ ap (option_map (process_with_room most letters)) there) in
      (nodes_are_own (with_room most letters settings) all.events silo (process_with_room most letters s).node
      (ap (λ (w : World). node_of w silo) all.is ∙ found)).once

pub lines_tell_firm : WrittenReadAsThemselves → LinesTellFirm
lines_tell_firm themselves settings tokens steps are may silo p line is_silo there =
    let c = after_all (first_cluster settings tokens) steps in
    let f = follows_all themselves (first_cluster settings tokens) (follows_first themselves settings tokens are) steps may in
    let found : process_of (deployment.deployed c.settings f.steps) silo ≡ Some p.silo =
    ap (λ d. process_of d silo) f.same ∙ lookup-over its_silo (is_at (silo_cmp silo)) c.processes ∙ ap (option_map its_silo) there in
    let own = (processes_are_own c.settings f.steps f.are f.named silo p.silo found).address in
    tells_firm p.silo (holds_once c.settings f.steps f.are f.named silo p.silo found) (subst IsSilo (sym own) is_silo) p.token
    (said line p.silo)

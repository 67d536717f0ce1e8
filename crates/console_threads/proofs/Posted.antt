-- Events that commands post.
use Rattle.std.proofs.Common.{◌≡◌, ◌∙◌, ◌+◌, ◌<◌, ◌≤◌, ◌⊎◌, ℕ, inl, inr, suc, Bool, true, false, List, [], ◌∷◌, ◌++◌, Result, Ok, Err, add-one, ap, arith, drop, drop-cons, get_or, length, map, refl, sym, subst, append-nil}
use Rattle.std.specs.Prelude.{OnOk}
use Rattle.std.proofs.lemmas.List.{drop_all}
use mathlib.Core.List.{IsPrefix}
use Rattle.directory_rules.specs.Event as rule
use Rattle.directory_rules.specs.EventModel.{event_of}
use Rattle.directory_rules.specs.Happens.{happens}
use Rattle.directory_rules.specs.Settings.{Settings}
use Rattle.directory_rules.specs.State.{World}
use Rattle.directory_rules.specs.declared.event.Event.{Event}
use Rattle.directory_rules.specs.declared.event.Event.TheVariants.{Deliver, Lose}
use Rattle.cluster_journal.specs.Entry.{EntryValue}
use Rattle.cluster_journal.specs.Journal.{world_of}
use Rattle.cluster_journal.specs.Posted.{IsReceiptOf, IsRefused}
use Rattle.cluster_journal.specs.declared.entry.Receipt.{Receipt}
use Rattle.cluster_journal.proofs.Beginnings.{is_taken, it_stands, no_longer, prefix_self, prefix_then}
use Rattle.script_lines.specs.CommandModel.{command_of}
use Rattle.script_lines.specs.declared.command.Command.{Command}
use Rattle.script_lines.specs.declared.command.Command.TheVariants as commands
use Rattle.script_rules.specs.Script as script
use Rattle.threaded_play.specs.CarriedOut.{AreCarriedOut, ArePosted, IsCarriedOut, IsEntered, IsRefusedAt, no_command, posted_by, then_command, world_at}
use Rattle.console_threads.specs.Driven.{IsPosted, Puts, numbers_of}
use Rattle.console_threads.proofs.SoFar.{PutsSoFar, nothing_yet, then_last, then_more}

-- ---- What a command posts.

-- an event that isn't the workers' own
pub posts_itself : (event : Event) (world : World) → ((number : ℕ) → event ≡ Deliver number → ⊥) → ((number : ℕ) → event ≡ Lose number → ⊥)
    → posted_by world (script.Happen (event_of event)) ≡ event_of event ∷ []
posts_itself (Deliver number) world not_delivered not_lost = absurd (not_delivered number refl)
posts_itself (Lose number) world not_delivered not_lost = absurd (not_lost number refl)
posts_itself other world not_delivered not_lost = refl

-- one that is
no_delivery : (event : Event) (number : ℕ) → event ≡ Deliver number → (world : World)
    → posted_by world (script.Happen (event_of event)) ≡ []
no_delivery event number is world = ap (λ (e : Event). posted_by world (script.Happen (event_of e))) is

no_loss : (event : Event) (number : ℕ) → event ≡ Lose number → (world : World) → posted_by world (script.Happen (event_of event)) ≡ []
no_loss event number is world = ap (λ (e : Event). posted_by world (script.Happen (event_of e))) is

pub no_own : (event : Event) → ((number : ℕ) × (event ≡ Deliver number)) ⊎ ((number : ℕ) × (event ≡ Lose number)) → (world : World)
    → posted_by world (script.Happen (event_of event)) ≡ []
no_own event (inl delivers) world = no_delivery event delivers.0 delivers.1 world
no_own event (inr loses) world = no_loss event loses.0 loses.1 world

pub no_settling : (command : Command) → command ≡ commands.Settle → (world : World) → posted_by world (command_of command) ≡ []
no_settling command is world = ap (λ (c : Command). posted_by world (command_of c)) is

-- a command that asks for no event
pub posts_none : (command : Command) (world : World) → ((event : Event) → command ≡ commands.Happen event → ⊥)
    → (command ≡ commands.Sync → ⊥) → posted_by world (command_of command) ≡ []
posts_none (commands.Happen event) world not_event not_sync = absurd (not_event event refl)
posts_none commands.Sync world not_event not_sync = absurd (not_sync refl)
posts_none other world not_event not_sync = refl

module _ (settings : Settings) where
  -- ---- One event.

  -- the world of what is known is that of as many entries of any journal that goes on from there
  known_world : (now journal : List EntryValue) → IsPrefix now journal → world_of settings now ≡ world_at settings journal (length now)
  known_world now journal begins = ap (λ (l : List EntryValue). world_of settings l) (sym (is_taken now journal begins))

  refused_there : (seen now journal : List EntryValue) (event : rule.Event) (number : ℕ) → IsRefused settings seen now event number
      → IsPrefix now journal
      → (length seen ≤ length now) × IsRefusedAt settings journal (length now) event
  refused_there seen now journal event number refused begins = (
    no_longer seen now refused.behind,
    record {
      within = no_longer now journal begins;
      number = number;
      refused = subst (λ (w : World). happens w event ≡ Err number) (known_world now journal begins) refused.refused;
    },
  )

  entered_there : (seen now journal : List EntryValue) (event : rule.Event) (receipt : Receipt)
      → IsReceiptOf settings seen now event receipt → IsPrefix now journal
      → (length seen < receipt.number) × IsEntered journal event receipt.number
  entered_there seen now journal event receipt its begins =
      let before = no_longer seen its.journal its.behind in
      let stands = prefix_then (its.journal ++ receipt.entry ∷ []) now journal its.stands begins in (
        omega (before, its.number, arith),
        (
          receipt.entry,
          it_stands its.journal journal receipt.entry receipt.number stands its.number,
          its.its,
        ),
      )

  -- ---- Events one after the other.

  abbrev pub Posted : List EntryValue → (before after : ℕ) → List rule.Event → List ℕ → Type 0
  Posted journal before after events numbers = ArePosted settings journal before after events numbers

  module _ (all : List rule.Event) (seen : List EntryValue) (before : List Receipt) (left later : List rule.Event) (event : rule.Event)
      (now next : List EntryValue) (receipts after : List Receipt)
      (is : left ≡ event ∷ later) (so_far : PutsSoFar Posted all left seen now before receipts) where
    -- one that was refused, and then none
    pub one_refused : IsPosted settings event false now next receipts after
        → Puts (λ journal from to. Posted journal from to all) seen next before after
    one_refused posted =
        then_last Posted all seen before left now next receipts after [] posted.0.1.behind (posted.1 ∙ sym (append-nil receipts)) so_far
        (λ journal begins. subst (λ (l : List rule.Event). Posted journal (length now) (length next) l []) (sym is)
        (refused_there now next journal event posted.0.0 posted.0.1 begins))

    -- one more that was accepted
    pub one_accepted : IsPosted settings event true now next receipts after → PutsSoFar Posted all later seen next before after
    one_accepted posted =
        let receipt = posted.0 in
        let its = posted.1 in
        let goes = prefix_then now its.journal next its.behind (prefix_then its.journal (its.journal ++ receipt.entry ∷ []) next (receipt.entry ∷ [], refl) its.stands) in
        then_more Posted all seen before left now next receipts after (receipt ∷ []) goes posted.3 so_far later
        (λ journal begins last rest rests.
        let there = entered_there now next journal event receipt its begins in
        subst (λ (l : List rule.Event). Posted journal (length now) last l (receipt.number ∷ rest)) (sym is)
        (there.0, there.1, subst (λ n. Posted journal n last later rest) (sym posted.2) rests))

  -- all were accepted
  pub all_accepted : (all left : List rule.Event) (seen now : List EntryValue) (before receipts : List Receipt) → left ≡ []
      → PutsSoFar Posted all left seen now before receipts
      → Puts (λ journal from to. Posted journal from to all) seen now before receipts
  all_accepted all left seen now before receipts is so_far =
      then_last Posted all seen before left now now receipts receipts [] (prefix_self now) (sym (append-nil receipts)) so_far
      (λ journal begins. subst (λ (l : List rule.Event). Posted journal (length now) (length now) l []) (sym is) refl)

  -- ---- A command.

  -- nothing was posted
  pub nothing_performed : (command : script.Command) (seen : List EntryValue) (receipts : List Receipt)
      → ((world : World) → posted_by world command ≡ [])
      → Puts (λ journal from to. IsCarriedOut settings journal from to command) seen seen receipts receipts
  nothing_performed command seen receipts none = record {
    more = [];
    kept = sym (append-nil receipts);
    begins = prefix_self seen;
    its = λ journal begins. record {
      count = length seen;
      behind = omega arith;
      within = no_longer seen journal begins;
      posted =
          subst (λ (l : List rule.Event). Posted journal (length seen) (length seen) l [])
          (sym (none (world_at settings journal (length seen)))) refl;
    };
  }

  -- events were posted that the command posts in the world of what was known then
  pub performed : (command : script.Command) (events : List rule.Event) (seen known now : List EntryValue) (before receipts : List Receipt)
      → IsPrefix seen known
      → events ≡ posted_by (world_of settings known) command
      → Puts (λ journal from to. Posted journal from to events) known now before receipts
      → Puts (λ journal from to. IsCarriedOut settings journal from to command) seen now before receipts
  performed command events seen known now before receipts goes are puts = record {
    more = puts.more;
    kept = puts.kept;
    begins = prefix_then seen known now goes puts.begins;
    its = λ journal begins.
        let there = prefix_then known now journal puts.begins begins in
        record {
          count = length known;
          behind = no_longer seen known goes;
          within = no_longer known journal there;
          posted = subst (λ (l : List rule.Event). Posted journal (length known) (length now) l (numbers_of puts.more))
              (are ∙ ap (λ (w : World). posted_by w command) (known_world known journal there)) (puts.its journal begins);
        };
  }

  -- one that posts its event alone
  pub event_performed : (event : rule.Event) (accepted : Bool) (seen now : List EntryValue) (before receipts : List Receipt)
      → ((world : World) → posted_by world (script.Happen event) ≡ event ∷ [])
      → IsPosted settings event accepted seen now before receipts
      → Puts (λ journal from to. IsCarriedOut settings journal from to (script.Happen event)) seen now before receipts
  event_performed event true seen now before receipts posts posted =
      performed (script.Happen event) (event ∷ []) seen seen now before receipts (prefix_self seen) (sym (posts (world_of settings seen)))
      (all_accepted (event ∷ []) [] seen now before receipts refl
      (one_accepted (event ∷ []) seen before (event ∷ []) [] event seen now before receipts refl
      (nothing_yet Posted (event ∷ []) seen before) posted))
  event_performed event false seen now before receipts posts posted =
      performed (script.Happen event) (event ∷ []) seen seen now before receipts (prefix_self seen) (sym (posts (world_of settings seen)))
      (one_refused (event ∷ []) seen before (event ∷ []) [] event seen now before receipts refl
      (nothing_yet Posted (event ∷ []) seen before) posted)

  -- ---- Commands one after the other.

  abbrev pub Carried : List EntryValue → (before after : ℕ) → List script.Command → List ℕ → Type 0
  Carried journal before after commands numbers = AreCarriedOut settings journal before after commands numbers

  -- one more was performed
  pub one_performed : (all left later : List script.Command) (command : script.Command) (seen now next : List EntryValue)
      (before receipts after : List Receipt) → left ≡ command ∷ later
      → Puts (λ journal from to. IsCarriedOut settings journal from to command) now next receipts after
      → PutsSoFar Carried all left seen now before receipts → PutsSoFar Carried all later seen next before after
  one_performed all left later command seen now next before receipts after is puts so_far =
      then_more Carried all seen before left now next receipts after puts.more puts.begins puts.kept so_far later
      (λ journal begins last rest rests. subst (λ (l : List script.Command). Carried journal (length now) last l
      (numbers_of puts.more ++ rest)) (sym is)
      (then_command (numbers_of puts.more) (puts.its journal begins) rests))

  -- all were
  pub all_performed : (all left : List script.Command) (seen now : List EntryValue) (before receipts : List Receipt) → left ≡ []
      → PutsSoFar Carried all left seen now before receipts
      → Puts (λ journal from to. Carried journal from to all) seen now before receipts
  all_performed all left seen now before receipts is so_far =
      then_last Carried all seen before left now now receipts receipts [] (prefix_self now) (sym (append-nil receipts)) so_far
      (λ journal begins. subst (λ (l : List script.Command). Carried journal (length now) (length now) l []) (sym is) no_command)

-- what comes of what is so where all is well
pub where_well : {T E P Q : Type 0} (result : Result T E) → (P → Q) → OnOk result P → OnOk result Q
where_well (Ok value) goes p = goes p
where_well (Err error) goes p = tt

-- ---- What is left of those that are gone through.
pub one_left : {A B : Type 0} (f : A → B) (xs : List A) (index : ℕ) (x : A) → index < length xs → x ≡ get_or xs index x
    → map f (drop index xs) ≡ f x ∷ map f (drop (index + 1) xs)
one_left f xs index x less is =
    ap (map f) (drop-cons xs index x less ∙ ap (λ y. y ∷ drop (suc index) xs) (sym is))
    ∙ ap (λ n. f x ∷ map f (drop n xs)) (sym (add-one index))

pub none_left : {A B : Type 0} (f : A → B) (xs : List A) (index : ℕ) → length xs ≤ index → map f (drop index xs) ≡ []
none_left f xs index all = ap (map f) (drop_all index xs all)

-- Where clap finds no fault, a walk over words does not stop at the subcommand `help`.
use Rattle.std.proofs.Common.{◌≡◌, ◌&&◌, ℕ, Bool, true, false, true≢false, cond, refl, ap, codes, not, List, [], ◌∷◌, Option, Some, None, is_some}
use Rattle.std.specs.List.{fold}
use Rattle.std.specs.Str.{bytes_eq}
use Rattle.clap.specs.Lexer.{long_of, short_of}
use Rattle.clap.specs.Walk.{Held, Names, Outcome, Rule, Step, Text, Waiting, Walk, after_flag, after_step, arg_by_index, done, idle, long_or_other, next, option, plain, plain_word, positional, refused, short_or_plain, subcommand, subcommand_met, subcommand_or_other, to_positional, trailing, value, waits, walked, walked_from, word_met}
use Rattle.clap.specs.Simple.{Shape}
use Rattle.clap.specs.Kinds.{or_else}
use Rattle.clap.specs.Faults.{other_fault, step_fault, turn_fault, walk_fault, word_fault}
use Rattle.clap.specs.declared.error.kind.ErrorKind.TheVariants as kind
use Rattle.console_command.proofs.Walks.{is_faulty, no_first, no_next}

-- the step enters no subcommand `help`
abbrev pub IsNoHelp : Step → Type 0
IsNoHelp (subcommand name) = bytes_eq name (codes "help") ≡ false
IsNoHelp _ = Unit {0}

-- the walk has not stopped at `help`
abbrev pub StopsElsewhere : Option (Text × List Text) → Type 0
StopsElsewhere None = Unit {0}
StopsElsewhere (Some p) = bytes_eq p.0 (codes "help") ≡ false

-- `help` is a subcommand of the command, and entering it is a fault
module _ (s : Shape) (helps : s.disable_help_subcommand ≡ false) where
  plain_step : (waiting : Waiting) (word : Text) (h : Held) → IsNoHelp (plain_word s.rules waiting word h).1
  plain_step idle word h = tt
  plain_step positional word h = tt
  plain_step (option id) word h = tt

  flag_step : (waiting : Waiting) (word : Text) (h : Held) (o : Outcome) → IsNoHelp (after_flag s.rules waiting word h o).1
  flag_step waiting word h done = tt
  flag_step waiting word h (waits id) = tt
  flag_step waiting word h plain = plain_step waiting word h
  flag_step waiting word h refused = plain_step waiting word h

  other_step : (waiting : Waiting) (word : Text) (h : Held) (flag : Option (Text × Option Text))
      → IsNoHelp (long_or_other s.rules waiting word flag h).1
  other_step waiting word h (Some p) = flag_step waiting word _ _
  other_step waiting word h None = go (short_of word)
    where
      go : (flags : Option Text) → IsNoHelp (short_or_plain s.rules waiting word flags h).1
      go None = plain_step waiting word h
      go (Some flags) = flag_step waiting word _ _

  entered_step : (name : Text) (b d : Bool) → bytes_eq name (codes "help") ≡ b → d ≡ false
      → cond (b && not d) (kind.DisplayHelp ∷ kind.InvalidSubcommand ∷ []) [] ≡ [] → bytes_eq name (codes "help") ≡ false
  entered_step name false d is on e = is
  entered_step name true false is on e = absurd (true≢false (ap is_faulty e))
  entered_step name true true is on e = absurd (true≢false on)

  word_step : (names : Names) (is_trailing : Bool) (waiting : Waiting) (position : ℕ) (word : Text) (h : Held)
      → word_fault s names is_trailing waiting word h ≡ [] → IsNoHelp (word_met s.rules names is_trailing waiting position word h).1
  word_step names true waiting position word h e = tt
  word_step names false waiting position word h e = go (subcommand_met names waiting word) e
    where
      dashes : (b : Bool) → IsNoHelp (cond b (h, trailing position) (long_or_other s.rules waiting word (long_of word) h)).1
      dashes true = tt
      dashes false = other_step waiting word h (long_of word)

      go : (met : Option Text) → other_fault s met word h ≡ [] → IsNoHelp (subcommand_or_other s.rules met waiting position word h).1
      go (Some name) none = entered_step name (bytes_eq name (codes "help")) s.disable_help_subcommand refl helps none
      go None none = dashes (bytes_eq word (45 ∷ 45 ∷ []))

  after_stops : (w : Walk) (word : Text) (h : Held) (step : Step) → IsNoHelp step → StopsElsewhere w.stopped
      → StopsElsewhere (after_step s.rules word w h step).stopped
  after_stops w word h (next waiting) well stops = stops
  after_stops w word h (trailing position) well stops = stops
  after_stops w word h (subcommand name) well stops = well
  after_stops w word h value well stops = go (arg_by_index s.rules w.position)
    where
      go : (found : Option Rule) → StopsElsewhere (to_positional s.rules found word w h).stopped
      go None = stops
      go (Some a) = tt

  turn_stops : (names : Names) (w : Walk) (word : Text) → turn_fault s names w word ≡ [] → StopsElsewhere w.stopped
      → StopsElsewhere (walked s.rules names w word).stopped
  unfolding walked
  turn_stops names w word e stops = go w.stopped stops e
    where
      go : (stopped : Option (Text × List Text)) → StopsElsewhere stopped
          → cond (is_some stopped) [] (or_else (word_fault s names w.is_trailing w.waiting word w.held)
          (step_fault s w.position (word_met s.rules names w.is_trailing w.waiting w.position word w.held).0
          (word_met s.rules names w.is_trailing w.waiting w.position word w.held).1)) ≡ []
          → StopsElsewhere (walked_from s.rules names stopped w word).stopped
      go (Some p) there none = there
      go None there none = after_stops w word _ _ (word_step names w.is_trailing w.waiting w.position word w.held (no_first _ _ none)) stops

  pub walk_stops : (names : Names) (words : List Text) (w : Walk) → walk_fault s names w words ≡ [] → StopsElsewhere w.stopped
      → StopsElsewhere (fold (walked s.rules names) w words).stopped
  unfolding walk_fault
  walk_stops names [] w e stops = stops
  walk_stops names (word ∷ rest) w e stops =
      walk_stops names rest (walked s.rules names w word) (no_next _ _ e) (turn_stops names w word (no_first _ _ e) stops)

-- What each use of an argument keeps true of the matches, a whole walk of clap over words keeps, where it finds no fault.
use Rattle.std.proofs.Common.{◌≡◌, ◌&&◌, ℕ, Bool, true, false, true≢false, cond, zero, suc, refl, ap, subst, sym, unwrap_or, not, List, [], ◌∷◌, Option, Some, None, is_some, length, drop}
use Rattle.std.specs.Prelude.{encode_utf8, slice_get}
use Rattle.std.specs.List.{find, fold, list_any}
use Rattle.std.specs.Option.{option_map_or}
use Rattle.std.specs.Str.{bytes_eq, chars}
use Rattle.clap.specs.Lexer.{long_of, short_of}
use Rattle.clap.specs.Walk.{Held, Names, Outcome, Row, Rule, Step, Text, Waiting, Walk, after_flag, after_step, arg_by_id, arg_by_index, arg_by_long, arg_by_short, attached_value, bundle_met, bundle_step, done, finished, flag_met, idle, is_pending, long_met, long_or_other, next, option, option_met, option_word, plain, plain_word, positional, refused, reacted, settled, settled_rows, short_met, short_or_plain, subcommand, subcommand_met, subcommand_or_other, takes_several, takes_values, to_positional, trailing, used, used_by_id, value, waits, walk, walk_from, walked, walked_from, word_met, nothing_held}
use Rattle.clap.specs.Simple.{Shape}
use Rattle.clap.specs.Kinds.{Kinds, check_kinds, or_else}
use Rattle.clap.specs.Facts.{explicit_source}
use Rattle.clap.specs.Faults.{bundle_fault, bundle_step_fault, check_fault, defaults_fault, flag_word_fault, flags_fault, level_fault, long_fault, option_fault, other_fault, positional_fault, react_fault, settle_fault, short_fault, step_fault, stray_fault, turn_fault, use_fault, walk_fault, word_fault}
use Rattle.clap.specs.declared.error.kind.ErrorKind.TheVariants as kind

-- ---- lists of faults

-- some fault is there
abbrev pub is_faulty : Kinds → Bool
is_faulty [] = false
is_faulty (k ∷ ks) = true

-- no fault in two steps is none in the first
pub no_first : (a b : Kinds) → or_else a b ≡ [] → a ≡ []
no_first [] b e = refl
no_first (k ∷ ks) b e = e

-- and none in the second
pub no_next : (a b : Kinds) → or_else a b ≡ [] → b ≡ []
no_next [] b e = e
no_next (k ∷ ks) b e = absurd (true≢false (ap is_faulty e))

-- ---- each of a list

-- P holds of each element
abbrev pub Every : {X : Type 0} → (X → Type 0) → List X → Type 0
Every P [] = Unit {0}
Every P (x ∷ xs) = P x × Every P xs

pub every_found : {X : Type 0} (P : X → Type 0) (test : X → Bool) (xs : List X) (x : X) → Every P xs → find test xs ≡ Some x → P x
every_found P test [] x all found = absurd (true≢false (sym (ap is_some found)))
every_found P test (y ∷ ys) x all found = go (test y) (every_found P test ys x all.1) found
  where
    go : (b : Bool) → (find test ys ≡ Some x → P x) → cond b (Some y) (find test ys) ≡ Some x → P x
    go true later found = subst P (ap (λ o. unwrap_or o y) found) all.0
    go false later found = later found

-- ---- uses

-- a use of the argument in which there is no fault keeps P
abbrev pub Keeps : Bool → (List Row → Type 0) → Rule → Type 0
Keeps again P a = (values : List Text) (rows : List Row) → use_fault again a values rows ≡ [] → P rows → P (used a values rows)

module _ (s : Shape) (P : List Row → Type 0) (keeps : Every (Keeps s.args_override_self P) s.rules) where
  -- a step with these faults keeps P where there are none
  abbrev Fine : Kinds → Held → Held → Type 0
  Fine faults before after = faults ≡ [] → P before.rows → P after.rows

  -- a use of the argument that is found by its id
  by_id : (found : Option Rule) (id : Text) (values : List Text) (rows : List Row) → arg_by_id s.rules id ≡ found
      → option_map_or (λ a. use_fault s.args_override_self a values rows) found [] ≡ [] → P rows → P (used_by_id found values rows)
  by_id None id values rows at e h = h
  by_id (Some a) id values rows at e h = every_found _ _ s.rules a keeps at values rows e h

  -- what is pending is used
  pub settle_keeps : (h : Held) → Fine (settle_fault s.rules s.args_override_self h) h (settled s.rules h)
  settle_keeps h = go h.pending
    where
      go : (p : Option (Text × List Text))
          → option_map_or (λ p. option_map_or (λ a. use_fault s.args_override_self a p.1 h.rows) (arg_by_id s.rules p.0) []) p [] ≡ []
          → P h.rows → P (settled_rows s.rules p h.rows)
      go None e rows = rows
      go (Some p) e rows = by_id (arg_by_id s.rules p.0) p.0 p.1 h.rows refl e rows

  react_keeps : (a : Rule) → Keeps s.args_override_self P a → (values : List Text) (h : Held)
      → Fine (react_fault s.rules s.args_override_self a values h) h (reacted s.rules a values h)
  react_keeps a kept values h e rows = kept values (settled s.rules h).rows (no_next _ _ e) (settle_keeps h (no_first _ _ e) rows)

  option_keeps : (a : Rule) → Keeps s.args_override_self P a → (v : Option Text) (h : Held)
      → Fine (option_fault s.rules s.args_override_self a v h) h (option_met s.rules a v h).0
  option_keeps a kept (Some v) h e rows = react_keeps a kept (v ∷ []) h e rows
  option_keeps a kept None h e rows = settle_keeps h e rows

  flag_keeps : (a : Rule) → Keeps s.args_override_self P a → (v : Option Text) (h : Held)
      → Fine (cond (is_some v) (kind.TooManyValues ∷ []) (react_fault s.rules s.args_override_self a [] h)) h (flag_met s.rules a v h).0
  flag_keeps a kept (Some v) h e rows = rows
  flag_keeps a kept None h e rows = react_keeps a kept [] h e rows

  -- `--name` or `--name=value`
  long_keeps : (name : Text) (v : Option Text) (h : Held)
      → Fine (long_fault s.rules s.args_override_self (arg_by_long s.rules name) v h) h (long_met s.rules (arg_by_long s.rules name) v h).0
  long_keeps name v h = go (arg_by_long s.rules name) refl
    where
      takes : (a : Rule) → Keeps s.args_override_self P a → (b : Bool)
          → cond b (option_fault s.rules s.args_override_self a v h)
          (cond (is_some v) (kind.TooManyValues ∷ []) (react_fault s.rules s.args_override_self a [] h)) ≡ []
          → P h.rows → P (cond b (option_met s.rules a v h) (flag_met s.rules a v h)).0.rows
      takes a kept true e rows = option_keeps a kept v h e rows
      takes a kept false e rows = flag_keeps a kept v h e rows

      go : (found : Option Rule) → arg_by_long s.rules name ≡ found
          → Fine (long_fault s.rules s.args_override_self found v h) h (long_met s.rules found v h).0
      go None at e rows = rows
      go (Some a) at e rows = takes a (every_found _ _ s.rules a keeps at) (takes_values a) e rows

  -- ---- bundles of short options

  abbrev BundleKeeps : (Text → ℕ → Held → Kinds) → (Text → ℕ → Outcome → Held → Held × Outcome) → Type 0
  BundleKeeps faults met =
      (flags : Text) (skip : ℕ) (so_far : Outcome) (h : Held) → Fine (faults flags skip h) h (met flags skip so_far h).0

  -- one flag of a bundle, and then the rest
  short_keeps : (x : ℕ) (rest : Text) (h : Held) (faults : Held → Kinds) (met : Held → Held × Outcome)
      → ((k : Held) → Fine (faults k) k (met k).0)
      → Fine (short_fault s.rules s.args_override_self (arg_by_short s.rules x) rest h faults) h
      (short_met s.rules (arg_by_short s.rules x) rest h met).0
  short_keeps x rest h faults met after = go (arg_by_short s.rules x) refl
    where
      takes : (a : Rule) → Keeps s.args_override_self P a → (b : Bool)
          → cond b (option_fault s.rules s.args_override_self a (attached_value rest) h)
          (or_else (react_fault s.rules s.args_override_self a [] h) (faults (reacted s.rules a [] h))) ≡ []
          → P h.rows → P (cond b (option_met s.rules a (attached_value rest) h) (met (reacted s.rules a [] h))).0.rows
      takes a kept true e rows = option_keeps a kept (attached_value rest) h e rows
      takes a kept false e rows = after (reacted s.rules a [] h) (no_next _ _ e) (react_keeps a kept [] h (no_first _ _ e) rows)

      go : (found : Option Rule) → arg_by_short s.rules x ≡ found
          → Fine (short_fault s.rules s.args_override_self found rest h faults) h (short_met s.rules found rest h met).0
      go None at e rows = rows
      go (Some a) at e rows = takes a (every_found _ _ s.rules a keeps at) (takes_values a) e rows

  step_of_bundle : (faults : Text → ℕ → Held → Kinds) (met : Text → ℕ → Outcome → Held → Held × Outcome) → BundleKeeps faults met
      → (c : Option ℕ) (flags : Text) (skip : ℕ) (so_far : Outcome) (h : Held)
      → Fine (bundle_step_fault s.rules s.args_override_self c flags skip h faults) h (bundle_step s.rules c flags skip so_far h met).0
  step_of_bundle faults met after None flags skip so_far h e rows = rows
  step_of_bundle faults met after (Some x) flags zero so_far h e rows =
      let rest = drop (length (encode_utf8 x)) flags in
      short_keeps x rest h (faults rest 0) (met rest 0 done) (λ k. after rest 0 done k) e rows
  step_of_bundle faults met after (Some x) flags (suc skip) so_far h e rows =
      after (drop (length (encode_utf8 x)) flags) skip so_far h e rows

  flags_keep : (k : ℕ) → BundleKeeps (flags_fault s.rules s.args_override_self k) (bundle_met s.rules k)
  unfolding flags_fault bundle_met
  flags_keep zero flags skip so_far h e rows = rows
  flags_keep (suc k) flags skip so_far h e rows =
      step_of_bundle (flags_fault s.rules s.args_override_self k) (bundle_met s.rules k) (flags_keep k)
      (slice_get (chars flags) 0) flags skip so_far h e rows

  -- ---- words

  -- a word that is no flag
  plain_keeps : (waiting : Waiting) (word : Text) (h : Held) → P h.rows → P (plain_word s.rules waiting word h).0.rows
  plain_keeps idle word h rows = rows
  plain_keeps positional word h rows = rows
  plain_keeps (option id) word h rows = go (arg_by_id s.rules id)
    where
      go : (found : Option Rule) → P (option_word found id word h).0.rows
      go None = rows
      go (Some a) = rows

  flag_done : (waiting : Waiting) (word : Text) (h : Held) (o : Outcome) → P h.rows → P (after_flag s.rules waiting word h o).0.rows
  flag_done waiting word h done rows = rows
  flag_done waiting word h (waits id) rows = rows
  flag_done waiting word h plain rows = plain_keeps waiting word h rows
  flag_done waiting word h refused rows = plain_keeps waiting word h rows

  other_keeps : (waiting : Waiting) (word : Text) (h : Held) (flag : Option (Text × Option Text))
      → Fine (flag_word_fault s.rules s.args_override_self flag word h) h (long_or_other s.rules waiting word flag h).0
  other_keeps waiting word h (Some p) e rows = flag_done waiting word _ _ (long_keeps p.0 p.1 h e rows)
  other_keeps waiting word h None e rows = go (short_of word) e
    where
      go : (flags : Option Text) → option_map_or (λ flags. bundle_fault s.rules s.args_override_self flags h) flags [] ≡ []
          → P (short_or_plain s.rules waiting word flags h).0.rows
      go None none = plain_keeps waiting word h rows
      go (Some flags) none = flag_done waiting word _ _ (flags_keep (length flags) flags h.skip plain (record h { skip = 0 }) none rows)

  -- any word, before it goes to a positional
  word_keeps : (names : Names) (is_trailing : Bool) (waiting : Waiting) (position : ℕ) (word : Text) (h : Held)
      → Fine (word_fault s names is_trailing waiting word h) h (word_met s.rules names is_trailing waiting position word h).0
  word_keeps names true waiting position word h e rows = rows
  word_keeps names false waiting position word h e rows = go (subcommand_met names waiting word) e
    where
      dashes : (b : Bool) → cond b [] (flag_word_fault s.rules s.args_override_self (long_of word) word h) ≡ []
          → P (cond b (h, trailing position) (long_or_other s.rules waiting word (long_of word) h)).0.rows
      dashes true none = rows
      dashes false none = other_keeps waiting word h (long_of word) none rows

      go : (met : Option Text) → other_fault s met word h ≡ [] → P (subcommand_or_other s.rules met waiting position word h).0.rows
      go (Some name) none = rows
      go None none = dashes (bytes_eq word (45 ∷ 45 ∷ [])) none

  -- ---- the walk

  -- a word that goes to a positional
  value_keeps : (w : Walk) (word : Text) (h : Held) → step_fault s w.position h value ≡ [] → P h.rows
      → P (to_positional s.rules (arg_by_index s.rules w.position) word w h).held.rows
  value_keeps w word h e rows = go (arg_by_index s.rules w.position) e
    where
      settles : (a : Rule) (b : Bool) → cond b [] (settle_fault s.rules s.args_override_self h) ≡ [] → P (cond b h (settled s.rules h)).rows
      settles a true none = rows
      settles a false none = settle_keeps h none rows

      go : (found : Option Rule)
          → option_map_or (λ a. positional_fault s.rules s.args_override_self a h) found (stray_fault s) ≡ []
          → P (to_positional s.rules found word w h).held.rows
      go None none = rows
      go (Some a) none = settles a (is_pending a h.pending && takes_several a) none

  step_keeps : (w : Walk) (word : Text) (h : Held) (step : Step) → step_fault s w.position h step ≡ [] → P h.rows
      → P (after_step s.rules word w h step).held.rows
  step_keeps w word h (next waiting) e rows = rows
  step_keeps w word h (trailing position) e rows = rows
  step_keeps w word h (subcommand name) e rows = rows
  step_keeps w word h value e rows = value_keeps w word h e rows

  turn_keeps : (names : Names) (w : Walk) (word : Text) → turn_fault s names w word ≡ [] → P w.held.rows
      → P (walked s.rules names w word).held.rows
  unfolding walked
  turn_keeps names w word e rows = go w.stopped e
    where
      go : (stopped : Option (Text × List Text))
          → cond (is_some stopped) [] (or_else (word_fault s names w.is_trailing w.waiting word w.held)
          (step_fault s w.position (word_met s.rules names w.is_trailing w.waiting w.position word w.held).0
          (word_met s.rules names w.is_trailing w.waiting w.position word w.held).1)) ≡ []
          → P (walked_from s.rules names stopped w word).held.rows
      go (Some p) none = rows
      go None none =
          step_keeps w word _ _ (no_next _ _ none) (word_keeps names w.is_trailing w.waiting w.position word w.held (no_first _ _ none)
          rows)

  pub walk_keeps : (names : Names) (words : List Text) (w : Walk) → walk_fault s names w words ≡ [] → P w.held.rows
      → P (fold (walked s.rules names) w words).held.rows
  unfolding walk_fault
  walk_keeps names [] w e rows = rows
  walk_keeps names (word ∷ rest) w e rows =
      walk_keeps names rest (walked s.rules names w word) (no_next _ _ e) (turn_keeps names w word (no_first _ _ e) rows)

  -- ---- a level of the parse: the walk, then what is still pending

  pub level_keeps : (names : Names) (words : List Text) (has_subcommand : Bool) (below : Kinds)
      → level_fault s names nothing_held words has_subcommand below ≡ [] → P []
      → P (settled s.rules (walk s.rules names nothing_held words).held).rows
  level_keeps names words has_subcommand below e rows =
      let walk_is = no_first _ _ e in
      let settle_is = no_first _ _ (no_next _ _ (no_next _ _ e)) in
      settle_keeps (walk s.rules names nothing_held words).held settle_is (walk_keeps names words (walk_from nothing_held) walk_is rows)

-- where a level has no fault, its last checks found none
pub checks_pass : (s : Shape) (names : Names) (words : List Text) (there : Bool) (below : Kinds)
    → level_fault s names nothing_held words there below ≡ []
    → check_fault s (finished s.rules (walk s.rules names nothing_held words).held) there ≡ []
checks_pass s names words there below e =
    let end = (walk s.rules names nothing_held words).held in
    let walks = walk_fault s names (walk_from nothing_held) words in
    let settles = settle_fault s.rules s.args_override_self end in
    let defaults = defaults_fault (settled s.rules end).rows s.rules in
    no_next defaults _ (no_next settles _ (no_next below _ (no_next walks _ e)))

missing_is_told : (help missing argument : Bool) → missing ≡ true → check_kinds help missing argument ≡ [] → ⊥
missing_is_told true missing argument is e = true≢false (ap is_faulty e)
missing_is_told false true argument is e = true≢false (ap is_faulty e)
missing_is_told false false argument is e = true≢false (sym is)

-- a required subcommand is there, where its absence is no fault
pub required_there : (s : Shape) (rows : List Row) (there : Bool) → s.subcommand_required ≡ true → check_fault s rows there ≡ []
    → there ≡ true
required_there s rows true required e = refl
required_there s rows false required e = absurd (missing_is_told
    (s.arg_required_else_help && not (list_any (λ r. explicit_source r.source) rows)) s.subcommand_required _ required e)

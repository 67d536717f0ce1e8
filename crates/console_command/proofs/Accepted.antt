-- Words in which clap finds no fault are a line, with numbers in their ranges.
use Rattle.std.proofs.Common.{◌≡◌, ◌∙◌, ◌||◌, ◌<◌, ◌≤◌, ℕ, lit<, Bool, true, false, true≢false, cond, refl, ap, subst, sym, unwrap_or, codes, List, [], ◌∷◌, Option, Some, None, Result, Ok, Err, is_some, pos}
use Rattle.std.specs.Prelude.{IsSomeAnd, option_and_then, option_map}
use Rattle.std.specs.Option.{option_map_or}
use Rattle.std.specs.Str.{bytes_eq}
use Rattle.std.proofs.lemmas.Slice.Eq.{bytes_eq-Decides}
use Rattle.clap.specs.ValueTests.{accepts}
use Rattle.clap.specs.Walk.{Row, Rule, Text, default_rows, finished, has_row, nothing_held, one_of, rows_after, settled, walk, walk_from, with_default, with_values, without}
use Rattle.clap.specs.Lexer.{without_minus}
use Rattle.clap.specs.Simple.{Shape, argument_words, built, built_leaf, entered, filled, help_rule, help_shape, inherited, marked_built, names_of, rows_at, with_leaf_noted}
use Rattle.clap.specs.Faults.{entered_fault, fault_of, level_fault}
use Rattle.clap.specs.declared.parser.matches.ValueSource.{ValueSource}
use Rattle.clap.specs.declared.parser.matches.ValueSource.TheVariants.{DefaultValue, CommandLine}
use Rattle.clap.specs.declared.builder.value_parser.Reading.{Reading}
use Rattle.clap.specs.declared.builder.value_parser.Reading.TheVariants as reading
use Rattle.clap.specs.declared.builder.value_parser.ValueParser.TheVariants as parser
use Rattle.clap.specs.declared.error.kind.ErrorKind.TheVariants as kind
use Rattle.console_command.specs.ClapCommand.{NameList, activations_rule, address_rule, app, cache_rule, check_app, hashing_rule, join_rule, option_rule, player_app, points_rule, report_size_rule, silo_app}
use Rattle.silo_address.specs.Silo.{Silo}
use Rattle.silo_address.specs.ReadSilo.{read_silo}
use Rattle.silo_address.specs.declared.silo.SiloError.{SiloError}
use Rattle.console_command.specs.CommandLine.{AreInRange, AreReadInRange, line_in, line_of, number_or_zero, options_in, process_of, silo_text_in, token_in}
use Rattle.console_command.specs.declared.command_line.Options.{Options}
use Rattle.console_command.specs.declared.command_line.Line.{Line}
use Rattle.console_command.specs.declared.line_error.ProcessMistake.{ProcessMistake}
use Rattle.console_command.proofs.Walks.{Every, Keeps, checks_pass, is_faulty, level_keeps, no_first, no_next, required_there}
use Rattle.console_command.proofs.Stops.{StopsElsewhere, walk_stops}
use Rattle.console_command.proofs.Numbers.{accepted_in_range}
use Rattle.console_command.proofs.NumberRows.{AreFine, IsAccepted, IsFineRow, fine_text, fine_with, fine_without, has_with, still_has}

-- a command that plays a script, as clap completes it
abbrev player_shape : Text → NameList → Shape
player_shape name names = built_leaf (inherited (with_leaf_noted (marked_built (app names).top)) (player_app name names).top)

-- and `check`
abbrev check_shape : NameList → Shape
check_shape names = built_leaf (inherited (with_leaf_noted (marked_built (app names).top)) check_app.top)

-- ---- options that have a number

-- its name, its range, and what stands for it where it is left out
record NumberOption : Type 0 where
  id : Text
  low : ℕ
  high : ℕ
  default : Text

abbrev points : NumberOption
points = record { id = codes "points"; low = 1; high = 128; default = codes "30" }

abbrev cache : NumberOption
cache = record { id = codes "cache"; low = 1; high = 65536; default = codes "1024" }

abbrev activations : NumberOption
activations = record { id = codes "activations"; low = 1; high = 16777216; default = codes "1000000" }

abbrev report_size : NumberOption
report_size = record { id = codes "report-size"; low = 1; high = 64; default = codes "64" }

abbrev numbers : List NumberOption
numbers = report_size ∷ activations ∷ cache ∷ points ∷ []

abbrev number_rule : NumberOption → Rule
number_rule o = option_rule o.id (parser.Signed (pos o.low) (pos o.high)) o.default

-- the matches of each of them are in its range
abbrev AreInTheirRanges : List NumberOption → List Row → Type 0
AreInTheirRanges os rows = Every (λ o. AreFine o.id o.low o.high rows) os

abbrev HaveInRange : List Row → Type 0
HaveInRange rows = AreInTheirRanges numbers rows

-- each has a match
abbrev HaveEach : List NumberOption → List Row → Type 0
HaveEach os rows = Every (λ o. has_row o.id rows ≡ true) os

-- a new row is in the range of each
abbrev IsFineOfEach : List NumberOption → Row → Type 0
IsFineOfEach os row = Every (λ o. IsFineRow o.id o.low o.high row) os

abbrev row_with : Text → Reading → ValueSource → List Text → Row
row_with name how s values = record { id = name; values = values; count = None; source = Some s; reading = how }

passed : (b : Bool) → cond b [] (kind.ValueValidation ∷ []) ≡ [] → b ≡ true
passed true e = refl
passed false e = absurd (true≢false (ap is_faulty e))

-- values for any option keep them in range, if they are for none of them or in its range
kept_with : (os : List NumberOption) (name : Text) (how : Reading) (s : ValueSource) (values : List Text)
    → IsFineOfEach os (row_with name how s values)
    → (rows : List Row) → AreInTheirRanges os rows → AreInTheirRanges os (with_values name how s values rows)
kept_with [] name how s values new rows all = tt
kept_with (o ∷ os) name how s values new rows all =
    (fine_with o.id o.low o.high name how s values new.0 rows all.0, kept_with os name how s values new.1 rows all.1)

kept_without : (os : List NumberOption) (name : Text) (rows : List Row) → AreInTheirRanges os rows → AreInTheirRanges os (without name rows)
kept_without [] name rows all = tt
kept_without (o ∷ os) name rows all = (fine_without o.id o.low o.high name rows all.0, kept_without os name rows all.1)

-- values for any option leave the matches of each
still_each : (os : List NumberOption) (name : Text) (how : Reading) (s : ValueSource) (values : List Text) (rows : List Row)
    → HaveEach os rows → HaveEach os (with_values name how s values rows)
still_each [] name how s values rows has = tt
still_each (o ∷ os) name how s values rows has =
    (still_has o.id name how s values rows has.0, still_each os name how s values rows has.1)

-- the name is another option's
abbrev other : {A : Type 0} → false ≡ true → A
other is = absurd (true≢false (sym is))

-- a use of an option that has a number keeps all in range
number_keep : (o : NumberOption)
    → ((v : Text) (vs : List Text) → IsAccepted o.low o.high v → IsFineOfEach numbers (row_with o.id reading.WithoutMinus CommandLine (v ∷ vs)))
    → Keeps false HaveInRange (filled (number_rule o))
number_keep o new [] rows e all = absurd (true≢false (ap is_faulty e))
number_keep o new (v ∷ vs) rows e all =
    let accepted : IsAccepted o.low o.high v = passed (accepts false (parser.Signed (pos o.low) (pos o.high)) v) (no_first _ _ (no_next _ _ (no_next _ _ e))) in
    kept_with numbers o.id reading.WithoutMinus CommandLine (v ∷ vs) (new v vs accepted) _ (kept_without numbers o.id rows all)

points_keep : Keeps false HaveInRange (filled points_rule)
points_keep = number_keep points (λ v vs accepted. (other, (other, (other, ((λ is. (refl, accepted)), tt)))))

cache_keep : Keeps false HaveInRange (filled cache_rule)
cache_keep = number_keep cache (λ v vs accepted. (other, (other, ((λ is. (refl, accepted)), (other, tt)))))

activations_keep : Keeps false HaveInRange (filled activations_rule)
activations_keep = number_keep activations (λ v vs accepted. (other, ((λ is. (refl, accepted)), (other, (other, tt)))))

report_size_keep : Keeps false HaveInRange (filled report_size_rule)
report_size_keep = number_keep report_size (λ v vs accepted. ((λ is. (refl, accepted)), (other, (other, (other, tt)))))

-- so does a use of any other option, and of what stands without a name
hashing_keep : (names : NameList) → Keeps false HaveInRange (filled (hashing_rule names))
hashing_keep names values rows e all =
    kept_with numbers (codes "hashing") reading.AsWritten CommandLine _ (other, (other, (other, (other, tt)))) _
    (kept_without numbers (codes "hashing") rows all)

help_keep : Keeps false HaveInRange (filled help_rule)
help_keep values rows e all = all

abbrev placed_address : Rule
placed_address = filled (record address_rule { index = Some 1 })

address_keep : Keeps false HaveInRange placed_address
address_keep values rows e all =
    kept_with numbers (codes "ADDR") reading.AsWritten CommandLine _ (other, (other, (other, (other, tt)))) _
    (kept_without numbers (codes "ADDR") rows all)

join_keep : Keeps false HaveInRange (filled join_rule)
join_keep values rows e all =
    kept_with numbers (codes "join") reading.AsWritten CommandLine _ (other, (other, (other, (other, tt)))) _
    (kept_without numbers (codes "join") rows all)

-- ---- defaults

-- an option that has a number has one from its default on
number_default : (o : NumberOption) (had : List NumberOption) → bytes_eq o.id o.id ≡ true
    → IsFineOfEach numbers (row_with o.id reading.WithoutMinus DefaultValue (o.default ∷ []))
    → (rows : List Row) → HaveInRange rows → HaveEach had rows
    → HaveInRange (with_default rows (filled (number_rule o))) × HaveEach (o ∷ had) (with_default rows (filled (number_rule o)))
number_default o had same new rows all has = go (has_row o.id rows) refl
  where
    given : List Row
    given = default_rows o.id reading.WithoutMinus (o.default ∷ []) rows

    go : (b : Bool) → has_row o.id rows ≡ b → HaveInRange (cond b rows given) × HaveEach (o ∷ had) (cond b rows given)
    go true is = (all, (is, has))
    go false is = (
      kept_with numbers o.id reading.WithoutMinus DefaultValue (o.default ∷ []) new rows all,
      (
        has_with o.id reading.WithoutMinus DefaultValue (o.default ∷ []) same rows,
        still_each had o.id reading.WithoutMinus DefaultValue (o.default ∷ []) rows has,
      ),
    )

hashing_default : (names : NameList) (rows : List Row) → HaveInRange rows → HaveInRange (with_default rows (filled (hashing_rule names)))
hashing_default names rows all = go (has_row (codes "hashing") rows)
  where
    go : (b : Bool) → HaveInRange (cond b rows (default_rows (codes "hashing") reading.AsWritten (codes "sha256" ∷ []) rows))
    go true = all
    go false =
        kept_with numbers (codes "hashing") reading.AsWritten DefaultValue (codes "sha256" ∷ []) (other, (other, (other, (other, tt)))) rows all

-- an option without a default leaves the matches
no_default : (id : Text) (rows : List Row) → rows ≡ cond (has_row id rows) rows rows
no_default id rows = go (has_row id rows)
  where
    go : (b : Bool) → rows ≡ cond b rows rows
    go true = refl
    go false = refl

-- the matches once each option has its default
abbrev defaulted : NameList → List Row → List Row
defaulted names rows =
    with_default (with_default (with_default (with_default (with_default (with_default rows (filled (hashing_rule names))) (filled points_rule))
    (filled cache_rule)) (filled activations_rule)) (filled report_size_rule)) (filled help_rule)

options_defaulted : (names : NameList) (rows : List Row) → HaveInRange rows
    → HaveInRange (defaulted names rows) × HaveEach numbers (defaulted names rows)
options_defaulted names rows all =
    let hashed = with_default rows (filled (hashing_rule names)) in
    let pointed = with_default hashed (filled points_rule) in
    let cached = with_default pointed (filled cache_rule) in
    let held = with_default cached (filled activations_rule) in
    let a = number_default points [] refl (other, (other, (other, ((λ same. (refl, refl)), tt)))) hashed (hashing_default names rows all) tt in
    let b = number_default cache (points ∷ []) refl (other, (other, ((λ same. (refl, refl)), (other, tt)))) pointed a.0 a.1 in
    let c = number_default activations (cache ∷ points ∷ []) refl (other, ((λ same. (refl, refl)), (other, (other, tt)))) cached b.0 b.1 in
    let d = number_default report_size (activations ∷ cache ∷ points ∷ []) refl ((λ same. (refl, refl)), (other, (other, (other, tt)))) held c.0 c.1 in
    let same = no_default (codes "help") (with_default held (filled report_size_rule)) in
    (subst HaveInRange same d.0, subst (HaveEach numbers) same d.1)

-- what the getter reads of such a number is in its range
in_range : (o : NumberOption) (found : Option Text) → o.high < 4294967296
    → (text : Text) × (found ≡ Some (without_minus text)) × IsAccepted o.low o.high text
    → (o.low ≤ option_map_or number_or_zero found 0) × (option_map_or number_or_zero found 0 ≤ o.high)
in_range o found fits text =
    subst (λ f. (o.low ≤ option_map_or number_or_zero f 0) × (option_map_or number_or_zero f 0 ≤ o.high)) (sym text.1)
    (accepted_in_range o.low o.high text.0 fits text.2)

-- so what the options choose is in range
options_in_range : (rows : List Row) → HaveInRange rows × HaveEach numbers rows → AreInRange (options_in rows)
options_in_range rows given =
    let size = in_range report_size (one_of (codes "report-size") rows) (lit< tt) (fine_text (codes "report-size") 1 64 rows given.0.0 given.1.0) in
    let held = in_range activations (one_of (codes "activations") rows) (lit< tt) (fine_text (codes "activations") 1 16777216 rows given.0.1.0 given.1.1.0) in
    let hints = in_range cache (one_of (codes "cache") rows) (lit< tt) (fine_text (codes "cache") 1 65536 rows given.0.1.1.0 given.1.1.1.0) in
    let dots = in_range points (one_of (codes "points") rows) (lit< tt) (fine_text (codes "points") 1 128 rows given.0.1.1.1.0 given.1.1.1.1.0) in
    record {
      points_above = dots.0;
      points_within = dots.1;
      cache_above = hints.0;
      cache_within = hints.1;
      activations_above = held.0;
      activations_within = held.1;
      report_above = size.0;
      report_within = size.1;
    }

-- ---- a command that plays a script

player_keeps : (name : Text) (names : NameList) → Every (Keeps false HaveInRange) (player_shape name names).rules
player_keeps name names = (hashing_keep names, (points_keep, (cache_keep, (activations_keep, (report_size_keep, (help_keep, tt))))))

player_options : (name : Text) (names : NameList) (words : List Text)
    → level_fault (player_shape name names) [] nothing_held words false [] ≡ []
    → AreInRange (options_in (rows_after (player_shape name names).rules [] words))
player_options name names words e =
    let walked = (settled (player_shape name names).rules (walk (player_shape name names).rules [] nothing_held words).held).rows in
    let kept = level_keeps (player_shape name names) HaveInRange (player_keeps name names) [] words false [] e (tt, (tt, (tt, (tt, tt)))) in
    options_in_range (defaulted names walked) (options_defaulted names walked kept)

-- ---- the process of a silo

-- the command, as clap completes it
abbrev silo_shape : NameList → Shape
silo_shape names = built_leaf (inherited (with_leaf_noted (marked_built (app names).top)) (silo_app names).top)

silo_keeps : (names : NameList) → Every (Keeps false HaveInRange) (silo_shape names).rules
silo_keeps names =
    (address_keep, (join_keep, (hashing_keep names, (points_keep, (cache_keep, (activations_keep, (report_size_keep, (help_keep, tt))))))))

silo_options : (names : NameList) (words : List Text) → level_fault (silo_shape names) [] nothing_held words false [] ≡ []
    → AreInRange (options_in (rows_after (silo_shape names).rules [] words))
silo_options names words e =
    let walked = (settled (silo_shape names).rules (walk (silo_shape names).rules [] nothing_held words).held).rows in
    let kept = level_keeps (silo_shape names) HaveInRange (silo_keeps names) [] words false [] e (tt, (tt, (tt, (tt, tt)))) in
    let addressed = with_default walked placed_address in
    let told = with_default addressed (filled join_rule) in
    let still : HaveInRange told = subst HaveInRange (no_default (codes "join") addressed) (subst HaveInRange (no_default (codes "ADDR") walked) kept) in
    options_in_range (defaulted names told) (options_defaulted names told still)

-- whatever names the silo
process_in_range : (read : Result Silo SiloError) (token : Result (Option (List ℕ)) ProcessMistake) (options : Options) → AreInRange options
    → AreReadInRange (process_of read token options)
process_in_range (Ok silo) (Ok token) options fine = fine
process_in_range (Ok silo) (Err mistake) options fine = tt
process_in_range (Err error) token options fine = tt

-- ---- the subcommand

-- where clap finds no fault and enters a subcommand, that is `play`, `threads`, `check` or `silo`
command_entered : (names : NameList) (stop : Option (Text × List Text)) → StopsElsewhere stop → entered_fault (built (app names)) stop ≡ []
    → is_some (entered (built (app names)) stop) ≡ true
    → IsSomeAnd (option_and_then line_in (entered (built (app names)) stop)) AreReadInRange
command_entered names None elsewhere e enters = absurd (true≢false (sym enters))
command_entered names (Some p) elsewhere e enters =
    go (bytes_eq (codes "play") p.0) (bytes_eq (codes "threads") p.0) (bytes_eq (codes "silo") p.0) (bytes_eq (codes "check") p.0)
    (bytes_eq (codes "help") p.0) refl e enters
  where
    shape : (a b c d h : Bool) → Option Shape
    shape a b c d h =
        cond (a || false) (Some (player_shape (codes "play") names)) (cond (b || false) (Some (player_shape (codes "threads") names))
        (cond (c || false) (Some (silo_shape names)) (cond (d || false) (Some (check_shape names))
        (cond (h || false) (Some (built_leaf help_shape)) None))))

    go : (a b c d h : Bool) → bytes_eq (codes "help") p.0 ≡ h
        → option_map_or (λ s. level_fault s [] nothing_held p.1 false []) (shape a b c d h) [] ≡ []
        → is_some (option_map (λ s. rows_at s p.1) (shape a b c d h)) ≡ true
        → IsSomeAnd (option_and_then line_in (option_map (λ s. rows_at s p.1) (shape a b c d h))) AreReadInRange
    go true b c d h help none there = player_options (codes "play") names p.1 none
    go false true c d h help none there = player_options (codes "threads") names p.1 none
    go false false false true h help none there = tt
    go false false true d h help none there =
        let rows = rows_after (silo_shape names).rules [] p.1 in
        process_in_range (read_silo (silo_text_in rows)) (token_in rows) _ (silo_options names p.1 none)
    go false false false false true help none there =
        let named : codes "help" ≡ p.0 = (bytes_eq-Decides (codes "help") p.0).0 help in
        let is_help : bytes_eq p.0 (codes "help") ≡ true = subst (λ name. bytes_eq name (codes "help") ≡ true) named refl in
        absurd (true≢false (sym is_help ∙ elsewhere))
    go false false false false false help none there = absurd (true≢false (sym there))

-- words in which clap finds no fault are a line, with numbers in their ranges, or name no process
pub accepted : (names : NameList) (words : List Text) → fault_of (app names) words ≡ []
    → IsSomeAnd (line_of (app names) words) AreReadInRange
accepted names words e =
    let command = built (app names) in
    let given = argument_words (app names) words in
    let stop = (walk command.top.rules (names_of command) nothing_held given).stopped in
    command_entered names stop (walk_stops command.top refl (names_of command) given (walk_from nothing_held) (no_first _ _ e) tt)
    (no_first _ _ (no_next _ _ e)) (required_there command.top
    (finished command.top.rules (walk command.top.rules (names_of command) nothing_held given).held)
    (is_some (entered command stop)) refl (checks_pass command.top (names_of command) given (is_some (entered command stop))
    (entered_fault command stop) e))

-- the line of such words has them
pub range_of_line : (o : Option (Result Line ProcessMistake)) (read : Result Line ProcessMistake) → o ≡ Some read
    → IsSomeAnd o AreReadInRange → AreReadInRange read
range_of_line None read is there = absurd there
range_of_line (Some other) read is there = subst AreReadInRange (ap (λ o. unwrap_or o other) is) there

-- so they are not without a line
pub never_none : (o : Option (Result Line ProcessMistake)) → o ≡ None → IsSomeAnd o AreReadInRange → ⊥
never_none None is there = there
never_none (Some read) is there = true≢false (ap is_some is)

-- A table with what stands in a map under the hashes of a range, in the words of the rule.
use Rattle.std.proofs.Common.{arith, ◌≡◌, sym, ap, ◌∙◌, ℕ, ◌+◌, ◌-◌, ◌<◌, ◌≤◌, []}
use Rattle.std.specs.Prelude.{filter, not, Result, Ok, Err, IfOk}
use Rattle.membership_view.specs.View.{ViewValue}
use Rattle.ring_range.specs.Range.{Range, IsRange, circle, holds}
use Rattle.hash_ring.specs.declared.Hashing.{Hashing}
use Rattle.hash_ring.specs.Hash.{hash_grain}
use Rattle.directory_rules.specs.Members.{is_dead_in}
use Rattle.directory_rules.specs.Sight.{is_kept}
use Rattle.directory_rules.specs.State.{Table}
use Rattle.directory_rules.specs.Table.{entries_of}
use Rattle.grain_table.specs.Hashed.{AreHashed, Hashed, by_grain}
use Rattle.grain_table.specs.Stretch.{is_between}
use Rattle.grain_table.specs.Table.{TableValue}
use Rattle.grain_table.proofs.ByGrain.{IsTable, by_grain_is_table}
use Rattle.grain_table.proofs.Filters.{entries_passed, kept_of, passed_are_hashed, passed_by_grain, passed_is_table}
use Rattle.grain_table.proofs.Put.{entries_under, put_by_hash, put_in, put_in_nothing}
use Rattle.grain_table.proofs.Ranges.{passed, one_stretch, two_stretches}

-- the table with what stands there
abbrev pub with_under : TableValue → Hashed → TableValue
with_under table es = record table { entries = put_in table.entries (entries_under es) }

pub if_ok : {T E : Type 0} {P Q : T → Type 0} (r : Result T E) → IfOk r P → ((x : T) → P x → Q x) → IfOk r Q
if_ok (Ok x) is then = then x is
if_ok (Err e) is then = tt

pub put_one : {E : Type 0} (range : Range) → IsRange range → (start begin size : ℕ) → start ≡ range.start → begin ≡ range.start
    → size ≡ range.size → begin + size ≤ circle → (table : TableValue) (es : Hashed)
    → AreHashed table.hashing es → (r : Result TableValue E)
    → IfOk r (λ new. new ≡ with_under table (passed (is_between start (begin + size)) es))
    → IfOk r (λ new. new ≡ with_under table (passed (holds range) es))
put_one range is start begin size starts begins sizes fits table es are r given =
    if_ok r given
    (λ new put. put ∙ (λ i. with_under table (passed (is_between (starts i) (begins i + sizes i)) es))
    ∙ ap (λ l. with_under table l) (one_stretch table.hashing range es are is (omega (arith, begins, sizes, fits))))

pub put_two : {E : Type 0} (range : Range) → IsRange range → (start begin size : ℕ) → start ≡ range.start → begin ≡ range.start
    → size ≡ range.size → circle < begin + size → (table : TableValue) (es : Hashed)
    → AreHashed table.hashing es → (low : TableValue) → low ≡ with_under table (passed (is_between 0 (begin + size - circle)) es)
    → (r : Result TableValue E)
    → IfOk r (λ new. new ≡ with_under low (passed (is_between start circle) es))
    → IfOk r (λ new. new ≡ with_under table (passed (holds range) es))
put_two range is start begin size starts begins sizes over table es are low lower r given =
    if_ok r given
    (λ new put. put ∙ ap (λ t. with_under t (passed (is_between start circle) es)) lower
    ∙ ap (λ s. with_under (with_under table (passed (is_between 0 (begin + size - circle)) es)) (passed (is_between s circle) es)) starts
    ∙ ap (λ l. record table { entries = l }) (two_stretches range (begin + size - circle) is (omega (arith, begins, sizes, over))
    table.hashing table.entries es are))

-- in the rule's words
pub put_within : (hashing : Hashing) (range : Range) (table : Table) (es : Hashed) → IsTable table → AreHashed hashing es
    → put_in table (entries_under (passed (holds range) es)) ≡ put_in table
    (filter (λ e. holds range (hash_grain hashing e.grain)) (entries_of (by_grain es)))
put_within hashing range table es is are =
    put_by_hash hashing table (passed (holds range) es) is (passed_are_hashed hashing (λ e. holds range e.0.hash) es are)
    ∙ ap (λ t. put_in table (entries_of t)) (passed_by_grain hashing (holds range) es are)
    ∙ ap (put_in table) (entries_passed (λ g. holds range (hash_grain hashing g)) (by_grain es) (by_grain_is_table es))

-- those that are kept
pub kept_from : (hashing : Hashing) (view : ViewValue) (range : Range) (table : Table) → IsTable table
    → filter (λ e. not (is_dead_in view e.1.activation.silo))
    (put_in [] (filter (λ e. holds range (hash_grain hashing e.grain)) (entries_of table))) ≡ filter (λ e. is_kept hashing view range e.1)
    table
kept_from hashing view range table is =
    ap (λ t. filter (λ e. not (is_dead_in view e.1.activation.silo)) t)
    (ap (put_in []) (sym (entries_passed (λ g. holds range (hash_grain hashing g)) table is))
    ∙ put_in_nothing (filter (λ e. holds range (hash_grain hashing e.0)) table)
    (passed_is_table (λ e. holds range (hash_grain hashing e.0)) table is))
    ∙ kept_of hashing view range table is

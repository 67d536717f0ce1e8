-- Rows shown one after the other.
use Rattle.std.proofs.Common.{◌≡◌, ℕ, ◌+◌, ◌<◌, ◌≤◌, ◌++◌, List, [], ◌∷◌, Option, Some, None, length, drop, get_or, drop-cons, add-one, false, map, subst, ap, refl, sym, ◌∙◌, append_assoc, append-nil}
use Rattle.std.specs.Prelude.{filter, flat_map, ◌==◌}
use Rattle.std.specs.List.{cons_option}
use Rattle.std.specs.Option.{option_map}
use Rattle.std.proofs.lemmas.List.{drop_all}
use Rattle.std.proofs.lemmas.List.Concat.{flat_map-append}
use Rattle.silo_address.specs.Silo.{Silo}
use Rattle.membership_view.specs.declared.row.Row.{Row}
use Rattle.membership_view.specs.declared.status.Status.{Status}
use Rattle.membership_view.specs.Row.{status_in}
use Rattle.membership_view.specs.Views.{rows_in}
use Rattle.ring_range.specs.Range.{Range}
use Rattle.hash_ring.specs.declared.point.Point.{Point}
use Rattle.hash_ring.specs.Ranges.{owned_range, owned_ranges, owns_its_place}
use Rattle.directory_rules.specs.State.{World}
use Rattle.script_lines.specs.Printed.{printed}
use Rattle.script_rules.specs.Show.{range_line, range_lines}
use Rattle.texts.specs.Printed.{text_of_lines}
use Rattle.texts.specs.Words.{line_feed}

-- what is shown now, and the lines of the rows that are left, are those of all rows behind the start
abbrev pub Shows : {X : Type 0} → (X → List (List ℕ)) → (start : List ℕ) → (all : List X) → (now : List ℕ) → (rest : List X) → Type 0
Shows lines start all now rest = now ++ text_of_lines (flat_map lines rest) ≡ start ++ text_of_lines (flat_map lines all)

-- one row more
pub shows_more : {X : Type 0} (lines : X → List (List ℕ)) (start : List ℕ) (all : List X) (now next : List ℕ) (row : X) (rest left : List X)
    → left ≡ row ∷ rest
    → next ≡ now ++ text_of_lines (lines row) → Shows lines start all now left → Shows lines start all next rest
shows_more lines start all now next row rest left is shown shows =
    ap (λ (t : List ℕ). t ++ text_of_lines (flat_map lines rest)) shown
    ∙ (append_assoc now (text_of_lines (lines row)) (text_of_lines (flat_map lines rest))
    ∙ (ap (λ (t : List ℕ). now ++ t) (sym (flat_map-append (λ (line : List ℕ). line ++ line_feed ∷ []) (lines row) (flat_map lines rest)))
    ∙ (ap (λ rows. now ++ text_of_lines (flat_map lines rows)) (sym is) ∙ shows)))

-- all are shown
pub shows_all : {X : Type 0} (lines : X → List (List ℕ)) (start : List ℕ) (all : List X) (now : List ℕ) (rest : List X) → rest ≡ []
    → Shows lines start all now rest → now ≡ start ++ text_of_lines (flat_map lines all)
shows_all lines start all now rest none shows =
    sym (append-nil now) ∙ (ap (λ rows. now ++ text_of_lines (flat_map lines rows)) (sym none) ∙ shows)

-- a line a row
pub flat_map_lines : {X : Type 0} (line : X → List ℕ) (rows : List X) → flat_map (λ e. line e ∷ []) rows ≡ map line rows
flat_map_lines line [] = refl
flat_map_lines line (row ∷ rows) = ap (λ ls. line row ∷ ls) (flat_map_lines line rows)

-- the rows of a slice, from an index on
pub row_left : {X : Type 0} (rows : List X) (index : ℕ) (row : X) → index < length rows → row ≡ get_or rows index row
    → drop index rows ≡ row ∷ drop (index + 1) rows
row_left rows index row within is =
    drop-cons rows index row within
    ∙ (ap (λ (n : ℕ). get_or rows index row ∷ drop n rows) (sym (add-one index)) ∙ ap (λ r. r ∷ drop (index + 1) rows) (sym is))

pub shows_from_start : {X : Type 0} (lines : X → List (List ℕ)) (start : List ℕ) (all rows : List X) → rows ≡ all
    → Shows lines start all start rows
shows_from_start lines start all rows are = ap (λ rows. start ++ text_of_lines (flat_map lines rows)) are

pub shows_next : {X : Type 0} (lines : X → List (List ℕ)) (start : List ℕ) (all rows : List X) (now next : List ℕ) (index : ℕ) (row : X)
    → index < length rows
    → row ≡ get_or rows index row → next ≡ now ++ text_of_lines (lines row) → Shows lines start all now (drop index rows)
    → Shows lines start all next (drop (index + 1) rows)
shows_next lines start all rows now next index row within is shown shows =
    shows_more lines start all now next row (drop (index + 1) rows) (drop index rows) (row_left rows index row within is) shown shows

pub shows_next_line : {X : Type 0} (line : X → List ℕ) (start : List ℕ) (all rows : List X) (now next : List ℕ) (index : ℕ) (row : X)
    → index < length rows
    → row ≡ get_or rows index row → next ≡ now ++ printed (line row) → Shows (λ e. line e ∷ []) start all now (drop index rows)
    → Shows (λ e. line e ∷ []) start all next (drop (index + 1) rows)
shows_next_line line start all rows now next index row within is written shows =
    shows_next (λ e. line e ∷ []) start all rows now next index row within is
    (written ∙ ap (λ (t : List ℕ). now ++ t) (sym (append-nil (printed (line row))))) shows

pub shows_whole : {X : Type 0} (lines : X → List (List ℕ)) (start : List ℕ) (all rows : List X) (now : List ℕ) (index : ℕ)
    → length rows ≤ index
    → Shows lines start all now (drop index rows) → now ≡ start ++ text_of_lines (flat_map lines all)
shows_whole lines start all rows now index past shows = shows_all lines start all now (drop index rows) (drop_all index rows past) shows

pub shows_each : {X : Type 0} (line : X → List ℕ) (start : List ℕ) (rows : List X) (now : List ℕ) (index : ℕ) → length rows ≤ index
    → Shows (λ e. line e ∷ []) start rows now (drop index rows) → now ≡ start ++ text_of_lines (map line rows)
shows_each line start rows now index past shows =
    shows_whole (λ e. line e ∷ []) start rows rows now index past shows
    ∙ ap (λ lines. start ++ text_of_lines lines) (flat_map_lines line rows)

map_twice : {X Y : Type 0} (f : Y → List ℕ) (g : X → Y) (xs : List X) → map f (map g xs) ≡ map (λ x. f (g x)) xs
map_twice f g [] = refl
map_twice f g (x ∷ xs) = ap (λ ls. f (g x) ∷ ls) (map_twice f g xs)

of_some_points : (world : World) (points : List Point) → (length points == 0) ≡ false
    → map (λ e. range_line world e.0 e.1) (owned_ranges points) ≡ range_lines world points
of_some_points world [] none = absurd (cc)
of_some_points world (point ∷ points) some =
    map_twice (λ (e : Range × Silo). range_line world e.0 e.1) (owned_range (point ∷ points))
    (filter (owns_its_place (point ∷ points)) (point ∷ points))

-- the lines of the ranges of a ring that has a point
pub ranges_are : (world : World) (points ring current : List Point) (slice ranges : List (Range × Silo)) → points ≡ ring
    → (length points == 0) ≡ false
    → ring ≡ current → slice ≡ ranges → ranges ≡ owned_ranges ring → map (λ e. range_line world e.0 e.1) slice ≡ range_lines world current
ranges_are world points ring current slice ranges points_are some is slice_is owned =
    ap (map (λ (e : Range × Silo). range_line world e.0 e.1)) (slice_is ∙ (owned ∙ ap owned_ranges is))
    ∙ of_some_points world current (subst (λ (ps : List Point). (length ps == 0) ≡ false) (points_are ∙ is) some)

-- ---- the silos that are known, row by row
module _ (version : ℕ) (e : Silo × Row) (rest rows : List (Silo × Row)) (taken : rows ≡ e ∷ rest) where
  known_by : (o : Option Status) → status_in version e.1 ≡ o
      → rows_in version rows ≡ cons_option (option_map (λ status. (e.0, status)) o) (rows_in version rest)
  known_by o is =
      ap (rows_in version) taken
      ∙ ap (λ (o : Option Status). cons_option (option_map (λ status. (e.0, status)) o) (rows_in version rest)) is

  -- one that had joined by the version
  pub known_next : (status : Status) → status_in version e.1 ≡ Some status → rows_in version rows ≡ (e.0, status) ∷ rows_in version rest
  known_next status is = known_by (Some status) is

  -- one that hadn't
  pub known_later : status_in version e.1 ≡ None → rows_in version rows ≡ rows_in version rest
  known_later is = known_by None is

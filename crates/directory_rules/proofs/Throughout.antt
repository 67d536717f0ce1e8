-- A range that was settled has each of its hashes in a settled piece.
use Rattle.std.proofs.Common.{arith, ◌≡◌, refl, sym, ap, ◌∙◌, ℕ, List, [], ◌∷◌, ◌+◌, ◌<◌}
use Rattle.std.specs.Prelude.{true, cond, ◌&&◌, ◌||◌, All, count_by}
use Rattle.std.specs.List.{list_all}
use Rattle.std.specs.Map.{keys_of}
use Rattle.std.proofs.lemmas.List.Elements.{All-head, All-tail}
use Rattle.std.proofs.lemmas.List.Sums.{sum_by-cons}
use Rattle.std.proofs.lemmas.Bool.{or_right, and_from}
use Rattle.texts.proofs.Decided.{both}
use Rattle.ring_range.specs.Range.{circle, Range, IsRange, EachHash, holds, within}
use Rattle.ring_range.specs.Cut.{cut_parts}
use Rattle.ring_range.proofs.Circle.{Decides-holds, Decides-within}
use Rattle.ring_range.proofs.Cuts.{is_cut, ranges}
use Rattle.directory_rules.specs.State.{Piece}
use Rattle.directory_rules.specs.Sight.{is_settled, is_in_settled, was_settled}
use Rattle.directory_rules.specs.Laws.{lies_settled}
use Rattle.directory_rules.proofs.Cases.{on_bool}

-- what lies within a range that holds no other hashes
held_within : (inner outer : Range) (hash : ℕ) → IsRange inner → IsRange outer → hash < circle → within inner outer ≡ true
    → holds inner hash ≡ true → holds outer hash ≡ true
held_within inner outer hash in_ok out_ok below inside held =
    (Decides-holds outer hash out_ok below).1 ((Decides-within inner outer in_ok out_ok).0 inside hash
    ((Decides-holds inner hash in_ok below).0 held))

-- one settled piece has the part, so it has the hash
in_one : (pieces : List (ℕ × Piece)) (part : Range) (hash : ℕ) → IsRange part → All (λ e. IsRange e.1.range) pieces → hash < circle
    → holds part hash ≡ true → is_in_settled pieces part ≡ true → lies_settled hash pieces ≡ true
in_one [] part hash ok oks below held inside = inside
in_one (e ∷ es) part hash ok oks below held inside =
    on_bool (λ b. (is_settled e.1.state && within part e.1.range) ≡ b → (b || is_in_settled es part) ≡ true
    → ((is_settled e.1.state && holds e.1.range hash) || lies_settled hash es) ≡ true)
    (is_settled e.1.state && within part e.1.range)
    (λ t is any. let here = both (is_settled e.1.state) (within part e.1.range) is in
    ap (λ b. b || lies_settled hash es) (and_from (is_settled e.1.state) (holds e.1.range hash) here.0
    (held_within part e.1.range hash ok (All-head (λ x. IsRange x.1.range) e es oks) below here.1 held)))
    (λ f is any. or_right (is_settled e.1.state && holds e.1.range hash) (lies_settled hash es)
    (in_one es part hash ok (All-tail (λ x. IsRange x.1.range) e es oks) below held any))
    refl inside

-- some part holds the hash
in_parts : (pieces : List (ℕ × Piece)) (parts : List Range) (hash : ℕ) → All IsRange parts → All (λ e. IsRange e.1.range) pieces
    → hash < circle → list_all (is_in_settled pieces) parts ≡ true
    → count_by (λ part. holds part hash) parts ≡ 1 → lies_settled hash pieces ≡ true
in_parts pieces [] hash oks ranged below all one = absurd (omega (one, arith))
in_parts pieces (part ∷ parts) hash oks ranged below all one =
    let split = both (is_in_settled pieces part) (list_all (is_in_settled pieces) parts) all in
    on_bool (λ b. holds part hash ≡ b → cond b 1 0 + count_by (λ part. holds part hash) parts ≡ 1 → lies_settled hash pieces ≡ true)
    (holds part hash)
    (λ t held count. in_one pieces part hash (All-head IsRange part parts oks) ranged below held split.0)
    (λ f held count. in_parts pieces parts hash (All-tail IsRange part parts oks) ranged below split.1 (omega (count, arith)))
    refl (sym (sum_by-cons (λ (part : Range). cond (holds part hash) 1 0) part parts) ∙ one)

pub settled_throughout : (pieces : List (ℕ × Piece)) (range : Range) → IsRange range → All (λ e. IsRange e.1.range) pieces
    → All (λ start. start < circle) (keys_of pieces) → was_settled pieces range ≡ true
    → EachHash (λ hash. holds range hash ≡ true → lies_settled hash pieces ≡ true)
settled_throughout pieces range ok ranged starts was hash below held =
    in_parts pieces (cut_parts range (keys_of pieces)) hash (ranges range (keys_of pieces) ok) ranged below was
    ((is_cut range (keys_of pieces) ok starts).once hash below ∙ ap (λ b. cond b 1 0) held)

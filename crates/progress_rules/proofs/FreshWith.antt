-- What is summed over fresh letters, after one was delivered and others were sent.
use Rattle.std.proofs.Common.{arith, ◌≡◌, refl, ap, ◌∙◌, ℕ, ◌+◌, List, [], ◌∷◌}
use Rattle.std.specs.Prelude.{true, false, cond, All, map, sum_by, Some}
use Rattle.std.specs.List.{enumerate_from}
use Rattle.std.specs.Ordering.{nat_cmp}
use Rattle.std.specs.Map.{lookup, values_of}
use Rattle.std.specs.BTreeMap.{is_at}
use Rattle.std.proofs.lemmas.List.{map-append}
use Rattle.std.proofs.lemmas.List.Elements.{All-head, All-tail}
use Rattle.std.proofs.lemmas.List.Sums.{sum_by-cons, sum_by-append}
use Rattle.std.proofs.lemmas.Map.Entries.{sum_by-set_value}
use Rattle.directory_rules.specs.State.{Letter, Body, World, Posted}
use Rattle.directory_rules.specs.Mail.{fresh_letter, numbered, with_sent, with_delivered}
use Rattle.progress_rules.specs.Room.{fresh_with}

module _ (count : Body → ℕ) where
  abbrev one : Posted → ℕ
  one posted = cond posted.fresh (count posted.letter.body) 0

  abbrev pub sent_with : List Letter → ℕ
  sent_with letters = sum_by (λ letter. count letter.body) letters

  numbered_with : (from : ℕ) (letters : List Letter)
      → sum_by one (values_of (map (λ e. (e.0, fresh_letter e.1)) (enumerate_from from letters))) ≡ sent_with letters
  numbered_with from [] = refl
  numbered_with from (letter ∷ letters) =
      let rest = numbered_with (from + 1) letters in
      let here = sum_by-cons one (fresh_letter letter) (values_of (map (λ e. (e.0, fresh_letter e.1)) (enumerate_from (from + 1) letters))) in
      let its = sum_by-cons (λ (l : Letter). count l.body) letter letters in
      omega (arith, rest, here, its)

  -- letters that are sent are fresh
  pub fresh_after : (world : World) (letters : List Letter)
      → fresh_with count (with_sent world letters) ≡ fresh_with count world + sent_with letters
  fresh_after world letters =
      ap (sum_by one) (map-append (λ (e : ℕ × Posted). e.1) world.mail (numbered world letters))
      ∙ sum_by-append one (values_of world.mail) (values_of (numbered world letters))
      ∙ ap (λ n. fresh_with count world + n) (numbered_with (world.sent + 1) letters)

  -- and one that is delivered isn't any more
  pub fresh_before : (world : World) (number : ℕ) (posted : Posted) → lookup (is_at (nat_cmp number)) world.mail ≡ Some posted
      → posted.fresh ≡ true
      → fresh_with count (with_delivered world number posted.letter) + count posted.letter.body ≡ fresh_with count world
  fresh_before world number posted found fresh =
      let set = sum_by-set_value one (is_at (nat_cmp number)) world.mail posted (record { letter = posted.letter; fresh = false }) found in
      let was = ap (λ b. cond {A = ℕ} b (count posted.letter.body) 0) fresh in
      omega (arith, set, was)

  -- letters of which each counts nothing count nothing together
  pub none_sent : (letters : List Letter) → All (λ letter. count letter.body ≡ 0) letters → sent_with letters ≡ 0
  none_sent [] all = refl
  none_sent (letter ∷ letters) all =
      let here = All-head (λ (l : Letter). count l.body ≡ 0) letter letters all in
      let rest = none_sent letters (All-tail (λ (l : Letter). count l.body ≡ 0) letter letters all) in
      let its = sum_by-cons (λ (l : Letter). count l.body) letter letters in
      omega (arith, here, rest, its)

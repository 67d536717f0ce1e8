-- As many deliveries as letters may ever be sent suffice: each leaves one fresh letter less, or one letter less that may still be sent.
use Rattle.std.proofs.Common.{arith, ◌≡◌, refl, ap, ℕ}
use Rattle.std.specs.Prelude.{true, false, is_some, option_map, Option, Some}
use Rattle.std.proofs.lemmas.List.Sums.{count_by-le-length}
use Rattle.texts.proofs.Decided.{both}
use Rattle.directory_rules.specs.State.{Node, Posted, World}
use Rattle.directory_rules.specs.Mail.{letter_of}
use Rattle.directory_rules.specs.Laws.{IsMail}
use Rattle.directory_rules.specs.Happens.{node_of, is_deliverable}
use Rattle.directory_rules.proofs.Kept.{On}
use Rattle.directory_rules.proofs.FreshLetters.{AtMost, IsNext, find_in, fresh_delivered, found_next}
use Rattle.progress_rules.proofs.Answered.{some_of}
use Rattle.progress_rules.proofs.TakesPage.{found_test}

-- ---- at first, and when none is left
pub at_most_letters : (world : World) → IsMail world.settings world.mail world.sent → On (AtMost world.settings.letters) world
at_most_letters world is =
    let fresh = count_by-le-length (λ (e : ℕ × Posted). e.1.fresh) world.mail in
    let many = is.many in
    let limited = is.limited in
    (is, omega (arith, fresh, many, limited))

pub none_left : (world : World) (e : ℕ × Posted) → On (AtMost 0) world → find_in world world.mail ≡ Some e → ⊥
none_left world e at_most found =
    let next = found_next world 0 world.sent world.mail e at_most.0.rising found in
    let fewer = fresh_delivered e.0 world.mail e.1 (record { letter = e.1.letter; fresh = false }) next.found next.fresh refl in
    let none = at_most.1 in
    omega (arith, fewer, none)

-- ---- the letter that comes next is there, and so is its receiver
pub record IsNextLetter (world : World) (e : ℕ × Posted) : Type 0 where
  pub next : IsNext world world.mail e
  pub found : letter_of world e.0 ≡ Some e.1.letter
  pub node : Node
  pub its : node_of world e.1.letter.to ≡ Some node

pub next_letter : (world : World) (e : ℕ × Posted) → IsMail world.settings world.mail world.sent → find_in world world.mail ≡ Some e
    → IsNextLetter world e
next_letter world e is found =
    let next = found_next world 0 world.sent world.mail e is.rising found in
    let deliverable : is_deliverable world e.1 ≡ true = found_test (λ (x : ℕ × Posted). is_deliverable world x.1) world.mail e found in
    let to = some_of (node_of world e.1.letter.to) (both e.1.fresh (is_some (node_of world e.1.letter.to)) deliverable).1 in
    record { next = next; found = ap (λ (o : Option Posted). option_map (λ p. p.letter) o) next.found; node = to.0; its = to.1 }

-- Fresh letters: each delivery of the least deliverable letter leaves one fresh letter less, or one letter less that may still be sent.
use Rattle.std.proofs.Common.{arith, ◌≡◌, refl, sym, ap, subst, ◌∙◌, ℕ, suc, List, [], ◌∷◌, ◌++◌, length, ◌+◌, ◌-◌, ◌<◌, ◌≤◌}
use Rattle.std.specs.Prelude.{true, false, cond, map, find, count_by, is_some, Option, Some, None, Result, Ok, Err, option_map, unwrap_or}
use Rattle.std.specs.Ordering.{nat_cmp}
use Rattle.std.specs.List.{enumerate_from}
use Rattle.std.specs.Map.{lookup, set_value}
use Rattle.std.specs.BTreeMap.{is_at}
use Rattle.std.proofs.lemmas.List.Sums.{sum_by-cons, sum_by-append}
use Rattle.texts.proofs.Orderings.{at_itself, at_lower}
use Rattle.texts.proofs.Decided.{both}
use Rattle.directory_rules.specs.State.{Letter, Node, Posted, World}
use Rattle.directory_rules.specs.Event.{Deliver}
use Rattle.directory_rules.specs.Step.{Stepped}
use Rattle.directory_rules.specs.Input.{Receives, step}
use Rattle.directory_rules.specs.Mail.{fresh_letter, numbered, has_room_for, with_delivered}
use Rattle.directory_rules.specs.Laws.{RiseBetween, IsMail}
use Rattle.directory_rules.specs.Happens as rule
use Rattle.directory_rules.specs.Happens.{is_deliverable}
use Rattle.directory_rules.proofs.Cases.{on_bool}
use Rattle.directory_rules.proofs.Kept.{Fact, On, After, unless, when}
use Rattle.directory_rules.proofs.Mails.{mail_keeps}

-- how many letters are fresh
abbrev pub fresh_count : List (ℕ × Posted) → ℕ
fresh_count mail = count_by (λ e. e.1.fresh) mail

abbrev pub Mail : Type 0
Mail = List (ℕ × Posted)

pub fresh_cons : (e : ℕ × Posted) (mail : Mail) → fresh_count (e ∷ mail) ≡ cond e.1.fresh 1 0 + fresh_count mail
fresh_cons e mail = sum_by-cons (λ (e : ℕ × Posted). cond e.1.fresh 1 0) e mail

-- ---- Letters that are sent are fresh.
fresh_numbered : (from : ℕ) (letters : List Letter)
    → fresh_count (map (λ e. (e.0, fresh_letter e.1)) (enumerate_from from letters)) ≡ length letters
fresh_numbered from [] = refl
fresh_numbered from (letter ∷ letters) =
    let rest = fresh_numbered (from + 1) letters in
    fresh_cons (from, fresh_letter letter) (map (λ e. (e.0, fresh_letter e.1)) (enumerate_from (from + 1) letters)) ∙ omega (arith, rest)

pub fresh_sent : (world : World) (letters : List Letter)
    → fresh_count (world.mail ++ numbered world letters) ≡ fresh_count world.mail + length letters
fresh_sent world letters =
    sum_by-append (λ (e : ℕ × Posted). cond e.1.fresh 1 0) world.mail (numbered world letters)
    ∙ ap (λ n. fresh_count world.mail + n) (fresh_numbered (world.sent + 1) letters)

pub fresh_delivered : (number : ℕ) (mail : Mail) (posted stale : Posted) → lookup (is_at (nat_cmp number)) mail ≡ Some posted
    → posted.fresh ≡ true → stale.fresh ≡ false
    → fresh_count (set_value (is_at (nat_cmp number)) mail stale) + 1 ≡ fresh_count mail
fresh_delivered number [] posted stale found fresh gone = absurd (let no : None ≡ Some posted = found in cc)
fresh_delivered number (e ∷ mail) posted stale found fresh gone =
    on_bool
    (λ b. cond b (Some e.1) (lookup (is_at (nat_cmp number)) mail) ≡ Some posted
    → fresh_count (cond b ((e.0, stale) ∷ mail) (e ∷ set_value (is_at (nat_cmp number)) mail stale)) + 1 ≡ fresh_count (e ∷ mail))
    (is_at (nat_cmp number) e.0)
    (λ here found.
    let was : e.1.fresh ≡ true = ap (λ (o : Option Posted). (unwrap_or o posted).fresh) found ∙ fresh in
    let now = fresh_cons (e.0, stale) mail ∙ ap (λ b. cond b 1 0 + fresh_count mail) gone in
    let then = fresh_cons e mail ∙ ap (λ b. cond b 1 0 + fresh_count mail) was in
    omega (arith, now, then))
    (λ later found.
    let rest = fresh_delivered number mail posted stale found fresh gone in
    let now = fresh_cons e (set_value (is_at (nat_cmp number)) mail stale) in
    let then = fresh_cons e mail in
    omega (arith, rest, now, then))
    found

-- ---- The least deliverable letter is fresh, and is what its number finds.
abbrev pub find_in : World → Mail → Option (ℕ × Posted)
find_in world mail = find (λ e. is_deliverable world e.1) mail

above : (world : World) (low high : ℕ) (mail : Mail) (e : ℕ × Posted) → RiseBetween low high mail → find_in world mail ≡ Some e → low < e.0
above world low high [] e rise found = absurd (let no : None ≡ Some e = found in cc)
above world low high (x ∷ mail) e rise found =
    on_bool (λ b. cond b (Some x) (find_in world mail) ≡ Some e → low < e.0) (is_deliverable world x.1)
    (λ here found. let same : x.0 ≡ e.0 = ap (λ (o : Option (ℕ × Posted)). (unwrap_or o e).0) found in let first = rise.0 in
    omega (arith, same, first))
    (λ later found. let rest = above world x.0 high mail e rise.1 found in let first = rise.0 in omega (arith, rest, first))
    found

pub record IsNext (world : World) (mail : Mail) (e : ℕ × Posted) : Type 0 where
  pub found : lookup (is_at (nat_cmp e.0)) mail ≡ Some e.1
  pub fresh : e.1.fresh ≡ true

pub found_next : (world : World) (low high : ℕ) (mail : Mail) (e : ℕ × Posted) → RiseBetween low high mail → find_in world mail ≡ Some e
    → IsNext world mail e
found_next world low high [] e rise found = absurd (let no : None ≡ Some e = found in cc)
found_next world low high (x ∷ mail) e rise found =
    on_bool (λ b. is_deliverable world x.1 ≡ b → cond b (Some x) (find_in world mail) ≡ Some e → IsNext world (x ∷ mail) e)
    (is_deliverable world x.1)
    (λ here tested found.
    let same : x ≡ e = ap (λ (o : Option (ℕ × Posted)). unwrap_or o e) found in
    subst (λ (y : ℕ × Posted). IsNext world (x ∷ mail) y) same (record {
      found = ap (λ b. cond b (Some x.1) (lookup (is_at (nat_cmp x.0)) mail)) (at_itself x.0);
      fresh = (both x.1.fresh (is_some (rule.node_of world x.1.letter.to)) tested).0;
    }))
    (λ later tested found.
    let rest = found_next world x.0 high mail e rise.1 found in
    record {
      found =
          ap (λ b. cond b (Some x.1) (lookup (is_at (nat_cmp e.0)) mail)) (at_lower e.0 x.0 (above world x.0 high mail e rise.1 found))
          ∙ rest.found;
      fresh = rest.fresh;
    })
    refl found

-- ---- So many letters may still be delivered for the first time, at most.
abbrev pub AtMost : ℕ → Fact
AtMost bound settings mail sent = IsMail settings mail sent × (fresh_count mail + (settings.letters - sent) ≤ bound)

sent_at_most : (bound : ℕ) (world : World) (letters : List Letter) → has_room_for world letters ≡ true → On (AtMost bound) world
    → AtMost bound world.settings (world.mail ++ numbered world letters) (world.sent + length letters)
sent_at_most bound world letters room at_most =
    let is = mail_keeps.sending world letters room at_most.0 in
    let count = fresh_sent world letters in
    let limited = is.limited in
    let before = at_most.1 in
    (is, omega (arith, count, limited, before))

delivered_at_most : (bound : ℕ) (world : World) (number : ℕ) (posted : Posted) → IsNext world world.mail (number, posted)
    → On (AtMost (suc bound)) world
    → On (AtMost bound) (with_delivered world number posted.letter)
delivered_at_most bound world number posted next at_most =
    let fewer = fresh_delivered number world.mail posted (record { letter = posted.letter; fresh = false }) next.found next.fresh refl in
    let before = at_most.1 in (
      mail_keeps.delivering world.settings world.mail world.sent number (record { letter = posted.letter; fresh = false }) at_most.0,
      omega
          (arith, fewer, before),
    )

by_step : (bound : ℕ) (result : Result Stepped ℕ) (world : World) (number : ℕ) (posted : Posted) → IsNext world world.mail (number, posted)
    → On (AtMost (suc bound)) world
    → After (AtMost bound) (rule.delivered_by result world number posted.letter)
by_step bound (Err refusal) world number posted next at_most = tt
by_step bound (Ok stepped) world number posted next at_most =
    unless (AtMost bound) (has_room_for (with_delivered world number posted.letter) stepped.letters) 909 _
    (λ room. sent_at_most bound (with_delivered world number posted.letter) stepped.letters room
    (delivered_at_most bound world number posted next at_most))

by_node : (bound : ℕ) (node : Option Node) (world : World) (number : ℕ) (posted : Posted) → IsNext world world.mail (number, posted)
    → On (AtMost (suc bound)) world
    → After (AtMost bound) (rule.delivers_to node world number posted.letter)
by_node bound None world number posted next at_most = tt
by_node bound (Some node) world number posted next at_most =
    by_step bound (step node (Receives posted.letter)) world number posted next at_most

-- the delivery of the least deliverable letter leaves one less
pub next_delivered : (bound : ℕ) (world : World) (number : ℕ) (posted : Posted) → IsNext world world.mail (number, posted)
    → On (AtMost (suc bound)) world
    → After (AtMost bound) (rule.happens world (Deliver number))
unfolding rule.happens
next_delivered bound world number posted next at_most =
    when (AtMost bound) _ 908 (rule.deliver world number)
    (λ room. subst (λ (o : Option Letter). After (AtMost bound) (rule.delivers o world number))
    (ap (λ (o : Option Posted). option_map (λ p. p.letter) o) (sym next.found))
    (by_node bound (rule.node_of world posted.letter.to) world number posted next at_most))

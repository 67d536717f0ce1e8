-- A letter of a silo that is answered: the silo waits for less from when the letter comes to when the answer does, and on to the end.
use Rattle.std.proofs.Common.{arith, ◌≡◌, ℕ, zero, suc, ◌<◌, ◌≤◌, List, [], ◌∷◌, ◌++◌, length, sym, ap, ◌∙◌, subst}
use Rattle.std.specs.Prelude.{slice_get, Contains, Some}
use Rattle.std.specs.List.{slice_index_or}
use Rattle.silo_address.specs.Silo.{Silo}
use Rattle.directory_rules.specs.State.{Letter, Node}
use Rattle.deployment_headline.specs.Deployment.{Deployment}
use Rattle.deployment_headline.specs.Steps.{Step, Receive, after, after_all}
use Rattle.deployment_progress.specs.Exchanges.{IsAnswered}
use Rattle.deployment_progress.specs.Waits.{WaitsForLess}
use Rattle.deployment_progress.proofs.Less.{waits_on}
use Rattle.deployment_progress.proofs.Rest.{node_at, IsAtRest}
use Rattle.deployment_progress.proofs.Quiet.{quiet_moves, rests_on}
use Rattle.deployment_progress.proofs.Later.{IsLater, IsQuiet, quiet_first, quiet_last, quiet_rest, step_on, after_append, rests_after, later_so}
use Rattle.deployment_progress.proofs.Back.{last_rests, then_there}

-- ---- letters that were written last
got_in : {X : Type 0} (xs : List X) (k : ℕ) (x : X) → k < length xs → slice_index_or xs k x ≡ x → slice_get xs k ≡ Some x
got_in [] k x below is = absurd (omega (below, arith))
got_in (y ∷ xs) zero x below is = ap Some is
got_in (y ∷ xs) (suc k) x below is = got_in xs k x (omega (below, arith)) is

pub got_right : {X : Type 0} (xs ys : List X) (x : X) → Contains ys x → (k : ℕ) × (length xs ≤ k) × (slice_get (xs ++ ys) k ≡ Some x)
got_right [] ys x has = (has.0, omega arith, got_in ys has.0 x has.1 has.2)
got_right (y ∷ xs) ys x has = let rest = got_right xs ys x has in let low = rest.1 in (suc rest.0, omega (arith, low), rest.2)

-- ---- a letter that is answered
module _ (d : Deployment) (r : IsAtRest d) (silo : Silo) (steps : List Step) (q : IsQuiet steps) (index : ℕ) (letter : Letter)
    (a : IsAnswered d silo steps index letter) (node : Node) (there : node_at d silo ≡ Some node) where
  abbrev b : Deployment
  b = after_all d a.before

  abbrev back : Step
  back = Receive silo (length b.written)

  quiet_all : IsQuiet (a.before ++ (Receive letter.to index ∷ (a.between ++ (back ∷ a.rest))))
  quiet_all = subst IsQuiet a.is q

  quiet_later : IsQuiet (a.between ++ (back ∷ a.rest))
  quiet_later =
      quiet_rest (Receive letter.to index) (a.between ++ (back ∷ a.rest))
      (quiet_last a.before (Receive letter.to index ∷ (a.between ++ (back ∷ a.rest))) quiet_all)

  pub quiet_before : IsQuiet a.before
  quiet_before = quiet_first a.before (Receive letter.to index ∷ (a.between ++ (back ∷ a.rest))) quiet_all

  pub quiet_between : IsQuiet a.between
  quiet_between = quiet_first a.between (back ∷ a.rest) quiet_later

  pub b_rests : IsAtRest b
  b_rests = rests_after d r a.before quiet_before

  abbrev l : Deployment
  l = after_all (after b (Receive letter.to index)) a.between

  pub l_rests : IsAtRest l
  l_rests = last_rests b b_rests letter.to index a.between quiet_between silo

  abbrev next : Deployment
  next = after l back

  -- the silo's node when the letter comes, and when the answer does
  pub at_ask : IsLater d r b silo node
  at_ask = later_so d r a.before quiet_before silo node there

  pub at_last : IsLater b b_rests l silo at_ask.node
  at_last = then_there b b_rests letter.to index a.between quiet_between silo silo at_ask.node at_ask.there

  pub at_answer : IsLater l l_rests next silo at_last.node
  at_answer = step_on l l_rests back next (quiet_moves l l_rests back tt) silo at_last.node at_last.there

  pub to_answer : WaitsForLess at_ask.node at_answer.node
  to_answer = waits_on at_ask.node at_last.node at_answer.node at_last.less at_answer.less

  pub quiet_end : IsQuiet a.rest
  quiet_end = quiet_rest back a.rest (quiet_last a.between (back ∷ a.rest) quiet_later)

  pub next_rests : IsAtRest next
  next_rests = rests_on l l_rests back tt tt

  pub end_is : after_all d steps ≡ after_all next a.rest
  unfolding after_all
  end_is =
      ap (after_all d) a.is ∙ after_append d a.before (Receive letter.to index ∷ (a.between ++ (back ∷ a.rest)))
      ∙ after_append (after b (Receive letter.to index)) a.between (back ∷ a.rest)

  pub to_end : (last : Node) → node_at (after_all d steps) silo ≡ Some last → WaitsForLess at_answer.node last
  to_end last at =
      let e = later_so next next_rests a.rest quiet_end silo at_answer.node at_answer.there in
      let put = e.there in
      let its : node_at (after_all next a.rest) silo ≡ Some last = ap (λ x. node_at x silo) (sym end_is) ∙ at in
      let same : e.node ≡ last = cc (its, put) in
      subst (WaitsForLess at_answer.node) same e.less

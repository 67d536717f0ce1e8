-- Through whatever happens in the quiet: a request that is outstanding then was before, or has a free number; and the last number that an
-- owner served to a silo stays below a request's while only lower ones come.
use Rattle.std.proofs.Common.{arith, ◌≡◌, refl, sym, ap, subst, ◌∙◌, ℕ, ◌<◌, ◌≤◌, List, [], ◌∷◌, ◌⊎◌, inl, inr}
use Rattle.std.specs.Prelude.{Some}
use Rattle.std.proofs.lemmas.List.Elements.{All-head, Contains-append_right}
use Rattle.silo_address.specs.Silo.{Silo, silo_eq}
use Rattle.silo_address.proofs.Same.{Decides-silo}
use Rattle.directory_rules.specs.declared.act.Act.{Act}
use Rattle.directory_rules.specs.declared.act.Request.{Request}
use Rattle.directory_rules.specs.Answer.{last_served}
use Rattle.directory_rules.specs.Input.{Input, Receives}
use Rattle.directory_rules.specs.Laws.{AreNumbered}
use Rattle.directory_rules.specs.State.{Letter, Request_letter, Node}
use Rattle.directory_rules.proofs.Cases.{on_bool}
use Rattle.progress_rules.specs.Owed.{Owes}
use Rattle.progress_rules.proofs.Answering.{node_facts}
use Rattle.deployment_headline.specs.Deployment.{Deployment}
use Rattle.deployment_headline.specs.Limits.{node_with_room}
use Rattle.deployment_headline.specs.Steps.{Step, Receive, IsStep, after, after_all}
use Rattle.deployment_progress.specs.Quiet.{DecidesNone}
use Rattle.deployment_progress.specs.Requests.{OnlyLowerCome}
use Rattle.deployment_progress.proofs.Rest.{node_at, IsAtRest}
use Rattle.deployment_progress.proofs.Quiet.{IsBrought, Moves, quiet_moves, view_stays, rests_on}
use Rattle.deployment_progress.proofs.Later.{w, in_world, step_on, IsQuiet, quiet_rest, step_writes, stays_written}
use Rattle.deployment_progress.proofs.Owed.{asks_on}
use Rattle.deployment_progress.proofs.Served.{IsOfRequest, serves}

pub its_numbered : (d : Deployment) (r : IsAtRest d) (silo : Silo) (node : Node) → node_at d silo ≡ Some node → AreNumbered node.host
its_numbered d r silo node there =
    let its = w d r in
    let n = (node_facts its.world its.rests silo (node_with_room its.events its.letters node) (in_world d r silo node there)).numbered in
    record { distinct = n.distinct; many = n.many; below = n.below }

-- ---- requests
-- what is outstanding after was before, or has a free number
pub record Numbers (before after : Node) : Type 0 where
  pub owes : (e : ℕ × Act) → Owes after.host e → Owes before.host e ⊎ (before.host.next_number ≤ e.0)
  pub rises : before.host.next_number ≤ after.host.next_number

same_numbers : (node : Node) → Numbers node node
same_numbers node = record { owes = λ e has. inl has; rises = omega arith }

pub numbers_on : (one two three : Node) → Numbers one two → Numbers two three → Numbers one three
numbers_on one two three a b = record {
  owes = λ e has. elim (b.owes e has) [ inl was ↦ a.owes e was | inr free ↦ inr (let more = a.rises in omega (arith, free, more)) ];
  rises = let one = a.rises in let other = b.rises in omega (arith, one, other);
}

-- one step
module _ (d : Deployment) (r : IsAtRest d) (st : Step) (next : Deployment) (rests : IsAtRest next) (silo : Silo) (node after_it : Node)
    (there : node_at d silo ≡ Some node) (at : node_at next silo ≡ Some after_it) where
  pub step_numbers : Moves d st next → Numbers node after_it
  step_numbers (inl stays) =
      let its : node_at next silo ≡ Some node = stays.nodes silo ∙ there in
      let same : node ≡ after_it = cc (its, at) in
      subst (Numbers node) same (same_numbers node)
  step_numbers (inr moved) =
      on_bool (λ b. silo_eq silo moved.0 ≡ b → Numbers node after_it) (silo_eq silo moved.0)
      (λ t is.
      let one = (Decides-silo silo moved.0).0 is in
      let its : node_at d moved.0 ≡ Some node = ap (λ q. node_at d q) (sym one) ∙ there in
      let own = moved.1.there in
      let was : moved.1.node ≡ node = cc (its, own) in
      let mine : node_at next moved.0 ≡ Some after_it = ap (λ q. node_at next q) (sym one) ∙ at in
      let put = moved.1.put in
      let now : moved.1.stepped.node ≡ after_it = cc (mine, put) in
      let a = asks_on moved.1.node moved.1.input moved.1.stepped moved.1.is (view_stays d r st moved.1.node moved.0 moved.1.input moved.1.stepped moved.1.brought moved.1.is) in
      let numbered : AreNumbered moved.1.stepped.node.host = its_numbered next rests moved.0 moved.1.stepped.node put in
      subst (Numbers node) now (subst (λ (n : Node). Numbers n moved.1.stepped.node) was
      (record { owes = a.owes numbered; rises = a.rises })))
      (λ f is.
      let its : node_at next silo ≡ Some node = moved.1.beside silo (λ same. let it = (Decides-silo silo moved.0).1 same in cc (it, is)) ∙ there in
      let same : node ≡ after_it = cc (its, at) in
      subst (Numbers node) same (same_numbers node)) refl

  -- the last number served to a silo is that of before, or a request of it comes in the step
  pub step_serves : Moves d st next → (sender : Silo)
      → (last_served sender after_it.holding.served ≡ last_served sender node.holding.served)
      ⊎ ((input : Input) × IsBrought d st silo input × IsOfRequest input sender (last_served sender after_it.holding.served))
  step_serves (inl stays) sender =
      let its : node_at next silo ≡ Some node = stays.nodes silo ∙ there in
      let same : node ≡ after_it = cc (its, at) in
      inl (ap (λ (n : Node). last_served sender n.holding.served) (sym same))
  step_serves (inr moved) sender =
      on_bool (λ b. silo_eq silo moved.0 ≡ b → So) (silo_eq silo moved.0)
      (λ t is.
      let one = (Decides-silo silo moved.0).0 is in
      let its : node_at d moved.0 ≡ Some node = ap (λ q. node_at d q) (sym one) ∙ there in
      let own = moved.1.there in
      let was : moved.1.node ≡ node = cc (its, own) in
      let mine : node_at next moved.0 ≡ Some after_it = ap (λ q. node_at next q) (sym one) ∙ at in
      let put = moved.1.put in
      let now : moved.1.stepped.node ≡ after_it = cc (mine, put) in
      let brought : IsBrought d st silo moved.1.input = subst (λ q. IsBrought d st q moved.1.input) (sym one) moved.1.brought in
      elim (serves moved.1.node moved.1.input moved.1.stepped moved.1.is
      (view_stays d r st moved.1.node moved.0 moved.1.input moved.1.stepped moved.1.brought moved.1.is) sender) [
        | inl same ↦ inl (ap (λ (n : Node). last_served sender n.holding.served) (sym now) ∙ same
            ∙ ap (λ (n : Node). last_served sender n.holding.served) was)
        | inr of ↦ inr (
          moved.1.input,
          brought,
          subst (λ (n : Node). IsOfRequest moved.1.input sender (last_served sender n.holding.served))
              now of,
        )
      ])
      (λ f is.
      let its : node_at next silo ≡ Some node = moved.1.beside silo (λ same. let it = (Decides-silo silo moved.0).1 same in cc (it, is)) ∙ there in
      let same : node ≡ after_it = cc (its, at) in
      inl (ap (λ (n : Node). last_served sender n.holding.served) (sym same))) refl
    where
      So : Type 0
      So =
          (last_served sender after_it.holding.served ≡ last_served sender node.holding.served)
          ⊎ ((input : Input) × IsBrought d st silo input × IsOfRequest input sender (last_served sender after_it.holding.served))

-- ---- all of them
pub numbers_later : (d : Deployment) (r : IsAtRest d) (steps : List Step) → IsQuiet steps → (silo : Silo) (node last : Node)
    → node_at d silo ≡ Some node → node_at (after_all d steps) silo ≡ Some last → Numbers node last
unfolding after_all
numbers_later d r [] q silo node last there at = let same : node ≡ last = cc (there, at) in subst (Numbers node) same (same_numbers node)
numbers_later d r (s ∷ steps) q silo node last there at =
    let none = All-head DecidesNone s steps q.none in
    let moves = quiet_moves d r s none in
    let rests = rests_on d r s (All-head IsStep s steps q.named) none in
    let mid = step_on d r s (after d s) moves silo node there in
    numbers_on node mid.node last (step_numbers d r s (after d s) rests silo node mid.node there mid.there moves)
    (numbers_later (after d s) rests steps (quiet_rest s steps q) silo mid.node last mid.there at)

pub served_later : (d : Deployment) (r : IsAtRest d) (steps : List Step) → IsQuiet steps
    → (silo owner : Silo) (number : ℕ) (node last : Node) → node_at d owner ≡ Some node → node_at (after_all d steps) owner ≡ Some last
    → last_served silo node.holding.served < number → OnlyLowerCome d silo number owner steps
    → last_served silo last.holding.served < number
unfolding after_all
served_later d r [] q silo owner number node last there at low turn =
    let same : node ≡ last = cc (there, at) in subst (λ (n : Node). last_served silo n.holding.served < number) same low
served_later d r (s ∷ steps) q silo owner number node last there at low turn =
    let none = All-head DecidesNone s steps q.none in
    let moves = quiet_moves d r s none in
    let rests = rests_on d r s (All-head IsStep s steps q.named) none in
    let mid = step_on d r s (after d s) moves owner node there in
    served_later (after d s) rests steps (quiet_rest s steps q) silo owner number mid.node last mid.there at
    (elim (step_serves d r s (after d s) rests owner node mid.node there mid.there moves silo) [
      | inl same ↦ subst (λ n. n < number) (sym same) low
      | inr of ↦ subst (λ n. n < number) (sym of.2.number_is) (comes of.0 of.2.letter of.2.request of.1 of.2.is of.2.body of.2.sender)
    ])
    (λ index letter request has. turn index letter request (Contains-append_right (s ∷ []) steps (Receive owner index) has))
  where
    comes : (input : Input) (letter : Letter) (request : Request) → IsBrought d s owner input → input ≡ Receives letter
        → letter.body ≡ Request_letter request → request.sender ≡ silo → request.number < number
    comes input letter request brought is body sender =
        let its : IsBrought d s owner (Receives letter) = subst (IsBrought d s owner) is brought in
        let none = All-head DecidesNone s steps q.none in
        turn its.1 letter request (0, omega arith, its.3)
        (stays_written (after d s) (rests_on d r s (All-head IsStep s steps q.named) none) steps (quiet_rest s steps q) its.1 letter
        (step_writes d s (after d s) (quiet_moves d r s none) its.1 letter its.2)) body sender

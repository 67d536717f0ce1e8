-- Seen from outside, each step of a cluster is one step of the plain machine.
use Rattle.std.proofs.Common.{arith, ◌≡◌, ℕ, ◌≤◌, Bool, true, false, List, [], ◌∷◌, ◌++◌, Option, Some, None, length, refl, sym, subst}
use Rattle.std.specs.Prelude.{cond, All, IfSome}
use Rattle.std.specs.List.Sorted.{IsStrictlySortedBy}
use Rattle.std.proofs.lemmas.List.Elements.{All-nil, All-cons, All-head}
use Rattle.silo_address.specs.Silo.{Silo, IsSilo, silo_cmp}
use Rattle.silo_address.proofs.Order.{silo_cmp_total}
use Rattle.directory_rules.specs.PlainMachine.{PlainStep, Nothing_changes, IsPlainStep, plain_of}
use Rattle.directory_rules.specs.State.{World}
use Rattle.directory_rules.specs.Membership.{Change, changed}
use Rattle.deployment_headline.specs.Deployment.{Deployment}
use Rattle.deployment_headline.specs.Steps as deployment
use Rattle.deployment_headline.specs.Theorems as deployment_theorems
use Rattle.deployment_headline.proofs.Runs.{steps_are_plain}
use Rattle.process_rules.specs.Output.{said}
use Rattle.process_deployment.specs.Allowed.{MayAsk, IfAsks, May}
use Rattle.process_deployment.specs.Cluster.{Process, answer_to, having_read, Cluster, first_cluster, process_at}
use Rattle.process_deployment.specs.Steps.{Step, Decide, Read, decided, read_by, after, after_all}
use Rattle.process_deployment.specs.Theorems.{deployment_of, world_of, LinesArePlain}
use Rattle.process_deployment.proofs.Following.{Follows, WrittenReadAsThemselves, its_silo, its_sound, its_move, with_next, moved_to, decided_to, follows_all, follows_first}
use Rattle.process_deployment.proofs.Lists.{put_again, keys_over}

abbrev IsPlain : World → World → Type 0
IsPlain before next = (kind : PlainStep) × IsPlainStep (plain_of before) kind (plain_of next)

nothing : (world : World) → IsPlain world world
nothing world = (Nothing_changes, record { view = refl; unused = λ s. refl; lives = λ s g. refl })

-- one step of a deployment, or none
by_steps : (c : Cluster) (f : Follows c) (next : Deployment) (steps : List deployment.Step) → All deployment.IsStep steps → length steps ≤ 1
    → deployment.after_all (deployment_of c f.letters) steps ≡ next
    → IsPlain (world_of c) (deployment_theorems.world_of next)
unfolding deployment.after_all
by_steps c f next [] named few is =
    subst (λ (d : Deployment). IsPlain (world_of c) (deployment_theorems.world_of d)) is (nothing (world_of c))
by_steps c f next (step ∷ []) named few is =
    subst (λ (d : Deployment). IsPlain (world_of c) (deployment_theorems.world_of d)) is
    (subst (λ (d : Deployment). IsPlain (deployment_theorems.world_of d) (deployment_theorems.world_of (deployment.after d step))) f.same
    (steps_are_plain c.settings f.steps f.are f.named step (All-head deployment.IsStep step [] named)))
by_steps c f next (one ∷ two ∷ steps) named few is = absurd (omega (few, arith))

-- a line that a process reads
reads_plain : (c : Cluster) → Follows c → (silo : Silo) (line : List ℕ) → IsSilo silo
    → IfSome (process_at silo c.processes) (λ p. IfAsks (said line p.silo) (MayAsk c p))
    → IsPlain (world_of c) (world_of (record c { processes = read_by (process_at silo c.processes) silo line c.processes }))
reads_plain c f silo line is_silo = by (process_at silo c.processes) refl
  where
    by_end : (p : Process) (ended : Bool) → process_at silo c.processes ≡ Some p → IfAsks (said line p.silo) (MayAsk c p)
        → IsPlain (world_of c) (world_of (with_next c silo (cond ended p (having_read line (answer_to line p) p))))
    by_end p true there may =
        subst (λ l. IsPlain (world_of c) (world_of (record c { processes = l })))
        (sym (put_again silo_cmp silo_cmp_total silo p c.processes
        (subst (IsStrictlySortedBy silo_cmp) (keys_over its_silo c.processes) (its_sound c f).sorted) there)) (nothing (world_of c))
    by_end p false there may =
        let it = answer_to line p in
        let next = having_read line it p in
        let m = its_move c f silo line p is_silo there may in
        by_steps c f (deployment_of (with_next c silo next) (f.letters ++ m.letters)) m.steps m.named m.few
        (moved_to c f.letters silo next it refl m)

    by : (o : Option Process) → process_at silo c.processes ≡ o → IfSome o (λ p. IfAsks (said line p.silo) (MayAsk c p))
        → IsPlain (world_of c) (world_of (record c { processes = read_by o silo line c.processes }))
    by None there may = nothing (world_of c)
    by (Some p) there may = by_end p p.ended there may

-- a change that is decided
decides_plain : (c : Cluster) → Follows c → (change : Change) → deployment.IsChange change
    → IsPlain (world_of c) (world_of (decided (changed c.settings c.membership change) c change))
unfolding deployment.after_all
decides_plain c f change named =
    by_steps c f (deployment_of (decided (changed c.settings c.membership change) c change) f.letters) (deployment.Decide change ∷ [])
    (All-cons deployment.IsStep (deployment.Decide change) [] named (All-nil deployment.IsStep)) (omega arith)
    (decided_to c f.letters change (changed c.settings c.membership change) refl)

step_plain : (c : Cluster) → Follows c → (step : Step) → May c step → IsPlain (world_of c) (world_of (after c step))
unfolding after May
step_plain c f (Decide change) may = decides_plain c f change may
step_plain c f (Read silo line) may = reads_plain c f silo line may.0 may.2

pub lines_are_plain : WrittenReadAsThemselves → LinesArePlain
lines_are_plain themselves settings tokens steps are may step so =
    let first = first_cluster settings tokens in
    step_plain (after_all first steps) (follows_all themselves first (follows_first themselves settings tokens are) steps may) step so

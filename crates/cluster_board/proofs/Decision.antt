-- What comes of work that is current: 908, then 909, else it is accepted.
use Rattle.std.proofs.Common.{◌≡◌, refl, sym, ap, subst, ◌∙◌, ℕ, ◌<◌, ◌≤◌, List, [], ◌∷◌}
use Rattle.std.specs.Prelude.{Bool, true, false, cond, not, IsOk, Result, Ok, Err}
use Rattle.directory_rules.specs.Event.{Deliver}
use Rattle.directory_rules.specs.declared.outcome.Happening.TheVariants.{Delivered}
use Rattle.directory_rules.specs.State.{Letter, World, Accepted}
use Rattle.directory_rules.specs.Letter.{kind_of}
use Rattle.directory_rules.specs.Step.{Stepped}
use Rattle.directory_rules.specs.Mail.{has_room_for, with_delivered}
use Rattle.directory_rules.specs.Happens.{delivers, delivers_to, happens, taken}
use Rattle.directory_node.specs.Plans.{step_by}
use Rattle.directory_node.specs.declared.Plan.{Plan}
use Rattle.directory_core.proofs.Happenings.{full, has_room}
use Rattle.cluster_board.specs.Commits.{Declines, IsTaken}
use Rattle.cluster_board.specs.Planned.{IsPlanOf}
use Rattle.cluster_board.specs.Work.{IsCurrent, Work}
use Rattle.cluster_board.specs.declared.refusal.CommitRefusal.TheVariants.{JournalFull, MailFull}

room_delivered : (world : World) (number : ℕ) (letter : Letter) (letters : List Letter)
    → has_room_for (with_delivered world number letter) letters ≡ has_room_for world letters
room_delivered world number letter [] = refl
room_delivered world number letter (l ∷ letters) = refl

-- the delivery is the plan's step, taken
abbrev taken_by : World → Work → Stepped → Result Accepted ℕ
taken_by world work stepped =
    taken (with_delivered world work.number work.letter) work.letter.to (Delivered work.number (kind_of work.letter.body) stepped.effect)
    stepped

happens_so : (world : World) (work : Work) (plan : Plan) → IsCurrent world work → IsPlanOf work plan
    → world.accepted < world.settings.events
    → happens world (Deliver work.number) ≡ taken_by world work (step_by work.node plan)
happens_so world work plan current planned room =
    has_room world (Deliver work.number) room
    ∙ ap (λ o. delivers o world work.number) current.mailed
    ∙ ap (λ n. delivers_to n world work.number work.letter) current.live
    ∙ ap (λ (s : Stepped). taken_by world work s) (sym planned.its)

pub no_event_more : (world : World) (work : Work) → IsCurrent world work → world.settings.events ≤ world.accepted
    → Declines world work JournalFull
no_event_more world work current most = (current, full world (Deliver work.number) most)

abbrev by_room : Bool → Accepted → Result Accepted ℕ
by_room b accepted = cond (not b) (Err 909) (Ok accepted)

refused_by : (b : Bool) (accepted : Accepted) → b ≡ false → by_room b accepted ≡ Err 909
refused_by b accepted is = ap (λ x. by_room x accepted) is

accepted_by : (b : Bool) (accepted : Accepted) → b ≡ true → IsOk (by_room b accepted)
accepted_by b accepted is = subst (λ x. IsOk (by_room x accepted)) (sym is) refl

pub no_room : (world : World) (work : Work) (plan : Plan) → IsCurrent world work → IsPlanOf work plan
    → world.accepted < world.settings.events
    → has_room_for world plan.letters.items ≡ false → Declines world work MailFull
no_room world work plan current planned room crowded = (
  current,
  happens_so world work plan current planned room
      ∙ refused_by _ _ (room_delivered world work.number work.letter plan.letters.items ∙ crowded),
)

pub accepted : (world : World) (work : Work) (plan : Plan) → IsCurrent world work → IsPlanOf work plan
    → world.accepted < world.settings.events
    → has_room_for world plan.letters.items ≡ true → IsTaken world work
accepted world work plan current planned room there = (
  current,
  subst IsOk (sym (happens_so world work plan current planned room))
      (accepted_by _ _ (room_delivered world work.number work.letter plan.letters.items ∙ there)),
)

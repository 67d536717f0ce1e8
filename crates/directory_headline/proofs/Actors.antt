-- Actions of one silo leave all others as they are, and letters that were sent stay sent.
use Rattle.std.proofs.Common.{◌≡◌, ◌≢◌, ◌&&◌, Bool, cond, ℕ, List, [], ◌∷◌, ◌++◌, refl, ap, ◌∙◌, inl, inr}
use Rattle.std.specs.Prelude.{⊤, Option}
use Rattle.silo_address.specs.Silo.{Silo, silo_eq}
use Rattle.silo_address.specs.Grain.{Grain, grain_eq}
use Rattle.silo_address.specs.declared.ActivationId.{ActivationId}
use Rattle.silo_address.proofs.Same.{Decides-silo}
use Rattle.directory_protocol.specs.Change.{put_at}
use Rattle.directory_protocol.specs.Setting.{Setting}
use Rattle.directory_protocol.specs.Letters.{Request, Reply, Snapshot, Report, Offer, Sent}
use Rattle.directory_protocol.specs.World.{World, Held}
use Rattle.directory_protocol.specs.Actions.{Action, New_view, See, Start, Close, Offer_away, Renew, Find, Serve, Confirm, Leave, Tell, Install, Recover}
use Rattle.directory_protocol.specs.Effects.{after, run}
use Rattle.directory_protocol.proofs.Changes.{bool_cases, put_other}
use Rattle.directory_headline.specs.SiloState.{SiloState, state_of}

-- the action is the silo's
abbrev pub IsBy : Silo → Action → Type 0
IsBy silo New_view = ⊥
IsBy silo (See x) = x.silo ≡ silo
IsBy silo (Start s g previous) = s ≡ silo
IsBy silo (Close s g x) = s ≡ silo
IsBy silo (Offer_away s g count) = s ≡ silo
IsBy silo (Renew s g x purpose) = s ≡ silo
IsBy silo (Find s) = s ≡ silo
IsBy silo (Serve x) = x.server ≡ silo
IsBy silo (Confirm y g x) = y.receiver ≡ silo
IsBy silo (Leave y g x) = y.receiver ≡ silo
IsBy silo (Tell s) = s ≡ silo
IsBy silo (Install x snapshot) = x.silo ≡ silo
IsBy silo (Recover x told) = x.silo ≡ silo

abbrev pub AllBy : Silo → List Action → Type 0
AllBy silo [] = ⊤
AllBy silo (a ∷ rest) = IsBy silo a × AllBy silo rest

pub by_append : (silo : Silo) (xs ys : List Action) → AllBy silo xs → AllBy silo ys → AllBy silo (xs ++ ys)
by_append silo [] ys a b = b
by_append silo (x ∷ xs) ys a b = (a.0, by_append silo xs ys a.1 b)

-- what was sent is sent still
pub record Grows (w later : World) : Type 0 where
  pub requests : (x : Request) → Sent x w.requests → Sent x later.requests
  pub replies : (x : Reply) → Sent x w.replies → Sent x later.replies
  pub snapshots : (x : Snapshot) → Sent x w.snapshots → Sent x later.snapshots
  pub reports : (x : Report) → Sent x w.reports → Sent x later.reports
  pub offers : (x : Offer) → Sent x w.offers → Sent x later.offers

pub record LeavesOthers (silo : Silo) (w later : World) : Type 0 where
  pub now : later.now ≡ w.now
  pub others : (q : Silo) → q ≢ silo → state_of later q ≡ state_of w q
  pub grows : Grows w later

pub grows_not : (w : World) → Grows w w
grows_not w = record { requests = λ x s. s; replies = λ x s. s; snapshots = λ x s. s; reports = λ x s. s; offers = λ x s. s }

pub grows_on : (w between later : World) → Grows w between → Grows between later → Grows w later
grows_on w between later a b = record {
  requests = λ x s. b.requests x (a.requests x s);
  replies = λ x s. b.replies x (a.replies x s);
  snapshots = λ x s. b.snapshots x (a.snapshots x s);
  reports = λ x s. b.reports x (a.reports x s);
  offers = λ x s. b.offers x (a.offers x s);
}

pub leaves_on : (silo : Silo) (w between later : World) → LeavesOthers silo w between → LeavesOthers silo between later
    → LeavesOthers silo w later
leaves_on silo w between later a b = record {
  now = b.now ∙ a.now;
  others = λ q apart. b.others q apart ∙ a.others q apart;
  grows = grows_on w between later a.grows b.grows;
}

-- a change at one silo and grain leaves another silo's values as they are
pub put_at_elsewhere : {X : Type 0} (s : Silo) (g : Grain) (x : X) (f : Silo → Grain → X) (q : Silo) → q ≢ s → put_at s g x f q ≡ f q
unfolding put_at
put_at_elsewhere s g x f q apart =
    elim (bool_cases (silo_eq q s)) [
      | inl t ↦ absurd (apart ((Decides-silo q s).0 t))
      | inr t ↦ ap (λ (b : Bool). λ (r : Grain). cond (b && grain_eq r g) x (f q r)) t
    ]

-- two states are one where all their values are
pub same_state :
    (x y : SiloState) → x.seen ≡ y.seen → x.settled ≡ y.settled → x.table ≡ y.table → x.held ≡ y.held
    → x.next_number ≡ y.next_number → x.next_count ≡ y.next_count → x.served ≡ y.served → x ≡ y
same_state x y a b c d e f g =
    ap (λ (v : ℕ). let z : SiloState = record x { seen = v } in z) a
    ∙ ap (λ (v : ℕ → Bool). let z : SiloState = record x { seen = y.seen; settled = v } in z) b
    ∙ ap (λ (v : Grain → Option ActivationId). let z : SiloState = record x { seen = y.seen; settled = y.settled; table = v } in z) c
    ∙ ap (λ (v : Grain → Option Held).
    let z : SiloState = record y { held = v; next_number = x.next_number; next_count = x.next_count; served = x.served } in z) d
    ∙ ap (λ (v : ℕ). let z : SiloState = record y { next_number = v; next_count = x.next_count; served = x.served } in z) e
    ∙ ap (λ (v : ℕ). let z : SiloState = record y { next_count = v; served = x.served } in z) f
    ∙ ap (λ (v : Silo → ℕ). let z : SiloState = record y { served = v } in z) g

pub leaves_after : (m : Setting) (w : World) (a : Action) (silo : Silo) → IsBy silo a → LeavesOthers silo w (after m w a)
leaves_after m w New_view silo is = absurd is
leaves_after m w (See x) silo is = record {
  now = refl;
  others = λ q apart.
      let away : q ≢ x.silo = λ e. apart (e ∙ is) in
      same_state _ (state_of w q) (put_other x.silo x.version w.seen q away) (put_other x.silo x.kept w.settled q away)
      (put_other x.silo _ w.table q away)
      refl refl refl (put_other x.silo _ w.served q away);
  grows = record { requests = λ y s. s; replies = λ y s. s; snapshots = λ y s. inr s; reports = λ y s. s; offers = λ y s. s };
}
leaves_after m w (Start s g previous) silo is = record {
  now = refl;
  others = λ q apart.
      let away : q ≢ s = λ e. apart (e ∙ is) in
      same_state _ (state_of w q) refl refl refl (put_at_elsewhere s g _ w.held q away) (put_other s _ w.next_number q away)
      (put_other s _ w.next_count q away) refl;
  grows = record { requests = λ y s. inr s; replies = λ y s. s; snapshots = λ y s. s; reports = λ y s. s; offers = λ y s. s };
}
leaves_after m w (Close s g x) silo is = record {
  now = refl;
  others = λ q apart.
      let away : q ≢ s = λ e. apart (e ∙ is) in
      same_state _ (state_of w q) refl refl refl (put_at_elsewhere s g _ w.held q away) (put_other s _ w.next_number q away) refl refl;
  grows = record { requests = λ y s. inr s; replies = λ y s. s; snapshots = λ y s. s; reports = λ y s. s; offers = λ y s. s };
}
leaves_after m w (Offer_away s g count) silo is = record {
  now = refl;
  others = λ q apart.
      let away : q ≢ s = λ e. apart (e ∙ is) in
      same_state _ (state_of w q) refl refl refl (put_at_elsewhere s g _ w.held q away) (put_other s _ w.next_number q away) refl refl;
  grows = record { requests = λ y s. s; replies = λ y s. s; snapshots = λ y s. s; reports = λ y s. s; offers = λ y s. inr s };
}
leaves_after m w (Renew s g x purpose) silo is = record {
  now = refl;
  others = λ q apart.
      let away : q ≢ s = λ e. apart (e ∙ is) in
      same_state _ (state_of w q) refl refl refl (put_at_elsewhere s g _ w.held q away) (put_other s _ w.next_number q away) refl refl;
  grows = record { requests = λ y s. inr s; replies = λ y s. s; snapshots = λ y s. s; reports = λ y s. s; offers = λ y s. s };
}
leaves_after m w (Find s) silo is = record {
  now = refl;
  others = λ q apart.
      let away : q ≢ s = λ e. apart (e ∙ is) in
      same_state _ (state_of w q) refl refl refl refl (put_other s _ w.next_number q away) refl refl;
  grows = record { requests = λ y s. s; replies = λ y s. s; snapshots = λ y s. s; reports = λ y s. s; offers = λ y s. s };
}
leaves_after m w (Serve x) silo is = record {
  now = refl;
  others = λ q apart.
      let away : q ≢ x.server = λ e. apart (e ∙ is) in
      same_state _ (state_of w q) refl refl (put_at_elsewhere x.server _ _ w.table q away) refl refl refl
      (put_other x.server _ w.served q away);
  grows = record { requests = λ y s. s; replies = λ y s. inr s; snapshots = λ y s. s; reports = λ y s. s; offers = λ y s. s };
}
leaves_after m w (Confirm y g x) silo is = record {
  now = refl;
  others = λ q apart.
      let away : q ≢ y.receiver = λ e. apart (e ∙ is) in
      same_state _ (state_of w q) refl refl refl (put_at_elsewhere y.receiver g _ w.held q away) refl refl refl;
  grows = record { requests = λ y s. s; replies = λ y s. s; snapshots = λ y s. s; reports = λ y s. s; offers = λ y s. s };
}
leaves_after m w (Leave y g x) silo is = record {
  now = refl;
  others = λ q apart.
      let away : q ≢ y.receiver = λ e. apart (e ∙ is) in
      same_state _ (state_of w q) refl refl refl (put_at_elsewhere y.receiver g _ w.held q away) refl refl refl;
  grows = record { requests = λ y s. s; replies = λ y s. s; snapshots = λ y s. s; reports = λ y s. s; offers = λ y s. s };
}
leaves_after m w (Tell s) silo is = record {
  now = refl;
  others = λ q apart. refl;
  grows = record { requests = λ y s. s; replies = λ y s. s; snapshots = λ y s. s; reports = λ y s. inr s; offers = λ y s. s };
}
leaves_after m w (Install x snapshot) silo is = record {
  now = refl;
  others = λ q apart.
      let away : q ≢ x.silo = λ e. apart (e ∙ is) in
      same_state _ (state_of w q) refl (put_other x.silo _ w.settled q away) (put_other x.silo _ w.table q away) refl refl refl refl;
  grows = record { requests = λ y s. s; replies = λ y s. s; snapshots = λ y s. s; reports = λ y s. s; offers = λ y s. s };
}
leaves_after m w (Recover x told) silo is = record {
  now = refl;
  others = λ q apart.
      let away : q ≢ x.silo = λ e. apart (e ∙ is) in
      same_state _ (state_of w q) refl (put_other x.silo _ w.settled q away) (put_other x.silo _ w.table q away) refl refl refl refl;
  grows = record { requests = λ y s. s; replies = λ y s. s; snapshots = λ y s. s; reports = λ y s. s; offers = λ y s. s };
}

pub leaves_run : (m : Setting) (actions : List Action) (w : World) (silo : Silo) → AllBy silo actions
    → LeavesOthers silo w (run m actions w)
leaves_run m [] w silo by = record { now = refl; others = λ q apart. refl; grows = grows_not w }
leaves_run m (a ∷ rest) w silo by =
    leaves_on silo w (after m w a) (run m rest (after m w a)) (leaves_after m w a silo by.0) (leaves_run m rest (after m w a) silo by.1)

-- Spent numbers: kept by every action.
use Rattle.std.proofs.Common.{◌≡◌, ◌≢◌, ◌⊎◌, ◌<◌, ◌≤◌, ℕ, suc, true, cond, Option, Some, None, ◌∷◌, inl, inr, sym, refl, ap, ◌∙◌, subst, arith}
use Rattle.silo_address.specs.Silo.{Silo}
use Rattle.silo_address.specs.Grain.{Grain}
use Rattle.silo_address.specs.declared.activation.ActivationId.{ActivationId}
use Rattle.directory_protocol.specs.Change.{put, put_at, where_true}
use Rattle.directory_protocol.specs.Setting.{Setting}
use Rattle.directory_protocol.specs.Letters.{Purpose, Register, Deregister, Answer, purpose_of, Request, named, Reply, Sent}
use Rattle.directory_protocol.specs.World.{World, start, Held, Asking, Firm, Closing, count_of, outstanding, renumbered, previous_of}
use Rattle.directory_protocol.specs.Actions.{Action, New_view, See, Start, Close, Offer_away, Renew, Find, Serve, Confirm, Leave, Tell, Install, Recover, Allowed, Sight, MaySee, MayClose, Service, MayServe, IsAnswered, Counts, Settling, MayLeave}
use Rattle.directory_protocol.specs.Effects.{after, after_settling, asked, replied}
use Rattle.directory_protocol.specs.Requests.{NumbersOf, IsSpent, Spent, SpentOf}
use Rattle.directory_protocol.specs.Invariant.{Placed}
use Rattle.directory_protocol.proofs.Changes.{on_bool, put_all, put_same, put_other, put_at_all, put_at_same, put_at_other, sent_all, silo_cases, grain_cases}
use Rattle.directory_protocol.proofs.Left.{IsLater, later_same, later_view}
use Rattle.directory_protocol.proofs.Sights.{later_sight, sight_level}
use Rattle.directory_protocol.proofs.Settlings.{install_level, recover_below}
use Rattle.directory_protocol.proofs.Numbers.{renumbered_count, renumbered_number, asking_number, closing_number, firm_number}
use Rattle.directory_protocol.proofs.Counted.{counts_seen, counts_turn, held_or_not}
use Rattle.directory_protocol.proofs.Spent.{spent_lower, spent_stays}

pub spent_start : (m : Setting) → SpentOf m start
spent_start m = record { let_go = λ r q. absurd q; replied = λ y g x q. absurd q }

-- an answer answers its request's purpose
pub answered_purpose :
    (purpose : Purpose) (a : ActivationId) (previous before : Option ActivationId) (answer : Answer) (entry : Option ActivationId)
    → IsAnswered purpose a previous before answer entry → purpose_of answer ≡ purpose
answered_purpose Register a previous before answer entry (inl i) = ap purpose_of i.0
answered_purpose Register a previous before answer entry (inr i) = ap purpose_of i.0
answered_purpose Deregister a previous before answer entry i = ap purpose_of i.0

module _ (m : Setting) (w : World) (p : Placed m w) (k : SpentOf m w) where
  -- nothing changes but that time goes on and that levels rise
  spent_later :
      (now' : ℕ) (level' : ℕ → ℕ) → IsLater m w.now w.seen now' w.seen → ((h : ℕ) → w.level h ≤ level' h)
      → Spent m now' w.seen w.held w.served level' w.requests w.replies
  spent_later now' level' later rises =
      record {
        let_go = λ r q b n. still r.sender (m.hash r.grain) r.version r.number (k.let_go r q b n);
        replied = λ y g x q c. still y.receiver (m.hash g) y.version y.number (k.replied y g x q c);
      }
    where
      still : (t : Silo) (h v n : ℕ) → IsSpent m w.now w.seen w.served w.level t h v n → IsSpent m now' w.seen w.served level' t h v n
      still t h v n =
          spent_stays m w.now w.seen now' w.seen later w.served w.served w.level level' t h v n (rises h) (λ s e o a. inr (omega arith))

  spent_settled : (x : Settling) → ((h : ℕ) → x.part h ≡ true → w.level h < w.seen x.silo) → SpentOf m (after_settling m w x)
  spent_settled x below =
      spent_later w.now (where_true x.part (λ h. w.seen x.silo) w.level) (later_same m w.now w.seen)
      (λ h. on_bool (λ b. w.level h ≤ cond b (w.seen x.silo) (w.level h)) (x.part h) (λ u.
      let a : w.level h < w.seen x.silo = below h u in
      omega arith) (λ u. omega arith))

  spent_seen : (x : Sight) → MaySee m w x → NumbersOf m w → SpentOf m (after m w (See x))
  spent_seen x may n =
      record {
        let_go = λ r q b d. still r.sender (m.hash r.grain) r.version r.number (k.let_go r q b d);
        replied = λ y g z q c. still y.receiver (m.hash g) y.version y.number (k.replied y g z q (counts_seen m w x may n y g z q c));
      }
    where
      seen' : Silo → ℕ
      seen' = put x.silo x.version w.seen

      served' : Silo → Silo → ℕ
      served' = put x.silo (λ t. 0) w.served

      rises : (h : ℕ) → w.level h ≤ where_true x.kept (λ h. x.version) w.level h
      rises h =
          on_bool (λ b. w.level h ≤ cond b x.version (w.level h)) (x.kept h)
          (λ u. let a : w.level h ≡ w.seen x.silo = sight_level m w x may p h u in omega (arith, may.newer))
          (λ u. omega arith)

      serves :
          (t : Silo) (h : ℕ) (s : Silo) → m.owner (w.level h) h ≡ Some s → m.alive w.now s ≡ true
          → (w.level h < seen' s) ⊎ (w.served s t ≤ served' s t)
      serves t h s o a =
          elim (silo_cases s x.silo) [
            | inl e ↦
                inl
                (let saw : seen' s ≡ x.version = ap seen' e ∙ put_same x.silo x.version w.seen in
                let at : w.level h ≤ w.seen s = elim (p.levels.top s h o a) [
                  | inl l ↦ omega arith
                  | inr l ↦ (let b : w.seen s ≡ w.level h = l.0 in
                      omega arith)
                ] in
                let same : w.seen s ≡ w.seen x.silo = ap w.seen e in
                omega (arith, may.newer))
            | inr e ↦ inr (let same : served' s t ≡ w.served s t = ap (λ f. f t) (put_other x.silo (λ t. 0) w.served s e) in omega arith)
          ]

      still :
          (t : Silo) (h v i : ℕ) → IsSpent m w.now w.seen w.served w.level t h v i
          → IsSpent m w.now seen' served' (where_true x.kept (λ h. x.version) w.level) t h v i
      still t h v i =
          spent_stays m w.now w.seen w.now seen' (later_sight m w x may) w.served served' w.level
          (where_true x.kept (λ h. x.version) w.level) t h v i (rises h) (λ s e o a. serves t h s o a)

  -- what a silo holds of one grain changes, the activation staying, and its new number being the next one
  spent_turn :
      NumbersOf m w → (s : Silo) (g : Grain) (o : Option Held)
      → ((x : Held) → w.held s g ≡ Some x → (x' : Held) × (o ≡ Some x') × (count_of x' ≡ count_of x))
      → ((x : Held) (purpose : Purpose) (i : ℕ) → o ≡ Some x → outstanding purpose x ≡ Some i → i ≡ w.next_number s)
      → Spent m w.now w.seen (put_at s g o w.held) w.served w.level w.requests w.replies
  spent_turn n s g o stays fresh =
      record {
        let_go = λ r q b d. k.let_go r q b (λ x e c. let y = held_on r.sender r.grain x e in d y.0 y.1 (y.2 ∙ c));
        replied = λ y h x q c. k.replied y h x q (counts_turn m w n s g o fresh y h x q c);
      }
    where
      held_on :
          (q : Silo) (r : Grain) (x : Held) → w.held q r ≡ Some x
          → (x' : Held) × (put_at s g o w.held q r ≡ Some x') × (count_of x' ≡ count_of x)
      held_on =
          put_at_all (λ q r o. (x : Held) → w.held q r ≡ Some x → (x' : Held) × (o ≡ Some x') × (count_of x' ≡ count_of x)) s g o w.held
          stays (λ q r d x e. (x, e, refl))

  -- a registration of what is held isn't let go
  spent_asked :
      NumbersOf m w → (s : Silo) (g : Grain) (x : Held) (r : Request) → r.sender ≡ s → r.grain ≡ g → count_of x ≡ r.count
      → Spent m w.now w.seen (put_at s g (Some x) w.held) w.served w.level w.requests w.replies
      → Spent m w.now w.seen (put_at s g (Some x) w.held) w.served w.level (r ∷ w.requests) w.replies
  spent_asked n s g x r sender grain count sp =
      record {
        let_go =
            sent_all (λ r. r.purpose ≡ Register → ((x' : Held) → put_at s g (Some x) w.held r.sender r.grain ≡ Some x'
            → count_of x' ≢ r.count) → IsSpent m w.now w.seen w.served w.level r.sender (m.hash r.grain) r.version r.number) r
            w.requests
            (λ b d. absurd (d x (ap (λ q. put_at s g (Some x) w.held q r.grain) sender ∙ ap (put_at s g (Some x) w.held s) grain
            ∙ put_at_same s g (Some x) w.held) count))
            sp.let_go;
        replied = sp.replied;
      }

  -- an activation is held closing from now on
  spent_closing :
      NumbersOf m w → (s : Silo) (g : Grain) (x : Held) → MayClose m w s g x
      → Spent m w.now w.seen (put_at s g (Some (Closing (count_of x) (w.next_number s))) w.held) w.served w.level w.requests w.replies
  spent_closing n s g x may =
      spent_turn n s g (Some (Closing (count_of x) (w.next_number s))) (λ y e.
      let held : w.held s g ≡ Some x = may.held in
      let same : x ≡ y = cc in
      (Closing (count_of x) (w.next_number s), refl, ap count_of same))
      (λ y purpose i e u. let same : Closing (count_of x) (w.next_number s) ≡ y = cc in
      closing_number (count_of x) (w.next_number s) purpose i (ap (outstanding purpose) same ∙ u))

  spent_left : NumbersOf m w → (y : Reply) (g : Grain) (x : Held) → MayLeave m w y g x → SpentOf m (after m w (Leave y g x))
  spent_left n y g x may =
      record {
        let_go = λ r q b d. let_go r q b d (held_or_not w.held r.sender r.grain r.count);
        replied = λ z h x' q c.
            k.replied z h x' q
            (record {
              held_there =
                  put_at_all (λ q h o. o ≡ Some x' → w.held q h ≡ Some x') y.receiver g None w.held (λ e. absurd cc) (λ q h i e. e)
                  z.receiver h c.held_there;
              same_number = c.same_number;
              same_version = c.same_version;
            });
      }
    where
      let_go :
          (r : Request) → Sent r w.requests → r.purpose ≡ Register
          → ((z : Held) → put_at y.receiver g None w.held r.sender r.grain ≡ Some z → count_of z ≢ r.count)
          → ((z : Held) × (w.held r.sender r.grain ≡ Some z) × (count_of z ≡ r.count))
          ⊎ ((z : Held) → w.held r.sender r.grain ≡ Some z → count_of z ≢ r.count)
          → IsSpent m w.now w.seen w.served w.level r.sender (m.hash r.grain) r.version r.number
      let_go r q b d (inr i) = k.let_go r q b i
      let_go r q b d (inl i) = gone (silo_cases r.sender y.receiver) (grain_cases r.grain g)
        where
          gone :
              (r.sender ≡ y.receiver) ⊎ (r.sender ≢ y.receiver) → (r.grain ≡ g) ⊎ (r.grain ≢ g)
              → IsSpent m w.now w.seen w.served w.level r.sender (m.hash r.grain) r.version r.number
          gone (inl a) (inl c) =
              let held_x : w.held r.sender r.grain ≡ Some x = ap (λ q. w.held q r.grain) a ∙ ap (w.held y.receiver) c ∙ may.accepted.counts.held_there in
              let same : i.0 ≡ x = cc in
              let number : r.number ≤ y.number = n.newest r x (purpose_of y.answer) y.number q b held_x (sym (ap count_of same) ∙ i.2) may.accepted.counts.same_number in
              let saw : w.seen r.sender ≡ w.seen y.receiver = ap w.seen a in
              let version : r.version ≤ y.version = omega (arith, n.request_seen r q, may.accepted.counts.same_version) in
              let old : IsSpent m w.now w.seen w.served w.level r.sender (m.hash r.grain) y.version y.number = subst (λ s. IsSpent m w.now w.seen w.served w.level s (m.hash r.grain) y.version y.number) (sym a) (subst (λ h. IsSpent m w.now w.seen w.served w.level y.receiver (m.hash h) y.version y.number) (sym c) (k.replied y g x may.accepted.sent may.accepted.counts)) in
              spent_lower m w.now w.seen w.served w.level r.sender (m.hash r.grain) y.version y.number r.version r.number version number old
          gone (inl a) (inr c) = absurd (d i.0 (put_at_other y.receiver g None w.held r.sender r.grain (λ e. c) ∙ i.1) i.2)
          gone (inr a) c = absurd (d i.0 (put_at_other y.receiver g None w.held r.sender r.grain (λ e. absurd (a e)) ∙ i.1) i.2)

  spent_served : NumbersOf m w → (x : Service) → MayServe m w x → SpentOf m (after m w (Serve x))
  spent_served n x may =
      record {
        let_go = λ r q b d. still r.sender (m.hash r.grain) r.version r.number (k.let_go r q b d);
        replied = λ y g z q.
            sent_all (λ y. Counts w.seen w.held y g z → IsSpent m w.now w.seen served' w.level y.receiver (m.hash g) y.version y.number)
            (replied x) w.replies
            (λ c.
            let purpose : purpose_of x.answer ≡ x.request.purpose = answered_purpose x.request.purpose (named x.request) x.request.previous (w.table x.server x.request.grain) x.answer x.entry may.answered in
            let grain : g ≡ x.request.grain = n.same_grain x.request g z may.sent c.held_there (subst (λ p. outstanding p z ≡ Some x.request.number) purpose c.same_number) in
            subst (λ g. IsSpent m w.now w.seen served' w.level x.request.sender (m.hash g) x.request.version x.request.number) (sym grain)
            just_served)
            (λ y q c. still y.receiver (m.hash g) y.version y.number (k.replied y g z q c))
            y q;
      }
    where
      served' : Silo → Silo → ℕ
      served' = put x.server (put x.request.sender x.request.number (w.served x.server)) w.served

      rises : (s t : Silo) → w.served s t ≤ served' s t
      rises s t =
          put_all (λ s f. w.served s t ≤ f t) x.server (put x.request.sender x.request.number (w.served x.server)) w.served
          (put_all (λ t n. w.served x.server t ≤ n) x.request.sender x.request.number (w.served x.server) (omega (arith, may.new_number))
          (λ t d. omega arith) t)
          (λ s d. omega arith)
          s

      still : (t : Silo) (h v i : ℕ) → IsSpent m w.now w.seen w.served w.level t h v i → IsSpent m w.now w.seen served' w.level t h v i
      still t h v i =
          spent_stays m w.now w.seen w.now w.seen (later_same m w.now w.seen) w.served served' w.level w.level t h v i (omega arith)
          (λ s e o a. inr (rises s t))

      h : ℕ
      h = m.hash x.request.grain

      at : w.level h ≡ x.request.version
      at = p.levels.at_level x.server h may.alive may.settled ∙ may.same_version

      just_served : IsSpent m w.now w.seen served' w.level x.request.sender h x.request.version x.request.number
      just_served =
          record {
            reached = omega (arith, at);
            used = λ e s o a.
                let mine : m.owner x.request.version h ≡ Some x.server = subst (λ j. m.owner j h ≡ Some x.server) may.same_version (p.structure.owned x.server h may.settled) in
                let same : s ≡ x.server = cc in
                let last : served' x.server x.request.sender ≡ x.request.number = ap (λ f. f x.request.sender) (put_same x.server (put x.request.sender x.request.number (w.served x.server)) w.served) ∙ put_same x.request.sender x.request.number (w.served x.server) in
                let there : served' s x.request.sender ≡ x.request.number = ap (λ s. served' s x.request.sender) same ∙ last in
                inr (omega arith);
          }

pub spent_after :
    (m : Setting) (w : World) (a : Action) → Allowed m w a → Placed m w → NumbersOf m w → SpentOf m w → SpentOf m (after m w a)
spent_after m w New_view may p n k = spent_later m w p k (suc w.now) w.level (later_view m w.now w.seen) (λ h. omega arith)
spent_after m w (See x) may p n k = spent_seen m w p k x may n
spent_after m w (Start s g previous) may p n k =
    spent_asked m w p k n s g (Asking (w.next_count s) (w.next_number s) previous) (asked w Register s g (w.next_count s) previous) refl
    refl refl
    (spent_turn m w p k n s g (Some (Asking (w.next_count s) (w.next_number s) previous)) (λ x e.
    let free : w.held s g ≡ None = may.free in
    absurd cc)
    (λ x purpose i e u. let same : Asking (w.next_count s) (w.next_number s) previous ≡ x = cc in
    asking_number (w.next_count s) (w.next_number s) previous purpose i (ap (outstanding purpose) same ∙ u)))
spent_after m w (Close s g x) may p n k =
    spent_asked m w p k n s g (Closing (count_of x) (w.next_number s)) (asked w Deregister s g (count_of x) None) refl refl refl
    (spent_closing m w p k n s g x may)
spent_after m w (Offer_away s g c) may p n k = spent_closing m w p k n s g (Firm c) may
spent_after m w (Renew s g x purpose) may p n k =
    spent_asked m w p k n s g (renumbered (w.next_number s) x) (asked w purpose s g (count_of x) (previous_of x)) refl refl
    (renumbered_count (w.next_number s) x)
    (spent_turn m w p k n s g (Some (renumbered (w.next_number s) x)) (λ y e.
    let there : w.held s g ≡ Some x = may.held in
    let same : x ≡ y = cc in
    (renumbered (w.next_number s) x, refl, renumbered_count (w.next_number s) x ∙ ap count_of same))
    (λ y purpose i e u. let same : renumbered (w.next_number s) x ≡ y = cc in
    renumbered_number (w.next_number s) x purpose i (ap (outstanding purpose) same ∙ u)))
spent_after m w (Find s) may p n k = record { let_go = k.let_go; replied = k.replied }
spent_after m w (Serve x) may p n k = spent_served m w p k n x may
spent_after m w (Confirm y g x) may p n k =
    spent_turn m w p k n y.receiver g (Some (Firm (count_of x))) (λ z e.
    let there : w.held y.receiver g ≡ Some x = may.accepted.counts.held_there in
    let same : x ≡ z = cc in
    (Firm (count_of x), refl, ap count_of same))
    (λ z purpose i e u. let same : Firm (count_of x) ≡ z = cc in
    absurd (firm_number (count_of x) purpose i (ap (outstanding purpose) same ∙ u)))
spent_after m w (Leave y g x) may p n k = spent_left m w p k n y g x may
spent_after m w (Tell s) may p n k = k
spent_after m w (Install x snapshot) may p n k = spent_settled m w p k x (λ h u.
    let at : w.level h ≡ snapshot.sealed_at = install_level m w x snapshot may p h u in
    omega (arith, may.same_version))
spent_after m w (Recover x told) may p n k = spent_settled m w p k x (recover_below m w x told may p)

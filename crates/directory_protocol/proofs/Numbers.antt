-- Request numbers: kept by every action.
use Rattle.std.proofs.Common.{◌≡◌, ◌<◌, ◌≤◌, ℕ, suc, true, Option, Some, None, List, ◌∷◌, sym, refl, ap, ◌∙◌, arith}
use Rattle.silo_address.specs.Silo.{Silo}
use Rattle.silo_address.specs.Grain.{Grain}
use Rattle.silo_address.specs.declared.activation.ActivationId.{ActivationId}
use Rattle.directory_protocol.specs.Change.{put, put_at}
use Rattle.directory_protocol.specs.Setting.{Setting}
use Rattle.directory_protocol.specs.Letters.{Purpose, Register, Deregister, Request, Reply, Sent}
use Rattle.directory_protocol.specs.World.{World, start, Held, Asking, Firm, Closing, count_of, outstanding, renumbered, previous_of}
use Rattle.directory_protocol.specs.Actions.{Action, New_view, See, Start, Close, Offer_away, Renew, Find, Serve, Confirm, Leave, Tell, Install, Recover, Allowed, Service, MayServe}
use Rattle.directory_protocol.specs.Effects.{after, replied}
use Rattle.directory_protocol.specs.Requests.{Numbers, NumbersOf}
use Rattle.directory_protocol.specs.Invariant.{Placed}
use Rattle.directory_protocol.proofs.Changes.{put_all, put_same, put_at_all, put_at_same, sent_all}
use Rattle.directory_protocol.proofs.Left.{IsLater}
use Rattle.directory_protocol.proofs.Sights.{later_sight}

pub numbers_start : (m : Setting) → NumbersOf m start
numbers_start m =
    record {
      outstanding_used = λ s g x q n e. absurd cc;
      request_used = λ r q. absurd q;
      reply_used = λ y q. absurd q;
      request_seen = λ r q. absurd q;
      reply_seen = λ y q. absurd q;
      request_member = λ r q. absurd q;
      same_grain = λ r g x q. absurd q;
      same_count = λ r g x q. absurd q;
      newest = λ r x q n p. absurd p;
    }

-- a request under another number is about the same activation, and has that number
pub renumbered_count : (n : ℕ) (x : Held) → count_of (renumbered n x) ≡ count_of x
renumbered_count n (Asking c i p) = refl
renumbered_count n (Firm c) = refl
renumbered_count n (Closing c i) = refl

pub renumbered_number : (n : ℕ) (x : Held) (purpose : Purpose) (i : ℕ) → outstanding purpose (renumbered n x) ≡ Some i → i ≡ n
renumbered_number n (Asking c j p) Register i e = cc
renumbered_number n (Asking c j p) Deregister i e = absurd cc
renumbered_number n (Firm c) Register i e = absurd cc
renumbered_number n (Firm c) Deregister i e = absurd cc
renumbered_number n (Closing c j) Register i e = absurd cc
renumbered_number n (Closing c j) Deregister i e = cc

pub asking_number : (c n : ℕ) (p : Option ActivationId) (purpose : Purpose) (i : ℕ) → outstanding purpose (Asking c n p) ≡ Some i → i ≡ n
asking_number c n p Register i e = cc
asking_number c n p Deregister i e = absurd cc

pub closing_number : (c n : ℕ) (purpose : Purpose) (i : ℕ) → outstanding purpose (Closing c n) ≡ Some i → i ≡ n
closing_number c n Register i e = absurd cc
closing_number c n Deregister i e = cc

pub firm_number : (c : ℕ) (purpose : Purpose) (i : ℕ) → outstanding purpose (Firm c) ≡ Some i → ⊥
firm_number c Register i e = cc
firm_number c Deregister i e = cc

-- numbers only rise, and what a silo holds of one grain changes: an outstanding number there is the next one
module _ (m : Setting) (seen : Silo → ℕ) (held : Silo → Grain → Option Held) (next next' : Silo → ℕ) (requests : List Request)
    (replies : List Reply) (k : Numbers m seen held next requests replies) (rises : (q : Silo) → next q ≤ next' q) (s : Silo) (g : Grain)
    (o : Option Held) where
  pub numbers_turn :
      ((x : Held) (purpose : Purpose) (n : ℕ) → o ≡ Some x → outstanding purpose x ≡ Some n → (n ≡ next s) × (n < next' s))
      → Numbers m seen (put_at s g o held) next' requests replies
  numbers_turn fresh =
      record {
        outstanding_used =
            put_at_all (λ q r o. (x : Held) (purpose : Purpose) (n : ℕ) → o ≡ Some x → outstanding purpose x ≡ Some n → n < next' q) s g o
            held
            (λ x purpose n e u. (fresh x purpose n e u).1)
            (λ q r d x purpose n e u.
            let a : n < next q = k.outstanding_used q r x purpose n e u in
            let b : next q ≤ next' q = rises q in
            omega arith);
        request_used = λ r q.
            let a : r.number < next r.sender = k.request_used r q in
            let b : next r.sender ≤ next' r.sender = rises r.sender in
            omega arith;
        reply_used = λ y q.
            let a : y.number < next y.receiver = k.reply_used y q in
            let b : next y.receiver ≤ next' y.receiver = rises y.receiver in
            omega arith;
        request_seen = k.request_seen;
        reply_seen = k.reply_seen;
        request_member = k.request_member;
        same_grain = λ r h x q e u. (named_there r q r.sender h refl x e u).0;
        same_count = λ r h x q e u. (named_there r q r.sender h refl x e u).1;
        newest = λ r x purpose n q b e c u. at_most r q r.sender r.grain refl refl x purpose n b e c u;
      }
    where
      named_there :
          (r : Request) → Sent r requests → (q : Silo) (h : Grain) → q ≡ r.sender → (x : Held) → put_at s g o held q h ≡ Some x
          → outstanding r.purpose x ≡ Some r.number → (h ≡ r.grain) × (count_of x ≡ r.count)
      named_there r t =
          put_at_all (λ q h o. q ≡ r.sender → (x : Held) → o ≡ Some x → outstanding r.purpose x ≡ Some r.number
          → (h ≡ r.grain) × (count_of x ≡ r.count)) s g o held
          (λ d x e u.
          let a : r.number ≡ next s = (fresh x r.purpose r.number e u).0 in
          let b : r.number < next r.sender = k.request_used r t in
          let c : next s ≡ next r.sender = ap next d in
          absurd (omega arith))
          (λ q h n d x e u.
          let f : held r.sender h ≡ Some x = sym (ap (λ q. held q h) d) ∙ e in
          (k.same_grain r h x t f u, k.same_count r h x t f u))

      at_most :
          (r : Request) → Sent r requests → (q : Silo) (h : Grain) → q ≡ r.sender → h ≡ r.grain → (x : Held) (purpose : Purpose)
          (n : ℕ) → r.purpose ≡ Register → put_at s g o held q h ≡ Some x → count_of x ≡ r.count → outstanding purpose x ≡ Some n
          → r.number ≤ n
      at_most r t =
          put_at_all (λ q h o. q ≡ r.sender → h ≡ r.grain → (x : Held) (purpose : Purpose) (n : ℕ) → r.purpose ≡ Register → o ≡ Some x
          → count_of x ≡ r.count → outstanding purpose x ≡ Some n → r.number ≤ n) s g o held
          (λ d i x purpose n b e c u.
          let a : n ≡ next s = (fresh x purpose n e u).0 in
          let b : r.number < next r.sender = k.request_used r t in
          let c : next s ≡ next r.sender = ap next d in
          omega arith)
          (λ q h j d i x purpose n b e c u. k.newest r x purpose n t b (sym (ap (λ q. held q r.grain) d) ∙ sym (ap (λ h. held q h) i) ∙ e) c
          u)

-- a silo's next number goes to a request about what it holds of a grain from now on
module _ (m : Setting) (w : World) (k : NumbersOf m w) (member : (s : Silo) → 1 ≤ w.seen s → m.member (w.seen s) s ≡ true) (s : Silo)
    (g : Grain) (x : Held) where
  pub next_rises : (q : Silo) → w.next_number q ≤ put s (suc (w.next_number s)) w.next_number q
  next_rises = put_all (λ q n. w.next_number q ≤ n) s (suc (w.next_number s)) w.next_number (omega arith) (λ q n. omega arith)

  pub numbers_taken :
      ((purpose : Purpose) (n : ℕ) → outstanding purpose x ≡ Some n → n ≡ w.next_number s)
      → Numbers m w.seen (put_at s g (Some x) w.held) (put s (suc (w.next_number s)) w.next_number) w.requests w.replies
  numbers_taken number =
      numbers_turn m w.seen w.held w.next_number (put s (suc (w.next_number s)) w.next_number) w.requests w.replies k next_rises s g
      (Some x)
      (λ y purpose n e u.
      let same : x ≡ y = cc in
      let i : n ≡ w.next_number s = number purpose n (ap (outstanding purpose) same ∙ u) in
      (i, rw (put_same s (suc (w.next_number s)) w.next_number) (omega arith)))

  pub numbers_asked :
      (purpose : Purpose) (c : ℕ) (previous : Option ActivationId) → count_of x ≡ c
      → ((purpose : Purpose) (n : ℕ) → outstanding purpose x ≡ Some n → n ≡ w.next_number s)
      → Numbers m w.seen (put_at s g (Some x) w.held) (put s (suc (w.next_number s)) w.next_number)
      (record { purpose = purpose; version = w.seen s; number = w.next_number s; sender = s; grain = g; count = c; previous = previous } ∷
      w.requests) w.replies
  numbers_asked purpose c previous count number =
      record {
        outstanding_used = k'.outstanding_used;
        request_used =
            sent_all (λ r. r.number < put s (suc (w.next_number s)) w.next_number r.sender) new w.requests
            (rw (put_same s (suc (w.next_number s)) w.next_number) (omega arith)) k'.request_used;
        reply_used = k'.reply_used;
        request_seen = sent_all (λ r. r.version ≤ w.seen r.sender) new w.requests (omega arith) k'.request_seen;
        reply_seen = k'.reply_seen;
        request_member = sent_all (λ r. 1 ≤ r.version → m.member r.version r.sender ≡ true) new w.requests (member s) k'.request_member;
        same_grain =
            λ r h y q. sent_all (λ r. (h : Grain) (y : Held) → put_at s g (Some x) w.held r.sender h ≡ Some y
            → outstanding r.purpose y ≡ Some r.number → h ≡ r.grain) new w.requests
            (λ h y e u. (mine s h refl y e u).0)
            (λ r q h y. k'.same_grain r h y q)
            r q h y;
        same_count =
            λ r h y q. sent_all (λ r. (h : Grain) (y : Held) → put_at s g (Some x) w.held r.sender h ≡ Some y
            → outstanding r.purpose y ≡ Some r.number → count_of y ≡ r.count) new w.requests
            (λ h y e u. (mine s h refl y e u).1)
            (λ r q h y. k'.same_count r h y q)
            r q h y;
        newest =
            λ r y p n q. sent_all (λ r. (y : Held) (p : Purpose) (n : ℕ) → r.purpose ≡ Register
            → put_at s g (Some x) w.held r.sender r.grain ≡ Some y → count_of y ≡ r.count → outstanding p y ≡ Some n
            → r.number ≤ n) new w.requests
            (λ y p n b e d u.
            let same : x ≡ y = put_some e in
            let i : n ≡ w.next_number s = number p n (ap (outstanding p) same ∙ u) in
            omega arith)
            (λ r q y p n. k'.newest r y p n q)
            r q y p n;
      }
    where
      new : Request
      new =
          record { purpose = purpose; version = w.seen s; number = w.next_number s; sender = s; grain = g; count = c; previous = previous }

      k' : Numbers m w.seen (put_at s g (Some x) w.held) (put s (suc (w.next_number s)) w.next_number) w.requests w.replies
      k' = numbers_taken number

      put_some : {y : Held} → put_at s g (Some x) w.held s g ≡ Some y → x ≡ y
      put_some e = let a : put_at s g (Some x) w.held s g ≡ Some x = put_at_same s g (Some x) w.held in cc

      mine :
          (q : Silo) (h : Grain) → q ≡ s → (y : Held) → put_at s g (Some x) w.held q h ≡ Some y
          → outstanding purpose y ≡ Some (w.next_number s) → (h ≡ g) × (count_of y ≡ c)
      mine =
          put_at_all (λ q h o. q ≡ s → (y : Held) → o ≡ Some y → outstanding purpose y ≡ Some (w.next_number s)
          → (h ≡ g) × (count_of y ≡ c)) s g (Some x) w.held
          (λ d y e u. let same : x ≡ y = cc in (refl, sym (ap count_of same) ∙ count))
          (λ q h n d y e u.
          let a : w.next_number s < w.next_number q = k.outstanding_used q h y purpose (w.next_number s) e u in
          let b : w.next_number q ≡ w.next_number s = ap w.next_number d in
          absurd (omega arith))

numbers_seen :
    (m : Setting) (w : World) → NumbersOf m w → (seen' : Silo → ℕ) → IsLater m w.now w.seen w.now seen'
    → Numbers m seen' w.held w.next_number w.requests w.replies
numbers_seen m w k seen' later =
    record {
      outstanding_used = k.outstanding_used;
      request_used = k.request_used;
      reply_used = k.reply_used;
      request_seen = λ r q.
          let a : r.version ≤ w.seen r.sender = k.request_seen r q in
          let b : w.seen r.sender ≤ seen' r.sender = later.no_less r.sender in
          omega arith;
      reply_seen = λ y q.
          let a : y.version ≤ w.seen y.receiver = k.reply_seen y q in
          let b : w.seen y.receiver ≤ seen' y.receiver = later.no_less y.receiver in
          omega arith;
      request_member = k.request_member;
      same_grain = k.same_grain;
      same_count = k.same_count;
      newest = k.newest;
    }

-- a number is taken for a find
numbers_find : (m : Setting) (w : World) (s : Silo) → NumbersOf m w → NumbersOf m (after m w (Find s))
numbers_find m w s k =
    record {
      outstanding_used = λ q g x p n e u.
          let a : n < w.next_number q = k.outstanding_used q g x p n e u in
          let b : w.next_number q ≤ put s (suc (w.next_number s)) w.next_number q = rises q in
          omega arith;
      request_used = λ r q.
          let a : r.number < w.next_number r.sender = k.request_used r q in
          let b : w.next_number r.sender ≤ put s (suc (w.next_number s)) w.next_number r.sender = rises r.sender in
          omega arith;
      reply_used = λ y q.
          let a : y.number < w.next_number y.receiver = k.reply_used y q in
          let b : w.next_number y.receiver ≤ put s (suc (w.next_number s)) w.next_number y.receiver = rises y.receiver in
          omega arith;
      request_seen = k.request_seen;
      reply_seen = k.reply_seen;
      request_member = k.request_member;
      same_grain = k.same_grain;
      same_count = k.same_count;
      newest = k.newest;
    }
  where
    rises : (q : Silo) → w.next_number q ≤ put s (suc (w.next_number s)) w.next_number q
    rises = put_all (λ q n. w.next_number q ≤ n) s (suc (w.next_number s)) w.next_number (omega arith) (λ q n. omega arith)

-- a reply has the number and version of its request
numbers_serve : (m : Setting) (w : World) (x : Service) → MayServe m w x → NumbersOf m w → NumbersOf m (after m w (Serve x))
numbers_serve m w x may k =
    record {
      outstanding_used = k.outstanding_used;
      request_used = k.request_used;
      reply_used =
          sent_all (λ y. y.number < w.next_number y.receiver) (replied x) w.replies (k.request_used x.request may.sent) k.reply_used;
      request_seen = k.request_seen;
      reply_seen = sent_all (λ y. y.version ≤ w.seen y.receiver) (replied x) w.replies (k.request_seen x.request may.sent) k.reply_seen;
      request_member = k.request_member;
      same_grain = k.same_grain;
      same_count = k.same_count;
      newest = k.newest;
    }

-- an activation is held without a request, or no more
numbers_quiet :
    (m : Setting) (w : World) (s : Silo) (g : Grain) (o : Option Held)
    → ((x : Held) (purpose : Purpose) (n : ℕ) → o ≡ Some x → outstanding purpose x ≡ Some n → ⊥) → NumbersOf m w
    → Numbers m w.seen (put_at s g o w.held) w.next_number w.requests w.replies
numbers_quiet m w s g o none k =
    numbers_turn m w.seen w.held w.next_number w.next_number w.requests w.replies k (λ q. omega arith) s g o
    (λ x p n e u. absurd (none x p n e u))

pub numbers_after : (m : Setting) (w : World) (a : Action) → Allowed m w a → Placed m w → NumbersOf m w → NumbersOf m (after m w a)
numbers_after m w New_view may p k = k
numbers_after m w (See x) may p k = numbers_seen m w k (put x.silo x.version w.seen) (later_sight m w x may)
numbers_after m w (Start s g previous) may p k =
    numbers_asked m w k p.structure.member s g (Asking (w.next_count s) (w.next_number s) previous) Register (w.next_count s) previous refl
    (asking_number (w.next_count s) (w.next_number s) previous)
numbers_after m w (Close s g x) may p k =
    numbers_asked m w k p.structure.member s g (Closing (count_of x) (w.next_number s)) Deregister (count_of x) None refl
    (closing_number (count_of x) (w.next_number s))
numbers_after m w (Offer_away s g c) may p k =
    numbers_taken m w k p.structure.member s g (Closing c (w.next_number s)) (closing_number c (w.next_number s))
numbers_after m w (Renew s g x purpose) may p k =
    numbers_asked m w k p.structure.member s g (renumbered (w.next_number s) x) purpose (count_of x) (previous_of x)
    (renumbered_count (w.next_number s) x) (renumbered_number (w.next_number s) x)
numbers_after m w (Find s) may p k = numbers_find m w s k
numbers_after m w (Serve x) may p k = numbers_serve m w x may k
numbers_after m w (Confirm y g x) may p k =
    numbers_quiet m w y.receiver g (Some (Firm (count_of x))) (λ z purpose n e u.
    let same : Firm (count_of x) ≡ z = cc in
    firm_number (count_of x) purpose n (ap (outstanding purpose) same ∙ u)) k
numbers_after m w (Leave y g x) may p k = numbers_quiet m w y.receiver g None (λ z purpose n e u. cc) k
numbers_after m w (Tell s) may p k = k
numbers_after m w (Install x snapshot) may p k = k
numbers_after m w (Recover x told) may p k = k

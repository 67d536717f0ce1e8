-- Structure and levels are kept by every action, and they give that a hash is settled at one silo at most.
use Rattle.std.proofs.Common.{◌≡◌, ◌≢◌, ◌<◌, ◌≤◌, ℕ, suc, true, Some, ◌∷◌, inl, inr, sym, ap, subst, arith}
use Rattle.silo_address.specs.Silo.{Silo}
use Rattle.directory_protocol.specs.Setting.{Setting}
use Rattle.directory_protocol.specs.World.{World, start}
use Rattle.directory_protocol.specs.Actions.{Action, New_view, See, Start, Close, Offer_away, Renew, Find, Serve, Confirm, Leave, Tell, Install, Recover, Allowed}
use Rattle.directory_protocol.specs.Effects.{reported, after}
use Rattle.directory_protocol.specs.Levels.{IsBarred}
use Rattle.directory_protocol.specs.Invariant.{Placed}
use Rattle.directory_protocol.specs.Safety.{OneSettles}
use Rattle.directory_protocol.proofs.Changes.{sent_all}
use Rattle.directory_protocol.proofs.Left.{IsLater, later_view, left_stays, barred_stays}
use Rattle.directory_protocol.proofs.Sights.{placed_sight}
use Rattle.directory_protocol.proofs.Settlings.{placed_install, placed_recover}

pub placed_start : (m : Setting) → Placed m start
placed_start m =
    record {
      structure = record {
        known = λ s. omega arith;
        member = λ s l. absurd (omega arith);
        owned = λ s h e. absurd cc;
      };
      levels = record {
        low = λ h. omega arith;
        at_level = λ s h a e. absurd cc;
        top = λ s h o a. absurd (m.no_owner_at_first h s o);
        below = λ h k l. absurd (omega arith);
        sealed_low = λ x h q c. absurd q;
        sealed_left = λ x h q c. absurd q;
        sealed_once = λ x y h q r c d e. absurd q;
        told_member = λ x q l. absurd q;
        told_seen = λ x q. absurd q;
      };
    }

placed_view : (m : Setting) (w : World) → Placed m w → Placed m (after m w New_view)
placed_view m w p =
    record {
      structure = record {
        known = λ s. let l : w.seen s ≤ w.now = p.structure.known s in omega arith;
        member = p.structure.member;
        owned = p.structure.owned;
      };
      levels = record {
        low = λ h. let l : w.level h ≤ w.now = p.levels.low h in omega arith;
        at_level = λ s h a t. p.levels.at_level s h (later.alive s a) t;
        top = λ s h o a. p.levels.top s h o (later.alive s a);
        below = λ h k l.
            elim (p.levels.below h k l) [
              | inl i ↦ inl (left_stays m w.now w.seen (suc w.now) w.seen later h k i)
              | inr b ↦ inr (barred_stays m w.now w.seen (suc w.now) w.seen later h k w.snapshots w.snapshots w.reports (λ x q c. inl q) b)
            ];
        sealed_low = p.levels.sealed_low;
        sealed_left = λ x h q c. left_stays m w.now w.seen (suc w.now) w.seen later h x.sealed_at (p.levels.sealed_left x h q c);
        sealed_once = p.levels.sealed_once;
        told_member = p.levels.told_member;
        told_seen = p.levels.told_seen;
      };
    }
  where
    later : IsLater m w.now w.seen (suc w.now) w.seen
    later = later_view m w.now w.seen

-- a live silo that reports has not gone past the version of its report
still_barred :
    (m : Setting) (w : World) (s : Silo) → m.alive w.now s ≡ true → (h k : ℕ) → IsBarred m w.now w.seen w.snapshots w.reports h k
    → IsBarred m w.now w.seen w.snapshots (reported w s ∷ w.reports) h k
still_barred m w s a h k b =
    record {
      none_sealed = b.none_sealed;
      silent = b.silent;
      was_member = b.was_member;
      went_past = b.went_past;
      none_told = sent_all (λ x. x.sender ≡ b.silent → x.version ≢ k) (reported w s) w.reports
          (λ e v.
          let past : k < w.seen b.silent = b.went_past (subst (λ q. m.alive w.now q ≡ true) e a) in
          let same : w.seen s ≡ w.seen b.silent = ap w.seen e in
          omega arith)
          b.none_told;
    }

placed_tell : (m : Setting) (w : World) (s : Silo) → m.alive w.now s ≡ true → Placed m w → Placed m (after m w (Tell s))
placed_tell m w s a p =
    record {
      structure = p.structure;
      levels = record {
        low = p.levels.low;
        at_level = p.levels.at_level;
        top = p.levels.top;
        sealed_low = p.levels.sealed_low;
        sealed_left = p.levels.sealed_left;
        sealed_once = p.levels.sealed_once;
        below = λ h k l. elim (p.levels.below h k l) [ inl i ↦ inl i | inr b ↦ inr (still_barred m w s a h k b) ];
        told_member =
            sent_all (λ x. 1 ≤ x.version → m.member x.version x.sender ≡ true) (reported w s) w.reports (p.structure.member s)
            p.levels.told_member;
        told_seen = sent_all (λ x. x.version ≤ w.seen x.sender) (reported w s) w.reports (omega arith) p.levels.told_seen;
      };
    }

pub placed_after : (m : Setting) (w : World) (a : Action) → Allowed m w a → Placed m w → Placed m (after m w a)
placed_after m w New_view may p = placed_view m w p
placed_after m w (See x) may p = placed_sight m w x may p
placed_after m w (Start s g previous) may p = record { structure = p.structure; levels = p.levels }
placed_after m w (Close s g x) may p = record { structure = p.structure; levels = p.levels }
placed_after m w (Offer_away s g count) may p = record { structure = p.structure; levels = p.levels }
placed_after m w (Renew s g x purpose) may p = record { structure = p.structure; levels = p.levels }
placed_after m w (Find s) may p = record { structure = p.structure; levels = p.levels }
placed_after m w (Serve x) may p = record { structure = p.structure; levels = p.levels }
placed_after m w (Confirm y g x) may p = record { structure = p.structure; levels = p.levels }
placed_after m w (Leave y g x) may p = record { structure = p.structure; levels = p.levels }
placed_after m w (Tell s) may p = placed_tell m w s may p
placed_after m w (Install x snapshot) may p = placed_install m w x snapshot may p
placed_after m w (Recover x told) may p = placed_recover m w x told may p

pub one_settles : (m : Setting) (w : World) → Placed m w → OneSettles m w
one_settles m w p h s t a b =
    let level_s : w.level h ≡ w.seen s = p.levels.at_level s h a.alive a.settled in
    let level_t : w.level h ≡ w.seen t = p.levels.at_level t h b.alive b.settled in
    let own_s : m.owner (w.level h) h ≡ Some s = subst (λ k. m.owner k h ≡ Some s) (sym level_s) (p.structure.owned s h a.settled) in
    let own_t : m.owner (w.level h) h ≡ Some t = subst (λ k. m.owner k h ≡ Some t) (sym level_t) (p.structure.owned t h b.settled) in
    cc

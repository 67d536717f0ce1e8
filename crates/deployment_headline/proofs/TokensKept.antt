-- What is kept of a grain from a moment on at which an activation of it is firm: whatever is firm later is so on a silo that has seen no
-- less than some version u.
use Rattle.std.proofs.Common.{◌≡◌, ◌⊎◌, ◌<◌, ◌≤◌, ℕ, suc, true, false, cond, Some, None, List, [], ◌∷◌, inl, inr, sym, refl, ap, ◌∙◌, subst, arith}
use Rattle.silo_address.specs.Silo.{Silo}
use Rattle.silo_address.specs.Grain.{Grain}
use Rattle.silo_address.specs.declared.activation.ActivationId.{ActivationId}
use Rattle.directory_protocol.specs.Change.{put, put_grain, where_true}
use Rattle.directory_protocol.specs.Setting.{Setting}
use Rattle.directory_protocol.specs.Letters.{activation_on, Purpose, Register, Deregister, named, Reply, Snapshot, Report, Sent}
use Rattle.directory_protocol.specs.World.{World, Held, Firm, count_of}
use Rattle.directory_protocol.specs.Actions.{Action, New_view, See, Start, Close, Offer_away, Renew, Find, Serve, Confirm, Leave, Tell, Install, Recover, Sight, Service, Settling, Counts, IsAnswered, Allowed, MaySee, MayServe, MayInstall, MayRecover}
use Rattle.directory_protocol.specs.Effects.{kept_entries, replied, after, run, AllAllowed}
use Rattle.directory_protocol.proofs.All.{Kept, kept_after}
use Rattle.directory_protocol.proofs.Changes.{on_bool, bool_cases, put_grain_same, put_grain_other, grain_cases, sent_all}
use Rattle.directory_protocol.proofs.Counted.{counts_seen}
use Rattle.directory_protocol.proofs.Risen.{surviving_stays}
use Rattle.directory_protocol.proofs.Settlings.{install_level, recover_below}
use Rattle.directory_protocol.proofs.Sights.{later_sight, sight_level}
use Rattle.deployment_headline.proofs.TokensEarly.{Early, EarlyOf, its_silo, early_turn, early_view, early_start, early_close, early_offer, early_renew, early_tell, early_rise}
use Rattle.deployment_headline.proofs.TokensLate.{Late, LateOf, late_after}

module _ (m : Setting) (g : Grain) (a : ActivationId) (u : ℕ) where
  abbrev pub Since : World → Type 0
  Since w = EarlyOf m g a u w ⊎ LateOf m g u w

  -- the directory names it no more
  turns_late :
      (w : World) (seen : Silo → ℕ) (replies : List Reply) (level : ℕ → ℕ) → Kept m w → EarlyOf m g a u w → ((s : Silo) → w.seen s ≤ seen s)
      → u ≤ level (m.hash g)
      → ((y : Reply) (x : Held) → Sent y replies → Counts seen w.held y g x → (Sent y w.replies × Counts w.seen w.held y g x)
      ⊎ (u ≤ y.version))
      → Late m g u w.now seen w.held replies level
  turns_late w seen replies level k e rises low old =
      record {
        settled = low;
        confirming = λ y x q r live c.
            elim (old y x q c) [
              | inl was ↦
                  (let is : activation_on y.receiver (count_of x) ≡ a = (let n = k.backed.confirmed.registered y g x was.0 r live was.1 in let t = e.entered in cc) in
                  let saw : u ≤ w.seen y.receiver = its_silo m g a u w y.receiver (count_of x) live is e in
                  let version : y.version ≡ w.seen y.receiver = was.1.same_version in
                  omega arith)
              | inr new ↦ new
            ];
        firm = λ s c live f.
            let is : activation_on s c ≡ a = (let n = k.backed.confirmed.firm s g c live f in let t = e.entered in cc) in
            let saw : u ≤ w.seen s = its_silo m g a u w s c live is e in
            let later : w.seen s ≤ seen s = rises s in
            omega arith;
      }

  early_served : (w : World) (x : Service) → MayServe m w x → Kept m w → EarlyOf m g a u w → Since (after m w (Serve x))
  early_served w x may k e =
      elim (grain_cases g x.request.grain) [
        | inl same ↦ here same
        | inr apart ↦ inl
            (still (put_grain_other x.request.grain x.entry w.authority g apart ∙ e.entered))
      ]
    where
      still : put_grain x.request.grain x.entry w.authority g ≡ Some a → EarlyOf m g a u (after m w (Serve x))
      still is =
          record {
            entered = is;
            saw = e.saw;
            deregistered = e.deregistered;
            replaced = e.replaced;
            offered = e.offered;
            replacing = e.replacing;
            told = e.told;
          }

      before : g ≡ x.request.grain → w.table x.server x.request.grain ≡ Some a
      before same = k.backed.entries.right x.server x.request.grain may.alive may.settled ∙ ap w.authority (sym same) ∙ e.entered

      stays : g ≡ x.request.grain → x.entry ≡ Some a → Since (after m w (Serve x))
      stays same is =
          inl (still (ap (put_grain x.request.grain x.entry w.authority) same ∙ put_grain_same x.request.grain x.entry w.authority ∙ is))

      goes : g ≡ x.request.grain → u ≤ x.request.version → Since (after m w (Serve x))
      goes same low =
          let at : w.level (m.hash x.request.grain) ≡ w.seen x.server = k.placed.levels.at_level x.server (m.hash x.request.grain) may.alive may.settled in
          let here : w.level (m.hash g) ≡ w.level (m.hash x.request.grain) = ap (λ g. w.level (m.hash g)) same in
          inr (turns_late w w.seen (replied x ∷ w.replies) w.level k e (λ s. omega arith) (omega (arith, may.same_version))
          (λ y z. sent_all (λ y. Counts w.seen w.held y g z → (Sent y w.replies × Counts w.seen w.held y g z) ⊎ (u ≤ y.version)) (replied x)
          w.replies (λ c. inr low) (λ y q c. inl (q, c)) y))

      by_purpose :
          g ≡ x.request.grain → (purpose : Purpose) → x.request.purpose ≡ purpose
          → IsAnswered purpose (named x.request) x.request.previous (w.table x.server x.request.grain) x.answer x.entry
          → Since (after m w (Serve x))
      by_purpose same Register q (inl i) =
          elim i.2 [
            | inl none ↦ (let there = before same in absurd cc)
            | inr (inl its) ↦ stays same (i.1 ∙ sym its ∙ before same)
            | inr (inr previous) ↦ goes same (e.replaced x.request may.sent (sym same) (sym previous ∙ before same))
          ]
      by_purpose same Register q (inr i) = stays same (i.1 ∙ before same)
      by_purpose same Deregister q i =
          elim i.1 [
            | inl j ↦
                (let is : named x.request ≡ a = (let t = before same in let f = j.0 in cc) in
                goes same (e.deregistered x.request may.sent q (sym same) is))
            | inr j ↦ stays same (j.1 ∙ before same)
          ]

      here : g ≡ x.request.grain → Since (after m w (Serve x))
      here same = by_purpose same x.request.purpose refl may.answered

  module _ (dead_later : (v : ℕ) → m.alive v a.silo ≡ false → u ≤ v) where
    early_sight : (w : World) (x : Sight) → MaySee m w x → Kept m w → EarlyOf m g a u w → Since (after m w (See x))
    early_sight w x may k e =
        elim (bool_cases (x.kept (m.hash g))) [
          | inl t ↦ here t
          | inr f ↦ inl
              (early_rise m g a u w (put x.silo x.version w.seen) (where_true x.kept (λ h. x.version) w.level)
              (where_true (λ g. x.kept (m.hash g)) (kept_entries m w x) w.authority) rises higher
              (ap (λ b. cond b (kept_entries m w x g) (w.authority g)) f ∙ e.entered) e)
        ]
      where
        rises : (s : Silo) → w.seen s ≤ put x.silo x.version w.seen s
        rises = (later_sight m w x may).no_less

        higher : w.level (m.hash g) ≤ where_true x.kept (λ h. x.version) w.level (m.hash g)
        higher =
            on_bool (λ b. w.level (m.hash g) ≤ cond b x.version (w.level (m.hash g))) (x.kept (m.hash g))
            (λ t. let at : w.level (m.hash g) ≡ w.seen x.silo = sight_level m w x may k.placed (m.hash g) t in omega (arith, may.newer))
            (λ f. omega arith)

        here : x.kept (m.hash g) ≡ true → Since (after m w (See x))
        here t = elim (bool_cases (m.alive x.version a.silo)) [ inl live ↦ stays live | inr dead ↦ goes dead ]
          where
            there : w.table x.silo g ≡ Some a
            there = k.backed.entries.right x.silo g may.alive (may.kept_settled (m.hash g) t) ∙ e.entered

            stays : m.alive x.version a.silo ≡ true → Since (after m w (See x))
            stays live =
                inl (early_rise m g a u w (put x.silo x.version w.seen) (where_true x.kept (λ h. x.version) w.level)
                (where_true (λ g. x.kept (m.hash g)) (kept_entries m w x) w.authority) rises higher
                (ap (λ b. cond b (kept_entries m w x g) (w.authority g)) t ∙ surviving_stays m x.version (w.table x.silo g) a there live) e)

            goes : m.alive x.version a.silo ≡ false → Since (after m w (See x))
            goes dead =
                inr (turns_late w (put x.silo x.version w.seen) w.replies (where_true x.kept (λ h. x.version) w.level) k e rises
                (subst (λ n. u ≤ n) (sym (ap (λ b. cond b x.version (w.level (m.hash g))) t)) (dead_later x.version dead))
                (λ y z q c. inl (q, counts_seen m w x may k.asked.numbers y g z q c)))

    -- by what the new table has
    early_settling :
        (w : World) (x : Settling) → ((h : ℕ) → x.part h ≡ true → w.level h < w.seen x.silo)
        → (x.part (m.hash g) ≡ true → (x.entries g ≡ Some a) ⊎ (u ≤ w.seen x.silo))
        → Kept m w → EarlyOf m g a u w
        → Early m g a u w.now w.seen w.held w.requests w.offers w.reports (where_true x.part (λ h. w.seen x.silo) w.level)
        (where_true (λ g. x.part (m.hash g)) x.entries w.authority)
        ⊎ Late m g u w.now w.seen w.held w.replies (where_true x.part (λ h. w.seen x.silo) w.level)
    early_settling w x raised has k e =
        elim (bool_cases (x.part (m.hash g))) [
          | inl t ↦ here t (has t)
          | inr f ↦ inl
              (stays (ap (λ b. cond b (x.entries g) (w.authority g)) f ∙ e.entered))
        ]
      where
        higher : w.level (m.hash g) ≤ where_true x.part (λ h. w.seen x.silo) w.level (m.hash g)
        higher =
            on_bool (λ b. w.level (m.hash g) ≤ cond b (w.seen x.silo) (w.level (m.hash g))) (x.part (m.hash g))
            (λ t. let below : w.level (m.hash g) < w.seen x.silo = raised (m.hash g) t in omega arith) (λ f. omega arith)

        stays : where_true (λ g. x.part (m.hash g)) x.entries w.authority g ≡ Some a
            → Early m g a u w.now w.seen w.held w.requests w.offers w.reports (where_true x.part (λ h. w.seen x.silo) w.level)
            (where_true (λ g. x.part (m.hash g)) x.entries w.authority)
        stays is =
            early_rise m g a u w w.seen (where_true x.part (λ h. w.seen x.silo) w.level)
            (where_true (λ g. x.part (m.hash g)) x.entries w.authority) (λ s. omega arith) higher is e

        here :
            x.part (m.hash g) ≡ true → (x.entries g ≡ Some a) ⊎ (u ≤ w.seen x.silo)
            → Early m g a u w.now w.seen w.held w.requests w.offers w.reports (where_true x.part (λ h. w.seen x.silo) w.level)
            (where_true (λ g. x.part (m.hash g)) x.entries w.authority)
            ⊎ Late m g u w.now w.seen w.held w.replies (where_true x.part (λ h. w.seen x.silo) w.level)
        here t (inl is) = inl (stays (ap (λ b. cond b (x.entries g) (w.authority g)) t ∙ is))
        here t (inr low) =
            inr (turns_late w w.seen w.replies (where_true x.part (λ h. w.seen x.silo) w.level) k e (λ s. omega arith)
            (subst (λ n. u ≤ n) (sym (ap (λ b. cond b (w.seen x.silo) (w.level (m.hash g))) t)) low)
            (λ y z q c. inl (q, c)))

    early_install : (w : World) (x : Settling) (snapshot : Snapshot) → MayInstall m w x snapshot → Kept m w → EarlyOf m g a u w
        → Since (after m w (Install x snapshot))
    early_install w x snapshot may k e =
        early_settling w x (λ h t. let at : w.level h ≡ snapshot.sealed_at = install_level m w x snapshot may k.placed h t in
        omega (arith, may.same_version)) has k e
      where
        has : x.part (m.hash g) ≡ true → (x.entries g ≡ Some a) ⊎ (u ≤ w.seen x.silo)
        has t = elim (bool_cases (m.alive (suc snapshot.sealed_at) a.silo)) [
          | inl live ↦
              inl (may.entries g t
              ∙ k.backed.entries.sealed snapshot g may.sent (may.covered (m.hash g) t)
              (install_level m w x snapshot may k.placed (m.hash g) t)
              ∙ surviving_stays m (suc snapshot.sealed_at) (w.authority g) a e.entered live)
          | inr dead ↦ inr (subst (λ n. u ≤ n) may.same_version (dead_later (suc snapshot.sealed_at) dead))
        ]

    early_recover : (w : World) (x : Settling) (told : Silo → Grain → Report) → MayRecover m w x told → Kept m w → EarlyOf m g a u w
        → Since (after m w (Recover x told))
    early_recover w x told may k e = early_settling w x (recover_below m w x told may k.placed) has k e
      where
        -- an entry is the authority
        entry_is : x.part (m.hash g) ≡ true → (b : ActivationId) → x.entries g ≡ Some b → x.entries g ≡ Some a
        entry_is t b is =
            let member = may.from_member g b t is in
            let below : w.level (m.hash g) < w.seen x.silo = recover_below m w x told may k.placed (m.hash g) t in
            let version : (told b.silo g).version ≡ w.seen x.silo = may.same_version b.silo g member in
            let right : w.authority g ≡ Some (activation_on (told b.silo g).sender b.count) = k.backed.reported.right (told b.silo g) g b.count (may.sent b.silo g member) (omega arith) (may.from_report g b t is) in
            is ∙ sym (right ∙ ap (λ s. Some (activation_on s b.count)) (may.own_report b.silo g member)) ∙ e.entered

        by_member : x.part (m.hash g) ≡ true → m.member (w.seen x.silo) a.silo ≡ true → (x.entries g ≡ Some a) ⊎ (u ≤ w.seen x.silo)
        by_member t member =
            let below : w.level (m.hash g) < w.seen x.silo = recover_below m w x told may k.placed (m.hash g) t in
            let version : (told a.silo g).version ≡ w.seen x.silo = may.same_version a.silo g member in
            elim (e.told (told a.silo g) (may.sent a.silo g member) (may.own_report a.silo g member) (omega arith)) [
              | inl names ↦ (let its = may.complete g a.silo a.count t member names in inl (entry_is t its.0 its.1))
              | inr low ↦ inr (subst (λ n. u ≤ n) version low)
            ]

        has : x.part (m.hash g) ≡ true → (x.entries g ≡ Some a) ⊎ (u ≤ w.seen x.silo)
        has t =
            elim (bool_cases (m.alive (w.seen x.silo) a.silo)) [
              | inl live ↦
                  (let below : w.level (m.hash g) < w.seen x.silo = recover_below m w x told may k.placed (m.hash g) t in
                  by_member t (m.member_until_death (w.level (m.hash g)) (w.seen x.silo) a.silo (omega arith)
                  (k.backed.entries.on_member g a e.entered) live))
              | inr dead ↦ inr (dead_later (w.seen x.silo) dead)
            ]

    early_after : (w : World) (action : Action) → Allowed m w action → Kept m w → EarlyOf m g a u w → Since (after m w action)
    early_after w New_view may k e = inl (early_view m g a u w e)
    early_after w (See x) may k e = early_sight w x may k e
    early_after w (Start s h previous) may k e = inl (early_start m g a u w s h previous may e)
    early_after w (Close s h x) may k e = inl (early_close m g a u w s h x may e)
    early_after w (Offer_away s h c) may k e = inl (early_offer m g a u w s h c may e)
    early_after w (Renew s h x purpose) may k e = inl (early_renew m g a u w s h x purpose may e)
    early_after w (Find s) may k e = inl e
    early_after w (Serve x) may k e = early_served w x may k e
    early_after w (Confirm y h x) may k e = inl (early_turn m g a u w y.receiver h (Some (Firm (count_of x))) (λ c n same is. absurd cc) e)
    early_after w (Leave y h x) may k e = inl (early_turn m g a u w y.receiver h None (λ c n same is. absurd cc) e)
    early_after w (Tell s) may k e = inl (early_tell m g a u w s may e)
    early_after w (Install x snapshot) may k e = early_install w x snapshot may k e
    early_after w (Recover x told) may k e = early_recover w x told may k e

    since_after : (w : World) (action : Action) → Allowed m w action → Kept m w → Since w → Since (after m w action)
    since_after w action may k (inl e) = early_after w action may k e
    since_after w action may k (inr l) = inr (late_after m g u w action may k l)

    pub since_run : (actions : List Action) (w : World) → AllAllowed m actions w → Kept m w → Since w → Since (run m actions w)
    since_run [] w may k since = since
    since_run (action ∷ rest) w may k since =
        since_run rest (after m w action) may.1 (kept_after m w action may.0 k) (since_after w action may.0 k since)

    -- ---- what follows
    pub firm_no_lower : (w : World) → Kept m w → Since w → (s : Silo) (c : ℕ) → m.alive w.now s ≡ true → w.held s g ≡ Some (Firm c)
        → u ≤ w.seen s
    firm_no_lower w k (inl e) s c live firm =
        let is : activation_on s c ≡ a = (let n = k.backed.confirmed.firm s g c live firm in let t = e.entered in cc) in
        its_silo m g a u w s c live is e
    firm_no_lower w k (inr l) s c live firm = l.firm s c live firm

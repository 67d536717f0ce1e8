-- Where all have seen the current view, by the headline: of a hash that its owner hasn't settled no registration is replied, and what was
-- reported of it is held still.
use Rattle.std.proofs.Common.{arith, ◌≡◌, refl, sym, ap, subst, ◌∙◌, ℕ, ◌<◌, ◌≤◌, List, [], ◌∷◌, inl, inr}
use Rattle.std.specs.Prelude.{Bool, true, false, cond, not, ◌==◌, ◌&&◌, ◌||◌, nat_lt, is_some, find, All, Option, Some, None}
use Rattle.std.specs.Option.{option_map}
use Rattle.std.specs.List.{slice_index_or}
use Rattle.std.specs.Ordering.{nat_cmp}
use Rattle.std.specs.Map.{lookup}
use Rattle.std.specs.BTreeMap.{is_at}
use Rattle.std.proofs.lemmas.Bool.{and_from, eqb-true, eqb-false, not_from_false}
use Rattle.silo_address.specs.Silo.{Silo}
use Rattle.silo_address.specs.Grain.{Grain, grain_cmp}
use Rattle.silo_address.specs.declared.Entry.{Entry}
use Rattle.silo_address.proofs.Order.{grain_cmp_total, grain_cmp_exact}
use Rattle.membership_view.specs.View.{ViewValue}
use Rattle.ring_range.specs.Range.{Range, circle, holds}
use Rattle.hash_ring.specs.Hash.{hash_grain}
use Rattle.range_moves.specs.Arcs.{owner_silo}
use Rattle.directory_protocol.specs.Setting.{Setting}
use Rattle.directory_protocol.specs.Letters as letters
use Rattle.directory_protocol.specs.Letters.{Sent}
use Rattle.directory_protocol.specs.World as protocol
use Rattle.directory_protocol.specs.Actions.{Counts}
use Rattle.directory_protocol.proofs.All.{Kept, kept_reached}
use Rattle.directory_rules.specs.declared.held.Held.{Held}
use Rattle.directory_rules.specs.declared.held.Phase.{Phase}
use Rattle.directory_rules.specs.declared.held.Phase.TheVariants as phase
use Rattle.directory_rules.specs.declared.reply.Reply.TheVariants as reply
use Rattle.directory_rules.specs.Answer.{piece_with}
use Rattle.directory_rules.specs.Host.{held_of, is_asking_under, asking_under}
use Rattle.directory_rules.specs.Mail.{letter_of}
use Rattle.directory_rules.specs.Happens.{node_of}
use Rattle.directory_rules.specs.Sight.{is_owner}
use Rattle.directory_rules.specs.Standing.{stands_behind, rise_behind, last_grain}
use Rattle.directory_rules.specs.State.{Piece, Report, Letter, Report_letter, Reply_letter, Node, World}
use Rattle.directory_rules.specs.Table.{entry_at, table_of, lie_in}
use Rattle.directory_rules.proofs.Cases.{on_bool}
use Rattle.directory_rules.proofs.People.{live_said}
use Rattle.directory_rules.proofs.Standings.{all_behind, none_behind_last}
use Rattle.directory_facts.proofs.Hashes.{grains_have_hashes}
use Rattle.directory_facts.proofs.Lookups.{find_looked}
use Rattle.directory_facts.proofs.OwnPieces.{holding, counted, counted_first, at_most_one, owner_silo_is}
use Rattle.directory_facts.proofs.Tables.{all_from}
use Rattle.directory_headline.specs.Shown.{held_as, is_settled_piece, reply_as, tells_of, IsShownBody, IsShownReport}
use Rattle.directory_headline.proofs.Deliveries.{letter_shown}
use Rattle.directory_headline.proofs.FirmEntries.{found_themselves}
use Rattle.directory_headline.proofs.Frame.{Here, node_facts, node_shown, seen_is, alive, owner_is}
use Rattle.directory_headline.proofs.Theorems.{IsCarried}
use Rattle.progress_rules.specs.Room.{all_held}
use Rattle.progress_rules.proofs.Open.{IsOpen, IsUnserved, open_piece}
use Rattle.progress_rules.proofs.Passed.{Has}
use Rattle.progress_rules.proofs.Resting.{IsResting, rest_carried}

-- ---- the piece that has a hash
module _ (test : ℕ → Bool) (hash : ℕ) (piece : Piece) (inside : holds piece.range hash ≡ true) where
  counted_there : (es : List (ℕ × Piece)) → lookup test es ≡ Some piece → 1 ≤ holding hash es
  counted_there [] found = absurd (cc (found))
  counted_there (e ∷ es) found =
      on_bool (λ b. cond b (Some e.1) (lookup test es) ≡ Some piece → 1 ≤ holding hash (e ∷ es)) (test e.0)
      (λ t here. let same : e.1 ≡ piece = cc (here) in
      let all = counted hash e es true (ap (λ (p : Piece). holds p.range hash) same ∙ inside) in omega (arith, all))
      (λ f there. let rest = counted_there es there in let all = counted_first hash e es in omega (arith, rest, all)) found

  only_there : (es : List (ℕ × Piece)) → lookup test es ≡ Some piece → holding hash es ≤ 1 → piece_with hash es ≡ Some piece
  only_there [] found few = absurd (cc (found))
  only_there (e ∷ es) found few = by (holds e.1.range hash) refl (λ there less. only_there es there less)
    where
      by : (b : Bool) → holds e.1.range hash ≡ b → (lookup test es ≡ Some piece → holding hash es ≤ 1 → piece_with hash es ≡ Some piece)
          → option_map (λ x. x.1) (cond b (Some e) (find (λ x. holds x.1.range hash) es)) ≡ Some piece
      by true held rest =
          on_bool (λ b. cond b (Some e.1) (lookup test es) ≡ Some piece → Some e.1 ≡ Some piece) (test e.0) (λ t here. here)
          (λ f there. let some = counted_there es there in let all = counted hash e es true held in absurd (omega (arith, some, all, few))) found
      by false not rest =
          on_bool (λ b. cond b (Some e.1) (lookup test es) ≡ Some piece → piece_with hash es ≡ Some piece) (test e.0)
          (λ t here. let same : e.1 ≡ piece = cc (here) in
          let held = ap (λ (p : Piece). holds p.range hash) same ∙ inside in absurd (cc (sym not ∙ held)))
          (λ f there. let all = counted hash e es false not in rest there (omega (arith, all, few))) found

asking_is : (number : ℕ) (its : Phase) → is_asking_under number its ≡ true → its ≡ phase.Asking number
asking_is number (phase.Asking n) is = ap (λ k. phase.Asking k) (eqb-true n number is)
asking_is number phase.Firm is = absurd (cc (is))
asking_is number (phase.Closing n) is = absurd (cc (is))

or_other : (a b : Bool) → b ≡ true → (a || b) ≡ true
or_other true b is = refl
or_other false b is = is

module _ (world : World) (r : IsResting world) where
  abbrev c : IsCarried world
  c = rest_carried world r

  abbrev m : Setting
  m = c.setting

  abbrev w : protocol.World
  w = c.carried.world

  abbrev hash : Grain → ℕ
  hash = hash_grain world.settings.hashing

  kept : Kept m w
  kept = subst (Kept m) c.carried.reached.2 (kept_reached m c.carried.reached.0 c.carried.reached.1)

  here : (silo : Silo) (node : Node) → node_of world silo ≡ Some node → Here m world w silo node
  here silo node there =
      record { setting = c.is_its; facts = c.facts; there = there; reached = c.carried.reached; shown = c.carried.shown }

  seen_now : (silo : Silo) (node : Node) → node_of world silo ≡ Some node → node.view.version ≡ world.views.version
  seen_now silo node there = ap (λ (v : ViewValue). v.version) (r.seen silo node there)

  -- a hash that its owner hasn't settled was never settled at the current version
  level_low : (its : ℕ) → its < circle → IsUnserved (node_of world) its → w.level its < world.views.version
  level_low its below u =
      let open_at = open_piece u.node u.range u.waits in
      let at = here u.owner u.node u.there in
      let facts = node_facts m world w u.owner u.node at in
      let inside : holds open_at.piece.range its ≡ true = ap (λ (s : Range). holds s its) open_at.same ∙ u.inside in
      let once = facts.once its below in
      let one = counted_there (is_at (nat_cmp u.range.start)) its open_at.piece inside u.node.holding.pieces open_at.found in
      let owns : is_owner u.node.host.silo (owner_silo u.node.ring.points its) ≡ true =
      on_bool (λ b. holding its u.node.holding.pieces ≡ cond {A = ℕ} b 1 0 → b ≡ true)
      (is_owner u.node.host.silo (owner_silo u.node.ring.points its)) (λ t is. refl) (λ f none. absurd (omega (arith, none, one))) once in
      let few = at_most_one (is_owner u.node.host.silo (owner_silo u.node.ring.points its)) (holding its u.node.holding.pieces) once in
      let mine : owner_silo u.node.ring.points its ≡ Some u.owner = owner_silo_is u.node.host.silo _ owns ∙ ap Some facts.own.host_is in
      let with_it = only_there (is_at (nat_cmp u.range.start)) its open_at.piece inside u.node.holding.pieces open_at.found few in
      let unsettled : w.settled u.owner its ≡ false =
      (node_shown m world w u.owner u.node at).holding.settled its
      ∙ ap (λ (o : Option Piece). is_settled_piece o && nat_lt its circle) with_it
      ∙ ap (λ b. b && nat_lt its circle) open_at.unsettled in
      let seen = seen_is m world w u.owner u.node at ∙ seen_now u.owner u.node u.there in
      let low = kept.placed.levels.low its in
      let now = c.carried.shown.now in
      on_bool (λ b. (w.level its == world.views.version) ≡ b → w.level its < world.views.version) (w.level its == world.views.version)
      (λ t is.
      let level = eqb-true (w.level its) world.views.version is in
      let owner : m.owner (w.level its) its ≡ Some u.owner =
      ap (λ v. m.owner v its) (level ∙ sym (seen_now u.owner u.node u.there)) ∙ owner_is m world w u.owner u.node at its ∙ mine in
      elim (kept.placed.levels.top u.owner its owner (alive m world w u.owner u.node at)) [
        | inl past ↦ omega (arith, past, seen, level)
        | inr settled ↦ (let is_settled_there = settled.1 in absurd (cc (is_settled_there, unsettled)))
      ])
      (λ f is. let other = eqb-false (w.level its) world.views.version is in omega (arith, low, now, other)) refl

  level_of : (grain : Grain) → IsUnserved (node_of world) (hash grain) → w.level (m.hash grain) < world.views.version
  level_of grain u =
      subst (λ (h : Grain → ℕ). w.level (h grain) < world.views.version) (sym c.is_its.hash)
      (level_low (hash grain) (grains_have_hashes world.settings.hashing grain) u)

  -- ---- a reply that registers
  pub unregistered : (silo : Silo) (node : Node) → node_of world silo ≡ Some node → (number : ℕ) (letter : Letter)
      → letter_of world number ≡ Some letter → letter.to ≡ silo → (under : ℕ) (entry : Entry) (e : Grain × Held)
      → letter.body ≡ Reply_letter under (reply.Registered entry) → letter.version ≡ node.view.version
      → asking_under node.host under ≡ Some e → IsUnserved (node_of world) (hash e.0) → ⊥
  unregistered silo node there number letter found to under entry e body version asks u =
      let at = here silo node there in
      let its = find_looked grain_cmp grain_cmp_total grain_cmp_exact (λ (x : Grain × Held). is_asking_under under x.1.phase) node.host.held e (node_facts m world w silo node at).own.once asks in
      let x = protocol.Asking e.1.count under e.1.previous in
      let held : w.held silo e.0 ≡ Some x =
      (node_shown m world w silo node at).host.held e.0 ∙ ap (option_map held_as) its.1
      ∙ ap (λ p. Some (held_in_phase p e.1)) (asking_is under e.1.phase its.0) in
      let shown : Sent (reply_as letter under letters.Registered) w.replies =
      subst (IsShownBody m.hash w letter) body (letter_shown m world w number letter c.carried.shown found) in
      let sent : Sent (the_reply letter under silo) w.replies = subst (λ s. Sent (the_reply letter under s) w.replies) to shown in
      let counts : Counts w.seen w.held (the_reply letter under silo) e.0 x = record {
        held_there = held;
        same_number = refl;
        same_version = version ∙ sym (seen_is m world w silo node at);
      } in
      let spent = kept.asked.spent.replied (the_reply letter under silo) e.0 x sent counts in
      let reached = spent.reached in
      let low = level_of e.0 u in
      let now = version ∙ seen_now silo node there in
      omega (arith, reached, low, now)
    where
      held_in_phase : Phase → Held → protocol.Held
      held_in_phase its held = held_as (record held { phase = its })

      the_reply : Letter → ℕ → Silo → letters.Reply
      the_reply letter under receiver = record { answer = letters.Registered; version = letter.version; number = under; receiver = receiver }

  -- ---- what was reported
  module _ (told : letters.Report) (sent : Sent told w.reports) (version : told.version ≡ world.views.version) where
    -- the silo that told it is live
    teller_lives : 1 ≤ world.views.version → is_some (node_of world told.sender) ≡ true
    teller_lives some =
        let member = kept.placed.levels.told_member told sent (omega (arith, some, version)) in
        c.facts.peopled.live told.sender
        ∙ sym (live_said world.views c.facts.peopled.whole world.views.version (omega arith) told.sender)
        ∙ sym (c.is_its.member world.views.version told.sender (omega arith))
        ∙ ap (λ v. m.member v told.sender) (sym version) ∙ member

    -- and has still what was firm there
    held_still : (grain : Grain) (count : ℕ) → told.firm grain ≡ Some count → IsUnserved (node_of world) (hash grain)
        → Has (all_held (node_of world told.sender)) grain
    held_still grain count firm u =
        let low = level_of grain u in
        let right = kept.backed.reported.right told grain count sent (omega (arith, low, version)) firm in
        let there = kept.backed.entries.held_there grain (letters.activation_on told.sender count) right in
        by (node_of world told.sender) refl (teller_lives (omega (arith, low))) there.0 there.1
      where
        by : (o : Option Node) → node_of world told.sender ≡ o → is_some o ≡ true → (x : protocol.Held)
            → w.held told.sender grain ≡ Some x → Has (all_held o) grain
        by None none lives x held = absurd (cc (lives))
        by (Some node) its lives x held =
            looked (held_of node.host grain) (sym ((node_shown m world w told.sender node (here told.sender node its)).host.held grain) ∙ held)
          where
            looked : (o : Option Held) → option_map held_as o ≡ Some x → is_some o ≡ true
            looked None none = absurd (cc (none))
            looked (Some held) some = refl

  -- so has each of a report's entries, and one more if it isn't the last
  pub record IsHeldStill (report : Report) : Type 0 where
    pub each : All (λ e. Has (all_held (node_of world report.silo)) e.grain) report.entries
    pub lie : All (λ e. holds report.range (hash e.grain) ≡ true) report.entries
    pub grain : report.last ≡ false → Grain
    pub inside : (is : report.last ≡ false) → holds report.range (hash (grain is)) ≡ true
    pub behind : (is : report.last ≡ false)
        → stands_behind hash (report.range ∷ []) (last_grain report.after report.entries) (grain is) ≡ true
    pub more : (is : report.last ≡ false) → Has (all_held (node_of world report.silo)) (grain is)

  module _ (number : ℕ) (letter : Letter) (report : Report) (found : letter_of world number ≡ Some letter)
      (body : letter.body ≡ Report_letter report) (version : report.version ≡ world.views.version)
      (owner : Silo) (own : Node) (its : node_of world owner ≡ Some own) (waits : IsOpen own report.range)
      (rises : rise_behind hash (report.range ∷ []) report.after report.entries ≡ true)
      (lie : lie_in world.settings.hashing report.range report.entries ≡ true) where
    shown : IsShownReport hash w.reports report
    shown = subst (λ (h : Grain → ℕ). IsShownReport h w.reports report) c.is_its.hash
        (subst (IsShownBody m.hash w letter) body (letter_shown m world w number letter c.carried.shown found))

    lies : All (λ e. holds report.range (hash e.grain) ≡ true) report.entries
    lies = all_from (λ (e : Entry). holds report.range (hash e.grain)) report.entries lie

    unserved : (grain : Grain) → holds report.range (hash grain) ≡ true → IsUnserved (node_of world) (hash grain)
    unserved grain inside = record { owner = owner; node = own; there = its; range = report.range; waits = waits; inside = inside }

    held_of_it : (grain : Grain) (count : ℕ) → holds report.range (hash grain) ≡ true → shown.told.firm grain ≡ Some count
        → Has (all_held (node_of world report.silo)) grain
    held_of_it grain count inside firm =
        subst (λ s. Has (all_held (node_of world s)) grain) shown.sender
        (held_still shown.told shown.was_sent (shown.version ∙ version) grain count firm (unserved grain inside))

    pub reported_held : IsHeldStill report
    reported_held = record {
      each = λ k d below.
          let e = slice_index_or report.entries k d in
          let inside = lies k d below in
          let tells : tells_of hash report e.grain ≡ true =
          and_from (stands_behind hash (report.range ∷ []) report.after e.grain)
          (report.last || not (stands_behind hash (report.range ∷ []) (last_grain report.after report.entries) e.grain))
          (all_behind hash (report.range ∷ []) report.after report.entries rises k d below)
          (or_other report.last (not (stands_behind hash (report.range ∷ []) (last_grain report.after report.entries) e.grain))
          (not_from_false _ (none_behind_last hash (report.range ∷ []) report.after report.entries rises k d below))) in
          of_entry e.grain inside (entry_at e.grain (table_of report.entries)) (shown.firm e.grain inside tells)
          (found_themselves report.entries k d below);
      lie = lies;
      grain = λ is. (shown.more is).grain;
      inside = λ is. (shown.more is).inside;
      behind = λ is. (shown.more is).behind;
      more = λ is. let one = shown.more is in held_of_it one.grain one.count one.inside one.firm;
    }
      where
        of_entry : (grain : Grain) → holds report.range (hash grain) ≡ true → (o : Option Entry)
            → shown.told.firm grain ≡ option_map (λ e. e.activation.count) o → is_some o ≡ true
            → Has (all_held (node_of world report.silo)) grain
        of_entry grain inside None firm is = absurd (cc (is))
        of_entry grain inside (Some entry) firm is = held_of_it grain entry.activation.count inside firm

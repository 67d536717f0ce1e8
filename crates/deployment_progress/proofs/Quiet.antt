-- In the quiet each step is one of a silo's node that sees no version, or none at all.
use Rattle.std.proofs.Common.{arith, ◌≡◌, ◌≢◌, ℕ, ◌+◌, [], ◌∷◌, ◌++◌, refl, sym, ap, ◌∙◌, subst, append-nil, ◌⊎◌, inl, inr}
use Rattle.std.specs.Prelude.{⊤, Bool, true, false, not, is_some, nat_lt, nat_le, slice_get, if◌then◌else◌, Option, Some, None, Result, Ok, Err}
use Rattle.std.specs.Option.{option_map, unwrap_or}
use Rattle.std.specs.BTreeMap.{is_at, insert_entry}
use Rattle.std.specs.Map.{lookup}
use Rattle.std.proofs.lemmas.Bool.{ltb-true, leb-true}
use Rattle.std.proofs.lemmas.List.Elements.{All-nil, All-cons, All-append}
use Rattle.texts.proofs.Decided.{both}
use Rattle.silo_address.specs.Silo.{Silo, silo_cmp, silo_eq}
use Rattle.silo_address.proofs.Order.{silo_cmp_total, silo_cmp_exact}
use Rattle.silo_address.proofs.Same.{Decides-silo}
use Rattle.membership_view.specs.declared.status.Status.{Status}
use Rattle.membership_view.specs.declared.status.Status.TheVariants.{Active, Leaving, Dead}
use Rattle.membership_view.specs.View.{ViewValue}
use Rattle.membership_view.specs.View.{status_of}
use Rattle.membership_view.specs.Whole.{IsViews}
use Rattle.membership_view.specs.Views.{ViewsValue, status_at, joining_version}
use Rattle.directory_rules.specs.declared.effect.Effect.TheVariants.{Ignored}
use Rattle.directory_rules.specs.Input.{Input, Sees, Does, Receives, step, sight_of}
use Rattle.directory_rules.specs.Laws.{is_live}
use Rattle.directory_rules.specs.State.{Letter, Node}
use Rattle.directory_rules.specs.Receive.{received}
use Rattle.directory_rules.specs.Step.{Stepped, silently}
use Rattle.directory_rules.specs.declared.own_step.OwnStep.{OwnStep}
use Rattle.directory_rules.proofs.Cases.{on_bool}
use Rattle.directory_facts.proofs.Lookups.{found_put, found_beside_put}
use Rattle.directory_rules.specs.Membership.{Change, Membership, barred_by, is_seeable, listing_of}
use Rattle.silo_rules.specs.SiloValue.{SiloValue, own_status}
use Rattle.silo_rules.specs.Begun.{told_view}
use Rattle.silo_rules.specs.Steps.{barred, unless_barred, seen, does}
use Rattle.silo_rules.specs.Told.{Heard, told}
use Rattle.progress_rules.proofs.Covered.{view_kept}
use Rattle.deployment_headline.specs.Deployment.{Deployment, process_of}
use Rattle.deployment_headline.specs.Limits.{node_with_room}
use Rattle.deployment_headline.specs.Steps.{Step, Decide, Tell, Begin, See, Do, Receive, IsStep, heard, begins, took, tells, tells_at, begins_at, does_at, sees_at, delivers, receives_at, after}
use Rattle.deployment_headline.proofs.StepEvents.{told_agrees}
use Rattle.directory_rules.proofs.People.{live_said}
use Rattle.deployment_headline.proofs.Runs.{one_more}
use Rattle.deployment_headline.proofs.Sound.{its_process}
use Rattle.deployment_headline.proofs.Worlds.{its_node}
use Rattle.deployment_progress.specs.Quiet.{DecidesNone, HaveAllSeen}
use Rattle.deployment_progress.proofs.Rest.{node_at, process_with, IsAtRest, its_world, its_sound, its_wholes}

-- ---- what a quiet step may be
-- the input is no sight, and a letter was written, is the silo's, and comes by that step
abbrev pub IsBrought : Deployment → Step → Silo → Input → Type 0
IsBrought d st silo (Sees before view places) = ⊥
IsBrought d st silo (Does step) = ⊤
IsBrought d st silo (Receives letter) =
    (letter.to ≡ silo) × (index : ℕ) × (slice_get d.written index ≡ Some letter) × (st ≡ Receive silo index)

pub record HasStayed (d next : Deployment) : Type 0 where
  pub membership : next.membership ≡ d.membership
  pub nodes : (silo : Silo) → node_at next silo ≡ node_at d silo
  pub written : next.written ≡ d.written

pub record HasMoved (d : Deployment) (st : Step) (next : Deployment) (silo : Silo) : Type 0 where
  pub membership : next.membership ≡ d.membership
  pub node : Node
  pub there : node_at d silo ≡ Some node
  pub input : Input
  pub brought : IsBrought d st silo input
  pub stepped : Stepped
  pub is : step node input ≡ Ok stepped
  pub put : node_at next silo ≡ Some stepped.node
  pub beside : (other : Silo) → other ≢ silo → node_at next other ≡ node_at d other
  pub written : next.written ≡ d.written ++ stepped.letters

abbrev pub Moves : Deployment → Step → Deployment → Type 0
Moves d st next = HasStayed d next ⊎ ((silo : Silo) × HasMoved d st next silo)

module _ (d : Deployment) where
  stayed : HasStayed d d
  stayed = record { membership = refl; nodes = λ silo. refl; written = refl }

  -- a process with the same node
  put_same : (silo : Silo) (s new : SiloValue) → process_of d silo ≡ Some s → new.node ≡ s.node → (other : Silo)
      → option_map its_node (lookup (is_at (silo_cmp other)) (insert_entry silo_cmp d.processes silo new)) ≡ node_at d other
  put_same silo s new there same other =
      on_bool (λ b. silo_eq other silo ≡ b → option_map its_node
      (lookup (is_at (silo_cmp other)) (insert_entry silo_cmp d.processes silo new)) ≡ node_at d other) (silo_eq other silo)
      (λ t is.
      let one = (Decides-silo other silo).0 is in
      ap (λ q. option_map its_node (lookup (is_at (silo_cmp q)) (insert_entry silo_cmp d.processes silo new))) one
      ∙ ap (option_map its_node) (found_put silo_cmp silo_cmp_total silo_cmp_exact silo new d.processes) ∙ ap (λ n. Some n) same
      ∙ sym (ap (option_map its_node) there) ∙ ap (λ q. node_at d q) (sym one))
      (λ f is. ap (option_map its_node) (found_beside_put silo_cmp silo_cmp_total silo_cmp_exact silo new d.processes other
      (λ same. let it = (Decides-silo other silo).1 same in cc (it, is)))) refl

  abbrev pub took_moves : (st : Step) (silo : Silo) (s : SiloValue) → process_of d silo ≡ Some s → (input : Input)
      → IsBrought d st silo input → (stepped : Stepped) → step s.node input ≡ Ok stepped → HasMoved d st (took (Ok stepped) d silo s) silo
  took_moves st silo s there input brought stepped is = record {
    membership = refl;
    node = s.node;
    there = ap (option_map its_node) there;
    input = input;
    brought = brought;
    stepped = stepped;
    is = is;
    put = ap (option_map its_node) (found_put silo_cmp silo_cmp_total silo_cmp_exact silo (record s { node = stepped.node }) d.processes);
    beside =
        λ other apart. ap (option_map its_node) (found_beside_put silo_cmp silo_cmp_total silo_cmp_exact silo
        (record s { node = stepped.node }) d.processes other apart);
    written = refl;
  }

  takes : (st : Step) (silo : Silo) (s : SiloValue) → process_of d silo ≡ Some s → (input : Input) → IsBrought d st silo input
      → (r : Result Stepped ℕ) → step s.node input ≡ r → Moves d st (took r d silo s)
  takes st silo s there input brought (Err number) is = inl stayed
  takes st silo s there input brought (Ok stepped) is = inr (silo, took_moves st silo s there input brought stepped is)

  barred_moves : (st : Step) (silo : Silo) (s : SiloValue) → process_of d silo ≡ Some s → (input : Input) → IsBrought d st silo input
      → (o : Option ℕ) → Moves d st (took (unless_barred o (step s.node input)) d silo s)
  barred_moves st silo s there input brought None = takes st silo s there input brought (step s.node input) refl
  barred_moves st silo s there input brought (Some number) = inl stayed

  does_moves : (st : Step) (silo : Silo) (input : Input) → IsBrought d st silo input → (o : Option SiloValue) → process_of d silo ≡ o
      → Moves d st (does_at o d silo input)
  does_moves st silo input brought None there = inl stayed
  does_moves st silo input brought (Some s) there = barred_moves st silo s there input brought (barred s)

  heard_stays : (silo : Silo) (s : SiloValue) (r : Result Heard ℕ) → process_of d silo ≡ Some s → HasStayed d (heard r d silo s)
  heard_stays silo s (Err number) there = stayed
  heard_stays silo s (Ok its) there =
      record { membership = refl; nodes = put_same silo s (record s { membership = its.membership }) there refl; written = refl }

  tells_stays : (silo : Silo) (s : SiloValue) (index : ℕ) (o : Option Change) → process_of d silo ≡ Some s
      → HasStayed d (tells o d silo s index)
  tells_stays silo s index None there = stayed
  tells_stays silo s index (Some c) there = heard_stays silo s (told s.node.settings s.membership (index + 1) c) there

  tells_at_stays : (silo : Silo) (index : ℕ) (o : Option SiloValue) → process_of d silo ≡ o → HasStayed d (tells_at o d silo index)
  tells_at_stays silo index None there = stayed
  tells_at_stays silo index (Some s) there = tells_stays silo s index (slice_get d.changes index) there

  begins_stay : (silo : Silo) (s : SiloValue) (r : Result Membership ℕ) → process_of d silo ≡ Some s → HasStayed d (begins r d silo s)
  begins_stay silo s (Err number) there = stayed
  begins_stay silo s (Ok its) there =
      record { membership = refl; nodes = put_same silo s (record s { membership = its }) there refl; written = refl }

  begins_at_stays : (silo : Silo) (version : ℕ) (o : Option SiloValue) → process_of d silo ≡ o → HasStayed d (begins_at o d silo version)
  begins_at_stays silo version None there = stayed
  begins_at_stays silo version (Some s) there =
      on_bool (λ b. HasStayed d (if b then
      begins (told_view s.node.settings s.membership silo version (listing_of d.membership version)) d silo s else d))
      (nat_le version d.membership.views.version)
      (λ t. begins_stay silo s (told_view s.node.settings s.membership silo version (listing_of d.membership version)) there) (λ f. stayed)

  module _ (r : IsAtRest d) where
    -- ---- a silo at rest is told all, and isn't barred
    pub record IsIn (silo : Silo) (s : SiloValue) : Type 0 where
      pub told : s.membership.views.version ≡ d.membership.views.version
      pub address : s.node.host.silo ≡ silo
      pub free : barred s ≡ None

    free_of : (o : Option Status) → is_live o ≡ true → barred_by o ≡ None
    free_of None is = absurd (cc (is))
    free_of (Some Active) is = refl
    free_of (Some Leaving) is = refl
    free_of (Some Dead) is = absurd (cc (is))

    pub is_in : (silo : Silo) (s : SiloValue) → process_of d silo ≡ Some s → IsIn silo s
    is_in silo s there =
        let m = s.membership in
        let its = its_process d (its_sound d r) silo s there in
        let to = told_agrees d.settings d.changes d.membership m silo its.told in
        let within = (its_wholes d r silo s there).seen.within in
        let last = r.seen silo s there in
        let low = to.version in
        let version : m.views.version ≡ d.membership.views.version = omega (arith, within, last, low) in
        let w = its_world d r in
        let live : is_live (status_at d.membership.views d.membership.views.version silo) ≡ true =
        subst (λ (v : ViewsValue). is_live (status_at v v.version silo) ≡ true) w.views
        (sym (w.peopled.live silo) ∙ ap (λ (o : Option Node). is_some o)
        (w.nodes silo ∙ ap (λ (o : Option SiloValue). option_map (node_with_room w.events w.letters) (option_map its_node o)) there)) in
        let all : IsViews d.membership.views = subst (λ (v : ViewsValue). IsViews v) w.views w.peopled.whole in
        let own : is_live (status_at m.views m.views.version silo) ≡ true =
        sym (live_said m.views its.told.are.whole m.views.version (omega arith) silo)
        ∙ ap (λ (v : ViewValue). is_live (status_of v silo)) (sym (to.views m.views.version its.told.are.whole.first_upto (omega arith)))
        ∙ live_said d.membership.views all m.views.version low silo
        ∙ ap (λ v. is_live (status_at d.membership.views v silo)) version ∙ live in
        let its_own : is_live (own_status s) ≡ true = ap (λ q. is_live (status_at m.views m.views.version q)) its.address ∙ own in
        record { told = version; address = its.address; free = free_of (own_status s) its_own }

    pub does_is : (silo : Silo) (s : SiloValue) → process_of d silo ≡ Some s → (input : Input) → does s input ≡ step s.node input
    does_is silo s there input = ap (λ o. unless_barred o (step s.node input)) (is_in silo s there).free

    -- ---- it sees no version
    sees_stays : (silo : Silo) (version : ℕ) (s : SiloValue) → process_of d silo ≡ Some s → (o : Option ℕ)
        → HasStayed d (took (unless_barred o (seen s version)) d silo s)
    sees_stays silo version s there (Some number) = stayed
    sees_stays silo version s there None =
        by (nat_lt s.node.view.version version) (is_seeable s.membership s.node.host.silo version) refl refl
      where
        by : (newer seeable : Bool) → nat_lt s.node.view.version version ≡ newer
            → is_seeable s.membership s.node.host.silo version ≡ seeable
            → HasStayed d (took (if not newer then Err 903 else
            (if not seeable then Err 904 else step s.node (sight_of s.membership version))) d silo s)
        by false seeable at can = stayed
        by true false at can = stayed
        by true true at can =
            let above = ltb-true s.node.view.version version at in
            let joined = nat_le (unwrap_or (joining_version s.membership.views s.node.host.silo) 0) version in
            let within = leb-true version s.membership.views.version (both (nat_le version s.membership.views.version) joined can).0 in
            let last = r.seen silo s there in
            let all = (is_in silo s there).told in
            absurd (omega (arith, above, within, last, all))

    sees_at_stays : (silo : Silo) (version : ℕ) (o : Option SiloValue) → process_of d silo ≡ o → HasStayed d (sees_at o d silo version)
    sees_at_stays silo version None there = stayed
    sees_at_stays silo version (Some s) there = sees_stays silo version s there (barred s)

    -- ---- letters
    abbrev taken_if : Bool → SiloValue → Letter → Result Stepped ℕ
    taken_if its s letter = if its then does s (Receives letter) else Ok (silently s.node Ignored)

    delivers_moves : (silo : Silo) (s : SiloValue) (index : ℕ) (o : Option Letter) → slice_get d.written index ≡ o
        → process_of d silo ≡ Some s → Moves d (Receive silo index) (delivers o d silo s)
    delivers_moves silo s index None found there = inl stayed
    delivers_moves silo s index (Some letter) found there = by (silo_eq letter.to s.node.host.silo) refl
      where
        by : (b : Bool) → silo_eq letter.to s.node.host.silo ≡ b → Moves d (Receive silo index) (took (taken_if b s letter) d silo s)
        by false at = inl (record { membership = refl; nodes = put_same silo s s there refl; written = append-nil d.written })
        by true at =
            barred_moves (Receive silo index) silo s there (Receives letter)
            ((Decides-silo letter.to s.node.host.silo).0 at ∙ (is_in silo s there).address, index, found, refl) (barred s)

    receives_moves : (silo : Silo) (index : ℕ) (o : Option SiloValue) → process_of d silo ≡ o
        → Moves d (Receive silo index) (receives_at o d silo index)
    receives_moves silo index None there = inl stayed
    receives_moves silo index (Some s) there = delivers_moves silo s index (slice_get d.written index) refl there

    pub quiet_moves : (st : Step) → DecidesNone st → Moves d st (after d st)
    unfolding after
    quiet_moves (Decide change) none = absurd none
    quiet_moves (Tell silo index) none = inl (tells_at_stays silo index (process_of d silo) refl)
    quiet_moves (Begin silo version) none = inl (begins_at_stays silo version (process_of d silo) refl)
    quiet_moves (See silo version) none = inl (sees_at_stays silo version (process_of d silo) refl)
    quiet_moves (Do silo step) none = does_moves (Do silo step) silo (Does step) tt (process_of d silo) refl
    quiet_moves (Receive silo index) none = receives_moves silo index (process_of d silo) refl

    -- ---- a letter that comes to its receiver, and a nudge
    pub letter_comes : (index : ℕ) (letter : Letter) (s : SiloValue) → slice_get d.written index ≡ Some letter
        → process_of d letter.to ≡ Some s → (m : HasMoved d (Receive letter.to index) (after d (Receive letter.to index)) letter.to) ×
        (m.stepped ≡ received s.node letter) × (m.node ≡ s.node)
    unfolding after
    letter_comes index letter s found there =
        let is = is_in letter.to s there in
        let own : silo_eq letter.to s.node.host.silo ≡ true = (Decides-silo letter.to s.node.host.silo).1 (sym is.address) in
        let so : receives_at (process_of d letter.to) d letter.to index ≡ took (Ok (received s.node letter)) d letter.to s =
        ap (λ o. receives_at o d letter.to index) there ∙ ap (λ o. delivers o d letter.to s) found
        ∙ ap (λ b. took (taken_if b s letter) d letter.to s) own
        ∙ ap (λ x. took x d letter.to s) (does_is letter.to s there (Receives letter)) in
        subst (λ next. (m : HasMoved d (Receive letter.to index) next letter.to) × (m.stepped ≡ received s.node letter) × (m.node ≡ s.node))
        (sym so) (
          took_moves (Receive letter.to index) letter.to s there (Receives letter) (refl, index, found, refl) (received s.node letter) refl,
          refl,
          refl,
        )

    pub nudge_comes : (silo : Silo) (part : OwnStep) (s : SiloValue) (nudged : Stepped) → process_of d silo ≡ Some s
        → does s (Does part) ≡ Ok nudged → (m : HasMoved d (Do silo part) (after d (Do silo part)) silo) × (m.stepped ≡ nudged) ×
        (m.node ≡ s.node) × (step s.node (Does part) ≡ Ok nudged)
    unfolding after
    nudge_comes silo part s nudged there is =
        let so : does_at (process_of d silo) d silo (Does part) ≡ took (Ok nudged) d silo s = ap (λ o. does_at o d silo (Does part)) there ∙ ap (λ x. took x d silo s) is in
        let did : step s.node (Does part) ≡ Ok nudged = sym (does_is silo s there (Does part)) ∙ is in
        subst (λ next. (m : HasMoved d (Do silo part) next silo) × (m.stepped ≡ nudged) × (m.node ≡ s.node) ×
        (step s.node (Does part) ≡ Ok nudged)) (sym so)
        (took_moves (Do silo part) silo s there (Does part) tt nudged did, refl, refl, did)

    -- ---- and all have still seen the last change
    stays_seen : (silo : Silo) (node : Node) → node_at d silo ≡ Some node → node.view.version ≡ d.membership.views.version
    stays_seen silo node at =
        let its = process_with (process_of d silo) node at in
        ap (λ (n : Node). n.view.version) (sym its.2) ∙ r.seen silo its.0 its.1

    pub view_stays : (st : Step) (node : Node) (silo : Silo) (input : Input) (stepped : Stepped) → IsBrought d st silo input
        → step node input ≡ Ok stepped → stepped.node.view ≡ node.view
    view_stays st node silo (Sees before view places) stepped brought is = absurd brought
    view_stays st node silo (Does step) stepped brought is = view_kept node (Does step) stepped is
    view_stays st node silo (Receives letter) stepped brought is = view_kept node (Receives letter) stepped is

    still_all : (st : Step) (next : Deployment) → Moves d st next → HaveAllSeen next
    still_all st next (inl stays) silo t there =
        stays_seen silo t.node (sym (stays.nodes silo) ∙ ap (option_map its_node) there)
        ∙ ap (λ (m : Membership). m.views.version) (sym stays.membership)
    still_all st next (inr moved) silo t there =
        (on_bool (λ b. silo_eq silo moved.0 ≡ b → t.node.view.version ≡ d.membership.views.version) (silo_eq silo moved.0)
        (λ b is.
        let one = (Decides-silo silo moved.0).0 is in
        let its : node_at next moved.0 ≡ Some t.node = ap (λ q. node_at next q) (sym one) ∙ ap (option_map its_node) there in
        let put = moved.1.put in
        let node : t.node ≡ moved.1.stepped.node = cc (its, put) in
        ap (λ (n : Node). n.view.version) node ∙ ap (λ (v : ViewValue). v.version)
        (view_stays st moved.1.node moved.0 moved.1.input moved.1.stepped moved.1.brought moved.1.is)
        ∙ stays_seen moved.0 moved.1.node moved.1.there)
        (λ f is. stays_seen silo t.node (sym (moved.1.beside silo (λ same. let it = (Decides-silo silo moved.0).1 same in cc (it, is)))
        ∙ ap (option_map its_node) there)) refl)
        ∙ ap (λ (m : Membership). m.views.version) (sym moved.1.membership)

    pub rests_on : (st : Step) → IsStep st → DecidesNone st → IsAtRest (after d st)
    rests_on st named none = record {
      settings = r.settings;
      steps = r.steps ++ st ∷ [];
      are = r.are;
      named = All-append IsStep r.steps (st ∷ []) r.named (All-cons IsStep st [] named (All-nil IsStep));
      is = ap (λ x. after x st) r.is ∙ sym (one_more _ r.steps st);
      seen = still_all st (after d st) (quiet_moves st none);
    }

-- The views and the nodes: a silo has a node just where it is in the current view and isn't Dead there.
use Rattle.std.proofs.Common.{arith, inl, inr, ℕ, ◌≤◌, IsSome, Bool, ◌≡◌, ◌≢◌, refl, sym, ap, subst, ◌∙◌, List}
use Rattle.std.specs.Prelude.{true, false, cond, is_some, Option, Some, None, Ok}
use Rattle.std.specs.List.Sorted.{IsStrictlySortedBy}
use Rattle.std.specs.Map.{lookup, keys_of, remove_entry}
use Rattle.std.specs.BTreeMap.{is_at, insert_entry}
use Rattle.std.specs.Ordering.{is_eq}
use Rattle.std.specs.declared.cmp.Ordering.{Ordering}
use Rattle.std.proofs.lemmas.Bool.{cases_lt}
use Rattle.std.proofs.lemmas.Cmp.{tied_itself}
use Rattle.texts.proofs.Orderings.{Equal-from}
use Rattle.texts.proofs.Decided.{decided}
use Rattle.silo_address.specs.Silo.{Silo, silo_cmp, silo_eq, IsSameEndpoint}
use Rattle.silo_address.proofs.Same.{Decides-silo}
use Rattle.silo_address.proofs.Order.{silo_cmp_total, silo_cmp_exact, apart_in_order}
use Rattle.membership_view.specs.declared.status.Status.{Status}
use Rattle.membership_view.specs.declared.status.Status.TheVariants.{Active, Leaving, Dead}
use Rattle.membership_view.specs.Views.{ViewsValue, view_at, status_at}
use Rattle.membership_view.specs.View.{ViewValue, or_outlived, shares_endpoint, status_of}
use Rattle.membership_view.specs.Whole.{IsViews}
use Rattle.membership_view.specs.Changes.{Join, Leave, Die, after, after_join, occupant}
use Rattle.membership_view.specs.Step.{Joins, Leaves, Dies}
use Rattle.texts.proofs.Entries.{lookup-insert_entry, sorted-insert_entry, sorted-remove_entry}
use Rattle.membership_view.proofs.After.{row_status}
use Rattle.membership_view.proofs.Known.{status_at-made}
use Rattle.membership_view.proofs.Said.{outlived_in, said}
use Rattle.membership_view.proofs.Kept.{whole-after}
use Rattle.membership_view.proofs.Changes.{changes_are_steps}
use Rattle.membership_view.proofs.Order.{Decides-shares}
use Rattle.membership_view.proofs.Searches.{occupant_law}
use Rattle.directory_rules.specs.State.{Node}
use Rattle.directory_rules.specs.Laws.{is_live, ArePeopled}
use Rattle.directory_rules.proofs.Cases.{on_bool}
use Rattle.directory_rules.proofs.Tables.{lookup-remove_other}
use Rattle.directory_rules.proofs.Removed.{lookup_removed}

-- the node of a silo
abbrev at : Silo → List (Silo × Node) → Option Node
at silo nodes = lookup (is_at (silo_cmp silo)) nodes

abbrev now : ViewsValue → Silo → Option Status
now views silo = status_at views views.version silo

-- what the current view says of it
abbrev then : ViewsValue → Silo → Option Status
then views silo = status_of (view_at views views.version) silo

-- another silo's node is found as before
at_other : (taken other : Silo) (nodes : List (Silo × Node)) → other ≢ taken
    → at other (remove_entry (is_at (silo_cmp taken)) nodes) ≡ at other nodes
at_other taken other nodes differ =
    lookup-remove_other (is_at (silo_cmp taken)) (is_at (silo_cmp other))
    (λ k same. apart_in_order silo_cmp silo_cmp_exact other k
    (λ is. differ (is ∙ sym (silo_cmp_exact taken k (Equal-from (silo_cmp taken k) same))))) nodes

at_put : (silo other : Silo) (node : Node) (nodes : List (Silo × Node)) → other ≢ silo
    → at other (insert_entry silo_cmp nodes silo node) ≡ at other nodes
at_put silo other node nodes differ =
    lookup-insert_entry silo_cmp_total silo node other nodes
    ∙ ap (λ b. cond b (Some node) (at other nodes)) (apart_in_order silo_cmp silo_cmp_exact other silo differ)

there_put : (silo other : Silo) (node : Node) (nodes : List (Silo × Node)) → other ≡ silo
    → is_some (at other (insert_entry silo_cmp nodes silo node)) ≡ true
there_put silo other node nodes same = subst (λ q. is_some (at q (insert_entry silo_cmp nodes silo node)) ≡ true) (sym same)
    (ap is_some (lookup-insert_entry silo_cmp_total silo node silo nodes
    ∙ ap (λ (r : Ordering). cond (is_eq r) (Some node) (at silo nodes)) (tied_itself silo_cmp_total silo)))

by_silo : (P : Type 0) (a b : Silo) → (a ≡ b → P) → (a ≢ b → P) → P
by_silo P a b same differ = elim (decided (silo_eq a b) (Decides-silo a b)) [ inl is ↦ same is | inr not ↦ differ not ]

-- whether a silo is live in a view, its row tells: who is outlived isn't
pub live_said : (views : ViewsValue) → IsViews views → (version : ℕ) → version ≤ views.version → (q : Silo)
    → is_live (status_of (view_at views version) q) ≡ is_live (status_at views version q)
live_said views whole version made q =
    ap is_live (said views whole.in_order version q made)
    ∙ by (row_status version views.rows q) (outlived_in version views.rows q)
    ∙ sym (ap is_live (status_at-made views whole.in_order version q made))
  where
    by : (o : Option Status) (b : Bool) → is_live (or_outlived o b) ≡ is_live o
    by None true = refl
    by None false = refl
    by (Some status) b = refl

live_now : (views : ViewsValue) → IsViews views → (q : Silo) → is_live (status_of (view_at views views.version) q) ≡ is_live (now views q)
live_now views whole q = live_said views whole views.version (omega arith) q

-- a live silo's node is replaced
pub peopled_put : (views : ViewsValue) (nodes : List (Silo × Node)) (silo : Silo) (old node : Node) → ArePeopled views nodes
    → at silo nodes ≡ Some old → ArePeopled views (insert_entry silo_cmp nodes silo node)
peopled_put views nodes silo old node are there = record {
  whole = are.whole;
  by_address = sorted-insert_entry silo_cmp_total silo node nodes are.by_address;
  live = λ q. by_silo (is_some (at q (insert_entry silo_cmp nodes silo node)) ≡ is_live (now views q)) q silo
      (λ same. there_put silo q node nodes same ∙ subst (λ s. true ≡ is_live (now views s)) (sym same)
      (sym (ap is_some there) ∙ are.live silo))
      (λ differ. ap is_some (at_put silo q node nodes differ) ∙ are.live q);
}

-- a silo begins to leave
pub peopled_leave : (views next : ViewsValue) (nodes : List (Silo × Node)) (silo : Silo) → ArePeopled views nodes
    → after views (Leave silo) ≡ Ok next → ArePeopled next nodes
peopled_leave views next nodes silo are is =
    let step : Leaves silo (view_at views views.version) (view_at next next.version) = changes_are_steps views (Leave silo) next (record { whole = are.whole; is = is }) in
    record {
      whole = whole-after views are.whole (Leave silo) next is;
      by_address = are.by_address;
      live = λ q.
          are.live q ∙ sym (live_now views are.whole q)
          ∙ by_silo (is_live (then views q) ≡ is_live (then next q)) q silo
          (λ same. subst (λ s. is_live (then views s) ≡ is_live (then next s)) (sym same) (ap is_live step.was ∙ sym (ap is_live step.left)))
          (λ differ. sym (ap is_live (step.others q differ)))
          ∙ live_now next (whole-after views are.whole (Leave silo) next is) q;
    }

-- a silo dies
pub peopled_death : (views next : ViewsValue) (nodes : List (Silo × Node)) (silo : Silo) → ArePeopled views nodes
    → after views (Die silo) ≡ Ok next → ArePeopled next (remove_entry (is_at (silo_cmp silo)) nodes)
peopled_death views next nodes silo are is =
    let step : Dies silo (view_at views views.version) (view_at next next.version) = changes_are_steps views (Die silo) next (record { whole = are.whole; is = is }) in
    record {
      whole = whole-after views are.whole (Die silo) next is;
      by_address = sorted-remove_entry (is_at (silo_cmp silo)) silo_cmp nodes are.by_address;
      live = λ q. by_silo (is_some (at q (remove_entry (is_at (silo_cmp silo)) nodes)) ≡ is_live (now next q)) q silo
          (λ same. subst (λ s. is_some (at s (remove_entry (is_at (silo_cmp silo)) nodes)) ≡ is_live (now next s)) (sym same)
          (ap is_some (lookup_removed silo_cmp silo_cmp_total silo nodes are.by_address)
          ∙ sym (sym (live_now next (whole-after views are.whole (Die silo) next is) silo) ∙ ap is_live step.dead)))
          (λ differ. ap is_some (at_other silo q nodes differ) ∙ are.live q ∙ sym (live_now views are.whole q)
          ∙ sym (ap is_live (step.others q differ)) ∙ live_now next (whole-after views are.whole (Die silo) next is) q);
    }

-- a silo of the endpoint other than the one that joins isn't live after that
not_live : (silo q : Silo) (view next : ViewValue) → Joins silo view next → IsSameEndpoint silo q → q ≢ silo
    → is_live (status_of next q) ≡ false
not_live silo q view next step same differ = elim (cases_lt q.generation silo.generation) [
  | inl below ↦ ap is_live (step.older q same below)
  | inr above ↦ ap is_live (step.others q differ (λ both. let below = both.1 in omega (below, above, arith))) ∙ by above (status_of view q) refl
]
  where
    by : silo.generation ≤ q.generation → (o : Option Status) → status_of view q ≡ o → is_live (status_of view q) ≡ false
    by above None at = ap is_live at
    by above (Some status) at =
        let below = step.newest q same (subst (λ o. IsSome o) (sym at) refl) in
        absurd (omega (below, above, arith))

live_stands : (status : Option Status) → is_live status ≡ true → IsSome status × (status ≢ Some Dead)
live_stands None live = absurd (cc (live))
live_stands (Some Active) live = (refl, λ e. cc (e))
live_stands (Some Leaving) live = (refl, λ e. cc (e))
live_stands (Some Dead) live = absurd (cc (live))

-- the nodes without that of the silo that is replaced, if there is one
abbrev pub without : Option Silo → List (Silo × Node) → List (Silo × Node)
without None nodes = nodes
without (Some old) nodes = remove_entry (is_at (silo_cmp old)) nodes

without_sorted : (old : Option Silo) (nodes : List (Silo × Node)) → IsStrictlySortedBy silo_cmp (keys_of nodes)
    → IsStrictlySortedBy silo_cmp (keys_of (without old nodes))
without_sorted None nodes sorted = sorted
without_sorted (Some old) nodes sorted = sorted-remove_entry (is_at (silo_cmp old)) silo_cmp nodes sorted

-- of the endpoint's silos only the one that is replaced has a node
replaced_gone : (old : Option Silo) (nodes : List (Silo × Node)) (q : Silo) → IsStrictlySortedBy silo_cmp (keys_of nodes)
    → (is_some (at q nodes) ≡ true → old ≡ Some q) → is_some (at q (without old nodes)) ≡ false
replaced_gone None nodes q sorted only =
    on_bool (λ b. is_some (at q nodes) ≡ b → b ≡ false) (is_some (at q nodes)) (λ t is. absurd (cc (only is))) (λ f is. refl) refl
replaced_gone (Some old) nodes q sorted only = by_silo (is_some (at q (remove_entry (is_at (silo_cmp old)) nodes)) ≡ false) q old
    (λ same. subst (λ s. is_some (at s (remove_entry (is_at (silo_cmp old)) nodes)) ≡ false) (sym same)
    (ap is_some (lookup_removed silo_cmp silo_cmp_total old nodes sorted)))
    (λ differ. ap is_some (at_other old q nodes differ)
    ∙ on_bool (λ b. is_some (at q nodes) ≡ b → b ≡ false) (is_some (at q nodes)) (λ t is. absurd (differ (same_silo_of (only is))))
    (λ f is. refl) refl) where
      same_silo_of : Some old ≡ Some q → q ≡ old
      same_silo_of e = cc (e)

others_stay : (old : Option Silo) (nodes : List (Silo × Node)) (q : Silo) → old ≢ Some q → at q (without old nodes) ≡ at q nodes
others_stay None nodes q not = refl
others_stay (Some old) nodes q not = at_other old q nodes (λ same. not (ap Some (sym same)))

-- a silo joins, and the older one of its endpoint, if there is one, goes
pub peopled_join : (views next : ViewsValue) (nodes : List (Silo × Node)) (silo : Silo) (node : Node) → ArePeopled views nodes
    → after_join views silo ≡ Ok next
    → ArePeopled next (insert_entry silo_cmp (without (occupant silo views.rows) nodes) silo node)
peopled_join views next nodes silo node are is =
    let step : Joins silo (view_at views views.version) (view_at next next.version) = changes_are_steps views (Join silo) next (record { whole = are.whole; is = is }) in
    let after = whole-after views are.whole (Join silo) next is in
    record {
      whole = after;
      by_address =
          sorted-insert_entry silo_cmp_total silo node (without (occupant silo views.rows) nodes)
          (without_sorted (occupant silo views.rows) nodes are.by_address);
      live =
          λ q. by_silo (is_some (at q (insert_entry silo_cmp (without (occupant silo views.rows) nodes) silo node)) ≡ is_live (now next q))
          q silo
          (λ same. there_put silo q node (without (occupant silo views.rows) nodes) same
          ∙ subst (λ s. true ≡ is_live (now next s)) (sym same) (sym (sym (live_now next after silo) ∙ ap is_live step.joined)))
          (λ differ. ap is_some (at_put silo q node (without (occupant silo views.rows) nodes) differ)
          ∙ elsewhere views next nodes silo q are after step differ);
    } where
      elsewhere : (views next : ViewsValue) (nodes : List (Silo × Node)) (silo q : Silo) → ArePeopled views nodes → IsViews next
          → Joins silo (view_at views views.version) (view_at next next.version) → q ≢ silo
          → is_some (at q (without (occupant silo views.rows) nodes)) ≡ is_live (now next q)
      elsewhere views next nodes silo q are after step differ =
          elim (decided (shares_endpoint silo q) (Decides-shares silo q)) [
            | inl same ↦ replaced_gone (occupant silo views.rows) nodes q are.by_address
                (λ there. (occupant_law views are.whole silo q).1 (same, live_stands (now views q) (sym (are.live q) ∙ there)))
                ∙ sym (sym (live_now next after q) ∙ not_live silo q (view_at views views.version) (view_at next next.version) step same differ)
            | inr apart ↦ ap is_some (others_stay (occupant silo views.rows) nodes q
                (λ stands. apart ((occupant_law views are.whole silo q).0 stands).0))
                ∙ are.live q ∙ sym (live_now views are.whole q)
                ∙ sym (ap is_live (step.others q differ (λ both. apart both.0))) ∙ live_now next after q
          ]

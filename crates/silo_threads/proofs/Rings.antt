-- A publication of what an event left.
use Rattle.std.proofs.Common.{◌≡◌, ◌∙◌, ◌≤◌, ◌++◌, [], ◌∷◌, ℕ, IfErr, IfSome, List, Option, Some, None, Result, Ok, Err, ap, arith, inl, inr, length, refl, subst, sym, true≢false}
use Rattle.membership_view.specs.View.{ViewValue}
use Rattle.hash_ring.specs.Places.{PlacesValue}
use Rattle.directory_rules.specs.Settings.{Settings}
use Rattle.directory_rules.specs.State.{World}
use Rattle.directory_rules.specs.World.{current_view}
use Rattle.cluster_journal.specs.Entry.{EntryValue}
use Rattle.cluster_journal.specs.Journal.{world_of}
use Rattle.cluster_journal.specs.Posted.{IsReceiptOf}
use Rattle.cluster_journal.specs.declared.entry.Receipt.{Receipt}
use Rattle.cluster_journal.proofs.Beginnings.{is_whole}
use Rattle.directory_rules.specs.Event.{Event}
use Rattle.hash_ring.specs.Ring.{ring_of}
use Rattle.published_rings.specs.Ends.{PublisherValue, after_publishing}
use Rattle.std.specs.Prelude.{IsOk, OnErr, OnOk}
use Rattle.std.specs.Result.{result_err}
use Rattle.silo_address.specs.Silo.{Silo}
use Rattle.silo_threads.specs.Cluster.{ClusterValue}
use Rattle.silo_threads.specs.Followed.{HasChanged, HasJoined, HasPublished, IsBehind, IsToShow, LacksThread, Shows, ShowsNewest, version_made, with_worker}
use Rattle.silo_threads.specs.declared.fault.Lack.{Lack}
use Rattle.silo_threads.specs.declared.fault.Lack.TheVariants.{Publication, Thread}
use Rattle.silo_threads.proofs.VersionsMade.{up_to, version_left}

-- the newest ring is of the view's version or of a later one
shown_up_to : (view : ViewValue) (places : PlacesValue) (before after : PublisherValue) → Shows view places before after
    → view.version ≤ after.last.version
shown_up_to view places before after (inl shown) = let its = ap (λ (p : PublisherValue). p.last.version) shown.1 in omega arith
shown_up_to view places before after (inr shown) =
    let its = ap (λ (p : PublisherValue). p.last.version) shown.1 in let within = shown.0 in omega arith

-- a join whose worker lacks its thread
pub unstarted : (world : World) (silo : Silo) (receipt : Receipt) (before after : ClusterValue) (workers : List Silo) (lack : Option Lack)
    (why : Lack) → lack ≡ Some why → why ≡ Thread
    → LacksThread silo before.workers workers → after ≡ record before { workers = workers } → HasJoined world silo receipt before after lack
unstarted world silo receipt before after workers lack why is its lacks after_is =
    subst (HasJoined world silo receipt before after) (sym (is ∙ ap (λ (l : Lack). Some l) its)) (
      subst (LacksThread silo before.workers) (sym (ap (λ (v : ClusterValue). v.workers) after_is)) lacks,
      ap (λ (v : ClusterValue). v.published) after_is,
    )

module _ (settings : Settings) (known now : List EntryValue) (event : Event) (receipt : Receipt)
    (its : IsReceiptOf settings known now event receipt) (last : receipt.number ≡ length now) where
  -- what the receipt tells is the version of the world that its event left
  left_up_to : (bound : ℕ) → (world_of settings now).views.version ≤ bound
      → IfSome (version_made receipt.entry.outcome.happening) (λ version. version ≤ bound)
  left_up_to bound within =
      let all = its.journal ++ receipt.entry ∷ [] in
      let same = is_whole its.journal now receipt.entry receipt.number its.stands its.number last in
      up_to (version_made receipt.entry.outcome.happening) (world_of settings all).views.version bound
      (version_left (world_of settings its.journal) event (world_of settings all) receipt.entry.outcome its.told)
      (subst (λ (l : List EntryValue). (world_of settings l).views.version ≤ bound) same within)

  module _ {E : Type 0} where
    shown_as_left : (newest : Result (Option (ViewValue × PlacesValue)) E) (before after : PublisherValue)
        → IsToShow (world_of settings now) before.last.version newest → ShowsNewest newest before after
        → Shows (current_view (world_of settings now)) (world_of settings now).places before after
    shown_as_left (Ok None) before after left shows = inr (left, shows)
    shown_as_left (Ok (Some newest)) before after left shows =
        let world = world_of settings now in
        inl (
          left.0,
          subst (λ (v : ViewValue). after ≡ after_publishing before (ring_of v world.places)) left.1.0
              (subst (λ (p : PlacesValue). after ≡ after_publishing before (ring_of newest.0 p)) left.1.1 shows),
        )
    shown_as_left (Err failure) before after left shows = absurd shows

    pub published_as_left : (newest : Result (Option (ViewValue × PlacesValue)) E) (before after : PublisherValue)
        → IsToShow (world_of settings now) before.last.version newest → ShowsNewest newest before after
        → HasPublished (world_of settings now) receipt before after
    published_as_left newest before after left shows =
        let world = world_of settings now in
        let shown = shown_as_left newest before after left shows in
        record {
          shown = shown;
          up_to_date = left_up_to after.last.version (shown_up_to (current_view world) world.places before after shown);
        }

    -- what lacks is newer than the last ring
    lacks_newer : (newest : Result (Option (ViewValue × PlacesValue)) E) (published : ℕ) (lack : Lack) (result : Result (Unit {0}) Lack)
        → result ≡ Err lack → IsToShow (world_of settings now) published newest → (newest ≡ Ok None → IsOk result)
        → IsBehind published (world_of settings now)
    lacks_newer (Ok None) published lack result is left nothing = absurd (true≢false (sym (subst (λ (r : Result (Unit {0}) Lack). IsOk r) is (nothing refl))))
    lacks_newer (Ok (Some newest)) published lack result is left nothing = left.0
    lacks_newer (Err failure) published lack result is left nothing = left

  module _ {E : Type 0} (newest : Result (Option (ViewValue × PlacesValue)) E) (before after : ClusterValue)
      (left : IsToShow (world_of settings now) before.published.last.version newest) where
    -- a change of members is followed by its publication, but for what lacks
    pub changed : (result : Result (Unit {0}) Lack) (lack : Option Lack) → lack ≡ result_err result → after.workers ≡ before.workers
        → OnOk result (ShowsNewest newest before.published after.published)
        → OnErr result (after ≡ before) → IfErr result (λ l. l ≡ Publication) → (newest ≡ Ok None → IsOk result)
        → HasChanged (world_of settings now) receipt before after lack
    changed (Ok tt) lack is workers shown same lacks nothing =
        subst (HasChanged (world_of settings now) receipt before after) (sym is)
        (workers, published_as_left newest before.published after.published left shown)
    changed (Err Thread) lack is workers shown same lacks nothing = absurd (cc)
    changed (Err Publication) lack is workers shown same lacks nothing =
        subst (HasChanged (world_of settings now) receipt before after) (sym is)
        (same, lacks_newer newest before.published.last.version Publication (Err Publication) refl left nothing)

  module _ {E : Type 0} (newest : Result (Option (ViewValue × PlacesValue)) E) (silo : Silo) (before started after : ClusterValue)
      (left : IsToShow (world_of settings now) before.published.last.version newest) where
    -- a join by a worker too, which was started before
    pub joined : (result : Result (Unit {0}) Lack) (lack : Option Lack) → lack ≡ result_err result
        → started ≡ record before { workers = with_worker before.workers silo } → after.workers ≡ started.workers
        → OnOk result (ShowsNewest newest started.published after.published) → OnErr result (after ≡ started)
        → IfErr result (λ l. l ≡ Publication) → (newest ≡ Ok None → IsOk result)
        → HasJoined (world_of settings now) silo receipt before after lack
    joined (Ok tt) lack is start workers shown same lacks nothing =
        let published = ap (λ (c : ClusterValue). c.published) start in
        subst (HasJoined (world_of settings now) silo receipt before after) (sym is) (
          workers ∙ ap (λ (c : ClusterValue). c.workers) start,
          published_as_left newest before.published after.published left
              (subst (λ (p : PublisherValue). ShowsNewest newest p after.published) published shown),
        )
    joined (Err Thread) lack is start workers shown same lacks nothing = absurd (cc)
    joined (Err Publication) lack is start workers shown same lacks nothing =
        subst (HasJoined (world_of settings now) silo receipt before after) (sym is)
        (same ∙ start, lacks_newer newest before.published.last.version Publication (Err Publication) refl left nothing)

-- A process that reads lines before its silo's join is decided is one that reads them after that.
use Rattle.std.proofs.Common.{arith, ◌≡◌, ◌≢◌, ℕ, zero, suc, ◌≤◌, length, length-append, take, Bool, true, false, List, [], ◌∷◌, ◌++◌, ◌⊎◌, inl, inr, Option, Some, None, Result, Ok, Err, refl, sym, ap, ◌∙◌, subst}
use Rattle.std.specs.Prelude.{⊤, cond, not, map, filter, All, IfSome, slice_get}
use Rattle.std.specs.Ordering.{match_ordering}
use Rattle.std.specs.declared.cmp.Ordering.{Ordering}
use Rattle.std.specs.declared.cmp.Ordering.TheVariants.{Less, Equal, Greater}
use Rattle.std.specs.Map.{lookup, remove_entry}
use Rattle.std.specs.BTreeMap.{is_at, insert_entry}
use Rattle.std.proofs.lemmas.Cmp.{tied_itself}
use Rattle.std.proofs.lemmas.List.{take-append-le}
use Rattle.std.proofs.lemmas.List.Elements.{All-nil, All-cons, All-head, All-tail, All-weaker}
use Rattle.silo_address.specs.Silo.{Silo, IsSilo, silo_cmp, silo_eq}
use Rattle.silo_address.proofs.Order.{silo_cmp_total, silo_cmp_exact}
use Rattle.silo_address.proofs.Same.{Decides-silo}
use Rattle.directory_rules.proofs.Cases.{on_bool}
use Rattle.directory_rules.specs.Settings.{Settings}
use Rattle.directory_facts.proofs.Lookups.{found_put, found_beside_put, found_beside_removed}
use Rattle.directory_rules.specs.Membership.{Change, Join, Leave, Die, Membership, changed, listing_of}
use Rattle.silo_rules.specs.Begun.{told_view}
use Rattle.silo_rules.specs.SiloValue.{SiloValue}
use Rattle.process_rules.specs.ReadLine.{Asked, Joined, Leaving, Dead, Begin, See, Do, Receive, Ping, Owner, Place, Figures, Show, Dump}
use Rattle.process_rules.specs.Output.{said}
use Rattle.process_deployment.specs.Allowed.{decided_by, IsLine, MayAsk, MayAskDead, IfAsks, May, MayAll}
use Rattle.process_deployment.specs.Cluster.{JoinTokens, Process, started, answer_to, having_read, reads, Cluster, first_cluster, process_at}
use Rattle.process_deployment.specs.Started.{Starting, StartingStep, Start, ReadEarly, Go, its_process, still_waiting, joining, after_starting, after_all_starting, MayAskEarly, MayStart, MayAllStart, first_starting, IsRunFrom, StartsAreRuns}
use Rattle.process_deployment.specs.Unjoined.{reads_all}
use Rattle.process_deployment.specs.Steps.{Step, Decide, Read, dying, without, with_process, with_dying, decided, read_by, reading, after, after_all}
use Rattle.process_deployment.proofs.Everyone.{its_own, put_keeps}

-- ---- lists
more_changes : (changes more : List Change) (k : ℕ) (change : Change) → slice_get changes k ≡ Some change
    → slice_get (changes ++ more) k ≡ Some change
more_changes [] more k change is = absurd (cc is)
more_changes (one ∷ changes) more zero change is = is
more_changes (one ∷ changes) more (suc k) change is = more_changes changes more k change is

pub same_or_other : (a b : Silo) → (a ≡ b) ⊎ (a ≢ b)
same_or_other a b = by (silo_eq a b) refl
  where
    by : (same : Bool) → silo_eq a b ≡ same → (a ≡ b) ⊎ (a ≢ b)
    by true is = inl ((Decides-silo a b).0 is)
    by false is = inr (λ same. let so = (Decides-silo a b).1 same in absurd (cc (is, so)))

-- what is put in again is put in once
put_over : (silo : Silo) (p q : Process) (es : List (Silo × Process))
    → insert_entry silo_cmp (insert_entry silo_cmp es silo p) silo q ≡ insert_entry silo_cmp es silo q
put_over silo p q [] =
    ap (λ r. match_ordering r ((silo, q) ∷ (silo, p) ∷ []) ((silo, q) ∷ []) ((silo, p) ∷ (silo, q) ∷ [])) (tied_itself silo_cmp_total silo)
put_over silo p q (e ∷ es) = by (silo_cmp silo e.0) refl (put_over silo p q es)
  where
    by : (r : Ordering) → silo_cmp silo e.0 ≡ r → insert_entry silo_cmp (insert_entry silo_cmp es silo p) silo q ≡ insert_entry silo_cmp es
        silo q
        → insert_entry silo_cmp (match_ordering r ((silo, p) ∷ e ∷ es) ((e.0, p) ∷ es) (e ∷ insert_entry silo_cmp es silo p)) silo q
        ≡ match_ordering r ((silo, q) ∷ e ∷ es) ((e.0, q) ∷ es) (e ∷ insert_entry silo_cmp es silo q)
    by Less is later =
        ap (λ r. match_ordering r ((silo, q) ∷ (silo, p) ∷ e ∷ es) ((silo, q) ∷ e ∷ es) ((silo, p) ∷ insert_entry silo_cmp (e ∷ es) silo q))
        (tied_itself silo_cmp_total silo)
    by Equal is later =
        ap (λ r. match_ordering r ((silo, q) ∷ (e.0, p) ∷ es) ((e.0, q) ∷ es) ((e.0, p) ∷ insert_entry silo_cmp es silo q)) is
    by Greater is later =
        ap (λ r. match_ordering r ((silo, q) ∷ e ∷ insert_entry silo_cmp es silo p) ((e.0, q) ∷ insert_entry silo_cmp es silo p)
        (e ∷ insert_entry silo_cmp (insert_entry silo_cmp es silo p) silo q)) is
        ∙ ap (λ l. e ∷ l) later

none_removed : (test : Silo → Bool) (es : List (Silo × Process)) → lookup test es ≡ None → remove_entry test es ≡ es
none_removed test [] none = refl
none_removed test (e ∷ es) none =
    on_bool (λ b. cond b (Some e.1) (lookup test es) ≡ None → cond b es (e ∷ remove_entry test es) ≡ e ∷ es) (test e.0)
    (λ t found. absurd (cc found)) (λ f found. ap (λ l. e ∷ l) (none_removed test es found)) none

-- ---- a silo that has no process has none after this
none_put : (key silo : Silo) (p : Process) (es : List (Silo × Process)) → key ≢ silo → process_at key es ≡ None
    → process_at key (insert_entry silo_cmp es silo p) ≡ None
none_put key silo p es apart none = found_beside_put silo_cmp silo_cmp_total silo_cmp_exact silo p es key apart ∙ none

-- who has none isn't who has one
apart_from : (key silo : Silo) (p : Process) (es : List (Silo × Process)) → process_at key es ≡ None → process_at silo es ≡ Some p
    → key ≢ silo
apart_from key silo p es none there same =
    let found : process_at key es ≡ Some p = ap (λ k. process_at k es) same ∙ there in cc (none, found)

none_read : (key silo : Silo) (line : List ℕ) (es : List (Silo × Process)) → process_at key es ≡ None
    → process_at key (reading silo line es) ≡ None
none_read key silo line es none = by (process_at silo es) refl
  where
    by : (o : Option Process) → process_at silo es ≡ o → process_at key (read_by o silo line es) ≡ None
    by None there = none
    by (Some p) there = none_put key silo (reads line p) es (apart_from key silo p es none there) none

none_without : (key : Silo) (old : Option Silo) (es : List (Silo × Process)) → process_at key es ≡ None
    → process_at key (without old es) ≡ None
none_without key None es none = none
none_without key (Some silo) es none = by (same_or_other key silo)
  where
    by : (key ≡ silo) ⊎ (key ≢ silo) → process_at key (without (Some silo) es) ≡ None
    by (inl same) = ap (process_at key) (none_removed (is_at (silo_cmp silo)) es (ap (λ k. process_at k es) (sym same) ∙ none)) ∙ none
    by (inr apart) = found_beside_removed silo_cmp silo_cmp_total silo_cmp_exact silo es key apart ∙ none

none_dying : (key : Silo) (old : Option Silo) (es dead : List (Silo × Process)) → process_at key es ≡ None → process_at key dead ≡ None
    → process_at key (with_dying old es dead) ≡ None
none_dying key None es dead none none_dead = none_dead
none_dying key (Some silo) es dead none none_dead = by (process_at silo es) refl
  where
    by : (o : Option Process) → process_at silo es ≡ o → process_at key (with_process o silo dead) ≡ None
    by None there = none_dead
    by (Some p) there = none_put key silo p dead (apart_from key silo p es none there) none_dead

-- ---- what a process that waits may be asked
early_asked : (c : Cluster) (p : Process) (asked : Asked) → MayAskEarly c.changes p asked → MayAsk c p asked
early_asked c p (Joined version silo token places) early = early
early_asked c p (Leaving version silo) early = early
early_asked c p (Dead version silo) early = early
early_asked c p (Begin version rows) early = early
early_asked c p (See version) early = tt
early_asked c p (Do step) early = tt
early_asked c p (Receive letter) early = λ own joined. absurd (cc (early, joined))
early_asked c p (Ping word) early = tt
early_asked c p (Owner grain) early = tt
early_asked c p (Place grain policy) early = tt
early_asked c p Figures early = tt
early_asked c p Show early = tt
early_asked c p Dump early = tt

early_asks : (c : Cluster) (p : Process) (read : Result (Option Asked) ℕ) → IfAsks read (MayAskEarly c.changes p) → IfAsks read (MayAsk c p)
early_asks c p (Ok (Some asked)) early = early_asked c p asked early
early_asks c p (Ok None) early = tt
early_asks c p (Err fault) early = tt

-- what the first changes make, they make whatever follows
more_view : (changes more : List Change) (s : SiloValue) (version : ℕ) (m : Membership)
    → (version ≤ length changes) × (told_view s.node.settings s.membership s.node.host.silo version
    (listing_of (decided_by s.node.settings (take version changes)) version) ≡ Ok m)
    → (version ≤ length (changes ++ more))
    × (told_view s.node.settings s.membership s.node.host.silo version
    (listing_of (decided_by s.node.settings (take version (changes ++ more))) version) ≡ Ok m)
more_view changes more s version m early =
    let upto = early.0 in
    let longer = length-append changes more in (
      omega (upto, longer, arith),
      ap (λ cs. told_view s.node.settings s.membership s.node.host.silo version (listing_of (decided_by s.node.settings cs) version))
          (take-append-le version changes more upto)
          ∙ early.1,
    )

more_asked : (changes more : List Change) (p : Process) (asked : Asked) → MayAskEarly changes p asked
    → MayAskEarly (changes ++ more) p asked
more_asked changes more p (Joined version silo token places) early = λ takes makes. more_changes changes more _ _ (early takes makes)
more_asked changes more p (Leaving version silo) early = λ makes. more_changes changes more _ _ (early makes)
more_asked changes more p (Dead version silo) early = λ makes. more_changes changes more _ _ (early makes)
more_asked changes more p (Begin version rows) early = λ m takes. more_view changes more p.silo version m (early m takes)
more_asked changes more p (See version) early = tt
more_asked changes more p (Do step) early = tt
more_asked changes more p (Receive letter) early = early
more_asked changes more p (Ping word) early = tt
more_asked changes more p (Owner grain) early = tt
more_asked changes more p (Place grain policy) early = tt
more_asked changes more p Figures early = tt
more_asked changes more p Show early = tt
more_asked changes more p Dump early = tt

more_asks : (changes more : List Change) (p : Process) (read : Result (Option Asked) ℕ) → IfAsks read (MayAskEarly changes p)
    → IfAsks read (MayAskEarly (changes ++ more) p)
more_asks changes more p (Ok (Some asked)) early = more_asked changes more p asked early
more_asks changes more p (Ok None) early = tt
more_asks changes more p (Err fault) early = tt

-- ---- lines one after the other
abbrev MayRead : List Change → List (List ℕ) → Process → Type 0
MayRead changes [] p = ⊤
MayRead changes (line ∷ lines) p = IsLine line × IfAsks (said line p.silo) (MayAskEarly changes p) × MayRead changes lines (reads line p)

one_more : (lines : List (List ℕ)) (line : List ℕ) (p : Process) → reads_all (lines ++ line ∷ []) p ≡ reads line (reads_all lines p)
one_more [] line p = refl
one_more (first ∷ lines) line p = one_more lines line (reads first p)

may_one_more : (changes : List Change) (lines : List (List ℕ)) (line : List ℕ) (p : Process) → MayRead changes lines p → IsLine line
    → IfAsks (said line (reads_all lines p).silo) (MayAskEarly changes (reads_all lines p))
    → MayRead changes (lines ++ line ∷ []) p
may_one_more changes [] line p may is asks = (is, asks, tt)
may_one_more changes (first ∷ lines) line p may is asks = (may.0, may.1, may_one_more changes lines line (reads first p) may.2 is asks)

may_later : (changes more : List Change) (lines : List (List ℕ)) (p : Process) → MayRead changes lines p → MayRead (changes ++ more) lines p
may_later changes more [] p may = tt
may_later changes more (line ∷ lines) p may =
    (may.0, more_asks changes more p (said line p.silo) may.1, may_later changes more lines (reads line p) may.2)

-- ---- steps one after the other
after_more : (c : Cluster) (xs ys : List Step) → after_all c (xs ++ ys) ≡ after_all (after_all c xs) ys
unfolding after_all
after_more c [] ys = refl
after_more c (step ∷ xs) ys = after_more (after c step) xs ys

may_more : (c : Cluster) (xs ys : List Step) → MayAll c xs → MayAll (after_all c xs) ys → MayAll c (xs ++ ys)
unfolding after_all MayAll
may_more c [] ys may more = more
may_more c (step ∷ xs) ys may more = (may.0, may_more (after c step) xs ys may.1 more)

-- a run goes on
goes_on : (settings : Settings) (tokens : JoinTokens) (c next : Cluster) (steps : List Step) → IsRunFrom settings tokens c → MayAll c steps
    → after_all c steps ≡ next → IsRunFrom settings tokens next
goes_on settings tokens c next steps run may is = record {
  steps = run.steps ++ steps;
  may = may_more (first_cluster settings tokens) run.steps steps run.may (subst (λ (d : Cluster). MayAll d steps) (sym run.same) may);
  same = after_more (first_cluster settings tokens) run.steps steps ∙ (ap (λ (d : Cluster). after_all d steps) run.same ∙ is);
}

-- ---- a process reads after its silo's join what it read before
module _ (c : Cluster) (silo : Silo) (is_silo : IsSilo silo) (base : List (Silo × Process)) (none : process_at silo c.dead ≡ None) where
  abbrev having : Process → Cluster
  having p = record c { processes = insert_entry silo_cmp base silo p }

  abbrev steps_of : List (List ℕ) → List Step
  steps_of lines = map (λ line. Read silo line) lines

  there : (p : Process) → process_at silo (insert_entry silo_cmp base silo p) ≡ Some p
  there p = found_put silo_cmp silo_cmp_total silo_cmp_exact silo p base

  reads_one : (p : Process) (line : List ℕ) → after (having p) (Read silo line) ≡ having (reads line p)
  unfolding after
  reads_one p line =
      let processes : reading silo line (insert_entry silo_cmp base silo p) ≡ insert_entry silo_cmp base silo (reads line p) =
      ap (λ o. read_by o silo line (insert_entry silo_cmp base silo p)) (there p) ∙ put_over silo p (reads line p) base in
      let dead : reading silo line c.dead ≡ c.dead = ap (λ o. read_by o silo line c.dead) none in
      λ i. record c { processes = processes i; dead = dead i }

  may_one : (p : Process) (line : List ℕ) → IsLine line → IfAsks (said line p.silo) (MayAskEarly c.changes p)
      → May (having p) (Read silo line)
  unfolding May
  may_one p line is asks = (
    is_silo,
    is,
    subst (λ o. IfSome o (λ q. IfAsks (said line q.silo) (MayAsk (having p) q))) (sym (there p))
        (early_asks (having p) p (said line p.silo) asks),
    subst (λ o. IfSome o (λ q. IfAsks (said line q.silo) (MayAskDead q.silo))) (sym none) tt,
  )

  may_all : (lines : List (List ℕ)) (p : Process) → MayRead c.changes lines p → MayAll (having p) (steps_of lines)
  unfolding MayAll
  may_all [] p may = tt
  may_all (line ∷ lines) p may = (
    may_one p line may.0 may.1,
    subst (λ (d : Cluster). MayAll d (steps_of lines)) (sym (reads_one p line))
        (may_all lines (reads line p) may.2),
  )

  reads_so : (lines : List (List ℕ)) (p : Process) → after_all (having p) (steps_of lines) ≡ having (reads_all lines p)
  unfolding after_all
  reads_so [] p = refl
  reads_so (line ∷ lines) p = ap (λ (d : Cluster). after_all d (steps_of lines)) (reads_one p line) ∙ reads_so lines (reads line p)

-- ---- what is known of a process that waits
record Waits (c : Cluster) (e : Silo × Process) : Type 0 where
  is_silo : IsSilo e.0
  living : process_at e.0 c.processes ≡ None
  dead : process_at e.0 c.dead ≡ None
  replays : reads_all e.1.read (started c.settings c.tokens e.0) ≡ e.1
  may : MayRead c.changes e.1.read (started c.settings c.tokens e.0)

record Runs (settings : Settings) (tokens : JoinTokens) (s : Starting) : Type 0 where
  run : IsRunFrom settings tokens s.cluster
  each : All (Waits s.cluster) s.waiting

-- it reads a line
reads_early : (c : Cluster) (silo : Silo) (line : List ℕ) (p : Process) → Waits c (silo, p) → IsLine line
    → IfAsks (said line p.silo) (MayAskEarly c.changes p) → Waits c (silo, reads line p)
reads_early c silo line p waits is asks = by p.ended refl
  where
    next : Process
    next = having_read line (answer_to line p) p

    by : (ended : Bool) → p.ended ≡ ended → Waits c (silo, cond ended p (having_read line (answer_to line p) p))
    by true end = waits
    by false end = record {
      is_silo = waits.is_silo;
      living = waits.living;
      dead = waits.dead;
      replays =
          one_more p.read line (started c.settings c.tokens silo)
          ∙ (ap (reads line) waits.replays ∙ ap (λ b. cond b p (having_read line (answer_to line p) p)) end);
      may =
          may_one_more c.changes p.read line (started c.settings c.tokens silo) waits.may is
          (subst (λ (q : Process). IfAsks (said line q.silo) (MayAskEarly c.changes q)) (sym waits.replays) asks);
    }

-- ---- the steps
all_others : (Q P : Silo × Process → Type 0) (silo : Silo) (es : List (Silo × Process)) → ((e : Silo × Process) → e.0 ≢ silo → Q e → P e)
    → All Q es → All P (filter (λ e. not (silo_eq e.0 silo)) es)
all_others Q P silo [] so all = All-nil P
all_others Q P silo (e ∷ es) so all = by (silo_eq e.0 silo) refl (all_others Q P silo es so (All-tail Q e es all))
  where
    by : (same : Bool) → silo_eq e.0 silo ≡ same → All P (filter (λ e. not (silo_eq e.0 silo)) es)
        → All P (cond (not same) (e ∷ filter (λ e. not (silo_eq e.0 silo)) es) (filter (λ e. not (silo_eq e.0 silo)) es))
    by true is rest = rest
    by false is rest =
        All-cons P e (filter (λ e. not (silo_eq e.0 silo)) es)
        (so e (λ same. let so = (Decides-silo e.0 silo).1 same in absurd (cc (is, so))) (All-head Q e es all)) rest

module _ (settings : Settings) (tokens : JoinTokens) (s : Starting) (runs : Runs settings tokens s) where
  abbrev c : Cluster
  c = s.cluster

  starts : (silo : Silo) → MayStart s (Start silo) → Runs settings tokens (after_starting s (Start silo))
  unfolding MayStart after_starting
  starts silo may = record {
    run = runs.run;
    each =
        put_keeps (Waits c) silo (started c.settings c.tokens silo) s.waiting runs.each
        (record { is_silo = may.0; living = may.2; dead = may.3; replays = refl; may = tt });
  }

  reads_early_so : (silo : Silo) (line : List ℕ) → MayStart s (ReadEarly silo line)
      → Runs settings tokens (after_starting s (ReadEarly silo line))
  unfolding MayStart after_starting
  reads_early_so silo line may = record { run = runs.run; each = by (process_at silo s.waiting) refl may.2 }
    where
      by : (o : Option Process) → process_at silo s.waiting ≡ o → IfSome o (λ p. IfAsks (said line p.silo) (MayAskEarly c.changes p))
          → All (Waits c) (read_by o silo line s.waiting)
      by None there asks = runs.each
      by (Some p) there asks =
          put_keeps (Waits c) silo (reads line p) s.waiting runs.each
          (reads_early c silo line p (its_own (Waits c) silo p s.waiting runs.each there) may.1 asks)

  one_step : (step : Step) → May c step → MayAll c (step ∷ [])
  unfolding MayAll
  one_step step may = (may, tt)

  reads_on : (silo : Silo) (line : List ℕ) → MayStart s (Go (Read silo line))
      → Runs settings tokens (after_starting s (Go (Read silo line)))
  unfolding MayStart after_starting after_all after
  reads_on silo line may = record {
    run = goes_on settings tokens c (after c (Read silo line)) (Read silo line ∷ []) runs.run (one_step (Read silo line) may) refl;
    each = All-weaker (Waits c) (Waits (after c (Read silo line))) (λ e waits. record {
      is_silo = waits.is_silo;
      living = none_read e.0 silo line c.processes waits.living;
      dead = none_read e.0 silo line c.dead waits.dead;
      replays = waits.replays;
      may = waits.may;
    }) s.waiting runs.each;
  }

  -- ---- a change
  module _ (change : Change) (may : May c (Decide change)) (m : Membership) (is : changed c.settings c.membership change ≡ Ok m) where
    abbrev next : Cluster
    next = decided (Ok m) c change

    run_next : IsRunFrom settings tokens next
    unfolding after_all after
    run_next = goes_on settings tokens c next (Decide change ∷ []) runs.run (one_step (Decide change) may) (ap (λ r. decided r c change) is)

    -- one that waits, waits on
    waits_on : (e : Silo × Process) (processes : List (Silo × Process)) → process_at e.0 processes ≡ None → Waits c e
        → Waits (record next { processes = processes }) e
    waits_on e processes none waits = record {
      is_silo = waits.is_silo;
      living = none;
      dead = none_dying e.0 (dying c.membership change) c.processes c.dead waits.living waits.dead;
      replays = waits.replays;
      may = may_later c.changes (change ∷ []) e.1.read (started c.settings c.tokens e.0) waits.may;
    }

    none_living : (e : Silo × Process) → Waits c e → process_at e.0 (without (dying c.membership change) c.processes) ≡ None
    none_living e waits = none_without e.0 (dying c.membership change) c.processes waits.living

  decides : (change : Change) → May c (Decide change) → (r : Result Membership ℕ) → changed c.settings c.membership change ≡ r
      → Runs settings tokens (joining r s change)
  decides change may (Err number) is = runs
  decides (Leave silo) may (Ok m) is = record {
    run = run_next (Leave silo) may m is;
    each =
        All-weaker (Waits c) (Waits (next (Leave silo) may m is))
        (λ e waits. waits_on (Leave silo) may m is e c.processes waits.living waits) s.waiting runs.each;
  }
  decides (Die silo) may (Ok m) is = record {
    run = run_next (Die silo) may m is;
    each =
        All-weaker (Waits c) (Waits (next (Die silo) may m is))
        (λ e waits. waits_on (Die silo) may m is e (without (Some silo) c.processes) (none_living (Die silo) may m is e waits) waits)
        s.waiting runs.each;
  }
  decides (Join silo stated) may (Ok m) is = by (process_at silo s.waiting) refl
    where
      change : Change
      change = Join silo stated

      by : (o : Option Process) → process_at silo s.waiting ≡ o
          → Runs settings tokens (record {
            cluster = its_process o silo (next (Join silo stated) may m is);
            waiting = still_waiting
                (Join silo stated) s.waiting;
          })
      by None there = record {
        run = run_next (Join silo stated) may m is;
        each = all_others (Waits c) (Waits (next (Join silo stated) may m is)) silo s.waiting (λ e apart waits.
            let old = dying c.membership (Join silo stated) in
            waits_on (Join silo stated) may m is e (insert_entry silo_cmp (without old c.processes) silo (started c.settings c.tokens silo))
            (none_put e.0 silo (started c.settings c.tokens silo) (without old c.processes) apart
            (none_living (Join silo stated) may m is e waits)) waits) runs.each;
      }
      by (Some p) there =
          let old = dying c.membership (Join silo stated) in
          let base = without old c.processes in
          let first = started c.settings c.tokens silo in
          let after_it = next (Join silo stated) may m is in
          let its = its_own (Waits c) silo p s.waiting runs.each there in
          let none = none_dying silo old c.processes c.dead its.living its.dead in
          let later = may_later c.changes (Join silo stated ∷ []) p.read first its.may in
          let same : after_all after_it (steps_of after_it silo its.is_silo base none p.read) ≡ its_process (Some p) silo after_it =
          reads_so after_it silo its.is_silo base none p.read first
          ∙ (ap (λ (q : Process). record after_it { processes = insert_entry silo_cmp base silo q }) its.replays
          ∙ ap (λ (l : List (Silo × Process)). record after_it { processes = l }) (sym (put_over silo first p base))) in
          record {
            run =
                goes_on settings tokens after_it (its_process (Some p) silo after_it) (steps_of after_it silo its.is_silo base none p.read)
                (run_next (Join silo stated) may m is)
                (may_all after_it silo its.is_silo base none p.read first later) same;
            each = all_others (Waits c) (Waits (its_process (Some p) silo after_it)) silo s.waiting (λ e apart waits.
                waits_on (Join silo stated) may m is e (insert_entry silo_cmp (insert_entry silo_cmp base silo first) silo p)
                (none_put e.0 silo p (insert_entry silo_cmp base silo first) apart
                (none_put e.0 silo first base apart (none_living (Join silo stated) may m is e waits))) waits) runs.each;
          }

  decides_on : (change : Change) → MayStart s (Go (Decide change)) → Runs settings tokens (after_starting s (Go (Decide change)))
  unfolding MayStart after_starting
  decides_on change may = decides change may (changed c.settings c.membership change) refl

  runs_on : (step : StartingStep) → MayStart s step → Runs settings tokens (after_starting s step)
  runs_on (Start silo) may = starts silo may
  runs_on (ReadEarly silo line) may = reads_early_so silo line may
  runs_on (Go (Read silo line)) may = reads_on silo line may
  runs_on (Go (Decide change)) may = decides_on change may

runs_all : (settings : Settings) (tokens : JoinTokens) (s : Starting) (steps : List StartingStep) → Runs settings tokens s
    → MayAllStart s steps → Runs settings tokens (after_all_starting s steps)
unfolding MayAllStart after_all_starting
runs_all settings tokens s [] runs may = runs
runs_all settings tokens s (step ∷ steps) runs may =
    runs_all settings tokens (after_starting s step) steps (runs_on settings tokens s runs step may.0) may.1

first_runs : (settings : Settings) (tokens : JoinTokens) → Runs settings tokens (first_starting settings tokens)
unfolding after_all MayAll
first_runs settings tokens =
    record { run = record { steps = []; may = tt; same = refl }; each = All-nil (Waits (first_cluster settings tokens)) }

pub starts_are_runs : StartsAreRuns
starts_are_runs settings tokens steps may =
    (runs_all settings tokens (first_starting settings tokens) steps (first_runs settings tokens) may).run

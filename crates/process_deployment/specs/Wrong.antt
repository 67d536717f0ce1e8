-- Clusters in which a line comes that may not come, a dead silo's process goes on, or a process begins anew as the same silo or with
-- other settings, and two processes have the grain firm; and what a token is for.
use Rattle.std.specs.Prelude.{◌≡◌, ℕ, List, [], ◌∷◌, ◌++◌, map, filter, codes, Option, Some, None}
use Rattle.std.specs.BTreeMap.{insert_entry}
use Rattle.silo_address.specs.Silo.{Silo, silo_cmp}
use Rattle.silo_address.specs.Grain.{Grain}
use Rattle.hash_ring.specs.declared.Hashing.TheVariants.{Sha256}
use Rattle.directory_rules.specs.Settings.{Settings, directory_settings}
use Rattle.directory_rules.specs.Worked.{silo_a, silo_b, grain_a}
use Rattle.directory_rules.specs.Membership.{Join, Die}
use Rattle.deployment_headline.specs.Worked.{worked_settings}
use Rattle.deployment_headline.specs.Wrong.{has_firm}
use Rattle.process_deployment.specs.Allowed.{MayAll}
use Rattle.process_deployment.specs.Cluster.{started, Cluster, first_cluster}
use Rattle.process_deployment.specs.Steps.{Step, Decide, Read, after, after_all, clustered}
use Rattle.process_deployment.specs.Worked.{worked_join_tokens, opening, joining, asking}

-- the silos, not Dead by the changes decided, at whose processes it is firm
abbrev pub firm_at : Grain → Cluster → List Silo
firm_at grain c = map (λ e. e.0) (filter (λ e. has_firm grain e.1.silo) c.processes)

-- the first silo has the grain firm
abbrev pub waking : List Step
waking =
    Read silo_a (codes "wake user/a#7")
    ∷ Read silo_a (codes "letter 10.0.0.1:1000@1 10.0.0.1:1000@1 1 register 1 user/a#7 10.0.0.1:1000@1!1")
    ∷ Read silo_a (codes "letter 10.0.0.1:1000@1 10.0.0.1:1000@1 1 registered 1 user/a#7 10.0.0.1:1000@1!1")
    ∷ []

-- the second one is woken for it too, and a line that nobody wrote says that it is entered
abbrev pub AForgedLineConfirms : Type 0
AForgedLineConfirms =
    firm_at grain_a
    (clustered worked_settings worked_join_tokens
    (opening ++ waking ++ joining
    ++ Read silo_b (codes "wake user/a#7")
    ∷ Read silo_b (codes "letter 10.0.0.1:1000@1 10.0.0.2:1000@1 2 registered 1 user/a#7 10.0.0.2:1000@1!1")
    ∷ []))
    ≡ silo_a ∷ silo_b ∷ []

-- the first silo's death is decided, but its process goes on
abbrev pub dies_in_vain : Cluster → Cluster
dies_in_vain c = record (after c (Decide (Die silo_a))) { processes = c.processes }

-- the second silo, which is told so, recovers the grain's range and is woken for the grain
abbrev pub ADeadProcessGoesOn : Type 0
ADeadProcessGoesOn =
    firm_at grain_a
    (after_all (dies_in_vain (clustered worked_settings worked_join_tokens (opening ++ waking ++ joining)))
    (Read silo_b (codes "dead 3 10.0.0.1:1000@1")
    ∷ Read silo_b (codes "see 3")
    ∷ Read silo_b (codes "letter 10.0.0.2:1000@1 10.0.0.2:1000@1 3 query 0+1000")
    ∷ Read silo_b (codes "letter 10.0.0.2:1000@1 10.0.0.2:1000@1 3 report 0+1000 last")
    ∷ Read silo_b (codes "wake user/a#7")
    ∷ Read silo_b (codes "letter 10.0.0.2:1000@1 10.0.0.2:1000@1 3 register 1 user/a#7 10.0.0.2:1000@1!1")
    ∷ Read silo_b (codes "letter 10.0.0.2:1000@1 10.0.0.2:1000@1 3 registered 1 user/a#7 10.0.0.2:1000@1!1")
    ∷ []))
    ≡ silo_a ∷ silo_b ∷ []

-- the second silo's process reads that the first change was its own join: it finds itself alone
abbrev pub AnotherChangeIsTold : Type 0
AnotherChangeIsTold =
    firm_at grain_a
    (clustered worked_settings worked_join_tokens
    (opening ++ waking
    ++ Decide (Join silo_b (5 ∷ []))
    ∷ Read silo_b (codes "joined 1 10.0.0.2:1000@1 token=b1 5")
    ∷ Read silo_b (codes "see 1")
    ∷ Read silo_b (codes "letter 10.0.0.2:1000@1 10.0.0.2:1000@1 1 query 0+4294967296")
    ∷ Read silo_b (codes "letter 10.0.0.2:1000@1 10.0.0.2:1000@1 1 report 0+4294967296 last")
    ∷ Read silo_b (codes "wake user/a#7")
    ∷ Read silo_b (codes "letter 10.0.0.2:1000@1 10.0.0.2:1000@1 1 register 1 user/a#7 10.0.0.2:1000@1!1")
    ∷ Read silo_b (codes "letter 10.0.0.2:1000@1 10.0.0.2:1000@1 1 registered 1 user/a#7 10.0.0.2:1000@1!1")
    ∷ []))
    ≡ silo_a ∷ silo_b ∷ []

-- or it begins with a view in which nobody is: it finds itself alone again
abbrev pub AnotherViewIsTold : Type 0
AnotherViewIsTold =
    firm_at grain_a
    (clustered worked_settings worked_join_tokens
    (opening ++ waking
    ++ Decide (Join silo_b (5 ∷ []))
    ∷ Read silo_b (codes "view 1")
    ∷ Read silo_b (codes "joined 2 10.0.0.2:1000@1 token=b1 5")
    ∷ Read silo_b (codes "see 2")
    ∷ Read silo_b (codes "letter 10.0.0.2:1000@1 10.0.0.2:1000@1 2 query 0+4294967296")
    ∷ Read silo_b (codes "letter 10.0.0.2:1000@1 10.0.0.2:1000@1 2 report 0+4294967296 last")
    ∷ Read silo_b (codes "wake user/a#7")
    ∷ Read silo_b (codes "letter 10.0.0.2:1000@1 10.0.0.2:1000@1 2 register 1 user/a#7 10.0.0.2:1000@1!1")
    ∷ Read silo_b (codes "letter 10.0.0.2:1000@1 10.0.0.2:1000@1 2 registered 1 user/a#7 10.0.0.2:1000@1!1")
    ∷ []))
    ≡ silo_a ∷ silo_b ∷ []

-- the first silo's process is started again, as the same silo, with that token or with none
abbrev pub begins_anew : (token : Option (List ℕ)) → Cluster → Cluster
begins_anew token c = record c { processes = insert_entry silo_cmp c.processes silo_a (record (started c.settings c.tokens silo_a) { token = token }) }

-- the second silo has the grain firm, and the first one, which owns the grain's hash, has forgotten that; it's told all changes again,
-- recovers the circle from itself alone, and is woken for the grain
abbrev pub told_again : List Step
told_again =
    Read silo_a (codes "joined 1 10.0.0.1:1000@1 0")
    ∷ Read silo_a (codes "see 1")
    ∷ Read silo_a (codes "letter 10.0.0.1:1000@1 10.0.0.1:1000@1 1 query 0+4294967296")
    ∷ Read silo_a (codes "letter 10.0.0.1:1000@1 10.0.0.1:1000@1 1 report 0+4294967296 last")
    ∷ waking

abbrev pub ARestartForgets : Type 0
ARestartForgets = firm_at grain_a (after_all (begins_anew None (clustered worked_settings worked_join_tokens (opening ++ joining ++ asking))) told_again) ≡ silo_a ∷ silo_b ∷ []

-- with a token of its own it refuses the join of the process before it, and so all else
abbrev pub ARestartIsRefused : Type 0
ARestartIsRefused =
    firm_at grain_a (after_all (begins_anew (Some (codes "a2")) (clustered worked_settings worked_join_tokens (opening ++ joining ++ asking))) told_again) ≡ silo_b ∷ []

-- hashes are of texts, and each silo has two points on the ring
abbrev pub hashed_settings : Settings
hashed_settings = directory_settings Sha256 2 0

-- the first silo is alone, and has the range of the grain's hash settled; then the second one joins
abbrev pub hashed : List Step
hashed =
    Decide (Join silo_a [])
    ∷ Read silo_a (codes "joined 1 10.0.0.1:1000@1")
    ∷ Read silo_a (codes "see 1")
    ∷ Read silo_a (codes "letter 10.0.0.1:1000@1 10.0.0.1:1000@1 1 query 1434877701+1302175457")
    ∷ Read silo_a (codes "letter 10.0.0.1:1000@1 10.0.0.1:1000@1 1 report 1434877701+1302175457 last")
    ∷ Decide (Join silo_b [])
    ∷ []

-- its process is set up with one point a silo
abbrev pub set_up_otherwise : Cluster → Cluster
set_up_otherwise c = record c { processes = insert_entry silo_cmp c.processes silo_b (started (directory_settings Sha256 1 0) c.tokens silo_b) }

abbrev pub set_apart : Cluster
set_apart = set_up_otherwise (clustered hashed_settings worked_join_tokens hashed)

-- by its ring the grain's hash is its own, and by that of the first one it isn't: it asks for a snapshot, which the first one doesn't
-- have, and recovers the range, in which nothing is firm. Then each is woken for the grain, and enters that itself
abbrev pub owned_twice : List Step
owned_twice =
    Read silo_a (codes "joined 2 10.0.0.2:1000@1")
    ∷ Read silo_a (codes "see 2")
    ∷ Read silo_b (codes "joined 1 10.0.0.1:1000@1")
    ∷ Read silo_b (codes "joined 2 10.0.0.2:1000@1 token=b1")
    ∷ Read silo_b (codes "see 2")
    ∷ Read silo_a (codes "letter 10.0.0.2:1000@1 10.0.0.1:1000@1 2 ask 40231030+2696822128 0")
    ∷ Read silo_b (codes "letter 10.0.0.1:1000@1 10.0.0.2:1000@1 2 missing 40231030+2696822128")
    ∷ Read silo_a (codes "letter 10.0.0.2:1000@1 10.0.0.1:1000@1 2 query 40231030+2696822128")
    ∷ Read silo_b (codes "letter 10.0.0.2:1000@1 10.0.0.2:1000@1 2 query 40231030+2696822128")
    ∷ Read silo_b (codes "letter 10.0.0.1:1000@1 10.0.0.2:1000@1 2 report 40231030+2696822128 last")
    ∷ Read silo_b (codes "letter 10.0.0.2:1000@1 10.0.0.2:1000@1 2 report 40231030+2696822128 last")
    ∷ Read silo_a (codes "wake user/a#7")
    ∷ Read silo_a (codes "letter 10.0.0.1:1000@1 10.0.0.1:1000@1 2 register 1 user/a#7 10.0.0.1:1000@1!1")
    ∷ Read silo_a (codes "letter 10.0.0.1:1000@1 10.0.0.1:1000@1 2 registered 1 user/a#7 10.0.0.1:1000@1!1")
    ∷ Read silo_b (codes "wake user/a#7")
    ∷ Read silo_b (codes "letter 10.0.0.2:1000@1 10.0.0.2:1000@1 2 register 1 user/a#7 10.0.0.2:1000@1!1")
    ∷ Read silo_b (codes "letter 10.0.0.2:1000@1 10.0.0.2:1000@1 2 registered 1 user/a#7 10.0.0.2:1000@1!1")
    ∷ []

-- though each of these steps may come
pub record OtherSettingsSplit : Type 0 where
  pub may_before : MayAll (first_cluster hashed_settings worked_join_tokens) hashed
  pub may_after : MayAll set_apart owned_twice
  pub splits : firm_at grain_a (after_all set_apart owned_twice) ≡ silo_a ∷ silo_b ∷ []

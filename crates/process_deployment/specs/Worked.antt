-- A worked cluster of two processes. The first one takes the circle; the second one joins, is woken for a grain that the first one
-- keeps, and dies. Not all that they write comes to anybody.
use Rattle.std.specs.Prelude.{◌≡◌, ℕ, if◌then◌else◌, List, [], ◌∷◌, ◌++◌, map, codes, Some, None}
use Rattle.silo_address.specs.Silo.{silo_eq}
use Rattle.directory_rules.specs.Worked.{silo_a, silo_b}
use Rattle.directory_rules.specs.Membership.{Join, Die}
use Rattle.deployment_headline.specs.Worked.{worked_settings}
use Rattle.process_deployment.specs.Allowed.{MayAll}
use Rattle.process_deployment.specs.Cluster.{JoinTokens, Cluster, first_cluster, everyone}
use Rattle.process_deployment.specs.Steps.{Step, Decide, Read, clustered}

-- the second silo's process is started with a token
abbrev pub worked_join_tokens : JoinTokens
worked_join_tokens silo = if silo_eq silo silo_b then Some (codes "b1") else None

-- the first silo is alone, and asks itself for what it holds
abbrev pub opening : List Step
opening =
    Decide (Join silo_a (0 ∷ []))
    ∷ Read silo_a (codes "joined 1 10.0.0.1:1000@1 0")
    ∷ Read silo_a (codes "see 1")
    ∷ Read silo_a (codes "letter 10.0.0.1:1000@1 10.0.0.1:1000@1 1 query 0+4294967296")
    ∷ Read silo_a (codes "letter 10.0.0.1:1000@1 10.0.0.1:1000@1 1 report 0+4294967296 last")
    ∷ []

-- the second silo has its point at 1000; its process refuses a join that another one of its address would take
abbrev pub joining : List Step
joining =
    Decide (Join silo_b (1000 ∷ []))
    ∷ Read silo_a (codes "joined 2 10.0.0.2:1000@1 1000")
    ∷ Read silo_a (codes "see 2")
    ∷ Read silo_b (codes "joined 1 10.0.0.1:1000@1 0")
    ∷ Read silo_b (codes "joined 2 10.0.0.2:1000@1 token=b2 5")
    ∷ Read silo_b (codes "joined 2 10.0.0.2:1000@1 token=b1 1000")
    ∷ Read silo_b (codes "see 2")
    ∷ []

-- it is woken for the grain with the hash 7
abbrev pub asking : List Step
asking =
    Read silo_b (codes "wake user/a#7")
    ∷ Read silo_a (codes "letter 10.0.0.2:1000@1 10.0.0.1:1000@1 2 register 1 user/a#7 10.0.0.2:1000@1!1")
    ∷ Read silo_b (codes "letter 10.0.0.1:1000@1 10.0.0.2:1000@1 2 registered 1 user/a#7 10.0.0.2:1000@1!1")
    ∷ []

-- it is declared dead, and told so
abbrev pub dying : List Step
dying = Decide (Die silo_b) ∷ Read silo_b (codes "dead 3 10.0.0.2:1000@1") ∷ []

-- what each of them wrote
abbrev pub all_wrote : Cluster → List (List (List ℕ))
all_wrote c = map (λ e. e.1.wrote) (everyone c)

pub record WorkedCluster : Type 0 where
  -- each of these steps may come
  pub may : MayAll (first_cluster worked_settings worked_join_tokens) (opening ++ joining ++ asking ++ dying)
  pub wrote : all_wrote (clustered worked_settings worked_join_tokens (opening ++ joining ++ asking ++ dying)) ≡
      (codes "view 1 joined 10.0.0.1:1000@1"
      ∷ codes "10.0.0.1:1000@1 sees 1 next"
      ∷ codes "letter 10.0.0.1:1000@1 10.0.0.1:1000@1 1 query 0+4294967296"
      ∷ codes "delivered query report"
      ∷ codes "letter 10.0.0.1:1000@1 10.0.0.1:1000@1 1 report 0+4294967296 last"
      ∷ codes "delivered report complete"
      ∷ codes "view 2 joined 10.0.0.2:1000@1"
      ∷ codes "10.0.0.1:1000@1 sees 2 next"
      ∷ codes "delivered register registered"
      ∷ codes "letter 10.0.0.1:1000@1 10.0.0.2:1000@1 2 registered 1 user/a#7 10.0.0.2:1000@1!1"
      ∷ [])
      ∷ (codes "view 1 joined 10.0.0.1:1000@1"
      ∷ codes "refused 208"
      ∷ codes "view 2 joined 10.0.0.2:1000@1"
      ∷ codes "10.0.0.2:1000@1 sees 2 next"
      ∷ codes "letter 10.0.0.2:1000@1 10.0.0.1:1000@1 2 ask 1000+4294966296 0"
      ∷ codes "started 10.0.0.2:1000@1!1 user/a#7"
      ∷ codes "letter 10.0.0.2:1000@1 10.0.0.1:1000@1 2 register 1 user/a#7 10.0.0.2:1000@1!1"
      ∷ codes "firm 10.0.0.2:1000@1!1 user/a#7 at 2"
      ∷ codes "view 3 dead 10.0.0.2:1000@1"
      ∷ codes "dead"
      ∷ [])
      ∷ []

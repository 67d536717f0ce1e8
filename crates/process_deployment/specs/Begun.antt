-- A worked cluster whose second and third process begin with a view, each with that before its silo's join. It is told nothing of the changes
-- before that.
use Rattle.std.specs.Prelude.{◌≡◌, List, [], ◌∷◌, ◌++◌, codes}
use Rattle.directory_rules.specs.Worked.{silo_b, silo_c}
use Rattle.directory_rules.specs.Membership.{Join}
use Rattle.deployment_headline.specs.Worked.{worked_settings}
use Rattle.process_deployment.specs.Allowed.{MayAll}
use Rattle.process_deployment.specs.Cluster.{first_cluster}
use Rattle.process_deployment.specs.Steps.{Step, Decide, Read, clustered}
use Rattle.process_deployment.specs.Worked.{worked_join_tokens, opening, all_wrote}

-- the second silo has its point at 1000; its process can't begin twice, and doesn't know what made the version with which it begins
abbrev pub beginning : List Step
beginning =
    Decide (Join silo_b (1000 ∷ []))
    ∷ Read silo_b (codes "view 1 10.0.0.1:1000@1:active:0")
    ∷ Read silo_b (codes "view 1 10.0.0.1:1000@1:active:0")
    ∷ Read silo_b (codes "joined 1 10.0.0.1:1000@1 0")
    ∷ Read silo_b (codes "joined 2 10.0.0.2:1000@1 token=b1 1000")
    ∷ Read silo_b (codes "see 2")
    ∷ []

-- the third one has its own at 2000; a view that it refuses may be any, and that of the version names its silos in any order
abbrev pub beginning_later : List Step
beginning_later =
    Decide (Join silo_c (2000 ∷ []))
    ∷ Read silo_c (codes "view 3 10.0.0.3:1000@1:active:2000")
    ∷ Read silo_c (codes "view 2 10.0.0.2:1000@1:active:1000 10.0.0.1:1000@1:active:0")
    ∷ Read silo_c (codes "joined 3 10.0.0.3:1000@1 2000")
    ∷ Read silo_c (codes "see 3")
    ∷ []

pub record BegunCluster : Type 0 where
  -- each of these steps may come
  pub may : MayAll (first_cluster worked_settings worked_join_tokens) (opening ++ beginning ++ beginning_later)
  -- and what each process wrote
  pub wrote : all_wrote (clustered worked_settings worked_join_tokens (opening ++ beginning ++ beginning_later)) ≡
      (codes "view 1 joined 10.0.0.1:1000@1"
      ∷ codes "10.0.0.1:1000@1 sees 1 next"
      ∷ codes "letter 10.0.0.1:1000@1 10.0.0.1:1000@1 1 query 0+4294967296"
      ∷ codes "delivered query report"
      ∷ codes "letter 10.0.0.1:1000@1 10.0.0.1:1000@1 1 report 0+4294967296 last"
      ∷ codes "delivered report complete"
      ∷ [])
      ∷ (codes "view 1 begins"
      ∷ codes "refused 211"
      ∷ codes "refused 212"
      ∷ codes "view 2 joined 10.0.0.2:1000@1"
      ∷ codes "10.0.0.2:1000@1 sees 2 next"
      ∷ codes "letter 10.0.0.2:1000@1 10.0.0.1:1000@1 2 ask 1000+4294966296 0"
      ∷ [])
      ∷ (codes "refused 201"
      ∷ codes "view 2 begins"
      ∷ codes "view 3 joined 10.0.0.3:1000@1"
      ∷ codes "10.0.0.3:1000@1 sees 3 next"
      ∷ codes "letter 10.0.0.3:1000@1 10.0.0.2:1000@1 3 ask 2000+4294965296 0"
      ∷ [])
      ∷ []

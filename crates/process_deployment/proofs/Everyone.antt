-- What each process keeps, whatever happens to the cluster.
use Rattle.std.proofs.Common.{◌≡◌, ℕ, List, Option, Some, None, refl, sym, subst}
use Rattle.std.specs.Prelude.{All}
use Rattle.std.specs.BTreeMap.{is_at}
use Rattle.silo_address.specs.Silo.{Silo, silo_cmp}
use Rattle.silo_address.proofs.Order.{silo_cmp_exact}
use Rattle.directory_rules.specs.Settings.{Settings}
use Rattle.directory_facts.proofs.Entries.{all_put, all_removed, found_so, same_key}
use Rattle.directory_rules.specs.Membership.{Change, Join, Leave, Die}
use Rattle.process_deployment.specs.Cluster.{JoinTokens, Process, started, reads, process_at}
use Rattle.process_deployment.specs.Steps.{without, with_process, with_dying, with_started, read_by, reading}

module _ (Q : Silo × Process → Type 0) where
  pub its_own : (silo : Silo) (p : Process) (processes : List (Silo × Process)) → All Q processes → process_at silo processes ≡ Some p
      → Q (silo, p)
  its_own silo p processes all there =
      let found = found_so Q (is_at (silo_cmp silo)) p processes all there in
      subst (λ key. Q (key, p)) (sym (same_key silo_cmp silo_cmp_exact silo found.0 found.1)) found.2

  pub put_keeps : (silo : Silo) (p : Process) (processes : List (Silo × Process)) → All Q processes → Q (silo, p)
      → All Q (with_process (Some p) silo processes)
  put_keeps silo p processes all new = all_put silo_cmp silo_cmp_exact Q silo p processes all new

  pub reading_keeps : (silo : Silo) (line : List ℕ) (processes : List (Silo × Process))
      → ((p : Process) → Q (silo, p) → Q (silo, reads line p)) → All Q processes → All Q (reading silo line processes)
  reading_keeps silo line processes keeps all = by (process_at silo processes) refl
    where
      by : (o : Option Process) → process_at silo processes ≡ o → All Q (read_by o silo line processes)
      by None there = all
      by (Some p) there = put_keeps silo (reads line p) processes all (keeps p (its_own silo p processes all there))

  pub without_keeps : (old : Option Silo) (processes : List (Silo × Process)) → All Q processes → All Q (without old processes)
  without_keeps None processes all = all
  without_keeps (Some silo) processes all = all_removed Q (is_at (silo_cmp silo)) processes all

  pub dying_keeps : (old : Option Silo) (processes dead : List (Silo × Process)) → All Q processes → All Q dead
      → All Q (with_dying old processes dead)
  dying_keeps None processes dead all its = its
  dying_keeps (Some silo) processes dead all its = by (process_at silo processes) refl
    where
      by : (o : Option Process) → process_at silo processes ≡ o → All Q (with_process o silo dead)
      by None there = its
      by (Some p) there = put_keeps silo p dead its (its_own silo p processes all there)

  pub started_keeps : (settings : Settings) (tokens : JoinTokens) (change : Change) (processes : List (Silo × Process))
      → ((silo : Silo) → Q (silo, started settings tokens silo)) → All Q processes → All Q (with_started settings tokens change processes)
  started_keeps settings tokens (Join silo stated) processes new all =
      put_keeps silo (started settings tokens silo) processes all (new silo)
  started_keeps settings tokens (Leave silo) processes new all = all
  started_keeps settings tokens (Die silo) processes new all = all

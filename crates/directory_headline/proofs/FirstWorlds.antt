-- Before the first event the two first worlds show one another.
use Rattle.std.proofs.Common.{ℕ, refl}
use Rattle.std.proofs.lemmas.List.Elements.{All-nil}
use Rattle.directory_protocol.specs.Setting.{Setting}
use Rattle.directory_protocol.specs.World.{start}
use Rattle.directory_protocol.proofs.Runs.{reached_start}
use Rattle.directory_rules.specs.Settings.{Settings}
use Rattle.directory_rules.specs.State.{Posted}
use Rattle.directory_rules.specs.World.{first_world}
use Rattle.directory_headline.specs.Shown.{Shown, IsShownLetter}
use Rattle.directory_headline.proofs.Viewed.{Carried}

pub shown_start : (m : Setting) (settings : Settings) → Shown m (first_world settings) start
shown_start m settings = record {
  now = refl;
  live = λ silo node there. absurd (cc (there));
  absent = λ silo none. refl;
  letters = All-nil (λ (e : ℕ × Posted). IsShownLetter m.hash start e.1.letter);
}

pub carried_start : (m : Setting) (settings : Settings) → Carried m (first_world settings)
carried_start m settings = record { world = start; reached = reached_start m; shown = shown_start m settings }

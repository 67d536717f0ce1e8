-- Where nothing is written and nothing is told.
use Rattle.std.proofs.Common.{ℕ, true, List, [], Option, None, Some, refl}
use Rattle.std.specs.Io.KnownBytes.{Keeps}
use Rattle.std.proofs.KnownBytes.{Appends-nil}
use Rattle.line_loop.specs.Calls.{wrote_all}
use Rattle.threaded_play.specs.Endings.{TellsCauses}
use Rattle.threaded_play.specs.declared.ended.ThreadsEnded.{ThreadsEnded}
use Rattle.threaded_play.specs.declared.ended.ThreadsEnded.TheVariants.{Played, ReceiptDiffers, Lacking}

-- known bytes are kept
pub kept : (known : Option (List ℕ)) → Keeps known known
kept None = tt
kept (Some bytes) = refl

-- workers tell nothing
pub nothing_told : {E : Type 0} (writes : E → List ℕ → Option ℕ → E → Type 0) (contents : E → Option (List ℕ)) (result : ThreadsEnded)
    (same : E) → TellsCauses writes contents result same same
nothing_told writes contents (Played end) same = refl
nothing_told writes contents ReceiptDiffers same = refl
nothing_told writes contents Lacking same = ([], (true, Appends-nil (contents same), wrote_all))

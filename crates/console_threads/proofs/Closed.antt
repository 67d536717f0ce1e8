-- What is told of workers, by how the cluster is closed.
use Rattle.std.proofs.Common.{◌≡◌, ℕ, List, Option, Result, Ok, Err, refl, subst, sym}
use Rattle.std.specs.Prelude.{MatchResult}
use Rattle.threaded_play.specs.Endings.{TellsCauses}
use Rattle.threaded_play.specs.declared.ended.ThreadsEnded.{ThreadsEnded}
use Rattle.threaded_play.specs.declared.ended.ThreadsEnded.TheVariants.{Played, ReceiptDiffers, Lacking}
use Rattle.threaded_play.proofs.Nothing.{nothing_told}

module _ {E : Type 0} (writes : E → List ℕ → Option ℕ → E → Type 0) (contents : E → Option (List ℕ)) where
  -- a cluster is closed without a word
  pub closed_silently : {B : Type 0} (result : Result B ThreadsEnded) (same : E)
      → MatchResult result (λ _. same ≡ same) (λ ended. TellsCauses writes contents ended same same)
  closed_silently (Ok board) same = refl
  closed_silently (Err ended) same = nothing_told writes contents ended same

  -- where errors are as they were, nothing was told
  pub told_nothing : (result : ThreadsEnded) (old new : E) → new ≡ old → TellsCauses writes contents result old new
  told_nothing result old new is =
      subst (λ (e : E). TellsCauses writes contents result old e) (sym is) (nothing_told writes contents result old)

  -- what was told when it was closed, or wasn't, may be told where something lacks
  pub told_lacking : {B : Type 0} (closed : Result B ThreadsEnded) (old new : E)
      → MatchResult closed (λ _. new ≡ old) (λ ended. TellsCauses writes contents ended old new)
      → TellsCauses writes contents Lacking old new
  told_lacking (Ok board) old new is = told_nothing Lacking old new is
  told_lacking (Err (Played end)) old new is = told_nothing Lacking old new is
  told_lacking (Err ReceiptDiffers) old new is = told_nothing Lacking old new is
  told_lacking (Err Lacking) old new told = told

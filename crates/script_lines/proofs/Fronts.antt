-- What stands in a buffer stays at its front.
use Rattle.std.proofs.Common.{◌≡◌, ℕ, List, [], ◌++◌, length, take, sym, ◌∙◌, ap, append_assoc, append-nil}
use Rattle.std.proofs.Math.Seq.{take-append_seam}
use Rattle.script_lines.specs.Spaced.{BeginsWith}

pub begins_with_itself : (text : List ℕ) → BeginsWith text text
begins_with_itself text = record { more = []; joined = sym (append-nil text) }

pub begins_with_the_first : (first text whole : List ℕ) → BeginsWith first text → BeginsWith text whole → BeginsWith first whole
begins_with_the_first first text whole one other = record {
  more = one.more ++ other.more;
  joined = other.joined ∙ (ap (λ t. t ++ other.more) one.joined ∙ append_assoc first one.more other.more);
}

-- what is cut off at its front's length is the front
pub front_taken : (front text : List ℕ) → BeginsWith front text → take (length front) text ≡ front
front_taken front text begins = ap (λ t. take (length front) t) begins.joined ∙ take-append_seam front begins.more

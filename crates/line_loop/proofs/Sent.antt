-- The writes of a text, one after the other.
use Rattle.std.proofs.Common.{◌≡◌, ◌∙◌, ℕ, ◌<◌, ◌≤◌, Bool, true, false, List, [], ◌++◌, length, take, drop, Option, Some, None, ap, append_assoc, refl, subst, sym, take-append-drop}
use Rattle.std.specs.Io.KnownBytes.{Appends}
use Rattle.std.proofs.KnownBytes.{Appends-kept, Appends-nil, Appends-trans}
use Rattle.line_loop.specs.Calls.{WritesKnown, WritesText, wrote_all, wrote_some, wrote_nothing, write_failed}
use Rattle.line_loop.specs.Sent.{Sends, WritesFront}

-- the writes so far: those of the rest stand in turn with them
abbrev pub WrittenSoFar : {W : Type 0} → (writes : W → List ℕ → Option ℕ → W → Type 0) → (text rest : List ℕ) → (first now : W) → Type 0
WrittenSoFar {W} writes text rest first now =
    (new : W) (well : Bool) → WritesText writes rest now new well → WritesText writes text first new well

module _ {W : Type 0} (writes : W → List ℕ → Option ℕ → W → Type 0) (text : List ℕ) (first now new : W) where
  -- one more
  pub written_more : (rest later : List ℕ) (count : ℕ) → 0 < count → count ≤ length rest → drop count rest ≡ later
      → writes now rest (Some count) new
      → WrittenSoFar writes text rest first now → WrittenSoFar writes text later first new
  written_more rest later count some within is once before = λ last well after.
      before last well (wrote_some rest count some within once
      (subst (λ (left : List ℕ). WritesText writes left new last well) (sym is) after))

  -- all
  pub written_whole : (rest : List ℕ) → rest ≡ [] → WrittenSoFar writes text rest first now → WritesText writes text first now true
  written_whole rest none before = before now true (subst (λ (left : List ℕ). WritesText writes left now now true) (sym none) wrote_all)

  -- the last failed
  pub written_broken : (rest : List ℕ) → 0 < length rest → writes now rest None new → WrittenSoFar writes text rest first now
      → WritesText writes text first new false
  written_broken rest some once before = before new false (write_failed some once)

  -- the last took nothing
  pub written_nothing : (rest : List ℕ) (count : ℕ) → 0 < length rest → count ≡ 0 → writes now rest (Some count) new
      → WrittenSoFar writes text rest first now
      → WritesText writes text first new false
  written_nothing rest count some none once before =
      before new false (wrote_nothing some (subst (λ (n : ℕ). writes now rest (Some n) new) none once))

-- ---- What they write, where that is known.

module _ {W : Type 0} (writes : W → List ℕ → Option ℕ → W → Type 0) (contents : W → Option (List ℕ))
    (known : (old : W) (bytes : List ℕ) (took : Option ℕ) (new : W) → writes old bytes took new
    → WritesKnown (contents old) bytes took (contents new)) where
  whole_sent : (text rest : List ℕ) (begun between written : Option (List ℕ)) (count : ℕ) → rest ≡ drop count text
      → Appends begun between (take count text) → Appends between written rest → Appends begun written text
  whole_sent text rest begun between written count is front back =
      subst (Appends begun written) (take-append-drop count text)
      (Appends-trans begun between written _ _ front (subst (Appends between written) is back))

  front_sent : (text : List ℕ) (begun between written : Option (List ℕ)) (count : ℕ) → Appends begun between (take count text)
      → WritesFront (drop count text) between written → WritesFront text begun written
  front_sent text begun between written count front back = record {
    front = take count text ++ back.front;
    begins = record {
      more = back.begins.more;
      joined =
          sym (take-append-drop count text) ∙ (ap (λ (bs : List ℕ). take count text ++ bs) back.begins.joined
          ∙ sym (append_assoc (take count text) back.front back.begins.more));
    };
    appends = Appends-trans begun between written _ _ front back.appends;
  }

  none_sent : (text : List ℕ) (begun written : Option (List ℕ)) → Appends begun written [] → WritesFront text begun written
  none_sent text begun written nothing = record { front = []; begins = record { more = text; joined = refl }; appends = nothing }

  -- the text, or a beginning of it
  pub sends : (text : List ℕ) (old new : W) (well : Bool) → WritesText writes text old new well
      → Sends text (contents old) (contents new) well
  sends text old new well (wrote_all {sink = same}) = Appends-nil (contents same)
  sends text old new well (wrote_some {old = before} {between = between} {new = last} {well = whole} same count some within once after) = by
      whole (sends (drop count text) between last whole after)
    where
      by : (whole : Bool) → Sends (drop count text) (contents between) (contents last) whole
          → Sends text (contents before) (contents last) whole
      by true later = whole_sent text (drop count text) _ _ _ count refl (known before text (Some count) between once) later
      by false later = front_sent text _ _ _ count (known before text (Some count) between once) later
  sends text old new well (wrote_nothing {old = before} {new = last} some once) = none_sent text _ _ (known before text (Some 0) last once)
  sends text old new well (write_failed {old = before} {new = last} some once) = none_sent text _ _
      (Appends-kept _ _ _ [] (Appends-nil (contents before)) (known before text None last once))

-- What is held: bytes between two positions.
use Rattle.std.proofs.Common.{◌≡◌, ◌∙◌, ℕ, suc, ◌+◌, ◌-◌, ◌<◌, ◌≤◌, List, ◌++◌, length, take, drop, Option, None, Some, ap, arith, subst, sym}
use Rattle.std.proofs.lemmas.List.{drop-append-le, drop-drop, drop-take, length-drop, length-take, length-take-le, take-append-le, take-take}
use Rattle.std.proofs.Math.Seq.{drop-append_seam}
use Rattle.line_loop.specs.declared.ended.Ended.{Ended}
use Rattle.line_loop.specs.declared.ended.Ended.TheVariants as ended
use Rattle.line_loop.specs.Progress.{Progress}
use Rattle.line_loop.specs.Transfers.{Fills, HasTakenIn, TakesIn}

-- behind some of it
pub held_behind : (bytes : List ℕ) (start end count : ℕ) → count < length (take (end - start) (drop start bytes))
    → take (end - (start + (count + 1))) (drop (start + (count + 1)) bytes) ≡ drop (suc count) (take (end - start) (drop start bytes))
held_behind bytes start end count within =
    let fits : suc count ≤ end - start = omega (arith, length-take (end - start) (drop start bytes)) in
    let place : start + (count + 1) ≡ start + suc count = omega arith in
    let parts : suc count + (end - (start + suc count)) ≡ end - start = omega arith in
    ap (λ (n : ℕ). take (end - n) (drop n bytes)) place
    ∙ (ap (take (end - (start + suc count))) (sym (drop-drop (suc count) start bytes))
    ∙ (sym (drop-take (suc count) (end - (start + suc count)) (drop start bytes))
    ∙ ap (λ (n : ℕ). drop (suc count) (take n (drop start bytes))) parts))

-- it stays, whatever stands behind it
pub held_still : (bytes rest : List ℕ) (start searched end : ℕ) → start ≤ searched → searched ≤ end → end ≤ length bytes
    → take (searched - start) (drop start (take end bytes ++ rest)) ≡ take (searched - start) (drop start bytes)
held_still bytes rest start searched end begun within fits =
    let size : length (take end bytes) ≡ end = length-take-le end bytes fits in
    let parts : start + (end - start) ≡ end = omega arith in
    let front : drop start (take end bytes) ≡ take (end - start) (drop start bytes) = ap (λ (n : ℕ). drop start (take n bytes)) (sym parts) ∙ drop-take start (end - start) bytes in
    ap (take (searched - start)) (drop-append-le start (take end bytes) rest (omega arith))
    ∙ (take-append-le (searched - start) (drop start (take end bytes)) rest (omega (arith, length-drop start (take end bytes)))
    ∙ (ap (take (searched - start)) front ∙ take-take (searched - start) (end - start) (drop start bytes) (omega arith)))

-- what was read stands behind it
pub read_there : (bytes chunk rest : List ℕ) (end count : ℕ) → end ≤ length bytes → count ≤ length chunk
    → take count (drop end (take end bytes ++ (chunk ++ rest))) ≡ take count chunk
read_there bytes chunk rest end count fits within =
    ap (λ (n : ℕ). take count (drop n (take end bytes ++ (chunk ++ rest)))) (sym (length-take-le end bytes fits))
    ∙ (ap (take count) (drop-append_seam (take end bytes) (chunk ++ rest)) ∙ take-append-le count chunk rest within)

-- one read was made
pub filled : {R S : Type 0} (reads : R → Option (List ℕ) → R → Type 0) (before after : R) (old late new : Progress) (got held : List ℕ)
    (result : Option (Ended S)) → TakesIn late held new result → late ≡ old → held ≡ got
    → reads before (Some got) after → length got ≤ 65536 → Fills reads before old after new result
filled reads before after old late new got held None taken same is once fits =
    (got, once, fits, subst (λ (p : Progress). HasTakenIn p got new) same (subst (λ (h : List ℕ). HasTakenIn late h new) is taken))
filled reads before after old late new got held (Some ended.TooLong) taken same is once fits =
    (got, once, fits, subst (λ (p : Progress). p.left < length got) same (subst (λ (h : List ℕ). late.left < length h) is taken))
filled reads before after old late new got held (Some (ended.Stopped stop)) taken same is once fits = absurd taken
filled reads before after old late new got held (Some ended.AtEnd) taken same is once fits = absurd taken
filled reads before after old late new got held (Some ended.OutOfMemory) taken same is once fits = absurd taken
filled reads before after old late new got held (Some ended.Broken) taken same is once fits = absurd taken

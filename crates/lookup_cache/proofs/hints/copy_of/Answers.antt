use Rattle.std.proofs.Common.{◌≡◌, ◌∙◌, ◌++◌, ◌∷◌, [], ◌≤◌, List, length, ap, sym, subst, arith}
use Rattle.std.specs.List.{IsDistinct}
use Rattle.std.specs.Map.{keys_of}
use Rattle.std.proofs.lemmas.List.{append_assoc}
use Rattle.silo_address.specs.Grain.{grain_eq}
use Rattle.silo_address.specs.contracts.grain.GrainIdEq.TheImpl.Laws.{laws-law}
use Rattle.lookup_cache.proofs.Rounds.{Hint}
use Rattle.lookup_cache.proofs.LastPair.{put_before}
use Rattle.lookup_cache.proofs.hints.copy_of.Goals as goal

pub loop-grain-preserved : goal.loop-grain-preserved
loop-grain-preserved c =
    let hints = c.args.hints.now.entries in
    let copied = c.loop-grain.copy.entries in
    let most = c.loop-grain.copy.cap in
    let hint : Hint = (c.in-Some.grain.now, c.in-Some.activation.now) in
    let front : List Hint = c.next.new.self.iter in
    let step : c.loop-grain.grain-iterator.iter ≡ front ++ hint ∷ [] = c.in-Some.ensures.steps in
    let whole : hints ≡ front ++ hint ∷ copied = sym c.loop-grain.invariant.entries ∙ ap (λ l. l ++ copied) step ∙ append_assoc front (hint ∷ []) copied in
    let valid = c.len-len.ensures.valid in
    let distinct : IsDistinct grain_eq (keys_of (front ++ hint ∷ copied)) = subst (λ (l : List Hint). IsDistinct grain_eq (keys_of l)) whole valid.0 in
    let short : length hints ≤ c.args.hints.now.cap = valid.1 in
    let long : length hints ≡ length (front ++ hint ∷ copied) = ap (λ (l : List Hint). length l) whole in
    let same : most ≡ c.args.hints.now.cap = c.loop-grain.invariant.capacity in
    let put = put_before grain_eq laws-law front hint copied most distinct (omega arith) in
    record {
      entries = ap (λ l. front ++ l) (ap (λ h. h.entries) c.in_ok-put.ensures.entries ∙ put) ∙ sym whole;
      capacity = ap (λ h. h.cap) c.in_ok-put.ensures.entries ∙ same;
    }

-- The worked clusters, computed.
use Rattle.std.proofs.Common.{◌≡◌, ℕ, ◌<◌, Bool, true, List, [], ◌∷◌, Some, Ok, refl}
use Rattle.std.specs.Prelude.{◌==◌, not, nat_lt, All, slice_get, take, codes}
use Rattle.std.specs.Fmt.{digits}
use Rattle.std.specs.List.{list_all}
use Rattle.std.proofs.lemmas.Bool.{ltb-true}
use Rattle.std.proofs.lemmas.List.Elements.{All-nil, All-cons}
use Rattle.std.proofs.lemmas.Option.{slice_get_within, get_or_from_slice_get}
use Rattle.sha2.specs.Sha256.{sha256, hash_after, compress, rounds, schedule, first_words, digest_bytes}
use Rattle.hex.specs.Hex.{encode_with, decode_pairs}
use Rattle.texts.specs.Words.{line_feed}
use Rattle.texts.proofs.Decided.{both}
use Rattle.silo_address.specs.Silo.{IsSilo}
use Rattle.silo_address.specs.ReadSilo.{silo_words, read_silo}
use Rattle.silo_address.specs.ReadGrain.{read_grain}
use Rattle.silo_address.specs.ActivationText.{read_activation}
use Rattle.silo_address.specs.StatedHash.{stated_hash}
use Rattle.silo_address.proofs.SiloLaws.{Decides-is_silo}
use Rattle.ring_range.specs.Range.{circle}
use Rattle.ring_range.specs.Text.{read_range}
use Rattle.ring_range.specs.Meet.{meet_of}
use Rattle.ring_range.specs.Cut.{cut_parts}
use Rattle.directory_rules.specs.State.{Letter}
use Rattle.directory_rules.specs.Worked.{silo_a, silo_b, grain_a}
use Rattle.process_rules.specs.LetterText.{letter_line}
use Rattle.process_rules.specs.ReadLetter.{read_letter}
use Rattle.process_rules.specs.ReadLine.{Receive, read_silo_line}
use Rattle.process_rules.specs.Answer.{answered, answered_as}
use Rattle.process_deployment.specs.Allowed.{IsWritten, IsLine, May, MayAll}
use Rattle.process_deployment.specs.Cluster.{Cluster, first_cluster, all_lines}
use Rattle.process_deployment.specs.Steps.{after, after_all}
use Rattle.process_deployment.specs.Worked.{worked_join_tokens, WorkedCluster}
use Rattle.process_deployment.specs.Wrong.{AForgedLineConfirms, ADeadProcessGoesOn, AnotherChangeIsTold, AnotherViewIsTold, ARestartForgets, ARestartIsRefused, firm_at, hashed_settings, hashed, set_apart, owned_twice, OtherSettingsSplit}

unfoldable pub all_opened : Type 0
unfolding digits sha256 hash_after compress rounds schedule first_words digest_bytes encode_with decode_pairs silo_words read_silo
    read_grain read_activation stated_hash read_range meet_of cut_parts letter_line read_letter read_silo_line answered answered_as after
    after_all May MayAll
all_opened = Unit {0}

pub a : IsSilo silo_a
a = (Decides-is_silo silo_a).0 refl

pub b : IsSilo silo_b
b = (Decides-is_silo silo_b).0 refl

abbrev is_inner : ℕ → Bool
is_inner byte = not (byte == line_feed)

no_end : (byte : ℕ) → is_inner byte ≡ true → byte ≡ line_feed → ⊥
no_end byte inner same = absurd (cc (inner, same))

abbrev IsNoEnd : ℕ → Type 0
IsNoEnd byte = byte ≡ line_feed → ⊥

pub line : (bytes : List ℕ) → list_all is_inner bytes ≡ true → IsLine bytes
line [] inner = All-nil IsNoEnd
line (byte ∷ bytes) inner =
    let parts = both (is_inner byte) (list_all is_inner bytes) inner in
    All-cons IsNoEnd byte bytes (no_end byte parts.0) (line bytes parts.1)

-- a place that is a hash
pub place : (place : ℕ) → nat_lt place circle ≡ true → All (λ place. place < circle) (place ∷ [])
place at below = All-cons (λ place. place < circle) at [] (ltb-true at circle below) (All-nil (λ place. place < circle))

-- a line that stands behind so many others says the letter
pub said_so : (c : Cluster) (letter : Letter) (k : ℕ) (line : List ℕ) → slice_get (all_lines c) k ≡ Some line
    → read_silo_line c.settings.hashing line ≡ Ok (Some (Receive letter)) → IsWritten c letter
said_so c letter k line is says =
    record {
      line = line;
      wrote = (k, slice_get_within (all_lines c) k line is, get_or_from_slice_get (all_lines c) k line line is);
      says = says;
    }

pub worked_cluster : WorkedCluster
unfolding all_opened
worked_cluster = record {
  may = (
    (a, place 0 refl),
    (
      (a, line (codes "joined 1 10.0.0.1:1000@1 0") refl, λ takes makes. refl, tt),
      (
        (a, line (codes "see 1") refl, tt, tt),
        (
          (
            a,
            line (codes "letter 10.0.0.1:1000@1 10.0.0.1:1000@1 1 query 0+4294967296") refl,
            λ own joined. said_so _ _ 2
                (codes "letter 10.0.0.1:1000@1 10.0.0.1:1000@1 1 query 0+4294967296") refl refl,
            tt,
          ),
          (
            (
              a,
              line (codes "letter 10.0.0.1:1000@1 10.0.0.1:1000@1 1 report 0+4294967296 last") refl,
              λ own joined. said_so _ _ 4
                  (codes "letter 10.0.0.1:1000@1 10.0.0.1:1000@1 1 report 0+4294967296 last") refl refl,
              tt,
            ),
            (
              (b, place 1000 refl),
              (
                (a, line (codes "joined 2 10.0.0.2:1000@1 1000") refl, λ takes makes. refl, tt),
                (
                  (a, line (codes "see 2") refl, tt, tt),
                  (
                    (b, line (codes "joined 1 10.0.0.1:1000@1 0") refl, λ takes makes. refl, tt),
                    (
                      (b, line (codes "joined 2 10.0.0.2:1000@1 token=b2 5") refl, λ takes makes. absurd (cc takes), tt),
                      (
                        (b, line (codes "joined 2 10.0.0.2:1000@1 token=b1 1000") refl, λ takes makes. refl, tt),
                        (
                          (b, line (codes "see 2") refl, tt, tt),
                          (
                            (b, line (codes "wake user/a#7") refl, tt, tt),
                            (
                              (
                                a,
                                line (codes "letter 10.0.0.2:1000@1 10.0.0.1:1000@1 2 register 1 user/a#7 10.0.0.2:1000@1!1") refl,
                                λ own
                                    joined. said_so _ _ 14 (codes
                                    "letter 10.0.0.2:1000@1 10.0.0.1:1000@1 2 register 1 user/a#7 10.0.0.2:1000@1!1") refl refl,
                                tt,
                              ),
                              (
                                (
                                  b,
                                  line (codes "letter 10.0.0.1:1000@1 10.0.0.2:1000@1 2 registered 1 user/a#7 10.0.0.2:1000@1!1") refl,
                                  λ own joined. said_so _ _ 9 (codes
                                      "letter 10.0.0.1:1000@1 10.0.0.2:1000@1 2 registered 1 user/a#7 10.0.0.2:1000@1!1") refl refl,
                                  tt,
                                ),
                                (
                                  b,
                                  (
                                    (b, line (codes "dead 3 10.0.0.2:1000@1") refl, tt, tt),
                                    tt,
                                  ),
                                ),
                              ),
                            ),
                          ),
                        ),
                      ),
                    ),
                  ),
                ),
              ),
            ),
          ),
        ),
      ),
    ),
  );
  wrote = refl;
}

pub a_forged_line_confirms : AForgedLineConfirms
unfolding all_opened
a_forged_line_confirms = refl

pub a_dead_process_goes_on : ADeadProcessGoesOn
unfolding all_opened
a_dead_process_goes_on = refl

pub another_change_is_told : AnotherChangeIsTold
unfolding all_opened
another_change_is_told = refl

pub another_view_is_told : AnotherViewIsTold
unfolding all_opened
another_view_is_told = refl

pub a_restart_forgets : ARestartForgets
unfolding all_opened
a_restart_forgets = refl

pub a_restart_is_refused : ARestartIsRefused
unfolding all_opened
a_restart_is_refused = refl

-- the clusters after so many of the steps
abbrev hashed_by : ℕ → Cluster
hashed_by k = after_all (first_cluster hashed_settings worked_join_tokens) (take k hashed)

abbrev apart_by : ℕ → Cluster
apart_by k = after_all set_apart (take k owned_twice)

may_before : MayAll (first_cluster hashed_settings worked_join_tokens) hashed
unfolding all_opened
may_before = (
  (a, All-nil (λ place. place < circle)),
  (
    (a, line (codes "joined 1 10.0.0.1:1000@1") refl, λ takes makes. refl, tt),
    (
      (a, line (codes "see 1") refl, tt, tt),
      (
        let said = codes "letter 10.0.0.1:1000@1 10.0.0.1:1000@1 1 query 1434877701+1302175457" in
            (a, line said refl, λ own joined. said_so (hashed_by 3) _ 2 said refl refl, tt),
        (
          let said = codes "letter 10.0.0.1:1000@1 10.0.0.1:1000@1 1 report 1434877701+1302175457 last" in
              (a, line said refl, λ own joined. said_so (hashed_by 4) _ 5 said refl refl, tt),
          (
            (b, All-nil (λ place. place < circle)),
            tt,
          ),
        ),
      ),
    ),
  ),
)

may_after : MayAll set_apart owned_twice
unfolding all_opened
may_after = (
  (a, line (codes "joined 2 10.0.0.2:1000@1") refl, λ takes makes. refl, tt),
  (
    (a, line (codes "see 2") refl, tt, tt),
    (
      (b, line (codes "joined 1 10.0.0.1:1000@1") refl, λ takes makes. refl, tt),
      (
        (b, line (codes "joined 2 10.0.0.2:1000@1 token=b1") refl, λ takes makes. refl, tt),
        (
          (b, line (codes "see 2") refl, tt, tt),
          (
            let said = codes "letter 10.0.0.2:1000@1 10.0.0.1:1000@1 2 ask 40231030+2696822128 0" in
                (a, line said refl, λ own joined. said_so (apart_by 5) _ 14 said refl refl, tt),
            (
              let said = codes "letter 10.0.0.1:1000@1 10.0.0.2:1000@1 2 missing 40231030+2696822128" in
                  (b, line said refl, λ own joined. said_so (apart_by 6) _ 12 said refl refl, tt),
              (
                let said = codes "letter 10.0.0.2:1000@1 10.0.0.1:1000@1 2 query 40231030+2696822128" in
                    (a, line said refl, λ own joined. said_so (apart_by 7) _ 18 said refl refl, tt),
                (
                  let said = codes "letter 10.0.0.2:1000@1 10.0.0.2:1000@1 2 query 40231030+2696822128" in
                      (b, line said refl, λ own joined. said_so (apart_by 8) _ 21 said refl refl, tt),
                  (
                    let said = codes "letter 10.0.0.1:1000@1 10.0.0.2:1000@1 2 report 40231030+2696822128 last" in
                        (b, line said refl, λ own joined. said_so (apart_by 9) _ 14 said refl refl, tt),
                    (
                      let said = codes "letter 10.0.0.2:1000@1 10.0.0.2:1000@1 2 report 40231030+2696822128 last" in
                          (b, line said refl, λ own joined. said_so (apart_by 10) _ 23 said refl refl, tt),
                      (
                        (a, line (codes "wake user/a#7") refl, tt, tt),
                        (
                          let said = codes "letter 10.0.0.1:1000@1 10.0.0.1:1000@1 2 register 1 user/a#7 10.0.0.1:1000@1!1" in
                              (a, line said refl, λ own joined. said_so (apart_by 12) _ 16 said refl refl, tt),
                          (
                            let said = codes "letter 10.0.0.1:1000@1 10.0.0.1:1000@1 2 registered 1 user/a#7 10.0.0.1:1000@1!1" in
                                (a, line said refl, λ own joined. said_so (apart_by 13) _ 18 said refl refl, tt),
                            (
                              (b, line (codes "wake user/a#7") refl, tt, tt),
                              (
                                let said = codes "letter 10.0.0.2:1000@1 10.0.0.2:1000@1 2 register 1 user/a#7 10.0.0.2:1000@1!1" in
                                    (b, line said refl, λ own joined. said_so (apart_by 15) _ 32 said refl refl, tt),
                                (
                                  let said = codes "letter 10.0.0.2:1000@1 10.0.0.2:1000@1 2 registered 1 user/a#7 10.0.0.2:1000@1!1" in
                                      (b, line said refl, λ own joined. said_so (apart_by 16) _ 34 said refl refl, tt),
                                  tt,
                                ),
                              ),
                            ),
                          ),
                        ),
                      ),
                    ),
                  ),
                ),
              ),
            ),
          ),
        ),
      ),
    ),
  ),
)

splits : firm_at grain_a (after_all set_apart owned_twice) ≡ silo_a ∷ silo_b ∷ []
unfolding all_opened
splits = refl

pub other_settings_split : OtherSettingsSplit
other_settings_split = record { may_before = may_before; may_after = may_after; splits = splits }

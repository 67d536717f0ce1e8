-- A process whose silo is Dead by the changes decided writes no letter: neither a step nor a letter comes to it.
use Rattle.std.proofs.Common.{◌≡◌, ℕ, Bool, true, false, List, [], ◌∷◌, Option, Some, None, Result, Ok, Err, refl}
use Rattle.std.specs.Fmt.{decimal}
use Rattle.std.specs.Prelude.{cond, codes}
use Rattle.std.proofs.lemmas.List.Elements.{All-nil}
use Rattle.texts.specs.Words.{sentence}
use Rattle.silo_address.specs.Silo.{silo_eq}
use Rattle.silo_address.proofs.Same.{Decides-silo}
use Rattle.hash_ring.specs.declared.hashing.Hashing.{Hashing}
use Rattle.directory_rules.specs.State.{Letter}
use Rattle.directory_rules.specs.Membership.{Change, Join, Leave, Die, Listed, Membership}
use Rattle.silo_rules.specs.SiloValue.{SiloValue, own_status}
use Rattle.silo_rules.specs.Steps.{receives}
use Rattle.silo_rules.specs.Told.{Heard, told}
use Rattle.silo_rules.specs.Begun.{told_view}
use Rattle.script_rules.specs.Lines.{refusal_line}
use Rattle.process_rules.specs.ReadLine.{Asked, Joined, Leaving, Dead, Begin, See, Do, Receive, Ping, Owner, Place, Figures, Show, Dump}
use Rattle.process_rules.specs.Happened.{news_words, received_words}
use Rattle.process_rules.specs.Answer.{printing, heard, told_so, begun, begun_so, stepped, received_so, is_anothers_join, answered, answered_as}
use Rattle.process_rules.specs.Show.{dump_line, figures_line, grain_owner_line, grain_place_line}
use Rattle.process_rules.specs.Output.{answered_to, fault_line}
use Rattle.process_deployment.specs.Allowed.{MayAskDead, IfAsks}
use Rattle.process_deployment.proofs.Answers.{AreSilent, silent_alone, begun_silent, news_silent, told_silent, refusal_silent, fault_silent, pong_silent, owner_silent, place_silent, figures_silent, show_silent, dump_silent}
use Rattle.process_deployment.proofs.Silent.{IsSilent}

module _ (hashing : Hashing) where
  dead_told : (version : ℕ) (change : Change) (s : SiloValue) → AreSilent hashing (told_so version change s).lines
  dead_told version change s = by (told s.node.settings s.membership version change)
    where
      by : (o : Result Heard ℕ) → AreSilent hashing (heard o version change s).lines
      by (Err number) = silent_alone hashing (refusal_line number) (refusal_silent hashing number)
      by (Ok its) =
          let next = record s { membership = its.membership } in
          told_silent hashing (own_status next) (sentence (news_words version change its.news)) next
          (news_silent hashing version change its.news)

  dead_begun : (version : ℕ) (rows : List Listed) (s : SiloValue) → AreSilent hashing (begun_so version rows s).lines
  dead_begun version rows s = by (told_view s.node.settings s.membership s.node.host.silo version rows)
    where
      by : (o : Result Membership ℕ) → AreSilent hashing (begun o version s).lines
      by (Err number) = silent_alone hashing (refusal_line number) (refusal_silent hashing number)
      by (Ok m) = silent_alone hashing (sentence (codes "view" ∷ decimal version ∷ codes "begins" ∷ [])) (begun_silent hashing version)

  dead_received : (letter : Letter) (s : SiloValue) → (letter.to ≡ s.node.host.silo → ⊥) → AreSilent hashing (received_so letter s).lines
  dead_received letter s other = by (silo_eq letter.to s.node.host.silo) refl
    where
      by : (own : Bool) → silo_eq letter.to s.node.host.silo ≡ own
          → AreSilent hashing (cond own (stepped (received_words s.node.host s.node.view.version letter) (receives s letter) s)
          (printing [] s)).lines
      by false is = All-nil (IsSilent hashing)
      by true is = absurd (other ((Decides-silo letter.to s.node.host.silo).0 is))

  dead_answers : (asked : Asked) (s : SiloValue) → MayAskDead s asked → AreSilent hashing (answered asked s).lines
  unfolding answered
  dead_answers (Joined version who token places) s may = dead_told version (Join who places) s
  dead_answers (Leaving version who) s may = dead_told version (Leave who) s
  dead_answers (Dead version who) s may = dead_told version (Die who) s
  dead_answers (Begin version rows) s may = dead_begun version rows s
  dead_answers (See version) s may = absurd may
  dead_answers (Do step) s may = absurd may
  dead_answers (Receive letter) s may = dead_received letter s may
  dead_answers (Ping word) s may = silent_alone hashing (sentence (codes "pong" ∷ word ∷ [])) (pong_silent hashing word)
  dead_answers (Owner grain) s may = silent_alone hashing (grain_owner_line s grain) (owner_silent hashing s grain)
  dead_answers (Place grain policy) s may = silent_alone hashing (grain_place_line s grain policy) (place_silent hashing s grain policy)
  dead_answers Figures s may = silent_alone hashing (figures_line s) (figures_silent hashing s)
  dead_answers Show s may = show_silent hashing s
  dead_answers Dump s may = silent_alone hashing (dump_line s) (dump_silent hashing s)

  unless_anothers : (anothers : Bool) (asked : Asked) (s : SiloValue) → MayAskDead s asked
      → AreSilent hashing (cond anothers (printing (refusal_line 208 ∷ []) s) (answered asked s)).lines
  unless_anothers true asked s may = silent_alone hashing (refusal_line 208) (refusal_silent hashing 208)
  unless_anothers false asked s may = dead_answers asked s may

  pub dead_lines : (token : Option (List ℕ)) (read : Result (Option Asked) ℕ) (s : SiloValue) → IfAsks read (MayAskDead s)
      → AreSilent hashing (answered_to token read s).lines
  unfolding answered_as
  dead_lines token (Ok None) s may = All-nil (IsSilent hashing)
  dead_lines token (Ok (Some asked)) s may = unless_anothers (is_anothers_join token asked s.node.host.silo) asked s may
  dead_lines token (Err fault) s may = silent_alone hashing (fault_line fault) (fault_silent hashing fault)

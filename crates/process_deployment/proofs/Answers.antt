-- No line that a process writes says a letter but those of the letters that it sends.
use Rattle.std.proofs.Common.{◌≡◌, ℕ, Bool, true, false, List, [], ◌∷◌, ◌++◌, Option, Some, None, Result, Ok, Err, refl, ap, ◌∙◌}
use Rattle.std.specs.Prelude.{cond, map, All, Contains, codes}
use Rattle.std.specs.Fmt.{decimal}
use Rattle.std.proofs.lemmas.List.Elements.{All-nil, All-cons, All-append, All-map, All-weaker}
use Rattle.std.proofs.lemmas.Option.{get_or_from_slice_get, slice_get-get_or}
use Rattle.texts.specs.Words.{sentence}
use Rattle.silo_address.specs.Silo.{Silo, IsSilo}
use Rattle.silo_address.specs.SiloText.{silo_text}
use Rattle.silo_address.specs.Grain.{Grain, grain_text}
use Rattle.silo_address.specs.ActivationText.{activation_text}
use Rattle.membership_view.specs.declared.status.Status.{Status}
use Rattle.membership_view.specs.declared.status.Status.TheVariants as status
use Rattle.ring_range.specs.Text.{range_text}
use Rattle.hash_ring.specs.declared.hashing.Hashing.{Hashing}
use Rattle.hash_ring.specs.Hash.{hash_grain}
use Rattle.hash_ring.specs.Owner.{owner_of}
use Rattle.directory_rules.specs.declared.effect.Effect.{Effect}
use Rattle.directory_rules.specs.declared.effect.Effect.TheVariants as effect
use Rattle.directory_rules.specs.declared.held.Held.{Held}
use Rattle.directory_rules.specs.declared.policy.Policy.{Policy}
use Rattle.directory_rules.specs.declared.reply.Reply.{Reply}
use Rattle.directory_rules.specs.declared.reply.Reply.TheVariants as reply
use Rattle.directory_rules.specs.declared.outcome.Happening.TheVariants.{Saw, Did}
use Rattle.directory_rules.specs.State.{Host, Letter, Body, Request_letter, Reply_letter, Ask_letter, Page_letter, Missing_letter, Done_letter, Query_letter, Report_letter, Survey_letter, Empty_letter, Behind_letter, Ahead_letter, Offer_letter, Piece}
use Rattle.directory_rules.specs.Placement.{silo_for}
use Rattle.silo_rules.specs.declared.news.News.{News}
use Rattle.silo_rules.specs.declared.news.News.TheVariants.{Known, Made, Replaced}
use Rattle.directory_rules.specs.Membership.{Change, Join, Leave, Die, Listed}
use Rattle.silo_rules.specs.SiloValue.{SiloValue, own_status}
use Rattle.silo_rules.specs.Figures.{figures}
use Rattle.script_rules.specs.Script.{grain_word, number_word, ◌>>=◌}
use Rattle.script_rules.specs.Lines.{happening_words, effect_words, refusal_line, replaced_words}
use Rattle.script_rules.specs.Show.{held_line, phase_word, seen_words, owner_words, place_words}
use Rattle.process_rules.specs.LetterText.{letter_line}
use Rattle.process_rules.specs.ReadLine.{Begin, Receive, Owner, Place, listed_in, own_policy_word, read_silo_line}
use Rattle.process_rules.specs.Happened.{made_words, news_words, counted_words, body_words, delivered_words, is_ignored, received_words}
use Rattle.process_rules.specs.Show.{own_word, state_words, piece_line, show_lines, dump_line, figures_words, figures_line, grain_owner_line, grain_place_line}
use Rattle.process_rules.specs.Answer.{printing, unless_dead}
use Rattle.process_rules.specs.Output.{fault_line}
use Rattle.process_deployment.proofs.Silent.{IsSilent, AreSilentWords, first_unknown, by_first, by_word, other_byte, silo_first}

-- a line says no letter but one of these
abbrev pub SaysOnly : Hashing → List Letter → List ℕ → Type 0
SaysOnly hashing letters line = (letter : Letter) → read_silo_line hashing line ≡ Ok (Some (Receive letter)) → Contains letters letter

-- the line of a letter is read as that letter, or not at all
abbrev pub ReadsAsItself : Hashing → Letter → Type 0
ReadsAsItself hashing letter = (other : Letter) → read_silo_line hashing (letter_line letter) ≡ Ok (Some (Receive other)) → letter ≡ other

abbrev pub AreSilent : Hashing → List (List ℕ) → Type 0
AreSilent hashing lines = All (IsSilent hashing) lines

pub silent_alone : (hashing : Hashing) (line : List ℕ) → IsSilent hashing line → AreSilent hashing (line ∷ [])
silent_alone hashing line silent = All-cons (IsSilent hashing) line [] silent (All-nil (IsSilent hashing))

pub silent_says : (hashing : Hashing) (letters : List Letter) (lines : List (List ℕ)) → AreSilent hashing lines
    → All (SaysOnly hashing letters) lines
silent_says hashing letters lines silent =
    All-weaker (IsSilent hashing) (SaysOnly hashing letters) (λ line is letter given. absurd (is letter given)) lines silent

-- the lines of letters
letters_say : (hashing : Hashing) (letters : List Letter) → All (ReadsAsItself hashing) letters
    → All (SaysOnly hashing letters) (map letter_line letters)
letters_say hashing letters reads =
    All-map (SaysOnly hashing letters) letter_line letters
    (λ k first below letter given. (
      k,
      below,
      get_or_from_slice_get letters k letter letter
          (slice_get-get_or letters k first below ∙ ap (λ l. Some l) (reads k first below letter given)),
    ))

pub step_says : (hashing : Hashing) (letters : List Letter) (line : List ℕ) → IsSilent hashing line → All (ReadsAsItself hashing) letters
    → All (SaysOnly hashing letters) (line ∷ map letter_line letters)
step_says hashing letters line silent reads =
    All-cons (SaysOnly hashing letters) line (map letter_line letters) (λ letter given. absurd (silent letter given))
    (letters_say hashing letters reads)

-- what stands behind the first word of `owner` and of `place`
abbrev pub owner_tail : SiloValue → Grain → List (List ℕ)
owner_tail s grain = grain_text grain ∷ owner_words (owner_of s.node.ring.points (hash_grain s.node.settings.hashing grain))

abbrev pub place_tail : SiloValue → Grain → Policy → List (List ℕ)
place_tail s grain policy =
    grain_text grain ∷ place_words (silo_for policy s.node.view s.node.host.silo (hash_grain s.node.settings.hashing grain) [])

module _ (hashing : Hashing) where
  -- ---- changes, and a view with which the silo begins: lines that begin as one that tells a view, which no letter answers
  view_given : (version : Result ℕ ℕ) (rows : Result (List Listed) ℕ) (letter : Letter)
      → (version >>= (λ version. rows >>= (λ rows. Ok (Begin version rows))) >>= (λ asked. Ok (Some asked))) ≡ Ok (Some (Receive letter))
      → ⊥
  view_given (Ok version) (Ok rows) letter is = cc is
  view_given (Ok version) (Err fault) letter is = cc is
  view_given (Err fault) rows letter is = cc is

  view_asked : (words : List (List ℕ)) → AreSilentWords hashing (codes "view" ∷ words)
  view_asked [] letter is = cc is
  view_asked (version ∷ words) letter is = view_given (number_word version) (listed_in words) letter is

  view_silent : (words : List (List ℕ)) → IsSilent hashing (sentence (codes "view" ∷ words))
  view_silent words = by_word hashing (codes "view") words refl refl view_asked

  pub begun_silent : (version : ℕ) → IsSilent hashing (sentence (codes "view" ∷ decimal version ∷ codes "begins" ∷ []))
  begun_silent version = view_silent (decimal version ∷ codes "begins" ∷ [])

  made_silent : (version : ℕ) (change : Change) (replaced : Option Silo) → IsSilent hashing (sentence (made_words version change replaced))
  made_silent version (Join silo places) replaced =
      view_silent (decimal version ∷ codes "joined" ∷ silo_text silo ∷ replaced_words replaced)
  made_silent version (Leave silo) replaced = view_silent (decimal version ∷ codes "leaving" ∷ silo_text silo ∷ [])
  made_silent version (Die silo) replaced = view_silent (decimal version ∷ codes "dead" ∷ silo_text silo ∷ [])

  pub news_silent : (version : ℕ) (change : Change) (news : News) → IsSilent hashing (sentence (news_words version change news))
  news_silent version change Known = by_first hashing (codes "known" ∷ decimal version ∷ []) refl
  news_silent version change Made = made_silent version change None
  news_silent version change (Replaced old) = made_silent version change (Some old)

  dead_silent : IsSilent hashing (codes "dead")
  unfolding read_silo_line
  dead_silent letter is = cc is

  pub told_silent : (own : Option Status) (line : List ℕ) (s : SiloValue) → IsSilent hashing line
      → AreSilent hashing (unless_dead own (printing (line ∷ []) s)).lines
  told_silent None line s silent = silent_alone hashing line silent
  told_silent (Some status.Active) line s silent = silent_alone hashing line silent
  told_silent (Some status.Leaving) line s silent = silent_alone hashing line silent
  told_silent (Some status.Dead) line s silent =
      All-cons (IsSilent hashing) line (codes "dead" ∷ []) silent (silent_alone hashing (codes "dead") dead_silent)

  -- ---- refusals and faults
  pub refusal_silent : (number : ℕ) → IsSilent hashing (refusal_line number)
  refusal_silent number = by_first hashing (codes "refused" ∷ decimal number ∷ []) refl

  pub fault_silent : (fault : ℕ) → IsSilent hashing (fault_line fault)
  fault_silent fault = by_first hashing (codes "fault" ∷ decimal fault ∷ []) refl

  pub pong_silent : (word : List ℕ) → IsSilent hashing (sentence (codes "pong" ∷ word ∷ []))
  pong_silent word = by_first hashing (codes "pong" ∷ word ∷ []) refl

  -- ---- who owns a grain, and where it would be placed: lines that begin with the question, which no letter answers
  owner_given : (read : Result Grain ℕ) (letter : Letter)
      → (read >>= (λ grain. Ok (Owner grain)) >>= (λ asked. Ok (Some asked))) ≡ Ok (Some (Receive letter)) → ⊥
  owner_given (Ok grain) letter is = cc is
  owner_given (Err fault) letter is = cc is

  owner_asked : (words : List (List ℕ)) → AreSilentWords hashing (codes "owner" ∷ words)
  owner_asked [] letter is = cc is
  owner_asked (grain ∷ []) letter is = owner_given (grain_word grain) letter is
  owner_asked (one ∷ two ∷ words) letter is = cc is

  pub owner_silent : (s : SiloValue) (grain : Grain) → IsSilent hashing (grain_owner_line s grain)
  unfolding grain_owner_line
  owner_silent s grain = by_word hashing (codes "owner") (owner_tail s grain) refl refl owner_asked

  place_given : (grain : Result Grain ℕ) (policy : Result Policy ℕ) (letter : Letter)
      → (grain >>= (λ grain. policy >>= (λ policy. Ok (Place grain policy))) >>= (λ asked. Ok (Some asked))) ≡ Ok (Some (Receive letter))
      → ⊥
  place_given (Ok grain) (Ok policy) letter is = cc is
  place_given (Ok grain) (Err fault) letter is = cc is
  place_given (Err fault) policy letter is = cc is

  place_asked : (words : List (List ℕ)) → AreSilentWords hashing (codes "place" ∷ words)
  place_asked [] letter is = cc is
  place_asked (one ∷ []) letter is = cc is
  place_asked (grain ∷ policy ∷ []) letter is = place_given (grain_word grain) (own_policy_word policy) letter is
  place_asked (one ∷ two ∷ three ∷ words) letter is = cc is

  pub place_silent : (s : SiloValue) (grain : Grain) (policy : Policy) → IsSilent hashing (grain_place_line s grain policy)
  unfolding grain_place_line
  place_silent s grain policy = by_word hashing (codes "place") (place_tail s grain policy) refl refl place_asked

  -- ---- figures: a line that begins with the question, too
  figures_asked : (words : List (List ℕ)) → AreSilentWords hashing (codes "status" ∷ words)
  figures_asked [] letter is = cc is
  figures_asked (word ∷ words) letter is = cc is

  pub figures_silent : (s : SiloValue) → IsSilent hashing (figures_line s)
  unfolding figures_line
  figures_silent s = by_word hashing (codes "status") (figures_words (figures s)) refl refl figures_asked

  -- ---- steps
  pub saw_silent : (silo : Silo) (version : ℕ) (made : Effect) → IsSilo silo
      → IsSilent hashing (sentence (happening_words (Saw silo version made)))
  saw_silent silo version made is = silo_first hashing silo (codes "sees" ∷ decimal version ∷ effect_words made) is

  did_unknown : (silo : Silo) (made : Effect) → first_unknown hashing (happening_words (Did silo made)) ≡ true
  did_unknown silo effect.Next = refl
  did_unknown silo effect.Skip = refl
  did_unknown silo (effect.Started entry) = refl
  did_unknown silo (effect.Closing entry) = refl
  did_unknown silo (effect.Cancelled entry) = refl
  did_unknown silo (effect.Offered entry to) = refl
  did_unknown silo (effect.Cached entry) = refl
  did_unknown silo (effect.Finding grain) = refl
  did_unknown silo (effect.Forgot grain) = refl
  did_unknown silo (effect.NothingCached grain) = refl
  did_unknown silo effect.Nudged = refl
  did_unknown silo effect.Registered = refl
  did_unknown silo effect.Taken = refl
  did_unknown silo effect.Removed = refl
  did_unknown silo effect.Absent = refl
  did_unknown silo effect.Found = refl
  did_unknown silo effect.Nothing = refl
  did_unknown silo (effect.Retry why) = refl
  did_unknown silo effect.Firm = refl
  did_unknown silo effect.Yielded = refl
  did_unknown silo effect.Ended = refl
  did_unknown silo effect.Learnt = refl
  did_unknown silo effect.Noted = refl
  did_unknown silo effect.Ignored = refl
  did_unknown silo effect.Page = refl
  did_unknown silo effect.Missing = refl
  did_unknown silo effect.Behind = refl
  did_unknown silo effect.Ahead = refl
  did_unknown silo effect.Installed = refl
  did_unknown silo effect.Gathering = refl
  did_unknown silo (effect.Refused number) = refl
  did_unknown silo effect.Recovering = refl
  did_unknown silo effect.Deleted = refl
  did_unknown silo effect.Report = refl
  did_unknown silo effect.More = refl
  did_unknown silo effect.Complete = refl

  pub did_silent : (silo : Silo) (made : Effect) → IsSilent hashing (sentence (happening_words (Did silo made)))
  did_silent silo made = by_first hashing (happening_words (Did silo made)) (did_unknown silo made)

  -- ---- letters
  counted_unknown : (host : Host) (seen number : ℕ) (answer : Reply) (letter : Letter) (made : Effect)
      → first_unknown hashing (counted_words host seen number answer (delivered_words letter made)) ≡ true
  counted_unknown host seen number (reply.Registered entry) letter made = refl
  counted_unknown host seen number (reply.Taken entry) letter made = refl
  counted_unknown host seen number reply.Removed letter made = refl
  counted_unknown host seen number reply.Absent letter made = refl
  counted_unknown host seen number (reply.Found entry) letter made = refl
  counted_unknown host seen number reply.Nothing letter made = refl
  counted_unknown host seen number (reply.Retry why) letter made = refl

  body_unknown : (body : Body) (host : Host) (seen : ℕ) (letter : Letter) (made : Effect)
      → first_unknown hashing (body_words body host seen made (delivered_words letter made)) ≡ true
  body_unknown (Request_letter request) host seen letter made = refl
  body_unknown (Reply_letter number answer) host seen letter made = counted_unknown host seen number answer letter made
  body_unknown (Ask_letter range page) host seen letter made = refl
  body_unknown (Page_letter page) host seen letter made = refl
  body_unknown (Missing_letter range) host seen letter made = refl
  body_unknown (Done_letter range) host seen letter made = refl
  body_unknown (Query_letter range after) host seen letter made = refl
  body_unknown (Report_letter report) host seen letter made = refl
  body_unknown (Survey_letter ranges) host seen letter made = refl
  body_unknown (Empty_letter ranges) host seen letter made = refl
  body_unknown (Behind_letter range) host seen letter made = refl
  body_unknown (Ahead_letter range) host seen letter made = refl
  body_unknown (Offer_letter entry) host seen letter made = did_unknown host.silo made

  pub received_silent : (host : Host) (seen : ℕ) (letter : Letter) (made : Effect)
      → IsSilent hashing (sentence (received_words host seen letter made))
  received_silent host seen letter made = by_first hashing (received_words host seen letter made) (by (is_ignored made))
    where
      by : (ignored : Bool) → first_unknown hashing (cond ignored (delivered_words letter made)
          (body_words letter.body host seen made (delivered_words letter made))) ≡ true
      by true = refl
      by false = body_unknown letter.body host seen letter made

  -- ---- what it has
  held_silent : (silo : Silo) (held : List (Grain × Held)) → AreSilent hashing (map (λ e. held_line silo e.0 e.1) held)
  held_silent silo [] = All-nil (IsSilent hashing)
  held_silent silo (e ∷ held) =
      All-cons (IsSilent hashing) (held_line silo e.0 e.1) (map (λ e. held_line silo e.0 e.1) held)
      (by_first hashing (codes "held" ∷ activation_text (record { silo = silo; count = e.1.count }) ∷ grain_text e.0 ∷ phase_word e.1.phase
      ∷ []) refl) (held_silent silo held)

  pieces_silent : (pieces : List (ℕ × Piece)) → AreSilent hashing (map (λ e. piece_line e.1) pieces)
  pieces_silent [] = All-nil (IsSilent hashing)
  pieces_silent (e ∷ pieces) =
      All-cons (IsSilent hashing) (piece_line e.1) (map (λ e. piece_line e.1) pieces)
      (by_first hashing (codes "range" ∷ range_text e.1.range ∷ state_words e.1.state e.1.entries) refl) (pieces_silent pieces)

  pub show_silent : (s : SiloValue) → AreSilent hashing (show_lines s)
  unfolding show_lines
  show_silent s =
      let version : List (List ℕ) = codes "version" ∷ decimal s.membership.views.version ∷ [] in
      let own : List (List ℕ) = codes "silo" ∷ silo_text s.node.host.silo ∷ own_word (own_status s) ∷ seen_words (Some s.node) in
      let held : List (List ℕ) = map (λ e. held_line s.node.host.silo e.0 e.1) s.node.host.held in
      let pieces : List (List ℕ) = map (λ e. piece_line e.1) s.node.holding.pieces in
      All-cons (IsSilent hashing) (sentence version) (sentence own ∷ (held ++ pieces)) (by_first hashing version refl)
      (All-cons (IsSilent hashing) (sentence own) (held ++ pieces) (by_first hashing own refl)
      (All-append (IsSilent hashing) held pieces (held_silent s.node.host.silo s.node.host.held) (pieces_silent s.node.holding.pieces)))

  pub dump_silent : (s : SiloValue) → IsSilent hashing (dump_line s)
  unfolding dump_line
  dump_silent s = other_byte hashing 123 _ refl refl

-- What a line of a silo's process asks for, or the number of its first fault. It is a function of the line alone: what a letter to
-- another silo says is read as well.
use Rattle.std.specs.Prelude.{ℕ, nat_lt, Bool, List, [], ◌∷◌, ◌++◌, find, length, map, take, drop, codes, bytes_eq, if◌then◌else◌, Option, Some, None, Result, Ok, Err}
use Rattle.std.specs.List.{list_all}
use Rattle.std.specs.Map.{lookup}
use Rattle.texts.specs.Words.{words_in, pieces_at}
use Rattle.silo_address.specs.Silo.{Silo}
use Rattle.silo_address.specs.Grain.{Grain}
use Rattle.membership_view.specs.declared.status.Status.{Status}
use Rattle.membership_view.specs.declared.status.Status.TheVariants as status
use Rattle.hash_ring.specs.declared.hashing.Hashing.{Hashing}
use Rattle.directory_rules.specs.Membership.{Listed}
use Rattle.directory_rules.specs.declared.policy.Policy.{Policy}
use Rattle.directory_rules.specs.declared.policy.Policy.TheVariants.{LeastHeld}
use Rattle.directory_rules.specs.declared.own_step.OwnStep.{OwnStep}
use Rattle.directory_rules.specs.State.{Letter}
use Rattle.script_rules.specs.Show.{status_word}
use Rattle.script_rules.specs.Script.{silo_word, grain_word, number_word, places_in, policy_word, Grammar, no_word, a_grain, own_steps, is_text, is_remark, ◌>>=◌}
use Rattle.process_rules.specs.ReadLetter.{read_letter}

-- what a line may ask for
pub data Asked : Type 0 where
  -- the silo is told a change of membership, and the version that it makes; a silo joins with the places stated for it, and perhaps
  -- with the token that its process was started with
  Joined : (version : ℕ) → Silo → (token : Option (List ℕ)) → (places : List ℕ) → Asked
  Leaving : (version : ℕ) → Silo → Asked
  Dead : (version : ℕ) → Silo → Asked
  -- or the view of a version, in place of all changes up to it
  Begin : (version : ℕ) → List Listed → Asked
  -- it sees a version, or does what its application asks of it
  See : (version : ℕ) → Asked
  Do : OwnStep → Asked
  -- a letter comes, which may be another silo's
  Receive : Letter → Asked
  -- what is asked of it changes nothing
  Ping : (word : List ℕ) → Asked
  Owner : Grain → Asked
  Place : Grain → Policy → Asked
  Figures : Asked
  Show : Asked
  Dump : Asked

-- ---- What stands behind the name of a command.

-- any one word
abbrev pub a_word : Grammar Asked
a_word (word ∷ []) = Ok (Ping word)
a_word words = Err 922

-- what stands before a token
abbrev pub before_token : List ℕ
before_token = codes "token="

-- whether the word tells a token
abbrev pub is_token_word : List ℕ → Bool
is_token_word word = bytes_eq (take (length before_token) word) before_token

-- the token that the first of the words tells, if it tells one
abbrev pub token_in : List (List ℕ) → Option (List ℕ)
token_in [] = None
token_in (word ∷ words) = if is_token_word word then Some (drop (length before_token) word) else None

-- the words behind it
abbrev pub behind_token : List (List ℕ) → List (List ℕ)
behind_token [] = []
behind_token (word ∷ words) = if is_token_word word then words else word ∷ words

-- a version, a silo, perhaps a token, and any number of places
abbrev pub a_join : Grammar Asked
a_join (version ∷ silo ∷ words) = do
  version ← number_word version
  silo ← silo_word silo
  places ← places_in (behind_token words)
  Ok (Joined version silo (token_in words) places)
a_join words = Err 922

-- a version and a silo
abbrev pub a_version_and_a_silo : (ℕ → Silo → Asked) → Grammar Asked
a_version_and_a_silo of (version ∷ silo ∷ []) = do
  version ← number_word version
  silo ← silo_word silo
  Ok (of version silo)
a_version_and_a_silo of words = Err 922

-- ---- The silos of a view, each in one word: SILO:STATUS, and places behind a further colon, separated by commas.
abbrev pub colon : ℕ
colon = 58

abbrev pub comma : ℕ
comma = 44

-- the status that the word names
abbrev pub status_named : List ℕ → Option Status
status_named word = find (λ status. bytes_eq word (status_word status)) (status.Active ∷ status.Leaving ∷ status.Dead ∷ [])

-- a silo, its status and its places, once the status is known: 933 where it names none
abbrev pub listed_as : Option Status → (silo : List ℕ) → (places : List (List ℕ)) → Result Listed ℕ
listed_as None silo places = Err 933
listed_as (Some status) silo places = do
  silo ← silo_word silo
  places ← places_in places
  Ok (record { silo = silo; status = status; places = places })

-- by what stands between its colons, of which one is the silo's own: 933 where these are too few or too many
abbrev pub listed_of : List (List ℕ) → Result Listed ℕ
listed_of (host ∷ port ∷ status ∷ []) = listed_as (status_named status) (host ++ colon ∷ port) []
listed_of (host ∷ port ∷ status ∷ places ∷ []) = listed_as (status_named status) (host ++ colon ∷ port) (pieces_at comma places)
listed_of pieces = Err 933

-- a silo of a view
abbrev pub listed_word : List ℕ → Result Listed ℕ
listed_word word = listed_of (pieces_at colon word)

-- each of these words is one
abbrev pub listed_in : List (List ℕ) → Result (List Listed) ℕ
listed_in [] = Ok []
listed_in (word ∷ words) = do
  one ← listed_word word
  others ← listed_in words
  Ok (one ∷ others)

-- a version, and any number of silos
abbrev pub a_view : Grammar Asked
a_view (version ∷ words) = do
  version ← number_word version
  rows ← listed_in words
  Ok (Begin version rows)
a_view words = Err 922

-- ---- Further lines.

-- a version
abbrev pub a_version : Grammar Asked
a_version (version ∷ []) = do
  version ← number_word version
  Ok (See version)
a_version words = Err 922

-- a policy that a silo can follow by itself: 926 where it is `least_held`, since a silo knows of no other how many it has
abbrev pub if_by_itself : Policy → Result Policy ℕ
if_by_itself LeastHeld = Err 926
if_by_itself policy = Ok policy

-- the name of such a policy: 926
abbrev pub own_policy_word : List ℕ → Result Policy ℕ
own_policy_word word = policy_word word >>= if_by_itself

-- a grain and a policy
abbrev pub a_grain_and_a_policy : Grammar Asked
a_grain_and_a_policy (grain ∷ policy ∷ []) = do
  grain ← grain_word grain
  policy ← own_policy_word policy
  Ok (Place grain policy)
a_grain_and_a_policy words = Err 922

-- the words of a letter
abbrev pub a_letter : Hashing → Grammar Asked
a_letter hashing words = do
  letter ← read_letter hashing words
  Ok (Receive letter)

-- what its application asks of the silo: what stands behind the name of that step
abbrev pub a_step : Grammar OwnStep → Grammar Asked
a_step grammar words = do
  step ← grammar words
  Ok (Do step)

abbrev pub step_commands : List (List ℕ × Grammar Asked)
step_commands = map (λ row. (row.0, a_step row.1)) own_steps

-- each command under its name, with what stands behind the name
abbrev pub commands : Hashing → List (List ℕ × Grammar Asked)
commands hashing =
    (codes "joined", a_join)
    ∷ (codes "leaving", a_version_and_a_silo Leaving)
    ∷ (codes "dead", a_version_and_a_silo Dead)
    ∷ (codes "view", a_view)
    ∷ (codes "see", a_version)
    ∷ (codes "letter", a_letter hashing)
    ∷ (codes "ping", a_word)
    ∷ (codes "owner", a_grain Owner)
    ∷ (codes "place", a_grain_and_a_policy)
    ∷ (codes "status", no_word Figures)
    ∷ (codes "show", no_word Show)
    ∷ (codes "dump", no_word Dump)
    ∷ step_commands

-- ---- Lines.

-- how many bytes a line may have, without its end
abbrev pub longest_line : ℕ
longest_line = 16777216

-- the words behind the name of a command that was looked up
abbrev pub asked_if_known : Option (Grammar Asked) → List (List ℕ) → Result (Option Asked) ℕ
asked_if_known None words = Err 921
asked_if_known (Some grammar) words = do
  asked ← grammar words
  Ok (Some asked)

-- what the words ask for; nothing where there is no word or they are a remark
abbrev pub asked_of_words : Hashing → List (List ℕ) → Result (Option Asked) ℕ
asked_of_words hashing [] = Ok None
asked_of_words hashing (name ∷ words) = if is_remark name then Ok None else asked_if_known (lookup (bytes_eq name) (commands hashing)) words

-- what a line asks for that ended, hashes being of that kind: something, nothing, or its first fault. 924 where it is too long, then
-- 925 where a byte isn't text, then 921 where its first word names no command, then those of the words behind it
unfoldable pub read_silo_line : Hashing → List ℕ → Result (Option Asked) ℕ
read_silo_line hashing line =
    if nat_lt longest_line (length line) then Err 924
    else (if list_all is_text line then asked_of_words hashing (words_in line) else Err 925)

-- the fault of what stands behind the last end, if anything does: 924 where it is too long, then 931, since it may have been cut
unfoldable pub unended_fault : List ℕ → Option ℕ
unended_fault [] = None
unended_fault (byte ∷ bytes) = if nat_lt longest_line (length (byte ∷ bytes)) then Some 924 else Some 931

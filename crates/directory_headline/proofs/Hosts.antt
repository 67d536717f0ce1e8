-- Steps that change a silo's host, or its cache, and nothing else of it; and the letters of requests.
use Rattle.std.proofs.Common.{◌≡◌, ◌≢◌, ℕ, inl, inr, sym, ap, ◌∙◌}
use Rattle.std.specs.Prelude.{All, Option, Some, None}
use Rattle.std.specs.Option.{option_map}
use Rattle.silo_address.specs.Silo.{Silo}
use Rattle.silo_address.specs.Grain.{Grain}
use Rattle.silo_address.specs.declared.ActivationId.{ActivationId}
use Rattle.directory_protocol.specs.Change.{put_at}
use Rattle.directory_protocol.specs.Letters as letters
use Rattle.directory_protocol.proofs.Changes.{grain_cases, put_at_same, put_at_other}
use Rattle.directory_protocol.specs.Setting.{Setting}
use Rattle.directory_protocol.specs.World as protocol
use Rattle.directory_rules.specs.declared.act.Act.{Act}
use Rattle.directory_rules.specs.State.{Host, Cache, Request_letter, Node, World}
use Rattle.directory_rules.specs.Host.{held_of}
use Rattle.directory_rules.specs.Sent.{letter_to, hash_of, request_of, owner_by, letter_if_owned, request_letters}
use Rattle.directory_headline.specs.SiloState.{state_of}
use Rattle.directory_headline.specs.Shown.{held_as, IsShownHost, IsShownHolding, IsShownNode, IsShownLetter, IsShownRequest}
use Rattle.directory_headline.proofs.Actors.{Grows}
use Rattle.directory_headline.proofs.MoreLetters.{shelf_still, gatherings_still, recoveries_still}
use Rattle.directory_headline.proofs.Frame.{Here, node_shown, no_letters, one_letter}

-- what a silo has for others is as it was
pub record LeavesHolding (silo : Silo) (w later : protocol.World) : Type 0 where
  pub seen : later.seen silo ≡ w.seen silo
  pub settled : later.settled silo ≡ w.settled silo
  pub table : later.table silo ≡ w.table silo
  pub served : later.served silo ≡ w.served silo

module _ (m : Setting) (f : World) (w : protocol.World) (silo : Silo) (node : Node) (here : Here m f w silo node)
    (later : protocol.World) where
  pub holding_still : LeavesHolding silo w later → IsShownHolding m.hash node.holding (state_of later silo)
  holding_still leaves =
      let was = (node_shown m f w silo node here).holding in
      record {
        settled = λ h. ap (λ t. t h) leaves.settled ∙ was.settled h;
        table = λ grain piece found is. ap (λ t. t grain) leaves.table ∙ was.table grain piece found is;
        served = λ sender. ap (λ t. t sender) leaves.served ∙ was.served sender;
      }

  -- the node with another host and cache
  pub host_changes : (host : Host) (cache : Cache) → LeavesHolding silo w later → Grows w later → IsShownHost host (state_of later silo)
      → IsShownNode m later (record node { host = host; cache = cache }) (state_of later silo)
  host_changes host cache leaves grows shown =
      let was = node_shown m f w silo node here in
      record {
        seen = leaves.seen ∙ was.seen;
        host = shown;
        holding = holding_still leaves;
        shelf = shelf_still m w later grows node.shelf was.shelf;
        gatherings = gatherings_still m w later grows node.gatherings was.gatherings;
        recoveries = recoveries_still m w later grows node.recoveries was.recoveries;
      }

-- the letter of a request, if there is one, is shown where the request is
pub request_shown :
    (m : Setting) (later : protocol.World) (node : Node) (number : ℕ) (its : Act)
    → IsShownRequest later.requests (request_of node number its) its
    → All (IsShownLetter m.hash later) (request_letters node number its)
request_shown m later node number its is = by (owner_by node (hash_of node its))
  where
    by : (owner : Option Silo) → All (IsShownLetter m.hash later) (letter_if_owned owner node (Request_letter (request_of node number its)))
    by None = no_letters (IsShownLetter m.hash later)
    by (Some owner) = one_letter (IsShownLetter m.hash later) (letter_to owner node (Request_letter (request_of node number its))) is

-- one activation changes, and its host has it so
pub held_put :
    (w : protocol.World) (silo : Silo) (grain : Grain) (o : Option protocol.Held) (before host : Host)
    → ((r : Grain) → w.held silo r ≡ option_map held_as (held_of before r))
    → o ≡ option_map held_as (held_of host grain) → ((r : Grain) → r ≢ grain → held_of host r ≡ held_of before r) → (r : Grain)
    → put_at silo grain o w.held silo r ≡ option_map held_as (held_of host r)
held_put w silo grain o before host was here there r =
    elim (grain_cases r grain) [
      | inl same ↦ ap (λ g. put_at silo grain o w.held silo g) same ∙ put_at_same silo grain o w.held ∙ here
          ∙ ap (λ g. option_map held_as (held_of host g)) (sym same)
      | inr apart ↦ put_at_other silo grain o w.held silo r (λ its. apart) ∙ was r ∙ ap (option_map held_as) (sym (there r apart))
    ]

-- two requests are one where version, number, sender and count are
pub same_request :
    (purpose : letters.Purpose) (grain : Grain) (previous : Option ActivationId) (v v' n n' : ℕ) (s s' : Silo) (c c' : ℕ) → v ≡ v' → n ≡ n'
    → s ≡ s' → c ≡ c'
    → let one : letters.Request = record { purpose = purpose; version = v; number = n; sender = s; grain = grain; count = c; previous = previous } in
    let other : letters.Request = record { purpose = purpose; version = v'; number = n'; sender = s'; grain = grain; count = c'; previous = previous } in
    one ≡ other
same_request purpose grain previous v v' n n' s s' c c' version number sender count =
    ap (λ (x : ℕ).
    let r : letters.Request = record { purpose = purpose; version = x; number = n; sender = s; grain = grain; count = c; previous = previous } in r) version
    ∙ ap (λ (x : ℕ).
    let r : letters.Request = record { purpose = purpose; version = v'; number = x; sender = s; grain = grain; count = c; previous = previous } in r) number
    ∙ ap (λ (x : Silo).
    let r : letters.Request = record { purpose = purpose; version = v'; number = n'; sender = x; grain = grain; count = c; previous = previous } in r) sender
    ∙ ap (λ (x : ℕ).
    let r : letters.Request = record { purpose = purpose; version = v'; number = n'; sender = s'; grain = grain; count = x; previous = previous } in r) count

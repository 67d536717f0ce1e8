-- The state: what each silo knows, what letters say, and the world. The rule says how it changes.
use Rattle.directory_rules.specs.Settings.{Settings}
use Rattle.directory_rules.specs.declared.act.Request.{Request}
use Rattle.directory_rules.specs.declared.held.Held.{Held}
use Rattle.directory_rules.specs.declared.outcome.Outcome.{Outcome}
use Rattle.directory_rules.specs.declared.piece_state.PieceState.{PieceState}
use Rattle.directory_rules.specs.declared.reply.Reply.{Reply}
use Rattle.hash_ring.specs.Places.{PlacesValue}
use Rattle.hash_ring.specs.Ring.{RingValue}
use Rattle.membership_view.specs.View.{ViewValue}
use Rattle.membership_view.specs.Views.{ViewsValue}
use Rattle.ring_range.specs.Range.{Range}
use Rattle.silo_address.specs.Grain.{Grain}
use Rattle.silo_address.specs.Silo.{Silo}
use Rattle.silo_address.specs.declared.ActivationId.{ActivationId}
use Rattle.silo_address.specs.declared.Entry.{Entry}
use Rattle.std.specs.Prelude.{Bool, List, Option, ℕ}

-- entries under their grains
abbrev pub Table : Type 0
Table = List (Grain × Entry)

-- a piece
pub record Piece : Type 0 where
  pub range : Range
  pub state : PieceState
  -- empty unless the piece is settled
  pub entries : Table

-- what a silo keeps for others: the version that it has seen, the last number that it served each silo at that version,
-- by address, and its pieces under their starts, in order
pub record Holding : Type 0 where
  pub seen : ℕ
  pub served : List (Silo × ℕ)
  pub pieces : List (ℕ × Piece)

-- a silo's shelf has its snapshots, in the order in which they were sealed
pub record Snapshot : Type 0 where
  pub version : ℕ
  pub range : Range
  pub from : Silo
  pub to : Silo
  -- in the order of their grains
  pub entries : List Entry

-- a page of a snapshot
pub record Page : Type 0 where
  pub version : ℕ
  pub range : Range
  -- its number, from 0, and how many pages there are
  pub page : ℕ
  pub pages : ℕ
  -- the digest of the whole snapshot: 32 bytes
  pub digest : List ℕ
  pub entries : List Entry

-- what the first page says of the whole snapshot
pub record Whole : Type 0 where
  pub pages : ℕ
  pub digest : List ℕ

-- what a new owner has of a snapshot so far
pub record Gathering : Type 0 where
  pub version : ℕ
  pub range : Range
  -- the number of the next page wanted
  pub next : ℕ
  -- none before the first page
  pub whole : Option Whole
  -- the entries of the pages had so far
  pub entries : List Entry

-- some of a silo's firm activations with their hashes in a range, when it had seen a version
pub record Report : Type 0 where
  pub version : ℕ
  pub range : Range
  pub silo : Silo
  -- the grain behind which they stand; none from the start of the range on
  pub after : Option Grain
  -- as they stand in the range
  pub entries : List Entry
  -- whether no others stand behind them
  pub last : Bool

-- what an owner has been reported so far
pub record Recovery : Type 0 where
  pub version : ℕ
  pub range : Range
  -- the silos whose last report is missing, and those that have told all, by address
  pub awaiting : List Silo
  pub reported : List Silo
  -- up to which grain those that are awaited have told, if they have told of any, by address
  pub told : List (Silo × Grain)
  pub gathered : Table

-- what a host has
pub record Host : Type 0 where
  pub silo : Silo
  -- the number of its next request, and the count of its next activation
  pub next_number : ℕ
  pub next_count : ℕ
  -- the activations, under their grains, in the order in which they began
  pub held : List (Grain × Held)
  -- the outstanding finds, under their numbers, in order
  pub finds : List (ℕ × Grain)

-- hints, no more than the capacity
pub record Cache : Type 0 where
  pub capacity : ℕ
  pub pairs : List (Grain × ActivationId)

-- what a silo knows
pub record Node : Type 0 where
  pub settings : Settings
  -- the view that it has seen, and the ring of that view
  pub view : ViewValue
  pub ring : RingValue
  pub holding : Holding
  -- the snapshots that wait for their new owners
  pub shelf : List Snapshot
  -- under the starts of their pieces, in order
  pub gatherings : List (ℕ × Gathering)
  pub recoveries : List (ℕ × Recovery)
  pub host : Host
  pub cache : Cache

-- what a letter says
pub data Body : Type 0 where
  -- a silo to an owner, and back under the request's number
  Request_letter : Request → Body
  Reply_letter : (number : ℕ) → Reply → Body
  -- a new owner to the previous one, for a page of a snapshot
  Ask_letter : Range → (page : ℕ) → Body
  -- the previous owner's answers
  Page_letter : Page → Body
  Missing_letter : Range → Body
  -- the new owner has the whole snapshot
  Done_letter : Range → Body
  -- an owner to any silo, for what it has firm behind a grain, or from the start of the range on; and the answer
  Query_letter : Range → (after : Option Grain) → Body
  Report_letter : Report → Body
  -- an owner to any silo, for what it has firm in each of these ranges, from their starts on; and the answer: those of them in which it has
  -- nothing, beside a report on each other one
  Survey_letter : List Range → Body
  Empty_letter : List Range → Body
  -- the asked silo has not seen the version yet, or has passed it
  Behind_letter : Range → Body
  Ahead_letter : Range → Body
  -- a silo to one that is to start an activation in place of this one
  Offer_letter : Entry → Body

-- a letter
pub record Letter : Type 0 where
  pub from : Silo
  pub to : Silo
  -- a request, a reply and an offer have the version that their sender had seen; the others that of the transfer or recovery
  pub version : ℕ
  pub body : Body

-- a letter in the mail; it is fresh until it was delivered
pub record Posted : Type 0 where
  pub letter : Letter
  pub fresh : Bool

-- the world
pub record World : Type 0 where
  pub settings : Settings
  -- how many events were accepted
  pub accepted : ℕ
  -- what the changes of membership made: the views so far, and each silo's places on the ring
  pub views : ViewsValue
  pub places : PlacesValue
  -- the silos that aren't Dead in the current view, by address
  pub nodes : List (Silo × Node)
  -- the letters that were sent and not lost, under their numbers, in order
  pub mail : List (ℕ × Posted)
  -- how many letters were ever sent; they are numbered from 1
  pub sent : ℕ

-- an accepted event: what it told, and the world after it
pub record Accepted : Type 0 where
  pub outcome : Outcome
  pub world : World

-- What is a silo's own: its node, the activations that it holds, and what it names in its letters.
use Rattle.std.specs.Prelude.{◌≡◌, ◌≢◌, ⊤, AllPairs}
use Rattle.silo_address.specs.Silo.{Silo}
use Rattle.hash_ring.specs.declared.Hashing.{Hashing}
use Rattle.hash_ring.specs.Hash.{hash_grain}
use Rattle.directory_rules.specs.declared.act.Act.{Act}
use Rattle.directory_rules.specs.declared.act.Act.TheVariants.{Register, Deregister, Find}
use Rattle.directory_rules.specs.declared.act.Request.{Request}
use Rattle.directory_rules.specs.Settings.{Settings}
use Rattle.directory_rules.specs.State.{Report, Host, Letter, Body, Request_letter, Reply_letter, Ask_letter, Page_letter, Missing_letter, Done_letter, Query_letter, Report_letter, Survey_letter, Empty_letter, Behind_letter, Ahead_letter, Offer_letter, Node}
use Rattle.directory_rules.specs.Host.{grain_of}

-- the host holds one activation a grain
abbrev pub HoldsOnce : Host → Type 0
HoldsOnce host = AllPairs (λ e later. e.0 ≢ later.0) host.held

-- no two of the activations that the host holds have one count
abbrev pub CountsOnce : Host → Type 0
CountsOnce host = AllPairs (λ e later. e.1.count ≢ later.1.count) host.held

-- the node is that of the silo, by the settings
pub record IsOwnNode (settings : Settings) (silo : Silo) (node : Node) : Type 0 where
  pub settings_are : node.settings ≡ settings
  pub host_is : node.host.silo ≡ silo
  pub once : HoldsOnce node.host

-- what is entered or taken out is an activation of the silo; a Find names none
abbrev pub NamesOwn : Silo → Act → Type 0
NamesOwn silo (Register entry previous) = entry.activation.silo ≡ silo
NamesOwn silo (Deregister entry) = entry.activation.silo ≡ silo
NamesOwn silo (Find grain) = ⊤

-- a request is that of the letter's sender, of its version, under the hash of its grain, and about an activation of the sender
pub record IsOwnRequest (hashing : Hashing) (letter : Letter) (request : Request) : Type 0 where
  pub sender : request.sender ≡ letter.from
  pub version : request.version ≡ letter.version
  pub hash : request.hash ≡ hash_grain hashing (grain_of request.act)
  pub own : NamesOwn letter.from request.act

-- a report is that of the letter's sender, of its version
pub record IsOwnReport (letter : Letter) (report : Report) : Type 0 where
  pub version : report.version ≡ letter.version
  pub silo : report.silo ≡ letter.from

-- what a letter says is its sender's own: requests and reports are, who offers an activation offers its own, and a page is of the
-- letter's version
abbrev pub SaysOwn : Hashing → Letter → Body → Type 0
SaysOwn hashing letter (Request_letter request) = IsOwnRequest hashing letter request
SaysOwn hashing letter (Reply_letter number answer) = ⊤
SaysOwn hashing letter (Ask_letter range page) = ⊤
SaysOwn hashing letter (Page_letter page) = page.version ≡ letter.version
SaysOwn hashing letter (Missing_letter range) = ⊤
SaysOwn hashing letter (Done_letter range) = ⊤
SaysOwn hashing letter (Query_letter range after) = ⊤
SaysOwn hashing letter (Report_letter report) = IsOwnReport letter report
SaysOwn hashing letter (Survey_letter ranges) = ⊤
SaysOwn hashing letter (Empty_letter ranges) = ⊤
SaysOwn hashing letter (Behind_letter range) = ⊤
SaysOwn hashing letter (Ahead_letter range) = ⊤
SaysOwn hashing letter (Offer_letter entry) = entry.activation.silo ≡ letter.from

-- so a letter is its sender's own
abbrev pub IsOwnLetter : Settings → Letter → Type 0
IsOwnLetter settings letter = SaysOwn settings.hashing letter letter.body

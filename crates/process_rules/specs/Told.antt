-- Letters that a line can tell: everything in them is in its range, and what a line says once, or leaves out, is so throughout. Letters
-- that silos send are like that, but for how large their numbers are, and where their ranges lie.
use Rattle.std.specs.Prelude.{◌≡◌, ◌≢◌, ℕ, ◌<◌, ◌^◌, ⊤, List, [], All, length, IfSome}
use Rattle.hex.specs.Hex.{IsBytes}
use Rattle.silo_address.specs.Silo.{Silo, IsSilo}
use Rattle.silo_address.specs.Grain.{IsGrain}
use Rattle.silo_address.specs.declared.ActivationId.{ActivationId}
use Rattle.silo_address.specs.declared.Entry.{Entry}
use Rattle.ring_range.specs.Range.{Range, IsRange}
use Rattle.hash_ring.specs.declared.hashing.Hashing.{Hashing}
use Rattle.hash_ring.specs.Hash.{hash_grain}
use Rattle.directory_rules.specs.declared.act.Act.{Act}
use Rattle.directory_rules.specs.declared.act.Act.TheVariants as act
use Rattle.directory_rules.specs.declared.act.Request.{Request}
use Rattle.directory_rules.specs.declared.reply.Why.{Why}
use Rattle.directory_rules.specs.declared.reply.Why.TheVariants as why
use Rattle.directory_rules.specs.declared.reply.Reply.{Reply}
use Rattle.directory_rules.specs.declared.reply.Reply.TheVariants as reply
use Rattle.directory_rules.specs.Host.{grain_of}
use Rattle.directory_rules.specs.State.{Page, Report, Letter, Body, Request_letter, Reply_letter, Ask_letter, Page_letter, Missing_letter, Done_letter, Query_letter, Report_letter, Survey_letter, Empty_letter, Behind_letter, Ahead_letter, Offer_letter}

-- a version, the count of an activation, or the number of a request or a page, where a line is to tell it
abbrev pub IsNumber : ℕ → Type 0
IsNumber number = number < 2 ^ 64

-- 32 bytes
pub record IsDigest (digest : List ℕ) : Type 0 where
  pub long : length digest ≡ 32
  pub bytes : IsBytes digest

-- ranges, one at least; `Lies` says which there may be
pub record AreSomeRanges (Lies : Range → Type 0) (ranges : List Range) : Type 0 where
  pub some : ranges ≢ []
  pub lie : All Lies ranges

-- `Fits` says which numbers there may be
module _ (Fits : ℕ → Type 0) where
  pub record IsActivation (activation : ActivationId) : Type 0 where
    pub silo : IsSilo activation.silo
    pub count : Fits activation.count

  pub record IsEntry (entry : Entry) : Type 0 where
    pub grain : IsGrain entry.grain
    pub activation : IsActivation entry.activation

  abbrev pub IsAct : Act → Type 0
  IsAct (act.Register entry previous) = IsEntry entry × IfSome previous IsActivation
  IsAct (act.Deregister entry) = IsEntry entry
  IsAct (act.Find grain) = IsGrain grain

  abbrev pub IsWhy : Why → Type 0
  IsWhy (why.View seen) = Fits seen
  IsWhy why.Unsettled = ⊤
  IsWhy (why.OldNumber last) = Fits last
  IsWhy why.NotOwner = ⊤

  abbrev pub IsReply : Reply → Type 0
  IsReply (reply.Registered entry) = IsEntry entry
  IsReply (reply.Taken entry) = IsEntry entry
  IsReply reply.Removed = ⊤
  IsReply reply.Absent = ⊤
  IsReply (reply.Found entry) = IsEntry entry
  IsReply reply.Nothing = ⊤
  IsReply (reply.Retry why) = IsWhy why

  -- a request is its letter's sender's, of its letter's version, and has its grain's hash
  pub record IsToldRequest (hashing : Hashing) (from : Silo) (stated : ℕ) (request : Request) : Type 0 where
    pub sender : request.sender ≡ from
    pub version : request.version ≡ stated
    pub number : Fits request.number
    pub hash : request.hash ≡ hash_grain hashing (grain_of request.act)
    pub act : IsAct request.act

  -- and `Lies` which ranges
  module _ (Lies : Range → Type 0) where
    -- a page is of its letter's version
    pub record IsToldPage (stated : ℕ) (told : Page) : Type 0 where
      pub version : told.version ≡ stated
      pub range : Lies told.range
      pub page : Fits told.page
      pub pages : Fits told.pages
      pub digest : IsDigest told.digest
      pub entries : All IsEntry told.entries

    -- a report is its letter's sender's, of its letter's version
    pub record IsToldReport (from : Silo) (stated : ℕ) (report : Report) : Type 0 where
      pub version : report.version ≡ stated
      pub range : Lies report.range
      pub silo : report.silo ≡ from
      pub after : IfSome report.after IsGrain
      pub entries : All IsEntry report.entries

    -- what a letter from that silo and of that version says
    abbrev pub IsToldBody : Hashing → (from : Silo) → (version : ℕ) → Body → Type 0
    IsToldBody hashing from version (Request_letter request) = IsToldRequest hashing from version request
    IsToldBody hashing from version (Reply_letter number reply) = Fits number × IsReply reply
    IsToldBody hashing from version (Ask_letter range page) = Lies range × Fits page
    IsToldBody hashing from version (Page_letter page) = IsToldPage version page
    IsToldBody hashing from version (Missing_letter range) = Lies range
    IsToldBody hashing from version (Done_letter range) = Lies range
    IsToldBody hashing from version (Query_letter range after) = Lies range × IfSome after IsGrain
    IsToldBody hashing from version (Report_letter report) = IsToldReport from version report
    IsToldBody hashing from version (Survey_letter ranges) = AreSomeRanges Lies ranges
    IsToldBody hashing from version (Empty_letter ranges) = AreSomeRanges Lies ranges
    IsToldBody hashing from version (Behind_letter range) = Lies range
    IsToldBody hashing from version (Ahead_letter range) = Lies range
    IsToldBody hashing from version (Offer_letter entry) = IsEntry entry

    -- the letter is so, whoever it is from and whatever it says
    pub record IsLetterWith (hashing : Hashing) (letter : Letter) : Type 0 where
      pub from : IsSilo letter.from
      pub to : IsSilo letter.to
      pub version : Fits letter.version
      pub body : IsToldBody hashing letter.from letter.version letter.body

-- a letter that a line can tell
abbrev pub IsTold : Hashing → Letter → Type 0
IsTold hashing letter = IsLetterWith IsNumber IsRange hashing letter

-- a letter that a silo may send: its line is read as that letter, or not at all
abbrev pub IsSayable : Hashing → Letter → Type 0
IsSayable hashing letter = IsLetterWith (λ number. ⊤) (λ range. ⊤) hashing letter

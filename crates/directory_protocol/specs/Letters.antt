-- The letters that silos send one another. A letter that was sent may come at any time, again, or never.
use Rattle.std.specs.Prelude.{◌≡◌, ◌⊎◌, ℕ, Bool, Option, List, [], ◌∷◌}
use Rattle.silo_address.specs.Silo.{Silo}
use Rattle.silo_address.specs.Grain.{Grain}
use Rattle.silo_address.specs.declared.activation.ActivationId.{ActivationId}

-- the activation that began as that count on that silo
abbrev pub activation_on : Silo → ℕ → ActivationId
activation_on silo count = record { silo = silo; count = count }

-- what a request asks of the directory: that an activation be entered, or be taken out
pub data Purpose : Type 0 where
  Register Deregister : Purpose

-- a silo asks about one of its activations, told by its count. Whoever has the grain's hash settled may answer
pub record Request : Type 0 where
  pub purpose : Purpose
  pub version : ℕ
  pub number : ℕ
  pub sender : Silo
  pub grain : Grain
  pub count : ℕ
  -- the activation whose place this one is to take
  pub previous : Option ActivationId

-- the activation that a request names
abbrev pub named : Request → ActivationId
named r = activation_on r.sender r.count

-- the answers to a request. A deregistration is answered alike whether the entry was there or not
pub data Answer : Type 0 where
  Registered Taken Removed : Answer

-- the purpose of the requests that an answer answers
abbrev pub purpose_of : Answer → Purpose
purpose_of Registered = Register
purpose_of Taken = Register
purpose_of Removed = Deregister

pub record Reply : Type 0 where
  pub answer : Answer
  pub version : ℕ
  pub number : ℕ
  pub receiver : Silo

-- the entries that a silo gave up when it saw the version after sealed_at
pub record Snapshot : Type 0 where
  pub sealed_at : ℕ
  pub covers : (hash : ℕ) → Bool
  pub entries : Grain → Option ActivationId

-- what was firm on a silo that had seen a version: the count of each grain's firm activation
pub record Report : Type 0 where
  pub version : ℕ
  pub sender : Silo
  pub firm : Grain → Option ℕ

-- a silo offers its activation of a grain: another may start one in its place
pub record Offer : Type 0 where
  pub version : ℕ
  pub grain : Grain
  pub activation : ActivationId

-- x is among the letters that were sent
abbrev pub Sent : {X : Type 0} → X → List X → Type 0
Sent x [] = ⊥
Sent x (y ∷ ys) = (x ≡ y) ⊎ Sent x ys

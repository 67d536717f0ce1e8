-- What a line may ask for, with all that it names in its range.
use Rattle.std.specs.Prelude.{⊤, ◌<◌, All}
use Rattle.silo_address.specs.Silo.{IsSilo}
use Rattle.silo_address.specs.Grain.{IsGrain}
use Rattle.ring_range.specs.Range.{circle}
use Rattle.hash_ring.specs.declared.hashing.Hashing.{Hashing}
use Rattle.directory_rules.specs.Membership.{Listed}
use Rattle.directory_rules.specs.OwnStep.{IsOwnStep}
use Rattle.process_rules.specs.ReadLine.{Asked, Joined, Leaving, Dead, Begin, See, Do, Receive, Ping, Owner, Place, Figures, Show, Dump}
use Rattle.process_rules.specs.Told.{IsNumber, IsTold}

-- a silo of a view is one, and its places are hashes
abbrev pub IsListed : Listed → Type 0
IsListed one = IsSilo one.silo × All (λ place. place < circle) one.places

-- versions are below 2^64, silos and grains are such, places are hashes, and a letter is one that a line can tell
abbrev pub IsInRange : Hashing → Asked → Type 0
IsInRange hashing (Joined version silo token places) = IsNumber version × IsSilo silo × All (λ place. place < circle) places
IsInRange hashing (Leaving version silo) = IsNumber version × IsSilo silo
IsInRange hashing (Dead version silo) = IsNumber version × IsSilo silo
IsInRange hashing (Begin version rows) = IsNumber version × All IsListed rows
IsInRange hashing (See version) = IsNumber version
IsInRange hashing (Do step) = IsOwnStep step
IsInRange hashing (Receive letter) = IsTold hashing letter
IsInRange hashing (Ping word) = ⊤
IsInRange hashing (Owner grain) = IsGrain grain
IsInRange hashing (Place grain policy) = IsGrain grain
IsInRange hashing Figures = ⊤
IsInRange hashing Show = ⊤
IsInRange hashing Dump = ⊤

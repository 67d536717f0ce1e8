-- Types whose values may be moved to another thread and be shared with one, by the types of their parts.
use Prim.Native.Nat.{ℕ}
use mathlib.Core.List.{List, [], ◌∷◌}
use base.Stored.{Coded}
use denote.RattleType.{RattleType}
use denote.Builtin.{u8, u16, u32, u64, bool, unit}
use denote.Array.{Array}
use denote.Struct.Struct.{Struct}
use denote.Struct.Declared as S
use denote.Struct.Tuple.{Tuple, tuple_type}
use denote.Enum.Enum.{Enum}
use denote.Enum.Declared as E
use denote.Model.{View, Fixed}
use denote.Param.Send.{IsSend, IsSync, AllSend, AllSync, EachSend, EachSync, sendable, struct_send, struct_sync, enum_send, enum_sync, recorded_send, recorded_sync, view_send, view_sync, fixed_send, fixed_sync, array_send, array_sync}

-- values of the type may be moved to another thread, and be shared with one
pub record Crosses (R : RattleType) : Type 0 where
  pub moved : IsSend R
  pub shared : IsSync R

-- each of some types crosses
abbrev pub All : List RattleType → Type 0
All [] = Unit {0}
All (R ∷ Rs) = Crosses R × All Rs

-- each of the types of some variants crosses
abbrev pub Each : List (List RattleType) → Type 0
Each [] = Unit {0}
Each (Rs ∷ Rss) = All Rs × Each Rss

all_moved : (Rs : List RattleType) → All Rs → AllSend Rs
all_moved [] c = tt
all_moved (R ∷ Rs) c = (c.0.moved, all_moved Rs c.1)

all_shared : (Rs : List RattleType) → All Rs → AllSync Rs
all_shared [] c = tt
all_shared (R ∷ Rs) c = (c.0.shared, all_shared Rs c.1)

each_moved : (Rss : List (List RattleType)) → Each Rss → EachSend Rss
each_moved [] c = tt
each_moved (Rs ∷ Rss) c = (all_moved Rs c.0, each_moved Rss c.1)

each_shared : (Rss : List (List RattleType)) → Each Rss → EachSync Rss
each_shared [] c = tt
each_shared (Rs ∷ Rss) c = (all_shared Rs c.0, each_shared Rss c.1)

module _ (T : S.Declared) where
  -- a struct where it is a field
  pub fields : All (S.fields T) → Crosses (Struct (S.shape T))
  fields c = let s = S.shape T in record { moved = struct_send s (all_moved s.fields c); shared = struct_sync s (all_shared s.fields c) }

  -- a struct by itself, as a type argument is
  pub structure : Crosses (Struct (S.shape T)) → Crosses (S.row T)
  structure c =
      let R = Struct (S.shape T) in record {
        moved = recorded_send R T.D T.to T.to_one c.moved;
        shared = recorded_sync R T.D T.to T.to_one
            c.shared;
      }

  -- a struct with a model
  pub modelled : (D : Type 0) (code : Coded D) (view : T.D → D) (holds : T.D → Type 0) → All (S.fields T)
      → Crosses (View (S.row T) D code view holds)
  modelled D code view holds c =
      let R = S.row T in let whole = structure (fields c) in
      record { moved = view_send R D code view holds whole.moved; shared = view_sync R D code view holds whole.shared }

  -- a struct with a model that has an inverse
  pub inverted : (D : Type 0) (code : Coded D) (inverse : D → T.D) (view : T.D → D) (holds : T.D → Type 0) → All (S.fields T)
      → Crosses (Fixed (S.row T) D code inverse view holds)
  inverted D code inverse view holds c =
      let R = S.row T in let whole = structure (fields c) in
      record { moved = fixed_send R D code inverse view holds whole.moved; shared = fixed_sync R D code inverse view holds whole.shared }

module _ (T : E.Declared) where
  -- an enum where it is a field
  pub variants : Each (E.variants T) → Crosses (Enum (E.shape T))
  variants c =
      let s = E.shape T in record { moved = enum_send s (each_moved s.variants c); shared = enum_sync s (each_shared s.variants c) }

  -- an enum by itself, as a type argument is
  pub choice : Crosses (Enum (E.shape T)) → Crosses (E.row T)
  choice c =
      let R = Enum (E.shape T) in record {
        moved = recorded_send R T.D T.to T.to_one c.moved;
        shared = recorded_sync R T.D T.to T.to_one
            c.shared;
      }

pub pair : (A B : RattleType) → Crosses A → Crosses B → Crosses (Tuple (A ∷ B ∷ []))
pair A B a b = let T = tuple_type (A ∷ B ∷ []) in structure T (fields T (a, (b, tt)))

pub array : (R : RattleType) (n : ℕ) → Crosses R → Crosses (Array R n)
array R n c = record { moved = array_send R n c.moved; shared = array_sync R n c.shared }

pub byte : Crosses u8
byte = record { moved = search sendable; shared = search sendable }

pub number16 : Crosses u16
number16 = record { moved = search sendable; shared = search sendable }

pub number32 : Crosses u32
number32 = record { moved = search sendable; shared = search sendable }

pub number64 : Crosses u64
number64 = record { moved = search sendable; shared = search sendable }

pub truth : Crosses bool
truth = record { moved = search sendable; shared = search sendable }

pub nothing : Crosses unit
nothing = record { moved = search sendable; shared = search sendable }

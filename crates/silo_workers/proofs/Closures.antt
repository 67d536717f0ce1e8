-- A closure may go to another thread where what it takes along may.
use mathlib.Core.List.{List, [], ◌∷◌}
use denote.RattleType.{RattleType}
use denote.Struct.Struct.{Struct}
use denote.Struct.Declared as S
use denote.Struct.Field.{rows}
use denote.Struct.Tuple.{TupleAt, parts, type_at}
use denote.Param.Send.{IsSend, AllSend, struct_send, recorded_send}

each_sends : (Rs : List RattleType) → AllSend Rs → AllSend (rows (parts Rs))
each_sends [] s = tt
each_sends (R ∷ Rs) s = (s.0, each_sends Rs s.1)

-- Its name says nothing of that, so this is the closure without one: of the closure itself say `record { owned = its.owned; leaving = its.leaving }`
closure_sends : (Rs : List RattleType) → AllSend Rs → IsSend (TupleAt [] Rs)
closure_sends Rs s =
    let T = type_at [] Rs in recorded_send (Struct (S.shape T)) T.D T.to T.to_one (struct_send (S.shape T) (each_sends Rs s))

-- one that takes three things along
pub three_send : (A B C : RattleType) → IsSend A → IsSend B → IsSend C → IsSend (TupleAt [] (A ∷ B ∷ C ∷ []))
three_send A B C a b c = closure_sends (A ∷ B ∷ C ∷ []) (a, (b, (c, tt)))

-- The names of members as dumps have them.
use Rattle.std.specs.Prelude.{ℕ, List, codes}
use Rattle.dumps.specs.declared.member_name.MemberName.{MemberName}
use Rattle.dumps.specs.declared.member_name.MemberName.TheVariants.{Activation, Current, Dead, Entries, From, Grain, Hashing, Held, Joined, Left, Nodes, Phase, Pieces, Places, Points, Range, Ring, Rows, Seen, Silo, State}

abbrev pub text_of_name : MemberName → List ℕ
text_of_name Activation = codes "activation"
text_of_name Current = codes "current"
text_of_name Dead = codes "dead"
text_of_name Entries = codes "entries"
text_of_name From = codes "from"
text_of_name Grain = codes "grain"
text_of_name Hashing = codes "hashing"
text_of_name Held = codes "held"
text_of_name Joined = codes "joined"
text_of_name Left = codes "left"
text_of_name Nodes = codes "nodes"
text_of_name Phase = codes "phase"
text_of_name Pieces = codes "pieces"
text_of_name Places = codes "places"
text_of_name Points = codes "points"
text_of_name Range = codes "range"
text_of_name Ring = codes "ring"
text_of_name Rows = codes "rows"
text_of_name Seen = codes "seen"
text_of_name Silo = codes "silo"
text_of_name State = codes "state"

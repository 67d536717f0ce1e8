-- The rule of published rings. All rings that a publication ever showed stand in one list, oldest first, of which the value that is
-- shown has a front. Each end, the publisher's or a reader's, has seen a beginning of it, and knows which publication it is, unless it
-- knows nothing yet.
use Rattle.std.specs.Prelude.{◌≡◌, List, ◌++◌, All, IfSome, Some}
use Rattle.hash_ring.specs.Ring.{RingValue}
use Rattle.published_rings.specs.Shown.{Publication, ShownValue, all_of, publication_of}
use Rattle.published_rings.specs.declared.rule.Known.{Known}

-- the first list is how the second one begins
abbrev pub Begins : List RingValue → List RingValue → Type 0
Begins seen all = (rest : List RingValue) × (all ≡ seen ++ rest)

-- an end of the publication that shows this
pub record IsEnd (shown : ShownValue) (known : Known) : Type 0 where
  pub named : IfSome known.of (λ its. its ≡ publication_of shown)
  pub begins : Begins known.seen (all_of shown.edition)

-- the rule, of what is shown and of what each end knows
abbrev pub Keeps : ShownValue → List Known → Type 0
Keeps shown ends = All (IsEnd shown) ends

-- who knew which publication it is of is of that one
abbrev pub StaysOf : Known → Known → Type 0
StaysOf known now = (of : Publication) → known.of ≡ Some of → now.of ≡ Some of

-- a look: an end has then seen all rings up to the one that it is shown
pub record Looks (known : Known) (shown after_it : ShownValue) (now : Known) : Type 0 where
  pub of : now.of ≡ Some (publication_of shown)
  pub all : now.seen ≡ all_of shown.edition
  pub begins : Begins known.seen now.seen
  pub stays : StaysOf known now

-- the first ring is shown as it is: the publisher knows which publication it is
abbrev pub Opens : Known → ShownValue → ShownValue → Known → Type 0
Opens known shown next now = now ≡ record known { of = Some (publication_of shown) }

-- a publication tells its publisher nothing
abbrev pub Adds : Known → ShownValue → ShownValue → Known → Type 0
Adds known shown next now = now ≡ known

-- Texts written piece by piece, and the objects and lists that they make.
use Rattle.std.proofs.Common.{◌≡◌, ℕ, ◌+◌, ◌<◌, List, [], ◌∷◌, ◌++◌, length, take, get_or, map, refl, sym, ◌∙◌, ap, append_assoc, append-nil, arith}
use Rattle.std.specs.List.{join_with_byte}
use Rattle.std.proofs.lemmas.List.{map_more, length-map, length-take-le}
use Rattle.dump_rules.specs.Dump.{comma}

-- one piece more
pub then_more : (before between after one other : List ℕ) → between ≡ before ++ one → after ≡ between ++ other
    → after ≡ before ++ (one ++ other)
then_more before between after one other first then = then ∙ (ap (λ t. t ++ other) first ∙ append_assoc before one other)

-- one text more behind some that are joined
pub join-more : (text : List ℕ) (texts : List (List ℕ)) (last : List ℕ)
    → join_with_byte comma (text ∷ (texts ++ last ∷ [])) ≡ join_with_byte comma (text ∷ texts) ++ comma ∷ last
join-more text [] last = refl
join-more text (next ∷ texts) last =
    ap (λ t. text ++ comma ∷ t) (join-more next texts last)
    ∙ sym (append_assoc text (comma ∷ join_with_byte comma (next ∷ texts)) (comma ∷ last))

-- a list or an object on its way, with a text more
pub member_more : (mark : ℕ) (before between after text : List ℕ) (texts : List (List ℕ)) (last : List ℕ)
    → between ≡ before ++ mark ∷ join_with_byte comma (text ∷ texts) → after ≡ between ++ comma ∷ last
    → after ≡ before ++ mark ∷ join_with_byte comma (text ∷ (texts ++ last ∷ []))
member_more mark before between after text texts last first then =
    then_more before between after (mark ∷ join_with_byte comma (text ∷ texts)) (comma ∷ last) first then
    ∙ ap (λ t. before ++ mark ∷ t) (sym (join-more text texts last))

-- the items of a list so far
pub item_more : (before between after : List ℕ) (texts : List (List ℕ)) (index : ℕ) (last : List ℕ)
    → length texts ≡ index → between ≡ before ++ join_with_byte comma texts
    → (index ≡ 0 → after ≡ between ++ last) → (0 < index → after ≡ between ++ comma ∷ last)
    → after ≡ before ++ join_with_byte comma (texts ++ last ∷ [])
item_more before between after [] index last is so_far first later = first (sym is) ∙ ap (λ t. t ++ last) (so_far ∙ append-nil before)
item_more before between after (text ∷ texts) index last is so_far first later =
    let some : 0 < index = omega (arith, is) in
    then_more before between after (join_with_byte comma (text ∷ texts)) (comma ∷ last) so_far (later some)
    ∙ ap (λ t. before ++ t) (sym (join-more text texts last))

-- objects of three, four and five members
abbrev opened : List ℕ → List ℕ → List ℕ → Type 0
opened before after member = after ≡ before ++ 123 ∷ member

abbrev continued : List ℕ → List ℕ → List ℕ → Type 0
continued before after member = after ≡ before ++ comma ∷ member

abbrev closed : List ℕ → List ℕ → Type 0
closed before after = after ≡ before ++ 125 ∷ []

closes : (before between after : List ℕ) (texts : List (List ℕ))
    → between ≡ before ++ 123 ∷ join_with_byte comma texts → closed between after
    → after ≡ before ++ 123 ∷ (join_with_byte comma texts ++ 125 ∷ [])
closes before between after texts first then = then_more before between after (123 ∷ join_with_byte comma texts) (125 ∷ []) first then

pub three_members : (start one two three end : List ℕ) (first second third : List ℕ)
    → opened start one first → continued one two second → continued two three third → closed three end
    → end ≡ start ++ 123 ∷ (join_with_byte comma (first ∷ second ∷ third ∷ []) ++ 125 ∷ [])
three_members start one two three end first second third a b c d =
    closes start three end (first ∷ second ∷ third ∷ [])
    (member_more 123 start two three first (second ∷ []) third (member_more 123 start one two first [] second a b) c) d

pub four_members : (start one two three four end : List ℕ) (first second third fourth : List ℕ)
    → opened start one first → continued one two second → continued two three third → continued three four fourth → closed four end
    → end ≡ start ++ 123 ∷ (join_with_byte comma (first ∷ second ∷ third ∷ fourth ∷ []) ++ 125 ∷ [])
four_members start one two three four end first second third fourth a b c d e =
    closes start four end (first ∷ second ∷ third ∷ fourth ∷ [])
    (member_more 123 start three four first (second ∷ third ∷ []) fourth
    (member_more 123 start two three first (second ∷ []) third (member_more 123 start one two first [] second a b) c) d) e

pub five_members : (start one two three four five end : List ℕ) (first second third fourth fifth : List ℕ)
    → opened start one first → continued one two second → continued two three third → continued three four fourth
    → continued four five fifth
    → closed five end
    → end ≡ start ++ 123 ∷ (join_with_byte comma (first ∷ second ∷ third ∷ fourth ∷ fifth ∷ []) ++ 125 ∷ [])
five_members start one two three four five end first second third fourth fifth a b c d e f =
    closes start five end (first ∷ second ∷ third ∷ fourth ∷ fifth ∷ [])
    (member_more 123 start four five first (second ∷ third ∷ fourth ∷ []) fifth
    (member_more 123 start three four first (second ∷ third ∷ []) fourth
    (member_more 123 start two three first (second ∷ []) third (member_more 123 start one two first [] second a b) c) d) e) f

-- the items of a list of which one more is written
pub items_more : {X : Type 0} (text : X → List ℕ) (items : List X) (index : ℕ) (item : X) (before between after : List ℕ)
    → index < length items → get_or items index item ≡ item
    → between ≡ before ++ join_with_byte comma (map text (take index items))
    → (index ≡ 0 → after ≡ between ++ text item) → (0 < index → after ≡ between ++ comma ∷ text item)
    → after ≡ before ++ join_with_byte comma (map text (take (index + 1) items))
items_more text items index item before between after within here so_far first later =
    item_more before between after (map text (take index items)) index (text item)
    (length-map (take index items) text ∙ length-take-le index items (omega arith)) so_far first later
    ∙ ap (λ t. before ++ join_with_byte comma t)
    (ap (λ x. map text (take index items) ++ text x ∷ []) (sym here) ∙ sym (map_more text items index item within))

-- JSON values of visible texts and whole numbers: what is written for one is read again as it.
use Rattle.std.proofs.Common.{arith, ◌≡◌, ℕ, zero, suc, ◌<◌, ◌≤◌, ◌^◌, List, [], ◌∷◌, ◌++◌, refl, sym, ap, ◌∙◌, append-nil}
use Rattle.std.specs.Prelude.{⊤, ◌&&◌, Bool, true, false, cond, Some, None, option_map, option_and_then}
use Rattle.std.specs.Ordering.{nat_cmp, match_ordering, is_gt}
use Rattle.std.specs.Cmp.Lexicographic.{slice_cmp}
use Rattle.std.specs.declared.cmp.Ordering.{Ordering}
use Rattle.std.specs.declared.cmp.Ordering.TheVariants.{Less, Equal, Greater}
use Rattle.std.proofs.lemmas.List.Elements.{All-nil, All-cons, All-append}
use Rattle.texts.proofs.Decided.{both}
use Rattle.json.specs.Json as json
use Rattle.json.specs.Lex.{tokens}
use Rattle.json.specs.Print as print
use Rattle.json.specs.Tree as tree
use Rattle.json.proofs.Printed.Decimals.{IsNumber-decimal}
use Rattle.json.proofs.Printed.Tokens.{tokens-print}
use Rattle.json.proofs.Printed.Trees.{value-json_tokens, ArePrintable-json_tokens}
use Rattle.serde_json.specs.Data.{unsigned, negative, float, Data, null, boolean, number, string, array, object, Items, no_items, item, Members, no_members, member, put}
use Rattle.serde_json.specs.Read.{of_json, of_items, of_members, max_depth, read}
use Rattle.serde_json.specs.Written.{outline, items_outline, members_outline, compact_text, items_text, members_text, comma_if}
use Rattle.serde_json.proofs.Numbers.{number_of-decimal}
use Rattle.serde_json.proofs.Texts.{print-outline}
use Rattle.silo_address.specs.Grain.{IsVisible}
use Rattle.dump_rules.specs.Judged.{value_in}
use Rattle.dump_headline.proofs.Visible.{AreVisible, visible_utf8, decimal_visible, quoted_visible}

-- ---- members, one after another
-- the name comes after all of those
abbrev pub is_after : List ℕ → Members → Bool
is_after name no_members = true
is_after name (member other d ms) = is_gt (slice_cmp nat_cmp name other) && is_after name ms

-- with one more at the end
abbrev pub push : List ℕ → Data → Members → Members
push name d no_members = member name d no_members
push name d (member other e ms) = member other e (push name d ms)

abbrev join : Members → Members → Members
join no_members later = later
join (member name d ms) later = member name d (join ms later)

greater : (r : Ordering) → is_gt r ≡ true → r ≡ Greater
greater Less is = absurd (cc (is))
greater Equal is = absurd (cc (is))
greater Greater is = refl

put_last : (name : List ℕ) (d : Data) (before : Members) → is_after name before ≡ true → put name d before ≡ push name d before
put_last name d no_members after = refl
put_last name d (member other e ms) after =
    let parts = both (is_gt (slice_cmp nat_cmp name other)) (is_after name ms) after in
    ap (λ r. match_ordering r (member name d (member other e ms)) (member other d ms) (member other e (put name d ms)))
    (greater (slice_cmp nat_cmp name other) parts.0)
    ∙ ap (λ later. member other e later) (put_last name d ms parts.1)

join_push : (name : List ℕ) (d : Data) (before later : Members) → join (push name d before) later ≡ join before (member name d later)
join_push name d no_members later = refl
join_push name d (member other e ms) later = ap (λ rest. member other e rest) (join_push name d ms later)

join_nothing : (before : Members) → before ≡ join before no_members
join_nothing no_members = refl
join_nothing (member name d ms) = ap (λ rest. member name d rest) (join_nothing ms)

-- ---- such values
abbrev mutual
  -- of visible texts and whole numbers, nested at most so deep, the members of each object in the order of their names
  pub IsPlain : Data → ℕ → Type 0
  IsPlain null depth = ⊥
  IsPlain (boolean b) depth = ⊥
  IsPlain (number (unsigned n)) depth = n < 2 ^ 64
  IsPlain (number (negative z)) depth = ⊥
  IsPlain (number (float x)) depth = ⊥
  IsPlain (string text) depth = AreVisible text
  IsPlain (array ds) zero = ⊥
  IsPlain (array ds) (suc depth) = ArePlain ds depth
  IsPlain (object ms) zero = ⊥
  IsPlain (object ms) (suc depth) = HasPlain no_members ms depth

  pub ArePlain : Items → ℕ → Type 0
  ArePlain no_items depth = ⊤
  ArePlain (item d ds) depth = IsPlain d depth × ArePlain ds depth

  -- after those members
  pub HasPlain : Members → Members → ℕ → Type 0
  HasPlain before no_members depth = ⊤
  HasPlain before (member name d ms) depth =
      AreVisible name × (is_after name before ≡ true) × IsPlain d depth × HasPlain (push name d before) ms depth

mutual
  numbers : (d : Data) (depth : ℕ) → IsPlain d depth → tree.HasNumbers (outline d)
  numbers null depth is = absurd is
  numbers (boolean b) depth is = absurd is
  numbers (number (unsigned n)) depth is = IsNumber-decimal n is
  numbers (number (negative z)) depth is = absurd is
  numbers (number (float x)) depth is = absurd is
  numbers (string text) depth is = tt
  numbers (array ds) zero is = absurd is
  numbers (array ds) (suc depth) is = item_numbers ds depth is
  numbers (object ms) zero is = absurd is
  numbers (object ms) (suc depth) is = member_numbers no_members ms depth is

  item_numbers : (ds : Items) (depth : ℕ) → ArePlain ds depth → tree.ItemsHaveNumbers (items_outline ds)
  item_numbers no_items depth are = tt
  item_numbers (item d ds) depth are = (numbers d depth are.0, item_numbers ds depth are.1)

  member_numbers : (before ms : Members) (depth : ℕ) → HasPlain before ms depth → tree.MembersHaveNumbers (members_outline ms)
  member_numbers before no_members depth has = tt
  member_numbers before (member name d ms) depth has = (numbers d depth has.2, member_numbers (push name d before) ms depth has.3)

mutual
  depths : (d : Data) (depth : ℕ) → IsPlain d depth → tree.depth (outline d) ≤ depth
  depths null depth is = absurd is
  depths (boolean b) depth is = absurd is
  depths (number (unsigned n)) depth is = omega arith
  depths (number (negative z)) depth is = absurd is
  depths (number (float x)) depth is = absurd is
  depths (string text) depth is = omega arith
  depths (array ds) zero is = absurd is
  depths (array ds) (suc depth) is = let within = item_depths ds depth is in omega (arith, within)
  depths (object ms) zero is = absurd is
  depths (object ms) (suc depth) is = let within = member_depths no_members ms depth is in omega (arith, within)

  item_depths : (ds : Items) (depth : ℕ) → ArePlain ds depth → tree.items_depth (items_outline ds) ≤ depth
  item_depths no_items depth are = omega arith
  item_depths (item d ds) depth are =
      let first = depths d depth are.0 in let rest = item_depths ds depth are.1 in omega (arith, first, rest)

  member_depths : (before ms : Members) (depth : ℕ) → HasPlain before ms depth → tree.members_depth (members_outline ms) ≤ depth
  member_depths before no_members depth has = omega arith
  member_depths before (member name d ms) depth has =
      let first = depths d depth has.2 in let rest = member_depths (push name d before) ms depth has.3 in omega (arith, first, rest)

mutual
  again : (d : Data) (depth : ℕ) → IsPlain d depth → of_json (outline d) ≡ Some d
  again null depth is = absurd is
  again (boolean b) depth is = absurd is
  again (number (unsigned n)) depth is = ap (option_map number) (number_of-decimal n is)
  again (number (negative z)) depth is = absurd is
  again (number (float x)) depth is = absurd is
  again (string text) depth is = refl
  again (array ds) zero is = absurd is
  again (array ds) (suc depth) is = ap (option_map array) (items_again ds depth is)
  again (object ms) zero is = absurd is
  again (object ms) (suc depth) is = ap (option_map object) (members_again no_members ms depth is)

  items_again : (ds : Items) (depth : ℕ) → ArePlain ds depth → of_items (items_outline ds) ≡ Some ds
  items_again no_items depth are = refl
  items_again (item d ds) depth are =
      ap (λ o. option_and_then (λ x. option_map (item x) (of_items (items_outline ds))) o) (again d depth are.0)
      ∙ ap (option_map (item d)) (items_again ds depth are.1)

  members_again : (before ms : Members) (depth : ℕ) → HasPlain before ms depth
      → of_members (members_outline ms) before ≡ Some (join before ms)
  members_again before no_members depth has = ap Some (join_nothing before)
  members_again before (member name d ms) depth has =
      ap (λ o. option_and_then (λ x. of_members (members_outline ms) (put name x before)) o) (again d depth has.2)
      ∙ ap (of_members (members_outline ms)) (put_last name d before has.1)
      ∙ members_again (push name d before) ms depth has.3 ∙ ap Some (join_push name d before ms)

-- ---- their texts are visible
brackets : (byte : ℕ) → IsVisible byte → AreVisible (byte ∷ [])
brackets byte is = All-cons IsVisible byte [] is (All-nil IsVisible)

comma_visible : (later : Bool) → AreVisible (comma_if later)
comma_visible true = brackets 44 (omega arith, omega arith)
comma_visible false = All-nil IsVisible

mutual
  text_visible : (d : Data) (depth : ℕ) → IsPlain d depth → AreVisible (compact_text d)
  text_visible null depth is = absurd is
  text_visible (boolean b) depth is = absurd is
  text_visible (number (unsigned n)) depth is = decimal_visible n is
  text_visible (number (negative z)) depth is = absurd is
  text_visible (number (float x)) depth is = absurd is
  text_visible (string text) depth is = quoted_visible text is
  text_visible (array ds) zero is = absurd is
  text_visible (array ds) (suc depth) is =
      All-cons IsVisible 91 (items_text false ds) (omega arith, omega arith) (items_visible false ds depth is)
  text_visible (object ms) zero is = absurd is
  text_visible (object ms) (suc depth) is =
      All-cons IsVisible 123 (members_text false ms) (omega arith, omega arith) (members_visible false no_members ms depth is)

  items_visible : (later : Bool) (ds : Items) (depth : ℕ) → ArePlain ds depth → AreVisible (items_text later ds)
  items_visible later no_items depth are = brackets 93 (omega arith, omega arith)
  items_visible later (item d ds) depth are =
      All-append IsVisible (comma_if later) (compact_text d ++ items_text true ds) (comma_visible later)
      (All-append IsVisible (compact_text d) (items_text true ds) (text_visible d depth are.0) (items_visible true ds depth are.1))

  members_visible : (later : Bool) (before ms : Members) (depth : ℕ) → HasPlain before ms depth → AreVisible (members_text later ms)
  members_visible later before no_members depth has = brackets 125 (omega arith, omega arith)
  members_visible later before (member name d ms) depth has =
      let rest = compact_text d ++ members_text true ms in
      All-append IsVisible (comma_if later) (print.quoted name ++ 58 ∷ rest) (comma_visible later)
      (All-append IsVisible (print.quoted name) (58 ∷ rest) (quoted_visible name has.0)
      (All-cons IsVisible 58 rest (omega arith, omega arith)
      (All-append IsVisible (compact_text d) (members_text true ms) (text_visible d depth has.2)
      (members_visible true (push name d before) ms depth has.3))))

-- ---- read again
pub read_again : (d : Data) (depth : ℕ) → depth ≤ 127 → IsPlain d depth → value_in (compact_text d) ≡ Some d
read_again d depth shallow is =
    let text = compact_text d in
    let ts = tree.json_tokens (outline d) in
    let within = depths d depth is in
    let same : tokens text ≡ ts = ap tokens (sym (print-outline d)) ∙ tokens-print ts (ArePrintable-json_tokens (outline d) (numbers d depth is)) in
    ap (λ b. cond b (read text) None) (visible_utf8 text (text_visible d depth is))
    ∙ ap (λ o. option_and_then of_json (option_and_then (λ p. json.if_last p.0 p.1) o))
    (ap (json.value max_depth) (same ∙ sym (append-nil ts)) ∙ value-json_tokens (outline d) max_depth [] (omega (arith, within, shallow)))
    ∙ again d depth is

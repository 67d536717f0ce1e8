-- Counts of the silos in a view, and the place that is chosen by them.
use Rattle.std.proofs.Common.{◌≡◌, ℕ, nat_le, Bool, true, false, cond, List, [], ◌∷◌, length, Option, Some, None, IfSome, if◌then◌else◌, ap, refl, subst, sym, ◌∙◌}
use Rattle.std.specs.Prelude.{filter}
use Rattle.std.specs.BTreeMap.{insert_entry, is_at}
use Rattle.std.specs.List.{AllByRecursion}
use Rattle.std.specs.Map.{keys_of, lookup}
use Rattle.std.specs.Option.{option_map, unwrap_or}
use Rattle.std.specs.Ordering.{is_eq, match_ordering}
use Rattle.std.specs.declared.cmp.Ordering.{Ordering}
use Rattle.std.specs.declared.cmp.Ordering.TheVariants.{Less, Equal, Greater}
use Rattle.std.proofs.lemmas.Map.Made.{lookup-map_values}
use Rattle.hash_ring.specs.Hash.{hash_grain}
use Rattle.silo_address.specs.Grain.{Grain}
use Rattle.silo_address.specs.Silo.{Silo, silo_cmp}
use Rattle.silo_address.proofs.Order.{silo_cmp_exact}
use Rattle.membership_view.specs.Row.{is_active}
use Rattle.membership_view.specs.View.{ViewValue, active_silos}
use Rattle.membership_view.specs.declared.status.Status.{Status}
use Rattle.letter_mail.proofs.Queued.{itself, one_silo}
use Rattle.directory_rules.specs.Happens.{node_of}
use Rattle.directory_rules.specs.State.{Host, Node, World}
use Rattle.directory_rules.specs.Placement.{by_least, count_of, fewer_of, silo_for}
use Rattle.directory_rules.specs.declared.policy.Policy.{Policy}
use Rattle.directory_rules.specs.declared.policy.Policy.TheVariants.{PreferLocal, HashBased, LeastHeld}
use Rattle.directory_rules.proofs.Cases.{on_bool}
use Rattle.script_rules.specs.Show.{chosen_place, held_counts}
use Rattle.console_command.specs.Reports.{CountsAll, CountsAsked}

-- ---- one silo counted more
put_here : (counts : List (Silo × ℕ)) (silo : Silo) (n : ℕ) → lookup (is_at (silo_cmp silo)) (insert_entry silo_cmp counts silo n) ≡ Some n
put_here [] silo n = ap (λ b. cond b (Some n) None) (itself silo)
put_here (e ∷ es) silo n = by (silo_cmp silo e.0) refl (put_here es silo n)
  where
    by : (r : Ordering) → silo_cmp silo e.0 ≡ r → lookup (is_at (silo_cmp silo)) (insert_entry silo_cmp es silo n) ≡ Some n
        → lookup (is_at (silo_cmp silo)) (match_ordering r ((silo, n) ∷ e ∷ es) ((e.0, n) ∷ es) (e ∷ insert_entry silo_cmp es silo n))
        ≡ Some n
    by Less is rest = ap (λ b. cond b (Some n) (lookup (is_at (silo_cmp silo)) (e ∷ es))) (itself silo)
    by Equal is rest = ap (λ r. cond (is_eq r) (Some n) (lookup (is_at (silo_cmp silo)) es)) is
    by Greater is rest = ap (λ r. cond (is_eq r) (Some e.1) (lookup (is_at (silo_cmp silo)) (insert_entry silo_cmp es silo n))) is ∙ rest

put_elsewhere : (counts : List (Silo × ℕ)) (silo other : Silo) (n : ℕ) → is_at (silo_cmp other) silo ≡ false
    → lookup (is_at (silo_cmp other)) (insert_entry silo_cmp counts silo n) ≡ lookup (is_at (silo_cmp other)) counts
put_elsewhere [] silo other n apart = ap (λ b. cond b (Some n) None) apart
put_elsewhere (e ∷ es) silo other n apart = by (silo_cmp silo e.0) refl (put_elsewhere es silo other n apart)
  where
    by : (r : Ordering) → silo_cmp silo e.0 ≡ r → lookup (is_at (silo_cmp other)) (insert_entry silo_cmp es silo n) ≡ lookup
        (is_at (silo_cmp other)) es
        → lookup (is_at (silo_cmp other)) (match_ordering r ((silo, n) ∷ e ∷ es) ((e.0, n) ∷ es) (e ∷ insert_entry silo_cmp es silo n))
        ≡ lookup (is_at (silo_cmp other)) (e ∷ es)
    by Less is rest = ap (λ b. cond b (Some n) (lookup (is_at (silo_cmp other)) (e ∷ es))) apart
    by Equal is rest =
        let no : is_at (silo_cmp other) e.0 ≡ false = ap (λ s. is_at (silo_cmp other) s) (sym (silo_cmp_exact silo e.0 is)) ∙ apart in
        ap (λ b. cond b (Some n) (lookup (is_at (silo_cmp other)) es)) no
        ∙ sym (ap (λ b. cond b (Some e.1) (lookup (is_at (silo_cmp other)) es)) no)
    by Greater is rest = ap (λ found. cond (is_at (silo_cmp other) e.0) (Some e.1) found) rest

-- ---- the silos of rows counted, one after the other
abbrev pub counted : (Silo → ℕ) → List (Silo × Status) → List (Silo × ℕ) → List (Silo × ℕ)
counted held [] counts = counts
counted held (row ∷ rows) counts = counted held rows (insert_entry silo_cmp counts row.0 (held row.0))

stays_put : (held : Silo → ℕ) (counts : List (Silo × ℕ)) (silo other : Silo) → lookup (is_at (silo_cmp silo)) counts ≡ Some (held silo)
    → lookup (is_at (silo_cmp silo)) (insert_entry silo_cmp counts other (held other)) ≡ Some (held silo)
stays_put held counts silo other was =
    on_bool (λ b. lookup (is_at (silo_cmp silo)) (insert_entry silo_cmp counts other (held other)) ≡ Some (held silo))
    (is_at (silo_cmp silo) other)
    (λ t. subst (λ s. lookup (is_at (silo_cmp s)) (insert_entry silo_cmp counts other (held other)) ≡ Some (held s))
    (sym (one_silo silo other t)) (put_here counts other (held other)))
    (λ f. put_elsewhere counts other silo (held other) f ∙ was)

stays_counted : (held : Silo → ℕ) (rows : List (Silo × Status)) (counts : List (Silo × ℕ)) (silo : Silo)
    → lookup (is_at (silo_cmp silo)) counts ≡ Some (held silo)
    → lookup (is_at (silo_cmp silo)) (counted held rows counts) ≡ Some (held silo)
stays_counted held [] counts silo was = was
stays_counted held (row ∷ rows) counts silo was =
    stays_counted held rows (insert_entry silo_cmp counts row.0 (held row.0)) silo (stays_put held counts silo row.0 was)

all_counted : (held : Silo → ℕ) (rows : List (Silo × Status)) (counts : List (Silo × ℕ))
    → AllByRecursion (λ row. count_of (counted held rows counts) row.0 ≡ held row.0) rows
all_counted held [] counts = tt
all_counted held (row ∷ rows) counts = (
  ap (λ n. unwrap_or n 0) (stays_counted held rows (insert_entry silo_cmp counts row.0 (held row.0)) row.0
      (put_here counts row.0 (held row.0))),
  all_counted held rows (insert_entry silo_cmp counts row.0 (held row.0)),
)

pub counts_none : (held : Silo → ℕ) (items rows : List (Silo × Status)) (counts : List (Silo × ℕ)) → items ≡ rows → counts ≡ []
    → counted held items counts ≡ counted held rows []
counts_none held items rows counts are none = ap (λ (es : List (Silo × Status)). counted held es counts) are ∙ ap (counted held rows) none

pub counts_more : (held : Silo → ℕ) (all before after : List (Silo × ℕ)) (row : Silo × Status) (n : ℕ) (left rest : List (Silo × Status))
    → left ≡ row ∷ rest
    → after ≡ insert_entry silo_cmp before row.0 n → n ≡ held row.0 → counted held left before ≡ all → counted held rest after ≡ all
counts_more held all before after row n left rest is after_is n_is was =
    ap (counted held rest) (after_is ∙ ap (insert_entry silo_cmp before row.0) n_is)
    ∙ (ap (λ rows. counted held rows before) (sym is) ∙ was)

pub counts_all : (world : World) (view : ViewValue) (rest : List (Silo × Status)) (counts : List (Silo × ℕ)) → rest ≡ []
    → counted (count_of (held_counts world)) rest counts ≡ counted (count_of (held_counts world)) view.rows [] → CountsAll world view counts
counts_all world view rest counts none was =
    let held = count_of (held_counts world) in
    subst (λ (es : List (Silo × ℕ)). CountsAll world view es) (sym (ap (λ left. counted held left counts) (sym none) ∙ was))
    (all_counted held view.rows [])

-- a silo's count is that of what its node holds
count_of_node : (world : World) (silo : Silo) → count_of (held_counts world) silo ≡ unwrap_or
    (option_map (λ node. length node.host.held) (node_of world silo)) 0
count_of_node world silo = ap (λ n. unwrap_or n 0) (lookup-map_values (λ node. length node.host.held) (is_at (silo_cmp silo)) world.nodes)

pub counted_at : (world : World) (silo : Silo) (node : Node) (host : Host) (n : ℕ) → Some node ≡ node_of world silo → host ≡ node.host
    → n ≡ length host.held
    → n ≡ count_of (held_counts world) silo
counted_at world silo node host n is host_is n_is =
    n_is ∙ (ap (λ (h : Host). length h.held) host_is
    ∙ (ap (λ at. unwrap_or (option_map (λ (node : Node). length node.host.held) at) 0) is ∙ sym (count_of_node world silo)))

pub counted_none : (world : World) (silo : Silo) → None ≡ node_of world silo → 0 ≡ count_of (held_counts world) silo
counted_none world silo is =
    ap (λ at. unwrap_or (option_map (λ (node : Node). length node.host.held) at) 0) is ∙ sym (count_of_node world silo)

-- ---- the place chosen by counts that are alike on the silos in the view
module _ (counts held : List (Silo × ℕ)) where
  abbrev IsAlike : Silo → Type 0
  IsAlike silo = count_of counts silo ≡ count_of held silo

  fewer_alike : (silo : Silo) (other : Option Silo) → IsAlike silo → IfSome other IsAlike
      → fewer_of counts silo other ≡ fewer_of held silo other
  fewer_alike silo None same there = refl
  fewer_alike silo (Some other) same there =
      ap (λ n. if nat_le n (count_of counts other) then silo else other) same
      ∙ ap (λ n. if nat_le (count_of held silo) n then silo else other) there

  fewer_is_alike : (silo : Silo) (other : Option Silo) → IsAlike silo → IfSome other IsAlike → IsAlike (fewer_of held silo other)
  fewer_is_alike silo None same there = same
  fewer_is_alike silo (Some other) same there = by (nat_le (count_of held silo) (count_of held other))
    where
      by : (b : Bool) → IsAlike (if b then silo else other)
      by true = same
      by false = there

  least_alike : (silos : List Silo) → AllByRecursion IsAlike silos
      → (by_least counts silos ≡ by_least held silos) × IfSome (by_least held silos) IsAlike
  least_alike [] same = (refl, tt)
  least_alike (silo ∷ silos) same =
      let rest = least_alike silos same.1 in (
        ap (λ other. Some (fewer_of counts silo other)) rest.0 ∙ ap Some (fewer_alike silo (by_least held silos) same.0 rest.1),
        fewer_is_alike silo (by_least held silos) same.0 rest.1,
      )

  active_alike : (rows : List (Silo × Status)) → AllByRecursion (λ row. IsAlike row.0) rows
      → AllByRecursion IsAlike (keys_of (filter (λ row. is_active row.1) rows))
  active_alike [] same = tt
  active_alike (row ∷ rows) same = by (is_active row.1) (active_alike rows same.1)
    where
      by : (b : Bool) → AllByRecursion IsAlike (keys_of (filter (λ row. is_active row.1) rows))
          → AllByRecursion IsAlike (keys_of (cond b (row ∷ filter (λ row. is_active row.1) rows) (filter (λ row. is_active row.1) rows)))
      by true rest = (same.0, rest)
      by false rest = rest

chosen_by_asked : (policy : Policy) (world : World) (view : ViewValue) (local : Silo) (hash : ℕ) (counts : List (Silo × ℕ))
    → CountsAsked policy world view counts
    → silo_for policy view local hash counts ≡ silo_for policy view local hash (held_counts world)
chosen_by_asked PreferLocal world view local hash counts asked = refl
chosen_by_asked HashBased world view local hash counts asked = refl
chosen_by_asked LeastHeld world view local hash counts all =
    (least_alike counts (held_counts world) (active_silos view) (active_alike counts (held_counts world) view.rows all)).0

pub place_chosen : (world : World) (policy : Policy) (node : Node) (grain : Grain) (seen view : ViewValue) (local : Silo) (hash : ℕ)
    (counts : List (Silo × ℕ)) (chosen : Option Silo)
    → seen ≡ node.view → CountsAsked policy world seen counts → view ≡ node.view → local ≡ node.host.silo
    → hash ≡ hash_grain world.settings.hashing grain
    → chosen ≡ silo_for policy view local hash counts → chosen ≡ chosen_place world policy node grain
place_chosen world policy node grain seen view local hash counts chosen seen_is asked view_is local_is hash_is is =
    is ∙ (ap (λ (v : ViewValue). silo_for policy v local hash counts) view_is
    ∙ (ap (λ (s : Silo). silo_for policy node.view s hash counts) local_is
    ∙ (ap (λ (h : ℕ). silo_for policy node.view node.host.silo h counts) hash_is
    ∙ chosen_by_asked policy world node.view node.host.silo (hash_grain world.settings.hashing grain) counts
    (subst (λ (v : ViewValue). CountsAsked policy world v counts) seen_is asked))))

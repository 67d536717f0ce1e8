-- Marks stay of the nodes that silos have.
use Rattle.std.proofs.Common.{◌≡◌, refl, sym, ap, subst, ◌∙◌, List, inl, inr, Bor}
use Rattle.std.specs.Prelude.{◌⊎◌, Bool, true, false, cond, IfSome, OnErr, OnOk, Option, Some, None, Result, Ok, Err}
use Rattle.std.specs.Option.{option_copied}
use Rattle.std.specs.BTreeMap.{is_at}
use Rattle.texts.proofs.Orderings.{Equal-from}
use Rattle.silo_address.specs.Silo.{Silo, silo_cmp}
use Rattle.silo_address.proofs.Order.{silo_cmp_exact}
use Rattle.directory_rules.specs.Event.{Event}
use Rattle.directory_rules.specs.declared.outcome.Outcome.{Outcome}
use Rattle.directory_rules.specs.State.{Node, World}
use Rattle.directory_rules.specs.Happens.{happens, node_of}
use Rattle.cluster_board.specs.Changed.{MayChange}
use Rattle.cluster_board.specs.Marked.{AreLeft, AreMarks, AreMore, marked_at}
use Rattle.cluster_board.proofs.Unchanged.{Stays, happened}

if_some : {X : Type 0} (o : Option X) (P : X → Type 0) → ((x : X) → o ≡ Some x → P x) → IfSome o P
if_some None P so = tt
if_some (Some x) P so = so x refl

at_some : {X : Type 0} (o : Option X) (P : X → Type 0) (x : X) → IfSome o P → o ≡ Some x → P x
at_some None P x holds is = absurd (cc (is))
at_some (Some y) P x holds is = let same : y ≡ x = cc (is) in subst P same holds

no_some : {X : Type 0} (o : Option X) (x : X) → o ≡ None → o ≡ Some x → ⊥
no_some None x none some = cc (some)
no_some (Some y) x none some = cc (none)

-- ---- what a map finds after a call
pub by_result : {A E P Q G : Type 0} (r : Result A E) → OnOk r P → OnErr r Q → (P → G) → (Q → G) → G
by_result (Ok a) p q ok err = ok p
by_result (Err e) p q ok err = err q

-- a key or nothing was taken out
pub left_of : (b : Bool) (o n : Option Node) → n ≡ cond b None o → IfSome n (λ node. o ≡ Some node)
left_of true o n is = subst (λ (x : Option Node). IfSome x (λ node. o ≡ Some node)) (sym is) tt
left_of false o n is = if_some n (λ node. o ≡ Some node) (λ node there. sym is ∙ there)

same_silo : (silo other : Silo) → is_at (silo_cmp silo) other ≡ true → other ≡ silo
same_silo silo other at = sym (silo_cmp_exact silo other (Equal-from (silo_cmp silo other) at))

-- a mark was put in
pub put_of : (silo : Silo) (its : Node) (other : Silo) (o n : Option Node) → n ≡ cond (is_at (silo_cmp silo) other) (Some its) o
    → IfSome n (λ node. (o ≡ Some node) ⊎ ((other ≡ silo) × (node ≡ its)))
put_of silo its other o n is = by (is_at (silo_cmp silo) other) refl is
  where
    by : (b : Bool) → is_at (silo_cmp silo) other ≡ b → n ≡ cond b (Some its) o
        → IfSome n (λ node. (o ≡ Some node) ⊎ ((other ≡ silo) × (node ≡ its)))
    by true at is = if_some n (λ node. (o ≡ Some node) ⊎ ((other ≡ silo) × (node ≡ its)))
        (λ node there. let now : Some its ≡ Some node = sym is ∙ there in let same : node ≡ its = cc (now) in
        inr (same_silo silo other at, same))
    by false at is = if_some n (λ node. (o ≡ Some node) ⊎ ((other ≡ silo) × (node ≡ its))) (λ node there. inl (sym is ∙ there))

-- nothing was
pub kept_of : (silo : Silo) (its : Node) (other : Silo) (o n : Option Node) → n ≡ o
    → IfSome n (λ node. (o ≡ Some node) ⊎ ((other ≡ silo) × (node ≡ its)))
kept_of silo its other o n is = if_some n (λ node. (o ≡ Some node) ⊎ ((other ≡ silo) × (node ≡ its))) (λ node there. inl (sym is ∙ there))

-- a mark that is found is of the silo's node
pub found_mark : (world : World) (marks : List (Silo × Node)) (silo : Silo) (found : Option (Bor Node)) → AreMarks world marks
    → option_copied found ≡ marked_at marks silo → IfSome found (λ mark. node_of world silo ≡ Some mark.now)
found_mark world marks silo None are is = tt
found_mark world marks silo (Some mark) are is =
    at_some (marked_at marks silo) (λ node. node_of world silo ≡ Some node) mark.now (are silo) (sym is)

-- ---- the marks of a board
-- fewer marks of the same world
pub fewer : (world : World) (before marks : List (Silo × Node)) → AreMarks world before → AreLeft before marks → AreMarks world marks
fewer world before marks are left = λ silo. if_some (marked_at marks silo) (λ node. node_of world silo ≡ Some node)
    (λ node is. at_some (marked_at before silo) (λ node. node_of world silo ≡ Some node) node (are silo)
    (at_some (marked_at marks silo) (λ node. marked_at before silo ≡ Some node) node (left silo) is))

-- after an event, once the marks are gone of the nodes that it may change
pub after_event : (world after : World) (event : Event) (outcome : Outcome) (before marks : List (Silo × Node)) → AreMarks world before
    → AreLeft before marks
    → ((silo : Silo) → MayChange world event silo → marked_at marks silo ≡ None)
    → happens world event ≡ Ok (record { outcome = outcome; world = after })
    → AreMarks after marks
after_event world after event outcome before marks are left gone is =
    λ silo. if_some (marked_at marks silo) (λ node. node_of after silo ≡ Some node)
    (λ node there.
    let stays : Stays world silo (Ok (record { outcome = outcome; world = after })) =
    subst (Stays world silo) is (happened world event silo (λ may. no_some (marked_at marks silo) node (gone silo may) there)) in
    stays ∙ at_some (marked_at marks silo) (λ node. node_of world silo ≡ Some node) node (fewer world before marks are left silo) there)

-- with a mark more
pub more : (world : World) (silo : Silo) (node : Node) (before marks : List (Silo × Node)) → AreMarks world before
    → node_of world silo ≡ Some node → AreMore silo node before marks → AreMarks world marks
more world silo node before marks are live adds = λ other. if_some (marked_at marks other) (λ its. node_of world other ≡ Some its)
    (λ its there. by other its (at_some (marked_at marks other)
    (λ its. (marked_at before other ≡ Some its) ⊎ ((other ≡ silo) × (its ≡ node))) its (adds other) there))
  where
    by : (other : Silo) (its : Node) → (marked_at before other ≡ Some its) ⊎ ((other ≡ silo) × (its ≡ node))
        → node_of world other ≡ Some its
    by other its (inl old) = at_some (marked_at before other) (λ its. node_of world other ≡ Some its) its (are other) old
    by other its (inr new) = ap (λ (s : Silo). node_of world s) new.0 ∙ live ∙ ap (λ (n : Node). Some n) (sym new.1)

-- `grain_directory_close` meets its contract: a walk of its MIR, by hand.
use Rattle.std.proofs.Common.{◌≡◌, T, ℕ, List, [], ◌∷◌, sym, refl, ap, subst}
use mir.Syntax.{impl, tcons, tnil, dnil}
use mir.Val.{Val, vunit, vptr, vstruct, vcons, vnil, has_ty, WT}
use base.Fraction.{full_share}
use base.Logic.{id⊢, emp}
use base.Fml.{ftrue, fex, flft, flent}
use prog.Wp.{WpFn}
use types.Kit.{‵, raw, ◌⊛◌, some, later, prop, at_ret, ◌$◌, ◌∵◌, !, qed, done, move, keep, drop, split, join, fsplit, fjoin, fpick, feq_l, feq_i, pick, use0, use1, use2, await, rewrite, regoal, suffices, group}
use types.Tokens.{lft_new, lft_end, lent_back}
use types.Run.{enter, of_opd, unit_lit, no_more, and_then, first, blocks, exec, returns}
use types.ByLocal.{alloc_all, pass_all, free_all, look_at, get, sets, lands_as, lands_last, is, env}
use contract.Monad.{fact, fact_i}
use contract.BorrowLft.{◌⊑◌}
use contract.Running.{tables}
use contract.Lifetimes.{Lfts}
use denote.Exit.{yes, no}
use denote.Struct.Laws.{tells}
use mir.Raw.{raw as bare}
use denote.Param.{arg, layout}
use denote.Param.Laws.{arg_laws}
use denote.Param.NoDrop.{glues}
use denote.RawPtr.{Ptr, RawPtr, block_ptr, block_of, count_of, at_block, ptr_val, rawptr_vals, rawptr_Tells}
use denote.Signature.{plain}
use denote.Steps.{nothing, only}
use denote.Triple.Call.{calls_at, calls_at_last}
use denote.Triple.Clauses.{Lasts, lasts, ensured}
use denote.Builtin.{unit}
use denote.Triple.Spec.{triple_of}
use denote.Triple.Walked.{Stays, walk_of, stay_dropped, Goes-dropped, ends_at}
use denote.Triple.Table.{framed}
use Rattle.std.proofs.raw_atomic.Walks.{proved}
use Rattle.std.specs.Ptr.{points_to}
use Rattle.std.specs.contracts.alloc.Global as heap
use Rattle.std.proofs.alloc.Global.TheLaws as heap_laws
use Rattle.std.specs.contracts.impls.GlobalAllocator.TheImpl.{ghosts, dict}
use Rattle.std.proofs.impls.GlobalAllocator.TheImpl.Met.{passed}
use Rattle.std.proofs.BoxSteps.Form as box
use Rattle.std.proofs.BoxSteps.Steps.{box_out, box_in}
use Rattle.std.specs.contracts.boxed.Box.from_raw as g
use Rattle.std.proofs.boxed.Box.from_raw.Met as g_met
use Rattle.silo_library.specs.contracts.open_silo.OpenSilo.{the_row as R}
use Rattle.silo_library.proofs.open_silo.OpenSilo.TheLaws.{the_row_laws, the_within}
use Rattle.silo_library.specs.Handle.{lent_for, right_to_free}
use Rattle.silo_library.specs.contracts.open_silo.close as h
use Rattle.silo_library.proofs.open_silo.close.Met as h_met
use Rattle.silo_library.specs.contracts.grain_directory_close as f
use Rattle.silo_library.proofs.grain_directory_close.Statement.{statement}
use Rattle.silo_library.proofs.grain_directory_close.Code as code

abbrev stayed : Stays f.ended.signature.params f.ended.kept
stayed = (stay_dropped (plain (λ _. heap.the_row)) yes, (stay_dropped (plain (λ _. RawPtr)) yes, tt))

abbrev heap_val : Val
heap_val = vstruct (vcons (vstruct (vcons vunit vnil)) vnil)

pub grain_directory_close_spec : {M : Type 1} → statement M
unfolding Rattle.silo_library.proofs.Destruct++none.drop.Code.code
grain_directory_close_spec {M} 𝓤 𝓛 𝓜 𝓡 wired =
    let c = f.clauses 𝓛 𝓜.mem 𝓡.returns in let W = walk_of 𝓛 f.ended stayed c in let 𝓣 = tables 𝓤 𝓛.H 𝓜 𝓡 𝓡.env in
    let Z = arg (bare (layout heap.the_row)) no heap.the_row in
    let LZ = arg_laws (bare (layout heap.the_row)) no heap.the_row heap_laws.the_row_laws refl in
    let X = arg (bare (layout R)) no R in let LX = arg_laws (bare (layout R)) no R the_row_laws refl in
    let dd = impl ("silo_library::Destruct++none::drop" ∷ []) (tcons (layout Z) tnil) dnil in
    let E : box.Bx = record { row = X; laws = LX; al = record { row = Z; laws = LZ; g = ghosts; d = dict; drops = dd } } in
    let B = box.B E in
    let G = triple_of 𝓛 (g.signature X Z ghosts dict dd) (g.spec X Z ghosts dict dd 𝓛 𝓜.mem 𝓡.returns) in
    let known = g_met.met 𝓤 𝓛 𝓜 𝓡 (code.calls-std_alloc::boxed::Box::from_raw 𝓡.env wired) X Z LX LZ ghosts dict dd
    (passed 𝓡.env (code.calls-std_heap::GlobalAllocator::allocate 𝓡.env wired)
    (code.calls-std_heap::GlobalAllocator::deallocate 𝓡.env wired) (code.calls-std_heap::GlobalAllocator::grow 𝓡.env wired)
    (code.calls-std_heap::GlobalAllocator::shrink 𝓡.env wired) M 𝓤 𝓛 𝓜 𝓡)
    (glues "silo_library::Destruct++none::drop" 𝓡.env (code.calls-silo_library::Destruct++none::drop 𝓡.env wired) Z LZ M 𝓤 𝓛 𝓜 𝓡) in
    let N = triple_of 𝓛 h.signature (h.spec 𝓛 𝓜.mem 𝓡.returns) in
    proved 𝓛 f.ended stayed c 𝓜 𝓡 (
      Goes-dropped 𝓛 0 (plain (λ _. heap.the_row)) yes (λ κs x w. refl),
      (Goes-dropped 𝓛 0 (plain (λ _. RawPtr)) yes (λ κs x w. refl), tt),
    )
    f.Key.name code.function (code.unfolded 𝓤 𝓛.H 𝓜 𝓡 wired)
    (λ κs. ((λ _. heap_val ∷ []), (rawptr_vals, tt))) (λ κs. (tells heap.the_type heap_laws.the_laws, (rawptr_Tells, tt)))
    (λ κs qs bounds a v are.
    let p = a.1.0 in
    let y : Ptr → W.Ghost = λ π. ((κs, qs, bounds, (a.0, (π, tt)), (heap_val ∷ [], (rawptr_vals π, tt))), v) in
    qed 𝓛 ((‵ ftrue ⊛ ‵ (heap.the_row.own_val a.0 (heap_val ∷ [])) ⊛ ‵ (RawPtr.own_val p (rawptr_vals p)) ⊛ ‵ ftrue) ∷ ‵
    (fex ℕ (λ α. lent_for α p v)) ∷ []) ∵
    move ! (1 ∷ 0 ∷ []) $ fpick ! (λ α. fsplit ! $ move ! (1 ∷ []) $ fsplit ! $ move ! (1 ∷ []) $ fsplit ! $ move ! (1 ∷ []) $ fpick !
    (λ inside. drop ! $
    -- [the right to free; what is lent; the token of α; ..]
    let b = block_of p in let o = count_of p in let e = at_block p inside in
    rewrite ! 0 (λ (π : Ptr). ‵ (right_to_free π)) e refl $ rewrite ! 1 (λ (π : Ptr). ‵ (flent (α ∷ []) (points_to R π v))) e refl $
    regoal ! (λ π. prop (WpFn 𝓤 𝓛.H 𝓣.C 𝓣.Λ code.function (heap_val ∷ ptr_val π ∷ []) (W.post (y π)))) e refl $
    move ! (3 ∷ []) $ split ! $ drop ! $ split ! $ keep ! (0 ∷ 2 ∷ 3 ∷ 4 ∷ []) $
    -- [the handle of the heap; the right to free; what is lent; the token of α]
    enter ! _ _ _ _ _ $ alloc_all ! (λ l. pass_all ! refl ((tt, ((tt, tt), tt)), ((tt, tt), tt)) $
    let Ev = env code.Mir.locals l in
    move ! (3 ∷ []) $ lft_end ! tt $ move ! (0 ∷ 3 ∷ []) $ lent_back ! tt $
    -- [the silo; the handle of the heap; the right to free]
    first ! $ blocks ! $ sets ! (of_opd ! (get ! refl)) refl (tt, ((tt, tt), tt)) $ sets ! (of_opd ! (get ! refl)) refl (tt, tt) $ sets !
    (of_opd ! (get ! refl)) refl (tt, tt) $
    lft_new ! tt (λ β. lft_new ! tt (λ δ.
    let κs' : Lfts 2 = (β ∷ [], (δ ∷ [], tt)) in
    let yb : G.Ghost = ((κs', (full_share, (full_share, tt)), tt, (a.0, (block_ptr b o, tt)), (heap_val ∷ [], (vptr b o ∷ [], tt))), v) in
    move ! (2 ∷ 4 ∷ []) $ fjoin ! $ use0 𝓛 (raw (fact 𝓤 ((δ ∷ []) ⊑ Z.lives))) (fact_i 𝓤 _ (emp 𝓤) (heap_laws.the_within (δ ∷ []))) $ join !
    $
    use0 𝓛 (raw (fact 𝓤 ((β ∷ []) ⊑ X.lives))) (fact_i 𝓤 _ (emp 𝓤) (the_within (β ∷ []))) $ join ! $
    nothing ! $ feq_i ! (List Val) (vptr b o ∷ []) (vptr b o ∷ []) refl $ fjoin ! $ move ! (4 ∷ 0 ∷ []) $ fjoin ! $
    nothing ! $ move ! (3 ∷ 0 ∷ []) $ join ! $ move ! (3 ∷ 0 ∷ []) $ join ! $ join ! $ use2 𝓛 (raw (G.pre yb)) (id⊢ 𝓤 _) $
    calls_at_last ! (framed 𝓤 𝓛.H 𝓜 𝓣) G known yb (and_then ! (get ! refl) (and_then ! (get ! refl) (no_more !))) (λ u.
    use1 𝓛 (later (some (λ (r : B.Denot). ((‵ (flft (β ∷ []) full_share) ⊛ ‵ (flft (δ ∷ []) full_share) ⊛ ‵ ftrue) ⊛ ‵
    (B.own_val r (u ∷ []))) ⊛
    some (λ (ws : Lasts (g.ended X Z ghosts dict dd) κs' yb.0.3). ‵ (lasts (g.ended X Z ghosts dict dd) κs' yb.0.3 ws) ⊛
    (raw (fact 𝓤 (r.value ≡ v)) ⊛ raw (fact 𝓤 (r.alloc ≡ a.0))))))) (id⊢ 𝓤 _) $
    await ! tt $ pick ! (λ r. split ! $ split ! $ drop ! $
    box_out E ! r (u ∷ []) (λ b' o' hv e' us fa. box_in E ! r b' o' r.value e' refl $
    let w = box.word E hv b' o' in let typed = box.box_typed E hv b' o' fa in let is_word : u ≡ w = ap only us in
    lands_last ! refl (subst (λ (m : Val). T (has_ty (box.box_ty E) m) × WT m) (sym is_word) typed) $ exec ! 𝓣.C 𝓣.Λ Ev code.Mir.t-2
    (at_ret Ev (W.post (y (block_ptr b o)))) $
    sets ! (is ! (of_opd ! (get ! refl)) is_word) refl typed $
    -- open_silo::close(..)
    let zn : N.Ghost = ((tt, tt, tt, (r, tt), (w ∷ [], tt)), tt) in
    nothing ! $ move ! (1 ∷ 0 ∷ []) $ join ! $ nothing ! $ join ! $ nothing ! $ move ! (1 ∷ 0 ∷ []) $ use2 𝓛 (raw (N.pre zn)) (id⊢ 𝓤 _) $
    calls_at ! (framed 𝓤 𝓛.H 𝓜 𝓣) N (h_met.met 𝓤 𝓛 𝓜 𝓡 (code.calls-silo_library::open_silo::close 𝓡.env wired)) zn
    (and_then ! (get ! refl) (no_more !)) (λ m.
    use1 𝓛 (later (some (λ (r' : Unit {0}). (‵ ftrue ⊛ ‵ (unit.own_val r' (m ∷ []))) ⊛ raw
    (ensured 𝓛 h.ended (h.clauses 𝓛 𝓜.mem 𝓡.returns) tt zn.0.3 tt r')))) (id⊢ 𝓤 _) $
    await ! tt $ pick ! (λ r'. split ! $ split ! $ drop ! $ feq_l ! (λ is_unit. lands_as ! (ap only is_unit) refl (tt, tt) $
    sets ! (of_opd ! (unit_lit !)) refl (tt, tt) $
    returns ! (look_at ! 0 refl) $ free_all ! refl $
    suffices ! _ (ends_at 𝓛 f.ended stayed c (y (block_ptr b o)) vunit tt (tt, (tt, tt)) (tt, (tt, tt))) $
    feq_i ! (List Val) (vunit ∷ []) _ refl $ nothing ! $ nothing ! $ join ! $ nothing ! $ join ! $ nothing ! $ keep ! (0 ∷ 1 ∷ 2 ∷ []) $
    group ! 3 $ nothing ! $ move ! (1 ∷ 0 ∷ []) $ done !))))))))))))

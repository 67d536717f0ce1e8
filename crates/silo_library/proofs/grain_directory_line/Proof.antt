-- `grain_directory_line` meets its contract: a walk of its MIR, by hand.
use Rattle.std.proofs.Common.{◌≡◌, ℕ, ◌^◌, ◌<◌, List, [], ◌∷◌, ◌++◌, length, refl, ap, w32, w64}
use mir.Syntax.{named}
use mir.Val.{Val, vint, vptr}
use base.Fraction.{full_share}
use base.Logic.{id⊢}
use base.Fml.{ftrue, fsep, fex, flft, flent, Incl-refl}
use prog.Wp.{WpFn}
use types.Kit.{‵, raw, ◌⊛◌, some, later, prop, at_ret, ◌$◌, ◌∵◌, !, qed, done, move, keep, drop, split, split3, join, fsplit, fsplit3, fjoin, fpick, fpack, feq_i, pick, use1, use2, use3, await, rewrite, regoal, suffices, group}
use types.Tokens.{lft_new, lft_end, lent_back}
use types.Part.{agg, sub, whole}
use types.Run.{enter, of_opd, addr, from, store_raw, stop, fld, hop, no_more, and_then, assigns, first, blocks, exec, returns}
use types.ByLocal.{alloc_all, pass_all, free_all, look_at, look_in_at, get, get_in, through, sets, sets_last, lands_as, env}
use types.SemTy.{Body}
use contract.Monad.{fact}
use contract.Running.{tables}
use denote.Exit.{yes}
use denote.Laws.{Is, shows}
use denote.Struct.Laws.{makes}
use denote.Lend.{lends_ref, ref_back, lends_shr}
use denote.Memory.{cell_at, mem, part_at}
use denote.Plain.{uint_Lawful}
use denote.Builtin.{u8, u32, SliceRefOf}
use Rattle.std.specs.Ptr.{points_to}
use denote.RawPtr.{Ptr, RawPtr, InBlock, block_ptr, block_of, count_of, at_block, ptr_val, rawptr_vals, rawptr_Tells}
use denote.Ref.{Bor, MutRef, ShrRef, mut_vals, mut_Tells}
use denote.Slice.{ShrSlice, slice_val, shr_slice_vals, shr_slice_Tells}
use denote.Signature.{plain}
use denote.Steps.{nothing, owned, opens, closes, heard, peeks, only}
use denote.Triple.Call.{calls_at}
use denote.Triple.Clauses.{Lasts, lasts}
use denote.Triple.Spec.{triple_of}
use denote.Triple.Walked.{Stays, walk_of, stay_dropped, Goes-dropped, stay_ref, Goes-ref, ends_at}
use denote.Triple.Table.{framed}
use Rattle.std.proofs.raw_atomic.Walks.{proved}
use Rattle.silo_library.specs.contracts.open_silo.OpenSilo.{the_row as R}
use Rattle.silo_library.proofs.open_silo.OpenSilo.TheLaws.{the_row_laws, the_within}
use Rattle.silo_library.specs.contracts.text.Text.{the_row as T, the_type as T-type}
use Rattle.silo_library.specs.declared.text.Text.{Text}
use Rattle.silo_library.proofs.text.Text.TheLaws.{lowers, the_plain}
use Rattle.silo_library.specs.OpenSiloValue.{OpenSiloValue, TellsAnswer}
use Rattle.silo_library.specs.Handle.{lent_for, is_read, may_be_read, right_to_free, has_answer}
use Rattle.silo_library.specs.contracts.open_silo.OpenSilo.answer_line as g
use Rattle.silo_library.proofs.open_silo.OpenSilo.answer_line.Met as g_met
use Rattle.silo_library.specs.contracts.open_silo.OpenSilo.answer as h
use Rattle.silo_library.proofs.open_silo.OpenSilo.answer.Met as h_met
use Rattle.silo_library.specs.contracts.grain_directory_line as f
use Rattle.silo_library.proofs.grain_directory_line.Statement.{statement}
use Rattle.silo_library.proofs.grain_directory_line.Code as code

abbrev stayed : Stays f.ended.signature.params f.ended.kept
stayed = (
  stay_dropped (plain (λ _. RawPtr)) yes,
  (
    stay_dropped (SliceRefOf (0 ∷ []) tt (plain (λ _. u8)) (λ _. tt)) yes,
    (stay_ref (1 ∷ []) tt (plain (λ _. T)), tt),
  ),
)

pub grain_directory_line_spec : {M : Type 1} → statement M
grain_directory_line_spec 𝓤 𝓛 𝓜 𝓡 wired =
    let c = f.clauses 𝓛 𝓜.mem 𝓡.returns in let W = walk_of 𝓛 f.ended stayed c in let 𝓣 = tables 𝓤 𝓛.H 𝓜 𝓡 𝓡.env in
    proved 𝓛 f.ended stayed c 𝓜 𝓡 (
      Goes-dropped 𝓛 2 (plain (λ _. RawPtr)) yes (λ κs x w. refl),
      (
        Goes-dropped 𝓛 2 (SliceRefOf (0 ∷ []) tt (plain (λ _. u8)) (λ _. tt)) yes (λ κs x w. refl),
        (Goes-ref 𝓛 2 1 tt (plain (λ _. T)), tt),
      ),
    )
    f.Key.name code.function (code.unfolded 𝓤 𝓛.H 𝓜 𝓡 wired)
    (λ κs. (rawptr_vals, (shr_slice_vals, (mut_vals, tt))))
    (λ κs. (rawptr_Tells, (shr_slice_Tells (named 0) κs.0 u8, (mut_Tells (named 1) κs.1.0 T, tt)))) (λ κs qs bounds a v are.
    let κ₀ = κs.0 in let q₀ = qs.0 in let κ₁ = κs.1.0 in let q₁ = qs.1.0 in let p = a.0 in let line = a.1.0 in let text = a.1.1.0 in
    let fits : length line.now < 2 ^ 64 = are.1.0.0.1.0 in
    let y : Ptr → W.Ghost = λ π. ((κs, qs, bounds, (π, (line, (text, tt))), (rawptr_vals π, (shr_slice_vals line, (mut_vals text, tt)))), v) in
    qed 𝓛 (((‵ (flft κ₀ q₀) ⊛ ‵ (flft κ₁ q₁) ⊛ ‵ ftrue) ⊛ ‵ (RawPtr.own_val p (rawptr_vals p)) ⊛ ‵
    ((ShrSlice (named 0) κ₀ u8).own_val line (shr_slice_vals line)) ⊛ ‵ ((MutRef (named 1) κ₁ T).own_val text (mut_vals text)) ⊛ ‵
    ftrue) ∷ ‵ (fex ℕ (λ α. lent_for α p v)) ∷ []) ∵
    move ! (1 ∷ 0 ∷ []) $ fpick ! (λ α. fsplit ! $ move ! (1 ∷ []) $ fsplit ! $ move ! (1 ∷ []) $ fsplit ! $ move ! (1 ∷ []) $ fpick !
    (λ inside. drop ! $
    -- [the right to free; what is lent; the token of α; ..]
    let b = block_of p in let o = count_of p in let e = at_block p inside in
    rewrite ! 0 (λ (π : Ptr). ‵ (right_to_free π)) e refl $ rewrite ! 1 (λ (π : Ptr). ‵ (flent (α ∷ []) (points_to R π v))) e refl $
    regoal ! (λ π. prop (WpFn 𝓤 𝓛.H 𝓣.C 𝓣.Λ code.function (ptr_val π ∷ shr_slice_vals line ++ mut_vals text) (W.post (y π)))) e refl $
    move ! (3 ∷ []) $ split ! $ split3 ! $ move ! (3 ∷ []) $ split ! $ drop ! $ split ! $ move ! (1 ∷ []) $ split ! $ keep !
    (0 ∷ 4 ∷ 2 ∷ 3 ∷ 6 ∷ 7 ∷ 8 ∷ []) $
    -- [the text; its token; the line; its token; the right to free; what is lent; the token of α]
    enter ! _ _ _ _ _ $ alloc_all ! (λ l. pass_all ! refl ((tt, tt), ((tt, (tt, (record { fits = fits }, tt))), ((tt, tt), tt))) $
    let Ev = env code.Mir.locals l in
    -- the silo comes back from the last call
    move ! (6 ∷ []) $ lft_end ! tt $ move ! (0 ∷ 6 ∷ []) $ lent_back ! tt $
    -- [the silo; the text; its token; the line; its token; the right to free]
    -- &mut *(handle as *mut OpenSilo)
    first ! $ blocks ! $ sets ! (of_opd ! (get ! refl)) refl (tt, tt) $ sets ! (of_opd ! (get ! refl)) refl (tt, tt) $ sets_last !
    (addr ! (through ! refl (stop !))) refl (tt, tt) $
    exec ! 𝓣.C 𝓣.Λ Ev code.Mir.t-2 (at_ret Ev (W.post (y (block_ptr b o)))) $
    sets ! (of_opd ! (get ! refl)) refl (tt, tt) $ sets ! (addr ! (through ! refl (stop !))) refl (tt, tt) $ sets ! (of_opd ! (get ! refl))
    refl (tt, (tt, (record { fits = fits }, tt))) $
    -- .answer_line(line)
    lft_new ! tt (λ β. move ! (1 ∷ []) $
    use1 𝓛 (later (some (λ (γ : ℕ). ‵ ((MutRef (named 0) (β ∷ []) R).own_val (record { ref_ptr = (b, o); ghost_name = γ; now = v })
    (vptr b o ∷ [])) ⊛ ‵ (flent (β ∷ []) (Body (mem R) b o γ)))))
    (lends_ref 𝓛 R (named 0) (β ∷ []) v b o) $ await ! tt $ pick ! (λ γ. split ! $
    -- [the loan; its way back; the token of β; the text; its token; the line; its token; the right to free]
    let G = triple_of 𝓛 g.signature (g.spec 𝓛 𝓜.mem 𝓡.returns) in
    let z : G.Ghost = (((β ∷ [], (κ₀, tt)), (full_share, (q₀, tt)), tt, (record { ref_ptr = (b, o); ghost_name = γ; now = v }, (line, tt)), (vptr b o ∷ [], (shr_slice_vals line, tt))), tt) in
    nothing ! $ move ! (6 ∷ 0 ∷ []) $ join ! $ move ! (1 ∷ 0 ∷ []) $ join ! $
    nothing ! $ move ! (6 ∷ 0 ∷ []) $ join ! $ move ! (3 ∷ 0 ∷ []) $ join ! $ join ! $ nothing ! $ move ! (1 ∷ 0 ∷ []) $ use2 𝓛
    (raw (G.pre z)) (id⊢ 𝓤 _) $
    calls_at ! (framed 𝓤 𝓛.H 𝓜 𝓣) G (g_met.met 𝓤 𝓛 𝓜 𝓡 (code.calls-silo_library::open_silo::OpenSilo::answer_line 𝓡.env wired)) z
    (and_then ! (get ! refl) (and_then ! (get ! refl) (no_more !))) (λ u.
    use1 𝓛 (later (some (λ (r : ℕ). ((‵ (flft (β ∷ []) full_share) ⊛ ‵ (flft κ₀ q₀) ⊛ ‵ ftrue) ⊛ ‵ (u32.own_val r (u ∷ []))) ⊛
    some (λ (ws : Lasts g.ended z.0.0 z.0.3). ‵ (lasts g.ended z.0.0 z.0.3 ws) ⊛ raw (fact 𝓤 (TellsAnswer v line.now ws.0 r)))))) (id⊢ 𝓤 _)
    $
    await ! tt $ pick ! (λ r. split ! $ split ! $ split3 ! $ lft_end ! tt $ move ! (4 ∷ []) $ pick !
    (λ ws. split ! $ move ! (1 ∷ []) $ heard ! _ (λ told.
    fsplit ! $ fsplit ! $ move ! (3 ∷ 7 ∷ 0 ∷ []) $ use3 𝓛 (later (‵ ((mem R).own_at ws.0 b o))) (ref_back 𝓛 R (β ∷ []) γ ws.0 b o) $ await
    ! tt $
    move ! (1 ∷ []) $ drop ! $ move ! (1 ∷ []) $ drop ! $ move ! (2 ∷ []) $ drop ! $ move ! (2 ∷ []) $
    -- [the status; the silo; the line's token; the text; its token; the right to free]
    peeks ! u32 (Is u32) (shows 𝓛 u32) r (u ∷ []) (λ is. let good = ((uint_Lawful 𝓛 w32).typed r _ is).0 in lands_as ! refl refl good $
    -- &*(handle as *const OpenSilo)
    first ! $ blocks ! $ sets ! (of_opd ! (get ! refl)) refl (tt, tt) $ sets ! (of_opd ! (get ! refl)) refl (tt, tt) $ sets_last !
    (addr ! (through ! refl (stop !))) refl (tt, tt) $
    exec ! 𝓣.C 𝓣.Λ Ev code.Mir.t-7 (at_ret Ev (W.post (y (block_ptr b o)))) $
    sets ! (of_opd ! (get ! refl)) refl (tt, tt) $
    -- .answer(), for a while that is left to the caller
    lft_new ! tt (λ δ. move ! (2 ∷ 0 ∷ []) $
    use2 𝓛 (later ((‵ ((ShrRef (named 0) (δ ∷ []) R).own_val (record { ref_ptr = (b, o); now = ws.0 }) (vptr b o ∷ [])) ⊛ ‵
    (flent (δ ∷ []) (part_at R full_share ws.0 b o))) ⊛ ‵ (flft (δ ∷ []) full_share)))
    (lends_shr 𝓛 R (named 0) (δ ∷ []) full_share ws.0 b o R.lives (the_row_laws.shares 𝓛 ws.0) ((δ ∷ [], full_share) ∷ [])
    (the_within (δ ∷ [])) (Incl-refl (δ ∷ []))) $ await ! tt $ split ! $ split ! $
    -- [the loan; its way back; the token of δ; the status; the line's token; the text; its token; the right to free]
    let B = triple_of 𝓛 h.signature (h.spec 𝓛 𝓜.mem 𝓡.returns) in
    let zb : B.Ghost = (((δ ∷ [], tt), (full_share, tt), tt, (record { ref_ptr = (b, o); now = ws.0 }, tt), (vptr b o ∷ [], tt)), tt) in
    nothing ! $ move ! (1 ∷ 0 ∷ []) $ join ! $ nothing ! $ move ! (3 ∷ 0 ∷ []) $ join ! $ join ! $ nothing ! $ move ! (1 ∷ 0 ∷ []) $ use2 𝓛
    (raw (B.pre zb)) (id⊢ 𝓤 _) $
    calls_at ! (framed 𝓤 𝓛.H 𝓜 𝓣) B (h_met.met 𝓤 𝓛 𝓜 𝓡 (code.calls-silo_library::open_silo::OpenSilo::answer 𝓡.env wired)) zb
    (and_then ! (get ! refl) (no_more !)) (λ w. let Sl = ShrSlice (named 0) (δ ∷ []) u8 in
    use1 𝓛 (later (some (λ (s : Bor (List ℕ)). ((‵ (flft (δ ∷ []) full_share) ⊛ ‵ ftrue) ⊛ ‵ (Sl.own_val s (w ∷ []))) ⊛
    some (λ (ws' : Lasts h.ended zb.0.0 zb.0.3). ‵ (lasts h.ended zb.0.0 zb.0.3 ws') ⊛ raw (fact 𝓤 (s.now ≡ ws.0.answer)))))) (id⊢ 𝓤 _) $
    await ! tt $ pick ! (λ s. split ! $ split ! $ split ! $ move ! (3 ∷ []) $ pick ! (λ ws'. split ! $ drop ! $ heard ! _ (λ same.
    move ! (1 ∷ []) $ drop ! $ move ! (1 ∷ []) $
    -- [the answer; the token of δ; the silo's way back; the status; the line's token; the text; its token; the right to free]
    peeks ! Sl (Is Sl) (shows 𝓛 Sl) s (w ∷ []) (λ it.
    let wis : w ≡ slice_val s.ref_ptr (length s.now) = ap only it.0.0 in let count : length s.now < 2 ^ 64 = it.0.1.0 in
    let n = length s.now in let at = block_ptr s.ref_ptr.0 s.ref_ptr.1 in let new : Text = record { bytes = at; length = n } in
    lands_as ! wis refl (tt, (tt, (record { fits = count }, tt))) $
    sets ! (addr ! (from ! (fld ! refl (hop ! (look_in_at ! 6 (sub ! 0 refl (whole !))) (stop !))))) refl (tt, tt) $
    sets ! (of_opd ! (get_in ! (fld ! refl (stop !)) (sub ! 1 refl (whole !)))) refl (tt, record { fits = count }) $
    sets ! (agg ! (and_then ! (get ! refl) (and_then ! (get ! refl) (no_more !)))) refl (tt, (tt, (record { fits = count }, tt))) $
    rewrite ! 0 (λ (us : List Val). ‵ (Sl.own_val s us)) (ap (λ (m : Val). m ∷ []) wis) refl $
    -- *answer = Text { .. }
    move ! (5 ∷ 6 ∷ []) $ fsplit3 ! $ move ! (1 ∷ 2 ∷ 3 ∷ []) $ opens ! tt T text.ref_ptr.0 text.ref_ptr.1 (λ us.
    move ! (1 ∷ []) $ peeks ! T (Is T) (shows 𝓛 T) text.now us (λ iz. drop ! $
    rewrite ! 0 (λ (vs : List Val). ‵ (cell_at full_share T.mir vs text.ref_ptr.0 text.ref_ptr.1)) (lowers.val_is text.now us iz) refl $
    assigns ! (of_opd ! (get ! refl)) (through ! refl (stop !)) (store_raw ! 0 refl (tt, (tt, (record { fits = count }, tt)))) $
    owned ! T (Is T) (makes T-type the_plain 𝓛) new (lowers.lowered new ∷ [])
    ((vptr s.ref_ptr.0 s.ref_ptr.1 ∷ [], (vint w64 n ∷ [], tt)), (refl, (refl, ((refl, count), tt)))) $ move ! (1 ∷ 0 ∷ []) $
    closes ! tt T new (lowers.lowered new ∷ []) text.ref_ptr.0 text.ref_ptr.1 $
    sets ! (of_opd ! (get ! refl)) refl good $
    returns ! (look_at ! 0 refl) $ free_all ! refl $
    suffices ! _ (ends_at 𝓛 f.ended stayed c (y (block_ptr b o)) u r (tt, (tt, (new, tt))) (tt, (tt, (tt, tt)))) $
    -- [the text, in three parts, with its token between them; the answer; the token of δ; the silo's way back; the status; the line's token; the right to free]
    feq_i ! Text new new refl $ feq_i ! (List ℕ) s.now ws.0.answer same $ fjoin ! $ move ! (5 ∷ 0 ∷ []) $ fjoin ! $ fpack ! (Bor (List ℕ))
    (is_read δ new ws.0.answer) s $
    nothing ! $ fpack ! (InBlock (block_ptr b o)) (λ _. ftrue) tt $ move ! (10 ∷ 0 ∷ []) $ fjoin ! $ move ! (7 ∷ 0 ∷ []) $ fjoin ! $ move !
    (6 ∷ 0 ∷ []) $ fjoin ! $ fjoin ! $
    fpack ! ℕ (λ while. fsep (lent_for while (block_ptr b o) ws.0) (may_be_read while new ws.0.answer)) δ $
    fpack ! (TellsAnswer v line.now ws.0 r) (λ _. has_answer (block_ptr b o) ws.0 new) told $
    fpack ! OpenSiloValue (λ it'. fex (TellsAnswer v line.now it' r) (λ _. has_answer (block_ptr b o) it' new)) ws.0 $
    keep ! (4 ∷ 1 ∷ 2 ∷ 3 ∷ 6 ∷ 5 ∷ 0 ∷ []) $ group ! 3 $ nothing ! $ move ! (1 ∷ 0 ∷ []) $ join ! $ nothing ! $ join ! $ nothing ! $ join !
    $
    nothing ! $ move ! (2 ∷ 0 ∷ []) $ join ! $ move ! (2 ∷ 0 ∷ []) $ join ! $ group ! 3 $ done !)))))))))))))))))))

-- `grain_directory_open_with_token` meets its contract: a walk of its MIR, by hand. It is the walk of `grain_directory_open`, with one
-- more slice, and so one more lifetime.
use Rattle.std.proofs.Common.{◌≡◌, ℕ, List, [], ◌∷◌, ◌++◌, refl, ap, ◌∙◌, subst}
use mir.Syntax.{Callee, Dict, Ty, Tyss, ty_enum, ty_unit, ttnil, a_type, impl, tcons, tnil, dcons, dnil}
use mir.Val.{Val, vptr, vcons, vnil}
use base.Fraction.{full_share}
use base.Logic.{ent, id⊢, emp}
use base.Fml.{ftrue, fex, feq, flft}
use types.Logic.{sem}
use types.Kit.{‵, raw, ◌⊛◌, some, later, at_ret, ◌$◌, ◌∵◌, !, qed, done, move, keep, drop, split, split3, join, fsplit, fsplit3, fjoin, fpack, feq_l, feq_i, pick, use0, use1, use2, await, rewrite, suffices, group}
use types.Tokens.{lft_new}
use types.Part.{whole}
use types.Run.{enter, of_opd, stop, fld, no_more, and_then, assigns, first, exec, returns}
use types.ByLocal.{alloc_all, pass_all, free_all, look_at, get, get_in, through, sets, sets_last, lands_as, env}
use contract.Monad.{fact, fact_i}
use contract.BorrowLft.{◌⊑◌}
use contract.Running.{Running, tables}
use contract.Lifetimes.{Lfts}
use denote.Exit.{yes, no}
use denote.Laws.{Is}
use denote.Struct.Laws.{tells}
use mir.Raw.{raw as bare}
use denote.Param.{arg, bounded, layout}
use denote.Param.Laws.{arg_laws}
use denote.Param.NoDrop.{glues}
use denote.RawPtr.{Ptr, RawPtr, InBlock, block_ptr, ptr_val}
use denote.Signature.{plain}
use denote.Steps.{nothing, heard, only}
use denote.Triple.Call.{calls_at}
use denote.Triple.Clauses.{Ended, Lasts, lasts}
use denote.Triple.Spec.{triple_of}
use denote.Triple.Statement.{Contract, Triple}
use denote.Triple.Walked.{Stays, walk_of, stay_dropped, Goes-dropped, ends_at}
use denote.Triple.Table.{framed}
use Rattle.std.proofs.raw_atomic.Walks.{proved}
use Rattle.std.specs.contracts.alloc.Global as heap
use Rattle.std.proofs.alloc.Global.TheLaws as heap_laws
use Rattle.std.specs.contracts.impls.GlobalAllocator.TheImpl.{ghosts, dict}
use Rattle.std.proofs.impls.GlobalAllocator.TheImpl.Met.{passed}
use Rattle.std.proofs.BoxSteps.Form as box
use Rattle.std.proofs.BoxSteps.Steps.{box_out, box_in}
use Rattle.std.specs.contracts.boxed.Box.into_raw as h
use Rattle.std.proofs.boxed.Box.into_raw.Met as h_met
use Rattle.std.proofs.boxed.Box.into_raw.Symbol as h_symbol
use Rattle.silo_library.specs.contracts.open_silo.OpenSilo.{the_row as R}
use Rattle.silo_library.proofs.open_silo.OpenSilo.TheLaws.{the_row_laws, the_within}
use Rattle.silo_library.specs.Handle.{lent_for}
use Rattle.silo_library.proofs.Opening.{by_case, heap_val}
use Rattle.silo_library.proofs.Ends.{left_of_seven, tokens_back}
use Rattle.silo_library.specs.contracts.open_silo.OpenSilo.open_with_token as g
use Rattle.silo_library.proofs.open_silo.OpenSilo.open_with_token.Met as g_met
use Rattle.silo_library.specs.contracts.grain_directory_open_with_token as f
use Rattle.silo_library.proofs.grain_directory_open_with_token.Statement.{statement}
use Rattle.silo_library.proofs.grain_directory_open_with_token.Code as code
use Rattle.std.proofs.Common.{zero, suc, lit<, w32, w64, ◌<◌, ◌^◌, length, get_or}
use Rattle.std.specs.declared.result.Result.{Result}
use Rattle.std.specs.Prelude.{IfOk, IfErr}
use Rattle.std.specs.contracts.result.Result as result
use Rattle.silo_library.specs.OpenSiloValue.{OpenSiloValue, OpensWithToken, TellsTokenRefusal}
use Rattle.silo_library.specs.Handle.{has_opened_with_token, is_handle}
use Rattle.silo_library.specs.declared.status.CallStatus.TheVariants as status
use Rattle.std.specs.contracts.boxed.Box.{the_row as box_row}
use Rattle.std.specs.Box.Ownership.{box_owns}
use Rattle.std.proofs.ResultValues.{and_tt}
use Rattle.silo_library.proofs.silo_library++open_silo++OpenSilo+Destruct.drop.Kinds as drop_kinds
use Rattle.silo_library.proofs.silo_library++open_silo++OpenSilo+Destruct.drop.Met as drop_met
use Rattle.silo_library.proofs.silo_library++open_silo++OpenSilo+Destruct.drop.Reads as drop_reads
use Rattle.silo_library.proofs.silo_library++open_silo++OpenSilo+Destruct.drop.Symbol as drop_symbol
use mir.Syntax.{named, method}
use mir.Val.{vint, of_list}
use base.Logic.{fst∗, never}
use borrow.Fn.Glue.{glue_by, glue_ps}
use borrow.Fn.Impl.{via_longer, method_Known}
use borrow.Fn.Kinds.{ended_of, stays, r_unit}
use borrow.Fn.Run.{Over}
use borrow.Fn.World.{World}
use denote.Param.{layouts}
use denote.RawPtr.{in_a_block, null_ptr}
use denote.Triple.Carry.{AllWithin}
use denote.Triple.Clauses.{at_exit}
use denote.Triple.Walked.{Fit, stay_ref, Goes-ref}
use denote.Builtin.{u8, u32, usize, SliceRefOf}
use denote.Memory.{cell_at}
use denote.Plain.{uint_vals, uint_Tells, uint_Makes}
use denote.Ref.{MutRef, mut_vals, mut_Tells}
use denote.Slice.{ShrSlice, shr_slice_vals, shr_slice_Tells}
use denote.Steps.{owned, opens, closes}
use types.Match.{live, vrt, in_variant}
use types.Run.{lit, store, switches_on}
use types.ByLocal.{get_tag}
use types.Tokens.{bor_new}
use prog.Model.{Model}
use prog.Wired.{Wired}
use prog.Wp.{Wp, after_seq, at_return}
use types.Kit.{any_q}
use seplogic.Ra.Ura.{Ura}
use types.Logic.{Logic}
use Rattle.std.proofs.alloc.Shapes.{arm_body}

abbrev stayed : Stays f.ended.signature.params f.ended.kept
stayed = (
  stay_dropped (plain (λ _. heap.the_row)) yes,
  (
    stay_dropped (SliceRefOf (0 ∷ []) tt (plain (λ _. u8)) (λ _. tt)) yes,
    (
      stay_dropped (SliceRefOf (1 ∷ []) tt (plain (λ _. u8)) (λ _. tt)) yes,
      (
        stay_dropped (plain (λ _. u32)) yes,
        (
          stay_dropped (plain (λ _. usize)) yes,
          (stay_dropped (plain (λ _. usize)) yes, (stay_ref (2 ∷ []) tt (plain (λ _. RawPtr)), tt)),
        ),
      ),
    ),
  ),
)

-- the fields of what opening answers, by its variants
abbrev cases_of : Ty → Tyss
cases_of (ty_enum name fields) = fields
cases_of other = ttnil

abbrev cases : Tyss
cases = cases_of (get_or (env code.Mir.locals (λ i. i)) 10 (ty_unit, 0)).0

-- the box of an open silo, by its name alone: what a proof says of it stays short
abbrev silo_box : box.Bx
silo_box = record {
  row = arg (bare (layout R)) no R;
  laws = arg_laws (bare (layout R)) no R the_row_laws refl;
  al = record {
    row = arg (bare (layout heap.the_row)) no heap.the_row;
    laws = arg_laws (bare (layout heap.the_row)) no heap.the_row heap_laws.the_row_laws refl;
    g = ghosts;
    d = dict;
    drops = impl ("silo_library::Destruct++none::drop" ∷ []) (tcons (layout (arg (bare (layout heap.the_row)) no heap.the_row)) tnil) dnil;
  };
}

IsZero : ℕ → Type 0
IsZero zero = Unit {0}
IsZero (suc n) = ⊥

-- no refusal is told by 0
never_0 : (address token : List ℕ) (hashing points cache : ℕ) → TellsTokenRefusal address token hashing points cache 0 → ⊥
unfolding IsZero
never_0 address token hashing points cache (status.NotAToken, t, e) = subst IsZero e tt
never_0 address token hashing points cache (status.NotASilo, t, e) = subst IsZero e tt
never_0 address token hashing points cache (status.NoSuchHashing, t, e) = subst IsZero e tt
never_0 address token hashing points cache (status.OutOfRange, t, e) = subst IsZero e tt
never_0 address token hashing points cache (status.OutOfMemory, t, e) = subst IsZero e tt
never_0 address token hashing points cache (status.GoesOn, t, e) = absurd t.1
never_0 address token hashing points cache (status.Dead, t, e) = absurd t.1
never_0 address token hashing points cache (status.Ended, t, e) = absurd t.1

-- a refusal that is told leaves the handle
refused : {M : Type 1} {𝓤 : Ura M} (𝓛 : Logic 𝓤) (address token : List ℕ) (hashing points cache number : ℕ) (old : Ptr)
    → TellsTokenRefusal address token hashing points cache number
    → ent 𝓤 (emp 𝓤) (sem 𝓛 (has_opened_with_token address token hashing points cache number old old))
refused 𝓛 address token hashing points cache zero old told = absurd (never_0 address token hashing points cache told)
refused 𝓛 address token hashing points cache (suc number) old told =
    qed 𝓛 [] ∵ feq_i ! Ptr old old refl $ fpack ! (TellsTokenRefusal address token hashing points cache (suc number)) (λ _. feq Ptr old old)
    told $ done !

-- what drops an open silo
abbrev silo_drop : Dict
silo_drop = impl ("silo_library::silo_library++open_silo++OpenSilo+Destruct::drop" ∷ []) tnil dnil

-- ---- `Box::into_raw` of the box of an open silo
abbrev into_raw_called : Callee
into_raw_called =
    h_symbol.name (bounded (a_type ∷ a_type ∷ []) (silo_box.row, (silo_box.al.row, tt))
    (dcons dict (dcons silo_box.al.drops (dcons silo_drop dnil))))

abbrev into_raw_ended : Ended
into_raw_ended = h.ended silo_box.row silo_box.al.row ghosts dict silo_box.al.drops silo_drop

abbrev into_raw_asks : {M : Type 1} {𝓤 : Ura M} (𝓛 : Logic 𝓤) (𝓜 : Model 𝓤 𝓛.H) → Running 𝓤 𝓛.H 𝓜 → Contract 𝓤
into_raw_asks 𝓛 𝓜 𝓡 =
    triple_of 𝓛 (h.signature silo_box.row silo_box.al.row ghosts dict silo_box.al.drops silo_drop)
    (h.spec silo_box.row silo_box.al.row ghosts dict silo_box.al.drops silo_drop 𝓛 𝓜.mem 𝓡.returns)

-- it meets its contract there; stated by itself, since the walk below would else pass the limit of steps of one proof
into_raw_known : {M : Type 1} (𝓤 : Ura M) (𝓛 : Logic 𝓤) (𝓜 : Model 𝓤 𝓛.H) (𝓡 : Running 𝓤 𝓛.H 𝓜) → Wired 𝓡.env code.code
    → Triple 𝓤 (𝓡.run (𝓡.env into_raw_called)) (into_raw_asks 𝓛 𝓜 𝓡)
unfolding Rattle.silo_library.proofs.Destruct++none.drop.Code.code
into_raw_known {M} 𝓤 𝓛 𝓜 𝓡 wired =
    let Z = silo_box.al.row in let LZ = silo_box.al.laws in let X = silo_box.row in let LX = silo_box.laws in
    let dd = silo_box.al.drops in let dx = silo_drop in
    let En = ended_of 0 drop_kinds.ps drop_kinds.r in
    let world : World = record { M = M; 𝓤 = 𝓤; 𝓛 = 𝓛; 𝓜 = 𝓜; 𝓡 = 𝓡 } in
    let glue = glue_by X LX world dx 𝓡.env (λ κs a. Lasts En tt a) (λ κs a. lasts En tt a)
    (λ κs a x ws. Fit En (stays drop_kinds.ps) tt a ws × drop_reads.Learnt tt a x (at_exit En tt a ws))
    (λ κs a. AllWithin 1 (κs.0, tt) (X.lives, tt) × Unit {0}) 0 tt (λ κs a w. ((w, tt), tt))
    (via_longer 𝓛 (Over 𝓛 𝓜 𝓡 𝓡.env) 1 (glue_ps X LX) r_unit (λ κs a. Lasts En tt a) (λ κs a. lasts En tt a)
    (λ κs a x ws. Fit En (stays drop_kinds.ps) tt a ws × drop_reads.Learnt tt a x (at_exit En tt a ws))
    (λ κs a. AllWithin 1 (κs.0, tt) (X.lives, tt) × Unit {0}) (method dx 0 (layouts [] tt)) 0 tt (λ κs. tt) (λ κs a. drop_reads.Asked tt a)
    (λ κs a p. (tt, tt))
    (λ κs bd within a vss qs. method_Known 0 drop_kinds.ps drop_kinds.r drop_reads.requires drop_reads.ensures drop_reads.Asked
    drop_reads.Learnt drop_reads.known world
    drop_symbol.name (method dx 0 (layouts [] tt)) (drop_symbol.as_method 𝓡.env
    (code.calls-silo_library::silo_library++open_silo++OpenSilo+Destruct::drop 𝓡.env wired) (method dx 0 (layouts [] tt)) refl)
    (drop_met.met 𝓤 𝓛 𝓜 𝓡 (code.calls-silo_library::silo_library++open_silo++OpenSilo+Destruct::drop 𝓡.env wired))
    ((tt, qs, tt, a, vss), tt))) in
    h_met.met 𝓤 𝓛 𝓜 𝓡 (code.calls-std_alloc::boxed::Box::into_raw 𝓡.env wired) X Z LX LZ ghosts dict dd dx
    (passed 𝓡.env (code.calls-std_heap::GlobalAllocator::allocate 𝓡.env wired)
    (code.calls-std_heap::GlobalAllocator::deallocate 𝓡.env wired) (code.calls-std_heap::GlobalAllocator::grow 𝓡.env wired)
    (code.calls-std_heap::GlobalAllocator::shrink 𝓡.env wired) M 𝓤 𝓛 𝓜 𝓡)
    (glues "silo_library::Destruct++none::drop" 𝓡.env (code.calls-silo_library::Destruct++none::drop 𝓡.env wired) Z LZ M 𝓤 𝓛 𝓜 𝓡) glue

pub grain_directory_open_with_token_spec : {M : Type 1} → statement M
grain_directory_open_with_token_spec {M} 𝓤 𝓛 𝓜 𝓡 wired =
    let H = 𝓛.H in let c = f.clauses 𝓛 𝓜.mem 𝓡.returns in let W = walk_of 𝓛 f.ended stayed c in let 𝓣 = tables 𝓤 𝓛.H 𝓜 𝓡 𝓡.env in
    let Z = silo_box.al.row in let X = silo_box.row in
    let N = triple_of 𝓛 g.signature (g.spec 𝓛 𝓜.mem 𝓡.returns) in let G = into_raw_asks 𝓛 𝓜 𝓡 in
    proved 𝓛 f.ended stayed c 𝓜 𝓡 (
      Goes-dropped 𝓛 3 (plain (λ _. heap.the_row)) yes (λ κs x w. refl),
      (
        Goes-dropped 𝓛 3 (SliceRefOf (0 ∷ []) tt (plain (λ _. u8)) (λ _. tt)) yes (λ κs x w. refl),
        (
          Goes-dropped 𝓛 3 (SliceRefOf (1 ∷ []) tt (plain (λ _. u8)) (λ _. tt)) yes (λ κs x w. refl),
          (
            Goes-dropped 𝓛 3 (plain (λ _. u32)) yes (λ κs x w. refl),
            (
              Goes-dropped 𝓛 3 (plain (λ _. usize)) yes (λ κs x w. refl),
              (Goes-dropped 𝓛 3 (plain (λ _. usize)) yes (λ κs x w. refl), (Goes-ref 𝓛 3 2 tt (plain (λ _. RawPtr)), tt)),
            ),
          ),
        ),
      ),
    )
    f.Key.name code.function (code.unfolded 𝓤 𝓛.H 𝓜 𝓡 wired)
    (λ κs. ((λ _. heap_val ∷ []), (shr_slice_vals, (shr_slice_vals, (uint_vals w32, (uint_vals w64, (uint_vals w64, (mut_vals, tt))))))))
    (λ κs. (
      tells heap.the_type heap_laws.the_laws,
      (
        shr_slice_Tells (named 0) κs.0 u8,
        (
          shr_slice_Tells (named 1) κs.1.0 u8,
          (
            uint_Tells w32,
            (uint_Tells w64, (uint_Tells w64, (mut_Tells (named 2) κs.1.1.0 RawPtr, tt))),
          ),
        ),
      ),
    )) (λ κs qs bounds a v are.
    let κ₀ = κs.0 in let q₀ = qs.0 in let κ₁ = κs.1.0 in let q₁ = qs.1.0 in let κ₂ = κs.1.1.0 in let q₂ = qs.1.1.0 in
    let address = a.1.0 in let token = a.1.1.0 in let number = a.1.1.1.0 in let points = a.1.1.1.1.0 in let cache = a.1.1.1.1.1.0 in
    let out = a.1.1.1.1.1.1.0 in
    let fa : length address.now < 2 ^ 64 = are.1.0.0.1.0 in let ft : length token.now < 2 ^ 64 = are.1.1.0.0.1.0 in
    let y : W.Ghost = ((κs, qs, bounds, a, (heap_val ∷ [], (shr_slice_vals address, (shr_slice_vals token, (uint_vals w32 number, (uint_vals w64 points, (uint_vals w64 cache, (mut_vals out, tt)))))))), v) in
    qed 𝓛 (((‵ (flft κ₀ q₀) ⊛ ‵ (flft κ₁ q₁) ⊛ ‵ (flft κ₂ q₂) ⊛ ‵ ftrue) ⊛ ‵ (heap.the_row.own_val a.0 (heap_val ∷ [])) ⊛ ‵
    ((ShrSlice (named 0) κ₀ u8).own_val address (shr_slice_vals address))
    ⊛ ‵ ((ShrSlice (named 1) κ₁ u8).own_val token (shr_slice_vals token)) ⊛ ‵ (u32.own_val number (uint_vals w32 number)) ⊛ ‵
    (usize.own_val points (uint_vals w64 points))
    ⊛ ‵ (usize.own_val cache (uint_vals w64 cache)) ⊛ ‵ ((MutRef (named 2) κ₂ RawPtr).own_val out (mut_vals out)) ⊛ ‵ ftrue) ∷ ‵ ftrue ∷ [])
    ∵
    split ! $ split3 ! $ move ! (2 ∷ []) $ split ! $ move ! (4 ∷ []) $ split ! $ move ! (1 ∷ []) $ split ! $ move ! (1 ∷ []) $ split ! $
    move ! (1 ∷ []) $ split ! $ move ! (1 ∷ []) $ split ! $ move ! (1 ∷ []) $ split ! $ move ! (1 ∷ []) $ split ! $
    -- [out; true; cache; points; number; token; address; heap; κ₂; true; κ₀; κ₁; true]
    keep ! (7 ∷ 6 ∷ 5 ∷ 4 ∷ 3 ∷ 2 ∷ 10 ∷ 11 ∷ 0 ∷ 8 ∷ []) $
    -- [the heap; the address; the token; three numbers; κ₀; κ₁; the handle; κ₂]
    enter ! _ _ _ _ _ $ alloc_all ! (λ l. pass_all ! refl (
      (tt, ((tt, tt), tt)),
      (
        (tt, (tt, (record { fits = fa }, tt))),
        (
          (tt, (tt, (record { fits = ft }, tt))),
          (
            (tt, record { fits = are.1.1.1.0.1 }),
            ((tt, record { fits = are.1.1.1.1.0.1 }), ((tt, record { fits = are.1.1.1.1.1.0.1 }), ((tt, tt), tt))),
          ),
        ),
      ),
    ) $
    let Ev = env code.Mir.locals l in
    -- OpenSilo::open_with_token(..)
    let z : N.Ghost = (((κ₀, (κ₁, tt)), (q₀, (q₁, tt)), tt, (a.0, (address, (token, (number, (points, (cache, tt)))))), (heap_val ∷ [], (shr_slice_vals address, (shr_slice_vals token, (uint_vals w32 number, (uint_vals w64 points, (uint_vals w64 cache, tt))))))), tt) in
    let Bx = box_row R heap.the_row ghosts in
    nothing ! $ move ! (6 ∷ 0 ∷ []) $ join ! $ move ! (5 ∷ 0 ∷ []) $ join ! $ move ! (4 ∷ 0 ∷ []) $ join ! $ move ! (3 ∷ 0 ∷ []) $ join ! $
    move ! (2 ∷ 0 ∷ []) $ join ! $ move ! (1 ∷ 0 ∷ []) $ join ! $
    nothing ! $ move ! (3 ∷ 0 ∷ []) $ join ! $ move ! (2 ∷ 0 ∷ []) $ join ! $ join ! $ nothing ! $ move ! (1 ∷ 0 ∷ []) $ use2 𝓛
    (raw (N.pre z)) (id⊢ 𝓤 _) $
    calls_at ! (framed 𝓤 𝓛.H 𝓜 𝓣) N (g_met.met 𝓤 𝓛 𝓜 𝓡 (code.calls-silo_library::open_silo::OpenSilo::open_with_token 𝓡.env wired)) z
    (and_then ! (get ! refl) (and_then ! (get ! refl)
    (and_then ! (get ! refl) (and_then ! (get ! refl) (and_then ! (get ! refl) (and_then ! (get ! refl) (no_more !))))))) (λ u.
    use1 𝓛 (later (some (λ (r : Result Bx.Denot ℕ). ((‵ (flft κ₀ q₀) ⊛ ‵ (flft κ₁ q₁) ⊛ ‵ ftrue) ⊛ ‵
    ((result.the_row Bx u32).own_val r (u ∷ []))) ⊛
    some (λ (ws : Lasts g.ended z.0.0 z.0.3). ‵ (lasts g.ended z.0.0 z.0.3 ws) ⊛
    (raw (fact 𝓤 (IfOk r (λ it. OpensWithToken address.now token.now number points cache it.value))) ⊛ raw
    (fact 𝓤 (IfErr r (TellsTokenRefusal address.now token.now number points cache)))))))) (id⊢ 𝓤 _) $
    await ! tt $ pick ! (λ r. split ! $ split ! $ move ! (2 ∷ []) $ pick !
    (λ ws. split ! $ drop ! $ split ! $ heard ! _ (λ opened. heard ! _ (λ told. move ! (1 ∷ []) $
    let Then = any_q (after_seq 𝓤 H (Wp 𝓤 H 𝓣.C 𝓣.Λ Ev code.Mir.t-3 (at_return 𝓤 H Ev (W.post y))) (at_return 𝓤 H Ev (W.post y))) in
    by_case ! Bx r u
    -- Ok(silo): [the box; κ₀ and κ₁; the handle; κ₂]
    (λ x vs is_ok is.
    box_out silo_box ! x vs (λ b' o' hv e ws fits. box_in silo_box ! x b' o' x.value e refl $
    let w = box.word silo_box hv b' o' in let typed = box.box_typed silo_box hv b' o' fits in let it = x.value in
    let known_as : u ≡ live 0 (vcons w vnil) = is ∙ ap (λ (zs : List Val). live 0 (of_list (zs ++ []))) ws in
    lands_as ! known_as refl (and_tt _ typed.0, (record { fits = lit< tt }, (typed.1, tt))) $
    first ! $ switches_on ! (get_tag ! {τss = cases} (vrt ! refl (fld ! refl (stop !))) (whole !)) $ exec ! 𝓣.C 𝓣.Λ Ev
    (arm_body 0 code.Mir.s-2) Then $
    sets ! (of_opd ! (get_in ! (vrt ! refl (fld ! refl (stop !))) (in_variant ! {τss = cases} 0 0 refl refl (whole !)))) refl typed $ sets !
    (of_opd ! (get ! refl)) refl typed $
    -- Box::into_raw(silo)
    lft_new ! tt (λ β. lft_new ! tt (λ δ.
    let κs' : Lfts 2 = (β ∷ [], (δ ∷ [], tt)) in
    let yg : G.Ghost = ((κs', (full_share, (full_share, tt)), tt, (x, tt), (w ∷ [], tt)), tt) in
    nothing ! $ use0 𝓛 (raw (fact 𝓤 ((δ ∷ []) ⊑ Z.lives))) (fact_i 𝓤 _ (emp 𝓤) (heap_laws.the_within (δ ∷ []))) $ join ! $
    use0 𝓛 (raw (fact 𝓤 ((β ∷ []) ⊑ X.lives))) (fact_i 𝓤 _ (emp 𝓤) (the_within (β ∷ []))) $ join ! $
    nothing ! $ move ! (4 ∷ 0 ∷ []) $ fjoin ! $ nothing ! $ move ! (3 ∷ 0 ∷ []) $ join ! $ move ! (3 ∷ 0 ∷ []) $ join ! $ join ! $ use2 𝓛
    (raw (G.pre yg)) (id⊢ 𝓤 _) $
    calls_at ! (framed 𝓤 𝓛.H 𝓜 𝓣) G (into_raw_known 𝓤 𝓛 𝓜 𝓡 wired) yg (and_then ! (get ! refl) (no_more !)) (λ m.
    use1 𝓛 (later (some (λ (π : Ptr). ((‵ (flft (β ∷ []) full_share) ⊛ ‵ (flft (δ ∷ []) full_share) ⊛ ‵ ftrue) ⊛ ‵
    (RawPtr.own_val π (m ∷ []))) ⊛
    some (λ (ls : Lasts into_raw_ended κs' yg.0.3). ‵ (lasts into_raw_ended κs' yg.0.3 ls) ⊛ ‵
    (box_owns (ghosts.dealloc_token x.alloc) (box.R silo_box) π it))))) (id⊢ 𝓤 _) $
    await ! tt $ pick ! (λ π. split ! $ split ! $ split3 ! $ move ! (4 ∷ []) $ pick ! (λ ls. split ! $ drop ! $
    in_a_block ! π (λ q. box_owns (ghosts.dealloc_token x.alloc) (box.R silo_box) q it)
    (fst∗ 𝓤 (never 𝓤) (sem 𝓛 (ghosts.dealloc_token x.alloc (bare (box.τ silo_box)) null_ptr))) (λ b o at. fsplit ! $
    -- the silo is lent for a while, which is the caller's
    bor_new ! tt (δ ∷ []) $ drop ! $ move ! (2 ∷ []) $ drop ! $
    -- [what is lent; the right to free; the token of δ; true; the pointer; κ₀ and κ₁; the handle; κ₂]
    move ! (3 ∷ []) $ fpack ! (InBlock (block_ptr b o)) (λ _. ftrue) tt $ move ! (2 ∷ 0 ∷ []) $ fjoin ! $ move ! (1 ∷ 0 ∷ []) $ fjoin ! $
    move ! (1 ∷ 0 ∷ []) $ fjoin ! $
    fpack ! ℕ (λ while. lent_for while (block_ptr b o) it) δ $
    fpack ! (OpensWithToken address.now token.now number points cache it) (λ _. is_handle (block_ptr b o) it)
    (subst (λ (r' : Result Bx.Denot ℕ). IfOk r' (λ it'. OpensWithToken address.now token.now number points cache it'.value)) is_ok
    opened) $
    fpack ! OpenSiloValue (λ it'. fex (OpensWithToken address.now token.now number points cache it') (λ _. is_handle (block_ptr b o) it'))
    it $
    move ! (1 ∷ []) $ feq_l ! (λ em. lands_as ! (ap only em ∙ ap ptr_val at) refl (tt, tt) $ sets ! (of_opd ! (get ! refl)) refl (tt, tt) $
    -- *handle = .. as *mut u8
    move ! (2 ∷ 3 ∷ []) $ fsplit3 ! $ move ! (1 ∷ 2 ∷ 3 ∷ []) $ opens ! tt RawPtr out.ref_ptr.0 out.ref_ptr.1
    (λ us. move ! (1 ∷ []) $ feq_l ! (λ eo.
    rewrite ! 0 (λ (zs : List Val). ‵ (cell_at full_share RawPtr.mir zs out.ref_ptr.0 out.ref_ptr.1)) eo refl $
    assigns ! (of_opd ! (get ! refl)) (through ! refl (stop !)) (store ! 0 refl (tt, tt)) $
    feq_i ! (List Val) (vptr b o ∷ []) (vptr b o ∷ []) refl $ move ! (1 ∷ 0 ∷ []) $ closes ! tt RawPtr (block_ptr b o) (vptr b o ∷ [])
    out.ref_ptr.0 out.ref_ptr.1 $
    sets_last ! (of_opd ! (lit ! tt)) refl (tt, record { fits = lit< tt }) $ exec ! 𝓣.C 𝓣.Λ Ev code.Mir.t-3 (at_ret Ev (W.post y)) $
    sets ! (of_opd ! (get ! refl)) refl (tt, record { fits = lit< tt }) $ returns ! (look_at ! 0 refl) $ free_all ! refl $
    suffices ! _ (ends_at 𝓛 f.ended stayed c y (vint w32 0) 0 (tt, (tt, (tt, (tt, (tt, (tt, (block_ptr b o, tt)))))))
    (tt, (tt, (tt, (tt, (tt, (tt, (tt, tt)))))))) $
    owned ! u32 (Is u32) (uint_Makes 𝓛 w32) 0 _ (refl, lit< tt) $ keep ! (4 ∷ 1 ∷ 2 ∷ 3 ∷ 6 ∷ 0 ∷ 5 ∷ []) $ group ! 3 $
    left_of_seven ! $ tokens_back ! $ done !)))))))))))
    -- Err(status): [κ₀ and κ₁; the handle; κ₂]
    (λ n fits is_err is. lands_as ! is refl (tt, (record { fits = lit< tt }, (record { fits = fits }, tt))) $
    first ! $ switches_on ! (get_tag ! {τss = cases} (vrt ! refl (fld ! refl (stop !))) (whole !)) $ exec ! 𝓣.C 𝓣.Λ Ev
    (arm_body 1 code.Mir.s-2) Then $
    sets ! (of_opd ! (get_in ! (vrt ! refl (fld ! refl (stop !))) (in_variant ! {τss = cases} 1 0 refl refl (whole !)))) refl
    (tt, record { fits = fits }) $
    sets_last ! (of_opd ! (get ! refl)) refl (tt, record { fits = fits }) $ exec ! 𝓣.C 𝓣.Λ Ev code.Mir.t-3 (at_ret Ev (W.post y)) $
    sets ! (of_opd ! (get ! refl)) refl (tt, record { fits = fits }) $ returns ! (look_at ! 0 refl) $ free_all ! refl $
    suffices ! _ (ends_at 𝓛 f.ended stayed c y (vint w32 n) n (tt, (tt, (tt, (tt, (tt, (tt, (out.now, tt)))))))
    (tt, (tt, (tt, (tt, (tt, (tt, (tt, tt)))))))) $
    use0 𝓛 (‵ (has_opened_with_token address.now token.now number points cache n out.now out.now))
    (refused 𝓛 address.now token.now number points cache n out.now
    (subst (λ (r' : Result Bx.Denot ℕ). IfErr r' (TellsTokenRefusal address.now token.now number points cache)) is_err told)) $
    owned ! u32 (Is u32) (uint_Makes 𝓛 w32) n _ (refl, fits) $ keep ! (3 ∷ 4 ∷ 2 ∷ 0 ∷ 1 ∷ []) $ left_of_seven ! $ tokens_back ! $ done
    !))))))))

-- What the walks of the functions that open a silo share.
use Rattle.std.proofs.Common.{◌≡◌, ℕ, List, [], ◌∷◌, ◌++◌, refl, ap, ◌∙◌, ◌<◌, ◌^◌, w32}
use Rattle.std.specs.declared.result.Result.{Result}
use Rattle.std.specs.declared.result.Result.TheVariants.{Ok, Err}
use Rattle.std.specs.contracts.result.Result as result
use mir.Val.{Val, vint, vunit, vstruct, vcons, vnil, of_list}
use types.Kit.{Item, Goal, Seq, ‵, ◌$◌, move, drop, fsplit, fpick, feq_l}
use types.Match.{live}
use types.Logic.{Logic}
use denote.Builtin.{u32}
use denote.Laws.{Is, shows}
use denote.RattleType.{RattleType}
use denote.Steps.{only, peeks}
use seplogic.Ra.Ura.{Ura}

-- the heap's value
abbrev pub heap_val : Val
heap_val = vstruct (vcons (vstruct (vcons vunit vnil)) vnil)

-- what is owned of a result, by its case
pub by_case : {M : Type 1} {𝓤 : Ura M} {𝓛 : Logic 𝓤} {K : Type 0} {Γ : List (Item 𝓤)} {G : Goal 𝓤 𝓛.H} → K
    → (X : RattleType) (r : Result X.Denot ℕ) (u : Val)
    → ((x : X.Denot) (vs : List Val) → r ≡ Ok x → u ≡ live 0 (of_list (vs ++ [])) → Seq K 𝓛 (‵ (X.own_val x vs) ∷ Γ) G)
    → ((n : ℕ) → n < 2 ^ 32 → r ≡ Err n → u ≡ live 1 (vcons (vint w32 n) vnil) → Seq K 𝓛 Γ G)
    → Seq K 𝓛 (‵ ((result.the_row X u32).own_val r (u ∷ [])) ∷ Γ) G
by_case t X (Ok x) u ok err =
    fpick t (λ us. fsplit t $ feq_l t (λ eu. fpick t (λ vss. fsplit t $ feq_l t (λ ev. fsplit t $ move t (1 ∷ []) $ drop t $
    ok x vss.0 refl (ap only eu ∙ ap (λ (zs : List Val). live 0 (of_list zs)) ev)))))
by_case {𝓛 = 𝓛} t X (Err n) u ok err =
    fpick t (λ us. fsplit t $ feq_l t (λ eu. fpick t (λ vss. fsplit t $ feq_l t (λ ev. fsplit t $ move t (1 ∷ []) $ drop t $
    peeks t u32 (Is u32) (shows 𝓛 u32) n vss.0 (λ is. drop t $
    err n is.1 refl (ap only eu ∙ (ap (λ (zs : List Val). live 1 (of_list zs)) ev
    ∙ ap (λ (zs : List Val). live 1 (of_list (zs ++ []))) is.0)))))))

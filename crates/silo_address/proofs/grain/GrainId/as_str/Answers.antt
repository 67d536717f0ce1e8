-- visible bytes are text
use Rattle.std.proofs.Common.{arith, refl, ◌<◌, Result, Ok, Err}
use Rattle.std.specs.Prelude.{All, IsOk, MatchResult}
use Rattle.std.proofs.lemmas.Str.{IsUtf8-from_ascii}
use Rattle.std.proofs.lemmas.Str.Ascii.{IsAscii-from_all}
use Rattle.silo_address.proofs.grain.GrainId.as_str.Goals as goal

ok_where : {T E U : Type 0} (P : T → Type 0) (Q : E → Type 0) (result : Result T E) → MatchResult result P (λ e. (¬ U) × Q e) → U
    → IsOk result
ok_where P Q (Ok value) cases holds = refl
ok_where P Q (Err fault) cases holds = absurd (cases.0 holds)

pub unwrap-requires : goal.unwrap-requires
unwrap-requires c =
    let ascii : All (λ byte. byte < 128) c.as_bytes.result.now = λ k d below. let seen = c.as_bytes.ensures.visible k d below in omega arith in
    ok_where _ _ c.from_utf8.result c.from_utf8.ensures.cases (IsUtf8-from_ascii _ (IsAscii-from_all _ ascii))

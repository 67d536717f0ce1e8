-- A refusal that is passed on.
use Rattle.std.proofs.Common.{◌≡◌, Option, None, Result, Ok, Err, sym, subst}
use Rattle.std.specs.Result.{IsErrAnd}
use Rattle.dumps.specs.ReadAs.{Fails, IsReadingBy}
use Rattle.dumps.specs.declared.error.DumpError.{DumpError}
use Rattle.dumps.specs.declared.error.DumpError.TheVariants.{NotJson, NotADump, OutOfMemory}

-- where a part tells nothing, and so the whole tells nothing
pub passed_on : {A B C : Type 0} (see : A → B) (result : Result A DumpError) (error : DumpError) (part : Option C) (whole : Option B)
    → IsErrAnd result (λ it. it ≡ error) → Fails error part → (part ≡ None → whole ≡ None) → IsReadingBy see result whole
passed_on see (Ok x) error part whole same fails so = absurd same
passed_on see (Err it) error part whole same fails so = subst (λ (e : DumpError). Fails e whole) (sym same) (by error fails)
  where
    by : (e : DumpError) → Fails e part → Fails e whole
    by NotJson fails = fails
    by NotADump fails = so fails
    by OutOfMemory fails = tt

-- What a caller in C has, from one call to the next.
use Rattle.std.specs.Prelude.{◌≡◌, ℕ, zero, suc, List, [], ◌∷◌, length, None}
use base.Fraction.{full_share}
use base.Fml.{Fml, ftrue, fsep, fex, feq, flft, flent}
use mir.Raw.{raw}
use mir.Syntax.{erased, ty_struct, ty_ptr, ty_int, w64, tcons, tnil}
use denote.Builtin.{u8}
use denote.Memory.{lone}
use denote.RawPtr.{Ptr, InBlock, block_ptr}
use denote.Ref.{Bor}
use denote.Slice.{ShrSlice, shr_slice_vals}
use Rattle.std.specs.Ptr.{points_to}
use Rattle.std.specs.declared.alloc.Global.{Global}
use Rattle.std.specs.contracts.impls.GlobalAllocator.TheImpl.{ghosts}
use Rattle.silo_library.specs.OpenSiloValue.{OpenSiloValue, Opens, OpensWithToken, TellsAnswer, TellsRefusal, TellsTokenRefusal}
use Rattle.silo_library.specs.contracts.open_silo.OpenSilo.{the_row}
use Rattle.silo_library.specs.contracts.text.Text.{the_row as text_row}
use Rattle.silo_library.specs.declared.text.Text.{Text}

-- ---- A handle: a pointer to an open silo.
-- the heap of the C program
abbrev pub heap : Global
heap = record { memory = record { seal = tt } }

-- the right to free the silo's block
abbrev pub right_to_free : Ptr → Fml
right_to_free p = ghosts.dealloc_token heap (raw (lone the_row.mir)) p

-- the pointer isn't null
abbrev pub placed : Ptr → Fml
placed p = fex (InBlock p) (λ _. ftrue)

-- the open silo is lent for a while, which whoever has this ends; then it is whole again
abbrev pub lent_for : (while : ℕ) → Ptr → OpenSiloValue → Fml
lent_for while p it = fsep (flft (while ∷ []) full_share) (fsep (flent (while ∷ []) (points_to the_row p it)) (fsep (right_to_free p) (placed p)))

-- a handle of that open silo
abbrev pub is_handle : Ptr → OpenSiloValue → Fml
is_handle p it = fex ℕ (λ while. lent_for while p it)

-- ---- A text, as C has it.
-- it is a pointer, and behind that a number of 64 bits: so the header declares `struct grain_directory_text`
abbrev pub LiesAsInC : Type 0
LiesAsInC = raw (lone text_row.mir) ≡ ty_struct [] (tcons ty_ptr (tcons (ty_int w64) tnil))

-- ---- A handle with an answer, which may be read until the next call on it.
-- the text is where the slice is, which has these bytes
abbrev pub is_read : (while : ℕ) → Text → List ℕ → Bor (List ℕ) → Fml
is_read while text bytes slice =
    fsep ((ShrSlice erased (while ∷ []) u8).own_val slice (shr_slice_vals slice))
    (fsep (feq (List ℕ) slice.now bytes)
    (feq Text text (record { bytes = block_ptr slice.ref_ptr.0 slice.ref_ptr.1; length = length slice.now })))

-- these bytes may be read where the text says, for a while
abbrev pub may_be_read : (while : ℕ) → Text → List ℕ → Fml
may_be_read while text bytes = fex (Bor (List ℕ)) (is_read while text bytes)

-- a handle of that open silo, whose answer may be read where the text says, as long as nobody ends the while
abbrev pub has_answer : Ptr → OpenSiloValue → Text → Fml
has_answer p it text = fex ℕ (λ while. fsep (lent_for while p it) (may_be_read while text it.answer))

-- ---- The functions.
-- 0, and a handle of the silo that is asked for; or a refusal, and the handle is as before
abbrev pub has_opened : (address : List ℕ) (hashing points cache number : ℕ) (old new : Ptr) → Fml
has_opened address hashing points cache zero old new = fex OpenSiloValue (λ it. fex (Opens address None hashing points cache it) (λ _. is_handle new it))
has_opened address hashing points cache (suc number) old new = fex (TellsRefusal address hashing points cache (suc number)) (λ _. feq Ptr new old)

-- the same, of a process that is started with a token
abbrev pub has_opened_with_token : (address token : List ℕ) (hashing points cache number : ℕ) (old new : Ptr) → Fml
has_opened_with_token address token hashing points cache zero old new = fex OpenSiloValue (λ it. fex (OpensWithToken address token hashing points cache it) (λ _. is_handle new it))
has_opened_with_token address token hashing points cache (suc number) old new = fex (TellsTokenRefusal address token hashing points cache (suc number)) (λ _. feq Ptr new old)

-- the number tells what the line made of the open silo, whose handle this still is, and its answer may be read
abbrev pub has_answered : Ptr → (old : OpenSiloValue) (line : List ℕ) (number : ℕ) → Text → Fml
has_answered p old line number text = fex OpenSiloValue (λ new. fex (TellsAnswer old line new number) (λ _. has_answer p new text))

-- The words that slices point to.
use Rattle.std.specs.Prelude.{ℕ, List}
use Rattle.std.specs.Borrow.{Bor}
use Rattle.silo_address.specs.SiloText as text
use Rattle.silo_address.specs.declared.words.SiloWords.{SiloWords}

abbrev pub slice_view : Bor (List ℕ) → List ℕ
slice_view slice = slice.now

abbrev pub cut_view : Bor (List ℕ) × Bor (List ℕ) → List ℕ × List ℕ
cut_view cut = (cut.0.now, cut.1.now)

abbrev pub words_view : SiloWords → text.Words
words_view words = record {
  first = words.first.now;
  second = words.second.now;
  third = words.third.now;
  fourth = words.fourth.now;
  port = words.port.now;
  generation = words.generation.now;
}

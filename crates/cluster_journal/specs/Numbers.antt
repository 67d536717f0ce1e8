-- The number by which users know the refusal.
use Rattle.std.specs.Prelude.{ℕ}
use Rattle.cluster_journal.specs.declared.refusal.CloseRefusal.{CloseRefusal}
use Rattle.cluster_journal.specs.declared.refusal.CloseRefusal.TheVariants.{ReceiptDiffers}

-- the stated number of a refusal
abbrev pub close_refusal_number : CloseRefusal → ℕ
close_refusal_number ReceiptDiffers = 953

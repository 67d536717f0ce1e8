-- The entries of a page or a report, read two words at a time.
use Rattle.std.proofs.Common.{◌≡◌, subst, ap, ◌∙◌, sym, ℕ, Bool, true, false, Option, Result, Ok, Err, List, [], ◌∷◌, ◌++◌}
use Rattle.std.proofs.lemmas.List.{append-nil}
use Rattle.silo_address.specs.Grain.{Grain}
use Rattle.silo_address.specs.declared.Entry.{Entry}
use Rattle.ring_range.specs.Range.{Range}
use Rattle.directory_rules.specs.State.{Letter, Page_letter, Report_letter}
use Rattle.script_rules.specs.Script.{number_word, ◌>>=◌}
use Rattle.process_rules.specs.ReadLetter.{Head, letter_of, range_word, digest_word, are_pairs, last_word, entries_in, entry_of_words, report_behind, page_for}
use Rattle.process_lines.specs.declared.fault.LineError.{LineError}
use Rattle.process_lines.specs.ReadAs.{Fails}
use Rattle.process_lines.specs.Short.{AreSome, LetterTellsList}
use Rattle.process_lines.proofs.Onto.{onto, onto_nil, onto_more, fails_behind, fails_then, brings_then}

-- ---- pairs
pub pairs_more : (words behind after : List (List ℕ)) (one other : List ℕ) → words ≡ one ∷ behind → behind ≡ other ∷ after
    → are_pairs words ≡ are_pairs after
pairs_more words behind after one other first second = ap are_pairs (first ∙ ap (λ (ws : List (List ℕ)). one ∷ ws) second)

pub pairs_odd : (words behind : List (List ℕ)) (one : List ℕ) → words ≡ one ∷ behind → behind ≡ [] → are_pairs words ≡ false
pairs_odd words behind one first second = ap are_pairs (first ∙ ap (λ (ws : List (List ℕ)). one ∷ ws) second)

pub pairs_end : (words : List (List ℕ)) → words ≡ [] → are_pairs words ≡ true
pairs_end words none = ap are_pairs none

pub ruleset pair_by_pair = (pairs_more, pairs_odd, pairs_end)

-- ---- entries
pub entries_first : (words : List (List ℕ)) → entries_in words ≡ onto [] (entries_in words)
entries_first words = sym (onto_nil (entries_in words))

pub entries_more : (before : List Entry) (words behind after : List (List ℕ)) (grain activation : List ℕ) (entry : Entry)
    → words ≡ grain ∷ behind → behind ≡ activation ∷ after
    → Ok entry ≡ entry_of_words grain activation → onto before (entries_in words) ≡ onto (before ++ entry ∷ []) (entries_in after)
entries_more before words behind after grain activation entry first second reads =
    ap (λ (ws : List (List ℕ)). onto before (entries_in ws)) (first ∙ ap (λ (ws : List (List ℕ)). grain ∷ ws) second)
    ∙ ap (λ (read : Result Entry ℕ). onto before (read >>= λ e. entries_in after >>= λ entries. Ok (e ∷ entries))) (sym reads)
    ∙ onto_more before entry (entries_in after)

pub entries_fault : (before : List Entry) (words behind after : List (List ℕ)) (grain activation : List ℕ) (fault : ℕ)
    → words ≡ grain ∷ behind → behind ≡ activation ∷ after
    → Err fault ≡ entry_of_words grain activation → onto before (entries_in words) ≡ Err fault
entries_fault before words behind after grain activation fault first second reads =
    ap (λ (ws : List (List ℕ)). onto before (entries_in ws)) (first ∙ ap (λ (ws : List (List ℕ)). grain ∷ ws) second)
    ∙ ap (λ (read : Result Entry ℕ). onto before (read >>= λ e. entries_in after >>= λ entries. Ok (e ∷ entries))) (sym reads)

pub entries_odd : (before : List Entry) (words behind : List (List ℕ)) (grain : List ℕ) → words ≡ grain ∷ behind → behind ≡ []
    → onto before (entries_in words) ≡ Err 922
entries_odd before words behind grain first second =
    ap (λ (ws : List (List ℕ)). onto before (entries_in ws)) (first ∙ ap (λ (ws : List (List ℕ)). grain ∷ ws) second)

pub entries_end : (before : List Entry) (words : List (List ℕ)) → words ≡ [] → onto before (entries_in words) ≡ Ok before
entries_end before words none = ap (λ (ws : List (List ℕ)). onto before (entries_in ws)) none ∙ ap Ok (append-nil before)

pub ruleset entry_by_entry = (entries_first, entries_more, entries_fault, entries_odd, entries_end, fails_behind)

-- ---- reports and pages
abbrev report_made : Head → Range → Option Grain → Bool → List Entry → Letter
report_made head range after last entries =
    letter_of head (Report_letter (record {
      version = head.version;
      range = range;
      silo = head.from;
      after = after;
      entries = entries;
      last = last;
    }))

module _ (read : Result Head ℕ) (first : List ℕ) (behind_read : Result (Option Grain) ℕ) (second : List ℕ) (words : List (List ℕ))
    (head : Head)
    (range : Range) (after : Option Grain) (last : Bool) where
  report_is : read ≡ Ok head → range_word first ≡ Ok range → behind_read ≡ Ok after → last_word second ≡ Ok last
      → report_behind read first behind_read second words ≡ (entries_in words >>= λ entries. Ok (report_made head range after last entries))
  report_is read_is range_is after_is last_is =
      ap (λ (h : Result Head ℕ). report_behind h first behind_read second words) read_is
      ∙ ap (λ (x : Result Range ℕ). x >>= λ range. behind_read >>= λ after. last_word second >>= λ last. entries_in words >>= λ entries.
      Ok (report_made head range after last entries)) range_is
      ∙ ap (λ (x : Result (Option Grain) ℕ). x >>= λ after. last_word second >>= λ last. entries_in words >>= λ entries.
      Ok (report_made head range after last entries)) after_is
      ∙ ap (λ (x : Result Bool ℕ). x >>= λ last. entries_in words >>= λ entries. Ok (report_made head range after last entries)) last_is

  pub report_fails : (error : LineError) → read ≡ Ok head → range_word first ≡ Ok range → behind_read ≡ Ok after
      → last_word second ≡ Ok last
      → Fails error (entries_in words) → Fails error (report_behind read first behind_read second words)
  report_fails error read_is range_is after_is last_is fails =
      subst (Fails error) (sym (report_is read_is range_is after_is last_is))
      (fails_then error (entries_in words) (report_made head range after last) fails)

  pub report_brings : read ≡ Ok head → range_word first ≡ Ok range → behind_read ≡ Ok after → last_word second ≡ Ok last
      → AreSome (entries_in words) → LetterTellsList (report_behind read first behind_read second words)
  report_brings read_is range_is after_is last_is some =
      subst LetterTellsList (sym (report_is read_is range_is after_is last_is))
      (brings_then (entries_in words) (report_made head range after last) (λ entries some. some) some)

abbrev page_made : Head → Range → (page pages : ℕ) → (digest : List ℕ) → List Entry → Letter
page_made head range page pages digest entries =
    letter_of head (Page_letter (record {
      version = head.version;
      range = range;
      page = page;
      pages = pages;
      digest = digest;
      entries = entries;
    }))

module _ (read : Result Head ℕ) (first second third fourth : List ℕ) (behind : List (List ℕ)) (head : Head) (range : Range) (page pages : ℕ)
    (digest : List ℕ) where
  page_is : read ≡ Ok head → range_word first ≡ Ok range → number_word second ≡ Ok page → number_word third ≡ Ok pages
      → digest_word fourth ≡ Ok digest
      → page_for true read first second third fourth behind
      ≡ (entries_in behind >>= λ entries. Ok (page_made head range page pages digest entries))
  page_is read_is range_is page_reads pages_is digest_is =
      ap (λ (h : Result Head ℕ). page_for true h first second third fourth behind) read_is
      ∙ ap (λ (x : Result Range ℕ). x >>= λ range. number_word second >>= λ page. number_word third >>= λ pages. digest_word fourth >>=
      λ digest. entries_in behind >>= λ entries.
      Ok (page_made head range page pages digest entries)) range_is
      ∙ ap (λ (x : Result ℕ ℕ). x >>= λ page. number_word third >>= λ pages. digest_word fourth >>= λ digest. entries_in behind >>=
      λ entries.
      Ok (page_made head range page pages digest entries)) page_reads
      ∙ ap (λ (x : Result ℕ ℕ). x >>= λ pages. digest_word fourth >>= λ digest. entries_in behind >>= λ entries.
      Ok (page_made head range page pages digest entries)) pages_is
      ∙ ap (λ (x : Result (List ℕ) ℕ). x >>= λ digest. entries_in behind >>= λ entries.
      Ok (page_made head range page pages digest entries)) digest_is

  pub page_fails : (error : LineError) → read ≡ Ok head → range_word first ≡ Ok range → number_word second ≡ Ok page
      → number_word third ≡ Ok pages → digest_word fourth ≡ Ok digest
      → Fails error (entries_in behind) → Fails error (page_for true read first second third fourth behind)
  page_fails error read_is range_is page_reads pages_is digest_is fails =
      subst (Fails error) (sym (page_is read_is range_is page_reads pages_is digest_is))
      (fails_then error (entries_in behind) (page_made head range page pages digest) fails)

  pub page_brings : read ≡ Ok head → range_word first ≡ Ok range → number_word second ≡ Ok page → number_word third ≡ Ok pages
      → digest_word fourth ≡ Ok digest
      → AreSome (entries_in behind) → LetterTellsList (page_for true read first second third fourth behind)
  page_brings read_is range_is page_reads pages_is digest_is some =
      subst LetterTellsList (sym (page_is read_is range_is page_reads pages_is digest_is))
      (brings_then (entries_in behind) (page_made head range page pages digest) (λ entries some. some) some)

-- What queries and reports say is read again, and what is read of them is what was written.
use Rattle.std.proofs.Common.{◌≡◌, ℕ, Bool, true, false, List, [], ◌∷◌, ◌++◌, Option, Some, None, Result, Ok, Err, refl, ap, sym, ◌∙◌, subst}
use Rattle.std.specs.Prelude.{All, IfSome, bytes_eq, codes, if◌then◌else◌}
use Rattle.std.proofs.lemmas.Slice.Eq.{bytes_eq-Decides}
use Rattle.silo_address.specs.Grain.{Grain, IsGrain, grain_text}
use Rattle.silo_address.specs.declared.Entry.{Entry}
use Rattle.silo_address.specs.ActivationText.{activation_text}
use Rattle.ring_range.specs.Range.{Range, IsRange}
use Rattle.ring_range.specs.Text.{range_text}
use Rattle.hash_ring.specs.declared.hashing.Hashing.{Hashing}
use Rattle.directory_rules.specs.declared.letter_kind.LetterKind.TheVariants as kind
use Rattle.directory_rules.specs.State.{Letter, Query_letter, Report_letter}
use Rattle.script_rules.specs.Script.{grain_word, ◌>>=◌}
use Rattle.process_rules.specs.LetterText.{entries_words, after_words, end_word}
use Rattle.process_rules.specs.ReadLetter.{range_word, last_word, entries_in, are_pairs, Head, letter_of, a_query, report_for, a_report}
use Rattle.process_rules.specs.Told.{IsNumber, IsEntry}
use Rattle.process_rules.proofs.Chains.{ok_is, IsSaid, is_said, one_said, two_again, two_said, two_gave, three_again, three_said, three_gave, five_again, five_said, five_gave}
use Rattle.process_rules.proofs.Given.{Gave, moved}
use Rattle.process_rules.proofs.WordsAgain.{grain_again, grain_gave, range_again, range_gave, pairs_again, entries_again, entries_gave}
use Rattle.process_rules.proofs.WordsSaid.{range_said, entries_said}
use Rattle.process_rules.proofs.WordsTold.{grain_told, range_told, entries_told}

abbrev bare_query : Head → Range → Letter
bare_query head range = letter_of head (Query_letter range None)

abbrev query_behind : Head → Range → Grain → Letter
query_behind head range after = letter_of head (Query_letter range (Some after))

abbrev report_made : Head → Range → Option Grain → Bool → List Entry → Letter
report_made head range after last entries =
    letter_of head (Report_letter (record {
      version = head.version;
      range = range;
      silo = head.from;
      after = after;
      entries = entries;
      last = last;
    }))

-- ---- whether it is the last
last_again : (last : Bool) → last_word (end_word last) ≡ Ok last
last_again true = refl
last_again false = refl

last_by : (word : List ℕ) (last is more : Bool) → bytes_eq word (codes "last") ≡ is → bytes_eq word (codes "more") ≡ more
    → ◌≡◌ {A = Result Bool ℕ} (if is then Ok true else (if more then Ok false else Err 932)) (Ok last) → word ≡ end_word last
last_by word last true more is at given = (bytes_eq-Decides word (codes "last")).0 is ∙ ap end_word (ok_is given)
last_by word last false true is at given = (bytes_eq-Decides word (codes "more")).0 at ∙ ap end_word (ok_is given)
last_by word last false false is at given = cc given

last_gave : (word : List ℕ) (last : Bool) → last_word word ≡ Ok last → word ≡ end_word last
last_gave word last given = last_by word last (bytes_eq word (codes "last")) (bytes_eq word (codes "more")) refl refl given

-- ---- the grain behind which is told
after_gave : (word : List ℕ) (after : Option Grain) → (grain_word word >>= λ grain. Ok (Some grain)) ≡ Ok after
    → (grain : Grain) × (grain_word word ≡ Ok grain) × (Some grain ≡ after)
after_gave word after given = by (grain_word word) refl given
  where
    by : (read : Result Grain ℕ) → grain_word word ≡ read → (read >>= λ grain. Ok (Some grain)) ≡ Ok after
        → (grain : Grain) × (grain_word word ≡ Ok grain) × (Some grain ≡ after)
    by (Ok grain) reads makes = (grain, reads, ok_is makes)
    by (Err fault) reads makes = cc makes

-- ---- how many words there are
odd_again : (word : List ℕ) (entries : List Entry) → are_pairs (word ∷ entries_words entries) ≡ false
odd_again word [] = refl
odd_again word (entry ∷ entries) = odd_again (activation_text entry.activation) entries

-- ---- written, and read again
module _ (head : Head) (read : Result Head ℕ) (reads : read ≡ Ok head) where
  pub query_form_again : (range : Range) (after : Option Grain) → IsRange range → IfSome after IsGrain
      → a_query read (range_text range ∷ after_words after) ≡ Ok (letter_of head (Query_letter range after))
  query_form_again range None is is_after = two_again bare_query read (range_word (range_text range)) head range reads (range_again range is)
  query_form_again range (Some grain) is is_after =
      three_again query_behind read (range_word (range_text range)) (grain_word (grain_text grain)) head range grain reads
      (range_again range is) (grain_again grain is_after)

  pub report_form_again : (range : Range) (after : Option Grain) (last : Bool) (entries : List Entry) → IsRange range
      → IfSome after IsGrain → All (IsEntry IsNumber) entries
      → a_report read (range_text range ∷ (after_words after ++ (end_word last ∷ entries_words entries)))
      ≡ Ok (report_made head range after last entries)
  report_form_again range None last entries is is_after are =
      ap (λ (b : Bool). report_for b read (range_text range) (end_word last ∷ entries_words entries)) (odd_again (end_word last) entries)
      ∙ five_again report_made read (range_word (range_text range)) (Ok None) (last_word (end_word last)) (entries_in (entries_words entries))
      head range None last entries reads (range_again range is) refl (last_again last) (entries_again entries are)
  report_form_again range (Some grain) last entries is is_after are =
      ap (λ (b : Bool). report_for b read (range_text range) (grain_text grain ∷ end_word last ∷ entries_words entries)) (pairs_again entries)
      ∙ five_again report_made read (range_word (range_text range)) (grain_word (grain_text grain) >>= λ g. Ok (Some g))
      (last_word (end_word last)) (entries_in (entries_words entries)) head range (Some grain) last entries reads (range_again range is)
      (ap (λ o. o >>= λ g. Ok (Some g)) (grain_again grain is_after)) (last_again last) (entries_again entries are)

-- ---- or not at all
module _ (Fits : ℕ → Type 0) (head : Head) (read : Result Head ℕ) (reads : IsSaid read head) where
  grain_said : (grain : Grain) → IsGrain grain → IsSaid (grain_word (grain_text grain)) grain
  grain_said grain is = is_said (grain_word (grain_text grain)) grain (grain_again grain is)

  pub query_form_said : (range : Range) (after : Option Grain) → IfSome after IsGrain
      → IsSaid (a_query read (range_text range ∷ after_words after)) (letter_of head (Query_letter range after))
  query_form_said range None is = two_said bare_query read (range_word (range_text range)) head range reads (range_said range)
  query_form_said range (Some grain) is =
      three_said query_behind read (range_word (range_text range)) (grain_word (grain_text grain)) head range grain reads (range_said range)
      (grain_said grain is)

  pub report_form_said : (range : Range) (after : Option Grain) (last : Bool) (entries : List Entry) → IfSome after IsGrain
      → All (IsEntry Fits) entries
      → IsSaid (a_report read (range_text range ∷ (after_words after ++ (end_word last ∷ entries_words entries))))
      (report_made head range after last entries)
  report_form_said range None last entries is are =
      subst (λ (b : Bool). IsSaid (report_for b read (range_text range) (end_word last ∷ entries_words entries))
      (report_made head range None last entries)) (sym (odd_again (end_word last) entries))
      (five_said report_made read (range_word (range_text range)) (Ok None) (last_word (end_word last)) (entries_in (entries_words entries))
      head range None last entries reads (range_said range) refl (is_said (last_word (end_word last)) last (last_again last))
      (entries_said Fits entries are))
  report_form_said range (Some grain) last entries is are =
      subst (λ (b : Bool). IsSaid (report_for b read (range_text range) (grain_text grain ∷ end_word last ∷ entries_words entries))
      (report_made head range (Some grain) last entries)) (sym (pairs_again entries))
      (five_said report_made read (range_word (range_text range)) (grain_word (grain_text grain) >>= λ g. Ok (Some g))
      (last_word (end_word last)) (entries_in (entries_words entries)) head range (Some grain) last entries reads (range_said range)
      (one_said Some (grain_word (grain_text grain)) grain (grain_said grain is))
      (is_said (last_word (end_word last)) last (last_again last)) (entries_said Fits entries are))

-- ---- what was read is what was written
module _ (hashing : Hashing) (read : Result Head ℕ) (letter : Letter) where
  pub query_gave : (words : List (List ℕ)) → a_query read words ≡ Ok letter → Gave hashing read kind.Query words letter
  query_gave [] given = cc given
  query_gave (range ∷ []) given =
      let p = two_gave bare_query read (range_word range) letter given in
      moved hashing read p.0 kind.Query (range ∷ []) (range_text p.1 ∷ []) (bare_query p.0 p.1) letter p.2
      (λ i. range_gave range p.1 p.3 i ∷ []) p.4
      (record { head_is = refl; kind_is = refl; words_are = refl; body = (range_told range p.1 p.3, tt) })
  query_gave (range ∷ after ∷ []) given =
      let p = three_gave query_behind read (range_word range) (grain_word after) letter given in
      moved hashing read p.0 kind.Query (range ∷ after ∷ []) (range_text p.1 ∷ grain_text p.2 ∷ []) (query_behind p.0 p.1 p.2) letter p.3
      (λ i. range_gave range p.1 p.4 i ∷ grain_gave after p.2 p.5 i ∷ []) p.6
      (record { head_is = refl; kind_is = refl; words_are = refl; body = (range_told range p.1 p.4, grain_told after p.2 p.5) })
  query_gave (one ∷ two ∷ three ∷ words) given = cc given

  report_by : (pairs : Bool) (range : List ℕ) (words : List (List ℕ)) → report_for pairs read range words ≡ Ok letter
      → Gave hashing read kind.Report (range ∷ words) letter
  report_by false range [] given = cc given
  report_by false range (last ∷ words) given =
      let p = five_gave report_made read (range_word range) (Ok None) (last_word last) (entries_in words) letter given in
      let none : None ≡ p.2 = ok_is p.7 in
      moved hashing read p.0 kind.Report (range ∷ last ∷ words)
      (range_text p.1 ∷ (after_words p.2 ++ (end_word p.3 ∷ entries_words p.4))) (report_made p.0 p.1 p.2 p.3 p.4) letter p.5
      ((λ i. range_gave range p.1 p.6 i ∷ last_gave last p.3 p.8 i ∷ entries_gave words p.4 p.9 i)
      ∙ ap (λ o. range_text p.1 ∷ (after_words o ++ (end_word p.3 ∷ entries_words p.4))) none) p.10
      (record {
        head_is = refl;
        kind_is = refl;
        words_are = refl;
        body =
            record {
              version = refl;
              range = range_told range p.1 p.6;
              silo = refl;
              after = subst (λ o. IfSome o IsGrain) none tt;
              entries = entries_told words p.4 p.9;
            };
      })
  report_by true range [] given = cc given
  report_by true range (one ∷ []) given = cc given
  report_by true range (after ∷ last ∷ words) given =
      let p = five_gave report_made read (range_word range) (grain_word after >>= λ g. Ok (Some g)) (last_word last) (entries_in words) letter given in
      let its = after_gave after p.2 p.7 in
      moved hashing read p.0 kind.Report (range ∷ after ∷ last ∷ words)
      (range_text p.1 ∷ (after_words p.2 ++ (end_word p.3 ∷ entries_words p.4))) (report_made p.0 p.1 p.2 p.3 p.4) letter p.5
      ((λ i. range_gave range p.1 p.6 i ∷ grain_gave after its.0 its.1 i ∷ last_gave last p.3 p.8 i ∷ entries_gave words p.4 p.9 i)
      ∙ ap (λ o. range_text p.1 ∷ (after_words o ++ (end_word p.3 ∷ entries_words p.4))) its.2) p.10
      (record {
        head_is = refl;
        kind_is = refl;
        words_are = refl;
        body =
            record {
              version = refl;
              range = range_told range p.1 p.6;
              silo = refl;
              after = subst (λ o. IfSome o IsGrain) its.2 (grain_told after its.0 its.1);
              entries = entries_told words p.4 p.9;
            };
      })

  pub report_gave : (words : List (List ℕ)) → a_report read words ≡ Ok letter → Gave hashing read kind.Report words letter
  report_gave [] given = cc given
  report_gave (range ∷ words) given = report_by (are_pairs words) range words given

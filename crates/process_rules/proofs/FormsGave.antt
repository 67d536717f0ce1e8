-- What is read of what stands behind a kind is what was written.
use Rattle.std.proofs.Common.{◌≡◌, ℕ, Bool, true, false, List, [], ◌∷◌, ◌++◌, Option, Some, None, Result, Ok, Err, refl, ap, sym, ◌∙◌, subst, decimal}
use Rattle.std.specs.Prelude.{bytes_eq, codes, cond}
use Rattle.std.proofs.lemmas.Slice.Eq.{bytes_eq-Decides}
use Rattle.hex.specs.Hex.{encode_lower}
use Rattle.silo_address.specs.Grain.{grain_text}
use Rattle.silo_address.specs.declared.Entry.{Entry}
use Rattle.silo_address.specs.ActivationText.{activation_text}
use Rattle.ring_range.specs.Range.{Range, IsRange}
use Rattle.ring_range.specs.Text.{range_text}
use Rattle.hash_ring.specs.declared.hashing.Hashing.{Hashing}
use Rattle.directory_rules.specs.declared.act.Act.TheVariants as act
use Rattle.directory_rules.specs.declared.reply.Why.{Why}
use Rattle.directory_rules.specs.declared.reply.Why.TheVariants as why
use Rattle.directory_rules.specs.declared.reply.Reply.{Reply}
use Rattle.directory_rules.specs.declared.reply.Reply.TheVariants as reply
use Rattle.directory_rules.specs.declared.letter_kind.LetterKind.{LetterKind}
use Rattle.directory_rules.specs.declared.letter_kind.LetterKind.TheVariants as kind
use Rattle.directory_rules.specs.State.{Letter, Body, Missing_letter, Done_letter, Survey_letter, Empty_letter, Behind_letter, Ahead_letter}
use Rattle.directory_rules.specs.Letter.{kind_of, reply_kind}
use Rattle.script_rules.specs.Script.{grain_word, number_word, ◌>>=◌}
use Rattle.process_rules.specs.LetterText.{entry_words, entries_words, why_words, reply_words, body_words}
use Rattle.process_rules.specs.ReadLetter.{activation_word, range_word, digest_word, entry_of_words, entries_in, are_pairs, Head, request_of, a_register, a_number_and_an_entry, a_find, a_number, with_number, alone, retry_for, retry_by, a_retry, an_ask, page_for, a_page, a_range, an_offer, reply_of, form_of}
use Rattle.process_rules.specs.Told.{IsNumber, IsEntry, IsWhy, IsReply, IsToldBody}
use Rattle.process_rules.proofs.Chains.{ok_is, two_gave, three_gave, four_gave, six_gave}
use Rattle.process_rules.proofs.WordsAgain.{number_gave, grain_gave, activation_gave, range_gave, digest_gave, entry_gave, entries_gave}
use Rattle.process_rules.proofs.Given.{head_in, Gave, moved}
use Rattle.process_rules.proofs.RangeForms.{ranges_made, ranges_form_gave}
use Rattle.process_rules.proofs.ReportForms.{query_gave, report_gave}
use Rattle.process_rules.proofs.WordsTold.{number_told, grain_told, activation_told, range_told, digest_told, entry_told, entries_told}
use Rattle.process_rules.proofs.FormsAgain.{first_register, next_register, find_made, reply_made, retry_made, ask_made, page_made, range_made, offer_made}

module _ (hashing : Hashing) (read : Result Head ℕ) (letter : Letter) where
  entry_form_gave : (of : Head → ℕ → Entry → Letter) (named : LetterKind)
      → ((head : Head) (number : ℕ) (entry : Entry) → IsNumber number → IsEntry IsNumber entry
      → Gave hashing (Ok head) named (decimal number ∷ entry_words entry) (of head number entry))
      → (words : List (List ℕ)) → a_number_and_an_entry of read words ≡ Ok letter → Gave hashing read named words letter
  entry_form_gave of named gives [] given = cc given
  entry_form_gave of named gives (one ∷ []) given = cc given
  entry_form_gave of named gives (one ∷ two ∷ []) given = cc given
  entry_form_gave of named gives (number ∷ grain ∷ activation ∷ []) given =
      let p = three_gave of read (number_word number) (entry_of_words grain activation) letter given in
      let entry = entry_gave grain activation p.2 p.5 in
      moved hashing read p.0 named (number ∷ grain ∷ activation ∷ []) (decimal p.1 ∷ entry_words p.2) (of p.0 p.1 p.2) letter p.3
      (λ i. number_gave number p.1 p.4 i ∷ entry.0 i ∷ entry.1 i ∷ []) p.6
      (gives p.0 p.1 p.2 (number_told number p.1 p.4) (entry_told grain activation p.2 p.5))
  entry_form_gave of named gives (one ∷ two ∷ three ∷ four ∷ words) given = cc given

  number_form_gave : (reply : Reply) → IsReply IsNumber reply → reply_words reply ≡ [] → (words : List (List ℕ))
      → a_number reply read words ≡ Ok letter → Gave hashing read (reply_kind reply) words letter
  number_form_gave reply is says [] given = cc given
  number_form_gave reply is says (number ∷ []) given =
      let p = two_gave (reply_made reply) read (number_word number) letter given in
      moved hashing read p.0 (reply_kind reply) (number ∷ []) (decimal p.1 ∷ []) (reply_made reply p.0 p.1) letter p.2
      (λ i. number_gave number p.1 p.3 i ∷ []) p.4
      (record {
        head_is = refl;
        kind_is = refl;
        words_are = ap (λ (ws : List (List ℕ)). decimal p.1 ∷ ws) (sym says);
        body = (number_told number p.1 p.3, is);
      })
  number_form_gave reply is says (one ∷ two ∷ words) given = cc given

  range_form_gave : (of : Range → Body) (named : LetterKind)
      → ((head : Head) (range : Range) → IsRange range → Gave hashing (Ok head) named (range_text range ∷ []) (range_made of head range))
      → (words : List (List ℕ)) → a_range of read words ≡ Ok letter → Gave hashing read named words letter
  range_form_gave of named gives [] given = cc given
  range_form_gave of named gives (range ∷ []) given =
      let p = two_gave (range_made of) read (range_word range) letter given in
      moved hashing read p.0 named (range ∷ []) (range_text p.1 ∷ []) (range_made of p.0 p.1) letter p.2
      (λ i. range_gave range p.1 p.3 i ∷ []) p.4
      (gives p.0 p.1 (range_told range p.1 p.3))
  range_form_gave of named gives (one ∷ two ∷ words) given = cc given

  register_gave : (words : List (List ℕ)) → a_register hashing read words ≡ Ok letter → Gave hashing read kind.Register words letter
  register_gave [] given = cc given
  register_gave (one ∷ []) given = cc given
  register_gave (one ∷ two ∷ []) given = cc given
  register_gave (number ∷ grain ∷ activation ∷ []) given =
      let p = three_gave (first_register hashing) read (number_word number) (entry_of_words grain activation) letter given in
      let entry = entry_gave grain activation p.2 p.5 in
      moved hashing read p.0 kind.Register (number ∷ grain ∷ activation ∷ []) (decimal p.1 ∷ entry_words p.2)
      (first_register hashing p.0 p.1 p.2) letter p.3
      (λ i. number_gave number p.1 p.4 i ∷ entry.0 i ∷ entry.1 i ∷ []) p.6
      (record {
        head_is = refl;
        kind_is = refl;
        words_are = refl;
        body =
            record {
              sender = refl;
              version = refl;
              number = number_told number p.1 p.4;
              hash = refl;
              act = (entry_told grain activation p.2 p.5, tt);
            };
      })
  register_gave (number ∷ grain ∷ activation ∷ previous ∷ []) given =
      let p = four_gave (next_register hashing) read (number_word number) (entry_of_words grain activation) (activation_word previous) letter given in
      let entry = entry_gave grain activation p.2 p.6 in
      moved hashing read p.0 kind.Register (number ∷ grain ∷ activation ∷ previous ∷ [])
      (decimal p.1 ∷ (entry_words p.2 ++ activation_text p.3 ∷ [])) (next_register hashing p.0 p.1 p.2 p.3) letter p.4
      (λ i. number_gave number p.1 p.5 i ∷ entry.0 i ∷ entry.1 i ∷ activation_gave previous p.3 p.7 i ∷ []) p.8
      (record {
        head_is = refl;
        kind_is = refl;
        words_are = refl;
        body =
            record {
              sender = refl;
              version = refl;
              number = number_told number p.1 p.5;
              hash = refl;
              act = (entry_told grain activation p.2 p.6, activation_told previous p.3 p.7);
            };
      })
  register_gave (one ∷ two ∷ three ∷ four ∷ five ∷ words) given = cc given

  find_gave : (words : List (List ℕ)) → a_find hashing read words ≡ Ok letter → Gave hashing read kind.Find words letter
  find_gave [] given = cc given
  find_gave (one ∷ []) given = cc given
  find_gave (number ∷ grain ∷ []) given =
      let p = three_gave (find_made hashing) read (number_word number) (grain_word grain) letter given in
      moved hashing read p.0 kind.Find (number ∷ grain ∷ []) (decimal p.1 ∷ grain_text p.2 ∷ []) (find_made hashing p.0 p.1 p.2) letter p.3
      (λ i. number_gave number p.1 p.4 i ∷ grain_gave grain p.2 p.5 i ∷ []) p.6
      (record {
        head_is = refl;
        kind_is = refl;
        words_are = refl;
        body = record { sender = refl; version = refl; number = number_told number p.1 p.4; hash = refl; act = grain_told grain p.2 p.5 };
      })
  find_gave (one ∷ two ∷ three ∷ words) given = cc given

  ask_gave : (words : List (List ℕ)) → an_ask read words ≡ Ok letter → Gave hashing read kind.Ask words letter
  ask_gave [] given = cc given
  ask_gave (one ∷ []) given = cc given
  ask_gave (range ∷ page ∷ []) given =
      let p = three_gave ask_made read (range_word range) (number_word page) letter given in
      moved hashing read p.0 kind.Ask (range ∷ page ∷ []) (range_text p.1 ∷ decimal p.2 ∷ []) (ask_made p.0 p.1 p.2) letter p.3
      (λ i. range_gave range p.1 p.4 i ∷ number_gave page p.2 p.5 i ∷ []) p.6
      (record { head_is = refl; kind_is = refl; words_are = refl; body = (range_told range p.1 p.4, number_told page p.2 p.5) })
  ask_gave (one ∷ two ∷ three ∷ words) given = cc given

  offer_gave : (words : List (List ℕ)) → an_offer read words ≡ Ok letter → Gave hashing read kind.Offer words letter
  offer_gave [] given = cc given
  offer_gave (one ∷ []) given = cc given
  offer_gave (grain ∷ activation ∷ []) given =
      let p = two_gave offer_made read (entry_of_words grain activation) letter given in
      let entry = entry_gave grain activation p.1 p.3 in
      moved hashing read p.0 kind.Offer (grain ∷ activation ∷ []) (entry_words p.1) (offer_made p.0 p.1) letter p.2
      (λ i. entry.0 i ∷ entry.1 i ∷ []) p.4 (record {
        head_is = refl;
        kind_is = refl;
        words_are = refl;
        body = entry_told grain activation
            p.1 p.3;
      })
  offer_gave (one ∷ two ∷ three ∷ words) given = cc given

  page_by : (pairs : Bool) (range page pages digest : List ℕ) (words : List (List ℕ))
      → page_for pairs read range page pages digest words ≡ Ok letter
      → Gave hashing read kind.Page (range ∷ page ∷ pages ∷ digest ∷ words) letter
  page_by false range page pages digest words given = cc given
  page_by true range page pages digest words given =
      let p = six_gave page_made read (range_word range) (number_word page) (number_word pages) (digest_word digest) (entries_in words) letter given in
      moved hashing read p.0 kind.Page (range ∷ page ∷ pages ∷ digest ∷ words)
      (range_text p.1 ∷ decimal p.2 ∷ decimal p.3 ∷ encode_lower p.4 ∷ entries_words p.5) (page_made p.0 p.1 p.2 p.3 p.4 p.5) letter p.6
      (λ i. range_gave range p.1 p.7 i ∷ number_gave page p.2 p.8 i ∷ number_gave pages p.3 p.9 i ∷ digest_gave digest p.4 p.10 i ∷
      entries_gave words p.5 p.11 i) p.12
      (record {
        head_is = refl;
        kind_is = refl;
        words_are = refl;
        body =
            record {
              version = refl;
              range = range_told range p.1 p.7;
              page = number_told page p.2 p.8;
              pages = number_told pages p.3 p.9;
              digest = digest_told digest p.4 p.10;
              entries = entries_told words p.5 p.11;
            };
      })

  page_gave : (words : List (List ℕ)) → a_page read words ≡ Ok letter → Gave hashing read kind.Page words letter
  page_gave [] given = cc given
  page_gave (one ∷ []) given = cc given
  page_gave (one ∷ two ∷ []) given = cc given
  page_gave (one ∷ two ∷ three ∷ []) given = cc given
  page_gave (range ∷ page ∷ pages ∷ digest ∷ words) given = page_by (are_pairs words) range page pages digest words given

  -- a reason that gave something: its words are those of what it gave
  retry_of : (number reason : List ℕ) (words : List (List ℕ)) (why : Option (Result Why ℕ))
      → ((given : Result Why ℕ) (made : Why) → why ≡ Some given → given ≡ Ok made → (reason ∷ words ≡ why_words made) × IsWhy IsNumber made)
      → retry_for read number why ≡ Ok letter → Gave hashing read kind.Retry (number ∷ reason ∷ words) letter
  retry_of number reason words None says given = cc given
  retry_of number reason words (Some why) says given =
      let p = three_gave retry_made read (number_word number) why letter given in
      let told_why = says why p.2 refl p.5 in
      moved hashing read p.0 kind.Retry (number ∷ reason ∷ words) (decimal p.1 ∷ why_words p.2) (retry_made p.0 p.1 p.2) letter p.3
      (λ i. number_gave number p.1 p.4 i ∷ told_why.0 i) p.6
      (record { head_is = refl; kind_is = refl; words_are = refl; body = (number_told number p.1 p.4, told_why.1) })

  numbered : (of : ℕ → Why) (name reason : List ℕ) →
      ((n : ℕ) → IsNumber n → (name ∷ decimal n ∷ [] ≡ why_words (of n)) × IsWhy IsNumber (of n)) → reason ≡ name
      → (words : List (List ℕ)) (given : Result Why ℕ) (made : Why)
      → with_number of words ≡ Some given → given ≡ Ok made → (reason ∷ words ≡ why_words made) × IsWhy IsNumber made
  numbered of name reason writes is [] given made some gives = cc some
  numbered of name reason writes is (number ∷ []) given made some gives = by (number_word number) refl (some_is some ∙ gives)
    where
      some_is : {a b : Result Why ℕ} → Some a ≡ Some b → a ≡ b
      some_is same = cc

      by : (read : Result ℕ ℕ) → number_word number ≡ read → (read >>= λ n. Ok (of n)) ≡ Ok made
          → (reason ∷ number ∷ [] ≡ why_words made) × IsWhy IsNumber made
      by (Ok n) reads makes =
          let says = writes n (number_told number n reads) in (
            (λ i. is i ∷ number_gave number n reads i ∷ []) ∙ says.0
                ∙ ap why_words (ok_is makes),
            subst (IsWhy IsNumber) (ok_is makes) says.1,
          )
      by (Err fault) reads makes = cc makes
  numbered of name reason writes is (one ∷ two ∷ words) given made some gives = cc some

  lone : (of : Why) (name reason : List ℕ) → (name ∷ [] ≡ why_words of) × IsWhy IsNumber of → reason ≡ name
      → (words : List (List ℕ)) (given : Result Why ℕ) (made : Why)
      → alone of words ≡ Some given → given ≡ Ok made → (reason ∷ words ≡ why_words made) × IsWhy IsNumber made
  lone of name reason writes is [] given made some gives = (
    (λ i. is i ∷ []) ∙ writes.0 ∙ ap why_words (ok_is (some_is some ∙ gives)),
    subst (IsWhy IsNumber) (ok_is (some_is some ∙ gives))
        writes.1,
  )
    where
      some_is : {a b : Result Why ℕ} → Some a ≡ Some b → a ≡ b
      some_is same = cc
  lone of name reason writes is (one ∷ words) given made some gives = cc some

  retry_gave : (words : List (List ℕ)) → a_retry read words ≡ Ok letter → Gave hashing read kind.Retry words letter
  retry_gave [] given = cc given
  retry_gave (one ∷ []) given = cc given
  retry_gave (number ∷ reason ∷ words) given = first (bytes_eq reason (codes "601")) refl given
    where
      same : (name : List ℕ) → bytes_eq reason name ≡ true → reason ≡ name
      same name is = (bytes_eq-Decides reason name).0 is

      fourth : (is : Bool) → bytes_eq reason (codes "604") ≡ is
          → retry_by (cond is (Some (alone why.NotOwner)) None) read number words ≡ Ok letter
          → Gave hashing read kind.Retry (number ∷ reason ∷ words) letter
      fourth true is given =
          retry_of number reason words (alone why.NotOwner words)
          (lone why.NotOwner (codes "604") reason (refl, tt) (same (codes "604") is) words) given
      fourth false is given = cc given

      third : (is : Bool) → bytes_eq reason (codes "603") ≡ is
          → retry_by (cond is (Some (with_number why.OldNumber)) (cond (bytes_eq reason (codes "604")) (Some (alone why.NotOwner)) None))
          read number words ≡ Ok letter → Gave hashing read kind.Retry (number ∷ reason ∷ words) letter
      third true is given =
          retry_of number reason words (with_number why.OldNumber words)
          (numbered why.OldNumber (codes "603") reason (λ n is. (refl, is)) (same (codes "603") is) words) given
      third false is given = fourth (bytes_eq reason (codes "604")) refl given

      second : (is : Bool) → bytes_eq reason (codes "602") ≡ is
          → retry_by (cond is (Some (alone why.Unsettled))
          (cond (bytes_eq reason (codes "603")) (Some (with_number why.OldNumber))
          (cond (bytes_eq reason (codes "604")) (Some (alone why.NotOwner)) None))) read number words ≡ Ok letter
          → Gave hashing read kind.Retry (number ∷ reason ∷ words) letter
      second true is given =
          retry_of number reason words (alone why.Unsettled words)
          (lone why.Unsettled (codes "602") reason (refl, tt) (same (codes "602") is) words) given
      second false is given = third (bytes_eq reason (codes "603")) refl given

      first : (is : Bool) → bytes_eq reason (codes "601") ≡ is
          → retry_by (cond is (Some (with_number why.View))
          (cond (bytes_eq reason (codes "602")) (Some (alone why.Unsettled))
          (cond (bytes_eq reason (codes "603")) (Some (with_number why.OldNumber))
          (cond (bytes_eq reason (codes "604")) (Some (alone why.NotOwner)) None)))) read number words ≡ Ok letter
          → Gave hashing read kind.Retry (number ∷ reason ∷ words) letter
      first true is given =
          retry_of number reason words (with_number why.View words)
          (numbered why.View (codes "601") reason (λ n is. (refl, is)) (same (codes "601") is) words) given
      first false is given = second (bytes_eq reason (codes "602")) refl given

  as_told : (head : Head) (letter : Letter) → head_in letter ≡ head
      → IsToldBody IsNumber IsRange hashing letter.from letter.version letter.body
      → Gave hashing (Ok head) (kind_of letter.body) (body_words letter.body) letter
  as_told head letter is body = record { head_is = ap Ok (sym is); kind_is = refl; words_are = refl; body = body }

  pub form_gave : (kind : LetterKind) (words : List (List ℕ)) → form_of hashing kind read words ≡ Ok letter
      → Gave hashing read kind words letter
  form_gave kind.Register words given = register_gave words given
  form_gave kind.Deregister words given =
      entry_form_gave (λ h n e. request_of hashing h n (act.Deregister e)) kind.Deregister
      (λ h n e is is_entry. as_told h (request_of hashing h n (act.Deregister e)) refl
      (record { sender = refl; version = refl; number = is; hash = refl; act = is_entry })) words given
  form_gave kind.Find words given = find_gave words given
  form_gave kind.Registered words given =
      entry_form_gave (reply_of reply.Registered) kind.Registered
      (λ h n e is is_entry. as_told h (reply_of reply.Registered h n e) refl (is, is_entry)) words given
  form_gave kind.Taken words given =
      entry_form_gave (reply_of reply.Taken) kind.Taken (λ h n e is is_entry. as_told h (reply_of reply.Taken h n e) refl (is, is_entry))
      words given
  form_gave kind.Removed words given = number_form_gave reply.Removed tt refl words given
  form_gave kind.Absent words given = number_form_gave reply.Absent tt refl words given
  form_gave kind.Found words given =
      entry_form_gave (reply_of reply.Found) kind.Found (λ h n e is is_entry. as_told h (reply_of reply.Found h n e) refl (is, is_entry))
      words given
  form_gave kind.Nothing words given = number_form_gave reply.Nothing tt refl words given
  form_gave kind.Retry words given = retry_gave words given
  form_gave kind.Ask words given = ask_gave words given
  form_gave kind.Page words given = page_gave words given
  form_gave kind.Missing words given =
      range_form_gave Missing_letter kind.Missing (λ h range is. as_told h (range_made Missing_letter h range) refl is) words given
  form_gave kind.Done words given =
      range_form_gave Done_letter kind.Done (λ h range is. as_told h (range_made Done_letter h range) refl is) words given
  form_gave kind.Query words given = query_gave hashing read letter words given
  form_gave kind.Report words given = report_gave hashing read letter words given
  form_gave kind.Survey words given =
      ranges_form_gave hashing read letter Survey_letter kind.Survey
      (λ h ranges is. as_told h (ranges_made Survey_letter h ranges) refl is) words given
  form_gave kind.Empty words given =
      ranges_form_gave hashing read letter Empty_letter kind.Empty
      (λ h ranges is. as_told h (ranges_made Empty_letter h ranges) refl is) words given
  form_gave kind.Behind words given =
      range_form_gave Behind_letter kind.Behind (λ h range is. as_told h (range_made Behind_letter h range) refl is) words given
  form_gave kind.Ahead words given =
      range_form_gave Ahead_letter kind.Ahead (λ h range is. as_told h (range_made Ahead_letter h range) refl is) words given
  form_gave kind.Offer words given = offer_gave words given

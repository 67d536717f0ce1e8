-- What stands behind a kind is read again.
use Rattle.std.proofs.Common.{◌≡◌, ℕ, Bool, List, [], ◌∷◌, Some, None, Result, Ok, refl, ap, sym, ◌∙◌, decimal}
use Rattle.hex.specs.Hex.{encode_lower}
use Rattle.silo_address.specs.Grain.{Grain, grain_text}
use Rattle.silo_address.specs.declared.ActivationId.{ActivationId}
use Rattle.silo_address.specs.declared.Entry.{Entry}
use Rattle.silo_address.specs.ActivationText.{activation_text}
use Rattle.ring_range.specs.Range.{Range, IsRange}
use Rattle.ring_range.specs.Text.{range_text}
use Rattle.hash_ring.specs.declared.hashing.Hashing.{Hashing}
use Rattle.directory_rules.specs.declared.act.Act.{Act}
use Rattle.directory_rules.specs.declared.act.Act.TheVariants as act
use Rattle.directory_rules.specs.declared.reply.Why.{Why}
use Rattle.directory_rules.specs.declared.reply.Why.TheVariants as why
use Rattle.directory_rules.specs.declared.reply.Reply.{Reply}
use Rattle.directory_rules.specs.declared.reply.Reply.TheVariants as reply
use Rattle.directory_rules.specs.State.{Letter, Body, Request_letter, Reply_letter, Ask_letter, Page_letter, Missing_letter, Done_letter, Query_letter, Report_letter, Survey_letter, Empty_letter, Behind_letter, Ahead_letter, Offer_letter}
use Rattle.directory_rules.specs.Letter.{kind_of, act_kind, reply_kind}
use Rattle.script_rules.specs.Script.{grain_word, number_word, ◌>>=◌}
use Rattle.process_rules.specs.LetterText.{entry_words, entries_words, act_words, why_words, reply_words, body_words}
use Rattle.process_rules.specs.ReadLetter.{activation_word, range_word, digest_word, entry_of_words, entries_in, Head, letter_of, request_of, a_number_and_an_entry, a_number, retry_for, a_retry, page_for, a_range, reply_of, form_of}
use Rattle.process_rules.specs.Told.{IsNumber, IsEntry, IsAct, IsWhy, IsReply, IsToldBody}
use Rattle.process_rules.proofs.Chains.{two_again, three_again, four_again, six_again}
use Rattle.process_rules.proofs.WordsAgain.{number_again, grain_again, activation_again, range_again, digest_again, entry_again, pairs_again, entries_again}
use Rattle.process_rules.proofs.RangeForms.{ranges_form_again}
use Rattle.process_rules.proofs.ReportForms.{query_form_again, report_form_again}

-- ---- what each form makes of what it reads
abbrev pub first_register : Hashing → Head → ℕ → Entry → Letter
first_register hashing head number entry = request_of hashing head number (act.Register entry None)

abbrev pub next_register : Hashing → Head → ℕ → Entry → ActivationId → Letter
next_register hashing head number entry previous = request_of hashing head number (act.Register entry (Some previous))

abbrev pub find_made : Hashing → Head → ℕ → Grain → Letter
find_made hashing head number grain = request_of hashing head number (act.Find grain)

abbrev pub reply_made : Reply → Head → ℕ → Letter
reply_made reply head number = letter_of head (Reply_letter number reply)

abbrev pub retry_made : Head → ℕ → Why → Letter
retry_made head number why = letter_of head (Reply_letter number (reply.Retry why))

abbrev pub ask_made : Head → Range → ℕ → Letter
ask_made head range page = letter_of head (Ask_letter range page)

abbrev pub page_made : Head → Range → ℕ → ℕ → List ℕ → List Entry → Letter
page_made head range page pages digest entries =
    letter_of head (Page_letter (record {
      version = head.version;
      range = range;
      page = page;
      pages = pages;
      digest = digest;
      entries = entries;
    }))

abbrev pub range_made : (Range → Body) → Head → Range → Letter
range_made of head range = letter_of head (of range)

abbrev pub offer_made : Head → Entry → Letter
offer_made head entry = letter_of head (Offer_letter entry)

-- ---- written, and read again
module _ (hashing : Hashing) (head : Head) (read : Result Head ℕ) (reads : read ≡ Ok head) where
  entry_form_again : (of : Head → ℕ → Entry → Letter) (number : ℕ) (entry : Entry) → IsNumber number → IsEntry IsNumber entry
      → a_number_and_an_entry of read (decimal number ∷ entry_words entry) ≡ Ok (of head number entry)
  entry_form_again of number entry is is_entry =
      three_again of read (number_word (decimal number)) (entry_of_words (grain_text entry.grain) (activation_text entry.activation)) head
      number entry
      reads (number_again number is) (entry_again entry is_entry)

  number_form_again : (reply : Reply) (number : ℕ) → IsNumber number
      → a_number reply read (decimal number ∷ []) ≡ Ok (reply_made reply head number)
  number_form_again reply number is =
      two_again (reply_made reply) read (number_word (decimal number)) head number reads (number_again number is)

  range_form_again : (of : Range → Body) (range : Range) → IsRange range
      → a_range of read (range_text range ∷ []) ≡ Ok (letter_of head (of range))
  range_form_again of range is = two_again (range_made of) read (range_word (range_text range)) head range reads (range_again range is)

  pub act_again : (number : ℕ) (act : Act) → IsNumber number → IsAct IsNumber act
      → form_of hashing (act_kind act) read (decimal number ∷ act_words act) ≡ Ok (request_of hashing head number act)
  act_again number (act.Register entry None) is is_act =
      three_again (first_register hashing) read (number_word (decimal number))
      (entry_of_words (grain_text entry.grain) (activation_text entry.activation)) head number entry
      reads (number_again number is) (entry_again entry is_act.0)
  act_again number (act.Register entry (Some previous)) is is_act =
      four_again (next_register hashing) read (number_word (decimal number))
      (entry_of_words (grain_text entry.grain) (activation_text entry.activation))
      (activation_word (activation_text previous)) head number entry previous
      reads (number_again number is) (entry_again entry is_act.0) (activation_again previous is_act.1)
  act_again number (act.Deregister entry) is is_act =
      entry_form_again (λ h n e. request_of hashing h n (act.Deregister e)) number entry is is_act
  act_again number (act.Find grain) is is_act =
      three_again (find_made hashing) read (number_word (decimal number)) (grain_word (grain_text grain)) head number grain reads
      (number_again number is) (grain_again grain is_act)

  retry_with : (number : ℕ) (why : Why) (given : Result Why ℕ) → IsNumber number → given ≡ Ok why
      → retry_for read (decimal number) (Some given) ≡ Ok (retry_made head number why)
  retry_with number why given is is_why =
      three_again retry_made read (number_word (decimal number)) given head number why reads (number_again number is) is_why

  retry_again : (number : ℕ) (why : Why) → IsNumber number → IsWhy IsNumber why
      → a_retry read (decimal number ∷ why_words why) ≡ Ok (retry_made head number why)
  retry_again number (why.View seen) is is_why =
      retry_with number (why.View seen) (number_word (decimal seen) >>= λ n. Ok (why.View n)) is
      (ap (λ o. o >>= λ n. Ok (why.View n)) (number_again seen is_why))
  retry_again number why.Unsettled is is_why = retry_with number why.Unsettled (Ok why.Unsettled) is refl
  retry_again number (why.OldNumber last) is is_why =
      retry_with number (why.OldNumber last) (number_word (decimal last) >>= λ n. Ok (why.OldNumber n)) is
      (ap (λ o. o >>= λ n. Ok (why.OldNumber n)) (number_again last is_why))
  retry_again number why.NotOwner is is_why = retry_with number why.NotOwner (Ok why.NotOwner) is refl

  pub reply_again : (number : ℕ) (reply : Reply) → IsNumber number → IsReply IsNumber reply
      → form_of hashing (reply_kind reply) read (decimal number ∷ reply_words reply) ≡ Ok (letter_of head (Reply_letter number reply))
  reply_again number (reply.Registered entry) is is_reply = entry_form_again (reply_of reply.Registered) number entry is is_reply
  reply_again number (reply.Taken entry) is is_reply = entry_form_again (reply_of reply.Taken) number entry is is_reply
  reply_again number reply.Removed is is_reply = number_form_again reply.Removed number is
  reply_again number reply.Absent is is_reply = number_form_again reply.Absent number is
  reply_again number (reply.Found entry) is is_reply = entry_form_again (reply_of reply.Found) number entry is is_reply
  reply_again number reply.Nothing is is_reply = number_form_again reply.Nothing number is
  reply_again number (reply.Retry why) is is_reply = retry_again number why is is_reply

  -- what is the letter's sender's, of its version or its grain's hash is left out, and put back
  pub body_again : (body : Body) → IsToldBody IsNumber IsRange hashing head.from head.version body
      → form_of hashing (kind_of body) read (body_words body) ≡ Ok (letter_of head body)
  body_again (Request_letter request) is =
      act_again request.number request.act is.number is.act
      ∙ (λ i. Ok (letter_of head (Request_letter (record {
        sender = sym is.sender i;
        version = sym is.version i;
        number = request.number;
        hash = sym is.hash i;
        act = request.act;
      }))))
  body_again (Reply_letter number reply) is = reply_again number reply is.0 is.1
  body_again (Ask_letter range page) is =
      three_again ask_made read (range_word (range_text range)) (number_word (decimal page)) head range page reads (range_again range is.0)
      (number_again page is.1)
  body_again (Page_letter page) is =
      ap (λ (b : Bool). page_for b read (range_text page.range) (decimal page.page) (decimal page.pages) (encode_lower page.digest)
      (entries_words page.entries)) (pairs_again page.entries)
      ∙ six_again page_made read (range_word (range_text page.range)) (number_word (decimal page.page)) (number_word (decimal page.pages))
      (digest_word (encode_lower page.digest))
      (entries_in (entries_words page.entries)) head page.range page.page page.pages page.digest page.entries
      reads (range_again page.range is.range) (number_again page.page is.page) (number_again page.pages is.pages)
      (digest_again page.digest is.digest) (entries_again page.entries is.entries)
      ∙ (λ i. Ok (letter_of head (Page_letter (record {
        version = sym is.version i;
        range = page.range;
        page = page.page;
        pages = page.pages;
        digest = page.digest;
        entries = page.entries;
      }))))
  body_again (Missing_letter range) is = range_form_again Missing_letter range is
  body_again (Done_letter range) is = range_form_again Done_letter range is
  body_again (Query_letter range after) is = query_form_again head read reads range after is.0 is.1
  body_again (Report_letter report) is =
      report_form_again head read reads report.range report.after report.last report.entries is.range is.after is.entries
      ∙ (λ i. Ok (letter_of head (Report_letter (record {
        version = sym is.version i;
        range = report.range;
        silo = sym is.silo i;
        after = report.after;
        entries = report.entries;
        last = report.last;
      }))))
  body_again (Survey_letter ranges) is = ranges_form_again head read reads Survey_letter ranges is
  body_again (Empty_letter ranges) is = ranges_form_again head read reads Empty_letter ranges is
  body_again (Behind_letter range) is = range_form_again Behind_letter range is
  body_again (Ahead_letter range) is = range_form_again Ahead_letter range is
  body_again (Offer_letter entry) is =
      two_again offer_made read (entry_of_words (grain_text entry.grain) (activation_text entry.activation)) head entry reads
      (entry_again entry is)

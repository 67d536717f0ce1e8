-- What stands behind a kind is read again, or not at all.
use Rattle.std.proofs.Common.{◌≡◌, ℕ, Bool, [], ◌∷◌, Some, None, Result, Ok, refl, sym, subst, decimal}
use Rattle.hex.specs.Hex.{encode_lower}
use Rattle.silo_address.specs.Grain.{Grain, IsGrain, grain_text}
use Rattle.silo_address.specs.declared.Entry.{Entry}
use Rattle.silo_address.specs.ActivationText.{activation_text}
use Rattle.ring_range.specs.Range.{Range}
use Rattle.ring_range.specs.Text.{range_text}
use Rattle.hash_ring.specs.declared.hashing.Hashing.{Hashing}
use Rattle.directory_rules.specs.declared.act.Act.{Act}
use Rattle.directory_rules.specs.declared.act.Act.TheVariants as act
use Rattle.directory_rules.specs.declared.reply.Why.{Why}
use Rattle.directory_rules.specs.declared.reply.Why.TheVariants as why
use Rattle.directory_rules.specs.declared.reply.Reply.{Reply}
use Rattle.directory_rules.specs.declared.reply.Reply.TheVariants as reply
use Rattle.directory_rules.specs.State.{Letter, Body, Request_letter, Reply_letter, Ask_letter, Page_letter, Missing_letter, Done_letter, Query_letter, Report_letter, Survey_letter, Empty_letter, Behind_letter, Ahead_letter, Offer_letter}
use Rattle.directory_rules.specs.Letter.{kind_of, act_kind, reply_kind}
use Rattle.script_rules.specs.Script.{grain_word, number_word, ◌>>=◌}
use Rattle.process_rules.specs.LetterText.{entry_words, entries_words, act_words, why_words, reply_words, body_words}
use Rattle.process_rules.specs.ReadLetter.{activation_word, range_word, digest_word, entry_of_words, entries_in, Head, letter_of, request_of, a_number_and_an_entry, a_number, retry_for, a_retry, page_for, a_range, reply_of, form_of}
use Rattle.process_rules.specs.Told.{IsEntry, IsAct, IsReply, IsToldBody}
use Rattle.process_rules.proofs.Chains.{IsSaid, is_said, one_said, two_said, three_said, four_said, six_said}
use Rattle.process_rules.proofs.WordsAgain.{grain_again, digest_again, pairs_again}
use Rattle.process_rules.proofs.Numbers.{number_said}
use Rattle.process_rules.proofs.WordsSaid.{activation_said, range_said, entry_said, entries_said}
use Rattle.process_rules.proofs.RangeForms.{ranges_form_said}
use Rattle.process_rules.proofs.ReportForms.{query_form_said, report_form_said}
use Rattle.process_rules.proofs.FormsAgain.{first_register, next_register, find_made, reply_made, retry_made, ask_made, page_made, range_made, offer_made}

grain_said : (grain : Grain) → IsGrain grain → IsSaid (grain_word (grain_text grain)) grain
grain_said grain is = is_said (grain_word (grain_text grain)) grain (grain_again grain is)

-- the same letter, made otherwise
same_letter : (read : Result Letter ℕ) (made letter : Letter) → made ≡ letter → IsSaid read made → IsSaid read letter
same_letter read made letter same said = subst (IsSaid read) same said

module _ (Fits : ℕ → Type 0) (hashing : Hashing) (head : Head) (read : Result Head ℕ) (reads : IsSaid read head) where
  entry_form_said : (of : Head → ℕ → Entry → Letter) (number : ℕ) (entry : Entry) → IsEntry Fits entry
      → IsSaid (a_number_and_an_entry of read (decimal number ∷ entry_words entry)) (of head number entry)
  entry_form_said of number entry is =
      three_said of read (number_word (decimal number)) (entry_of_words (grain_text entry.grain) (activation_text entry.activation)) head
      number entry reads (number_said number) (entry_said Fits entry is)

  number_form_said : (reply : Reply) (number : ℕ) → IsSaid (a_number reply read (decimal number ∷ [])) (reply_made reply head number)
  number_form_said reply number = two_said (reply_made reply) read (number_word (decimal number)) head number reads (number_said number)

  range_form_said : (of : Range → Body) (range : Range) → IsSaid (a_range of read (range_text range ∷ [])) (letter_of head (of range))
  range_form_said of range = two_said (range_made of) read (range_word (range_text range)) head range reads (range_said range)

  act_said : (number : ℕ) (act : Act) → IsAct Fits act
      → IsSaid (form_of hashing (act_kind act) read (decimal number ∷ act_words act)) (request_of hashing head number act)
  act_said number (act.Register entry None) is =
      three_said (first_register hashing) read (number_word (decimal number))
      (entry_of_words (grain_text entry.grain) (activation_text entry.activation)) head number entry
      reads (number_said number) (entry_said Fits entry is.0)
  act_said number (act.Register entry (Some previous)) is =
      four_said (next_register hashing) read (number_word (decimal number))
      (entry_of_words (grain_text entry.grain) (activation_text entry.activation))
      (activation_word (activation_text previous)) head number entry previous
      reads (number_said number) (entry_said Fits entry is.0) (activation_said previous is.1.silo)
  act_said number (act.Deregister entry) is = entry_form_said (λ h n e. request_of hashing h n (act.Deregister e)) number entry is
  act_said number (act.Find grain) is =
      three_said (find_made hashing) read (number_word (decimal number)) (grain_word (grain_text grain)) head number grain reads
      (number_said number) (grain_said grain is)

  retry_with : (number : ℕ) (why : Why) (given : Result Why ℕ) → IsSaid given why
      → IsSaid (retry_for read (decimal number) (Some given)) (retry_made head number why)
  retry_with number why given is =
      three_said retry_made read (number_word (decimal number)) given head number why reads (number_said number) is

  retry_said : (number : ℕ) (why : Why) → IsSaid (a_retry read (decimal number ∷ why_words why)) (retry_made head number why)
  retry_said number (why.View seen) =
      retry_with number (why.View seen) (number_word (decimal seen) >>= λ n. Ok (why.View n))
      (one_said why.View (number_word (decimal seen)) seen (number_said seen))
  retry_said number why.Unsettled = retry_with number why.Unsettled (Ok why.Unsettled) refl
  retry_said number (why.OldNumber last) =
      retry_with number (why.OldNumber last) (number_word (decimal last) >>= λ n. Ok (why.OldNumber n))
      (one_said why.OldNumber (number_word (decimal last)) last (number_said last))
  retry_said number why.NotOwner = retry_with number why.NotOwner (Ok why.NotOwner) refl

  reply_said : (number : ℕ) (reply : Reply) → IsReply Fits reply
      → IsSaid (form_of hashing (reply_kind reply) read (decimal number ∷ reply_words reply)) (letter_of head (Reply_letter number reply))
  reply_said number (reply.Registered entry) is = entry_form_said (reply_of reply.Registered) number entry is
  reply_said number (reply.Taken entry) is = entry_form_said (reply_of reply.Taken) number entry is
  reply_said number reply.Removed is = number_form_said reply.Removed number
  reply_said number reply.Absent is = number_form_said reply.Absent number
  reply_said number (reply.Found entry) is = entry_form_said (reply_of reply.Found) number entry is
  reply_said number reply.Nothing is = number_form_said reply.Nothing number
  reply_said number (reply.Retry why) is = retry_said number why

  pub body_said : (Lies : Range → Type 0) (body : Body) → IsToldBody Fits Lies hashing head.from head.version body
      → IsSaid (form_of hashing (kind_of body) read (body_words body)) (letter_of head body)
  body_said Lies (Request_letter request) is =
      same_letter (form_of hashing (act_kind request.act) read (decimal request.number ∷ act_words request.act))
      (request_of hashing head request.number request.act) (letter_of head (Request_letter request))
      (λ i. letter_of head (Request_letter (record {
        sender = sym is.sender i;
        version = sym is.version i;
        number = request.number;
        hash = sym is.hash i;
        act = request.act;
      })))
      (act_said request.number request.act is.act)
  body_said Lies (Reply_letter number reply) is = reply_said number reply is.1
  body_said Lies (Ask_letter range page) is =
      three_said ask_made read (range_word (range_text range)) (number_word (decimal page)) head range page reads (range_said range)
      (number_said page)
  body_said Lies (Page_letter page) is =
      subst (λ (b : Bool). IsSaid (page_for b read (range_text page.range) (decimal page.page) (decimal page.pages)
      (encode_lower page.digest) (entries_words page.entries)) (letter_of head (Page_letter page)))
      (sym (pairs_again page.entries))
      (same_letter _ (page_made head page.range page.page page.pages page.digest page.entries) (letter_of head (Page_letter page))
      (λ i. letter_of head (Page_letter (record {
        version = sym is.version i;
        range = page.range;
        page = page.page;
        pages = page.pages;
        digest = page.digest;
        entries = page.entries;
      })))
      (six_said page_made read (range_word (range_text page.range)) (number_word (decimal page.page)) (number_word (decimal page.pages))
      (digest_word (encode_lower page.digest))
      (entries_in (entries_words page.entries)) head page.range page.page page.pages page.digest page.entries
      reads (range_said page.range) (number_said page.page) (number_said page.pages)
      (is_said (digest_word (encode_lower page.digest)) page.digest (digest_again page.digest is.digest))
      (entries_said Fits page.entries is.entries)))
  body_said Lies (Missing_letter range) is = range_form_said Missing_letter range
  body_said Lies (Done_letter range) is = range_form_said Done_letter range
  body_said Lies (Query_letter range after) is = query_form_said Fits head read reads range after is.1
  body_said Lies (Report_letter report) is =
      same_letter (form_of hashing (kind_of (Report_letter report)) read (body_words (Report_letter report)))
      (letter_of head (Report_letter (record report { version = head.version; silo = head.from }))) (letter_of head (Report_letter report))
      (λ i. letter_of head (Report_letter (record {
        version = sym is.version i;
        range = report.range;
        silo = sym is.silo i;
        after = report.after;
        entries = report.entries;
        last = report.last;
      })))
      (report_form_said Fits head read reads report.range report.after report.last report.entries is.after is.entries)
  body_said Lies (Survey_letter ranges) is = ranges_form_said head read reads Lies Survey_letter ranges is
  body_said Lies (Empty_letter ranges) is = ranges_form_said head read reads Lies Empty_letter ranges is
  body_said Lies (Behind_letter range) is = range_form_said Behind_letter range
  body_said Lies (Ahead_letter range) is = range_form_said Ahead_letter range
  body_said Lies (Offer_letter entry) is =
      two_said offer_made read (entry_of_words (grain_text entry.grain) (activation_text entry.activation)) head entry reads
      (entry_said Fits entry is)

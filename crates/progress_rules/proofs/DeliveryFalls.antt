-- The delivery of a fresh letter: no more letters go out than what the world stands for falls by.
use Rattle.std.proofs.Common.{arith, ◌≡◌, refl, ap, subst, ◌∙◌, ℕ, ◌+◌, ◌≤◌, List, [], ◌∷◌, length, inl}
use Rattle.std.specs.Prelude.{true, false, is_some, Option, Some}
use Rattle.std.specs.Option.{option_map}
use Rattle.std.specs.Ordering.{nat_cmp}
use Rattle.std.specs.List.Sorted.{IsStrictlySortedBy}
use Rattle.std.specs.Map.{lookup, keys_of}
use Rattle.std.specs.BTreeMap.{is_at}
use Rattle.std.proofs.lemmas.List.Sums.{sum_by-cons}
use Rattle.silo_address.specs.Silo.{silo_cmp}
use Rattle.membership_view.specs.View.{ViewValue}
use Rattle.hash_ring.specs.Hash.{hash_grain}
use Rattle.directory_rules.specs.Settings.{Settings}
use Rattle.directory_rules.specs.Standing.{rise_behind}
use Rattle.directory_rules.specs.Table.{lie_in}
use Rattle.directory_rules.specs.State.{Page, Gathering, Report, Letter, Page_letter, Report_letter, Node, World, Posted}
use Rattle.directory_rules.specs.Gatherings.{Refuses, gathered}
use Rattle.directory_rules.specs.Host.{outstanding}
use Rattle.directory_rules.specs.Sent.{gathering_of}
use Rattle.directory_rules.specs.Step.{Stepped}
use Rattle.directory_rules.specs.Receive.{received}
use Rattle.directory_rules.specs.Transfer.{is_page_awaited, is_report_awaited}
use Rattle.directory_rules.specs.Mail.{letter_of, with_delivered}
use Rattle.directory_rules.specs.Happens.{node_of, with_node}
use Rattle.directory_facts.proofs.Reached.{found_node}
use Rattle.progress_rules.specs.Room.{answers_of, offers_of, fresh_with, requests_out, pages_shelved, held_behind}
use Rattle.progress_rules.specs.Second.{Flies}
use Rattle.progress_rules.proofs.AreTold.{Base, left_by, LeavesFewer, AreTold}
use Rattle.progress_rules.proofs.Flying.{fresh_is}
use Rattle.progress_rules.proofs.Passed.{one_report}
use Rattle.progress_rules.proofs.FitGatherings.{all_facts}
use Rattle.progress_rules.proofs.TakesPage.{refused_so}
use Rattle.progress_rules.proofs.Resting.{IsResting, rest_facts, rest_carried}
use Rattle.progress_rules.proofs.Transfers.{pieces, seen, never_dropped}
use Rattle.progress_rules.proofs.Flights.{stepped_world}
use Rattle.progress_rules.proofs.Answering.{node_facts}
use Rattle.progress_rules.proofs.RequestCounts.{outstanding_few}
use Rattle.progress_rules.proofs.FreshWith.{sent_with, fresh_after, fresh_before}
use Rattle.progress_rules.proofs.Sums.{le_same}
use Rattle.progress_rules.proofs.Falls.{need, Falls}
use Rattle.progress_rules.proofs.PageFalls.{waits, of_version}
use Rattle.progress_rules.proofs.PagesShelved.{shelved_so}
use Rattle.progress_rules.proofs.LetterFalls.{counts_so, letter_falls}
use Rattle.progress_rules.proofs.Potential.{due_to, potential, need_less, over_stepped, shelved_less}

pub all_sent : (letters : List Letter) → sent_with (λ body. 1) letters ≡ length letters
all_sent [] = refl
all_sent (letter ∷ letters) =
    let rest = all_sent letters in let parts = sum_by-cons (λ (l : Letter). 1) letter letters in
    omega (arith, rest, parts)

-- the letter is still to come
abbrev pub Flying : World → Letter → Type 0
Flying world letter = (number : ℕ) × Flies world number letter

pub nodes_sorted : (world : World) → IsResting world → IsStrictlySortedBy silo_cmp (keys_of world.nodes)
nodes_sorted world r = (rest_carried world r).facts.peopled.by_address

module _ (b : Base) (above : 1 ≤ b.settings.report_size) (world : World) (r : IsResting world) (same : world.settings ≡ b.settings)
    (t : AreTold b world.views.version (node_of world) (Flying world)) (number : ℕ) (posted : Posted) (node : Node)
    (found : lookup (is_at (nat_cmp number)) world.mail ≡ Some posted) (fresh : posted.fresh ≡ true)
    (its : node_of world posted.letter.to ≡ Some node) where
  abbrev letter : Letter
  letter = posted.letter

  abbrev base : World
  base = with_delivered world number letter

  abbrev stepped : Stepped
  stepped = received node letter

  abbrev pub delivered_world : World
  delivered_world = stepped_world base letter.to stepped

  in_mail : letter_of world number ≡ Some letter
  in_mail = ap (λ (o : Option Posted). option_map (λ p. p.letter) o) found

  by_silo : node.host.silo ≡ letter.to
  by_silo = (found_node all_facts world letter.to node (rest_facts world r) its).0.0.0.0.by_silo

  -- as many pages are due as a page that comes says
  told : (page : Page) → letter.body ≡ Page_letter page → is_page_awaited node letter page ≡ true
      → page.pages ≤ due_to world node letter.from page.range
  told page body counts =
      let has = pieces world r letter.to node its in
      shelved_so world r number letter in_mail page body node its
      (of_version (due_to world node) (left_by b) world.settings.hashing node has letter page counts)
      (waits (due_to world node) (left_by b) world.settings.hashing node has letter page counts)

  kept : (page : Page) (left : Gathering) → letter.body ≡ Page_letter page → is_page_awaited node letter page ≡ true
      → gathered (gathering_of node page.range) page ≡ Refuses 701 left → ⊥
  kept page left body counts is =
      let has = pieces world r letter.to node its in
      never_dropped world r letter.to node its number letter in_mail page body
      (of_version (due_to world node) (left_by b) world.settings.hashing node has letter page counts
      ∙ seen world r letter.to node its)
      (refused_so (gathering_of node page.range) page left is).2 letter.from
      (waits (due_to world node) (left_by b) world.settings.hashing node has letter page counts) left is

  -- a report that counts and isn't the last leaves one fewer
  fewer : (report : Report) → letter.body ≡ Report_letter report → is_report_awaited node letter report ≡ true → report.last ≡ false
      → LeavesFewer b report
  fewer report body counts not_last =
      let so = counts_so node letter report counts in
      let by_settings : node.settings ≡ b.settings = (node_facts world r letter.to node its).own.settings_are ∙ same in
      t.reports letter report (
        number,
        record {
          found = found ∙ ap Some (fresh_is posted fresh);
          comes = ap (λ (o : Option Node). is_some o) its;
        },
      ) (record {
        body = body;
        version_is = so.version ∙ so.seen ∙ ap (λ (v : ViewValue). v.version) (r.seen letter.to node its);
        own = node;
        there = its;
        waits = inl so.recovers;
        rises =
            subst (λ (s : Settings). rise_behind (hash_grain s.hashing) (report.range ∷ []) report.after report.entries ≡ true) by_settings
            so.rises;
        lie = subst (λ (s : Settings). lie_in s.hashing report.range report.entries ≡ true) by_settings so.lie;
        not_last = not_last;
      })

  falls : Falls (due_to world node) (left_by b) node letter.body stepped
  falls =
      letter_falls (due_to world node) (left_by b) world.settings.hashing node (pieces world r letter.to node its) letter letter.body
      (λ silo range after. one_report b.settings.report_size (held_behind b.settings.hashing (b.held silo) range after) above) told kept fewer

  pub potential_falls : length stepped.letters + potential b delivered_world ≤ potential b world
  potential_falls =
      let over = over_stepped base letter.to node stepped its (λ (x : Node). need (due_to world x) (left_by b) x) (λ (x : Node). need (due_to delivered_world x) (left_by b) x) (nodes_sorted world r)
      (λ x. need_less (due_to delivered_world x) (due_to world x) (left_by b) x
      (λ giver range. shelved_less base letter.to node stepped its falls.shelves giver x.host.silo x.view.version range)) in
      let one = ap (λ s. need (λ giver range. pages_shelved (node_of world giver) s stepped.node.view.version range) (left_by b) stepped.node) falls.silo_is in
      let other = ap (λ (v : ViewValue). need (λ giver range. pages_shelved (node_of world giver) node.host.silo v.version range) (left_by b) stepped.node) falls.view_is in
      let sends = falls.sends in
      let no_offers = falls.no_offers in
      let asks = fresh_after answers_of (with_node base letter.to stepped.node) stepped.letters in
      let asked = fresh_before answers_of world number posted found fresh in
      let offers = fresh_after offers_of (with_node base letter.to stepped.node) stepped.letters in
      let offered = fresh_before offers_of world number posted found fresh in
      omega (arith, over, one, other, sends, no_offers, asks, asked, offers, offered)

  -- no more requests are outstanding, but for an offer that came
  pub requests_fall : requests_out delivered_world + fresh_with offers_of delivered_world ≤ requests_out world + fresh_with offers_of world
  requests_fall =
      let over = over_stepped base letter.to node stepped its (λ (x : Node). length (outstanding x.host)) (λ (x : Node). length (outstanding x.host)) (nodes_sorted world r)
      (λ x. le_same (length (outstanding x.host))) in
      let many = (node_facts world r letter.to node its).numbered.many in
      let few = outstanding_few stepped.node.host in
      let begins = falls.begins in
      let no_offers = falls.no_offers in
      let offers = fresh_after offers_of (with_node base letter.to stepped.node) stepped.letters in
      let offered = fresh_before offers_of world number posted found fresh in
      omega (arith, over, many, few, begins, no_offers, offers, offered)

  -- one fresh letter less, and those that were sent
  pub fresh_falls : fresh_with (λ body. 1) delivered_world + 1 ≡ fresh_with (λ body. 1) world + length stepped.letters
  fresh_falls =
      let sent = fresh_after (λ body. 1) (with_node base letter.to stepped.node) stepped.letters in
      let taken = fresh_before (λ body. 1) world number posted found fresh in
      let all = all_sent stepped.letters in
      omega (arith, sent, taken, all)

-- The last page completes a snapshot: the piece is settled with its entries.
use Rattle.std.proofs.Common.{arith, ◌≡◌, ℕ, ◌+◌, ◌*◌, ◌≤◌, List, ◌++◌, length, take, refl, sym, ap, subst, ◌∙◌}
use Rattle.std.specs.Prelude.{nat_lt, true, false}
use Rattle.texts.proofs.Decided.{both}
use Rattle.silo_address.specs.Silo.{Silo}
use Rattle.silo_address.specs.Grain.{Grain}
use Rattle.silo_address.specs.declared.Entry.{Entry}
use Rattle.ring_range.specs.Range.{circle, holds}
use Rattle.directory_protocol.specs.Setting.{Setting}
use Rattle.directory_protocol.specs.World as protocol
use Rattle.directory_protocol.specs.Actions.{Install, MayInstall}
use Rattle.directory_rules.specs.declared.effect.Effect.TheVariants as effect
use Rattle.directory_rules.specs.Settings.{page_size}
use Rattle.directory_rules.specs.Table.{entry_at, table_of}
use Rattle.directory_rules.specs.State.{Page, Letter, Done_letter, Node, World}
use Rattle.directory_rules.specs.Snapshot.{page_count}
use Rattle.directory_rules.specs.Gatherings.{Has_all, gathered}
use Rattle.directory_rules.specs.Sight.{is_settled}
use Rattle.directory_rules.specs.Sent.{gathering_of}
use Rattle.directory_rules.specs.Transfer.{answering, answer_to, with_settled}
use Rattle.directory_facts.proofs.Ways.{IsPageTaken}
use Rattle.directory_facts.proofs.Collected.{GatheredSo, gathered_so}
use Rattle.directory_headline.specs.Shown.{IsShownLetter, activation_in}
use Rattle.directory_headline.proofs.SettledPiece.{lt_true, settling, settled_world, may_settle, node_settled}
use Rattle.directory_facts.proofs.PagesTaken.{page_more, all_pages}
use Rattle.directory_headline.proofs.Pages.{next_page}
use Rattle.directory_headline.proofs.Stands.{stands}
use Rattle.directory_headline.proofs.Frame.{Here, Comes, Moves, acts, seen_is, one_letter}

not_lt : (a b : ℕ) → nat_lt a b ≡ false → b ≤ a
not_lt a b is = grind arith

last_page : (next count page pages : ℕ) → pages ≡ count → page ≡ next → nat_lt (page + 1) pages ≡ false → count ≤ next + 1
last_page next count page pages all its last = let le = not_lt (page + 1) pages last in omega (le, all, its, arith)

module _ (m : Setting) (f : World) (w : protocol.World) (silo : Silo) (node : Node) (here : Here m f w silo node) (letter : Letter)
    (page : Page) (taken : IsPageTaken node letter page) (comes : Comes m f w silo letter) where
  pub installs : (entries : List Entry) → gathered (gathering_of node page.range) page ≡ Has_all entries
      → Moves m w silo (answering letter (with_settled node page.range (table_of entries)) (Done_letter page.range) effect.Installed)
  installs entries is =
      let it = stands m f w silo node here in
      let gathering = gathering_of node page.range in
      let so : GatheredSo gathering page (Has_all entries) = subst (GatheredSo gathering page) is (gathered_so gathering page) in
      let turn = so.0 in
      let its = next_page m f w silo node here letter page taken comes turn in
      let whole : entries ≡ its.all =
      so.1 ∙ ap (λ l. l ++ page.entries) its.had ∙ ap (λ l. take (gathering.next * page_size) its.all ++ l) its.next
      ∙ page_more gathering.next its.all
      ∙ all_pages (gathering.next + 1) its.all (last_page gathering.next (page_count (length its.all)) page.page page.pages its.pages
      turn.next so.2) in
      let snapshot = its.sealed.snapshot in
      let waits : is_settled taken.piece.state ≡ false = ap is_settled taken.awaits in
      let says = λ (grain : Grain) (held : holds page.range (m.hash grain) ≡ true). its.sealed.list.exact grain held ∙ ap (λ es. activation_in (entry_at grain (table_of es))) (sym whole) in
      let x = settling m w silo node it letter.version page.range taken.piece taken.has waits snapshot.entries (table_of entries) says in
      let may : MayInstall m w x snapshot = record {
        settles =
            may_settle m w silo node it letter.version page.range taken.piece taken.has waits snapshot.entries (table_of entries) says;
        sent = its.sealed.was_sent;
        same_version = its.sealed.for_version ∙ taken.version ∙ taken.has.seen ∙ sym (seen_is m f w silo node here);
        covered =
            λ h part. let both_are = both (holds page.range h) (nat_lt h circle) part in
            its.sealed.covers h (lt_true h circle both_are.1) both_are.0;
        entries = λ grain part. refl;
      } in
      let later = settled_world m w silo node it letter.version page.range taken.piece taken.has waits snapshot.entries (table_of entries) says in
      let node_then = with_settled node page.range (table_of entries) in
      acts m w silo (answering letter node_then (Done_letter page.range) effect.Installed) (Install x snapshot) may refl
      (node_settled m w silo node it letter.version page.range taken.piece taken.has waits snapshot.entries (table_of entries) says)
      (one_letter (IsShownLetter m.hash later) (answer_to letter node_then (Done_letter page.range)) tt)

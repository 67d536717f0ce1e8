-- A step that moves as it should carries `Shown` on; and so it is for letters that are delivered or lost.
use Rattle.std.proofs.Common.{◌≡◌, ◌≢◌, ℕ, ◌+◌, List, [], ◌∷◌, ◌++◌, inl, inr, sym, ap, ◌∙◌, subst}
use Rattle.std.specs.Prelude.{Bool, true, false, cond, All, IfSome, Some, None}
use Rattle.std.specs.Option.{option_map}
use Rattle.std.specs.Ordering.{nat_cmp}
use Rattle.std.specs.List.{enumerate_from}
use Rattle.std.specs.Map.{lookup}
use Rattle.std.specs.BTreeMap.{is_at}
use Rattle.std.proofs.lemmas.List.Elements.{All-nil, All-cons, All-head, All-tail, All-append, All-map, All-weaker}
use Rattle.silo_address.specs.Silo.{Silo, silo_cmp}
use Rattle.silo_address.proofs.Order.{silo_cmp_total, silo_cmp_exact}
use Rattle.membership_view.specs.Views.{status_at}
use Rattle.directory_protocol.specs.Setting.{Setting}
use Rattle.directory_protocol.specs.World as protocol
use Rattle.directory_protocol.specs.Effects.{run}
use Rattle.directory_protocol.proofs.Changes.{silo_cases}
use Rattle.directory_rules.specs.State.{Letter, Node, World, Posted}
use Rattle.directory_rules.specs.Step.{Stepped}
use Rattle.directory_rules.specs.Mail.{fresh_letter, numbered, letter_of, with_delivered, with_lost}
use Rattle.directory_rules.specs.Happens.{node_of, counted}
use Rattle.directory_rules.specs.Laws.{is_live}
use Rattle.directory_rules.proofs.Cases.{on_bool}
use Rattle.directory_facts.proofs.Entries.{all_set, all_removed}
use Rattle.directory_headline.specs.SiloState.{state_of}
use Rattle.directory_headline.specs.Shown.{Shown, IsShownNode, IsShownLetter}
use Rattle.directory_headline.proofs.Actors.{leaves_run}
use Rattle.directory_headline.proofs.MoreLetters.{letter_still, node_still}
use Rattle.directory_facts.proofs.Lookups.{found_put, found_beside_put}
use Rattle.directory_headline.proofs.Events.{with_step}
use Rattle.directory_headline.proofs.Frame.{Here, Moves, live_now}

-- what is shown of the letters in the mail
abbrev Says : Setting → protocol.World → (ℕ × Posted) → Type 0
Says m w e = IsShownLetter m.hash w e.1.letter

numbered_from : (P : Letter → Type 0) (next : ℕ) (letters : List Letter) → All P letters → All (λ e. P e.1) (enumerate_from next letters)
numbered_from P next [] all = All-nil (λ e. P e.1)
numbered_from P next (letter ∷ letters) all =
    All-cons (λ e. P e.1) (next, letter) (enumerate_from (next + 1) letters) (All-head P letter letters all)
    (numbered_from P (next + 1) letters (All-tail P letter letters all))

sent : (m : Setting) (w : protocol.World) (f : World) (letters : List Letter) → All (Says m w) f.mail → All (IsShownLetter m.hash w) letters
    → All (Says m w) (f.mail ++ numbered f letters)
sent m w f letters mail all =
    All-append (Says m w) f.mail (numbered f letters) mail
    (All-map (Says m w) (λ e. (e.0, fresh_letter e.1)) (enumerate_from (f.sent + 1) letters)
    (numbered_from (IsShownLetter m.hash w) (f.sent + 1) letters all))

-- a silo that has a node is there
is_there : (m : Setting) (f : World) (w : protocol.World) (silo : Silo) (node : Node) → Here m f w silo node → (q : Silo)
    → status_at f.views f.views.version q ≡ None → q ≢ silo
is_there m f w silo node here q none same =
    let nothing : status_at f.views f.views.version silo ≡ None = ap (status_at f.views f.views.version) (sym same) ∙ none in
    let live : is_live None ≡ true = ap is_live (sym nothing) ∙ live_now m f w silo node here in
    absurd (cc (live))

-- `its` is the world f, or f with the letter that comes delivered
pub shown_step :
    (m : Setting) (f its : World) (w : protocol.World) (silo : Silo) (node : Node) (stepped : Stepped) → Here m f w silo node
    → its.views ≡ f.views → its.nodes ≡ f.nodes → All (Says m w) its.mail
    → (moves : Moves m w silo stepped) → Shown m (with_step its silo stepped) (run m moves.actions w)
shown_step m f its w silo node stepped here views nodes mail moves =
    let left = leaves_run m moves.actions w silo moves.by in
    let later = run m moves.actions w in
    record {
      now = left.now ∙ here.shown.now ∙ ap (λ v. v.version) (sym views);
      live = λ q its_node there.
          elim (silo_cases q silo) [
            | inl same ↦
                let one : Some stepped.node ≡ Some its_node =
                sym (found_put silo_cmp silo_cmp_total silo_cmp_exact silo stepped.node its.nodes)
                ∙ ap (λ s. lookup (is_at (silo_cmp s)) (with_step its silo stepped).nodes) (sym same) ∙ there in
                let is : stepped.node ≡ its_node = cc in
                subst (λ n. IsShownNode m later n (state_of later q)) is
                (subst (λ s. IsShownNode m later stepped.node (state_of later s)) (sym same) moves.node)
            | inr apart ↦
                let before : node_of f q ≡ Some its_node =
                ap (λ ns. lookup (is_at (silo_cmp q)) ns) (sym nodes)
                ∙ sym (found_beside_put silo_cmp silo_cmp_total silo_cmp_exact silo stepped.node its.nodes q apart) ∙ there in
                subst (IsShownNode m later its_node) (sym (left.others q apart))
                (node_still m w later left.grows its_node (state_of w q) (here.shown.live q its_node before))
          ];
      absent = λ q none.
          let before : status_at f.views f.views.version q ≡ None = ap (λ v. status_at v v.version q) (sym views) ∙ none in
          left.others q (is_there m f w silo node here q before) ∙ here.shown.absent q before;
      letters =
          sent m later its stepped.letters
          (All-weaker (Says m w) (Says m later) (λ e is. letter_still m w later left.grows e.1.letter is) its.mail mail) moves.letters;
    }

-- a letter that is found in the mail is shown
found_in : (m : Setting) (w : protocol.World) (test : ℕ → Bool) (mail : List (ℕ × Posted)) → All (Says m w) mail
    → IfSome (option_map (λ posted. posted.letter) (lookup test mail)) (IsShownLetter m.hash w)
found_in m w test [] all = tt
found_in m w test (e ∷ es) all =
    on_bool (λ b. IfSome (option_map (λ posted. posted.letter) (cond b (Some e.1) (lookup test es))) (IsShownLetter m.hash w)) (test e.0)
    (λ t. All-head (Says m w) e es all) (λ f. found_in m w test es (All-tail (Says m w) e es all))

pub letter_shown : (m : Setting) (f : World) (w : protocol.World) (number : ℕ) (letter : Letter) → Shown m f w
    → letter_of f number ≡ Some letter → IsShownLetter m.hash w letter
letter_shown m f w number letter shown found =
    subst (λ o. IfSome o (IsShownLetter m.hash w)) found (found_in m w (is_at (nat_cmp number)) f.mail shown.letters)

-- the mail with the letter delivered
pub mail_delivered :
    (m : Setting) (f : World) (w : protocol.World) (number : ℕ) (letter : Letter) → Shown m f w → IsShownLetter m.hash w letter
    → All (Says m w) (with_delivered f number letter).mail
mail_delivered m f w number letter shown is =
    all_set (Says m w) (is_at (nat_cmp number)) (record { letter = letter; fresh = false }) f.mail (λ key old at so. is) shown.letters

pub shown_lost : (m : Setting) (f : World) (w : protocol.World) (number : ℕ) → Shown m f w → Shown m (counted (with_lost f number)) w
shown_lost m f w number shown = record {
  now = shown.now;
  live = shown.live;
  absent = shown.absent;
  letters = all_removed (Says m w) (is_at (nat_cmp number)) f.mail shown.letters;
}

use Rattle.std.proofs.Common.{◌≡◌, ℕ, ◌++◌, List, Less, sym, ap, ◌∙◌, subst}
use Rattle.std.proofs.lemmas.List.{append-nil}
use Rattle.directory_rows.proofs.TextLemmas.{cmp, UpTo}
use Rattle.directory_rows.proofs.Steps.{among, among_after, among_before, among_deeper, before_less, deeper_less}
use Rattle.directory_rows.proofs.walk.step_among.Goals as goal

pub returns-in_ok-joined-in-Deeper : goal.returns-in_ok-joined-in-Deeper
returns-in_ok-joined-in-Deeper c d walk =
    let base = c.args.base.now in
    let word = c.args.word.now in
    let name = c.args.name.now in
    let front = c.in-Deeper.front.now in
    let place = c.in-Deeper.ensures in
    let next = sym c.in_ok-joined-in-Deeper.ensures in (
      subst (λ (t : List ℕ). cmp (base ++ name) t ≡ Less) next (deeper_less base front place.0 name place.1),
      λ q h up. subst (λ (t : List ℕ). UpTo t q) next (among_deeper base word name q front place.0 (among d base word q walk h) place.1 up),
    )

pub returns-in_ok-joined-in-Before : goal.returns-in_ok-joined-in-Before
returns-in_ok-joined-in-Before c d walk =
    let base = c.args.base.now in
    let word = c.args.word.now in
    let name = c.args.name.now in
    let next = sym (c.in_ok-joined-in-Before.ensures ∙ ap (λ (w : List ℕ). base ++ w) (append-nil word)) in (
      subst (λ (t : List ℕ). cmp (base ++ name) t ≡ Less) next (before_less base name word c.in-Before.ensures),
      λ q h up. subst (λ (t : List ℕ). UpTo t q) next (among_before base word name q (among d base word q walk h)),
    )

pub returns-in-After : goal.returns-in-After
returns-in-After c d walk q h up =
    let base = c.args.base.now in
    let word = c.args.word.now in
    among_after base word c.args.name.now q (among d base word q walk h) c.in-After.ensures up

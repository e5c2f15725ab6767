use Rattle.std.proofs.Common.{◌≡◌, ℕ, ◌∷◌, ◌++◌, List, Less, sym, ap, ◌∙◌, subst}
use Rattle.std.proofs.lemmas.List.{append-nil}
use Rattle.directory_rows.proofs.TextLemmas.{cmp, UpTo}
use Rattle.directory_rows.proofs.Steps.{below, below_after, below_before, below_deeper, below_after_less, below_before_less, below_deeper_less}
use Rattle.directory_rows.proofs.walk.step_below.Goals as goal

pub returns-in_ok-joined-in-Deeper : goal.returns-in_ok-joined-in-Deeper
returns-in_ok-joined-in-Deeper c d walk =
    let base = c.args.base.now in
    let word = c.args.word.now in
    let version = c.args.version.now in
    let name = c.args.name.now in
    let front = c.in-Deeper.front.now in
    let place = c.in-Deeper.ensures in
    let next = sym c.in_ok-joined-in-Deeper.ensures in (
      subst (λ (t : List ℕ). cmp (base ++ (version ++ 47 ∷ name)) t ≡ Less) next (below_deeper_less base version front place.0 name place.1),
      λ q h up. subst (λ (t : List ℕ). UpTo t q) next (below_deeper base word version name c.requires q front place.0 (below d base word q walk h) place.1 up),
    )

pub returns-in_ok-joined-in-Before : goal.returns-in_ok-joined-in-Before
returns-in_ok-joined-in-Before c d walk =
    let base = c.args.base.now in
    let word = c.args.word.now in
    let version = c.args.version.now in
    let name = c.args.name.now in
    let next = sym (c.in_ok-joined-in-Before.ensures ∙ ap (λ (w : List ℕ). base ++ (version ++ 47 ∷ w)) (append-nil word)) in (
      subst (λ (t : List ℕ). cmp (base ++ (version ++ 47 ∷ name)) t ≡ Less) next (below_before_less base version name word c.in-Before.ensures),
      λ q h up. subst (λ (t : List ℕ). UpTo t q) next (below_before base word version name c.requires q (below d base word q walk h) up),
    )

pub returns-in_ok-joined-in-After : goal.returns-in_ok-joined-in-After
returns-in_ok-joined-in-After c d walk =
    let base = c.args.base.now in
    let word = c.args.word.now in
    let version = c.args.version.now in
    let name = c.args.name.now in
    let next = sym c.in_ok-joined-in-After.ensures in (
      subst (λ (t : List ℕ). cmp (base ++ (version ++ 47 ∷ name)) t ≡ Less) next (below_after_less base version name),
      λ q h up. subst (λ (t : List ℕ). UpTo t q) next (below_after base word version name c.requires q (below d base word q walk h) c.in-After.ensures up),
    )

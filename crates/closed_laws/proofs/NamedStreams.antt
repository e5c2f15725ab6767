-- Each turn of a stream shows what a document named before it.
use Rattle.std.proofs.Common.{◌≡◌, inl, inr, ℕ, zero, suc, List, [], ◌∷◌, ◌++◌, Some, None, refl, sym, subst, ◌∙◌, append_assoc}
use Rattle.std.specs.Prelude.{◌==◌}
use Rattle.repo_model.specs.History.{Entry, Legal}
use Rattle.repo_model.specs.Settings.{Settings}
use Rattle.repo_model.specs.State.{State}
use Rattle.repo_laws.specs.Sound.{AreNamedApart, IsSound}
use Rattle.repo_course.specs.Serving.{Outside, ServesStream, RequestTurn}
use Rattle.repo_course.specs.declared.outcomes.End.{End}
use Rattle.closed_laws.specs.Streams.{AllShowAfter, AllShowWhatWasNamed, AreTurns, Seen, ShowsWhatWasNamed}
use Rattle.closed_laws.proofs.FirstLooks.{turn-answered}
use Rattle.closed_laws.proofs.NamedServed.{file-answered, side-answered}

module _ (settings : Settings) (tells : Type 0) (apart : AreNamedApart settings.hosted) (start : State) (sound : IsSound settings start) where
  pub turn-shows : (before more later : List Entry) (e : Entry) (old : Outside) (turn : Seen) → turn.entries ≡ e ∷ more → Legal settings start (before ++ e ∷ later)
      → RequestTurn settings tells turn.last turn.entries old turn.new turn.stop → ShowsWhatWasNamed settings start before e old turn
  turn-shows before more later e old turn is legal turned repo row was =
      let turned-so : RequestTurn settings tells turn.last (e ∷ more) old turn.new turn.stop =
      subst (λ (es : List Entry). RequestTurn settings tells turn.last es old turn.new turn.stop) is turned in (
        (λ tried looks.
            file-answered settings apart start sound before repo row later e tried turn.last old turn.new turn.stop legal was looks
            (turn-answered settings tells turn.last e more repo row.path tried looks old turn.new turn.stop turned-so)),
        (λ at tried side looks beside.
            side-answered settings apart start sound before repo row later e at tried side turn.last old turn.new turn.stop legal was looks beside
            (turn-answered settings tells turn.last e more repo at tried looks old turn.new turn.stop turned-so)),
      )

  pub stream-shows : (n : ℕ) (entries : List Entry) (old new : Outside) (ending : End) → ServesStream settings tells n entries old new ending
      → (turns : List Seen) × AreTurns settings tells n turns entries old new ending × AllShowWhatWasNamed settings start old turns
  unfolding ServesStream AreTurns
  stream-shows zero entries old new ending served = ([], (served.0, served.1, served.2), tt)
  stream-shows (suc left) entries old new ending (inl turned) =
      let turn : Seen = record { last = left == 0; entries = entries; new = new; stop = Some ending } in
      (turn ∷ [], (refl, turned, inl (refl, refl, refl, refl)), ((λ before more later e is legal. turn-shows before more later e old turn is legal turned), tt))
  stream-shows (suc left) entries old new ending (inr (first, rest, mid, parts, turned, served)) =
      let turn : Seen = record { last = left == 0; entries = first; new = mid; stop = None } in
      let (turns, are, show) = stream-shows left rest mid new ending served in
      (turn ∷ turns, (refl, turned, inr (rest, parts, refl, are)), ((λ before more later e is legal. turn-shows before more later e old turn is legal turned), show))

  -- alone, the entries lie one after another
  first-legal : (before entries more : List Entry) (e : Entry) (later : List Entry) → entries ≡ e ∷ more → Legal settings start (before ++ (entries ++ later))
      → Legal settings start (before ++ e ∷ (more ++ later))
  first-legal before entries more e later is legal = subst (λ (es : List Entry). Legal settings start (before ++ (es ++ later))) is legal

  pub all-after : (n : ℕ) (turns : List Seen) (before entries : List Entry) (old new : Outside) (ending : End) → Legal settings start (before ++ entries)
      → AreTurns settings tells n turns entries old new ending → AllShowWhatWasNamed settings start old turns → AllShowAfter settings start before old turns
  unfolding AreTurns
  all-after n [] before entries old new ending legal are show = tt
  all-after zero (turn ∷ turns) before entries old new ending legal are show = absurd are
  all-after (suc left) (turn ∷ turns) before entries old new ending legal (last, turned, inl (none, same, new_is, stops)) show = (
    (λ more e is. show.0 before more more e is (subst (λ (es : List Entry). Legal settings start (before ++ es)) (same ∙ is) legal)),
    subst (λ (ts : List Seen). AllShowAfter settings start (before ++ turn.entries) turn.new ts) (sym none) tt,
  )
  all-after (suc left) (turn ∷ turns) before entries old new ending legal (last, turned, inr (rest, parts, goes_on, are)) show =
      let all : Legal settings start (before ++ (turn.entries ++ rest)) = subst (λ (es : List Entry). Legal settings start (before ++ es)) parts legal in
      let behind : Legal settings start ((before ++ turn.entries) ++ rest) = subst (Legal settings start) (sym (append_assoc before turn.entries rest)) all in (
        (λ more e is. show.0 before more (more ++ rest) e is (first-legal before turn.entries more e rest is all)),
        all-after left turns (before ++ turn.entries) rest turn.new new ending behind are show.1,
      )

  pub stream-after : (n : ℕ) (before entries : List Entry) (old new : Outside) (ending : End) → Legal settings start (before ++ entries)
      → ServesStream settings tells n entries old new ending
      → (turns : List Seen) × AreTurns settings tells n turns entries old new ending × AllShowAfter settings start before old turns
  stream-after n before entries old new ending legal served =
      let (turns, are, show) = stream-shows n entries old new ending served in
      (turns, are, all-after n turns before entries old new ending legal are show)

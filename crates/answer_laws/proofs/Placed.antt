-- A caller's entries at their places in a history.
use Rattle.std.proofs.Common.{◌≡◌, ℕ, Bool, true, false, ◌||◌, cond, List, [], ◌∷◌, ◌++◌, map, refl, sym, subst, ap, ◌∙◌, append_assoc, IsTrue}
use Rattle.std.specs.List.{AllByRecursion, list_any}
use Rattle.std.proofs.lemmas.Bool.{false≢true}
use Rattle.std.proofs.lemmas.List.{map-append}
use Rattle.repo_model.specs.History.{Entry, Fits, Legal, after, end}
use Rattle.repo_model.specs.Reply.{no_draft}
use Rattle.repo_model.specs.Settings.{Settings}
use Rattle.repo_model.specs.State.{State}
use Rattle.repo_laws.proofs.Drafts.{drafts-spent_between}
use Rattle.repo_laws.proofs.EachCause.{entry-cause}
use Rattle.repo_laws.specs.Replies.{spends}
use Rattle.repo_course.specs.Asking.{LiesIn}
use Rattle.answer_laws.specs.Marked.{Mark, entries_of, others_entry, own_entry, own_of, IsAt}
use Rattle.answer_laws.specs.Why.{AllCaused, AsksWith, IsCaused, IsSpentAmong, IsSpentByAnother}
use Rattle.answer_laws.proofs.Given.{AllAskWith, FitsOne}
use Rattle.course_laws.proofs.LeftBehind.{legal_cut}

-- a history whose entries are all the caller's own, and one in which some entries lie
pub all-own : (entries : List Entry) → (entries_of (map own_entry entries) ≡ entries) × (own_of (map own_entry entries) ≡ entries)
all-own [] = (refl, refl)
all-own (e ∷ es) = let rest = all-own es in (ap (λ (l : List Entry). e ∷ l) rest.0, ap (λ (l : List Entry). e ∷ l) rest.1)

abbrev pub IsMarked : List Mark → List Entry → List Entry → Type 0
IsMarked marks entries history = (entries_of marks ≡ history) × (own_of marks ≡ entries)

others-first : (before : List Entry) (marks : List Mark) (entries history : List Entry) → IsMarked marks entries history
    → IsMarked (map others_entry before ++ marks) entries (before ++ history)
others-first [] marks entries history is = is
others-first (b ∷ before) marks entries history is =
    let rest = others-first before marks entries history is in (ap (λ (l : List Entry). b ∷ l) rest.0, rest.1)

pub lies-marked : (entries history : List Entry) → LiesIn entries history → (marks : List Mark) × IsMarked marks entries history
lies-marked [] history lies =
    (map others_entry history, none history)
  where
    none : (h : List Entry) → IsMarked (map others_entry h) [] h
    none [] = (refl, refl)
    none (x ∷ h) = let rest = none h in (ap (λ (l : List Entry). x ∷ l) rest.0, rest.1)
lies-marked (e ∷ es) history (before, rest, parts, lies) =
    let more = lies-marked es rest lies in
    let here : IsMarked (own_entry e ∷ more.0) (e ∷ es) (e ∷ rest) = (ap (λ (l : List Entry). e ∷ l) more.1.0, ap (λ (l : List Entry). e ∷ l) more.1.1) in
    let all = others-first before (own_entry e ∷ more.0) (e ∷ es) (e ∷ rest) here in
    (map others_entry before ++ own_entry e ∷ more.0, (all.0 ∙ sym parts, all.1))

-- where one of the caller's entries stands
own-at : (marks : List Mark) (front : List Entry) (e : Entry) (rest : List Entry) → own_of marks ≡ front ++ e ∷ rest → IsAt marks front e rest
own-at [] [] e rest is = absurd (cc)
own-at [] (f ∷ front) e rest is = absurd (cc)
own-at (m ∷ marks) front e rest is = pick m.own m.entry front is (λ f here. own-at marks f e rest here)
  where
    pick : (own : Bool) (x : Entry) (front : List Entry) → cond own (x ∷ own_of marks) (own_of marks) ≡ front ++ e ∷ rest
        → ((f : List Entry) → own_of marks ≡ f ++ e ∷ rest → IsAt marks f e rest) → IsAt (record { own = own; entry = x } ∷ marks) front e rest
    pick false x front is later =
        let there = later front is in record {
          before = others_entry x ∷ there.before;
          behind = there.behind;
          place = ap (λ (l : List Mark). others_entry x ∷ l) there.place;
          lie = there.lie;
          follow = there.follow;
        }
    pick true x [] is later =
        let same : x ≡ e = cc in record {
          before = [];
          behind = marks;
          place = ap (λ (y : Entry). own_entry y ∷ marks) same;
          lie = refl;
          follow = cc;
        }
    pick true x (f ∷ front) is later =
        let same : x ≡ f = cc in
        let there = later front (cc) in record {
          before = own_entry x ∷ there.before;
          behind = there.behind;
          place = ap (λ (l : List Mark). own_entry x ∷ l) there.place;
          lie = ap (λ (l : List Entry). x ∷ l) there.lie ∙ ap (λ (y : Entry). y ∷ front) same;
          follow = there.follow;
        }

-- where none of the caller's own entries spends a draft and some entry does, that is another's
other-spends : (n : ℕ) (marks : List Mark) → IsTrue (list_any (spends n) (entries_of marks)) → AllByRecursion (λ (x : Entry). spends n x ≡ false) (own_of marks) → IsSpentAmong n marks
other-spends n [] any none = absurd (false≢true any)
other-spends n (m ∷ marks) any none = pick m.own m.entry (spends n m.entry) refl any none (λ a o. other-spends n marks a o)
  where
    pick : (own : Bool) (x : Entry) (b : Bool) → spends n x ≡ b → IsTrue (spends n x || list_any (spends n) (entries_of marks))
        → AllByRecursion (λ (y : Entry). spends n y ≡ false) (cond own (x ∷ own_of marks) (own_of marks))
        → (IsTrue (list_any (spends n) (entries_of marks)) → AllByRecursion (λ (y : Entry). spends n y ≡ false) (own_of marks) → IsSpentAmong n marks)
        → IsSpentAmong n (record { own = own; entry = x } ∷ marks)
    pick false x true is any none later = record { front = []; other = x; back = marks; other_is = refl; spent = is }
    pick own x false is any none later =
        let there = later (subst (λ (c : Bool). IsTrue (c || list_any (spends n) (entries_of marks))) is any) (behind own none) in record {
          front = record { own = own; entry = x } ∷ there.front;
          other = there.other;
          back = there.back;
          other_is = ap (λ (l : List Mark). record { own = own; entry = x } ∷ l) there.other_is;
          spent = there.spent;
        }
      where
        behind : (own : Bool) → AllByRecursion (λ (y : Entry). spends n y ≡ false) (cond own (x ∷ own_of marks) (own_of marks))
            → AllByRecursion (λ (y : Entry). spends n y ≡ false) (own_of marks)
        behind true all = all.1
        behind false all = all
    pick true x true is any none later = absurd (false≢true (sym none.0 ∙ is))

module _ (settings : Settings) where
  -- each of the caller's entries in a legal history fits some state
  pub own-fit : (marks : List Mark) (s : State) → Legal settings s (entries_of marks) → AllByRecursion (FitsOne settings) (own_of marks)
  own-fit [] s legal = tt
  own-fit (m ∷ marks) s legal = pick m.own m.entry legal (own-fit marks (after settings s m.entry) legal.1)
    where
      pick : (own : Bool) (x : Entry) → Legal settings s (x ∷ entries_of marks) → AllByRecursion (FitsOne settings) (own_of marks)
          → AllByRecursion (FitsOne settings) (cond own (x ∷ own_of marks) (own_of marks))
      pick true x legal rest = ((s, legal.0), rest)
      pick false x legal rest = rest

  module _ (start : State) (history : List Mark) (legal : Legal settings start (entries_of history)) where
    parts-of : (before : List Mark) (e : Entry) (behind : List Mark) → history ≡ before ++ own_entry e ∷ behind → entries_of history ≡ entries_of before ++ e ∷ entries_of behind
    parts-of before e behind place = ap entries_of place ∙ map-append (λ (m : Mark). m.entry) before (own_entry e ∷ behind)

    -- a draft that a turn was given and that is none later was spent between, by another
    spent-by-another : (past done : List Entry) (e : Entry) (before behind : List Mark) → history ≡ before ++ own_entry e ∷ behind → own_of before ≡ past ++ done
        → e.reply ≡ no_draft → AsksWith done e → IsSpentByAnother past done e before
    spent-by-another past done e before behind place lie none with =
        let has = with.has in
        let split : own_of before ≡ (past ++ has.first) ++ has.given ∷ has.since =
        lie ∙ ap (λ (l : List Entry). past ++ l) has.parts ∙ sym (append_assoc past has.first (has.given ∷ has.since)) in
        let there = own-at before (past ++ has.first) has.given has.since split in
        let first = entries_of there.before in
        let between = entries_of there.behind in
        let all : entries_of before ≡ first ++ has.given ∷ between = ap entries_of there.place ∙ map-append (λ (m : Mark). m.entry) there.before (own_entry has.given ∷ there.behind) in
        let whole : entries_of history ≡ first ++ ((has.given ∷ between ++ e ∷ []) ++ entries_of behind) =
        parts-of before e behind place ∙ ap (λ (l : List Entry). l ++ e ∷ entries_of behind) all ∙ append_assoc first (has.given ∷ between) (e ∷ entries_of behind)
        ∙ ap (λ (l : List Entry). first ++ l) (sym (append_assoc (has.given ∷ between) (e ∷ []) (entries_of behind))) in
        let from = (legal_cut settings start first ((has.given ∷ between ++ e ∷ []) ++ entries_of behind) (subst (Legal settings start) whole legal)).1 in
        let upto = (legal_cut settings (end settings start first) (has.given ∷ between ++ e ∷ []) (entries_of behind) from).0 in
        let spent = drafts-spent_between settings (end settings start first) has.given e between with.number upto has.draft_is with.asks none in
        let other = other-spends with.number there.behind spent (subst (AllByRecursion (λ (x : Entry). spends with.number x ≡ false)) (sym there.follow) has.unspent) in
        record { with = with; at = there; between = other }

    caused : (tells : Type 0) (past done : List Entry) (e : Entry) (later : List Entry) → own_of history ≡ (past ++ done) ++ e ∷ later
        → (e.reply ≡ no_draft → AsksWith done e) → IsCaused settings tells start history past done e later
    caused tells past done e later own ask =
        let there = own-at history (past ++ done) e later own in
        let fits : Fits settings (end settings start (entries_of there.before)) e =
        (legal_cut settings start (entries_of there.before) (e ∷ entries_of there.behind) (subst (Legal settings start) (parts-of there.before e there.behind there.place) legal)).1.0 in
        record {
          at = there;
          fits = fits;
          cause = λ bound refused. entry-cause settings (end settings start (entries_of there.before)) e fits bound refused;
          spent = λ none. spent-by-another past done e there.before there.behind there.place there.lie none (ask none);
        }

    pub all-caused : (tells : Type 0) (past done entries rest : List Entry) → own_of history ≡ (past ++ done) ++ (entries ++ rest) → AllAskWith done entries
        → AllCaused settings tells start history past done entries rest
    all-caused tells past done [] rest own ask = tt
    all-caused tells past done (e ∷ es) rest own ask =
        let on : (past ++ done) ++ e ∷ (es ++ rest) ≡ (past ++ (done ++ e ∷ [])) ++ (es ++ rest) =
        sym (append_assoc (past ++ done) (e ∷ []) (es ++ rest)) ∙ ap (λ (l : List Entry). l ++ (es ++ rest)) (append_assoc past done (e ∷ [])) in (
          caused tells past done e (es ++ rest) own ask.0,
          all-caused tells past (done ++ e ∷ []) es rest (own ∙ on) ask.1,
        )

-- Each file that a proxy keeps was landed, or kept at the start.
use Rattle.std.proofs.Common.{◌≡◌, ℕ, true, false, cond, ◌⊎◌, inl, inr, List, [], ◌∷◌, ◌++◌, Some, refl, sym, ◌∙◌, ap, subst}
use Rattle.std.specs.Prelude.{bytes_eq, if◌then◌else◌}
use Rattle.std.specs.List.{AllByRecursion}
use Rattle.std.proofs.lemmas.Bool.{false≢true}
use Rattle.fetch_plan.specs.declared.Outcome.TheVariants.{Got}
use Rattle.repo_model.specs.Fetched.{got_file}
use Rattle.repo_model.specs.Data.{Blob, Row}
use Rattle.repo_model.specs.Settings.{Settings}
use Rattle.repo_model.specs.State.{State, row_at, rows_of, files_of}
use Rattle.repo_model.specs.Effect.{Effect, forgets, returns, caches, keeps_doc, adds_negative, clears_negative, with_row, new_row, proxy_after, with_effect, with_effects}
use Rattle.repo_model.specs.Command.{Command, look, land}
use Rattle.repo_model.specs.Reply.{file, landed, is_free}
use Rattle.repo_model.specs.Turn.{Turn, turn, look_at, is_file}
use Rattle.repo_model.specs.History.{Entry, Fits, ticked, after, Legal, end}
use Rattle.repo_laws.specs.Laws.{AnyByRecursion}
use Rattle.repo_laws.specs.Looks.{IsRowOf, IsFileAt, IsSeenFile, IsAsked}
use Rattle.repo_laws.specs.Proxied.{LandsAs, LandsFile, WasLanded, Proxied}
use Rattle.repo_laws.proofs.Files.{files-changed}
use Rattle.repo_laws.proofs.Rows.{same_path}
use Rattle.repo_laws.proofs.Inserted.{row-found}
use Rattle.repo_laws.proofs.Cases.{Case, lends_file, lands_one, lands_late, turn-case}
use Rattle.repo_laws.proofs.Making.{is_common, turn-makes}
use Rattle.repo_laws.proofs.Looks.{looked-file}
use Rattle.repo_laws.proofs.Answered.{reply-determined}

-- the effect makes this blob a proxy's file at a path
abbrev pub Caches : List ℕ → List ℕ → Blob → Effect → Type 0
Caches id path blob e = (moment : ℕ) × (e ≡ caches id path blob moment)

module _ (id path : List ℕ) (blob : Blob) where
  -- a row at a path is the new one there, or was there
  abbrev IsNew : Row → Type 0
  IsNew new = (new.path ≡ path) × (new.blob ≡ blob)

  with_row-or : (new : Row) (rows : List Row) → IsRowOf (with_row new rows) path blob → IsRowOf rows path blob ⊎ IsNew new
  with_row-or new rows (row, found, same) =
      elim (bytes_eq new.path path) as (λ b. bytes_eq new.path path ≡ b → cond b (Some new) (row_at path rows) ≡ Some row → IsRowOf rows path blob ⊎ IsNew new) [
        | true ↦ λ here is. let new_is : new ≡ row = cc in inr (same_path new.path path here, ap (λ (r : Row). r.blob) new_is ∙ same)
        | false ↦ λ _ was. inl (row, was, same)
      ] refl (sym (row-found path new rows) ∙ found)

  abbrev Before : State → Effect → Type 0
  Before s e = IsRowOf (files_of id s) path blob ⊎ Caches id path blob e

  -- a kept file was kept before an effect, or the effect caches it
  cached-before : (s : State) (e : Effect) → IsRowOf (files_of id (with_effect s e)) path blob → Before s e
  cached-before s (caches at new kept moment) kept_then =
      files-changed id at (proxy_after (caches at new kept moment)) (λ p. refl) (λ rows. IsRowOf rows path blob → Before s (caches at new kept moment)) s.proxies (λ there. inl there)
      (λ p at_is found old there.
      elim (with_row-or (new_row new kept moment) p.files there) as (λ _. Before s (caches at new kept moment)) [
        | inl was ↦ old was
        | inr (path_is, blob_is) ↦ inr (
          moment,
          ap (λ (x : List ℕ). caches x new kept moment) at_is ∙ ap (λ (x : List ℕ). caches id x kept moment) path_is ∙ ap (λ (x : Blob). caches id path x moment) blob_is,
        )
      ]) kept_then
  cached-before s (keeps_doc at new document moment) kept_then =
      files-changed id at (proxy_after (keeps_doc at new document moment)) (λ p. refl) (λ rows. IsRowOf rows path blob → Before s (keeps_doc at new document moment)) s.proxies (λ there. inl there) (λ p at_is found old there. old there) kept_then
  cached-before s (adds_negative at new moment) kept_then =
      files-changed id at (proxy_after (adds_negative at new moment)) (λ p. refl) (λ rows. IsRowOf rows path blob → Before s (adds_negative at new moment)) s.proxies (λ there. inl there) (λ p at_is found old there. old there) kept_then
  cached-before s (clears_negative at new) kept_then =
      files-changed id at (proxy_after (clears_negative at new)) (λ p. refl) (λ rows. IsRowOf rows path blob → Before s (clears_negative at new)) s.proxies (λ there. inl there) (λ p at_is found old there. old there) kept_then
  cached-before s e there = inl there

  all-before : (es : List Effect) (s : State) → IsRowOf (files_of id (with_effects s es)) path blob → IsRowOf (files_of id s) path blob ⊎ AnyByRecursion (Caches id path blob) es
  all-before [] s there = inl there
  all-before (e ∷ es) s there =
      elim (all-before es (with_effect s e) there) as (λ _. IsRowOf (files_of id s) path blob ⊎ AnyByRecursion (Caches id path blob) (e ∷ es)) [
        | inr later ↦ inr (inr later)
        | inl earlier ↦ elim (cached-before s e earlier) as (λ _. IsRowOf (files_of id s) path blob ⊎ AnyByRecursion (Caches id path blob) (e ∷ es)) [ inl was ↦ inl was | inr now ↦ inr (inl now) ]
      ]

  module _ (c : Command) where
    -- only what lands caches
    abbrev OnlyLands : Effect → Type 0
    OnlyLands e = Caches id path blob e → LandsAs id path blob c

    only-lands : (e : Effect) → is_common e ≡ true → OnlyLands e
    only-lands e common (moment, is) = absurd (false≢true (ap is_common (sym is) ∙ common))

    turn-only : (settings : Settings) (s : State) (now : ℕ) → AllByRecursion OnlyLands (turn settings s now c).effects
    turn-only settings s now =
        turn-makes OnlyLands only-lands settings s now c
        (λ lease _ is. absurd (let e : returns lease ≡ caches id path blob is.0 = is.1 in cc))
        (λ blobs _ is. absurd (let e : forgets blobs ≡ caches id path blob is.0 = is.1 in cc))
        (λ plan kept c_is is.
        let e : caches plan.proxy plan.path kept now ≡ caches id path blob is.0 = is.1 in
        let id_is : plan.proxy ≡ id = cc in
        let path_is : plan.path ≡ path = cc in
        let blob_is : kept ≡ blob = cc in
        (plan, c_is ∙ ap (λ (b : Blob). land plan (Got (got_file b))) blob_is, id_is, path_is))

  any-lands : (c : Command) (es : List Effect) → AllByRecursion (OnlyLands c) es → AnyByRecursion (Caches id path blob) es → LandsAs id path blob c
  any-lands c [] all any = absurd any
  any-lands c (e ∷ es) all (inl here) = all.0 here
  any-lands c (e ∷ es) all (inr later) = any-lands c es all.1 later

  -- what lands, answers so
  land-replies : (settings : Settings) (s : State) (e : Entry) → Fits settings s e → is_free e.reply ≡ false → AnyByRecursion (Caches id path blob) (turn settings s e.moment e.command).effects → LandsFile id path blob e
  land-replies settings s e fits bound any =
      let lands_it = any-lands e.command (turn settings s e.moment e.command).effects (turn-only e.command settings s e.moment) any in
      (lands_it, reply-determined settings s e fits bound ∙ case-replies e.command (turn settings s e.moment e.command) (turn-case settings s e.moment e.command) lands_it any) where
        case-replies : (c : Command) (t : Turn) → Case settings s e.moment c t → LandsAs id path blob c → AnyByRecursion (Caches id path blob) t.effects → t.reply ≡ landed
        case-replies c t (lands_one plan outcome drawn) lands_so any = refl
        case-replies c t (lands_late plan outcome late) lands_so any = absurd any
        case-replies c t case lands_so any = absurd (let is : c ≡ land lands_so.0 (Got (got_file blob)) = lands_so.1 in cc)

  entry-landed : (settings : Settings) (s : State) (e : Entry) → Fits settings s e → IsRowOf (files_of id (after settings s e)) path blob → IsRowOf (files_of id s) path blob ⊎ LandsFile id path blob e
  entry-landed settings s e fits =
      elim (is_free e.reply)
      as (λ b. is_free e.reply ≡ b → IsRowOf (files_of id (with_effects (ticked s e.moment e.faults) (if b then [] else (turn settings s e.moment e.command).effects))) path blob
      → IsRowOf (files_of id s) path blob ⊎ LandsFile id path blob e) [
        | true ↦ λ _ there. inl there
        | false ↦ λ bound there.
            elim (all-before (turn settings s e.moment e.command).effects (ticked s e.moment e.faults) there) as (λ _. IsRowOf (files_of id s) path blob ⊎ LandsFile id path blob e) [
              | inl was ↦ inl was
              | inr any ↦ inr (land-replies settings s e fits bound any)
            ]
      ] refl

  pub was-landed : (settings : Settings) (entries : List Entry) (s : State) → Legal settings s entries → IsRowOf (files_of id (end settings s entries)) path blob → WasLanded s entries id path blob
  was-landed settings [] s legal there = inl there
  was-landed settings (e ∷ entries) s legal there =
      elim (was-landed settings entries (after settings s e) legal.1 there) as (λ _. WasLanded s (e ∷ entries) id path blob) [
        | inr later ↦ inr (inr later)
        | inl earlier ↦ elim (entry-landed settings s e legal.0 earlier) as (λ _. WasLanded s (e ∷ entries) id path blob) [ inl was ↦ inl was | inr here ↦ inr (inl here) ]
      ]

-- a file is answered where one is seen
case-seen : (settings : Settings) (s : State) (now lease : ℕ) (blob : Blob) (id path tried : List ℕ) (c : Command) (t : Turn) → Case settings s now c t → c ≡ look id path tried → t.reply ≡ file lease blob
    → look_at settings s now id tried path ≡ is_file blob
case-seen settings s now lease blob id path tried c t (lends_file repo at known_missing kept more seen) c_is answered =
    let one : file s.yard.next_lease kept ≡ file lease blob = answered in
    let other : look repo at known_missing ≡ look id path tried = c_is in
    let blob_is : kept ≡ blob = cc in
    let repo_is : repo ≡ id = cc in
    let at_is : at ≡ path = cc in
    let tried_is : known_missing ≡ tried = cc in
    ap (λ (x : List ℕ). look_at settings s now x tried path) (sym repo_is) ∙ ap (λ (x : List ℕ). look_at settings s now repo x path) (sym tried_is)
    ∙ ap (λ (x : List ℕ). look_at settings s now repo known_missing x) (sym at_is) ∙ seen ∙ ap is_file blob_is
case-seen settings s now lease blob id path tried c t case c_is answered = absurd (cc)

legal-front : (settings : Settings) (before later : List Entry) (s : State) → Legal settings s (before ++ later) → Legal settings s before × Legal settings (end settings s before) later
legal-front settings [] later s legal = (tt, legal)
legal-front settings (e ∷ before) later s legal = let rest = legal-front settings before later (after settings s e) legal.1 in ((legal.0, rest.0), rest.1)

module _ (settings : Settings) where
  one-asked : (start : State) (before : List Entry) (one path : List ℕ) (blob : Blob) → Legal settings start before → IsFileAt (end settings start before) one path blob
      → IsRowOf (rows_of one (end settings start before)) path blob ⊎ WasLanded start before one path blob
  one-asked start before one path blob legal (inl row) = inl row
  one-asked start before one path blob legal (inr kept) = inr (was-landed one path blob settings before start legal kept)

  pub all-proxied : (start : State) (entries : List Entry) → Legal settings start entries → Proxied settings start entries
  all-proxied start entries legal before later e id path tried lease blob entries_are looks answers =
      let (front, (fits, _)) = legal-front settings before (e ∷ later) start (subst (Legal settings start) entries_are legal) in
      let s = end settings start before in
      let seen = case-seen settings s e.moment lease blob id path tried e.command (turn settings s e.moment e.command) (turn-case settings s e.moment e.command) looks
      (sym (reply-determined settings s e fits (ap is_free answers)) ∙ answers) in
      by (looked-file settings s e.moment id tried path blob seen) front where
        by : IsSeenFile settings (end settings start before) id path blob → Legal settings start before
            → (one : List ℕ) × IsAsked settings id one × (IsRowOf (rows_of one (end settings start before)) path blob ⊎ WasLanded start before one path blob)
        by (inl here) front = (id, inl refl, one-asked start before id path blob front here)
        by (inr (g, found, (member, among, here))) front = (member, inr (g, found, among), one-asked start before member path blob front here)

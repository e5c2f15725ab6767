-- A put that was answered with created: what it recorded, and the row that stands after it.
use Rattle.std.proofs.Common.{◌≡◌, ◌≢◌, ℕ, true, false, ◌||◌, cond, List, [], ◌∷◌, Option, Some, None, refl, sym, ap, ◌∙◌, subst}
use Rattle.std.specs.Prelude.{Bool, find, if◌then◌else◌}
use Rattle.std.specs.Option.{option_map_or}
use Rattle.std.specs.List.{list_any}
use Rattle.repo_model.specs.Command.{put}
use Rattle.repo_model.specs.Data.{Blob, Hosted, Phase, Row, fading, is_same_print, listed}
use Rattle.repo_model.specs.Effect.{creates, new_row, recorded, with_effects, with_row}
use Rattle.repo_model.specs.History as history
use Rattle.repo_model.specs.History.{Entry, Fits, IsReply, after, effects_of, ticked}
use Rattle.repo_model.specs.May.{AllMay}
use Rattle.repo_model.specs.Reply.{created, is_free, no_memory, relisted, same, store_fault}
use Rattle.repo_model.specs.Settings.{Settings}
use Rattle.repo_model.specs.State.{State, change_first, is_among, is_repository, row_at, rows_of}
use Rattle.repo_model.specs.Turn.{Turn, put_again, put_at, says, turn}
use Rattle.repo_model.specs.Reply as reply
use Rattle.repo_laws.specs.Sound.{AreNamedApart, IsSound}
use Rattle.repo_laws.proofs.HoldingRows.{row-new}
use Rattle.repo_laws.proofs.Turns.{turn-can}

-- what a put does that is answered so
abbrev IsNewPut : List ℕ → List ℕ → Blob → ℕ → Turn → Type 0
IsNewPut repo path blob now t = t.reply ≡ created → t.effects ≡ creates repo path blob now ∷ []

either-put : (repo path : List ℕ) (blob : Blob) (now : ℕ) (b : Bool) (t u : Turn) → IsNewPut repo path blob now t → IsNewPut repo path blob now u → IsNewPut repo path blob now (if b then t else u)
either-put repo path blob now true t u one other = one
either-put repo path blob now false t u one other = other

put-again : (repo path : List ℕ) (n now : ℕ) (blob : Blob) (phase : Phase) → IsNewPut repo path blob now (put_again repo path n now phase)
put-again repo path n now blob listed = λ is. absurd (let x : same ≡ created = is in cc)
put-again repo path n now blob (fading since) = λ is. absurd (let x : relisted ≡ created = is in cc)

put-does : (repo path : List ℕ) (n now : ℕ) (blob : Blob) (found : Option Row) → IsNewPut repo path blob now (put_at repo path n blob now found)
put-does repo path n now blob None = λ is. refl
put-does repo path n now blob (Some row) =
    either-put repo path blob now (is_same_print row.blob.print blob.print) (put_again repo path n now row.phase) _ (put-again repo path n now blob row.phase) (λ is. absurd (cc))

turn-does : (settings : Settings) (s : State) (now : ℕ) (repo path : List ℕ) (n : ℕ) (blob : Blob) → IsNewPut repo path blob now (turn settings s now (put repo path n blob))
turn-does settings s now repo path n blob =
    either-put repo path blob now (is_among n s.yard.drafts) (put_at repo path n blob now (row_at path (rows_of repo s))) (says reply.no_draft) (put-does repo path n now blob (row_at path (rows_of repo s)))
    (λ is. absurd (cc))

-- the reply is the one that was due
due-created : (settings : Settings) (s : State) (e : Entry) → IsReply settings s e → e.reply ≡ created → (turn settings s e.moment e.command).reply ≡ created
due-created settings s e (history.due is commit) done = sym is ∙ done
due-created settings s e (history.wants_memory is takes commit) done = absurd (let x : no_memory ≡ created = sym is ∙ done in cc)
due-created settings s e (history.failed is asked rose) done = absurd (let x : store_fault ≡ created = sym is ∙ done in cc)

-- the rows of a repository that is there, once they are changed
rows-here : (repo : List ℕ) (f : List Row → List Row) (hosted : List Hosted) → list_any (is_repository repo) hosted ≡ true
    → option_map_or (λ (h : Hosted). h.rows) (find (is_repository repo) (change_first (is_repository repo) (λ (h : Hosted). record h { rows = f h.rows }) hosted)) []
    ≡ f (option_map_or (λ (h : Hosted). h.rows) (find (is_repository repo) hosted) [])
rows-here repo f [] there = absurd (cc)
rows-here repo f (h ∷ hosted) there =
    elim (is_repository repo h)
    as (λ b. is_repository repo h ≡ b → b || list_any (is_repository repo) hosted ≡ true
    → option_map_or (λ (g : Hosted). g.rows) (find (is_repository repo) (cond b (record h { rows = f h.rows } ∷ hosted) (h ∷ change_first (is_repository repo) (λ (g : Hosted). record g { rows = f g.rows }) hosted))) []
    ≡ f (option_map_or (λ (g : Hosted). g.rows) (cond b (Some h) (find (is_repository repo) hosted)) [])) [
      | true ↦ λ is any. rw is refl
      | false ↦ λ is any. rw is (rows-here repo f hosted any)
    ] refl there

module _ (settings : Settings) (s : State) (e : Entry) (repo path : List ℕ) (n : ℕ) (blob : Blob) (apart : AreNamedApart settings.hosted) (sound : IsSound settings s) (fits : Fits settings s e)
    (is : e.command ≡ put repo path n blob) (done : e.reply ≡ created) where
  effects : (turn settings s e.moment e.command).effects ≡ creates repo path blob e.moment ∷ []
  effects =
      ap (λ c. (turn settings s e.moment c).effects) is
      ∙ turn-does settings s e.moment repo path n blob (ap (λ c. (turn settings s e.moment c).reply) (sym is) ∙ due-created settings s e fits.reply done)

  pub did : effects_of settings s e ≡ creates repo path blob e.moment ∷ []
  did = ap (λ r. if is_free r then [] else (turn settings s e.moment e.command).effects) done ∙ effects

  pub created-records : recorded (effects_of settings s e) ≢ []
  created-records none = let x = sym (ap recorded did) ∙ none in cc

  pub created-stands : row_at path (rows_of repo (after settings s e)) ≡ Some (new_row path blob e.moment)
  created-stands =
      let may : AllMay settings.grace e.moment s (creates repo path blob e.moment ∷ []) =
      subst (AllMay settings.grace e.moment s) effects (turn-can settings.grace e.moment settings s sound.order apart e.command fits.condition refl) in
      let new = new_row path blob e.moment in
      ap (λ es. row_at path (rows_of repo (with_effects (ticked s e.moment e.faults) es))) did
      ∙ ap (row_at path) (rows-here repo (with_row new) s.hosted may.0.1)
      ∙ row-new new (rows_of repo s) may.0.3

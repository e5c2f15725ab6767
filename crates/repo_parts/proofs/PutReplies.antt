-- The reply that is due to a put, by the row at its path, and what the put leaves.
use Rattle.std.proofs.Common.{◌≡◌, ◌≢◌, ◌⊎◌, ℕ, Bool, true, false, cond, if◌then◌else◌, List, [], ◌∷◌, Option, Some, None, inl, inr, refl, sym, ap, ◌∙◌, subst}
use Rattle.std.specs.Prelude.{IsTrue, find}
use Rattle.std.proofs.lemmas.Bool.{false≢true}
use Rattle.std.specs.Option.{option_map_or}
use Rattle.repo_model.specs.declared.print.Print.{Print}
use Rattle.repo_model.specs.Data.{Blob, Row, Phase, listed, fading, Hosted, is_same_print}
use Rattle.repo_model.specs.State.{State, Yard, change_where, change_first, is_repository, is_row, row_at}
use Rattle.repo_model.specs.Effect.{recorded, with_effects, yard_after, drops, with_row, new_row, list_again, without_draft}
use Rattle.repo_model.specs.Reply.{Reply, no_memory, store_fault, taken, is_free}
use Rattle.repo_model.specs.Turn.{Turn, put_again, put_at}
use Rattle.ordered_rows.specs.Rows.{rows_after_all}
use Rattle.hosted_repo.specs.Puts.{put_turn}
use Rattle.repo_laws.proofs.Lists.{found-passes}
use Rattle.repo_laws.proofs.Releases.{same_path}
use Rattle.repo_parts.specs.Hosted.{rows_in, with_rows, put_in, rows_put}
use Rattle.repo_parts.specs.Numbers.{yard_put}
use Rattle.repo_parts.proofs.HostedLemmas.{lent-rows, rows-found, with_lent}
use Rattle.repo_parts.proofs.ListLemmas.{same-all}

-- what a put does where the path has a row, by whether the contents are the same
abbrev pub put_by : Bool → List ℕ → List ℕ → ℕ → ℕ → Phase → Print → Print → Turn
put_by b repo path n now phase kept sent = if b then put_again repo path n now phase else record { reply = taken kept sent; effects = drops n ∷ [] }

-- it changes something
bound-by : (b : Bool) (repo path : List ℕ) (n now : ℕ) (phase : Phase) (kept sent : Print) → is_free (put_by b repo path n now phase kept sent).reply ≡ false
bound-by true repo path n now listed kept sent = refl
bound-by true repo path n now (fading since) kept sent = refl
bound-by false repo path n now phase kept sent = refl

put-bound : (repo path : List ℕ) (n now : ℕ) (blob : Blob) (found : Option Row) → is_free (put_at repo path n blob now found).reply ≡ false
put-bound repo path n now blob None = refl
put-bound repo path n now blob (Some row) = bound-by (is_same_print row.blob.print blob.print) repo path n now row.phase row.blob.print blob.print

-- the turn of a put at the repository of an id
pub put-here : (id path : List ℕ) (blob : Blob) (now : ℕ) (items : List Hosted) (old : Hosted) → find (is_repository id) items ≡ Some old → put_turn old path blob now ≡ put_in id path blob now items
put-here id path blob now items old is =
    let named : old.rule.id ≡ id = same_path old.rule.id id (found-passes (is_repository id) items old is) in
    ap (λ i. put_at i path blob.number blob now (row_at path old.rows)) named ∙ ap (λ rs. put_at id path blob.number blob now (row_at path rs)) (rows-found id items old is)

-- what the effects of a put leave of the rows, by its reply
abbrev RowsSo : Turn → List ℕ → Blob → ℕ → List Row → Type 0
RowsSo turn path blob now rows = rows_after_all turn.effects rows ≡ rows_put path blob now turn.reply rows

rows-by-content : (b : Bool) (repo path : List ℕ) (n now : ℕ) (blob : Blob) (phase : Phase) (kept sent : Print) (rows : List Row) → RowsSo (put_by b repo path n now phase kept sent) path blob now rows
rows-by-content true repo path n now blob listed kept sent rows = refl
rows-by-content true repo path n now blob (fading since) kept sent rows = refl
rows-by-content false repo path n now blob phase kept sent rows = refl

rows-put : (repo path : List ℕ) (n now : ℕ) (blob : Blob) (found : Option Row) (rows : List Row) → RowsSo (put_at repo path n blob now found) path blob now rows
rows-put repo path n now blob None rows = refl
rows-put repo path n now blob (Some row) rows = rows-by-content (is_same_print row.blob.print blob.print) repo path n now blob row.phase row.blob.print blob.print rows

-- what holds of both replies that change nothing
pub by-free : (P : Reply → Type 0) (reply : Reply) → is_free reply ≡ true → P no_memory → P store_fault → P reply
by-free P no_memory is memory fault = memory
by-free P store_fault is memory fault = fault
by-free P reply is memory fault = absurd (false≢true is)

-- the reply is the one that is due, or changes nothing where something was to be recorded
abbrev pub IsGiven : Turn → Reply → Type 0
IsGiven turn reply = (reply ≡ turn.reply) ⊎ (IsTrue (is_free reply) × (recorded turn.effects ≢ []))

-- what a put leaves of its repository, whether it was done or not
rows-left : (h : Hosted) (path : List ℕ) (blob : Blob) (now : ℕ) (reply : Reply) → let turn = put_turn h path blob now in
    IsGiven turn reply → (if is_free reply then h else record h { rows = rows_after_all turn.effects h.rows }) ≡ record h { rows = rows_put path blob now reply h.rows }
rows-left h path blob now reply (inr is) = let turn = put_turn h path blob now in
    by-free (λ r. (if is_free r then h else record h { rows = rows_after_all turn.effects h.rows }) ≡ record h { rows = rows_put path blob now r h.rows }) reply is.0 refl refl
rows-left h path blob now reply (inl is) =
    let turn = put_turn h path blob now in
    let found = row_at path h.rows in
    let done : Hosted = record h { rows = rows_after_all turn.effects h.rows } in
    ap (λ b. if b then h else done) (ap is_free is ∙ put-bound h.rule.id path blob.number now blob found)
    ∙ ap (λ rows. record h { rows = rows }) (rows-put h.rule.id path blob.number now blob found h.rows ∙ ap (λ r. rows_put path blob now r h.rows) (sym is))

-- what it leaves of all repositories
pub put-left : (id path : List ℕ) (blob : Blob) (now : ℕ) (items : List Hosted) (old new : Hosted) (reply : Reply) → find (is_repository id) items ≡ Some old
    → let turn = put_turn old path blob now in IsGiven turn reply → new ≡ (if is_free reply then old else record old { rows = rows_after_all turn.effects old.rows })
    → with_lent id items new ≡ with_rows id (rows_put path blob now reply (rows_in id items)) items
put-left id path blob now items old new reply here given made =
    lent-rows id items old new (rows_put path blob now reply old.rows) here (made ∙ rows-left old path blob now reply given)
    ∙ ap (λ rows. with_rows id (rows_put path blob now reply rows) items) (rows-found id items old here)

-- rows that are changed by what they are
pub rows-by : (repo : List ℕ) (f : List Row → List Row) (hosted : List Hosted) → with_rows repo (f (rows_in repo hosted)) hosted ≡ change_first (is_repository repo) (λ h. record h { rows = f h.rows }) hosted
rows-by repo f [] = refl
rows-by repo f (h ∷ hosted) =
    elim (is_repository repo h)
    as (λ b. cond b (record h { rows = f (option_map_or (λ (g : Hosted). g.rows) (cond b (Some h) (find (is_repository repo) hosted)) []) } ∷ hosted)
    (h ∷ change_first (is_repository repo) (λ (g : Hosted). record g { rows = f (option_map_or (λ (k : Hosted). k.rows) (cond b (Some h) (find (is_repository repo) hosted)) []) }) hosted)
    ≡ cond b (record h { rows = f h.rows } ∷ hosted) (h ∷ change_first (is_repository repo) (λ (g : Hosted). record g { rows = f g.rows }) hosted)) [
      | true ↦ refl
      | false ↦ ap (λ hs. h ∷ hs) (rows-by repo f hosted)
    ]

pub same-rows : (repo : List ℕ) (hosted : List Hosted) → with_rows repo (rows_in repo hosted) hosted ≡ hosted
same-rows repo hosted = rows-by repo (λ rows. rows) hosted ∙ same-all (is_repository repo) hosted

-- the state once a put of a blob at a path got a reply
abbrev pub state_put : List ℕ → List ℕ → Blob → Reply → State → State
state_put repo path blob reply s = record s {
  hosted = with_rows repo (rows_put path blob s.last reply (rows_in repo s.hosted)) s.hosted;
  yard = yard_put blob.number reply s.yard;
}

module _ (s : State) (repo path : List ℕ) (blob : Blob) where
  abbrev Leaves : Turn → Type 0
  Leaves turn = state_put repo path blob turn.reply s ≡ with_effects s (if is_free turn.reply then [] else turn.effects)

  -- the rows stay
  still : (yard : Yard) → let old : State = record s { hosted = with_rows repo (rows_in repo s.hosted) s.hosted; yard = yard } in let new : State = record s { yard = yard } in old ≡ new
  still yard = ap (λ hs. record s { hosted = hs; yard = yard }) (same-rows repo s.hosted)

  by-content : (b : Bool) (phase : Phase) (kept sent : Print) → Leaves (put_by b repo path blob.number s.last phase kept sent)
  by-content true listed kept sent = still (yard_after (drops blob.number) s.yard)
  by-content true (fading since) kept sent = ap (λ hs. record s { hosted = hs; yard = yard_after (drops blob.number) s.yard }) (rows-by repo (change_where (is_row path) (list_again s.last)) s.hosted)
  by-content false phase kept sent = still (yard_after (drops blob.number) s.yard)

  as-due : (found : Option Row) → Leaves (put_at repo path blob.number blob s.last found)
  as-due None = ap (λ hs. record s { hosted = hs; yard = without_draft blob.number s.yard }) (rows-by repo (with_row (new_row path blob s.last)) s.hosted)
  as-due (Some row) = by-content (is_same_print row.blob.print blob.print) row.phase row.blob.print blob.print

  -- a put leaves what its turn leaves
  pub left-put : (reply : Reply) → let turn = put_in repo path blob s.last s.hosted in IsGiven turn reply → state_put repo path blob reply s ≡ with_effects s (if is_free reply then [] else turn.effects)
  left-put reply (inl is) =
      subst (λ r. state_put repo path blob r s ≡ with_effects s (if is_free r then [] else (put_in repo path blob s.last s.hosted).effects)) (sym is) (as-due (row_at path (rows_in repo s.hosted)))
  left-put reply (inr is) =
      by-free (λ r. state_put repo path blob r s ≡ with_effects s (if is_free r then [] else (put_in repo path blob s.last s.hosted).effects)) reply is.0 (still s.yard) (still s.yard)

-- A put that found its file standing: the row that it found, and what it recorded where the file was fading.
use Rattle.std.proofs.Common.{◌≡◌, ◌≢◌, inl, inr, ℕ, Bool, true, false, Option, Some, None, [], ◌∷◌, refl, sym, subst, ap, ◌∙◌}
use Rattle.std.specs.Prelude.{◌⊎◌, if◌then◌else◌, List}
use Rattle.repo_model.specs.declared.print.Print.{Print}
use Rattle.repo_model.specs.Command.{Command, put}
use Rattle.repo_model.specs.Data.{Blob, Phase, Row, fading, is_same_print, listed}
use Rattle.repo_model.specs.Effect.{drops, recorded}
use Rattle.repo_model.specs.History as history
use Rattle.repo_model.specs.History.{Entry, Fits, IsReply, effects_of}
use Rattle.repo_model.specs.Reply as reply
use Rattle.repo_model.specs.Reply.{Reply, created, is_free}
use Rattle.repo_model.specs.Settings.{Settings}
use Rattle.repo_model.specs.State.{State, is_among, row_at, rows_of}
use Rattle.repo_model.specs.Turn.{Turn, put_again, put_at, says, turn}
use Rattle.repo_laws.proofs.Prints.{prints-compare}
use Rattle.repo_course.specs.declared.response.Response.{Response}
use Rattle.repo_course.specs.declared.response.Response.TheVariants as response
use Rattle.running_laws.specs.Answered.{IsAgain, PutReply}

-- a reply that tells that the file stood, listed or fading
abbrev IsOld : Reply → Type 0
IsOld reply.same = Unit {0}
IsOld reply.relisted = Unit {0}
IsOld _ = ⊥

-- the replies to which such a response belongs
pub again-reply : (said : Response) (r : Reply) → IsAgain said → PutReply said r → (r ≡ reply.same) ⊎ (r ≡ reply.relisted)
again-reply response.Same r again is = inl is
again-reply response.Relisted r again is = inr is
again-reply _ r again is = absurd again

old-so : (r : Reply) → (r ≡ reply.same) ⊎ (r ≡ reply.relisted) → IsOld r
old-so r (inl is) = subst IsOld (sym is) tt
old-so r (inr is) = subst IsOld (sym is) tt

-- the row that was found, with the content that was sent
abbrev Found : Option Row → Print → Type 0
Found found print = (row : Row) × (found ≡ Some row) × (row.blob.print ≡ print)

put-found : (repo path : List ℕ) (n : ℕ) (blob : Blob) (now : ℕ) (found : Option Row) → IsOld (put_at repo path n blob now found).reply → Found found blob.print
put-found repo path n blob now None old = absurd old
put-found repo path n blob now (Some row) old =
    elim (is_same_print row.blob.print blob.print)
    as (λ b. is_same_print row.blob.print blob.print ≡ b
    → IsOld (if b then put_again repo path n now row.phase else record { reply = reply.taken row.blob.print blob.print; effects = drops n ∷ [] }).reply → Found (Some row) blob.print) [
      | true ↦ λ is _. (row, refl, (prints-compare row.blob.print blob.print).0 is)
      | false ↦ λ _ taken. absurd taken
    ] refl old

turn-found : (repo path : List ℕ) (n : ℕ) (blob : Blob) (now : ℕ) (found : Option Row) (b : Bool) → IsOld (if b then put_at repo path n blob now found else says reply.no_draft).reply → Found found blob.print
turn-found repo path n blob now found true old = put-found repo path n blob now found old
turn-found repo path n blob now found false old = absurd old

-- what a put does that lists a file again
abbrev Records : Turn → Type 0
Records t = t.reply ≡ reply.relisted → recorded t.effects ≢ []

either-records : (b : Bool) (t u : Turn) → Records t → Records u → Records (if b then t else u)
either-records true t u one other = one
either-records false t u one other = other

again-records : (repo path : List ℕ) (n now : ℕ) (phase : Phase) → Records (put_again repo path n now phase)
again-records repo path n now listed = λ is. absurd (let x : reply.same ≡ reply.relisted = is in cc)
again-records repo path n now (fading since) = λ is none. absurd (cc)

put-records : (repo path : List ℕ) (n : ℕ) (blob : Blob) (now : ℕ) (found : Option Row) → Records (put_at repo path n blob now found)
put-records repo path n blob now None = λ is. absurd (let x : created ≡ reply.relisted = is in cc)
put-records repo path n blob now (Some row) =
    either-records (is_same_print row.blob.print blob.print) (put_again repo path n now row.phase) (record { reply = reply.taken row.blob.print blob.print; effects = drops n ∷ [] })
    (again-records repo path n now row.phase) (λ is. absurd (let x : reply.taken row.blob.print blob.print ≡ reply.relisted = is in cc))

module _ (settings : Settings) (s : State) (e : Entry) (repo path : List ℕ) (n : ℕ) (blob : Blob) (fits : Fits settings s e) (is : e.command ≡ put repo path n blob) where
  due-old : IsReply settings s e → IsOld e.reply → IsOld (turn settings s e.moment e.command).reply
  due-old (history.due same did) old = subst IsOld same old
  due-old (history.wants_memory same free did) old = absurd (subst IsOld same old)
  due-old (history.failed same asked rose) old = absurd (subst IsOld same old)

  pub stood : (e.reply ≡ reply.same) ⊎ (e.reply ≡ reply.relisted) → Found (row_at path (rows_of repo s)) blob.print
  stood so =
      turn-found repo path n blob e.moment (row_at path (rows_of repo s)) (is_among n s.yard.drafts)
      (subst (λ (c : Command). IsOld (turn settings s e.moment c).reply) is (due-old fits.reply (old-so e.reply so)))

  due-relisted : IsReply settings s e → e.reply ≡ reply.relisted → (turn settings s e.moment e.command).reply ≡ reply.relisted
  due-relisted (history.due same did) done = sym same ∙ done
  due-relisted (history.wants_memory same free did) done = absurd (let x : reply.no_memory ≡ reply.relisted = sym same ∙ done in cc)
  due-relisted (history.failed same asked rose) done = absurd (let x : reply.store_fault ≡ reply.relisted = sym same ∙ done in cc)

  pub relisted-records : e.reply ≡ reply.relisted → recorded (effects_of settings s e) ≢ []
  relisted-records done none =
      either-records (is_among n s.yard.drafts) (put_at repo path n blob e.moment (row_at path (rows_of repo s))) (says reply.no_draft)
      (put-records repo path n blob e.moment (row_at path (rows_of repo s))) (λ other. absurd (let x : reply.no_draft ≡ reply.relisted = other in cc))
      (ap (λ (c : Command). (turn settings s e.moment c).reply) (sym is) ∙ due-relisted fits.reply done)
      (ap (λ (c : Command). recorded (turn settings s e.moment c).effects) (sym is)
      ∙ sym (ap (λ r. recorded (if is_free r then [] else (turn settings s e.moment e.command).effects)) done) ∙ none)

-- Why a look, and why a file that is sent to a repository, is refused.
use Rattle.std.proofs.Common.{◌≡◌, ◌≢◌, ℕ, Bool, true, false, List, [], ◌∷◌, Option, Some, None, Result, Ok, Err, refl, sym, ◌∙◌, ap, subst, eqb-true}
use Rattle.std.specs.Prelude.{◌==◌, if◌then◌else◌}
use Rattle.std.specs.Option.{option_map, option_map_or}
use Rattle.std.proofs.lemmas.Bool.{false≢true, eq-eqb}
use Rattle.std.proofs.lemmas.Option.{none-some}
use Rattle.mvn_coords.specs.Kind.{kind}
use Rattle.mvn_coords.specs.declared.kind.Kind.{Kind}
use Rattle.mvn_coords.specs.declared.kind.Kind.TheVariants.{File, FileSide, Doc, DocSide}
use Rattle.mvn_coords.specs.declared.fault.PathFault.{PathFault}
use Rattle.mvn_coords.specs.Layout.{Coordinates, text_of}
use Rattle.mvn_digest.specs.Digests.{digests_of}
use Rattle.mvn_digest.specs.Sides.{side_text}
use Rattle.mvn_metadata.specs.Document.{Document, settled, blank}
use Rattle.mvn_metadata.specs.Written as written
use Rattle.repo_model.specs.declared.print.Print.{Print}
use Rattle.repo_model.specs.Data.{Blob, Row, Phase, listed, fading, Hosted, repository, is_same_print}
use Rattle.repo_model.specs.Paths.{takes}
use Rattle.repo_model.specs.Document.{described, listed_in}
use Rattle.repo_model.specs.State.{State, hosted_of, row_at, rows_of, is_among, number_end}
use Rattle.repo_model.specs.Effect.{draws, drops, lends}
use Rattle.repo_model.specs.Command.{is_fit, group_rule_of}
use Rattle.repo_model.specs.Reply.{Reply, file, text, doc, missed, kind_refused, no_draft, taken, same, relisted, created, draft, spent, fetches, blocked, negative, never_asked}
use Rattle.repo_model.specs.Turn.{Turn, says, draws_or_spent, draws_draft, document_text, Seen, is_file, is_text, is_doc, is_nothing, or_nothing, seen_at, shows, in_repository, put_again, put_at, is_to_fetch, is_blocked, is_negative, is_never, look_at, plan_of, longest_document, group_seen, member_seen, directory_of, file_limit}
use Rattle.repo_laws.specs.Causes.{HasNothing, LookRefused, MayPutRefused, PutRefused, HostedRefused, SeenRefused, RefusedAt}
use Rattle.repo_laws.specs.Replies.{is_refusal, takes_at}
use Rattle.repo_laws.proofs.Prints.{prints-compare}
use Rattle.repo_model.specs.Settings.{GroupRule, ProxyRule, Settings}

-- a reply that is no refusal is none of the refusals
pub no-refusal : (x r : Reply) → is_refusal x ≡ false → x ≡ r → is_refusal r ≡ true → ⊥
no-refusal x r fine is refused = false≢true (sym fine ∙ ap is_refusal is ∙ refused)

-- what draws the next number is refused where there is none
pub spent-caused : (P : Reply → Type 0) (next : ℕ) (t : Turn) → is_refusal t.reply ≡ false → (next ≡ number_end → P spent) → (r : Reply) → is_refusal r ≡ true → (draws_or_spent next t).reply ≡ r → P r
spent-caused P next t fine so r refused is =
    elim (next == number_end) as (λ b. (next == number_end) ≡ b → (if b then says spent else t).reply ≡ r → P r) [
      | true ↦ λ last e. subst P e (so (eqb-true next number_end last))
      | false ↦ λ more e. absurd (no-refusal t.reply r fine e refused)
    ] refl is

pub spent-so : (next : ℕ) (t : Turn) → next ≡ number_end → (draws_or_spent next t).reply ≡ spent
spent-so next t last = ap (λ b. (if b then says spent else t).reply) (eq-eqb next number_end last)

-- what is nothing was not found
or_nothing-none : {A : Type 0} (f : A → Seen) → ((x : A) → f x ≡ is_nothing → ⊥) → (found : Option A) → or_nothing f found ≡ is_nothing → found ≡ None
or_nothing-none f never None is = refl
or_nothing-none f never (Some x) is = absurd (never x is)

-- what is no file is nothing of one
or_nothing-file : {A : Type 0} (f : A → Seen) (blob : Blob) → ((x : A) → f x ≡ is_file blob → ⊥) → (found : Option A) → or_nothing f found ≡ is_file blob → ⊥
or_nothing-file f blob never None is = let e : is_nothing ≡ is_file blob = is in cc
or_nothing-file f blob never (Some x) is = never x is

text-none : (empty : Document) (visible : List Row) → option_map written.text (described empty visible) ≡ None → visible ≡ []
text-none empty [] is = refl
text-none empty (row ∷ rows) is = absurd (none-some _ (sym is))

module _ (rows : List Row) (path : List ℕ) where
  none-seen : (k : Result Kind PathFault) → seen_at rows path k ≡ is_nothing → HasNothing rows path k
  none-seen (Ok (File c)) is = or_nothing-none (λ (row : Row). is_file row.blob) (λ row e. let x : is_file row.blob ≡ is_nothing = e in cc) (row_at path rows) is
  none-seen (Ok (FileSide c side)) is =
      or_nothing-none (λ (row : Row). is_text (side_text side row.blob.print.digests)) (λ row e. let x : is_text (side_text side row.blob.print.digests) ≡ is_nothing = e in cc)
      (row_at (text_of c) rows) is
  none-seen (Ok (Doc d)) is =
      text-none (settled blank d) (listed_in d rows) (or_nothing-none is_doc (λ bytes e. let x : is_doc bytes ≡ is_nothing = e in cc) (document_text d rows) is)
  none-seen (Ok (DocSide d side)) is =
      text-none (settled blank d) (listed_in d rows)
      (or_nothing-none (λ bytes. is_text (side_text side (digests_of bytes))) (λ bytes e. let x : is_text (side_text side (digests_of bytes)) ≡ is_nothing = e in cc) (document_text d rows) is)
  none-seen (Err fault) is = tt

  none-there : (k : Result Kind PathFault) → HasNothing rows path k → seen_at rows path k ≡ is_nothing
  none-there (Ok (File c)) none = ap (or_nothing (λ (row : Row). is_file row.blob)) none
  none-there (Ok (FileSide c side)) none = ap (or_nothing (λ (row : Row). is_text (side_text side row.blob.print.digests))) none
  none-there (Ok (Doc d)) none = ap (λ visible. or_nothing is_doc (option_map written.text (described (settled blank d) visible))) none
  none-there (Ok (DocSide d side)) none =
      ap (λ visible. or_nothing (λ bytes. is_text (side_text side (digests_of bytes))) (option_map written.text (described (settled blank d) visible))) none
  none-there (Err fault) none = refl

  abbrev FileOf : Result Kind PathFault → Type 0
  FileOf k = (c : Coordinates) × (row : Row) × (k ≡ Ok (File c)) × (row_at path rows ≡ Some row)

  file-seen : (blob : Blob) (k : Result Kind PathFault) → seen_at rows path k ≡ is_file blob → FileOf k
  file-seen blob (Ok (File c)) is = by (row_at path rows) refl is where
    by : (found : Option Row) → row_at path rows ≡ found → or_nothing (λ (row : Row). is_file row.blob) found ≡ is_file blob → FileOf (Ok (File c))
    by None there e = absurd (let x : is_nothing ≡ is_file blob = e in cc)
    by (Some row) there e = (c, row, refl, there)
  file-seen blob (Ok (FileSide c side)) is =
      absurd (or_nothing-file (λ (row : Row). is_text (side_text side row.blob.print.digests)) blob (λ row e. let x : is_text (side_text side row.blob.print.digests) ≡ is_file blob = e in cc) (row_at (text_of c) rows) is)
  file-seen blob (Ok (Doc d)) is = absurd (or_nothing-file is_doc blob (λ bytes e. let x : is_doc bytes ≡ is_file blob = e in cc) (document_text d rows) is)
  file-seen blob (Ok (DocSide d side)) is =
      absurd (or_nothing-file (λ bytes. is_text (side_text side (digests_of bytes))) blob (λ bytes e. let x : is_text (side_text side (digests_of bytes)) ≡ is_file blob = e in cc) (document_text d rows) is)
  file-seen blob (Err fault) is = absurd (let x : is_nothing ≡ is_file blob = is in cc)

-- what rows show is a file, a text, a document or nothing
abbrev is_plain : Seen → Bool
is_plain (is_file blob) = true
is_plain (is_text bytes) = true
is_plain (is_doc bytes) = true
is_plain is_nothing = true
is_plain seen = false

or_nothing-plain : {A : Type 0} (f : A → Seen) → ((x : A) → is_plain (f x) ≡ true) → (found : Option A) → is_plain (or_nothing f found) ≡ true
or_nothing-plain f plain None = refl
or_nothing-plain f plain (Some x) = plain x

seen-plain : (rows : List Row) (path : List ℕ) (k : Result Kind PathFault) → is_plain (seen_at rows path k) ≡ true
seen-plain rows path (Ok (File c)) = or_nothing-plain (λ (row : Row). is_file row.blob) (λ row. refl) (row_at path rows)
seen-plain rows path (Ok (FileSide c side)) = or_nothing-plain (λ (row : Row). is_text (side_text side row.blob.print.digests)) (λ row. refl) (row_at (text_of c) rows)
seen-plain rows path (Ok (Doc d)) = or_nothing-plain is_doc (λ bytes. refl) (document_text d rows)
seen-plain rows path (Ok (DocSide d side)) = or_nothing-plain (λ bytes. is_text (side_text side (digests_of bytes))) (λ bytes. refl) (document_text d rows)
seen-plain rows path (Err fault) = refl

module _ (settings : Settings) (s : State) where
  abbrev said : Seen → Reply
  said seen = (shows settings s.yard seen).reply

  abbrev lent : Blob → Turn
  lent blob = record { reply = file s.yard.next_lease blob; effects = lends blob.number ∷ [] }

  abbrev planned : ℕ → ProxyRule → List ℕ → Turn
  planned member rule at = record { reply = fetches (plan_of member rule at (Some s.yard.next_draft) (file_limit settings)); effects = draws ∷ [] }

  -- by what is seen
  seen-caused : (r : Reply) → is_refusal r ≡ true → (seen : Seen) → said seen ≡ r → SeenRefused s seen r
  seen-caused r refused (is_file blob) is = spent-caused (SeenRefused s (is_file blob)) s.yard.next_lease (lent blob) refl (λ last. last) r refused is
  seen-caused r refused (is_text bytes) is = absurd (no-refusal (text bytes) r refl is refused)
  seen-caused r refused (is_doc bytes) is = absurd (no-refusal (doc bytes (digests_of bytes)) r refl is refused)
  seen-caused r refused is_nothing is = subst (SeenRefused s is_nothing) is tt
  seen-caused r refused (is_to_fetch member rule at true) is =
      spent-caused (SeenRefused s (is_to_fetch member rule at true)) s.yard.next_draft (planned member rule at) refl (λ last. last) r refused is
  seen-caused r refused (is_to_fetch member rule at false) is = absurd (no-refusal (fetches (plan_of member rule at None longest_document)) r refl is refused)
  seen-caused r refused is_blocked is = subst (SeenRefused s is_blocked) is tt
  seen-caused r refused is_negative is = subst (SeenRefused s is_negative) is tt
  seen-caused r refused is_never is = subst (SeenRefused s is_never) is tt

  seen-refused : (seen : Seen) (r : Reply) → SeenRefused s seen r → said seen ≡ r
  seen-refused is_nothing missed cause = refl
  seen-refused is_blocked blocked cause = refl
  seen-refused is_negative negative cause = refl
  seen-refused is_never never_asked cause = refl
  seen-refused (is_file blob) spent last = spent-so s.yard.next_lease (lent blob) last
  seen-refused (is_to_fetch member rule at true) spent last = spent-so s.yard.next_draft (planned member rule at) last
  seen-refused seen r cause = absurd cause

  module _ (path : List ℕ) (rows : List Row) where
    never-seen : (seen : Seen) → is_plain seen ≡ false → seen_at rows path (kind path) ≡ seen → ⊥
    never-seen seen strange there = false≢true (sym (ap is_plain there ∙ strange) ∙ seen-plain rows path (kind path))

    hosted-caused : (r : Reply) → is_refusal r ≡ true → (seen : Seen) → seen_at rows path (kind path) ≡ seen → said seen ≡ r → HostedRefused s rows path r
    hosted-caused r refused (is_file blob) there is =
        spent-caused (HostedRefused s rows path) s.yard.next_lease (lent blob) refl (λ last. (file-seen rows path blob (kind path) there, last)) r refused is
    hosted-caused r refused (is_text bytes) there is = absurd (no-refusal (text bytes) r refl is refused)
    hosted-caused r refused (is_doc bytes) there is = absurd (no-refusal (doc bytes (digests_of bytes)) r refl is refused)
    hosted-caused r refused is_nothing there is = subst (HostedRefused s rows path) is (none-seen rows path (kind path) there)
    hosted-caused r refused (is_to_fetch member rule at of_file) there is = absurd (never-seen (is_to_fetch member rule at of_file) refl there)
    hosted-caused r refused is_blocked there is = absurd (never-seen is_blocked refl there)
    hosted-caused r refused is_negative there is = absurd (never-seen is_negative refl there)
    hosted-caused r refused is_never there is = absurd (never-seen is_never refl there)

    hosted-refused : (r : Reply) → HostedRefused s rows path r → said (seen_at rows path (kind path)) ≡ r
    hosted-refused missed none = ap said (none-there rows path (kind path) none)
    hosted-refused spent ((c, row, is_kind, found), last) =
        ap said (ap (seen_at rows path) is_kind ∙ ap (or_nothing (λ (r : Row). is_file r.blob)) found) ∙ spent-so s.yard.next_lease (lent row.blob) last
    hosted-refused r cause = absurd cause

  module _ (now : ℕ) (id path tried : List ℕ) where
    abbrev unhosted : Seen
    unhosted =
        option_map_or (λ (g : GroupRule). group_seen s now tried path (kind path) g.members (directory_of (kind path))) (group_rule_of id settings)
        (member_seen s now tried path (kind path) 0 id)

    abbrev seen_of : Option Hosted → Seen
    seen_of found = option_map_or (λ (h : Hosted). seen_at h.rows path (kind path)) found unhosted

    pub look-caused : (r : Reply) → is_refusal r ≡ true → said (look_at settings s now id tried path) ≡ r → LookRefused settings s now id path tried r
    look-caused r refused is = by (hosted_of id s) is where
      by : (found : Option Hosted) → said (seen_of found) ≡ r → RefusedAt settings s now id path tried r found
      by (Some h) e = hosted-caused path h.rows r refused (seen_at h.rows path (kind path)) refl e
      by None _ = seen-caused r refused (look_at settings s now id tried path) is

    pub look-refused : (r : Reply) → LookRefused settings s now id path tried r → said (look_at settings s now id tried path) ≡ r
    look-refused r cause = by (hosted_of id s) refl cause where
      by : (found : Option Hosted) → hosted_of id s ≡ found → RefusedAt settings s now id path tried r found → said (seen_of found) ≡ r
      by (Some h) _ why = hosted-refused path h.rows r why
      by None there why = sym (ap (λ found. said (seen_of found)) there) ∙ seen-refused (look_at settings s now id tried path) r why

-- a repository that takes a path, or does not
abbrev FitsPath : List ℕ → Option Hosted → Bool
FitsPath path found = is_fit (λ h. takes h.rule path) found

pub in-taken : (path : List ℕ) (found : Option Hosted) (t : Turn) → FitsPath path found ≡ true → in_repository path found t ≡ t
in-taken path None t is = absurd (false≢true is)
in-taken path (Some h) t is = ap (λ b. if b then t else says kind_refused) is

pub in-refused : (path : List ℕ) (found : Option Hosted) (t : Turn) → FitsPath path found ≡ false → in_repository path found t ≡ says kind_refused
in-refused path None t is = refl
in-refused path (Some h) t is = ap (λ b. if b then t else says kind_refused) is

pub draft-caused : (P : Reply → Type 0) (next : ℕ) → (next ≡ number_end → P spent) → (r : Reply) → is_refusal r ≡ true → (draws_draft next).reply ≡ r → P r
draft-caused P next = spent-caused P next (record { reply = draft next; effects = draws ∷ [] }) refl

pub draft-refused : (next : ℕ) → next ≡ number_end → (draws_draft next).reply ≡ spent
draft-refused next = spent-so next (record { reply = draft next; effects = draws ∷ [] })

module _ (s : State) (repo path : List ℕ) where
  pub may_put-caused : (r : Reply) → is_refusal r ≡ true → (in_repository path (hosted_of repo s) (draws_draft s.yard.next_draft)).reply ≡ r → MayPutRefused s (repository repo) path r
  may_put-caused r refused is =
      elim (takes_at repo path s) as (λ b. takes_at repo path s ≡ b → MayPutRefused s (repository repo) path r) [
        | true ↦ λ so.
            draft-caused (MayPutRefused s (repository repo) path) s.yard.next_draft (λ last. (so, last)) r refused
            (ap (λ (t : Turn). t.reply) (sym (in-taken path (hosted_of repo s) (draws_draft s.yard.next_draft) so)) ∙ is)
        | false ↦ λ so.
            subst (MayPutRefused s (repository repo) path) (ap (λ (t : Turn). t.reply) (sym (in-refused path (hosted_of repo s) (draws_draft s.yard.next_draft) so)) ∙ is) so
      ] refl

  pub may_put-refused : (r : Reply) → MayPutRefused s (repository repo) path r → (in_repository path (hosted_of repo s) (draws_draft s.yard.next_draft)).reply ≡ r
  may_put-refused kind_refused so = ap (λ (t : Turn). t.reply) (in-refused path (hosted_of repo s) (draws_draft s.yard.next_draft) so)
  may_put-refused spent (so, last) = ap (λ (t : Turn). t.reply) (in-taken path (hosted_of repo s) (draws_draft s.yard.next_draft) so) ∙ draft-refused s.yard.next_draft last
  may_put-refused r cause = absurd cause

-- other contents do not count as the same
pub prints-differ : (a b : Print) → a ≢ b → is_same_print a b ≡ false
prints-differ a b other = elim (is_same_print a b) as (λ x. is_same_print a b ≡ x → x ≡ false) [ true ↦ λ is. absurd (other ((prints-compare a b).0 is)) | false ↦ λ is. refl ] refl

pub differ-prints : (a b : Print) → is_same_print a b ≡ false → a ≢ b
differ-prints a b other is = false≢true (sym other ∙ (prints-compare a b).1 is)

pub taken-same : (a b c d : Print) → a ≡ c → b ≡ d → taken a b ≡ taken c d
taken-same a b c d is_kept is_sent = cc

module _ (s : State) (now : ℕ) (repo path : List ℕ) (n : ℕ) (blob : Blob) where
  put_at-caused : (r : Reply) → is_refusal r ≡ true → is_among n s.yard.drafts ≡ true → (found : Option Row) → row_at path (rows_of repo s) ≡ found
      → (put_at repo path n blob now found).reply ≡ r → PutRefused s repo path n blob r
  put_at-caused r refused among None there is = absurd (no-refusal created r refl is refused)
  put_at-caused r refused among (Some row) there is =
      elim (is_same_print row.blob.print blob.print)
      as (λ b. is_same_print row.blob.print blob.print ≡ b
      → (if b then put_again repo path n now row.phase else record { reply = taken row.blob.print blob.print; effects = drops n ∷ [] }).reply ≡ r → PutRefused s repo path n blob r) [
        | true ↦ λ _ e. absurd (again row.phase e)
        | false ↦ λ other e. subst (PutRefused s repo path n blob) e (row, among, there, refl, refl, differ-prints row.blob.print blob.print other)
      ] refl is where
        again : (phase : Phase) → (put_again repo path n now phase).reply ≡ r → ⊥
        again listed e = no-refusal same r refl e refused
        again (fading since) e = no-refusal relisted r refl e refused

  abbrev PutTurn : Turn
  PutTurn = if is_among n s.yard.drafts then put_at repo path n blob now (row_at path (rows_of repo s)) else says no_draft

  pub put-caused : (r : Reply) → is_refusal r ≡ true → PutTurn.reply ≡ r → PutRefused s repo path n blob r
  put-caused r refused is =
      elim (is_among n s.yard.drafts)
      as (λ b. is_among n s.yard.drafts ≡ b → (if b then put_at repo path n blob now (row_at path (rows_of repo s)) else says no_draft).reply ≡ r → PutRefused s repo path n blob r) [
        | true ↦ λ among e. put_at-caused r refused among (row_at path (rows_of repo s)) refl e
        | false ↦ λ none e. subst (PutRefused s repo path n blob) e none
      ] refl is

  pub put-refused : (r : Reply) → PutRefused s repo path n blob r → PutTurn.reply ≡ r
  put-refused no_draft none = ap (λ b. (if b then put_at repo path n blob now (row_at path (rows_of repo s)) else says no_draft).reply) none
  put-refused (taken kept sent) (row, among, found, kept_is, sent_is, other) =
      ap (λ b. (if b then put_at repo path n blob now (row_at path (rows_of repo s)) else says no_draft).reply) among
      ∙ ap (λ f. (put_at repo path n blob now f).reply) found
      ∙ ap (λ b. (if b then put_again repo path n now row.phase else record { reply = taken row.blob.print blob.print; effects = drops n ∷ [] }).reply)
      (prints-differ row.blob.print blob.print (λ one. other (sym kept_is ∙ one ∙ sent_is)))
      ∙ taken-same row.blob.print blob.print kept sent kept_is sent_is
  put-refused r cause = absurd cause

-- A turn keeps the bytes of each file's blob told, where those of the blob that it puts are, and the clock; and where nothing
-- failed its entry is the one that is due.
use Rattle.std.proofs.Common.{◌≡◌, ℕ, ◌+◌, ◌≤◌, true, false, List, [], ◌∷◌, Option, Some, None, Result, Ok, Err, arith, refl, sym, subst, ◌∙◌}
use Rattle.std.specs.Prelude.{IsSome, MatchOption, if◌then◌else◌, find, min, max}
use Rattle.std.specs.List.{AllByRecursion, flat_map}
use Rattle.std.specs.Option.{option_map, option_map_or}
use Rattle.std.proofs.lemmas.Bool.{false≢true}
use Rattle.std.specs.Ordering.{nat_cmp, match_ordering}
use Rattle.std.specs.declared.cmp.Ordering.{Ordering}
use Rattle.std.specs.declared.cmp.Ordering.TheVariants.{Less, Equal, Greater}
use Rattle.std.specs.Cmp.Lexicographic.{slice_cmp}
use Rattle.fetch_plan.specs.declared.Outcome.TheVariants.{Got, Gone}
use Rattle.fetch_plan.specs.declared.Plan.{Plan}
use Rattle.outside.specs.Moments.{Moments, moments_after}
use Rattle.mvn_coords.specs.declared.fault.PathFault.{PathFault}
use Rattle.mvn_coords.specs.declared.kind.Kind.{Kind}
use Rattle.mvn_coords.specs.declared.kind.Kind.TheVariants.{File, FileSide, Doc, DocSide}
use Rattle.mvn_coords.specs.Kind.{kind}
use Rattle.mvn_coords.specs.Layout.{Directory, text_of}
use Rattle.mvn_digest.specs.Digests.{digests_of}
use Rattle.mvn_digest.specs.Sides.{side_text}
use Rattle.mvn_metadata.specs.Document.{Document}
use Rattle.repo_model.specs.Command.{Command, put, stage, land, group_rule_of}
use Rattle.repo_model.specs.Data.{Blob, Hosted, Kept, Phase, Proxy, Row, Session, Staged, fading, listed}
use Rattle.repo_model.specs.Fetched.{Landing, got_file, got_doc}
use Rattle.repo_model.specs.Proxies.{decided, kept_at, subject_of}
use Rattle.repo_model.specs.declared.step.Step.{Step}
use Rattle.repo_model.specs.declared.step.Step.TheVariants.{Serve}
use Rattle.repo_model.specs.Effect.{Effect, creates, stages, delivers, discards, relists, fades, expires, opens, ends, caches, at_proxy, in_proxy, proxy_after, in_repo, rows_after, sessions_after, repo_of, with_effect, with_effects, with_row, with_staged, without_staged, list_again, fade, new_row, new_session}
use Rattle.repo_model.specs.History.{Entry, Legal, MomentFits, after, effects_of, end, latest_moment, ticked}
use Rattle.repo_model.specs.Reply.{Reply, file, is_free}
use Rattle.repo_model.specs.Settings.{GroupRule, Settings}
use Rattle.repo_model.specs.State.{State, files_of, hosted_of, is_among, is_open_at, is_proxy, is_repository, is_row, is_session, new_hosted, new_proxy, opening, proxy_of, row_at, rows_of}
use Rattle.repo_model.specs.Turn.{Turn, Seen, directory_of, document_shown, document_text, each_seen, fetches_one, file_shown, first_or, gives_draft_up, group_seen, is_doc, is_file, is_nothing, is_of_file, is_text, lands_by, lands_file, look_at, member_seen, merged_of, or_nothing, proxy_seen, seen_at, served_by, serves_or_fetches, stepped, turn}
use Rattle.repo_model.specs.Deploy.{deliver_again, deliver_at, deliver_all, discard_all}
use Rattle.course_laws.proofs.Alls.{all-joined, all-mapped}
use Rattle.course_laws.specs.AsPlayed.{RowsTold}
use Rattle.course_laws.specs.Duties.{MayAsk, Stand}
use Rattle.course_laws.specs.Faultless.{due_entry, moment_now}
use Rattle.repo_laws.proofs.Cases.{Case, lends_file, deploys, aborts, unlists, collects, lands_one, turn-case}
use Rattle.repo_laws.proofs.HoldingLists.{all-change_first, all-change_where, all-filter}
use Rattle.repo_laws.proofs.Orderly.{found-has}
use Rattle.repo_laws.proofs.Faults.{clock-left}

abbrev pub IsTold : Row → Type 0
IsTold row = IsSome row.blob.bytes

abbrev AllTold : List Row → Type 0
AllTold rows = AllByRecursion IsTold rows

abbrev IsStagedTold : Staged → Type 0
IsStagedTold item = IsSome item.blob.bytes

abbrev SessionTold : Session → Type 0
SessionTold x = AllByRecursion IsStagedTold x.staged

abbrev ProxyTold : Proxy → Type 0
ProxyTold p = AllTold p.files

placed : {X : Type 0} (P : X → Type 0) (new x : X) (xs more : List X) → P new → AllByRecursion P (x ∷ xs) → AllByRecursion P more → (o : Ordering)
    → AllByRecursion P (match_ordering o (new ∷ x ∷ xs) (new ∷ x ∷ xs) (x ∷ more))
placed P new x xs more told all rest Less = (told, all)
placed P new x xs more told all rest Equal = (told, all)
placed P new x xs more told all rest Greater = (all.0, rest)

with-row-told : (new : Row) (rows : List Row) → IsTold new → AllTold rows → AllTold (with_row new rows)
with-row-told new [] told all = (told, tt)
with-row-told new (row ∷ rows) told all =
    placed IsTold new row rows (with_row new rows) told all (with-row-told new rows told all.1) (slice_cmp nat_cmp new.path row.path)

with-staged-told : (new : Staged) (files : List Staged) → IsStagedTold new → AllByRecursion IsStagedTold files → AllByRecursion IsStagedTold (with_staged new files)
with-staged-told new [] told all = (told, tt)
with-staged-told new (item ∷ files) told all =
    placed IsStagedTold new item files (with_staged new files) told all (with-staged-told new files told all.1) (slice_cmp nat_cmp new.path item.path)

-- effects

-- the blob of a new row, of a file that is staged, or of one that a proxy keeps, is told
abbrev pub EffectTold : Effect → Type 0
EffectTold (creates repo path blob moment) = IsSome blob.bytes
EffectTold (caches proxy path blob moment) = IsSome blob.bytes
EffectTold (stages n path blob) = IsSome blob.bytes
EffectTold (delivers n repo path blob moment) = IsSome blob.bytes
EffectTold effect = Unit {0}

rows-told : (e : Effect) → EffectTold e → (rows : List Row) → AllTold rows → AllTold (rows_after e rows)
rows-told (creates repo path blob moment) told rows all = with-row-told (new_row path blob moment) rows told all
rows-told (delivers n repo path blob moment) told rows all = with-row-told (new_row path blob moment) rows told all
rows-told (relists repo path moment) told rows all = all-change_where IsTold _ (list_again moment) (λ row is. is) rows all
rows-told (fades repo path moment) told rows all = all-change_where IsTold _ (fade moment) (λ row is. is) rows all
rows-told (expires repo path blob) told rows all = all-filter IsTold _ rows all
rows-told effect told rows all = all

repo-told : (repo : Option (List ℕ)) (f : List Row → List Row) → ((rows : List Row) → AllTold rows → AllTold (f rows)) → (hosted : List Hosted)
    → AllByRecursion (λ (h : Hosted). AllTold h.rows) hosted → AllByRecursion (λ (h : Hosted). AllTold h.rows) (in_repo repo f hosted)
repo-told None f keeps hosted all = all
repo-told (Some repo) f keeps hosted all =
    all-change_first (λ (h : Hosted). AllTold h.rows) (is_repository repo) (λ h. record h { rows = f h.rows }) (λ h is. keeps h.rows is) hosted all

sessions-told : (e : Effect) → EffectTold e → (sessions : List Session) → AllByRecursion SessionTold sessions → AllByRecursion SessionTold (sessions_after e sessions)
sessions-told (stages n path blob) told sessions all =
    all-change_first SessionTold (is_open_at n) (λ x. record x { staged = with_staged (record { path = path; blob = blob }) x.staged })
    (λ x is. with-staged-told (record { path = path; blob = blob }) x.staged told is) sessions all
sessions-told (delivers n repo path blob moment) told sessions all =
    all-change_first SessionTold (is_open_at n) (without_staged path) (λ x is. all-filter IsStagedTold _ x.staged is) sessions all
sessions-told (discards n path m) told sessions all =
    all-change_first SessionTold (is_open_at n) (without_staged path) (λ x is. all-filter IsStagedTold _ x.staged is) sessions all
sessions-told (opens n repo) told sessions all = all-joined SessionTold sessions (new_session n repo ∷ []) all (tt, tt)
sessions-told (ends n result) told sessions all =
    all-change_first SessionTold (is_open_at n) (λ x. record x { ended = Some result }) (λ x is. is) sessions all
sessions-told effect told sessions all = all

proxy-told : (e : Effect) → EffectTold e → (p : Proxy) → ProxyTold p → ProxyTold (proxy_after e p)
proxy-told (caches proxy path blob moment) told p all = with-row-told (new_row path blob moment) p.files told all
proxy-told effect told p all = all

proxies-told : (id : Option (List ℕ)) (f : Proxy → Proxy) → ((p : Proxy) → ProxyTold p → ProxyTold (f p)) → (proxies : List Proxy)
    → AllByRecursion ProxyTold proxies → AllByRecursion ProxyTold (in_proxy id f proxies)
proxies-told None f keeps proxies all = all
proxies-told (Some id) f keeps proxies all = all-change_first ProxyTold (is_proxy id) f keeps proxies all

pub effects-told : (es : List Effect) (s : State) → AllByRecursion EffectTold es → RowsTold s → RowsTold (with_effects s es)
effects-told [] s tells all = all
effects-told (e ∷ es) s tells all =
    effects-told es (with_effect s e) tells.1 (
      repo-told (repo_of e) (rows_after e) (rows-told e tells.0) s.hosted all.0,
      sessions-told e tells.0 s.sessions all.1,
      proxies-told (at_proxy e) (proxy_after e) (proxy-told e tells.0) s.proxies all.2,
    )

effects-faults : (es : List Effect) (s : State) → (with_effects s es).faults ≡ s.faults
effects-faults [] s = refl
effects-faults (e ∷ es) s = effects-faults es (with_effect s e)

-- the blob that a command puts, stages or lands, and the one that a reply lends
abbrev pub LandingTold : Landing → Type 0
LandingTold (Got (got_file blob)) = IsSome blob.bytes
LandingTold outcome = Unit {0}

abbrev pub CommandTold : Command → Type 0
CommandTold (put repo path n blob) = IsSome blob.bytes
CommandTold (stage at path n blob) = IsSome blob.bytes
CommandTold (land plan outcome) = LandingTold outcome
CommandTold command = Unit {0}

abbrev pub ReplyTold : Reply → Type 0
ReplyTold (file lease blob) = IsSome blob.bytes
ReplyTold reply = Unit {0}

-- a turn of a command that a course may ask
abbrev Tells : Turn → Type 0
Tells t = AllByRecursion EffectTold t.effects × ReplyTold t.reply

-- a file that is seen is told
abbrev SeenTold : Seen → Type 0
SeenTold (is_file blob) = IsSome blob.bytes
SeenTold seen = Unit {0}

some-seen : {A : Type 0} (f : A → Seen) (o : Option A) → ((x : A) → o ≡ Some x → SeenTold (f x)) → SeenTold (or_nothing f o)
some-seen f None each = tt
some-seen f (Some x) each = each x refl

seen-told : (path : List ℕ) (rows : List Row) → AllTold rows → (k : Result Kind PathFault) → SeenTold (seen_at rows path k)
seen-told path rows all (Ok (File c)) =
    some-seen (λ (row : Row). is_file row.blob) (row_at path rows) (λ row is. found-has IsTold (is_row path) rows row all is)
seen-told path rows all (Ok (FileSide c side)) =
    some-seen (λ (row : Row). is_text (side_text side row.blob.print.digests)) (row_at (text_of c) rows) (λ row is. tt)
seen-told path rows all (Ok (Doc d)) = some-seen is_doc (document_text d rows) (λ bytes is. tt)
seen-told path rows all (Ok (DocSide d side)) =
    some-seen (λ bytes. is_text (side_text side (digests_of bytes))) (document_text d rows) (λ bytes is. tt)
seen-told path rows all (Err fault) = tt

file-shown-told : (k : Result Kind PathFault) (row : Row) → IsTold row → SeenTold (file_shown k row)
file-shown-told (Ok (FileSide c side)) row told = tt
file-shown-told _ row told = told

document-shown-told : (k : Result Kind PathFault) (document : Document) → SeenTold (document_shown k document)
document-shown-told (Ok (File c)) document = tt
document-shown-told _ document = tt

served-told : (p : Proxy) → ProxyTold p → (at : List ℕ) (k : Result Kind PathFault) → SeenTold (served_by p at k)
served-told p told at k =
    elim (is_of_file k) as (λ b. SeenTold (if b then or_nothing (file_shown k) (row_at at p.files) else or_nothing (λ (kept : Kept). document_shown k kept.document) (kept_at at p.documents))) [
      | true ↦ some-seen (file_shown k) (row_at at p.files) (λ row is. file-shown-told k row (found-has IsTold (is_row at) p.files row told is))
      | false ↦ some-seen (λ (kept : Kept). document_shown k kept.document) (kept_at at p.documents) (λ kept is. document-shown-told k kept.document)
    ]

stepped-told : (member : ℕ) (p : Proxy) → ProxyTold p → (at : List ℕ) (k : Result Kind PathFault) (step : Step) → SeenTold (stepped member p at k step)
stepped-told member p told at k Serve = served-told p told at k
stepped-told member p told at k _ = tt

first-told : (o : Option Seen) (seen : Seen) → ((x : Seen) → o ≡ Some x → SeenTold x) → SeenTold seen → SeenTold (first_or o seen)
first-told None seen each told = told
first-told (Some x) seen each told = each x refl

-- what lands is told
up-tells : (under : Option ℕ) → AllByRecursion EffectTold (gives_draft_up under)
up-tells None = tt
up-tells (Some n) = (tt, tt)

file-tells : (plan : Plan) (blob : Blob) (now : ℕ) → IsSome blob.bytes → (o : Option Row) → AllByRecursion EffectTold (lands_file plan blob now o)
file-tells plan blob now some None = (some, (tt, tt))
file-tells plan blob now some (Some row) = (tt, up-tells plan.draft)

lands-tell : (files : List Row) (now : ℕ) (plan : Plan) (outcome : Landing) → LandingTold outcome → AllByRecursion EffectTold (lands_by files now plan outcome)
lands-tell files now plan (Got (got_file blob)) some = file-tells plan blob now some (row_at plan.path files)
lands-tell files now plan (Got (got_doc document)) some = (tt, (tt, tt))
lands-tell files now plan Gone some = (tt, up-tells plan.draft)
lands-tell files now plan outcome some = up-tells plan.draft

module _ (settings : Settings) (s : State) (told : RowsTold s) where
  member-told : (now : ℕ) (tried path : List ℕ) (k : Result Kind PathFault) (member : ℕ) (id : List ℕ) → SeenTold (member_seen s now tried path k member id)
  member-told now tried path k member id =
      elim (hosted_of id s)
      as (λ o. hosted_of id s ≡ o → SeenTold (option_map_or (λ (h : Hosted). seen_at h.rows path k) o (option_map_or (λ (p : Proxy). proxy_seen member p now tried path k) (proxy_of id s) is_nothing))) [
        | None ↦ λ _. elim (proxy_of id s) as (λ o. proxy_of id s ≡ o → SeenTold (option_map_or (λ (p : Proxy). proxy_seen member p now tried path k) o is_nothing)) [
          | None ↦ λ is. tt
          | Some p ↦ λ is. stepped-told member p (found-has ProxyTold (is_proxy id) s.proxies p told.2 is) (subject_of path k) k (decided p now (is_among member tried) (subject_of path k))
        ] refl
        | Some h ↦ λ is. seen-told path h.rows (found-has (λ (h : Hosted). AllTold h.rows) (is_repository id) s.hosted h told.0 is) k
      ] refl

  each-told : (now : ℕ) (tried path : List ℕ) (k : Result Kind PathFault) (member : ℕ) (ids : List (List ℕ)) → AllByRecursion SeenTold (each_seen s now tried path k member ids)
  each-told now tried path k member [] = tt
  each-told now tried path k member (id ∷ ids) = (member-told now tried path k member id, each-told now tried path k (member + 1) ids)

  group-told : (now : ℕ) (tried path : List ℕ) (k : Result Kind PathFault) (ids : List (List ℕ)) (o : Option Directory) → SeenTold (group_seen s now tried path k ids o)
  group-told now tried path k ids None =
      first-told (find serves_or_fetches (each_seen s now tried path k 0 ids)) is_nothing
      (λ x is. found-has SeenTold serves_or_fetches (each_seen s now tried path k 0 ids) x (each-told now tried path k 0 ids) is) tt
  group-told now tried path k ids (Some d) =
      first-told (find fetches_one (each_seen s now tried path k 0 ids)) (or_nothing (document_shown k) (merged_of s now tried (subject_of path k) d ids))
      (λ x is. found-has SeenTold fetches_one (each_seen s now tried path k 0 ids) x (each-told now tried path k 0 ids) is)
      (some-seen (document_shown k) (merged_of s now tried (subject_of path k) d ids) (λ document is. document-shown-told k document))

  look-told : (now : ℕ) (id tried path : List ℕ) → SeenTold (look_at settings s now id tried path)
  look-told now id tried path =
      let k = kind path in
      let other = option_map_or (λ (g : GroupRule). group_seen s now tried path k g.members (directory_of k)) (group_rule_of id settings) (member_seen s now tried path k 0 id) in
      elim (hosted_of id s) as (λ o. hosted_of id s ≡ o → SeenTold (option_map_or (λ (h : Hosted). seen_at h.rows path k) o other)) [
        | None ↦ λ _. elim (group_rule_of id settings) as (λ o. SeenTold (option_map_or (λ (g : GroupRule). group_seen s now tried path k g.members (directory_of k)) o (member_seen s now tried path k 0 id))) [
          | None ↦ member-told now tried path k 0 id
          | Some g ↦ group-told now tried path k g.members (directory_of k)
        ]
        | Some h ↦ λ is. seen-told path h.rows (found-has (λ (h : Hosted). AllTold h.rows) (is_repository id) s.hosted h told.0 is) k
      ] refl

  deliver-tells : (x : Session) (now : ℕ) (item : Staged) → IsStagedTold item → (o : Option Row) → AllByRecursion EffectTold (deliver_at x now item o)
  deliver-tells x now item some None = (some, tt)
  deliver-tells x now item some (Some row) = again row.phase
    where
      again : (phase : Phase) → AllByRecursion EffectTold (deliver_again x now item phase)
      again listed = (tt, tt)
      again (fading since) = (tt, (tt, tt))

  delivers-tell : (x : Session) (now : ℕ) (rows : List Row) (files : List Staged) → AllByRecursion IsStagedTold files
      → AllByRecursion EffectTold (flat_map (λ (item : Staged). deliver_at x now item (row_at item.path rows)) files)
  delivers-tell x now rows [] all = tt
  delivers-tell x now rows (item ∷ files) all =
      all-joined EffectTold (deliver_at x now item (row_at item.path rows)) (flat_map (λ (other : Staged). deliver_at x now other (row_at other.path rows)) files)
      (deliver-tells x now item all.0 (row_at item.path rows)) (delivers-tell x now rows files all.1)

  case-tells : (now : ℕ) (c : Command) (t : Turn) (x : Stand) → Case settings s now c t → MayAsk c x → CommandTold c → Tells t
  case-tells now c t x (lends_file repo path tried blob more is) may some = ((tt, tt), subst SeenTold is (look-told now repo tried path))
  case-tells now c t x (lands_one plan outcome drawn) may some = (lands-tell (files_of plan.proxy s) now plan outcome some, tt)
  case-tells now c t x (deploys n one is going) may some = (
    all-joined EffectTold (deliver_all one now (rows_of one.repo s)) _
        (delivers-tell one now (rows_of one.repo s) one.staged (found-has SessionTold (is_session n) s.sessions one told.1 is)) (tt, tt),
    tt,
  )
  case-tells now c t x (aborts n one is going) may some =
      (all-joined EffectTold (discard_all one) _ (all-mapped EffectTold (λ (item : Staged). discards one.number item.path item.blob.number) (λ item. tt) one.staged) (tt, tt), tt)
  case-tells now c t x (unlists repo h is) may some = absurd may
  case-tells now c t x collects may some = absurd may
  case-tells now c t x case may some = (assumption)

  turn-tells : (c : Command) (x : Stand) (now : ℕ) → MayAsk c x → CommandTold c → Tells (turn settings s now c)
  turn-tells c x now may some = case-tells now c (turn settings s now c) x (turn-case settings s now c) may some

  pub reply-told : (c : Command) (x : Stand) → MayAsk c x → CommandTold c → ReplyTold (due_entry settings s c).reply
  reply-told c x may some = (turn-tells c x (moment_now s) may some).1

  pub after-told : (c : Command) (x : Stand) → MayAsk c x → CommandTold c → RowsTold (after settings s (due_entry settings s c))
  after-told c x may some =
      let t = turn settings s (moment_now s) c in
      elim (is_free t.reply) as (λ b. RowsTold (with_effects (ticked s (moment_now s) s.faults) (if b then [] else t.effects))) [
        | true ↦ told
        | false ↦ effects-told t.effects (ticked s (moment_now s) s.faults) (turn-tells c x (moment_now s) may some).0 told
      ]

pub clock-stays : (settings : Settings) (s : State) (e : Entry) → IsSome s.clock → IsSome (after settings s e).clock
clock-stays settings s e told =
    subst (λ (o : Option Moments). IsSome o) (sym (clock-left settings s e)) (stays s.clock told)
  where
    stays : (o : Option Moments) → IsSome o → IsSome (option_map moments_after o)
    stays None told = absurd (false≢true told)
    stays (Some clock) told = refl

pub faults-are : (settings : Settings) (s : State) (e : Entry) → (after settings s e).faults ≡ e.faults
faults-are settings s e = effects-faults (effects_of settings s e) (ticked s e.moment e.faults)

-- the count of the records never falls
pub faults-grow : (settings : Settings) (entries : List Entry) (s : State) → Legal settings s entries → s.faults ≤ (end settings s entries).faults
faults-grow settings [] s legal = omega arith
faults-grow settings (e ∷ entries) s legal =
    let one = legal.0.faults in
    let is = faults-are settings s e in
    let rest = faults-grow settings entries (after settings s e) legal.1 in omega arith

-- a clock that tells leaves no choice of the moment
pub moment-is : (s : State) (moment : ℕ) → IsSome s.clock → MomentFits s moment → moment ≡ moment_now s
moment-is s moment told fits = pick ((s.last ≤ moment) × (moment ≤ latest_moment)) s.clock told fits
  where
    pick : (Any : Type 0) (o : Option Moments) → IsSome o → MatchOption o Any (λ clock. moment ≡ max s.last (min latest_moment (clock.next)))
        → moment ≡ option_map_or (λ (clock : Moments). max s.last (min latest_moment clock.next)) o s.last
    pick Any None told fits = absurd (false≢true told)
    pick Any (Some clock) told fits = fits

-- where the reply is due, and the records did not fail, so is the entry
pub due-is : (settings : Settings) (s : State) (e : Entry) (c : Command) → e.command ≡ c → e.moment ≡ moment_now s → e.faults ≡ s.faults
    → e.reply ≡ (turn settings s e.moment e.command).reply → e ≡ due_entry settings s c
due-is settings s e c command moment faults reply =
    let replied = reply ∙ (λ i. (turn settings s (moment i) (command i)).reply) in
    λ i. record { command = command i; moment = moment i; reply = replied i; faults = faults i }

-- before the first turn there is no file
pub opening-told : (settings : Settings) (clock : Option Moments) → RowsTold (opening settings clock)
opening-told settings clock =
    (all-mapped (λ (h : Hosted). AllTold h.rows) new_hosted (λ rule. tt) settings.hosted, tt, all-mapped ProxyTold new_proxy (λ rule. tt) settings.proxies)

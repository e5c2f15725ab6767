-- What a look is answered, by the sort of what is asked, and by what a proxy decides.
use Rattle.std.proofs.Common.{◌≡◌, ℕ, Bool, true, false, List, [], Option, Some, None, Result, Ok, Err, refl, sym, ◌∙◌, ap, subst}
use Rattle.std.specs.Prelude.{◌↔◌, ◌==◌, find, if◌then◌else◌}
use Rattle.std.specs.Option.{option_map_or}
use Rattle.mvn_coords.specs.Kind.{kind}
use Rattle.mvn_coords.specs.declared.kind.Kind.{Kind}
use Rattle.mvn_coords.specs.declared.kind.Kind.TheVariants.{File, FileSide, Doc, DocSide}
use Rattle.mvn_coords.specs.declared.fault.PathFault.{PathFault}
use Rattle.mvn_coords.specs.Layout.{Coordinates, Directory, text_of}
use Rattle.mvn_coords.proofs.ExactPaths.{exact}
use Rattle.mvn_metadata.specs.Document.{Document}
use Rattle.repo_model.specs.declared.step.Step.{Step}
use Rattle.repo_model.specs.declared.step.Step.TheVariants.{Serve, Missed, Blocked, Negative, Never, Fetch}
use Rattle.repo_model.specs.Data.{Row, Kept, Hosted, Proxy}
use Rattle.repo_model.specs.Settings.{GroupRule, Settings}
use Rattle.repo_model.specs.State.{State, Yard, row_at, hosted_of, proxy_of, is_among, number_end}
use Rattle.repo_model.specs.Command.{Command, look, group_rule_of, names_something}
use Rattle.repo_model.specs.Reply.{Reply, missed, spent, blocked, negative, never_asked, is_free, is_look_reply}
use Rattle.repo_model.specs.Proxies.{kept_at, subject_of, decided}
use Rattle.repo_model.specs.Turn.{Turn, turn, draws_or_spent, shows, Seen, is_file, is_text, is_doc, is_nothing, is_to_fetch, or_nothing, seen_at, document_text, document_shown, file_shown, is_of_file, served_by, stepped, proxy_seen, member_seen, fetches_one, serves_or_fetches, each_seen, directory_of, merged_of, first_or, group_seen, look_at}
use Rattle.repo_model.specs.History.{Entry, Fits}
use Rattle.repo_laws.proofs.Answered.{reply-determined}
use Rattle.repo_laws.proofs.Lists.{found-passes}
use Rattle.proxy_laws.specs.Decisions.{KeepsEnough, DecidedBy}
use Rattle.proxy_laws.specs.Replies.{reply_of, is_from_rows, is_from_members, can_answer}
use Rattle.proxy_laws.proofs.Deciding.{each-decision}
use Rattle.proxy_laws.proofs.Planning.{subject-so}

-- a number is drawn, or none is left
drawn-so : (P : Reply → Type 0) (next : ℕ) (t : Turn) → P spent → P t.reply → P (draws_or_spent next t).reply
drawn-so P next t none some = elim (next == number_end) as (λ b. P (if b then record { reply = spent; effects = [] } else t).reply) [ true ↦ none | false ↦ some ]

-- ---- by the sort of what is asked
-- what rows may show
abbrev is_plain : Seen → Bool
is_plain (is_file blob) = true
is_plain (is_text bytes) = true
is_plain (is_doc bytes) = true
is_plain is_nothing = true
is_plain seen = false

plain-or : {A : Type 0} (f : A → Seen) (found : Option A) → ((x : A) → is_plain (f x) ≡ true) → is_plain (or_nothing f found) ≡ true
plain-or f None so = refl
plain-or f (Some x) so = so x

rows-plain : (rows : List Row) (path : List ℕ) (k : Result Kind PathFault) → is_plain (seen_at rows path k) ≡ true
rows-plain rows path (Ok (File c)) = plain-or _ (row_at path rows) (λ row. refl)
rows-plain rows path (Ok (FileSide c side)) = plain-or _ (row_at (text_of c) rows) (λ row. refl)
rows-plain rows path (Ok (Doc d)) = plain-or _ (document_text d rows) (λ bytes. refl)
rows-plain rows path (Ok (DocSide d side)) = plain-or _ (document_text d rows) (λ bytes. refl)
rows-plain rows path (Err fault) = refl

document-plain : (k : Result Kind PathFault) (document : Document) → is_plain (document_shown k document) ≡ true
document-plain (Ok (DocSide d side)) document = refl
document-plain _ document = refl

module _ (settings : Settings) (y : Yard) where
  abbrev told : Seen → Reply
  told seen = (shows settings y seen).reply

  look-answer : (seen : Seen) → is_look_reply (told seen) ≡ true
  look-answer (is_file blob) = drawn-so (λ r. is_look_reply r ≡ true) y.next_lease _ refl refl
  look-answer (is_to_fetch member rule at true) = drawn-so (λ r. is_look_reply r ≡ true) y.next_draft _ refl refl
  look-answer _ = refl

  rows-answer : (seen : Seen) → is_plain seen ≡ true → is_from_rows (told seen) ≡ true
  rows-answer (is_file blob) plain = drawn-so (λ r. is_from_rows r ≡ true) y.next_lease _ refl refl
  rows-answer _ plain = (cc)

  plain-member : (seen : Seen) → is_plain seen ≡ true → is_from_members (told seen) ≡ true
  plain-member (is_file blob) plain = drawn-so (λ r. is_from_members r ≡ true) y.next_lease _ refl refl
  plain-member _ plain = (cc)

  fetch-member : (seen : Seen) → fetches_one seen ≡ true → is_from_members (told seen) ≡ true
  fetch-member (is_to_fetch member rule at true) fetches = drawn-so (λ r. is_from_members r ≡ true) y.next_draft _ refl refl
  fetch-member _ fetches = (cc)

  some-member : (seen : Seen) → serves_or_fetches seen ≡ true → is_from_members (told seen) ≡ true
  some-member (is_to_fetch member rule at o) some = fetch-member (is_to_fetch member rule at o) refl
  some-member (is_file blob) some = plain-member (is_file blob) refl
  some-member _ some = (cc)

  group-answer : (s : State) (now : ℕ) (tried path : List ℕ) (k : Result Kind PathFault) (ids : List (List ℕ)) (directory : Option Directory)
      → is_from_members (told (group_seen s now tried path k ids directory)) ≡ true
  group-answer s now tried path k ids None = by (find serves_or_fetches (each_seen s now tried path k 0 ids)) refl where
    by : (found : Option Seen) → find serves_or_fetches (each_seen s now tried path k 0 ids) ≡ found → is_from_members (told (first_or found is_nothing)) ≡ true
    by None _ = refl
    by (Some seen) found = some-member seen (found-passes serves_or_fetches (each_seen s now tried path k 0 ids) seen found)
  group-answer s now tried path k ids (Some d) = by (find fetches_one (each_seen s now tried path k 0 ids)) refl where
    by : (found : Option Seen) → find fetches_one (each_seen s now tried path k 0 ids) ≡ found
        → is_from_members (told (first_or found (or_nothing (document_shown k) (merged_of s now tried (subject_of path k) d ids)))) ≡ true
    by None _ =
        plain-member (or_nothing (document_shown k) (merged_of s now tried (subject_of path k) d ids))
        (plain-or (document_shown k) (merged_of s now tried (subject_of path k) d ids) (document-plain k))
    by (Some seen) found = fetch-member seen (found-passes fetches_one (each_seen s now tried path k 0 ids) seen found)

module _ (settings : Settings) (s : State) (now : ℕ) (id path tried : List ℕ) where
  -- what is seen, by what has the id
  abbrev of_group : Option GroupRule → Seen
  of_group group = option_map_or (λ (g : GroupRule). group_seen s now tried path (kind path) g.members (directory_of (kind path))) group (member_seen s now tried path (kind path) 0 id)

  abbrev of_hosted : Option Hosted → Seen
  of_hosted hosted = option_map_or (λ (h : Hosted). seen_at h.rows path (kind path)) hosted (of_group (group_rule_of id settings))

  by-group : (group : Option GroupRule) → option_map_or (λ (g : GroupRule). is_from_members (told settings s.yard (of_group group))) group (is_look_reply (told settings s.yard (of_group group))) ≡ true
  by-group None = look-answer settings s.yard (of_group None)
  by-group (Some g) = group-answer settings s.yard s now tried path (kind path) g.members (directory_of (kind path))

  by-hosted : (hosted : Option Hosted)
      → option_map_or (λ (h : Hosted). is_from_rows (told settings s.yard (of_hosted hosted))) hosted
      (option_map_or (λ (g : GroupRule). is_from_members (told settings s.yard (of_hosted hosted))) (group_rule_of id settings) (is_look_reply (told settings s.yard (of_hosted hosted)))) ≡ true
  by-hosted None = by-group (group_rule_of id settings)
  by-hosted (Some h) = rows-answer settings s.yard (seen_at h.rows path (kind path)) (rows-plain h.rows path (kind path))

pub turn-answered : (settings : Settings) (s : State) (now : ℕ) (id path tried : List ℕ) → can_answer settings s id (turn settings s now (look id path tried)).reply ≡ true
turn-answered settings s now id path tried = by-hosted settings s now id path tried (hosted_of id s)

pub entry-answered : (settings : Settings) (old : State) (e : Entry) (id path tried : List ℕ) → Fits settings old e → is_free e.reply ≡ false → e.command ≡ look id path tried → can_answer settings old id e.reply ≡ true
entry-answered settings old e id path tried fits bound asks =
    ap (can_answer settings old id) (reply-determined settings old e fits bound ∙ ap (λ (c : Command). (turn settings old e.moment c).reply) asks) ∙ turn-answered settings old e.moment id path tried

-- ---- by what a proxy decides
abbrev said_by : Reply → Option Step
said_by missed = Some Missed
said_by blocked = Some Blocked
said_by negative = Some Negative
said_by never_asked = Some Never
said_by reply = None

abbrev said_of : Step → Option Step
said_of Serve = None
said_of Fetch = None
said_of step = Some step

reply-said : (step : Step) (r : Reply) → reply_of step ≡ Some r → said_by r ≡ Some step
reply-said Serve r is = (cc)
reply-said _ r is = (cc)

said-one : (step other : Step) → said_of step ≡ Some other → step ≡ other
said-one Serve other is = (cc)
said-one _ other is = (cc)

-- what is served or fetched
abbrev is_something : Seen → Bool
is_something (is_file blob) = true
is_something (is_text bytes) = true
is_something (is_doc bytes) = true
is_something (is_to_fetch member rule at of_file) = true
is_something seen = false

file-something : (k : Result Kind PathFault) (row : Row) → is_something (file_shown k row) ≡ true
file-something (Ok (FileSide c side)) row = refl
file-something _ row = refl

document-something : (k : Result Kind PathFault) (document : Document) → is_something (document_shown k document) ≡ true
document-something (Ok (DocSide d side)) document = refl
document-something _ document = refl

module _ (p : Proxy) (now : ℕ) (tried : Bool) where
  file-served : (at : List ℕ) (c : Coordinates) (k : Result Kind PathFault) → KeepsEnough p now tried at (Ok (File c)) → is_something (or_nothing (file_shown k) (row_at at p.files)) ≡ true
  file-served at c k (row, found) = ap (λ f. is_something (or_nothing (file_shown k) f)) found ∙ file-something k row

  document-served : (at : List ℕ) (d : Directory) (k : Result Kind PathFault) → KeepsEnough p now tried at (Ok (Doc d))
      → is_something (or_nothing (λ (kept : Kept). document_shown k kept.document) (kept_at at p.documents)) ≡ true
  document-served at d k (kept, found, why) = ap (λ f. is_something (or_nothing (λ (one : Kept). document_shown k one.document) f)) found ∙ document-something k kept.document

  -- where enough is kept, something is served
  enough-served : (path : List ℕ) (k : Result Kind PathFault) → kind path ≡ k → KeepsEnough p now tried (subject_of path k) (kind (subject_of path k)) → is_something (served_by p (subject_of path k) k) ≡ true
  enough-served path (Ok (File c)) is enough = file-served path c (Ok (File c)) (subst (KeepsEnough p now tried path) is enough)
  enough-served path (Ok (FileSide c side)) is enough = file-served (text_of c) c (Ok (FileSide c side)) (subst (KeepsEnough p now tried (text_of c)) (exact.file path c side is) enough)
  enough-served path (Ok (Doc d)) is enough = document-served path d (Ok (Doc d)) (subst (KeepsEnough p now tried path) is enough)
  enough-served path (Ok (DocSide d side)) is enough =
      document-served (subject_of path (Ok (DocSide d side))) d (Ok (DocSide d side)) (subst (KeepsEnough p now tried (subject_of path (Ok (DocSide d side)))) (exact.document path d side is) enough)
  enough-served path (Err fault) is enough = absurd (subst (KeepsEnough p now tried path) is enough)

module _ (settings : Settings) (y : Yard) where
  something-unsaid : (seen : Seen) → is_something seen ≡ true → said_by (shows settings y seen).reply ≡ None
  something-unsaid (is_file blob) some = drawn-so (λ r. said_by r ≡ None) y.next_lease _ refl refl
  something-unsaid (is_to_fetch member rule at true) some = drawn-so (λ r. said_by r ≡ None) y.next_draft _ refl refl
  something-unsaid _ some = (cc)

module _ (settings : Settings) (s : State) (now : ℕ) (path tried : List ℕ) (p : Proxy) (named : names_something (kind path) ≡ true) where
  abbrev at : List ℕ
  at = subject_of path (kind path)

  abbrev was : Bool
  was = is_among 0 tried

  abbrev reply_for : Step → Reply
  reply_for step = (shows settings s.yard (stepped 0 p at (kind path) step)).reply

  decision : (step : Step) → (decided p now was at ≡ step) ↔ DecidedBy p now was at step
  decision step = each-decision p now was at step (subject-so path named)

  step-said : (step : Step) → decided p now was at ≡ step → said_by (reply_for step) ≡ said_of step
  step-said Serve is = something-unsaid settings s.yard (served_by p at (kind path)) (enough-served p now was path (kind path) refl ((decision Serve).0 is).1)
  step-said Fetch is = something-unsaid settings s.yard (is_to_fetch 0 p.rule at (is_of_file (kind path))) refl
  step-said _ is = refl

  step-replied : (step : Step) (r : Reply) → reply_of step ≡ Some r → reply_for step ≡ r
  step-replied Serve r is = (cc)
  step-replied _ r is = (cc)

  decision-said : (step : Step) (r : Reply) → reply_of step ≡ Some r → (reply_for (decided p now was at) ≡ r) ↔ DecidedBy p now was at step
  decision-said step r tells = (
    (λ is. (decision step).0 (said-one (decided p now was at) step (sym (step-said (decided p now was at) refl) ∙ ap said_by is ∙ reply-said step r tells))),
    (λ cause. ap reply_for ((decision step).1 cause) ∙ step-replied step r tells),
  )

seen-alone : (settings : Settings) (s : State) (now : ℕ) (id path tried : List ℕ) (p : Proxy) → hosted_of id s ≡ None → group_rule_of id settings ≡ None → proxy_of id s ≡ Some p
    → look_at settings s now id tried path ≡ proxy_seen 0 p now tried path (kind path)
seen-alone settings s now id path tried p none no_group there = rw (none, no_group, there) refl

pub decisions-said : (settings : Settings) (s : State) (now : ℕ) (id path tried : List ℕ) (p : Proxy) (step : Step) (r : Reply) → hosted_of id s ≡ None → group_rule_of id settings ≡ None
    → proxy_of id s ≡ Some p → names_something (kind path) ≡ true → reply_of step ≡ Some r
    → ((turn settings s now (look id path tried)).reply ≡ r) ↔ DecidedBy p now (is_among 0 tried) (subject_of path (kind path)) step
decisions-said settings s now id path tried p step r none no_group there named tells =
    let so : (turn settings s now (look id path tried)).reply ≡ reply_for settings s now path tried p named (decided p now (is_among 0 tried) (subject_of path (kind path))) =
    ap (λ (seen : Seen). (shows settings s.yard seen).reply) (seen-alone settings s now id path tried p none no_group there) in
    let (caused, comes) = decision-said settings s now path tried p named step r tells in
    ((λ is. caused (sym so ∙ is)), (λ cause. so ∙ comes cause))

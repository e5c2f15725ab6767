-- What a turn may do to the state, one small change after another. A blob's number goes from one place to one other.
use Rattle.std.specs.Prelude.{ℕ, ◌+◌, Bool, not, ◌==◌, ◌&&◌, ◌||◌, if◌then◌else◌, List, [], ◌∷◌, ◌++◌, fold, filter, length, Option, Some, None, nat_lt, nat_le}
use Rattle.std.specs.List.{flat_map}
use Rattle.std.specs.Ordering.{nat_cmp, match_ordering, is_lt}
use Rattle.std.specs.Cmp.Lexicographic.{slice_cmp}
use Rattle.repo_model.specs.declared.item.Item.{Item}
use Rattle.repo_model.specs.declared.item.Item.TheVariants.{HostedPut, Faded, Relisted, Removed, CachedFile, CachedDoc, SessionOpened, SessionEnded}
use Rattle.repo_model.specs.declared.session.SessionResult.{SessionResult}
use Rattle.mvn_metadata.specs.Document.{Document}
use Rattle.repo_model.specs.Data.{Blob, Row, listed, fading, Hosted, Kept, NegativeEntry, Proxy, Staged, Session}
use Rattle.repo_model.specs.Prints.{recorded_print}
use Rattle.repo_model.specs.State.{State, Yard, change_where, change_first, is_repository, is_row, is_proxy, is_negative_of, is_staged, is_open_at, is_among}

pub data Effect : Type 0 where
  -- blob numbers: the next one is drawn; a draft is given up; a draft becomes a new row's blob, or a staged file's
  draws : Effect
  drops : (draft : ℕ) → Effect
  creates : (repo path : List ℕ) (blob : Blob) (moment : ℕ) → Effect
  stages : (session : ℕ) (path : List ℕ) (blob : Blob) → Effect
  -- a staged file becomes a new row, or is given up
  delivers : (session : ℕ) (repo path : List ℕ) (blob : Blob) (moment : ℕ) → Effect
  discards : (session : ℕ) (path : List ℕ) (draft : ℕ) → Effect
  -- a row is visible again, fades, or goes and its blob with it; garbage is forgotten
  relists : (repo path : List ℕ) (moment : ℕ) → Effect
  fades : (repo path : List ℕ) (moment : ℕ) → Effect
  expires : (repo path : List ℕ) (blob : ℕ) → Effect
  forgets : (blobs : List ℕ) → Effect
  -- leases
  lends : (blob : ℕ) → Effect
  returns : (lease : ℕ) → Effect
  -- sessions
  opens : (number : ℕ) (repo : List ℕ) → Effect
  ends : (session : ℕ) (result : SessionResult) → Effect
  -- a draft becomes the blob of a file that a proxy keeps for good; a proxy keeps a document, in the place of the one at its path
  caches : (proxy path : List ℕ) (blob : Blob) (moment : ℕ) → Effect
  keeps_doc : (proxy path : List ℕ) (document : Document) (moment : ℕ) → Effect
  -- the remote had nothing at a path; or it has something, and that is forgotten
  adds_negative : (proxy path : List ℕ) (moment : ℕ) → Effect
  clears_negative : (proxy path : List ℕ) → Effect

-- numbers in rising order with one more, or without one
abbrev pub with_number : ℕ → List ℕ → List ℕ
with_number n [] = n ∷ []
with_number n (m ∷ ms) = if nat_lt m n then m ∷ with_number n ms else n ∷ m ∷ ms

abbrev pub without_number : ℕ → List ℕ → List ℕ
without_number n ns = filter (λ m. not (m == n)) ns

-- rows in byte order of path with one more
abbrev pub with_row : Row → List Row → List Row
with_row new [] = new ∷ []
with_row new (row ∷ rows) =
    match_ordering (slice_cmp nat_cmp new.path row.path) (new ∷ row ∷ rows) (new ∷ row ∷ rows) (row ∷ with_row new rows)

abbrev pub with_staged : Staged → List Staged → List Staged
with_staged new [] = new ∷ []
with_staged new (file ∷ files) =
    match_ordering (slice_cmp nat_cmp new.path file.path) (new ∷ file ∷ files) (new ∷ file ∷ files) (file ∷ with_staged new files)

abbrev pub new_row : List ℕ → Blob → ℕ → Row
new_row path blob moment = record { path = path; blob = blob; accepted = moment; phase = listed }

abbrev pub list_again : ℕ → Row → Row
list_again moment row = record row { accepted = moment; phase = listed }

abbrev pub fade : ℕ → Row → Row
fade moment row = record row { phase = fading moment }

abbrev pub without_row : List ℕ → List Row → List Row
without_row path rows = filter (λ row. not (is_row path row)) rows

abbrev pub without_staged : List ℕ → Session → Session
without_staged path s = record s { staged = filter (λ file. not (is_staged path file)) s.staged }

abbrev pub new_session : ℕ → List ℕ → Session
new_session n repo = record { number = n; repo = repo; staged = []; ended = None }

abbrev pub without_draft : ℕ → Yard → Yard
without_draft n yard = record yard { drafts = without_number n yard.drafts }

abbrev pub condemning : ℕ → Yard → Yard
condemning n yard = record yard { condemned = with_number n yard.condemned }

-- documents in byte order of path with one more, in the place of the one at its path
abbrev pub with_kept : Kept → List Kept → List Kept
with_kept new [] = new ∷ []
with_kept new (k ∷ kept) =
    match_ordering (slice_cmp nat_cmp new.path k.path) (new ∷ k ∷ kept) (new ∷ kept) (k ∷ with_kept new kept)

abbrev pub without_negative : List ℕ → List NegativeEntry → List NegativeEntry
without_negative path negatives = filter (λ m. not (is_negative_of path m)) negatives

-- a negative entry is older than another: it has the lesser moment, and of equal ones the lesser path
abbrev pub is_older : NegativeEntry → NegativeEntry → Bool
is_older a b = nat_lt a.moment b.moment || ((a.moment == b.moment) && is_lt (slice_cmp nat_cmp a.path b.path))

abbrev pub older : Option NegativeEntry → NegativeEntry → Option NegativeEntry
older None m = Some m
older (Some best) m = Some (if is_older m best then m else best)

abbrev pub without_oldest : Option NegativeEntry → List NegativeEntry → List NegativeEntry
without_oldest None negatives = negatives
without_oldest (Some m) negatives = without_negative m.path negatives

-- the most negative entries of a proxy
abbrev pub most_negatives : ℕ
most_negatives = 10_000

-- negative entries of which there are as many as may be lose the oldest
abbrev pub with_room : List NegativeEntry → List NegativeEntry
with_room negatives = if nat_le most_negatives (length negatives) then without_oldest (fold older None negatives) negatives else negatives

abbrev pub insert_negative : NegativeEntry → List NegativeEntry → List NegativeEntry
insert_negative new [] = new ∷ []
insert_negative new (m ∷ negatives) =
    match_ordering (slice_cmp nat_cmp new.path m.path) (new ∷ m ∷ negatives) (new ∷ m ∷ negatives) (m ∷ insert_negative new negatives)

-- negative entries in byte order of path with one more, in the place of the one at its path
abbrev pub with_negative : NegativeEntry → List NegativeEntry → List NegativeEntry
with_negative new negatives = insert_negative new (with_room (without_negative new.path negatives))

-- the rows of a repository after an effect there
abbrev pub rows_after : Effect → List Row → List Row
rows_after draws rows = rows
rows_after (drops n) rows = rows
rows_after (creates repo path blob moment) rows = with_row (new_row path blob moment) rows
rows_after (stages n path blob) rows = rows
rows_after (delivers n repo path blob moment) rows = with_row (new_row path blob moment) rows
rows_after (discards n path draft) rows = rows
rows_after (relists repo path moment) rows = change_where (is_row path) (list_again moment) rows
rows_after (fades repo path moment) rows = change_where (is_row path) (fade moment) rows
rows_after (expires repo path blob) rows = without_row path rows
rows_after (forgets blobs) rows = rows
rows_after (lends blob) rows = rows
rows_after (returns lease) rows = rows
rows_after (opens n repo) rows = rows
rows_after (ends n result) rows = rows
rows_after (caches id path blob moment) rows = rows
rows_after (keeps_doc id path document moment) rows = rows
rows_after (adds_negative id path moment) rows = rows
rows_after (clears_negative id path) rows = rows

-- the repository whose rows an effect changes
abbrev pub repo_of : Effect → Option (List ℕ)
repo_of draws = None
repo_of (drops n) = None
repo_of (creates repo path blob moment) = Some repo
repo_of (stages n path blob) = None
repo_of (delivers n repo path blob moment) = Some repo
repo_of (discards n path draft) = None
repo_of (relists repo path moment) = Some repo
repo_of (fades repo path moment) = Some repo
repo_of (expires repo path blob) = Some repo
repo_of (forgets blobs) = None
repo_of (lends blob) = None
repo_of (returns lease) = None
repo_of (opens n repo) = None
repo_of (ends n result) = None
repo_of (caches id path blob moment) = None
repo_of (keeps_doc id path document moment) = None
repo_of (adds_negative id path moment) = None
repo_of (clears_negative id path) = None

abbrev pub in_repo : Option (List ℕ) → (List Row → List Row) → List Hosted → List Hosted
in_repo None f hosted = hosted
in_repo (Some repo) f hosted = change_first (is_repository repo) (λ h. record h { rows = f h.rows }) hosted

abbrev pub hosted_after : Effect → List Hosted → List Hosted
hosted_after effect hosted = in_repo (repo_of effect) (rows_after effect) hosted

-- a proxy after an effect there
abbrev pub proxy_after : Effect → Proxy → Proxy
proxy_after (caches id path blob moment) p = record p { files = with_row (new_row path blob moment) p.files }
proxy_after (keeps_doc id path document moment) p =
    record p { documents = with_kept (record { path = path; checked = moment; document = document }) p.documents }
proxy_after (adds_negative id path moment) p = record p { negatives = with_negative (record { path = path; moment = moment }) p.negatives }
proxy_after (clears_negative id path) p = record p { negatives = without_negative path p.negatives }
proxy_after draws p = p
proxy_after (drops n) p = p
proxy_after (creates repo path blob moment) p = p
proxy_after (stages n path blob) p = p
proxy_after (delivers n repo path blob moment) p = p
proxy_after (discards n path draft) p = p
proxy_after (relists repo path moment) p = p
proxy_after (fades repo path moment) p = p
proxy_after (expires repo path blob) p = p
proxy_after (forgets blobs) p = p
proxy_after (lends blob) p = p
proxy_after (returns lease) p = p
proxy_after (opens n repo) p = p
proxy_after (ends n result) p = p

-- the proxy that an effect changes
abbrev pub at_proxy : Effect → Option (List ℕ)
at_proxy (caches id path blob moment) = Some id
at_proxy (keeps_doc id path document moment) = Some id
at_proxy (adds_negative id path moment) = Some id
at_proxy (clears_negative id path) = Some id
at_proxy draws = None
at_proxy (drops n) = None
at_proxy (creates repo path blob moment) = None
at_proxy (stages n path blob) = None
at_proxy (delivers n repo path blob moment) = None
at_proxy (discards n path draft) = None
at_proxy (relists repo path moment) = None
at_proxy (fades repo path moment) = None
at_proxy (expires repo path blob) = None
at_proxy (forgets blobs) = None
at_proxy (lends blob) = None
at_proxy (returns lease) = None
at_proxy (opens n repo) = None
at_proxy (ends n result) = None

abbrev pub in_proxy : Option (List ℕ) → (Proxy → Proxy) → List Proxy → List Proxy
in_proxy None f proxies = proxies
in_proxy (Some id) f proxies = change_first (is_proxy id) f proxies

abbrev pub proxies_after : Effect → List Proxy → List Proxy
proxies_after effect proxies = in_proxy (at_proxy effect) (proxy_after effect) proxies

abbrev pub sessions_after : Effect → List Session → List Session
sessions_after draws sessions = sessions
sessions_after (drops n) sessions = sessions
sessions_after (creates repo path blob moment) sessions = sessions
sessions_after (stages n path blob) sessions =
    change_first (is_open_at n) (λ session. record session { staged = with_staged (record { path = path; blob = blob }) session.staged }) sessions
sessions_after (delivers n repo path blob moment) sessions = change_first (is_open_at n) (without_staged path) sessions
sessions_after (discards n path draft) sessions = change_first (is_open_at n) (without_staged path) sessions
sessions_after (relists repo path moment) sessions = sessions
sessions_after (fades repo path moment) sessions = sessions
sessions_after (expires repo path blob) sessions = sessions
sessions_after (forgets blobs) sessions = sessions
sessions_after (lends blob) sessions = sessions
sessions_after (returns lease) sessions = sessions
sessions_after (opens n repo) sessions = sessions ++ new_session n repo ∷ []
sessions_after (ends n result) sessions = change_first (is_open_at n) (λ session. record session { ended = Some result }) sessions
sessions_after (caches id path blob moment) sessions = sessions
sessions_after (keeps_doc id path document moment) sessions = sessions
sessions_after (adds_negative id path moment) sessions = sessions
sessions_after (clears_negative id path) sessions = sessions

abbrev pub yard_after : Effect → Yard → Yard
yard_after draws yard = record yard { drafts = yard.drafts ++ yard.next_draft ∷ []; next_draft = yard.next_draft + 1 }
yard_after (drops n) yard = condemning n (without_draft n yard)
yard_after (creates repo path blob moment) yard = without_draft blob.number yard
yard_after (stages n path blob) yard = without_draft blob.number yard
yard_after (delivers n repo path blob moment) yard = yard
yard_after (discards n path draft) yard = condemning draft yard
yard_after (relists repo path moment) yard = yard
yard_after (fades repo path moment) yard = yard
yard_after (expires repo path blob) yard = condemning blob yard
yard_after (forgets blobs) yard = record yard { condemned = filter (λ n. not (is_among n blobs)) yard.condemned }
yard_after (lends blob) yard =
    record yard { leases = yard.leases ++ record { number = yard.next_lease; blob = blob } ∷ []; next_lease = yard.next_lease + 1 }
yard_after (returns lease) yard = record yard { leases = filter (λ l. not (l.number == lease)) yard.leases }
yard_after (opens n repo) yard = record yard { next_session = n + 1 }
yard_after (ends n result) yard = yard
yard_after (caches id path blob moment) yard = without_draft blob.number yard
yard_after (keeps_doc id path document moment) yard = yard
yard_after (adds_negative id path moment) yard = yard
yard_after (clears_negative id path) yard = yard

-- the state after one of them
abbrev pub with_effect : State → Effect → State
with_effect s e = record s {
  hosted = hosted_after e s.hosted;
  proxies = proxies_after e s.proxies;
  sessions = sessions_after e s.sessions;
  yard = yard_after e s.yard;
}

abbrev pub with_effects : State → List Effect → State
with_effects s [] = s
with_effects s (e ∷ es) = with_effects (with_effect s e) es

-- what the records are told of an effect
abbrev pub items_of : Effect → List Item
items_of draws = []
items_of (drops n) = []
items_of (creates repo path blob moment) = HostedPut repo path blob.number (recorded_print blob.print) moment ∷ []
items_of (stages n path blob) = []
items_of (delivers n repo path blob moment) = HostedPut repo path blob.number (recorded_print blob.print) moment ∷ []
items_of (discards n path draft) = []
items_of (relists repo path moment) = Relisted repo path moment ∷ []
items_of (fades repo path moment) = Faded repo path moment ∷ []
items_of (expires repo path blob) = Removed repo path ∷ []
items_of (forgets blobs) = []
items_of (lends blob) = []
items_of (returns lease) = []
items_of (opens n repo) = SessionOpened n ∷ []
items_of (ends n result) = SessionEnded n result ∷ []
items_of (caches id path blob moment) = CachedFile id path blob.number (recorded_print blob.print) moment ∷ []
items_of (keeps_doc id path document moment) = CachedDoc id path moment document ∷ []
items_of (adds_negative id path moment) = []
items_of (clears_negative id path) = []

abbrev pub recorded : List Effect → List Item
recorded effects = flat_map items_of effects

-- The commands, the replies and the parcels of the program as the machine's plain data.
use Rattle.std.specs.Prelude.{ℕ}
use Rattle.outside.specs.declared.parcels.Parcel.{Parcel}
use Rattle.outside.specs.declared.stores.Held.{Ghosts}
use Rattle.repo_model.specs.declared.print.Print.{Print}
use Rattle.repo_model.specs.Data as plain
use Rattle.repo_model.specs.Data.{Blob}
use Rattle.mvn_digest.specs.Sides.{bytes_in}
use Rattle.repo_model.specs.Command as asked
use Rattle.repo_model.specs.Reply as answered
use Rattle.repo_model.specs.History.{Entry}
use Rattle.repo_model.specs.declared.command.Command.{Command}
use Rattle.repo_model.specs.declared.command.Command.TheVariants.{Look, Done, MayPut, Put, PutSide, PutDoc, Drop, Open, Stage, Commit, Abort, Unlist, Collect, Ask, Land}
use Rattle.repo_model.specs.declared.fetched.Got as landed
use Rattle.repo_model.specs.declared.fetched.Got.TheVariants.{File, Doc}
use Rattle.fetch_plan.specs.declared.Outcome.{Outcome}
use Rattle.fetch_plan.specs.declared.Outcome.TheVariants.{Got, Gone, Refused, NoChecksum, Differs, TooLarge, BadAnswer, BadDocument, Fault}
use Rattle.repo_model.specs.Fetched as fetched
use Rattle.repo_model.specs.declared.command.Place.{Place}
use Rattle.repo_model.specs.declared.command.Place.TheVariants.{Repository, Session}
use Rattle.repo_model.specs.declared.reply.Reply.{Reply}
use Rattle.repo_model.specs.declared.reply.Reply.TheVariants as given

-- a parcel's fingerprint
abbrev pub shown_print : {X : Type 0} {G : Ghosts X} → Parcel X G → Print
shown_print parcel = record { length = parcel.length; digests = parcel.digests }

-- a parcel as a stored blob
abbrev pub shown_parcel : {X : Type 0} {G : Ghosts X} → Parcel X G → Blob
shown_parcel {X} {G} parcel = record { number = parcel.blob; bytes = G.bytes parcel.held; print = shown_print parcel }

abbrev pub shown_place : Place → plain.Place
shown_place (Repository id) = plain.repository id
shown_place (Session number) = plain.session number

abbrev pub shown_got : {X : Type 0} {G : Ghosts X} → landed.Got X G → fetched.Got
shown_got (File parcel) = fetched.got_file (shown_parcel parcel)
shown_got (Doc document) = fetched.got_doc document

-- an outcome with another thing that was got
abbrev pub outcome_map : {A B : Type 0} → (A → B) → Outcome A → Outcome B
outcome_map f (Got what) = Got (f what)
outcome_map f Gone = Gone
outcome_map f (Refused status) = Refused status
outcome_map f NoChecksum = NoChecksum
outcome_map f (Differs said found) = Differs said found
outcome_map f TooLarge = TooLarge
outcome_map f (BadAnswer at) = BadAnswer at
outcome_map f (BadDocument at) = BadDocument at
outcome_map f Fault = Fault

abbrev pub shown_command : {X : Type 0} {G : Ghosts X} → Command X G → asked.Command
shown_command (Look repo path tried) = asked.look repo path tried
shown_command (Done lease) = asked.done lease
shown_command (MayPut place path) = asked.may_put (shown_place place) path
shown_command (Put repo path draft parcel) = asked.put repo path draft (shown_parcel parcel)
shown_command (PutSide place path said) = asked.put_side (shown_place place) path (bytes_in said)
shown_command (PutDoc place path) = asked.put_doc (shown_place place) path
shown_command (Drop draft) = asked.drop_draft draft
shown_command (Open repo) = asked.open_session repo
shown_command (Stage session path draft parcel) = asked.stage session path draft (shown_parcel parcel)
shown_command (Commit session) = asked.commit session
shown_command (Abort session) = asked.abort session
shown_command (Unlist repo) = asked.unlist repo
shown_command Collect = asked.collect
shown_command (Ask question) = asked.ask question
shown_command (Land plan outcome) = asked.land plan (outcome_map shown_got outcome)

abbrev pub shown_reply : {X : Type 0} {G : Ghosts X} → Reply X G → answered.Reply
shown_reply (given.File lease parcel) = answered.file lease (shown_parcel parcel)
shown_reply (given.Text text) = answered.text text
shown_reply (given.Doc text digests) = answered.doc text digests
shown_reply given.Missed = answered.missed
shown_reply given.Done = answered.given_back
shown_reply given.KindRefused = answered.kind_refused
shown_reply (given.Draft number) = answered.draft number
shown_reply given.NoDraft = answered.no_draft
shown_reply (given.Taken kept sent) = answered.taken kept sent
shown_reply given.Same = answered.same
shown_reply given.Relisted = answered.relisted
shown_reply given.Created = answered.created
shown_reply given.NotThere = answered.not_there
shown_reply (given.Differs said kept) = answered.differs (bytes_in said) (bytes_in kept)
shown_reply given.Agreed = answered.agreed
shown_reply given.Noted = answered.noted
shown_reply given.NoSession = answered.no_session
shown_reply given.TooMany = answered.sessions_full
shown_reply (given.Opened number) = answered.opened number
shown_reply given.SessionFull = answered.session_full
shown_reply given.Staged = answered.staged
shown_reply (given.Offends path kept sent) = answered.offends path kept sent
shown_reply (given.MissingPom directory) = answered.missing_pom directory
shown_reply (given.Ended result) = answered.ended result
shown_reply given.Dropped = answered.dropped
shown_reply (given.Unlisted number) = answered.unlisted number
shown_reply (given.Collected expired blobs) = answered.collected expired blobs
shown_reply (given.Found finding) = answered.finds finding
shown_reply given.Spent = answered.spent
shown_reply given.NoMemory = answered.no_memory
shown_reply given.StoreFault = answered.store_fault
shown_reply (given.Fetch plan) = answered.fetches plan
shown_reply given.Blocked = answered.blocked
shown_reply given.Negative = answered.negative
shown_reply given.Never = answered.never_asked
shown_reply given.Landed = answered.landed

-- a call at a moment, what it answered, and how often the records had failed then
abbrev pub entry_of : {X : Type 0} {G : Ghosts X} → Command X G → ℕ → Reply X G → ℕ → Entry
entry_of command moment reply faults =
    record { command = shown_command command; moment = moment; reply = shown_reply reply; faults = faults }

-- The items that complete rows: each is of its form, and short.
use Rattle.std.proofs.Common.{◌≡◌, Bool, true, false, cond, List, [], ◌∷◌, ◌++◌, refl, sym, subst}
use Rattle.std.specs.List.{AllByRecursion, list_all}
use Rattle.std.proofs.lemmas.Bool.{and_from}
use Rattle.outside.specs.Blobs.{Shelf}
use Rattle.mvn_digest.specs.declared.known.Further.{Further}
use Rattle.repo_model.specs.Prints.{lacks_further}
use Rattle.repo_model.specs.Tables.{RecordedRow}
use Rattle.repo_model.specs.declared.item.Item.{Item}
use Rattle.repo_model.specs.declared.item.Item.TheVariants.{Digested}
use Rattle.ordered_rows.specs.Recording.{IsShort}
use Rattle.ordered_rows.proofs.ChangeLemmas.{digested-short}
use Rattle.row_tables.specs.Items.{is_further, is_item}
use Rattle.table_laws.specs.Standing.{StandsAtFile}
use Rattle.blob_audit.specs.Order.{File}
use Rattle.row_completion.specs.Gathering.{AreItemsOf}
use Rattle.row_completion.proofs.Weaving.{Woven, cached, hosted}
use Rattle.row_completion.proofs.Weaving as woven

short-next : (b : Bool) (r : RecordedRow) (further : Further) (rest : List Item) → StandsAtFile r → is_further further ≡ true → AllByRecursion IsShort rest
    → AllByRecursion IsShort (cond b (Digested r.repo r.row.path further ∷ []) [] ++ rest)
short-next true r further rest stands is all = (digested-short r.repo r.row.path stands.0 stands.1 further is, all)
short-next false r further rest stands is all = all

pub all-short : (shelf : Shelf) (hs cs : List RecordedRow) (files : List File) (items : List Item) → Woven hs cs files → AreItemsOf shelf files items
    → AllByRecursion StandsAtFile hs → AllByRecursion StandsAtFile cs → AllByRecursion IsShort items
all-short shelf hs cs files items woven.none m one two = subst (AllByRecursion IsShort) (sym m) tt
all-short shelf hs cs files items (hosted r hs' cs' files' apart w) m one two =
    subst (AllByRecursion IsShort) (sym m.3)
    (short-next (lacks_further r.row.blob.print) r m.0 m.1 one.0 m.2.4 (all-short shelf hs' cs' files' m.1 w m.4 one.1 two))
all-short shelf hs cs files items (cached r hs' cs' files' apart behind w) m one two =
    subst (AllByRecursion IsShort) (sym m.3)
    (short-next (lacks_further r.row.blob.print) r m.0 m.1 two.0 m.2.4 (all-short shelf hs' cs' files' m.1 w m.4 one two.1))

pub all-items : (items : List Item) → AllByRecursion IsShort items → list_all is_item items ≡ true
all-items [] all = refl
all-items (item ∷ items) all = and_from (is_item item) (list_all is_item items) all.0.form (all-items items all.1)

-- Sizes that the numbers in front of texts can say.
use Rattle.std.specs.Prelude.{◌<◌, ◌^◌, ℕ, List, length}
use Rattle.std.specs.List.{All}
use Rattle.mvn_metadata.specs.Written.{text}
use Rattle.repo_model.specs.declared.item.Item.{Item}
use Rattle.repo_model.specs.declared.item.Item.TheVariants.{HostedPut, Faded, Relisted, Removed, CachedFile, CachedDoc, SessionOpened, SessionEnded, Digested}

abbrev pub AreShort : List ℕ → List ℕ → Type 0
AreShort repo path = (length repo < 2 ^ 16) × (length path < 2 ^ 16)

abbrev pub IsSized : Item → Type 0
IsSized (HostedPut repo path blob print accepted) = AreShort repo path
IsSized (Faded repo path moment) = AreShort repo path
IsSized (Relisted repo path accepted) = AreShort repo path
IsSized (Removed repo path) = AreShort repo path
IsSized (CachedFile repo path blob print accepted) = AreShort repo path
IsSized (CachedDoc repo path checked document) = (length repo < 2 ^ 16) × (length path < 2 ^ 16) × (length (text document) < 2 ^ 32)
IsSized (SessionOpened number) = Unit {0}
IsSized (SessionEnded session result) = Unit {0}
IsSized (Digested repo path further) = AreShort repo path

abbrev pub AreSized : List Item → Type 0
AreSized items = All IsSized items

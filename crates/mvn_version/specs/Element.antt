-- What an element of the program stands for.
use Rattle.std.specs.Prelude.{ℕ, List, ◌∷◌}
use Rattle.mvn_version.specs.declared.element.Rank.{Rank}
use Rattle.mvn_version.specs.declared.element.Rank.TheVariants.{Alpha, Beta, Milestone, Candidate, Snapshot, End, ServicePack, Word, DashNumber, DotNumber}
use Rattle.mvn_version.specs.declared.element.Element.{Element}

abbrev pub rank_number : Rank → ℕ
rank_number Alpha = 1
rank_number Beta = 2
rank_number Milestone = 3
rank_number Candidate = 4
rank_number Snapshot = 5
rank_number End = 6
rank_number ServicePack = 7
rank_number Word = 8
rank_number DashNumber = 9
rank_number DotNumber = 10

abbrev pub shown : Element → List ℕ
shown e = rank_number e.rank ∷ e.digits ∷ e.text.items

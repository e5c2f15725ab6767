-- The first entry of a pass.
use Rattle.std.proofs.Common.{◌≡◌, ℕ, List, [], ◌∷◌, ◌++◌, map, Result, refl, sym, subst}
use Rattle.repo_model.specs.Command.{collect, unlist}
use Rattle.repo_model.specs.History.{Entry}
use Rattle.repo_model.specs.Reply.{Reply, unlisted}
use Rattle.repo_course.specs.Cleaning.{Passes, Store, commands_in, not_collected, not_unlisted, removing, replies_in}
use Rattle.repo_course.specs.declared.outcomes.CleanFault.{CleanFault}
use Rattle.repo_course.specs.declared.outcomes.Cleaned.{Cleaned}
use Rattle.pass_laws.specs.Asked.{first_asked}

abbrev pub AsksFirst : List (List ℕ) → List Entry → Type 0
AsksFirst repos entries = (e : Entry) × (rest : List Entry) × (entries ≡ e ∷ rest) × (e.command ≡ first_asked repos)

none-behind : (replies : List Reply) (reply : Reply) → [] ≡ replies ++ reply ∷ [] → ⊥
none-behind [] reply same = cc
none-behind (r ∷ replies) reply same = cc

by-asked : (entries : List Entry) (asked rest : List (List ℕ)) (counts : List ℕ) (reply : Reply) → commands_in entries ≡ map unlist asked
    → replies_in entries ≡ map unlisted counts ++ reply ∷ [] → AsksFirst (asked ++ rest) entries
by-asked [] asked rest counts reply commands replies = absurd (none-behind (map unlisted counts) reply replies)
by-asked (e ∷ es) [] rest counts reply commands replies = absurd (cc)
by-asked (e ∷ es) (repo ∷ asked) rest counts reply commands replies = let same : e.command ≡ unlist repo = cc in (e, es, refl, same)

by-all : (repos : List (List ℕ)) (first : List Entry) (last : Entry) → commands_in first ≡ map unlist repos → last.command ≡ collect → AsksFirst repos (first ++ last ∷ [])
by-all [] [] last commands collects = (last, [], refl, collects)
by-all [] (e ∷ es) last commands collects = absurd (cc)
by-all (repo ∷ repos) [] last commands collects = absurd (cc)
by-all (repo ∷ repos) (e ∷ es) last commands collects = let same : e.command ≡ unlist repo = cc in (e, es ++ last ∷ [], refl, same)

pub asks-first : (repos : List (List ℕ)) (entries : List Entry) (old new : Store) (result : Result Cleaned CleanFault) → Passes repos entries old new result → AsksFirst repos entries
asks-first repos entries old new result (not_unlisted fault (asked, rest, counts, reply, parts, commands, replies, says) same is) =
    subst (λ rs. AsksFirst rs entries) (sym parts) (by-asked entries asked rest counts reply commands replies)
asks-first repos entries old new result (not_collected first last count fault parts unlists collects same is) =
    subst (AsksFirst repos) (sym parts) (by-all repos first last unlists.1 collects.0)
asks-first repos entries old new result (removing first last count blobs removed parts unlists collects removes is) =
    subst (AsksFirst repos) (sym parts) (by-all repos first last unlists.1 collects.0)

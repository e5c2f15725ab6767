-- What a parse of the program's command says of its words.
use Rattle.std.proofs.Common.{◌≡◌, ◌≢◌, true, false, List, [], ◌∷◌, Option, None, refl, subst, inl, inr}
use Rattle.std.specs.Option.{option_and_then}
use Rattle.clap.specs.Words.{App, HasKind, Kinds, Row, Text, fault_of, is_simple_and_free, kind_of, subcommand_of}
use Rattle.clap.specs.declared.error.ErrorKind.TheVariants.{OutOfMemory}
use Rattle.clap.specs.declared.Error.{Error}
use Rattle.clap.proofs.OnLiterals.{clap_on_literals}
use Rattle.command_words.specs.Program.{program}
use Rattle.command_words.specs.Wanted.{IsFault, IsKind, is_none_of, wanted_by, wanted_of}
use Rattle.command_words.specs.declared.wanted.Wanted.{Wanted}
use Rattle.command_words.specs.declared.wanted.WordsFault.{WordsFault}
use Rattle.command_words.specs.declared.wanted.WordsFault.TheVariants.{NoMemory, Refused}

pub program_is_simple : is_simple_and_free program ≡ true
unfolding clap_on_literals
program_is_simple = refl

some_kind : (kinds : Kinds) (e : Error) → HasKind kinds e → kind_of e ≢ OutOfMemory → is_none_of kinds ≡ false
some_kind [] e (inl memory) other = absurd (other memory)
some_kind [] e (inr among) other = absurd among
some_kind (kind ∷ kinds) e has other = refl

-- words at which the parse fails, and not because memory ran out, ask for nothing
pub refused : (app : App) (words : List Text) (e : Error) → app ≡ program → (is_simple_and_free app ≡ true → HasKind (fault_of app words) e)
    → kind_of e ≢ OutOfMemory → wanted_of words ≡ None
refused app words e is has other =
    let P : App → Type 0 = λ a. is_simple_and_free a ≡ true → HasKind (fault_of a words) e in
    rw (some_kind (fault_of program words) e (subst P is has program_is_simple) other) refl

-- words that are parsed ask for what their subcommand asks for
pub parsed : (app : App) (words : List Text) (rows : Option (Text × List Row)) → app ≡ program
    → (is_simple_and_free app ≡ true → fault_of app words ≡ []) → rows ≡ subcommand_of app words
    → wanted_of words ≡ option_and_then wanted_by rows
parsed app words rows is passes found =
    let P : App → Type 0 = λ a. is_simple_and_free a ≡ true → fault_of a words ≡ [] in
    let none = subst P is passes program_is_simple in
    let Q : App → Type 0 = λ a. rows ≡ subcommand_of a words in
    rw (none, subst Q is found) refl

pub fault_by : (wanted : Option Wanted) (e : Error) (f : WordsFault) → IsKind (kind_of e) f → (kind_of e ≢ OutOfMemory → wanted ≡ None)
    → IsFault wanted f
fault_by wanted e Refused h none = none h
fault_by wanted e NoMemory h none = tt

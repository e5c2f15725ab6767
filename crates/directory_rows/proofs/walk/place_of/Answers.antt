use Rattle.std.proofs.Common.{ℕ, cond, drop, length, Option, Some, None, sym, ap, ◌∙◌, lit<, Bor, List}
use Rattle.std.proofs.lemmas.Str.Pattern.{starts_text, split_parts}
use Rattle.mvn_coords.proofs.Cuts.{after_none}
use Rattle.directory_rows.proofs.TextLemmas.{after_front, not_less}
use Rattle.directory_rows.proofs.walk.place_of.Goals as goal

pub returns-else-lt : goal.returns-else-lt
returns-else-lt c rest =
    let word = c.args.word.now in
    let name = c.args.name.now in
    let other = sym (starts_text c.starts_with.result word name c.starts_with.ensures.cases) ∙ c.if-not-starts_with.true in
    after_front word name (λ x is. after_none word name x (ap (λ b. cond b (Some (drop (length word) name)) None) other) is)
    (not_less name word (sym c.lt.ensures ∙ c.if-lt.false)) rest

pub returns-in-Some : goal.returns-in-Some
returns-in-Some c =
    let found : Option (Bor (List ℕ) × Bor (List ℕ)) = Some (c.in-Some.front, c.in-Some.field-0-1) in
    (c.in-Some.field-0-1.now, (split_parts 47 c.args.name.now (Some (c.in-Some.front, c.in-Some.field-0-1)) c.in-Some.ensures.cases (lit< tt)).0)

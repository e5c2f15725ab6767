use Rattle.std.proofs.Common.{subst, sym, ap, ◌∙◌, List, ℕ}
use Rattle.std.proofs.lemmas.Result.{on_ok_weaker}
use Rattle.xml_subset.specs.Token.{Token, Text, shown}
use Rattle.xml_subset.specs.Tree.{Takes}
use Rattle.xml_subset.proofs.TreeSteps.{takes_character, takes_comment}
use Rattle.xml_subset.proofs.tree.Tree.take.Goals as goal

pub returns-in-Character : goal.returns-in-Character
returns-in-Character c =
    on_ok_weaker c.add_text-in-Character.result
    (λ taken. subst (λ (t : Token). Takes c.args.self.now c.add_text-in-Character.new.self t) (ap shown (sym c.in-Character.is))
    (takes_character c.args.self.now c.add_text-in-Character.new.self c.in-Character.c
    (subst (λ (bytes : List ℕ). Takes c.args.self.now c.add_text-in-Character.new.self (Text bytes)) (c.as_bytes.ensures.value ∙ c.encode_utf8.ensures.value) taken)))
    c.add_text-in-Character.ensures

pub returns-in-Comment : goal.returns-in-Comment
returns-in-Comment c =
    subst (λ (t : Token). Takes c.args.self.now c.args.self.now t) (ap shown (sym c.in-Comment.is)) (takes_comment c.args.self.now c.requires)

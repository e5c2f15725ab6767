use Rattle.std.proofs.Common.{◌≡◌, List, ℕ, None, false, string_bytes, sym, ap, ◌∙◌}
use Rattle.std.specs.Prelude.{is_some}
use Rattle.std.specs.BTreeMap.{get_by_text}
use Rattle.kept_docs.proofs.PageLemmas.{added-place, kept-place}
use Rattle.kept_docs.proofs.docs.Docs.add_place.Goals as goal

pub returns-clause-same : goal.returns-clause-same
returns-clause-same c =
    let m = c.args.self.now.map in
    let free : is_some (get_by_text m (string_bytes c.in_ok-key.key)) ≡ false = ap (λ (t : List ℕ). is_some (get_by_text m t)) c.in_ok-key.ensures.ok ∙ sym c.contains_key.ensures ∙ c.if-contains_key.false in
    added-place (string_bytes c.in_ok-key.key) m c.insert.new.self c.in_ok-insert.ensures.updates free

pub returns-clause-kept : goal.returns-clause-kept
returns-clause-kept c = kept-place (string_bytes c.in_ok-key.key) c.args.self.now.map c.insert.new.self None c.in_ok-insert.ensures.updates

use Rattle.std.proofs.Common.{◌≡◌, List, ℕ, cond, bytes_eq, None, ap, ◌∙◌}
use Rattle.mvn_coords.specs.Layout.{text_of_directory}
use Rattle.kept_docs.specs.Drafted.{with_file_of}
use Rattle.kept_docs.specs.Kept.{document_in, kept_at}
use Rattle.kept_docs.proofs.ChangeLemmas.{put-here, put-others}
use Rattle.kept_docs.proofs.DraftLemmas.{file_more}
use Rattle.kept_docs.proofs.changing.change_in.Goals as goal

pub returns-in-Ok-clause-more : goal.returns-in-Ok-clause-more
returns-in-Ok-clause-more c =
    let dir = c.args.dir.now in
    let path = text_of_directory dir in
    let old = λ (t : List ℕ). kept_at t c.args.docs.now in
    let mid = λ (t : List ℕ). kept_at t c.take-place.new.self in
    let new = λ (t : List ℕ). kept_at t c.set.new.self in
    let doc = document_in c.change_place-changed.new.place in
    let at = c.in_ok-path.ensures.ok ∙ c.path.ensures.text in
    let from : c.as_str-2.result.now ≡ path = c.as_str-2.ensures.value ∙ at in
    let to : c.as_str-3.result.now ≡ path = c.as_str-3.ensures.value ∙ at in
    let taken : (text : List ℕ) → mid text ≡ cond (bytes_eq text path) None (old text) = λ text.
    c.take-place.ensures.rest text ∙ ap (λ t. cond (bytes_eq text t) None (kept_at text c.add_place.new.self)) from
    ∙ ap (λ o. cond (bytes_eq text path) None o) (c.add_place.ensures.same text) in
    let put : (text : List ℕ) → new text ≡ cond (bytes_eq text path) doc (mid text) = λ text.
    c.set.ensures.set text ∙ ap (λ t. cond (bytes_eq text t) doc (mid text)) to in
    let was : document_in c.take-place.result ≡ old path =
    c.take-place.ensures.taken ∙ ap (λ t. kept_at t c.add_place.new.self) from ∙ c.add_place.ensures.same path in
    file_more dir c.args.c.now c.args.accepted old new c.path-path.ensures.rule
    (put-here path old mid new doc put ∙ c.in-Ok.ensures.more ∙ ap (with_file_of dir c.args.c.now c.args.accepted) was)
    (put-others path old mid new doc taken put)

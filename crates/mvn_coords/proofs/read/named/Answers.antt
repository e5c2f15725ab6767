use Rattle.std.proofs.Common.{◌≡◌, ◌∷◌, ◌++◌, ◌∙◌, sym, ap, codes}
use Rattle.std.proofs.lemmas.Slice.Eq.{bytes_eq-Decides}
use Rattle.mvn_coords.specs.Segment.{levels}
use Rattle.mvn_coords.proofs.read.named.Goals as goal

pub directory-requires-clause-below : goal.directory-requires-clause-below
directory-requires-clause-below c =
    let metadata = codes "maven-metadata.xml" in
    let same : c.in-Some.name.now ≡ metadata = (bytes_eq-Decides c.in-Some.name.now metadata).0 (sym c.is.ensures ∙ c.if-is.true) in
    record {
      joined = c.in-Some.ensures.1 ∙ ap (λ n. c.in-Some.above.now ++ 47 ∷ n) same;
      split = c.in-Some.ensures.0 ∙ ap (λ n. n ∷ levels c.in-Some.above.now) same;
    }

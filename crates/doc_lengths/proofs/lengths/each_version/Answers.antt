use native.Mathlib.Omega.{arith}
use Rattle.std.proofs.Common.{List, ℕ, refl, sym, ap, length, ◌∙◌}
use Rattle.std.specs.Prelude.{codes}
use Rattle.mvn_metadata.specs.Written.{version_line}
use Rattle.doc_lengths.specs.Counts.{counted}
use Rattle.doc_lengths.proofs.LengthLemmas.{all-counted, one-more}
use Rattle.doc_lengths.proofs.lengths.each_version.Goals as goal

pub loop-version-preserved : goal.loop-version-preserved
loop-version-preserved c =
    let made = c.element.ensures (codes "      ") (codes "version") c.in-Some.version.now refl refl (sym (c.str_len.ensures ∙ ap (λ (t : List ℕ). counted (length t)) c.as_str.ensures)) in (
      omega (arith, c.saturating_add-size.ensures),
      one-more version_line c.loop-version.size c.element.result c.saturating_add-size.result _ c.in-Some.version.now c.loop-version.version-iterator c.next.new.self c.in-Some.ensures.steps made
          c.saturating_add-size.ensures c.loop-version.invariant.1,
    )

pub returns : goal.returns
returns c = all-counted version_line c.loop-version.size _ c.loop-version.version-iterator c.in-None.ensures.steps.0 c.loop-version.invariant.0 c.loop-version.invariant.1

-- The iterations that cut at a seam and that cut nowhere.
use Rattle.std.proofs.Common.{◌-◌, ◌∙◌, sym, arith}
use Rattle.std.proofs.lemmas.List.{reverse-append}
use Rattle.mvn_version.proofs.Cutting.{cut_seam, cut_inside}
use Rattle.mvn_version.proofs.token.tokens.Goals as goal

pub loop-i-preserved-then-seam_follows : goal.loop-i-preserved-then-seam_follows
loop-i-preserved-then-seam_follows c = record {
  before_end = omega arith;
  within = omega arith;
  cut = rw (c.in_ok-push-2.ensures.items, reverse-append)
      (cut_seam c.args.text.now (c.loop-i.i - 1) c.loop-i.i c.loop-i.end _ (omega arith) (omega arith)
      (sym c.in_default.ensures) c.loop-i.invariant.cut (sym c.seam_follows.ensures ∙ c.if-seam_follows.true));
}

pub loop-i-preserved : goal.loop-i-preserved
loop-i-preserved c = record {
  before_end = omega arith;
  within = omega arith;
  cut = cut_inside c.args.text.now (c.loop-i.i - 1) c.loop-i.i c.loop-i.end _ (omega arith) (omega arith)
      (sym c.in_default.ensures) c.loop-i.invariant.cut (omega arith) (sym c.seam_follows.ensures ∙ c.if-seam_follows.false);
}

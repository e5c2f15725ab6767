use Rattle.std.proofs.Common.{ap, rules, ◌∙◌}
use Rattle.repo_model.specs.Shown.{shown_place, shown_reply}
use Rattle.repo_course.specs.Course.{tells}
use Rattle.repo_course.proofs.Told.{no-draft-told}
use Rattle.repo_course.proofs.steps.after_may_put.Goals as goal

pub returns-in_default : goal.returns-in_default
returns-in_default g c = record {
  left = c.tell.ensures.left c.args.mode
      ∙ ap (λ m. tells m (shown_reply c.args.reply)) c.with_unread.ensures
      ∙ no-draft-told (shown_place c.args.place) c.args.path c.args.length c.args.expects c.args.mode c.args.reply c.in_default.not-Draft;
  shorter = search rules;
}

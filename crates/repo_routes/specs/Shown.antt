-- What clauses see of the requests that the program has.
use Rattle.std.specs.Prelude.{Result, Ok, Err}
use Rattle.repo_model.specs.Shown.{shown_place}
use Rattle.repo_routes.specs.declared.intent.Intent as code
use Rattle.repo_routes.specs.declared.intent.Intent.TheVariants as asked
use Rattle.repo_routes.specs.declared.judging.Judged as judged
use Rattle.repo_routes.specs.declared.judging.Refused.{Refused}
use Rattle.repo_routes.specs.Intent.{Intent, Judged, reads, puts_file, puts_side, puts_document, asks, cleans, opens, commits, aborts}

abbrev pub shown_intent : code.Intent → Intent
shown_intent (asked.Read repo path sort) = reads repo path sort
shown_intent (asked.PutFile place path length) = puts_file (shown_place place) path length
shown_intent (asked.PutSide place path side length) = puts_side (shown_place place) path side length
shown_intent (asked.PutDocument place path length) = puts_document (shown_place place) path length
shown_intent (asked.Ask question) = asks question
shown_intent (asked.Clean repos) = cleans repos
shown_intent (asked.Open repo) = opens repo
shown_intent (asked.Commit session) = commits session
shown_intent (asked.Abort session) = aborts session

abbrev pub shown_request : judged.Judged → Judged
shown_request judged = record {
  intent = shown_intent judged.intent;
  head_only = judged.head_only;
  close = judged.close;
  expects = judged.expects;
}

abbrev pub shown_judged : Result judged.Judged Refused → Result Judged Refused
shown_judged (Ok judged) = Ok (shown_request judged)
shown_judged (Err refused) = Err refused

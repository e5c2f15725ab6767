use Rattle.std.proofs.Common.{◌≡◌, sym, ap, ◌∙◌, subst}
use Rattle.mvn_digest.specs.Sides.{bytes_in}
use Rattle.repo_model.specs.Command.{collect, land, look, may_put, put, put_doc, put_side, stage, unlist}
use Rattle.repo_model.specs.Data.{repository, session}
use Rattle.repo_model.specs.Shown.{outcome_map, shown_command, shown_got, shown_parcel, shown_place, shown_reply}
use Rattle.repo_core.specs.Turn.{IsSettled, Recorded, items_due}
use Rattle.repo_core.proofs.DeployTurns.{may_stage-quiet, note-quiet, stage-quiet, stage_side-quiet}
use Rattle.row_tables.specs.Leaving.{MayTake}
use Rattle.repo_core.proofs.Turning.{alone, look-quiet, may_put-quiet, put_side-quiet}
use Rattle.repo_core.proofs.machine.Machine.answer.Goals as goal

pub returns-in-MayPut : goal.returns-in-MayPut
returns-in-MayPut g c =
    let w = c.args.self.now in
    let n = c.in-Session.number in
    let path = c.as_str-in-Session.result.now in
    let asked : may_put (session n) path ≡ shown_command c.args.command =
    ap (λ p. may_put (session n) p) c.as_str-in-Session.ensures ∙ ap (λ place. may_put (shown_place place) c.in-MayPut.path) (sym c.in-Session.is) ∙ ap (λ q. shown_command q) (sym c.in-MayPut.is) in
    let did =
    alone w c.may_stage.new.self (may_put (session n) path) (shown_command c.args.command) (shown_reply c.may_stage.result) (g.K.Records.shows c.args.records.now)
    asked (may_stage-quiet w n path) tt c.requires.records.ready c.may_stage.ensures in
    record { turn = did.0; settled = did.1 }

pub returns-in-PutSide : goal.returns-in-PutSide
returns-in-PutSide g c =
    let w = c.args.self.now in
    let n = c.in-Session-place.number in
    let path = c.as_str-in-Session-place.result.now in
    let said = bytes_in c.in-PutSide.said in
    let asked : put_side (session n) path said ≡ shown_command c.args.command =
    ap (λ p. put_side (session n) p said) c.as_str-in-Session-place.ensures ∙ ap (λ place. put_side (shown_place place) c.in-PutSide.path said) (sym c.in-Session-place.is) ∙ ap (λ q. shown_command q) (sym c.in-PutSide.is) in
    let did =
    alone w c.stage_side.new.self (put_side (session n) path said) (shown_command c.args.command) (shown_reply c.stage_side.result) (g.K.Records.shows c.args.records.now)
    asked (stage_side-quiet w n path said) tt c.requires.records.ready c.stage_side.ensures in
    record { turn = did.0; settled = did.1 }

pub returns-in-PutDoc : goal.returns-in-PutDoc
returns-in-PutDoc g c =
    let w = c.args.self.now in
    let n = c.in-Session-place-2.number in
    let path = c.as_str-in-Session-place-2.result.now in
    let asked : put_doc (session n) path ≡ shown_command c.args.command =
    ap (λ p. put_doc (session n) p) c.as_str-in-Session-place-2.ensures ∙ ap (λ place. put_doc (shown_place place) c.in-PutDoc.path) (sym c.in-Session-place-2.is) ∙ ap (λ q. shown_command q) (sym c.in-PutDoc.is) in
    let did =
    alone w c.note.new.self (put_doc (session n) path) (shown_command c.args.command) (shown_reply c.note.result) (g.K.Records.shows c.args.records.now)
    asked (note-quiet w n path) tt c.requires.records.ready c.note.ensures in
    record { turn = did.0; settled = did.1 }

pub returns-in-Stage : goal.returns-in-Stage
returns-in-Stage g c =
    let w = c.args.self.now in
    let n = c.in-Stage.session in
    let draft = c.in-Stage.draft in
    let blob = shown_parcel c.in-Stage.parcel in
    let path = c.as_str-in-Stage.result.now in
    let asked : stage n path draft blob ≡ shown_command c.args.command = ap (λ p. stage n p draft blob) c.as_str-in-Stage.ensures ∙ ap (λ q. shown_command q) (sym c.in-Stage.is) in
    let did =
    alone w c.stage.new.self (stage n path draft blob) (shown_command c.args.command) (shown_reply c.stage.result) (g.K.Records.shows c.args.records.now)
    asked (stage-quiet w n path draft blob) tt c.requires.records.ready c.stage.ensures in
    record { turn = did.0; settled = did.1 }

pub returns-in-Look : goal.returns-in-Look
returns-in-Look g c =
    let w = c.args.self.now in
    let repo = c.as_str.result.now in
    let path = c.as_str-in-Look.result.now in
    let tried = c.as_slice.result.now in
    let asked : look repo path tried ≡ shown_command c.args.command =
    ap (λ r. look r path tried) c.as_str.ensures ∙ ap (λ p. look c.in-Look.repo p tried) c.as_str-in-Look.ensures ∙ ap (λ t. look c.in-Look.repo c.in-Look.path t) c.as_slice.ensures
    ∙ ap (λ q. shown_command q) (sym c.in-Look.is) in
    let did =
    alone w c.look.new.self (look repo path tried) (shown_command c.args.command) (shown_reply c.look.result) (g.K.Records.shows c.args.records.now)
    asked (look-quiet w repo path tried) tt c.requires.records.ready c.look.ensures in
    record { turn = did.0; settled = did.1 }

pub returns-in-Repository : goal.returns-in-Repository
returns-in-Repository g c =
    let w = c.args.self.now in
    let repo = c.as_str-in-Repository.result.now in
    let path = c.as_str-in-Repository-2.result.now in
    let asked : may_put (repository repo) path ≡ shown_command c.args.command =
    ap (λ r. may_put (repository r) path) c.as_str-in-Repository.ensures ∙ ap (λ p. may_put (repository c.in-Repository.repo) p) c.as_str-in-Repository-2.ensures
    ∙ ap (λ place. may_put (shown_place place) c.in-MayPut.path) (sym c.in-Repository.is) ∙ ap (λ q. shown_command q) (sym c.in-MayPut.is) in
    let did =
    alone w c.may_put.new.self (may_put (repository repo) path) (shown_command c.args.command) (shown_reply c.may_put.result) (g.K.Records.shows c.args.records.now)
    asked (may_put-quiet w repo path) tt c.requires.records.ready c.may_put.ensures in
    record { turn = did.0; settled = did.1 }

pub returns-in-Repository-place : goal.returns-in-Repository-place
returns-in-Repository-place g c =
    let w = c.args.self.now in
    let repo = c.as_str-in-Repository-place.result.now in
    let path = c.as_str-in-Repository-place-2.result.now in
    let said = bytes_in c.in-PutSide.said in
    let asked : put_side (repository repo) path said ≡ shown_command c.args.command =
    ap (λ r. put_side (repository r) path said) c.as_str-in-Repository-place.ensures ∙ ap (λ p. put_side (repository c.in-Repository-place.repo) p said) c.as_str-in-Repository-place-2.ensures
    ∙ ap (λ place. put_side (shown_place place) c.in-PutSide.path said) (sym c.in-Repository-place.is) ∙ ap (λ q. shown_command q) (sym c.in-PutSide.is) in
    let did =
    alone w c.put_side.new.self (put_side (repository repo) path said) (shown_command c.args.command) (shown_reply c.put_side.result) (g.K.Records.shows c.args.records.now)
    asked (put_side-quiet w repo path said) tt c.requires.records.ready c.put_side.ensures in
    record { turn = did.0; settled = did.1 }

pub put-requires-clause-records : goal.put-requires-clause-records
put-requires-clause-records g c =
    let w = c.args.self.now in
    let blob = shown_parcel c.in-Put.parcel in
    let repo = c.as_str-in-Put.result.now in
    let path = c.as_str-in-Put-2.result.now in
    let asked : shown_command c.args.command ≡ put repo path c.in-Put.draft blob =
    ap (λ q. shown_command q) c.in-Put.is ∙ ap (λ r. put r c.in-Put.path c.in-Put.draft blob) (sym c.as_str-in-Put.ensures) ∙ ap (λ p. put repo p c.in-Put.draft blob) (sym c.as_str-in-Put-2.ensures) in
    let records = c.args.records.now in
    subst (λ q. MayTake (items_due w q) (g.K.Records.shows records)) asked c.requires.records

pub unlist-requires-clause-records : goal.unlist-requires-clause-records
unlist-requires-clause-records g c =
    let w = c.args.self.now in
    let asked : shown_command c.args.command ≡ unlist c.as_str-in-Unlist.result.now = ap (λ q. shown_command q) c.in-Unlist.is ∙ ap unlist (sym c.as_str-in-Unlist.ensures) in
    let records = c.args.records.now in
    subst (λ q. MayTake (items_due w q) (g.K.Records.shows records)) asked c.requires.records

pub collect-requires-clause-records : goal.collect-requires-clause-records
collect-requires-clause-records g c =
    let w = c.args.self.now in
    let asked : shown_command c.args.command ≡ collect = ap (λ q. shown_command q) c.in-Collect.is in
    let records = c.args.records.now in
    subst (λ q. MayTake (items_due w q) (g.K.Records.shows records)) asked c.requires.records

pub land-requires-clause-records : goal.land-requires-clause-records
land-requires-clause-records g c =
    let w = c.args.self.now in
    let asked : shown_command c.args.command ≡ land c.in-Land.plan (outcome_map shown_got c.in-Land.outcome) = ap (λ q. shown_command q) c.in-Land.is in
    let records = c.args.records.now in
    subst (λ q. MayTake (items_due w q) (g.K.Records.shows records)) asked c.requires.records

pub returns-in-Put : goal.returns-in-Put
returns-in-Put g c =
    let w = c.args.self.now in
    let draft = c.in-Put.draft in
    let blob = shown_parcel c.in-Put.parcel in
    let repo = c.as_str-in-Put.result.now in
    let path = c.as_str-in-Put-2.result.now in
    let asked : put repo path draft blob ≡ shown_command c.args.command =
    ap (λ r. put r path draft blob) c.as_str-in-Put.ensures ∙ ap (λ p. put c.in-Put.repo p draft blob) c.as_str-in-Put-2.ensures ∙ ap (λ q. shown_command q) (sym c.in-Put.is) in
    let before = g.K.Records.shows c.args.records.now in
    let later = g.K.Records.shows c.put.new.records in
    let reply = shown_reply c.put.result in
    record {
      turn = subst (λ q. Recorded w c.put.new.self q reply before later) asked c.put.ensures;
      settled = subst (λ q. IsSettled q reply later.unsettled) asked tt;
    }

pub returns : goal.returns
returns g c =
    let w = c.args.self.now in
    let asked : land c.in-Land.plan (outcome_map shown_got c.in-Land.outcome) ≡ shown_command c.args.command = ap (λ q. shown_command q) (sym c.in-Land.is) in
    let before = g.K.Records.shows c.args.records.now in
    let later = g.K.Records.shows c.land.new.records in
    let reply = shown_reply c.land.result in
    record {
      turn = subst (λ q. Recorded w c.land.new.self q reply before later) asked c.land.ensures;
      settled = subst (λ q. IsSettled q reply later.unsettled) asked tt;
    }

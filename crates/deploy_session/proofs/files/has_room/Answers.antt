use Rattle.std.proofs.Common.{◌≡◌, true, false, is_some, length, sym, ◌∙◌, arith}
use Rattle.std.proofs.lemmas.List.{length-map}
use Rattle.repo_model.specs.Shown.{shown_parcel}
use Rattle.repo_model.specs.Turn.{has_room}
use Rattle.deploy_session.specs.Shown.{shown_file, shown_files}
use Rattle.deploy_session.proofs.FileLemmas.{found-room, none-room}
use Rattle.deploy_session.proofs.files.has_room.Goals as goal

pub returns-then-is_some : goal.returns-then-is_some
returns-then-is_some g c =
    let there : is_some c.find.result ≡ true = cc in
    let room : has_room c.args.path.now (shown_files c.args.files.now.entries) ≡ true = found-room (λ p. shown_parcel p.now) c.find.result c.args.path.now (shown_files c.args.files.now.entries) c.find.ensures there in
    let here : c.is_some.result ≡ true = cc in
    here ∙ sym room

pub returns-else-is_some : goal.returns-else-is_some
returns-else-is_some g c =
    let none : is_some c.find.result ≡ false = cc in
    let many : c.len.result ≡ length (shown_files c.args.files.now.entries) = omega (arith, length-map c.args.files.now.entries shown_file, c.len.ensures.len) in
    none-room (λ p. shown_parcel p.now) c.find.result c.args.path.now (shown_files c.args.files.now.entries) c.len.result c.find.ensures none many

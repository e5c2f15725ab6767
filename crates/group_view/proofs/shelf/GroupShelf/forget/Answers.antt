use Rattle.std.proofs.Common.{None}
use Rattle.group_view.proofs.Texts.{changed}
use Rattle.group_view.proofs.shelf.GroupShelf.forget.Goals as goal

pub returns : goal.returns
returns c = changed c.args.path.now c.args.self.now.map c.remove.new.self None c.remove.ensures.updates

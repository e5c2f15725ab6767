use Rattle.std.proofs.Common.{◌≡◌, rules}
use Rattle.std.specs.List.{filter}
use Rattle.std.proofs.lemmas.Map.Made.{filter_same_pairs}
use Rattle.mvn_metadata.specs.Document.{is_of}
use Rattle.mvn_metadata.proofs.entries.Entries.keep_of.Goals as goal

pub returns : goal.returns
returns c =
    let kept : c.retain.new.self.entries ≡ filter (is_of c.args.directory.now) c.self.inside.map.entries =
    filter_same_pairs _ (is_of c.args.directory.now) _ (λ k v b w f' t. search rules) _ _ c.retain.ensures.filtered in
    rw c.self.view_is at kept

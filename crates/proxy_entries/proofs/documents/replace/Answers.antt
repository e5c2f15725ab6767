use Rattle.std.proofs.Common.{ap, sym, ◌∙◌, option_map, string_bytes}
use Rattle.proxy_entries.specs.Stored.{shown_documents, shown_kept}
use Rattle.proxy_entries.proofs.DocumentLemmas.{found, kept}
use Rattle.proxy_entries.proofs.Results.{from-either}
use Rattle.proxy_entries.proofs.documents.replace.Goals as goal

pub unreachable-requires : goal.unreachable-requires
unreachable-requires c =
    let path = string_bytes c.args.key in
    c.requires (sym (found path c.args.documents.now.entries) ∙ ap (option_map (shown_kept path)) c.in-Err.ensures.absent)

pub returns : goal.returns
returns c =
    let path = string_bytes c.args.key in
    let es = c.args.documents.now.entries in
    from-either c.insert.result c.insert.ensures.entries c.insert.ensures.absent
    (λ made. ap shown_documents made ∙ kept c.args.key c.args.kept es)
    (λ absent. absurd (c.requires (sym (found path es) ∙ ap (option_map (shown_kept path)) absent)))

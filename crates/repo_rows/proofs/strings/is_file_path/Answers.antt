use Rattle.repo_rows.proofs.Ascii.{no_path, file_path_utf8}
use Rattle.repo_rows.proofs.strings.is_file_path.Goals as goal

pub returns-in-Err : goal.returns-in-Err
returns-in-Err c = no_path c.args.path.now _ c.in-Err.ensures.cases.0 (file_path_utf8 c.args.path.now)

use Rattle.std.proofs.Common.{sym, subst, ap, arith}
use Rattle.record_journal.specs.Given.{Loads}
use Rattle.row_tables.specs.Loading.{loading_of}
use Rattle.record_journal.proofs.Loads.{whole_if}
use Rattle.record_journal.proofs.Walk.{few_frames}
use Rattle.record_journal.proofs.loading.tables_in.Goals as goal

pub load_frames-requires : goal.load_frames-requires
load_frames-requires c = omega (arith, few_frames c.args.file.now c.in-Some.frames c.in-Some.ensures, c.size_of-size.ensures.len, c.size_of-size.ensures.fits)

pub returns-in-Some-clause-whole : goal.returns-in-Some-clause-whole
returns-in-Some-clause-whole c =
    whole_if c.args.file.now c.load_frames.result (subst (λ e. Loads e c.load_frames.result) (sym (ap loading_of c.in-Some.ensures)) c.load_frames.ensures.loads)

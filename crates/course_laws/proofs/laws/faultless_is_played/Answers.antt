use Rattle.repo_course.specs.Serving.{AllTell}
use Rattle.course_laws.proofs.PlayedStream.{as-played}
use Rattle.course_laws.proofs.laws.faultless_is_played.Goals as goal

pub returns : goal.returns
returns g c settings told n entries start old new ending input before legal records begins calm served =
    as-played settings (AllTell g.H.Held.bytes) told n entries start legal records old new ending input before begins calm served

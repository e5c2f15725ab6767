use Rattle.repo_course.specs.Serving.{AllTell}
use Rattle.course_laws.proofs.PlayedStream.{stream-upto}
use Rattle.course_laws.proofs.laws.broken_is_a_front.Goals as goal

pub returns : goal.returns
returns g c settings told n entries start old new ending input before legal records begins calm served =
    stream-upto settings (AllTell g.H.Held.bytes) told n entries start legal records old new ending input before begins calm served

use Rattle.course_laws.proofs.PutAndGet.{put_and_get}
use Rattle.course_laws.proofs.laws.worked_exchange.Goals as goal

pub returns : goal.returns
returns c = put_and_get

-- The worked PUT and GET, computed.
use Rattle.std.proofs.Common.{◌++◌, refl}
use Rattle.course_laws.specs.Worked.{IsAnswered, abc_200, created_201, last_get, put_abc}
use Rattle.course_laws.proofs.OnLiterals.{course_laws_on_literals}

pub put_and_get : IsAnswered (put_abc ++ last_get) (created_201 ++ abc_200)
unfolding course_laws_on_literals
put_and_get settings clock fetched = (refl, refl)

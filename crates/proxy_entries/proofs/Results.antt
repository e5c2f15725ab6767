-- What a call came to, on either side.
use Rattle.std.specs.Prelude.{OnErr, OnOk, Result, Ok, Err}

pub on-ok : {A B : Type 0} {P Q : Type 0} (r : Result A B) → (P → Q) → OnOk r P → OnOk r Q
on-ok (Ok x) f h = f h
on-ok (Err e) f h = tt

pub from-either : {A B : Type 0} {P Q R : Type 0} (r : Result A B) → OnOk r P → OnErr r Q → (P → R) → (Q → R) → R
from-either (Ok x) ok err f g = f ok
from-either (Err e) ok err f g = g err

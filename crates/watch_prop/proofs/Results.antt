-- Facts of answers, carried over.
use Rattle.std.specs.Prelude.{◌≡◌, Option, None, Some, Result, Ok, Err, OnOk, IfNone}

pub on_ok : {T E : Type 0} (r : Result T E) (P Q : Type 0) → (P → Q) → OnOk r P → OnOk r Q
on_ok (Ok x) P Q f p = f p
on_ok (Err e) P Q f p = p

pub where_none : {X : Type 0} (o : Option X) (P : Type 0) → o ≡ None → IfNone o P → P
where_none None P is holds = holds
where_none (Some x) P is holds = cc

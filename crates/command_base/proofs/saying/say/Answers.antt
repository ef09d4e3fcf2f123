use Rattle.std.proofs.Common.{ap, inl, inr, refl}
use Rattle.std.specs.Prelude.{Err}
use Rattle.command_base.proofs.saying.say.Goals as goal

pub returns-in-Ok : goal.returns-in-Ok
returns-in-Ok g c =
    let e = c.in-Ok.ensures in
    record {
      said = inl (record { same = refl; said = e.said });
      files = e.files;
      warned = e.warned;
      later = e.cause.later;
    }

pub returns-in-Err : goal.returns-in-Err
returns-in-Err g c =
    let e = c.in-Err.ensures in
    record {
      said = inr (record { fault = c.in-Err.fault; same = c.from.ensures; said = e.cut; failed = λ failed. e.cause.failed (ap Err failed) });
      files = e.files;
      warned = e.warned;
      later = e.cause.later;
    }

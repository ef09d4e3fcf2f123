use Rattle.std.proofs.Common.{List, Bool, ◌↔◌, take}
use Rattle.std.specs.Prelude.{All, Contains}
use Rattle.representatives.specs.Representatives.{AreDifferent, Serves}
use Rattle.representatives.proofs.checking.check_models.Given as goal

abbrev pub invariant-loop-model : goal.invariant-loop-model
invariant-loop-model l = record {
  serve : All (Serves l.inst l.vec) (take l.model-index l.models);
  different : AreDifferent (take l.model-index l.models);
  seen : (q : List Bool) → Contains l.seen.keys q ↔ Contains (take l.model-index l.models) q;
}

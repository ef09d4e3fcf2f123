-- The model of a problem that is no dearer than the model of the instance that it stands for.
use Rattle.std.specs.Prelude.{not, List, Bool, ◌++◌, map}
use Rattle.instance.specs.Shape.{InstanceValue}
use Rattle.instance.specs.Meaning.{clause_true}
use Rattle.instance_normal.specs.NormalForm.{relaxed_softs}

-- the assignment, with each relaxation variable true exactly where its soft clause is false
abbrev pub tightened : InstanceValue → List Bool → List Bool
tightened i a = a ++ map (λ s. not (clause_true a s.lits)) (relaxed_softs i)

-- When a list and a log are accepted for an instance.
use Rattle.std.specs.Prelude.{◌≡◌, true, List, ℕ, ℤ, map, All, AllPairs, Contains}
use Rattle.front_set.specs.declared.entry.Entry.{Entry}
use Rattle.front_set.specs.Vector.{IsBelow, AreRising}
use Rattle.front_set.specs.Front.{vectors_of}
use Rattle.front_text.specs.Spelling.{Spells}
use Rattle.instance.specs.Shape.{InstanceValue}
use Rattle.instance.specs.Meaning.{IsModel, costs_of}
use Rattle.instance.specs.ParetoFront.{WeaklyDominates, problem_vector}
use Rattle.instance_normal.specs.NormalForm.{IsNormalFormOf}
use Rattle.pb_lin.specs.Problem.{ProblemValue}
use Rattle.proof_laws.specs.State.{StateValue}
use Rattle.proof_laws.specs.Replay.{IsReplay}
use Rattle.proof_laws.specs.declared.line.Line.{Line}
use Rattle.proof_text.specs.LogText.{SpellsLog}

-- ---- the list

-- a model of the instance with its costs
pub record IsRightModel (i : InstanceValue) (e : Entry) : Type 0 where
  pub model : IsModel i e.model
  pub costs : costs_of i e.model ≡ e.costs

-- neither weakly dominates the other
pub record AreIncomparable (i : InstanceValue) (u v : List ℤ) : Type 0 where
  pub first : WeaklyDominates i u v → ⊥
  pub second : WeaklyDominates i v u → ⊥

-- models with their costs, in rising order, of which no two are comparable
pub record IsRightList (i : InstanceValue) (entries : List Entry) : Type 0 where
  pub models : All (IsRightModel i) entries
  pub rising : AreRising (vectors_of entries)
  pub incomparable : AllPairs (λ e f. AreIncomparable i e.costs f.costs) entries

-- ---- the log

-- some vector of these is below v
abbrev pub IsCovered : List (List ℤ) → List ℤ → Type 0
IsCovered vectors v = (u : List ℤ) × Contains vectors u × IsBelow u v

-- The bytes spell lines that are legal, each where it stands, and lead to an end; and each logged vector is covered.
pub record IsEndedProof (p : ProblemValue) (vectors : List (List ℤ)) (log : List ℕ) : Type 0 where
  pub lines : List Line
  pub spelled : SpellsLog log lines
  pub state : StateValue
  pub replay : IsReplay p lines state
  pub ended : state.ended ≡ true
  pub covered : All (IsCovered vectors) state.sols

-- ---- both

-- the vectors of the entries, as the problem has them
abbrev pub problem_vectors : InstanceValue → List Entry → List (List ℤ)
problem_vectors i entries = map (λ e. problem_vector i e.costs) entries

-- The list is that of right entries, and the log is an ended proof over the instance's normal form, whose logged vectors they cover.
pub record IsAccepted (i : InstanceValue) (list log : List ℕ) : Type 0 where
  pub entries : List Entry
  pub spelled : Spells list true entries
  pub right : IsRightList i entries
  pub problem : ProblemValue
  pub normal : IsNormalFormOf i problem
  pub proof : IsEndedProof problem (problem_vectors i entries) log

-- Which outputs a call makes.
use Rattle.std.specs.Prelude.{◌≡◌, ◌⊎◌, ℕ, ◌+◌, ◌-◌, ◌<◌, List, length, slice_index_or, Contains, ℤ, pos}
use Rattle.scut_base.specs.Literal.{Literal}
use Rattle.proof_laws.specs.State.{StateValue}
use Rattle.proof_rules.specs.Recording.{Snapshot}
use Rattle.sum_outputs.specs.Totals.{IsLeastSum, IsUpToLeast, definitions}
use Rattle.sum_outputs.specs.Adding.{IsReached}
use Rattle.sum_outputs.specs.MadeOutputs.{count_outputs}
use Rattle.sum_outputs.specs.declared.node.Node.{Node}
use Rattle.sum_outputs.specs.declared.sum_output.SumOutput.{SumOutput}
use Rattle.totalizer.specs.declared.bound.Bound.{Bound}
use Rattle.totalizer.specs.declared.bound.Bound.TheVariants.{At}
use Rattle.totalizer.specs.Totalizing.{TotalizerValue, terms_of}

-- "The sum is at least k" demands the output of the root at its least sum of at least k, and of each node below it
-- those at all its sums up to the least of at least k.
abbrev pub IsDemanded : List Node → ℕ → ℕ → ℕ → Type 0
IsDemanded nodes k i n = (d : Node) →
    ((i + 1 ≡ length nodes) × IsLeastSum (slice_index_or nodes i d).terms k n)
    ⊎ ((i + 1 < length nodes) × IsUpToLeast (slice_index_or nodes i d).terms k n)

-- the literal stands for this sum at the node
abbrev pub IsThere : List (List SumOutput) → ℕ → ℕ → Literal → Type 0
IsThere made i n l = (d : List SumOutput)
    → (o : SumOutput) × Contains (slice_index_or made i d) o × (o.lit ≡ l) × (o.sum ≡ n)

-- What is demanded is there, all others as before; each new one has a new variable, and there is a definition for each.
pub record MakesDemanded (a b : Snapshot) (k : ℕ) (before now : TotalizerValue) : Type 0 where
  pub all : (i n : ℕ) → i < length now.nodes → IsDemanded now.nodes k i n → (l : Literal) × IsThere now.made i n l
  pub stay : (i n : ℕ) (l : Literal) → i < length now.nodes → IsThere before.made i n l → IsThere now.made i n l
  pub new : (i n : ℕ) (l : Literal) → i < length now.nodes → IsThere now.made i n l
      → IsThere before.made i n l ⊎ (IsDemanded now.nodes k i n × ((s : StateValue) → IsReached a s → s.vars < l.var))
  pub defined : definitions b.lines + count_outputs before.made ≡ definitions a.lines + count_outputs now.made

-- where there is more than one term, the literal is the root's at its least sum of at least k
abbrev pub IsAnswered : TotalizerValue → ℕ → Literal → Type 0
IsAnswered t k l = 1 < length (terms_of t) → (n : ℕ) → IsLeastSum (terms_of t) k n → IsThere t.made (length t.nodes - 1) n l

-- What a literal for "the sum is at least k" adds: what it demands, and no line where that literal was there.
pub record AddsDemanded (a b : Snapshot) (k : ℕ) (before now : TotalizerValue) (l : Literal) : Type 0 where
  pub makes : MakesDemanded a b k before now
  pub answered : IsAnswered now k l
  pub again : IsAnswered before k l → b.lines ≡ a.lines

-- where no literal is answered, nothing is added
abbrev pub AddsFor : Snapshot → Snapshot → ℤ → TotalizerValue → TotalizerValue → Bound → Type 0
AddsFor a b k before now (At l id) = (n : ℕ) × (k ≡ pos n) × AddsDemanded a b n before now l
AddsFor a b k before now bound = (b.lines ≡ a.lines) × (now ≡ before)

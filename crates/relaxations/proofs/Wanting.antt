-- What is told of what is wanted.
use Rattle.std.proofs.Common.{◌≡◌, ℕ, Bool, List, sym, subst}
use Rattle.pb_lin.specs.Problem.{ProblemValue}
use Rattle.proof_rules.specs.Recording.{Snapshot}
use Rattle.search_base.specs.Turns.{IsEndLine, IsTakable}
use Rattle.search_base.specs.declared.objective_bound.ObjectiveBound.{ObjectiveBound}
use Rattle.relaxations.specs.Telling.{IsGoodWithSome}
use Rattle.relaxations.specs.Wanting.{HasCostRows, IsOf, TellsOf}
use Rattle.relaxations.specs.declared.below.Below.{Below}
use Rattle.relaxations.specs.declared.below.Below.TheVariants.{End, Model}
use Rattle.relaxations.specs.declared.wanted.Wanted.{Wanted}
use Rattle.relaxations.specs.declared.wanted.Wanted.TheVariants.{Any, Within, Better}
use Rattle.relaxations.proofs.Calls.{good_rows}

pub takable : (m : Snapshot) (w : Wanted) (x : List Bool) → TellsOf m w (Model x) → IsTakable m x
takable m Any x tells = tells
takable m (Within v) x tells = tells.0
takable m (Better v) x tells = tells.0

pub end_line : (m : Snapshot) (w : Wanted) (id : ℕ) → TellsOf m w (End id) → IsEndLine m.problem m.lines id
end_line m Any id tells = tells
end_line m (Within v) id tells = tells
end_line m (Better v) id tells = tells

pub of_later : (a b : Snapshot) (w : Wanted) → b.problem ≡ a.problem → IsOf a.problem w → IsOf b.problem w
of_later a b w same is = subst (λ (p : ProblemValue). IsOf p w) (sym same) is

-- what is told of what is wanted is told of the aim
pub told_of_aim : {T : Type 0} (serves : T → ProblemValue → Type 0) (tells : Snapshot → T → Below → Type 0) (a m : Snapshot)
    (asked : List ObjectiveBound) (aim : T) (w : Wanted) (below : Below) → IsGoodWithSome a asked → m.problem ≡ a.problem
    → serves aim a.problem
    → ((b : Snapshot) (of : Below) → serves aim b.problem → HasCostRows b.problem → TellsOf b w of → tells b aim of)
    → TellsOf m w below → tells m aim below
told_of_aim serves tells a m asked aim w below good same served law told =
    law m below (subst (serves aim) (sym same) served) (subst HasCostRows (sym same) (good_rows a asked good)) told

use Rattle.std.proofs.Common.{List, refl, subst, ℕ}
use Rattle.scut_base.specs.Literal.{Literal}
use Rattle.proof_rules.specs.Recording.{Snapshot}
use Rattle.totalizer.specs.Totalizing.{Fits, HasVariables, IsBuilt}
use Rattle.search_base.proofs.objective_bound.ObjectiveBound.new.Goals as goal

pub returns : goal.returns
returns c =
    let t = c.in_ok-totalizer.totalizer in
    record {
      reform = refl;
      built = subst (λ (ts : List (Literal × ℕ)). IsBuilt ts t) c.as_slice.ensures c.in_ok-totalizer.ensures.built;
      fits = subst (λ (ts : List (Literal × ℕ)). (a : Snapshot) → HasVariables a ts → Fits a t) c.as_slice.ensures
          c.in_ok-totalizer.ensures.fits;
      none = c.new.ensures.items;
    }

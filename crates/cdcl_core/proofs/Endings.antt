-- Why a search ends: each turn brings it nearer to where nothing is left to do.
use Rattle.std.proofs.Common.{◌≡◌, ◌⊎◌, inl, inr, ⊎_elim, ℕ, ◌+◌, ◌<◌, ◌≤◌, Option, arith, sym, ap, ◌∙◌, subst}
use Rattle.std.proofs.Math.Nat.{mul-le-mul_right}
use Rattle.pb_lin.specs.LineMap.{LineMap}
use Rattle.clause_prop.specs.Steps.{TrailValue}
use Rattle.cdcl_trail.specs.SearchTrail.{IsSearchTrail}
use Rattle.cdcl_trail.specs.Rank.{rank, rank_limit, rest}
use Rattle.cdcl_trail.proofs.Ranks.{higher_law, restarted_law}
use Rattle.cdcl_core.specs.Ledgers.{left}
use Rattle.cdcl_core.specs.Work.{IsNearer}

more_left : (few many : ℕ) (t : TrailValue) → few ≤ many → rest few t ≤ rest many t
unfolding rest
more_left few many t less = let product = mul-le-mul_right (rank_limit t.vars + 1) less in omega (arith, product)

-- where fewer restarts and reductions are left, whatever the trail is
pub fewer_law : (few many : ℕ) (old new : TrailValue) → new.vars ≡ old.vars → few < many → rest few new < rest many old
fewer_law few many old new vars less =
    let once = restarted_law few old new vars in
    let more = more_left (few + 1) many old (omega (arith, less)) in
    omega (arith, once, more)

pub nearer_law : (store : LineMap) (restarts was now : ℕ) (old new : TrailValue) → IsSearchTrail store new → new.vars ≡ old.vars → IsNearer old new was now → rest (restarts + now) new < rest (restarts + was) old
nearer_law store restarts was now old new search vars nearer = ⊎_elim
    (λ (fewer : now < was). fewer_law (restarts + now) (restarts + was) old new vars (omega (arith, fewer)))
    (λ (higher : (now ≡ was) × (rank old < rank new)). subst (λ (n : ℕ). rest (restarts + now) new < rest (restarts + n) old) higher.0 (higher_law store (restarts + now) old new search vars higher.1))
    nearer

-- a clause was learned, and then a reduction made, or nothing
pub nearer_after : (before learned after : TrailValue) (was between now : Option ℕ) → between ≡ was → rank before < rank learned → ((after ≡ learned) × (now ≡ between)) ⊎ (left now < left between)
    → IsNearer before after (left was) (left now)
nearer_after before learned after was between now same rises made = ⊎_elim
    (λ (none : (after ≡ learned) × (now ≡ between)). inr (ap left (none.1 ∙ same), subst (λ (t : TrailValue). rank before < rank t) (sym none.0) rises))
    (λ (fewer : left now < left between). inl (subst (λ (o : Option ℕ). left now < left o) same fewer))
    made

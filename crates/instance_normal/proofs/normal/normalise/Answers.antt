use Rattle.std.proofs.Common.{◌≡◌, ℕ, ◌+◌, List, ◌++◌, length, map, filter, sym, ap, ◌∙◌, subst, arith}
use Rattle.std.specs.Prelude.{All}
use Rattle.std.specs.List.{AllZip, flat_map}
use Rattle.instance.specs.declared.objective.Objective.{Objective}
use Rattle.instance.specs.declared.objective.Soft.{Soft}
use Rattle.instance.specs.Shape.{InstanceValue}
use Rattle.pb_lin.specs.CostRow.{CostRowValue}
use Rattle.instance_normal.specs.declared.draft.Draft.{Draft}
use Rattle.instance_normal.specs.NormalForm.{Clause, IsRowOf, IsCostRowOf, IsNormalFormOf, is_relaxed, linear_sources, relaxed_softs, relaxed_clauses, cost_sources}
use Rattle.instance_normal.specs.Fitting.{AddsRows, Fits}
use Rattle.instance_normal.proofs.Objectives.{filter-flat_map}
use Rattle.instance_normal.proofs.Within.{problem_within}
use Rattle.instance_normal.proofs.normal.normalise.Goals as goal

form_of : (i : InstanceValue) (old new : Draft) (os : List Objective) (costs : List CostRowValue) → os ≡ i.objectives → old.vars ≡ i.vars → AllZip IsRowOf (map Clause i.clauses ++ flat_map linear_sources i.linear) old.rows → AddsRows old new (flat_map (λ o. o.softs) os) → AllZip IsCostRowOf (cost_sources (old.vars + 1) os) costs → IsNormalFormOf i (record { vars = new.vars; rows = new.rows; costs = costs })
form_of i old new os costs same vars rows adds zipped =
    let relaxed : filter is_relaxed (flat_map (λ o. o.softs) os) ≡ relaxed_softs i = ap (λ (xs : List Objective). filter is_relaxed (flat_map (λ o. o.softs) xs)) same ∙ filter-flat_map i.objectives in
    record {
      vars = omega (arith, adds.vars, ap length relaxed, vars);
      rows = subst (λ (ss : List Soft). AllZip IsRowOf ((map Clause i.clauses ++ flat_map linear_sources i.linear) ++ relaxed_clauses (i.vars + 1) ss) new.rows) relaxed (subst (λ (n : ℕ). AllZip IsRowOf ((map Clause i.clauses ++ flat_map linear_sources i.linear) ++ relaxed_clauses (n + 1) (filter is_relaxed (flat_map (λ o. o.softs) os))) new.rows) vars (adds.rows (map Clause i.clauses ++ flat_map linear_sources i.linear) rows));
      costs = subst (λ (n : ℕ). AllZip IsCostRowOf (cost_sources (n + 1) i.objectives) costs) vars (subst (λ (xs : List Objective). AllZip IsCostRowOf (cost_sources (old.vars + 1) xs) costs) same zipped);
    }

pub from_parts-requires : goal.from_parts-requires
from_parts-requires c =
    let same : c.as_slice.result.now ≡ c.args.inst.now.objectives = c.as_slice.ensures ∙ ap (λ (i : InstanceValue). i.objectives) c.inst.view_is in
    let form = form_of c.args.inst.now c.in_ok-draft.draft c.add_objectives.new.draft c.as_slice.result.now c.in_ok-costs.costs same c.in_ok-draft.ensures.vars c.in_ok-draft.ensures.rows c.in_ok-costs.ensures.rows c.in_ok-costs.ensures.costs in
    let fits = c.in_ok-costs.ensures.rows.fits (subst (λ (n : ℕ). All (Fits n) c.in_ok-draft.draft.rows) (sym c.in_ok-draft.ensures.vars) c.in_ok-draft.ensures.fits) in
    problem_within c.args.inst.now (record { vars = c.add_objectives.new.draft.vars; rows = c.add_objectives.new.draft.rows; costs = c.in_ok-costs.costs }) c.in_ok-draft.ensures.limits form fits

pub returns : goal.returns
returns c =
    let same : c.as_slice.result.now ≡ c.args.inst.now.objectives = c.as_slice.ensures ∙ ap (λ (i : InstanceValue). i.objectives) c.inst.view_is in
    let form = form_of c.args.inst.now c.in_ok-draft.draft c.add_objectives.new.draft c.as_slice.result.now c.in_ok-costs.costs same c.in_ok-draft.ensures.vars c.in_ok-draft.ensures.rows c.in_ok-costs.ensures.rows c.in_ok-costs.ensures.costs in
    subst (IsNormalFormOf c.args.inst.now) (sym c.from_parts.ensures) form

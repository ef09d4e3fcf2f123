use Rattle.std.proofs.Common.{◌≡◌, ℕ, ◌+◌, ◌≤◌, List, [], ◌∷◌, ◌++◌, length, take, filter, sum_by, sym, ap, ◌∙◌, subst, append-nil, arith}
use Rattle.std.specs.List.{AllZip, flat_map}
use Rattle.std.proofs.lemmas.List.{take_more}
use Rattle.std.proofs.lemmas.List.Concat.{flat_map-append, length-flat_map}
use Rattle.std.proofs.lemmas.List.Elements.{All-weaker}
use Rattle.std.proofs.lemmas.List.Sums.{length-filter, count_by-le-length, sum_by_more_le}
use Rattle.std.proofs.lemmas.Slice.Zip.{all_zipped_more}
use Rattle.instance.specs.declared.objective.Objective.{Objective}
use Rattle.instance.specs.declared.objective.Soft.{Soft}
use Rattle.instance.specs.Shape.{ClauseUpTo, IsObjectiveWithin}
use Rattle.instance_normal.specs.NormalForm.{is_relaxed, IsCostRowOf, CostSource, cost_source, cost_sources}
use Rattle.instance_normal.specs.Fitting.{AddsRows}
use Rattle.instance_normal.proofs.Objectives.{adds_both, cost_sources-push}
use Rattle.instance_normal.proofs.objective.add_objectives.Goals as goal

abbrev softs_of : List Objective → List Soft
softs_of os = flat_map (λ o. o.softs) os

few : (os : List Objective) → length (filter is_relaxed (softs_of os)) ≤ sum_by (λ o. length o.softs) os
few os = omega (arith, length-filter is_relaxed (softs_of os), count_by-le-length is_relaxed (softs_of os), length-flat_map (λ (o : Objective). o.softs) os)

pub add_objective-requires-clause-clauses : goal.add_objective-requires-clause-clauses
add_objective-requires-clause-clauses c =
    let o : Objective = c.objective-item.result in
    let within : IsObjectiveWithin c.args.draft.now.vars o = subst (IsObjectiveWithin c.args.draft.now.vars) (sym c.objective-item.is) (c.requires.within c.loop-objective.objective-index o c.loop-objective-test.true) in
    All-weaker (λ (s : Soft). ClauseUpTo c.args.draft.now.vars s.lits) (λ (s : Soft). ClauseUpTo c.loop-objective.draft.vars s.lits) (λ s upto. All-weaker (λ l. l.var ≤ c.args.draft.now.vars) (λ l. l.var ≤ c.loop-objective.draft.vars) (λ l le. omega (arith, c.loop-objective.invariant.rows.vars)) s.lits upto) o.softs within.clauses

pub add_objective-requires-clause-magnitude : goal.add_objective-requires-clause-magnitude
add_objective-requires-clause-magnitude c =
    let o : Objective = c.objective-item.result in
    let within : IsObjectiveWithin c.args.draft.now.vars o = subst (IsObjectiveWithin c.args.draft.now.vars) (sym c.objective-item.is) (c.requires.within c.loop-objective.objective-index o c.loop-objective-test.true) in
    within.magnitude

pub add_objective-requires-clause-room : goal.add_objective-requires-clause-room
add_objective-requires-clause-room c =
    let o : Objective = c.objective-item.result in
    let more = sum_by_more_le (λ (x : Objective). length x.softs) c.args.objectives.now c.loop-objective.objective-index o c.loop-objective-test.true in
    let is = ap (λ (x : Objective). length x.softs) c.objective-item.is in
    omega (arith, few (take c.loop-objective.objective-index c.args.objectives.now), c.loop-objective.invariant.rows.vars, c.requires.room)

pub loop-objective-preserved : goal.loop-objective-preserved
loop-objective-preserved c =
    let o : Objective = c.objective-item.result in
    let done : List Objective = take c.loop-objective.objective-index c.args.objectives.now in
    let longer : take (c.loop-objective.objective-index + 1) c.args.objectives.now ≡ done ++ o ∷ [] = take_more c.args.objectives.now c.loop-objective.objective-index o c.loop-objective-test.true ∙ ap (λ (x : Objective). done ++ x ∷ []) (sym c.objective-item.is) in
    let softs : softs_of done ++ o.softs ≡ softs_of (take (c.loop-objective.objective-index + 1) c.args.objectives.now) = sym (ap softs_of longer ∙ flat_map-append (λ (x : Objective). x.softs) done (o ∷ []) ∙ ap (λ (ss : List Soft). softs_of done ++ ss) (append-nil o.softs)) in
    let next : c.loop-objective.draft.vars + 1 ≡ c.args.draft.now.vars + 1 + length (filter is_relaxed (softs_of done)) = omega (arith, c.loop-objective.invariant.rows.vars) in
    let source : CostSource = cost_source (c.args.draft.now.vars + 1 + length (filter is_relaxed (softs_of done))) o in
    record {
      rows = subst (AddsRows c.args.draft.now c.add_objective.new.draft) softs (adds_both c.args.draft.now c.loop-objective.draft c.add_objective.new.draft (softs_of done) o.softs c.loop-objective.invariant.rows c.in_ok-row.ensures.rows);
      costs =
          let row : IsCostRowOf source c.in_ok-row.row = subst (λ (v : ℕ). IsCostRowOf (cost_source v o) c.in_ok-row.row) next c.in_ok-row.ensures.row in
          subst (λ (ss : List CostSource). AllZip IsCostRowOf ss c.push.new.self) (sym (ap (cost_sources (c.args.draft.now.vars + 1)) longer ∙ cost_sources-push (c.args.draft.now.vars + 1) done o)) (subst (AllZip IsCostRowOf (cost_sources (c.args.draft.now.vars + 1) done ++ source ∷ [])) (sym c.in_ok-push.ensures.ok) (all_zipped_more IsCostRowOf (cost_sources (c.args.draft.now.vars + 1) done) c.loop-objective.costs source c.in_ok-row.row c.loop-objective.invariant.costs row));
    }

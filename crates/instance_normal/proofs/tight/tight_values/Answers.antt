use Rattle.std.proofs.Common.{◌≡◌, ℕ, ◌+◌, ◌<◌, ◌≤◌, not, List, [], ◌∷◌, ◌++◌, append_assoc, Bool, length, get_or, map, take, filter, ap, sym, ◌∙◌, subst}
use Rattle.std.specs.List.{flat_map}
use Rattle.std.proofs.lemmas.List.{take_all, take_more, map-append, flat_map_more}
use Rattle.instance.specs.declared.objective.Objective.{Objective}
use Rattle.instance.specs.declared.objective.Soft.{Soft}
use Rattle.instance.specs.Shape.{InstanceValue}
use Rattle.instance.specs.Meaning.{clause_true}
use Rattle.instance_normal.specs.NormalForm.{is_relaxed}
use Rattle.instance_normal.proofs.Tightening.{falsities_cut}
use Rattle.instance_normal.proofs.tight.tight_values.Goals as goal

-- what the soft clauses of one more objective add
one_more : (f : Soft → Bool) (base old new : List Bool) (objectives : List Objective) (i : ℕ) (o : Objective) → i < length objectives → o ≡ get_or objectives i o → old ≡ base ++ map f (flat_map (λ p. filter is_relaxed p.softs) (take i objectives)) → new ≡ old ++ map f (filter is_relaxed o.softs) → new ≡ base ++ map f (flat_map (λ p. filter is_relaxed p.softs) (take (i + 1) objectives))
one_more f base old new objectives i o short is before after =
    let softs : List Soft = flat_map (λ p. filter is_relaxed p.softs) (take i objectives) in
    let longer : take (i + 1) objectives ≡ take i objectives ++ o ∷ [] = take_more objectives i o short ∙ ap (λ (p : Objective). take i objectives ++ p ∷ []) (sym is) in
    after ∙ ap (λ (vs : List Bool). vs ++ map f (filter is_relaxed o.softs)) before
    ∙ append_assoc base (map f softs) (map f (filter is_relaxed o.softs))
    ∙ ap (λ (vs : List Bool). base ++ vs) (sym (map-append f softs (filter is_relaxed o.softs)))
    ∙ ap (λ (ss : List Soft). base ++ map f ss) (flat_map_more (λ (p : Objective). filter is_relaxed p.softs) [] (take i objectives) o)
    ∙ ap (λ (os : List Objective). base ++ map f (flat_map (λ p. filter is_relaxed p.softs) os)) (sym longer)

pub loop-objective-preserved : goal.loop-objective-preserved
loop-objective-preserved c =
    let same : c.as_slice-objective-items.result.now ≡ c.args.inst.now.objectives = c.as_slice-objective-items.ensures ∙ ap (λ (i : InstanceValue). i.objectives) c.inst.view_is in
    let f : Soft → Bool = λ s. not (clause_true c.args.a.now s.lits) in
    one_more f (take c.args.inst.now.vars c.args.a.now) c.loop-objective.values.items c.add_falsities.new.values.items c.args.inst.now.objectives c.loop-objective.objective-index c.objective-item.result
    (subst (λ (os : List Objective). c.loop-objective.objective-index < length os) same c.loop-objective-test.true)
    (c.objective-item.is ∙ ap (λ (os : List Objective). get_or os c.loop-objective.objective-index c.objective-item.result) same)
    c.loop-objective.invariant
    (c.in_ok-add_falsities.ensures ∙ ap (λ (ss : List Soft). c.loop-objective.values.items ++ map f (filter is_relaxed ss)) c.as_slice-in-loop-objective.ensures)

pub returns : goal.returns
returns c =
    let same : c.as_slice-objective-items.result.now ≡ c.args.inst.now.objectives = c.as_slice-objective-items.ensures ∙ ap (λ (i : InstanceValue). i.objectives) c.inst.view_is in
    let whole : take c.loop-objective.objective-index c.args.inst.now.objectives ≡ c.args.inst.now.objectives = take_all c.loop-objective.objective-index c.args.inst.now.objectives (subst (λ (os : List Objective). length os ≤ c.loop-objective.objective-index) same c.loop-objective-test.false) in
    c.loop-objective.invariant
    ∙ ap (λ (os : List Objective). take c.args.inst.now.vars c.args.a.now ++ map (λ s. not (clause_true c.args.a.now s.lits)) (flat_map (λ o. filter is_relaxed o.softs) os)) whole
    ∙ ap (λ (vs : List Bool). take c.args.inst.now.vars c.args.a.now ++ vs) (falsities_cut c.args.inst.now c.args.a.now c.vars.ensures.limits c.requires)

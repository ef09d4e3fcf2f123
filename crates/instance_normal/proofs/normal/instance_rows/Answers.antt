use Rattle.std.proofs.Common.{◌≡◌, ℕ, List, [], ◌++◌, map, sym, ap, ◌∙◌, subst}
use Rattle.std.specs.Prelude.{All}
use Rattle.std.specs.List.{AllZip, flat_map}
use Rattle.std.proofs.lemmas.List.Elements.{All-nil}
use Rattle.scut_base.specs.Literal.{Literal}
use Rattle.instance.specs.declared.row.Linear.{Linear}
use Rattle.instance.specs.Shape.{InstanceValue, ClauseUpTo, IsRowWithin}
use Rattle.instance_normal.specs.NormalForm.{Clause, IsRowOf, linear_sources}
use Rattle.instance_normal.specs.Fitting.{Fits}
use Rattle.instance_normal.proofs.normal.instance_rows.Goals as goal

pub returns-clause-rows : goal.returns-clause-rows
returns-clause-rows c =
    let clauses : c.inst.inside.clauses ≡ c.args.inst.now.clauses = ap (λ (i : InstanceValue). i.clauses) c.inst.view_is in
    let linear : c.as_slice.result.now ≡ c.args.inst.now.linear = c.as_slice.ensures ∙ ap (λ (i : InstanceValue). i.linear) c.inst.view_is in
    let none : AllZip IsRowOf [] c.new-rows.result = subst (AllZip IsRowOf []) (sym c.new-rows.ensures) tt in
    let rows = c.in_ok-add_linear.ensures.rows (map Clause c.inst.inside.clauses) (c.in_ok-add_clauses.ensures.rows [] none) in
    subst (λ (cs : List (List Literal)). AllZip IsRowOf (map Clause cs ++ flat_map linear_sources c.args.inst.now.linear) c.add_linear.new.rows) clauses (subst (λ (ls : List Linear). AllZip IsRowOf (map Clause c.inst.inside.clauses ++ flat_map linear_sources ls) c.add_linear.new.rows) linear rows)

pub returns-clause-fits : goal.returns-clause-fits
returns-clause-fits c =
    let n : ℕ = c.args.inst.now.vars in
    let clauses : c.inst.inside.clauses ≡ c.args.inst.now.clauses = ap (λ (i : InstanceValue). i.clauses) c.inst.view_is in
    let linear : c.as_slice.result.now ≡ c.args.inst.now.linear = c.as_slice.ensures ∙ ap (λ (i : InstanceValue). i.linear) c.inst.view_is in
    let none : All (Fits n) c.new-rows.result = subst (All (Fits n)) (sym c.new-rows.ensures) (All-nil (Fits n)) in
    c.in_ok-add_linear.ensures.fits n (subst (All (IsRowWithin n)) (sym linear) c.vars.ensures.limits.rows) (c.in_ok-add_clauses.ensures.fits n (subst (All (ClauseUpTo n)) (sym clauses) c.vars.ensures.limits.clauses) none)

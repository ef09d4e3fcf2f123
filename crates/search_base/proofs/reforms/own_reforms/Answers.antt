-- Each objective is taken over in its own terms.
use Rattle.std.proofs.Common.{◌≡◌, ◌+◌, ◌<◌, List, [], ◌∷◌, ◌++◌, length, take, get_or, ap, sym, subst, ◌∙◌, arith}
use Rattle.std.specs.List.{AllZip}
use Rattle.std.proofs.lemmas.List.{take_more, take_all}
use Rattle.std.proofs.lemmas.Slice.Zip.{all_zipped_more}
use Rattle.pb_lin.specs.CostRow.{CostRowValue}
use Rattle.totalizer.specs.Reforming.{IsOwnReform}
use Rattle.totalizer.specs.declared.reform.Reform.{Reform}
use Rattle.search_base.proofs.OwnReforms.{own_serve, own_weights}
use Rattle.search_base.proofs.reforms.own_reforms.Goals as goal

pub loop-row-preserved : goal.loop-row-preserved
loop-row-preserved c =
    let rows = c.args.problem.now.costs in
    let i = c.loop-row.row-index in
    let row = c.row-item.result in
    let r = c.in_ok-own_reform.field-0 in
    let items : length c.costs-row-items.result.now ≡ length rows = ap length c.costs-row-items.ensures in
    let short : i < length rows = omega (arith, items, c.loop-row-test.true) in
    let here : row ≡ get_or rows i row = c.row-item.is
    ∙ ap (λ (rs : List CostRowValue). get_or rs i row) c.costs-row-items.ensures in
    let more : take (i + 1) rows ≡ take i rows ++ row ∷ [] =
    take_more rows i row short ∙ ap (λ (q : CostRowValue). take i rows ++ q ∷ []) (sym here) in
    subst (λ (rs : List CostRowValue). AllZip IsOwnReform rs c.push.new.self.items) (sym more)
    (subst (λ (os : List Reform). AllZip IsOwnReform (take i rows ++ row ∷ []) os) (sym c.in_ok-push.ensures.items)
    (all_zipped_more IsOwnReform (take i rows) c.loop-row.reforms.items row r c.loop-row.invariant
    c.in_ok-own_reform.ensures))

pub returns-clause-weights : goal.returns-clause-weights
returns-clause-weights c =
    let rows = c.args.problem.now.costs in
    let items : length c.costs-row-items.result.now ≡ length rows = ap length c.costs-row-items.ensures in
    let all : take c.loop-row.row-index rows ≡ rows =
    take_all c.loop-row.row-index rows (omega (arith, items, c.loop-row-test.false)) in
    own_weights rows c.loop-row.reforms.items c.vars-vars.ensures.problem.cost_rows
    (subst (λ (rs : List CostRowValue). AllZip IsOwnReform rs c.loop-row.reforms.items) all c.loop-row.invariant)

pub returns-clause-serve : goal.returns-clause-serve
returns-clause-serve c =
    let rows = c.args.problem.now.costs in
    let items : length c.costs-row-items.result.now ≡ length rows = ap length c.costs-row-items.ensures in
    let all : take c.loop-row.row-index rows ≡ rows =
    take_all c.loop-row.row-index rows (omega (arith, items, c.loop-row-test.false)) in
    own_serve c.own_terms_serve.ensures c.args.problem.now c.loop-row.reforms.items c.vars-vars.ensures.problem
    (subst (λ (rs : List CostRowValue). AllZip IsOwnReform rs c.loop-row.reforms.items) all c.loop-row.invariant)

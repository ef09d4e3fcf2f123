-- The nodes of the children come first.
use Rattle.std.proofs.Common.{ℕ, List, length, take, drop, sym, subst, arith}
use Rattle.std.proofs.lemmas.Result.{IfOk-weaker}
use Rattle.scut_base.specs.Literal.{Literal}
use Rattle.sum_outputs.specs.Totals.{AreWeights}
use Rattle.sum_outputs.specs.Tree.{IsGrown}
use Rattle.sum_outputs.proofs.TreeLists.{grown_by_leaf, grown_by_inner, second_weights, rest_is, rest_size, half_is}
use Rattle.sum_outputs.proofs.node.+push_nodes.Goals as goal

pub returns-then-terms-eq1 : goal.returns-then-terms-eq1
returns-then-terms-eq1 t c = IfOk-weaker c.push_node.result _ (IsGrown c.args.nodes.now c.push_node.new.nodes c.args.terms.now)
    (λ at is. grown_by_leaf c.args.nodes.now c.push_node.new.nodes c.args.terms.now at c.requires.tree c.requires.weights c.if-terms-eq1.true is.0 is.1) c.push_node.ensures

pub push_nodes-requires-2 : goal.push_nodes-requires-2
push_nodes-requires-2 t c =
    let h = c.div_ceil-half.result in
    let half = half_is (length c.args.terms.now) h c.div_ceil-half.ensures in
    let some = c.requires.some in
    let more = c.if-terms-eq1.false in
    let size = rest_size c.args.terms.now h in
    let whole = c.decreases in
    (omega (arith, whole, size, half), (c.in_ok-first.ensures.tree, (subst (λ (ts : List (Literal × ℕ)). AreWeights ts) (sym (rest_is c.args.terms.now h)) (second_weights c.args.terms.now h c.requires.weights), omega (arith, size, half))))

pub returns : goal.returns
returns t c = IfOk-weaker c.push_node-2.result _ (IsGrown c.args.nodes.now c.push_node-2.new.nodes c.args.terms.now)
    (λ at is. grown_by_inner c.args.nodes.now c.push_nodes.new.nodes c.push_nodes-2.new.nodes c.push_node-2.new.nodes c.args.terms.now c.in_ok-first.first c.in_ok-second.second at c.requires.weights (let some = c.requires.some in let more = c.if-terms-eq1.false in omega arith)
    (subst (λ (n : ℕ). IsGrown c.args.nodes.now c.push_nodes.new.nodes (take n c.args.terms.now) c.in_ok-first.first) (half_is (length c.args.terms.now) c.div_ceil-half.result c.div_ceil-half.ensures) c.in_ok-first.ensures)
    (subst (λ (n : ℕ). IsGrown c.push_nodes.new.nodes c.push_nodes-2.new.nodes (drop n c.args.terms.now) c.in_ok-second.second) (half_is (length c.args.terms.now) c.div_ceil-half.result c.div_ceil-half.ensures)
    (subst (λ (ts : List (Literal × ℕ)). IsGrown c.push_nodes.new.nodes c.push_nodes-2.new.nodes ts c.in_ok-second.second) (rest_is c.args.terms.now c.div_ceil-half.result) c.in_ok-second.ensures))
    is.0 is.1) c.push_node-2.ensures

-- The node's terms are those of its children, as the tree says.
use Rattle.std.proofs.Common.{◌≡◌, ◌++◌, get_or, ap, sym, ◌∙◌}
use Rattle.pb_lin.specs.Constraint.{total}
use Rattle.cutting_planes.proofs.Terms.{Terms}
use Rattle.sum_outputs.specs.declared.node.Node.{Node}
use Rattle.sum_outputs.proofs.MadeLists.{inner_of, terms_divide}
use Rattle.sum_outputs.proofs.inner.Inner.of.Goals as goal

pub invariant_of-result : goal.invariant_of-result
invariant_of-result c =
    let nodes = c.args.nodes.now in
    let at = c.args.at in
    let x = c.index-nodes-at.result in
    let is = c.index-nodes-at.is in
    let q = c.requires in
    let inner = inner_of nodes q.tree at x q.at (q.long x) in
    let terms : c.as_slice.result.now ≡ (get_or nodes at x).terms = c.as_slice.ensures ∙ ap (λ (n : Node). n.terms) is in
    let first : c.child_at.result.terms.now ≡ (get_or nodes (get_or nodes at x).first x).terms = c.child_at.ensures.terms x ∙ ap (λ (n : Node). (get_or nodes n.first x).terms) is in
    let second : c.child_at-2.result.terms.now ≡ (get_or nodes (get_or nodes at x).second x).terms = c.child_at-2.ensures.terms x ∙ ap (λ (n : Node). (get_or nodes n.second x).terms) is in
    record {
      joined = terms ∙ terms_divide nodes q.tree at x x q.at inner
          ∙ ap (λ (ts : Terms). ts ++ (get_or nodes (get_or nodes at x).second x).terms) (sym first)
          ∙ ap (λ (ts : Terms). c.child_at.result.terms.now ++ ts) (sym second);
      total = ap (λ (n : Node). n.total) is ∙ (q.tree at x q.at).all ∙ ap total (sym terms);
    }

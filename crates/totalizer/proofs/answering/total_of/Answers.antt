-- The last node has all terms.
use Rattle.std.proofs.Common.{◌≡◌, ◌-◌, length, get_or, ap, sym, ◌∙◌, arith}
use Rattle.std.proofs.lemmas.Option.{get_or_from_slice_get, slice_get_within}
use Rattle.pb_lin.specs.Constraint.{total}
use Rattle.sum_outputs.specs.declared.node.Node.{Node}
use Rattle.totalizer.proofs.Roots.{root_is}
use Rattle.totalizer.proofs.answering.total_of.Goals as goal

pub returns-in-Some : goal.returns-in-Some
returns-in-Some c =
    let nodes = c.args.nodes.now in
    let root = c.in-Some.root.now in
    let found = sym c.in-Some.ensures.value in
    let short = slice_get_within nodes (length nodes - 1) root found in
    let last = length nodes - 1 in
    let is : get_or nodes last root ≡ root = get_or_from_slice_get nodes last root root found in
    sym (ap (λ (n : Node). n.total) is) ∙ (c.requires (length nodes - 1) root short).all
    ∙ ap total (sym (root_is nodes root (omega arith)))

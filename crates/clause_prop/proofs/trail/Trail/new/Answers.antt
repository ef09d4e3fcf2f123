use Rattle.std.proofs.Common.{rules, arith, length, ◌≡◌, ◌≤◌, Option, Bool, None, List, replicate, subst, sym}
use Rattle.clause_prop.specs.Tables.{AreTables}
use Rattle.clause_prop.specs.Truths.{AreTruths}
use Rattle.clause_prop.specs.declared.truth.Truth.TheVariants.{Open}
use Rattle.clause_prop.proofs.TruthTable.{tables_none, truths_none}
use Rattle.clause_prop.proofs.trail.Trail.new.Goals as goal

pub invariant_of-result : goal.invariant_of-result
invariant_of-result c =
    let values : c.in_ok-vec.field-0.items ≡ replicate c.args.vars None = search rules in
    let truths : c.in_ok-vec-2.field-0.items ≡ replicate c.in_ok-codes.codes Open = search rules in
    let room : c.args.vars ≤ length c.in_ok-vec-4.field-0.items = omega (arith, c.in_ok-vec-4.ensures.len) in
    let placed : c.args.vars ≤ length c.in_ok-vec-3.field-0.items = omega (arith, c.in_ok-vec-3.ensures.len) in
    (subst (λ (v : List (Option Bool)). AreTables v c.in_ok-vec-3.field-0.items c.in_ok-vec-4.field-0.items 0) (sym values) (tables_none c.args.vars c.in_ok-vec-3.field-0.items c.in_ok-vec-4.field-0.items placed room), subst (λ (v : List (Option Bool)). AreTruths v c.in_ok-vec-2.field-0.items) (sym values) (subst (AreTruths (replicate c.args.vars None)) (sym truths) (truths_none c.args.vars c.in_ok-codes.codes (omega (arith, c.in_ok-codes.ensures)))))

use Rattle.std.specs.Prelude.{ℕ, ◌≤◌}
use Rattle.std.proofs.lemmas.List.Elements.{All-map}
use Rattle.scut_base.specs.Literal.{Literal}
use Rattle.pb_lin.specs.Constraint.{literals}
use Rattle.cdcl_state.proofs.Marking.{read_one}
use Rattle.cdcl_state.proofs.implied.Implied.read.Goals as goal

pub verdict-verdict-requires-clause-upto : goal.verdict-verdict-requires-clause-upto
verdict-verdict-requires-clause-upto c =
    read_one (λ l. l.var ≤ c.args.trail.now.vars) (literals c.args.line.now.terms) c.literals-lits.result.now c.loop-done.done c.index-lits-done.result
    (All-map (λ (l : Literal). l.var ≤ c.args.trail.now.vars) (λ (t : Literal × ℕ). t.0) c.args.line.now.terms c.requires.upto)
    c.literals-lits.ensures.value c.loop-done-test.true c.index-lits-done.is

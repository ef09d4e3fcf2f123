use Rattle.std.specs.Prelude.{ℕ, ◌<◌, ◌≤◌}
use Rattle.std.proofs.Common.{◌∙◌, arith}
use Rattle.std.proofs.lemmas.List.Elements.{All-map}
use Rattle.scut_base.specs.Literal.{Literal}
use Rattle.pb_lin.specs.Constraint.{literals}
use Rattle.cdcl_state.proofs.Listed.{longer_more}
use Rattle.cdcl_state.proofs.Marking.{marked_step, marked_all, read_one}
use Rattle.cdcl_state.proofs.marks.Marks.mark_all.Goals as goal

pub mark-requires-clause-from_one : goal.mark-requires-clause-from_one
mark-requires-clause-from_one c =
    read_one (λ l. 0 < l.var) (literals c.args.line.now.terms) c.literals-lit-items.result.now c.loop-lit.lit-index c.lit-item.result
    (All-map (λ (l : Literal). 0 < l.var) (λ (t : Literal × ℕ). t.0) c.args.line.now.terms c.literals-lit-items.ensures.normal.merged.from_one)
    c.literals-lit-items.ensures.value c.loop-lit-test.true c.lit-item.is

pub mark-requires-clause-upto : goal.mark-requires-clause-upto
mark-requires-clause-upto c =
    read_one (λ l. l.var ≤ c.args.trail.now.vars) (literals c.args.line.now.terms) c.literals-lit-items.result.now c.loop-lit.lit-index c.lit-item.result
    (All-map (λ (l : Literal). l.var ≤ c.args.trail.now.vars) (λ (t : Literal × ℕ). t.0) c.args.line.now.terms c.requires.upto)
    c.literals-lit-items.ensures.value c.loop-lit-test.true c.lit-item.is

pub loop-lit-preserved : goal.loop-lit-preserved
loop-lit-preserved c =
    let done = c.in_ok-mark.ensures in
    record {
      walk = done.walk;
      longer = longer_more c.args.self.now.places c.loop-lit.self.places c.mark.new.self.places c.loop-lit.invariant.longer done.longer;
      more = λ p on. done.more p (c.loop-lit.invariant.more p on);
      room = done.room ∙ c.loop-lit.invariant.room;
      falls = omega (arith, done.falls, c.loop-lit.invariant.falls);
      stays = λ free. done.stays free ∙ c.loop-lit.invariant.stays free;
      marked = marked_step c.args.trail.now c.loop-lit.self.on.items c.mark.new.self.on.items c.args.end (literals c.args.line.now.terms) c.literals-lit-items.result.now c.loop-lit.lit-index c.lit-item.result c.literals-lit-items.ensures.value c.loop-lit-test.true c.lit-item.is done.more c.loop-lit.invariant.marked done.marked;
    }

pub returns-clause-marked : goal.returns-clause-marked
returns-clause-marked c =
    marked_all c.args.trail.now c.loop-lit.self.on.items c.args.end (literals c.args.line.now.terms) c.literals-lit-items.result.now c.loop-lit.lit-index c.literals-lit-items.ensures.value c.loop-lit-test.false c.loop-lit.invariant.marked

pub returns-in_err-mark-clause-longer : goal.returns-in_err-mark-clause-longer
returns-in_err-mark-clause-longer c = longer_more c.args.self.now.places c.loop-lit.self.places c.mark.new.self.places c.loop-lit.invariant.longer c.in_err-mark.ensures.longer

use Rattle.std.proofs.Common.{ap}
use Rattle.std.proofs.lemmas.Result.{on_ok_weaker}
use Rattle.mopb_reader.specs.FirstFault.{step}
use Rattle.mopb_reader.specs.Steps.{fault_after}
use Rattle.mopb_reader.specs.Drafts.{progress_of}
use Rattle.mopb_reader.specs.declared.token.Token.{Token}
use Rattle.mopb_reader.proofs.Places.{step_other}
use Rattle.mopb_reader.proofs.Findings.{found_along}
use Rattle.mopb_reader.proofs.Drafts.{objective_adds, row_adds}
use Rattle.mopb_reader.proofs.draft.add_statement.Goals as goal

pub returns-in-Head : goal.returns-in-Head
returns-in-Head c = record {
  ok = on_ok_weaker c.add_objective.result (objective_adds c.args.first c.in-Head.sense c.args.tokens.now c.add_objective.new.tokens
      c.args.draft.now c.add_objective.new.draft c.in-Head.is) c.add_objective.ensures.ok;
  fewer = c.add_objective.ensures.fewer;
  fault = found_along _ _ c.add_objective.result c.add_objective.new.tokens _ (ap (λ (t : Token). fault_after c.args.tokens.now
      (step (progress_of c.args.draft.now) t)) c.in-Head.is) c.add_objective.ensures.fault;
}

pub returns-in_default : goal.returns-in_default
returns-in_default c = record {
  ok = on_ok_weaker c.add_row.result (row_adds c.args.first c.args.tokens.now c.add_row.new.tokens c.args.draft.now c.add_row.new.draft)
      c.add_row.ensures.ok;
  fewer = c.add_row.ensures.fewer;
  fault = found_along _ _ c.add_row.result c.add_row.new.tokens _ (ap (fault_after c.args.tokens.now)
      (step_other (progress_of c.args.draft.now) c.args.first c.in_default.not-Head)) c.add_row.ensures.fault;
}

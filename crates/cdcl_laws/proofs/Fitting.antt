-- The state that lines reach fits its problem, whatever the lines are.
use Rattle.std.proofs.Common.{◌≡◌, ℕ, ◌+◌, ◌<◌, None, List, [], ◌∷◌, length, arith, sym, subst}
use Rattle.std.proofs.lemmas.List.{length-map}
use Rattle.std.proofs.lemmas.List.Elements.{All-push}
use Rattle.scut_base.specs.Literal.{Literal}
use Rattle.pb_lin.specs.Constraint.{ConstraintValue}
use Rattle.pb_lin.specs.CostRow.{row_cost}
use Rattle.pb_lin.specs.Problem.{ProblemValue, problem_costs}
use Rattle.proof_laws.specs.State.{StateValue, Fits, start}
use Rattle.proof_laws.specs.Steps.{with_line, with_learned, with_definition, with_solution, without_lines, with_live, with_end, clause, reached_if, reached_only_if}
use Rattle.proof_laws.specs.Refusal.{assignment_of, deletion_fault}
use Rattle.proof_laws.specs.Legal.{IsNext}
use Rattle.proof_laws.specs.Replay.{Leads, IsReplay}
use Rattle.proof_laws.specs.declared.line.Line.{Line}
use Rattle.proof_laws.specs.declared.line.Line.TheVariants.{Pol, Rup, Learn, Def, Red, Dom, Sol, Del, Reduce, End}
use Rattle.proof_laws.proofs.KeptWithin.{insert_rows_live}
use Rattle.proof_laws.proofs.NextCovers.{legal_parts}
use Rattle.proof_laws.proofs.NextFits.{start_fits_problem}
use Rattle.proof_laws.proofs.NextStates.{fewer_rows, deletions_above}

-- the state fits, and new lines get ids above those of the rows
record FitsBelow (p : ProblemValue) (s : StateValue) : Type 0 where
  pub fits : Fits p s
  pub below : length p.rows < s.next_id

module _ (p : ProblemValue) (s : StateValue) (old : FitsBelow p s) where
  line_fits : (c : ConstraintValue) → FitsBelow p (with_line s c)
  line_fits c = record {
    fits = record { rows = insert_rows_live p s s.next_id c old.below old.fits.rows; vars = old.fits.vars; sols = old.fits.sols };
    below = omega (arith, old.below);
  }

  learned_fits : (c : ConstraintValue) → FitsBelow p (with_learned s c)
  learned_fits c = let line = line_fits c in record {
    fits = record { rows = line.fits.rows; vars = line.fits.vars; sols = line.fits.sols };
    below = line.below;
  }

  definition_fits : (sum : ConstraintValue) → FitsBelow p (with_definition s sum)
  definition_fits sum = record {
    fits = record {
      rows = insert_rows_live p (with_live s s.next_id (reached_if (s.vars + 1) sum)) (s.next_id + 1) (reached_only_if (s.vars + 1) sum) (omega (arith, old.below)) (insert_rows_live p s s.next_id (reached_if (s.vars + 1) sum) old.below old.fits.rows);
      vars = omega (arith, old.fits.vars);
      sols = old.fits.sols;
    };
    below = omega (arith, old.below);
  }

  solution_fits : (cut : List Literal) (model : List Literal) → FitsBelow p (with_solution s cut (problem_costs p (assignment_of model)))
  solution_fits cut model = let line = line_fits (clause cut) in let costs = problem_costs p (assignment_of model) in record {
    fits = record {
      rows = line.fits.rows;
      vars = line.fits.vars;
      sols = All-push (λ v. length v ≡ length p.costs) s.sols costs old.fits.sols (length-map p.costs (row_cost (assignment_of model)));
    };
    below = line.below;
  }

  fewer_fits : (ids : List ℕ) → None ≡ deletion_fault p s ids → FitsBelow p (without_lines s ids)
  fewer_fits ids none = record {
    fits = record { rows = fewer_rows p s ids (deletions_above p s ids (sym none)) old.fits.rows; vars = old.fits.vars; sols = old.fits.sols };
    below = omega (arith, old.below);
  }

  end_fits : FitsBelow p (with_end s)
  end_fits = record {
    fits = record { rows = old.fits.rows; vars = old.fits.vars; sols = old.fits.sols };
    below = omega (arith, old.below);
  }

  next_fits : (line : Line) (t : StateValue) → IsNext p s line t → FitsBelow p t
  next_fits (Pol tokens) t next = subst (FitsBelow p) (sym next.makes.2) (line_fits next.makes.0)
  next_fits (Rup goal hints) t next = subst (FitsBelow p) (sym next.makes) (line_fits goal)
  next_fits (Learn goal hints) t next = subst (FitsBelow p) (sym next.makes) (learned_fits goal)
  next_fits (Def var sum) t next = subst (FitsBelow p) (sym next.makes) (definition_fits sum)
  next_fits (Red goal w proofs) t next = subst (FitsBelow p) (sym next.makes) (line_fits goal)
  next_fits (Dom goal w proofs) t next = subst (FitsBelow p) (sym next.makes) (line_fits goal)
  next_fits (Sol model cut ids) t next = subst (FitsBelow p) (sym next.makes) (solution_fits cut model)
  next_fits (Del ids) t next = subst (FitsBelow p) (sym next.makes) (fewer_fits ids (legal_parts p s (Del ids) next.legal).rule)
  next_fits (Reduce ids) t next = subst (FitsBelow p) (sym next.makes) (fewer_fits ids (legal_parts p s (Reduce ids) next.legal).rule)
  next_fits (End id) t next = subst (FitsBelow p) (sym next.makes) end_fits

leads_fits : (p : ProblemValue) (lines : List Line) (s t : StateValue) → FitsBelow p s → Leads p s lines t → FitsBelow p t
leads_fits p [] s t old leads = subst (FitsBelow p) (sym leads) old
leads_fits p (line ∷ lines) s t old leads = leads_fits p lines leads.0 t (next_fits p s old line leads.0 leads.1) leads.2

pub fits_law : (p : ProblemValue) (lines : List Line) (s : StateValue) → IsReplay p lines s → Fits p s
fits_law p lines s replay = (leads_fits p lines (start p) s (record { fits = start_fits_problem p; below = omega arith }) replay).fits

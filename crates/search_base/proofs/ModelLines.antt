-- A line that logs a model.
use Rattle.std.proofs.Common.{◌≡◌, ◌≤◌, ℕ, Bool, true, false, List, [], ◌∷◌, ◌++◌, map, Result, Ok, Err, sym, ap, ◌∙◌, subst}
use Rattle.std.specs.Prelude.{IfOk, MatchBool, OnErr}
use Rattle.scut_base.specs.Literal.{Literal}
use Rattle.proof_laws.specs.Refusal.{literals_at}
use Rattle.proof_laws.specs.declared.line.Line.{Line}
use Rattle.proof_laws.specs.declared.line.Line.TheVariants.{Sol}
use Rattle.proof_rules.specs.Recording.{KeepsRecorder, Snapshot, KeepsSurroundings}
use Rattle.proof_rules.specs.declared.recorder.RecordFault.{RecordFault}
use Rattle.sum_outputs.specs.Adding.{Continues}
use Rattle.totalizer.specs.declared.bound.Bound.{Bound}
use Rattle.search_base.specs.Logged.{AddsTurnLines, IsTurnLine}
use Rattle.search_base.specs.Cutting.{IsModelLine, answered_line}
use Rattle.search_base.specs.Good.{GoesOn}
use Rattle.search_base.specs.Pending.{AddsLine, MayNotAdd}
use Rattle.search_base.proofs.Places.{only_place}
use Rattle.search_base.proofs.TurnLines.{no_line, totalizer_lines}

-- ---- what goes on

-- the lines of a totalizer
pub totalizer_goes_on : (a b : Snapshot) → Continues a b → GoesOn a b
totalizer_goes_on a b on =
    record {
      problem = on.problem;
      limit = on.limit;
      later = on.later;
      around = on.around;
      lines = totalizer_lines a b
          on;
    }

module _ (a b : Snapshot) (problem : b.problem ≡ a.problem) (limit : b.limit ≡ a.limit) (later : a.faults ≤ b.faults)
    (around : KeepsSurroundings a.around b.around) where
  -- nothing was added
  pub same_goes_on : b.lines ≡ a.lines → GoesOn a b
  same_goes_on same = record {
    problem = problem;
    limit = limit;
    later = later;
    around = around;
    lines = subst (λ (ls : List Line). AddsTurnLines a.problem a.lines ls) (sym same) (no_line a.problem a.lines);
  }

  -- a line that logs was added
  pub sol_goes_on : (model cut : List Literal) (ids : List ℕ) → b.lines ≡ a.lines ++ Sol model cut ids ∷ [] → GoesOn a b
  sol_goes_on model cut ids lines = record {
    problem = problem;
    limit = limit;
    later = later;
    around = around;
    lines = record {
      more = Sol model cut ids ∷ [];
      is = lines;
      kinds = λ first other after e.
          let only = only_place first after (Sol model cut ids) other e in
          subst (λ (l : Line). IsTurnLine a.problem (a.lines ++ first) l) only.0 tt;
    };
  }

  -- the line was added
  pub model_goes_on : (x : List Bool) (answers : List Bound) (line : Line) → IsModelLine x answers line →
      b.lines ≡ a.lines ++ line ∷ [] → GoesOn a b
  model_goes_on x answers line is lines = sol_goes_on (literals_at 1 x) is.cut (map answered_line answers)
      (lines ∙ ap (λ (l : Line). a.lines ++ l ∷ []) is.is)

-- a line that logs was judged, and added where it is legal
pub judged_goes_on : (a b : Snapshot) (line : Line) (model cut : List Literal) (ids : List ℕ)
    (result : Result Bool RecordFault) → line ≡ Sol model cut ids → KeepsRecorder a b →
    IfOk result (λ added. MatchBool added (AddsLine a b line) (MayNotAdd a line × (b ≡ a))) →
    OnErr result (b.lines ≡ a.lines) → GoesOn a b
judged_goes_on a b line model cut ids (Ok true) is keeps adds kept =
    sol_goes_on a b keeps.problem keeps.limit keeps.later keeps.around model cut ids
    (adds.lines ∙ ap (λ (l : Line). a.lines ++ l ∷ []) is)
judged_goes_on a b line model cut ids (Ok false) is keeps adds kept =
    same_goes_on a b keeps.problem keeps.limit keeps.later keeps.around (ap (λ (c : Snapshot). c.lines) adds.1)
judged_goes_on a b line model cut ids (Err f) is keeps adds kept =
    same_goes_on a b keeps.problem keeps.limit keeps.later keeps.around kept

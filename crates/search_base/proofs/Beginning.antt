-- Lines that log nothing lead to a good state, and a new proof has such lines.
use Rattle.std.proofs.Common.{◌≡◌, ℕ, Option, None, Some, List, [], ap, refl, sym, subst, arith, ℤ}
use Rattle.std.specs.List.{Contains}
use Rattle.scut_base.proofs.Lists.{Contains-nil}
use Rattle.pb_lin.specs.Problem.{ProblemValue}
use Rattle.proof_laws.specs.State.{StateValue, start}
use Rattle.proof_laws.specs.Replay.{IsReplay}
use Rattle.proof_laws.specs.Earned.{IsEarned}
use Rattle.proof_laws.specs.declared.line.Line.{Line}
use Rattle.proof_laws.specs.declared.line.Line.TheVariants.{Learn, Del, Reduce}
use Rattle.oracle.specs.Solving.{AreEarned, IsWithin}
use Rattle.search_base.specs.Logged.{logged}
use Rattle.search_base.specs.Boards.{IsBoard}
use Rattle.search_base.specs.Laws.{BeginningIsGood, NoLinesArePrepared}
use Rattle.search_base.proofs.Places.{not_empty}

nothing_earned : (p : ProblemValue) → IsEarned p [] 0
nothing_earned p = record {
  replays = (start p, refl);
  learned = refl;
  new = λ before goal hints after s splits replay. absurd (not_empty before after (Learn goal hints) splits);
  kept = λ before ids after splits. absurd (not_empty before after (Del ids) splits);
  reductions = λ before ids after splits. absurd (not_empty before after (Reduce ids) splits);
}

nothing_spent : (p : ProblemValue) (limit : Option ℕ) → IsWithin limit p []
nothing_spent p None = tt
nothing_spent p (Some limit) = λ s replay. let none : s.learned ≡ 0 = ap (λ (t : StateValue). t.learned) replay in
    omega arith

-- a new proof has no line, and so is prepared
pub no_lines_law : NoLinesArePrepared
no_lines_law a s is_problem none whole reached =
    let first : IsReplay a.problem [] s = subst (λ (ls : List Line). IsReplay a.problem ls s) none reached in
    record {
      ready = record { whole = whole; state = s; reached = reached; unended = ap (λ (t : StateValue). t.ended) first };
      none = ap (logged a.problem) none;
      earned = subst (λ (ls : List Line). AreEarned a.problem ls) (sym none) (0, nothing_earned a.problem);
      within = subst (λ (ls : List Line). IsWithin a.limit a.problem ls) (sym none) (nothing_spent a.problem a.limit);
    }

pub beginning_law : BeginningIsGood
beginning_law a bounds board prepared same is_board fit = record {
  ready = prepared.ready;
  problem = same;
  board = subst (IsBoard board) (sym prepared.none) is_board;
  bounds = fit;
  earned = prepared.earned;
  within = prepared.within;
  new = λ t after x rows hold covered.
      Contains-nil covered.0 (subst (λ (vs : List (List ℤ)). Contains vs covered.0) prepared.none covered.1);
}

-- A proof without lines may begin.
use Rattle.std.proofs.Common.{◌≡◌, false, List, [], refl, subst, sym}
use Rattle.pb_lin.specs.Problem.{IsProblem, ProblemValue}
use Rattle.proof_laws.specs.Replay.{IsReplay}
use Rattle.proof_laws.specs.State.{start}
use Rattle.proof_laws.specs.declared.line.Line.{Line}
use Rattle.proof_rules.specs.Recording.{Snapshot}
use Rattle.search_base.specs.Laws.{IsPrepared, NoLinesArePrepared}

pub begins_prepared : (a : Snapshot) (p : ProblemValue) → NoLinesArePrepared → IsProblem p → a.problem ≡ p → a.lines ≡ []
    → a.broken ≡ false → IsPrepared a
begins_prepared a p law problem same none whole =
    let reached = subst (λ (ls : List Line). IsReplay a.problem ls (start a.problem)) (sym none) refl in
    law a (start a.problem) (subst IsProblem (sym same) problem) none whole reached

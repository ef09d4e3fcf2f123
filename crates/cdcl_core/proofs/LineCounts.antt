-- A state counts its lines.
use Rattle.std.proofs.Common.{◌≡◌, ◌^◌, ◌≤◌, List, length, arith}
use Rattle.pb_lin.specs.Problem.{ProblemValue}
use Rattle.proof_laws.specs.State.{StateValue, IsState}
use Rattle.proof_laws.specs.Replay.{IsReplay}
use Rattle.proof_laws.specs.declared.line.Line.{Line}
use Rattle.proof_laws.proofs.Replays.{replay_lines}

-- a state that is full has as many lines as a proof may have
pub full_lines : (p : ProblemValue) (lines : List Line) (s : StateValue) → IsReplay p lines s → IsState s → 2 ^ 61 ≤ s.lines → length lines ≡ 2 ^ 61
full_lines p lines s replay is full =
    let count = replay_lines p lines s replay in
    let most = is.lines in
    omega (arith, count, most, full)

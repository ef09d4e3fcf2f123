use Rattle.std.proofs.Common.{subst, sym, ◌∙◌}
use Rattle.proof_laws.specs.Legal.{IsLegal}
use Rattle.proof_rules.specs.Recording.{MayBeAdded}
use Rattle.proof_text.specs.Recorders.{MemoryLog}
use Rattle.proof_text.proofs.Replaying.{legal_here}
use Rattle.proof_text.proofs.mem_recorder.MemRecorderRecorder.add_line.Goals as goal

pub keep_line-requires-clause-legal : goal.keep_line-requires-clause-legal
keep_line-requires-clause-legal c =
    let s = c.self.inside in
    let may : MayBeAdded s.problem s.lines c.args.line.now = rw (← c.self.view_is) at c.requires.legal in
    let here : IsLegal s.problem s.state c.args.line.now = legal_here s.problem s.lines s.state c.args.line.now c.if-is_full.ensures.state c.self.invariant.replay c.if-is_full.ensures.full may in
    let legal : IsLegal c.args.self.now.problem c.args.self.now.state c.args.line.now = rw (← c.self.view_is) here in
    subst (λ (v : MemoryLog). IsLegal v.problem v.state c.args.line.now) (sym (c.self-2.view_is ∙ c.count_call.ensures.counted)) legal

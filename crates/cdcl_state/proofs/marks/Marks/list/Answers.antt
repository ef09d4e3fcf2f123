use Rattle.std.specs.Prelude.{ℕ, List, true}
use Rattle.std.proofs.Common.{sym, ◌∙◌, subst, set, arith}
use Rattle.cdcl_state.specs.Walking.{AreMarks}
use Rattle.cdcl_state.proofs.Marking.{are_marked, mark_read}
use Rattle.cdcl_state.proofs.marks.Marks.list.Goals as goal

pub returns-in_ok-push-clause-are : goal.returns-in_ok-push-clause-are
returns-in_ok-push-clause-are c n are room within =
    let marks = c.args.self.now.seen.items in
    let off = mark_read marks c.args.place c.index.result.now (omega (arith, within, room)) c.index.ensures ∙ c.if-not-index.true in
    subst (λ (ps : List ℕ). AreMarks n (set marks c.args.place true) ps) (sym (c.in_ok-push.ensures).ok) (are_marked n marks c.args.self.now.places c.args.place are room within off)

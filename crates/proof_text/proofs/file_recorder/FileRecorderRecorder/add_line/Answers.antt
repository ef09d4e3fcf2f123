use Rattle.std.proofs.Common.{◌≡◌, ◌++◌, ◌∷◌, [], false, sym, ◌∙◌, rules}
use Rattle.proof_laws.specs.Legal.{IsLegal}
use Rattle.proof_rules.specs.Recording.{MayBeAdded}
use Rattle.proof_text.specs.Versions.{after_lines, first_of}
use Rattle.proof_text.specs.Recorders.{IsHeld}
use Rattle.proof_text.proofs.Replaying.{legal_here, next_of, spelled_here}
use Rattle.proof_text.proofs.LogFiles.{held_more, held_partly}
use Rattle.proof_text.proofs.file_recorder.FileRecorderRecorder.add_line.Goals as goal

pub commit-written-requires-clause-legal : goal.commit-written-requires-clause-legal
commit-written-requires-clause-legal g c =
    let s = c.self.inside in
    let may : MayBeAdded s.problem.now s.lines c.args.line.now = rw (← c.self.view_is) at c.requires.legal in
    legal_here s.problem.now s.lines s.state c.args.line.now c.if-is_full.ensures.state c.self.invariant.kept.replay c.if-is_full.ensures.full may

pub invariant_of-self-in-Ok : goal.invariant_of-self-in-Ok
invariant_of-self-in-Ok g c =
    let s = c.self.inside in
    let whole : s.broken ≡ false = search rules in
    let pushed : c.push_copy.new.self ≡ s.lines ++ c.args.line.now ∷ [] = search rules in
    let held : IsHeld (g.H.Shelf.world s.shelf.now).files s.name.now s.problem.now s.version s.lines s.state false = rw whole at c.self.invariant in
    rw (pushed, whole) (held_more _ _ _ _ _ _ _ _ _ held c.if-is_full.ensures.state c.requires.formed (rw c.spelling_at-spelling.ensures at c.in-Ok.ensures.written) c.in-Ok.ensures.next c.in-Ok.ensures.fits)

pub invariant_of-self-in-Err : goal.invariant_of-self-in-Err
invariant_of-self-in-Err g c =
    let s = c.self.inside in
    let whole : s.broken ≡ false = search rules in
    let pushed : c.push_copy.new.self ≡ s.lines ++ c.args.line.now ∷ [] = search rules in
    let held : IsHeld (g.H.Shelf.world s.shelf.now).files s.name.now s.problem.now s.version s.lines s.state false = rw whole at c.self.invariant in
    let may : MayBeAdded s.problem.now s.lines c.args.line.now = rw (← c.self.view_is) at c.requires.legal in
    let legal : IsLegal s.problem.now s.state c.args.line.now = legal_here s.problem.now s.lines s.state c.args.line.now c.if-is_full.ensures.state c.self.invariant.kept.replay c.if-is_full.ensures.full may in
    rw (c.pop_last.ensures s.lines c.args.line.now pushed, c.in-Err.ensures.same) (held_partly _ _ _ _ _ _ _ _ held c.requires.formed legal (rw c.spelling_at-spelling.ensures at c.in-Err.ensures.partly))

pub returns-in-Ok-clause-puts : goal.returns-in-Ok-clause-puts
returns-in-Ok-clause-puts g c =
    let s = c.self.inside in
    let here : after_lines (first_of s.version s.problem.now) s.lines ≡ c.spelling_at-spelling.result = spelled_here s.version s.problem.now s.lines s.state c.self.invariant.kept.replay ∙ sym c.spelling_at-spelling.ensures in
    record { written = rw (← c.self.view_is, here) c.in-Ok.ensures.written; partly = tt; version = search rules }

pub returns-in-Err-clause-puts : goal.returns-in-Err-clause-puts
returns-in-Err-clause-puts g c =
    let s = c.self.inside in
    let here : after_lines (first_of s.version s.problem.now) s.lines ≡ c.spelling_at-spelling.result = spelled_here s.version s.problem.now s.lines s.state c.self.invariant.kept.replay ∙ sym c.spelling_at-spelling.ensures in
    record { written = tt; partly = rw (← c.self.view_is, here) c.in-Err.ensures.partly; version = search rules }

pub returns-in-Ok-clause-id : goal.returns-in-Ok-clause-id
returns-in-Ok-clause-id g c =
    let s = c.self.inside in
    rw (← c.self.view_is) (next_of s.problem.now s.lines s.state c.in-Ok.id c.self.invariant.kept.replay c.in-Ok.ensures.id)

pub returns-in-Err-clause-kept : goal.returns-in-Err-clause-kept
returns-in-Err-clause-kept g c =
    let s = c.self.inside in
    let pushed : c.push_copy.new.self ≡ s.lines ++ c.args.line.now ∷ [] = search rules in
    rw (← c.self.view_is) (c.pop_last.ensures s.lines c.args.line.now pushed)

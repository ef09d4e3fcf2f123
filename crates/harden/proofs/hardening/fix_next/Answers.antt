-- What the next variable adds.
use Rattle.std.proofs.Common.{◌∷◌, [], ◌++◌, List, ap, sym, subst, ◌∙◌}
use Rattle.scut_base.specs.Literal.{Literal}
use Rattle.proof_laws.specs.WellFormed.{IsWellFormed}
use Rattle.proof_laws.specs.declared.line.Line.{Line}
use Rattle.proof_rules.specs.Recording.{MayBeAdded}
use Rattle.harden.proofs.Adding.{adds, fixed_none, fixed_some, formed, legal, passes, room}
use Rattle.harden.proofs.hardening.fix_next.Goals as goal

pub add-requires-clause-formed : goal.add-requires-clause-formed
add-requires-clause-formed g c = subst IsWellFormed (sym c.in_ok-fixing_line.ensures) (formed c.args.occurrences.now (g.O.Recorder.seen c.args.oracle.now) c.args.done c.vars-vars.ensures.problem c.requires.lines c.requires.next c.in-Some.lit (sym c.first_fixed.ensures ∙ c.in-Some.is))

pub add-requires-clause-legal : goal.add-requires-clause-legal
add-requires-clause-legal g c =
    let a = g.O.Recorder.seen c.args.oracle.now in
    subst (MayBeAdded a.problem a.lines) (sym c.in_ok-fixing_line.ensures) (legal c.args.occurrences.now (g.O.Recorder.seen c.args.oracle.now) c.args.done c.vars-vars.ensures.problem c.requires.lines c.requires.next c.in-Some.lit (sym c.first_fixed.ensures ∙ c.in-Some.is))

pub add-requires-clause-few : goal.add-requires-clause-few
add-requires-clause-few g c = room c.args.occurrences.now (g.O.Recorder.seen c.args.oracle.now) c.args.done c.vars-vars.ensures.problem c.requires.lines c.requires.next

pub returns-in_ok-add-clause-lines : goal.returns-in_ok-add-clause-lines
returns-in_ok-add-clause-lines g c =
    let a = g.O.Recorder.seen c.args.oracle.now in
    let b = g.O.Recorder.seen c.add.new.oracle in
    adds c.args.occurrences.now (g.O.Recorder.seen c.args.oracle.now) c.args.done c.vars-vars.ensures.problem c.requires.lines c.requires.next b c.in-Some.lit (sym c.first_fixed.ensures ∙ c.in-Some.is) c.add.ensures.keeps.problem c.in_ok-add.ensures.whole
    (c.in_ok-add.ensures.added ∙ ap (λ (line : Line). a.lines ++ line ∷ []) c.in_ok-fixing_line.ensures)

pub returns-in_ok-add-clause-fixed : goal.returns-in_ok-add-clause-fixed
returns-in_ok-add-clause-fixed g c =
    c.in_ok-push.ensures.ok ∙ ap (λ (ls : List Literal). ls ++ c.in-Some.lit ∷ []) c.requires.fixed ∙ sym (fixed_some c.args.occurrences.now c.args.done c.in-Some.lit (sym c.first_fixed.ensures ∙ c.in-Some.is))

pub returns-in_default-clause-lines : goal.returns-in_default-clause-lines
returns-in_default-clause-lines g c = passes c.args.occurrences.now (g.O.Recorder.seen c.args.oracle.now) c.args.done c.vars-vars.ensures.problem c.requires.lines c.requires.next (sym c.first_fixed.ensures ∙ c.in_default.is)

pub returns-in_default-clause-fixed : goal.returns-in_default-clause-fixed
returns-in_default-clause-fixed g c = c.requires.fixed ∙ sym (fixed_none c.args.occurrences.now c.args.done (sym c.first_fixed.ensures ∙ c.in_default.is))

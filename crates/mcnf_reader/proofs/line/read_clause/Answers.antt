use Rattle.std.proofs.Common.{◌∙◌, sym, ap, ◌≤◌, ◌^◌}
use Rattle.std.proofs.lemmas.List.Elements.{All-push}
use Rattle.std.proofs.lemmas.Result.{err_from_is_err_and}
use Rattle.mcnf_reader.specs.FirstFault.{clause_fault}
use Rattle.scut_base.proofs.Options.{where_none, where_some}
use Rattle.mcnf_reader.proofs.Clauses.{goes_on, ends_clause}
use Rattle.mcnf_reader.proofs.StatementFaults.{clause_after, word_wrong, text_after}
use Rattle.mcnf_reader.proofs.line.read_clause.Goals as goal

pub loop-word-preserved : goal.loop-word-preserved
loop-word-preserved c =
    let found = rw c.in-Some-2.is at c.in_ok-lit.ensures.ok in
    rw c.in_ok-push-in-Some-2.ensures.ok (record {
      within = All-push (λ l. l.var ≤ 2 ^ 24) c.loop-word.lits c.in-Some-2.lit c.loop-word.invariant.within found.1;
      spelled = goes_on c.args.words.now c.loop-word.words c.next.new.self c.in-Some.word.now c.in-Some-2.lit c.loop-word.lits c.in-Some.ensures found.0 c.loop-word.invariant.spelled;
      same = c.loop-word.invariant.same ∙ ap clause_fault c.in-Some.ensures ∙ clause_after c.in-Some.word.now c.next.new.self c.in-Some-2.lit found.0 found.1;
    })

pub returns-in-None-clause-ok : goal.returns-in-None-clause-ok
returns-in-None-clause-ok c =
    let zero = rw c.in-None.is at c.in_ok-lit.ensures.ok in
    let none = where_none c.next-in-None.result _ _ c.next-in-None.ensures (sym c.is_some.ensures ∙ c.if-is_some.false) in
    (ends_clause c.args.words.now c.loop-word.words c.next.new.self c.in-Some.word.now c.loop-word.lits c.in-Some.ensures none.0 zero c.loop-word.invariant.spelled, c.loop-word.invariant.within)

pub returns-in_err-lit-clause-fault : goal.returns-in_err-lit-clause-fault
returns-in_err-lit-clause-fault c =
    let p = err_from_is_err_and c.from_residual.result c.from_residual.ensures.1 in
    rw (p.1, p.2) (word_wrong c.args.words.now c.loop-word.words c.next.new.self c.in-Some.word.now _ c.loop-word.invariant.same c.in-Some.ensures c.in_err-lit.ensures.not_zero c.in_err-lit.ensures.fault)

pub returns-then-is_some-clause-fault : goal.returns-then-is_some-clause-fault
returns-then-is_some-clause-fault c =
    let zero = rw c.in-None.is at c.in_ok-lit.ensures.ok in
    let next = where_some c.next-in-None.result _ _ c.next-in-None.ensures (sym c.is_some.ensures ∙ c.if-is_some.true) in
    text_after c.args.words.now c.loop-word.words c.next.new.self c.next-in-None.new.self c.in-Some.word.now next.0.now c.loop-word.invariant.same c.in-Some.ensures zero next.1

pub returns-clause-fault : goal.returns-clause-fault
returns-clause-fault c = c.loop-word.invariant.same ∙ ap clause_fault c.in_default.ensures.0

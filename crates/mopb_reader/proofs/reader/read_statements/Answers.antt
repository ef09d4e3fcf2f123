use Rattle.std.proofs.Common.{ap, ◌∙◌}
use Rattle.std.proofs.lemmas.Result.{err_from_is_err_and}
use Rattle.mopb_reader.specs.Tokens.{plain, tokens_of}
use Rattle.mopb_reader.specs.Drafts.{progress_of}
use Rattle.mopb_reader.proofs.Places.{took_first}
use Rattle.mopb_reader.proofs.Findings.{fault_along}
use Rattle.mopb_reader.proofs.Drafts.{all_read, none_read, none_faulty, went_on}
use Rattle.mopb_reader.proofs.reader.read_statements.Goals as goal

pub loop-first-preserved : goal.loop-first-preserved
loop-first-preserved c =
    let read = c.in_ok-read_statement.ensures in
    let all = tokens_of c.args.bytes.now in
    record {
      fault = c.loop-first.invariant.fault ∙ took_first c.in-Some.first c.next.new.self c.loop-first.tokens (progress_of c.loop-first.draft)
          c.in-Some.ensures.taken c.in-Some.ensures.last ∙ read.fault;
      draft = read.ok.draft c.loop-first.invariant.draft;
      so_far = read.ok.spelled all (went_on all (plain c.loop-first.tokens.left) _ c.loop-first.draft c.in-Some.ensures.left
          c.loop-first.invariant.so_far);
    }

pub returns-clause-ok : goal.returns-clause-ok
returns-clause-ok c = all_read (tokens_of c.args.bytes.now) (plain c.loop-first.tokens.left) c.loop-first.draft
    (ap plain c.in_default.ensures.taken.0) c.loop-first.invariant.so_far

pub loop-first-init : goal.loop-first-init
loop-first-init c =
    let text = c.args.bytes.now in
    let tokens = c.new-tokens.result in
    let draft = c.new_draft-draft.result in
    record {
      draft = c.new_draft-draft.ensures.draft;
      so_far = none_read (tokens_of text) (plain tokens.left) draft (ap plain c.new-tokens.ensures.left)
          c.new_draft-draft.ensures.objectives c.new_draft-draft.ensures.rows;
      fault = none_faulty text tokens draft c.new-tokens.ensures.left c.new-tokens.ensures.last
          c.new_draft-draft.ensures.objectives c.new_draft-draft.ensures.rows;
    }

pub returns-in_err-read_statement-clause-fault : goal.returns-in_err-read_statement-clause-fault
returns-in_err-read_statement-clause-fault c =
    let q = err_from_is_err_and c.from_residual.result c.from_residual.ensures.1 in
    rw (q.1, q.2) (fault_along _ _ _ (c.loop-first.invariant.fault ∙ took_first c.in-Some.first c.next.new.self c.loop-first.tokens
    (progress_of c.loop-first.draft) c.in-Some.ensures.taken c.in-Some.ensures.last) c.in_err-read_statement.ensures.fault)

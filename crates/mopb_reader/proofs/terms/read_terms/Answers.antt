use Rattle.std.proofs.Common.{◌≡◌, ◌<◌, ◌^◌, ◌∙◌, sym, max, ap, arith}
use Rattle.std.specs.Prelude.{unsigned_abs}
use Rattle.std.proofs.lemmas.Result.{err_from_is_err_and}
use Rattle.mopb_reader.specs.FirstFault.{missing_at}
use Rattle.mopb_reader.specs.Steps.{place_of}
use Rattle.mopb_reader.proofs.Findings.{term_more, term_refused, push_some}
use Rattle.mopb_reader.proofs.Spelling.{more_terms, largest_push, magnitude_push, same_number, taken_fewer}
use Rattle.mopb_reader.proofs.terms.read_terms.Goals as goal

pub loop-limit-preserved : goal.loop-limit-preserved
loop-limit-preserved c =
    let items = c.loop-limit.items in
    let term = c.in_ok-term.term in
    let old = c.loop-limit.tokens in
    let middle = c.read_term.new.tokens in
    let new = c.next-next.new.self in
    let next = c.loop-limit.next in
    let further = c.next-next.result in
    let begins = sym c.begins_term.ensures ∙ c.loop-limit-test.true in
    let none = c.is_product.ensures.none c.if-is_product.false in
    let little : unsigned_abs term.0 < 2 ^ 63 = omega (arith, c.in_ok-term.ensures.within.0) in
    let size : c.unsigned_abs-sum.result ≡ unsigned_abs term.0 = c.unsigned_abs-sum.ensures.value ∙ ap unsigned_abs (same_number term.0 little) in
    let larger : c.max-largest.result ≡ max c.loop-limit.largest c.var.result = c.max-largest.ensures in
    rw c.in_ok-push.ensures.ok (record {
      so_far = more_terms c.args.first next further items term c.args.tokens.now old middle new c.loop-limit.invariant.so_far
          begins none c.in_ok-term.ensures.ok c.next-next.ensures.left;
      none = λ e. absurd (push_some items _ e);
      fault = λ kind p is. term_more kind p _ items term next further old middle new (c.loop-limit.invariant.fault kind p is) begins none
          (c.in_ok-term.ensures.fault kind _ (missing_at (place_of kind items)) p is
          (omega (arith, c.loop-limit.invariant.sum, c.loop-limit.invariant.small)) begins)
          c.next-next.ensures.taken c.next-next.ensures.last;
      fewer = omega (arith, c.loop-limit.invariant.fewer, c.in_ok-term.ensures.fewer, taken_fewer further middle new c.next-next.ensures.left);
      sound = c.next-next.ensures.sound;
      sum = omega (arith, c.loop-limit.invariant.sum, size, magnitude_push items term);
      small = omega (arith, c.loop-limit.invariant.small, size, c.in_ok-term.ensures.within.0);
      largest = omega (arith, c.loop-limit.invariant.largest, larger, c.var.ensures.value, largest_push items term);
      within = omega (arith, c.loop-limit.invariant.within, larger, c.var.ensures.value, c.in_ok-term.ensures.within.1);
    })

pub returns-in_err-term-clause-fault : goal.returns-in_err-term-clause-fault
returns-in_err-term-clause-fault c =
    let q = err_from_is_err_and c.from_residual.result c.from_residual.ensures.1 in
    let items = c.loop-limit.items in
    let begins = sym c.begins_term.ensures ∙ c.loop-limit-test.true in
    rw (q.1, q.2) (λ kind p is. term_refused kind p _ items c.loop-limit.next c.loop-limit.tokens c.read_term.new.tokens _
    (c.loop-limit.invariant.fault kind p is) begins (c.is_product.ensures.none c.if-is_product.false)
    (c.in_err-term.ensures.fault kind _ (missing_at (place_of kind items)) p is
    (omega (arith, c.loop-limit.invariant.sum, c.loop-limit.invariant.small)) begins))

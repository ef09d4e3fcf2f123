use Rattle.std.proofs.Common.{[], ◌∷◌, refl, sym, subst, ◌∙◌}
use Rattle.std.proofs.lemmas.Bool.{false≢true}
use Rattle.proof_lines.specs.Reading.{IsTerm, term_words}
use Rattle.proof_lines.proofs.Codes.{AnyFollows, texts_apart}
use Rattle.proof_lines.proofs.Items.{ItemsSoFar, one_item_more}
use Rattle.proof_lines.proofs.TermLists.{sum_pushed, no_bound, no_term_here, units_begin, wrong_term_here}
use Rattle.proof_lines.proofs.constraint.read_terms.Goals as goal

pub returns-in_default-take_term : goal.returns-in_default-take_term
returns-in_default-take_term c =
    no_term_here c.args.words.now c.loop-words.words c.next.new.self c.in-Some.word.now c.loop-words.terms c.loop-words.invariant.so_far c.in-Some.ensures
    (texts_apart c.in-Some.word.now c.as_slice.result.now (62 ∷ 61 ∷ []) c.eq.result c.eq.ensures c.as_slice.ensures c.if-eq.false)
    c.in_default-take_term.ensures

pub returns-then-not-may_follow : goal.returns-then-not-may_follow
returns-then-not-may_follow c =
    wrong_term_here c.args.words.now c.loop-words.words c.take_term.new.words c.loop-words.terms c.loop-words.last c.loop-words.sum c.in-Some-take_term.term c.loop-words.invariant.so_far c.loop-words.invariant.sum c.in-Some-take_term.ensures.0
    (c.in-Some.ensures ∙ c.in-Some-take_term.ensures.1)
    (λ follows. absurd (false≢true (c.if-not-may_follow.ensures.1 follows)))

pub loop-words-init : goal.loop-words-init
loop-words-init c =
    let begun = units_begin c.args.words.now c.short_units.new.self c.in_ok-units.units c.of_units-terms.result c.in_ok-units.last c.len-sum.result c.of_units-terms.ensures c.len-sum.ensures c.in_ok-units.ensures in
    record { so_far = begun.0; sum = begun.1 }

pub loop-words-preserved : goal.loop-words-preserved
loop-words-preserved c = record {
  so_far = subst (λ ts. ItemsSoFar term_words IsTerm AnyFollows c.args.words.now c.take_term.new.words ts) (sym c.in_ok-push.ensures)
      (one_item_more term_words IsTerm AnyFollows c.args.words.now c.loop-words.words c.take_term.new.words c.loop-words.terms c.in-Some-take_term.term c.loop-words.invariant.so_far c.in-Some-take_term.ensures.0 (c.in-Some.ensures ∙ c.in-Some-take_term.ensures.1) tt);
  sum = sum_pushed c.loop-words.terms c.push.new.self c.loop-words.last c.loop-words.sum c.var-last.result c.in-Some-take_term.term c.in_ok-push.ensures c.var-last.ensures.value c.loop-words.invariant.sum c.in-Some-take_term.ensures.0 (c.if-not-may_follow.ensures.0 refl);
}

pub returns : goal.returns
returns c = no_bound c.args.words.now c.loop-words.words c.loop-words.terms c.loop-words.invariant.so_far (c.loop-words-test.ensures.0 refl)

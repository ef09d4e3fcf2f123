use Rattle.std.proofs.Common.{◌≡◌, ◌+◌, ◌-◌, ◌<◌, ◌++◌, ◌∷◌, [], suc, List, Bool, false, length, take, drop, get_or, replicate, sym, ap, subst, ◌∙◌, arith, rules}
use Rattle.std.proofs.lemmas.List.{drop-set, get_or_read, length-replicate, length-set, take_all}
use Rattle.proof_laws.specs.Steps.{made}
use Rattle.proof_laws.specs.declared.line.Line.{Line}
use Rattle.command_trim.specs.Marks.{AreMarked, made_by, named_if}
use Rattle.command_trim.specs.Trimmed.{is_needed, needed, needed_ids}
use Rattle.command_trim.proofs.Marking.{drop_all, made_by_more, made_by_part, needed_here, needs_here, no_line, none_later, none_needed}
use Rattle.command_trim.proofs.needing.needed.Goals as goal

pub loop-at-init : goal.loop-at-init
loop-at-init c =
    let count = c.ids_made-count.ensures in
    let none : drop (length c.args.lines.now) c.args.lines.now ≡ [] = drop_all c.args.lines.now in
    let marks : c.in_ok-marks.marks ≡ replicate c.ids_made-count.result false = search rules in
    let size : length c.in_ok-needs.needs.items ≡ length c.args.lines.now = search rules in
    let left : drop (length c.args.lines.now) c.in_ok-needs.needs.items ≡ [] = ap (λ k. drop k c.in_ok-needs.needs.items) (sym size) ∙ drop_all c.in_ok-needs.needs.items in
    record {
      bound = omega arith;
      next = omega (arith, count, ap made_by (take_all (length c.args.lines.now) c.args.lines.now (omega arith)));
      size = ap length marks ∙ length-replicate c.ids_made-count.result false ∙ count;
      marks = subst (λ (ls : List Line). AreMarked c.args.rows c.in_ok-marks.marks (needed_ids (c.args.rows + 1 + c.ids_made-count.result) ls)) (sym none)
          (subst (λ (ms : List Bool). AreMarked c.args.rows ms (needed_ids (c.args.rows + 1 + c.ids_made-count.result) [])) (sym marks)
          (none_later c.args.rows (c.args.rows + 1 + c.ids_made-count.result) c.ids_made-count.result));
      count = size;
      needs = left ∙ sym (ap (needed (c.args.rows + 1 + c.ids_made-count.result)) none ∙ none_needed (c.args.rows + 1 + c.ids_made-count.result));
    }

pub overflow_sub-next : goal.overflow_sub-next
overflow_sub-next c =
    let some = c.loop-at-test.true in
    let short : c.loop-at.at - 1 < length c.args.lines.now = (let b = c.loop-at.invariant.bound in omega (arith, some, b)) in
    let here : c.made.result ≡ made (get_or c.args.lines.now (c.loop-at.at - 1) no_line) = c.made.ensures ∙ ap made (get_or_read c.args.lines.now _ _ short c.index-lines-at.is no_line) in
    let more = made_by_more c.args.lines.now (c.loop-at.at - 1) short in
    let next = c.loop-at.invariant.next in
    let at : suc (c.loop-at.at - 1) ≡ c.loop-at.at = omega (arith, some) in
    let same = ap (λ k. made_by (take k c.args.lines.now)) at in
    omega (arith, here, more, next, same)

pub judge-requires-clause-next : goal.judge-requires-clause-next
judge-requires-clause-next c =
    let some = c.loop-at-test.true in
    let short : c.loop-at.at - 1 < length c.args.lines.now = (let b = c.loop-at.invariant.bound in omega (arith, some, b)) in
    let here : c.made.result ≡ made (get_or c.args.lines.now (c.loop-at.at - 1) no_line) = c.made.ensures ∙ ap made (get_or_read c.args.lines.now _ _ short c.index-lines-at.is no_line) in
    let more = made_by_more c.args.lines.now (c.loop-at.at - 1) short in
    let next = c.loop-at.invariant.next in
    let at : suc (c.loop-at.at - 1) ≡ c.loop-at.at = omega (arith, some) in
    let same = ap (λ k. made_by (take k c.args.lines.now)) at in
    omega (arith, here, more, next, same)

pub judge-requires-clause-place : goal.judge-requires-clause-place
judge-requires-clause-place c = λ makes.
    let some = c.loop-at-test.true in
    let short : c.loop-at.at - 1 < length c.args.lines.now = (let b = c.loop-at.invariant.bound in omega (arith, some, b)) in
    let item = ap made (get_or_read c.args.lines.now _ _ short c.index-lines-at.is no_line) in
    let line = ap made (get_or_read c.args.lines.now _ _ short c.index-lines-at-in-loop-at.is no_line) in
    let here = c.made.ensures in
    let more = made_by_more c.args.lines.now (c.loop-at.at - 1) short in
    let next = c.loop-at.invariant.next in
    let size = c.loop-at.invariant.size in
    let at : suc (c.loop-at.at - 1) ≡ c.loop-at.at = omega (arith, some) in
    let same = ap (λ k. made_by (take k c.args.lines.now)) at in
    let part = made_by_part c.args.lines.now c.loop-at.at in
    omega (arith, makes, item, line, here, more, next, same, part, size)

pub loop-at-preserved : goal.loop-at-preserved
loop-at-preserved c =
    let lines = c.args.lines.now in
    let i = c.loop-at.at - 1 in
    let n = c.loop-at.next - c.made.result in
    let some = c.loop-at-test.true in
    let inv = c.loop-at.invariant in
    let bound = inv.bound in
    let short : i < length lines = omega (arith, some, bound) in
    let item : get_or lines i no_line ≡ c.index-lines-at-in-loop-at.result = sym (get_or_read lines _ _ short c.index-lines-at-in-loop-at.is no_line) in
    let here : c.made.result ≡ made (get_or lines i no_line) = c.made.ensures ∙ ap made (get_or_read lines _ _ short c.index-lines-at.is no_line) in
    let more = made_by_more lines i short in
    let next = inv.next in
    let at : suc i ≡ c.loop-at.at = omega (arith, some) in
    let same = ap (λ k. made_by (take k lines)) at in
    let after : n + made (get_or lines i no_line) ≡ c.loop-at.next = omega (arith, here, more, next, same) in
    let rest : drop (suc i) lines ≡ drop c.loop-at.at lines = ap (λ k. drop k lines) at in
    let later = needed_ids (n + made (get_or lines i no_line)) (drop (suc i) lines) in
    let then : later ≡ needed_ids c.loop-at.next (drop c.loop-at.at lines) = ap (λ k. needed_ids k (drop (suc i) lines)) after ∙ ap (needed_ids c.loop-at.next) rest in
    let marked : AreMarked c.args.rows c.loop-at.marks later = subst (AreMarked c.args.rows c.loop-at.marks) (sym then) inv.marks in
    let need = c.in_ok-needs-2.field-0 in
    let is : need ≡ is_needed n (get_or lines i no_line) later = c.in_ok-needs-2.ensures.needed later marked ∙ ap (λ l. is_needed n l later) (sym item) in
    let size = inv.size in
    let kept = c.in_ok-needs-2.ensures.count in
    let count = inv.count in
    record {
      bound = omega (arith, bound);
      next = omega (arith, here, more, next, same);
      size = kept ∙ size;
      marks = subst (AreMarked c.args.rows c.judge.new.marks) (sym (needed_here lines i n short need is ∙ ap (λ l. named_if need l ++ later) item)) (c.in_ok-needs-2.ensures.marked later marked);
      count = length-set c.loop-at.needs.items i need ∙ count;
      needs = drop-set c.loop-at.needs.items i need (omega (arith, short, count)) ∙ ap (λ k. need ∷ drop k c.loop-at.needs.items) (omega (arith, some)) ∙ ap (λ (bs : List Bool). need ∷ bs) inv.needs
          ∙ sym (needs_here lines i n short need is ∙ ap (λ k. need ∷ needed k (drop (suc i) lines)) after ∙ ap (λ ls. need ∷ needed c.loop-at.next ls) rest);
    }

use Rattle.std.proofs.Common.{◌≡◌, ◌+◌, ◌-◌, ◌++◌, List, Bool, true, length, fold, sym, ap, subst, ◌∙◌, arith, rules}
use Rattle.command_trim.specs.Marks.{AreMarked, marked, named_if}
use Rattle.command_trim.specs.Trimmed.{ids_named, is_needed}
use Rattle.command_trim.proofs.Marking.{all_length, mark_these}
use Rattle.command_trim.proofs.needing.judge.Goals as goal

pub returns-in_ok-push_named-clause-needed : goal.returns-in_ok-push_named-clause-needed
returns-in_ok-push_named-clause-needed c = λ later are.
    let next = c.requires.next in
    let place = c.requires.place in
    let same : c.args.rows + 1 + (c.args.next - c.args.rows - 1) ≡ c.args.next = omega (arith, next) in
    let lent : c.as_slice.result.now ≡ c.args.marks.now = c.as_slice.ensures in
    let size = ap length lent in
    c.is_needed-need.ensures c.args.rows later (subst (λ (marks : List Bool). AreMarked c.args.rows marks later) (sym lent) are) (λ some. let most = place some in omega (arith, most, next, size)) ∙ ap (λ n. is_needed n c.args.line.now later) same

pub returns-else-need-clause-needed : goal.returns-else-need-clause-needed
returns-else-need-clause-needed c = λ later are.
    let next = c.requires.next in
    let place = c.requires.place in
    let same : c.args.rows + 1 + (c.args.next - c.args.rows - 1) ≡ c.args.next = omega (arith, next) in
    let lent : c.as_slice.result.now ≡ c.args.marks.now = c.as_slice.ensures in
    let size = ap length lent in
    c.is_needed-need.ensures c.args.rows later (subst (λ (marks : List Bool). AreMarked c.args.rows marks later) (sym lent) are) (λ some. let most = place some in omega (arith, most, next, size)) ∙ ap (λ n. is_needed n c.args.line.now later) same

pub returns-in_ok-push_named-clause-marked : goal.returns-in_ok-push_named-clause-marked
returns-in_ok-push_named-clause-marked c = λ later are.
    let need : c.is_needed-need.result ≡ true = search rules in
    let these : c.mark_all.new.marks ≡ fold (marked c.args.rows) c.args.marks.now (ids_named c.args.line.now) = search rules in
    subst (λ (b : Bool). AreMarked c.args.rows c.mark_all.new.marks (named_if b c.args.line.now ++ later)) (sym need)
    (subst (λ (marks : List Bool). AreMarked c.args.rows marks (ids_named c.args.line.now ++ later)) (sym these)
    (mark_these c.args.rows (ids_named c.args.line.now) c.args.marks.now later are))

pub returns-in_ok-push_named-clause-count : goal.returns-in_ok-push_named-clause-count
returns-in_ok-push_named-clause-count c =
    let these : c.mark_all.new.marks ≡ fold (marked c.args.rows) c.args.marks.now (ids_named c.args.line.now) = search rules in
    ap length these ∙ all_length c.args.rows (ids_named c.args.line.now) c.args.marks.now

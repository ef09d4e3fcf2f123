use Rattle.std.proofs.Common.{◌≡◌, ◌<◌, ℕ, List, length, arith, ap, sym, subst, ◌∙◌}
use Rattle.std.specs.List.{Contains}
use Rattle.std.specs.List.Sorted.{IsPermutation}
use Rattle.std.specs.FinMap.{remove}
use Rattle.std.proofs.lemmas.List.{length-map}
use Rattle.std.proofs.lemmas.List.Sorted.{IsPermutation-sym, Contains-permutation, length_permutation}
use Rattle.std.proofs.lemmas.Result.{on_ok_weaker, on_err_weaker}
use Rattle.scut_base.specs.Literal.{Literal}
use Rattle.scut_base.specs.LiteralCode.{code_of}
use Rattle.pb_lin.specs.Constraint.{literals}
use Rattle.watch_prop.specs.Watching.{IsDistinct, IsKept, lits_of}
use Rattle.watch_prop.proofs.WatchLists.{place_in}
use Rattle.watch_prop.proofs.WatchedLines.{clause_of, literal_upto, literals_distinct}
use Rattle.watch_prop.proofs.WatchKept.{kept_back}
use Rattle.watch_prop.proofs.WatchSlots.{kept_covers}
use Rattle.watch_prop.proofs.WatchHold.{get_removed}
use Rattle.watch_prop.proofs.watches.Watches.take_up.Goals as goal

pub returns-in_err-cover-clause-ready : goal.returns-in_err-cover-clause-ready
returns-in_err-cover-clause-ready c =
    let w = c.args.self.now in
    kept_covers w.slots w.lists.items c.cover.new.lists.items w.ends.items c.args.trail.now.vars (lits_of c.args.trail.now.steps) c.in_err-cover.ensures.same c.in_err-cover.ensures.longer c.requires.ready

pub latest_first-requires-clause-vars : goal.latest_first-requires-clause-vars
latest_first-requires-clause-vars c = λ l h. literal_upto c.args.trail.now.vars c.args.line.now l c.requires.vars (subst (λ x. Contains x l) (c.in_ok-lits.ensures ∙ c.literals.ensures.value) h)

pub watch-requires-clause-long : goal.watch-requires-clause-long
watch-requires-clause-long c =
    let line = c.args.line.now in
    let own : c.in_ok-lits.lits ≡ literals line.terms = c.in_ok-lits.ensures ∙ c.literals.ensures.value in
    let long = (clause_of line c.requires.kind).long in
    let two = length_permutation _ _ c.latest_first.ensures.same in
    omega (arith, long, two, ap length own, length-map line.terms (λ t. t.0))

pub watch-requires-clause-distinct : goal.watch-requires-clause-distinct
watch-requires-clause-distinct c =
    let line = c.args.line.now in
    let own : c.in_ok-lits.lits ≡ literals line.terms = c.in_ok-lits.ensures ∙ c.literals.ensures.value in
    c.latest_first.ensures.distinct (subst IsDistinct (sym own) (literals_distinct line.terms c.literals.ensures.normal.merged))

pub watch-requires-clause-covered : goal.watch-requires-clause-covered
watch-requires-clause-covered c = λ l h.
    let same : IsPermutation c.in_ok-lits.lits c.latest_first.new.clause = c.latest_first.ensures.same in
    let (k, below, at) = place_in c.in_ok-lits.lits l (Contains-permutation _ _ l (IsPermutation-sym _ _ same) h) in
    subst (λ (m : Literal). code_of m < length c.cover.new.lists.items) at (c.in_ok-cover.ensures.covered k below)

pub returns-clause-ready : goal.returns-clause-ready
returns-clause-ready c =
    let w = c.args.self.now in
    let t = c.args.trail.now in
    let trail = lits_of t.steps in
    let line = c.args.line.now in
    let own : c.in_ok-lits.lits ≡ literals line.terms = c.in_ok-lits.ensures ∙ c.literals.ensures.value in
    let same : IsPermutation c.in_ok-lits.lits c.latest_first.new.clause = c.latest_first.ensures.same in
    let ends = c.latest_first.new.ends.items in
    let back : IsKept w.slots w.lists.items ends t.vars trail = subst (λ (es : List ℕ). IsKept w.slots w.lists.items es t.vars trail) (sym c.latest_first.ensures.front) (kept_back w.slots w.lists.items w.ends.items t.vars trail (length ends) c.requires.ready c.latest_first.ensures.len) in
    c.watch.ensures.ready t (kept_covers w.slots w.lists.items c.cover.new.lists.items ends t.vars trail c.in_ok-cover.ensures.same c.in_ok-cover.ensures.longer back) (record {
      upto = λ l h. literal_upto t.vars line l c.requires.vars (subst (λ x. Contains x l) own (Contains-permutation _ _ l (IsPermutation-sym _ _ same) h));
      clear = c.latest_first.ensures.clear;
    })

pub returns-clause-ok : goal.returns-clause-ok
returns-clause-ok c =
    let line = c.args.line.now in
    let own : c.in_ok-lits.lits ≡ literals line.terms = c.in_ok-lits.ensures ∙ c.literals.ensures.value in
    let same : IsPermutation c.in_ok-lits.lits c.latest_first.new.clause = c.latest_first.ensures.same in
    on_ok_weaker c.watch.result (λ f lines there hold. f lines line (record {
      there = there;
      kind = c.requires.kind;
      merged = c.literals.ensures.normal.merged;
      same = subst (λ x. IsPermutation x c.latest_first.new.clause) own same;
    }) hold) c.watch.ensures.ok

pub returns-clause-err : goal.returns-clause-err
returns-clause-err c = on_err_weaker c.watch.result (λ f lines hold. f (remove lines c.args.id) (get_removed lines c.args.id) hold) c.watch.ensures.err

pub latest_first-requires-clause-long : goal.latest_first-requires-clause-long
latest_first-requires-clause-long c =
    let line = c.args.line.now in
    let own : c.in_ok-lits.lits ≡ literals line.terms = c.in_ok-lits.ensures ∙ c.literals.ensures.value in
    let long = (clause_of line c.requires.kind).long in
    omega (arith, long, ap length own, length-map line.terms (λ t. t.0))

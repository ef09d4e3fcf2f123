use Rattle.std.proofs.Common.{◌≡◌, ◌<◌, ◌≤◌, ℕ, List, [], get_or, length, arith, ap, sym, subst, ◌∙◌}
use Rattle.scut_base.specs.LiteralCode.{code_of}
use Rattle.std.specs.List.{Contains}
use Rattle.std.proofs.lemmas.List.{get_or_read}
use Rattle.watch_prop.specs.declared.watch_lists.Entry.{Entry}
use Rattle.watch_prop.specs.Watching.{list_of, lits_of, no_entry}
use Rattle.watch_prop.proofs.WatchKept.{looking_skip}
use Rattle.watch_prop.proofs.watches.Watches.skip.Goals as goal

pub skip_true-requires : goal.skip_true-requires
skip_true-requires c = λ k below.
    let w = c.args.self.now in
    let within : c.literal_code-code.result < length w.lists.items = (let h = c.if-code-len.true in let e = c.len.ensures in omega (arith, h, e, w.lists.ok.0)) in
    let is : c.index.result.now ≡ list_of w.lists.items c.args.lit = get_or_read w.lists.items c.literal_code-code.result c.index.result.now within c.index.ensures [] ∙ ap (λ (i : ℕ). get_or w.lists.items i []) c.literal_code-code.ensures in
    subst (λ (es : List Entry). (get_or es k no_entry).blocker.var ≤ c.args.trail.now.vars) (sym is) (c.requires.looking.kept.entries (code_of c.args.lit) k (subst (λ (es : List Entry). k < length es) is below)).upto

pub returns-then-code-len-clause-looking : goal.returns-then-code-len-clause-looking
returns-then-code-len-clause-looking c =
    let w = c.args.self.now in
    let t = c.args.trail.now in
    let within : c.literal_code-code.result < length w.lists.items = (let h = c.if-code-len.true in let e = c.len.ensures in omega (arith, h, e, w.lists.ok.0)) in
    let is : c.index.result.now ≡ list_of w.lists.items c.args.lit = get_or_read w.lists.items c.literal_code-code.result c.index.result.now within c.index.ensures [] ∙ ap (λ (i : ℕ). get_or w.lists.items i []) c.literal_code-code.ensures in
    looking_skip w.slots w.lists.items w.ends.items t.vars (lits_of t.steps) c.args.lit c.args.at c.skip_true.result c.requires.looking (λ k from below. subst (λ (es : List Entry). (k < length es) × Contains (lits_of t.steps) (get_or es k no_entry).blocker) is (c.skip_true.ensures.held k from below))

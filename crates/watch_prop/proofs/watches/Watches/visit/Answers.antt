use Rattle.std.proofs.Common.{ℕ, [], refl, get_or, ap, sym, subst, ◌∙◌}
use Rattle.scut_base.specs.LiteralCode.{code_of}
use Rattle.std.proofs.lemmas.Result.{on_err_weaker}
use Rattle.watch_prop.specs.declared.watch_lists.Entry.{Entry}
use Rattle.watch_prop.specs.Watching.{IsEntry, IsRemoved, lits_of}
use Rattle.watch_prop.proofs.WatchKept.{looking_removed}
use Rattle.watch_prop.proofs.WatchVisits.{followed_same, followed_twice, if_ok_weaker, second_put, visited_after}
use Rattle.watch_prop.proofs.watches.Watches.visit.Goals as goal

pub lits-requires : goal.lits-requires
lits-requires c =
    let w = c.args.self.now in
    let n = c.args.trail.now.vars in
    let code = code_of c.args.lit in
    let e : IsEntry w.slots n code c.entry-entry.result = subst (IsEntry w.slots n code) (sym c.entry-entry.ensures) (c.requires.looking.kept.entries code c.args.at c.requires.within) in
    e.there

pub read-requires-clause-looking : goal.read-requires-clause-looking
read-requires-clause-looking c =
    let w = c.args.self.now in
    let t = c.args.trail.now in
    (second_put w.slots c.put_second.new.slots w.lists.items w.ends.items w.index t.vars (lits_of t.steps) c.args.lit c.args.at c.entry-entry.result.slot c.requires.looking c.put_second.ensures.slots).0

pub returns-then-put_second-clause-ok : goal.returns-then-put_second-clause-ok
returns-then-put_second-clause-ok c =
    let w = c.args.self.now in
    let t = c.args.trail.now in
    let put = second_put w.slots c.put_second.new.slots w.lists.items w.ends.items w.index t.vars (lits_of t.steps) c.args.lit c.args.at c.entry-entry.result.slot c.requires.looking c.put_second.ensures.slots in
    if_ok_weaker c.read.result (λ visit v. visited_after w _ c.read.new.self t c.read.new.trail c.args.lit c.args.at visit refl refl put.2 v) c.read.ensures.ok

pub returns-then-put_second-clause-err : goal.returns-then-put_second-clause-err
returns-then-put_second-clause-err c =
    let w = c.args.self.now in
    let t = c.args.trail.now in
    let put = second_put w.slots c.put_second.new.slots w.lists.items w.ends.items w.index t.vars (lits_of t.steps) c.args.lit c.args.at c.entry-entry.result.slot c.requires.looking c.put_second.ensures.slots in
    on_err_weaker c.read.result (λ e. (e.0, followed_twice w _ c.read.new.self t t c.read.new.trail (followed_same w _ t put.2) e.1)) c.read.ensures.err

pub returns-else-put_second-clause-ok : goal.returns-else-put_second-clause-ok
returns-else-put_second-clause-ok c =
    let w = c.args.self.now in
    let t = c.args.trail.now in
    let lit = c.args.lit in
    let entry = c.entry-entry.result in
    let put = second_put w.slots c.put_second.new.slots w.lists.items w.ends.items w.index t.vars (lits_of t.steps) lit c.args.at entry.slot c.requires.looking c.put_second.ensures.slots in
    let removed : IsRemoved (get_or w.lists.items (code_of lit) []) (get_or c.drop_entry.new.lists.items (code_of lit) []) c.args.at = subst (λ (i : ℕ). IsRemoved (get_or w.lists.items i []) (get_or c.drop_entry.new.lists.items i []) c.args.at) c.literal_code.ensures c.drop_entry.ensures.removed in
    record {
      looking = looking_removed c.put_second.new.slots w.lists.items c.drop_entry.new.lists.items w.ends.items t.vars (lits_of t.steps) lit c.args.at entry.slot put.0 c.requires.within (ap (λ (x : Entry). x.slot) (sym c.entry-entry.ensures)) (c.put_second.ensures.lost c.if-put_second.false) (λ k n. c.drop_entry.ensures.others k (λ f. n (f ∙ c.literal_code.ensures))) removed c.drop_entry.ensures.len;
      left = sym removed.len;
      ends = refl;
      followed = followed_same w _ t put.2;
      rightly = tt;
    }

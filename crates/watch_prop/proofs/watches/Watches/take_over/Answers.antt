use Rattle.std.proofs.Common.{◌≡◌, ◌<◌, ◌≤◌, ℕ, List, length, get_or, arith, ap, sym, subst, ◌∙◌}
use Rattle.std.specs.FinMap.{remove}
use Rattle.std.specs.List.{Contains}
use Rattle.std.proofs.lemmas.Result.{on_ok_weaker}
use Rattle.scut_base.specs.Literal.{Literal}
use Rattle.scut_base.specs.LiteralCode.{code_of}
use Rattle.watch_prop.specs.Watching.{clause_at, lits_of, no_slot}
use Rattle.watch_prop.specs.Watches.{IsCopy, Hold}
use Rattle.watch_prop.proofs.WatchLists.{place_in}
use Rattle.watch_prop.proofs.WatchSlots.{kept_covers}
use Rattle.watch_prop.proofs.WatchTaken.{taken_more, taken_past}
use Rattle.watch_prop.proofs.watches.Watches.take_over.Goals as goal

pub returns-then-not-begins-clause-taken : goal.returns-then-not-begins-clause-taken
returns-then-not-begins-clause-taken c = λ lines hold taken.
    taken_past c.args.self.now c.args.others.now lines c.args.slot hold (omega (arith, ap length (c.begins.ensures.none c.if-not-begins.true))) taken

pub returns-then-len-lt2-clause-taken : goal.returns-then-len-lt2-clause-taken
returns-then-len-lt2-clause-taken c = λ lines hold taken.
    let own : c.in_ok-lits.lits ≡ clause_at c.args.others.now.slots c.args.slot = c.in_ok-lits.ensures ∙ c.lits.ensures in
    taken_past c.args.self.now c.args.others.now lines c.args.slot hold (omega (arith, c.if-len-lt2.true, c.len.ensures, ap length own)) taken

pub returns-in_err-cover-clause-ready : goal.returns-in_err-cover-clause-ready
returns-in_err-cover-clause-ready c =
    let w = c.args.self.now in
    let t = c.args.trail.now in
    kept_covers w.slots w.lists.items c.cover.new.lists.items w.ends.items t.vars (lits_of t.steps) c.in_err-cover.ensures.same c.in_err-cover.ensures.longer c.requires.ready

pub watch-requires-clause-covered : goal.watch-requires-clause-covered
watch-requires-clause-covered c = λ l h.
    let (k, below, at) = place_in c.in_ok-lits.lits l h in
    subst (λ (m : Literal). code_of m < length c.cover.new.lists.items) at (c.in_ok-cover.ensures.covered k below)

pub returns-clause-ready : goal.returns-clause-ready
returns-clause-ready c =
    let w = c.args.self.now in
    let t = c.args.trail.now in
    let slot = c.args.slot in
    let own : c.in_ok-lits.lits ≡ clause_at c.args.others.now.slots slot = c.in_ok-lits.ensures ∙ c.lits.ensures in
    c.watch.ensures.ready t (kept_covers w.slots w.lists.items c.cover.new.lists.items w.ends.items t.vars (lits_of t.steps) c.in_ok-cover.ensures.same c.in_ok-cover.ensures.longer c.requires.ready) (record {
      upto = λ l h. c.requires.others.upto slot l (subst (λ (ls : List Literal). Contains ls l) own h);
      clear = λ k p _ h. absurd (omega (arith, h, ap length c.requires.none));
    })

pub returns-clause-taken : goal.returns-clause-taken
returns-clause-taken c =
    let w = c.args.self.now in
    let others = c.args.others.now in
    let slot = c.args.slot in
    let own : c.in_ok-lits.lits ≡ clause_at others.slots slot = c.in_ok-lits.ensures ∙ c.lits.ensures in
    let id : c.id.result ≡ (get_or others.slots slot no_slot).id = c.id.ensures in
    let long : 2 ≤ length (clause_at others.slots slot) = omega (arith, c.if-len-lt2.false, c.len.ensures, ap length own) in
    on_ok_weaker c.watch.result (λ f lines hold taken. taken_more w c.watch.new.self others lines slot hold long taken (λ part line copy held.
    f part line (subst (λ (i : ℕ). IsCopy part i line c.in_ok-lits.lits) (sym id) (subst (IsCopy part (get_or others.slots slot no_slot).id line) (sym own) copy)) (subst (λ (i : ℕ). Hold w (remove part i)) (sym id) held))) c.watch.ensures.ok

use Rattle.std.proofs.Common.{◌≡◌, ◌++◌, ◌∷◌, ℕ, [], refl, get_or, set, ap, subst, sym, ◌∙◌, arith}
use Rattle.std.specs.List.{swap}
use Rattle.std.proofs.lemmas.List.Sorted.{IsPermutation-swap}
use Rattle.scut_base.specs.Literal.{Literal}
use Rattle.scut_base.specs.LiteralCode.{code_of}
use Rattle.watch_prop.specs.declared.watch_lists.Entry.{Entry}
use Rattle.watch_prop.specs.Slot.{Slot}
use Rattle.watch_prop.specs.Watching.{IsEntry, IsKept, IsRemoved, clause_at, lits_of, no_literal, with_lits}
use Rattle.watch_prop.proofs.WatchKept.{entry_by, replaced}
use Rattle.watch_prop.proofs.WatchHold.{hold_reordered}
use Rattle.watch_prop.proofs.WatchVisits.{followed_same, on_err}
use Rattle.watch_prop.proofs.watches.Watches.replace.Goals as goal

pub add_entry-requires : goal.add_entry-requires
add_entry-requires c =
    let covered = c.requires.looking.kept.covered c.args.slot c.literal-free.result c.literal-free.ensures.among in
    omega (arith, covered, c.code.ensures)

pub returns-clause-ok : goal.returns-clause-ok
returns-clause-ok c =
    let w = c.args.self.now in
    let t = c.args.trail.now in
    let slot = c.args.slot in
    let own = w.slots in
    let lists = w.lists.items in
    let looking = c.requires.looking in
    let clause = clause_at own slot in
    let e : Entry = record { slot = slot; blocker = c.literal-first.result } in
    let s : Slot = with_lits own slot (swap clause 1 c.args.place) in
    let l : Literal = get_or clause c.args.place no_literal in
    let code_is : c.code.result ≡ code_of l = c.code.ensures ∙ ap code_of c.literal-free.ensures.value in
    let within = c.requires.free in
    let valid : IsEntry own t.vars (code_of l) e = entry_by own t.vars slot c.args.place c.literal-first.result l c.requires.slot (omega (arith, within.0, within.1)) (looking.kept.distinct slot) c.literal-first.ensures.value refl (looking.kept.upto slot _ c.literal-first.ensures.among) (omega (arith, within.0)) within.1 in
    let is_2 = c.in_ok-add_entry.ensures.ok ∙ ap (λ (i : ℕ). set lists i (get_or lists i [] ++ e ∷ [])) code_is in
    let removed : IsRemoved (get_or c.add_entry.new.lists.items (code_of c.args.lit) []) (get_or c.drop_entry.new.lists.items (code_of c.args.lit) []) c.args.at = subst (λ (i : ℕ). IsRemoved (get_or c.add_entry.new.lists.items i []) (get_or c.drop_entry.new.lists.items i []) c.args.at) c.literal_code.ensures c.drop_entry.ensures.removed in
    let done = replaced own c.swap.new.self lists c.add_entry.new.lists.items c.drop_entry.new.lists.items w.ends.items t.vars (lits_of t.steps) c.args.lit c.args.at slot c.args.place s e looking c.requires.within c.requires.entry c.requires.second c.requires.free refl valid is_2 refl c.swap.ensures refl (λ k n. c.drop_entry.ensures.others k (λ f. n (f ∙ c.literal_code.ensures))) removed c.drop_entry.ensures.len in
    record {
      looking = done.0;
      left = done.1;
      ends = refl;
      followed = followed_same w _ t (λ lines h. hold_reordered own c.swap.new.self w.index lines slot s c.swap.ensures h refl (IsPermutation-swap clause s.lits 1 c.args.place (omega (arith, within.0, within.1)) within.1 refl));
      rightly = tt;
    }

pub returns-in_err-add_entry-clause-err : goal.returns-in_err-add_entry-clause-err
returns-in_err-add_entry-clause-err c =
    let w = c.args.self.now in
    let t = c.args.trail.now in
    let ready : IsKept w.slots c.add_entry.new.lists.items w.ends.items t.vars (lits_of t.steps) = subst (λ ls. IsKept w.slots ls w.ends.items t.vars (lits_of t.steps)) (sym c.in_err-add_entry.ensures.err) c.requires.looking.kept in
    on_err (ready, followed_same w _ t (λ lines h. h)) c.from_residual.result

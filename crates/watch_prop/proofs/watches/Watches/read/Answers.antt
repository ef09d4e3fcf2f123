use Rattle.std.proofs.Common.{◌≡◌, ◌+◌, ℕ, List, [], Some, true, refl, get_or, length, set, ap, sym, subst, arith, ◌∙◌}
use Rattle.std.specs.Prelude.{IfNone}
use Rattle.scut_base.specs.LiteralCode.{code_of}
use Rattle.pb_lin.specs.Constraint.{opposite}
use Rattle.watch_prop.specs.declared.watch_lists.Entry.{Entry}
use Rattle.watch_prop.specs.Watching.{AreFalse, AreOthersFalse, IsEntry, IsLooking, IsValue, clause_at, list_of, lits_of}
use Rattle.watch_prop.proofs.WatchLists.{contains_at}
use Rattle.watch_prop.proofs.WatchKept.{entry_by, looking_next, looking_blocker, length_blocker}
use Rattle.watch_prop.proofs.WatchSteps.{others_of_first}
use Rattle.watch_prop.proofs.WatchVisits.{followed_same}
use Rattle.watch_prop.proofs.watches.Watches.read.Goals as goal

pub truth-requires : goal.truth-requires
truth-requires c = c.requires.looking.kept.upto c.args.slot _ c.literal-first.ensures.among

pub returns-in-Some-true-clause-ok : goal.returns-in-Some-true-clause-ok
returns-in-Some-true-clause-ok c =
    let w = c.args.self.now in
    let t = c.args.trail.now in
    let lit = c.args.lit in
    let slot = c.args.slot in
    let own = w.slots in
    let lists = w.lists.items in
    let ends = w.ends.items in
    let trail = lits_of t.steps in
    let first = c.literal-first.result in
    let looking = c.requires.looking in
    let value : IsValue trail first (Some true) = subst (IsValue trail first) (c.in-Some-true.is ∙ ap Some c.in-Some-true.field-0-test) c.truth.ensures.told in
    let e : Entry = record { slot = slot; blocker = first } in
    let valid : IsEntry own t.vars (code_of lit) e = entry_by own t.vars slot 1 first lit c.requires.slot c.requires.long (looking.kept.distinct slot) c.literal-first.ensures.value c.requires.second (looking.kept.upto slot first c.literal-first.ensures.among) (omega arith) (omega (arith, c.requires.long)) in
    let next = looking_next own lists ends t.vars trail lit c.args.at slot looking c.requires.entry (λ _. (first, c.literal-first.ensures.among, value.0)) in
    let done = looking_blocker own lists ends t.vars trail lit c.args.at (c.args.at + 1) e next c.requires.within (sym c.requires.entry) valid in
    let is : c.set_entry.new.lists.items ≡ set lists (code_of lit) (set (list_of lists lit) c.args.at e) = c.set_entry.ensures ∙ ap (λ (i : ℕ). set lists i (set (get_or lists i []) c.args.at e)) c.literal_code.ensures in
    record {
      looking = subst (λ (ls : List (List Entry)). IsLooking own ls ends t.vars trail lit (c.args.at + 1)) (sym is) done;
      left = sym (ap (λ (ls : List (List Entry)). length (list_of ls lit)) is ∙ length_blocker lists (code_of lit) c.args.at e);
      ends = refl;
      followed = followed_same w _ t (λ lines h. h);
      rightly = tt;
    }

pub force-requires-clause-others : goal.force-requires-clause-others
force-requires-clause-others c =
    let w = c.args.self.now in
    let clause = clause_at w.slots c.args.slot in
    let trail = lits_of c.args.trail.now.steps in
    let looking = c.requires.looking in
    let others : AreFalse clause trail 2 = subst (λ o. IfNone o (AreFalse clause trail 2)) c.in-None.is c.free_place.ensures.none in
    subst (AreOthersFalse clause trail) (sym c.literal-first.ensures.value) (others_of_first clause trail c.args.lit c.requires.long c.requires.second (contains_at trail (length w.ends.items) (opposite c.args.lit) looking.more looking.here) others)

pub free_place-requires-clause-vars : goal.free_place-requires-clause-vars
free_place-requires-clause-vars c = λ l h. c.requires.looking.kept.upto c.args.slot l h
